use Rattle.std.proofs.Common.{refl}
use Rattle.step.proofs.Calculating.{calculate_turns_beside}
use Rattle.step.proofs.Beside.{mails_put}
use Rattle.step.proofs.Stepping.{with_process_in, steps_35, steps_36, steps_calculated_beside, steps_taken_beside, steps_sent_beside}
use Rattle.step.proofs.step.step.Goals as goal

pub returns-in-Halted-clause-steps : goal.returns-in-Halted-clause-steps
returns-in-Halted-clause-steps c =
    let s = c.args in
    let p = c.index-p in
    let j = c.fetch_at-i in
    let x = c.examine in
    let small = p.ensures.0 in
    let is-start = c.start.ensures small in
    steps_35 s.table.now s.plan.now s.store.now p.result s.a p.ensures.1 _
    j.result (rw (← is-start) j.ensures)
    (record { seen = x.result; examined = rw (← c.length.ensures small) x.ensures; is = c.in-Halted.is }) c.refused_for.ensures

pub returns-in-NoMail-clause-steps : goal.returns-in-NoMail-clause-steps
returns-in-NoMail-clause-steps c =
    let s = c.args in
    let p = c.index-p in
    let j = c.fetch_at-i in
    let x = c.examine in
    let small = p.ensures.0 in
    let is-start = c.start.ensures small in
    steps_36 s.table.now s.plan.now s.store.now p.result s.a p.ensures.1 _
    j.result (rw (← is-start) j.ensures)
    (record { seen = x.result; examined = rw (← c.length.ensures small) x.ensures; is = c.in-NoMail.is }) (rw (← c.missing.ensures) c.refused_for-in-NoMail.ensures)

pub returns-in-Internal-clause-steps : goal.returns-in-Internal-clause-steps
returns-in-Internal-clause-steps c =
    let s = c.args in
    let p = c.index-p in
    let j = c.fetch_at-i in
    let x = c.examine in
    let small = p.ensures.0 in
    let is-start = c.start.ensures small in
    let x' = c.calculate.new.x in
    steps_calculated_beside s.table.now s.plan.now s.store.now p.result s.a p.ensures.1 _
    j.result (rw (← is-start) j.ensures) (with_process_in s.store.now p.result x')
    (mails_put s.store.now p.result x' s.store.now.totals c.calculate.ensures.lists_stay.mail-stays) refl refl
    (record { seen = x.result; examined = rw (← c.length.ensures small) x.ensures; is = c.in-Internal.is })
    (calculate_turns_beside s.store.now p.result s.a p.ensures.1 _ _ _ _ x' c.calculate.ensures.calculates)

pub returns-in-Take-clause-steps : goal.returns-in-Take-clause-steps
returns-in-Take-clause-steps c =
    let s = c.args in
    let p = c.index-p in
    let j = c.fetch_at-i in
    let x = c.examine in
    let small = p.ensures.0 in
    let is-start = c.start.ensures small in
    steps_taken_beside s.table.now s.plan.now s.store.now p.result s.a p.ensures.1 _
    j.result (rw (← is-start) j.ensures) c.take.new.store
    c.limit-limit.result (c.limit-limit.ensures small) c.take.ensures.queues_stay c.in-Take.at (record { seen = x.result; examined = rw (← c.length.ensures small) x.ensures; is = c.in-Take.is }) c.take.ensures.takes

pub returns-in-Send-clause-steps : goal.returns-in-Send-clause-steps
returns-in-Send-clause-steps c =
    let s = c.args in
    let p = c.index-p in
    let j = c.fetch_at-i in
    let x = c.examine in
    let small = p.ensures.0 in
    let is-start = c.start.ensures small in
    steps_sent_beside s.table.now s.plan.now s.store.now p.result s.a p.ensures.1 _
    j.result (rw (← is-start) j.ensures) c.send.new.store
    c.limit-limit.result (c.limit-limit.ensures small) c.send.ensures.mails_stay c.in-Send.channel c.in-Send.word (record { seen = x.result; examined = rw (← c.length.ensures small) x.ensures; is = c.in-Send.is }) c.send.ensures.sends
