-- The session's loop: what holds between two rounds, and that each round keeps it.
use mathlib.Core.Path.{◌≡◌, refl, ap, sym, ◌∙◌, subst, subst₂}
use mathlib.Core.Bool.{true, false}
use mathlib.Core.List.{List, [], ◌∷◌, ◌++◌}
use Prim.Native.Nat.{ℕ, zero, suc, ◌+◌, ◌-◌, ◌≤◌, ◌<◌, min}
use native.Mathlib.Omega.{arith}
use lib.ListN.{length, get_or, take, replicate, length-replicate}
use lib.Seq.{take-suc, length-take-le}
use borrow.Author.Tests.{ne_eqb, lt-ltb, le-ltb}
use Rattle.facts.specs.Tests.{no_way, by_lt, or_left, or_right}
use Rattle.records.specs.Commands.{command_of}
use Rattle.records.specs.declared.schedule.Command as code
use Rattle.rules.specs.Sizes.{kept_most}
use Rattle.rules.specs.Table.{Table}
use Rattle.rules.specs.Cabinet.{started}
use Rattle.rules.specs.Moves.{Command, no_origin}
use Rattle.rules.specs.Undo.{is_undo, any_undo}
use Rattle.rules.specs.Schedule.{command, commands_in, decode_schedule}
use Rattle.rules.proofs.Undo.{many_kept}
use Rattle.plan.specs.Plan.{Plan}
use Rattle.state.specs.declared.entry.Entry.{Entry}
use Rattle.state.specs.declared.moved.Answer.{Answer}
use Rattle.state.specs.declared.store.Store.{Store}
use Rattle.stretch.specs.declared.stretch.Stretch.{Stretch}
use Rattle.stretch.specs.Plays.{Sheets, Roomy, AsLong, Writes, between, Suited, Plays}
use Rattle.stretch.proofs.Sheets.{as_long, still_long}
use Rattle.rules.proofs.Scheduled.{commands-counted}
use Rattle.stretch.proofs.Playing.{between-length, between-parts, between_all, between_one, any_undo-parts}
use Rattle.undo.specs.History.{held_most, history_length, held_in, Fitting, Remembers}
use Rattle.undo.specs.Replays.{Replays, Follows}
use Rattle.undo.specs.Sessions.{undo_answer_of, Sessions}
use Rattle.undo.proofs.Remembering.{whole_history}
use Rattle.undo.proofs.Hand.{InHand, hand_first, seven_kept, now_suited, hand_forward, hand_refused, hand_undone, hand_followed}

-- the first i records of a schedule are done
pub record Going (l : Plan) (schedule : List ℕ) (s₀ : Store) (entries₀ : List Entry) (before : Sheets) (s : Store) (entries : List Entry) (b : Store)
    (at_base : List Entry) (history : List ℕ) (held kept i : ℕ) (sheets : Sheets) : Type 0 where
  pub there : i ≤ commands_in schedule
  pub room : held ≤ held_most
  pub enough : kept ≤ held
  pub few : kept ≤ kept_most
  pub whole : length history ≡ history_length
  pub no_undo : any_undo (held_in history held) ≡ false
  pub long : AsLong before sheets
  pub in_hand : (t : Table) → Suited t l (started t) s₀ entries₀
      → InHand t l (between schedule 0 i) s entries b at_base (held_in history held) kept before sheets

pub going_first : (l : Plan) (schedule : List ℕ) (s : Store) (entries : List Entry) (sheets : Sheets)
    → Going l schedule s entries sheets s entries s entries (replicate history_length 0) 0 0 0 sheets
going_first l schedule s entries sheets = record {
  there = omega arith;
  room = omega arith;
  enough = omega arith;
  few = omega arith;
  whole = length-replicate {A = ℕ} history_length 0;
  no_undo = refl;
  long = as_long sheets;
  in_hand = λ t u. hand_first sheets u;
}

-- at the end all records are done
pub going_last : {l : Plan} {schedule : List ℕ} {s₀ : Store} {entries₀ : List Entry} {before : Sheets} {s : Store} {entries : List Entry} {b : Store}
    {at_base : List Entry} {history : List ℕ} {held kept i : ℕ} {sheets : Sheets}
    → Going l schedule s₀ entries₀ before s entries b at_base history held kept i sheets → commands_in schedule ≤ i
    → Sessions l schedule s₀ entries₀ before s entries sheets
going_last {schedule = schedule} {i = i} g over =
    let all : i ≡ commands_in schedule = (let a = g.there in omega arith) in
    let done : between schedule 0 i ≡ decode_schedule schedule = ap (between schedule 0) all ∙ between_all schedule in
    record { shown = λ t u. rw done at (g.in_hand t u).shown }

-- buffers as long as those with room for n records have room for fewer
pub room_less : {n m : ℕ} {before sheets : Sheets} → Roomy n before → AsLong before sheets → m ≤ n → Roomy m sheets
room_less room long few = record {
  answers-room = (let a = room.answers-room in let b = long.answers-long in omega arith);
  reasons-room = (let a = room.reasons-room in let b = long.reasons-long in omega arith);
  origins-room = (let a = room.origins-room in let b = long.origins-long in omega arith);
}

-- how many are kept after n records more: all, but no more than 64
many_kept_is : (k n : ℕ) → k ≤ kept_most → many_kept k n ≡ min (k + n) kept_most
many_kept_is k zero h = omega arith
many_kept_is k (suc n) h =
    by_lt k kept_most
    (λ few. rw (lt-ltb k kept_most few) (let a = many_kept_is (suc k) n (omega arith) in omega arith))
    (λ many. rw (le-ltb k kept_most many) (let a = many_kept_is kept_most n (omega arith) in omega arith))

-- records that are held, but for the last
held_less : (history : List ℕ) (n : ℕ) → length history ≡ history_length → n ≤ held_most → 0 < n
    → held_in history n ≡ held_in history (n - 1) ++ (get_or (decode_schedule history) (n - 1) (command 0 0 0) ∷ [])
held_less history n whole few some =
    let a = commands-counted history in
    let b = whole_history history whole in
    let one_less_lem : n ≡ suc (n - 1) = omega arith in
    ap (λ (m : ℕ). take m (decode_schedule history)) one_less_lem ∙ take-suc (decode_schedule history) (n - 1) (command 0 0 0) (omega arith)

held-long : (history : List ℕ) (n : ℕ) → length history ≡ history_length → n ≤ held_most → length (held_in history n) ≡ n
held-long history n whole few =
    let a = commands-counted history in
    let b = whole_history history whole in
    length-take-le n (decode_schedule history) (omega arith)

module _ {l : Plan} {schedule : List ℕ} {s₀ : Store} {entries₀ : List Entry} {before : Sheets} {s : Store} {entries : List Entry} {b : Store}
    {at_base : List Entry} {history : List ℕ} {held kept i : ℕ} {sheets : Sheets}
    (g : Going l schedule s₀ entries₀ before s entries b at_base history held kept i sheets) where
  -- ---- a round: c is the record's command

  module _ (c : code.Command) (is_c : command_of c ≡ get_or (decode_schedule schedule) i (command 0 0 0)) (below : i < commands_in schedule) where
    with_it : between schedule 0 i ++ (command_of c ∷ []) ≡ between schedule 0 (i + 1)
    with_it =
        sym (between-parts schedule 0 i (i + 1) (omega arith) (omega arith)
        ∙ ap (λ (m : List Command). between schedule 0 i ++ m) (between_one schedule i below ∙ ap (λ (y : Command). y ∷ []) (sym is_c)))

    so_many : i ≡ length (between schedule 0 i)
    so_many = let a = between-length schedule 0 i g.there in omega arith

    module _ (is-undo : c.mv ≡ 8) (small : c.a < 256) {x : Answer} (is_x : x ≡ undo_answer_of c kept) {sheets' : Sheets} (w : Writes sheets i x no_origin sheets') where
      -- a move 8 that is refused
      pub going_refused : (x.code ≡ 7 → ⊥) → Going l schedule s₀ entries₀ before s entries b at_base history held kept (i + 1) sheets'
      going_refused other = record {
        there = omega arith;
        room = g.room;
        enough = g.enough;
        few = g.few;
        whole = g.whole;
        no_undo = g.no_undo;
        long = still_long g.long w;
        in_hand = λ t u.
            subst (λ (d : List Command). InHand t l d s entries b at_base (held_in history held) kept before sheets') with_it
            (hand_refused (g.in_hand t u) c is-undo small is_x w so_many other);
      }

      -- one that takes a record back
      pub some-kept : x.code ≡ 7 → 0 < kept
      some-kept seven = let a = (seven_kept c kept is_x seven).1 in omega arith

      pub going_undone : {s' : Store} {entries' : List Entry} → x.code ≡ 7 → Replays l history (held - 1) b at_base s' entries'
          → Going l schedule s₀ entries₀ before s' entries' b at_base history (held - 1) (kept - 1) (i + 1) sheets'
      going_undone {s'} {entries'} seven p =
          let some = some-kept seven in
          let enough = g.enough in
          let room = g.room in
          let few = g.few in
          let less = held_less history held g.whole room (omega arith) in
          let last : Command = get_or (decode_schedule history) (held - 1) (command 0 0 0) in
          let none : any_undo (held_in history (held - 1)) ≡ false =
          or_left (any_undo (held_in history (held - 1))) (any_undo (last ∷ []))
          (sym (any_undo-parts (held_in history (held - 1)) (last ∷ [])) ∙ ap any_undo (sym less) ∙ g.no_undo) in
          record {
            there = omega arith;
            room = omega arith;
            enough = omega arith;
            few = omega arith;
            whole = g.whole;
            no_undo = none;
            long = still_long g.long w;
            in_hand = λ t u.
                let h = g.in_hand t u in
                let back = p.replayed t h.base h.base_suited (let a = whole_history history g.whole in omega arith) none in
                subst (λ (d : List Command). InHand t l d s' entries' b at_base (held_in history (held - 1)) (kept - 1) before sheets') with_it
                (hand_undone h c is-undo small is_x w so_many (held_in history (held - 1)) last seven less back);
          }

    -- ---- a stretch

    module _ (other : c.mv ≡ 8 → ⊥) (free : held < held_most) {to : ℕ} (is-to : to ≡ min (i + (held_most - held)) (commands_in schedule)) {s' : Store}
        {sheets' : Sheets} {r : Stretch} (p : Plays l schedule (record { from = i; to = to; entries = entries }) s sheets r s' sheets') where
      -- at least this record is done
      pub one_done_lem : i < r.from
      one_done_lem =
          by_lt i r.from (λ h. h)
          (λ over.
          let f = p.forward in
          let same : r.from ≡ i = omega arith in
          let a : is_undo (get_or (decode_schedule schedule) i (command 0 0 0)) ≡ true =
          subst (λ (n : ℕ). is_undo (get_or (decode_schedule schedule) n (command 0 0 0)) ≡ true) same (p.ended (omega arith) (omega arith)) in
          let b : is_undo (command_of c) ≡ false = ne_eqb c.mv 8 other in
          let d : is_undo (command_of c) ≡ true = ap is_undo is_c ∙ a in
          absurd (no_way (cc)))

      pub stretch_fits : Fitting schedule i r.from held
      stretch_fits =
          let a = p.inside (omega arith) in
          let b = p.there (omega arith) in
          let f = p.forward in
          record { forward = omega arith; there = omega arith; fits = omega arith }

      pub going_forward : {history' : List ℕ} {kept' : ℕ} → AsLong sheets sheets' → Remembers schedule i r.from history held history'
          → kept' ≡ min (kept + (r.from - i)) kept_most
          → Going l schedule s₀ entries₀ before s' r.entries b at_base history' (held + (r.from - i)) kept' r.from sheets'
      going_forward {history'} long m is-kept =
          let fit = stretch_fits in
          let enough = g.enough in
          let few = g.few in
          let held_now = m.held-is g.whole in
          let old = g.long in
          let rs : List Command = between schedule i r.from in
          record {
            there = fit.there;
            room = fit.fits;
            enough = omega arith;
            few = omega arith;
            whole = m.same_length ∙ g.whole;
            no_undo = ap any_undo held_now ∙ any_undo-parts (held_in history held) rs ∙ rw (g.no_undo, p.no_undo);
            long = record {
              answers-long = long.answers-long ∙ old.answers-long;
              reasons-long = long.reasons-long ∙ old.reasons-long;
              origins-long = long.origins-long ∙ old.origins-long;
            };
            in_hand = λ t u.
                let h = g.in_hand t u in
                let size = between-length schedule i r.from fit.there in
                let kept-now = many_kept_is kept (length rs) few ∙ ap (λ (n : ℕ). min (kept + n) kept_most) size ∙ sym is-kept in
                let done = sym (between-parts schedule 0 i r.from (omega arith) p.forward) in
                let on = hand_forward h p.no_undo (p.played t _ (now_suited h)) so_many in
                subst (λ (n : ℕ). InHand t l (between schedule 0 r.from) s' r.entries b at_base (held_in history' (held + (r.from - i))) n before sheets') kept-now
                (subst₂ (λ (d e : List Command). InHand t l d s' r.entries b at_base e (many_kept kept (length rs)) before sheets') done (sym held_now) on);
          }

  -- ---- the base follows

  pub going_followed : {history' : List ℕ} {b' : Store} {at-base' : List Entry} → held ≡ held_most → Follows l history b at_base history' b' at-base'
      → Going l schedule s₀ entries₀ before s entries b' at-base' history' kept_most kept i sheets
  going_followed {history'} {b'} {at-base'} full f =
      let two : held_in history held ≡ held_in history kept_most ++ held_in history' kept_most = ap (held_in history) full ∙ f.in_two in
      let none = sym (any_undo-parts (held_in history kept_most) (held_in history' kept_most)) ∙ ap any_undo (sym two) ∙ g.no_undo in
      let old-none = or_left (any_undo (held_in history kept_most)) (any_undo (held_in history' kept_most)) none in
      let new_none = or_right (any_undo (held_in history kept_most)) (any_undo (held_in history' kept_most)) none in
      let few = g.few in
      record {
        there = g.there;
        room = omega arith;
        enough = few;
        few = few;
        whole = f.same_length;
        no_undo = new_none;
        long = g.long;
        in_hand = λ t u.
            let h = g.in_hand t u in
            let size = held-long history' kept_most f.same_length (omega arith) in
            hand_followed h (held_in history kept_most) (held_in history' kept_most) two (omega arith) (f.followed t h.base h.base_suited old-none);
      }
