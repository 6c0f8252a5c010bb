-- The calls on lent numbers: a record is looked through, called in place, and its head written back.
use mathlib.Core.Path.{◌≡◌, refl, ap, sym, ◌∙◌}
use mathlib.Core.Bool.{Bool, true, false, ◌&&◌}
use mathlib.Core.List.{List, [], ◌∷◌, ◌++◌}
use Prim.Native.Nat.{ℕ, zero, suc, ◌≤◌}
use native.Mathlib.Omega.{arith}
use lib.Dec.{leb}
use lib.ListN.{length, get_or, length-map}
use borrow.Author.Tests.{le-leb, leb-true}
use Rattle.std.proofs.Common.{Result, Ok, Err}
use Rattle.facts.specs.Tests.{and_left, and_right, no_way}
use Rattle.facts.specs.Lists.{prefix, length-prefix, written_out}
use Rattle.numbers.specs.declared.backup.BackupRefusal.{BackupRefusal}
use Rattle.numbers.specs.Backup.{number_of}
use Rattle.backup.specs.Limits.{log_most, ports, sent_most, pc_most}
use Rattle.backup.specs.Replica as value
use Rattle.backup.specs.Replica.{Replica, fit, on_ports, sync_number, synced}
use Rattle.backup.specs.Accepts.{Fit, fit_parts, parts-fit, sync-parts, fail_over_accepted, fail_over_unfit}
use Rattle.backup.specs.Place as place
use Rattle.backup.specs.Place.{unpack, messages, Sound, Called, checkpoint_of, report_of, Reports}
use Rattle.backup.specs.Rounds.{sync_rounds, OnePass, one_pass_by}
use Rattle.backup.specs.Report.{Report, no_report, report_for, sync_report}
use Rattle.backup.proofs.InPlace.{some-number}
use Rattle.backup.proofs.ReportLaws.{sync_report-refused}
use Rattle.backup.specs.declared.place.Checkpoint.{Checkpoint}
use Rattle.backup.specs.declared.place.Head.{Head}
use Rattle.backup.specs.declared.place.Landed.{Landed}
use Rattle.backup_lent.specs.Lent.{lent_length, lent_len, view_in, fresh_lent, Answered, HandsOver, told}
use Rattle.backup_lent.specs.Steps.{Tallied, within_in, lent_front, whole_of, Fits, Unfits}

-- ---- the look

-- a head in range, part by part
pub record InRange (head : List ℕ) : Type 0 where
  pub few : lent_len head ≤ log_most
  pub sent_small : get_or head 1 0 ≤ sent_most
  pub pc_small : get_or head 2 0 ≤ pc_most

pub in_range : (head : List ℕ) → within_in head ≡ true → InRange head
in_range head h =
    let a = leb (lent_len head) log_most in
    let b = leb (get_or head 1 0) sent_most in
    let c = leb (get_or head 2 0) pc_most in
    let rest = and_right a (b && c) h in
    record {
      few = leb-true (lent_len head) log_most (and_left a (b && c) h);
      sent_small = leb-true (get_or head 1 0) sent_most (and_left b c rest);
      pc_small = leb-true (get_or head 2 0) pc_most (and_right b c rest);
    }

module _ (saved head : List ℕ) where
  view-length : length (view_in saved head).log ≡ lent_len head
  unfolding view_in
  view-length = length-map (prefix (lent_len head) saved) unpack ∙ length-prefix (lent_len head) saved

  -- not fit: some part of fitness is refuted
  refuted : (Fit (view_in saved head) → ⊥) → fit (view_in saved head) ≡ false
  refuted h = go (fit (view_in saved head)) refl
    where
      go : (f : Bool) → fit (view_in saved head) ≡ f → fit (view_in saved head) ≡ false
      go false e = e
      go true e = absurd (h (fit_parts (view_in saved head) e))

  -- a head that is out of range
  pub out_of_range : length head ≡ lent_length → within_in head ≡ false → Unfits saved head 20
  unfolding view_in
  out_of_range m z = record { head_length_lem = m; not-fit = refuted out; number_is = refl }
    where
      out : Fit (view_in saved head) → ⊥
      out f =
          let a : lent_len head ≤ log_most = (let l = f.few in let e = view-length in omega arith) in
          let y : within_in head ≡ true =
          rw (le-leb (lent_len head) log_most a, le-leb (get_or head 1 0) sent_most f.sent_small, le-leb (get_or head 2 0) pc_most f.pc_small) in
          no_way (cc)

  -- a word on no port
  pub off_port : length head ≡ lent_length → on_ports (messages (lent_len head) saved) ≡ false → Unfits saved head 20
  unfolding view_in
  off_port m z = record { head_length_lem = m; not-fit = refuted (λ f. no_way (let a = f.on_ports_lem in cc)); number_is = refl }

  -- each word is on a port, so the record is fit
  pub fits_so : length saved ≡ log_most → length head ≡ lent_length → within_in head ≡ true → (n : List ℕ) → Tallied saved (lent_len head) n
      → Fits saved head (whole_of head n)
  unfolding view_in place.view_in
  fits_so l m w n c =
      let r = in_range head w in
      let f : fit (view_in saved head) ≡ true =
      parts-fit (view_in saved head) record {
        few = (let a = view-length in let k = r.few in omega arith);
        on_ports_lem = c.on_ports_lem;
        sent_small = r.sent_small;
        pc_small = r.pc_small;
      } in
      record {
        head_length_lem = m;
        is-fit = f;
        sound = record { log-length = l; saved-length = c.four; is-fit = f; tallies = c.tallies };
        same = refl;
        front = sym (written_out head lent_length 0 m);
      }

-- ---- what a call comes to

-- a head in place and its lent front stand for the same value
front-view : (saved : List ℕ) (head : Head) → view_in saved (lent_front head) ≡ place.view_in saved head
unfolding view_in place.view_in
front-view saved head = refl

module _ (saved head : List ℕ) (call : Replica → value.Reply) where
  -- unfit: 20, and both arrays as they were
  pub answered_20 : (number : ℕ) → Unfits saved head number → (fit (view_in saved head) ≡ false → call (view_in saved head) ≡ record { number = 20; replica = view_in saved head })
      → Answered saved head saved head number call
  answered_20 number o c =
      let e = c o.not-fit in
      record {
        number_is = o.number_is ∙ ap (λ (x : value.Reply). x.number) (sym e);
        value_is = ap (λ (x : value.Reply). x.replica) (sym e);
        same-behind = λ i a b. refl;
        untouched = λ _. (refl, refl);
        fit_again = λ f. f;
        saved-length = refl;
        head_length_lem = o.head_length_lem;
      }

  module _ (whole : Head) (o : Fits saved head whole) (saved' : List ℕ) (left : Head) where
    -- fit, and refused in place: 21 to 24, and both arrays as they were
    pub answered-refused : (r : BackupRefusal) → Called saved whole saved' left (number_of r) call → Answered saved head saved' head (number_of r) call
    answered-refused r c =
        let u = c.untouched (some-number r) in
        let v : view_in saved' head ≡ view_in saved head = ap (λ (s : List ℕ). view_in s head) u.0 in
        let w : place.view_in saved' left ≡ place.view_in saved whole = λ i. place.view_in (u.0 i) (u.1 i) in
        record {
          number_is = c.number_is o.sound ∙ ap (λ (x : Replica). (call x).number) o.same;
          value_is = v ∙ sym o.same ∙ sym w ∙ c.value_is o.sound ∙ ap (λ (x : Replica). (call x).replica) o.same;
          same-behind = λ i a b. ap (λ (z : List ℕ). get_or z i 0) u.0;
          untouched = λ _. (u.0, refl);
          fit_again = λ y. ap fit v ∙ y;
          saved-length = ap length u.0;
          head_length_lem = o.head_length_lem;
        }

    -- fit, and done: what the call in place gives
    pub answered-done : Called saved whole saved' left 0 call → Answered saved head saved' (lent_front left) 0 call
    answered-done c =
        let first-same : whole.len ≡ lent_len head = ap lent_len o.front in
        record {
          number_is = c.number_is o.sound ∙ ap (λ (x : Replica). (call x).number) o.same;
          value_is = front-view saved' left ∙ c.value_is o.sound ∙ ap (λ (x : Replica). (call x).replica) o.same;
          same-behind = λ i a b. c.same-behind o.sound i (omega arith) b;
          untouched = λ n. absurd (n refl);
          fit_again = λ _. ap fit (front-view saved' left) ∙ (c.sound_again o.sound).is-fit;
          saved-length = (c.sound_again o.sound).log-length ∙ sym o.sound.log-length;
          head_length_lem = refl;
        }

-- ---- what a sync reports, and its rounds

-- a report is of four ports
pub four-ports : (v : Replica) (c : value.Checkpoint) → (length (sync_report v c).dropped ≡ ports) × (length (sync_report v c).remained ≡ ports)
unfolding sync_report
four-ports v c = go (sync_number v c)
  where
    go : (n : ℕ) → (length (report_for n v.log (synced v c).log).dropped ≡ ports) × (length (report_for n v.log (synced v c).log).remained ≡ ports)
    go zero = (refl, refl)
    go (suc n) = (refl, refl)

-- eight numbers, four and four
abbrev pub eight_of : List ℕ → List ℕ → List ℕ
eight_of d e = get_or d 0 0 ∷ get_or d 1 0 ∷ get_or d 2 0 ∷ get_or d 3 0 ∷ get_or e 0 0 ∷ get_or e 1 0 ∷ get_or e 2 0 ∷ get_or e 3 0 ∷ []

pub eight_told : (v : Replica) (c : value.Checkpoint) → eight_of (sync_report v c).dropped (sync_report v c).remained ≡ told (sync_report v c)
eight_told v c =
    let d = written_out (sync_report v c).dropped ports 0 (four-ports v c).0 in
    let e = written_out (sync_report v c).remained ports 0 (four-ports v c).1 in
    λ i. sym d i ++ sym e i

module _ (saved head : List ℕ) where
  -- unfit: all 0, as for every refusal, and no round beside the look
  pub report_20 : (number : ℕ) → Unfits saved head number → (c : value.Checkpoint) → told no_report ≡ told (sync_report (view_in saved head) c)
  report_20 number o c = ap told (sym (sync_report-refused (view_in saved head) c (λ e. let a = (sync-parts (view_in saved head) c e).0 in let b = o.not-fit in no_way (cc))))

  pub rounds_20 : (number : ℕ) → Unfits saved head number → (c : value.Checkpoint) → OnePass (view_in saved head) c number 0
  unfolding sync_rounds
  rounds_20 number o c = rw o.number_is (one_pass_by (view_in saved head) c 20 0 refl)

  module _ (whole : Head) (o : Fits saved head whole) (c : Checkpoint) where
    -- fit: what the call in place reports
    reported : (r : Result Landed BackupRefusal) → Reports saved whole c r → report_of r ≡ sync_report (view_in saved head) (checkpoint_of c)
    reported r k = k.report-is o.sound ∙ ap (λ (v : Replica). sync_report v (checkpoint_of c)) o.same

    pub report-refused : (r : BackupRefusal) → Reports saved whole c (Err r) → told no_report ≡ told (sync_report (view_in saved head) (checkpoint_of c))
    report-refused r k = ap told (reported (Err r) k)

    pub report-done : (l : Landed) → Reports saved whole c (Ok l) → eight_of l.dropped l.remained ≡ told (sync_report (view_in saved head) (checkpoint_of c))
    report-done l k = ap (λ (x : Report). eight_of x.dropped x.remained) (reported (Ok l) k) ∙ eight_told (view_in saved head) (checkpoint_of c)

  -- and its rounds
  pub rounds_so : (whole : Head) → Fits saved head whole → (c : value.Checkpoint) (number rounds : ℕ) → OnePass (place.view_in saved whole) c number rounds
      → OnePass (view_in saved head) c number rounds
  rounds_so whole o c number rounds p = rw (← o.same) p

-- ---- take over

module _ (saved head : List ℕ) where
  pub hands_over : (whole : Head) → Fits saved head whole → HandsOver saved head 0 head
  hands_over whole o = record { handed_is = sym (fail_over_accepted (view_in saved head) o.is-fit); handed_length = o.head_length_lem }

  pub hands_nothing : (number : ℕ) → Unfits saved head number → HandsOver saved head number fresh_lent
  unfolding view_in
  hands_nothing number o = rw o.number_is (record { handed_is = sym (fail_over_unfit (view_in saved head) o.not-fit); handed_length = refl })
