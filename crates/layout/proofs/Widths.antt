-- How many numbers each thing has.
use mathlib.Core.Path.{◌≡◌, refl}
use mathlib.Core.Bool.{Bool, true, false, cond}
use mathlib.Core.List.{List}
use Prim.Native.Nat.{ℕ}
use lib.Dec.{ltb}
use lib.ListN.{length}
use Rattle.process.specs.declared.process.Process.{Process}
use Rattle.process.specs.Row.{recorded}
use Rattle.rules.specs.Cabinet.{Item, message, checkpoint, transfer}
use Rattle.state.specs.declared.entry.Entry.{Entry}
use Rattle.state.specs.declared.queue.Queue.{Queue}
use Rattle.state.specs.Store.{item_of}
use Rattle.layout.specs.View.{item_numbers}
use Rattle.layout.specs.Lists.{saved_count, inbox_at, saved_at, backup_in, entry_at}

either_long : (b : Bool) (x y : List ℕ) (w : ℕ) → length x ≡ w → length y ≡ w → length (cond b x y) ≡ w
either_long true x y w e f = e
either_long false x y w e f = f

pub unread_two : (x : Process) (i : ℕ) → length (inbox_at x i) ≡ 2
unread_two x i = either_long (ltb i x.unread) _ _ 2 refl refl

pub saved_two : (x : Process) (i : ℕ) → length (saved_at x i) ≡ 2
saved_two x i = either_long (ltb i (saved_count x)) _ _ 2 refl refl

pub backup_nine : (x : Process) → length (backup_in x) ≡ 9
backup_nine x = either_long (recorded x.protection) _ _ 9 refl refl

item_thirteen : (x : Item) → length (item_numbers x) ≡ 13
item_thirteen (message x pc) = refl
item_thirteen (checkpoint p s) = refl
item_thirteen (transfer p) = refl

pub entry_thirteen : (queue : Queue) (e : Entry) (i : ℕ) → length (entry_at queue e i) ≡ 13
entry_thirteen queue e i = either_long (ltb i queue.count) _ _ 13 (item_thirteen (item_of e.item)) refl
