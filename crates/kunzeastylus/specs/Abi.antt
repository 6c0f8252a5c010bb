-- The shape of the exported calls: which there are, and what each is lent and returns.
use Rattle.std.specs.Prelude.{ℕ}

-- One more with every change of it. 1 had no number; since 2 `ks_run`, `ks_label_run` and `ks_judge` have the buffer of origins (W-212); since 3
-- the backup record has five calls on two arrays in place of `ks_backup_call`.
abbrev pub abi : ℕ
abi = 3
