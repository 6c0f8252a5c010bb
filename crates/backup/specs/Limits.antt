-- The sizes of a backup, each named once.
-- Document 01: "A record unfit on entry (over 48 words, slot over 3, count over 16, place over 64) is 20"; W-207: "A saved list may now hold 64
-- words and a count 32; numbers 20, 22 and 24 follow".
-- The code names the same numbers in src/limits.rt.
use Rattle.std.specs.Prelude.{ℕ}

-- how many messages a log holds at most
abbrev pub log_most : ℕ
log_most = 64

-- how many input ports a process has (slots 0 to 3)
abbrev pub ports : ℕ
ports = 4

-- the largest count of transmitted messages
abbrev pub sent_most : ℕ
sent_most = 32

-- the largest program counter
abbrev pub pc_most : ℕ
pc_most = 64
