-- Numbers in bytes. Document 01: "Everything is big-endian."
use Rattle.std.specs.Prelude.{List, [], ◌∷◌, ◌++◌, ℕ, zero, suc, ◌+◌, ◌*◌, ◌/◌, ◌%◌, ◌^◌, length, get_or, drop}

-- ---- out of bytes

-- byte i, or 0 past the end
abbrev pub byte_at : List ℕ → ℕ → ℕ
byte_at bytes i = get_or bytes i 0

abbrev pub number16 : ℕ → ℕ → ℕ
number16 b1 b0 = b1 * 2 ^ 8 + b0

abbrev pub number32 : ℕ → ℕ → ℕ → ℕ → ℕ
number32 b3 b2 b1 b0 = b3 * 2 ^ 24 + b2 * 2 ^ 16 + b1 * 2 ^ 8 + b0

-- Instructions, schedule records and answers have one layout: two bytes and a word. This makes something of the first n of them.
abbrev pub sixes : {A : Type 0} → (ℕ → ℕ → ℕ → A) → ℕ → List ℕ → List A
sixes make zero bytes = []
sixes make (suc n) bytes =
    make (byte_at bytes 0) (byte_at bytes 1) (number32 (byte_at bytes 2) (byte_at bytes 3) (byte_at bytes 4) (byte_at bytes 5))
    ∷ sixes make n (drop 6 bytes)

-- the same of two bytes each
abbrev pub twos : {A : Type 0} → (ℕ → ℕ → A) → ℕ → List ℕ → List A
twos make zero bytes = []
twos make (suc n) bytes = make (byte_at bytes 0) (byte_at bytes 1) ∷ twos make n (drop 2 bytes)

-- ---- into bytes

-- a word as four bytes (of a number below 2^32 the first, too, is below 256)
abbrev pub word_bytes : ℕ → List ℕ
word_bytes w = w / 2 ^ 24 ∷ w / 2 ^ 16 % 2 ^ 8 ∷ w / 2 ^ 8 % 2 ^ 8 ∷ w % 2 ^ 8 ∷ []

-- bytes for every element of a list, one after the other
abbrev pub all_bytes : {A : Type 0} → (A → List ℕ) → List A → List ℕ
all_bytes bytes [] = []
all_bytes bytes (x ∷ l) = bytes x ++ all_bytes bytes l

-- a buffer after a write to its front: "Bytes beyond those are untouched."
abbrev pub written : List ℕ → List ℕ → List ℕ
written new buffer = new ++ drop (length new) buffer
