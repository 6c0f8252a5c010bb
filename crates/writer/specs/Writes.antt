-- The promise of `write`.
use Rattle.std.specs.Prelude.{◌≡◌, cond, List, ℕ, eqb, length, take, Result, IfOk}
use Rattle.numbers.specs.Runs.{number_in}
use Rattle.numbers.specs.declared.runs.Refusal.{Refusal}
use Rattle.rules.specs.Bytes.{written}
use Rattle.rules.specs.Encode.{Lists, encode, validate_write, ReadsAs}

-- lists, a buffer before, the table's length or what refuses them, the buffer after
pub record Writes (l : Lists) (out : List ℕ) (r : Result ℕ Refusal) (out' : List ℕ) : Type 0 where
  pub number_is : number_in r ≡ validate_write l (length out)
  pub length-is : IfOk r (λ n. n ≡ length (encode l))
  -- the table's bytes at the front, and what is behind them as it was; refused, the whole buffer as it was
  pub buffer_is : out' ≡ cond (eqb (validate_write l (length out)) 0) (written (encode l) out) out
  -- "What it writes is accepted by the reader with the same contents": of the bytes that are then in the buffer
  pub read_back : IfOk r (λ n. ReadsAs l (take n out'))
