-- What the moves on the bus answer.
use Rattle.std.specs.Prelude.{ℕ}
use Rattle.numbers.specs.declared.answers.Reason.TheVariants.{Carried, Fed}
use Rattle.state.specs.declared.moved.Answer.{Answer}
use Rattle.state.specs.Moved.{answer_for}

-- "4 word on the bus (channel, word)"
abbrev pub transmitted_of : ℕ → ℕ → Answer
transmitted_of channel word = answer_for Carried channel word

-- "a feed answers 4", and W-206: "Code 4: 1 for a feed."
abbrev pub injected_of : ℕ → ℕ → Answer
injected_of channel word = answer_for Fed channel word
