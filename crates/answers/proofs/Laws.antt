-- Every answer has 36 bytes. Assumes nothing.
use mathlib.Core.Path.{◌≡◌, refl, ap, ◌∙◌}
use Prim.Native.Nat.{ℕ, ◌+◌}
use lib.ListN.{length, length-append}
use Rattle.iad.specs.Iad.{written}
use Rattle.iad.proofs.RoundTrip.{written-size}
use Rattle.state.specs.declared.Answer.{Answer}
use Rattle.state.specs.declared.Answer.TheVariants.{Refused, Started, Given, Done}
use Rattle.state.specs.State.{cid_of}
use Rattle.answers.specs.Answers.{size, head_of, no_iad, answer_bytes}

pub answer-size : (answer : Answer) → length (answer_bytes answer) ≡ size
unfolding answer_bytes
answer-size (Refused refusal) = refl
answer-size (Started atc visits) = refl
answer-size (Given kind atc iad) = length-append (head_of 0 (cid_of kind) atc) (written iad no_iad) ∙ ap (λ (n : ℕ). 4 + n) (written-size iad)
answer-size Done = refl
