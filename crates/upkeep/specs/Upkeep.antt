-- The room left after an event (request Seven): after every answer and refusal, and after scripts.
use Rattle.std.specs.Prelude.{ℕ, Bool, true, false, cond, List}
use Rattle.rules.specs.declared.Values.{Values}
use Rattle.rules.specs.Rules.{Rules}
use Rattle.rooms.specs.Rooms.{filled, renewed}
use Rattle.state.specs.declared.Answer.{Answer}
use Rattle.state.specs.declared.Answer.TheVariants.{Refused as AnswerRefused, Started, Given, Done}
use Rattle.records.specs.declared.Event.{Event}
use Rattle.records.specs.declared.Event.TheVariants.{SetUp, End, Refused, Answered}

-- a script was carried out
abbrev pub is_done : Answer → Bool
is_done (AnswerRefused refusal) = false
is_done (Started atc visits) = false
is_done (Given kind atc iad) = false
is_done Done = true

abbrev pub is_scripted : Event → Bool
is_scripted SetUp = false
is_scripted End = false
is_scripted (Refused refusal) = false
is_scripted (Answered said answer) = is_done answer

-- a script may have written limits and values, so that all sixteen are worked out anew; otherwise the rules are those before, and the
-- rooms of the accumulators whose value moved are
unfoldable pub rooms_after : Rules → (before after : Values) → Event → (rooms : List ℕ) → List ℕ
rooms_after rules before after event rooms = cond (is_scripted event) (filled rules after rooms) (renewed rules before after rooms)
