-- A conversation, record by record (document 01, "The paper" and "A sitting in full").
use Rattle.std.specs.Prelude.{ℕ, List, []}
use Rattle.refusal.specs.declared.Refusal.TheVariants.{Unreadable}
use Rattle.rules.specs.Rules.{Rules}
use Rattle.shape.specs.declared.Shape.{Shape}
use Rattle.paper.specs.declared.Next.{Next}
use Rattle.paper.specs.declared.Next.TheVariants.{Record, Fault, End as PaperEnd}
use Rattle.paper.specs.Paper.{next_at}
use Rattle.paper.specs.Walk.{part}
use Rattle.state.specs.declared.State.{State}
use Rattle.element.specs.declared.Write.{Write}
use Rattle.records.specs.declared.Event.TheVariants.{End, Refused}
use Rattle.records.specs.declared.Taken.{Taken}
use Rattle.records.specs.Records.{record_taken, record_writes}

-- a record cut short or of length 0 ends the paper with refusal 9, its end with nothing
abbrev pub next_taken : Rules → Shape → State → (paper : List ℕ) (at : ℕ) → Next → Taken
next_taken rules shape state paper at PaperEnd = record { state = state; at = at; event = End }
next_taken rules shape state paper at Fault = record { state = state; at = at; event = Refused Unreadable }
next_taken rules shape state paper at (Record kind start end) =
    record_taken rules shape state paper kind (part paper start end) end

unfoldable pub taken_of : Rules → Shape → State → (paper : List ℕ) (at : ℕ) → Taken
taken_of rules shape state paper at = next_taken rules shape state paper at (next_at paper at)

-- what it writes
abbrev pub next_writes : Shape → State → (paper : List ℕ) → Next → List Write
next_writes shape state paper PaperEnd = []
next_writes shape state paper Fault = []
next_writes shape state paper (Record kind start end) = record_writes shape state kind (part paper start end)

unfoldable pub taken_writes : Shape → State → (paper : List ℕ) (at : ℕ) → List Write
taken_writes shape state paper at = next_writes shape state paper (next_at paper at)
