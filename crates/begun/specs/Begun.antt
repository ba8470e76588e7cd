-- What a set-up comes to (document 01, "The paper").
use Rattle.std.specs.Prelude.{ℕ, Bool, cond, List, Err, Ok, Result}
use Rattle.refusal.specs.declared.Refusal.{Refusal}
use Rattle.refusal.specs.declared.Refusal.TheVariants.{BadSetup, PastData}
use Rattle.setup.specs.Setup.{read_setup, no_card}
use Rattle.shape.specs.declared.Shape.{Shape}
use Rattle.shape.specs.Shape.{based}
use Rattle.fresh.specs.Fresh.{fresh_state}
use Rattle.records.specs.declared.Event.{Event}
use Rattle.records.specs.declared.Event.TheVariants.{SetUp, Refused}
use Rattle.begun.specs.declared.Begun.{Begun}

-- refused, it ends the paper; there is no card, and no shape that matters
abbrev pub refused_at : Refusal → (at : ℕ) → Begun
refused_at refusal at = record { shape = based 0; state = fresh_state no_card; at = at; event = Refused refusal }

abbrev pub set_up_event : Result Unit Refusal → Event
set_up_event (Ok done) = SetUp
set_up_event (Err refusal) = Refused refusal

unfoldable pub base_begun : Shape → (base cycles family : List ℕ) (end : ℕ) → Begun
base_begun shape base cycles family end =
    let read = read_setup base cycles family shape.unnamed in
    record { shape = shape; state = fresh_state read.fresh; at = end; event = set_up_event read.answer }

-- refusal 14 comes after every cause of 1
unfoldable pub past_begun : (accepted : Bool) (end : ℕ) → Begun
past_begun accepted end = refused_at (cond accepted PastData BadSetup) end
