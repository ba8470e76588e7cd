-- How far a paper is shown, and what is wanted next.
use Rattle.std.specs.Prelude.{ℕ, ◌+◌, ◌%◌}
use Rattle.setup.specs.Setup.{no_card}
use Rattle.shape.specs.Shape.{based}
use Rattle.fresh.specs.Fresh.{fresh_state}
use Rattle.records.specs.declared.Event.{Event}
use Rattle.records.specs.declared.Event.TheVariants.{SetUp, End, Refused, Answered}
use Rattle.records.specs.declared.Taken.{Taken}
use Rattle.shown.specs.declared.Wants.{Wants}
use Rattle.shown.specs.declared.Wants.TheVariants.{Record, Room, Run, Nothing}
use Rattle.shown.specs.declared.Shown.{Shown}

-- at a paper's end a run may follow; a refusal that ends the paper wants nothing more
abbrev pub wants_after : Event → Wants
wants_after SetUp = Record
wants_after End = Run
wants_after (Refused refusal) = Nothing
wants_after (Answered said answer) = Record

-- without room there is no card
unfoldable pub unshown : (to : ℕ) → Shown
unshown to = record { shape = based 0; state = fresh_state no_card; at = 0; number = 0; end = to; wants = Room }

-- behind a record the next has the next number
abbrev pub shown_behind : Shown → Taken → (end : ℕ) → Shown
shown_behind shown taken end =
    record {
      shape = shown.shape;
      state = taken.state;
      at = taken.at;
      number = (shown.number + 1) % 65536;
      end = end;
      wants = wants_after taken.event;
    }
