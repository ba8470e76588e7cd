-- The fresh card of a set-up (document 01, "Start and the checks").
use Rattle.std.specs.Prelude.{false}
use Rattle.setup.specs.declared.Fresh.{Fresh}
use Rattle.state.specs.declared.Phase.TheVariants.{Idle}
use Rattle.state.specs.declared.State.{State}
use Rattle.marks.specs.Marks.{fresh_scripts}

-- its history is clear but for go online next, and no transaction is open
unfoldable pub fresh_state : Fresh → State
fresh_state fresh =
    record {
      values = fresh.values;
      phase = Idle;
      atc = fresh.atc;
      last = fresh.last;
      history = record { uncompleted = false; online = fresh.online; failed = false; unable = false; missing = false };
      scripts = fresh_scripts;
    }
