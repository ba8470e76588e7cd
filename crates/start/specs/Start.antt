-- Start: a ruling, then a performance (document 01, "Refusal numbers", "Start and the checks"; document 02, Three and Thirteen).
use Rattle.std.specs.Prelude.{ℕ, ◌+◌, cond, eqb, ltb, None, Option, Some}
use Rattle.refusal.specs.declared.Refusal.TheVariants.{UnknownProfile, AtcUsedUp, OutOfRange, NotSelected}
use Rattle.rules.specs.declared.Place.{Place}
use Rattle.rules.specs.Rules.{Rules, find_profile}
use Rattle.selection.specs.Selection.{visits_of}
use Rattle.command.specs.declared.Start.{Start}
use Rattle.state.specs.declared.Answer.TheVariants.{Started}
use Rattle.state.specs.declared.Phase.TheVariants.{Opened}
use Rattle.state.specs.declared.State.{State}
use Rattle.state.specs.declared.Outcome.{Outcome}
use Rattle.state.specs.Ruling.{Ruling, refuse, take, carried}
use Rattle.marks.specs.Marks.{started}
use Rattle.selection.specs.declared.Selected.{Selected}

-- 6 for an interface above 1, then 12, then 3, then 4
abbrev pub rule_opening : ℕ → Option Place → Ruling Place
rule_opening atc None = refuse UnknownProfile
rule_opening atc (Some place) = cond (eqb atc 65535) (refuse AtcUsedUp) (take place)

abbrev pub rule_chosen : Rules → ℕ → Option Selected → Ruling Place
rule_chosen rules atc None = refuse NotSelected
rule_chosen rules atc (Some chosen) = rule_opening atc (find_profile rules chosen.profile)

abbrev pub rule_start : Rules → ℕ → Start → Ruling Place
rule_start rules atc start = cond (ltb 1 start.interface) (refuse OutOfRange) (rule_chosen rules atc start.chosen)

-- Start drops an unfinished transaction, adds 1 to ATC and opens the profile; the answer also says how many entries were visited
abbrev pub start_performed : State → (visits : ℕ) → Place → Outcome
start_performed state visits place =
    record {
      state =
          record {
            values = state.values;
            phase = Opened place;
            atc = state.atc + 1;
            last = state.last;
            history = state.history;
            scripts = started state.scripts;
          };
      answer = Started (state.atc + 1) visits;
    }

unfoldable pub opening_step : Rules → State → (profile visits : ℕ) → Outcome
opening_step rules state profile visits =
    carried state (start_performed state visits) (rule_opening state.atc (find_profile rules profile))

unfoldable pub start_step : Rules → State → Start → Outcome
start_step rules state start =
    carried state (start_performed state (visits_of start.chosen)) (rule_start rules state.atc start)
