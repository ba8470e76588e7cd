-- The card: a ruling, then a performance (document 01, "Refusal numbers", "Start and the checks"; document 02, Three, Five and Thirteen).
use Rattle.std.specs.Prelude.{ℕ, Bool, true, cond, ◌&&◌, ltb, leb, None, Option, Some}
use Rattle.wire.specs.Wire.{is_currency}
use Rattle.money.specs.Money.{max}
use Rattle.calendar.specs.Calendar.{is_day}
use Rattle.refusal.specs.declared.Refusal.TheVariants.{OutOfTurn, BadType, OutOfRange, NotADay}
use Rattle.refusal.specs.Refusal.{refusal_number}
use Rattle.rules.specs.declared.Place.{Place}
use Rattle.rules.specs.Rules.{Rules}
use Rattle.command.specs.declared.Start.{Start}
use Rattle.command.specs.declared.First.{First}
use Rattle.command.specs.declared.Second.{Second}
use Rattle.command.specs.declared.Command.{Command}
use Rattle.command.specs.declared.Command.TheVariants.{Start as StartCommand, First as FirstCommand, Second as SecondCommand}
use Rattle.state.specs.declared.Answer.{Answer}
use Rattle.state.specs.declared.Answer.TheVariants.{Refused, Started, Given, Done}
use Rattle.state.specs.declared.Pending.{Pending}
use Rattle.state.specs.declared.Phase.{Phase}
use Rattle.state.specs.declared.Phase.TheVariants.{Idle, Opened, Asked}
use Rattle.state.specs.declared.State.{State}
use Rattle.state.specs.declared.Outcome.{Outcome}
use Rattle.state.specs.Ruling.{Ruling, refuse, take, carried}
pub use Rattle.start.specs.Start.{rule_opening, rule_chosen, rule_start, start_performed}
unfoldable pub use Rattle.start.specs.Start.{opening_step, start_step}
use Rattle.first.specs.First.{first_performed}
use Rattle.second.specs.Second.{second_performed}
use Rattle.calendar.specs.declared.Date.{Date}

-- First: 2, 5, 6, and 13 for a date that isn't a calendar day
abbrev pub is_dated : Option Date → Bool
is_dated None = true
is_dated (Some date) = is_day date

abbrev pub rule_first_fields : First → Place → Ruling Place
rule_first_fields first place =
    cond (ltb 2 first.requested) (refuse BadType)
    (cond (leb first.amount.0 max && is_currency first.currency)
    (cond (is_dated first.when) (take place) (refuse NotADay))
    (refuse OutOfRange))

abbrev pub rule_first : Phase → First → Ruling Place
rule_first Idle first = refuse OutOfTurn
rule_first (Opened place) first = rule_first_fields first place
rule_first (Asked pending) first = refuse OutOfTurn

-- Second: 2, 5, 6
abbrev pub rule_second_fields : Second → Pending → Ruling Pending
rule_second_fields second pending =
    cond (ltb 1 second.requested) (refuse BadType) (cond (ltb 2 second.issuer) (refuse OutOfRange) (take pending))

abbrev pub rule_second : Phase → Second → Ruling Pending
rule_second Idle second = refuse OutOfTurn
rule_second (Opened place) second = refuse OutOfTurn
rule_second (Asked pending) second = rule_second_fields second pending

unfoldable pub first_taken : Rules → State → First → Place → Outcome
first_taken rules state first place = carried state (first_performed rules state first) (rule_first_fields first place)

unfoldable pub first_step : Rules → State → First → Outcome
first_step rules state first = carried state (first_performed rules state first) (rule_first state.phase first)

unfoldable pub second_taken : Rules → State → Second → Pending → Outcome
second_taken rules state second pending = carried state (second_performed rules state second) (rule_second_fields second pending)

unfoldable pub second_step : Rules → State → Second → Outcome
second_step rules state second = carried state (second_performed rules state second) (rule_second state.phase second)

unfoldable pub step_of : Rules → State → Command → Outcome
step_of rules state (StartCommand start) = start_step rules state start
step_of rules state (FirstCommand first) = first_step rules state first
step_of rules state (SecondCommand second) = second_step rules state second

-- the number of each answer
abbrev pub answer_number : Answer → ℕ
answer_number (Refused refusal) = refusal_number refusal
answer_number (Started atc visits) = 0
answer_number (Given kind atc iad) = 0
answer_number Done = 0
