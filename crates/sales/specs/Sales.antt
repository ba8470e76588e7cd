-- What the events of a paper add to the sheet of a class, from the commands and the answers alone (document 02, Ten).
use Rattle.std.specs.Prelude.{ℕ, Bool, true, false, cond, ◌||◌, List, [], ◌∷◌, ◌++◌, eqb}
use Rattle.refusal.specs.Refusal.{refusal_number}
use Rattle.command.specs.declared.Command.{Command}
use Rattle.command.specs.declared.Command.TheVariants.{Start, First, Second}
use Rattle.state.specs.declared.Answer.{Answer}
use Rattle.state.specs.declared.Answer.TheVariants.{Refused, Started, Given, Done}
use Rattle.records.specs.declared.Said.{Said}
use Rattle.records.specs.declared.Said.TheVariants.{Command as SaidCommand, Script}
use Rattle.records.specs.declared.Event.{Event}
use Rattle.records.specs.declared.Event.TheVariants.{SetUp, End, Refused as EndRefused, Answered}
use Rattle.tallies.specs.declared.Sale.{Sale}
use Rattle.tallies.specs.Tallies.{Tally, refused, answer_tallies}

-- a First's cryptogram is decided offline, and a Second's after Y3 or Z3: a TC there is an offline approval
abbrev pub is_unable : (code : ℕ) → Bool
is_unable code = eqb code 0x5933 || eqb code 0x5A33

abbrev pub offline_command : Command → Bool
offline_command (Start start) = false
offline_command (First first) = true
offline_command (Second second) = is_unable second.code

abbrev pub is_offline : Said → Bool
is_offline (SaidCommand command) = offline_command command
is_offline Script = false

-- what the last First asked that was answered by a cryptogram: the amount, and the transaction's currency
abbrev pub is_given : Answer → Bool
is_given (Given kind atc iad) = true
is_given (Refused refusal) = false
is_given (Started atc visits) = false
is_given Done = false

abbrev pub command_sale : Command → (given : Bool) → Sale → Sale
command_sale (Start start) given before = before
command_sale (First first) given before = cond given (record { amount = first.amount.0; currency = first.currency }) before
command_sale (Second second) given before = before

unfoldable pub sale_by : Said → Answer → Sale → Sale
sale_by (SaidCommand command) answer before = command_sale command (is_given answer) before
sale_by Script answer before = before

abbrev pub no_sale : Sale
no_sale = record { amount = 0; currency = 0 }

-- WHAT EVENTS ADD: every answer what it adds, and the refusal that ends a paper one
unfoldable pub tallies_from : Sale → List Event → List Tally
tallies_from before [] = []
tallies_from before (SetUp ∷ more) = tallies_from before more
tallies_from before (End ∷ more) = tallies_from before more
tallies_from before (EndRefused refusal ∷ more) = refused (refusal_number refusal) ∷ tallies_from before more
tallies_from before (Answered said answer ∷ more) =
    let sale = sale_by said answer before in
    answer_tallies (is_offline said) sale answer ++ tallies_from sale more
