-- Document 01's table of refusal numbers, with document 02's 12, 13, 18, 19 and 6 of a Start or a script, row by row, for the four commands: when a number applies, by which profiles
-- are known, the ATC and what is due.
use Rattle.std.specs.Prelude.{◌≡◌, cond, List, ℕ, ◌+◌, ◌*◌, ◌≤◌, ◌<◌, eqb, get_or, None, Option, Some}
use Rattle.calendar.specs.Almanac.{date_after}
use Rattle.ranges.proofs.Accepted.{Currency}
use Rattle.rules.specs.Rules.{Rules, blank_profile}
use Rattle.selection.specs.Selection.{profile_of}
use Rattle.command.specs.declared.Start.{Start}
use Rattle.command.specs.declared.First.{First}
use Rattle.command.specs.declared.Second.{Second}
use Rattle.trees.specs.Tree.{TemplateFault}
use Rattle.card.specs.Message.{Message, StartCommand, FirstCommand, SecondCommand, ScriptCommand}
use Rattle.demands.specs.Setup.{Setup, byte_at}
use Rattle.demands.specs.Due.{Due, nothing, a_first, a_second}
use Rattle.calendar.specs.declared.Date.{Date}
use Rattle.selection.specs.declared.Selected.{Selected}

-- a profile of this number is in the set-up: one of its p profiles, each of 107 bytes behind the first 52, has it as its first byte
pub record InSetup (setup : Setup) (number : ℕ) : Type 0 where
  pub index : ℕ
  pub there : index < byte_at setup 3
  pub its : byte_at setup (52 + 107 * index) ≡ number

-- the same of any rules: the numbers are 1 to 124, and 0 stands for a profile that is not there
pub record InRules (rules : Rules) (number : ℕ) : Type 0 where
  pub index : ℕ
  pub below : index < 4
  pub some : 1 ≤ number
  pub its : (get_or rules.profiles index blank_profile).number ≡ number

-- no Start is open; no ARQC is open
abbrev pub NoStart : Due → Type 0
NoStart nothing = Unit
NoStart a_first = ⊥
NoStart a_second = Unit

abbrev pub NoArqc : Due → Type 0
NoArqc nothing = Unit
NoArqc a_first = Unit
NoArqc a_second = ⊥

-- First is due
abbrev pub IsFirst : Due → Type 0
IsFirst nothing = ⊥
IsFirst a_first = Unit
IsFirst a_second = ⊥

-- no profile was selected
abbrev pub Unselected : Option Selected → Type 0
Unselected (Some chosen) = ⊥
Unselected None = Unit

pub data StartRow (Known : ℕ → Type 0) (atc : ℕ) (start : Start) (n : ℕ) : Type 0 where
  no_interface : n ≡ 6 → 1 < start.interface → StartRow Known atc start n
  not_selected : n ≡ 12 → Unselected start.chosen → StartRow Known atc start n
  not_in_setup : n ≡ 3 → (Known (profile_of start.chosen) → ⊥) → StartRow Known atc start n
  used_up : n ≡ 4 → atc ≡ 65535 → StartRow Known atc start n

-- a date that is none of the 36,525 days from 1 January 2000 to 31 December 2099
abbrev pub NoDay : Option Date → Type 0
NoDay None = ⊥
NoDay (Some date) = (n : ℕ) → n < 36525 → date ≡ date_after n → ⊥

pub data FirstRow (due : Due) (first : First) (n : ℕ) : Type 0 where
  no_start : n ≡ 2 → NoStart due → FirstRow due first n
  type_three : n ≡ 5 → 3 ≤ first.requested → FirstRow due first n
  above-max : n ≡ 6 → 999_999_999_999 < first.amount.0 → FirstRow due first n
  not_digits : n ≡ 6 → (Currency first.currency → ⊥) → FirstRow due first n
  not_a_day : n ≡ 13 → NoDay first.when → FirstRow due first n

pub data SecondRow (due : Due) (second : Second) (n : ℕ) : Type 0 where
  no_arqc : n ≡ 2 → NoArqc due → SecondRow due second n
  type_two : n ≡ 5 → 2 ≤ second.requested → SecondRow due second n
  issuer_data : n ≡ 6 → 2 < second.issuer → SecondRow due second n

-- a template's 18 and 19 are by its first fault in reading order
pub data ScriptRow (due : Due) (result : ℕ) (template : List ℕ) (n : ℕ) : Type 0 where
  first-due : n ≡ 2 → IsFirst due → ScriptRow due result template n
  no_result : n ≡ 6 → 1 < result → ScriptRow due result template n
  at-fault : TemplateFault n template → ScriptRow due result template n

-- the row of number n applies to a command
abbrev pub Applies : (ℕ → Type 0) → ℕ → Due → Message → ℕ → Type 0
Applies Known atc due (StartCommand start) n = StartRow Known atc start n
Applies Known atc due (FirstCommand first) n = FirstRow due first n
Applies Known atc due (SecondCommand second) n = SecondRow due second n
Applies Known atc due (ScriptCommand result template) n = ScriptRow due result template n

-- where several apply: Start 6, 12, 3, 4; First 2, 5, 6, 13; Second 2, 5, 6; a script 2, 6, and of 18 and 19 one at most. So of Start 6 comes first,
-- then 12, and otherwise the least
abbrev pub rank : Message → ℕ → ℕ
rank (StartCommand start) n = cond (eqb n 6) 0 (cond (eqb n 12) 1 n)
rank (FirstCommand first) n = n
rank (SecondCommand second) n = n
rank (ScriptCommand result template) n = n

-- 0 where no row applies; where several apply, the first
pub data Numbered (Known : ℕ → Type 0) (atc : ℕ) (due : Due) (command : Message) (n : ℕ) : Type 0 where
  done : n ≡ 0 → ((m : ℕ) → Applies Known atc due command m → ⊥) → Numbered Known atc due command n
  refused : Applies Known atc due command n → ((m : ℕ) → rank command m < rank command n → Applies Known atc due command m → ⊥)
      → Numbered Known atc due command n
