-- The transactions of a conversation that are logged, from what was said, where it stood and what was answered: no cell is here. Every list has
-- the newest first.
use Rattle.std.specs.Prelude.{ℕ, Bool, true, false, cond, ◌&&◌, List, [], ◌∷◌, ◌++◌}
use Rattle.wire.specs.Wire.{number}
use Rattle.iad.specs.declared.Cvr.{Cvr}
use Rattle.iad.specs.declared.Iad.{Iad}
use Rattle.iad.specs.Iad.{cvr_bytes}
use Rattle.state.specs.declared.Kind.{Kind}
use Rattle.state.specs.declared.Answer.{Answer}
use Rattle.state.specs.declared.Answer.TheVariants.{Refused, Started, Given, Done}
use Rattle.ring.specs.declared.Record.{Record}
use Rattle.ring.specs.Ring.{no_records}
use Rattle.journal.specs.declared.Logging.{Logging}
use Rattle.journal.specs.declared.Cryptogram.{Cryptogram}
use Rattle.journal.specs.declared.Heard.{Heard}
use Rattle.journal.specs.declared.Heard.TheVariants.{First, Second, Other}
use Rattle.journal.specs.Journal.{is_logged, closed_by, watched}

-- what a log hears of a cryptogram: the CVR's five bytes as a number
unfoldable pub cvr_number : Cvr → ℕ
cvr_number cvr = number (cvr_bytes cvr) 0 5

unfoldable pub cryptogram : Kind → (atc : ℕ) → Iad → Cryptogram
cryptogram kind atc iad = record { kind = kind; atc = atc; profile = iad.profile; cvr = cvr_number iad.cvr }

-- a record that was answered, and where its body stood
pub record Seen : Type 0 where
  pub said : Heard
  pub at : ℕ
  pub answer : Answer

-- a cryptogram was given
abbrev pub is_given : Answer → Bool
is_given (Refused refusal) = false
is_given (Started atc visits) = false
is_given (Given kind atc iad) = true
is_given Done = false

abbrev pub is_first : Heard → Bool
is_first First = true
is_first (Second code) = false
is_first Other = false

-- where the last First stood that was answered by a cryptogram
unfoldable pub first_in : List Seen → ℕ
first_in [] = 0
first_in (seen ∷ before) = cond (is_first seen.said && is_given seen.answer) seen.at (first_in before)

-- what one record logs, First having stood at a place
abbrev pub closed_as : Heard → (at first : ℕ) → Cryptogram → List Record
closed_as First at first given = closed_by at 0 given ∷ []
closed_as (Second code) at first given = closed_by first at given ∷ []
closed_as Other at first given = []

abbrev pub logged_given : Logging → Heard → (at first : ℕ) → Cryptogram → List Record
logged_given logging said at first given = cond (is_logged logging said given) (closed_as said at first given) []

abbrev pub logged_by : Logging → Heard → (at first : ℕ) → Answer → List Record
logged_by logging said at first (Refused refusal) = []
logged_by logging said at first (Started atc visits) = []
logged_by logging said at first (Given kind atc iad) = logged_given logging said at first (cryptogram kind atc iad)
logged_by logging said at first Done = []

-- THE LOGGED TRANSACTIONS
unfoldable pub logged_in : Logging → List Seen → List Record
logged_in logging [] = []
logged_in logging (seen ∷ before) = logged_by logging seen.said seen.at (first_in before) seen.answer ++ logged_in logging before

-- the ring after a record that was answered: without a cryptogram it stays
abbrev pub heard_out : Logging → Heard → (at : ℕ) → Answer → (ring : List ℕ) → List ℕ
heard_out logging said at (Refused refusal) ring = ring
heard_out logging said at (Started atc visits) ring = ring
heard_out logging said at (Given kind atc iad) ring = watched logging said at (cryptogram kind atc iad) ring
heard_out logging said at Done ring = ring

-- THE RING after all of them
unfoldable pub ring_after : Logging → List Seen → List ℕ
ring_after logging [] = no_records
ring_after logging (seen ∷ before) = heard_out logging seen.said seen.at seen.answer (ring_after logging before)

-- and the same told from the beginning, the oldest first
unfoldable pub ring_through : Logging → (ring : List ℕ) → List Seen → List ℕ
ring_through logging ring [] = ring
ring_through logging ring (seen ∷ more) = ring_through logging (heard_out logging seen.said seen.at seen.answer ring) more

abbrev pub turned : (before : List Seen) → List Seen → List Seen
turned before [] = before
turned before (seen ∷ more) = turned (seen ∷ before) more
