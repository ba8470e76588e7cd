-- What is logged (document 02, Eight; CPA R15.82 and R17.88, Table L-10), and what a cryptogram does to the ring.
use Rattle.std.specs.Prelude.{ℕ, ◌/◌, ◌%◌, Bool, true, false, cond, ◌&&◌, ◌||◌, List, eqb, get_or}
use Rattle.state.specs.declared.Kind.{Kind}
use Rattle.state.specs.declared.Kind.TheVariants.{Aac, Tc, Arqc}
use Rattle.state.specs.State.{cid_of}
use Rattle.ring.specs.declared.Record.{Record}
use Rattle.ring.specs.Ring.{first_place, first_opened, added}
use Rattle.journal.specs.declared.Logging.{Logging}
use Rattle.journal.specs.declared.Cryptogram.{Cryptogram}
use Rattle.journal.specs.declared.Heard.{Heard}
use Rattle.journal.specs.declared.Heard.TheVariants.{First, Second, Other}

-- WHAT IS HEARD of a record, by its kind: First, and Second with its response code; Start and scripts are nothing to a log
abbrev pub heard_as : (kind code : ℕ) → Heard
heard_as kind code = cond (eqb kind 3) First (cond (eqb kind 4) (Second code) Other)

-- an approval is offline at First, and at Second after Y3 or Z3
abbrev pub is_offline : Heard → Bool
is_offline First = true
is_offline (Second code) = eqb code 0x5933 || eqb code 0x5A33
is_offline Other = false

-- THE SWITCHES: an AAC if "declined" (80); a TC if "approved" (40) and, where "offline only" (20) is on, if it is offline; an ARQC closes nothing
abbrev pub is_wanted : (switches : ℕ) → Heard → Kind → Bool
is_wanted switches said Aac = eqb (switches / 0x80 % 2) 1
is_wanted switches said Tc = eqb (switches / 0x40 % 2) 1 && (eqb (switches / 0x20 % 2) 0 || is_offline said)
is_wanted switches said Arqc = false

-- THE PROFILE, by its number: one of the four that logs
abbrev pub logs_at : Logging → (profile i : ℕ) → Bool
logs_at logging profile i = eqb (get_or logging.numbers i 0) profile && get_or logging.logs i false

unfoldable pub is_logging : Logging → (profile : ℕ) → Bool
is_logging logging profile = logs_at logging profile 0 || logs_at logging profile 1 || logs_at logging profile 2 || logs_at logging profile 3

abbrev pub is_logged : Logging → Heard → Cryptogram → Bool
is_logged logging said given = is_wanted logging.switches said given.kind && is_logging logging given.profile

-- THE RECORD: where First's body lies and where Second's does, 0 for none; the CVR's five bytes as a number, ATC and CID of the closing answer
unfoldable pub closed_by : (first second : ℕ) → Cryptogram → Record
closed_by first second given =
    record { first = first; second = second; cvr = given.cvr; atc = given.atc; cid = cid_of given.kind }

-- A CRYPTOGRAM: a First's place is kept for the Second that may come, and what is closed is added if it is logged
unfoldable pub noted : Logging → Heard → Cryptogram → Record → (ring : List ℕ) → List ℕ
noted logging said given closed ring = cond (is_logged logging said given) (added logging.size closed ring) ring

-- THE RING after it, its record's body lying at a place
unfoldable pub watched : Logging → Heard → (at : ℕ) → Cryptogram → (ring : List ℕ) → List ℕ
watched logging First at given ring = noted logging First given (closed_by at 0 given) (first_opened ring at)
watched logging (Second code) at given ring = noted logging (Second code) given (closed_by (first_place ring) at given) ring
watched logging Other at given ring = ring
