-- What a run of commands logs (document 02, Eight and Eleven), from its records, the place at which they lie and their answers.
use Rattle.std.specs.Prelude.{ℕ, ◌+◌, cond, List, [], ◌∷◌, eqb, ltb, length, drop}
use Rattle.wire.specs.Wire.{byte, number}
use Rattle.paper.specs.Walk.{Met, met_in}
use Rattle.state.specs.declared.Kind.{Kind}
use Rattle.state.specs.declared.Kind.TheVariants.{Aac, Tc, Arqc}
use Rattle.answers.specs.Answers.{size}
use Rattle.journal.specs.declared.Logging.{Logging}
use Rattle.journal.specs.declared.Cryptogram.{Cryptogram}
use Rattle.journal.specs.declared.Heard.{Heard}
use Rattle.journal.specs.declared.Heard.TheVariants.{First, Second, Other}
use Rattle.journal.specs.Journal.{watched}

-- WHAT IS HEARD of a record, by its kind: First, and Second with its response code; Start and scripts are nothing to a log
abbrev pub heard_by : (kind : ℕ) (body : List ℕ) → Heard
heard_by kind body = cond (eqb kind 3) First (cond (eqb kind 4) (Second (number body 1 2)) Other)

-- AN ANSWER in 36 bytes: refusal (1), CID (1), ATC (2) and IAD (32), in which the CVR's bytes are the fourth to the eighth, and the profile's is the
-- eighteenth
abbrev pub kind_by : (cid : ℕ) → Kind
kind_by cid = cond (eqb cid 0x00) Aac (cond (eqb cid 0x40) Tc Arqc)

unfoldable pub given_by : (answer : List ℕ) → Cryptogram
given_by answer = record { kind = kind_by (byte answer 1); atc = number answer 2 2; profile = byte answer 21; cvr = number answer 7 5 }

-- the answer to a record whose body lies at a place: refusal 0 of a First or a Second is a cryptogram
unfoldable pub watched_answer : Logging → Heard → (at : ℕ) (answer ring : List ℕ) → List ℕ
watched_answer logging said at answer ring = cond (eqb (byte answer 0) 0) (watched logging said at (given_by answer) ring) ring

-- THE RING after records that lie from a place on, each body behind its length (2) and its kind (1), and their answers; where one is missing there is
-- nothing to watch
unfoldable pub ring_over : Logging → (place : ℕ) → List Met → (answers ring : List ℕ) → List ℕ
ring_over logging place [] answers ring = ring
ring_over logging place (met ∷ more) answers ring =
    cond (ltb (length answers) size) ring
    (ring_over logging (place + 3 + length met.body) more (drop size answers)
    (watched_answer logging (heard_by met.kind met.body) (place + 3) answers ring))

-- and so after a run
unfoldable pub ring_run : Logging → (records : List ℕ) (place : ℕ) (answers ring : List ℕ) → List ℕ
ring_run logging records place answers ring = ring_over logging place (met_in (length records) records 0) answers ring
