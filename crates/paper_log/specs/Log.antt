-- The log of a paper (document 02, Eight): what its set-up says of it, and what a record is to it.
use Rattle.std.specs.Prelude.{ℕ, ◌+◌, ◌-◌, Bool, true, false, cond, ◌&&◌, List, [], ◌∷◌, eqb, leb, length, take, drop, replicate, None, Option, Some}
use Rattle.std.specs.Borrow.{Bor}
use Rattle.wire.specs.Wire.{byte, number}
use Rattle.rules.specs.declared.Place.TheVariants.{One, Two, Three, Four}
use Rattle.rules.specs.Rules.{Rules, profile_at}
use Rattle.shape.specs.declared.Shape.{Shape}
use Rattle.bodies.specs.Bodies.{is_cpace}
use Rattle.log_tail.specs.LogTail.{size_in, switches_in, logs_in}
use Rattle.log_fields.specs.declared.Form.{Form}
use Rattle.journal.specs.declared.Logging.{Logging}
use Rattle.journal.specs.declared.Heard.{Heard}
use Rattle.journal.specs.declared.Heard.TheVariants.{First, Second, Other}
use Rattle.paper_log.specs.declared.Log.{Log}
use Rattle.shape.specs.declared.Span.{Span}

-- the tail lies in the paper; what does not is empty
abbrev pub tail_at : (paper : List ℕ) (start end : ℕ) → List ℕ
tail_at paper start end = cond (leb start end && leb end (length paper)) (take (end - start) (drop start paper)) []

-- and where it lies
abbrev pub tail_place : (paper : Bor (List ℕ)) (start end : ℕ) → ℕ × ℕ
tail_place paper start end = cond (leb start end && leb end (length paper.now)) (paper.ref_ptr.0, paper.ref_ptr.1 + start) paper.ref_ptr

-- WHAT GOES IN: the ring's size and the switches; of each profile its number and whether it logs. Where there is no profile the number is 0, which
-- none has
abbrev pub logging_in : Rules → (tail : List ℕ) → Logging
logging_in rules tail =
    record {
      size = size_in tail;
      switches = switches_in tail;
      numbers =
          (profile_at rules One).number ∷ (profile_at rules Two).number ∷ (profile_at rules Three).number ∷ (profile_at rules Four).number ∷ [];
      logs = logs_in tail 0 ∷ logs_in tail 1 ∷ logs_in tail 2 ∷ logs_in tail 3 ∷ [];
    }

abbrev pub no_logging : Logging
no_logging = record { size = 0; switches = 0; numbers = replicate 4 0; logs = replicate 4 false }

-- WHAT ITS LINES MUST KNOW: the number of profiles, the fourth byte of the set-up's body, which begins at 4; whether Firsts have a date; whether
-- the card is a CPACE one
abbrev pub is_dated : Option Span → Bool
is_dated None = false
is_dated (Some part) = true

abbrev pub form_of : Shape → (paper : List ℕ) → Form
form_of shape paper = record { profiles = byte paper 7; dated = is_dated shape.dating; cpace = is_cpace shape.family }

-- THE LOG of a paper of a shape, by the rules that its set-up gives
abbrev pub tailed : Rules → Shape → (paper : List ℕ) → Option Span → Log
tailed rules shape paper None = record { logging = no_logging; form = form_of shape paper; start = 0; end = 0 }
tailed rules shape paper (Some part) =
    record { logging = logging_in rules (tail_at paper part.start part.end); form = form_of shape paper; start = part.start; end = part.end }

unfoldable pub log_of : Rules → Shape → (paper : List ℕ) → Log
log_of rules shape paper = tailed rules shape paper shape.logging

-- WHAT IT HEARS of a record that is answered, by its kind, which stands behind its length: First, and Second with its response code; Start and
-- scripts are nothing to it
abbrev pub heard_in : (bytes : List ℕ) → Heard
heard_in bytes = cond (eqb (byte bytes 2) 3) First (cond (eqb (byte bytes 2) 4) (Second (number bytes 4 2)) Other)
