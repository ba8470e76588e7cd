-- What an auditor has in hand of a card: its set-up's base and its tails of versions 04 and 05, byte by byte, and what else its paper decides.
use Rattle.std.specs.Prelude.{◌≡◌, true, List, [], ℕ}
use Rattle.wire.specs.Wire.{byte, number}
use Rattle.ranges.specs.Ranges.{is_setup}
use Rattle.tails.specs.Tails.{are_cycles, is_family}
use Rattle.element.specs.declared.Write.{Write}
use Rattle.auditor.specs.Template.{InRange}
use Rattle.setup.proofs.Faithful.{Bytes}

pub record Setup : Type 0 where
  pub bytes : List ℕ
  -- version 04's tail from its switch on, with the cyclic accumulators (request Five); no byte where dates are off
  pub tail : List ℕ
  -- version 05's tail from its family byte on, of a CPACE card (request Thirteen); no byte of a CPA one
  pub family : List ℕ
  pub syllabus : ℕ
  -- masks stay below it: 2^22, 2^25 from version 04 on, 2^26 from version 05 on
  pub unnamed : ℕ
  -- what scripts wrote, the newest first (request Twelve): limits, and values, which are not looked at here; nothing in a set-up that is handed in
  pub written : List Write

abbrev pub byte_at : Setup → ℕ → ℕ
byte_at setup at = byte setup.bytes at

abbrev pub number_at : Setup → (at n : ℕ) → ℕ
number_at setup at n = number setup.bytes at n

abbrev pub tail_byte : Setup → ℕ → ℕ
tail_byte setup at = byte setup.tail at

abbrev pub tail_number : Setup → (at n : ℕ) → ℕ
tail_number setup at n = number setup.tail at n

abbrev pub family_byte : Setup → ℕ → ℕ
family_byte setup at = byte setup.family at

-- of a CPA card
abbrev pub IsCpa : Setup → Type 0
IsCpa setup = setup.family ≡ []

-- one that is accepted: bytes, each field in its range, and so is what scripts wrote
pub record AcceptedSetup (setup : Setup) : Type 0 where
  pub bytes : Bytes setup.bytes
  pub tail-bytes : Bytes setup.tail
  pub family-bytes : Bytes setup.family
  pub taken : is_setup setup.bytes setup.unnamed ≡ true
  pub tail-taken : are_cycles setup.tail ≡ true
  pub family-taken : is_family setup.family ≡ true
  pub written-taken : InRange setup.written
