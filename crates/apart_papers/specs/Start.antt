-- Set-ups and papers that are the same but for what one meter starts from (document 02, Fourteen).
use Rattle.std.specs.Prelude.{ℕ, ◌+◌, ◌*◌, ◌<◌, ◌≤◌, ◌≡◌, ◌⊎◌, List, length}
use Rattle.wire.specs.Wire.{byte}
use Rattle.purchase.specs.Meter.{Meter, accumulator, counter, cyclic}

-- one of the four accumulators or the four counters
abbrev pub IsSwitch : Meter → Type 0
IsSwitch (accumulator i) = i < 4
IsSwitch (counter i) = i < 4
IsSwitch (cyclic i) = ⊥

-- WHERE A SET-UP'S BODY HOLDS IT (document 01, "The paper"): accumulator i + 1 in 8 bytes behind its currency, counter i + 1 in one byte
abbrev pub start_at : Meter → ℕ
start_at (accumulator i) = 10 + 10 * i
start_at (counter i) = 48 + i
start_at (cyclic i) = 0

abbrev pub start_length : Meter → ℕ
start_length (accumulator i) = 8
start_length (counter i) = 1
start_length (cyclic i) = 0

-- bytes that are the same but for so many from a place on
pub record SameBut (from size : ℕ) (s t : List ℕ) : Type 0 where
  pub as_long : length s ≡ length t
  pub elsewhere : (k : ℕ) → (k < from) ⊎ (from + size ≤ k) → byte s k ≡ byte t k

-- two set-ups' bodies; two papers, in which the body stands behind version, length and kind
abbrev pub SameSetups : Meter → (s t : List ℕ) → Type 0
SameSetups x s t = SameBut (start_at x) (start_length x) s t

abbrev pub SamePapers : Meter → (p q : List ℕ) → Type 0
SamePapers x p q = SameBut (4 + start_at x) (start_length x) p q
