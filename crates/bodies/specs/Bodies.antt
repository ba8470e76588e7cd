-- The bodies of Start and First (document 01, "The paper"; document 02, Five and Thirteen).
use Rattle.std.specs.Prelude.{ℕ, ◌+◌, Bool, true, false, cond, List, None, Option, Some}
use Rattle.wire.specs.Wire.{byte}
use Rattle.cpace.specs.declared.Cvm.{Cvm}
use Rattle.cpace.specs.declared.Cvm.TheVariants.{NoCvm}
use Rattle.cpace.specs.Cpace.{cvm_at, cashback_at}
use Rattle.shape.specs.declared.Family.{Family}
use Rattle.shape.specs.declared.Family.TheVariants.{Cpa, Cpace}
use Rattle.shape.specs.declared.Span.{Span}

abbrev pub is_cpace : Family → Bool
is_cpace Cpa = false
is_cpace (Cpace start end) = true

-- the interface: a CPACE Start's first byte; a CPA card does not ask it
abbrev pub interface_of : Family → List ℕ → ℕ
interface_of Cpa body = 0
interface_of (Cpace start end) body = byte body 0

-- profile (1), to a CPACE card interface (1) and profile (1): named, with no entry visited
abbrev pub start_length : Family → ℕ
start_length Cpa = 1
start_length (Cpace start end) = 2

abbrev pub profile_named : Family → List ℕ → ℕ
profile_named Cpa body = byte body 0
profile_named (Cpace start end) body = byte body 1

-- type (1), amount (8), currency (2), terminal type (1); where the paper is dated, the date (3); to a CPACE card, CVM results (3) and cashback (6)
abbrev pub plain_length : Option Span → ℕ
plain_length None = 12
plain_length (Some part) = 15

abbrev pub first_length : Option Span → Family → ℕ
first_length dating family = cond (is_cpace family) (plain_length dating + 9) (plain_length dating)

-- to a CPA card every transaction is one with no CVM and no cashback
abbrev pub cvm_of : Option Span → Family → List ℕ → Cvm
cvm_of dating family body = cond (is_cpace family) (cvm_at body (plain_length dating)) NoCvm

abbrev pub cashback_of : Option Span → Family → List ℕ → Bool
cashback_of dating family body = cond (is_cpace family) (cashback_at body (plain_length dating + 3)) false
