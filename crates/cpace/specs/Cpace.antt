-- What CPACE asks of a transaction (document 02, Thirteen; CPACE C.80 to C.83 and Tables 45 and 63).
use Rattle.std.specs.Prelude.{ℕ, ◌+◌, ◌/◌, ◌%◌, Bool, cond, not, List, eqb}
use Rattle.wire.specs.Wire.{byte, number}
use Rattle.cpace.specs.declared.Cvm.{Cvm}
use Rattle.cpace.specs.declared.Cvm.TheVariants.{OnlinePin, Signature, NoCvm}

-- the CVM of a code, by its low six bits: 02 online PIN, 1E signature, else no CVM; its upper two bits are not asked
abbrev pub method_of : (code : ℕ) → Cvm
method_of code = cond (eqb (code % 64) 0x02) OnlinePin (cond (eqb (code % 64) 0x1E) Signature NoCvm)

-- the transaction's CVM by First's CVM results, the three bytes at a place: that of the first byte if the last one is 00, else no CVM; the second
-- byte is not asked
unfoldable pub cvm_at : List ℕ → (at : ℕ) → Cvm
cvm_at s at = cond (eqb (byte s (at + 2)) 0) (method_of (byte s at)) NoCvm

-- a control has the CVM's bit: 4 online PIN, 2 signature, 1 no CVM (8, offline PIN, is never asked); then it closes its slot
abbrev pub closes : (control : ℕ) → Cvm → Bool
closes control OnlinePin = eqb (control / 4 % 2) 1
closes control Signature = eqb (control / 2 % 2) 1
closes control NoCvm = eqb (control % 2) 1

-- some of the six bytes of the cashback amount at a place is not 0; its digits are not judged
unfoldable pub cashback_at : List ℕ → (at : ℕ) → Bool
cashback_at s at = not (eqb (number s at 6) 0)
