-- What is logged in CPA's own words (R15.82 and R17.88, with document 01's Z3 beside Y3), by the bits of the switches. Assumes nothing.
use mathlib.Core.Path.{◌≡◌, refl}
use mathlib.Core.Bool.{Bool, true, false, not, ◌&&◌, ◌||◌}
use Prim.Native.Nat.{ℕ, ◌+◌, ◌*◌, ◌/◌, ◌%◌, ◌<◌}
use native.Mathlib.Omega.{arith}
use borrow.Author.Tests.{eqb-true, eqb-false, eq-eqb, ne_eqb}
use lib.Dec.{eqb}
use Rattle.state.specs.declared.Kind.{Kind}
use Rattle.state.specs.declared.Kind.TheVariants.{Aac, Tc, Arqc}
use Rattle.journal.specs.declared.Heard.TheVariants.{First, Second}
use Rattle.journal.specs.Journal.{is_wanted}

-- the response is a TC, or an AAC
abbrev is_tc : Kind → Bool
is_tc Aac = false
is_tc Tc = true
is_tc Arqc = false

abbrev is_aac : Kind → Bool
is_aac Aac = true
is_aac Tc = false
is_aac Arqc = false

-- the terminal was unable to go online: the response code was Y3 ("Y" is 59, "Z" is 5A, "3" is 33), or Z3
abbrev is_unable : ℕ → Bool
is_unable code = eqb code (0x59 * 256 + 0x33) || eqb code (0x5A * 256 + 0x33)

bit-off : (bit : ℕ) → bit < 2 → eqb bit 1 ≡ not (eqb bit 0)
bit-off bit h = by (eqb bit 0) refl where
  by : (b : Bool) → eqb bit 0 ≡ b → eqb bit 1 ≡ not (eqb bit 0)
  by true e = let off = eqb-true bit 0 e in rw e (ne_eqb bit 1 (λ q. omega arith))
  by false e = let on = eqb-false bit 0 e in rw e (eq-eqb bit 1 (omega arith))

-- b8 "Log Declined Transactions", b7 "Log Approved Transactions", b6 "Log Offline Only", and the bits below
module _ (declined approved offline below : ℕ) (d : declined < 2) (a : approved < 2) (o : offline < 2) (b : below < 32) where
  abbrev switches : ℕ
  switches = 128 * declined + 64 * approved + 32 * offline + below

  declined-is : switches / 128 % 2 ≡ declined
  declined-is = omega arith

  approved-is : switches / 64 % 2 ≡ approved
  approved-is = omega arith

  offline-is : switches / 32 % 2 ≡ offline
  offline-is = omega arith

  -- at First: a TC with "Log Approved Transactions", or an AAC with "Log Declined Transactions"
  pub by_15_82 : (kind : Kind) → is_wanted switches First kind ≡ ((is_tc kind && eqb approved 1) || (is_aac kind && eqb declined 1))
  by_15_82 Aac = rw declined-is
  by_15_82 Tc = rw (approved-is, offline-is) (by (eqb approved 1) (eqb offline 0)) where
    by : (x z : Bool) → (x && (z || true)) ≡ (x || false)
    by true true = refl
    by true false = refl
    by false z = refl
  by_15_82 Arqc = refl

  -- at Second: a TC with "approved" and without "offline only"; a TC with both, the terminal having been unable to go online; an AAC with "declined"
  pub by_17_88 : (code : ℕ) (kind : Kind) → is_wanted switches (Second code) kind ≡
      ((is_tc kind && eqb approved 1 && eqb offline 0) || (is_tc kind && eqb approved 1 && eqb offline 1 && is_unable code) || (is_aac kind && eqb declined 1))
  by_17_88 code Aac = rw declined-is
  by_17_88 code Tc = rw (approved-is, offline-is, bit-off offline o) (by (eqb approved 1) (eqb offline 0) (is_unable code)) where
    by : (x z u : Bool) → (x && (z || u)) ≡ ((x && z) || (x && not z && u) || false)
    by true true u = refl
    by true false true = refl
    by true false false = refl
    by false z u = refl
  by_17_88 code Arqc = refl
