-- What a change enters into a meter, and what entries do to a value. Assumes nothing.
use mathlib.Core.Path.{◌≡◌, refl}
use mathlib.Core.Bool.{Bool, true, false, cond, ◌&&◌, and-false}
use mathlib.Core.List.{List, [], ◌∷◌, ◌++◌}
use Prim.Native.Nat.{ℕ, ◌+◌, ◌≤◌}
use native.Mathlib.Omega.{arith}
use borrow.Author.Tests.{ltb-false}
use lib.Dec.{ltb}
use Rattle.money.specs.declared.Converted.{Converted}
use Rattle.money.specs.declared.Converted.TheVariants.{Amount, Over, NoEntry}
use Rattle.money.specs.Money.{max}
use Rattle.rules.specs.declared.Place.{Place}
use Rattle.rules.specs.declared.Values.{Values}
use Rattle.rules.specs.Rules.{Rules}
use Rattle.rules.proofs.Places.{each, both}
use Rattle.purchase.specs.Meter.{Meter, accumulator, counter, cyclic, IsMeter, MeterRule, rule_of, value_of, cap_of, worth_to, takes_up}
use Rattle.meters.specs.declared.Change.{Change}
use Rattle.meters.specs.declared.Change.TheVariants.{Approve, Decline, SetToLimits, Clear}
use Rattle.meters.specs.Meters.{Entry, put, add, move, moved, addition, order, counts, counts_decline, based, added, entered, applied}

-- each meter is moved by what is entered
module _ (rules : Rules) (place : Place) (values : Values) (change : Change) where
  abbrev Moves : Meter → Type 0
  Moves meter = value_of (applied rules place values change) meter ≡ moved (cap_of meter) (value_of values meter) (entered rules place change meter)

  pub applied-moves : (meter : Meter) → IsMeter meter
      → value_of (applied rules place values change) meter ≡ moved (cap_of meter) (value_of values meter) (entered rules place change meter)
  unfolding applied
  applied-moves (accumulator i) l = each (λ i. Moves (accumulator i)) refl refl refl refl i l
  applied-moves (counter i) l = each (λ i. Moves (counter i)) refl refl refl refl i l
  applied-moves (cyclic i) l = both (λ i. Moves (cyclic i)) refl refl i l

-- nothing is entered into what is not active
pub inactive_still : (rules : Rules) (meter : Meter) (rule : MeterRule) (change : Change) → rule.active ≡ false
    → (based rule change ++ added rules meter rule change) ≡ []
inactive_still rules meter rule (Approve purchase) e = simp (e, and-false)
inactive_still rules meter rule Decline e = simp e
inactive_still rules meter rule SetToLimits e = simp e
inactive_still rules meter rule Clear e = simp e

-- an order puts its limit or zero into what is active
pub order_puts : (rules : Rules) (place : Place) (meter : Meter) (cap value : ℕ) (limit : Bool) → (rule_of rules place meter).active ≡ true
    → moved cap value (entered rules place (order limit) meter) ≡ cond limit (rule_of rules place meter).upper 0
order_puts rules place meter cap value true e = simp e
order_puts rules place meter cap value false e = simp e

-- entries behind others move what those left
pub moved_append : (cap value : ℕ) (before behind : List Entry) → moved cap value (before ++ behind) ≡ moved cap (moved cap value before) behind
moved_append cap value [] behind = refl
moved_append cap value (entry ∷ entries) behind = moved_append cap (move cap value entry) entries behind

-- an addition never lowers a value within the cap, and never leaves it above
module _ (cap value n : ℕ) where
  pub add_grows : value ≤ cap → value ≤ move cap value (add n)
  add_grows h = by (ltb cap (value + n)) where
    by : (b : Bool) → value ≤ cond b cap (value + n)
    by true = h
    by false = omega arith

  pub add_most : move cap value (add n) ≤ cap
  add_most = by (ltb cap (value + n)) refl where
    by : (b : Bool) → ltb cap (value + n) ≡ b → cond b cap (value + n) ≤ cap
    by true e = omega arith
    by false e = ltb-false cap (value + n) e

-- an approval that counts an over amount stores MAX, whatever the value was
pub over_stores_max : (value : ℕ) → moved max value (addition Over) ≡ max
over_stores_max value = by (ltb max (value + max)) refl where
  by : (b : Bool) → ltb max (value + max) ≡ b → cond b max (value + max) ≡ max
  by true e = refl
  by false e = let h = ltb-false max (value + max) e in omega arith

-- every value that is put is at most the cap
abbrev pub Puts : ℕ → List Entry → Type 0
Puts cap [] = Unit
Puts cap (put n ∷ entries) = (n ≤ cap) × Puts cap entries
Puts cap (add n ∷ entries) = Puts cap entries

pub moved-most : (cap value : ℕ) (entries : List Entry) → value ≤ cap → Puts cap entries → moved cap value entries ≤ cap
moved-most cap value [] h p = h
moved-most cap value (put n ∷ entries) h p = moved-most cap n entries p.0 p.1
moved-most cap value (add n ∷ entries) h p = moved-most cap (move cap value (add n)) entries (add_most cap value n) p

module _ (cap : ℕ) where
  unless-off : (on : Bool) (entries : List Entry) → Puts cap entries → Puts cap (cond on entries [])
  unless-off true entries p = p
  unless-off false entries p = tt

  addition_puts : (worth : Converted) → Puts cap (addition worth)
  addition_puts (Amount amount) = tt
  addition_puts Over = tt
  addition_puts NoEntry = tt

  active_puts : (active : Bool) (n : ℕ) → n ≤ cap → Puts cap (cond active (put n ∷ []) [] ++ [])
  active_puts true n h = (h, tt)
  active_puts false n h = tt

  -- a change puts nothing above the cap where the upper limit is not above it
  pub entered_puts : (rules : Rules) (meter : Meter) (rule : MeterRule) (change : Change) → rule.upper ≤ cap
      → Puts cap (based rule change ++ added rules meter rule change)
  entered_puts rules meter rule (Approve purchase) h = unless-off (takes_up rules purchase meter && counts rule) _ (addition_puts (worth_to rules purchase meter))
  entered_puts rules meter rule Decline h = unless-off (counts_decline rule) (add 1 ∷ []) tt
  entered_puts rules meter rule SetToLimits h = active_puts rule.active rule.upper h
  entered_puts rules meter rule Clear h = active_puts rule.active 0 (omega arith)
