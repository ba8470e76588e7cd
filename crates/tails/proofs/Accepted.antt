-- What is accepted is exactly the list of ranges, field by field over the bytes: for the tail of version 04 request Five's, for that of version
-- 05 request Thirteen's. Assumes nothing.
use mathlib.Core.Path.{◌≡◌}
use mathlib.Core.Bool.{true}
use mathlib.Core.List.{List}
use mathlib.Core.Logic.{◌⊎◌}
use Prim.Native.Nat.{ℕ, ◌+◌, ◌≤◌, ◌<◌}
use lib.ListN.{length}
use Rattle.wire.specs.Wire.{byte, number}
use Rattle.money.specs.Money.{max}
use Rattle.calendar.specs.Calendar.{date_at, is_day}
use Rattle.layout.specs.Layout as layout
use Rattle.ranges.proofs.Accepted.{Currency, currency}
use Rattle.ranges.proofs.Decides.{Decides, ◌and◌, ◌or◌, ◌with◌, at_most, equal, each, itself, stated}
use Rattle.tails.specs.Tails.{is_cycle, is_cyclic_rule, are_cyclic_rules, are_cycles, is_family}

-- a cyclic accumulator of the tail of version 04, at its place
pub record CycleRanges (t : List ℕ) (at : ℕ) : Type 0 where
  pub currency : Currency (number t at 2)
  pub amount : number t (at + layout.cycle_amount) 8 ≤ max
  pub kind-least : 1 ≤ byte t (at + layout.cycle_kind)
  pub kind-most : byte t (at + layout.cycle_kind) ≤ 3
  pub first-day : byte t (at + layout.first_day) ≤ 6

-- its rule in a profile, at its place
pub record CyclicRuleRanges (t : List ℕ) (at : ℕ) : Type 0 where
  pub switches : byte t at ≤ 7
  pub limit : number t (at + layout.cyclic_limit) 8 ≤ max

-- that tail, where dates are on: of a profile that is not there every byte reads as 0
pub record CyclesRanges (t : List ℕ) : Type 0 where
  pub last : is_day (date_at t layout.last_date) ≡ true
  pub cycles : (i : ℕ) → i < 2 → CycleRanges t (layout.cycle_from i)
  pub rules : (j : ℕ) → j < 4 → (i : ℕ) → i < 2 → CyclicRuleRanges t (layout.cyclic_rule_from j i)

-- where they are off it has no byte
abbrev pub CyclesAccepted : List ℕ → Type 0
CyclesAccepted t = (length t ≡ 0) ⊎ CyclesRanges t

-- the tail of version 05 of a CPACE card; a CPA one's has no byte
pub record FamilyRanges (f : List ℕ) : Type 0 where
  pub controls : (i : ℕ) → i < 8 → byte f (layout.control_from i) ≤ 15
  pub cashbacks : (j : ℕ) → j < 4 → byte f (layout.cashback_from j) ≤ 1

abbrev pub FamilyAccepted : List ℕ → Type 0
FamilyAccepted f = (length f ≡ 0) ⊎ FamilyRanges f

module _ (t : List ℕ) where
  cycle : (at : ℕ) → Decides (is_cycle t at) (CycleRanges t at)
  unfolding is_cycle
  cycle at =
      stated (currency _ and at_most _ _ and at_most _ _ and at_most _ _ and at_most _ _)
      (λ ((((c, amount), least), most), first). record { currency = c; amount = amount; kind-least = least; kind-most = most; first-day = first })
      (λ c. c.currency with c.amount with c.kind-least with c.kind-most with c.first-day)

  cyclic-rule : (at : ℕ) → Decides (is_cyclic_rule t at) (CyclicRuleRanges t at)
  unfolding is_cyclic_rule
  cyclic-rule at = stated (at_most _ _ and at_most _ _) (λ (w, l). record { switches = w; limit = l }) (λ r. r.switches with r.limit)

  cyclic-rules : (j : ℕ) → Decides (are_cyclic_rules t j) ((i : ℕ) → i < 2 → CyclicRuleRanges t (layout.cyclic_rule_from j i))
  unfolding are_cyclic_rules
  cyclic-rules j = each 2 (λ i. cyclic-rule (layout.cyclic_rule_from j i))

  cycles_decided : Decides (are_cycles t) (CyclesAccepted t)
  unfolding are_cycles
  cycles_decided =
      equal _ _
      or stated (itself _ and each 2 (λ i. cycle (layout.cycle_from i)) and each 4 cyclic-rules)
      (λ ((last, cycles), rules). record { last = last; cycles = cycles; rules = rules })
      (λ r. r.last with r.cycles with r.rules)

  pub cycles-accepted : are_cycles t ≡ true → CyclesAccepted t
  cycles-accepted = cycles_decided.0

  pub cycles_complete : CyclesAccepted t → are_cycles t ≡ true
  cycles_complete = cycles_decided.1

module _ (f : List ℕ) where
  family_decided : Decides (is_family f) (FamilyAccepted f)
  unfolding is_family
  family_decided =
      equal _ _
      or stated (each 8 (λ i. at_most (byte f (layout.control_from i)) 15) and each 4 (λ j. at_most (byte f (layout.cashback_from j)) 1))
      (λ (controls, cashbacks). record { controls = controls; cashbacks = cashbacks })
      (λ r. r.controls with r.cashbacks)

  pub family-accepted : is_family f ≡ true → FamilyAccepted f
  family-accepted = family_decided.0

  pub family_complete : FamilyAccepted f → is_family f ≡ true
  family_complete = family_decided.1
