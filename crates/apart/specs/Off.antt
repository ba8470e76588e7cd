-- A meter that is switched off (document 02, Fourteen): inactive and not sent in the open profile, and tested by no entry that chose it.
use Rattle.std.specs.Prelude.{ℕ, ◌+◌, ◌≡◌, false, List, None, Option, Some}
use Rattle.rules.specs.declared.Place.{Place}
use Rattle.rules.specs.declared.Sent.{Sent}
use Rattle.rules.specs.Rules.{Rules, profile_at}
use Rattle.purchase.specs.Meter.{Meter, accumulator, counter, cyclic, rule_of}
use Rattle.block.specs.declared.Slot.{Slot}
use Rattle.block.specs.declared.Slot.TheVariants.{Accumulator, Counter}
use Rattle.slot.specs.declared.Slots.{Slots}
use Rattle.selection.specs.Visits.{Tests}
use Rattle.shape.specs.declared.Shape.{Shape}
use Rattle.choice.specs.Choice.{file_in, slots_of}
use Rattle.state.specs.declared.Phase.{Phase}
use Rattle.state.specs.declared.Phase.TheVariants.{Idle, Opened, Asked}
use Rattle.state.specs.declared.State.{State}
use Rattle.shape.specs.declared.SelectionFile.{SelectionFile}

-- NOT SENT: another accumulator or none, and two other counters or none; a cyclic accumulator never is
abbrev pub IsUnsent : Sent → Meter → Type 0
IsUnsent sent (accumulator i) = sent.accumulator ≡ i + 1 → ⊥
IsUnsent sent (counter i) = (sent.first ≡ i + 1 → ⊥) × (sent.second ≡ i + 1 → ⊥)
IsUnsent sent (cyclic i) = Unit

-- OFF in the profile at a place
pub record IsOff (rules : Rules) (x : Meter) (place : Place) : Type 0 where
  pub inactive : (rule_of rules place x).active ≡ false
  pub unsent : IsUnsent (profile_at rules place).sent x

-- in the open profile, where one is open
abbrev pub Quiet : Rules → Meter → Phase → Type 0
Quiet rules x Idle = Unit
Quiet rules x (Opened place) = IsOff rules x place
Quiet rules x (Asked pending) = IsOff rules x pending.place

-- UNTESTED: no entry that a Start visits tests it; none tests a cyclic accumulator
abbrev pub IsSlot : Meter → Slot → Type 0
IsSlot (accumulator i) slot = slot ≡ Accumulator (i + 1)
IsSlot (counter i) slot = slot ≡ Counter (i + 1)
IsSlot (cyclic i) slot = ⊥

abbrev pub IsUntested : Option SelectionFile → Slots → (paper : List ℕ) (kind : ℕ) (body : List ℕ) → Meter → Type 0
IsUntested None slots paper kind body x = Unit
IsUntested (Some part) slots paper kind body x =
    kind ≡ 2 → (slot : Slot) → IsSlot x slot → Tests (file_in paper part.start part.end) part.entries body slots slot → ⊥

-- A RECORD SPARES IT on a card: it is off in the open profile, and untested
pub record Spares (rules : Rules) (shape : Shape) (state : State) (paper : List ℕ) (kind : ℕ) (body : List ℕ) (x : Meter) : Type 0 where
  pub quiet : Quiet rules x state.phase
  pub untested : IsUntested shape.selecting (slots_of shape.family state.values) paper kind body x
