-- Profiles selected: a CPA card's entries test nothing, and no entry tests accumulator 4, so that of those nothing is asked. Assumes nothing.
use mathlib.Core.Path.{◌≡◌, refl}
use mathlib.Core.Bool.{Bool, true, false}
use mathlib.Core.List.{List, [], ◌∷◌}
use Prim.Native.Nat.{ℕ}
use Rattle.rules.specs.declared.Values.{Values}
use Rattle.purchase.specs.Meter.{Meter, accumulator}
use Rattle.slot.specs.declared.Slots.{Slots}
use Rattle.selection.proofs.Only.{cpa_tests_none, fourth-untested}
use Rattle.shape.specs.declared.Shape.{Shape}
use Rattle.bodies.specs.Bodies.{is_cpace}
use Rattle.choice.specs.Choice.{file_in, slots_of}
use Rattle.paper.specs.Walk.{Met}
use Rattle.runs.specs.Runs.{Card, card_behind}
use Rattle.apart.specs.Off.{IsUntested}
use Rattle.apart_runs.specs.Spared.{AlikeCards, Spared, Chosen}
use Rattle.apart_runs.proofs.Apart.{Apart, apart}
use Rattle.std.specs.Prelude.{None, Option, Some}
use Rattle.shape.specs.declared.SelectionFile.{SelectionFile}

-- no entry of a CPA card
cpa-untested : (selecting : Option SelectionFile) (slots : Slots) (paper : List ℕ) (kind : ℕ) (body : List ℕ) (x : Meter) → slots.testable ≡ false
    → IsUntested selecting slots paper kind body x
cpa-untested None slots paper kind body x none = tt
cpa-untested (Some part) slots paper kind body x none =
    λ is slot its tests. cpa_tests_none (file_in paper part.start part.end) part.entries body slots none slot tests

-- no entry tests accumulator 4
pub fourth_spared : (selecting : Option SelectionFile) (slots : Slots) (paper : List ℕ) (kind : ℕ) (body : List ℕ)
    → IsUntested selecting slots paper kind body (accumulator 3)
fourth_spared None slots paper kind body = tt
fourth_spared (Some part) slots paper kind body =
    λ is slot its tests. fourth-untested (file_in paper part.start part.end) part.entries body slots (rw its at tests)

module _ (x : Meter) (shape : Shape) (paper : List ℕ) where
  untested : (values : Values) (kind : ℕ) (body : List ℕ)
      → (is_cpace shape.family ≡ true → IsUntested shape.selecting (slots_of shape.family values) paper kind body x)
      → IsUntested shape.selecting (slots_of shape.family values) paper kind body x
  unfolding slots_of
  untested values kind body if-cpace = by (is_cpace shape.family) refl where
    by : (t : Bool) → is_cpace shape.family ≡ t → IsUntested shape.selecting (slots_of shape.family values) paper kind body x
    by true e = if-cpace e
    by false e = cpa-untested shape.selecting (slots_of shape.family values) paper kind body x e

  chosen_spared : (mets : List Met) (card : Card) → Chosen shape paper x card mets → Spared shape paper x card mets
  unfolding Chosen Spared
  chosen_spared [] card chosen = tt
  chosen_spared (met ∷ more) card chosen = (
    record { quiet = chosen.0; untested = untested card.state.values met.kind met.body chosen.1 },
    chosen_spared more (card_behind shape paper card met) chosen.2,
  )

  -- PROFILES SELECTED, of both families: only a CPACE card's entries are asked
  pub apart_selected : (mets : List Met) (card other : Card) → AlikeCards x card other → Chosen shape paper x card mets
      → Apart x shape paper card other mets
  apart_selected mets card other alike chosen = apart x shape paper mets card other alike (chosen_spared mets card chosen)
