-- A phase that is stored is read back, and how many cells it takes. Assumes nothing.
use mathlib.Core.Path.{◌≡◌, refl, sym, ap, ◌∙◌}
use mathlib.Core.List.{List, [], ◌∷◌, ◌++◌, append-nil}
use Prim.Native.Nat.{ℕ}
use native.Mathlib.Nat.{mod-eq_of_lt}
use lib.ListN.{length, get_or}
use Rattle.cpace.specs.declared.Cvm.{Cvm}
use Rattle.cpace.specs.declared.Cvm.TheVariants.{OnlinePin, Signature, NoCvm}
use Rattle.purchase.specs.declared.Timing.{Timing}
use Rattle.purchase.specs.declared.Timing.TheVariants.{Undated, InOrder, DateError}
use Rattle.rules.specs.declared.Place.{Place}
use Rattle.rules.specs.declared.Place.TheVariants.{One, Two, Three, Four}
use Rattle.state.specs.declared.Phase.{Phase}
use Rattle.state.specs.declared.Phase.TheVariants.{Idle, Opened, Asked}
use Rattle.cells.proofs.Spread.{four}
use Rattle.cells.proofs.Back.{flag_back}
use Rattle.phase_seat.specs.Phases.{place_number, place_of, cvm_number, cvm_of, timing_cells, timing_at, purchase_cells, purchase_at, pending_cells, pending_at, phase_cells, phase_at}
use Rattle.phase_seat.specs.Phases.{TimingFits, PhaseFits}
use Rattle.phase_seat.proofs.Spread.{timing_spread}

place_back : (place : Place) → place_of (place_number place) ≡ place
place_back One = refl
place_back Two = refl
place_back Three = refl
place_back Four = refl

cvm_back : (cvm : Cvm) → cvm_of (cvm_number cvm) ≡ cvm
cvm_back OnlinePin = refl
cvm_back Signature = refl
cvm_back NoCvm = refl

timing_back : (timing : Timing) → TimingFits timing → timing_at (timing_cells timing) 0 ≡ timing
timing_back Undated fits = refl
timing_back InOrder fits = refl
timing_back (DateError date) fits = simp (mod-eq_of_lt fits.year, mod-eq_of_lt fits.month, mod-eq_of_lt fits.day)

-- the cells of a phase, one by one
abbrev pub seventeen : List ℕ → List ℕ → List ℕ
seventeen cells rest =
    four cells (get_or cells 4 0 ∷ get_or cells 5 0 ∷ get_or cells 6 0 ∷ get_or cells 7 0 ∷ get_or cells 8 0 ∷ get_or cells 9 0 ∷ get_or cells 10 0
    ∷ get_or cells 11 0 ∷ get_or cells 12 0 ∷ get_or cells 13 0 ∷ get_or cells 14 0 ∷ get_or cells 15 0 ∷ get_or cells 16 0 ∷ rest)

pub phase_spread : (phase : Phase) (rest : List ℕ) → phase_cells phase ++ rest ≡ seventeen (phase_cells phase) rest
unfolding phase_cells pending_cells purchase_cells
phase_spread Idle rest = refl
phase_spread (Opened place) rest = refl
phase_spread (Asked pending) rest =
    let apart : (more : List ℕ) → timing_cells pending.purchase.timing ++ more ≡ four (timing_cells pending.purchase.timing) more
    = λ more. sym (timing_spread pending.purchase.timing more) in
    simp apart

pub phase_back : (phase : Phase) → PhaseFits phase → phase_at (phase_cells phase) 0 ≡ phase
unfolding phase_cells pending_cells purchase_cells phase_at pending_at purchase_at
phase_back Idle fits = refl
phase_back (Opened place) fits = ap Opened (place_back place)
phase_back (Asked pending) fits =
    let purchase = pending.purchase in
    let history = pending.history in
    let apart : (more : List ℕ) → timing_cells purchase.timing ++ more ≡ four (timing_cells purchase.timing) more
    = λ more. sym (timing_spread purchase.timing more) in
    simp apart
    (simp (
      timing_back purchase.timing fits.timing,
      mod-eq_of_lt fits.currency,
      mod-eq_of_lt fits.limits,
      mod-eq_of_lt fits.scripts,
      place_back pending.place,
      cvm_back purchase.cvm,
      flag_back,
    ))

pub phase-size : (phase : Phase) → length (phase_cells phase) ≡ 17
phase-size phase = sym (ap length (append-nil (phase_cells phase))) ∙ ap length (phase_spread phase [])
