-- A state that is stored is read back, whatever stands behind it, and how many cells it takes. Assumes nothing.
use mathlib.Core.Path.{◌≡◌, refl}
use mathlib.Core.List.{List, [], ◌∷◌, ◌++◌, append_assoc}
use Prim.Native.Nat.{ℕ}
use native.Mathlib.Nat.{mod-eq_of_lt}
use native.Mathlib.Omega.{arith}
use lib.ListN.{length, get_or}
use Rattle.calendar.specs.declared.Date.{Date}
use Rattle.money.specs.declared.AccumulatorAmount.{AccumulatorAmount}
use Rattle.marks.specs.declared.Scripts.{Scripts}
use Rattle.rules.specs.declared.Values.{Values}
use Rattle.state.specs.declared.History.{History}
use Rattle.state.specs.declared.Phase.{Phase}
use Rattle.state.specs.declared.State.{State}
use Rattle.cells.proofs.Back.{flag_back}
use Rattle.phase_seat.specs.Phases.{purchase_at, pending_at, phase_cells, phase_at}
use Rattle.phase_seat.proofs.Back.{seventeen, phase_spread, phase_back}
use Rattle.seating.specs.States.{value_cells, values_at, mark_cells, state_cells, state_in, ValuesFit, StateFits}

four_is : {A : Type 0} (d : A) (l : List A) → length l ≡ 4 → get_or l 0 d ∷ get_or l 1 d ∷ get_or l 2 d ∷ get_or l 3 d ∷ [] ≡ l
four_is d [] size = absurd (omega arith)
four_is d (a ∷ []) size = absurd (omega arith)
four_is d (a ∷ b ∷ []) size = absurd (omega arith)
four_is d (a ∷ b ∷ c ∷ []) size = absurd (omega arith)
four_is d (a ∷ b ∷ c ∷ e ∷ []) size = refl
four_is d (a ∷ b ∷ c ∷ e ∷ f ∷ l) size = absurd (omega arith)

two_is : {A : Type 0} (d : A) (l : List A) → length l ≡ 2 → get_or l 0 d ∷ get_or l 1 d ∷ [] ≡ l
two_is d [] size = absurd (omega arith)
two_is d (a ∷ []) size = absurd (omega arith)
two_is d (a ∷ b ∷ []) size = refl
two_is d (a ∷ b ∷ c ∷ l) size = absurd (omega arith)

same-values : {a b : List AccumulatorAmount} {c d : List ℕ} {e f : List AccumulatorAmount} → a ≡ b → c ≡ d → e ≡ f
    → ◌≡◌ {A = Values} (record { accumulators = a; counters = c; cyclic = e }) (record { accumulators = b; counters = d; cyclic = f })
same-values p q r = rw (p, q, r)

values_back : (values : Values) → ValuesFit values → values_at (value_cells values) 0 ≡ values
unfolding values_at value_cells
values_back values fits =
    same-values (four_is (record { 0 = 0 }) values.accumulators fits.accumulators)
    (simp (mod-eq_of_lt (fits.bytes 0), mod-eq_of_lt (fits.bytes 1), mod-eq_of_lt (fits.bytes 2), mod-eq_of_lt (fits.bytes 3))
    (four_is 0 values.counters fits.counters))
    (two_is (record { 0 = 0 }) values.cyclic fits.cyclic)

pub value-size : (values : Values) → length (value_cells values) ≡ 10
unfolding value_cells
value-size values = refl

pub mark_size : (state : State) → length (mark_cells state) ≡ 10
unfolding mark_cells
mark_size state = refl

same-state : {a b : Values} {c d : Phase} {e f : ℕ} {g h : Date} {k l : History} {m n : Scripts} → a ≡ b → c ≡ d → e ≡ f → g ≡ h → k ≡ l → m ≡ n
    → ◌≡◌ {A = State} (record { values = a; phase = c; atc = e; last = g; history = k; scripts = m })
    (record { values = b; phase = d; atc = f; last = h; history = l; scripts = n })
same-state p q r t u v = rw (p, q, r, t, u, v)

pub state_back : (state : State) → StateFits state → (rest : List ℕ) → state_in (state_cells state ++ rest) ≡ state
unfolding state_in value_cells mark_cells values_at phase_at pending_at purchase_at
state_back state fits rest =
    let marks = fits.marks in
    let last = marks.last in
    let apart : (more : List ℕ) → phase_cells state.phase ++ more ≡ seventeen (phase_cells state.phase) more = phase_spread state.phase in
    simp (append_assoc, apart)
    (same-state (values_back state.values fits.values) (phase_back state.phase fits.phase) (mod-eq_of_lt marks.atc)
    (simp (mod-eq_of_lt last.year, mod-eq_of_lt last.month, mod-eq_of_lt last.day)) (simp flag_back)
    (simp (mod-eq_of_lt marks.scripts)))
