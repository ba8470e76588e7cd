-- The phase of a card's state in 17 cells: idle, opened at a place, or asked, and then what a Second needs of its First.
use Rattle.std.specs.Prelude.{ℕ, ◌+◌, ◌%◌, cond, List, [], ◌∷◌, ◌++◌, eqb, replicate}
use Rattle.cpace.specs.declared.Cvm.{Cvm}
use Rattle.cpace.specs.declared.Cvm.TheVariants.{OnlinePin, Signature, NoCvm}
use Rattle.purchase.specs.declared.Timing.{Timing}
use Rattle.purchase.specs.declared.Timing.TheVariants.{Undated, InOrder, DateError}
use Rattle.purchase.specs.declared.Purchase.{Purchase}
use Rattle.rules.specs.declared.Place.{Place}
use Rattle.rules.specs.declared.Place.TheVariants.{One, Two, Three, Four}
use Rattle.state.specs.declared.Pending.{Pending}
use Rattle.state.specs.declared.Phase.{Phase}
use Rattle.state.specs.declared.Phase.TheVariants.{Idle, Opened, Asked}
use Rattle.cells.specs.Cells.{cell_at, flag_of, is_on, date_cells, date_at, history_cells, history_at, Byte, TwoBytes, DateFits}

-- one of the four places of a profile, and a CVM
abbrev pub place_number : Place → ℕ
place_number One = 0
place_number Two = 1
place_number Three = 2
place_number Four = 3

abbrev pub place_of : ℕ → Place
place_of n = cond (eqb n 0) One (cond (eqb n 1) Two (cond (eqb n 2) Three Four))

abbrev pub cvm_number : Cvm → ℕ
cvm_number OnlinePin = 0
cvm_number Signature = 1
cvm_number NoCvm = 2

abbrev pub cvm_of : ℕ → Cvm
cvm_of n = cond (eqb n 0) OnlinePin (cond (eqb n 1) Signature NoCvm)

-- how a purchase's date stands to the last one
abbrev pub timing_cells : Timing → List ℕ
timing_cells Undated = 0 ∷ 0 ∷ 0 ∷ 0 ∷ []
timing_cells InOrder = 1 ∷ 0 ∷ 0 ∷ 0 ∷ []
timing_cells (DateError date) = 2 ∷ date_cells date

abbrev pub timing_at : List ℕ → (at : ℕ) → Timing
timing_at cells at = cond (eqb (cell_at cells at) 0) Undated (cond (eqb (cell_at cells at) 1) InOrder (DateError (date_at cells (at + 1))))

unfoldable pub purchase_cells : Purchase → List ℕ
purchase_cells purchase =
    (purchase.amount.0 ∷ purchase.currency ∷ []) ++ timing_cells purchase.timing ++ (cvm_number purchase.cvm ∷ flag_of purchase.cashback ∷ [])

unfoldable pub purchase_at : List ℕ → (at : ℕ) → Purchase
purchase_at cells at =
    record {
      amount = record { 0 = cell_at cells at };
      currency = cell_at cells (at + 1) % 65536;
      timing = timing_at cells (at + 2);
      cvm = cvm_of (cell_at cells (at + 6));
      cashback = is_on (cell_at cells (at + 7));
    }

-- what a Second needs of its First
unfoldable pub pending_cells : Pending → List ℕ
pending_cells pending =
    (place_number pending.place ∷ []) ++ purchase_cells pending.purchase ++ (pending.limits ∷ []) ++ history_cells pending.history
    ++ (pending.scripts.0 ∷ [])

unfoldable pub pending_at : List ℕ → (at : ℕ) → Pending
pending_at cells at =
    record {
      purchase = purchase_at cells (at + 1);
      limits = cell_at cells (at + 9) % 256;
      place = place_of (cell_at cells at);
      history = history_at cells (at + 10);
      scripts = record { 0 = cell_at cells (at + 15) % 256 };
    }

-- 0 idle, 1 opened at a place, 2 asked
unfoldable pub phase_cells : Phase → List ℕ
phase_cells Idle = replicate 17 0
phase_cells (Opened place) = 1 ∷ place_number place ∷ replicate 15 0
phase_cells (Asked pending) = 2 ∷ pending_cells pending

unfoldable pub phase_at : List ℕ → (at : ℕ) → Phase
phase_at cells at =
    cond (eqb (cell_at cells at) 0) Idle
    (cond (eqb (cell_at cells at) 1) (Opened (place_of (cell_at cells (at + 1)))) (Asked (pending_at cells (at + 1))))

-- fields in the ranges of their types, where a cell is wider than the field
abbrev pub TimingFits : Timing → Type 0
TimingFits Undated = Unit
TimingFits InOrder = Unit
TimingFits (DateError date) = DateFits date

pub record PendingFits (pending : Pending) : Type 0 where
  pub currency : TwoBytes pending.purchase.currency
  pub timing : TimingFits pending.purchase.timing
  pub limits : Byte pending.limits
  pub scripts : Byte pending.scripts.0

abbrev pub PhaseFits : Phase → Type 0
PhaseFits Idle = Unit
PhaseFits (Opened place) = Unit
PhaseFits (Asked pending) = PendingFits pending
