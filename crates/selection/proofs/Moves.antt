-- A step through the file, of the selection and of its reading. Assumes nothing.
use mathlib.Core.Path.{◌≡◌, sym, ap, ap₂, ◌∙◌}
use mathlib.Core.Bool.{false, ◌&&◌}
use mathlib.Core.List.{List}
use Prim.Native.Nat.{ℕ, zero, suc, ◌-◌, ◌≤◌, ◌<◌}
use native.Mathlib.Nat.{sub-zero}
use native.Mathlib.Omega.{arith}
use lib.ListN.{length}
use lib.Dec.{ltb, eqb}
use borrow.Author.Tests.{lt-ltb, le-ltb}
use Rattle.wire.specs.Wire.{byte}
use Rattle.slot.specs.declared.Slots.{Slots}
use Rattle.entry.specs.Entry.{action_taken}
use Rattle.entry.specs.declared.Action.{Action}
use Rattle.entry.specs.declared.Action.TheVariants.{Move}
use Rattle.entry.proofs.Facts.{moves_down}
use Rattle.selection.specs.Selection.{first_entry, below, entries_of, is_file, one_more, follow, select_from, selection_of, skipped}
use Rattle.std.specs.Prelude.{None, Option}
use Rattle.selection.specs.declared.Selected.{Selected}

pub skip_none : (s : List ℕ) (k : ℕ) → k ≡ 0 → s ≡ skipped s k
unfolding skipped
skip_none s k h = rw h

pub skip_more : (s : List ℕ) (k : ℕ) → (k ≡ 0 → ⊥) → skipped s k ≡ skipped (below s) (k - 1)
unfolding skipped
skip_more s k h = let e : k ≡ suc (k - 1) = omega arith in ap (skipped s) e

pub file-none : (s : List ℕ) (n : ℕ) → n ≡ 0 → is_file s n ≡ eqb (length s) 0
unfolding is_file
file-none s n h = rw h

module _ (s : List ℕ) (n : ℕ) (some : n ≡ 0 → ⊥) where
  file-step : is_file s n ≡ ltb (byte s 0) (length s) && is_file (below s) (n - 1)
  unfolding is_file
  file-step = let e : n ≡ suc (n - 1) = omega arith in ap (is_file s) e

  pub file-cut : length s ≤ byte s 0 → is_file s n ≡ false
  file-cut h = file-step ∙ simp (le-ltb _ _ h)

  pub file-more : byte s 0 < length s → is_file s n ≡ is_file (below s) (n - 1)
  file-more h = file-step ∙ simp (lt-ltb _ _ h)

-- a selection that begins at entry k begins at the first entry of what is left
pub from-skipped : (k n : ℕ) (s d : List ℕ) (slots : Slots) → select_from k (entries_of s n) d slots ≡ selection_of (skipped s k) (n - k) d slots
unfolding select_from entries_of skipped selection_of
from-skipped zero n s d slots = simp (sub-zero)
from-skipped (suc k) zero s d slots = let z : 0 - suc k ≡ 0 = omega arith in rw z
from-skipped (suc k) (suc n) s d slots =
    let z : suc n - suc k ≡ n - k = omega arith in
    from-skipped k n (below s) d slots ∙ ap (λ (m : ℕ). selection_of (skipped (below s) k) m d slots) (sym z)

pub none : (s d : List ℕ) (slots : Slots) (n : ℕ) → n ≡ 0 → selection_of s n d slots ≡ None
unfolding selection_of select_from entries_of
none s d slots n h = rw h

-- a visit to the first of some entries, which does r
pub record Visit (s d : List ℕ) (slots : Slots) (n : ℕ) (r : Action) : Type 0 where
  pub some : n ≡ 0 → ⊥
  pub does : r ≡ action_taken (first_entry s) d slots

-- the entry cut out as f
pub visit : (s d f : List ℕ) (slots : Slots) (n : ℕ) (r : Action) → (n ≡ 0 → ⊥) → f ≡ first_entry s → r ≡ action_taken f d slots → Visit s d slots n r
visit s d f slots n r some cut took = record { some = some; does = took ∙ ap (λ (x : List ℕ). action_taken x d slots) cut }

module _ {s d : List ℕ} {slots : Slots} {n : ℕ} {r : Action} (v : Visit s d slots n r) where
  pub step : (a : Action) → r ≡ a → selection_of s n d slots ≡ follow a (λ m. select_from (m - 1) (entries_of (below s) (n - 1)) d slots)
  unfolding selection_of select_from entries_of
  step a e =
      let l : n ≡ suc (n - 1) = omega (arith, v.some) in
      ap (λ (m : ℕ). select_from 0 (entries_of s m) d slots) l
      ∙ ap (λ (x : Action). follow x (λ m. select_from (m - 1) (entries_of (below s) (n - 1)) d slots)) (sym v.does ∙ e)

  -- a move of m, or past the last entry
  module _ {m : ℕ} (e : r ≡ Move m) where
    moved : selection_of s n d slots ≡ one_more (selection_of (skipped s m) (n - m) d slots)
    unfolding follow
    moved =
        let h = moves_down (first_entry s) d slots m (sym v.does ∙ e) in
        let l : n - 1 - (m - 1) ≡ n - m = omega arith in
        let below-is = skip_more s m (λ z. omega arith) in
        step (Move m) e ∙ ap one_more (from-skipped (m - 1) (n - 1) (below s) d slots ∙ ap₂ (λ (t : List ℕ) (k : ℕ). selection_of t k d slots) (sym below-is) l)

    pub moves-on : {t : List ℕ} {q p : Option Selected} → t ≡ skipped s m → q ≡ selection_of t (n - m) d slots → q ≡ p → one_more p ≡ selection_of s n d slots
    moves-on g f a = ap one_more (sym a ∙ f ∙ ap (λ (x : List ℕ). selection_of x (n - m) d slots) g) ∙ sym moved

    pub moves-past : n ≤ m → selection_of s n d slots ≡ None
    moves-past h = moved ∙ ap one_more (none (skipped s m) d slots (n - m) (omega arith))
