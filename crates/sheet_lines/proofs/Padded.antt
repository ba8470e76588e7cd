-- A number in its column, and texts in their room. Assumes nothing.
use mathlib.Core.Path.{◌≡◌, refl, ap, ◌∙◌}
use mathlib.Core.List.{List, [], ◌∷◌, ◌++◌}
use mathlib.Core.Bool.{Bool, cond, not, ◌||◌}
use Prim.Native.Nat.{ℕ, zero, suc, ◌+◌, ◌*◌, ◌-◌, ◌≤◌, ◌<◌}
use native.Mathlib.Omega.{arith}
use borrow.Author.Tests.{le-leb, lt-leb}
use lib.Dec.{eqb}
use lib.ListN.{length, get_or, set, take, replicate, length-append, length-replicate}
use lib.Seq.{sets, set_comm, set-set}
use Rattle.text.specs.Stored.{Stored}
use Rattle.text.proofs.Stores.{next}
use Rattle.numerals.specs.Numeral.{numeral}
use Rattle.numerals.proofs.Numerals.{size}
use Rattle.sheet_lines.specs.declared.Form.{Form}
use Rattle.sheet_lines.specs.SheetLines.{padded, head_of, kinds_of, profile_word, is_shown, profile_row, sheet_text, longest, sheet_placed, sheet_behind}
use Rattle.sheet_lines.specs.SheetLines.{refused_line, longest_refused, refused_placed, refused_behind}

-- ---- a text over another that is not longer

set_before : (l a : List ℕ) (i j w : ℕ) → i < j → set (sets l j a) i w ≡ sets (set l i w) j a
set_before l [] i j w h = refl
set_before l (v ∷ a) i j w h = set_before (set l j v) a i (suc j) w (omega arith) ∙ ap (λ s. sets s (suc j) a) (set_comm l j i v w (λ e. omega arith))

over : (l a b : List ℕ) (i : ℕ) → length a ≤ length b → sets (sets l i a) i b ≡ sets l i b
over l [] b i h = refl
over l (v ∷ a) [] i h = let z : ⊥ = omega arith in absurd z
over l (v ∷ a) (w ∷ b) i h =
    ap (λ s. sets s (suc i) b) (set_before (set l i v) a i (suc i) w (omega arith) ∙ ap (λ s. sets s (suc i) a) (set-set l i v w))
    ∙ over (set l i w) a b (suc i) (omega arith)

-- ---- spaces, and the digits

pub some_of : (k m x : ℕ) → k ≤ m → take k (replicate m x) ≡ replicate k x
some_of zero m x h = refl
some_of (suc k) zero x h = let z : ⊥ = omega arith in absurd z
some_of (suc k) (suc m) x h = ap (λ l. x ∷ l) (some_of k m x (omega arith))

pub in_column : {room between spaced after : List ℕ} {at middle front end width gap : ℕ} (n : ℕ) → width ≤ 20 → gap ≡ width - (middle - at)
    → Stored room at (numeral n) 20 middle between → Stored between at (replicate gap 32) gap front spaced → Stored spaced front (numeral n) 20 end after
    → Stored room at (padded width n) 20 end after
unfolding padded
in_column {room} {between} {spaced} {after} {at} {middle} {front} {end} {width} {gap} n narrow g digits spaces again =
    let count : middle - at ≡ length (numeral n) = omega (arith, digits.behind) in
    let is-gap : gap ≡ width - length (numeral n) = g ∙ ap (λ m. width - m) count in
    let both = next spaces again in
    let whole = replicate gap 32 ++ numeral n in
    let long = length-append (replicate gap 32) (numeral n) in
    let blank = length-replicate {A = ℕ} gap 32 in
    let few = size n in
    rw (← is-gap)
    (record {
      is = both.is ∙ ap (λ s. sets s at whole) digits.is ∙ over room (numeral n) whole at (omega arith);
      behind = both.behind;
      short = omega (arith, both.behind);
    })

-- ---- a profile's row, shown or not

module _ (form : Form) (sheet : List ℕ) (number : ℕ) where
  pub profile-by : (shown : Bool)
      → is_shown form (not (eqb (get_or sheet (number * 3 - 2) 0) 0) || not (eqb (get_or sheet (number * 3 - 1) 0) 0) || not (eqb (get_or sheet (number * 3) 0) 0))
      ≡ shown
      → profile_row form sheet number
      ≡ cond shown
      (head_of form profile_word number
      ++ kinds_of form (get_or sheet (number * 3 - 2) 0) (get_or sheet (number * 3 - 1) 0) (get_or sheet (number * 3) 0))
      []
  unfolding profile_row
  profile-by shown e =
      ap
      (λ b. cond b
      (head_of form profile_word number
      ++ kinds_of form (get_or sheet (number * 3 - 2) 0) (get_or sheet (number * 3 - 1) 0) (get_or sheet (number * 3) 0))
      [])
      e

-- ---- in the room, or not

module _ (room : List ℕ) (at : ℕ) (form : Form) (sheet : List ℕ) where
  pub place : {after : List ℕ} {end most : ℕ} → at + longest ≤ length room → Stored room at (sheet_text form sheet) most end after
      → (end ≡ sheet_behind (length room) at form sheet) × (after ≡ sheet_placed room at form sheet)
  unfolding sheet_placed sheet_behind
  place fits p = let room_for = le-leb (at + longest) (length room) fits in (rw room_for p.behind, rw room_for p.is)

  pub stay : length room < at + longest → (at ≡ sheet_behind (length room) at form sheet) × (room ≡ sheet_placed room at form sheet)
  unfolding sheet_placed sheet_behind
  stay full = let none = lt-leb (at + longest) (length room) full in (rw none, rw none)

module _ (room : List ℕ) (at : ℕ) (form : Form) (refusal paper : ℕ) where
  pub place-refused : {after : List ℕ} {end most : ℕ} → at + longest_refused ≤ length room → Stored room at (refused_line form refusal paper) most end after
      → (end ≡ refused_behind (length room) at form refusal paper) × (after ≡ refused_placed room at form refusal paper)
  unfolding refused_placed refused_behind
  place-refused fits p = let room_for = le-leb (at + longest_refused) (length room) fits in (rw room_for p.behind, rw room_for p.is)

  pub stay_refused : length room < at + longest_refused
      → (at ≡ refused_behind (length room) at form refusal paper) × (room ≡ refused_placed room at form refusal paper)
  unfolding refused_placed refused_behind
  stay_refused full = let none = lt-leb (at + longest_refused) (length room) full in (rw none, rw none)
