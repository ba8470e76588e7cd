-- Lists by their places: what is said at a place, what holds of each, that no two are alike. Assumes nothing.
use mathlib.Core.Path.{◌≡◌, refl}
use mathlib.Core.Bool.{Bool, true, false, cond}
use mathlib.Core.List.{List, [], ◌∷◌}
use Prim.Native.Nat.{ℕ, zero, suc, ◌≤◌, ◌<◌}
use native.Mathlib.Omega.{arith}
use borrow.Author.Tests.{lt-ltb, le-ltb, ltb-true, ltb-false}
use lib.Dec.{ltb}
use lib.ListN.{length, get_or}
use Rattle.rows.specs.Said.{said_at}
use Rattle.rows.specs.InRange.{Each, NoTwo}

less_suc : (i n : ℕ) → ltb (suc i) (suc n) ≡ ltb i n
less_suc i n = by (ltb i n) refl where
  by : (t : Bool) → ltb i n ≡ t → ltb (suc i) (suc n) ≡ t
  by true e = let l = ltb-true i n e in lt-ltb (suc i) (suc n) (omega arith)
  by false e = let l = ltb-false i n e in le-ltb (suc i) (suc n) (omega arith)

module _ {A : Type 0} where
  pub said-there : {B : Type 0} (said : A → B) (blank y : B) (xs : List A) (i : ℕ) → (i < length xs → (d : A) → y ≡ said (get_or xs i d))
      → cond (ltb i (length xs)) y blank ≡ said_at said blank xs i
  said-there said blank y [] i h = rw (le-ltb i 0 (omega arith))
  said-there said blank y (x ∷ xs) zero h = rw (lt-ltb 0 (suc (length xs)) (omega arith)) (h (omega arith) x)
  said-there said blank y (x ∷ xs) (suc i) h = rw (less_suc i (length xs)) (said-there said blank y xs i (λ l d. h (omega arith) d))

  -- and where nothing is there, the same
  pub said_or_blank : {B : Type 0} (said : A → B) (blank y : B) (xs : List A) (i : ℕ) → (i < length xs → (d : A) → y ≡ said (get_or xs i d))
      → (length xs ≤ i → y ≡ blank) → y ≡ said_at said blank xs i
  said_or_blank said blank y [] i h k = k (omega arith)
  said_or_blank said blank y (x ∷ xs) zero h k = h (omega arith) x
  said_or_blank said blank y (x ∷ xs) (suc i) h k = said_or_blank said blank y xs i (λ l d. h (omega arith) d) (λ l. k (omega arith))

  module _ (d : A) where
    pub at_each : (P : A → Type 0) (xs : List A) → Each P xs → (i : ℕ) → i < length xs → P (get_or xs i d)
    at_each P [] e i l = absurd (omega arith)
    at_each P (x ∷ xs) e zero l = e.0
    at_each P (x ∷ xs) e (suc i) l = at_each P xs e.1 i (omega arith)

    pub each_at : (P : A → Type 0) (xs : List A) → ((i : ℕ) → i < length xs → P (get_or xs i d)) → Each P xs
    each_at P [] f = tt
    each_at P (x ∷ xs) f = (f 0 (omega arith), each_at P xs (λ i l. f (suc i) (omega arith)))

    pub at_no_two : (Alike : A → A → Type 0) (xs : List A) → NoTwo Alike xs
        → (i j : ℕ) → i < j → j < length xs → Alike (get_or xs i d) (get_or xs j d) → ⊥
    at_no_two Alike [] e i j l m = absurd (omega arith)
    at_no_two Alike (x ∷ xs) e i zero l m = absurd (omega arith)
    at_no_two Alike (x ∷ xs) e zero (suc j) l m = at_each (λ y. Alike x y → ⊥) xs e.0 j (omega arith)
    at_no_two Alike (x ∷ xs) e (suc i) (suc j) l m = at_no_two Alike xs e.1 i j (omega arith) (omega arith)

    pub no_two_at : (Alike : A → A → Type 0) (xs : List A)
        → ((i j : ℕ) → i < j → j < length xs → Alike (get_or xs i d) (get_or xs j d) → ⊥) → NoTwo Alike xs
    no_two_at Alike [] f = tt
    no_two_at Alike (x ∷ xs) f = (
      each_at (λ y. Alike x y → ⊥) xs (λ j m. f 0 (suc j) (omega arith) (omega arith)),
      no_two_at Alike xs (λ i j l m. f (suc i) (suc j) (omega arith) (omega arith)),
    )
