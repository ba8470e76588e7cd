-- Names and flags read back. Assumes nothing.
use mathlib.Core.Path.{◌≡◌, refl, ap}
use mathlib.Core.Bool.{Bool, true, false, cond, not, ◌||◌}
use mathlib.Core.List.{List, [], ◌∷◌, ◌++◌}
use Prim.Native.Nat.{ℕ, zero, suc, ◌+◌, ◌*◌, ◌/◌, ◌%◌, ◌^◌, ◌<◌, ◌≤◌}
use native.Mathlib.Nat.{pow-suc}
use native.Mathlib.Omega.{arith}
use borrow.Author.Tests.{eqb-true, eqb-false, not-true}
use lib.Dec.{eqb}
use lib.ListN.{length}
use Rattle.words.specs.Words.{same, is_in, name_of, place_in, distinct, flags, Flags, begins, read_flags}
use Rattle.words.proofs.Tests.{both, neither, same_refl, same_true}

-- a name is in its table
pub name_in : (vs : List (List ℕ)) (n : ℕ) (other : List ℕ) → n < length vs → is_in (name_of vs n other) vs ≡ true
unfolding is_in name_of
name_in [] n other h = absurd (omega arith)
name_in (v ∷ vs) zero other h = rw (same_refl v)
name_in (v ∷ vs) (suc n) other h = rw (name_in vs n other (omega arith)) (or_true (same (name_of vs n other) v)) where
  or_true : (t : Bool) → (t || true) ≡ true
  or_true true = refl
  or_true false = refl

-- a number past the table has none
pub no_name : (vs : List (List ℕ)) (n : ℕ) (other : List ℕ) → length vs ≤ n → name_of vs n other ≡ other
unfolding name_of
no_name [] n other h = refl
no_name (v ∷ vs) zero other h = absurd (omega arith)
no_name (v ∷ vs) (suc n) other h = no_name vs n other (omega arith)

-- what is in the one table and not in the other
differs : (w v : List ℕ) (vs : List (List ℕ)) → is_in w vs ≡ true → is_in v vs ≡ false → same w v ≡ false
differs w v vs p q = by (same w v) refl where
  by : (t : Bool) → same w v ≡ t → same w v ≡ false
  by true e = let is = same_true w v e in cc
  by false e = e

pub place_back : (vs : List (List ℕ)) (n : ℕ) (other : List ℕ) → distinct vs ≡ true → n < length vs → place_in vs (name_of vs n other) ≡ n
unfolding distinct name_of place_in
place_back [] n other d h = absurd (omega arith)
place_back (v ∷ vs) zero other d h = rw (same_refl v)
place_back (v ∷ vs) (suc n) other d h =
    let (new, more) = both (not (is_in v vs)) (distinct vs) d in
    let less : n < length vs = omega arith in
    rw (differs (name_of vs n other) v vs (name_in vs n other less) (not-true (is_in v vs) new)) (ap suc (place_back vs n other more less))

-- no word of the table stands first
abbrev pub stopped : List (List ℕ) → List (List ℕ) → Bool
stopped vs [] = true
stopped vs (w ∷ ws) = not (is_in w vs)

pub turned : (u v : List ℕ) → same v u ≡ false → same u v ≡ false
turned u v h = by (same u v) refl where
  by : (t : Bool) → same u v ≡ t → same u v ≡ false
  by true e = let is = same_true u v e in let back : same v u ≡ true = rw is (same_refl v) in cc
  by false e = e

pub stops_here : (v : List ℕ) (vs ws : List (List ℕ)) → stopped (v ∷ vs) ws ≡ true → (begins v ws ≡ false) × (stopped vs ws ≡ true)
unfolding is_in
stops_here v vs [] h = (refl, refl)
stops_here v vs (w ∷ ws) h = let (p, q) = neither (same w v) (is_in w vs) (not-true (same w v || is_in w vs) h) in (p, ap not q)

bit-first : (t : Bool) (v u : List ℕ) (fs ws : List (List ℕ)) → same v u ≡ false → begins v (fs ++ ws) ≡ false → begins v (cond t (u ∷ []) [] ++ fs ++ ws) ≡ false
bit-first true v u fs ws h k = turned u v h
bit-first false v u fs ws h k = k

pub not_first : (v : List ℕ) (vs : List (List ℕ)) (n : ℕ) (ws : List (List ℕ)) → is_in v vs ≡ false → begins v ws ≡ false → begins v (flags vs n ++ ws) ≡ false
unfolding flags is_in
not_first v [] n ws h k = k
not_first v (u ∷ us) n ws h k =
    let (p, q) = neither (same v u) (is_in v us) h in
    bit-first (eqb (n % 2) 1) v u (flags us (n / 2)) ws p (not_first v us (n / 2) ws q k)

abbrev told : ℕ → List (List ℕ) → Flags
told n ws = record { bits = n; left = ws }

-- one flag
one_flag : (t : Bool) (v : List ℕ) (vs : List (List ℕ)) (n : ℕ) (fs ws : List (List ℕ)) → eqb (n % 2) 1 ≡ t → begins v (fs ++ ws) ≡ false
    → read_flags vs (fs ++ ws) ≡ told (n / 2) ws → read_flags (v ∷ vs) (cond t (v ∷ []) [] ++ fs ++ ws) ≡ told n ws
unfolding read_flags
one_flag true v vs n fs ws e b h =
    let odd = eqb-true (n % 2) 1 e in
    let whole : 1 + 2 * (n / 2) ≡ n = omega arith in
    rw (same_refl v, h, whole)
one_flag false v vs n fs ws e b h =
    let even = eqb-false (n % 2) 1 e in
    let whole : 0 + 2 * (n / 2) ≡ n = omega (arith, even) in
    rw (b, h, whole)

no_flag : (n : ℕ) (ws : List (List ℕ)) → n ≡ 0 → read_flags [] ws ≡ told n ws
unfolding read_flags
no_flag n ws e = rw e

pub flags_back : (vs : List (List ℕ)) (n : ℕ) (ws : List (List ℕ)) → distinct vs ≡ true → n < 2 ^ length vs → stopped vs ws ≡ true
    → read_flags vs (flags vs n ++ ws) ≡ told n ws
unfolding distinct flags
flags_back [] n ws d h k = no_flag n ws (omega arith)
flags_back (v ∷ vs) n ws d h k =
    let (new, more) = both (not (is_in v vs)) (distinct vs) d in
    let (here, on) = stops_here v vs ws k in
    let p : 2 ^ suc (length vs) ≡ 2 ^ length vs * 2 = pow-suc 2 (length vs) in
    let less : n / 2 < 2 ^ length vs = omega arith in
    one_flag (eqb (n % 2) 1) v vs n (flags vs (n / 2)) ws refl (not_first v vs (n / 2) ws (not-true (is_in v vs) new) here) (flags_back vs (n / 2) ws more less on)
