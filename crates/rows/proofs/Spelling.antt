-- Fields that are spelled are read where the widths before them end; what stands so in bytes is their spelling. Assumes nothing.
use mathlib.Core.Path.{◌≡◌, refl, sym, ap, ap₂, subst, ◌∙◌}
use mathlib.Core.List.{List, [], ◌∷◌, ◌++◌, append_assoc, append-nil}
use Prim.Native.Nat.{ℕ, zero, suc, ◌+◌, ◌*◌, ◌/◌, ◌%◌, ◌^◌, ◌≤◌, ◌<◌}
use native.Mathlib.Nat.{add-zero, zero-add, add_assoc, add-suc, mul-zero, mul-suc, pow-suc}
use native.Mathlib.Omega.{arith}
use lib.ListN.{length, get_or, drop, length-append, drop_of_length-le}
use lib.Seq.{get_or-append-add, get_or_at, drop-cons}
use Rattle.wire.specs.Wire.{byte, number}
use Rattle.setup.proofs.Faithful.{Bytes}
use Rattle.rows.specs.Rows.{Field, ◌of◌, written, spelled, Fits, widths, field_at, offset, each}

-- ---- one number

pub behind : (a b : List ℕ) (at n : ℕ) → number (a ++ b) (length a + at) n ≡ number b at n
unfolding number
behind a b at zero = refl
behind a b at (suc n) =
    let c : byte (a ++ b) (length a + at + n) ≡ byte b (at + n) = ap (byte (a ++ b)) (add_assoc (length a) at n) ∙ get_or-append-add a b (at + n) 0 in
    ap₂ (λ h l. h * 256 + l) (behind a b at n) c

pub written-size : (n v : ℕ) → length (written n v) ≡ n
unfolding written
written-size zero v = refl
written-size (suc n) v = let r = written-size n (v / 256) in omega (arith, length-append (written n (v / 256)) (v % 256 ∷ []))

pub written_read : (n v : ℕ) (rest : List ℕ) → v < 256 ^ n → number (written n v ++ rest) 0 n ≡ v
unfolding written number
written_read zero v rest h = omega arith
written_read (suc n) v rest h =
    let p = pow-suc 256 n in
    let r = written_read n (v / 256) (v % 256 ∷ rest) (omega arith) in
    let b : byte (written n (v / 256) ++ v % 256 ∷ rest) (0 + n) ≡ v % 256 =
    ap (byte (written n (v / 256) ++ v % 256 ∷ rest)) (zero-add n) ∙ get_or_at (written n (v / 256)) (v % 256) rest 0 n (written-size n (v / 256)) in
    let s = append_assoc (written n (v / 256)) (v % 256 ∷ []) rest in
    ap (λ (t : List ℕ). number t 0 n * 256 + byte t (0 + n)) s ∙ omega arith

-- ---- a row of fields

-- each field's number stands in s where the widths before it end, counted from a place
unfoldable pub Stands : List ℕ → ℕ → List Field → Type 0
Stands s at [] = Unit
Stands s at (f ∷ fs) = (number s at f.width ≡ f.value) × Stands s (at + f.width) fs

pub spelled-stands : (fs : List Field) (before after : List ℕ) → Fits fs → Stands (before ++ (spelled fs ++ after)) (length before) fs
unfolding Stands spelled Fits
spelled-stands [] before after h = tt
spelled-stands (f ∷ fs) before after h =
    let w = written f.width f.value in
    let r = spelled-stands fs (before ++ w) after h.1 in
    let size : length (before ++ w) ≡ length before + f.width = omega (arith, length-append before w, written-size f.width f.value) in
    let same : (before ++ w) ++ (spelled fs ++ after) ≡ before ++ ((w ++ spelled fs) ++ after) = simp append_assoc in
    let here : number (before ++ ((w ++ spelled fs) ++ after)) (length before) f.width ≡ f.value =
    ap (λ n. number (before ++ ((w ++ spelled fs) ++ after)) n f.width) (sym (add-zero (length before)))
    ∙ behind before ((w ++ spelled fs) ++ after) 0 f.width
    ∙ ap (λ (t : List ℕ). number t 0 f.width) (append_assoc w (spelled fs) after)
    ∙ written_read f.width f.value (spelled fs ++ after) h.0 in
    (here, subst (λ n. Stands (before ++ ((w ++ spelled fs) ++ after)) n fs) size (subst (λ (t : List ℕ). Stands t (length (before ++ w)) fs) same r))

pub stands-whole : (fs : List Field) → Fits fs → Stands (spelled fs) 0 fs
stands-whole fs h = subst (λ (t : List ℕ). Stands t 0 fs) (append-nil (spelled fs)) (spelled-stands fs [] [] h)

pub stands_at_lem : (s : List ℕ) (fs : List Field) (at : ℕ) → Stands s at fs
    → (i : ℕ) → number s (at + offset fs i) (field_at fs i).width ≡ (field_at fs i).value
unfolding Stands number
stands_at_lem s [] at h i = refl
stands_at_lem s (f ∷ fs) at h zero = ap (λ n. number s n f.width) (add-zero at) ∙ h.0
stands_at_lem s (f ∷ fs) at h (suc i) =
    ap (λ n. number s n (field_at fs i).width) (sym (add_assoc at f.width (offset fs i))) ∙ stands_at_lem s fs (at + f.width) h.1 i

-- THE LAW: the number read at the sum of the widths before a field, in its width, is its value
pub read-field : (fs : List Field) → Fits fs → (i : ℕ) → number (spelled fs) (offset fs i) (field_at fs i).width ≡ (field_at fs i).value
read-field fs h i =
    ap (λ n. number (spelled fs) n (field_at fs i).width) (sym (zero-add (offset fs i))) ∙ stands_at_lem (spelled fs) fs 0 (stands-whole fs h) i

pub spelled-size : (fs : List Field) → length (spelled fs) ≡ widths fs
unfolding spelled
spelled-size [] = refl
spelled-size (f ∷ fs) =
    let r = spelled-size fs in
    let w = written-size f.width f.value in
    omega (arith, length-append (written f.width f.value) (spelled fs))

-- ---- the bytes

abbrev Small : List ℕ → Type 0
Small s = (i : ℕ) → byte s i < 256

small_append : (a b : List ℕ) → Small a → Small b → Small (a ++ b)
small_append [] b h k i = k i
small_append (x ∷ a) b h k zero = h zero
small_append (x ∷ a) b h k (suc i) = small_append a b (λ i. h (suc i)) k i

small-none : Small []
small-none i = omega arith

small_one : (x : ℕ) → x < 256 → Small (x ∷ [])
small_one x h zero = h
small_one x h (suc i) = omega arith

written_small : (n v : ℕ) → Small (written n v)
unfolding written
written_small zero v = small-none
written_small (suc n) v = small_append (written n (v / 256)) (v % 256 ∷ []) (written_small n (v / 256)) (small_one (v % 256) (omega arith))

spelled-small : (fs : List Field) → Small (spelled fs)
unfolding spelled
spelled-small [] = small-none
spelled-small (f ∷ fs) = small_append (written f.width f.value) (spelled fs) (written_small f.width f.value) (spelled-small fs)

pub spelled-bytes : (fs : List Field) → Bytes (spelled fs)
spelled-bytes fs = record { below = spelled-small fs }

-- ---- rows one after the other

pub widths_append : (a b : List Field) → widths (a ++ b) ≡ widths a + widths b
widths_append [] b = sym (zero-add (widths b))
widths_append (f ∷ a) b = let r = widths_append a b in omega arith

pub widths-each : {A : Type 0} (row : A → List Field) (w : ℕ) → ((x : A) → widths (row x) ≡ w) → (xs : List A)
    → widths (each row xs) ≡ w * length xs
widths-each row w same [] = sym (mul-zero w)
widths-each row w same (x ∷ xs) =
    let r = widths-each row w same xs in
    omega (arith, same x, widths_append (row x) (each row xs), mul-suc w (length xs))

module _ (s : List ℕ) where
  pub parts : (a b : List Field) (at : ℕ) → Stands s at (a ++ b) → Stands s at a × Stands s (at + widths a) b
  unfolding Stands
  parts [] b at h = (tt, subst (λ n. Stands s n b) (sym (add-zero at)) h)
  parts (f ∷ a) b at h =
      let r = parts a b (at + f.width) h.1 in
      ((h.0, r.0), subst (λ n. Stands s n b) (add_assoc at f.width (widths a)) r.1)

  pub joins : (a b : List Field) (at : ℕ) → Stands s at a → Stands s (at + widths a) b → Stands s at (a ++ b)
  unfolding Stands
  joins [] b at h k = subst (λ n. Stands s n b) (add-zero at) k
  joins (f ∷ a) b at h k = (h.0, joins a b (at + f.width) h.1 (subst (λ n. Stands s n b) (sym (add_assoc at f.width (widths a))) k))

  -- of rows of one width, each begins where those before it end
  pub each_stands : {A : Type 0} (row : A → List Field) (w : ℕ) → ((x : A) → widths (row x) ≡ w)
      → (at : ℕ) (xs : List A) (k : ℕ) → Stands s (at + k) (each row xs)
      → (i : ℕ) → i < length xs → (d : A) → Stands s (at + (k + w * i)) (row (get_or xs i d))
  each_stands row w same at [] k h i l d = absurd (omega arith)
  each_stands row w same at (x ∷ xs) k h zero l d =
      let place : at + k ≡ at + (k + w * 0) = omega (arith, mul-zero w) in
      subst (λ n. Stands s n (row x)) place (parts (row x) (each row xs) (at + k) h).0
  each_stands row w same at (x ∷ xs) k h (suc i) l d =
      let there : at + k + widths (row x) ≡ at + (k + w) = omega (arith, same x) in
      let place : at + (k + w + w * i) ≡ at + (k + w * suc i) = omega (arith, mul-suc w i) in
      let rest = subst (λ n. Stands s n (each row xs)) there (parts (row x) (each row xs) (at + k) h).1 in
      subst (λ n. Stands s n (row (get_or xs i d))) place (each_stands row w same at xs (k + w) rest i (omega arith) d)

-- ---- back: what stands in bytes is their spelling

module _ (s : List ℕ) (bytes : Bytes s) where
  pub number-below : (at n : ℕ) → number s at n < 256 ^ n
  unfolding number
  number-below at zero = omega arith
  number-below at (suc n) =
      let r = number-below at n in
      let b = bytes.below (at + n) in
      rw (pow-suc 256 n) (omega arith)

  number_back : (at n : ℕ) → at + n ≤ length s → written n (number s at n) ++ drop (at + n) s ≡ drop at s
  unfolding written number
  number_back at zero h = rw (add-zero at)
  number_back at (suc n) h =
      let b = bytes.below (at + n) in
      let high : (number s at n * 256 + byte s (at + n)) / 256 ≡ number s at n = omega arith in
      let low : (number s at n * 256 + byte s (at + n)) % 256 ≡ byte s (at + n) = omega arith in
      let last : byte s (at + n) ∷ drop (suc (at + n)) s ≡ drop (at + n) s = sym (drop-cons s (at + n) 0 (omega arith)) in
      rw (high, low, add-suc at n) (append_assoc (written n (number s at n)) (byte s (at + n) ∷ []) (drop (suc (at + n)) s)
      ∙ ap (λ (t : List ℕ). written n (number s at n) ++ t) last
      ∙ number_back at n (omega arith))

  pub stands_fit : (fs : List Field) (at : ℕ) → Stands s at fs → Fits fs
  unfolding Stands Fits
  stands_fit [] at h = tt
  stands_fit (f ∷ fs) at h = (rw (← h.0) (number-below at f.width), stands_fit fs (at + f.width) h.1)

  stands-spelled : (fs : List Field) (at : ℕ) → at + widths fs ≤ length s → Stands s at fs → spelled fs ++ drop (at + widths fs) s ≡ drop at s
  unfolding Stands spelled
  stands-spelled [] at l h = rw (add-zero at)
  stands-spelled (f ∷ fs) at l h =
      let w = written f.width f.value in
      let place : at + (f.width + widths fs) ≡ at + f.width + widths fs = omega arith in
      append_assoc w (spelled fs) (drop (at + (f.width + widths fs)) s)
      ∙ ap (λ n. w ++ (spelled fs ++ drop n s)) place
      ∙ ap (λ (t : List ℕ). w ++ t) (stands-spelled fs (at + f.width) (omega arith) h.1)
      ∙ ap (λ v. written f.width v ++ drop (at + f.width) s) (sym h.0)
      ∙ number_back at f.width (omega arith)

  pub whole-spelled : (fs : List Field) → widths fs ≡ length s → Stands s 0 fs → spelled fs ≡ s
  whole-spelled fs e h =
      let past : length s ≤ 0 + widths fs = omega arith in
      let none : drop (0 + widths fs) s ≡ [] = drop_of_length-le s past in
      sym (append-nil (spelled fs)) ∙ ap (λ (t : List ℕ). spelled fs ++ t) (sym none) ∙ stands-spelled fs 0 (omega arith) h
