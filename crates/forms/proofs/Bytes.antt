-- Bytes from a place on, and their number. Assumes nothing.
use mathlib.Core.Path.{◌≡◌, refl, sym, ap, ap₂, ◌∙◌}
use mathlib.Core.Bool.{Bool, true, false}
use mathlib.Core.List.{List, [], ◌∷◌, ◌++◌}
use Prim.Native.Nat.{ℕ, zero, suc, ◌+◌, ◌*◌, ◌-◌, ◌/◌, ◌%◌, ◌^◌, ◌<◌, ◌≤◌}
use native.Mathlib.Nat.{pow-suc, zero-add, add-zero, add-suc, suc-add}
use native.Mathlib.Omega.{arith}
use borrow.Author.Tests.{lt-ltb, eqb-true, leb-true, leb-false}
use lib.Dec.{leb, ltb, eqb}
use lib.ListN.{length, drop, replicate, drop_of_length-le}
use lib.Seq.{drop-cons}
use Rattle.wire.specs.Wire.{byte, number}
use Rattle.words.specs.Words.{all}
use Rattle.words.proofs.Tests.{both, and}
use Rattle.words.proofs.Hex.{are_bytes}
use Rattle.forms.specs.Form.{bytes_at, big_endian, is_blank}

abbrev pub Bytes : List ℕ → Type 0
Bytes s = (i : ℕ) → byte s i < 256

pub size-at : (s : List ℕ) (at n : ℕ) → length (bytes_at s at n) ≡ n
unfolding bytes_at
size-at s at zero = refl
size-at s at (suc n) = ap suc (size-at s (suc at) n)

pub split_at : (s : List ℕ) (at m n : ℕ) → bytes_at s at (m + n) ≡ bytes_at s at m ++ bytes_at s (at + m) n
unfolding bytes_at
split_at s at zero n = ap₂ (λ m k. bytes_at s k m) (zero-add n) (sym (add-zero at))
split_at s at (suc m) n = rw (suc-add m n) (ap (λ t. byte s at ∷ t) (split_at s (suc at) m n ∙ ap (λ k. bytes_at s (suc at) m ++ bytes_at s k n) (suc-add at m ∙ sym (add-suc at m))))

-- two stretches, the one behind the other
pub join_at : (s : List ℕ) (at m next n : ℕ) → at + m ≡ next → bytes_at s at m ++ bytes_at s next n ≡ bytes_at s at (m + n)
join_at s at m next n e = ap (λ k. bytes_at s at m ++ bytes_at s k n) (sym e) ∙ sym (split_at s at m n)

-- a whole list
pub whole_from : (s : List ℕ) (at n : ℕ) → at + n ≡ length s → bytes_at s at n ≡ drop at s
unfolding bytes_at
whole_from s at zero e = let past : length s ≤ at = omega arith in sym (drop_of_length-le s past)
whole_from s at (suc n) e = ap (λ t. byte s at ∷ t) (whole_from s (suc at) n (omega arith)) ∙ sym (drop-cons s at 0 (omega arith))

-- the first bytes and the others
pub rest_from : (s : List ℕ) (at n : ℕ) → at + n ≤ length s → bytes_at s at n ++ drop (at + n) s ≡ drop at s
unfolding bytes_at
rest_from s at zero e = rw (add-zero at)
rest_from s at (suc n) e =
    let next : suc at + n ≡ at + suc n = omega arith in
    ap (λ t. byte s at ∷ t) (ap (λ k. bytes_at s (suc at) n ++ drop k s) (sym next) ∙ rest_from s (suc at) n (omega arith)) ∙ sym (drop-cons s at 0 (omega arith))

pub zeros-at : (s : List ℕ) → is_blank s ≡ true → s ≡ replicate (length s) 0
unfolding is_blank all
zeros-at [] h = refl
zeros-at (b ∷ s) h =
    let (p, q) = both (eqb b 0) (all (λ b. eqb b 0) s) h in
    ap₂ ◌∷◌ (eqb-true b 0 p) (zeros-at s q)

module _ (s : List ℕ) (small : Bytes s) where
  pub bytes-at : (at n : ℕ) → are_bytes (bytes_at s at n) ≡ true
  unfolding bytes_at all
  bytes-at at zero = refl
  bytes-at at (suc n) = and (ltb (byte s at) 256) (are_bytes (bytes_at s (suc at) n)) (lt-ltb (byte s at) 256 (small at)) (bytes-at (suc at) n)

  pub rest-bytes : (at : ℕ) → are_bytes (drop at s) ≡ true
  rest-bytes at = by (leb (length s) at) refl where
    by : (t : Bool) → leb (length s) at ≡ t → are_bytes (drop at s) ≡ true
    by true e = let past = leb-true (length s) at e in rw (drop_of_length-le s past) (unfold all in refl)
    by false e =
        let inside = leb-false (length s) at e in
        let whole : at + (length s - at) ≡ length s = omega arith in
        rw (← whole_from s at (length s - at) whole) (bytes-at at (length s - at))

  pub number-less : (at n : ℕ) → number s at n < 256 ^ n
  unfolding number
  number-less at zero = omega arith
  number-less at (suc n) =
      let r = number-less at n in
      let b = small (at + n) in
      let p = pow-suc 256 n in
      omega arith

  pub number_back : (at n : ℕ) → big_endian n (number s at n) ≡ bytes_at s at n
  unfolding big_endian number
  number_back at zero = unfold bytes_at in refl
  number_back at (suc n) =
      let b = small (at + n) in
      let high : (number s at n * 256 + byte s (at + n)) / 256 ≡ number s at n = omega arith in
      let low : (number s at n * 256 + byte s (at + n)) % 256 ≡ byte s (at + n) = omega arith in
      let last : bytes_at s at (n + 1) ≡ bytes_at s at n ++ byte s (at + n) ∷ [] = split_at s at n 1 ∙ (unfold bytes_at in refl) in
      let more : n + 1 ≡ suc n = omega arith in
      ap₂ (λ h l. big_endian n h ++ l ∷ []) high low ∙ ap (λ t. t ++ byte s (at + n) ∷ []) (number_back at n) ∙ sym last ∙ ap (bytes_at s at) more
