-- So many entries from a place on end at another exactly if what stands between is a file of so many entries. Assumes nothing.
use mathlib.Core.Path.{◌≡◌, refl, sym, ap, ◌∙◌}
use mathlib.Core.Bool.{Bool, true, false, ◌&&◌}
use mathlib.Core.List.{List, [], ◌∷◌}
use Prim.Native.Nat.{ℕ, zero, suc, ◌+◌, ◌-◌, ◌≤◌, ◌<◌}
use native.Mathlib.Nat.{add-zero, sub-zero}
use native.Mathlib.Omega.{arith}
use borrow.Author.Tests.{lt-ltb, le-ltb, ltb-true, ltb-false, leb-true, leb-false, eq-eqb, ne_eqb, eqb-true, eqb-false}
use lib.Dec.{eqb, ltb, leb}
use lib.ListN.{length, take, drop, length-drop}
use lib.Seq.{length-take-le, take-nil, get_or-take, get_or-drop, drop-drop}
use Rattle.wire.specs.Wire.{byte}
use Rattle.selection.specs.Selection.{is_file}
use Rattle.shape.specs.Shape.{entries_end}
use Rattle.shape.proofs.Inside.{not_before}

drop_take : {A : Type 0} (k m : ℕ) (s : List A) → drop k (take m s) ≡ take (m - k) (drop k s)
drop_take zero m s = rw (sub-zero m)
drop_take (suc k) zero s = let z : 0 - suc k ≡ 0 = omega arith in rw z
drop_take (suc k) (suc m) [] = sym (take-nil (suc m - suc k))
drop_take (suc k) (suc m) (x ∷ s) = let z : suc m - suc k ≡ m - k = omega arith in rw z (drop_take k m s)

module _ (body : List ℕ) where
  -- the first entry, then the others
  pub first_entry_lem : (at n : ℕ) → entries_end body at (suc n) ≡ entries_end body (at + 1 + byte body at) n
  unfolding entries_end
  first_entry_lem at zero = refl
  first_entry_lem at (suc n) = ap (λ (end : ℕ). end + 1 + byte body end) (first_entry_lem at n)

  abbrev part : (at end : ℕ) → List ℕ
  part at end = take (end - at) (drop at body)

  module _ (end : ℕ) (h : end ≤ length body) where
    part_length : (at : ℕ) → length (part at end) ≡ end - at
    part_length at = length-take-le (end - at) (drop at body) (omega (arith, length-drop at body))

    part-first : (at : ℕ) → at < end → byte (part at end) 0 ≡ byte body at
    part-first at l = get_or-take (end - at) (drop at body) 0 0 (omega arith) ∙ get_or-drop at body 0 0 ∙ ap (byte body) (add-zero at)

    part-below : (at k : ℕ) → drop k (part at end) ≡ part (at + k) end
    part-below at k =
        let size : end - at - k ≡ end - (at + k) = omega arith in
        drop_take k (end - at) (drop at body) ∙ rw (size, drop-drop k at body)

    pub file-ends : (n at : ℕ) → at ≤ end → is_file (part at end) n ≡ eqb (entries_end body at n) end
    unfolding is_file entries_end
    file-ends zero at l = rw (part_length at) (by (eqb at end) refl) where
      by : (b : Bool) → eqb at end ≡ b → eqb (end - at) 0 ≡ b
      by true e = let s = eqb-true at end e in eq-eqb (end - at) 0 (omega arith)
      by false e = let s = eqb-false at end e in ne_eqb (end - at) 0 (λ z. s (omega arith))
    file-ends (suc n) at l = by (leb (at + 1 + byte body at) end) refl (λ fits. file-ends n (at + 1 + byte body at) fits) where
      short : end < at + 1 + byte body at → (b : Bool) → eqb at end ≡ b → ltb (byte (part at end) 0) (end - at) ≡ false
      short cut true s = let z = eqb-true at end s in le-ltb (byte (part at end) 0) (end - at) (omega arith)
      short cut false s =
          let z = eqb-false at end s in
          let less : at < end = (by_less (ltb at end) refl z) in
          rw (part-first at less) (le-ltb (byte body at) (end - at) (omega arith))
        where
          by_less : (b : Bool) → ltb at end ≡ b → (at ≡ end → ⊥) → at < end
          by_less true t z = ltb-true at end t
          by_less false t z = absurd (z (omega (arith, ltb-false at end t)))

      by : (b : Bool) → leb (at + 1 + byte body at) end ≡ b
          → (at + 1 + byte body at ≤ end → is_file (part (at + 1 + byte body at) end) n ≡ eqb (entries_end body (at + 1 + byte body at) n) end)
          → (ltb (byte (part at end) 0) (length (part at end)) && is_file (drop (byte (part at end) 0 + 1) (part at end)) n)
          ≡ eqb (entries_end body at (suc n)) end
      by true e below =
          let fits = leb-true (at + 1 + byte body at) end e in
          let here = part-first at (omega arith) in
          let place : at + (byte body at + 1) ≡ at + 1 + byte body at = omega arith in
          rw (here, part_length at, lt-ltb (byte body at) (end - at) (omega arith), part-below at (byte body at + 1), place, first_entry_lem at n)
          (below fits)
      by false e below =
          let cut = leb-false (at + 1 + byte body at) end e in
          let past = not_before body (at + 1 + byte body at) n in
          rw (part_length at, short cut (eqb at end) refl, first_entry_lem at n)
          (sym (ne_eqb (entries_end body (at + 1 + byte body at) n) end (λ z. omega arith)))
