-- The places of the entries, and what stands there: the entry that is cut out of the file, and the rest of the file. Assumes nothing.
use mathlib.Core.Path.{◌≡◌, refl, sym, ap, ap₂, ◌∙◌}
use mathlib.Core.Bool.{Bool, true, ◌&&◌}
use mathlib.Core.Logic.{◌↔◌}
use mathlib.Core.List.{List}
use Prim.Native.Nat.{ℕ, zero, suc, ◌+◌, ◌<◌}
use native.Mathlib.Nat.{zero-add, suc-add}
use native.Mathlib.Omega.{arith}
use borrow.Author.Tests.{lt-ltb, ltb-true, eqb-true, eq-eqb}
use lib.Dec.{ltb}
use lib.ListN.{length, get_or, drop, length-drop}
use lib.Seq.{get_or-drop, drop-drop}
use Rattle.wire.specs.Wire.{byte}
use Rattle.wire.proofs.Pairs.{both}
use Rattle.selection.specs.Selection.{below, is_file, skipped}
use Rattle.annex.specs.Annex.{place}

-- the entries below the first stand where they stand in the file
place-below : (file : List ℕ) (k : ℕ) → place file (suc k) ≡ byte file 0 + 1 + place (below file) k
unfolding place
place-below file zero = omega arith
place-below file (suc k) =
    let r = place-below file k in
    let b : get_or (below file) (place (below file) k) 0 ≡ get_or file (byte file 0 + 1 + place (below file) k) 0 = get_or-drop (byte file 0 + 1) file _ 0 in
    rw (r, b) (omega arith)

pub skipped-is : (file : List ℕ) (k : ℕ) → skipped file k ≡ drop (place file k) file
unfolding skipped place
skipped-is file zero = refl
skipped-is file (suc k) =
    skipped-is (below file) k ∙ drop-drop (place (below file) k) (byte file 0 + 1) file ∙ ap (λ (n : ℕ). drop n file) (sym (place-below file k))

pub skipped-more : (file : List ℕ) (k m : ℕ) → skipped (skipped file k) m ≡ skipped file (k + m)
unfolding skipped
skipped-more file zero m = ap (skipped file) (sym (zero-add m))
skipped-more file (suc k) m = skipped-more (below file) k m ∙ ap (skipped file) (sym (suc-add k m))

-- A FILE ends where the entry behind its last one would stand
pub file-ends : (n : ℕ) (file : List ℕ) → (is_file file n ≡ true) ↔ (place file n ≡ length file)
unfolding is_file place
file-ends zero file = (λ h. sym (eqb-true _ _ h), λ h. eq-eqb _ _ (sym h))
file-ends (suc n) file = (
  (λ h.
      let b = both (ltb (byte file 0) (length file)) (is_file (below file) n) h in
      let l = ltb-true (byte file 0) (length file) b.0 in
      let r = (file-ends n (below file)).0 b.1 in
      omega (arith, place-below file n, length-drop (byte file 0 + 1) file)),
  (λ h.
      let l : byte file 0 < length file = omega (arith, place-below file n) in
      let r : place (below file) n ≡ length (below file) = omega (arith, place-below file n, length-drop (byte file 0 + 1) file) in
      ap₂ (λ (s t : Bool). s && t) (lt-ltb _ _ l) ((file-ends n (below file)).1 r)),
)
