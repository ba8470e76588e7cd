-- What is read as a file is its entries, one after the other and nothing else, and every such run of whole entries is read. Assumes nothing.
use mathlib.Core.Path.{◌≡◌, refl, ap, ap₂, ◌∙◌}
use mathlib.Core.Bool.{Bool, true, ◌&&◌}
use mathlib.Core.List.{List, [], ◌∷◌, ◌++◌}
use Prim.Native.Nat.{ℕ, zero, suc, ◌+◌, ◌<◌}
use native.Mathlib.Omega.{arith}
use lib.ListN.{length, drop, length-append, take-append-drop, get_or-append}
use lib.Seq.{drop_at}
use lib.Dec.{ltb}
use borrow.Author.Tests.{lt-ltb, eqb-true}
use Rattle.wire.specs.Wire.{byte}
use Rattle.wire.proofs.Pairs.{both}
use Rattle.selection.specs.Selection.{first_entry, below, entries_of, is_file}

abbrev pub joined : List (List ℕ) → List ℕ
joined [] = []
joined (e ∷ es) = e ++ joined es

empty : (s : List ℕ) → length s ≡ 0 → [] ≡ s
empty [] h = refl
empty (x ∷ s) h = absurd (omega arith)

pub file_joins : (n : ℕ) (s : List ℕ) → is_file s n ≡ true → joined (entries_of s n) ≡ s
unfolding is_file entries_of
file_joins zero s h = empty s (eqb-true (length s) 0 h)
file_joins (suc n) s h =
    ap (λ (t : List ℕ). first_entry s ++ t) (file_joins n (below s) (both (ltb (byte s 0) (length s)) (is_file (below s) n) h).1)
    ∙ take-append-drop (byte s 0 + 1) s

-- each entry's length byte counts the bytes behind it
abbrev pub Wholes : List (List ℕ) → Type 0
Wholes [] = Unit
Wholes (e ∷ es) = (length e ≡ byte e 0 + 1) × Wholes es

pub joins_file : (es : List (List ℕ)) → Wholes es → is_file (joined es) (length es) ≡ true
unfolding is_file
joins_file [] w = refl
joins_file (e ∷ es) w =
    let h = w.0 in
    let b : byte (e ++ joined es) 0 ≡ byte e 0 = get_or-append e (joined es) 0 0 (omega arith) in
    let l : byte (e ++ joined es) 0 < length (e ++ joined es) = omega (arith, length-append e (joined es)) in
    let d : below (e ++ joined es) ≡ joined es = ap (λ (k : ℕ). drop (k + 1) (e ++ joined es)) b ∙ drop_at e (joined es) (byte e 0 + 1) h in
    ap₂ (λ (s t : Bool). s && t) (lt-ltb _ _ l) (ap (λ (s : List ℕ). is_file s (length es)) d ∙ joins_file es w.1)
