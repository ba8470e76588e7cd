-- A file spelled entry by entry is read as a file; what is read as one is so spelled; what is not has one of the causes. Assumes nothing.
use mathlib.Core.Path.{◌≡◌, refl, sym, ap, ap₂, ◌∙◌}
use mathlib.Core.Bool.{Bool, true, false, ◌&&◌}
use mathlib.Core.List.{List, [], ◌∷◌, ◌++◌}
use Prim.Native.Nat.{ℕ, zero, suc, ◌+◌, ◌≤◌, ◌<◌}
use native.Mathlib.Numerals.{add-one}
use native.Mathlib.Omega.{arith}
use borrow.Author.Tests.{lt-ltb, le-ltb, ltb-true, ltb-false, eqb-true, eqb-false, ne_eqb}
use lib.Dec.{eqb, ltb}
use lib.ListN.{get_or-eq_default, length, take, drop, length-append, length-take, take-append-drop}
use lib.Seq.{take_at, drop_at, length-take-le, get_or-drop, get_or-take}
use Rattle.wire.specs.Wire.{byte}
use Rattle.wire.proofs.Pairs.{both}
use Rattle.selection.specs.Selection.{is_file, entries_of}
use Rattle.rows.specs.Tails.{file_bytes, FineEntries, BadFile, left_over, cut_short_lem, below}

-- an entry as the file has it
abbrev pub with_length : List ℕ → List ℕ
with_length e = length e ∷ e

abbrev pub with_lengths : List (List ℕ) → List (List ℕ)
with_lengths [] = []
with_lengths (e ∷ es) = with_length e ∷ with_lengths es

pub file-read : (es : List (List ℕ)) → is_file (file_bytes es) (length es) ≡ true
unfolding is_file
file-read [] = refl
file-read (e ∷ es) =
    let less : length e < suc (length (e ++ file_bytes es)) = omega (arith, length-append e (file_bytes es)) in
    let behind : drop (length e + 1) (length e ∷ e ++ file_bytes es) ≡ file_bytes es = rw (add-one (length e)) (drop_at e (file_bytes es) (length e) refl) in
    rw (lt-ltb (length e) (suc (length (e ++ file_bytes es))) less, behind) (file-read es)

-- the entries that selection goes through are those that were spelled
pub entries-read : (es : List (List ℕ)) → entries_of (file_bytes es) (length es) ≡ with_lengths es
unfolding entries_of
entries-read [] = refl
entries-read (e ∷ es) =
    let front : take (length e + 1) (length e ∷ e ++ file_bytes es) ≡ length e ∷ e =
    rw (add-one (length e)) (ap (λ (t : List ℕ). length e ∷ t) (take_at e (file_bytes es) (length e) refl)) in
    let behind : drop (length e + 1) (length e ∷ e ++ file_bytes es) ≡ file_bytes es = rw (add-one (length e)) (drop_at e (file_bytes es) (length e) refl) in
    ap₂ ◌∷◌ front (ap (λ (t : List ℕ). entries_of t (length es)) behind ∙ entries-read es)

abbrev pub Small : List ℕ → Type 0
Small s = (i : ℕ) → byte s i < 256

pub small_drop : (s : List ℕ) → Small s → (n : ℕ) → Small (drop n s)
small_drop s h n i = rw (get_or-drop n s i 0) (h (n + i))

pub small-take : (s : List ℕ) → Small s → (n : ℕ) → Small (take n s)
small-take s h n i = by (ltb i n) refl where
  by : (t : Bool) → ltb i n ≡ t → byte (take n s) i < 256
  by true e = rw (get_or-take n s i 0 (ltb-true i n e)) (h i)
  by false e =
      let past : length (take n s) ≤ i = omega (arith, length-take n s, ltb-false i n e) in
      rw (get_or-eq_default (take n s) 0 past) (omega arith)

-- entries whose spelling the file is
pub record Entries (n : ℕ) (file : List ℕ) : Type 0 where
  pub entries : List (List ℕ)
  pub count : length entries ≡ n
  pub fine : FineEntries entries
  pub joined : file_bytes entries ≡ file

never : {P : Type 0} → false ≡ true → P
never e = let z : ◌≡◌ {A = ℕ} 0 1 = cc in absurd (omega arith)

pub more_than_one : (x : ℕ) → eqb x 0 ≡ false → eqb x 1 ≡ false → 1 < x
more_than_one zero e f = absurd (eqb-false 0 0 e refl)
more_than_one (suc zero) e f = absurd (eqb-false 1 1 f refl)
more_than_one (suc (suc x)) e f = omega arith

pub only_one : (x : ℕ) → (x ≡ 0 → ⊥) → x ≤ 1 → x ≡ 1
only_one zero n l = absurd (n refl)
only_one (suc zero) n l = refl
only_one (suc (suc x)) n l = absurd (omega arith)

pub file-spelled : (n : ℕ) (file : List ℕ) → Small file → is_file file n ≡ true → Entries n file
unfolding is_file
file-spelled zero [] small h = record { entries = []; count = refl; fine = tt; joined = refl }
file-spelled zero (x ∷ file) small h = absurd (omega (arith, eqb-true (suc (length file)) 0 h))
file-spelled (suc n) [] small h = never h
file-spelled (suc n) (x ∷ file) small h =
    let (l, r) = both (ltb x (suc (length file))) (is_file (drop (x + 1) (x ∷ file)) n) h in
    let less : x < suc (length file) = ltb-true x (suc (length file)) l in
    let behind : drop (x + 1) (x ∷ file) ≡ drop x file = rw (add-one x) refl in
    let rest = file-spelled n (drop x file) (small_drop file (λ i. small (suc i)) x) (rw behind at r) in
    let size : length (take x file) ≡ x = length-take-le x file (omega arith) in
    record {
      entries = take x file ∷ rest.entries;
      count = ap suc rest.count;
      fine = (rw size (small zero), rest.fine);
      joined = ap₂ ◌∷◌ size (ap (λ (t : List ℕ). take x file ++ t) rest.joined ∙ take-append-drop x file);
    }

bad_from : (n : ℕ) (file : List ℕ) → (is_file (drop (byte file 0 + 1) file) n ≡ false → BadFile (drop (byte file 0 + 1) file) n)
    → (t : Bool) → ltb (byte file 0) (length file) ≡ t → (t && is_file (drop (byte file 0 + 1) file) n) ≡ false → BadFile file (suc n)
bad_from n file rest true e h = below (ltb-true (byte file 0) (length file) e) (rest h)
bad_from n file rest false e h = cut_short_lem (ltb-false (byte file 0) (length file) e)

pub file_bad : (n : ℕ) (file : List ℕ) → is_file file n ≡ false → BadFile file n
unfolding is_file
file_bad zero [] h = never (sym h)
file_bad zero (x ∷ file) h = left_over {file = x ∷ file} (omega arith)
file_bad (suc n) file h = bad_from n file (λ r. file_bad n (drop (byte file 0 + 1) file) r) (ltb (byte file 0) (length file)) refl h

pub bad_file : {n : ℕ} {file : List ℕ} → BadFile file n → is_file file n ≡ false
unfolding is_file
bad_file {file} (left_over h) = ne_eqb (length file) 0 (λ e. omega arith)
bad_file {file} (cut_short_lem h) = rw (le-ltb (byte file 0) (length file) h)
bad_file {file} (below l r) = rw (lt-ltb (byte file 0) (length file) l) (bad_file r)
