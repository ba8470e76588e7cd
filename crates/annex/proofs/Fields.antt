-- The entry that stands at a place: its fields are the file's bytes from there on. Assumes nothing.
use mathlib.Core.Path.{◌≡◌, refl, sym, ap, ap₂, ◌∙◌}
use mathlib.Core.List.{List}
use Prim.Native.Nat.{ℕ, zero, suc, ◌+◌, ◌*◌, ◌-◌, ◌≤◌, ◌<◌, min}
use native.Mathlib.Nat.{add-zero, add_assoc}
use native.Mathlib.Omega.{arith}
use lib.ListN.{length, get_or, drop, length-take, length-drop}
use lib.Seq.{get_or-take, get_or-drop}
use Rattle.wire.specs.Wire.{byte, number}
use Rattle.digits.specs.Digits.{are_pairs, pairs_value}
use Rattle.digits.proofs.Facts.{same-pairs, same-value}
use Rattle.fields.specs.Fields.{entry_length, position, block_length, blocks, blocks_end, check_type, positive_action, negative_action}
use Rattle.selection.specs.Selection.{first_entry}
use Rattle.annex.specs.Annex.{total, start, width, count, check, positive, negative}

module _ (file : List ℕ) (at : ℕ) where
  abbrev pub entry : List ℕ
  entry = first_entry (drop at file)

  head : byte (drop at file) 0 ≡ total file at
  head = get_or-drop at file 0 0 ∙ ap (λ (n : ℕ). get_or file n 0) (add-zero at)

  pub measured : length entry ≡ min (total file at + 1) (length file - at)
  measured = length-take (byte (drop at file) 0 + 1) (drop at file) ∙ ap₂ min (ap (λ (n : ℕ). n + 1) head) (length-drop at file)

  -- the entry's bytes are the file's, from the place on
  pub inside : (i : ℕ) → i ≤ total file at → byte entry i ≡ get_or file (at + i) 0
  inside i h = get_or-take (byte (drop at file) 0 + 1) (drop at file) i 0 (omega (arith, head)) ∙ get_or-drop at file i 0

  pub number-inside : (v n : ℕ) → v + n ≤ total file at + 1 → number entry v n ≡ number file (at + v) n
  unfolding number
  number-inside v zero h = refl
  number-inside v (suc n) h =
      ap₂ (λ (x b : ℕ). x * 256 + b) (number-inside v n (omega arith))
      (inside (v + n) (omega arith) ∙ ap (λ (k : ℕ). get_or file k 0) (sym (add_assoc at v n)))

  -- so are its digits
  inside-from : (v n : ℕ) → v + n ≤ total file at + 1 → (k : ℕ) → k < n → byte entry (v + k) ≡ get_or file (at + v + k) 0
  inside-from v n h k l = inside (v + k) (omega arith) ∙ ap (λ (i : ℕ). get_or file i 0) (sym (add_assoc at v k))

  pub pairs-inside : (v n : ℕ) → v + n ≤ total file at + 1 → are_pairs entry v n ≡ are_pairs file (at + v) n
  pairs-inside v n h = same-pairs entry file v (at + v) n (inside-from v n h)

  pub value-inside : (v n : ℕ) → v + n ≤ total file at + 1 → pairs_value entry v n ≡ pairs_value file (at + v) n
  value-inside v n h = same-value entry file v (at + v) n (inside-from v n h)

  pub size_is : entry_length entry ≡ total file at
  size_is = inside 0 (omega arith) ∙ ap (λ (n : ℕ). get_or file n 0) (add-zero at)

  module _ (six : 6 ≤ total file at) where
    pub start_is : position entry ≡ start file at
    start_is = inside 1 (omega arith)

    pub width_is : block_length entry ≡ width file at
    width_is = inside 2 (omega arith)

    pub count-is : blocks entry ≡ count file at
    count-is = inside 3 (omega arith)

    ends : blocks_end entry ≡ 4 + count file at * width file at
    ends = ap₂ (λ (n l : ℕ). 4 + n * l) count-is width_is

    module _ (sum : total file at ≡ count file at * width file at + 6) where
      pub check-is : check_type entry ≡ check file at
      check-is = ap (byte entry) ends ∙ inside (4 + count file at * width file at) (omega arith)

      pub positive-is : positive_action entry ≡ positive file at
      positive-is =
          let e : blocks_end entry + 1 ≡ 5 + count file at * width file at = omega (arith, ends) in
          ap (byte entry) e ∙ inside (5 + count file at * width file at) (omega arith)

      pub negative-is : negative_action entry ≡ negative file at
      negative-is =
          let e : blocks_end entry + 2 ≡ 6 + count file at * width file at = omega (arith, ends) in
          ap (byte entry) e ∙ inside (6 + count file at * width file at) (omega arith)
