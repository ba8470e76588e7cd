-- How long a field is: never above 24 bytes, and by a table that was judged sound as long as its entry says. Assumes nothing.
use mathlib.Core.Path.{◌≡◌, refl, ap, ◌∙◌}
use mathlib.Core.Bool.{Bool, true, false, cond, not, ◌&&◌}
use mathlib.Core.List.{List}
use Prim.Native.Nat.{ℕ, ◌+◌, ◌-◌, ◌≤◌}
use native.Mathlib.Omega.{arith}
use borrow.Author.Tests.{le-leb, ltb-false}
use lib.Dec.{ltb, eqb}
use lib.ListN.{length, drop, length-take}
use Rattle.log_tail.specs.declared.Entry.{Entry}
use Rattle.log_tail.specs.LogTail.{reaches_past}
use Rattle.field.specs.Field.{is_within, stretch_of, field_of}
use Rattle.field.proofs.Laws.{whole, short}
use Rattle.ring.specs.declared.Record.{Record}
use Rattle.log_fields.specs.declared.Form.{Form}
use Rattle.log_fields.specs.LogFields.{first_length, part_of, is_of_second, first_data, second_data, field_entry, field_in}

cond_most : (b : Bool) (n : ℕ) → cond b n 0 ≤ n
cond_most true n = omega arith
cond_most false n = omega arith

part-most : (paper : List ℕ) (at bytes : ℕ) → length (part_of paper at bytes) ≤ bytes
unfolding part_of
part-most paper at bytes = omega (arith, length-take bytes (drop at paper))

none_left : (s : List ℕ) (position long : ℕ) → is_within (length s) position long ≡ false → length (stretch_of s position long) ≡ 0
unfolding stretch_of
none_left s position long e = rw e

module _ (paper tail : List ℕ) (form : Form) (kept : Record) (i : ℕ) where
  abbrev entry : Entry
  entry = field_entry tail form kept i

  abbrev first : List ℕ
  first = first_data paper form kept

  abbrev second : List ℕ
  second = second_data paper kept

  pub field-short : length (field_in paper tail form kept i) ≤ 24
  unfolding field_in field_of
  field-short = by (eqb entry.source 0) where
    by : (b : Bool) → length (stretch_of (cond b first second) entry.position entry.length) ≤ 24
    by true =
        let few = (short first entry.position entry.length).1 in
        let most = part-most paper kept.first (first_length form) in
        omega (arith, cond_most form.dated 3, cond_most form.cpace 9)
    by false =
        let few = (short second entry.position entry.length).1 in
        let most = part-most paper kept.second (cond (is_of_second kept) 8 0) in
        omega (arith, cond_most (is_of_second kept) 8)

  -- where the data lies in the paper whole, an entry that does not reach past it is its field's length, and position 0 gives an empty one
  pub as_long : length first ≡ first_length form → length second ≡ 8 → reaches_past entry (first_length form) ≡ false
      → length (field_in paper tail form kept i) ≡ cond (eqb entry.position 0) 0 entry.length
  unfolding field_in field_of reaches_past
  as_long f s fine = by (eqb entry.source 0) fine where
    within : (data-length : ℕ) (none : Bool) → eqb entry.position 0 ≡ none → (not none && ltb data-length (entry.position - 1 + entry.length)) ≡ false
        → is_within data-length entry.position entry.length ≡ not none
    within n true e q = rw e
    within n false e q = let fits = ltb-false n (entry.position - 1 + entry.length) q in rw e (le-leb (entry.position - 1 + entry.length) n fits)

    sized : (x : List ℕ) (n : ℕ) → length x ≡ n → (none : Bool) → eqb entry.position 0 ≡ none
        → (not none && ltb n (entry.position - 1 + entry.length)) ≡ false
        → length (stretch_of x entry.position entry.length) ≡ cond none 0 entry.length
    sized x n size true e q = none_left x entry.position entry.length (ap (λ (m : ℕ). is_within m entry.position entry.length) size ∙ within n true e q)
    sized x n size false e q = whole x entry.position entry.length (ap (λ (m : ℕ). is_within m entry.position entry.length) size ∙ within n false e q)

    by : (b : Bool) → (not (eqb entry.position 0) && ltb (cond b (first_length form) 8) (entry.position - 1 + entry.length)) ≡ false
        → length (stretch_of (cond b first second) entry.position entry.length) ≡ cond (eqb entry.position 0) 0 entry.length
    by true q = sized first (first_length form) f (eqb entry.position 0) refl q
    by false q = sized second 8 s (eqb entry.position 0) refl q
