-- What is printed of a suffix is what is printed of the whole from there on. Assumes nothing.
use mathlib.Core.Path.{◌≡◌, refl, sym, ap, ap₂, ◌∙◌}
use mathlib.Core.Bool.{cond}
use mathlib.Core.List.{List, [], ◌∷◌, ◌++◌}
use Prim.Native.Nat.{ℕ, zero, suc, ◌+◌, ◌*◌, ◌-◌}
use native.Mathlib.Nat.{add_assoc, add-suc, sub-add-eq}
use lib.ListN.{length, drop, length-drop}
use lib.Seq.{get_or-drop, drop-drop}
use Rattle.wire.specs.Wire.{byte, number}
use Rattle.numerals.specs.Numeral.{numeral}
use Rattle.hex_digits.specs.Hex.{hex}
use Rattle.words.specs.Words.{all, name_of}
use Rattle.forms.specs.Form.{Part, say, count, bytes, named, date, code, Form, done, rest, may, part, bits, either, size, width}
use Rattle.forms.specs.Form.{bytes_at, said, is_letter, word_of, rest_words, bit_words, print_form}
use Rattle.forms.specs.Table.{Field, Group, breadth, field_line, print_fields, print_groups}
use Rattle.forms.specs.Tail.{Item, fields, each, counted, entries, Tail, entries_size, item_size, items_size, tail_size}
use Rattle.forms.specs.Tail.{print_entries, print_item, print_items, print_tail}

module _ (s : List ℕ) (a : ℕ) where
  byte-from : (at : ℕ) → byte (drop a s) at ≡ byte s (a + at)
  byte-from at = get_or-drop a s at 0

  length_from : (at : ℕ) → length (drop a s) - at ≡ length s - (a + at)
  length_from at = ap (λ n. n - at) (length-drop a s) ∙ sym (sub-add-eq (length s) a at)

  number-from : (at n : ℕ) → number (drop a s) at n ≡ number s (a + at) n
  unfolding number
  number-from at zero = refl
  number-from at (suc n) = ap₂ (λ h l. h * 256 + l) (number-from at n) (byte-from (at + n) ∙ ap (byte s) (sym (add_assoc a at n)))

  pub bytes-from : (at n : ℕ) → bytes_at (drop a s) at n ≡ bytes_at s (a + at) n
  unfolding bytes_at
  bytes-from at zero = refl
  bytes-from at (suc n) = ap₂ ◌∷◌ (byte-from at) (bytes-from (suc at) n ∙ ap (λ k. bytes_at s k n) (add-suc a at))

  word-from : (p : Part) (at : ℕ) → word_of p (drop a s) at ≡ word_of p s (a + at)
  unfolding word_of
  word-from (say w) at = refl
  word-from (count n) at = ap numeral (number-from at n)
  word-from (bytes n) at = ap hex (bytes-from at n)
  word-from (named vs) at = ap (λ b. name_of vs b (numeral b)) (byte-from at)
  word-from date at =
      let next = bytes-from (at + 1) 1 ∙ ap (λ k. bytes_at s k 1) (sym (add_assoc a at 1)) in
      let last = bytes-from (at + 2) 1 ∙ ap (λ k. bytes_at s k 1) (sym (add_assoc a at 2)) in
      rw (bytes-from at 3, bytes-from at 1, next, last)
  word-from code at = ap (λ b. cond (all is_letter b) b (hex b)) (bytes-from at 2)

  bits-from : (n : ℕ) (vs : List (List ℕ)) (at : ℕ) → bit_words n vs (drop a s) at ≡ bit_words n vs s (a + at)
  unfolding bit_words
  bits-from n vs at = rw (number-from at n, bytes-from at n)

  rest_from : (at : ℕ) → drop at (drop a s) ≡ drop (a + at) s
  rest_from at = drop-drop at a s

  pub said-from : (f : Form) (at : ℕ) → said f (drop a s) at ≡ said f s (a + at)
  said-from done at = refl
  said-from rest at = rest_from at
  said-from (may f) at = said-from f at
  said-from (part p f) at = ap₂ ◌++◌ (bytes-from at (size p)) (said-from f (at + size p) ∙ ap (said f s) (sym (add_assoc a at (size p))))
  said-from (bits n vs f) at = ap₂ ◌++◌ (bytes-from at n) (said-from f (at + n) ∙ ap (said f s) (sym (add_assoc a at n)))
  said-from (either f g) at = rw (length_from at, said-from f at, said-from g at)

  pub form-from : (f : Form) (at : ℕ) → print_form f (drop a s) at ≡ print_form f s (a + at)
  unfolding print_form
  form-from done at = refl
  form-from rest at = ap rest_words (rest_from at)
  form-from (may f) at = rw (said-from f at, form-from f at)
  form-from (part p f) at = ap₂ ◌∷◌ (word-from p at) (form-from f (at + size p) ∙ ap (print_form f s) (sym (add_assoc a at (size p))))
  form-from (bits n vs f) at = ap₂ ◌++◌ (bits-from n vs at) (form-from f (at + n) ∙ ap (print_form f s) (sym (add_assoc a at n)))
  form-from (either f g) at = rw (length_from at, form-from f at, form-from g at)

  line-from : (indent : ℕ) (f : Field) (at : ℕ) → field_line indent f (drop a s) at ≡ field_line indent f s (a + at)
  line-from indent f at = ap (λ ws. record { indent = indent; words = f.key ∷ ws }) (form-from f.form at)

  pub fields-from : (indent : ℕ) (fs : List Field) (at : ℕ) → print_fields indent fs (drop a s) at ≡ print_fields indent fs s (a + at)
  unfolding print_fields
  fields-from indent [] at = refl
  fields-from indent (f ∷ fs) at =
      let w = width f.form in
      rw (said-from f.form at, line-from indent f at, fields-from indent fs (at + w), add_assoc a at w)

  pub groups_from : (indent : ℕ) (g : Group) (n at : ℕ) → print_groups indent g n (drop a s) at ≡ print_groups indent g n s (a + at)
  unfolding print_groups
  groups_from indent g zero at = refl
  groups_from indent g (suc n) at =
      let w = width g.head.form in
      let b = breadth g in
      rw (line-from indent g.head at, fields-from (indent + 2) g.fields (at + w), groups_from indent g n (at + b), add_assoc a at w, add_assoc a at b)

  entries-size-from : (n at : ℕ) → entries_size n (drop a s) at ≡ entries_size n s (a + at)
  unfolding entries_size
  entries-size-from zero at = refl
  entries-size-from (suc n) at =
      let e = byte s (a + at) in
      rw (byte-from at) (ap (λ k. suc e + k) (entries-size-from n (at + suc e) ∙ ap (entries_size n s) (sym (add_assoc a at (suc e)))))

  entries_from_lem : (indent : ℕ) (key : List ℕ) (n at : ℕ) → print_entries indent key n (drop a s) at ≡ print_entries indent key n s (a + at)
  unfolding print_entries
  entries_from_lem indent key zero at = refl
  entries_from_lem indent key (suc n) at =
      let e = byte s (a + at) in
      let mine = bytes-from (suc at) e ∙ ap (λ k. bytes_at s k e) (add-suc a at) in
      let more = entries_from_lem indent key n (at + suc e) ∙ ap (print_entries indent key n s) (sym (add_assoc a at (suc e))) in
      rw (byte-from at) (ap₂ (λ b ls. record { indent = indent; words = key ∷ rest_words b } ∷ ls) mine more)

  item_size_from : (p : ℕ) (i : Item) (at : ℕ) → item_size p i (drop a s) at ≡ item_size p i s (a + at)
  item_size_from p (fields fs) at = refl
  item_size_from p (each g) at = refl
  item_size_from p (counted g) at = ap (λ n. 1 + n * breadth g) (byte-from at)
  item_size_from p (entries key) at = rw (byte-from at) (ap (λ n. 1 + n) (entries-size-from (byte s (a + at)) (at + 1) ∙ ap (entries_size (byte s (a + at)) s) (sym (add_assoc a at 1))))

  item_from : (indent p : ℕ) (i : Item) (at : ℕ) → print_item indent p i (drop a s) at ≡ print_item indent p i s (a + at)
  item_from indent p (fields fs) at = fields-from indent fs at
  item_from indent p (each g) at = groups_from indent g p at
  item_from indent p (counted g) at =
      rw (byte-from at) (groups_from indent g (byte s (a + at)) (at + 1) ∙ ap (print_groups indent g (byte s (a + at)) s) (sym (add_assoc a at 1)))
  item_from indent p (entries key) at =
      rw (byte-from at) (entries_from_lem indent key (byte s (a + at)) (at + 1) ∙ ap (print_entries indent key (byte s (a + at)) s) (sym (add_assoc a at 1)))

  pub items-size-from : (p : ℕ) (is : List Item) (at : ℕ) → items_size p is (drop a s) at ≡ items_size p is s (a + at)
  unfolding items_size
  items-size-from p [] at = refl
  items-size-from p (i ∷ is) at =
      let n = item_size p i s (a + at) in
      rw (item_size_from p i at) (ap (λ k. n + k) (items-size-from p is (at + n) ∙ ap (items_size p is s) (sym (add_assoc a at n))))

  pub items-from : (indent p : ℕ) (is : List Item) (at : ℕ) → print_items indent p is (drop a s) at ≡ print_items indent p is s (a + at)
  unfolding print_items
  items-from indent p [] at = refl
  items-from indent p (i ∷ is) at =
      let n = item_size p i s (a + at) in
      rw (item_size_from p i at) (ap₂ ◌++◌ (item_from indent p i at) (items-from indent p is (at + n) ∙ ap (print_items indent p is s) (sym (add_assoc a at n))))

  pub tail-size-from : (p : ℕ) (t : Tail) (at : ℕ) → tail_size p t (drop a s) at ≡ tail_size p t s (a + at)
  unfolding tail_size
  tail-size-from p t at = rw (items-size-from p t.items at, items-size-from p t.items (at + 1), byte-from at, add_assoc a at 1)

  pub tail_from : (p : ℕ) (t : Tail) (at : ℕ) → print_tail p t (drop a s) at ≡ print_tail p t s (a + at)
  unfolding print_tail
  tail_from p t at = rw (items-from 2 p t.items at, items-from 4 p t.items (at + 1), byte-from at, add_assoc a at 1)
