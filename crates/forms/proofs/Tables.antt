-- Fields and groups read back: one law for every table. Assumes nothing.
use mathlib.Core.Path.{◌≡◌, refl, sym, ap, ◌∙◌}
use mathlib.Core.Bool.{Bool, true, false, cond, not, ◌&&◌}
use mathlib.Core.List.{List, [], ◌∷◌, ◌++◌, append_assoc}
use Prim.Native.Nat.{ℕ, zero, suc, ◌+◌, ◌*◌, ◌≤◌}
use native.Mathlib.Nat.{add_comm, zero-mul, suc-mul}
use native.Mathlib.Omega.{arith}
use borrow.Author.Tests.{not-true}
use lib.ListN.{length, replicate}
use Rattle.words.specs.Words.{same, is_in, begins}
use Rattle.words.specs.Lex.{Line, is_word}
use Rattle.words.proofs.Tests.{both, neither, same_refl}
use Rattle.words.proofs.Names.{stopped, stops_here, turned}
use Rattle.forms.specs.Form.{width, bytes_at, said, is_blank, closed, fine}
use Rattle.forms.specs.Table.{Field, keys, widths, Group, breadth, field_line, print_fields, print_groups, fine_field, fine_fields, fine_group, apart}
use Rattle.forms.specs.Table.{Got, Took, joined, and_then, in_line, leads, read_line, read_field, read_fields, read_groups}
use Rattle.forms.proofs.Bytes.{Bytes, size-at, split_at, zeros-at}
use Rattle.forms.proofs.Forms.{said-closed, form_back}

-- no key of a table begins the first line
abbrev pub clear : List (List ℕ) → List Line → Bool
clear ks [] = true
clear ks (l ∷ ls) = stopped ks l.words

line_clear : (t : Bool) (ks : List (List ℕ)) (l : Line) (ls : List Line) → stopped ks l.words ≡ true → clear ks ls ≡ true → clear ks (cond t [] (l ∷ []) ++ ls) ≡ true
line_clear true ks l ls h k = k
line_clear false ks l ls h k = h

pub fields_clear : (indent : ℕ) (fs : List Field) (s : List ℕ) (at : ℕ) (ks : List (List ℕ)) (ls : List Line) → apart (keys fs) ks ≡ true → clear ks ls ≡ true
    → clear ks (print_fields indent fs s at ++ ls) ≡ true
unfolding apart print_fields
fields_clear indent [] s at ks ls h k = k
fields_clear indent (f ∷ fs) s at ks ls h k =
    let (here, more) = both (not (is_in f.key ks)) (apart (keys fs) ks) h in
    let blank = is_blank (said f.form s at) in
    let later = print_fields indent fs s (at + width f.form) in
    rw (append_assoc (cond blank [] (field_line indent f s at ∷ [])) later ls)
    (line_clear blank ks (field_line indent f s at) (later ++ ls) here (fields_clear indent fs s (at + width f.form) ks ls more k))

pub groups_clear : (indent : ℕ) (g : Group) (n : ℕ) (s : List ℕ) (at : ℕ) (ks : List (List ℕ)) (ls : List Line) → is_in g.head.key ks ≡ false → clear ks ls ≡ true
    → clear ks (print_groups indent g n s at ++ ls) ≡ true
unfolding print_groups
groups_clear indent g zero s at ks ls h k = k
groups_clear indent g (suc n) s at ks ls h k = ap not h

-- a key that is clear does not lead
pub not_led : (k : List ℕ) (ks : List (List ℕ)) (ls : List Line) → clear (k ∷ ks) ls ≡ true → (leads k ls ≡ false) × (clear ks ls ≡ true)
not_led k ks [] h = (refl, refl)
not_led k ks (l ∷ ls) h = stops_here k ks l.words h

line_not_led : (t : Bool) (k : List ℕ) (l : Line) (ls : List Line) → begins k l.words ≡ false → leads k ls ≡ false → leads k (cond t [] (l ∷ []) ++ ls) ≡ false
line_not_led true k l ls h n = n
line_not_led false k l ls h n = h

pub later_not_led : (indent : ℕ) (fs : List Field) (s : List ℕ) (at : ℕ) (k : List ℕ) (ls : List Line) → is_in k (keys fs) ≡ false → leads k ls ≡ false
    → leads k (print_fields indent fs s at ++ ls) ≡ false
unfolding is_in print_fields
later_not_led indent [] s at k ls h n = n
later_not_led indent (f ∷ fs) s at k ls h n =
    let (here, more) = neither (same k f.key) (is_in k (keys fs)) h in
    let blank = is_blank (said f.form s at) in
    let later = print_fields indent fs s (at + width f.form) in
    ap (leads k) (append_assoc (cond blank [] (field_line indent f s at ∷ [])) later ls)
    ∙ line_not_led blank k (field_line indent f s at) (later ++ ls) (turned f.key k here) (later_not_led indent fs s (at + width f.form) k ls more n)

bytes-none : (s : List ℕ) (at : ℕ) (ls : List Line) → Took [] ls ≡ Took (bytes_at s at 0) ls
unfolding bytes_at
bytes-none s at ls = refl

module _ (s : List ℕ) (small : Bytes s) where
  pub line_back : (indent : ℕ) (f : Field) (at : ℕ) (ls : List Line) → fine_field f ≡ true → read_line f.form (field_line indent f s at ∷ ls) ≡ Took (bytes_at s at (width f.form)) ls
  line_back indent f at ls h =
      let (front, all-fixed) = both (is_word f.key && fine f.form) (closed f.form) h in
      let (_, good) = both (is_word f.key) (fine f.form) front in
      ap (in_line ls) (form_back s small f.form at good) ∙ ap (λ b. Took b ls) (said-closed f.form s at all-fixed)

  field_back : (t : Bool) (indent : ℕ) (f : Field) (at : ℕ) (ls : List Line) → is_blank (said f.form s at) ≡ t → fine_field f ≡ true → leads f.key ls ≡ false
      → read_field f (cond t [] (field_line indent f s at ∷ []) ++ ls) ≡ Took (bytes_at s at (width f.form)) ls
  field_back true indent f at ls e h k =
      let (_, all-fixed) = both (is_word f.key && fine f.form) (closed f.form) h in
      let same = said-closed f.form s at all-fixed in
      let size : length (said f.form s at) ≡ width f.form = ap length same ∙ size-at s at (width f.form) in
      let zeros : replicate (width f.form) 0 ≡ bytes_at s at (width f.form) = ap (λ n. replicate n 0) (sym size) ∙ sym (zeros-at (said f.form s at) e) ∙ same in
      rw (k, zeros)
  field_back false indent f at ls e h k = rw (same_refl f.key) (line_back indent f at ls h)

  -- THE LAW OF A TABLE
  pub fields_back : (indent : ℕ) (fs : List Field) (at : ℕ) (ls : List Line) → fine_fields fs ≡ true → clear (keys fs) ls ≡ true
      → read_fields fs (print_fields indent fs s at ++ ls) ≡ Took (bytes_at s at (widths fs)) ls
  unfolding fine_fields print_fields read_fields
  fields_back indent [] at ls h k = bytes-none s at ls
  fields_back indent (f ∷ fs) at ls h k =
      let (front, more) = both (fine_field f && not (is_in f.key (keys fs))) (fine_fields fs) h in
      let (good, new) = both (fine_field f) (not (is_in f.key (keys fs))) front in
      let (_, on) = not_led f.key (keys fs) ls k in
      let w = width f.form in
      let blank = is_blank (said f.form s at) in
      let later = print_fields indent fs s (at + w) in
      let alone : leads f.key (later ++ ls) ≡ false = later_not_led indent fs s (at + w) f.key ls (not-true (is_in f.key (keys fs)) new) (not_led f.key (keys fs) ls k).0 in
      let one = field_back blank indent f at (later ++ ls) refl good alone in
      let rest = fields_back indent fs (at + w) ls more on in
      let mine = cond blank [] (field_line indent f s at ∷ []) in
      let both-parts : and_then (read_field f (mine ++ (later ++ ls))) (read_fields fs)
      ≡ Took (bytes_at s at w ++ bytes_at s (at + w) (widths fs)) ls = rw (one, rest) in
      ap (λ x. and_then (read_field f x) (read_fields fs)) (append_assoc (cond blank [] (field_line indent f s at ∷ [])) later ls)
      ∙ both-parts
      ∙ ap (λ b. Took b ls) (sym (split_at s at w (widths fs)))

  none-at : (g : Group) (at : ℕ) → [] ≡ bytes_at s at (0 * breadth g)
  unfolding bytes_at
  none-at g at = ap (bytes_at s at) (sym (zero-mul (breadth g)))

  more-at : (g : Group) (at n : ℕ)
      → bytes_at s at (width g.head.form) ++ (bytes_at s (at + width g.head.form) (widths g.fields) ++ bytes_at s (at + breadth g) (n * breadth g))
      ≡ bytes_at s at (suc n * breadth g)
  more-at g at n =
      let w = width g.head.form in
      let v = widths g.fields in
      let place : at + w + v ≡ at + (w + v) = omega arith in
      let total : suc n * breadth g ≡ w + v + n * breadth g = suc-mul n (breadth g) ∙ add_comm (n * breadth g) (w + v) in
      sym (append_assoc (bytes_at s at w) (bytes_at s (at + w) v) (bytes_at s (at + breadth g) (n * breadth g)))
      ∙ ap (λ b. b ++ bytes_at s (at + breadth g) (n * breadth g)) (sym (split_at s at w v))
      ∙ sym (split_at s at (w + v) (n * breadth g))
      ∙ ap (bytes_at s at) (sym total)

  head-new : (g : Group) → fine_group g ≡ true → is_in g.head.key (keys g.fields) ≡ false
  unfolding fine_group
  head-new g h =
      let (front, _) = both (fine_field g.head && not (is_in g.head.key (keys g.fields))) (fine_fields g.fields) h in
      not-true (is_in g.head.key (keys g.fields)) (both (fine_field g.head) (not (is_in g.head.key (keys g.fields))) front).1

  -- a group: its head's line, and its fields
  group_back : (indent : ℕ) (g : Group) (at : ℕ) (ls : List Line) (next : List Line → Got) → fine_group g ≡ true → clear (keys g.fields) ls ≡ true
      → and_then (read_line g.head.form (field_line indent g.head s at ∷ (print_fields (indent + 2) g.fields s (at + width g.head.form) ++ ls)))
      (λ ls. and_then (read_fields g.fields ls) next)
      ≡ joined (bytes_at s at (width g.head.form)) (joined (bytes_at s (at + width g.head.form) (widths g.fields)) (next ls))
  unfolding fine_group
  group_back indent g at ls next h k =
      let (front, good) = both (fine_field g.head && not (is_in g.head.key (keys g.fields))) (fine_fields g.fields) h in
      let (top, _) = both (fine_field g.head) (not (is_in g.head.key (keys g.fields))) front in
      rw (
        line_back indent g.head at (print_fields (indent + 2) g.fields s (at + width g.head.form) ++ ls) top,
        fields_back (indent + 2) g.fields (at + width g.head.form) ls good k,
      )

  -- THE LAW OF A COUNTED TABLE
  pub groups_back : (indent : ℕ) (g : Group) (m n at : ℕ) (ls : List Line) → n ≤ m → fine_group g ≡ true → clear (g.head.key ∷ keys g.fields) ls ≡ true
      → read_groups g m (print_groups indent g n s at ++ ls) ≡ Took (bytes_at s at (n * breadth g)) ls
  unfolding read_groups print_groups
  groups_back indent g zero zero at ls less h k = ap (λ b. Took b ls) (none-at g at)
  groups_back indent g zero (suc n) at ls less h k = absurd (omega arith)
  groups_back indent g (suc m) zero at ls less h k = rw (not_led g.head.key (keys g.fields) ls k).0 (ap (λ b. Took b ls) (none-at g at))
  groups_back indent g (suc m) (suc n) at ls less h k =
      let fs = g.fields in
      let w = width g.head.form in
      let mine = print_fields (indent + 2) fs s (at + w) in
      let later = print_groups indent g n s (at + breadth g) in
      let (_, on) = not_led g.head.key (keys fs) ls k in
      let stop : clear (keys fs) (later ++ ls) ≡ true = groups_clear indent g n s (at + breadth g) (keys fs) ls (head-new g h) on in
      let rest = groups_back indent g m n (at + breadth g) ls (omega arith) h k in
      let one = group_back indent g at (later ++ ls) (read_groups g m) h stop in
      rw (same_refl g.head.key, append_assoc mine later ls)
      (one ∙ ap (λ r. joined (bytes_at s at w) (joined (bytes_at s (at + w) (widths fs)) r)) rest ∙ ap (λ b. Took b ls) (more-at g at n))
