-- What a printed line says of each spot is what stands there. Assumes nothing.
use mathlib.Core.Path.{◌≡◌, refl, sym, ap, ap₂, ◌∙◌}
use mathlib.Core.Bool.{Bool, true, false, cond, not, ◌&&◌}
use mathlib.Core.List.{List, [], ◌∷◌, ◌++◌, append_assoc}
use Prim.Native.Nat.{ℕ, zero, suc, ◌+◌, ◌*◌, ◌^◌}
use native.Mathlib.Nat.{add_assoc, add_comm, add-zero, zero-add, suc-add, zero-mul, suc-mul}
use native.Mathlib.Omega.{arith}
use borrow.Author.Tests.{ltb-true, not-true}
use lib.Dec.{leb, ltb, eqb}
use lib.ListN.{length, replicate}
use Rattle.wire.specs.Wire.{number}
use Rattle.hex_digits.specs.Hex.{hex}
use Rattle.words.specs.Words.{word, is_in, all, distinct, flags}
use Rattle.words.specs.Lex.{Line, is_word, are_words}
use Rattle.words.proofs.Tests.{both, same_refl}
use Rattle.words.proofs.Names.{stopped, stops_here, not_first, flags_back}
use Rattle.forms.specs.Form.{Part, say, count, bytes, named, date, code, Form, done, rest, may, part, bits, either, size, width, bytes_at}
use Rattle.forms.specs.Form.{said, is_blank, word_of, bit_words, print_form, bytes_in, fine_part, closed, parted, fine}
use Rattle.forms.specs.Table.{Field, keys, Group, breadth, field_line, print_fields, print_groups, leads, fine_field, fine_fields}
use Rattle.forms.specs.Spot.{Spot, spot, label_of, telling, spots_in, field_spots, spots_of, found, heard, zeros, fields_heard, plain, plain_fields}
use Rattle.forms.proofs.Bytes.{Bytes, size-at, split_at, zeros-at, number_back}
use Rattle.forms.proofs.Parts.{part_back}
use Rattle.forms.proofs.Forms.{never, said-closed, parted_stops}
use Rattle.forms.proofs.Tables.{clear, not_led, later_not_led}

found_append : (a b : List Spot) (s : List ℕ) (at : ℕ) → found (a ++ b) s at ≡ found a s at ++ found b s at
unfolding found
found_append [] b s at = refl
found_append (t ∷ a) b s at = ap (λ r. bytes_at s (at + t.place) t.wide ∷ r) (found_append a b s at)

zeros_append : (a b : List Spot) → zeros (a ++ b) ≡ zeros a ++ zeros b
unfolding zeros
zeros_append [] b = refl
zeros_append (t ∷ a) b = ap (λ r. replicate t.wide 0 ∷ r) (zeros_append a b)

plain_closed : (f : Form) → plain f ≡ true → closed f ≡ true
unfolding plain closed
plain_closed done h = refl
plain_closed rest h = never h
plain_closed (may f) h = never h
plain_closed (part p f) h = plain_closed f h
plain_closed (bits n vs f) h = plain_closed f h
plain_closed (either f g) h = never h

-- zeros do not know their place
zeros_anywhere : (key label : List ℕ) (f : Form) (at to : ℕ) → zeros (spots_in key label f at) ≡ zeros (spots_in key label f to)
unfolding spots_in zeros
zeros_anywhere key label done at to = refl
zeros_anywhere key label rest at to = refl
zeros_anywhere key label (may f) at to = zeros_anywhere key label f at to
zeros_anywhere key label (part (say w) f) at to = zeros_anywhere key w f (at + 0) (to + 0)
zeros_anywhere key label (part (count n) f) at to = ap (λ r. replicate n 0 ∷ r) (zeros_anywhere key label f (at + n) (to + n))
zeros_anywhere key label (part (bytes n) f) at to = ap (λ r. replicate n 0 ∷ r) (zeros_anywhere key label f (at + n) (to + n))
zeros_anywhere key label (part (named vs) f) at to = ap (λ r. replicate 1 0 ∷ r) (zeros_anywhere key label f (at + 1) (to + 1))
zeros_anywhere key label (part date f) at to = ap (λ r. replicate 3 0 ∷ r) (zeros_anywhere key label f (at + 3) (to + 3))
zeros_anywhere key label (part code f) at to = ap (λ r. replicate 2 0 ∷ r) (zeros_anywhere key label f (at + 2) (to + 2))
zeros_anywhere key label (bits n vs f) at to = ap (λ r. replicate n 0 ∷ r) (zeros_anywhere key label f (at + n) (to + n))
zeros_anywhere key label (either f g) at to = refl

blank_both : (a b : List ℕ) → is_blank (a ++ b) ≡ true → (is_blank a ≡ true) × (is_blank b ≡ true)
unfolding is_blank all
blank_both [] b h = (refl, h)
blank_both (c ∷ a) b h =
    let (p, q) = both (eqb c 0) (all (λ b. eqb b 0) (a ++ b)) h in
    let (r, t) = blank_both a b q in (rw (p, r), t)

blank-at : (s : List ℕ) (at n : ℕ) → is_blank (bytes_at s at n) ≡ true → bytes_at s at n ≡ replicate n 0
blank-at s at n h = zeros-at (bytes_at s at n) h ∙ ap (λ k. replicate k 0) (size-at s at n)

module _ (s : List ℕ) where
  -- the first bytes are zeros, and those of the others
  module _ (at from : ℕ) where
    blank-more : (key label : List ℕ) (n m : ℕ) (ts : List Spot) → is_blank (bytes_at s (at + from) (n + m)) ≡ true
        → (is_blank (bytes_at s (at + (from + n)) m) ≡ true → found ts s at ≡ zeros ts)
        → found (spot key label from n ∷ ts) s at ≡ zeros (spot key label from n ∷ ts)
    unfolding found zeros
    blank-more key label n m ts h next =
        let (p, q) = blank_both (bytes_at s (at + from) n) (bytes_at s (at + from + n) m) (ap is_blank (sym (split_at s (at + from) n m)) ∙ h) in
        ap₂ ◌∷◌ (blank-at s (at + from) n p) (next (ap (λ k. is_blank (bytes_at s k m)) (sym (add_assoc at from n)) ∙ q))

  blank-says : (key label : List ℕ) (f : Form) (at from : ℕ) → plain f ≡ true → is_blank (bytes_at s (at + from) (width f)) ≡ true
      → found (spots_in key label f from) s at ≡ zeros (spots_in key label f from)
  unfolding spots_in plain
  blank-says key label done at from p h = unfold found zeros in refl
  blank-says key label rest at from p h = never p
  blank-says key label (may f) at from p h = never p
  blank-says key label (part (say w) f) at from p h =
      let same : from + 0 ≡ from = omega arith in
      rw same (blank-says key w f at from p (ap (λ n. is_blank (bytes_at s (at + from) n)) (sym (zero-add (width f))) ∙ h))
  blank-says key label (part (count n) f) at from p h = blank-more at from key label n (width f) (spots_in key label f (from + n)) h (blank-says key label f at (from + n) p)
  blank-says key label (part (bytes n) f) at from p h = blank-more at from key label n (width f) (spots_in key label f (from + n)) h (blank-says key label f at (from + n) p)
  blank-says key label (part (named vs) f) at from p h = blank-more at from key label 1 (width f) (spots_in key label f (from + 1)) h (blank-says key label f at (from + 1) p)
  blank-says key label (part date f) at from p h = blank-more at from key label 3 (width f) (spots_in key label f (from + 3)) h (blank-says key label f at (from + 3) p)
  blank-says key label (part code f) at from p h = blank-more at from key label 2 (width f) (spots_in key label f (from + 2)) h (blank-says key label f at (from + 2) p)
  blank-says key label (bits n vs f) at from p h = blank-more at from key label n (width f) (spots_in key label f (from + n)) h (blank-says key label f at (from + n) p)
  blank-says key label (either f g) at from p h = never p

  module _ (small : Bytes s) where
    told : (p : Part) (key label : List ℕ) (at from : ℕ) → fine_part p ≡ true → telling p (bytes_in p (word_of p s (at + from))) ≡ found (telling p (spot key label from (size p))) s at
    unfolding found
    told (say w) key label at from h = refl
    told (count n) key label at from h = ap (λ b. b ∷ []) (part_back s small (at + from) (count n) h).tells
    told (bytes n) key label at from h = ap (λ b. b ∷ []) (part_back s small (at + from) (bytes n) h).tells
    told (named vs) key label at from h = ap (λ b. b ∷ []) (part_back s small (at + from) (named vs) h).tells
    told date key label at from h = ap (λ b. b ∷ []) (part_back s small (at + from) date h).tells
    told code key label at from h = ap (λ b. b ∷ []) (part_back s small (at + from) code h).tells

    hex-fine : (n : ℕ) → leb 1 n ≡ true → fine_part (bytes n) ≡ true
    unfolding fine_part
    hex-fine n h = h

    hex-told : (at n : ℕ) → leb 1 n ≡ true → bytes_in (bytes n) (hex (bytes_at s at n)) ≡ bytes_at s at n
    hex-told at n h = (unfold word_of in (part_back s small at (bytes n) (hex-fine n h)).tells)

    bits-told : (t : Bool) (at n : ℕ) (vs : List (List ℕ)) (f : Form) (ws rs : List (List ℕ)) → ltb (number s at n) (2 ^ length vs) ≡ t
        → leb 1 n ≡ true → distinct (word "bits" ∷ vs) ≡ true → stopped (word "bits" ∷ vs) ws ≡ true → heard f ws ≡ rs
        → heard (bits n vs f) (cond t (flags vs (number s at n)) (word "bits" ∷ hex (bytes_at s at n) ∷ []) ++ ws) ≡ bytes_at s at n ∷ rs
    unfolding heard distinct
    bits-told true at n vs f ws rs e some apart ends h =
        let (new, more) = both (not (is_in (word "bits") vs)) (distinct vs) apart in
        let (here, on) = stops_here (word "bits") vs ws ends in
        let v = number s at n in
        let back = flags_back vs v ws more (ltb-true v (2 ^ length vs) e) on in
        let no_bits = not_first (word "bits") vs v ws (not-true (is_in (word "bits") vs) new) here in
        rw (no_bits, back, number_back s small at n, h)
    bits-told false at n vs f ws rs e some apart ends h = ap₂ ◌∷◌ (hex-told at n some) h

    -- THE LAW OF A LINE'S SPOTS
    pub form-says : (f : Form) (key label : List ℕ) (at from : ℕ) → plain f ≡ true → fine f ≡ true → heard f (print_form f s (at + from)) ≡ found (spots_in key label f from) s at
    unfolding plain fine heard print_form spots_in bit_words
    form-says done key label at from p h = unfold found in refl
    form-says rest key label at from p h = never p
    form-says (may f) key label at from p h = never p
    form-says (part q f) key label at from p h =
        let (here, more) = both (fine_part q) (fine f) h in
        let n = size q in
        let later : heard f (print_form f s (at + from + n)) ≡ found (spots_in key (label_of label q) f (from + n)) s at =
        ap (λ k. heard f (print_form f s k)) (add_assoc at from n) ∙ form-says f key (label_of label q) at (from + n) p more in
        ap₂ ◌++◌ (told q key label at from here) later ∙ sym (found_append (telling q (spot key label from n)) (spots_in key (label_of label q) f (from + n)) s at)
    form-says (bits n vs f) key label at from p h =
        let (h1, more) = both (leb 1 n && leb (2 ^ length vs) (256 ^ n) && are_words vs && distinct (word "bits" ∷ vs) && parted (word "bits" ∷ vs) f) (fine f) h in
        let (h2, ends) = both (leb 1 n && leb (2 ^ length vs) (256 ^ n) && are_words vs && distinct (word "bits" ∷ vs)) (parted (word "bits" ∷ vs) f) h1 in
        let (h3, apart) = both (leb 1 n && leb (2 ^ length vs) (256 ^ n) && are_words vs) (distinct (word "bits" ∷ vs)) h2 in
        let (h4, _) = both (leb 1 n && leb (2 ^ length vs) (256 ^ n)) (are_words vs) h3 in
        let (some, _) = both (leb 1 n) (leb (2 ^ length vs) (256 ^ n)) h4 in
        let later : heard f (print_form f s (at + from + n)) ≡ found (spots_in key label f (from + n)) s at =
        ap (λ k. heard f (print_form f s k)) (add_assoc at from n) ∙ form-says f key label at (from + n) p more in
        bits-told (ltb (number s (at + from) n) (2 ^ length vs)) (at + from) n vs f (print_form f s (at + from + n)) (found (spots_in key label f (from + n)) s at) refl some apart
        (parted_stops (word "bits" ∷ vs) f s (at + from + n) ends) later
        ∙ (unfold found in refl)
    form-says (either f g) key label at from p h = never p

    -- a field's line, or none
    field-says : (t : Bool) (indent : ℕ) (f : Field) (fs : List Field) (at from : ℕ) (ls : List Line) → is_blank (said f.form s (at + from)) ≡ t → fine_field f ≡ true
        → plain f.form ≡ true → leads f.key ls ≡ false
        → fields_heard (f ∷ fs) (cond t [] (field_line indent f s (at + from) ∷ []) ++ ls) ≡ found (field_spots f from) s at ++ fields_heard fs ls
    unfolding fields_heard
    field-says true indent f fs at from ls e h p k =
        let blank = ap is_blank (sym (said-closed f.form s (at + from) (plain_closed f.form p))) ∙ e in
        let none = zeros_anywhere f.key f.key f.form 0 from ∙ sym (blank-says f.key f.key f.form at from p blank) in
        rw k (ap (λ r. r ++ fields_heard fs ls) none)
    field-says false indent f fs at from ls e h p k =
        let (front, _) = both (is_word f.key && fine f.form) (closed f.form) h in
        let (_, good) = both (is_word f.key) (fine f.form) front in
        rw (same_refl f.key) (ap (λ r. r ++ fields_heard fs ls) (form-says f.form f.key f.key at from p good))

    -- THE LAW OF A TABLE'S SPOTS
    pub fields-say : (indent : ℕ) (fs : List Field) (at from : ℕ) (ls : List Line) → fine_fields fs ≡ true → plain_fields fs ≡ true → clear (keys fs) ls ≡ true
        → fields_heard fs (print_fields indent fs s (at + from) ++ ls) ≡ found (spots_of fs from) s at
    unfolding fine_fields plain_fields print_fields spots_of
    fields-say indent [] at from ls h p k = unfold fields_heard found in refl
    fields-say indent (f ∷ fs) at from ls h p k =
        let (front, more) = both (fine_field f && not (is_in f.key (keys fs))) (fine_fields fs) h in
        let (good, new) = both (fine_field f) (not (is_in f.key (keys fs))) front in
        let (here, there) = both (plain f.form) (plain_fields fs) p in
        let (alone, on) = not_led f.key (keys fs) ls k in
        let w = width f.form in
        let blank = is_blank (said f.form s (at + from)) in
        let later = print_fields indent fs s (at + from + w) in
        let new-key : leads f.key (later ++ ls) ≡ false = later_not_led indent fs s (at + from + w) f.key ls (not-true (is_in f.key (keys fs)) new) alone in
        let rest : fields_heard fs (later ++ ls) ≡ found (spots_of fs (from + w)) s at =
        ap (λ k. fields_heard fs (print_fields indent fs s k ++ ls)) (add_assoc at from w) ∙ fields-say indent fs at (from + w) ls more there on in
        ap (fields_heard (f ∷ fs)) (append_assoc (cond blank [] (field_line indent f s (at + from) ∷ [])) later ls)
        ∙ field-says blank indent f fs at from (later ++ ls) refl good here new-key
        ∙ ap (λ r. found (field_spots f from) s at ++ r) rest
        ∙ sym (found_append (field_spots f from) (spots_of fs (from + w)) s at)

-- ---- group i + 1 stands i breadths behind the first

pub groups_split : (indent : ℕ) (g : Group) (i n : ℕ) (s : List ℕ) (at : ℕ)
    → print_groups indent g (i + n) s at ≡ print_groups indent g i s at ++ print_groups indent g n s (at + i * breadth g)
unfolding print_groups
groups_split indent g zero n s at =
    let place : at + 0 * breadth g ≡ at = ap (λ k. at + k) (zero-mul (breadth g)) ∙ add-zero at in
    rw (zero-add n, place)
groups_split indent g (suc i) n s at =
    let b = breadth g in
    let mine = print_fields (indent + 2) g.fields s (at + width g.head.form) in
    let place : at + b + i * b ≡ at + suc i * b = add_assoc at b (i * b) ∙ ap (λ k. at + k) (add_comm b (i * b) ∙ sym (suc-mul i b)) in
    let later = groups_split indent g i n s (at + b) ∙ ap (λ k. print_groups indent g i s (at + b) ++ print_groups indent g n s k) place in
    rw (suc-add i n)
    (ap (λ r. field_line indent g.head s at ∷ mine ++ r) later
    ∙ ap (λ r. field_line indent g.head s at ∷ r) (sym (append_assoc mine (print_groups indent g i s (at + b)) (print_groups indent g n s (at + suc i * b)))))
