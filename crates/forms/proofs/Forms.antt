-- What a line says reads back: the law of a row. Assumes nothing.
use mathlib.Core.Path.{◌≡◌, refl, sym, ap, ◌∙◌}
use mathlib.Core.Bool.{Bool, true, false, cond, not, ◌&&◌, ◌||◌}
use mathlib.Core.List.{List, [], ◌∷◌, ◌++◌, append-nil}
use Prim.Native.Nat.{ℕ, ◌+◌, ◌-◌, ◌^◌, ◌≤◌}
use native.Mathlib.Omega.{arith}
use borrow.Author.Tests.{ltb-true, eqb-true, leb-true, not-true}
use lib.Dec.{leb, ltb}
use lib.ListN.{length, drop, replicate, drop_of_length-le}
use Rattle.wire.specs.Wire.{number}
use Rattle.hex_digits.specs.Hex.{hex}
use Rattle.words.specs.Words.{word, is_in, all, distinct, flags, begins}
use Rattle.words.specs.Lex.{is_word, are_words}
use Rattle.words.proofs.Tests.{both, same_refl}
use Rattle.words.proofs.Hex as Hex
use Rattle.words.proofs.Names.{stopped, stops_here, not_first, flags_back}
use Rattle.forms.specs.Form.{Part, say, count, bytes, named, date, code, Form, done, rest, may, part, bits, either, size, width, fits_length}
use Rattle.forms.specs.Form.{bytes_at, said, is_blank, word_of, rest_words, bit_words, print_form}
use Rattle.forms.specs.Form.{Read, Said, read_rest, one, or_zeros, first_word, read_form, fine_part, closed, solid, parted, fine}
use Rattle.forms.proofs.Bytes.{Bytes, size-at, split_at, rest_from, zeros-at, number_back, rest-bytes}
use Rattle.forms.proofs.Parts.{Back, part_back}

pub never : {A : Type 0} → false ≡ true → A
never h = let z : ◌≡◌ {A = ℕ} 0 1 = cc in absurd (omega arith)

-- a closed form is about its width of bytes
pub said-closed : (f : Form) (s : List ℕ) (at : ℕ) → closed f ≡ true → said f s at ≡ bytes_at s at (width f)
unfolding closed
said-closed done s at h = unfold bytes_at in refl
said-closed rest s at h = never h
said-closed (may f) s at h = said-closed f s at h
said-closed (part p f) s at h = ap (λ t. bytes_at s at (size p) ++ t) (said-closed f s (at + size p) h) ∙ sym (split_at s at (size p) (width f))
said-closed (bits n vs f) s at h = ap (λ t. bytes_at s at n ++ t) (said-closed f s (at + n) h) ∙ sym (split_at s at n (width f))
said-closed (either f g) s at h = never h

-- a form that fits says all the bytes from a place on
fits-either : (t : Bool) (f g : Form) (s : List ℕ) (at : ℕ) → fits_length f (length s - at) ≡ t → (t || fits_length g (length s - at)) ≡ true
    → (fits_length f (length s - at) ≡ true → said f s at ≡ drop at s) → (fits_length g (length s - at) ≡ true → said g s at ≡ drop at s)
    → cond t (said f s at) (said g s at) ≡ drop at s
fits-either true f g s at e h p q = p e
fits-either false f g s at e h p q = q h

module _ (s : List ℕ) where
  -- so many bytes first
  fits_more : (at n : ℕ) (f : Form) → at ≤ length s → (leb n (length s - at) && fits_length f (length s - at - n)) ≡ true
      → (at + n ≤ length s → fits_length f (length s - (at + n)) ≡ true → said f s (at + n) ≡ drop (at + n) s)
      → bytes_at s at n ++ said f s (at + n) ≡ drop at s
  fits_more at n f less h next =
      let (p, q) = both (leb n (length s - at)) (fits_length f (length s - at - n)) h in
      let few = leb-true n (length s - at) p in
      let left : length s - at - n ≡ length s - (at + n) = omega arith in
      let inside : at + n ≤ length s = omega arith in
      ap (λ t. bytes_at s at n ++ t) (next inside (ap (fits_length f) (sym left) ∙ q)) ∙ rest_from s at n inside

  pub said_fits : (f : Form) (at : ℕ) → at ≤ length s → fits_length f (length s - at) ≡ true → said f s at ≡ drop at s
  unfolding fits_length
  said_fits done at less h = let none = eqb-true (length s - at) 0 h in let over : length s ≤ at = omega arith in sym (drop_of_length-le s over)
  said_fits rest at less h = refl
  said_fits (may f) at less h = said_fits f at less h
  said_fits (part p f) at less h = fits_more at (size p) f less h (said_fits f (at + size p))
  said_fits (bits n vs f) at less h = fits_more at n f less h (said_fits f (at + n))
  said_fits (either f g) at less h = fits-either (fits_length f (length s - at)) f g s at refl h (said_fits f at less) (said_fits g at less)

-- what follows flags, or a clause that is left out, does not begin with one of theirs
either_stops : (t : Bool) (vs a b : List (List ℕ)) → stopped vs a ≡ true → stopped vs b ≡ true → stopped vs (cond t a b) ≡ true
either_stops true vs a b h k = h
either_stops false vs a b h k = k

pub parted_stops : (vs : List (List ℕ)) (f : Form) (s : List ℕ) (at : ℕ) → parted vs f ≡ true → stopped vs (print_form f s at) ≡ true
unfolding parted print_form word_of
parted_stops vs done s at h = refl
parted_stops vs (part (say w) f) s at h = h
parted_stops vs (part (count n) f) s at h = never h
parted_stops vs (part (bytes n) f) s at h = never h
parted_stops vs (part (named us) f) s at h = never h
parted_stops vs (part date f) s at h = never h
parted_stops vs (part code f) s at h = never h
parted_stops vs rest s at h = never h
parted_stops vs (may f) s at h = never h
parted_stops vs (bits n us f) s at h = never h
parted_stops vs (either f g) s at h =
    let (p, q) = both (parted vs f) (parted vs g) h in
    either_stops (fits_length f (length s - at)) vs (print_form f s at) (print_form g s at) (parted_stops vs f s at p) (parted_stops vs g s at q)

-- a clause begins with its word
begins-said : (f : Form) (s : List ℕ) (at : ℕ) → is_word (first_word f) ≡ true → begins (first_word f) (print_form f s at) ≡ true
unfolding is_word print_form word_of
begins-said (part (say w) f) s at h = same_refl w
begins-said (part (count n) f) s at h = never h
begins-said (part (bytes n) f) s at h = never h
begins-said (part (named us) f) s at h = never h
begins-said (part date f) s at h = never h
begins-said (part code f) s at h = never h
begins-said done s at h = never h
begins-said rest s at h = never h
begins-said (may f) s at h = never h
begins-said (bits n us f) s at h = never h
begins-said (either f g) s at h = never h

one_back : (p : Part) (w b : List ℕ) (ws : List (List ℕ)) (next : List (List ℕ) → Read) (c : List ℕ) → Back p w b → next ws ≡ Said c → one p (w ∷ ws) next ≡ Said (b ++ c)
one_back p w b ws next c h k = rw (h.is, h.tells, k)

pub rest_back : (t : List ℕ) → all (λ b. ltb b 256) t ≡ true → read_rest (rest_words t) ≡ Said t
unfolding read_rest
rest_back [] h = refl
rest_back (b ∷ t) h = rw (Hex.is-hex (b ∷ t) h, Hex.reads_back (b ∷ t) h, append-nil (b ∷ t))

solid-words : (f : Form) (s : List ℕ) (at n : ℕ) (r : Read) → solid f ≡ true → or_zeros n (print_form f s at) r ≡ r
unfolding solid print_form
solid-words done s at n r h = never h
solid-words rest s at n r h = never h
solid-words (may f) s at n r h = never h
solid-words (part p f) s at n r h = refl
solid-words (bits m vs f) s at n r h = never h
solid-words (either f g) s at n r h = never h

may_back : (t : Bool) (f : Form) (s : List ℕ) (at : ℕ) → is_blank (said f s at) ≡ t → solid f ≡ true → closed f ≡ true
    → read_form f (print_form f s at) ≡ Said (said f s at) → read_form (may f) (cond t [] (print_form f s at)) ≡ Said (said f s at)
unfolding read_form
may_back true f s at e p q h =
    let size : length (said f s at) ≡ width f = ap length (said-closed f s at q) ∙ size-at s at (width f) in
    ap Said (ap (λ n. replicate n 0) (sym size) ∙ sym (zeros-at (said f s at) e))
may_back false f s at e p q h = solid-words f s at (width f) (read_form f (print_form f s at)) p ∙ h

module _ (s : List ℕ) (small : Bytes s) where
  bits_back : (t : Bool) (at n : ℕ) (vs : List (List ℕ)) (f : Form) → ltb (number s at n) (2 ^ length vs) ≡ t
      → leb 1 n ≡ true → distinct (word "bits" ∷ vs) ≡ true → parted (word "bits" ∷ vs) f ≡ true
      → read_form f (print_form f s (at + n)) ≡ Said (said f s (at + n))
      → read_form (bits n vs f) (cond t (flags vs (number s at n)) (word "bits" ∷ hex (bytes_at s at n) ∷ []) ++ print_form f s (at + n)) ≡ Said (bytes_at s at n ++ said f s (at + n))
  unfolding read_form distinct
  bits_back true at n vs f e some apart ends h =
      let (new, more) = both (not (is_in (word "bits") vs)) (distinct vs) apart in
      let (here, on) = stops_here (word "bits") vs (print_form f s (at + n)) (parted_stops (word "bits" ∷ vs) f s (at + n) ends) in
      let v = number s at n in
      let back = flags_back vs v (print_form f s (at + n)) more (ltb-true v (2 ^ length vs) e) on in
      let no_bits = not_first (word "bits") vs v (print_form f s (at + n)) (not-true (is_in (word "bits") vs) new) here in
      rw (no_bits, back, number_back s small at n, h)
  bits_back false at n vs f e some apart ends h =
      one_back (bytes n) (hex (bytes_at s at n)) (bytes_at s at n) (print_form f s (at + n)) (read_form f) (said f s (at + n))
      (unfold word_of fine_part in part_back s small at (bytes n) some) h

  either_back : (t : Bool) (f g : Form) (at : ℕ) → is_word (first_word f) ≡ true → parted (first_word f ∷ []) g ≡ true
      → read_form f (print_form f s at) ≡ Said (said f s at) → read_form g (print_form g s at) ≡ Said (said g s at)
      → read_form (either f g) (cond t (print_form f s at) (print_form g s at)) ≡ Said (cond t (said f s at) (said g s at))
  unfolding read_form
  either_back true f g at word ends p q = rw (begins-said f s at word) p
  either_back false f g at word ends p q = rw (stops_here (first_word f) [] (print_form g s at) (parted_stops (first_word f ∷ []) g s at ends)).0 q

  -- THE LAW OF A ROW
  pub form_back : (f : Form) (at : ℕ) → fine f ≡ true → read_form f (print_form f s at) ≡ Said (said f s at)
  unfolding fine print_form read_form bit_words
  form_back done at h = refl
  form_back rest at h = rest_back (drop at s) (rest-bytes s small at)
  form_back (may f) at h =
      let (front, more) = both (solid f && closed f) (fine f) h in
      let (p, q) = both (solid f) (closed f) front in
      may_back (is_blank (said f s at)) f s at refl p q (form_back f at more)
  form_back (part p f) at h =
      let (here, more) = both (fine_part p) (fine f) h in
      one_back p (word_of p s at) (bytes_at s at (size p)) (print_form f s (at + size p)) (read_form f) (said f s (at + size p)) (part_back s small at p here) (form_back f (at + size p) more)
  form_back (bits n vs f) at h =
      let (h1, more) = both (leb 1 n && leb (2 ^ length vs) (256 ^ n) && are_words vs && distinct (word "bits" ∷ vs) && parted (word "bits" ∷ vs) f) (fine f) h in
      let (h2, ends) = both (leb 1 n && leb (2 ^ length vs) (256 ^ n) && are_words vs && distinct (word "bits" ∷ vs)) (parted (word "bits" ∷ vs) f) h1 in
      let (h3, apart) = both (leb 1 n && leb (2 ^ length vs) (256 ^ n) && are_words vs) (distinct (word "bits" ∷ vs)) h2 in
      let (h4, _) = both (leb 1 n && leb (2 ^ length vs) (256 ^ n)) (are_words vs) h3 in
      let (some, _) = both (leb 1 n) (leb (2 ^ length vs) (256 ^ n)) h4 in
      bits_back (ltb (number s at n) (2 ^ length vs)) at n vs f refl some apart ends (form_back f (at + n) more)
  form_back (either f g) at h =
      let (h1, there) = both (is_word (first_word f) && fine f && parted (first_word f ∷ []) g) (fine g) h in
      let (h2, ends) = both (is_word (first_word f) && fine f) (parted (first_word f ∷ []) g) h1 in
      let (word, here) = both (is_word (first_word f)) (fine f) h2 in
      either_back (fits_length f (length s - at)) f g at word ends (form_back f at here) (form_back g at there)
