-- What the grammar says at a place, and where it goes on. Assumes nothing.
use mathlib.Core.Path.{◌≡◌, refl, sym, ap, ◌∙◌}
use mathlib.Core.Bool.{Bool, true, false, cond, ◌&&◌, ◌||◌, and-true, and-false}
use mathlib.Core.List.{List, [], ◌∷◌}
use Prim.Native.Nat.{ℕ, zero, suc, ◌+◌, ◌-◌, ◌≤◌, ◌<◌}
use native.Mathlib.Nat.{sub-zero, zero-add, add-zero}
use native.Mathlib.Numerals.{add-one}
use native.Mathlib.Omega.{arith}
use borrow.Author.Tests.{le-leb, lt-leb, leb-true, eqb-true, eqb-false, ne_eqb}
use lib.Dec.{leb, eqb}
use lib.ListN.{length, take, drop}
use lib.Seq.{drop-cons}
use Rattle.wire.specs.Wire.{byte}
use Rattle.words.specs.Words.{word, same, is_empty}
use Rattle.words.proofs.Tests.{both}
use Rattle.words.specs.Lex.{flush}
use Rattle.lexing.specs.Places.{word_at, words_at, ends_line, word_end, next_word, after_word}
use Rattle.lexing.proofs.Steps.{in_line_lem}
use Rattle.lexing.proofs.Laws.{word-part, word_in, words-behind, words-next, word_next, next-behind, word-passed, ended}
use Rattle.forms.specs.Form.{Form, done, rest, either, width, fits_length}
use Rattle.forms.specs.Grammar.{form_in, past, is_sized, size_in}
use Rattle.walk.specs.declared.Mark.{Mark as Kind}
use Rattle.walk.specs.declared.Mark.TheVariants.{End, Rest, MayEnd, Opens, Silent, Names, Flags, Number, Bytes, Date, Code, Word}
use Rattle.walk.specs.Marks.{mark_of, mark_at, size_of, behind_part}
use Rattle.walk.specs.Walk.{Leads}
use Rattle.walk.proofs.Forms.{by_mark, form-step, form-none}
use Rattle.walk.proofs.Keys.{is_among, tag, never, going, single}

pub three-more : (n : ℕ) → (n ≡ 0 → ⊥) → (n ≡ 1 → ⊥) → (n ≡ 2 → ⊥) → 3 ≤ n
three-more zero a b c = absurd (a refl)
three-more (suc zero) a b c = absurd (b refl)
three-more (suc (suc zero)) a b c = absurd (c refl)
three-more (suc (suc (suc n))) a b c = omega arith

long : (a b c : ℕ) (w : List ℕ) → mark_of (a ∷ b ∷ c ∷ w) ≡ Word
unfolding mark_of is_sized
long a b c w = simp (and-false, ne_eqb (length (a ∷ b ∷ c ∷ w)) 2 (λ e. omega arith))

module _ (text : List ℕ) (t : ℕ) where
  pub words-after : words_at text t ≡ flush (word_at text t) (words_at text (after_word text t))
  words-after = words-behind text t ∙ ap (flush (word_at text t)) (sym (words-next text (word_end text t)))

  -- THE FORM FROM A PLACE ON, by the mark there
  pub form-at : form_in (words_at text t) ≡ by_mark (mark_at text t) (word_at text t) (words_at text (after_word text t))
  unfolding mark_at
  form-at = go (ends_line text t) refl where
    there : (w : List ℕ) (ws : List (List ℕ)) → form_in (flush w ws) ≡ by_mark (cond (is_empty w) Silent (mark_of w)) w ws
    there [] ws = refl
    there (c ∷ w) ws = form-step (c ∷ w) ws

    go : (e : Bool) → ends_line text t ≡ e
        → form_in (words_at text t) ≡ by_mark (cond e End (cond (is_empty (word_at text t)) Silent (mark_of (word_at text t)))) (word_at text t) (words_at text (after_word text t))
    go true e = ap form_in (ended text t e) ∙ form-none
    go false e = ap form_in words-after ∙ there (word_at text t) (words_at text (after_word text t))

  -- the walk goes on
  pub moves : ends_line text t ≡ false → t < after_word text t
  unfolding word_end
  moves h = go (word_at text t) refl where
    stays : word_at text t ≡ [] → eqb (next_word text t) t ≡ true → ⊥
    stays e k =
        let same = eqb-true (next_word text t) t k in
        let word = word_next text t (ap (ends_line text) same ∙ h) in
        let none : is_empty (word_at text (next_word text t)) ≡ true = ap (λ n. is_empty (word_at text n)) same ∙ ap is_empty e in
        let z : ◌≡◌ {A = ℕ} 0 1 = cc in
        omega arith

    on : word_at text t ≡ [] → (b : Bool) → eqb (next_word text t) t ≡ b → t < next_word text t
    on e true k = absurd (stays e k)
    on e false k = let other = eqb-false (next_word text t) t k in let r = next-behind text t in omega (arith, other)

    go : (w : List ℕ) → word_at text t ≡ w → t < after_word text t
    go [] e =
        let end : t + length (word_at text t) ≡ t = rw e (add-zero t) in
        rw end (on e (eqb (next_word text t) t) refl)
    go (c ∷ w) e =
        let passed : t < word_end text t = word-passed text t (ap is_empty e) in
        let r = next-behind text (word_end text t) in
        omega arith

  -- ---- the word by its bytes

  ended-word : ends_line text t ≡ true → word_at text t ≡ []
  ended-word e = go (word_at text t) (sym words-after ∙ ended text t e) where
    go : (w : List ℕ) → flush w (words_at text (after_word text t)) ≡ [] → w ≡ []
    go [] k = refl
    go (c ∷ w) k = cc

  word_size : length (word_at text t) ≡ word_end text t - t
  unfolding word_end
  word_size = omega arith

  pub no_byte : word_end text t - t ≡ 0 → word_at text t ≡ []
  no_byte h = sym (word-part text t) ∙ ap (λ n. take n (drop t text)) h

  pub one_byte : ends_line text t ≡ false → word_end text t - t ≡ 1 → word_at text t ≡ byte text t ∷ []
  one_byte e h =
      let there = in_line_lem text t e in
      sym (word-part text t) ∙ ap (λ n. take n (drop t text)) h ∙ ap (take 1) (drop-cons text t 0 there)

  pub two_bytes : ends_line text t ≡ false → word_end text t - t ≡ 2 → word_at text t ≡ byte text t ∷ byte text (t + 1) ∷ []
  two_bytes e h =
      let there = in_line_lem text t e in
      let end = word_in text t (omega arith) in
      let next : suc t < length text = omega arith in
      sym (word-part text t) ∙ ap (λ n. take n (drop t text)) h ∙ ap (take 2) (drop-cons text t 0 there)
      ∙ ap (λ s. byte text t ∷ take 1 s) (drop-cons text (suc t) 0 next)
      ∙ ap (λ k. byte text t ∷ byte text k ∷ []) (sym (add-one t))

  pub mark_end : ends_line text t ≡ true → mark_at text t ≡ End
  unfolding mark_at
  mark_end e = rw e

  pub mark_none : ends_line text t ≡ false → word_end text t - t ≡ 0 → mark_at text t ≡ Silent
  unfolding mark_at
  mark_none e h = rw (e, no_byte h)

  pub mark_one : ends_line text t ≡ false → word_end text t - t ≡ 1 → mark_at text t ≡ mark_of (byte text t ∷ [])
  unfolding mark_at
  mark_one e h = rw (e, one_byte e h)

  pub mark_two : ends_line text t ≡ false → word_end text t - t ≡ 2 → mark_at text t ≡ mark_of (byte text t ∷ byte text (t + 1) ∷ [])
  unfolding mark_at
  mark_two e h = rw (e, two_bytes e h)

  pub mark_more : ends_line text t ≡ false → 3 ≤ word_end text t - t → mark_at text t ≡ Word
  unfolding mark_at
  mark_more e h = rw e (go (word_at text t) word_size) where
    go : (w : List ℕ) → length w ≡ word_end text t - t → cond (is_empty w) Silent (mark_of w) ≡ Word
    go [] k = absurd (omega arith)
    go (a ∷ []) k = absurd (omega arith)
    go (a ∷ b ∷ []) k = absurd (omega arith)
    go (a ∷ b ∷ c ∷ w) k = long a b c w

  pub end_more : t ≤ word_end text t
  unfolding word_end
  end_more = omega arith

  pub same-one : (m : ℕ) → word_end text t - t ≡ 1 → same (word_at text t) (m ∷ []) ≡ eqb (byte text t) m
  same-one m h = go (ends_line text t) refl where
    go : (b : Bool) → ends_line text t ≡ b → same (word_at text t) (m ∷ []) ≡ eqb (byte text t) m
    go true e = let none = ended-word e in let size = word_size in absurd (omega (arith, ap length none))
    go false e = rw (one_byte e h) (and-true (eqb (byte text t) m))

  pub same-other : (m : ℕ) → (word_end text t - t ≡ 1 → ⊥) → same (word_at text t) (m ∷ []) ≡ false
  same-other m h = go (word_at text t) word_size where
    go : (w : List ℕ) → length w ≡ word_end text t - t → same w (m ∷ []) ≡ false
    go [] k = refl
    go (a ∷ []) k = absurd (h (sym k))
    go (a ∷ b ∷ w) k = and-false (eqb a m)

  -- ---- past a mark

  pub past_end : (m : ℕ) → ends_line text t ≡ true → past (m ∷ []) (words_at text t) ≡ words_at text t
  unfolding past
  past_end m e = rw (ended text t e)

  pub past-here : (m : ℕ) → same (word_at text t) (m ∷ []) ≡ true → past (m ∷ []) (words_at text t) ≡ words_at text (after_word text t)
  unfolding past
  past-here m h = ap (past (m ∷ [])) words-after ∙ go (word_at text t) (words_at text (after_word text t)) h where
    go : (w : List ℕ) (ws : List (List ℕ)) → same w (m ∷ []) ≡ true → past (m ∷ []) (flush w ws) ≡ ws
    go [] ws e = never e
    go (c ∷ w) ws e = rw e

  pub past-on : (m : ℕ) → same (word_at text t) (m ∷ []) ≡ false → past (m ∷ []) (words_at text t) ≡ past (m ∷ []) (words_at text (after_word text t))
  unfolding past
  past-on m h = ap (past (m ∷ [])) words-after ∙ go (word_at text t) (words_at text (after_word text t)) h where
    go : (w : List ℕ) (ws : List (List ℕ)) → same w (m ∷ []) ≡ false → past (m ∷ []) (flush w ws) ≡ past (m ∷ []) ws
    go [] ws e = refl
    go (c ∷ w) ws e = rw e

-- ---- the bytes of a part

module _ (w : List ℕ) (ws : List (List ℕ)) where
  pub width-part : (m : Kind) → is_among going (tag m) ≡ true → width (by_mark m w ws) ≡ size_of m + width (form_in (behind_part m ws))
  unfolding behind_part
  width-part End h = never h
  width-part Rest h = never h
  width-part Opens h = never h
  width-part MayEnd h = sym (zero-add (width (form_in ws)))
  width-part Silent h = sym (zero-add (width (form_in ws)))
  width-part Names h = refl
  width-part (Flags n) h = refl
  width-part (Number n) h = refl
  width-part (Bytes n) h = refl
  width-part Date h = refl
  width-part Code h = refl
  width-part Word h = refl

  nothing_said : (f : Form) (n : ℕ) → fits_length f n ≡ (leb 0 n && fits_length f (n - 0))
  nothing_said f n = rw (le-leb 0 n (omega arith), sub-zero n)

  pub fits-part : (m : Kind) (n : ℕ) → is_among going (tag m) ≡ true
      → fits_length (by_mark m w ws) n ≡ (leb (size_of m) n && fits_length (form_in (behind_part m ws)) (n - size_of m))
  unfolding behind_part fits_length
  fits-part End n h = never h
  fits-part Rest n h = never h
  fits-part Opens n h = never h
  fits-part MayEnd n h = nothing_said (form_in ws) n
  fits-part Silent n h = nothing_said (form_in ws) n
  fits-part Names n h = refl
  fits-part (Flags m) n h = refl
  fits-part (Number m) n h = refl
  fits-part (Bytes m) n h = refl
  fits-part Date n h = refl
  fits-part Code n h = refl
  fits-part Word n h = refl

  -- only names and flags have more words
  pub one_word : (m : Kind) → is_among single (tag m) ≡ true → behind_part m ws ≡ ws
  unfolding behind_part
  one_word End h = refl
  one_word Rest h = refl
  one_word MayEnd h = refl
  one_word Opens h = refl
  one_word Silent h = refl
  one_word Names h = never h
  one_word (Flags n) h = never h
  one_word (Number n) h = refl
  one_word (Bytes n) h = refl
  one_word Date h = refl
  one_word Code h = refl
  one_word Word h = refl

-- a mark stands for 8 bytes at most
sized-less : (letter : ℕ) (w : List ℕ) → is_sized letter w ≡ true → size_in w ≤ 8
unfolding is_sized
sized-less letter w h =
    let high = (both (eqb (length w) 2 && eqb (byte w 0) letter && leb 49 (byte w 1)) (leb (byte w 1) 56) h).1 in
    let less = leb-true (byte w 1) 56 high in
    omega arith

mark_less : (w : List ℕ) → size_of (mark_of w) ≤ 8
unfolding mark_of
mark_less w =
    go (same w (word "[")) (is_sized 123 w) (same w (word "(")) (same w (word ")")) (same w (word "?")) (same w (word "R")) (is_sized 78 w) (is_sized 72 w) (same w (word "D")) (same w (word "C"))
    (sized-less 123 w) (sized-less 78 w) (sized-less 72 w)
  where
    go : (a b c d e f g h i j : Bool) → (b ≡ true → size_in w ≤ 8) → (g ≡ true → size_in w ≤ 8) → (h ≡ true → size_in w ≤ 8)
        → size_of (cond a Names (cond b (Flags (size_in w)) (cond c Opens (cond d Silent (cond e MayEnd (cond f Rest
        (cond g (Number (size_in w)) (cond h (Bytes (size_in w)) (cond i Date (cond j Code Word)))))))))) ≤ 8
    go true b c d e f g h i j p q r = omega arith
    go false true c d e f g h i j p q r = p refl
    go false false true d e f g h i j p q r = omega arith
    go false false false true e f g h i j p q r = omega arith
    go false false false false true f g h i j p q r = omega arith
    go false false false false false true g h i j p q r = omega arith
    go false false false false false false true h i j p q r = q refl
    go false false false false false false false true i j p q r = r refl
    go false false false false false false false false true j p q r = omega arith
    go false false false false false false false false false true p q r = omega arith
    go false false false false false false false false false false p q r = omega arith

pub at_less : (text : List ℕ) (t : ℕ) → size_of (mark_at text t) ≤ 8
unfolding mark_at
at_less text t = go (ends_line text t) (is_empty (word_at text t)) where
  go : (a b : Bool) → size_of (cond a End (cond b Silent (mark_of (word_at text t)))) ≤ 8
  go true b = omega arith
  go false true = omega arith
  go false false = mark_less (word_at text t)

-- ---- a part, and the next

module _ (text : List ℕ) (t : ℕ) (m : Kind) (next : ℕ) (e : m ≡ mark_at text t) (l : Leads text (after_word text t) (behind_part m (words_at text (after_word text t))) next) where
  pub form-by : form_in (words_at text t) ≡ by_mark m (word_at text t) (words_at text (after_word text t))
  form-by = form-at text t ∙ ap (λ (k : Kind). by_mark k (word_at text t) (words_at text (after_word text t))) (sym e)

  pub goes : eqb (tag m) 0 ≡ false → (t < next) × (t < length text)
  goes h = go (ends_line text t) refl where
    go : (b : Bool) → ends_line text t ≡ b → (t < next) × (t < length text)
    go true k = let end : eqb (tag m) 0 ≡ true = ap (λ (k : Kind). eqb (tag k) 0) (e ∙ mark_end text t k) in never (sym h ∙ end)
    go false k = let on = moves text t k in let next-on = l.on in (omega arith, in_line_lem text t k)

  pub size_less : size_of m ≤ 8
  size_less = rw e (at_less text t)

  pub width-on : is_among going (tag m) ≡ true → width (form_in (words_at text t)) ≡ size_of m + width (form_in (words_at text next))
  width-on h = ap width form-by ∙ width-part (word_at text t) (words_at text (after_word text t)) m h ∙ ap (λ (ws : List (List ℕ)). size_of m + width (form_in ws)) (sym l.says)

  pub fits_on : (n : ℕ) → is_among going (tag m) ≡ true
      → fits_length (form_in (words_at text t)) n ≡ (leb (size_of m) n && fits_length (form_in (words_at text next)) (n - size_of m))
  fits_on n h =
      ap (λ (f : Form). fits_length f n) form-by
      ∙ fits-part (word_at text t) (words_at text (after_word text t)) m n h
      ∙ ap (λ (ws : List (List ℕ)). leb (size_of m) n && fits_length (form_in ws) (n - size_of m)) (sym l.says)

  pub end_on : m ≡ End → form_in (words_at text t) ≡ done
  end_on k = form-by ∙ ap (λ (k : Kind). by_mark k (word_at text t) (words_at text (after_word text t))) k

  pub rest-on : m ≡ Rest → form_in (words_at text t) ≡ rest
  rest-on k = form-by ∙ ap (λ (k : Kind). by_mark k (word_at text t) (words_at text (after_word text t))) k

  -- with a clause, or without it
  pub clause_on : m ≡ Opens → form_in (words_at text t) ≡ either (form_in (words_at text next)) (form_in (past (41 ∷ []) (words_at text next)))
  unfolding behind_part
  clause_on k =
      let with : words_at text next ≡ words_at text (after_word text t) = l.says ∙ ap (λ (k : Kind). behind_part k (words_at text (after_word text t))) k in
      form-by
      ∙ ap (λ (k : Kind). by_mark k (word_at text t) (words_at text (after_word text t))) k
      ∙ ap (λ (ws : List (List ℕ)). either (form_in ws) (form_in (past (41 ∷ []) ws))) (sym with)

  pub either-on : m ≡ Opens → (b : ℕ) → Leads text next (past (41 ∷ []) (words_at text next)) b
      → form_in (words_at text t) ≡ either (form_in (words_at text next)) (form_in (words_at text b))
  either-on k b n = clause_on k ∙ ap (λ (ws : List (List ℕ)). either (form_in (words_at text next)) (form_in ws)) (sym n.says)

  pub fits_with : (n : ℕ) → m ≡ Opens → fits_length (form_in (words_at text next)) n ≡ true → fits_length (form_in (words_at text t)) n ≡ true
  unfolding fits_length
  fits_with n k h = ap (λ (f : Form). fits_length f n) (clause_on k) ∙ ap (λ (b : Bool). b || fits_length (form_in (past (41 ∷ []) (words_at text next))) n) h

  pub fits_without : (n : ℕ) → m ≡ Opens → (b : ℕ) → Leads text next (past (41 ∷ []) (words_at text next)) b
      → fits_length (form_in (words_at text next)) n ≡ false → fits_length (form_in (words_at text t)) n ≡ fits_length (form_in (words_at text b)) n
  unfolding fits_length
  fits_without n k b l h = ap (λ (f : Form). fits_length f n) (either-on k b l) ∙ ap (λ (c : Bool). c || fits_length (form_in (words_at text b)) n) h

  pub fits-few : (n : ℕ) → is_among going (tag m) ≡ true → n < size_of m → fits_length (form_in (words_at text t)) n ≡ false
  fits-few n h less = fits_on n h ∙ ap (λ (b : Bool). b && fits_length (form_in (words_at text next)) (n - size_of m)) (lt-leb (size_of m) n less)

  pub fits_more : (n : ℕ) → is_among going (tag m) ≡ true → size_of m ≤ n
      → fits_length (form_in (words_at text t)) n ≡ fits_length (form_in (words_at text next)) (n - size_of m)
  fits_more n h less = fits_on n h ∙ ap (λ (b : Bool). b && fits_length (form_in (words_at text next)) (n - size_of m)) (le-leb (size_of m) n less)

pub goes_on_lem : (m : Kind) → is_among going (tag m) ≡ true → eqb (tag m) 0 ≡ false
goes_on_lem End h = never h
goes_on_lem Rest h = refl
goes_on_lem MayEnd h = refl
goes_on_lem Opens h = refl
goes_on_lem Silent h = refl
goes_on_lem Names h = refl
goes_on_lem (Flags n) h = refl
goes_on_lem (Number n) h = refl
goes_on_lem (Bytes n) h = refl
goes_on_lem Date h = refl
goes_on_lem Code h = refl
goes_on_lem Word h = refl

pub opens-on : {m : Kind} → m ≡ Opens → eqb (tag m) 0 ≡ false
opens-on e = ap (λ (k : Kind). eqb (tag k) 0) e
