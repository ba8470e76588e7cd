-- What bytes say behind their first word, behind the gap in front of a word, and below their first line. Assumes nothing.
use mathlib.Core.Path.{◌≡◌, refl, sym, ap, ◌∙◌}
use mathlib.Core.Bool.{Bool, true, false, cond, not}
use mathlib.Core.List.{List, [], ◌∷◌}
use Prim.Native.Nat.{ℕ, suc, ◌≤◌}
use native.Mathlib.Omega.{arith}
use borrow.Author.Tests.{lt-ltb, leb-false, not-true, eqb-true}
use lib.Dec.{leb, eqb}
use lib.ListN.{length, take, drop}
use Rattle.words.specs.Words.{is_empty}
use Rattle.words.specs.Lex.{Lexed, flush, lines_of, step, lex, lines_in, is_plain}
use Rattle.words.proofs.Lexing.{front, step-plain}
use Rattle.words.proofs.Tests.{both}
use Rattle.lexing.specs.Places.{line_rest, is_blank, gap}

-- ---- one byte

-- no word begins at a byte that is not one of a word
pub no_word : (c : ℕ) (l : Lexed) → is_plain c ≡ false → (step c l).word ≡ []
unfolding step
no_word c l h = by (eqb c 10) (eqb c 35) (leb c 32) refl refl refl where
  by : (feed hash blank : Bool) → eqb c 10 ≡ feed → eqb c 35 ≡ hash → leb c 32 ≡ blank → (step c l).word ≡ []
  by true hash blank e f g = rw e
  by false true blank e f g = rw (e, f)
  by false false true e f g = rw (e, f, g)
  by false false false e f g =
      let plain : is_plain c ≡ true = simp (lt-ltb 32 c (leb-false c 32 g), f) in
      let z : true ≡ false = sym plain ∙ h in
      cc

-- only a line feed begins the lines below anew
same-below : (c : ℕ) (l : Lexed) → eqb c 10 ≡ false → (step c l).below ≡ l.below
unfolding step
same-below c l h = by (eqb c 35) (leb c 32) refl refl where
  by : (hash blank : Bool) → eqb c 35 ≡ hash → leb c 32 ≡ blank → (step c l).below ≡ l.below
  by true blank f g = rw (h, f)
  by false true f g = rw (h, f, g)
  by false false f g = rw (h, f, g)

-- ---- behind the first word

pub record Behind (s : List ℕ) : Type 0 where
  pub taken : take (length (lex s).word) s ≡ (lex s).word
  pub none : (lex (drop (length (lex s).word) s)).word ≡ []
  pub words : (lex (drop (length (lex s).word) s)).words ≡ (lex s).words
  pub below : (lex (drop (length (lex s).word) s)).below ≡ (lex s).below

one-behind : (c : ℕ) (s : List ℕ) (t : Bool) → is_plain c ≡ t → Behind s → Behind (c ∷ s)
unfolding lex
one-behind c s true e r =
    let is = step-plain c (lex s) e in
    record { taken = rw is (ap (λ w. c ∷ w) r.taken); none = rw is r.none; words = rw is r.words; below = rw is r.below }
one-behind c s false e r =
    let no = no_word c (lex s) e in
    record { taken = rw no; none = rw no no; words = rw no; below = rw no }

pub behind : (s : List ℕ) → Behind s
behind [] = unfold lex in record { taken = refl; none = refl; words = refl; below = refl }
behind (c ∷ s) = one-behind c s (is_plain c) refl (behind s)

-- ---- the line's rest

-- the line ends in front of these bytes
abbrev pub ends : List ℕ → Bool
ends [] = true
ends (c ∷ s) = eqb c 10

pub record Rest (s : List ℕ) : Type 0 where
  pub end : ends (drop (line_rest s) s) ≡ true
  pub below : (lex (drop (line_rest s) s)).below ≡ (lex s).below

one-rest : (c : ℕ) (s : List ℕ) (t : Bool) → eqb c 10 ≡ t → Rest s → Rest (c ∷ s)
unfolding line_rest lex
one-rest c s true e r = record { end = rw e e; below = rw e }
one-rest c s false e r = record { end = rw e r.end; below = rw e (r.below ∙ sym (same-below c (lex s) e)) }

pub rest : (s : List ℕ) → Rest s
rest [] = unfold line_rest in record { end = refl; below = refl }
rest (c ∷ s) = one-rest c s (eqb c 10) refl (rest s)

-- where the line ends there are no words
pub no_words : (s : List ℕ) → ends s ≡ true → ((lex s).word ≡ []) × ((lex s).words ≡ [])
unfolding lex step
no_words [] h = (refl, refl)
no_words (c ∷ s) h = rw h (refl, refl)

-- ---- behind the gap in front of a word

module _ (c : ℕ) (s : List ℕ) where
  pub gap_hash : eqb c 35 ≡ true → gap (c ∷ s) ≡ line_rest (c ∷ s)
  unfolding gap line_rest
  gap_hash h = let is = eqb-true c 35 h in rw is

  pub gap-blank : eqb c 35 ≡ false → is_blank c ≡ true → gap (c ∷ s) ≡ suc (gap s)
  unfolding gap
  gap-blank h b = rw (h, b)

  pub gap_other : eqb c 35 ≡ false → is_blank c ≡ false → gap (c ∷ s) ≡ 0
  unfolding gap
  gap_other h b = rw (h, b)

-- a byte that is no "#" and no blank begins a word, or ends the line
begins : (c : ℕ) (l : Lexed) → eqb c 35 ≡ false → is_blank c ≡ false → eqb c 10 ≡ false → step c l ≡ front c l
begins c l hash blank feed = by (leb c 32) refl where
  by : (t : Bool) → leb c 32 ≡ t → step c l ≡ front c l
  by true e = let is : is_blank c ≡ true = rw (e, feed) in let z : true ≡ false = sym is ∙ blank in cc
  by false e = step-plain c l (rw (lt-ltb 32 c (leb-false c 32 e), hash))

pub record Beyond (s : List ℕ) : Type 0 where
  pub words : flush (lex (drop (gap s) s)).word (lex (drop (gap s) s)).words ≡ flush (lex s).word (lex s).words
  pub below : (lex (drop (gap s) s)).below ≡ (lex s).below
  pub word : ends (drop (gap s) s) ≡ false → is_empty (lex (drop (gap s) s)).word ≡ false

module _ (c : ℕ) (s : List ℕ) where
  past_hash : eqb c 35 ≡ true → Beyond (c ∷ s)
  unfolding lex step
  past_hash h =
      let is = eqb-true c 35 h in
      let r = rest (c ∷ s) in
      let (word, words) = no_words (drop (line_rest (c ∷ s)) (c ∷ s)) r.end in
      let size = gap_hash c s h in
      record {
        words = rw (size, word, words, is);
        below = rw size r.below;
        word = rw size (λ e. let z : true ≡ false = sym r.end ∙ e in cc);
      }

  past-blank : eqb c 35 ≡ false → is_blank c ≡ true → Beyond s → Beyond (c ∷ s)
  unfolding lex step
  past-blank h b r =
      let (small, other) = both (leb c 32) (not (eqb c 10)) b in
      let feed = not-true (eqb c 10) other in
      let size = gap-blank c s h b in
      record {
        words = rw (size, feed, h, small) r.words;
        below = rw size (r.below ∙ sym (same-below c (lex s) feed));
        word = rw size r.word;
      }

  at_other : eqb c 35 ≡ false → is_blank c ≡ false → Beyond (c ∷ s)
  unfolding lex
  at_other h b =
      let size = gap_other c s h b in
      record { words = rw size; below = rw size; word = rw size (λ e. rw (begins c (lex s) h b e)) }

one_beyond : (c : ℕ) (s : List ℕ) (hash blank : Bool) → eqb c 35 ≡ hash → is_blank c ≡ blank → Beyond s → Beyond (c ∷ s)
one_beyond c s true blank h b r = past_hash c s h
one_beyond c s false true h b r = past-blank c s h b r
one_beyond c s false false h b r = at_other c s h b

pub beyond : (s : List ℕ) → Beyond s
beyond [] = unfold gap lex in record { words = refl; below = refl; word = λ e. let z : true ≡ false = e in cc }
beyond (c ∷ s) = one_beyond c s (eqb c 35) (is_blank c) refl refl (beyond s)

-- ---- the lines below

-- the line feed is passed
abbrev pub passed : List ℕ → List ℕ
passed [] = []
passed (c ∷ s) = s

fed : (s : List ℕ) → ends s ≡ true → (lex s).below ≡ lines_in (passed s)
unfolding lex step
fed [] h = unfold lines_of in refl
fed (c ∷ s) h = rw h

pub lines-below : (s : List ℕ) → (lex s).below ≡ lines_in (passed (drop (line_rest s) s))
lines-below s = let r = rest s in sym r.below ∙ fed (drop (line_rest s) s) r.end

-- where there are no words the lines are those below
pub none_here : (s : List ℕ) → flush (lex s).word (lex s).words ≡ [] → lines_in s ≡ (lex s).below
unfolding lines_of
none_here s h = rw h

-- ---- no place past the end

pub rest_in_lem : (s : List ℕ) → line_rest s ≤ length s
unfolding line_rest
rest_in_lem [] = omega arith
rest_in_lem (c ∷ s) = by (eqb c 10) (rest_in_lem s) where
  by : (t : Bool) → line_rest s ≤ length s → cond t 0 (suc (line_rest s)) ≤ suc (length s)
  by true h = omega arith
  by false h = omega arith

pub gap_in : (s : List ℕ) → gap s ≤ length s
unfolding gap
gap_in [] = omega arith
gap_in (c ∷ s) = by (eqb c 35) (is_blank c) (rest_in_lem s) (gap_in s) where
  by : (hash blank : Bool) → line_rest s ≤ length s → gap s ≤ length s
      → cond hash (suc (line_rest s)) (cond blank (suc (gap s)) 0) ≤ suc (length s)
  by true blank h k = omega arith
  by false true h k = omega arith
  by false false h k = omega arith

-- ---- no more words than bytes

fewer : (w : List ℕ) (ws : List (List ℕ)) → length ws ≤ length (flush w ws)
fewer [] ws = omega arith
fewer (c ∷ w) ws = omega arith

one_more_lem : (c : ℕ) (l : Lexed) → length (flush (step c l).word (step c l).words) ≤ suc (length (flush l.word l.words))
unfolding step
one_more_lem c l = by (eqb c 10) (eqb c 35) (leb c 32) refl refl refl where
  by : (feed hash blank : Bool) → eqb c 10 ≡ feed → eqb c 35 ≡ hash → leb c 32 ≡ blank
      → length (flush (step c l).word (step c l).words) ≤ suc (length (flush l.word l.words))
  by true hash blank e f g = rw e (omega arith)
  by false true blank e f g = rw (e, f) (omega arith)
  by false false true e f g = rw (e, f, g) (omega arith)
  by false false false e f g = rw (e, f, g) (omega (arith, fewer l.word l.words))

pub few_words : (s : List ℕ) → length (flush (lex s).word (lex s).words) ≤ length s
unfolding lex
few_words [] = omega arith
few_words (c ∷ s) = omega (arith, one_more_lem c (lex s), few_words s)
