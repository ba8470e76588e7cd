-- What a text says at the places that its words and lines lead to. Assumes nothing.
use mathlib.Core.Path.{◌≡◌, refl, sym, ap, ◌∙◌}
use mathlib.Core.Bool.{Bool, true, false, cond}
use mathlib.Core.List.{List, [], ◌∷◌}
use Prim.Native.Nat.{ℕ, zero, suc, ◌+◌, ◌-◌, ◌≤◌, ◌<◌}
use native.Mathlib.Numerals.{add-one}
use native.Mathlib.Omega.{arith}
use borrow.Author.Tests.{ltb-true, ltb-false, le-ltb}
use lib.Dec.{ltb}
use lib.ListN.{length, take, drop, length-take, length-drop, drop_of_length-le}
use lib.Seq.{drop-drop}
use Rattle.words.specs.Words.{is_empty}
use Rattle.words.specs.Lex.{flush, lex, lines_in}
use Rattle.words.proofs.Reading.{on}
use Rattle.lexing.specs.Places.{word_at, words_at, below_at, lines_at, ends_line, word_end, line_rest, line_end, gap, next_word, after_word, below_line, line_from, next_line}
use Rattle.lexing.proofs.Rests.{Behind, behind, ends, no_words, Beyond, beyond, passed, lines-below, none_here, rest_in_lem, gap_in}
use Rattle.lexing.proofs.Steps.{ends_is, ends-past, gap-past, line_stops}

-- a word in front, or none
first : (w : List ℕ) (ws : List (List ℕ)) → is_empty w ≡ false → flush w ws ≡ w ∷ ws
first [] ws h = let z : ◌≡◌ {A = ℕ} 0 1 = cc in absurd (omega arith)
first (c ∷ w) ws h = refl

module _ (text : List ℕ) (at : ℕ) where
  further : (n : ℕ) → drop (at + n) text ≡ drop n (drop at text)
  further n = sym (drop-drop n at text)

  left : Behind (drop at text)
  left = behind (drop at text)

  -- ---- a word

  size : length (word_at text at) ≤ length text - at
  unfolding word_at
  size = omega (arith, ap length left.taken, length-take (length (lex (drop at text)).word) (drop at text), length-drop at text)

  -- its bytes
  pub word-part : take (word_end text at - at) (drop at text) ≡ word_at text at
  unfolding word_end word_at
  word-part = let n : at + length (lex (drop at text)).word - at ≡ length (lex (drop at text)).word = omega arith in rw n left.taken

  pub word_in : at ≤ length text → word_end text at ≤ length text
  unfolding word_end
  word_in h = omega (arith, size)

  pub word-behind : at ≤ word_end text at
  unfolding word_end
  word-behind = omega arith

  -- and what stands behind it
  pub words-behind : words_at text at ≡ flush (word_at text at) (words_at text (word_end text at))
  unfolding words_at word_at word_end
  words-behind = ap (flush (lex (drop at text)).word) (sym behind_it) where
    behind_it : flush (lex (drop (at + length (lex (drop at text)).word) text)).word (lex (drop (at + length (lex (drop at text)).word) text)).words
        ≡ (lex (drop at text)).words
    behind_it = rw (further (length (lex (drop at text)).word), left.none) left.words

  pub below-behind : below_at text (word_end text at) ≡ below_at text at
  unfolding below_at word_end word_at
  below-behind = ap (λ (s : List ℕ). (lex s).below) (further (length (lex (drop at text)).word)) ∙ left.below

  -- a word that begins is passed
  pub word-passed : is_empty (word_at text at) ≡ false → at < word_end text at
  unfolding word_end
  word-passed h = by (word_at text at) h where
    by : (w : List ℕ) → is_empty w ≡ false → at < at + length w
    by [] e = let z : ◌≡◌ {A = ℕ} 0 1 = cc in absurd (omega arith)
    by (c ∷ w) e = omega arith

  -- ---- the next word

  over : Beyond (drop at text)
  over = beyond (drop at text)

  pub words-next : words_at text (next_word text at) ≡ words_at text at
  unfolding words_at next_word
  words-next = ap (λ (s : List ℕ). flush (lex s).word (lex s).words) (further (gap (drop at text))) ∙ over.words

  pub below_next : below_at text (next_word text at) ≡ below_at text at
  unfolding below_at next_word
  below_next = ap (λ (s : List ℕ). (lex s).below) (further (gap (drop at text))) ∙ over.below

  -- it begins there, or the line ends
  pub word_next : ends_line text (next_word text at) ≡ false → is_empty (word_at text (next_word text at)) ≡ false
  unfolding word_at next_word
  word_next h =
      let same = further (gap (drop at text)) in
      ap (λ (s : List ℕ). is_empty (lex s).word) same ∙ over.word (sym (ap ends same) ∙ sym (ends_is text (at + gap (drop at text))) ∙ h)

  pub next-behind : at ≤ next_word text at
  unfolding next_word
  next-behind = omega arith

  pub next_in_lem : at ≤ length text → next_word text at ≤ length text
  unfolding next_word
  next_in_lem h = omega (arith, gap_in (drop at text), length-drop at text)

  -- ---- the line's end

  pub ended : ends_line text at ≡ true → words_at text at ≡ []
  unfolding words_at
  ended h = let (word, words) = no_words (drop at text) (sym (ends_is text at) ∙ h) in rw (word, words)

  pub lines-ended : words_at text at ≡ [] → lines_at text at ≡ below_at text at
  unfolding words_at lines_at below_at
  lines-ended h = none_here (drop at text) h

-- a word that begins, and the words behind it
pub words-first : (text : List ℕ) (at : ℕ) → is_empty (word_at text at) ≡ false → words_at text at ≡ word_at text at ∷ words_at text (after_word text at)
words-first text at h =
    words-behind text at
    ∙ first (word_at text at) (words_at text (word_end text at)) h
    ∙ ap (λ (ws : List (List ℕ)). word_at text at ∷ ws) (sym (words-next text (word_end text at)))

-- and the same lines below
pub below-after : (text : List ℕ) (at : ℕ) → below_at text (after_word text at) ≡ below_at text at
below-after text at = below_next text (word_end text at) ∙ below-behind text at

-- ---- lines

module _ (text : List ℕ) where
  -- the line feed is passed, or there is none
  feed-passed : (end : ℕ) → lines_in (passed (drop end text)) ≡ lines_at text (cond (ltb end (length text)) (suc end) end)
  unfolding lines_at
  feed-passed end = by (ltb end (length text)) refl where
    by : (t : Bool) → ltb end (length text) ≡ t → lines_in (passed (drop end text)) ≡ lines_in (drop (cond t (suc end) end) text)
    by true e = let there = ltb-true end (length text) e in ap (λ (s : List ℕ). lines_in (passed s)) (on text end there) ∙ rw (add-one end)
    by false e =
        let past = drop_of_length-le text {i = end} (ltb-false end (length text) e) in
        ap (λ (s : List ℕ). lines_in (passed s)) past ∙ sym (ap lines_in past)

  pub lines-behind : (at : ℕ) → lines_at text (below_line text at) ≡ below_at text at
  unfolding below_line line_end below_at
  lines-behind at =
      sym (feed-passed (at + line_rest (drop at text)))
      ∙ ap (λ (s : List ℕ). lines_in (passed s)) (further text at (line_rest (drop at text)))
      ∙ sym (lines-below (drop at text))

  below-past : (at : ℕ) → length text ≤ at → below_line text at ≡ at
  unfolding below_line
  below-past at h =
      let end = line_stops text at (ends-past text at h) in
      rw (end, le-ltb at (length text) h)

  -- it lies below
  pub below-passed : (from at : ℕ) → from ≤ at → from < length text → from < below_line text at
  unfolding below_line line_end
  below-passed from at h k = by (at + line_rest (drop at text)) (omega arith) where
    by : (end : ℕ) → from ≤ end → from < cond (ltb end (length text)) (suc end) end
    by end i = test (ltb end (length text)) refl where
      test : (t : Bool) → ltb end (length text) ≡ t → from < cond t (suc end) end
      test true e = omega arith
      test false e = omega (arith, ltb-false end (length text) e)

  below_on : (at : ℕ) → at ≤ below_line text at
  unfolding below_line line_end
  below_on at = by (at + line_rest (drop at text)) (omega arith) where
    by : (end : ℕ) → at ≤ end → at ≤ cond (ltb end (length text)) (suc end) end
    by end i = test (ltb end (length text)) where
      test : (t : Bool) → at ≤ cond t (suc end) end
      test true = omega arith
      test false = i

  pub below_in : (at : ℕ) → at ≤ length text → below_line text at ≤ length text
  unfolding below_line line_end
  below_in at h = by (at + line_rest (drop at text)) (omega (arith, rest_in_lem (drop at text), length-drop at text)) where
    by : (end : ℕ) → end ≤ length text → cond (ltb end (length text)) (suc end) end ≤ length text
    by end i = test (ltb end (length text)) refl where
      test : (t : Bool) → ltb end (length text) ≡ t → cond t (suc end) end ≤ length text
      test true e = ltb-true end (length text) e
      test false e = i

  pub below-moves : (at : ℕ) → at < length text → at < below_line text (next_word text at)
  below-moves at h = below-passed at (next_word text at) (next-behind text at) h

  -- past the end a place stays
  pub stays : (most at : ℕ) → length text ≤ at → line_from most text at ≡ at
  unfolding line_from
  stays zero at h = refl
  stays (suc most) at h = rw (gap-past text at h, ends-past text at h, stay) (stays most at h) where
    stay : below_line text at ≡ at
    stay = below-past at h

  -- each line passed leaves fewer bytes
  shorter : (n at : ℕ) → length text - at ≤ suc n → length text - below_line text (next_word text at) ≤ n
  shorter n at h = by (ltb at (length text)) refl where
    by : (t : Bool) → ltb at (length text) ≡ t → length text - below_line text (next_word text at) ≤ n
    by true e = omega (arith, below-moves at (ltb-true at (length text) e))
    by false e = let past = ltb-false at (length text) e in rw (gap-past text at past, below-past at past) (omega arith)

  -- as many lines as there are bytes are enough
  enough : (n m at : ℕ) → length text - at ≤ n → length text - at ≤ m → line_from n text at ≡ line_from m text at
  unfolding line_from
  enough zero m at h k = sym (stays m at (omega arith))
  enough (suc n) zero at h k = stays (suc n) at (omega arith)
  enough (suc n) (suc m) at h k = rw (enough n m (below_line text (next_word text at)) (shorter n at h) (shorter m at k))

  module _ (at : ℕ) where
    line_step : line_from (length text) text at ≡ line_from (suc (length text)) text at
    line_step = enough (length text) (suc (length text)) at (omega arith) (omega arith)

    pub line_on : ends_line text (next_word text at) ≡ true
        → line_from (length text) text at ≡ line_from (length text) text (below_line text (next_word text at))
    unfolding line_from
    line_on h = line_step ∙ rw h

    pub line-here : ends_line text (next_word text at) ≡ false → line_from (length text) text at ≡ at
    unfolding line_from
    line-here h = line_step ∙ rw h

  -- no line with a word is passed
  no_line : (at : ℕ) → ends_line text (next_word text at) ≡ true → lines_at text (below_line text (next_word text at)) ≡ lines_at text at
  no_line at h =
      let none : words_at text at ≡ [] = sym (words-next text at) ∙ ended text (next_word text at) h in
      lines-behind (next_word text at) ∙ below_next text at ∙ sym (lines-ended text at none)

  one_line : (most at : ℕ) (t : Bool) → ends_line text (next_word text at) ≡ t
      → lines_at text (line_from most text (below_line text (next_word text at))) ≡ lines_at text (below_line text (next_word text at))
      → lines_at text (line_from (suc most) text at) ≡ lines_at text at
  unfolding line_from
  one_line most at true e h = rw e (h ∙ no_line at e)
  one_line most at false e h = rw e

  pub lines_from : (most at : ℕ) → lines_at text (line_from most text at) ≡ lines_at text at
  lines_from zero at = unfold line_from in refl
  lines_from (suc most) at =
      one_line most at (ends_line text (next_word text at)) refl (lines_from most (below_line text (next_word text at)))

  pub lines_next : (at : ℕ) → lines_at text (next_line text at) ≡ below_at text at
  unfolding next_line
  lines_next at = lines_from (length text) (below_line text at) ∙ lines-behind at

  -- a line from which on there is no word ends the text
  one_word : (most at : ℕ) (t : Bool) → ends_line text (next_word text at) ≡ t
      → (line_from most text (below_line text (next_word text at)) < length text
      → ends_line text (next_word text (line_from most text (below_line text (next_word text at)))) ≡ false)
      → line_from (suc most) text at < length text → ends_line text (next_word text (line_from (suc most) text at)) ≡ false
  unfolding line_from
  one_word most at true e h = rw e h
  one_word most at false e h = rw e (λ there. e)

  has_word : (most at : ℕ) → length text - at ≤ most → line_from most text at < length text
      → ends_line text (next_word text (line_from most text at)) ≡ false
  has_word zero at h = unfold line_from in λ there. absurd (omega arith)
  has_word (suc most) at h =
      one_word most at (ends_line text (next_word text at)) refl
      (has_word most (below_line text (next_word text at)) (shorter most at h))

  pub word-from : (at : ℕ) → line_from (length text) text at < length text → ends_line text (next_word text (line_from (length text) text at)) ≡ false
  word-from at = has_word (length text) at (omega arith)

  -- the next line lies below, in the text
  pub line-behind : (most at : ℕ) → at ≤ line_from most text at
  unfolding line_from
  line-behind zero at = omega arith
  line-behind (suc most) at = by (ends_line text (next_word text at)) (line-behind most (below_line text (next_word text at))) where
    by : (t : Bool) → below_line text (next_word text at) ≤ line_from most text (below_line text (next_word text at))
        → at ≤ cond t (line_from most text (below_line text (next_word text at))) at
    by true h = omega (arith, below_on (next_word text at), next-behind text at)
    by false h = omega arith

  pub line_in : (most at : ℕ) → at ≤ length text → line_from most text at ≤ length text
  unfolding line_from
  line_in zero at h = h
  line_in (suc most) at h =
      by (ends_line text (next_word text at)) (line_in most (below_line text (next_word text at)) (below_in (next_word text at) (next_in_lem text at h))) where
        by : (t : Bool) → line_from most text (below_line text (next_word text at)) ≤ length text
            → cond t (line_from most text (below_line text (next_word text at))) at ≤ length text
        by true k = k
        by false k = h

  pub line-passed : (at : ℕ) → at < length text → at < next_line text at
  unfolding next_line
  line-passed at h = omega (arith, below-passed at at (omega arith) h, line-behind (length text) (below_line text at))

  pub next_line_in : (at : ℕ) → at ≤ length text → next_line text at ≤ length text
  unfolding next_line
  next_line_in at h = line_in (length text) (below_line text at) (below_in at h)
