-- Places one byte on: what the code's loops go by. Assumes nothing.
use mathlib.Core.Path.{◌≡◌, refl, sym, ap, ◌∙◌}
use mathlib.Core.Bool.{Bool, true, false}
use mathlib.Core.List.{List, [], ◌∷◌}
use Prim.Native.Nat.{ℕ, suc, ◌+◌, ◌≤◌, ◌<◌, max}
use native.Mathlib.Nat.{add-zero}
use native.Mathlib.Omega.{arith}
use borrow.Author.Tests.{leb-true, leb-false, le-leb, lt-leb, eq-eqb}
use lib.Dec.{leb, eqb}
use lib.ListN.{length, drop, get_or, drop_of_length-le}
use Rattle.words.specs.Lex.{Lexed, lex, is_plain}
use Rattle.words.proofs.Lexing.{step-plain}
use Rattle.words.proofs.Reading.{on}
use Rattle.lexing.specs.Places.{word_at, ends_line, word_end, line_rest, line_end, is_blank, gap, next_word}
use Rattle.lexing.proofs.Rests.{no_word, ends, gap_hash, gap-blank, gap_other}

module _ (text : List ℕ) (at : ℕ) where
  abbrev sized : List ℕ → ℕ
  sized s = at + length (lex s).word

  -- ---- past the end

  module _ (past : length text ≤ at) where
    none : drop at text ≡ []
    none = drop_of_length-le text past

    pub word_none : word_at text at ≡ []
    unfolding word_at lex
    word_none = ap (λ (s : List ℕ). (lex s).word) none

    pub word-past : word_end text at ≡ at
    unfolding word_end word_at lex
    word-past = ap sized none ∙ add-zero at

    pub ends-past : ends_line text at ≡ true
    unfolding ends_line
    ends-past = rw (le-leb (length text) at past)

    pub gap-past : next_word text at ≡ at
    unfolding next_word gap
    gap-past = rw none (add-zero at)

  -- ---- in the text

  module _ (in_text : at < length text) where
    here : drop at text ≡ get_or text at 0 ∷ drop (at + 1) text
    here = on text at in_text

    one_on : (n : ℕ) → at + suc n ≡ at + 1 + n
    one_on n = omega arith

    pub word_more : is_plain (get_or text at 0) ≡ true → word_end text at ≡ word_end text (at + 1)
    unfolding word_end word_at lex
    word_more h = ap sized here ∙ ap (λ (l : Lexed). at + length l.word) (step-plain (get_or text at 0) (lex (drop (at + 1) text)) h) ∙ one_on _

    pub word_stops : is_plain (get_or text at 0) ≡ false → word_end text at ≡ at
    unfolding word_end word_at lex
    word_stops h = ap sized here ∙ ap (λ (w : List ℕ). at + length w) (no_word (get_or text at 0) (lex (drop (at + 1) text)) h) ∙ add-zero at

    pub ends-here : ends_line text at ≡ eqb (get_or text at 0) 10
    unfolding ends_line
    ends-here = rw (lt-leb (length text) at in_text)

    pub gap_comment : get_or text at 0 ≡ 35 → next_word text at ≡ line_end text at
    unfolding next_word line_end
    gap_comment h = rw here (ap (λ n. at + n) (gap_hash (get_or text at 0) (drop (at + 1) text) (eq-eqb (get_or text at 0) 35 h)))

    pub gap_more : eqb (get_or text at 0) 35 ≡ false → is_blank (get_or text at 0) ≡ true → next_word text at ≡ next_word text (at + 1)
    unfolding next_word
    gap_more h b = rw here (ap (λ n. at + n) (gap-blank (get_or text at 0) (drop (at + 1) text) h b) ∙ one_on _)

    pub gap_stops : eqb (get_or text at 0) 35 ≡ false → is_blank (get_or text at 0) ≡ false → next_word text at ≡ at
    unfolding next_word
    gap_stops h b = rw here (ap (λ n. at + n) (gap_other (get_or text at 0) (drop (at + 1) text) h b) ∙ add-zero at)

  -- ---- the line's end

  -- where the line does not end there is a byte
  pub in_line_lem : ends_line text at ≡ false → at < length text
  in_line_lem h = by (leb (length text) at) refl where
    by : (t : Bool) → leb (length text) at ≡ t → at < length text
    by true e = let z : true ≡ false = sym (ends-past (leb-true (length text) at e)) ∙ h in let no : ◌≡◌ {A = ℕ} 0 1 = cc in absurd (omega arith)
    by false e = leb-false (length text) at e

  pub ends_is : ends_line text at ≡ ends (drop at text)
  ends_is = by (leb (length text) at) refl where
    by : (t : Bool) → leb (length text) at ≡ t → ends_line text at ≡ ends (drop at text)
    by true e = let past = leb-true (length text) at e in ends-past past ∙ sym (ap ends (none past))
    by false e = let there = leb-false (length text) at e in ends-here there ∙ sym (ap ends (here there))

  pub line-more : ends_line text at ≡ false → line_end text at ≡ line_end text (at + 1)
  unfolding line_end line_rest
  line-more h = let there = in_line_lem h in rw (here there, sym (ends-here there) ∙ h) (one_on there _)

  pub line_stops : ends_line text at ≡ true → line_end text at ≡ at
  unfolding line_end
  line_stops h = ap (λ n. at + n) (stop (drop at text) (sym ends_is ∙ h)) ∙ add-zero at where
    stop : (s : List ℕ) → ends s ≡ true → line_rest s ≡ 0
    stop [] e = unfold line_rest in refl
    stop (c ∷ s) e = unfold line_rest in rw e

-- where a loop over the places up to the text's end comes to an end
pub run_out : (f : ℕ → ℕ) (size at end m : ℕ) → ((k : ℕ) → size ≤ k → f k ≡ k) → f at ≡ f end → m ≡ max at size → size ≤ end → (at ≤ size → end ≤ size) → m ≡ f at
run_out f size at end m past same e h k = by (leb size at) refl where
  by : (t : Bool) → leb size at ≡ t → m ≡ f at
  by true t = let le = leb-true size at t in let is : m ≡ at = omega arith in is ∙ sym (past at le)
  by false t =
      let lt = leb-false size at t in
      let last : end ≤ size = k (omega arith) in
      let is : m ≡ end = omega arith in
      is ∙ sym (past end h) ∙ sym same
