-- The next line, and the word that it begins with. Assumes nothing.
use Rattle.std.proofs.Common.{◌≡◌, ℕ, zero, suc, ◌-◌, ◌<◌, ◌≤◌, Bool, true, false, ltb, List, [], ◌∷◌, length, drop, sym, refl, ap, ◌∙◌, arith, drop_of_length-le, ltb-false, ltb-true}
use Rattle.std.specs.Prelude.{Result, Ok, Err}
use Rattle.words.specs.Words.{begins}
use Rattle.words.specs.Lex.{flush, lines_of, lex, lines_in}
use Rattle.lexing.specs.Places.{word_at, words_at, below_at, lines_at, ends_line, next_word, below_line, next_line}
use Rattle.lexing.proofs.Laws.{lines_next, word-from, below-behind, below_next, words-behind, words-next}
use Rattle.forms.specs.Form.{Form, Want, Read, Said, Wrong, read_form}
use Rattle.forms.specs.Table.{leads, in_line, read_line}
use Rattle.read_forms.specs.Places.{behind_word, behind_words, left_at}
use Rattle.read_forms.specs.Reads.{Heard, Met}
use Rattle.read_forms.specs.declared.Reached.{Reached}
use Rattle.read_forms.specs.declared.Fault.{Fault}
use Rattle.read_forms.proofs.Laws.{no_word, a_word}

module _ (text : List ℕ) where
  -- the line of a place that has a word
  line_of : (at : ℕ) (w : List ℕ) (ws : List (List ℕ)) → words_at text at ≡ w ∷ ws
      → lines_at text at ≡ record { indent = (lex (drop at text)).blanks; words = w ∷ ws } ∷ below_at text at
  unfolding words_at lines_at below_at lines_of
  line_of at w ws e = rw e

  no_lines : (at : ℕ) → length text ≤ at → lines_at text at ≡ []
  unfolding lines_at lines_of lex
  no_lines at h = ap lines_in (drop_of_length-le text {i = at} h)

  pub next-word-there : (at : ℕ) → next_line text at < length text → ends_line text (next_word text (next_line text at)) ≡ false
  unfolding next_line
  next-word-there at h = word-from text (below_line text at) h

module _ (text : List ℕ) (at : ℕ) where
  pub line_first : (w : List ℕ) (ws : List (List ℕ)) → words_at text (next_line text at) ≡ w ∷ ws
      → below_at text at ≡ record { indent = (lex (drop (next_line text at) text)).blanks; words = w ∷ ws } ∷ below_at text (next_line text at)
  line_first w ws e = sym (lines_next text at) ∙ line_of text (next_line text at) w ws e

  pub no_line : words_at text (next_line text at) ≡ [] → below_at text at ≡ []
  no_line e = sym (lines_next text at) ∙ by (ltb (next_line text at) (length text)) refl where
    by : (t : Bool) → ltb (next_line text at) (length text) ≡ t → lines_at text (next_line text at) ≡ []
    by true h =
        let there = a_word text (next_line text at) (next-word-there text at (ltb-true (next_line text at) (length text) h)) in
        let z : word_at text (next_word text (next_line text at)) ∷ words_at text (behind_word text (next_line text at)) ≡ [] = sym there ∙ e in
        cc
    by false h = no_lines text (next_line text at) (ltb-false (next_line text at) (length text) h)

  pub leads-is : (key : List ℕ) → begins key (words_at text (next_line text at)) ≡ leads key (below_at text at)
  leads-is key = by (words_at text (next_line text at)) refl where
    by : (ws : List (List ℕ)) → words_at text (next_line text at) ≡ ws → begins key (words_at text (next_line text at)) ≡ leads key (below_at text at)
    by [] e = ap (begins key) e ∙ sym (ap (leads key) (no_line e))
    by (w ∷ ws) e = ap (begins key) e ∙ sym (ap (leads key) (line_first w ws e))

-- ---- places of a line

module _ (text : List ℕ) where
  below_word : (at : ℕ) → below_at text (behind_word text at) ≡ below_at text at
  below_word at = below-behind text (next_word text at) ∙ below_next text at

  below-words : (k at : ℕ) → below_at text (behind_words k text at) ≡ below_at text at
  unfolding behind_words
  below-words zero at = refl
  below-words (suc k) at = below-words k (behind_word text at) ∙ below_word at

  pub below_left : (n at : ℕ) → below_at text (left_at text at n) ≡ below_at text at
  unfolding left_at
  below_left zero at = below-words (length (words_at text at)) at
  below_left (suc n) at = below_next text (behind_words (length (words_at text at) - suc n) text at) ∙ below-words (length (words_at text at) - suc n) at

  one_fewer : (at : ℕ) → length (words_at text (behind_word text at)) ≡ length (words_at text at) - 1
  one_fewer at = by (ends_line text (next_word text at)) refl where
    by : (t : Bool) → ends_line text (next_word text at) ≡ t → length (words_at text (behind_word text at)) ≡ length (words_at text at) - 1
    by true e =
        let none = no_word text at e in
        let behind : words_at text (next_word text at) ≡ flush (word_at text (next_word text at)) (words_at text (behind_word text at)) = words-behind text (next_word text at) in
        let all : flush (word_at text (next_word text at)) (words_at text (behind_word text at)) ≡ [] = sym behind ∙ words-next text at ∙ none in
        rw none (ap length (rest (word_at text (next_word text at)) (words_at text (behind_word text at)) all)) where
          rest : (w : List ℕ) (ws : List (List ℕ)) → flush w ws ≡ [] → ws ≡ []
          rest [] ws h = h
          rest (c ∷ w) ws h = cc
    by false e = omega (arith, ap length (a_word text at e))

  fewer : (k at : ℕ) → length (words_at text (behind_words k text at)) ≡ length (words_at text at) - k
  unfolding behind_words
  fewer zero at = omega arith
  fewer (suc k) at = omega (arith, fewer k (behind_word text at), one_fewer at)

  pub so_many_left : (n at : ℕ) → n ≤ length (words_at text at) → length (words_at text (left_at text at n)) ≡ n
  unfolding left_at
  so_many_left zero at h = omega (arith, fewer (length (words_at text at)) at)
  so_many_left (suc n) at h =
      ap length (words-next text (behind_words (length (words_at text at) - suc n) text at)) ∙ omega (arith, fewer (length (words_at text at) - suc n) at)

  met : (at : ℕ) (wants : ℕ → Want) (room : List ℕ) (to : ℕ) (read : Read) (r : Result Reached Fault) (after : List ℕ)
      → Heard text (behind_word text at) wants room to read r after → Met text wants room to (in_line (below_at text at) read) r after
  unfolding Heard Met
  met at wants room to (Said b) (Ok x) after h =
      (ap (below_at text) h.place ∙ below_left 0 (behind_word text at) ∙ below_word at, h.put)
  met at wants room to (Said b) (Err x) after h = h
  met at wants room to (Wrong n w) (Ok x) after h = h
  met at wants room to (Wrong n w) (Err x) after h =
      record {
        lines_left = ap (λ s. suc (length s)) (ap (below_at text) h.place ∙ below_left n (behind_word text at) ∙ below_word at);
        words_left_lem = ap (λ q. length (words_at text q)) h.place ∙ so_many_left n (behind_word text at) h.few;
        wanted = h.wanted;
      }

  -- a line, read from behind its first word
  pub line-met : (f : Form) (at : ℕ) (w : List ℕ) (wants : ℕ → Want) (room : List ℕ) (to : ℕ) (r : Result Reached Fault) (after : List ℕ)
      → words_at text (next_line text at) ≡ w ∷ words_at text (behind_word text (next_line text at))
      → Heard text (behind_word text (next_line text at)) wants room to (read_form f (words_at text (behind_word text (next_line text at)))) r after
      → Met text wants room to (read_line f (below_at text at)) r after
  line-met f at w wants room to r after e h =
      rw (line_first text at w (words_at text (behind_word text (next_line text at))) e)
      (met (next_line text at) wants room to (read_form f (words_at text (behind_word text (next_line text at)))) r after h)
