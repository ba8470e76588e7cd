-- Lines that are written are read. Assumes nothing.
use mathlib.Core.Path.{◌≡◌, refl, ap, ap₂, ◌∙◌}
use mathlib.Core.Bool.{true, not, ◌&&◌}
use mathlib.Core.List.{List, [], ◌∷◌, ◌++◌, append_assoc, append-nil}
use Prim.Native.Nat.{ℕ, zero, suc}
use native.Mathlib.Omega.{arith}
use borrow.Author.Tests.{ltb-true, not-true, ne_eqb, lt-leb}
use lib.Dec.{ltb, eqb}
use lib.ListN.{length, replicate}
use Rattle.words.specs.Words.{all}
use Rattle.words.specs.Lex.{Line, behind, spaced, line_text, text_of, Lexed, flush, lines_of, step, lex, lines_in, is_plain, is_word, are_words, are_lines}
use Rattle.words.proofs.Tests.{both}

abbrev pub front : ℕ → Lexed → Lexed
front c l = record { word = c ∷ l.word; words = l.words; blanks = 0; below = l.below }

pub step-plain : (c : ℕ) (l : Lexed) → is_plain c ≡ true → step c l ≡ front c l
unfolding step
step-plain c l h =
    let (large, other) = both (ltb 32 c) (not (eqb c 35)) h in
    let k = ltb-true 32 c large in
    simp (ne_eqb c 10 (λ e. omega arith), not-true (eqb c 35) other, lt-leb c 32 k)

-- the state before a word, less the blanks
record After (w s : List ℕ) : Type 0 where
  word-is : (lex (w ++ s)).word ≡ w ++ (lex s).word
  words_are : (lex (w ++ s)).words ≡ (lex s).words
  below-are : (lex (w ++ s)).below ≡ (lex s).below

after : (w s : List ℕ) → all is_plain w ≡ true → After w s
unfolding all lex
after [] s h = record { word-is = refl; words_are = refl; below-are = refl }
after (c ∷ w) s h =
    let (p, q) = both (is_plain c) (all is_plain w) h in
    let e = step-plain c (lex (w ++ s)) p in
    let r = after w s q in
    record {
      word-is = ap (λ l. l.word) e ∙ ap (λ t. c ∷ t) r.word-is;
      words_are = ap (λ l. l.words) e ∙ r.words_are;
      below-are = ap (λ l. l.below) e ∙ r.below-are;
    }

-- what stands behind a line's first word
record Rest (ws : List (List ℕ)) (s : List ℕ) : Type 0 where
  word-is : (lex (behind ws ++ s)).word ≡ []
  words_are : (lex (behind ws ++ s)).words ≡ ws
  below-are : (lex (behind ws ++ s)).below ≡ lines_in s

rest : (ws : List (List ℕ)) (s : List ℕ) → are_words ws ≡ true → Rest ws s
unfolding are_words is_word lex step
rest [] s h = record { word-is = refl; words_are = refl; below-are = refl }
rest ([] ∷ ws) s h = let z : ◌≡◌ {A = ℕ} 0 1 = cc in absurd (omega arith)
rest ((c ∷ w) ∷ ws) s h =
    let (p, q) = both (all is_plain (c ∷ w)) (are_words ws) h in
    let r = rest ws s q in
    let a = after (c ∷ w) (behind ws ++ s) p in
    let same : (c ∷ w) ++ behind ws ++ s ≡ (c ∷ w) ++ (behind ws ++ s) = append_assoc (c ∷ w) (behind ws) s in
    let word : (lex ((c ∷ w) ++ behind ws ++ s)).word ≡ c ∷ w =
    ap (λ t. (lex t).word) same ∙ a.word-is ∙ ap (λ t. (c ∷ w) ++ t) r.word-is ∙ append-nil (c ∷ w) in
    let words : (lex ((c ∷ w) ++ behind ws ++ s)).words ≡ ws = ap (λ t. (lex t).words) same ∙ a.words_are ∙ r.words_are in
    record { word-is = refl; words_are = ap₂ flush word words; below-are = ap (λ t. (lex t).below) same ∙ a.below-are ∙ r.below-are }

-- a line that begins: its blanks, its words, and the lines below
record Begun (l : Lexed) (n : ℕ) (ws : List (List ℕ)) (ls : List Line) : Type 0 where
  words_are : flush l.word l.words ≡ ws
  blanks-are : l.blanks ≡ n
  below-are : l.below ≡ ls

indented : (n : ℕ) (s : List ℕ) (ws : List (List ℕ)) (ls : List Line) → Begun (lex s) 0 ws ls → Begun (lex (replicate n 32 ++ s)) n ws ls
unfolding lex step
indented zero s ws ls b = b
indented (suc n) s ws ls b =
    let r = indented n s ws ls b in
    record { words_are = r.words_are; blanks-are = ap suc r.blanks-are; below-are = r.below-are }

begun : (w : List ℕ) (ws : List (List ℕ)) (s : List ℕ) → are_words (w ∷ ws) ≡ true → Begun (lex (spaced (w ∷ ws) ++ s)) 0 (w ∷ ws) (lines_in s)
unfolding are_words is_word lex
begun [] ws s h = let z : ◌≡◌ {A = ℕ} 0 1 = cc in absurd (omega arith)
begun (c ∷ w) ws s h =
    let (p, q) = both (all is_plain (c ∷ w)) (are_words ws) h in
    let (i, _) = both (is_plain c) (all is_plain w) (unfold all in p) in
    let r = rest ws s q in
    let a = after (c ∷ w) (behind ws ++ s) p in
    let same : (c ∷ w) ++ behind ws ++ s ≡ (c ∷ w) ++ (behind ws ++ s) = append_assoc (c ∷ w) (behind ws) s in
    let word : (lex ((c ∷ w) ++ behind ws ++ s)).word ≡ c ∷ w =
    ap (λ t. (lex t).word) same ∙ a.word-is ∙ ap (λ t. (c ∷ w) ++ t) r.word-is ∙ append-nil (c ∷ w) in
    let words : (lex ((c ∷ w) ++ behind ws ++ s)).words ≡ ws = ap (λ t. (lex t).words) same ∙ a.words_are ∙ r.words_are in
    record {
      words_are = ap₂ flush word words;
      blanks-are = ap (λ l. l.blanks) (step-plain c (lex (w ++ behind ws ++ s)) i);
      below-are = ap (λ t. (lex t).below) same ∙ a.below-are ∙ r.below-are;
    }

first-line : (l : Line) (s : List ℕ) → not (eqb (length l.words) 0) ≡ true → are_words l.words ≡ true → lines_in (line_text l ++ s) ≡ l ∷ lines_in s
unfolding line_text lines_of
first-line l s h k = by l.indent l.words h k where
  by : (n : ℕ) (ws : List (List ℕ)) → not (eqb (length ws) 0) ≡ true → are_words ws ≡ true
      → lines_in ((replicate n 32 ++ spaced ws) ++ s) ≡ record { indent = n; words = ws } ∷ lines_in s
  by n [] h k = let z : ◌≡◌ {A = ℕ} 0 1 = cc in absurd (omega arith)
  by n (w ∷ ws) h k =
      let b = indented n (spaced (w ∷ ws) ++ s) (w ∷ ws) (lines_in s) (begun w ws s k) in
      rw (append_assoc (replicate n 32) (spaced (w ∷ ws)) s) (rw (b.words_are, b.blanks-are, b.below-are))

-- what is written is read
pub reads_lines : (ls : List Line) → are_lines ls ≡ true → lines_in (text_of ls) ≡ ls
unfolding text_of are_lines
reads_lines [] h = unfold lex lines_of in refl
reads_lines (l ∷ ls) h =
    let (front, more) = both (not (eqb (length l.words) 0) && are_words l.words) (are_lines ls) h in
    let (some, words) = both (not (eqb (length l.words) 0)) (are_words l.words) front in
    first-line l (text_of ls) some words ∙ ap (λ rest. l ∷ rest) (reads_lines ls more)
