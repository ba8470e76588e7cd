-- A stack from its front: nothing, a block cut short, or a page and what stands behind it. Assumes nothing.
use mathlib.Core.Path.{◌≡◌, refl, sym, ap, ◌∙◌}
use mathlib.Core.Bool.{Bool, true, false}
use mathlib.Core.List.{List, [], ◌++◌}
use Prim.Native.Nat.{ℕ, zero, suc, ◌+◌, ◌-◌, ◌≤◌, ◌<◌}
use native.Mathlib.Omega.{arith}
use borrow.Author.Tests.{lt-ltb, le-ltb, eq-eqb, ne_eqb, ltb-true, ltb-false}
use lib.Dec.{ltb}
use lib.ListN.{length, drop, length-drop, get_or-append}
use lib.Seq.{length-take-le, drop-drop}
use Rattle.wire.specs.Wire.{byte, number}
use Rattle.refusal.specs.declared.Refusal.TheVariants.{Unreadable}
use Rattle.paper.specs.Paper.{open_paper}
use Rattle.opening.specs.Opening.{begun_of, opened_begun, words_begun, opened_words}
use Rattle.conversation.specs.Events.{words_left}
use Rattle.lines.specs.Lines.{digit, decimal, refusal_line}
use Rattle.transcript.proofs.Steps.{not_set_up, words_not_set_up}
use Rattle.replies.specs.Replies.{place_of, behind}
use Rattle.paper_text.specs.PaperText.{text_of}
use Rattle.paper_text.proofs.Logged.{no_further_line}
use Rattle.pages.specs.Stack.{page_of, cut_short, size_of, paper_of, pages_in, stack_of}
use Rattle.pages.specs.Stack as Stack
use Rattle.pages.specs.Turn.{too_long, longest_paper, owed}
use Rattle.std.specs.Prelude.{Err}

-- the length at the front does not hang on what stands behind it
pub number-front : (s more : List ℕ) (n : ℕ) → n ≤ length s → number (s ++ more) 0 n ≡ number s 0 n
unfolding number
number-front s more zero h = refl
number-front s more (suc n) h =
    let last : byte (s ++ more) (0 + n) ≡ byte s (0 + n) = get_or-append s more 0 (0 + n) (omega arith) in
    rw (number-front s more n (omega arith), last)

-- as many papers as there are bytes say all there is to say
settled : (n m : ℕ) (words stack : List ℕ) → length stack ≤ n → n ≤ m → pages_in m words stack ≡ pages_in n words stack
unfolding pages_in
settled zero zero words stack h l = refl
settled zero (suc m) words stack h l = rw (eq-eqb (length stack) 0 (omega arith))
settled (suc n) zero words stack h l = let z : ⊥ = omega arith in absurd z
settled (suc n) (suc m) words stack h l =
    rw (settled n m (words_left words (paper_of stack)) (Stack.behind stack) (omega (arith, length-drop (4 + size_of stack) stack)) (omega arith))

module _ (words stack : List ℕ) where
  pub none : length stack ≡ 0 → stack_of words stack ≡ []
  unfolding stack_of pages_in
  none e = rw e

  first : (m : ℕ) → length stack ≡ suc m → stack_of words stack ≡ pages_in (suc m) words stack
  unfolding stack_of
  first m e = ap (λ n. pages_in n words stack) e

  pub cut : 0 < length stack → length stack < 4 + size_of stack → stack_of words stack ≡ cut_short
  unfolding pages_in
  cut some few =
      first (length stack - 1) (omega arith)
      ∙ (let no = ne_eqb (length stack) 0 (λ z. omega arith) in rw (no, lt-ltb (length stack) (4 + size_of stack) few))

  pub front : 4 + size_of stack ≤ length stack
      → stack_of words stack ≡ page_of words (paper_of stack) ++ stack_of (words_left words (paper_of stack)) (Stack.behind stack)
  unfolding pages_in stack_of
  front there =
      let m = length stack - 1 in
      let no = ne_eqb (length stack) 0 (λ z. omega arith) in
      let enough = settled (length (Stack.behind stack)) m (words_left words (paper_of stack)) (Stack.behind stack) (omega arith)
      (omega (arith, length-drop (4 + size_of stack) stack)) in
      first m (omega arith) ∙ rw (no, le-ltb (length stack) (4 + size_of stack) there) (ap (λ t. page_of words (paper_of stack) ++ t) enough)

-- ---- a paper that is too long

module _ (words paper : List ℕ) (long : longest_paper < length paper) where
  unread : open_paper paper ≡ Err Unreadable
  unfolding open_paper
  unread = rw (ne_eqb (length paper) 0 (λ z. omega arith), lt-ltb 65536 (length paper) long)

  pub long-page : page_of words paper ≡ too_long
  unfolding text_of behind place_of refusal_line decimal digit begun_of
  long-page =
      rw (not_set_up words paper Unreadable (ap (λ o. (opened_begun paper o).event) unread), no_further_line paper (refusal_line 0 9) refl)

  pub long-words : words_left words paper ≡ words
  unfolding words_begun begun_of
  long-words = words_not_set_up words paper Unreadable (ap (λ o. (opened_begun paper o).event) unread) ∙ ap (opened_words words paper) unread

-- ---- what is owed where bytes are to be passed

module _ (skip : ℕ) (words stack : List ℕ) (some : 0 < skip) where
  pub owed-cut : length stack < skip → owed skip words stack ≡ cut_short
  unfolding owed
  owed-cut few = rw (ne_eqb skip 0 (λ z. omega arith), lt-ltb (length stack) skip few)

  pub owed-page : skip ≤ length stack → owed skip words stack ≡ too_long ++ stack_of words (drop skip stack)
  unfolding owed
  owed-page there = rw (ne_eqb skip 0 (λ z. omega arith), le-ltb (length stack) skip there)

-- the length of a paper that is too long is taken, and its bytes are to be passed
pub owed-long : (words stack : List ℕ) → 4 ≤ length stack → longest_paper < size_of stack
    → stack_of words stack ≡ owed (size_of stack) words (drop 4 stack)
owed-long words stack four long = by (ltb (length stack) (4 + size_of stack)) refl where
  by : (b : Bool) → ltb (length stack) (4 + size_of stack) ≡ b → stack_of words stack ≡ owed (size_of stack) words (drop 4 stack)
  by true e =
      let few = ltb-true (length stack) (4 + size_of stack) e in
      cut words stack (omega arith) few ∙ sym (owed-cut (size_of stack) words (drop 4 stack) (omega arith) (omega (arith, length-drop 4 stack)))
  by false e =
      let there = ltb-false (length stack) (4 + size_of stack) e in
      let paper = paper_of stack in
      let whole : length paper ≡ size_of stack = length-take-le (size_of stack) (drop 4 stack) (omega (arith, length-drop 4 stack)) in
      let over : longest_paper < length paper = omega arith in
      front words stack there
      ∙ rw (long-page words paper over, long-words words paper over, ← drop-drop (size_of stack) 4 stack)
      (sym (owed-page (size_of stack) words (drop 4 stack) (omega arith) (omega (arith, length-drop 4 stack))))
