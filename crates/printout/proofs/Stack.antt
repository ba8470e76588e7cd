-- What is printed of a stack, read as text: paper by paper its lines and an empty line. Assumes nothing.
use mathlib.Core.Path.{◌≡◌, refl, sym, ap, ◌∙◌}
use mathlib.Core.Bool.{Bool, true, false}
use mathlib.Core.List.{List, [], ◌∷◌, ◌++◌, append_assoc, append-nil}
use Prim.Native.Nat.{ℕ, zero, suc, ◌+◌, ◌^◌, ◌≤◌, ◌<◌}
use native.Mathlib.Omega.{arith}
use borrow.Author.Tests.{ltb-true, ltb-false}
use lib.Dec.{ltb}
use lib.ListN.{length, take, drop, replicate, length-append, length-drop, length-replicate, take-append-drop}
use lib.Seq.{length-take-le, take_at, drop_at, take-append_seam, take-take, take-add, drop-drop}
use Rattle.wire.specs.Wire.{byte, number}
use Rattle.rules.specs.Word.{word_count}
use Rattle.conversation.specs.Events.{words_left}
use Rattle.lines.specs.Lines.{digit, decimal, refusal_line}
use Rattle.lines.specs.Sitting.{sitting_lines}
use Rattle.text.proofs.Each.{Each, none, more}
use Rattle.transcript.specs.Transcript.{transcript_of}
use Rattle.pages.specs.Stack.{page_of, size_of, paper_of, behind, stack_of}
use Rattle.stacks.proofs.Stack as Front
use Rattle.stacks.proofs.Alone.{words_length, apart}
use Rattle.spelling.specs.Spelling.{Bytes, big}
use Rattle.spelling.specs.Faults.{over}
use Rattle.spelling.proofs.Numbers.{big_length, big-read, big_back, number_small, bytes_drop, peel}
use Rattle.spelling.proofs.Papers.{nine_line}
use Rattle.paper_text.specs.PaperText.{log_behind, text_of}
use Rattle.paper_text.proofs.Logged.{lined}
use Rattle.printout.specs.Text.{lines_read, logged}
use Rattle.printout.specs.Stack.{block_of, stack_with, Fits, pages_of, cut_line, too_long_line, Stacked, whole, cut}
use Rattle.printout.proofs.Text.{up_to_feed, lines-first, only-lines}
use Rattle.printout.proofs.Paper.{paper-lines}

-- ---- a block in front

module _ (paper rest : List ℕ) (fits : Fits paper) where
  abbrev stack : List ℕ
  stack = block_of paper ++ rest

  abbrev size : ℕ
  size = length paper

  spelled : stack ≡ big 4 size ++ (paper ++ rest)
  spelled = append_assoc (big 4 size) paper rest

  size_is : size_of stack ≡ size
  size_is = ap (λ (s : List ℕ). number s 0 4) spelled ∙ big-read [] 4 size (paper ++ rest) fits

  from-paper : drop 4 stack ≡ paper ++ rest
  from-paper = ap (drop 4) spelled ∙ drop_at (big 4 size) (paper ++ rest) 4 (big_length 4 size)

  paper-is : paper_of stack ≡ paper
  paper-is = rw (size_is, from-paper) (take_at paper rest size refl)

  behind-is : behind stack ≡ rest
  behind-is = rw size_is (sym (drop-drop size 4 stack) ∙ ap (drop size) from-paper ∙ drop_at paper rest size refl)

  long_enough : 4 + size_of stack ≤ length stack
  long_enough = rw (size_is, length-append (block_of paper) rest, length-append (big 4 size) paper, big_length 4 size) (omega arith)

-- ---- all blocks

module _ (words : List ℕ) (lent : length words ≡ word_count) where
  any_words : (words' stack : List ℕ) → length words' ≡ word_count → stack_of words' stack ≡ stack_of words stack
  any_words words' stack lent' = apart words' words stack lent' lent ∙ sym (apart words words stack lent lent)

  page-first : (paper rest : List ℕ) → Fits paper → stack_of words (block_of paper ++ rest) ≡ page_of words paper ++ stack_of words rest
  page-first paper rest fits =
      Front.front words (block_of paper ++ rest) (long_enough paper rest fits)
      ∙ rw (paper-is paper rest fits, behind-is paper rest fits)
      (ap (λ (t : List ℕ). page_of words paper ++ t) (any_words (words_left words paper) rest (words_length words paper ∙ lent)))

  page-lines : (paper rest : List ℕ)
      → lines_read (page_of words paper ++ rest) ≡ sitting_lines words paper ++ logged words paper ++ ((10 ∷ []) ∷ lines_read rest)
  unfolding text_of transcript_of
  page-lines paper rest =
      let lines = transcript_of words paper in
      let log = lined paper lines in
      let read : logged words paper ≡ log.lines = ap lines_read log.is ∙ only-lines log.fed in
      ap lines_read (append_assoc (lines ++ log_behind paper lines) (10 ∷ []) rest ∙ append_assoc lines (log_behind paper lines) (10 ∷ rest))
      ∙ lines-first (paper-lines words paper) (log_behind paper lines ++ 10 ∷ rest)
      ∙ ap (λ (t : List ℕ). sitting_lines words paper ++ lines_read (t ++ 10 ∷ rest)) log.is
      ∙ ap (λ (l : List (List ℕ)). sitting_lines words paper ++ l) (lines-first log.fed (10 ∷ rest))
      ∙ ap (λ (l : List (List ℕ)). sitting_lines words paper ++ (log.lines ++ l)) (up_to_feed [] rest (λ i l. absurd (omega arith)))
      ∙ ap (λ (l : List (List ℕ)). sitting_lines words paper ++ (l ++ ((10 ∷ []) ∷ lines_read rest))) (sym read)
      ∙ sym (append_assoc (sitting_lines words paper) (logged words paper) ((10 ∷ []) ∷ lines_read rest))

  pages_first : {papers : List (List ℕ)} → Each Fits papers → (rest : List ℕ)
      → lines_read (stack_of words (stack_with papers ++ rest)) ≡ pages_of words papers ++ lines_read (stack_of words rest)
  unfolding stack_with pages_of
  pages_first none rest = refl
  pages_first (more {a = paper} {s = papers} fits r) rest =
      let lines = sitting_lines words paper ++ logged words paper in
      let behind = stack_with papers ++ rest in
      ap (λ (s : List ℕ). lines_read (stack_of words s)) (append_assoc (block_of paper) (stack_with papers) rest)
      ∙ ap lines_read (page-first paper behind fits)
      ∙ page-lines paper (stack_of words behind)
      ∙ ap (λ (l : List (List ℕ)). lines ++ ((10 ∷ []) ∷ l)) (pages_first r rest)
      ∙ sym (append_assoc lines ((10 ∷ []) ∷ pages_of words papers) (lines_read (stack_of words rest)))

  -- A STACK OF WHOLE BLOCKS: each paper's lines and an empty line
  pub stack_lines : {papers : List (List ℕ)} → Each Fits papers → lines_read (stack_of words (stack_with papers)) ≡ pages_of words papers
  unfolding lines_read
  stack_lines {papers} r =
      ap (λ (s : List ℕ). lines_read (stack_of words s)) (sym (append-nil (stack_with papers)))
      ∙ pages_first r []
      ∙ ap (λ (t : List ℕ). pages_of words papers ++ lines_read t) (Front.none words [] refl)
      ∙ append-nil (pages_of words papers)

  -- a part of a block
  module _ (paper : List ℕ) (fits : Fits paper) (n : ℕ) (some : 0 < n) (few : n < length (block_of paper)) where
    abbrev part : List ℕ
    part = take n (block_of paper)

    part-size : length part ≡ n
    part-size = length-take-le n (block_of paper) (omega arith)

    too_few : length part < 4 + size_of part
    too_few = by (ltb n 4) refl where
      by : (b : Bool) → ltb n 4 ≡ b → length part < 4 + size_of part
      by true e = let short = ltb-true n 4 e in omega (arith, part-size)
      by false e =
          let four = ltb-false n 4 e in
          let same : size_of part ≡ length paper =
          sym (Front.number-front part (drop n (block_of paper)) 4 (omega (arith, part-size)))
          ∙ ap (λ (s : List ℕ). number s 0 4) (take-append-drop n (block_of paper))
          ∙ big-read [] 4 (length paper) paper fits in
          omega (arith, part-size, length-append (big 4 (length paper)) paper, big_length 4 (length paper))

    -- A STACK THAT IS CUT SHORT: the pages of its whole blocks, and a line that says so
    pub cut-lines : {papers : List (List ℕ)} → Each Fits papers
        → lines_read (stack_of words (stack_with papers ++ part)) ≡ pages_of words papers ++ cut_line ∷ []
    unfolding lines_read
    cut-lines {papers} r =
        pages_first r part
        ∙ ap (λ (t : List ℕ). pages_of words papers ++ lines_read t) (Front.cut words part (omega (arith, part-size)) too_few)

-- THE PAGE OF A PAPER THAT IS TOO LONG
pub over-long : (words paper : List ℕ) → 65536 < length paper → sitting_lines words paper ≡ too_long_line ∷ []
unfolding refusal_line decimal digit
over-long words paper long = nine_line words paper (over long)

-- ---- every stack is one of the two

byte-zeros : (s : List ℕ) (k i : ℕ) → byte (s ++ replicate k 0) i ≡ byte s i
byte-zeros [] zero i = refl
byte-zeros [] (suc k) zero = refl
byte-zeros [] (suc k) (suc i) = byte-zeros [] k i
byte-zeros (b ∷ s) k zero = refl
byte-zeros (b ∷ s) k (suc i) = byte-zeros s k i

number-zeros : (s : List ℕ) (k at n : ℕ) → number (s ++ replicate k 0) at n ≡ number s at n
unfolding number
number-zeros s k at zero = refl
number-zeros s k at (suc n) = rw (number-zeros s k at n, byte-zeros s k (at + n))

bytes-zeros : (s : List ℕ) (k : ℕ) → Bytes s → Bytes (s ++ replicate k 0)
bytes-zeros [] zero h = tt
bytes-zeros [] (suc k) h = (omega arith, bytes-zeros [] k tt)
bytes-zeros (b ∷ s) k h = (h.0, bytes-zeros s k h.1)

module _ (stack : List ℕ) (bytes : Bytes stack) where
  abbrev asks : ℕ
  asks = size_of stack

  small : asks < 256 ^ 4
  small = number_small stack bytes 0 4

  -- the block that it is cut short of, filled up with zeros
  abbrev padded : List ℕ
  padded = stack ++ replicate (4 + asks) 0

  abbrev filled : List ℕ
  filled = take asks (drop 4 padded)

  padded-size : length padded ≡ length stack + (4 + asks)
  padded-size = length-append stack (replicate (4 + asks) 0) ∙ ap (λ (n : ℕ). length stack + n) (length-replicate (4 + asks) 0)

  filled-size : length filled ≡ asks
  filled-size = length-take-le asks (drop 4 padded) (omega (arith, padded-size, length-drop 4 padded))

  filled-block : block_of filled ≡ take (4 + asks) padded
  filled-block =
      let length-there = big_back padded (bytes-zeros stack (4 + asks) bytes) 0 4 (omega (arith, padded-size)) in
      ap (λ (n : ℕ). big 4 n ++ filled) (filled-size ∙ sym (number-zeros stack (4 + asks) 0 4))
      ∙ ap (λ (s : List ℕ). s ++ filled) (sym length-there)
      ∙ sym (take-add 4 asks padded)

  cut_off : 0 < length stack → length stack < 4 + asks → Stacked stack
  unfolding stack_with
  cut_off some few =
      let size = ap length filled-block ∙ length-take-le (4 + asks) padded (omega (arith, padded-size)) in
      let front = ap (take (length stack)) filled-block ∙ take-take (length stack) (4 + asks) padded (omega arith)
      ∙ take-append_seam stack (replicate (4 + asks) 0) in
      cut [] none filled (rw filled-size small) (length stack) some (omega (arith, size)) (sym front)

  whole-first : 4 + asks ≤ length stack → Fits (paper_of stack) × (stack ≡ block_of (paper_of stack) ++ behind stack)
  whole-first there =
      let paper = paper_of stack in
      let size : length paper ≡ asks = length-take-le asks (drop 4 stack) (omega (arith, length-drop 4 stack)) in
      let parts : drop 4 stack ≡ paper ++ behind stack = sym (take-append-drop asks (drop 4 stack)) ∙ ap (λ (s : List ℕ). paper ++ s) (drop-drop asks 4 stack) in (
        rw size small,
        peel stack bytes 0 4 (omega arith)
            ∙ ap (λ (s : List ℕ). big 4 asks ++ s) parts
            ∙ sym (append_assoc (big 4 asks) paper (behind stack))
            ∙ ap (λ (n : ℕ). (big 4 n ++ paper) ++ behind stack) (sym size),
      )

added : (paper : List ℕ) → Fits paper → {stack rest : List ℕ} → stack ≡ block_of paper ++ rest → Stacked rest → Stacked stack
unfolding stack_with
added paper fits e (whole papers r is) = whole (paper ∷ papers) (more fits r) (e ∙ ap (λ (s : List ℕ). block_of paper ++ s) is)
added paper fits e (cut papers r last f n some few is) =
    cut (paper ∷ papers) (more fits r) last f n some few
    (e ∙ ap (λ (s : List ℕ). block_of paper ++ s) is ∙ sym (append_assoc (block_of paper) (stack_with papers) (take n (block_of last))))

abbrev Every : ℕ → Type 0
Every n = (stack : List ℕ) → length stack ≤ n → Bytes stack → Stacked stack

one_more_lem : (n : ℕ) → Every n → (stack : List ℕ) → 0 < length stack → length stack ≤ suc n → Bytes stack → Stacked stack
one_more_lem n every stack some h bytes = by (ltb (length stack) (4 + size_of stack)) refl where
  by : (b : Bool) → ltb (length stack) (4 + size_of stack) ≡ b → Stacked stack
  by true e = cut_off stack bytes some (ltb-true (length stack) (4 + size_of stack) e)
  by false e =
      let first = whole-first stack bytes (ltb-false (length stack) (4 + size_of stack) e) in
      let rest = every (behind stack) (omega (arith, length-drop (4 + size_of stack) stack)) (bytes_drop (4 + size_of stack) stack bytes) in
      added (paper_of stack) first.0 first.1 rest

nothing_left : Every 0
nothing_left [] h bytes = whole [] none (unfold stack_with in refl)
nothing_left (b ∷ s) h bytes = let z : ⊥ = omega arith in absurd z

longer : (n : ℕ) → Every n → Every (suc n)
longer n every [] h bytes = whole [] none (unfold stack_with in refl)
longer n every (b ∷ s) h bytes = one_more_lem n every (b ∷ s) (omega arith) h bytes

every_in : (n : ℕ) → Every n
every_in zero = nothing_left
every_in (suc n) = longer n (every_in n)

-- EVERY BYTE STRING IS A STACK OF WHOLE BLOCKS, OR ONE THAT IS CUT SHORT
pub every_stack : (stack : List ℕ) → Bytes stack → Stacked stack
every_stack stack bytes = every_in (length stack) stack (omega arith) bytes
