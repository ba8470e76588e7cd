-- A turn takes no more bytes than are at hand; it waits for more only where fewer than a paper and its length are left. Assumes nothing.
use mathlib.Core.Path.{◌≡◌, refl}
use mathlib.Core.Bool.{Bool, true, false, cond}
use mathlib.Core.List.{List}
use Prim.Native.Nat.{ℕ, ◌+◌, ◌-◌, ◌≤◌, ◌<◌}
use native.Mathlib.Omega.{arith}
use borrow.Author.Tests.{ltb-true, ltb-false}
use lib.Dec.{ltb, leb}
use lib.ListN.{length}
use Rattle.conversation.specs.Events.{words_left}
use Rattle.paper_text.specs.PaperText.{room_for_text}
use Rattle.blocks.specs.declared.Turned.{Turned}
use Rattle.blocks.specs.declared.Wants.{Wants}
use Rattle.blocks.specs.declared.Wants.TheVariants.{Turn, Input, Room}
use Rattle.pages.specs.Stack.{page_of, size_of, paper_of}
use Rattle.pages.specs.Turn.{too_long, longest_paper, hold, page, passing, opening, deal_of, said_by}

pub record Inside (bytes : ℕ) (said : Turned) : Type 0 where
  pub taken : said.taken ≤ bytes
  pub waits : said.wants ≡ Input → bytes < said.taken + 65540

module _ (room to skip bytes : ℕ) where
  held : (taken left : ℕ) (wants : Wants) → taken ≤ bytes → (wants ≡ Input → bytes < taken + 65540) → Inside bytes (said_by room to skip (hold taken left wants))
  held taken left wants h w = record { taken = h; waits = w }

  paged : (taken asks : ℕ) (text words : List ℕ) → taken ≤ bytes → Inside bytes (said_by room to skip (page taken asks text words))
  paged taken asks text words h = by (leb (to + asks) room) where
    by : (b : Bool) → Inside bytes
        (cond b (record { taken = taken; skip = 0; end = to + length text; wants = Turn }) (record { taken = 0; skip = skip; end = to; wants = Room }))
    by true = record { taken = h; waits = λ e. absurd (let z : ◌≡◌ {A = ℕ} 0 1 = cc in omega arith) }
    by false = record { taken = omega arith; waits = λ e. absurd (let z : ◌≡◌ {A = ℕ} 0 1 = cc in omega arith) }

pub inside : (room to skip : ℕ) (words input : List ℕ) → Inside (length input) (said_by room to skip (deal_of skip words input))
unfolding deal_of
inside room to skip words input = by (ltb 0 skip) where
  by-passing : (b : Bool) → ltb (length input) skip ≡ b
      → Inside (length input)
      (said_by room to skip (cond b (hold (length input) (skip - length input) Input) (page skip (length too_long) too_long words)))
  by-passing true e = held room to skip (length input) (length input) (skip - length input) Input (omega arith) (λ w. omega arith)
  by-passing false e = paged room to skip (length input) skip (length too_long) too_long words (ltb-false (length input) skip e)

  by_size : (long few : Bool) → ltb (length input) 4 ≡ false → ltb longest_paper (size_of input) ≡ long → ltb (length input - 4) (size_of input) ≡ few
      → Inside (length input)
      (said_by room to skip
      (cond long (hold 4 (size_of input) Turn)
      (cond few (hold 0 0 Input)
      (page (4 + size_of input) (room_for_text (size_of input)) (page_of words (paper_of input)) (words_left words (paper_of input))))))
  by_size true few four l f =
      let h = ltb-false (length input) 4 four in
      held room to skip (length input) 4 (size_of input) Turn h (λ w. absurd (let z : ◌≡◌ {A = ℕ} 0 1 = cc in omega arith))
  by_size false true four l f =
      let short = ltb-false longest_paper (size_of input) l in
      let cut = ltb-true (length input - 4) (size_of input) f in
      held room to skip (length input) 0 0 Input (omega arith) (λ w. omega arith)
  by_size false false four l f =
      let h = ltb-false (length input) 4 four in
      let there = ltb-false (length input - 4) (size_of input) f in
      paged room to skip (length input) (4 + size_of input) (room_for_text (size_of input)) (page_of words (paper_of input)) (words_left words (paper_of input))
      (omega arith)

  by-opening : (none : Bool) → ltb (length input) 4 ≡ none
      → Inside (length input)
      (said_by room to skip
      (cond none (hold 0 0 Input)
      (cond (ltb longest_paper (size_of input)) (hold 4 (size_of input) Turn)
      (cond (ltb (length input - 4) (size_of input)) (hold 0 0 Input)
      (page (4 + size_of input) (room_for_text (size_of input)) (page_of words (paper_of input)) (words_left words (paper_of input)))))))
  by-opening true e =
      let few = ltb-true (length input) 4 e in held room to skip (length input) 0 0 Input (omega arith) (λ w. omega arith)
  by-opening false e = by_size (ltb longest_paper (size_of input)) (ltb (length input - 4) (size_of input)) e refl refl

  by : (b : Bool) → Inside (length input) (said_by room to skip (cond b (passing skip words input) (opening words input)))
  by true = by-passing (ltb (length input) skip) refl
  by false = by-opening (ltb (length input) 4) refl
