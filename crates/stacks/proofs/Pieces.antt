-- Whatever pieces a stack comes in, its text is that of its bytes: a turn takes from what is owed what it prints. Assumes nothing.
use mathlib.Core.Path.{◌≡◌, refl, sym, ap, ◌∙◌}
use mathlib.Core.Bool.{Bool, true, false, cond}
use mathlib.Core.List.{List, [], ◌∷◌, ◌++◌, append-nil, append_assoc}
use Prim.Native.Nat.{ℕ, zero, suc, ◌+◌, ◌-◌, ◌≤◌, ◌<◌}
use native.Mathlib.Omega.{arith}
use borrow.Author.Tests.{ne_eqb, ltb-true, ltb-false, eqb-true, eqb-false}
use lib.Dec.{eqb, ltb}
use lib.ListN.{length, drop, length-append, length-drop}
use lib.Seq.{drop-length, take-append-le, drop-append-le, drop-append-add}
use Rattle.conversation.specs.Events.{words_left}
use Rattle.transcript.specs.Transcript.{joined}
use Rattle.paper_text.specs.PaperText.{room_for_text}
use Rattle.blocks.specs.declared.Wants.TheVariants.{Turn, Input, Room}
use Rattle.pages.specs.Stack.{page_of, size_of, paper_of, stack_of}
use Rattle.pages.specs.Turn.{too_long, longest_paper, owed, Deal, hold, page, passing, opening, deal_of, last_text}
use Rattle.stacks.specs.Pieces.{dealt, told_in, told_of}
use Rattle.stacks.proofs.Stack.{number-front, none, cut, front, owed-cut, owed-page, owed-long}

abbrev paged : (words input : List ℕ) → Deal
paged words input = page (4 + size_of input) (room_for_text (size_of input)) (page_of words (paper_of input)) (words_left words (paper_of input))

-- what holds of each of the five deals holds of the turn's
module _ (skip : ℕ) (words input : List ℕ) (P : Deal → Type 0)
    (some : 0 < skip → length input < skip → P (hold (length input) (skip - length input) Input))
    (last : 0 < skip → skip ≤ length input → P (page skip (length too_long) too_long words))
    (few : skip ≡ 0 → length input < 4 + size_of input → P (hold 0 0 Input))
    (long : skip ≡ 0 → 4 ≤ length input → longest_paper < size_of input → P (hold 4 (size_of input) Turn))
    (whole : skip ≡ 0 → 4 + size_of input ≤ length input → P (paged words input)) where
  by-paper : skip ≡ 0 → 4 ≤ length input → (b : Bool) → ltb (length input - 4) (size_of input) ≡ b
      → P (cond b (hold 0 0 Input) (paged words input))
  by-paper z four true e = few z (omega (arith, ltb-true (length input - 4) (size_of input) e))
  by-paper z four false e = whole z (omega (arith, ltb-false (length input - 4) (size_of input) e))

  by_size : skip ≡ 0 → 4 ≤ length input → (b : Bool) → ltb longest_paper (size_of input) ≡ b
      → P (cond b (hold 4 (size_of input) Turn)
      (cond (ltb (length input - 4) (size_of input)) (hold 0 0 Input) (paged words input)))
  by_size z four true e = long z four (ltb-true longest_paper (size_of input) e)
  by_size z four false e = by-paper z four (ltb (length input - 4) (size_of input)) refl

  by_length : skip ≡ 0 → (b : Bool) → ltb (length input) 4 ≡ b
      → P (cond b (hold 0 0 Input)
      (cond (ltb longest_paper (size_of input)) (hold 4 (size_of input) Turn)
      (cond (ltb (length input - 4) (size_of input)) (hold 0 0 Input) (paged words input))))
  by_length z true e = few z (omega (arith, ltb-true (length input) 4 e))
  by_length z false e = by_size z (ltb-false (length input) 4 e) (ltb longest_paper (size_of input)) refl

  by-passing : 0 < skip → (b : Bool) → ltb (length input) skip ≡ b
      → P (cond b (hold (length input) (skip - length input) Input) (page skip (length too_long) too_long words))
  by-passing s true e = some s (ltb-true (length input) skip e)
  by-passing s false e = last s (ltb-false (length input) skip e)

  by_skip : (b : Bool) → ltb 0 skip ≡ b → P (cond b (passing skip words input) (opening words input))
  by_skip true e = by-passing (ltb-true 0 skip e) (ltb (length input) skip) refl
  by_skip false e = by_length (omega (arith, ltb-false 0 skip e)) (ltb (length input) 4) refl

  pub each_deal : P (deal_of skip words input)
  unfolding deal_of
  each_deal = by_skip (ltb 0 skip) refl

-- ---- a turn

-- what is owed of the bytes at hand and of all that come is what the turn prints, and what is owed behind it
abbrev pub GoesOn : (skip : ℕ) (words input rest : List ℕ) → Deal → Type 0
GoesOn skip words input rest (hold taken left wants) = owed skip words (input ++ rest) ≡ owed left words (drop taken input ++ rest)
GoesOn skip words input rest (page taken asks text words') = owed skip words (input ++ rest) ≡ text ++ owed 0 words' (drop taken input ++ rest)

module _ (skip : ℕ) (words input rest : List ℕ) where
  all-long : length (input ++ rest) ≡ length input + length rest
  all-long = length-append input rest

  goes_some : 0 < skip → length input < skip → GoesOn skip words input rest (hold (length input) (skip - length input) Input)
  goes_some s h = rw (drop-length input) (by (ltb (length rest) (skip - length input)) refl) where
    by : (b : Bool) → ltb (length rest) (skip - length input) ≡ b → owed skip words (input ++ rest) ≡ owed (skip - length input) words rest
    by true e =
        let k = ltb-true (length rest) (skip - length input) e in
        owed-cut skip words (input ++ rest) s (omega (arith, all-long)) ∙ sym (owed-cut (skip - length input) words rest (omega arith) k)
    by false e =
        let k = ltb-false (length rest) (skip - length input) e in
        let n : length input + (skip - length input) ≡ skip = omega arith in
        owed-page skip words (input ++ rest) s (omega (arith, all-long))
        ∙ ap (λ t. too_long ++ stack_of words t) (ap (λ k. drop k (input ++ rest)) (sym n) ∙ drop-append-add input rest (skip - length input))
        ∙ sym (owed-page (skip - length input) words rest (omega arith) k)

  goes_last : 0 < skip → skip ≤ length input → GoesOn skip words input rest (page skip (length too_long) too_long words)
  unfolding owed
  goes_last s h =
      owed-page skip words (input ++ rest) s (omega (arith, all-long)) ∙ ap (λ t. too_long ++ stack_of words t) (drop-append-le skip input rest h)

  goes-few : skip ≡ 0 → GoesOn skip words input rest (hold 0 0 Input)
  goes-few z = ap (λ n. owed n words (input ++ rest)) z

  goes-long : skip ≡ 0 → 4 ≤ length input → longest_paper < size_of input → GoesOn skip words input rest (hold 4 (size_of input) Turn)
  unfolding owed
  goes-long z four long =
      let size = number-front input rest 4 four in
      rw (z, ← drop-append-le 4 input rest four, ← size) (owed-long words (input ++ rest) (omega (arith, all-long)) (omega arith))

  goes-whole : skip ≡ 0 → 4 + size_of input ≤ length input → GoesOn skip words input rest (paged words input)
  unfolding owed
  goes-whole z there =
      let size = number-front input rest 4 (omega arith) in
      let paper : paper_of (input ++ rest) ≡ paper_of input =
      rw (size, drop-append-le 4 input rest (omega arith))
      (take-append-le (size_of input) (drop 4 input) rest (omega (arith, length-drop 4 input))) in
      let behind = ap (λ n. drop (4 + n) (input ++ rest)) size ∙ drop-append-le (4 + size_of input) input rest there in
      rw (z, ← behind, ← paper) (front words (input ++ rest) (omega (arith, all-long)))

  pub turn_goes_on : GoesOn skip words input rest (deal_of skip words input)
  turn_goes_on =
      each_deal skip words input (λ deal. GoesOn skip words input rest deal) goes_some goes_last (λ z h. goes-few z) goes-long goes-whole

-- where a turn wants bytes and none come, what is owed is what is written at the end
abbrev pub EndsIn : (words input : List ℕ) → Deal → Type 0
EndsIn words input (hold taken left Input) = owed left words (drop taken input) ≡ last_text (length (drop taken input)) left
EndsIn words input (hold taken left Turn) = Unit
EndsIn words input (hold taken left Room) = Unit
EndsIn words input (page taken asks text words') = Unit

module _ (skip : ℕ) (words input : List ℕ) where
  ends_some : length input < skip → EndsIn words input (hold (length input) (skip - length input) Input)
  ends_some h =
      let left = skip - length input in
      rw (drop-length input, ne_eqb left 0 (λ z. omega arith)) (owed-cut left words [] (omega arith) (omega arith))

  ends-few : length input < 4 + size_of input → EndsIn words input (hold 0 0 Input)
  unfolding owed
  ends-few h = by (eqb (length input) 0) refl where
    by : (b : Bool) → eqb (length input) 0 ≡ b → stack_of words input ≡ last_text (length input) 0
    by true e = rw e (none words input (eqb-true (length input) 0 e))
    by false e = rw e (cut words input (let n = eqb-false (length input) 0 e in omega arith) h)

  pub turn_ends : EndsIn words input (deal_of skip words input)
  turn_ends = each_deal skip words input (EndsIn words input) (λ s h. ends_some h) (λ s h. tt) (λ z h. ends-few h) (λ z four long. tt) (λ z there. tt)

-- ---- the pieces

-- a turn that does not want bytes has taken some
abbrev Takes : (input : List ℕ) → Deal → Type 0
Takes input (hold taken left Input) = Unit
Takes input (hold taken left Turn) = length (drop taken input) < length input
Takes input (hold taken left Room) = length (drop taken input) < length input
Takes input (page taken asks text words) = length (drop taken input) < length input

takes : (skip : ℕ) (words input : List ℕ) → Takes input (deal_of skip words input)
takes skip words input =
    each_deal skip words input (Takes input) (λ s h. tt) (λ s h. omega (arith, length-drop skip input)) (λ z h. tt)
    (λ z four long. omega (arith, length-drop 4 input)) (λ z there. omega (arith, length-drop (4 + size_of input) input))

-- n turns print what is owed, where the bytes and the pieces are fewer
abbrev Told : ℕ → Type 0
Told n = (skip : ℕ) (words input : List ℕ) (pieces : List (List ℕ)) → length input + length (joined pieces) + length pieces < n
    → told_in n skip words input pieces ≡ owed skip words (input ++ joined pieces)

one_more_lem : (n : ℕ) → Told n → (skip : ℕ) (words input : List ℕ) (pieces : List (List ℕ)) (deal : Deal)
    → length input + length (joined pieces) + length pieces < suc n → GoesOn skip words input (joined pieces) deal → EndsIn words input deal
    → Takes input deal → dealt (told_in n) words input pieces deal ≡ owed skip words (input ++ joined pieces)
unfolding joined
one_more_lem n told skip words input [] (hold taken left Input) h on end takes =
    sym (on ∙ ap (owed left words) (append-nil (drop taken input)) ∙ end)
one_more_lem n told skip words input (piece ∷ more) (hold taken left Input) h on end takes =
    let size = length-append (drop taken input) piece in
    let shorter = length-drop taken input in
    let pieces = length-append piece (joined more) in
    told left words (drop taken input ++ piece) more (omega arith)
    ∙ ap (owed left words) (append_assoc (drop taken input) piece (joined more)) ∙ sym on
one_more_lem n told skip words input pieces (hold taken left Turn) h on end takes = told left words (drop taken input) pieces (omega arith) ∙ sym on
one_more_lem n told skip words input pieces (hold taken left Room) h on end takes = told left words (drop taken input) pieces (omega arith) ∙ sym on
one_more_lem n told skip words input pieces (page taken asks text words') h on end takes =
    ap (λ t. text ++ t) (told 0 words' (drop taken input) pieces (omega arith)) ∙ sym on

told_is : (n : ℕ) → Told n
unfolding told_in
told_is zero skip words input pieces h = let z : ⊥ = omega arith in absurd z
told_is (suc n) skip words input pieces h =
    one_more_lem n (told_is n) skip words input pieces (deal_of skip words input) h (turn_goes_on skip words input (joined pieces))
    (turn_ends skip words input) (takes skip words input)

-- the text hangs on the bytes alone, not on the pieces they come in
pub whatever_pieces : (words : List ℕ) (pieces : List (List ℕ)) → told_of words pieces ≡ stack_of words (joined pieces)
unfolding told_of owed
whatever_pieces words pieces = told_is (suc (length (joined pieces) + length pieces)) 0 words [] pieces (omega arith)
