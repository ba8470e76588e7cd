-- Which lines end a paper: those of refusal 9. Assumes nothing.
use mathlib.Core.Path.{◌≡◌, refl, sym, ap, ◌∙◌}
use mathlib.Core.Bool.{Bool, true, false}
use mathlib.Core.List.{List, [], ◌∷◌, ◌++◌}
use Prim.Native.Nat.{ℕ, zero, suc, ◌+◌, ◌/◌, ◌%◌, ◌<◌}
use native.Mathlib.Omega.{arith}
use borrow.Author.Tests.{ltb-true, ltb-false, eqb-true, eqb-false, eq-eqb, ne_eqb}
use lib.Dec.{eqb, ltb}
use lib.ListN.{replicate}
use Rattle.wire.specs.Wire.{byte}
use Rattle.refusal.specs.declared.Refusal.{Refusal}
use Rattle.refusal.specs.declared.Refusal.TheVariants.{BadSetup, OutOfTurn, UnknownProfile, AtcUsedUp, BadType, OutOfRange, RoomTooSmall}
use Rattle.refusal.specs.declared.Refusal.TheVariants.{NotAnIad, Unreadable, BadRate, BadMta, NotSelected, NotADay, PastData, NoRoomForAnswers}
use Rattle.refusal.specs.declared.Refusal.TheVariants.{TooManyCurrencies, TooManyPapers, Malformed, TooDeep}
use Rattle.refusal.specs.Refusal.{refusal_number}
use Rattle.iad.specs.declared.Iad.{Iad}
use Rattle.iad.specs.Iad.{written}
use Rattle.state.specs.declared.Answer.{Answer}
use Rattle.state.specs.declared.Answer.TheVariants.{Refused, Started, Given, Done}
use Rattle.state.specs.State.{cid_of}
use Rattle.card.specs.Card.{answer_number}
use Rattle.hex_digits.specs.Hex.{hex_byte, hex}
use Rattle.lines.specs.Lines.{decimal, refusal_line, start_line, selected_line, cryptogram_line}
use Rattle.lines.specs.Sitting.{answer_line}
use Rattle.lines.proofs.Decimal as Decimal
use Rattle.text.proofs.Fields.{Plain}
use Rattle.lines.proofs.Fields.{decimal-plain}
use Rattle.replies.specs.Replies.{before, is_ending}
use Rattle.reply_laws.proofs.Words.{said, last-said, more-said, other-words}

-- the second word's first digit decides
module _ (rest : List ℕ) {f g : List ℕ} (p : Plain f) (q : Plain g) (d : ℕ) (ds : List ℕ) (spelled : g ≡ d ∷ ds) where
  abbrev is_nine : List ℕ → Bool
  is_nine text = eqb (byte text 0) 57

  by-digit : (fs : List (List ℕ)) → is_ending (said rest f (g ∷ fs)) ≡ eqb d 57
  unfolding is_ending
  by-digit [] = ap is_nine (other-words rest p g [] ∙ last-said rest q ∙ spelled)
  by-digit (h ∷ fs) = ap is_nine (other-words rest p g (h ∷ fs) ∙ more-said rest q h fs ∙ ap (λ (t : List ℕ). t ++ 32 ∷ said rest h fs) spelled)

-- of the numbers below 90 only 9 begins with "9"
record Begins (n : ℕ) : Type 0 where
  digit : ℕ
  digits : List ℕ
  spelled : decimal n ≡ digit ∷ digits
  tells : eqb digit 57 ≡ eqb n 9

begins : (n : ℕ) → n < 90 → Begins n
begins n h = by (ltb n 10) refl where
  alone : (t : Bool) → eqb n 9 ≡ t → eqb (48 + n) 57 ≡ t
  alone true e = let same = eqb-true n 9 e in eq-eqb (48 + n) 57 (omega arith)
  alone false e = ne_eqb (48 + n) 57 (λ q. eqb-false n 9 e (omega arith))

  by : (t : Bool) → ltb n 10 ≡ t → Begins n
  by true e =
      let small = ltb-true n 10 e in
      record { digit = 48 + n; digits = []; spelled = sym (Decimal.ones n small); tells = alone (eqb n 9) refl }
  by false e =
      let large = ltb-false n 10 e in
      let last = (48 + n % 10) ∷ [] in
      let tens = ap (λ (t : List ℕ). t ++ last) (Decimal.ones (n / 10) (omega arith)) ∙ Decimal.tens n large (omega arith) in
      record {
        digit = 48 + n / 10;
        digits = last;
        spelled = sym tens;
        tells = ne_eqb (48 + n / 10) 57 (λ q. omega arith) ∙ sym (ne_eqb n 9 (λ q. omega arith));
      }

module _ (number : ℕ) (rest : List ℕ) where
  pub refusal_ends : (refusal : ℕ) → refusal < 90 → is_ending (before 10 (refusal_line number refusal ++ rest)) ≡ eqb refusal 9
  unfolding refusal_line
  refusal_ends refusal h =
      let b = begins refusal h in
      by-digit rest (decimal-plain number) (decimal-plain refusal) b.digit b.digits b.spelled [] ∙ b.tells

  -- behind a 0
  goes_on_lem : (fs : List (List ℕ)) → is_ending (said rest (decimal number) (decimal 0 ∷ fs)) ≡ false
  goes_on_lem = by-digit rest (decimal-plain number) (decimal-plain 0) 48 [] Decimal.zero

  pub start-goes-on : (atc : ℕ) → is_ending (before 10 (start_line number atc ++ rest)) ≡ false
  unfolding start_line
  start-goes-on atc = goes_on_lem (decimal atc ∷ [])

  pub selected_goes_on : (atc visits : ℕ) → is_ending (before 10 (selected_line number atc visits ++ rest)) ≡ false
  unfolding selected_line
  selected_goes_on atc visits = goes_on_lem (decimal atc ∷ decimal visits ∷ [])

  pub cryptogram-goes-on : (cid atc : ℕ) (iad : Iad) → is_ending (before 10 (cryptogram_line number cid atc iad ++ rest)) ≡ false
  unfolding cryptogram_line
  cryptogram-goes-on cid atc iad = goes_on_lem (hex_byte cid ∷ decimal atc ∷ hex (written iad (replicate 32 0)) ∷ [])

-- THE LINE OF AN ANSWER ENDS A PAPER just where the answer is refusal 9, whatever is printed behind it

below : (refusal : Refusal) → refusal_number refusal < 90
below BadSetup = omega arith
below OutOfTurn = omega arith
below UnknownProfile = omega arith
below AtcUsedUp = omega arith
below BadType = omega arith
below OutOfRange = omega arith
below RoomTooSmall = omega arith
below NotAnIad = omega arith
below Unreadable = omega arith
below BadRate = omega arith
below BadMta = omega arith
below NotSelected = omega arith
below NotADay = omega arith
below PastData = omega arith
below TooManyCurrencies = omega arith
below TooManyPapers = omega arith
below NoRoomForAnswers = omega arith
below Malformed = omega arith
below TooDeep = omega arith

pub ends : (number : ℕ) (answer : Answer) (rest : List ℕ) → is_ending (before 10 (answer_line number answer ++ rest)) ≡ eqb (answer_number answer) 9
unfolding answer_line
ends number (Refused refusal) rest = refusal_ends number rest (refusal_number refusal) (below refusal)
ends number (Started atc zero) rest = start-goes-on number rest atc
ends number (Started atc (suc visits)) rest = rw (ne_eqb (suc visits) 0 (λ e. omega arith)) (selected_goes_on number rest atc (suc visits))
ends number (Given kind atc iad) rest = cryptogram-goes-on number rest (cid_of kind) atc iad
ends number Done rest = refusal_ends number rest 0 (omega arith)
