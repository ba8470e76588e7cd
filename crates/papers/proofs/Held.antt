-- What a Start's entries test is what an auditor reads off the conversation. Assumes nothing.
use mathlib.Core.Path.{◌≡◌, refl, subst, ◌∙◌}
use mathlib.Core.Bool.{Bool, true, false, cond, not}
use mathlib.Core.List.{List, [], ◌∷◌}
use Prim.Native.Nat.{ℕ, zero, suc, ◌+◌, ◌-◌, ◌<◌, ◌≤◌}
use native.Mathlib.Omega.{arith}
use borrow.Author.Tests.{ne_eqb}
use lib.Dec.{eqb}
use lib.ListN.{length, get_or, take, length-take}
use Rattle.wire.specs.Wire.{byte}
use Rattle.rules.specs.declared.Values.{Values}
use Rattle.purchase.specs.Meter.{Meter, accumulator, counter, IsMeter, value_of}
use Rattle.slot.specs.declared.Slots.{Slots}
use Rattle.block.specs.declared.Slot.{Slot}
use Rattle.block.specs.declared.Slot.TheVariants.{Accumulator, Counter}
use Rattle.slot.specs.Slot.{number_of}
use Rattle.slot.specs.Slot as S
use Rattle.block.proofs.Facts.{to-four}
use Rattle.selection.specs.Selection.{selection_of}
use Rattle.selection.specs.Visits.{Tests}
use Rattle.selection.proofs.Only.{only-tested}
use Rattle.command.specs.declared.Start.{Start}
use Rattle.demands.specs.Setup.{Setup}
use Rattle.demands.specs.Conversation.{Exchange}
use Rattle.demands.specs.Audit.{audited}
use Rattle.demands.specs.Selecting.{slots_by}
use Rattle.spelling.specs.Spelling.{Choice, by_name, by_file, CardFamily, cpa, cpace, is_tested, slots_in}
use Rattle.papers.specs.Papers.{body_in, tails_in, behind_dating, profiles_in, setup_of, card_of, manner_of, Chosen}

-- a card's slots are tested exactly where its set-up has the tail of a CPACE card
tested-there : (b : Bool) (p : ℕ) (s : List ℕ) → eqb (byte s 0) 0 ≡ b → is_tested (cond b cpa cpace) ≡ not (eqb (length (cond b [] (take (9 + p) s))) 0)
tested-there true p s e = refl
tested-there false p [] e = let z : ◌≡◌ {A = ℕ} 0 1 = cc in absurd (omega arith)
tested-there false p (x ∷ s) e = rw (ne_eqb (length (take (9 + p) (x ∷ s))) 0 (λ z. omega (arith, length-take (9 + p) (x ∷ s))))

pub tested-is : (paper : List ℕ) → is_tested (card_of paper) ≡ not (eqb (length (setup_of paper).family) 0)
unfolding setup_of manner_of
tested-is paper = let body = body_in paper in tested-there _ (profiles_in body) (behind_dating (profiles_in body) (tails_in body)) refl

module _ (setup : Setup) (log : List Exchange) (family : CardFamily) (values : Values)
    (tested : is_tested family ≡ not (eqb (length setup.family) 0))
    (holds : (meter : Meter) → IsMeter meter → value_of values meter ≡ audited setup log meter) where
  abbrev held : Slots
  held = slots_in family values

  abbrev read : Slots
  read = slots_by setup log

  amounts_are : held.amounts ≡ read.amounts
  unfolding slots_in
  amounts_are =
      let a0 = holds (accumulator 0) (omega arith) in
      let a1 = holds (accumulator 1) (omega arith) in
      let a2 = holds (accumulator 2) (omega arith) in
      let a3 = holds (accumulator 3) (omega arith) in
      λ i. a0 i ∷ a1 i ∷ a2 i ∷ a3 i ∷ []

  count-is : (i : ℕ) → i < 4 → get_or values.counters i 0 ≡ get_or read.counts i 0
  count-is zero h = holds (counter 0) h
  count-is (suc zero) h = holds (counter 1) h
  count-is (suc (suc zero)) h = holds (counter 2) h
  count-is (suc (suc (suc zero))) h = holds (counter 3) h
  count-is (suc (suc (suc (suc i)))) h = absurd (omega arith)

  value-is : (x : Slot) → number_of x ≤ 4 → S.value_of held x ≡ S.value_of read x
  unfolding slots_in
  value-is (Accumulator k) h = rw amounts_are
  value-is (Counter k) h = count-is (k - 1) (omega arith)

  -- THE SAME SELECTION
  pub selected_alike : (file : List ℕ) (n : ℕ) (d : List ℕ) → selection_of file n d held ≡ selection_of file n d read
  unfolding slots_in
  selected_alike file n d =
      (only-tested file n d held read tested
      (λ x t. value-is x (subst (λ (y : Slot). number_of y ≤ 4) t.names.2 (to-four _)))).0

  pub chosen_alike : (choice : Choice) (whose : CardFamily) (start : Start) → Chosen choice whose held start → Chosen choice whose read start
  chosen_alike by_name whose start h = h
  chosen_alike (by_file file entries) cpa start h = (h.0, h.1 ∙ selected_alike file entries h.0)
  chosen_alike (by_file file entries) cpace start h = (h.0, h.1 ∙ selected_alike file entries (start.interface ∷ h.0))
