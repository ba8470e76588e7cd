-- A loop over the records: what is counted and what is still to come is all that the paper adds. Assumes nothing.
use mathlib.Core.Path.{◌≡◌, sym, ap, ap₂, subst, ◌∙◌}
use mathlib.Core.Bool.{Bool, ◌&&◌}
use mathlib.Core.List.{List, [], ◌∷◌, ◌++◌}
use Prim.Native.Nat.{ℕ, ◌-◌, ◌≤◌, ◌<◌}
use native.Mathlib.Omega.{arith}
use lib.ListN.{length}
use Rattle.rules.specs.Rules.{rules_of}
use Rattle.shape.specs.declared.Shape.{Shape}
use Rattle.script.specs.Script.{rules_after}
use Rattle.state.specs.declared.Answer.{Answer}
use Rattle.state.specs.declared.State.{State}
use Rattle.records.specs.declared.Said.{Said}
use Rattle.records.specs.declared.Taken.{Taken}
use Rattle.records.specs.declared.Event.{Event}
use Rattle.records.specs.declared.Event.TheVariants.{Answered}
use Rattle.conversation.specs.Conversation.{taken_of, taken_writes}
use Rattle.conversation.proofs.Events.{GoesOn, further}
use Rattle.tallies.specs.declared.Sale.{Sale}
use Rattle.tallies.specs.Tallies.{Tally, answer_tallies, all_fit, all_tallied}
use Rattle.tallies.proofs.Tallies.{Took, and_true, and_assoc, tallied-on, fit_on}
use Rattle.sales.specs.Sales.{is_offline, sale_by}
use Rattle.class_sheet.specs.ClassSheet.{end_tallies}
use Rattle.class_sheet.proofs.Steps.{rest_of, end_fits}
use Rattle.class_sheet.proofs.Steps as Steps

-- by the words as they are: what the records from the place on add to the sheet as it is
pub record Going (words : List ℕ) (shape : Shape) (paper : List ℕ) (whole : List Tally) (before sheet : List ℕ) (state : State) (at : ℕ) (sale : Sale)
    (fits : Bool) : Type 0 where
  pub fit : all_fit before whole ≡ fits && all_fit sheet (rest_of (rules_of words) shape state paper at sale)
  pub counts : all_tallied before whole ≡ all_tallied sheet (rest_of (rules_of words) shape state paper at sale)

module _ {words : List ℕ} {shape : Shape} {paper : List ℕ} {whole : List Tally} {before sheet : List ℕ} {state : State} {at : ℕ} {sale : Sale} {fits : Bool}
    (going : Going words shape paper whole before sheet state at sale fits) where
  abbrev taken : Taken
  taken = taken_of (rules_of words) shape state paper at

  -- an answer is counted, and the next record is reached
  pub go_on : (words' : List ℕ) → rules_of words' ≡ rules_after (rules_of words) (taken_writes shape state paper at) → (said : Said) (answer : Answer)
      → at < length paper → taken.event ≡ Answered said answer → (offline : Bool) → offline ≡ is_offline said
      → (next : Sale) → next ≡ sale_by said answer sale → (more : Bool) (after : List ℕ) → Took sheet (answer_tallies offline next answer) more after
      → Going words' shape paper whole before after taken.state taken.at next (fits && more)
  go_on words' w said answer h e offline o next n more after took =
      let rest = rest_of (rules_of words') shape taken.state paper taken.at next in
      let adds = answer_tallies offline next answer in
      let all : rest_of (rules_of words) shape state paper at sale ≡ adds ++ rest =
      Steps.answered (rules_of words) shape state paper at sale h said answer e ∙ rw (o, n, w) in
      record {
        fit =
            going.fit
            ∙ ap (λ t. fits && all_fit sheet t) all
            ∙ ap (λ b. fits && b) (fit_on sheet adds rest)
            ∙ sym (and_assoc fits (all_fit sheet adds) (all_fit (all_tallied sheet adds) rest))
            ∙ ap₂ (λ b s. fits && b && all_fit s rest) (sym took.0) (sym took.1);
        counts =
            going.counts ∙ ap (λ t. all_tallied sheet t) all ∙ tallied-on sheet adds rest ∙ ap (λ s. all_tallied s rest) (sym took.1);
      }

  pub falls : (said : Said) (answer : Answer) → at < length paper → taken.event ≡ Answered said answer
      → length paper - taken.at < length paper - at
  falls said answer h e =
      let f = further shape paper (rules_of words) state at (subst GoesOn (sym e) tt) in omega (arith, f.0, f.1)

  abbrev Whole : (after : List ℕ) → Type 0
  Whole after = Took before whole fits after

  -- a record that is not answered is the last
  pub last-is : (event : Event) → at < length paper → taken.event ≡ event → ((said : Said) (answer : Answer) → event ≡ Answered said answer → ⊥)
      → (after : List ℕ) → after ≡ all_tallied sheet (end_tallies event) → Whole after
  last-is event h e k after a =
      let rest = Steps.ended (rules_of words) shape state paper at sale h event e k in (
        sym
            (going.fit
            ∙ ap (λ t. fits && all_fit sheet t) rest
            ∙ ap (λ b. fits && b) (end_fits sheet event)
            ∙ and_true fits),
        a ∙ ap (λ t. all_tallied sheet t) (sym rest) ∙ sym going.counts,
      )

  -- nothing is left
  pub over : length paper ≤ at → Whole sheet
  unfolding all_fit all_tallied
  over h =
      let rest = Steps.over (rules_of words) shape state paper at sale h in (
        sym (going.fit ∙ ap (λ t. fits && all_fit sheet t) rest ∙ and_true fits),
        ap (λ t. all_tallied sheet t) (sym rest) ∙ sym going.counts,
      )
