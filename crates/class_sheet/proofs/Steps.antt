-- What a paper adds, record by record. Assumes nothing.
use mathlib.Core.Path.{◌≡◌, refl, sym, ap, subst, ◌∙◌}
use mathlib.Core.Bool.{true}
use mathlib.Core.List.{List, [], ◌∷◌, ◌++◌}
use mathlib.Core.Logic.{inl, inr}
use Prim.Native.Nat.{ℕ, suc, ◌-◌, ◌≤◌, ◌<◌}
use native.Mathlib.Omega.{arith}
use lib.ListN.{length}
use Rattle.rules.specs.Rules.{Rules, blank_words, rules_of}
use Rattle.shape.specs.declared.Shape.{Shape}
use Rattle.script.specs.Script.{rules_after}
use Rattle.state.specs.declared.Answer.{Answer}
use Rattle.state.specs.declared.State.{State}
use Rattle.records.specs.declared.Said.{Said}
use Rattle.records.specs.declared.Taken.{Taken}
use Rattle.records.specs.declared.Event.{Event}
use Rattle.records.specs.declared.Event.TheVariants.{SetUp, End, Refused, Answered}
use Rattle.begun.specs.declared.Begun.{Begun}
use Rattle.opening.specs.Opening.{begun_of, words_begun}
use Rattle.conversation.specs.Conversation.{taken_of, taken_writes}
use Rattle.conversation.specs.Events.{following, events_from, events_of}
use Rattle.conversation.proofs.Events.{GoesOn, further, settled}
use Rattle.transcript.proofs.Steps.{never_set_up, Beginning, accepted, refused, begins}
use Rattle.tallies.specs.declared.Sale.{Sale}
use Rattle.tallies.specs.Tallies.{Tally, answer_tallies, all_fit, all_tallied}
use Rattle.sales.specs.Sales.{is_offline, sale_by, no_sale, tallies_from}
use Rattle.class_sheet.specs.ClassSheet.{paper_tallies, record_tallies, end_tallies}

-- what the records from a place on add, behind a sale
abbrev pub rest_of : Rules → Shape → State → (paper : List ℕ) (at : ℕ) → Sale → List Tally
rest_of rules shape state paper at sale = tallies_from sale (events_from (length paper) rules shape state paper at)

-- the refusal that ends a paper finds room
pub end_fits : (sheet : List ℕ) (event : Event) → all_fit sheet (end_tallies event) ≡ true
unfolding all_fit
end_fits sheet SetUp = refl
end_fits sheet End = refl
end_fits sheet (Refused refusal) = refl
end_fits sheet (Answered said answer) = refl

module _ (rules : Rules) (shape : Shape) (state : State) (paper : List ℕ) (at : ℕ) (sale : Sale) where
  abbrev taken : Taken
  taken = taken_of rules shape state paper at

  abbrev then : Rules
  then = rules_after rules (taken_writes shape state paper at)

  module _ (h : at < length paper) where
    event_first : (event : Event) → taken.event ≡ event
        → rest_of rules shape state paper at sale ≡ tallies_from sale (following event (events_from (length paper - 1) then shape taken.state paper taken.at))
    unfolding events_from
    event_first event e =
        ap (λ n. tallies_from sale (events_from n rules shape state paper at)) (let z : length paper ≡ suc (length paper - 1) = omega arith in z)
        ∙ ap (λ v. tallies_from sale (following v (events_from (length paper - 1) then shape taken.state paper taken.at))) e

    pub answered : (said : Said) (answer : Answer) → taken.event ≡ Answered said answer
        → rest_of rules shape state paper at sale
        ≡ answer_tallies (is_offline said) (sale_by said answer sale) answer ++ rest_of then shape taken.state paper taken.at (sale_by said answer sale)
    unfolding tallies_from
    answered said answer e =
        let goes = further shape paper rules state at (subst GoesOn (sym e) tt) in
        event_first (Answered said answer) e
        ∙ ap (λ more. answer_tallies (is_offline said) (sale_by said answer sale) answer ++ tallies_from (sale_by said answer sale) more)
        (sym (settled shape paper (length paper - 1) (length paper) then taken.state taken.at (omega arith) (omega arith)))

    -- a record that is not answered ends the paper
    pub ended : (event : Event) → taken.event ≡ event → ((said : Said) (answer : Answer) → event ≡ Answered said answer → ⊥)
        → rest_of rules shape state paper at sale ≡ end_tallies event
    unfolding tallies_from
    ended SetUp e k = absurd (never_set_up rules shape state paper at e)
    ended End e k = event_first End e
    ended (Refused refusal) e k = event_first (Refused refusal) e
    ended (Answered said answer) e k = absurd (k said answer refl)

  -- nothing is left
  pub over : length paper ≤ at → rest_of rules shape state paper at sale ≡ []
  unfolding tallies_from events_from
  over h = ap (λ events. tallies_from sale events) (settled shape paper 0 (length paper) rules state at (omega arith) (omega arith))

-- ---- the whole paper

module _ (paper : List ℕ) where
  abbrev begun : Begun
  begun = begun_of paper

  abbrev events : Event → List Event
  events event = following event (events_from (length paper) (rules_of (words_begun blank_words paper)) begun.shape begun.state paper begun.at)

  pub set_up_lem : begun.event ≡ SetUp
      → paper_tallies paper ≡ record_tallies (rules_of (words_begun blank_words paper)) begun.shape begun.state paper begun.at
  unfolding paper_tallies record_tallies events_of tallies_from
  set_up_lem e = ap (λ v. tallies_from no_sale (events v)) e

  -- a set-up that is not taken ends it
  pub not_set_up : (begun.event ≡ SetUp → ⊥) → paper_tallies paper ≡ end_tallies begun.event
  unfolding paper_tallies events_of tallies_from
  not_set_up k = by (begins paper) where
    by : Beginning paper begun → tallies_from no_sale (events begun.event) ≡ end_tallies begun.event
    by (accepted e o) = absurd (k e)
    by (refused refusal e) = ap (λ v. tallies_from no_sale (events v)) e ∙ ap end_tallies (sym e)

  pub whole : {words words' : List ℕ} {begun : Begun} → words ≡ blank_words → words' ≡ words_begun words paper → begun ≡ begun_of paper → begun.event ≡ SetUp
      → record_tallies (rules_of words') begun.shape begun.state paper begun.at ≡ paper_tallies paper
  whole blank kept b e =
      rw (kept, blank, b) (sym (set_up_lem (ap (λ v. v.event) (sym b) ∙ e)))
