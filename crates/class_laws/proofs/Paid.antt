-- What a paper adds is within bounds: no approval above MAX, and no more of them than bytes. Assumes nothing.
use mathlib.Core.Path.{◌≡◌, refl, sym, ap, subst, ◌∙◌}
use mathlib.Core.Bool.{Bool, true, false, cond, ◌&&◌, ◌||◌}
use mathlib.Core.List.{List, [], ◌∷◌, ◌++◌}
use Prim.Native.Nat.{ℕ, zero, suc, ◌+◌, ◌*◌, ◌≤◌}
use native.Mathlib.Omega.{arith}
use borrow.Author.Tests.{leb-true, ltb-false}
use lib.Dec.{eqb, ltb, leb}
use lib.ListN.{length, length-append}
use Rattle.wire.specs.Wire.{byte, is_currency}
use Rattle.money.specs.Money.{max}
use Rattle.refusal.specs.declared.Refusal.TheVariants.{OutOfTurn, BadType, OutOfRange, NotADay, Unreadable}
use Rattle.refusal.specs.Refusal.{refusal_number}
use Rattle.rules.specs.Rules.{Rules, rules_of, blank_words}
use Rattle.rules.specs.declared.Place.{Place}
use Rattle.shape.specs.declared.Shape.{Shape}
use Rattle.paper.specs.declared.Next.{Next}
use Rattle.paper.specs.declared.Next.TheVariants.{Record, Fault, End as PaperEnd}
use Rattle.paper.specs.Paper.{next_at, latest, setup_in, open_paper}
use Rattle.paper.specs.Walk.{part}
use Rattle.command.specs.declared.First.{First}
use Rattle.command.specs.declared.Command.{Command}
use Rattle.command.specs.declared.Command.TheVariants.{Start as StartCommand, First as FirstCommand, Second as SecondCommand}
use Rattle.command.specs.Command.{command_in}
use Rattle.state.specs.declared.Answer.{Answer}
use Rattle.state.specs.declared.Answer.TheVariants.{Refused, Started, Given, Done}
use Rattle.state.specs.declared.Kind.{Kind}
use Rattle.state.specs.declared.Kind.TheVariants.{Aac, Tc, Arqc}
use Rattle.state.specs.declared.Phase.{Phase}
use Rattle.state.specs.declared.Phase.TheVariants.{Idle, Opened, Asked}
use Rattle.state.specs.declared.State.{State}
use Rattle.state.specs.declared.Outcome.{Outcome}
use Rattle.state.specs.Ruling.{Ruling, refuse, take, carried}
use Rattle.card.specs.Card.{is_dated, rule_first_fields, rule_first, first_step, step_of}
use Rattle.first.specs.First.{first_performed}
use Rattle.records.specs.declared.Said.{Said}
use Rattle.records.specs.declared.Said.TheVariants.{Command as SaidCommand, Script}
use Rattle.records.specs.declared.Event.{Event}
use Rattle.records.specs.declared.Event.TheVariants.{SetUp, End, Refused as EndRefused, Answered}
use Rattle.records.specs.Records.{answered_by, scripted_by, is_script, record_taken}
use Rattle.script.specs.Script.{rules_after}
use Rattle.setup.specs.Setup.{is_accepted, read_setup}
use Rattle.shape.specs.Shape.{base_part, tail_part, family_part, shape_of, shape_at}
use Rattle.begun.specs.declared.Begun.{Begun}
use Rattle.begun.specs.Begun.{set_up_event, base_begun, past_begun}
use Rattle.opening.specs.Opening.{log_judged, logged_begun, shaped_begun, setup_begun, opened_begun, begun_of, words_begun}
use Rattle.conversation.specs.Conversation.{next_taken, taken_of, taken_writes}
use Rattle.conversation.specs.Events.{following, events_from, events_of}
use Rattle.tallies.specs.declared.Sale.{Sale}
use Rattle.tallies.specs.Tallies.{Tally, answered, refused, approved, kind_number, is_approval, cryptogram_tallies, answer_tallies}
use Rattle.sales.specs.Sales.{is_offline, is_given, command_sale, sale_by, no_sale, tallies_from}
use Rattle.class_sheet.specs.ClassSheet.{paper_tallies}
use Rattle.sheet_laws.specs.Class.{total}
use Rattle.sheet_laws.proofs.Totals.{total_append}
use Rattle.sheet_laws.proofs.Bounds.{approvals_of, Payable, AllPayable, none_paid, more_paid}
use Rattle.std.specs.Prelude.{Err, Ok, Result}
use Rattle.log_tail.specs.declared.Fault.{Fault as LogFault}
use Rattle.log_tail.specs.declared.Fault.TheVariants.{PastData}
use Rattle.log_tail.specs.declared.Fault.TheVariants.{Wrong}
use Rattle.paper.specs.declared.Opened.{Opened as OpenedPaper}
use Rattle.refusal.specs.declared.Refusal.{Refusal}

-- ---- a First that a cryptogram answers asks at most MAX

never : ◌≡◌ {A = Bool} false true → ⊥
never e = let z : ◌≡◌ {A = ℕ} 0 1 = cc in omega arith

module _ (rules : Rules) (state : State) (first : First) where
  fields : (place : Place) (typed least coded dated : Bool) → leb first.amount.0 max ≡ least
      → is_given (carried state (first_performed rules state first)
      (cond typed (refuse BadType) (cond (least && coded) (cond dated (take place) (refuse NotADay)) (refuse OutOfRange)))).answer ≡ true
      → first.amount.0 ≤ max
  fields place true least coded dated e given = absurd (never given)
  fields place false true coded dated e given = leb-true first.amount.0 max e
  fields place false false coded dated e given = absurd (never given)

  by-phase : (phase : Phase) → is_given (carried state (first_performed rules state first) (rule_first phase first)).answer ≡ true → first.amount.0 ≤ max
  by-phase Idle given = absurd (never given)
  by-phase (Opened place) given =
      fields place (ltb 2 first.requested) (leb first.amount.0 max) (is_currency first.currency) (is_dated first.when) refl given
  by-phase (Asked pending) given = absurd (never given)

  pub first-most : is_given (first_step rules state first).answer ≡ true → first.amount.0 ≤ max
  unfolding first_step
  first-most given = by-phase state.phase given

-- ---- of every event

abbrev CommandPaid : Command → Answer → Type 0
CommandPaid (StartCommand start) answer = Unit
CommandPaid (FirstCommand first) answer = is_given answer ≡ true → first.amount.0 ≤ max
CommandPaid (SecondCommand second) answer = Unit

abbrev SaidPaid : Said → Answer → Type 0
SaidPaid (SaidCommand command) answer = CommandPaid command answer
SaidPaid Script answer = Unit

abbrev EventPaid : Event → Type 0
EventPaid SetUp = Unit
EventPaid End = Unit
EventPaid (EndRefused refusal) = Unit
EventPaid (Answered said answer) = SaidPaid said answer

module _ (rules : Rules) (shape : Shape) (state : State) (paper : List ℕ) where
  step_paid : (command : Command) → CommandPaid command (step_of rules state command).answer
  unfolding step_of
  step_paid (StartCommand start) = tt
  step_paid (FirstCommand first) = first-most rules state first
  step_paid (SecondCommand second) = tt

  answered_paid : (end : ℕ) (read : Result Command Refusal) → EventPaid (answered_by rules state end read).event
  unfolding answered_by
  answered_paid end (Err refusal) = tt
  answered_paid end (Ok command) = step_paid command

  script_paid : (body : List ℕ) (end : ℕ) → EventPaid (scripted_by state body end).event
  unfolding scripted_by
  script_paid [] end = tt
  script_paid (result ∷ template) end = tt

  record_paid : (scripted : Bool) (body : List ℕ) (end : ℕ) (read : Result Command Refusal)
      → EventPaid (cond scripted (scripted_by state body end) (answered_by rules state end read)).event
  record_paid true body end read = script_paid body end
  record_paid false body end read = answered_paid end read

  next_paid : (at : ℕ) (next : Next) → EventPaid (next_taken rules shape state paper at next).event
  next_paid at PaperEnd = tt
  next_paid at Fault = tt
  next_paid at (Record kind start end) =
      record_paid (is_script shape kind) (part paper start end) end (command_in shape state.values paper kind (part paper start end))

  taken_paid : (at : ℕ) → EventPaid (taken_of rules shape state paper at).event
  unfolding taken_of
  taken_paid at = next_paid at (next_at paper at)

-- ---- what so many events add

pub record Within (count : ℕ) (tallies : List Tally) : Type 0 where
  pub paid : AllPayable tallies
  pub sales : total approvals_of tallies ≤ count
  pub size : length tallies ≤ 2 * count

pub paid_append : {s t : List Tally} → AllPayable s → AllPayable t → AllPayable (s ++ t)
paid_append none_paid q = q
paid_append (more_paid p ps) q = more_paid p (paid_append ps q)

within_more : {n : ℕ} {s t : List Tally} → Within 1 s → Within n t → Within (suc n) (s ++ t)
within_more {s = s} {t = t} v w =
    record {
      paid = paid_append v.paid w.paid;
      sales = omega (arith, total_append approvals_of s t, v.sales, w.sales);
      size = omega (arith, length-append s t, v.size, w.size);
    }

within_none : (count : ℕ) → Within count []
unfolding total
within_none count = record { paid = none_paid; sales = omega arith; size = omega arith }

within-counted : (tally : Tally) → Payable tally → approvals_of tally ≡ 0 → Within 1 (tally ∷ [])
unfolding total
within-counted tally paid none = record { paid = more_paid paid none_paid; sales = omega arith; size = omega arith }

module _ (sale : Sale) (paid : sale.amount ≤ max) where
  within-cryptogram : (approves : Bool) (profile kind : ℕ)
      → Within 1 (answered profile kind ∷ cond approves (approved sale.currency sale.amount ∷ []) [])
  unfolding total
  within-cryptogram true profile kind =
      record { paid = more_paid tt (more_paid paid none_paid); sales = omega arith; size = omega arith }
  within-cryptogram false profile kind = record { paid = more_paid tt none_paid; sales = omega arith; size = omega arith }

  within-answer : (offline : Bool) (answer : Answer) → Within 1 (answer_tallies offline sale answer)
  unfolding answer_tallies
  within-answer offline (Refused refusal) = within-counted (refused (refusal_number refusal)) tt refl
  within-answer offline (Started atc visits) = within_none 1
  within-answer offline (Given kind atc iad) = within-cryptogram (is_approval offline kind) iad.profile (kind_number kind)
  within-answer offline Done = within_none 1

data AllPaid : List Event → Type 0 where
  no_event : AllPaid []
  an_event : {event : Event} {more : List Event} → EventPaid event → AllPaid more → AllPaid (event ∷ more)

sale_paid : (said : Said) (answer : Answer) (before : Sale) → SaidPaid said answer → before.amount ≤ max → (sale_by said answer before).amount ≤ max
unfolding sale_by
sale_paid (SaidCommand (StartCommand start)) answer before paid h = h
sale_paid (SaidCommand (FirstCommand first)) answer before paid h = by (is_given answer) refl where
  by : (given : Bool) → is_given answer ≡ given
      → (cond given (record { amount = first.amount.0; currency = first.currency }) before).amount ≤ max
  by true e = paid e
  by false e = h
sale_paid (SaidCommand (SecondCommand second)) answer before paid h = h
sale_paid Script answer before paid h = h

events-within : (events : List Event) (before : Sale) → before.amount ≤ max → AllPaid events → Within (length events) (tallies_from before events)
unfolding tallies_from
events-within [] before h no_event = within_none 0
events-within (SetUp ∷ more) before h (an_event p rest) = within_more (within_none 1) (events-within more before h rest)
events-within (End ∷ more) before h (an_event p rest) = within_more (within_none 1) (events-within more before h rest)
events-within (EndRefused refusal ∷ more) before h (an_event p rest) =
    within_more (within-counted (refused (refusal_number refusal)) tt refl) (events-within more before h rest)
events-within (Answered said answer ∷ more) before h (an_event p rest) =
    let sale = sale_by said answer before in
    let paid = sale_paid said answer before p h in
    within_more (within-answer sale paid (is_offline said) answer) (events-within more sale paid rest)

-- ---- of a paper

following_paid : (event : Event) {more : List Event} → EventPaid event → AllPaid more → AllPaid (following event more)
following_paid SetUp p rest = an_event p rest
following_paid End p rest = no_event
following_paid (EndRefused refusal) p rest = an_event p no_event
following_paid (Answered said answer) p rest = an_event p rest

from_paid : (n : ℕ) (rules : Rules) (shape : Shape) (state : State) (paper : List ℕ) (at : ℕ) → AllPaid (events_from n rules shape state paper at)
unfolding events_from
from_paid zero rules shape state paper at = no_event
from_paid (suc n) rules shape state paper at =
    let taken = taken_of rules shape state paper at in
    following_paid taken.event (taken_paid rules shape state paper at)
    (from_paid n (rules_after rules (taken_writes shape state paper at)) shape taken.state paper taken.at)

following-most : (event : Event) (more : List Event) → length (following event more) ≤ suc (length more)
following-most SetUp more = omega arith
following-most End more = omega arith
following-most (EndRefused refusal) more = omega arith
following-most (Answered said answer) more = omega arith

from-most : (n : ℕ) (rules : Rules) (shape : Shape) (state : State) (paper : List ℕ) (at : ℕ) → length (events_from n rules shape state paper at) ≤ n
unfolding events_from
from-most zero rules shape state paper at = omega arith
from-most (suc n) rules shape state paper at =
    let taken = taken_of rules shape state paper at in
    let rest = events_from n (rules_after rules (taken_writes shape state paper at)) shape taken.state paper taken.at in
    omega (
      arith,
      following-most taken.event rest,
      from-most n (rules_after rules (taken_writes shape state paper at)) shape taken.state paper taken.at,
    )

-- its first event is no answer
logged_paid : (judged : Result Unit LogFault) (accepted : Bool) (end : ℕ) (begun : Begun) → EventPaid begun.event
    → EventPaid (logged_begun judged accepted end begun).event
unfolding past_begun
logged_paid (Ok done) accepted end begun h = h
logged_paid (Err Wrong) accepted end begun h = tt
logged_paid (Err PastData) accepted end begun h = tt

answer_paid : (answer : Result Unit Refusal) → EventPaid (set_up_event answer)
answer_paid (Ok done) = tt
answer_paid (Err refusal) = tt

shaped_paid : (body : List ℕ) (place end : ℕ) (read : Result Shape Refusal) → EventPaid (shaped_begun body place end read).event
unfolding base_begun
shaped_paid body place end (Err refusal) = tt
shaped_paid body place end (Ok shape) =
    let base = base_part shape body in
    let cycles = tail_part shape.dating body in
    let family = family_part shape.family body in
    logged_paid (log_judged shape body) (is_accepted base cycles family shape.unnamed) end (base_begun (shape_at place shape) base cycles family end)
    (answer_paid (read_setup base cycles family (shape_at place shape).unnamed).answer)

opened_paid : (paper : List ℕ) (opened : Result OpenedPaper Refusal) → EventPaid (opened_begun paper opened).event
unfolding setup_begun
opened_paid paper (Err refusal) = tt
opened_paid paper (Ok opened) = shaped_paid (part paper opened.start opened.end) opened.start opened.end (shape_of opened.version (part paper opened.start opened.end))

begun_paid : (paper : List ℕ) → EventPaid (begun_of paper).event
unfolding begun_of
begun_paid paper = opened_paid paper (open_paper paper)

-- EVERY AMOUNT that a paper adds is at most MAX
pub paper_paid : (paper : List ℕ) → AllPayable (paper_tallies paper)
unfolding paper_tallies events_of
paper_paid paper =
    let begun = begun_of paper in
    let rules = rules_of (words_begun blank_words paper) in
    let more = from_paid (length paper) rules begun.shape begun.state paper begun.at in
    (events-within (following begun.event (events_from (length paper) rules begun.shape begun.state paper begun.at)) no_sale (omega arith)
    (following_paid begun.event (begun_paid paper) more)
    ).paid

opened_as : (paper : List ℕ) {opened : Result OpenedPaper Refusal} → open_paper paper ≡ opened → begun_of paper ≡ opened_begun paper opened
unfolding begun_of
opened_as paper e = ap (opened_begun paper) e

-- AND NO PAPER adds more than 65,537 approvals
wider : {m n : ℕ} {tallies : List Tally} → m ≤ n → Within m tallies → Within n tallies
wider h w = record { paid = w.paid; sales = omega (arith, w.sales); size = omega (arith, w.size) }

too_long_lem : (paper : List ℕ) → ltb 65536 (length paper) ≡ true → open_paper paper ≡ Err Unreadable
unfolding open_paper
too_long_lem paper e = by (eqb (length paper) 0) where
  by : (empty : Bool)
      → cond (empty || ltb 65536 (length paper) || eqb (byte paper 0) 0 || ltb latest (byte paper 0)) (Err Unreadable)
      (setup_in (byte paper 0) (next_at paper 1)) ≡ Err Unreadable
  by true = refl
  by false = rw e

pub paper-within : (paper : List ℕ) → Within 65_537 (paper_tallies paper)
unfolding paper_tallies events_of
paper-within paper = by (ltb 65536 (length paper)) refl where
  rules : Rules
  rules = rules_of (words_begun blank_words paper)

  more : Begun → List Event
  more begun = events_from (length paper) rules begun.shape begun.state paper begun.at

  all : (begun : Begun) → EventPaid begun.event
      → Within (length (following begun.event (more begun))) (tallies_from no_sale (following begun.event (more begun)))
  all begun h =
      events-within (following begun.event (more begun)) no_sale (omega arith)
      (following_paid begun.event h (from_paid (length paper) rules begun.shape begun.state paper begun.at))

  by : (long : Bool) → ltb 65536 (length paper) ≡ long → Within 65_537 (tallies_from no_sale (following (begun_of paper).event (more (begun_of paper))))
  by true e =
      let refused-first : begun_of paper ≡ opened_begun paper (Err Unreadable) = opened_as paper (too_long_lem paper e) in
      subst (λ b. Within 65_537 (tallies_from no_sale (following b.event (more b)))) (sym refused-first)
      (wider (omega arith) (all (opened_begun paper (Err Unreadable)) tt))
  by false e =
      let short = ltb-false 65536 (length paper) e in
      let begun = begun_of paper in
      wider
      (omega (arith, following-most begun.event (more begun), from-most (length paper) rules begun.shape begun.state paper begun.at))
      (all begun (begun_paid paper))
