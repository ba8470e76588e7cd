-- Demand 1: every command gets an answer, in its kind; its number is the first that applies; a refusal leaves the card as it was.
-- Assumes nothing.
use mathlib.Core.Path.{◌≡◌, refl, sym, ap, subst, ◌∙◌}
use mathlib.Core.Bool.{Bool, true, false, cond, ◌&&◌}
use mathlib.Core.List.{List}
use Prim.Native.Nat.{ℕ, ◌≤◌, ◌<◌}
use native.Mathlib.Nat.{le_antisymm}
use native.Mathlib.Omega.{arith}
use borrow.Author.Tests.{ltb-true, ltb-false, leb-true, leb-false, eqb-true, eqb-false}
use lib.Dec.{leb, ltb, eqb}
use Rattle.wire.specs.Wire.{is_currency}
use Rattle.money.specs.Money.{max}
use Rattle.refusal.specs.declared.Refusal.{Refusal}
use Rattle.refusal.specs.declared.Refusal.TheVariants.{BadSetup, OutOfTurn, UnknownProfile, AtcUsedUp, BadType, OutOfRange, RoomTooSmall, NotAnIad}
use Rattle.refusal.specs.declared.Refusal.TheVariants.{Unreadable, BadRate, BadMta, NotSelected, NotADay, PastData, TooManyCurrencies, TooManyPapers, NoRoomForAnswers, Malformed, TooDeep}
use Rattle.refusal.specs.Refusal.{refusal_number}
use Rattle.calendar.proofs.Dates.{calendar_days}
use Rattle.ranges.proofs.Accepted.{Currency, currency}
use Rattle.rules.specs.declared.Place.{Place}
use Rattle.rules.specs.Rules.{Rules, index_of, find_profile}
use Rattle.selection.specs.Selection.{profile_of, visits_of}
use Rattle.command.specs.declared.Start.{Start}
use Rattle.command.specs.declared.First.{First}
use Rattle.command.specs.declared.Second.{Second}
use Rattle.object.specs.Object.{read_template, reading_number}
use Rattle.trees.specs.Tree.{Fault, malformed, too_deep, inside, TemplateFault, unframed, framed}
use Rattle.trees.proofs.Faults.{fault_if_first, first_if_fault}
use Rattle.auditor.specs.Template.{Bytes}
use Rattle.card.specs.Message.{Message, StartCommand, FirstCommand, SecondCommand, ScriptCommand, message_step}
use Rattle.state.specs.declared.Answer.{Answer}
use Rattle.state.specs.declared.Answer.TheVariants.{Refused, Started, Given, Done}
use Rattle.state.specs.declared.Pending.{Pending}
use Rattle.state.specs.declared.Phase.{Phase}
use Rattle.state.specs.declared.Phase.TheVariants.{Idle, Opened, Asked}
use Rattle.state.specs.declared.State.{State}
use Rattle.state.specs.declared.Outcome.{Outcome}
use Rattle.first.specs.First.{first_performed}
use Rattle.second.specs.Second.{second_performed}
use Rattle.state.specs.Ruling.{Ruling, refuse, take, carried}
use Rattle.card.specs.Card.{rule_start, rule_chosen, rule_opening, is_dated, rule_first, rule_second, start_performed, start_step}
use Rattle.scripting.specs.Scripting.{rule_reading, rule_script_fields, rule_script, script_performed, script_step}
use Rattle.card.specs.Card.{first_step, second_step, answer_number}
use Rattle.demands.proofs.Found.{Holds, Known, known, below-four}
use Rattle.demands.specs.Setup.{Setup, AcceptedSetup}
use Rattle.demands.specs.Conversation.{rules_by, sat, next, IsSpoken, Spoken, is_accepted}
use Rattle.demands.specs.Audit.{in_force}
use Rattle.demands.specs.Past.{atc_by}
use Rattle.demands.specs.Due.{Due, a_first, a_second, due, due_in, InKind}
use Rattle.demands.proofs.Step.{Did, refused_it, started_it, took_first, took_second, took_script, did}
use Rattle.demands.proofs.Run.{always_ruled}
use Rattle.demands.proofs.Bytes.{fits, number_in, number_out}
use Rattle.demands.proofs.Ends.{accepted_in_kind, first_concludes, second-closes, due-is}
use Rattle.demands.proofs.Past.{atc}
use Rattle.demands.specs.Rows.{InSetup, InRules, NoStart, NoArqc, IsFirst, Unselected, NoDay, ScriptRow, first-due, no_result, at-fault}
use Rattle.demands.specs.Rows.{StartRow, no_interface, not_selected, not_in_setup, used_up, FirstRow, no_start, type_three}
use Rattle.demands.specs.Rows.{above-max, not_digits, not_a_day, SecondRow, no_arqc, type_two, issuer_data, Applies, rank, Numbered, done, refused}
use Rattle.std.specs.Prelude.{Err, None, Ok, Option, Result, Some}
use Rattle.calendar.specs.declared.Date.{Date}
use Rattle.object.specs.declared.Fault.{Fault as ReadFault}
use Rattle.object.specs.declared.Fault.TheVariants.{Malformed as NoTemplate, TooDeep as DeepTemplate}
use Rattle.selection.specs.declared.Selected.{Selected}

-- what is taken is answered, and no answer to it is a refusal
record Taken (outcome : Outcome) : Type 0 where
  is : is_accepted outcome.answer ≡ true

taken : (command : Message) {outcome : Outcome} → InKind command outcome.answer → Taken outcome
taken command k = record { is = accepted_in_kind command _ k }

-- ---- a ruling refuses with the first number that applies, and takes where none does

abbrev First-of : Message → (ℕ → Type 0) → ℕ → Type 0
First-of command applies n = applies n × ((m : ℕ) → rank command m < rank command n → applies m → ⊥)

abbrev Ruled : Message → {A : Type 0} → (ℕ → Type 0) → Ruling A → Type 0
Ruled command applies (refuse refusal) = First-of command applies (refusal_number refusal)
Ruled command applies (take what) = (m : ℕ) → applies m → ⊥

pub never : false ≡ true → ⊥
never e = let z : ◌≡◌ {A = ℕ} 0 1 = cc in omega arith

pub in_rules : (rules : Rules) (number : ℕ) (place : Place) → Holds rules number place → InRules rules number
in_rules rules number place h = record { index = index_of place; below = below-four place; some = h.some; its = h.its }

module _ (rules : Rules) (atc : ℕ) (start : Start) where
  abbrev Row : ℕ → Type 0
  Row = StartRow (InRules rules) atc start

  abbrev place_of : ℕ → ℕ
  place_of = rank (StartCommand start)

  -- of Start no row comes before 12 where its interface is in range, before 3 none where a profile was selected, before 4 none where it is known
  start-least : {m : ℕ} → Row m → start.interface ≤ 1
      → (1 ≤ place_of m)
      × ((Unselected start.chosen → ⊥) → (3 ≤ place_of m) × (InRules rules (profile_of start.chosen) → 4 ≤ place_of m))
  start-least (no_interface n h) i = absurd (omega arith)
  start-least (not_selected n h) i = (omega (arith, ap place_of n), λ selected. absurd (selected h))
  start-least (not_in_setup n h) i = (omega (arith, ap place_of n), λ selected. (omega (arith, ap place_of n), λ there. absurd (h there)))
  start-least (used_up n h) i = (omega (arith, ap place_of n), λ selected. (omega (arith, ap place_of n), λ there. omega (arith, ap place_of n)))

  module _ (near : start.interface ≤ 1) where
    opening_ruled : (Unselected start.chosen → ⊥) → (found : Option Place) → Known rules (profile_of start.chosen) found
        → Ruled (StartCommand start) Row (rule_opening atc found)
    opening_ruled selected None missing = (
      not_in_setup refl (λ i. missing i.some i.index i.below i.its),
      λ m l row. omega (arith, ((start-least row near).1 selected).0),
    )
    opening_ruled selected (Some place) holds = by (eqb atc 65535) refl where
      there : InRules rules (profile_of start.chosen)
      there = in_rules rules (profile_of start.chosen) place holds

      by : (b : Bool) → eqb atc 65535 ≡ b → Ruled (StartCommand start) Row (cond b (refuse AtcUsedUp) (take place))
      by true e = (used_up refl (eqb-true _ _ e), λ m l row. omega (arith, ((start-least row near).1 selected).1 there))
      by false e =
          λ m.
          elim [
            | no_interface n h ↦ omega arith
            | not_selected n h ↦ selected h
            | not_in_setup n h ↦ h there
            | used_up n h ↦ eqb-false _ _ e h
          ]

    chosen_ruled : (chosen : Option Selected) → start.chosen ≡ chosen → Ruled (StartCommand start) Row (rule_chosen rules atc chosen)
    chosen_ruled None is = (not_selected refl (subst Unselected (sym is) tt), λ m l row. omega (arith, (start-least row near).0))
    chosen_ruled (Some chosen) is =
        subst (λ c. Ruled (StartCommand start) Row (rule_opening atc (find_profile rules (profile_of c)))) is
        (opening_ruled (λ h. subst Unselected is h) (find_profile rules (profile_of start.chosen)) (known rules (profile_of start.chosen)))

  start_ruled : Ruled (StartCommand start) Row (rule_start rules atc start)
  start_ruled = by (ltb 1 start.interface) refl where
    by : (b : Bool) → ltb 1 start.interface ≡ b
        → Ruled (StartCommand start) Row (cond b (refuse OutOfRange) (rule_chosen rules atc start.chosen))
    by true e = (no_interface refl (ltb-true _ _ e), λ m l. absurd (omega arith))
    by false e = chosen_ruled (ltb-false _ _ e) start.chosen refl

-- a date is one of the almanac's days or none
day-there : (when : Option Date) → is_dated when ≡ true → NoDay when → ⊥
day-there None e none = none
day-there (Some date) e none = let (n, l, is) = (calendar_days date).0 e in none n l is

no_day : (when : Option Date) → is_dated when ≡ false → NoDay when
no_day None e = absurd (never (sym e))
no_day (Some date) e = λ n l is. never (sym e ∙ (calendar_days date).1 (n, l, is))

-- of First no row is numbered below 2; below 5 none where a Start is open, below 6 none where its type is in range too, and below 13 none
-- where its fields are
record Fielded (first : First) : Type 0 where
  type : first.requested ≤ 2
  amount : first.amount.0 ≤ max
  digits : Currency first.currency

first-least : {due : Due} {first : First} {m : ℕ} → FirstRow due first m
    → (2 ≤ m) × ((NoStart due → ⊥) → (5 ≤ m) × (first.requested ≤ 2 → 6 ≤ m) × (Fielded first → 13 ≤ m))
first-least (no_start n h) = (omega arith, λ begun. absurd (begun h))
first-least (type_three n h) = (omega arith, λ begun. (omega arith, λ t. omega arith, λ f. omega (arith, f.type)))
first-least (above-max n h) = (omega arith, λ begun. (omega arith, λ t. omega arith, λ f. omega (arith, f.amount)))
first-least (not_digits n h) = (omega arith, λ begun. (omega arith, λ t. omega arith, λ f. absurd (h f.digits)))
first-least (not_a_day n h) = (omega arith, λ begun. (omega arith, λ t. omega arith, λ f. omega arith))

first_ruled : (phase : Phase) (first : First) → Ruled (FirstCommand first) (FirstRow (due_in phase) first) (rule_first phase first)
first_ruled Idle first = (no_start refl tt, λ m l row. omega (arith, (first-least row).0))
first_ruled (Asked pending) first = (no_start refl tt, λ m l row. omega (arith, (first-least row).0))
first_ruled (Opened place) first = by_type (ltb 2 first.requested) refl where
  opened : ⊥ → ⊥
  opened none = none

  by-day : Fielded first → (d : Bool) → is_dated first.when ≡ d → Ruled (FirstCommand first) (FirstRow a_first first) (cond d (take place) (refuse NotADay))
  by-day f true e =
      λ m.
      elim [
        | no_start n h ↦ h
        | type_three n h ↦ omega (arith, f.type)
        | above-max n h ↦ omega (arith, f.amount)
        | not_digits n h ↦ h f.digits
        | not_a_day n h ↦ day-there first.when e h
      ]
  by-day f false e = (not_a_day refl (no_day first.when e), λ m l row. omega (arith, ((first-least row).1 opened).2 f))

  by-currency : first.requested ≤ 2 → first.amount.0 ≤ max → (c : Bool) → is_currency first.currency ≡ c
      → Ruled (FirstCommand first) (FirstRow a_first first) (cond c (cond (is_dated first.when) (take place) (refuse NotADay)) (refuse OutOfRange))
  by-currency t a true e = by-day (record { type = t; amount = a; digits = (currency first.currency).0 e }) (is_dated first.when) refl
  by-currency t a false e =
      (not_digits refl (λ c. never (sym e ∙ (currency first.currency).1 c)), λ m l row. omega (arith, ((first-least row).1 opened).1 t))

  by-amount : first.requested ≤ 2 → (a : Bool) → leb first.amount.0 max ≡ a
      → Ruled (FirstCommand first) (FirstRow a_first first)
      (cond (a && is_currency first.currency) (cond (is_dated first.when) (take place) (refuse NotADay)) (refuse OutOfRange))
  by-amount t true e = by-currency t (leb-true _ _ e) (is_currency first.currency) refl
  by-amount t false e = (above-max refl (leb-false _ _ e), λ m l row. omega (arith, ((first-least row).1 opened).1 t))

  by_type : (b : Bool) → ltb 2 first.requested ≡ b → Ruled (FirstCommand first) (FirstRow a_first first)
      (cond b (refuse BadType) (cond (leb first.amount.0 max && is_currency first.currency)
      (cond (is_dated first.when) (take place) (refuse NotADay)) (refuse OutOfRange)))
  by_type true e = (type_three refl (ltb-true _ _ e), λ m l row. omega (arith, ((first-least row).1 opened).0))
  by_type false e = by-amount (ltb-false _ _ e) (leb first.amount.0 max) refl

-- of Second likewise
second-least : {due : Due} {second : Second} {m : ℕ} → SecondRow due second m
    → (2 ≤ m) × ((NoArqc due → ⊥) → 5 ≤ m) × ((NoArqc due → ⊥) → second.requested ≤ 1 → 6 ≤ m)
second-least (no_arqc n h) = (omega arith, λ begun. absurd (begun h), λ begun t. absurd (begun h))
second-least (type_two n h) = (omega arith, λ begun. omega arith, λ begun t. omega arith)
second-least (issuer_data n h) = (omega arith, λ begun. omega arith, λ begun t. omega arith)

second_ruled : (phase : Phase) (second : Second) → Ruled (SecondCommand second) (SecondRow (due_in phase) second) (rule_second phase second)
second_ruled Idle second = (no_arqc refl tt, λ m l row. omega (arith, (second-least row).0))
second_ruled (Opened place) second = (no_arqc refl tt, λ m l row. omega (arith, (second-least row).0))
second_ruled (Asked pending) second = by_type (ltb 1 second.requested) refl where
  by_issuer : second.requested ≤ 1 → (b : Bool) → ltb 2 second.issuer ≡ b
      → Ruled (SecondCommand second) (SecondRow a_second second) (cond b (refuse OutOfRange) (take pending))
  by_issuer t true e = (issuer_data refl (ltb-true _ _ e), λ m l row. omega (arith, (second-least row).2 (λ none. none) t))
  by_issuer t false e =
      let i = ltb-false 2 second.issuer e in
      λ m. elim [ no_arqc n h ↦ h | type_two n h ↦ omega arith | issuer_data n h ↦ omega arith ]

  by_type : (b : Bool) → ltb 1 second.requested ≡ b
      → Ruled (SecondCommand second) (SecondRow a_second second) (cond b (refuse BadType) (cond (ltb 2 second.issuer) (refuse OutOfRange) (take pending)))
  by_type true e = (type_two refl (ltb-true _ _ e), λ m l row. omega (arith, (second-least row).1 (λ none. none)))
  by_type false e = by_issuer (ltb-false _ _ e) (ltb 2 second.issuer) refl

-- of a script likewise: a template's fault is the one that is read
list-fault : {k n : ℕ} {s : List ℕ} → Fault k n s → 18 ≤ n
list-fault (malformed i w e g d x) = omega arith
list-fault (too_deep i t f v r e g d x h) = omega arith
list-fault (inside i t f v r e g d x h within) = list-fault within

some-fault : {n : ℕ} {s : List ℕ} → TemplateFault n s → 18 ≤ n
some-fault (unframed h) = omega arith
some-fault (framed b f v h within) = list-fault within

script-least : {due : Due} {result : ℕ} {template : List ℕ} {m : ℕ} → ScriptRow due result template m
    → (2 ≤ m) × ((IsFirst due → ⊥) → (6 ≤ m) × (result ≤ 1 → TemplateFault m template))
script-least (first-due n h) = (omega arith, λ closed. absurd (closed h))
script-least (no_result n h) = (omega arith, λ closed. (omega arith, λ small. absurd (omega arith)))
script-least (at-fault f) = let h = some-fault f in (omega arith, λ closed. (omega arith, λ small. f))

module _ (due : Due) (closed : IsFirst due → ⊥) (result : ℕ) (template : List ℕ) (bytes : Bytes template) where
  reading_ruled : result ≤ 1 → (verified : Bool) (reading : Result Unit ReadFault) → read_template template ≡ reading
      → Ruled (ScriptCommand result template) (ScriptRow due result template) (rule_reading verified reading)
  reading_ruled small verified (Ok sound) is =
      λ m row.
      let f = fault_if_first (((script-least row).1 closed).1 small) bytes in
      f.1 (sym f.0 ∙ ap reading_number is)
  reading_ruled small verified (Err NoTemplate) is = (
    at-fault (first_if_fault 18 template bytes (ap reading_number is) (λ z. omega arith)),
    λ m l row. omega (arith, some-fault (((script-least row).1 closed).1 small)),
  )
  reading_ruled small verified (Err DeepTemplate) is = (
    at-fault (first_if_fault 19 template bytes (ap reading_number is) (λ z. omega arith)),
    λ m l row. omega (arith, (fault_if_first (((script-least row).1 closed).1 small) bytes).0, ap reading_number is),
  )

  fields_ruled : Ruled (ScriptCommand result template) (ScriptRow due result template) (rule_script_fields result template)
  fields_ruled = by (ltb 1 result) refl where
    by : (b : Bool) → ltb 1 result ≡ b
        → Ruled (ScriptCommand result template) (ScriptRow due result template)
        (cond b (refuse OutOfRange) (rule_reading (eqb result 1) (read_template template)))
    by true e = (no_result refl (ltb-true _ _ e), λ m l row. omega (arith, ((script-least row).1 closed).0))
    by false e = reading_ruled (ltb-false _ _ e) (eqb result 1) (read_template template) refl

script_ruled : (phase : Phase) (result : ℕ) (template : List ℕ) → Bytes template
    → Ruled (ScriptCommand result template) (ScriptRow (due_in phase) result template) (rule_script phase result template)
script_ruled Idle result template bytes = fields_ruled (due_in Idle) (λ none. none) result template bytes
script_ruled (Opened place) result template bytes = (first-due refl tt, λ m l row. omega (arith, (script-least row).0))
script_ruled (Asked pending) result template bytes = fields_ruled a_second (λ none. none) result template bytes

-- ---- what a ruling carries

module _ (rules : Rules) (state : State) (command : Message) {A : Type 0} (perform : A → Outcome) (answers : (what : A) → Taken (perform what)) where
  number_of : (answer : Answer) → is_accepted answer ≡ true → answer_number answer ≡ 0
  number_of (Refused refusal) e = absurd (never e)
  number_of (Started atc visits) e = refl
  number_of (Given kind atc iad) e = refl
  number_of Done e = refl

  numbers : (ruling : Ruling A) → Ruled command (Applies (InRules rules) state.atc (due_in state.phase) command) ruling
      → Numbered (InRules rules) state.atc (due_in state.phase) command (answer_number (carried state perform ruling).answer)
  numbers (refuse refusal) h = refused h.0 h.1
  numbers (take what) h = done (number_of (perform what).answer (answers what).is) h

  keeps : (ruling : Ruling A) (refusal : Refusal) → (carried state perform ruling).answer ≡ Refused refusal → (carried state perform ruling).state ≡ state
  keeps (refuse r) refusal e = refl
  keeps (take what) refusal e = absurd (never (sym (ap is_accepted e) ∙ (answers what).is))

module _ (rules : Rules) (state : State) where
  start-taken : (start : Start) (place : Place) → Taken (start_performed state (visits_of start.chosen) place)
  start-taken start place = record { is = refl }

  first_taken_lem : (first : First) (place : Place) → Taken (first_performed rules state first place)
  first_taken_lem first place = taken (FirstCommand first) (first_concludes rules state first place).in_kind

  second-taken : (second : Second) (pending : Pending) → Taken (second_performed rules state second pending)
  second-taken second pending = taken (SecondCommand second) (second-closes rules state second pending).in_kind

  script-taken : (template : List ℕ) (verified : Bool) → Taken (script_performed state template verified)
  unfolding script_performed
  script-taken template verified = record { is = refl }

-- A REFUSAL LEAVES THE CARD AS IT WAS
pub refusal_keeps : (rules : Rules) (state : State) (command : Message) (refusal : Refusal)
    → (message_step rules state command).answer ≡ Refused refusal → (message_step rules state command).state ≡ state
unfolding message_step start_step first_step second_step script_step
refusal_keeps rules state (StartCommand start) =
    keeps rules state (StartCommand start) (start_performed state (visits_of start.chosen)) (start-taken rules state start)
    (rule_start rules state.atc start)
refusal_keeps rules state (FirstCommand first) =
    keeps rules state (FirstCommand first) (first_performed rules state first) (first_taken_lem rules state first) (rule_first state.phase first)
refusal_keeps rules state (SecondCommand second) =
    keeps rules state (SecondCommand second) (second_performed rules state second) (second-taken rules state second) (rule_second state.phase second)
refusal_keeps rules state (ScriptCommand result template) =
    keeps rules state (ScriptCommand result template) (script_performed state template) (script-taken rules state template)
    (rule_script state.phase result template)

-- THE NUMBER OF AN ANSWER IS THE FIRST THAT APPLIES, 0 WHERE NONE DOES: of any rules and any state, by its own ATC and phase
pub numbered_by_state : (rules : Rules) (state : State) (command : Message) → IsSpoken command
    → Numbered (InRules rules) state.atc (due_in state.phase) command (answer_number (message_step rules state command).answer)
unfolding message_step start_step first_step second_step script_step
numbered_by_state rules state (StartCommand start) spoken =
    numbers rules state (StartCommand start) (start_performed state (visits_of start.chosen)) (start-taken rules state start)
    (rule_start rules state.atc start) (start_ruled rules state.atc start)
numbered_by_state rules state (FirstCommand first) spoken =
    numbers rules state (FirstCommand first) (first_performed rules state first) (first_taken_lem rules state first) (rule_first state.phase first)
    (first_ruled state.phase first)
numbered_by_state rules state (SecondCommand second) spoken =
    numbers rules state (SecondCommand second) (second_performed rules state second) (second-taken rules state second) (rule_second state.phase second)
    (second_ruled state.phase second)
numbered_by_state rules state (ScriptCommand result template) spoken =
    numbers rules state (ScriptCommand result template) (script_performed state template) (script-taken rules state template)
    (rule_script state.phase result template) (script_ruled state.phase result template spoken)

-- ---- the profiles of the rules are those of the bytes

module _ (setup : Setup) (good : AcceptedSetup setup) where
  pub in_bytes : (number : ℕ) → InRules (rules_by setup) number → InSetup setup number
  in_bytes number r =
      let n = number_in setup good r.index number r.below r.some r.its in
      record { index = r.index; there = n.0; its = n.1 }

  of_bytes : (number : ℕ) → InSetup setup number → InRules (rules_by setup) number
  of_bytes number i =
      let below : i.index < 4 = omega (arith, i.there, (fits good).profiles-most) in
      let its = i.its in
      record {
        index = i.index;
        below = below;
        some = omega (arith, ((fits good).profiles i.index i.there).number-least);
        its = number_out setup good i.index number below i.there its;
      }

-- rows over the same profiles
module _ (P Q : ℕ → Type 0) (atc : ℕ) (due : Due) where
  row : ((n : ℕ) → Q n → P n) → (command : Message) (n : ℕ) → Applies P atc due command n → Applies Q atc due command n
  row from (StartCommand start) n =
      elim [
        | no_interface e h ↦ no_interface e h
        | not_selected e h ↦ not_selected e h
        | not_in_setup e h ↦ not_in_setup e (λ q. h (from _ q))
        | used_up e h ↦ used_up e h
      ]
  row from (FirstCommand first) n = λ a. a
  row from (SecondCommand second) n = λ a. a
  row from (ScriptCommand result template) n = λ a. a

same_rows : (P Q : ℕ → Type 0) → ((n : ℕ) → P n → Q n) → ((n : ℕ) → Q n → P n) → (atc : ℕ) (due : Due) (command : Message) (n : ℕ)
    → Numbered P atc due command n → Numbered Q atc due command n
same_rows P Q to from atc due command n (done e f) = done e (λ m a. f m (row Q P atc due to command m a))
same_rows P Q to from atc due command n (refused a f) = refused (row P Q atc due from command n a) (λ m l b. f m l (row Q P atc due to command m b))

-- THE NUMBER OF EVERY ANSWER, over every list of commands, is the first that applies, 0 where none does: by the profiles in the set-up's bytes,
-- the ATC and what is due, as the conversation says
pub numbered : (setup : Setup) → AcceptedSetup setup → (commands : List Message) → Spoken commands → (command : Message) → IsSpoken command
    → Numbered (InSetup (in_force setup (sat setup commands).log)) (atc_by setup (sat setup commands).log) (due (sat setup commands).log) command
    (answer_number (next setup commands command).answer)
numbered setup good commands spoken command bytes =
    let sitting = sat setup commands in
    let now = in_force setup sitting.log in
    let ruled = always_ruled setup good commands spoken in
    let number = answer_number (next setup commands command).answer in
    subst (λ atc. Numbered (InSetup now) atc (due sitting.log) command number) (atc setup good commands spoken)
    (subst (λ d. Numbered (InSetup now) sitting.state.atc d command number) (due-is (rules_by setup) setup commands)
    (same_rows (InRules sitting.rules) (InSetup now)
    (λ n i. in_bytes now ruled.good n (subst (λ rules. InRules rules n) ruled.rules-are i))
    (λ n i. subst (λ rules. InRules rules n) (sym ruled.rules-are) (of_bytes now ruled.good n i))
    _ _ command _ (numbered_by_state sitting.rules sitting.state command bytes)))

-- A COMMAND THAT IS TAKEN IS ANSWERED IN ITS KIND
pub in_kind : (rules : Rules) (state : State) (command : Message) → answer_number (message_step rules state command).answer ≡ 0
    → InKind command (message_step rules state command).answer
unfolding script_performed
in_kind rules state command = by (did rules state command) where
  some_refusal : (refusal : Refusal) → refusal_number refusal ≡ 0 → ⊥
  some_refusal BadSetup e = omega arith
  some_refusal OutOfTurn e = omega arith
  some_refusal UnknownProfile e = omega arith
  some_refusal AtcUsedUp e = omega arith
  some_refusal BadType e = omega arith
  some_refusal OutOfRange e = omega arith
  some_refusal RoomTooSmall e = omega arith
  some_refusal NotAnIad e = omega arith
  some_refusal Unreadable e = omega arith
  some_refusal BadRate e = omega arith
  some_refusal BadMta e = omega arith
  some_refusal NotSelected e = omega arith
  some_refusal NotADay e = omega arith
  some_refusal PastData e = omega arith
  some_refusal TooManyCurrencies e = omega arith
  some_refusal TooManyPapers e = omega arith
  some_refusal NoRoomForAnswers e = omega arith
  some_refusal Malformed e = omega arith
  some_refusal TooDeep e = omega arith

  by : {command : Message} {outcome : Outcome} → Did rules state command outcome → answer_number outcome.answer ≡ 0 → InKind command outcome.answer
  by (refused_it refusal wrote) e = absurd (some_refusal refusal e)
  by (started_it start place holds) e = tt
  by (took_first first place is type small day) e = (first_concludes rules state first place).in_kind
  by (took_second second pending is type issuer) e = (second-closes rules state second pending).in_kind
  by (took_script result template sound wrote) e = tt

-- no row has a number below 2, and two that stand alike in the order are one
module _ (Known : ℕ → Type 0) (atc : ℕ) (due : Due) where
  some_number : (command : Message) (n : ℕ) → Applies Known atc due command n → 1 < n
  some_number (StartCommand start) n =
      elim [ no_interface e h ↦ omega arith | not_selected e h ↦ omega arith | not_in_setup e h ↦ omega arith | used_up e h ↦ omega arith ]
  some_number (FirstCommand first) n =
      elim [
        | no_start e h ↦ omega arith
        | type_three e h ↦ omega arith
        | above-max e h ↦ omega arith
        | not_digits e h ↦ omega arith
        | not_a_day e h ↦ omega arith
      ]
  some_number (SecondCommand second) n = elim [ no_arqc e h ↦ omega arith | type_two e h ↦ omega arith | issuer_data e h ↦ omega arith ]
  some_number (ScriptCommand result template) n = λ row. omega (arith, (script-least row).0)

one_rank : (command : Message) (n m : ℕ) → 1 < n → 1 < m → rank command n ≡ rank command m → n ≡ m
one_rank (StartCommand start) n m h k = by (eqb n 6) refl (eqb n 12) refl (eqb m 6) refl (eqb m 12) refl where
  by : (a : Bool) → eqb n 6 ≡ a → (b : Bool) → eqb n 12 ≡ b → (c : Bool) → eqb m 6 ≡ c → (d : Bool) → eqb m 12 ≡ d
      → cond a 0 (cond b 1 n) ≡ cond c 0 (cond d 1 m) → n ≡ m
  by true p b q true r d s e = eqb-true n 6 p ∙ sym (eqb-true m 6 r)
  by false p true q false r true s e = eqb-true n 12 q ∙ sym (eqb-true m 12 s)
  by false p false q false r false s e = e
  by true p b q false r true s e = omega arith
  by true p b q false r false s e = omega arith
  by false p true q true r d s e = omega arith
  by false p true q false r false s e = omega arith
  by false p false q true r d s e = omega arith
  by false p false q false r true s e = omega arith
one_rank (FirstCommand first) n m h k = λ e. e
one_rank (SecondCommand second) n m h k = λ e. e
one_rank (ScriptCommand result template) n m h k = λ e. e

-- AND NO OTHER NUMBER IS
pub only-number : (Known : ℕ → Type 0) (atc : ℕ) (due : Due) (command : Message) (n m : ℕ)
    → Numbered Known atc due command n → Numbered Known atc due command m → n ≡ m
only-number Known atc due command n m (done p f) (done q g) = p ∙ sym q
only-number Known atc due command n m (done p f) (refused a g) = absurd (f m a)
only-number Known atc due command n m (refused a f) (done q g) = absurd (g n a)
only-number Known atc due command n m (refused a f) (refused b g) =
    by (ltb (rank command n) (rank command m)) refl (ltb (rank command m) (rank command n)) refl
  where
    by : (x : Bool) → ltb (rank command n) (rank command m) ≡ x → (y : Bool) → ltb (rank command m) (rank command n) ≡ y → n ≡ m
    by true e y k = absurd (g n (ltb-true _ _ e) a)
    by false e true k = absurd (f m (ltb-true _ _ k) b)
    by false e false k =
        one_rank command n m (some_number Known atc due command n a) (some_number Known atc due command m b)
        (le_antisymm (ltb-false (rank command m) (rank command n) k) (ltb-false (rank command n) (rank command m) e))
