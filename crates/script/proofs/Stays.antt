-- What writes leave alone, and of two to one slot the last. Assumes nothing.
use mathlib.Core.Path.{◌≡◌, refl, ap, ◌∙◌}
use mathlib.Core.Logic.{◌≢◌}
use mathlib.Core.Bool.{Bool, true, false}
use mathlib.Core.List.{List, [], ◌∷◌, ◌++◌, foldl, foldl-append}
use Prim.Native.Nat.{ℕ, ◌≤◌, ◌<◌}
use native.Mathlib.Omega.{arith}
use borrow.Author.Tests.{eqb-true, eqb-false, ltb-true, ltb-false}
use lib.Dec.{ltb, eqb}
use lib.ListN.{length, get_or, length-set}
use lib.Seq.{get_or-set_same, get_or-set_other}
use Rattle.money.specs.declared.AccumulatorAmount.{AccumulatorAmount}
use Rattle.rules.specs.declared.Place.{Place}
use Rattle.rules.specs.declared.AccumulatorRule.{AccumulatorRule}
use Rattle.rules.specs.declared.CounterRule.{CounterRule}
use Rattle.rules.specs.declared.Values.{Values}
use Rattle.rules.specs.Rules.{Rules, accumulator_rule, counter_rule}
use Rattle.rules.specs.Limits.{accumulator_within, counter_within, with_accumulator_limits, with_counter_limits}
use Rattle.rules.proofs.Limits.{Whole, Stays, accumulator_limited, counter_limited}
use Rattle.element.specs.declared.Write.{Write}
use Rattle.element.specs.declared.Write.TheVariants.{Value, AccumulatorLimits, CounterLimits}
use Rattle.cursor.specs.Cursor.{commands_of}
use Rattle.marks.specs.declared.Scripts.{Scripts}
use Rattle.script.specs.Script.{value_in, values_with, rules_with, values_after, rules_after, count_of, template_tried, ran_of, rules_run}
use Rattle.script.proofs.Laws.{count-below}

abbrev pub All : (Write → Type 0) → List Write → Type 0
All P [] = Unit
All P (w ∷ ws) = P w × All P ws

-- what each write keeps, all of them keep
module _ {A : Type 0} (one : A → Write → A) where
  part_stays : {B : Type 0} (part : A → B) (P : Write → Type 0) → ((a : A) (w : Write) → P w → part (one a w) ≡ part a)
      → (ws : List Write) → All P ws → (a : A) → part (foldl one a ws) ≡ part a
  part_stays part P same [] h a = refl
  part_stays part P same (w ∷ ws) h a = part_stays part P same ws h.1 (one a w) ∙ same a w h.0

  holds : (Q : A → Type 0) → ((a : A) (w : Write) → Q a → Q (one a w)) → (ws : List Write) (a : A) → Q a → Q (foldl one a ws)
  holds Q more [] a q = q
  holds Q more (w ∷ ws) a q = holds Q more ws (one a w) (more a w q)

-- ---- VALUES: only those of accumulators are written
same-counters : (v : Values) (w : Write) → (values_with v w).counters ≡ v.counters
unfolding value_in
same-counters v (Value slot amount) = refl
same-counters v (AccumulatorLimits slot lower upper) = refl
same-counters v (CounterLimits slot lower upper) = refl

same-cyclic : (v : Values) (w : Write) → (values_with v w).cyclic ≡ v.cyclic
unfolding value_in
same-cyclic v (Value slot amount) = refl
same-cyclic v (AccumulatorLimits slot lower upper) = refl
same-cyclic v (CounterLimits slot lower upper) = refl

same_length : (v : Values) (w : Write) → length (values_with v w).accumulators ≡ length v.accumulators
unfolding value_in
same_length v (Value slot amount) = length-set v.accumulators slot _
same_length v (AccumulatorLimits slot lower upper) = refl
same_length v (CounterLimits slot lower upper) = refl

-- a write of another value
abbrev pub OtherValue : (i : ℕ) → Write → Type 0
OtherValue i (Value slot amount) = i ≢ slot
OtherValue i (AccumulatorLimits slot lower upper) = Unit
OtherValue i (CounterLimits slot lower upper) = Unit

module _ (i : ℕ) (d : AccumulatorAmount) where
  same-value : (v : Values) (w : Write) → OtherValue i w → get_or (values_with v w).accumulators i d ≡ get_or v.accumulators i d
  unfolding value_in
  same-value v (Value slot amount) h = get_or-set_other v.accumulators slot i _ d h
  same-value v (AccumulatorLimits slot lower upper) h = refl
  same-value v (CounterLimits slot lower upper) h = refl

module _ (v : Values) (ws : List Write) where
  pub counters_stay : (values_after v ws).counters ≡ v.counters
  counters_stay = holds values_with (λ x. x.counters ≡ v.counters) (λ x w q. same-counters x w ∙ q) ws v refl

  pub cyclic_stays : (values_after v ws).cyclic ≡ v.cyclic
  cyclic_stays = holds values_with (λ x. x.cyclic ≡ v.cyclic) (λ x w q. same-cyclic x w ∙ q) ws v refl

  pub as_many : length (values_after v ws).accumulators ≡ length v.accumulators
  as_many = holds values_with (λ x. length x.accumulators ≡ length v.accumulators) (λ x w q. same_length x w ∙ q) ws v refl

  -- a slot that is not named
  pub value_stays : (i : ℕ) (d : AccumulatorAmount) → All (OtherValue i) ws → get_or (values_after v ws).accumulators i d ≡ get_or v.accumulators i d
  value_stays i d h = part_stays values_with (λ x. get_or x.accumulators i d) (OtherValue i) (same-value i d) ws h v

  -- what is written last counts
  pub last-value : (i : ℕ) (amount d : AccumulatorAmount) (rest : List Write) → i < length v.accumulators → All (OtherValue i) rest
      → get_or (values_after v (ws ++ (Value i amount ∷ rest))).accumulators i d ≡ amount
  unfolding value_in
  last-value i amount d rest h others =
      let x = values_after v ws in
      ap (λ y. get_or y.accumulators i d) (foldl-append values_with v ws (Value i amount ∷ rest))
      ∙ part_stays values_with (λ y. get_or y.accumulators i d) (OtherValue i) (same-value i d) rest others (value_in x i amount)
      ∙ get_or-set_same x.accumulators i amount d (omega (arith, as_many))

-- ---- RULES: only limits are written
pub stays_refl : (r : Rules) → Stays r r
stays_refl r =
    record {
      key = refl;
      pin = refl;
      required = refl;
      currency = λ i. refl;
      rates = refl;
      number = λ p. refl;
      masks = λ p. refl;
      maximum = λ p. refl;
      sent = λ p. refl;
      found = λ n. refl;
      cycle = λ i. refl;
      cyclic = λ p i. refl;
      control = λ i. refl;
      cashback = λ p. refl;
    }

pub stays_trans : (q r s : Rules) → Stays q r → Stays r s → Stays q s
stays_trans q r s a b =
    record {
      key = b.key ∙ a.key;
      pin = b.pin ∙ a.pin;
      required = b.required ∙ a.required;
      currency = λ i. b.currency i ∙ a.currency i;
      rates = b.rates ∙ a.rates;
      number = λ p. b.number p ∙ a.number p;
      masks = λ p. b.masks p ∙ a.masks p;
      maximum = λ p. b.maximum p ∙ a.maximum p;
      sent = λ p. b.sent p ∙ a.sent p;
      found = λ n. b.found n ∙ a.found n;
      cycle = λ i. b.cycle i ∙ a.cycle i;
      cyclic = λ p i. b.cyclic p i ∙ a.cyclic p i;
      control = λ i. b.control i ∙ a.control i;
      cashback = λ p. b.cashback p ∙ a.cashback p;
    }

one_stays : (r : Rules) (w : Write) → Stays r (rules_with r w)
one_stays r (Value slot amount) = stays_refl r
one_stays r (AccumulatorLimits slot lower upper) = (accumulator_limited r slot lower upper).stays
one_stays r (CounterLimits slot lower upper) = (counter_limited r slot lower upper).stays

one-whole : (r : Rules) (w : Write) → Whole r → Whole (rules_with r w)
one-whole r (Value slot amount) h = h
one-whole r (AccumulatorLimits slot lower upper) h = (accumulator_limited r slot lower upper).whole h
one-whole r (CounterLimits slot lower upper) h = (counter_limited r slot lower upper).whole h

-- a write of other limits
abbrev pub OtherAccumulator : (i : ℕ) → Write → Type 0
OtherAccumulator i (Value slot amount) = Unit
OtherAccumulator i (AccumulatorLimits slot lower upper) = i ≢ slot
OtherAccumulator i (CounterLimits slot lower upper) = Unit

abbrev pub OtherCounter : (i : ℕ) → Write → Type 0
OtherCounter i (Value slot amount) = Unit
OtherCounter i (AccumulatorLimits slot lower upper) = Unit
OtherCounter i (CounterLimits slot lower upper) = i ≢ slot

module _ (place : Place) (i : ℕ) where
  same-accumulator : (r : Rules) (w : Write) → OtherAccumulator i w → accumulator_rule (rules_with r w) place i ≡ accumulator_rule r place i
  same-accumulator r (Value slot amount) h = refl
  same-accumulator r (AccumulatorLimits slot lower upper) h = (accumulator_limited r slot lower upper).others place i h
  same-accumulator r (CounterLimits slot lower upper) h = (counter_limited r slot lower upper).apart place i

  same-counter : (r : Rules) (w : Write) → OtherCounter i w → counter_rule (rules_with r w) place i ≡ counter_rule r place i
  same-counter r (Value slot amount) h = refl
  same-counter r (AccumulatorLimits slot lower upper) h = (accumulator_limited r slot lower upper).apart place i
  same-counter r (CounterLimits slot lower upper) h = (counter_limited r slot lower upper).others place i h

-- but for its limits a rule is as it was, one that is named too
named : {A : Type 0} (part : Rules → A) (i slot : ℕ) (r after : Rules) → (i ≢ slot → part after ≡ part r) → (i ≡ slot → slot < 4 → part after ≡ part r)
    → (4 ≤ slot → after ≡ r)
    → part after ≡ part r
named part i slot r after other this none = by (eqb i slot) (ltb slot 4) refl refl where
  by : (same there : Bool) → eqb i slot ≡ same → ltb slot 4 ≡ there → part after ≡ part r
  by false there e f = other (eqb-false i slot e)
  by true true e f = this (eqb-true i slot e) (ltb-true slot 4 f)
  by true false e f = ap part (none (ltb-false slot 4 f))

module _ (lower upper : AccumulatorAmount) (place : Place) (i : ℕ) where
  abbrev accumulator_in : Rules → AccumulatorRule
  accumulator_in r = accumulator_within lower upper (accumulator_rule r place i)

  accumulator_but : (r : Rules) → Whole r → (w : Write) → accumulator_in (rules_with r w) ≡ accumulator_in r
  accumulator_but r whole (Value slot amount) = refl
  accumulator_but r whole (CounterLimits slot l u) = ap (accumulator_within lower upper) ((counter_limited r slot l u).apart place i)
  accumulator_but r whole (AccumulatorLimits slot l u) =
      named accumulator_in i slot r (with_accumulator_limits r slot l u)
      (λ h. ap (accumulator_within lower upper) ((accumulator_limited r slot l u).others place i h))
      (λ e h. rw e (ap (accumulator_within lower upper) ((accumulator_limited r slot l u).there whole h place)))
      ((accumulator_limited r slot l u).none whole)

module _ (lower upper : ℕ) (place : Place) (i : ℕ) where
  abbrev counter_in : Rules → CounterRule
  counter_in r = counter_within lower upper (counter_rule r place i)

  counter_but : (r : Rules) → Whole r → (w : Write) → counter_in (rules_with r w) ≡ counter_in r
  counter_but r whole (Value slot amount) = refl
  counter_but r whole (AccumulatorLimits slot l u) = ap (counter_within lower upper) ((accumulator_limited r slot l u).apart place i)
  counter_but r whole (CounterLimits slot l u) =
      named counter_in i slot r (with_counter_limits r slot l u)
      (λ h. ap (counter_within lower upper) ((counter_limited r slot l u).others place i h))
      (λ e h. rw e (ap (counter_within lower upper) ((counter_limited r slot l u).there whole h place)))
      ((counter_limited r slot l u).none whole)

whole_part : {A : Type 0} (part : Rules → A) → ((r : Rules) → Whole r → (w : Write) → part (rules_with r w) ≡ part r) → (r : Rules) → Whole r
    → (ws : List Write) → part (rules_after r ws) ≡ part r
whole_part part same r whole ws =
    (holds rules_with (λ x. Whole x × (part x ≡ part r)) (λ x w q. (one-whole x w q.0, same x q.0 w ∙ q.1)) ws r (whole, refl)).1

module _ (r : Rules) (ws : List Write) where
  -- masks, MTA, currencies, rates and the rest
  pub rules_stay : Stays r (rules_after r ws)
  rules_stay = holds rules_with (Stays r) (λ x w q. stays_trans r x (rules_with x w) q (one_stays x w)) ws r (stays_refl r)

  pub rules-whole : Whole r → Whole (rules_after r ws)
  rules-whole = holds rules_with Whole one-whole ws r

  module _ (place : Place) (i : ℕ) where
    -- slots that are not named
    pub accumulator_stays_put : All (OtherAccumulator i) ws → accumulator_rule (rules_after r ws) place i ≡ accumulator_rule r place i
    accumulator_stays_put h = part_stays rules_with (λ x. accumulator_rule x place i) (OtherAccumulator i) (same-accumulator place i) ws h r

    pub counter_stays_put : All (OtherCounter i) ws → counter_rule (rules_after r ws) place i ≡ counter_rule r place i
    counter_stays_put h = part_stays rules_with (λ x. counter_rule x place i) (OtherCounter i) (same-counter place i) ws h r

    -- switches
    pub accumulator_as_was : Whole r → (lower upper : AccumulatorAmount)
        → accumulator_within lower upper (accumulator_rule (rules_after r ws) place i) ≡ accumulator_within lower upper (accumulator_rule r place i)
    accumulator_as_was whole lower upper = whole_part (accumulator_in lower upper place i) (accumulator_but lower upper place i) r whole ws

    pub counter_as_was : Whole r → (lower upper : ℕ)
        → counter_within lower upper (counter_rule (rules_after r ws) place i) ≡ counter_within lower upper (counter_rule r place i)
    counter_as_was whole lower upper = whole_part (counter_in lower upper place i) (counter_but lower upper place i) r whole ws

    -- what is written last counts, in every profile
    pub last-accumulator : (lower upper : AccumulatorAmount) (rest : List Write) → Whole r → i < 4 → All (OtherAccumulator i) rest
        → accumulator_rule (rules_after r (ws ++ (AccumulatorLimits i lower upper ∷ rest))) place i ≡ accumulator_within lower upper (accumulator_rule (rules_after r ws) place i)
    last-accumulator lower upper rest whole h others =
        let x = rules_after r ws in
        ap (λ y. accumulator_rule y place i) (foldl-append rules_with r ws (AccumulatorLimits i lower upper ∷ rest))
        ∙ part_stays rules_with (λ y. accumulator_rule y place i) (OtherAccumulator i) (same-accumulator place i) rest others (with_accumulator_limits x i lower upper)
        ∙ (accumulator_limited x i lower upper).there (rules-whole whole) h place

    pub last-counter : (lower upper : ℕ) (rest : List Write) → Whole r → i < 4 → All (OtherCounter i) rest
        → counter_rule (rules_after r (ws ++ (CounterLimits i lower upper ∷ rest))) place i ≡ counter_within lower upper (counter_rule (rules_after r ws) place i)
    last-counter lower upper rest whole h others =
        let x = rules_after r ws in
        ap (λ y. counter_rule y place i) (foldl-append rules_with r ws (CounterLimits i lower upper ∷ rest))
        ∙ part_stays rules_with (λ y. counter_rule y place i) (OtherCounter i) (same-counter place i) rest others (with_counter_limits x i lower upper)
        ∙ (counter_limited x i lower upper).there (rules-whole whole) h place

-- ---- A TEMPLATE, whatever its bytes
module _ (scripts : Scripts) (verified : Bool) (template : List ℕ) where
  pub run-counters : (v : Values) → (ran_of v scripts verified template).values.counters ≡ v.counters
  unfolding ran_of
  run-counters v = counters_stay v (template_tried verified scripts template).writes

  pub run-cyclic : (v : Values) → (ran_of v scripts verified template).values.cyclic ≡ v.cyclic
  unfolding ran_of
  run-cyclic v = cyclic_stays v (template_tried verified scripts template).writes

  pub run-count : (v : Values) → count_of scripts < 16 → count_of (ran_of v scripts verified template).scripts < 16
  unfolding ran_of template_tried
  run-count v h = count-below verified (commands_of template) scripts h

  pub run-rules : (r : Rules) → Stays r (rules_run r scripts verified template)
  unfolding rules_run
  run-rules r = rules_stay r (template_tried verified scripts template).writes

  pub run-whole : (r : Rules) → Whole r → Whole (rules_run r scripts verified template)
  unfolding rules_run
  run-whole r = rules-whole r (template_tried verified scripts template).writes
