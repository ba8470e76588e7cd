-- New limits of an accumulator or a counter: whose they are, what stays, and of two writings the last. Assumes nothing.
use mathlib.Core.Path.{◌≡◌, refl, ap, ◌∙◌}
use mathlib.Core.Logic.{◌≢◌}
use mathlib.Core.List.{List, [], ◌∷◌, map}
use Prim.Native.Nat.{ℕ, zero, suc, ◌≤◌, ◌<◌}
use native.Mathlib.Omega.{arith}
use lib.Dec.{lit<}
use lib.ListN.{length, get_or, set, length-set, length-map}
use lib.Seq.{get_or-set_same, get_or-set_other, set_out}
use Rattle.money.specs.declared.AccumulatorAmount.{AccumulatorAmount}
use Rattle.rules.specs.declared.Place.{Place}
use Rattle.rules.specs.declared.Place.TheVariants.{One, Two, Three, Four}
use Rattle.rules.specs.Rules.{Profile, Rules, profile_of, rules_of, index_of, profile_at, find_profile, blank_profile, blank_accumulator, blank_counter}
use Rattle.rules.specs.Rules.{currency_at, accumulator_rule, counter_rule, cycle_of, cyclic_rule, control_at, checks_cashback}
use Rattle.rules.specs.Limits.{accumulator_within, counter_within, accumulator_limits_in, counter_limits_in, in_each_profile}
use Rattle.rules.specs.Limits.{with_accumulator_limits, with_counter_limits}

-- the rules of a card: four profiles of four accumulators and four counters
pub record Whole (rules : Rules) : Type 0 where
  pub profiles : length rules.profiles ≡ 4
  pub accumulators : (n : ℕ) → length (get_or rules.profiles n blank_profile).accumulators ≡ 4
  pub counters : (n : ℕ) → length (get_or rules.profiles n blank_profile).counters ≡ 4

one_of_four : (P : Profile → Type 0) (a b c d e : Profile) → P a → P b → P c → P d → P e → (n : ℕ) → P (get_or (a ∷ b ∷ c ∷ d ∷ []) n e)
one_of_four P a b c d e first second third fourth none zero = first
one_of_four P a b c d e first second third fourth none (suc zero) = second
one_of_four P a b c d e first second third fourth none (suc (suc zero)) = third
one_of_four P a b c d e first second third fourth none (suc (suc (suc zero))) = fourth
one_of_four P a b c d e first second third fourth none (suc (suc (suc (suc n)))) = none

pub words-whole : (w : List ℕ) → Whole (rules_of w)
unfolding rules_of profile_of
words-whole w =
    record {
      profiles = refl;
      accumulators = one_of_four (λ p. length p.accumulators ≡ 4) _ _ _ _ _ refl refl refl refl refl;
      counters = one_of_four (λ p. length p.counters ≡ 4) _ _ _ _ _ refl refl refl refl refl;
    }

-- what no limits change
pub record Stays (rules after : Rules) : Type 0 where
  pub key : after.key ≡ rules.key
  pub pin : after.pin ≡ rules.pin
  pub required : after.required ≡ rules.required
  pub currency : (i : ℕ) → currency_at after i ≡ currency_at rules i
  pub rates : after.rates ≡ rules.rates
  pub number : (place : Place) → (profile_at after place).number ≡ (profile_at rules place).number
  pub masks : (place : Place) → (profile_at after place).masks ≡ (profile_at rules place).masks
  pub maximum : (place : Place) → (profile_at after place).maximum ≡ (profile_at rules place).maximum
  pub sent : (place : Place) → (profile_at after place).sent ≡ (profile_at rules place).sent
  pub found : (number : ℕ) → find_profile after number ≡ find_profile rules number
  pub cycle : (i : ℕ) → cycle_of after i ≡ cycle_of rules i
  pub cyclic : (place : Place) (i : ℕ) → cyclic_rule after place i ≡ cyclic_rule rules place i
  pub control : (i : ℕ) → control_at after i ≡ control_at rules i
  pub cashback : (place : Place) → checks_cashback after place ≡ checks_cashback rules place

-- after new limits of accumulator or counter i + 1, whose rules these are, and those the other kind's
pub record Limited {A B : Type 0} (rule : Rules → Place → ℕ → A) (other : Rules → Place → ℕ → B) (within : A → A) (i : ℕ) (rules after : Rules) : Type 0 where
  pub there : Whole rules → i < 4 → (place : Place) → rule after place i ≡ within (rule rules place i)
  pub others : (place : Place) (j : ℕ) → j ≢ i → rule after place j ≡ rule rules place j
  pub apart : (place : Place) (j : ℕ) → other after place j ≡ other rules place j
  pub stays : Stays rules after
  pub whole : Whole rules → Whole after
  -- there is no fifth
  pub none : Whole rules → 4 ≤ i → after ≡ rules

-- what a change leaves of every profile
record Kept (change : Profile → Profile) : Type 0 where
  number : (p : Profile) → (change p).number ≡ p.number
  masks : (p : Profile) → (change p).masks ≡ p.masks
  maximum : (p : Profile) → (change p).maximum ≡ p.maximum
  sent : (p : Profile) → (change p).sent ≡ p.sent
  accumulators : (p : Profile) → length (change p).accumulators ≡ length p.accumulators
  counters : (p : Profile) → length (change p).counters ≡ length p.counters

below : (place : Place) → index_of place < 4
below One = lit< tt
below Two = lit< tt
below Three = lit< tt
below Four = lit< tt

module _ (change : Profile → Profile) where
  changed : (ps : List Profile) (n : ℕ) → n < length ps → get_or (map change ps) n blank_profile ≡ change (get_or ps n blank_profile)
  changed [] n h = let z : ⊥ = omega arith in absurd z
  changed (p ∷ ps) zero h = refl
  changed (p ∷ ps) (suc n) h = changed ps n (omega arith)

  unchanged : (ps : List Profile) → ((n : ℕ) → change (get_or ps n blank_profile) ≡ get_or ps n blank_profile) → map change ps ≡ ps
  unchanged [] same = refl
  unchanged (p ∷ ps) same = simp (same 0, unchanged ps (λ n. same (suc n)))

  part-kept : {A : Type 0} (part : Profile → A) → ((p : Profile) → part (change p) ≡ part p) → (ps : List Profile) (n : ℕ)
      → part (get_or (map change ps) n blank_profile) ≡ part (get_or ps n blank_profile)
  part-kept part same [] n = refl
  part-kept part same (p ∷ ps) zero = same p
  part-kept part same (p ∷ ps) (suc n) = part-kept part same ps n

  module _ (rules : Rules) where
    part_at : {A : Type 0} (part : Profile → A) → ((p : Profile) → part (change p) ≡ part p) → (place : Place)
        → part (profile_at (in_each_profile change rules) place) ≡ part (profile_at rules place)
    part_at part same place = part-kept part same rules.profiles (index_of place)

    stay : Kept change → Stays rules (in_each_profile change rules)
    unfolding find_profile
    stay kept =
        let numbered = part_at (λ p. p.number) kept.number in
        record {
          key = refl;
          pin = refl;
          required = refl;
          currency = λ i. refl;
          rates = refl;
          number = numbered;
          masks = part_at (λ p. p.masks) kept.masks;
          maximum = part_at (λ p. p.maximum) kept.maximum;
          sent = part_at (λ p. p.sent) kept.sent;
          found = λ n. simp (numbered One, numbered Two, numbered Three, numbered Four);
          cycle = λ i. refl;
          cyclic = λ place i. refl;
          control = λ i. refl;
          cashback = λ place. refl;
        }

    still_whole : Kept change → Whole rules → Whole (in_each_profile change rules)
    still_whole kept whole =
        record {
          profiles = length-map rules.profiles change ∙ whole.profiles;
          accumulators = λ n. part-kept (λ p. length p.accumulators) kept.accumulators rules.profiles n ∙ whole.accumulators n;
          counters = λ n. part-kept (λ p. length p.counters) kept.counters rules.profiles n ∙ whole.counters n;
        }

  -- where it changes rule i + 1 of a list, and nothing else
  module _ {A B : Type 0} (list : Profile → List A) (blank : A) (other : Profile → List B) (empty : B) (within : A → A) (i : ℕ)
      (is : (p : Profile) → list (change p) ≡ set (list p) i (within (get_or (list p) i blank))) (apart : (p : Profile) → other (change p) ≡ other p)
      (past : (p : Profile) → length (list p) ≤ i → change p ≡ p) (kept : Kept change) (rules : Rules)
      (four : Whole rules → (n : ℕ) → length (list (get_or rules.profiles n blank_profile)) ≡ 4) where
    limited : Limited (λ r place j. get_or (list (profile_at r place)) j blank) (λ r place j. get_or (other (profile_at r place)) j empty) within i rules
        (in_each_profile change rules)
    limited =
        record {
          there = λ whole h place.
              let p = profile_at rules place in
              let here : index_of place < length rules.profiles = omega (arith, below place, whole.profiles) in
              ap (λ (q : Profile). get_or (list q) i blank) (changed rules.profiles (index_of place) here)
              ∙ ap (λ (l : List A). get_or l i blank) (is p)
              ∙ get_or-set_same (list p) i (within (get_or (list p) i blank)) blank (omega (arith, h, four whole (index_of place)));
          others = λ place j h.
              part_at rules (λ p. get_or (list p) j blank)
              (λ p. ap (λ (l : List A). get_or l j blank) (is p) ∙ get_or-set_other (list p) i j (within (get_or (list p) i blank)) blank h) place;
          apart = λ place j. part_at rules (λ p. get_or (other p) j empty) (λ p. ap (λ (l : List B). get_or l j empty) (apart p)) place;
          stays = stay rules kept;
          whole = still_whole rules kept;
          none = λ whole h.
              rw (unchanged rules.profiles (λ n. past (get_or rules.profiles n blank_profile) (omega (arith, h, four whole n))));
        }

pub accumulator_limited : (rules : Rules) (i : ℕ) (lower upper : AccumulatorAmount)
    → Limited accumulator_rule counter_rule (accumulator_within lower upper) i rules (with_accumulator_limits rules i lower upper)
unfolding with_accumulator_limits
accumulator_limited rules i lower upper =
    limited (accumulator_limits_in i lower upper) (λ p. p.accumulators) blank_accumulator (λ p. p.counters) blank_counter (accumulator_within lower upper) i
    (λ p. refl)
    (λ p. refl)
    (λ p h. simp (set_out p.accumulators i))
    (record {
      number = λ p. refl;
      masks = λ p. refl;
      maximum = λ p. refl;
      sent = λ p. refl;
      accumulators = λ p. length-set p.accumulators i _;
      counters = λ p. refl;
    })
    rules
    (λ whole. whole.accumulators)

pub counter_limited : (rules : Rules) (i lower upper : ℕ)
    → Limited counter_rule accumulator_rule (counter_within lower upper) i rules (with_counter_limits rules i lower upper)
unfolding with_counter_limits
counter_limited rules i lower upper =
    limited (counter_limits_in i lower upper) (λ p. p.counters) blank_counter (λ p. p.accumulators) blank_accumulator (counter_within lower upper) i
    (λ p. refl)
    (λ p. refl)
    (λ p h. simp (set_out p.counters i))
    (record {
      number = λ p. refl;
      masks = λ p. refl;
      maximum = λ p. refl;
      sent = λ p. refl;
      accumulators = λ p. refl;
      counters = λ p. length-set p.counters i _;
    })
    rules
    (λ whole. whole.counters)

-- of two changes of rule i + 1, and of every profile, the second, where it undoes the first
twice : {A : Type 0} (d : A) (f g : A → A) → ((x : A) → g (f x) ≡ g x) → (l : List A) (i : ℕ)
    → set (set l i (f (get_or l i d))) i (g (get_or (set l i (f (get_or l i d))) i d)) ≡ set l i (g (get_or l i d))
twice d f g same [] i = refl
twice d f g same (x ∷ l) zero = ap (λ y. y ∷ l) (same x)
twice d f g same (x ∷ l) (suc i) = ap (λ r. x ∷ r) (twice d f g same l i)

last : (f g : Profile → Profile) → ((p : Profile) → g (f p) ≡ g p) → (ps : List Profile) → map g (map f ps) ≡ map g ps
last f g same [] = refl
last f g same (p ∷ ps) = simp (same p, last f g same ps)

-- of two writings the last counts
pub accumulator_twice : (rules : Rules) (i : ℕ) (lower upper lower' upper' : AccumulatorAmount)
    → with_accumulator_limits (with_accumulator_limits rules i lower upper) i lower' upper' ≡ with_accumulator_limits rules i lower' upper'
unfolding with_accumulator_limits
accumulator_twice rules i lower upper lower' upper' =
    let one = twice blank_accumulator (accumulator_within lower upper) (accumulator_within lower' upper') (λ x. refl) in
    rw (last (accumulator_limits_in i lower upper) (accumulator_limits_in i lower' upper') (λ p. simp (one p.accumulators i)) rules.profiles)

pub counter_twice : (rules : Rules) (i lower upper lower' upper' : ℕ)
    → with_counter_limits (with_counter_limits rules i lower upper) i lower' upper' ≡ with_counter_limits rules i lower' upper'
unfolding with_counter_limits
counter_twice rules i lower upper lower' upper' =
    let one = twice blank_counter (counter_within lower upper) (counter_within lower' upper') (λ x. refl) in
    rw (last (counter_limits_in i lower upper) (counter_limits_in i lower' upper') (λ p. simp (one p.counters i)) rules.profiles)
