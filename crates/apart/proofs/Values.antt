-- Values that are the same but for x's, meter by meter. Assumes nothing.
use mathlib.Core.Path.{◌≡◌, refl, sym, ap, ◌∙◌}
use mathlib.Core.Bool.{cond}
use mathlib.Core.List.{List, [], ◌∷◌}
use Prim.Native.Nat.{ℕ, zero, suc}
use native.Mathlib.Omega.{arith}
use lib.ListN.{length, get_or, set, length-set}
use lib.Seq.{get_or-set_other, ext_get_or}
use Rattle.calendar.specs.declared.Date.{Date}
use Rattle.calendar.specs.Calendar.{begins}
use Rattle.money.specs.declared.AccumulatorAmount.{AccumulatorAmount}
use Rattle.money.specs.Money.{max}
use Rattle.rules.specs.declared.Place.{Place}
use Rattle.rules.specs.declared.Values.{Values}
use Rattle.rules.specs.Rules.{Rules, two, four, cycle_of}
use Rattle.purchase.specs.Meter.{Meter, accumulator, counter, cyclic, amount_at, count_at, cyclic_at, value_of, counter_cap}
use Rattle.meters.specs.declared.Change.{Change}
use Rattle.meters.specs.Meters.{moved, entered, applied}
use Rattle.cycles.specs.Cycles.{begun}
use Rattle.element.specs.declared.Write.{Write}
use Rattle.element.specs.declared.Write.TheVariants.{Value, AccumulatorLimits, CounterLimits}
use Rattle.writes.specs.Writes.{value_in, values_with}
use Rattle.script.specs.Script.{values_after}
use Rattle.apart.specs.Alike.{wiped}

-- ---- lists that are the same but for an element

-- a store hides it
pub set_either : {A : Type 0} (none : A) (a b : List A) (i : ℕ) (m : A) (j : ℕ) → length a ≡ length b
    → ((j ≡ i → ⊥) → get_or a j none ≡ get_or b j none) → get_or (set a i m) j none ≡ get_or (set b i m) j none
set_either none [] [] i m j l h = refl
set_either none [] (y ∷ b) i m j l h = absurd (omega arith)
set_either none (y ∷ a) [] i m j l h = absurd (omega arith)
set_either none (y ∷ a) (z ∷ b) zero m zero l h = refl
set_either none (y ∷ a) (z ∷ b) zero m (suc j) l h = h (λ e. omega arith)
set_either none (y ∷ a) (z ∷ b) (suc i) m zero l h = h (λ e. omega arith)
set_either none (y ∷ a) (z ∷ b) (suc i) m (suc j) l h = set_either none a b i m j (omega arith) (λ n. h (λ e. n (omega arith)))

pub set_size : {A : Type 0} (a b : List A) (i : ℕ) (m : A) → length a ≡ length b → length (set a i m) ≡ length (set b i m)
set_size a b i m l = length-set a i m ∙ l ∙ sym (length-set b i m)

module _ {A : Type 0} (none : A) (a b : List A) (i : ℕ) where
  as_many : set a i none ≡ set b i none → length a ≡ length b
  as_many e = sym (length-set a i none) ∙ ap length e ∙ length-set b i none

  elsewhere : set a i none ≡ set b i none → (j : ℕ) → (j ≡ i → ⊥) → get_or a j none ≡ get_or b j none
  elsewhere e j h = sym (get_or-set_other a i j none none h) ∙ ap (λ l. get_or l j none) e ∙ get_or-set_other b i j none none h

  same_set : length a ≡ length b → ((j : ℕ) → (j ≡ i → ⊥) → get_or a j none ≡ get_or b j none) → set a i none ≡ set b i none
  same_set l h = ext_get_or none (set a i none) (set b i none) (set_size a b i none l) (λ j k. set_either none a b i none j l (h j))

-- ---- values

-- as many of each kind, and every other meter's the same
pub record Beside (x : Meter) (v w : Values) : Type 0 where
  pub amounts : length v.accumulators ≡ length w.accumulators
  pub counts : length v.counters ≡ length w.counters
  pub cycles : length v.cyclic ≡ length w.cyclic
  pub others : (y : Meter) → (y ≡ x → ⊥) → value_of v y ≡ value_of w y

pub beside : (x : Meter) (v w : Values) → wiped x v ≡ wiped x w → Beside x v w
beside (accumulator i) v w e =
    let a = ap (λ (u : Values). u.accumulators) e in
    record {
      amounts = as_many (record { 0 = 0 }) v.accumulators w.accumulators i a;
      counts = ap (λ (u : Values). length u.counters) e;
      cycles = ap (λ (u : Values). length u.cyclic) e;
      others = by;
    }
  where
    by : (y : Meter) → (y ≡ accumulator i → ⊥) → value_of v y ≡ value_of w y
    by (accumulator j) h =
        ap (λ (m : AccumulatorAmount). m.0)
        (elsewhere (record { 0 = 0 }) v.accumulators w.accumulators i (ap (λ (u : Values). u.accumulators) e) j (λ q. h (ap accumulator q)))
    by (counter j) h = ap (λ (u : Values). count_at u j) e
    by (cyclic j) h = ap (λ (u : Values). (cyclic_at u j).0) e
beside (counter i) v w e =
    let a = ap (λ (u : Values). u.counters) e in
    record {
      amounts = ap (λ (u : Values). length u.accumulators) e;
      counts = as_many 0 v.counters w.counters i a;
      cycles = ap (λ (u : Values). length u.cyclic) e;
      others = by;
    }
  where
    by : (y : Meter) → (y ≡ counter i → ⊥) → value_of v y ≡ value_of w y
    by (accumulator j) h = ap (λ (u : Values). (amount_at u j).0) e
    by (counter j) h = elsewhere 0 v.counters w.counters i (ap (λ (u : Values). u.counters) e) j (λ q. h (ap counter q))
    by (cyclic j) h = ap (λ (u : Values). (cyclic_at u j).0) e
beside (cyclic i) v w e =
    let a = ap (λ (u : Values). u.cyclic) e in
    record {
      amounts = ap (λ (u : Values). length u.accumulators) e;
      counts = ap (λ (u : Values). length u.counters) e;
      cycles = as_many (record { 0 = 0 }) v.cyclic w.cyclic i a;
      others = by;
    }
  where
    by : (y : Meter) → (y ≡ cyclic i → ⊥) → value_of v y ≡ value_of w y
    by (accumulator j) h = ap (λ (u : Values). (amount_at u j).0) e
    by (counter j) h = ap (λ (u : Values). count_at u j) e
    by (cyclic j) h =
        ap (λ (m : AccumulatorAmount). m.0)
        (elsewhere (record { 0 = 0 }) v.cyclic w.cyclic i (ap (λ (u : Values). u.cyclic) e) j (λ q. h (ap cyclic q)))

module _ (x : Meter) (v w : Values) (b : Beside x v w) where
  amounts_same : ((j : ℕ) → accumulator j ≡ x → ⊥) → v.accumulators ≡ w.accumulators
  amounts_same h =
      ext_get_or (record { 0 = 0 }) v.accumulators w.accumulators b.amounts
      (λ j k. ap (λ (n : ℕ). record { 0 = n }) (b.others (accumulator j) (h j)))

  counts_same : ((j : ℕ) → counter j ≡ x → ⊥) → v.counters ≡ w.counters
  counts_same h = ext_get_or 0 v.counters w.counters b.counts (λ j k. b.others (counter j) (h j))

  cyclic-same : ((j : ℕ) → cyclic j ≡ x → ⊥) → v.cyclic ≡ w.cyclic
  cyclic-same h =
      ext_get_or (record { 0 = 0 }) v.cyclic w.cyclic b.cycles
      (λ j k. ap (λ (n : ℕ). record { 0 = n }) (b.others (cyclic j) (h j)))

pub wiped-same : (x : Meter) (v w : Values) → Beside x v w → wiped x v ≡ wiped x w
wiped-same (accumulator i) v w b =
    let a : set v.accumulators i (record { 0 = 0 }) ≡ set w.accumulators i (record { 0 = 0 }) =
    same_set (record { 0 = 0 }) v.accumulators w.accumulators i b.amounts
    (λ j h. ap (λ (n : ℕ). record { 0 = n }) (b.others (accumulator j) (λ e. h (cc)))) in
    let c = counts_same (accumulator i) v w b (λ j e. let z : ◌≡◌ {A = ℕ} 0 1 = cc in omega arith) in
    let d = cyclic-same (accumulator i) v w b (λ j e. let z : ◌≡◌ {A = ℕ} 0 1 = cc in omega arith) in
    λ k. record { accumulators = a k; counters = c k; cyclic = d k }
wiped-same (counter i) v w b =
    let a = amounts_same (counter i) v w b (λ j e. let z : ◌≡◌ {A = ℕ} 0 1 = cc in omega arith) in
    let c : set v.counters i 0 ≡ set w.counters i 0 =
    same_set 0 v.counters w.counters i b.counts (λ j h. b.others (counter j) (λ e. h (cc))) in
    let d = cyclic-same (counter i) v w b (λ j e. let z : ◌≡◌ {A = ℕ} 0 1 = cc in omega arith) in
    λ k. record { accumulators = a k; counters = c k; cyclic = d k }
wiped-same (cyclic i) v w b =
    let a = amounts_same (cyclic i) v w b (λ j e. let z : ◌≡◌ {A = ℕ} 0 1 = cc in omega arith) in
    let c = counts_same (cyclic i) v w b (λ j e. let z : ◌≡◌ {A = ℕ} 0 1 = cc in omega arith) in
    let d : set v.cyclic i (record { 0 = 0 }) ≡ set w.cyclic i (record { 0 = 0 }) =
    same_set (record { 0 = 0 }) v.cyclic w.cyclic i b.cycles
    (λ j h. ap (λ (n : ℕ). record { 0 = n }) (b.others (cyclic j) (λ e. h (cc)))) in
    λ k. record { accumulators = a k; counters = c k; cyclic = d k }

-- ---- each meter moves by its own value

pub four-at : {A : Type 0} (none : A) (f g : ℕ → A) (j : ℕ) → f j ≡ g j → get_or (four f) j none ≡ get_or (four g) j none
four-at none f g zero e = e
four-at none f g (suc zero) e = e
four-at none f g (suc (suc zero)) e = e
four-at none f g (suc (suc (suc zero))) e = e
four-at none f g (suc (suc (suc (suc j)))) e = refl

two_at : {A : Type 0} (none : A) (f g : ℕ → A) (j : ℕ) → f j ≡ g j → get_or (two f) j none ≡ get_or (two g) j none
two_at none f g zero e = e
two_at none f g (suc zero) e = e
two_at none f g (suc (suc j)) e = refl

module _ (x : Meter) (v w : Values) (b : Beside x v w) where
  -- by a change
  pub applied_beside : (rules : Rules) (place : Place) (change : Change) → Beside x (applied rules place v change) (applied rules place w change)
  unfolding applied
  applied_beside rules place change = record { amounts = refl; counts = refl; cycles = refl; others = by } where
    amount : ℕ → Meter → AccumulatorAmount
    amount n y = record { 0 = moved max n (entered rules place change y) }

    by : (y : Meter) → (y ≡ x → ⊥) → value_of (applied rules place v change) y ≡ value_of (applied rules place w change) y
    by (accumulator j) h =
        ap (λ (m : AccumulatorAmount). m.0)
        (four-at (record { 0 = 0 }) (λ i. amount (amount_at v i).0 (accumulator i)) (λ i. amount (amount_at w i).0 (accumulator i)) j
        (ap (λ (n : ℕ). amount n (accumulator j)) (b.others (accumulator j) h)))
    by (counter j) h =
        four-at 0 (λ i. moved counter_cap (count_at v i) (entered rules place change (counter i)))
        (λ i. moved counter_cap (count_at w i) (entered rules place change (counter i))) j
        (ap (λ (n : ℕ). moved counter_cap n (entered rules place change (counter j))) (b.others (counter j) h))
    by (cyclic j) h =
        ap (λ (m : AccumulatorAmount). m.0)
        (two_at (record { 0 = 0 }) (λ i. amount (cyclic_at v i).0 (cyclic i)) (λ i. amount (cyclic_at w i).0 (cyclic i)) j
        (ap (λ (n : ℕ). amount n (cyclic j)) (b.others (cyclic j) h)))

  -- by the cycles that begin
  pub begun_beside : (rules : Rules) (last date : Date) → Beside x (begun rules v last date) (begun rules w last date)
  begun_beside rules last date = record { amounts = b.amounts; counts = b.counts; cycles = refl; others = by } where
    amount : ℕ → ℕ → AccumulatorAmount
    amount i n = cond (begins (cycle_of rules i).period (cycle_of rules i).first last date) (record { 0 = 0 }) (record { 0 = n })

    by : (y : Meter) → (y ≡ x → ⊥) → value_of (begun rules v last date) y ≡ value_of (begun rules w last date) y
    by (accumulator j) h = b.others (accumulator j) h
    by (counter j) h = b.others (counter j) h
    by (cyclic j) h =
        ap (λ (m : AccumulatorAmount). m.0)
        (two_at (record { 0 = 0 }) (λ i. amount i (cyclic_at v i).0) (λ i. amount i (cyclic_at w i).0) j (ap (amount j) (b.others (cyclic j) h)))

  -- by what a script writes
  written_beside : (write : Write) → Beside x (values_with v write) (values_with w write)
  unfolding value_in
  written_beside (Value slot amount) =
      record {
        amounts = set_size v.accumulators w.accumulators slot amount b.amounts;
        counts = b.counts;
        cycles = b.cycles;
        others = by;
      }
    where
      by : (y : Meter) → (y ≡ x → ⊥) → value_of (value_in v slot amount) y ≡ value_of (value_in w slot amount) y
      by (accumulator j) h =
          ap (λ (m : AccumulatorAmount). m.0)
          (set_either (record { 0 = 0 }) v.accumulators w.accumulators slot amount j b.amounts
          (λ n. ap (λ (n : ℕ). record { 0 = n }) (b.others (accumulator j) h)))
      by (counter j) h = b.others (counter j) h
      by (cyclic j) h = b.others (cyclic j) h
  written_beside (AccumulatorLimits slot lower upper) = b
  written_beside (CounterLimits slot lower upper) = b

pub scripted_beside : (x : Meter) (writes : List Write) (v w : Values) → Beside x v w → Beside x (values_after v writes) (values_after w writes)
scripted_beside x [] v w b = b
scripted_beside x (write ∷ writes) v w b =
    scripted_beside x writes (values_with v write) (values_with w write) (written_beside x v w b write)
