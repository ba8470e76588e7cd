-- A First's date: the card's tests are the almanac's, and so are the timing, the last date and the cycles that begin. Assumes nothing.
use mathlib.Core.Path.{◌≡◌, refl, sym, ap, ap₂, ◌∙◌}
use mathlib.Core.Bool.{Bool, true, false, cond}
use mathlib.Core.List.{[], ◌∷◌}
use mathlib.Core.Logic.{inl, inr}
use Prim.Native.Nat.{ℕ, ◌+◌, ◌-◌, ◌*◌, ◌<◌}
use native.Mathlib.Omega.{arith}
use borrow.Author.Tests.{ltb-true, lt-ltb, le-ltb, ne_eqb}
use lib.ListN.{get_or-eq_default}
use Rattle.wire.specs.Wire.{byte}
use Rattle.calendar.specs.declared.Date.{Date}
use Rattle.calendar.specs.declared.Period.{Period}
use Rattle.calendar.specs.declared.Period.TheVariants.{Month}
use Rattle.calendar.specs.Calendar.{code_of, is_day, is_before, year_of, month_of, cycle_of as number_of, begins}
use Rattle.calendar.specs.Almanac.{civil_of, in_years, in_months, ordinal, began, is_new}
use Rattle.calendar.proofs.Day.{calendar-day}
use Rattle.calendar.proofs.Agree.{agree, before_agrees}
use Rattle.money.specs.declared.AccumulatorAmount.{AccumulatorAmount}
use Rattle.money.specs.Money.{max}
use Rattle.rules.specs.declared.Cycle.{Cycle}
use Rattle.rules.specs.Rules.{Rules, period_of, cycle_of}
use Rattle.rules.proofs.Places.{two_at}
use Rattle.setup.specs.Setup.{cycle_in}
use Rattle.purchase.specs.declared.Timing.{Timing}
use Rattle.purchase.specs.declared.Timing.TheVariants.{Undated, InOrder, DateError}
use Rattle.purchase.specs.Meter.{Meter, accumulator, counter, cyclic, IsMeter, cyclic_at, value_of}
use Rattle.meters.specs.Meters.{put, moved}
use Rattle.state.specs.declared.State.{State}
use Rattle.cycles.specs.Cycles.{timing_of, amount_begun, advanced, dated}
use Rattle.card.specs.Card.{is_dated}
use Rattle.demands.specs.Setup.{Setup, tail_byte, AcceptedSetup}
use Rattle.demands.specs.Conversation.{rules_by}
use Rattle.demands.specs.Audit.{cap_of, is_late, timed, latest, begins_on, begun}
use Rattle.tails.proofs.Accepted.{CyclesAccepted}
use Rattle.demands.proofs.Owed.{Fair, nothing, putting, fair_or}
use Rattle.demands.proofs.Bytes.{fits-tail, cycle-is}
use Rattle.std.specs.Prelude.{None, Option, Some}

-- what a date does not move it leaves
dated_keeps : (rules : Rules) (state : State) {A : Type 0} (part : State → A) → ((date : Date) → part (advanced rules state date) ≡ part state)
    → (when : Option Date) → part (dated rules state when) ≡ part state
unfolding dated
dated_keeps rules state part same None = refl
dated_keeps rules state part same (Some date) = by (is_before date state.last) where
  by : (b : Bool) → part (cond b state (advanced rules state date)) ≡ part state
  by true = refl
  by false = same date

pub same-history : (rules : Rules) (state : State) (when : Option Date) → (dated rules state when).history ≡ state.history
unfolding advanced
same-history rules state = dated_keeps rules state (λ s. s.history) (λ date. refl)

pub same-atc : (rules : Rules) (state : State) (when : Option Date) → (dated rules state when).atc ≡ state.atc
unfolding advanced
same-atc rules state = dated_keeps rules state (λ s. s.atc) (λ date. refl)

pub same-scripts : (rules : Rules) (state : State) (when : Option Date) → (dated rules state when).scripts ≡ state.scripts
unfolding advanced
same-scripts rules state = dated_keeps rules state (λ s. s.scripts) (λ date. refl)

pub same-accumulators : (rules : Rules) (state : State) (when : Option Date) → (dated rules state when).values.accumulators ≡ state.values.accumulators
unfolding advanced
same-accumulators rules state = dated_keeps rules state (λ s. s.values.accumulators) (λ date. refl)

-- a last date is a calendar day; where dates are off, 000000 until a First brings one
abbrev pub no_date : Date
no_date = record { year = 0; month = 0; day = 0 }

pub data Lasting (setup : Setup) : Date → Type 0 where
  a_day : {last : Date} → is_day last ≡ true → Lasting setup last
  none_yet : setup.tail ≡ [] → Lasting setup no_date

-- an earlier date begins no cycle; the first one of all begins every month
late-begins-none : (period : Period) (first : ℕ) (last date : Date) → is_before date last ≡ true → begins period first last date ≡ false
unfolding begins is_before
late-begins-none period first last date e =
    let before = ltb-true (code_of date) (code_of last) e in
    simp (le-ltb (code_of last) (code_of date) (omega arith))

first_ever : (first : ℕ) (date : Date) → is_day date ≡ true → begins Month first no_date date ≡ is_new Month first (civil_of no_date) (civil_of date)
unfolding begins is_before number_of is_new began civil_of ordinal in_years in_months
first_ever first date day =
    let month = (calendar-day date day).in_month.month_low in
    let after : 0 < code_of date = omega arith in
    let some : 0 ≡ 12 * year_of date + month_of date → ⊥ = λ e. omega arith in
    let there = in_years (year_of date) + in_months (year_of date) (month_of date - 1) + 1 in
    simp (lt-ltb 0 (code_of date) after, ne_eqb 0 (12 * year_of date + month_of date) some, lt-ltb 0 there (omega arith))

-- a date error's date is a calendar day
abbrev pub OnDay : Timing → Type 0
OnDay Undated = Unit
OnDay InOrder = Unit
OnDay (DateError date) = is_day date ≡ true

module _ (setup : Setup) (good : AcceptedSetup setup) where
  abbrev rules : Rules
  rules = rules_by setup

  first-day : (i : ℕ) → i < 2 → tail_byte setup (15 + 12 * i) < 7
  first-day i l = by (fits-tail good) where
    by : CyclesAccepted setup.tail → tail_byte setup (15 + 12 * i) < 7
    by (inl none) = let z : tail_byte setup (15 + 12 * i) ≡ 0 = get_or-eq_default setup.tail 0 (omega arith) in omega arith
    by (inr ranges) = let e : 4 + 12 * i + 11 ≡ 15 + 12 * i = omega arith in omega (arith, rw e at (ranges.cycles i l).first-day)

  -- earlier than the last one, by the codes and by the almanac
  late_is : (last : Date) → Lasting setup last → (date : Date) → is_day date ≡ true → is_before date last ≡ is_late last date
  unfolding is_before civil_of ordinal in_years in_months
  late_is last (a_day h) date day = before_agrees date last day h
  late_is last (none_yet off) date day = le-ltb (code_of date) 0 (omega arith) ∙ sym (le-ltb (ordinal (civil_of date)) 0 (omega arith))

  -- in another cycle that began since
  begins-is : (last : Date) → Lasting setup last → (date : Date) → is_day date ≡ true → (i : ℕ) → i < 2
      → begins (cycle_of rules i).period (cycle_of rules i).first last date ≡ begins_on setup i last (Some date)
  unfolding cycle_in
  begins-is last lasting date day i l =
      ap (λ (c : Cycle). begins c.period c.first last date) (cycle-is setup i l)
      ∙ ap₂ (λ k f. begins (period_of (byte setup.tail k)) (byte setup.tail f) last date) (omega arith) (omega arith)
      ∙ by lasting
    where
      by : {last : Date} → Lasting setup last
          → begins (period_of (tail_byte setup (14 + 12 * i))) (tail_byte setup (15 + 12 * i)) last date ≡ begins_on setup i last (Some date)
      by {last} (a_day h) = agree (period_of (tail_byte setup (14 + 12 * i))) (tail_byte setup (15 + 12 * i)) last date (first-day i l) h day
      by (none_yet off) = rw off (first_ever 0 date day)

  module _ (last : Date) (lasting : Lasting setup last) where
    pub timing-is : (when : Option Date) → is_dated when ≡ true → timing_of last when ≡ timed last when
    unfolding timing_of
    timing-is None day = refl
    timing-is (Some date) day = ap (λ b. cond b (DateError date) InOrder) (late_is last lasting date day)

    pub on-day : (when : Option Date) → is_dated when ≡ true → OnDay (timed last when)
    on-day None day = tt
    on-day (Some date) day = by (is_late last date) where
      by : (b : Bool) → OnDay (cond b (DateError date) InOrder)
      by true = day
      by false = tt

    pub still_lasting : (when : Option Date) → is_dated when ≡ true → Lasting setup (latest last when)
    still_lasting None day = lasting
    still_lasting (Some date) day = by (is_late last date) where
      by : (b : Bool) → Lasting setup (cond b last date)
      by true = lasting
      by false = a_day day

  module _ (state : State) (lasting : Lasting setup state.last) where
    pub last-is : (when : Option Date) → is_dated when ≡ true → (dated rules state when).last ≡ latest state.last when
    unfolding dated advanced
    last-is None day = refl
    last-is (Some date) day = by (is_before date state.last) ∙ ap (λ b. cond b state.last date) (late_is state.last lasting date day) where
      by : (b : Bool) → (cond b state (advanced rules state date)).last ≡ cond b state.last date
      by true = refl
      by false = refl

    -- each meter is moved by what the auditor enters
    pub begun-moves : (when : Option Date) → is_dated when ≡ true → (meter : Meter) → IsMeter meter
        → value_of (dated rules state when).values meter ≡ moved (cap_of meter) (value_of state.values meter) (begun setup state.last when meter)
    unfolding dated advanced
    begun-moves when day (accumulator i) l = dated_keeps rules state (λ s. value_of s.values (accumulator i)) (λ date. refl) when
    begun-moves when day (counter i) l = dated_keeps rules state (λ s. value_of s.values (counter i)) (λ date. refl) when
    begun-moves None day (cyclic i) l = refl
    begun-moves (Some date) day (cyclic i) l =
        by (is_before date state.last) refl
        ∙ ap (λ b. moved max value (cond b (put 0 ∷ []) [])) (begins-is state.last lasting date day i l)
      where
        value : ℕ
        value = value_of state.values (cyclic i)

        new : Bool
        new = begins (cycle_of rules i).period (cycle_of rules i).first state.last date

        or_stays : (b : Bool) → (cond b (record { 0 = 0 }) (cyclic_at state.values i)).0 ≡ moved max value (cond b (put 0 ∷ []) [])
        or_stays true = refl
        or_stays false = refl

        by : (b : Bool) → is_before date state.last ≡ b
            → value_of (cond b state (advanced rules state date)).values (cyclic i) ≡ moved max value (cond new (put 0 ∷ []) [])
        by true e = ap (λ b. moved max value (cond b (put 0 ∷ []) [])) (sym (late-begins-none _ _ state.last date e))
        by false e =
            ap (λ (a : AccumulatorAmount). a.0)
            (two_at (λ j. amount_begun rules j (cyclic_at state.values j) state.last date) (record { 0 = 0 }) i l)
            ∙ or_stays new

  pub begun_fair : (last : Date) (when : Option Date) (meter : Meter) → Fair (cap_of meter) (begun setup last when meter)
  begun_fair last when (accumulator i) = nothing
  begun_fair last when (counter i) = nothing
  begun_fair last when (cyclic i) = fair_or (begins_on setup i last when) (putting (omega arith)) nothing
