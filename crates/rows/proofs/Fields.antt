-- What is read of a spelled set-up is what its fields say. Assumes nothing.
use mathlib.Core.Path.{◌≡◌, refl, ap, ap₂, ◌∙◌}
use mathlib.Core.Bool.{false, cond}
use mathlib.Core.List.{List, [], ◌∷◌}
use Prim.Native.Nat.{ℕ, zero, suc, ◌+◌, ◌*◌, ◌/◌, ◌≤◌}
use native.Mathlib.Omega.{arith}
use borrow.Author.Tests.{ne_eqb}
use lib.Dec.{eqb, ltb}
use lib.ListN.{length, get_or, get_or-eq_default}
use Rattle.wire.specs.Wire.{byte, number}
use Rattle.wire.proofs.Numbers.{past}
use Rattle.money.specs.Money.{blank}
use Rattle.calendar.specs.Calendar.{date_at}
use Rattle.rules.specs.declared.CyclicRule.{CyclicRule}
use Rattle.rules.specs.Rules.{two, eight, blank_profile, blank_cyclic, period_of}
use Rattle.setup.specs.declared.Fresh.{Fresh}
use Rattle.setup.specs.Setup.{rate_in, accumulator_in, counter_in, profile_in, cycle_in, cyclic_in, amount_in, rules_in, fresh_in}
use Rattle.setup.proofs.Faithful.{Bytes, faithful, started}
use Rattle.rows.specs.Rows.{Fits, Limits, Profile, Conversion, Setup, setup_row, body}
use Rattle.rows.specs.Rows.{spelled, Cyclic, CyclicLimit, Cycles, Dates, undated, dated, cycles_row, cycles_bytes}
use Rattle.rows.specs.Rows.{Controls, Families, cpa, cpace, controls_row, controls_bytes}
use Rattle.rows.specs.Said.{accumulator_said, counter_said, profile_said, conversion_said, profile_at, conversion_at, rules_said, fresh_said, Says}
use Rattle.rows.specs.Said.{period_said, cyclic_said, cyclic_limit_said, cyclic_limits_said, cycles_said, cyclic_rules_at, amounts_said, last_said}
use Rattle.rows.specs.Said.{yes_if_one, controls_said, cashback_at}
use Rattle.rows.specs.Tails.{FineDates, FineFamilies}
use Rattle.rows.specs.Offsets.{AccumulatorOffsets, CounterOffsets, ProfileOffsets, ConversionOffsets, Offsets}
use Rattle.rows.specs.Offsets.{CyclicOffsets, CyclicLimitOffsets, CyclesOffsets}
use Rattle.rows.proofs.Spelling.{spelled-bytes}
use Rattle.rows.proofs.Places.{said-there, said_or_blank}
use Rattle.rows.proofs.Placed.{body-size, in_place}
use Rattle.rows.proofs.Dated.{cycles-size, cycles_in_place}
use Rattle.rows.proofs.Family.{controls-size, controls_in_place}
use Rattle.std.specs.Prelude.{Ok}

-- ---- the tail of version 04

-- what is read of one that says d
record TailRead (t : List ℕ) (d : Dates) : Type 0 where
  cycles : two (λ i. cycle_in t (4 + 12 * i)) ≡ cycles_said d
  rules : (j : ℕ) → two (λ i. cyclic_in t (28 + 18 * j + 9 * i)) ≡ cyclic_rules_at d j
  amounts : two (amount_in t) ≡ amounts_said d
  last : date_at t 1 ≡ last_said d

period_read : (kind : ℕ) → period_of kind ≡ period_said kind
period_read zero = refl
period_read (suc zero) = refl
period_read (suc (suc zero)) = refl
period_read (suc (suc (suc kind))) =
    let n = suc (suc (suc kind)) in
    rw (ne_eqb n 1 (λ e. omega arith), ne_eqb n 2 (λ e. omega arith))

module _ (t : List ℕ) where
  cyclic-read : (at : ℕ) (c : Cyclic) → CyclicOffsets t at c → cycle_in t at ≡ cyclic_said c
  unfolding cycle_in
  cyclic-read at c o = simp (o.currency, o.kind, o.first, period_read)

  limit-read : (at : ℕ) (l : CyclicLimit) → CyclicLimitOffsets t at l → cyclic_in t at ≡ cyclic_limit_said l
  unfolding cyclic_in
  limit-read at l o =
      let whole : l.switches / 1 ≡ l.switches = omega arith in
      simp (o.switches, o.limit, whole)

  no_limit : (at : ℕ) → length t ≤ at → cyclic_in t at ≡ blank_cyclic
  unfolding cyclic_in
  no_limit at h =
      let none : byte t at ≡ 0 = get_or-eq_default t 0 h in
      simp (none, past t (at + 1) 8 (omega arith))

module _ (d : Cycles) (fits : Fits (cycles_row d)) where
  abbrev tail : List ℕ
  tail = spelled (cycles_row d)

  abbrev limits : ℕ → List CyclicRule
  limits j = two (λ i. cyclic_in tail (28 + 18 * j + 9 * i))

  abbrev blanks : List CyclicRule
  blanks = blank_cyclic ∷ blank_cyclic ∷ []

  offsets : CyclesOffsets tail d
  offsets = cycles_in_place d fits

  both : {a b c e : CyclicRule} → a ≡ b → c ≡ e → ◌≡◌ {A = List CyclicRule} (a ∷ c ∷ []) (b ∷ e ∷ [])
  both = ap₂ (λ (x y : CyclicRule). x ∷ y ∷ [])

  -- of a profile that is not there every byte reads as 0
  limits-read : (j : ℕ) → limits j ≡ cyclic_rules_at (dated d) j
  limits-read j =
      said_or_blank cyclic_limits_said blanks (limits j) d.rules j
      (λ l r.
      let o = offsets.rules j l r in
      both (limit-read tail (28 + 18 * j + 9 * 0) (get_or d.rules j r).one (o 0 (omega arith)))
      (limit-read tail (28 + 18 * j + 9 * 1) (get_or d.rules j r).two (o 1 (omega arith))))
      (λ l.
      let size = cycles-size d in
      both (no_limit tail (28 + 18 * j + 9 * 0) (omega arith)) (no_limit tail (28 + 18 * j + 9 * 1) (omega arith)))

  dated-read : TailRead tail (dated d)
  unfolding date_at
  dated-read =
      let a0 = offsets.accumulators 0 (omega arith) in
      let a1 = offsets.accumulators 1 (omega arith) in
      record {
        cycles = simp (cyclic-read tail 4 d.accumulators.one a0, cyclic-read tail 16 d.accumulators.two a1);
        rules = limits-read;
        amounts = simp (a0.amount, a1.amount);
        last = simp (offsets.year, offsets.month, offsets.day);
      }

tail-read : (p : ℕ) (d : Dates) → FineDates p d → TailRead (cycles_bytes d) d
unfolding date_at cycle_in cyclic_in number
tail-read p undated fine = record { cycles = refl; rules = λ j. refl; amounts = refl; last = refl }
tail-read p (dated d) fine = dated-read d fine.0

tail-bytes : (d : Dates) → Bytes (cycles_bytes d)
tail-bytes undated = record { below = λ i. omega arith }
tail-bytes (dated d) = spelled-bytes (cycles_row d)

-- ---- the tail of version 05

record FamilyRead (u : List ℕ) (f : Families) : Type 0 where
  controls : eight (λ i. byte u (1 + i)) ≡ controls_said f
  cashbacks : (j : ℕ) → eqb (byte u (9 + j)) 1 ≡ cashback_at f j

cpace-read : (f : Controls) → Fits (controls_row f) → FamilyRead (spelled (controls_row f)) (cpace f)
cpace-read f fits =
    let u = spelled (controls_row f) in
    let o = controls_in_place f fits in
    let size = controls-size f in
    let a = o.accumulators in
    let c = o.counters in
    record {
      controls =
          simp (
            a 0 (omega arith),
            a 1 (omega arith),
            a 2 (omega arith),
            a 3 (omega arith),
            c 0 (omega arith),
            c 1 (omega arith),
            c 2 (omega arith),
            c 3 (omega arith),
          );
      cashbacks =
          λ j.
          said_or_blank yes_if_one false (eqb (byte u (9 + j)) 1) f.cashbacks j (λ l d. ap yes_if_one (o.cashbacks j l d))
          (λ l. ap yes_if_one (get_or-eq_default u 0 (omega arith)));
    }

family-read : (p : ℕ) (f : Families) → FineFamilies p f → FamilyRead (controls_bytes f) f
family-read p cpa fine = record { controls = refl; cashbacks = λ j. refl }
family-read p (cpace f) fine = cpace-read f fine.0

family-bytes : (f : Families) → Bytes (controls_bytes f)
family-bytes cpa = record { below = λ i. omega arith }
family-bytes (cpace f) = spelled-bytes (controls_row f)

-- ---- the base

module _ (s : List ℕ) where
  accumulator-read : (at : ℕ) (l : Limits) → AccumulatorOffsets s at l → accumulator_in s at ≡ accumulator_said l
  unfolding accumulator_in
  accumulator-read at l o =
      let whole : l.switches / 1 ≡ l.switches = omega arith in
      simp (o.switches, o.lower, o.upper, whole)

  counter-read : (at : ℕ) (l : Limits) → CounterOffsets s at l → counter_in s at ≡ counter_said l
  unfolding counter_in
  counter-read at l o =
      let whole : l.switches / 1 ≡ l.switches = omega arith in
      simp (o.switches, o.lower, o.upper, whole)

  conversion-read : (at : ℕ) (c : Conversion) → ConversionOffsets s at c → rate_in s at ≡ conversion_said c
  unfolding rate_in conversion_said
  conversion-read at c o = simp (o.from, o.to, o.digits, o.shift)

  profile-read : (at : ℕ) (p : Profile) → ProfileOffsets s at p → profile_in s at ≡ profile_said p
  unfolding profile_in profile_said
  profile-read at p o =
      let a0 = accumulator-read (at + 24) p.accumulators.one (o.accumulators 0 (omega arith)) in
      let a1 = accumulator-read (at + 41) p.accumulators.two (o.accumulators 1 (omega arith)) in
      let a2 = accumulator-read (at + 58) p.accumulators.three (o.accumulators 2 (omega arith)) in
      let a3 = accumulator-read (at + 75) p.accumulators.four (o.accumulators 3 (omega arith)) in
      let c0 = counter-read (at + 92) p.counters.one (o.counters 0 (omega arith)) in
      let c1 = counter-read (at + 95) p.counters.two (o.counters 1 (omega arith)) in
      let c2 = counter-read (at + 98) p.counters.three (o.counters 2 (omega arith)) in
      let c3 = counter-read (at + 101) p.counters.four (o.counters 3 (omega arith)) in
      simp (
        o.number_is,
        o.online,
        o.decline,
        o.default,
        o.maximum-on,
        o.maximum-currency,
        o.maximum,
        a0,
        a1,
        a2,
        a3,
        c0,
        c1,
        c2,
        c3,
        o.accumulator-sent,
        o.first-sent,
        o.second-sent,
      )

  module _ (x : Setup) (o : Offsets s x) where
    profile-is : (i : ℕ) → cond (ltb i (length x.profiles)) (profile_in s (52 + 107 * i)) blank_profile ≡ profile_at x i
    profile-is i =
        said-there profile_said blank_profile (profile_in s (52 + 107 * i)) x.profiles i
        (λ l d. profile-read (52 + 107 * i) (get_or x.profiles i d) (o.profiles i l d))

    conversion-is : (i : ℕ) → cond (ltb i (length x.conversions)) (rate_in s (52 + 107 * length x.profiles + 7 * i)) blank ≡ conversion_at x i
    conversion-is i =
        said-there conversion_said blank (rate_in s (52 + 107 * length x.profiles + 7 * i)) x.conversions i
        (λ l d. conversion-read (52 + 107 * length x.profiles + 7 * i) (get_or x.conversions i d) (o.conversions i l d))

    module _ (t : List ℕ) (d : Dates) (r : TailRead t d) where
      rules-said : (u : List ℕ) (f : Families) → FamilyRead u f → (syllabus : ℕ) → rules_in s t u syllabus ≡ rules_said x d f syllabus
      unfolding rules_in rules_said
      rules-said u f c syllabus =
          simp (
            o.key,
            o.pin,
            o.required,
            o.p,
            o.c,
            o.currencies 0 (omega arith),
            o.currencies 1 (omega arith),
            o.currencies 2 (omega arith),
            o.currencies 3 (omega arith),
            profile-is 0,
            profile-is 1,
            profile-is 2,
            profile-is 3,
            conversion-is 0,
            conversion-is 1,
            conversion-is 2,
            conversion-is 3,
            conversion-is 4,
            r.cycles,
            r.rules 0,
            r.rules 1,
            r.rules 2,
            r.rules 3,
            c.controls,
            c.cashbacks 0,
            c.cashbacks 1,
            c.cashbacks 2,
            c.cashbacks 3,
          )

      fresh-said : fresh_in s t ≡ fresh_said x d
      unfolding fresh_in fresh_said
      fresh-said =
          simp (
            o.atc,
            o.online,
            o.values 0 (omega arith),
            o.values 1 (omega arith),
            o.values 2 (omega arith),
            o.values 3 (omega arith),
            o.counters 0 (omega arith),
            o.counters 1 (omega arith),
            o.counters 2 (omega arith),
            o.counters 3 (omega arith),
            r.amounts,
            r.last,
          )

-- THE STATEMENT: every reader finds each field where the widths before it end
pub reads_fields : (x : Setup) (d : Dates) (f : Families) → Fits (setup_row x) → FineDates (length x.profiles) d → FineFamilies (length x.profiles) f
    → Says x d f (body x) (cycles_bytes d) (controls_bytes f)
reads_fields x d f fits fine-dates fine-family =
    let p = length x.profiles in
    let s = body x in
    let t = cycles_bytes d in
    let u = controls_bytes f in
    let o = in_place x fits in
    let r = tail-read p d fine-dates in
    let rules = rules-said s x o t d r u f (family-read p f fine-family) in
    let fresh = fresh-said s x o t d r in
    record {
      size = body-size x;
      rules = rules;
      fresh = fresh;
      read = λ unnamed good. started s t u unnamed good ∙ ap (λ (fresh : Fresh). record { fresh = fresh; answer = Ok tt }) fresh;
      loaded =
          λ syllabus unnamed words size good.
          faithful s t u (spelled-bytes (setup_row x)) (tail-bytes d) (family-bytes f) syllabus unnamed words size good ∙ rules syllabus;
    }
