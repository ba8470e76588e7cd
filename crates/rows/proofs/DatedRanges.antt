-- A spelled tail of version 04 is accepted exactly if its fields are in their ranges. Assumes nothing.
use mathlib.Core.Path.{◌≡◌, refl, sym, ◌∙◌}
use mathlib.Core.Bool.{Bool, true, false}
use mathlib.Core.List.{List}
use mathlib.Core.Logic.{◌↔◌, inl, inr}
use Prim.Native.Nat.{ℕ, ◌+◌, ◌*◌, ◌≤◌, ◌<◌}
use native.Mathlib.Omega.{arith}
use borrow.Author.Tests.{ltb-true, ltb-false}
use lib.Dec.{ltb}
use lib.ListN.{length, get_or, get_or-eq_default}
use Rattle.wire.specs.Wire.{byte, number}
use Rattle.wire.proofs.Numbers.{past}
use Rattle.calendar.specs.Calendar.{date_at, is_day}
use Rattle.calendar.proofs.Dates.{calendar_days}
use Rattle.tails.specs.Tails.{are_cycles}
use Rattle.tails.proofs.Accepted.{CycleRanges, CyclicRuleRanges, CyclesRanges, CyclesAccepted, cycles-accepted, cycles_complete}
use Rattle.rows.specs.Rows.{Fits, spelled, Two, Cyclic, CyclicLimit, Cycles, Dates, undated, dated, paired, cycles_row, cycles_bytes}
use Rattle.rows.specs.InRange.{CalendarDay, CyclicRange, CyclicLimitRange, CyclicLimitsRange, CyclesRange, DatesRange}
use Rattle.rows.specs.Tails.{FineDates}
use Rattle.rows.specs.Offsets.{of_two, CyclicOffsets, CyclicLimitOffsets, CyclesOffsets}
use Rattle.rows.proofs.Places.{at_each, each_at}
use Rattle.rows.proofs.Dated.{cycles-size, cycles_in_place}
use Rattle.rows.proofs.Ranges.{digits-there, digits_back}

-- what stands where there is no rule
no_limits : Two CyclicLimit
no_limits = record { one = record { switches = 0; limit = 0 }; two = record { switches = 0; limit = 0 } }

module _ (t : List ℕ) where
  cyclic_range : (at : ℕ) (c : Cyclic) → CyclicOffsets t at c → CyclicRange c ↔ CycleRanges t at
  cyclic_range at c o = (
    λ r.
        record {
          currency = digits-there o.currency r.currency;
          amount = rw o.amount r.amount;
          kind-least = rw o.kind r.kind-least;
          kind-most = rw o.kind r.kind-most;
          first-day = rw o.first r.first;
        },
    λ r.
        record {
          currency = digits_back o.currency r.currency;
          amount = rw o.amount at r.amount;
          kind-least = rw o.kind at r.kind-least;
          kind-most = rw o.kind at r.kind-most;
          first = rw o.first at r.first-day;
        },
  )

  limit_range : (at : ℕ) (l : CyclicLimit) → CyclicLimitOffsets t at l → CyclicLimitRange l ↔ CyclicRuleRanges t at
  limit_range at l o = (
    λ r. record { switches = rw o.switches r.switches; limit = rw o.limit r.limit },
    λ r. record { switches = rw o.switches at r.switches; limit = rw o.limit at r.limit },
  )

  -- past the end every byte reads as 0
  none_range : (at : ℕ) → length t ≤ at → CyclicRuleRanges t at
  none_range at h =
      let none : byte t at ≡ 0 = get_or-eq_default t 0 h in
      let no_limit : number t (at + 1) 8 ≡ 0 = past t (at + 1) 8 (omega arith) in
      record { switches = omega arith; limit = omega arith }

module _ (d : Cycles) (fits : Fits (cycles_row d)) (few : length d.rules ≤ 4) where
  abbrev tail : List ℕ
  tail = spelled (cycles_row d)

  o : CyclesOffsets tail d
  o = cycles_in_place d fits

  last-read : date_at tail 1 ≡ record { year = d.year; month = d.month; day = d.day }
  unfolding date_at
  last-read = simp (o.year, o.month, o.day)

  last_range : CalendarDay d.year d.month d.day ↔ (is_day (date_at tail 1) ≡ true)
  last_range = (
    λ c. (calendar_days (date_at tail 1)).1 (c.after, c.few, last-read ∙ c.is),
    λ e. let (n, below, is) = (calendar_days (date_at tail 1)).0 e in record { after = n; few = below; is = sym last-read ∙ is },
  )

  abbrev limits : ℕ → Two CyclicLimit
  limits j = get_or d.rules j no_limits

  there : CyclesRange d → CyclesRanges tail
  there r =
      record {
        last = last_range.0 r.last;
        cycles =
            λ i l.
            (cyclic_range tail (4 + 12 * i) (of_two d.accumulators i) (o.accumulators i l)).0
            (at_each d.accumulators.one CyclicRange (paired d.accumulators) r.accumulators i l);
        rules = λ j m i l. by j i l (ltb j (length d.rules)) refl;
      }
    where
      by : (j i : ℕ) → i < 2 → (b : Bool) → ltb j (length d.rules) ≡ b → CyclicRuleRanges tail (28 + 18 * j + 9 * i)
      by j i l true e =
          let m = ltb-true j (length d.rules) e in
          let each = at_each no_limits CyclicLimitsRange d.rules r.rules j m in
          (limit_range tail (28 + 18 * j + 9 * i) (of_two (limits j) i) (o.rules j m no_limits i l)).0
          (at_each (limits j).one CyclicLimitRange (paired (limits j)) each i l)
      by j i l false e =
          let m = ltb-false j (length d.rules) e in
          let size = cycles-size d in
          none_range tail (28 + 18 * j + 9 * i) (omega arith)

  back : CyclesRanges tail → CyclesRange d
  back r =
      record {
        last = last_range.1 r.last;
        accumulators =
            each_at d.accumulators.one CyclicRange (paired d.accumulators)
            (λ i l. (cyclic_range tail (4 + 12 * i) (of_two d.accumulators i) (o.accumulators i l)).1 (r.cycles i l));
        rules =
            each_at no_limits CyclicLimitsRange d.rules
            (λ j m.
            each_at (limits j).one CyclicLimitRange (paired (limits j))
            (λ i l. (limit_range tail (28 + 18 * j + 9 * i) (of_two (limits j) i) (o.rules j m no_limits i l)).1 (r.rules j (omega arith) i l)));
      }

  -- a tail with dates has bytes
  some : CyclesAccepted tail → CyclesRanges tail
  some (inl none) = let size = cycles-size d in absurd (omega arith)
  some (inr r) = r

-- THE STATEMENT: accepted exactly if every field is in its range
pub dates_in_range : (p : ℕ) (d : Dates) → FineDates p d → p ≤ 4 → (are_cycles (cycles_bytes d) ≡ true) ↔ DatesRange d
dates_in_range p undated fine few = (λ e. tt, λ r. cycles_complete (cycles_bytes undated) (inl refl))
dates_in_range p (dated d) fine few =
    let rules = fine.1 in
    let most : length d.rules ≤ 4 = omega arith in (
      λ e. back d fine.0 most (some d fine.0 most (cycles-accepted (cycles_bytes (dated d)) e)),
      λ r. cycles_complete (cycles_bytes (dated d)) (inr (there d fine.0 most r)),
    )
