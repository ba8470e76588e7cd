-- Up to version 03 nothing is dated and mask bits 0 to 21 are named, up to version 04 a card is a CPA one and bits 0 to 24 are; what a set-up
-- says with no bit above them, it says with more bits named too. Assumes nothing.
use mathlib.Core.Path.{◌≡◌, refl, sym, subst, ◌∙◌}
use mathlib.Core.Bool.{Bool, true, false}
use mathlib.Core.List.{List}
use Prim.Native.Nat.{ℕ, ◌+◌, ◌*◌, ◌^◌, ◌≤◌, ◌<◌}
use native.Mathlib.Omega.{arith}
use Rattle.wire.specs.Wire.{byte, number}
use Rattle.layout.specs.Layout.{profile_from}
use Rattle.ranges.specs.Ranges.{is_setup}
use Rattle.ranges.proofs.Accepted.{Accepted, ProfileRanges, accepted, complete}
use Rattle.shape.specs.declared.Family.TheVariants.{Cpa}
use Rattle.shape.specs.declared.Shape.{Shape}
use Rattle.shape.specs.Shape.{base_length, based, base_tail, file_end, selection_tail, syllabus_tail, dates, dates_end, dating_tail}
use Rattle.shape.specs.Shape.{behind, tails_of, shape_of}
use Rattle.shape.proofs.Ends.{Ends, Read, behind-ends, whole_reads, end-ends, switched_ends, byte-ends}
use Rattle.std.specs.Prelude.{None, Ok, Option, Some}
use Rattle.shape.specs.Shape.{span}
use Rattle.shape.specs.declared.Span.{Span}

-- ---- shapes

pub record Undated (shape : Shape) : Type 0 where
  pub dating : shape.dating ≡ None
  pub family : shape.family ≡ Cpa
  pub unnamed : shape.unnamed ≡ 2 ^ 22

pub record OfCpa (shape : Shape) : Type 0 where
  pub family : shape.family ≡ Cpa
  pub unnamed : shape.unnamed ≡ 2 ^ 25

module _ (body : List ℕ) where
  base-undated : Ends Undated (base_tail body)
  unfolding base_tail
  base-undated = end-ends body Undated (based (base_length body)) (base_length body) (record { dating = refl; family = refl; unnamed = refl })

  selection-undated : (shape : Shape) (at : ℕ) → Undated shape → Ends Undated (selection_tail body shape at)
  unfolding selection_tail
  selection-undated shape at u =
      switched_ends body Undated at shape _ (file_end body at) u (record { dating = u.dating; family = u.family; unnamed = u.unnamed })

  syllabus-undated : (shape : Shape) (at : ℕ) → Undated shape → Ends Undated (syllabus_tail body shape at)
  unfolding syllabus_tail
  syllabus-undated shape at u = byte-ends body Undated at _ (record { dating = u.dating; family = u.family; unnamed = u.unnamed })

  dating-cpa : (shape : Shape) (at : ℕ) → Undated shape → Ends OfCpa (dating_tail body shape at)
  unfolding dating_tail
  dating-cpa shape at u =
      let cpa : (dating : Option Span) → OfCpa (dates shape dating) = λ dating. record { family = u.family; unnamed = refl } in
      switched_ends body OfCpa at _ _ (dates_end body at) (cpa None) (cpa (Some (span at (dates_end body at))))

  tails-undated : Ends Undated (tails_of 3 body)
  unfolding tails_of
  tails-undated =
      behind-ends Undated Undated (behind (base_tail body) (selection_tail body)) (syllabus_tail body) syllabus-undated
      (behind-ends Undated Undated (base_tail body) (selection_tail body) selection-undated base-undated)

  tails-cpa : Ends OfCpa (tails_of 4 body)
  unfolding tails_of
  tails-cpa = behind-ends Undated OfCpa (tails_of 3 body) (dating_tail body) dating-cpa tails-undated

  -- A SHAPE OF VERSION 03
  pub undated : (shape : Shape) → shape_of 3 body ≡ Ok shape → Undated shape
  unfolding shape_of
  undated shape e = subst (Read Undated) e (whole_reads body Undated (tails_of 3 body) tails-undated)

  -- A SHAPE OF VERSION 04
  pub of_cpa : (shape : Shape) → shape_of 4 body ≡ Ok shape → OfCpa shape
  unfolding shape_of
  of_cpa shape e = subst (Read OfCpa) e (whole_reads body OfCpa (tails_of 4 body) tails-cpa)

-- ---- masks

-- Online, Decline and Default, of 4 bytes each behind the number, of each of the p profiles are below a number
pub record MasksBelow (s : List ℕ) (unnamed : ℕ) : Type 0 where
  pub online : (i : ℕ) → i < byte s 3 → number s (52 + 107 * i + 1) 4 < unnamed
  pub decline : (i : ℕ) → i < byte s 3 → number s (52 + 107 * i + 5) 4 < unnamed
  pub default : (i : ℕ) → i < byte s 3 → number s (52 + 107 * i + 9) 4 < unnamed

pub below_more : (s : List ℕ) (fewer more : ℕ) → fewer ≤ more → MasksBelow s fewer → MasksBelow s more
below_more s fewer more h low =
    record {
      online = λ i l. let m = low.online i l in omega arith;
      decline = λ i l. let m = low.decline i l in omega arith;
      default = λ i l. let m = low.default i l in omega arith;
    }

pub accepted-below : (s : List ℕ) (unnamed : ℕ) → is_setup s unnamed ≡ true → MasksBelow s unnamed
accepted-below s unnamed e =
    let profiles = (accepted s unnamed e).profiles in
    record {
      online = λ i h. (profiles i h).online;
      decline = λ i h. (profiles i h).decline;
      default = λ i h. (profiles i h).default;
    }

module _ (s : List ℕ) (one other : ℕ) where
  -- all else that is asked of a base is the same, whichever bits are named
  named_too : MasksBelow s other → is_setup s one ≡ true → is_setup s other ≡ true
  named_too masks e = complete s other (record {
    size = all.size;
    pin = all.pin;
    required = all.required;
    profiles-least = all.profiles-least;
    profiles-most = all.profiles-most;
    conversions-most = all.conversions-most;
    online = all.online;
    accumulators = all.accumulators;
    profiles = λ i h. profile i h (all.profiles i h);
    numbers = all.numbers;
    conversions = all.conversions;
    pairs = all.pairs;
  })
    where
      all : Accepted s one
      all = accepted s one e

      profile : (i : ℕ) → i < byte s 3 → ProfileRanges s one (profile_from i) → ProfileRanges s other (profile_from i)
      profile i h p =
          record {
            number-least = p.number-least;
            number-most = p.number-most;
            online = masks.online i h;
            decline = masks.decline i h;
            default = masks.default i h;
            maximum-on = p.maximum-on;
            maximum-currency = p.maximum-currency;
            maximum = p.maximum;
            accumulators = p.accumulators;
            counters = p.counters;
            accumulator-sent = p.accumulator-sent;
            first-sent = p.first-sent;
            second-sent = p.second-sent;
          }

-- masks below both
pub same-judged : (s : List ℕ) (one other : ℕ) → MasksBelow s one → MasksBelow s other → is_setup s one ≡ is_setup s other
same-judged s one other low high = by (is_setup s one) (is_setup s other) refl refl where
  by : (a b : Bool) → is_setup s one ≡ a → is_setup s other ≡ b → a ≡ b
  by true b e f = sym (named_too s one other high e) ∙ f
  by false true e f = sym e ∙ named_too s other one low f
  by false false e f = refl
