-- What the words say once limits are put into them: what they said, with these limits. Assumes nothing.
use mathlib.Core.Path.{◌≡◌, refl, sym, ap, subst}
use mathlib.Core.Bool.{Bool, true, false, cond}
use mathlib.Core.List.{List, [], ◌∷◌}
use Prim.Native.Nat.{ℕ, zero, suc, ◌+◌, ◌*◌, ◌%◌, ◌≤◌, ◌<◌}
use native.Mathlib.Nat.{mod-eq_of_lt}
use borrow.Author.Tests.{ltb-true, ltb-false}
use lib.Dec.{ltb}
use lib.ListN.{length, get_or, length-set}
use Rattle.money.specs.declared.AccumulatorAmount.{AccumulatorAmount}
use Rattle.rules.specs.declared.Place.TheVariants.{One, Two, Three, Four}
use Rattle.rules.specs.Rules.{Rules, rules_of, profile_of}
use Rattle.rules.specs.Limits.{limits_put, limits_put_in_all, accumulator_limits_put, counter_limits_put, with_accumulator_limits, with_counter_limits}
use Rattle.rules.specs.Word as word
use Rattle.rules.proofs.Places.{each}
use Rattle.rules.proofs.Limits.{words-whole, accumulator_limited, counter_limited}

-- one profile after the other
pub in_all : (rule lower upper : ℕ) (w : List ℕ) {a b c d : List ℕ} → a ≡ limits_put One rule lower upper w → b ≡ limits_put Two rule lower upper a
    → c ≡ limits_put Three rule lower upper b
    → d ≡ limits_put Four rule lower upper c
    → d ≡ limits_put_in_all rule lower upper w
unfolding limits_put_in_all
in_all rule lower upper w first second third fourth = simp (fourth, third, second, first)

-- n words, by their places
abbrev listed : ℕ → (ℕ → ℕ) → List ℕ
listed zero f = []
listed (suc n) f = f 0 ∷ listed n (λ k. f (suc k))

listed-all : (w : List ℕ) → listed (length w) (λ k. get_or w k 0) ≡ w
listed-all [] = refl
listed-all (x ∷ w) = ap (λ (r : List ℕ). x ∷ r) (listed-all w)

-- all the words
abbrev written : (ℕ → ℕ) → List ℕ
written = listed word.word_count

-- at the place of each rule, by computing
module _ (f : ℕ → ℕ) where
  accumulator_computed : (lower upper : AccumulatorAmount) (i : ℕ) → i < 4
      → rules_of (limits_put_in_all (word.accumulators + word.rule_length * i) lower.0 upper.0 (written f))
      ≡ with_accumulator_limits (rules_of (written f)) i lower upper
  unfolding rules_of profile_of limits_put limits_put_in_all with_accumulator_limits
  accumulator_computed lower upper = each _ refl refl refl refl

  counter_computed : (lower upper i : ℕ) → i < 4
      → rules_of (limits_put_in_all (word.counters + word.rule_length * i) lower upper (written f))
      ≡ with_counter_limits (rules_of (written f)) i (lower % 256) (upper % 256)
  unfolding rules_of profile_of limits_put limits_put_in_all with_counter_limits
  counter_computed lower upper = each _ refl refl refl refl

module _ (w : List ℕ) where
  -- they stay as many
  put-size : (rule lower upper : ℕ) → length (limits_put_in_all rule lower upper w) ≡ length w
  unfolding limits_put limits_put_in_all
  put-size rule lower upper = simp length-set

  picked : (b : Bool) (v : List ℕ) → length v ≡ length w → length (cond b v w) ≡ length w
  picked true v e = e
  picked false v e = refl

  pub accumulator-size : (i : ℕ) (lower upper : AccumulatorAmount) → length (accumulator_limits_put w i lower upper) ≡ length w
  unfolding accumulator_limits_put
  accumulator-size i lower upper = picked (ltb i 4) _ (put-size _ _ _)

  pub counter-size : (i lower upper : ℕ) → length (counter_limits_put w i lower upper) ≡ length w
  unfolding counter_limits_put
  counter-size i lower upper = picked (ltb i 4) _ (put-size _ _ _)

  module _ (size : length w ≡ word.word_count) where
    listed-words : written (λ k. get_or w k 0) ≡ w
    listed-words = subst (λ (n : ℕ). listed n (λ k. get_or w k 0) ≡ w) size (listed-all w)

    settled : (i rule lower upper : ℕ) (with : Rules → Rules)
        → (i < 4 → rules_of (limits_put_in_all rule lower upper (written (λ k. get_or w k 0))) ≡ with (rules_of (written (λ k. get_or w k 0))))
        → (4 ≤ i → with (rules_of w) ≡ rules_of w)
        → rules_of (cond (ltb i 4) (limits_put_in_all rule lower upper w) w) ≡ with (rules_of w)
    settled i rule lower upper with inside past = by (ltb i 4) refl where
      by : (b : Bool) → ltb i 4 ≡ b → rules_of (cond b (limits_put_in_all rule lower upper w) w) ≡ with (rules_of w)
      by true e = subst (λ (v : List ℕ). rules_of (limits_put_in_all rule lower upper v) ≡ with (rules_of v)) listed-words (inside (ltb-true i 4 e))
      by false e = sym (past (ltb-false i 4 e))

    pub accumulator-limits : (i : ℕ) (lower upper : AccumulatorAmount)
        → rules_of (accumulator_limits_put w i lower upper) ≡ with_accumulator_limits (rules_of w) i lower upper
    unfolding accumulator_limits_put
    accumulator-limits i lower upper =
        settled i (word.accumulators + word.rule_length * i) lower.0 upper.0 (λ r. with_accumulator_limits r i lower upper)
        (accumulator_computed (λ k. get_or w k 0) lower upper i)
        ((accumulator_limited (rules_of w) i lower upper).none (words-whole w))

    pub counter-limits : (i lower upper : ℕ) → lower < 256 → upper < 256
        → rules_of (counter_limits_put w i lower upper) ≡ with_counter_limits (rules_of w) i lower upper
    unfolding counter_limits_put
    counter-limits i lower upper p q =
        settled i (word.counters + word.rule_length * i) lower upper (λ r. with_counter_limits r i lower upper)
        (λ h. simp (mod-eq_of_lt p, mod-eq_of_lt q) at (counter_computed (λ k. get_or w k 0) lower upper i h))
        ((counter_limited (rules_of w) i lower upper).none (words-whole w))
