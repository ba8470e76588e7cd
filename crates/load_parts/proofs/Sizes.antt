-- How many words each part of a set-up has. Assumes nothing.
use mathlib.Core.Path.{◌≡◌, refl}
use mathlib.Core.List.{List}
use Prim.Native.Nat.{ℕ}
use lib.ListN.{length}
use Rattle.rules.specs.Word.{word_count}
use Rattle.load_parts.specs.LoadParts.{head_words, rate_words, rates_words, loaded}
use Rattle.load_parts.specs.LoadParts.{rule_words, rules_words, profile_head_words, sent_words, profile_words, profiles_words}
use Rattle.load_parts.specs.LoadParts.{cycle_words, cyclic_rule_words, cyclic_rules_words, cycles_words, family_words}

module _ (s : List ℕ) (at : ℕ) where
  pub rate-size : length (rate_words s at) ≡ 4
  unfolding rate_words
  rate-size = refl

  pub rule-size : (width : ℕ) → length (rule_words s at width) ≡ 3
  unfolding rule_words
  rule-size width = refl

  pub rules-size : (width : ℕ) → length (rules_words s at width) ≡ 12
  unfolding rules_words rule_words
  rules-size width = refl

  pub profile-head-size : length (profile_head_words s at) ≡ 7
  unfolding profile_head_words
  profile-head-size = refl

  pub sent-size : length (sent_words s at) ≡ 3
  unfolding sent_words
  sent-size = refl

  pub profile-size : length (profile_words s at) ≡ 34
  unfolding profile_words profile_head_words rules_words rule_words sent_words
  profile-size = refl

module _ (s : List ℕ) where
  pub head-size : length (head_words s) ≡ 7
  unfolding head_words
  head-size = refl

  pub rates-size : length (rates_words s) ≡ 20
  unfolding rates_words rate_words
  rates-size = refl

  pub profiles-size : length (profiles_words s) ≡ 136
  unfolding profiles_words profile_words profile_head_words rules_words rule_words sent_words
  profiles-size = refl

-- of the tail of version 04
module _ (t : List ℕ) where
  pub cycle-size : (at : ℕ) → length (cycle_words t at) ≡ 3
  unfolding cycle_words
  cycle-size at = refl

  pub cyclic-rule-size : (at : ℕ) → length (cyclic_rule_words t at) ≡ 2
  unfolding cyclic_rule_words
  cyclic-rule-size at = refl

  pub cyclic-rules-size : (j : ℕ) → length (cyclic_rules_words t j) ≡ 4
  unfolding cyclic_rules_words cyclic_rule_words
  cyclic-rules-size j = refl

  pub cycles-size : length (cycles_words t) ≡ 22
  unfolding cycles_words cycle_words cyclic_rules_words cyclic_rule_words
  cycles-size = refl

-- of the tail of version 05
pub family-size : (f : List ℕ) → length (family_words f) ≡ 12
unfolding family_words
family-size f = refl

pub loaded-size : (s t f : List ℕ) (syllabus : ℕ) → length (loaded s t f syllabus) ≡ word_count
unfolding loaded head_words rates_words rate_words profiles_words profile_words profile_head_words rules_words rule_words sent_words
    cycles_words cycle_words cyclic_rules_words cyclic_rule_words family_words
loaded-size s t f syllabus = refl
