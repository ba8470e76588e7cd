-- The words after a load (document 01, "The paper"; what the words mean is said in `rules`).
use Rattle.std.specs.Prelude.{ℕ, List}
use Rattle.std.proofs.lemmas.List.Edits.{sets}
unfoldable pub use Rattle.load_parts.specs.LoadParts.{head_words, rate_words, rates_words, limit_in, rule_words, rules_words, profile_head_words, sent_words}
unfoldable pub use Rattle.load_parts.specs.LoadParts.{profile_words, profiles_words, cycle_words, cyclic_rule_words, cyclic_rules_words, cycles_words, family_words}
unfoldable pub use Rattle.load_parts.specs.LoadParts.{loaded}
pub use Rattle.load_parts.specs.LoadParts.{rows, onward}

-- the words after a load: all of them are stored
abbrev pub stored : (words s t f : List ℕ) → ℕ → List ℕ
stored words s t f syllabus = sets words 0 (loaded s t f syllabus)
