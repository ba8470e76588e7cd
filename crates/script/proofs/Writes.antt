-- Writes in their order, some of them done. Assumes nothing.
use mathlib.Core.Path.{◌≡◌, sym, ap, ◌∙◌}
use mathlib.Core.List.{List, [], ◌++◌, foldl, foldl-append}
use mathlib.Core.Bool.{true}
use Prim.Native.Nat.{ℕ}
use Rattle.rules.specs.declared.Values.{Values}
use Rattle.rules.specs.Rules.{rules_of}
use Rattle.element.specs.declared.Write.{Write}
use Rattle.put_data.specs.PutData.{writes_of, is_valid}
use Rattle.put_data.proofs.Cursor.{left, at-start}
use Rattle.script.specs.Script.{values_with, rules_with, words_with, values_after, rules_after, words_after, given}

-- what writes leave of words and values
abbrev pub Left : List ℕ → Values → List Write → List ℕ → Values → Type 0
Left w v ws w' v' = (v' ≡ values_after v ws) × (w' ≡ words_after w ws) × (rules_of w' ≡ rules_after (rules_of w) ws)

-- what is to come to the same: the writes ws at w and v, and those that there were at the start
pub record Alike (w : List ℕ) (v : Values) (ws : List Write) (w₀ : List ℕ) (v₀ : Values) (ws₀ : List Write) : Type 0 where
  pub values : values_after v ws ≡ values_after v₀ ws₀
  pub words : words_after w ws ≡ words_after w₀ ws₀
  pub rules : rules_after (rules_of w) ws ≡ rules_after (rules_of w₀) ws₀

-- one after the other
split : {A : Type 0} (one : A → Write → A) (a b : A) (all ws rest : List Write) → all ≡ ws ++ rest → b ≡ foldl one a ws
    → foldl one b rest ≡ foldl one a all
split one a b all ws rest e d = ap (λ x. foldl one x rest) d ∙ sym (foldl-append one a ws rest) ∙ ap (foldl one a) (sym e)

module _ (w : List ℕ) (v : Values) where
  pub at_first : (ws ws₀ : List Write) → ws ≡ ws₀ → Alike w v ws w v ws₀
  at_first ws ws₀ e =
      record {
        values = ap (values_after v) e;
        words = ap (words_after w) e;
        rules = ap (rules_after (rules_of w)) e;
      }

  module _ (w₀ : List ℕ) (v₀ : Values) (ws₀ : List Write) where
    -- some are done
    pub passed : (all ws rest : List Write) → all ≡ ws ++ rest → Alike w v all w₀ v₀ ws₀
        → (w' : List ℕ) (v' : Values) → Left w v ws w' v' → Alike w' v' rest w₀ v₀ ws₀
    passed all ws rest e h w' v' p =
        record {
          values = split values_with v v' all ws rest e p.0 ∙ h.values;
          words = split words_with w w' all ws rest e p.1 ∙ h.words;
          rules = split rules_with (rules_of w) (rules_of w') all ws rest e p.2 ∙ h.rules;
        }

    -- all are done
    pub at_last : (ws : List Write) → ws ≡ [] → Alike w v ws w₀ v₀ ws₀ → Left w₀ v₀ ws₀ w v
    at_last ws e h = (ap (values_after v) (sym e) ∙ h.values, ap (words_after w) (sym e) ∙ h.words, ap (rules_after (rules_of w)) (sym e) ∙ h.rules)

-- those of a valid command
pub all_left : (c : List ℕ) → is_valid c ≡ true → left c 0 ≡ given (writes_of c)
all_left c h = sym (ap given (at-start c h).1)
