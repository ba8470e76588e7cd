-- What a script writes into the words leaves as many of them. Assumes nothing.
use mathlib.Core.Path.{◌≡◌, refl, ◌∙◌}
use mathlib.Core.Bool.{Bool, true, false, cond}
use mathlib.Core.List.{List, [], ◌∷◌}
use Prim.Native.Nat.{ℕ, ◌+◌}
use lib.Dec.{ltb}
use lib.ListN.{length, set, length-set}
use Rattle.rules.specs.declared.Place.{Place}
use Rattle.rules.specs.declared.Place.TheVariants.{One, Two, Three, Four}
use Rattle.rules.specs.Rules.{profile_base}
use Rattle.rules.specs.Word as word
use Rattle.rules.specs.Limits.{limits_put, limits_put_in_all, accumulator_limits_put, counter_limits_put}
use Rattle.element.specs.declared.Write.{Write}
use Rattle.element.specs.declared.Write.TheVariants.{Value, AccumulatorLimits, CounterLimits}
use Rattle.script.specs.Script.{words_with, words_after}

in_one : (place : Place) (rule lower upper : ℕ) (w : List ℕ) → length (limits_put place rule lower upper w) ≡ length w
unfolding limits_put
in_one place rule lower upper w =
    let at = profile_base place + rule in
    length-set (set w (at + word.lower) lower) (at + word.upper) upper ∙ length-set w (at + word.lower) lower

in_all : (b : Bool) (rule lower upper : ℕ) (w : List ℕ) → length (cond b (limits_put_in_all rule lower upper w) w) ≡ length w
unfolding limits_put_in_all
in_all true rule lower upper w =
    in_one Four rule lower upper _ ∙ in_one Three rule lower upper _ ∙ in_one Two rule lower upper _ ∙ in_one One rule lower upper w
in_all false rule lower upper w = refl

by_one_lem : (w : List ℕ) (write : Write) → length (words_with w write) ≡ length w
unfolding accumulator_limits_put counter_limits_put
by_one_lem w (Value slot amount) = refl
by_one_lem w (AccumulatorLimits slot lower upper) = in_all (ltb slot 4) _ lower.0 upper.0 w
by_one_lem w (CounterLimits slot lower upper) = in_all (ltb slot 4) _ lower upper w

pub as_many : (w : List ℕ) (ws : List Write) → length (words_after w ws) ≡ length w
as_many w [] = refl
as_many w (write ∷ ws) = as_many (words_with w write) ws ∙ by_one_lem w write
