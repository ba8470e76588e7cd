-- Six bytes, one after another.
use borrow.Author.Rules.{rules}
use borrow.Author.Tests.{tests}
use mathlib.Core.Bool.{and_assoc, and-true}
use mathlib.Core.Path.{refl, ◌∙◌}
use Prim.Native.Nat.{◌+◌}
use Rattle.std.proofs.lemmas.Iterator.{YieldsList-from_range}
use Rattle.std.proofs.lemmas.Iterator.Search.{all_from_yields_List}
use Rattle.wire.specs.Wire.{byte, is_pair}
use Rattle.digits.specs.Digits.{are_pairs}
use Rattle.digits.proofs.are_pairs.Goals as goal

pub returns : goal.returns
unfolding are_pairs
returns c =
    let e = all_from_yields_List (λ k. is_pair (byte c.args.s.now (c.args.at + k))) _ _ c.all.result c.all.ensures.ran (YieldsList-from_range 0 6 6 (cc) refl) (λ x b q k. search (rules, tests)) in
    e ∙ simp (and_assoc, and-true)
