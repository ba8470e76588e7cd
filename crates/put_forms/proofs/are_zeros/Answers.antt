use borrow.Author.Rules.{rules}
use borrow.Author.Tests.{tests}
use mathlib.Core.Path.{◌∙◌, refl}
use native.Mathlib.Nat.{sub-zero}
use lib.Dec.{eqb}
use Rattle.std.proofs.lemmas.Iterator.{YieldsList-from_range}
use Rattle.std.proofs.lemmas.Iterator.Search.{all_from_yields_List}
use Rattle.wire.specs.Wire.{byte}
use Rattle.put_forms.proofs.Laws.{all-zeros}
use Rattle.put_forms.proofs.are_zeros.Goals as goal

pub returns : goal.returns
returns c =
    let s = c.args.bytes.now in
    let n = c.args.count in
    all_from_yields_List (λ k. eqb (byte s k) 0) _ _ c.all.result c.all.ensures.ran (YieldsList-from_range 0 n n refl (sub-zero n)) (λ x b q k. search (rules, tests)) ∙ all-zeros s 0 n
