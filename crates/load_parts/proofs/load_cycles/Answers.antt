use mathlib.Core.Path.{◌≡◌, refl}
use lib.ListN.{length}
use mathlib.Core.List.{List}
use Prim.Native.Nat.{ℕ}
use Rattle.layout.specs.Layout.{cycle_from}
use Rattle.load_parts.specs.LoadParts.{rows, cycle_words, cyclic_rules_words, cycles_words}
use Rattle.load_parts.proofs.Sizes.{cycle-size, cyclic-rules-size}
use Rattle.load_parts.proofs.Stores.{Run, behind, rows-size, two-rows, four-rows}
use borrow.Author.Rules.{rules}
use Rattle.load_parts.proofs.load_cycles.Goals as goal

pub returns : goal.returns
unfolding cycles_words
returns c =
    let third = c in
    let second = third in
    let first = second in
    let other = first in
    let one = other in
    let a = one.args in
    let l = a.words.now in
    let t = a.t.now in
    let cycle : ℕ → List ℕ = λ i. cycle_words t (cycle_from i) in
    let size : (i : ℕ) → length (cycle i) ≡ 3 = λ i. cycle-size t (cycle_from i) in
    let both : Run l 164 (rows 2 cycle) 6 _ =
    record { is = two-rows l 164 3 cycle size 167 one.load_cycle.ensures other.load_cycle-2.ensures refl; size = rows-size l 164 3 cycle size 2 } in
    let rules =
    four-rows _ 170 4 (cyclic_rules_words t) (cyclic-rules-size t) first.load_cyclic_rules.ensures second.load_cyclic_rules-2.ensures
    third.load_cyclic_rules-3.ensures
    c.load_cyclic_rules-4.ensures in
    (behind _ _ _ 164 170 6 16 both rules (rows-size l 170 4 (cyclic_rules_words t) (cyclic-rules-size t) 4) refl).is
