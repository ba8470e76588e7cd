use mathlib.Core.Path.{refl}
use Prim.Native.Nat.{◌+◌}
use Rattle.wire.specs.Wire.{byte}
use Rattle.rules.specs.Rules.{four}
use Rattle.load_parts.specs.LoadParts.{family_words}
use Rattle.load_parts.proofs.Stores.{Run, behind}
use borrow.Author.Rules.{rules}
use Rattle.load_parts.proofs.load_family.Goals as goal

pub returns : goal.returns
unfolding family_words
returns c =
    let counters = c in
    let accumulators = counters in
    let a = accumulators.args in
    let f = a.f.now in
    let first : Run a.words.now 186 (four (λ i. byte f (1 + i))) 4 _ = record { is = accumulators.load_bytes.ensures; size = refl } in
    let both = behind _ _ (four (λ i. byte f (5 + i))) 186 190 4 4 first counters.load_bytes-2.ensures refl refl in
    (behind _ _ (four (λ j. byte f (9 + j))) 186 194 8 4 both c.load_bytes-3.ensures refl refl).is
