use borrow.Author.Rules.{rules}
use mathlib.Core.Path.{refl}
use mathlib.Core.List.{[], ◌∷◌}
use Rattle.load.specs.Load.{loaded, head_words}
use Rattle.load_parts.proofs.Sizes.{head-size, profiles-size, rates-size, cycles-size, family-size}
use Rattle.load_parts.proofs.Stores.{Run, behind}
use Rattle.load.proofs.load.Goals as goal

pub returns : goal.returns
unfolding loaded
returns c =
    let cycles = c in
    let profiles = cycles in
    let rates = profiles in
    let head = rates in
    let known = head in
    let a = known.args in
    let s = a.s.now in
    let run1 : Run a.words.now 0 (head_words s) 7 _ = record { is = head.load_head.ensures; size = head-size s } in
    let run2 = behind _ _ _ 0 7 7 20 run1 rates.load_rates.ensures (rates-size s) refl in
    let run3 = behind _ _ _ 0 27 27 136 run2 profiles.load_profiles.ensures (profiles-size s) refl in
    let run4 = behind _ _ (a.syllabus ∷ []) 0 163 163 1 run3 refl refl refl in
    let run5 = behind _ _ _ 0 164 164 22 run4 cycles.load_cycles.ensures (cycles-size a.t.now) refl in
    let run6 = behind _ _ _ 0 186 186 12 run5 c.load_family.ensures (family-size a.f.now) refl in
    run6.is
