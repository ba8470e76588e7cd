use borrow.Author.Rules.{rules}
use mathlib.Core.Path.{refl, ap, ◌∙◌}
use Prim.Native.Nat.{◌+◌}
use lib.Seq.{sets}
use Rattle.layout.specs.Layout as layout
use Rattle.rules.specs.Word as word
use Rattle.load.specs.Load.{profile_words, profile_head_words}
use Rattle.load_parts.proofs.Sizes.{profile-head-size, rules-size, sent-size}
use Rattle.load_parts.proofs.Stores.{Run, behind}
use Rattle.load.proofs.load_profile.Goals as goal

pub returns : goal.returns
unfolding profile_words
returns c =
    let counters = c in
    let accumulators = counters in
    let head = accumulators in
    let placed = head in
    let a = placed.args in
    let s = a.s.now in
    let place = placed.profile_place-at in
    let at = place.result in
    let to = word.profile_from a.i in
    let run1 : Run a.words.now to (profile_head_words s at) 7 _ = record { is = head.load_profile_head.ensures; size = profile-head-size s at } in
    let run2 = behind _ _ _ to (to + 7) 7 12 run1 accumulators.load_rules.ensures (rules-size s (at + layout.accumulator_rules) 8) refl in
    let run3 = behind _ _ _ to (to + 19) 19 12 run2 counters.load_rules-2.ensures (rules-size s (at + layout.counter_rules) 1) refl in
    let run4 = behind _ _ _ to (to + 31) 31 3 run3 c.load_sent.ensures (sent-size s at) refl in
    run4.is ∙ ap (λ p. sets a.words.now to (profile_words s p)) place.ensures.0
