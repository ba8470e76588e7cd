-- Behind the end, as behind the last byte, there is nothing.
use mathlib.Core.List.{List}
use mathlib.Core.Path.{◌≡◌, sym, ap, ◌∙◌}
use Prim.Native.Nat.{ℕ, suc, ◌+◌, ◌-◌}
use native.Mathlib.Numerals.{add-one}
use native.Mathlib.Omega.{arith}
use lib.ListN.{length, take, drop, length-drop, drop_of_length-le}
use lib.Seq.{take_all}
use Rattle.pieces.specs.Pieces.{behind, behind_place}
use Rattle.pieces.proofs.behind.Goals as goal

left : (text : List ℕ) (at : ℕ) → take (length text - at) (drop at text) ≡ drop at text
left text at = take_all (length text - at) (drop at text) (omega (arith, length-drop at text))

pub returns-then-at-text : goal.returns-then-at-text
unfolding behind behind_place
returns-then-at-text c =
    let call = c in
    let lent = call.args.text in
    let text = lent.now in
    let at = call.place_of-at.result in
    let nothing = drop_of_length-le text {i = at} (omega arith) ∙ sym (drop_of_length-le text {i = suc at} (omega arith)) in (
      left text at ∙ nothing ∙ ap (λ (k : ℕ). drop (suc k) text) call.place_of-at.ensures.0,
      ap (λ (k : ℕ). (lent.ref_ptr.0, k)) (omega arith),
    )

pub returns : goal.returns
unfolding behind behind_place
returns c =
    let call = c in
    let lent = call.args.text in
    let text = lent.now in
    let at = call.place_of-at.result in (
      left text (at + 1) ∙ ap (λ (k : ℕ). drop k text) (add-one at) ∙ ap (λ (k : ℕ). drop (suc k) text) call.place_of-at.ensures.0,
      ap (λ (k : ℕ). (lent.ref_ptr.0, k)) (omega arith),
    )
