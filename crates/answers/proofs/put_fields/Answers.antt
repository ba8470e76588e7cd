use mathlib.Core.Path.{ap, ◌∙◌}
use Prim.Native.Nat.{◌+◌}
use native.Mathlib.Omega.{arith}
use lib.Seq.{sets, length-sets}
use Rattle.text.specs.Text.{placed}
use Rattle.text.proofs.Laws.{sets_on, placed_in_lem}
use Rattle.answers.specs.Answers.{head_of}
use Rattle.answers.proofs.put_fields.Goals as goal

pub returns : goal.returns
returns c =
    let second = c in
    let between = second in
    let first = between in
    let start = first in
    let a = start.args in
    let room = a.room.now in
    let iad = a.iad.now in
    let head = head_of a.refusal a.cid a.atc in
    let put = first.put.ensures.1 ∙ (placed_in_lem room head a.at (omega arith)).0 in
    let size = length-sets room a.at head in
    second.put-2.ensures.1
    ∙ ap (λ before. placed before (a.at + 4) iad) put
    ∙ (placed_in_lem (sets room a.at head) iad (a.at + 4) (omega (arith, size, start.requires))).0
    ∙ sets_on room head iad a.at
