use mathlib.Core.Path.{ap₂, ◌∙◌}
use Prim.Native.Nat.{ℕ, ◌+◌, ◌*◌}
use Rattle.run_log.specs.RunLog.{given_by}
use Rattle.run_log.proofs.Going.{five, same-fields}
use Rattle.run_log.proofs.given_by.Goals as goal

pub returns : goal.returns
unfolding given_by
returns c =
    let atc = c in
    let cid = atc in
    let upper = cid in
    let s = upper.args.answer.now in
    same-fields (simp (atc.kind_by.ensures, cid.byte_at.ensures)) atc.u16_at.ensures c.byte_at-2.ensures
    (ap₂ (λ (x y : ℕ). x * 4294967296 + y) upper.byte_at-upper.ensures c.u32_at.ensures ∙ five s 7)
