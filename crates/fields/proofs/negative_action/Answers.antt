use borrow.Author.Rules.{rules}
use mathlib.Core.Path.{ap, ◌∙◌}
use Prim.Native.Nat.{ℕ, ◌+◌}
use Rattle.wire.specs.Wire.{byte}
use Rattle.fields.proofs.negative_action.Goals as goal

pub returns : goal.returns
returns c =
    let e = c.args.entry.now in
    c.byte_at.ensures ∙ ap (λ (p : ℕ). byte e (p + 2)) c.blocks_end.ensures.0
