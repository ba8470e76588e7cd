use native.Mathlib.Omega.{arith}
use mathlib.Core.Path.{refl, sym, ap, ◌∙◌}
use Prim.Native.Nat.{ℕ, ◌-◌}
use Rattle.wire.specs.Wire.{number}
use Rattle.entry.proofs.Compared.{turn, ended}
use Rattle.entry.proofs.compare.Goals as goal

pub loop-k-init : goal.loop-k-init
unfolding number
loop-k-init c =
    record {
      bytes = λ n. (c.shared_slice_known-1.given n).fits;
      told = λ n. (c.shared_slice_known-2-1.given n).fits;
      starts = ap (λ (p : ℕ). p - 1) c.byte_at.ensures;
      long = c.byte_at-length.ensures;
      placed = c.block_place-place.ensures.0;
      within = omega arith;
      same = refl;
    }

pub returns-then-is_ne : goal.returns-then-is_ne
returns-then-is_ne c =
    (turn _ _ _ _ _ _ _ c.loop-k.invariant _ _ _ _ c.loop-k-test.true
    c.byte_at-in-loop-k.ensures c.byte_at-mask.ensures c.byte_at-value.ensures c.cmp-order.ensures).0 (sym c.is_ne.ensures ∙ c.if-is_ne.true)

pub loop-k-preserved : goal.loop-k-preserved
loop-k-preserved c =
    (turn _ _ _ _ _ _ _ c.loop-k.invariant _ _ _ _ c.loop-k-test.true
    c.byte_at-in-loop-k.ensures c.byte_at-mask.ensures c.byte_at-value.ensures c.cmp-order.ensures).1 (sym c.is_ne.ensures ∙ c.if-is_ne.false)

pub returns : goal.returns
returns c = ended _ _ _ _ _ _ _ c.loop-k.invariant c.loop-k-test.false
