use borrow.Author.Rules.{rules}
use borrow.Author.Tests.{eq-eqb, ne_eqb}
use lib.ListN.{length, get_or-eq_default}
use mathlib.Core.Path.{◌≡◌, sym, ◌∙◌}
use native.Mathlib.Omega.{arith}
use Prim.Native.Nat.{◌+◌, ◌≤◌}
use Rattle.wire.specs.Wire.{byte}
use Rattle.cpace.specs.Cpace.{cvm_at}
use Rattle.cpace.proofs.cvm_at.Goals as goal

-- past the end every byte is 0, and 0 is no CVM's code
pub returns-then-s-at : goal.returns-then-s-at
unfolding cvm_at
returns-then-s-at c =
    let a = c.args in
    let s = a.s.now in
    let h : length s ≤ a.at = c.if-s-at.true in
    let first : byte s a.at ≡ 0 = get_or-eq_default s 0 h in
    let last : byte s (a.at + 2) ≡ 0 = get_or-eq_default s 0 (omega arith) in
    simp (first, last)

pub returns-then-byte_at-eq0 : goal.returns-then-byte_at-eq0
unfolding cvm_at
returns-then-byte_at-eq0 c =
    let tested = c in
    simp (c.method_of.ensures, c.byte_at-then-byte_at-eq0.ensures, eq-eqb _ _ (sym tested.byte_at.ensures ∙ tested.if-byte_at-eq0.true))

pub returns : goal.returns
unfolding cvm_at
returns c = simp (sym c.byte_at.ensures, ne_eqb _ _ c.if-byte_at-eq0.false)
