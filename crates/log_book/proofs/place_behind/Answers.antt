-- A record lies in the paper; at a fault and at the end the place stays.
use mathlib.Core.Path.{◌≡◌, refl, subst, ap, sym}
use mathlib.Core.List.{List}
use Prim.Native.Nat.{ℕ, ◌≤◌}
use lib.ListN.{length}
use Rattle.paper.specs.declared.Next.{Next}
use Rattle.paper.specs.declared.Next.TheVariants.{Record, Fault, End}
use Rattle.paper.specs.declared.Reader.{Reader}
use Rattle.paper.specs.Paper.{next_at, onward, place_after}
use Rattle.paper.proofs.Walk.{inside}
use Rattle.log_book.proofs.place_behind.Goals as goal

behind-inside : (s : List ℕ) (at : ℕ) → at ≤ length s → place_after s at ≤ length s
unfolding place_after
behind-inside s at h = by (next_at s at) refl where
  by : (next : Next) → next_at s at ≡ next → onward at next ≤ length s
  by (Record kind start end) is = (inside s at kind start end is).fits
  by Fault is = h
  by End is = h

pub returns : goal.returns
returns c =
    let a = c.args in
    let is : c.pass.result.at ≡ place_after a.paper.now a.at = ap (λ (r : Reader). r.at) c.pass.ensures in
    (is, subst (λ (n : ℕ). n ≤ length a.paper.now) (sym is) (behind-inside a.paper.now a.at c.requires))
