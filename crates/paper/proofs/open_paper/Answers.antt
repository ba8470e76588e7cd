-- The branches are those of the definition; what is not a record is refused.
use borrow.Author.Tests.{eq-eqb, ne_eqb}
use mathlib.Core.Path.{◌≡◌, refl}
use Prim.Native.Nat.{ℕ}
use Rattle.refusal.specs.declared.Refusal.TheVariants.{Unreadable}
use Rattle.paper.specs.Paper.{open_paper, setup_in}
use Rattle.paper.specs.declared.Next.{Next}
use Rattle.paper.specs.declared.Next.TheVariants.{Record, Fault, End}
use Rattle.std.specs.Prelude.{Err}
use Rattle.paper.proofs.open_paper.Goals as goal

no_record : (version : ℕ) (n : Next) → ((kind start end : ℕ) → n ≡ Record kind start end → ⊥) → setup_in version n ≡ Err Unreadable
no_record version (Record kind start end) none = absurd (none kind start end refl)
no_record version Fault none = refl
no_record version End none = refl

pub returns-then-s-version : goal.returns-then-s-version
unfolding open_paper
returns-then-s-version c = rw (← c.byte_at-version.ensures) (simp c.if-s-version.true)

pub returns-in_default : goal.returns-in_default
unfolding open_paper
returns-in_default c =
    rw (← c.byte_at-version.ensures, ← c.record_at.ensures)
    (simp (c.if-s-version.false, no_record c.byte_at-version.result c.record_at.result c.in_default.not-Record))

pub returns-then-kind-ne-SETUP : goal.returns-then-kind-ne-SETUP
unfolding open_paper
returns-then-kind-ne-SETUP c =
    rw (← c.byte_at-version.ensures, ← c.record_at.ensures)
    (simp (c.if-s-version.false, c.in-Record.is, ne_eqb _ _ c.if-kind-ne-SETUP.true))

pub returns : goal.returns
unfolding open_paper
returns c =
    rw (← c.byte_at-version.ensures, ← c.record_at.ensures)
    (simp (c.if-s-version.false, c.in-Record.is, eq-eqb _ _ c.if-kind-ne-SETUP.false))
