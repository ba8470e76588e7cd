use borrow.Author.Tests.{lt-ltb, le-ltb}
use native.Mathlib.Omega.{arith}
use Rattle.ranges.specs.Ranges.{is_profile_or_absent}
use Rattle.ranges.proofs.is_profile_or_absent.Goals as goal

pub returns-then-byte_at-i : goal.returns-then-byte_at-i
unfolding is_profile_or_absent
returns-then-byte_at-i c = rw (← c.byte_at.ensures) (simp (le-ltb _ _ c.if-byte_at-i.true))

pub returns : goal.returns
unfolding is_profile_or_absent
returns c =
    let there = c in
    rw (← c.profile_place.ensures.0, ← there.byte_at.ensures) (simp (lt-ltb _ _ there.if-byte_at-i.false, c.is_profile.ensures))

pub is_profile-requires : goal.is_profile-requires
is_profile-requires c = omega arith
