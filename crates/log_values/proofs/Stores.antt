-- What stands in the room behind each value. Assumes nothing.
use mathlib.Core.Path.{◌≡◌, ◌∙◌}
use mathlib.Core.Bool.{true, false}
use mathlib.Core.List.{List}
use Prim.Native.Nat.{ℕ, ◌+◌, ◌≤◌}
use native.Mathlib.Omega.{arith}
use borrow.Author.Tests.{le-leb}
use lib.ListN.{length}
use Rattle.text.specs.Text as text
use Rattle.text.proofs.Laws.{placed_in_lem}
use Rattle.text.specs.Stored.{Stored}
use Rattle.log_values.specs.LogValues.{placed, place_behind}

-- a text, where it fits
pub put_in : (room said : List ℕ) (at : ℕ) {end : ℕ} {after : List ℕ} → at + length said ≤ length room
    → end ≡ text.place_behind (length room) at said
    → after ≡ text.placed room at said → Stored room at said (length said) end after
put_in room said at fits e p =
    let there = placed_in_lem room said at fits in
    let behind = e ∙ there.1 in
    record { is = p ∙ there.0; behind = behind; short = omega (arith, behind) }

-- a value, where as many bytes fit as it may have and where they do not
module _ {room after said : List ℕ} {at most end : ℕ} where
  pub place : text.fits (length room) at most ≡ true → Stored room at said most end after
      → (end ≡ place_behind most (length room) at said) × (after ≡ placed most room at said) × (end ≤ at + most)
  unfolding placed place_behind
  place fits p = (simp fits p.behind, simp fits p.is, p.short)

  pub stored : (end ≡ place_behind most (length room) at said) × (after ≡ placed most room at said) × (end ≤ at + most)
      → at + most ≤ length room
      → Stored room at said most end after
  unfolding placed place_behind
  stored p h =
      let fits = le-leb (at + most) (length room) h in
      record { is = simp fits at p.1; behind = simp fits at p.0; short = p.2 }

pub stay : (room said : List ℕ) (at most : ℕ) → text.fits (length room) at most ≡ false
    → (at ≡ place_behind most (length room) at said) × (room ≡ placed most room at said) × (at ≤ at + most)
unfolding placed place_behind
stay room said at most full = (simp full, simp full, omega arith)
