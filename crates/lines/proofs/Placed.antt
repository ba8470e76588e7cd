-- The room after a line: where the longest fits it holds the line; what stands before the place behind it, what stands from there on, and that it is
-- as long. Assumes nothing.
use mathlib.Core.Path.{◌≡◌, refl, sym, ap, ◌∙◌}
use mathlib.Core.Bool.{Bool, true, false}
use mathlib.Core.List.{List, ◌++◌}
use Prim.Native.Nat.{ℕ, ◌+◌, ◌≤◌}
use native.Mathlib.Omega.{arith}
use borrow.Author.Tests.{le-leb, leb-true}
use lib.Dec.{leb}
use lib.ListN.{length, take, drop, length-append, length-drop}
use lib.Seq.{sets, sets-eq, length-take-le, take_at, drop_at}
use Rattle.lines.specs.Lines.{longest, placed, place_behind}

-- where the longest fits, the place is behind the line, and the room holds it
pub behind-is : (room at : ℕ) (text : List ℕ) → at + longest ≤ room → place_behind room at text ≡ at + length text
unfolding place_behind
behind-is room at text fits = rw (le-leb (at + longest) room fits)

pub placed-is : (room : List ℕ) (at : ℕ) (text : List ℕ) → at + longest ≤ length room → length text ≤ longest
    → placed room at text ≡ sets room at text
unfolding placed
placed-is room at text fits short = rw (le-leb (at + longest) (length room) fits) (sym (sets-eq text room at (omega arith)))

module _ (room text : List ℕ) (at : ℕ) (fits : at + longest ≤ length room) where
  before : length (take at room ++ text) ≡ at + length text
  before = length-append (take at room) text ∙ ap (λ (n : ℕ). n + length text) (length-take-le at room (omega arith))

  pub behind : place_behind (length room) at text ≡ at + length text
  behind = behind-is (length room) at text fits

  pub front : take (at + length text) (placed room at text) ≡ take at room ++ text
  unfolding placed
  front = rw (le-leb (at + longest) (length room) fits) (take_at (take at room ++ text) (drop (at + length text) room) (at + length text) before)

  pub rest : drop (at + length text) (placed room at text) ≡ drop (at + length text) room
  unfolding placed
  rest = rw (le-leb (at + longest) (length room) fits) (drop_at (take at room ++ text) (drop (at + length text) room) (at + length text) before)

pub size : (room text : List ℕ) (at : ℕ) → length text ≤ longest → length (placed room at text) ≡ length room
unfolding placed
size room text at short = by (leb (at + longest) (length room)) refl where
  by : (t : Bool) → leb (at + longest) (length room) ≡ t → length (placed room at text) ≡ length room
  by true e =
      let fits = leb-true (at + longest) (length room) e in
      let b = before room text at fits in
      rw (e, length-append (take at room ++ text) (drop (at + length text) room), b, length-drop (at + length text) room) (omega arith)
  by false e = rw e
