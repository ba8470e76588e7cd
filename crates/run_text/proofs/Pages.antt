-- The page in its text, where the longest fits and where it does not. Assumes nothing.
use mathlib.Core.Path.{◌≡◌}
use mathlib.Core.List.{List, ◌++◌}
use Prim.Native.Nat.{ℕ, ◌≤◌, ◌<◌}
use native.Mathlib.Omega.{arith}
use borrow.Author.Tests.{le-leb, lt-leb}
use lib.ListN.{length}
use lib.Seq.{sets}
use Rattle.text.specs.Stored.{Stored}
use Rattle.run_page.specs.RunPage.{ran_line, hex_lines, page_of, page_size, page_text, page_end}
use Rattle.std.specs.Prelude.{Result}
use Rattle.refusal.specs.declared.Refusal.{Refusal}

module _ (text : List ℕ) (ran : Result ℕ Refusal) (room : List ℕ) where
  pub no_page : length text < page_size (length room) → (0 ≡ page_end (length text) ran room) × (text ≡ page_text text ran room)
  unfolding page_text page_end
  no_page full = let none = lt-leb (page_size (length room)) (length text) full in (rw none, rw none)

  pub page : {after : List ℕ} {end most : ℕ} → page_size (length room) ≤ length text → Stored text 0 (ran_line ran ++ hex_lines room) most end after
      → (end ≡ page_end (length text) ran room) × (after ≡ page_text text ran room)
  unfolding page_text page_end page_of
  page fits p = let room_for = le-leb (page_size (length room)) (length text) fits in (rw room_for (omega (arith, p.behind)), rw room_for p.is)

  -- what is known where it fits
  pub whole : {after : List ℕ} {end : ℕ} → page_size (length room) ≤ length text → end ≡ page_end (length text) ran room → after ≡ page_text text ran room
      → (end ≡ length (page_of ran room)) × (after ≡ sets text 0 (page_of ran room))
  unfolding page_text page_end
  whole fits e p = let room_for = le-leb (page_size (length room)) (length text) fits in (rw room_for at e, rw room_for at p)
