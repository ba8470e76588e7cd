-- A text that is placed, and what a turn then says. Assumes nothing.
use mathlib.Core.Path.{◌≡◌, refl}
use mathlib.Core.Bool.{Bool, true, false, cond}
use mathlib.Core.List.{List}
use Prim.Native.Nat.{ℕ, ◌+◌, ◌≤◌, ◌<◌}
use borrow.Author.Tests.{le-leb, lt-leb}
use lib.Dec.{leb}
use lib.ListN.{length}
use lib.Seq.{sets}
use Rattle.blocks.specs.declared.Wants.TheVariants as Wants
use Rattle.blocks.specs.Blocks.{placed_text, text_room, turned_over, said_by}
use Rattle.std.specs.Prelude.{None, Some}
use Rattle.blocks.specs.Blocks as Blocks

-- a text that is placed, and one for which there is no room
pub text-placed : (room text : List ℕ) (to : ℕ) → to + length text ≤ length room
    → (Some (to + length text) ≡ placed_text (length room) to text) × (sets room to text ≡ text_room room to text)
text-placed room text to h = let e = le-leb (to + length text) (length room) h in (rw e, rw e)

pub text_stays : (room text : List ℕ) (to : ℕ) → length room < to + length text
    → (None ≡ placed_text (length room) to text) × (room ≡ text_room room to text)
text_stays room text to h = let e = lt-leb (to + length text) (length room) h in (rw e, rw e)

pub text-said : (room to skip taken : ℕ) (text words : List ℕ)
    → turned_over taken skip to (placed_text room to text) ≡ said_by room to skip (Blocks.page taken (length text) text words)
text-said room to skip taken text words = by (leb (to + length text) room) where
  by : (b : Bool) → turned_over taken skip to (cond b (Some (to + length text)) None)
      ≡ cond b (record { taken = taken; skip = 0; end = to + length text; wants = Wants.Turn })
      (record { taken = 0; skip = skip; end = to; wants = Wants.Room })
  by true = refl
  by false = refl
