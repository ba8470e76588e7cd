-- What a text tells of the room. Assumes nothing.
use mathlib.Core.Path.{◌≡◌, refl, ap, subst}
use mathlib.Core.Bool.{Bool, true, false, cond}
use mathlib.Core.List.{List, [], ◌∷◌}
use Prim.Native.Nat.{ℕ, ◌+◌, ◌-◌, ◌≤◌, ◌<◌}
use native.Mathlib.Omega.{arith}
use borrow.Author.Tests.{leb-true}
use lib.Dec.{leb, ltb}
use lib.ListN.{length, set, length-append, length-set}
use lib.Seq.{sets, length-sets}
use Rattle.text.proofs.Laws.{sets_on}
use Rattle.paper_text.specs.PaperText.{text_of, room_for_text, has_text_room, text_put, room_put, EndsIn}
use Rattle.blocks.specs.declared.Wants.TheVariants as Wants
use Rattle.pages.specs.Stack.{page_of}
use Rattle.pages.specs.Turn.{page_put, page_room, turned_over, too_long, passing, said_by, room_by, words_by}
use Rattle.std.specs.Prelude.{None, Option, Some}
use Rattle.pages.specs.Turn as Turn

by-none : (b : Bool) (end : ℕ) → cond b (Some end) None ≡ None → b ≡ false
by-none true end e = absurd (let z : ◌≡◌ {A = ℕ} 0 1 = cc in omega arith)
by-none false end e = refl

by_whole : (b : Bool) (end place : ℕ) → cond b (Some end) None ≡ Some place → (b ≡ true) × (place ≡ end)
by_whole true end place e = (refl, cc)
by_whole false end place e = absurd (let z : ◌≡◌ {A = ℕ} 0 1 = cc in omega arith)

pub ends_in : (at bytes end : ℕ) (put : Option ℕ) → EndsIn at bytes put → put ≡ Some end → end < at + room_for_text bytes
ends_in at bytes end put h e = subst (EndsIn at bytes) e h

module _ (words paper room : List ℕ) (at : ℕ) where
  none : text_put words paper room at ≡ None → has_text_room (length room) at (length paper) ≡ false
  unfolding text_put
  none e = by-none (has_text_room (length room) at (length paper)) (at + length (text_of words paper)) e

  whole : (end : ℕ) → text_put words paper room at ≡ Some end
      → (has_text_room (length room) at (length paper) ≡ true) × (end ≡ at + length (text_of words paper))
  unfolding text_put
  whole end e = by_whole (has_text_room (length room) at (length paper)) (at + length (text_of words paper)) end e

  -- where there is no room for the paper nothing is put
  pub no_page : text_put words paper room at ≡ None
      → (None ≡ page_put words paper (length room) at) × (room_put words paper room at ≡ page_room words paper room at)
  unfolding room_put
  no_page e = let no = none e in (rw no, rw no)

  -- where there is room for it there is room for its page
  pub page : (end : ℕ) → text_put words paper room at ≡ Some end → end < at + room_for_text (length paper)
      → (end < length (room_put words paper room at)) × (Some (end + 1) ≡ page_put words paper (length room) at)
      × (set (room_put words paper room at) end 10 ≡ page_room words paper room at) × (end + 1 ≤ length room)
  unfolding room_put
  page end e ends =
      let w = whole end e in
      let text = text_of words paper in
      let fits = leb-true (at + room_for_text (length paper)) (length room) w.0 in
      let on = sets_on room text (10 ∷ []) at in
      let size = length-append text (10 ∷ []) in
      rw (w.0, length-sets room at text)
      (omega arith, ap Some (omega (arith, w.1, size)), rw w.1 on, omega arith)

  pub after_length : (end byte : ℕ) → length (set (room_put words paper room at) end byte) ≡ length room
  unfolding room_put
  after_length end byte = by (has_text_room (length room) at (length paper)) where
    by : (b : Bool) → length (set (cond b (sets room at (text_of words paper)) room) end byte) ≡ length room
    by true = simp (length-set) (length-sets room at (text_of words paper))
    by false = simp length-set

-- ---- a turn that has a page

pub page-said : (room to skip taken : ℕ) (words paper words' : List ℕ)
    → turned_over taken skip to (page_put words paper room to)
    ≡ said_by room to skip (Turn.page taken (room_for_text (length paper)) (page_of words paper) words')
page-said room to skip taken words paper words' = by (has_text_room room to (length paper)) where
  by : (b : Bool) → turned_over taken skip to (cond b (Some (to + length (page_of words paper))) None)
      ≡ cond b (record { taken = taken; skip = 0; end = to + length (page_of words paper); wants = Wants.Turn })
      (record { taken = 0; skip = skip; end = to; wants = Wants.Room })
  by true = refl
  by false = refl

-- the words have no part in passing
pub passing-said : (room to skip : ℕ) (words input : List ℕ)
    → said_by room to skip (passing skip [] input) ≡ said_by room to skip (passing skip words input)
passing-said room to skip words input = by (ltb (length input) skip) where
  by : (b : Bool)
      → said_by room to skip (cond b (Turn.hold (length input) (skip - length input) Wants.Input) (Turn.page skip (length too_long) too_long []))
      ≡ said_by room to skip (cond b (Turn.hold (length input) (skip - length input) Wants.Input) (Turn.page skip (length too_long) too_long words))
  by true = refl
  by false = refl

pub passing_room : (room : List ℕ) (to skip : ℕ) (words input : List ℕ)
    → room_by room to (passing skip [] input) ≡ room_by room to (passing skip words input)
passing_room room to skip words input = by (ltb (length input) skip) where
  by : (b : Bool)
      → room_by room to (cond b (Turn.hold (length input) (skip - length input) Wants.Input) (Turn.page skip (length too_long) too_long []))
      ≡ room_by room to (cond b (Turn.hold (length input) (skip - length input) Wants.Input) (Turn.page skip (length too_long) too_long words))
  by true = refl
  by false = refl

pub passing-words : (room to skip : ℕ) (words input : List ℕ) → words ≡ words_by room to words (passing skip words input)
passing-words room to skip words input = by (ltb (length input) skip) (leb (to + length too_long) room) refl where
  by : (b f : Bool) → leb (to + length too_long) room ≡ f
      → words
      ≡ words_by room to words (cond b (Turn.hold (length input) (skip - length input) Wants.Input) (Turn.page skip (length too_long) too_long words))
  by true f e = refl
  by false true e = rw e
  by false false e = rw e
