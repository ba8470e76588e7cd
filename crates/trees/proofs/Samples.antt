-- The statements of There, Back and Faults, computed for a few trees and bytes: what is written of a proper template is sound and has the tree's commands,
-- and other bytes have the number of their first fault. They follow from those; said apart, they show of a card that reads otherwise that the statement
-- itself is false of it. Assumes nothing.
use mathlib.Core.Bool.{Bool, true, false, not, ◌&&◌}
use mathlib.Core.List.{List, [], ◌∷◌}
use Prim.Native.Nat.{ℕ}
use lib.Dec.{T, eqb}
use lib.ListN.{replicate}
use Rattle.object.specs.Object.{length_size, length_at, value_size, head_size, head_formed, head_right, value_of, read_object, read_behind, read_list, is_template, read_template, reading_number}
use Rattle.cursor.specs.Cursor.{places_behind, places_from, cut, commands_of}
use Rattle.trees.specs.Tree.{short, long, plain, with81, with82, Objects, end, filler, primitive, constructed, Template, tree, written, commands}

abbrev same : List ℕ → List ℕ → Bool
same [] [] = true
same [] (y ∷ t) = false
same (x ∷ s) [] = false
same (x ∷ s) (y ∷ t) = eqb x y && same s t

abbrev alike : List (List ℕ) → List (List ℕ) → Bool
alike [] [] = true
alike [] (y ∷ t) = false
alike (x ∷ s) [] = false
alike (x ∷ s) (y ∷ t) = same x y && alike s t

-- what is compared: that a proper template is sound and has the tree's commands; the number of bytes that are none
abbrev reads : Template → Bool
reads t = eqb (reading_number (read_template (written (tree t)))) 0 && alike (commands_of (written (tree t))) (commands (tree t))

abbrev faulty : ℕ → List ℕ → Bool
faulty n s = eqb (reading_number (read_template s)) n

abbrev template : ℕ → Objects → Template
template tag list = record { tag = tag; form = plain; list = list }

-- a command of one byte, and an object E1, with what is behind them
abbrev command : ℕ → Objects → Objects
command b r = primitive (short 0x86) plain (b ∷ []) r

abbrev within : Objects → Objects → Objects
within o r = constructed (short 0xE1) plain o r

pub record Samples : Type 0 where
  -- what is written of a proper template is sound, in every form of a length
  pub empty : T (reads (template 0x72 end))
  pub plain_length_lem : T (reads (template 0x71 (command 1 end)))
  pub length_81 : T (reads (record { tag = 0x71; form = with81; list = primitive (short 0x86) with81 (1 ∷ []) end }))
  pub length_82 : T (reads (record { tag = 0x71; form = with82; list = primitive (short 0x86) with82 (1 ∷ []) end }))
  pub upper_length_byte : T (reads (record { tag = 0x71; form = with82; list = primitive (short 0x50) with82 (replicate 256 0xFF) end }))
  pub two-byte-tag : T (reads (template 0x71 (primitive (long 0x9F 0x18) plain (1 ∷ []) end)))
  pub tag-FF : T (reads (template 0x71 (constructed (long 0xFF 0x01) plain (command 1 end) end)))
  -- fillers stand before, between and behind objects, and alone
  pub fillers : T (reads (template 0x71 (filler (command 1 (filler (filler (command 2 (filler end))))))))
  pub filler_alone : T (reads (template 0x71 (filler end)))
  pub filler_held : T (reads (template 0x71 (within (filler (command 1 end)) (command 2 end))))
  -- to depth 4, whatever primitive objects stand there
  pub depth_4 : T (reads (template 0x71 (within (within (within (command 1 end) end) end) end)))
  pub depth_4_later : T (reads (template 0x71 (within end (within (within (within end end) end) end))))
  -- the commands are the 86s at any depth, in order, and no others
  pub nested : T (reads (template 0x71 (command 1 (within (command 2 (within (command 3 end) (command 4 end))) (command 5 end)))))
  pub no_commands : T (reads (template 0x71 (primitive (short 0x50) plain (1 ∷ []) (primitive (short 0x87) plain (2 ∷ []) end))))
  pub constructed-A6 : T (reads (template 0x71 (constructed (short 0xA6) plain (command 1 end) (command 2 end))))
  pub constructed_71 : T (reads (template 0x72 (constructed (short 0x71) plain (command 1 end) end)))
  pub empty-command : T (reads (template 0x71 (primitive (short 0x86) plain [] (command 1 end))))
  -- above depth 4 it is 19, empty or not, and what such an object holds is not read, nor what is behind it
  pub depth_5 : T (faulty 19 (written (tree (template 0x71 (within (within (within (within end end) end) end) end)))))
  pub depth_5_held : T (faulty 19 (written (tree (template 0x71 (within (within (within (within (command 1 end) end) end) end) end)))))
  pub deep_unread : T (faulty 19 (0x71 ∷ 0x0A ∷ 0x71 ∷ 0x08 ∷ 0x71 ∷ 0x06 ∷ 0x71 ∷ 0x04 ∷ 0xE1 ∷ 0x02 ∷ 0x86 ∷ 0x05 ∷ []))
  pub deep_first : T (faulty 19 (0x71 ∷ 0x09 ∷ 0x71 ∷ 0x06 ∷ 0x71 ∷ 0x04 ∷ 0x71 ∷ 0x02 ∷ 0x71 ∷ 0x00 ∷ 0x86 ∷ []))
  -- 18 is what stands before it, and of one object its head comes before its depth
  pub malformed-first : T (faulty 18 (0x71 ∷ 0x0A ∷ 0x86 ∷ 0x80 ∷ 0x71 ∷ 0x06 ∷ 0x71 ∷ 0x04 ∷ 0x71 ∷ 0x02 ∷ 0x71 ∷ 0x00 ∷ []))
  pub head_first : T (faulty 18 (0x71 ∷ 0x08 ∷ 0x71 ∷ 0x06 ∷ 0x71 ∷ 0x04 ∷ 0x71 ∷ 0x02 ∷ 0xE1 ∷ 0x01 ∷ []))
  -- no tag of three bytes, no other form of a length, no head cut short
  pub three-byte-tag : T (faulty 18 (0x71 ∷ 0x04 ∷ 0x9F ∷ 0x81 ∷ 0x01 ∷ 0x00 ∷ []))
  pub length_80 : T (faulty 18 (0x71 ∷ 0x02 ∷ 0x86 ∷ 0x80 ∷ []))
  pub length_83 : T (faulty 18 (0x71 ∷ 0x05 ∷ 0x86 ∷ 0x83 ∷ 0x00 ∷ 0x00 ∷ 0x00 ∷ []))
  pub template_80 : T (faulty 18 (0x71 ∷ 0x80 ∷ []))
  pub template_83 : T (faulty 18 (0x71 ∷ 0x83 ∷ 0x00 ∷ 0x00 ∷ 0x00 ∷ []))
  pub no_length : T (faulty 18 (0x71 ∷ 0x01 ∷ 0x86 ∷ []))
  pub cut_length : T (faulty 18 (0x71 ∷ 0x03 ∷ 0x86 ∷ 0x82 ∷ 0x00 ∷ []))
  -- a value ends within what its object lies in
  pub past_its_parent : T (faulty 18 (0x71 ∷ 0x06 ∷ 0xE1 ∷ 0x02 ∷ 0x86 ∷ 0x01 ∷ 0x50 ∷ 0x00 ∷ []))
  pub past_the_template : T (faulty 18 (0x71 ∷ 0x02 ∷ 0x86 ∷ 0x01 ∷ []))
  -- FF is no filler, and a filler ends no list
  pub FF-alone : T (faulty 18 (0x71 ∷ 0x01 ∷ 0xFF ∷ []))
  pub FF-FF : T (faulty 18 (0x71 ∷ 0x02 ∷ 0xFF ∷ 0xFF ∷ []))
  pub behind-filler : T (faulty 18 (0x71 ∷ 0x02 ∷ 0x00 ∷ 0x86 ∷ []))
  -- one template, and nothing around it
  pub nothing : T (faulty 18 [])
  pub other-root : T (faulty 18 (0x70 ∷ 0x00 ∷ []))
  pub long-root : T (faulty 18 (0x7F ∷ 0x71 ∷ 0x00 ∷ []))
  pub primitive-root : T (faulty 18 (0x51 ∷ 0x00 ∷ []))
  pub filler-before : T (faulty 18 (0x00 ∷ 0x71 ∷ 0x00 ∷ []))
  pub filler-behind : T (faulty 18 (0x71 ∷ 0x00 ∷ 0x00 ∷ []))
  pub second-template : T (faulty 18 (0x71 ∷ 0x00 ∷ 0x72 ∷ 0x00 ∷ []))
  pub template-cut : T (faulty 18 (0x71 ∷ 0x01 ∷ []))

pub samples : Samples
unfolding written commands length_size length_at value_size head_size head_formed head_right value_of read_object read_behind read_list is_template
    read_template places_behind places_from cut commands_of
samples =
    record {
      empty = tt;
      plain_length_lem = tt;
      length_81 = tt;
      length_82 = tt;
      upper_length_byte = tt;
      two-byte-tag = tt;
      tag-FF = tt;
      fillers = tt;
      filler_alone = tt;
      filler_held = tt;
      depth_4 = tt;
      depth_4_later = tt;
      nested = tt;
      no_commands = tt;
      constructed-A6 = tt;
      constructed_71 = tt;
      empty-command = tt;
      depth_5 = tt;
      depth_5_held = tt;
      deep_unread = tt;
      deep_first = tt;
      malformed-first = tt;
      head_first = tt;
      three-byte-tag = tt;
      length_80 = tt;
      length_83 = tt;
      template_80 = tt;
      template_83 = tt;
      no_length = tt;
      cut_length = tt;
      past_its_parent = tt;
      past_the_template = tt;
      FF-alone = tt;
      FF-FF = tt;
      behind-filler = tt;
      nothing = tt;
      other-root = tt;
      long-root = tt;
      primitive-root = tt;
      filler-before = tt;
      filler-behind = tt;
      second-template = tt;
      template-cut = tt;
    }
