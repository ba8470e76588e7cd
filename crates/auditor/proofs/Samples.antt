-- `same-commands` and `same_writes`, computed for a few templates and commands: what both readers read of each. They follow from the two; said
-- apart, they show of a card that reads otherwise that the statement itself is false of it. Assumes nothing.
use Rattle.std.specs.Prelude.{Option, None, Some}
use mathlib.Core.List.{List, [], ◌∷◌, ◌++◌, map}
use mathlib.Core.Bool.{Bool, true, false, ◌&&◌}
use Prim.Native.Nat.{ℕ}
use lib.ListN.{replicate}
use lib.Dec.{T, eqb}
use Rattle.wire.specs.Wire.{number}
use Rattle.digits.specs.Digits.{are_pairs, pairs_value}
use Rattle.object.specs.Object.{length_size, length_at, value_size, head_size, head_formed, head_right}
use Rattle.cursor.specs.Cursor.{places_behind, places_from, cut, commands_of}
use Rattle.element.specs.declared.Write.{Write}
use Rattle.element.specs.declared.Write.TheVariants.{Value, AccumulatorLimits, CounterLimits}
use Rattle.element.specs.Element.{length_size as put_size, length_at as put_at, value_written, limits_written, counts_written, meaning_of, head_size as put_head}
use Rattle.element.specs.Element.{element_size, element_meaning}
use Rattle.put_data.specs.PutData.{writes_by, is_put_data, list_place, mac_place, is_secured, elements_of, writes_of}
use Rattle.put_laws.proofs.Vectors.{bytes, amount_of}
use Rattle.auditor.specs.Template.{short_in, value_in, commands_by, commands_in, digits_in, are_digits, decimal, is_amount, amount_in, of_accumulator}
use Rattle.auditor.specs.Template.{of_counter, list_by, begins, data_in, writes_in}

-- what is compared: commands, and writes as numbers, a failure as one that no write has
abbrev same : List ℕ → List ℕ → Bool
same [] [] = true
same [] (y ∷ t) = false
same (x ∷ s) [] = false
same (x ∷ s) (y ∷ t) = eqb x y && same s t

abbrev alike : List (List ℕ) → List (List ℕ) → Bool
alike [] [] = true
alike [] (y ∷ t) = false
alike (x ∷ s) [] = false
alike (x ∷ s) (y ∷ t) = same x y && alike s t

abbrev numbers : Write → List ℕ
numbers (Value slot amount) = 1 ∷ slot ∷ amount.0 ∷ []
numbers (AccumulatorLimits slot lower upper) = 2 ∷ slot ∷ lower.0 ∷ upper.0 ∷ []
numbers (CounterLimits slot lower upper) = 3 ∷ slot ∷ lower ∷ upper ∷ []

abbrev told : Option (List Write) → List (List ℕ)
told None = (0 ∷ []) ∷ []
told (Some ws) = map numbers ws

-- by the auditor, and by the card
abbrev reads : (template : List ℕ) → (commands : List (List ℕ)) → Bool
reads s cs = alike (commands_in s) cs && alike (commands_of s) cs

abbrev both : (command : List ℕ) → Option (List Write) → Bool
both c ws = alike (told (writes_in c)) (told ws) && alike (told (writes_of c)) (told ws)

abbrev writes : (command : List ℕ) → List Write → Bool
writes c ws = both c (Some ws)

abbrev fails : (command : List ℕ) → Bool
fails c = both c None

-- 128 fillers and a MAC
abbrev blank : List ℕ
blank = replicate 128 0x00 ++ 0x8E ∷ 0x04 ∷ 0x11 ∷ 0x22 ∷ 0x33 ∷ 0x44 ∷ []

-- the commands of the reading's vectors
abbrev first : List ℕ
first = bytes 22 0x0CDABF30118109DF01060000001234568E0411223344

abbrev second : List ℕ
second = bytes 28 0x0CDABF3017810FDF120C0000000050000000000100008E0411223344

abbrev third : List ℕ
third = bytes 18 0x0CDABF350D8105DF110207098E0411223344

pub record Samples : Type 0 where
  -- templates without a command: no object, a filler, each form of a length, other objects
  pub no_command : T (reads (bytes 2 0x7100) [])
  pub filler_alone : T (reads (bytes 3 0x710100) [])
  pub root_81 : T (reads (bytes 3 0x718100) [])
  pub root_82 : T (reads (bytes 4 0x71820000) [])
  pub other_objects : T (reads (bytes 8 0x710650009F180000) [])
  -- an empty command, in a constructed object, at depth 4; two of them
  pub command_of_none : T (reads (bytes 4 0x71028600) ([] ∷ []))
  pub in-A6 : T (reads (bytes 6 0x7104A6028600) ([] ∷ []))
  pub depth_4 : T (reads (bytes 11 0x7109BF0C067104E1028600) ([] ∷ []))
  pub two-empty : T (reads (bytes 6 0x710486008600) ([] ∷ [] ∷ []))
  -- the commands of the reading's vectors, behind lengths of one byte and of three, and two in one template
  pub accumulator-value : T (reads (bytes 26 0x711886160CDABF30118109DF01060000001234568E0411223344) (first ∷ []))
  pub root_in_three : T (reads (bytes 28 0x7182001886160CDABF30118109DF01060000001234568E0411223344) (first ∷ []))
  pub accumulator-limits : T (reads (bytes 32 0x721E861C0CDABF3017810FDF120C0000000050000000000100008E0411223344) (second ∷ []))
  pub counter-limits : T (reads (bytes 22 0x711486120CDABF350D8105DF110207098E0411223344) (third ∷ []))
  pub two-commands : T (reads (bytes 46 0x712C86160CDABF30118109DF01060000001234568E041122334486120CDABF350D8105DF110207098E0411223344) (first ∷ third ∷ []))
  -- commands at any depth in reading order, behind fillers and other objects; what a primitive object holds is not read
  pub nested : T (reads (bytes 21 0x7113860101E10B860102E103860103860104860105) ((1 ∷ []) ∷ (2 ∷ []) ∷ (3 ∷ []) ∷ (4 ∷ []) ∷ (5 ∷ []) ∷ []))
  pub fillers : T (reads (bytes 19 0x7111008601010000E105008601020086010300) ((1 ∷ []) ∷ (2 ∷ []) ∷ (3 ∷ []) ∷ []))
  pub length_81 : T (reads (bytes 6 0x710486810101) ((1 ∷ []) ∷ []))
  pub length_82 : T (reads (bytes 7 0x71058682000101) ((1 ∷ []) ∷ []))
  pub two-byte-tag : T (reads (bytes 9 0x71079F180186860101) ((1 ∷ []) ∷ []))
  pub constructed-FF : T (reads (bytes 11 0x7109FF0103860101860102) ((1 ∷ []) ∷ (2 ∷ []) ∷ []))
  pub value-unread : T (reads (bytes 10 0x71085003860101860102) ((2 ∷ []) ∷ []))
  pub upper_length_byte : T (reads (0x71 ∷ 0x82 ∷ 0x01 ∷ 0x04 ∷ 0x86 ∷ 0x82 ∷ 0x01 ∷ 0x00 ∷ replicate 256 0xFF) (replicate 256 0xFF ∷ []))
  -- what a command writes: lower before upper, elements in their order; fillers, either form of a length, no elements
  pub value : T (writes first (Value 0 (amount_of 123456) ∷ []))
  pub limits : T (writes second (AccumulatorLimits 1 (amount_of 5000) (amount_of 10000) ∷ []))
  pub counter : T (writes third (CounterLimits 0 7 9 ∷ []))
  pub lower-above-upper : T (writes (bytes 28 0x0CDABF3017810FDF140C0000000000020000000000018E0411223344) (AccumulatorLimits 3 (amount_of 2) (amount_of 1) ∷ []))
  pub largest : T (writes (bytes 22 0x0CDABF30118109DF04069999999999998E0411223344) (Value 3 (amount_of 999999999999) ∷ []))
  pub two-elements : T (writes (bytes 31 0x0CDABF301A8112DF0206000000000006DF01060000000000058E0411223344) (Value 1 (amount_of 6) ∷ Value 0 (amount_of 5) ∷ []))
  pub fillers_between : T (writes (bytes 27 0x0CDABF3516810E00DF110207090000DF12020102008E0411223344) (CounterLimits 0 7 9 ∷ CounterLimits 1 1 2 ∷ []))
  pub list_81 : T (writes (bytes 23 0x0CDABF3012818109DF01060000000000058E0411223344) (Value 0 (amount_of 5) ∷ []))
  pub element_81 : T (writes (bytes 19 0x0CDABF350E8106DF13810207FF8E0411223344) (CounterLimits 2 7 255 ∷ []))
  pub list_of_128 : T (writes (0x0C ∷ 0xDA ∷ 0xBF ∷ 0x30 ∷ 0x89 ∷ 0x81 ∷ 0x81 ∷ 0x80 ∷ blank) [])
  pub no_elements : T (writes (bytes 13 0x0CDABF300881008E0411223344) [])
  -- what fails it: a digit above 9, another slot, tag or length, Lc, the MAC, an Le, the first bytes, three bytes of a length, what ends too late
  pub lower-digit : T (fails (bytes 22 0x0CDABF30118109DF010600000000000A8E0411223344))
  pub upper-digit : T (fails (bytes 22 0x0CDABF30118109DF0106A000000000008E0411223344))
  pub limits-digit : T (fails (bytes 28 0x0CDABF3017810FDF110C00000000000500000000000A8E0411223344))
  pub slot_0 : T (fails (bytes 22 0x0CDABF30118109DF00060000000000058E0411223344))
  pub slot_5 : T (fails (bytes 22 0x0CDABF30118109DF05060000000000058E0411223344))
  pub limits_slot_5 : T (fails (bytes 18 0x0CDABF350D8105DF150207098E0411223344))
  pub counter-value : T (fails (bytes 22 0x0CDABF35118109DF01060000000000058E0411223344))
  pub other_tag : T (fails (bytes 22 0x0CDABF301181099F01060000000000058E0411223344))
  pub value_of_five : T (fails (bytes 21 0x0CDABF30108108DF010500000000058E0411223344))
  pub limits_twice : T (fails (bytes 40 0x0CDABF3023811BDF11180000000000050000000000050000000000050000000000058E0411223344))
  pub lc-less : T (fails (bytes 22 0x0CDABF30108109DF01060000000000058E0411223344))
  pub lc-more : T (fails (bytes 22 0x0CDABF30128109DF01060000000000058E0411223344))
  pub mac-tag : T (fails (bytes 22 0x0CDABF30118109DF01060000000000058F0411223344))
  pub mac_of_eight : T (fails (bytes 26 0x0CDABF30158109DF01060000000000058E081122334455667788))
  pub le_behind : T (fails (bytes 23 0x0CDABF30118109DF01060000000000058E041122334400))
  pub cla : T (fails (bytes 22 0x8CDABF30118109DF01060000000000058E0411223344))
  pub ins : T (fails (bytes 22 0x0C18BF30118109DF01060000000000058E0411223344))
  pub object : T (fails (bytes 22 0x0CDABF3C118109DF01060000000000058E0411223344))
  pub length_80 : T (fails (0x0C ∷ 0xDA ∷ 0xBF ∷ 0x30 ∷ 0x88 ∷ 0x81 ∷ 0x80 ∷ blank))
  pub list_82 : T (fails (bytes 24 0x0CDABF301381820009DF01060000000000058E0411223344))
  pub bad_behind_good : T (fails (bytes 31 0x0CDABF301A8112DF0106000000000005DF21060000000000058E0411223344))
  pub past_the_list : T (fails (bytes 18 0x0CDABF350D8105DF110307098E0411223344))
  pub cut-head : T (fails (bytes 14 0x0CDABF35098101DF8E0411223344))
  pub nothing : T (fails [])

pub samples : Samples
unfolding short_in value_in commands_by commands_in digits_in are_digits decimal is_amount amount_in of_accumulator of_counter list_by begins data_in writes_in
    length_size length_at value_size head_size head_formed head_right places_behind places_from cut commands_of
    put_size put_at value_written limits_written counts_written meaning_of put_head element_size element_meaning writes_by is_put_data list_place mac_place is_secured elements_of writes_of
    number are_pairs pairs_value
samples =
    record {
      no_command = tt;
      filler_alone = tt;
      root_81 = tt;
      root_82 = tt;
      other_objects = tt;
      command_of_none = tt;
      in-A6 = tt;
      depth_4 = tt;
      two-empty = tt;
      accumulator-value = tt;
      root_in_three = tt;
      accumulator-limits = tt;
      counter-limits = tt;
      two-commands = tt;
      nested = tt;
      fillers = tt;
      length_81 = tt;
      length_82 = tt;
      two-byte-tag = tt;
      constructed-FF = tt;
      value-unread = tt;
      upper_length_byte = tt;
      value = tt;
      limits = tt;
      counter = tt;
      lower-above-upper = tt;
      largest = tt;
      two-elements = tt;
      fillers_between = tt;
      list_81 = tt;
      element_81 = tt;
      list_of_128 = tt;
      no_elements = tt;
      lower-digit = tt;
      upper-digit = tt;
      limits-digit = tt;
      slot_0 = tt;
      slot_5 = tt;
      limits_slot_5 = tt;
      counter-value = tt;
      other_tag = tt;
      value_of_five = tt;
      limits_twice = tt;
      lc-less = tt;
      lc-more = tt;
      mac-tag = tt;
      mac_of_eight = tt;
      le_behind = tt;
      cla = tt;
      ins = tt;
      object = tt;
      length_80 = tt;
      list_82 = tt;
      bad_behind_good = tt;
      past_the_list = tt;
      cut-head = tt;
      nothing = tt;
    }
