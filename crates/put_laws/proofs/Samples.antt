-- `proper-valid` and `from-proper`, computed for a few commands: what each writes, or that it fails. They follow from the two; said apart, they
-- show of a card that reads commands otherwise that the statement itself is false of it. Assumes nothing.
use Rattle.std.specs.Prelude.{Option, None, Some}
use mathlib.Core.Path.{refl}
use mathlib.Core.List.{List, [], ◌∷◌, ◌++◌}
use mathlib.Core.Bool.{Bool, true, false, not, ◌&&◌}
use Prim.Native.Nat.{ℕ, ◌+◌}
use native.Mathlib.Omega.{arith}
use lib.ListN.{length, replicate}
use lib.Dec.{T, eqb}
use Rattle.wire.specs.Wire.{number}
use Rattle.digits.specs.Digits.{are_pairs, pairs_value}
use Rattle.iad.specs.Iad.{pairs_of}
use Rattle.element.specs.declared.Write.{Write}
use Rattle.element.specs.declared.Write.TheVariants.{Value, AccumulatorLimits, CounterLimits}
use Rattle.put_data.specs.declared.Next.{Next}
use Rattle.put_data.specs.declared.Next.TheVariants.{Element, End, Fault}
use Rattle.element.specs.Element.{length_size, length_at, value_written, limits_written, counts_written, meaning_of, head_size, element_size, element_meaning}
use Rattle.put_data.specs.PutData.{writes_by, is_put_data, list_place, mac_place, is_secured, elements_of, writes_of, is_valid, next_by, next_in, next_write}
use Rattle.put_laws.specs.Written.{short, long, accumulators, counters, filler, element, list_bytes, list_writes, AreOf, Command, written, Proper}
use Rattle.put_laws.proofs.Octets.{four_bytes}
use Rattle.put_laws.proofs.Vectors.{bytes, amount_of}

-- what is compared: writes as numbers
abbrev same : List ℕ → List ℕ → Bool
same [] [] = true
same [] (b ∷ t) = false
same (a ∷ s) [] = false
same (a ∷ s) (b ∷ t) = eqb a b && same s t

abbrev numbers : Write → List ℕ
numbers (Value slot amount) = 1 ∷ slot ∷ amount.0 ∷ []
numbers (AccumulatorLimits slot lower upper) = 2 ∷ slot ∷ lower.0 ∷ upper.0 ∷ []
numbers (CounterLimits slot lower upper) = 3 ∷ slot ∷ lower ∷ upper ∷ []

abbrev all_numbers : List Write → List ℕ
all_numbers [] = []
all_numbers (w ∷ ws) = numbers w ++ all_numbers ws

abbrev same_writes : List Write → List Write → Bool
same_writes vs ws = same (all_numbers vs) (all_numbers ws)

abbrev told : Option (List Write) → List Write → Bool
told None ws = false
told (Some vs) ws = same_writes vs ws

abbrev next_numbers : Next → List ℕ
next_numbers (Element w end) = 1 ∷ end ∷ numbers w
next_numbers End = 2 ∷ []
next_numbers Fault = 3 ∷ []

-- of n bytes, written as one number in hex
abbrev writes : (n hex : ℕ) → List Write → Bool
writes n hex ws = is_valid (bytes n hex) && told (writes_of (bytes n hex)) ws

abbrev fails : (n hex : ℕ) → Bool
fails n hex = not (is_valid (bytes n hex))

abbrev next : (n hex from : ℕ) → Next → Bool
next n hex from m = same (next_numbers (next_write (bytes n hex) from)) (next_numbers m)

-- fillers alone, their length written so
abbrev blank : (form : List ℕ) (n : ℕ) → List ℕ
blank form n = 0x0C ∷ 0xDA ∷ 0xBF ∷ 0x30 ∷ (length form + n + 7) ∷ 0x81 ∷ (form ++ (replicate n 0 ++ 0x8E ∷ 0x04 ∷ 0 ∷ 0 ∷ 0 ∷ 0 ∷ []))

-- two proper commands
abbrev first : Command
first =
    record {
      object = accumulators;
      form = long;
      list = filler ∷ element short (Value 0 (amount_of 5)) ∷ element long (AccumulatorLimits 3 (amount_of 2) (amount_of 1)) ∷ [];
      mac = 0x11 ∷ 0x22 ∷ 0x33 ∷ 0x44 ∷ [];
    }

abbrev second : Command
second =
    record {
      object = counters;
      form = short;
      list = element long (CounterLimits 0 7 9) ∷ filler ∷ [];
      mac = 0x00 ∷ 0xFF ∷ 0x00 ∷ 0xFF ∷ [];
    }

pub first-proper : Proper first
unfolding AreOf list_bytes pairs_of
first-proper =
    record {
      elements = ((omega arith, omega arith), ((omega arith, omega arith, omega arith), tt));
      fits = omega arith;
      lc = omega arith;
      four = refl;
      bytes = four_bytes 0x11 0x22 0x33 0x44 (omega arith) (omega arith) (omega arith) (omega arith);
    }

pub second-proper : Proper second
unfolding AreOf list_bytes
second-proper =
    record {
      elements = ((omega arith, omega arith, omega arith), tt);
      fits = omega arith;
      lc = omega arith;
      four = refl;
      bytes = four_bytes 0x00 0xFF 0x00 0xFF (omega arith) (omega arith) (omega arith) (omega arith);
    }

pub record Samples : Type 0 where
  -- a value, limits, counters' limits, each in the first and the fourth slot; lower before upper, also where it is above
  pub first-value : T (writes 22 0x0CDABF30118109DF01060000000012348E0411223344 (Value 0 (amount_of 1234) ∷ []))
  pub fourth-value : T (writes 22 0x0CDABF30118109DF04069999999999998E0411223344 (Value 3 (amount_of 999999999999) ∷ []))
  pub first-limits : T (writes 28 0x0CDABF3017810FDF110C0000000000010000000000028E0411223344 (AccumulatorLimits 0 (amount_of 1) (amount_of 2) ∷ []))
  pub fourth-limits : T (writes 28 0x0CDABF3017810FDF140C0000000000020000000000018E0411223344 (AccumulatorLimits 3 (amount_of 2) (amount_of 1) ∷ []))
  pub first-counter : T (writes 18 0x0CDABF350D8105DF110207098E0411223344 (CounterLimits 0 7 9 ∷ []))
  pub fourth-counter : T (writes 18 0x0CDABF350D8105DF1402FF008E0411223344 (CounterLimits 3 255 0 ∷ []))
  -- amounts in decimal
  pub in_decimal : T (writes 22 0x0CDABF30118109DF01060000000000108E0411223344 (Value 0 (amount_of 10) ∷ []))
  -- no elements, fillers, either form of each length, any MAC; elements in their order, an element given twice too
  pub no_elements : T (writes 13 0x0CDABF300881008E0411223344 ([]))
  pub fillers_only : T (writes 15 0x0CDABF350A810200008E0411223344 ([]))
  pub fillers : T (writes 35 0x0CDABF301E811600DF01060000000000050000DF0206000000000006008E0411223344 (Value 0 (amount_of 5) ∷ Value 1 (amount_of 6) ∷ []))
  pub long-list : T (writes 23 0x0CDABF3012818109DF01060000000000058E0411223344 (Value 0 (amount_of 5) ∷ []))
  pub long-element : T (writes 19 0x0CDABF350E8106DF11810207098E0411223344 (CounterLimits 0 7 9 ∷ []))
  pub any_mac : T (writes 22 0x0CDABF30118109DF01060000000000058E04FFFFFFFF (Value 0 (amount_of 5) ∷ []))
  pub in_order : T (writes 31 0x0CDABF301A8112DF0206000000000006DF01060000000000058E0411223344 (Value 1 (amount_of 6) ∷ Value 0 (amount_of 5) ∷ []))
  pub given_twice : T (writes 31 0x0CDABF301A8112DF0106000000000005DF01060000000000068E0411223344 (Value 0 (amount_of 5) ∷ Value 0 (amount_of 6) ∷ []))
  pub list_of_two : T (writes 23 0x0CDABF3512810ADF11020709DF120201028E0411223344 (CounterLimits 0 7 9 ∷ CounterLimits 1 1 2 ∷ []))
  -- Lc, an Le, the MAC's tag and length
  pub lc-less : T (fails 22 0x0CDABF30108109DF01060000000000058E0411223344)
  pub lc-more : T (fails 22 0x0CDABF30128109DF01060000000000058E0411223344)
  pub le_behind : T (fails 23 0x0CDABF30118109DF01060000000000058E041122334400)
  pub le_counted : T (fails 23 0x0CDABF30128109DF01060000000000058E041122334400)
  pub mac-tag : T (fails 22 0x0CDABF30118109DF01060000000000058F0411223344)
  pub mac_of_three : T (fails 21 0x0CDABF30108109DF01060000000000058E03112233)
  pub mac_of_eight : T (fails 26 0x0CDABF30158109DF01060000000000058E081122334455667788)
  pub mac_length_long : T (fails 23 0x0CDABF30128109DF01060000000000058E810411223344)
  pub mac_length_other : T (fails 22 0x0CDABF30118109DF01060000000000058E0511223344)
  -- CLA, INS, P1 P2, also without elements
  pub cla : T (fails 22 0x8CDABF30118109DF01060000000000058E0411223344)
  pub ins : T (fails 22 0x0C18BF30118109DF01060000000000058E0411223344)
  pub other-object : T (fails 22 0x0CDABF31118109DF01060000000000058E0411223344)
  pub other-object-empty : T (fails 13 0x0CDABF310881008E0411223344)
  pub other-first-byte : T (fails 22 0x0CDABE30118109DF01060000000000058E0411223344)
  -- values shorter, longer, and with a second set
  pub value-shorter : T (fails 21 0x0CDABF30108108DF010500000000058E0411223344)
  pub value_longer : T (fails 23 0x0CDABF3012810ADF0107000000000005008E0411223344)
  pub limits-shorter : T (fails 22 0x0CDABF30118109DF11060000000000058E0411223344)
  pub limits_twice : T (fails 40 0x0CDABF3023811BDF11180000000000050000000000050000000000050000000000058E0411223344)
  pub counters-shorter : T (fails 17 0x0CDABF350C8104DF1101078E0411223344)
  pub counters_twice : T (fails 20 0x0CDABF350F8107DF1104070907098E0411223344)
  pub counters_as_amounts : T (fails 28 0x0CDABF3517810FDF110C0000000000050000000000058E0411223344)
  -- a digit above 9, in each half and in each amount
  pub upper-digit : T (fails 22 0x0CDABF30118109DF0106A000000000008E0411223344)
  pub lower-digit : T (fails 22 0x0CDABF30118109DF010600000000000A8E0411223344)
  pub lower-limit-digit : T (fails 28 0x0CDABF3017810FDF110C00000000000A0000000000058E0411223344)
  pub upper-limit-digit : T (fails 28 0x0CDABF3017810FDF110C00000000000500000000000A8E0411223344)
  -- slots 0 and 5, counters' values, unknown elements, also behind a good one
  pub value_0 : T (fails 22 0x0CDABF30118109DF00060000000000058E0411223344)
  pub value_5 : T (fails 22 0x0CDABF30118109DF05060000000000058E0411223344)
  pub limits_0 : T (fails 28 0x0CDABF3017810FDF100C0000000000050000000000058E0411223344)
  pub limits_5 : T (fails 28 0x0CDABF3017810FDF150C0000000000050000000000058E0411223344)
  pub counter_0 : T (fails 18 0x0CDABF350D8105DF100207098E0411223344)
  pub counter_5 : T (fails 18 0x0CDABF350D8105DF150207098E0411223344)
  pub counter-value : T (fails 18 0x0CDABF350D8105DF010207098E0411223344)
  pub counter-value-digits : T (fails 22 0x0CDABF35118109DF01060000000000058E0411223344)
  pub unknown-element : T (fails 22 0x0CDABF30118109DF21060000000000058E0411223344)
  pub other_tag : T (fails 22 0x0CDABF301181099F01060000000000058E0411223344)
  pub behind_a_good_one : T (fails 31 0x0CDABF301A8112DF0106000000000005DF21060000000000058E0411223344)
  pub bad_behind_a_good_one : T (fails 31 0x0CDABF301A8112DF0106000000000005DF020600000000000A8E0411223344)
  -- lengths 80 and 82, an element that reaches into the MAC, or ends in its head
  pub length_80 : T (fails 13 0x0CDABF300881808E0411223344)
  pub length_82 : T (fails 24 0x0CDABF301381820009DF01060000000000058E0411223344)
  pub element_82 : T (fails 24 0x0CDABF3013810BDF018200060000000000058E0411223344)
  pub into_the_mac : T (fails 16 0x0CDABF350B8103DF11028E0411223344)
  pub longer_than_left : T (fails 18 0x0CDABF350D8105DF110507098E0411223344)
  pub cut-head : T (fails 14 0x0CDABF35098101DF8E0411223344)
  pub nothing : T (fails 5 0x0CDABF3000)
  -- lengths of the list up to the longest, each in the form that can hold it
  pub short_127 : T (is_valid (blank (0x7F ∷ []) 127))
  pub long_128 : T (is_valid (blank (0x81 ∷ 0x80 ∷ []) 128))
  pub longest : T (is_valid (blank (0x81 ∷ 0xF7 ∷ []) 247))
  pub one_byte_128 : T (not (is_valid (blank (0x80 ∷ []) 128)))
  pub one_byte_130 : T (not (is_valid (blank (0x82 ∷ []) 130)))
  pub three-bytes : T (not (is_valid (blank (0x82 ∷ 0x00 ∷ 0x80 ∷ []) 128)))
  -- from element to element: places count from the first byte of the list
  pub next-first : T (next 34 0x0CDABF301D811500DF010600000000000500DF0206000000000006008E0411223344 0 (Element (Value 0 (amount_of 5)) 10))
  pub next-second : T (next 34 0x0CDABF301D811500DF010600000000000500DF0206000000000006008E0411223344 10 (Element (Value 1 (amount_of 6)) 20))
  pub next-end : T (next 34 0x0CDABF301D811500DF010600000000000500DF0206000000000006008E0411223344 20 End)
  pub next_beyond : T (next 34 0x0CDABF301D811500DF010600000000000500DF0206000000000006008E0411223344 1000 End)
  pub next-fault : T (next 31 0x0CDABF301A8112DF0106000000000005DF21060000000000058E0411223344 9 Fault)
  -- what is written
  pub accumulators-written : T (same (written first) (bytes 40 0x0CDABF302381811A00DF0106000000000005DF14810C0000000000020000000000018E0411223344))
  pub counters-written : T (same (written second) (bytes 20 0x0CDABF350F8107DF1181020709008E0400FF00FF))
  pub accumulators-told : T (writes 40 0x0CDABF302381811A00DF0106000000000005DF14810C0000000000020000000000018E0411223344 (list_writes first.list))
  pub counters-told : T (writes 20 0x0CDABF350F8107DF1181020709008E0400FF00FF (list_writes second.list))
  pub accumulators-meant : T (same_writes (list_writes first.list) (Value 0 (amount_of 5) ∷ AccumulatorLimits 3 (amount_of 2) (amount_of 1) ∷ []))
  pub counters-meant : T (same_writes (list_writes second.list) (CounterLimits 0 7 9 ∷ []))

pub samples : Samples
unfolding number are_pairs pairs_value pairs_of length_size length_at value_written limits_written counts_written meaning_of head_size element_size element_meaning
    writes_by is_put_data list_place mac_place is_secured elements_of writes_of is_valid next_by next_in next_write list_bytes list_writes written
samples =
    record {
      first-value = tt;
      fourth-value = tt;
      first-limits = tt;
      fourth-limits = tt;
      first-counter = tt;
      fourth-counter = tt;
      in_decimal = tt;
      no_elements = tt;
      fillers_only = tt;
      fillers = tt;
      long-list = tt;
      long-element = tt;
      any_mac = tt;
      in_order = tt;
      given_twice = tt;
      list_of_two = tt;
      lc-less = tt;
      lc-more = tt;
      le_behind = tt;
      le_counted = tt;
      mac-tag = tt;
      mac_of_three = tt;
      mac_of_eight = tt;
      mac_length_long = tt;
      mac_length_other = tt;
      cla = tt;
      ins = tt;
      other-object = tt;
      other-object-empty = tt;
      other-first-byte = tt;
      value-shorter = tt;
      value_longer = tt;
      limits-shorter = tt;
      limits_twice = tt;
      counters-shorter = tt;
      counters_twice = tt;
      counters_as_amounts = tt;
      upper-digit = tt;
      lower-digit = tt;
      lower-limit-digit = tt;
      upper-limit-digit = tt;
      value_0 = tt;
      value_5 = tt;
      limits_0 = tt;
      limits_5 = tt;
      counter_0 = tt;
      counter_5 = tt;
      counter-value = tt;
      counter-value-digits = tt;
      unknown-element = tt;
      other_tag = tt;
      behind_a_good_one = tt;
      bad_behind_a_good_one = tt;
      length_80 = tt;
      length_82 = tt;
      element_82 = tt;
      into_the_mac = tt;
      longer_than_left = tt;
      cut-head = tt;
      nothing = tt;
      short_127 = tt;
      long_128 = tt;
      longest = tt;
      one_byte_128 = tt;
      one_byte_130 = tt;
      three-bytes = tt;
      next-first = tt;
      next-second = tt;
      next-end = tt;
      next_beyond = tt;
      next-fault = tt;
      accumulators-written = tt;
      counters-written = tt;
      accumulators-told = tt;
      counters-told = tt;
      accumulators-meant = tt;
      counters-meant = tt;
    }
