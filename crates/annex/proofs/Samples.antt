-- `walked` and `stopped`, computed for a few files: where the walk leads, or that it stops. They follow from the two; said apart, they show
-- of a card that selects otherwise that the statement itself is false of it. Assumes nothing.
use mathlib.Core.Bool.{Bool, true, false, not, ◌&&◌}
use mathlib.Core.List.{List, [], ◌∷◌, ◌++◌}
use Prim.Native.Nat.{ℕ, ◌+◌, ◌*◌}
use lib.Dec.{T, eqb}
use lib.ListN.{replicate}
use Rattle.wire.specs.Wire.{number}
use Rattle.digits.specs.Digits.{are_pairs, pairs_value}
use Rattle.slot.specs.Slot.{tests_slot, slot_of, is_slot_sound, has_amount, lacks_amount, slot_value, slot_passes}
use Rattle.slot.specs.declared.Slots.{Slots}
use Rattle.entry.specs.Entry.{block, is_well_formed, reaches_past, masked, is_any_of, passes, action_of, data_action, slot_action, action_taken}
use Rattle.selection.specs.Selection.{entries_of, is_file, follow, select_from, selection_of, selection_number, profile_of, visits_of}
use Rattle.annex.proofs.Witness.{file, terminal}

-- what is compared: the profile and the visits; that it is refused
abbrev leads_in : Slots → List ℕ → ℕ → List ℕ → (profile visits : ℕ) → Bool
leads_in slots s n d p v =
    let selected = selection_of s n d slots in
    eqb (selection_number selected) 0 && eqb (profile_of selected) p && eqb (visits_of selected) v

abbrev stops_in : Slots → List ℕ → ℕ → List ℕ → Bool
stops_in slots s n d = eqb (selection_number (selection_of s n d slots)) 12

-- a CPA card, and a CPACE card
abbrev cpa : Slots
cpa = record { testable = false; amounts = 600 ∷ 601 ∷ 999_999_999_999 ∷ 5 ∷ []; counts = 2 ∷ 3 ∷ 255 ∷ 9 ∷ [] }

abbrev cpace : Slots
cpace = record { testable = true; amounts = cpa.amounts; counts = cpa.counts }

abbrev leads : List ℕ → ℕ → List ℕ → (profile visits : ℕ) → Bool
leads = leads_in cpa

abbrev stops : List ℕ → ℕ → List ℕ → Bool
stops = stops_in cpa

-- an entry that looks at the data from their first byte on, with its blocks, its check and its actions
abbrev entry : (width count : ℕ) → List ℕ → (check positive negative : ℕ) → List ℕ
entry width count blocks check positive negative = (count * width + 6) ∷ 1 ∷ width ∷ count ∷ blocks ++ check ∷ positive ∷ negative ∷ []

-- an entry that tests an accumulator or a counter; its amount stands at P of the data
abbrev amount_test : (position check : ℕ) → (block : List ℕ) → List ℕ
amount_test position check block = 12 ∷ position ∷ 6 ∷ 1 ∷ block ++ check ∷ 5 ∷ 6 ∷ []

abbrev count_test : (position check block : ℕ) → List ℕ
count_test position check block = 7 ∷ position ∷ 1 ∷ 1 ∷ block ∷ check ∷ 5 ∷ 6 ∷ []

-- 600, 601 and MAX in digits; a byte, and an amount of 1
abbrev six : List ℕ
six = 0 ∷ 0 ∷ 0 ∷ 0 ∷ 0x06 ∷ 0x00 ∷ []

abbrev six_one : List ℕ
six_one = 0 ∷ 0 ∷ 0 ∷ 0 ∷ 0x06 ∷ 0x01 ∷ []

abbrev highest : List ℕ
highest = replicate 6 0x99

abbrev and_one : List ℕ
and_one = 0 ∷ 0 ∷ 0 ∷ 0 ∷ 0 ∷ 0 ∷ 1 ∷ []

-- values of three bytes, 010000, 80FFFF, 00FFFF and 123456; and of eight, the fourth byte 1 and the others 0, and all FF but the first
abbrev three : ℕ → List ℕ
three check = entry 3 5 (replicate 3 0xFF ++ 1 ∷ 0 ∷ 0 ∷ 0x80 ∷ 0xFF ∷ 0xFF ∷ 0 ∷ 0xFF ∷ 0xFF ∷ 0x12 ∷ 0x34 ∷ 0x56 ∷ []) check 5 6

abbrev eight : ℕ → List ℕ
eight check = entry 8 3 (replicate 8 0xFF ++ 0 ∷ 0 ∷ 0 ∷ 1 ∷ replicate 4 0 ++ 0 ∷ replicate 7 0xFF) check 5 6

abbrev low : List ℕ
low = 0 ∷ 0 ∷ 0 ∷ 0 ∷ replicate 4 0xFF

-- an entry that takes every data of a byte, to an action
abbrev always : ℕ → List ℕ
always action = entry 1 2 (0 ∷ 0 ∷ []) 0 action 0

pub record Samples : Type 0 where
  pub walk : T (leads file 3 terminal 3 3)
  pub equal-three : T (leads (three 0) 1 (0 ∷ 0xFF ∷ 0xFF ∷ []) 5 1)
  pub unequal_three : T (leads (three 0) 1 (0x80 ∷ 0xFF ∷ 0xFE ∷ []) 6 1)
  pub less-three : T (leads (three 1) 1 (0 ∷ 0xFF ∷ 0xFF ∷ []) 5 1)
  pub not_less_three : T (leads (three 1) 1 (1 ∷ 0 ∷ 0 ∷ []) 6 1)
  pub greater-three : T (leads (three 2) 1 (1 ∷ 0 ∷ 1 ∷ []) 5 1)
  pub not_greater_three : T (leads (three 2) 1 (0 ∷ 0xFF ∷ 0xFF ∷ []) 6 1)
  pub equal-eight : T (leads (eight 0) 1 (0 ∷ replicate 7 0xFF) 5 1)
  pub less-eight : T (leads (eight 1) 1 low 5 1)
  pub not_greater_eight : T (leads (eight 2) 1 low 6 1)
  -- a value with a bit outside the mask is never equal
  pub outside_mask : T (leads (entry 1 2 (0x0F ∷ 0x1F ∷ []) 0 5 6) 1 (0x1F ∷ []) 6 1)
  -- 81 leads to the very next entry, 82 over one
  pub next-entry : T (leads (always 0x81 ++ always 5 ++ always 6) 3 (0 ∷ []) 5 2)
  pub over-one : T (leads (always 0x82 ++ always 5 ++ always 6 ++ always 7) 4 (0 ∷ []) 6 2)
  -- each cause of 12
  pub profile_zero : T (stops (always 0) 1 (0 ∷ []))
  pub move_zero : T (stops (always 0x80 ++ always 5) 2 (0 ∷ []))
  pub past_the_end : T (stops (always 0x82 ++ always 5) 2 (0 ∷ []))
  pub profile_7_f : T (stops (always 0x7F) 1 (0 ∷ []))
  pub empty-file : T (stops [] 0 (0 ∷ []))
  pub cut_short_lem : T (stops (8 ∷ 1 ∷ 1 ∷ 2 ∷ 0 ∷ 0 ∷ 0 ∷ 5 ∷ []) 1 (0 ∷ []))
  pub below_six : T (stops (5 ∷ 1 ∷ 1 ∷ 2 ∷ 0 ∷ 0 ∷ []) 1 (0 ∷ []))
  pub below_two : T (stops (entry 1 1 (0 ∷ []) 0 5 5) 1 (0 ∷ []))
  pub no_width : T (stops (entry 0 2 [] 0 5 5) 1 (0 ∷ []))
  pub no_start : T (stops (8 ∷ 0 ∷ 1 ∷ 2 ∷ 0 ∷ 0 ∷ 0 ∷ 5 ∷ 5 ∷ []) 1 (0 ∷ []))
  pub unfit : T (stops (9 ∷ 1 ∷ 1 ∷ 2 ∷ 0 ∷ 0 ∷ 0 ∷ 5 ∷ 5 ∷ 5 ∷ []) 1 (0 ∷ []))
  pub unknown-check : T (stops (entry 1 2 (0 ∷ 0 ∷ []) 3 5 5) 1 (0 ∷ []))
  pub reaches_past_lem : T (stops (three 0) 1 (0 ∷ 0xFF ∷ []))
  pub onward : T (stops (always 0x81 ++ always 0x7F ++ always 5) 3 (0 ∷ []))
  -- an accumulator or a counter, less than its block or greater
  pub amount-less : T (leads_in cpace (amount_test 0 0xD0 six_one) 1 [] 5 1)
  pub amount_not_less : T (leads_in cpace (amount_test 0 0xD0 six) 1 [] 6 1)
  pub amount-greater : T (leads_in cpace (amount_test 0 0xE1 six) 1 [] 5 1)
  pub amount_not_greater : T (leads_in cpace (amount_test 0 0xD1 six) 1 [] 6 1)
  pub count_less : T (leads_in cpace (count_test 0 0x90 3) 1 [] 5 1)
  pub count_not_less : T (leads_in cpace (count_test 0 0xA0 3) 1 [] 6 1)
  pub count-greater : T (leads_in cpace (count_test 0 0xA1 2) 1 [] 5 1)
  pub count_not_greater : T (leads_in cpace (count_test 0 0x91 2) 1 [] 6 1)
  -- counter 00 is counter 4, b4 and b3 say nothing, and the data are not looked at
  pub counter-four : T (leads_in cpace (count_test 0 0x81 8) 1 [] 5 1)
  pub other-bits : T (leads_in cpace (count_test 0 0x8D 8) 1 [] 5 1)
  -- with the transaction, stopped at MAX and at 255
  pub amount-more : T (leads_in cpace (amount_test 2 0xD3 six) 1 and_one 5 1)
  pub amount-stopped : T (leads_in cpace (amount_test 2 0xF3 highest) 1 and_one 6 1)
  pub count-more : T (leads_in cpace (count_test 0 0x93 2) 1 [] 5 1)
  pub count-stopped : T (leads_in cpace (count_test 0 0xB3 255) 1 [] 6 1)
  -- each cause of 12
  pub cpa-amount : T (stops (amount_test 1 0xD1 six) 1 and_one)
  pub cpa-count : T (stops (count_test 1 0x81 8) 1 and_one)
  pub no_accumulator : T (stops_in cpace (amount_test 1 0xC1 six) 1 and_one)
  pub upper-digit : T (stops_in cpace (amount_test 1 0xD1 (0 ∷ 0 ∷ 0 ∷ 0 ∷ 0xA0 ∷ 0 ∷ [])) 1 and_one)
  pub lower-digit : T (stops_in cpace (amount_test 1 0xD1 (0 ∷ 0 ∷ 0 ∷ 0 ∷ 0 ∷ 0x0A ∷ [])) 1 and_one)
  pub no_block : T (stops_in cpace (6 ∷ 1 ∷ 1 ∷ 0 ∷ 0x91 ∷ 5 ∷ 6 ∷ []) 1 and_one)
  pub two_blocks : T (stops_in cpace (8 ∷ 1 ∷ 1 ∷ 2 ∷ 2 ∷ 2 ∷ 0x91 ∷ 5 ∷ 6 ∷ []) 1 and_one)
  pub not_six : T (stops_in cpace (11 ∷ 1 ∷ 5 ∷ 1 ∷ 0 ∷ 0 ∷ 0 ∷ 0 ∷ 0 ∷ 0xD1 ∷ 5 ∷ 6 ∷ []) 1 and_one)
  pub not_byte : T (stops_in cpace (8 ∷ 1 ∷ 2 ∷ 1 ∷ 0 ∷ 2 ∷ 0x91 ∷ 5 ∷ 6 ∷ []) 1 and_one)
  pub amount_nowhere : T (stops_in cpace (amount_test 0 0xD3 six) 1 and_one)
  pub amount-past : T (stops_in cpace (amount_test 3 0xD3 six) 1 and_one)
  pub amount_no_digits : T (stops_in cpace (amount_test 1 0xD3 six) 1 (0 ∷ 0 ∷ 0 ∷ 0 ∷ 0 ∷ 0x0A ∷ []))
  pub unknown_in_cpace : T (stops_in cpace (entry 1 2 (0 ∷ 0 ∷ []) 0x7F 5 5) 1 (0 ∷ []))
  -- a file, and none with a byte behind it, with an entry fewer, or cut short
  pub whole-file : T (is_file file 3)
  pub byte-behind : T (not (is_file (file ++ 0 ∷ []) 3))
  pub entry-behind : T (not (is_file file 2))
  pub cut-file : T (not (is_file (8 ∷ 1 ∷ 1 ∷ 2 ∷ 0 ∷ 0 ∷ 0 ∷ 5 ∷ []) 1))

pub samples : Samples
unfolding number block is_well_formed reaches_past masked is_any_of passes are_pairs pairs_value tests_slot slot_of is_slot_sound has_amount lacks_amount slot_value
    slot_passes action_of data_action slot_action action_taken entries_of is_file follow select_from selection_of
samples =
    record {
      walk = tt;
      equal-three = tt;
      unequal_three = tt;
      less-three = tt;
      not_less_three = tt;
      greater-three = tt;
      not_greater_three = tt;
      equal-eight = tt;
      less-eight = tt;
      not_greater_eight = tt;
      outside_mask = tt;
      next-entry = tt;
      over-one = tt;
      profile_zero = tt;
      move_zero = tt;
      past_the_end = tt;
      profile_7_f = tt;
      empty-file = tt;
      cut_short_lem = tt;
      below_six = tt;
      below_two = tt;
      no_width = tt;
      no_start = tt;
      unfit = tt;
      unknown-check = tt;
      reaches_past_lem = tt;
      onward = tt;
      amount-less = tt;
      amount_not_less = tt;
      amount-greater = tt;
      amount_not_greater = tt;
      count_less = tt;
      count_not_less = tt;
      count-greater = tt;
      count_not_greater = tt;
      counter-four = tt;
      other-bits = tt;
      amount-more = tt;
      amount-stopped = tt;
      count-more = tt;
      count-stopped = tt;
      cpa-amount = tt;
      cpa-count = tt;
      no_accumulator = tt;
      upper-digit = tt;
      lower-digit = tt;
      no_block = tt;
      two_blocks = tt;
      not_six = tt;
      not_byte = tt;
      amount_nowhere = tt;
      amount-past = tt;
      amount_no_digits = tt;
      unknown_in_cpace = tt;
      whole-file = tt;
      byte-behind = tt;
      entry-behind = tt;
      cut-file = tt;
    }
