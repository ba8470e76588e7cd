-- What the statements say at chosen inputs, worked out. Assumes nothing.
use mathlib.Core.Path.{◌≡◌}
use mathlib.Core.Bool.{Bool, true, false, not, ◌&&◌}
use mathlib.Core.List.{List, [], ◌∷◌, ◌++◌}
use Prim.Native.Nat.{ℕ}
use lib.Dec.{T, eqb}
use lib.ListN.{length, take, drop, replicate, get_or}
use Rattle.wire.specs.Wire.{byte, number}
use Rattle.calendar.specs.declared.Date.{Date}
use Rattle.calendar.specs.Calendar.{date_at}
use Rattle.cpace.specs.declared.Cvm.{Cvm}
use Rattle.cpace.specs.declared.Cvm.TheVariants.{OnlinePin, Signature, NoCvm}
use Rattle.cpace.specs.Cpace.{cvm_at, cashback_at}
use Rattle.rules.specs.Word.{word_count}
use Rattle.setup.specs.Setup.{rules_in, fresh_in}
use Rattle.rules.specs.declared.Values.{Values}
use Rattle.slot.specs.Slot.{tests_slot, slot_of, is_slot_sound, lacks_amount, slot_value, slot_passes}
use Rattle.entry.specs.Entry.{is_well_formed, reaches_past, block, masked, is_any_of, passes, action_of, data_action, slot_action, action_taken}
use Rattle.selection.specs.Selection.{entries_of, follow, select_from, selection_of}
use Rattle.shape.specs.declared.Family.TheVariants.{Cpace}
use Rattle.shape.specs.declared.Shape.{Shape}
use Rattle.shape.specs.Shape.{based, selects, dates, families, scripts}
use Rattle.paper.specs.Paper.{next_at, open_paper, opened_number}
use Rattle.command.specs.declared.Start.{Start}
use Rattle.command.specs.declared.First.{First}
use Rattle.command.specs.Command.{start_of, first_of, second_of, command_of, start_selected, selecting_of, slots_of, command_in}
use Rattle.state.specs.declared.Answer.TheVariants.{Started, Done}
use Rattle.fresh.specs.Fresh.{fresh_state}
use Rattle.card.specs.Message.{StartCommand, FirstCommand, SecondCommand, ScriptCommand}
use Rattle.lines.specs.Lines.{digit, decimal, refusal_line, start_line, selected_line}
use Rattle.records.specs.Records.{answered_by}
use Rattle.conversation.specs.Conversation.{taken_of, taken_writes}
use Rattle.conversation.specs.Events.{events_from}
use Rattle.lines.specs.Sitting.{answer_line, lines_of, sitting_lines}
use Rattle.readback.specs.Fields.{words_in, are_digits, value_in, is_hex, bytes_in, Fields, Two, Three, Four, Five, Other, fields_in}
use Rattle.spelling.specs.Spelling.{big, record_of, unsaid, on, Presented, unshown, shown, names, brings, first, first_on, second, script}
use Rattle.spelling.specs.Spelling.{kind_of, body_of, spell, paper_of}
use Rattle.spelling.specs.Printed.{printed, body, calendar, calendar_body, cpace_paper, cpace_body}
use Rattle.spelling.specs.Sitting.{Reading, over, refused, message, reading}
use Rattle.spelling.proofs.Computed.{answered, heard}
use Rattle.std.specs.Prelude.{None, Option, Some}
use Rattle.selection.specs.declared.Selected.{Selected}
use Rattle.shape.specs.Shape.{span}

-- `nine-exactly`: a paper ends with 9 before its first command
abbrev is_unread : List ℕ → Bool
is_unread s = eqb (opened_number (open_paper s)) 9

-- what is read at a card whose counter 1 is 5
abbrev values : Values
values = record { accumulators = []; counters = 5 ∷ []; cyclic = [] }

abbrev reading_with : Shape → List ℕ → ℕ → Reading
reading_with shape s at = reading shape values s at

-- `reads-fault`: what stands there ends the paper with 9
abbrev is_nine : Reading → Bool
is_nine over = false
is_nine (refused n) = eqb n 9
is_nine (message m end) = false

abbrev faults : List ℕ → Bool
faults s = is_nine (reading_with (based 0) s 0)

-- `reads-spelled`: the fields read of a Start, a First, a Second and a script, and where the next record stands
abbrev of_start : (Start → (end : ℕ) → Bool) → Reading → Bool
of_start test over = false
of_start test (refused n) = false
of_start test (message (StartCommand s) end) = test s end
of_start test (message (FirstCommand f) end) = false
of_start test (message (SecondCommand s) end) = false
of_start test (message (ScriptCommand r t) end) = false

abbrev of_first : (First → (end : ℕ) → Bool) → Reading → Bool
of_first test over = false
of_first test (refused n) = false
of_first test (message (StartCommand s) end) = false
of_first test (message (FirstCommand f) end) = test f end
of_first test (message (SecondCommand s) end) = false
of_first test (message (ScriptCommand r t) end) = false

abbrev is_first : Reading → (type amount currency terminal end : ℕ) → Bool
is_first reading type amount currency terminal end =
    of_first (λ f at.
    eqb f.requested type && eqb f.amount.0 amount && eqb f.currency currency && eqb f.terminal terminal && eqb at end) reading

abbrev is_second : Reading → (type code issuer csu end : ℕ) → Bool
is_second over type code issuer csu end = false
is_second (refused n) type code issuer csu end = false
is_second (message (StartCommand s) at) type code issuer csu end = false
is_second (message (FirstCommand f) at) type code issuer csu end = false
is_second (message (SecondCommand s) at) type code issuer csu end =
    eqb s.requested type && eqb s.code code && eqb s.issuer issuer && eqb s.csu csu && eqb at end
is_second (message (ScriptCommand r t) at) type code issuer csu end = false

-- a script's template by its size and the number of its bytes
abbrev is_script_of : Reading → (result size template end : ℕ) → Bool
is_script_of over result size template end = false
is_script_of (refused n) result size template end = false
is_script_of (message (StartCommand s) at) result size template end = false
is_script_of (message (FirstCommand f) at) result size template end = false
is_script_of (message (SecondCommand s) at) result size template end = false
is_script_of (message (ScriptCommand r t) at) result size template end =
    eqb r result && eqb (length t) size && eqb (number t 0 size) template && eqb at end

abbrev with_scripts : Shape
with_scripts = scripts (based 0) true

-- and of a First with its date, in a paper with dates
abbrev with_dates : Shape
with_dates = dates (based 0) (Some (span 0 0))

abbrev is_on : Option Date → (year month day : ℕ) → Bool
is_on None year month day = false
is_on (Some date) year month day = eqb date.year year && eqb date.month month && eqb date.day day

abbrev is_first_on : Reading → (year month day : ℕ) → Bool
is_first_on reading year month day = of_first (λ f at. is_on f.when year month day) reading

abbrev day : Date
day = record { year = 0x05; month = 0x07; day = 0x15 }

abbrev on_day : List ℕ
on_day = spell (first_on day 1 5000 0x0978 0x22 unshown)

-- and of what only a CPACE card is sent
abbrev with_cpace : Shape
with_cpace = families (based 0) (Cpace 0 0)

abbrev is_named : Option Selected → (profile visits : ℕ) → Bool
is_named None profile visits = false
is_named (Some chosen) profile visits = eqb chosen.profile profile && eqb chosen.visits visits

abbrev is_start : Reading → (interface profile visits end : ℕ) → Bool
is_start reading interface profile visits end =
    of_start (λ s at. eqb s.interface interface && is_named s.chosen profile visits && eqb at end) reading

abbrev presenting : Presented → Reading
presenting presented = reading_with with_cpace (spell (first 1 5000 0x0978 0x22 presented)) 0

-- the CVM by its bit in a control
abbrev cvm_bit : Cvm → ℕ
cvm_bit OnlinePin = 4
cvm_bit Signature = 2
cvm_bit NoCvm = 1

abbrev is_verified : Reading → (bit : ℕ) → Bool
is_verified reading bit = of_first (λ f at. eqb (cvm_bit f.cvm) bit) reading

abbrev has_cashback : Reading → Bool
has_cashback reading = of_first (λ f at. f.cashback) reading

-- a file that asks the first byte of a Start: 1 is profile 2, else 1; and such a Start behind it
abbrev asking : List ℕ
asking = 8 ∷ 1 ∷ 1 ∷ 2 ∷ 0xFF ∷ 1 ∷ 0 ∷ 2 ∷ 1 ∷ []

abbrev behind_file : List ℕ → Reading
behind_file start = reading_with (selects with_cpace 0 9 1) (asking ++ start) 9

-- a file that asks whether counter 1 is above 4: then profile 2, else 1
abbrev testing : List ℕ
testing = 7 ∷ 0 ∷ 1 ∷ 1 ∷ 4 ∷ 0x91 ∷ 2 ∷ 1 ∷ []

-- `lines_of`: how many lines n turns over a rest say
abbrev line_count : List ℕ → ℕ
line_count s = length (lines_of 1 (events_from 9 (rules_in [] [] [] 0) (based 0) (fresh_state (fresh_in [] [])) s 0))

-- the lines of a script, a Start and a First at the printed set-up's card
abbrev behind_script : (size template : ℕ) → List (List ℕ)
behind_script size template =
    let sent = spell (script 1 (big size template)) ++ spell (names unsaid 1) ++ spell (first 1 5000 0x0978 0x22 unshown) in
    lines_of 1 (events_from 3 (rules_in body [] [] 0) with_scripts (fresh_state (fresh_in body [])) sent 0)

-- `answer-shown`: the fields of a script's line, and of a Start's line that shows the visits
abbrev is_two : Fields → (number refusal : ℕ) → Bool
is_two (Two n r) number refusal = eqb n number && eqb r refusal
is_two (Three n r a) number refusal = false
is_two (Four n r a v) number refusal = false
is_two (Five n r c a i) number refusal = false
is_two Other number refusal = false

abbrev is_four : Fields → (number refusal atc visits : ℕ) → Bool
is_four (Two n r) number refusal atc visits = false
is_four (Three n r a) number refusal atc visits = false
is_four (Four n r a v) number refusal atc visits = eqb n number && eqb r refusal && eqb a atc && eqb v visits
is_four (Five n r c a i) number refusal atc visits = false
is_four Other number refusal atc visits = false

-- `every-paper`: the lines of papers with blank words. The printed set-up and a Start
abbrev blank : List ℕ
blank = replicate word_count 0

abbrev started : List (List ℕ)
started = sitting_lines blank (paper_of 1 body (spell (names unsaid 1)))

-- version 03, the same set-up with 0840 at 0.4 of 0978, syllabus 1; a Start and a First of 1 in 0840: the last digit of the accumulator sent
abbrev converting : List ℕ
converting = take 4 body ++ 1 ∷ drop 5 body ++ 0x08 ∷ 0x40 ∷ 0x09 ∷ 0x78 ∷ 0 ∷ 4 ∷ 8 ∷ []

abbrev rounded_up : List (List ℕ)
rounded_up = sitting_lines blank (paper_of 3 (converting ++ 0 ∷ 1 ∷ []) (spell (names unsaid 1) ++ spell (first 1 1 0x0840 0x22 unshown)))

-- version 07, the printed set-up and a log behind it, and a Start: every tail before the log is off
abbrev with_log : (base log : List ℕ) → List (List ℕ)
with_log base log = sitting_lines blank (paper_of 7 (base ++ 0 ∷ 0 ∷ 0 ∷ 0 ∷ 0 ∷ log) (spell (names unsaid 1)))

-- a log of size 0 that logs nothing, with one entry in First's table, and with two in Second's, of which the last reaches past its 8 bytes
abbrev entry : (source position long : ℕ) → List ℕ
entry source position long = 1 ∷ 0 ∷ 0 ∷ 0 ∷ 1 ∷ source ∷ position ∷ long ∷ 0 ∷ []

abbrev past : (size : ℕ) → List ℕ
past size = 1 ∷ size ∷ 0 ∷ 0 ∷ 0 ∷ 2 ∷ 1 ∷ 9 ∷ 0 ∷ 1 ∷ 8 ∷ 2 ∷ []

-- PIN tries 16 are out of range
abbrev bad_base : List ℕ
bad_base = take 1 body ++ 16 ∷ drop 2 body

-- the same entry behind a set-up with dates, and of a CPACE card
abbrev with_dates_log : (log : List ℕ) → List (List ℕ)
with_dates_log log = sitting_lines blank (paper_of 7 (calendar_body ++ 0 ∷ 0 ∷ log) [])

abbrev with_cpace_log : (log : List ℕ) → List (List ℕ)
with_cpace_log log = sitting_lines blank (paper_of 7 (cpace_body ++ 0 ∷ log) [])

-- the set-up's line is the only one, with this refusal
abbrev ends_with : List (List ℕ) → (refusal : ℕ) → Bool
ends_with lines refusal = eqb (length lines) 1 && is_two (fields_in (get_or lines 0 [])) 0 refusal

pub record Samples : Type 0 where
  -- 4 bytes and any 65,533 more
  pub over-long : (more : List ℕ) → length more ≡ 65533 → T (is_unread (1 ∷ 0 ∷ 1 ∷ 1 ∷ more))
  pub version_0 : T (is_unread (0 ∷ 0 ∷ 1 ∷ 1 ∷ []))
  pub version_8 : T (is_unread (8 ∷ 0 ∷ 1 ∷ 1 ∷ []))
  pub first-fields : T (is_first (reading_with (based 0) (spell (first 1 5000 0x0978 0x22 unshown)) 0) 1 5000 0x0978 0x22 15)
  pub dated-fields : T (is_first (reading_with with_dates on_day 0) 1 5000 0x0978 0x22 18)
  pub date-field : T (is_first_on (reading_with with_dates on_day 0) 0x05 0x07 0x15)
  pub second-fields : T (is_second (reading_with (based 0) (spell (second 1 0x5933 2 0x01020304)) 0) 1 0x5933 2 0x01020304 11)
  -- a script's result and template; one without a template is read
  pub script-fields : T (is_script_of (reading_with with_scripts (spell (script 1 (0x71 ∷ 0x00 ∷ []))) 0) 1 2 0x7100 6)
  pub script_bare : T (is_script_of (reading_with with_scripts (spell (script 1 [])) 0) 1 0 0 4)
  -- a CPACE Start names its interface and then its profile; where it brings the terminal's data, the file reads the interface first
  pub interface_field : T (is_start (reading_with with_cpace (spell (names (on 0) 1)) 0) 0 1 0 5)
  pub interface_read : T (is_start (behind_file (spell (brings (on 1) []))) 1 2 1 13)
  -- or what the card holds
  pub slot_tested : T (is_start (reading_with (selects with_cpace 0 8 1) (testing ++ spell (brings (on 1) [])) 8) 1 2 1 12)
  -- a CPACE First, also with its date
  pub presented_fields : T (is_first (presenting (shown 0x1E 0x03 0x00 0)) 1 5000 0x0978 0x22 24)
  pub presented_on_day : T (is_verified (reading_with (families with_dates (Cpace 0 0)) (spell (first_on day 1 5000 0x0978 0x22 (shown 0x1E 3 0 0))) 0) 2)
  -- 1E 03 00 is signature, 42 03 00 online PIN, 1E 03 02 no CVM
  pub signature_shown : T (is_verified (presenting (shown 0x1E 0x03 0x00 0)) 2)
  pub low_bits_asked : T (is_verified (presenting (shown 0x42 0x03 0x00 0)) 4)
  pub result_asked : T (is_verified (presenting (shown 0x1E 0x03 0x02 0)) 1)
  -- cashback in its first byte alone; none
  pub cashback_first_byte : T (has_cashback (presenting (shown 0 0 0 0x010000000000)))
  pub cashback_none : T (not (has_cashback (presenting (shown 0 0 0 0))))
  -- the set-up repeated, an unknown kind, none (length 0), a Start of two bytes
  pub setup-repeated : T (faults (record_of 1 (1 ∷ [])))
  pub kind-unknown : T (faults (record_of 5 (replicate 8 0)))
  pub no_kind : T (faults (0 ∷ 0 ∷ 0 ∷ []))
  pub start_too_long : T (faults (record_of 2 (1 ∷ 1 ∷ [])))
  -- a First of 12 bytes in a paper with dates, of 15 in one without
  pub first-undated : T (is_nine (reading_with with_dates (spell (first 1 5000 0x0978 0x22 unshown)) 0))
  pub first-dated : T (faults on_day)
  -- neither is a First in a paper of a CPACE card, nor a Start of one byte, nor an empty one where it brings the terminal's data
  pub first_unpresented : T (is_nine (reading_with with_cpace on_day 0))
  pub start_too_short : T (is_nine (reading_with with_cpace (spell (names unsaid 1)) 0))
  pub start-empty : T (is_nine (behind_file (record_of 2 [])))
  -- a script where scripts are off; and where they are on, kind 6, and a script without a byte
  pub script-off : T (faults (spell (script 1 (0x71 ∷ 0x00 ∷ []))))
  pub kind_6 : T (is_nine (reading_with with_scripts (record_of 6 (1 ∷ 0x71 ∷ 0x00 ∷ [])) 0))
  pub script-empty : T (is_nine (reading_with with_scripts (record_of 5 []) 0))
  -- what stands behind a fault is no longer a command
  pub ends_at_nine : T (eqb (line_count (record_of 1 (1 ∷ []) ++ spell (names unsaid 1))) 1)
  -- the set-up's line has number 0, the first command's is the next, by the paper's own rules and its syllabus
  pub numbered_from_0 : T (eqb (byte (get_or (sitting_lines [] []) 0 []) 0) 0x30)
  pub first-command : T (eqb (length started) 2)
  pub own_rules : T (eqb (length (get_or started 1 [])) 6)
  pub rounded_up_lem : T (eqb (byte (get_or rounded_up 2 []) 36) 0x31)
  -- a paper of version 07 is taken, its log off or on
  pub log-off : T (eqb (length (with_log body (0 ∷ []))) 2)
  pub log-on : T (eqb (length (with_log body (entry 0 12 1))) 2)
  -- a table that reaches past its data ends it with 14; 1 comes before it, of the log and of the base
  pub past_data : T (ends_with (with_log body (past 0)) 14)
  pub range_first : T (ends_with (with_log body (past 21)) 1)
  pub base-first : T (ends_with (with_log bad_base (past 0)) 1)
  -- First's data has 12 bytes, with dates 15, of a CPACE card 21
  pub past_first : T (ends_with (with_log body (entry 0 13 1)) 14)
  pub within-dates : T (ends_with (with_dates_log (entry 0 13 3)) 0 && ends_with (with_dates_log (entry 0 13 4)) 14)
  pub within-cpace : T (ends_with (with_cpace_log (entry 0 13 9)) 0 && ends_with (with_cpace_log (entry 0 13 10)) 14)
  -- a script's line; the CID of a First behind it, TC, and AAC where the script has written 5 into accumulator 1 and 0 into its limits
  pub script-first : T (is_two (fields_in (get_or (behind_script 2 0x7100) 0 [])) 1 0)
  pub nothing_written : T (eqb (byte (get_or (behind_script 2 0x7100) 2 []) 4) 0x34)
  pub limits-written : T (eqb (byte (get_or (behind_script 41 0x712786250CDABF30208118DF0106000000000005DF110C0000000000000000000000008E0411223344) 2 []) 4) 0x30)
  -- the line of a script that is done; one visit shows
  pub script-line : T (is_two (fields_in (answer_line 3 Done)) 3 0)
  pub visit_shown : T (is_four (fields_in (answer_line 3 (Started 2 1))) 3 0 2 1)

pub samples : Samples
unfolding open_paper next_at number date_at cvm_at cashback_at reading command_in command_of start_of first_of second_of start_selected selecting_of
    selection_of select_from entries_of follow action_taken data_action action_of passes is_any_of masked block reaches_past is_well_formed
    slots_of tests_slot slot_action is_slot_sound slot_of lacks_amount slot_passes slot_value
    kind_of body_of record_of big
    events_from taken_of taken_writes answered_by lines_of refusal_line decimal digit answer_line start_line selected_line
    fields_in words_in are_digits value_in is_hex bytes_in printed calendar cpace_paper answered heard
samples =
    record {
      over-long = λ more e. rw e tt;
      version_0 = tt;
      version_8 = tt;
      first-fields = tt;
      dated-fields = tt;
      date-field = tt;
      second-fields = tt;
      script-fields = tt;
      script_bare = tt;
      interface_field = tt;
      interface_read = tt;
      slot_tested = tt;
      presented_fields = tt;
      presented_on_day = tt;
      signature_shown = tt;
      low_bits_asked = tt;
      result_asked = tt;
      cashback_first_byte = tt;
      cashback_none = tt;
      setup-repeated = tt;
      kind-unknown = tt;
      no_kind = tt;
      start_too_long = tt;
      first-undated = tt;
      first-dated = tt;
      first_unpresented = tt;
      start_too_short = tt;
      start-empty = tt;
      script-off = tt;
      kind_6 = tt;
      script-empty = tt;
      ends_at_nine = tt;
      numbered_from_0 = tt;
      first-command = tt;
      own_rules = tt;
      rounded_up_lem = tt;
      log-off = tt;
      log-on = tt;
      past_data = tt;
      range_first = tt;
      base-first = tt;
      past_first = tt;
      within-dates = tt;
      within-cpace = tt;
      script-first = tt;
      nothing_written = tt;
      limits-written = tt;
      script-line = tt;
      visit_shown = tt;
    }
