-- All that a paper's lines compute by, with the words that it is lent: to unfold `answered` is to unfold the readers and the card. Assumes
-- nothing.
use mathlib.Core.Bool.{Bool}
use mathlib.Core.List.{List}
use Prim.Native.Nat.{ℕ}
use lib.ListN.{length}
use Rattle.wire.specs.Wire.{number}
use Rattle.money.specs.Money.{rate_for, rounded, scaled, convert_of}
use Rattle.digits.specs.Digits.{are_pairs, pairs_value}
use Rattle.iad.specs.Iad.{is_cvr, is_writable, pairs_of, iad_bytes, write_iad, written}
use Rattle.rules.specs.Rules.{Rules, profile_of, rules_of, find_profile}
use Rattle.rules.specs.Limits.{with_accumulator_limits}
use Rattle.load.specs.Load.{head_words, rate_words, rates_words, limit_in, rule_words, rules_words, profile_head_words, sent_words, profile_words}
use Rattle.load.specs.Load.{profiles_words, cycle_words, cyclic_rule_words, cyclic_rules_words, cycles_words, family_words, loaded}
use Rattle.ranges.specs.Ranges.{is_setup, has_length, is_head, are_accumulators, is_accumulator, are_profiles, is_profile_or_absent, is_profile}
use Rattle.ranges.specs.Ranges.{are_masks, is_maximum_amount, are_accumulator_rules, is_accumulator_rule, are_counter_rules, are_sent}
use Rattle.ranges.specs.Ranges.{are_numbers_apart, profile_number, are_conversions, is_conversion_or_absent, is_conversion, conversion_pair, are_pairs_apart}
use Rattle.tails.specs.Tails.{is_cycle, is_cyclic_rule, are_cyclic_rules, are_cycles, is_family}
use Rattle.calendar.specs.Calendar.{date_at, has_day, is_day}
use Rattle.setup.specs.Setup.{fresh_in, read_setup, words_after, rate_in, accumulator_in, counter_in, profile_in, cycle_in, cyclic_in, rules_in}
use Rattle.shape.specs.declared.Shape.{Shape}
use Rattle.shape.specs.Shape.{shape_of, tails_of, base_tail, entries_end, selection_tail, syllabus_tail, dating_tail, family_tail, scripting_tail, logging_tail}
use Rattle.log_tail.specs.LogTail.{entry_in, reaches_past, are_flags, are_sources, are_within, is_in_range, is_within, judged}
use Rattle.paper.specs.Paper.{next_at, open_paper}
use Rattle.command.specs.declared.Command.{Command}
use Rattle.command.specs.Command.{start_of, first_of, second_of, command_of, command_in}
use Rattle.object.specs.Object.{length_size, length_at, value_size, head_size, head_formed, head_right, value_of, read_object, read_behind, read_list, is_template}
use Rattle.object.specs.Object.{read_template}
use Rattle.cursor.specs.Cursor.{places_behind, places_from, cut, commands_of}
use Rattle.element.specs.declared.Write.{Write}
use Rattle.element.specs.Element.{length_size as put_size, length_at as put_at, value_written, limits_written, meaning_of, head_size as put_head}
use Rattle.element.specs.Element.{element_size, element_meaning}
use Rattle.put_data.specs.PutData.{writes_by, is_put_data, list_place, mac_place, is_secured, elements_of, writes_of}
use Rattle.script.specs.Script.{kept, fresh_scripts, started, one_done, marks_of, value_in, done, tried, template_tried, ran_of}
use Rattle.purchase.specs.Meter.{worth, cyclic_worth, is_open}
use Rattle.meters.specs.Meters.{applied}
use Rattle.limits.specs.Limits.{accumulators_lower, accumulators_upper, counters_lower, counters_upper, dating_flags}
use Rattle.checks.specs.Checks.{maximum_exceeded, decision_bits}
use Rattle.state.specs.declared.State.{State}
use Rattle.state.specs.declared.Outcome.{Outcome}
use Rattle.cryptogram.specs.Cryptogram.{limits_byte, verification, sent_iad}
use Rattle.cycles.specs.Cycles.{timing_of, dated}
use Rattle.first.specs.First.{decision, settled, asked, concluded, first_answered, first_performed}
use Rattle.fresh.specs.Fresh.{fresh_state}
use Rattle.card.specs.Card.{start_step, first_step, step_of}
use Rattle.scripting.specs.Scripting.{script_performed, script_step, script_writes}
use Rattle.begun.specs.declared.Begun.{Begun}
use Rattle.records.specs.declared.Event.{Event}
use Rattle.records.specs.Records.{answered_by, scripted_by, body_writes}
use Rattle.begun.specs.Begun.{past_begun, base_begun}
use Rattle.opening.specs.Opening.{log_judged, setup_begun, begun_of, setup_words, words_begun}
use Rattle.conversation.specs.Conversation.{taken_of, taken_writes}
use Rattle.conversation.specs.Events.{events_from, events_of}
use Rattle.hex_digits.specs.Hex.{hex}
use Rattle.lines.specs.Lines.{digit, decimal, refusal_line, start_line, selected_line, cryptogram_line}
use Rattle.lines.specs.Sitting.{answer_line, lines_of, sitting_lines}
use Rattle.std.specs.Prelude.{Result}
use Rattle.log_tail.specs.declared.Fault.{Fault}
use Rattle.refusal.specs.declared.Refusal.{Refusal}

-- the ranges of a set-up
unfoldable in_range : List ℕ → (unnamed : ℕ) → Bool
unfolding number is_setup has_length is_head are_accumulators is_accumulator are_profiles is_profile_or_absent is_profile are_masks is_maximum_amount
    are_accumulator_rules is_accumulator_rule are_counter_rules are_sent are_numbers_apart profile_number
in_range s unnamed = is_setup s unnamed

-- its tails
unfoldable tailed : (version : ℕ) (body : List ℕ) → Result Shape Refusal
unfolding tails_of base_tail entries_end selection_tail syllabus_tail dating_tail family_tail scripting_tail logging_tail are_cycles is_cycle are_cyclic_rules is_cyclic_rule date_at is_day
    has_day is_family
tailed version body = shape_of version body

unfoldable logged : Shape → (body : List ℕ) → Result Unit Fault
unfolding entry_in reaches_past are_flags are_sources are_within is_in_range is_within judged
logged shape body = log_judged shape body

-- a paper opened, and its set-up read into words
unfoldable pub begun : (paper : List ℕ) → Begun
unfolding in_range are_conversions is_conversion_or_absent is_conversion conversion_pair are_pairs_apart tailed logged open_paper next_at shape_of read_setup fresh_in
    fresh_state fresh_scripts kept begun_of setup_begun base_begun log_judged past_begun
begun paper = begun_of paper

unfoldable rules : (words paper : List ℕ) → Rules
unfolding words_begun setup_words words_after log_judged loaded head_words rates_words rate_words profiles_words profile_words profile_head_words rules_words rule_words
    limit_in sent_words cycles_words cycle_words cyclic_rules_words cyclic_rule_words family_words rules_of profile_of
rules words paper = rules_of (words_begun words paper)

-- a Start and a First
unfoldable tested : Rules → State → Command → Outcome
unfolding worth cyclic_worth is_open convert_of rate_for rounded scaled applied decision_bits accumulators_lower accumulators_upper counters_lower counters_upper dating_flags
    maximum_exceeded decision limits_byte verification settled asked concluded
tested rules state command = step_of rules state command

unfoldable stepped : Rules → State → Command → Outcome
unfolding tested kept started marks_of step_of start_step first_step find_profile first_performed first_answered timing_of dated sent_iad pairs_of iad_bytes is_cvr is_writable write_iad written
stepped rules state command = step_of rules state command

-- a script, and what it writes
unfoldable read : State → (result : ℕ) (template : List ℕ) → List Write
unfolding length_size length_at value_size head_size head_formed head_right value_of read_object read_behind read_list is_template read_template places_behind places_from cut
    commands_of are_pairs pairs_value put_size put_at value_written limits_written meaning_of put_head element_size element_meaning writes_by is_put_data list_place mac_place is_secured
    elements_of writes_of
read state result template = script_writes state result template

unfoldable ran : State → (result : ℕ) (template : List ℕ) → List Write
unfolding read one_done value_in done tried template_tried ran_of script_performed script_step script_writes
ran state result template = script_writes state result template

-- the records, and their lines
unfoldable happened : (words paper : List ℕ) → List Event
unfolding begun rules stepped events_of events_from taken_of taken_writes answered_by command_in command_of start_of first_of second_of
happened words paper = events_of words paper

unfoldable pub answered : (words paper : List ℕ) → List (List ℕ)
unfolding happened sitting_lines lines_of answer_line refusal_line start_line selected_line cryptogram_line decimal digit hex
answered words paper = sitting_lines words paper

-- the records by rules and at a card that bytes hold, scripts among them
unfoldable pub heard : Rules → Shape → State → (paper : List ℕ) → List Event
unfolding happened ran rules_in rate_in profile_in accumulator_in counter_in cycle_in cyclic_in scripted_by body_writes with_accumulator_limits
heard rules shape state paper = events_from (length paper) rules shape state paper 0
