-- All that a sitting computes by: to unfold `computed` is to unfold the definitions of the card and those of the auditor. Assumes nothing.
use mathlib.Core.Bool.{Bool}
use mathlib.Core.List.{List}
use Prim.Native.Nat.{ℕ}
use Rattle.wire.specs.Wire.{number}
use Rattle.calendar.specs.declared.Date.{Date}
use Rattle.calendar.specs.declared.Period.{Period}
use Rattle.calendar.specs.Calendar.{date_at, is_day, has_day, is_before, day_number, days_of, cycle_of, begins}
use Rattle.calendar.specs.Almanac.{Civil, civil_of, in_years, in_months, ordinal, last_named, began, is_new}
use Rattle.money.specs.declared.Converted.{Converted}
use Rattle.money.specs.Money.{rate_for, rounded, scaled, convert_of}
use Rattle.iad.specs.Iad.{pairs_of, iad_bytes}
use Rattle.ranges.specs.Ranges.{is_setup, has_length, is_head, are_accumulators, is_accumulator, are_profiles, is_profile_or_absent, is_profile}
use Rattle.ranges.specs.Ranges.{are_masks, is_maximum_amount, are_accumulator_rules, is_accumulator_rule, are_counter_rules, are_sent}
use Rattle.ranges.specs.Ranges.{are_numbers_apart, profile_number, are_conversions}
use Rattle.tails.specs.Tails.{is_cycle, is_cyclic_rule, are_cyclic_rules, are_cycles, is_family}
use Rattle.ranges.specs.Ranges.{is_conversion_or_absent, is_conversion, conversion_pair, are_pairs_apart}
use Rattle.rules.specs.declared.Place.{Place}
use Rattle.rules.specs.declared.Values.{Values}
use Rattle.rules.specs.Rules.{Rules, find_profile}
use Rattle.setup.specs.Setup.{rate_in, accumulator_in, counter_in, profile_in, cycle_in, cyclic_in, rules_in, fresh_in, read_setup}
use Rattle.command.specs.declared.First.{First}
use Rattle.rules.specs.Limits.{with_accumulator_limits, with_counter_limits}
use Rattle.digits.specs.Digits.{are_pairs, pairs_value}
use Rattle.object.specs.Object.{length_size, length_at, head_size, value_size, head_formed, head_right, value_of, read_object, read_behind, read_list, is_template}
use Rattle.object.specs.Object.{read_template}
use Rattle.cursor.specs.Cursor.{places_behind, places_from, cut, commands_of}
use Rattle.element.specs.declared.Write.{Write}
use Rattle.element.specs.Element.{length_size as put_size, length_at as put_at, head_size as put_head, value_written, limits_written, counts_written, meaning_of}
use Rattle.element.specs.Element.{element_size, element_meaning}
use Rattle.put_data.specs.PutData.{writes_by, is_put_data, list_place, mac_place, is_secured, elements_of, writes_of}
use Rattle.marks.specs.declared.Scripts.{Scripts}
use Rattle.script.specs.declared.Ran.{Ran}
use Rattle.script.specs.Script.{value_in, kept, fresh_scripts, one_done, one_failed, started, heard, marks_of, done, tried, template_tried, ran_of}
use Rattle.auditor.specs.Template.{short_in, value_in as value_read, commands_by, digits_in, are_digits, decimal, is_amount, amount_in, of_accumulator, of_counter}
use Rattle.auditor.specs.Template.{commands_in, list_by, begins as begun_with, data_in, writes_in}
use Rattle.card.specs.Message.{Message, message_step, message_writes}
use Rattle.purchase.specs.declared.Purchase.{Purchase}
use Rattle.purchase.specs.Meter.{worth, cyclic_worth, is_open, Meter}
use Rattle.meters.specs.Meters.{applied}
use Rattle.state.specs.declared.History.{History}
use Rattle.limits.specs.Limits.{accumulators_lower, accumulators_upper, counters_lower, counters_upper, dating_flags}
use Rattle.checks.specs.Checks.{maximum_exceeded, decision_bits}
use Rattle.state.specs.declared.State.{State}
use Rattle.state.specs.declared.Outcome.{Outcome}
use Rattle.cryptogram.specs.Cryptogram.{limits_byte, verification, sent_iad}
use Rattle.cycles.specs.Cycles.{timing_of, advanced, dated}
use Rattle.first.specs.First.{decision, settled, asked, concluded, first_answered, first_performed}
use Rattle.closing.specs.Closing.{closed, ordered}
use Rattle.second.specs.Second.{unable_performed, verified_performed, failed_performed, absent_performed, second_performed}
use Rattle.scripting.specs.Scripting.{script_performed, script_step, script_writes}
use Rattle.fresh.specs.Fresh.{fresh_state}
use Rattle.card.specs.Card.{start_step, first_step, second_step}
use Rattle.demands.specs.Setup.{Setup}
use Rattle.demands.specs.Ledger.{owed}
use Rattle.demands.specs.Conversation.{Exchange, Sitting, run, rules_by, sat}
use Rattle.demands.specs.Scripts.{Trial, trial, remembered}
use Rattle.demands.specs.Audit.{place_of, converted, named, dealing, in_force, ledger, audited}
use Rattle.demands.specs.Past.{past, atc_by}
use Rattle.demands.specs.Due.{due}
use Rattle.std.specs.Prelude.{Result, Option}
use Rattle.object.specs.declared.Fault.{Fault}

-- the ranges of a set-up's base and of its tails, and the calendar
unfoldable pub in_range : List ℕ → (unnamed : ℕ) → Bool
unfolding is_setup has_length is_head are_accumulators is_accumulator number are_profiles is_profile_or_absent is_profile are_masks is_maximum_amount
in_range s unnamed = is_setup s unnamed

unfoldable pub in_ranges : List ℕ → (unnamed : ℕ) → Bool
unfolding in_range are_accumulator_rules is_accumulator_rule are_counter_rules are_sent are_numbers_apart profile_number are_conversions
in_ranges s unnamed = in_range s unnamed

unfoldable pub tail_in_ranges : List ℕ → Bool
unfolding are_cycles is_cycle are_cyclic_rules is_cyclic_rule is_family date_at is_day has_day
tail_in_ranges t = are_cycles t

unfoldable pub begun_by : Period → (first : ℕ) → (last date : Date) → Bool
unfolding begins is_before cycle_of days_of day_number
begun_by period first last date = begins period first last date

unfoldable pub begun_since : Period → (first : ℕ) → (last now : Civil) → Bool
unfolding is_new began last_named ordinal in_years in_months civil_of
begun_since period first last now = is_new period first last now

-- the rules and the state that it makes
unfoldable pub parsed : Setup → Rules
unfolding rules_in rate_in profile_in accumulator_in counter_in cycle_in cyclic_in
parsed setup = rules_by setup

unfoldable pub decoded : Setup → Rules
unfolding in_ranges tail_in_ranges is_conversion_or_absent is_conversion conversion_pair are_pairs_apart parsed read_setup fresh_in fresh_state
decoded setup = rules_by setup

-- what a purchase is worth, and what the values become
unfoldable pub worth_in : Rules → Purchase → ℕ → Converted
unfolding worth cyclic_worth is_open convert_of rate_for rounded scaled applied ordered
worth_in rules purchase i = worth rules purchase i

-- the tests, the decision and what goes out
unfoldable pub tested_bits : Rules → Place → Values → Purchase → History → ℕ
unfolding worth_in decision_bits accumulators_lower accumulators_upper counters_lower counters_upper dating_flags maximum_exceeded decision limits_byte verification
tested_bits rules place values purchase history = decision_bits rules place values purchase history

-- a First and its date
unfoldable pub answered : Rules → State → First → Place → Outcome
unfolding tested_bits begun_by timing_of dated advanced first_performed first_answered settled asked concluded
answered rules state first place = first_performed rules state first place

-- a template: how it is read, and what its commands write
unfoldable pub read_in : List ℕ → Result Unit Fault
unfolding length_size length_at head_size value_size head_formed head_right value_of read_object read_behind read_list is_template read_template places_behind places_from cut
read_in template = read_template template

unfoldable pub elements_in : List ℕ → Option (List Write)
unfolding put_size put_at put_head value_written limits_written counts_written meaning_of element_size element_meaning writes_by are_pairs pairs_value
elements_in command = writes_of command

unfoldable pub read_writes : List ℕ → Option (List Write)
unfolding elements_in is_put_data list_place mac_place is_secured elements_of writes_of
read_writes command = writes_of command

-- a script, and what a card keeps of it
unfoldable pub ran_in : Values → Scripts → Bool → List ℕ → Ran
unfolding read_in read_writes commands_of value_in kept one_done one_failed done tried template_tried ran_of with_accumulator_limits with_counter_limits
ran_in values scripts verified template = ran_of values scripts verified template

unfoldable pub scripted : State → (result : ℕ) → (template : List ℕ) → Outcome
unfolding ran_in started heard marks_of fresh_scripts script_performed script_step script_writes
scripted state result template = script_step state result template

-- one command
unfoldable pub stepped : Rules → State → Message → Outcome
unfolding answered scripted message_step message_writes start_step first_step find_profile second_step second_performed unable_performed verified_performed
stepped rules state command = message_step rules state command

unfoldable pub sent : Rules → State → Message → Outcome
unfolding stepped failed_performed absent_performed closed sent_iad pairs_of iad_bytes
sent rules state command = stepped rules state command

-- what the auditor reads, of templates by its own reader
unfoldable pub lists_read : List ℕ → Option (List Write)
unfolding short_in digits_in are_digits decimal is_amount amount_in of_accumulator of_counter list_by begun_with data_in writes_in
lists_read command = writes_in command

unfoldable pub tried_in : Bool → List (List ℕ) → Trial
unfolding lists_read value_read commands_by commands_in trial remembered
tried_in allowed commands = trial allowed commands

unfoldable pub found : Setup → List Exchange → Meter → ℕ
unfolding tried_in begun_since place_of converted named dealing in_force ledger owed past atc_by due
found setup log meter = audited setup log meter

unfoldable pub computed : Setup → List Message → Sitting
unfolding decoded sent found run
computed setup commands = sat setup commands
