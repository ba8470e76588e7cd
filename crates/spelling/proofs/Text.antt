-- The lines of examples/printed.paper are the lines that document 01 prints. Assumes nothing.
use mathlib.Core.Path.{◌≡◌, refl, ◌∙◌}
use mathlib.Core.List.{List, []}
use Prim.Native.Nat.{ℕ}
use lib.ListN.{length}
use Rattle.wire.specs.Wire.{number}
use Rattle.rules.specs.Rules.{find_profile}
use Rattle.rules.specs.Word.{word_count}
use Rattle.setup.specs.Setup.{rate_in, accumulator_in, counter_in, profile_in, cycle_in, cyclic_in, rules_in, fresh_in}
use Rattle.shape.specs.Shape.{based}
use Rattle.money.specs.Money.{rate_for, scaled, convert_of}
use Rattle.iad.specs.Iad.{is_cvr, is_writable, pairs_of, iad_bytes, write_iad, written}
use Rattle.script.specs.Script.{kept, fresh_scripts, started, marks_of}
use Rattle.purchase.specs.Meter.{worth, cyclic_worth, is_open}
use Rattle.meters.specs.Meters.{applied}
use Rattle.limits.specs.Limits.{accumulators_lower, accumulators_upper, counters_lower, counters_upper, dating_flags}
use Rattle.checks.specs.Checks.{maximum_exceeded, decision_bits}
use Rattle.cryptogram.specs.Cryptogram.{limits_byte, verification, sent_iad}
use Rattle.cycles.specs.Cycles.{timing_of, dated}
use Rattle.first.specs.First.{decision, settled, asked, concluded, first_answered, first_performed}
use Rattle.closing.specs.Closing.{closed}
use Rattle.second.specs.Second.{unable_performed, second_performed}
use Rattle.fresh.specs.Fresh.{fresh_state}
use Rattle.card.specs.Card.{start_step, first_step, second_step}
use Rattle.card.specs.Message.{message_step, message_writes}
use Rattle.hex_digits.specs.Hex.{hex}
use Rattle.lines.specs.Lines.{digit, decimal, refusal_line, start_line, cryptogram_line}
use Rattle.lines.specs.Sitting.{answer_line, sitting_lines}
use Rattle.spelling.specs.Spelling.{stands_for}
use Rattle.spelling.specs.Sitting.{all_stand_for, answers, ended, sitting_of}
use Rattle.spelling.specs.Printed.{printed, body, sent, printed_lines}
use Rattle.spelling.proofs.Witness.{named, printed-lines}

worked : sitting_of (based 159) body {manner = named} sent {rest = []} (ended refl) ≡ printed_lines
unfolding printed sent printed_lines stands_for all_stand_for answers answer_line digit decimal hex refusal_line start_line cryptogram_line
    fresh_state fresh_scripts kept started marks_of fresh_in number rules_in rate_in profile_in accumulator_in counter_in cycle_in cyclic_in
    message_step message_writes start_step first_step second_step find_profile
    first_performed first_answered timing_of dated decision limits_byte settled asked concluded decision_bits accumulators_lower accumulators_upper counters_lower counters_upper
    dating_flags maximum_exceeded worth cyclic_worth is_open convert_of rate_for scaled applied verification sent_iad pairs_of iad_bytes is_cvr is_writable write_iad written
    second_performed unable_performed closed
worked = refl

-- DOCUMENT 01'S SITTING, FROM THE BYTES OF ITS PAPER TO THE BYTES OF ITS LINES
pub printed-text : (words : List ℕ) → length words ≡ word_count → sitting_lines words printed ≡ printed_lines
printed-text words lent = printed-lines words lent ∙ worked
