-- The statements of `demands`, computed for a few sittings: what a card holds and what the auditor finds, value by value. They follow
-- from `total`, `history`, `atc`, `last-date`, `due-is`, `in-kind`, `numbered`, `first-answers`, `gives`, `kept-is` and `written_out`; said apart, they show of a
-- wrong card that the statement itself is false of it. Assumes nothing.
use mathlib.Core.Bool.{Bool, true, false, not, ◌&&◌, ◌||◌}
use mathlib.Core.List.{List, [], ◌∷◌, ◌++◌}
use Prim.Native.Nat.{ℕ, ◌+◌, ◌*◌, ◌/◌}
use lib.Dec.{T, eqb}
use Rattle.calendar.specs.declared.Date.{Date}
use Rattle.cpace.specs.declared.Cvm.{Cvm}
use Rattle.cpace.specs.declared.Cvm.TheVariants.{OnlinePin, Signature, NoCvm}
use Rattle.iad.specs.Iad.{is_cvr, is_writable}
use Rattle.ranges.specs.Ranges.{is_setup}
use Rattle.setup.specs.Setup.{is_accepted}
use Rattle.put_laws.proofs.Vectors.{bytes}
use Rattle.script.specs.Script.{count_of, has_failed, has_failed_here}
use Rattle.purchase.specs.declared.Purchase.{Purchase}
use Rattle.state.specs.declared.History.{History}
use Rattle.state.specs.declared.Answer.{Answer}
use Rattle.state.specs.declared.Answer.TheVariants.{Refused, Started, Given, Done}
use Rattle.state.specs.declared.Kind.{Kind}
use Rattle.state.specs.declared.Kind.TheVariants.{Aac, Tc, Arqc}
use Rattle.cryptogram.specs.Cryptogram.{kind_code}
use Rattle.card.specs.Message.{Message, StartCommand, FirstCommand, SecondCommand, ScriptCommand}
use Rattle.card.specs.Card.{answer_number}
use Rattle.purchase.specs.Meter.{Meter, accumulator, counter, cyclic, value_of}
use Rattle.demands.specs.Setup.{Setup, byte_at}
use Rattle.demands.specs.Conversation.{Exchange, Sitting, sat, next}
use Rattle.demands.specs.Scripts.{Remembered, remembered}
use Rattle.demands.specs.Audit.{named, brought, bought, last_date, in_force, place_by, audited, tested}
use Rattle.demands.specs.Past.{past, atc_by, before_first}
use Rattle.demands.specs.Due.{Due, nothing, a_first, a_second, due, due_in}
use Rattle.demands.specs.Decision.{above_lower, above_upper}
use Rattle.demands.specs.Verification.{bit, any_of, sent_of}
use Rattle.demands.proofs.Computed.{computed}
use Rattle.demands.proofs.Sittings.{counting, limiting, defaulting, full, sending, spending, weekly, dual}
use Rattle.demands.proofs.Sittings.{start, first, first_on, second, unable, after, on_day, approvals, limits, resets, answered, online, buy, late}
use Rattle.demands.proofs.Sittings.{week, weeks, years, first_by, pay, pay_online, digits, element, put_data, value, limit, counter_limit, wrong}
use Rattle.demands.proofs.Sittings.{empties, script, unverified, requiring, between}
use Rattle.std.specs.Prelude.{None, Option, Some}
use Rattle.selection.specs.declared.Selected.{Selected}

abbrev same : Bool → Bool → Bool
same true b = b
same false b = not b

abbrev same_history : History → History → Bool
same_history a b =
    same a.uncompleted b.uncompleted && same a.online b.online && same a.failed b.failed
    && same a.unable b.unable
    && same a.missing b.missing

abbrev holds : Setup → Sitting → Meter → Bool
holds setup sitting meter = eqb (value_of sitting.state.values meter) (audited setup sitting.log meter)

abbrev same_date : Date → Date → Bool
same_date a b = eqb a.year b.year && eqb a.month b.month && eqb a.day b.day

-- `total`, `history`, `atc` and `last-date` of a card after a list of commands
unfoldable pub agrees : Setup → List Message → Bool
agrees setup commands =
    let sitting = sat setup commands in
    holds setup sitting (accumulator 0) && holds setup sitting (accumulator 1) && holds setup sitting (accumulator 2)
    && holds setup sitting (counter 0)
    && holds setup sitting (cyclic 0)
    && holds setup sitting (cyclic 1)
    && same_history sitting.state.history (past setup sitting.log)
    && eqb sitting.state.atc (atc_by setup sitting.log)
    && same_date sitting.state.last (last_date setup sitting.log)

-- `due-is`: what the card's phase says is due, and what the conversation says
abbrev due_code : Due → ℕ
due_code nothing = 0
due_code a_first = 1
due_code a_second = 2

unfoldable pub duly : List Message → Bool
duly commands =
    let sitting = sat counting commands in
    eqb (due_code (due_in sitting.state.phase)) (due_code (due sitting.log))

-- `in-kind`: Start starts, First and Second give
abbrev is_in_kind : Message → Answer → Bool
is_in_kind command (Refused refusal) = false
is_in_kind (StartCommand start) (Started atc visits) = true
is_in_kind (StartCommand start) (Given kind atc iad) = false
is_in_kind (FirstCommand first) (Started atc visits) = false
is_in_kind (FirstCommand first) (Given kind atc iad) = true
is_in_kind (SecondCommand second) (Started atc visits) = false
is_in_kind (SecondCommand second) (Given kind atc iad) = true
is_in_kind (ScriptCommand result template) (Started atc visits) = false
is_in_kind (ScriptCommand result template) (Given kind atc iad) = false
is_in_kind (StartCommand start) Done = false
is_in_kind (FirstCommand first) Done = false
is_in_kind (SecondCommand second) Done = false
is_in_kind (ScriptCommand result template) Done = true

abbrev are_in_kind : List Exchange → Bool
are_in_kind [] = true
are_in_kind (exchange ∷ older) = is_in_kind exchange.command exchange.answer && are_in_kind older

unfoldable pub kindly : List Message → Bool
kindly commands = are_in_kind (sat counting commands).log

abbrev is_of : Answer → Kind → Bool
is_of (Refused refusal) kind = false
is_of (Started atc visits) kind = false
is_of (Given given atc iad) kind = eqb (kind_code given) (kind_code kind)
is_of Done kind = false

-- what First answers, requested a TC of 1 in a currency
unfoldable pub answers_to : Setup → (currency : ℕ) → Kind → Bool
answers_to setup currency kind = is_of (next setup (start 1 ∷ []) (first 1 currency 1)).answer kind

-- with accumulator 1 by its switches from a number
abbrev answers : (switches high low currency : ℕ) → Kind → Bool
answers switches high low currency kind = answers_to (limiting switches high low) currency kind

-- what First answers, requested a TC of an amount on a day of July 2000 under a profile
unfoldable pub answers_on : Setup → (n day amount : ℕ) → Kind → Bool
answers_on setup n day amount kind = is_of (next setup (start n ∷ []) (first_on (on_day 0x00 0x07 day) amount 0x0978 1)).answer kind

-- and CVR byte 3
abbrev has_limits : Answer → ℕ → Bool
has_limits (Refused refusal) limits = false
has_limits (Started atc visits) limits = false
has_limits (Given kind atc iad) limits = eqb iad.cvr.byte3 limits
has_limits Done limits = false

unfoldable pub shows_on : Setup → (day limits : ℕ) → Bool
shows_on setup day limits = has_limits (next setup (start 1 ∷ []) (first_on (on_day 0x00 0x07 day) 1 0x0978 1)).answer limits

-- `numbered`: the number of a First's answer
unfoldable pub numbers : Option Date → (amount requested number : ℕ) → Bool
numbers when amount requested number =
    eqb (answer_number (next (spending 1 7 0 100) (start 1 ∷ []) (first_on when amount 0x0978 requested)).answer) number

-- what First answers to a CPACE card, requested a TC
unfoldable pub answers_by : Setup → Cvm → (cashback : Bool) → (amount : ℕ) → Kind → Bool
answers_by setup cvm cashback amount kind = is_of (next setup (start 1 ∷ []) (first_by cvm cashback None amount 0x0978 1)).answer kind

-- and Second after Y3
unfoldable pub closes_by : Setup → (cashback : Bool) → Kind → Bool
closes_by setup cashback kind = is_of (next setup (pay NoCvm cashback 2) unable).answer kind

-- the number of a Start's answer
unfoldable pub opens_as : (interface : ℕ) → Option Selected → (number : ℕ) → Bool
opens_as interface chosen number =
    eqb (answer_number (next (dual 0 0 1 6 1) [] (StartCommand (record { interface = interface; chosen = chosen }))).answer) number

-- `gives`: what the newest answer sends, and what the auditor finds
abbrev is_sending : Setup → List Exchange → Answer → Bool
is_sending setup log (Refused refusal) = false
is_sending setup log (Started atc visits) = false
is_sending setup log Done = false
is_sending setup log (Given kind atc iad) =
    let profile = place_by setup log in
    let value = audited setup log in
    eqb iad.profile (named log) && eqb iad.accumulator.0 (sent_of value accumulator (byte_at setup (profile + 104)))
    && eqb iad.first (sent_of value counter (byte_at setup (profile + 105)))
    && eqb iad.second (sent_of value counter (byte_at setup (profile + 106)))

abbrev are_sending : Setup → List Exchange → Bool
are_sending setup [] = false
are_sending setup (exchange ∷ older) = is_sending setup (exchange ∷ older) exchange.answer

unfoldable pub sends : Setup → List Message → Bool
sends setup commands = are_sending setup (sat setup commands).log

-- `written_out`: under the one profile of a set-up that is accepted, the IAD of an AAC can be written
abbrev can_write : Answer → Bool
can_write (Refused refusal) = false
can_write (Started atc visits) = false
can_write (Given kind atc iad) = is_writable iad
can_write Done = false

unfoldable pub writes : (n : ℕ) → Bool
writes n = not (is_setup (sending n).bytes (sending n).unnamed) || can_write (next (sending n) (start n ∷ []) (first 1 0x0978 0)).answer

-- `gives` with scripts: what First or Second answers after a list of commands
unfoldable pub answers_after : Setup → List Message → Message → Kind → Bool
answers_after setup before command kind = is_of (next setup before command).answer kind

-- CVR byte 3 but for the date error, and byte 4 from b4 up: of an answer, by the auditor at First, and as they must be
abbrev limits_at : Setup → (profile : ℕ) → Purchase → (Meter → ℕ) → ℕ
limits_at setup profile purchase values =
    bit (any_of counter (above_lower setup profile purchase values)) * 128 + bit (any_of counter (above_upper setup profile purchase values)) * 64
    + bit (any_of accumulator (above_lower setup profile purchase values)) * 32
    + bit (any_of accumulator (above_upper setup profile purchase values)) * 16

abbrev marks_at : Remembered → ℕ
marks_at scripts = scripts.count * 16 + bit scripts.failed * 8

abbrev found_at : Setup → List Exchange → Message → (limits marks : ℕ) → Bool
found_at setup log (StartCommand start) limits marks = false
found_at setup log (FirstCommand first) limits marks =
    eqb (limits_at (in_force setup log) (place_by setup log) (brought (last_date setup log) first) (tested setup log first)) limits
    && eqb (marks_at (remembered setup log)) marks
found_at setup log (SecondCommand second) limits marks =
    let before = before_first log in
    eqb (limits_at (in_force setup before) (place_by setup log) (bought setup log) (audited setup before)) limits
    && eqb (marks_at (remembered setup before)) marks
found_at setup log (ScriptCommand result template) limits marks = false

abbrev is_shown : Answer → (limits marks : ℕ) → Bool
is_shown (Refused refusal) limits marks = false
is_shown (Started atc visits) limits marks = false
is_shown (Given kind atc iad) limits marks = eqb (iad.cvr.byte3 / 16 * 16) limits && eqb (iad.cvr.byte4 / 8 * 8) marks
is_shown Done limits marks = false

unfoldable pub shows_after : Setup → List Message → Message → (limits marks : ℕ) → Bool
shows_after setup before command limits marks =
    found_at setup (sat setup before).log command limits marks && is_shown (next setup before command).answer limits marks

-- what the next First shows of scripts
abbrev marks_after : Setup → List Message → (marks : ℕ) → Bool
marks_after setup commands marks = shows_after setup (commands ++ start 1 ∷ []) (first 1 0x0978 1) 0 marks

-- `total` of one meter
unfoldable pub agrees_in : Setup → List Message → Meter → (value : ℕ) → Bool
agrees_in setup commands meter value =
    let sitting = sat setup commands in
    holds setup sitting meter && eqb (value_of sitting.state.values meter) value

-- `kept-is`
unfoldable pub keeps : Setup → List Message → Bool
keeps setup commands =
    let sitting = sat setup commands in
    let memory = remembered setup sitting.log in
    let scripts = sitting.state.scripts in
    eqb (count_of scripts) memory.count && same (has_failed scripts) memory.failed && same (has_failed_here scripts) memory.here

-- `numbered`: the number of a script's answer
unfoldable pub script_number : List Message → (result : ℕ) → (template : List ℕ) → (number : ℕ) → Bool
script_number before result template number = eqb (answer_number (next counting before (ScriptCommand result template)).answer) number

abbrev are_setups : List Setup → Bool
are_setups [] = true
are_setups (setup ∷ setups) = is_accepted setup.bytes setup.tail setup.family setup.unnamed && are_setups setups

pub record Samples : Type 0 where
  pub accepted : T (are_setups (counting ∷ limiting 1 0x07 0xD0 ∷ limiting 1 0x17 0x70 ∷ limiting 5 0x17 0x70 ∷ defaulting ∷ full ∷ sending 124 ∷ []))
  pub approvals_agree : T (agrees counting approvals)
  pub limits_agree : T (agrees counting limits)
  pub resets_agree : T (agrees counting resets)
  -- what is due after each way in which a transaction goes on or closes
  pub due_after_arqc : T (duly (answered 2))
  pub due_after_tc : T (duly (answered 1))
  pub due_after_aac : T (duly (answered 0))
  pub due-after-unable : T (duly (online unable))
  pub due_after_verified : T (duly (online (second 0x80)))
  pub due-after-failed : T (duly (online (after 2)))
  pub due_after_absent : T (duly (online (after 0)))
  pub due-after-start : T (duly (online (start 1)))
  pub starts_in_kind : T (kindly (start 1 ∷ []))
  pub firsts_in_kind : T (kindly (answered 0) && kindly (answered 1) && kindly (answered 2))
  pub seconds_in_kind : T (kindly (online unable) && kindly (online (second 0x80)) && kindly (online (after 2)) && kindly (online (after 0)))
  -- accumulator 1 at 2000 is above its lower limit: online
  pub lower-online : T (answers 1 0x07 0xD0 0x0978 Arqc)
  -- at 6000 above its upper: declined, in a currency without a conversion too
  pub upper-declined : T (answers 1 0x17 0x70 0x0840 Aac)
  pub upper-included-declined : T (answers 5 0x17 0x70 0x0840 Aac)
  -- Default isn't asked on a terminal that can go online
  pub default_unasked : T (answers_to defaulting 0x0978 Tc)
  -- the sum that is tested isn't stopped at MAX
  pub sum_unstopped : T (answers_to full 0x0978 Aac)
  -- what is sent is what the profile names
  pub sent-named : T (sends (sending 1) (answered 0))
  -- a profile that a set-up may have is one that an IAD may: 124, and not 125
  pub profile-written : T (writes 124 && writes 125)
  pub dated-accepted : T (are_setups (spending 1 7 0 100 ∷ spending 1 7 0x03 0xE8 ∷ spending 1 7 0x05 0xDC ∷ spending 3 0 0 100 ∷ weekly ∷ []))
  -- a new day begins under a profile in which the accumulator isn't active, and whatever First answers, but not where it is refused
  pub inactive-begins : T (agrees (spending 1 7 0 100) (buy 2 0x16 1 1))
  pub declined-begins : T (agrees (spending 1 7 0 100) (buy 1 0x16 1 0))
  pub asked-begins : T (agrees (spending 1 7 0 100) (buy 1 0x16 1 2))
  pub refused-begins-none : T (agrees (spending 1 7 0 100) (buy 1 0x16 1 3))
  -- before the tests: 1000 were spent the day before
  pub begins_before_tests : T (answers_on (spending 1 7 0x03 0xE8) 1 0x16 1000 Tc)
  -- week by week, from Monday and from Sunday; months of different years
  pub week_begins : T (agrees weekly week)
  pub weeks_go_on : T (agrees weekly weeks)
  pub years_differ : T (agrees (spending 1 7 0 100) years)
  -- 100 and 900 reach the limit, 901 exceed it and are declined; the other accumulator's goes online, by the limit of the open profile
  pub limit_reached : T (answers_on (spending 1 7 0 100) 1 0x15 900 Tc)
  pub limit_exceeded : T (answers_on (spending 1 7 0 100) 1 0x15 901 Aac)
  pub other-limit : T (answers_on (spending 1 7 0 100) 2 0x15 201 Arqc)
  pub other-profile : T (answers_on (spending 1 7 0 100) 1 0x15 201 Tc)
  -- a date error goes online, in the same month and with nothing active too; a value above its limit is then not tested
  pub error_in_month : T (answers_on (spending 3 0 0 100) 1 0x14 1 Arqc)
  pub error_unasked : T (answers_on (spending 3 0 0 100) 2 0x14 1 Arqc)
  pub error_untested : T (answers_on (spending 1 7 0x05 0xDC) 1 0x14 1 Arqc)
  pub error_shown : T (shows_on (spending 1 7 0 100) 0x14 2 && shows_on (spending 1 7 0x05 0xDC) 0x15 0)
  -- neither cyclic accumulator counts its approval, or an ordered addition; the other orders reach them
  pub error_uncounted : T (agrees (spending 1 7 0 100) (late unable))
  pub error_unordered : T (agrees (spending 1 7 0 100) (late (second 0x83)))
  pub error_limited : T (agrees (spending 1 7 0 100) (late (second 0x01)))
  pub error_reset : T (agrees (spending 1 7 0 100) (late (second 0x82)))
  -- a TC recovers from it, so that the next one on that day counts; an AAC doesn't
  pub recovered : T (agrees (spending 1 7 0 100) (late (second 0x80) ++ buy 1 0x14 7 1))
  pub recovered_absent : T (agrees (spending 1 7 0 100) (late (after 0)))
  pub unrecovered : T (agrees (spending 1 7 0 100) (late (second 0x00)))
  pub unrecovered_failed : T (agrees (spending 1 7 0 100) (late (after 2)))
  -- 29 February is a day of 2000 and of 2012, not of 2001 and 2010; and 13 comes last
  pub leap_day : T (numbers (on_day 0x00 0x02 0x29) 1 1 0 && numbers (on_day 0x12 0x02 0x29) 1 1 0)
  pub no_leap_day : T (numbers (on_day 0x01 0x02 0x29) 1 1 13 && numbers (on_day 0x10 0x02 0x29) 1 1 13)
  pub no_digits : T (numbers (on_day 0x0A 0x01 0x01) 1 1 13 && numbers (on_day 0x00 0x01 0x0A) 1 1 13)
  pub thirteen_last : T (numbers (on_day 0x00 0x02 0x30) 1_000_000_000_000 1 6 && numbers (on_day 0x00 0x02 0x30) 1 3 5)
  pub dual_accepted : T (are_setups (dual 0 0 1 6 1 ∷ dual 0x17 0x70 1 6 1 ∷ dual 0 0 15 15 0 ∷ dual 0 0 1 6 0 ∷ []))
  -- accumulator 1 is closed to no CVM, counter 1 to online PIN and signature: a purchase counts in the other alone, at First and after Y3
  pub closed_uncounted : T (agrees (dual 0 0 1 6 1) (pay NoCvm false 1))
  pub closed-after-unable : T (agrees (dual 0 0 1 6 1) (pay_online OnlinePin false unable) && agrees (dual 0 0 1 6 1) (pay_online Signature false unable))
  -- 6000 is above the lower limit of the one that is open, and not tested in the one that is closed, whose value is
  pub open_tested : T (answers_by (dual 0 0 1 6 1) OnlinePin false 6000 Arqc)
  pub closed-untested : T (answers_by (dual 0 0 1 6 1) NoCvm false 6000 Tc)
  pub closed-value-tested : T (answers_by (dual 0x17 0x70 1 6 1) NoCvm false 1 Arqc)
  -- MTA is tested where all is closed
  pub maximum-tested : T (answers_by (dual 0 0 15 15 0) NoCvm false 9001 Arqc)
  -- an offline decline counts in a closed counter, at First and after Y3
  pub closed-declines : T (agrees (dual 0 0 1 6 1) (pay Signature false 0) && agrees (dual 0 0 1 6 1) (pay_online Signature true unable))
  -- an ARQC adds nothing; order 11 adds to what is open alone, and so it does where the issuer declines; orders 01 and 10 reach what is closed
  pub asked_uncounted : T (agrees (dual 0 0 1 6 1) (pay NoCvm false 2))
  pub closed_unordered : T (agrees (dual 0 0 1 6 1) (pay_online NoCvm false (second 0x83)))
  pub declined-ordered : T (agrees (dual 0 0 1 6 1) (pay_online NoCvm false (second 0x03)))
  pub closed_limited : T (agrees (dual 0 0 1 6 1) (pay_online NoCvm false (second 0x01)))
  pub closed_reset : T (agrees (dual 0x17 0x70 1 6 1) (pay_online NoCvm false (second 0x82)))
  -- cashback goes online, unless it isn't checked or there is none; after Y3 it is declined
  pub cashback_online : T (answers_by (dual 0 0 1 6 1) NoCvm true 1 Arqc)
  pub cashback_unchecked : T (answers_by (dual 0 0 1 6 0) NoCvm true 1 Tc)
  pub no_cashback : T (answers_by (dual 0 0 1 6 1) NoCvm false 1 Tc)
  pub cashback_again : T (closes_by (dual 0 0 1 6 1) true Aac && closes_by (dual 0 0 1 6 1) false Tc)
  -- 6 before 12 and before 3
  pub six_first : T (opens_as 2 None 6 && opens_as 2 (Some (record { profile = 9; visits = 0 })) 6 && opens_as 1 None 12 && opens_as 1 (Some (record { profile = 9; visits = 0 })) 3)
  pub scripts-accepted : T (are_setups (requiring ∷ []))
  -- a value that a script writes is put, of an accumulator that is active or not, the last of two; an approval goes on from it
  pub value_written_lem : T (agrees_in counting (script (value 1 0x40 0x00 ∷ []) ∷ answered 1) (accumulator 0) 4001)
  pub value-inactive : T (agrees_in counting (script (value 4 0x12 0x34 ∷ []) ∷ []) (accumulator 3) 1234)
  pub value_twice : T (agrees_in counting (answered 1 ++ script (put_data 0x30 (element 1 (digits 0 0x07) ++ element 1 (digits 0 0x05)) ∷ []) ∷ []) (accumulator 0) 5)
  pub value-sent : T (sends (sending 1) (script (value 1 0x12 0x34 ∷ []) ∷ answered 0))
  -- limits of 10 and 50, and of 50 and 100, in place of 1000 and 5000: Decline the upper, Online the lower
  pub limit_changed : T (answers_after (limiting 5 0 0) (script (limit 1 0 0x10 0 0x50 ∷ []) ∷ start 1 ∷ []) (first 51 0x0978 1) Aac)
  pub lower_changed : T (answers_after (limiting 5 0 0) (script (limit 1 0 0x50 0x01 0x00 ∷ []) ∷ start 1 ∷ []) (first 51 0x0978 1) Arqc
      && answers_after (limiting 5 0 0) (script (limit 1 0 0x50 0x01 0x00 ∷ []) ∷ start 1 ∷ []) (first 50 0x0978 1) Tc)
  -- between First and Second the lower limit, in Default, is raised to the value, or falls below it: after Y3 the one in force decides; the CVR is First's
  pub limit-raised-between : T (answers_after defaulting (start 1 ∷ first 1 0x0978 2 ∷ script (limit 1 0x20 0x00 0x50 0x00 ∷ []) ∷ []) unable Tc)
  pub limit_lowered_between : T (answers_after defaulting (script (limit 1 0x20 0x00 0x50 0x00 ∷ []) ∷ start 1 ∷ first 1 0x0978 2 ∷ script (limit 1 0x19 0x99 0x50 0x00 ∷ []) ∷ []) unable Aac)
  pub cvr_of_first : T (shows_after defaulting (start 1 ∷ first 1 0x0978 2 ∷ script (limit 1 0x20 0x00 0x50 0x00 ∷ []) ∷ []) unable 0x20 0x00)
  -- order 01 puts the upper limit in force
  pub order-by-limit : T (agrees_in counting (between (script (limit 1 0 0x10 0 0x50 ∷ [])) (second 0x01)) (accumulator 0) 50)
  -- limits are written in every profile: counter 1's, and accumulator 2's
  pub counter_in_each : T (shows_after counting (script (counter_limit 1 0 0 ∷ []) ∷ answered 1 ++ start 1 ∷ []) (first 1 0x0978 1) 0xC0 0x10
      && shows_after counting (script (counter_limit 1 0 0 ∷ []) ∷ answered 1 ++ start 2 ∷ []) (first 1 0x0978 1) 0xC0 0x10)
  pub accumulator_in_each : T (shows_after counting (script (limit 2 0 0 0 0x01 ∷ []) ∷ answered 1 ++ start 1 ∷ []) (first 1 0x0978 1) 0x30 0x10
      && shows_after counting (script (limit 2 0 0 0 0x01 ∷ []) ∷ answered 1 ++ start 2 ∷ []) (first 1 0x0978 1) 0x30 0x10)
  -- commands done are counted, one by one; one that fails, and none behind it, is not; what those before it wrote stays
  pub count-shown : T (marks_after counting (script (put_data 0x30 (element 1 (digits 0 0x07) ++ element 2 (digits 0 0x05)) ∷ value 2 0 0x02 ∷ []) ∷ script (value 1 0 0x01 ∷ []) ∷ []) 0x30)
  pub count_round : T (marks_after counting (script (empties 8) ∷ script (empties 7) ∷ []) 0xF0 && marks_after counting (script (empties 8) ∷ script (empties 8) ∷ []) 0x00)
  pub count_stays : T (marks_after counting (script (empties 1) ∷ online (second 0x80)) 0x10)
  pub failed-shown : T (marks_after counting (script (value 1 0 0x40 ∷ wrong ∷ value 1 0 0x09 ∷ []) ∷ []) 0x18)
  pub written_before_failure : T (agrees_in counting (script (value 1 0 0x40 ∷ wrong ∷ value 1 0 0x09 ∷ []) ∷ []) (accumulator 0) 40)
  pub half_unwritten : T (agrees_in counting (script (put_data 0x30 (element 1 (digits 0 0x07) ++ element 2 (digits 0 0x0A)) ∷ []) ∷ []) (accumulator 0) 0)
  -- where the result is not "verified" the first command fails, and a template without one does not
  pub unverified_fails : T (marks_after counting (unverified (value 1 0 0x01 ∷ []) ∷ []) 0x08 && agrees_in counting (unverified (value 1 0 0x01 ∷ []) ∷ []) (accumulator 0) 0)
  pub nothing-fails : T (marks_after counting (unverified [] ∷ []) 0x00)
  -- after a failure none is done until the next accepted Start
  pub later_rejected : T (agrees_in counting (script (wrong ∷ []) ∷ script (value 1 0 0x01 ∷ []) ∷ []) (accumulator 0) 0)
  pub taken_again : T (agrees_in counting (script (wrong ∷ []) ∷ start 1 ∷ first 1 0x0978 2 ∷ script (value 1 0 0x05 ∷ []) ∷ []) (accumulator 0) 5)
  pub not_by_refused : T (agrees_in counting (script (wrong ∷ []) ∷ start 3 ∷ script (value 1 0 0x01 ∷ []) ∷ []) (accumulator 0) 0)
  pub not_by_second : T (agrees_in counting (between (script (wrong ∷ [])) (second 0x80) ++ script (value 1 0 0x01 ∷ []) ∷ []) (accumulator 0) 0)
  -- a failure is cleared by a Second that verified, TC or AAC, or absent where authentication isn't required, and by no other; not in its own transaction
  pub failure_cleared : T (marks_after counting (script (wrong ∷ []) ∷ online (second 0x80)) 0x00 && marks_after counting (script (wrong ∷ []) ∷ online (second 0x00)) 0x00)
  pub cleared_by_absent : T (marks_after counting (script (wrong ∷ []) ∷ online (after 0)) 0x00)
  pub not_where_required : T (marks_after requiring (script (wrong ∷ []) ∷ online (after 0)) 0x08)
  pub not_by_failed : T (marks_after counting (script (wrong ∷ []) ∷ online (after 2)) 0x08 && marks_after counting (script (wrong ∷ []) ∷ online unable) 0x08)
  pub not_once_shown : T (marks_after counting (script (wrong ∷ []) ∷ answered 1) 0x08)
  pub not_here : T (marks_after counting (between (script (wrong ∷ [])) (second 0x80)) 0x08 && keeps counting (between (script (wrong ∷ [])) (second 0x80)))
  -- Second keeps First's
  pub shown-at-second : T (shows_after counting (script (wrong ∷ []) ∷ start 1 ∷ first 1 0x0978 2 ∷ script (value 1 0 0x01 ∷ []) ∷ []) (second 0x80) 0 0x08)
  pub kept_alike : T (keeps counting (script (value 1 0 0x01 ∷ wrong ∷ []) ∷ []) && keeps counting (script (value 1 0 0x01 ∷ wrong ∷ []) ∷ start 1 ∷ []))
  -- a script is done, and leaves what is due
  pub scripts_in_kind : T (kindly (script [] ∷ []) && kindly (between (script (wrong ∷ [])) unable))
  pub due-after-script : T (duly (script [] ∷ []) && duly (start 1 ∷ script [] ∷ []) && duly (start 1 ∷ first 1 0x0978 2 ∷ script [] ∷ []))
  -- 2 before 6 before 18, on a fresh card and while an ARQC is open; depth 5 is 19, and of its object the head comes first
  pub script-numbers : T (script_number (start 1 ∷ []) 2 [] 2 && script_number (start 1 ∷ []) 1 [] 2 && script_number [] 2 [] 6 && script_number [] 1 [] 18 && script_number [] 1 (0x71 ∷ 0x00 ∷ []) 0)
  pub script-asked : T (script_number (start 1 ∷ first 1 0x0978 2 ∷ []) 0 (0x71 ∷ 0x00 ∷ []) 0 && script_number (start 1 ∷ first 1 0x0978 2 ∷ []) 2 [] 6)
  pub too_deep_lem : T (script_number [] 1 (bytes 10 0x7108710671047102E100) 19 && script_number [] 1 (bytes 10 0x7108710671047102E101) 18)

pub samples : Samples
unfolding counting limiting defaulting full sending spending weekly dual approvals limits resets answered online buy late week weeks years pay pay_online agrees
    duly kindly answers_to answers_on shows_on numbers answers_by closes_by opens_as sends writes is_writable is_cvr requiring between answers_after shows_after
    agrees_in keeps script_number before_first computed
samples =
    record {
      accepted = tt;
      approvals_agree = tt;
      limits_agree = tt;
      resets_agree = tt;
      due_after_arqc = tt;
      due_after_tc = tt;
      due_after_aac = tt;
      due-after-unable = tt;
      due_after_verified = tt;
      due-after-failed = tt;
      due_after_absent = tt;
      due-after-start = tt;
      starts_in_kind = tt;
      firsts_in_kind = tt;
      seconds_in_kind = tt;
      lower-online = tt;
      upper-declined = tt;
      upper-included-declined = tt;
      default_unasked = tt;
      sum_unstopped = tt;
      sent-named = tt;
      profile-written = tt;
      dated-accepted = tt;
      inactive-begins = tt;
      declined-begins = tt;
      asked-begins = tt;
      refused-begins-none = tt;
      begins_before_tests = tt;
      week_begins = tt;
      weeks_go_on = tt;
      years_differ = tt;
      limit_reached = tt;
      limit_exceeded = tt;
      other-limit = tt;
      other-profile = tt;
      error_in_month = tt;
      error_unasked = tt;
      error_untested = tt;
      error_shown = tt;
      error_uncounted = tt;
      error_unordered = tt;
      error_limited = tt;
      error_reset = tt;
      recovered = tt;
      recovered_absent = tt;
      unrecovered = tt;
      unrecovered_failed = tt;
      leap_day = tt;
      no_leap_day = tt;
      no_digits = tt;
      thirteen_last = tt;
      dual_accepted = tt;
      closed_uncounted = tt;
      closed-after-unable = tt;
      open_tested = tt;
      closed-untested = tt;
      closed-value-tested = tt;
      maximum-tested = tt;
      closed-declines = tt;
      asked_uncounted = tt;
      closed_unordered = tt;
      declined-ordered = tt;
      closed_limited = tt;
      closed_reset = tt;
      cashback_online = tt;
      cashback_unchecked = tt;
      no_cashback = tt;
      cashback_again = tt;
      six_first = tt;
      scripts-accepted = tt;
      value_written_lem = tt;
      value-inactive = tt;
      value_twice = tt;
      value-sent = tt;
      limit_changed = tt;
      lower_changed = tt;
      limit-raised-between = tt;
      limit_lowered_between = tt;
      cvr_of_first = tt;
      order-by-limit = tt;
      counter_in_each = tt;
      accumulator_in_each = tt;
      count-shown = tt;
      count_round = tt;
      count_stays = tt;
      failed-shown = tt;
      written_before_failure = tt;
      half_unwritten = tt;
      unverified_fails = tt;
      nothing-fails = tt;
      later_rejected = tt;
      taken_again = tt;
      not_by_refused = tt;
      not_by_second = tt;
      failure_cleared = tt;
      cleared_by_absent = tt;
      not_where_required = tt;
      not_by_failed = tt;
      not_once_shown = tt;
      not_here = tt;
      shown-at-second = tt;
      kept_alike = tt;
      scripts_in_kind = tt;
      due-after-script = tt;
      script-numbers = tt;
      script-asked = tt;
      too_deep_lem = tt;
    }
