-- THE DEMANDS OVER PAPERS: for every byte string whose set-up is accepted, and wherever its events are cut. Assumes nothing.
use mathlib.Core.Path.{◌≡◌, sym, ap, subst, subst₂, subst₃, ◌∙◌}
use mathlib.Core.Bool.{true}
use mathlib.Core.List.{List, [], ◌∷◌, ◌++◌, append_assoc}
use Prim.Native.Nat.{ℕ, suc, ◌+◌, ◌≤◌, ◌<◌}
use native.Mathlib.Omega.{arith}
use lib.ListN.{length, replicate, get_or, length-append}
use Rattle.wire.specs.Wire.{number}
use Rattle.refusal.specs.declared.Refusal.{Refusal}
use Rattle.calendar.specs.Almanac.{date_after}
use Rattle.iad.specs.declared.Iad.{Iad}
use Rattle.iad.specs.Iad.{written}
use Rattle.rules.specs.Word.{word_count}
use Rattle.purchase.specs.Meter.{Meter, IsMeter, value_of}
use Rattle.command.specs.declared.Start.{Start}
use Rattle.command.specs.declared.First.{First}
use Rattle.state.specs.declared.Answer.{Answer}
use Rattle.state.specs.declared.Answer.TheVariants.{Refused, Given}
use Rattle.state.specs.declared.Kind.{Kind}
use Rattle.state.specs.declared.State.{State}
use Rattle.state.specs.declared.Outcome.{Outcome}
use Rattle.card.specs.Card.{answer_number}
use Rattle.card.specs.Message.{Message, StartCommand, FirstCommand, ScriptCommand}
use Rattle.readback.specs.WellFormed.{Writable, OfBytes, LaidOut, WellFormed}
use Rattle.records.specs.declared.Event.{Event}
use Rattle.records.specs.declared.Event.TheVariants.{SetUp, Answered}
use Rattle.records.specs.declared.Said.{Said}
use Rattle.conversation.specs.Events.{events_of}
use Rattle.lines.specs.Sitting.{answer_line, lines_of, sitting_lines}
use Rattle.demands.specs.Setup.{Setup, IsCpa, AcceptedSetup}
use Rattle.demands.specs.Conversation.{Exchange, Sitting, run, rules_by, sat, next, Spoken}
use Rattle.demands.specs.Ledger.{owed}
use Rattle.demands.specs.Audit.{cap_of, start_of, approves, upper_of, brought, bought, last_date, in_force, place_by, takes_part, ledger, tested}
use Rattle.demands.specs.Guards.{Guards}
use Rattle.demands.specs.Scripts.{remembered}
use Rattle.demands.specs.Past.{past, atc_by, Says}
use Rattle.demands.specs.Due.{due, due_in, InKind}
use Rattle.demands.specs.Rows.{InSetup, Numbered}
use Rattle.demands.specs.Selecting.{slots_by}
use Rattle.demands.specs.Decision.{flags, FirstAnswers}
use Rattle.demands.specs.Verification.{Gives}
use Rattle.demands.proofs.Total.{total}
use Rattle.demands.proofs.Limit.{limit}
use Rattle.demands.proofs.Past.{history, atc, said}
use Rattle.demands.proofs.Deals.{last-date, last-day}
use Rattle.demands.proofs.Scripts.{Keeps}
use Rattle.demands.proofs.Scripting.{kept-is}
use Rattle.demands.proofs.Ends.{due-is}
use Rattle.demands.proofs.Refusal.{numbered, in_kind, refusal_keeps}
use Rattle.demands.proofs.First.{first-answers}
use Rattle.demands.proofs.Answers.{gives}
use Rattle.demands.proofs.Sendable.{written_out}
use Rattle.slot.specs.declared.Slots.{Slots}
use Rattle.spelling.specs.Spelling.{Bytes, scripted, slots_in}
use Rattle.spelling.specs.Sitting.{said_of, happened}
use Rattle.spelling.proofs.Numbers.{bytes_drop}
use Rattle.papers.specs.Papers.{rest_in, setup_of, manner_of, choice_of, dates_of, card_of, scripts_of, Accepted, walked, commands_of, faulty, Chosen, Timed}
use Rattle.papers.specs.Talk.{answered, all_answered, ending, commands_in, CutBehind, CutBehindOne, newest, card_after}
use Rattle.papers.proofs.Setups.{good-setup, begins}
use Rattle.papers.proofs.Walk.{walk_cards}
use Rattle.papers.proofs.Talk.{answered_both, fresh, said_both, said_length, run-one, Cut, cut, next-said}
use Rattle.papers.proofs.Starts.{Met, all-met, met_right, met_spoken, heard_spoken}
use Rattle.papers.proofs.Held.{tested-is, chosen_alike}
use Rattle.papers.proofs.Events.{happened-there}

line_at : (n : ℕ) (before : List Exchange) (said : Said) (answer : Answer) (more : List Event)
    → get_or (lines_of n (all_answered before ++ Answered said answer ∷ more)) (length before) [] ≡ answer_line (n + length before) answer
unfolding lines_of
line_at n [] said answer more = ap (λ (k : ℕ). answer_line k answer) (omega arith)
line_at n (x ∷ before) said answer more = line_at (n + 1) before said answer more ∙ ap (λ (k : ℕ). answer_line k answer) (omega arith)

module _ (words paper : List ℕ) (lent : length words ≡ word_count) (bytes : Bytes paper) (a : Accepted paper) where
  abbrev setup : Setup
  setup = setup_of paper

  accepted : AcceptedSetup setup
  accepted = good-setup paper a bytes

  -- the conversation's card after some of the commands is the one that heard them
  card_is : (heard left : List Message) → commands_of paper ≡ heard ++ left → card_after words paper (length heard) ≡ (sat setup heard).state
  unfolding card_after walked run
  card_is heard left e =
      let b = begins words paper lent bytes a in
      rw (b.begun-is, b.rules) (walk_cards b.shape paper b.lies (length paper) heard (fresh setup) b.at left (rw (b.manner, b.rest) e))

  -- and their templates are bytes
  rest-bytes : Bytes (rest_in paper)
  rest-bytes = bytes_drop (3 + number paper 1 2) paper bytes

  spoken : (heard left : List Message) → commands_of paper ≡ heard ++ left → Spoken heard
  unfolding walked run
  spoken heard left e = heard_spoken (manner_of paper) (length paper) (fresh setup) (rest_in paper) rest-bytes heard left e

  module _ (before : List Exchange) (more : List Event) (e : CutBehind words paper before more) where
    abbrev heard : List Message
    heard = commands_in before

    place : Cut (fresh setup) before e.left (faulty paper) more
    place =
        let events = happened-there words paper lent bytes a in
        let commands = e.commands in
        cut (fresh setup) before e.left (faulty paper) more
        (ap (λ (l : List Message). happened (rules_by setup) (fresh setup).state l ++ ending (faulty paper)) (sym commands) ∙ cc (events, e.events))

    card_there : (sat setup heard).state ≡ card_after words paper (length before)
    card_there = sym (card_is heard e.left e.commands) ∙ ap (card_after words paper) (said_length before)

    -- what holds of every conversation holds there
    at_cut : (P : List Exchange → State → Type 0)
        → ((commands : List Message) → Spoken commands → P (sat setup commands).log (sat setup commands).state)
        → P (newest before) (card_after words paper (length before))
    at_cut P h = subst₂ P place.log_is card_there (h heard (spoken heard e.left e.commands))

    -- DEMAND 3, THE TOTAL: the value of the card is what the set-up's bytes and the answers so far say it owes
    pub paper-total : (meter : Meter) → IsMeter meter
        → value_of (card_after words paper (length before)).values meter ≡ owed (cap_of meter) (start_of setup meter) (ledger setup meter (newest before))
    paper-total meter is =
        at_cut (λ log card. value_of card.values meter ≡ owed (cap_of meter) (start_of setup meter) (ledger setup meter log))
        (λ commands spoken. total setup accepted commands spoken meter is)

    -- WHAT IS DUE, THE HISTORY, THE ATC
    pub paper-due : due_in (card_after words paper (length before)).phase ≡ due (newest before)
    paper-due = at_cut (λ log card. due_in card.phase ≡ due log) (λ commands spoken. due-is (rules_by setup) setup commands)

    pub paper-history : (card_after words paper (length before)).history ≡ past setup (newest before)
    paper-history = at_cut (λ log card. card.history ≡ past setup log) (history setup accepted)

    pub paper-atc : (card_after words paper (length before)).atc ≡ atc_by setup (newest before)
    paper-atc = at_cut (λ log card. card.atc ≡ atc_by setup log) (atc setup accepted)

    -- WHAT IS KEPT OF SCRIPTS: how many commands were done, and whether one failed
    pub paper-kept : Keeps (remembered setup (newest before)) (card_after words paper (length before)).scripts
    paper-kept = at_cut (λ log card. Keeps (remembered setup log) card.scripts) (kept-is setup accepted)

    -- THE LAST DATE, which is a calendar day where the paper is dated
    pub paper-last-date : (card_after words paper (length before)).last ≡ last_date setup (newest before)
    paper-last-date = at_cut (λ log card. card.last ≡ last_date setup log) (last-date setup accepted)

    pub paper-last-day : 0 < length setup.tail → (n : ℕ) × (n < 36525) × (last_date setup (newest before) ≡ date_after n)
    paper-last-day on =
        at_cut (λ log card. (n : ℕ) × (n < 36525) × (last_date setup log ≡ date_after n)) (λ commands spoken. last-day setup accepted commands spoken on)

  module _ (before : List Exchange) (command : Message) (answer : Answer) (more : List Event) (e : CutBehindOne words paper before command answer more) where
    abbrev log : List Exchange
    log = newest before

    -- the card before the command, and after it
    abbrev card : State
    card = card_after words paper (length before)

    abbrev then : State
    then = card_after words paper (suc (length before))

    -- the events, cut before it
    abbrev exchange : Exchange
    exchange = record { command = command; answer = answer }

    abbrev rest : List Event
    rest = answered exchange ∷ more

    events-here : events_of words paper ≡ SetUp ∷ (all_answered before ++ rest)
    events-here =
        e.events
        ∙ ap (λ (l : List Event). SetUp ∷ l)
        (ap (λ (l : List Event). l ++ more) (answered_both before (exchange ∷ [])) ∙ append_assoc (all_answered before) (answered exchange ∷ []) more)

    abbrev said-before : List Message
    said-before = commands_in before

    commands-here : commands_of paper ≡ said-before ++ command ∷ e.left
    commands-here =
        e.commands
        ∙ ap (λ (l : List Message). l ++ e.left) (said_both before (exchange ∷ []))
        ∙ append_assoc said-before (command ∷ []) e.left

    abbrev here : CutBehind words paper before rest
    here = record { events = events-here; left = command ∷ e.left; commands = commands-here }

    answer-is : (next setup said-before command).answer ≡ answer
    answer-is = next-said (sat setup said-before) command e.left (faulty paper) answer more (place before rest here).more-is

    then_is : (next setup said-before command).state ≡ then
    then_is =
        let all = said-before ++ command ∷ [] in
        let whole : commands_of paper ≡ all ++ e.left = commands-here ∙ sym (append_assoc said-before (command ∷ []) e.left) in
        let size : length all ≡ suc (length before) = omega (arith, length-append said-before (command ∷ []), said_length before) in
        ap (λ (s : Sitting). s.state) (sym (run-one (fresh setup) said-before command))
        ∙ sym (card_is all e.left whole)
        ∙ ap (card_after words paper) size

    outcome_is : next setup said-before command ≡ record { state = then; answer = answer }
    outcome_is = let p = then_is in let q = answer-is in λ i. record { state = p i; answer = q i }

    -- a record means it, by what a Start's entries may test
    abbrev slots : Slots
    slots = slots_in (card_of paper) card.values

    met : Met (manner_of paper) slots command
    unfolding walked run
    met =
        subst (λ (state : State). Met (manner_of paper) (slots_in (card_of paper) state.values) command) (card_there before rest here)
        (all-met (manner_of paper) (length paper) (fresh setup) (rest_in paper) rest-bytes said-before command e.left commands-here)

    -- what holds of one command more, behind every conversation, holds there
    at_turn : (P : List Exchange → State → Outcome → Type 0)
        → ((commands : List Message) → Spoken commands → P (sat setup commands).log (sat setup commands).state (next setup commands command))
        → P log card (record { state = then; answer = answer })
    at_turn P h =
        subst₃ P (place before rest here).log_is (card_there before rest here) outcome_is
        (h said-before (spoken said-before (command ∷ e.left) commands-here))

    -- THE LINE: it has the command's place for its number, and the answer
    pub paper-line : get_or (sitting_lines words paper) (suc (length before)) [] ≡ answer_line (suc (length before)) answer
    unfolding sitting_lines lines_of
    paper-line =
        ap (λ (l : List Event). get_or (lines_of 0 l) (suc (length before)) []) events-here
        ∙ line_at 1 before (said_of command) answer more
        ∙ ap (λ (k : ℕ). answer_line k answer) (omega arith)

    -- DEMAND 3, THE UPPER LIMIT: on a CPA card no offline approval under a guarding profile leaves the value above it
    -- (of a cyclic accumulator, no approval without a date error)
    pub paper-limit : IsCpa setup → (meter : Meter) → IsMeter meter → Guards (in_force setup log) (place_by setup log) meter → approves command answer ≡ true
        → takes_part (bought setup (record { command = command; answer = answer } ∷ log)) meter ≡ true
        → value_of then.values meter ≤ upper_of (in_force setup log) (place_by setup log) meter
    paper-limit cpa meter is =
        at_turn (λ log card outcome. Guards (in_force setup log) (place_by setup log) meter → approves command outcome.answer ≡ true
        → takes_part (bought setup (record { command = command; answer = outcome.answer } ∷ log)) meter ≡ true
        → value_of outcome.state.values meter ≤ upper_of (in_force setup log) (place_by setup log) meter)
        (λ commands spoken. limit setup accepted cpa commands spoken command meter is)

    -- DEMAND 1: the number is the first row that applies; a command that is taken is answered in its kind; a refusal keeps the card
    pub paper_numbered : Numbered (InSetup (in_force setup log)) (atc_by setup log) (due log) command (answer_number answer)
    paper_numbered =
        at_turn (λ log card outcome. Numbered (InSetup (in_force setup log)) (atc_by setup log) (due log) command (answer_number outcome.answer))
        (λ commands spoken. numbered setup accepted commands spoken command (met_spoken (manner_of paper) slots command met))

    pub paper_in_kind : answer_number answer ≡ 0 → InKind command answer
    paper_in_kind =
        at_turn (λ log card outcome. answer_number outcome.answer ≡ 0 → InKind command outcome.answer)
        (λ commands spoken. in_kind (sat setup commands).rules (sat setup commands).state command)

    pub paper_refusal_keeps : (refusal : Refusal) → answer ≡ Refused refusal → then ≡ card
    paper_refusal_keeps refusal =
        at_turn (λ log card outcome. outcome.answer ≡ Refused refusal → outcome.state ≡ card)
        (λ commands spoken. refusal_keeps (sat setup commands).rules (sat setup commands).state command refusal)

    -- DEMAND 2: what a Start, a First and a Second give, the ATC that is said, the IAD that goes out
    pub paper_gives : Gives setup log command (record { state = then; answer = answer })
    paper_gives = at_turn (λ log card outcome. Gives setup log command outcome) (λ commands spoken. gives setup accepted commands spoken command)

    -- a Start's profile is the one that its record names, or the one that the paper's file gives for the bytes in it and, of a CPACE card, for what
    -- it then holds by the answers so far; a First has its date in a dated paper; and a script stands where scripts are on
    pub paper_chosen : (start : Start) → command ≡ StartCommand start → Chosen (choice_of paper) (card_of paper) (slots_by setup log) start
    paper_chosen start is =
        chosen_alike setup log (card_of paper) card.values (tested-is paper) (paper-total before rest here)
        (choice_of paper) (card_of paper) start (met_right (manner_of paper) slots (StartCommand start) (subst (Met (manner_of paper) slots) is met))

    pub paper-timed : (first : First) → command ≡ FirstCommand first → Timed (dates_of paper) first
    paper-timed first is = met_right (manner_of paper) slots (FirstCommand first) (subst (Met (manner_of paper) slots) is met)

    pub paper-scripted : (result : ℕ) (template : List ℕ) → command ≡ ScriptCommand result template → scripts_of paper ≡ scripted
    paper-scripted result template is =
        (met_right (manner_of paper) slots (ScriptCommand result template) (subst (Met (manner_of paper) slots) is met)).0

    pub paper-first-answers : (first : First) (kind : Kind) (number : ℕ) (iad : Iad) → command ≡ FirstCommand first → answer ≡ Given kind number iad
        → FirstAnswers (in_force setup log) (place_by setup log) first
        (flags (in_force setup log) (place_by setup log) (brought (last_date setup log) first) (tested setup log first) (past setup log)) kind
    paper-first-answers first kind number iad is =
        at_turn (λ log card outcome. outcome.answer ≡ Given kind number iad
        → FirstAnswers (in_force setup log) (place_by setup log) first
        (flags (in_force setup log) (place_by setup log) (brought (last_date setup log) first) (tested setup log first) (past setup log)) kind)
        (λ commands spoken g.
        first-answers setup accepted commands spoken first kind number iad (ap (λ (c : Message). (next setup commands c).answer) (sym is) ∙ g))

    pub paper-said : Says answer (atc_by setup (record { command = command; answer = answer } ∷ log))
    paper-said =
        at_turn (λ log card outcome. Says outcome.answer (atc_by setup (record { command = command; answer = outcome.answer } ∷ log)))
        (λ commands spoken. said setup accepted commands spoken command)

    pub paper_written_out : (kind : Kind) (number : ℕ) (iad : Iad) → answer ≡ Given kind number iad
        → Writable iad × OfBytes iad × LaidOut iad (written iad (replicate 32 0)) × WellFormed (written iad (replicate 32 0))
    paper_written_out kind number iad =
        at_turn (λ log card outcome. outcome.answer ≡ Given kind number iad
        → Writable iad × OfBytes iad × LaidOut iad (written iad (replicate 32 0)) × WellFormed (written iad (replicate 32 0)))
        (λ commands spoken. written_out setup accepted commands spoken command kind number iad)
