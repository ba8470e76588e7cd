-- The demands where profiles are selected: they read on from the profile that selection over the file's bytes gives. Assumes nothing.
use mathlib.Core.Path.{◌≡◌, refl, ap}
use mathlib.Core.Bool.{Bool, true, false, cond}
use mathlib.Core.List.{List, [], ◌∷◌}
use Prim.Native.Nat.{ℕ, suc, ◌≤◌}
use native.Mathlib.Omega.{arith}
use borrow.Author.Tests.{ne_eqb}
use lib.Dec.{eqb, ltb}
use lib.ListN.{length}
use Rattle.rules.specs.Rules.{Rules, find_profile}
use Rattle.slot.specs.declared.Slots.{Slots}
use Rattle.selection.specs.Selection.{selection_of, profile_of, visits_of}
use Rattle.shape.specs.declared.Family.TheVariants.{Cpa, Cpace}
use Rattle.refusal.specs.declared.Refusal.TheVariants.{OutOfRange}
use Rattle.command.specs.declared.First.{First}
use Rattle.card.specs.Message.{Message, message_step}
use Rattle.command.specs.declared.Command.{Command}
use Rattle.command.specs.Command.{start_selected, selecting_of}
use Rattle.state.specs.declared.Answer.{Answer}
use Rattle.state.specs.declared.Answer.TheVariants.{Refused, Started, Given, Done}
use Rattle.state.specs.declared.Kind.{Kind}
use Rattle.state.specs.declared.State.{State}
use Rattle.iad.specs.declared.Iad.{Iad}
use Rattle.state.specs.Ruling.{refuse, carried}
use Rattle.card.specs.Card.{rule_chosen, rule_opening, start_performed, start_step}
use Rattle.state.specs.declared.Outcome.{Outcome}
use Rattle.demands.specs.Setup.{Setup, IsCpa, AcceptedSetup}
use Rattle.purchase.specs.Meter.{Meter, IsMeter, value_of}
use Rattle.demands.specs.Ledger.{owed}
use Rattle.demands.specs.Conversation.{Sitting, outcome_of, told, sat, IsSpoken, Spoken}
use Rattle.demands.specs.Audit.{cap_of, start_of, approves, upper_of, takes_part, brought, bought, last_date, in_force, place_by, ledger, tested}
use Rattle.demands.specs.Guards.{Guards}
use Rattle.demands.specs.Past.{past}
use Rattle.demands.specs.Decision.{flags, FirstAnswers}
use Rattle.demands.specs.Selecting.{Said, start, start_on, first, second, script, IsBytes, AllBytes, slots_by, as_message, selecting, heard, all_heard}
use Rattle.demands.proofs.Total.{total}
use Rattle.demands.proofs.Limit.{limit}
use Rattle.demands.proofs.First.{first-answers}
use Rattle.demands.specs.Verification.{Gives}
use Rattle.demands.proofs.Answers.{gives}
use Rattle.std.specs.Prelude.{None, Ok, Option, Result, Some}
use Rattle.refusal.specs.declared.Refusal.{Refusal}
use Rattle.rules.specs.declared.Place.{Place}
use Rattle.selection.specs.declared.Selected.{Selected}
use Rattle.shape.specs.declared.Span.{Span}

-- the visits that an answer says
visits_in : Answer → ℕ
visits_in (Refused refusal) = 0
visits_in (Started atc visits) = visits
visits_in (Given kind atc iad) = 0
visits_in Done = 0

is_start : Answer → ℕ
is_start (Refused refusal) = 0
is_start (Started atc visits) = 1
is_start (Given kind atc iad) = 0
is_start Done = 0

-- a record that is read as a command is heard as that command is sent
pub data Heard : Result Command Refusal → Message → Type 0 where
  as_read_lem : (command : Command) → Heard (Ok command) (as_message command)

module _ (file : List ℕ) (entries : ℕ) where
  -- A START'S RECORD IS HEARD AS SELECTION OVER THE FILE'S BYTES, of a CPA card and of a CPACE one
  pub heard_as_read : (dating : Option Span) (slots : Slots) (terminal : List ℕ)
      → Heard (selecting_of dating Cpa slots file entries 2 terminal) (heard file entries slots (start terminal))
  unfolding selecting_of start_selected
  heard_as_read dating slots terminal = as_read_lem _

  pub heard_on_interface : (dating : Option Span) (slots : Slots) (from to interface : ℕ) (terminal : List ℕ)
      → Heard (selecting_of dating (Cpace from to) slots file entries 2 (interface ∷ terminal)) (heard file entries slots (start_on interface terminal))
  unfolding selecting_of start_selected
  heard_on_interface dating slots from to interface terminal = rw (ne_eqb (suc (length terminal)) 0 (λ e. omega arith)) (as_read_lem _)

  -- AN ACCEPTED START OPENS THE PROFILE SELECTED, AND SAYS HOW MANY ENTRIES WERE VISITED
  pub start_selected_lem : (rules : Rules) (state : State) (slots : Slots) (interface : ℕ) (read : List ℕ) (atc visits : ℕ)
      → (message_step rules state (selecting file entries slots interface read)).answer ≡ Started atc visits
      → selection_of file entries read slots ≡ Some (record { profile = profile_of (selection_of file entries read slots); visits = visits })
  unfolding message_step start_step visits_in is_start
  start_selected_lem rules state slots interface read atc visits = on (ltb 1 interface) (selection_of file entries read slots) where
    opened : (profile seen : ℕ) (found : Option Place) (b : Bool) → eqb state.atc 65535 ≡ b
        → (carried state (start_performed state seen) (rule_opening state.atc found)).answer ≡ Started atc visits
        → ◌≡◌ {A = Option Selected} (Some (record { profile = profile; visits = seen })) (Some (record { profile = profile; visits = visits }))
    opened profile seen None b h e = let z = ap is_start e in absurd (omega arith)
    opened profile seen (Some place) true h e = let z = ap is_start (rw h at e) in absurd (omega arith)
    opened profile seen (Some place) false h e = ap {B = Option Selected} (λ visits. Some (record { profile = profile; visits = visits })) (ap visits_in (rw h at e))

    by : (chosen : Option Selected) → (carried state (start_performed state (visits_of chosen)) (rule_chosen rules state.atc chosen)).answer ≡ Started atc visits
        → chosen ≡ Some (record { profile = profile_of chosen; visits = visits })
    by None e = let z = ap is_start e in absurd (omega arith)
    by (Some chosen) e = opened chosen.profile chosen.visits (find_profile rules chosen.profile) (eqb state.atc 65535) refl e

    on : (b : Bool) (chosen : Option Selected)
        → (carried state (start_performed state (visits_of chosen)) (cond b (refuse OutOfRange) (rule_chosen rules state.atc chosen))).answer
        ≡ Started atc visits
        → chosen ≡ Some (record { profile = profile_of chosen; visits = visits })
    on true chosen e = let z = ap is_start e in absurd (omega arith)
    on false chosen e = by chosen e

  -- what is heard is bytes where what is said is
  is_spoken : (slots : Slots) (now : Said) → IsBytes now → IsSpoken (heard file entries slots now)
  is_spoken slots (start terminal) bytes = tt
  is_spoken slots (start_on interface terminal) bytes = tt
  is_spoken slots (first f) bytes = tt
  is_spoken slots (second s) bytes = tt
  is_spoken slots (script result template) bytes = bytes

  all_spoken : (setup : Setup) (sitting : Sitting) (said : List Said) → AllBytes said → Spoken (all_heard file entries setup sitting said)
  unfolding all_heard
  all_spoken setup sitting [] bytes = tt
  all_spoken setup sitting (now ∷ said) bytes =
      (is_spoken (slots_by setup sitting.log) now bytes.0, all_spoken setup (told sitting (heard file entries (slots_by setup sitting.log) now)) said bytes.1)

  module _ (setup : Setup) (good : AcceptedSetup setup) (said : List Said) (bytes : AllBytes said) where
    -- the commands heard so far, the conversation, and what one thing more that is said comes to
    abbrev pub commands_so_far : List Message
    commands_so_far = all_heard file entries setup (sat setup []) said

    spoken : Spoken commands_so_far
    spoken = all_spoken setup (sat setup []) said bytes

    abbrev pub sat_so_far : Sitting
    sat_so_far = sat setup commands_so_far

    abbrev pub heard_now : Said → Message
    heard_now now = heard file entries (slots_by setup sat_so_far.log) now

    abbrev pub next-heard : Said → Outcome
    next-heard now = outcome_of sat_so_far (heard_now now)

    -- DEMAND 3, THE TOTAL, WITH PROFILES SELECTED
    pub selected_total : (meter : Meter) → IsMeter meter
        → value_of sat_so_far.state.values meter ≡ owed (cap_of meter) (start_of setup meter) (ledger setup meter sat_so_far.log)
    selected_total = total setup good commands_so_far spoken

    -- DEMAND 3, THE UPPER LIMIT of a CPA card, for the profile that selection opened
    pub selected_limit : IsCpa setup → (now : Said) (meter : Meter) → IsMeter meter
        → Guards (in_force setup sat_so_far.log) (place_by setup sat_so_far.log) meter
        → approves (heard_now now) (next-heard now).answer ≡ true
        → takes_part (bought setup (told sat_so_far (heard_now now)).log) meter ≡ true
        → value_of (next-heard now).state.values meter ≤ upper_of (in_force setup sat_so_far.log) (place_by setup sat_so_far.log) meter
    selected_limit cpa now = limit setup good cpa commands_so_far spoken (heard_now now)

    -- DEMAND 2: WHAT FIRST AND SECOND ANSWER
    pub selected_first : (f : First) (kind : Kind) (atc : ℕ) (iad : Iad) → (next-heard (first f)).answer ≡ Given kind atc iad
        → FirstAnswers (in_force setup sat_so_far.log) (place_by setup sat_so_far.log) f
        (flags (in_force setup sat_so_far.log) (place_by setup sat_so_far.log) (brought (last_date setup sat_so_far.log) f)
        (tested setup sat_so_far.log f) (past setup sat_so_far.log)) kind
    selected_first = first-answers setup good commands_so_far spoken

    pub selected_gives : (now : Said) → Gives setup sat_so_far.log (heard_now now) (next-heard now)
    selected_gives now = gives setup good commands_so_far spoken (heard_now now)
