-- `step-apart`, computed for a few sales: of a wrong card the statement itself is then shown to be false. Assumes nothing.
use mathlib.Core.Path.{refl}
use mathlib.Core.Bool.{Bool, true, false, not, ◌&&◌}
use mathlib.Core.List.{List, [], ◌∷◌, ◌++◌}
use Prim.Native.Nat.{ℕ}
use native.Mathlib.Omega.{arith}
use lib.Dec.{T, eqb}
use Rattle.refusal.specs.Refusal.{refusal_number}
use Rattle.money.specs.declared.AccumulatorAmount.{AccumulatorAmount}
use Rattle.money.specs.Money.{max, blank, rate_for, rounded, scaled, convert_of}
use Rattle.cpace.specs.declared.Cvm.TheVariants.{NoCvm}
use Rattle.rules.specs.declared.Place.TheVariants.{One}
use Rattle.rules.specs.Rules.{Profile, Rules, two, four, five, eight, blank_accumulator, blank_counter, blank_profile, blank_cycle, blank_cyclic, find_profile}
use Rattle.purchase.specs.Meter.{Meter, accumulator, counter, worth, is_open}
use Rattle.limits.specs.Limits.{bit, accumulators_lower, accumulators_upper, counters_lower, counters_upper, dating_flags}
use Rattle.checks.specs.Checks.{maximum_exceeded, decision_bits}
use Rattle.meters.specs.Meters.{applied}
use Rattle.marks.specs.Marks.{kept, fresh_scripts, started, heard as heard_again, marks_of}
use Rattle.command.specs.declared.Command.{Command}
use Rattle.command.specs.declared.Command.TheVariants.{Start, First, Second}
use Rattle.state.specs.declared.Phase.TheVariants.{Idle}
use Rattle.state.specs.declared.Answer.{Answer}
use Rattle.state.specs.declared.Answer.TheVariants.{Refused, Started, Given, Done}
use Rattle.state.specs.declared.State.{State}
use Rattle.state.specs.State.{cid_of}
use Rattle.cryptogram.specs.Cryptogram.{limits_byte, verification, sent_iad}
use Rattle.cycles.specs.Cycles.{timing_of, dated}
use Rattle.start.specs.Start.{start_step}
use Rattle.decision.specs.Decision.{decision, settled, asked, concluded}
use Rattle.first.specs.First.{first_answered, first_performed}
use Rattle.closing.specs.Closing.{closed, ordered}
use Rattle.second.specs.Second.{unable_performed, verified_performed, failed_performed, absent_performed, second_performed}
use Rattle.card.specs.Card.{first_step, second_step, step_of}
use Rattle.apart.specs.Off.{IsOff, Quiet}
use Rattle.apart.specs.Alike.{wiped_state}
use Rattle.std.specs.Prelude.{None, Some}

-- ---- cards

-- profile 1: Decline the MTA, and both limits of accumulator 1 and counter 1, which are 5 and 9
abbrev profile : (active : Bool) (accumulator-sent counter-sent : ℕ) → Profile
profile active accumulator-sent counter-sent =
    record {
      number = 1;
      masks = record { online = 0; decline = 0x44460; default = 0 };
      maximum = record { amount = record { 0 = 0 }; currency = 0; on = false };
      accumulators =
          record { lower = record { 0 = 5 }; upper = record { 0 = 9 }; active = active; allow = true; include = true } ∷ blank_accumulator
          ∷ blank_accumulator
          ∷ blank_accumulator
          ∷ [];
      counters =
          record { lower = 5; upper = 9; active = active; allow = true; include = true; declines = true } ∷ blank_counter ∷ blank_counter
          ∷ blank_counter
          ∷ [];
      sent = record { accumulator = accumulator-sent; first = counter-sent; second = 0 };
    }

abbrev rules_for : Profile → Rules
rules_for first =
    record {
      key = 1;
      pin = 3;
      required = false;
      currencies = four (λ i. 0x0978);
      rates = record { entries = five (λ i. blank); up = false };
      profiles = first ∷ blank_profile ∷ blank_profile ∷ blank_profile ∷ [];
      cycles = two (λ i. blank_cycle);
      cyclic_rules = four (λ j. two (λ i. blank_cyclic));
      controls = eight (λ i. 0);
      cashbacks = four (λ j. false);
    }

-- what accumulator 1 and counter 1 hold
abbrev card : (amount count : ℕ) → State
card amount count =
    record {
      values =
          record {
            accumulators = record { 0 = amount } ∷ record { 0 = 0 } ∷ record { 0 = 0 } ∷ record { 0 = 0 } ∷ [];
            counters = count ∷ 0 ∷ 0 ∷ 0 ∷ [];
            cyclic = two (λ i. record { 0 = 0 });
          };
      phase = Idle;
      atc = 0;
      last = record { year = 0; month = 0; day = 0 };
      history = record { uncompleted = false; online = false; failed = false; unable = false; missing = false };
      scripts = record { 0 = 0 };
    }

-- ---- commands: Start 1; First of 1 in 0978 on terminal 22 hex; Second, which asks for a TC

abbrev start : Command
start = Start (record { interface = 0; chosen = Some (record { profile = 1; visits = 0 }) })

abbrev first : (requested : ℕ) → Command
first requested =
    First (record {
      requested = requested;
      amount = record { 0 = 1 };
      currency = 0x0978;
      terminal = 0x22;
      when = None;
      cvm = NoCvm;
      cashback = false;
    })

abbrev second : (code issuer csu : ℕ) → Command
second code issuer csu = Second (record { requested = 1; code = code; issuer = issuer; csu = csu })

abbrev sale : List Command
sale = start ∷ first 1 ∷ []

-- approved; declined; online, approved and reset by the issuer; online and unable; a First out of turn
abbrev day : List Command
day =
    start ∷ first 1 ∷ start ∷ first 0 ∷ start ∷ first 2 ∷ second 0x3030 1 0x820000 ∷ start ∷ first 2 ∷ second 0x5933 0 0 ∷ first 1 ∷ []

-- ---- answers and cards as numbers

abbrev told : Answer → List ℕ
told (Refused refusal) = refusal_number refusal ∷ []
told (Started atc visits) = 0 ∷ atc ∷ visits ∷ []
told (Given kind atc iad) =
    0 ∷ cid_of kind ∷ atc ∷ iad.accumulator.0 ∷ iad.key ∷ iad.cvr.byte1 ∷ iad.cvr.byte2 ∷ iad.cvr.byte3 ∷ iad.cvr.byte4 ∷ iad.first
    ∷ iad.second
    ∷ iad.profile
    ∷ []
told Done = 0 ∷ []

abbrev amounts_in : List AccumulatorAmount → List ℕ
amounts_in [] = []
amounts_in (amount ∷ more) = amount.0 ∷ amounts_in more

abbrev left : State → List ℕ
left state = amounts_in state.values.accumulators ++ state.values.counters ++ state.atc ∷ bit state.history.uncompleted ∷ []

-- the answers, and the card that is left, without x
unfoldable pub heard : Rules → Meter → State → List Command → List ℕ
heard rules x state [] = left (wiped_state x state)
heard rules x state (command ∷ more) =
    told (step_of rules state command).answer ++ heard rules x (step_of rules state command).state more

abbrev same : List ℕ → List ℕ → Bool
same [] [] = true
same [] (n ∷ more) = false
same (m ∷ more) [] = false
same (m ∷ more) (n ∷ others) = eqb m n && same more others

-- the kinds that are given
abbrev cid : Answer → List ℕ
cid (Refused refusal) = []
cid (Started atc visits) = []
cid (Given kind atc iad) = cid_of kind ∷ []
cid Done = []

unfoldable pub kinds : Rules → State → List Command → List ℕ
kinds rules state [] = []
kinds rules state (command ∷ more) = cid (step_of rules state command).answer ++ kinds rules (step_of rules state command).state more

-- two cards, by what accumulator 1 or counter 1 holds
unfoldable pub amounts : Profile → List Command → (a b : ℕ) → Bool
amounts at commands a b = same (heard (rules_for at) (accumulator 0) (card a 0) commands) (heard (rules_for at) (accumulator 0) (card b 0) commands)

unfoldable pub counts : Profile → List Command → (a b : ℕ) → Bool
counts at commands a b = same (heard (rules_for at) (counter 0) (card 0 a) commands) (heard (rules_for at) (counter 0) (card 0 b) commands)

-- THE PREMISE IS MET on the way: x is off whenever a profile is open
unfoldable pub Quieted : Rules → Meter → State → List Command → Type 0
Quieted rules x state [] = Unit
Quieted rules x state (command ∷ more) = Quiet rules x state.phase × Quieted rules x (step_of rules state command).state more

amount-off : IsOff (rules_for (profile false 0 0)) (accumulator 0) One
amount-off = record { inactive = refl; unsent = λ e. omega arith }

count-off : IsOff (rules_for (profile false 0 0)) (counter 0) One
count-off = record { inactive = refl; unsent = (λ e. omega arith, λ e. omega arith) }

pub record Samples : Type 0 where
  -- neither active nor sent: below its limits, above them, and full
  pub unsent : T (amounts (profile false 0 0) sale 0 3)
  pub above : T (amounts (profile false 0 0) sale 0 10)
  pub full : T (amounts (profile false 0 0) sale 0 max)
  pub counter-unsent : T (counts (profile false 0 0) sale 0 3)
  pub counter-above : T (counts (profile false 0 0) sale 0 10)
  -- another is sent
  pub another_sent : T (amounts (profile false 2 0) sale 0 3)
  -- a day's sales, with a TC, an AAC, and two ARQCs that a TC follows
  pub day_gives : T (same (kinds (rules_for (profile false 0 0)) (card 3 0) day) (0x40 ∷ 0x00 ∷ 0x80 ∷ 0x40 ∷ 0x80 ∷ 0x40 ∷ []))
  pub whole-day : T (amounts (profile false 0 0) day 0 3)
  pub counter-day : T (counts (profile false 0 0) day 0 3)
  pub day-quiet : Quieted (rules_for (profile false 0 0)) (accumulator 0) (card 3 0) day × Quieted (rules_for (profile false 0 0)) (counter 0) (card 0 3) day
  -- THE PREMISE IS NEEDED: sent, or active, it shows
  pub sent_shows : T (not (amounts (profile false 1 0) sale 0 3) && not (counts (profile false 0 1) sale 0 3))
  pub active_shows : T (not (amounts (profile true 0 0) sale 0 10) && not (counts (profile true 0 0) sale 0 10))

pub samples : Samples
unfolding amounts counts heard kinds Quieted step_of start_step first_step second_step find_profile first_performed first_answered timing_of dated decision_bits
    accumulators_lower accumulators_upper counters_lower counters_upper dating_flags maximum_exceeded decision limits_byte verification settled asked concluded
    sent_iad applied worth is_open convert_of rate_for rounded scaled kept fresh_scripts started heard_again marks_of closed ordered unable_performed verified_performed
    failed_performed absent_performed second_performed
samples =
    record {
      unsent = tt;
      above = tt;
      full = tt;
      counter-unsent = tt;
      counter-above = tt;
      another_sent = tt;
      day_gives = tt;
      whole-day = tt;
      counter-day = tt;
      day-quiet =
          let a = amount-off in
          let c = count-off in (
            (tt, (a, (tt, (a, (tt, (a, (a, (tt, (a, (a, (tt, tt))))))))))),
            (tt, (c, (tt, (c, (tt, (c, (c, (tt, (c, (c, (tt, tt))))))))))),
          );
      sent_shows = tt;
      active_shows = tt;
    }
