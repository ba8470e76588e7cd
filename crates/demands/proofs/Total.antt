-- Demand 3, the total: over every list of commands each accumulator, each counter and each cyclic accumulator holds what the conversation
-- and the set-up's bytes say that it owes. Assumes nothing.
use mathlib.Core.Path.{◌≡◌, refl, sym, ap, ◌∙◌, subst}
use mathlib.Core.Bool.{Bool, true, false, cond, ◌||◌, not}
use mathlib.Core.List.{List, [], ◌∷◌, ◌++◌, append_assoc}
use mathlib.Core.Logic.{inl, inr}
use Prim.Native.Nat.{ℕ, ◌+◌, ◌-◌, ◌*◌, ◌/◌, ◌≤◌}
use native.Mathlib.Omega.{arith}
use lib.Dec.{eqb}
use Rattle.wire.proofs.Numbers.{past}
use Rattle.calendar.specs.declared.Date.{Date}
use Rattle.money.specs.declared.AccumulatorAmount.{AccumulatorAmount}
use Rattle.money.specs.Money.{max}
use Rattle.refusal.specs.declared.Refusal.{Refusal}
use Rattle.iad.specs.declared.Cvr.{Cvr}
use Rattle.rules.specs.declared.Place.{Place}
use Rattle.rules.specs.declared.Values.{Values}
use Rattle.rules.specs.Rules.{Rules, index_of, profile_at}
use Rattle.rules.proofs.Places.{four-at, two_at}
use Rattle.tails.proofs.Accepted.{CyclesRanges, CyclesAccepted}
use Rattle.setup.specs.Setup.{value_in, amount_in, fresh_in, read_setup}
use Rattle.selection.specs.Selection.{profile_of, visits_of}
use Rattle.command.specs.declared.Start.{Start}
use Rattle.command.specs.declared.First.{First}
use Rattle.command.specs.declared.Second.{Second}
use Rattle.card.specs.Message.{Message, StartCommand, FirstCommand, SecondCommand, ScriptCommand}
use Rattle.meters.specs.declared.Change.TheVariants.{Approve, Decline}
use Rattle.meters.specs.Meters.{Entry, moved, offline, applied}
use Rattle.object.specs.Object.{read_template}
use Rattle.element.specs.declared.Write.{Write}
use Rattle.element.specs.declared.Write.TheVariants.{Value, AccumulatorLimits, CounterLimits}
use Rattle.auditor.specs.Template.{Bytes, InRange}
use Rattle.marks.specs.declared.Scripts.{Scripts}
use Rattle.script.specs.Script.{values_after, ran_of}
use Rattle.state.specs.declared.History.{History}
use Rattle.checks.specs.Checks.{meets_mask}
use Rattle.cryptogram.specs.declared.Issuer.{Issuer}
use Rattle.state.specs.declared.Kind.{Kind}
use Rattle.state.specs.declared.Kind.TheVariants.{Aac, Tc, Arqc}
use Rattle.state.specs.declared.Pending.{Pending}
use Rattle.state.specs.declared.Phase.{Phase}
use Rattle.state.specs.declared.Phase.TheVariants.{Idle, Opened, Asked}
use Rattle.state.specs.declared.State.{State}
use Rattle.state.specs.declared.Outcome.{Outcome}
use Rattle.cycles.specs.Cycles.{timing_of, dated}
use Rattle.first.specs.First.{purchase_of, first_kind, first_performed, first_answered, settled, asked, concluded}
use Rattle.closing.specs.Closing.{closed, ordered as ordered_values}
use Rattle.second.specs.Second.{is_unable, unable_bits, unable_performed, verified_performed, failed_performed, absent_performed, second_performed}
use Rattle.second.specs.Second.{update_byte}
use Rattle.scripting.specs.Scripting.{script_performed}
use Rattle.fresh.specs.Fresh.{fresh_state}
use Rattle.card.specs.Card.{start_performed, is_dated}
use Rattle.state.specs.Ruling.{refused as refusal}
use Rattle.purchase.specs.declared.Timing.{Timing}
use Rattle.purchase.specs.declared.Purchase.{Purchase}
use Rattle.demands.specs.Setup.{Setup, byte_at, number_at, tail_number, AcceptedSetup}
use Rattle.purchase.specs.Meter.{Meter, accumulator, counter, cyclic, IsMeter, value_of}
use Rattle.demands.specs.Ledger.{owed}
use Rattle.demands.specs.Conversation.{Exchange, Sitting, after, run, rules_by, sat, IsSpoken, Spoken}
use Rattle.demands.specs.Scripts.{remembered, trial_of}
use Rattle.demands.specs.Audit.{Limits, accumulator_limits, counter_limits, with_writes}
use Rattle.demands.specs.Audit.{place_of, upper_of, start_of, cap_of, counted, declined, ordered, begun, entered, named, brought, bought, last_date}
use Rattle.demands.specs.Audit.{dealing, in_force, place_by, ledger, audited, tested}
use Rattle.demands.proofs.Step.{Did, refused_it, started_it, took_first, took_second, took_script}
use Rattle.demands.proofs.Run.{Ruled, ruled_keeps, did_by}
use Rattle.demands.proofs.Owed.{Fair, nothing, starts, grows}
use Rattle.demands.proofs.Found.{below-four}
use Rattle.demands.proofs.Bytes.{fits, fits-tail, all_fit_lem, Stands, stands_at_lem}
use Rattle.demands.proofs.Written.{place-written}
use Rattle.demands.proofs.Dated.{begun_fair}
use Rattle.demands.proofs.Scripts.{template_agrees}
use Rattle.demands.proofs.Puts.{all-put}
use Rattle.demands.proofs.Deals.{Remembers, Deals, brought_as, begun_then, did_deals, begin_deals}
use Rattle.demands.proofs.Moves.{approved-moves, declined-moves, ordered-moves, counted_fair, declined_fair, ordered_fair}
use Rattle.std.specs.Prelude.{Ok}

-- the profile of an open transaction stands where the conversation says
abbrev pub Agrees : Setup → (profile : ℕ) → Phase → Type 0
Agrees setup profile Idle = Unit
Agrees setup profile (Opened place) = Stands setup place (place_of setup profile)
Agrees setup profile (Asked pending) = Stands setup pending.place (place_of setup profile)

pub record Holding (setup : Setup) (sitting : Sitting) : Type 0 where
  pub agrees : Agrees (in_force setup sitting.log) (named sitting.log) sitting.state.phase
  pub values : (meter : Meter) → IsMeter meter → value_of sitting.state.values meter ≡ audited setup sitting.log meter

-- what an accepted set-up's bytes keep below the caps
module _ (setup : Setup) (good : AcceptedSetup setup) where
  -- in the tail, which may be empty
  within : (at : ℕ) → (CyclesRanges setup.tail → tail_number setup at 8 ≤ max) → tail_number setup at 8 ≤ max
  within at some = by (fits-tail good) where
    by : CyclesAccepted setup.tail → tail_number setup at 8 ≤ max
    by (inl none) = let z = past setup.tail at 8 (omega arith) in omega arith
    by (inr ranges) = some ranges

  pub start-within : (meter : Meter) → IsMeter meter → start_of setup meter ≤ cap_of meter
  start-within (accumulator i) l = subst (λ at. number_at setup at 8 ≤ max) (omega arith) ((fits good).accumulators i l).value
  start-within (counter i) l = omega (arith, good.bytes.below (48 + i))
  start-within (cyclic i) l = within (6 + 12 * i) (λ ranges. subst (λ at. tail_number setup at 8 ≤ max) (omega arith) (ranges.cycles i l).amount)

  -- what scripts wrote
  accumulators-within : (i : ℕ) (ws : List Write) → InRange ws → (given : Limits) → given.upper ≤ max → (accumulator_limits i ws given).upper ≤ max
  unfolding InRange
  accumulators-within i [] within given h = h
  accumulators-within i (Value slot amount ∷ older) within given h = accumulators-within i older within.1 given h
  accumulators-within i (CounterLimits slot lower upper ∷ older) within given h = accumulators-within i older within.1 given h
  accumulators-within i (AccumulatorLimits slot lower upper ∷ older) within given h =
      by (eqb slot i) (accumulators-within i older within.1 given h)
    where
      by : (b : Bool) → (accumulator_limits i older given).upper ≤ max
          → (cond b (record { lower = lower.0; upper = upper.0 }) (accumulator_limits i older given)).upper ≤ max
      by true rest = within.0.2
      by false rest = rest

  counters-within : (i : ℕ) (ws : List Write) → InRange ws → (given : Limits) → given.upper ≤ 255 → (counter_limits i ws given).upper ≤ 255
  unfolding InRange
  counters-within i [] within given h = h
  counters-within i (Value slot amount ∷ older) within given h = counters-within i older within.1 given h
  counters-within i (AccumulatorLimits slot lower upper ∷ older) within given h = counters-within i older within.1 given h
  counters-within i (CounterLimits slot lower upper ∷ older) within given h = by (eqb slot i) (counters-within i older within.1 given h) where
    by : (b : Bool) → (counter_limits i older given).upper ≤ 255
        → (cond b (record { lower = lower; upper = upper }) (counter_limits i older given)).upper ≤ 255
    by true rest = let small = within.0.2 in omega arith
    by false rest = rest

  pub upper-within : (place : Place) (at : ℕ) → Stands setup place at → (meter : Meter) → IsMeter meter → upper_of setup at meter ≤ cap_of meter
  upper-within place at stands (accumulator i) l =
      let ranges = (fits good).profiles (index_of place) stands.there in
      accumulators-within i setup.written good.written-taken _
      (subst (λ at. number_at setup (at + (24 + 17 * i) + 9) 8 ≤ max) (sym stands.offset) (ranges.accumulators i l).upper)
  upper-within place at stands (counter i) l =
      counters-within i setup.written good.written-taken _ (omega (arith, good.bytes.below (at + (92 + 3 * i) + 2)))
  upper-within place at stands (cyclic i) l =
      let before : index_of place ≡ (at - 52) / 107 = omega (arith, stands.offset) in
      within (28 + 18 * ((at - 52) / 107) + 9 * i + 1)
      (λ ranges. subst (λ j. tail_number setup (28 + 18 * j + 9 * i + 1) 8 ≤ max) before (ranges.rules (index_of place) (below-four place) i l).limit)

module _ (setup : Setup) (sitting : Sitting) (ruled : Ruled setup sitting) (deals : Deals setup sitting) (holding : Holding setup sitting) where
  abbrev state : State
  state = sitting.state

  abbrev log : List Exchange
  log = sitting.log

  abbrev now : Setup
  now = in_force setup log

  abbrev rules : Rules
  rules = rules_by now

  abbrev at : ℕ
  at = place_by setup log

  abbrev last : Date
  last = last_date setup log

  -- a value after a step, if what the step did is what is entered
  carry : (values then : Values) (meter : Meter) (older more : List Entry) → value_of values meter ≡ owed (cap_of meter) (start_of setup meter) older
      → value_of then meter ≡ moved (cap_of meter) (value_of values meter) more → Fair (cap_of meter) more
      → value_of then meter ≡ owed (cap_of meter) (start_of setup meter) (more ++ older)
  carry values then meter older more held e fair =
      e ∙ ap (λ v. moved (cap_of meter) v more) held ∙ grows (cap_of meter) (start_of setup meter) older fair

  refused-holds : (command : Message) (r : Refusal) → Holding setup (after sitting command (refusal state r))
  unfolding named in_force ledger
  refused-holds (StartCommand start) r = record { agrees = holding.agrees; values = holding.values }
  refused-holds (FirstCommand first) r = record { agrees = holding.agrees; values = holding.values }
  refused-holds (SecondCommand second) r = record { agrees = holding.agrees; values = holding.values }
  refused-holds (ScriptCommand result template) r = record { agrees = holding.agrees; values = holding.values }

  start-taken : (start : Start) (place : Place) → Stands now place (place_of now (profile_of start.chosen))
      → Holding setup (after sitting (StartCommand start) (start_performed state (visits_of start.chosen) place))
  unfolding named in_force ledger
  start-taken start place stands = record { agrees = stands; values = holding.values }

  -- ---- First

  module _ (first : First) (small : first.amount.0 ≤ max) (day : is_dated first.when ≡ true) where
    abbrev begun-state : State
    begun-state = dated rules state first.when

    abbrev timing : Timing
    timing = timing_of state.last first.when

    -- when its tests come, its cycles have begun
    pub begun-values : (meter : Meter) → IsMeter meter → value_of begun-state.values meter ≡ tested setup log first meter
    begun-values meter l =
        carry state.values begun-state.values meter (ledger setup meter log) (begun now last first.when meter) (holding.values meter l)
        (begun_then setup sitting ruled deals first small day meter l)
        (begun_fair now ruled.good last first.when meter)

    -- and then what it answers is entered
    settled-value : (then : Values) (meter : Meter) → IsMeter meter → (more : List Entry)
        → value_of then meter ≡ moved (cap_of meter) (value_of begun-state.values meter) more → Fair (cap_of meter) more
        → value_of then meter
        ≡ owed (cap_of meter) (start_of setup meter) ((more ++ begun now last first.when meter) ++ ledger setup meter log)
    settled-value then meter l more e fair =
        let begins = begun now last first.when meter in
        carry begun-state.values then meter (begins ++ ledger setup meter log) more (begun-values meter l) e fair
        ∙ ap (owed (cap_of meter) (start_of setup meter)) (sym (append_assoc more begins (ledger setup meter log)))

    concluded-holds : (place : Place) → Stands now place at → (limits : ℕ) (cvr : Cvr) (kind : Kind)
        → Holding setup (after sitting (FirstCommand first) (concluded rules begun-state place (purchase_of first timing) limits cvr kind))
    unfolding settled asked concluded named dealing in_force ledger
    concluded-holds place stands limits cvr Tc =
        let values = begun-state.values in
        record {
          agrees = tt;
          values =
              λ meter l.
              settled-value (applied rules place values (Approve (purchase_of first timing))) meter l (counted now at (brought last first) meter)
              (approved-moves now ruled.good place at stands values meter l (purchase_of first timing) small
              ∙ ap (λ purchase. moved (cap_of meter) (value_of values meter) (counted now at purchase meter)) (brought_as setup sitting ruled deals first small day))
              (counted_fair now at (brought last first) (cap_of meter) meter);
        }
    concluded-holds place stands limits cvr Aac =
        let values = begun-state.values in
        record {
          agrees = tt;
          values =
              λ meter l.
              settled-value (applied rules place values Decline) meter l (declined now at meter)
              (declined-moves now ruled.good place at stands values meter l)
              (declined_fair now at (brought last first) (cap_of meter) meter);
        }
    concluded-holds place stands limits cvr Arqc = record { agrees = stands; values = begun-values }

    first_taken_lem : (place : Place) → Stands now place at → Holding setup (after sitting (FirstCommand first) (first_performed rules state first place))
    unfolding first_performed first_answered
    first_taken_lem place stands = concluded-holds place stands _ _ (first_kind rules begun-state place first timing)

  -- ---- Second, if its answer closes with values that moved by what is entered

  closed-holds : (second : Second) (pending : Pending) (approves : Bool) (values : Values) (then : Date) (history : History) (scripts : Scripts) (issuer : Issuer)
      (more : Meter → List Entry)
      → ((meter : Meter) → IsMeter meter → value_of values meter ≡ moved (cap_of meter) (value_of state.values meter) (more meter))
      → ((meter : Meter) → IsMeter meter → Fair (cap_of meter) (more meter))
      → ((meter : Meter) → more meter ≡ entered now at last (bought setup log) (remembered setup log) meter (SecondCommand second)
      (closed rules state.atc pending approves values then history scripts issuer).answer)
      → Holding setup (after sitting (SecondCommand second) (closed rules state.atc pending approves values then history scripts issuer))
  unfolding closed named dealing in_force ledger
  closed-holds second pending approves values then history scripts issuer more moves fair is =
      record {
        agrees = tt;
        values =
            λ meter l.
            carry state.values values meter (ledger setup meter log) (more meter) (holding.values meter l) (moves meter l) (fair meter l)
            ∙ ap (λ new. owed (cap_of meter) (start_of setup meter) (new ++ ledger setup meter log)) (is meter);
      }

  -- Second, by what it comes with
  module _ (second : Second) (pending : Pending) (stands : Stands now pending.place at) (purchase-is : pending.purchase ≡ bought setup log)
      (small : pending.purchase.amount.0 ≤ max) where
    abbrev place : Place
    place = pending.place

    abbrev Closes : Outcome → Type 0
    Closes outcome = Holding setup (after sitting (SecondCommand second) outcome)

    unable-holds : (b : Bool) → is_unable second.code ≡ true → (then : Date) (history : History) (scripts : Scripts) (issuer : Issuer)
        → Closes (closed rules state.atc pending b (applied rules place state.values (offline b pending.purchase)) then history scripts issuer)
    unfolding closed
    unable-holds false e then history scripts issuer =
        closed-holds second pending false (applied rules place state.values Decline) then history scripts issuer (declined now at)
        (declined-moves now ruled.good place at stands state.values)
        (λ meter l. declined_fair now at (bought setup log) (cap_of meter) meter)
        (λ meter. rw e)
    unable-holds true e then history scripts issuer =
        closed-holds second pending true (applied rules place state.values (Approve pending.purchase)) then history scripts issuer
        (counted now at pending.purchase)
        (λ meter l. approved-moves now ruled.good place at stands state.values meter l pending.purchase small)
        (λ meter l. counted_fair now at pending.purchase (cap_of meter) meter)
        (λ meter. rw e (ap (λ purchase. counted now at purchase meter) purchase-is))

    verified_holds : (approves : Bool) → is_unable second.code ≡ false → eqb second.issuer 1 ≡ true → (then : Date) (history : History) (scripts : Scripts) (issuer : Issuer)
        → Closes (closed rules state.atc pending approves
        (ordered_values rules place state.values pending.purchase (update_byte second.csu)) then history scripts issuer)
    unfolding closed
    verified_holds approves u e then history scripts issuer =
        closed-holds second pending approves (ordered_values rules place state.values pending.purchase (update_byte second.csu)) then history scripts issuer
        (ordered now at pending.purchase second.csu)
        (λ meter l.
        ordered-moves now ruled.good place at stands state.values meter l pending.purchase small second.csu)
        (λ meter l.
        ordered_fair now at pending.purchase (cap_of meter) meter second.csu (upper-within now ruled.good place at stands meter l))
        (λ meter. rw (u, e) (ap (λ purchase. ordered now at purchase second.csu meter) purchase-is))

    kept-holds : (approves : Bool) → is_unable second.code ≡ false → eqb second.issuer 1 ≡ false → (then : Date) (history : History) (scripts : Scripts) (issuer : Issuer)
        → Closes (closed rules state.atc pending approves state.values then history scripts issuer)
    unfolding closed
    kept-holds approves u e then history scripts issuer =
        closed-holds second pending approves state.values then history scripts issuer (λ meter. []) (λ meter l. refl) (λ meter l. nothing) (λ meter. rw (u, e))

    performed_holds : Closes (second_performed rules state second pending)
    unfolding second_performed unable_performed verified_performed failed_performed absent_performed
    performed_holds = by (is_unable second.code) refl (eqb second.issuer 1) refl (eqb second.issuer 2) where
      by : (u : Bool) → is_unable second.code ≡ u → (v : Bool) → eqb second.issuer 1 ≡ v → (f : Bool)
          → Closes (cond u (unable_performed rules state second.requested pending)
          (cond v (verified_performed rules state second pending)
          (cond f (failed_performed rules state pending) (absent_performed rules state second.requested pending))))
      by true u v e f =
          unable-holds (not (eqb second.requested 0 || meets_mask (unable_bits rules state pending) (profile_at rules place).masks.default)) u _ _ _ _
      by false u true e f = verified_holds _ u e _ _ _ _
      by false u false e true = kept-holds _ u e _ _ _ _
      by false u false e false = kept-holds _ u e _ _ _ _

  -- ---- a script, which leaves every profile where it is

  script_agrees : (ws : List Write) (wanted : ℕ) (phase : Phase) → Agrees now wanted phase → Agrees (with_writes now ws) wanted phase
  script_agrees ws wanted Idle agrees = tt
  script_agrees ws wanted (Opened place) agrees = record { there = agrees.there; offset = place-written now ws wanted ∙ agrees.offset }
  script_agrees ws wanted (Asked pending) agrees = record { there = agrees.there; offset = place-written now ws wanted ∙ agrees.offset }

  script-holds : (result : ℕ) (template : List ℕ) → Bytes template → read_template template ≡ Ok tt
      → Holding setup (after sitting (ScriptCommand result template) (script_performed state template (eqb result 1)))
  unfolding named dealing in_force ledger script_performed ran_of
  script-holds result template bytes sound =
      let agree = template_agrees result template bytes sound (remembered setup log) state.scripts ruled.scripts-are in
      let wrote = (trial_of result template (remembered setup log)).writes in
      record {
        agrees = script_agrees wrote (named log) state.phase holding.agrees;
        values =
            λ meter l.
            ap (λ ws. value_of (values_after state.values ws) meter) agree.writes
            ∙ all-put (start_of setup meter) meter l wrote agree.in_range_lem state.values ruled.four (ledger setup meter log) (holding.values meter l);
      }

  pub did_holds : {command : Message} {outcome : Outcome} → IsSpoken command → Did rules state command outcome
      → Holding setup (after sitting command outcome)
  did_holds {command} spoken (refused_it r wrote) = refused-holds command r
  did_holds spoken (started_it start place holds) = start-taken start place (stands_at_lem now ruled.good place (profile_of start.chosen) holds)
  did_holds spoken (took_first first place is type small day) =
      first_taken_lem first small day place (subst (Agrees now (named log)) is holding.agrees)
  did_holds spoken (took_second second pending is type issuer) =
      let remembers = subst (Remembers (bought setup log)) is deals.remembers in
      performed_holds second pending (subst (Agrees now (named log)) is holding.agrees) remembers.0
      (subst (λ (purchase : Purchase). purchase.amount.0 ≤ max) (sym remembers.0) remembers.1)
  did_holds spoken (took_script result template sound wrote) = script-holds result template spoken sound

module _ (setup : Setup) where
  fresh : (meter : Meter) → IsMeter meter → value_of (fresh_in setup.bytes setup.tail).values meter ≡ start_of setup meter
  unfolding fresh_in
  fresh (accumulator i) l = ap (λ (a : AccumulatorAmount). a.0) (four-at (value_in setup.bytes) (record { 0 = 0 }) i l) ∙ ap (λ at. number_at setup at 8) (omega arith)
  fresh (counter i) l = four-at (λ j. byte_at setup (48 + j)) 0 i l
  fresh (cyclic i) l = ap (λ (a : AccumulatorAmount). a.0) (two_at (amount_in setup.tail) (record { 0 = 0 }) i l) ∙ ap (λ at. tail_number setup at 8) (omega arith)

  pub begin_holds : AcceptedSetup setup → Holding setup (sat setup [])
  unfolding run fresh_state read_setup ledger
  begin_holds good =
      rw (all_fit_lem good)
      (record { agrees = tt; values = λ meter l. fresh meter l ∙ starts (cap_of meter) (start_of setup meter) (start-within setup good meter l) })

  pub always : AcceptedSetup setup → (commands : List Message) → Spoken commands → Holding setup (sat setup commands)
  always good commands spoken =
      (ruled_keeps setup good (λ sitting. Deals setup sitting × Holding setup sitting)
      (λ sitting ruled h command s.
      let step = did_by setup sitting ruled command in
      (did_deals setup sitting ruled h.0 step, did_holds setup sitting ruled h.0 h.1 s step))
      (begin_deals setup good, begin_holds good) commands spoken).1

  -- DEMAND 3, THE TOTAL
  pub total : AcceptedSetup setup → (commands : List Message) → Spoken commands → (meter : Meter) → IsMeter meter
      → value_of (sat setup commands).state.values meter ≡ owed (cap_of meter) (start_of setup meter) (ledger setup meter (sat setup commands).log)
  total good commands spoken meter l = (always good commands spoken).values meter l
