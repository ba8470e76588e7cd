-- Over every list of commands: what the card keeps of scripts is what the auditor remembers, and how long it remembers a failure; and what an accepted
-- script leaves as it was. Assumes nothing.
use mathlib.Core.Path.{◌≡◌, refl, ap, ◌∙◌}
use mathlib.Core.Bool.{Bool, true, false, cond, ◌&&◌, ◌||◌, or-true, and-false}
use mathlib.Core.List.{List, [], ◌∷◌, ◌++◌}
use Prim.Native.Nat.{ℕ}
use borrow.Author.Tests.{ne_eqb}
use Rattle.element.specs.declared.Write.{Write}
use Rattle.element.specs.declared.Write.TheVariants.{Value, AccumulatorLimits, CounterLimits}
use Rattle.command.specs.declared.Second.{Second}
use Rattle.state.specs.declared.Answer.{Answer}
use Rattle.state.specs.declared.Answer.TheVariants.{Done}
use Rattle.card.specs.Message.{Message, StartCommand, FirstCommand, SecondCommand, ScriptCommand}
use Rattle.purchase.specs.Meter.{Meter, accumulator, counter, cyclic}
use Rattle.demands.specs.Setup.{Setup, AcceptedSetup}
use Rattle.demands.specs.Ledger.{owed}
use Rattle.demands.specs.Conversation.{Exchange, sat, Spoken, is_accepted}
use Rattle.demands.specs.Scripts.{Remembered, trial_of, with_trial, clears, remembered_by, remembered}
use Rattle.demands.specs.Audit.{Limits, accumulator_limits, counter_limits, limits_of, cap_of, start_of, named, bought, last_date, dealing, newest, with_writes, in_force}
use Rattle.demands.specs.Audit.{place_by, put_by, all_put, ledger, audited}
use Rattle.demands.specs.Past.{past, atc_by}
use Rattle.demands.specs.Due.{due}
use Rattle.demands.proofs.Written.{place-written}
use Rattle.demands.proofs.Scripts.{Keeps}
use Rattle.demands.proofs.Run.{always_ruled}

-- WHAT A CARD KEEPS OF SCRIPTS is what the auditor remembers: the count, that a command failed, and that one failed since the last accepted Start
pub kept-is : (setup : Setup) → AcceptedSetup setup → (commands : List Message) → Spoken commands
    → Keeps (remembered setup (sat setup commands).log) (sat setup commands).state.scripts
kept-is setup good commands spoken = (always_ruled setup good commands spoken).scripts-are

-- ---- a failure

-- what clears it: a Second that does, where no command has failed since the last accepted Start
abbrev pub ClearedBy : Setup → Remembered → Message → Answer → Type 0
ClearedBy setup before (StartCommand start) answer = ⊥
ClearedBy setup before (FirstCommand first) answer = ⊥
ClearedBy setup before (SecondCommand second) answer = (clears setup second answer ≡ true) × (before.here ≡ false)
ClearedBy setup before (ScriptCommand result template) answer = ⊥

-- none of the newer exchanges does
abbrev pub Uncleared : Setup → (newer older : List Exchange) → Type 0
Uncleared setup [] older = Unit
Uncleared setup (exchange ∷ newer) older =
    (ClearedBy setup (remembered setup (newer ++ older)) exchange.command exchange.answer → ⊥) × Uncleared setup newer older

module _ (setup : Setup) where
  abbrev done-script : (result : ℕ) (template : List ℕ) → Exchange
  done-script result template = record { command = ScriptCommand result template; answer = Done }

  -- A COMMAND THAT FAILS in a script that is taken sets both marks
  pub failure_sets : (log : List Exchange) (result : ℕ) (template : List ℕ) → (trial_of result template (remembered setup log)).fails ≡ true
      → ((remembered setup (done-script result template ∷ log)).failed ≡ true) × ((remembered setup (done-script result template ∷ log)).here ≡ true)
  unfolding remembered
  failure_sets log result template fails = (
    ap (λ b. (remembered setup log).failed || b) fails ∙ or-true (remembered setup log).failed,
    ap (λ b. (remembered setup log).here || b) fails ∙ or-true (remembered setup log).here,
  )

  -- IT IS REMEMBERED over every list of exchanges of which none clears it
  still_failed : (before : Remembered) (command : Message) (answer : Answer) → before.failed ≡ true → (ClearedBy setup before command answer → ⊥)
      → (remembered_by setup command answer before).failed ≡ true
  still_failed before (StartCommand start) answer failed uncleared = by (is_accepted answer) where
    by : (b : Bool) → (cond b (record { count = before.count; failed = before.failed; here = false }) before).failed ≡ true
    by true = failed
    by false = failed
  still_failed before (FirstCommand first) answer failed uncleared = failed
  still_failed before (SecondCommand second) answer failed uncleared = by (clears setup second answer) refl before.here refl where
    by : (b : Bool) → clears setup second answer ≡ b → (h : Bool) → before.here ≡ h
        → (cond b (record { count = before.count; failed = before.failed && h; here = h }) before).failed ≡ true
    by true e true here = rw failed
    by true e false here = absurd (uncleared (e, here))
    by false e h here = failed
  still_failed before (ScriptCommand result template) answer failed uncleared = by (is_accepted answer) where
    tried : Bool
    tried = (trial_of result template before).fails

    by : (b : Bool) → (cond b (with_trial before (trial_of result template before)) before).failed ≡ true
    by true = rw failed
    by false = failed

  pub failure_lasts : (newer older : List Exchange) → (remembered setup older).failed ≡ true → Uncleared setup newer older
      → (remembered setup (newer ++ older)).failed ≡ true
  unfolding remembered
  failure_lasts [] older failed uncleared = failed
  failure_lasts (exchange ∷ newer) older failed uncleared =
      still_failed (remembered setup (newer ++ older)) exchange.command exchange.answer (failure_lasts newer older failed uncleared.1) uncleared.0

  -- AND FORGOTTEN when one does
  pub failure_clears : (log : List Exchange) (second : Second) (answer : Answer) → clears setup second answer ≡ true → (remembered setup log).here ≡ false
      → (remembered setup (record { command = SecondCommand second; answer = answer } ∷ log)).failed ≡ false
  unfolding remembered
  failure_clears log second answer clear here = rw (clear, here) (and-false (remembered setup log).failed)

-- ---- what a script that is taken leaves: by `due-is`, `history`, `atc`, `last-date`, `total` and `gives` that is so of the card

-- writes of other limits
abbrev pub OtherLimits : Meter → Write → Type 0
OtherLimits (accumulator i) (Value slot amount) = Unit
OtherLimits (accumulator i) (AccumulatorLimits slot lower upper) = slot ≡ i → ⊥
OtherLimits (accumulator i) (CounterLimits slot lower upper) = Unit
OtherLimits (counter i) (Value slot amount) = Unit
OtherLimits (counter i) (AccumulatorLimits slot lower upper) = Unit
OtherLimits (counter i) (CounterLimits slot lower upper) = slot ≡ i → ⊥
OtherLimits (cyclic i) write = Unit

abbrev pub AllOther : Meter → List Write → Type 0
AllOther meter [] = Unit
AllOther meter (write ∷ writes) = OtherLimits meter write × AllOther meter writes

accumulator_unlimited : (i : ℕ) (given : Limits) (write : Write) (older : List Write) → OtherLimits (accumulator i) write
    → accumulator_limits i (write ∷ older) given ≡ accumulator_limits i older given
accumulator_unlimited i given (Value slot amount) older other = refl
accumulator_unlimited i given (AccumulatorLimits slot lower upper) older other =
    ap (λ b. cond b (record { lower = lower.0; upper = upper.0 }) (accumulator_limits i older given)) (ne_eqb slot i other)
accumulator_unlimited i given (CounterLimits slot lower upper) older other = refl

counter_unlimited : (i : ℕ) (given : Limits) (write : Write) (older : List Write) → OtherLimits (counter i) write
    → counter_limits i (write ∷ older) given ≡ counter_limits i older given
counter_unlimited i given (Value slot amount) older other = refl
counter_unlimited i given (AccumulatorLimits slot lower upper) older other = refl
counter_unlimited i given (CounterLimits slot lower upper) older other =
    ap (λ b. cond b (record { lower = lower; upper = upper }) (counter_limits i older given)) (ne_eqb slot i other)

accumulators_unlimited : (i : ℕ) (given : Limits) (writes older : List Write) → AllOther (accumulator i) writes
    → accumulator_limits i (newest writes older) given ≡ accumulator_limits i older given
accumulators_unlimited i given [] older others = refl
accumulators_unlimited i given (write ∷ writes) older others =
    accumulators_unlimited i given writes (write ∷ older) others.1 ∙ accumulator_unlimited i given write older others.0

counters_unlimited : (i : ℕ) (given : Limits) (writes older : List Write) → AllOther (counter i) writes
    → counter_limits i (newest writes older) given ≡ counter_limits i older given
counters_unlimited i given [] older others = refl
counters_unlimited i given (write ∷ writes) older others =
    counters_unlimited i given writes (write ∷ older) others.1 ∙ counter_unlimited i given write older others.0

limits-written : (setup : Setup) (writes : List Write) (profile : ℕ) (meter : Meter) → AllOther meter writes
    → limits_of (with_writes setup writes) profile meter ≡ limits_of setup profile meter
limits-written setup writes profile (accumulator i) others = accumulators_unlimited i _ writes setup.written others
limits-written setup writes profile (counter i) others = counters_unlimited i _ writes setup.written others
limits-written setup writes profile (cyclic i) others = refl

-- a conversation goes on: what is due, the profile and the purchase of the transaction, the last date, history and ATC, the values of counters and
-- cyclic accumulators, the set-up's bytes; and the value of an accumulator to which nothing was written, the limits of what got none
pub record Leaves (setup : Setup) (writes : List Write) (before after : List Exchange) : Type 0 where
  pub due_stays : due after ≡ due before
  pub profile_stays : named after ≡ named before
  pub place_stays : place_by setup after ≡ place_by setup before
  pub purchase_stays : bought setup after ≡ bought setup before
  pub last_date_stays : last_date setup after ≡ last_date setup before
  pub history_stays : past setup after ≡ past setup before
  pub atc_stays : atc_by setup after ≡ atc_by setup before
  pub counters_stay : (i : ℕ) → audited setup after (counter i) ≡ audited setup before (counter i)
  pub cyclic_stay : (i : ℕ) → audited setup after (cyclic i) ≡ audited setup before (cyclic i)
  pub accumulators_stay : (i : ℕ) → all_put writes (accumulator i) ≡ [] → audited setup after (accumulator i) ≡ audited setup before (accumulator i)
  pub bytes_stay : (in_force setup after).bytes ≡ (in_force setup before).bytes
  pub tail_stays : (in_force setup after).tail ≡ (in_force setup before).tail
  pub family_stays : (in_force setup after).family ≡ (in_force setup before).family
  pub limits_stay : (profile : ℕ) (meter : Meter) → AllOther meter writes
      → limits_of (in_force setup after) profile meter ≡ limits_of (in_force setup before) profile meter

none-put : (writes : List Write) (meter : Meter) → ((write : Write) → put_by write meter ≡ []) → all_put writes meter ≡ []
none-put [] meter none = refl
none-put (write ∷ writes) meter none = simp (none-put writes meter none, none write)

-- WHAT A SCRIPT THAT IS TAKEN LEAVES, whatever its template
pub script_leaves : (setup : Setup) (log : List Exchange) (result : ℕ) (template : List ℕ)
    → Leaves setup (trial_of result template (remembered setup log)).writes log (done-script setup result template ∷ log)
unfolding due named dealing in_force past atc_by ledger
script_leaves setup log result template =
    let now = in_force setup log in
    record {
      due_stays = refl;
      profile_stays = refl;
      place_stays = place-written now wrote (named log);
      purchase_stays = refl;
      last_date_stays = refl;
      history_stays = refl;
      atc_stays = refl;
      counters_stay = λ i. unput (counter i) (none-put wrote (counter i) (no_counter i));
      cyclic_stay = λ i. unput (cyclic i) (none-put wrote (cyclic i) (no_cyclic i));
      accumulators_stay = λ i. unput (accumulator i);
      bytes_stay = refl;
      tail_stays = refl;
      family_stays = refl;
      limits_stay = limits-written now wrote;
    }
  where
    wrote : List Write
    wrote = (trial_of result template (remembered setup log)).writes

    unput : (meter : Meter) → all_put wrote meter ≡ []
        → owed (cap_of meter) (start_of setup meter) (all_put wrote meter ++ ledger setup meter log)
        ≡ owed (cap_of meter) (start_of setup meter) (ledger setup meter log)
    unput meter none = ap (λ entries. owed (cap_of meter) (start_of setup meter) (entries ++ ledger setup meter log)) none

    no_counter : (i : ℕ) (write : Write) → put_by write (counter i) ≡ []
    no_counter i (Value slot amount) = refl
    no_counter i (AccumulatorLimits slot lower upper) = refl
    no_counter i (CounterLimits slot lower upper) = refl

    no_cyclic : (i : ℕ) (write : Write) → put_by write (cyclic i) ≡ []
    no_cyclic i (Value slot amount) = refl
    no_cyclic i (AccumulatorLimits slot lower upper) = refl
    no_cyclic i (CounterLimits slot lower upper) = refl
