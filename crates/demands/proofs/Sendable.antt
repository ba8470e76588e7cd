-- The IAD of every answer is one that writing takes, so that what goes out is never left blank. Assumes nothing.
use mathlib.Core.Path.{◌≡◌, sym, ap, subst}
use mathlib.Core.Bool.{Bool, true, false}
use mathlib.Core.List.{List}
use Prim.Native.Nat.{ℕ, zero, suc, ◌+◌, ◌/◌, ◌%◌, ◌≤◌, ◌<◌}
use native.Mathlib.Omega.{arith}
use lib.ListN.{replicate}
use Rattle.iad.specs.declared.Iad.{Iad}
use Rattle.iad.specs.Iad.{written}
use Rattle.readback.specs.WellFormed.{Types, WellFormed, Writable, OfBytes, LaidOut}
use Rattle.readback.proofs.Readable.{spoken}
use Rattle.readback.proofs.Leaves.{laid_out, filled}
use Rattle.card.specs.Message.{Message, StartCommand, FirstCommand, SecondCommand, ScriptCommand}
use Rattle.state.specs.declared.Answer.TheVariants.{Given}
use Rattle.state.specs.declared.Kind.{Kind}
use Rattle.state.specs.declared.Kind.TheVariants.{Aac, Tc, Arqc}
use Rattle.card.specs.Card.{answer_number}
use Rattle.demands.specs.Setup.{Setup, byte_at, AcceptedSetup}
use Rattle.purchase.specs.Meter.{Meter, accumulator, counter}
use Rattle.demands.specs.Ledger.{owed}
use Rattle.demands.specs.Conversation.{Exchange, sat, next, Spoken}
use Rattle.demands.specs.Scripts.{Remembered}
use Rattle.demands.specs.Audit.{max, in_force, audited}
use Rattle.demands.specs.Due.{InKind}
use Rattle.demands.specs.Rows.{InSetup}
use Rattle.demands.specs.Verification.{type_of, sent_of, bit, any_of, Issuing, Verifies, Sends}
use Rattle.demands.specs.Decision.{above_lower}
use Rattle.purchase.specs.declared.Purchase.{Purchase}
use Rattle.state.specs.declared.History.{History}
use Rattle.demands.proofs.Run.{always_ruled, pin_stays}
use Rattle.demands.proofs.Bytes.{fits}
use Rattle.demands.proofs.Scripts.{count-below}
use Rattle.demands.proofs.Refusal.{in_kind}
use Rattle.demands.proofs.Answers.{gives}

type_below : (kind : Kind) → type_of kind ≤ 2
type_below Aac = omega arith
type_below Tc = omega arith
type_below Arqc = omega arith

sent-small : (setup : Setup) (log : List Exchange) (n : ℕ) → sent_of (audited setup log) accumulator n ≤ max
unfolding owed
sent-small setup log zero = omega arith
sent-small setup log (suc i) = omega arith

sent-within : (setup now : Setup) (profile number : ℕ) (log : List Exchange) (iad : Iad) → Sends now profile number (audited setup log) iad
    → iad.accumulator.0 ≤ max
sent-within setup now profile number log iad sent =
    subst (λ n. n ≤ max) (sym sent.accumulator-sent) (sent-small setup log (byte_at now (profile + 104)))

count_small : (setup : Setup) (log : List Exchange) (n : ℕ) → sent_of (audited setup log) counter n < 256
unfolding owed
count_small setup log zero = omega arith
count_small setup log (suc i) = omega arith

bit-small : (b : Bool) → bit b ≤ 1
bit-small true = omega arith
bit-small false = omega arith

-- what is sent of bytes are bytes
sent-bytes : (setup then now : Setup) (profile : ℕ) (purchase : Purchase) (value : Meter → ℕ) (history : History) (scripts : Remembered)
    (second first : ℕ) (issuing : Issuing) (number : ℕ) (log : List Exchange) (iad : Iad) → AcceptedSetup now → byte_at then 1 ≤ 15 → second ≤ 2
    → scripts.count < 16 → Verifies then profile purchase value history scripts second first issuing iad.cvr
    → Sends now profile number (audited setup log) iad → OfBytes iad
sent-bytes setup then now profile purchase value history scripts second first issuing number log iad good pin small few cvr sent =
    record {
      key = subst (λ n. n < 256) (sym sent.key) (good.bytes.below 0);
      cvr1 = omega (arith, cvr.byte1_b87);
      cvr2 = omega (arith, cvr.byte2_high);
      cvr3 = omega (arith, cvr.byte3_b8, bit-small (any_of counter (above_lower then profile purchase value)));
      cvr4 = omega (arith, cvr.byte4_b85);
      first = subst (λ n. n < 256) (sym sent.first-sent) (count_small setup log (byte_at now (profile + 105)));
      second = subst (λ n. n < 256) (sym sent.second-sent) (count_small setup log (byte_at now (profile + 106)));
    }

-- no type field above 10 is 11
types-fine : (byte : ℕ) → byte / 64 ≤ 2 → byte / 16 % 4 ≤ 2 → Types byte
types-fine byte second first = record { second = λ least most. omega arith; first = omega arith }

-- what is sent under a profile of the set-up
sendable : (setup : Setup) → AcceptedSetup setup → (number : ℕ) → InSetup setup number → (iad : Iad) → iad.profile ≡ number
    → iad.accumulator.0 ≤ max → Types iad.cvr.byte1 → iad.cvr.byte5 ≡ 0 → Writable iad
sendable setup good number known iad its small types fifth =
    let ranges = (fits good).profiles known.index known.there in
    record {
      amount = small;
      types = types;
      fifth = fifth;
      profile = record { least = omega (arith, ranges.number-least, known.its); most = omega (arith, ranges.number-most, known.its) };
    }

module _ (setup : Setup) (good : AcceptedSetup setup) (commands : List Message) (spoken-so-far : Spoken commands) where
  in_range_lem : AcceptedSetup (in_force setup (sat setup commands).log)
  in_range_lem = (always_ruled setup good commands spoken-so-far).good

  pin_in_range : (log : List Exchange) → byte_at (in_force setup log) 1 ≤ 15
  pin_in_range log = subst (λ pin. pin ≤ 15) (sym (pin_stays setup log)) (fits good).pin

  sent-fine : (command : Message) (kind : Kind) (atc : ℕ) (iad : Iad) → (next setup commands command).answer ≡ Given kind atc iad
      → Writable iad × OfBytes iad
  sent-fine (StartCommand start) kind atc iad e =
      let sitting = sat setup commands in
      absurd (subst (InKind (StartCommand start)) e (in_kind sitting.rules sitting.state (StartCommand start) (ap answer_number e)))
  sent-fine (ScriptCommand result template) kind atc iad e =
      let sitting = sat setup commands in
      let script = ScriptCommand result template in
      absurd (subst (InKind script) e (in_kind sitting.rules sitting.state script (ap answer_number e)))
  sent-fine (FirstCommand first) kind atc iad e =
      let given = gives setup good commands spoken-so-far (FirstCommand first) kind atc iad e in
      let cvr = given.verifies in
      let sent = given.sends in (
        sendable _ in_range_lem _ given.known iad sent.profile-number (sent-within setup _ _ _ _ iad sent)
            (types-fine _ (omega (arith, cvr.byte1_b87)) (omega (arith, cvr.byte1_b65, type_below kind))) cvr.byte5_all,
        sent-bytes setup _ _ _ _ _ _ _ _ _ _ _ _ iad in_range_lem (pin_in_range _) (omega arith) (count-below setup _) cvr sent,
      )
  sent-fine (SecondCommand second) kind atc iad e =
      let given = gives setup good commands spoken-so-far (SecondCommand second) kind atc iad e in
      let cvr = given.verifies in
      let sent = given.sends in (
        sendable _ in_range_lem _ given.known iad sent.profile-number (sent-within setup _ _ _ _ iad sent)
            (types-fine _ (omega (arith, cvr.byte1_b87, type_below kind)) (omega (arith, cvr.byte1_b65))) cvr.byte5_all,
        sent-bytes setup _ _ _ _ _ _ _ _ _ _ _ _ iad in_range_lem (pin_in_range _) (type_below kind) (count-below setup _) cvr sent,
      )

  -- THE IAD OF EVERY ANSWER CAN BE WRITTEN, its fields are bytes, and the 32 bytes that go out hold them and are well formed
  pub written_out : (command : Message) (kind : Kind) (atc : ℕ) (iad : Iad) → (next setup commands command).answer ≡ Given kind atc iad
      → Writable iad × OfBytes iad × LaidOut iad (written iad (replicate 32 0)) × WellFormed (written iad (replicate 32 0))
  written_out command kind atc iad e =
      let (can, small) = sent-fine command kind atc iad e in
      let front = (laid_out iad (replicate 32 0) can (omega arith)).front in
      let whole = filled iad _ can front in
      let lies = subst (LaidOut iad) (sym whole) front in
      (can, small, lies, spoken _ iad can lies)
