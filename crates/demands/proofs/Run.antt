-- Over a list of commands: what each command keeps is kept; the rules in force are those of the set-up in force, and what the card keeps of scripts
-- is what the auditor remembers; and a card that reads its lent words answers as one that reads the set-up's bytes. Assumes nothing.
use mathlib.Core.Path.{◌≡◌, refl, sym, ap, ap₂, ◌∙◌, subst}
use mathlib.Core.Bool.{not}
use mathlib.Core.List.{List, [], ◌∷◌}
use Prim.Native.Nat.{ℕ, zero, suc, ◌≤◌}
use native.Mathlib.Omega.{arith}
use lib.Dec.{eqb}
use lib.ListN.{length}
use Rattle.rules.specs.Word.{word_count}
use Rattle.setup.specs.Setup.{fresh_in, read_setup}
use Rattle.setup.proofs.Faithful.{faithful}
use Rattle.element.specs.declared.Write.{Write}
use Rattle.script.specs.Script.{rules_after}
use Rattle.auditor.specs.Template.{InRange}
use Rattle.fresh.specs.Fresh.{fresh_state}
use Rattle.card.specs.Message.{Message, message_step}
use Rattle.demands.specs.Setup.{Setup, byte_at, AcceptedSetup}
use Rattle.demands.specs.Conversation.{Exchange, Sitting, outcome_of, told, run, sat_by, rules_written, rules_by, sat, sat_over, IsSpoken, Spoken}
use Rattle.demands.specs.Scripts.{remembered, wrote_by}
use Rattle.demands.specs.Audit.{newest, with_writes, in_force}
use Rattle.demands.proofs.Step.{Did, did}
use Rattle.demands.proofs.Written.{given, after-writes}
use Rattle.demands.proofs.Bytes.{fits, all_fit_lem, required-is}
use Rattle.demands.proofs.Scripts.{Keeps, did_remember, did_write, did_in_range, fresh_keeps}
use Rattle.demands.proofs.Puts.{Four, did_four}

pub run_keeps : (P : Sitting → Type 0) → ((sitting : Sitting) → P sitting → (command : Message) → P (told sitting command))
    → (sitting : Sitting) → P sitting → (commands : List Message) → P (run sitting commands)
unfolding run
run_keeps P keeps sitting h [] = h
run_keeps P keeps sitting h (command ∷ commands) = run_keeps P keeps (told sitting command) (keeps sitting h command) commands

-- the same of commands whose templates are bytes
spoken_keeps : (P : Sitting → Type 0) → ((sitting : Sitting) → P sitting → (command : Message) → IsSpoken command → P (told sitting command))
    → (sitting : Sitting) → P sitting → (commands : List Message) → Spoken commands → P (run sitting commands)
unfolding run
spoken_keeps P keeps sitting h [] spoken = h
spoken_keeps P keeps sitting h (command ∷ commands) spoken =
    spoken_keeps P keeps (told sitting command) (keeps sitting h command spoken.0) commands spoken.1

-- what no script writes stays: the set-up's bytes, among them the PIN's, the tail with the cyclic accumulators, and the family's
module _ {A : Type 0} (part : Setup → A) (unwritten : (before : Setup) (writes : List Write) → part (with_writes before writes) ≡ part before) where
  stays : (setup : Setup) (log : List Exchange) → part (in_force setup log) ≡ part setup
  unfolding in_force
  stays setup [] = refl
  stays setup (exchange ∷ older) =
      unwritten (in_force setup older) (wrote_by exchange.command exchange.answer (remembered setup older)) ∙ stays setup older

pub tail_stays : (setup : Setup) (log : List Exchange) → (in_force setup log).tail ≡ setup.tail
tail_stays = stays (λ setup. setup.tail) (λ before writes. refl)

pub family_stays : (setup : Setup) (log : List Exchange) → (in_force setup log).family ≡ setup.family
family_stays = stays (λ setup. setup.family) (λ before writes. refl)

pub pin_stays : (setup : Setup) (log : List Exchange) → byte_at (in_force setup log) 1 ≡ byte_at setup 1
pin_stays = stays (λ setup. byte_at setup 1) (λ before writes. refl)

newest_in_range : (writes older : List Write) → InRange writes → InRange older → InRange (newest writes older)
unfolding InRange
newest_in_range [] older new old = old
newest_in_range (write ∷ writes) older new old = newest_in_range writes (write ∷ older) new.1 (new.0, old)

-- authentication is required, or it is not
pub not_required : (b : ℕ) → b ≤ 1 → not (eqb b 1) ≡ eqb b 0
not_required zero l = refl
not_required (suc zero) l = refl
not_required (suc (suc b)) l = absurd (omega arith)

-- the rules in force are those of the set-up in force, which is one that is accepted; and what is kept of scripts is what is remembered of them
pub record Ruled (setup : Setup) (sitting : Sitting) : Type 0 where
  pub rules-are : sitting.rules ≡ rules_by (in_force setup sitting.log)
  pub good : AcceptedSetup (in_force setup sitting.log)
  pub scripts-are : Keeps (remembered setup sitting.log) sitting.state.scripts
  pub four : Four sitting.state.values

begin_ruled : (setup : Setup) → AcceptedSetup setup → Ruled setup (sat setup [])
unfolding run in_force fresh_state read_setup fresh_in
begin_ruled setup good = rw (all_fit_lem good) (record { rules-are = refl; good = good; scripts-are = fresh_keeps setup; four = refl })

-- what a command did, by the set-up in force
pub did_by : (setup : Setup) (sitting : Sitting) → Ruled setup sitting → (command : Message)
    → Did (rules_by (in_force setup sitting.log)) sitting.state command (outcome_of sitting command)
did_by setup sitting ruled command =
    let rules = rules_by (in_force setup sitting.log) in
    subst (λ these. Did rules sitting.state command (message_step these sitting.state command)) (sym ruled.rules-are) (did rules sitting.state command)

module _ (setup : Setup) (sitting : Sitting) (ruled : Ruled setup sitting) where
  abbrev now : Setup
  now = in_force setup sitting.log

  requires : not (rules_by now).required ≡ eqb (byte_at setup 2) 0
  requires =
      ap not (required-is now)
      ∙ not_required (byte_at now 2) (fits ruled.good).required
      ∙ ap (λ b. eqb b 0) (stays (λ s. byte_at s 2) (λ before writes. refl) setup sitting.log)

  told_ruled : (command : Message) → IsSpoken command → Ruled setup (told sitting command)
  unfolding in_force remembered
  told_ruled command spoken =
      let good = ruled.good in
      let then = did_by setup sitting ruled command in
      let wrote = did_write setup (rules_by now) requires sitting.state sitting.log ruled.scripts-are spoken then in
      let writes = wrote_by command (outcome_of sitting command).answer (remembered setup sitting.log) in
      record {
        rules-are = ap₂ rules_after ruled.rules-are wrote ∙ sym (after-writes (given now) writes now.written);
        good =
            record {
              bytes = good.bytes;
              tail-bytes = good.tail-bytes;
              family-bytes = good.family-bytes;
              taken = good.taken;
              tail-taken = good.tail-taken;
              family-taken = good.family-taken;
              written-taken =
                  newest_in_range writes now.written
                  (did_in_range setup (rules_by now) requires sitting.state sitting.log ruled.scripts-are spoken then)
                  good.written-taken;
            };
        scripts-are = did_remember setup (rules_by now) requires sitting.state sitting.log ruled.scripts-are spoken then;
        four = did_four (rules_by now) sitting.state ruled.four then;
      }

-- what each command keeps under the rules in force is kept
pub ruled_keeps : (setup : Setup) → AcceptedSetup setup → (P : Sitting → Type 0)
    → ((sitting : Sitting) → Ruled setup sitting → P sitting → (command : Message) → IsSpoken command → P (told sitting command))
    → P (sat setup []) → (commands : List Message) → Spoken commands → P (sat setup commands)
unfolding run
ruled_keeps setup good P keeps h commands spoken =
    (spoken_keeps (λ sitting. Ruled setup sitting × P sitting)
    (λ sitting both command s. (told_ruled setup sitting both.0 command s, keeps sitting both.0 both.1 command s))
    _ (begin_ruled setup good, h) commands spoken).1

pub always_ruled : (setup : Setup) → AcceptedSetup setup → (commands : List Message) → Spoken commands → Ruled setup (sat setup commands)
unfolding run
always_ruled setup good commands spoken = spoken_keeps (Ruled setup) (told_ruled setup) _ (begin_ruled setup good) commands spoken

-- OVER THE WORDS THAT A CARD WAS LENT, whatever they held, the conversation is the one over the set-up's bytes
pub heard-over-words : (setup : Setup) → AcceptedSetup setup → (words : List ℕ) → length words ≡ word_count → (commands : List Message)
    → sat_over words setup commands ≡ sat setup commands
heard-over-words setup good words size commands =
    ap (λ rules. sat_by (rules_written rules setup.written) setup commands)
    (faithful setup.bytes setup.tail setup.family good.bytes good.tail-bytes good.family-bytes setup.syllabus setup.unnamed words size
    (all_fit_lem good))
