-- Two cards alike but for their family (request Thirteen): the CPACE one closes no slot and checks no cashback. What is said to both, and how they
-- then stand.
use Rattle.std.specs.Prelude.{◌≡◌, Bool, List, [], ◌∷◌, ℕ, suc, ◌≤◌, Option}
use Rattle.cpace.specs.declared.Cvm.{Cvm}
use Rattle.rules.specs.declared.Place.{Place}
use Rattle.command.specs.declared.First.{First}
use Rattle.command.specs.declared.Second.{Second}
use Rattle.card.specs.Message.{Message, StartCommand, FirstCommand, SecondCommand, ScriptCommand}
use Rattle.purchase.specs.declared.Purchase.{Purchase}
use Rattle.state.specs.declared.Answer.{Answer}
use Rattle.state.specs.declared.Pending.{Pending}
use Rattle.state.specs.declared.Phase.{Phase}
use Rattle.state.specs.declared.Phase.TheVariants.{Idle, Opened, Asked}
use Rattle.state.specs.declared.State.{State}
use Rattle.demands.specs.Setup.{Setup, family_byte, IsCpa}
use Rattle.demands.specs.Conversation.{Exchange, Sitting}
use Rattle.selection.specs.declared.Selected.{Selected}

-- alike but for the tail of version 05: the one has none, and of the other every control and every cashback switch, behind the family byte, is 0
pub record AlikeSetups (cpa cpace : Setup) : Type 0 where
  pub bytes : cpa.bytes ≡ cpace.bytes
  pub tail : cpa.tail ≡ cpace.tail
  pub syllabus : cpa.syllabus ≡ cpace.syllabus
  pub none : IsCpa cpa
  pub zeros : (i : ℕ) → family_byte cpace (suc i) ≡ 0
  pub written : cpa.written ≡ cpace.written

-- the same with another CVM and another cashback
abbrev pub first_with : Cvm → (cashback : Bool) → First → First
first_with cvm cashback first =
    record {
      amount = first.amount;
      currency = first.currency;
      requested = first.requested;
      terminal = first.terminal;
      when = first.when;
      cvm = cvm;
      cashback = cashback;
    }

abbrev pub purchase_with : Cvm → (cashback : Bool) → Purchase → Purchase
purchase_with cvm cashback purchase =
    record { amount = purchase.amount; currency = purchase.currency; timing = purchase.timing; cvm = cvm; cashback = cashback }

abbrev pub pending_with : Cvm → (cashback : Bool) → Pending → Pending
pending_with cvm cashback pending =
    record {
      purchase = purchase_with cvm cashback pending.purchase;
      limits = pending.limits;
      place = pending.place;
      history = pending.history;
      scripts = pending.scripts;
    }

-- commands alike but for a Start's interface, 0 or 1, and for a First's CVM and cashback, which may be any
pub data AlikeCommands : Message → Message → Type 0 where
  starts : (chosen : Option Selected) (i j : ℕ) → i ≤ 1 → j ≤ 1
      → AlikeCommands (StartCommand (record { interface = i; chosen = chosen })) (StartCommand (record { interface = j; chosen = chosen }))
  firsts : (first : First) (cvm : Cvm) (cashback : Bool) → AlikeCommands (FirstCommand first) (FirstCommand (first_with cvm cashback first))
  seconds : (second : Second) → AlikeCommands (SecondCommand second) (SecondCommand second)
  scripts : (result : ℕ) (template : List ℕ) → AlikeCommands (ScriptCommand result template) (ScriptCommand result template)

pub data AllAlike : List Message → List Message → Type 0 where
  nothing : AllAlike [] []
  more : {a b : Message} {ms ns : List Message} → AlikeCommands a b → AllAlike ms ns → AllAlike (a ∷ ms) (b ∷ ns)

-- states alike but for the CVM and the cashback of a purchase whose ARQC is open
pub data AlikePhases : Phase → Phase → Type 0 where
  idle : AlikePhases Idle Idle
  opened : (place : Place) → AlikePhases (Opened place) (Opened place)
  asked : (pending : Pending) (cvm : Cvm) (cashback : Bool) → AlikePhases (Asked pending) (Asked (pending_with cvm cashback pending))

pub record AlikeStates (a b : State) : Type 0 where
  pub values : a.values ≡ b.values
  pub phase : AlikePhases a.phase b.phase
  pub atc : a.atc ≡ b.atc
  pub last : a.last ≡ b.last
  pub history : a.history ≡ b.history
  pub scripts : a.scripts ≡ b.scripts

-- the answers of a conversation, the newest first
abbrev pub answers_of : List Exchange → List Answer
answers_of [] = []
answers_of (exchange ∷ older) = exchange.answer ∷ answers_of older

-- every answer is the same, and so is the state
pub record AlikeSittings (a b : Sitting) : Type 0 where
  pub answers : answers_of a.log ≡ answers_of b.log
  pub states : AlikeStates a.state b.state
