-- What an auditor reads off the conversation and the set-up's bytes of the card's history and its ATC (document 01, "Start and the
-- checks", "First: the answer", "Second: the answer"), with no card.
use Rattle.std.specs.Prelude.{◌≡◌, ℕ, ◌+◌, ◌/◌, Bool, true, false, cond, ◌&&◌, List, [], ◌∷◌, eqb}
use Rattle.command.specs.declared.Second.{Second}
use Rattle.card.specs.Message.{Message, StartCommand, FirstCommand, SecondCommand, ScriptCommand}
use Rattle.state.specs.declared.History.{History}
use Rattle.state.specs.declared.Answer.{Answer}
use Rattle.state.specs.declared.Answer.TheVariants.{Refused, Started, Given, Done}
use Rattle.state.specs.declared.Kind.TheVariants.{Aac, Tc, Arqc}
use Rattle.demands.specs.Setup.{Setup, byte_at, number_at}
use Rattle.demands.specs.Conversation.{Exchange, is_accepted, by_outcome}
use Rattle.demands.specs.Audit.{is_on, in_force}

abbrev pub is_arqc : Answer → Bool
is_arqc (Refused refusal) = false
is_arqc (Started atc visits) = false
is_arqc (Given Aac atc iad) = false
is_arqc (Given Tc atc iad) = false
is_arqc (Given Arqc atc iad) = true
is_arqc Done = false

-- what an answered Second makes of a history bit
abbrev pub by_second : Message → Answer → (before : Bool) → (Second → Bool) → Bool
by_second (StartCommand start) answer before after = before
by_second (FirstCommand first) answer before after = before
by_second (SecondCommand second) answer before after = cond (is_accepted answer) (after second) before
by_second (ScriptCommand result template) answer before after = before

-- bit 0, last online not completed: an ARQC sets it; verified clears it, and so does absent where authentication isn't required
abbrev pub uncompleted_by : Setup → Message → Answer → Bool → Bool
uncompleted_by setup (StartCommand start) answer before = before
uncompleted_by setup (FirstCommand first) answer before = cond (is_arqc answer) true before
uncompleted_by setup (SecondCommand second) answer before =
    cond (is_accepted answer) (by_outcome second before false before (before && eqb (byte_at setup 2) 1)) before
uncompleted_by setup (ScriptCommand result template) answer before = before

-- bit 1, go online next: verified makes it CSU byte 2 b4
abbrev pub online_by : Message → Answer → Bool → Bool
online_by command answer before = by_second command answer before (λ second. by_outcome second before (is_on (second.csu / 65536) 8) before before)

-- bit 2, issuer authentication failed
abbrev pub failed_by : Message → Answer → Bool → Bool
failed_by command answer before = by_second command answer before (λ second. by_outcome second before false true before)

-- bit 3, unable to go online
abbrev pub unable_by : Message → Answer → Bool → Bool
unable_by command answer before = by_second command answer before (λ second. by_outcome second true false before before)

-- bit 4, issuer data not received
abbrev pub missing_by : Message → Answer → Bool → Bool
missing_by command answer before = by_second command answer before (λ second. by_outcome second before false before true)

-- a fresh card's history is clear but for go online next
unfoldable pub past : Setup → List Exchange → History
past setup [] = record { uncompleted = false; online = eqb (byte_at setup 7) 1; failed = false; unable = false; missing = false }
past setup (exchange ∷ older) =
    let command = exchange.command in
    let answer = exchange.answer in
    let before = past setup older in
    record {
      uncompleted = uncompleted_by (in_force setup older) command answer before.uncompleted;
      online = online_by command answer before.online;
      failed = failed_by command answer before.failed;
      unable = unable_by command answer before.unable;
      missing = missing_by command answer before.missing;
    }

abbrev pub is_started : Answer → Bool
is_started (Refused refusal) = false
is_started (Started atc visits) = true
is_started (Given kind atc iad) = false
is_started Done = false

-- the set-up's ATC, and 1 for each accepted Start
unfoldable pub atc_by : Setup → List Exchange → ℕ
atc_by setup [] = number_at setup 5 2
atc_by setup (exchange ∷ older) = cond (is_started exchange.answer) (atc_by setup older + 1) (atc_by setup older)

-- the ATC that an answer says
abbrev pub Says : Answer → ℕ → Type 0
Says (Refused refusal) n = Unit
Says (Started atc visits) n = atc ≡ n
Says (Given kind atc iad) n = atc ≡ n
Says Done n = Unit

-- the conversation before the last accepted First
abbrev pub before_by : Message → Answer → (older before : List Exchange) → List Exchange
before_by (StartCommand start) answer older before = before
before_by (FirstCommand first) answer older before = cond (is_accepted answer) older before
before_by (SecondCommand second) answer older before = before
before_by (ScriptCommand result template) answer older before = before

unfoldable pub before_first : List Exchange → List Exchange
before_first [] = []
before_first (exchange ∷ older) = before_by exchange.command exchange.answer older (before_first older)
