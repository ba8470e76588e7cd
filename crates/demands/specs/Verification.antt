-- The CVR bit by bit, each with its cause, and what else an answer sends (document 01, "CVR and IAD").
use Rattle.std.specs.Prelude.{◌≡◌, ℕ, zero, suc, ◌+◌, ◌/◌, ◌%◌, Bool, true, false, cond, not, ◌&&◌, ◌||◌, List, ◌∷◌, eqb, Some}
use Rattle.iad.specs.declared.Cvr.{Cvr}
use Rattle.iad.specs.declared.Iad.{Iad}
use Rattle.selection.specs.Selection.{profile_of}
use Rattle.command.specs.declared.Start.{Start}
use Rattle.command.specs.declared.First.{First}
use Rattle.command.specs.declared.Second.{Second}
use Rattle.card.specs.Message.{Message, StartCommand, FirstCommand, SecondCommand, ScriptCommand}
use Rattle.purchase.specs.declared.Purchase.{Purchase}
use Rattle.state.specs.declared.History.{History}
use Rattle.state.specs.declared.Answer.TheVariants.{Started, Given}
use Rattle.state.specs.declared.Outcome.{Outcome}
use Rattle.state.specs.declared.Kind.{Kind}
use Rattle.state.specs.declared.Kind.TheVariants.{Aac, Tc, Arqc}
use Rattle.demands.specs.Setup.{Setup, byte_at, number_at}
use Rattle.purchase.specs.Meter.{Meter, accumulator, counter}
use Rattle.demands.specs.Conversation.{Exchange, by_outcome}
use Rattle.demands.specs.Scripts.{Remembered, remembered}
use Rattle.demands.specs.Audit.{is_on, named, brought, bought, last_date, in_force, place_by, audited, tested}
use Rattle.demands.specs.Past.{past, atc_by, before_first}
use Rattle.demands.specs.Rows.{InSetup}
use Rattle.demands.specs.Decision.{above_lower, above_upper, is_error, flags, meets, FirstAnswers}

-- 00 AAC, 01 TC, 10 ARQC (first type) or not requested (second type)
abbrev pub type_of : Kind → ℕ
type_of Aac = 0
type_of Tc = 1
type_of Arqc = 2

abbrev pub not_requested : ℕ
not_requested = 2

-- 1 where it is so
abbrev pub bit : Bool → ℕ
bit true = 1
bit false = 0

-- one of the four
abbrev pub any_of : (ℕ → Meter) → (Meter → Bool) → Bool
any_of meter test = test (meter 0) || (test (meter 1) || (test (meter 2) || (test (meter 3) || false)))

-- of issuer authentication: not performed, failed; and unable to go online in this transaction
pub record Issuing : Type 0 where
  pub unperformed : Bool
  pub failed : Bool
  pub unable : Bool

-- the history, the limits (by purchase and values) and what is remembered of scripts are those at First
pub record Verifies (setup : Setup) (profile : ℕ) (purchase : Purchase) (value : Meter → ℕ) (history : History) (scripts : Remembered)
    (second first : ℕ) (issuing : Issuing) (cvr : Cvr) : Type 0 where
  pub byte1_b87 : cvr.byte1 / 64 ≡ second
  pub byte1_b65 : cvr.byte1 / 16 % 4 ≡ first
  pub byte1_b43 : cvr.byte1 / 4 % 4 ≡ 0
  pub byte1_b2 : cvr.byte1 / 2 % 2 ≡ bit issuing.unperformed
  pub byte1_b1 : cvr.byte1 % 2 ≡ bit issuing.failed
  pub byte2_high : cvr.byte2 / 16 ≡ byte_at setup 1
  pub byte2_b43 : cvr.byte2 / 4 % 4 ≡ 0
  pub byte2_b2 : cvr.byte2 / 2 % 2 ≡ bit (eqb (byte_at setup 1) 0)
  pub byte2_b1 : cvr.byte2 % 2 ≡ bit history.uncompleted
  pub byte3_b8 : cvr.byte3 / 128 ≡ bit (any_of counter (above_lower setup profile purchase value))
  pub byte3_b7 : cvr.byte3 / 64 % 2 ≡ bit (any_of counter (above_upper setup profile purchase value))
  pub byte3_b6 : cvr.byte3 / 32 % 2 ≡ bit (any_of accumulator (above_lower setup profile purchase value))
  pub byte3_b5 : cvr.byte3 / 16 % 2 ≡ bit (any_of accumulator (above_upper setup profile purchase value))
  pub byte3_b43 : cvr.byte3 / 4 % 4 ≡ 0
  pub byte3_b2 : cvr.byte3 / 2 % 2 ≡ bit (is_error purchase.timing)
  pub byte3_b1 : cvr.byte3 % 2 ≡ 0
  pub byte4_b85 : cvr.byte4 / 16 ≡ scripts.count
  pub byte4_b4 : cvr.byte4 / 8 % 2 ≡ bit scripts.failed
  pub byte4_b3 : cvr.byte4 / 4 % 2 ≡ 0
  pub byte4_b2 : cvr.byte4 / 2 % 2 ≡ bit history.online
  pub byte4_b1 : cvr.byte4 % 2 ≡ bit issuing.unable
  pub byte5_all : cvr.byte5 ≡ 0

-- at First, b2 is history bit 3 or 4, b1 history bit 2
abbrev pub issuing_at_first : History → Issuing
issuing_at_first history = record { unperformed = history.unable || history.missing; failed = history.failed; unable = false }

-- the accumulator or the counter of a number from 1 to 4; "none sent" is zeros
abbrev pub sent_of : (Meter → ℕ) → (ℕ → Meter) → ℕ → ℕ
sent_of value meter zero = 0
sent_of value meter (suc i) = value (meter i)

-- key index, accumulator sent (104), the two counters sent (105, 106), profile; values are those after the step
pub record Sends (setup : Setup) (profile number : ℕ) (value : Meter → ℕ) (iad : Iad) : Type 0 where
  pub key : iad.key ≡ byte_at setup 0
  pub profile-number : iad.profile ≡ number
  pub accumulator-sent : iad.accumulator.0 ≡ sent_of value accumulator (byte_at setup (profile + 104))
  pub first-sent : iad.first ≡ sent_of value counter (byte_at setup (profile + 105))
  pub second-sent : iad.second ≡ sent_of value counter (byte_at setup (profile + 106))

-- WHAT FIRST GIVES, by the conversation before it and the one with it
pub record FirstGives (setup : Setup) (before after : List Exchange) (first : First) (kind : Kind) (iad : Iad) : Type 0 where
  pub known : InSetup (in_force setup before) (named before)
  pub decides : FirstAnswers (in_force setup before) (place_by setup before) first
      (flags (in_force setup before) (place_by setup before) (brought (last_date setup before) first) (tested setup before first) (past setup before))
      kind
  pub verifies : Verifies (in_force setup before) (place_by setup before) (brought (last_date setup before) first) (tested setup before first)
      (past setup before) (remembered setup before) not_requested (type_of kind) (issuing_at_first (past setup before)) iad.cvr
  pub sends : Sends (in_force setup before) (place_by setup before) (named before) (audited setup after) iad

-- Second keeps First's b2 and b1; Y3/Z3 and absent set b2; failed sets b1; verified clears both
abbrev pub issuing_at_second : Second → History → Issuing
issuing_at_second second history =
    by_outcome second (record { unperformed = true; failed = history.failed; unable = true })
    (record { unperformed = false; failed = false; unable = false })
    (record { unperformed = history.unable || history.missing; failed = true; unable = false })
    (record { unperformed = true; failed = history.failed; unable = false })

-- Y3 or Z3: TC if requested and ADR doesn't meet Default; verified: TC if requested and CSU byte 2 b8 is set; failed: AAC; absent: TC if
-- requested and authentication isn't required
abbrev pub second_approves : Setup → (profile : ℕ) → List Bool → Second → Bool
second_approves setup profile fs second =
    by_outcome second (eqb second.requested 1 && not (meets fs (number_at setup (profile + 9) 4)))
    (eqb second.requested 1 && is_on (second.csu / 65536) 128)
    false
    (eqb second.requested 1 && eqb (byte_at setup 2) 0)

-- bit 3 set
abbrev pub with_unable : History → History
with_unable history =
    record { uncompleted = history.uncompleted; online = history.online; failed = history.failed; unable = true; missing = history.missing }

-- WHAT SECOND GIVES: the purchase is First's, the tests are repeated, the CVR is First's but for what is replaced
pub record SecondGives (setup : Setup) (before after : List Exchange) (second : Second) (kind : Kind) (iad : Iad) : Type 0 where
  pub known : InSetup (in_force setup before) (named before)
  pub decides : kind
      ≡ cond (second_approves (in_force setup before) (place_by setup before)
      (flags (in_force setup before) (place_by setup before) (bought setup before) (audited setup before) (with_unable (past setup (before_first before)))) second)
      Tc Aac
  pub verifies : Verifies (in_force setup (before_first before)) (place_by setup before) (bought setup before) (audited setup (before_first before))
      (past setup (before_first before)) (remembered setup (before_first before)) (type_of kind) (type_of Arqc)
      (issuing_at_second second (past setup (before_first before))) iad.cvr
  pub sends : Sends (in_force setup before) (place_by setup before) (named before) (audited setup after) iad

-- WHAT AN ACCEPTED START SAYS: the ATC, 1 more than before; the profile was named or selected, and is in the set-up; the entries visited
pub record StartGives (setup : Setup) (before : List Exchange) (start : Start) (atc visits : ℕ) : Type 0 where
  pub counts : atc ≡ atc_by setup before + 1
  pub chose : start.chosen ≡ Some (record { profile = profile_of start.chosen; visits = visits })
  pub known : InSetup (in_force setup before) (profile_of start.chosen)

-- WHAT AN OUTCOME GIVES
abbrev pub Gives : Setup → List Exchange → Message → Outcome → Type 0
Gives setup before (StartCommand start) outcome =
    (atc visits : ℕ) → outcome.answer ≡ Started atc visits → StartGives setup before start atc visits
Gives setup before (FirstCommand first) outcome =
    (kind : Kind) (atc : ℕ) (iad : Iad) → outcome.answer ≡ Given kind atc iad
    → FirstGives setup before (record { command = FirstCommand first; answer = outcome.answer } ∷ before) first kind iad
Gives setup before (SecondCommand second) outcome =
    (kind : Kind) (atc : ℕ) (iad : Iad) → outcome.answer ≡ Given kind atc iad
    → SecondGives setup before (record { command = SecondCommand second; answer = outcome.answer } ∷ before) second kind iad
Gives setup before (ScriptCommand result template) outcome = Unit
