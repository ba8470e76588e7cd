-- What is read from an answer's 36 bytes is what was answered. Assumes nothing.
use mathlib.Core.Path.{◌≡◌, refl, ap, ◌∙◌}
use mathlib.Core.Bool.{false}
use mathlib.Core.List.{List, ◌++◌}
use Prim.Native.Nat.{ℕ, ◌+◌, ◌*◌, ◌/◌, ◌%◌, ◌<◌}
use native.Mathlib.Omega.{arith}
use lib.Dec.{eqb}
use lib.ListN.{get_or-append}
use Rattle.wire.specs.Wire.{byte, number}
use Rattle.refusal.specs.declared.Refusal.{Refusal}
use Rattle.refusal.specs.declared.Refusal.TheVariants.{BadSetup, OutOfTurn, UnknownProfile, AtcUsedUp, BadType, OutOfRange, RoomTooSmall, NotAnIad, Unreadable}
use Rattle.refusal.specs.declared.Refusal.TheVariants.{BadRate, BadMta, NotSelected, NotADay, PastData, TooManyCurrencies, TooManyPapers}
use Rattle.refusal.specs.declared.Refusal.TheVariants.{NoRoomForAnswers, Malformed, TooDeep}
use Rattle.refusal.specs.Refusal.{refusal_number}
use Rattle.iad.specs.declared.Iad.{Iad}
use Rattle.iad.specs.Iad.{written}
use Rattle.state.specs.declared.Kind.{Kind}
use Rattle.state.specs.declared.Kind.TheVariants.{Aac, Tc, Arqc}
use Rattle.state.specs.declared.Answer.{Answer}
use Rattle.state.specs.declared.Answer.TheVariants.{Refused, Started, Given, Done}
use Rattle.state.specs.State.{cid_of}
use Rattle.answers.specs.Answers.{head_of, no_iad, answer_bytes}
use Rattle.journal.specs.declared.Logging.{Logging}
use Rattle.journal.specs.declared.Cryptogram.{Cryptogram}
use Rattle.journal.specs.declared.Heard.{Heard}
use Rattle.journal.specs.declared.Heard.TheVariants.{Other}
use Rattle.journal.specs.Journal.{watched}
use Rattle.journal.specs.Logged.{cvr_number, cryptogram, heard_out}
use Rattle.readback.specs.WellFormed.{Writable, LaidOut}
use Rattle.reply_laws.specs.Heard.{Legible}
use Rattle.reply_laws.proofs.Told.{lies}
use Rattle.run_log.specs.RunLog.{kind_by, given_by, watched_answer}

no_refusal_0 : (refusal : Refusal) → eqb (refusal_number refusal) 0 ≡ false
no_refusal_0 =
    elim [
      | BadSetup ↦ refl
      | OutOfTurn ↦ refl
      | UnknownProfile ↦ refl
      | AtcUsedUp ↦ refl
      | BadType ↦ refl
      | OutOfRange ↦ refl
      | RoomTooSmall ↦ refl
      | NotAnIad ↦ refl
      | Unreadable ↦ refl
      | BadRate ↦ refl
      | BadMta ↦ refl
      | NotSelected ↦ refl
      | NotADay ↦ refl
      | PastData ↦ refl
      | TooManyCurrencies ↦ refl
      | TooManyPapers ↦ refl
      | NoRoomForAnswers ↦ refl
      | Malformed ↦ refl
      | TooDeep ↦ refl
    ]

kind-told : (kind : Kind) → kind_by (cid_of kind) ≡ kind
kind-told Aac = refl
kind-told Tc = refl
kind-told Arqc = refl

-- the bytes behind the four in front
module _ (iad : Iad) (w : Writable iad) (more : List ℕ) where
  abbrev s : List ℕ
  s = written iad no_iad

  laid : LaidOut iad s
  laid = lies iad w

  octet-is : (i : ℕ) {n : ℕ} → i < 32 → byte s i ≡ n → byte (s ++ more) i ≡ n
  octet-is i h e = get_or-append s more 0 i (omega (arith, laid.size)) ∙ e

  given-told : (kind : Kind) (atc : ℕ) → given_by (head_of 0 (cid_of kind) atc ++ (s ++ more)) ≡ cryptogram kind atc iad
  unfolding given_by cryptogram cvr_number number
  given-told kind atc =
      let its-atc : (0 * 256 + atc / 256) * 256 + atc % 256 ≡ atc = omega arith in
      rw (
        kind-told kind,
        its-atc,
        octet-is 17 (omega arith) laid.profile,
        octet-is 3 (omega arith) laid.cvr1,
        octet-is 4 (omega arith) laid.cvr2,
        octet-is 5 (omega arith) laid.cvr3,
        octet-is 6 (omega arith) laid.cvr4,
        octet-is 7 (omega arith) laid.cvr5,
      )

-- what begins a transaction, and a script, are nothing to a log
abbrev pub Unheard : Heard → Answer → Type 0
Unheard said (Refused refusal) = Unit
Unheard said (Started atc visits) = said ≡ Other
Unheard said (Given kind atc iad) = Unit
Unheard said Done = said ≡ Other

-- EVERY ANSWER IS HEARD FROM ITS BYTES, whatever stands behind them
pub answer-watched : (logging : Logging) (said : Heard) (at : ℕ) (answer : Answer) (more ring : List ℕ) → Legible answer → Unheard said answer
    → watched_answer logging said at (answer_bytes answer ++ more) ring ≡ heard_out logging said at answer ring
unfolding watched_answer answer_bytes watched
answer-watched logging said at (Refused refusal) more ring legible unheard = rw (no_refusal_0 refusal)
answer-watched logging said at (Started atc visits) more ring legible unheard = rw unheard
answer-watched logging said at (Given kind atc iad) more ring legible unheard =
    ap (λ (given : Cryptogram). watched logging said at given ring) (given-told iad legible.1 more kind atc)
answer-watched logging said at Done more ring legible unheard = rw unheard
