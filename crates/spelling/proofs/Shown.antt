-- The text of an answer's line says its fields. Assumes nothing.
use mathlib.Core.Path.{◌≡◌, sym, subst}
use mathlib.Core.List.{List, [], ◌∷◌}
use Prim.Native.Nat.{ℕ, zero, suc, ◌<◌}
use native.Mathlib.Omega.{arith}
use borrow.Author.Tests.{ne_eqb}
use lib.ListN.{replicate}
use Rattle.refusal.specs.declared.Refusal.{Refusal}
use Rattle.refusal.specs.declared.Refusal.TheVariants.{BadSetup, OutOfTurn, UnknownProfile, AtcUsedUp, BadType, OutOfRange}
use Rattle.refusal.specs.declared.Refusal.TheVariants.{RoomTooSmall, NotAnIad, Unreadable, BadRate, BadMta, NotSelected, NotADay, PastData}
use Rattle.refusal.specs.declared.Refusal.TheVariants.{TooManyCurrencies, TooManyPapers, NoRoomForAnswers, Malformed, TooDeep}
use Rattle.refusal.specs.Refusal.{refusal_number}
use Rattle.iad.specs.declared.Iad.{Iad}
use Rattle.iad.specs.Iad.{written}
use Rattle.state.specs.declared.Answer.{Answer}
use Rattle.state.specs.declared.Answer.TheVariants.{Refused, Started, Given, Done}
use Rattle.state.specs.declared.Kind.TheVariants.{Aac, Tc, Arqc}
use Rattle.readback.specs.WellFormed.{Writable, LaidOut}
use Rattle.readback.specs.Fields.{fields_in}
use Rattle.readback.proofs.Leaves.{laid_out, filled}
use Rattle.readback.proofs.Told.{refusal_told, start-told, selected_told, cryptogram-told}
use Rattle.lines.specs.Sitting.{answer_line}
use Rattle.spelling.specs.Shown.{shown, Sized}

pub small : (refusal : Refusal) → refusal_number refusal < 100_000
small BadSetup = omega arith
small OutOfTurn = omega arith
small UnknownProfile = omega arith
small AtcUsedUp = omega arith
small BadType = omega arith
small OutOfRange = omega arith
small RoomTooSmall = omega arith
small NotAnIad = omega arith
small Unreadable = omega arith
small BadRate = omega arith
small BadMta = omega arith
small NotSelected = omega arith
small NotADay = omega arith
small PastData = omega arith
small TooManyCurrencies = omega arith
small TooManyPapers = omega arith
small NoRoomForAnswers = omega arith
small Malformed = omega arith
small TooDeep = omega arith

lies : (iad : Iad) → Writable iad → LaidOut iad (written iad (replicate 32 0))
lies iad can =
    let front = (laid_out iad (replicate 32 0) can (omega arith)).front in
    subst (LaidOut iad) (sym (filled iad _ can front)) front

-- WHICH LAYOUT GOES WITH WHICH ANSWER, AND THE CID'S VALUES
pub answer-shown : (number : ℕ) → number < 100_000 → (answer : Answer) → Sized answer → fields_in (answer_line number answer) ≡ shown number answer
unfolding answer_line
answer-shown number n (Refused refusal) h = refusal_told number n (refusal_number refusal) (small refusal)
answer-shown number n (Started atc zero) h = start-told number n atc h.0
answer-shown number n (Started atc (suc visits)) h =
    rw (ne_eqb (suc visits) 0 (λ e. omega arith)) (selected_told number n atc (suc visits) h.0 h.1)
answer-shown number n (Given Aac atc iad) h = cryptogram-told number n 0x00 atc iad _ (omega arith) h.0 h.1 h.2 (lies iad h.1)
answer-shown number n (Given Tc atc iad) h = cryptogram-told number n 0x40 atc iad _ (omega arith) h.0 h.1 h.2 (lies iad h.1)
answer-shown number n (Given Arqc atc iad) h = cryptogram-told number n 0x80 atc iad _ (omega arith) h.0 h.1 h.2 (lies iad h.1)
answer-shown number n Done h = refusal_told number n 0 (omega arith)
