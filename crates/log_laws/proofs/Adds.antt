-- Which records add nothing to the transactions that are logged. Assumes nothing.
use mathlib.Core.Path.{◌≡◌, refl, ◌∙◌}
use mathlib.Core.Bool.{Bool, true, false, cond}
use mathlib.Core.List.{List, [], ◌∷◌, ◌++◌}
use Prim.Native.Nat.{ℕ}
use native.Mathlib.Omega.{arith}
use Rattle.command.specs.declared.Start.{Start}
use Rattle.command.specs.declared.Command.TheVariants.{Start as StartCommand}
use Rattle.state.specs.declared.Kind.TheVariants.{Aac, Tc, Arqc}
use Rattle.state.specs.declared.Answer.{Answer}
use Rattle.state.specs.declared.Answer.TheVariants.{Refused, Started, Given, Done}
use Rattle.records.specs.declared.Said.{Said}
use Rattle.records.specs.declared.Said.TheVariants.{Command as SaidCommand, Script}
use Rattle.text.proofs.Each.{Each, none, more}
use Rattle.journal.specs.declared.Logging.{Logging}
use Rattle.journal.specs.declared.Heard.{Heard}
use Rattle.journal.specs.declared.Heard.TheVariants.{Other}
use Rattle.journal.specs.Journal.{is_logged}
use Rattle.journal.specs.Logged.{Seen, cryptogram, first_in, logged_by, logged_in}
use Rattle.log_laws.specs.Spoken.{heard_of, is_closing}

module _ (logging : Logging) where
  -- what closes no transaction adds none: a refused command, a Start, a script, an ARQC
  unclosed : (said : Heard) (at first : ℕ) (answer : Answer) → is_closing answer ≡ false → logged_by logging said at first answer ≡ []
  unfolding cryptogram
  unclosed said at first (Refused refusal) e = refl
  unclosed said at first (Started atc visits) e = refl
  unclosed said at first (Given Aac atc iad) e = let z : ◌≡◌ {A = ℕ} 0 1 = cc in absurd (omega arith)
  unclosed said at first (Given Tc atc iad) e = let z : ◌≡◌ {A = ℕ} 0 1 = cc in absurd (omega arith)
  unclosed said at first (Given Arqc atc iad) e = refl
  unclosed said at first Done e = refl

  pub unclosed_adds_none : (seen : Seen) (before : List Seen) → is_closing seen.answer ≡ false
      → logged_in logging (seen ∷ before) ≡ logged_in logging before
  unfolding logged_in
  unclosed_adds_none seen before e = rw (unclosed seen.said seen.at (first_in before) seen.answer e)

  -- so a transaction that is dropped adds none: a Start comes before anything has closed it
  pub dropped_adds_none : (records before : List Seen) → Each (λ (seen : Seen). is_closing seen.answer ≡ false) records
      → logged_in logging (records ++ before) ≡ logged_in logging before
  dropped_adds_none [] before none = refl
  dropped_adds_none (seen ∷ records) before (more e rest) =
      unclosed_adds_none seen (records ++ before) e ∙ dropped_adds_none records before rest

  -- whatever it is answered, a Start adds none, and a script neither
  unheard : (at first : ℕ) (answer : Answer) → logged_by logging Other at first answer ≡ []
  unheard at first (Refused refusal) = refl
  unheard at first (Started atc visits) = refl
  unheard at first (Given kind atc iad) = by (is_logged logging Other (cryptogram kind atc iad)) where
    by : {A : Type 0} (b : Bool) → cond {A = List A} b [] [] ≡ []
    by true = refl
    by false = refl
  unheard at first Done = refl

  module _ (before : List Seen) (at : ℕ) (answer : Answer) where
    abbrev AddsNone : Said → Type 0
    AddsNone said = logged_in logging (record { said = heard_of said; at = at; answer = answer } ∷ before) ≡ logged_in logging before

    pub start-adds-none : (start : Start) → AddsNone (SaidCommand (StartCommand start))
    unfolding logged_in
    start-adds-none start = rw (unheard at (first_in before) answer)

    pub script-adds-none : AddsNone Script
    unfolding logged_in
    script-adds-none = rw (unheard at (first_in before) answer)
