-- Every answer of a conversation can be heard from its line, and none of them is refusal 9. Assumes nothing.
use mathlib.Core.Path.{◌≡◌, refl, sym, ap, subst}
use mathlib.Core.Bool.{Bool, true, false, cond}
use mathlib.Core.List.{List, [], ◌∷◌, ◌++◌, append-nil}
use Prim.Native.Nat.{ℕ, ◌+◌, ◌≤◌}
use native.Mathlib.Omega.{arith}
use borrow.Author.Tests.{ne_eqb, eqb-true, eqb-false}
use lib.Dec.{eqb}
use lib.ListN.{length}
use Rattle.wire.specs.Wire.{number}
use Rattle.refusal.specs.declared.Refusal.TheVariants.{Unreadable}
use Rattle.refusal.specs.Refusal.{refusal_number}
use Rattle.rules.specs.Word.{word_count}
use Rattle.rules.specs.Rules.{rules_of}
use Rattle.state.specs.declared.Answer.{Answer}
use Rattle.state.specs.declared.Answer.TheVariants.{Refused, Started, Given, Done}
use Rattle.card.specs.Card.{answer_number}
use Rattle.card.specs.Message.{Message, StartCommand, FirstCommand, SecondCommand, ScriptCommand}
use Rattle.records.specs.declared.Event.{Event}
use Rattle.records.specs.declared.Event.TheVariants.{SetUp, End, Refused as EndRefused, Answered}
use Rattle.command.specs.declared.Start.{Start}
use Rattle.command.specs.declared.First.{First}
use Rattle.command.specs.declared.Second.{Second}
use Rattle.opening.specs.Opening.{begun_of, words_begun}
use Rattle.conversation.specs.Events.{events_from, events_of}
use Rattle.trees.specs.Tree.{Fault, malformed, too_deep, inside, TemplateFault, unframed, framed}
use Rattle.text.proofs.Each.{Each, none, more, append}
use Rattle.demands.specs.Setup.{Setup, AcceptedSetup}
use Rattle.demands.specs.Conversation.{Exchange, Sitting, run, rules_by, sat, told, next, IsSpoken, Spoken}
use Rattle.demands.specs.Audit.{in_force}
use Rattle.demands.specs.Past.{is_started, atc_by, Says}
use Rattle.demands.specs.Due.{Due, due, InKind}
use Rattle.demands.specs.Rows.{InSetup, StartRow, no_interface, not_selected, not_in_setup, used_up}
use Rattle.demands.specs.Rows.{FirstRow, no_start, type_three, above-max, not_digits, not_a_day}
use Rattle.demands.specs.Rows.{SecondRow, no_arqc, type_two, issuer_data, ScriptRow, first-due, no_result, at-fault, Applies, Numbered, done, refused}
use Rattle.demands.proofs.Past.{said}
use Rattle.demands.proofs.Refusal.{numbered, in_kind}
use Rattle.demands.proofs.Sendable.{written_out}
use Rattle.spelling.specs.Sitting.{said_of, happened}
use Rattle.spelling.specs.Spelling.{Bytes}
use Rattle.spelling.proofs.Numbers.{bytes_drop}
use Rattle.papers.specs.Papers.{rest_in, setup_of, manner_of, Accepted, walked, commands_of, faulty}
use Rattle.papers.specs.Talk.{ending}
use Rattle.papers.proofs.Setups.{good-setup}
use Rattle.papers.proofs.Talk.{fresh, run-one}
use Rattle.papers.proofs.Starts.{heard_spoken}
use Rattle.papers.proofs.Events.{happened-there, accepted-exactly}
use Rattle.reply_laws.specs.Heard.{Legible}

-- ---- a number that applies is not 9, nor 0

list-fault : {k n : ℕ} {s : List ℕ} → Fault k n s → 18 ≤ n
list-fault (malformed i w e g d x) = omega arith
list-fault (too_deep i t f v r e g d x h) = omega arith
list-fault (inside i t f v r e g d x h within) = list-fault within

template-fault : {n : ℕ} {s : List ℕ} → TemplateFault n s → 18 ≤ n
template-fault (unframed h) = omega arith
template-fault (framed b f v h within) = list-fault within

module _ (Known : ℕ → Type 0) (atc : ℕ) (due : Due) where
  start-row : {command : Start} {n : ℕ} → StartRow Known atc command n → (n ≡ 9 → ⊥) × (n ≡ 0 → ⊥)
  start-row (no_interface e h) = (λ q. omega arith, λ q. omega arith)
  start-row (not_selected e h) = (λ q. omega arith, λ q. omega arith)
  start-row (not_in_setup e h) = (λ q. omega arith, λ q. omega arith)
  start-row (used_up e h) = (λ q. omega arith, λ q. omega arith)

  first-row : {command : First} {n : ℕ} → FirstRow due command n → (n ≡ 9 → ⊥) × (n ≡ 0 → ⊥)
  first-row (no_start e h) = (λ q. omega arith, λ q. omega arith)
  first-row (type_three e h) = (λ q. omega arith, λ q. omega arith)
  first-row (above-max e h) = (λ q. omega arith, λ q. omega arith)
  first-row (not_digits e h) = (λ q. omega arith, λ q. omega arith)
  first-row (not_a_day e h) = (λ q. omega arith, λ q. omega arith)

  second-row : {command : Second} {n : ℕ} → SecondRow due command n → (n ≡ 9 → ⊥) × (n ≡ 0 → ⊥)
  second-row (no_arqc e h) = (λ q. omega arith, λ q. omega arith)
  second-row (type_two e h) = (λ q. omega arith, λ q. omega arith)
  second-row (issuer_data e h) = (λ q. omega arith, λ q. omega arith)

  script-row : {result : ℕ} {template : List ℕ} {n : ℕ} → ScriptRow due result template n → (n ≡ 9 → ⊥) × (n ≡ 0 → ⊥)
  script-row (first-due e h) = (λ q. omega arith, λ q. omega arith)
  script-row (no_result e h) = (λ q. omega arith, λ q. omega arith)
  script-row (at-fault f) = let h = template-fault f in (λ q. omega arith, λ q. omega arith)

  applies : (command : Message) {n : ℕ} → Applies Known atc due command n → (n ≡ 9 → ⊥) × (n ≡ 0 → ⊥)
  applies (StartCommand start) row = start-row row
  applies (FirstCommand first) row = first-row row
  applies (SecondCommand second) row = second-row row
  applies (ScriptCommand result template) row = script-row row

  not_nine : (command : Message) (n : ℕ) → Numbered Known atc due command n → n ≡ 9 → ⊥
  not_nine command n (done e h) q = omega arith
  not_nine command n (refused row h) q = (applies command row).0 q

  -- what starts is a Start that no number applies to: the ATC is not used up
  not_used_up : (command : Message) (seen visits n : ℕ) → InKind command (Started seen visits) → Numbered Known atc due command n → n ≡ 0
      → atc ≡ 65535 → ⊥
  not_used_up (StartCommand start) seen visits n k (done e h) q up = h 4 (used_up refl up)
  not_used_up (StartCommand start) seen visits n k (refused row h) q up = (applies (StartCommand start) row).1 q
  not_used_up (FirstCommand first) seen visits n k numbered q up = absurd k
  not_used_up (SecondCommand second) seen visits n k numbered q up = absurd k
  not_used_up (ScriptCommand result template) seen visits n k numbered q up = absurd k

under : (n : ℕ) → n ≤ 65535 → (n ≡ 65535 → ⊥) → n + 1 ≤ 65535
under n h apart = by (eqb n 65535) refl where
  by : (b : Bool) → eqb n 65535 ≡ b → n + 1 ≤ 65535
  by true e = absurd (apart (eqb-true n 65535 e))
  by false e = let other = eqb-false n 65535 e in omega arith

-- ---- one answer behind a conversation

-- an event that a line tells: an answer that is heard whole and is not 9; what ends a paper is 9; and nothing else is among them
abbrev pub Told : Event → Type 0
Told SetUp = ⊥
Told End = ⊥
Told (EndRefused refusal) = refusal_number refusal ≡ 9
Told (Answered said answer) = Legible answer × (eqb (answer_number answer) 9 ≡ false)

module _ (setup : Setup) (good : AcceptedSetup setup) where
  -- the ATC is a number of two bytes
  abbrev AtcSmall : List Exchange → Type 0
  AtcSmall log = atc_by setup log ≤ 65535

  begins-small : AtcSmall (sat setup []).log
  unfolding run atc_by number
  begins-small = omega (arith, good.bytes.below 5, good.bytes.below 6)

  module _ (commands : List Message) (spoken : Spoken commands) (small : AtcSmall (sat setup commands).log)
      (command : Message) (bytes : IsSpoken command) where
    abbrev sitting : Sitting
    sitting = sat setup commands

    abbrev answer : Answer
    answer = (next setup commands command).answer

    abbrev Number : ℕ → Type 0
    Number = Numbered (InSetup (in_force setup sitting.log)) (atc_by setup sitting.log) (due sitting.log) command

    number_is : Number (answer_number answer)
    number_is = numbered setup good commands spoken command bytes

    stays_small : AtcSmall (told sitting command).log
    unfolding atc_by
    stays_small = by answer refl where
      by : (a : Answer) → answer ≡ a → cond (is_started a) (atc_by setup sitting.log + 1) (atc_by setup sitting.log) ≤ 65535
      by (Refused refusal) e = small
      by (Started seen visits) e =
          let zero = ap answer_number e in
          let kind = subst (InKind command) e (in_kind sitting.rules sitting.state command zero) in
          let below = not_used_up _ _ _ command seen visits (answer_number answer) kind number_is zero in
          under (atc_by setup sitting.log) small below
      by (Given kind atc iad) e = small
      by Done e = small

    -- it is heard whole from its line
    legible : (a : Answer) → answer ≡ a → Legible a
    legible (Refused refusal) e = tt
    legible (Started seen visits) e = tt
    legible (Given kind seen iad) e =
        let out = written_out setup good commands spoken command kind seen iad e in
        let says : seen ≡ atc_by setup (told sitting command).log =
        subst (λ a. Says a (atc_by setup (told sitting command).log)) e (said setup good commands spoken command) in
        (omega (arith, says, stays_small), out.0, out.1)
    legible Done e = tt

    -- and ends nothing
    goes_on_lem : eqb (answer_number answer) 9 ≡ false
    goes_on_lem = ne_eqb (answer_number answer) 9 (not_nine _ _ _ command (answer_number answer) number_is)

  one_more_lem : (before : List Message) (c : Message) → Spoken before → IsSpoken c → Spoken (before ++ c ∷ [])
  one_more_lem [] c s t = (t, tt)
  one_more_lem (b ∷ before) c s t = (s.0, one_more_lem before c s.1 t)

  -- EVERY ONE OF THEM
  told-from : (before after : List Message) → Spoken before → Spoken after → AtcSmall (sat setup before).log
      → Each Told (happened (sat setup before).rules (sat setup before).state after)
  unfolding happened
  told-from before [] s t small = none
  told-from before (c ∷ after) s t small =
      let one = run-one (fresh setup) before c in
      let then = subst (λ (x : Sitting). AtcSmall x.log) (sym one) (stays_small before s small c t.0) in
      let whole = legible before s small c t.0 (next setup before c).answer refl in
      more {a = Answered (said_of c) (next setup before c).answer} (whole, goes_on_lem before s small c t.0)
      (subst (λ (x : Sitting). Each Told (happened x.rules x.state after)) one
      (told-from (before ++ c ∷ []) after (one_more_lem before c s t.0) t.1 then))

  pub all_told_lem : (commands : List Message) → Spoken commands → Each Told (happened (rules_by setup) (fresh setup).state commands)
  unfolding run
  all_told_lem commands spoken = told-from [] commands tt spoken begins-small

-- ---- of a paper that is set up

-- its records, from the place behind its set-up on
abbrev pub records_of : (words paper : List ℕ) → List Event
records_of words paper =
    let begun = begun_of paper in
    events_from (length paper) (rules_of (words_begun words paper)) begun.shape begun.state paper begun.at

pub events-are : (words paper : List ℕ) → (begun_of paper).event ≡ SetUp → events_of words paper ≡ SetUp ∷ records_of words paper
unfolding events_of
events-are words paper e = rw e

ending-told : (fault : Bool) → Each Told (ending fault)
ending-told true = more {a = EndRefused Unreadable} refl none
ending-told false = none

module _ (words paper : List ℕ) (lent : length words ≡ word_count) (bytes : Bytes paper) (begun : (begun_of paper).event ≡ SetUp) where
  accepted : Accepted paper
  accepted = (accepted-exactly paper bytes).0 begun

  -- THEIR LINES TELL ALL OF THEM
  pub paper-told : Each Told (records_of words paper)
  unfolding walked run
  paper-told =
      let setup = setup_of paper in
      let commands = commands_of paper in
      let there = happened-there words paper lent bytes accepted in
      let here = events-are words paper begun in
      let same : happened (rules_by setup) (fresh setup).state commands ++ ending (faulty paper) ≡ records_of words paper = cc in
      let spoken =
      heard_spoken (manner_of paper) (length paper) (fresh setup) (rest_in paper) (bytes_drop (3 + number paper 1 2) paper bytes) commands []
      (sym (append-nil commands)) in
      subst (Each Told) same (append (all_told_lem setup (good-setup paper accepted bytes) commands spoken) (ending-told (faulty paper)))
