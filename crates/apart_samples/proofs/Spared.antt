-- THE PREMISE IS MET BY A DAY that approves, declines, goes online, is reset and takes a script which puts the accumulator: a test that computes, and what
-- holds where it does. Assumes nothing.
use mathlib.Core.Path.{◌≡◌, refl, ap}
use mathlib.Core.Bool.{Bool, true, false, not, ◌&&◌, ◌||◌}
use mathlib.Core.Logic.{◌⊎◌, inl, inr}
use mathlib.Core.List.{List, [], ◌∷◌, ◌++◌}
use Prim.Native.Nat.{ℕ, zero, suc, ◌+◌, ◌<◌, ◌≤◌}
use native.Mathlib.Omega.{arith}
use borrow.Author.Tests.{not-true, eqb-true, eqb-false, leb-true, ltb-true}
use lib.Dec.{T, eqb, leb, ltb}
use lib.ListN.{length}
use Rattle.wire.specs.Wire.{byte, number}
use Rattle.wire.proofs.Pairs.{both}
use Rattle.rules.specs.declared.Place.{Place}
use Rattle.rules.specs.declared.Sent.{Sent}
use Rattle.rules.specs.Rules.{Rules, profile_at, blank_words, rules_of}
use Rattle.purchase.specs.Meter.{Meter, accumulator, counter, cyclic, rule_of}
use Rattle.shape.specs.declared.Shape.{Shape}
use Rattle.slot.specs.declared.Slots.{Slots}
use Rattle.choice.specs.Choice.{slots_of}
use Rattle.paper.specs.declared.Next.{Next}
use Rattle.paper.specs.declared.Next.TheVariants.{Record, Fault, End as PaperEnd}
use Rattle.paper.specs.Paper.{next_at}
use Rattle.paper.specs.Walk.{part}
use Rattle.script.specs.Script.{rules_after}
use Rattle.state.specs.declared.Phase.{Phase}
use Rattle.state.specs.declared.Phase.TheVariants.{Idle, Opened, Asked}
use Rattle.state.specs.declared.State.{State}
use Rattle.records.specs.declared.Event.{Event}
use Rattle.records.specs.declared.Event.TheVariants.{SetUp, End, Refused, Answered}
use Rattle.marks.specs.Marks.{heard as heard_again}
use Rattle.closing.specs.Closing.{closed, ordered}
use Rattle.second.specs.Second.{unable_performed, verified_performed, second_performed}
use Rattle.card.specs.Card.{second_step}
use Rattle.conversation.specs.Conversation.{taken_of, taken_writes}
use Rattle.opening.specs.Opening.{begun_of, words_begun}
use Rattle.lines.specs.Sitting.{sitting_lines}
use Rattle.apart.specs.Off.{IsUnsent, IsOff, Quiet, IsUntested}
use Rattle.apart_papers.specs.Start.{SamePapers}
use Rattle.apart_papers.specs.Spared.{SparesNext, going, SparedFrom, SparedBy}
use Rattle.apart_papers.proofs.Lines.{apart-lines}
use Rattle.spelling.specs.Spelling.{big, record_of, unshown, first, second, kind_of, body_of, spell, paper_of}
use Rattle.spelling.proofs.Computed.{begun as set_up, answered, heard}
use Rattle.apart_samples.proofs.Samples.{zeros, base, sale, putting, reads}
use Rattle.std.specs.Prelude.{None, Option, Some}
use Rattle.shape.specs.declared.SelectionFile.{SelectionFile}

-- ---- the test

abbrev unsent_in : Sent → Meter → Bool
unsent_in sent (accumulator i) = not (eqb sent.accumulator (i + 1))
unsent_in sent (counter i) = not (eqb sent.first (i + 1)) && not (eqb sent.second (i + 1))
unsent_in sent (cyclic i) = true

abbrev off_in : Rules → Meter → Place → Bool
off_in rules x place = not (rule_of rules place x).active && unsent_in (profile_at rules place).sent x

abbrev quiet_in : Rules → Meter → Phase → Bool
quiet_in rules x Idle = true
quiet_in rules x (Opened place) = off_in rules x place
quiet_in rules x (Asked pending) = off_in rules x pending.place

-- where profiles are named no entry tests anything
abbrev named : Option SelectionFile → Bool
named None = true
named (Some part) = false

abbrev spares : Rules → Shape → State → Meter → Next → Bool
spares rules shape state x PaperEnd = true
spares rules shape state x Fault = true
spares rules shape state x (Record kind start end) = quiet_in rules x state.phase && named shape.selecting

abbrev onward : Event → Bool → Bool
onward SetUp more = more
onward End more = true
onward (Refused refusal) more = true
onward (Answered said answer) more = more

unfoldable spared_from : ℕ → Rules → Shape → State → (paper : List ℕ) (at : ℕ) → Meter → Bool
spared_from zero rules shape state paper at x = true
spared_from (suc n) rules shape state paper at x =
    let taken = taken_of rules shape state paper at in
    spares rules shape state x (next_at paper at)
    && onward taken.event (spared_from n (rules_after rules (taken_writes shape state paper at)) shape taken.state paper taken.at x)

unfoldable spared_by : (words paper : List ℕ) → Meter → Bool
spared_by words paper x =
    let begun = begun_of paper in
    spared_from (length paper) (rules_of (words_begun words paper)) begun.shape begun.state paper begun.at x

-- ---- what holds where it does

other : (m n : ℕ) → not (eqb m n) ≡ true → m ≡ n → ⊥
other m n e = eqb-false m n (not-true (eqb m n) e)

unsent-holds : (sent : Sent) (x : Meter) → unsent_in sent x ≡ true → IsUnsent sent x
unsent-holds sent (accumulator i) e = other sent.accumulator (i + 1) e
unsent-holds sent (counter i) e =
    let two = both (not (eqb sent.first (i + 1))) (not (eqb sent.second (i + 1))) e in
    (other sent.first (i + 1) two.0, other sent.second (i + 1) two.1)
unsent-holds sent (cyclic i) e = tt

off-holds : (rules : Rules) (x : Meter) (place : Place) → off_in rules x place ≡ true → IsOff rules x place
off-holds rules x place e =
    let two = both (not (rule_of rules place x).active) (unsent_in (profile_at rules place).sent x) e in
    record { inactive = not-true (rule_of rules place x).active two.0; unsent = unsent-holds (profile_at rules place).sent x two.1 }

quiet-holds : (rules : Rules) (x : Meter) (phase : Phase) → quiet_in rules x phase ≡ true → Quiet rules x phase
quiet-holds rules x Idle e = tt
quiet-holds rules x (Opened place) e = off-holds rules x place e
quiet-holds rules x (Asked pending) e = off-holds rules x pending.place e

untested-holds : (selecting : Option SelectionFile) → named selecting ≡ true → (slots : Slots) (paper : List ℕ) (kind : ℕ) (body : List ℕ) (x : Meter)
    → IsUntested selecting slots paper kind body x
untested-holds None e slots paper kind body x = tt
untested-holds (Some part) e slots paper kind body x = let z : ◌≡◌ {A = ℕ} 0 1 = cc in absurd (omega arith)

next-holds : (rules : Rules) (shape : Shape) (state : State) (paper : List ℕ) (x : Meter) (next : Next) → spares rules shape state x next ≡ true
    → SparesNext rules shape state paper x next
next-holds rules shape state paper x PaperEnd e = tt
next-holds rules shape state paper x Fault e = tt
next-holds rules shape state paper x (Record kind start end) e =
    let two = both (quiet_in rules x state.phase) (named shape.selecting) e in
    record {
      quiet = quiet-holds rules x state.phase two.0;
      untested = untested-holds shape.selecting two.1 (slots_of shape.family state.values) paper kind (part paper start end) x;
    }

onward-holds : (event : Event) (b : Bool) (more : Type 0) → onward event b ≡ true → (b ≡ true → more) → going event more
onward-holds SetUp b more e h = h e
onward-holds End b more e h = tt
onward-holds (Refused refusal) b more e h = tt
onward-holds (Answered said answer) b more e h = h e

spared_holds : (n : ℕ) (rules : Rules) (shape : Shape) (state : State) (paper : List ℕ) (at : ℕ) (x : Meter)
    → spared_from n rules shape state paper at x ≡ true → SparedFrom n rules shape state paper at x
unfolding spared_from SparedFrom
spared_holds zero rules shape state paper at x e = tt
spared_holds (suc n) rules shape state paper at x e =
    let taken = taken_of rules shape state paper at in
    let then = rules_after rules (taken_writes shape state paper at) in
    let more = spared_from n then shape taken.state paper taken.at x in
    let two = both (spares rules shape state x (next_at paper at)) (onward taken.event more) e in (
      next-holds rules shape state paper x (next_at paper at) two.0,
      onward-holds taken.event more (SparedFrom n then shape taken.state paper taken.at x) two.1
          (λ f. spared_holds n then shape taken.state paper taken.at x f),
    )

by_test : (words paper : List ℕ) (x : Meter) → spared_by words paper x ≡ true → SparedBy words paper x
unfolding spared_by SparedBy
by_test words paper x e =
    let begun = begun_of paper in
    spared_holds (length paper) (rules_of (words_begun words paper)) begun.shape begun.state paper begun.at x e

-- ---- the day, of version 06 with scripts on, from what accumulator 1 starts from

abbrev records : List ℕ
records =
    sale 1 ++ sale 0 ++ sale 2 ++ spell (second 1 0x3030 1 0x820000) ++ putting ++ sale 2 ++ spell (second 1 0x5933 0 0)
    ++ spell (first 1 1 0x0978 0x22 unshown)

unfoldable pub day_from : (start : ℕ) → List ℕ
day_from start = paper_of 6 (base start 6 0 ++ zeros 4 ++ 1 ∷ []) records

-- CIDs 40, 00, 80, 40; the script, which is done; 80 and 40; and refusal 2 at its end
unfoldable pub is_spared : List (List ℕ) → Bool
is_spared lines =
    eqb (length lines) 13 && reads lines 2 4 0x34 0x30 && reads lines 4 4 0x30 0x30 && reads lines 6 4 0x38 0x30 && reads lines 7 4 0x34 0x30
    && reads lines 8 2 0x30 0x0A
    && reads lines 10 5 0x38 0x30
    && reads lines 11 5 0x34 0x30
    && reads lines 12 3 0x32 0x0A

pub is-day : T (is_spared (sitting_lines blank_words (day_from 3)))
unfolding day_from is_spared kind_of body_of record_of big number second_step second_performed unable_performed verified_performed closed ordered heard_again answered
    heard
is-day = tt

tested : spared_by blank_words (day_from 3) (accumulator 0) ≡ true
unfolding spared_by spared_from day_from kind_of body_of record_of big number second_step second_performed unable_performed verified_performed closed ordered heard_again
    answered heard
tested = refl

-- EACH RECORD OF THE DAY spares accumulator 1
pub day_spares : SparedBy blank_words (day_from 3) (accumulator 0)
day_spares = by_test blank_words (day_from 3) (accumulator 0) tested

-- ---- the same day from 8: bytes that are the same but for those between two places, as a test, the first being at k

abbrev agree : (from to k : ℕ) (s t : List ℕ) → Bool
agree from to k [] [] = true
agree from to k [] (n ∷ others) = false
agree from to k (m ∷ more) [] = false
agree from to k (m ∷ more) (n ∷ others) = (eqb m n || (leb from k && ltb k to)) && agree from to (suc k) more others

module _ (from to : ℕ) where
  as_long : (k : ℕ) (s t : List ℕ) → agree from to k s t ≡ true → length s ≡ length t
  as_long k [] [] e = refl
  as_long k [] (n ∷ others) e = let z : ◌≡◌ {A = ℕ} 0 1 = cc in absurd (omega arith)
  as_long k (m ∷ more) [] e = let z : ◌≡◌ {A = ℕ} 0 1 = cc in absurd (omega arith)
  as_long k (m ∷ more) (n ∷ others) e =
      ap suc (as_long (suc k) more others (both (eqb m n || (leb from k && ltb k to)) (agree from to (suc k) more others) e).1)

  same_here : (k m n : ℕ) → (k < from) ⊎ (to ≤ k) → (b : Bool) → eqb m n ≡ b → (b || (leb from k && ltb k to)) ≡ true → m ≡ n
  same_here k m n o true d e = eqb-true m n d
  same_here k m n o false d e =
      let two = both (leb from k) (ltb k to) e in absurd (inside o (leb-true from k two.0) (ltb-true k to two.1))
    where
      inside : (k < from) ⊎ (to ≤ k) → from ≤ k → k < to → ⊥
      inside (inl h) f t = omega arith
      inside (inr h) f t = omega arith

  elsewhere : (k : ℕ) (s t : List ℕ) → agree from to k s t ≡ true → (j : ℕ) → (k + j < from) ⊎ (to ≤ k + j) → byte s j ≡ byte t j
  elsewhere k [] [] e j o = refl
  elsewhere k [] (n ∷ others) e j o = let z : ◌≡◌ {A = ℕ} 0 1 = cc in absurd (omega arith)
  elsewhere k (m ∷ more) [] e j o = let z : ◌≡◌ {A = ℕ} 0 1 = cc in absurd (omega arith)
  elsewhere k (m ∷ more) (n ∷ others) e zero o =
      same_here k m n (here o) (eqb m n) refl (both (eqb m n || (leb from k && ltb k to)) (agree from to (suc k) more others) e).0
    where
      here : (k + zero < from) ⊎ (to ≤ k + zero) → (k < from) ⊎ (to ≤ k)
      here (inl h) = inl (omega arith)
      here (inr h) = inr (omega arith)
  elsewhere k (m ∷ more) (n ∷ others) e (suc j) o =
      elsewhere (suc k) more others (both (eqb m n || (leb from k && ltb k to)) (agree from to (suc k) more others) e).1 j (next o)
    where
      next : (k + suc j < from) ⊎ (to ≤ k + suc j) → (suc k + j < from) ⊎ (to ≤ suc k + j)
      next (inl h) = inl (omega arith)
      next (inr h) = inr (omega arith)

  agreed : (s t : List ℕ) → agree from to 0 s t ≡ true → (j : ℕ) → (j < from) ⊎ (to ≤ j) → byte s j ≡ byte t j
  agreed s t e j o = elsewhere 0 s t e j (from_0 o) where
    from_0 : (j < from) ⊎ (to ≤ j) → (0 + j < from) ⊎ (to ≤ 0 + j)
    from_0 (inl h) = inl (omega arith)
    from_0 (inr h) = inr (omega arith)

days_agree : agree 14 22 0 (day_from 3) (day_from 8) ≡ true
unfolding day_from kind_of body_of record_of big
days_agree = refl

pub same_days : SamePapers (accumulator 0) (day_from 3) (day_from 8)
same_days = record { as_long = as_long 14 22 0 (day_from 3) (day_from 8) days_agree; elsewhere = agreed 14 22 (day_from 3) (day_from 8) days_agree }

accepted : (begun_of (day_from 3)).event ≡ SetUp
unfolding day_from kind_of body_of record_of big number set_up
accepted = refl

other-accepted : (begun_of (day_from 8)).event ≡ SetUp
unfolding day_from kind_of body_of record_of big number set_up
other-accepted = refl

-- EVERY PREMISE OF `apart-lines` IS MET: the day's lines from 3 are those from 8
pub day-lines : sitting_lines blank_words (day_from 3) ≡ sitting_lines blank_words (day_from 8)
day-lines = apart-lines (accumulator 0) (omega arith) blank_words (day_from 3) (day_from 8) same_days accepted other-accepted day_spares
