-- What a log hears of a record's bytes is what its command says, and the next record is where the walk goes on. Assumes nothing.
use mathlib.Core.Path.{◌≡◌, refl, sym, ap, ◌∙◌}
use mathlib.Core.Bool.{Bool, true, false, cond, ◌&&◌}
use mathlib.Core.List.{List, [], ◌∷◌}
use Prim.Native.Nat.{ℕ, ◌+◌, ◌-◌, ◌<◌}
use native.Mathlib.Omega.{arith}
use borrow.Author.Tests.{eqb-true, eq-eqb, ne_eqb}
use lib.Dec.{leb, eqb}
use lib.ListN.{length, drop, length-take}
use lib.Seq.{get_or-take, get_or-drop}
use Rattle.wire.specs.Wire.{byte, number}
use Rattle.rules.specs.declared.Values.{Values}
use Rattle.rules.specs.Rules.{Rules}
use Rattle.paper.specs.Paper.{end_at, is_fault_at, next_at, place_after}
use Rattle.paper.specs.Walk.{part}
use Rattle.shape.specs.declared.Family.{Family}
use Rattle.shape.specs.declared.Shape.{Shape}
use Rattle.state.specs.declared.Answer.{Answer}
use Rattle.state.specs.declared.State.{State}
use Rattle.command.specs.Command.{is_cpace, start_length, first_length, slots_of, second_of, command_of, start_selected, selecting_of, read_by, command_in}
use Rattle.records.specs.declared.Said.{Said}
use Rattle.records.specs.declared.Said.TheVariants.{Command as SaidCommand, Script}
use Rattle.records.specs.declared.Event.TheVariants.{Answered}
use Rattle.records.specs.declared.Taken.{Taken}
use Rattle.records.specs.Records.{answered_by, scripted_by, record_taken}
use Rattle.conversation.specs.Conversation.{taken_of}
use Rattle.journal.specs.declared.Heard.TheVariants.{First, Second, Other}
use Rattle.paper_log.specs.Log.{heard_in}
use Rattle.log_laws.specs.Spoken.{heard_of}
use Rattle.std.specs.Prelude.{Err, None, Ok, Option, Result, Some}
use Rattle.command.specs.declared.Command.{Command}
use Rattle.refusal.specs.declared.Refusal.{Refusal}
use Rattle.shape.specs.declared.SelectionFile.{SelectionFile}
use Rattle.shape.specs.declared.Span.{Span}

pub both : (m n i j : ℕ) → (eqb m n && eqb i j) ≡ true → (m ≡ n) × (i ≡ j)
both m n i j = by (eqb m n) refl where
  by : (b : Bool) → eqb m n ≡ b → (b && eqb i j) ≡ true → (m ≡ n) × (i ≡ j)
  by true e h = (eqb-true m n e, eqb-true i j h)
  by false e h = let z : ◌≡◌ {A = ℕ} 0 1 = cc in absurd (omega arith)

pub fork : {A : Type 0} (P : A → Type 0) (b : Bool) {x y : A} → (b ≡ true → P x) → (b ≡ false → P y) → P (cond b x y)
fork P true h k = h refl
fork P false h k = k refl

module _ (paper : List ℕ) (at : ℕ) where
  abbrev kind : ℕ
  kind = byte paper (at + 2)

  abbrev body : List ℕ
  body = part paper (at + 3) (end_at paper at)

  -- ---- what is heard of its bytes is by its kind

  heard_as : (code : ℕ) → number (drop at paper) 4 2 ≡ code
      → heard_in (drop at paper) ≡ cond (eqb kind 3) First (cond (eqb kind 4) (Second code) Other)
  heard_as code e = rw (get_or-drop at paper 2 0, e)

  heard-first : kind ≡ 3 → heard_in (drop at paper) ≡ First
  heard-first is = heard_as _ refl ∙ rw (eq-eqb kind 3 is)

  heard-second : (code : ℕ) → number (drop at paper) 4 2 ≡ code → kind ≡ 4 → heard_in (drop at paper) ≡ Second code
  heard-second code e is = heard_as code e ∙ rw (ne_eqb kind 3 (λ q. omega arith), eq-eqb kind 4 is)

  heard-other : (kind ≡ 3 → ⊥) → (kind ≡ 4 → ⊥) → heard_in (drop at paper) ≡ Other
  heard-other three four = heard_as _ refl ∙ rw (ne_eqb kind 3 three, ne_eqb kind 4 four)

  -- the response code stands in the second byte and the third of a body that has them
  there : length body ≡ 8 → (i k : ℕ) → i < 8 → at + 3 + i ≡ at + k → byte body i ≡ byte (drop at paper) k
  there long i k h same =
      let size = length-take (end_at paper at - (at + 3)) (drop (at + 3) paper) in
      get_or-take (end_at paper at - (at + 3)) (drop (at + 3) paper) i 0 (omega arith)
      ∙ get_or-drop (at + 3) paper i 0
      ∙ ap (byte paper) same
      ∙ sym (get_or-drop at paper k 0)

  code-there : length body ≡ 8 → number (drop at paper) 4 2 ≡ number body 1 2
  unfolding number
  code-there long = rw (there long 1 4 (omega arith) (omega arith), there long 2 5 (omega arith) (omega arith))

  -- ---- what its command says

  abbrev AsSaid : Result Command Refusal → Type 0
  AsSaid (Ok command) = heard_in (drop at paper) ≡ heard_of (SaidCommand command)
  AsSaid (Err refusal) = Unit

  start-said : kind ≡ 2 → heard_in (drop at paper) ≡ Other
  start-said is = heard-other (λ q. omega arith) (λ q. omega arith)

  -- it is of a kind and has a length
  abbrev is_of : (n long : ℕ) → Bool
  is_of n long = eqb kind n && eqb (length body) long

  of : (n long : ℕ) → is_of n long ≡ true → (kind ≡ n) × (length body ≡ long)
  of n long = both kind n (length body) long

  named-said : (dating : Option Span) (family : Family) → AsSaid (command_of dating family kind body)
  unfolding command_of second_of
  named-said dating family =
      fork AsSaid (is_of 2 (start_length family)) (λ e. start-said (of 2 (start_length family) e).0) (λ not_start.
      fork AsSaid (is_of 3 (first_length dating family)) (λ e. heard-first (of 3 (first_length dating family) e).0) (λ not_first.
      fork AsSaid (is_of 4 8) (λ e. heard-second (number body 1 2) (code-there (of 4 8 e).1) (of 4 8 e).0) (λ no_command. tt)))

  command-said : (shape : Shape) (values : Values) → AsSaid (command_in shape values paper kind body)
  unfolding command_in
  command-said shape values = by shape.selecting where
    by : (selecting : Option SelectionFile)
        → AsSaid (read_by selecting shape.dating shape.family (slots_of shape.family values) paper kind body)
    by None = named-said shape.dating shape.family
    by (Some part) = (unfold selecting_of start_selected in
        fork AsSaid (eqb kind 2)
        (λ e. fork AsSaid (is_cpace shape.family && eqb (length body) 0) (λ none. tt) (λ some. start-said (eqb-true kind 2 e)))
        (λ not_start. named-said shape.dating shape.family))

  -- ---- a record that is answered

  abbrev Heeded : (next : ℕ) → Taken → Type 0
  Heeded next taken =
      (said : Said) (answer : Answer) → taken.event ≡ Answered said answer → (heard_in (drop at paper) ≡ heard_of said) × (next ≡ taken.at)

  script_heeded : (state : State) (s : List ℕ) (end : ℕ) → eqb kind 5 ≡ true → Heeded end (scripted_by state s end)
  unfolding scripted_by
  script_heeded state [] end is said answer e = let z : ◌≡◌ {A = ℕ} 0 1 = cc in absurd (omega arith)
  script_heeded state (result ∷ template) end is said answer e =
      let five = eqb-true kind 5 is in
      let same : Script ≡ said = cc in
      (heard-other (λ q. omega arith) (λ q. omega arith) ∙ ap heard_of same, refl)

  command_heeded : (rules : Rules) (state : State) (end : ℕ) (read : Result Command Refusal) → AsSaid read → Heeded end (answered_by rules state end read)
  unfolding answered_by
  command_heeded rules state end (Err refusal) h said answer e = let z : ◌≡◌ {A = ℕ} 0 1 = cc in absurd (omega arith)
  command_heeded rules state end (Ok command) h said answer e = let same : SaidCommand command ≡ said = cc in (h ∙ ap heard_of same, refl)

  module _ (rules : Rules) (shape : Shape) (state : State) where
    abbrev end : ℕ
    end = end_at paper at

    record_heeded : Heeded end (record_taken rules shape state paper kind body end)
    record_heeded = by shape.scripting where
      commands : Heeded end (answered_by rules state end (command_in shape state.values paper kind body))
      commands = command_heeded rules state end (command_in shape state.values paper kind body) (command-said shape state.values)

      by : (on : Bool)
          → Heeded end (cond (on && eqb kind 5) (scripted_by state body end) (answered_by rules state end (command_in shape state.values paper kind body)))
      by true = fork (Heeded end) (eqb kind 5) (λ e. script_heeded state body end e) (λ other. commands)
      by false = commands

    heeded : Heeded (place_after paper at) (taken_of rules shape state paper at)
    unfolding taken_of next_at place_after
    heeded = by (leb (length paper) at) (is_fault_at paper at) refl refl where
      by : (over fault : Bool) → leb (length paper) at ≡ over → is_fault_at paper at ≡ fault
          → Heeded (place_after paper at) (taken_of rules shape state paper at)
      by true fault e f = rw e (λ said answer q. let z : ◌≡◌ {A = ℕ} 0 1 = cc in absurd (omega arith))
      by false true e f = rw (e, f) (λ said answer q. let z : ◌≡◌ {A = ℕ} 0 1 = cc in absurd (omega arith))
      by false false e f = rw (e, f) record_heeded

-- OF A RECORD THAT IS ANSWERED A LOG HEARS, BY ITS BYTES, WHAT ITS COMMAND SAYS
module _ (rules : Rules) (shape : Shape) (state : State) (paper : List ℕ) (at : ℕ) (said : Said) (answer : Answer)
    (e : (taken_of rules shape state paper at).event ≡ Answered said answer) where
  pub heard_as_said : heard_in (drop at paper) ≡ heard_of said
  heard_as_said = (heeded paper at rules shape state said answer e).0

  -- and the next record is where the walk goes on
  pub place-behind : place_after paper at ≡ (taken_of rules shape state paper at).at
  place-behind = (heeded paper at rules shape state said answer e).1
