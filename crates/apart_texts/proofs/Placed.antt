-- The transactions that are logged stand behind the set-up's head: First does, and Second where there is one. Assumes nothing.
use mathlib.Core.Path.{◌≡◌, refl, sym, subst}
use mathlib.Core.Bool.{Bool, true, false, cond}
use mathlib.Core.Logic.{◌⊎◌, inl, inr}
use mathlib.Core.List.{List, [], ◌∷◌, ◌++◌}
use Prim.Native.Nat.{ℕ, zero, suc, ◌+◌, ◌≤◌}
use native.Mathlib.Omega.{arith}
use lib.Dec.{eqb}
use lib.ListN.{take}
use Rattle.refusal.specs.declared.Refusal.{Refusal}
use Rattle.iad.specs.declared.Cvr.{Cvr}
use Rattle.rules.specs.declared.Place.{Place}
use Rattle.rules.specs.Rules.{Rules}
use Rattle.purchase.specs.declared.Purchase.{Purchase}
use Rattle.selection.specs.Selection.{visits_of}
use Rattle.shape.specs.declared.Shape.{Shape}
use Rattle.command.specs.declared.Start.{Start}
use Rattle.command.specs.declared.First.{First}
use Rattle.command.specs.declared.Second.{Second}
use Rattle.command.specs.declared.Command.TheVariants.{Start as StartCommand, First as FirstCommand, Second as SecondCommand}
use Rattle.command.specs.Command.{command_in}
use Rattle.state.specs.declared.Answer.{Answer}
use Rattle.state.specs.declared.Answer.TheVariants.{Refused as AnswerRefused, Started, Given, Done}
use Rattle.state.specs.declared.Kind.{Kind}
use Rattle.state.specs.declared.Pending.{Pending}
use Rattle.state.specs.declared.Phase.{Phase}
use Rattle.state.specs.declared.Phase.TheVariants.{Idle, Opened, Asked}
use Rattle.state.specs.declared.State.{State}
use Rattle.state.specs.declared.Outcome.{Outcome}
use Rattle.state.specs.Ruling.{Ruling, refuse, take as taken_up, refused, carried}
use Rattle.first.specs.First.{is_arqc, is_tc, settled, asked, concluded, first_answered, first_performed}
use Rattle.meters.specs.Meters.{offline}
use Rattle.closing.specs.Closing.{closed}
use Rattle.second.specs.Second.{is_unable, unable_performed, verified_performed, failed_performed, absent_performed, second_performed}
use Rattle.card.specs.Card.{rule_start, start_performed, start_step, rule_first, first_step, rule_second_fields, rule_second, second_step, step_of}
use Rattle.scripting.specs.Scripting.{rule_script, script_performed, script_step}
use Rattle.script.specs.Script.{rules_after}
use Rattle.records.specs.declared.Event.{Event}
use Rattle.records.specs.declared.Event.TheVariants.{SetUp, End, Refused, Answered}
use Rattle.records.specs.Records.{answered_by, scripted_by, is_script}
use Rattle.paper.specs.declared.Next.{Next}
use Rattle.paper.specs.declared.Next.TheVariants.{Record as NextRecord, Fault, End as PaperEnd}
use Rattle.paper.specs.Paper.{next_at}
use Rattle.paper.specs.Walk.{part}
use Rattle.conversation.specs.Conversation.{next_taken, taken_of, taken_writes}
use Rattle.ring.specs.declared.Record.{Record}
use Rattle.journal.specs.declared.Logging.{Logging}
use Rattle.journal.specs.declared.Heard.{Heard}
use Rattle.journal.specs.declared.Heard.TheVariants.{First as HeardFirst, Second as HeardSecond, Other}
use Rattle.journal.specs.Journal.{is_logged, closed_by}
use Rattle.journal.specs.Logged.{Seen, is_given, first_in, cryptogram, logged_by, logged_in, turned}
use Rattle.log_laws.specs.Spoken.{heard_of, seen_then, seen_from}
use Rattle.std.specs.Prelude.{Err, Ok, Result}
use Rattle.command.specs.declared.Command.{Command}

-- WHERE A LOGGED TRANSACTION STANDS
pub record Behind (kept : Record) : Type 0 where
  pub first : 56 ≤ kept.first
  pub second : (kept.second ≡ 0) ⊎ (56 ≤ kept.second)

abbrev pub AllBehind : List Record → Type 0
AllBehind [] = Unit
AllBehind (kept ∷ more) = Behind kept × AllBehind more

both_behind : (some others : List Record) → AllBehind some → AllBehind others → AllBehind (some ++ others)
both_behind [] others h k = k
both_behind (kept ∷ some) others h k = (h.0, both_behind some others h.1 k)

pub take_behind : (n : ℕ) (all : List Record) → AllBehind all → AllBehind (take n all)
take_behind zero all h = tt
take_behind (suc n) [] h = tt
take_behind (suc n) (kept ∷ more) h = (h.0, take_behind n more h.1)

-- where Second is due, the last First that was answered by a cryptogram stands behind the head
abbrev pub Asking : Phase → (first : ℕ) → Type 0
Asking Idle first = Unit
Asking (Opened place) first = Unit
Asking (Asked pending) first = 56 ≤ first

any_asking : (phase : Phase) (first : ℕ) → 56 ≤ first → Asking phase first
any_asking Idle first h = tt
any_asking (Opened place) first h = tt
any_asking (Asked pending) first h = h

-- ---- one record, whose body stands at a place, behind records that were answered

module _ (logging : Logging) (at : ℕ) (h : 56 ≤ at) (before : List Seen) where
  abbrev Kept : Heard → (answer : Answer) → Phase → Type 0
  Kept said answer phase =
      Asking phase (first_in (record { said = said; at = at; answer = answer } ∷ before))
      × AllBehind (logged_by logging said at (first_in before) answer)

  abbrev KeptIn : Heard → Outcome → Type 0
  KeptIn said outcome = Kept said outcome.answer outcome.state.phase

  refused-kept : (said : Heard) (state : State) (refusal : Refusal) → Asking state.phase (first_in before) → KeptIn said (refused state refusal)
  unfolding first_in
  refused-kept HeardFirst state refusal asking = (asking, tt)
  refused-kept (HeardSecond code) state refusal asking = (asking, tt)
  refused-kept Other state refusal asking = (asking, tt)

  ruled_kept : {A : Type 0} (said : Heard) (state : State) (perform : A → Outcome) (ruling : Ruling A) → Asking state.phase (first_in before)
      → ((what : A) → KeptIn said (perform what)) → KeptIn said (carried state perform ruling)
  ruled_kept said state perform (refuse refusal) asking kept = refused-kept said state refusal asking
  ruled_kept said state perform (taken_up what) asking kept = kept what

  start-kept : (rules : Rules) (state : State) (start : Start) → Asking state.phase (first_in before) → KeptIn Other (start_step rules state start)
  unfolding start_step
  start-kept rules state start asking =
      ruled_kept Other state (start_performed state (visits_of start.chosen)) (rule_start rules state.atc start) asking (λ place. (tt, tt))

  -- First

  first-logged : (answer : Answer) → AllBehind (logged_by logging HeardFirst at (first_in before) answer)
  first-logged (AnswerRefused refusal) = tt
  first-logged (Started atc visits) = tt
  first-logged (Given kind atc iad) = by (is_logged logging HeardFirst (cryptogram kind atc iad)) where
    by : (b : Bool) → AllBehind (cond b (closed_by at 0 (cryptogram kind atc iad) ∷ []) [])
    by true = ((unfold closed_by in record { first = h; second = inl refl }), tt)
    by false = tt
  first-logged Done = tt

  given-kept : (outcome : Outcome) → is_given outcome.answer ≡ true → KeptIn HeardFirst outcome
  unfolding first_in
  given-kept outcome given = (
    subst (λ (b : Bool). Asking outcome.state.phase (cond b at (first_in before))) (sym given) (any_asking outcome.state.phase at h),
    first-logged outcome.answer,
  )

  concluded-given : (rules : Rules) (state : State) (place : Place) (purchase : Purchase) (limits : ℕ) (cvr : Cvr) (kind : Kind)
      → is_given (concluded rules state place purchase limits cvr kind).answer ≡ true
  unfolding concluded asked settled
  concluded-given rules state place purchase limits cvr kind = by (is_arqc kind) where
    by : (b : Bool)
        → is_given (cond b (asked rules state place purchase limits cvr) (settled rules state place cvr kind (offline (is_tc kind) purchase))).answer ≡ true
    by true = refl
    by false = refl

  first-kept : (rules : Rules) (state : State) (first : First) → Asking state.phase (first_in before) → KeptIn HeardFirst (first_step rules state first)
  unfolding first_step
  first-kept rules state first asking =
      ruled_kept HeardFirst state (first_performed rules state first) (rule_first state.phase first) asking
      (λ place. given-kept (first_performed rules state first place) (unfold first_performed first_answered in concluded-given _ _ _ _ _ _ _))

  -- Second

  second-logged : (code : ℕ) → 56 ≤ first_in before → (answer : Answer) → AllBehind (logged_by logging (HeardSecond code) at (first_in before) answer)
  second-logged code f (AnswerRefused refusal) = tt
  second-logged code f (Started atc visits) = tt
  second-logged code f (Given kind atc iad) = by (is_logged logging (HeardSecond code) (cryptogram kind atc iad)) where
    by : (b : Bool) → AllBehind (cond b (closed_by (first_in before) at (cryptogram kind atc iad) ∷ []) [])
    by true = ((unfold closed_by in record { first = f; second = inr h }), tt)
    by false = tt
  second-logged code f Done = tt

  second-closes : (rules : Rules) (state : State) (second : Second) (pending : Pending) → (second_performed rules state second pending).state.phase ≡ Idle
  unfolding second_performed unable_performed verified_performed failed_performed absent_performed closed
  second-closes rules state second pending = by (is_unable second.code) (eqb second.issuer 1) (eqb second.issuer 2) where
    by : (a b c : Bool)
        → (cond a (unable_performed rules state second.requested pending)
        (cond b (verified_performed rules state second pending)
        (cond c (failed_performed rules state pending) (absent_performed rules state second.requested pending)))).state.phase ≡ Idle
    by true b c = refl
    by false true c = refl
    by false false true = refl
    by false false false = refl

  second-kept : (rules : Rules) (state : State) (second : Second) (code : ℕ) → Asking state.phase (first_in before)
      → KeptIn (HeardSecond code) (second_step rules state second)
  unfolding second_step
  second-kept rules state second code asking = by state.phase asking where
    by : (phase : Phase) → Asking phase (first_in before)
        → KeptIn (HeardSecond code) (carried state (second_performed rules state second) (rule_second phase second))
    by Idle due = refused-kept (HeardSecond code) state _ asking
    by (Opened place) due = refused-kept (HeardSecond code) state _ asking
    by (Asked pending) due =
        ruled_kept (HeardSecond code) state (second_performed rules state second) (rule_second_fields second pending) asking
        (λ what. (
          subst (λ (phase : Phase). Asking phase (first_in (record {
            said = HeardSecond code;
            at = at;
            answer = (second_performed rules state second what).answer;
          } ∷ before))) (sym (second-closes rules state second what)) tt,
          second-logged code due (second_performed rules state second what).answer,
        ))

  -- a script

  script-kept : (state : State) (result : ℕ) (template : List ℕ) → Asking state.phase (first_in before) → KeptIn Other (script_step state result template)
  unfolding script_step script_performed first_in
  script-kept state result template asking =
      ruled_kept Other state (script_performed state template) (rule_script state.phase result template) asking (λ verified. (asking, tt))

  -- what a record comes to

  abbrev KeptBy : Event → Phase → Type 0
  KeptBy SetUp phase = Asking phase (first_in before)
  KeptBy End phase = Unit
  KeptBy (Refused refusal) phase = Unit
  KeptBy (Answered said answer) phase = Kept (heard_of said) answer phase

  module _ (rules : Rules) (state : State) (asking : Asking state.phase (first_in before)) where
    answered-kept : (end : ℕ) (read : Result Command Refusal)
        → KeptBy (answered_by rules state end read).event (answered_by rules state end read).state.phase
    unfolding answered_by step_of
    answered-kept end (Err refusal) = tt
    answered-kept end (Ok (StartCommand start)) = start-kept rules state start asking
    answered-kept end (Ok (FirstCommand first)) = first-kept rules state first asking
    answered-kept end (Ok (SecondCommand second)) = second-kept rules state second second.code asking

    scripted-kept : (body : List ℕ) (end : ℕ) → KeptBy (scripted_by state body end).event (scripted_by state body end).state.phase
    unfolding scripted_by
    scripted-kept [] end = tt
    scripted-kept (result ∷ template) end = script-kept state result template asking

    pub taken-kept : (shape : Shape) (paper : List ℕ) (place : ℕ)
        → KeptBy (taken_of rules shape state paper place).event (taken_of rules shape state paper place).state.phase
    unfolding taken_of
    taken-kept shape paper place = by (next_at paper place) where
      by-script : (b : Bool) (body : List ℕ) (end : ℕ) (read : Result Command Refusal)
          → KeptBy (cond b (scripted_by state body end) (answered_by rules state end read)).event
          (cond b (scripted_by state body end) (answered_by rules state end read)).state.phase
      by-script true body end read = scripted-kept body end
      by-script false body end read = answered-kept end read

      by : (next : Next) → KeptBy (next_taken rules shape state paper place next).event (next_taken rules shape state paper place next).state.phase
      by PaperEnd = tt
      by Fault = tt
      by (NextRecord kind start end) =
          by-script (is_script shape kind) (part paper start end) end (command_in shape state.values paper kind (part paper start end))

-- ---- all of them

then_behind : (logging : Logging) (at : ℕ) (h : 56 ≤ at + 3) (before : List Seen) (event : Event) (phase : Phase) (more : List Seen)
    → AllBehind (logged_in logging before)
    → KeptBy logging (at + 3) h before event phase
    → ((seen : List Seen) → Asking phase (first_in seen) → AllBehind (logged_in logging seen) → AllBehind (logged_in logging (turned seen more)))
    → AllBehind (logged_in logging (turned before (seen_then at event more)))
unfolding logged_in
then_behind logging at h before SetUp phase more all kept on = on before kept all
then_behind logging at h before End phase more all kept on = all
then_behind logging at h before (Refused refusal) phase more all kept on = all
then_behind logging at h before (Answered said answer) phase more all kept on =
    let one : Seen = record { said = heard_of said; at = at + 3; answer = answer } in
    on (one ∷ before) kept.0
    (both_behind (logged_by logging (heard_of said) (at + 3) (first_in before) answer) (logged_in logging before) kept.1 all)

-- EVERY TRANSACTION THAT IS LOGGED, of records from a place behind the head on, where each next one stands behind it too
pub all-behind : (logging : Logging) (shape : Shape) (paper : List ℕ)
    → ((rules : Rules) (state : State) (at : ℕ) → 56 ≤ at → 56 ≤ (taken_of rules shape state paper at).at)
    → (n : ℕ) (rules : Rules) (state : State) (at : ℕ) (before : List Seen) → 56 ≤ at → Asking state.phase (first_in before)
    → AllBehind (logged_in logging before) → AllBehind (logged_in logging (turned before (seen_from n rules shape state paper at)))
unfolding seen_from
all-behind logging shape paper onward zero rules state at before h asking all = all
all-behind logging shape paper onward (suc n) rules state at before h asking all =
    let taken = taken_of rules shape state paper at in
    let then = rules_after rules (taken_writes shape state paper at) in
    then_behind logging at (omega arith) before taken.event taken.state.phase (seen_from n then shape taken.state paper taken.at) all
    (taken-kept logging (at + 3) (omega arith) before rules state asking shape paper at)
    (λ seen asks kept. all-behind logging shape paper onward n then taken.state taken.at seen (onward rules state at h) asks kept)
