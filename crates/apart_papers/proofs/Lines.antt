-- REQUEST FOURTEEN over papers: two that are the same but for what x starts from, and whose records spare x, have the same lines. The premise is
-- on the one paper's run. Assumes nothing.
use mathlib.Core.Path.{◌≡◌, refl, sym, ap, ap₂, subst, ◌∙◌}
use mathlib.Core.Bool.{Bool, true, false, cond, ◌&&◌}
use mathlib.Core.List.{List, [], ◌∷◌}
use Prim.Native.Nat.{ℕ, zero, suc, ◌+◌, ◌-◌, ◌≤◌}
use native.Mathlib.Omega.{arith}
use lib.Dec.{leb}
use lib.ListN.{length, take, drop, length-drop}
use lib.Seq.{get_or-drop, ext_get_or}
use Rattle.wire.specs.Wire.{byte}
use Rattle.rules.specs.Rules.{Rules, rules_of}
use Rattle.purchase.specs.Meter.{Meter}
use Rattle.slot.specs.declared.Slots.{Slots}
use Rattle.shape.specs.declared.Family.{Family}
use Rattle.shape.specs.declared.Shape.{Shape}
use Rattle.choice.specs.Choice.{file_in, slots_of}
use Rattle.command.specs.Command.{selecting_of, read_by, command_in}
use Rattle.script.specs.Script.{rules_after}
use Rattle.state.specs.declared.State.{State}
use Rattle.records.specs.declared.Event.{Event}
use Rattle.records.specs.declared.Event.TheVariants.{SetUp, End as EventEnd, Refused, Answered}
use Rattle.records.specs.declared.Taken.{Taken}
use Rattle.records.specs.Records.{answered_by, scripted_by, is_script, record_taken, record_writes}
use Rattle.paper.specs.declared.Next.{Next}
use Rattle.paper.specs.declared.Next.TheVariants.{Record, Fault, End}
use Rattle.paper.specs.Paper.{end_at, is_fault_at, next_at}
use Rattle.paper.specs.Walk.{part}
use Rattle.opening.specs.Opening.{begun_of, words_begun}
use Rattle.conversation.specs.Conversation.{next_taken, taken_of, next_writes, taken_writes}
use Rattle.conversation.specs.Events.{following, events_from, events_of}
use Rattle.lines.specs.Sitting.{lines_of, sitting_lines}
use Rattle.apart.specs.Alike.{Alike}
use Rattle.apart.proofs.Records.{SameTaken, record_apart, writes_apart}
use Rattle.apart_papers.specs.Start.{IsSwitch, SamePapers}
use Rattle.apart_papers.specs.Spared.{SparesNext, going, SparedFrom, SparedBy}
use Rattle.apart_papers.proofs.Begun.{late, next-same, LateFile, paper-begins}
use Rattle.std.specs.Prelude.{Err, None, Ok, Option, Result, Some}
use Rattle.command.specs.declared.Command.{Command}
use Rattle.refusal.specs.declared.Refusal.{Refusal}
use Rattle.shape.specs.declared.SelectionFile.{SelectionFile}
use Rattle.shape.specs.declared.Span.{Span}

-- the place behind a record is its end
record_place : (rules : Rules) (shape : Shape) (state : State) (paper : List ℕ) (kind : ℕ) (body : List ℕ) (end : ℕ)
    → (record_taken rules shape state paper kind body end).at ≡ end
unfolding answered_by scripted_by
record_place rules shape state paper kind body end = by (is_script shape kind) where
  by-command : (read : Result Command Refusal) → (answered_by rules state end read).at ≡ end
  by-command (Err refusal) = refl
  by-command (Ok command) = refl

  by-script : (body : List ℕ) → (scripted_by state body end).at ≡ end
  by-script [] = refl
  by-script (result ∷ template) = refl

  by : (b : Bool) → (cond b (scripted_by state body end) (answered_by rules state end (command_in shape state.values paper kind body))).at ≡ end
  by true = by-script body
  by false = by-command (command_in shape state.values paper kind body)

-- where the conversation goes on, the rest is the same
follow-same : (event : Event) (spared : Type 0) (a b : List Event) → going event spared → (spared → a ≡ b) → following event a ≡ following event b
follow-same SetUp spared a b g h = ap (λ (l : List Event). SetUp ∷ l) (h g)
follow-same EventEnd spared a b g h = refl
follow-same (Refused refusal) spared a b g h = refl
follow-same (Answered said answer) spared a b g h = ap (λ (l : List Event). Answered said answer ∷ l) (h g)

-- a record that stands behind the head
abbrev LateNext : Next → Type 0
LateNext End = Unit
LateNext Fault = Unit
LateNext (Record kind start end) = (56 ≤ start) × (56 ≤ end)

late-next : (p : List ℕ) (at : ℕ) → 56 ≤ at → LateNext (next_at p at)
unfolding next_at
late-next p at h = by (leb (length p) at) (is_fault_at p at) where
  by : (a b : Bool) → LateNext (cond a End (cond b Fault (Record (byte p (at + 2)) (at + 3) (end_at p at))))
  by true b = tt
  by false true = tt
  by false false = (omega arith, omega arith)

module _ (x : Meter) (is : IsSwitch x) (p q : List ℕ) (same : SamePapers x p q) where
  -- ---- behind the set-up both are the same

  pub drop_late : (at : ℕ) → 56 ≤ at → drop at p ≡ drop at q
  drop_late at h =
      ext_get_or 0 (drop at p) (drop at q) (length-drop at p ∙ ap (λ (n : ℕ). n - at) same.as_long ∙ sym (length-drop at q))
      (λ k l. get_or-drop at p k 0 ∙ late x is p q same (at + k) (omega arith) ∙ sym (get_or-drop at q k 0))

  part_same : (start end : ℕ) → 56 ≤ start → part p start end ≡ part q start end
  part_same start end h = ap (take (end - start)) (drop_late start h)

  next-late : (at : ℕ) → 56 ≤ at → next_at p at ≡ next_at q at
  next-late at h = next-same x is p q same at (λ k l. late x is p q same (at + k) (omega arith))

  file-same : (start end : ℕ) → 56 ≤ start → file_in p start end ≡ file_in q start end
  file-same start end h =
      ap₂ (λ (n : ℕ) (rest : List ℕ). cond (leb start end && leb end n) (take (end - start) rest) []) same.as_long (drop_late start h)

  read_same : (selecting : Option SelectionFile) → LateFile selecting → (dating : Option Span) (family : Family) (slots : Slots) (kind : ℕ) (body : List ℕ)
      → read_by selecting dating family slots p kind body ≡ read_by selecting dating family slots q kind body
  read_same None l dating family slots kind body = refl
  read_same (Some part) l dating family slots kind body =
      ap (λ (file : List ℕ). selecting_of dating family slots file part.entries kind body) (file-same part.start part.end l)

  module _ (shape : Shape) (file : LateFile shape.selecting) where
    record_same : (rules : Rules) (state : State) (kind : ℕ) (body : List ℕ) (end : ℕ)
        → record_taken rules shape state p kind body end ≡ record_taken rules shape state q kind body end
    unfolding command_in
    record_same rules state kind body end =
        ap (λ (command : Result Command Refusal). cond (is_script shape kind) (scripted_by state body end) (answered_by rules state end command))
        (read_same shape.selecting file shape.dating shape.family (slots_of shape.family state.values) kind body)

    -- ---- the record at a place

    module _ (rules : Rules) (state other : State) (alike : Alike x state other) (at : ℕ) (h : 56 ≤ at) where
      pub taken-apart : SparesNext rules shape state p x (next_at p at) → SameTaken x (taken_of rules shape state p at) (taken_of rules shape other q at)
      unfolding taken_of
      taken-apart spares =
          subst (λ (next : Next). SameTaken x (next_taken rules shape state p at (next_at p at)) (next_taken rules shape other q at next)) (next-late at h)
          (by (next_at p at) (late-next p at h) spares)
        where
          by : (next : Next) → LateNext next → SparesNext rules shape state p x next
              → SameTaken x (next_taken rules shape state p at next) (next_taken rules shape other q at next)
          by End l s = record { events = refl; places = refl; states = alike }
          by Fault l s = record { events = refl; places = refl; states = alike }
          by (Record kind start end) l s =
              subst (λ (taken : Taken). SameTaken x (record_taken rules shape state p kind (part p start end) end) taken)
              (record_same rules other kind (part p start end) end
              ∙ ap (λ (body : List ℕ). record_taken rules shape other q kind body end) (part_same start end l.0))
              (record_apart x rules shape p kind (part p start end) state other alike end s)

      pub writes-same : taken_writes shape state p at ≡ taken_writes shape other q at
      unfolding taken_writes
      writes-same = by (next_at p at) (late-next p at h) ∙ ap (next_writes shape other q) (next-late at h) where
        by : (next : Next) → LateNext next → next_writes shape state p next ≡ next_writes shape other q next
        by End l = refl
        by Fault l = refl
        by (Record kind start end) l =
            writes_apart x rules shape p kind (part p start end) state other alike
            ∙ ap (record_writes shape other kind) (part_same start end l.0)

      pub place-late : 56 ≤ (taken_of rules shape state p at).at
      unfolding taken_of
      place-late = by (next_at p at) (late-next p at h) where
        by : (next : Next) → LateNext next → 56 ≤ (next_taken rules shape state p at next).at
        by End l = h
        by Fault l = h
        by (Record kind start end) l = omega (arith, record_place rules shape state p kind (part p start end) end, l.1)

    events-apart : (n : ℕ) (rules : Rules) (state other : State) (at : ℕ) → Alike x state other → 56 ≤ at → SparedFrom n rules shape state p at x
        → events_from n rules shape state p at ≡ events_from n rules shape other q at
    unfolding events_from SparedFrom
    events-apart zero rules state other at alike h spared = refl
    events-apart (suc n) rules state other at alike h spared =
        let taken = taken_of rules shape state p at in
        let taken' = taken_of rules shape other q at in
        let one = taken-apart rules state other alike at h spared.0 in
        let then = rules_after rules (taken_writes shape state p at) in
        let writes = writes-same rules state other alike at h in
        let events = one.events in
        let places = one.places in
        let rest : following taken.event (events_from n then shape taken'.state q taken.at)
        ≡ following taken'.event (events_from n (rules_after rules (taken_writes shape other q at)) shape taken'.state q taken'.at) =
        λ i. following (events i) (events_from n (rules_after rules (writes i)) shape taken'.state q (places i)) in
        follow-same taken.event (SparedFrom n then shape taken.state p taken.at x) (events_from n then shape taken.state p taken.at)
        (events_from n then shape taken'.state q taken.at) spared.1
        (λ more. events-apart n then taken.state taken'.state taken.at one.states (place-late rules state other alike at h) more)
        ∙ rest

-- ---- whole papers

module _ (x : Meter) (is : IsSwitch x) (words p q : List ℕ) (same : SamePapers x p q) (accepted : (begun_of p).event ≡ SetUp)
    (other-accepted : (begun_of q).event ≡ SetUp) (spared : SparedBy words p x) where
  pub apart-events : events_of words p ≡ events_of words q
  unfolding events_of SparedBy
  apart-events =
      let a = begun_of p in
      let b = begun_of q in
      let begins = paper-begins x is words p q same accepted other-accepted in
      let all = events-apart x is p q same a.shape begins.file (length p) (rules_of (words_begun words p)) a.state b.state a.at
      begins.states begins.behind spared in
      let e : a.event ≡ b.event = accepted ∙ sym other-accepted in
      let l = same.as_long in
      let w = begins.words in
      let s = begins.shapes in
      let k = begins.places in
      let rest : following a.event (events_from (length p) (rules_of (words_begun words p)) a.shape b.state q a.at)
      ≡ following b.event (events_from (length q) (rules_of (words_begun words q)) b.shape b.state q b.at) =
      λ i. following (e i) (events_from (l i) (rules_of (w i)) (s i) b.state q (k i)) in
      ap (following a.event) all ∙ rest

  -- EQUAL LINES, byte for byte
  pub apart-lines : sitting_lines words p ≡ sitting_lines words q
  unfolding sitting_lines
  apart-lines = ap (lines_of 0) apart-events
