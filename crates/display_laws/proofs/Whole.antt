-- The steps, one behind the other, show the whole paper; without the rooms they print its sitting. Assumes nothing.
use mathlib.Core.Path.{◌≡◌, refl, sym, ap, subst, ◌∙◌}
use mathlib.Core.List.{List, [], ◌∷◌, ◌++◌, map, append-nil}
use Prim.Native.Nat.{ℕ, zero, suc, ◌+◌, ◌*◌, ◌-◌, ◌%◌, ◌≤◌}
use native.Mathlib.Nat.{mod-eq_of_lt}
use native.Mathlib.Omega.{arith}
use lib.ListN.{length}
use Rattle.rules.specs.Rules.{Rules, rules_of}
use Rattle.shape.specs.declared.Shape.{Shape}
use Rattle.script.specs.Script.{rules_after}
use Rattle.state.specs.declared.State.{State}
use Rattle.records.specs.declared.Event.{Event}
use Rattle.records.specs.declared.Event.TheVariants.{SetUp, End, Refused, Answered}
use Rattle.conversation.specs.Conversation.{taken_of, taken_writes}
use Rattle.opening.specs.Opening.{begun_of, words_begun}
use Rattle.conversation.proofs.Events.{GoesOn, further}
use Rattle.keeper.specs.Keeper.{rooms_taken, rooms_begun}
use Rattle.lines.specs.Sitting.{event_line, sitting_lines}
use Rattle.transcript.specs.Transcript.{joined, transcript_of}
use Rattle.transcript.proofs.Short.{LineOf, record_short}
use Rattle.transcript.proofs.Steps.{Beginning, accepted, refused, begins, never_set_up}
use Rattle.record_lines.specs.declared.Showing.{Showing}
use Rattle.record_lines.specs.declared.Showing.TheVariants.{Lines, Rooms}
use Rattle.shown.specs.declared.Shown.{Shown}
use Rattle.room_lines.specs.RoomLines.{room_lines}
use Rattle.record_lines.specs.RecordLines.{shown_lines, set_up_lines, set_up_text, record_text}
use Rattle.shown.specs.Shown.{wants_after}
use Rattle.display.specs.Shown.{begun_text, begun_shown, next_text, next_rules, next_rooms, next_shown}
use Rattle.display_laws.specs.Display.{Entry, entered, entries_from, entries_of, text_of, display_of, goes_on, steps_from, steps_of}
use Rattle.display_laws.proofs.Lines.{lines_same}

-- ---- a text and what follows it

-- where there are no rooms none are shown
none-shown : (showing : Showing) → [] ≡ shown_lines showing []
none-shown Lines = refl
none-shown Rooms = refl

module _ (showing : Showing) (rules : Rules) (rooms rest : List ℕ) (more : List Entry) where
  abbrev shown : List ℕ
  shown = shown_lines showing (room_lines rules rooms)

  at_record : (event : Event) (number : ℕ) → (GoesOn event → rest ≡ text_of showing more)
      → record_text showing rules rooms number event ++ goes_on (wants_after event) rest
      ≡ text_of showing (entered event (record { line = event_line number event; rooms = room_lines rules rooms }) more)
  unfolding record_text text_of
  at_record SetUp number e = ap (λ s. (event_line number SetUp ++ shown) ++ s) (e tt)
  at_record End number e = refl
  at_record (Refused refusal) number e = refl
  at_record (Answered said answer) number e = ap (λ s. (event_line number (Answered said answer) ++ shown) ++ s) (e tt)

  at_set_up : (event : Event) → (GoesOn event → rest ≡ text_of showing more)
      → set_up_text showing rules rooms event ++ goes_on (wants_after event) rest
      ≡ text_of showing (entered event (record { line = event_line 0 event; rooms = set_up_lines Rooms rules rooms event }) more)
  unfolding set_up_text text_of
  at_set_up SetUp e = ap (λ s. (event_line 0 SetUp ++ shown) ++ s) (e tt)
  at_set_up End e = refl
  at_set_up (Refused refusal) e = ap (λ s. (event_line 0 (Refused refusal) ++ s) ++ []) (none-shown showing)
  at_set_up (Answered said answer) e =
      ap (λ s. (event_line 0 (Answered said answer) ++ s) ++ rest) (none-shown showing)
      ∙ ap (λ s. (event_line 0 (Answered said answer) ++ shown_lines showing []) ++ s) (e tt)

-- ---- the records

-- each has three bytes or more, so that no number wraps
counted : (rules : Rules) (shape : Shape) (state : State) (paper : List ℕ) (at number : ℕ) → 3 * number + 1 ≤ at
    → GoesOn (taken_of rules shape state paper at).event → 3 * (number + 1) + 1 ≤ (taken_of rules shape state paper at).at
counted rules shape state paper at number h on =
    by (taken_of rules shape state paper at).event refl on (record_short rules shape state paper at number) where
      by : (event : Event) → (taken_of rules shape state paper at).event ≡ event → GoesOn event
          → LineOf number event ((taken_of rules shape state paper at).at - at) → 3 * (number + 1) + 1 ≤ (taken_of rules shape state paper at).at
      by SetUp e on s = absurd (never_set_up rules shape state paper at e)
      by End e on s = absurd on
      by (Refused refusal) e on s = absurd on
      by (Answered said answer) e on s =
          let f = further shape paper rules state at (subst GoesOn (sym e) tt) in omega (arith, f.0, s.0)

module _ (showing : Showing) (paper : List ℕ) (short : length paper ≤ 65536) where
  steps_are : (n : ℕ) (rules : Rules) (rooms : List ℕ) (shown : Shown) → 3 * shown.number + 1 ≤ shown.at → shown.at ≤ length paper
      → steps_from n showing rules rooms shown paper
      ≡ text_of showing (entries_from n rules rooms shown.shape shown.state paper shown.at shown.number)
  unfolding steps_from entries_from text_of next_text next_rules next_rooms next_shown
  steps_are zero rules rooms shown h inside = refl
  steps_are (suc n) rules rooms shown h inside =
      let taken = taken_of rules shown.shape shown.state paper shown.at in
      let then = rules_after rules (taken_writes shown.shape shown.state paper shown.at) in
      let left = rooms_taken rules shown.shape shown.state paper shown.at rooms in
      let next = next_shown rules shown paper 0 in
      let more : ℕ → List Entry = entries_from n then left shown.shape taken.state paper taken.at in
      at_record showing then left (steps_from n showing then left next paper) (more (shown.number + 1)) taken.event shown.number (λ on.
      let f = further shown.shape paper rules shown.state shown.at on in
      let counts = counted rules shown.shape shown.state paper shown.at shown.number h on in
      let same : (shown.number + 1) % 65536 ≡ shown.number + 1 = mod-eq_of_lt (omega (arith, f.1)) in
      steps_are n then left next (rw same counts) f.1 ∙ ap (λ k. text_of showing (more k)) same)

module _ (showing : Showing) (words rooms paper : List ℕ) where
  pub steps_are_entries : steps_of showing words rooms paper ≡ text_of showing (entries_of words rooms paper)
  unfolding steps_of entries_of begun_text begun_shown
  steps_are_entries =
      let begun = begun_of paper in
      let then = rules_of (words_begun words paper) in
      let left = rooms_begun words rooms paper in
      at_set_up showing then left (steps_from (length paper) showing then left (begun_shown paper 0) paper)
      (entries_from (length paper) then left begun.shape begun.state paper begun.at 1)
      begun.event
      (by (begins paper)) where
        by : Beginning paper (begun_of paper) → GoesOn (begun_of paper).event
            → steps_from (length paper) showing (rules_of (words_begun words paper)) (rooms_begun words rooms paper) (begun_shown paper 0) paper
            ≡ text_of showing (entries_from (length paper) (rules_of (words_begun words paper)) (rooms_begun words rooms paper) (begun_of paper).shape
            (begun_of paper).state paper (begun_of paper).at 1)
        by (accepted e o) on =
            steps_are showing paper o.short (length paper) (rules_of (words_begun words paper)) (rooms_begun words rooms paper) (begun_shown paper 0)
            (omega (arith, o.begins)) o.inside
        by (refused refusal e) on = absurd (subst GoesOn e on)

pub steps_show : (words rooms paper : List ℕ) → steps_of Rooms words rooms paper ≡ display_of words rooms paper
unfolding display_of
steps_show words rooms paper = steps_are_entries Rooms words rooms paper

-- ---- without the rooms

lines_alone : (entries : List Entry) → text_of Lines entries ≡ joined (map (λ (e : Entry). e.line) entries)
unfolding text_of joined
lines_alone [] = refl
lines_alone (entry ∷ more) = rw (append-nil entry.line, lines_alone more)

pub steps_print : (words rooms paper : List ℕ) → steps_of Lines words rooms paper ≡ transcript_of words paper
unfolding transcript_of
steps_print words rooms paper =
    steps_are_entries Lines words rooms paper ∙ lines_alone (entries_of words rooms paper) ∙ ap joined (lines_same words rooms paper)
