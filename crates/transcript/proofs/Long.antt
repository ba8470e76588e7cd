-- How long the text of a paper is: at most 8 bytes for each of its bytes, and 12 more; the room that it is asked has the longest line more. Assumes
-- nothing.
use mathlib.Core.Path.{◌≡◌, refl, sym, subst}
use mathlib.Core.List.{List}
use Prim.Native.Nat.{ℕ, zero, suc, ◌+◌, ◌*◌, ◌-◌, ◌≤◌}
use native.Mathlib.Omega.{arith}
use lib.ListN.{length, length-append}
use Rattle.refusal.specs.Refusal.{refusal_number}
use Rattle.rules.specs.Rules.{Rules, rules_of}
use Rattle.shape.specs.declared.Shape.{Shape}
use Rattle.state.specs.declared.State.{State}
use Rattle.records.specs.declared.Event.{Event}
use Rattle.records.specs.declared.Event.TheVariants.{SetUp, End, Refused, Answered}
use Rattle.script.specs.Script.{rules_after}
use Rattle.opening.specs.Opening.{begun_of, words_begun}
use Rattle.conversation.specs.Conversation.{taken_of, taken_writes}
use Rattle.conversation.specs.Events.{following, events_from}
use Rattle.conversation.proofs.Events.{GoesOn, further}
use Rattle.lines.specs.Lines.{longest, refusal_line}
use Rattle.lines.specs.Sitting.{lines_of}
use Rattle.lines.proofs.Short.{refusal_short}
use Rattle.paper_room.specs.PaperRoom.{line_more}
use Rattle.transcript.specs.Transcript.{joined, transcript_of, rest_of}
use Rattle.transcript.proofs.Short.{LineOf, record_short}
use Rattle.transcript.proofs.Steps.{Beginning, accepted, refused, begins, never_set_up, set_up_lem, not_set_up}

pub line-more : line_more ≡ longest
line-more = refl

module _ (shape : Shape) (paper : List ℕ) where
  records-long : (n : ℕ) (rules : Rules) (state : State) (at number : ℕ) → at ≤ length paper
      → length (joined (lines_of number (events_from n rules shape state paper at))) ≤ 8 * (length paper - at) + 12
  unfolding events_from lines_of joined
  records-long zero rules state at number h = omega arith
  records-long (suc n) rules state at number h =
      let taken = taken_of rules shape state paper at in
      let then = rules_after rules (taken_writes shape state paper at) in
      by taken.event refl (events_from n then shape taken.state paper taken.at)
      (records-long n then taken.state taken.at (number + 1)) where
        by : (event : Event) → (taken_of rules shape state paper at).event ≡ event → (rest : List Event)
            → ((taken_of rules shape state paper at).at ≤ length paper
            → length (joined (lines_of (number + 1) rest)) ≤ 8 * (length paper - (taken_of rules shape state paper at).at) + 12)
            → length (joined (lines_of number (following event rest))) ≤ 8 * (length paper - at) + 12
        by SetUp e rest more = absurd (never_set_up rules shape state paper at e)
        by End e rest more = omega arith
        by (Refused refusal) e rest more = simp length-append (omega (arith, refusal_short number (refusal_number refusal)))
        by (Answered said answer) e rest more =
            let taken = taken_of rules shape state paper at in
            let f = further shape paper rules state at (subst GoesOn (sym e) tt) in
            let s = subst (λ v. LineOf number v (taken.at - at)) e (record_short rules shape state paper at number) in
            simp length-append (omega (arith, s.1, f.0, f.1, more f.1))

pub long : (words paper : List ℕ) → length (transcript_of words paper) ≤ 8 * length paper + 12
long words paper = by (begins paper) where
  by : Beginning paper (begun_of paper) → length (transcript_of words paper) ≤ 8 * length paper + 12
  by (refused refusal e) = rw (not_set_up words paper refusal e) (omega (arith, refusal_short 0 (refusal_number refusal)))
  by (accepted e o) =
      let begun = begun_of paper in
      let rest = rest_of (rules_of (words_begun words paper)) begun.shape begun.state paper begun.at 1 in
      let more : length rest ≤ 8 * (length paper - begun.at) + 12 =
      unfold rest_of in records-long begun.shape paper (length paper) (rules_of (words_begun words paper)) begun.state begun.at 1 o.inside in
      rw (set_up_lem words paper e, length-append (refusal_line 0 0) rest) (omega (arith, refusal_short 0 0, more, o.begins, o.inside))
