-- REQUEST FOURTEEN over papers, what is off being read in the bytes of the one paper's set-up. Assumes nothing.
use mathlib.Core.Path.{◌≡◌, sym, subst}
use mathlib.Core.Bool.{false}
use mathlib.Core.List.{List}
use Prim.Native.Nat.{ℕ, zero, suc}
use lib.ListN.{length}
use Rattle.rules.specs.declared.Place.{Place}
use Rattle.rules.specs.Word.{word_count}
use Rattle.rules.specs.Rules.{Rules, rules_of}
use Rattle.purchase.specs.Meter.{Meter, accumulator, counter, cyclic}
use Rattle.shape.specs.declared.Shape.{Shape}
use Rattle.paper.specs.declared.Next.{Next}
use Rattle.paper.specs.declared.Next.TheVariants.{Record, Fault, End as PaperEnd}
use Rattle.paper.specs.Paper.{next_at}
use Rattle.element.specs.declared.Write.{Write}
use Rattle.script.specs.Script.{rules_after}
use Rattle.state.specs.declared.Phase.{Phase}
use Rattle.state.specs.declared.Phase.TheVariants.{Idle, Opened, Asked}
use Rattle.state.specs.declared.State.{State}
use Rattle.records.specs.declared.Event.{Event}
use Rattle.records.specs.declared.Event.TheVariants.{SetUp, End, Refused, Answered}
use Rattle.conversation.specs.Conversation.{taken_of, taken_writes}
use Rattle.opening.specs.Opening.{begun_of, words_begun}
use Rattle.lines.specs.Sitting.{sitting_lines}
use Rattle.demands.specs.Setup.{Setup}
use Rattle.demands.specs.Conversation.{rules_written, rules_by}
use Rattle.demands.specs.Audit.{is_active, newest}
use Rattle.demands.proofs.Written.{after-writes, given}
use Rattle.spelling.specs.Spelling.{Bytes}
use Rattle.papers.specs.Papers.{setup_of}
use Rattle.papers.proofs.Setups.{begins}
use Rattle.papers.proofs.Events.{accepted-exactly}
use Rattle.apart.specs.Off.{IsOff, Quiet}
use Rattle.apart_papers.specs.Start.{IsSwitch, SamePapers}
use Rattle.apart_papers.specs.Spared.{SparesNext, going, SparedFrom, SparedBy}
use Rattle.apart_papers.proofs.Lines.{apart-lines}
use Rattle.apart_bytes.specs.Off.{IsUnsentIn, IsOffIn, offset_of, QuietIn, SparesNextIn, SparedFromIn, SparedByBytes}
use Rattle.apart_bytes.proofs.Off.{off-by-bytes}

going_on_lem : (event : Event) (more then : Type 0) → (more → then) → going event more → going event then
going_on_lem SetUp more then h g = h g
going_on_lem End more then h g = tt
going_on_lem (Refused refusal) more then h g = tt
going_on_lem (Answered said answer) more then h g = h g

-- the same bytes, with what scripts wrote
abbrev written : Setup → List Write → Setup
written setup writes =
    record {
      bytes = setup.bytes;
      tail = setup.tail;
      family = setup.family;
      syllabus = setup.syllabus;
      unnamed = setup.unnamed;
      written = writes;
    }

module _ (setup : Setup) (x : Meter) (is : IsSwitch x) where
  off-writes : (writes : List Write) (place : Place) → IsOffIn setup x (offset_of place) → IsOff (rules_by (written setup writes)) x place
  off-writes writes place off =
      off-by-bytes (written setup writes) x is place (record { inactive = same-active x off.inactive; unsent = same-unsent x off.unsent })
    where
      same-active : (y : Meter) → is_active setup (offset_of place) y ≡ false → is_active (written setup writes) (offset_of place) y ≡ false
      same-active (accumulator i) e = e
      same-active (counter i) e = e
      same-active (cyclic i) e = e

      same-unsent : (y : Meter) → IsUnsentIn setup (offset_of place) y → IsUnsentIn (written setup writes) (offset_of place) y
      same-unsent (accumulator i) u = u
      same-unsent (counter i) u = u
      same-unsent (cyclic i) u = u

  quiet-by-bytes : (writes : List Write) (phase : Phase) → QuietIn setup x phase → Quiet (rules_by (written setup writes)) x phase
  quiet-by-bytes writes Idle quiet = tt
  quiet-by-bytes writes (Opened place) off = off-writes writes place off
  quiet-by-bytes writes (Asked pending) off = off-writes writes pending.place off

  module _ (shape : Shape) (paper : List ℕ) where
    next-by-bytes : (writes : List Write) (state : State) (next : Next) → SparesNextIn setup shape state paper x next
        → SparesNext (rules_by (written setup writes)) shape state paper x next
    next-by-bytes writes state PaperEnd spares = tt
    next-by-bytes writes state Fault spares = tt
    next-by-bytes writes state (Record kind start end) spares =
        record { quiet = quiet-by-bytes writes state.phase spares.quiet; untested = spares.untested }

    from_bytes : (n : ℕ) (writes : List Write) (state : State) (at : ℕ)
        → SparedFromIn n setup (rules_written (given setup) writes) shape state paper at x
        → SparedFrom n (rules_written (given setup) writes) shape state paper at x
    unfolding SparedFromIn SparedFrom
    from_bytes zero writes state at spared = tt
    from_bytes (suc n) writes state at spared =
        let rules = rules_written (given setup) writes in
        let taken = taken_of rules shape state paper at in
        let these = taken_writes shape state paper at in
        let then = rules_after rules these in (
          next-by-bytes writes state (next_at paper at) spared.0,
          going_on_lem taken.event (SparedFromIn n setup then shape taken.state paper taken.at x)
              (SparedFrom n then shape taken.state paper taken.at x)
              (subst (λ (r : Rules). SparedFromIn n setup r shape taken.state paper taken.at x → SparedFrom n r shape taken.state paper taken.at x)
              (after-writes (given setup) these writes) (from_bytes n (newest these writes) taken.state taken.at))
              spared.1,
        )

-- ---- whole papers

module _ (x : Meter) (is : IsSwitch x) (words p : List ℕ) (lent : length words ≡ word_count) (bytes : Bytes p) (accepted : (begun_of p).event ≡ SetUp)
    (spared : SparedByBytes words p x) where
  -- by the bytes, and so by the rules that the words hold
  pub spared_by_bytes : SparedBy words p x
  unfolding SparedByBytes SparedBy
  spared_by_bytes =
      let begun = begun_of p in
      let setup = setup_of p in
      let rules = (begins words p lent bytes ((accepted-exactly p bytes).0 accepted)).rules in
      subst (λ (r : Rules). SparedFromIn (length p) setup r begun.shape begun.state p begun.at x
      → SparedFrom (length p) r begun.shape begun.state p begun.at x) (sym rules)
      (from_bytes setup x is begun.shape p (length p) setup.written begun.state begun.at) spared

  -- EQUAL LINES, byte for byte
  pub apart-lines-by-bytes : (q : List ℕ) → SamePapers x p q → (begun_of q).event ≡ SetUp → sitting_lines words p ≡ sitting_lines words q
  apart-lines-by-bytes q same other-accepted = apart-lines x is words p q same accepted other-accepted spared_by_bytes
