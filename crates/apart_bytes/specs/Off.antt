-- A meter that is switched off by the bytes of a set-up (document 02, Fourteen; document 01, "The paper"), and the records of a paper that spare it.
use Rattle.std.specs.Prelude.{ℕ, zero, suc, ◌+◌, ◌*◌, ◌≡◌, false, List, length}
use Rattle.rules.specs.declared.Place.{Place}
use Rattle.rules.specs.Rules.{Rules, rules_of, index_of}
use Rattle.purchase.specs.Meter.{Meter, accumulator, counter, cyclic}
use Rattle.shape.specs.declared.Shape.{Shape}
use Rattle.choice.specs.Choice.{slots_of}
use Rattle.paper.specs.declared.Next.{Next}
use Rattle.paper.specs.declared.Next.TheVariants.{Record, Fault, End as PaperEnd}
use Rattle.paper.specs.Paper.{next_at}
use Rattle.paper.specs.Walk.{part}
use Rattle.script.specs.Script.{rules_after}
use Rattle.state.specs.declared.Phase.{Phase}
use Rattle.state.specs.declared.Phase.TheVariants.{Idle, Opened, Asked}
use Rattle.state.specs.declared.State.{State}
use Rattle.conversation.specs.Conversation.{taken_of, taken_writes}
use Rattle.opening.specs.Opening.{begun_of, words_begun}
use Rattle.demands.specs.Setup.{Setup, byte_at}
use Rattle.demands.specs.Audit.{is_active}
use Rattle.papers.specs.Papers.{setup_of}
use Rattle.apart.specs.Off.{IsUntested}
use Rattle.apart_papers.specs.Spared.{going}

-- NOT SENT: the accumulator sent stands at 104 of a profile, the two counters sent at 105 and 106
abbrev pub IsUnsentIn : Setup → (profile : ℕ) → Meter → Type 0
IsUnsentIn setup profile (accumulator i) = byte_at setup (profile + 104) ≡ i + 1 → ⊥
IsUnsentIn setup profile (counter i) = (byte_at setup (profile + 105) ≡ i + 1 → ⊥) × (byte_at setup (profile + 106) ≡ i + 1 → ⊥)
IsUnsentIn setup profile (cyclic i) = Unit

-- OFF in the profile that stands at an offset
pub record IsOffIn (setup : Setup) (x : Meter) (profile : ℕ) : Type 0 where
  pub inactive : is_active setup profile x ≡ false
  pub unsent : IsUnsentIn setup profile x

-- profile i + 1 stands at 52 + 107 i
abbrev pub offset_of : Place → ℕ
offset_of place = 52 + 107 * index_of place

-- in the open profile, where one is open
abbrev pub QuietIn : Setup → Meter → Phase → Type 0
QuietIn setup x Idle = Unit
QuietIn setup x (Opened place) = IsOffIn setup x (offset_of place)
QuietIn setup x (Asked pending) = IsOffIn setup x (offset_of pending.place)

-- A RECORD SPARES IT on a card: it is off in the open profile, and untested
pub record SparesIn (setup : Setup) (shape : Shape) (state : State) (paper : List ℕ) (kind : ℕ) (body : List ℕ) (x : Meter) : Type 0 where
  pub quiet : QuietIn setup x state.phase
  pub untested : IsUntested shape.selecting (slots_of shape.family state.values) paper kind body x

abbrev pub SparesNextIn : Setup → Shape → State → (paper : List ℕ) → Meter → Next → Type 0
SparesNextIn setup shape state paper x PaperEnd = Unit
SparesNextIn setup shape state paper x Fault = Unit
SparesNextIn setup shape state paper x (Record kind start end) = SparesIn setup shape state paper kind (part paper start end) x

-- n records from a place on, each on the card that the one before left
unfoldable pub SparedFromIn : ℕ → Setup → Rules → Shape → State → (paper : List ℕ) (at : ℕ) → Meter → Type 0
SparedFromIn zero setup rules shape state paper at x = Unit
SparedFromIn (suc n) setup rules shape state paper at x =
    let taken = taken_of rules shape state paper at in
    SparesNextIn setup shape state paper x (next_at paper at)
    × going taken.event (SparedFromIn n setup (rules_after rules (taken_writes shape state paper at)) shape taken.state paper taken.at x)

-- all of a paper's, on its fresh card, by the bytes of its set-up
unfoldable pub SparedByBytes : (words paper : List ℕ) → Meter → Type 0
SparedByBytes words paper x =
    let begun = begun_of paper in
    SparedFromIn (length paper) (setup_of paper) (rules_of (words_begun words paper)) begun.shape begun.state paper begun.at x
