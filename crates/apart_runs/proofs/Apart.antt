-- REQUEST FOURTEEN: two cards that are alike but for x answer records that spare x the same, byte for byte, and are alike but for x afterwards.
-- The premise is on the one card's run. Assumes nothing.
use mathlib.Core.Path.{◌≡◌, refl, ap, ap₂, subst, ◌∙◌}
use mathlib.Core.List.{List, [], ◌∷◌, ◌++◌}
use Prim.Native.Nat.{ℕ}
use lib.ListN.{length}
use lib.Seq.{sets}
use Rattle.purchase.specs.Meter.{Meter}
use Rattle.shape.specs.declared.Shape.{Shape}
use Rattle.paper.specs.Walk.{Met}
use Rattle.element.specs.declared.Write.{Write}
use Rattle.script.specs.Script.{rules_after, words_after}
use Rattle.state.specs.declared.State.{State}
use Rattle.records.specs.declared.Event.{Event}
use Rattle.upkeep.specs.Upkeep.{rooms_after}
use Rattle.keeper.specs.Keeper.{rooms_recorded}
use Rattle.runs.specs.Runs.{Card, answered_in, taken_by, writes_of, card_behind, card_after, answers_to, records_in, ruled_run, unless, card_run, room_run}
use Rattle.apart.specs.Off.{Spares}
use Rattle.apart.specs.Alike.{Alike}
use Rattle.apart.proofs.Values.{Beside, beside}
use Rattle.apart.proofs.Records.{SameTaken, record_apart, writes_apart}
use Rattle.apart_runs.specs.Spared.{wiped_rooms, AlikeCards, Spared, events_to}
use Rattle.apart_runs.proofs.Rooms.{Cells, cells, wiped-rooms, after_cells}
use Rattle.std.specs.Prelude.{Err, Ok, Result}
use Rattle.refusal.specs.declared.Refusal.{Refusal}

module _ (x : Meter) (shape : Shape) (paper : List ℕ) where
  -- ---- a record

  -- the card with another room left and another state
  abbrev with : Card → (rooms : List ℕ) → State → Card
  with card rooms state = record { words = card.words; rules = card.rules; rooms = rooms; state = state }

  module _ (card : Card) (rooms : List ℕ) (state : State) (c : Cells x card.rooms rooms) (alike : Alike x card.state state) (met : Met)
      (spares : Spares card.rules shape card.state paper met.kind met.body x) where
    abbrev other : Card
    other = with card rooms state

    one : SameTaken x (taken_by shape paper card met) (taken_by shape paper other met)
    one = record_apart x card.rules shape paper met.kind met.body card.state state alike 0 spares

    writes : writes_of shape paper card met ≡ writes_of shape paper other met
    writes = writes_apart x card.rules shape paper met.kind met.body card.state state alike

    values_of : (s t : State) → Alike x s t → Beside x s.values t.values
    values_of s t a = beside x s.values t.values (ap (λ (u : State). u.values) a)

    rooms-behind : wiped_rooms x (card_behind shape paper card met).rooms ≡ wiped_rooms x (card_behind shape paper other met).rooms
    unfolding card_behind rooms_recorded
    rooms-behind =
        let taken = taken_by shape paper card met in
        let taken' = taken_by shape paper other met in
        wiped-rooms x (card_behind shape paper card met).rooms
        (rooms_after (rules_after card.rules (writes_of shape paper card met)) state.values taken'.state.values taken.event rooms)
        (after_cells (rules_after card.rules (writes_of shape paper card met)) x card.state.values state.values
        (values_of card.state state alike) taken.state.values taken'.state.values (values_of taken.state taken'.state one.states)
        taken.event card.rooms rooms c)
        ∙ ap₂ (λ (these : List Write) (event : Event). wiped_rooms x (rooms_after (rules_after card.rules these) state.values
        taken'.state.values event rooms)) writes one.events

    behind_with : AlikeCards x (card_behind shape paper card met) (card_behind shape paper other met)
    unfolding card_behind
    behind_with =
        let w = writes in
        let r = rooms-behind in
        let s = one.states in
        λ i. record { words = words_after card.words (w i); rules = rules_after card.rules (w i); rooms = r i; state = s i }

  pub record Same (card other : Card) (met : Met) : Type 0 where
    pub event : (taken_by shape paper card met).event ≡ (taken_by shape paper other met).event
    pub cards : AlikeCards x (card_behind shape paper card met) (card_behind shape paper other met)

  pub record_behind : (card other : Card) → AlikeCards x card other → (met : Met)
      → Spares card.rules shape card.state paper met.kind met.body x → Same card other met
  record_behind card other alike met spares =
      let rest : with card other.rooms other.state ≡ other = ap (λ (c : Card). with c other.rooms other.state) alike in
      let c = cells x card.rooms other.rooms (ap (λ (c : Card). c.rooms) alike) in
      let states = ap (λ (c : Card). c.state) alike in
      subst (λ (d : Card). Same card d met) rest
      (record {
        event = (one card other.rooms other.state c states met spares).events;
        cards = behind_with card other.rooms other.state c states met spares;
      })

  -- ---- records, one after the other

  pub record Apart (card other : Card) (mets : List Met) : Type 0 where
    pub events : events_to shape paper card mets ≡ events_to shape paper other mets
    pub answers : answers_to shape paper card mets ≡ answers_to shape paper other mets
    pub cards : AlikeCards x (card_after shape paper card mets) (card_after shape paper other mets)

  pub apart : (mets : List Met) (card other : Card) → AlikeCards x card other → Spared shape paper x card mets → Apart card other mets
  unfolding Spared events_to answers_to card_after
  apart [] card other alike spared = record { events = refl; answers = refl; cards = alike }
  apart (met ∷ more) card other alike spared =
      let here = record_behind card other alike met spared.0 in
      let rest = apart more (card_behind shape paper card met) (card_behind shape paper other met) here.cards spared.1 in
      record {
        events = ap₂ (λ (event : Event) (events : List Event). event ∷ events) here.event rest.events;
        answers = ap₂ (λ (event : Event) (bytes : List ℕ). answered_in event ++ bytes) here.event rest.answers;
        cards = rest.cards;
      }

  -- ---- a run: the lent room holds the same bytes

  module _ (card other : Card) (alike : AlikeCards x card other) (records : List ℕ) (spared : Spared shape paper x card (records_in records)) where
    pub apart-run : (room : List ℕ)
        → (room_run shape paper card records room ≡ room_run shape paper other records room)
        × AlikeCards x (card_run shape paper card records (length room)) (card_run shape paper other records (length room))
    unfolding room_run card_run
    apart-run room = by (ruled_run shape records (length room)) where
      all : Apart card other (records_in records)
      all = apart (records_in records) card other alike spared

      by : (ran : Result ℕ Refusal)
          → (unless ran room (sets room 0 (answers_to shape paper card (records_in records)))
          ≡ unless ran room (sets room 0 (answers_to shape paper other (records_in records))))
          × AlikeCards x (unless ran card (card_after shape paper card (records_in records))) (unless ran other (card_after shape paper other (records_in records)))
      by (Err refusal) = (refl, alike)
      by (Ok n) = (ap (sets room 0) all.answers, all.cards)
