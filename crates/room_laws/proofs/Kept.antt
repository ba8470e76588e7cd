-- REQUEST SEVEN over every list of messages: room and value are the upper limit in force, or there is no room. Limit and value are an auditor's,
-- read off the conversation and the set-up's bytes. Assumes nothing.
use mathlib.Core.Path.{◌≡◌, refl, sym, ap, ap₂, subst, ◌∙◌}
use mathlib.Core.Bool.{Bool, true, false, cond}
use mathlib.Core.List.{List, [], ◌∷◌}
use mathlib.Core.Logic.{◌⊎◌}
use Prim.Native.Nat.{ℕ, zero, suc, ◌+◌, ◌-◌, ◌*◌, ◌≤◌, ◌<◌}
use native.Mathlib.Omega.{arith}
use borrow.Author.Tests.{ltb-true, ltb-false, le-ltb, ne_eqb}
use lib.Dec.{ltb}
use lib.ListN.{length, get_or}
use Rattle.refusal.specs.declared.Refusal.{Refusal}
use Rattle.rules.specs.declared.Place.{Place}
use Rattle.rules.specs.declared.Place.TheVariants.{One, Two, Three, Four}
use Rattle.rules.specs.Rules.{Rules, index_of, profile_at, blank_profile, find_profile}
use Rattle.purchase.specs.Meter.{MeterRule, accumulator, amount_at}
use Rattle.rooms.specs.Rooms.{cell_count, cell_of, left_of, left_in, rooms_of, filled, renewed, room_left, room_number}
use Rattle.room_laws.proofs.Rooms.{left_is, absent, present, stored, filled_is, renewed-is, rooms-size, unmoved, unknown, out_of_range}
use Rattle.script.specs.Script.{rules_after}
use Rattle.state.specs.declared.State.{State}
use Rattle.state.specs.declared.Answer.TheVariants.{Refused}
use Rattle.state.specs.Ruling.{Ruling, refuse, take, carried}
use Rattle.scripting.specs.Scripting.{rule_script, script_performed, script_step, writes_ruled, script_writes}
use Rattle.card.specs.Message.{Message, StartCommand, FirstCommand, SecondCommand, ScriptCommand, message_step, message_writes}
use Rattle.keeper.specs.Keeper.{is_done, rooms_after}
use Rattle.wire.specs.Wire.{byte}
use Rattle.demands.specs.Setup.{Setup, AcceptedSetup, byte_at}
use Rattle.demands.specs.Conversation.{Exchange, Sitting, outcome_of, told, run, rules_by, sat, Spoken}
use Rattle.demands.specs.Ledger.{owed}
use Rattle.demands.specs.Audit.{in_force, upper_of, start_of, cap_of, ledger}
use Rattle.demands.proofs.Bytes.{fits, Stands, rule-read, number_in, number_out}
use Rattle.demands.proofs.Found.{Known, known, below-four}
use Rattle.demands.proofs.Refusal.{refusal_keeps}
use Rattle.demands.proofs.Run.{always_ruled}
use Rattle.demands.proofs.Total.{total}
use Rattle.room_laws.specs.Kept.{rooms_told, rooms_over, rooms_sat}
use Rattle.std.specs.Prelude.{None, Ok, Option, Some}

-- only a script that was carried out writes
no_writes : (rules : Rules) (state : State) (command : Message) → is_done (message_step rules state command).answer ≡ false
    → message_writes state command ≡ []
unfolding message_step message_writes script_step script_writes script_performed
no_writes rules state (StartCommand start) e = refl
no_writes rules state (FirstCommand first) e = refl
no_writes rules state (SecondCommand second) e = refl
no_writes rules state (ScriptCommand result template) e = by (rule_script state.phase result template) e where
  by : (ruling : Ruling Bool) → is_done (carried state (script_performed state template) ruling).answer ≡ false
      → writes_ruled state.scripts template ruling ≡ []
  by (refuse refusal) e = refl
  by (take verified) e = let z : ◌≡◌ {A = ℕ} 0 1 = cc in absurd (omega arith)

-- cells that hold the room left by the rules and the values do so after a message
told_right : (sitting : Sitting) (command : Message) (rooms : List ℕ) → rooms ≡ rooms_of sitting.rules sitting.state.values
    → rooms_told sitting command rooms ≡ rooms_of (told sitting command).rules (told sitting command).state.values
unfolding rooms_after
told_right sitting command rooms right = by (is_done (outcome_of sitting command).answer) refl where
  by : (b : Bool) → is_done (outcome_of sitting command).answer ≡ b
      → cond b (filled (told sitting command).rules (told sitting command).state.values rooms)
      (renewed (told sitting command).rules sitting.state.values (told sitting command).state.values rooms)
      ≡ rooms_of (told sitting command).rules (told sitting command).state.values
  by true e =
      filled_is (told sitting command).rules (told sitting command).state.values rooms (ap length right ∙ rooms-size sitting.rules sitting.state.values)
  by false e =
      let same : sitting.rules ≡ (told sitting command).rules =
      ap (rules_after sitting.rules) (sym (no_writes sitting.rules sitting.state command e)) in
      ap (renewed (told sitting command).rules sitting.state.values (told sitting command).state.values)
      (right ∙ ap (λ these. rooms_of these sitting.state.values) same)
      ∙ renewed-is (told sitting command).rules sitting.state.values (told sitting command).state.values

-- a refusal keeps the cells, whatever they hold
pub refusal_keeps_rooms : (sitting : Sitting) (command : Message) (refusal : Refusal) → (outcome_of sitting command).answer ≡ Refused refusal
    → (rooms : List ℕ) → rooms_told sitting command rooms ≡ rooms
unfolding rooms_after
refusal_keeps_rooms sitting command refusal e rooms =
    let same = refusal_keeps sitting.rules sitting.state command refusal e in
    rw e (unmoved (told sitting command).rules sitting.state.values (told sitting command).state.values rooms
    (ap (λ (state : State). state.values.accumulators) (sym same)))

over_right : (sitting : Sitting) (commands : List Message) (rooms : List ℕ) → rooms ≡ rooms_of sitting.rules sitting.state.values
    → rooms_over sitting commands rooms ≡ rooms_of (run sitting commands).rules (run sitting commands).state.values
unfolding rooms_over run
over_right sitting [] rooms right = right
over_right sitting (command ∷ commands) rooms right =
    over_right (told sitting command) commands (rooms_told sitting command rooms) (told_right sitting command rooms right)

-- the place of profile p + 1
abbrev place_at : ℕ → Place
place_at zero = One
place_at (suc zero) = Two
place_at (suc (suc zero)) = Three
place_at (suc (suc (suc p))) = Four

its-index : (p : ℕ) → p < 4 → index_of (place_at p) ≡ p
its-index zero h = refl
its-index (suc zero) h = refl
its-index (suc (suc zero)) h = refl
its-index (suc (suc (suc zero))) h = refl
its-index (suc (suc (suc (suc p)))) h = absurd (omega arith)

placed_back : (place : Place) → place_at (index_of place) ≡ place
placed_back One = refl
placed_back Two = refl
placed_back Three = refl
placed_back Four = refl

-- a script writes limits, and no byte of the set-up
same_bytes : (setup : Setup) (log : List Exchange) → (in_force setup log).bytes ≡ setup.bytes
unfolding in_force
same_bytes setup [] = refl
same_bytes setup (exchange ∷ older) = same_bytes setup older

module _ (setup : Setup) (good : AcceptedSetup setup) (commands : List Message) (spoken : Spoken commands) where
  abbrev sitting : Sitting
  sitting = sat setup commands

  abbrev now : Setup
  now = in_force setup sitting.log

  rooms-are : (cells : List ℕ) → length cells ≡ cell_count → rooms_sat setup commands cells ≡ rooms_of sitting.rules sitting.state.values
  unfolding run
  rooms-are cells size =
      let fresh = sat setup [] in
      over_right fresh commands _ (filled_is fresh.rules fresh.state.values cells size)

  -- A PLACE WITHOUT A PROFILE has no room
  pub room_absent : (cells : List ℕ) → length cells ≡ cell_count → (p i : ℕ) → byte_at setup 3 ≤ p → p < 4 → i < 4
      → get_or (rooms_sat setup commands cells) (4 * p + i) 0 ≡ 0
  room_absent cells size p i out below l =
      let ruled = always_ruled setup good commands spoken in
      let amount = amount_at sitting.state.values i in
      ap (λ rooms. get_or rooms (4 * p + i) 0) (rooms-are cells size)
      ∙ ap (λ k. get_or (rooms_of sitting.rules sitting.state.values) (4 * k + i) 0) (sym (its-index p below))
      ∙ stored sitting.rules sitting.state.values (place_at p) i l
      ∙ ap (λ rules. left_in rules (place_at p) i amount) ruled.rules-are
      ∙ absent (rules_by now) (place_at p) i amount
      (ap (λ k. (get_or (rules_by now).profiles k blank_profile).number) (its-index p below) ∙ none ruled.good)
    where
      none : AcceptedSetup now → (get_or (rules_by now).profiles p blank_profile).number ≡ 0
      none accepted = by (get_or (rules_by now).profiles p blank_profile).number refl where
        by : (number : ℕ) → (get_or (rules_by now).profiles p blank_profile).number ≡ number → number ≡ 0
        by zero e = refl
        by (suc n) e =
            let there = (number_in now accepted p (suc n) below (omega arith) e).0 in
            absurd (omega (arith, out, subst (λ s. p < byte s 3) (same_bytes setup sitting.log) there))

  -- A NUMBER that no profile of the set-up has is refusal 3, and an accumulator that is not 1 to 4 is 6 where one has it
  pub room_unknown : (rooms : List ℕ) (number asked : ℕ)
      → ((p : ℕ) → p < byte_at setup 3 → byte_at setup (52 + 107 * p) ≡ number → ⊥)
      → room_number (room_left sitting.rules rooms number asked) ≡ 3
  room_unknown rooms number asked none =
      let ruled = always_ruled setup good commands spoken in
      ap (λ rules. room_number (room_left rules rooms number asked)) ruled.rules-are
      ∙ unknown (rules_by now) rooms number asked (by (find_profile (rules_by now) number) (known (rules_by now) number))
    where
      by : (result : Option Place) → Known (rules_by now) number result → result ≡ None
      by None holds = refl
      by (Some place) holds =
          let there = number_in now (always_ruled setup good commands spoken).good (index_of place) number (below-four place) holds.some holds.its in
          let same = same_bytes setup sitting.log in
          absurd (none (index_of place) (subst (λ s. index_of place < byte s 3) same there.0)
          (ap (λ s. byte s (52 + 107 * index_of place)) (sym same) ∙ there.1))

  module _ (p i : ℕ) (there : p < byte_at setup 3) (l : i < 4) where
    abbrev at : ℕ
    at = 52 + 107 * p

    below : p < 4
    below = omega (arith, (fits good).profiles-most, there)

    its : index_of (place_at p) ≡ p
    its = its-index p below

    still_there : p < byte_at now 3
    still_there = subst (λ s. p < byte s 3) (sym (same_bytes setup sitting.log)) there

    stands : Stands now (place_at p) at
    stands = record { there = subst (λ k. k < byte_at now 3) (sym its) still_there; offset = ap (λ k. 52 + 107 * k) (sym its) }

    some : (profile_at (rules_by now) (place_at p)).number ≡ 0 → ⊥
    some none =
        let ruled = always_ruled setup good commands spoken in
        let least = ((fits ruled.good).profiles p still_there).number-least in
        let is = number_out now ruled.good p (byte_at now at) below still_there refl in
        omega (arith, least, sym is ∙ ap (λ k. (get_or (rules_by now).profiles k blank_profile).number) (sym its) ∙ none)

    -- the upper limit in force, and the value
    abbrev upper : ℕ
    upper = upper_of now at (accumulator i)

    abbrev value : ℕ
    value = owed (cap_of (accumulator i)) (start_of setup (accumulator i)) (ledger setup (accumulator i) sitting.log)

    room_is : (cells : List ℕ) → length cells ≡ cell_count → get_or (rooms_sat setup commands cells) (4 * p + i) 0 ≡ left_of upper value
    room_is cells size =
        let ruled = always_ruled setup good commands spoken in
        ap (λ rooms. get_or rooms (4 * p + i) 0) (rooms-are cells size)
        ∙ ap (λ k. get_or (rooms_of sitting.rules sitting.state.values) (4 * k + i) 0) (sym its)
        ∙ stored sitting.rules sitting.state.values (place_at p) i l
        ∙ ap (λ rules. left_in rules (place_at p) i (amount_at sitting.state.values i)) ruled.rules-are
        ∙ present (rules_by now) (place_at p) i (amount_at sitting.state.values i) some
        ∙ ap₂ left_of (ap (λ (rule : MeterRule). rule.upper) (rule-read now (place_at p) at stands (accumulator i) l))
        (total setup good commands spoken (accumulator i) l)

    -- ROOM AND VALUE are the upper limit in force where the value is at most it; else there is no room
    pub room_kept : (cells : List ℕ) → length cells ≡ cell_count →
        let room = get_or (rooms_sat setup commands cells) (4 * p + i) 0 in
        (value ≤ upper → room + value ≡ upper) × (upper ≤ value → room ≡ 0)
    room_kept cells size = rw (room_is cells size) (left_is upper value)

    -- its profile is found by its number
    found : find_profile (rules_by now) (byte_at now at) ≡ Some (place_at p)
    found = by (find_profile (rules_by now) (byte_at now at)) (known (rules_by now) (byte_at now at)) where
      accepted : AcceptedSetup now
      accepted = (always_ruled setup good commands spoken).good

      by : (result : Option Place) → Known (rules_by now) (byte_at now at) result → result ≡ Some (place_at p)
      by None none =
          let least = ((fits accepted).profiles p still_there).number-least in
          absurd (none least p below (number_out now accepted p (byte_at now at) below still_there refl))
      by (Some place) holds =
          let there = number_in now accepted (index_of place) (byte_at now at) (below-four place) holds.some holds.its in
          ap Some (sym (placed_back place) ∙ ap place_at (only (index_of place) there.0 there.1))
        where
          only : (j : ℕ) → j < byte_at now 3 → byte_at now (52 + 107 * j) ≡ byte_at now at → j ≡ p
          only j h same = by_order (ltb j p) (ltb p j) refl refl where
            by_order : (b c : Bool) → ltb j p ≡ b → ltb p j ≡ c → j ≡ p
            by_order true c e f = absurd ((fits accepted).numbers j p (ltb-true j p e) still_there same)
            by_order false true e f = absurd ((fits accepted).numbers p j (ltb-true p j f) h (sym same))
            by_order false false e f = omega (arith, ltb-false j p e, ltb-false p j f)

    -- ASKED by the profile's number and the accumulator's, the card says what is stored
    pub room_asked : (cells : List ℕ) → length cells ≡ cell_count
        → room_left sitting.rules (rooms_sat setup commands cells) (byte_at setup at) (i + 1)
        ≡ Ok (record { 0 = get_or (rooms_sat setup commands cells) (4 * p + i) 0 })
    unfolding room_left
    room_asked cells size =
        let ruled = always_ruled setup good commands spoken in
        let number : byte_at setup at ≡ byte_at now at = ap (λ s. byte s at) (sym (same_bytes setup sitting.log)) in
        let last : i + 1 - 1 ≡ i = omega arith in
        rw (ruled.rules-are, number, found, ne_eqb (i + 1) 0 (λ z. omega arith), le-ltb 4 (i + 1) (omega arith), last, its)

    pub room_out_of_range : (rooms : List ℕ) (number : ℕ) → (number ≡ 0) ⊎ (4 < number)
        → room_number (room_left sitting.rules rooms (byte_at setup at) number) ≡ 6
    room_out_of_range rooms number out =
        let ruled = always_ruled setup good commands spoken in
        let its-number : byte_at setup at ≡ byte_at now at = ap (λ s. byte s at) (sym (same_bytes setup sitting.log)) in
        rw (ruled.rules-are, its-number) (out_of_range (rules_by now) rooms (byte_at now at) number (place_at p) found out)
