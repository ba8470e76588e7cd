-- What is made of the entry that stands at a place: it is ill-formed, or lacks data, or leads to an action. Assumes nothing.
use mathlib.Core.Path.{◌≡◌, refl, sym, ap, ◌∙◌}
use mathlib.Core.Bool.{Bool, true, false, cond}
use mathlib.Core.Logic.{◌⊎◌, inl, inr}
use mathlib.Core.List.{List}
use Prim.Native.Nat.{ℕ, suc, ◌+◌, ◌-◌}
use native.Mathlib.Decide.{dec_le}
use native.Mathlib.Omega.{arith}
use borrow.Author.Tests.{lt-ltb, le-ltb}
use lib.Dec.{ltb}
use lib.ListN.{length}
use Rattle.fields.specs.Fields.{positive_action, negative_action}
use Rattle.slot.specs.Slot.{tests_slot, is_slot_sound, lacks_amount, slot_passes}
use Rattle.slot.specs.declared.Slots.{Slots}
use Rattle.entry.specs.Entry.{is_well_formed, reaches_past, passes, action_of, action_after, data_action, slot_action, action_taken}
use Rattle.entry.specs.declared.Action.TheVariants.{Refused}
use Rattle.annex.specs.Annex.{Bytes, start, width, positive, negative, OfSlot, IllFormed, Passes, Acts, passed, failed}
use Rattle.annex.specs.Annex.{Lacks, reaches_past_lem, amount_nowhere, amount-past, amount_no_digits}
use Rattle.annex.proofs.Fields.{entry, start_is, width_is, positive-is, negative-is}
use Rattle.annex.proofs.Form.{given, refuted, not_both, tests_are, Whole, SlotWhole, whole_if, well_if, slot_whole_if, slot_sound_if}
use Rattle.annex.proofs.Form.{Sound, of_data, of_slot, Form, form, broken}
use Rattle.annex.proofs.Tested.{holds, tested}
use Rattle.annex.proofs.Slotted.{slot_holds, slot_tested, slot_lacks, slot_has}

-- THE THREE THINGS THAT AN ENTRY CAN BE, and what it then does
pub data Judged (file : List ℕ) (at : ℕ) (slots : Slots) (d : List ℕ) : Type 0 where
  ill : IllFormed file at slots → Judged file at slots d
  lacks : Lacks file at slots d → Judged file at slots d
  acts : (a : ℕ) → Acts file at slots d a → Judged file at slots d

module _ (file : List ℕ) (at : ℕ) (slots : Slots) (d : List ℕ) (fs : Bytes file) (ds : Bytes d) where
  abbrev e : List ℕ
  e = entry file at

  pub ill_refused : IllFormed file at slots → action_taken e d slots ≡ Refused
  unfolding action_taken data_action slot_action
  ill_refused i = by (tests_slot e slots) refl
    where
      by : (t : Bool) → tests_slot e slots ≡ t → action_taken e d slots ≡ Refused
      by true t =
          let f = refuted (is_slot_sound e) (λ h.
          let w = slot_whole_if file at h in
          broken file at slots i (of_slot ((tests_are file at w.six w.sum fs slots).0 t) w)) in
          simp (t, f)
      by false t =
          let f = refuted (is_well_formed e) (λ h.
          let w = whole_if file at h in
          broken file at slots i (of_data (λ o. not_both (tests_slot e slots) ((tests_are file at w.six w.sum fs slots).1 o) t) w)) in
          simp (t, f)

  -- what a sound entry does
  record Doing : Type 0 where
    lacking : Bool
    passing : Bool
    taken : action_taken e d slots ≡ cond lacking Refused (action_after e passing)
    is_lacking : Lacks file at slots d → lacking ≡ true
    lacks_or : Lacks file at slots d ⊎ (lacking ≡ false)
    is-passing : Passes file at slots d → passing ≡ true
    passes_or : Passes file at slots d ⊎ (passing ≡ false)
    upper : positive_action e ≡ positive file at
    lower : negative_action e ≡ negative file at

  module _ (n : OfSlot file at slots → ⊥) (w : Whole file at) where
    reach_is : reaches_past e d ≡ ltb (length d) (start file at + width file at - 1)
    unfolding reaches_past
    reach_is = rw (start_is file at w.six, width_is file at w.six)

    data_lacks : Lacks file at slots d → reaches_past e d ≡ true
    data_lacks (reaches_past_lem o h) = reach_is ∙ lt-ltb _ _ h
    data_lacks (amount_nowhere a z) = absurd (n a.0)
    data_lacks (amount-past a l) = absurd (n a.0)
    data_lacks (amount_no_digits a m) = absurd (n a.0)

    data_does : Doing
    unfolding action_taken data_action
    data_does =
        let t = refuted (tests_slot e slots) (λ h. n ((tests_are file at w.six w.sum fs slots).0 h)) in
        record {
          lacking = reaches_past e d;
          passing = passes e d;
          taken = simp (t, well_if file at w);
          is_lacking = data_lacks;
          lacks_or =
              given (dec_le (suc (length d)) (start file at + width file at - 1)) (λ h. inl (reaches_past_lem n h))
              (λ m. inr (reach_is ∙ le-ltb (length d) (start file at + width file at - 1) (omega arith)));
          is-passing = holds file at w slots d fs ds;
          passes_or = tested file at w slots d fs ds;
          upper = positive-is file at w.six w.sum;
          lower = negative-is file at w.six w.sum;
        }

  slot_does : OfSlot file at slots → SlotWhole file at → Doing
  unfolding action_taken slot_action
  slot_does o w =
      let t = (tests_are file at w.six w.sum fs slots).1 o in
      record {
        lacking = lacks_amount e d;
        passing = slot_passes e d slots;
        taken = simp (t, slot_sound_if file at w);
        is_lacking = slot_lacks file at w slots o d;
        lacks_or = slot_has file at w slots o d;
        is-passing = slot_holds file at w slots o d;
        passes_or = slot_tested file at w slots o d;
        upper = positive-is file at w.six w.sum;
        lower = negative-is file at w.six w.sum;
      }

  does : Sound file at slots → Doing
  does (of_data n w) = data_does n w
  does (of_slot o w) = slot_does o w

  pub lacks_refused : Lacks file at slots d → action_taken e d slots ≡ Refused
  lacks_refused l = by (form file at slots)
    where
      by : Form file at slots → action_taken e d slots ≡ Refused
      by (inl i) = ill_refused i
      by (inr s) = let g = does s in g.taken ∙ simp (g.is_lacking l)

  sound : (IllFormed file at slots → ⊥) → Sound file at slots
  sound n = by (form file at slots)
    where
      by : Form file at slots → Sound file at slots
      by (inl i) = absurd (n i)
      by (inr s) = s

  other : {P : Type 0} {b : Bool} → (P → ⊥) → P ⊎ (b ≡ false) → b ≡ false
  other n (inl p) = absurd (n p)
  other n (inr f) = f

  pub acts_as : (a : ℕ) → Acts file at slots d a → action_taken e d slots ≡ action_of a
  acts_as a (passed i r p q) =
      let g = does (sound i) in
      g.taken ∙ simp (other r g.lacks_or, g.is-passing p) (ap action_of (g.upper ∙ sym q))
  acts_as a (failed i r n q) =
      let g = does (sound i) in
      g.taken ∙ simp (other r g.lacks_or, other n g.passes_or) (ap action_of (g.lower ∙ sym q))

  pub judged : Judged file at slots d
  judged = by (form file at slots)
    where
      pass : (s : Sound file at slots) → (Lacks file at slots d → ⊥) → Passes file at slots d ⊎ ((does s).passing ≡ false) → Judged file at slots d
      pass s n (inl p) = acts (positive file at) (passed (λ i. broken file at slots i s) n p refl)
      pass s n (inr f) =
          acts (negative file at) (failed (λ i. broken file at slots i s) n (λ p. not_both (does s).passing ((does s).is-passing p) f) refl)

      look : (s : Sound file at slots) → Lacks file at slots d ⊎ ((does s).lacking ≡ false) → Judged file at slots d
      look s (inl l) = lacks l
      look s (inr f) = pass s (λ l. not_both (does s).lacking ((does s).is_lacking l) f) (does s).passes_or

      by : Form file at slots → Judged file at slots d
      by (inl i) = ill i
      by (inr s) = look s (does s).lacks_or
