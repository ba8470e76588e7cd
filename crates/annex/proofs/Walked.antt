-- The selection is the walk: what `selection_of` gives is where the walk leads, and nothing where it stops. Assumes nothing.
use mathlib.Core.Path.{◌≡◌, refl, sym, ap, subst, ◌∙◌}
use mathlib.Core.Logic.{◌↔◌}
use mathlib.Core.List.{List}
use Prim.Native.Nat.{ℕ, zero, suc, ◌+◌, ◌-◌, ◌≤◌, ◌<◌}
use native.Mathlib.Nat.{sub-zero}
use native.Mathlib.Decide.{dec_le, ℕ_discrete}
use native.Mathlib.Omega.{arith}
use borrow.Author.Tests.{lt-ltb, le-ltb, ne_eqb}
use Rattle.slot.specs.declared.Slots.{Slots}
use Rattle.entry.specs.Entry.{action_of, action_taken}
use Rattle.entry.specs.declared.Action.{Action}
use Rattle.entry.specs.declared.Action.TheVariants.{Profile, Move, Refused}
use Rattle.selection.specs.Selection.{first_entry, follow, one_more, selection_of, selection_number, profile_of, visits_of, skipped}
use Rattle.selection.proofs.Moves.{Visit, none, step, moves-on}
use Rattle.annex.specs.Annex.{Bytes, place, Acts, passed, failed, Leads, Moves, Walks, names, moves, Stops}
use Rattle.annex.specs.Annex.{profile_zero, move_zero, past_the_end, profile_7_f, empty-file, ill_formed, lacks_data, onward}
use Rattle.annex.proofs.Places.{skipped-is, skipped-more}
use Rattle.annex.proofs.Fields.{entry}
use Rattle.annex.proofs.Form.{given}
use Rattle.annex.proofs.Judged.{Judged, ill, lacks, acts, ill_refused, lacks_refused, acts_as, judged}
use Rattle.std.specs.Prelude.{None, Option, Some}
use Rattle.selection.specs.declared.Selected.{Selected}

-- AN ACTION BYTE
profile-is : (a : ℕ) → 1 ≤ a → a ≤ 0x7E → action_of a ≡ Profile a
unfolding action_of
profile-is a l h = simp (lt-ltb a 128 (omega arith), ne_eqb a 0 (λ z. omega arith), ne_eqb a 127 (λ z. omega arith))

move-is : (m : ℕ) → 1 ≤ m → action_of (0x80 + m) ≡ Move m
unfolding action_of
move-is m l = simp (le-ltb (128 + m) 128 (omega arith), ne_eqb (128 + m) 128 (λ z. omega arith)) (ap Move (omega arith))

refused-is : (action_of 0x00 ≡ Refused) × (action_of 0x80 ≡ Refused) × (action_of 0x7F ≡ Refused)
unfolding action_of
refused-is = (refl, refl, refl)

-- THE SELECTION FROM ENTRY k ON
module _ (file : List ℕ) (entries : ℕ) (slots : Slots) (d : List ℕ) (fs : Bytes file) (ds : Bytes d) where
  abbrev from : ℕ → Option Selected
  from k = selection_of (skipped file k) (entries - k) d slots

  abbrev does : ℕ → Action
  does k = action_taken (entry file (place file k)) d slots

  module _ (k : ℕ) (h : k < entries) where
    here : Visit (skipped file k) d slots (entries - k) (does k)
    here = record { some = λ z. omega arith; does = sym (ap (λ (s : List ℕ). action_taken (first_entry s) d slots) (skipped-is file k)) }

    from-profile : (p : ℕ) → does k ≡ Profile p → from k ≡ Some (record { profile = p; visits = 1 })
    unfolding follow
    from-profile p e = step here (Profile p) e

    from-refused : does k ≡ Refused → from k ≡ None
    unfolding follow
    from-refused e = step here Refused e

    from-move : (m : ℕ) → does k ≡ Move m → from k ≡ one_more (from (k + m))
    from-move m e =
        let z : entries - k - m ≡ entries - (k + m) = omega arith in
        sym (moves-on here e (sym (skipped-more file k m)) (ap (λ (n : ℕ). selection_of (skipped file (k + m)) n d slots) (sym z)) refl)

  acted : (k a : ℕ) (r : Action) → Leads file entries slots d k a → action_of a ≡ r → does k ≡ r
  acted k a r c e = acts_as file (place file k) slots d fs ds a c.1 ∙ e

  refused : (k a : ℕ) → Leads file entries slots d k a → action_of a ≡ Refused → from k ≡ None
  refused k a c e = from-refused k c.0 (acted k a Refused c e)

  moved : (k m : ℕ) → Moves file entries slots d k m → from k ≡ one_more (from (k + m))
  moved k m c = from-move k c.0.0 m (acted k (0x80 + m) (Move m) c.0 (move-is m c.1))

  past-last : (k : ℕ) → entries ≤ k → from k ≡ None
  past-last k h = none (skipped file k) d slots (entries - k) (omega arith)

  -- where the walk leads, the selection does
  walk-selects : {k p v : ℕ} → Walks file entries slots d k p v → from k ≡ Some (record { profile = p; visits = v })
  walk-selects (names k p c l g) = from-profile k c.0 p (acted k p (Profile p) c (profile-is p l g))
  walk-selects (moves k m p v c w) = moved k m c ∙ ap one_more (walk-selects w)

  stop_refuses : {k : ℕ} → Stops file entries slots d k → from k ≡ None
  stop_refuses (profile_zero k c) = refused k 0x00 c refused-is.0
  stop_refuses (move_zero k c) = refused k 0x80 c refused-is.1
  stop_refuses (past_the_end k m c e) = moved k m c ∙ ap one_more (past-last (k + m) e)
  stop_refuses (profile_7_f k c) = refused k 0x7F c refused-is.2
  stop_refuses (empty-file k z) = past-last k (omega arith)
  stop_refuses (ill_formed k h i) = from-refused k h (ill_refused file (place file k) slots d fs ds i)
  stop_refuses (lacks_data k h l) = from-refused k h (lacks_refused file (place file k) slots d fs ds l)
  stop_refuses (onward k m c s) = moved k m c ∙ ap one_more (stop_refuses s)

  -- the walk leads somewhere, or stops
  pub data Way (k : ℕ) : Type 0 where
    leads : (p v : ℕ) → Walks file entries slots d k p v → Way k
    stops : Stops file entries slots d k → Way k

  byte_of : (k a : ℕ) → Acts file (place file k) slots d a → a < 256
  byte_of k a (passed i r p q) = rw q (fs _)
  byte_of k a (failed i r p q) = rw q (fs _)

  -- from an entry on, if there is a way from each entry below
  module _ (k : ℕ) (h : k < entries) (on : (m : ℕ) → 1 ≤ m → k + m < entries → Way (k + m)) where
    after : (m : ℕ) → Moves file entries slots d k m → Way (k + m) → Way k
    after m c (leads p v w) = leads p (v + 1) (moves k m p v c w)
    after m c (stops s) = stops (onward k m c s)

    move : (m : ℕ) → Moves file entries slots d k m → Way k
    move m c = given (dec_le entries (k + m)) (λ e. stops (past_the_end k m c e)) (λ e. after m c (on m c.1 (omega arith)))

    act : (a : ℕ) → Acts file (place file k) slots d a → Way k
    act a c =
        given (ℕ_discrete a 0x00) (λ z. stops (profile_zero k (h, rw z at c))) (λ n.
        given (ℕ_discrete a 0x7F) (λ z. stops (profile_7_f k (h, rw z at c))) (λ o.
        given (ℕ_discrete a 0x80) (λ z. stops (move_zero k (h, rw z at c))) (λ p.
        given (dec_le a 0x7E) (λ g. leads a 1 (names k a (h, c) (omega arith) g)) (λ q.
        let z : a ≡ 0x80 + (a - 0x80) = omega arith in
        move (a - 0x80) ((h, subst (Acts file (place file k) slots d) z c), omega arith, omega (arith, byte_of k a c))))))

    way_by : Judged file (place file k) slots d → Way k
    way_by (ill i) = stops (ill_formed k h i)
    way_by (lacks l) = stops (lacks_data k h l)
    way_by (acts a c) = act a c

  way : (n k : ℕ) → entries ≤ k + n → k < entries → Way k
  way zero k f h = absurd (omega arith)
  way (suc n) k f h = way_by k h (λ m l g. way n (k + m) (omega arith) g) (judged file (place file k) slots d fs ds)

  first_way : Way 0
  first_way = given (dec_le 1 entries) (λ h. way entries 0 (omega arith) h) (λ n. stops (empty-file 0 (omega arith)))

  begins : from 0 ≡ selection_of file entries d slots
  unfolding skipped
  begins = ap (λ (n : ℕ). selection_of file n d slots) (sub-zero entries)

  -- WHAT IS SELECTED IS WHERE THE WALK LEADS, with as many visits
  pub walked : (p v : ℕ) → (selection_of file entries d slots ≡ Some (record { profile = p; visits = v })) ↔ Walks file entries slots d 0 p v
  walked p v = (by first_way, λ w. sym begins ∙ walk-selects w)
    where
      by : Way 0 → selection_of file entries d slots ≡ Some (record { profile = p; visits = v }) → Walks file entries slots d 0 p v
      by (leads q u w) e =
          let s : selection_of file entries d slots ≡ (Some (record { profile = q; visits = u })) = sym begins ∙ walk-selects w in
          let i : q ≡ p = ap profile_of (sym s ∙ e) in
          let j : u ≡ v = ap visits_of (sym s ∙ e) in
          rw j at (rw i at w)
      by (stops s) e =
          let n : selection_of file entries d slots ≡ None = sym begins ∙ stop_refuses s in
          let z : ◌≡◌ {A = ℕ} 0 1 = cc in
          absurd (omega arith)

  -- IT IS REFUSED, with 12, WHERE THE WALK STOPS
  pub stopped : (selection_number (selection_of file entries d slots) ≡ 12) ↔ Stops file entries slots d 0
  stopped = (by first_way, λ s. ap selection_number (sym begins ∙ stop_refuses s))
    where
      by : Way 0 → selection_number (selection_of file entries d slots) ≡ 12 → Stops file entries slots d 0
      by (leads q u w) e = absurd (omega (arith, ap selection_number (sym begins ∙ walk-selects w)))
      by (stops s) e = s
