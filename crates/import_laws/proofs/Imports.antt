-- A record of version one is taken exactly when no cause applies, and else refused by the first; what its room then holds. Assumes nothing.
use mathlib.Core.Path.{◌≡◌, refl, sym, ap, ◌∙◌, subst}
use mathlib.Core.Bool.{Bool, true, false, cond}
use mathlib.Core.List.{List}
use mathlib.Core.Logic.{◌↔◌}
use Prim.Native.Nat.{ℕ, ◌+◌}
use native.Mathlib.Omega.{arith}
use borrow.Author.Tests.{ltb-true, ltb-false, eqb-true, eqb-false}
use lib.Dec.{ltb, eqb}
use lib.ListN.{length, get_or}
use lib.Ieee.{binary64}
use lib.Ieee.Bits.{of_bits-fits}
use Rattle.wire.specs.Wire.{number}
use Rattle.wire.proofs.Numbers.{split, one}
use Rattle.money.specs.declared.Rate.{Rate}
use Rattle.rate.specs.Taken.{Taken}
use Rattle.refusal.specs.declared.Refusal.TheVariants.{RoomTooSmall, Unreadable}
use Rattle.refusal.specs.Refusal.{refusal_number}
use Rattle.setup.specs.Setup.{rate_in}
use Rattle.import.specs.declared.OldRecord.{OldRecord}
use Rattle.import.specs.Import.{old_record, take_over, in_room, import_record, imported_number, imported}
use Rattle.import_laws.specs.Moved.{Read}
use Rattle.import_laws.specs.Causes.{two, eight, float, rank, Cause, not_twenty, in_fields, small_room, Numbered, done, refused, Becomes}
use Rattle.import_laws.proofs.Written.{read_back, refusal_keeps}
use Rattle.import_laws.proofs.Fields.{before_room, number_at, at_place, field-place, only, FieldsOf, FirstOf, Ruled, ruled}
use Rattle.std.specs.Prelude.{Err, Ok, Result}
use Rattle.import.specs.declared.NewRecord.{NewRecord}
use Rattle.refusal.specs.declared.Refusal.{Refusal}

-- ---- the bytes
abbrev fields : List ℕ → OldRecord
fields old = record { rate = float old 4; mta = float old 12; from = two old 0; to = two old 2 }

two_is : (s : List ℕ) (at : ℕ) → number s at 2 ≡ two s at
two_is s at = omega (arith, split s at 1 1, one s at, one s (at + 1))

eight_is : (s : List ℕ) (at : ℕ) → number s at 8 ≡ eight s at
eight_is s at =
    omega (arith, split s at 6 2, split s at 4 2, split s at 2 2, two_is s at, two_is s (at + 2), two_is s (at + 4), two_is s (at + 6))

fields-are : (old : List ℕ) → old_record old ≡ fields old
unfolding old_record
fields-are old = rw (eight_is old 4, eight_is old 12, two_is old 0, two_is old 2) refl

module _ (old room : List ℕ) where
  abbrev Answers : Result Unit Refusal → Type 0
  Answers (Ok written) = (m : ℕ) → Cause old room m → ⊥
  Answers (Err refusal) = FirstOf (Cause old room) (refusal_number refusal)

  module _ (right : length old ≡ 20) where
    by_room : ((m : ℕ) → FieldsOf (fields old) m → ⊥) → (small : Bool) → ltb (length room) 15 ≡ small
        → Answers (cond small (Err RoomTooSmall) (Ok tt))
    by_room none true e =
        (small_room refl (ltb-true _ _ e), λ m l. elim [ not_twenty n h ↦ h right | in_fields c ↦ none m c | small_room n h ↦ omega (arith, ap rank n) ])
    by_room none false e =
        let large = ltb-false (length room) 15 e in
        λ m. elim [ not_twenty n h ↦ h right | in_fields c ↦ none m c | small_room n h ↦ omega arith ]

    by-taken : (taken : Result NewRecord Refusal) → Ruled (fields old) taken → Answers (in_room taken room)
    by-taken (Ok new) none = by_room none (ltb (length room) 15) refl
    by-taken (Err refusal) first =
        let last = before_room _ first.0 in (
          in_fields first.0,
          λ m l. elim [ not_twenty n h ↦ h right | in_fields c ↦ first.1 m l c | small_room n h ↦ omega (arith, ap rank n) ],
        )

  by_length : (right : Bool) → eqb (length old) 20 ≡ right → Answers (cond right (in_room (take_over (fields old)) room) (Err Unreadable))
  by_length true e =
      by-taken (eqb-true _ _ e) (take_over (fields old)) (ruled (fields old) (of_bits-fits binary64 (eight old 4)) (of_bits-fits binary64 (eight old 12)))
  by_length false e = (not_twenty refl (eqb-false _ _ e), λ m l. absurd (omega arith))

  answers : Answers (import_record old room)
  unfolding import_record
  answers = rw (fields-are old) (by_length (eqb (length old) 20) refl)

  number_by : (answer : Result Unit Refusal) → Answers answer → Numbered (Cause old room) (imported_number answer)
  number_by (Ok written) none = done refl none
  number_by (Err refusal) first = refused first.0 first.1

  -- THE NUMBER OF AN IMPORT IS THE FIRST THAT APPLIES, 0 WHERE NONE DOES
  pub imports : Numbered (Cause old room) (imported_number (import_record old room))
  imports = number_by (import_record old room) answers

  its-place : (n : ℕ) → Cause old room n → n ≡ number_at (rank n)
  its-place n (not_twenty e h) = at_place n 9 e refl
  its-place n (in_fields c) = field-place n c
  its-place n (small_room e h) = at_place n 7 e refl

  -- AND NO OTHER NUMBER IS
  pub only-number : (n m : ℕ) → Numbered (Cause old room) n → Numbered (Cause old room) m → n ≡ m
  only-number = only its-place

  taken-by : (answer : Result Unit Refusal) → Answers answer → (answer ≡ Ok tt) ↔ ((m : ℕ) → Cause old room m → ⊥)
  taken-by (Ok written) none = (λ e. none, λ f. refl)
  taken-by (Err refusal) first = (
    (λ e. let z : ◌≡◌ {A = ℕ} 0 1 = cc in absurd (omega arith)),
    λ f. absurd (f (refusal_number refusal) first.0),
  )

  -- A RECORD IS TAKEN EXACTLY WHEN NO CAUSE APPLIES
  pub taken : (import_record old room ≡ Ok tt) ↔ ((m : ℕ) → Cause old room m → ⊥)
  taken = taken-by (import_record old room) answers

  kept_by : (m : ℕ) → Cause old room m → (answer : Result Unit Refusal) → import_record old room ≡ answer → imported old room ≡ room
  kept_by m c (Ok written) e = absurd (taken.0 e m c)
  kept_by m c (Err refusal) e = refusal_keeps old room refusal e

  -- A RECORD WITH A CAUSE LEAVES THE ROOM'S BYTES
  pub keeps : (m : ℕ) → Cause old room m → imported old room ≡ room
  keeps m c = kept_by m c (import_record old room) refl

  becomes_of : Read old room → Becomes old room (imported old room)
  unfolding rate_in
  becomes_of r =
      let after = imported old room in
      let was = fields-are old in
      let from : two after 0 ≡ r.new.conversion.from = sym (two_is after 0) ∙ ap (λ (x : Rate). x.from) r.conversion in
      let to : two after 2 ≡ r.new.conversion.to = sym (two_is after 2) ∙ ap (λ (x : Rate). x.to) r.conversion in
      let digits : two after 4 ≡ r.new.conversion.digits = sym (two_is after 4) ∙ ap (λ (x : Rate). x.digits) r.conversion in
      let shift : get_or after 6 0 ≡ r.new.conversion.shift = ap (λ (x : Rate). x.shift) r.conversion in
      let amount : eight after 7 ≡ r.new.mta.0 = sym (eight_is after 7) ∙ r.amount in
      record {
        from = from ∙ r.moved.from ∙ ap (λ (o : OldRecord). o.from) was;
        to = to ∙ r.moved.to ∙ ap (λ (o : OldRecord). o.to) was;
        rate = rw (digits, shift) (subst (λ (o : OldRecord). Taken o.rate r.new.conversion.digits r.new.conversion.shift) was r.moved.taken);
        mta = rw amount (ap (λ (o : OldRecord). o.mta) (sym was) ∙ r.moved.same);
        behind = r.behind;
        size = r.size;
      }

  -- A RECORD WITHOUT A CAUSE IS TAKEN, AND READS BACK
  pub becomes : ((m : ℕ) → Cause old room m → ⊥) → Becomes old room (imported old room) × Read old room
  becomes none = let r = read_back old room (taken.1 none) in (becomes_of r, r)
