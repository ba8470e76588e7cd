-- What writing answers, by its causes, and what it leaves in the room. Assumes nothing.
use mathlib.Core.Path.{◌≡◌, refl, sym, ap, ◌∙◌}
use mathlib.Core.Bool.{Bool, true, false, not, cond}
use mathlib.Core.List.{List, append-nil}
use mathlib.Core.Logic.{◌↔◌, ◌⊎◌, inl, inr}
use Prim.Native.Nat.{ℕ, ◌%◌, ◌≤◌, ◌<◌}
use native.Mathlib.Omega.{arith}
use borrow.Author.Tests.{lt-ltb, le-ltb}
use lib.Dec.{ltb}
use lib.ListN.{length, take, drop, replicate}
use Rattle.iad.specs.declared.Iad.{Iad}
use Rattle.iad.specs.Iad.{is_writable, iad_bytes, iad_of, read_iad, write_iad, written, written_number}
use Rattle.iad.proofs.RoundTrip.{write_number, whole, back}
use Rattle.readback.specs.WellFormed.{Types, Profile, WellFormed, Writable, Unwritable, LaidOut, Left}
use Rattle.readback.specs.WellFormed.{above, second_type, first_type, fifth-byte, no_profile_lem, high_profile}
use Rattle.readback.proofs.Places.{sides, on}
use Rattle.readback.proofs.Writes.{writable}
use Rattle.readback.proofs.Readable.{fields, spoken, exactly-read}
use Rattle.std.specs.Prelude.{Ok}

-- ---- fields that are not writable have one of the causes

module _ (iad : Iad) where
  abbrev Sorted : Type 0
  Sorted = Writable iad ⊎ Unwritable iad

  sorted : Sorted
  sorted =
      on (sides iad.accumulator.0 999_999_999_999) (λ amount.
      on (sides 0x30 (iad.cvr.byte1 % 0x40)) (λ h. inr (first_type h)) (λ first.
      on (sides iad.cvr.byte5 0) (λ fifth.
      on (sides 1 iad.profile) (λ least.
      on (sides iad.profile 124) (λ most.
      let done : ((0xC0 ≤ iad.cvr.byte1 → iad.cvr.byte1 ≤ 0xFF → ⊥) → Sorted) =
      λ second. inl (record {
        amount = amount;
        types = record { second = second; first = first };
        fifth = omega arith;
        profile = record { least = least; most = most };
      }) in
      on (sides 0xC0 iad.cvr.byte1) (λ high.
      on (sides iad.cvr.byte1 0xFF) (λ h. inr (second_type high h)) (λ far. done (λ h k. omega arith)))
      (λ low. done (λ h k. omega arith)))
      (λ h. inr (high_profile h)))
      (λ h. inr (no_profile_lem (omega arith))))
      (λ h. inr (fifth-byte h))))
      (λ h. inr (above h))

  never : Unwritable iad → Writable iad → ⊥
  never (above h) w = let m = w.amount in omega arith
  never (second_type h k) w = w.types.second h k
  never (first_type h) w = let m = w.types.first in omega arith
  never (fifth-byte h) w = let m = w.fifth in omega arith
  never (no_profile_lem h) w = let m = w.profile.least in omega arith
  never (high_profile h) w = let m = w.profile.most in omega arith

-- ---- the number that writing answers

data Ruled (iad : Iad) (room : List ℕ) : ℕ → Type 0 where
  unfit : Unwritable iad → Ruled iad room 6
  tight : Writable iad → length room < 32 → Ruled iad room 7
  fits : Writable iad → 32 ≤ length room → Ruled iad room 0

module _ (iad : Iad) (room : List ℕ) where
  bad : Unwritable iad → is_writable iad ≡ false
  bad u = by (is_writable iad) refl where
    by : (t : Bool) → is_writable iad ≡ t → t ≡ false
    by true e = absurd (never iad u ((writable iad).0 e))
    by false e = refl

  ruled : Ruled iad room (written_number (write_iad iad room))
  ruled =
      rw (write_number iad room) (on (sorted iad)
      (λ w.
      let good = (writable iad).1 w in
      on (sides 32 (length room))
      (λ h. rw (good, le-ltb (length room) 32 h) (fits w h))
      (λ h. rw (good, lt-ltb (length room) 32 h) (tight w h)))
      (λ u. rw (bad u) (unfit u)))

  by_six : {n : ℕ} → Ruled iad room n → (n ≡ 6) ↔ Unwritable iad
  by_six (unfit u) = (λ e. u, λ v. refl)
  by_six (tight w h) = (λ e. absurd (omega arith), λ u. absurd (never iad u w))
  by_six (fits w h) = (λ e. absurd (omega arith), λ u. absurd (never iad u w))

  by_seven : {n : ℕ} → Ruled iad room n → (n ≡ 7) ↔ (Writable iad × (length room < 32))
  by_seven (unfit u) = (λ e. absurd (omega arith), λ (w, k). absurd (never iad u w))
  by_seven (tight w h) = (λ e. (w, h), λ v. refl)
  by_seven (fits w h) = (λ e. absurd (omega arith), λ (v, k). absurd (omega arith))

  by_zero : {n : ℕ} → Ruled iad room n → (n ≡ 0) ↔ (Writable iad × (32 ≤ length room))
  by_zero (unfit u) = (λ e. absurd (omega arith), λ (w, k). absurd (never iad u w))
  by_zero (tight w h) = (λ e. absurd (omega arith), λ (v, k). absurd (omega arith))
  by_zero (fits w h) = (λ e. (w, h), λ v. refl)

  -- 6 before 7
  pub exactly_six : (written_number (write_iad iad room) ≡ 6) ↔ Unwritable iad
  exactly_six = by_six ruled

  pub exactly_seven : (written_number (write_iad iad room) ≡ 7) ↔ (Writable iad × (length room < 32))
  exactly_seven = by_seven ruled

  pub exactly-done : (written_number (write_iad iad room) ≡ 0) ↔ (Writable iad × (32 ≤ length room))
  exactly-done = by_zero ruled

  -- ---- what writing leaves

  answered : Writable iad → 32 ≤ length room → write_iad iad room ≡ Ok tt
  unfolding write_iad
  answered w h = rw ((writable iad).1 w, le-ltb (length room) 32 h)

  pub laid_out : Writable iad → 32 ≤ length room → Left iad room (written iad room)
  laid_out w h =
      let (reads, behind) = (whole iad room).0 (answered w h) in
      let front = ((exactly-read (take 32 (written iad room)) iad).0 reads).1 in
      record {
        front = front;
        only = λ s l. sym (back s iad ((exactly-read s iad).1 (w, l))).0 ∙ (back (take 32 (written iad room)) iad reads).0;
        behind = behind;
      }

  -- a refusal changes no byte
  pub kept : (written_number (write_iad iad room) ≡ 0 → ⊥) → written iad room ≡ room
  unfolding written write_iad
  kept n =
      on (sorted iad)
      (λ w.
      on (sides 32 (length room))
      (λ h. absurd (n (exactly-done.1 (w, h))))
      (λ h. rw ((writable iad).1 w, lt-ltb (length room) 32 h)))
      (λ u. rw (bad u))

abbrev pub zeros : List ℕ
zeros = replicate 32 0

-- 32 zeros become just the bytes of the fields
pub filled : (iad : Iad) (s : List ℕ) → Writable iad → LaidOut iad s → written iad zeros ≡ s
unfolding written
filled iad s w l =
    let same = (back s iad ((exactly-read s iad).1 (w, l))).0 in
    rw (answered iad zeros w (omega arith)) (append-nil (iad_bytes iad) ∙ same)

-- what is well formed is just what an accepted write leaves in the first 32 bytes
pub exactly-written : (s : List ℕ)
    → WellFormed s ↔ ((iad : Iad) × (room : List ℕ) × (written_number (write_iad iad room) ≡ 0) × (take 32 (written iad room) ≡ s))
exactly-written s = (
  λ w.
      let read = fields s w in
      let (good, laid) = (exactly-read s (iad_of s)).0 read in
      let fits : 32 ≤ length zeros = omega arith in
      (iad_of s, zeros, (exactly-done (iad_of s) zeros).1 (good, fits), sym ((laid_out (iad_of s) zeros good fits).only s laid)),
  λ (iad, room, done, same).
      let (w, h) = (exactly-done iad room).0 done in
      rw (← same) (spoken (take 32 (written iad room)) iad w (laid_out iad room w h).front),
)
