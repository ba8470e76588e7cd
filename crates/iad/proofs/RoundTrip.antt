-- Reading undoes writing, and what can be read is just what writing makes. No byte is taken to be below 256. Assumes nothing.
use mathlib.Core.Path.{◌≡◌, refl, sym, ap, ◌∙◌}
use mathlib.Core.Bool.{Bool, true, false, not, cond, ◌&&◌, and-true, and_assoc}
use mathlib.Core.List.{List, ◌∷◌}
use mathlib.Core.Logic.{◌↔◌}
use Prim.Native.Nat.{ℕ, ◌≤◌}
use native.Mathlib.Omega.{arith}
use borrow.Author.Tests.{leb-true, le-leb, eqb-true}
use lib.Dec.{leb, ltb, eqb}
use lib.ListN.{length, take, drop, replicate}
use lib.Seq.{take_all, take_at, drop_at}
use Rattle.money.specs.Money.{max}
use Rattle.refusal.specs.declared.Refusal.{Refusal}
use Rattle.refusal.specs.declared.Refusal.TheVariants.{OutOfRange, RoomTooSmall, NotAnIad}
use Rattle.wire.specs.Wire.{byte, number}
use Rattle.wire.proofs.Pairs.{both, pair-value, pair_is}
use Rattle.iad.specs.declared.Iad.{Iad}
use Rattle.iad.specs.Iad.{iad_bytes, pairs_of, cvr_of, pairs_value, iad_of, are_zeros, has_fixed_bytes, is_cvr, are_pairs, is_profile, is_iad, read_iad}
use Rattle.iad.specs.Iad.{is_writable, write_iad, written, read_number, written_number}
use Rattle.iad.proofs.Runs.{run, run_take, zeros-run, pairs-run, pairs_below}
use Rattle.std.specs.Prelude.{Err, Ok}

-- what is written is read

module _ (iad : Iad) where
  size : length (iad_bytes iad) ≡ 32
  unfolding iad_bytes pairs_of
  size = refl

  digits : are_pairs (iad_bytes iad) 8 6 ≡ true
  unfolding are_pairs iad_bytes pairs_of
  digits = simp pair_is

  amount : iad.accumulator.0 ≤ max → pairs_value (iad_bytes iad) 8 6 ≡ iad.accumulator.0
  unfolding pairs_value iad_bytes pairs_of
  amount h = simp pair-value (omega arith)

  fields : iad.accumulator.0 ≤ max → iad_of (iad_bytes iad) ≡ iad
  unfolding iad_of cvr_of
  fields h = rw (amount h) (unfold iad_bytes pairs_of in refl)

  -- of bytes that are written reading can refuse the CVR and the profile alone
  refusable : is_iad (iad_bytes iad) ≡ (is_cvr iad.cvr && is_profile iad.profile)
  unfolding is_iad has_fixed_bytes cvr_of
  refusable = rw digits (unfold iad_bytes pairs_of number in rw and-true)

  -- writing refuses just an accumulator above MAX and fields whose bytes reading refuses
  pub writable : is_writable iad ≡ (leb iad.accumulator.0 max && is_iad (iad_bytes iad))
  unfolding is_writable
  writable = rw refusable (and_assoc (leb iad.accumulator.0 max) (is_cvr iad.cvr) (is_profile iad.profile))

  pub there : is_writable iad ≡ true → read_iad (iad_bytes iad) ≡ Ok iad
  unfolding read_iad
  there e =
      let (small, readable) = both (leb iad.accumulator.0 max) (is_iad (iad_bytes iad)) (sym writable ∙ e) in
      rw (readable, fields (leb-true _ _ small))

-- what is read was written

-- the test of an IAD, part by part
record Tested (s : List ℕ) : Type 0 where
  size : length s ≡ 32
  byte0 : byte s 0 ≡ 0x0F
  byte1 : byte s 1 ≡ 0xA5
  byte16 : byte s 16 ≡ 0x0F
  zeros : number s 18 14 ≡ 0
  cvr : is_cvr (cvr_of s) ≡ true
  digits : are_pairs s 8 6 ≡ true
  profile : is_profile (byte s 17) ≡ true

module _ (s : List ℕ) (e : is_iad s ≡ true) where
  tested : Tested s
  unfolding is_iad has_fixed_bytes
  tested =
      let (r, profile) = both _ (is_profile (byte s 17)) e in
      let (r, digits) = both _ (are_pairs s 8 6) r in
      let (r, cvr) = both _ (is_cvr (cvr_of s)) r in
      let (size, fixed) = both (eqb (length s) 32) (has_fixed_bytes s) r in
      let (r, zeros) = both _ (are_zeros s 18 14) fixed in
      let (r, byte16) = both _ (eqb (byte s 16) 0x0F) r in
      let (byte0, byte1) = both (eqb (byte s 0) 0x0F) (eqb (byte s 1) 0xA5) r in
      record {
        size = eqb-true _ _ size;
        byte0 = eqb-true _ _ byte0;
        byte1 = eqb-true _ _ byte1;
        byte16 = eqb-true _ _ byte16;
        zeros = eqb-true _ _ zeros;
        cvr = cvr;
        digits = digits;
        profile = profile;
      }

  same_bytes : iad_bytes (iad_of s) ≡ s
  unfolding iad_bytes iad_of cvr_of
  same_bytes =
      let t = tested in
      let long = t.size in
      let made : iad_bytes (iad_of s) ≡ run s 0 32 =
      rw (pairs-run s 8 6 t.digits, t.byte0, t.byte1, t.byte16, zeros-run s 18 14 t.zeros) in
      made ∙ run_take s 32 (omega arith) ∙ take_all 32 s (omega arith)

  good-fields : is_writable (iad_of s) ≡ true
  unfolding is_writable iad_of
  good-fields =
      let t = tested in
      rw (le-leb (pairs_value s 8 6) max (omega (arith, pairs_below s 8 6 t.digits)), t.cvr, t.profile)

pub read_number_lem : (s : List ℕ) → read_number (read_iad s) ≡ cond (is_iad s) 0 8
unfolding read_iad
read_number_lem s = by (is_iad s) where
  by : (b : Bool) → read_number (cond b (Ok (iad_of s)) (Err NotAnIad)) ≡ cond b 0 8
  by true = refl
  by false = refl

accepted : (s : List ℕ) → read_number (read_iad s) ≡ 0 → is_iad s ≡ true
accepted s e = by (is_iad s) 0 (sym (read_number_lem s) ∙ e) where
  by : (b : Bool) (n : ℕ) → cond b n 8 ≡ 0 → b ≡ true
  by true n e = refl
  by false n e = let z : ⊥ = omega arith in absurd z

pub back : (s : List ℕ) (iad : Iad) → read_iad s ≡ Ok iad → (iad_bytes iad ≡ s) × (is_writable iad ≡ true)
unfolding read_iad
back s iad e =
    let t = accepted s (ap read_number e) in
    let f : read_iad s ≡ Ok (iad_of s) = rw t in
    let g : iad_of s ≡ iad = cc in
    rw (← g) (same_bytes s t, good-fields s t)

-- reading takes just the bytes that writing makes of fields that it takes
pub readable : (s : List ℕ) → (read_number (read_iad s) ≡ 0) ↔ ((iad : Iad) × (is_writable iad ≡ true) × (iad_bytes iad ≡ s))
readable s = (
  λ e. let t = accepted s e in (iad_of s, good-fields s t, same_bytes s t),
  λ (iad, good, made). rw (← made, there iad good),
)

-- what a write answers and leaves

module _ (iad : Iad) (room : List ℕ) where
  pub write_number : written_number (write_iad iad room) ≡ cond (not (is_writable iad)) 6 (cond (ltb (length room) 32) 7 0)
  unfolding write_iad
  write_number = by (is_writable iad) (ltb (length room) 32) where
    by : (good small : Bool)
        → written_number (cond (not good) (Err OutOfRange) (cond small (Err RoomTooSmall) (Ok tt)))
        ≡ cond (not good) 6 (cond small 7 0)
    by true true = refl
    by true false = refl
    by false small = refl

  done : write_iad iad room ≡ Ok tt → is_writable iad ≡ true
  done e = by (is_writable iad) (cond (ltb (length room) 32) 7 0) (sym write_number ∙ ap written_number e) where
    by : (b : Bool) (n : ℕ) → cond (not b) 6 n ≡ 0 → b ≡ true
    by true n e = refl
    by false n e = let z : ⊥ = omega arith in absurd z

  -- a write that is done is read back from the first 32 bytes and changes no other; a refused one changes none
  pub whole : (write_iad iad room ≡ Ok tt → (read_iad (take 32 (written iad room)) ≡ Ok iad) × (drop 32 (written iad room) ≡ drop 32 room))
      × ((refusal : Refusal) → write_iad iad room ≡ Err refusal → written iad room ≡ room)
  unfolding written
  whole =
      let rest = drop 32 room in (
        λ e. rw e (rw (take_at (iad_bytes iad) rest 32 (size iad)) (there iad (done e)), drop_at (iad_bytes iad) rest 32 (size iad)),
        λ refusal e. rw e,
      )

-- 32 zeros that an IAD is written into, or refused, are 32 bytes then
pub written-size : (iad : Iad) → length (written iad (replicate 32 0)) ≡ 32
unfolding written write_iad iad_bytes pairs_of
written-size iad = by (is_writable iad) refl where
  by : (t : Bool) → is_writable iad ≡ t → length (written iad (replicate 32 0)) ≡ 32
  by true e = rw e
  by false e = rw e

-- the IAD of line 2 of the printed sitting
abbrev pub printed : Iad
printed =
    record {
      accumulator = record { 0 = 5000 };
      key = 0x01;
      cvr = record { byte1 = 0x90; byte2 = 0x30; byte3 = 0x00; byte4 = 0x00; byte5 = 0x00 };
      first = 1;
      second = 0;
      profile = 1;
    }

pub printed-bytes : (is_writable printed ≡ true)
    × (iad_bytes printed
    ≡ 0x0F ∷ 0xA5 ∷ 0x01 ∷ 0x90 ∷ 0x30 ∷ 0x00 ∷ 0x00 ∷ 0x00 ∷ 0x00 ∷ 0x00 ∷ 0x00 ∷ 0x00 ∷ 0x50 ∷ 0x00 ∷ 0x01 ∷ 0x00
    ∷ 0x0F ∷ 0x01 ∷ replicate 14 0x00)
unfolding is_writable is_cvr iad_bytes pairs_of
printed-bytes = (refl, refl)
