-- What was written reads back through the set-up's own definitions. Assumes nothing.
use mathlib.Core.Path.{◌≡◌, refl, ◌∙◌}
use mathlib.Core.Bool.{Bool, true, false, not, cond, ◌&&◌}
use mathlib.Core.List.{List, ◌++◌}
use Prim.Native.Nat.{ℕ, ◌+◌, ◌/◌, ◌%◌, ◌≤◌, ◌<◌}
use native.Mathlib.Omega.{arith}
use lib.Dec.{leb, ltb, eqb}
use lib.ListN.{length, drop, length-drop}
use lib.Ieee.{Float, binary64}
use lib.Ieee.Bits.{of_bits-fits}
use borrow.Author.Tests.{le-leb, leb-true, ltb-false}
use Rattle.wire.specs.Wire.{byte, number, is_currency}
use Rattle.wire.proofs.Pairs.{both}
use Rattle.money.specs.Money.{max}
use Rattle.rate.specs.Taken.{Taken, divided, multiplied}
use Rattle.refusal.specs.declared.Refusal.{Refusal}
use Rattle.refusal.specs.declared.Refusal.TheVariants.{RoomTooSmall, Unreadable}
use Rattle.ranges.specs.Ranges.{is_conversion}
use Rattle.setup.specs.Setup.{rate_in}
use Rattle.import.specs.declared.OldRecord.{OldRecord}
use Rattle.import.specs.declared.NewRecord.{NewRecord}
use Rattle.import.specs.Import.{are_currencies, old_record, take_over, bytes_of, new_bytes, in_room, import_record, imported}
use Rattle.import_laws.specs.Moved.{Moved, Read}
use Rattle.import_laws.proofs.Kept.{kept}
use Rattle.std.specs.Prelude.{Err, Ok, Result}

-- ---- digits and shift of a rate that is taken are in a set-up's ranges
pub record InRange (digits shift : ℕ) : Type 0 where
  pub least : 1 ≤ digits
  pub most : digits ≤ 9999
  pub bound : shift ≤ 12

pub in_range_lem : {rate : Float} {digits shift : ℕ} → Taken rate digits shift → InRange digits shift
in_range_lem (divided e is q least) = let bound = q.bound in record { least = q.least; most = q.most; bound = omega arith }
in_range_lem (multiplied k is p none least) = let bound = p.bound in record { least = p.least; most = p.most; bound = omega arith }

code_below : (code : ℕ) → is_currency code ≡ true → code < 65536
code_below code e =
    let upper = (both (leb (code / 256) 9 && leb (code / 16 % 16) 9) (leb (code % 16) 9) e).0 in
    let h : code / 256 ≤ 9 = leb-true (code / 256) 9 (both (leb (code / 256) 9) (leb (code / 16 % 16) 9) upper).0 in
    omega arith

-- ---- the fields of the bytes
module _ (new : NewRecord) (rest : List ℕ) where
  abbrev whole : List ℕ
  whole = new_bytes new ++ rest

  from_back : new.conversion.from < 65536 → number whole 0 2 ≡ new.conversion.from
  unfolding new_bytes number bytes_of
  from_back h = omega arith

  to_back : new.conversion.to < 65536 → number whole 2 2 ≡ new.conversion.to
  unfolding new_bytes number bytes_of
  to_back h = omega arith

  digits_back : new.conversion.digits < 65536 → number whole 4 2 ≡ new.conversion.digits
  unfolding new_bytes number bytes_of
  digits_back h = omega arith

  shift_back : byte whole 6 ≡ new.conversion.shift
  unfolding new_bytes bytes_of
  shift_back = refl

  amount_back : new.mta.0 ≤ max → number whole 7 8 ≡ new.mta.0
  unfolding new_bytes number bytes_of
  amount_back h = omega arith

  behind-kept : drop 15 whole ≡ rest
  unfolding new_bytes bytes_of
  behind-kept = refl

  size_is : length whole ≡ 15 + length rest
  unfolding new_bytes bytes_of
  size_is = omega arith

  module _ (old : OldRecord) (m : Moved old new) where
    abbrev from : ℕ
    from = new.conversion.from

    abbrev to : ℕ
    to = new.conversion.to

    codes : (is_currency from ≡ true) × (is_currency to ≡ true) × (not (eqb from to) ≡ true)
    codes =
        let all : are_currencies from to ≡ true = rw (m.from, m.to) m.codes in
        let (digits, apart) = both (is_currency from && is_currency to) (not (eqb from to)) all in
        let (one, two) = both (is_currency from) (is_currency to) digits in
        (one, two, apart)

    backs : (number whole 0 2 ≡ from) × (number whole 2 2 ≡ to) × (number whole 4 2 ≡ new.conversion.digits)
    backs =
        let most = (in_range_lem m.taken).most in
        (from_back (code_below from codes.0), to_back (code_below to codes.1), digits_back (omega arith))

    conversion_back : rate_in whole 0 ≡ new.conversion
    unfolding rate_in
    conversion_back = rw (backs.0, backs.1, backs.2, shift_back) refl

    accepted_back : is_conversion whole 0 ≡ true
    unfolding is_conversion
    accepted_back =
        let range = in_range_lem m.taken in
        rw (backs.0, backs.1, backs.2, shift_back)
        (simp (codes.0, codes.1, codes.2, le-leb 1 _ range.least, le-leb _ 9999 range.most, le-leb _ 12 range.bound))

-- ---- the theorems
module _ (old room : List ℕ) where
  -- a refusal keeps the room's bytes
  pub refusal_keeps : (refusal : Refusal) → import_record old room ≡ Err refusal → imported old room ≡ room
  unfolding imported
  refusal_keeps refusal h = rw h

  pub room_is : (new : NewRecord) → import_record old room ≡ Ok tt → take_over (old_record old) ≡ Ok new
      → imported old room ≡ new_bytes new ++ drop 15 room
  unfolding imported
  room_is new h t = rw (h, t)

  abbrev no_refusal : Result Unit Refusal
  no_refusal = Ok tt

  differ : (refusal : Refusal) → Err refusal ≡ no_refusal → ⊥
  differ refusal e = cc

  module _ (done : import_record old room ≡ Ok tt) where
    by_room : (new : NewRecord) → take_over (old_record old) ≡ Ok new → (small : Bool) → ltb (length room) 15 ≡ small
        → cond small (Err RoomTooSmall) no_refusal ≡ no_refusal → Read old room
    by_room new t true e h = absurd (differ RoomTooSmall h)
    by_room new t false e h =
        let rest = drop 15 room in
        let large : 15 ≤ length room = ltb-false (length room) 15 e in
        let m : Moved (old_record old) new =
        (unfold old_record in kept (old_record old) new (of_bits-fits binary64 (number old 4 8)) (of_bits-fits binary64 (number old 12 8)) t) in
        let is = room_is new done t in
        record {
          new = new;
          moved = m;
          accepted = rw is (accepted_back new rest (old_record old) m);
          conversion = rw is (conversion_back new rest (old_record old) m);
          amount = rw is (amount_back new rest m.most);
          behind = rw is (behind-kept new rest);
          size = rw is (size_is new rest ∙ (rw length-drop (omega arith)));
        }

    by-taken : (taken : Result NewRecord Refusal) → take_over (old_record old) ≡ taken → in_room taken room ≡ Ok tt → Read old room
    by-taken (Err refusal) t h = absurd (differ refusal h)
    by-taken (Ok new) t h = by_room new t (ltb (length room) 15) refl h

    by_length : (right : Bool) → cond right (in_room (take_over (old_record old)) room) (Err Unreadable) ≡ Ok tt → Read old room
    by_length true h = by-taken (take_over (old_record old)) refl h
    by_length false h = absurd (differ Unreadable h)

    -- what was written reads back
    pub read_back : Read old room
    unfolding import_record
    read_back = by_length (eqb (length old) 20) done
