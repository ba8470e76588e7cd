-- What is readable is what document 01 says of the 32 bytes, and nothing else. Assumes nothing.
use mathlib.Core.Path.{◌≡◌, refl, sym, ap, ◌∙◌}
use mathlib.Core.Bool.{Bool, true, false, not, cond, ◌&&◌}
use mathlib.Core.List.{List}
use mathlib.Core.Logic.{◌↔◌}
use Prim.Native.Nat.{ℕ, ◌+◌, ◌*◌, ◌/◌, ◌%◌, ◌≤◌, ◌<◌}
use native.Mathlib.Omega.{arith}
use borrow.Author.Tests.{eqb-true, eq-eqb}
use lib.Dec.{eqb}
use lib.ListN.{length}
use Rattle.wire.specs.Wire.{byte, number}
use Rattle.wire.proofs.Pairs.{both}
use Rattle.iad.specs.declared.Iad.{Iad}
use Rattle.iad.specs.Iad.{cvr_of, pairs_value, iad_of, are_zeros, has_fixed_bytes, is_cvr, are_pairs, is_profile, is_iad, read_iad, iad_bytes, is_writable, read_number}
use Rattle.iad.proofs.RoundTrip.{read_number_lem, there, back}
use Rattle.readback.specs.WellFormed.{WellFormed, Writable, LaidOut, amount_in}
use Rattle.readback.proofs.Places.{pairs-each, each-pairs, zeros-each, each-zeros}
use Rattle.readback.proofs.Writes.{profile-is, cvr_is, writable}
use Rattle.std.specs.Prelude.{Ok}

-- the number is 0 or 8

abbrev numbered : Bool → ℕ
numbered t = cond t 0 8

taken : (t : Bool) → numbered t ≡ 0 → t ≡ true
taken true e = refl
taken false e = absurd (omega arith)

refused : (t : Bool) → numbered t ≡ 8 → t ≡ true → ⊥
refused true e f = omega arith
refused false e f = let z : ◌≡◌ {A = ℕ} 0 1 = cc in omega arith

untaken : (t : Bool) → (t ≡ true → ⊥) → numbered t ≡ 8
untaken true n = absurd (n refl)
untaken false n = refl

-- the test of an IAD, part by part
module _ (s : List ℕ) where
  formed : is_iad s ≡ true → WellFormed s
  unfolding is_iad has_fixed_bytes cvr_of
  formed e =
      let (r, profile) = both _ (is_profile (byte s 17)) e in
      let (r, digits) = both _ (are_pairs s 8 6) r in
      let (r, cvr) = both _ (is_cvr (cvr_of s)) r in
      let (size, fixed) = both (eqb (length s) 32) (has_fixed_bytes s) r in
      let (r, zeros) = both _ (are_zeros s 18 14) fixed in
      let (r, divides) = both _ (eqb (byte s 16) 0x0F) r in
      let (opens, format) = both (eqb (byte s 0) 0x0F) (eqb (byte s 1) 0xA5) r in
      let (types, fifth) = (cvr_is (cvr_of s)).0 cvr in
      record {
        size = eqb-true _ _ size;
        opens = eqb-true _ _ opens;
        format = eqb-true _ _ format;
        types = types;
        fifth = fifth;
        uppers = λ i h. (pairs-each s 8 6 digits i h).0;
        lowers = λ i h. (pairs-each s 8 6 digits i h).1;
        divides = eqb-true _ _ divides;
        profile = (profile-is (byte s 17)).0 profile;
        zeros = zeros-each s 18 14 (eqb-true _ _ zeros);
      }

  tested : WellFormed s → is_iad s ≡ true
  unfolding is_iad has_fixed_bytes cvr_of
  tested w =
      rw (
        eq-eqb (length s) 32 w.size,
        eq-eqb (byte s 0) 0x0F w.opens,
        eq-eqb (byte s 1) 0xA5 w.format,
        eq-eqb (byte s 16) 0x0F w.divides,
        each-zeros s 18 14 w.zeros,
        (cvr_is (cvr_of s)).1 (w.types, w.fifth),
        each-pairs s 8 6 (λ i h. (w.uppers i h, w.lowers i h)),
        (profile-is (byte s 17)).1 w.profile,
      )

  pub exactly_readable : (read_number (read_iad s) ≡ 0) ↔ WellFormed s
  exactly_readable = (
    λ e. formed (taken (is_iad s) (sym (read_number_lem s) ∙ e)),
    λ w. read_number_lem s ∙ rw (tested w),
  )

  -- every other list is refused, with 8
  pub exactly_unreadable : (read_number (read_iad s) ≡ 8) ↔ (WellFormed s → ⊥)
  exactly_unreadable = (
    λ e w. refused (is_iad s) (sym (read_number_lem s) ∙ e) (tested w),
    λ n. read_number_lem s ∙ untaken (is_iad s) (λ e. n (formed e)),
  )

-- the bytes that hold fields which writing takes are well formed
pub spoken : (s : List ℕ) (iad : Iad) → Writable iad → LaidOut iad s → WellFormed s
spoken s iad w l =
    record {
      size = l.size;
      opens = l.opens;
      format = l.format;
      types = rw l.cvr1 w.types;
      fifth = l.cvr5 ∙ w.fifth;
      uppers = l.uppers;
      lowers = l.lowers;
      divides = l.divides;
      profile = rw l.profile w.profile;
      zeros = l.zeros;
    }

pub fields : (s : List ℕ) → WellFormed s → read_iad s ≡ Ok (iad_of s)
unfolding read_iad
fields s w = rw (tested s w)

module _ (s : List ℕ) (iad : Iad) where
  holds : LaidOut iad s → iad_of s ≡ iad
  unfolding iad_of cvr_of pairs_value
  holds l =
      let value : pairs_value s 8 6 ≡ iad.accumulator.0 = sym (omega arith) ∙ l.amount in
      rw (value, l.key, l.cvr1, l.cvr2, l.cvr3, l.cvr4, l.cvr5, l.first, l.second, l.profile)

  held : WellFormed s → iad_of s ≡ iad → LaidOut iad s
  unfolding iad_of cvr_of pairs_value
  held w e =
      record {
        size = w.size;
        opens = w.opens;
        format = w.format;
        key = ap (λ (x : Iad). x.key) e;
        cvr1 = ap (λ (x : Iad). x.cvr.byte1) e;
        cvr2 = ap (λ (x : Iad). x.cvr.byte2) e;
        cvr3 = ap (λ (x : Iad). x.cvr.byte3) e;
        cvr4 = ap (λ (x : Iad). x.cvr.byte4) e;
        cvr5 = ap (λ (x : Iad). x.cvr.byte5) e;
        uppers = w.uppers;
        lowers = w.lowers;
        amount = let value = ap (λ (x : Iad). x.accumulator.0) e in omega arith;
        first = ap (λ (x : Iad). x.first) e;
        second = ap (λ (x : Iad). x.second) e;
        divides = w.divides;
        profile = ap (λ (x : Iad). x.profile) e;
        zeros = w.zeros;
      }

  -- the fields that are read are those that the bytes hold
  pub exactly-read : (read_iad s ≡ Ok iad) ↔ (Writable iad × LaidOut iad s)
  exactly-read = (
    λ e.
        let w = (exactly_readable s).0 (ap read_number e) in
        let f = fields s w in
        ((writable iad).0 (back s iad e).1, held w (cc)),
    λ (w, l). fields s (spoken s iad w l) ∙ ap Ok (holds l),
  )

  -- fields are taken for writing just where their bytes are well formed
  pub exactly_spoken : LaidOut iad s → Writable iad ↔ WellFormed s
  exactly_spoken l = (
    λ w. spoken s iad w l,
    λ w. let read = fields s w ∙ ap Ok (holds l) in (exactly-read.0 read).0,
  )
