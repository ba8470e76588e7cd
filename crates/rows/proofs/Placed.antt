-- In a spelled set-up each field stands at the offset that docs/PAPERS.md gives. Assumes nothing.
use mathlib.Core.Path.{◌≡◌, refl, sym, ap, subst, ◌∙◌}
use mathlib.Core.List.{List, ◌++◌}
use Prim.Native.Nat.{ℕ, ◌+◌, ◌*◌, ◌<◌}
use native.Mathlib.Nat.{add-zero, zero-add, add_assoc}
use native.Mathlib.Omega.{arith}
use lib.ListN.{length, get_or}
use Rattle.wire.specs.Wire.{byte, number}
use Rattle.wire.proofs.Numbers.{one}
use Rattle.rows.specs.Rows.{Fits, widths, offset, Limits, Profile, Conversion, Setup, listed, each, accumulator_row, counter_row}
use Rattle.rows.specs.Rows.{first_row, head_row, profile_head, limits_row, sent_row, profile_row, conversion_row, setup_row, body}
use Rattle.rows.specs.Offsets.{nth, AccumulatorOffsets, CounterOffsets, ProfileOffsets, ConversionOffsets, Offsets}
use Rattle.rows.proofs.Spelling.{Stands, stands-whole, stands_at_lem, parts, each_stands, widths_append, widths-each, spelled-size}

pub profile-width : (p : Profile) → widths (profile_row p) ≡ 107
unfolding profile_row
profile-width p = refl

pub conversion-width : (c : Conversion) → widths (conversion_row c) ≡ 7
unfolding conversion_row
conversion-width c = refl

module _ (s : List ℕ) where
  -- a byte is a number of width 1
  pub at_byte : (at v : ℕ) → number s at 1 ≡ v → byte s at ≡ v
  at_byte at v h = sym (one s at) ∙ h

  -- bytes one behind the other
  pub bytes_in_lem : (at : ℕ) (vs : List ℕ) → Stands s at (each counter_row vs) → (i : ℕ) → i < length vs → (d : ℕ) → byte s (at + i) ≡ get_or vs i d
  unfolding Stands
  bytes_in_lem at vs h i l d =
      let there : at + i ≡ 0 + (at + 1 * i) = omega arith in
      let from : Stands s (0 + at) (each counter_row vs) = rw (zero-add at) h in
      ap (byte s) there ∙ at_byte (0 + (at + 1 * i)) (get_or vs i d) (each_stands s counter_row 1 (λ v. refl) 0 vs at from i l d).0

  accumulator-offsets : (at : ℕ) (l : Limits) → Stands s at (limits_row 8 l) → AccumulatorOffsets s at l
  unfolding Stands
  accumulator-offsets at l h =
      let q = stands_at_lem s (limits_row 8 l) at h in
      record { switches = at_byte at l.switches h.0; lower = q 1; upper = q 2 }

  counter-offsets : (at : ℕ) (l : Limits) → Stands s at (limits_row 1 l) → CounterOffsets s at l
  unfolding Stands
  counter-offsets at l h =
      let q = stands_at_lem s (limits_row 1 l) at h in
      record {
        switches = at_byte at l.switches h.0;
        lower = at_byte (at + 1) l.lower (q 1);
        upper = at_byte (at + 2) l.upper (q 2);
      }

  conversion-offsets : (at : ℕ) (c : Conversion) → Stands s at (conversion_row c) → ConversionOffsets s at c
  unfolding conversion_row Stands
  conversion-offsets at c h =
      let q = stands_at_lem s (conversion_row c) at h in
      record { from = h.0; to = q 1; digits = q 2; shift = at_byte (at + 6) c.shift (q 3) }

  profile-offsets : (at : ℕ) (p : Profile) → Stands s at (profile_row p) → ProfileOffsets s at p
  unfolding profile_row
  profile-offsets at p h =
      let accumulators = each (limits_row 8) (listed p.accumulators) in
      let counters = each (limits_row 1) (listed p.counters) in
      let (head, behind) = parts s (profile_head p) (accumulators ++ (counters ++ sent_row p)) at h in
      let (middle, after) = parts s accumulators (counters ++ sent_row p) (at + 24) behind in
      let there = subst (λ n. Stands s n (counters ++ sent_row p)) (add_assoc at 24 68) after in
      let (last, sent) = parts s counters (sent_row p) (at + 92) there in
      let q = stands_at_lem s (profile_head p) at head in
      let r = stands_at_lem s (sent_row p) (at + 92 + 12) sent in
      let a = each_stands s (limits_row 8) 17 (λ l. refl) at (listed p.accumulators) 24 middle in
      let c = each_stands s (limits_row 1) 3 (λ l. refl) at (listed p.counters) 92 last in
      record {
        number_is = ap (byte s) (sym (add-zero at)) ∙ at_byte (at + 0) p.number (q 0);
        online = q 1;
        decline = q 2;
        default = q 3;
        maximum-on = at_byte (at + 13) p.maximum-on (q 4);
        maximum-currency = q 5;
        maximum = q 6;
        accumulators = λ j l. accumulator-offsets (at + (24 + 17 * j)) (nth p.accumulators j) (a j l p.accumulators.one);
        counters = λ j l. counter-offsets (at + (92 + 3 * j)) (nth p.counters j) (c j l p.counters.one);
        accumulator-sent = simp add_assoc at (at_byte (at + 92 + 12 + 0) p.accumulator-sent (r 0));
        first-sent = simp add_assoc at (at_byte (at + 92 + 12 + 1) p.first-sent (r 1));
        second-sent = simp add_assoc at (at_byte (at + 92 + 12 + 2) p.second-sent (r 2));
      }

module _ (x : Setup) where
  abbrev s : List ℕ
  s = body x

  abbrev after : ℕ
  after = 52 + 107 * length x.profiles

  -- 52 + 107p + 7c bytes
  pub body-size : length s ≡ after + 7 * length x.conversions
  unfolding setup_row head_row
  body-size =
      let p = widths-each profile_row 107 profile-width x.profiles in
      let c = widths-each conversion_row 7 conversion-width x.conversions in
      let both = widths_append (each profile_row x.profiles) (each conversion_row x.conversions) in
      let all = widths_append (head_row x) (each profile_row x.profiles ++ each conversion_row x.conversions) in
      spelled-size (setup_row x) ∙ omega arith

  module _ (fits : Fits (setup_row x)) where
    head_and_tables : Stands s 0 (head_row x) × Stands s 52 (each profile_row x.profiles) × Stands s after (each conversion_row x.conversions)
    unfolding setup_row head_row
    head_and_tables =
        let profiles = each profile_row x.profiles in
        let conversions = each conversion_row x.conversions in
        let (head, tables) = parts s (head_row x) (profiles ++ conversions) 0 (stands-whole (setup_row x) fits) in
        let (first, second) = parts s profiles conversions 52 tables in
        (head, first, subst (λ n. Stands s (52 + n) conversions) (widths-each profile_row 107 profile-width x.profiles) second)

    head_parts : Stands s 0 (first_row x) × Stands s 8 (each accumulator_row (listed x.accumulators)) × Stands s 48 (each counter_row (listed x.counters))
    unfolding head_row
    head_parts =
        let accumulators = each accumulator_row (listed x.accumulators) in
        let counters = each counter_row (listed x.counters) in
        let (first, behind) = parts s (first_row x) (accumulators ++ counters) 0 head_and_tables.0 in
        let (second, third) = parts s accumulators counters 8 behind in
        (first, second, third)

    -- THE STATEMENT: each offset is the sum of the widths before it
    pub in_place : Offsets s x
    unfolding Stands
    in_place =
        let q = stands_at_lem s (first_row x) 0 head_parts.0 in
        let a = each_stands s accumulator_row 10 (λ a. refl) 0 (listed x.accumulators) 8 head_parts.1 in
        let ps = each_stands s profile_row 107 profile-width 0 x.profiles 52 head_and_tables.1 in
        let cs = each_stands s conversion_row 7 conversion-width after x.conversions 0 (rw (add-zero after) head_and_tables.2) in
        record {
          key = at_byte s 0 x.key (q 0);
          pin = at_byte s 1 x.pin (q 1);
          required = at_byte s 2 x.required (q 2);
          p = at_byte s 3 (length x.profiles) (q 3);
          c = at_byte s 4 (length x.conversions) (q 4);
          atc = q 5;
          online = at_byte s 7 x.online (q 6);
          currencies = λ i l. ap (λ n. number s n 2) (sym (zero-add (8 + 10 * i))) ∙ (a i l x.accumulators.one).0;
          values = λ i l. ap (λ n. number s (n + 2) 8) (sym (zero-add (8 + 10 * i))) ∙ (a i l x.accumulators.one).1.0;
          counters = λ i l. bytes_in_lem s 48 (listed x.counters) head_parts.2 i l x.counters.one;
          profiles =
              λ i l d.
              subst (λ n. ProfileOffsets s n (get_or x.profiles i d)) (zero-add (52 + 107 * i))
              (profile-offsets s (0 + (52 + 107 * i)) (get_or x.profiles i d) (ps i l d));
          conversions =
              λ i l d.
              subst (λ n. ConversionOffsets s (after + n) (get_or x.conversions i d)) (zero-add (7 * i))
              (conversion-offsets s (after + (0 + 7 * i)) (get_or x.conversions i d) (cs i l d));
        }
