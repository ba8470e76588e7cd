-- Two set-ups that are the same but for x's start: the same words, and fresh cards that are alike but for x. Assumes nothing.
use mathlib.Core.Path.{◌≡◌, refl, ap}
use mathlib.Core.Bool.{Bool, true, false, ◌&&◌}
use mathlib.Core.Logic.{◌⊎◌, inl, inr}
use mathlib.Core.List.{List}
use Prim.Native.Nat.{ℕ, zero, suc, ◌+◌, ◌*◌, ◌≤◌, ◌<◌}
use native.Mathlib.Omega.{arith}
use borrow.Author.Tests.{eqb-true, ltb-true, ltb-false}
use lib.Dec.{ltb, eqb}
use lib.ListN.{length, get_or}
use lib.Seq.{sets}
use Rattle.wire.specs.Wire.{byte, number}
use Rattle.wire.proofs.Pairs.{both}
use Rattle.money.specs.declared.AccumulatorAmount.{AccumulatorAmount}
use Rattle.calendar.specs.Calendar.{date_at}
use Rattle.rules.specs.Rules.{four}
use Rattle.purchase.specs.Meter.{Meter, accumulator, counter, cyclic, value_of}
use Rattle.layout.specs.Layout as layout
use Rattle.layout.specs.Layout.{base_length}
use Rattle.ranges.specs.Ranges.{is_setup, has_length, is_head, are_accumulators, are_profiles, are_numbers_apart, are_conversions, are_pairs_apart}
use Rattle.tails.specs.Tails.{are_cycles, is_family}
use Rattle.setup.specs.Setup.{value_in, fresh_in, is_accepted, read_setup, words_after}
use Rattle.fresh.specs.Fresh.{fresh_state}
use Rattle.marks.specs.Marks.{fresh_scripts}
use Rattle.state.specs.declared.Phase.TheVariants.{Idle}
use Rattle.apart.specs.Alike.{Alike}
use Rattle.apart.proofs.Values.{Beside, wiped-same, four-at}
use Rattle.apart_papers.specs.Start.{IsSwitch, SameSetups}
use Rattle.apart_papers.proofs.Bytes.{shared, same_number, early_number}
use Rattle.apart_papers.proofs.Loaded.{loaded-same}

-- an accepted one has a head
pub long : (s c f : List ℕ) (unnamed : ℕ) → is_accepted s c f unnamed ≡ true → 52 ≤ length s
unfolding is_setup has_length
long s c f unnamed good =
    let setup = (both (is_setup s unnamed) (are_cycles c) (both (is_setup s unnamed && are_cycles c) (is_family f) good).0).0 in
    let e = first (has_length s) (is_head s) (are_accumulators s) (are_profiles s unnamed) (are_numbers_apart s) (are_conversions s) (are_pairs_apart s) setup in
    let l = eqb-true (length s) (base_length s) e in
    omega arith
  where
    first : (a b c d e f g : Bool) → (a && b && c && d && e && f && g) ≡ true → a ≡ true
    first true b c d e f g h = refl
    first false b c d e f g h = h

-- ---- the values

beyond : {A : Type 0} (none : A) (f g : ℕ → A) (j : ℕ) → 4 ≤ j → get_or (four f) j none ≡ get_or (four g) j none
beyond none f g zero h = absurd (omega arith)
beyond none f g (suc zero) h = absurd (omega arith)
beyond none f g (suc (suc zero)) h = absurd (omega arith)
beyond none f g (suc (suc (suc zero))) h = absurd (omega arith)
beyond none f g (suc (suc (suc (suc j)))) h = refl

-- one of two places stands before the other
either_way : (j i : ℕ) → (j ≡ i → ⊥) → (j < i) ⊎ (i < j)
either_way j i n = by (ltb j i) refl where
  by : (b : Bool) → ltb j i ≡ b → (j < i) ⊎ (i < j)
  by true e = inl (ltb-true j i e)
  by false e = let h = ltb-false j i e in inr (by_two_lem (ltb i j) refl h) where
    by_two_lem : (b : Bool) → ltb i j ≡ b → i ≤ j → i < j
    by_two_lem true f h = ltb-true i j f
    by_two_lem false f h = let g = ltb-false i j f in absurd (n (omega arith))

-- every other is the same
amounts_same : (x : Meter) → IsSwitch x → (s t : List ℕ) → SameSetups x s t → (j : ℕ) → j < 4 → (accumulator j ≡ x → ⊥)
    → number s (8 + 10 * j + 2) 8 ≡ number t (8 + 10 * j + 2) 8
amounts_same (accumulator i) is s t same j h n =
    same_number s t (8 + 10 * j + 2) 8 (λ k l. same.elsewhere (8 + 10 * j + 2 + k) (outside k l (either_way j i (λ e. n (ap accumulator e)))))
  where
    outside : (k : ℕ) → k < 8 → (j < i) ⊎ (i < j) → (8 + 10 * j + 2 + k < 10 + 10 * i) ⊎ (10 + 10 * i + 8 ≤ 8 + 10 * j + 2 + k)
    outside k l (inl b) = inl (omega arith)
    outside k l (inr b) = inr (omega arith)
amounts_same (counter i) is s t same j h n = same_number s t (8 + 10 * j + 2) 8 (λ k l. same.elsewhere (8 + 10 * j + 2 + k) (inl (omega arith)))
amounts_same (cyclic i) is s t same j h n = absurd is

counts_same : (x : Meter) → IsSwitch x → (s t : List ℕ) → SameSetups x s t → (j : ℕ) → (counter j ≡ x → ⊥) → byte s (48 + j) ≡ byte t (48 + j)
counts_same (accumulator i) is s t same j n = same.elsewhere (48 + j) (inr (omega arith))
counts_same (counter i) is s t same j n = same.elsewhere (48 + j) (outside (either_way j i (λ e. n (ap counter e)))) where
  outside : (j < i) ⊎ (i < j) → (48 + j < 48 + i) ⊎ (48 + i + 1 ≤ 48 + j)
  outside (inl b) = inl (omega arith)
  outside (inr b) = inr (omega arith)
counts_same (cyclic i) is s t same j n = absurd is

module _ (x : Meter) (is : IsSwitch x) (s t : List ℕ) (same : SameSetups x s t) (c : List ℕ) where
  values_beside : Beside x (fresh_in s c).values (fresh_in t c).values
  unfolding fresh_in
  values_beside = record { amounts = refl; counts = refl; cycles = refl; others = by } where
    by : (y : Meter) → (y ≡ x → ⊥) → value_of (fresh_in s c).values y ≡ value_of (fresh_in t c).values y
    by (accumulator j) n = by_place (ltb j 4) refl where
      by_place : (b : Bool) → ltb j 4 ≡ b → value_of (fresh_in s c).values (accumulator j) ≡ value_of (fresh_in t c).values (accumulator j)
      by_place true e =
          ap (λ (m : AccumulatorAmount). m.0)
          (four-at (record { 0 = 0 }) (value_in s) (value_in t) j
          (ap (λ (m : ℕ). record { 0 = m }) (amounts_same x is s t same j (ltb-true j 4 e) n)))
      by_place false e = ap (λ (m : AccumulatorAmount). m.0) (beyond (record { 0 = 0 }) (value_in s) (value_in t) j (ltb-false j 4 e))
    by (counter j) n = four-at 0 (λ i. byte s (layout.counters + i)) (λ i. byte t (layout.counters + i)) j (counts_same x is s t same j n)
    by (cyclic j) n = refl

  fresh_alike : Alike x (fresh_state (fresh_in s c)) (fresh_state (fresh_in t c))
  unfolding fresh_state fresh_in
  fresh_alike =
      let all = shared x is s t same in
      let v = wiped-same x (fresh_in s c).values (fresh_in t c).values values_beside in
      let a = early_number s t all 5 2 (omega arith) in
      let o = all.early 7 (omega arith) in
      λ i.
      record {
        values = v i;
        phase = Idle;
        atc = a i;
        last = date_at c layout.last_date;
        history = record { uncompleted = false; online = eqb (o i) 1; failed = false; unable = false; missing = false };
        scripts = fresh_scripts;
      }

  -- TWO SET-UPS that are the same but for x's start, both accepted
  pub apart-fresh : (words f : List ℕ) (syllabus unnamed : ℕ) → is_accepted s c f unnamed ≡ true → is_accepted t c f unnamed ≡ true
      → (words_after words s c f syllabus unnamed ≡ words_after words t c f syllabus unnamed)
      × Alike x (fresh_state (read_setup s c f unnamed).fresh) (fresh_state (read_setup t c f unnamed).fresh)
  unfolding words_after read_setup
  apart-fresh words f syllabus unnamed good fine =
      rw (good, fine) (ap (sets words 0) (loaded-same s t (shared x is s t same) (long s c f unnamed good) c f syllabus), fresh_alike)
