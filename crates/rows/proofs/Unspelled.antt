-- Every body of its length is the spelling of some set-up, and so is every accepted one. Assumes nothing.
use mathlib.Core.Path.{◌≡◌, refl, sym, ap, subst, ◌∙◌}
use mathlib.Core.Bool.{true}
use mathlib.Core.List.{List, [], ◌∷◌, ◌++◌}
use Prim.Native.Nat.{ℕ, zero, suc, ◌+◌, ◌*◌}
use native.Mathlib.Omega.{arith}
use lib.ListN.{length}
use Rattle.wire.specs.Wire.{byte, number}
use Rattle.wire.proofs.Numbers.{one}
use Rattle.ranges.specs.Ranges.{is_setup}
use Rattle.ranges.proofs.Accepted.{accepted}
use Rattle.setup.proofs.Faithful.{Bytes}
use Rattle.rows.specs.Rows.{Field, ◌of◌, Fits, widths, Four, Limits, Accumulator, Profile, Conversion, Setup, listed, each, accumulator_row}
use Rattle.rows.specs.Rows.{counter_row, first_row, head_row, profile_head, limits_row, sent_row, profile_row, conversion_row, setup_row, body}
use Rattle.rows.proofs.Placed.{profile-width, conversion-width}
use Rattle.rows.proofs.Spelling.{Stands, joins, widths_append, widths-each, stands_fit, whole-spelled}

-- so many of a width, one after the other
unfoldable pub made : {A : Type 0} → (ℕ → A) → (w at n : ℕ) → List A
made f w at zero = []
made f w at (suc n) = f at ∷ made f w (at + w) n

pub made_size : {A : Type 0} (f : ℕ → A) (w at n : ℕ) → length (made f w at n) ≡ n
unfolding made
made_size f w at zero = refl
made_size f w at (suc n) = ap suc (made_size f w (at + w) n)

unfoldable pub in_four : {A : Type 0} → (ℕ → A) → (w at : ℕ) → Four A
in_four f w at = record { one = f at; two = f (at + w); three = f (at + w + w); four = f (at + w + w + w) }

module _ (s : List ℕ) where
  pub made_stands : {A : Type 0} (row : A → List Field) (w : ℕ) → ((x : A) → widths (row x) ≡ w)
      → (f : ℕ → A) → ((at : ℕ) → Stands s at (row (f at)))
      → (n at : ℕ) → Stands s at (each row (made f w at n))
  unfolding made Stands
  made_stands row w same f there zero at = tt
  made_stands row w same f there (suc n) at =
      joins s (row (f at)) (each row (made f w (at + w) n)) at (there at)
      (subst (λ m. Stands s (at + m) (each row (made f w (at + w) n))) (sym (same (f at))) (made_stands row w same f there n (at + w)))

  pub four-stands : {A : Type 0} (row : A → List Field) (w : ℕ) → ((x : A) → widths (row x) ≡ w)
      → (f : ℕ → A) → ((at : ℕ) → Stands s at (row (f at)))
      → (at : ℕ) → Stands s at (each row (listed (in_four f w at)))
  unfolding made in_four
  four-stands row w same f there at = made_stands row w same f there 4 at

  accumulator_from : ℕ → Accumulator
  accumulator_from at = record { currency = number s at 2; value = number s (at + 2) 8 }

  limits_from : ℕ → ℕ → Limits
  limits_from w at = record { switches = number s at 1; lower = number s (at + 1) w; upper = number s (at + 1 + w) w }

  profile_from : ℕ → Profile
  profile_from at =
      record {
        number = number s at 1;
        online = number s (at + 1) 4;
        decline = number s (at + 1 + 4) 4;
        default = number s (at + 1 + 4 + 4) 4;
        maximum-on = number s (at + 1 + 4 + 4 + 4) 1;
        maximum-currency = number s (at + 1 + 4 + 4 + 4 + 1) 2;
        maximum = number s (at + 1 + 4 + 4 + 4 + 1 + 2) 8;
        accumulators = in_four (limits_from 8) 17 (at + 24);
        counters = in_four (limits_from 1) 3 (at + 24 + 68);
        accumulator-sent = number s (at + 24 + 68 + 12) 1;
        first-sent = number s (at + 24 + 68 + 12 + 1) 1;
        second-sent = number s (at + 24 + 68 + 12 + 1 + 1) 1;
      }

  conversion_from : ℕ → Conversion
  conversion_from at = record { from = number s at 2; to = number s (at + 2) 2; digits = number s (at + 2 + 2) 2; shift = number s (at + 2 + 2 + 2) 1 }

  pub setup_from : Setup
  setup_from =
      record {
        key = number s 0 1;
        pin = number s 1 1;
        required = number s 2 1;
        atc = number s 5 2;
        online = number s 7 1;
        accumulators = in_four accumulator_from 10 8;
        counters = in_four (λ at. number s at 1) 1 48;
        profiles = made profile_from 107 52 (byte s 3);
        conversions = made conversion_from 7 (52 + 107 * byte s 3) (byte s 4);
      }

  accumulator-stands : (at : ℕ) → Stands s at (accumulator_row (accumulator_from at))
  unfolding Stands accumulator_from
  accumulator-stands at = (refl, (refl, tt))

  pub counter-stands : (at : ℕ) → Stands s at (counter_row (number s at 1))
  unfolding Stands
  counter-stands at = (refl, tt)

  limits_stand : (w at : ℕ) → Stands s at (limits_row w (limits_from w at))
  unfolding Stands limits_from
  limits_stand w at = (refl, (refl, (refl, tt)))

  conversion-stands : (at : ℕ) → Stands s at (conversion_row (conversion_from at))
  unfolding Stands conversion_row conversion_from
  conversion-stands at = (refl, (refl, (refl, (refl, tt))))

  profile-head-stands : (at : ℕ) → Stands s at (profile_head (profile_from at))
  unfolding Stands profile_from
  profile-head-stands at = (refl, (refl, (refl, (refl, (refl, (refl, (refl, tt)))))))

  sent-stands : (at : ℕ) → Stands s (at + 24 + 68 + 12) (sent_row (profile_from at))
  unfolding Stands profile_from
  sent-stands at = (refl, (refl, (refl, tt)))

  profile-stands : (at : ℕ) → Stands s at (profile_row (profile_from at))
  unfolding profile_row profile_from
  profile-stands at =
      let p = profile_from at in
      let accumulators = each (limits_row 8) (listed (in_four (limits_from 8) 17 (at + 24))) in
      let counters = each (limits_row 1) (listed (in_four (limits_from 1) 3 (at + 24 + 68))) in
      joins s (profile_head p) (accumulators ++ (counters ++ sent_row p)) at (profile-head-stands at)
      (joins s accumulators (counters ++ sent_row p) (at + 24) (four-stands (limits_row 8) 17 (λ l. refl) (limits_from 8) (limits_stand 8) (at + 24))
      (joins s counters (sent_row p) (at + 24 + 68) (four-stands (limits_row 1) 3 (λ l. refl) (limits_from 1) (limits_stand 1) (at + 24 + 68)) (sent-stands at)))

  first-stands : Stands s 0 (first_row setup_from)
  unfolding Stands setup_from
  first-stands =
      let p : number s 3 1 ≡ length (made profile_from 107 52 (byte s 3)) = one s 3 ∙ sym (made_size profile_from 107 52 (byte s 3)) in
      let c : number s 4 1 ≡ length (made conversion_from 7 (52 + 107 * byte s 3) (byte s 4)) =
      one s 4 ∙ sym (made_size conversion_from 7 (52 + 107 * byte s 3) (byte s 4)) in
      (refl, (refl, (refl, (p, (c, (refl, (refl, tt)))))))

  head-stands : Stands s 0 (head_row setup_from)
  unfolding head_row setup_from
  head-stands =
      let accumulators = each accumulator_row (listed (in_four accumulator_from 10 8)) in
      let counters = each counter_row (listed (in_four (λ at. number s at 1) 1 48)) in
      joins s (first_row setup_from) (accumulators ++ counters) 0 first-stands
      (joins s accumulators counters 8 (four-stands accumulator_row 10 (λ a. refl) accumulator_from accumulator-stands 8)
      (four-stands counter_row 1 (λ v. refl) (λ at. number s at 1) counter-stands 48))

  abbrev profiles-row : List Field
  profiles-row = each profile_row (made profile_from 107 52 (byte s 3))

  abbrev conversions-row : List Field
  conversions-row = each conversion_row (made conversion_from 7 (52 + 107 * byte s 3) (byte s 4))

  profiles-width : widths profiles-row ≡ 107 * byte s 3
  profiles-width =
      widths-each profile_row 107 profile-width (made profile_from 107 52 (byte s 3)) ∙ ap (λ n. 107 * n) (made_size profile_from 107 52 (byte s 3))

  conversions-width : widths conversions-row ≡ 7 * byte s 4
  conversions-width =
      widths-each conversion_row 7 conversion-width (made conversion_from 7 (52 + 107 * byte s 3) (byte s 4))
      ∙ ap (λ n. 7 * n) (made_size conversion_from 7 (52 + 107 * byte s 3) (byte s 4))

  setup-stands : Stands s 0 (setup_row setup_from)
  unfolding setup_row head_row setup_from
  setup-stands =
      joins s (head_row setup_from) (profiles-row ++ conversions-row) 0 head-stands
      (joins s profiles-row conversions-row 52 (made_stands profile_row 107 profile-width profile_from profile-stands (byte s 3) 52)
      (subst (λ n. Stands s (52 + n) conversions-row) (sym profiles-width)
      (made_stands conversion_row 7 conversion-width conversion_from conversion-stands (byte s 4) (52 + 107 * byte s 3))))

  setup-width : widths (setup_row setup_from) ≡ 52 + 107 * byte s 3 + 7 * byte s 4
  unfolding setup_row head_row setup_from
  setup-width =
      let p = profiles-width in
      let c = conversions-width in
      let both = widths_append profiles-row conversions-row in
      omega (arith, widths_append (head_row setup_from) (profiles-row ++ conversions-row))

  module _ (bytes : Bytes s) where
    pub spelled_if_sized : length s ≡ 52 + 107 * byte s 3 + 7 * byte s 4 → (x : Setup) × Fits (setup_row x) × (body x ≡ s)
    spelled_if_sized e =
        (setup_from, stands_fit s bytes (setup_row setup_from) 0 setup-stands, whole-spelled s bytes (setup_row setup_from) (setup-width ∙ sym e) setup-stands)

    -- THE STATEMENT: an accepted body is the spelling of some set-up whose fields fit
    pub spelled_if_accepted : (unnamed : ℕ) → is_setup s unnamed ≡ true → (x : Setup) × Fits (setup_row x) × (body x ≡ s)
    spelled_if_accepted unnamed good = spelled_if_sized (accepted s unnamed good).size
