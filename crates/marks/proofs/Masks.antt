-- What the code's masks make of a card's byte of scripts. Assumes nothing.
use Rattle.std.proofs.Common.{◌≡◌, ℕ, ◌+◌, ◌*◌, ◌/◌, ◌%◌, ◌<◌, Bool, true, false, cond, not, eqb, refl, ap, ◌∙◌, mod-eq_of_lt, arith, lit<, eq-eqb, ne_eqb, eqb-true}
use native.Mathlib.Nat.{div-div-eq-div-mul}
use borrow.Author.Tests.{eqb-false}
use lib.Bits.{bit_and, bit_or, and_high, and_mask, and_block, or_add_and}
use Rattle.marks.specs.declared.Scripts.{Scripts}
use Rattle.marks.specs.Marks.{has_failed, has_failed_here, kept, one_done, one_failed, started, heard, marks_of}
use Rattle.marks.proofs.Marks.{fourth, first, parts, heard-clears}

-- of a bit it is one to be set and not to be 0
not_zero : (x : ℕ) → x < 2 → not (eqb x 0) ≡ eqb x 1
not_zero x h = by (eqb x 1) refl where
  by : (one : Bool) → eqb x 1 ≡ one → not (eqb x 0) ≡ one
  by true e = let z = eqb-true x 1 e in ap not (ne_eqb x 0 (λ k. omega arith))
  by false e = let z = eqb-false x 1 e in ap not (eq-eqb x 0 (omega arith))

module _ (scripts : Scripts) where
  abbrev b : ℕ
  b = scripts.0

  pub is-here : not (eqb (bit_and b 0x01) 0) ≡ has_failed_here scripts
  is-here = ap (λ (k : ℕ). not (eqb k 0)) (and_mask b 1) ∙ not_zero (b % 2) (omega arith)

  low : b % 2 ≡ 0 → b % 16 % 8 ≡ b / 2 % 4 * 2
  low h =
      let half : b / 8 / 2 ≡ b / 16 = div-div-eq-div-mul b 8 2 in
      let eighth : b % 16 % 8 ≡ b % 8 = omega arith in
      eighth ∙ omega (arith, parts scripts)

  halves : bit_and b 0xF7 ≡ bit_and (b / 16) 0x0F * 16 + bit_and (b % 16) 0x07
  halves =
      let both : b ≡ b / 16 * 16 + b % 16 = omega arith in
      ap (λ (n : ℕ). bit_and n 0xF7) both ∙ and_block 4 (b / 16) 0x0F (b % 16) 0x07 (omega arith) (lit< tt)

  pub is-failed : record { 0 = bit_or (bit_or b 0x08) 0x01 } ≡ one_failed scripts
  unfolding one_failed kept
  is-failed =
      let c = bit_or b 0x08 in
      let there : bit_and b 0x08 ≡ b / 8 % 2 * 8 = and_high b 1 3 in
      let set : c + bit_and b 0x08 ≡ b + 8 = or_add_and b 0x08 in
      let there-too : bit_and c 0x01 ≡ c % 2 = and_mask c 1 in
      let set-too : bit_or c 0x01 + bit_and c 0x01 ≡ c + 1 = or_add_and c 0x01 in
      let e : bit_or c 0x01 ≡ b / 16 * 16 + 8 + b / 2 % 4 * 2 + 1 = omega (arith, parts scripts) in
      ap (λ (n : ℕ). record { 0 = n }) e

  module _ (small : b < 256) where
    pub is-done : record { 0 = (b + 16) % 256 } ≡ one_done scripts
    unfolding one_done kept
    is-done =
        let f = fourth scripts in
        let h = first scripts in
        let e : (b + 16) % 256 ≡ (b / 16 + 1) % 16 * 16 + cond (has_failed scripts) 8 0 + b / 2 % 4 * 2 + cond (has_failed_here scripts) 1 0 = omega (arith, parts scripts) in
        ap (λ (n : ℕ). record { 0 = n }) e

    pub is-started : record { 0 = bit_and b 0xFE } ≡ started scripts
    unfolding started kept
    is-started =
        let f = fourth scripts in
        let high : bit_and b 0xFE ≡ b / 2 % 128 * 2 = and_high b 7 1 in
        let all : b / 2 % 128 ≡ b / 2 = mod-eq_of_lt (omega (arith, small)) in
        let e : bit_and b 0xFE ≡ b / 16 * 16 + cond (has_failed scripts) 8 0 + b / 2 % 4 * 2 + 0 = omega (arith, parts scripts) in
        ap (λ (n : ℕ). record { 0 = n }) e

    pub is-heard : has_failed_here scripts ≡ false → record { 0 = bit_and b 0xF7 } ≡ heard scripts
    unfolding kept
    is-heard h =
        let even : b % 2 ≡ 0 = (let d = eqb-false (b % 2) 1 h in omega arith) in
        let upper : bit_and (b / 16) 0x0F ≡ b / 16 = and_mask (b / 16) 4 ∙ mod-eq_of_lt (omega (arith, small)) in
        let lower : bit_and (b % 16) 0x07 ≡ b / 2 % 4 * 2 = and_mask (b % 16) 3 ∙ low even in
        let e : bit_and b 0xF7 ≡ b / 16 * 16 + 0 + b / 2 % 4 * 2 + 0 = omega (arith, halves, upper, lower) in
        rw (heard-clears scripts h) (ap (λ (n : ℕ). record { 0 = n }) e)

    pub are-marks : bit_and b 0xF8 ≡ marks_of scripts
    unfolding marks_of kept
    are-marks =
        let f = fourth scripts in
        let high : bit_and b 0xF8 ≡ b / 8 % 32 * 8 = and_high b 5 3 in
        let all : b / 8 % 32 ≡ b / 8 = mod-eq_of_lt (omega (arith, small)) in
        let half : b / 8 / 2 ≡ b / 16 = div-div-eq-div-mul b 8 2 in
        omega arith
