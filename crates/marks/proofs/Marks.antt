-- What a card keeps of scripts, by what its byte says: three readings, and two bits that are 0 on every card. Assumes nothing.
use Rattle.std.proofs.Common.{◌≡◌, ℕ, ◌+◌, ◌*◌, ◌/◌, ◌%◌, ◌<◌, Bool, true, false, cond, ◌&&◌, eqb, sym, refl, ap, ◌∙◌, arith, lit<, eqb-true}
use native.Mathlib.Nat.{div-div-eq-div-mul}
use borrow.Author.Tests.{eqb-false}
use Rattle.marks.specs.declared.Scripts.{Scripts}
use Rattle.marks.specs.Marks.{count_of, has_failed, has_failed_here, rest_of, kept, fresh_scripts, one_done, one_failed, started, heard, marks_of}

-- ---- a bit that is set or not
bit-small : (set : Bool) → cond set 1 0 < 2
bit-small true = lit< tt
bit-small false = lit< tt

bit-eight : (set : Bool) → cond set 8 0 ≡ cond set 1 0 * 8
bit-eight true = refl
bit-eight false = refl

is_set : (set : Bool) → eqb (cond set 1 0) 1 ≡ set
is_set true = refl
is_set false = refl

set_bit : (x : ℕ) → x < 2 → cond (eqb x 1) 1 0 ≡ x
set_bit x h = by (eqb x 1) refl where
  by : (set : Bool) → eqb x 1 ≡ set → cond set 1 0 ≡ x
  by true e = sym (eqb-true x 1 e)
  by false e = let d = eqb-false x 1 e in omega arith

and_true : (x : Bool) → (x && true) ≡ x
and_true true = refl
and_true false = refl

and_false : (x : Bool) → (x && false) ≡ false
and_false true = refl
and_false false = refl

-- ---- A BYTE IS ITS PARTS
pub record Says (n : ℕ) (f h : Bool) (r : ℕ) (scripts : Scripts) : Type 0 where
  pub count : count_of scripts ≡ n
  pub failed : has_failed scripts ≡ f
  pub here : has_failed_here scripts ≡ h
  pub rest : rest_of scripts ≡ r

pub kept-says : (n : ℕ) (f h : Bool) (r : ℕ) → r < 4 → Says n f h r (kept n f h r)
unfolding kept
kept-says n f h r small =
    let b = (kept n f h r).0 in
    let x = bit-small f in
    let y = bit-small h in
    let e = bit-eight f in
    let fourth : b / 8 % 2 ≡ cond f 1 0 = omega arith in
    let first : b % 2 ≡ cond h 1 0 = omega arith in
    let half : b / 2 ≡ (n * 2 + cond f 1 0) * 4 + r = omega arith in
    record {
      count = omega arith;
      failed = ap (λ (k : ℕ). eqb k 1) fourth ∙ is_set f;
      here = ap (λ (k : ℕ). eqb k 1) first ∙ is_set h;
      rest = ap (λ (k : ℕ). k % 4) half ∙ omega arith;
    }

module _ (scripts : Scripts) where
  abbrev b : ℕ
  b = scripts.0

  pub fourth : cond (has_failed scripts) 8 0 ≡ b / 8 % 2 * 8
  fourth = bit-eight (has_failed scripts) ∙ ap (λ (k : ℕ). k * 8) (set_bit (b / 8 % 2) (omega arith))

  pub first : cond (has_failed_here scripts) 1 0 ≡ b % 2
  first = set_bit (b % 2) (omega arith)

  pub parts : b / 16 * 16 + b / 8 % 2 * 8 + b / 2 % 4 * 2 + b % 2 ≡ b
  parts =
      let p : b / 2 / 4 ≡ b / 8 = div-div-eq-div-mul b 2 4 in
      let q : b / 8 / 2 ≡ b / 16 = div-div-eq-div-mul b 8 2 in
      omega arith

  pub itself : kept (count_of scripts) (has_failed scripts) (has_failed_here scripts) (rest_of scripts) ≡ scripts
  unfolding kept
  itself =
      let e : b / 16 * 16 + cond (has_failed scripts) 8 0 + b / 2 % 4 * 2 + cond (has_failed_here scripts) 1 0 ≡ b = omega (arith, fourth, first, parts) in
      ap (λ (n : ℕ). record { 0 = n }) e

-- two that say the same are the same
pub alike : (n : ℕ) (f h : Bool) (r : ℕ) (s t : Scripts) → Says n f h r s → Says n f h r t → s ≡ t
alike n f h r s t p q =
    let e : kept (count_of s) (has_failed s) (has_failed_here s) (rest_of s) ≡ kept (count_of t) (has_failed t) (has_failed_here t) (rest_of t) =
    simp (p.count, p.failed, p.here, p.rest, q.count, q.failed, q.here, q.rest) in
    sym (itself s) ∙ e ∙ itself t

-- it is a byte if the count is below 16
pub is_byte : (scripts : Scripts) → count_of scripts < 16 → scripts.0 < 256
is_byte scripts h = omega arith

pub counts-below : (scripts : Scripts) → scripts.0 < 256 → count_of scripts < 16
counts-below scripts h = omega arith

-- ---- THE TABLE
pub fresh-says : Says 0 false false 0 fresh_scripts
unfolding fresh_scripts
fresh-says = kept-says 0 false false 0 (lit< tt)

module _ (scripts : Scripts) where
  pub rest-small : rest_of scripts < 4
  rest-small = omega arith

  pub done-says : Says ((count_of scripts + 1) % 16) (has_failed scripts) (has_failed_here scripts) (rest_of scripts) (one_done scripts)
  unfolding one_done
  done-says = kept-says _ _ _ _ rest-small

  pub failed-says : Says (count_of scripts) true true (rest_of scripts) (one_failed scripts)
  unfolding one_failed
  failed-says = kept-says _ _ _ _ rest-small

  pub started-says : Says (count_of scripts) (has_failed scripts) false (rest_of scripts) (started scripts)
  unfolding started
  started-says = kept-says _ _ _ _ rest-small

  pub heard-says : Says (count_of scripts) (has_failed scripts && has_failed_here scripts) (has_failed_here scripts) (rest_of scripts) (heard scripts)
  unfolding heard
  heard-says = kept-says _ _ _ _ rest-small

  -- one failed in this transaction: nothing is cleared; else: b4 alone
  pub heard-here : has_failed_here scripts ≡ true → heard scripts ≡ scripts
  unfolding heard
  heard-here h =
      let all : (has_failed scripts && has_failed_here scripts) ≡ has_failed scripts = simp (h) (and_true (has_failed scripts)) in
      ap (λ f. kept (count_of scripts) f (has_failed_here scripts) (rest_of scripts)) all ∙ itself scripts

  pub heard-clears : has_failed_here scripts ≡ false → heard scripts ≡ kept (count_of scripts) false false (rest_of scripts)
  unfolding heard
  heard-clears h = simp (h) (ap (λ f. kept (count_of scripts) f false (rest_of scripts)) (and_false (has_failed scripts)))

  -- CVR byte 4 shows count and failed, and nothing else
  pub marks-say : Says (count_of scripts) (has_failed scripts) false 0 (record { 0 = marks_of scripts })
  unfolding marks_of
  marks-say = kept-says _ _ _ 0 (lit< tt)

  pub marks_low : marks_of scripts % 8 ≡ 0
  unfolding marks_of kept
  marks_low = omega (arith, fourth scripts)

pub marks_alike : (s t : Scripts) → count_of s ≡ count_of t → has_failed s ≡ has_failed t → marks_of s ≡ marks_of t
unfolding marks_of kept
marks_alike s t c f = simp (c, f)
