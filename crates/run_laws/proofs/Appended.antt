-- Records behind other bytes: they are met as they are alone, their places so much further on. Assumes nothing.
use mathlib.Core.Path.{◌≡◌, refl, sym, ap, subst, ◌∙◌}
use mathlib.Core.Bool.{Bool, true, false, cond, ◌||◌}
use mathlib.Core.List.{List, [], ◌∷◌, ◌++◌}
use mathlib.Core.Logic.{inl, inr}
use Prim.Native.Nat.{ℕ, zero, suc, ◌+◌, ◌-◌, ◌*◌, ◌≤◌, ◌<◌}
use native.Mathlib.Nat.{add-zero}
use native.Mathlib.Omega.{arith}
use borrow.Author.Tests.{leb-true, leb-false, ltb-true, ltb-false, le-leb, lt-leb, lt-ltb, le-ltb, ne_eqb}
use lib.Dec.{leb, ltb, eqb}
use lib.ListN.{length, take, drop, length-append, length-drop, get_or-append}
use lib.Seq.{get_or-append-add, drop-append-add, drop-append-le, take-append-le}
use Rattle.wire.specs.Wire.{byte, number}
use Rattle.paper.specs.declared.Next.{Next}
use Rattle.paper.specs.declared.Next.TheVariants.{Record, Fault, End}
use Rattle.paper.specs.Paper.{end_at, is_fault_at, next_at, onward, place_after}
use Rattle.paper.specs.Walk.{Met, part, meeting, met_in, place_in}
use Rattle.paper.proofs.Walk.{Inside, inside, Stopped, past_end, rests, walk_settles, walk-on}

pub leb_behind : (n a b : ℕ) → leb (n + a) (n + b) ≡ leb a b
leb_behind n a b = by (leb a b) refl where
  by : (t : Bool) → leb a b ≡ t → leb (n + a) (n + b) ≡ t
  by true e = let h = leb-true a b e in le-leb (n + a) (n + b) (omega arith)
  by false e = let h = leb-false a b e in lt-leb (n + a) (n + b) (omega arith)

ltb_behind : (n a b : ℕ) → ltb (n + a) (n + b) ≡ ltb a b
ltb_behind n a b = by (ltb a b) refl where
  by : (t : Bool) → ltb a b ≡ t → ltb (n + a) (n + b) ≡ t
  by true e = let h = ltb-true a b e in lt-ltb (n + a) (n + b) (omega arith)
  by false e = let h = ltb-false a b e in le-ltb (n + a) (n + b) (omega arith)

-- so much further on
abbrev pub further : ℕ → Next → Next
further n (Record kind start end) = Record kind (n + start) (n + end)
further n Fault = Fault
further n End = End

abbrev pub next : (over fault : Bool) (kind start end : ℕ) → Next
next over fault kind start end = cond over End (cond fault Fault (Record kind start end))

pub same : {over over' fault fault' : Bool} {kind kind' start start' end end' : ℕ} → over ≡ over' → fault ≡ fault' → kind ≡ kind' → start ≡ start' → end ≡ end'
    → next over fault kind start end ≡ next over' fault' kind' start' end'
same o f k s e = rw (o, f, k, s, e)

module _ (a b : List ℕ) where
  -- ---- behind the first

  number_behind_lem : (at : ℕ) → number (a ++ b) (length a + at) 2 ≡ number b at 2
  unfolding number
  number_behind_lem at =
      let one : length a + at + 0 ≡ length a + (at + 0) = omega arith in
      let two : length a + at + 1 ≡ length a + (at + 1) = omega arith in
      rw (one, two, get_or-append-add a b (at + 0) 0, get_or-append-add a b (at + 1) 0)

  fault-behind : (at : ℕ) → is_fault_at (a ++ b) (length a + at) ≡ is_fault_at b at
  fault-behind at =
      let n = number b at 2 in
      let end : length a + at + 2 + n ≡ length a + (at + 2 + n) = omega arith in
      ap (λ (m : ℕ). eqb m 0 || ltb (length (a ++ b)) (length a + at + 2 + m)) (number_behind_lem at)
      ∙ ap (λ (size : ℕ). eqb n 0 || ltb size (length a + at + 2 + n)) (length-append a b)
      ∙ ap (λ (to : ℕ). eqb n 0 || ltb (length a + length b) to) end
      ∙ ap (λ t. eqb n 0 || t) (ltb_behind (length a) (length b) (at + 2 + n))

  pub behind : (at : ℕ) → next_at (a ++ b) (length a + at) ≡ further (length a) (next_at b at)
  unfolding next_at
  behind at =
      let over = ap (λ (size : ℕ). leb size (length a + at)) (length-append a b) ∙ leb_behind (length a) (length b) at in
      let two : length a + at + 2 ≡ length a + (at + 2) = omega arith in
      let kind = ap (byte (a ++ b)) two ∙ get_or-append-add a b (at + 2) 0 in
      let start : length a + at + 3 ≡ length a + (at + 3) = omega arith in
      let end : end_at (a ++ b) (length a + at) ≡ length a + end_at b at = omega (arith, number_behind_lem at) in
      same over (fault-behind at) kind start end ∙ by (leb (length b) at) (is_fault_at b at) (byte b (at + 2)) (at + 3) (end_at b at) where
        by : (over fault : Bool) (kind start end : ℕ)
            → next over fault kind (length a + start) (length a + end) ≡ further (length a) (next over fault kind start end)
        by true fault kind start end = refl
        by false true kind start end = refl
        by false false kind start end = refl

  pub part-behind : (start end : ℕ) → part (a ++ b) (length a + start) (length a + end) ≡ part b start end
  part-behind start end =
      let size : length a + end - (length a + start) ≡ end - start = omega arith in
      rw (size, drop-append-add a b start)

  -- met by n steps from a place on
  abbrev Same : (n at : ℕ) → Type 0
  Same n at = (met_in n (a ++ b) (length a + at) ≡ met_in n b at) × (place_in n (a ++ b) (length a + at) ≡ length a + place_in n b at)

  pub met-behind : (n at : ℕ) → Same n at
  unfolding met_in place_in place_after
  met-behind zero at = (refl, refl)
  met-behind (suc n) at = rw (behind at) (by (met-behind n) (next_at b at)) where
    by : ((at : ℕ) → Same n at) → (next : Next)
        → (meeting (a ++ b) (further (length a) next) (met_in n (a ++ b)) ≡ meeting b next (met_in n b))
        × (place_in n (a ++ b) (onward (length a + at) (further (length a) next)) ≡ length a + place_in n b (onward at next))
    by same (Record kind start end) = rw (part-behind start end, (same end).0) (refl, (same end).1)
    by same Fault = (refl, (same at).1)
    by same End = (refl, (same at).1)

  -- ---- in the first

  number-before : (at : ℕ) → at + 2 ≤ length a → number (a ++ b) at 2 ≡ number a at 2
  unfolding number
  number-before at h = rw (get_or-append a b 0 (at + 0) (omega arith), get_or-append a b 0 (at + 1) (omega arith))

  module _ (at kind start end : ℕ) (i : Inside a at kind start end) where
    pub next-before : next_at (a ++ b) at ≡ Record kind start end
    unfolding next_at
    next-before =
        let n = number-before at (omega (arith, i.holds, i.fits)) ∙ i.length_is in
        let long = length-append a b in
        let ends : at + 2 + (end - at - 2) ≡ end = omega (arith, i.holds) in
        let some = ne_eqb (end - at - 2) 0 (λ z. omega (arith, i.holds)) in
        let within : leb (length (a ++ b)) at ≡ false = lt-leb (length (a ++ b)) at (omega (arith, i.holds, i.fits, long)) in
        let whole : ltb (length (a ++ b)) end ≡ false = le-ltb (length (a ++ b)) end (omega (arith, i.fits, long)) in
        rw (within, n, some, ends, whole, get_or-append a b 0 (at + 2) (omega (arith, i.holds, i.fits)), i.kind-is, i.start_is)

    pub part-before : part (a ++ b) start end ≡ part a start end
    part-before =
        let size = length-drop start a in
        rw (drop-append-le start a b (omega (arith, i.start_is, i.holds, i.fits)))
        (take-append-le (end - start) (drop start a) b (omega (arith, i.fits, size)))

  -- ---- one behind the other

  abbrev met : List ℕ → (at : ℕ) → List Met
  met s at = met_in (length s) s at

  abbrev stop : List ℕ → (at : ℕ) → ℕ
  stop s at = place_in (length s) s at

  -- from a place of the first on, where its walk comes to its end
  abbrev Joined : (at : ℕ) → Type 0
  Joined at = (met (a ++ b) at ≡ met a at ++ met b 0) × (stop (a ++ b) at ≡ length a + stop b 0)

  at_seam : Joined (length a)
  at_seam =
      let over = rests (length a) a (length a) (inl (past_end a (length a) (omega arith))) in
      let all = length-append a b in
      let settled = walk_settles (length (a ++ b)) (length b) b 0 (omega arith) (omega (arith, all)) in
      let there = met-behind (length (a ++ b)) 0 in
      let seam = add-zero (length a) in (
        ap (λ (k : ℕ). met (a ++ b) k) (sym seam) ∙ there.0 ∙ settled.0 ∙ ap (λ l. l ++ met b 0) (sym over.0),
        ap (λ (k : ℕ). stop (a ++ b) k) (sym seam) ∙ there.1 ∙ ap (λ (k : ℕ). length a + k) settled.1,
      )

  step : (at : ℕ) → at ≤ length a → length a ≤ stop a at → ((next : ℕ) → at < next → next ≤ length a → length a ≤ stop a next → Joined next)
      → (next : Next) → next_at a at ≡ next → Joined at
  step at k far on (Record kind start end) e =
      let i = inside a at kind start end e in
      let first = walk-on a at kind start end e in
      let all = walk-on (a ++ b) at kind start end (next-before at kind start end i) in
      let rest = on end i.grows i.fits (omega (arith, far, first.1)) in (
        all.0
            ∙ ap (λ body. record { kind = kind; body = body } ∷ met (a ++ b) end) (part-before at kind start end i)
            ∙ ap (λ more. record { kind = kind; body = part a start end } ∷ more) rest.0
            ∙ ap (λ l. l ++ met b 0) (sym first.0),
        all.1 ∙ rest.1,
      )
  step at k far on Fault e = let stays = (rests (length a) a at (inr e)).1 in let z : length a ≡ at = omega (arith, far, stays) in subst Joined z at_seam
  step at k far on End e = let stays = (rests (length a) a at (inl e)).1 in let z : length a ≡ at = omega (arith, far, stays) in subst Joined z at_seam

  joined-from : (n at : ℕ) → length a - at ≤ n → at ≤ length a → length a ≤ stop a at → Joined at
  joined-from zero at h k far = let z : length a ≡ at = omega arith in subst Joined z at_seam
  joined-from (suc n) at h k far = step at k far (λ next l m on. joined-from n next (omega arith) m on) (next_at a at) refl

  -- two runs, one behind the other
  pub joined : length a ≤ stop a 0 → Joined 0
  joined far = joined-from (length a) 0 (omega arith) (omega arith) far
