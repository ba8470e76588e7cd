-- What can stand at the front of bytes: nothing, no whole record, or a whole record; and what `next_at` says of each. Assumes nothing.
use mathlib.Core.Path.{◌≡◌, refl, ap}
use mathlib.Core.Bool.{Bool, true, false, cond, ◌||◌}
use mathlib.Core.List.{List, [], ◌∷◌, ◌++◌}
use Prim.Native.Nat.{ℕ, suc, ◌+◌, ◌-◌, ◌*◌, ◌/◌, ◌%◌, ◌<◌, ◌≤◌}
use native.Mathlib.Omega.{arith}
use borrow.Author.Tests.{le-leb, lt-leb, leb-true, leb-false, lt-ltb, le-ltb, ltb-true, ltb-false, ne_eqb, eqb-true, eqb-false}
use lib.Dec.{leb, ltb, eqb}
use lib.ListN.{length, take, drop, length-append, length-drop, take-append-drop}
use lib.Seq.{get_or-drop, drop-drop, drop-append-add, drop-append_seam, take_at, length-take-le}
use Rattle.wire.specs.Wire.{byte, number}
use Rattle.paper.specs.declared.Next.{Next}
use Rattle.paper.specs.declared.Next.TheVariants.{Record, Fault, End}
use Rattle.paper.specs.Paper.{end_at, is_fault_at, next_at}
use Rattle.paper.specs.Walk.{part}
use Rattle.spelling.specs.Spelling.{Bytes, big, record_of}
use Rattle.spelling.specs.Faults.{Broken, cut_in_length, cut_short_lem, no_kind, Whole}
use Rattle.spelling.proofs.Numbers.{number_drop}

-- ---- the views

pub data Shape (s : List ℕ) : Type 0 where
  nothing : s ≡ [] → Shape s
  broken : Broken s → Shape s
  whole : (kind : ℕ) (body : List ℕ) → Whole s kind body → Shape s

-- the bytes of a record
pub record_is : (kind : ℕ) (body : List ℕ)
    → record_of kind body ≡ (1 + length body) / 256 % 256 ∷ (1 + length body) % 256 ∷ kind ∷ body
unfolding record_of big
record_is kind body = refl

pub shape : (s : List ℕ) → Bytes s → Shape s
shape [] h = nothing refl
shape (b ∷ []) h = broken (cut_in_length b refl)
shape (high ∷ low ∷ more) h = by_length (eqb (high * 256 + low) 0) (ltb (length more) (high * 256 + low)) refl refl more refl where
  by_length : (none short : Bool) → eqb (high * 256 + low) 0 ≡ none → ltb (length more) (high * 256 + low) ≡ short
      → (rest : List ℕ) → more ≡ rest → Shape (high ∷ low ∷ more)
  by_length true short n c rest e =
      let zeros = eqb-true (high * 256 + low) 0 n in
      let zero_high : high ≡ 0 = omega arith in
      let zero-low : low ≡ 0 = omega arith in
      broken (no_kind more (cc))
  by_length false true n c rest e = broken (cut_short_lem high low more refl (ltb-true (length more) (high * 256 + low) c))
  by_length false false n c [] e =
      let some = eqb-false (high * 256 + low) 0 n in
      let fits = ltb-false (length more) (high * 256 + low) c in
      let none : length more ≡ 0 = ap length e in
      absurd (some (omega arith))
  by_length false false n c (kind ∷ behind) e =
      let some = eqb-false (high * 256 + low) 0 n in
      let fits = ltb-false (length more) (high * 256 + low) c in
      let size : length more ≡ suc (length behind) = ap length e in
      let small = h.0 in
      let small' = h.1.0 in
      let body = take (high * 256 + low - 1) behind in
      let sized : length body ≡ high * 256 + low - 1 = length-take-le (high * 256 + low - 1) behind (omega arith) in
      let positive : 0 < high * 256 + low = omega (arith, some) in
      let first : (1 + length body) / 256 % 256 ≡ high = omega arith in
      let second : (1 + length body) % 256 ≡ low = omega arith in
      whole kind body
      (record {
        more = drop (high * 256 + low - 1) behind;
        is = rw (record_is kind body, first, second, e, take-append-drop (high * 256 + low - 1) behind);
        sized = omega arith;
      })

-- ---- what stands at a place is what stands at the front from there on

abbrev pub shift : ℕ → Next → Next
shift at (Record kind start end) = Record kind (at + start) (at + end)
shift at Fault = Fault
shift at End = End

same_leb : (m n a b : ℕ) → (m ≤ n → a ≤ b) → (a ≤ b → m ≤ n) → leb m n ≡ leb a b
same_leb m n a b f g = by (leb a b) refl where
  by : (t : Bool) → leb a b ≡ t → leb m n ≡ t
  by true e = le-leb m n (g (leb-true a b e))
  by false e = lt-leb m n (let l = leb-false a b e in by_le (leb m n) refl l) where
    by_le : (t : Bool) → leb m n ≡ t → b < a → n < m
    by_le true e l = let u = f (leb-true m n e) in absurd (omega arith)
    by_le false e l = leb-false m n e

pub next_drop : (s : List ℕ) (at : ℕ) → next_at s at ≡ shift at (next_at (drop at s) 0)
unfolding next_at
next_drop s at = by (leb (length s) at) refl where
  tests : (b : Bool) → cond b Fault (Record (byte s (at + 2)) (at + 3) (at + 2 + number s at 2))
      ≡ shift at (cond b Fault (Record (byte s (at + 2)) 3 (2 + number s at 2)))
  tests true = refl
  tests false = ap (Record (byte s (at + 2)) (at + 3)) (omega arith)

  by : (b : Bool) → leb (length s) at ≡ b
      → cond b End (cond (is_fault_at s at) Fault (Record (byte s (at + 2)) (at + 3) (end_at s at)))
      ≡ shift at (cond (leb (length (drop at s)) 0) End
      (cond (is_fault_at (drop at s) 0) Fault (Record (byte (drop at s) (0 + 2)) (0 + 3) (end_at (drop at s) 0))))
  by true e =
      let past = leb-true (length s) at e in
      rw (le-leb (length (drop at s)) 0 (omega (arith, length-drop at s)))
  by false e =
      let left = leb-false (length s) at e in
      let size = length-drop at s in
      let ends : ltb (length s) (at + 2 + number s at 2) ≡ ltb (length s - at) (2 + number s at 2) =
      same_leb (suc (length s)) (at + 2 + number s at 2) (suc (length s - at)) (2 + number s at 2) (λ h. omega arith) (λ h. omega arith) in
      rw (size, lt-leb (length s - at) 0 (omega arith), ← number_drop s at 2, get_or-drop at s 2 0, ends)
      (tests (eqb (number s at 2) 0 || ltb (length s - at) (2 + number s at 2)))

pub part_drop : (s : List ℕ) (at start end : ℕ) → part s (at + start) (at + end) ≡ part (drop at s) start end
part_drop s at start end =
    let size : at + end - (at + start) ≡ end - start = omega arith in
    rw (size, drop-drop start at s)

-- ---- what stands at the front

pub next-nothing : (s : List ℕ) → s ≡ [] → next_at s 0 ≡ End
unfolding next_at
next-nothing s e = rw e

said : (high low : ℕ) (more : List ℕ) → number (high ∷ low ∷ more) 0 2 ≡ high * 256 + low
unfolding number
said high low more = omega arith

said_alone : (b : ℕ) → number (b ∷ []) 0 2 ≡ b * 256
unfolding number
said_alone b = omega arith

pub next-broken : (s : List ℕ) → Broken s → next_at s 0 ≡ Fault
unfolding next_at
next-broken s (cut_in_length b e) = rw (e, said_alone b, lt-ltb 1 (2 + b * 256) (omega arith)) (by (eqb (b * 256) 0)) where
  by : (t : Bool) → cond (t || true) Fault (Record 0 3 (2 + b * 256)) ≡ Fault
  by true = refl
  by false = refl
next-broken s (cut_short_lem high low more e h) =
    let some = lt-leb (suc (suc (length more))) 0 (omega arith) in
    let cut = lt-ltb (suc (suc (length more))) (2 + (high * 256 + low)) (omega arith) in
    rw (e, said high low more, some, cut) (by (eqb (high * 256 + low) 0))
  where
    by : (t : Bool) → cond (t || true) Fault (Record (byte more 0) 3 (2 + (high * 256 + low))) ≡ Fault
    by true = refl
    by false = refl
next-broken s (no_kind more e) = rw (e, said 0 0 more, lt-leb (suc (suc (length more))) 0 (omega arith))

module _ (kind : ℕ) (body more : List ℕ) where
  abbrev here : List ℕ
  here = record_of kind body ++ more

  here-is : here ≡ (1 + length body) / 256 % 256 ∷ (1 + length body) % 256 ∷ kind ∷ body ++ more
  here-is = rw (record_is kind body)

  pub here_length : length here ≡ 3 + length body + length more
  here_length = rw here-is (omega (arith, length-append body more))

  pub next-whole : length body < 65535 → next_at here 0 ≡ Record kind 3 (3 + length body)
  unfolding next_at
  next-whole sized =
      let high = (1 + length body) / 256 % 256 in
      let low = (1 + length body) % 256 in
      let length-said : high * 256 + low ≡ 1 + length body = omega arith in
      let end : 2 + (1 + length body) ≡ 3 + length body = omega arith in
      rw (here-is, said high low (kind ∷ (body ++ more)), length-said, end)
      (simp (
        lt-leb (suc (suc (suc (length (body ++ more))))) 0 (omega arith),
        ne_eqb (1 + length body) 0 (omega arith),
        le-ltb (suc (suc (suc (length (body ++ more))))) (3 + length body) (omega (arith, length-append body more)),
      ))

  pub body-there : part here 3 (3 + length body) ≡ body
  body-there = rw here-is (take_at body more (3 + length body - 3) (omega arith))

  pub rest-there : drop (3 + length body) here ≡ more
  rest-there =
      rw (here-is, drop-append-add ((1 + length body) / 256 % 256 ∷ (1 + length body) % 256 ∷ kind ∷ []) (body ++ more) (length body))
      (drop-append_seam body more)

pub record_length : (kind : ℕ) (body : List ℕ) → length (record_of kind body) ≡ 3 + length body
record_length kind body = rw (record_is kind body) (omega arith)
