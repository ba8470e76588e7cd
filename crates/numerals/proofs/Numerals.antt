-- The digits of a number: those of its tens and the last one, how many there are, and that they read back. Assumes nothing.
use mathlib.Core.Path.{◌≡◌, refl, sym, ap, ◌∙◌}
use mathlib.Core.Bool.{Bool, true, false, cond}
use mathlib.Core.List.{List, [], ◌∷◌, ◌++◌, foldl, foldl-append}
use Prim.Native.Nat.{ℕ, zero, suc, ◌+◌, ◌*◌, ◌-◌, ◌/◌, ◌%◌, ◌^◌, ◌≤◌, ◌<◌}
use native.Mathlib.Nat.{pow-suc}
use native.Mathlib.Omega.{arith}
use borrow.Author.Tests.{ltb-true, ltb-false, lt-ltb, le-ltb, le-leb, lt-leb}
use lib.Dec.{ltb}
use lib.ListN.{length, length-append}
use lib.Seq.{sets, length-sets}
use Rattle.text.specs.Stored.{Stored}
use Rattle.text.proofs.Stores as store
use Rattle.numerals.specs.Numeral.{digits_of, numeral, longest, number_placed, number_behind, field, longest_field, field_placed, field_behind}

-- the tenth has a digit less
tenth : (k n : ℕ) → n < 10 ^ suc k → n / 10 < 10 ^ k
tenth k n h = let p : 10 ^ suc k ≡ 10 ^ k * 10 = pow-suc 10 k in omega arith

-- one digit, or the tens' and the last one
one : (most n : ℕ) → n < 10 → digits_of (suc most) n ≡ (48 + n) ∷ []
unfolding digits_of
one most n h = let same : n % 10 ≡ n = omega arith in rw (lt-ltb n 10 h, same)

more : (most n : ℕ) → 10 ≤ n → digits_of (suc most) n ≡ digits_of most (n / 10) ++ (48 + n % 10) ∷ []
unfolding digits_of
more most n h = rw (le-ltb n 10 h)

-- one digit more than there are changes nothing
enough : (k n : ℕ) → n < 10 ^ suc k → digits_of (suc k) n ≡ digits_of (suc (suc k)) n
unfolding digits_of
enough zero n h = rw (lt-ltb n 10 h)
enough (suc k) n h = ap (λ (s : List ℕ). cond (ltb n 10) [] s ++ (48 + n % 10) ∷ []) (enough k (n / 10) (tenth (suc k) n h))

pub ones : (n : ℕ) → n < 10 → (48 + n) ∷ [] ≡ numeral n
unfolding numeral
ones n h = sym (one 19 n h)

pub one-long : (n : ℕ) → n < 10 → length (numeral n) ≡ 1
one-long n h = ap length (sym (ones n h))

pub tens : (n : ℕ) → 10 ≤ n → n < 10 ^ longest → numeral (n / 10) ++ (48 + n % 10) ∷ [] ≡ numeral n
unfolding numeral
tens n h small =
    ap (λ (s : List ℕ). s ++ (48 + n % 10) ∷ []) (sym (enough 18 (n / 10) (omega arith))) ∙ sym (more 19 n h)

pub one_longer : (n : ℕ) → 10 ≤ n → n < 10 ^ longest → length (numeral n) ≡ length (numeral (n / 10)) + 1
one_longer n h small = ap length (sym (tens n h small)) ∙ length-append (numeral (n / 10)) ((48 + n % 10) ∷ [])

-- stored so
pub one-digit : {room after : List ℕ} {at end : ℕ} (n : ℕ) → n < 10 → Stored room at ((48 + n) ∷ []) 1 end after
    → Stored room at (numeral n) (length (numeral n)) end after
one-digit n h p = rw (← ones n h) p

pub one_more_lem : {room between after : List ℕ} {at middle end : ℕ} (n : ℕ) → 10 ≤ n → n < 10 ^ longest
    → Stored room at (numeral (n / 10)) (length (numeral (n / 10))) middle between
    → Stored between middle ((48 + (n - n / 10 * 10)) ∷ []) 1 end after
    → Stored room at (numeral n) (length (numeral n)) end after
one_more_lem n h small p q =
    let left : n - n / 10 * 10 ≡ n % 10 = omega arith in
    let both : numeral (n / 10) ++ (48 + (n - n / 10 * 10)) ∷ [] ≡ numeral n = rw left (tens n h small) in
    rw (← both, length-append (numeral (n / 10)) ((48 + (n - n / 10 * 10)) ∷ [])) (store.next p q)

-- what holds of either
split : (P : List ℕ → Type 0) (most n : ℕ) → (n < 10 → P ((48 + n) ∷ [])) → (10 ≤ n → P (digits_of most (n / 10) ++ (48 + n % 10) ∷ []))
    → P (digits_of (suc most) n)
split P most n single several = by (ltb n 10) refl where
  by : (b : Bool) → ltb n 10 ≡ b → P (digits_of (suc most) n)
  by true e = let h = ltb-true n 10 e in rw (one most n h) (single h)
  by false e = let h = ltb-false n 10 e in rw (more most n h) (several h)

-- ---- how many

within : (most n : ℕ) → length (digits_of most n) ≤ most
within zero n = unfold digits_of in omega arith
within (suc most) n =
    split (λ s. length s ≤ suc most) most n (λ h. omega arith) (λ h. simp length-append (omega (arith, within most (n / 10))))

few : (most k n : ℕ) → n < 10 ^ suc k → length (digits_of most n) ≤ suc k
few zero k n below = unfold digits_of in omega arith
few (suc most) zero n below = rw (one most n below) (omega arith)
few (suc most) (suc k) n below =
    split (λ s. length s ≤ suc (suc k)) most n (λ h. omega arith)
    (λ h. simp length-append (omega (arith, few most k (n / 10) (tenth (suc k) n below))))

-- ---- read back

abbrev pub value : List ℕ → ℕ
value s = foldl (λ n d. n * 10 + (d - 48)) 0 s

back : (most n : ℕ) → n < 10 ^ most → value (digits_of most n) ≡ n
back zero n below = unfold digits_of in omega arith
back (suc most) n below =
    split (λ s. value s ≡ n) most n (λ h. omega arith)
    (λ h. rw (foldl-append (λ n d. n * 10 + (d - 48)) 0 (digits_of most (n / 10)), back most (n / 10) (tenth most n below)) (omega arith))

module _ (n : ℕ) where
  pub size : length (numeral n) ≤ longest
  unfolding numeral
  size = within longest n

  -- below a power of ten
  pub size_below : (k : ℕ) → n < 10 ^ suc k → length (numeral n) ≤ suc k
  unfolding numeral
  size_below k h = few longest k n h

  pub reads_back : n < 10 ^ longest → value (numeral n) ≡ n
  unfolding numeral
  reads_back h = back longest n h

-- ---- in the room

pub stay : (room : List ℕ) (at n : ℕ) → length room < at + longest → (at ≡ number_behind (length room) at n) × (room ≡ number_placed room at n)
unfolding number_behind number_placed
stay room at n full = let none = lt-leb (at + longest) (length room) full in (rw none, rw none)

module _ (room : List ℕ) (at n : ℕ) (fits : at + longest ≤ length room) where
  pub behind : number_behind (length room) at n ≡ at + length (numeral n)
  unfolding number_behind
  behind = rw (le-leb (at + longest) (length room) fits)

  pub placed : number_placed room at n ≡ sets room at (numeral n)
  unfolding number_placed
  placed = rw (le-leb (at + longest) (length room) fits)

  -- what is known where it fits
  pub stored : {after : List ℕ} {end : ℕ} → end ≡ number_behind (length room) at n → after ≡ number_placed room at n
      → Stored room at (numeral n) (length (numeral n)) end after
  stored e p = let ends = e ∙ behind in record { is = p ∙ placed; behind = ends; short = omega arith }

  -- by the most digits that it may have
  pub fitted : {after : List ℕ} {end : ℕ} → end ≡ number_behind (length room) at n → after ≡ number_placed room at n
      → Stored room at (numeral n) longest end after × (length after ≡ length room)
  fitted e p =
      let digits = stored e p in
      (store.within digits (size n), ap length digits.is ∙ length-sets room at (numeral n))

-- ---- with the mark behind it

pub stay_field : (room : List ℕ) (at n mark : ℕ) → length room < at + longest_field
    → (at ≡ field_behind (length room) at n mark) × (room ≡ field_placed room at n mark)
unfolding field_behind field_placed
stay_field room at n mark full = let none = lt-leb (at + longest_field) (length room) full in (rw none, rw none)

module _ (room : List ℕ) (at n mark : ℕ) (fits : at + longest_field ≤ length room) where
  -- stored so
  pub place-field : {after : List ℕ} {end most : ℕ} → Stored room at (field n mark) most end after
      → (end ≡ field_behind (length room) at n mark) × (after ≡ field_placed room at n mark)
  unfolding field_behind field_placed
  place-field p = let room_for = le-leb (at + longest_field) (length room) fits in (rw room_for p.behind, rw room_for p.is)

  -- what is known where it fits
  pub field_fitted : {after : List ℕ} {end : ℕ} → end ≡ field_behind (length room) at n mark → after ≡ field_placed room at n mark
      → Stored room at (field n mark) longest_field end after × (length after ≡ length room)
  unfolding field_behind field_placed
  field_fitted {after} {end} e p =
      let room_for = le-leb (at + longest_field) (length room) fits in
      let ends : end ≡ at + length (field n mark) = rw room_for at e in
      let is : after ≡ sets room at (field n mark) = rw room_for at p in
      let long = length-append (numeral n) (mark ∷ []) in
      (record { is = is; behind = ends; short = omega (arith, ends, long, size n) }, ap length is ∙ length-sets room at (field n mark))
