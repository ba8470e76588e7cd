-- The first byte in which two runs of bytes differ says how their big-endian numbers stand. Assumes nothing.
use mathlib.Core.Path.{◌≡◌, refl, sym, ap, ap₂, ◌∙◌}
use mathlib.Core.Bool.{Bool, true, false, ◌||◌}
use mathlib.Core.List.{List}
use Prim.Native.Nat.{ℕ, zero, suc, ◌+◌, ◌*◌, ◌-◌, ◌≤◌, ◌<◌}
use native.Mathlib.Nat.{add-zero, add-suc}
use native.Mathlib.Numerals.{add-one}
use native.Mathlib.Omega.{arith}
use lib.Bits.{bit_and, and_block, and_lt}
use lib.Dec.{ltb, eqb}
use borrow.Author.Tests.{lt-ltb, le-ltb}
use Rattle.wire.specs.Wire.{byte, number}
use Rattle.fields.specs.Fields.{position, block_length, block_place}
use Rattle.entry.specs.Entry.{block, masked, is_any_of}
use Rattle.std.proofs.lemmas.Bool.{false≢true}
use Rattle.std.specs.Cmp.{ranks, ranked, nat_cmp_is, unsigned_tied}
use Rattle.std.specs.Ordering.{MatchOrdering, nat_cmp, is_eq, is_ne, is_lt, is_gt}
use Rattle.std.specs.declared.cmp.Ordering.{Ordering}
use Rattle.std.specs.declared.cmp.Ordering.TheVariants.{Less, Equal, Greater}

-- x and y: numbers that grow by a byte at each step
module _ (x y a b : ℕ → ℕ) (x-more : (i : ℕ) → x (suc i) ≡ x i * 256 + a i) (y-more : (i : ℕ) → y (suc i) ≡ y i * 256 + b i)
    (small : (i : ℕ) → a i < 256) where
  pub less-on : (i k : ℕ) → x i < y i → x (i + k) < y (i + k)
  less-on i zero h = rw (add-zero i) h
  less-on i (suc k) h =
      let s = less-on i k h in
      let m = small (i + k) in
      rw (add-suc i k) (omega (arith, x-more (i + k), y-more (i + k)))

  pub less-at : (i n : ℕ) → i < n → x i ≡ y i → a i < b i → x n < y n
  less-at i n h e g =
      let s : x (suc i) < y (suc i) = omega (arith, x-more i, y-more i) in
      let l : suc i + (n - suc i) ≡ n = omega arith in
      rw l at (less-on (suc i) (n - suc i) s)

-- the bytes of d from place p on, AND those of e from place m on
module _ (d e : List ℕ) (p m : ℕ) (ds : (k : ℕ) → byte d k < 256) (es : (k : ℕ) → byte e k < 256) where
  abbrev pub masked_to : ℕ → ℕ
  masked_to i = bit_and (number d p i) (number e m i)

  abbrev pub masked_byte : ℕ → ℕ
  masked_byte i = bit_and (byte d (p + i)) (byte e (m + i))

  pub masked-more : (i : ℕ) → masked_to (suc i) ≡ masked_to i * 256 + masked_byte i
  unfolding number
  masked-more i = and_block 8 (number d p i) (number e m i) (byte d (p + i)) (byte e (m + i)) (ds (p + i)) (es (m + i))

  pub masked_small : (i : ℕ) → masked_byte i < 256
  masked_small i = and_lt 8 _ _ (ds (p + i)) (es (m + i))

  number_more : (v i : ℕ) → number e v (suc i) ≡ number e v i * 256 + byte e (v + i)
  unfolding number
  number_more v i = refl

  -- at byte i, the first in which they differ
  module _ (v i n : ℕ) (h : i < n) (same : masked_to i ≡ number e v i) where
    pub is-less : masked_byte i < byte e (v + i) → Less ≡ nat_cmp (masked_to n) (number e v n)
    is-less g = nat_cmp_is _ _ Less (less-at masked_to (number e v) masked_byte (λ k. byte e (v + k)) masked-more (number_more v) masked_small i n h same g)

    pub is_greater_lem : byte e (v + i) < masked_byte i → Greater ≡ nat_cmp (masked_to n) (number e v n)
    is_greater_lem g =
        nat_cmp_is _ _ Greater
        (less-at (number e v) masked_to (λ k. byte e (v + k)) masked_byte (number_more v) masked-more (λ k. es (v + k)) i n h (sym same) g)

    pub still_same : masked_byte i ≡ byte e (v + i) → masked_to (i + 1) ≡ number e v (i + 1)
    still_same g = rw add-one (masked-more i ∙ ap₂ (λ a b. a * 256 + b) same g ∙ sym (number_more v i))

-- what the order says of two numbers
module _ (x y : ℕ) where
  pub less-is : is_lt (nat_cmp x y) ≡ ltb x y
  less-is = by (nat_cmp x y) (ranks x y) where
    by : (o : Ordering) → MatchOrdering o (x < y) (x ≡ y) (y < x) → is_lt o ≡ ltb x y
    by Less h = sym (lt-ltb x y h)
    by Equal h = sym (le-ltb x y (omega arith))
    by Greater h = sym (le-ltb x y (omega arith))

  pub greater-is : is_gt (nat_cmp x y) ≡ ltb y x
  greater-is = by (nat_cmp x y) (ranks x y) where
    by : (o : Ordering) → MatchOrdering o (x < y) (x ≡ y) (y < x) → is_gt o ≡ ltb y x
    by Less h = sym (le-ltb y x (omega arith))
    by Equal h = sym (le-ltb y x (omega arith))
    by Greater h = sym (lt-ltb y x h)

pub ruleset tells = (less-is, greater-is)

-- the comparison with block i: its start in the data, its length and its place as they were read, and up to byte k no difference
pub record Same (e : List ℕ) (i : ℕ) (d : List ℕ) (start length place k : ℕ) : Type 0 where
  pub bytes : (n : ℕ) → byte e n < 256
  pub told : (n : ℕ) → byte d n < 256
  pub starts : start ≡ position e - 1
  pub long : length ≡ block_length e
  pub placed : place ≡ block_place e i
  pub within : k ≤ length
  pub same : bit_and (number d start k) (number e 4 k) ≡ number e place k

module _ (e : List ℕ) (i : ℕ) (d : List ℕ) (start length place k : ℕ) (s : Same e i d start length place k) where
  whole : nat_cmp (bit_and (number d start length) (number e 4 length)) (number e place length) ≡ nat_cmp (masked e d) (block e i)
  unfolding masked block
  whole = rw (s.starts, s.long, s.placed)

  abbrev Stands : Ordering → Type 0
  Stands o =
      let b = bit_and (byte d (start + k)) (byte e (4 + k)) in
      let v = byte e (place + k) in
      MatchOrdering o (b < v) (b ≡ v) (v < b)

  -- a turn, with the byte of the data, of the mask and of the block as they were read, and how these stand
  pub turn : (x m y : ℕ) (o : Ordering) → k < length → x ≡ byte d (start + k) → m ≡ byte e (4 + k) → y ≡ byte e (place + k) → o ≡ nat_cmp (bit_and x m) y
      → (is_ne o ≡ true → o ≡ nat_cmp (masked e d) (block e i)) × (is_ne o ≡ false → Same e i d start length place (k + 1))
  turn x m y o h hx hm hy = rw (hx, hm, hy) (λ ho. by o (ranked _ _ o ho)) where
    by : (o : Ordering) → Stands o → (is_ne o ≡ true → o ≡ nat_cmp (masked e d) (block e i)) × (is_ne o ≡ false → Same e i d start length place (k + 1))
    by Less g = (λ _. is-less d e start 4 s.told s.bytes place k length h s.same g ∙ whole, λ f. absurd (false≢true (sym f)))
    by Greater g = (λ _. is_greater_lem d e start 4 s.told s.bytes place k length h s.same g ∙ whole, λ f. absurd (false≢true (sym f)))
    by Equal g = (
      λ f. absurd (false≢true f),
      λ _. record {
        bytes = s.bytes;
        told = s.told;
        starts = s.starts;
        long = s.long;
        placed = s.placed;
        within = omega arith;
        same = still_same d e start 4 s.told s.bytes place k length h s.same g;
      },
    )

  pub ended : length ≤ k → Equal ≡ nat_cmp (masked e d) (block e i)
  ended g =
      let z : k ≡ length = omega (arith, s.within) in
      nat_cmp_is _ _ Equal (rw z at s.same) ∙ whole

-- what a comparison answered
pub is-told : (x y : ℕ) (o : Ordering) (b : Bool) → o ≡ nat_cmp x y → b ≡ is_eq o → eqb x y ≡ b
is-told x y o b e f = sym (unsigned_tied x y) ∙ ap is_eq (sym e) ∙ sym f

-- the comparison values from value i on, of n blocks
pub none_left : (x : ℕ) (e : List ℕ) (i n : ℕ) → n ≤ i → is_any_of x e i (n - i) ≡ false
unfolding is_any_of
none_left x e i n h = let z : n - i ≡ 0 = omega arith in rw z

module _ (x : ℕ) (e : List ℕ) (i n : ℕ) (h : i < n) where
  any_step : is_any_of x e i (n - i) ≡ eqb x (block e i) || is_any_of x e (i + 1) (n - (i + 1))
  unfolding is_any_of
  any_step = let l : n - i ≡ suc (n - (i + 1)) = omega arith in rw (l, add-one i)

  pub found : eqb x (block e i) ≡ true → is_any_of x e i (n - i) ≡ true
  found e = any_step ∙ simp e

  pub passed : eqb x (block e i) ≡ false → is_any_of x e i (n - i) ≡ is_any_of x e (i + 1) (n - (i + 1))
  passed e = any_step ∙ simp e
