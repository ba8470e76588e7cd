-- The bytes that a number is read to hold that number. Assumes nothing.
use mathlib.Core.Path.{◌≡◌, refl, ap₂, ◌∙◌}
use mathlib.Core.Bool.{true}
use mathlib.Core.List.{List, [], ◌∷◌, ◌++◌}
use Prim.Native.Nat.{ℕ, zero, suc, ◌+◌, ◌*◌, ◌/◌, ◌%◌, ◌^◌, ◌<◌, ◌≤◌}
use native.Mathlib.Nat.{pow-suc}
use native.Mathlib.Omega.{arith}
use borrow.Author.Tests.{ltb-true}
use lib.Dec.{ltb}
use lib.ListN.{length}
use lib.Seq.{get_or_at}
use Rattle.wire.specs.Wire.{byte, number}
use Rattle.words.specs.Words.{is_number, value}
use Rattle.words.proofs.Tests.{both}
use Rattle.forms.specs.Form.{count, big_endian, says, bytes_in}
use Rattle.forms.proofs.Takes.{big-size}

byte_left : (a b : List ℕ) (i : ℕ) → i < length a → byte (a ++ b) i ≡ byte a i
byte_left [] b i h = absurd (omega arith)
byte_left (c ∷ a) b zero h = refl
byte_left (c ∷ a) b (suc i) h = byte_left a b i (omega arith)

number-left : (a b : List ℕ) (n : ℕ) → n ≤ length a → number (a ++ b) 0 n ≡ number a 0 n
unfolding number
number-left a b zero h = refl
number-left a b (suc n) h = ap₂ (λ x y. x * 256 + y) (number-left a b n (omega arith)) (byte_left a b (0 + n) (omega arith))

big-number : (n v : ℕ) → v < 256 ^ n → number (big_endian n v) 0 n ≡ v
unfolding number big_endian
big-number zero v h = omega arith
big-number (suc n) v h =
    let p : 256 ^ suc n ≡ 256 ^ n * 256 = pow-suc 256 n in
    let high = big_endian n (v / 256) in
    let size = big-size n (v / 256) in
    let front = number-left high (v % 256 ∷ []) n (omega arith) ∙ big-number n (v / 256) (omega arith) in
    let last : byte (high ++ v % 256 ∷ []) (0 + n) ≡ v % 256 = get_or_at high (v % 256) [] 0 (0 + n) (omega arith) in
    ap₂ (λ x y. x * 256 + y) front last ∙ omega arith

-- so that what is said is what is held
pub count-said : (n : ℕ) (w : List ℕ) → says (count n) w ≡ true → number (bytes_in (count n) w) 0 n ≡ value w
unfolding says bytes_in
count-said n w h = big-number n (value w) (ltb-true (value w) (256 ^ n) (both (is_number w) (ltb (value w) (256 ^ n)) h).1)
