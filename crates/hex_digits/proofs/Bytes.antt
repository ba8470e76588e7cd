-- Bytes in hex: one more at a time, how many digits they have, and that these read back. Assumes nothing.
use mathlib.Core.Path.{◌≡◌, refl, sym}
use mathlib.Core.List.{List, [], ◌∷◌, ◌++◌, append_assoc}
use Prim.Native.Nat.{ℕ, ◌+◌, ◌*◌, ◌/◌, ◌%◌, ◌≤◌, ◌<◌}
use native.Mathlib.Numerals.{add-one}
use native.Mathlib.Omega.{arith}
use lib.ListN.{length, take, get_or}
use lib.Seq.{take-suc}
use Rattle.text.proofs.Each.{Each, none, more, weaken}
use Rattle.text.proofs.Fields.{Plain}
use Rattle.hex_digits.specs.Hex.{hex_byte, hex}
use Rattle.hex_digits.proofs.Digits.{unhex, one}

append : (s t : List ℕ) → hex (s ++ t) ≡ hex s ++ hex t
unfolding hex
append [] t = refl
append (b ∷ s) t = rw (append s t) (sym (append_assoc (hex_byte b) (hex s) (hex t)))

pub hex-more : (s : List ℕ) (i : ℕ) → i < length s → hex (take (i + 1) s) ≡ hex (take i s) ++ hex_byte (get_or s i 0)
unfolding hex
hex-more s i h = rw (add-one i, take-suc s i 0) (append (take i s) (get_or s i 0 ∷ []))

pub digits : (s : List ℕ) → Each (λ d. 48 ≤ d) (hex s)
unfolding hex
digits [] = none
digits (b ∷ s) = more (one (b / 16)).least (more (one (b % 16)).least (digits s))

pub hex-plain : (s : List ℕ) → Plain (hex s)
hex-plain s = weaken (λ b h. omega arith) (digits s)

pub size : (s : List ℕ) → length (hex s) ≡ 2 * length s
unfolding hex
size [] = refl
size (b ∷ s) = let more = size s in omega arith

-- the bytes that digits write, two by two
abbrev pub bytes : List ℕ → List ℕ
bytes [] = []
bytes (h ∷ []) = []
bytes (h ∷ l ∷ s) = (unhex h * 16 + unhex l) ∷ bytes s

pub reads_back : (s : List ℕ) → bytes (hex s) ≡ s
unfolding hex
reads_back [] = refl
reads_back (b ∷ s) =
    let whole : b / 16 * 16 + b % 16 ≡ b = omega arith in
    rw ((one (b / 16)).back, (one (b % 16)).back, whole, reads_back s)
