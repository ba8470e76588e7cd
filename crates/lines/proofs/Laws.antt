-- A sitting's line is one line, no longer than the longest, and two that are equal say the same. Assumes nothing.
use mathlib.Core.Path.{◌≡◌, refl, sym, ap, ◌∙◌}
use mathlib.Core.Bool.{Bool, true, false}
use mathlib.Core.List.{List, [], ◌∷◌}
use Prim.Native.Nat.{ℕ, ◌<◌}
use native.Mathlib.Omega.{arith}
use lib.ListN.{length, take, replicate, length-append}
use Rattle.iad.specs.declared.Iad.{Iad}
use Rattle.iad.specs.Iad.{is_writable, read_iad, write_iad, written}
use Rattle.iad.proofs.RoundTrip.{written-size, whole}
use Rattle.hex_digits.specs.Hex.{hex_byte, hex}
use Rattle.lines.specs.Lines.{decimal, refusal_line, start_line, selected_line, cryptogram_line}
use Rattle.text.proofs.Each.{Each, none, more}
use Rattle.lines.proofs.Decimal as Decimal
use Rattle.hex_digits.proofs.Bytes as Hex
use Rattle.text.proofs.Fields.{Plain, same-fields}
use Rattle.hex_digits.proofs.Bytes.{hex-plain}
use Rattle.lines.proofs.Fields.{decimal-plain, OneLine, one_line}
use Rattle.std.specs.Prelude.{Ok}

abbrev zeros : List ℕ
zeros = replicate 32 0

-- the fields of each line are plain

refusal_plain : (number refusal : ℕ) → Each Plain (decimal number ∷ decimal refusal ∷ [])
refusal_plain number refusal = more (decimal-plain number) (more (decimal-plain refusal) none)

start_plain : (number atc : ℕ) → Each Plain (decimal number ∷ decimal 0 ∷ decimal atc ∷ [])
start_plain number atc = more (decimal-plain number) (more (decimal-plain 0) (more (decimal-plain atc) none))

selected_plain : (number atc visits : ℕ) → Each Plain (decimal number ∷ decimal 0 ∷ decimal atc ∷ decimal visits ∷ [])
selected_plain number atc visits =
    more (decimal-plain number) (more (decimal-plain 0) (more (decimal-plain atc) (more (decimal-plain visits) none)))

cryptogram-plain : (number cid atc : ℕ) (iad : Iad)
    → Each Plain (decimal number ∷ decimal 0 ∷ hex_byte cid ∷ decimal atc ∷ hex (written iad zeros) ∷ [])
unfolding hex
cryptogram-plain number cid atc iad =
    more (decimal-plain number)
    (more (decimal-plain 0) (more (hex-plain (cid ∷ [])) (more (decimal-plain atc) (more (hex-plain (written iad zeros)) none))))

-- one line

pub refusal_line_lem : (number refusal : ℕ) → OneLine (refusal_line number refusal)
unfolding refusal_line
refusal_line_lem number refusal =
    one_line _ _ (refusal_plain number refusal) (simp length-append (omega (arith, Decimal.size number, Decimal.size refusal)))

pub start-line : (number atc : ℕ) → OneLine (start_line number atc)
unfolding start_line
start-line number atc =
    one_line _ _ (start_plain number atc)
    (simp length-append (omega (arith, Decimal.size number, ap length Decimal.zero, Decimal.size atc)))

pub selected_line_lem : (number atc visits : ℕ) → OneLine (selected_line number atc visits)
unfolding selected_line
selected_line_lem number atc visits =
    one_line _ _ (selected_plain number atc visits)
    (simp length-append (omega (arith, Decimal.size number, ap length Decimal.zero, Decimal.size atc, Decimal.size visits)))

pub cryptogram-line : (number cid atc : ℕ) (iad : Iad) → OneLine (cryptogram_line number cid atc iad)
unfolding cryptogram_line
cryptogram-line number cid atc iad =
    one_line _ _ (cryptogram-plain number cid atc iad)
    (simp length-append
    (omega (arith, Decimal.size number, ap length Decimal.zero, Decimal.size atc, Hex.size (written iad zeros), written-size iad)))

-- two lines of a kind that are equal have the same fields

abbrev Small : ℕ → Type 0
Small n = n < 100_000

same_number : (m n : ℕ) → Small m → Small n → decimal m ≡ decimal n → m ≡ n
same_number m n h k e = sym (Decimal.reads_back m h) ∙ ap Decimal.value e ∙ Decimal.reads_back n k

same_bytes : (s t : List ℕ) → hex s ≡ hex t → s ≡ t
same_bytes s t e = sym (Hex.reads_back s) ∙ ap Hex.bytes e ∙ Hex.reads_back t

same_byte : (b c : ℕ) → hex_byte b ≡ hex_byte c → b ≡ c
same_byte b c e = let bytes : b ∷ [] ≡ c ∷ [] = same_bytes (b ∷ []) (c ∷ []) (unfold hex in e) in cc

reads : (iad : Iad) → is_writable iad ≡ true → read_iad (take 32 (written iad zeros)) ≡ Ok iad
reads iad good = let done : write_iad iad zeros ≡ (Ok tt) = (unfold write_iad in rw good) in ((whole iad zeros).0 done).0

same_iad : (iad iad' : Iad) → is_writable iad ≡ true → is_writable iad' ≡ true → written iad zeros ≡ written iad' zeros → iad ≡ iad'
same_iad iad iad' good good' e = cc (reads iad good, reads iad' good')

module _ (number number' : ℕ) (h : Small number) (h' : Small number') where
  pub same_refusal : (refusal refusal' : ℕ) → Small refusal → Small refusal' → refusal_line number refusal ≡ refusal_line number' refusal'
      → (number ≡ number') × (refusal ≡ refusal')
  unfolding refusal_line
  same_refusal refusal refusal' k k' e =
      let same = same-fields _ _ _ _ (refusal_plain number refusal) (refusal_plain number' refusal') e in
      (same_number number number' h h' (cc), same_number refusal refusal' k k' (cc))

  pub same_start : (atc atc' : ℕ) → Small atc → Small atc' → start_line number atc ≡ start_line number' atc' → (number ≡ number') × (atc ≡ atc')
  unfolding start_line
  same_start atc atc' k k' e =
      let same = same-fields _ _ _ _ (start_plain number atc) (start_plain number' atc') e in
      (same_number number number' h h' (cc), same_number atc atc' k k' (cc))

  pub same_selected : (atc atc' visits visits' : ℕ) → Small atc → Small atc' → Small visits → Small visits'
      → selected_line number atc visits ≡ selected_line number' atc' visits' → (number ≡ number') × (atc ≡ atc') × (visits ≡ visits')
  unfolding selected_line
  same_selected atc atc' visits visits' k k' j j' e =
      let same = same-fields _ _ _ _ (selected_plain number atc visits) (selected_plain number' atc' visits') e in
      (same_number number number' h h' (cc), same_number atc atc' k k' (cc), same_number visits visits' j j' (cc))

  pub same-cryptogram : (cid cid' atc atc' : ℕ) (iad iad' : Iad) → Small atc → Small atc' → is_writable iad ≡ true → is_writable iad' ≡ true
      → cryptogram_line number cid atc iad ≡ cryptogram_line number' cid' atc' iad'
      → (number ≡ number') × (cid ≡ cid') × (atc ≡ atc') × (iad ≡ iad')
  unfolding cryptogram_line
  same-cryptogram cid cid' atc atc' iad iad' k k' good good' e =
      let same = same-fields _ _ _ _ (cryptogram-plain number cid atc iad) (cryptogram-plain number' cid' atc' iad') e in
      let digits : hex (written iad zeros) ≡ hex (written iad' zeros) = cc in (
        same_number number number' h h' (cc),
        same_byte cid cid' (cc),
        same_number atc atc' k k' (cc),
        same_iad iad iad' good good' (same_bytes (written iad zeros) (written iad' zeros) digits),
      )
