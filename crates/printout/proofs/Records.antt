-- What is printed of old records, read as text: a line for each, with its number and what it came to. Assumes nothing.
use mathlib.Core.Path.{◌≡◌, refl, sym, ap, subst, ◌∙◌}
use mathlib.Core.Bool.{Bool, true, false, cond}
use mathlib.Core.List.{List, [], ◌∷◌, ◌++◌, append_assoc, append-nil}
use Prim.Native.Nat.{ℕ, zero, suc, ◌+◌, ◌*◌, ◌/◌, ◌%◌, ◌^◌, ◌≤◌, ◌<◌}
use native.Mathlib.Nat.{pow-suc}
use native.Mathlib.Omega.{arith}
use borrow.Author.Tests.{ltb-true, ltb-false, leb-true}
use lib.Dec.{ltb, leb}
use lib.ListN.{length, take, drop, replicate, length-append, length-drop, take-append-drop}
use lib.Seq.{sets, take_all, length-take-le}
use lib.Ieee.{binary64}
use lib.Ieee.Bits.{of_bits-fits}
use Rattle.wire.specs.Wire.{number}
use Rattle.wire.proofs.Pairs.{both}
use Rattle.refusal.specs.Refusal.{refusal_number}
use Rattle.import.specs.declared.NewRecord.{NewRecord}
use Rattle.import.specs.Import.{old_record, take_over, bytes_of, new_bytes, import_record, imported}
use Rattle.import_laws.specs.Moved.{Moved}
use Rattle.import_laws.proofs.Kept.{kept}
use Rattle.import_laws.proofs.Written.{in_range_lem, read_back, room_is}
use Rattle.hex_digits.specs.Hex.{hex}
use Rattle.text.proofs.Each.{Each, none, more, append, weaken}
use Rattle.lines.proofs.Decimal.{IsDigit}
use Rattle.text.proofs.Fields.{Plain}
use Rattle.hex_digits.proofs.Bytes.{hex-plain}
use Rattle.lines.proofs.Fields.{OneLine, one_line}
use Rattle.hex_digits.proofs.Bytes as Hex
use Rattle.readback.specs.WellFormed.{octet}
use Rattle.readback.specs.Fields.{are_digits, is_unpadded, value_in}
use Rattle.readback.proofs.Words.{reads_words, are-digits, one_more_lem, other, Says, spells}
use Rattle.imports.specs.declared.Answered.{Answered}
use Rattle.spelling.proofs.Shown.{small}
use Rattle.imports.specs.Imports.{digits_of, numeral, import_line, record_line, records_in, lines_in, imports_from, imports_of, fits, answered, room_after}
use Rattle.imports.proofs.Lines.{in_pieces}
use Rattle.printout.specs.Text.{lines_read, Holds}
use Rattle.printout.specs.Records.{Whole, records_with, last_of, Told, is_zero, told_in, all_told, tells, tells_of, all_tell, Recorded}
use Rattle.printout.proofs.Text.{line_first, held}
use Rattle.std.specs.Prelude.{Err, None, Ok, Option, Result, Some}
use Rattle.refusal.specs.declared.Refusal.{Refusal}

-- ---- a number

last : (n : ℕ) → Each IsDigit ((48 + n % 10) ∷ [])
last n = more {a = 48 + n % 10} (omega arith, omega arith) none

digits : (most n : ℕ) → Each IsDigit (digits_of most n)
unfolding digits_of
digits zero n = none
digits (suc most) n = by (digits most (n / 10)) (ltb n 10) where
  by : Each IsDigit (digits_of most (n / 10)) → (b : Bool) → Each IsDigit (cond b [] (digits_of most (n / 10)) ++ (48 + n % 10) ∷ [])
  by r true = last n
  by r false = append r (last n)

-- its first digit is no zero
record Begins (s : List ℕ) : Type 0 where
  first : ℕ
  rest : List ℕ
  is : s ≡ first ∷ rest
  not_zero : first ≡ 48 → ⊥

begins : (most n : ℕ) → 1 ≤ n → n < 10 ^ most → Begins (digits_of most n)
unfolding digits_of
begins zero n some few = let one : 10 ^ 0 ≡ 1 = refl in absurd (omega arith)
begins (suc most) n some few = by (begins most (n / 10)) (ltb n 10) refl where
  by : (1 ≤ n / 10 → n / 10 < 10 ^ most → Begins (digits_of most (n / 10))) → (b : Bool) → ltb n 10 ≡ b
      → Begins (cond b [] (digits_of most (n / 10)) ++ (48 + n % 10) ∷ [])
  by front true e =
      let one = ltb-true n 10 e in
      record { first = 48 + n % 10; rest = []; is = refl; not_zero = λ z. omega arith }
  by front false e =
      let many = ltb-false n 10 e in
      let f = front (omega arith) (omega (arith, pow-suc 10 most)) in
      record { first = f.first; rest = f.rest ++ (48 + n % 10) ∷ []; is = rw f.is; not_zero = f.not_zero }

reads : (most n : ℕ) → n < 10 ^ most → value_in (digits_of most n) ≡ n
unfolding digits_of value_in
reads zero n few = let one : 10 ^ 0 ≡ 1 = refl in omega arith
reads (suc most) n few = by (reads most (n / 10)) (ltb n 10) refl where
  by : (n / 10 < 10 ^ most → value_in (digits_of most (n / 10)) ≡ n / 10) → (b : Bool) → ltb n 10 ≡ b
      → value_in (cond b [] (digits_of most (n / 10)) ++ (48 + n % 10) ∷ []) ≡ n
  by front true e = let one = ltb-true n 10 e in omega arith
  by front false e =
      let f = front (omega (arith, pow-suc 10 most)) in
      one_more_lem (digits_of most (n / 10)) (n % 10) ∙ omega arith

unpadded : (most n : ℕ) → n < 10 ^ suc most → is_unpadded (digits_of (suc most) n) ≡ true
unfolding digits_of
unpadded most n few = by (ltb n 10) refl where
  by : (b : Bool) → ltb n 10 ≡ b → is_unpadded (cond b [] (digits_of most (n / 10)) ++ (48 + n % 10) ∷ []) ≡ true
  by true e = refl
  by false e =
      let many = ltb-false n 10 e in
      let f = begins most (n / 10) (omega arith) (omega (arith, pow-suc 10 most)) in
      rw f.is (other f.first (f.rest ++ (48 + n % 10) ∷ []) f.not_zero)

says : (n : ℕ) → n < 10 ^ 20 → Says n (numeral n)
says n few = record { good = rw (are-digits (digits 20 n)) (unpadded 19 n few); value = reads 20 n few }

numeral-plain : (n : ℕ) → Plain (numeral n)
numeral-plain n = weaken (λ b h. omega (arith, h.0)) (digits 20 n)

numeral-size : (most n : ℕ) → length (digits_of most n) ≤ most
unfolding digits_of
numeral-size zero n = omega arith
numeral-size (suc most) n = by (numeral-size most (n / 10)) (ltb n 10) where
  by : length (digits_of most (n / 10)) ≤ most → (b : Bool) → length (cond b [] (digits_of most (n / 10)) ++ (48 + n % 10) ∷ []) ≤ suc most
  by h true = omega arith
  by h false = simp length-append (omega arith)

-- ---- the bytes of a new record

abbrev Octet : ℕ → Type 0
Octet b = b < 256

octets_of : {s : List ℕ} → Each Octet s → (i : ℕ) → octet s i < 256
octets_of none i = omega arith
octets_of (more h r) zero = h
octets_of (more h r) (suc i) = octets_of r i

number-octets : (number n : ℕ) → Each Octet (bytes_of number n)
unfolding bytes_of
number-octets number zero = none
number-octets number (suc n) = append (number-octets (number / 256) n) (more {a = number % 256} (omega arith) none)

new-octets : (new : NewRecord) → new.conversion.shift < 256 → Each Octet (new_bytes new)
unfolding new_bytes
new-octets new h =
    append
    (append (append (number-octets new.conversion.from 2) (number-octets new.conversion.to 2)) (number-octets new.conversion.digits 2))
    (more {a = new.conversion.shift} h (number-octets new.mta.0 8))

zero_octets : (n : ℕ) → Each Octet (replicate n 0)
zero_octets zero = none
zero_octets (suc n) = more {a = 0} (omega arith) (zero_octets n)

abbrev zeros : List ℕ
zeros = replicate 15 0

module _ (old : List ℕ) (done : import_record old zeros ≡ Ok tt) where
  abbrev new : List ℕ
  new = imported old zeros

  new-size : length new ≡ 15
  new-size = (read_back old zeros done).size

  each-octet : Each Octet new
  each-octet = by (take_over (old_record old)) refl where
    by : (taken : Result NewRecord Refusal) → take_over (old_record old) ≡ taken → Each Octet new
    by (Err refusal) t = unfold imported in rw (done, t) (zero_octets 15)
    by (Ok record-new) t =
        let m : Moved (old_record old) record-new =
        (unfold old_record in kept (old_record old) record-new (of_bits-fits binary64 (number old 4 8)) (of_bits-fits binary64 (number old 12 8)) t) in
        let range = in_range_lem m.taken in
        rw (room_is old zeros record-new done t) (append (new-octets record-new (omega (arith, range.bound))) none)

  octets : (i : ℕ) → octet new i < 256
  octets = octets_of each-octet

-- ---- a line

zero_word : is_zero (48 ∷ []) ≡ true
unfolding are_digits value_in
zero_word = refl

module _ (number : ℕ) (old : List ℕ) where
  abbrev its : List ℕ
  its = imported old zeros

  taken-plain : Each Plain (numeral number ∷ (48 ∷ []) ∷ hex its ∷ [])
  taken-plain = more (numeral-plain number) (more (more {a = 48} (omega arith) none) (more (hex-plain its) none))

  refused-plain : (n : ℕ) → Each Plain (numeral number ∷ numeral n ∷ [])
  refused-plain n = more (numeral-plain number) (more (numeral-plain n) none)

  line-short : (answer : Result Unit Refusal) → import_record old zeros ≡ answer → length (import_line number answer its) ≤ 54
  line-short (Ok done) e = simp length-append (omega (arith, numeral-size 20 number, Hex.size its, new-size old e))
  line-short (Err refusal) e = simp length-append (omega (arith, numeral-size 20 number, numeral-size 20 (refusal_number refusal)))

  record_short : length (record_line number old) ≤ 54
  unfolding record_line
  record_short = line-short (import_record old zeros) refl

  record_line_lem : OneLine (record_line number old)
  unfolding record_line
  record_line_lem = by (import_record old zeros) refl where
    by : (answer : Result Unit Refusal) → import_record old zeros ≡ answer → OneLine (import_line number answer its)
    by (Ok done) e = one_line _ _ taken-plain (omega (arith, line-short (Ok tt) e))
    by (Err refusal) e = one_line _ _ (refused-plain (refusal_number refusal)) (omega (arith, line-short (Err refusal) e))

  -- A RECORD'S LINE TELLS ITS NUMBER, AND 0 AND THE NEW RECORD'S BYTES OR THE REFUSAL
  pub record_told : number < 10 ^ 20 → told_in (record_line number old) ≡ tells_of number old
  unfolding record_line told_in
  record_told few = by (import_record old zeros) refl where
    by : (answer : Result Unit Refusal) → import_record old zeros ≡ answer → told_in (import_line number answer its) ≡ tells number answer its
    by (Ok done) e =
        let n = says number few in
        let h = spells its (octets old e) in
        rw (reads_words (numeral number) ((48 ∷ []) ∷ hex its ∷ []) taken-plain, n.good, zero_word, h.good, n.value, h.bytes)
    by (Err refusal) e =
        let n = says number few in
        let r = says (refusal_number refusal) (omega (arith, small refusal)) in
        let words = reads_words (numeral number) (numeral (refusal_number refusal) ∷ []) (refused-plain (refusal_number refusal)) in
        rw (words, n.good, r.good, n.value, r.value)

-- ---- all lines

one_record : (number : ℕ) (old rest : List ℕ) → Whole old → imports_from number (old ++ rest) ≡ record_line number old ++ imports_from (number + 1) rest
unfolding imports_from lines_in
one_record number old rest w =
    let one : records_in (length old) ≡ 1 = rw w in
    in_pieces 1 number old rest w
    ∙ rw one (ap (λ (t : List ℕ). t ++ imports_from (number + 1) rest)
    (append-nil (record_line number (take 20 old)) ∙ ap (record_line number) (take_all 20 old (omega arith))))

one_left : (number b : ℕ) (rest : List ℕ) → length rest < 19 → imports_from number (b ∷ rest) ≡ record_line number (b ∷ rest)
unfolding imports_from lines_in
one_left number b rest short =
    let one : records_in (length (b ∷ rest)) ≡ 1 = omega arith in
    rw one (append-nil (record_line number (take 20 (b ∷ rest))) ∙ ap (record_line number) (take_all 20 (b ∷ rest) (omega arith)))

line-told : (number : ℕ) (old text : List ℕ) → number < 10 ^ 20
    → all_told (lines_read (record_line number old ++ text)) ≡ tells_of number old ∷ all_told (lines_read text)
unfolding all_told
line-told number old text few =
    ap all_told (line_first (record_line number old) text (record_line_lem number old).fed)
    ∙ ap (λ (t : Told). t ∷ all_told (lines_read text)) (record_told number old few)

lines-told : (number : ℕ) {olds : List (List ℕ)} → Each Whole olds → (rest : List ℕ) → length rest < 20 → number + length olds < 10 ^ 20
    → all_told (lines_read (imports_from number (records_with olds ++ rest))) ≡ all_tell number (olds ++ last_of rest)
unfolding records_with all_told all_tell lines_read imports_from lines_in
lines-told number none [] short few = refl
lines-told number none (b ∷ rest) short few =
    let line = record_line number (b ∷ rest) in
    ap (λ (t : List ℕ). all_told (lines_read t)) (one_left number b rest (omega arith) ∙ sym (append-nil line))
    ∙ line-told number (b ∷ rest) [] (omega arith)
lines-told number (more {a = old} {s = olds} w r) rest short few =
    let behind = records_with olds ++ rest in
    ap (λ (s : List ℕ). all_told (lines_read (imports_from number s))) (append_assoc old (records_with olds) rest)
    ∙ ap (λ (t : List ℕ). all_told (lines_read t)) (one_record number old behind w)
    ∙ line-told number old (imports_from (number + 1) behind) (omega arith)
    ∙ ap (λ (l : List Told). tells_of number old ∷ l) (lines-told (number + 1) r rest short (omega arith))

-- THE TEXT OF OLD RECORDS: a line for each, in order, numbered from 1, the last perhaps cut short; and nothing more
pub records-told : {olds : List (List ℕ)} → Each Whole olds → (rest : List ℕ) → length rest < 20 → 1 + length olds < 10 ^ 20
    → all_told (lines_read (imports_of (records_with olds ++ rest))) ≡ all_tell 1 (olds ++ last_of rest)
records-told r rest short few = lines-told 1 r rest short few

-- ---- every input

abbrev Every : ℕ → Type 0
Every n = (input : List ℕ) → length input ≤ n → Recorded input

first_of : (n : ℕ) → Every n → (input : List ℕ) → length input ≤ suc n → Recorded input
unfolding records_with
first_of n every input h = by (ltb (length input) 20) refl where
  by : (b : Bool) → ltb (length input) 20 ≡ b → Recorded input
  by true e = record { olds = []; whole = none; rest = input; short = ltb-true (length input) 20 e; is = refl }
  by false e =
      let many = ltb-false (length input) 20 e in
      let more_of = every (drop 20 input) (omega (arith, length-drop 20 input)) in
      let old = take 20 input in
      record {
        olds = old ∷ more_of.olds;
        whole = more (length-take-le 20 input many) more_of.whole;
        rest = more_of.rest;
        short = more_of.short;
        is =
            sym (take-append-drop 20 input)
            ∙ ap (λ (s : List ℕ). old ++ s) more_of.is
            ∙ sym (append_assoc old (records_with more_of.olds) more_of.rest);
      }

nothing_left : Every 0
unfolding records_with
nothing_left input h = record { olds = []; whole = none; rest = input; short = omega arith; is = refl }

every_in : (n : ℕ) → Every n
every_in zero = nothing_left
every_in (suc n) = first_of n (every_in n)

-- EVERY INPUT IS SO MANY RECORDS AND FEWER BYTES THAN ONE
pub every_input : (input : List ℕ) → Recorded input
every_input input = every_in (length input) input (omega arith)

-- ---- the room

lines-short : (n number : ℕ) (input : List ℕ) → length (lines_in n number input) ≤ 54 * n
unfolding lines_in
lines-short zero number input = omega arith
lines-short (suc n) number input =
    simp length-append (omega (arith, record_short number (take 20 input), lines-short n (number + 1) (drop 20 input)))

text-short : (number : ℕ) (input : List ℕ) → length (imports_from number input) ≤ 54 * records_in (length input)
unfolding imports_from
text-short number input = lines-short (records_in (length input)) number input

end_of : Option Answered → ℕ
end_of (Some answered) = answered.end
end_of None = 0

module _ (number : ℕ) (input room : List ℕ) where
  -- THE ROOM HOLDS THE LINES, AND ALL ELSE STAYS
  pub records-hold : (end next : ℕ) → answered number input (length room) ≡ Some (record { end = end; next = next })
      → Holds room 0 end (lines_read (imports_from number input)) (room_after number input room)
  unfolding answered room_after end_of
  records-hold end next = by (fits number (length room) (length input)) refl where
    text : List ℕ
    text = imports_from number input

    by : (b : Bool) → fits number (length room) (length input) ≡ b
        → cond {A = Option Answered} b (Some (record { end = length text; next = number + records_in (length input) })) None ≡ Some (record { end = end; next = next })
        → Holds room 0 end (lines_read text) (cond b (sets room 0 text) room)
    by false e w = absurd (let z : ◌≡◌ {A = ℕ} 0 1 = cc in omega arith)
    by true e w =
        let records = records_in (length input) in
        let same : length text ≡ end = ap end_of w in
        let ends : 0 + length text ≡ end = omega arith in
        let asked = leb-true (54 * records) (length room) (both (leb (54 * records) (length room)) (leb (number + records) 18446744073709551615) e).0 in
        let there = held room text 0 (omega (arith, text-short number input)) in
        subst (λ (k : ℕ). Holds room 0 k (lines_read text) (sets room 0 text)) ends there
