-- No line is longer than the longest. Assumes nothing.
use mathlib.Core.Path.{◌≡◌, refl, ◌∙◌}
use mathlib.Core.Bool.{Bool, true, false, cond}
use mathlib.Core.List.{List, [], ◌∷◌, ◌++◌}
use Prim.Native.Nat.{ℕ, zero, suc, ◌*◌, ◌/◌, ◌%◌, ◌≤◌, ◌<◌}
use native.Mathlib.Omega.{arith}
use lib.Dec.{eqb}
use lib.ListN.{length, length-append}
use Rattle.wire.specs.Wire.{byte, number}
use Rattle.iad.specs.Iad.{pairs_of}
use Rattle.hex_digits.specs.Hex.{hex}
use Rattle.hex_digits.proofs.Bytes as Hex
use Rattle.numerals.specs.Numeral.{numeral}
use Rattle.numerals.proofs.Numerals.{size_below}
use Rattle.log_tail.specs.LogTail.{switches_in}
use Rattle.ring.specs.declared.Record.{Record}
use Rattle.log_fields.specs.declared.Form.{Form}
use Rattle.log_fields.specs.LogFields.{first_data, field_count, field_in}
use Rattle.log_fields.proofs.Lengths.{field-short}
use Rattle.log_bytes.specs.LogBytes.{octets, date_bytes}
use Rattle.log_values.specs.LogValues.{purchase_text, if_on, answer_text}
use Rattle.log_lines.specs.LogLines.{field_texts, fields_text, values_text, log_line, longest}

date-size : (first : List ℕ) (dated : Bool) → length (date_bytes first dated) ≡ 3
date-size first true = refl
date-size first false = refl

amount-size : (amount : ℕ) → length (pairs_of amount 6) ≡ 6
unfolding pairs_of
amount-size amount = refl

purchase-size : (first : List ℕ) (dated : Bool) → length (purchase_text first dated) ≡ 22
unfolding purchase_text
purchase-size first dated =
    let amount = pairs_of (number first 1 8) 6 in
    let currency = byte first 9 ∷ byte first 10 ∷ [] in
    let date = date_bytes first dated in
    length-append (hex amount) (hex currency ++ hex date)
    ∙ omega (
      arith,
      length-append (hex currency) (hex date),
      Hex.size amount,
      Hex.size currency,
      Hex.size date,
      amount-size (number first 1 8),
      date-size first dated,
    )

five : (n : ℕ) → length (octets 5 n) ≡ 5
unfolding octets
five n = refl

two : (n : ℕ) → length (octets 2 n) ≡ 2
unfolding octets
two n = refl

one : (n : ℕ) → length (octets 1 n) ≡ 1
unfolding octets
one n = refl

if_on_lem : (switches switch : ℕ) (bytes : List ℕ) → length (if_on switches switch bytes) ≤ length bytes
if_on_lem switches switch bytes = by (eqb (switches / switch % 2) 1) where
  by : (b : Bool) → length (cond b bytes []) ≤ length bytes
  by true = omega arith
  by false = omega arith

answer-size : (switches : ℕ) (kept : Record) → length (answer_text switches kept) ≤ 16
unfolding answer_text
answer-size switches kept =
    let cvr = if_on switches 0x04 (octets 5 kept.cvr) in
    let atc = if_on switches 0x10 (octets 2 kept.atc) in
    let cid = if_on switches 0x08 (octets 1 kept.cid) in
    omega (
      arith,
      length-append (hex cvr) (hex atc ++ hex cid),
      length-append (hex atc) (hex cid),
      Hex.size cvr,
      Hex.size atc,
      Hex.size cid,
      if_on_lem switches 0x04 (octets 5 kept.cvr),
      if_on_lem switches 0x10 (octets 2 kept.atc),
      if_on_lem switches 0x08 (octets 1 kept.cid),
      five kept.cvr,
      two kept.atc,
      one kept.cid,
    )

module _ (paper tail : List ℕ) (form : Form) (kept : Record) where
  fields-size : (n : ℕ) → length (field_texts paper tail form kept n) ≤ 48 * n
  unfolding field_texts
  fields-size zero = omega arith
  fields-size (suc i) =
      let field = field_in paper tail form kept i in
      omega (
        arith,
        length-append (field_texts paper tail form kept i) (hex field),
        fields-size i,
        Hex.size field,
        field-short paper tail form kept i,
      )

  -- k is a byte, and so is the number of a table's entries
  pub line-short : (k : ℕ) → k < 256 → field_count tail form kept < 256 → length (log_line k paper tail form kept) ≤ longest
  unfolding values_text fields_text log_line
  line-short k h few =
      let purchase = purchase_text (first_data paper form kept) form.dated in
      let answer = answer_text (switches_in tail) kept in
      let fields = field_texts paper tail form kept (field_count tail form kept) in
      let values = purchase ++ (answer ++ fields) in
      omega (
        arith,
        length-append (numeral k ++ 32 ∷ []) (values ++ 10 ∷ []),
        length-append (numeral k) (32 ∷ []),
        length-append values (10 ∷ []),
        length-append purchase (answer ++ fields),
        length-append answer fields,
        size_below k 2 (omega arith),
        purchase-size (first_data paper form kept) form.dated,
        answer-size (switches_in tail) kept,
        fields-size (field_count tail form kept),
      )
