-- A log's line is one line: no line feed is in it but its last byte. Assumes nothing.
use mathlib.Core.Bool.{Bool, true, false, cond}
use mathlib.Core.List.{List, []}
use Prim.Native.Nat.{ℕ, zero, suc, ◌+◌, ◌/◌, ◌%◌}
use native.Mathlib.Omega.{arith}
use lib.Dec.{ltb}
use Rattle.text.proofs.Each.{none, more, append}
use Rattle.text.proofs.Fields.{Plain, Fed, fed_line}
use Rattle.hex_digits.proofs.Bytes.{hex-plain}
use Rattle.numerals.specs.Numeral.{digits_of, numeral}
use Rattle.ring.specs.declared.Record.{Record}
use Rattle.log_fields.specs.declared.Form.{Form}
use Rattle.log_fields.specs.LogFields.{field_count, field_in}
use Rattle.log_values.specs.LogValues.{purchase_text, answer_text}
use Rattle.log_lines.specs.LogLines.{field_texts, fields_text, values_text, log_line, word}

digits-plain : (most n : ℕ) → Plain (digits_of most n)
unfolding digits_of
digits-plain zero n = none
digits-plain (suc most) n = append (by (ltb n 10) (digits-plain most (n / 10))) (more {a = 48 + n % 10} (omega arith) none) where
  by : (b : Bool) {tens : List ℕ} → Plain tens → Plain (cond b [] tens)
  by true p = none
  by false p = p

pub numeral-plain : (n : ℕ) → Plain (numeral n)
unfolding numeral
numeral-plain n = digits-plain 20 n

word-plain : Plain word
word-plain = more {a = 108} (omega arith) (more {a = 111} (omega arith) (more {a = 103} (omega arith) none))

module _ (paper tail : List ℕ) (form : Form) (kept : Record) where
  fields-plain : (n : ℕ) → Plain (field_texts paper tail form kept n)
  unfolding field_texts
  fields-plain zero = none
  fields-plain (suc i) = append (fields-plain i) (hex-plain (field_in paper tail form kept i))

  values-plain : Plain (values_text paper tail form kept)
  unfolding values_text purchase_text answer_text fields_text
  values-plain =
      append (append (hex-plain _) (append (hex-plain _) (hex-plain _)))
      (append (append (hex-plain _) (append (hex-plain _) (hex-plain _))) (fields-plain (field_count tail form kept)))

  pub line_fed : (k : ℕ) → Fed (log_line k paper tail form kept)
  unfolding log_line
  line_fed k = fed_line word _ (more word-plain (more (numeral-plain k) (more values-plain none)))
