use mathlib.Core.Path.{◌≡◌, sym, ap, ◌∙◌}
use mathlib.Core.Bool.{true, false}
use Prim.Native.Nat.{ℕ, ◌+◌}
use native.Mathlib.Omega.{arith}
use Rattle.words.proofs.Puts.{nothing, next}
use Rattle.lexing.specs.Places.{words_at, next_word, after_word, next_line}
use Rattle.forms.specs.Form as F
use Rattle.forms.specs.Grammar.{form_in}
use Rattle.forms.specs.Table.{fields_in, widths}
use Rattle.walk.specs.Walk.{ends_table, table_at}
use Rattle.walk.proofs.Tables.{in_table, next-moves}
use Rattle.put_forms.proofs.Lines.{form, fields-none, size_none, fields-text, fields-size}
use Rattle.put_forms.proofs.+put_fields.Goals as goal

pub returns-then-ends_table : goal.returns-then-ends_table
returns-then-ends_table t c =
    let a = c.args in
    let g = a.grammar.now in
    let s = a.bytes.now in
    let t = a.table in
    let end : ends_table g t ≡ true = sym c.ends_table.ensures ∙ c.if-ends_table.true in
    record { put = rw (fields-none g t a.indent s end) (nothing _ _); taken = sym (size_none g t end); small = omega arith }

pub put_fields-others-requires : goal.put_fields-others-requires
put_fields-others-requires t c =
    let a = c.args in
    let g = a.grammar.now in
    let s = a.bytes.now in
    let t = a.table in
    let on : ends_table g t ≡ false = sym c.ends_table.ensures ∙ c.if-ends_table.false in
    let (inside, _) = in_table g t on in
    let moves = next-moves g t inside in
    let is = c.next_line-below.ensures in
    (omega arith, tt)

pub overflow_add-result : goal.overflow_add-result
overflow_add-result t c =
    let a = c.args in
    let g = a.grammar.now in
    let s = a.bytes.now in
    let t = a.table in
    let few = c.width-count.ensures.small in
    let small = c.put_fields-others.ensures.small in
    record { fits = omega arith }

pub returns : goal.returns
returns t c =
    let a = c.args in
    let g = a.grammar.now in
    let s = a.bytes.now in
    let t = a.table in
    let on : ends_table g t ≡ false = sym c.ends_table.ensures ∙ c.if-ends_table.false in
    let place : c.after_word.result ≡ after_word g (next_word g t) = c.after_word.ensures ∙ ap (after_word g) c.next_word-key.ensures in
    let count : c.width-count.result ≡ F.width (form g t) = c.width-count.ensures.is ∙ ap (λ (k : ℕ). F.width (form_in (words_at g k))) place in
    let is = c.next_line-below.ensures in
    let told = c.put_fields-others.ensures in
    let size : c.put_fields-others.result.taken ≡ widths (fields_in (table_at g (next_line g t))) = told.taken ∙ ap (λ (k : ℕ). widths (fields_in (table_at g k))) is in
    let whole = fields-size g t c.width-count.result on count in
    let (inside, _) = in_table g t on in
    let moves = next-moves g t inside in
    let few = c.width-count.ensures.small in
    let small = told.small in
    record {
      put = rw (fields-text g t a.indent s c.width-count.result on count, ← c.bytes_behind.ensures, ← is) (next c.put_field-end.ensures told.put);
      taken = ap (λ (k : ℕ). c.width-count.result + k) size ∙ sym whole;
      small = omega arith;
    }
