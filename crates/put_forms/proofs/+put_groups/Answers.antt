use mathlib.Core.Path.{◌≡◌, sym, ap, ◌∙◌}
use Prim.Native.Nat.{ℕ, ◌+◌}
use native.Mathlib.Omega.{arith}
use Rattle.words.proofs.Puts.{nothing, next}
use Rattle.lexing.specs.Places.{words_at, next_word, after_word}
use Rattle.forms.specs.Form as F
use Rattle.forms.specs.Grammar.{form_in}
use Rattle.forms.specs.Table.{fields_in, widths}
use Rattle.walk.specs.Walk.{table_at}
use Rattle.put_forms.proofs.Lines.{form, below, breadth-is, groups_none, groups_text, groups_size, no_groups}
use Rattle.put_forms.proofs.+put_groups.Goals as goal

pub returns-then-count-eq0 : goal.returns-then-count-eq0
returns-then-count-eq0 t c =
    let a = c.args in
    let g = a.grammar.now in
    let s = a.bytes.now in
    let t = a.table in
    record { put = rw (groups_none g t a.indent a.count s c.if-count-eq0.true) (nothing _ _); taken = sym (no_groups g t a.count c.if-count-eq0.true); small = omega arith }

pub overflow_add-breadth : goal.overflow_add-breadth
overflow_add-breadth t c =
    let a = c.args in
    let g = a.grammar.now in
    let s = a.bytes.now in
    let t = a.table in
    let few = c.width-head.ensures.small in
    let small = c.put_fields-fields.ensures.small in
    record { fits = omega arith }

pub put_groups-others-requires : goal.put_groups-others-requires
put_groups-others-requires t c =
    let a = c.args in
    let g = a.grammar.now in
    let s = a.bytes.now in
    let t = a.table in
    let more = c.if-count-eq0.false in
    (omega arith, tt)

pub overflow_add-result : goal.overflow_add-result
overflow_add-result t c =
    let a = c.args in
    let g = a.grammar.now in
    let s = a.bytes.now in
    let t = a.table in
    let few = c.width-head.ensures.small in
    let small = c.put_fields-fields.ensures.small in
    let rest = c.put_groups-others.ensures.small in
    record { fits = omega arith }

pub returns : goal.returns
returns t c =
    let a = c.args in
    let g = a.grammar.now in
    let s = a.bytes.now in
    let t = a.table in
    let place : c.after_word.result ≡ after_word g (next_word g t) = c.after_word.ensures ∙ ap (after_word g) c.next_word-key.ensures in
    let head = c.width-head.result in
    let count : head ≡ F.width (form g t) = c.width-head.ensures.is ∙ ap (λ (k : ℕ). F.width (form_in (words_at g k))) place in
    let is = c.next_line-below.ensures in
    let told = c.put_fields-fields.ensures in
    let more = c.put_fields-fields.result.taken in
    let size : more ≡ widths (below g t) = told.taken ∙ ap (λ (k : ℕ). widths (fields_in (table_at g k))) is in
    let whole = groups_size g t a.count (head + more) c.if-count-eq0.false (breadth-is g t head more count size) in
    let last = c.put_groups-others.ensures in
    let few = c.width-head.ensures.small in
    let few-fields = told.small in
    let few-others = last.small in
    record {
      put =
          rw (groups_text g t a.indent a.count s head more c.if-count-eq0.false count size, ← c.bytes_behind.ensures, ← c.bytes_behind-2.ensures, ← is)
          (next c.put_line-end.ensures (next told.put last.put));
      taken = ap (λ (k : ℕ). head + more + k) last.taken ∙ sym whole;
      small = omega arith;
    }
