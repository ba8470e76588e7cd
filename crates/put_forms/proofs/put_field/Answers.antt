use mathlib.Core.Path.{◌≡◌, sym, ap, ◌∙◌}
use mathlib.Core.Bool.{true, false}
use Prim.Native.Nat.{ℕ}
use Rattle.words.proofs.Puts.{nothing}
use Rattle.lexing.specs.Places.{words_at, next_word, after_word}
use Rattle.forms.specs.Form.{said, is_blank}
use Rattle.forms.specs.Grammar.{form_in}
use Rattle.put_forms.proofs.Lines.{form, no_line, one_line}
use Rattle.put_forms.proofs.put_field.Goals as goal

pub returns-then-is_blank : goal.returns-then-is_blank
returns-then-is_blank c =
    let a = c.args in
    let g = a.grammar.now in
    let s = a.bytes.now in
    let place : c.after_word.result ≡ after_word g (next_word g a.row) = c.after_word.ensures ∙ ap (after_word g) c.next_word-key.ensures in
    let is : is_blank (said (form g a.row) s 0) ≡ true = ap (λ (t : ℕ). is_blank (said (form_in (words_at g t)) s 0)) (sym place) ∙ sym c.is_blank.ensures ∙ c.if-is_blank.true in
    rw (no_line g a.row a.indent s is) (nothing _ _)

pub returns : goal.returns
returns c =
    let a = c.args in
    let g = a.grammar.now in
    let s = a.bytes.now in
    let place : c.after_word.result ≡ after_word g (next_word g a.row) = c.after_word.ensures ∙ ap (after_word g) c.next_word-key.ensures in
    let is : is_blank (said (form g a.row) s 0) ≡ false = ap (λ (t : ℕ). is_blank (said (form_in (words_at g t)) s 0)) (sym place) ∙ sym c.is_blank.ensures ∙ c.if-is_blank.false in
    rw (one_line g a.row a.indent s is) c.put_line.ensures
