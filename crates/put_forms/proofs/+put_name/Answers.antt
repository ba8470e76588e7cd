use mathlib.Core.Path.{◌≡◌, sym, ap, ◌∙◌}
use mathlib.Core.Bool.{true, false}
use native.Mathlib.Omega.{arith}
use Rattle.words.specs.Words.{word}
use Rattle.numerals.specs.Numeral.{numeral}
use Rattle.lexing.specs.Places.{next_word, after_word}
use Rattle.lexing.specs.Names.{is_name}
use Rattle.put_forms.proofs.Laws.{names-on, named_none, named_here, named-on}
use Rattle.put_forms.proofs.+put_name.Goals as goal

pub returns-then-not-is_name : goal.returns-then-not-is_name
returns-then-not-is_name t c =
    let g = c.args.grammar.now in
    let t = c.args.t in
    let is : is_name (word "]") g (next_word g t) ≡ false = ap (is_name (word "]") g) (sym c.next_word-name.ensures) ∙ sym c.is_name.ensures ∙ c.if-not-is_name.true in
    let a = c.args in
    rw (named_none (word "]") g t a.n (numeral a.byte) is) (rw c.wide.ensures.0 at c.put_decimal.ensures)

pub returns-then-n-eq0 : goal.returns-then-n-eq0
returns-then-n-eq0 t c =
    let g = c.args.grammar.now in
    let t = c.args.t in
    let is : is_name (word "]") g (next_word g t) ≡ true = ap (is_name (word "]") g) (sym c.next_word-name.ensures) ∙ sym c.is_name.ensures ∙ c.if-not-is_name.false in
    let a = c.args in
    rw (named_here (word "]") g t a.n (numeral a.byte) is c.if-n-eq0.true, ← c.next_word-name.ensures) c.put_same.ensures

pub put_name-requires : goal.put_name-requires
put_name-requires t c =
    let g = c.args.grammar.now in
    let t = c.args.t in
    let is : is_name (word "]") g (next_word g t) ≡ true = ap (is_name (word "]") g) (sym c.next_word-name.ensures) ∙ sym c.is_name.ensures ∙ c.if-not-is_name.false in
    let on = names-on (word "]") g t is in
    let name = c.next_word-name.ensures in
    let next : c.after_word.result ≡ after_word g (next_word g t) = c.after_word.ensures ∙ ap (after_word g) name in
    (omega arith, tt)

pub returns : goal.returns
returns t c =
    let g = c.args.grammar.now in
    let t = c.args.t in
    let is : is_name (word "]") g (next_word g t) ≡ true = ap (is_name (word "]") g) (sym c.next_word-name.ensures) ∙ sym c.is_name.ensures ∙ c.if-not-is_name.false in
    let a = c.args in
    let next : c.after_word.result ≡ after_word g (next_word g t) = c.after_word.ensures ∙ ap (after_word g) c.next_word-name.ensures in
    rw (named-on (word "]") g t a.n (numeral a.byte) is c.if-n-eq0.false, ← next) c.put_name.ensures
