use mathlib.Core.Path.{◌≡◌, sym, ap, ◌∙◌}
use mathlib.Core.Bool.{true, false}
use native.Mathlib.Omega.{arith}
use Rattle.words.specs.Words.{word}
use Rattle.words.proofs.Puts.{nothing, next}
use Rattle.lexing.specs.Places.{next_word, after_word}
use Rattle.lexing.specs.Names.{is_name}
use Rattle.put_forms.proofs.Laws.{names-on, flags-none, flags-off, flags-on}
use Rattle.put_forms.proofs.+put_names.Goals as goal

pub returns-then-not-is_name : goal.returns-then-not-is_name
returns-then-not-is_name t c =
    let g = c.args.grammar.now in
    let t = c.args.t in
    let is : is_name (word "}") g (next_word g t) ≡ false = ap (is_name (word "}") g) (sym c.next_word-name.ensures) ∙ sym c.is_name.ensures ∙ c.if-not-is_name.true in
    rw (flags-none (word "}") g t c.args.bits is) (nothing _ _)

pub put_names-requires : goal.put_names-requires
put_names-requires t c =
    let g = c.args.grammar.now in
    let t = c.args.t in
    let is : is_name (word "}") g (next_word g t) ≡ true = ap (is_name (word "}") g) (sym c.next_word-name.ensures) ∙ sym c.is_name.ensures ∙ c.if-not-is_name.false in
    let less = names-on (word "}") g t is in
    let next : c.after_word-next.result ≡ after_word g (next_word g t) = c.after_word-next.ensures ∙ ap (after_word g) c.next_word-name.ensures in
    (omega arith, tt)

pub returns-then-bits-ne1 : goal.returns-then-bits-ne1
returns-then-bits-ne1 t c =
    let g = c.args.grammar.now in
    let t = c.args.t in
    let is : is_name (word "}") g (next_word g t) ≡ true = ap (is_name (word "}") g) (sym c.next_word-name.ensures) ∙ sym c.is_name.ensures ∙ c.if-not-is_name.false in
    let next : c.after_word-next.result ≡ after_word g (next_word g t) = c.after_word-next.ensures ∙ ap (after_word g) c.next_word-name.ensures in
    rw (flags-off (word "}") g t c.args.bits is c.if-bits-ne1.true, ← next) c.put_names.ensures

pub put_names-requires-2 : goal.put_names-requires-2
put_names-requires-2 t c =
    let g = c.args.grammar.now in
    let t = c.args.t in
    let is : is_name (word "}") g (next_word g t) ≡ true = ap (is_name (word "}") g) (sym c.next_word-name.ensures) ∙ sym c.is_name.ensures ∙ c.if-not-is_name.false in
    let less = names-on (word "}") g t is in
    let next : c.after_word-next.result ≡ after_word g (next_word g t) = c.after_word-next.ensures ∙ ap (after_word g) c.next_word-name.ensures in
    (omega arith, tt)

pub returns : goal.returns
returns t c =
    let g = c.args.grammar.now in
    let t = c.args.t in
    let is : is_name (word "}") g (next_word g t) ≡ true = ap (is_name (word "}") g) (sym c.next_word-name.ensures) ∙ sym c.is_name.ensures ∙ c.if-not-is_name.false in
    let next-name : c.after_word-next.result ≡ after_word g (next_word g t) = c.after_word-next.ensures ∙ ap (after_word g) c.next_word-name.ensures in
    rw (flags-on (word "}") g t c.args.bits is c.if-bits-ne1.false, ← next-name, ← c.next_word-name.ensures)
    (next c.put_byte-end.ensures (next c.put_same-end.ensures c.put_names-2.ensures))
