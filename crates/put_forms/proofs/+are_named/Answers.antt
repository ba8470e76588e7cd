use mathlib.Core.Path.{◌≡◌, sym, ap, ◌∙◌}
use mathlib.Core.Bool.{true, false}
use Prim.Native.Nat.{◌/◌, ◌^◌}
use native.Mathlib.Omega.{arith}
use lib.Dec.{ltb}
use lib.ListN.{length}
use Rattle.words.specs.Words.{word, up_to}
use Rattle.lexing.specs.Places.{words_at, next_word, after_word}
use Rattle.lexing.specs.Names.{is_name}
use Rattle.put_forms.proofs.Laws.{names-on, fits_zero, fits-none, fits_half}
use Rattle.put_forms.proofs.+are_named.Goals as goal

pub returns-then-bits-eq0 : goal.returns-then-bits-eq0
returns-then-bits-eq0 t c = let a = c.args in sym (fits_zero (word "}") a.grammar.now a.t a.bits c.if-bits-eq0.true)

pub returns-then-not-is_name : goal.returns-then-not-is_name
returns-then-not-is_name t c =
    let g = c.args.grammar.now in
    let t = c.args.t in
    let is : is_name (word "}") g (next_word g t) ≡ false = ap (is_name (word "}") g) (sym c.next_word-name.ensures) ∙ sym c.is_name.ensures ∙ c.if-not-is_name.true in
    sym (fits-none (word "}") g t c.args.bits is c.if-bits-eq0.false)

pub are_named-requires : goal.are_named-requires
are_named-requires t c =
    let g = c.args.grammar.now in
    let t = c.args.t in
    let is : is_name (word "}") g (next_word g t) ≡ true = ap (is_name (word "}") g) (sym c.next_word-name.ensures) ∙ sym c.is_name.ensures ∙ c.if-not-is_name.false in
    let on = names-on (word "}") g t is in
    let name = c.next_word-name.ensures in
    let next : c.after_word.result ≡ after_word g (next_word g t) = c.after_word.ensures ∙ ap (after_word g) name in
    (omega arith, tt)

pub returns : goal.returns
returns t c =
    let g = c.args.grammar.now in
    let t = c.args.t in
    let is : is_name (word "}") g (next_word g t) ≡ true = ap (is_name (word "}") g) (sym c.next_word-name.ensures) ∙ sym c.is_name.ensures ∙ c.if-not-is_name.false in
    let next : c.after_word.result ≡ after_word g (next_word g t) = c.after_word.ensures ∙ ap (after_word g) c.next_word-name.ensures in
    c.are_named.ensures
    ∙ ap (λ n. ltb (c.args.bits / 2) (2 ^ length (up_to (word "}") (words_at g n)))) next
    ∙ sym (fits_half (word "}") g t c.args.bits is)
