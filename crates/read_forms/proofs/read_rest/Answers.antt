use Rattle.std.proofs.Common.{◌≡◌, sym, ap, ◌∙◌, arith, rules}
use Rattle.words.specs.Words.{is_hex}
use Rattle.lexing.specs.Places.{word_at, word_end, ends_line, next_word}
use Rattle.read_forms.proofs.Laws.{passes, begun, ended-rest, bad_rest, good-rest}
use Rattle.read_forms.proofs.read_rest.Goals as goal

pub loop-pairs-init : goal.loop-pairs-init
loop-pairs-init c = (c.next_word-word.ensures, begun _ _ _ _, search rules)

pub returns-then-not-is_hex : goal.returns-then-not-is_hex
returns-then-not-is_hex c =
    let text = c.args.text.now in
    let here = c.loop-pairs.invariant.0 in
    let line = ap (ends_line text) (sym here) ∙ sym c.ends_line.ensures ∙ c.loop-pairs-test.true in
    let other = ap is_hex (sym (c.word_at-pairs.ensures.0 ∙ ap (word_at text) here)) ∙ sym c.is_hex.ensures ∙ c.if-not-is_hex.true in
    λ wants w. rw here (bad_rest c.loop-pairs.invariant.1 line other wants c.args.t w)

pub loop-pairs-smaller : goal.loop-pairs-smaller
loop-pairs-smaller c =
    let word = c.loop-pairs.word in
    let line = sym c.ends_line.ensures ∙ c.loop-pairs-test.true in
    let on = passes c.args.text.now c.loop-pairs.at word c.loop-pairs.invariant.0 line in
    let next : c.next_word-word-in-loop-pairs.result ≡ next_word c.args.text.now (word_end c.args.text.now word) =
    c.next_word-word-in-loop-pairs.ensures ∙ ap (next_word c.args.text.now) c.word_end-at.ensures in
    omega (arith, on.0, on.1)

pub loop-pairs-preserved : goal.loop-pairs-preserved
loop-pairs-preserved c =
    let text = c.args.text.now in
    let here = c.loop-pairs.invariant.0 in
    let line = ap (ends_line text) (sym here) ∙ sym c.ends_line.ensures ∙ c.loop-pairs-test.true in
    let said = c.word_at-pairs.ensures.0 ∙ ap (word_at text) here in
    let pairs = ap is_hex (sym said) ∙ sym c.is_hex.ensures ∙ c.if-not-is_hex.false in (
      c.next_word-word-in-loop-pairs.ensures,
      rw (c.word_end-at.ensures ∙ ap (word_end text) here) (good-rest c.loop-pairs.invariant.1 line pairs (rw said at c.put_hex_said-end.ensures)),
      search rules,
    )

pub returns : goal.returns
returns c =
    let here = c.loop-pairs.invariant.0 in
    let line = ap (ends_line c.args.text.now) (sym here) ∙ sym c.ends_line.ensures ∙ c.loop-pairs-test.false in
    λ wants w. ended-rest c.loop-pairs.invariant.1 line wants
