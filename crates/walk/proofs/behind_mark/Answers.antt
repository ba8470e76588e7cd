use borrow.Author.Rules.{rules}
use mathlib.Core.Path.{◌≡◌, refl, sym, ap, ◌∙◌}
use mathlib.Core.Bool.{true, false}
use mathlib.Core.List.{[], ◌∷◌}
use native.Mathlib.Omega.{arith}
use Rattle.lexing.specs.Places.{words_at, ends_line}
use Rattle.lexing.proofs.Steps.{in_line_lem}
use Rattle.forms.specs.Grammar.{past}
use Rattle.walk.proofs.Places.{moves, past_end, past-here, past-on}
use Rattle.walk.proofs.behind_mark.Goals as goal

pub returns-then-found : goal.returns-then-found
returns-then-found c =
    let a = c.args in
    let g = a.grammar.now in
    let word = c.loop-found.word in
    let there = c.loop-found-test.true in
    let line : ends_line g word ≡ false = sym c.ends_line.ensures ∙ there in
    let found = past-here g word a.mark (sym c.is_mark-found.ensures ∙ c.if-found.true) in
    let next = c.after_word-word.ensures in
    let on = moves g word line in
    record { says = ap (words_at g) next ∙ sym (c.loop-found.invariant.0 ∙ found); on = omega arith }

pub loop-found-smaller : goal.loop-found-smaller
loop-found-smaller c =
    let g = c.args.grammar.now in
    let word = c.loop-found.word in
    let line : ends_line g word ≡ false = sym c.ends_line.ensures ∙ c.loop-found-test.true in
    let next = c.after_word-word.ensures in
    let on = moves g word line in
    let inside = in_line_lem g word line in
    omega arith

pub loop-found-preserved : goal.loop-found-preserved
loop-found-preserved c =
    let a = c.args in
    let g = a.grammar.now in
    let word = c.loop-found.word in
    let line : ends_line g word ≡ false = sym c.ends_line.ensures ∙ c.loop-found-test.true in
    let other = past-on g word a.mark (sym c.is_mark-found.ensures ∙ c.if-found.false) in
    let next = c.after_word-word.ensures in
    let on = moves g word line in
    (c.loop-found.invariant.0 ∙ other ∙ ap (λ n. past (a.mark ∷ []) (words_at g n)) (sym next), omega arith)

pub returns : goal.returns
returns c =
    let a = c.args in
    let g = a.grammar.now in
    let word = c.loop-found.word in
    let line : ends_line g word ≡ true = sym c.ends_line.ensures ∙ c.loop-found-test.false in
    record { says = sym (c.loop-found.invariant.0 ∙ past_end g word a.mark line); on = c.loop-found.invariant.1 }

pub loop-found-init : goal.loop-found-init
loop-found-init c = (refl, search rules)
