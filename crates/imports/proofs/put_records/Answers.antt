use borrow.Author.Rules.{rules}
use mathlib.Core.Path.{◌≡◌, refl, sym, ap, ◌∙◌}
use native.Mathlib.Omega.{arith}
use native.Mathlib.Numerals.{add-one}
use Rattle.text.proofs.Stores.{next}
use Rattle.imports.specs.Imports.{lines_in}
use Rattle.imports.proofs.Lines.{one_more_lem}
use Rattle.imports.proofs.Told.{told}
use Rattle.imports.proofs.put_records.Goals as goal

pub loop-i-init : goal.loop-i-init
unfolding lines_in
loop-i-init c = (record { is = refl; behind = refl; short = omega arith }, omega arith, refl)

pub put_record-end-requires : goal.put_record-end-requires
put_record-end-requires c = search rules

pub loop-i-preserved : goal.loop-i-preserved
loop-i-preserved c =
    let a = c.args in
    let i = c.loop-i.i in
    let more = ap (λ n. lines_in n a.number a.input.now) (add-one i) ∙ one_more_lem i a.number a.input.now in
    (told (next c.loop-i.invariant.0 c.put_record-end.ensures) (sym more) (omega arith), search rules, search rules)

pub returns : goal.returns
returns c =
    let a = c.args in
    let all : c.loop-i.i ≡ a.records = omega arith in
    rw all at c.loop-i.invariant.0
