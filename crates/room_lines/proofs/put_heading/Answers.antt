use borrow.Author.Rules.{rules}
use mathlib.Core.List.{[], ◌∷◌, ◌++◌}
use mathlib.Core.Path.{◌∙◌}
use native.Mathlib.Omega.{arith}
use lib.ListN.{length-append}
use Rattle.text.specs.Stored.{Stored}
use Rattle.text.proofs.Laws.{placed_in_lem}
use Rattle.text.proofs.Stores.{next}
use Rattle.numerals.specs.Numeral.{numeral}
use Rattle.numerals.proofs.Numerals.{size_below, field_fitted}
use Rattle.room_lines.specs.RoomLines.{word}
use Rattle.room_lines.proofs.put_heading.Goals as goal

-- a byte has three digits at most
pub returns : goal.returns
returns c =
    let mark = c in
    let to-mark = mark in
    let put = to-mark in
    let start = put in
    let a = start.args in
    let n = a.number in
    let there = placed_in_lem a.room.now (word ++ 32 ∷ []) a.at (omega arith) in
    let ends = put.put-at.ensures.0 ∙ there.1 in
    let first : Stored a.room.now a.at (word ++ 32 ∷ []) 5 _ _ = record { is = put.put-at.ensures.1 ∙ there.0; behind = ends; short = omega (arith, ends) } in
    let second = (field_fitted _ _ n 32 (search rules) mark.put_field.ensures.0 mark.put_field.ensures.1).0 in
    let both = next first second in
    record { is = both.is; behind = both.behind; short = omega (arith, both.behind, size_below n 2 (omega arith), length-append (numeral n) (32 ∷ [])) }
