use mathlib.Core.Path.{sym}
use native.Mathlib.Omega.{arith}
use Rattle.lexing.specs.Places.{words_at}
use Rattle.walk.specs.Marks.{behind_part}
use Rattle.walk.proofs.Keys.{among_single}
use Rattle.walk.proofs.Places.{one_word}
use Rattle.walk.proofs.part_behind.Goals as goal

pub returns-in-Names : goal.returns-in-Names
unfolding behind_part
returns-in-Names c = rw (c.in-Names.is, ← c.after_word-next.ensures) c.behind_mark.ensures

pub returns-in-Flags : goal.returns-in-Flags
unfolding behind_part
returns-in-Flags c = rw (c.in-Flags.is, ← c.after_word-next.ensures) c.behind_mark-in-Flags.ensures

pub returns-in_default : goal.returns-in_default
returns-in_default c =
    let a = c.args in
    let next = c.after_word-next.ensures in
    let same = one_word a.grammar.now (words_at a.grammar.now c.after_word-next.result) a.mark (among_single _ c.in_default.not-Names c.in_default.not-Flags) in
    rw (← next) (record { says = sym same; on = omega arith })
