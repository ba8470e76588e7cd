use mathlib.Core.Path.{sym, ap, ◌∙◌}
use Prim.Native.Nat.{◌<◌, ◌≤◌}
use native.Mathlib.Omega.{arith}
use lib.Dec.{eqb}
use lib.ListN.{length}
use Rattle.wire.specs.Wire.{byte}
use Rattle.lexing.specs.Places.{next_word}
use Rattle.walk.proofs.Tables.{header, key-is}
use Rattle.walk.proofs.ends_table.Goals as goal

pub returns-then-key-ge2909 : goal.returns-then-key-ge2909
returns-then-key-ge2909 c =
    let a = c.args in
    let next = c.next_word-key.ensures in
    let past : length a.grammar.now ≤ next_word a.grammar.now a.row = omega arith in
    sym (header a.grammar.now a.row past)

pub returns : goal.returns
returns c =
    let a = c.args in
    let next = c.next_word-key.ensures in
    let inside : next_word a.grammar.now a.row < length a.grammar.now = omega arith in
    ap (λ t. eqb (byte a.grammar.now t) 45) next ∙ sym (key-is a.grammar.now a.row inside)
