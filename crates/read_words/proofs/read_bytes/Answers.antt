-- A word of hex digits says as many bytes as it has pairs.
use borrow.Author.Rules.{rules}
use mathlib.Core.Path.{sym, ap, ◌∙◌}
use mathlib.Core.Bool.{◌&&◌}
use Prim.Native.Nat.{◌/◌}
use lib.Dec.{eqb}
use lib.ListN.{length}
use Rattle.words.specs.Words.{is_hex}
use Rattle.words.proofs.Tests.{both}
use Rattle.forms.specs.Form.{says, bytes_in}
use Rattle.read_words.specs.Told.{Told}
use Rattle.read_words.proofs.Laws.{pairs-are, hex-said}
use Rattle.read_words.proofs.read_bytes.Goals as goal

pub returns-then-is_hex-word : goal.returns-then-is_hex-word
unfolding says bytes_in Told
returns-then-is_hex-word c =
    let a = c.args in
    let w = a.word.now in
    let yes = ap (λ t. t && eqb (length w / 2) a.count) (sym c.is_hex.ensures) ∙ c.if-is_hex-word.true in
    let (hex, _) = both (is_hex w) (eqb (length w / 2) a.count) yes in
    (sym (pairs-are w a.count) ∙ yes, rw (hex-said w hex) at c.put_hex_said.ensures)

pub returns : goal.returns
unfolding says Told
returns c =
    let a = c.args in
    let w = a.word.now in
    let no = ap (λ t. t && eqb (length w / 2) a.count) (sym c.is_hex.ensures) ∙ c.if-is_hex-word.false in
    (sym (pairs-are w a.count) ∙ no, search rules)
