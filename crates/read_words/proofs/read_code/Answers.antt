-- Two letters are themselves; another word is two bytes.
use borrow.Author.Rules.{rules}
use borrow.Author.Tests.{tests, eq-eqb, ne_eqb}
use mathlib.Core.Path.{◌≡◌, sym, ap₂, ◌∙◌}
use mathlib.Core.Bool.{◌&&◌}
use native.Mathlib.Omega.{arith}
use lib.ListN.{length, get_or}
use Rattle.words.specs.Words.{is_hex}
use Rattle.forms.specs.Form.{says, bytes_in, is_letter}
use Rattle.read_words.specs.Told.{Told}
use Rattle.read_words.proofs.Laws.{two_letters, neither}
use Rattle.read_words.proofs.read_code.Goals as goal

pub returns-then-word-ne2 : goal.returns-then-word-ne2
unfolding says bytes_in Told
returns-then-word-ne2 c =
    rw (ne_eqb _ _ c.if-word-ne2.true) c.read_bytes.ensures

pub returns-then-is_ascii_alphanumeric : goal.returns-then-is_ascii_alphanumeric
unfolding says bytes_in Told
returns-then-is_ascii_alphanumeric c =
    let w = c.args.word.now in
    let two = eq-eqb (length w) 2 c.if-word-ne2.false in
    let first : c.is_ascii_alphanumeric.result ≡ is_letter (get_or w 0 0) = search (rules, tests) in
    let second : c.is_ascii_alphanumeric-2.result ≡ is_letter (get_or w 1 0) = search (rules, tests) in
    let both = ap₂ ◌&&◌ (sym first) (sym second) ∙ c.if-is_ascii_alphanumeric.true in
    (rw (two, two_letters w c.if-word-ne2.false ∙ both), rw two c.put_word.ensures)

pub returns : goal.returns
unfolding says Told
returns c =
    let w = c.args.word.now in
    let first : c.is_ascii_alphanumeric.result ≡ is_letter (get_or w 0 0) = search (rules, tests) in
    let second : c.is_ascii_alphanumeric-2.result ≡ is_letter (get_or w 1 0) = search (rules, tests) in
    let both = ap₂ ◌&&◌ (sym first) (sym second) ∙ c.if-is_ascii_alphanumeric.false in
    let four = ne_eqb (length w) 4 (λ e. omega (arith, c.if-word-ne2.false)) in
    (rw (eq-eqb (length w) 2 c.if-word-ne2.false, two_letters w c.if-word-ne2.false ∙ both, four) (neither (is_hex w)), search rules)
