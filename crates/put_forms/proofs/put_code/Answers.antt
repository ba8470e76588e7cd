use borrow.Author.Rules.{rules}
use borrow.Author.Tests.{tests}
use mathlib.Core.Path.{◌≡◌, sym, ap, ap₂, ◌∙◌}
use mathlib.Core.Bool.{Bool, true, false, ◌&&◌}
use Rattle.wire.specs.Wire.{byte}
use Rattle.words.proofs.Puts.{next}
use Rattle.forms.specs.Form.{is_letter}
use Rattle.put_forms.proofs.Laws.{code_not, code_is}
use Rattle.put_forms.proofs.put_code.Goals as goal

pub returns-then-not-is_ascii_alphanumeric : goal.returns-then-not-is_ascii_alphanumeric
returns-then-not-is_ascii_alphanumeric c =
    let s = c.args.bytes.now in
    let first : c.is_ascii_alphanumeric.result ≡ is_letter c.byte_at-first.result = search (rules, tests) in
    let second : c.is_ascii_alphanumeric-2.result ≡ is_letter c.byte_at-second.result = search (rules, tests) in
    let one = first ∙ ap is_letter c.byte_at-first.ensures in
    let two = second ∙ ap is_letter c.byte_at-second.ensures in
    let is : (is_letter (byte s 0) && is_letter (byte s 1)) ≡ false = ap₂ (λ (a b : Bool). a && b) (sym one) (sym two) ∙ c.if-not-is_ascii_alphanumeric.true in
    rw (code_not s is) c.put_bytes.ensures

pub returns : goal.returns
returns c =
    let s = c.args.bytes.now in
    let first : c.is_ascii_alphanumeric.result ≡ is_letter c.byte_at-first.result = search (rules, tests) in
    let second : c.is_ascii_alphanumeric-2.result ≡ is_letter c.byte_at-second.result = search (rules, tests) in
    let one = first ∙ ap is_letter c.byte_at-first.ensures in
    let two = second ∙ ap is_letter c.byte_at-second.ensures in
    let is : (is_letter (byte s 0) && is_letter (byte s 1)) ≡ true = ap₂ (λ (a b : Bool). a && b) (sym one) (sym two) ∙ c.if-not-is_ascii_alphanumeric.false in
    rw (code_is s is, ← c.byte_at-first.ensures, ← c.byte_at-second.ensures) (next c.put_byte-end.ensures c.put_byte.ensures)
