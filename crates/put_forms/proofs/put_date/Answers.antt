use mathlib.Core.Path.{◌≡◌, sym, ap, ap₂, ◌∙◌}
use mathlib.Core.Bool.{Bool, true, false, ◌&&◌}
use Rattle.wire.specs.Wire.{byte, is_pair}
use Rattle.words.proofs.Puts.{next}
use Rattle.put_forms.proofs.Laws.{date_not, date-is}
use Rattle.put_forms.proofs.put_date.Goals as goal

pub returns-then-not-is_pair : goal.returns-then-not-is_pair
returns-then-not-is_pair c =
    let s = c.args.bytes.now in
    let one = c.is_pair.ensures ∙ ap is_pair c.byte_at-year.ensures in
    let two = c.is_pair-2.ensures ∙ ap is_pair c.byte_at-month.ensures in
    let three = c.is_pair-3.ensures ∙ ap is_pair c.byte_at-day.ensures in
    let both = ap₂ (λ (a b : Bool). a && b) (sym one) (sym two) in
    let is : (is_pair (byte s 0) && is_pair (byte s 1) && is_pair (byte s 2)) ≡ false = ap₂ (λ (a b : Bool). a && b) both (sym three) ∙ c.if-not-is_pair.true in
    rw (date_not s is) c.put_bytes.ensures

pub returns : goal.returns
returns c =
    let s = c.args.bytes.now in
    let one = c.is_pair.ensures ∙ ap is_pair c.byte_at-year.ensures in
    let two = c.is_pair-2.ensures ∙ ap is_pair c.byte_at-month.ensures in
    let three = c.is_pair-3.ensures ∙ ap is_pair c.byte_at-day.ensures in
    let both = ap₂ (λ (a b : Bool). a && b) (sym one) (sym two) in
    let is : (is_pair (byte s 0) && is_pair (byte s 1) && is_pair (byte s 2)) ≡ true = ap₂ (λ (a b : Bool). a && b) both (sym three) ∙ c.if-not-is_pair.false in
    rw (date-is s is, ← c.byte_at-year.ensures, ← c.byte_at-month.ensures, ← c.byte_at-day.ensures)
    (next c.put_word-end.ensures
    (next c.put_hex_byte-end.ensures
    (next c.put_byte-end.ensures (next c.put_hex_byte-end-2.ensures (next c.put_byte-end-2.ensures c.put_hex_byte.ensures)))))
