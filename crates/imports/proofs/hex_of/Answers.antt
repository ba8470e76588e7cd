use borrow.Author.Rules.{rules}
use mathlib.Core.Path.{◌≡◌, refl, ap, ◌∙◌}
use mathlib.Core.List.{List, append-nil}
use Prim.Native.Nat.{ℕ, ◌+◌, ◌*◌, ◌/◌, ◌%◌}
use native.Mathlib.Numerals.{add-one}
use native.Mathlib.Omega.{arith}
use lib.ListN.{length, get_or, set, replicate, length-set}
use lib.Seq.{take-length, sets-eq}
use Rattle.hex_digits.specs.Hex.{hex_digit, hex_byte, hex}
use Rattle.text.specs.Stored.{Stored}
use Rattle.text.proofs.Stores.{next}
use Rattle.hex_digits.proofs.Bytes.{hex-more, size}
use Rattle.imports.proofs.hex_of.Goals as goal

stored : (text : List ℕ) (at byte high low : ℕ) → high ≡ hex_digit (byte / 16) → low ≡ hex_digit (byte % 16)
    → Stored text at (hex_byte byte) 2 (at + 2) (set (set text at high) (at + 1) low)
stored text at byte high low p q = record { is = rw (p, q, add-one at) refl; behind = refl; short = omega arith }

pub loop-i-init : goal.loop-i-init
unfolding hex
loop-i-init c = search rules

pub loop-i-preserved : goal.loop-i-preserved
loop-i-preserved c =
    let bytes = c.args.bytes.now in
    let i = c.loop-i.i in
    let two : 2 * (i + 1) ≡ 2 * i + 2 = omega arith in
    let more = stored c.loop-i.text (2 * i) (get_or bytes i 0) _ _ c.upper_digit.ensures c.lower_digit.ensures in
    (rw (two, hex-more bytes i (omega arith)) (next c.loop-i.invariant.0 more), omega arith, simp length-set c.loop-i.invariant.2)

pub returns : goal.returns
returns c =
    let l = c.loop-i in
    let bytes = c.args.bytes.now in
    let full : length bytes ≡ 15 = c.requires in
    let all : l.i ≡ length bytes = omega arith in
    let thirty : length (hex bytes) ≡ 30 = size bytes ∙ ap (λ (n : ℕ). 2 * n) full in
    let passed : Stored (replicate 30 0) 0 (hex bytes) (2 * length bytes) (2 * length bytes) l.text = rw (all, take-length bytes) at l.invariant.0 in
    (passed.is ∙ sets-eq (hex bytes) (replicate 30 0) 0 (omega arith) ∙ rw thirty (append-nil (hex bytes)), l.invariant.2)
