use Rattle.std.proofs.Common.{◌||◌, sym, refl, ap, ◌∙◌, ap₂, arith, rules}
use Rattle.read_words.specs.Told.{Told}
use Rattle.words.specs.Words.{same}
use Rattle.lexing.proofs.Steps.{in_line_lem}
use Rattle.walk.proofs.Places.{moves}
use Rattle.read_forms.proofs.Laws.{after-begins, names-end, names-on, all-names, name-passed, name-found, not_found}
use Rattle.read_forms.proofs.read_name.Goals as goal

pub loop-room-init : goal.loop-room-init
loop-room-init c = (c.requires, all-names _ _, refl, search rules)

pub returns-then-same_word : goal.returns-then-same_word
unfolding Told
returns-then-same_word c =
    let a = c.args in
    let g = a.grammar.now in
    let more = names-on g c.loop-room.name 93 c.loop-room.invariant.0
    (ap₂ ◌||◌ (sym c.is_mark.ensures) (sym c.ends_line.ensures) ∙ c.loop-room-test.true) in
    let same_name = ap (same a.word.now) (sym c.word_at.ensures.0) ∙ sym c.same_word.ensures ∙ c.if-same_word.true in
    λ few.
    let (is, place) = name-found (rw more.1 at c.loop-room.invariant.1) same_name few in
    (is, rw place (rw c.loop-room.invariant.2 at c.put_byte.ensures))

pub loop-room-smaller : goal.loop-room-smaller
loop-room-smaller c =
    let g = c.args.grammar.now in
    let more = names-on g c.loop-room.name 93 c.loop-room.invariant.0
    (ap₂ ◌||◌ (sym c.is_mark.ensures) (sym c.ends_line.ensures) ∙ c.loop-room-test.true) in
    let next = c.after_word-name.ensures in
    let on = moves g c.loop-room.name more.0 in
    let inside = in_line_lem g c.loop-room.name more.0 in
    omega arith

pub loop-room-preserved : goal.loop-room-preserved
loop-room-preserved c =
    let a = c.args in
    let g = a.grammar.now in
    let more = names-on g c.loop-room.name 93 c.loop-room.invariant.0
    (ap₂ ◌||◌ (sym c.is_mark.ensures) (sym c.ends_line.ensures) ∙ c.loop-room-test.true) in
    let other_name = ap (same a.word.now) (sym c.word_at.ensures.0) ∙ sym c.same_word.ensures ∙ c.if-same_word.false in (
      rw c.after_word-name.ensures (after-begins g c.loop-room.name),
      rw (c.after_word-name.ensures, c.wrapping_add_u8-byte.ensures.value) (name-passed (rw more.1 at c.loop-room.invariant.1) other_name),
      c.loop-room.invariant.2,
      search rules,
    )

pub returns : goal.returns
unfolding Told
returns c =
    let g = c.args.grammar.now in
    let none = names-end g c.loop-room.name 93 c.loop-room.invariant.0
    (ap₂ ◌||◌ (sym c.is_mark.ensures) (sym c.ends_line.ensures) ∙ c.loop-room-test.false) in
    λ few. (not_found (rw none at c.loop-room.invariant.1), c.loop-room.invariant.2)
