use mathlib.Core.Path.{sym, ap, ◌∙◌}
use native.Mathlib.Omega.{arith}
use Rattle.blocks.specs.declared.Front.TheVariants.{Done}
use Rattle.blocks.proofs.Fronts.{passed, stays, no_length, too_long_lem, no_paper, whole}
use Rattle.blocks.proofs.take_front.Goals as goal

pub returns-then-skip-gt0 : goal.returns-then-skip-gt0
returns-then-skip-gt0 c =
    let pass = c in
    let asked = pass in
    let start = asked in
    let a = start.args in
    let is = passed a.room.now a.to a.skip a.input.now asked.if-skip-gt0.true in
    let e = pass.pass.ensures in
    (ap Done e.0 ∙ sym is.0, e.1 ∙ sym is.1)

pub returns-then-input-lt4 : goal.returns-then-input-lt4
returns-then-input-lt4 c =
    let asked = c in
    let start = asked in
    let a = start.args in
    let none = asked.if-skip-gt0.false in
    let is = no_length a.room.now a.to a.skip a.input.now none asked.if-input-lt4.true in
    (ap Done c.wait.ensures ∙ sym is, sym (stays a.room.now a.to a.skip a.input.now none))

pub returns-then-size-gt-LONGEST_PAPER : goal.returns-then-size-gt-LONGEST_PAPER
returns-then-size-gt-LONGEST_PAPER c =
    let size = c in
    let asked = size in
    let start = asked in
    let a = start.args in
    let none = asked.if-skip-gt0.false in
    let e = size.u32_at-size.ensures in
    let is = too_long_lem a.room.now a.to a.skip a.input.now none asked.if-input-lt4.false (omega (arith, e, c.if-size-gt-LONGEST_PAPER.true)) in
    (rw (is, e), sym (stays a.room.now a.to a.skip a.input.now none))

pub returns-then-input-size : goal.returns-then-input-size
returns-then-input-size c =
    let size = c in
    let asked = size in
    let start = asked in
    let a = start.args in
    let none = asked.if-skip-gt0.false in
    let e = size.u32_at-size.ensures in
    let is = no_paper a.room.now a.to a.skip a.input.now none asked.if-input-lt4.false
    (omega (arith, e, c.if-size-gt-LONGEST_PAPER.false)) (omega (arith, e, c.if-input-size.true)) in
    (ap Done c.wait-then-input-size.ensures ∙ sym is, sym (stays a.room.now a.to a.skip a.input.now none))

pub returns : goal.returns
returns c =
    let size = c in
    let asked = size in
    let start = asked in
    let a = start.args in
    let none = asked.if-skip-gt0.false in
    let e = size.u32_at-size.ensures in
    let is = whole a.room.now a.to a.skip a.input.now none asked.if-input-lt4.false
    (omega (arith, e, c.if-size-gt-LONGEST_PAPER.false)) (omega (arith, e, c.if-input-size.false)) in
    (rw (is, e), sym (stays a.room.now a.to a.skip a.input.now none))
