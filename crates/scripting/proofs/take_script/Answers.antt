use borrow.Author.Rules.{rules}
use borrow.Author.Tests.{lt-ltb, le-ltb}
use mathlib.Core.Path.{sym, ap, ◌∙◌}
use Rattle.std.specs.Prelude.{Err}
use Rattle.script.specs.Script.{words_run, rules_run}
use Rattle.scripting.specs.Scripting.{script_taken, template_writes}
use Rattle.scripting.proofs.take_script.Goals as goal

pub returns-then-res-gt1 : goal.returns-then-res-gt1
unfolding script_taken template_writes
returns-then-res-gt1 c = let above = lt-ltb _ _ c.if-res-gt1.true in (simp (above, c.refuse.ensures), simp (above), simp (above))

pub returns-in-Ok : goal.returns-in-Ok
unfolding script_taken template_writes words_run rules_run
returns-in-Ok c =
    let ran = c.run_script.ensures in
    let within = le-ltb _ _ c.if-res-gt1.false in
    let sound = sym c.read_template.ensures ∙ c.in-Ok.is in
    (simp (within, sound, ran.0), simp (within, sound) ran.1, simp (within, sound) ran.2)

pub returns-in-Err-Malformed : goal.returns-in-Err-Malformed
unfolding script_taken template_writes
returns-in-Err-Malformed c =
    let within = le-ltb _ _ c.if-res-gt1.false in
    let fault = sym c.read_template.ensures ∙ c.in-Err-Malformed.is ∙ ap Err c.in-Err-Malformed.field-0-is in
    (simp (within, fault, c.refuse-in-Err-Malformed.ensures), simp (within, fault), simp (within, fault))

pub returns-in-Err-TooDeep : goal.returns-in-Err-TooDeep
unfolding script_taken template_writes
returns-in-Err-TooDeep c =
    let within = le-ltb _ _ c.if-res-gt1.false in
    let fault = sym c.read_template.ensures ∙ c.in-Err-TooDeep.is ∙ ap Err c.in-Err-TooDeep.field-0-is in
    (simp (within, fault, c.refuse-in-Err-TooDeep.ensures), simp (within, fault), simp (within, fault))
