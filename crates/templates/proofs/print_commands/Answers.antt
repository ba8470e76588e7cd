-- What comes next ends behind the place, and within the template.
use Rattle.std.proofs.Common.{rules, sym, ◌∙◌, arith}
use Rattle.cursor.proofs.Cursor.{next-command}
use Rattle.templates.proofs.print_commands.Goals as goal

pub overflow_add-end : goal.overflow_add-end
overflow_add-end g c =
    let step = next-command c.args.template.now c.loop-span.at _ _ (sym c.next_command.ensures ∙ c.in-Some.is) in
    omega (arith, step.within)

pub print_command-requires : goal.print_command-requires
print_command-requires g c =
    let step = next-command c.args.template.now c.loop-span.at _ _ (sym c.next_command.ensures ∙ c.in-Some.is) in
    (search rules, omega arith, omega (arith, step.within))

pub loop-span-smaller : goal.loop-span-smaller
loop-span-smaller g c =
    let step = next-command c.args.template.now c.loop-span.at _ _ (sym c.next_command.ensures ∙ c.in-Some.is) in
    omega (arith, step.later, step.within)
