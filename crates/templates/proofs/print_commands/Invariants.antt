-- Each command lies within the template and behind the one before.
use Rattle.std.proofs.Common.{◌-◌, length}
use Rattle.templates.proofs.print_commands.Given as goal

abbrev pub decreases-loop-span : goal.decreases-loop-span
decreases-loop-span g l = length l.template - l.at
