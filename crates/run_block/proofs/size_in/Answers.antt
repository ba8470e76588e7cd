use Rattle.std.proofs.Common.{arith}
use Rattle.std.proofs.lemmas.Grind.{common_steps}
use Rattle.run_block.specs.RunBlock.{size_in}
use Rattle.run_block.proofs.size_in.Goals as goal

pub returns : goal.returns
unfolding size_in
returns c = grind (arith, common_steps)
