-- Each element ends behind the one before and among the elements.
use Rattle.std.proofs.Common.{◌-◌, length}
use Rattle.put_data.specs.PutData.{elements_of}
use Rattle.templates.proofs.last_to.Given as goal

abbrev pub decreases-loop-write : goal.decreases-loop-write
decreases-loop-write l = length (elements_of l.command) - l.at
