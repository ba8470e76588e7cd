-- What each step reads behind the others.
use Rattle.shape.specs.Shape.{selection_tail, syllabus_tail, dating_tail, family_tail, scripting_tail, logging_tail}
use Rattle.additions.proofs.read_tails.Given as goal

abbrev pub ghost-add : goal.ghost-add
ghost-add a = selection_tail

abbrev pub ghost-add-2 : goal.ghost-add-2
ghost-add-2 a = syllabus_tail

abbrev pub ghost-add-3 : goal.ghost-add-3
ghost-add-3 a = dating_tail

abbrev pub ghost-add-4 : goal.ghost-add-4
ghost-add-4 a = family_tail

abbrev pub ghost-add-5 : goal.ghost-add-5
ghost-add-5 a = scripting_tail

abbrev pub ghost-add-6 : goal.ghost-add-6
ghost-add-6 a = logging_tail
