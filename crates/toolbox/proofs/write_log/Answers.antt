-- The log's text is a part of the room.
use mathlib.Core.Path.{ap, ◌∙◌}
use borrow.Author.Rules.{rules}
use Rattle.std.specs.Result.{result_ok}
use Rattle.paper_text.proofs.Text.{within}
use Rattle.toolbox.proofs.write_log.Goals as goal

pub slice_bounds-write_out-count : goal.slice_bounds-write_out-count
slice_bounds-write_out-count g c =
    (within _ _ _ _ _ c.put_for_log.ensures.2 (c.ok_or.ensures.ok_part ∙ ap result_ok c.in_ok-lines.was)).0

pub slice_bounds-write_out-start : goal.slice_bounds-write_out-start
slice_bounds-write_out-start g c =
    (within _ _ _ _ _ c.put_for_log.ensures.2 (c.ok_or.ensures.ok_part ∙ ap result_ok c.in_ok-lines.was)).0

pub slice_bounds-write_out-end : goal.slice_bounds-write_out-end
slice_bounds-write_out-end g c =
    (within _ _ _ _ _ c.put_for_log.ensures.2 (c.ok_or.ensures.ok_part ∙ ap result_ok c.in_ok-lines.was)).1

pub overflow_sub-end : goal.overflow_sub-end
overflow_sub-end g c =
    (within _ _ _ _ _ c.put_for_log.ensures.2 (c.ok_or.ensures.ok_part ∙ ap result_ok c.in_ok-lines.was)).0
