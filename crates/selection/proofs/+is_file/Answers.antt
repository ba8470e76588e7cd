use native.Mathlib.Omega.{arith}
use mathlib.Core.Path.{sym, ◌∙◌}
use Rattle.selection.proofs.Moves.{file-none, file-cut, file-more}
use Rattle.selection.proofs.+is_file.Goals as goal

pub returns-then-entries-eq0 : goal.returns-then-entries-eq0
returns-then-entries-eq0 t c = sym (file-none _ _ c.if-entries-eq0.true)

pub returns-then-file-byte_at : goal.returns-then-file-byte_at
returns-then-file-byte_at t c = sym (file-cut _ _ c.if-entries-eq0.false (omega arith))

pub is_file-requires : goal.is_file-requires
is_file-requires t c = (omega arith, tt)

pub returns : goal.returns
returns t c = c.is_file.ensures ∙ rw c.entries_below.ensures (sym (file-more _ _ c.if-entries-eq0.false (omega arith)))
