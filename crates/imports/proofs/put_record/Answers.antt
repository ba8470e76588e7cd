use mathlib.Core.Path.{ap}
use native.Mathlib.Omega.{arith}
use Rattle.imports.specs.Imports.{record_line}
use Rattle.imports.proofs.Told.{told, next_bytes}
use Rattle.imports.proofs.put_record.Goals as goal

pub returns : goal.returns
returns c =
    let a = c.args in
    told c.put_line.ensures (ap (record_line a.number) (next_bytes a.input.now a.from _ c.min-end.ensures)) (omega arith)
