use native.Mathlib.Omega.{arith}
use borrow.Author.Rules.{rules}
use mathlib.Core.Path.{◌≡◌, refl, ap, ◌∙◌}
use lib.ListN.{length}
use lib.Seq.{sets}
use Rattle.load_parts.proofs.Stores.{Run, behind}
use Rattle.phase_seat.specs.Phases.{phase_cells}
use Rattle.phase_seat.proofs.Back.{phase-size}
use Rattle.seating.specs.States.{value_cells, mark_cells}
use Rattle.seating.proofs.Back.{value-size, mark_size}
use Rattle.card_cells.proofs.put_state.Goals as goal

pub put-requires : goal.put-requires
put-requires c =
    let start = c in
    omega (arith, ap length c.value_cells.ensures.0 ∙ value-size _, start.requires)

pub returns : goal.returns
returns c =
    let marks = c in
    let marked = marks in
    let behind2 = marked in
    let phases = behind2 in
    let phased = phases in
    let behind1 = phased in
    let values = behind1 in
    let valued = values in
    let known = valued in
    let start = known in
    let l = start.args.seat.now in
    let state = start.args.state in
    let run1 : Run l 231 (value_cells state.values) 10 _ =
    record { is = values.put.ensures ∙ ap (sets l 231) valued.value_cells.ensures.0; size = value-size state.values } in
    let second = phases.put-2.ensures ∙ ap (sets _ 241) phased.phase_cells.ensures.0 in
    let run2 = behind l _ (phase_cells state.phase) 231 241 10 17 run1 second (phase-size state.phase) refl in
    let third = marks.put-3.ensures ∙ ap (sets _ 258) marked.mark_cells.ensures.0 in
    let run3 = behind l _ (mark_cells state) 231 258 27 10 run2 third (mark_size state) refl in (
      run3.is,
      record { values = valued.value_cells.ensures.1; phase = phased.phase_cells.ensures.1; marks = marked.mark_cells.ensures.1 },
    )
