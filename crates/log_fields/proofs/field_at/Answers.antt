use mathlib.Core.Bool.{Bool}
use mathlib.Core.Path.{◌≡◌, ap, subst, ◌∙◌}
use Rattle.log_tail.specs.declared.Entry.{Entry}
use Rattle.log_tail.specs.LogTail.{entry_at}
use Rattle.field.specs.Field.{field_of, field_place}
use Rattle.field.proofs.Laws.{same_place}
use Rattle.log_fields.specs.LogFields.{first_data, first_data_place, second_data, second_data_place, part_ref, field_entry, field_in, field_place_in}
use Rattle.log_fields.proofs.field_at.Goals as goal

pub returns : goal.returns
unfolding field_in field_place_in
returns c =
    let second = c in
    let first = second in
    let entry = first in
    let start = entry in
    let a = start.args in
    let paper = a.paper in
    let f = part_ref (first_data_place paper a.kept) (first_data paper.now a.form a.kept) in
    let s = part_ref (second_data_place paper a.kept) (second_data paper.now a.kept) in
    let found = first.first_data-first.ensures in
    let found' = second.second_data-second.ensures in
    let at = field_entry a.tail.now a.form a.kept a.i in
    let is : entry.entry_at-entry.result ≡ at =
    entry.entry_at-entry.ensures ∙ ap (λ (b : Bool). entry_at a.tail.now a.form.profiles b a.i) entry.is_of_second.ensures in
    let bytes =
    subst (λ (e : Entry). c.field.result.now ≡ field_of f.now s.now e.source e.position e.length) is
    (simp (found.0, found'.0) at c.field.ensures.0) in
    let place =
    subst
    (λ (e : Entry).
    c.field.result.ref_ptr ≡ field_place first.first_data-first.result second.second_data-second.result e.source e.position e.length)
    is c.field.ensures.1 in (
      bytes,
      place
          ∙ same_place first.first_data-first.result f second.second_data-second.result s found.0 found.1 found'.0 found'.1
          at.source at.position at.length,
    )
