use borrow.Author.Rules.{rules}
use mathlib.Core.Path.{◌≡◌, sym, ◌∙◌}
use Rattle.std.specs.Prelude.{Err}
use Rattle.refusal.specs.declared.Refusal.TheVariants.{Unreadable}
use Rattle.run_rule.proofs.Rulings.{no_run, no_room, has_room_lem}
use Rattle.run_rule.proofs.rule.Goals as goal

pub returns-in_err-count : goal.returns-in_err-count
returns-in_err-count c =
    let refused : c.from_residual.result ≡ Err Unreadable = search rules in
    refused ∙ sym (no_run _ _ _ (sym c.count_records.ensures ∙ c.in_err-count.ensures.ok_part))

pub returns-then-room-count : goal.returns-then-room-count
returns-then-room-count c = sym (no_room _ _ _ (sym c.count_records.ensures ∙ c.in_ok-count.ensures.ok_part) c.if-room-count.true)

pub returns : goal.returns
returns c = sym (has_room_lem _ _ _ (sym c.count_records.ensures ∙ c.in_ok-count.ensures.ok_part) c.if-room-count.false)
