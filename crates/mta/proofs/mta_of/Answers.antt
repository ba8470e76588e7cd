-- Out of range, above MAX, and with a fraction or as -0 it is refused; else it is the amount.
use Rattle.std.proofs.Common.{sym, ◌∙◌, le-leb}
use borrow.Author.Tests.{lt-leb}
use Rattle.mta.specs.Mta.{mta_of}
use Rattle.mta.proofs.Tests.{and_false, not_within, within}
use Rattle.mta.proofs.mta_of.Goals as goal

pub returns-then-not-is_within : goal.returns-then-not-is_within
unfolding mta_of
returns-then-not-is_within c =
    simp (not_within c.args.mta (sym c.is_within.ensures ∙ c.if-not-is_within.true))

pub truncating_f64_to_u64-amount-requires : goal.truncating_f64_to_u64-amount-requires
truncating_f64_to_u64-amount-requires c =
    let bounds = within c.args.mta (sym c.is_within.ensures ∙ c.if-not-is_within.false) in
    record { lower_bound = bounds.0; upper_bound = bounds.1 }

pub returns-then-amount-gt-MAX : goal.returns-then-amount-gt-MAX
unfolding mta_of
returns-then-amount-gt-MAX c = rw (← c.truncating_f64_to_u64-amount.ensures) (simp (lt-leb _ _ c.if-amount-gt-MAX.true, and_false))

pub returns-then-is_whole : goal.returns-then-is_whole
unfolding mta_of
returns-then-is_whole c =
    rw (← c.truncating_f64_to_u64-amount.ensures)
    (simp (sym c.is_whole.ensures ∙ c.if-is_whole.true, le-leb _ _ c.if-amount-gt-MAX.false))

pub returns-else-is_whole : goal.returns-else-is_whole
unfolding mta_of
returns-else-is_whole c = simp (sym c.is_whole.ensures ∙ c.if-is_whole.false)
