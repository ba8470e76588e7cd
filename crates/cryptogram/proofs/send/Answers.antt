use borrow.Author.Rules.{rules}
use Rattle.cryptogram.specs.Cryptogram.{sent_iad}
use Rattle.cryptogram.proofs.send.Goals as goal

pub returns : goal.returns
unfolding sent_iad
returns c =
    let counters = c in
    let amount = counters in
    simp (
      c.profile_number.ensures,
      counters.sent_counter-2.ensures,
      counters.sent_counter.ensures,
      counters.key_index.ensures,
      amount.sent_amount.ensures,
      amount.profile_sent-sent.ensures,
    )
