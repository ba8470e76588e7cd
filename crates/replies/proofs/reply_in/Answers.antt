use borrow.Author.Tests.{lt-ltb, le-ltb}
use Rattle.replies.specs.Replies.{reply_in}
use Rattle.replies.proofs.reply_in.Goals as goal

pub returns-then-iad-lt-IAD : goal.returns-then-iad-lt-IAD
unfolding reply_in
returns-then-iad-lt-IAD c =
    let iad = c in
    let atc = iad in
    let cid = atc in
    rw (← cid.behind.ensures.0, ← cid.behind-cid.ensures.0, ← atc.behind-atc.ensures.0, ← iad.behind-iad.ensures.0)
    (simp (lt-ltb _ _ c.if-iad-lt-IAD.true))

pub returns : goal.returns
unfolding reply_in
returns c =
    let word = c in
    let long = word in
    let iad = long in
    let atc = iad in
    let cid = atc in
    rw (← cid.behind.ensures.0, ← cid.behind-cid.ensures.0, ← atc.behind-atc.ensures.0, ← iad.behind-iad.ensures.0)
    (simp (
      le-ltb _ _ long.if-iad-lt-IAD.false,
      word.kind_in.ensures,
      word.before-2.ensures.0,
      c.decimal_in.ensures,
      c.pair_at.ensures.0,
      c.cvr_in.ensures,
    ))
