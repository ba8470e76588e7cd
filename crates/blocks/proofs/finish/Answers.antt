use Rattle.blocks.proofs.finish.Goals as goal

pub returns-then-left-skip : goal.returns-then-left-skip
returns-then-left-skip c =
    let put = c in
    let asked = put in
    (rw asked.if-left-skip.true put.place_text.ensures.0, rw asked.if-left-skip.true put.place_text.ensures.1)

pub returns : goal.returns
returns c =
    let put = c in
    let asked = put in
    (rw asked.if-left-skip.false put.place_text-2.ensures.0, rw asked.if-left-skip.false put.place_text-2.ensures.1)
