use Rattle.new_limits.proofs.Put.{in_all}
use Rattle.new_limits.proofs.put_limits_in_all.Goals as goal

pub returns : goal.returns
returns c =
    let a = c.args in
    in_all a.rule a.lower a.upper a.words.now c.put_limits.ensures c.put_limits-2.ensures
    c.put_limits-3.ensures
    c.put_limits-4.ensures
