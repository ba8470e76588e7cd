use mathlib.Core.Path.{refl}
use native.Mathlib.Omega.{arith}
use Rattle.log_text.proofs.Stores.{line-stored}
use Rattle.log_text.proofs.put_found.Goals as goal

pub returns-in-Some : goal.returns-in-Some
returns-in-Some c =
    let call = c in
    let found = call in
    let known = found in
    let put = call.put_line.ensures in
    rw found.in-Some.is (line-stored known.requires put.0 put.1 put.2)

pub returns-in-None : goal.returns-in-None
returns-in-None c = rw c.in-None.is (record { is = refl; behind = omega arith; short = omega arith })
