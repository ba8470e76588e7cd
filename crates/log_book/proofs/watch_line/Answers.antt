use Prim.Native.Nat.{◌-◌}
use native.Mathlib.Omega.{arith}
use lib.ListN.{length, drop, length-drop}
use lib.Seq.{take_all}
use Rattle.log_book.specs.Logbook.{watched_line}
use Rattle.log_book.proofs.watch_line.Goals as goal

pub returns-in_default : goal.returns-in_default
unfolding watched_line
returns-in_default c = rw (← c.reply_in.ensures) (simp c.in_default.is)

pub returns : goal.returns
unfolding watched_line
returns c =
    let heard = c in
    let until-met = heard in
    let met = until-met in
    let read = met in
    let a = read.args in
    let paper = a.paper.now in
    let rest = take_all (length paper - a.at) (drop a.at paper) (omega (arith, length-drop a.at paper)) in
    rw (← read.reply_in.ensures, ← rest) (simp met.in-Some.is (simp heard.heard.ensures at c.watch.ensures))
