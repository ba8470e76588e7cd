-- Each store sets its byte; the six pairs of digits are those of the repeated division.
use native.Mathlib.Omega.{arith}
use Rattle.iad.specs.Iad.{iad_bytes}
use Rattle.iad.proofs.Runs.{two_halves}
use Rattle.iad.proofs.encode.Goals as goal

pub returns : goal.returns
unfolding iad_bytes
returns c =
    let third = c in
    simp (
      two_halves,
      c.pair-6.ensures,
      c.pair-5.ensures,
      c.pair-4.ensures,
      third.pair-3.ensures,
      third.pair-2.ensures,
      third.pair.ensures,
    )

pub pair-requires : goal.pair-requires
pair-requires c = omega arith

pub pair-requires-2 : goal.pair-requires-2
pair-requires-2 c = omega arith

pub pair-requires-3 : goal.pair-requires-3
pair-requires-3 c = omega arith

pub pair-requires-4 : goal.pair-requires-4
pair-requires-4 c = omega arith

pub pair-requires-5 : goal.pair-requires-5
pair-requires-5 c = omega arith

pub pair-requires-6 : goal.pair-requires-6
pair-requires-6 c = omega arith
