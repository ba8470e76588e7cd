-- A log read from its tail, worked out: of a wrong card the statement is then shown to be false. Assumes nothing.
use mathlib.Core.Bool.{Bool, true, false, not, ◌&&◌}
use mathlib.Core.List.{List, [], ◌∷◌, ◌++◌}
use Prim.Native.Nat.{ℕ}
use lib.Dec.{T, eqb}
use lib.ListN.{replicate}
use Rattle.setup.specs.Setup.{rules_in, profile_in}
use Rattle.shape.specs.Shape.{based, logs}
use Rattle.journal.specs.Journal.{is_logging}
use Rattle.paper_log.specs.declared.Log.{Log}
use Rattle.paper_log.specs.Log.{tail_at, log_of}
use Rattle.spelling.specs.Printed.{printed, body}
use Rattle.std.specs.Prelude.{Some}
use Rattle.shape.specs.Shape.{span}

-- two slots, all switches but "offline only"; profile 1 logs; a table of one entry and one of three
abbrev tail : List ℕ
tail = 1 ∷ 2 ∷ 0xDC ∷ 1 ∷ 1 ∷ 0 ∷ 12 ∷ 1 ∷ 3 ∷ 0 ∷ 12 ∷ 1 ∷ 1 ∷ 2 ∷ 2 ∷ 1 ∷ 0 ∷ 9 ∷ []

-- one that does not log, and one entry in First's table
abbrev other : List ℕ
other = 1 ∷ 2 ∷ 0xDC ∷ 0 ∷ 1 ∷ 0 ∷ 12 ∷ 1 ∷ 0 ∷ []

-- read at 10 of a paper, by the rules of the printed set-up, whose one profile is 1
abbrev read : (bytes : List ℕ) (end : ℕ) → Log
read bytes end = log_of (rules_in body [] [] 0) (logs (based 159) (Some (span 10 end))) (replicate 7 0 ++ 1 ∷ 0 ∷ 0 ∷ bytes ++ 0xAA ∷ [])

pub record Samples : Type 0 where
  pub size : T (eqb (read tail 28).logging.size 2)
  pub switches : T (eqb (read tail 28).logging.switches 0xDC)
  pub profiles : T (eqb (read tail 28).form.profiles 1)
  pub logs_itself : T (is_logging (read tail 28).logging 1)
  pub logs_not : T (not (is_logging (read other 19).logging 1))
  pub no_other : T (not (is_logging (read tail 28).logging 2))

pub samples : Samples
unfolding log_of is_logging rules_in profile_in printed
samples =
    record {
      size = tt;
      switches = tt;
      profiles = tt;
      logs_itself = tt;
      logs_not = tt;
      no_other = tt;
    }
