-- What papers add, worked out from their bytes: the page's printed class, and each rule alone. Assumes nothing.
use mathlib.Core.Bool.{Bool, true, false, not, ◌&&◌}
use mathlib.Core.List.{List, [], ◌∷◌, ◌++◌}
use Prim.Native.Nat.{ℕ}
use lib.Dec.{T, eqb}
use lib.ListN.{replicate}
use Rattle.wire.specs.Wire.{number}
use Rattle.marks.specs.Marks.{heard as heard_again}
use Rattle.closing.specs.Closing.{closed, ordered}
use Rattle.second.specs.Second.{unable_performed, verified_performed, second_performed}
use Rattle.card.specs.Card.{second_step}
use Rattle.spelling.specs.Spelling.{big, record_of, unsaid, unshown, names, first, second, kind_of, body_of, spell, paper_of}
use Rattle.spelling.specs.Printed.{printed}
use Rattle.spelling.proofs.Computed.{answered as computed, heard}
use Rattle.tallies.specs.Tallies.{Tally, answered, refused, approved, answer_tallies}
use Rattle.sales.specs.Sales.{sale_by, tallies_from}
use Rattle.class_sheet.specs.ClassSheet.{paper_tallies}

-- ---- the same tallies in the same order

abbrev one : Tally → Tally → Bool
one (answered p k) (answered q l) = eqb p q && eqb k l
one (answered p k) (refused m) = false
one (answered p k) (approved d b) = false
one (refused n) (answered q l) = false
one (refused n) (refused m) = eqb n m
one (refused n) (approved d b) = false
one (approved c a) (answered q l) = false
one (approved c a) (refused m) = false
one (approved c a) (approved d b) = eqb c d && eqb a b

abbrev same : List Tally → List Tally → Bool
same [] [] = true
same [] (n ∷ more) = false
same (m ∷ more) [] = false
same (m ∷ more) (n ∷ others) = one m n && same more others

unfoldable pub adds : (paper : List ℕ) → List Tally → Bool
adds paper tallies = same (paper_tallies paper) tallies

-- ---- papers: profiles 3 and 7, which decline nothing

abbrev zeros : ℕ → List ℕ
zeros n = replicate n 0

abbrev paper : (records : List ℕ) → List ℕ
paper records = paper_of 1 (1 ∷ 3 ∷ 0 ∷ 2 ∷ zeros 48 ++ 3 ∷ zeros 106 ++ 7 ∷ zeros 106) records

-- a transaction of a profile, and what comes back from the issuer: Y3, Z3, an approval
abbrev sale : (profile type amount currency : ℕ) → List ℕ
sale profile type amount currency = spell (names unsaid profile) ++ spell (first type amount currency 0x22 unshown)

abbrev y3 : (type : ℕ) → List ℕ
y3 type = spell (second type 0x5933 0 0)

abbrev z3 : (type : ℕ) → List ℕ
z3 type = spell (second type 0x5A33 0 0)

abbrev issuer : List ℕ
issuer = spell (second 1 0x3030 1 0x800000)

-- a TC of 0 in 0840, a Z3 approval of 700 in 0978, an online approval of 50 in 0392, a Start of a profile that is not there, a record of no kind
abbrev ending : List ℕ
ending = sale 7 1 0 0x0840 ++ sale 3 2 700 0x0978 ++ z3 1 ++ sale 3 2 50 0x0392 ++ issuer ++ spell (names unsaid 9) ++ 0x00 ∷ 0x01 ∷ 0x06 ∷ []

-- what they add
abbrev online_then : (profile : ℕ) → List Tally → List Tally
online_then profile more = answered profile 2 ∷ answered profile 0 ∷ more

abbrev sitting : List Tally
sitting = answered 1 0 ∷ approved 0x0978 5000 ∷ online_then 1 (approved 0x0978 1 ∷ answered 1 1 ∷ refused 2 ∷ [])

abbrev ended : List Tally
ended = answered 7 0 ∷ approved 0x0840 0 ∷ online_then 3 (approved 0x0978 700 ∷ online_then 3 (refused 3 ∷ refused 9 ∷ []))

abbrev unable : List Tally
unable = online_then 3 (approved 0x0978 700 ∷ [])

-- a First in the middle of a transaction, which is refused
abbrev out_of_turn : List ℕ
out_of_turn = sale 3 2 700 0x0978 ++ spell (first 1 5 0x0840 0x22 unshown) ++ z3 1

pub record Samples : Type 0 where
  -- the page's class: the printed sitting, the paper that ends in 9, the empty paper
  pub printed_sitting : T (adds printed sitting)
  pub ends_in_9 : T (adds (paper ending) ended)
  pub empty : T (adds [] (refused 9 ∷ []))
  -- a TC at First, of 0 too, and after Y3 and Z3; not one after the issuer's approval, and no AAC after Y3
  pub at_first : T (adds (paper (sale 7 1 0 0x0840)) (answered 7 0 ∷ approved 0x0840 0 ∷ []))
  pub after_y3 : T (adds (paper (sale 3 2 700 0x0978 ++ y3 1)) unable)
  pub after_z3 : T (adds (paper (sale 3 2 700 0x0978 ++ z3 1)) unable)
  pub online : T (adds (paper (sale 3 2 50 0x0392 ++ issuer)) (online_then 3 []))
  pub declined : T (adds (paper (sale 3 2 50 0x0392 ++ y3 0)) (answered 3 2 ∷ answered 3 1 ∷ []))
  -- a First that is refused asks nothing; a transaction's First is its own
  pub refused-first : T (adds (paper out_of_turn) (answered 3 2 ∷ refused 2 ∷ answered 3 0 ∷ approved 0x0978 700 ∷ []))
  pub own_first : T (adds (paper (sale 7 1 5 0x0840 ++ sale 3 2 700 0x0978 ++ z3 1)) (answered 7 0 ∷ approved 0x0840 5 ∷ unable))

pub samples : Samples
unfolding adds printed kind_of body_of record_of big number second_step second_performed unable_performed verified_performed closed ordered heard_again
    paper_tallies tallies_from answer_tallies sale_by computed heard
samples =
    record {
      printed_sitting = tt;
      ends_in_9 = tt;
      empty = tt;
      at_first = tt;
      after_y3 = tt;
      after_z3 = tt;
      online = tt;
      declined = tt;
      refused-first = tt;
      own_first = tt;
    }
