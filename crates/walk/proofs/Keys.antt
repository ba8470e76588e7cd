-- Which marks the last arm of a `match` is for. Assumes nothing.
use denote.Enum.Declared.{tag_of}
use mathlib.Core.Path.{◌≡◌, refl}
use mathlib.Core.Bool.{Bool, true, false, ◌||◌}
use mathlib.Core.List.{List, [], ◌∷◌}
use mathlib.Core.Logic.{inl, inr}
use Prim.Native.Nat.{ℕ}
use native.Mathlib.Omega.{arith}
use borrow.Author.Tests.{eq-eqb}
use lib.Dec.{eqb}
use types.Run.{OneOf}
use Rattle.walk.specs.declared.Mark.{Mark as Kind}
use Rattle.walk.specs.declared.Mark.TheVariants.{End, Rest, MayEnd, Opens, Silent, Names, Flags, Number, Bytes, Date, Code, Word}
use Rattle.walk.specs.contracts.Mark as M

abbrev pub is_among : List ℕ → ℕ → Bool
is_among [] x = false
is_among (k ∷ ks) x = eqb x k || is_among ks x

pub among : (ks : List ℕ) (x : ℕ) → OneOf ks x → is_among ks x ≡ true
among [] x h = absurd h
among (k ∷ []) x h = rw (eq-eqb x k h)
among (k ∷ j ∷ ks) x (inl h) = rw (eq-eqb x k h)
among (k ∷ j ∷ ks) x (inr h) = or_true (eqb x k) (is_among (j ∷ ks) x) (among (j ∷ ks) x h) where
  or_true : (a b : Bool) → b ≡ true → (a || b) ≡ true
  or_true true b e = refl
  or_true false b e = e

-- its place among the variants
abbrev pub tag : Kind → ℕ
tag m = tag_of M.the_type m

pub never : {A : Type 0} → false ≡ true → A
never h = let z : ◌≡◌ {A = ℕ} 0 1 = cc in absurd (omega arith)

-- no byte: the row's end and rest, "?", "(", ")" and a word
abbrev pub empty : List ℕ
empty = 0 ∷ 1 ∷ 2 ∷ 3 ∷ 4 ∷ 11 ∷ []

-- all but the row's end, its rest and a clause
abbrev pub going : List ℕ
going = 2 ∷ 4 ∷ 5 ∷ 6 ∷ 7 ∷ 8 ∷ 9 ∷ 10 ∷ 11 ∷ []

-- all but names and flags
abbrev pub single : List ℕ
single = 0 ∷ 1 ∷ 2 ∷ 3 ∷ 4 ∷ 7 ∷ 8 ∷ 9 ∷ 10 ∷ 11 ∷ []

-- the last arm of `size`
pub among_empty : (m : Kind) → (m ≡ Names → ⊥) → ((x : ℕ) → m ≡ Flags x → ⊥) → ((x : ℕ) → m ≡ Number x → ⊥)
    → ((x : ℕ) → m ≡ Bytes x → ⊥) → (m ≡ Date → ⊥) → (m ≡ Code → ⊥) → is_among empty (tag m) ≡ true
among_empty End a b c d e f = refl
among_empty Rest a b c d e f = refl
among_empty MayEnd a b c d e f = refl
among_empty Opens a b c d e f = refl
among_empty Silent a b c d e f = refl
among_empty Names a b c d e f = absurd (a refl)
among_empty (Flags x) a b c d e f = absurd (b x refl)
among_empty (Number x) a b c d e f = absurd (c x refl)
among_empty (Bytes x) a b c d e f = absurd (d x refl)
among_empty Date a b c d e f = absurd (e refl)
among_empty Code a b c d e f = absurd (f refl)
among_empty Word a b c d e f = refl

-- the last arm of a walk of a row
pub among_going : (m : Kind) → (m ≡ End → ⊥) → (m ≡ Rest → ⊥) → (m ≡ Opens → ⊥) → is_among going (tag m) ≡ true
among_going End a b c = absurd (a refl)
among_going Rest a b c = absurd (b refl)
among_going MayEnd a b c = refl
among_going Opens a b c = absurd (c refl)
among_going Silent a b c = refl
among_going Names a b c = refl
among_going (Flags x) a b c = refl
among_going (Number x) a b c = refl
among_going (Bytes x) a b c = refl
among_going Date a b c = refl
among_going Code a b c = refl
among_going Word a b c = refl

-- the last arm of `part_behind`
pub among_single : (m : Kind) → (m ≡ Names → ⊥) → ((x : ℕ) → m ≡ Flags x → ⊥) → is_among single (tag m) ≡ true
among_single End a b = refl
among_single Rest a b = refl
among_single MayEnd a b = refl
among_single Opens a b = refl
among_single Silent a b = refl
among_single Names a b = absurd (a refl)
among_single (Flags x) a b = absurd (b x refl)
among_single (Number x) a b = refl
among_single (Bytes x) a b = refl
among_single Date a b = refl
among_single Code a b = refl
among_single Word a b = refl
