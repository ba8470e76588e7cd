-- What holds of the shape that tails end with, whichever way a tail ends. Assumes nothing.
use mathlib.Core.Bool.{cond}
use mathlib.Core.List.{List}
use Prim.Native.Nat.{ℕ, ◌+◌}
use lib.Dec.{eqb, ltb, leb}
use lib.ListN.{length}
use Rattle.wire.specs.Wire.{byte}
use Rattle.refusal.specs.declared.Refusal.TheVariants.{BadSetup}
use Rattle.shape.specs.declared.Shape.{Shape}
use Rattle.shape.specs.Shape.{behind, since, whole}
use Rattle.shape.proofs.Either.{choose}
use Rattle.std.specs.Prelude.{Err, None, Ok, Option, Result, Some}
use Rattle.refusal.specs.declared.Refusal.{Refusal}
use Rattle.shape.specs.Shape.{ended_at}
use Rattle.shape.specs.declared.Tails.{Tails}

abbrev pub Ends : (Shape → Type 0) → Option Tails → Type 0
Ends P None = Unit
Ends P (Some tails) = P tails.shape

abbrev pub Read : (Shape → Type 0) → Result Shape Refusal → Type 0
Read P (Ok shape) = P shape
Read P (Err refusal) = Unit

pub behind-ends : (P Q : Shape → Type 0) (tails : Option Tails) (tail : Shape → ℕ → Option Tails) → ((shape : Shape) (at : ℕ) → P shape → Ends Q (tail shape at))
    → Ends P tails → Ends Q (behind tails tail)
behind-ends P Q None tail keeps u = tt
behind-ends P Q (Some tails) tail keeps u = keeps tails.shape tails.at u

pub since-ends : (P : Shape → Type 0) (first version : ℕ) (tails : Option Tails) (tail : Shape → ℕ → Option Tails)
    → ((shape : Shape) (at : ℕ) → P shape → Ends P (tail shape at)) → Ends P tails → Ends P (since first version tails tail)
since-ends P first version tails tail keeps u =
    choose (Ends P) (ltb version first) tails (behind tails tail) (λ _. u) (λ _. behind-ends P P tails tail keeps u)

module _ (body : List ℕ) (P : Shape → Type 0) where
  pub whole_reads : (tails : Option Tails) → Ends P tails → Read P (whole body tails)
  whole_reads None u = tt
  whole_reads (Some tails) u = choose (Read P) (eqb tails.at (length body)) (Ok tails.shape) (Err BadSetup) (λ _. u) (λ _. tt)

  -- tails that end in the body
  pub end-ends : (shape : Shape) (end : ℕ) → P shape → Ends P (cond (ltb (length body) end) None (ended_at shape end))
  end-ends shape end u = choose (Ends P) (ltb (length body) end) None (ended_at shape end) (λ _. tt) (λ _. u)

  -- a tail at a place that is off, and ends behind its switch, or on, and ends elsewhere
  pub switched_ends : (at : ℕ) (off on : Shape) (end : ℕ) → P off → P on
      → Ends P
      (cond (leb (length body) at) None
      (cond (eqb (byte body at) 0) (ended_at off (at + 1)) (cond (ltb 1 (byte body at)) None (cond (ltb (length body) end) None (ended_at on end)))))
  switched_ends at off on end u v =
      choose (Ends P) (leb (length body) at) None _ (λ _. tt)
      (λ _. choose (Ends P) (eqb (byte body at) 0) (ended_at off (at + 1)) _ (λ _. u)
      (λ _. choose (Ends P) (ltb 1 (byte body at)) None _ (λ _. tt) (λ _. end-ends on end v)))

  -- a tail of one byte, 0 or 1
  pub byte-ends : (at : ℕ) (shape : Shape) → P shape
      → Ends P (cond (leb (length body) at) None (cond (ltb 1 (byte body at)) None (ended_at shape (at + 1))))
  byte-ends at shape u =
      choose (Ends P) (leb (length body) at) None _ (λ _. tt)
      (λ _. choose (Ends P) (ltb 1 (byte body at)) None (ended_at shape (at + 1)) (λ _. tt) (λ _. u))
