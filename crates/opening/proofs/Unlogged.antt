-- Where the log is off, as it is below version 07, there is none to judge. Assumes nothing.
use mathlib.Core.Path.{◌≡◌, refl, subst, sym}
use mathlib.Core.List.{List}
use Prim.Native.Nat.{ℕ, ◌<◌}
use Rattle.shape.specs.declared.Shape.{Shape}
use Rattle.shape.specs.Shape.{shape_of}
use Rattle.shape.proofs.Scripting.{unlogged-below}
use Rattle.opening.specs.Opening.{log_found, log_judged}
use Rattle.std.specs.Prelude.{None, Ok, Option}
use Rattle.shape.specs.declared.Span.{Span}

pub sound_off : (shape : Shape) (body : List ℕ) → shape.logging ≡ None → log_judged shape body ≡ Ok tt
unfolding log_judged
sound_off shape body off = subst (λ (logging : Option Span). log_found logging shape body ≡ Ok tt) (sym off) refl

pub sound_below : (version : ℕ) → version < 7 → (body : List ℕ) (shape : Shape) → shape_of version body ≡ Ok shape → log_judged shape body ≡ Ok tt
sound_below version below body shape e = sound_off shape body (unlogged-below body version below shape e)
