-- A shape that was read lies in its body: its base, its file, and its tails with dates, with a family and with a log. Assumes nothing.
use mathlib.Core.Path.{◌≡◌, subst}
use mathlib.Core.List.{List}
use Prim.Native.Nat.{ℕ, zero, suc, ◌+◌, ◌≤◌}
use native.Mathlib.Omega.{arith}
use borrow.Author.Tests.{ltb-false}
use lib.Dec.{eqb, ltb, leb}
use lib.ListN.{length}
use Rattle.wire.specs.Wire.{byte}
use Rattle.refusal.specs.declared.Refusal.TheVariants.{BadSetup}
use Rattle.shape.specs.declared.Family.TheVariants.{Cpa, Cpace}
use Rattle.shape.specs.declared.Shape.{Shape}
use Rattle.shape.specs.Shape.{Lies, Spans, Holds, base_length, based, base_tail, entries_end, file_end, selects, selection_tail, follows, syllabus_tail}
use Rattle.shape.specs.Shape.{dates, dates_end, dating_tail, families, family_end, family_tail, scripts, scripting_tail}
use Rattle.shape.specs.Shape.{logs, log_end, logging_tail, since, tails_of, whole, shape_of}
use Rattle.shape.proofs.Either.{choose}
use Rattle.std.specs.Prelude.{Err, None, Ok, Option, Result, Some}
use Rattle.refusal.specs.declared.Refusal.{Refusal}
use Rattle.shape.specs.Shape.{ended_at}
use Rattle.shape.specs.Shape.{span}
use Rattle.shape.specs.declared.Tails.{Tails}

-- entries end where they begin, or behind
pub not_before : (body : List ℕ) (at n : ℕ) → at ≤ entries_end body at n
unfolding entries_end
not_before body at zero = omega arith
not_before body at (suc n) = let before = not_before body at n in omega arith

pub record Inside (shape : Shape) (bytes : ℕ) : Type 0 where
  pub base : shape.base ≤ bytes
  pub file : Lies shape.selecting bytes
  pub tail : Spans shape.dating bytes
  pub family : Holds shape.family bytes
  pub log : Spans shape.logging bytes

abbrev Within : ℕ → Option Tails → Type 0
Within bytes None = Unit
Within bytes (Some tails) = Inside tails.shape bytes

module _ (body : List ℕ) where
  abbrev In : Option Tails → Type 0
  In = Within (length body)

  base_in_lem : In (base_tail body)
  unfolding base_tail
  base_in_lem =
      choose In (ltb (length body) (base_length body)) None (ended_at (based (base_length body)) (base_length body)) (λ _. tt)
      (λ e. record { base = ltb-false _ _ e; file = tt; tail = tt; family = tt; log = tt })

  selection_in : (shape : Shape) (at : ℕ) → Inside shape (length body) → In (selection_tail body shape at)
  unfolding selection_tail
  selection_in shape at i =
      choose In (leb (length body) at) None _ (λ _. tt)
      (λ _. choose In (eqb (byte body at) 0) (ended_at shape (at + 1)) _ (λ _. i)
      (λ _. choose In (ltb 1 (byte body at)) None _ (λ _. tt)
      (λ _. choose In (ltb (length body) (file_end body at)) None
      (ended_at (selects shape (at + 2) (file_end body at) (byte body (at + 1))) (file_end body at)) (λ _. tt)
      (λ e. record { base = i.base; file = (not_before body (at + 2) (byte body (at + 1)), ltb-false _ _ e); tail = i.tail; family = i.family; log = i.log }))))

  syllabus_in_lem : (shape : Shape) (at : ℕ) → Inside shape (length body) → In (syllabus_tail body shape at)
  unfolding syllabus_tail
  syllabus_in_lem shape at i =
      choose In (leb (length body) at) None _ (λ _. tt)
      (λ _. choose In (ltb 1 (byte body at)) None (ended_at (follows shape (byte body at)) (at + 1)) (λ _. tt)
      (λ _. record { base = i.base; file = i.file; tail = i.tail; family = i.family; log = i.log }))

  dating_in_lem : (shape : Shape) (at : ℕ) → Inside shape (length body) → In (dating_tail body shape at)
  unfolding dating_tail
  dating_in_lem shape at i =
      choose In (leb (length body) at) None _ (λ _. tt)
      (λ _. choose In (eqb (byte body at) 0) (ended_at (dates shape None) (at + 1)) _
      (λ _. record { base = i.base; file = i.file; tail = tt; family = i.family; log = i.log })
      (λ _. choose In (ltb 1 (byte body at)) None _ (λ _. tt)
      (λ _. choose In (ltb (length body) (dates_end body at)) None (ended_at (dates shape (Some (span at (dates_end body at)))) (dates_end body at)) (λ _. tt)
      (λ e. record { base = i.base; file = i.file; tail = (omega arith, ltb-false _ _ e); family = i.family; log = i.log }))))

  family_in_lem : (shape : Shape) (at : ℕ) → Inside shape (length body) → In (family_tail body shape at)
  unfolding family_tail
  family_in_lem shape at i =
      choose In (leb (length body) at) None _ (λ _. tt)
      (λ _. choose In (eqb (byte body at) 0) (ended_at (families shape Cpa) (at + 1)) _
      (λ _. record { base = i.base; file = i.file; tail = i.tail; family = tt; log = i.log })
      (λ _. choose In (ltb 1 (byte body at)) None _ (λ _. tt)
      (λ _. choose In (ltb (length body) (family_end body at)) None (ended_at (families shape (Cpace at (family_end body at))) (family_end body at)) (λ _. tt)
      (λ e. record { base = i.base; file = i.file; tail = i.tail; family = (omega arith, ltb-false _ _ e); log = i.log }))))

  scripting_in : (shape : Shape) (at : ℕ) → Inside shape (length body) → In (scripting_tail body shape at)
  unfolding scripting_tail
  scripting_in shape at i =
      choose In (leb (length body) at) None _ (λ _. tt)
      (λ _. choose In (ltb 1 (byte body at)) None (ended_at (scripts shape (eqb (byte body at) 1)) (at + 1)) (λ _. tt)
      (λ _. record { base = i.base; file = i.file; tail = i.tail; family = i.family; log = i.log }))

  logging_in_lem : (shape : Shape) (at : ℕ) → Inside shape (length body) → In (logging_tail body shape at)
  unfolding logging_tail
  logging_in_lem shape at i =
      choose In (leb (length body) at) None _ (λ _. tt)
      (λ _. choose In (eqb (byte body at) 0) (ended_at shape (at + 1)) _ (λ _. i)
      (λ _. choose In (ltb 1 (byte body at)) None _ (λ _. tt)
      (λ _. choose In (ltb (length body) (log_end body at)) None (ended_at (logs shape (Some (span at (log_end body at)))) (log_end body at)) (λ _. tt)
      (λ e. record { base = i.base; file = i.file; tail = i.tail; family = i.family; log = (omega arith, ltb-false _ _ e) }))))

  since_in : (first version : ℕ) (before : Option Tails) (tail : Shape → ℕ → Option Tails) → In before
      → ((shape : Shape) (at : ℕ) → Inside shape (length body) → In (tail shape at))
      → In (since first version before tail)
  since_in first version None tail i then = choose In (ltb version first) None None (λ _. tt) (λ _. tt)
  since_in first version (Some tails) tail i then = choose In (ltb version first) (Some tails) (tail tails.shape tails.at) (λ _. i) (λ _. then tails.shape tails.at i)

  tails_in_lem : (version : ℕ) → In (tails_of version body)
  unfolding tails_of
  tails_in_lem version =
      let file = since_in 2 version (base_tail body) (selection_tail body) base_in_lem selection_in in
      let rounded = since_in 3 version _ (syllabus_tail body) file syllabus_in_lem in
      let named = since_in 5 version _ (family_tail body) (since_in 4 version _ (dating_tail body) rounded dating_in_lem) family_in_lem in
      since_in 7 version _ (logging_tail body) (since_in 6 version _ (scripting_tail body) named scripting_in) logging_in_lem

  abbrev Read : Result Shape Refusal → Type 0
  Read (Ok shape) = Inside shape (length body)
  Read (Err refusal) = Unit

  whole_in : (tails : Option Tails) → In tails → Read (whole body tails)
  whole_in None i = tt
  whole_in (Some tails) i = choose Read (eqb tails.at (length body)) (Ok tails.shape) (Err BadSetup) (λ _. i) (λ _. tt)

  pub inside : (version : ℕ) (shape : Shape) → shape_of version body ≡ Ok shape → Inside shape (length body)
  unfolding shape_of
  inside version shape e = subst Read e (whole_in (tails_of version body) (tails_in_lem version))
