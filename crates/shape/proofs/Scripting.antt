-- Below version 06 scripts are off, below version 07 the log is. Assumes nothing.
use mathlib.Core.Path.{◌≡◌, refl, sym, ap, subst}
use mathlib.Core.Bool.{Bool, true, false}
use mathlib.Core.List.{List}
use Prim.Native.Nat.{ℕ, ◌+◌, ◌<◌}
use native.Mathlib.Omega.{arith}
use borrow.Author.Tests.{lt-ltb}
use lib.Dec.{eqb, ltb}
use Rattle.wire.specs.Wire.{byte}
use Rattle.shape.specs.declared.Family.{Family}
use Rattle.shape.specs.declared.Family.TheVariants.{Cpa, Cpace}
use Rattle.shape.specs.declared.Shape.{Shape}
use Rattle.shape.specs.Shape.{base_length, based, base_tail, file_end, selects, selection_tail, follows, syllabus_tail}
use Rattle.shape.specs.Shape.{dates, dates_end, dating_tail, families, family_end, family_tail, scripts, scripting_tail, since, tails_of, shape_of}
use Rattle.shape.proofs.Ends.{Ends, Read, since-ends, whole_reads, end-ends, switched_ends, byte-ends}
use Rattle.std.specs.Prelude.{None, Ok, Option, Some}
use Rattle.shape.specs.Shape.{span}
use Rattle.shape.specs.declared.Span.{Span}
use Rattle.shape.specs.declared.Tails.{Tails}

-- what holds of a base, and stays with each tail up to version 05
pub record Stays (P : Shape → Type 0) : Type 0 where
  pub base : (n : ℕ) → P (based n)
  pub selected : (shape : Shape) (start end entries : ℕ) → P shape → P (selects shape start end entries)
  pub followed : (shape : Shape) (syllabus : ℕ) → P shape → P (follows shape syllabus)
  pub dated : (shape : Shape) (dating : Option Span) → P shape → P (dates shape dating)
  pub named : (shape : Shape) (family : Family) → P shape → P (families shape family)

module _ (body : List ℕ) where
  -- the tails up to version 05, and up to version 06
  abbrev tails5 : (version : ℕ) → Option Tails
  tails5 version =
      since 5 version
      (since 4 version (since 3 version (since 2 version (base_tail body) (selection_tail body)) (syllabus_tail body)) (dating_tail body))
      (family_tail body)

  abbrev tails6 : (version : ℕ) → Option Tails
  tails6 version = since 6 version (tails5 version) (scripting_tail body)

  module _ (P : Shape → Type 0) (stays : Stays P) where
    base_stays : Ends P (base_tail body)
    unfolding base_tail
    base_stays = end-ends body P (based (base_length body)) (base_length body) (stays.base (base_length body))

    selection_stays : (shape : Shape) (at : ℕ) → P shape → Ends P (selection_tail body shape at)
    unfolding selection_tail
    selection_stays shape at z =
        switched_ends body P at shape _ (file_end body at) z (stays.selected shape (at + 2) (file_end body at) (byte body (at + 1)) z)

    syllabus_stays : (shape : Shape) (at : ℕ) → P shape → Ends P (syllabus_tail body shape at)
    unfolding syllabus_tail
    syllabus_stays shape at z = byte-ends body P at _ (stays.followed shape (byte body at) z)

    dating_stays : (shape : Shape) (at : ℕ) → P shape → Ends P (dating_tail body shape at)
    unfolding dating_tail
    dating_stays shape at z =
        switched_ends body P at _ _ (dates_end body at) (stays.dated shape None z) (stays.dated shape (Some (span at (dates_end body at))) z)

    family_stays : (shape : Shape) (at : ℕ) → P shape → Ends P (family_tail body shape at)
    unfolding family_tail
    family_stays shape at z =
        switched_ends body P at _ _ (family_end body at) (stays.named shape Cpa z) (stays.named shape (Cpace at (family_end body at)) z)

    pub stay_5 : (version : ℕ) → Ends P (tails5 version)
    stay_5 version =
        let file = since-ends P 2 version (base_tail body) (selection_tail body) selection_stays base_stays in
        let rounded = since-ends P 3 version _ (syllabus_tail body) syllabus_stays file in
        let dated = since-ends P 4 version _ (dating_tail body) dating_stays rounded in
        since-ends P 5 version _ (family_tail body) family_stays dated

    scripting_stays : ((shape : Shape) (on : Bool) → P shape → P (scripts shape on)) → (shape : Shape) (at : ℕ) → P shape
        → Ends P (scripting_tail body shape at)
    unfolding scripting_tail
    scripting_stays scripted shape at z = byte-ends body P at _ (scripted shape (eqb (byte body at) 1) z)

    pub stay_6 : ((shape : Shape) (on : Bool) → P shape → P (scripts shape on)) → (version : ℕ) → Ends P (tails6 version)
    stay_6 scripted version = since-ends P 6 version (tails5 version) (scripting_tail body) (scripting_stays scripted) (stay_5 version)

  -- to turn scripts off changes nothing
  abbrev Unscripted : Shape → Type 0
  Unscripted shape = scripts shape false ≡ shape

  unscripted : Stays Unscripted
  unscripted =
      record {
        base = λ n. refl;
        selected = λ shape start end entries z. ap (λ (s : Shape). selects s start end entries) z;
        followed = λ shape syllabus z. ap (λ (s : Shape). follows s syllabus) z;
        dated = λ shape dating z. ap (λ (s : Shape). dates s dating) z;
        named = λ shape family z. ap (λ (s : Shape). families s family) z;
      }

  pub off-before : (version : ℕ) → version < 6 → Ends Unscripted (tails_of version body)
  unfolding tails_of
  off-before version below =
      let log : ltb version 7 ≡ true = lt-ltb version 7 (omega arith) in
      rw (log, lt-ltb version 6 below) (stay_5 Unscripted unscripted version)

  -- BELOW VERSION 06
  pub off-below : (version : ℕ) → version < 6 → (shape : Shape) → shape_of version body ≡ Ok shape → shape.scripting ≡ false
  unfolding shape_of
  off-below version below shape e =
      let off : Unscripted shape = subst (Read Unscripted) e (whole_reads body Unscripted (tails_of version body) (off-before version below)) in
      ap (λ (s : Shape). s.scripting) (sym off)

  abbrev Unlogged : Shape → Type 0
  Unlogged shape = shape.logging ≡ None

  unlogged : Stays Unlogged
  unlogged =
      record {
        base = λ n. refl;
        selected = λ shape start end entries z. z;
        followed = λ shape syllabus z. z;
        dated = λ shape dating z. z;
        named = λ shape family z. z;
      }

  unlogged-before : (version : ℕ) → version < 7 → Ends Unlogged (tails_of version body)
  unfolding tails_of
  unlogged-before version below = rw (lt-ltb version 7 below) (stay_6 Unlogged unlogged (λ shape on z. z) version)

  -- BELOW VERSION 07
  pub unlogged-below : (version : ℕ) → version < 7 → (shape : Shape) → shape_of version body ≡ Ok shape → shape.logging ≡ None
  unfolding shape_of
  unlogged-below version below shape e = subst (Read Unlogged) e (whole_reads body Unlogged (tails_of version body) (unlogged-before version below))
