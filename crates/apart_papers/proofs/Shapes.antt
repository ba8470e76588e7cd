-- The shape of a set-up hangs on no start, and its tails stand behind the head. Assumes nothing.
use mathlib.Core.Path.{◌≡◌, refl, ap, ap₂, subst, ◌∙◌}
use mathlib.Core.Bool.{Bool, true, false, cond}
use mathlib.Core.List.{List}
use Prim.Native.Nat.{ℕ, zero, suc, ◌+◌, ◌-◌, ◌*◌, ◌≤◌}
use native.Mathlib.Omega.{arith}
use lib.Dec.{eqb, ltb, leb}
use lib.ListN.{length, take}
use Rattle.wire.specs.Wire.{byte}
use Rattle.refusal.specs.declared.Refusal.TheVariants.{BadSetup}
use Rattle.shape.specs.declared.Family.{Family}
use Rattle.shape.specs.declared.Family.TheVariants.{Cpa, Cpace}
use Rattle.shape.specs.declared.Shape.{Shape}
use Rattle.shape.specs.Shape.{base_length, based, base_tail, entries_end, file_end, selects, selection_tail, follows, syllabus_tail, dates, dates_end, dating_tail}
use Rattle.shape.specs.Shape.{families, family_end, family_tail, scripts, scripting_tail, logs, table_end, log_end, logging_tail}
use Rattle.shape.specs.Shape.{behind, since, tails_of, whole, shape_of}
use Rattle.shape.specs.Shape.{tail_part, family_part}
use Rattle.apart_papers.proofs.Bytes.{Shared, late_drop}
use Rattle.std.specs.Prelude.{Err, None, Ok, Option, Some}
use Rattle.shape.specs.Shape.{ended_at}
use Rattle.shape.specs.Shape.{span}
use Rattle.shape.specs.declared.SelectionFile.{SelectionFile}
use Rattle.shape.specs.declared.Span.{Span}
use Rattle.shape.specs.declared.Tails.{Tails}

-- ---- behind the head

abbrev pub LateSelecting : Option SelectionFile → Type 0
LateSelecting None = Unit
LateSelecting (Some part) = 52 ≤ part.start

abbrev pub LateDating : Option Span → Type 0
LateDating None = Unit
LateDating (Some part) = 52 ≤ part.start

abbrev pub LateFamily : Family → Type 0
LateFamily Cpa = Unit
LateFamily (Cpace start end) = 52 ≤ start

abbrev pub LateLogging : Option Span → Type 0
LateLogging None = Unit
LateLogging (Some part) = 52 ≤ part.start

pub record Late (shape : Shape) : Type 0 where
  pub selecting : LateSelecting shape.selecting
  pub dating : LateDating shape.dating
  pub family : LateFamily shape.family
  pub logging : LateLogging shape.logging

abbrev LateTails : Option Tails → Type 0
LateTails None = Unit
LateTails (Some tails) = Late tails.shape × (52 ≤ tails.at)

-- ---- tests one behind the other

two_ways : (a b : Bool) (ended : Option Tails) → LateTails ended → LateTails (cond a None (cond b None ended))
two_ways true b ended h = tt
two_ways false true ended h = tt
two_ways false false ended h = h

four_ways : (a b c d : Bool) (off on : Option Tails) → LateTails off → LateTails on → LateTails (cond a None (cond b off (cond c None (cond d None on))))
four_ways true b c d off on h k = tt
four_ways false true c d off on h k = h
four_ways false false true d off on h k = tt
four_ways false false false true off on h k = tt
four_ways false false false false off on h k = k

entries-late : (s : List ℕ) (at n : ℕ) → at ≤ entries_end s at n
unfolding entries_end
entries-late s at zero = omega arith
entries-late s at (suc n) = let h = entries-late s at n in omega arith

-- the same tails of two bodies, and late ones
pub record Both (a b : Option Tails) : Type 0 where
  pub same : a ≡ b
  pub late : LateTails a

module _ (s t : List ℕ) (share : Shared s t) where
  long : length s ≡ length t
  long = share.as_long

  entries-same : (at n : ℕ) → 52 ≤ at → entries_end s at n ≡ entries_end t at n
  unfolding entries_end
  entries-same at zero h = refl
  entries-same at (suc n) h =
      let e = entries-same at n h in
      let l = entries-late s at n in
      ap₂ (λ (a b : ℕ). a + 1 + b) e (share.late (entries_end s at n) (omega arith) ∙ ap (byte t) e)

  base_both : Both (base_tail s) (base_tail t)
  unfolding base_tail
  base_both =
      record {
        same = rw (long, share.early 3 (omega arith), share.early 4 (omega arith));
        late = by (ltb (length s) (base_length s));
      }
    where
      by : (b : Bool) → LateTails (cond b None (ended_at (based (base_length s)) (base_length s)))
      by true = tt
      by false = (record { selecting = tt; dating = tt; family = tt; logging = tt }, omega arith)

  module _ (shape : Shape) (at : ℕ) (l : Late shape) (h : 52 ≤ at) where
    here : byte s at ≡ byte t at
    here = share.late at h

    selection_both : Both (selection_tail s shape at) (selection_tail t shape at)
    unfolding selection_tail
    selection_both =
        let n = share.late (at + 1) (omega arith) in
        let e : file_end s at ≡ file_end t at =
        entries-same (at + 2) (byte s (at + 1)) (omega arith) ∙ ap (entries_end t (at + 2)) n in
        record {
          same = rw (long, here, e, n);
          late =
              four_ways (leb (length s) at) (eqb (byte s at) 0) (ltb 1 (byte s at)) (ltb (length s) (file_end s at)) (ended_at shape (at + 1))
              (ended_at (selects shape (at + 2) (file_end s at) (byte s (at + 1))) (file_end s at)) (l, omega arith) (
                record { selecting = omega arith; dating = l.dating; family = l.family; logging = l.logging },
                omega (arith, entries-late s (at + 2) (byte s (at + 1))),
              );
        }

    syllabus_both : Both (syllabus_tail s shape at) (syllabus_tail t shape at)
    unfolding syllabus_tail
    syllabus_both =
        record {
          same = rw (long, here);
          late =
              two_ways (leb (length s) at) (ltb 1 (byte s at)) (ended_at (follows shape (byte s at)) (at + 1))
              (record { selecting = l.selecting; dating = l.dating; family = l.family; logging = l.logging }, omega arith);
        }

    dating_both : Both (dating_tail s shape at) (dating_tail t shape at)
    unfolding dating_tail
    dating_both =
        record {
          same = rw (long, here, share.early 3 (omega arith));
          late =
              four_ways (leb (length s) at) (eqb (byte s at) 0) (ltb 1 (byte s at)) (ltb (length s) (dates_end s at)) (ended_at (dates shape None) (at + 1))
              (ended_at (dates shape (Some (span at (dates_end s at)))) (dates_end s at))
              (record { selecting = l.selecting; dating = tt; family = l.family; logging = l.logging }, omega arith)
              (record { selecting = l.selecting; dating = h; family = l.family; logging = l.logging }, omega arith);
        }

    family_both : Both (family_tail s shape at) (family_tail t shape at)
    unfolding family_tail
    family_both =
        record {
          same = rw (long, here, share.early 3 (omega arith));
          late =
              four_ways (leb (length s) at) (eqb (byte s at) 0) (ltb 1 (byte s at)) (ltb (length s) (family_end s at)) (ended_at (families shape Cpa) (at + 1))
              (ended_at (families shape (Cpace at (family_end s at))) (family_end s at))
              (record { selecting = l.selecting; dating = l.dating; family = tt; logging = l.logging }, omega arith)
              (record { selecting = l.selecting; dating = l.dating; family = h; logging = l.logging }, omega arith);
        }

    scripting_both : Both (scripting_tail s shape at) (scripting_tail t shape at)
    unfolding scripting_tail
    scripting_both =
        record {
          same = rw (long, here);
          late =
              two_ways (leb (length s) at) (ltb 1 (byte s at)) (ended_at (scripts shape (eqb (byte s at) 1)) (at + 1))
              (record { selecting = l.selecting; dating = l.dating; family = l.family; logging = l.logging }, omega arith);
        }

    table_same : (k : ℕ) → 52 ≤ k → table_end s k ≡ table_end t k
    table_same k b = ap (λ (n : ℕ). k + 1 + 3 * n) (share.late k b)

    log-same : log_end s at ≡ log_end t at
    log-same =
        let p = share.early 3 (omega arith) in
        let k = at + 3 + byte s 3 in
        table_same (table_end s k) (omega arith)
        ∙ ap (table_end t) (table_same k (omega arith) ∙ ap (λ (n : ℕ). table_end t (at + 3 + n)) p)

    logging_both : Both (logging_tail s shape at) (logging_tail t shape at)
    unfolding logging_tail
    logging_both =
        record {
          same = rw (long, here, log-same);
          late =
              four_ways (leb (length s) at) (eqb (byte s at) 0) (ltb 1 (byte s at)) (ltb (length s) (log_end s at)) (ended_at shape (at + 1))
              (ended_at (logs shape (Some (span at (log_end s at)))) (log_end s at)) (l, omega arith)
              (record { selecting = l.selecting; dating = l.dating; family = l.family; logging = h }, omega arith);
        }

-- one tail behind another
since_both : (first version : ℕ) (a b : Option Tails) (f g : Shape → ℕ → Option Tails) → Both a b
    → ((shape : Shape) (at : ℕ) → Late shape → 52 ≤ at → Both (f shape at) (g shape at)) → Both (since first version a f) (since first version b g)
since_both first version a b f g both on =
    subst (λ (c : Option Tails). Both (since first version a f) (since first version c g)) both.same (by (ltb version first) a both.late)
  where
    by-tails : (c : Option Tails) → LateTails c → Both (behind c f) (behind c g)
    by-tails None l = record { same = refl; late = tt }
    by-tails (Some tails) l = on tails.shape tails.at l.0 l.1

    by : (older : Bool) (c : Option Tails) → LateTails c → Both (cond older c (behind c f)) (cond older c (behind c g))
    by true c l = record { same = refl; late = l }
    by false c l = by-tails c l

module _ (s t : List ℕ) (share : Shared s t) (version : ℕ) where
  tails_both : Both (tails_of version s) (tails_of version t)
  unfolding tails_of
  tails_both =
      since_both 7 version _ _ (logging_tail s) (logging_tail t)
      (since_both 6 version _ _ (scripting_tail s) (scripting_tail t)
      (since_both 5 version _ _ (family_tail s) (family_tail t)
      (since_both 4 version _ _ (dating_tail s) (dating_tail t)
      (since_both 3 version _ _ (syllabus_tail s) (syllabus_tail t)
      (since_both 2 version (base_tail s) (base_tail t) (selection_tail s) (selection_tail t) (base_both s t share) (selection_both s t share))
      (syllabus_both s t share)) (dating_both s t share)) (family_both s t share)) (scripting_both s t share)) (logging_both s t share)

  -- THE SHAPE
  pub shape_same : shape_of version s ≡ shape_of version t
  unfolding shape_of
  shape_same =
      ap (whole s) tails_both.same ∙ by (tails_of version t) where
        by : (tails : Option Tails) → whole s tails ≡ whole t tails
        by None = refl
        by (Some tails) = ap (λ (n : ℕ). cond (eqb tails.at n) (Ok tails.shape) (Err BadSetup)) share.as_long

  pub shape-late : (shape : Shape) → shape_of version s ≡ Ok shape → Late shape
  unfolding shape_of
  shape-late shape e = by (tails_of version s) tails_both.late e where
    by_end : (b : Bool) (found : Shape) → Late found → cond b (Ok found) (Err BadSetup) ≡ Ok shape → Late shape
    by_end true found l e = subst Late (let z : found ≡ shape = cc in z) l
    by_end false found l e = let z : ◌≡◌ {A = ℕ} 0 1 = cc in absurd (omega arith)

    by : (tails : Option Tails) → LateTails tails → whole s tails ≡ Ok shape → Late shape
    by None l e = let z : ◌≡◌ {A = ℕ} 0 1 = cc in absurd (omega arith)
    by (Some tails) l e = by_end (eqb tails.at (length s)) tails.shape l.0 e

  -- its parts behind the base
  pub cycles-same : (dating : Option Span) → LateDating dating → tail_part dating s ≡ tail_part dating t
  cycles-same None l = refl
  cycles-same (Some part) l = ap (take (part.end - part.start)) (late_drop s t share part.start l)

  pub family-same : (family : Family) → LateFamily family → family_part family s ≡ family_part family t
  family-same Cpa l = refl
  family-same (Cpace start end) l = ap (take (end - start)) (late_drop s t share start l)

  pub log-part-same : (logging : Option Span) → LateLogging logging → tail_part logging s ≡ tail_part logging t
  log-part-same None l = refl
  log-part-same (Some part) l = ap (take (part.end - part.start)) (late_drop s t share part.start l)
