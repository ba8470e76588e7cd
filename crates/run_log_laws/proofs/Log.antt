-- What goes into a log stands in the set-up, and records behind the paper leave it. Assumes nothing.
use mathlib.Core.Path.{◌≡◌, refl, sym, ap, subst, ◌∙◌}
use mathlib.Core.Bool.{Bool}
use mathlib.Core.List.{List, ◌++◌}
use Prim.Native.Nat.{ℕ, ◌+◌, ◌-◌, ◌≤◌}
use native.Mathlib.Omega.{arith}
use borrow.Author.Tests.{le-leb}
use lib.ListN.{length, take, drop, length-append, length-drop}
use lib.Seq.{take-append-le, drop-append-le}
use Rattle.rules.specs.Rules.{Rules}
use Rattle.setup.specs.Setup.{is_accepted}
use Rattle.shape.specs.declared.Shape.{Shape}
use Rattle.shape.specs.Shape.{Spans, base_part, tail_part, family_part, span_at, shape_of, shape_at}
use Rattle.shape.proofs.Inside as Inside
use Rattle.paper.specs.Walk.{part}
use Rattle.paper.proofs.Walk.{inside}
use Rattle.begun.specs.declared.Begun.{Begun}
use Rattle.begun.specs.Begun.{past_begun, base_begun}
use Rattle.opening.specs.Opening.{log_judged, logged_begun, shaped_begun, setup_begun, opened_begun, begun_of}
use Rattle.opening.proofs.Parts.{part_length}
use Rattle.records.specs.declared.Event.TheVariants.{SetUp}
use Rattle.paper_log.specs.Log.{tail_at, logging_in, tailed, log_of}
use Rattle.run_laws.proofs.Sitting.{Opens}
use Rattle.std.specs.Prelude.{Err, None, Ok, Option, Result, Some}
use Rattle.log_tail.specs.declared.Fault.{Fault}
use Rattle.log_tail.specs.declared.Fault.TheVariants.{PastData}
use Rattle.log_tail.specs.declared.Fault.TheVariants.{Wrong}
use Rattle.refusal.specs.declared.Refusal.{Refusal}
use Rattle.shape.specs.declared.Span.{Span}

-- the log's tail lies in the paper
module _ (p : List ℕ) (version start end : ℕ) (o : Opens p version start end) where
  abbrev body : List ℕ
  body = part p start end

  body_in_lem : start + length body ≤ length p
  body_in_lem =
      let i = inside p 1 1 start end o.first in
      let size = part_length p start end (omega (arith, i.start_is, i.holds)) i.fits in
      omega (arith, size, i.start_is, i.holds, i.fits)

  keeps_at : (logging : Option Span) → Spans logging (length body) → Spans (span_at start logging) (length p)
  keeps_at None keeps = tt
  keeps_at (Some part) keeps = (omega (arith, keeps.0), omega (arith, keeps.1, body_in_lem))

  pub tail_in : (begun_of p).event ≡ SetUp → Spans (begun_of p).shape.logging (length p)
  unfolding begun_of setup_begun base_begun past_begun
  tail_in e =
      subst (λ opened. (opened_begun p opened).event ≡ SetUp → Spans (opened_begun p opened).shape.logging (length p)) (sym o.is)
      (by (shape_of version body) refl) e where
        by-log : (judged : Result Unit Fault) (good : Bool) (begun : Begun) → Spans begun.shape.logging (length p)
            → (logged_begun judged good end begun).event ≡ SetUp → Spans (logged_begun judged good end begun).shape.logging (length p)
        by-log (Ok done) good begun keeps e = keeps
        by-log (Err Wrong) good begun keeps e = absurd (let z : ◌≡◌ {A = ℕ} 0 1 = cc in omega arith)
        by-log (Err PastData) good begun keeps e = absurd (let z : ◌≡◌ {A = ℕ} 0 1 = cc in omega arith)

        by : (read : Result Shape Refusal) → shape_of version body ≡ read → (shaped_begun body start end read).event ≡ SetUp
            → Spans (shaped_begun body start end read).shape.logging (length p)
        by (Err refusal) s e = absurd (let z : ◌≡◌ {A = ℕ} 0 1 = cc in omega arith)
        by (Ok shape) s e =
            let base = base_part shape body in
            let cycles = tail_part shape.dating body in
            let family = family_part shape.family body in
            by-log (log_judged shape body) (is_accepted base cycles family shape.unnamed) (base_begun (shape_at start shape) base cycles family end)
            (keeps_at shape.logging (Inside.inside body version shape s).log)
            e

module _ (p r : List ℕ) where
  tail_stays : (start end : ℕ) → start ≤ end → end ≤ length p → tail_at (p ++ r) start end ≡ tail_at p start end
  tail_stays start end h l =
      let long = length-append p r in
      let rest = length-drop start p in
      let in_order = le-leb start end h in
      let here = le-leb end (length p) l in
      let there = le-leb end (length (p ++ r)) (omega (arith, long)) in
      let same : take (end - start) (drop start (p ++ r)) ≡ take (end - start) (drop start p) =
      ap (take (end - start)) (drop-append-le start p r (omega arith)) ∙ take-append-le (end - start) (drop start p) r (omega (arith, rest)) in
      rw (in_order, here, there, same)

  pub logging_same : (rules : Rules) (shape : Shape) → Spans shape.logging (length p) → (log_of rules shape (p ++ r)).logging ≡ (log_of rules shape p).logging
  unfolding log_of
  logging_same rules shape = by shape.logging where
    by : (logging : Option Span) → Spans logging (length p) → (tailed rules shape (p ++ r) logging).logging ≡ (tailed rules shape p logging).logging
    by None keeps = refl
    by (Some part) keeps = ap (logging_in rules) (tail_stays part.start part.end keeps.0 keeps.1)
