-- A run watched from a place on: what is in the ring, and the records still to come. Assumes nothing.
use mathlib.Core.Path.{◌≡◌, refl, sym, ap, ◌∙◌}
use mathlib.Core.List.{List}
use mathlib.Core.Logic.{inl, inr}
use Prim.Native.Nat.{ℕ, ◌+◌, ◌*◌, ◌-◌, ◌^◌, ◌≤◌, ◌<◌}
use native.Mathlib.Nat.{add-zero}
use native.Mathlib.Omega.{arith}
use borrow.Author.Tests.{lt-ltb, le-ltb}
use lib.ListN.{length, drop, length-take, length-drop}
use lib.Seq.{drop-drop}
use Rattle.wire.specs.Wire.{byte, number}
use Rattle.wire.proofs.Numbers.{split, one}
use Rattle.state.specs.declared.Kind.{Kind}
use Rattle.paper.specs.declared.Next.{Next}
use Rattle.paper.specs.declared.Next.TheVariants.{Record, Fault, End}
use Rattle.paper.specs.Paper.{next_at}
use Rattle.paper.specs.Walk.{part, met_in}
use Rattle.paper.proofs.Walk.{inside, Stopped, past_end, rests, walk-on}
use Rattle.answers.specs.Answers.{size}
use Rattle.journal.specs.declared.Logging.{Logging}
use Rattle.journal.specs.declared.Cryptogram.{Cryptogram}
use Rattle.run_log.specs.RunLog.{heard_by, watched_answer, ring_over, ring_run}

-- ---- a cryptogram, field by field

pub five : (s : List ℕ) (at : ℕ) → byte s at * 4294967296 + number s (at + 1) 4 ≡ number s at 5
five s at = sym (split s at 1 4 ∙ ap (λ (n : ℕ). n * 4294967296 + number s (at + 1) 4) (one s at))

abbrev fields : Kind → (atc profile cvr : ℕ) → Cryptogram
fields kind atc profile cvr = record { kind = kind; atc = atc; profile = profile; cvr = cvr }

pub same-fields : {kind kind' : Kind} {atc atc' profile profile' cvr cvr' : ℕ} → kind ≡ kind' → atc ≡ atc' → profile ≡ profile' → cvr ≡ cvr'
    → fields kind atc profile cvr ≡ fields kind' atc' profile' cvr'
same-fields k a p c = rw (k, a, p, c)

-- ---- the loop

-- what stands at a place is no record
pub stopped : (s : List ℕ) (at : ℕ) (next : Next) → ((kind start end : ℕ) → next ≡ Record kind start end → ⊥) → next ≡ next_at s at → Stopped s at
stopped s at (Record kind start end) none e = absurd (none kind start end refl)
stopped s at Fault none e = inr (sym e)
stopped s at End none e = inl (sym e)

module _ (logging : Logging) (records : List ℕ) (place : ℕ) (answers : List ℕ) where
  abbrev rest : (at from : ℕ) (ring : List ℕ) → List ℕ
  rest at from ring = ring_over logging (place + at) (met_in (length records) records at) (drop from answers) ring

  pub record Going (ring₀ ring : List ℕ) (at from : ℕ) : Type 0 where
    pub inside : at ≤ length records
    pub within : from ≤ length answers
    pub short : length answers < 2 ^ 64
    pub same : ring_run logging records place answers ring₀ ≡ rest at from ring

  pub begin : (ring : List ℕ) → length answers < 2 ^ 64 → Going ring ring 0 0
  unfolding ring_run
  begin ring h = record { inside = omega arith; within = omega arith; short = h; same = rw (add-zero place) }

  module _ {ring₀ ring : List ℕ} {at from : ℕ} (going : Going ring₀ ring at from) where
    module _ (kind start end : ℕ) (e : next_at records at ≡ Record kind start end) where
      pub missing : length answers - from < size → ring ≡ ring_run logging records place answers ring₀
      unfolding ring_over
      missing h =
          let on = (walk-on records at kind start end e).0 in
          let short = lt-ltb (length (drop from answers)) size (omega (arith, length-drop from answers)) in
          let is : rest at from ring ≡ ring = rw (on, short) in
          sym (going.same ∙ is)

      pub one_more_lem : size ≤ length answers - from →
          let then = watched_answer logging (heard_by kind (part records start end)) (place + start) (drop from answers) ring in
          Going ring₀ then end (from + size)
      unfolding ring_over
      one_more_lem h =
          let i = inside records at kind start end e in
          let on = (walk-on records at kind start end e).0 in
          let long = le-ltb (length (drop from answers)) size (omega (arith, length-drop from answers)) in
          let body : length (part records start end) ≡ end - start =
          omega (arith, length-take (end - start) (drop start records), length-drop start records, i.fits, i.start_is, i.holds) in
          let here : place + at + 3 ≡ place + start = omega (arith, i.start_is) in
          let next : place + at + 3 + length (part records start end) ≡ place + end = omega (arith, body, i.start_is, i.holds) in
          let left = drop-drop size from answers in
          record {
            inside = i.fits;
            within = omega (arith, going.within);
            short = going.short;
            same = going.same ∙ rw (on, long, next, here, left);
          }

    pub stops : Stopped records at → ring ≡ ring_run logging records place answers ring₀
    unfolding ring_over
    stops s =
        let none = (rests (length records) records at s).0 in
        let is : rest at from ring ≡ ring = rw none in
        sym (going.same ∙ is)

    pub over : length records ≤ at → ring ≡ ring_run logging records place answers ring₀
    over h = stops (inl (past_end records at h))
