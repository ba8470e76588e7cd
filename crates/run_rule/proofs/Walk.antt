-- A run looked at from a place on: whether the rest is one, and how many records it has. Assumes nothing.
use mathlib.Core.Path.{◌≡◌, refl, sym, ap, ◌∙◌}
use mathlib.Core.Bool.{Bool, true, false, cond, ◌&&◌}
use mathlib.Core.List.{List, [], ◌∷◌}
use mathlib.Core.Logic.{inl, inr}
use Prim.Native.Nat.{ℕ, suc, ◌+◌, ◌-◌, ◌≤◌, ◌<◌}
use native.Mathlib.Omega.{arith}
use borrow.Author.Tests.{le-leb, lt-leb}
use lib.Dec.{leb}
use lib.ListN.{length, length-take, length-drop}
use Rattle.shape.specs.declared.Shape.{Shape}
use Rattle.paper.specs.declared.Next.{Next}
use Rattle.paper.specs.declared.Next.TheVariants.{Record, Fault, End}
use Rattle.paper.specs.Paper.{next_at}
use Rattle.paper.specs.Walk.{Met, part, met_in, place_in}
use Rattle.paper.proofs.Walk.{inside, Stopped, past_end, rests, walk-on}
use Rattle.records.specs.Records.{can_be_read}
use Rattle.run_rule.specs.Ruling.{records_in, all_read, is_run, count_of}
use Rattle.std.specs.Prelude.{None, Some}

-- what stands at a place is no record
pub stopped : (run : List ℕ) (at : ℕ) (next : Next) → ((kind start end : ℕ) → next ≡ Record kind start end → ⊥) → next ≡ next_at run at → Stopped run at
stopped run at (Record kind start end) k e = absurd (k kind start end refl)
stopped run at Fault k e = inr (sym e)
stopped run at End k e = inl (sym e)

module _ (shape : Shape) (run : List ℕ) where
  abbrev pub met_from : (at : ℕ) → List Met
  met_from at = met_in (length run) run at

  abbrev pub is_run_from : (at : ℕ) → Bool
  is_run_from at = leb (length run) (place_in (length run) run at) && all_read shape (met_from at)

  -- by the first record, and the rest behind it
  module _ (at kind start end : ℕ) (e : next_at run at ≡ Record kind start end) where
    pub body_length : length (part run start end) ≡ end - start
    body_length = let i = inside run at kind start end e in simp (length-take, length-drop) (omega arith)

    pub first : is_run_from at ≡ (can_be_read shape kind (end - start) && is_run_from end)
    unfolding all_read
    first =
        let on = walk-on run at kind start end e in
        rw (on.0, on.1, body_length)
        (swapped (leb (length run) (place_in (length run) run end)) (can_be_read shape kind (end - start)) (all_read shape (met_from end))) where
          swapped : (a b c : Bool) → (a && (b && c)) ≡ (b && (a && c))
          swapped true b c = refl
          swapped false true c = refl
          swapped false false c = refl

  -- the rest decides, and behind so many records
  pub record Counting (at count : ℕ) : Type 0 where
    pub inside : at ≤ length run
    pub less : count ≤ at
    pub decides : is_run_from at ≡ is_run shape run
    pub counts : count + length (met_from at) ≡ length (records_in run)

  pub from_start : Counting 0 0
  unfolding is_run
  from_start = record { inside = omega arith; less = omega arith; decides = refl; counts = omega arith }

  module _ {at count : ℕ} (counting : Counting at count) where
    -- a record that can be read is one more, and the rest decides; one that cannot decides, and so does what is no record
    module _ (kind start end : ℕ) (e : next_at run at ≡ Record kind start end) where
      pub one_more_lem : can_be_read shape kind (end - start) ≡ true → Counting end (count + 1)
      one_more_lem can =
          let i = inside run at kind start end e in
          let on = walk-on run at kind start end e in
          let rest : is_run_from at ≡ is_run_from end = rw can at (first at kind start end e) in
          record {
            inside = i.fits;
            less = omega (arith, counting.less);
            decides = sym rest ∙ counting.decides;
            counts = omega (arith, counting.counts, ap length on.0);
          }

      pub unread : can_be_read shape kind (end - start) ≡ false → None ≡ count_of shape run
      unfolding count_of
      unread not =
          let no_run : is_run_from at ≡ false = rw not at (first at kind start end e) in
          rw (sym counting.decides ∙ no_run)

    pub no_record : at < length run → Stopped run at → None ≡ count_of shape run
    unfolding count_of
    no_record h stopped =
        let stays = (rests (length run) run at stopped).1 in
        let short : leb (length run) (place_in (length run) run at) ≡ false = lt-leb (length run) (place_in (length run) run at) (omega (arith, stays)) in
        let no_run = sym counting.decides ∙ ap (λ b. b && all_read shape (met_from at)) short in
        rw no_run

    pub all-counted : length run ≤ at → Some count ≡ count_of shape run
    unfolding count_of all_read
    all-counted h =
        let over = rests (length run) run at (inl (past_end run at h)) in
        let whole : leb (length run) (place_in (length run) run at) ≡ true = le-leb (length run) (place_in (length run) run at) (omega (arith, over.1)) in
        let rest : is_run_from at ≡ true = rw (whole, over.0) in
        let is-run = sym counting.decides ∙ rest in
        let count-is : count ≡ length (records_in run) = omega (arith, counting.counts, ap length over.0) in
        rw (is-run, ← count-is)
