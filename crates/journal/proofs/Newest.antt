-- After every list of answered records the ring has the newest of the logged transactions. Assumes nothing.
use mathlib.Core.Path.{◌≡◌, refl, ◌∙◌}
use mathlib.Core.Bool.{Bool, true, false, cond, ◌&&◌}
use mathlib.Core.List.{List, [], ◌∷◌, ◌++◌}
use Prim.Native.Nat.{ℕ}
use native.Mathlib.Omega.{arith}
use Rattle.state.specs.declared.Answer.{Answer}
use Rattle.state.specs.declared.Answer.TheVariants.{Refused, Started, Given, Done}
use Rattle.ring.specs.declared.Record.{Record}
use Rattle.ring.specs.Ring.{slots_of, no_records, first_place, first_opened, added}
use Rattle.ring.proofs.Newest.{Holds, none_held, opened_held, added-kept, first_stays, first-opened, Newest, read}
use Rattle.journal.specs.declared.Logging.{Logging}
use Rattle.journal.specs.declared.Cryptogram.{Cryptogram}
use Rattle.journal.specs.declared.Heard.{Heard}
use Rattle.journal.specs.declared.Heard.TheVariants.{First, Second, Other}
use Rattle.journal.specs.Journal.{is_logged, closed_by, noted, watched}
use Rattle.journal.specs.Logged.{Seen, cryptogram, is_first, is_given, first_in, logged_given, logged_by, logged_in, heard_out, ring_after, ring_through, turned}

module _ (logging : Logging) where
  abbrev slots : ℕ
  slots = slots_of logging.size

  -- the logged transactions are held, and the place of the First that a Second may close is known
  record Kept (first : ℕ) (logged : List Record) (ring : List ℕ) : Type 0 where
    held : Holds slots logged ring
    place : first_place ring ≡ first

  noted-kept : (said : Heard) (given : Cryptogram) (first : ℕ) (closed : Record) (logged : List Record) (ring : List ℕ) → Kept first logged ring
      → Kept first (cond (is_logged logging said given) (closed ∷ []) [] ++ logged) (noted logging said given closed ring)
  unfolding noted
  noted-kept said given first closed logged ring kept = by (is_logged logging said given) where
    by : (b : Bool) → Kept first (cond b (closed ∷ []) [] ++ logged) (cond b (added logging.size closed ring) ring)
    by true =
        record {
          held = added-kept logging.size logged ring closed kept.held;
          place = first_stays logging.size closed ring ∙ kept.place;
        }
    by false = kept

  given-kept : (said : Heard) (at first : ℕ) (given : Cryptogram) (logged : List Record) (ring : List ℕ) → Kept first logged ring
      → Kept (cond (is_first said) at first) (logged_given logging said at first given ++ logged) (watched logging said at given ring)
  unfolding watched
  given-kept First at first given logged ring kept =
      noted-kept First given at (closed_by at 0 given) logged (first_opened ring at)
      (record { held = opened_held slots logged ring at kept.held; place = first-opened slots logged ring at kept.held })
  given-kept (Second code) at first given logged ring kept =
      rw (← kept.place) (noted-kept (Second code) given (first_place ring) (closed_by (first_place ring) at given) logged ring (again kept)) where
        again : Kept first logged ring → Kept (first_place ring) logged ring
        again k = record { held = k.held; place = refl }
  given-kept Other at first given logged ring kept = by (is_logged logging Other given) where
    by : (b : Bool) → Kept first (cond b [] [] ++ logged) ring
    by true = kept
    by false = kept

  seen-kept : (seen : Seen) (before : List Seen) (ring : List ℕ) → Kept (first_in before) (logged_in logging before) ring
      → Kept (first_in (seen ∷ before)) (logged_in logging (seen ∷ before)) (heard_out logging seen.said seen.at seen.answer ring)
  unfolding first_in logged_in
  seen-kept seen before ring kept = by seen.said seen.answer where
    by : (said : Heard) (answer : Answer)
        → Kept (cond (is_first said && is_given answer) seen.at (first_in before))
        (logged_by logging said seen.at (first_in before) answer ++ logged_in logging before) (heard_out logging said seen.at answer ring)
    by First (Refused refusal) = kept
    by (Second code) (Refused refusal) = kept
    by Other (Refused refusal) = kept
    by First (Started atc visits) = kept
    by (Second code) (Started atc visits) = kept
    by Other (Started atc visits) = kept
    by First (Given kind atc iad) = given-kept First seen.at (first_in before) (cryptogram kind atc iad) (logged_in logging before) ring kept
    by (Second code) (Given kind atc iad) =
        given-kept (Second code) seen.at (first_in before) (cryptogram kind atc iad) (logged_in logging before) ring kept
    by Other (Given kind atc iad) = given-kept Other seen.at (first_in before) (cryptogram kind atc iad) (logged_in logging before) ring kept
    by First Done = kept
    by (Second code) Done = kept
    by Other Done = kept

  all-kept : (seen : List Seen) → Kept (first_in seen) (logged_in logging seen) (ring_after logging seen)
  unfolding ring_after
  all-kept [] = (unfold first_in logged_in in record { held = none_held slots; place = refl })
  all-kept (one ∷ before) = seen-kept one before (ring_after logging before) (all-kept before)

  -- THE RING: so many records as were logged, or as it has slots; record k is the k-th newest of those logged, and there is no further one
  pub logged-newest : (seen : List Seen) → Newest logging.size (logged_in logging seen) (ring_after logging seen)
  logged-newest seen = read logging.size (logged_in logging seen) (ring_after logging seen) (all-kept seen).held

  -- told from the beginning
  through : (before seen : List Seen) → ring_through logging (ring_after logging before) seen ≡ ring_after logging (turned before seen)
  unfolding ring_through ring_after
  through before [] = refl
  through before (one ∷ more) = through (one ∷ before) more

  pub through_newest : (seen : List Seen) → Newest logging.size (logged_in logging (turned [] seen)) (ring_through logging no_records seen)
  unfolding ring_after
  through_newest seen = rw (through [] seen) (logged-newest (turned [] seen))

  -- a record that no cryptogram answers logs nothing: a refused command, a Start, a script
  pub adds_none : (seen : Seen) (before : List Seen) → is_given seen.answer ≡ false → logged_in logging (seen ∷ before) ≡ logged_in logging before
  unfolding logged_in
  adds_none seen before e = by seen.answer e where
    by : (answer : Answer) → is_given answer ≡ false → logged_by logging seen.said seen.at (first_in before) answer ++ logged_in logging before ≡ logged_in logging before
    by (Refused refusal) q = refl
    by (Started atc visits) q = refl
    by (Given kind atc iad) q = let z : ◌≡◌ {A = ℕ} 0 1 = cc in absurd (omega arith)
    by Done q = refl
