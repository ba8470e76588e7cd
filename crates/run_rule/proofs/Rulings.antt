-- A run that is refused, and one that is carried out. Assumes nothing.
use mathlib.Core.Path.{◌≡◌, refl, sym, ap, ◌∙◌}
use mathlib.Core.Bool.{Bool, true, false, cond}
use mathlib.Core.List.{List, [], ◌∷◌}
use Prim.Native.Nat.{ℕ, ◌*◌, ◌/◌, ◌≤◌, ◌<◌}
use native.Mathlib.Omega.{arith}
use borrow.Author.Tests.{lt-ltb, le-ltb, ltb-false}
use lib.Dec.{ltb}
use lib.ListN.{length}
use Rattle.refusal.specs.declared.Refusal.TheVariants.{Unreadable, NoRoomForAnswers}
use Rattle.shape.specs.declared.Shape.{Shape}
use Rattle.answers.specs.Answers.{size}
use Rattle.run_rule.specs.Ruling.{records_in, is_run, count_of, ruled_run}
use Rattle.std.specs.Prelude.{Err, None, Ok, Option, Some}

module _ (shape : Shape) (run : List ℕ) where
  -- the count tells whether it is a run
  uncounted : count_of shape run ≡ None → is_run shape run ≡ false
  unfolding count_of
  uncounted = by (is_run shape run) where
    by : (b : Bool) → cond b (Some (length (records_in run))) None ≡ None → b ≡ false
    by true e = cc
    by false e = refl

  counted : {count : ℕ} → count_of shape run ≡ Some count → (is_run shape run ≡ true) × (length (records_in run) ≡ count)
  unfolding count_of
  counted {count} = by (is_run shape run) refl where
    by : (b : Bool) → is_run shape run ≡ b → cond b (Some (length (records_in run))) None ≡ Some count
        → (is_run shape run ≡ true) × (length (records_in run) ≡ count)
    by true e is = (e, cc)
    by false e is = absurd (let z : ◌≡◌ {A = ℕ} 0 1 = cc in omega arith)

  -- the three rulings
  module _ (room : ℕ) where
    pub no_run : count_of shape run ≡ None → ruled_run shape run room ≡ Err Unreadable
    unfolding ruled_run
    no_run e = rw (uncounted e)

    module _ {count : ℕ} (e : count_of shape run ≡ Some count) where
      pub no_room : room / size < count → ruled_run shape run room ≡ Err NoRoomForAnswers
      unfolding ruled_run
      no_room h =
          let is = counted e in
          let short : ltb room (size * length (records_in run)) ≡ true = lt-ltb room (size * length (records_in run)) (omega (arith, is.1)) in
          rw (is.0, short)

      pub has_room_lem : count ≤ room / size → ruled_run shape run room ≡ Ok count
      unfolding ruled_run
      has_room_lem h =
          let is = counted e in
          let enough : ltb room (size * length (records_in run)) ≡ false = le-ltb room (size * length (records_in run)) (omega (arith, is.1)) in
          rw (is.0, enough, is.1)

    -- what is carried out is a run, and the room has the bytes for its answers
    pub done-is : (n : ℕ) → ruled_run shape run room ≡ Ok n
        → (is_run shape run ≡ true) × (size * length (records_in run) ≤ room) × (length (records_in run) ≡ n)
    unfolding ruled_run
    done-is n = by (is_run shape run) (ltb room (size * length (records_in run))) refl refl where
      by : (b short : Bool) → is_run shape run ≡ b → ltb room (size * length (records_in run)) ≡ short
          → cond b (cond short (Err NoRoomForAnswers) (Ok (length (records_in run)))) (Err Unreadable) ≡ Ok n
          → (is_run shape run ≡ true) × (size * length (records_in run) ≤ room) × (length (records_in run) ≡ n)
      by true false i l e = (i, ltb-false room (size * length (records_in run)) l, cc)
      by true true i l e = absurd (let z : ◌≡◌ {A = ℕ} 0 1 = cc in omega arith)
      by false short i l e = absurd (let z : ◌≡◌ {A = ℕ} 0 1 = cc in omega arith)
