-- From command to command: what is still tried from a place of a template on. Assumes nothing.
use Rattle.std.specs.Prelude.{Option, None, Some}
use mathlib.Core.Path.{◌≡◌, refl, sym, ap, ap₂, ◌∙◌}
use mathlib.Core.List.{List, [], map}
use mathlib.Core.Bool.{Bool, true, false, ◌&&◌, not, cond}
use Prim.Native.Nat.{ℕ, ◌+◌, ◌-◌}
use native.Mathlib.Omega.{arith}
use lib.ListN.{take, drop}
use Rattle.rules.specs.declared.Values.{Values}
use Rattle.rules.specs.Rules.{rules_of}
use Rattle.cursor.specs.Cursor.{places_from, cut, commands_of}
use Rattle.cursor.proofs.Cursor.{Step}
use Rattle.element.specs.declared.Write.{Write}
use Rattle.put_data.specs.PutData.{writes_of, is_some, is_valid}
use Rattle.marks.specs.declared.Scripts.{Scripts}
use Rattle.script.specs.Script.{has_failed_here, done, given, one_done, one_failed, Tried, behind, tried_next, tried, template_tried, ran_of, rules_run, words_run}
use Rattle.script.proofs.Writes.{Left, Alike, at_first, passed, at_last}

-- ---- a command that is done, and one that fails
some_of : (b : Bool) (ws : Option (List Write)) → is_some (cond b ws None) ≡ true → (is_some ws ≡ true) × (cond b ws None ≡ Some (given ws))
some_of true None h = let z : ◌≡◌ {A = ℕ} 0 1 = cc in absurd (omega arith)
some_of true (Some ws) h = (refl, refl)
some_of false ws h = let z : ◌≡◌ {A = ℕ} 0 1 = cc in absurd (omega arith)

none_of : (ws : Option (List Write)) → is_some ws ≡ false → ws ≡ None
none_of None h = refl
none_of (Some ws) h = let z : ◌≡◌ {A = ℕ} 0 1 = cc in absurd (omega arith)

module _ (verified : Bool) (scripts : Scripts) (c : List ℕ) where
  pub done-some : is_some (done verified scripts c) ≡ true → (is_valid c ≡ true) × (done verified scripts c ≡ Some (given (writes_of c)))
  unfolding done is_valid
  done-some h = some_of (verified && not (has_failed_here scripts)) (writes_of c) h

  pub done_none : is_some (done verified scripts c) ≡ false → done verified scripts c ≡ None
  done_none h = none_of (done verified scripts c) h

-- ---- those from a place on
module _ (verified : Bool) (s : List ℕ) where
  unfoldable ahead : Scripts → (at : ℕ) → Tried
  ahead scripts at = tried verified (map (cut s) (places_from s at)) scripts

  -- what is to come to the same: what is still tried, and all that there was at the start
  pub record Going (w : List ℕ) (v : Values) (k : Scripts) (at : ℕ) (w₀ : List ℕ) (v₀ : Values) (k₀ : Scripts) : Type 0 where
    writes : Alike w v (ahead k at).writes w₀ v₀ (ahead k₀ 0).writes
    scripts : (ahead k at).scripts ≡ (ahead k₀ 0).scripts

  -- as the contract says it
  abbrev pub Over : (w : List ℕ) (v : Values) (k : Scripts) (w₀ : List ℕ) (v₀ : Values) (k₀ : Scripts) → Type 0
  Over w v k w₀ v₀ k₀ =
      (record { values = v; scripts = k } ≡ ran_of v₀ k₀ verified s)
      × (w ≡ words_run w₀ k₀ verified s)
      × (rules_of w ≡ rules_run (rules_of w₀) k₀ verified s)

  pub starts : (w : List ℕ) (v : Values) (k : Scripts) → Going w v k 0 w v k
  starts w v k = record { writes = at_first w v _ _ refl; scripts = refl }

  module _ (w : List ℕ) (v : Values) (k : Scripts) (at : ℕ) (w₀ : List ℕ) (v₀ : Values) (k₀ : Scripts) (going : Going w v k at w₀ v₀ k₀) where
    stops : (k' : Scripts) → ahead k at ≡ record { writes = []; scripts = k' } → Over w v k' w₀ v₀ k₀
    unfolding ran_of words_run rules_run template_tried commands_of ahead
    stops k' e =
        let p = at_last w v w₀ v₀ _ _ (ap (λ t. t.writes) e) going.writes in
        let q = sym (ap (λ t. t.scripts) e) ∙ going.scripts in
        (ap₂ (λ (x : Values) (y : Scripts). record { values = x; scripts = y }) p.0 q, p.1, p.2)

    pub ends : places_from s at ≡ [] → Over w v k w₀ v₀ k₀
    unfolding ahead tried
    ends e = stops k (ap (λ ps. tried verified (map (cut s) ps) k) e)

    -- at a command, as the code cuts it out
    module _ (x y : ℕ) (step : Step s at x y) where
      abbrev command : List ℕ
      command = take (x + y - x) (drop x s)

      next : ahead k at ≡ tried_next (λ l. ahead l (x + y)) k (done verified k command)
      unfolding ahead tried cut
      next =
          let size : x + y - x ≡ y = omega arith in
          ap (λ ps. tried verified (map (cut s) ps) k) step.is
          ∙ ap (λ n. tried_next (λ l. ahead l (x + y)) k (done verified k (take n (drop x s)))) (sym size)

      pub fails : is_some (done verified k command) ≡ false → Over w v (one_failed k) w₀ v₀ k₀
      fails h = stops (one_failed k) (next ∙ ap (tried_next (λ l. ahead l (x + y)) k) (done_none verified k command h))

      pub goes_on_lem : is_some (done verified k command) ≡ true → (w' : List ℕ) (v' : Values) → Left w v (given (writes_of command)) w' v'
          → Going w' v' (one_done k) (x + y) w₀ v₀ k₀
      goes_on_lem h w' v' p =
          let ws = given (writes_of command) in
          let e : ahead k at ≡ behind ws (ahead (one_done k) (x + y)) =
          next ∙ ap (tried_next (λ l. ahead l (x + y)) k) (done-some verified k command h).1 in
          record {
            writes = passed w v w₀ v₀ _ _ ws _ (ap (λ t. t.writes) e) going.writes w' v' p;
            scripts = sym (ap (λ t. t.scripts) e) ∙ going.scripts;
          }
