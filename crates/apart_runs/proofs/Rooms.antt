-- The rooms of two cards that are alike but for x: they stay the same but for x's. Assumes nothing.
use mathlib.Core.Path.{◌≡◌, refl, sym, ap, subst, subst₂, ◌∙◌}
use mathlib.Core.Bool.{Bool, true, false, cond}
use mathlib.Core.List.{List}
use mathlib.Core.Logic.{◌⊎◌, inl, inr}
use Prim.Native.Nat.{ℕ}
use native.Mathlib.Omega.{arith}
use borrow.Author.Tests.{eqb-true, eqb-false}
use lib.Dec.{eqb}
use lib.ListN.{length, get_or, set, length-set}
use lib.Seq.{get_or-set_other, ext_get_or}
use Rattle.money.specs.declared.AccumulatorAmount.{AccumulatorAmount}
use Rattle.rules.specs.declared.Place.{Place}
use Rattle.rules.specs.declared.Place.TheVariants.{One, Two, Three, Four}
use Rattle.rules.specs.declared.Values.{Values}
use Rattle.rules.specs.Rules.{Rules}
use Rattle.purchase.specs.Meter.{Meter, accumulator, counter, cyclic, amount_at}
use Rattle.rooms.specs.Rooms.{cell_of, left_in, cell_set, column_set, column_renewed, filled, renewed}
use Rattle.upkeep.specs.Upkeep.{is_scripted, rooms_after}
use Rattle.records.specs.declared.Event.{Event}
use Rattle.apart.proofs.Values.{Beside, set_either, set_size}
use Rattle.apart_runs.specs.Spared.{wiped_rooms}

-- no cell of x's
abbrev Elsewhere : Meter → ℕ → Type 0
Elsewhere (accumulator i) k = (place : Place) → k ≡ cell_of place i → ⊥
Elsewhere (counter i) k = Unit
Elsewhere (cyclic i) k = Unit

pub record Cells (x : Meter) (a b : List ℕ) : Type 0 where
  pub as_many : length a ≡ length b
  pub others : (k : ℕ) → Elsewhere x k → get_or a k 0 ≡ get_or b k 0

back : (x : Meter) (a b : List ℕ) → Cells x a b → Cells x b a
back x a b c = record { as_many = sym c.as_many; others = λ k h. sym (c.others k h) }

on : (x : Meter) (a b d : List ℕ) → Cells x a b → Cells x b d → Cells x a d
on x a b d c e = record { as_many = c.as_many ∙ e.as_many; others = λ k h. c.others k h ∙ e.others k h }

-- ---- with 0 for x's they are equal

same : (x : Meter) (a b : List ℕ) → a ≡ b → Cells x a b
same x a b e = record { as_many = ap length e; others = λ k h. ap (λ l. get_or l k 0) e }

own_set : (i : ℕ) (place : Place) (a : List ℕ) (m : ℕ) → Cells (accumulator i) a (set a (cell_of place i) m)
own_set i place a m =
    record { as_many = sym (length-set a (cell_of place i) m); others = λ k h. sym (get_or-set_other a (cell_of place i) k m 0 (h place)) }

-- four stores, one in each profile
four-on : (x : Meter) (f g h l : List ℕ → List ℕ) → ((a : List ℕ) → Cells x a (f a)) → ((a : List ℕ) → Cells x a (g a)) → ((a : List ℕ) → Cells x a (h a))
    → ((a : List ℕ) → Cells x a (l a)) → (a : List ℕ) → Cells x a (l (h (g (f a))))
four-on x f g h l p q r s a =
    on x a (h (g (f a))) (l (h (g (f a)))) (on x a (g (f a)) (h (g (f a))) (on x a (f a) (g (f a)) (p a) (q (f a))) (r (g (f a)))) (s (h (g (f a))))

own_wiped : (i : ℕ) (a : List ℕ) → Cells (accumulator i) a (wiped_rooms (accumulator i) a)
own_wiped i a =
    four-on (accumulator i) (λ l. set l (cell_of One i) 0) (λ l. set l (cell_of Two i) 0) (λ l. set l (cell_of Three i) 0) (λ l. set l (cell_of Four i) 0)
    (λ l. own_set i One l 0) (λ l. own_set i Two l 0) (λ l. own_set i Three l 0) (λ l. own_set i Four l 0) a

pub cells : (x : Meter) (a b : List ℕ) → wiped_rooms x a ≡ wiped_rooms x b → Cells x a b
cells (accumulator i) a b e =
    let a' = wiped_rooms (accumulator i) a in
    let b' = wiped_rooms (accumulator i) b in
    on (accumulator i) a a' b (own_wiped i a) (on (accumulator i) a' b' b (same (accumulator i) a' b' e) (back (accumulator i) b b' (own_wiped i b)))
cells (counter i) a b e = same (counter i) a b e
cells (cyclic i) a b e = same (cyclic i) a b e

pub wiped-rooms : (x : Meter) (a b : List ℕ) → Cells x a b → wiped_rooms x a ≡ wiped_rooms x b
wiped-rooms (accumulator i) a b c =
    let wiped : (l : List ℕ) → List ℕ = wiped_rooms (accumulator i) in
    ext_get_or 0 (wiped a) (wiped b) (sym (own_wiped i a).as_many ∙ c.as_many ∙ (own_wiped i b).as_many) (λ k h. at k)
  where
    one : List ℕ → List ℕ
    one l = set l (cell_of One i) 0

    two : List ℕ → List ℕ
    two l = set (one l) (cell_of Two i) 0

    three : List ℕ → List ℕ
    three l = set (two l) (cell_of Three i) 0

    size-one : length (one a) ≡ length (one b)
    size-one = set_size a b (cell_of One i) 0 c.as_many

    size-two : length (two a) ≡ length (two b)
    size-two = set_size (one a) (one b) (cell_of Two i) 0 size-one

    size-three : length (three a) ≡ length (three b)
    size-three = set_size (two a) (two b) (cell_of Three i) 0 size-two

    none : (k : ℕ) → (k ≡ cell_of One i → ⊥) → (k ≡ cell_of Two i → ⊥) → (k ≡ cell_of Three i → ⊥) → (k ≡ cell_of Four i → ⊥) → Elsewhere (accumulator i) k
    none k p q r s One = p
    none k p q r s Two = q
    none k p q r s Three = r
    none k p q r s Four = s

    at : (k : ℕ) → get_or (wiped_rooms (accumulator i) a) k 0 ≡ get_or (wiped_rooms (accumulator i) b) k 0
    at k =
        set_either 0 (three a) (three b) (cell_of Four i) 0 k size-three
        (λ s. set_either 0 (two a) (two b) (cell_of Three i) 0 k size-two
        (λ r. set_either 0 (one a) (one b) (cell_of Two i) 0 k size-one
        (λ q. set_either 0 a b (cell_of One i) 0 k c.as_many (λ p. c.others k (none k p q r s)))))
wiped-rooms (counter i) a b c = ext_get_or 0 a b c.as_many (λ k h. c.others k tt)
wiped-rooms (cyclic i) a b c = ext_get_or 0 a b c.as_many (λ k h. c.others k tt)

module _ (rules : Rules) where
  -- ---- a column worked out anew: x's own may be any, and another's is the same

  own_column : (i : ℕ) (m : AccumulatorAmount) (a : List ℕ) → Cells (accumulator i) a (column_set rules i m a)
  unfolding column_set cell_set
  own_column i m a =
      four-on (accumulator i) (cell_set rules One i m) (cell_set rules Two i m) (cell_set rules Three i m) (cell_set rules Four i m)
      (λ l. own_set i One l (left_in rules One i m)) (λ l. own_set i Two l (left_in rules Two i m)) (λ l. own_set i Three l (left_in rules Three i m))
      (λ l. own_set i Four l (left_in rules Four i m)) a

  same_cell : (x : Meter) (place : Place) (j : ℕ) (m : AccumulatorAmount) (a b : List ℕ) → Cells x a b
      → Cells x (cell_set rules place j m a) (cell_set rules place j m b)
  unfolding cell_set
  same_cell x place j m a b c =
      record {
        as_many = set_size a b (cell_of place j) (left_in rules place j m) c.as_many;
        others = λ k h. set_either 0 a b (cell_of place j) (left_in rules place j m) k c.as_many (λ n. c.others k h);
      }

  same-column : (x : Meter) (j : ℕ) (m : AccumulatorAmount) (a b : List ℕ) → Cells x a b → Cells x (column_set rules j m a) (column_set rules j m b)
  unfolding column_set
  same-column x j m a b c =
      let one : List ℕ → List ℕ = cell_set rules One j m in
      let two : List ℕ → List ℕ = λ l. cell_set rules Two j m (one l) in
      let three : List ℕ → List ℕ = λ l. cell_set rules Three j m (two l) in
      same_cell x Four j m (three a) (three b)
      (same_cell x Three j m (two a) (two b) (same_cell x Two j m (one a) (one b) (same_cell x One j m a b c)))

  own_renewed : (i : ℕ) (before after : AccumulatorAmount) (a : List ℕ) → Cells (accumulator i) a (column_renewed rules i before after a)
  unfolding column_renewed
  own_renewed i before after a = by (eqb before.0 after.0) where
    by : (t : Bool) → Cells (accumulator i) a (cond t a (column_set rules i after a))
    by true = same (accumulator i) a a refl
    by false = own_column i after a

  same-renewed : (x : Meter) (j : ℕ) (before after : AccumulatorAmount) (a b : List ℕ) → Cells x a b
      → Cells x (column_renewed rules j before after a) (column_renewed rules j before after b)
  unfolding column_renewed
  same-renewed x j before after a b c = by (eqb before.0 after.0) where
    by : (t : Bool) → Cells x (cond t a (column_set rules j after a)) (cond t b (column_set rules j after b))
    by true = c
    by false = same-column x j after a b c

  -- x's column, or another's
  whose : (x : Meter) (j : ℕ) → (accumulator j ≡ x) ⊎ (accumulator j ≡ x → ⊥)
  whose (accumulator i) j = by (eqb j i) refl where
    by : (t : Bool) → eqb j i ≡ t → (accumulator j ≡ accumulator i) ⊎ (accumulator j ≡ accumulator i → ⊥)
    by true e = inl (ap accumulator (eqb-true j i e))
    by false e = inr (λ f. eqb-false j i e (cc))
  whose (counter i) j = inr (λ f. let z : ◌≡◌ {A = ℕ} 0 1 = cc in omega arith)
  whose (cyclic i) j = inr (λ f. let z : ◌≡◌ {A = ℕ} 0 1 = cc in omega arith)

  module _ (x : Meter) (v w : Values) (b : Beside x v w) where
    amount-same : (j : ℕ) → (accumulator j ≡ x → ⊥) → amount_at v j ≡ amount_at w j
    amount-same j n = ap (λ (m : ℕ). record { 0 = m }) (b.others (accumulator j) n)

    column : (j : ℕ) (r s : List ℕ) → Cells x r s → Cells x (column_set rules j (amount_at v j) r) (column_set rules j (amount_at w j) s)
    column j r s c = by (whose x j) where
      by : (accumulator j ≡ x) ⊎ (accumulator j ≡ x → ⊥) → Cells x (column_set rules j (amount_at v j) r) (column_set rules j (amount_at w j) s)
      by (inl e) =
          subst (λ (y : Meter). Cells y r s → Cells y (column_set rules j (amount_at v j) r) (column_set rules j (amount_at w j) s)) e
          (λ d. on (accumulator j) (column_set rules j (amount_at v j) r) r (column_set rules j (amount_at w j) s)
          (back (accumulator j) r (column_set rules j (amount_at v j) r) (own_column j (amount_at v j) r))
          (on (accumulator j) r s (column_set rules j (amount_at w j) s) d (own_column j (amount_at w j) s))) c
      by (inr n) =
          subst (λ (m : AccumulatorAmount). Cells x (column_set rules j (amount_at v j) r) (column_set rules j m s)) (amount-same j n)
          (same-column x j (amount_at v j) r s c)

    filled_cells : (r s : List ℕ) → Cells x r s → Cells x (filled rules v r) (filled rules w s)
    unfolding filled
    filled_cells r s c =
        let f : ℕ → List ℕ → List ℕ = λ j. column_set rules j (amount_at v j) in
        let g : ℕ → List ℕ → List ℕ = λ j. column_set rules j (amount_at w j) in
        column 3 (f 2 (f 1 (f 0 r))) (g 2 (g 1 (g 0 s))) (column 2 (f 1 (f 0 r)) (g 1 (g 0 s)) (column 1 (f 0 r) (g 0 s) (column 0 r s c)))

    module _ (v' w' : Values) (b' : Beside x v' w') where
      abbrev Renewed : (j : ℕ) (r s : List ℕ) → Type 0
      Renewed j r s = Cells x (column_renewed rules j (amount_at v j) (amount_at v' j) r) (column_renewed rules j (amount_at w j) (amount_at w' j) s)

      renewed-column : (j : ℕ) (r s : List ℕ) → Cells x r s → Renewed j r s
      renewed-column j r s c = by (whose x j) where
        by : (accumulator j ≡ x) ⊎ (accumulator j ≡ x → ⊥) → Renewed j r s
        by (inl e) =
            let r' = column_renewed rules j (amount_at v j) (amount_at v' j) r in
            let s' = column_renewed rules j (amount_at w j) (amount_at w' j) s in
            subst (λ (y : Meter). Cells y r s → Cells y r' s') e
            (λ d. on (accumulator j) r' r s' (back (accumulator j) r r' (own_renewed j (amount_at v j) (amount_at v' j) r))
            (on (accumulator j) r s s' d (own_renewed j (amount_at w j) (amount_at w' j) s))) c
        by (inr n) =
            subst₂
            (λ (m m' : AccumulatorAmount). Cells x (column_renewed rules j (amount_at v j) (amount_at v' j) r) (column_renewed rules j m m' s))
            (amount-same j n) (ap (λ (m : ℕ). record { 0 = m }) (b'.others (accumulator j) n))
            (same-renewed x j (amount_at v j) (amount_at v' j) r s c)

      renewed_cells : (r s : List ℕ) → Cells x r s → Cells x (renewed rules v v' r) (renewed rules w w' s)
      unfolding renewed
      renewed_cells r s c =
          let f : ℕ → List ℕ → List ℕ = λ j. column_renewed rules j (amount_at v j) (amount_at v' j) in
          let g : ℕ → List ℕ → List ℕ = λ j. column_renewed rules j (amount_at w j) (amount_at w' j) in
          renewed-column 3 (f 2 (f 1 (f 0 r))) (g 2 (g 1 (g 0 s)))
          (renewed-column 2 (f 1 (f 0 r)) (g 1 (g 0 s)) (renewed-column 1 (f 0 r) (g 0 s) (renewed-column 0 r s c)))

-- AFTER AN EVENT
pub after_cells : (rules : Rules) (x : Meter) (v w : Values) → Beside x v w → (v' w' : Values) → Beside x v' w' → (event : Event) (r s : List ℕ)
    → Cells x r s → Cells x (rooms_after rules v v' event r) (rooms_after rules w w' event s)
unfolding rooms_after
after_cells rules x v w b v' w' b' event r s c = by (is_scripted event) where
  by : (t : Bool) → Cells x (cond t (filled rules v' r) (renewed rules v v' r)) (cond t (filled rules w' s) (renewed rules w w' s))
  by true = filled_cells rules x v' w' b' r s c
  by false = renewed_cells rules x v w b v' w' b' r s c
