-- A test and what it decides, both ways, for each form of test. Assumes nothing.
use mathlib.Core.Path.{◌≡◌, refl, sym, ◌∙◌}
use mathlib.Core.Bool.{Bool, true, false, not, cond, ◌&&◌, ◌||◌}
use mathlib.Core.Logic.Iff
use mathlib.Core.Logic.{◌↔◌, ◌⊎◌, inl, inr}
use Prim.Native.Nat.{ℕ, zero, suc, ◌≤◌, ◌<◌}
use native.Mathlib.Omega.{arith}
use borrow.Author.Tests.{ltb-true, ltb-false, lt-ltb, leb-true, le-leb, eqb-true, eq-eqb}
use lib.Dec.{leb, ltb, eqb}
use Rattle.ranges.specs.Ranges.{all, apart}

infixl 30 ◌and◌ ◌with◌ ◌or◌
abbrev pub Decides : Bool → Type 0 → Type 0
Decides test P = (test ≡ true) ↔ P

pub at_most : (m n : ℕ) → Decides (leb m n) (m ≤ n)
at_most m n = (leb-true m n, le-leb m n)

pub below : (m n : ℕ) → Decides (ltb m n) (m < n)
below m n = (ltb-true m n, lt-ltb m n)

pub equal : (m n : ℕ) → Decides (eqb m n) (m ≡ n)
equal m n = (eqb-true m n, eq-eqb m n)

pub ◌with◌ : {P Q : Type 0} → P → Q → P × Q
p with q = (p, q)

pub itself : (test : Bool) → Decides test (test ≡ true)
itself test = (λ h. h, λ h. h)

pub stated : {test : Bool} {P Q : Type 0} → Decides test P → (P → Q) → (Q → P) → Decides test Q
stated d f g = Iff.trans d (f, g)

never : {P : Type 0} → false ≡ true → P
never e = let z : ◌≡◌ {A = ℕ} 0 1 = cc in absurd (omega arith)

pub ◌and◌ : {a b : Bool} {P Q : Type 0} → Decides a P → Decides b Q → Decides (a && b) (P × Q)
◌and◌ {a = true} d e = (λ h. (d.0 refl, e.0 h), λ p. e.1 p.1)
◌and◌ {a = false} d e = (λ h. never h, λ p. d.1 p.0)

pub ◌or◌ : {a b : Bool} {P Q : Type 0} → Decides a P → Decides b Q → Decides (a || b) (P ⊎ Q)
◌or◌ {a = true} d e = (λ h. inl (d.0 refl), λ s. refl)
◌or◌ {a = false} {b} {P} {Q} d e = (λ h. inr (e.0 h), by) where
  by : P ⊎ Q → b ≡ true
  by (inl p) = never (d.1 p)
  by (inr q) = e.1 q

pub implied : {a b : Bool} {P Q : Type 0} → Decides a P → Decides b Q → Decides (not a || b) (P → Q)
implied {a = true} d e = (λ h x. e.0 h, λ f. e.1 (f (d.0 refl)))
implied {a = false} d e = (λ h x. never (d.1 x), λ f. refl)

pub unless : {a b : Bool} {P Q : Type 0} → Decides a P → Decides b Q → Decides (a || b) ((Q → ⊥) → P)
unless {a = true} d e = (λ h n. d.0 refl, λ f. refl)
unless {a = false} {b = true} d e = (λ h n. absurd (n (e.0 refl)), λ f. refl)
unless {a = false} {b = false} d e = (λ h n. never h, λ f. d.1 (f (λ q. never (e.1 q))))

pub denied : {a : Bool} {P : Type 0} → Decides a P → Decides (not a) (P → ⊥)
denied {a = true} d = (λ h x. never h, λ f. absurd (f (d.0 refl)))
denied {a = false} d = (λ h x. never (d.1 x), λ f. refl)

-- of each number below n
pub each : (n : ℕ) {test : ℕ → Bool} {P : ℕ → Type 0} → ((i : ℕ) → Decides (test i) (P i))
    → Decides (all n test) ((i : ℕ) → i < n → P i)
each zero d = (λ h i l. let z : ⊥ = omega arith in absurd z, λ f. refl)
each (suc n) {test} {P} d =
    stated (each n d and d n) (λ p i l. last p i l (ltb i n) refl) (λ f. (λ i l. f i (omega arith), f n (omega arith)))
  where
    last : ((i : ℕ) → i < n → P i) × P n → (i : ℕ) → i < suc n → (b : Bool) → ltb i n ≡ b → P i
    last p i l true e = p.0 i (ltb-true i n e)
    last p i l false e = let s : n ≡ i = omega (arith, ltb-false i n e) in rw s at p.1

-- Entry i of p stands at its place, and one that is not there at the end.
module _ (p : ℕ) (place : ℕ → ℕ) (end : ℕ) where
  abbrev stands : ℕ → ℕ
  stands i = cond (ltb i p) (place i) end

  -- of the entries that are there
  pub if_there : {test : ℕ → Bool} {P : ℕ → Type 0} → ((at : ℕ) → Decides (test at) (P at))
      → (i : ℕ) → Decides (not (ltb i p) || test (stands i)) (i < p → P (place i))
  if_there d i = stated (implied (below i p) (d (stands i))) (λ f l. rw (lt-ltb i p l) at (f l)) (λ f l. rw (lt-ltb i p l) (f l))

  -- what the entries that are there go by is all different, where it is never 0, and 0 at the end
  pub different : (n : ℕ) (read : ℕ → ℕ) → p ≤ n → read end ≡ 0 → ((i : ℕ) → i < p → read (place i) ≡ 0 → ⊥)
      → Decides (apart n (λ i. read (stands i))) ((i j : ℕ) → i < j → j < p → read (place i) ≡ read (place j) → ⊥)
  different n read few none some =
      stated (each n (λ j. unless (each j (λ i. denied (equal (read (stands i)) (read (stands j))))) (equal (read (stands j)) 0)))
      (λ f i j l m e. f j (omega arith) (λ z. some j m (sym (there j m) ∙ z)) i l (there i (omega arith) ∙ e ∙ sym (there j m)))
      (λ f j m n i l e. at_place f j n i l e (ltb j p) refl)
    where
      there : (i : ℕ) → i < p → read (stands i) ≡ read (place i)
      there i l = rw (lt-ltb i p l)

      at_place : ((i j : ℕ) → i < j → j < p → read (place i) ≡ read (place j) → ⊥) → (j : ℕ) → (read (stands j) ≡ 0 → ⊥)
          → (i : ℕ) → i < j → read (stands i) ≡ read (stands j) → (b : Bool) → ltb j p ≡ b → ⊥
      at_place f j n i l e true t = let m = ltb-true j p t in f i j l m (sym (there i (omega arith)) ∙ e ∙ there j m)
      at_place f j n i l e false t = n (rw t none)
