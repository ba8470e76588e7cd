-- Laws of the reading of an object and of a list, as the code goes through the bytes. Assumes nothing.
use mathlib.Core.Path.{◌≡◌, refl, sym, ap, ◌∙◌}
use mathlib.Core.List.{List, [], ◌∷◌}
use mathlib.Core.Bool.{true, false}
use Prim.Native.Nat.{ℕ, zero, suc, ◌+◌, ◌-◌, ◌≤◌, ◌<◌}
use native.Mathlib.Omega.{arith}
use lib.ListN.{length, drop, drop_of_length-le}
use lib.Seq.{drop-drop}
use borrow.Author.Tests.{eq-eqb, ne_eqb}
use Rattle.wire.specs.Wire.{byte}
use Rattle.head.specs.Head.{head_right, is_constructed, object_size}
use Rattle.object.specs.Object.{value_of, first_fault, read_object, read_behind, read_list, reading_number}
use Rattle.head.proofs.Heads.{first_byte, rest_some, head-some}
use Rattle.std.specs.Prelude.{Err, None, Ok, Option, Result, Some}
use Rattle.std.specs.Option.{ok_or}
use Rattle.head.specs.declared.Head.{Head}
use Rattle.object.specs.declared.Fault.{Fault}
use Rattle.object.specs.declared.Fault.TheVariants.{Malformed, TooDeep}

-- ---- no head: what `ok_or` and `?` make of it
abbrev fault_of : Result Head Fault → Fault
fault_of (Err e) = e
fault_of (Ok h) = Malformed

pub without_head : (h : Option Head) (e : Fault) → ◌≡◌ {A = Result Head Fault} (Err e) (ok_or h Malformed) → e ≡ Malformed
without_head None e p = ap fault_of p
without_head (Some x) e p = ap fault_of p

-- ---- one object
pub object-constructed : (f : List ℕ → Result Unit Fault) (s : List ℕ) → head_right s ≡ true → is_constructed (byte s 0) ≡ true → read_object f s ≡ f (value_of s)
unfolding read_object
object-constructed f s e g = simp (e, g)

pub object-primitive : (f : List ℕ → Result Unit Fault) (s : List ℕ) → head_right s ≡ true → is_constructed (byte s 0) ≡ false → read_object f s ≡ Ok tt
unfolding read_object
object-primitive f s e g = simp (e, g)

pub object-malformed : (f : List ℕ → Result Unit Fault) (s : List ℕ) → head_right s ≡ false → read_object f s ≡ Err Malformed
unfolding read_object
object-malformed f s e = simp (e)

pub object_deep : (k : ℕ) (s : List ℕ) → head_right s ≡ true → is_constructed (byte s 0) ≡ true → k ≡ 0 → read_object (read_list k) s ≡ Err TooDeep
unfolding read_list
object_deep k s e g z = object-constructed (read_list k) s e g ∙ ap (λ n. read_list n (value_of s)) z

-- ---- a list
skip : (f : List ℕ → Result Unit Fault) (m : ℕ) (s : List ℕ) → read_behind f m s ≡ read_behind f 0 (drop m s)
unfolding read_behind
skip f zero s = refl
skip f (suc m) [] = refl
skip f (suc m) (b ∷ s) = skip f m s

pub list-filler : (k : ℕ) (s : List ℕ) → 1 ≤ k → (length s ≡ 0 → ⊥) → byte s 0 ≡ 0 → read_list k s ≡ read_list k (drop 1 s)
unfolding read_list read_behind
list-filler zero s h l e = absurd (omega arith)
list-filler (suc k) [] h l e = absurd (l refl)
list-filler (suc k) (b ∷ s) h l e = simp (eq-eqb b 0 e)

pub list-object : (k : ℕ) (s : List ℕ) → 1 ≤ k → (length s ≡ 0 → ⊥) → (byte s 0 ≡ 0 → ⊥)
    → read_list k s ≡ first_fault (read_object (read_list (k - 1)) s) (read_list k (drop (object_size s) s))
unfolding read_list read_behind
list-object zero s h l e = absurd (omega arith)
list-object (suc k) [] h l e = absurd (l refl)
list-object (suc k) (b ∷ s) h l e =
    let n = object_size (b ∷ s) in
    let p : 1 ≤ n = omega (arith, head-some (b ∷ s)) in
    let r : n ≡ suc (n - 1) = omega arith in
    let j : suc k - 1 ≡ k = omega arith in
    simp (ne_eqb b 0 e, j)
    (ap (first_fault (read_object (read_list k) (b ∷ s))) (skip (read_list k) (n - 1) s ∙ ap (λ m. read_behind (read_list k) 0 (drop m (b ∷ s))) (sym r)))

-- ---- the list reader's ways, at a place
pub list-end : (k at : ℕ) (s : List ℕ) → 1 ≤ k → length s ≤ at → read_list k (drop at s) ≡ Ok tt
unfolding read_list read_behind
list-end zero at s h e = absurd (omega arith)
list-end (suc k) at s h e = ap (read_behind (read_list k) 0) (drop_of_length-le s e)

pub not_sound : (e : Fault) → ◌≡◌ {A = Result Unit Fault} (Err e) (Ok tt) → ⊥
not_sound Malformed e = let z : ◌≡◌ {A = ℕ} 18 0 = ap reading_number e in omega arith
not_sound TooDeep e = let z : ◌≡◌ {A = ℕ} 19 0 = ap reading_number e in omega arith

pub first-fault : (a b : Result Unit Fault) → (a ≡ Ok tt → ⊥) → first_fault a b ≡ a
first-fault (Ok done) b h = absurd (h refl)
first-fault (Err Malformed) b h = refl
first-fault (Err TooDeep) b h = refl

module _ (k at : ℕ) (s : List ℕ) (h : 1 ≤ k) (l : at < length s) where
  pub list_pass : byte s at ≡ 0 → read_list k (drop at s) ≡ read_list k (drop (at + 1) s)
  list_pass e = list-filler k (drop at s) h (rest_some s at l) (first_byte s at ∙ e) ∙ ap (read_list k) (drop-drop 1 at s)

  module _ (e : byte s at ≡ 0 → ⊥) where
    list_at : read_list k (drop at s) ≡ first_fault (read_object (read_list (k - 1)) (drop at s)) (read_list k (drop (at + object_size (drop at s)) s))
    list_at =
        list-object k (drop at s) h (rest_some s at l) (λ z. e (sym (first_byte s at) ∙ z))
        ∙ ap (λ x. first_fault (read_object (read_list (k - 1)) (drop at s)) (read_list k x)) (drop-drop (object_size (drop at s)) at s)

    pub list-fault : (r : Result Unit Fault) → r ≡ read_object (read_list (k - 1)) (drop at s) → (r ≡ Ok tt → ⊥) → r ≡ read_list k (drop at s)
    list-fault r o g =
        sym (list_at ∙ ap (λ x. first_fault x (read_list k (drop (at + object_size (drop at s)) s))) (sym o) ∙ first-fault r (read_list k (drop (at + object_size (drop at s)) s)) g)

    pub list-more : (r : Result Unit Fault) → r ≡ read_object (read_list (k - 1)) (drop at s) → r ≡ Ok tt → read_list k (drop at s) ≡ read_list k (drop (at + object_size (drop at s)) s)
    list-more r o g = list_at ∙ ap (λ x. first_fault x (read_list k (drop (at + object_size (drop at s)) s))) (sym o ∙ g)
