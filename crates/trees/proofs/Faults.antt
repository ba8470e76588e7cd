-- The fault of a template is the first, in reading order and of an object its head before its depth. Assumes nothing.
use mathlib.Core.Path.{◌≡◌, refl, sym, ap, subst, ◌∙◌}
use mathlib.Core.List.{List, [], ◌∷◌, ◌++◌}
use mathlib.Core.Bool.{Bool, true, false, cond}
use Prim.Native.Nat.{ℕ, zero, suc, ◌-◌, ◌/◌, ◌%◌, ◌≤◌, ◌<◌}
use native.Mathlib.Nat.{le_refl}
use native.Mathlib.Omega.{arith}
use lib.ListN.{length, drop, length-drop}
use lib.Seq.{drop-append_seam, take-append_seam}
use lib.Dec.{eqb}
use borrow.Author.Tests.{eqb-true, eqb-false}
use Rattle.wire.specs.Wire.{byte}
use Rattle.object.specs.Object.{head_right, is_constructed, object_size, value_of, first_fault, read_behind, read_list, is_template, read_template, reading_number}
use Rattle.head.proofs.Heads.{right_fits, head-some}
use Rattle.object.proofs.Lists.{object-malformed, list-object, not_sound, first-fault}
use Rattle.trees.specs.Tree.{Tag, Form, Objects, end, filler, primitive, constructed, head, object_bytes, written, depth, limit, Bytes, Good}
use Rattle.trees.specs.Tree.{NoObject, Fault, malformed, too_deep, inside, Framed, TemplateFault, unframed, framed}
use Rattle.trees.proofs.Octets.{drop_bytes, take-bytes}
use Rattle.trees.proofs.Laid.{laid, behind, filler-list, primitive-list, constructed-list}
use Rattle.trees.proofs.There.{in_front, within, frame_there}
use Rattle.trees.proofs.Heads.{value_length, value-bytes, First, first, bit_set, bit_clear}
use Rattle.trees.proofs.Back.{back, frame_back, without}
use Rattle.std.specs.Prelude.{Err, Ok, Result}
use Rattle.object.specs.declared.Fault.{Fault as ReadFault}
use Rattle.object.specs.declared.Fault.TheVariants.{Malformed, TooDeep}

-- ---- where no object begins
wrong_list : (k : ℕ) (w : List ℕ) → (length w ≡ 0 → ⊥) → (byte w 0 ≡ 0 → ⊥) → head_right w ≡ false → read_list (suc k) w ≡ Err Malformed
wrong_list k w l z f =
    list-object (suc k) w (omega arith) l z ∙ ap (λ r. first_fault r (read_list (suc k) (drop (object_size w) w))) (object-malformed (read_list (suc k - 1)) w f)

wrong_there : (w : List ℕ) → Bytes w → NoObject w → (t : Bool) → head_right w ≡ t → head_right w ≡ false
wrong_there w b n false e = e
wrong_there w b n true e =
    let o = first (byte w 0 / 32 % 2) w b n.1 e refl in
    absurd (n.2 (byte w 0 / 32 % 2) o.tag o.form (value_of w) (drop (object_size w) w) o.tagged o.fits o.is)

wrong_back : (w : List ℕ) → head_right w ≡ false → (length w ≡ 0 → ⊥) → (byte w 0 ≡ 0 → ⊥) → NoObject w
wrong_back w e l z =
    (l, z, λ q t f v r g h p. let y : ◌≡◌ {A = ℕ} 1 0 = ap (λ (x : Bool). cond x 1 0) (sym (laid q t f v r g h).right ∙ ap head_right (sym p) ∙ e) in omega arith)

-- ---- a first fault is read as it is
after : (s : List ℕ) (i : Objects) (w : List ℕ) → s ≡ written i ++ w → Bytes s → Bytes w
after s i w e b = subst Bytes (ap (drop (length (written i))) e ∙ drop-append_seam (written i) w) (drop_bytes (length (written i)) s b)

held : (t : Tag) (f : Form) (v r : List ℕ) → Bytes (object_bytes t f v r) → Bytes v
held t f v r b =
    let hd = head t f (length v) in
    let x = subst Bytes (drop-append_seam hd (v ++ r)) (drop_bytes (length hd) (object_bytes t f v r) b) in
    subst Bytes (take-append_seam v r) (take-bytes (length v) (v ++ r) x)

first-number : (a b : Result Unit ReadFault) (n : ℕ) → reading_number a ≡ n → (n ≡ 0 → ⊥) → reading_number (first_fault a b) ≡ n
first-number (Ok done) b n e x = absurd (x (sym e))
first-number (Err Malformed) b n e x = e
first-number (Err TooDeep) b n e x = e

there : {k n : ℕ} {s : List ℕ} → Fault k n s → Bytes s → (reading_number (read_list (suc k) s) ≡ n) × (n ≡ 0 → ⊥)
unfolding read_list
there {k} {n} {s} (malformed i w e g d x) b =
    (ap reading_number (ap (read_list (suc k)) e ∙ in_front k i w g d ∙ wrong_list k w x.0 x.1 (wrong_there w (after s i w e b) x (head_right w) refl)), λ z. omega arith)
there {k} {n} {s} (too_deep i t f v r e g d a h) b =
    (ap reading_number (ap (read_list 1) e ∙ in_front 0 i (object_bytes t f v r) g d ∙ constructed-list 0 t f v r a h), λ z. omega arith)
there {s} (inside {k = k} {n = n} i t f v r e g d a h x) b =
    let y = there x (held t f v r (after s i (object_bytes t f v r) e b)) in (
      ap reading_number (ap (read_list (suc (suc k))) e ∙ in_front (suc k) i (object_bytes t f v r) g d ∙ constructed-list (suc k) t f v r a h)
          ∙ first-number (read_list (suc k) v) (read_list (suc (suc k)) r) n y.0 y.1,
      y.1,
    )

-- ---- one more good object in front of a fault
module _ (front : List ℕ → List ℕ) (wrap : Objects → Objects) (is : (i : Objects) → written (wrap i) ≡ front (written i))
    (on : (a w : List ℕ) → front a ++ w ≡ front (a ++ w)) (good : (i : Objects) → Good i → Good (wrap i)) where
  longer : (s : List ℕ) (i : Objects) (w : List ℕ) → s ≡ written i ++ w → front s ≡ written (wrap i) ++ w
  longer s i w e = ap front e ∙ sym (on (written i) w) ∙ ap (λ l. l ++ w) (sym (is i))

  prepend : {k n : ℕ} {s : List ℕ} → Fault k n s → ((i : Objects) → depth i ≤ k → depth (wrap i) ≤ k) → Fault k n (front s)
  prepend {s} (malformed i w e g d x) h = malformed (wrap i) w (longer s i w e) (good i g) (h i d) x
  prepend {s} (too_deep i t f v r e g d a b) h = too_deep (wrap i) t f v r (longer s i (object_bytes t f v r) e) (good i g) (h i d) a b
  prepend {s} (inside i t f v r e g d a b x) h = inside (wrap i) t f v r (longer s i (object_bytes t f v r) e) (good i g) (h i d) a b x

-- ---- what is read as a fault is the first
module _ (m : ℕ) (ih : (k n : ℕ) (s : List ℕ) → length s ≤ m → Bytes s → reading_number (read_list (suc k) s) ≡ n → (n ≡ 0 → ⊥) → Fault k n s) where
  rest-fits : (u : List ℕ) → length u ≤ suc m → head_right u ≡ true → length (drop (object_size u) u) ≤ m
  rest-fits u l f = omega (arith, length-drop (object_size u) u, head-some u, right_fits u f)

  value-fits : (u : List ℕ) → length u ≤ suc m → head_right u ≡ true → length (value_of u) ≤ m
  value-fits u l f = omega (arith, value_length u f, head-some u, right_fits u f)

  at-primitive : (k n : ℕ) (u : List ℕ) → length u ≤ suc m → Bytes u → reading_number (read_list (suc k) u) ≡ n → (n ≡ 0 → ⊥) → head_right u ≡ true → First 0 u → Fault k n u
  unfolding Good depth written
  at-primitive k n u l b e x f o =
      let v = value_of u in
      let r = drop (object_size u) u in
      let p = ap (read_list (suc k)) o.is ∙ primitive-list k o.tag o.form v r o.tagged o.fits in
      let y = ih k n r (rest-fits u l f) (drop_bytes (object_size u) u b) (sym (ap reading_number p) ∙ e) x in
      subst (Fault k n) (sym o.is)
      (prepend (object_bytes o.tag o.form v) (primitive o.tag o.form v) (λ i. refl) (λ a w. behind o.tag o.form v a w)
      (λ i g. (o.tagged, o.fits, value-bytes u b, g)) y (λ i d. d))

  in_held : (k n : ℕ) (u : List ℕ) → length u ≤ suc m → Bytes u → (n ≡ 0 → ⊥) → head_right u ≡ true → (o : First 1 u)
      → reading_number (first_fault (read_list (suc k) (value_of u)) (read_list (suc (suc k)) (drop (object_size u) u))) ≡ n → (read_list (suc k) (value_of u) ≡ Ok tt → ⊥)
      → Fault (suc k) n u
  unfolding Good depth written
  in_held k n u l b x f o e z =
      let v = value_of u in
      let r = drop (object_size u) u in
      let w = sym (ap reading_number (first-fault (read_list (suc k) v) (read_list (suc (suc k)) r) z)) ∙ e in
      inside {k = k} end o.tag o.form v r o.is tt (omega arith) o.tagged o.fits (ih k n v (value-fits u l f) (value-bytes u b) w x)

  at_held : (k n : ℕ) (u : List ℕ) → length u ≤ suc m → Bytes u → (n ≡ 0 → ⊥) → head_right u ≡ true → (o : First 1 u)
      → reading_number (first_fault (read_list (suc k) (value_of u)) (read_list (suc (suc k)) (drop (object_size u) u))) ≡ n
      → (t : Result Unit ReadFault) → read_list (suc k) (value_of u) ≡ t → Fault (suc k) n u
  unfolding Good depth written
  at_held k n u l b x f o e (Ok done) t =
      let v = value_of u in
      let r = drop (object_size u) u in
      let c = back (length v) k v (le_refl _) (value-bytes u b) t in
      let q = c.shallow in
      let y = ih (suc k) n r (rest-fits u l f) (drop_bytes (object_size u) u b) (sym (ap (λ z. reading_number (first_fault z (read_list (suc (suc k)) r))) t) ∙ e) x in
      subst (Fault (suc k) n) (sym o.is)
      (prepend (object_bytes o.tag o.form v) (constructed o.tag o.form c.objects)
      (λ i. ap (λ z. object_bytes o.tag o.form z (written i)) c.is) (λ a w. behind o.tag o.form v a w)
      (λ i g. (o.tagged, subst (λ (z : List ℕ). length z < limit o.form) (sym c.is) o.fits, c.good, g)) y (λ i d. omega arith))
  at_held k n u l b x f o e (Err fault) t = in_held k n u l b x f o e (λ z. not_sound fault (sym t ∙ z))

  at-constructed : (k n : ℕ) (u : List ℕ) → length u ≤ suc m → Bytes u → reading_number (read_list (suc k) u) ≡ n → (n ≡ 0 → ⊥) → head_right u ≡ true → First 1 u → Fault k n u
  unfolding Good depth written read_list
  at-constructed zero n u l b e x f o =
      let v = value_of u in
      let r = drop (object_size u) u in
      let p = ap (read_list 1) o.is ∙ constructed-list 0 o.tag o.form v r o.tagged o.fits in
      subst (λ (z : ℕ). Fault 0 z u) (sym (ap reading_number p) ∙ e) (too_deep end o.tag o.form v r o.is tt (omega arith) o.tagged o.fits)
  at-constructed (suc k) n u l b e x f o =
      let v = value_of u in
      let r = drop (object_size u) u in
      let p = ap (read_list (suc (suc k))) o.is ∙ constructed-list (suc k) o.tag o.form v r o.tagged o.fits in
      at_held k n u l b x f o (sym (ap reading_number p) ∙ e) (read_list (suc k) v) refl

  at-object : (k n : ℕ) (u : List ℕ) → length u ≤ suc m → Bytes u → reading_number (read_list (suc k) u) ≡ n → (n ≡ 0 → ⊥) → (length u ≡ 0 → ⊥) → (byte u 0 ≡ 0 → ⊥)
      → (f t : Bool) → head_right u ≡ f → is_constructed (byte u 0) ≡ t → Fault k n u
  unfolding Good depth written
  at-object k n u l b e x y z false t p q =
      subst (λ (a : ℕ). Fault k a u) (sym (ap reading_number (wrong_list k u y z p)) ∙ e) (malformed end u refl tt (omega arith) (wrong_back u p y z))
  at-object k n u l b e x y z true true p q = at-constructed k n u l b e x p (first 1 u b z p (bit_set (byte u 0) q))
  at-object k n u l b e x y z true false p q = at-primitive k n u l b e x p (first 0 u b z p (bit_clear (byte u 0) q))

  at_byte : (k n b : ℕ) (s : List ℕ) → length s ≤ m → Bytes (b ∷ s) → reading_number (read_list (suc k) (b ∷ s)) ≡ n → (n ≡ 0 → ⊥) → (t : Bool) → eqb b 0 ≡ t → Fault k n (b ∷ s)
  unfolding Good depth written
  at_byte k n b s l h e x true t =
      let z = eqb-true b 0 t in
      let p = ap (λ c. read_list (suc k) (c ∷ s)) z ∙ filler-list k s in
      subst (λ (c : ℕ). Fault k n (c ∷ s)) (sym z)
      (prepend (λ a. 0 ∷ a) filler (λ i. refl) (λ a w. refl) (λ i g. g) (ih k n s l (λ i. h (suc i)) (sym (ap reading_number p) ∙ e) x) (λ i d. d))
  at_byte k n b s l h e x false t = at-object k n (b ∷ s) (omega arith) h e x (λ y. omega arith) (eqb-false b 0 t) (head_right (b ∷ s)) (is_constructed b) refl refl

-- m bounds the length
back_by : (m k n : ℕ) (s : List ℕ) → length s ≤ m → Bytes s → reading_number (read_list (suc k) s) ≡ n → (n ≡ 0 → ⊥) → Fault k n s
unfolding read_list read_behind
back_by zero k n [] l b e x = absurd (x (sym e))
back_by zero k n (c ∷ s) l b e x = absurd (omega arith)
back_by (suc m) k n [] l b e x = absurd (x (sym e))
back_by (suc m) k n (c ∷ s) l b e x = at_byte m (back_by m) k n c s (omega arith) b e x (eqb c 0) refl

-- ---- a template
frame_is : (s : List ℕ) (b : ℕ) (f : Form) (v : List ℕ) → Framed s b f v → (is_template s ≡ true) × (value_of s ≡ v)
frame_is s b f v h = let w = frame_there b f v h.0 h.1 in (ap is_template h.2 ∙ w.0, ap value_of h.2 ∙ w.1)

-- THEOREM: the number of a template is that of its first fault
pub fault_if_first : {n : ℕ} {s : List ℕ} → TemplateFault n s → Bytes s → (reading_number (read_template s) ≡ n) × (n ≡ 0 → ⊥)
fault_if_first {s = s} (unframed h) b = (go (is_template s) refl, λ z. omega arith)
  where
    go : (t : Bool) → is_template s ≡ t → reading_number (read_template s) ≡ 18
    go true e = let f = frame_back s b e in absurd (h f.tag f.form (value_of s) f.is)
    go false e = ap reading_number (without s e)
fault_if_first {s = s} (framed a f v h x) b =
    let w = frame_is s a f v h in
    let y = there x (subst Bytes w.1 (value-bytes s b)) in
    (ap reading_number (within s w.0 ∙ ap (read_list 4) w.1) ∙ y.0, y.1)

-- THEOREM, the other way: a number that is not 0 is that of the first fault
pub first_if_fault : (n : ℕ) (s : List ℕ) → Bytes s → reading_number (read_template s) ≡ n → (n ≡ 0 → ⊥) → TemplateFault n s
first_if_fault n s b e x = go (is_template s) refl
  where
    go : (t : Bool) → is_template s ≡ t → TemplateFault n s
    go true t =
        let f = frame_back s b t in
        let v = value_of s in
        framed f.tag f.form v f.is (back_by (length v) 3 n v (le_refl _) (value-bytes s b) (sym (ap reading_number (within s t)) ∙ e) x)
    go false t =
        subst (λ (m : ℕ). TemplateFault m s) (sym (ap reading_number (without s t)) ∙ e)
        (unframed (λ a f v h. let z : ◌≡◌ {A = ℕ} 1 0 = ap (λ (y : Bool). cond y 1 0) (sym (frame_is s a f v h).0 ∙ t) in omega arith))
