-- What is sound is written of a proper template, and of no other bytes. Assumes nothing.
use mathlib.Core.Path.{◌≡◌, refl, sym, ap, ap₂, subst, ◌∙◌}
use mathlib.Core.List.{List, [], ◌∷◌}
use mathlib.Core.Bool.{Bool, true, false, ◌&&◌}
use Prim.Native.Nat.{ℕ, zero, suc, ◌-◌, ◌%◌, ◌≤◌, ◌<◌}
use native.Mathlib.Nat.{le_refl}
use native.Mathlib.Omega.{arith}
use lib.ListN.{length, drop, length-drop}
use lib.Seq.{drop-length}
use lib.Dec.{eqb}
use borrow.Author.Tests.{eqb-true, eqb-false}
use Rattle.wire.specs.Wire.{byte}
use Rattle.wire.proofs.Pairs.{both}
use Rattle.object.specs.Object.{head_right, is_constructed, object_size, value_of, first_fault, read_object, read_list, is_root, is_template, read_template}
use Rattle.cursor.specs.Cursor.{commands_of}
use Rattle.head.proofs.Heads.{right_fits, head-some}
use Rattle.object.proofs.Lists.{object-constructed, object-malformed, list-filler, list-object, not_sound}
use Rattle.trees.specs.Tree.{Tag, short, long, Form, Objects, end, filler, primitive, constructed, tree, object_bytes, written, depth, commands}
use Rattle.trees.specs.Tree.{limit, Tagged, Bytes, Good, Written, Framed}
use Rattle.trees.proofs.Octets.{written-bytes, drop_bytes}
use Rattle.trees.proofs.There.{either-root, root_tagged, within, sound_if_proper, commands_in_order}
use Rattle.trees.proofs.Heads.{value_length, value-bytes, First, first, bit_set, bit_clear}
use Rattle.std.specs.Prelude.{Err, Ok, Result}
use Rattle.object.specs.declared.Fault.{Fault}
use Rattle.object.specs.declared.Fault.TheVariants.{Malformed, TooDeep}

-- ---- lists
pub record Found (k : ℕ) (s : List ℕ) : Type 0 where
  pub objects : Objects
  pub good : Good objects
  pub shallow : depth objects ≤ k
  pub is : written objects ≡ s

-- an object found, before a list found
a_primitive : (k : ℕ) (s : List ℕ) → Bytes s → First 0 s → Found k (drop (object_size s) s) → Found k s
unfolding Good depth written
a_primitive k s h o r =
    record {
      objects = primitive o.tag o.form (value_of s) r.objects;
      good = (o.tagged, o.fits, value-bytes s h, r.good);
      shallow = r.shallow;
      is = ap (object_bytes o.tag o.form (value_of s)) r.is ∙ sym o.is;
    }

a_constructed : (k : ℕ) (s : List ℕ) → First 1 s → Found k (value_of s) → Found (suc k) (drop (object_size s) s) → Found (suc k) s
unfolding Good depth written
a_constructed k s o c r =
    let d = c.shallow in
    let e = r.shallow in
    record {
      objects = constructed o.tag o.form c.objects r.objects;
      good = (o.tagged, subst (λ (z : List ℕ). length z < limit o.form) (sym c.is) o.fits, c.good, r.good);
      shallow = omega arith;
      is = ap₂ (object_bytes o.tag o.form) c.is r.is ∙ sym o.is;
    }

both_sound : (a b : Result Unit Fault) → first_fault a b ≡ Ok tt → (a ≡ Ok tt) × (b ≡ Ok tt)
both_sound (Ok done) b h = (refl, h)
both_sound (Err fault) b h = absurd (not_sound fault h)

right_if_sound : (f : List ℕ → Result Unit Fault) (s : List ℕ) → read_object f s ≡ Ok tt → head_right s ≡ true
right_if_sound f s h = go (head_right s) refl
  where
    go : (b : Bool) → head_right s ≡ b → head_right s ≡ true
    go true e = e
    go false e = absurd (not_sound _ (sym (object-malformed f s e) ∙ h))

module _ (n : ℕ) (ih : (k : ℕ) (s : List ℕ) → length s ≤ n → Bytes s → read_list (suc k) s ≡ Ok tt → Found k s) where
  by_bit : (k : ℕ) (s : List ℕ) → length s ≤ suc n → Bytes s → (byte s 0 ≡ 0 → ⊥) → head_right s ≡ true → read_object (read_list k) s ≡ Ok tt
      → Found k (drop (object_size s) s) → (t : Bool) → is_constructed (byte s 0) ≡ t → Found k s
  unfolding read_list
  by_bit zero s l h z f o r true b = absurd (not_sound _ (sym (object-constructed (read_list 0) s f b) ∙ o))
  by_bit (suc k) s l h z f o r true b =
      let m = value_length s f in
      let p = right_fits s f in
      let q = head-some s in
      a_constructed k s (first 1 s h z f (bit_set (byte s 0) b))
      (ih k (value_of s) (omega arith) (value-bytes s h) (sym (object-constructed (read_list (suc k)) s f b) ∙ o)) r
  by_bit k s l h z f o r false b = a_primitive k s h (first 0 s h z f (bit_clear (byte s 0) b)) r

  by_byte : (k b : ℕ) (s : List ℕ) → length s ≤ n → Bytes (b ∷ s) → read_list (suc k) (b ∷ s) ≡ Ok tt → (t : Bool) → eqb b 0 ≡ t → Found k (b ∷ s)
  unfolding Good depth written
  by_byte k b s l h e true t =
      let z = eqb-true b 0 t in
      let r = ih k s l (λ i. h (suc i)) (sym (list-filler (suc k) (b ∷ s) (omega arith) (λ y. omega arith) z) ∙ e) in
      record { objects = filler r.objects; good = r.good; shallow = r.shallow; is = ap₂ (λ x y. x ∷ y) (sym z) r.is }
  by_byte k b s l h e false t =
      let z = eqb-false b 0 t in
      let u = b ∷ s in
      let j : suc k - 1 ≡ k = omega arith in
      let o = read_object (read_list (suc k - 1)) u in
      let w = both_sound o (read_list (suc k) (drop (object_size u) u)) (sym (list-object (suc k) u (omega arith) (λ y. omega arith) z) ∙ e) in
      let f = right_if_sound (read_list (suc k - 1)) u w.0 in
      let r = ih k (drop (object_size u) u) (omega (arith, length-drop (object_size u) u, head-some u)) (drop_bytes (object_size u) u h) w.1 in
      by_bit k u (omega arith) h z f (ap (λ m. read_object (read_list m) u) (sym j) ∙ w.0) r (is_constructed b) refl

-- n bounds the length
pub back : (n k : ℕ) (s : List ℕ) → length s ≤ n → Bytes s → read_list (suc k) s ≡ Ok tt → Found k s
unfolding Good depth written
back zero k [] l h e = record { objects = end; good = tt; shallow = omega arith; is = refl }
back zero k (b ∷ s) l h e = absurd (omega arith)
back (suc n) k [] l h e = record { objects = end; good = tt; shallow = omega arith; is = refl }
back (suc n) k (b ∷ s) l h e = by_byte n (back n) k b s (omega arith) h e (eqb b 0) refl

-- ---- a template
pub record Frame (s : List ℕ) : Type 0 where
  pub tag : ℕ
  pub form : Form
  pub is : Framed s tag form (value_of s)

frame_by : (s : List ℕ) → is_root (byte s 0) ≡ true → drop (object_size s) s ≡ []
    → (t : Tag) (f : Form) → Tagged 1 t → length (value_of s) < limit f → s ≡ object_bytes t f (value_of s) (drop (object_size s) s) → Frame s
frame_by s r d (short b) f g h e =
    record { tag = b; form = f; is = (ap is_root (sym (ap (λ l. byte l 0) e)) ∙ r, h, e ∙ ap (object_bytes (short b) f (value_of s)) d) }
frame_by s r d (long b c) f g h e =
    let z : byte s 0 % 32 < 19 = either-root (byte s 0) r (λ k. k % 32 < 19) (omega arith) (omega arith) in
    let y = g.2 in
    let x : byte s 0 ≡ b = ap (λ l. byte l 0) e in
    absurd (omega arith)

pub frame_back : (s : List ℕ) → Bytes s → is_template s ≡ true → Frame s
unfolding is_template
frame_back s b a =
    let r = is_root (byte s 0) in
    let w = both (r && head_right s) (eqb (object_size s) (length s)) a in
    let e = both r (head_right s) w.0 in
    let m = eqb-true (object_size s) (length s) w.1 in
    let g = root_tagged (byte s 0) e.0 in
    let o = first 1 s b g.1 e.1 g.3 in
    frame_by s e.0 (ap (λ k. drop k s) m ∙ drop-length s) o.tag o.form o.tagged o.fits o.is

pub without : (s : List ℕ) → is_template s ≡ false → read_template s ≡ Err Malformed
unfolding read_template
without s e = simp (e)

template_if_sound : (s : List ℕ) → read_template s ≡ Ok tt → is_template s ≡ true
template_if_sound s h = go (is_template s) refl
  where
    go : (t : Bool) → is_template s ≡ t → is_template s ≡ true
    go true e = e
    go false e = absurd (not_sound _ (sym (without s e) ∙ h))

-- THEOREM: bytes that are sound are what is written of a proper template
pub written_if_sound : (s : List ℕ) → Bytes s → read_template s ≡ Ok tt → Written s
unfolding Good depth written
written_if_sound s b h =
    let a = template_if_sound s h in
    let v = value_of s in
    let f = frame_back s b a in
    let c = back (length v) 3 v (le_refl _) (value-bytes s b) (sym (within s a) ∙ h) in
    let d = c.shallow in
    record {
      template = record { tag = f.tag; form = f.form; list = c.objects };
      proper = record {
        root = f.is.0;
        good = (root_tagged f.tag f.is.0, subst (λ (z : List ℕ). length z < limit f.form) (sym c.is) f.is.1, c.good, tt);
        shallow = omega arith;
      };
      is = ap (λ z. object_bytes (short f.tag) f.form z []) c.is ∙ sym f.is.2;
    }

-- THEOREM, the other way: they are bytes, sound, and their commands are those of every proper template that they are written of
pub sound_if_written : (s : List ℕ) (w : Written s) → Bytes s × (read_template s ≡ Ok tt) × (commands_of s ≡ commands (tree w.template))
sound_if_written s w =
    let t = w.template in (
      subst Bytes w.is (written-bytes (tree t) w.proper.good),
      ap read_template (sym w.is) ∙ sound_if_proper t w.proper,
      ap commands_of (sym w.is) ∙ commands_in_order t w.proper,
    )
