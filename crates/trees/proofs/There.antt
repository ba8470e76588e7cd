-- What is written of a proper template is sound, and its commands are the tree's. Assumes nothing.
use mathlib.Core.Path.{◌≡◌, refl, sym, ap, ap₂, subst, ◌∙◌}
use mathlib.Core.List.{List, [], ◌∷◌, ◌++◌, map, append_assoc, append-nil}
use mathlib.Core.Bool.{Bool, true, false, ◌||◌, cond}
use Prim.Native.Nat.{ℕ, zero, suc, ◌+◌, ◌≤◌, ◌<◌, max}
use native.Mathlib.Nat.{add-zero}
use native.Mathlib.Omega.{arith}
use lib.ListN.{length, take, drop}
use lib.Seq.{drop-append_seam, drop-drop}
use lib.Dec.{ltb, eqb}
use borrow.Author.Tests.{eq-eqb, eqb-true, eqb-false, ltb-true, ltb-false}
use Rattle.object.specs.Object.{value_size, head_size, object_size, value_of, first_fault, read_behind, read_list, is_template, read_template}
use Rattle.cursor.specs.Cursor.{places_behind, places_from, cut, commands_of}
use Rattle.cursor.proofs.Places.{filler-first, constructed-first, command-first, other-first}
use Rattle.trees.specs.Tree.{Tag, short, long, Form, Objects, end, filler, primitive, constructed, Template, tree, object_bytes, written, depth}
use Rattle.trees.specs.Tree.{is86, if_command, commands, limit, Tagged, Good, Root, Proper}
use Rattle.trees.proofs.Laid.{laid, behind, filler-list, primitive-list, constructed-list}
use Rattle.std.specs.Prelude.{Err, Ok, Result}
use Rattle.object.specs.declared.Fault.{Fault}
use Rattle.object.specs.declared.Fault.TheVariants.{TooDeep}

-- ---- good objects that are not too deep change nothing of what is behind them
pub in_front : (k : ℕ) (i : Objects) (w : List ℕ) → Good i → depth i ≤ k → read_list (suc k) (written i ++ w) ≡ read_list (suc k) w
unfolding Good depth written read_list read_behind
in_front k end w g d = refl
in_front k (filler r) w g d = filler-list k (written r ++ w) ∙ in_front k r w g d
in_front k (primitive t f v r) w g d =
    ap (read_list (suc k)) (behind t f v (written r) w) ∙ primitive-list k t f v (written r ++ w) g.0 g.1 ∙ in_front k r w g.3 (omega arith)
in_front zero (constructed t f o r) w g d = absurd (omega arith)
in_front (suc k) (constructed t f o r) w g d =
    let v = written o in
    let s : read_list (suc k) v ≡ (Ok tt) = ap (read_list (suc k)) (sym (append-nil v)) ∙ in_front k o [] g.2 (omega arith) in
    ap (read_list (suc (suc k))) (behind t f v (written r) w)
    ∙ constructed-list (suc k) t f v (written r ++ w) g.0 g.1
    ∙ ap₂ first_fault s (in_front (suc k) r w g.3 (omega arith))

pub there : (k : ℕ) (i : Objects) → Good i → depth i ≤ k → read_list (suc k) (written i) ≡ Ok tt
unfolding read_list read_behind
there k i g d = ap (read_list (suc k)) (sym (append-nil (written i))) ∙ in_front k i [] g d

-- ---- objects that are too deep, wherever among them the depth is passed
by-depth : (a b : Result Unit Fault) (m n k : ℕ) → (k < m → a ≡ Err TooDeep) → (m ≤ k → a ≡ Ok tt) → (suc k < n → b ≡ Err TooDeep) → suc k < max (1 + m) n
    → (t : Bool) → ltb k m ≡ t → first_fault a b ≡ Err TooDeep
by-depth a b m n k f g h d true e = ap (λ x. first_fault x b) (f (ltb-true k m e))
by-depth a b m n k f g h d false e = let l = ltb-false k m e in ap₂ first_fault (g l) (h (omega arith))

deep : (k : ℕ) (i : Objects) → Good i → k < depth i → read_list (suc k) (written i) ≡ Err TooDeep
unfolding Good depth written read_list
deep k end g d = absurd (omega arith)
deep k (filler r) g d = filler-list k (written r) ∙ deep k r g d
deep k (primitive t f v r) g d = primitive-list k t f v (written r) g.0 g.1 ∙ deep k r g.3 (omega arith)
deep zero (constructed t f o r) g d = constructed-list 0 t f (written o) (written r) g.0 g.1
deep (suc k) (constructed t f o r) g d =
    constructed-list (suc k) t f (written o) (written r) g.0 g.1
    ∙ by-depth (read_list (suc k) (written o)) (read_list (suc (suc k)) (written r)) (depth o) (depth r) k
    (λ h. deep k o g.2 h) (λ h. there k o g.2 h) (λ h. deep (suc k) r g.3 h) d (ltb k (depth o)) refl

-- ---- the commands. u is the whole, in which i is written at a and ends at e
module _ (u : List ℕ) where
  further : (a n : ℕ) (x y : List ℕ) → drop a u ≡ x → drop n x ≡ y → drop (a + n) u ≡ y
  further a n x y p q = sym (drop-drop n a u) ∙ ap (drop n) p ∙ q

  values : ℕ → List ℕ → List (List ℕ)
  values a s = map (cut u) (places_behind a 0 s)

  command-by : (a : ℕ) (t : Tag) (f : Form) (v r : List ℕ) → Tagged 0 t → length v < limit f → drop a u ≡ object_bytes t f v r
      → (p : Bool) → is86 t ≡ p → values a (object_bytes t f v r) ≡ if_command p v (values (a + object_size (object_bytes t f v r)) r)
  unfolding values cut value_of
  command-by a (short b) f v r g h w true e =
      let s = object_bytes (short b) f v r in
      let o = laid 0 (short b) f v r g h in
      ap (map (cut u)) (command-first a s o.some o.right (eqb-true b 0x86 e))
      ∙ ap₂ (λ x y. x ∷ map (cut u) (places_behind (a + object_size s) 0 y)) (ap (take (value_size s)) (further a (head_size s) s _ w refl) ∙ o.value) o.rest
  command-by a (long b c) f v r g h w true e = let z : ◌≡◌ {A = ℕ} 0 1 = ap (λ (x : Bool). cond x 1 0) e in absurd (omega arith)
  command-by a (short b) f v r g h w false e =
      let s = object_bytes (short b) f v r in
      let o = laid 0 (short b) f v r g h in
      ap (map (cut u)) (other-first a s o.some o.no_filler o.right o.bit (eqb-false b 0x86 e))
      ∙ ap (λ y. map (cut u) (places_behind (a + object_size s) 0 y)) o.rest
  command-by a (long b c) f v r g h w false e =
      let s = object_bytes (long b c) f v r in
      let o = laid 0 (long b c) f v r g h in
      let m = g.2 in
      ap (map (cut u)) (other-first a s o.some o.no_filler o.right o.bit (λ z. omega arith))
      ∙ ap (λ y. map (cut u) (places_behind (a + object_size s) 0 y)) o.rest

  held_by : (a : ℕ) (t : Tag) (f : Form) (v r : List ℕ) → Tagged 1 t → length v < limit f
      → values a (object_bytes t f v r) ≡ values (a + head_size (object_bytes t f v r)) (v ++ r)
  unfolding values
  held_by a t f v r g h =
      let s = object_bytes t f v r in
      let o = laid 1 t f v r g h in
      ap (map (cut u)) (constructed-first a s o.some o.no_filler o.right o.bit) ∙ ap (λ y. map (cut u) (places_behind (a + head_size s) 0 y)) o.inner

  with_command : (p : Bool) (v : List ℕ) (x y z : List (List ℕ)) → x ≡ y ++ z → if_command p v x ≡ if_command p v y ++ z
  with_command true v x y z e = ap (λ l. v ∷ l) e
  with_command false v x y z e = e

  flat : (a e : ℕ) (i : Objects) (w : List ℕ) → Good i → drop a u ≡ written i ++ w → e ≡ a + length (written i) → values a (written i ++ w) ≡ commands i ++ values e w
  unfolding Good written commands values
  flat a e end w g d p = ap (λ n. values n w) (sym (p ∙ add-zero a))
  flat a e (filler r) w g d p =
      ap (map (cut u)) (filler-first a (0 ∷ (written r ++ w)) (λ z. omega arith) refl)
      ∙ flat (a + 1) e r w g (further a 1 (0 ∷ (written r ++ w)) _ d refl) (omega arith)
  flat a e (primitive t f v r) w g d p =
      let s = object_bytes t f v (written r ++ w) in
      let x = behind t f v (written r) w in
      let o = laid 0 t f v (written r ++ w) g.0 g.1 in
      let l = (laid 0 t f v (written r) g.0 g.1).length_is in
      let k = o.size_is in
      ap (values a) x
      ∙ command-by a t f v (written r ++ w) g.0 g.1 (d ∙ x) (is86 t) refl
      ∙ with_command (is86 t) v _ (commands r) (values e w) (flat (a + object_size s) e r w g.3 (further a (object_size s) s _ (d ∙ x) o.rest) (omega arith))
  flat a e (constructed t f i r) w g d p =
      let v = written i in
      let s = object_bytes t f v (written r ++ w) in
      let x = behind t f v (written r) w in
      let o = laid 1 t f v (written r ++ w) g.0 g.1 in
      let l = (laid 1 t f v (written r) g.0 g.1).length_is in
      let k = o.head-is in
      let m = a + head_size s in
      let b : drop m u ≡ v ++ (written r ++ w) = further a (head_size s) s _ (d ∙ x) o.inner in
      ap (values a) x
      ∙ held_by a t f v (written r ++ w) g.0 g.1
      ∙ flat m (m + length v) i (written r ++ w) g.2 b refl
      ∙ ap (λ y. commands i ++ y) (flat (m + length v) e r w g.3 (further m (length v) (v ++ (written r ++ w)) _ b (drop-append_seam v (written r ++ w))) (omega arith))
      ∙ sym (append_assoc (commands i) (commands r) (values e w))

-- ---- a template
pub either-root : (b : ℕ) → Root b → (P : ℕ → Type 0) → P 0x71 → P 0x72 → P b
either-root b o P p q = go (eqb b 0x71) (eqb b 0x72) refl refl o
  where
    go : (x y : Bool) → eqb b 0x71 ≡ x → eqb b 0x72 ≡ y → (x || y) ≡ true → P b
    go true y e f h = subst P (sym (eqb-true b 0x71 e)) p
    go false true e f h = subst P (sym (eqb-true b 0x72 f)) q
    go false false e f h = let z : ◌≡◌ {A = ℕ} 0 1 = ap (λ (x : Bool). cond x 1 0) h in absurd (omega arith)

pub root_tagged : (b : ℕ) → Root b → Tagged 1 (short b)
root_tagged b e =
    either-root b e (λ k. Tagged 1 (short k)) (omega arith, (λ z. omega arith), (λ z. omega arith), refl) (omega arith, (λ z. omega arith), (λ z. omega arith), refl)

pub within : (s : List ℕ) → is_template s ≡ true → read_template s ≡ read_list 4 (value_of s)
unfolding read_template
within s e = simp (e)

pub frame_there : (b : ℕ) (f : Form) (v : List ℕ) → Root b → length v < limit f
    → (is_template (object_bytes (short b) f v []) ≡ true) × (value_of (object_bytes (short b) f v []) ≡ v)
unfolding is_template
frame_there b f v e h =
    let s = object_bytes (short b) f v [] in
    let o = laid 1 (short b) f v [] (root_tagged b e) h in
    let k = o.size_is in
    let l = o.length_is in
    let m : object_size s ≡ length s = omega arith in
    (simp (e, o.right, eq-eqb (object_size s) (length s) m), o.value)

template-list : (t : Template) → Root t.tag → Good (tree t) → read_template (written (tree t)) ≡ read_list 4 (written t.list)
unfolding Good written
template-list t e g =
    let v = written t.list in
    let f = frame_there t.tag t.form v e g.1 in
    within (object_bytes (short t.tag) t.form v []) f.0 ∙ ap (read_list 4) f.1

-- THEOREM: a proper template is sound
pub sound_if_proper : (t : Template) → Proper t → read_template (written (tree t)) ≡ Ok tt
unfolding Good depth
sound_if_proper t p =
    let d = p.shallow in
    template-list t p.root p.good ∙ there 3 t.list p.good.2 (omega arith)

-- THEOREM: one that would be proper, were it not deeper than 4, is too deep
pub deep_if_deeper : (t : Template) → Root t.tag → Good (tree t) → 4 < depth (tree t) → read_template (written (tree t)) ≡ Err TooDeep
unfolding Good depth
deep_if_deeper t e g d = template-list t e g ∙ deep 3 t.list g.2 (omega arith)

-- THEOREM: the commands are the values of the tree's primitive objects 86, in order
pub commands_in_order : (t : Template) → Proper t → commands_of (written (tree t)) ≡ commands (tree t)
unfolding commands_of places_from values places_behind
commands_in_order t p =
    let s = written (tree t) in
    let n = append-nil s in
    ap (λ x. map (cut s) (places_behind 0 0 x)) (sym n) ∙ flat s 0 (0 + length s) (tree t) [] p.good (sym n) refl ∙ append-nil (commands (tree t))
