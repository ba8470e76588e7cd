use borrow.Author.Tests.{eq-eqb, ne_eqb}
use native.Mathlib.Omega.{arith}
use mathlib.Core.Path.{◌≡◌, sym, ap, ap₂, ◌∙◌}
use mathlib.Core.List.{List}
use mathlib.Core.Bool.{Bool, true, false, not, ◌&&◌, ◌||◌}
use Prim.Native.Nat.{ℕ, ◌+◌, ◌-◌}
use lib.Dec.{eqb}
use lib.ListN.{length, take, drop}
use Rattle.wire.specs.Wire.{byte}
use Rattle.head.specs.Head.{value_size, head_size, object_size, head_of}
use Rattle.object.specs.Object.{value_of, is_root, is_template, read_list, read_template}
use Rattle.head.proofs.Heads.{IsRight, is_right, is_wrong, right_fits}
use Rattle.std.specs.Prelude.{Err, Option, Some}
use Rattle.std.proofs.lemmas.Result.{err_from_is_err_and}
use Rattle.head.specs.declared.Head.{Head}
use Rattle.object.specs.declared.Fault.TheVariants.{Malformed}
use Rattle.object.proofs.Lists.{without_head}
use Rattle.object.proofs.read_template.Goals as goal

either : (a b t : Bool) → (not a && not b) ≡ t → (a || b) ≡ not t
either true b t e = ap not e
either false true t e = ap not e
either false false t e = ap not e

root : (s : List ℕ) (tag : ℕ) (t : Bool) → tag ≡ byte s 0 → (not (eqb tag 0x71) && not (eqb tag 0x72)) ≡ t → is_root (byte s 0) ≡ not t
root s tag t e h = ap is_root (sym e) ∙ either (eqb tag 0x71) (eqb tag 0x72) t h

refused : (s : List ℕ) → is_template s ≡ false → (Err Malformed) ≡ read_template s
unfolding read_template
refused s e = simp (e)

-- a head that was read, of an object 71 or 72
record Rooted (s : List ℕ) (m n : ℕ) : Type 0 where
  is-root : is_root (byte s 0) ≡ true
  head : IsRight s m n

rooted : {s : List ℕ} {tag : ℕ} {h : Option Head} {x : Head} → tag ≡ byte s 0 → (not (eqb tag 0x71) && not (eqb tag 0x72)) ≡ false → h ≡ head_of s → h ≡ Some x → Rooted s x.size x.length
rooted {s = s} tag_is one head_is right = record { is-root = root s _ false tag_is one; head = is_right s _ _ (sym head_is ∙ right) }

pub returns-then-tag : goal.returns-then-tag
unfolding is_template
returns-then-tag c =
    let s = c.args.template.now in
    refused s (simp (root s _ true c.byte_at-tag.ensures c.if-tag.true))

pub returns-in_err-head : goal.returns-in_err-head
unfolding is_template
returns-in_err-head c =
    let s = c.args.template.now in
    let none = c.in_err-head.ensures.ok_part in
    let w = is_wrong s (sym c.read_head.ensures ∙ none) in
    let p = err_from_is_err_and c.from_residual.result c.from_residual.ensures.1 in
    p.1 ∙ ap Err (p.2 ∙ without_head _ _ c.in_err-head.ensures.value)
    ∙ refused s (simp (root s _ false c.byte_at-tag.ensures c.if-tag.false, w))

pub overflow_add-head : goal.overflow_add-head
overflow_add-head c =
    let r = rooted c.byte_at-tag.ensures c.if-tag.false c.read_head.ensures c.in_ok-head.ensures.ok_part in
    let i = r.head in
    omega (arith, i.size, i.value, right_fits _ i.right)

pub returns-then-head-template : goal.returns-then-head-template
unfolding is_template
returns-then-head-template c =
    let s = c.args.template.now in
    let r = rooted c.byte_at-tag.ensures c.if-tag.false c.read_head.ensures c.in_ok-head.ensures.ok_part in
    let n = ap₂ ◌+◌ r.head.size r.head.value in
    refused s (simp (r.is-root, r.head.right, ne_eqb (object_size s) (length s) (λ z. c.if-head-template.true (n ∙ z))))

pub returns : goal.returns
unfolding is_template read_template value_of
returns c =
    let s = c.args.template.now in
    let r = rooted c.byte_at-tag.ensures c.if-tag.false c.read_head.ensures c.in_ok-head.ensures.ok_part in
    let m = r.head.size in
    let n = r.head.value in
    let e = c.if-head-template.false in
    let l : object_size s ≡ length s = omega arith in
    let v : length s - head_size s ≡ value_size s = omega arith in
    simp (r.is-root, r.head.right, eq-eqb (object_size s) (length s) l)
    (c.read_list.ensures ∙ ap (λ x. read_list 4 (take (length s - x) (drop x s))) m ∙ ap (λ x. read_list 4 (take x (drop (head_size s) s))) v)
