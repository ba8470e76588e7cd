use mathlib.Core.List.{List}
use native.Mathlib.Omega.{arith}
use mathlib.Core.Path.{◌≡◌, refl, sym, ap, ap₂, ◌∙◌}
use Prim.Native.Nat.{ℕ, ◌+◌, ◌-◌, ◌≤◌, ◌<◌}
use lib.ListN.{length, take, drop}
use Rattle.wire.specs.Wire.{byte}
use Rattle.head.specs.Head.{is_constructed, value_size, head_of}
use Rattle.object.specs.Object.{value_of, read_object, read_list}
use Rattle.head.proofs.Heads.{rest_all, part_length, rest_length, right_fits, head-some, is_right, At, right_at, wrong_at}
use Rattle.object.proofs.Lists.{object-constructed, object-primitive, object-malformed, object_deep}
use Rattle.object.proofs.Lists.{without_head, list-end, list_pass, list-fault, list-more, not_sound}
use Rattle.std.specs.Prelude.{Err, Ok, Option, Result, Some}
use Rattle.std.proofs.lemmas.Result.{err_from_is_err_and}
use Rattle.head.specs.declared.Head.{Head}
use Rattle.object.specs.declared.Fault.{Fault}
use Rattle.object.specs.declared.Fault.TheVariants.{Malformed}
use Rattle.object.proofs.+read_list_read_object.Goals as goal

-- an object at a place of a list, to which the reader has come
record Object (s : List ℕ) (k at m n : ℕ) : Type 0 where
  depths : 1 ≤ k
  led : read_list k s ≡ read_list k (drop at s)
  there : at < length s
  no_filler : byte s at ≡ 0 → ⊥
  place : At s at m n
  rest : length (take (length s - at) (drop at s)) ≡ length s - at

met : {s : List ℕ} {k at b : ℕ} {h : Option Head} {x : Head} → 1 ≤ k → read_list k s ≡ read_list k (drop at s) → at < length s
    → b ≡ byte s at → (b ≡ 0 → ⊥) → h ≡ head_of (take (length s - at) (drop at s)) → h ≡ Some x → Object s k at x.size x.length
met {s = s} {at = at} depths led there byte_is no_filler head_is right = record {
  depths = depths;
  led = led;
  there = there;
  no_filler = λ z. no_filler (byte_is ∙ z);
  place = right_at _ _ _ _ _ there head_is right;
  rest = rest_length s at there;
}

module _ {s : List ℕ} {k at m n : ℕ} (o : Object s k at m n) (r : Result Unit Fault) (e : r ≡ read_object (read_list (k - 1)) (take (length s - at) (drop at s))) where
  is_read : r ≡ read_object (read_list (k - 1)) (drop at s)
  is_read = e ∙ ap (read_object (read_list (k - 1))) (rest_all s at)

  faulty : (r ≡ Ok tt → ⊥) → r ≡ read_list k s
  faulty f = list-fault k at s o.depths o.there o.no_filler r is_read f ∙ sym o.led

  passed : r ≡ Ok tt → read_list k s ≡ read_list k (drop (at + (m + n)) s)
  passed f =
      o.led
      ∙ list-more k at s o.depths o.there o.no_filler r is_read f
      ∙ ap₂ (λ m n. read_list k (drop (at + (m + n)) s)) (sym o.place.head.size) (sym o.place.head.value)

pub read_list-loop-at-init : goal.read_list-loop-at-init
unfolding value_of
read_list-loop-at-init t c = refl

pub read_list-loop-at-preserved-then-byte_at-eq0 : goal.read_list-loop-at-preserved-then-byte_at-eq0
unfolding value_of
read_list-loop-at-preserved-then-byte_at-eq0 t c =
    let s = c.args.s.now in
    c.loop-at.invariant
    ∙ list_pass c.args.depths c.loop-at.at s c.requires c.loop-at-test.true (sym c.byte_at.ensures ∙ c.if-byte_at-eq0.true)

pub read_list-returns-in_err-head : goal.read_list-returns-in_err-head
unfolding value_of
read_list-returns-in_err-head t c =
    let s = c.args.s.now in
    let k = c.args.depths in
    let at = c.loop-at.at in
    let none = c.in_err-head.ensures.ok_part in
    let w = wrong_at s at _ c.read_head.ensures none in
    let p = err_from_is_err_and c.from_residual.result c.from_residual.ensures.1 in
    p.1 ∙ ap Err (p.2 ∙ without_head _ _ c.in_err-head.ensures.value)
    ∙ list-fault k at s c.requires c.loop-at-test.true (λ z. c.if-byte_at-eq0.false (c.byte_at.ensures ∙ z)) (Err Malformed)
    (sym (object-malformed (read_list (k - 1)) (drop at s) w)) (not_sound Malformed)
    ∙ sym c.loop-at.invariant

pub read_list-read_object-requires : goal.read_list-read_object-requires
unfolding value_of
read_list-read_object-requires t c =
    let o = met c.requires c.loop-at.invariant c.loop-at-test.true c.byte_at.ensures c.if-byte_at-eq0.false c.read_head.ensures c.in_ok-head.ensures.ok_part in
    (omega (arith, o.rest, o.there, o.depths), sym c.read_head.ensures ∙ c.in_ok-head.ensures.ok_part)

pub read_list-returns-in_err-read_object : goal.read_list-returns-in_err-read_object
unfolding value_of
read_list-returns-in_err-read_object t c =
    let o = met c.requires c.loop-at.invariant c.loop-at-test.true c.byte_at.ensures c.if-byte_at-eq0.false c.read_head.ensures c.in_ok-head.ensures.ok_part in
    let p = err_from_is_err_and c.from_residual-in_err-read_object.result c.from_residual-in_err-read_object.ensures.1 in
    let e = p.1 ∙ ap Err p.2 in
    let was = c.in_err-read_object.was in
    e ∙ sym was ∙ faulty o c.read_object.result c.read_object.ensures (λ z. not_sound _ (sym was ∙ z))

pub read_list-overflow_add-at-in-loop-at : goal.read_list-overflow_add-at-in-loop-at
unfolding value_of
read_list-overflow_add-at-in-loop-at t c =
    let o = met c.requires c.loop-at.invariant c.loop-at-test.true c.byte_at.ensures c.if-byte_at-eq0.false c.read_head.ensures c.in_ok-head.ensures.ok_part in
    omega (arith, o.place.within)

pub read_list-overflow_add-at-in-loop-at-2 : goal.read_list-overflow_add-at-in-loop-at-2
unfolding value_of
read_list-overflow_add-at-in-loop-at-2 t c =
    let o = met c.requires c.loop-at.invariant c.loop-at-test.true c.byte_at.ensures c.if-byte_at-eq0.false c.read_head.ensures c.in_ok-head.ensures.ok_part in
    omega (arith, o.place.within)

pub read_list-loop-at-smaller : goal.read_list-loop-at-smaller
unfolding value_of
read_list-loop-at-smaller t c =
    let o = met c.requires c.loop-at.invariant c.loop-at-test.true c.byte_at.ensures c.if-byte_at-eq0.false c.read_head.ensures c.in_ok-head.ensures.ok_part in
    omega (arith, o.place.some, o.place.within)

pub read_list-loop-at-preserved : goal.read_list-loop-at-preserved
unfolding value_of
read_list-loop-at-preserved t c =
    let o = met c.requires c.loop-at.invariant c.loop-at-test.true c.byte_at.ensures c.if-byte_at-eq0.false c.read_head.ensures c.in_ok-head.ensures.ok_part in
    passed o c.read_object.result c.read_object.ensures c.in_ok-read_object.was

pub read_list-returns : goal.read_list-returns
unfolding value_of
read_list-returns t c = sym (c.loop-at.invariant ∙ list-end c.args.depths c.loop-at.at c.args.s.now c.requires c.loop-at-test.false)

pub read_object-returns-then-not-is_constructed : goal.read_object-returns-then-not-is_constructed
unfolding value_of
read_object-returns-then-not-is_constructed t c =
    let s = c.args.s.now in
    let i = is_right s _ _ c.requires in
    let p = ap is_constructed (sym c.byte_at.ensures) ∙ sym c.is_constructed.ensures ∙ c.if-not-is_constructed.true in
    sym (object-primitive (read_list c.args.depths) s i.right p)

pub read_object-returns-then-depths-eq0 : goal.read_object-returns-then-depths-eq0
unfolding value_of
read_object-returns-then-depths-eq0 t c =
    let s = c.args.s.now in
    let i = is_right s _ _ c.requires in
    let p = ap is_constructed (sym c.byte_at.ensures) ∙ sym c.is_constructed.ensures ∙ c.if-not-is_constructed.false in
    sym (object_deep c.args.depths s i.right p c.if-depths-eq0.true)

pub read_object-overflow_add-head : goal.read_object-overflow_add-head
unfolding value_of
read_object-overflow_add-head t c =
    let s = c.args.s.now in
    let i = is_right s _ _ c.requires in
    omega (arith, i.size, i.value, right_fits s i.right)

pub read_object-slice_bounds-read_list-end : goal.read_object-slice_bounds-read_list-end
unfolding value_of
read_object-slice_bounds-read_list-end t c =
    let s = c.args.s.now in
    let i = is_right s _ _ c.requires in
    omega (arith, i.size, i.value, right_fits s i.right)

pub read_object-read_list-requires : goal.read_object-read_list-requires
unfolding value_of
read_object-read_list-requires t c =
    let s = c.args.s.now in
    let i = is_right s _ _ c.requires in
    let x = i.size in
    let y = i.value in
    let f = right_fits s i.right in
    let o = head-some s in
    let m = c.args.head.size in
    let n = c.args.head.length in
    let p = part_length s m (m + n - m) (omega arith) in
    (omega arith, omega arith)

pub read_object-returns : goal.read_object-returns
unfolding value_of
read_object-returns t c =
    let s = c.args.s.now in
    let k = c.args.depths in
    let i = is_right s _ _ c.requires in
    let m = c.args.head.size in
    let n = c.args.head.length in
    let y = i.value in
    let z : m + n - m ≡ value_size s = omega arith in
    let p = ap is_constructed (sym c.byte_at.ensures) ∙ sym c.is_constructed.ensures ∙ c.if-not-is_constructed.false in
    c.read_list.ensures
    ∙ ap₂ (λ x y. read_list k (take y (drop x s))) i.size z
    ∙ sym (object-constructed (read_list k) s i.right p)
