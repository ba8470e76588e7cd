use borrow.Author.Rules.{rules}
use native.Mathlib.Omega.{arith}
use mathlib.Core.Path.{◌≡◌, refl, sym, ap, ap₂, ◌∙◌}
use mathlib.Core.List.{List}
use mathlib.Core.Bool.{true, false}
use Prim.Native.Nat.{ℕ, ◌+◌, ◌-◌, ◌<◌}
use lib.ListN.{length, take, drop}
use Rattle.wire.specs.Wire.{byte}
use Rattle.head.specs.Head.{head_of, is_constructed}
use Rattle.cursor.specs.Cursor.{places_from, first_of, next_command}
use Rattle.head.proofs.Heads.{At, right_at, wrong_at}
use Rattle.cursor.proofs.Places.{places_end, places_filler, places_wrong, places_constructed, places_command, places_other}
use Rattle.std.specs.Prelude.{Option, Some}
use Rattle.head.specs.declared.Head.{Head}
use Rattle.cursor.proofs.next_command.Goals as goal

-- an object at a place to which the way has led
record Object (s : List ℕ) (from at tag m n : ℕ) : Type 0 where
  led : places_from s from ≡ places_from s at
  there : at < length s
  tag_is : tag ≡ byte s at
  no_filler : byte s at ≡ 0 → ⊥
  place : At s at m n

object : {s : List ℕ} {from at tag : ℕ} {h : Option Head} {x : Head} → places_from s from ≡ places_from s at → at < length s → tag ≡ byte s at → (tag ≡ 0 → ⊥)
    → h ≡ head_of (take (length s - at) (drop at s)) → h ≡ Some x → Object s from at tag x.size x.length
object led there is some e r =
    record {
      led = led;
      there = there;
      tag_is = is;
      no_filler = λ z. some (is ∙ z);
      place = right_at _ _ _ _ _ there e r;
    }

past_head : {s : List ℕ} {from at tag m n : ℕ} → Object s from at tag m n → is_constructed tag ≡ true → places_from s from ≡ places_from s (at + m)
past_head {s} {at = at} o e =
    let h = o.place.head in
    o.led ∙ places_constructed s at o.there o.no_filler h.right (ap is_constructed (sym o.tag_is) ∙ e) ∙ ap (λ m. places_from s (at + m)) (sym h.size)

past-object : {s : List ℕ} {from at tag m n : ℕ} → Object s from at tag m n → is_constructed tag ≡ false → (tag ≡ 0x86 → ⊥) → places_from s from ≡ places_from s (at + (m + n))
past-object {s} {at = at} o e f =
    let h = o.place.head in
    o.led
    ∙ places_other s at o.there o.no_filler h.right (ap is_constructed (sym o.tag_is) ∙ e) (λ z. f (o.tag_is ∙ z))
    ∙ ap₂ (λ m n. places_from s (at + (m + n))) (sym h.size) (sym h.value)

to-command : {s : List ℕ} {from at tag m n : ℕ} → Object s from at tag m n → tag ≡ 0x86 → next_command s from ≡ Some (record { start = at + m; size = n })
unfolding next_command
to-command {s} {at = at} o e =
    let h = o.place.head in
    ap first_of (o.led ∙ places_command s at o.there h.right (sym o.tag_is ∙ e)) ∙ ap₂ (λ x y. (Some (record { start = at + x; size = y }))) (sym h.size) (sym h.value)

pub loop-at-preserved-then-tag-eq0 : goal.loop-at-preserved-then-tag-eq0
loop-at-preserved-then-tag-eq0 c =
    let s = c.args.template.now in
    c.loop-at.invariant ∙ places_filler s c.loop-at.at c.loop-at-test.true (sym c.byte_at-tag.ensures ∙ c.if-tag-eq0.true)

pub returns-in_err-head : goal.returns-in_err-head
unfolding next_command
returns-in_err-head c =
    let s = c.args.template.now in
    let at = c.loop-at.at in
    let w = wrong_at s at _ c.read_head.ensures c.in_err-head.was in
    c.from_residual.ensures ∙ sym (ap first_of (c.loop-at.invariant ∙ places_wrong s at c.loop-at-test.true (λ z. c.if-tag-eq0.false (c.byte_at-tag.ensures ∙ z)) w))

pub overflow_add-at-then-is_constructed : goal.overflow_add-at-then-is_constructed
overflow_add-at-then-is_constructed c =
    let o = object c.loop-at.invariant c.loop-at-test.true c.byte_at-tag.ensures c.if-tag-eq0.false c.read_head.ensures c.in_ok-head.was in
    omega (arith, o.place.within)

pub loop-at-smaller-then-is_constructed : goal.loop-at-smaller-then-is_constructed
loop-at-smaller-then-is_constructed c =
    let o = object c.loop-at.invariant c.loop-at-test.true c.byte_at-tag.ensures c.if-tag-eq0.false c.read_head.ensures c.in_ok-head.was in
    omega (arith, o.there, o.place.some, o.place.within)

pub loop-at-preserved-then-is_constructed : goal.loop-at-preserved-then-is_constructed
loop-at-preserved-then-is_constructed c =
    let o = object c.loop-at.invariant c.loop-at-test.true c.byte_at-tag.ensures c.if-tag-eq0.false c.read_head.ensures c.in_ok-head.was in
    past_head o (sym c.is_constructed.ensures ∙ c.if-is_constructed.true)

pub overflow_add-result : goal.overflow_add-result
overflow_add-result c =
    let o = object c.loop-at.invariant c.loop-at-test.true c.byte_at-tag.ensures c.if-tag-eq0.false c.read_head.ensures c.in_ok-head.was in
    omega (arith, o.place.within)

pub returns-then-tag : goal.returns-then-tag
returns-then-tag c =
    let o = object c.loop-at.invariant c.loop-at-test.true c.byte_at-tag.ensures c.if-tag-eq0.false c.read_head.ensures c.in_ok-head.was in
    sym (to-command o c.if-tag.true)

pub overflow_add-at-in-loop-at : goal.overflow_add-at-in-loop-at
overflow_add-at-in-loop-at c =
    let o = object c.loop-at.invariant c.loop-at-test.true c.byte_at-tag.ensures c.if-tag-eq0.false c.read_head.ensures c.in_ok-head.was in
    omega (arith, o.place.within)

pub overflow_add-at-in-loop-at-2 : goal.overflow_add-at-in-loop-at-2
overflow_add-at-in-loop-at-2 c =
    let o = object c.loop-at.invariant c.loop-at-test.true c.byte_at-tag.ensures c.if-tag-eq0.false c.read_head.ensures c.in_ok-head.was in
    omega (arith, o.place.within)

pub loop-at-smaller : goal.loop-at-smaller
loop-at-smaller c =
    let o = object c.loop-at.invariant c.loop-at-test.true c.byte_at-tag.ensures c.if-tag-eq0.false c.read_head.ensures c.in_ok-head.was in
    omega (arith, o.there, o.place.some, o.place.within)

pub loop-at-preserved : goal.loop-at-preserved
loop-at-preserved c =
    let o = object c.loop-at.invariant c.loop-at-test.true c.byte_at-tag.ensures c.if-tag-eq0.false c.read_head.ensures c.in_ok-head.was in
    past-object o (sym c.is_constructed.ensures ∙ c.if-is_constructed.false) c.if-tag.false

pub returns : goal.returns
unfolding next_command
returns c =
    sym (ap first_of (c.loop-at.invariant ∙ places_end c.args.template.now c.loop-at.at c.loop-at-test.false))
