use borrow.Author.Tests.{eq-eqb, ne_eqb, lt-ltb, le-ltb}
use mathlib.Core.Path.{◌≡◌, sym, ap, ◌∙◌}
use mathlib.Core.List.{List}
use Prim.Native.Nat.{ℕ, ◌%◌, ◌≤◌, ◌<◌}
use Rattle.wire.specs.Wire.{byte}
use Rattle.head.specs.Head.{head_of, head_behind}
use Rattle.head.proofs.Heads.{tag_right_lem, tag_wrong}
use Rattle.std.specs.Prelude.{None}
use Rattle.head.proofs.read_head.Goals as goal

short : (s : List ℕ) (b : ℕ) → b ≡ byte s 0 → (b % 32 ≡ 31 → ⊥) → head_of s ≡ head_behind s 1
short s b e h = let x = ap (λ n. n % 32) e in let p = ne_eqb (byte s 0 % 32) 31 (λ z. h (x ∙ z)) in tag_right_lem s 1 (simp (p)) (simp (p))

module _ (s : List ℕ) (b c : ℕ) (e : b ≡ byte s 0) (g : c ≡ byte s 1) (h : b % 32 ≡ 31) where
  long : c < 0x80 → head_of s ≡ head_behind s 2
  long l = let p = eq-eqb (byte s 0 % 32) 31 (ap (λ n. n % 32) (sym e) ∙ h) in tag_right_lem s 2 (simp (p, ← g, lt-ltb c 0x80 l)) (simp (p))

  longer : 0x80 ≤ c → head_of s ≡ None
  longer l = let p = eq-eqb (byte s 0 % 32) 31 (ap (λ n. n % 32) (sym e) ∙ h) in tag_wrong s (simp (p, ← g, le-ltb c 0x80 l))

pub returns-then-byte_at-ne31 : goal.returns-then-byte_at-ne31
returns-then-byte_at-ne31 c =
    let s = c.args.s.now in
    c.read_length.ensures ∙ sym (short s _ c.byte_at.ensures c.if-byte_at-ne31.true)

pub returns-then-byte_at-ge128 : goal.returns-then-byte_at-ge128
returns-then-byte_at-ge128 c =
    let s = c.args.s.now in
    sym (longer s _ _ c.byte_at.ensures c.byte_at-2.ensures c.if-byte_at-ne31.false c.if-byte_at-ge128.true)

pub returns : goal.returns
returns c =
    let s = c.args.s.now in
    c.read_length-2.ensures ∙ sym (long s _ _ c.byte_at.ensures c.byte_at-2.ensures c.if-byte_at-ne31.false c.if-byte_at-ge128.false)
