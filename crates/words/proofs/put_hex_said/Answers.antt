use mathlib.Core.Path.{◌≡◌, sym, ap, ◌∙◌}
use mathlib.Core.List.{[], ◌∷◌, ◌++◌}
use Prim.Native.Nat.{ℕ, ◌+◌, ◌*◌, ◌≤◌, ◌<◌}
use native.Mathlib.Numerals.{add-one}
use native.Mathlib.Omega.{arith}
use lib.ListN.{length, drop, get_or, length-drop}
use lib.Seq.{take-suc, take_all}
use Rattle.std.proofs.lemmas.List.{length_push}
use Rattle.std.specs.Slice.Iter.{chunks_exact_rest, chunks_exact_size}
use Rattle.std.specs.declared.slice.ChunksExact.{ChunksExact}
use Rattle.words.specs.Words.{hex_bytes, hex_said}
use Rattle.words.proofs.Said.{digits-at, pair-at, pairs, pair-turn}
use Rattle.words.proofs.Puts.{nothing, next}
use Rattle.words.proofs.put_hex_said.Goals as goal

pub returns-then-not-is_hex : goal.returns-then-not-is_hex
unfolding hex_said
returns-then-not-is_hex c = rw (sym c.is_hex.ensures ∙ c.if-not-is_hex.true) (nothing _ _)

pub loop-pair-init : goal.loop-pair-init
loop-pair-init c =
    let same = c.into_iter-pair-iterator.ensures.into_iter_gives in
    let made = c.chunks_exact-pair-items.ensures in
    record {
      put = nothing _ _;
      digits = sym c.is_hex.ensures ∙ c.if-not-is_hex.false;
      left = ap (λ (s : ChunksExact ℕ). chunks_exact_rest s) same ∙ made.rest;
      size = ap (λ (s : ChunksExact ℕ). chunks_exact_size s) same ∙ made.size;
    }

pub hex_value-requires : goal.hex_value-requires
hex_value-requires c =
    let i = c.loop-pair.invariant in
    let step = c.in-Some.ensures.steps.1 in
    let turn = pair-turn _ _ _ _ (sym i.left ∙ step.0) (step.1 ∙ i.size) in
    rw turn.first (digits-at _ _ i.digits turn.within).0

pub hex_value-requires-in-loop-pair : goal.hex_value-requires-in-loop-pair
hex_value-requires-in-loop-pair c =
    let i = c.loop-pair.invariant in
    let step = c.in-Some.ensures.steps.1 in
    let turn = pair-turn _ _ _ _ (sym i.left ∙ step.0) (step.1 ∙ i.size) in
    rw turn.second (digits-at _ _ i.digits turn.within).1

pub loop-pair-preserved : goal.loop-pair-preserved
loop-pair-preserved c =
    let word = c.args.word.now in
    let i = c.loop-pair.invariant in
    let n = length c.loop-pair.yielded in
    let step = c.in-Some.ensures.steps.1 in
    let turn = pair-turn _ _ _ n (sym i.left ∙ step.0) (step.1 ∙ i.size) in
    let bytes = pairs word in
    let within = turn.within in
    let more : length (c.loop-pair.yielded ++ c.in-Some.pair ∷ []) ≡ n + 1 = length_push c.loop-pair.yielded c.in-Some.pair in
    let byte : (c.hex_value.result * 16 + c.hex_value-in-loop-pair.result) ≡ get_or (hex_bytes word) n 0 =
    rw (c.hex_value.ensures.0, c.hex_value-in-loop-pair.ensures.0, turn.first, turn.second) (sym (pair-at word n turn.within)) in
    let put = rw byte at c.put_byte-end.ensures in
    record {
      put = rw (more, add-one n, take-suc (hex_bytes word) n 0 (omega arith)) (next i.put put);
      digits = i.digits;
      left = rw more turn.left;
      size = c.in-Some.ensures.steps.0 ∙ i.size;
    }

pub returns : goal.returns
unfolding hex_said
returns c =
    let word = c.args.word.now in
    let i = c.loop-pair.invariant in
    let n = length c.loop-pair.yielded in
    let short : length (drop (2 * n) word) < 2 = rw (← i.left, ← i.size) c.in-None.ensures.steps.1.0 in
    let size = pairs word in
    let left = length-drop (2 * n) word in
    let past : length (hex_bytes word) ≤ n = omega arith in
    rw i.digits (rw (take_all n (hex_bytes word) past) at i.put)
