-- The invariant: the bytes of the pairs passed are put, and the others are left.
use mathlib.Core.Path.{◌≡◌}
use mathlib.Core.Bool.{true}
use Prim.Native.Nat.{◌*◌}
use lib.ListN.{length, take, drop}
use Rattle.std.specs.Slice.Iter.{chunks_exact_rest, chunks_exact_size}
use Rattle.words.specs.Words.{is_hex, hex_bytes}
use Rattle.words.specs.Put.{Put}
use Rattle.words.proofs.put_hex_said.Given as goal

abbrev pub invariant-loop-pair : goal.invariant-loop-pair
invariant-loop-pair l = record {
  put : Put l.initial.room l.at (take (length l.yielded) (hex_bytes l.word)) l.end l.room;
  digits : is_hex l.word ≡ true;
  left : chunks_exact_rest l.pair-iterator ≡ drop (2 * length l.yielded) l.word;
  size : chunks_exact_size l.pair-iterator ≡ 2;
}
