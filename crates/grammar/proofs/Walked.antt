-- The records that a walk meets have bytes. Assumes nothing.
use mathlib.Core.Path.{◌≡◌, refl}
use mathlib.Core.Bool.{Bool, true, false}
use mathlib.Core.List.{List, [], ◌∷◌}
use Prim.Native.Nat.{ℕ, zero, suc, ◌+◌, ◌-◌, ◌<◌, ◌≤◌}
use native.Mathlib.Omega.{arith}
use borrow.Author.Tests.{ltb-true, ltb-false}
use lib.Dec.{ltb}
use lib.ListN.{length, take, drop, length-take, get_or-eq_default}
use lib.Seq.{get_or-take, get_or-drop}
use Rattle.wire.specs.Wire.{byte}
use Rattle.paper.specs.Paper.{next_at}
use Rattle.paper.specs.Walk.{part, Met, meeting, met_in}
use Rattle.paper.specs.declared.Next.{Next}
use Rattle.paper.specs.declared.Next.TheVariants.{Record, Fault, End}
use Rattle.paper.proofs.Walk.{Inside, inside}
use Rattle.forms.proofs.Bytes.{Bytes}

-- kind and body
abbrev pub Sound : Met → Type 0
Sound m = Bytes (m.kind ∷ m.body)

pub data All : List Met → Type 0 where
  none : All []
  more : {m : Met} {ms : List Met} → Sound m → All ms → All (m ∷ ms)

part-byte : (s : List ℕ) (start n : ℕ) → Bytes s → Bytes (take n (drop start s))
part-byte s start n small i = by (ltb i n) refl where
  by : (t : Bool) → ltb i n ≡ t → byte (take n (drop start s)) i < 256
  by true e = rw (get_or-take n (drop start s) i 0 (ltb-true i n e), get_or-drop start s i 0) (small (start + i))
  by false e =
      let past : length (take n (drop start s)) ≤ i = rw (length-take n (drop start s)) (omega (arith, ltb-false i n e)) in
      rw (get_or-eq_default (take n (drop start s)) 0 past) (omega arith)

sound : (s : List ℕ) (at kind start end : ℕ) → Bytes s → Inside s at kind start end → Sound (record { kind = kind; body = part s start end })
sound s at kind start end small i zero = rw i.kind-is (small (at + 2))
sound s at kind start end small i (suc n) = part-byte s start (end - start) small n

by_next : (s : List ℕ) (at n : ℕ) (x : Next) → next_at s at ≡ x → Bytes s → ((p : ℕ) → All (met_in n s p)) → All (meeting s x (met_in n s))
by_next s at n (Record kind start end) e small ih = more (sound s at kind start end small (inside s at kind start end e)) (ih end)
by_next s at n Fault e small ih = none
by_next s at n End e small ih = none

pub all-met : (n : ℕ) (s : List ℕ) (at : ℕ) → Bytes s → All (met_in n s at)
unfolding met_in
all-met zero s at small = none
all-met (suc n) s at small = by_next s at n (next_at s at) refl small (λ p. all-met n s p small)
