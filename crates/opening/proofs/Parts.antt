-- A record, and the set-up of an opened paper, lie inside it. Assumes nothing.
use mathlib.Core.Path.{◌≡◌, refl, ap}
use mathlib.Core.Bool.{Bool, true, false, cond}
use mathlib.Core.List.{List}
use Prim.Native.Nat.{ℕ, ◌-◌, ◌≤◌}
use native.Mathlib.Omega.{arith}
use lib.Dec.{eqb}
use lib.ListN.{length, drop, length-drop}
use lib.Seq.{length-take-le}
use Rattle.wire.specs.Wire.{byte}
use Rattle.refusal.specs.declared.Refusal.TheVariants.{Unreadable}
use Rattle.paper.specs.declared.Next.{Next}
use Rattle.paper.specs.declared.Next.TheVariants.{Record, Fault, End}
use Rattle.paper.specs.Paper.{is_unreadable, next_at, setup_in, open_paper}
use Rattle.paper.specs.Walk.{part}
use Rattle.paper.proofs.Walk.{inside}
use Rattle.std.specs.Prelude.{Err, Ok, Result}
use Rattle.paper.specs.declared.Opened.{Opened}
use Rattle.refusal.specs.declared.Refusal.{Refusal}

pub part_length : (s : List ℕ) (start end : ℕ) → start ≤ end → end ≤ length s → length (part s start end) ≡ end - start
part_length s start end h l = length-take-le (end - start) (drop start s) (rw (length-drop start s) (omega arith))

pub record_inside : (s : List ℕ) (at kind start end : ℕ) → next_at s at ≡ Record kind start end → (start ≤ end) × (end ≤ length s)
record_inside s at kind start end e =
    let i = inside s at kind start end e in
    let f = i.start_is in
    let h = i.holds in
    (omega arith, i.fits)

start_of : Result Opened Refusal → ℕ
start_of (Ok opened) = opened.start
start_of (Err refusal) = 0

end_of : Result Opened Refusal → ℕ
end_of (Ok opened) = opened.end
end_of (Err refusal) = 0

by_next : (s : List ℕ) (version start end : ℕ) (b : Bool) (n : Next) → next_at s 1 ≡ n
    → cond b (Err Unreadable) (setup_in (byte s 0) n) ≡ Ok (record { version = version; start = start; end = end })
    → (start ≤ end) × (end ≤ length s)
unfolding start_of end_of
by_next s version start end true n e o = let z : ◌≡◌ {A = ℕ} 0 1 = cc in (omega arith, omega arith)
by_next s version start end false Fault e o = let z : ◌≡◌ {A = ℕ} 0 1 = cc in (omega arith, omega arith)
by_next s version start end false End e o = let z : ◌≡◌ {A = ℕ} 0 1 = cc in (omega arith, omega arith)
by_next s version start end false (Record kind first last) e o = by_kind (eqb kind 1) o where
  by_kind : (b : Bool) → cond {A = Result Opened Refusal} b (Ok (record { version = byte s 0; start = first; end = last })) (Err Unreadable)
      ≡ Ok (record { version = version; start = start; end = end })
      → (start ≤ end) × (end ≤ length s)
  by_kind true p =
      let i = record_inside s 1 kind first last e in
      let f : first ≡ start = ap start_of p in
      let l : last ≡ end = ap end_of p in
      (omega arith, omega arith)
  by_kind false p = let z : ◌≡◌ {A = ℕ} 0 1 = cc in (omega arith, omega arith)

pub setup-inside : (s : List ℕ) (version start end : ℕ) → open_paper s ≡ Ok (record { version = version; start = start; end = end }) → (start ≤ end) × (end ≤ length s)
unfolding open_paper
setup-inside s version start end e = by_next s version start end (is_unreadable s) (next_at s 1) refl e
