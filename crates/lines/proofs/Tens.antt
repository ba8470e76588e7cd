-- Digits stored behind the tens of a number are that number's. Assumes nothing.
use mathlib.Core.Path.{◌≡◌, ap, sym, ◌∙◌}
use mathlib.Core.List.{List, [], ◌∷◌, ◌++◌}
use Prim.Native.Nat.{ℕ, ◌+◌, ◌*◌, ◌-◌, ◌/◌, ◌%◌, ◌≤◌, ◌<◌}
use native.Mathlib.Omega.{arith}
use Rattle.lines.specs.Lines.{decimal}
use Rattle.text.specs.Stored.{Stored}
use Rattle.lines.proofs.Decimal.{ones, tens}
use Rattle.text.proofs.Stores.{next}

pub one-digit : {room after : List ℕ} {at end : ℕ} (n : ℕ) → n < 10 → Stored room at ((48 + n) ∷ []) 1 end after
    → Stored room at (decimal n) 1 end after
one-digit n h p = rw (ones n h) at p

pub one_more_lem : {room between after : List ℕ} {at middle end most : ℕ} (n : ℕ) → 10 ≤ n → n < 100_000
    → Stored room at (decimal (n / 10)) most middle between → Stored between middle ((48 + (n - n / 10 * 10)) ∷ []) 1 end after
    → Stored room at (decimal n) (most + 1) end after
one_more_lem n h small p q =
    let left : n - n / 10 * 10 ≡ n % 10 = omega arith in
    let both : decimal (n / 10) ++ (48 + (n - n / 10 * 10)) ∷ [] ≡ decimal n = rw left (tens n h small) in
    rw both at (next p q)
