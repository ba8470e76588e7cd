-- What was stored is what is to be told: a line, and where all lines have room the whole answer. Assumes nothing.
use mathlib.Core.Path.{◌≡◌, refl, sym, ap, ◌∙◌}
use mathlib.Core.Bool.{Bool, true, false}
use mathlib.Core.List.{List, [], ◌∷◌, ◌++◌, append_assoc}
use Prim.Native.Nat.{ℕ, ◌+◌, ◌*◌, ◌-◌, ◌≤◌, ◌<◌, min}
use native.Mathlib.Omega.{arith}
use borrow.Author.Tests.{leb-true, leb-false, le-leb, lt-leb}
use lib.Dec.{leb}
use lib.ListN.{length, take, drop, replicate, length-drop}
use lib.Seq.{sets, take_all}
use Rattle.refusal.specs.declared.Refusal.{Refusal}
use Rattle.refusal.specs.Refusal.{refusal_number}
use Rattle.hex_digits.specs.Hex.{hex}
use Rattle.text.specs.Stored.{Stored}
use Rattle.import.specs.Import.{import_record, imported}
use Rattle.imports.specs.Imports.{numeral, import_line, record_line, records_in, lines_in, imports_from, fits, answered, room_after}
use Rattle.std.specs.Prelude.{Err, None, Ok, Some}

pub told : {room after s t : List ℕ} {at end m most : ℕ} → Stored room at s m end after → s ≡ t → m ≤ most → Stored room at t most end after
told {room} {after} {s} {t} {at} {end} {m} {most} p e h =
    record {
      is = p.is ∙ ap (λ (x : List ℕ). sets room at x) e;
      behind = p.behind ∙ ap (λ (x : List ℕ). at + length x) e;
      short = omega (arith, p.short, h);
    }

-- ---- a line

module _ (number : ℕ) (old : List ℕ) where
  pub done : (text : List ℕ) → import_record old (replicate 15 0) ≡ Ok tt → text ≡ hex (imported old (replicate 15 0))
      → numeral number ++ ((32 ∷ 48 ∷ 32 ∷ []) ++ (text ++ (10 ∷ []))) ≡ record_line number old
  unfolding record_line
  done text e is =
      ap (λ (s : List ℕ). numeral number ++ (32 ∷ 48 ∷ 32 ∷ (s ++ (10 ∷ [])))) is
      ∙ sym (append_assoc (numeral number) (32 ∷ []) (48 ∷ 32 ∷ (hex (imported old (replicate 15 0)) ++ (10 ∷ []))))
      ∙ sym (ap (λ a. import_line number a (imported old (replicate 15 0))) e)

  pub refused : (refusal : Refusal) (n : ℕ) → import_record old (replicate 15 0) ≡ Err refusal → n ≡ refusal_number refusal
      → numeral number ++ ((32 ∷ []) ++ (numeral n ++ (10 ∷ []))) ≡ record_line number old
  unfolding record_line
  refused refusal n e is =
      ap (λ (k : ℕ). numeral number ++ (32 ∷ (numeral k ++ (10 ∷ [])))) is
      ∙ sym (append_assoc (numeral number) (32 ∷ []) (numeral (refusal_number refusal) ++ (10 ∷ [])))
      ∙ sym (ap (λ a. import_line number a (imported old (replicate 15 0))) e)

-- the next 20 bytes, or those that are left
pub next_bytes : (input : List ℕ) (from end : ℕ) → end ≡ min (length input) (from + 20) → take (end - from) (drop from input) ≡ take 20 (drop from input)
next_bytes input from end e = by (leb (from + 20) (length input)) refl where
  by : (b : Bool) → leb (from + 20) (length input) ≡ b → take (end - from) (drop from input) ≡ take 20 (drop from input)
  by true h =
      let whole = leb-true (from + 20) (length input) h in
      let size : end - from ≡ 20 = omega arith in
      rw size
  by false h =
      let short = leb-false (from + 20) (length input) h in
      let left = length-drop from input in
      take_all (end - from) (drop from input) (omega arith) ∙ sym (take_all 20 (drop from input) (omega arith))

-- ---- all lines

module _ (number : ℕ) (input room : List ℕ) where
  none : fits number (length room) (length input) ≡ false
      → (None ≡ answered number input (length room)) × (room ≡ room_after number input room)
  unfolding answered room_after
  none e = (rw e, rw e)

  pub no_room : length room < 54 * records_in (length input)
      → (None ≡ answered number input (length room)) × (room ≡ room_after number input room)
  no_room h = none (rw (lt-leb (54 * records_in (length input)) (length room) h))

  module _ (room_for : 54 * records_in (length input) ≤ length room) where
    pub no_number : 18446744073709551615 < number + records_in (length input)
        → (None ≡ answered number input (length room)) × (room ≡ room_after number input room)
    no_number h =
        none (rw (le-leb (54 * records_in (length input)) (length room) room_for, lt-leb (number + records_in (length input)) 18446744073709551615 h))

    pub whole : {after : List ℕ} {end most records : ℕ} → number + records_in (length input) ≤ 18446744073709551615
        → records ≡ records_in (length input) → Stored room 0 (lines_in records number input) most end after
        → ((Some (record { end = end; next = number + records })) ≡ answered number input (length room)) × (after ≡ room_after number input room)
    unfolding answered room_after imports_from
    whole {after} {end} {most} {records} h e p =
        let some = le-leb (54 * records_in (length input)) (length room) room_for in
        let counted = le-leb (number + records_in (length input)) 18446744073709551615 h in
        let text = ap (λ (n : ℕ). lines_in n number input) e in
        let size : end ≡ length (lines_in (records_in (length input)) number input) = p.behind ∙ omega arith ∙ ap length text in
        (rw (some, counted, e, size), rw (some, counted) (p.is ∙ ap (λ (s : List ℕ). sets room 0 s) text))
