-- A record whose body has its kind's length is a command, and every other one is unreadable. Assumes nothing.
use mathlib.Core.Path.{◌≡◌, refl, sym, subst}
use mathlib.Core.Bool.{Bool, true, false, cond, not, ◌&&◌, ◌||◌}
use mathlib.Core.List.{List}
use Prim.Native.Nat.{ℕ}
use native.Mathlib.Omega.{arith}
use borrow.Author.Tests.{eqb-true, eq-eqb, ne_eqb, ltb-true, ltb-false}
use lib.Dec.{eqb, ltb}
use lib.ListN.{length}
use Rattle.refusal.specs.declared.Refusal.TheVariants.{Unreadable}
use Rattle.rules.specs.declared.Values.{Values}
use Rattle.shape.specs.declared.Family.{Family}
use Rattle.shape.specs.declared.Shape.{Shape}
use Rattle.command.specs.declared.Command.{Command}
use Rattle.command.specs.declared.Command.TheVariants.{Start}
use Rattle.command.specs.Command.{is_cpace, interface_of, start_length, first_length, is_selecting, command_of, selected_in, start_selected, slots_of, read_by, command_in, is_command}
use Rattle.command.proofs.Selecting.{selected, unselected}
use Rattle.std.specs.Prelude.{Err, Ok, Option, Result}
use Rattle.refusal.specs.declared.Refusal.{Refusal}
use Rattle.selection.specs.declared.Selected.{Selected}
use Rattle.shape.specs.declared.Span.{Span}

pub record Read (read : Result Command Refusal) : Type 0 where
  pub command : Command
  pub is : read ≡ Ok command

-- a command is read, or refusal 9 is given
abbrev pub Reads : Bool → Result Command Refusal → Type 0
Reads true read = Read read
Reads false read = read ≡ Err Unreadable

one : (b : Bool) (command : Command) → Reads b (cond b (Ok command) (Err Unreadable))
one true command = record { command = command; is = refl }
one false command = refl

module _ (dating : Option Span) (family : Family) (body : List ℕ) where
  start : Reads (eqb (length body) (start_length family)) (command_of dating family 2 body)
  unfolding command_of
  start = one (eqb (length body) (start_length family)) _

  first : Reads (eqb (length body) (first_length dating family)) (command_of dating family 3 body)
  unfolding command_of
  first = one (eqb (length body) (first_length dating family)) _

  named : (kind : ℕ)
      → Reads
      (cond (eqb kind 2) (eqb (length body) (start_length family))
      (cond (eqb kind 3) (eqb (length body) (first_length dating family)) (eqb kind 4 && eqb (length body) 8)))
      (command_of dating family kind body)
  unfolding command_of
  named kind = by (eqb kind 2) (eqb kind 3) refl refl where
    by : (two three : Bool) → eqb kind 2 ≡ two → eqb kind 3 ≡ three
        → Reads
        (cond two (eqb (length body) (start_length family))
        (cond three (eqb (length body) (first_length dating family)) (eqb kind 4 && eqb (length body) 8)))
        (command_of dating family kind body)
    by true three e f =
        subst (λ (k : ℕ). Reads (eqb (length body) (start_length family)) (command_of dating family k body)) (sym (eqb-true kind 2 e)) start
    by false true e f =
        subst (λ (k : ℕ). Reads (eqb (length body) (first_length dating family)) (command_of dating family k body)) (sym (eqb-true kind 3 f)) first
    by false false e f = rw (e, f) (one (eqb kind 4 && eqb (length body) 8) _)

  selecting : (chosen : Option Selected) → Reads (ltb 0 (length body) || not (is_cpace family)) (start_selected family chosen body)
  unfolding start_selected
  selecting chosen = by (is_cpace family) (ltb 0 (length body)) refl where
    by : (cpace some : Bool) → ltb 0 (length body) ≡ some
        → Reads (some || not cpace)
        (cond (cpace && eqb (length body) 0) (Err Unreadable)
        (Ok (Start (record { interface = interface_of family body; chosen = chosen }))))
    by false true e = record { command = _; is = refl }
    by false false e = record { command = _; is = refl }
    by true true e = let some = ltb-true 0 (length body) e in rw (ne_eqb (length body) 0 (λ z. omega arith)) (record { command = _; is = refl })
    by true false e = let none = ltb-false 0 (length body) e in rw (eq-eqb (length body) 0 (omega arith))

pub read_or_not : (shape : Shape) (values : Values) (paper : List ℕ) (kind : ℕ) (body : List ℕ)
    → Reads (is_command shape kind (length body)) (command_in shape values paper kind body)
unfolding command_in
read_or_not shape values paper kind body = by (is_selecting shape.selecting kind) refl where
  by : (b : Bool) → is_selecting shape.selecting kind ≡ b
      → Reads (is_command shape kind (length body))
      (read_by shape.selecting shape.dating shape.family (slots_of shape.family values) paper kind body)
  by true e =
      let slots = slots_of shape.family values in
      rw (e, selected shape.selecting shape.dating shape.family slots paper kind body e)
      (selecting shape.dating shape.family body (selected_in shape.selecting slots paper body))
  by false e =
      rw (e, unselected shape.selecting shape.dating shape.family (slots_of shape.family values) paper kind body e)
      (named shape.dating shape.family body kind)
