use borrow.Author.Rules.{rules}
use native.Mathlib.Omega.{arith}
use mathlib.Core.List.{List, [], ◌∷◌}
use mathlib.Core.Path.{◌≡◌, refl, sym, ◌∙◌}
use Prim.Native.Nat.{ℕ, ◌-◌}
use lib.ListN.{length}
use Rattle.element.specs.declared.Write.{Write}
use Rattle.put_data.specs.declared.Next.{Next}
use Rattle.put_data.specs.declared.Next.TheVariants.{Element, End, Fault}
use Rattle.put_data.specs.PutData.{elements_of, writes_of, next_write}
use Rattle.put_data.proofs.Cursor.{left, AllWrite, Step, at-start, next_write_lem, next-end, no_fault}
use Rattle.script.specs.Script.{given}
use Rattle.script.proofs.Writes.{Alike, at_first, passed, at_last, all_left}
use Rattle.script.proofs.write_elements.Goals as goal

-- what `let .. else` tells: there is no other element
none_left : (s : List ℕ) (at : ℕ) → AllWrite s at → (n : Next) → next_write s at ≡ n → ((w : Write) (end : ℕ) → n ≡ Element w end → ⊥) → left s at ≡ []
none_left s at h (Element w e) i other = absurd (other w e refl)
none_left s at h End i other = next-end s at i
none_left s at h Fault i other = absurd (no_fault s at h i)

step : (s : List ℕ) (at : ℕ) (w : Write) (end : ℕ) (found : Next) → AllWrite s at → found ≡ next_write s at → found ≡ Element w end → Step s at w end
step s at w end found h e is = next_write_lem _ _ _ _ h (sym e ∙ is)

pub loop-write-init : goal.loop-write-init
loop-write-init c =
    let w = c.args.command.now in
    ((at-start w c.requires).0, at_first _ _ _ _ (all_left w c.requires))

pub returns : goal.returns
returns c =
    let l = c.loop-write in
    let w = c.args.command.now in
    at_last _ _ _ _ _ _ (none_left w l.at l.invariant.0 _ (sym c.next_write.ensures) c.in_default.not-Element) l.invariant.1

pub loop-write-smaller : goal.loop-write-smaller
loop-write-smaller c = let s = step _ _ _ _ _ c.loop-write.invariant.0 c.next_write.ensures c.in-Element.is in omega (arith, s.later, s.within)

pub loop-write-preserved : goal.loop-write-preserved
loop-write-preserved c =
    let s = step _ _ _ _ _ c.loop-write.invariant.0 c.next_write.ensures c.in-Element.is in
    (s.goes_on_lem, passed _ _ _ _ _ _ (c.in-Element.write ∷ []) _ s.is c.loop-write.invariant.1 _ _ c.apply-values.ensures)
