-- The auditor's commands of a sound template are those of its tree, and so the card's. Assumes nothing.
use mathlib.Core.Path.{◌≡◌, refl, sym, ap, ap₂, ◌∙◌}
use mathlib.Core.List.{List, [], ◌++◌}
use mathlib.Core.Bool.{Bool, true, false}
use Prim.Native.Nat.{ℕ, zero, suc, ◌+◌, ◌*◌, ◌/◌, ◌%◌, ◌≤◌, ◌<◌}
use native.Mathlib.Nat.{le_refl}
use native.Mathlib.Omega.{arith}
use lib.ListN.{length, length-append}
use lib.Seq.{take-append_seam, drop-append_seam}
use borrow.Author.Tests.{lt-ltb, le-leb, eq-eqb, ne_eqb}
use Rattle.object.specs.Object.{read_template}
use Rattle.cursor.specs.Cursor.{commands_of}
use Rattle.trees.specs.Tree.{Tag, short, long, Form, plain, with81, with82, Objects, end, filler, primitive, constructed, tree}
use Rattle.trees.specs.Tree.{length_bytes, object_bytes, written, is86, if_command, commands, limit, Tagged, Good}
use Rattle.trees.proofs.Back.{written_if_sound, sound_if_written}
use Rattle.auditor.specs.Template.{parted, short_in, value_in, commands_by, commands_in, Bytes}
use Rattle.std.specs.Prelude.{Ok, Some}

-- ---- a value behind its length, whatever is behind it
parted-there : (v r : List ℕ) → parted (length v) (v ++ r) ≡ Some (record { value = v; behind = r })
parted-there v r =
    let l = length-append v r in
    simp (le-leb (length v) (length (v ++ r)) (omega arith), take-append_seam v r, drop-append_seam v r)

value_there : (f : Form) (v r : List ℕ) → length v < limit f → value_in (length_bytes f (length v) ++ (v ++ r)) ≡ Some (record { value = v; behind = r })
unfolding value_in short_in
value_there plain v r h = simp (ne_eqb (length v) 0x82 (λ z. omega arith), lt-ltb (length v) 0x80 h) (parted-there v r)
value_there with81 v r h = parted-there v r
value_there with82 v r h =
    let e : length v / 256 * 256 + length v % 256 ≡ length v = omega arith in
    ap (λ n. parted n (v ++ r)) e ∙ parted-there v r

-- ---- an object, and what is behind it
shorter : (t : Tag) (f : Form) (v r : List ℕ) → length v + length r < length (object_bytes t f v r)
shorter (short b) f v r = simp length-append (omega arith)
shorter (long b c) f v r = simp length-append (omega arith)

constructed-there : (n : ℕ) (t : Tag) (f : Form) (v r : List ℕ) → Tagged 1 t → length v < limit f
    → commands_by (suc n) (object_bytes t f v r) ≡ commands_by n v ++ commands_by n r
unfolding commands_by
constructed-there n (short b) f v r g h =
    simp (ne_eqb b 0 g.1, ne_eqb (b % 32) 31 g.2, value_there f v r h, g.3)
constructed-there n (long b c) f v r g h =
    let e = g.2 in
    simp (ne_eqb b 0 (λ z. omega arith), eq-eqb (b % 32) 31 e, value_there f v r h, g.3)

primitive-there : (n : ℕ) (t : Tag) (f : Form) (v r : List ℕ) → Tagged 0 t → length v < limit f
    → commands_by (suc n) (object_bytes t f v r) ≡ if_command (is86 t) v [] ++ commands_by n r
unfolding commands_by
primitive-there n (short b) f v r g h =
    simp (ne_eqb b 0 g.1, ne_eqb (b % 32) 31 g.2, value_there f v r h, g.3)
primitive-there n (long b c) f v r g h =
    let e = g.2 in
    simp (ne_eqb b 0 (λ z. omega arith), eq-eqb (b % 32) 31 e, value_there f v r h, g.3, ne_eqb b 0x86 (λ z. omega arith))

with_command : (p : Bool) (v : List ℕ) (r : List (List ℕ)) → if_command p v [] ++ r ≡ if_command p v r
with_command true v r = refl
with_command false v r = refl

-- ---- a list of objects; n bounds its length
in_order : (n : ℕ) (i : Objects) → Good i → length (written i) ≤ n → commands_by n (written i) ≡ commands i
unfolding commands_by written commands Good
in_order zero end g l = refl
in_order (suc n) end g l = refl
in_order zero (filler r) g l = absurd (omega arith)
in_order (suc n) (filler r) g l = in_order n r g (omega arith)
in_order zero (primitive t f v r) g l = absurd (omega (arith, shorter t f v (written r)))
in_order (suc n) (primitive t f v r) g l =
    primitive-there n t f v (written r) g.0 g.1
    ∙ ap (λ x. if_command (is86 t) v [] ++ x) (in_order n r g.3 (omega (arith, shorter t f v (written r))))
    ∙ with_command (is86 t) v (commands r)
in_order zero (constructed t f o r) g l = absurd (omega (arith, shorter t f (written o) (written r)))
in_order (suc n) (constructed t f o r) g l =
    let s = shorter t f (written o) (written r) in
    constructed-there n t f (written o) (written r) g.0 g.1 ∙ ap₂ ◌++◌ (in_order n o g.2 (omega arith)) (in_order n r g.3 (omega arith))

-- THEOREM: of a sound template the auditor reads the commands that the card's reader finds
pub same-commands : (s : List ℕ) → Bytes s → read_template s ≡ Ok tt → commands_in s ≡ commands_of s
unfolding commands_in
same-commands s b h =
    let w = written_if_sound s b h in
    let i = tree w.template in
    ap commands_in (sym w.is) ∙ in_order (length (written i)) i w.proper.good (le_refl _) ∙ sym (sound_if_written s w).2
