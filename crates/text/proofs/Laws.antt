-- Texts one behind the other. Assumes nothing.
use mathlib.Core.Path.{◌≡◌, refl, sym, ap, ◌∙◌}
use mathlib.Core.List.{List, [], ◌∷◌, ◌++◌}
use Prim.Native.Nat.{ℕ, suc, ◌+◌, ◌≤◌, ◌<◌}
use native.Mathlib.Nat.{add-zero, add-suc, suc-add}
use borrow.Author.Tests.{le-leb, lt-leb}
use lib.ListN.{length, set, take, drop}
use native.Mathlib.Omega.{arith}
use lib.Seq.{sets, take_all}
use borrow.Rule.Slice.PartMut.{put_mid}
use Rattle.std.proofs.lemmas.List.Edits.{sets-eq}
use Rattle.std.proofs.lemmas.Slice.{put_mid-paste}
use Rattle.text.specs.Text.{placed, place_behind}

-- two texts, one behind the other, are one
pub sets_on : (room a b : List ℕ) (at : ℕ) → sets (sets room at a) (at + length a) b ≡ sets room at (a ++ b)
sets_on room [] b at = ap (λ (k : ℕ). sets room k b) (add-zero at)
sets_on room (v ∷ a) b at =
    ap (λ (k : ℕ). sets (sets room at (v ∷ a)) k b) (add-suc at (length a) ∙ sym (suc-add at (length a))) ∙ sets_on (set room at v) a b (suc at)

-- where there is room for all of it, and where there is not
pub placed_in_lem : (room text : List ℕ) (at : ℕ) → at + length text ≤ length room
    → (placed room at text ≡ sets room at text) × (place_behind (length room) at text ≡ at + length text)
unfolding placed place_behind
placed_in_lem room text at h = rw (le-leb (at + length text) (length room) h) (refl, refl)

pub not_placed : (room text : List ℕ) (at : ℕ) → length room < at + length text
    → (placed room at text ≡ room) × (place_behind (length room) at text ≡ at)
unfolding placed place_behind
not_placed room text at h = rw (lt-leb (at + length text) (length room) h) (refl, refl)

-- a text copied over a part of the room
pub copied : (room part text : List ℕ) (at k : ℕ) → part ≡ text → k ≡ length text → at + length text ≤ length room → put_mid at k room part ≡ sets room at text
copied room part text at k e n h =
    put_mid-paste at k room part text (length text) e (sym n) refl
    ∙ ap (λ (t : List ℕ). take at room ++ t ++ drop (at + length text) room) (take_all (length text) text (omega arith))
    ∙ sym (sets-eq text room at h)
