-- A text of lines, one behind the other, is taken apart into these. Assumes nothing.
use mathlib.Core.Path.{◌≡◌, refl, sym, ap, ◌∙◌}
use mathlib.Core.List.{List, [], ◌∷◌, ◌++◌, append_assoc, append-nil}
use Prim.Native.Nat.{ℕ, suc, ◌+◌, ◌-◌, ◌≤◌, ◌<◌}
use native.Mathlib.Omega.{arith}
use borrow.Author.Tests.{ne_eqb}
use lib.ListN.{length, take, drop, get_or, length-append}
use lib.Seq.{sets, sets-eq, length-take-le, take_at, drop_at}
use Rattle.text.proofs.Each.{Each, none, more}
use Rattle.text.proofs.Fields.{Fed}
use Rattle.transcript.specs.Transcript.{joined}
use Rattle.printout.specs.Text.{lines_read, Holds}

pub up_to_feed : (front text : List ℕ) → ((i : ℕ) → i < length front → get_or front i 0 ≡ 10 → ⊥)
    → lines_read ((front ++ 10 ∷ []) ++ text) ≡ (front ++ 10 ∷ []) ∷ lines_read text
unfolding lines_read
up_to_feed [] text h = refl
up_to_feed (c ∷ front) text h = rw (ne_eqb c 10 (h 0 (omega arith)), up_to_feed front text (λ i l. h (suc i) (omega arith)))

pub line_first : (line text : List ℕ) → Fed line → lines_read (line ++ text) ≡ line ∷ lines_read text
line_first line text o =
    ap (λ (l : List ℕ). lines_read (l ++ text)) o.ends
    ∙ up_to_feed o.front text o.alone
    ∙ ap (λ (l : List ℕ). l ∷ lines_read text) (sym o.ends)

pub lines-first : {lines : List (List ℕ)} → Each Fed lines → (text : List ℕ) → lines_read (joined lines ++ text) ≡ lines ++ lines_read text
unfolding joined
lines-first none text = refl
lines-first (more {a = line} {s = lines} o r) text =
    ap lines_read (append_assoc line (joined lines) text)
    ∙ line_first line (joined lines ++ text) o
    ∙ ap (λ (l : List (List ℕ)). line ∷ l) (lines-first r text)

pub only-lines : {lines : List (List ℕ)} → Each Fed lines → lines_read (joined lines) ≡ lines
unfolding lines_read
only-lines {lines} r = ap lines_read (sym (append-nil (joined lines))) ∙ lines-first r [] ∙ append-nil lines

-- ---- a room that a text was stored into

pub held : (room text : List ℕ) (at : ℕ) → at + length text ≤ length room → Holds room at (at + length text) (lines_read text) (sets room at text)
held room text at fits =
    let end = at + length text in
    let front = take at room in
    let back = drop end room in
    let front-size : length front ≡ at = length-take-le at room (omega arith) in
    let both-size : length (front ++ text) ≡ end = length-append front text ∙ ap (λ (n : ℕ). n + length text) front-size in
    let is = sets-eq text room at fits in
    let parts = is ∙ append_assoc front text back in
    let from_at = ap (drop at) parts ∙ drop_at front (text ++ back) at front-size in
    let size : end - at ≡ length text = omega arith in
    record {
      there = ap lines_read (ap (take (end - at)) from_at ∙ ap (λ (n : ℕ). take n (text ++ back)) size ∙ take_at text back (length text) refl);
      in_front = ap (take at) parts ∙ take_at front (text ++ back) at front-size;
      behind = ap (drop end) is ∙ drop_at (front ++ text) back end both-size;
    }
