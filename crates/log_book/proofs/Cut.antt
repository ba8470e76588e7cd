-- A text taken apart line by line: the first, and what is behind it. Assumes nothing.
use mathlib.Core.Path.{◌≡◌, refl, ap, sym, ◌∙◌}
use mathlib.Core.Bool.{Bool, true, false, cond}
use mathlib.Core.List.{List, [], ◌∷◌}
use Prim.Native.Nat.{ℕ, suc, ◌+◌, ◌-◌, ◌<◌}
use native.Mathlib.Omega.{arith}
use borrow.Author.Tests.{leb-true, leb-false}
use lib.Dec.{eqb, leb}
use lib.ListN.{length, take, drop, length-drop, drop_of_length-le}
use lib.Seq.{drop-drop}
use Rattle.replies.specs.Replies.{place_of, before, behind, is_ending}
use Rattle.ring.specs.Ring.{no_records}
use Rattle.paper.specs.Paper.{place_after}
use Rattle.journal.specs.declared.Logging.{Logging}
use Rattle.log_book.specs.Logbook.{begun, lines_in, watched_line, ring_by}

-- a byte in front of a text's first line
grown : (c : ℕ) (text : List ℕ) → (0 < length text → lines_in text ≡ before 10 text ∷ lines_in (behind 10 text))
    → begun c (lines_in text) ≡ (c ∷ before 10 text) ∷ lines_in (behind 10 text)
unfolding lines_in before behind place_of
grown c [] more = refl
grown c (d ∷ text) more = ap (begun c) (more (omega arith))

-- the first line of a text, and the lines behind it
pub cut : (text : List ℕ) → 0 < length text → lines_in text ≡ before 10 text ∷ lines_in (behind 10 text)
unfolding lines_in before behind place_of
cut [] h = absurd (omega arith)
cut (c ∷ text) h = by (eqb c 10) (grown c text (cut text)) where
  by : (b : Bool) → begun c (lines_in text) ≡ (c ∷ take (place_of 10 text) text) ∷ lines_in (drop (suc (place_of 10 text)) text)
      → cond b ([] ∷ lines_in text) (begun c (lines_in text))
      ≡ take (cond b 0 (suc (place_of 10 text))) (c ∷ text) ∷ lines_in (drop (suc (cond b 0 (suc (place_of 10 text)))) (c ∷ text))
  by true more = refl
  by false more = more

-- what is behind the first line of a text's rest is such a rest too
dropped : (text : List ℕ) (past : ℕ) → drop (length text - length (drop past text)) text ≡ drop past text
dropped text past = by (leb past (length text)) refl where
  size : length (drop past text) ≡ length text - past
  size = length-drop past text

  by : (b : Bool) → leb past (length text) ≡ b → drop (length text - length (drop past text)) text ≡ drop past text
  by true e =
      let h = leb-true past (length text) e in
      let same : length text - length (drop past text) ≡ past = omega (arith, size) in
      ap (λ (k : ℕ). drop k text) same
  by false e =
      let h = leb-false past (length text) e in
      drop_of_length-le text {i = length text - length (drop past text)} (omega (arith, size)) ∙ sym (drop_of_length-le text {i = past} (omega arith))

pub rest-behind : (text : List ℕ) (from : ℕ) → drop (length text - length (behind 10 (drop from text))) text ≡ behind 10 (drop from text)
unfolding behind
rest-behind text from =
    let past = suc (place_of 10 (drop from text)) in
    let more : drop past (drop from text) ≡ drop (from + past) text = drop-drop past from text in
    rw more (dropped text (from + past))

-- and shorter
pub shorter : (text : List ℕ) → 0 < length text → length (behind 10 text) < length text
unfolding behind
shorter text h = omega (arith, length-drop (suc (place_of 10 text)) text)

-- the ring after the first line, and those behind it
module _ (logging : Logging) (paper : List ℕ) (at : ℕ) (text ring : List ℕ) (some : 0 < length text) where
  pub ended : is_ending (before 10 text) ≡ true → ring_by logging paper at (lines_in text) ring ≡ no_records
  unfolding ring_by
  ended e = rw (cut text some, e)

  pub goes_on_lem : is_ending (before 10 text) ≡ false
      → ring_by logging paper at (lines_in text) ring
      ≡ ring_by logging paper (place_after paper at) (lines_in (behind 10 text)) (watched_line logging paper at (before 10 text) ring)
  unfolding ring_by
  goes_on_lem e = rw (cut text some, e)
