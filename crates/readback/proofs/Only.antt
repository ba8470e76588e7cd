-- No other text says the fields of a line. Assumes nothing.
use mathlib.Core.Path.{◌≡◌, refl, sym, ap, subst, ◌∙◌}
use mathlib.Core.Bool.{Bool, true, false, cond, ◌&&◌}
use mathlib.Core.List.{List, [], ◌∷◌}
use mathlib.Core.Logic.{◌↔◌}
use Prim.Native.Nat.{ℕ, ◌<◌}
use native.Mathlib.Omega.{arith}
use borrow.Author.Tests.{eqb-true}
use lib.Dec.{eqb}
use Rattle.wire.proofs.Pairs.{both}
use Rattle.iad.specs.declared.Iad.{Iad}
use Rattle.hex_digits.specs.Hex.{hex}
use Rattle.text.specs.Text.{line}
use Rattle.lines.specs.Lines.{decimal, refusal_line, start_line, selected_line, cryptogram_line}
use Rattle.readback.specs.WellFormed.{Writable, OfBytes, LaidOut}
use Rattle.readback.specs.Fields.{Line, Words, NoLine, grown, spaced, closed, words_in, is_decimal, value_in, is_hex, bytes_in}
use Rattle.readback.specs.Fields.{Fields, Two, Three, Four, Five, Other, fields_of, fields_in}
use Rattle.readback.proofs.Words.{says}
use Rattle.readback.proofs.Unique.{same_number, same_bytes}
use Rattle.readback.proofs.Leaves.{filled}
use Rattle.readback.proofs.Told.{refusal_told, start-told, selected_told, cryptogram-told}

-- ---- the text is its words

abbrev Joined : List ℕ → Line → Type 0
Joined t NoLine = Unit
Joined t (Words []) = ⊥
Joined t (Words (f ∷ fs)) = t ≡ line f fs

ends : (c : ℕ) (s : List ℕ) → c ≡ 10 → Joined (c ∷ s) (closed s)
ends c [] e = rw e
ends c (d ∷ s) e = tt

begins : (c : ℕ) (s : List ℕ) (l : Line) → c ≡ 32 → Joined s l → Joined (c ∷ s) (spaced l)
begins c s NoLine e j = tt
begins c s (Words []) e j = absurd j
begins c s (Words (f ∷ fs)) e j = rw (e, j)

goes_on_lem : (c : ℕ) (s : List ℕ) (l : Line) → Joined s l → Joined (c ∷ s) (grown c l)
goes_on_lem c s NoLine j = tt
goes_on_lem c s (Words []) j = absurd j
goes_on_lem c s (Words (f ∷ [])) j = ap (λ (t : List ℕ). c ∷ t) j
goes_on_lem c s (Words (f ∷ g ∷ fs)) j = ap (λ (t : List ℕ). c ∷ t) j

joined : (t : List ℕ) → Joined t (words_in t)
unfolding words_in
joined [] = tt
joined (c ∷ s) = by (eqb c 10) refl (eqb c 32) refl (joined s) where
  by : (a : Bool) → eqb c 10 ≡ a → (b : Bool) → eqb c 32 ≡ b → Joined s (words_in s)
      → Joined (c ∷ s) (cond a (closed s) (cond b (spaced (words_in s)) (grown c (words_in s))))
  by true p b q j = ends c s (eqb-true c 10 p)
  by false p true q j = begins c s (words_in s) (eqb-true c 32 q) j
  by false p false q j = goes_on_lem c s (words_in s) j

-- ---- the words are those of the fields

-- the line that has these fields
abbrev Lays : List ℕ → Fields → Type 0
Lays t (Two n r) = n < 100_000 → r < 100_000 → t ≡ line (decimal n) (decimal r ∷ [])
Lays t (Three n r a) = n < 100_000 → r < 100_000 → a < 100_000 → t ≡ line (decimal n) (decimal r ∷ decimal a ∷ [])
Lays t (Four n r a v) =
    n < 100_000 → r < 100_000 → a < 100_000 → v < 100_000 → t ≡ line (decimal n) (decimal r ∷ decimal a ∷ decimal v ∷ [])
Lays t (Five n r c a i) =
    n < 100_000 → r < 100_000 → a < 100_000 → t ≡ line (decimal n) (decimal r ∷ hex c ∷ decimal a ∷ hex i ∷ [])
Lays t Other = Unit

-- a word in decimal is that of its number
word : (w : List ℕ) → is_decimal w ≡ true → value_in w < 100_000 → w ≡ decimal (value_in w)
word w e h = let d = says (value_in w) h in same_number w (decimal (value_in w)) e d.good (sym d.value)

module _ (t : List ℕ) where
  by_two_lem : (a b : List ℕ) (x : Bool) → (is_decimal a && is_decimal b) ≡ x → t ≡ line a (b ∷ []) → Lays t (cond x (Two (value_in a) (value_in b)) Other)
  by_two_lem a b true e j =
      let (p, q) = both (is_decimal a) (is_decimal b) e in
      λ h k. rw (← word a p h, ← word b q k) j
  by_two_lem a b false e j = tt

  by_three : (a b c : List ℕ) (x : Bool) → (is_decimal a && is_decimal b && is_decimal c) ≡ x → t ≡ line a (b ∷ c ∷ [])
      → Lays t (cond x (Three (value_in a) (value_in b) (value_in c)) Other)
  by_three a b c true e j =
      let (m, r) = both (is_decimal a && is_decimal b) (is_decimal c) e in
      let (p, q) = both (is_decimal a) (is_decimal b) m in
      λ h k l. rw (← word a p h, ← word b q k, ← word c r l) j
  by_three a b c false e j = tt

  by-four : (a b c d : List ℕ) (x : Bool) → (is_decimal a && is_decimal b && is_decimal c && is_decimal d) ≡ x → t ≡ line a (b ∷ c ∷ d ∷ [])
      → Lays t (cond x (Four (value_in a) (value_in b) (value_in c) (value_in d)) Other)
  by-four a b c d true e j =
      let (n, s) = both (is_decimal a && is_decimal b && is_decimal c) (is_decimal d) e in
      let (m, r) = both (is_decimal a && is_decimal b) (is_decimal c) n in
      let (p, q) = both (is_decimal a) (is_decimal b) m in
      λ h k l o. rw (← word a p h, ← word b q k, ← word c r l, ← word d s o) j
  by-four a b c d false e j = tt

  by-five : (a b c d i : List ℕ) (x : Bool) → (is_decimal a && is_decimal b && is_hex c && is_decimal d && is_hex i) ≡ x
      → t ≡ line a (b ∷ c ∷ d ∷ i ∷ []) → Lays t (cond x (Five (value_in a) (value_in b) (bytes_in c) (value_in d) (bytes_in i)) Other)
  by-five a b c d i true e j =
      let (o, u) = both (is_decimal a && is_decimal b && is_hex c && is_decimal d) (is_hex i) e in
      let (n, s) = both (is_decimal a && is_decimal b && is_hex c) (is_decimal d) o in
      let (m, r) = both (is_decimal a && is_decimal b) (is_hex c) n in
      let (p, q) = both (is_decimal a) (is_decimal b) m in
      λ h k l. rw (same_bytes c r, same_bytes i u, ← word a p h, ← word b q k, ← word d s l) j
  by-five a b c d i false e j = tt

  by-line : (l : Line) → Joined t l → Lays t (fields_of l)
  by-line NoLine j = tt
  by-line (Words []) j = tt
  by-line (Words (a ∷ [])) j = tt
  by-line (Words (a ∷ b ∷ [])) j = by_two_lem a b _ refl j
  by-line (Words (a ∷ b ∷ c ∷ [])) j = by_three a b c _ refl j
  by-line (Words (a ∷ b ∷ c ∷ d ∷ [])) j = by-four a b c d _ refl j
  by-line (Words (a ∷ b ∷ c ∷ d ∷ i ∷ [])) j = by-five a b c d i _ refl j
  by-line (Words (a ∷ b ∷ c ∷ d ∷ i ∷ w ∷ ws)) j = tt

  lays : (f : Fields) → fields_in t ≡ f → Lays t f
  unfolding fields_in
  lays f e = subst (Lays t) e (by-line (words_in t) (joined t))

-- ---- a text says the fields of a line just where it is that line

module _ (text : List ℕ) (number : ℕ) (n : number < 100_000) where
  pub refusal_exactly : (refusal : ℕ) → refusal < 100_000 → (fields_in text ≡ Two number refusal) ↔ (text ≡ refusal_line number refusal)
  unfolding refusal_line
  refusal_exactly refusal r = (
    λ e. lays text (Two number refusal) e n r,
    λ e. ap fields_in e ∙ refusal_told number n refusal r,
  )

  pub start-exactly : (atc : ℕ) → atc < 100_000 → (fields_in text ≡ Three number 0 atc) ↔ (text ≡ start_line number atc)
  unfolding start_line
  start-exactly atc t = (
    λ e. lays text (Three number 0 atc) e n (omega arith) t,
    λ e. ap fields_in e ∙ start-told number n atc t,
  )

  pub selected_exactly : (atc visits : ℕ) → atc < 100_000 → visits < 100_000
      → (fields_in text ≡ Four number 0 atc visits) ↔ (text ≡ selected_line number atc visits)
  unfolding selected_line
  selected_exactly atc visits t v = (
    λ e. lays text (Four number 0 atc visits) e n (omega arith) t v,
    λ e. ap fields_in e ∙ selected_told number n atc visits t v,
  )

  pub cryptogram-exactly : (cid atc : ℕ) (iad : Iad) (s : List ℕ) → cid < 256 → atc < 100_000 → Writable iad → OfBytes iad → LaidOut iad s
      → (fields_in text ≡ Five number 0 (cid ∷ []) atc s) ↔ (text ≡ cryptogram_line number cid atc iad)
  unfolding cryptogram_line hex
  cryptogram-exactly cid atc iad s c t w o l = (
    λ e. rw (filled iad s w l) (lays text (Five number 0 (cid ∷ []) atc s) e n (omega arith) t),
    λ e. ap fields_in e ∙ cryptogram-told number n cid atc iad s c t w o l,
  )
