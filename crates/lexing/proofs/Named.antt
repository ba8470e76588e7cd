-- The names of a table's line, one by one. Assumes nothing.
use mathlib.Core.Path.{◌≡◌, refl, sym, ap, ◌∙◌}
use mathlib.Core.Bool.{Bool, true, false, cond, not}
use mathlib.Core.List.{List, [], ◌∷◌, ◌++◌}
use Prim.Native.Nat.{ℕ, zero, suc, ◌+◌, ◌≤◌, ◌<◌}
use native.Mathlib.Nat.{add-zero, zero-add}
use native.Mathlib.Omega.{arith}
use borrow.Author.Tests.{not-true}
use lib.ListN.{length, drop, length-drop}
use Rattle.words.specs.Words.{same, is_empty, is_in, up_to, name_of, place_in}
use Rattle.words.proofs.Tests.{both}
use Rattle.lexing.specs.Places.{word_at, words_at, ends_line, word_end, next_word, after_word}
use Rattle.lexing.specs.Names.{names_at, is_name, names_on, name_at, names_end, place_of}
use Rattle.lexing.proofs.Rests.{few_words}
use Rattle.lexing.proofs.Steps.{in_line_lem}
use Rattle.lexing.proofs.Laws.{words-first, words-next, word_next, word-passed, next-behind, ended}
use Rattle.std.specs.Prelude.{None, Option, Some}

-- a word begins at this place, or the line ends
abbrev pub Stands : List ℕ → ℕ → Type 0
Stands table at = ends_line table at ≡ false → is_empty (word_at table at) ≡ false

module _ (close table : List ℕ) (at : ℕ) where
  in_names : is_name close table at ≡ true → (ends_line table at ≡ false) × (same (word_at table at) close ≡ false)
  unfolding is_name
  in_names h =
      let (inside, other) = both (not (ends_line table at)) (not (same (word_at table at) close)) h in
      (not-true (ends_line table at) inside, not-true (same (word_at table at) close) other)

  -- ---- a place on

  pub on-name : (n : ℕ) → is_name close table at ≡ true → names_on close (suc n) table at ≡ names_on close n table (after_word table at)
  unfolding names_on
  on-name n h = rw h

  pub at-end : (n : ℕ) → is_name close table at ≡ false → names_on close n table at ≡ at
  unfolding names_on
  at-end zero h = refl
  at-end (suc n) h = rw h

  pub name_in : is_name close table at ≡ true → at < length table
  name_in h = in_line_lem table at (in_names h).0

  pub name-passed : Stands table at → is_name close table at ≡ true → at < after_word table at
  name-passed stands h =
      let word = word-passed table at (stands (in_names h).0) in
      let on = next-behind table (word_end table at) in
      omega arith

  -- ---- the names from here

  pub names_more : Stands table at → is_name close table at ≡ true → names_at close table at ≡ word_at table at ∷ names_at close table (after_word table at)
  unfolding names_at up_to
  names_more stands h =
      let (inside, other) = in_names h in
      ap (up_to close) (words-first table at (stands inside)) ∙ rw other

  pub no_names : Stands table at → is_name close table at ≡ false → names_at close table at ≡ []
  unfolding names_at up_to
  no_names stands h = by (ends_line table at) (same (word_at table at) close) refl refl where
    by : (e s : Bool) → ends_line table at ≡ e → same (word_at table at) close ≡ s → names_at close table at ≡ []
    by true s p q = ap (up_to close) (ended table at p)
    by false true p q = ap (up_to close) (words-first table at (stands p)) ∙ rw q
    by false false p q =
        let is : is_name close table at ≡ true = unfold is_name in rw (p, q) in
        let z : true ≡ false = sym is ∙ h in
        cc

pub stands-next : (table : List ℕ) (at : ℕ) → Stands table (next_word table at)
stands-next table at = word_next table at

-- ---- the place of a word among names

abbrev pub found : ℕ → List (List ℕ) → List ℕ → Option ℕ
found n names w = cond (is_in w names) (Some (n + place_in names w)) None

module _ (n : ℕ) (v : List ℕ) (vs : List (List ℕ)) (w : List ℕ) where
  pub found_here : same w v ≡ true → found n (v ∷ vs) w ≡ Some n
  unfolding is_in place_in
  found_here h = rw (h, add-zero n)

  pub found-on : same w v ≡ false → found n (v ∷ vs) w ≡ found (n + 1) vs w
  unfolding is_in place_in
  found-on h = let next : n + suc (place_in vs w) ≡ n + 1 + place_in vs w = omega arith in rw (h, next)

pub found_not : (n : ℕ) (w : List ℕ) → found n [] w ≡ None
unfolding is_in
found_not n w = refl

pub found_first : (close table : List ℕ) (at : ℕ) (w : List ℕ) → place_of close table at w ≡ found 0 (names_at close table (next_word table at)) w
unfolding place_of names_at
found_first close table at w = rw (words-next table at, zero-add (place_in (up_to close (words_at table at)) w))

-- ---- so many names on

-- what stands there: a name, or behind as many as there are what ends them; and what the words are then
pub record Named (close table : List ℕ) (n at place : ℕ) : Type 0 where
  pub name : (other : List ℕ) → n < length (names_at close table at) → word_at table place ≡ name_of (names_at close table at) n other
  pub end : length (names_at close table at) ≤ n → is_name close table place ≡ false
  pub words : length (names_at close table at) ≤ n → words_at table at ≡ names_at close table at ++ words_at table place

module _ (close table : List ℕ) (at : ℕ) (stands : Stands table at) where
  none-on : (n : ℕ) → is_name close table at ≡ false → Named close table n at at
  none-on n e =
      let none = no_names close table at stands e in
      record { name = λ other. rw none (λ h. absurd (omega arith)); end = λ h. e; words = λ h. rw none }

  none_passed : is_name close table at ≡ true → Named close table 0 at at
  unfolding name_of
  none_passed e =
      let names = names_more close table at stands e in
      record { name = λ other. rw names (λ h. refl); end = rw names (λ h. absurd (omega arith)); words = rw names (λ h. absurd (omega arith)) }

  one-passed : (n place : ℕ) → is_name close table at ≡ true → Named close table n (after_word table at) place → Named close table (suc n) at place
  unfolding name_of
  one-passed n place e r =
      let names = names_more close table at stands e in
      let here = words-first table at (stands (in_names close table at e).0) in
      record {
        name = λ other. rw names (λ h. r.name other (omega arith));
        end = rw names (λ h. r.end (omega arith));
        words = rw (names, here) (λ h. ap (λ (ws : List (List ℕ)). word_at table at ∷ ws) (r.words (omega arith)));
      }

  start : (t : Bool) → is_name close table at ≡ t → Named close table 0 at at
  start true e = none_passed e
  start false e = none-on 0 e

  step : (n : ℕ) (t : Bool) → is_name close table at ≡ t
      → Named close table n (after_word table at) (names_on close n table (after_word table at)) → Named close table (suc n) at (names_on close (suc n) table at)
  step n true e r = rw (on-name close table at n e) (one-passed n (names_on close n table (after_word table at)) e r)
  step n false e r = rw (at-end close table at (suc n) e) (none-on (suc n) e)

named-on : (close table : List ℕ) (n at : ℕ) → Stands table at → Named close table n at (names_on close n table at)
named-on close table zero at stands = unfold names_on in start close table at stands (is_name close table at) refl
named-on close table (suc n) at stands =
    step close table at stands n (is_name close table at) refl (named-on close table n (after_word table at) (stands-next table (word_end table at)))

up_to_lem : (close : List ℕ) (ws : List (List ℕ)) → length (up_to close ws) ≤ length ws
unfolding up_to
up_to_lem close [] = omega arith
up_to_lem close (v ∷ vs) = by (same v close) (up_to_lem close vs) where
  by : (t : Bool) → length (up_to close vs) ≤ length vs → length (cond t [] (v ∷ up_to close vs)) ≤ suc (length vs)
  by true h = omega arith
  by false h = omega arith

module _ (close table : List ℕ) (at : ℕ) where
  few-names : length (names_at close table at) ≤ length table
  unfolding names_at words_at
  few-names = omega (arith, up_to_lem close (words_at table at), few_words (drop at table), length-drop at table)

  -- the name of a number
  pub named : (n : ℕ) → Named close table n at (name_at close n table at)
  unfolding name_at
  named n =
      let words = words-next table at in
      let names : names_at close table (next_word table at) ≡ names_at close table at = unfold names_at in ap (up_to close) words in
      let r = named-on close table n (next_word table at) (stands-next table at) in
      record {
        name = λ other. rw names at (r.name other);
        end = rw names at r.end;
        words = rw (names, words) at r.words;
      }

  -- what ends the names
  pub names-ended : (is_name close table (names_end close table at) ≡ false)
      × (words_at table at ≡ names_at close table at ++ words_at table (names_end close table at))
  unfolding names_end
  names-ended = let r = named (length table) in (r.end few-names, r.words few-names)
