-- Words read one behind the other. Assumes nothing.
use Rattle.std.proofs.Common.{◌≡◌, ℕ, zero, suc, ◌+◌, ◌-◌, ◌%◌, ◌^◌, ◌<◌, ◌≤◌, Bool, true, false, ◌||◌, List, [], ◌∷◌, ◌++◌, length, take, sym, refl, ap, ◌∙◌}
use Rattle.std.proofs.Common.{append_assoc, append-nil, arith, drop_of_length-le}
use Rattle.std.specs.Prelude.{Result, Ok, Err}
use Rattle.words.specs.Words.{word, same, is_in, place_in, up_to, is_empty, is_hex, hex_bytes, hex_said, begins, tail, read_flags}
use Rattle.words.specs.Lex.{lex, flush}
use Rattle.words.specs.Put.{Put}
use Rattle.words.proofs.Puts.{nothing, next}
use Rattle.words.proofs.Tests.{neither}
use Rattle.lexing.specs.Places.{word_at, words_at, ends_line, word_end, next_word, after_word}
use Rattle.lexing.proofs.Steps.{in_line_lem}
use Rattle.lexing.proofs.Laws.{words-behind, words-next, word_next, word-passed, next-behind, ended}
use Rattle.forms.specs.Form.{Want, hex_pairs, Read, Said, Wrong, before, read_rest}
use Rattle.read_forms.specs.Places.{behind_word, behind_words, left_at, Onward}
use Rattle.read_forms.specs.Reads.{reached, amiss, Heard, Begins, Gathered}
use Rattle.read_forms.specs.declared.Reached.{Reached}
use Rattle.read_forms.specs.declared.Fault.{Fault}

-- ---- the next word

first : (w : List ℕ) (ws : List (List ℕ)) → is_empty w ≡ false → flush w ws ≡ w ∷ ws
first [] ws h = let z : ◌≡◌ {A = ℕ} 0 1 = cc in absurd (omega arith)
first (c ∷ w) ws h = refl

module _ (text : List ℕ) (at : ℕ) where
  pub no_word : ends_line text (next_word text at) ≡ true → words_at text at ≡ []
  no_word h = sym (words-next text at) ∙ ended text (next_word text at) h

  pub a_word : ends_line text (next_word text at) ≡ false → words_at text at ≡ word_at text (next_word text at) ∷ words_at text (behind_word text at)
  a_word h =
      sym (words-next text at) ∙ words-behind text (next_word text at)
      ∙ first (word_at text (next_word text at)) (words_at text (behind_word text at)) (word_next text at h)

  -- where a word begins
  pub here : Begins text at → ends_line text at ≡ false → words_at text at ≡ word_at text at ∷ words_at text (after_word text at)
  here b h =
      words-behind text at ∙ first (word_at text at) (words_at text (word_end text at)) (b h)
      ∙ ap (λ ws. word_at text at ∷ ws) (sym (words-next text (word_end text at)))

  pub after-begins : Begins text (after_word text at)
  after-begins = word_next text (word_end text at)

  pub past-none : length text ≤ at → take 0 text ≡ word_at text at
  unfolding word_at lex
  past-none h = sym (ap (λ (s : List ℕ). (lex s).word) (drop_of_length-le text {i = at} h))

  -- a word's begin is passed
  pub passes : (word : ℕ) → word ≡ next_word text at → ends_line text word ≡ false → (word < length text) × (word < next_word text (word_end text word))
  passes word e h =
      let begins : is_empty (word_at text word) ≡ false = rw e (word_next text at (sym (ap (ends_line text) e) ∙ h)) in
      let passed = word-passed text word begins in
      (in_line_lem text word h, omega (arith, next-behind text (word_end text word)))

  -- ---- the places by the words that are left

  pub none_left : words_at text at ≡ [] → left_at text at 0 ≡ at
  unfolding left_at behind_words
  none_left h = rw h

  pub first-left : (w : List ℕ) (ws : List (List ℕ)) → words_at text at ≡ w ∷ ws → left_at text at (suc (length ws)) ≡ next_word text at
  unfolding left_at behind_words
  first-left w ws h =
      let none : length (words_at text at) - suc (length ws) ≡ 0 = omega (arith, ap length h) in
      ap (λ (n : ℕ). next_word text (behind_words n text at)) none

  module _ (w : List ℕ) (h : words_at text at ≡ w ∷ words_at text (behind_word text at)) where
    left-on : (n : ℕ) → n ≤ length (words_at text (behind_word text at)) → left_at text (behind_word text at) n ≡ left_at text at n
    unfolding left_at behind_words
    left-on zero k = sym (ap (λ (n : ℕ). behind_words n text at) (ap length h))
    left-on (suc n) k =
        let more : length (words_at text at) - suc n ≡ suc (length (words_at text (behind_word text at)) - suc n) = omega (arith, ap length h) in
        sym (ap (λ (m : ℕ). next_word text (behind_words m text at)) more)

    pub one_on : Onward text at (behind_word text at)
    one_on = record { few = omega (arith, ap length h); left = left-on }

pub stay : (text : List ℕ) (at : ℕ) → Onward text at at
stay text at = record { few = omega arith; left = λ n h. refl }

pub along : {text : List ℕ} {a b c : ℕ} → Onward text a b → Onward text b c → Onward text a c
along p q = let less = q.few in record { few = omega (arith, p.few); left = λ n h. q.left n h ∙ p.left n (omega arith) }

-- ---- what is said in front

pub before-before : (a b : List ℕ) (r : Read) → before a (before b r) ≡ before (a ++ b) r
before-before a b (Said c) = ap Said (sym (append_assoc a b c))
before-before a b (Wrong n w) = refl

pub before-none : (r : Read) → before [] r ≡ r
before-none (Said c) = refl
before-none (Wrong n w) = refl

module _ {text : List ℕ} {from at to mid : ℕ} {room lent b : List ℕ} (p : Put room to b mid lent) (o : Onward text from at) (wants : ℕ → Want) (after : List ℕ) where
  pub heard-on : (read : Read) (r : Result Reached Fault) → Heard text at wants lent mid read r after → Heard text from wants room to (before b read) r after
  unfolding Heard
  heard-on (Said c) (Ok x) h = record { place = h.place ∙ o.left 0 (omega arith); put = next p h.put }
  heard-on (Said c) (Err x) h = h
  heard-on (Wrong n w) (Ok x) h = h
  heard-on (Wrong n w) (Err x) h = let fewer = h.few in record { place = h.place ∙ o.left n fewer; wanted = h.wanted; few = omega (arith, o.few) }

-- ---- pairs of digits

pub record SoFar (text : List ℕ) (from : ℕ) (room : List ℕ) (to at end : ℕ) (after : List ℕ) : Type 0 where
  pub said : List ℕ
  pub is : read_rest (words_at text from) ≡ before said (read_rest (words_at text at))
  pub put : Put room to said end after
  pub onward : Onward text from at

module _ {text : List ℕ} {from to at end : ℕ} {room after : List ℕ} (s : SoFar text from room to at end after) where
  pub ended-rest : ends_line text (next_word text at) ≡ true → (wants : ℕ → Want) → Heard text from wants room to (read_rest (words_at text from)) (reached at end) after
  unfolding read_rest Heard
  ended-rest h wants =
      let none = no_word text at h in
      rw (s.is, none, append-nil s.said) (record { place = sym (none_left text at none) ∙ s.onward.left 0 (omega arith); put = s.put })

  module _ (h : ends_line text (next_word text at) ≡ false) where
    there : words_at text at ≡ word_at text (next_word text at) ∷ words_at text (behind_word text at)
    there = a_word text at h

    pub bad_rest : is_hex (word_at text (next_word text at)) ≡ false → (wants : ℕ → Want) (t : ℕ) → wants t ≡ hex_pairs
        → Heard text from wants room to (read_rest (words_at text from)) (amiss (next_word text at) t) after
    unfolding read_rest Heard
    bad_rest other wants t w =
        let size : length (words_at text at) ≡ suc (length (words_at text (behind_word text at))) = ap length there in
        rw (s.is, there, other)
        (record {
          place = sym (first-left text at (word_at text (next_word text at)) (words_at text (behind_word text at)) there)
              ∙ s.onward.left (suc (length (words_at text (behind_word text at)))) (omega arith);
          wanted = w;
          few = omega (arith, s.onward.few);
        })

    pub good-rest : {x : ℕ} {lent : List ℕ} → is_hex (word_at text (next_word text at)) ≡ true
        → Put after end (hex_said (word_at text (next_word text at))) x lent → SoFar text from room to (behind_word text at) x lent
    unfolding read_rest hex_said
    good-rest pairs p =
        record {
          said = s.said ++ hex_bytes (word_at text (next_word text at));
          is = s.is ∙ rw (there, pairs) (before-before s.said (hex_bytes (word_at text (next_word text at))) (read_rest (words_at text (behind_word text at))));
          put = next s.put (rw pairs at p);
          onward = along s.onward (one_on text at (word_at text (next_word text at)) there);
        }

pub begun : (text : List ℕ) (from : ℕ) (room : List ℕ) (to : ℕ) → SoFar text from room to from to room
begun text from room to = record { said = []; is = sym (before-none (read_rest (words_at text from))); put = nothing room to; onward = stay text from }

-- ---- names

module _ (grammar : List ℕ) (t : ℕ) (m : ℕ) where
  pub no_names : ends_line grammar t ≡ true → up_to (m ∷ []) (words_at grammar t) ≡ []
  unfolding up_to
  no_names h = rw (ended grammar t h)

  module _ (b : Begins grammar t) (h : ends_line grammar t ≡ false) where
    pub last_name : same (word_at grammar t) (m ∷ []) ≡ true → up_to (m ∷ []) (words_at grammar t) ≡ []
    unfolding up_to
    last_name e = rw (here grammar t b h, e)

    pub a_name : same (word_at grammar t) (m ∷ []) ≡ false → up_to (m ∷ []) (words_at grammar t) ≡ word_at grammar t ∷ up_to (m ∷ []) (words_at grammar (after_word grammar t))
    unfolding up_to
    a_name e = rw (here grammar t b h, e)

-- where the names end, and where not
module _ (grammar : List ℕ) (t : ℕ) (m : ℕ) (b : Begins grammar t) where
  pub names-end : (same (word_at grammar t) (m ∷ []) || ends_line grammar t) ≡ true → up_to (m ∷ []) (words_at grammar t) ≡ []
  names-end h = by (same (word_at grammar t) (m ∷ [])) (ends_line grammar t) refl refl h where
    by : (x y : Bool) → same (word_at grammar t) (m ∷ []) ≡ x → ends_line grammar t ≡ y → (x || y) ≡ true → up_to (m ∷ []) (words_at grammar t) ≡ []
    by x true e f k = no_names grammar t m f
    by true false e f k = last_name grammar t m b f e
    by false false e f k = let z : true ≡ false = sym k in cc

  pub names-on : (same (word_at grammar t) (m ∷ []) || ends_line grammar t) ≡ false
      → (ends_line grammar t ≡ false) × (up_to (m ∷ []) (words_at grammar t) ≡ word_at grammar t ∷ up_to (m ∷ []) (words_at grammar (after_word grammar t)))
  names-on h =
      let (other, line) = neither (same (word_at grammar t) (m ∷ [])) (ends_line grammar t) h in
      (line, a_name grammar t m b line other)

-- the names from a place on are those that are left of all, so many behind the first
pub record Among (w : List ℕ) (all left : List (List ℕ)) (byte : ℕ) : Type 0 where
  pub passed : ℕ
  pub is : byte ≡ passed % 256
  pub long : length all ≡ passed + length left
  pub in_both : is_in w all ≡ is_in w left
  pub place : is_in w left ≡ true → place_in all w ≡ passed + place_in left w

pub all-names : (w : List ℕ) (vs : List (List ℕ)) → Among w vs vs 0
all-names w vs = record { passed = 0; is = refl; long = omega arith; in_both = refl; place = λ e. omega arith }

pub name-passed : {w v : List ℕ} {all left : List (List ℕ)} {byte : ℕ} → Among w all (v ∷ left) byte → same w v ≡ false → Among w all left ((byte + 1) % 2 ^ 8)
unfolding is_in place_in
name-passed {w} {v} {all} {left} {byte} a h =
    let is = a.is in
    record {
      passed = a.passed + 1;
      is = omega arith;
      long = omega (arith, a.long);
      in_both = a.in_both ∙ rw h;
      place = λ e. a.place (rw h e) ∙ rw h (omega arith);
    }

pub name-found : {w v : List ℕ} {all left : List (List ℕ)} {byte : ℕ} → Among w all (v ∷ left) byte → same w v ≡ true → length all ≤ 256
    → (is_in w all ≡ true) × (place_in all w ≡ byte)
unfolding is_in place_in
name-found {w} {v} {all} {left} {byte} a h k =
    let is = a.is in
    let long = a.long in
    let yes : is_in w (v ∷ left) ≡ true = rw h in
    let place : place_in all w ≡ a.passed + place_in (v ∷ left) w = a.place yes in
    let none : place_in (v ∷ left) w ≡ 0 = rw h in
    (a.in_both ∙ yes, omega arith)

pub not_found : {w : List ℕ} {all : List (List ℕ)} {byte : ℕ} → Among w all [] byte → is_in w all ≡ false
unfolding is_in
not_found a = a.in_both

-- ---- bits by their names

module _ (text : List ℕ) (at : ℕ) (v : List ℕ) where
  pub begun-word : begins v (words_at text at) ≡ true → words_at text at ≡ word_at text (next_word text at) ∷ words_at text (behind_word text at)
  begun-word h = by (ends_line text (next_word text at)) refl where
    by : (t : Bool) → ends_line text (next_word text at) ≡ t → words_at text at ≡ word_at text (next_word text at) ∷ words_at text (behind_word text at)
    by true e = let z : false ≡ true = sym (ap (begins v) (no_word text at e)) ∙ h in cc
    by false e = a_word text at e

  pub gathered_one : (vs : List (List ℕ)) (bits x : ℕ) → begins v (words_at text at) ≡ true → Gathered text (behind_word text at) vs bits x
      → Gathered text at (v ∷ vs) (((bits + bits) % 2 ^ 64 + 1) % 2 ^ 64) x
  unfolding read_flags
  gathered_one vs bits x h g =
      let word = begun-word h in
      let behind : tail (words_at text at) ≡ words_at text (behind_word text at) = ap tail word in
      let are = g.are in
      record {
        are = rw (h, behind) (omega arith);
        left = rw (h, behind) g.left;
        onward = along (one_on text at (word_at text (next_word text at)) word) g.onward;
      }

  pub gathered_none : (vs : List (List ℕ)) (bits x : ℕ) → begins v (words_at text at) ≡ false → Gathered text at vs bits x → Gathered text at (v ∷ vs) ((bits + bits) % 2 ^ 64) x
  unfolding read_flags
  gathered_none vs bits x h g = let are = g.are in record { are = rw h (omega arith); left = rw h g.left; onward = g.onward }

pub gathered_end : (text : List ℕ) (at : ℕ) → Gathered text at [] 0 at
unfolding read_flags
gathered_end text at = record { are = refl; left = refl; onward = stay text at }
