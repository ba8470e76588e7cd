-- Parts of a line: one word, or the names of bits. Assumes nothing.
use Rattle.std.proofs.Common.{◌≡◌, ℕ, suc, ◌*◌, ◌^◌, ◌<◌, ◌≤◌, Bool, true, false, cond, not, ◌&&◌, ◌||◌, ltb, leb, List, [], ◌∷◌, length, sym, refl, ap, ◌∙◌, pow-suc}
use Rattle.std.proofs.Common.{arith, ltb-false, ltb-true, le-ltb, lt-ltb, leb-true}
use native.Mathlib.Nat.{pow-le-pow_right}
use borrow.Author.Tests.{not-true}
use Rattle.words.specs.Words.{word, same, is_in, is_number, value, place_in, begins, tail, double, read_flags}
use Rattle.words.specs.Lex.{lex, step, are_words}
use Rattle.words.specs.Number.{number_in}
use Rattle.words.specs.Put.{Put}
use Rattle.words.specs.Words.{distinct}
use Rattle.words.proofs.Tests.{both, same_true}
use Rattle.words.proofs.Puts.{nothing}
use Rattle.lexing.specs.Places.{word_at, words_at, next_word}
use Rattle.forms.specs.Form.{Part, say, count, bytes, named, says, bytes_in, no_numbers, fine_part, big_endian, Want, a_part, one}
use Rattle.walk.specs.declared.Mark.{Mark as Kind}
use Rattle.walk.specs.declared.Mark.TheVariants.{End, Rest, MayEnd, Opens, Silent, Names, Flags as Bits, Number, Bytes, Date, Code, Word}
use Rattle.walk.proofs.Keys.{is_among, tag, never}
use Rattle.read_words.specs.Told.{Told, Says, is_count}
use Rattle.read_words.proofs.Laws.{number_is, no_number}
use Rattle.read_forms.specs.Places.{behind_word}
use Rattle.read_forms.specs.Reads.{Passed, Stopped, Piece, part_by, flags_then, Gathered}
use Rattle.read_forms.specs.declared.Reached.{Reached}
use Rattle.read_forms.specs.declared.Fault.{Fault}
use Rattle.read_forms.proofs.Laws.{none_left, first-left, one_on, along, begun-word}
use Rattle.std.specs.Prelude.{None, Option, Some, Result, Ok, Err}

-- ---- what a word says

pub count-says : (n : ℕ) (w : List ℕ) → fine_part (count n) ≡ true → is_count n w ≡ says (count n) w
unfolding fine_part is_count says
count-says n w h = by (is_number w) (ltb (value w) (256 ^ n)) refl where
  by : (a b : Bool) → ltb (value w) (256 ^ n) ≡ b → (a && ltb (value w) (2 ^ 64) && b) ≡ (a && b)
  by false b e = refl
  by true true e = rw (lt-ltb (value w) (2 ^ 64) (omega (arith, ltb-true (value w) (256 ^ n) e, leb-true (256 ^ n) (2 ^ 64) h)))
  by true false e = none (ltb (value w) (2 ^ 64)) where
    none : (t : Bool) → (t && false) ≡ false
    none true = refl
    none false = refl

pub said_same : (is : Bool) (room : List ℕ) (to : ℕ) → Told is [] room to (cond is (Some to) None) room
unfolding Told
said_same true room to = (refl, nothing room to)
said_same false room to = (refl, refl)

-- marks whose word says itself
abbrev pub others : List ℕ
others = 0 ∷ 1 ∷ 2 ∷ 3 ∷ 4 ∷ 6 ∷ 11 ∷ []

pub said-by : (m : Kind) (w : List ℕ) (ws : List (List ℕ)) → is_among others (tag m) ≡ true → part_by m w ws ≡ say w
said-by End w ws h = refl
said-by Rest w ws h = refl
said-by MayEnd w ws h = refl
said-by Opens w ws h = refl
said-by Silent w ws h = refl
said-by Names w ws h = never h
said-by (Bits n) w ws h = refl
said-by (Number n) w ws h = never h
said-by (Bytes n) w ws h = never h
said-by Date w ws h = never h
said-by Code w ws h = never h
said-by Word w ws h = refl

-- the last arm of `read_part`
pub among_others : (m : Kind) → (m ≡ Names → ⊥) → ((x : ℕ) → m ≡ Number x → ⊥) → ((x : ℕ) → m ≡ Bytes x → ⊥) → (m ≡ Date → ⊥) → (m ≡ Code → ⊥) → is_among others (tag m) ≡ true
among_others End a b c d e = refl
among_others Rest a b c d e = refl
among_others MayEnd a b c d e = refl
among_others Opens a b c d e = refl
among_others Silent a b c d e = refl
among_others Names a b c d e = absurd (a refl)
among_others (Bits x) a b c d e = refl
among_others (Number x) a b c d e = absurd (b x refl)
among_others (Bytes x) a b c d e = absurd (c x refl)
among_others Date a b c d e = absurd (d refl)
among_others Code a b c d e = absurd (e refl)
among_others Word a b c d e = refl

-- ---- a name or a number

not_named : (w : List ℕ) (vs : List (List ℕ)) → no_numbers vs ≡ true → is_number w ≡ true → is_in w vs ≡ false
unfolding no_numbers is_in
not_named w [] h n = refl
not_named w (v ∷ vs) h n =
    let (other, more) = both (not (is_number v)) (no_numbers vs) h in
    by (same w v) refl other (not_named w vs more n) where
      by : (t : Bool) → same w v ≡ t → not (is_number v) ≡ true → is_in w vs ≡ false → (t || is_in w vs) ≡ false
      by true e other rest =
          let is = same_true w v e in
          let z : true ≡ false = sym n ∙ ap is_number is ∙ not-true (is_number v) other in
          cc
      by false e other rest = rest

told_none : (is : Bool) (a b room : List ℕ) (to : ℕ) (r : Option ℕ) (after : List ℕ) → is ≡ false → Told is a room to r after → Told is b room to r after
unfolding Told
told_none is a b room to (Some end) after h t = let z : true ≡ false = sym t.0 ∙ h in never (sym z)
told_none is a b room to None after h t = t

module _ (vs : List (List ℕ)) (fine : fine_part (named vs) ≡ true) where
  parts : ((are_words vs && distinct vs && no_numbers vs) ≡ true) × (leb (length vs) 256 ≡ true)
  unfolding fine_part
  parts = both (are_words vs && distinct vs && no_numbers vs) (leb (length vs) 256) fine

  pub few-names : length vs ≤ 256
  few-names = leb-true (length vs) 256 parts.1

  plain : no_numbers vs ≡ true
  plain = (both (are_words vs && distinct vs) (no_numbers vs) parts.0).1

  module _ (w : List ℕ) where
    pub named-is : (n : ℕ) → number_in w ≡ Some n → n < 256 → (says (named vs) w ≡ true) × (bytes_in (named vs) w ≡ n ∷ [])
    unfolding says bytes_in
    named-is n e h =
        let (fits, is) = number_is w n e in
        let (number, _) = both (is_number w) (ltb (value w) (2 ^ 64)) fits in
        (rw (number, is, lt-ltb n 256 h), rw (number, is))

    pub named-over : (n : ℕ) → number_in w ≡ Some n → 256 ≤ n → says (named vs) w ≡ false
    unfolding says
    named-over n e h =
        let (fits, is) = number_is w n e in
        let (number, _) = both (is_number w) (ltb (value w) (2 ^ 64)) fits in
        rw (number, is, le-ltb n 256 h) (not_named w vs plain number)

    pub named_by : (room : List ℕ) (to : ℕ) (r : Option ℕ) (after : List ℕ) → number_in w ≡ None → Told (is_in w vs) (place_in vs w ∷ []) room to r after → Says (named vs) w room to r after
    unfolding says bytes_in
    named_by room to r after e t = by (is_number w) refl where
      by : (b : Bool) → is_number w ≡ b → Told ((b && ltb (value w) 256) || is_in w vs) (cond b (value w) (place_in vs w) ∷ []) room to r after
      by false n = t
      by true n =
          let over : ltb (value w) (2 ^ 64) ≡ false = sym (ap (λ b. b && ltb (value w) (2 ^ 64)) n) ∙ no_number w e in
          let large : ltb (value w) 256 ≡ false = le-ltb (value w) 256 (omega (arith, ltb-false (value w) (2 ^ 64) over)) in
          rw large (told_none (is_in w vs) (place_in vs w ∷ []) (value w ∷ []) room to r after (not_named w vs plain n) t)

-- ---- one word

module _ (p : Part) (text : List ℕ) (at : ℕ) (wants : ℕ → Want) where
  pub word-missing : (t : ℕ) → words_at text at ≡ [] → wants t ≡ a_part p → Stopped (one p (words_at text at)) text at wants at t
  word-missing t h w =
      record { left = 0; want = a_part p; is = λ next. rw h; offence = record { place = sym (none_left text at h); wanted = w; few = omega arith } }

  module _ (w : List ℕ) (there : words_at text at ≡ w ∷ words_at text (behind_word text at)) where
    pub word_wrong : (t : ℕ) → says p w ≡ false → wants t ≡ a_part p → Stopped (one p (words_at text at)) text at wants (next_word text at) t
    word_wrong t h k =
        record {
          left = suc (length (words_at text (behind_word text at)));
          want = a_part p;
          is = λ next. rw (there, h);
          offence = record {
            place = sym (first-left text at w (words_at text (behind_word text at)) there);
            wanted = k;
            few = omega (arith, ap length there);
          };
        }

pub word_read : (p : Part) (text : List ℕ) (at : ℕ) (w : List ℕ) → words_at text at ≡ w ∷ words_at text (behind_word text at)
    → {room after : List ℕ} {to end : ℕ} → says p w ≡ true → Put room to (bytes_in p w) end after → Passed (one p (words_at text at)) text at room to (behind_word text at) end after
word_read p text at w there h put = record { said = bytes_in p w; is = λ next. rw (there, h); put = put; onward = one_on text at w there }

-- ---- flags

pub bits-word : word_at (98 ∷ 105 ∷ 116 ∷ 115 ∷ []) 0 ≡ word "bits"
unfolding word_at lex step
bits-word = refl

flags-small : (vs ws : List (List ℕ)) → (read_flags vs ws).bits < 2 ^ length vs
unfolding read_flags
flags-small [] ws = omega arith
flags-small (v ∷ vs) ws = by (begins v ws) (flags-small vs (tail ws)) (flags-small vs ws) where
  p : 2 ^ suc (length vs) ≡ 2 ^ length vs * 2
  p = pow-suc 2 (length vs)

  by : (t : Bool) → (read_flags vs (tail ws)).bits < 2 ^ length vs → (read_flags vs ws).bits < 2 ^ length vs
      → (cond t (double 1 (read_flags vs (tail ws))) (double 0 (read_flags vs ws))).bits < 2 ^ suc (length vs)
  by true h k = omega (arith, p)
  by false h k = omega (arith, p)

module _ (n : ℕ) (vs : List (List ℕ)) (text : List ℕ) (at : ℕ) where
  pub bits_then : (wants : ℕ → Want) (room : List ℕ) (to : ℕ) (r : Result Reached Fault) (after : List ℕ) → begins (word "bits") (words_at text at) ≡ true
      → Piece (one (bytes n) (words_at text (behind_word text at))) text (behind_word text at) wants room to r after
      → Piece (flags_then n vs (words_at text at)) text at wants room to r after
  unfolding flags_then Piece
  bits_then wants room to (Ok x) after h p =
      let there = begun-word text at (word "bits") h in
      let behind : tail (words_at text at) ≡ words_at text (behind_word text at) = ap tail there in
      record {
        said = p.said;
        is = λ next. rw (h, behind) (p.is next);
        put = p.put;
        onward = along (one_on text at (word_at text (next_word text at)) there) p.onward;
      }
  bits_then wants room to (Err x) after h p =
      let there = begun-word text at (word "bits") h in
      let behind : tail (words_at text at) ≡ words_at text (behind_word text at) = ap tail there in
      let on = one_on text at (word_at text (next_word text at)) there in
      let fewer = on.few in
      record {
        left = p.left;
        want = p.want;
        is = λ next. rw (h, behind) (p.is next);
        offence = record {
          place = p.offence.place ∙ on.left p.left p.offence.few;
          wanted = p.offence.wanted;
          few = omega (arith, p.offence.few);
        };
      }

  pub names_then : (room : List ℕ) (to bits x end : ℕ) (after : List ℕ) → length vs ≤ 64 → begins (word "bits") (words_at text at) ≡ false
      → Gathered text at vs bits x → Put room to (big_endian n bits) end after → Passed (flags_then n vs (words_at text at)) text at room to x end after
  unfolding flags_then
  names_then room to bits x end after few h g put =
      let small = flags-small vs (words_at text at) in
      let most : 2 ^ length vs ≤ 2 ^ 64 = pow-le-pow_right (omega arith) few in
      let are = g.are in
      let whole : bits ≡ (read_flags vs (words_at text at)).bits = omega arith in
      record {
        said = big_endian n (read_flags vs (words_at text at)).bits;
        is = λ next. rw (h, g.left);
        put = rw whole at put;
        onward = g.onward;
      }
