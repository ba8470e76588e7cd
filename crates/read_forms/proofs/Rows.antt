-- A line by a row, from a part on. Assumes nothing.
use Rattle.std.proofs.Common.{◌≡◌, ℕ, ◌^◌, ◌<◌, ◌≤◌, Bool, true, false, cond, not, ◌&&◌, ◌||◌, leb, List, [], ◌∷◌, length, replicate, sym, refl, ap, ◌∙◌, arith, leb-true}
use Rattle.std.specs.Prelude.{Result, Ok, Err}
use Rattle.words.specs.Words.{word, same, is_empty, begins, distinct}
use Rattle.words.specs.Lex.{flush, is_word, are_words}
use Rattle.words.specs.Put.{Put}
use Rattle.words.proofs.Tests.{both, and, same_true}
use Rattle.words.proofs.Puts.{nothing}
use Rattle.lexing.specs.Places.{word_at, words_at, ends_line, word_end, next_word, after_word}
use Rattle.lexing.proofs.Steps.{in_line_lem}
use Rattle.lexing.proofs.Laws.{words-next}
use Rattle.forms.specs.Form.{bytes, Form, done, may, part, width, fine_part, closed, solid, parted, fine}
use Rattle.forms.specs.Form.{Want, line_end, Read, one, line_done, first_word, read_rest, read_form}
use Rattle.forms.specs.Grammar.{form_in, past, is_sized, size_in}
use Rattle.walk.specs.declared.Mark.{Mark as Kind}
use Rattle.walk.specs.declared.Mark.TheVariants.{End, Rest, MayEnd, Opens, Silent, Names, Flags, Number, Bytes, Date, Code, Word}
use Rattle.walk.specs.Marks.{mark_of, mark_at, behind_part}
use Rattle.walk.proofs.Keys.{is_among, tag, never}
use Rattle.walk.proofs.Forms.{by_mark}
use Rattle.walk.proofs.Places.{words-after, form-at, mark_end, moves}
use Rattle.read_forms.specs.Places.{behind_word}
use Rattle.read_forms.specs.Reads.{reached, amiss, narrow, clauses, is_row, form_at, Heard, Passed, Stopped, Piece, flags_at, part_by, part_at, flags_then}
use Rattle.read_forms.specs.declared.Reached.{Reached}
use Rattle.read_forms.specs.declared.Fault.{Fault}
use Rattle.read_forms.proofs.Laws.{no_word, a_word, none_left, first-left, heard-on, begun-word}

-- ---- what follows from a part read

module _ {text : List ℕ} {at : ℕ} {reads : (List (List ℕ) → Read) → Read} (f g : Form) (is : read_form f (words_at text at) ≡ reads (read_form g))
    (wants : ℕ → Want) (room : List ℕ) (to : ℕ) (after : List ℕ) where
  pub stopped-heard : {d : Fault} → Stopped reads text at wants d.at d.want → Heard text at wants room to (read_form f (words_at text at)) (Err d) after
  unfolding Heard
  stopped-heard s = rw (is, s.is (read_form g)) s.offence

  pub passed-heard : {x mid : ℕ} {lent : List ℕ} (r : Result Reached Fault) → Passed reads text at room to x mid lent
      → Heard text x wants lent mid (read_form g (words_at text x)) r after → Heard text at wants room to (read_form f (words_at text at)) r after
  passed-heard {x} r p h = rw (is, p.is (read_form g)) (heard-on p.put p.onward wants after (read_form g (words_at text x)) r h)

-- ---- the line's end

module _ (text : List ℕ) (at : ℕ) (wants : ℕ → Want) (room : List ℕ) (to : ℕ) where
  pub end-heard : (t : ℕ) → wants t ≡ line_end
      → Heard text at wants room to (read_form done (words_at text at)) (cond (ends_line text (next_word text at)) (reached at to) (amiss (next_word text at) t)) room
  unfolding Heard read_form
  end-heard t w = by (ends_line text (next_word text at)) refl where
    by : (b : Bool) → ends_line text (next_word text at) ≡ b → Heard text at wants room to (line_done (words_at text at)) (cond b (reached at to) (amiss (next_word text at) t)) room
    by true e = let none = no_word text at e in rw none (record { place = sym (none_left text at none); put = nothing room to })
    by false e =
        let there = a_word text at e in
        rw there
        (record {
          place = sym (first-left text at (word_at text (next_word text at)) (words_at text (behind_word text at)) there);
          wanted = w;
          few = omega (arith, ap length there);
        })

  pub zeros-heard : (f : Form) (end : ℕ) (after : List ℕ) → ends_line text (next_word text at) ≡ true → Put room to (replicate (width f) 0) end after
      → Heard text at wants room to (read_form (may f) (words_at text at)) (reached at end) after
  unfolding Heard read_form
  zeros-heard f end after e put = let none = no_word text at e in rw none (record { place = sym (none_left text at none); put = put })

pub may-on : (text : List ℕ) (at : ℕ) (f : Form) → ends_line text (next_word text at) ≡ false → read_form (may f) (words_at text at) ≡ read_form f (words_at text at)
unfolding read_form
may-on text at f e = rw (a_word text at e)

-- ---- rows

pub record Row (ws : List (List ℕ)) : Type 0 where
  pub is-fine : fine (form_in ws) ≡ true
  pub is-narrow : narrow (form_in ws) ≡ true
  pub says-clauses : clauses ws ≡ true

pub row : (ws : List (List ℕ)) → is_row ws ≡ true → Row ws
unfolding is_row
row ws h =
    let (front, last) = both (fine (form_in ws) && narrow (form_in ws)) (clauses ws) h in
    let (first, second) = both (fine (form_in ws)) (narrow (form_in ws)) front in
    record { is-fine = first; is-narrow = second; says-clauses = last }

pub is-row : {ws : List (List ℕ)} → Row ws → is_row ws ≡ true
unfolding is_row
is-row {ws} r =
    and (fine (form_in ws) && narrow (form_in ws)) (clauses ws) (and (fine (form_in ws)) (narrow (form_in ws)) r.is-fine r.is-narrow) r.says-clauses

clauses-flush : (w : List ℕ) (ws : List (List ℕ)) → clauses (flush w ws) ≡ true → clauses ws ≡ true
clauses-flush [] ws h = h
clauses-flush (c ∷ w) ws h = (both (not (same (c ∷ w) (word "(")) || begins (first_word (form_in ws)) ws) (clauses ws) h).1

clauses-past : (e : List ℕ) (ws : List (List ℕ)) → clauses ws ≡ true → clauses (past e ws) ≡ true
unfolding past
clauses-past e [] h = refl
clauses-past e (w ∷ ws) h =
    let more = (both (not (same w (word "(")) || begins (first_word (form_in ws)) ws) (clauses ws) h).1 in
    by (same w e) more (clauses-past e ws more) where
      by : (t : Bool) → clauses ws ≡ true → clauses (past e ws) ≡ true → clauses (cond t ws (past e ws)) ≡ true
      by true h k = h
      by false h k = k

clauses-behind : (m : Kind) (ws : List (List ℕ)) → clauses ws ≡ true → clauses (behind_part m ws) ≡ true
unfolding behind_part
clauses-behind End ws h = h
clauses-behind Rest ws h = h
clauses-behind MayEnd ws h = h
clauses-behind Opens ws h = h
clauses-behind Silent ws h = h
clauses-behind Names ws h = clauses-past (word "]") ws h
clauses-behind (Flags n) ws h = clauses-past (word "}") ws h
clauses-behind (Number n) ws h = h
clauses-behind (Bytes n) ws h = h
clauses-behind Date ws h = h
clauses-behind Code ws h = h
clauses-behind Word ws h = h

-- only "(" opens a clause
opens : (w : List ℕ) → mark_of w ≡ Opens → same w (word "(") ≡ true
unfolding mark_of
opens w h =
    go (same w (word "[")) (is_sized 123 w) (same w (word "(")) (same w (word ")")) (same w (word "?")) (same w (word "R")) (is_sized 78 w) (is_sized 72 w)
    (same w (word "D")) (same w (word "C")) h where
      go : (a b c d e f g h i j : Bool)
          → cond a Names (cond b (Flags (size_in w)) (cond c Opens (cond d Silent (cond e MayEnd (cond f Rest
          (cond g (Number (size_in w)) (cond h (Bytes (size_in w)) (cond i Date (cond j Code Word))))))))) ≡ Opens → c ≡ true
      go true b c d e f g h i j k = cc
      go false true c d e f g h i j k = cc
      go false false true d e f g h i j k = refl
      go false false false true e f g h i j k = cc
      go false false false false true f g h i j k = cc
      go false false false false false true g h i j k = cc
      go false false false false false false true h i j k = cc
      go false false false false false false false true i j k = cc
      go false false false false false false false false true j k = cc
      go false false false false false false false false false true k = cc
      go false false false false false false false false false false k = cc

-- all but the row's end
abbrev pub moving : List ℕ
moving = 1 ∷ 2 ∷ 3 ∷ 4 ∷ 5 ∷ 6 ∷ 7 ∷ 8 ∷ 9 ∷ 10 ∷ 11 ∷ []

-- the parts of one word
abbrev pub wordy : List ℕ
wordy = 5 ∷ 7 ∷ 8 ∷ 9 ∷ 10 ∷ 11 ∷ []

module _ (g : List ℕ) (t : ℕ) (m : Kind) (mark : m ≡ mark_at g t) where
  pub not_ended : is_among moving (tag m) ≡ true → ends_line g t ≡ false
  not_ended h = by (ends_line g t) refl where
    by : (b : Bool) → ends_line g t ≡ b → ends_line g t ≡ false
    by true e = let z : is_among moving (tag m) ≡ false = ap (λ k. is_among moving (tag k)) (mark ∙ mark_end g t e) in never (sym z ∙ h)
    by false e = e

  pub form-is : form_at g t ≡ by_mark m (word_at g t) (words_at g (after_word g t))
  form-is = form-at g t ∙ ap (λ k. by_mark k (word_at g t) (words_at g (after_word g t))) (sym mark)

  module _ (r : Row (words_at g t)) where
    fine-by : fine (by_mark m (word_at g t) (words_at g (after_word g t))) ≡ true
    fine-by = sym (ap fine form-is) ∙ r.is-fine

    narrow-by : narrow (by_mark m (word_at g t) (words_at g (after_word g t))) ≡ true
    narrow-by = sym (ap narrow form-is) ∙ r.is-narrow

    clauses-by : clauses (words_at g (after_word g t)) ≡ true
    clauses-by = clauses-flush (word_at g t) (words_at g (after_word g t)) (sym (ap clauses (words-after g t)) ∙ r.says-clauses)

module _ (g : List ℕ) (t : ℕ) where
  abbrev after : List (List ℕ)
  after = words_at g (after_word g t)

  pub row-may : MayEnd ≡ mark_at g t → Row (words_at g t) → Row after
  unfolding fine
  row-may e r =
      record {
        is-fine = (both (solid (form_in after) && closed (form_in after)) (fine (form_in after)) (fine-by g t MayEnd e r)).1;
        is-narrow = narrow-by g t MayEnd e r;
        says-clauses = clauses-by g t MayEnd e r;
      }

  pub row_silent : Silent ≡ mark_at g t → Row (words_at g t) → Row after
  row_silent e r = record { is-fine = fine-by g t Silent e r; is-narrow = narrow-by g t Silent e r; says-clauses = clauses-by g t Silent e r }

  module _ (e : Opens ≡ mark_at g t) (r : Row (words_at g t)) where
    abbrev said : Form
    said = form_in after

    abbrev left_out : Form
    left_out = form_in (past (word ")") after)

    fines : (is_word (first_word said) && fine said && parted (first_word said ∷ []) left_out && fine left_out) ≡ true
    unfolding fine
    fines = fine-by g t Opens e r

    pub row_with : Row after
    row_with =
        let (front, _) = both (is_word (first_word said) && fine said && parted (first_word said ∷ []) left_out) (fine left_out) fines in
        let (first, _) = both (is_word (first_word said) && fine said) (parted (first_word said ∷ []) left_out) front in
        record {
          is-fine = (both (is_word (first_word (form_in after))) (fine (form_in after)) first).1;
          is-narrow = (both (narrow (form_in after)) (narrow (form_in (past (word ")") after))) (narrow-by g t Opens e r)).0;
          says-clauses = clauses-by g t Opens e r;
        }

    pub row_without : Row (past (word ")") after)
    row_without =
        record {
          is-fine = (both (is_word (first_word said) && fine said && parted (first_word said ∷ []) left_out) (fine left_out) fines).1;
          is-narrow = (both (narrow (form_in after)) (narrow (form_in (past (word ")") after))) (narrow-by g t Opens e r)).1;
          says-clauses = clauses-past (word ")") after (clauses-by g t Opens e r);
        }

    -- the clause's first word
    pub clause_word : first_word (form_in after) ≡ word_at g (after_word g t)
    unfolding mark_at
    clause_word = by (ends_line g t) (word_at g t) refl e (sym (ap clauses (words-after g t)) ∙ r.says-clauses) where
      first : begins (first_word (form_in after)) after ≡ true → first_word (form_in after) ≡ word_at g (after_word g t)
      first h =
          let there = begun-word g (word_end g t) (first_word (form_in after)) (sym (ap (begins (first_word (form_in after))) (words-next g (word_end g t))) ∙ h) in
          let now : after ≡ word_at g (after_word g t) ∷ words_at g (behind_word g (word_end g t)) = words-next g (word_end g t) ∙ there in
          sym (same_true (word_at g (after_word g t)) (first_word (form_in after)) (sym (ap (begins (first_word (form_in after))) now) ∙ h))

      by : (b : Bool) (w : List ℕ) → word_at g t ≡ w → Opens ≡ cond b End (cond (is_empty w) Silent (mark_of w)) → clauses (flush w after) ≡ true
          → first_word (form_in after) ≡ word_at g (after_word g t)
      by true w k m h = cc
      by false [] k m h = cc
      by false (c ∷ w) k m h =
          let (front, _) = both (not (same (c ∷ w) (word "(")) || begins (first_word (form_in after)) after) (clauses after) h in
          first (rw (opens (c ∷ w) (sym m)) at front)

  module _ (n : ℕ) (e : Flags n ≡ mark_at g t) (r : Row (words_at g t)) where
    abbrev names : List (List ℕ)
    names = flags_at g (after_word g t)

    abbrev behind : Form
    behind = form_in (past (word "}") after)

    fine-flags : (leb 1 n && leb (2 ^ length names) (256 ^ n) && are_words names && distinct (word "bits" ∷ names) && parted (word "bits" ∷ names) behind && fine behind) ≡ true
    unfolding fine
    fine-flags = fine-by g t (Flags n) e r

    pub flags-fine : fine_part (bytes n) ≡ true
    unfolding fine_part
    flags-fine =
        let (a, _) = both (leb 1 n && leb (2 ^ length names) (256 ^ n) && are_words names && distinct (word "bits" ∷ names) && parted (word "bits" ∷ names) behind) (fine behind) fine-flags in
        let (b, _) = both (leb 1 n && leb (2 ^ length names) (256 ^ n) && are_words names && distinct (word "bits" ∷ names)) (parted (word "bits" ∷ names) behind) a in
        let (c, _) = both (leb 1 n && leb (2 ^ length names) (256 ^ n) && are_words names) (distinct (word "bits" ∷ names)) b in
        let (d, _) = both (leb 1 n && leb (2 ^ length names) (256 ^ n)) (are_words names) c in
        (both (leb 1 n) (leb (2 ^ length names) (256 ^ n)) d).0

    pub flags-few : length (flags_at g (after_word g t)) ≤ 64
    flags-few = leb-true (length (flags_at g (after_word g t))) 64 (both (leb (length (flags_at g (after_word g t))) 64) (narrow (form_in (past (word "}") after))) (narrow-by g t (Flags n) e r)).0

    pub row-flags : Row (past (word "}") after)
    row-flags =
        record {
          is-fine = (both (leb 1 n && leb (2 ^ length names) (256 ^ n) && are_words names && distinct (word "bits" ∷ names) && parted (word "bits" ∷ names) behind) (fine behind) fine-flags).1;
          is-narrow = (both (leb (length (flags_at g (after_word g t))) 64) (narrow (form_in (past (word "}") after))) (narrow-by g t (Flags n) e r)).1;
          says-clauses = clauses-past (word "}") after (clauses-by g t (Flags n) e r);
        }

  -- a part of one word
  module _ (m : Kind) (one_word : is_among wordy (tag m) ≡ true) where
    pub part_by_lem : (w : List ℕ) (ws : List (List ℕ)) → by_mark m w ws ≡ part (part_by m w ws) (form_in (behind_part m ws))
    unfolding behind_part
    part_by_lem w ws = by m one_word where
      by : (k : Kind) → is_among wordy (tag k) ≡ true → by_mark k w ws ≡ part (part_by k w ws) (form_in (behind_part k ws))
      by End h = never h
      by Rest h = never h
      by MayEnd h = never h
      by Opens h = never h
      by Silent h = never h
      by Names h = refl
      by (Flags n) h = never h
      by (Number n) h = refl
      by (Bytes n) h = refl
      by Date h = refl
      by Code h = refl
      by Word h = refl

    module _ (e : m ≡ mark_at g t) (r : Row (words_at g t)) where
      pub part-is : form_at g t ≡ part (part_at g t m) (form_in (behind_part m after))
      part-is = form-is g t m e ∙ part_by_lem (word_at g t) after

      fine-part : (fine_part (part_at g t m) && fine (form_in (behind_part m after))) ≡ true
      unfolding fine
      fine-part = sym (ap fine part-is) ∙ r.is-fine

      pub part-fine : fine_part (part_at g t m) ≡ true
      part-fine = (both (fine_part (part_at g t m)) (fine (form_in (behind_part m after))) fine-part).0

      pub row-part : Row (behind_part m after)
      row-part =
          record {
            is-fine = (both (fine_part (part_at g t m)) (fine (form_in (behind_part m after))) fine-part).1;
            is-narrow = sym (ap narrow part-is) ∙ r.is-narrow;
            says-clauses = clauses-behind m after (clauses-by g t m e r);
          }

pub wordy_moving : (m : Kind) → is_among wordy (tag m) ≡ true → is_among moving (tag m) ≡ true
wordy_moving End h = never h
wordy_moving Rest h = refl
wordy_moving MayEnd h = refl
wordy_moving Opens h = refl
wordy_moving Silent h = refl
wordy_moving Names h = refl
wordy_moving (Flags n) h = refl
wordy_moving (Number n) h = refl
wordy_moving (Bytes n) h = refl
wordy_moving Date h = refl
wordy_moving Code h = refl
wordy_moving Word h = refl

pub flags-behind : (n : ℕ) (ws : List (List ℕ)) → behind_part (Flags n) ws ≡ past (word "}") ws
unfolding behind_part
flags-behind n ws = refl

-- there is a word, and a place behind it
pub ahead : (g : List ℕ) (t : ℕ) (m : Kind) → m ≡ mark_at g t → is_among moving (tag m) ≡ true → (t < after_word g t) × (t < length g)
ahead g t m e h = let line = not_ended g t m e h in (moves g t line, in_line_lem g t line)

-- ---- what a row says, by its mark

module _ (g : List ℕ) (t : ℕ) (ws : List (List ℕ)) where
  by_form : (m : Kind) → m ≡ mark_at g t → read_form (form_at g t) ws ≡ read_form (by_mark m (word_at g t) (words_at g (after_word g t))) ws
  by_form m e = ap (λ f. read_form f ws) (form-is g t m e)

  pub done-is : End ≡ mark_at g t → read_form (form_at g t) ws ≡ read_form done ws
  done-is e = by_form End e

  pub rest-is : Rest ≡ mark_at g t → read_form (form_at g t) ws ≡ read_rest ws
  unfolding read_form
  rest-is e = by_form Rest e

  pub may-is : MayEnd ≡ mark_at g t → read_form (form_at g t) ws ≡ read_form (may (form_at g (after_word g t))) ws
  may-is e = by_form MayEnd e

  pub silent_is : Silent ≡ mark_at g t → read_form (form_at g t) ws ≡ read_form (form_at g (after_word g t)) ws
  silent_is e = by_form Silent e

  module _ (e : Opens ≡ mark_at g t) (r : Row (words_at g t)) (b : Bool) (there : begins (word_at g (after_word g t)) ws ≡ b) where
    pub clause_is : read_form (form_at g t) ws ≡ cond b (read_form (form_at g (after_word g t)) ws) (read_form (form_in (past (word ")") (words_at g (after_word g t)))) ws)
    unfolding read_form
    clause_is = by_form Opens e ∙ rw (clause_word g t e r, there)

  pub flags-is : (n : ℕ) → Flags n ≡ mark_at g t
      → read_form (form_at g t) ws ≡ flags_then n (flags_at g (after_word g t)) ws (read_form (form_in (past (word "}") (words_at g (after_word g t)))))
  unfolding read_form flags_then
  flags-is n e = by_form (Flags n) e

  pub word-is : (m : Kind) (w : is_among wordy (tag m) ≡ true) (e : m ≡ mark_at g t) → Row (words_at g t)
      → read_form (form_at g t) ws ≡ one (part_at g t m) ws (read_form (form_in (behind_part m (words_at g (after_word g t)))))
  unfolding read_form
  word-is m w e r = ap (λ f. read_form f ws) (part-is g t m w e r)

-- ---- a part, and what follows it

module _ (text : List ℕ) (at : ℕ) (reads : (List (List ℕ) → Read) → Read) (f g : Form) (is : read_form f (words_at text at) ≡ reads (read_form g))
    (wants : ℕ → Want) (room : List ℕ) (to : ℕ) where
  pub piece_stopped : (after : List ℕ) (r : Result Reached Fault) (d : Fault) → r ≡ Err d → Piece reads text at wants room to r after
      → Heard text at wants room to (read_form f (words_at text at)) (Err d) after
  unfolding Piece
  piece_stopped after r d e p = stopped-heard f g is wants room to after (rw e at p)

  pub piece_passed : (lent : List ℕ) (q : Result Reached Fault) (x : Reached) → q ≡ Ok x → Piece reads text at wants room to q lent → (after : List ℕ) (r : Result Reached Fault)
      → Heard text x.at wants lent x.end (read_form g (words_at text x.at)) r after → Heard text at wants room to (read_form f (words_at text at)) r after
  unfolding Piece
  piece_passed lent q x e p after r h = passed-heard f g is wants room to after r (rw e at p) h

-- the last arm of `read_form`
pub among_wordy : (m : Kind) → (m ≡ End → ⊥) → (m ≡ Rest → ⊥) → (m ≡ MayEnd → ⊥) → (m ≡ Opens → ⊥) → (m ≡ Silent → ⊥) → ((x : ℕ) → m ≡ Flags x → ⊥) → is_among wordy (tag m) ≡ true
among_wordy End a b c d e f = absurd (a refl)
among_wordy Rest a b c d e f = absurd (b refl)
among_wordy MayEnd a b c d e f = absurd (c refl)
among_wordy Opens a b c d e f = absurd (d refl)
among_wordy Silent a b c d e f = absurd (e refl)
among_wordy Names a b c d e f = refl
among_wordy (Flags x) a b c d e f = absurd (f x refl)
among_wordy (Number x) a b c d e f = refl
among_wordy (Bytes x) a b c d e f = refl
among_wordy Date a b c d e f = refl
among_wordy Code a b c d e f = refl
among_wordy Word a b c d e f = refl
