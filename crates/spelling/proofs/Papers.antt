-- Whole papers: the lines of every byte string. Assumes nothing.
use mathlib.Core.Path.{◌≡◌, refl, sym, ap, subst, ◌∙◌}
use mathlib.Core.Bool.{Bool, true, false, cond}
use mathlib.Core.Logic.{◌⊎◌, inl, inr}
use mathlib.Core.List.{List, [], ◌∷◌, ◌++◌}
use Prim.Native.Nat.{ℕ, ◌+◌, ◌-◌, ◌≤◌}
use native.Mathlib.Omega.{arith}
use lib.Dec.{eqb}
use lib.ListN.{length, take, drop, length-drop}
use lib.Seq.{drop-append-le, take-append-le}
use Rattle.refusal.specs.declared.Refusal.TheVariants.{BadSetup, Unreadable, PastData}
use Rattle.rules.specs.Rules.{rules_of}
use Rattle.rules.specs.Word.{word_count}
use Rattle.setup.specs.declared.ReadSetup.{ReadSetup}
use Rattle.setup.specs.Setup.{read_setup, setup_number, no_card, fresh_in, is_accepted, words_after}
use Rattle.setup.proofs.Faithful as F
use Rattle.refusal.specs.declared.Refusal.{Refusal}
use Rattle.refusal.specs.Refusal.{refusal_number}
use Rattle.shape.specs.declared.Family.{Family}
use Rattle.shape.specs.declared.Family.TheVariants.{Cpa, Cpace}
use Rattle.shape.specs.declared.Shape.{Shape}
use Rattle.shape.specs.Shape.{base_part, tail_part, family_part, tails_of, whole, shape_of, shape_at, selecting_at, span_at, family_at, shape_number}
use Rattle.shape.specs.Shape as Sh
use Rattle.shape.proofs.Inside.{inside}
use Rattle.paper.specs.Paper.{open_paper}
use Rattle.paper.specs.Walk.{part}
use Rattle.lines.specs.Lines.{refusal_line}
use Rattle.records.specs.declared.Event.{Event}
use Rattle.records.specs.declared.Event.TheVariants.{Refused}
use Rattle.begun.specs.declared.Begun.{Begun}
use Rattle.begun.specs.Begun.{past_begun, set_up_event, base_begun}
use Rattle.opening.specs.Opening.{log_judged, logged_begun, begun_of, setup_begun, shaped_begun, setup_words, words_begun}
use Rattle.conversation.specs.Events.{events_of}
use Rattle.lines.specs.Sitting.{lines_of, sitting_lines}
use Rattle.spelling.specs.Spelling.{Bytes, Sent, spell_all, choice_in, dates_in, family_in, scripts_in, Manner, manner_in, AllFit}
use Rattle.spelling.specs.Faults.{OpenFault, Opens}
use Rattle.spelling.specs.Sitting.{Lies, setup_from, SetUp, NotSetUp, no_shape, no_base, no_log, PastSetUp, Ends, rules_from, card_from, sitting_of}
use Rattle.spelling.specs.Sitting.{Sat, unread, not_set_up, past_data, sat}
use Rattle.spelling.proofs.Numbers.{byte_small, bytes_take, bytes_drop, bytes-front}
use Rattle.spelling.proofs.Shapes.{record_is, here_length, part_drop}
use Rattle.spelling.proofs.Opening.{opens, faults, Opening, opens_or_faults, version_of, end_in}
use Rattle.spelling.proofs.Lines.{events-by, lines-happened}
use Rattle.spelling.proofs.Parsed.{parsed, one_way}
use Rattle.std.specs.Prelude.{Err, None, Ok, Option, Result, Some}
use Rattle.log_tail.specs.declared.Fault.{Fault}
use Rattle.log_tail.specs.declared.Fault.TheVariants.{PastData as TableFault}
use Rattle.log_tail.specs.declared.Fault.TheVariants.{Wrong}
use Rattle.shape.specs.declared.SelectionFile.{SelectionFile}
use Rattle.shape.specs.declared.Span.{Span}
use Rattle.shape.specs.declared.Tails.{Tails}

-- ---- set-ups that are taken, and the others

by_answer : (s t : List ℕ) → Bool → ReadSetup
by_answer s t b = cond b (record { fresh = fresh_in s t; answer = Ok tt }) (record { fresh = no_card; answer = Err BadSetup })

is-accepted : (s t f : List ℕ) (unnamed : ℕ) → (read_setup s t f unnamed).answer ≡ Ok tt → is_accepted s t f unnamed ≡ true
unfolding read_setup by_answer
is-accepted s t f unnamed e = by (is_accepted s t f unnamed) refl e where
  by : (b : Bool) → is_accepted s t f unnamed ≡ b → (by_answer s t b).answer ≡ Ok tt → is_accepted s t f unnamed ≡ true
  by true q e = q
  by false q e = let z : ◌≡◌ {A = ℕ} 0 1 = cc in absurd (omega arith)

pub not_accepted : (s t f : List ℕ) (unnamed : ℕ) → setup_number (read_setup s t f unnamed).answer ≡ 1 → is_accepted s t f unnamed ≡ false
unfolding read_setup by_answer
not_accepted s t f unnamed = by (is_accepted s t f unnamed) where
  by : (b : Bool) → setup_number (by_answer s t b).answer ≡ 1 → b ≡ false
  by true e = absurd (omega arith)
  by false e = refl

-- a shape is taken, or its refusal is 1
pub data ShapeWays (t : Result Shape Refusal) : Type 0 where
  shape-taken : (shape : Shape) → t ≡ Ok shape → ShapeWays t
  shape_one : shape_number t ≡ 1 → ShapeWays t

shape_ways : (version : ℕ) (body : List ℕ) → ShapeWays (shape_of version body)
unfolding shape_of
shape_ways version body = by (tails_of version body) where
  by_end : (shape : Shape) (b : Bool) → ShapeWays (cond b (Ok shape) (Err BadSetup))
  by_end shape true = shape-taken shape refl
  by_end shape false = shape_one refl

  by : (tails : Option Tails) → ShapeWays (whole body tails)
  by None = shape_one refl
  by (Some tails) = by_end tails.shape (eqb tails.at (length body))

abbrev accepts : Shape → (body : List ℕ) → Bool
accepts shape body = is_accepted (base_part shape body) (tail_part shape.dating body) (family_part shape.family body) shape.unnamed

-- EVERY SET-UP IS TAKEN OR NOT
pub set_up_or_not : (version : ℕ) (body : List ℕ) → ((shape : Shape) × SetUp version body shape) ⊎ (NotSetUp version body ⊎ PastSetUp version body)
unfolding read_setup by_answer
set_up_or_not version body = by (shape_ways version body) where
  by-log : (shape : Shape) → shape_of version body ≡ Ok shape → accepts shape body ≡ true → (judged : Result Unit Fault) → log_judged shape body ≡ judged
      → ((shape : Shape) × SetUp version body shape) ⊎ (NotSetUp version body ⊎ PastSetUp version body)
  by-log shape e q (Ok done) l = inl (shape, record { shape_is = e; base = rw q; log = l })
  by-log shape e q (Err Wrong) l = inr (inl (no_log shape e l))
  by-log shape e q (Err TableFault) l = inr (inr (record { shape = shape; shape_is = e; base = rw q; log = l }))

  by-base : (shape : Shape) → shape_of version body ≡ Ok shape → (b : Bool) → accepts shape body ≡ b
      → ((shape : Shape) × SetUp version body shape) ⊎ (NotSetUp version body ⊎ PastSetUp version body)
  by-base shape e true q = by-log shape e q (log_judged shape body) refl
  by-base shape e false q = inr (inl (no_base shape e (rw q)))

  by : ShapeWays (shape_of version body) → ((shape : Shape) × SetUp version body shape) ⊎ (NotSetUp version body ⊎ PastSetUp version body)
  by (shape-taken shape e) = by-base shape e (accepts shape body) refl
  by (shape_one e) = inr (inl (no_shape e))

pub bytes-cycles : (dating : Option Span) (body : List ℕ) → Bytes body → Bytes (tail_part dating body)
bytes-cycles None body h = tt
bytes-cycles (Some part) body h = bytes_take (part.end - part.start) (drop part.start body) (bytes_drop part.start body h)

pub bytes-family : (family : Family) (body : List ℕ) → Bytes body → Bytes (family_part family body)
bytes-family Cpa body h = tt
bytes-family (Cpace start end) body h = bytes_take (end - start) (drop start body) (bytes_drop start body h)

module _ (words s : List ℕ) (version : ℕ) (body rest : List ℕ) (o : Opens s version body rest) where
  behind-head : drop 4 s ≡ body ++ rest
  behind-head = rw (o.is, record_is 1 body)

  size : length s ≡ 4 + length body + length rest
  size = rw o.is (omega (arith, here_length 1 body rest))

  module _ (shape : Shape) (t : SetUp version body shape) where
    abbrev base : List ℕ
    base = base_part shape body

    abbrev tail : List ℕ
    tail = tail_part shape.dating body

    abbrev controls : List ℕ
    controls = family_part shape.family body

    good : is_accepted base tail controls shape.unnamed ≡ true
    good = is-accepted base tail controls shape.unnamed t.base

    pub lies_there : Lies (shape_at 4 shape).selecting s
    lies_there = by shape.selecting (inside body version shape t.shape_is).file where
      by : (x : Option SelectionFile) → Sh.Lies x (length body) → Lies (selecting_at 4 x) s
      by None i = tt
      by (Some part) i = (omega (arith, i.0), omega (arith, size, i.1))

    same-choice : choice_in (selecting_at 4 shape.selecting) s ≡ choice_in shape.selecting body
    same-choice = by shape.selecting (inside body version shape t.shape_is).file where
      by : (x : Option SelectionFile) → Sh.Lies x (length body) → choice_in (selecting_at 4 x) s ≡ choice_in x body
      by None i = refl
      by (Some part) i =
          let left : part.end - part.start ≤ length (drop part.start body) = omega (arith, length-drop part.start body, i.0, i.1) in
          let file : take (4 + part.end - (4 + part.start)) (drop (4 + part.start) s) ≡ take (part.end - part.start) (drop part.start body) =
          part_drop s 4 part.start part.end
          ∙ rw (behind-head, drop-append-le part.start body rest (omega (arith, i.0, i.1))) (take-append-le (part.end - part.start) (drop part.start body) rest left) in
          rw file

    same-dates : (dating : Option Span) → dates_in (span_at 4 dating) ≡ dates_in dating
    same-dates None = refl
    same-dates (Some part) = refl

    same-family : (family : Family) → family_in (family_at 4 family) ≡ family_in family
    same-family Cpa = refl
    same-family (Cpace start end) = refl

    -- a paper's commands are in the manner that its set-up's body says
    pub chooses : manner_in (shape_at 4 shape) s ≡ manner_in shape body
    chooses =
        λ i.
        record {
          choice = same-choice i;
          dates = same-dates shape.dating i;
          family = same-family shape.family i;
          scripts = scripts_in shape.scripting;
        }

    module _ (bytes : Bytes s) (lent : length words ≡ word_count) where
      pub rules-are : rules_of (words_after words base tail controls shape.syllabus shape.unnamed) ≡ rules_from shape body
      rules-are =
          let body_bytes : Bytes body = bytes-front body rest (subst Bytes behind-head (bytes_drop 4 s bytes)) in
          let small : (part : List ℕ) → Bytes part → F.Bytes part = λ part h. record { below = byte_small part h } in
          F.faithful base tail controls (small base (bytes_take shape.base body body_bytes))
          (small tail (bytes-cycles shape.dating body body_bytes)) (small controls (bytes-family shape.family body body_bytes))
          shape.syllabus shape.unnamed words lent good

      -- THE LINES OF A PAPER WHOSE SET-UP IS TAKEN
      pub lines_of_lem : (xs : List Sent) (end : List ℕ) → AllFit (manner_in shape body) xs → (ends : Ends (manner_in shape body) end)
          → rest ≡ spell_all xs ++ end → sitting_lines words s ≡ sitting_of shape body xs ends
      unfolding sitting_lines events_of begun_of setup_begun base_begun words_begun setup_words lines_of
      lines_of_lem xs end fit ends e =
          let r = opens s version body rest o in
          let rules = rules_from shape body in
          let manner = manner_in shape body in
          rw (r.0, r.1, t.shape_is, t.log, F.started base tail controls shape.unnamed good, rules-are)
          (ap (λ (l : List (List ℕ)). refusal_line 0 0 ∷ l)
          (ap (lines_of 1) (events-by (shape_at 4 shape) s lies_there manner chooses xs (length s) rules (card_from shape body) (4 + length body) fit end ends
          (r.2 ∙ e) (omega (arith, length-drop (4 + length body) s)))
          ∙ lines-happened manner end ends xs rules (card_from shape body) 1))

-- ---- every other paper

ended-at-once : (words s : List ℕ) (refusal : Refusal) → (begun_of s).event ≡ Refused refusal
    → sitting_lines words s ≡ refusal_line 0 (refusal_number refusal) ∷ []
unfolding sitting_lines events_of lines_of
ended-at-once words s refusal e = rw e

-- A PAPER THAT DOES NOT OPEN HAS THE ONE LINE 0 9
pub nine_line : (words s : List ℕ) → OpenFault s → sitting_lines words s ≡ refusal_line 0 9 ∷ []
unfolding begun_of
nine_line words s f = ended-at-once words s Unreadable (rw (faults s f))

-- an event of refusal 1
pub record One (event : Event) : Type 0 where
  pub refusal : Refusal
  pub is : event ≡ Refused refusal
  pub one : refusal_number refusal ≡ 1

pub refused-shape : (body : List ℕ) (place end : ℕ) (t : Result Shape Refusal) → shape_number t ≡ 1 → One (shaped_begun body place end t).event
refused-shape body place end (Err refusal) e = record { refusal = refusal; is = refl; one = e }
refused-shape body place end (Ok shape) e = absurd (omega arith)

pub refused-base : (shape : Shape) (base tail controls : List ℕ) (end : ℕ)
    → setup_number (read_setup base tail controls shape.unnamed).answer ≡ 1 → One (base_begun shape base tail controls end).event
unfolding base_begun
refused-base shape base tail controls end e = by (read_setup base tail controls shape.unnamed).answer e where
  by : (a : Result Unit Refusal) → setup_number a ≡ 1 → One (set_up_event a)
  by (Ok done) e = absurd (omega arith)
  by (Err refusal) e = record { refusal = refusal; is = refl; one = e }

-- a base that is refused, whatever the log is
pub refused-logged : (judged : Result Unit Fault) (good : Bool) (end : ℕ) (begun : Begun) → good ≡ false → One begun.event
    → One (logged_begun judged good end begun).event
unfolding past_begun
refused-logged (Ok done) good end begun bad o = o
refused-logged (Err Wrong) good end begun bad o = record { refusal = BadSetup; is = refl; one = refl }
refused-logged (Err TableFault) good end begun bad o = record { refusal = BadSetup; is = rw bad; one = refl }

pub not_begun : (version : ℕ) (body : List ℕ) (place end : ℕ) → NotSetUp version body → One (shaped_begun body place end (shape_of version body)).event
not_begun version body place end (no_shape e) = refused-shape body place end (shape_of version body) e
not_begun version body place end (no_base shape t e) =
    let base = base_part shape body in
    let cycles = tail_part shape.dating body in
    let family = family_part shape.family body in
    rw t
    (refused-logged (log_judged shape body) (accepts shape body) end (base_begun (shape_at place shape) base cycles family end)
    (not_accepted base cycles family shape.unnamed e) (refused-base (shape_at place shape) base cycles family end e))
not_begun version body place end (no_log shape t l) = rw (t, l) (record { refusal = BadSetup; is = refl; one = refl })

pub past-begun : (version : ℕ) (body : List ℕ) (place end : ℕ) → PastSetUp version body
    → (shaped_begun body place end (shape_of version body)).event ≡ Refused PastData
unfolding past_begun
past-begun version body place end p =
    let shape = p.shape in
    rw (p.shape_is, p.log, is-accepted (base_part shape body) (tail_part shape.dating body) (family_part shape.family body) shape.unnamed p.base)

-- AND ONE WHOSE SET-UP IS REFUSED THE ONE LINE 0 1
pub one_line : (words s : List ℕ) (version : ℕ) (body rest : List ℕ) → Opens s version body rest → NotSetUp version body
    → sitting_lines words s ≡ refusal_line 0 1 ∷ []
unfolding begun_of setup_begun
one_line words s version body rest o n =
    let r = opens s version body rest o in
    let i : One (shaped_begun (part s 4 (4 + length body)) 4 (4 + length body) (shape_of version (part s 4 (4 + length body)))).event =
    rw r.1 (not_begun version body 4 (4 + length body) n) in
    ended-at-once words s i.refusal (rw r.0 i.is) ∙ ap (λ (k : ℕ). refusal_line 0 k ∷ []) i.one

-- AND ONE WHOSE LOG REACHES PAST ITS DATA THE ONE LINE 0 14
pub fourteen_line : (words s : List ℕ) (version : ℕ) (body rest : List ℕ) → Opens s version body rest → PastSetUp version body
    → sitting_lines words s ≡ refusal_line 0 14 ∷ []
unfolding begun_of setup_begun
fourteen_line words s version body rest o p =
    let r = opens s version body rest o in
    ended-at-once words s PastData (rw (r.0, r.1) (past-begun version body 4 (4 + length body) p))

-- EVERY BYTE STRING IS ONE OF THE FOUR, WITH ITS LINES
pub every_paper : (words s : List ℕ) → length words ≡ word_count → Bytes s → Sat words s
every_paper words s lent bytes = by (opens_or_faults s bytes) where
  by_set_up : (o : Opening s)
      → ((shape : Shape) × SetUp o.version o.body shape) ⊎ (NotSetUp o.version o.body ⊎ PastSetUp o.version o.body) → Sat words s
  by_set_up o (inl t) =
      let manner = manner_in t.0 o.body in
      let rest-bytes : Bytes o.rest =
      subst Bytes (opens s o.version o.body o.rest o.opens).2 (bytes_drop (4 + length o.body) s bytes) in
      let p = parsed manner o.rest rest-bytes in
      sat o.version o.body t.0 t.1 p.sent p.rest p.fit p.ends
      (subst (Opens s o.version o.body) p.is o.opens)
      (lines_of_lem words s o.version o.body o.rest o.opens t.0 t.1 bytes lent p.sent p.rest p.fit p.ends p.is)
  by_set_up o (inr (inl n)) =
      not_set_up o.version o.body o.rest o.opens n (one_line words s o.version o.body o.rest o.opens n)
  by_set_up o (inr (inr p)) =
      past_data o.version o.body o.rest o.opens p (fourteen_line words s o.version o.body o.rest o.opens p)

  by : OpenFault s ⊎ Opening s → Sat words s
  by (inl f) = unread f (nine_line words s f)
  by (inr o) = by_set_up o (set_up_or_not o.version o.body)

-- AND IN ONE WAY: VERSION, SET-UP, WHAT WAS SENT, AND THE REST
pub one-paper : (s : List ℕ) (v w : ℕ) (b c rest more : List ℕ) → Opens s v b rest → Opens s w c more → (v ≡ w) × (b ≡ c) × (rest ≡ more)
one-paper s v w b c rest more o p =
    let x = opens s v b rest o in
    let y = opens s w c more p in
    let both = sym x.0 ∙ y.0 in
    let end : 4 + length b ≡ 4 + length c = ap end_in both in
    (ap version_of both, sym x.1 ∙ ap (part s 4) end ∙ y.1, sym x.2 ∙ ap (λ (n : ℕ). drop n s) end ∙ y.2)

pub one_sitting : (s : List ℕ) (v w : ℕ) (b c : List ℕ) (x y : Shape) → SetUp v b x → SetUp w c y
    → (xs ys : List Sent) (r q : List ℕ)
    → AllFit (manner_in x b) xs → AllFit (manner_in y c) ys
    → Ends (manner_in x b) r → Ends (manner_in y c) q
    → Opens s v b (spell_all xs ++ r) → Opens s w c (spell_all ys ++ q) → (v ≡ w) × (b ≡ c) × (xs ≡ ys) × (r ≡ q)
one_sitting s v w b c x y t u xs ys r q h k d e o p =
    let one = one-paper s v w b c (spell_all xs ++ r) (spell_all ys ++ q) o p in
    let shapes : shape_of v b ≡ shape_of w c = rw (one.0, one.1) in
    let same : x ≡ y = cc (t.shape_is, u.shape_is) in
    let chosen : manner_in y c ≡ manner_in x b = rw (same, one.1) in
    let way =
    one_way (manner_in x b) xs ys r q h (subst (λ (z : Manner). AllFit z ys) chosen k) d (subst (λ (z : Manner). Ends z q) chosen e) one.2 in
    (one.0, one.1, way.0, way.1)

-- THE FOUR SHUT EACH OTHER OUT
pub opens_or_not : (s : List ℕ) (v : ℕ) (b rest : List ℕ) → OpenFault s → Opens s v b rest → ⊥
opens_or_not s v b rest f o = let z : ◌≡◌ {A = ℕ} 0 1 = cc (faults s f, (opens s v b rest o).0) in omega arith

pub taken_or_not : (v : ℕ) (b : List ℕ) (x : Shape) → SetUp v b x → NotSetUp v b → ⊥
taken_or_not v b x t (no_shape e) = let none : shape_number (shape_of v b) ≡ 0 = rw t.shape_is in omega arith
taken_or_not v b x t (no_base y u e) =
    let same : y ≡ x = cc (t.shape_is, u) in
    let none : setup_number (setup_from y b).answer ≡ 0 = rw (same, t.base) in
    omega arith
taken_or_not v b x t (no_log y u l) =
    let same : y ≡ x = cc (t.shape_is, u) in
    let z : ◌≡◌ {A = ℕ} 0 1 = cc (same, l, t.log) in
    omega arith

pub taken_or_past : (v : ℕ) (b : List ℕ) (x : Shape) → SetUp v b x → PastSetUp v b → ⊥
taken_or_past v b x t p =
    let same : p.shape ≡ x = cc (t.shape_is, p.shape_is) in
    let z : ◌≡◌ {A = ℕ} 0 1 = cc (same, p.log, t.log) in
    omega arith

pub refused_or_past : (v : ℕ) (b : List ℕ) → NotSetUp v b → PastSetUp v b → ⊥
refused_or_past v b (no_shape e) p = let none : shape_number (shape_of v b) ≡ 0 = rw p.shape_is in omega arith
refused_or_past v b (no_base y u e) p =
    let same : y ≡ p.shape = cc (p.shape_is, u) in
    let none : setup_number (setup_from y b).answer ≡ 0 = rw (same, p.base) in
    omega arith
refused_or_past v b (no_log y u l) p =
    let same : y ≡ p.shape = cc (p.shape_is, u) in
    let z : ◌≡◌ {A = ℕ} 0 1 = cc (same, l, p.log) in
    omega arith
