-- The set-up of an accepted paper: what its bytes say is what was spelled, and the conversation begins by it. Assumes nothing.
use mathlib.Core.Path.{◌≡◌, refl, sym, ap, ap₂, subst, ◌∙◌}
use mathlib.Core.Bool.{true}
use mathlib.Core.List.{List, [], ◌++◌}
use Prim.Native.Nat.{ℕ, ◌+◌, ◌-◌}
use native.Mathlib.Omega.{arith}
use lib.ListN.{length, drop, length-append}
use lib.Seq.{take_at, drop-append_seam}
use Rattle.wire.specs.Wire.{byte, number}
use Rattle.rules.specs.Word.{word_count}
use Rattle.rules.specs.Rules.{rules_of}
use Rattle.setup.specs.Setup.{is_accepted, rules_in}
use Rattle.setup.proofs.Faithful.{started}
use Rattle.auditor.specs.Template.{InRange}
use Rattle.log_tail.specs.LogTail.{judged}
use Rattle.bodies.specs.Bodies.{first_length}
use Rattle.shape.specs.declared.Shape.{Shape}
use Rattle.shape.specs.Shape.{base_part, tail_part, family_part, shape_of, shape_at}
use Rattle.records.specs.declared.Event.TheVariants.{SetUp}
use Rattle.begun.specs.Begun.{base_begun}
use Rattle.opening.specs.Opening.{log_found, log_judged, begun_of, setup_begun, setup_words, words_begun}
use Rattle.demands.specs.Setup.{Setup, AcceptedSetup}
use Rattle.demands.specs.Conversation.{rules_by}
use Rattle.rows.specs.Rows.{body as spelled_base, cycles_bytes, controls_bytes}
use Rattle.rows.specs.Rows as R
use Rattle.rows.specs.Tails as T
use Rattle.rows.specs.Tails.{Choosing, off, on, Tail, tail_bytes, choosing_of, syllabus_of, scripting_of, unnamed_of, Base}
use Rattle.rows.specs.Tails.{selecting, file_of, dating, family_from, Fine, shape_said, TailSays}
use Rattle.rows.specs.Whole.{IsInRange, Within, log_whole}
use Rattle.rows.proofs.Placed.{in_place}
use Rattle.rows.proofs.Ranges.{three}
use Rattle.rows.proofs.Behind.{byte-kept, length_kept}
use Rattle.rows.proofs.LogRanges.{sound_exactly}
use Rattle.rows.proofs.Whole.{is_base, reads_whole, all_in_range, log_sound, log-past}
use Rattle.spelling.specs.Spelling.{Bytes, by_file, choice_in, Dates, dates_in, family_in, scripts_in, manner_in}
use Rattle.spelling.specs.Faults.{Opens}
use Rattle.spelling.specs.Sitting.{Lies}
use Rattle.spelling.specs.Sitting as Sp
use Rattle.spelling.proofs.Numbers.{byte_small, bytes_take, bytes_drop, bytes-front}
use Rattle.spelling.proofs.Shapes.{record_is}
use Rattle.spelling.proofs.Commands.{of}
use Rattle.spelling.proofs.Opening as O
use Rattle.spelling.proofs.Papers.{bytes-cycles, bytes-family, lies_there, chooses, rules-are}
use Rattle.papers.specs.Papers.{version_in, body_in, rest_in, base_in, tails_in, setup_in, setup_of, manner_of, Accepted}
use Rattle.papers.specs.Papers as P
use Rattle.papers.proofs.Tails.{choice_said, dates_said, card_said, manner_said, ReadsAs, reads_as, unnamed-is}
use Rattle.papers.proofs.Talk.{fresh}
use Rattle.std.specs.Prelude.{None, Ok, Option, Some}
use Rattle.shape.specs.declared.Span.{Span}

-- ---- a paper that opens

module _ (paper : List ℕ) (version : ℕ) (body rest : List ℕ) (o : Opens paper version body rest) where
  behind-head : drop 4 paper ≡ body ++ rest
  behind-head = rw (o.is, record_is 1 body)

  long : length paper ≡ 4 + length body + length rest
  long = rw (o.is, record_is 1 body) (omega (arith, length-append body rest))

  size_is : number paper 1 2 ≡ 1 + length body
  unfolding number
  size_is = let l = long in let short = o.short in rw (o.is, record_is 1 body) (omega arith)

  pub opened-bytes : Bytes paper → Bytes body
  opened-bytes bytes = bytes-front body rest (subst Bytes behind-head (bytes_drop 4 paper bytes))

  pub version-is : version_in paper ≡ version
  version-is = ap version_in o.is

  pub body_is : body_in paper ≡ body
  body_is =
      let size : 1 + length body - 1 ≡ length body = omega arith in
      rw (size_is, size, behind-head) (take_at body rest (length body) refl)

  pub rest-is : rest_in paper ≡ rest
  rest-is = let end : 3 + (1 + length body) ≡ 4 + length body = omega arith in rw (size_is, end) (O.opens paper version body rest o).2

-- ---- a base and its tails

module _ (base : List ℕ) (sized : Base base) (tail : Tail) where
  abbrev whole : List ℕ
  whole = base ++ tail_bytes tail

  base_there : base_in whole ≡ base
  base_there = rw (length_kept base sized (tail_bytes tail)) (take_at base (tail_bytes tail) (length base) refl)

  tails-there : tails_in whole ≡ tail_bytes tail
  tails-there = rw (length_kept base sized (tail_bytes tail)) (drop-append_seam base (tail_bytes tail))

-- the set-up of a base and its tail
abbrev pub setup_said : (base : List ℕ) → Tail → Setup
setup_said base tail =
    record {
      bytes = base;
      tail = cycles_bytes (T.dates_of tail);
      family = controls_bytes (T.families_of tail);
      syllabus = syllabus_of tail;
      unnamed = unnamed_of tail;
      written = [];
    }

-- a log is judged alike where it is off: it has no byte then
pub log-judged : (shape : Shape) (body : List ℕ) → log_judged shape body ≡ log_whole shape body
unfolding log_judged
log-judged shape body = by shape.logging where
  by : (logging : Option Span) → log_found logging shape body ≡ judged (tail_part logging body) (byte body 3) (first_length shape.dating shape.family)
  by None = sym ((sound_exactly (byte body 3) T.unlogged tt (first_length shape.dating shape.family)).1 (tt, tt))
  by (Some part) = refl

module _ (version : ℕ) (body : List ℕ) (i : IsInRange version body) where
  abbrev base : List ℕ
  base = spelled_base i.setup

  abbrev cycles : List ℕ
  cycles = cycles_bytes (T.dates_of i.tail)

  abbrev controls : List ℕ
  controls = controls_bytes (T.families_of i.tail)

  abbrev pub shape : Shape
  shape = shape_said base i.tail

  says : TailSays base i.tail (base ++ tail_bytes i.tail)
  says = reads_whole i.setup i.tail i.fits i.fine

  base-is : base_part shape body ≡ base
  base-is = rw (← i.spelled) says.base-is

  cycles-are : tail_part shape.dating body ≡ cycles
  cycles-are = rw (← i.spelled) says.cycles

  controls-are : family_part shape.family body ≡ controls
  controls-are = rw (← i.spelled) says.family

  good : is_accepted base cycles controls shape.unnamed ≡ true
  good = (all_in_range i.setup i.tail i.fits i.fine).1 (i.in_range_lem, i.dates_in_range, i.families_in_range)

  shape-read : shape_of version body ≡ Ok shape
  shape-read = rw (← i.version-is, ← i.spelled) says.read

  base_done : (Sp.setup_from shape body).answer ≡ Ok tt
  base_done = rw (base-is, cycles-are, controls-are, started base cycles controls shape.unnamed good)

  log_is : log_judged shape body ≡ log_whole shape (base ++ tail_bytes i.tail)
  log_is = log-judged shape body ∙ ap (log_whole shape) (sym i.spelled)

  pub set_up_lem : Within i.tail → Sp.SetUp version body shape
  set_up_lem within =
      record {
        shape_is = shape-read;
        base = base_done;
        log = log_is ∙ (log_sound i.setup i.tail i.fits i.fine).1 (i.logs_in_range, within);
      }

  pub past : (Within i.tail → ⊥) → Sp.PastSetUp version body
  past reaches =
      record {
        shape = shape;
        shape_is = shape-read;
        base = base_done;
        log = log_is ∙ (log-past i.setup i.tail i.fits i.fine).1 (i.logs_in_range, reaches);
      }

  -- what is read behind the base
  there : tails_in body ≡ tail_bytes i.tail
  there = rw (← i.spelled) (tails-there base (is_base i.setup i.fits) i.tail)

  reads : ReadsAs (P.profiles_in body) i.tail
  reads =
      let sized = is_base i.setup i.fits in
      let p : byte base 3 ≡ P.profiles_in body = rw (← i.spelled) (sym (byte-kept base sized (tail_bytes i.tail) 3 (omega arith))) in
      reads_as (P.profiles_in body) i.tail (subst (λ (n : ℕ). Fine n i.tail) (sym (in_place i.setup i.fits).p ∙ p) i.fine)

  setup-there : setup_in version body ≡ setup_said base i.tail
  setup-there =
      let r = reads in
      let p = P.profiles_in body in
      let from : base_in body ≡ base = rw (← i.spelled) (base_there base (is_base i.setup i.fits) i.tail) in
      let unnamed : P.unnamed_in version ≡ unnamed_of i.tail = ap P.unnamed_in (sym i.version-is) ∙ unnamed-is i.tail in
      let tail : P.cycles_in p (tails_in body) ≡ cycles = ap (P.cycles_in p) there ∙ r.cycles-are in
      let family : P.family_in p (tails_in body) ≡ controls = ap (P.family_in p) there ∙ r.family-is in
      let syllabus : P.syllabus_in (tails_in body) ≡ syllabus_of i.tail = ap P.syllabus_in there ∙ r.syllabus-is in
      λ j. record { bytes = from j; tail = tail j; family = family j; syllabus = syllabus j; unnamed = unnamed j; written = [] }

  manner_there : P.manner_in body ≡ manner_said i.tail
  manner_there =
      let r = reads in
      let choice : P.choice_in (tails_in body) ≡ choice_said (choosing_of i.tail) = ap P.choice_in there ∙ r.choice-is in
      let dates : P.dates_in (tails_in body) ≡ dates_said (T.dates_of i.tail) = ap P.dates_in there ∙ r.dates-are in
      let card : P.card_in (P.profiles_in body) (tails_in body) ≡ card_said (T.families_of i.tail) = ap (P.card_in (P.profiles_in body)) there ∙ r.card_is in
      let scripts : P.scripts_in (P.profiles_in body) (tails_in body) ≡ scripts_in (scripting_of i.tail) =
      ap (P.scripts_in (P.profiles_in body)) there ∙ r.scripts-are in
      λ j. of (choice j) (dates j) (card j) (scripts j)

  -- and what the readers make of it
  manner_read : manner_in shape body ≡ manner_said i.tail
  manner_read =
      let choice : choice_in shape.selecting body ≡ choice_said (choosing_of i.tail) = rw (← i.spelled) (by (choosing_of i.tail) says.file) in
      λ j. of (choice j) (by-dates (T.dates_of i.tail) j) (by-family (T.families_of i.tail) j) (scripts_in (scripting_of i.tail))
    where
      by : (c : Choosing) → T.file_in (selecting c (length base)) (base ++ tail_bytes i.tail) ≡ file_of c
          → choice_in (selecting c (length base)) (base ++ tail_bytes i.tail) ≡ choice_said c
      by off e = refl
      by (on entries) e = ap (λ (f : List ℕ). by_file f (length entries)) e

      by-dates : (d : R.Dates) → dates_in (dating d (T.dates_at base (choosing_of i.tail))) ≡ dates_said d
      by-dates R.undated = refl
      by-dates (R.dated d) = refl

      by-family : (f : R.Families) → family_in (family_from f (T.families_at base (choosing_of i.tail) (T.dates_of i.tail))) ≡ card_said f
      by-family R.cpa = refl
      by-family (R.cpace f) = refl

-- ---- an accepted paper

module _ (paper : List ℕ) (a : Accepted paper) where
  abbrev i : IsInRange a.version a.body
  i = a.set_up_lem.fields

  -- what is read of its version and its set-up's body
  as_spelled : {A : Type 0} (f : (version : ℕ) (body : List ℕ) → A) → f (version_in paper) (body_in paper) ≡ f a.version a.body
  as_spelled f = ap₂ f (version-is paper a.version a.body a.rest a.opens) (body_is paper a.version a.body a.rest a.opens)

  -- THE SET-UP AND THE MANNER THAT ITS BYTES SAY ARE THOSE THAT ARE SPELLED THERE
  pub setup-is : setup_of paper ≡ setup_said (spelled_base i.setup) i.tail
  unfolding setup_of
  setup-is = as_spelled setup_in ∙ setup-there a.version a.body i

  pub manner_is : manner_of paper ≡ manner_said i.tail
  unfolding manner_of
  manner_is = as_spelled (λ version body. P.manner_in body) ∙ manner_there a.version a.body i

  -- it is one of those that the demands speak of
  pub good-setup : Bytes paper → AcceptedSetup (setup_of paper)
  good-setup bytes =
      let v = a.version in
      let b = a.body in
      let body_bytes = opened-bytes paper v b a.rest a.opens bytes in
      let form = shape v b i in
      let s = base v b i in
      let t = cycles v b i in
      let base-bytes : Bytes s = subst Bytes (base-is v b i) (bytes_take form.base b body_bytes) in
      let tail-bytes : Bytes t = subst Bytes (cycles-are v b i) (bytes-cycles form.dating b body_bytes) in
      let f = controls v b i in
      let family-bytes : Bytes f = subst Bytes (controls-are v b i) (bytes-family form.family b body_bytes) in
      let (base-taken, tail-taken, family-taken) = three s t f form.unnamed (good v b i) in
      rw setup-is
      (record {
        bytes = record { below = byte_small s base-bytes };
        tail-bytes = record { below = byte_small t tail-bytes };
        family-bytes = record { below = byte_small f family-bytes };
        taken = base-taken;
        tail-taken = tail-taken;
        family-taken = family-taken;
        written-taken = (unfold InRange in tt);
      })

-- where the conversation begins: the card, the rules, the manner of its commands and the place behind the set-up
pub record Begins (words paper : List ℕ) : Type 0 where
  pub shape : Shape
  pub at : ℕ
  pub begun-is : begun_of paper
      ≡ record {
        shape = shape;
        state = (fresh (setup_of paper)).state;
        at = at;
        event = SetUp;
      }
  pub rules : rules_of (words_begun words paper) ≡ rules_by (setup_of paper)
  pub lies : Lies shape.selecting paper
  pub manner : manner_in shape paper ≡ manner_of paper
  pub rest : drop at paper ≡ rest_in paper

pub begins : (words paper : List ℕ) → length words ≡ word_count → Bytes paper → Accepted paper → Begins words paper
unfolding begun_of setup_begun base_begun words_begun setup_words
begins words paper lent bytes a =
    let v = a.version in
    let b = a.body in
    let i = a.set_up_lem.fields in
    let form = shape v b i in
    let t = set_up_lem v b i a.set_up_lem.within in
    let r = O.opens paper v b a.rest a.opens in
    let base = base-is v b i in
    let cycles = cycles-are v b i in
    let family = controls-are v b i in
    record {
      shape = shape_at 4 form;
      at = 4 + length b;
      begun-is = rw (setup-is paper a, r.0, r.1, t.shape_is, t.log, base, cycles, family, started _ _ _ _ (good v b i));
      rules =
          rw (setup-is paper a, r.0, r.1, t.shape_is, t.log)
          (rules-are words paper v b a.rest a.opens form t bytes lent ∙ (λ j. rules_in (base j) (cycles j) (family j) form.syllabus));
      lies = lies_there words paper v b a.rest a.opens form t;
      manner = chooses words paper v b a.rest a.opens form t ∙ manner_read v b i ∙ sym (manner_is paper a);
      rest = r.2 ∙ sym (rest-is paper v b a.rest a.opens);
    }
