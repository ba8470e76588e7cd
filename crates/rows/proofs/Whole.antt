-- What is taken as a set-up, base and tail, is exactly what is spelled from fields in their ranges. Assumes nothing.
use mathlib.Core.Path.{◌≡◌, refl, sym, ap, ap₂, subst, ◌∙◌}
use mathlib.Core.Bool.{true}
use mathlib.Core.List.{List, ◌++◌}
use mathlib.Core.Logic.{◌↔◌, ◌⊎◌, inl, inr}
use Prim.Native.Nat.{ℕ, ◌≤◌, ◌<◌}
use native.Mathlib.Omega.{arith}
use lib.ListN.{length}
use Rattle.wire.specs.Wire.{byte}
use Rattle.tails.specs.Tails.{are_cycles, is_family}
use Rattle.rules.specs.Rules.{rules_of}
use Rattle.setup.specs.declared.ReadSetup.{ReadSetup}
use Rattle.setup.specs.Setup.{is_accepted, read_setup, words_after, setup_number}
use Rattle.setup.proofs.Faithful.{Bytes}
use Rattle.log_tail.specs.LogTail.{judged}
use Rattle.bodies.specs.Bodies.{first_length}
use Rattle.shape.specs.declared.Shape.{Shape}
use Rattle.shape.specs.Shape.{base_part, tail_part, family_part, shape_of, shape_number}
use Rattle.rows.specs.Rows.{Setup, Fits, setup_row, body, Dates, undated, dated, cycles_bytes, Families, cpa, cpace, controls_bytes}
use Rattle.rows.specs.Said.{fresh_said, Says}
use Rattle.rows.specs.InRange.{InRange, DatesRange, FamiliesRange, LogsRange, first_long}
use Rattle.rows.specs.Tails.{Tail, first, second, third, fourth, fifth, sixth, seventh, choosing_of, syllabus_of, dates_of, families_of, logs_of, unnamed_of}
use Rattle.rows.specs.Tails.{version_of, tail_bytes, Base, FineDates, FineFamilies, FineLogs, Fine, dating, dates_at, family_from, families_at, log_said}
use Rattle.rows.specs.Tails.{shape_said, TailSays, IsSpelled}
use Rattle.rows.specs.Whole.{whole_body, IsInRange, Within, IsSetup, IsPast, read_whole, log_whole, IsTaken, WholeSays}
use Rattle.rows.proofs.Placed.{body-size, in_place}
use Rattle.rows.proofs.Fields.{reads_fields}
use Rattle.rows.proofs.Unspelled.{spelled_if_accepted}
use Rattle.rows.proofs.Ranges.{accepted_in_range, three, all-accepted, setup-taken}
use Rattle.rows.proofs.DatedRanges.{dates_in_range}
use Rattle.rows.proofs.FamilyRanges.{families_in_range}
use Rattle.rows.proofs.LogRanges.{within_or_not, sound_exactly, past-exactly}
use Rattle.rows.proofs.Entries.{small-take}
use Rattle.rows.proofs.Behind.{byte-kept, reads_tails}
use Rattle.rows.proofs.Causes.{tails_if_read}
use Rattle.std.specs.Prelude.{Err, Ok, Result}
use Rattle.log_tail.specs.declared.Fault.{Fault}
use Rattle.log_tail.specs.declared.Fault.TheVariants.{PastData}

-- a spelled set-up is a base
pub is_base : (x : Setup) → Fits (setup_row x) → Base (body x)
is_base x fits = let o = in_place x fits in rw (o.p, o.c) (body-size x)

-- where there are dates, there is a row of rules for each profile, on a CPACE card a cashback check, and with a log a byte
fine-dates : (p : ℕ) (tail : Tail) → Fine p tail → FineDates p (dates_of tail)
fine-dates p first fine = tt
fine-dates p (second choosing) fine = tt
fine-dates p (third choosing syllabus) fine = tt
fine-dates p (fourth choosing syllabus dates) fine = fine.2
fine-dates p (fifth choosing syllabus dates families) fine = fine.2
fine-dates p (sixth choosing syllabus dates families scripting) fine = fine.2
fine-dates p (seventh choosing syllabus dates families scripting logs) fine = fine.2

fine-families : (p : ℕ) (tail : Tail) → Fine p tail → FineFamilies p (families_of tail)
fine-families p first fine = tt
fine-families p (second choosing) fine = tt
fine-families p (third choosing syllabus) fine = tt
fine-families p (fourth choosing syllabus dates) fine = tt
fine-families p (fifth choosing syllabus dates families) fine = fine.3
fine-families p (sixth choosing syllabus dates families scripting) fine = fine.3
fine-families p (seventh choosing syllabus dates families scripting logs) fine = fine.3

fine-logs : (p : ℕ) (tail : Tail) → Fine p tail → FineLogs p (logs_of tail)
fine-logs p first fine = tt
fine-logs p (second choosing) fine = tt
fine-logs p (third choosing syllabus) fine = tt
fine-logs p (fourth choosing syllabus dates) fine = tt
fine-logs p (fifth choosing syllabus dates families) fine = tt
fine-logs p (sixth choosing syllabus dates families scripting) fine = tt
fine-logs p (seventh choosing syllabus dates families scripting logs) fine = fine.4

-- First's data is as long as the tails say, wherever they stand
first-long : (dates : Dates) (families : Families) (at behind : ℕ) → first_length (dating dates at) (family_from families behind) ≡ first_long dates families
first-long undated cpa at behind = refl
first-long (dated d) cpa at behind = refl
first-long undated (cpace f) at behind = refl
first-long (dated d) (cpace f) at behind = refl

-- a base, a tail of version 04 and one of version 05, and what is made of them
same_read : {A : Type 0} (made : (s t u : List ℕ) → A) {s s' t t' u u' : List ℕ} → s ≡ s' → t ≡ t' → u ≡ u' → made s t u ≡ made s' t' u'
same_read made e f g = λ i. made (e i) (f i) (g i)

module _ (x : Setup) (tail : Tail) (fits : Fits (setup_row x)) (fine : Fine (length x.profiles) tail) where
  abbrev p : ℕ
  p = length x.profiles

  abbrev unnamed : ℕ
  unnamed = unnamed_of tail

  abbrev cycles : List ℕ
  cycles = cycles_bytes (dates_of tail)

  abbrev controls : List ℕ
  controls = controls_bytes (families_of tail)

  pub reads_whole : TailSays (body x) tail (whole_body x tail)
  reads_whole = reads_tails (body x) tail (is_base x fits) (rw (in_place x fits).p fine)

  abbrev shape : Shape
  shape = shape_said (body x) tail

  abbrev long : ℕ
  long = first_long (dates_of tail) (families_of tail)

  -- its log is judged as it was spelled
  log-read : log_whole shape (whole_body x tail) ≡ judged (log_said (logs_of tail)) p long
  log-read =
      let profiles : byte (whole_body x tail) 3 ≡ p = byte-kept (body x) (is_base x fits) (tail_bytes tail) 3 (omega arith) ∙ (in_place x fits).p in
      let first : first_length shape.dating shape.family ≡ long =
      first-long (dates_of tail) (families_of tail) (dates_at (body x) (choosing_of tail)) (families_at (body x) (choosing_of tail) (dates_of tail)) in
      λ i. judged (reads_whole.log i) (profiles i) (first i)

  pub log_sound : (log_whole shape (whole_body x tail) ≡ Ok tt) ↔ (LogsRange (logs_of tail) × Within tail)
  log_sound = let j = sound_exactly p (logs_of tail) (fine-logs p tail fine) long in (λ e. j.0 (sym log-read ∙ e), λ r. log-read ∙ j.1 r)

  pub log-past : (log_whole shape (whole_body x tail) ≡ Err PastData) ↔ (LogsRange (logs_of tail) × (Within tail → ⊥))
  log-past = let j = past-exactly p (logs_of tail) (fine-logs p tail fine) long in (λ e. j.0 (sym log-read ∙ e), λ r. log-read ∙ j.1 r)

  -- base and tails are accepted exactly if their fields are in their ranges
  pub all_in_range : (is_accepted (body x) cycles controls unnamed ≡ true) ↔ (InRange x unnamed × DatesRange (dates_of tail) × FamiliesRange (families_of tail))
  all_in_range =
      let base = accepted_in_range x fits unnamed in
      let dates : InRange x unnamed → (are_cycles cycles ≡ true) ↔ DatesRange (dates_of tail) =
      λ r. dates_in_range p (dates_of tail) (fine-dates p tail fine) r.profiles-most in
      let family : InRange x unnamed → (is_family controls ≡ true) ↔ FamiliesRange (families_of tail) =
      λ r. families_in_range p (families_of tail) (fine-families p tail fine) r.profiles-most in (
        λ e.
            let (b, t, u) = three (body x) cycles controls unnamed e in
            let r = base.0 b in
            (r, (dates r).0 t, (family r).0 u),
        λ (r, d, f). rw (base.1 r, (dates r).1 d, (family r).1 f),
      )

  module _ (range : InRange x unnamed) (days : DatesRange (dates_of tail)) (family : FamiliesRange (families_of tail)) where
    good : is_accepted (body x) cycles controls unnamed ≡ true
    good = all_in_range.1 (range, days, family)

    says : Says x (dates_of tail) (families_of tail) (body x) cycles controls
    says = reads_fields x (dates_of tail) (families_of tail) fits (fine-dates p tail fine) (fine-families p tail fine)

    answers : read_whole shape (whole_body x tail) ≡ record { fresh = fresh_said x (dates_of tail); answer = Ok tt }
    answers =
        same_read (λ b t u. read_setup b t u unnamed) reads_whole.base-is reads_whole.cycles reads_whole.family ∙ says.read unnamed good

    -- THE STATEMENT: a whole body spelled from fields in their ranges, with a log within its data, is taken, and says what was spelled
    pub whole_says : LogsRange (logs_of tail) → Within tail → WholeSays x tail (version_of tail) (whole_body x tail)
    whole_says logs within =
        let tails = reads_whole in
        record {
          shape_is = tails.read;
          answered = answers;
          loaded =
              λ words size.
              same_read (λ b t u. rules_of (words_after words b t u (syllabus_of tail) unnamed)) tails.base-is tails.cycles tails.family
              ∙ says.loaded (syllabus_of tail) unnamed words size good;
          log = log_sound.1 (logs, within);
        }

module _ (version : ℕ) (s : List ℕ) (bytes : Bytes s) (least : 1 ≤ version) (most : version ≤ 7) where
  -- a shape that was taken is the one that was spelled
  record Kept (t : IsSpelled version s) (shape : Shape) : Type 0 where
    shape_is : shape_said t.base t.tail ≡ shape
    base-is : base_part shape s ≡ t.base
    cycles-is : tail_part shape.dating s ≡ cycles_bytes (dates_of t.tail)
    family-is : family_part shape.family s ≡ controls_bytes (families_of t.tail)

  kept : (t : IsSpelled version s) (shape : Shape) → shape_of version s ≡ Ok shape → Kept t shape
  kept t shape e =
      let says = reads_tails t.base t.tail t.sized t.fine in
      let read : shape_of version s ≡ Ok (shape_said t.base t.tail) = rw (← t.version-is, ← t.joined) says.read in
      let same : shape_said t.base t.tail ≡ shape = cc in
      record {
        shape_is = same;
        base-is = rw (← same, ← t.joined) says.base-is;
        cycles-is = rw (← same, ← t.joined) says.cycles;
        family-is = rw (← same, ← t.joined) says.family;
      }

  -- what is taken is spelled so, and by what is found of its log
  there : (found : Result Unit Fault) (Q : Tail → Type 0)
      → ((x : Setup) (tail : Tail) → Fits (setup_row x) → Fine (length x.profiles) tail
      → log_whole (shape_said (body x) tail) (whole_body x tail) ≡ found → LogsRange (logs_of tail) × Q tail)
      → IsTaken found version s → (i : IsInRange version s) × Q i.tail
  there verdict Q logged taken =
      let shape = taken.shape in
      let t = tails_if_read version s bytes least most (ap shape_number taken.shape_is) in
      let k = kept t shape taken.shape_is in
      let unnamed = unnamed_of t.tail in
      let days = cycles_bytes (dates_of t.tail) in
      let family = controls_bytes (families_of t.tail) in
      let named : shape.unnamed ≡ unnamed = ap (λ (sh : Shape). sh.unnamed) (sym k.shape_is) in
      let number : setup_number (read_setup t.base days family unnamed).answer ≡ 0 =
      same_read (λ b c u. setup_number (read_setup b c u unnamed).answer) (sym k.base-is) (sym k.cycles-is) (sym k.family-is)
      ∙ ap (λ n. setup_number (read_setup (base_part shape s) (tail_part shape.dating s) (family_part shape.family s) n).answer) (sym named)
      ∙ taken.base in
      let good = (all-accepted t.base days family unnamed).1 ((setup-taken t.base days family unnamed).0 number) in
      let small : Bytes t.base = record { below = subst (λ (b : List ℕ). (i : ℕ) → byte b i < 256) k.base-is (small-take s bytes.below shape.base) } in
      let (x, fits, is) = spelled_if_accepted t.base small unnamed (three t.base days family unnamed good).0 in
      let fine : Fine (length x.profiles) t.tail = subst (λ n. Fine n t.tail) (ap (λ (b : List ℕ). byte b 3) (sym is) ∙ (in_place x fits).p) t.fine in
      let (range, dates, controls) = (all_in_range x t.tail fits fine).0 (ap (λ (b : List ℕ). is_accepted b days family unnamed) is ∙ good) in
      let joined : whole_body x t.tail ≡ s = ap (λ (b : List ℕ). b ++ tail_bytes t.tail) is ∙ t.joined in
      let shaped : shape_said (body x) t.tail ≡ shape = ap (λ (b : List ℕ). shape_said b t.tail) is ∙ k.shape_is in
      let (logs, q) = logged x t.tail fits fine (ap₂ log_whole shaped joined ∙ taken.log) in (
        record {
          setup = x;
          tail = t.tail;
          version-is = t.version-is;
          fits = fits;
          in_range_lem = range;
          fine = fine;
          dates_in_range = dates;
          families_in_range = controls;
          logs_in_range = logs;
          spelled = joined;
        },
        q,
      )

  back : (found : Result Unit Fault) (i : IsInRange version s) → log_whole (shape_said (body i.setup) i.tail) (whole_body i.setup i.tail) ≡ found
      → IsTaken found version s
  back verdict i log =
      let shape = shape_said (body i.setup) i.tail in
      let answered = answers i.setup i.tail i.fits i.fine i.in_range_lem i.dates_in_range i.families_in_range in
      record {
        shape = shape;
        shape_is = rw (← i.version-is, ← i.spelled) (reads_whole i.setup i.tail i.fits i.fine).read;
        base = ap (λ (t : List ℕ). setup_number (read_whole shape t).answer) (sym i.spelled) ∙ ap (λ (r : ReadSetup). setup_number r.answer) answered;
        log = ap (log_whole shape) (sym i.spelled) ∙ log;
      }

  -- THE STATEMENT
  pub taken_if_spelled : IsTaken (Ok tt) version s ↔ IsSetup version s
  taken_if_spelled = (
    λ taken. let (i, within) = there (Ok tt) Within (λ x tail fits fine. (log_sound x tail fits fine).0) taken in record { fields = i; within = within },
    λ i. let f = i.fields in back (Ok tt) f ((log_sound f.setup f.tail f.fits f.fine).1 (f.logs_in_range, i.within)),
  )

  -- AND WHAT IS TAKEN BUT FOR A LOG THAT REACHES PAST ITS DATA
  pub past_if_spelled : IsTaken (Err PastData) version s ↔ IsPast version s
  past_if_spelled = (
    λ taken.
        let (i, past) = there (Err PastData) (λ tail. Within tail → ⊥) (λ x tail fits fine. (log-past x tail fits fine).0) taken in
        record { fields = i; past = past },
    λ i. let f = i.fields in back (Err PastData) f ((log-past f.setup f.tail f.fits f.fine).1 (f.logs_in_range, i.past)),
  )

-- fields in their ranges are a set-up's, or 14
pub set_up_or_past : (version : ℕ) (s : List ℕ) → IsInRange version s → IsSetup version s ⊎ IsPast version s
set_up_or_past version s i =
    let p = length i.setup.profiles in
    by (within_or_not p (logs_of i.tail) (fine-logs p i.tail i.fine) (first_long (dates_of i.tail) (families_of i.tail)))
  where
    by : Within i.tail ⊎ (Within i.tail → ⊥) → IsSetup version s ⊎ IsPast version s
    by (inl within) = inl (record { fields = i; within = within })
    by (inr past) = inr (record { fields = i; past = past })
