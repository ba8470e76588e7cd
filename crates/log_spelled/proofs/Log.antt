-- THE LOG OF AN ACCEPTED PAPER IS READ AS ITS SET-UP IS SPELLED. Assumes nothing.
use mathlib.Core.Path.{◌≡◌, refl, sym, ap, subst, subst₂, ◌∙◌}
use mathlib.Core.Bool.{Bool, true, false, ◌&&◌, ◌||◌}
use mathlib.Core.List.{List, ◌++◌}
use Prim.Native.Nat.{ℕ, zero, suc, ◌+◌, ◌-◌, ◌≤◌, ◌<◌}
use native.Mathlib.Omega.{arith}
use borrow.Author.Tests.{le-leb}
use lib.Dec.{eqb}
use lib.ListN.{length, take, drop, get_or, length-append, length-take, length-drop, get_or-append}
use lib.Seq.{drop-append-le, take-append-le}
use Rattle.wire.specs.Wire.{byte}
use Rattle.rules.specs.Word.{word_count}
use Rattle.rules.specs.Rules.{Rules, rules_of}
use Rattle.shape.specs.declared.Shape.{Shape}
use Rattle.shape.specs.Shape.{span_at, family_at, tail_part, shape_at}
use Rattle.bodies.specs.Bodies.{is_cpace}
use Rattle.begun.specs.Begun.{base_begun}
use Rattle.opening.specs.Opening.{setup_begun, setup_words, begun_of, words_begun}
use Rattle.rows.specs.Rows.{Profile, Setup, Dates, undated, dated, Families, cpa, cpace, body as spelled_base}
use Rattle.rows.specs.Said.{rules_said, yes_if_one}
use Rattle.rows.specs.InRange.{InRange}
use Rattle.rows.specs.Tails.{Log as Fields, Logs, unlogged, logged, log_bytes, log_said, Tail, tail_bytes, choosing_of, syllabus_of, dates_of, families_of}
use Rattle.rows.specs.Tails.{logs_of, unnamed_of, dating, dates_at, family_from, families_at, logging_from, logs_at, shape_said}
use Rattle.rows.specs.Whole.{IsInRange, WholeSays}
use Rattle.rows.proofs.Placed.{in_place}
use Rattle.rows.proofs.Behind.{byte-kept}
use Rattle.rows.proofs.Whole.{is_base, reads_whole, whole_says}
use Rattle.journal.specs.declared.Logging.{Logging}
use Rattle.journal.specs.Journal.{is_logging}
use Rattle.journal.proofs.Profiles.{by-its-switch}
use Rattle.paper_log.specs.declared.Log.{Log}
use Rattle.paper_log.specs.Log.{is_dated, tail_at, logging_in, no_logging, form_of, tailed, log_of}
use Rattle.spelling.specs.Spelling.{paper_of}
use Rattle.spelling.proofs.Shapes.{record_is, part_drop}
use Rattle.spelling.proofs.Opening.{opens}
use Rattle.papers.specs.Papers.{Accepted}
use Rattle.papers.proofs.Setups.{set_up_lem}
use Rattle.log_spelled.specs.Spelled.{has_dates, has_controls, FormSaid, On, Off, LogsSaid, LogSaid}
use Rattle.log_spelled.proofs.Numbers.{number_at, number-there, apart}
use Rattle.std.specs.Prelude.{None, Option, Some}
use Rattle.shape.specs.declared.Span.{Span}

-- ---- what goes in, of four profiles

module _ (x : Setup) (dates : Dates) (families : Families) (syllabus : ℕ) (tail : List ℕ) where
  abbrev logging : Logging
  logging = logging_in (rules_said x dates families syllabus) tail

  number_read : (j : ℕ) → j < 4 → get_or logging.numbers j 0 ≡ number_at x.profiles j
  unfolding rules_said
  number_read zero h = refl
  number_read (suc zero) h = refl
  number_read (suc (suc zero)) h = refl
  number_read (suc (suc (suc zero))) h = refl
  number_read (suc (suc (suc (suc j)))) h = absurd (omega arith)

  switch-read : (j : ℕ) → j < 4 → get_or logging.logs j false ≡ yes_if_one (byte tail (3 + j))
  switch-read zero h = refl
  switch-read (suc zero) h = refl
  switch-read (suc (suc zero)) h = refl
  switch-read (suc (suc (suc zero))) h = refl
  switch-read (suc (suc (suc (suc j)))) h = absurd (omega arith)

  -- a profile logs as its own byte says
  profile-logs : (unnamed : ℕ) → InRange x unnamed → (j : ℕ) → j < length x.profiles → (d : Profile)
      → is_logging logging (get_or x.profiles j d).number ≡ yes_if_one (byte tail (3 + j))
  profile-logs unnamed range j h d =
      let few : j < 4 = omega (arith, range.profiles-most) in
      let number = number_read j few ∙ number-there x.profiles j h d in
      by-its-switch logging (get_or x.profiles j d).number j few number
      (λ i less other e.
      apart unnamed x.profiles range.profiles range.numbers j i h other (sym (number_read i less) ∙ e ∙ sym (number-there x.profiles j h d)))
      ∙ switch-read j few

none-logs : (profile : ℕ) → is_logging no_logging profile ≡ false
unfolding is_logging
none-logs profile = by (eqb 0 profile) where
  by : (b : Bool) → ((b && false) || (b && false) || (b && false) || (b && false)) ≡ false
  by true = refl
  by false = refl

-- ---- where the tail of a log that is on lies, in the body and in the paper

dated-read : (dates : Dates) (at : ℕ) → is_dated (span_at 4 (dating dates at)) ≡ has_dates dates
dated-read undated at = refl
dated-read (dated cycles) at = refl

cpace-read : (families : Families) (at : ℕ) → is_cpace (family_at 4 (family_from families at)) ≡ has_controls families
cpace-read cpa at = refl
cpace-read (cpace controls) at = refl

module _ (paper body rest : List ℕ) (behind-head : drop 4 paper ≡ body ++ rest) (long : length paper ≡ 4 + length body + length rest) where
  tail-there : (at : ℕ) (fields : Fields) → tail_part (logging_from (logged fields) at) body ≡ log_bytes fields
      → tail_at paper (4 + at) (4 + (at + length (log_bytes fields))) ≡ log_bytes fields
  tail-there at fields said =
      let n = length (log_bytes fields) in
      let size : length (take (at + n - at) (drop at body)) ≡ n = ap length said in
      let left = length-drop at body in
      let taken = length-take (at + n - at) (drop at body) in
      rw (le-leb (4 + at) (4 + (at + n)) (omega arith), le-leb (4 + (at + n)) (length paper) (omega arith))
      (part_drop paper 4 at (at + n)
      ∙ rw (behind-head, drop-append-le at body rest (omega arith)) (take-append-le (at + n - at) (drop at body) rest (omega arith))
      ∙ said)

-- ---- of an accepted paper

module _ (words paper : List ℕ) (lent : length words ≡ word_count) (a : Accepted paper) where
  abbrev i : IsInRange a.version a.body
  i = a.set_up_lem.fields

  abbrev x : Setup
  x = i.setup

  abbrev tail : Tail
  tail = i.tail

  abbrev form : Shape
  form = shape_said (spelled_base x) tail

  abbrev at : ℕ
  at = logs_at (spelled_base x) (choosing_of tail) (dates_of tail) (families_of tail)

  abbrev rules : Rules
  rules = rules_said x (dates_of tail) (families_of tail) (syllabus_of tail)

  says : WholeSays x tail a.version a.body
  says =
      subst₂ (WholeSays x tail) i.version-is i.spelled
      (whole_says x tail i.fits i.fine i.in_range_lem i.dates_in_range i.families_in_range i.logs_in_range a.set_up_lem.within)

  -- its rules and its shape, as the conversation has them
  rules-there : rules_of (words_begun words paper) ≡ rules
  unfolding words_begun setup_words
  rules-there =
      let r = opens paper a.version a.body a.rest a.opens in
      let t = set_up_lem a.version a.body i a.set_up_lem.within in
      rw (r.0, r.1, t.shape_is, t.log) (says.loaded words lent)

  shape-there : (begun_of paper).shape ≡ shape_at 4 form
  unfolding begun_of setup_begun base_begun
  shape-there =
      let r = opens paper a.version a.body a.rest a.opens in
      let t = set_up_lem a.version a.body i a.set_up_lem.within in
      rw (r.0, r.1, t.shape_is, t.log)

  behind-head : drop 4 paper ≡ a.body ++ a.rest
  behind-head = rw (a.opens.is, record_is 1 a.body)

  long : length paper ≡ 4 + length a.body + length a.rest
  long = rw (a.opens.is, record_is 1 a.body) (omega (arith, length-append a.body a.rest))

  profiles-there : byte paper 7 ≡ length x.profiles
  profiles-there =
      let sized = is_base x i.fits in
      let enough : 52 ≤ length a.body = omega (arith, sized, length-append (spelled_base x) (tail_bytes tail), ap length i.spelled) in
      let head : byte (paper_of a.version a.body a.rest) 7 ≡ byte (a.body ++ a.rest) 3 = rw (record_is 1 a.body) in
      ap (λ (s : List ℕ). byte s 7) a.opens.is
      ∙ head
      ∙ get_or-append a.body a.rest 0 3 (omega arith)
      ∙ ap (λ (s : List ℕ). byte s 3) (sym i.spelled)
      ∙ byte-kept (spelled_base x) sized (tail_bytes tail) 3 (omega arith)
      ∙ (in_place x i.fits).p

  -- what is read of it
  abbrev read : Option Span → Log
  read logging = tailed rules (shape_at 4 form) paper logging

  form-said : (logging : Option Span) → FormSaid x (dates_of tail) (families_of tail) (read logging)
  form-said logging = by logging where
    said : (log : Log) → log.form ≡ form_of (shape_at 4 form) paper → FormSaid x (dates_of tail) (families_of tail) log
    said log e =
        record {
          profiles = rw e profiles-there;
          dated-is = rw e (dated-read (dates_of tail) (dates_at (spelled_base x) (choosing_of tail)));
          cpace-is = rw e (cpace-read (families_of tail) (families_at (spelled_base x) (choosing_of tail) (dates_of tail)));
        }

    by : (logging : Option Span) → FormSaid x (dates_of tail) (families_of tail) (read logging)
    by None = said (read None) refl
    by (Some part) = said (read (Some part)) refl

  logs-said : (logs : Logs) → tail_part (logging_from logs at) a.body ≡ log_said logs → LogsSaid x logs paper (read (span_at 4 (logging_from logs at)))
  logs-said unlogged said = record { no_slot = refl; no_profile_lem = none-logs }
  logs-said (logged fields) said =
      let there = tail-there paper a.body a.rest behind-head long at fields said in
      record {
        size = ap (λ (t : List ℕ). byte t 1) there;
        switches = ap (λ (t : List ℕ). byte t 2) there;
        logs =
            λ j h d.
            profile-logs x (dates_of tail) (families_of tail) (syllabus_of tail) (tail_at paper (4 + at) (4 + (at + length (log_bytes fields)))) (unnamed_of tail) i.in_range_lem j h d
            ∙ ap (λ (t : List ℕ). yes_if_one (byte t (3 + j))) there;
        tail = there;
      }

  -- THE STATEMENT
  pub log-said : LogSaid x tail paper (log_of (rules_of (words_begun words paper)) (begun_of paper).shape paper)
  unfolding log_of
  log-said =
      let part : tail_part (logging_from (logs_of tail) at) a.body ≡ log_said (logs_of tail) =
      subst (λ (s : List ℕ). tail_part (logging_from (logs_of tail) at) s ≡ log_said (logs_of tail)) i.spelled
      (reads_whole x tail i.fits i.fine).log in
      rw (rules-there, shape-there)
      (record { form = form-said (span_at 4 (logging_from (logs_of tail) at)); logs = logs-said (logs_of tail) part })
