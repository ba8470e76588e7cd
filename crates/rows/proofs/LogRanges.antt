-- A spelled log is judged sound exactly if its fields are in their ranges and no entry reaches past its data, and past its data exactly if one
-- does. Assumes nothing.
use mathlib.Core.Path.{◌≡◌, refl, sym, ap, subst, ◌∙◌}
use mathlib.Core.Bool.{Bool, true, false, cond, not, ◌&&◌}
use mathlib.Core.List.{List, []}
use mathlib.Core.Logic.{◌↔◌, ◌⊎◌, inl, inr}
use Prim.Native.Nat.{ℕ, zero, suc, ◌+◌, ◌-◌, ◌*◌, ◌%◌, ◌≤◌, ◌<◌}
use native.Mathlib.Omega.{arith}
use borrow.Author.Tests.{le-leb, leb-true, ltb-true, ltb-false, eq-eqb, ne_eqb, eqb-true, eqb-false}
use lib.Dec.{leb, ltb, eqb}
use lib.ListN.{length, get_or}
use Rattle.wire.specs.Wire.{byte}
use Rattle.wire.proofs.Pairs.{both}
use Rattle.log_tail.specs.declared.Entry.{Entry}
use Rattle.log_tail.specs.LogTail.{flag_in, first_table, second_table, entry_in, data_of, reaches_past, all, are_flags, are_sources, are_within, is_in_range, is_within, judged}
use Rattle.log_tail.proofs.All.{not_all}
use Rattle.rows.specs.Tails.{LogEntry, Log, Logs, unlogged, logged, log_bytes, log_said, FineLogs}
use Rattle.rows.specs.InRange.{Each, LogsProfile, SourceUpTo, LogRange, LogsRange, data_long, EntryWithin, LogsWithin}
use Rattle.rows.specs.Offsets.{LogEntryOffsets, TableOffsets, LogOffsets}
use Rattle.rows.proofs.Places.{at_each, each_at}
use Rattle.rows.proofs.Logged.{log_in_place}
use Rattle.std.specs.Prelude.{Err, Ok}
use Rattle.log_tail.specs.declared.Fault.TheVariants.{PastData}
use Rattle.log_tail.specs.declared.Fault.TheVariants.{Wrong}

-- ---- so many are all so

all-at : (n : ℕ) (test : ℕ → Bool) → all n test ≡ true → (i : ℕ) → i < n → test i ≡ true
all-at n test a i h = by (test i) refl where
  by : (b : Bool) → test i ≡ b → test i ≡ true
  by true e = e
  by false e = absurd (let z : ◌≡◌ {A = ℕ} 0 1 = cc (a, not_all n i test h e) in omega arith)

at_all : (n : ℕ) (test : ℕ → Bool) → ((i : ℕ) → i < n → test i ≡ true) → all n test ≡ true
at_all zero test f = refl
at_all (suc n) test f = rw (at_all n test (λ i l. f i (omega arith)), f n (omega arith))

-- ---- a table's entries

abbrev as_entry : LogEntry → Entry
as_entry e = record { source = e.source; position = e.position; length = e.long }

abbrev none : LogEntry
none = record { source = 0; position = 0; long = 0 }

module _ (t : List ℕ) (at : ℕ) (es : List LogEntry) (o : TableOffsets t at es) where
  entry-is : (i : ℕ) → i < length es → entry_in t at i ≡ as_entry (get_or es i none)
  unfolding entry_in
  entry-is i l = let e = o.entries i l none in λ j. record { source = e.source j; position = e.position j; length = e.long j }

  -- a test of each
  tested : (P : LogEntry → Type 0) (test : Entry → Bool) → ((e : LogEntry) → (test (as_entry e) ≡ true) ↔ P e)
      → (all (byte t at) (λ i. test (entry_in t at i)) ≡ true) ↔ Each P es
  tested P test is =
      let each : ℕ → Bool = λ i. test (entry_in t at i) in
      let count = o.count in (
        λ a.
            each_at none P es
            (λ i l. (is (get_or es i none)).0 (ap test (sym (entry-is i l)) ∙ all-at (byte t at) each a i (omega arith))),
        λ h.
            at_all (byte t at) each
            (λ i l. let m : i < length es = omega arith in ap test (entry-is i m) ∙ (is (get_or es i none)).1 (at_each none P es h i m)),
      )

  sources_up_to : (highest : ℕ) → (are_sources t at highest ≡ true) ↔ Each (SourceUpTo highest) es
  unfolding are_sources
  sources_up_to highest =
      tested (SourceUpTo highest) (λ e. leb e.source highest) (λ e. (leb-true e.source highest, le-leb e.source highest))

  entries-within : (first : ℕ) → (are_within t at first ≡ true) ↔ Each (EntryWithin first) es
  unfolding are_within
  entries-within first = tested (EntryWithin first) (λ e. not (reaches_past e first)) (within_test first)
    where
      data_is : (first source position long : ℕ)
          → data_of (record { source = source; position = position; length = long }) first ≡ data_long first source
      data_is first zero position long = refl
      data_is first (suc source) position long = rw (ne_eqb (suc source) 0 (omega arith))

      by : (position sized end : ℕ) (nothing past : Bool) → eqb position 0 ≡ nothing → ltb sized end ≡ past
          → (not (not nothing && past) ≡ true) ↔ (0 < position → end ≤ sized)
      by position sized end true past e f = let z = eqb-true position 0 e in (λ _ h. absurd (omega arith), λ _. refl)
      by position sized end false false e f = (λ _ h. ltb-false sized end f, λ _. refl)
      by position sized end false true e f =
          let some = eqb-false position 0 e in
          let past = ltb-true sized end f in (
            λ x. absurd (let z : ◌≡◌ {A = ℕ} 0 1 = cc in omega arith),
            λ g. absurd (let w = g (omega (arith, some)) in omega arith),
          )

      within_test : (first : ℕ) (e : LogEntry) → (not (reaches_past (as_entry e) first) ≡ true) ↔ EntryWithin first e
      within_test first e =
          let p = e.position in
          let end = p - 1 + e.long in
          unfold reaches_past in
          rw (data_is first e.source p e.long) (by p (data_long first e.source) end (eqb p 0) (ltb (data_long first e.source) end) refl refl)

-- ---- a log

module _ (l : Log) where
  abbrev p : ℕ
  p = length l.profiles

  abbrev t : List ℕ
  t = log_bytes l

  o : LogOffsets t l
  o = log_in_place l

  second_at : second_table t p ≡ 3 + p + 1 + 3 * length l.firsts
  second_at = ap (λ (n : ℕ). 3 + p + 1 + 3 * n) o.firsts.count

  flags_in_range : (are_flags t p ≡ true) ↔ Each LogsProfile l.profiles
  unfolding are_flags
  flags_in_range =
      let test : ℕ → Bool = λ i. leb (flag_in t i) 1 in (
        λ a. each_at 0 LogsProfile l.profiles (λ i h. rw (o.profiles i h) at (leb-true (flag_in t i) 1 (all-at p test a i h))),
        λ e. at_all p test (λ i h. le-leb (flag_in t i) 1 (rw (o.profiles i h) (at_each 0 LogsProfile l.profiles e i h))),
      )

  log_in_range : (is_in_range t p ≡ true) ↔ LogRange l
  unfolding is_in_range
  log_in_range =
      let firsts = sources_up_to t (3 + p) l.firsts o.firsts 0 in
      let seconds = sources_up_to t (3 + p + 1 + 3 * length l.firsts) l.seconds o.seconds 1 in
      let size : Bool = leb l.size 20 in
      let switches : Bool = eqb (l.switches % 4) 0 in
      let flags : Bool = are_flags t p in
      let first : Bool = are_sources t (first_table p) 0 in
      let second : Bool = are_sources t (second_table t p) 1 in (
        λ e.
            let (head, tables) = both (size && switches && flags) (first && second) e in
            let (front, flagged) = both (size && switches) flags head in
            let (small, low) = both size switches front in
            let (one, two) = both first second tables in
            record {
              size = leb-true l.size 20 small;
              switches = eqb-true (l.switches % 4) 0 low;
              profiles = flags_in_range.0 flagged;
              firsts = firsts.0 one;
              seconds = seconds.0 (ap (λ (at : ℕ). are_sources t at 1) (sym second_at) ∙ two);
            },
        λ r.
            rw (
              le-leb l.size 20 r.size,
              eq-eqb (l.switches % 4) 0 r.switches,
              flags_in_range.1 r.profiles,
              firsts.1 r.firsts,
              second_at,
              seconds.1 r.seconds,
            ),
      )

  log-within : (first : ℕ) → (is_within t p first ≡ true) ↔ LogsWithin first (logged l)
  unfolding is_within
  log-within first =
      let firsts = entries-within t (3 + p) l.firsts o.firsts first in
      let seconds = entries-within t (3 + p + 1 + 3 * length l.firsts) l.seconds o.seconds first in (
        λ e.
            let (one, two) = both (are_within t (first_table p) first) (are_within t (second_table t p) first) e in
            (firsts.0 one, seconds.0 (ap (λ (at : ℕ). are_within t at first) (sym second_at) ∙ two)),
        λ (one, two). rw (firsts.1 one, second_at, seconds.1 two),
      )

-- a log that is off has no byte
nothing_in_range : (p : ℕ) → is_in_range [] p ≡ true
unfolding is_in_range are_flags are_sources
nothing_in_range p = rw (at_all p (λ i. leb (flag_in [] i) 1) (λ i h. refl))

nothing-past : (p first : ℕ) → is_within [] p first ≡ true
unfolding is_within are_within
nothing-past p first = refl

in_range_lem : (p : ℕ) (l : Logs) → FineLogs p l → (is_in_range (log_said l) p ≡ true) ↔ LogsRange l
in_range_lem p unlogged fine = (λ _. tt, λ _. nothing_in_range p)
in_range_lem p (logged l) fine = subst (λ (n : ℕ). (is_in_range (log_bytes l) n ≡ true) ↔ LogRange l) fine.0 (log_in_range l)

within : (p : ℕ) (l : Logs) → FineLogs p l → (first : ℕ) → (is_within (log_said l) p first ≡ true) ↔ LogsWithin first l
within p unlogged fine first = (λ _. tt, λ _. nothing-past p first)
within p (logged l) fine first = subst (λ (n : ℕ). (is_within (log_bytes l) n first ≡ true) ↔ LogsWithin first (logged l)) fine.0 (log-within l first)

module _ (p : ℕ) (l : Logs) (fine : FineLogs p l) (first : ℕ) where
  pub within_or_not : LogsWithin first l ⊎ (LogsWithin first l → ⊥)
  within_or_not = by (is_within (log_said l) p first) refl where
    by : (w : Bool) → is_within (log_said l) p first ≡ w → LogsWithin first l ⊎ (LogsWithin first l → ⊥)
    by true e = inl ((within p l fine first).0 e)
    by false e = inr (λ i. let z : ◌≡◌ {A = ℕ} 0 1 = cc (e, (within p l fine first).1 i) in omega arith)

  -- THE STATEMENTS
  pub sound_exactly : (judged (log_said l) p first ≡ Ok tt) ↔ (LogsRange l × LogsWithin first l)
  unfolding judged
  sound_exactly = (
    λ e. let (r, w) = by (is_in_range (log_said l) p) (is_within (log_said l) p first) e in ((in_range_lem p l fine).0 r, (within p l fine first).0 w),
    λ (r, w). rw ((in_range_lem p l fine).1 r, (within p l fine first).1 w),
  ) where
    by : (r w : Bool) → cond r (cond w (Ok (tt {0})) (Err PastData)) (Err Wrong) ≡ Ok tt → (r ≡ true) × (w ≡ true)
    by true true e = (refl, refl)
    by true false e = absurd (let z : ◌≡◌ {A = ℕ} 0 1 = cc in omega arith)
    by false w e = absurd (let z : ◌≡◌ {A = ℕ} 0 1 = cc in omega arith)

  pub past-exactly : (judged (log_said l) p first ≡ Err PastData) ↔ (LogsRange l × (LogsWithin first l → ⊥))
  unfolding judged
  past-exactly = (
    λ e.
        let (r, w) = by (is_in_range (log_said l) p) (is_within (log_said l) p first) e in
        ((in_range_lem p l fine).0 r, λ i. let z : ◌≡◌ {A = ℕ} 0 1 = cc (w, (within p l fine first).1 i) in omega arith),
    λ (r, none_is). rw ((in_range_lem p l fine).1 r) (back (is_within (log_said l) p first) refl none_is),
  ) where
    by : (r w : Bool) → cond r (cond w (Ok (tt {0})) (Err PastData)) (Err Wrong) ≡ Err PastData → (r ≡ true) × (w ≡ false)
    by true true e = absurd (let z : ◌≡◌ {A = ℕ} 0 1 = cc in omega arith)
    by true false e = (refl, refl)
    by false w e = absurd (let z : ◌≡◌ {A = ℕ} 0 1 = cc in omega arith)

    back : (w : Bool) → is_within (log_said l) p first ≡ w → (LogsWithin first l → ⊥) → cond w (Ok (tt {0})) (Err PastData) ≡ Err PastData
    back true e none_is = absurd (none_is ((within p l fine first).0 e))
    back false e none_is = refl
