-- The bytes of a log that is on: each field stands at the offset that docs/PAPERS.md gives, and they are spelled exactly if they are as long as its numbers
-- of entries say. Assumes nothing.
use mathlib.Core.Path.{◌≡◌, refl, sym, ap, ap₂, subst, subst₂, ◌∙◌}
use mathlib.Core.Bool.{Bool, true, false}
use mathlib.Core.List.{List, [], ◌∷◌, ◌++◌, append-nil, append_assoc}
use mathlib.Core.Logic.{◌⊎◌, inl, inr}
use Prim.Native.Nat.{ℕ, zero, suc, ◌+◌, ◌-◌, ◌*◌, ◌≤◌, ◌<◌}
use native.Mathlib.Nat.{add_assoc}
use native.Mathlib.Omega.{arith}
use borrow.Author.Tests.{eqb-true, eqb-false}
use lib.Dec.{eqb}
use lib.ListN.{length, get_or, take, drop, length-append, length-drop, take-append-drop, get_or-append}
use lib.Seq.{take_all, drop-drop, get_or-append_seam, get_or-append-add}
use Rattle.wire.specs.Wire.{byte}
use Rattle.rows.specs.Tails.{LogEntry, Log, Logs, unlogged, logged, entries_bytes, table_bytes, log_bytes, logs_bytes, FineLogs}
use Rattle.rows.specs.Offsets.{LogEntryOffsets, TableOffsets, LogOffsets}
use Rattle.rows.specs.Tails.{table_long, log_long, BadLog, no_log, log-above, behind-unlogged, log_length}
use Rattle.rows.proofs.Entries.{Small, more_than_one}

-- ---- there

pub entries-size : (es : List LogEntry) → length (entries_bytes es) ≡ 3 * length es
entries-size [] = refl
entries-size (e ∷ es) = let rest = entries-size es in omega arith

module _ (l : Log) (p : ℕ) (few : length l.profiles ≡ p) (rest : List ℕ) where
  abbrev second : List ℕ
  second = table_bytes l.seconds ++ rest

  abbrev first : List ℕ
  first = table_bytes l.firsts ++ second

  abbrev all : List ℕ
  all = 1 ∷ l.size ∷ l.switches ∷ l.profiles ++ first

  -- the number at the front of each table
  first-number : byte all (3 + p) ≡ length l.firsts
  first-number =
      let at : 3 + p ≡ suc (suc (suc (length l.profiles + 0))) = omega arith in
      ap (byte all) at ∙ get_or-append-add l.profiles first 0 0

  second-number : byte all (3 + p + (1 + 3 * length l.firsts)) ≡ length l.seconds
  second-number =
      let size = entries-size l.firsts in
      let at : 3 + p + (1 + 3 * length l.firsts) ≡ suc (suc (suc (length l.profiles + (length (table_bytes l.firsts) + 0)))) = omega arith in
      ap (byte all) at ∙ get_or-append-add l.profiles first (length (table_bytes l.firsts) + 0) 0 ∙ get_or-append-add (table_bytes l.firsts) second 0 0

  -- it is as long as they say
  pub log-size : length (log_bytes l) ≡ 3 + p + (1 + 3 * length l.firsts) + (1 + 3 * length l.seconds)
  log-size =
      let a = length-append l.profiles (table_bytes l.firsts ++ table_bytes l.seconds) in
      let b = length-append (table_bytes l.firsts) (table_bytes l.seconds) in
      let m = entries-size l.firsts in
      let n = entries-size l.seconds in
      omega arith

  pub log-says : log_long p all ≡ length (log_bytes l)
  log-says = rw (first-number, second-number) (sym log-size)

-- ---- each field at its place

further : (front s : List ℕ) (at : ℕ) (e : LogEntry) → LogEntryOffsets s at e → LogEntryOffsets (front ++ s) (length front + at) e
further front s at e o =
    let next : (k : ℕ) → byte (front ++ s) (length front + at + k) ≡ byte s (at + k) =
    λ k. ap (byte (front ++ s)) (add_assoc (length front) at k) ∙ get_or-append-add front s (at + k) 0 in
    record { source = get_or-append-add front s at 0 ∙ o.source; position = next 1 ∙ o.position; long = next 2 ∙ o.long }

entries_at : (es : List LogEntry) (rest : List ℕ) (i : ℕ) → i < length es → (d : LogEntry) → LogEntryOffsets (entries_bytes es ++ rest) (3 * i) (get_or es i d)
entries_at [] rest i h d = absurd (omega arith)
entries_at (e ∷ es) rest zero h d = record { source = refl; position = refl; long = refl }
entries_at (e ∷ es) rest (suc i) h d =
    let three : List ℕ = e.source ∷ e.position ∷ e.long ∷ [] in
    let place : length three + 3 * i ≡ 3 * suc i = omega arith in
    subst (λ (at : ℕ). LogEntryOffsets (three ++ (entries_bytes es ++ rest)) at (get_or es i d)) place
    (further three (entries_bytes es ++ rest) (3 * i) (get_or es i d) (entries_at es rest i (omega arith) d))

table_at : (front : List ℕ) (es : List LogEntry) (rest : List ℕ) → TableOffsets (front ++ (table_bytes es ++ rest)) (length front) es
table_at front es rest =
    record {
      count = get_or-append_seam front (length es) (entries_bytes es ++ rest) 0;
      entries =
          λ i l d.
          let number : List ℕ = length es ∷ [] in
          let place : length front + (length number + 3 * i) ≡ length front + 1 + 3 * i = omega arith in
          subst (λ (at : ℕ). LogEntryOffsets (front ++ (table_bytes es ++ rest)) at (get_or es i d)) place
          (further front (table_bytes es ++ rest) (length number + 3 * i) (get_or es i d)
          (further number (entries_bytes es ++ rest) (3 * i) (get_or es i d) (entries_at es rest i l d)));
    }

-- THE STATEMENT
pub log_in_place : (l : Log) → LogOffsets (log_bytes l) l
log_in_place l =
    let p = length l.profiles in
    let head : List ℕ = 1 ∷ l.size ∷ l.switches ∷ l.profiles in
    let firsts = table_bytes l.firsts in
    let seconds = table_bytes l.seconds in
    let first-place : length head ≡ 3 + p = omega arith in
    let second-place : length (head ++ firsts) ≡ 3 + p + 1 + 3 * length l.firsts =
    length-append head firsts ∙ omega (arith, entries-size l.firsts) in
    let joined : head ++ firsts ++ (seconds ++ []) ≡ log_bytes l =
    append_assoc head firsts (seconds ++ []) ∙ ap (λ (t : List ℕ). head ++ (firsts ++ t)) (append-nil seconds) in
    record {
      on = refl;
      size = refl;
      switches = refl;
      profiles =
          λ j h.
          let place : 3 + j ≡ suc (suc (suc j)) = omega arith in
          ap (byte (log_bytes l)) place ∙ get_or-append l.profiles (firsts ++ seconds) 0 j h;
      firsts = subst (λ (at : ℕ). TableOffsets (log_bytes l) at l.firsts) first-place (table_at head l.firsts seconds);
      seconds = subst₂ (λ (t : List ℕ) (at : ℕ). TableOffsets t at l.seconds) joined second-place (table_at (head ++ firsts) l.seconds []);
    }

-- ---- back

abbrev entries_of : (n : ℕ) (s : List ℕ) → List LogEntry
entries_of zero s = []
entries_of (suc n) s = record { source = byte s 0; position = byte s 1; long = byte s 2 } ∷ entries_of n (drop 3 s)

entries-count : (n : ℕ) (s : List ℕ) → length (entries_of n s) ≡ n
entries-count zero s = refl
entries-count (suc n) s = ap suc (entries-count n (drop 3 s))

pub cons_at : (s : List ℕ) (k : ℕ) → k < length s → drop k s ≡ byte s k ∷ drop (suc k) s
cons_at [] k h = absurd (omega arith)
cons_at (x ∷ s) zero h = refl
cons_at (x ∷ s) (suc k) h = cons_at s k (omega arith)

-- three and more
entries-there : (n : ℕ) (s : List ℕ) → 3 * n ≤ length s → entries_bytes (entries_of n s) ++ drop (3 * n) s ≡ s
entries-there zero s h = let none : 3 * 0 ≡ 0 = omega arith in ap (λ (k : ℕ). drop k s) none
entries-there (suc n) (a ∷ b ∷ c ∷ s) h =
    let more : 3 * suc n ≡ suc (suc (suc (3 * n))) = omega arith in
    let rest = entries-there n s (omega arith) in
    ap (λ (k : ℕ). a ∷ b ∷ c ∷ entries_bytes (entries_of n s) ++ drop k (a ∷ b ∷ c ∷ s)) more ∙ ap (λ (t : List ℕ). a ∷ b ∷ c ∷ t) rest
entries-there (suc n) [] h = absurd (omega arith)
entries-there (suc n) (a ∷ []) h = absurd (omega arith)
entries-there (suc n) (a ∷ b ∷ []) h = absurd (omega arith)

module _ (p : ℕ) (s : List ℕ) (small : Small s) (on : byte s 0 ≡ 1) (long : length s ≡ log_long p s) where
  abbrev n : ℕ
  n = byte s (3 + p)

  abbrev at : ℕ
  at = 3 + p + (1 + 3 * n)

  abbrev m : ℕ
  m = byte s at

  abbrev log : Log
  log =
      record {
        size = byte s 1;
        switches = byte s 2;
        profiles = take p (drop 3 s);
        firsts = entries_of n (drop (3 + p + 1) s);
        seconds = entries_of m (drop (at + 1) s);
      }

  last-there : entries_bytes (entries_of m (drop (at + 1) s)) ≡ drop (at + 1) s
  last-there =
      let t = drop (at + 1) s in
      let size : length t ≡ 3 * m = omega (arith, length-drop (at + 1) s) in
      let whole = entries-there m t (omega arith) in
      let none : drop (3 * m) t ≡ [] = nothing t (3 * m) (omega arith) in
      sym (joins_nothing _) ∙ ap (λ (r : List ℕ). entries_bytes (entries_of m t) ++ r) (sym none) ∙ whole
    where
      nothing : (t : List ℕ) (k : ℕ) → length t ≤ k → drop k t ≡ []
      nothing [] zero h = refl
      nothing [] (suc k) h = refl
      nothing (x ∷ t) zero h = absurd (omega arith)
      nothing (x ∷ t) (suc k) h = nothing t k (omega arith)

      joins_nothing : (t : List ℕ) → t ++ [] ≡ t
      joins_nothing [] = refl
      joins_nothing (x ∷ t) = ap (λ (r : List ℕ). x ∷ r) (joins_nothing t)

  second-there : table_bytes log.seconds ≡ drop at s
  second-there =
      let next : suc at ≡ at + 1 = omega arith in
      ap₂ ◌∷◌ (entries-count m (drop (at + 1) s)) (last-there ∙ ap (λ (k : ℕ). drop k s) (sym next)) ∙ sym (cons_at s at (omega arith))

  first-there : table_bytes log.firsts ++ drop at s ≡ drop (3 + p) s
  first-there =
      let t = drop (3 + p + 1) s in
      let whole = entries-there n t (omega (arith, length-drop (3 + p + 1) s)) in
      let to : 3 + p + 1 + 3 * n ≡ at = omega arith in
      let next : suc (3 + p) ≡ 3 + p + 1 = omega arith in
      let rest : drop at s ≡ drop (3 * n) t = ap (λ (k : ℕ). drop k s) (sym to) ∙ sym (drop-drop (3 * n) (3 + p + 1) s) in
      ap₂ (λ (k : ℕ) (r : List ℕ). k ∷ entries_bytes log.firsts ++ r) (entries-count n t) rest
      ∙ ap (λ (r : List ℕ). n ∷ r) (whole ∙ ap (λ (k : ℕ). drop k s) (sym next)) ∙ sym (cons_at s (3 + p) (omega arith))

  log-there : log_bytes log ≡ s
  log-there =
      let tables : table_bytes log.firsts ++ table_bytes log.seconds ≡ drop p (drop 3 s) =
      ap (λ (r : List ℕ). table_bytes log.firsts ++ r) second-there ∙ first-there ∙ sym (drop-drop p 3 s) in
      let rest : take p (drop 3 s) ++ (table_bytes log.firsts ++ table_bytes log.seconds) ≡ drop 3 s =
      ap (λ (r : List ℕ). take p (drop 3 s) ++ r) tables ∙ take-append-drop p (drop 3 s) in
      ap₂ (λ (k : ℕ) (r : List ℕ). k ∷ byte s 1 ∷ byte s 2 ∷ r) (sym on) rest
      ∙ ap (λ (r : List ℕ). byte s 0 ∷ byte s 1 ∷ r) (sym (cons_at s 2 (omega arith)))
      ∙ ap (λ (r : List ℕ). byte s 0 ∷ r) (sym (cons_at s 1 (omega arith))) ∙ sym (cons_at s 0 (omega arith))

  log-fine : FineLogs p (logged log)
  log-fine = (
    length_take p (drop 3 s) (omega (arith, length-drop 3 s)),
    rw (entries-count n (drop (3 + p + 1) s)) (small (3 + p)),
    rw (entries-count m (drop (at + 1) s)) (small at),
  ) where
    length_take : (k : ℕ) (t : List ℕ) → k ≤ length t → length (take k t) ≡ k
    length_take zero t h = refl
    length_take (suc k) [] h = absurd (omega arith)
    length_take (suc k) (x ∷ t) h = ap suc (length_take k t (omega arith))

-- ---- what stands behind the byte of scripts: a log, off or on, or a cause

pub record Ends (p : ℕ) (rest : List ℕ) : Type 0 where
  pub logs : Logs
  pub fine : FineLogs p logs
  pub joined : logs_bytes logs ≡ rest

pub log_or_not : (p : ℕ) (rest : List ℕ) → Small rest → Ends p rest ⊎ BadLog p rest
log_or_not p [] small = inr (no_log refl)
log_or_not p (x ∷ more) small = by (eqb x 0) refl (eqb x 1) refl (eqb (length (x ∷ more)) (log_long p (x ∷ more))) refl where
  off : (more : List ℕ) → x ≡ 0 → Ends p (x ∷ more) ⊎ BadLog p (x ∷ more)
  off [] z = inl (record { logs = unlogged; fine = tt; joined = ap (λ (k : ℕ). k ∷ []) (sym z) })
  off (y ∷ more) z = inr (behind-unlogged z (omega arith))

  by : (none : Bool) → eqb x 0 ≡ none → (some : Bool) → eqb x 1 ≡ some
      → (whole : Bool) → eqb (length (x ∷ more)) (log_long p (x ∷ more)) ≡ whole → Ends p (x ∷ more) ⊎ BadLog p (x ∷ more)
  by true e some f whole g = off more (eqb-true x 0 e)
  by false e true f true g =
      let on = eqb-true x 1 f in
      let long = eqb-true (length (x ∷ more)) (log_long p (x ∷ more)) g in
      inl (record {
        logs = logged (log p (x ∷ more) small on long);
        fine = log-fine p (x ∷ more) small on long;
        joined = log-there p (x ∷ more) small on long;
      })
  by false e true f false g = inr (log_length (eqb-true x 1 f) (eqb-false (length (x ∷ more)) (log_long p (x ∷ more)) g))
  by false e false f whole g = inr (log-above (more_than_one x e f))
