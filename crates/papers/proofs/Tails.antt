-- What stands behind the base of a set-up, read from its bytes, is what it was spelled from. Assumes nothing.
use mathlib.Core.Path.{◌≡◌, refl, sym, ap, ◌∙◌}
use mathlib.Core.Bool.{Bool, true, false, cond}
use mathlib.Core.List.{List, [], ◌∷◌, ◌++◌, append-nil, append_assoc}
use Prim.Native.Nat.{ℕ, suc, ◌+◌, ◌*◌}
use native.Mathlib.Omega.{arith}
use lib.Dec.{eqb}
use lib.ListN.{length, take, drop, length-append}
use lib.Seq.{take-append_seam, drop-append_seam, take_at, drop_at}
use Rattle.wire.specs.Wire.{byte}
use Rattle.rows.specs.Rows.{spelled, written, cycles_row, cycles_bytes, controls_row, controls_bytes}
use Rattle.rows.specs.Rows as R
use Rattle.rows.specs.Tails.{Choosing, off, on, file_bytes, choosing_bytes, dates_bytes, families_bytes, scripts_byte}
use Rattle.rows.specs.Tails.{Tail, first, second, third, fourth, fifth, sixth, seventh, logs_bytes, version_of, tail_bytes, choosing_of, syllabus_of, scripting_of, unnamed_of}
use Rattle.rows.specs.Tails.{FineDates, FineFamilies, Fine}
use Rattle.rows.specs.Tails as T
use Rattle.rows.proofs.Dated.{cycles-size}
use Rattle.rows.proofs.Family.{controls-size}
use Rattle.spelling.specs.Spelling.{Choice, by_name, by_file, Dates, undated, dated, CardFamily, cpa, cpace, Scripting, unscripted, scripted, Manner}
use Rattle.spelling.specs.Spelling.{scripts_in as scripts_said}
use Rattle.papers.specs.Papers.{entries_long, choice_in, behind_selection, syllabus_in, dates_in, cycles_in, card_in, family_in, scripts_in, unnamed_in}

-- how a Start chooses its profile, whether a First has a date, whose card it is, and whether scripts are on, where this is spelled
abbrev pub choice_said : Choosing → Choice
choice_said off = by_name
choice_said (on entries) = by_file (file_bytes entries) (length entries)

abbrev pub dates_said : R.Dates → Dates
dates_said R.undated = undated
dates_said (R.dated cycles) = dated

abbrev pub card_said : R.Families → CardFamily
card_said R.cpa = cpa
card_said (R.cpace controls) = cpace

abbrev pub manner_said : Tail → Manner
manner_said tail =
    record {
      choice = choice_said (choosing_of tail);
      dates = dates_said (T.dates_of tail);
      family = card_said (T.families_of tail);
      scripts = scripts_said (scripting_of tail);
    }

-- ---- the selection

-- entries are as long as they say
entries-long : (entries : List (List ℕ)) (rest : List ℕ) → entries_long (length entries) (file_bytes entries ++ rest) ≡ length (file_bytes entries)
unfolding entries_long
entries-long [] rest = refl
entries-long (e ∷ es) rest =
    let behind : drop (length e) ((e ++ file_bytes es) ++ rest) ≡ file_bytes es ++ rest =
    ap (drop (length e)) (append_assoc e (file_bytes es) rest) ∙ drop-append_seam e (file_bytes es ++ rest) in
    rw (behind, entries-long es rest) (omega (arith, length-append e (file_bytes es)))

chosen : (c : Choosing) (rest : List ℕ) → (choice_in (choosing_bytes c ++ rest) ≡ choice_said c) × (behind_selection (choosing_bytes c ++ rest) ≡ rest)
chosen off rest = (refl, refl)
chosen (on entries) rest =
    let file = file_bytes entries in
    let long = entries-long entries rest in
    let size : 2 + length file ≡ suc (suc (length file)) = omega arith in
    (rw (long, take-append_seam file rest), rw (long, size) (drop-append_seam file rest))

-- ---- the dates, the family behind them, and scripts behind that

-- what is said behind a selection
abbrev dates_from : List ℕ → Dates
dates_from s = cond (eqb (byte (drop 1 s) 0) 0) undated dated

abbrev cycles_from : (p : ℕ) → List ℕ → List ℕ
cycles_from p s = cond (eqb (byte (drop 1 s) 0) 0) [] (take (28 + 18 * p) (drop 1 s))

abbrev end_from : (p : ℕ) → List ℕ → List ℕ
end_from p s = drop (cond (eqb (byte (drop 1 s) 0) 0) 1 (28 + 18 * p)) (drop 1 s)

abbrev card_from : List ℕ → CardFamily
card_from s = cond (eqb (byte s 0) 0) cpa cpace

abbrev family_from : (p : ℕ) → List ℕ → List ℕ
family_from p s = cond (eqb (byte s 0) 0) [] (take (9 + p) s)

abbrev last_from : (p : ℕ) → List ℕ → List ℕ
last_from p s = drop (cond (eqb (byte s 0) 0) 1 (9 + p)) s

abbrev scripts_from : List ℕ → Scripting
scripts_from s = cond (eqb (byte s 0) 0) unscripted scripted

dates-there : (p syllabus : ℕ) (d : R.Dates) (rest : List ℕ) → FineDates p d
    → (dates_from (syllabus ∷ dates_bytes d ++ rest) ≡ dates_said d) × (cycles_from p (syllabus ∷ dates_bytes d ++ rest) ≡ cycles_bytes d)
    × (end_from p (syllabus ∷ dates_bytes d ++ rest) ≡ rest)
unfolding spelled written cycles_row
dates-there p syllabus R.undated rest fine = (refl, refl, refl)
dates-there p syllabus (R.dated cycles) rest fine =
    let t = cycles_bytes (R.dated cycles) in
    let size : length t ≡ 28 + 18 * p = cycles-size cycles ∙ ap (λ (n : ℕ). 28 + 18 * n) fine.1 in
    (refl, take_at t rest (28 + 18 * p) size, drop_at t rest (28 + 18 * p) size)

family-there : (p : ℕ) (f : R.Families) (rest : List ℕ) → FineFamilies p f
    → (card_from (families_bytes f ++ rest) ≡ card_said f) × (family_from p (families_bytes f ++ rest) ≡ controls_bytes f)
    × (last_from p (families_bytes f ++ rest) ≡ rest)
unfolding spelled written controls_row
family-there p R.cpa rest fine = (refl, refl, refl)
family-there p (R.cpace controls) rest fine =
    let t = controls_bytes (R.cpace controls) in
    let size : length t ≡ 9 + p = controls-size controls ∙ ap (λ (n : ℕ). 9 + n) fine.1 in
    (refl, take_at t rest (9 + p) size, drop_at t rest (9 + p) size)

scripts-there : (scripting : Bool) (rest : List ℕ) → scripts_from (scripts_byte scripting ∷ rest) ≡ scripts_said scripting
scripts-there true rest = refl
scripts-there false rest = refl

-- ---- all of them

pub record ReadsAs (p : ℕ) (tail : Tail) : Type 0 where
  pub choice-is : choice_in (tail_bytes tail) ≡ choice_said (choosing_of tail)
  pub syllabus-is : syllabus_in (tail_bytes tail) ≡ syllabus_of tail
  pub dates-are : dates_in (tail_bytes tail) ≡ dates_said (T.dates_of tail)
  pub cycles-are : cycles_in p (tail_bytes tail) ≡ cycles_bytes (T.dates_of tail)
  pub card_is : card_in p (tail_bytes tail) ≡ card_said (T.families_of tail)
  pub family-is : family_in p (tail_bytes tail) ≡ controls_bytes (T.families_of tail)
  pub scripts-are : scripts_in p (tail_bytes tail) ≡ scripts_said (scripting_of tail)

-- by what stands behind the selection
module _ (p : ℕ) (tail : Tail) where
  reads_by : (s : List ℕ) → choice_in (tail_bytes tail) ≡ choice_said (choosing_of tail) → behind_selection (tail_bytes tail) ≡ s
      → byte s 0 ≡ syllabus_of tail → dates_from s ≡ dates_said (T.dates_of tail) → cycles_from p s ≡ cycles_bytes (T.dates_of tail)
      → card_from (end_from p s) ≡ card_said (T.families_of tail) → family_from p (end_from p s) ≡ controls_bytes (T.families_of tail)
      → scripts_from (last_from p (end_from p s)) ≡ scripts_said (scripting_of tail) → ReadsAs p tail
  reads_by s choice behind syllabus dates cycles card family scripts =
      record {
        choice-is = choice;
        syllabus-is = ap (λ (t : List ℕ). byte t 0) behind ∙ syllabus;
        dates-are = ap dates_from behind ∙ dates;
        cycles-are = ap (cycles_from p) behind ∙ cycles;
        card_is = ap (λ (t : List ℕ). card_from (end_from p t)) behind ∙ card;
        family-is = ap (λ (t : List ℕ). family_from p (end_from p t)) behind ∙ family;
        scripts-are = ap (λ (t : List ℕ). scripts_from (last_from p (end_from p t))) behind ∙ scripts;
      }

pub reads_as : (p : ℕ) (tail : Tail) → Fine p tail → ReadsAs p tail
reads_as p first fine = reads_by p first [] refl refl refl refl refl refl refl refl
reads_as p (second c) fine =
    let nothing : choosing_bytes c ≡ choosing_bytes c ++ [] = sym (append-nil (choosing_bytes c)) in
    reads_by p (second c) [] (ap choice_in nothing ∙ (chosen c []).0) (ap behind_selection nothing ∙ (chosen c []).1) refl refl refl refl refl refl
reads_as p (third c syllabus) fine =
    let (choice, behind) = chosen c (syllabus ∷ []) in
    reads_by p (third c syllabus) (syllabus ∷ []) choice behind refl refl refl refl refl refl
reads_as p (fourth c syllabus d) fine =
    let (choice, behind) = chosen c (syllabus ∷ dates_bytes d) in
    let (dates, cycles, end) = dates-there p syllabus d [] fine.2 in
    let nothing : syllabus ∷ dates_bytes d ≡ syllabus ∷ dates_bytes d ++ [] = ap (λ (t : List ℕ). syllabus ∷ t) (sym (append-nil (dates_bytes d))) in
    reads_by p (fourth c syllabus d) (syllabus ∷ dates_bytes d ++ []) choice (behind ∙ nothing) refl dates cycles (ap card_from end) (ap (family_from p) end)
    (ap (λ (t : List ℕ). scripts_from (last_from p t)) end)
reads_as p (fifth c syllabus d f) fine =
    let (choice, behind) = chosen c (syllabus ∷ dates_bytes d ++ families_bytes f) in
    let (dates, cycles, end) = dates-there p syllabus d (families_bytes f) fine.2 in
    let nothing : families_bytes f ≡ families_bytes f ++ [] = sym (append-nil (families_bytes f)) in
    let (card, family, last) = family-there p f [] fine.3 in
    reads_by p (fifth c syllabus d f) (syllabus ∷ dates_bytes d ++ families_bytes f) choice behind refl dates cycles (ap card_from (end ∙ nothing) ∙ card)
    (ap (family_from p) (end ∙ nothing) ∙ family) (ap (λ (t : List ℕ). scripts_from (last_from p t)) (end ∙ nothing) ∙ ap scripts_from last)
reads_as p (sixth c syllabus d f scripting) fine =
    let tail = families_bytes f ++ scripts_byte scripting ∷ [] in
    let (choice, behind) = chosen c (syllabus ∷ dates_bytes d ++ tail) in
    let (dates, cycles, end) = dates-there p syllabus d tail fine.2 in
    let (card, family, last) = family-there p f (scripts_byte scripting ∷ []) fine.3 in
    reads_by p (sixth c syllabus d f scripting) (syllabus ∷ dates_bytes d ++ tail) choice behind refl dates cycles (ap card_from end ∙ card)
    (ap (family_from p) end ∙ family) (ap (λ (t : List ℕ). scripts_from (last_from p t)) end ∙ ap scripts_from last ∙ scripts-there scripting [])
reads_as p (seventh c syllabus d f scripting l) fine =
    let rest = logs_bytes l in
    let tail = families_bytes f ++ scripts_byte scripting ∷ rest in
    let (choice, behind) = chosen c (syllabus ∷ dates_bytes d ++ tail) in
    let (dates, cycles, end) = dates-there p syllabus d tail fine.2 in
    let (card, family, last) = family-there p f (scripts_byte scripting ∷ rest) fine.3 in
    reads_by p (seventh c syllabus d f scripting l) (syllabus ∷ dates_bytes d ++ tail) choice behind refl dates cycles (ap card_from end ∙ card)
    (ap (family_from p) end ∙ family) (ap (λ (t : List ℕ). scripts_from (last_from p t)) end ∙ ap scripts_from last ∙ scripts-there scripting rest)

pub unnamed-is : (tail : Tail) → unnamed_in (version_of tail) ≡ unnamed_of tail
unnamed-is first = refl
unnamed-is (second c) = refl
unnamed-is (third c syllabus) = refl
unnamed-is (fourth c syllabus d) = refl
unnamed-is (fifth c syllabus d f) = refl
unnamed-is (sixth c syllabus d f scripting) = refl
unnamed-is (seventh c syllabus d f scripting l) = refl
