-- What follows the base, read as it was spelled. Assumes nothing.
use mathlib.Core.Path.{◌≡◌, refl, sym, ap, subst, ◌∙◌}
use mathlib.Core.Bool.{Bool, true, false, cond}
use mathlib.Core.List.{List, [], ◌∷◌, ◌++◌, append_assoc, append-nil}
use Prim.Native.Nat.{ℕ, suc, ◌+◌, ◌-◌, ◌*◌, ◌^◌, ◌≤◌, ◌<◌}
use native.Mathlib.Nat.{add-zero}
use native.Mathlib.Omega.{arith}
use borrow.Author.Tests.{lt-leb, le-ltb, eq-eqb, eqb-true}
use lib.Dec.{eqb, ltb}
use lib.ListN.{length, take, drop, length-append, get_or-append}
use lib.Seq.{length-take-le, get_or-take, get_or-drop, take_at, drop_at, get_or_at, get_or-append_seam, get_or-append-add, drop-append-add, drop-drop, take_all}
use Rattle.wire.specs.Wire.{byte}
use Rattle.selection.specs.Selection.{is_file}
use Rattle.shape.specs.declared.Family.TheVariants.{Cpa}
use Rattle.shape.specs.declared.Shape.{Shape}
use Rattle.shape.specs.Shape.{based, base_tail, entries_end, selection_tail, follows, syllabus_tail, dates, dating_tail, tail_part, families, family_tail}
use Rattle.shape.specs.Shape.{family_part, scripts, scripting_tail, logs, log_end, logging_tail, behind, tails_of, whole, shape_of}
use Rattle.shape.proofs.Files.{file-ends}
use Rattle.rows.specs.Rows.{Dates, undated, dated, cycles_bytes, Families, cpa, cpace, controls_bytes}
use Rattle.rows.specs.Tails.{Choosing, off, on, file_bytes, choosing_bytes, dates_bytes, families_bytes, scripts_byte}
use Rattle.rows.specs.Tails.{Tail, first, second, third, fourth, fifth, sixth, seventh, tail_bytes, FineDates}
use Rattle.rows.specs.Tails.{FineFamilies, Fine, base_length, Base, selecting, file_in, file_of, dating, dates_at, family_from}
use Rattle.rows.specs.Tails.{families_at, shape_said, TailSays, Log, Logs, unlogged, logged, table_bytes, log_bytes, logs_bytes, FineLogs, logging_from, log_said}
use Rattle.rows.specs.Tails.{table_long, log_long}
use Rattle.rows.proofs.Dated.{cycles-size, cycles_in_place}
use Rattle.rows.proofs.Family.{controls-size, controls_in_place}
use Rattle.rows.proofs.Entries.{file-read}
use Rattle.rows.proofs.Logged.{log-says}
use Rattle.std.specs.Prelude.{None, Ok, Option}
use Rattle.shape.specs.Shape.{ended_at}
use Rattle.shape.specs.declared.Tails.{Tails}

file-there : (base : List ℕ) (c : Choosing) (rest : List ℕ) → file_in (selecting c (length base)) (base ++ (choosing_bytes c ++ rest)) ≡ file_of c
file-there base off rest = refl
file-there base (on es) rest =
    let size : length base + 2 + length (file_bytes es) - (length base + 2) ≡ length (file_bytes es) = omega arith in
    let behind : List ℕ = 1 ∷ length es ∷ file_bytes es ++ rest in
    let there : drop (length base + 2) (base ++ behind) ≡ file_bytes es ++ rest = drop-append-add base behind 2 in
    rw (size, there) (take_at (file_bytes es) rest (length (file_bytes es)) refl)

module _ (base : List ℕ) (sized : length base ≡ base_length base) (tail : List ℕ) where
  pub byte-kept : (k : ℕ) → k < 52 → byte (base ++ tail) k ≡ byte base k
  byte-kept k h = get_or-append base tail 0 k (omega arith)

  pub length_kept : base_length (base ++ tail) ≡ length base
  length_kept = rw (byte-kept 3 (omega arith), byte-kept 4 (omega arith)) (sym sized)

  pub base_read : base_tail (base ++ tail) ≡ ended_at (based (length base)) (length base)
  unfolding base_tail
  base_read = rw (length_kept, le-ltb (length (base ++ tail)) (length base) (omega (arith, length-append base tail)))

  base_there : take (length base) (base ++ tail) ≡ base
  base_there = take_at base tail (length base) refl

-- a body that is long enough begins with a base
pub base-sized : (body : List ℕ) → base_length body ≤ length body → Base (take (base_length body) body)
base-sized body more =
    let base = take (base_length body) body in
    let size = length-take-le (base_length body) body (omega arith) in
    let p : byte base 3 ≡ byte body 3 = get_or-take (base_length body) body 3 0 (omega arith) in
    let c : byte base 4 ≡ byte body 4 = get_or-take (base_length body) body 4 0 (omega arith) in
    omega arith

pub some_bytes : (c : Choosing) → 1 ≤ length (choosing_bytes c)
some_bytes off = omega arith
some_bytes (on es) = omega arith

-- where the selection's tail ends
abbrev pub choosing_end : List ℕ → Choosing → ℕ
choosing_end base c = length base + length (choosing_bytes c)

abbrev pub chosen : List ℕ → Choosing → Shape
chosen base c =
    record {
      base = length base;
      selecting = selecting c (length base);
      syllabus = 0;
      dating = None;
      family = Cpa;
      scripting = false;
      logging = None;
      unnamed = 2 ^ 22;
    }

pub choosing-read : (base : List ℕ) (c : Choosing) (rest : List ℕ)
    → selection_tail (base ++ (choosing_bytes c ++ rest)) (based (length base)) (length base) ≡ ended_at (chosen base c) (choosing_end base c)
unfolding selection_tail
choosing-read base off rest =
    let body = base ++ (0 ∷ rest) in
    let long = length-append base (0 ∷ rest) in
    rw (get_or-append_seam base 0 rest 0, lt-leb (length body) (length base) (omega arith))
choosing-read base (on es) rest =
    let tail = 1 ∷ length es ∷ file_bytes es ++ rest in
    let body = base ++ tail in
    let end = length base + 2 + length (file_bytes es) in
    let long : length body ≡ end + length rest = omega (arith, length-append base tail, length-append (file_bytes es) rest) in
    let switch : byte body (length base) ≡ 1 = get_or-append_seam base 1 (length es ∷ file_bytes es ++ rest) 0 in
    let count : byte body (length base + 1) ≡ length es = get_or-append-add base tail 1 0 in
    let ends : entries_end body (length base + 2) (length es) ≡ end =
    eqb-true (entries_end body (length base + 2) (length es)) end
    (sym (file-ends body end (omega arith) (length es) (length base + 2) (omega arith))
    ∙ ap (λ (f : List ℕ). is_file f (length es)) (file-there base (on es) rest) ∙ file-read es) in
    let same : end ≡ choosing_end base (on es) = omega arith in
    rw (switch, count, ends, lt-leb (length body) (length base) (omega arith), le-ltb (length body) end (omega arith)) (ap ((λ at. ended_at (chosen base (on es)) at)) same)

-- behind the base
pub selection-read : (base : List ℕ) → length base ≡ base_length base → (c : Choosing) (rest : List ℕ)
    → behind (base_tail (base ++ (choosing_bytes c ++ rest))) (selection_tail (base ++ (choosing_bytes c ++ rest))) ≡ ended_at (chosen base c) (choosing_end base c)
selection-read base sized c rest =
    ap (λ (t : Option Tails). behind t (selection_tail (base ++ (choosing_bytes c ++ rest)))) (base_read base sized (choosing_bytes c ++ rest))
    ∙ choosing-read base c rest

first_says : (base : List ℕ) → length base ≡ base_length base → TailSays base first base
unfolding shape_of tails_of
first_says base sized =
    let nothing = append-nil base in
    record {
      read = rw (rw nothing at (base_read base sized []), eq-eqb (length base) (length base) refl);
      base-is = rw nothing at (base_there base sized []);
      file = refl;
      cycles = refl;
      family = refl;
      log = refl;
    }

second-says : (base : List ℕ) (c : Choosing) → length base ≡ base_length base → TailSays base (second c) (base ++ choosing_bytes c)
unfolding shape_of tails_of
second-says base c sized =
    let nothing = ap (λ (t : List ℕ). base ++ t) (append-nil (choosing_bytes c)) in
    let ends : choosing_end base c ≡ length (base ++ choosing_bytes c) = sym (length-append base (choosing_bytes c)) in
    record {
      read =
          rw (
            base_read base sized (choosing_bytes c),
            rw nothing at (choosing-read base c []),
            eq-eqb (choosing_end base c) (length (base ++ choosing_bytes c)) ends,
          );
      base-is = base_there base sized (choosing_bytes c);
      file = rw nothing at (file-there base c []);
      cycles = refl;
      family = refl;
      log = refl;
    }

-- the syllabus behind it, whatever follows
module _ (base : List ℕ) (c : Choosing) (y : ℕ) (rest : List ℕ) where
  abbrev with_rest : List ℕ
  with_rest = base ++ (choosing_bytes c ++ y ∷ rest)

  pub syllabus-byte : byte with_rest (choosing_end base c) ≡ y
  syllabus-byte =
      get_or-append-add base (choosing_bytes c ++ y ∷ rest) (length (choosing_bytes c)) 0 ∙ get_or-append_seam (choosing_bytes c) y rest 0

  pub rest-size : length with_rest ≡ choosing_end base c + 1 + length rest
  rest-size = omega (arith, length-append base (choosing_bytes c ++ y ∷ rest), length-append (choosing_bytes c) (y ∷ rest))

  pub syllabus-read : y ≤ 1 → (shape : Shape) → syllabus_tail with_rest shape (choosing_end base c) ≡ ended_at (follows shape y) (choosing_end base c + 1)
  unfolding syllabus_tail
  syllabus-read low shape =
      rw (syllabus-byte, lt-leb (length with_rest) (choosing_end base c) (omega (arith, rest-size)), le-ltb 1 y low)

  -- what follows
  pub rest-there : drop (dates_at base c) with_rest ≡ rest
  rest-there =
      let front = base ++ (choosing_bytes c ++ y ∷ []) in
      let size : length front ≡ dates_at base c =
      omega (arith, length-append base (choosing_bytes c ++ y ∷ []), length-append (choosing_bytes c) (y ∷ [])) in
      let same : with_rest ≡ front ++ rest = simp append_assoc in
      rw same (drop_at front rest (dates_at base c) size)

  pub rest-byte : (k : ℕ) → byte with_rest (dates_at base c + k) ≡ byte rest k
  rest-byte k = sym (get_or-drop (dates_at base c) with_rest k 0) ∙ ap (λ (t : List ℕ). byte t k) rest-there

module _ (base : List ℕ) (c : Choosing) (y : ℕ) (sized : length base ≡ base_length base) where
  abbrev tail : List ℕ
  tail = choosing_bytes c ++ y ∷ []

  pub third-size : length (base ++ tail) ≡ length base + length (choosing_bytes c) + 1
  third-size = omega (arith, length-append base tail, length-append (choosing_bytes c) (y ∷ []))

  pub third_last : byte (base ++ tail) (length (base ++ tail) - 1) ≡ y
  third_last =
      let place : length (base ++ choosing_bytes c) ≡ length (base ++ tail) - 1 = omega (arith, third-size, length-append base (choosing_bytes c)) in
      ap (λ (t : List ℕ). byte t (length (base ++ tail) - 1)) (sym (append_assoc base (choosing_bytes c) (y ∷ [])))
      ∙ get_or_at (base ++ choosing_bytes c) y [] 0 (length (base ++ tail) - 1) place

  third-says : y ≤ 1 → TailSays base (third c y) (base ++ tail)
  unfolding shape_of tails_of
  third-says low =
      let ends : choosing_end base c + 1 ≡ length (base ++ tail) = sym third-size in
      record {
        read =
            rw (
              base_read base sized tail,
              choosing-read base c (y ∷ []),
              syllabus-read base c y [] low (chosen base c),
              eq-eqb (choosing_end base c + 1) (length (base ++ tail)) ends,
            );
        base-is = base_there base sized tail;
        file = file-there base c (y ∷ []);
        cycles = refl;
        family = refl;
        log = refl;
      }

-- ---- dates, whatever follows

module _ (base : List ℕ) (c : Choosing) (y : ℕ) (rest : List ℕ) where
  abbrev pub with_dates_lem : Dates → List ℕ
  with_dates_lem d = with_rest base c y (dates_bytes d ++ rest)

  pub dates-read : (d : Dates) → length base ≡ base_length base → FineDates (byte base 3) d → (shape : Shape)
      → dating_tail (with_dates_lem d) shape (dates_at base c) ≡ ended_at (dates shape (dating d (dates_at base c))) (families_at base c d)
  unfolding dating_tail
  dates-read undated sized fine shape =
      let body = with_dates_lem undated in
      let at = dates_at base c in
      let switch : byte body at ≡ 0 = ap (byte body) (sym (add-zero at)) ∙ rest-byte base c y (0 ∷ rest) 0 in
      rw (switch, lt-leb (length body) at (omega (arith, rest-size base c y (0 ∷ rest))))
  dates-read (dated d) sized fine shape =
      let t = cycles_bytes (dated d) in
      let body = with_dates_lem (dated d) in
      let at = dates_at base c in
      let size = cycles-size d in
      let switch : byte body at ≡ 1 =
      ap (byte body) (sym (add-zero at)) ∙ rest-byte base c y (t ++ rest) 0 ∙ get_or-append t rest 0 0 (omega arith) ∙ (cycles_in_place d fine.0).dated in
      let p : byte body 3 ≡ byte base 3 = byte-kept base sized (choosing_bytes c ++ (y ∷ t ++ rest)) 3 (omega arith) in
      let rules = fine.1 in
      let long = rest-size base c y (t ++ rest) in
      let more = length-append t rest in
      let end : at + (28 + 18 * byte body 3) ≡ at + length t = omega arith in
      rw (switch, end, lt-leb (length body) at (omega arith), le-ltb (length body) (at + length t) (omega arith))

  cycles-there : (d : Dates) → tail_part (dating d (dates_at base c)) (with_dates_lem d) ≡ cycles_bytes d
  cycles-there undated = refl
  cycles-there (dated d) =
      let t = cycles_bytes (dated d) in
      let size : dates_at base c + length t - dates_at base c ≡ length t = omega arith in
      rw (size, rest-there base c y (t ++ rest)) (take_at t rest (length t) refl)

  -- what follows the dates
  module _ (d : Dates) where
    pub end-size : length (with_dates_lem d) ≡ families_at base c d + length rest
    end-size = omega (arith, rest-size base c y (dates_bytes d ++ rest), length-append (dates_bytes d) rest)

    end-there : drop (families_at base c d) (with_dates_lem d) ≡ rest
    end-there =
        sym (drop-drop (length (dates_bytes d)) (dates_at base c) (with_dates_lem d))
        ∙ ap (drop (length (dates_bytes d))) (rest-there base c y (dates_bytes d ++ rest))
        ∙ drop_at (dates_bytes d) rest (length (dates_bytes d)) refl

    end-byte : byte (with_dates_lem d) (families_at base c d) ≡ byte rest 0
    end-byte =
        ap (byte (with_dates_lem d)) (sym (add-zero (families_at base c d))) ∙ sym (get_or-drop (families_at base c d) (with_dates_lem d) 0 0)
        ∙ ap (λ (t : List ℕ). byte t 0) end-there

    module _ (sized : length base ≡ base_length base) (low : y ≤ 1) (fine : FineDates (byte base 3) d) where
      syllabus_4 : behind (behind (base_tail (with_dates_lem d)) (selection_tail (with_dates_lem d))) (syllabus_tail (with_dates_lem d))
          ≡ ended_at (follows (chosen base c) y) (dates_at base c)
      syllabus_4 =
          ap (λ (t : Option Tails). behind t (syllabus_tail (with_dates_lem d))) (selection-read base sized c (y ∷ dates_bytes d ++ rest))
          ∙ syllabus-read base c y (dates_bytes d ++ rest) low (chosen base c)

      abbrev shape_4 : Shape
      shape_4 = dates (follows (chosen base c) y) (dating d (dates_at base c))

      tails_4 : tails_of 4 (with_dates_lem d) ≡ ended_at shape_4 (families_at base c d)
      unfolding tails_of
      tails_4 = ap (λ (t : Option Tails). behind t (dating_tail (with_dates_lem d))) syllabus_4 ∙ dates-read d sized fine (follows (chosen base c) y)

-- nothing follows them
module _ (base : List ℕ) (c : Choosing) (y : ℕ) (d : Dates) (sized : length base ≡ base_length base) (low : y ≤ 1) (fine : FineDates (byte base 3) d) where
  abbrev dated-body : List ℕ
  dated-body = with_dates_lem base c y [] d

  shape_read_4 : shape_of 4 dated-body ≡ Ok (shape_4 base c y [] d sized low fine)
  unfolding shape_of
  shape_read_4 =
      let size : families_at base c d ≡ length dated-body = omega (arith, end-size base c y [] d) in
      ap (whole dated-body) (tails_4 base c y [] d sized low fine) ∙ rw (eq-eqb (families_at base c d) (length dated-body) size)

  fourth-says : TailSays base (fourth c y d) (base ++ tail_bytes (fourth c y d))
  fourth-says =
      subst (TailSays base (fourth c y d)) (ap (λ (t : List ℕ). base ++ (choosing_bytes c ++ y ∷ t)) (append-nil (dates_bytes d)))
      (record {
        read = shape_read_4;
        base-is = base_there base sized (choosing_bytes c ++ (y ∷ dates_bytes d ++ []));
        file = file-there base c (y ∷ dates_bytes d ++ []);
        cycles = cycles-there base c y [] d;
        family = refl;
        log = refl;
      })

-- ---- the family, whatever follows

module _ (base : List ℕ) (c : Choosing) (y : ℕ) (d : Dates) (rest : List ℕ) (sized : length base ≡ base_length base) where
  abbrev with_family : Families → List ℕ
  with_family f = with_dates_lem base c y (families_bytes f ++ rest) d

  abbrev at : ℕ
  at = families_at base c d

  -- where the family's tail ends
  abbrev family_end : Families → ℕ
  family_end f = at + length (families_bytes f)

  family-size : (f : Families) → length (with_family f) ≡ family_end f + length rest
  family-size f = omega (arith, end-size base c y (families_bytes f ++ rest) d, length-append (families_bytes f) rest)

  family-read : (f : Families) → FineFamilies (byte base 3) f → (shape : Shape)
      → family_tail (with_family f) shape at ≡ ended_at (families shape (family_from f at)) (family_end f)
  unfolding family_tail
  family-read cpa fine shape =
      rw (end-byte base c y (0 ∷ rest) d, lt-leb (length (with_family cpa)) at (omega (arith, family-size cpa)))
  family-read (cpace f) fine shape =
      let t = controls_bytes (cpace f) in
      let body = with_family (cpace f) in
      let size = controls-size f in
      let switch : byte body at ≡ 1 =
      end-byte base c y (t ++ rest) d ∙ get_or-append t rest 0 0 (omega arith) ∙ (controls_in_place f fine.0).family in
      let p : byte body 3 ≡ byte base 3 = byte-kept base sized (choosing_bytes c ++ (y ∷ dates_bytes d ++ (t ++ rest))) 3 (omega arith) in
      let checks = fine.1 in
      let long = family-size (cpace f) in
      let end : at + (9 + byte body 3) ≡ at + length t = omega arith in
      rw (switch, end, lt-leb (length body) at (omega arith), le-ltb (length body) (at + length t) (omega arith))

  family-there : (f : Families) → family_part (family_from f at) (with_family f) ≡ controls_bytes f
  family-there cpa = refl
  family-there (cpace f) =
      let t = controls_bytes (cpace f) in
      let size : at + length t - at ≡ length t = omega arith in
      rw (size, end-there base c y (t ++ rest) d) (take_at t rest (length t) refl)

  -- what follows the family
  byte-behind : (f : Families) (i : ℕ) → byte (with_family f) (family_end f + i) ≡ byte rest i
  byte-behind f i =
      let t = families_bytes f in
      let to : family_end f + i ≡ at + (length t + i) = omega arith in
      ap (byte (with_family f)) to ∙ sym (get_or-drop at (with_family f) (length t + i) 0)
      ∙ ap (λ (s : List ℕ). byte s (length t + i)) (end-there base c y (t ++ rest) d) ∙ get_or-append-add t rest i 0

  last_byte : (f : Families) → byte (with_family f) (family_end f) ≡ byte rest 0
  last_byte f = ap (byte (with_family f)) (sym (add-zero (family_end f))) ∙ byte-behind f 0

  behind-family : (f : Families) → drop (family_end f) (with_family f) ≡ rest
  behind-family f =
      let t = families_bytes f in
      sym (drop-drop (length t) at (with_family f)) ∙ ap (drop (length t)) (end-there base c y (t ++ rest) d) ∙ drop_at t rest (length t) refl

  module _ (f : Families) (low : y ≤ 1) (fine-dates : FineDates (byte base 3) d) (fine : FineFamilies (byte base 3) f) where
    behind_4 : tails_of 5 (with_family f) ≡ behind (tails_of 4 (with_family f)) (family_tail (with_family f))
    unfolding tails_of
    behind_4 = refl

    abbrev shape_5 : Shape
    shape_5 = families (shape_4 base c y (families_bytes f ++ rest) d sized low fine-dates) (family_from f at)

    tails_5 : tails_of 5 (with_family f) ≡ ended_at shape_5 (family_end f)
    tails_5 =
        behind_4 ∙ ap (λ (t : Option Tails). behind t (family_tail (with_family f))) (tails_4 base c y (families_bytes f ++ rest) d sized low fine-dates)
        ∙ family-read f fine _

module _ (base : List ℕ) (c : Choosing) (y : ℕ) (d : Dates) (f : Families) (sized : length base ≡ base_length base)
    (low : y ≤ 1) (fine-dates : FineDates (byte base 3) d) (fine : FineFamilies (byte base 3) f) where
  -- nothing follows it
  shape_read_5 : shape_of 5 (with_family base c y d [] sized f) ≡ Ok (shape_5 base c y d [] sized f low fine-dates fine)
  unfolding shape_of
  shape_read_5 =
      let body = with_family base c y d [] sized f in
      let end = family_end base c y d [] sized f in
      ap (whole body) (tails_5 base c y d [] sized f low fine-dates fine)
      ∙ rw (eq-eqb end (length body) (omega (arith, family-size base c y d [] sized f)))

  fifth-says : TailSays base (fifth c y d f) (base ++ tail_bytes (fifth c y d f))
  fifth-says =
      subst (TailSays base (fifth c y d f)) (ap (λ (t : List ℕ). base ++ (choosing_bytes c ++ (y ∷ dates_bytes d ++ t))) (append-nil (families_bytes f)))
      (record {
        read = shape_read_5;
        base-is = base_there base sized (choosing_bytes c ++ (y ∷ dates_bytes d ++ (families_bytes f ++ [])));
        file = file-there base c (y ∷ dates_bytes d ++ (families_bytes f ++ []));
        cycles = cycles-there base c y (families_bytes f ++ []) d;
        family = family-there base c y d [] sized f;
        log = refl;
      })

  -- ---- the scripts' byte follows it

  module _ (scripting : Bool) (log-bytes : List ℕ) where
    abbrev end-bytes : List ℕ
    end-bytes = scripts_byte scripting ∷ log-bytes

    abbrev scripts-body : List ℕ
    scripts-body = with_family base c y d end-bytes sized f

    abbrev scripts_at : ℕ
    scripts_at = family_end base c y d end-bytes sized f

    scripts-read : (shape : Shape) → scripting_tail scripts-body shape scripts_at ≡ ended_at (scripts shape scripting) (scripts_at + 1)
    unfolding scripting_tail
    scripts-read shape =
        rw (last_byte base c y d end-bytes sized f, lt-leb (length scripts-body) scripts_at (omega (arith, family-size base c y d end-bytes sized f)))
        (by scripting)
      where
        by : (b : Bool) → cond (ltb 1 (scripts_byte b)) None (ended_at (scripts shape (eqb (scripts_byte b) 1)) (scripts_at + 1))
            ≡ ended_at (scripts shape b) (scripts_at + 1)
        by true = refl
        by false = refl

    behind_5 : tails_of 6 scripts-body ≡ behind (tails_of 5 scripts-body) (scripting_tail scripts-body)
    unfolding tails_of
    behind_5 = refl

    abbrev shape_6 : Shape
    shape_6 = scripts (shape_5 base c y d end-bytes sized f low fine-dates fine) scripting

    tails_6 : tails_of 6 scripts-body ≡ ended_at shape_6 (scripts_at + 1)
    tails_6 = behind_5 ∙ ap (λ (t : Option Tails). behind t (scripting_tail scripts-body)) (tails_5 base c y d end-bytes sized f low fine-dates fine) ∙ scripts-read _

  -- nothing follows it
  module _ (scripting : Bool) where
    shape_read_6 : shape_of 6 (scripts-body scripting []) ≡ Ok (shape_6 scripting [])
    unfolding shape_of
    shape_read_6 =
        ap (whole (scripts-body scripting [])) (tails_6 scripting [])
        ∙ rw (eq-eqb (scripts_at scripting [] + 1) (length (scripts-body scripting [])) (omega (arith, family-size base c y d (end-bytes scripting []) sized f)))

    sixth-says : TailSays base (sixth c y d f scripting) (scripts-body scripting [])
    sixth-says =
        record {
          read = shape_read_6;
          base-is = base_there base sized (tail_bytes (sixth c y d f scripting));
          file = file-there base c (y ∷ dates_bytes d ++ (families_bytes f ++ end-bytes scripting []));
          cycles = cycles-there base c y (families_bytes f ++ end-bytes scripting []) d;
          family = family-there base c y d (end-bytes scripting []) sized f;
          log = refl;
        }

  -- ---- the log follows it

  module _ (scripting : Bool) (l : Logs) (fine-log : FineLogs (byte base 3) l) where
    abbrev ends : List ℕ
    ends = end-bytes scripting (logs_bytes l)

    abbrev log-body : List ℕ
    log-body = scripts-body scripting (logs_bytes l)

    abbrev log-at : ℕ
    log-at = scripts_at scripting (logs_bytes l) + 1

    log-byte : (i : ℕ) → byte log-body (log-at + i) ≡ byte (logs_bytes l) i
    log-byte i =
        let to : log-at + i ≡ scripts_at scripting (logs_bytes l) + suc i = omega arith in
        ap (byte log-body) to ∙ byte-behind base c y d ends sized f (suc i)

    log_length_is : length log-body ≡ log-at + length (logs_bytes l)
    log_length_is = omega (arith, family-size base c y d ends sized f)

    profiles-kept : byte log-body 3 ≡ byte base 3
    profiles-kept = byte-kept base sized (choosing_bytes c ++ (y ∷ dates_bytes d ++ (families_bytes f ++ ends))) 3 (omega arith)

  abbrev shape_of_lem : Shape → Logs → (at : ℕ) → Shape
  shape_of_lem shape unlogged from = shape
  shape_of_lem shape (logged l) from = logs shape (logging_from (logged l) from)

  module _ (scripting : Bool) where
    log-read : (l : Logs) (fine-log : FineLogs (byte base 3) l) (shape : Shape)
        → logging_tail (log-body scripting l fine-log) shape (log-at scripting l fine-log)
        ≡ ended_at (shape_of_lem shape l (log-at scripting l fine-log)) (log-at scripting l fine-log + length (logs_bytes l))
    unfolding logging_tail
    log-read unlogged fine-log shape =
        let at = log-at scripting unlogged fine-log in
        let zero : byte (log-body scripting unlogged fine-log) at ≡ 0 =
        ap (byte (log-body scripting unlogged fine-log)) (sym (add-zero at)) ∙ log-byte scripting unlogged fine-log 0 in
        rw (zero, lt-leb (length (log-body scripting unlogged fine-log)) at (omega (arith, log_length_is scripting unlogged fine-log)))
    log-read (logged l) fine-log shape =
        let body = log-body scripting (logged l) fine-log in
        let at = log-at scripting (logged l) fine-log in
        let there = log-byte scripting (logged l) fine-log in
        let size = log_length_is scripting (logged l) fine-log in
        let p = byte base 3 in
        let one : byte body at ≡ 1 = ap (byte body) (sym (add-zero at)) ∙ there 0 in
        let few = profiles-kept scripting (logged l) fine-log in
        let says = log-says l p fine-log.0 [] in
        let same : log_long p (log_bytes l) ≡ length (log_bytes l) = subst (λ (t : List ℕ). log_long p t ≡ length (log_bytes l)) (all-is l) says in
        let to : at + 3 + byte body 3 ≡ at + (3 + p) = omega arith in
        let n : byte body (at + 3 + byte body 3) ≡ byte (log_bytes l) (3 + p) = ap (byte body) to ∙ there (3 + p) in
        let next : at + 3 + byte body 3 + 1 + 3 * byte body (at + 3 + byte body 3) ≡ at + (3 + p + table_long (log_bytes l) (3 + p)) = omega arith in
        let m : byte body (at + 3 + byte body 3 + 1 + 3 * byte body (at + 3 + byte body 3)) ≡ byte (log_bytes l) (3 + p + table_long (log_bytes l) (3 + p)) =
        ap (byte body) next ∙ there (3 + p + table_long (log_bytes l) (3 + p)) in
        let end : log_end body at ≡ at + length (log_bytes l) = omega arith in
        rw (one, end, lt-leb (length body) at (omega arith), le-ltb (length body) (at + length (log_bytes l)) (omega arith))
      where
        all-is : (l : Log) → 1 ∷ l.size ∷ l.switches ∷ l.profiles ++ (table_bytes l.firsts ++ (table_bytes l.seconds ++ [])) ≡ log_bytes l
        all-is l =
            ap (λ (t : List ℕ). 1 ∷ l.size ∷ l.switches ∷ l.profiles ++ (table_bytes l.firsts ++ t)) (append-nil (table_bytes l.seconds))

    behind_6 : (body : List ℕ) → tails_of 7 body ≡ behind (tails_of 6 body) (logging_tail body)
    unfolding tails_of
    behind_6 body = refl

    shape_read_7 : (l : Logs) (fine-log : FineLogs (byte base 3) l) → shape_of 7 (log-body scripting l fine-log)
        ≡ Ok (shape_of_lem (shape_6 scripting (logs_bytes l)) l (log-at scripting l fine-log))
    unfolding shape_of
    shape_read_7 l fine-log =
        let body = log-body scripting l fine-log in
        ap (whole body)
        (behind_6 body ∙ ap (λ (t : Option Tails). behind t (logging_tail body)) (tails_6 scripting (logs_bytes l)) ∙ log-read l fine-log _)
        ∙ rw (eq-eqb (log-at scripting l fine-log + length (logs_bytes l)) (length body) (omega (arith, log_length_is scripting l fine-log)))

    log-there : (l : Logs) (fine-log : FineLogs (byte base 3) l)
        → tail_part (logging_from l (log-at scripting l fine-log)) (log-body scripting l fine-log) ≡ log_said l
    log-there unlogged fine-log = refl
    log-there (logged l) fine-log =
        let body = log-body scripting (logged l) fine-log in
        let at = log-at scripting (logged l) fine-log in
        let size : at + length (log_bytes l) - at ≡ length (log_bytes l) = omega arith in
        let there : drop at body ≡ log_bytes l =
        sym (drop-drop 1 (scripts_at scripting (log_bytes l)) body) ∙ ap (drop 1) (behind-family base c y d (end-bytes scripting (log_bytes l)) sized f) in
        rw (size, there) (take_all (length (log_bytes l)) (log_bytes l) (omega arith))

    shape-said : (l : Logs) (fine-log : FineLogs (byte base 3) l)
        → shape_of_lem (shape_6 scripting (logs_bytes l)) l (log-at scripting l fine-log) ≡ shape_said base (seventh c y d f scripting l)
    shape-said unlogged fine-log = refl
    shape-said (logged l) fine-log = refl

    seventh-says : (l : Logs) (fine-log : FineLogs (byte base 3) l) → TailSays base (seventh c y d f scripting l) (log-body scripting l fine-log)
    seventh-says l fine-log =
        record {
          read = shape_read_7 l fine-log ∙ ap (λ (s : Shape). Ok s) (shape-said l fine-log);
          base-is = base_there base sized (tail_bytes (seventh c y d f scripting l));
          file = file-there base c (y ∷ dates_bytes d ++ (families_bytes f ++ end-bytes scripting (logs_bytes l)));
          cycles = cycles-there base c y (families_bytes f ++ end-bytes scripting (logs_bytes l)) d;
          family = family-there base c y d (end-bytes scripting (logs_bytes l)) sized f;
          log = log-there l fine-log;
        }

-- THE STATEMENT: a base and the tail of a version are read as they were spelled
pub reads_tails : (base : List ℕ) (tail : Tail) → Base base → Fine (byte base 3) tail → TailSays base tail (base ++ tail_bytes tail)
reads_tails base first sized fine = subst (λ (t : List ℕ). TailSays base first t) (sym (append-nil base)) (first_says base sized)
reads_tails base (second c) sized fine = second-says base c sized
reads_tails base (third c y) sized fine = third-says base c y sized fine.1
reads_tails base (fourth c y d) sized fine = fourth-says base c y d sized fine.1 fine.2
reads_tails base (fifth c y d f) sized fine = fifth-says base c y d f sized fine.1 fine.2 fine.3
reads_tails base (sixth c y d f b) sized fine = sixth-says base c y d f sized fine.1 fine.2 fine.3 b
reads_tails base (seventh c y d f b l) sized fine = seventh-says base c y d f sized fine.1 fine.2 fine.3 b l fine.4
