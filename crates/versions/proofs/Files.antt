-- Where selection is on, the Starts of a paper are read by the file behind its switch, whatever its version. Assumes nothing.
use mathlib.Core.Path.{◌≡◌, refl, sym, ap, ap₂, subst₂, ◌∙◌}
use mathlib.Core.Bool.{Bool, true, false, cond}
use mathlib.Core.List.{List, [], ◌∷◌, ◌++◌}
use Prim.Native.Nat.{ℕ, ◌+◌, ◌-◌, ◌*◌, ◌≤◌}
use native.Mathlib.Nat.{add-zero, add_assoc}
use native.Mathlib.Omega.{arith}
use borrow.Author.Tests.{lt-leb, le-ltb, eq-eqb, ne_eqb, eqb-true}
use lib.Dec.{lit≤, eqb, ltb, leb}
use lib.ListN.{length, take, drop, length-append, length-drop, get_or-append}
use lib.Seq.{take_all, get_or-drop, get_or-append-add, get_or-append_seam, drop-append-add, take-append_seam}
use Rattle.wire.specs.Wire.{byte}
use Rattle.log_tail.specs.LogTail.{behind_table, second_table, judged}
use Rattle.bodies.specs.Bodies.{first_length}
use Rattle.rules.specs.declared.Values.{Values}
use Rattle.slot.specs.declared.Slots.{Slots}
use Rattle.selection.specs.Selection.{is_file, selection_of}
use Rattle.shape.specs.declared.Family.{Family}
use Rattle.shape.specs.declared.Family.TheVariants.{Cpa, Cpace}
use Rattle.shape.specs.declared.Shape.{Shape}
use Rattle.shape.specs.Shape.{based, base_tail, entries_end, selects, selection_tail, follows, syllabus_tail, dates, dating_tail}
use Rattle.shape.specs.Shape.{families, family_tail, scripts, scripting_tail, logs, table_end, log_end, logging_tail, tail_part, behind, tails_of, shape_of, shape_at}
use Rattle.shape.proofs.Files.{file-ends}
use Rattle.shape.proofs.Inside.{inside}
use Rattle.paper.specs.Walk.{part}
use Rattle.command.specs.Command.{is_cpace, start_selected, selecting_of, slots_of, command_in}
use Rattle.command.specs.declared.Command.TheVariants.{Start as StartCommand}
use Rattle.begun.specs.declared.Begun.{Begun}
use Rattle.begun.specs.Begun.{base_begun}
use Rattle.opening.specs.Opening.{log_judged, setup_begun, begun_of}
use Rattle.opening.proofs.Unlogged.{sound_off}
use Rattle.versions.proofs.Papers.{Known, Reads, reads_of, paper_of, file-there, by-body, begun-is}
use Rattle.std.specs.Prelude.{None, Ok, Option, Some}
use Rattle.selection.specs.declared.Selected.{Selected}
use Rattle.shape.specs.Shape.{ended_at}
use Rattle.shape.specs.Shape.{file as file_from}
use Rattle.shape.specs.Shape.{span}
use Rattle.shape.specs.declared.Tails.{Tails}

-- a tail that is off, or on with so many bytes in all
pub data Switched (size : ℕ) : (on : Bool) → List ℕ → Type 0 where
  switched_off : Switched size false (0 ∷ [])
  switched_on : (more : List ℕ) → length (1 ∷ more) ≡ size → Switched size true (1 ∷ more)

-- a log's bytes, by its numbers of entries
abbrev pub log_long : (p : ℕ) (log : List ℕ) → ℕ
log_long p log = behind_table log (second_table log p)

-- First's data
abbrev pub first_long : (dated cpace : Bool) → ℕ
first_long dated cpace = cond cpace (cond dated 24 21) (cond dated 15 12)

-- what stands behind the file, with p profiles: nothing in version 02; the syllabus in version 03; behind it dates in version 04; behind them
-- in version 05 the family, which is on where it is CPACE; behind it in version 06 whether scripts are on; and behind that in version 07 a log,
-- which is sound where it is on
pub data Behind (p : ℕ) : (version : ℕ) → (cpace : Bool) → List ℕ → Type 0 where
  nothing : Behind p 2 false []
  syllabus_alone : (syllabus : ℕ) → syllabus ≤ 1 → Behind p 3 false (syllabus ∷ [])
  with_dates_lem : (syllabus : ℕ) → syllabus ≤ 1 → {dated : Bool} {dates : List ℕ} → Switched (28 + 18 * p) dated dates → Behind p 4 false (syllabus ∷ dates)
  with_family : (syllabus : ℕ) → syllabus ≤ 1 → {dated : Bool} {dates : List ℕ} → Switched (28 + 18 * p) dated dates
      → {cpace : Bool} {family : List ℕ} → Switched (9 + p) cpace family → Behind p 5 cpace (syllabus ∷ dates ++ family)
  with_scripts_lem : (syllabus : ℕ) → syllabus ≤ 1 → {dated : Bool} {dates : List ℕ} → Switched (28 + 18 * p) dated dates
      → {cpace : Bool} {family : List ℕ} → Switched (9 + p) cpace family → (scripting : ℕ) → scripting ≤ 1
      → Behind p 6 cpace (syllabus ∷ dates ++ (family ++ scripting ∷ []))
  with_log_lem : (syllabus : ℕ) → syllabus ≤ 1 → {dated : Bool} {dates : List ℕ} → Switched (28 + 18 * p) dated dates
      → {cpace : Bool} {family : List ℕ} → Switched (9 + p) cpace family → (scripting : ℕ) → scripting ≤ 1
      → {logs : Bool} {log : List ℕ} → Switched (log_long p log) logs log → (logs ≡ true → judged log p (first_long dated cpace) ≡ Ok tt)
      → Behind p 7 cpace (syllabus ∷ dates ++ (family ++ scripting ∷ log))

known_behind : {p version : ℕ} {cpace : Bool} {tails : List ℕ} → Behind p version cpace tails → Known version
known_behind nothing = (lit≤ tt, lit≤ tt)
known_behind (syllabus_alone syllabus h) = (lit≤ tt, lit≤ tt)
known_behind (with_dates_lem syllabus h dates) = (lit≤ tt, lit≤ tt)
known_behind (with_family syllabus h dates family) = (lit≤ tt, lit≤ tt)
known_behind (with_scripts_lem syllabus h dates family scripting l) = (lit≤ tt, lit≤ tt)
known_behind (with_log_lem syllabus h dates family scripting l log sound) = (lit≤ tt, lit≤ tt)

-- a CPACE Start begins with its interface
abbrev pub Asks : (cpace : Bool) (terminal : List ℕ) → Type 0
Asks false terminal = Unit
Asks true terminal = 1 ≤ length terminal

-- a card's slots, by whether it is a CPACE card: where its tail stands does not matter to them
abbrev pub slots_by : (cpace : Bool) → Values → Slots
slots_by cpace = slots_of (cond cpace (Cpace 0 0) Cpa)

slots_are : (family : Family) → slots_of family ≡ slots_by (is_cpace family)
unfolding slots_of
slots_are Cpa = refl
slots_are (Cpace start end) = refl

-- a Start is read as what a file of so many entries selects by its body and the card's present values, to a CPACE card with the interface
abbrev pub Selects : (file : List ℕ) (entries : ℕ) (cpace : Bool) → Reads → Type 0
Selects file entries cpace reads =
    (values : Values) (terminal : List ℕ) → Asks cpace terminal
    → reads values 2 terminal
    ≡ Ok (StartCommand (record { interface = cond cpace (byte terminal 0) 0; chosen = selection_of file entries terminal (slots_by cpace values) }))

started : (family : Family) (chosen : Option Selected) (terminal : List ℕ) → Asks (is_cpace family) terminal
    → start_selected family chosen terminal
    ≡ Ok (StartCommand (record { interface = cond (is_cpace family) (byte terminal 0) 0; chosen = chosen }))
unfolding start_selected
started Cpa chosen terminal asks = refl
started (Cpace start end) chosen terminal asks = rw (ne_eqb (length terminal) 0 (omega arith))

-- a tail's first byte is where it begins
starts : {size : ℕ} {on : Bool} {tail : List ℕ} → Switched size on tail → (more : List ℕ) → byte (tail ++ more) 0 ≡ byte tail 0
starts switched_off more = refl
starts (switched_on others sized) more = refl

size-on : {size : ℕ} {tail : List ℕ} → Switched size true tail → size ≡ length tail
size-on (switched_on more e) = sym e

first-long : (dated cpace : Bool) (from to start end : ℕ)
    → first_length (cond dated (Some (span from to)) None) (cond cpace (Cpace start end) Cpa) ≡ first_long dated cpace
first-long false false from to start end = refl
first-long false true from to start end = refl
first-long true false from to start end = refl
first-long true true from to start end = refl

cpace-is : (cpace : Bool) (start end : ℕ) → is_cpace (cond cpace (Cpace start end) Cpa) ≡ cpace
cpace-is false start end = refl
cpace-is true start end = refl

module _ (s : List ℕ) (sized : length s ≡ 52 + 107 * byte s 3 + 7 * byte s 4) (entries : ℕ) (file : List ℕ) (good : is_file file entries ≡ true) where
  abbrev selecting-tail : List ℕ
  selecting-tail = 1 ∷ entries ∷ file

  abbrev start : ℕ
  start = length s + 2

  abbrev end : ℕ
  end = length s + 2 + length file

  abbrev with_file : Shape
  with_file = selects (based (length s)) start end entries

  module _ (behind : List ℕ) where
    abbrev pub body : List ℕ
    body = s ++ (selecting-tail ++ behind)

    long : length body ≡ end + length behind
    long = omega (arith, length-append s (selecting-tail ++ behind), length-append file behind)

    -- the file in the body, and what is behind it
    file-is : part body start end ≡ file
    file-is =
        let size : length s + 2 + length file - (length s + 2) ≡ length file = omega arith in
        ap (λ (n : ℕ). take n (drop start body)) size
        ∙ ap (take (length file)) (drop-append-add s (selecting-tail ++ behind) 2)
        ∙ take-append_seam file behind

    behind-is : (i : ℕ) → byte body (end + i) ≡ byte behind i
    behind-is i =
        let place : end + i ≡ length s + (length selecting-tail + i) = omega arith in
        ap (byte body) place ∙ get_or-append-add s (selecting-tail ++ behind) (length selecting-tail + i) 0 ∙ get_or-append-add selecting-tail behind i 0

    profiles : byte body 3 ≡ byte s 3
    profiles = get_or-append s (selecting-tail ++ behind) 0 3 (omega arith)

    base-ends : base_tail body ≡ ended_at (based (length s)) (length s)
    unfolding base_tail
    base-ends =
        let c : byte body 4 ≡ byte s 4 = get_or-append s (selecting-tail ++ behind) 0 4 (omega arith) in
        rw (profiles, c, ← sized, le-ltb (length body) (length s) (omega (arith, long)))

    entries-end : entries_end body start entries ≡ end
    entries-end =
        eqb-true (entries_end body start entries) end
        (sym (file-ends body end (omega (arith, long)) entries start (omega arith)) ∙ ap (λ (f : List ℕ). is_file f entries) file-is ∙ good)

    selection-ends : selection_tail body (based (length s)) (length s) ≡ ended_at with_file end
    unfolding selection_tail
    selection-ends =
        let switch : byte body (length s) ≡ 1 = get_or-append_seam s 1 (entries ∷ file ++ behind) 0 in
        let count : byte body (length s + 1) ≡ entries = get_or-append-add s (selecting-tail ++ behind) 1 0 in
        rw (switch, count, entries-end, lt-leb (length body) (length s) (omega (arith, long)), le-ltb (length body) end (omega (arith, long)))

    -- ---- the tails behind the file

    -- one that begins at a place of what is behind
    switched_ends : {A : Type 0} (shaped : A → Shape) (when_off when_on : A) (i : ℕ) {size : ℕ} {on : Bool} {tail : List ℕ} → Switched size on tail
        → byte behind i ≡ byte tail 0 → i + length tail ≤ length behind
        → cond (leb (length body) (end + i)) None
        (cond (eqb (byte body (end + i)) 0) (ended_at (shaped when_off) (end + i + 1))
        (cond (ltb 1 (byte body (end + i))) None
        (cond (ltb (length body) (end + i + size)) None (ended_at (shaped when_on) (end + i + size)))))
        ≡ ended_at (shaped (cond on when_on when_off)) (end + i + length tail)
    switched_ends shaped when_off when_on i switched_off first fits =
        rw (behind-is i, first, lt-leb (length body) (end + i) (omega (arith, long)))
    switched_ends shaped when_off when_on i (switched_on more size) first fits =
        let last = le-ltb (length body) (end + i + length (1 ∷ more)) (omega (arith, long)) in
        rw (behind-is i, first, lt-leb (length body) (end + i) (omega (arith, long)), ← size, last)

    -- one of one byte, 0 or 1, at a place of what is behind
    byte-ends : (sets : ℕ → Shape) (at i value : ℕ) → at ≡ end + i → value ≤ 1 → byte behind i ≡ value → i + 1 ≤ length behind
        → cond (leb (length body) at) None (cond (ltb 1 (byte body at)) None (ended_at (sets (byte body at)) (at + 1))) ≡ ended_at (sets value) (at + 1)
    byte-ends sets at i value place h first fits =
        let here : byte body at ≡ value = ap (byte body) place ∙ behind-is i ∙ first in
        rw (here, lt-leb (length body) at (omega (arith, long)), le-ltb 1 value h)

    syllabus-ends : (syllabus : ℕ) → syllabus ≤ 1 → byte behind 0 ≡ syllabus → 1 ≤ length behind
        → syllabus_tail body with_file end ≡ ended_at (follows with_file syllabus) (end + 1)
    unfolding syllabus_tail
    syllabus-ends syllabus = byte-ends (follows with_file) end 0 syllabus (omega arith)

    module _ (shape : Shape) (i : ℕ) where
      abbrev at : ℕ
      at = end + i

      abbrev dated-shape : Bool → Shape
      dated-shape dated = dates shape (cond dated (Some (span at (at + (28 + 18 * byte s 3)))) None)

      abbrev family-shape : Bool → Shape
      family-shape cpace = families shape (cond cpace (Cpace at (at + (9 + byte s 3))) Cpa)

      dates-end : {dated : Bool} {tail : List ℕ} → Switched (28 + 18 * byte s 3) dated tail → byte behind i ≡ byte tail 0 → i + length tail ≤ length behind
          → dating_tail body shape at ≡ ended_at (dated-shape dated) (at + length tail)
      unfolding dating_tail
      dates-end = rw profiles (switched_ends (dates shape) None (Some (span at (at + (28 + 18 * byte s 3)))) i)

      family-ends : {cpace : Bool} {tail : List ℕ} → Switched (9 + byte s 3) cpace tail → byte behind i ≡ byte tail 0 → i + length tail ≤ length behind
          → family_tail body shape at ≡ ended_at (family-shape cpace) (at + length tail)
      unfolding family_tail
      family-ends = rw profiles (switched_ends (families shape) Cpa (Cpace at (at + (9 + byte s 3))) i)

      scripts-end : (scripting : ℕ) → scripting ≤ 1 → byte behind i ≡ scripting → i + 1 ≤ length behind
          → scripting_tail body shape at ≡ ended_at (scripts shape (eqb scripting 1)) (at + 1)
      unfolding scripting_tail
      scripts-end scripting = byte-ends (λ b. scripts shape (eqb b 1)) at i scripting refl

      -- the log, at the end of what is behind
      module _ (log : List ℕ) (there : drop i behind ≡ log) (fits : i ≤ length behind) where
        abbrev p : ℕ
        p = byte s 3

        abbrev logged-shape : Bool → Shape
        logged-shape on = cond on (logs shape (Some (span at (at + log_long p log)))) shape

        log-size : i + length log ≡ length behind
        log-size = ap (λ (l : List ℕ). i + length l) (sym there) ∙ omega (arith, length-drop i behind)

        log-byte : (k : ℕ) → byte behind (i + k) ≡ byte log k
        log-byte k = sym (get_or-drop i behind k 0) ∙ ap (λ (l : List ℕ). byte l k) there

        table-ends : (k : ℕ) → table_end body (at + k) ≡ at + behind_table log k
        table-ends k =
            let here : byte body (at + k) ≡ byte log k = ap (byte body) (add_assoc end i k) ∙ behind-is (i + k) ∙ log-byte k in
            ap (λ (n : ℕ). at + k + 1 + 3 * n) here ∙ omega arith

        log-ends : log_end body at ≡ at + log_long p log
        log-ends =
            let place : at + 3 + byte body 3 ≡ at + (3 + p) = omega (arith, profiles) in
            ap (λ (k : ℕ). table_end body (table_end body k)) place ∙ ap (table_end body) (table-ends (3 + p)) ∙ table-ends (second_table log p)

        logging_ends : {on : Bool} → Switched (log_long p log) on log → logging_tail body shape at ≡ ended_at (logged-shape on) (at + length log)
        unfolding logging_tail
        logging_ends sw =
            let first : byte behind i ≡ byte log 0 = ap (byte behind) (sym (add-zero i)) ∙ log-byte 0 in
            rw log-ends (switched_ends (λ (sh : Shape). sh) shape (logs shape (Some (span at (at + log_long p log)))) i sw first (omega (arith, log-size)))

        -- its bytes in the body, and what is judged of them
        log-there : log_long p log ≡ length log → tail_part (Some (span at (at + log_long p log))) body ≡ log
        log-there size =
            let place : end + i ≡ length s + (length selecting-tail + i) = omega arith in
            let last : drop at body ≡ log =
            ap (λ (n : ℕ). drop n body) place
            ∙ drop-append-add s (selecting-tail ++ behind) (length selecting-tail + i)
            ∙ drop-append-add selecting-tail behind i
            ∙ there in
            let long : at + log_long p log - at ≡ length log = omega arith in
            ap₂ take long last ∙ take_all (length log) log (omega arith)

        logged_sound : (on : Bool) → Switched (log_long p log) on log → shape.logging ≡ None
            → (on ≡ true → judged log p (first_length shape.dating shape.family) ≡ Ok tt) → log_judged (logged-shape on) body ≡ Ok tt
        unfolding log_judged
        logged_sound false sw off sound = sound_off shape body off
        logged_sound true sw off sound = rw (log-there (size-on sw), profiles) (sound refl)

        -- it changes nothing else
        logged-selects : (on : Bool) → (logged-shape on).selecting ≡ shape.selecting
        logged-selects false = refl
        logged-selects true = refl

        logged-family : (on : Bool) → (logged-shape on).family ≡ shape.family
        logged-family false = refl
        logged-family true = refl

    -- a Start is read by the file in the body
    by-file : (shape : Shape) → shape.selecting ≡ Some (file_from start end entries) → Selects file entries (is_cpace shape.family) (reads_of shape body)
    unfolding command_in selecting_of
    by-file shape selecting values terminal asks =
        rw (selecting, file-there body start end (omega arith) (omega (arith, long)), file-is, slots_are shape.family)
        (started shape.family (selection_of file entries terminal (slots_by (is_cpace shape.family) values)) terminal asks)

  -- ---- the shape of each version

  record Takes (version : ℕ) (cpace : Bool) (behind : List ℕ) : Type 0 where
    shape : Shape
    is : shape_of version (body behind) ≡ Ok shape
    on : shape.selecting ≡ Some (file_from start end entries)
    family : is_cpace shape.family ≡ cpace
    sound : log_judged shape (body behind) ≡ Ok tt

  -- tails that end with the body
  ended : (version : ℕ) (behind : List ℕ) (shape : Shape) (at : ℕ) → tails_of version (body behind) ≡ ended_at shape at → at ≡ length (body behind)
      → shape_of version (body behind) ≡ Ok shape
  unfolding shape_of
  ended version behind shape at e last = rw (e, eq-eqb at (length (body behind)) last)

  -- the tails up to the family, whatever is behind it
  module _ (syllabus : ℕ) (h : syllabus ≤ 1) {dated : Bool} {dates : List ℕ} (d : Switched (28 + 18 * byte s 3) dated dates) {cpace : Bool} {family : List ℕ}
      (f : Switched (9 + byte s 3) cpace family) (more : List ℕ) (begins : byte more 0 ≡ byte family 0) (fits : length family ≤ length more) where
    abbrev tails : List ℕ
    tails = syllabus ∷ dates ++ more

    abbrev followed : Shape
    followed = follows with_file syllabus

    abbrev past-dates : ℕ
    past-dates = 1 + length dates

    abbrev with_families : Shape
    with_families = family-shape tails (dated-shape tails followed 1 dated) past-dates cpace

    tails-long : length tails ≡ past-dates + length more
    tails-long = omega (arith, length-append dates more)

    behind-dates : (i : ℕ) → byte tails (past-dates + i) ≡ byte more i
    behind-dates i =
        let place : past-dates + i ≡ length (syllabus ∷ dates) + i = omega arith in
        ap (byte tails) place ∙ get_or-append-add (syllabus ∷ dates) more i 0

    families-end : tails_of 5 (body tails) ≡ ended_at with_families (end + past-dates + length family)
    unfolding tails_of
    families-end =
        let place : end + 1 + length dates ≡ end + past-dates = omega arith in
        let none : past-dates ≡ past-dates + 0 = omega arith in
        let first = ap (byte tails) none ∙ behind-dates 0 ∙ begins in
        rw (
          base-ends tails,
          selection-ends tails,
          syllabus-ends tails syllabus h refl (omega arith),
          dates-end tails followed 1 d (starts d more) (omega (arith, tails-long)),
          place,
          family-ends tails (dated-shape tails followed 1 dated) past-dates f first (omega (arith, tails-long)),
        )

    scripts_too : (scripting : ℕ) → scripting ≤ 1 → byte more (length family) ≡ scripting → length family + 1 ≤ length more
        → tails_of 6 (body tails) ≡ ended_at (scripts with_families (eqb scripting 1)) (end + (past-dates + length family) + 1)
    unfolding tails_of
    scripts_too scripting l here left =
        let place : end + past-dates + length family ≡ end + (past-dates + length family) = omega arith in
        ap (λ (t : Option Tails). behind t (scripting_tail (body tails))) (families-end ∙ ap ((λ at. ended_at with_families at)) place)
        ∙ scripts-end tails with_families (past-dates + length family) scripting l (behind-dates (length family) ∙ here) (omega (arith, tails-long))

    family_takes : length more ≡ length family → Takes 5 cpace tails
    family_takes last =
        record {
          shape = with_families;
          is = ended 5 tails with_families _ families-end (omega (arith, tails-long, long tails));
          on = refl;
          family = cpace-is cpace _ _;
          sound = sound_off with_families (body tails) refl;
        }

    scripts-take : (scripting : ℕ) → scripting ≤ 1 → byte more (length family) ≡ scripting → length more ≡ length family + 1 → Takes 6 cpace tails
    scripts-take scripting l here last =
        record {
          shape = scripts with_families (eqb scripting 1);
          is = ended 6 tails _ _ (scripts_too scripting l here (omega arith)) (omega (arith, tails-long, long tails));
          on = refl;
          family = cpace-is cpace _ _;
          sound = sound_off _ (body tails) refl;
        }

    log_takes : (scripting : ℕ) → scripting ≤ 1 → byte more (length family) ≡ scripting → (log : List ℕ) → drop (length family + 1) more ≡ log
        → length family + 1 ≤ length more
        → {logs : Bool} → Switched (log_long (byte s 3) log) logs log → (logs ≡ true → judged log (byte s 3) (first_long dated cpace) ≡ Ok tt)
        → Takes 7 cpace tails
    unfolding tails_of
    log_takes scripting l here log there left {logs} sw sound =
        let scripted = scripts with_families (eqb scripting 1) in
        let i = past-dates + length family + 1 in
        let from : i ≡ length (syllabus ∷ dates) + (length family + 1) = omega arith in
        let behind-scripts : drop i tails ≡ log =
        ap (λ (n : ℕ). drop n tails) from ∙ drop-append-add (syllabus ∷ dates) more (length family + 1) ∙ there in
        let place : end + (past-dates + length family) + 1 ≡ end + i = omega arith in
        let fits : i ≤ length tails = omega (arith, tails-long) in
        let size = log-size tails scripted i log behind-scripts fits in
        let ends : tails_of 7 (body tails) ≡ (ended_at (logged-shape tails scripted i log behind-scripts fits logs) (end + i + length log)) =
        ap (λ (t : Option Tails). behind t (logging_tail (body tails))) (scripts_too scripting l here left ∙ ap ((λ at. ended_at scripted at)) place)
        ∙ logging_ends tails scripted i log behind-scripts fits sw in
        record {
          shape = logged-shape tails scripted i log behind-scripts fits logs;
          is = ended 7 tails _ _ ends (omega (arith, long tails));
          on = logged-selects tails scripted i log behind-scripts fits logs;
          family = ap is_cpace (logged-family tails scripted i log behind-scripts fits logs) ∙ cpace-is cpace _ _;
          sound = logged_sound tails scripted i log behind-scripts fits logs sw refl (λ e. rw (first-long dated cpace _ _ _ _) (sound e));
        }

  takes : (version : ℕ) (cpace : Bool) (behind : List ℕ) → Behind (byte s 3) version cpace behind → Takes version cpace behind
  unfolding shape_of tails_of
  takes version cpace behind nothing =
      record {
        shape = with_file;
        is = rw (base-ends [], selection-ends [], eq-eqb end (length (body [])) (omega (arith, long [])));
        on = refl;
        family = refl;
        sound = sound_off with_file (body []) refl;
      }
  takes version cpace behind (syllabus_alone syllabus h) =
      let l = syllabus ∷ [] in
      let last = eq-eqb (end + 1) (length (body l)) (omega (arith, long l)) in
      record {
        shape = follows with_file syllabus;
        is = rw (base-ends l, selection-ends l, syllabus-ends l syllabus h refl (omega arith), last);
        on = refl;
        family = refl;
        sound = sound_off _ (body l) refl;
      }
  takes version cpace behind (with_dates_lem syllabus h {dated} {dates = tail} d) =
      let l = syllabus ∷ tail in
      let followed = follows with_file syllabus in
      let last = eq-eqb (end + 1 + length tail) (length (body l)) (omega (arith, long l)) in
      record {
        shape = dated-shape l followed 1 dated;
        is = rw (base-ends l, selection-ends l, syllabus-ends l syllabus h refl (omega arith), dates-end l followed 1 d refl (omega arith), last);
        on = refl;
        family = refl;
        sound = sound_off _ (body l) refl;
      }
  takes version cpace behind (with_family syllabus h d {family} f) = family_takes syllabus h d f family refl (omega arith) refl
  takes version cpace behind (with_scripts_lem syllabus h d {family} f scripting l) =
      let one = length-append family (scripting ∷ []) in
      scripts-take syllabus h d f (family ++ scripting ∷ []) (starts f (scripting ∷ [])) (omega arith) scripting l (get_or-append_seam family scripting [] 0) one
  takes version cpace behind (with_log_lem syllabus h d {family} f scripting l {log} sw sound) =
      let more = family ++ scripting ∷ log in
      let size = length-append family (scripting ∷ log) in
      log_takes syllabus h d f more (starts f (scripting ∷ log)) (omega arith) scripting l (get_or-append_seam family scripting log 0) log
      (drop-append-add family (scripting ∷ log) 1) (omega arith) sw sound

  -- A PAPER'S STARTS ARE READ BY THE FILE BEHIND ITS SWITCH
  pub file-selects : (version : ℕ) (cpace : Bool) (behind : List ℕ) → Behind (byte s 3) version cpace behind
      → (rest : List ℕ) → length (paper_of version (body behind) rest) ≤ 65536
      → Selects file entries cpace (reads_of (begun_of (paper_of version (body behind) rest)).shape (paper_of version (body behind) rest))
  unfolding setup_begun base_begun
  file-selects version cpace behind b rest short =
      let t = takes version cpace behind b in
      let known = known_behind b in
      let paper = paper_of version (body behind) rest in
      let shaped : (begun_of paper).shape ≡ shape_at 4 t.shape =
      ap (λ (x : Begun). x.shape) (begun-is version known (body behind) rest short) ∙ rw (t.is, t.sound) in
      let lies = (inside (body behind) version t.shape t.is).file in
      let reads : reads_of (begun_of paper).shape paper ≡ reads_of t.shape (body behind) =
      ap (λ (shape : Shape). reads_of shape paper) shaped ∙ by-body version known (body behind) rest short t.shape lies in
      subst₂ (Selects file entries) t.family (sym reads) (by-file behind t.shape t.on)
