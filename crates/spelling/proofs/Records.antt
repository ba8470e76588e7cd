-- One record: what is sent is read as that, whatever is read was sent, and refusal 9 has one of its causes. Assumes nothing.
use mathlib.Core.Path.{◌≡◌, refl, sym, ap, subst, ◌∙◌}
use mathlib.Core.Bool.{Bool, true, false, ◌&&◌}
use lib.Dec.{eqb}
use mathlib.Core.Logic.{◌↔◌}
use mathlib.Core.List.{List, [], ◌++◌}
use Prim.Native.Nat.{ℕ, ◌+◌, ◌-◌, ◌<◌, ◌≤◌}
use native.Mathlib.Omega.{arith}
use borrow.Author.Tests.{le-leb}
use lib.ListN.{length, take, drop, length-append}
use lib.Seq.{drop-drop, drop-append_seam}
use Rattle.refusal.specs.declared.Refusal.TheVariants.{Unreadable}
use Rattle.rules.specs.declared.Values.{Values}
use Rattle.slot.specs.declared.Slots.{Slots}
use Rattle.shape.specs.declared.Family.{Family}
use Rattle.shape.specs.declared.Family.TheVariants.{Cpa, Cpace}
use Rattle.shape.specs.declared.Shape.{Shape as PaperShape}
use Rattle.paper.specs.declared.Next.TheVariants.{Record, Fault}
use Rattle.paper.specs.Paper.{next_at, next_number}
use Rattle.paper.specs.Walk.{part}
use Rattle.command.specs.Command.{start_of, first_of, command_of, start_selected, selecting_of, slots_of, command_in}
use Rattle.command.specs.Command as C
use Rattle.card.specs.Message.{Message}
use Rattle.spelling.specs.Spelling.{Bytes, big, record_of, Interface, unsaid, on, Presented, unshown, shown, Sent, names, brings, first, first_on}
use Rattle.spelling.specs.Spelling.{second, script, kind_of, interface_bytes, presented_bytes, body_of, spell}
use Rattle.spelling.specs.Spelling.{Choice, by_name, by_file, choice_in, Dates, dates_in, family_in, Scripting, unscripted, scripted, scripts_in}
use Rattle.spelling.specs.Spelling.{Manner, manner_in, Fits, slots_in, stands_for}
use Rattle.spelling.specs.Faults.{Broken, Whole, RestFault, broken, repeated, unknown, start_length_lem, start-empty, first_length_lem, second_length}
use Rattle.spelling.specs.Faults.{script-empty}
use Rattle.spelling.specs.Sitting.{Read, sends, refuses, record_read, over, refused, message, reading_in, reading_of, reading, Lies, Spelled}
use Rattle.spelling.proofs.Numbers.{bytes_drop, bytes-front}
use Rattle.spelling.proofs.Shapes as S
use Rattle.spelling.proofs.Shapes.{Shape, nothing, whole, shape, record_is, record_length, shift, next_drop, part_drop}
use Rattle.spelling.proofs.Shapes.{next-nothing, next-broken, next-whole, body-there}
use Rattle.spelling.proofs.Commands.{of, dating_of, family_of, read_by, is_scripted, hears, taken}
use Rattle.spelling.proofs.Commands.{Wrong, a_setup, no_command, bad_start, bad_empty, bad_first, bad_second, bad_script, refused_wrong, Meaning, sent, wrong, meaning}
use Rattle.std.specs.Prelude.{None, Option, Some}
use Rattle.shape.specs.declared.SelectionFile.{SelectionFile}
use Rattle.shape.specs.declared.Span.{Span}

-- ---- what can stand at the front

pub data View (manner : Manner) (s : List ℕ) : Type 0 where
  none : s ≡ [] → View manner s
  fault : RestFault manner s → View manner s
  spelled : (x : Sent) (more : List ℕ) → Fits manner x → s ≡ spell x ++ more → View manner s

as_fault : (manner : Manner) (s : List ℕ) (kind : ℕ) (body : List ℕ) → Whole s kind body → Wrong manner kind body → RestFault manner s
as_fault manner s kind body w (a_setup e) = repeated body (subst (λ (k : ℕ). Whole s k body) e w)
as_fault manner s kind body w (no_command h) = unknown kind body w h
as_fault manner s kind body w (bad_start e c n) = start_length_lem body (subst (λ (k : ℕ). Whole s k body) e w) c n
as_fault manner s kind body w (bad_empty e z f) = start-empty (subst (λ (k : ℕ). Whole s k []) e (subst (Whole s kind) z w)) f
as_fault manner s kind body w (bad_first e n) = first_length_lem body (subst (λ (k : ℕ). Whole s k body) e w) n
as_fault manner s kind body w (bad_second e n) = second_length body (subst (λ (k : ℕ). Whole s k body) e w) n
as_fault manner s kind body w (bad_script e z f) = script-empty (subst (λ (k : ℕ). Whole s k []) e (subst (Whole s kind) z w)) f

body_bytes : (s : List ℕ) (kind : ℕ) (body : List ℕ) → Bytes s → Whole s kind body → Bytes body
body_bytes s kind body h w =
    let all : Bytes (record_of kind body) = bytes-front (record_of kind body) w.more (subst Bytes w.is h) in
    (subst Bytes (record_is kind body) all).1.1.1

pub view : (manner : Manner) (s : List ℕ) → Bytes s → View manner s
view manner s h = by_shape (shape s h) where
  by_meaning : (kind : ℕ) (body : List ℕ) → Whole s kind body → Meaning manner kind body → View manner s
  by_meaning kind body w (sent x fits k b) = spelled x w.more fits (w.is ∙ rw (k, b))
  by_meaning kind body w (wrong cause) = fault (as_fault manner s kind body w cause)

  by_shape : Shape s → View manner s
  by_shape (nothing e) = none e
  by_shape (S.broken b) = fault (broken b)
  by_shape (whole kind body w) = by_meaning kind body w (meaning body (body_bytes s kind body h w) manner kind w.sized)

-- a record of what fits has a length of 2 bytes
pub body-short : (manner : Manner) (x : Sent) → Fits manner x → length (body_of x) < 65535
unfolding Fits body_of big
body-short manner x h = by manner.choice manner.dates manner.scripts x h where
  interface_short : (i : Interface) → length (interface_bytes i) ≤ 1
  interface_short unsaid = omega arith
  interface_short (on interface) = omega arith

  presented_short : (p : Presented) → length (presented_bytes p) ≤ 9
  presented_short unshown = omega arith
  presented_short (shown r1 r2 r3 cashback) = omega arith

  by : (choice : Choice) (dates : Dates) (scripts : Scripting) (x : Sent) → Fits (of choice dates manner.family scripts) x → length (body_of x) < 65535
  by by_name dates scripts (names interface profile) h =
      omega (arith, length-append (interface_bytes interface) (big 1 profile), interface_short interface)
  by by_name dates scripts (brings interface terminal) h = absurd h
  by (by_file file entries) dates scripts (names interface profile) h = absurd h
  by (by_file file entries) dates scripts (brings interface terminal) h = h.1
  by choice dates scripts (first a b c d p) h = omega (arith, presented_short p)
  by choice dates scripts (first_on date a b c d p) h = omega (arith, presented_short p)
  by choice dates scripts (second a b c d) h = omega arith
  by choice dates unscripted (script result template) h = absurd h
  by choice dates scripted (script result template) h = omega arith

abbrev pub whole-spelled : (manner : Manner) (x : Sent) → Fits manner x → (s more : List ℕ) → s ≡ spell x ++ more → Whole s (kind_of x) (body_of x)
whole-spelled manner x h s more e = record { more = more; is = e; sized = body-short manner x h }

-- ---- a place of a paper

-- where the tails stand is nothing to the readers
module _ (slots : Slots) (file : List ℕ) (entries kind : ℕ) (body : List ℕ) where
  tails_aside : (dating : Option Span) (family : Family)
      → (command_of dating family kind body ≡ command_of (dating_of (dates_in dating)) (family_of (family_in family)) kind body)
      × (selecting_of dating family slots file entries kind body
      ≡ selecting_of (dating_of (dates_in dating)) (family_of (family_in family)) slots file entries kind body)
  unfolding command_of start_of first_of selecting_of start_selected
  tails_aside None Cpa = (refl, refl)
  tails_aside None (Cpace from to) = (refl, refl)
  tails_aside (Some part) Cpa = (refl, refl)
  tails_aside (Some part) (Cpace from to) = (refl, refl)

slots_same : (family : Family) (values : Values) → slots_of family values ≡ slots_in (family_in family) values
unfolding slots_of slots_in
slots_same Cpa values = refl
slots_same (Cpace from to) values = refl

pub commands-same : (form : PaperShape) (values : Values) (s : List ℕ) → Lies form.selecting s → (kind : ℕ) (body : List ℕ)
    → command_in form values s kind body ≡ read_by (manner_in form s) (slots_in (family_in form.family) values) kind body
unfolding command_in
commands-same form values s h kind body = rw (slots_same form.family values) (by (slots_in (family_in form.family) values) form.selecting h) where
  by : (slots : Slots) (selecting : Option SelectionFile) → Lies selecting s
      → C.read_by selecting form.dating form.family slots s kind body
      ≡ read_by (of (choice_in selecting s) (dates_in form.dating) (family_in form.family) (scripts_in form.scripting)) slots kind body
  by slots None h = (tails_aside slots [] 0 kind body form.dating form.family).0
  by slots (Some part) h =
      rw (le-leb part.start part.end h.0, le-leb part.end (length s) h.1)
      (tails_aside slots (take (part.end - part.start) (drop part.start s)) part.entries kind body form.dating form.family).1

scripts-same : (b : Bool) → is_scripted (scripts_in b) ≡ b
scripts-same true = refl
scripts-same false = refl

either_first : (a b : Bool) → (a && b) ≡ (b && a)
either_first true true = refl
either_first true false = refl
either_first false true = refl
either_first false false = refl

records-same : (form : PaperShape) (values : Values) (s : List ℕ) → Lies form.selecting s → (kind : ℕ) (body : List ℕ)
    → record_read form values s kind body ≡ hears (manner_in form s) (slots_in (family_in form.family) values) kind body
records-same form values s h kind body =
    rw (commands-same form values s h kind body, either_first form.scripting (eqb kind 5), scripts-same form.scripting)

-- a record stands at a place, is read as that by the card's values, and the next place is its end
pub record Stands (form : PaperShape) (values : Values) (s : List ℕ) (at : ℕ) (read : Read) (end : ℕ) : Type 0 where
  pub kind : ℕ
  pub start : ℕ
  pub next : next_at s at ≡ Record kind start end
  pub is : record_read form values s kind (part s start end) ≡ read

module _ (form : PaperShape) (values : Values) (s : List ℕ) (lies : Lies form.selecting s) (at : ℕ) where
  abbrev manner : Manner
  manner = manner_in form s

  abbrev slots : Slots
  slots = slots_in manner.family values

  stands : (kind : ℕ) (body : List ℕ) → Whole (drop at s) kind body
      → Stands form values s at (hears manner slots kind body) (at + (3 + length body))
  stands kind body w =
      let there : next_at (drop at s) 0 ≡ Record kind 3 (3 + length body) = rw w.is (next-whole kind body w.more w.sized) in
      let inside : part (drop at s) 3 (3 + length body) ≡ body = rw w.is (body-there kind body w.more) in
      record {
        kind = kind;
        start = at + 3;
        next = next_drop s at ∙ ap (shift at) there;
        is = ap (record_read form values s kind) (part_drop s at 3 (3 + length body) ∙ inside) ∙ records-same form values s lies kind body;
      }

  pub sent-stands : (x : Sent) → Fits manner x → (rest : List ℕ) → drop at s ≡ spell x ++ rest
      → Stands form values s at (sends (stands_for manner slots x)) (at + length (spell x))
  sent-stands x h rest e =
      let st = stands (kind_of x) (body_of x) (whole-spelled manner x h (drop at s) rest e) in
      rw (record_length (kind_of x) (body_of x), ← taken manner slots x h) st

  -- no whole record stands there, or one that is refused
  pub data Faulty : Type 0 where
    at_next : next_at s at ≡ Fault → Faulty
    at_record : (end : ℕ) → Stands form values s at (refuses Unreadable) end → Faulty

  wrongly : (kind : ℕ) (body : List ℕ) → Whole (drop at s) kind body → Wrong manner kind body → Faulty
  wrongly kind body w cause =
      at_record (at + (3 + length body)) (rw (← refused_wrong manner slots kind body cause) (stands kind body w))

  pub faulty : RestFault manner (drop at s) → Faulty
  faulty (broken b) = at_next (next_drop s at ∙ ap (shift at) (next-broken (drop at s) b))
  faulty (repeated body w) = wrongly 1 body w (a_setup refl)
  faulty (unknown kind body w h) = wrongly kind body w (no_command h)
  faulty (start_length_lem body w c n) = wrongly 2 body w (bad_start refl c n)
  faulty (start-empty w f) = wrongly 2 [] w (bad_empty refl refl f)
  faulty (first_length_lem body w n) = wrongly 3 body w (bad_first refl n)
  faulty (second_length body w n) = wrongly 4 body w (bad_second refl n)
  faulty (script-empty w f) = wrongly 5 [] w (bad_script refl refl f)

  -- what is read there
  reads_stood : (read : Read) (end : ℕ) → Stands form values s at read end → reading form values s at ≡ reading_of end read
  unfolding reading
  reads_stood read end st = ap (reading_in form values s) st.next ∙ ap (reading_of end) st.is

  -- WHAT IS SPELLED AT A PLACE IS READ AS THAT MESSAGE, AND THE READER GOES ON BEHIND IT
  pub reads_spelled : (x : Sent) → Fits manner x → (rest : List ℕ) → drop at s ≡ spell x ++ rest
      → (reading form values s at ≡ message (stands_for manner slots x) (at + length (spell x))) × (drop (at + length (spell x)) s ≡ rest)
  reads_spelled x h rest e =
      (reads_stood _ _ (sent-stands x h rest e), sym (drop-drop (length (spell x)) at s) ∙ rw (e, drop-append_seam (spell x) rest))

  -- THE END
  pub reads_end : drop at s ≡ [] → reading form values s at ≡ over
  unfolding reading
  reads_end e = rw (next_drop s at, next-nothing (drop at s) e)

  refused-there : Faulty → reading form values s at ≡ refused 9
  unfolding reading
  refused-there (at_next e) = rw e
  refused-there (at_record end st) = reads_stood (refuses Unreadable) end st

  pub reads_fault : RestFault manner (drop at s) → reading form values s at ≡ refused 9
  reads_fault f = refused-there (faulty f)

  module _ (bytes : Bytes s) where
    -- NO WHOLE RECORD STANDS THERE EXACTLY WHERE THE READER SAYS 9
    pub broken-exactly : (next_number (next_at s at) ≡ 9) ↔ Broken (drop at s)
    broken-exactly =
        (by (shape (drop at s) (bytes_drop at s bytes)), λ b. rw (next_drop s at, next-broken (drop at s) b))
      where
        by : Shape (drop at s) → next_number (next_at s at) ≡ 9 → Broken (drop at s)
        by (nothing e) n =
            let zero : next_number (next_at s at) ≡ 0 = rw (next_drop s at, next-nothing (drop at s) e) in
            absurd (omega arith)
        by (S.broken b) n = b
        by (whole kind body w) n =
            let zero : next_number (next_at s at) ≡ 0 = ap next_number (stands kind body w).next in
            absurd (omega arith)

    -- WHATEVER IS READ AS A MESSAGE IS THE SPELLING OF WHAT FITS AND STANDS FOR IT
    pub spelled_if_read : (m : Message) (end : ℕ) → reading form values s at ≡ message m end → Spelled manner slots s at m end
    spelled_if_read m end e = by (view manner (drop at s) (bytes_drop at s bytes)) where
      by : View manner (drop at s) → Spelled manner slots s at m end
      by (none n) = let z : ◌≡◌ {A = ℕ} 0 1 = cc (reads_end n) in absurd (omega arith)
      by (fault f) = let z : ◌≡◌ {A = ℕ} 0 1 = cc (reads_fault f) in absurd (omega arith)
      by (spelled x more fits is) =
          let r = reads_spelled x fits more is in
          let same : stands_for manner slots x ≡ m = cc in
          let to : end ≡ at + length (spell x) = cc in
          record { sent = x; fits = fits; stands = same; is = is ∙ rw (to, r.1); ends = to }

    -- A REFUSAL IS 9, AND HAS ONE OF ITS CAUSES
    pub fault_if_refused : (n : ℕ) → reading form values s at ≡ refused n → (n ≡ 9) × RestFault manner (drop at s)
    fault_if_refused n e = by (view manner (drop at s) (bytes_drop at s bytes)) where
      by : View manner (drop at s) → (n ≡ 9) × RestFault manner (drop at s)
      by (none n) = let z : ◌≡◌ {A = ℕ} 0 1 = cc (reads_end n) in absurd (omega arith)
      by (fault f) = (cc (reads_fault f), f)
      by (spelled x more fits is) = let r = reads_spelled x fits more is in let z : ◌≡◌ {A = ℕ} 0 1 = cc in absurd (omega arith)

    pub refused-exactly : (reading form values s at ≡ refused 9) ↔ RestFault manner (drop at s)
    refused-exactly = (λ e. (fault_if_refused 9 e).1, reads_fault)

    pub end_if_over : reading form values s at ≡ over → drop at s ≡ []
    end_if_over e = by (view manner (drop at s) (bytes_drop at s bytes)) where
      by : View manner (drop at s) → drop at s ≡ []
      by (none n) = n
      by (fault f) = let z : ◌≡◌ {A = ℕ} 0 1 = cc (reads_fault f) in absurd (omega arith)
      by (spelled x more fits is) = let r = reads_spelled x fits more is in let z : ◌≡◌ {A = ℕ} 0 1 = cc in absurd (omega arith)
