-- An older paper reads as the newer one with the addition off: the lines of a version 01 paper are those of the version 02 paper with
-- selection off; those of a version 02 paper, whether or not it selects, those of the version 03 paper with syllabus 0; those of a version
-- 03 paper whose masks have no bit from 22 on, as one that is accepted, those of the version 04 paper with dates off; those of a version 04
-- paper whose masks have no bit from 25 on, as one that is accepted, those of the version 05 paper of a CPA card; those of a version 05 paper those
-- of the version 06 paper with scripts off; and those of a version 06 paper whose body has a shape those of the version 07 paper with the log off.
-- Assumes nothing.
use mathlib.Core.Path.{◌≡◌, refl, sym, ap, ◌∙◌}
use mathlib.Core.Bool.{Bool, true, false, ◌&&◌}
use mathlib.Core.List.{List, [], ◌∷◌, ◌++◌, append_assoc}
use Prim.Native.Nat.{ℕ, ◌+◌, ◌*◌, ◌^◌, ◌≤◌, ◌<◌}
use native.Mathlib.Omega.{arith}
use borrow.Author.Tests.{le-ltb, eq-eqb}
use lib.Dec.{lit≤, lit<}
use lib.ListN.{length, length-append}
use lib.Seq.{take-append-le, take-append_seam}
use Rattle.wire.specs.Wire.{byte}
use Rattle.wire.proofs.Pairs.{both}
use Rattle.refusal.specs.declared.Refusal.{Refusal}
use Rattle.ranges.specs.Ranges.{is_setup}
use Rattle.tails.specs.Tails.{are_cycles, is_family}
use Rattle.setup.specs.declared.ReadSetup.{ReadSetup}
use Rattle.setup.specs.Setup.{is_accepted, read_setup, words_after}
use Rattle.setup.proofs.Faithful.{untouched}
use Rattle.shape.specs.declared.Family.{Family}
use Rattle.shape.specs.declared.Family.TheVariants.{Cpa, Cpace}
use Rattle.shape.specs.declared.Shape.{Shape}
use Rattle.shape.specs.Shape.{Lies, Spans, Holds, based, base_tail, dates, families, tails_of, shape_of, base_part, tail_part, family_part}
use Rattle.shape.proofs.Inside.{Inside, inside}
use Rattle.shape.proofs.Older.{selection-off, syllabus-off, dates-off, family-off, scripts-off, log-off}
use Rattle.shape.proofs.Scripting.{unlogged-below}
use Rattle.slot.specs.declared.Slots.{Slots}
use Rattle.command.specs.Command.{selecting_of, file_in, read_by, slots_of, command_in}
use Rattle.begun.specs.declared.Begun.{Begun}
use Rattle.records.specs.declared.Event.TheVariants.{SetUp, Refused as EndRefused}
use Rattle.begun.specs.Begun.{set_up_event, base_begun}
use Rattle.opening.specs.Opening.{shaped_begun, setup_begun, begun_of}
use Rattle.opening.proofs.Unlogged.{sound_below}
use Rattle.conversation.specs.Events.{events_of}
use Rattle.lines.specs.Sitting.{lines_of, sitting_lines}
use Rattle.paper.specs.Paper.{latest}
use Rattle.versions.proofs.Papers.{Known, Unlogged, reads_of, paper_of, Parts, parts_of, events_with, events_shaped}
use Rattle.versions.proofs.Papers.{part-before, file-there, whole_length, events-are, begun-is}
use Rattle.versions.proofs.Undated.{undated, of_cpa, MasksBelow, below_more, accepted-below, same-judged}
use Rattle.std.specs.Prelude.{Err, None, Ok, Option, Result, Some}
use Rattle.shape.specs.declared.SelectionFile.{SelectionFile}
use Rattle.shape.specs.declared.Span.{Span}

-- ---- the byte 00 behind a body, in the next version

abbrev pub newer : (body : List ℕ) → List ℕ
newer body = body ++ 0 ∷ []

-- a paper is shorter than the one with a byte more in its set-up
shorter : (older later : ℕ) → Known later → (b more rest : List ℕ) → length (paper_of later (b ++ more) rest) ≤ 65536
    → length (paper_of older b rest) ≤ 65536
shorter older later known b more rest short =
    omega (arith, whole_length later known (b ++ more) rest short, length-append b more, length-append b rest)

-- a version that a newer one follows: it has no log
abbrev pub Older : ℕ → Type 0
Older version = (1 ≤ version) × (version < latest)

older_known : (version : ℕ) → Older version → Known version
older_known version older = (older.0, omega (arith, older.1))

older_unlogged : (version : ℕ) → Older version → (body : List ℕ) (read : Result Shape Refusal) → shape_of version body ≡ read → Unlogged read
older_unlogged version older body (Err refusal) e = tt
older_unlogged version older body (Ok shape) e = unlogged-below body version older.1 shape e

-- a shape, but for the mask bits that are named
abbrev naming : Shape → (unnamed : ℕ) → Shape
naming shape unnamed =
    record {
      base = shape.base;
      selecting = shape.selecting;
      syllabus = shape.syllabus;
      dating = shape.dating;
      family = shape.family;
      scripting = shape.scripting;
      logging = shape.logging;
      unnamed = unnamed;
    }

-- the newer shape is the older one, but that other mask bits may be named where the base is judged alike
data Alike (body : List ℕ) : Result Shape Refusal → Result Shape Refusal → Type 0 where
  refused : (refusal : Refusal) → Alike body (Err refusal) (Err refusal)
  taken : (shape : Shape) (unnamed : ℕ) → is_setup (base_part shape body) unnamed ≡ is_setup (base_part shape body) shape.unnamed
      → Alike body (Ok (naming shape unnamed)) (Ok shape)

the_same : (body : List ℕ) (later older : Result Shape Refusal) → later ≡ older → Alike body later older
the_same body later (Err refusal) e = rw e (refused refusal)
the_same body later (Ok shape) e = rw e (taken shape shape.unnamed refl)

-- so it has no log where that has none
alike_unlogged : {body : List ℕ} (later older : Result Shape Refusal) → Alike body later older → Unlogged older → Unlogged later
alike_unlogged later older (refused refusal) off = tt
alike_unlogged later older (taken shape unnamed same) off = off

module _ (body : List ℕ) where
  -- what lies in the body lies at the same places of both
  same-cycles : (dating : Option Span) → Spans dating (length body) → tail_part dating (newer body) ≡ tail_part dating body
  same-cycles None s = refl
  same-cycles (Some part) s = part-before body (0 ∷ []) part.start part.end s.0 s.1

  same-family : (family : Family) → Holds family (length body) → family_part family (newer body) ≡ family_part family body
  same-family Cpa s = refl
  same-family (Cpace start end) s = part-before body (0 ∷ []) start end s.0 s.1

  same_reads : (shape : Shape) (unnamed : ℕ) → Lies shape.selecting (length body)
      → reads_of (naming shape unnamed) (newer body) ≡ reads_of shape body
  unfolding command_in
  same_reads shape unnamed lies = λ i values. by shape.selecting lies (slots_of shape.family values) i where
    by : (selecting : Option SelectionFile) → Lies selecting (length body) → (slots : Slots)
        → read_by selecting shape.dating shape.family slots (newer body) ≡ read_by selecting shape.dating shape.family slots body
    by None l slots = refl
    by (Some part) l slots =
        let same : file_in (newer body) part.start part.end ≡ file_in body part.start part.end =
        file-there (newer body) part.start part.end l.0 (omega (arith, length-append body (0 ∷ []), l.1))
        ∙ part-before body (0 ∷ []) part.start part.end l.0 l.1
        ∙ sym (file-there body part.start part.end l.0 l.1) in
        ap (λ (file : List ℕ). selecting_of shape.dating shape.family slots file part.entries) same

  same_base : (shape : Shape) → Inside shape (length body) → base_part shape (newer body) ≡ base_part shape body
  same_base shape lies = take-append-le shape.base body (0 ∷ []) lies.base

  same_parts : (shape : Shape) (unnamed : ℕ) → Inside shape (length body) → parts_of (naming shape unnamed) (newer body) ≡ parts_of shape body
  same_parts shape unnamed lies =
      λ i. record {
        base = same_base shape lies i;
        cycles = same-cycles shape.dating lies.tail i;
        family = same-family shape.family lies.family i;
        scripting = shape.scripting;
        reads = same_reads shape unnamed lies.file i;
      }

-- masks that are judged alike give one set-up
same_judgement : (words rest : List ℕ) (parts : Parts) (syllabus one other : ℕ) → is_setup parts.base one ≡ is_setup parts.base other
    → events_with words rest parts syllabus one ≡ events_with words rest parts syllabus other
unfolding read_setup words_after
same_judgement words rest parts syllabus one other alike = rw alike

module _ (body : List ℕ) (older later : ℕ) (words rest : List ℕ) (alike : Alike body (shape_of later (newer body)) (shape_of older body)) where
  -- THE EVENTS ARE THE SAME WHERE THE SHAPES ARE ALIKE
  events_as_older : events_shaped words rest (newer body) (shape_of later (newer body)) ≡ events_shaped words rest body (shape_of older body)
  events_as_older = by (shape_of later (newer body)) (shape_of older body) refl alike where
    by : (now then : Result Shape Refusal) → shape_of older body ≡ then → Alike body now then
        → events_shaped words rest (newer body) now ≡ events_shaped words rest body then
    by now then e (refused refusal) = refl
    by now then e (taken shape unnamed same) =
        ap (λ (parts : Parts). events_with words rest parts shape.syllabus unnamed) (same_parts body shape unnamed (inside body older shape e))
        ∙ same_judgement words rest (parts_of shape body) shape.syllabus unnamed shape.unnamed same

  module _ (follows : Older older) (known : Known later) (short : length (paper_of later (newer body) rest) ≤ 65536) where
    -- SO THEY ARE OF PAPERS, of versions that are known
    happens_as_older : events_of words (paper_of later (newer body) rest) ≡ events_of words (paper_of older body rest)
    happens_as_older =
        let off = older_unlogged older follows body (shape_of older body) refl in
        let before = shorter older later known body (0 ∷ []) rest short in
        events-are later known (newer body) rest short words (shape_of later (newer body)) refl (alike_unlogged _ _ alike off)
        ∙ events_as_older
        ∙ sym (events-are older (older_known older follows) body rest before words (shape_of older body) refl off)

    -- AND SO ARE THE LINES
    lines_as_older : sitting_lines words (paper_of later (newer body) rest) ≡ sitting_lines words (paper_of older body rest)
    unfolding sitting_lines
    lines_as_older = ap (lines_of 0) happens_as_older

-- ---- a version 02 set-up with syllabus 0 behind it

module _ (b : List ℕ) (words rest : List ℕ) where
  -- A VERSION 02 PAPER'S LINES ARE THOSE OF THE VERSION 03 PAPER WITH SYLLABUS 0
  pub syllabus_0_reads_as_older : length (paper_of 3 (newer b) rest) ≤ 65536
      → sitting_lines words (paper_of 3 (newer b) rest) ≡ sitting_lines words (paper_of 2 b rest)
  syllabus_0_reads_as_older =
      lines_as_older b 2 3 words rest (the_same b (shape_of 3 (newer b)) (shape_of 2 b) (syllabus-off b)) (lit≤ tt, lit< tt) (lit≤ tt, lit≤ tt)

-- ---- an addition that, off, names more mask bits and changes nothing else of a shape

record Adds (older later fewer more : ℕ) (b : List ℕ) : Type 0 where
  known : Older older
  known_later : Known later
  rises : fewer ≤ more
  fewer_named : (shape : Shape) → shape_of older b ≡ Ok shape → shape.unnamed ≡ fewer
  more-named : (shape : Shape) → shape_of older b ≡ Ok shape → shape_of later (newer b) ≡ Ok (naming shape more)

module _ (older later fewer more : ℕ) (b : List ℕ) (adds : Adds older later fewer more b) (words rest : List ℕ)
    (short : length (paper_of later (newer b) rest) ≤ 65536) where
  -- with no bit that is only now named
  masks_as_older : (shape : Shape) → shape_of older b ≡ Ok shape → MasksBelow (base_part shape b) fewer
      → sitting_lines words (paper_of later (newer b) rest) ≡ sitting_lines words (paper_of older b rest)
  masks_as_older shape e low =
      let base = base_part shape b in
      let judged : is_setup base more ≡ is_setup base shape.unnamed =
      same-judged base more fewer (below_more base fewer more adds.rises low) low ∙ ap (is_setup base) (sym (adds.fewer_named shape e)) in
      lines_as_older b older later words rest (rw (adds.more-named shape e, e) (taken shape more judged)) adds.known adds.known_later short

  -- as in a set-up that is accepted
  accepted_as_older : (begun_of (paper_of older b rest)).event ≡ SetUp
      → sitting_lines words (paper_of later (newer b) rest) ≡ sitting_lines words (paper_of older b rest)
  unfolding setup_begun base_begun
  accepted_as_older e = by (shape_of older b) refl (ap (λ (x : Begun). x.event) (sym (begun-is older (older_known older adds.known) b rest before)) ∙ e) where
    before : length (paper_of older b rest) ≤ 65536
    before = shorter older later adds.known_later b (0 ∷ []) rest short

    never : (refusal : Refusal) → EndRefused refusal ≡ SetUp → ⊥
    never refusal f = let z : ◌≡◌ {A = ℕ} 0 1 = cc in omega arith

    by_parts : (shape : Shape) → shape_of older b ≡ Ok shape → (base cycles family : List ℕ) → base_part shape b ≡ base → (judged : Bool)
        → is_accepted base cycles family shape.unnamed ≡ judged → set_up_event (read_setup base cycles family shape.unnamed).answer ≡ SetUp
        → sitting_lines words (paper_of later (newer b) rest) ≡ sitting_lines words (paper_of older b rest)
    by_parts shape f base cycles family is true good g =
        let dated = (both (is_setup base shape.unnamed && are_cycles cycles) (is_family family) good).0 in
        let named = (both (is_setup base shape.unnamed) (are_cycles cycles) dated).0 in
        let taken-base : is_setup base fewer ≡ true = ap (is_setup base) (sym (adds.fewer_named shape f)) ∙ named in
        masks_as_older shape f (rw is (accepted-below base fewer taken-base))
    by_parts shape f base cycles family is false bad g =
        absurd (never _ (sym (ap (λ (r : ReadSetup). set_up_event r.answer) (untouched [] base cycles family 0 shape.unnamed bad).1) ∙ g))

    by : (read : Result Shape Refusal) → shape_of older b ≡ read → (shaped_begun b 4 (4 + length b) read).event ≡ SetUp
        → sitting_lines words (paper_of later (newer b) rest) ≡ sitting_lines words (paper_of older b rest)
    by (Err refusal) f g = absurd (never refusal g)
    by (Ok shape) f g =
        let parts = parts_of shape b in
        let unlogged = sound_below older adds.known.1 b shape f in
        by_parts shape f parts.base parts.cycles parts.family refl
        (is_accepted parts.base parts.cycles parts.family shape.unnamed) refl (rw unlogged at g)

-- ---- a version 03 set-up with dates off behind it

dates-added : (b : List ℕ) → Adds 3 4 (2 ^ 22) (2 ^ 25) b
dates-added b =
    record {
      known = (lit≤ tt, lit< tt);
      known_later = (lit≤ tt, lit≤ tt);
      rises = lit≤ tt;
      fewer_named = λ shape e. (undated b shape e).unnamed;
      more-named = λ shape e. dates-off b shape e ∙ ap (λ (dating : Option Span). Ok (dates shape dating)) (sym (undated b shape e).dating);
    }

module _ (b : List ℕ) (words rest : List ℕ) (short : length (paper_of 4 (newer b) rest) ≤ 65536) where
  -- A VERSION 03 PAPER'S LINES ARE THOSE OF THE VERSION 04 PAPER WITH DATES OFF, if its body has a shape and its masks no bit from 22 on.
  -- Without a shape, what was cut off of a tail with dates may be the byte 00; bits 22 to 24 are refused in version 03 alone.
  pub dates_off_read_as_older : (shape : Shape) → shape_of 3 b ≡ Ok shape → MasksBelow (base_part shape b) (2 ^ 22)
      → sitting_lines words (paper_of 4 (newer b) rest) ≡ sitting_lines words (paper_of 3 b rest)
  dates_off_read_as_older = masks_as_older 3 4 (2 ^ 22) (2 ^ 25) b (dates-added b) words rest short

  -- so it is if the version 03 paper's set-up is accepted
  pub accepted_reads_as_older : (begun_of (paper_of 3 b rest)).event ≡ SetUp
      → sitting_lines words (paper_of 4 (newer b) rest) ≡ sitting_lines words (paper_of 3 b rest)
  accepted_reads_as_older = accepted_as_older 3 4 (2 ^ 22) (2 ^ 25) b (dates-added b) words rest short

-- ---- a version 04 set-up with the family CPA behind it

family-added : (b : List ℕ) → Adds 4 5 (2 ^ 25) (2 ^ 26) b
family-added b =
    record {
      known = (lit≤ tt, lit< tt);
      known_later = (lit≤ tt, lit≤ tt);
      rises = lit≤ tt;
      fewer_named = λ shape e. (of_cpa b shape e).unnamed;
      more-named = λ shape e. family-off b shape e ∙ ap (λ (family : Family). Ok (families shape family)) (sym (of_cpa b shape e).family);
    }

module _ (b : List ℕ) (words rest : List ℕ) (short : length (paper_of 5 (newer b) rest) ≤ 65536) where
  -- A VERSION 04 PAPER'S LINES ARE THOSE OF THE VERSION 05 PAPER OF A CPA CARD, if its body has a shape and its masks no bit from 25 on.
  -- Without a shape, what was cut off of a CPACE card's tail may be the byte 00; bit 25 is refused in version 04 alone.
  pub family_off_reads_as_older : (shape : Shape) → shape_of 4 b ≡ Ok shape → MasksBelow (base_part shape b) (2 ^ 25)
      → sitting_lines words (paper_of 5 (newer b) rest) ≡ sitting_lines words (paper_of 4 b rest)
  family_off_reads_as_older = masks_as_older 4 5 (2 ^ 25) (2 ^ 26) b (family-added b) words rest short

  -- so it is if the version 04 paper's set-up is accepted
  pub accepted_cpa_reads_as_older : (begun_of (paper_of 4 b rest)).event ≡ SetUp
      → sitting_lines words (paper_of 5 (newer b) rest) ≡ sitting_lines words (paper_of 4 b rest)
  accepted_cpa_reads_as_older = accepted_as_older 4 5 (2 ^ 25) (2 ^ 26) b (family-added b) words rest short

-- ---- a version 05 set-up with scripts off behind it

module _ (b : List ℕ) (words rest : List ℕ) where
  scripts_alike : Alike b (shape_of 6 (newer b)) (shape_of 5 b)
  scripts_alike = the_same b (shape_of 6 (newer b)) (shape_of 5 b) (scripts-off b)

  -- WHAT A VERSION 05 SET-UP SAYS, THE VERSION 06 SET-UP WITH SCRIPTS OFF SAYS
  pub scripts_off_says_as_older : events_shaped words rest (newer b) (shape_of 6 (newer b)) ≡ events_shaped words rest b (shape_of 5 b)
  scripts_off_says_as_older = events_as_older b 5 6 words rest scripts_alike

  -- A VERSION 05 PAPER'S LINES ARE THOSE OF THE VERSION 06 PAPER WITH SCRIPTS OFF
  pub scripts_off_reads_as_older : length (paper_of 6 (newer b) rest) ≤ 65536
      → sitting_lines words (paper_of 6 (newer b) rest) ≡ sitting_lines words (paper_of 5 b rest)
  scripts_off_reads_as_older = lines_as_older b 5 6 words rest scripts_alike (lit≤ tt, lit< tt) (lit≤ tt, lit≤ tt)

-- ---- a version 06 set-up with the log off behind it

module _ (b : List ℕ) (words rest : List ℕ) (short : length (paper_of 7 (newer b) rest) ≤ 65536) where
  module _ (shape : Shape) (e : shape_of 6 b ≡ Ok shape) where
    log_alike : Alike b (shape_of 7 (newer b)) (shape_of 6 b)
    log_alike = the_same b (shape_of 7 (newer b)) (shape_of 6 b) (log-off b shape e ∙ sym e)

    -- A VERSION 06 PAPER'S EVENTS AND LINES ARE THOSE OF THE VERSION 07 PAPER WITH THE LOG OFF, if its body has a shape.
    -- Without one, what was cut off of a log may be the byte 00.
    pub log_off_happens_as_older : events_of words (paper_of 7 (newer b) rest) ≡ events_of words (paper_of 6 b rest)
    log_off_happens_as_older = happens_as_older b 6 7 words rest log_alike (lit≤ tt, lit< tt) (lit≤ tt, lit≤ tt) short

    pub log_off_reads_as_older : sitting_lines words (paper_of 7 (newer b) rest) ≡ sitting_lines words (paper_of 6 b rest)
    log_off_reads_as_older = lines_as_older b 6 7 words rest log_alike (lit≤ tt, lit< tt) (lit≤ tt, lit≤ tt) short

  -- so it is if the version 06 paper's set-up is accepted
  pub accepted_log_off_reads_as_older : (begun_of (paper_of 6 b rest)).event ≡ SetUp
      → sitting_lines words (paper_of 7 (newer b) rest) ≡ sitting_lines words (paper_of 6 b rest)
  unfolding setup_begun
  accepted_log_off_reads_as_older e = by (shape_of 6 b) refl (ap (λ (x : Begun). x.event) (sym (begun-is 6 (lit≤ tt, lit≤ tt) b rest before)) ∙ e) where
    before : length (paper_of 6 b rest) ≤ 65536
    before = shorter 6 7 (lit≤ tt, lit≤ tt) b (0 ∷ []) rest short

    by : (read : Result Shape Refusal) → shape_of 6 b ≡ read → (shaped_begun b 4 (4 + length b) read).event ≡ SetUp
        → sitting_lines words (paper_of 7 (newer b) rest) ≡ sitting_lines words (paper_of 6 b rest)
    by (Err refusal) f g = absurd (let z : ◌≡◌ {A = ℕ} 0 1 = cc in omega arith)
    by (Ok shape) f g = log_off_reads_as_older shape f

-- ---- the same set-up in all versions

-- the shape of a base alone
alone : (s : List ℕ) → length s ≡ 52 + 107 * byte s 3 + 7 * byte s 4 → shape_of 1 s ≡ Ok (based (length s))
unfolding shape_of tails_of base_tail
alone s sized = rw (← sized, le-ltb (length s) (length s) (omega arith), eq-eqb (length s) (length s) refl)

-- the masks of the newer body are those of the older one
still_below : (b : List ℕ) (shape : Shape) (version unnamed : ℕ) → shape_of version b ≡ Ok shape → MasksBelow (base_part shape b) unnamed
    → MasksBelow (base_part shape (newer b)) unnamed
still_below b shape version unnamed e low = rw (same_base b shape (inside b version shape e)) low

module _ (words rest : List ℕ) where
  -- to a version between, and then to the later one
  chain : (older next later : ℕ) → Known later → (b first more : List ℕ)
      → (length (paper_of next (b ++ first) rest) ≤ 65536 → sitting_lines words (paper_of next (b ++ first) rest) ≡ sitting_lines words (paper_of older b rest))
      → (length (paper_of later (b ++ first ++ more) rest) ≤ 65536
      → sitting_lines words (paper_of later (b ++ first ++ more) rest) ≡ sitting_lines words (paper_of next (b ++ first) rest))
      → length (paper_of later (b ++ (first ++ more)) rest) ≤ 65536
      → sitting_lines words (paper_of later (b ++ (first ++ more)) rest) ≡ sitting_lines words (paper_of older b rest)
  chain older next later known b first more one others short =
      let joined : b ++ first ++ more ≡ b ++ (first ++ more) = append_assoc b first more in
      let long : length (paper_of later (b ++ first ++ more) rest) ≤ 65536 = rw joined short in
      rw (← joined) (others long) ∙ one (shorter next later known (b ++ first) more rest long)

  -- A VERSION 02 PAPER'S LINES ARE THOSE OF THE VERSION 04 PAPER WITH SYLLABUS 0 AND DATES OFF
  pub two_off_read_as_older : (b : List ℕ) → length (paper_of 4 (b ++ 0 ∷ 0 ∷ []) rest) ≤ 65536 → (shape : Shape) → shape_of 2 b ≡ Ok shape
      → MasksBelow (base_part shape b) (2 ^ 22) → sitting_lines words (paper_of 4 (b ++ 0 ∷ 0 ∷ []) rest) ≡ sitting_lines words (paper_of 2 b rest)
  two_off_read_as_older b short shape e low =
      chain 2 3 4 (lit≤ tt, lit≤ tt) b (0 ∷ []) (0 ∷ []) (syllabus_0_reads_as_older b words rest)
      (λ long. dates_off_read_as_older (newer b) words rest long shape (syllabus-off b ∙ e) (still_below b shape 2 (2 ^ 22) e low)) short

  -- A VERSION 03 PAPER'S LINES ARE THOSE OF THE VERSION 05 PAPER WITH DATES OFF, OF A CPA CARD
  pub last_two_off_read_as_older : (b : List ℕ) → length (paper_of 5 (b ++ 0 ∷ 0 ∷ []) rest) ≤ 65536 → (shape : Shape) → shape_of 3 b ≡ Ok shape
      → MasksBelow (base_part shape b) (2 ^ 22) → sitting_lines words (paper_of 5 (b ++ 0 ∷ 0 ∷ []) rest) ≡ sitting_lines words (paper_of 3 b rest)
  last_two_off_read_as_older b short shape e low =
      let below = below_more _ (2 ^ 22) (2 ^ 25) (lit≤ tt) (still_below b shape 3 (2 ^ 22) e low) in
      chain 3 4 5 (lit≤ tt, lit≤ tt) b (0 ∷ []) (0 ∷ []) (λ fits. dates_off_read_as_older b words rest fits shape e low)
      (λ long. family_off_reads_as_older (newer b) words rest long (dates shape None) (dates-off b shape e) below) short

  -- A VERSION 02 PAPER'S LINES ARE THOSE OF THE VERSION 05 PAPER WITH SYLLABUS 0 AND DATES OFF, OF A CPA CARD
  pub three_off_read_as_older : (b : List ℕ) → length (paper_of 5 (b ++ 0 ∷ 0 ∷ 0 ∷ []) rest) ≤ 65536 → (shape : Shape) → shape_of 2 b ≡ Ok shape
      → MasksBelow (base_part shape b) (2 ^ 22) → sitting_lines words (paper_of 5 (b ++ 0 ∷ 0 ∷ 0 ∷ []) rest) ≡ sitting_lines words (paper_of 2 b rest)
  three_off_read_as_older b short shape e low =
      chain 2 3 5 (lit≤ tt, lit≤ tt) b (0 ∷ []) (0 ∷ 0 ∷ []) (syllabus_0_reads_as_older b words rest)
      (λ long. last_two_off_read_as_older (newer b) long shape (syllabus-off b ∙ e) (still_below b shape 2 (2 ^ 22) e low)) short

  module _ (s : List ℕ) (sized : length s ≡ 52 + 107 * byte s 3 + 7 * byte s 4) where
    -- A VERSION 01 PAPER'S LINES ARE THOSE OF THE VERSION 02 PAPER WITH SELECTION OFF
    pub off_reads_as_older : length (paper_of 2 (newer s) rest) ≤ 65536
        → sitting_lines words (paper_of 2 (newer s) rest) ≡ sitting_lines words (paper_of 1 s rest)
    off_reads_as_older =
        lines_as_older s 1 2 words rest (the_same s (shape_of 2 (newer s)) (shape_of 1 s) (selection-off s sized)) (lit≤ tt, lit< tt) (lit≤ tt, lit≤ tt)

    -- OF THE VERSION 03 PAPER WITH SELECTION OFF AND SYLLABUS 0
    pub both_off_read_as_older : length (paper_of 3 (s ++ 0 ∷ 0 ∷ []) rest) ≤ 65536
        → sitting_lines words (paper_of 3 (s ++ 0 ∷ 0 ∷ []) rest) ≡ sitting_lines words (paper_of 1 s rest)
    both_off_read_as_older =
        chain 1 2 3 (lit≤ tt, lit≤ tt) s (0 ∷ []) (0 ∷ []) off_reads_as_older (syllabus_0_reads_as_older (newer s) words rest)

    -- the shape and the masks of the version 02 paper
    off-shape : shape_of 2 (newer s) ≡ Ok (based (length s))
    off-shape = selection-off s sized ∙ alone s sized

    off-below : MasksBelow s (2 ^ 22) → MasksBelow (base_part (based (length s)) (newer s)) (2 ^ 22)
    off-below low = rw (take-append_seam s (0 ∷ [])) low

    -- OF THE VERSION 04 PAPER WITH ALL THREE OFF
    pub all_off_read_as_older : length (paper_of 4 (s ++ 0 ∷ 0 ∷ 0 ∷ []) rest) ≤ 65536 → MasksBelow s (2 ^ 22)
        → sitting_lines words (paper_of 4 (s ++ 0 ∷ 0 ∷ 0 ∷ []) rest) ≡ sitting_lines words (paper_of 1 s rest)
    all_off_read_as_older short low =
        chain 1 2 4 (lit≤ tt, lit≤ tt) s (0 ∷ []) (0 ∷ 0 ∷ []) off_reads_as_older
        (λ long. two_off_read_as_older (newer s) long (based (length s)) off-shape (off-below low)) short

    -- AND OF THE VERSION 05 PAPER WITH ALL FOUR OFF
    pub four_off_read_as_older : length (paper_of 5 (s ++ 0 ∷ 0 ∷ 0 ∷ 0 ∷ []) rest) ≤ 65536 → MasksBelow s (2 ^ 22)
        → sitting_lines words (paper_of 5 (s ++ 0 ∷ 0 ∷ 0 ∷ 0 ∷ []) rest) ≡ sitting_lines words (paper_of 1 s rest)
    four_off_read_as_older short low =
        chain 1 2 5 (lit≤ tt, lit≤ tt) s (0 ∷ []) (0 ∷ 0 ∷ 0 ∷ []) off_reads_as_older
        (λ long. three_off_read_as_older (newer s) long (based (length s)) off-shape (off-below low)) short

-- ---- and in version 06

module _ (words rest : List ℕ) where
  -- what reads as a version 05 paper with tails behind its set-up reads as the version 06 paper with scripts off behind them
  to_six : (older : ℕ) (b tails : List ℕ)
      → (length (paper_of 5 (b ++ tails) rest) ≤ 65536 → sitting_lines words (paper_of 5 (b ++ tails) rest) ≡ sitting_lines words (paper_of older b rest))
      → length (paper_of 6 (b ++ (tails ++ 0 ∷ [])) rest) ≤ 65536
      → sitting_lines words (paper_of 6 (b ++ (tails ++ 0 ∷ [])) rest) ≡ sitting_lines words (paper_of older b rest)
  to_six older b tails one = chain words rest older 5 6 (lit≤ tt, lit≤ tt) b tails (0 ∷ []) one (scripts_off_reads_as_older (b ++ tails) words rest)

  module _ (b : List ℕ) where
    -- A VERSION 04 PAPER'S LINES ARE THOSE OF THE VERSION 06 PAPER OF A CPA CARD WITH SCRIPTS OFF
    pub four_reads_as_six : length (paper_of 6 (b ++ 0 ∷ 0 ∷ []) rest) ≤ 65536 → (shape : Shape) → shape_of 4 b ≡ Ok shape
        → MasksBelow (base_part shape b) (2 ^ 25) → sitting_lines words (paper_of 6 (b ++ 0 ∷ 0 ∷ []) rest) ≡ sitting_lines words (paper_of 4 b rest)
    four_reads_as_six short shape e low = to_six 4 b (0 ∷ []) (λ fits. family_off_reads_as_older b words rest fits shape e low) short

    -- so it is if the version 04 paper's set-up is accepted
    pub accepted_four_reads_as_six : length (paper_of 6 (b ++ 0 ∷ 0 ∷ []) rest) ≤ 65536 → (begun_of (paper_of 4 b rest)).event ≡ SetUp
        → sitting_lines words (paper_of 6 (b ++ 0 ∷ 0 ∷ []) rest) ≡ sitting_lines words (paper_of 4 b rest)
    accepted_four_reads_as_six short e = to_six 4 b (0 ∷ []) (λ fits. accepted_cpa_reads_as_older b words rest fits e) short

    -- A VERSION 03 PAPER'S LINES ARE THOSE OF THE VERSION 06 PAPER WITH DATES AND SCRIPTS OFF, OF A CPA CARD
    pub three_reads_as_six : length (paper_of 6 (b ++ 0 ∷ 0 ∷ 0 ∷ []) rest) ≤ 65536 → (shape : Shape) → shape_of 3 b ≡ Ok shape
        → MasksBelow (base_part shape b) (2 ^ 22) → sitting_lines words (paper_of 6 (b ++ 0 ∷ 0 ∷ 0 ∷ []) rest) ≡ sitting_lines words (paper_of 3 b rest)
    three_reads_as_six short shape e low = to_six 3 b (0 ∷ 0 ∷ []) (λ fits. last_two_off_read_as_older words rest b fits shape e low) short

    -- A VERSION 02 PAPER'S LINES ARE THOSE OF THE VERSION 06 PAPER WITH SYLLABUS 0, DATES AND SCRIPTS OFF, OF A CPA CARD
    pub two_reads_as_six : length (paper_of 6 (b ++ 0 ∷ 0 ∷ 0 ∷ 0 ∷ []) rest) ≤ 65536 → (shape : Shape) → shape_of 2 b ≡ Ok shape
        → MasksBelow (base_part shape b) (2 ^ 22)
        → sitting_lines words (paper_of 6 (b ++ 0 ∷ 0 ∷ 0 ∷ 0 ∷ []) rest) ≡ sitting_lines words (paper_of 2 b rest)
    two_reads_as_six short shape e low = to_six 2 b (0 ∷ 0 ∷ 0 ∷ []) (λ fits. three_off_read_as_older words rest b fits shape e low) short

  -- A VERSION 01 PAPER'S LINES ARE THOSE OF THE VERSION 06 PAPER WITH ALL FIVE OFF
  pub one_reads_as_six : (s : List ℕ) → length s ≡ 52 + 107 * byte s 3 + 7 * byte s 4
      → length (paper_of 6 (s ++ 0 ∷ 0 ∷ 0 ∷ 0 ∷ 0 ∷ []) rest) ≤ 65536 → MasksBelow s (2 ^ 22)
      → sitting_lines words (paper_of 6 (s ++ 0 ∷ 0 ∷ 0 ∷ 0 ∷ 0 ∷ []) rest) ≡ sitting_lines words (paper_of 1 s rest)
  one_reads_as_six s sized short low = to_six 1 s (0 ∷ 0 ∷ 0 ∷ 0 ∷ []) (λ fits. four_off_read_as_older words rest s sized fits low) short

-- ---- and in version 07, each by the version behind it

module _ (words rest : List ℕ) where
  -- A VERSION 05 PAPER'S LINES ARE THOSE OF THE VERSION 07 PAPER WITH SCRIPTS AND THE LOG OFF
  pub five_reads_as_seven : (b : List ℕ) → length (paper_of 7 (b ++ 0 ∷ 0 ∷ []) rest) ≤ 65536 → (shape : Shape) → shape_of 5 b ≡ Ok shape
      → sitting_lines words (paper_of 7 (b ++ 0 ∷ 0 ∷ []) rest) ≡ sitting_lines words (paper_of 5 b rest)
  five_reads_as_seven b short shape e =
      chain words rest 5 6 7 (lit≤ tt, lit≤ tt) b (0 ∷ []) (0 ∷ []) (scripts_off_reads_as_older b words rest)
      (λ long. log_off_reads_as_older (newer b) words rest long shape (scripts-off b ∙ e)) short

  -- A VERSION 04 PAPER'S ALSO OF A CPA CARD
  pub four_reads_as_seven : (b : List ℕ) → length (paper_of 7 (b ++ 0 ∷ 0 ∷ 0 ∷ []) rest) ≤ 65536 → (shape : Shape) → shape_of 4 b ≡ Ok shape
      → MasksBelow (base_part shape b) (2 ^ 25) → sitting_lines words (paper_of 7 (b ++ 0 ∷ 0 ∷ 0 ∷ []) rest) ≡ sitting_lines words (paper_of 4 b rest)
  four_reads_as_seven b short shape e low =
      chain words rest 4 5 7 (lit≤ tt, lit≤ tt) b (0 ∷ []) (0 ∷ 0 ∷ []) (λ fits. family_off_reads_as_older b words rest fits shape e low)
      (λ long. five_reads_as_seven (newer b) long (families shape Cpa) (family-off b shape e)) short

  -- A VERSION 03 PAPER'S ALSO WITH DATES OFF
  pub three_reads_as_seven : (b : List ℕ) → length (paper_of 7 (b ++ 0 ∷ 0 ∷ 0 ∷ 0 ∷ []) rest) ≤ 65536 → (shape : Shape) → shape_of 3 b ≡ Ok shape
      → MasksBelow (base_part shape b) (2 ^ 22)
      → sitting_lines words (paper_of 7 (b ++ 0 ∷ 0 ∷ 0 ∷ 0 ∷ []) rest) ≡ sitting_lines words (paper_of 3 b rest)
  three_reads_as_seven b short shape e low =
      let below = below_more _ (2 ^ 22) (2 ^ 25) (lit≤ tt) (still_below b shape 3 (2 ^ 22) e low) in
      chain words rest 3 4 7 (lit≤ tt, lit≤ tt) b (0 ∷ []) (0 ∷ 0 ∷ 0 ∷ []) (λ fits. dates_off_read_as_older b words rest fits shape e low)
      (λ long. four_reads_as_seven (newer b) long (dates shape None) (dates-off b shape e) below) short

  -- A VERSION 02 PAPER'S ALSO WITH SYLLABUS 0
  pub two_reads_as_seven : (b : List ℕ) → length (paper_of 7 (b ++ 0 ∷ 0 ∷ 0 ∷ 0 ∷ 0 ∷ []) rest) ≤ 65536 → (shape : Shape) → shape_of 2 b ≡ Ok shape
      → MasksBelow (base_part shape b) (2 ^ 22)
      → sitting_lines words (paper_of 7 (b ++ 0 ∷ 0 ∷ 0 ∷ 0 ∷ 0 ∷ []) rest) ≡ sitting_lines words (paper_of 2 b rest)
  two_reads_as_seven b short shape e low =
      chain words rest 2 3 7 (lit≤ tt, lit≤ tt) b (0 ∷ []) (0 ∷ 0 ∷ 0 ∷ 0 ∷ []) (syllabus_0_reads_as_older b words rest)
      (λ long. three_reads_as_seven (newer b) long shape (syllabus-off b ∙ e) (still_below b shape 2 (2 ^ 22) e low)) short

  -- A VERSION 01 PAPER'S WITH ALL SIX OFF
  pub one_reads_as_seven : (s : List ℕ) → length s ≡ 52 + 107 * byte s 3 + 7 * byte s 4
      → length (paper_of 7 (s ++ 0 ∷ 0 ∷ 0 ∷ 0 ∷ 0 ∷ 0 ∷ []) rest) ≤ 65536 → MasksBelow s (2 ^ 22)
      → sitting_lines words (paper_of 7 (s ++ 0 ∷ 0 ∷ 0 ∷ 0 ∷ 0 ∷ 0 ∷ []) rest) ≡ sitting_lines words (paper_of 1 s rest)
  one_reads_as_seven s sized short low =
      chain words rest 1 2 7 (lit≤ tt, lit≤ tt) s (0 ∷ []) (0 ∷ 0 ∷ 0 ∷ 0 ∷ 0 ∷ []) (off_reads_as_older words rest s sized)
      (λ long. two_reads_as_seven (newer s) long (based (length s)) (off-shape words rest s sized) (off-below words rest s sized low)) short
