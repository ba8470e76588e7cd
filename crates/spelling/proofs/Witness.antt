-- The premises are met: by the paper of the printed sitting, by one whose Starts bring the terminal's data, by one whose Firsts have
-- their dates, by a CPACE card's, by records with a script, and by papers with a log. Assumes nothing.
use mathlib.Core.Path.{◌≡◌, refl, sym}
use mathlib.Core.Bool.{Bool, true, ◌&&◌}
use mathlib.Core.List.{List, [], ◌∷◌, ◌++◌, append-nil}
use Prim.Native.Nat.{ℕ, ◌^◌, ◌<◌}
use native.Mathlib.Omega.{arith}
use borrow.Author.Tests.{ltb-true}
use lib.Dec.{T, ltb, lit<, lit≤}
use lib.ListN.{length, drop}
use Rattle.wire.proofs.Pairs.{both}
use Rattle.rules.specs.Rules.{Rules}
use Rattle.rules.specs.Word.{word_count}
use Rattle.shape.specs.declared.Family.TheVariants.{Cpa, Cpace}
use Rattle.shape.specs.declared.Shape.{Shape}
use Rattle.shape.specs.Shape.{based, selects, dates, families, scripts, logs}
use Rattle.state.specs.declared.State.{State}
use Rattle.conversation.specs.Events.{events_from}
use Rattle.lines.specs.Lines.{refusal_line}
use Rattle.lines.specs.Sitting.{sitting_lines}
use Rattle.spelling.specs.Spelling.{Bytes, big, record_of, unsaid, on, unshown, shown, Sent, names, brings, first, first_on, second, script}
use Rattle.spelling.specs.Spelling.{kind_of, body_of, spell_all, paper_of}
use Rattle.spelling.specs.Spelling.{by_name, by_file, undated, dated, cpa, cpace, unscripted, scripted, Manner, manner_in, Fits, AllFit}
use Rattle.spelling.specs.Faults.{Opens}
use Rattle.spelling.specs.Sitting.{SetUp, NotSetUp, no_log, PastSetUp, all_stand_for, happened, ended, sitting_of}
use Rattle.spelling.specs.Printed.{printed, body, sent, selection, selection_body, file, brought, calendar, calendar_body, dated_sent, cpace_paper, cpace_body, cpace_sent}
use Rattle.spelling.proofs.Lines.{events-spelled}
use Rattle.spelling.proofs.Papers.{lines_of_lem, fourteen_line}
use Rattle.spelling.proofs.Computed.{begun}
use Rattle.std.specs.Prelude.{None, Some}
use Rattle.shape.specs.Shape.{span}

are_bytes : List ℕ → Bool
are_bytes [] = true
are_bytes (b ∷ s) = ltb b 256 && are_bytes s

bytes_of : (s : List ℕ) → are_bytes s ≡ true → Bytes s
unfolding are_bytes
bytes_of [] e = tt
bytes_of (b ∷ s) e = let t = both (ltb b 256) (are_bytes s) e in (ltb-true b 256 t.0, bytes_of s t.1)

-- what is sent, spelled behind version and set-up, is the paper
pub spelled : paper_of 1 body (spell_all sent) ≡ printed
unfolding printed sent spell_all kind_of body_of record_of big
spelled = refl

pub long : length printed ≡ 242
unfolding printed
long = refl

pub bytes : Bytes printed
unfolding printed are_bytes
bytes = bytes_of printed refl

pub opens : Opens printed 1 body (spell_all sent)
unfolding printed sent spell_all kind_of body_of record_of big
opens = record { is = refl; least = lit≤ tt; most = lit≤ tt; short = lit≤ tt }

pub set_up_lem : SetUp 1 body (based 159)
unfolding printed begun
set_up_lem = record { shape_is = refl; base = refl; log = refl }

abbrev pub named : Manner
named = record { choice = by_name; dates = undated; family = cpa; scripts = unscripted }

pub fit : AllFit named sent
unfolding sent Fits
fit = (one, (buys 5000 (lit< tt), (one, (buys 1 (lit< tt), (cannot, (one, (buys 5000 (lit< tt), (cannot, tt)))))))) where
  one : Fits named (names unsaid 1)
  one = (tt, lit< tt)

  buys : (amount : ℕ) → amount < 256 ^ 8 → Fits named (first 1 amount 0x0978 0x22 unshown)
  buys amount h = ((lit< tt, h, lit< tt, lit< tt), tt)

  cannot : Fits named (second 1 0x5933 0 0)
  cannot = (lit< tt, lit< tt, lit< tt, lit< tt)

-- THE PRINTED SITTING: THE LINES OF THE 242 BYTES ARE THOSE OF THE EIGHT THAT WERE SENT, AND NO MORE
pub printed-lines : (words : List ℕ) → length words ≡ word_count
    → sitting_lines words printed ≡ sitting_of (based 159) body {manner = named} sent {rest = []} (ended refl)
printed-lines words lent =
    lines_of_lem words printed 1 body (spell_all sent) opens (based 159) set_up_lem bytes lent sent [] fit (ended refl) (sym (append-nil (spell_all sent)))

-- ---- the paper whose Starts bring the terminal's data

abbrev selective : Shape
selective = selects (based 266) 268 279 1

abbrev chosen : Manner
chosen = record { choice = by_file file 1; dates = undated; family = cpa; scripts = unscripted }

pub brought-spelled : paper_of 2 selection_body (spell_all brought) ≡ selection
unfolding selection brought spell_all kind_of body_of record_of big
brought-spelled = refl

pub brought-long : length selection ≡ 330
unfolding selection
brought-long = refl

pub brought-bytes : Bytes selection
unfolding selection are_bytes
brought-bytes = bytes_of selection refl

pub brought-opens : Opens selection 2 selection_body (spell_all brought)
unfolding selection brought spell_all kind_of body_of record_of big
brought-opens = record { is = refl; least = lit≤ tt; most = lit≤ tt; short = lit≤ tt }

pub brought_set_up : SetUp 2 selection_body selective
unfolding selection begun
brought_set_up = record { shape_is = refl; base = refl; log = refl }

pub brought_chosen : manner_in selective selection_body ≡ chosen
unfolding selection
brought_chosen = refl

pub brought_fit : AllFit chosen brought
unfolding brought Fits
brought_fit = (three 1 0 0x56 tt tt tt, (buys 5000 (lit< tt), (three 1 8 0x40 tt tt tt, (buys 1 (lit< tt), ((tt, lit< tt, (lit< tt, (lit< tt, tt))), tt))))) where
  three : (a b c : ℕ) → T (ltb a 256) → T (ltb b 256) → T (ltb c 256) → Fits chosen (brings unsaid (a ∷ b ∷ c ∷ []))
  three a b c p q r = (tt, lit< tt, (lit< p, (lit< q, (lit< r, tt))))

  buys : (amount : ℕ) → amount < 256 ^ 8 → Fits chosen (first 1 amount 0x0978 0x22 unshown)
  buys amount h = ((lit< tt, h, lit< tt, lit< tt), tt)

pub brought-lines : (words : List ℕ) → length words ≡ word_count
    → sitting_lines words selection ≡ sitting_of selective selection_body {manner = chosen} brought {rest = []} (ended refl)
unfolding selection
brought-lines words lent =
    lines_of_lem words selection 2 selection_body (spell_all brought) brought-opens selective brought_set_up brought-bytes lent brought []
    brought_fit (ended refl) (sym (append-nil (spell_all brought)))

-- ---- the paper whose Firsts have their dates

abbrev calendarly : Shape
calendarly = dates (based 159) (Some (span 161 207))

abbrev on_days : Manner
on_days = record { choice = by_name; dates = dated; family = cpa; scripts = unscripted }

pub dated-spelled : paper_of 4 calendar_body (spell_all dated_sent) ≡ calendar
unfolding calendar dated_sent spell_all kind_of body_of record_of big
dated-spelled = refl

pub dated-long : length calendar ≡ 343
unfolding calendar
dated-long = refl

pub dated-bytes : Bytes calendar
unfolding calendar are_bytes
dated-bytes = bytes_of calendar refl

pub dated-opens : Opens calendar 4 calendar_body (spell_all dated_sent)
unfolding calendar dated_sent spell_all kind_of body_of record_of big
dated-opens = record { is = refl; least = lit≤ tt; most = lit≤ tt; short = lit≤ tt }

pub dated_set_up : SetUp 4 calendar_body calendarly
unfolding calendar begun
dated_set_up = record { shape_is = refl; base = refl; log = refl }

pub dated_manner : manner_in calendarly calendar_body ≡ on_days
dated_manner = refl

pub dated_fit : AllFit on_days dated_sent
unfolding dated_sent Fits
dated_fit = (
  one,
  (
    buys 0x07 0x15 6000 tt tt tt,
    (
      one,
      (
        buys 0x07 0x15 4001 tt tt tt,
        (
          one,
          (
            buys 0x07 0x15 4000 tt tt tt,
            (one, (buys 0x07 0x16 5001 tt tt tt, (one, (buys 0x07 0x16 5000 tt tt tt, (one, (buys 0x08 0x01 10000 tt tt tt, tt)))))),
          ),
        ),
      ),
    ),
  ),
)
  where
    one : Fits on_days (names unsaid 1)
    one = (tt, lit< tt)

    buys : (month day amount : ℕ) → T (ltb month 256) → T (ltb day 256) → T (ltb amount (256 ^ 8))
        → Fits on_days (first_on (record { year = 0x05; month = month; day = day }) 1 amount 0x0978 0x22 unshown)
    buys month day amount p q r = ((lit< tt, lit< r, lit< tt, lit< tt), (lit< tt, lit< p, lit< q), tt)

pub dated-lines : (words : List ℕ) → length words ≡ word_count
    → sitting_lines words calendar ≡ sitting_of calendarly calendar_body {manner = on_days} dated_sent {rest = []} (ended refl)
unfolding calendar
dated-lines words lent =
    lines_of_lem words calendar 4 calendar_body (spell_all dated_sent) dated-opens calendarly dated_set_up dated-bytes lent dated_sent []
    dated_fit (ended refl) (sym (append-nil (spell_all dated_sent)))

-- ---- the paper of a CPACE card

abbrev cpacely : Shape
cpacely = families (based 159) (Cpace 162 172)

abbrev presenting : Manner
presenting = record { choice = by_name; dates = undated; family = cpace; scripts = unscripted }

pub cpace-spelled : paper_of 5 cpace_body (spell_all cpace_sent) ≡ cpace_paper
unfolding cpace_paper cpace_sent spell_all kind_of body_of record_of big
cpace-spelled = refl

pub cpace-long : length cpace_paper ≡ 359
unfolding cpace_paper
cpace-long = refl

pub cpace-bytes : Bytes cpace_paper
unfolding cpace_paper are_bytes
cpace-bytes = bytes_of cpace_paper refl

pub cpace-opens : Opens cpace_paper 5 cpace_body (spell_all cpace_sent)
unfolding cpace_paper cpace_sent spell_all kind_of body_of record_of big
cpace-opens = record { is = refl; least = lit≤ tt; most = lit≤ tt; short = lit≤ tt }

pub cpace_set_up : SetUp 5 cpace_body cpacely
unfolding cpace_paper begun
cpace_set_up = record { shape_is = refl; base = refl; log = refl }

pub cpace_manner : manner_in cpacely cpace_body ≡ presenting
cpace_manner = refl

pub cpace_fit : AllFit presenting cpace_sent
unfolding cpace_sent Fits
cpace_fit = (start 0 tt, (pays 1 0x1F 0x00 1 tt tt tt tt, (cannot 0 0x5A33 tt tt, (start 0 tt, (buys 0x1F 0x00 tt tt, later))))) where
  start : (interface : ℕ) → T (ltb interface 256) → Fits presenting (names (on interface) 1)
  start interface h = (lit< h, lit< tt)

  pays : (amount r1 r3 cashback : ℕ) → T (ltb amount (256 ^ 8)) → T (ltb r1 256) → T (ltb r3 256) → T (ltb cashback (256 ^ 6))
      → Fits presenting (first 1 amount 0x0978 0x22 (shown r1 0x03 r3 cashback))
  pays amount r1 r3 cashback p q r s = ((lit< tt, lit< p, lit< tt, lit< tt), (lit< q, lit< tt, lit< r, lit< s))

  buys : (r1 r3 : ℕ) → T (ltb r1 256) → T (ltb r3 256) → Fits presenting (first 1 6000 0x0978 0x22 (shown r1 0x03 r3 0))
  buys r1 r3 q r = pays 6000 r1 r3 0 tt q r tt

  cannot : (type code : ℕ) → T (ltb type 256) → T (ltb code (256 ^ 2)) → Fits presenting (second type code 0 0)
  cannot type code p q = (lit< p, lit< q, lit< tt, lit< tt)

  later : AllFit presenting (drop 5 cpace_sent)
  later = (
    start 1 tt,
    (
      buys 0x42 0x00 tt tt,
      (
        cannot 1 0x5933 tt tt,
        (start 1 tt, (buys 0x1E 0x00 tt tt, (start 1 tt, (buys 0x1E 0x02 tt tt, ((lit< tt, lit< tt, lit< tt, lit< tt), (start 2 tt, tt)))))),
      ),
    ),
  )

pub cpace-lines : (words : List ℕ) → length words ≡ word_count
    → sitting_lines words cpace_paper ≡ sitting_of cpacely cpace_body {manner = presenting} cpace_sent {rest = []} (ended refl)
unfolding cpace_paper
cpace-lines words lent =
    lines_of_lem words cpace_paper 5 cpace_body (spell_all cpace_sent) cpace-opens cpacely cpace_set_up cpace-bytes lent cpace_sent []
    cpace_fit (ended refl) (sym (append-nil (spell_all cpace_sent)))

-- ---- records with a script, where scripts are on

abbrev scriptly : Shape
scriptly = scripts (based 0) true

abbrev issuing : Manner
issuing = record { choice = by_name; dates = undated; family = cpa; scripts = scripted }

abbrev issued : List Sent
issued = names unsaid 1 ∷ script 1 (0x71 ∷ 0x00 ∷ []) ∷ []

pub script-spelled : spell_all issued ≡ 0 ∷ 2 ∷ 2 ∷ 1 ∷ 0 ∷ 4 ∷ 5 ∷ 1 ∷ 0x71 ∷ 0x00 ∷ []
unfolding spell_all kind_of body_of record_of big
script-spelled = refl

pub script_fit : AllFit issuing issued
unfolding Fits
script_fit = ((tt, lit< tt), ((lit< tt, lit< tt, (lit< tt, (lit< tt, tt))), tt))

pub script-events : (rules : Rules) (state : State)
    → events_from 10 rules scriptly state (spell_all issued) 0 ≡ happened rules state (all_stand_for rules issuing state issued) ++ []
script-events rules state =
    events-spelled scriptly (spell_all issued) tt issued 10 rules state 0 script_fit [] (ended refl) (sym (append-nil (spell_all issued)))
    (rw script-spelled (omega arith))

-- ---- papers of version 07: the printed set-up, and behind it every tail off up to the log; sitting E's log, which is taken, sitting G's, whose last
-- entry reaches past Second's 8 bytes, and one with a ring of 21

abbrev pub with_log : (log : List ℕ) → List ℕ
with_log log = body ++ 0 ∷ 0 ∷ 0 ∷ 0 ∷ 0 ∷ log

abbrev pub kept : List ℕ
kept = 1 ∷ 2 ∷ 0xDC ∷ 1 ∷ 1 ∷ 0 ∷ 12 ∷ 1 ∷ 3 ∷ 0 ∷ 12 ∷ 1 ∷ 1 ∷ 2 ∷ 2 ∷ 1 ∷ 0 ∷ 9 ∷ []

abbrev past : List ℕ
past = 1 ∷ 0 ∷ 0 ∷ 0 ∷ 0 ∷ 2 ∷ 1 ∷ 9 ∷ 0 ∷ 1 ∷ 8 ∷ 2 ∷ []

abbrev wrong : List ℕ
wrong = 1 ∷ 21 ∷ 0 ∷ 0 ∷ 0 ∷ 0 ∷ []

abbrev pub logging : (end : ℕ) → Shape
logging end = logs (families (dates (based 159) None) Cpa) (Some (span 164 end))

unfoldable pub logged_paper : List ℕ
unfolding printed sent spell_all kind_of body_of record_of big
logged_paper = paper_of 7 (with_log kept) (spell_all sent)

pub logged-bytes : Bytes logged_paper
unfolding logged_paper are_bytes
logged-bytes = bytes_of logged_paper refl

pub logged-opens : Opens logged_paper 7 (with_log kept) (spell_all sent)
unfolding logged_paper
logged-opens = record { is = refl; least = lit≤ tt; most = lit≤ tt; short = lit≤ tt }

pub logged_set_up : SetUp 7 (with_log kept) (logging 182)
unfolding printed begun
logged_set_up = record { shape_is = refl; base = refl; log = refl }

-- ITS LINES ARE THOSE OF WHAT WAS SENT
pub logged-lines : (words : List ℕ) → length words ≡ word_count
    → sitting_lines words logged_paper ≡ sitting_of (logging 182) (with_log kept) {manner = named} sent {rest = []} (ended refl)
logged-lines words lent =
    lines_of_lem words logged_paper 7 (with_log kept) (spell_all sent) logged-opens (logging 182) logged_set_up logged-bytes lent sent [] fit (ended refl)
    (sym (append-nil (spell_all sent)))

pub past_set_up : PastSetUp 7 (with_log past)
unfolding printed begun
past_set_up = record { shape = logging 176; shape_is = refl; base = refl; log = refl }

-- THE ONE LINE 0 14
pub past-line : (words : List ℕ) → sitting_lines words (paper_of 7 (with_log past) []) ≡ refusal_line 0 14 ∷ []
unfolding printed record_of big
past-line words =
    fourteen_line words (paper_of 7 (with_log past) []) 7 (with_log past) [] (record { is = refl; least = lit≤ tt; most = lit≤ tt; short = lit≤ tt }) past_set_up

pub wrong_log : NotSetUp 7 (with_log wrong)
unfolding printed begun
wrong_log = no_log (logging 170) refl refl
