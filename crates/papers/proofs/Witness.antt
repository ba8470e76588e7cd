-- The premises are met: by the printed sitting, its 242 bytes and the 322 bytes of its lines; by a paper whose Starts bring the terminal's data; by
-- one of version 03; by one whose Firsts have their dates; by a CPACE card's; by one with a script; and by one with a log. Assumes nothing.
use mathlib.Core.Path.{◌≡◌, refl, sym, ap, ◌∙◌}
use mathlib.Core.Bool.{Bool, true, false, ◌&&◌}
use mathlib.Core.List.{List, [], ◌∷◌, append-nil}
use Prim.Native.Nat.{ℕ, ◌^◌}
use borrow.Author.Tests.{ltb-true}
use lib.Dec.{lit≤, ltb}
use lib.ListN.{length, take, drop, take-append-drop}
use Rattle.wire.specs.Wire.{number}
use Rattle.wire.proofs.Pairs.{both}
use Rattle.refusal.specs.declared.Refusal.TheVariants.{OutOfTurn}
use Rattle.rules.specs.Word.{word_count}
use Rattle.cpace.specs.declared.Cvm.TheVariants.{NoCvm}
use Rattle.purchase.specs.Meter.{Meter, accumulator, cyclic}
use Rattle.shape.specs.declared.Family.TheVariants.{Cpace}
use Rattle.shape.specs.Shape.{based, selects, dates, families}
use Rattle.state.specs.declared.Answer.{Answer}
use Rattle.state.specs.declared.Answer.TheVariants.{Refused}
use Rattle.card.specs.Message.{Message, FirstCommand}
use Rattle.records.specs.declared.Event.{Event}
use Rattle.records.specs.declared.Event.TheVariants.{SetUp}
use Rattle.lines.specs.Sitting.{sitting_lines}
use Rattle.demands.specs.Conversation.{Exchange, run, rules_by, sat}
use Rattle.demands.specs.Audit.{in_force, place_by, upper_of, approves, bought, takes_part}
use Rattle.demands.specs.Guards.{Guards}
use Rattle.demands.specs.Printed.{first, second, commands}
use Rattle.demands.specs.Printed as D
use Rattle.demands.proofs.Computed.{computed}
use Rattle.demands.proofs.Sittings.{template_of, limit}
use Rattle.rows.specs.Rows.{setup_row, head_row, profile_row, spelled, written}
use Rattle.rows.specs.Rows as Rows
use Rattle.rows.specs.Tails.{off, Tail, third, sixth}
use Rattle.rows.specs.Whole.{whole_body}
use Rattle.rows.proofs.Witness as R
use Rattle.spelling.specs.Spelling.{Bytes, big, record_of, spell_all, paper_of, by_name, by_file, undated, dated, cpa, cpace, unscripted, scripted, Manner}
use Rattle.spelling.specs.Spelling.{Sent, names, first as said-first, second as said-second, script, unsaid, unshown, kind_of, body_of, stands_for}
use Rattle.spelling.specs.Sitting.{all_stand_for}
use Rattle.spelling.specs.Printed.{printed, body, sent, printed_lines, selection, selection_body, file, brought, calendar, calendar_body, dated_sent}
use Rattle.spelling.specs.Printed.{cpace_paper, cpace_body, cpace_sent}
use Rattle.spelling.proofs.Witness as W
use Rattle.spelling.proofs.Text.{printed-text}
use Rattle.papers.specs.Papers.{entries_long, setup_of, manner_of, choice_of, Accepted, front_of, meant, walk, walked, commands_of, faulty}
use Rattle.papers.specs.Talk.{all_answered, talk, commands_in, CutBehind, CutBehindOne, newest}
use Rattle.papers.specs.Lines.{text}
use Rattle.papers.proofs.Talk.{answered_both, said_both, talk-said}
use Rattle.papers.proofs.Events.{accepted_if_taken, events-are}
use Rattle.std.specs.Prelude.{Some}
use Rattle.shape.specs.Shape.{span}

-- ---- the printed sitting

-- IT IS ACCEPTED
pub accepted : Accepted printed
accepted = accepted_if_taken printed W.bytes 1 body (spell_all sent) W.opens (based 159) W.set_up_lem

-- ITS SET-UP AND ITS COMMANDS, from its bytes; it ends without a fault
pub its-setup : setup_of printed ≡ record { bytes = D.body; tail = []; family = []; syllabus = 0; unnamed = 2 ^ 22; written = [] }
unfolding printed D.body setup_of entries_long number
its-setup = refl

pub its-commands : commands_of printed ≡ commands
unfolding printed commands manner_of entries_long number front_of meant walk walked
its-commands = refl

pub no_fault : faulty printed ≡ false
unfolding printed manner_of entries_long number front_of meant walk walked
no_fault = refl

-- 242 BYTES, AND 322 OF LINES
pub its-size : length printed ≡ 242
its-size = W.long

pub its-text : (words : List ℕ) → length words ≡ word_count → length (text (sitting_lines words printed)) ≡ 322
unfolding printed_lines
its-text words lent = ap (λ (l : List (List ℕ)). length (text l)) (printed-text words lent)

-- ---- its events, cut behind so many answers

-- all that is said in a paper's sitting
abbrev pub said_in : (paper : List ℕ) → List Exchange
said_in paper = talk (setup_of paper) (commands_of paper)

abbrev said : List Exchange
said = said_in printed

cut_in : (words paper : List ℕ) → length words ≡ word_count → Bytes paper → Accepted paper → faulty paper ≡ false → (n : ℕ)
    → CutBehind words paper (take n (said_in paper)) (all_answered (drop n (said_in paper)))
cut_in words paper lent bytes a none n =
    let all = said_in paper in
    let both = sym (take-append-drop n all) in
    record {
      events =
          events-are words paper lent bytes a
          ∙ ap (λ (l : List Event). SetUp ∷ l)
          (rw none (append-nil (all_answered all)) ∙ ap all_answered both ∙ answered_both (take n all) (drop n all));
      left = commands_in (drop n all);
      commands = sym (talk-said (setup_of paper) (commands_of paper)) ∙ ap commands_in both ∙ said_both (take n all) (drop n all);
    }

pub cut-behind : (words : List ℕ) → length words ≡ word_count → (n : ℕ) → CutBehind words printed (take n said) (all_answered (drop n said))
cut-behind words lent n = cut_in words printed lent W.bytes accepted no_fault n

-- an offline approval under a guarding profile stands behind so many answers
pub record Approval (words paper : List ℕ) (meter : Meter) (n : ℕ) (command : Message) : Type 0 where
  pub answer : Answer
  pub more : List Event
  pub cut : CutBehindOne words paper (take n (said_in paper)) command answer more
  pub guards : Guards (in_force (setup_of paper) (newest (take n (said_in paper)))) (place_by (setup_of paper) (newest (take n (said_in paper)))) meter
  pub approves_it : approves command answer ≡ true
  pub takes_part_lem : takes_part (bought (setup_of paper) (record { command = command; answer = answer } ∷ newest (take n (said_in paper)))) meter ≡ true

abbrev answer_of : List Exchange → Answer
answer_of [] = Refused OutOfTurn
answer_of (x ∷ more) = x.answer

-- AT FIRST, AND AT SECOND AFTER Y3
pub at_first : (words : List ℕ) → length words ≡ word_count → Approval words printed (accumulator 0) 1 (first 5000)
unfolding printed setup_of manner_of entries_long number front_of meant walk walked talk computed
at_first words lent =
    record {
      answer = answer_of (drop 1 said);
      more = all_answered (drop 2 said);
      cut = cut-behind words lent 2;
      guards = record { active = refl; included = refl; decline = refl; default = refl };
      approves_it = refl;
      takes_part_lem = refl;
    }

pub at_second : (words : List ℕ) → length words ≡ word_count → Approval words printed (accumulator 0) 4 second
unfolding printed setup_of manner_of entries_long number front_of meant walk walked talk computed
at_second words lent =
    record {
      answer = answer_of (drop 4 said);
      more = all_answered (drop 5 said);
      cut = cut-behind words lent 5;
      guards = record { active = refl; included = refl; decline = refl; default = refl };
      approves_it = refl;
      takes_part_lem = refl;
    }

-- AND THE LAST SECOND IS REFUSED
pub refused-there : (words : List ℕ) → length words ≡ word_count → CutBehindOne words printed (take 7 said) second (Refused OutOfTurn) []
unfolding printed setup_of manner_of entries_long number front_of meant walk walked talk computed
refused-there words lent = cut-behind words lent 8

-- ---- the paper whose Starts bring the terminal's data

-- what is sent stands for these commands at a paper's card
abbrev stand_in : (paper : List ℕ) → Manner → List Sent → List Message
stand_in paper manner xs = all_stand_for (rules_by (setup_of paper)) manner (sat (setup_of paper) []).state xs

pub brought-accepted : Accepted selection
brought-accepted =
    accepted_if_taken selection W.brought-bytes 2 selection_body (spell_all brought) W.brought-opens (selects (based 266) 268 279 1) W.brought_set_up

pub brought-choice : choice_of selection ≡ by_file file 1
unfolding selection manner_of entries_long number
brought-choice = refl

pub brought-commands : commands_of selection ≡ stand_in selection (record { choice = by_file file 1; dates = undated; family = cpa; scripts = unscripted }) brought
unfolding selection brought manner_of entries_long number front_of meant walk walked stands_for all_stand_for run
brought-commands = refl

-- ---- a paper of version 03: the printed set-up, selection off, syllabus 1

unfoldable pub latest : List ℕ
latest = paper_of 3 (whole_body R.printed (third off 1)) []

pub latest-accepted : Accepted latest
unfolding latest R.printed record_of big setup_row head_row profile_row spelled written
latest-accepted =
    record {
      version = 3;
      body = whole_body R.printed (third off 1);
      rest = [];
      opens = record { is = refl; least = lit≤ tt; most = lit≤ tt; short = lit≤ tt };
      set_up_lem =
          record {
            fields =
                record {
                  setup = R.printed;
                  tail = third off 1;
                  version-is = refl;
                  fits = R.printed-fits;
                  in_range_lem = R.printed_in_range;
                  fine = (tt, lit≤ tt);
                  dates_in_range = tt;
                  families_in_range = tt;
                  logs_in_range = tt;
                  spelled = refl;
                };
            within = tt;
          };
    }

pub latest-setup : setup_of latest ≡ record { bytes = D.body; tail = []; family = []; syllabus = 1; unnamed = 2 ^ 22; written = [] }
unfolding latest R.printed record_of big setup_row head_row profile_row spelled written D.body setup_of entries_long number
latest-setup = refl

-- ---- the paper whose Firsts have their dates

pub dated-accepted : Accepted calendar
dated-accepted =
    accepted_if_taken calendar W.dated-bytes 4 calendar_body (spell_all dated_sent) W.dated-opens (dates (based 159) (Some (span 161 207))) W.dated_set_up

-- its base has 159 bytes, and its tail of version 04, behind one byte for selection and one for the syllabus, 46
pub dated-setup : setup_of calendar
    ≡ record { bytes = take 159 (drop 4 calendar); tail = take 46 (drop 165 calendar); family = []; syllabus = 0; unnamed = 2 ^ 25; written = [] }
unfolding calendar setup_of entries_long number
dated-setup = refl

abbrev on_days : Manner
on_days = record { choice = by_name; dates = dated; family = cpa; scripts = unscripted }

pub dated_manner : manner_of calendar ≡ on_days
unfolding calendar manner_of entries_long number
dated_manner = refl

pub dated-commands : commands_of calendar ≡ stand_in calendar on_days dated_sent
unfolding calendar dated_sent manner_of entries_long number front_of meant walk walked stands_for all_stand_for
dated-commands = refl

pub dated_no_fault : faulty calendar ≡ false
unfolding calendar manner_of entries_long number front_of meant walk walked
dated_no_fault = refl

-- an approval of the day and of the month, and the one that begins a month
abbrev bought-on : (month day amount : ℕ) → Message
bought-on month day amount =
    FirstCommand (record {
      requested = 1;
      amount = record { 0 = amount };
      currency = 0x0978;
      terminal = 0x22;
      when = Some (record { year = 0x05; month = month; day = day });
      cvm = NoCvm;
      cashback = false;
    })

pub in_a_day : (words : List ℕ) → length words ≡ word_count → Approval words calendar (cyclic 0) 1 (bought-on 0x07 0x15 6000)
unfolding calendar setup_of manner_of entries_long number front_of meant walk walked talk computed
in_a_day words lent =
    record {
      answer = answer_of (drop 1 (said_in calendar));
      more = all_answered (drop 2 (said_in calendar));
      cut = cut_in words calendar lent W.dated-bytes dated-accepted dated_no_fault 2;
      guards = record { active = refl; included = refl; decline = refl; default = refl };
      approves_it = refl;
      takes_part_lem = refl;
    }

pub in_a_month : (words : List ℕ) → length words ≡ word_count → Approval words calendar (cyclic 1) 11 (bought-on 0x08 0x01 10000)
unfolding calendar setup_of manner_of entries_long number front_of meant walk walked talk computed
in_a_month words lent =
    record {
      answer = answer_of (drop 11 (said_in calendar));
      more = all_answered (drop 12 (said_in calendar));
      cut = cut_in words calendar lent W.dated-bytes dated-accepted dated_no_fault 12;
      guards = record { active = refl; included = refl; decline = refl; default = refl };
      approves_it = refl;
      takes_part_lem = refl;
    }

-- ---- the paper of a CPACE card

pub cpace-accepted : Accepted cpace_paper
cpace-accepted =
    accepted_if_taken cpace_paper W.cpace-bytes 5 cpace_body (spell_all cpace_sent) W.cpace-opens (families (based 159) (Cpace 162 172)) W.cpace_set_up

-- its base has 159 bytes, and its tail of version 05, behind one byte each for selection, syllabus and dates, 10
pub cpace-setup : setup_of cpace_paper
    ≡ record { bytes = take 159 (drop 4 cpace_paper); tail = []; family = take 10 (drop 166 cpace_paper); syllabus = 0; unnamed = 2 ^ 26; written = [] }
unfolding cpace_paper setup_of entries_long number
cpace-setup = refl

abbrev presenting : Manner
presenting = record { choice = by_name; dates = undated; family = cpace; scripts = unscripted }

pub cpace_manner : manner_of cpace_paper ≡ presenting
unfolding cpace_paper manner_of entries_long number
cpace_manner = refl

pub cpace-commands : commands_of cpace_paper ≡ stand_in cpace_paper presenting cpace_sent
unfolding cpace_paper cpace_sent manner_of entries_long number front_of meant walk walked stands_for all_stand_for
cpace-commands = refl

pub cpace_no_fault : faulty cpace_paper ≡ false
unfolding cpace_paper manner_of entries_long number front_of meant walk walked
cpace_no_fault = refl

-- ---- a paper of version 06: the printed set-up with scripts on, and between First and Second a script that sets accumulator 1's upper limit to 6,000

abbrev scripts_tail : Tail
scripts_tail = sixth off 0 Rows.undated Rows.cpa true

abbrev limited_sent : List Sent
limited_sent = names unsaid 1 ∷ said-first 1 5001 0x0978 0x22 unshown ∷ script 1 (template_of (limit 1 0x50 0x00 0x60 0x00 ∷ [])) ∷ said-second 1 0x5933 0 0 ∷ []

unfoldable pub limited : List ℕ
unfolding R.printed record_of big setup_row head_row profile_row spelled written spell_all kind_of body_of
limited = paper_of 6 (whole_body R.printed scripts_tail) (spell_all limited_sent)

unfoldable pub are_bytes : List ℕ → Bool
are_bytes [] = true
are_bytes (b ∷ s) = ltb b 256 && are_bytes s

pub bytes_of : (s : List ℕ) → are_bytes s ≡ true → Bytes s
unfolding are_bytes
bytes_of [] e = tt
bytes_of (b ∷ s) e = let t = both (ltb b 256) (are_bytes s) e in (ltb-true b 256 t.0, bytes_of s t.1)

pub limited_bytes : Bytes limited
unfolding limited are_bytes
limited_bytes = bytes_of limited refl

pub limited_accepted : Accepted limited
unfolding limited
limited_accepted =
    record {
      version = 6;
      body = whole_body R.printed scripts_tail;
      rest = spell_all limited_sent;
      opens = record { is = refl; least = lit≤ tt; most = lit≤ tt; short = lit≤ tt };
      set_up_lem =
          record {
            fields =
                record {
                  setup = R.printed;
                  tail = scripts_tail;
                  version-is = refl;
                  fits = R.printed-fits;
                  in_range_lem = R.printed_in_range_5;
                  fine = (tt, lit≤ tt, tt, tt);
                  dates_in_range = tt;
                  families_in_range = tt;
                  logs_in_range = tt;
                  spelled = refl;
                };
            within = tt;
          };
    }

abbrev issuing : Manner
issuing = record { choice = by_name; dates = undated; family = cpa; scripts = scripted }

pub limited_manner : manner_of limited ≡ issuing
unfolding limited manner_of entries_long number
limited_manner = refl

pub limited_commands : commands_of limited ≡ stand_in limited issuing limited_sent
unfolding limited manner_of entries_long number front_of meant walk walked stands_for all_stand_for
limited_commands = refl

pub limited_no_fault : faulty limited ≡ false
unfolding limited manner_of entries_long number front_of meant walk walked
limited_no_fault = refl

-- THE UPPER LIMIT IN FORCE AT THE APPROVAL IS THE ONE THAT THE SCRIPT WROTE
pub at-written-limit : (words : List ℕ) → length words ≡ word_count → Approval words limited (accumulator 0) 3 second
unfolding limited setup_of manner_of entries_long number front_of meant walk walked talk computed
at-written-limit words lent =
    record {
      answer = answer_of (drop 3 (said_in limited));
      more = all_answered (drop 4 (said_in limited));
      cut = cut_in words limited lent limited_bytes limited_accepted limited_no_fault 4;
      guards = record { active = refl; included = refl; decline = refl; default = refl };
      approves_it = refl;
      takes_part_lem = refl;
    }

abbrev so_far : List Exchange
so_far = newest (take 3 (said_in limited))

pub written-limit : upper_of (in_force (setup_of limited) so_far) (place_by (setup_of limited) so_far) (accumulator 0) ≡ 6000
unfolding limited setup_of manner_of entries_long number front_of meant walk walked talk computed
written-limit = refl

-- ---- a paper of version 07: the printed sitting with a log

pub logged-accepted : Accepted W.logged_paper
logged-accepted =
    accepted_if_taken W.logged_paper W.logged-bytes 7 (W.with_log W.kept) (spell_all sent) W.logged-opens (W.logging 182) W.logged_set_up

pub logged-setup : setup_of W.logged_paper ≡ record { bytes = D.body; tail = []; family = []; syllabus = 0; unnamed = 2 ^ 26; written = [] }
unfolding W.logged_paper D.body setup_of entries_long number
logged-setup = refl

pub logged-commands : commands_of W.logged_paper ≡ commands
unfolding W.logged_paper commands manner_of entries_long number front_of meant walk walked
logged-commands = refl
