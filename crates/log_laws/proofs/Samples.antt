-- A paper with a log (docs/PAPERS.md), from its bytes to the lines of its log, worked out; and with a byte more, which ends it. Then logs from records
-- and their lines: of a wrong card these rows are shown to be false. Assumes nothing.
use mathlib.Core.Path.{◌≡◌, refl, ap, ◌∙◌}
use mathlib.Core.Bool.{Bool, true, false, cond, ◌&&◌}
use mathlib.Core.List.{List, [], ◌∷◌, ◌++◌}
use Prim.Native.Nat.{ℕ, ◌+◌, ◌*◌, ◌-◌, ◌<◌}
use Prim.Native.Char.{code}
use Prim.Native.String.{String, [] as ε, ◌∷◌ as ◌⊳◌}
use native.Mathlib.Omega.{arith}
use borrow.Author.Tests.{ltb-true}
use lib.Dec.{T, eqb, leb, ltb}
use lib.ListN.{length}
use Rattle.text.specs.Text.{joined}
use Rattle.rules.specs.Rules.{blank_words}
use Rattle.conversation.specs.Events.{events_of}
use Rattle.second.specs.Second.{second_performed, unable_performed}
use Rattle.closing.specs.Closing.{closed}
use Rattle.card.specs.Card.{second_step}
use Rattle.spelling.proofs.Computed.{answered}
use Rattle.wire.specs.Wire.{byte, number}
use Rattle.paper.specs.Paper.{next_at, place_after}
use Rattle.hex_digits.specs.Hex.{hex}
use Rattle.numerals.specs.Numeral.{digits_of, numeral}
use Rattle.field.specs.Field.{stretch_of, field_of}
use Rattle.ring.specs.Ring.{no_records, record_in, record_put, added_in, added, count_in, found}
use Rattle.journal.specs.Journal.{is_logging, closed_by, noted, watched}
use Rattle.journal.specs.Logged.{cvr_number, cryptogram, first_in, logged_in}
use Rattle.log_tail.specs.LogTail.{entry_in}
use Rattle.log_bytes.specs.LogBytes.{octets}
use Rattle.log_fields.specs.LogFields.{part_of, field_in}
use Rattle.log_values.specs.LogValues.{purchase_text, answer_text}
use Rattle.log_lines.specs.LogLines.{field_texts, fields_text, values_text, log_line}
use Rattle.paper_log.specs.declared.Log.{Log}
use Rattle.paper_log.specs.Log.{log_of}
use Rattle.log_text.specs.LogText.{lines_up_to, log_lines, log_text}
use Rattle.replies.specs.Replies.{place_of, before, behind, pair_at, decimal_from, cvr_in, reply_in, is_ending}
use Rattle.log_book.specs.Logbook.{lines_in, watched_line, ring_by}
use Rattle.spelling.specs.Spelling.{Bytes}
use Rattle.transcript.specs.Transcript.{transcript_of}
use Rattle.paper_text.specs.PaperText.{log_behind}
use Rattle.log_laws.specs.Spoken.{seen_from, is_whole}
use Rattle.log_laws.specs.Owed.{log_in, seen_in, logged_of, lines_from, newest_lines, whole_lines, log_owed}
use Rattle.log_laws.proofs.Text.{every_log}

-- a text's bytes; and bytes by their digits
abbrev text : String → List ℕ
text ε = []
text (c ⊳ s) = code c ∷ text s

abbrev value : ℕ → ℕ
value digit = cond (leb digit 57) (digit - 48) (digit - 55)

unfoldable pairs : List ℕ → List ℕ
pairs [] = []
pairs (high ∷ []) = []
pairs (high ∷ low ∷ more) = (value high * 16 + value low) ∷ pairs more

abbrev bytes : String → List ℕ
bytes s = pairs (text s)

-- document 01's sitting with a log of two records: three transactions, the last of them an AAC, and then a Second out of turn
unfoldable pub paper : List ℕ
unfolding pairs
paper =
    bytes "0700B701"
    ++ bytes "0103000100000000"
    ++ bytes "0978000000000000000000000000000000000000000000000000000000000000000000000000000000000000"
    ++ bytes "010000004000000400000004000000000000000000000000070000000000001388000000000000271000000000000000000000000000"
    ++ bytes "000000000000000000000000000000000000000000000000000000000000000000000000000003FFFF000000000000000000010100"
    ++ bytes "00000000000102DC0101000C0103000C01010202010009"
    ++ bytes "00020201" ++ bytes "000D03010000000000001388097822"
    ++ bytes "00020201" ++ bytes "000D03010000000000000001097822" ++ bytes "0009040159330000000000"
    ++ bytes "00020201" ++ bytes "000D03010000000000001388097822" ++ bytes "0009040159330000000000"

-- the premises are met: they are bytes, and version 07's
are_bytes : List ℕ → Bool
are_bytes [] = true
are_bytes (b ∷ s) = cond (ltb b 256) (are_bytes s) false

one_byte : (b : ℕ) (s : List ℕ) (small : Bool) → ltb b 256 ≡ small → cond small (are_bytes s) false ≡ true → (b < 256) × (are_bytes s ≡ true)
one_byte b s true l e = (ltb-true b 256 l, e)
one_byte b s false l e = let z : ◌≡◌ {A = ℕ} 0 1 = cc in absurd (omega arith)

bytes_of : (s : List ℕ) → are_bytes s ≡ true → Bytes s
unfolding are_bytes
bytes_of [] e = tt
bytes_of (b ∷ s) e = let one = one_byte b s (ltb b 256) refl e in (one.0, bytes_of s one.1)

-- the log of records behind a tail, by the lines that answered them; of one profile, 1, which logs
abbrev log_from : (tail : List ℕ) → Log
log_from tail =
    record {
      logging =
          record { size = byte tail 1; switches = byte tail 2; numbers = 1 ∷ 0 ∷ 0 ∷ 0 ∷ []; logs = true ∷ false ∷ false ∷ false ∷ [] };
      form = record { profiles = 1; dated = false; cpace = false };
      start = 0;
      end = length tail;
    }

abbrev shown : (tail records lines : List ℕ) → List ℕ
shown tail records lines =
    let log = log_from tail in
    let paper = tail ++ records in
    log_text log paper (ring_by log.logging paper (length tail) (lines_in lines) no_records)

-- the tail of that paper, its first records, and their lines
unfoldable pub tail : List ℕ
unfolding pairs
tail = bytes "0102DC0101000C0103000C01010202010009"

unfoldable pub records : List ℕ
unfolding pairs
records =
    bytes "00020201" ++ bytes "000D03010000000000001388097822"
    ++ bytes "00020201" ++ bytes "000D03010000000000000001097822" ++ bytes "0009040159330000000000"
    ++ bytes "00020201" ++ bytes "000D03010000000000001388097822" ++ bytes "0009040159330000000000"

abbrev lines : List ℕ
lines =
    text "1 0 1\n2 0 40 1 0FA501903000000000000000500001000F010000000000000000000000000000\n"
    ++ text "3 0 2\n4 0 80 2 0FA501A03020000000000000500001000F010000000000000000000000000000\n"
    ++ text "5 0 40 2 0FA501623020010000000000500102000F010000000000000000000000000000\n"
    ++ text "6 0 3\n7 0 00 3 0FA501823130000000000000500102000F010000000000000000000000000000\n8 2\n"

-- a First of 5,000 between a First of 1, which is an ARQC, and its Second: it is refused
unfoldable pub again : List ℕ
unfolding pairs
again =
    bytes "00020201" ++ bytes "000D03010000000000000001097822" ++ bytes "000D03010000000000001388097822" ++ bytes "0009040159330000000000"

abbrev again_lines : List ℕ
again_lines =
    text "1 0 1\n2 0 80 1 0FA501A03020000000000000500001000F010000000000000000000000000000\n3 2\n"
    ++ text "4 0 40 1 0FA501623020010000000000500102000F010000000000000000000000000000\n"

-- approvals, offline ones only: one at First, one online, one after Z3, and a decline
unfoldable pub offline-tail : List ℕ
unfolding pairs
offline-tail = bytes "011478010001010504"

unfoldable pub offline : List ℕ
unfolding pairs
offline =
    bytes "00020201" ++ bytes "000D03010000000000000064097822"
    ++ bytes "00020201" ++ bytes "000D030200000000000000C8097822" ++ bytes "0009040130300100800000"
    ++ bytes "00020201" ++ bytes "000D0302000000000000012C097822" ++ bytes "000904015A330212345678"
    ++ bytes "00020201" ++ bytes "000D03000000000000000190097822"

abbrev offline-lines : List ℕ
offline-lines =
    text "1 0 1\n2 0 40 1 0FA501903000000000000000010001000F010000000000000000000000000000\n"
    ++ text "3 0 2\n4 0 80 2 0FA501A03000000000000000010001000F010000000000000000000000000000\n"
    ++ text "5 0 40 2 0FA501603000000000000000010001000F010000000000000000000000000000\n"
    ++ text "6 0 3\n7 0 80 3 0FA501A03000000000000000010001000F010000000000000000000000000000\n"
    ++ text "8 0 40 3 0FA501623000010000000000040002000F010000000000000000000000000000\n"
    ++ text "9 0 4\n10 0 00 4 0FA501823100000000000000040002000F010000000000000000000000000000\n"

abbrev offline_both : List ℕ
offline_both = text "log 1 000000000300097800000000034012345678\nlog 2 0000000001000978000000000140\n"

unfoldable pub same : (a b : List ℕ) → Bool
same [] [] = true
same [] (y ∷ b) = false
same (x ∷ a) [] = false
same (x ∷ a) (y ∷ b) = eqb x y && same a b

abbrev both : List ℕ
both = text "log 1 0000000050000978000000823130000000030022\nlog 2 00000000000109780000006230200100000240225933\n"

pub record Samples : Type 0 where
  pub whole : is_whole (events_of blank_words paper) ≡ true
  pub lines-owed : log_owed blank_words paper
      ≡ text "log 1 0000000050000978000000823130000000030022\n" ∷ text "log 2 00000000000109780000006230200100000240225933\n" ∷ []
  -- a byte more is a record that is cut short: refusal 9, and no log
  pub ended : is_whole (events_of blank_words (paper ++ 0 ∷ [])) ≡ false
  pub none : log_owed blank_words (paper ++ 0 ∷ []) ≡ []
  -- of three transactions the newest two, the newest first; a refused First is not the one that Second closes; a line of refusal 9 leaves none
  pub newest : T (same (shown tail records lines) both)
  pub refused-first : T (same (shown tail again again_lines) (text "log 1 00000000000109780000006230200100000140225933\n"))
  pub ended-lines : T (same (shown tail records (lines ++ text "9 9\n")) [])
  pub offline-only : T (same (shown offline-tail offline offline-lines) offline_both)

pub samples : Samples
unfolding paper pairs answered second_step second_performed unable_performed closed is_whole log_owed whole_lines newest_lines lines_from logged_of seen_in seen_from
    log_in log_of logged_in first_in cryptogram cvr_number closed_by is_logging entry_in log_line values_text fields_text field_texts field_in field_of stretch_of
    part_of purchase_text answer_text octets numeral digits_of hex number same tail records again offline-tail offline joined lines_up_to log_lines lines_in watched_line ring_by
    place_of before behind pair_at decimal_from cvr_in reply_in is_ending noted watched record_in record_put added_in added count_in found next_at place_after
samples =
    record {
      whole = refl;
      lines-owed = refl;
      ended = refl;
      none = refl;
      newest = tt;
      refused-first = tt;
      ended-lines = tt;
      offline-only = tt;
    }

-- THE LOG BEHIND ITS LINES
pub log-there : log_behind paper (transcript_of blank_words paper)
    ≡ text "log 1 0000000050000978000000823130000000030022\nlog 2 00000000000109780000006230200100000240225933\n"
unfolding paper pairs are_bytes joined
log-there = every_log blank_words paper refl (bytes_of paper refl) ∙ ap joined samples.lines-owed
