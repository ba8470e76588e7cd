-- READING WHAT WAS PRINTED GIVES THE BYTES, for every list of bytes that a paper can be. Assumes nothing.
use mathlib.Core.Path.{◌≡◌, refl, sym, ap, ◌∙◌}
use mathlib.Core.Bool.{Bool, true, false, cond, not, ◌&&◌}
use mathlib.Core.List.{List, [], ◌∷◌, ◌++◌, append_assoc, append-nil}
use Prim.Native.Nat.{ℕ, zero, suc, ◌+◌, ◌-◌, ◌≤◌}
use native.Mathlib.Numerals.{add-one}
use native.Mathlib.Omega.{arith}
use borrow.Author.Tests.{eqb-true, le-leb}
use lib.Dec.{eqb}
use lib.ListN.{length, drop, length-append}
use lib.Seq.{get_or-drop}
use Rattle.wire.specs.Wire.{byte}
use Rattle.paper.specs.Walk.{Met, written, all_written, met_in, place_in}
use Rattle.paper.proofs.Walk.{each-once}
use Rattle.layout.specs.Layout.{profiles, conversions, profile_from, base_length}
use Rattle.words.specs.Words.{is_in, begins, hex_bytes}
use Rattle.words.specs.Lex.{Line, lines_of, step, lex, text_of, is_word, are_lines}
use Rattle.words.proofs.Tests.{both, same_refl}
use Rattle.words.proofs.Lexing.{reads_lines}
use Rattle.forms.specs.Form.{width, fits_length, bytes_at, print_form, fine}
use Rattle.forms.specs.Grammar.{is_sized, part_in, form_from, form_in, words_in}
use Rattle.forms.specs.Table.{field_line, print_fields, print_groups, apart, Got, Took, joined, in_line, read_line}
use Rattle.forms.specs.Tail.{known, print_tails}
use Rattle.forms.specs.Row.{row_keys, print_by}
use Rattle.forms.proofs.Bytes.{Bytes}
use Rattle.forms.proofs.Forms.{form_back, said_fits}
use Rattle.forms.proofs.Tables.{clear, line_back}
use Rattle.forms.proofs.Tails.{known-lines}
use Rattle.forms.proofs.Rows.{by_not, by_clear, by_back, by_lines}
use Rattle.forms.proofs.Speaks.{lines_append, one_line, no_lines, form-words, fields-lines, groups_lines}
use Rattle.grammar.specs.Rows.{paper, setup, first, second, profile, conversion, tails, records, any_record, raw}
use Rattle.grammar.specs.Text.{is_worded, print_setup, print_record, print_records, print_rest, print_lines, printed}
use Rattle.grammar.specs.Text.{read_setup, packed, read_record, or_end, within, read_records, most_behind, read_lines, Taken, answer, read_text}
use Rattle.grammar.proofs.Fine.{paper-fine, setup-fine, raw-fine, first_fine, second-fine, profile-fine, conversion-fine, tails-fine, records-fine}
use Rattle.grammar.proofs.Setup.{setup_keys, setup_back}
use Rattle.grammar.proofs.Walked.{Sound, All, none, more, all-met}

-- ---- what begins a record begins no line of a set-up

setup-new : is_in setup.key setup_keys ≡ false
unfolding is_in setup first second profile conversion tails words_in lines_of step lex
setup-new = refl

raw-new : is_in raw.key setup_keys ≡ false
unfolding is_in raw first second profile conversion tails words_in lines_of step lex
raw-new = refl

records-new : apart (row_keys records any_record) setup_keys ≡ true
unfolding apart is_in records any_record first second profile conversion tails words_in lines_of step lex hex_bytes
records-new = refl

record_clear : (t : Bool) (v : ℕ) (m : Met) (ls : List Line)
    → clear setup_keys (cond t (print_setup v m.body) (print_by records any_record (m.kind ∷ m.body) ∷ []) ++ ls) ≡ true
unfolding print_setup
record_clear true v m ls = ap not setup-new
record_clear false v m ls = by_clear setup_keys records any_record (m.kind ∷ m.body) ls records-new

all_clear : (v : ℕ) (ms : List Met) (t : List ℕ) → clear setup_keys (print_records v ms ++ print_rest t) ≡ true
unfolding print_records print_record
all_clear v [] [] = refl
all_clear v [] (c ∷ t) = ap not raw-new
all_clear v (m ∷ ms) t =
    ap (clear setup_keys) (append_assoc (print_record v m) (print_records v ms) (print_rest t))
    ∙ record_clear (eqb m.kind 1 && is_worded v m.body) v m (print_records v ms ++ print_rest t)

-- ---- one record

new-words : (is_in setup.key (row_keys records any_record) ≡ false) × (is_in raw.key (row_keys records any_record) ≡ false)
unfolding is_in setup raw records any_record words_in lines_of step lex
new-words = (refl, refl)

raw-setup : begins setup.key (raw.key ∷ []) ≡ false
unfolding setup raw words_in lines_of step lex
raw-setup = refl

-- any record fits its row
any_fits : (n : ℕ) → fits_length any_record.form (suc n) ≡ true
unfolding fits_length any_record words_in lines_of step lex form_in form_from part_in is_sized
any_fits n = rw (le-leb 1 (suc n) (omega arith))

raw-fits : (n : ℕ) → fits_length raw.form n ≡ true
unfolding fits_length raw words_in lines_of step lex form_in form_from is_sized
raw-fits n = refl

packs : (m : Met) (ls : List Line) → packed (Took (m.kind ∷ m.body) ls) ≡ Took (written m) ls
packs m ls = let one : length m.body + 1 ≡ suc (length m.body) = add-one (length m.body) in rw one

row_back : (v : ℕ) (m : Met) (ls : List Line) → Sound m → read_record v (print_by records any_record (m.kind ∷ m.body) ∷ ls) ≡ Took (written m) ls
unfolding read_record
row_back v m ls g =
    let s = m.kind ∷ m.body in
    let back = by_back s g records any_record ls records-fine (any_fits (length m.body)) in
    rw (by_not setup.key records any_record s new-words.0, by_not raw.key records any_record s new-words.1, back) (packs m ls)

body_bytes : (m : Met) → Sound m → Bytes m.body
body_bytes m g i = g (suc i)

worded_back : (v : ℕ) (m : Met) (ls : List Line) → Sound m → m.kind ≡ 1 → is_worded v m.body ≡ true → clear setup_keys ls ≡ true
    → read_record v (print_setup v m.body ++ ls) ≡ Took (written m) ls
unfolding read_record print_setup
worded_back v m ls g k h c =
    let s = m.body in
    let A = print_fields 2 first s 0 in
    let B = print_fields 2 second s 5 in
    let P = print_groups 2 profile (byte s profiles) s 52 in
    let C = print_groups 2 conversion (byte s conversions) s (profile_from (byte s profiles)) in
    let E = print_tails (byte s profiles) (known v tails) s (base_length s) in
    let groups : (A ++ (B ++ (P ++ (C ++ E)))) ++ ls ≡ A ++ (B ++ (P ++ (C ++ (E ++ ls)))) =
    append_assoc A (B ++ (P ++ (C ++ E))) ls
    ∙ ap (λ x. A ++ x) (append_assoc B (P ++ (C ++ E)) ls ∙ ap (λ x. B ++ x) (append_assoc P (C ++ E) ls ∙ ap (λ x. P ++ x) (append_assoc C E ls))) in
    let back = ap (λ x. read_setup v (field_line 0 setup s 0 ∷ x)) groups ∙ setup_back s (body_bytes m g) v h ls c in
    rw (same_refl setup.key) (ap packed back ∙ ap (λ x. packed (Took (x ∷ s) ls)) (sym k) ∙ packs m ls)

-- it is read, and has a line
record Reads (v : ℕ) (ls rest : List Line) (b : List ℕ) : Type 0 where
  is : read_record v (ls ++ rest) ≡ Took b rest
  some : (g : Got) → or_end (ls ++ rest) g ≡ g
  longer : suc (length rest) ≤ length (ls ++ rest)

setup-some : (v : ℕ) (s : List ℕ) (ls : List Line) (g : Got) → or_end (print_setup v s ++ ls) g ≡ g
unfolding print_setup
setup-some v s ls g = refl

setup_longer : (v : ℕ) (s : List ℕ) (ls : List Line) → suc (length ls) ≤ length (print_setup v s ++ ls)
unfolding print_setup
setup_longer v s ls = simp length-append (omega arith)

by-words : (t : Bool) (v : ℕ) (m : Met) (ls : List Line) → (eqb m.kind 1 && is_worded v m.body) ≡ t → Sound m → clear setup_keys ls ≡ true
    → Reads v (cond t (print_setup v m.body) (print_by records any_record (m.kind ∷ m.body) ∷ [])) ls (written m)
by-words true v m ls e g c =
    let (k, h) = both (eqb m.kind 1) (is_worded v m.body) e in
    record { is = worded_back v m ls g (eqb-true m.kind 1 k) h c; some = setup-some v m.body ls; longer = setup_longer v m.body ls }
by-words false v m ls e g c = record { is = row_back v m ls g; some = λ r. refl; longer = omega arith }

record_reads : (v : ℕ) (m : Met) (ls : List Line) → Sound m → clear setup_keys ls ≡ true → Reads v (print_record v m) ls (written m)
unfolding print_record
record_reads v m ls g c = by-words (eqb m.kind 1 && is_worded v m.body) v m ls refl g c

-- ---- all records, and what is left

left-bytes : (t : List ℕ) → Bytes t → (ls : List Line) → read_line raw.form (field_line 0 raw t 0 ∷ ls) ≡ Took t ls
left-bytes t small ls = ap (in_line ls) (form_back t small raw.form 0 raw-fine.1) ∙ ap (λ b. Took b ls) (said_fits t raw.form 0 (omega arith) (raw-fits (length t - 0)))

bytes_back : (v c : ℕ) (t : List ℕ) → Bytes (c ∷ t) → read_record v (print_rest (c ∷ t)) ≡ Took (c ∷ t) []
unfolding read_record
bytes_back v c t small = rw (raw-setup, same_refl raw.key) (left-bytes (c ∷ t) small [])

none_left : (n v room : ℕ) → read_records n v room [] ≡ Took [] []
unfolding read_records
none_left zero v room = refl
none_left (suc n) v room = refl

-- a record that there is room for, and what follows
goes_on_lem : (room : ℕ) (ls below : List Line) (b c : List ℕ) (next : ℕ → List Line → Got) → length b ≤ room → next (room - length b) below ≡ Took c []
    → within room ls (Took b below) next ≡ Took (b ++ c) []
goes_on_lem room ls below b c next h k = rw (le-leb (length b) room h, k)

records_back : (n v room : ℕ) (ms : List Met) (t : List ℕ) → All ms → Bytes t → length (print_records v ms ++ print_rest t) ≤ n → length (all_written ms ++ t) ≤ room
    → read_records n v room (print_records v ms ++ print_rest t) ≡ Took (all_written ms ++ t) []
unfolding print_records all_written read_records
records_back zero v room [] [] good small h k = refl
records_back (suc n) v room [] [] good small h k = refl
records_back zero v room [] (c ∷ t) good small h k = absurd (omega arith)
records_back (suc n) v room [] (c ∷ t) good small h k =
    ap (λ r. within room (print_rest (c ∷ t)) r (read_records n v)) (bytes_back v c t small)
    ∙ goes_on_lem room (print_rest (c ∷ t)) [] (c ∷ t) [] (read_records n v) k (none_left n v (room - length (c ∷ t)))
    ∙ ap (λ b. Took b []) (append-nil (c ∷ t))
records_back zero v room (m ∷ ms) t (more g gs) small h k =
    let rest = print_records v ms ++ print_rest t in
    let r = record_reads v m rest g (all_clear v ms t) in
    let lines = ap length (append_assoc (print_record v m) (print_records v ms) (print_rest t)) in
    absurd (omega (arith, r.longer))
records_back (suc n) v room (m ∷ ms) t (more g gs) small h k =
    let rest = print_records v ms ++ print_rest t in
    let r = record_reads v m rest g (all_clear v ms t) in
    let lines = ap length (append_assoc (print_record v m) (print_records v ms) (print_rest t)) in
    let shape = append_assoc (written m) (all_written ms) t in
    let size : length (written m ++ (all_written ms ++ t)) ≡ length (written m) + length (all_written ms ++ t) = length-append (written m) (all_written ms ++ t) in
    let whole = ap length shape in
    let later = records_back n v (room - length (written m)) ms t gs small (omega (arith, r.longer)) (omega arith) in
    let ls = print_record v m ++ rest in
    ap (λ x. or_end x (within room x (read_record v x) (read_records n v))) (append_assoc (print_record v m) (print_records v ms) (print_rest t))
    ∙ r.some (within room ls (read_record v ls) (read_records n v))
    ∙ ap (λ x. within room ls x (read_records n v)) r.is
    ∙ goes_on_lem room ls rest (written m) (all_written ms ++ t) (read_records n v) (omega arith) later
    ∙ ap (λ b. Took b []) (sym shape)

-- ---- what is printed are lines that a text can say

setup-lines : (v : ℕ) (s : List ℕ) → Bytes s → are_lines (print_setup v s) ≡ true
unfolding print_setup
setup-lines v s small =
    let A = fields-lines s small 2 first 0 first_fine in
    let B = fields-lines s small 2 second 5 second-fine in
    let P = groups_lines s small 2 profile (byte s profiles) 52 profile-fine in
    let C = groups_lines s small 2 conversion (byte s conversions) (profile_from (byte s profiles)) conversion-fine in
    let E = known-lines s small (byte s profiles) v tails (base_length s) tails-fine in
    let (front, _) = both (is_word setup.key && fine setup.form) _ setup-fine in
    let (key, good) = both (is_word setup.key) (fine setup.form) front in
    one_line 0 setup.key (print_form setup.form s 0) _ key (form-words s small setup.form 0 good)
    (lines_append _ _ A (lines_append _ _ B (lines_append _ _ P (lines_append _ _ C E))))

record_lines_lem : (t : Bool) (v : ℕ) (m : Met) → Sound m → are_lines (cond t (print_setup v m.body) (print_by records any_record (m.kind ∷ m.body) ∷ [])) ≡ true
record_lines_lem true v m g = setup-lines v m.body (body_bytes m g)
record_lines_lem false v m g = by_lines (m.kind ∷ m.body) g records any_record records-fine

records-lines : (v : ℕ) (ms : List Met) → All ms → are_lines (print_records v ms) ≡ true
unfolding print_records print_record
records-lines v [] none = no_lines
records-lines v (m ∷ ms) (more g gs) = lines_append _ (print_records v ms) (record_lines_lem (eqb m.kind 1 && is_worded v m.body) v m g) (records-lines v ms gs)

rest_lines : (t : List ℕ) → Bytes t → are_lines (print_rest t) ≡ true
rest_lines [] h = no_lines
rest_lines (c ∷ t) h = one_line 0 raw.key (print_form raw.form (c ∷ t) 0) [] raw-fine.0 (form-words (c ∷ t) h raw.form 0 raw-fine.1) no_lines

-- ---- the whole

pub paper-width : width paper.form ≡ 1
unfolding paper words_in lines_of step lex form_in form_from part_in is_sized
paper-width = refl

paper_back : (v : ℕ) (s : List ℕ) (ls : List Line) → Bytes (v ∷ s) → read_line paper.form (field_line 0 paper (v ∷ s) 0 ∷ ls) ≡ Took (v ∷ []) ls
paper_back v s ls small = line_back (v ∷ s) small 0 paper 0 ls paper-fine ∙ ap (λ n. Took (bytes_at (v ∷ s) 0 n) ls) paper-width ∙ (unfold bytes_at in refl)

left : (s : List ℕ) (n : ℕ) → Bytes s → Bytes (drop n s)
left s n small i = rw (get_or-drop n s i 0) (small (n + i))

lines_back : (b : List ℕ) → Bytes b → length b ≤ 65_536 → read_lines (print_lines b) ≡ Took b []
unfolding read_lines print_lines
lines_back [] small h = refl
lines_back (v ∷ s) small h =
    let b = v ∷ s in
    let n = length b in
    let ms = met_in n b 1 in
    let t = drop (place_in n b 1) b in
    let ls = print_records v ms ++ print_rest t in
    let whole : all_written ms ++ t ≡ s = each-once b small n 1 in
    let size = ap length whole in
    let back = records_back (length ls) v most_behind ms t (all-met n b 1 small) (left b (place_in n b 1) small) (omega arith) (omega arith) in
    rw (same_refl paper.key, paper_back v s ls small) (ap (joined (v ∷ [])) back ∙ ap (λ x. Took (v ∷ x) []) whole)

printed-lines : (b : List ℕ) → Bytes b → are_lines (print_lines b) ≡ true
unfolding print_lines
printed-lines [] small = no_lines
printed-lines (v ∷ s) small =
    let b = v ∷ s in
    let n = length b in
    let t = drop (place_in n b 1) b in
    let (front, _) = both (is_word paper.key && fine paper.form) _ paper-fine in
    let (key, good) = both (is_word paper.key) (fine paper.form) front in
    one_line 0 paper.key (print_form paper.form b 0) (print_records v (met_in n b 1) ++ print_rest t) key (form-words b small paper.form 0 good)
    (lines_append (print_records v (met_in n b 1)) (print_rest t) (records-lines v (met_in n b 1) (all-met n b 1 small)) (rest_lines t (left b (place_in n b 1) small)))

pub round_trip : (b : List ℕ) → Bytes b → length b ≤ 65_536 → read_text (printed b) ≡ Taken b
unfolding read_text printed
round_trip b small h =
    ap (λ ls. answer (text_of (print_lines b)) (read_lines ls)) (reads_lines (print_lines b) (printed-lines b small)) ∙ ap (answer (text_of (print_lines b))) (lines_back b small h)

-- two papers that print alike are one
pub one-to-one : (b c : List ℕ) → Bytes b → Bytes c → length b ≤ 65_536 → length c ≤ 65_536 → printed b ≡ printed c → b ≡ c
one-to-one b c p q m n e = let both_read : Taken b ≡ Taken c = sym (round_trip b p m) ∙ ap read_text e ∙ round_trip c q n in cc
