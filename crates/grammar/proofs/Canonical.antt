-- WHAT IS READ ARE THE BYTES OF A PAPER, and printing them gives a text that says the same. Assumes nothing.
use mathlib.Core.Path.{◌≡◌, refl, subst, ◌∙◌}
use mathlib.Core.Bool.{Bool, true, false, cond}
use mathlib.Core.List.{List, [], ◌∷◌, ◌++◌}
use Prim.Native.Nat.{ℕ, zero, suc, ◌+◌, ◌-◌, ◌/◌, ◌%◌, ◌≤◌, ◌<◌}
use native.Mathlib.Omega.{arith}
use borrow.Author.Tests.{ltb-true, leb-true}
use lib.Dec.{leb, ltb}
use lib.ListN.{length, length-append}
use Rattle.wire.specs.Wire.{byte}
use Rattle.words.specs.Words.{all, hex_bytes}
use Rattle.words.specs.Lex.{Line, lines_of, step, lex, lines_in}
use Rattle.words.proofs.Tests.{both}
use Rattle.words.proofs.Hex.{are_bytes}
use Rattle.forms.specs.Form.{width, a_record, a_paper, shorter}
use Rattle.forms.specs.Grammar.{words_in}
use Rattle.forms.specs.Table.{widths, breadth, Got, Took, Bad, bind, joined, leads, read_line, read_fields, read_groups, bad_line}
use Rattle.forms.specs.Tail.{known, read_tails}
use Rattle.forms.specs.Row.{read_by}
use Rattle.forms.proofs.Bytes.{Bytes}
use Rattle.forms.proofs.Takes.{one_byte, no_bytes, bytes_append}
use Rattle.forms.proofs.Tails.{known-fine}
use Rattle.forms.proofs.Taken.{Takes, Any, Sized, bad_takes, line_any, line_takes, fields-take, Many, groups_take, many_of_lem, tails-take, are_leads, by_takes}
use Rattle.grammar.specs.Rows.{paper, setup, first, second, profile, conversion, tails, records, any_record, raw}
use Rattle.grammar.specs.Text.{printed, read_setup, packed, read_record, or_end, within, read_records, most_behind, read_lines, Taken, answer, read_text}
use Rattle.grammar.proofs.Fine.{paper-fine, setup-fine, raw-fine, first_fine, second-fine, profile-fine, conversion-fine, tails-fine, records-fine}
use Rattle.grammar.proofs.Setup.{sizes}
use Rattle.grammar.proofs.RoundTrip.{paper-width, round_trip}

leads-are : are_leads records ≡ true
unfolding are_leads records words_in lines_of step lex hex_bytes all
leads-are = refl

-- ---- a set-up

bind_takes : (P Q : List ℕ → Type 0) (g : Got) (next : List ℕ → List Line → Got) → Takes P g
    → ((b : List ℕ) (ls : List Line) → are_bytes b ≡ true → P b → Takes Q (next b ls)) → Takes Q (bind g next)
bind_takes P Q (Took b ls) next h k = k b ls h.0 h.1
bind_takes P Q (Bad n m w) next h k = tt

few : (w n : ℕ) (b : List ℕ) → w ≡ n → 1 ≤ n → Many w 255 b → length b / n < 256
few w n b e h m = let k = many_of_lem n 255 b h (subst (λ w. Many w 255 b) e m) in omega arith

setup_takes : (v : ℕ) (ls : List Line) → Takes Any (read_setup v ls)
unfolding read_setup
setup_takes v ls =
    bind_takes (Sized (width setup.form)) Any (read_line setup.form ls) _ (line_takes setup ls setup-fine) (λ none ls n0 n1.
    bind_takes (Sized (widths first)) Any (read_fields first ls) _ (fields-take first ls first_fine) (λ a ls a0 a1.
    bind_takes (Sized (widths second)) Any (read_fields second ls) _ (fields-take second ls second-fine) (λ b ls b0 b1.
    bind_takes (Many (breadth profile) 255) Any (read_groups profile 255 ls) _ (groups_take profile 255 ls profile-fine) (λ ps ls p0 p1.
    bind_takes (Many (breadth conversion) 255) Any (read_groups conversion 255 ls) _ (groups_take conversion 255 ls conversion-fine) (λ cs ls c0 c1.
    bind_takes Any Any (read_tails (length ps / 107) (known v tails) ls) _ (tails-take (length ps / 107) (known v tails) ls (known-fine v tails tails-fine)) (λ t ls t0 t1.
    let behind = bytes_append b (ps ++ (cs ++ t)) b0 (bytes_append ps (cs ++ t) p0 (bytes_append cs t c0 t0)) in
    let counts = one_byte (length ps / 107) (length cs / 7 ∷ b ++ (ps ++ (cs ++ t))) (few (breadth profile) 107 ps sizes.2 (omega arith) p1)
    (one_byte (length cs / 7) (b ++ (ps ++ (cs ++ t))) (few (breadth conversion) 7 cs sizes.3 (omega arith) c1) behind) in (
      one_byte 1 (a ++ (length ps / 107 ∷ length cs / 7 ∷ b ++ (ps ++ (cs ++ t)))) (omega arith)
          (bytes_append a (length ps / 107 ∷ length cs / 7 ∷ b ++ (ps ++ (cs ++ t))) a0 counts),
      tt,
    )))))))

-- ---- records: bytes, where there is room for them

abbrev Room : Got → Type 0
Room (Took b ls) = length b ≤ 65_535 → are_bytes b ≡ true
Room (Bad n m w) = Unit

packed_room : (g : Got) → Takes Any g → Room (packed g)
packed_room (Took b ls) h = λ short. one_byte (length b / 256) (length b % 256 ∷ b) (omega arith) (one_byte (length b % 256) b (omega arith) h.0)
packed_room (Bad n m w) h = tt

any_room : (g : Got) → Takes Any g → Room g
any_room (Took b ls) h = λ short. h.0
any_room (Bad n m w) h = tt

chosen : (t : Bool) (a b : Got) → Room a → Room b → Room (cond t a b)
chosen true a b h k = h
chosen false a b h k = k

record_room_lem : (v : ℕ) (ls : List Line) → Room (read_record v ls)
unfolding read_record
record_room_lem v ls =
    chosen (leads setup.key ls) (packed (read_setup v ls)) _ (packed_room (read_setup v ls) (setup_takes v ls))
    (chosen (leads raw.key ls) (read_line raw.form ls) (packed (read_by records any_record ls)) (any_room (read_line raw.form ls) (line_any raw.form ls raw-fine.1))
    (packed_room (read_by records any_record ls) (by_takes records any_record ls records-fine leads-are)))

abbrev AtMost : ℕ → List ℕ → Type 0
AtMost n b = length b ≤ n

end_takes : (room : ℕ) (ls : List Line) (g : Got) → Takes (AtMost room) g → Takes (AtMost room) (or_end ls g)
end_takes room [] g h = (no_bytes, omega arith)
end_takes room (l ∷ ls) g h = h

joined_takes : (m n : ℕ) (b : List ℕ) (g : Got) → are_bytes b ≡ true → length b + m ≤ n → Takes (AtMost m) g → Takes (AtMost n) (joined b g)
joined_takes m n b (Took c ls) h k q = let size = length-append b c in let less = q.1 in (bytes_append b c h q.0, omega arith)
joined_takes m n b (Bad l k w) h e q = tt

within_takes : (room : ℕ) (ls : List Line) (g : Got) (next : ℕ → List Line → Got) → room ≤ 65_535 → Room g
    → ((left : ℕ) (below : List Line) → left ≤ 65_535 → Takes (AtMost left) (next left below)) → Takes (AtMost room) (within room ls g next)
within_takes room ls (Took b below) next h k ih = by (leb (length b) room) refl where
  by : (t : Bool) → leb (length b) room ≡ t → Takes (AtMost room) (cond t (joined b (next (room - length b) below)) (bad_line ls shorter))
  by true e =
      let short = leb-true (length b) room e in
      joined_takes (room - length b) room b (next (room - length b) below) (k (omega arith)) (omega arith) (ih (room - length b) below (omega arith))
  by false e = bad_takes (AtMost room) ls shorter
within_takes room ls (Bad n m w) next h k ih = tt

records-take : (n v room : ℕ) (ls : List Line) → room ≤ 65_535 → Takes (AtMost room) (read_records n v room ls)
unfolding read_records
records-take zero v room ls h = end_takes room ls (bad_line ls a_record) (bad_takes (AtMost room) ls a_record)
records-take (suc n) v room ls h =
    end_takes room ls (within room ls (read_record v ls) (read_records n v))
    (within_takes room ls (read_record v ls) (read_records n v) h (record_room_lem v ls) (λ left below less. records-take n v left below less))

lines-take : (ls : List Line) → Takes (AtMost 65_536) (read_lines ls)
unfolding read_lines
lines-take [] = (no_bytes, omega arith)
lines-take (l ∷ ls) = by (leads paper.key (l ∷ ls)) where
  version : Takes (AtMost 65_536) (bind (read_line paper.form (l ∷ ls)) (λ b below. joined b (read_records (length ls) (byte b 0) most_behind below)))
  version =
      bind_takes (Sized (width paper.form)) (AtMost 65_536) (read_line paper.form (l ∷ ls)) _ (line_takes paper (l ∷ ls) paper-fine) (λ b below b0 b1.
      let one : length b ≡ 1 = b1 ∙ paper-width in
      joined_takes most_behind 65_536 b (read_records (length ls) (byte b 0) most_behind below) b0 (omega arith) (records-take (length ls) (byte b 0) most_behind below (omega arith)))

  by : (t : Bool) → Takes (AtMost 65_536)
      (cond t (bind (read_line paper.form (l ∷ ls)) (λ b below. joined b (read_records (length ls) (byte b 0) most_behind below))) (bad_line (l ∷ ls) a_paper))
  by true = version
  by false = tt

-- ---- the whole

are-bytes : (s : List ℕ) → are_bytes s ≡ true → Bytes s
unfolding all
are-bytes [] h i = omega arith
are-bytes (b ∷ s) h zero = ltb-true b 256 (both (ltb b 256) (are_bytes s) h).0
are-bytes (b ∷ s) h (suc i) = are-bytes s (both (ltb b 256) (are_bytes s) h).1 i

answered : (text b : List ℕ) (g : Got) → Takes (AtMost 65_536) g → answer text g ≡ Taken b → Bytes b × (length b ≤ 65_536)
answered text b (Took c ls) h e = let is : c ≡ b = cc in subst (λ b. Bytes b × (length b ≤ 65_536)) is (are-bytes c h.0, h.1)
answered text b (Bad n m w) h e = let z : ◌≡◌ {A = ℕ} 0 1 = cc in absurd (omega arith)

pub takes_bytes : (text b : List ℕ) → read_text text ≡ Taken b → Bytes b × (length b ≤ 65_536)
unfolding read_text
takes_bytes text b e = answered text b (read_lines (lines_in text)) (lines-take (lines_in text)) e

-- whatever text is read, the text that is printed of it says the same
pub canonical : (text b : List ℕ) → read_text text ≡ Taken b → read_text (printed b) ≡ Taken b
canonical text b e = let h = takes_bytes text b e in round_trip b h.0 h.1
