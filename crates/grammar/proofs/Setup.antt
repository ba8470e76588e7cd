-- A set-up in words reads back. Assumes nothing.
use mathlib.Core.Path.{◌≡◌, refl, ap, ◌∙◌}
use mathlib.Core.Bool.{true, false, ◌&&◌}
use mathlib.Core.List.{List, [], ◌∷◌, ◌++◌}
use Prim.Native.Nat.{ℕ, ◌+◌, ◌*◌, ◌/◌}
use native.Mathlib.Omega.{arith}
use borrow.Author.Tests.{eqb-true}
use lib.Dec.{leb, eqb}
use lib.ListN.{length}
use Rattle.wire.specs.Wire.{byte}
use Rattle.paper.specs.Paper.{latest}
use Rattle.layout.specs.Layout.{profiles, conversions, profile_from, base_length}
use Rattle.words.specs.Words.{is_in, up_to}
use Rattle.words.specs.Lex.{Line, lines_of, step, lex}
use Rattle.words.proofs.Tests.{both}
use Rattle.forms.specs.Form.{width, bytes_at}
use Rattle.forms.specs.Grammar.{past, is_sized, part_in, form_from, form_in, words_in}
use Rattle.forms.specs.Table.{keys, widths, Group, breadth, field_line, print_fields, print_groups, apart, Took, read_line, read_fields, read_groups}
use Rattle.forms.specs.Tail.{known, tails_size, are_switched, print_tails, read_tails, tails_starts}
use Rattle.forms.proofs.Bytes.{Bytes, size-at, join_at, whole_from}
use Rattle.forms.proofs.Tables.{clear, fields_clear, groups_clear, line_back, fields_back, groups_back}
use Rattle.forms.proofs.Tails.{tails_keys, clear_both, known_tails_clear, known_back}
use Rattle.grammar.specs.Rows.{setup, first, second, profile, conversion, tails}
use Rattle.grammar.specs.Text.{is_worded, read_setup}
use Rattle.grammar.proofs.Fine.{setup-fine, first_fine, second-fine, profile-fine, conversion-fine, tails-fine}

abbrev pub group_keys : Group → List (List ℕ)
group_keys g = g.head.key ∷ keys g.fields

-- the first words of all lines below a set-up's
abbrev pub setup_keys : List (List ℕ)
setup_keys = keys first ++ (keys second ++ (group_keys profile ++ (group_keys conversion ++ tails_keys tails)))

-- what comes later begins with none of the keys before
second-first : apart (keys second) (keys first) ≡ true
unfolding apart is_in first second words_in lines_of step lex
second-first = refl

heads_first : (is_in profile.head.key (keys first) ≡ false) × (is_in conversion.head.key (keys first) ≡ false)
unfolding is_in first profile conversion words_in lines_of step lex
heads_first = (refl, refl)

heads_second : (is_in profile.head.key (keys second) ≡ false) × (is_in conversion.head.key (keys second) ≡ false)
unfolding is_in second profile conversion words_in lines_of step lex
heads_second = (refl, refl)

conversion-profile : is_in conversion.head.key (group_keys profile) ≡ false
unfolding is_in profile conversion words_in lines_of step lex
conversion-profile = refl

tails-first : apart (tails_starts tails) (keys first) ≡ true
unfolding apart is_in first tails words_in lines_of step lex
tails-first = refl

tails-second : apart (tails_starts tails) (keys second) ≡ true
unfolding apart is_in second tails words_in lines_of step lex
tails-second = refl

tails-profile : apart (tails_starts tails) (group_keys profile) ≡ true
unfolding apart is_in profile tails words_in lines_of step lex
tails-profile = refl

tails-conversion : apart (tails_starts tails) (group_keys conversion) ≡ true
unfolding apart is_in conversion tails words_in lines_of step lex
tails-conversion = refl

pub sizes : (widths first ≡ 3) × (widths second ≡ 47) × (breadth profile ≡ 107) × (breadth conversion ≡ 7)
unfolding first second profile conversion words_in lines_of step lex form_in form_from part_in is_sized past up_to
sizes = (refl, refl, refl, refl)

setup-line : (s : List ℕ) → Bytes s → (ls : List Line) → read_line setup.form (field_line 0 setup s 0 ∷ ls) ≡ Took [] ls
setup-line s small ls = line_back s small 0 setup 0 ls setup-fine ∙ none where
  none : Took (bytes_at s 0 (width setup.form)) ls ≡ Took [] ls
  none = unfold setup words_in lines_of step lex form_in form_from bytes_at in refl

module _ (s : List ℕ) (small : Bytes s) (v : ℕ) (h : is_worded v s ≡ true) where
  abbrev pub p : ℕ
  p = byte s profiles

  abbrev pub c : ℕ
  c = byte s conversions

  abbrev pub t : ℕ
  t = tails_size p (known v tails) s (base_length s)

  is-long : (are_switched p (known v tails) s (base_length s) ≡ true) × (length s ≡ base_length s + t)
  unfolding is_worded
  is-long =
      let (front, size) = both (leb 1 v && leb v latest && are_switched p (known v tails) s (base_length s)) (eqb (length s) (base_length s + t)) h in
      let (_, switches) = both (leb 1 v && leb v latest) (are_switched p (known v tails) s (base_length s)) front in (switches, eqb-true (length s) (base_length s + t) size)

  whole : bytes_at s 0 3 ++ (p ∷ c ∷ bytes_at s 5 47 ++ (bytes_at s 52 (p * 107) ++ (bytes_at s (profile_from p) (c * 7) ++ bytes_at s (base_length s) t))) ≡ s
  whole =
      let e : 0 + (3 + (2 + (47 + (p * 107 + (c * 7 + t))))) ≡ length s = omega (arith, is-long.1) in
      ap (λ x. bytes_at s 0 3 ++ (p ∷ c ∷ bytes_at s 5 47 ++ (bytes_at s 52 (p * 107) ++ x))) (join_at s (profile_from p) (c * 7) (base_length s) t (omega arith))
      ∙ ap (λ x. bytes_at s 0 3 ++ (p ∷ c ∷ bytes_at s 5 47 ++ x)) (join_at s 52 (p * 107) (profile_from p) (c * 7 + t) (omega arith))
      ∙ ap (λ x. bytes_at s 0 3 ++ (p ∷ c ∷ x)) (join_at s 5 47 52 (p * 107 + (c * 7 + t)) refl)
      ∙ ap (λ x. bytes_at s 0 3 ++ x) (two-more ∙ join_at s 3 2 5 (47 + (p * 107 + (c * 7 + t))) refl)
      ∙ join_at s 0 3 3 (2 + (47 + (p * 107 + (c * 7 + t)))) refl
      ∙ whole_from s 0 (3 + (2 + (47 + (p * 107 + (c * 7 + t))))) e where
        two-more : p ∷ c ∷ bytes_at s 5 (47 + (p * 107 + (c * 7 + t))) ≡ bytes_at s 3 2 ++ bytes_at s 5 (47 + (p * 107 + (c * 7 + t)))
        two-more = unfold bytes_at in refl

  module _ (ls : List Line) (below : clear setup_keys ls ≡ true) where
    abbrev pub T : List Line
    T = print_tails p (known v tails) s (base_length s) ++ ls

    abbrev pub C : List Line
    C = print_groups 2 conversion c s (profile_from p) ++ T

    abbrev pub P : List Line
    P = print_groups 2 profile p s 52 ++ C

    abbrev pub B : List Line
    B = print_fields 2 second s 5 ++ P

    record Below : Type 0 where
      of_first_lem : clear (keys first) ls ≡ true
      of_second : clear (keys second) ls ≡ true
      of_profile : clear (group_keys profile) ls ≡ true
      of_conversion : clear (group_keys conversion) ls ≡ true
      of_tails : clear (tails_keys tails) ls ≡ true

    clears : Below
    clears =
        let (a, h1) = clear_both (keys first) (keys second ++ (group_keys profile ++ (group_keys conversion ++ tails_keys tails))) ls below in
        let (b, h2) = clear_both (keys second) (group_keys profile ++ (group_keys conversion ++ tails_keys tails)) ls h1 in
        let (d, h3) = clear_both (group_keys profile) (group_keys conversion ++ tails_keys tails) ls h2 in
        let (e, f) = clear_both (group_keys conversion) (tails_keys tails) ls h3 in
        record { of_first_lem = a; of_second = b; of_profile = d; of_conversion = e; of_tails = f }

    tails_stop : (ks : List (List ℕ)) → apart (tails_starts tails) ks ≡ true → clear ks ls ≡ true → clear ks T ≡ true
    tails_stop ks new k = known_tails_clear p s ks v tails (base_length s) ls new k

    conversions_stop : (ks : List (List ℕ)) → is_in conversion.head.key ks ≡ false → apart (tails_starts tails) ks ≡ true → clear ks ls ≡ true → clear ks C ≡ true
    conversions_stop ks head new k = groups_clear 2 conversion c s (profile_from p) ks T head (tails_stop ks new k)

    pub first_stop : clear (keys first) B ≡ true
    first_stop =
        let ks = keys first in
        fields_clear 2 second s 5 ks P second-first
        (groups_clear 2 profile p s 52 ks C heads_first.0 (conversions_stop ks heads_first.1 tails-first clears.of_first_lem))

    pub second_stop : clear (keys second) P ≡ true
    second_stop =
        let ks = keys second in
        groups_clear 2 profile p s 52 ks C heads_second.0 (conversions_stop ks heads_second.1 tails-second clears.of_second)

    first-is : read_fields first (print_fields 2 first s 0 ++ B) ≡ Took (bytes_at s 0 3) B
    first-is = fields_back s small 2 first 0 B first_fine first_stop ∙ ap (λ n. Took (bytes_at s 0 n) B) sizes.0

    second_is : read_fields second B ≡ Took (bytes_at s 5 47) P
    second_is = fields_back s small 2 second 5 P second-fine second_stop ∙ ap (λ n. Took (bytes_at s 5 n) P) sizes.1

    profiles-are : read_groups profile 255 P ≡ Took (bytes_at s 52 (p * 107)) C
    profiles-are =
        groups_back s small 2 profile 255 p 52 C (omega (arith, small 3)) profile-fine (conversions_stop (group_keys profile) conversion-profile tails-profile clears.of_profile)
        ∙ ap (λ n. Took (bytes_at s 52 (p * n)) C) sizes.2

    conversions-are : read_groups conversion 255 C ≡ Took (bytes_at s (profile_from p) (c * 7)) T
    conversions-are =
        groups_back s small 2 conversion 255 c (profile_from p) T (omega (arith, small 4)) conversion-fine (tails_stop (group_keys conversion) tails-conversion clears.of_conversion)
        ∙ ap (λ n. Took (bytes_at s (profile_from p) (c * n)) T) sizes.3

    tails-are : read_tails p (known v tails) T ≡ Took (bytes_at s (base_length s) t) ls
    tails-are = known_back s small p v tails (base_length s) ls is-long.0 tails-fine clears.of_tails

    pub setup_back : read_setup v (field_line 0 setup s 0 ∷ (print_fields 2 first s 0 ++ B)) ≡ Took (1 ∷ s) ls
    unfolding read_setup
    setup_back =
        let ps : length (bytes_at s 52 (p * 107)) / 107 ≡ p = rw (size-at s 52 (p * 107)) (omega arith) in
        let cs : length (bytes_at s (profile_from p) (c * 7)) / 7 ≡ c = rw (size-at s (profile_from p) (c * 7)) (omega arith) in
        rw (setup-line s small (print_fields 2 first s 0 ++ B), first-is, second_is, profiles-are, conversions-are, ps, tails-are, cs, whole)
