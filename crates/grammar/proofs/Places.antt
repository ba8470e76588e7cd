-- WHAT A LINE SAYS IS WHAT THE SET-UP'S READER FINDS THERE, and names stand for their numbers. Assumes nothing.
use mathlib.Core.Path.{◌≡◌, refl, ap, ◌∙◌}
use mathlib.Core.Bool.{true, not, ◌&&◌}
use mathlib.Core.List.{List, [], ◌∷◌, ◌++◌}
use Prim.Native.Nat.{ℕ, ◌+◌, ◌*◌}
use native.Mathlib.Omega.{arith}
use Rattle.layout.specs.Layout.{head_length, profile_from, conversion_from}
use Rattle.words.specs.Words.{word, all, is_in, is_number, distinct, name_of, flags, up_to}
use Rattle.words.specs.Lex.{Line, lines_of, step, lex, is_word, are_words}
use Rattle.words.proofs.Tests.{both}
use Rattle.forms.specs.Form.{print_form, no_numbers, fine_part, closed, parted, fine}
use Rattle.forms.specs.Grammar.{past, is_sized, part_in, form_from, form_in, words_in}
use Rattle.forms.specs.Table.{keys, offsets, Group, breadth, print_fields, print_groups, fine_field, fine_fields, fine_group}
use Rattle.forms.specs.Tail.{Tail}
use Rattle.forms.specs.Spot.{spots_in, field_spots, spots_of, found, heard, fields_heard, plain, plain_fields}
use Rattle.forms.proofs.Bytes.{Bytes}
use Rattle.forms.proofs.Tables.{clear}
use Rattle.forms.proofs.Spots.{form-says, fields-say, groups_split}
use Rattle.grammar.specs.Rows.{first, second, profile, conversion, tails, records}
use Rattle.grammar.specs.Text.{is_worded}
use Rattle.grammar.specs.Places.{first_spots, second_spots, profile_spots, conversion_spots, dated_spots, cyclic_spots, control_spots, cashback_spots}
use Rattle.grammar.specs.Places.{fields_of, groups_of, first_head, first_fields, names_in, names_of, names_by, are_flags, are_names}
use Rattle.grammar.specs.Places.{decisions, switches, counter_switches, controls, logged, shifts, kinds, types}
use Rattle.grammar.proofs.Fine.{first_fine, second-fine, profile-fine, conversion-fine}
use Rattle.grammar.proofs.Setup.{setup_keys, B, P, first_stop, second_stop}

-- ---- the spots of each table are those of `layout`

first_spots_lem : spots_of first 0 ≡ first_spots
unfolding spots_of spots_in first first_spots words_in lines_of step lex form_in form_from part_in is_sized past up_to
first_spots_lem = refl

second_spots_lem : spots_of second 5 ≡ second_spots
unfolding spots_of spots_in second second_spots words_in lines_of step lex form_in form_from part_in is_sized past up_to
second_spots_lem = refl

profile_spots_lem : spots_of profile.fields 1 ≡ profile_spots
unfolding spots_of spots_in profile profile_spots words_in lines_of step lex form_in form_from part_in is_sized past up_to
profile_spots_lem = refl

conversion_spots_lem : field_spots conversion.head 0 ≡ conversion_spots
unfolding spots_in conversion conversion_spots words_in lines_of step lex form_in form_from part_in is_sized past up_to
conversion_spots_lem = refl

dated_spots_lem : (spots_of (fields_of 4 tails) 1 ≡ dated_spots) × (spots_of (first_fields (groups_of 4 tails)) 28 ≡ cyclic_spots)
unfolding spots_of spots_in tails dated_spots cyclic_spots words_in lines_of step lex form_in form_from part_in is_sized past up_to
dated_spots_lem = (refl, refl)

cpace_spots : (spots_of (fields_of 5 tails) 1 ≡ control_spots) × (field_spots (first_head (groups_of 5 tails)) 9 ≡ cashback_spots)
unfolding spots_of spots_in tails control_spots cashback_spots words_in lines_of step lex form_in form_from part_in is_sized past up_to
cpace_spots = (refl, refl)

-- ---- numbers: the offsets of every row, as docs/PAPERS.md has them

pub in_place : (offsets first 0 ≡ 0 ∷ 1 ∷ 2 ∷ [])
    × (offsets second 5 ≡ 5 ∷ 7 ∷ 8 ∷ 18 ∷ 28 ∷ 38 ∷ 48 ∷ 49 ∷ 50 ∷ 51 ∷ [])
    × (offsets profile.fields 1 ≡ 1 ∷ 5 ∷ 9 ∷ 13 ∷ 24 ∷ 41 ∷ 58 ∷ 75 ∷ 92 ∷ 95 ∷ 98 ∷ 101 ∷ 104 ∷ [])
    × (breadth profile ≡ 107) × (breadth conversion ≡ 7)
unfolding first second profile conversion words_in lines_of step lex form_in form_from part_in is_sized past up_to
in_place = (refl, refl, refl, refl, refl)

abbrev versions : List Tail → List ℕ
versions [] = []
versions (t ∷ ts) = t.version ∷ versions ts

abbrev words : List Tail → List (List ℕ)
words [] = []
words (t ∷ ts) = t.switch ∷ words ts

abbrev breadths : List Group → List ℕ
breadths [] = []
breadths (g ∷ gs) = breadth g ∷ breadths gs

-- a tail's fields stand behind its switch, where it has one; then its groups
pub tails_in_place : (versions tails ≡ 2 ∷ 3 ∷ 4 ∷ 5 ∷ 6 ∷ 7 ∷ [])
    × (words tails ≡ word "selection" ∷ [] ∷ word "dated" ∷ word "cpace" ∷ [] ∷ word "log" ∷ [])
    × (offsets (fields_of 3 tails) 0 ≡ 0 ∷ [])
    × (offsets (fields_of 4 tails) 1 ≡ 1 ∷ 4 ∷ 16 ∷ []) × (breadths (groups_of 4 tails) ≡ 18 ∷ [])
    × (offsets (fields_of 5 tails) 1 ≡ 1 ∷ 2 ∷ 3 ∷ 4 ∷ 5 ∷ 6 ∷ 7 ∷ 8 ∷ []) × (breadths (groups_of 5 tails) ≡ 1 ∷ [])
    × (offsets (fields_of 6 tails) 0 ≡ 0 ∷ [])
    × (offsets (fields_of 7 tails) 1 ≡ 1 ∷ 2 ∷ []) × (breadths (groups_of 7 tails) ≡ 1 ∷ 3 ∷ 3 ∷ [])
unfolding tails words_in lines_of step lex form_in form_from part_in is_sized past up_to
tails_in_place = (refl, refl, refl, refl, refl, refl, refl, refl, refl, refl)

group-fine : (g : Group) → fine_group g ≡ true → fine_fields g.fields ≡ true
unfolding fine_group
group-fine g h = (both (fine_field g.head && not (is_in g.head.key (keys g.fields))) (fine_fields g.fields) h).1

head-fine : (g : Group) → fine_group g ≡ true → fine g.head.form ≡ true
unfolding fine_group
head-fine g h =
    let (front, _) = both (fine_field g.head && not (is_in g.head.key (keys g.fields))) (fine_fields g.fields) h in
    let (top, _) = both (fine_field g.head) (not (is_in g.head.key (keys g.fields))) front in
    let (words, _) = both (is_word g.head.key && fine g.head.form) (closed g.head.form) top in
    (both (is_word g.head.key) (fine g.head.form) words).1

-- ---- what is printed says, of each spot, what stands there

plain-first : plain_fields first ≡ true
unfolding plain_fields plain first words_in lines_of step lex form_in form_from part_in is_sized past up_to
plain-first = refl

plain_second : plain_fields second ≡ true
unfolding plain_fields plain second words_in lines_of step lex form_in form_from part_in is_sized past up_to
plain_second = refl

plain-profile : plain_fields profile.fields ≡ true
unfolding plain_fields plain profile words_in lines_of step lex form_in form_from part_in is_sized past up_to
plain-profile = refl

plain-conversion : plain conversion.head.form ≡ true
unfolding plain conversion words_in lines_of step lex form_in form_from part_in is_sized past up_to
plain-conversion = refl

plain_groups : (plain_fields (first_fields (groups_of 4 tails)) ≡ true) × (plain (first_head (groups_of 5 tails)).form ≡ true)
unfolding plain_fields plain tails words_in lines_of step lex form_in form_from part_in is_sized past up_to
plain_groups = (refl, refl)

fine_groups : (fine_fields (first_fields (groups_of 4 tails)) ≡ true) × (fine (first_head (groups_of 5 tails)).form ≡ true)
unfolding fine_fields tails words_in lines_of step lex form_in form_from part_in is_sized past up_to is_in all is_number distinct is_word are_words no_numbers fine_part closed parted fine
fine_groups = (refl, refl)

plain-tails : (plain_fields (fields_of 4 tails) ≡ true) × (plain_fields (fields_of 5 tails) ≡ true)
unfolding plain_fields plain tails words_in lines_of step lex form_in form_from part_in is_sized past up_to
plain-tails = (refl, refl)

fine-tails : (fine_fields (fields_of 4 tails) ≡ true) × (fine_fields (fields_of 5 tails) ≡ true)
unfolding fine_fields tails words_in lines_of step lex form_in form_from part_in is_sized past up_to is_in all is_number distinct is_word are_words no_numbers fine_part closed parted fine
fine-tails = (refl, refl)

module _ (s : List ℕ) (small : Bytes s) where
  -- THE HEAD of a set-up in words
  module _ (v : ℕ) (h : is_worded v s ≡ true) (ls : List Line) (below : clear setup_keys ls ≡ true) where
    pub head-says : (fields_heard first (print_fields 2 first s 0 ++ B s small v h ls below) ≡ found first_spots s 0)
        × (fields_heard second (B s small v h ls below) ≡ found second_spots s 0)
    head-says = (
      fields-say s small 2 first 0 0 (B s small v h ls below) first_fine plain-first (first_stop s small v h ls below) ∙ ap (λ ts. found ts s 0) first_spots_lem,
      fields-say s small 2 second 0 5 (P s small v h ls below) second-fine plain_second (second_stop s small v h ls below) ∙ ap (λ ts. found ts s 0) second_spots_lem,
    )

  -- PROFILE i + 1, whatever follows it
  pub profile-says : (i : ℕ) (ls : List Line) → clear (keys profile.fields) ls ≡ true
      → fields_heard profile.fields (print_fields 4 profile.fields s (profile_from i + 1) ++ ls) ≡ found profile_spots s (profile_from i)
  profile-says i ls k =
      fields-say s small 4 profile.fields (profile_from i) 1 ls (group-fine profile profile-fine) plain-profile k ∙ ap (λ ts. found ts s (profile_from i)) profile_spots_lem

  -- it is printed from there
  pub profile-from : (i n : ℕ) → print_groups 2 profile (i + n) s head_length ≡ print_groups 2 profile i s head_length ++ print_groups 2 profile n s (profile_from i)
  profile-from i n =
      let place : head_length + i * breadth profile ≡ profile_from i = ap (λ b. head_length + i * b) in_place.3 ∙ omega arith in
      groups_split 2 profile i n s head_length ∙ ap (λ k. print_groups 2 profile i s head_length ++ print_groups 2 profile n s k) place

  -- CONVERSION i + 1
  pub conversion-says : (i : ℕ) → heard conversion.head.form (print_form conversion.head.form s (conversion_from s i + 0)) ≡ found conversion_spots s (conversion_from s i)
  conversion-says i =
      form-says s small conversion.head.form conversion.head.key conversion.head.key (conversion_from s i) 0 plain-conversion (head-fine conversion conversion-fine)
      ∙ ap (λ ts. found ts s (conversion_from s i)) conversion_spots_lem

  -- THE TAILS of versions 04 and 05, from their switch on
  pub dated-says : (at : ℕ) (ls : List Line) → clear (keys (fields_of 4 tails)) ls ≡ true
      → fields_heard (fields_of 4 tails) (print_fields 4 (fields_of 4 tails) s (at + 1) ++ ls) ≡ found dated_spots s at
  dated-says at ls k = fields-say s small 4 (fields_of 4 tails) at 1 ls fine-tails.0 plain-tails.0 k ∙ ap (λ ts. found ts s at) dated_spots_lem.0

  pub cpace-says : (at : ℕ) (ls : List Line) → clear (keys (fields_of 5 tails)) ls ≡ true
      → fields_heard (fields_of 5 tails) (print_fields 4 (fields_of 5 tails) s (at + 1) ++ ls) ≡ found control_spots s at
  cpace-says at ls k = fields-say s small 4 (fields_of 5 tails) at 1 ls fine-tails.1 plain-tails.1 k ∙ ap (λ ts. found ts s at) cpace_spots.0

  -- and of profile j + 1 in them
  pub cyclic-says : (at j : ℕ) (ls : List Line) → clear (keys (first_fields (groups_of 4 tails))) ls ≡ true
      → fields_heard (first_fields (groups_of 4 tails)) (print_fields 6 (first_fields (groups_of 4 tails)) s (at + 18 * j + 28) ++ ls) ≡ found cyclic_spots s (at + 18 * j)
  cyclic-says at j ls k =
      fields-say s small 6 (first_fields (groups_of 4 tails)) (at + 18 * j) 28 ls fine_groups.0 plain_groups.0 k ∙ ap (λ ts. found ts s (at + 18 * j)) dated_spots_lem.1

  pub cashback_says : (at j : ℕ)
      → heard (first_head (groups_of 5 tails)).form (print_form (first_head (groups_of 5 tails)).form s (at + j + 9)) ≡ found cashback_spots s (at + j)
  cashback_says at j =
      let f = first_head (groups_of 5 tails) in
      form-says s small f.form f.key f.key (at + j) 9 plain_groups.1 fine_groups.1 ∙ ap (λ ts. found ts s (at + j)) cpace_spots.1

-- ---- names

pub types-named : (are_names types (names_by (word "first") records) ≡ true) × (are_names types (names_by (word "second") records) ≡ true)
unfolding are_names types names_by names_in name_of records words_in lines_of step lex form_in form_from part_in is_sized past up_to
types-named = (refl, refl)

pub masks-named : (are_flags decisions (names_of (word "online") profile.fields) ≡ true) × (are_flags decisions (names_of (word "decline") profile.fields) ≡ true)
    × (are_flags decisions (names_of (word "default") profile.fields) ≡ true)
unfolding are_flags decisions names_of names_in flags profile words_in lines_of step lex form_in form_from part_in is_sized past up_to
masks-named = (refl, refl, refl)

pub switches-named : (are_flags switches (names_of (word "a1") profile.fields) ≡ true) × (are_flags counter_switches (names_of (word "c1") profile.fields) ≡ true)
unfolding are_flags switches counter_switches names_of names_in flags profile words_in lines_of step lex form_in form_from part_in is_sized past up_to
switches-named = (refl, refl)

pub shifts-named : are_names shifts (names_in conversion.head.form) ≡ true
unfolding are_names shifts names_in name_of conversion words_in lines_of step lex form_in form_from part_in is_sized past up_to
shifts-named = refl

pub tails-named : (are_flags controls (names_of (word "a1") (fields_of 5 tails)) ≡ true) × (are_flags logged (names_of (word "keeps") (fields_of 7 tails)) ≡ true)
    × (are_names kinds (names_of (word "y1") (fields_of 4 tails)) ≡ true)
unfolding are_flags are_names controls logged kinds names_of names_in name_of flags tails words_in lines_of step lex form_in form_from part_in is_sized past up_to
tails-named = (refl, refl, refl)
