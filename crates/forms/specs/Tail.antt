-- The tails of a set-up: what each version adds behind the base, and the switch that says whether it is there.
use Rattle.std.specs.Prelude.{Bool, true, cond, ◌&&◌, ◌||◌, List, [], ◌∷◌, ◌++◌, ℕ, zero, suc, ◌+◌, ◌*◌, ◌-◌, ◌/◌, leb, eqb, length, replicate}
use Rattle.wire.specs.Wire.{byte}
use Rattle.words.specs.Words.{is_empty}
use Rattle.words.specs.Lex.{Line, is_word}
use Rattle.forms.specs.Form.{done, rest, bytes_at, rest_words, shorter, a_record}
use Rattle.forms.specs.Table.{Field, keys, widths, Group, breadth, print_fields, print_groups, fine_fields, fine_group, apart}
use Rattle.forms.specs.Table.{Got, Took, Bad, bind, joined, and_then, leads, read_line, read_fields, read_groups, bad_line}

-- what a tail holds
pub data Item : Type 0 where
  fields : List Field → Item
  each : Group → Item  -- a group for each profile
  counted : Group → Item  -- a byte that counts groups, and the groups
  entries : List ℕ → Item  -- a byte that counts entries, and for each a byte that counts its bytes, and the bytes

-- the version that adds it, the word of its switch (none: it has no switch), and what it holds
pub record Tail : Type 0 where
  pub version : ℕ
  pub switch : List ℕ
  pub items : List Item

-- the tails of a version
unfoldable pub known : ℕ → List Tail → List Tail
known v [] = []
known v (t ∷ ts) = cond (leb t.version v) (t ∷ known v ts) (known v ts)

-- ---- how many bytes they have, from a place on, where there are so many profiles

unfoldable pub entries_size : ℕ → List ℕ → ℕ → ℕ
entries_size zero s at = 0
entries_size (suc n) s at = suc (byte s at) + entries_size n s (at + suc (byte s at))

abbrev pub item_size : ℕ → Item → List ℕ → ℕ → ℕ
item_size p (fields fs) s at = widths fs
item_size p (each g) s at = p * breadth g
item_size p (counted g) s at = 1 + byte s at * breadth g
item_size p (entries key) s at = 1 + entries_size (byte s at) s (at + 1)

unfoldable pub items_size : ℕ → List Item → List ℕ → ℕ → ℕ
items_size p [] s at = 0
items_size p (i ∷ is) s at = item_size p i s at + items_size p is s (at + item_size p i s at)

-- a switch is 0, and its tail ends with it, or 1
unfoldable pub tail_size : ℕ → Tail → List ℕ → ℕ → ℕ
tail_size p t s at =
    cond (is_empty t.switch) (items_size p t.items s at)
    (cond (eqb (byte s at) 1) (1 + items_size p t.items s (at + 1)) 1)

unfoldable pub tails_size : ℕ → List Tail → List ℕ → ℕ → ℕ
tails_size p [] s at = 0
tails_size p (t ∷ ts) s at = tail_size p t s at + tails_size p ts s (at + tail_size p t s at)

-- every switch is 0 or 1
unfoldable pub are_switched : ℕ → List Tail → List ℕ → ℕ → Bool
are_switched p [] s at = true
are_switched p (t ∷ ts) s at = (is_empty t.switch || leb (byte s at) 1) && are_switched p ts s (at + tail_size p t s at)

-- ---- printed

unfoldable pub print_entries : ℕ → List ℕ → ℕ → List ℕ → ℕ → List Line
print_entries indent key zero s at = []
print_entries indent key (suc n) s at =
    record { indent = indent; words = key ∷ rest_words (bytes_at s (suc at) (byte s at)) } ∷ print_entries indent key n s (at + suc (byte s at))

abbrev pub print_item : ℕ → ℕ → Item → List ℕ → ℕ → List Line
print_item indent p (fields fs) s at = print_fields indent fs s at
print_item indent p (each g) s at = print_groups indent g p s at
print_item indent p (counted g) s at = print_groups indent g (byte s at) s (at + 1)
print_item indent p (entries key) s at = print_entries indent key (byte s at) s (at + 1)

unfoldable pub print_items : ℕ → ℕ → List Item → List ℕ → ℕ → List Line
print_items indent p [] s at = []
print_items indent p (i ∷ is) s at = print_item indent p i s at ++ print_items indent p is s (at + item_size p i s at)

unfoldable pub print_tail : ℕ → Tail → List ℕ → ℕ → List Line
print_tail p t s at =
    cond (is_empty t.switch) (print_items 2 p t.items s at)
    (cond (eqb (byte s at) 1) (record { indent = 2; words = t.switch ∷ [] } ∷ print_items 4 p t.items s (at + 1)) [])

unfoldable pub print_tails : ℕ → List Tail → List ℕ → ℕ → List Line
print_tails p [] s at = []
print_tails p (t ∷ ts) s at = print_tail p t s at ++ print_tails p ts s (at + tail_size p t s at)

-- ---- read

-- one more entry in front of counted ones
abbrev pub one_more : List ℕ → Got → Got
one_more b (Took [] ls) = Bad 0 0 a_record
one_more b (Took (n ∷ c) ls) = Took (suc n ∷ length b ∷ b ++ c) ls
one_more b (Bad n m w) = Bad n m w

-- how many, and the entries: at most so many
unfoldable pub read_entries : List ℕ → ℕ → List Line → Got
read_entries key zero ls = Took (0 ∷ []) ls
read_entries key (suc n) ls =
    cond (leads key ls)
    (bind (read_line rest ls) (λ b below. cond (leb (length b) 255) (one_more b (read_entries key n below)) (bad_line ls shorter)))
    (Took (0 ∷ []) ls)

-- zeros for the groups that are left out
abbrev pub filled : ℕ → Got → Got
filled n (Took b ls) = Took (b ++ replicate (n - length b) 0) ls
filled n (Bad l m w) = Bad l m w

abbrev pub counting : ℕ → Got → Got
counting n (Took b ls) = Took (length b / n ∷ b) ls
counting n (Bad l m w) = Bad l m w

abbrev pub read_item : ℕ → Item → List Line → Got
read_item p (fields fs) ls = read_fields fs ls
read_item p (each g) ls = filled (p * breadth g) (read_groups g p ls)
read_item p (counted g) ls = counting (breadth g) (read_groups g 255 ls)
read_item p (entries key) ls = read_entries key 255 ls

unfoldable pub read_items : ℕ → List Item → List Line → Got
read_items p [] ls = Took [] ls
read_items p (i ∷ is) ls = and_then (read_item p i ls) (read_items p is)

unfoldable pub read_tail : ℕ → Tail → List Line → Got
read_tail p t ls =
    cond (is_empty t.switch) (read_items p t.items ls)
    (cond (leads t.switch ls) (bind (read_line done ls) (λ b ls. joined (1 ∷ []) (read_items p t.items ls))) (Took (0 ∷ []) ls))

unfoldable pub read_tails : ℕ → List Tail → List Line → Got
read_tails p [] ls = Took [] ls
read_tails p (t ∷ ts) ls = and_then (read_tail p t ls) (read_tails p ts)

-- ---- tails that read back: a test on the table alone

-- the first words of its lines that are not below another
abbrev pub item_starts : Item → List (List ℕ)
item_starts (fields fs) = keys fs
item_starts (each g) = g.head.key ∷ []
item_starts (counted g) = g.head.key ∷ []
item_starts (entries key) = key ∷ []

abbrev pub starts : List Item → List (List ℕ)
starts [] = []
starts (i ∷ is) = item_starts i ++ starts is

-- the first words of its lines
abbrev pub item_keys : Item → List (List ℕ)
item_keys (fields fs) = keys fs
item_keys (each g) = g.head.key ∷ keys g.fields
item_keys (counted g) = g.head.key ∷ keys g.fields
item_keys (entries key) = key ∷ []

abbrev pub items_keys : List Item → List (List ℕ)
items_keys [] = []
items_keys (i ∷ is) = item_keys i ++ items_keys is

abbrev pub fine_item : Item → Bool
fine_item (fields fs) = fine_fields fs
fine_item (each g) = fine_group g
fine_item (counted g) = fine_group g && leb 1 (breadth g)
fine_item (entries key) = is_word key

unfoldable pub fine_items : List Item → Bool
fine_items [] = true
fine_items (i ∷ is) = fine_item i && apart (starts is) (item_keys i) && fine_items is

abbrev pub tail_starts : Tail → List (List ℕ)
tail_starts t = cond (is_empty t.switch) (starts t.items) (t.switch ∷ [])

abbrev pub tail_keys : Tail → List (List ℕ)
tail_keys t = t.switch ∷ items_keys t.items

abbrev pub tails_starts : List Tail → List (List ℕ)
tails_starts [] = []
tails_starts (t ∷ ts) = tail_starts t ++ tails_starts ts

unfoldable pub fine_tails : List Tail → Bool
fine_tails [] = true
fine_tails (t ∷ ts) = (is_empty t.switch || is_word t.switch) && fine_items t.items && apart (tails_starts ts) (tail_keys t) && fine_tails ts
