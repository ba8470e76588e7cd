-- What tables, tails and rows read are bytes. Assumes nothing.
use mathlib.Core.Path.{◌≡◌, refl, sym, ap, ap₂, subst, ◌∙◌}
use mathlib.Core.Bool.{Bool, true, false, cond, not, ◌&&◌, ◌||◌}
use mathlib.Core.List.{List, [], ◌∷◌, ◌++◌, append_assoc}
use Prim.Native.Nat.{ℕ, zero, suc, ◌+◌, ◌*◌, ◌-◌, ◌/◌, ◌<◌, ◌≤◌}
use native.Mathlib.Nat.{add_comm, zero-mul, suc-mul, mul-div_cancel}
use native.Mathlib.Omega.{arith}
use borrow.Author.Tests.{leb-true}
use lib.Dec.{leb, ltb}
use lib.ListN.{length, replicate, length-append, length-replicate}
use Rattle.words.specs.Words.{is_in, all, is_empty, tail}
use Rattle.words.specs.Lex.{Line, is_word}
use Rattle.words.proofs.Tests.{both}
use Rattle.words.proofs.Hex.{are_bytes}
use Rattle.forms.specs.Form.{Form, done, rest, width, Want, a_record, shorter, Read, Said, Wrong, read_form, closed, fine}
use Rattle.forms.specs.Table.{Field, keys, widths, Group, breadth, fine_field, fine_fields, fine_group, apart}
use Rattle.forms.specs.Table.{Got, Took, Bad, bind, joined, and_then, in_line, leads, read_line, read_field, read_fields, read_groups, bad_line}
use Rattle.forms.specs.Tail.{Item, fields, each, counted, entries, Tail, one_more, read_entries, filled, counting, read_item, read_items, read_tail, read_tails}
use Rattle.forms.specs.Tail.{starts, item_keys, fine_item, fine_items, tail_keys, tails_starts, fine_tails}
use Rattle.forms.specs.Row.{Row, read_by, row_keys, fine_rows}
use Rattle.forms.proofs.Takes.{one_byte, no_bytes, bytes_append, zero_bytes, Fits, form-fits}

-- bytes that a test holds of
abbrev pub Takes : (List ℕ → Type 0) → Got → Type 0
Takes P (Took b ls) = (are_bytes b ≡ true) × P b
Takes P (Bad n m w) = Unit

abbrev pub Any : List ℕ → Type 0
Any b = Unit

abbrev pub Sized : ℕ → List ℕ → Type 0
Sized n b = length b ≡ n

chosen : (P : List ℕ → Type 0) (t : Bool) (a b : Got) → Takes P a → Takes P b → Takes P (cond t a b)
chosen P true a b h k = h
chosen P false a b h k = k

pub bad_takes : (P : List ℕ → Type 0) (ls : List Line) (w : Want) → Takes P (bad_line ls w)
bad_takes P [] w = tt
bad_takes P (l ∷ ls) w = tt

-- what follows what was taken
pub then_takes : (P Q R : List ℕ → Type 0) (g : Got) (next : List Line → Got) → Takes P g → ((ls : List Line) → Takes Q (next ls))
    → ((a b : List ℕ) → P a → Q b → R (a ++ b)) → Takes R (and_then g next)
then_takes P Q R (Took a ls) next h k both-are = by (next ls) (k ls) where
  by : (r : Got) → Takes Q r → Takes R (joined a r)
  by (Took b more) q = (bytes_append a b h.0 q.0, both-are a b h.1 q.1)
  by (Bad n m w) q = tt
then_takes P Q R (Bad n m w) next h k both-are = tt

pub joined_takes : (b : List ℕ) (g : Got) → are_bytes b ≡ true → Takes Any g → Takes Any (joined b g)
joined_takes b (Took c ls) h k = (bytes_append b c h k.0, tt)
joined_takes b (Bad n m w) h k = tt

pub weaker : (P : List ℕ → Type 0) (g : Got) → Takes P g → Takes Any g
weaker P (Took b ls) h = (h.0, tt)
weaker P (Bad n m w) h = tt

-- ---- a line

in_takes : (c : Bool) (n : ℕ) (ls : List Line) (r : Read) → c ≡ true → Fits c n r → Takes (Sized n) (in_line ls r)
in_takes c n ls (Said b) e h = (h.0, h.1 e)
in_takes c n ls (Wrong m w) e h = tt

in_any : (c : Bool) (n : ℕ) (ls : List Line) (r : Read) → Fits c n r → Takes Any (in_line ls r)
in_any c n ls (Said b) h = (h.0, tt)
in_any c n ls (Wrong m w) h = tt

pub line_any : (f : Form) (ls : List Line) → fine f ≡ true → Takes Any (read_line f ls)
line_any f [] h = tt
line_any f (l ∷ ls) h = in_any (closed f) (width f) ls (read_form f (tail l.words)) (form-fits f (tail l.words) h)

pub line_takes : (f : Field) (ls : List Line) → fine_field f ≡ true → Takes (Sized (width f.form)) (read_line f.form ls)
line_takes f [] h = tt
line_takes f (l ∷ ls) h =
    let (front, shut) = both (is_word f.key && fine f.form) (closed f.form) h in
    let (_, good) = both (is_word f.key) (fine f.form) front in
    in_takes (closed f.form) (width f.form) ls (read_form f.form (tail l.words)) shut (form-fits f.form (tail l.words) good)

field_takes : (f : Field) (ls : List Line) → fine_field f ≡ true → Takes (Sized (width f.form)) (read_field f ls)
field_takes f ls h =
    let n = width f.form in
    chosen (Sized n) (leads f.key ls) (read_line f.form ls) (Took (replicate n 0) ls) (line_takes f ls h) (zero_bytes n, length-replicate n 0)

sum : (m n : ℕ) (a b : List ℕ) → Sized m a → Sized n b → Sized (m + n) (a ++ b)
sum m n a b h k = length-append a b ∙ ap₂ ◌+◌ h k

pub fields-take : (fs : List Field) (ls : List Line) → fine_fields fs ≡ true → Takes (Sized (widths fs)) (read_fields fs ls)
unfolding fine_fields read_fields
fields-take [] ls h = (no_bytes, refl)
fields-take (f ∷ fs) ls h =
    let (front, more) = both (fine_field f && not (is_in f.key (keys fs))) (fine_fields fs) h in
    let (good, _) = both (fine_field f) (not (is_in f.key (keys fs))) front in
    let w = width f.form in
    then_takes (Sized w) (Sized (widths fs)) (Sized (w + widths fs)) (read_field f ls) (read_fields fs) (field_takes f ls good) (λ ls. fields-take fs ls more) (sum w (widths fs))

-- ---- groups: at most so many, each of so many bytes

pub record Many (w n : ℕ) (b : List ℕ) : Type 0 where
  pub count : ℕ
  pub few : count ≤ n
  pub size : length b ≡ count * w

none_many : (w n : ℕ) → Many w n []
none_many w n = record { count = 0; few = omega arith; size = sym (zero-mul w) }

more_many : (w n : ℕ) (a b : List ℕ) → Sized w a → Many w n b → Many w (suc n) (a ++ b)
more_many w n a b h k =
    let less = k.few in
    record { count = suc k.count; few = omega arith; size = length-append a b ∙ ap₂ ◌+◌ h k.size ∙ add_comm w (k.count * w) ∙ sym (suc-mul k.count w) }

group_takes : (g : Group) (ls : List Line) (P : List ℕ → Type 0) (next : List Line → Got) (R : List ℕ → Type 0) → fine_group g ≡ true
    → ((ls : List Line) → Takes P (next ls)) → ((a b : List ℕ) → Sized (breadth g) a → P b → R (a ++ b))
    → Takes R (and_then (read_line g.head.form ls) (λ ls. and_then (read_fields g.fields ls) next))
unfolding fine_group
group_takes g ls P next R h k join =
    let (front, good) = both (fine_field g.head && not (is_in g.head.key (keys g.fields))) (fine_fields g.fields) h in
    let (top, _) = both (fine_field g.head) (not (is_in g.head.key (keys g.fields))) front in
    let w = width g.head.form in
    let v = widths g.fields in
    let Q : List ℕ → Type 0 = λ b. (a : List ℕ) → Sized w a → R (a ++ b) in
    then_takes (Sized w) Q R (read_line g.head.form ls) (λ ls. and_then (read_fields g.fields ls) next) (line_takes g.head ls top)
    (λ ls. then_takes (Sized v) P Q (read_fields g.fields ls) next (fields-take g.fields ls good) k
    (λ b c h k a e. subst R (append_assoc a b c) (join (a ++ b) c (sum w v a b e h) k)))
    (λ a b h q. q a h)

pub groups_take : (g : Group) (n : ℕ) (ls : List Line) → fine_group g ≡ true → Takes (Many (breadth g) n) (read_groups g n ls)
unfolding read_groups
groups_take g zero ls h = (no_bytes, none_many (breadth g) 0)
groups_take g (suc n) ls h =
    let P = Many (breadth g) (suc n) in
    chosen P (leads g.head.key ls) (and_then (read_line g.head.form ls) (λ ls. and_then (read_fields g.fields ls) (read_groups g n))) (Took [] ls)
    (group_takes g ls (Many (breadth g) n) (read_groups g n) P h (λ ls. groups_take g n ls h) (more_many (breadth g) n)) (no_bytes, none_many (breadth g) (suc n))

-- how many groups the bytes are
pub many_of_lem : (w n : ℕ) (b : List ℕ) → 1 ≤ w → Many w n b → length b / w ≤ n
many_of_lem w n b h m =
    let count : length b / w ≡ m.count = ap (λ k. k / w) m.size ∙ mul-div_cancel m.count h in
    let few = m.few in
    omega arith

-- ---- items and tails

filled_takes : (P : List ℕ → Type 0) (n : ℕ) (g : Got) → Takes P g → Takes Any (filled n g)
filled_takes P n (Took b ls) h = (bytes_append b (replicate (n - length b) 0) h.0 (zero_bytes (n - length b)), tt)
filled_takes P n (Bad l m w) h = tt

counting_takes : (w : ℕ) (g : Got) → 1 ≤ w → Takes (Many w 255) g → Takes Any (counting w g)
counting_takes w (Took b ls) h k = let few = many_of_lem w 255 b h k.1 in (one_byte (length b / w) b (omega arith) k.0, tt)
counting_takes w (Bad l m v) h k = tt

-- counted by the first byte
abbrev Headed : ℕ → List ℕ → Type 0
Headed n [] = Unit
Headed n (c ∷ b) = c ≤ n

more_takes : (n : ℕ) (b : List ℕ) (g : Got) → n < 255 → length b ≤ 255 → are_bytes b ≡ true → Takes (Headed n) g → Takes (Headed (suc n)) (one_more b g)
more_takes n b (Took [] ls) h k e q = tt
more_takes n b (Took (c ∷ s) ls) h k e q =
    let few = q.1 in
    (one_byte (suc c) (length b ∷ b ++ s) (omega arith) (one_byte (length b) (b ++ s) (omega arith) (bytes_append b s e (rest-are c s q.0))), omega arith) where
      rest-are : (c : ℕ) (s : List ℕ) → are_bytes (c ∷ s) ≡ true → are_bytes s ≡ true
      rest-are c s h = (both (ltb c 256) (are_bytes s) (unfold all in h)).1
more_takes n b (Bad l m w) h k e q = tt

entries-take : (key : List ℕ) (n : ℕ) (ls : List Line) → n ≤ 255 → Takes (Headed n) (read_entries key n ls)
unfolding read_entries
entries-take key zero ls h = (one_byte 0 [] (omega arith) no_bytes, omega arith)
entries-take key (suc n) ls h =
    chosen (Headed (suc n)) (leads key ls)
    (bind (read_line rest ls) (λ b below. cond (leb (length b) 255) (one_more b (read_entries key n below)) (bad_line ls shorter))) (Took (0 ∷ []) ls)
    (by (read_line rest ls) (line_any rest ls rest-fine) (λ below. entries-take key n below (omega arith)))
    (one_byte 0 [] (omega arith) no_bytes, omega arith) where
      rest-fine : fine rest ≡ true
      rest-fine = unfold fine in refl

      short : (t : Bool) (b : List ℕ) (below : List Line) → leb (length b) 255 ≡ t → are_bytes b ≡ true → Takes (Headed n) (read_entries key n below)
          → Takes (Headed (suc n)) (cond t (one_more b (read_entries key n below)) (bad_line ls shorter))
      short true b below e a q = more_takes n b (read_entries key n below) (omega arith) (leb-true (length b) 255 e) a q
      short false b below e a q = bad_takes (Headed (suc n)) ls shorter

      by : (g : Got) → Takes Any g → ((below : List Line) → Takes (Headed n) (read_entries key n below))
          → Takes (Headed (suc n)) (bind g (λ b below. cond (leb (length b) 255) (one_more b (read_entries key n below)) (bad_line ls shorter)))
      by (Took b below) k ih = short (leb (length b) 255) b below refl k.0 (ih below)
      by (Bad l m w) k ih = tt

item_takes : (p : ℕ) (i : Item) (ls : List Line) → fine_item i ≡ true → Takes Any (read_item p i ls)
item_takes p (fields fs) ls h = weaker (Sized (widths fs)) (read_fields fs ls) (fields-take fs ls h)
item_takes p (each g) ls h = filled_takes (Many (breadth g) p) (p * breadth g) (read_groups g p ls) (groups_take g p ls h)
item_takes p (counted g) ls h =
    let (good, some) = both (fine_group g) (leb 1 (breadth g)) h in
    counting_takes (breadth g) (read_groups g 255 ls) (leb-true 1 (breadth g) some) (groups_take g 255 ls good)
item_takes p (entries key) ls h = weaker (Headed 255) (read_entries key 255 ls) (entries-take key 255 ls (omega arith))

items-take : (p : ℕ) (is : List Item) (ls : List Line) → fine_items is ≡ true → Takes Any (read_items p is ls)
unfolding fine_items read_items
items-take p [] ls h = (no_bytes, tt)
items-take p (i ∷ is) ls h =
    let (front, more) = both (fine_item i && apart (starts is) (item_keys i)) (fine_items is) h in
    let (good, _) = both (fine_item i) (apart (starts is) (item_keys i)) front in
    then_takes Any Any Any (read_item p i ls) (read_items p is) (item_takes p i ls good) (λ ls. items-take p is ls more) (λ a b h k. tt)

tail_takes : (p : ℕ) (t : Tail) (ls : List Line) → fine_items t.items ≡ true → Takes Any (read_tail p t ls)
unfolding read_tail
tail_takes p t ls h =
    chosen Any (is_empty t.switch) (read_items p t.items ls) _ (items-take p t.items ls h)
    (chosen Any (leads t.switch ls) _ (Took (0 ∷ []) ls) (on (read_line done ls)) (one_byte 0 [] (omega arith) no_bytes, tt)) where
      on : (g : Got) → Takes Any (bind g (λ b ls. joined (1 ∷ []) (read_items p t.items ls)))
      on (Took b ls) = joined_takes (1 ∷ []) (read_items p t.items ls) (one_byte 1 [] (omega arith) no_bytes) (items-take p t.items ls h)
      on (Bad n m w) = tt

pub tails-take : (p : ℕ) (ts : List Tail) (ls : List Line) → fine_tails ts ≡ true → Takes Any (read_tails p ts ls)
unfolding fine_tails read_tails
tails-take p [] ls h = (no_bytes, tt)
tails-take p (t ∷ ts) ls h =
    let fine_tail = (is_empty t.switch || is_word t.switch) && fine_items t.items in
    let (front, more) = both (fine_tail && apart (tails_starts ts) (tail_keys t)) (fine_tails ts) h in
    let (good, _) = both fine_tail (apart (tails_starts ts) (tail_keys t)) front in
    let (_, held) = both (is_empty t.switch || is_word t.switch) (fine_items t.items) good in
    then_takes Any Any Any (read_tail p t ls) (read_tails p ts) (tail_takes p t ls held) (λ ls. tails-take p ts ls more) (λ a b h k. tt)

-- ---- records

-- the leads are bytes
unfoldable pub are_leads : List Row → Bool
are_leads [] = true
are_leads (r ∷ rs) = are_bytes r.lead && are_leads rs

pub by_takes : (rs : List Row) (any : Field) (ls : List Line) → fine_rows rs any ≡ true → are_leads rs ≡ true → Takes Any (read_by rs any ls)
unfolding read_by fine_rows are_leads
by_takes [] any ls h k =
    chosen Any (leads any.key ls) (read_line any.form ls) (bad_line ls a_record) (line_any any.form ls (both (is_word any.key) (fine any.form) h).1) (bad_takes Any ls a_record)
by_takes (r ∷ rs) any ls h k =
    let (front, more) = both (is_word r.field.key && fine r.field.form && not (is_in r.field.key (row_keys rs any))) (fine_rows rs any) h in
    let (words, _) = both (is_word r.field.key && fine r.field.form) (not (is_in r.field.key (row_keys rs any))) front in
    let (_, good) = both (is_word r.field.key) (fine r.field.form) words in
    let (lead, leads-are) = both (are_bytes r.lead) (are_leads rs) k in
    chosen Any (leads r.field.key ls) (joined r.lead (read_line r.field.form ls)) (read_by rs any ls)
    (joined_takes r.lead (read_line r.field.form ls) lead (line_any r.field.form ls good)) (by_takes rs any ls more leads-are)
