-- Tails read back: one law for every table of tails. Assumes nothing.
use mathlib.Core.Path.{◌≡◌, refl, sym, ap, ap₂, ◌∙◌}
use mathlib.Core.Bool.{Bool, true, false, cond, not, ◌&&◌, ◌||◌}
use mathlib.Core.List.{List, [], ◌∷◌, ◌++◌, append_assoc, append-nil}
use Prim.Native.Nat.{ℕ, zero, suc, ◌+◌, ◌*◌, ◌-◌, ◌/◌, ◌≤◌}
use native.Mathlib.Nat.{mul-div_cancel, sub_self}
use native.Mathlib.Omega.{arith}
use borrow.Author.Tests.{le-leb, leb-true, eqb-true, eqb-false, not-true}
use lib.Dec.{leb, eqb}
use lib.ListN.{length, replicate}
use Rattle.wire.specs.Wire.{byte}
use Rattle.words.specs.Words.{same, is_in, is_empty}
use Rattle.words.specs.Lex.{Line, is_word, are_words, are_lines}
use Rattle.words.proofs.Tests.{both, and, same_refl}
use Rattle.words.proofs.Names.{stopped}
use Rattle.forms.specs.Form.{done, bytes_at, rest_words, read_form}
use Rattle.forms.specs.Table.{breadth, fine_group, apart}
use Rattle.forms.specs.Table.{Took, bind, joined, and_then, leads, read_line}
use Rattle.forms.specs.Tail.{Item, fields, each, counted, entries, Tail, known, entries_size, item_size, items_size, tail_size, tails_size, are_switched}
use Rattle.forms.specs.Tail.{print_entries, print_item, print_items, print_tail, print_tails}
use Rattle.forms.specs.Tail.{read_entries, filled, counting, read_item, read_items, read_tail, read_tails}
use Rattle.forms.specs.Tail.{item_starts, starts, item_keys, items_keys, fine_item, fine_items, tail_starts, tail_keys, tails_starts, fine_tails}
use Rattle.forms.proofs.Bytes.{Bytes, size-at, split_at, bytes-at}
use Rattle.forms.proofs.Forms.{rest_back}
use Rattle.forms.proofs.Tables.{clear, not_led, fields_clear, groups_clear, fields_back, groups_back}
use Rattle.forms.proofs.Speaks.{lines_append, one_line, no_lines, rest-words, fields-lines, groups_lines}

-- ---- keys of two tables

in_append : (w : List ℕ) (a b : List (List ℕ)) → is_in w (a ++ b) ≡ (is_in w a || is_in w b)
unfolding is_in
in_append w [] b = refl
in_append w (v ∷ a) b = ap (λ t. same w v || t) (in_append w a b) ∙ or_or (same w v) (is_in w a) (is_in w b) where
  or_or : (x y z : Bool) → (x || (y || z)) ≡ ((x || y) || z)
  or_or true y z = refl
  or_or false y z = refl

not_either : (x y : Bool) → not (x || y) ≡ true → (not x ≡ true) × (not y ≡ true)
not_either true y h = (h, let e : ◌≡◌ {A = ℕ} 0 1 = cc in absurd (omega arith))
not_either false y h = (refl, h)

pub clear_both : (a b : List (List ℕ)) (ls : List Line) → clear (a ++ b) ls ≡ true → (clear a ls ≡ true) × (clear b ls ≡ true)
clear_both a b [] h = (refl, refl)
clear_both a b (l ∷ ls) h = by l.words h where
  by : (ws : List (List ℕ)) → stopped (a ++ b) ws ≡ true → (stopped a ws ≡ true) × (stopped b ws ≡ true)
  by [] h = (refl, refl)
  by (w ∷ ws) h = not_either (is_in w a) (is_in w b) (ap not (sym (in_append w a b)) ∙ h)

apart_both : (a b ks : List (List ℕ)) → apart (a ++ b) ks ≡ true → (apart a ks ≡ true) × (apart b ks ≡ true)
unfolding apart
apart_both [] b ks h = (refl, h)
apart_both (k ∷ a) b ks h =
    let (here, more) = both (not (is_in k ks)) (apart (a ++ b) ks) h in
    let (p, q) = apart_both a b ks more in (and (not (is_in k ks)) (apart a ks) here p, q)

pub apart_append : (a b ks : List (List ℕ)) → apart a ks ≡ true → apart b ks ≡ true → apart (a ++ b) ks ≡ true
unfolding apart
apart_append [] b ks h k = k
apart_append (w ∷ a) b ks h k =
    let (here, more) = both (not (is_in w ks)) (apart a ks) h in
    and (not (is_in w ks)) (apart (a ++ b) ks) here (apart_append a b ks more k)

one_apart : (k : List ℕ) (ks : List (List ℕ)) → apart (k ∷ []) ks ≡ true → is_in k ks ≡ false
unfolding apart
one_apart k ks h = not-true (is_in k ks) (both (not (is_in k ks)) true h).0

abbrev pub tails_keys : List Tail → List (List ℕ)
tails_keys [] = []
tails_keys (t ∷ ts) = tail_keys t ++ tails_keys ts

-- ---- the tails of a version are fine where all are

known-starts : (v : ℕ) (ts : List Tail) (ks : List (List ℕ)) → apart (tails_starts ts) ks ≡ true → apart (tails_starts (known v ts)) ks ≡ true
unfolding known
known-starts v [] ks h = h
known-starts v (t ∷ ts) ks h =
    let (here, more) = apart_both (tail_starts t) (tails_starts ts) ks h in
    by (leb t.version v) here (known-starts v ts ks more) where
      by : (b : Bool) → apart (tail_starts t) ks ≡ true → apart (tails_starts (known v ts)) ks ≡ true → apart (tails_starts (cond b (t ∷ known v ts) (known v ts))) ks ≡ true
      by true p q = apart_append (tail_starts t) (tails_starts (known v ts)) ks p q
      by false p q = q

abbrev fine_tail : Tail → Bool
fine_tail t = (is_empty t.switch || is_word t.switch) && fine_items t.items

pub known-fine : (v : ℕ) (ts : List Tail) → fine_tails ts ≡ true → fine_tails (known v ts) ≡ true
unfolding known fine_tails
known-fine v [] h = refl
known-fine v (t ∷ ts) h =
    let (front, more) = both (fine_tail t && apart (tails_starts ts) (tail_keys t)) (fine_tails ts) h in
    let (good, new) = both (fine_tail t) (apart (tails_starts ts) (tail_keys t)) front in
    by (leb t.version v) good (known-starts v ts (tail_keys t) new) (known-fine v ts more) where
      by : (b : Bool) → fine_tail t ≡ true → apart (tails_starts (known v ts)) (tail_keys t) ≡ true → fine_tails (known v ts) ≡ true → fine_tails (cond b (t ∷ known v ts) (known v ts)) ≡ true
      by true p q r = and (fine_tail t && apart (tails_starts (known v ts)) (tail_keys t)) (fine_tails (known v ts)) (and (fine_tail t) (apart (tails_starts (known v ts)) (tail_keys t)) p q) r
      by false p q r = r

clear_append : (a b : List (List ℕ)) (ls : List Line) → clear a ls ≡ true → clear b ls ≡ true → clear (a ++ b) ls ≡ true
clear_append a b [] h k = refl
clear_append a b (l ∷ ls) h k = by l.words h k where
  by : (ws : List (List ℕ)) → stopped a ws ≡ true → stopped b ws ≡ true → stopped (a ++ b) ws ≡ true
  by [] h k = refl
  by (w ∷ ws) h k = ap not (in_append w a b ∙ ap₂ ◌||◌ (not-true (is_in w a) h) (not-true (is_in w b) k))

known_clear : (v : ℕ) (ts : List Tail) (ls : List Line) → clear (tails_keys ts) ls ≡ true → clear (tails_keys (known v ts)) ls ≡ true
unfolding known
known_clear v [] ls h = h
known_clear v (t ∷ ts) ls h =
    let (here, more) = clear_both (tail_keys t) (tails_keys ts) ls h in
    by (leb t.version v) here (known_clear v ts ls more) where
      by : (b : Bool) → clear (tail_keys t) ls ≡ true → clear (tails_keys (known v ts)) ls ≡ true → clear (tails_keys (cond b (t ∷ known v ts) (known v ts))) ls ≡ true
      by true p q = clear_append (tail_keys t) (tails_keys (known v ts)) ls p q
      by false p q = q

-- ---- what begins an item is none of the keys before it

entries_clear : (indent : ℕ) (key : List ℕ) (n : ℕ) (s : List ℕ) (at : ℕ) (ks : List (List ℕ)) (ls : List Line) → is_in key ks ≡ false → clear ks ls ≡ true
    → clear ks (print_entries indent key n s at ++ ls) ≡ true
unfolding print_entries
entries_clear indent key zero s at ks ls h k = k
entries_clear indent key (suc n) s at ks ls h k = ap not h

module _ (p : ℕ) (s : List ℕ) (ks : List (List ℕ)) where
  item_clear : (indent : ℕ) (i : Item) (at : ℕ) (ls : List Line) → apart (item_starts i) ks ≡ true → clear ks ls ≡ true → clear ks (print_item indent p i s at ++ ls) ≡ true
  item_clear indent (fields fs) at ls h k = fields_clear indent fs s at ks ls h k
  item_clear indent (each g) at ls h k = groups_clear indent g p s at ks ls (one_apart g.head.key ks h) k
  item_clear indent (counted g) at ls h k = groups_clear indent g (byte s at) s (at + 1) ks ls (one_apart g.head.key ks h) k
  item_clear indent (entries key) at ls h k = entries_clear indent key (byte s at) s (at + 1) ks ls (one_apart key ks h) k

  items_clear : (indent : ℕ) (is : List Item) (at : ℕ) (ls : List Line) → apart (starts is) ks ≡ true → clear ks ls ≡ true → clear ks (print_items indent p is s at ++ ls) ≡ true
  unfolding print_items
  items_clear indent [] at ls h k = k
  items_clear indent (i ∷ is) at ls h k =
      let (here, more) = apart_both (item_starts i) (starts is) ks h in
      let later = print_items indent p is s (at + item_size p i s at) in
      ap (clear ks) (append_assoc (print_item indent p i s at) later ls)
      ∙ item_clear indent i at (later ++ ls) here (items_clear indent is (at + item_size p i s at) ls more k)

  by-switch : (a b : Bool) (t : Tail) (at : ℕ) (ls : List Line) → apart (cond a (starts t.items) (t.switch ∷ [])) ks ≡ true → clear ks ls ≡ true
      → clear ks (cond a (print_items 2 p t.items s at) (cond b (record { indent = 2; words = t.switch ∷ [] } ∷ print_items 4 p t.items s (at + 1)) []) ++ ls) ≡ true
  by-switch true b t at ls h k = items_clear 2 t.items at ls h k
  by-switch false true t at ls h k = ap not (one_apart t.switch ks h)
  by-switch false false t at ls h k = k

  tails_clear : (ts : List Tail) (at : ℕ) (ls : List Line) → apart (tails_starts ts) ks ≡ true → clear ks ls ≡ true → clear ks (print_tails p ts s at ++ ls) ≡ true
  unfolding print_tails print_tail
  tails_clear [] at ls h k = k
  tails_clear (t ∷ ts) at ls h k =
      let (here, more) = apart_both (tail_starts t) (tails_starts ts) ks h in
      let later = print_tails p ts s (at + tail_size p t s at) in
      ap (clear ks) (append_assoc (print_tail p t s at) later ls)
      ∙ by-switch (is_empty t.switch) (eqb (byte s at) 1) t at (later ++ ls) here (tails_clear ts (at + tail_size p t s at) ls more k)

  pub known_tails_clear : (v : ℕ) (ts : List Tail) (at : ℕ) (ls : List Line) → apart (tails_starts ts) ks ≡ true → clear ks ls ≡ true
      → clear ks (print_tails p (known v ts) s at ++ ls) ≡ true
  known_tails_clear v ts at ls h k = tails_clear (known v ts) at ls (known-starts v ts ks h) k

-- ---- read back

module _ (s : List ℕ) (small : Bytes s) where
  one_more_lem : (at n : ℕ) → byte s at ∷ bytes_at s (at + 1) n ≡ bytes_at s at (1 + n)
  one_more_lem at n = sym is where
    is : bytes_at s at (1 + n) ≡ byte s at ∷ bytes_at s (at + 1) n
    is = split_at s at 1 n ∙ (unfold bytes_at in refl)

  entry-bytes : (at n : ℕ) → bytes_at s at (suc (byte s at) + n) ≡ byte s at ∷ bytes_at s (suc at) (byte s at) ++ bytes_at s (at + suc (byte s at)) n
  entry-bytes at n = split_at s at (suc (byte s at)) n ∙ (unfold bytes_at in refl)

  entries_back : (indent : ℕ) (key : List ℕ) (m n at : ℕ) (ls : List Line) → n ≤ m → clear (key ∷ []) ls ≡ true
      → read_entries key m (print_entries indent key n s at ++ ls) ≡ Took (n ∷ bytes_at s at (entries_size n s at)) ls
  unfolding read_entries print_entries entries_size read_form
  entries_back indent key zero zero at ls h k = unfold bytes_at in refl
  entries_back indent key zero (suc n) at ls h k = absurd (omega arith)
  entries_back indent key (suc m) zero at ls h k = rw (not_led key [] ls k).0 (unfold bytes_at in refl)
  entries_back indent key (suc m) (suc n) at ls h k =
      let e = byte s at in
      let b = bytes_at s (suc at) e in
      let size : length b ≡ e = size-at s (suc at) e in
      let less = small at in
      let fits : leb (length b) 255 ≡ true = le-leb (length b) 255 (omega arith) in
      let later = entries_back indent key m n (at + suc e) ls (omega arith) k in
      rw (same_refl key, rest_back b (bytes-at s small (suc at) e), fits, later, size, entry-bytes at (entries_size n s (at + suc e)))

  filled_back : (n at : ℕ) (ls : List Line) → filled n (Took (bytes_at s at n) ls) ≡ Took (bytes_at s at n) ls
  filled_back n at ls =
      let none : n - length (bytes_at s at n) ≡ 0 = ap (λ k. n - k) (size-at s at n) ∙ sub_self n in
      ap (λ k. Took (bytes_at s at n ++ replicate k 0) ls) none ∙ ap (λ b. Took b ls) (append-nil (bytes_at s at n))

  counting_back : (n at : ℕ) (ls : List Line) → 1 ≤ n → counting n (Took (bytes_at s (at + 1) (byte s at * n)) ls) ≡ Took (bytes_at s at (1 + byte s at * n)) ls
  counting_back n at ls h =
      let many : length (bytes_at s (at + 1) (byte s at * n)) / n ≡ byte s at = ap (λ k. k / n) (size-at s (at + 1) (byte s at * n)) ∙ mul-div_cancel (byte s at) h in
      ap (λ k. Took (k ∷ bytes_at s (at + 1) (byte s at * n)) ls) many ∙ ap (λ b. Took b ls) (one_more_lem at (byte s at * n))

  module _ (p : ℕ) where
    item_back : (indent : ℕ) (i : Item) (at : ℕ) (ls : List Line) → fine_item i ≡ true → clear (item_keys i) ls ≡ true
        → read_item p i (print_item indent p i s at ++ ls) ≡ Took (bytes_at s at (item_size p i s at)) ls
    item_back indent (fields fs) at ls h k = fields_back s small indent fs at ls h k
    item_back indent (each g) at ls h k = ap (filled (p * breadth g)) (groups_back s small indent g p p at ls (omega arith) h k) ∙ filled_back (p * breadth g) at ls
    item_back indent (counted g) at ls h k =
        let (good, some) = both (fine_group g) (leb 1 (breadth g)) h in
        let few = small at in
        ap (counting (breadth g)) (groups_back s small indent g 255 (byte s at) (at + 1) ls (omega arith) good k) ∙ counting_back (breadth g) at ls (leb-true 1 (breadth g) some)
    item_back indent (entries key) at ls h k =
        let few = small at in
        entries_back indent key 255 (byte s at) (at + 1) ls (omega arith) k ∙ ap (λ b. Took b ls) (one_more_lem at (entries_size (byte s at) s (at + 1)))

    none-at : (at : ℕ) (ls : List Line) → Took [] ls ≡ Took (bytes_at s at 0) ls
    unfolding bytes_at
    none-at at ls = refl

    pub items_back : (indent : ℕ) (is : List Item) (at : ℕ) (ls : List Line) → fine_items is ≡ true → clear (items_keys is) ls ≡ true
        → read_items p is (print_items indent p is s at ++ ls) ≡ Took (bytes_at s at (items_size p is s at)) ls
    unfolding fine_items print_items items_size read_items
    items_back indent [] at ls h k = none-at at ls
    items_back indent (i ∷ is) at ls h k =
        let (front, more) = both (fine_item i && apart (starts is) (item_keys i)) (fine_items is) h in
        let (good, new) = both (fine_item i) (apart (starts is) (item_keys i)) front in
        let (mine, others) = clear_both (item_keys i) (items_keys is) ls k in
        let n = item_size p i s at in
        let later = print_items indent p is s (at + n) in
        let stop : clear (item_keys i) (later ++ ls) ≡ true = items_clear p s (item_keys i) indent is (at + n) ls new mine in
        ap (λ x. and_then (read_item p i x) (read_items p is)) (append_assoc (print_item indent p i s at) later ls)
        ∙ ap (λ r. and_then r (read_items p is)) (item_back indent i at (later ++ ls) good stop)
        ∙ ap (joined (bytes_at s at n)) (items_back indent is (at + n) ls more others)
        ∙ ap (λ b. Took b ls) (sym (split_at s at n (items_size p is s (at + n))))

    on-byte : (at n : ℕ) → byte s at ≡ 1 → 1 ∷ bytes_at s (at + 1) n ≡ bytes_at s at (1 + n)
    on-byte at n e = ap (λ b. b ∷ bytes_at s (at + 1) n) (sym e) ∙ one_more_lem at n

    off_byte : (at : ℕ) (ls : List Line) → byte s at ≡ 0 → Took (0 ∷ []) ls ≡ Took (bytes_at s at 1) ls
    unfolding bytes_at
    off_byte at ls e = rw e

    abbrev shown : Bool → Bool → Tail → ℕ → List Line
    shown a b t at =
        cond a (print_items 2 p t.items s at) (cond b (record { indent = 2; words = t.switch ∷ [] } ∷ print_items 4 p t.items s (at + 1)) [])

    by-tail : (a b : Bool) (t : Tail) (at : ℕ) (ls : List Line) → eqb (byte s at) 1 ≡ b → (a || leb (byte s at) 1) ≡ true → fine_items t.items ≡ true
        → clear (tail_keys t) ls ≡ true
        → cond a (read_items p t.items (shown a b t at ++ ls))
        (cond (leads t.switch (shown a b t at ++ ls)) (bind (read_line done (shown a b t at ++ ls)) (λ c ls. joined (1 ∷ []) (read_items p t.items ls)))
        (Took (0 ∷ []) (shown a b t at ++ ls)))
        ≡ Took (bytes_at s at (cond a (items_size p t.items s at) (cond b (1 + items_size p t.items s (at + 1)) 1))) ls
    unfolding read_form
    by-tail true b t at ls e h good k = items_back 2 t.items at ls good (not_led t.switch (items_keys t.items) ls k).1
    by-tail false true t at ls e h good k =
        let (_, on) = not_led t.switch (items_keys t.items) ls k in
        rw (same_refl t.switch, items_back 4 t.items (at + 1) ls good on, on-byte at (items_size p t.items s (at + 1)) (eqb-true (byte s at) 1 e))
    by-tail false false t at ls e h good k =
        let low = leb-true (byte s at) 1 h in
        let zero-byte : byte s at ≡ 0 = omega (arith, eqb-false (byte s at) 1 e) in
        rw (not_led t.switch (items_keys t.items) ls k).0 (off_byte at ls zero-byte)

    tail_back : (t : Tail) (at : ℕ) (ls : List Line) → (is_empty t.switch || leb (byte s at) 1) ≡ true → fine_items t.items ≡ true → clear (tail_keys t) ls ≡ true
        → read_tail p t (print_tail p t s at ++ ls) ≡ Took (bytes_at s at (tail_size p t s at)) ls
    unfolding read_tail print_tail tail_size
    tail_back t at ls h good k = by-tail (is_empty t.switch) (eqb (byte s at) 1) t at ls refl h good k

    -- THE LAW OF TAILS
    tails_back : (ts : List Tail) (at : ℕ) (ls : List Line) → are_switched p ts s at ≡ true → fine_tails ts ≡ true → clear (tails_keys ts) ls ≡ true
        → read_tails p ts (print_tails p ts s at ++ ls) ≡ Took (bytes_at s at (tails_size p ts s at)) ls
    unfolding are_switched fine_tails print_tails tails_size read_tails
    tails_back [] at ls w h k = none-at at ls
    tails_back (t ∷ ts) at ls w h k =
        let n = tail_size p t s at in
        let (front, more) = both (fine_tail t && apart (tails_starts ts) (tail_keys t)) (fine_tails ts) h in
        let (good, new) = both (fine_tail t) (apart (tails_starts ts) (tail_keys t)) front in
        let (_, held) = both (is_empty t.switch || is_word t.switch) (fine_items t.items) good in
        let (switch, switches) = both (is_empty t.switch || leb (byte s at) 1) (are_switched p ts s (at + n)) w in
        let (mine, others) = clear_both (tail_keys t) (tails_keys ts) ls k in
        let later = print_tails p ts s (at + n) in
        let stop : clear (tail_keys t) (later ++ ls) ≡ true = tails_clear p s (tail_keys t) ts (at + n) ls new mine in
        ap (λ x. and_then (read_tail p t x) (read_tails p ts)) (append_assoc (print_tail p t s at) later ls)
        ∙ ap (λ r. and_then r (read_tails p ts)) (tail_back t at (later ++ ls) switch held stop)
        ∙ ap (joined (bytes_at s at n)) (tails_back ts (at + n) ls switches more others)
        ∙ ap (λ b. Took b ls) (sym (split_at s at n (tails_size p ts s (at + n))))

    pub known_back : (v : ℕ) (ts : List Tail) (at : ℕ) (ls : List Line) → are_switched p (known v ts) s at ≡ true → fine_tails ts ≡ true → clear (tails_keys ts) ls ≡ true
        → read_tails p (known v ts) (print_tails p (known v ts) s at ++ ls) ≡ Took (bytes_at s at (tails_size p (known v ts) s at)) ls
    known_back v ts at ls w h k = tails_back (known v ts) at ls w (known-fine v ts h) (known_clear v ts ls k)

  -- ---- lines that a text can say

  entries-lines : (indent : ℕ) (key : List ℕ) (n at : ℕ) → is_word key ≡ true → are_lines (print_entries indent key n s at) ≡ true
  unfolding print_entries
  entries-lines indent key zero at h = no_lines
  entries-lines indent key (suc n) at h =
      let b = bytes_at s (suc at) (byte s at) in
      one_line indent key (rest_words b) (print_entries indent key n s (at + suc (byte s at))) h (rest-words b (bytes-at s small (suc at) (byte s at)))
      (entries-lines indent key n (at + suc (byte s at)) h)

  item_lines : (indent p : ℕ) (i : Item) (at : ℕ) → fine_item i ≡ true → are_lines (print_item indent p i s at) ≡ true
  item_lines indent p (fields fs) at h = fields-lines s small indent fs at h
  item_lines indent p (each g) at h = groups_lines s small indent g p at h
  item_lines indent p (counted g) at h = groups_lines s small indent g (byte s at) (at + 1) (both (fine_group g) (leb 1 (breadth g)) h).0
  item_lines indent p (entries key) at h = entries-lines indent key (byte s at) (at + 1) h

  items-lines : (indent p : ℕ) (is : List Item) (at : ℕ) → fine_items is ≡ true → are_lines (print_items indent p is s at) ≡ true
  unfolding fine_items print_items
  items-lines indent p [] at h = no_lines
  items-lines indent p (i ∷ is) at h =
      let (front, more) = both (fine_item i && apart (starts is) (item_keys i)) (fine_items is) h in
      let (good, _) = both (fine_item i) (apart (starts is) (item_keys i)) front in
      lines_append (print_item indent p i s at) (print_items indent p is s (at + item_size p i s at)) (item_lines indent p i at good) (items-lines indent p is (at + item_size p i s at) more)

  no_words : are_words [] ≡ true
  unfolding are_words
  no_words = refl

  switch-lines : (a b : Bool) (p : ℕ) (t : Tail) (at : ℕ) → (a || is_word t.switch) ≡ true → fine_items t.items ≡ true → are_lines (shown p a b t at) ≡ true
  switch-lines true b p t at h k = items-lines 2 p t.items at k
  switch-lines false true p t at h k = one_line 2 t.switch [] (print_items 4 p t.items s (at + 1)) h no_words (items-lines 4 p t.items (at + 1) k)
  switch-lines false false p t at h k = no_lines

  tails-lines : (p : ℕ) (ts : List Tail) (at : ℕ) → fine_tails ts ≡ true → are_lines (print_tails p ts s at) ≡ true
  unfolding fine_tails print_tails print_tail
  tails-lines p [] at h = no_lines
  tails-lines p (t ∷ ts) at h =
      let (front, more) = both (fine_tail t && apart (tails_starts ts) (tail_keys t)) (fine_tails ts) h in
      let (good, _) = both (fine_tail t) (apart (tails_starts ts) (tail_keys t)) front in
      let (word, held) = both (is_empty t.switch || is_word t.switch) (fine_items t.items) good in
      lines_append (print_tail p t s at) (print_tails p ts s (at + tail_size p t s at)) (switch-lines (is_empty t.switch) (eqb (byte s at) 1) p t at word held)
      (tails-lines p ts (at + tail_size p t s at) more)

  pub known-lines : (p v : ℕ) (ts : List Tail) (at : ℕ) → fine_tails ts ≡ true → are_lines (print_tails p (known v ts) s at) ≡ true
  known-lines p v ts at h = tails-lines p (known v ts) at (known-fine v ts h)
