-- The grammar of papers as text: a row to a field, in the paper's order (docs/PAPERS.md).
use Rattle.std.specs.Prelude.{List, [], ◌∷◌, ◌++◌, ℕ}
use Prim.Native.String.{String}
use Rattle.words.specs.Words.{word}
use Rattle.forms.specs.Grammar.{words_in, rows_in}
use Rattle.forms.specs.Table.{Field, field_in, fields_in, Group, group_in}
use Rattle.forms.specs.Tail.{Item, fields, each, counted, entries, Tail}
use Rattle.forms.specs.Row.{Row, leads_in}

abbrev row : String → Field
row text = field_in (words_in text)

abbrev table : List String → List Field
table texts = fields_in (rows_in texts)

abbrev group : List String → Group
group texts = group_in (rows_in texts)

abbrev tail : ℕ → String → List Item → Tail
tail version switch items = record { version = version; switch = word switch; items = items }

-- the first line of a text
unfoldable pub paper : Field
paper = row "paper H1"

-- ---- the set-up

unfoldable pub setup : Field
setup = row "setup"

-- offsets 0 to 2
unfoldable pub first : List Field
first = table ("key H1" ∷ "pin N1" ∷ "authentication [ off required ]" ∷ [])

-- offsets 5 to 51
unfoldable pub second : List Field
second =
    table (
    "atc N2"
    ∷ "go-online [ off next ]"
    ∷ "a1 in H2 from N8" ∷ "a2 in H2 from N8" ∷ "a3 in H2 from N8" ∷ "a4 in H2 from N8"
    ∷ "c1 from N1" ∷ "c2 from N1" ∷ "c3 from N1" ∷ "c4 from N1"
    ∷ []
    )

-- bits 0 to 25 of a mask
abbrev mask : String → List (List ℕ)
mask key =
    word key
    ∷ words_in "{4 not-completed go-online auth-failed unable no-data mta"
    ++ (words_in "a1-lower a2-lower a3-lower a4-lower a1-upper a2-upper a3-upper a4-upper"
    ++ (words_in "c1-lower c2-lower c3-lower c4-lower c1-upper c2-upper c3-upper c4-upper"
    ++ words_in "y1 y2 date-error cashback }"))

-- 107 bytes
unfoldable pub profile : Group
profile =
    group_in (
    words_in "profile N1"
    ∷ mask "online" ∷ mask "decline" ∷ mask "default"
    ∷ rows_in (
    "mta [ off on ] in H2 above N8"
    ∷ "a1 {1 active allow include } lower N8 upper N8"
    ∷ "a2 {1 active allow include } lower N8 upper N8"
    ∷ "a3 {1 active allow include } lower N8 upper N8"
    ∷ "a4 {1 active allow include } lower N8 upper N8"
    ∷ "c1 {1 active allow include declines } lower N1 upper N1"
    ∷ "c2 {1 active allow include declines } lower N1 upper N1"
    ∷ "c3 {1 active allow include declines } lower N1 upper N1"
    ∷ "c4 {1 active allow include declines } lower N1 upper N1"
    ∷ "send accumulator N1 counters N1 N1"
    ∷ []
    )
    )

-- 7 bytes
unfoldable pub conversion : Group
conversion = group ("conversion H2 to H2 by N2 [ e-9 e-8 e-7 e-6 e-5 e-4 e-3 e-2 e-1 e0 e1 e2 e3 ]" ∷ [])

-- what each version adds, behind the base
unfoldable pub tails : List Tail
tails =
    tail 2 "selection" (entries (word "entry") ∷ [])
    ∷ tail 3 "" (fields (table ("syllabus N1" ∷ [])) ∷ [])
    ∷ tail 4 "dated" (
    fields (
    table (
    "last D"
    ∷ "y1 in H2 from N8 each [ none day week month ] week [ Friday Saturday Sunday Monday Tuesday Wednesday Thursday ]"
    ∷ "y2 in H2 from N8 each [ none day week month ] week [ Friday Saturday Sunday Monday Tuesday Wednesday Thursday ]"
    ∷ []
    )
    )
    ∷ each (group ("profile" ∷ "y1 {1 active allow include } limit N8" ∷ "y2 {1 active allow include } limit N8" ∷ []))
    ∷ []
    )
    ∷ tail 5 "cpace" (
    fields (
    table (
    "a1 closed {1 no-cvm signature online-pin offline-pin }"
    ∷ "a2 closed {1 no-cvm signature online-pin offline-pin }"
    ∷ "a3 closed {1 no-cvm signature online-pin offline-pin }"
    ∷ "a4 closed {1 no-cvm signature online-pin offline-pin }"
    ∷ "c1 closed {1 no-cvm signature online-pin offline-pin }"
    ∷ "c2 closed {1 no-cvm signature online-pin offline-pin }"
    ∷ "c3 closed {1 no-cvm signature online-pin offline-pin }"
    ∷ "c4 closed {1 no-cvm signature online-pin offline-pin }"
    ∷ []
    )
    )
    ∷ each (group ("cashback [ unchecked checked ]" ∷ []))
    ∷ []
    )
    ∷ tail 6 "" (fields (table ("scripts [ off on ]" ∷ [])) ∷ [])
    ∷ tail 7 "log" (
    fields (table ("ring N1" ∷ "keeps {1 bit-1 bit-2 cvr cid atc offline-only approved declined }" ∷ []))
    ∷ each (group ("logged [ no yes ]" ∷ []))
    ∷ counted (group ("first-field from [ first second ] at N1 length N1" ∷ []))
    ∷ counted (group ("second-field from [ first second ] at N1 length N1" ∷ []))
    ∷ []
    )
    ∷ []

-- ---- the other records, of kind and body; behind "=" what they begin with

unfoldable pub records : List Row
records =
    leads_in (
    rows_in (
    "start =02 N1"
    ∷ "start-contact =0200 N1"
    ∷ "start-contactless =0201 N1"
    ∷ "data =02 R"
    ∷ "first =03 [ AAC TC ARQC ] N8 in H2 at H1 ( on D ) ( cvm H3 cashback H6 )"
    ∷ "second =04 [ AAC TC ARQC ] C ? [ absent verified failed ] ? H4"
    ∷ "script =05 [ failed verified ] R"
    ∷ []
    )
    )

-- any other record, and bytes that are no record
unfoldable pub any_record : Field
any_record = row "record H1 R"

unfoldable pub raw : Field
raw = row "bytes R"
