-- Trees of objects, how they are written, and where bytes are first none: apart from any reader (EMV Book 3 Annex B).
use Rattle.std.specs.Prelude.{ℕ, suc, ◌+◌, ◌/◌, ◌%◌, ◌<◌, ◌≤◌, max, ◌≡◌, List, [], ◌∷◌, ◌++◌, Bool, true, false, ◌||◌, cond, length, get_or, eqb}

-- A TREE. A tag has one byte or two
pub data Tag : Type 0 where
  short : ℕ → Tag
  long : ℕ → ℕ → Tag

-- a length is written in one byte, in 81 and one, or in 82 and two: the writer's choice
pub data Form : Type 0 where
  plain : Form
  with81 : Form
  with82 : Form

-- a list of objects and fillers, each with the rest of the list behind it: a primitive object has a value, a constructed one holds a list
pub data Objects : Type 0 where
  end : Objects
  filler : Objects → Objects
  primitive : Tag → Form → (value : List ℕ) → Objects → Objects
  constructed : Tag → Form → (held : Objects) → Objects → Objects

-- a template: one constructed object, and nothing around it
pub record Template : Type 0 where
  pub tag : ℕ
  pub form : Form
  pub list : Objects

abbrev pub tree : Template → Objects
tree t = constructed (short t.tag) t.form t.list end

-- WHAT IS WRITTEN: tag, length, value; a filler is 00
abbrev pub tag_bytes : Tag → List ℕ
tag_bytes (short b) = b ∷ []
tag_bytes (long b c) = b ∷ c ∷ []

abbrev pub length_bytes : Form → ℕ → List ℕ
length_bytes plain n = n ∷ []
length_bytes with81 n = 0x81 ∷ n ∷ []
length_bytes with82 n = 0x82 ∷ n / 256 ∷ n % 256 ∷ []

abbrev pub head : Tag → Form → ℕ → List ℕ
head t f n = tag_bytes t ++ length_bytes f n

-- an object, and what is behind it
abbrev pub object_bytes : Tag → Form → (value behind : List ℕ) → List ℕ
object_bytes t f v r = head t f (length v) ++ (v ++ r)

unfoldable pub written : Objects → List ℕ
written end = []
written (filler r) = 0 ∷ written r
written (primitive t f v r) = object_bytes t f v (written r)
written (constructed t f o r) = object_bytes t f (written o) (written r)

-- how deep constructed objects lie in one another; primitive ones add no depth
unfoldable pub depth : Objects → ℕ
depth end = 0
depth (filler r) = depth r
depth (primitive t f v r) = depth r
depth (constructed t f o r) = max (1 + depth o) (depth r)

-- the commands: the values of the primitive objects 86, in order
abbrev pub is86 : Tag → Bool
is86 (short b) = eqb b 0x86
is86 (long b c) = false

abbrev pub if_command : Bool → List ℕ → List (List ℕ) → List (List ℕ)
if_command b v r = cond b (v ∷ r) r

unfoldable pub commands : Objects → List (List ℕ)
commands end = []
commands (filler r) = commands r
commands (primitive t f v r) = if_command (is86 t) v (commands r)
commands (constructed t f o r) = commands o ++ commands r

-- WHAT MAY BE WRITTEN: bytes
abbrev pub Bytes : List ℕ → Type 0
Bytes s = (i : ℕ) → get_or s i 0 < 256

-- a length that its form can hold
abbrev pub limit : Form → ℕ
limit plain = 0x80
limit with81 = 0x100
limit with82 = 0x10000

-- a second byte of a tag exactly behind five set bits, and below 80; no object begins as a filler; bit 6 is 0 of a primitive object and 1 of a constructed one
abbrev pub Tagged : (bit : ℕ) → Tag → Type 0
Tagged q (short b) = (b < 256) × (b ≡ 0 → ⊥) × (b % 32 ≡ 31 → ⊥) × (b / 32 % 2 ≡ q)
Tagged q (long b c) = (b < 256) × (c < 0x80) × (b % 32 ≡ 31) × (b / 32 % 2 ≡ q)

unfoldable pub Good : Objects → Type 0
Good end = Unit
Good (filler r) = Good r
Good (primitive t f v r) = Tagged 0 t × (length v < limit f) × Bytes v × Good r
Good (constructed t f o r) = Tagged 1 t × (length (written o) < limit f) × Good o × Good r

-- a template: 71 or 72, constructed to depth 4 at most, itself depth 1
abbrev pub Root : ℕ → Type 0
Root b = (eqb b 0x71 || eqb b 0x72) ≡ true

pub record Proper (t : Template) : Type 0 where
  pub root : Root t.tag
  pub good : Good (tree t)
  pub shallow : depth (tree t) ≤ 4

-- bytes that are what is written of a proper template
pub record Written (s : List ℕ) : Type 0 where
  pub template : Template
  pub proper : Proper template
  pub is : written (tree template) ≡ s

-- THE FIRST FAULT. No object begins here: there is some byte, no filler, and no head with its value
abbrev pub NoObject : List ℕ → Type 0
NoObject w =
    (length w ≡ 0 → ⊥) × (get_or w 0 0 ≡ 0 → ⊥)
    × ((q : ℕ) (t : Tag) (f : Form) (v r : List ℕ) → Tagged q t → length v < limit f → w ≡ object_bytes t f v r → ⊥)

-- in a list, behind good objects: where objects may be constructed k deep, fault n. 18 where no object begins, whatever the depth;
-- 19 at a constructed object where none may be, whatever it holds and whatever is behind it; else the fault of the list that an object holds
pub data Fault : (k n : ℕ) → List ℕ → Type 0 where
  malformed : {k : ℕ} {s : List ℕ} (i : Objects) (w : List ℕ) → s ≡ written i ++ w → Good i → depth i ≤ k → NoObject w → Fault k 18 s
  too_deep : {s : List ℕ} (i : Objects) (t : Tag) (f : Form) (v r : List ℕ)
      → s ≡ written i ++ object_bytes t f v r → Good i → depth i ≤ 0 → Tagged 1 t → length v < limit f → Fault 0 19 s
  inside : {k n : ℕ} {s : List ℕ} (i : Objects) (t : Tag) (f : Form) (v r : List ℕ)
      → s ≡ written i ++ object_bytes t f v r → Good i → depth i ≤ suc k → Tagged 1 t → length v < limit f → Fault k n v → Fault (suc k) n s

-- of a template: 18 where it is not framed as one, else the fault of its list, in which objects may be constructed 3 deep
abbrev pub Framed : List ℕ → (tag : ℕ) → Form → (value : List ℕ) → Type 0
Framed s b f v = Root b × (length v < limit f) × (s ≡ object_bytes (short b) f v [])

pub data TemplateFault : ℕ → List ℕ → Type 0 where
  unframed : {s : List ℕ} → ((b : ℕ) (f : Form) (v : List ℕ) → Framed s b f v → ⊥) → TemplateFault 18 s
  framed : {n : ℕ} {s : List ℕ} (b : ℕ) (f : Form) (v : List ℕ) → Framed s b f v → Fault 3 n v → TemplateFault n s
