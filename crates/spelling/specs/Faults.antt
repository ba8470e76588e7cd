-- What ends a paper with refusal 9, cause by cause (document 01, "Refusal numbers", 9), over the bytes.
use Rattle.std.specs.Prelude.{◌≡◌, ◌⊎◌, List, [], ◌∷◌, ◌++◌, ℕ, ◌+◌, ◌*◌, ◌<◌, ◌≤◌, length}
use Rattle.spelling.specs.Spelling.{record_of, paper_of, by_name, Dates, undated, dated, CardFamily, cpa, cpace, Scripting, unscripted, scripted, Manner}

-- no whole record stands at the front: it is cut short in its length, or behind it; or it has no kind (length 0)
pub data Broken (s : List ℕ) : Type 0 where
  cut_in_length : (b : ℕ) → s ≡ b ∷ [] → Broken s
  cut_short_lem : (high low : ℕ) (more : List ℕ) → s ≡ high ∷ low ∷ more → length more < high * 256 + low → Broken s
  no_kind : (more : List ℕ) → s ≡ 0 ∷ 0 ∷ more → Broken s

-- a whole record of a kind stands at the front
pub record Whole (s : List ℕ) (kind : ℕ) (body : List ℕ) : Type 0 where
  pub more : List ℕ
  pub is : s ≡ record_of kind body ++ more
  pub sized : length body < 65535

-- before the first command: paper empty or over 65,536 bytes; version not 01 to 07; the first record missing, cut short or without a
-- kind; another record in the set-up's place
pub data OpenFault (s : List ℕ) : Type 0 where
  empty : s ≡ [] → OpenFault s
  over : 65536 < length s → OpenFault s
  bad_version : (version : ℕ) (rest : List ℕ) → s ≡ version ∷ rest → (version ≡ 0) ⊎ (7 < version) → OpenFault s
  setup-missing : (version : ℕ) → s ≡ version ∷ [] → OpenFault s
  setup-broken : (version : ℕ) (rest : List ℕ) → s ≡ version ∷ rest → Broken rest → OpenFault s
  other-first : (version kind : ℕ) (rest body : List ℕ) → s ≡ version ∷ rest → Whole rest kind body → (kind ≡ 1 → ⊥) → OpenFault s

-- and a paper that opens
pub record Opens (s : List ℕ) (version : ℕ) (body rest : List ℕ) : Type 0 where
  pub is : s ≡ paper_of version body rest
  pub least : 1 ≤ version
  pub most : version ≤ 7
  pub short : length s ≤ 65536

-- the length of a Start that names its profile, and of a First
abbrev pub start_length : CardFamily → ℕ
start_length cpa = 1
start_length cpace = 2

abbrev pub first_length : Dates → CardFamily → ℕ
first_length undated cpa = 12
first_length dated cpa = 15
first_length undated cpace = 21
first_length dated cpace = 24

-- the last kind that is known: a script is, where scripts are on
abbrev pub last_kind : Scripting → ℕ
last_kind unscripted = 4
last_kind scripted = 5

-- where a command should stand: a record cut short or without a kind; set-up repeated; unknown kind; wrong command body length
pub data RestFault (manner : Manner) (s : List ℕ) : Type 0 where
  broken : Broken s → RestFault manner s
  repeated : (body : List ℕ) → Whole s 1 body → RestFault manner s
  unknown : (kind : ℕ) (body : List ℕ) → Whole s kind body → (kind ≡ 0) ⊎ (last_kind manner.scripts < kind) → RestFault manner s
  start_length_lem : (body : List ℕ) → Whole s 2 body → manner.choice ≡ by_name → (length body ≡ start_length manner.family → ⊥) → RestFault manner s
  start-empty : Whole s 2 [] → manner.family ≡ cpace → RestFault manner s
  first_length_lem : (body : List ℕ) → Whole s 3 body → (length body ≡ first_length manner.dates manner.family → ⊥) → RestFault manner s
  second_length : (body : List ℕ) → Whole s 4 body → (length body ≡ 8 → ⊥) → RestFault manner s
  script-empty : Whole s 5 [] → manner.scripts ≡ scripted → RestFault manner s
