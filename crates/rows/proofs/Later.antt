-- Of any body in versions 04 to 07: either it is a base and the version's tail, or one of the causes holds of it. Assumes nothing.
use mathlib.Core.Path.{◌≡◌, refl, sym, ap, ap₂, subst, ◌∙◌}
use mathlib.Core.Bool.{Bool, true, false}
use mathlib.Core.List.{List, [], ◌∷◌, ◌++◌, append_assoc, append-nil}
use mathlib.Core.Logic.{◌⊎◌, inl, inr}
use Prim.Native.Nat.{ℕ, zero, suc, ◌+◌, ◌*◌, ◌≤◌}
use native.Mathlib.Numerals.{add-one}
use native.Mathlib.Omega.{arith}
use borrow.Author.Tests.{ltb-true, ltb-false, eqb-true}
use lib.Dec.{ltb, eqb}
use lib.ListN.{length, take, drop, length-append, length-drop, take-append-drop}
use lib.Seq.{length-take-le, get_or-take, drop_at}
use Rattle.wire.specs.Wire.{byte}
use Rattle.rows.specs.Rows.{Dates, undated, dated, Families, cpa, cpace}
use Rattle.rows.specs.Tails.{Choosing, off, on, file_bytes, choosing_bytes, dates_bytes, families_bytes, scripts_byte}
use Rattle.rows.specs.Tails.{Tail, fourth, fifth, sixth, seventh, Logs, logs_bytes, FineLogs, version_of, tail_bytes}
use Rattle.rows.specs.Tails.{FineEntries, FineChoosing, FineDates, FineFamilies, Fine, base_length, IsSpelled, CutFile, cut-here, cut_below}
use Rattle.rows.specs.Tails.{NoChoosing, no_choice, choice-above, no_count, cut-file}
use Rattle.rows.specs.Tails.{BadLog, BadScripts, behind-family, no_scripts, scripts-above, behind-scripts, bad_log}
use Rattle.rows.specs.Tails.{BadEnd, behind-dates, no_family, family-above, behind-cpa, cpace-short, behind-cpace}
use Rattle.rows.specs.Tails.{BadDates, nothing-behind, follows-above, no_dated, dated-above, behind-undated, dated-short, behind-dated}
use Rattle.rows.specs.Tails.{BadTail, no_choosing, behind-choosing}
use Rattle.rows.proofs.Dated.{cycles_if_sized}
use Rattle.rows.proofs.Family.{controls_if_sized}
use Rattle.rows.proofs.Entries.{Small, small_drop, small-take, more_than_one}
use Rattle.rows.proofs.Behind.{base-sized, some_bytes}
use Rattle.rows.proofs.Logged.{Ends, log_or_not}

-- ---- what is spelled at the front, or a cause

record Begun (n : ℕ) (file : List ℕ) : Type 0 where
  entries : List (List ℕ)
  count : length entries ≡ n
  fine : FineEntries entries
  rest : List ℕ
  joined : file_bytes entries ++ rest ≡ file

begun : (n : ℕ) (file : List ℕ) → Small file → Begun n file ⊎ CutFile file n
begun zero file small = inl (record { entries = []; count = refl; fine = tt; rest = file; joined = refl })
begun (suc n) [] small = inr (cut-here {file = []} (omega arith))
begun (suc n) (x ∷ file) small =
    by (ltb x (suc (length file))) refl (begun n (drop x file) (small_drop file (λ i. small (suc i)) x))
  where
    by : (b : Bool) → ltb x (suc (length file)) ≡ b → Begun n (drop x file) ⊎ CutFile (drop x file) n
        → Begun (suc n) (x ∷ file) ⊎ CutFile (x ∷ file) (suc n)
    by true e (inl r) =
        let less = ltb-true x (suc (length file)) e in
        let size : length (take x file) ≡ x = length-take-le x file (omega arith) in
        inl (record {
          entries = take x file ∷ r.entries;
          count = ap suc r.count;
          fine = (rw size (small zero), r.fine);
          rest = r.rest;
          joined =
              ap₂ ◌∷◌ size
              (append_assoc (take x file) (file_bytes r.entries) r.rest ∙ ap (λ (t : List ℕ). take x file ++ t) r.joined ∙ take-append-drop x file);
        })
    by true e (inr cut) =
        let behind : drop x file ≡ drop (x + 1) (x ∷ file) = rw (add-one x) refl in
        inr (cut_below {file = x ∷ file} (ltb-true x (suc (length file)) e) (subst (λ (t : List ℕ). CutFile t n) behind cut))
    by false e r = inr (cut-here {file = x ∷ file} (ltb-false x (suc (length file)) e))

record Front (tail : List ℕ) : Type 0 where
  choice : Choosing
  fine : FineChoosing choice
  rest : List ℕ
  joined : tail ≡ choosing_bytes choice ++ rest

front : (tail : List ℕ) → Small tail → Front tail ⊎ NoChoosing tail
front [] small = inr (no_choice refl)
front (x ∷ more) small = by (eqb x 0) refl (eqb x 1) refl where
  counted : x ≡ 1 → (more : List ℕ) → Small (x ∷ more) → Front (x ∷ more) ⊎ NoChoosing (x ∷ more)
  counted one [] small = inr (no_count one refl)
  counted one (n ∷ file) small = from (begun n file (λ i. small (suc (suc i)))) where
    from : Begun n file ⊎ CutFile file n → Front (x ∷ n ∷ file) ⊎ NoChoosing (x ∷ n ∷ file)
    from (inl r) =
        inl (record {
          choice = on r.entries;
          fine = (rw r.count (small 1), r.fine);
          rest = r.rest;
          joined = ap₂ ◌∷◌ one (ap₂ ◌∷◌ (sym r.count) (sym r.joined));
        })
    from (inr cut) = inr (cut-file one (omega arith) cut)

  by : (none : Bool) → eqb x 0 ≡ none → (some : Bool) → eqb x 1 ≡ some → Front (x ∷ more) ⊎ NoChoosing (x ∷ more)
  by true e some f = inl (record { choice = off; fine = tt; rest = more; joined = ap (λ n. n ∷ more) (eqb-true x 0 e) })
  by false e true f = counted (eqb-true x 1 f) more small
  by false e false f = inr (choice-above (more_than_one x e f))

-- ---- what is spelled behind it, or a cause: syllabus and dates

record Followed (p : ℕ) (tail : List ℕ) : Type 0 where
  syllabus : ℕ
  low : syllabus ≤ 1
  days : Dates
  fine : FineDates p days
  rest : List ℕ
  joined : syllabus ∷ dates_bytes days ++ rest ≡ tail
  -- a cause behind the dates
  bad : (version : ℕ) → BadEnd version p rest → BadDates version p tail

abbrev NotFollowed : (p : ℕ) (tail : List ℕ) → Type 0
NotFollowed p tail = (version : ℕ) → BadDates version p tail

module _ (p y : ℕ) (low : y ≤ 1) (z : ℕ) (more : List ℕ) (small : Small (z ∷ more)) where
  abbrev size : ℕ
  size = 28 + 18 * p

  dated-on : z ≡ 1 → size ≤ suc (length more) → Followed p (y ∷ z ∷ more)
  dated-on one long =
      let t = take size (z ∷ more) in
      let on : byte t 0 ≡ 1 = get_or-take size (z ∷ more) 0 0 (omega arith) ∙ one in
      let (d, fits, few, is) = cycles_if_sized t p on (record { below = small-take (z ∷ more) small size }) (length-take-le size (z ∷ more) long) in
      let next : suc size ≡ 1 + size = omega arith in
      record {
        syllabus = y;
        low = low;
        days = dated d;
        fine = (fits, few);
        rest = drop size (z ∷ more);
        joined = ap (λ (s : List ℕ). y ∷ s ++ drop size (z ∷ more)) is ∙ ap (λ (s : List ℕ). y ∷ s) (take-append-drop size (z ∷ more));
        bad = λ version b. behind-dated one (subst (λ n. BadEnd version p (drop n (y ∷ z ∷ more))) next b);
      }

  followed_dates : Followed p (y ∷ z ∷ more) ⊎ NotFollowed p (y ∷ z ∷ more)
  followed_dates = by (eqb z 0) refl (eqb z 1) refl (ltb (suc (length more)) size) refl where
    by : (none : Bool) → eqb z 0 ≡ none → (some : Bool) → eqb z 1 ≡ some → (short : Bool) → ltb (suc (length more)) size ≡ short
        → Followed p (y ∷ z ∷ more) ⊎ NotFollowed p (y ∷ z ∷ more)
    by true e some f short g =
        let zero = eqb-true z 0 e in
        inl (record {
          syllabus = y;
          low = low;
          days = undated;
          fine = tt;
          rest = more;
          joined = ap (λ n. y ∷ n ∷ more) (sym zero);
          bad = λ version b. behind-undated zero b;
        })
    by false e true f true g = inr (λ version. dated-short (eqb-true z 1 f) (omega (arith, ltb-true (suc (length more)) size g)))
    by false e true f false g = inl (dated-on (eqb-true z 1 f) (ltb-false (suc (length more)) size g))
    by false e false f short g = inr (λ version. dated-above (more_than_one z e f))

followed : (p : ℕ) (tail : List ℕ) → Small tail → Followed p tail ⊎ NotFollowed p tail
followed p [] small = inr (λ version. nothing-behind refl)
followed p (y ∷ rest) small = by rest small (ltb 1 y) refl where
  by : (rest : List ℕ) → Small (y ∷ rest) → (high : Bool) → ltb 1 y ≡ high → Followed p (y ∷ rest) ⊎ NotFollowed p (y ∷ rest)
  by rest small true e = inr (λ version. follows-above (ltb-true 1 y e))
  by [] small false e = inr (λ version. no_dated refl)
  by (z ∷ more) small false e = followed_dates p y (ltb-false 1 y e) z more (λ i. small (suc i))

-- ---- and behind the dates: the family

record Named (p : ℕ) (tail : List ℕ) : Type 0 where
  family : Families
  fine : FineFamilies p family
  rest : List ℕ
  joined : families_bytes family ++ rest ≡ tail
  -- a cause behind the family
  bad : (version : ℕ) → 5 ≤ version → BadScripts version p rest → BadEnd version p tail

abbrev NotNamed : (p : ℕ) (tail : List ℕ) → Type 0
NotNamed p tail = (version : ℕ) → 5 ≤ version → BadEnd version p tail

named : (p : ℕ) (tail : List ℕ) → Small tail → Named p tail ⊎ NotNamed p tail
named p [] small = inr (λ version h. no_family h refl)
named p (x ∷ more) small = by (eqb x 0) refl (eqb x 1) refl (ltb (suc (length more)) (9 + p)) refl where
  on-cpace : x ≡ 1 → 9 + p ≤ suc (length more) → Named p (x ∷ more)
  on-cpace one long =
      let t = take (9 + p) (x ∷ more) in
      let on : byte t 0 ≡ 1 = get_or-take (9 + p) (x ∷ more) 0 0 (omega arith) ∙ one in
      let (c, fits, few, is) = controls_if_sized t p on (record { below = small-take (x ∷ more) small (9 + p) }) (length-take-le (9 + p) (x ∷ more) long) in
      record {
        family = cpace c;
        fine = (fits, few);
        rest = drop (9 + p) (x ∷ more);
        joined = ap (λ (s : List ℕ). s ++ drop (9 + p) (x ∷ more)) is ∙ take-append-drop (9 + p) (x ∷ more);
        bad = λ version h b. behind-cpace h one b;
      }

  by : (none : Bool) → eqb x 0 ≡ none → (some : Bool) → eqb x 1 ≡ some → (short : Bool) → ltb (suc (length more)) (9 + p) ≡ short
      → Named p (x ∷ more) ⊎ NotNamed p (x ∷ more)
  by true e some f short g =
      let zero = eqb-true x 0 e in
      inl (record { family = cpa; fine = tt; rest = more; joined = ap (λ n. n ∷ more) (sym zero); bad = λ version h b. behind-cpa h zero b })
  by false e true f true g = inr (λ version h. cpace-short h (eqb-true x 1 f) (ltb-true (suc (length more)) (9 + p) g))
  by false e true f false g = inl (on-cpace (eqb-true x 1 f) (ltb-false (suc (length more)) (9 + p) g))
  by false e false f short g = inr (λ version h. family-above h (more_than_one x e f))

-- ---- and behind the family

pub data Late : ℕ → Type 0 where
  four : Late 4
  five : Late 5
  six : Late 6
  seven : Late 7

pub from-four : {version : ℕ} → Late version → 4 ≤ version
from-four four = omega arith
from-four five = omega arith
from-four six = omega arith
from-four seven = omega arith

-- the tail with this at its end
record Close (version p : ℕ) (rest : List ℕ) : Type 0 where
  tail : Choosing → (syllabus : ℕ) → Dates → Tail
  version-is : (c : Choosing) (y : ℕ) (d : Dates) → version_of (tail c y d) ≡ version
  fine : (c : Choosing) (y : ℕ) (d : Dates) → FineChoosing c → y ≤ 1 → FineDates p d → Fine p (tail c y d)
  bytes : (c : Choosing) (y : ℕ) (d : Dates) → tail_bytes (tail c y d) ≡ choosing_bytes c ++ (y ∷ dates_bytes d ++ rest)

with_family : (p : ℕ) (f : Families) → FineFamilies p f → Close 5 p (families_bytes f ++ [])
with_family p f fine =
    record {
      tail = λ c y d. fifth c y d f;
      version-is = λ c y d. refl;
      fine = λ c y d chosen low dates. (chosen, low, dates, fine);
      bytes = λ c y d. ap (λ (t : List ℕ). choosing_bytes c ++ (y ∷ dates_bytes d ++ t)) (sym (append-nil (families_bytes f)));
    }

with_scripts_lem : (p : ℕ) (f : Families) → FineFamilies p f → (scripting : Bool) → Close 6 p (families_bytes f ++ scripts_byte scripting ∷ [])
with_scripts_lem p f fine scripting =
    record {
      tail = λ c y d. sixth c y d f scripting;
      version-is = λ c y d. refl;
      fine = λ c y d chosen low dates. (chosen, low, dates, fine);
      bytes = λ c y d. refl;
    }

with_log_lem : (p : ℕ) (f : Families) → FineFamilies p f → (scripting : Bool) (logs : Logs) → FineLogs p logs
    → Close 7 p (families_bytes f ++ scripts_byte scripting ∷ logs_bytes logs)
with_log_lem p f fine scripting logs kept =
    record {
      tail = λ c y d. seventh c y d f scripting logs;
      version-is = λ c y d. refl;
      fine = λ c y d chosen low dates. (chosen, low, dates, fine, kept);
      bytes = λ c y d. refl;
    }

module _ (p : ℕ) (f : Families) (fine : FineFamilies p f) where
  end_5 : (rest : List ℕ) → Small rest → Close 5 p (families_bytes f ++ rest) ⊎ BadScripts 5 p rest
  end_5 [] small = inl (with_family p f fine)
  end_5 (x ∷ more) small = inr (behind-family refl (omega arith))

  -- a byte of scripts, 0 or 1, and what stands behind it
  scripted : (version : ℕ) → 6 ≤ version → (x : ℕ) (more : List ℕ)
      → ((scripting : Bool) → Close version p (families_bytes f ++ scripts_byte scripting ∷ more) ⊎ BadScripts version p (scripts_byte scripting ∷ more))
      → Close version p (families_bytes f ++ x ∷ more) ⊎ BadScripts version p (x ∷ more)
  scripted version later x more end = by (eqb x 0) refl (eqb x 1) refl where
    is : (n : ℕ) → n ≡ x → Close version p (families_bytes f ++ n ∷ more) ⊎ BadScripts version p (n ∷ more)
        → Close version p (families_bytes f ++ x ∷ more) ⊎ BadScripts version p (x ∷ more)
    is n e = subst (λ (k : ℕ). Close version p (families_bytes f ++ k ∷ more) ⊎ BadScripts version p (k ∷ more)) e

    by : (none : Bool) → eqb x 0 ≡ none → (some : Bool) → eqb x 1 ≡ some → Close version p (families_bytes f ++ x ∷ more) ⊎ BadScripts version p (x ∷ more)
    by true e some g = is 0 (sym (eqb-true x 0 e)) (end false)
    by false e true g = is 1 (sym (eqb-true x 1 g)) (end true)
    by false e false g = inr (scripts-above later (more_than_one x e g))

  end_6 : (rest : List ℕ) → Small rest → Close 6 p (families_bytes f ++ rest) ⊎ BadScripts 6 p rest
  end_6 [] small = inr (no_scripts (omega arith) refl)
  end_6 (x ∷ v ∷ more) small = inr (behind-scripts refl (omega arith))
  end_6 (x ∷ []) small = scripted 6 (omega arith) x [] (λ scripting. inl (with_scripts_lem p f fine scripting))

  end_7 : (rest : List ℕ) → Small rest → Close 7 p (families_bytes f ++ rest) ⊎ BadScripts 7 p rest
  end_7 [] small = inr (no_scripts (omega arith) refl)
  end_7 (x ∷ more) small = scripted 7 (omega arith) x more (λ scripting. by scripting (log_or_not p more (λ i. small (suc i)))) where
    by : (scripting : Bool) → Ends p more ⊎ BadLog p more
        → Close 7 p (families_bytes f ++ scripts_byte scripting ∷ more) ⊎ BadScripts 7 p (scripts_byte scripting ∷ more)
    by scripting (inl l) =
        inl (subst (λ (t : List ℕ). Close 7 p (families_bytes f ++ scripts_byte scripting ∷ t)) l.joined (with_log_lem p f fine scripting l.logs l.fine))
    by scripting (inr bad) = inr (bad_log refl bad)

-- the family and what stands behind it
closed-by : (version p : ℕ) → 5 ≤ version
    → ((f : Families) → FineFamilies p f → (rest : List ℕ) → Small rest → Close version p (families_bytes f ++ rest) ⊎ BadScripts version p rest)
    → (rest : List ℕ) → Small rest → Close version p rest ⊎ BadEnd version p rest
closed-by version p later end rest small = by (named p rest small) where
  ended : (n : Named p rest) → Close version p (families_bytes n.family ++ n.rest) ⊎ BadScripts version p n.rest
      → Close version p rest ⊎ BadEnd version p rest
  ended n (inl h) = inl (subst (Close version p) n.joined h)
  ended n (inr b) = inr (n.bad version later b)

  by : Named p rest ⊎ NotNamed p rest → Close version p rest ⊎ BadEnd version p rest
  by (inl n) =
      let front = families_bytes n.family in
      let behind : drop (length front) rest ≡ n.rest = ap (drop (length front)) (sym n.joined) ∙ drop_at front n.rest (length front) refl in
      ended n (end n.family n.fine n.rest (subst Small behind (small_drop rest small (length front))))
  by (inr b) = inr (b version later)

close : {version : ℕ} → Late version → (p : ℕ) (rest : List ℕ) → Small rest → Close version p rest ⊎ BadEnd version p rest
close four p [] small =
    inl (record {
      tail = fourth;
      version-is = λ c y d. refl;
      fine = λ c y d chosen low dates. (chosen, low, dates);
      bytes = λ c y d. ap (λ (t : List ℕ). choosing_bytes c ++ y ∷ t) (sym (append-nil (dates_bytes d)));
    })
close four p (x ∷ more) small = inr (behind-dates refl (omega arith))
close five p rest small = closed-by 5 p (omega arith) (end_5 p) rest small
close six p rest small = closed-by 6 p (omega arith) (end_6 p) rest small
close seven p rest small = closed-by 7 p (omega arith) (end_7 p) rest small

module _ (version : ℕ) (late : Late version) (body : List ℕ) (small : Small body) where
  abbrev base : List ℕ
  base = take (base_length body) body

  abbrev behind-base : List ℕ
  behind-base = drop (base_length body) body

  abbrev p : ℕ
  p = byte body 3

  behind-small : Small behind-base
  behind-small = small_drop body small (base_length body)

  -- what is behind something spelled
  small-behind : (front rest whole : List ℕ) → Small whole → whole ≡ front ++ rest → Small rest
  small-behind front rest whole fine e =
      subst Small (ap (drop (length front)) e ∙ drop_at front rest (length front) refl) (small_drop whole fine (length front))

  spelled : (f : Front behind-base) (g : Followed p f.rest) → Close version p g.rest → IsSpelled version body
  spelled f g h =
      let long = length-append (choosing_bytes f.choice) f.rest in
      let more : base_length body ≤ length body = omega (arith, some_bytes f.choice, ap length f.joined, length-drop (base_length body) body) in
      let same : byte base 3 ≡ p = get_or-take (base_length body) body 3 0 (omega arith) in
      let tail = h.tail f.choice g.syllabus g.days in
      record {
        base = base;
        tail = tail;
        version-is = h.version-is f.choice g.syllabus g.days;
        sized = base-sized body more;
        fine = subst (λ n. Fine n tail) (sym same) (h.fine f.choice g.syllabus g.days f.fine g.low g.fine);
        joined =
            ap (λ (t : List ℕ). base ++ t)
            (h.bytes f.choice g.syllabus g.days ∙ ap (λ (t : List ℕ). choosing_bytes f.choice ++ t) g.joined ∙ sym f.joined)
            ∙ take-append-drop (base_length body) body;
      }

  -- THE STATEMENT: spelled, or with a cause
  pub late-settled : IsSpelled version body ⊎ BadTail version body
  late-settled = by (front behind-base behind-small) where
    caused : (f : Front behind-base) → BadDates version p f.rest → IsSpelled version body ⊎ BadTail version body
    caused f bad = inr (behind-choosing (from-four late) f.choice f.rest f.joined bad)

    closed : (f : Front behind-base) (g : Followed p f.rest) → Close version p g.rest ⊎ BadEnd version p g.rest
        → IsSpelled version body ⊎ BadTail version body
    closed f g (inl h) = inl (spelled f g h)
    closed f g (inr bad) = caused f (g.bad version bad)

    behind-front : (f : Front behind-base) → Small f.rest → Followed p f.rest ⊎ NotFollowed p f.rest → IsSpelled version body ⊎ BadTail version body
    behind-front f fine (inl g) =
        closed f g (close late p g.rest (small-behind (g.syllabus ∷ dates_bytes g.days) g.rest f.rest fine (sym g.joined)))
    behind-front f fine (inr bad) = caused f (bad version)

    by : Front behind-base ⊎ NoChoosing behind-base → IsSpelled version body ⊎ BadTail version body
    by (inl f) =
        let fine = small-behind (choosing_bytes f.choice) f.rest behind-base behind-small f.joined in
        behind-front f fine (followed p f.rest fine)
    by (inr bad) = inr (no_choosing (from-four late) bad)
