-- A paper opens as its spelling says, or one of the causes of refusal 9 applies; never both. Assumes nothing.
use mathlib.Core.Path.{◌≡◌, refl, sym, ap, ◌∙◌}
use mathlib.Core.Bool.{Bool, true, false, cond, ◌||◌}
use mathlib.Core.Logic.{◌⊎◌, inl, inr, ◌↔◌}
use mathlib.Core.List.{List, [], ◌∷◌, ◌++◌}
use Prim.Native.Nat.{ℕ, ◌+◌, ◌<◌, ◌≤◌}
use native.Mathlib.Omega.{arith}
use borrow.Author.Tests.{lt-ltb, le-ltb, ltb-true, ltb-false, ne_eqb, eqb-true, eqb-false}
use lib.Dec.{ltb, eqb}
use lib.ListN.{length, drop}
use lib.Seq.{drop-drop}
use Rattle.wire.specs.Wire.{byte}
use Rattle.refusal.specs.declared.Refusal.TheVariants.{Unreadable}
use Rattle.paper.specs.declared.Next.{Next}
use Rattle.paper.specs.declared.Next.TheVariants.{Record, Fault, End}
use Rattle.paper.specs.Paper.{latest, is_unreadable, next_at, setup_in, open_paper, opened_number}
use Rattle.paper.specs.Walk.{part}
use Rattle.spelling.specs.Spelling.{Bytes, record_of}
use Rattle.spelling.specs.Faults.{Whole, OpenFault, empty, over, bad_version, setup-missing, setup-broken, other-first, Opens}
use Rattle.spelling.proofs.Shapes.{Shape, nothing, broken, whole, shape, shift, next_drop, part_drop, next-nothing, next-broken}
use Rattle.spelling.proofs.Shapes.{here_length, next-whole, body-there, rest-there}
use Rattle.std.specs.Prelude.{Err, Ok, Result}
use Rattle.refusal.specs.declared.Refusal.{Refusal}
use Rattle.paper.specs.declared.Opened.{Opened}

-- ---- what opens

module _ (s : List ℕ) (version : ℕ) (body rest : List ℕ) (o : Opens s version body rest) where
  size : length s ≡ 4 + length body + length rest
  size = rw o.is (omega (arith, here_length 1 body rest))

  readable : is_unreadable s ≡ false
  readable =
      let l = size in
      let first : byte s 0 ≡ version = ap (λ (t : List ℕ). byte t 0) o.is in
      rw first
      (simp (
        ne_eqb (length s) 0 (omega arith),
        le-ltb 65536 (length s) o.short,
        ne_eqb version 0 (omega (arith, o.least)),
        le-ltb latest version o.most,
      ))

  -- ITS VERSION AND ITS SET-UP'S BODY ARE READ, AND THE READER GOES ON BEHIND IT
  pub opens : (open_paper s ≡ Ok (record { version = version; start = 4; end = 4 + length body })) × (part s 4 (4 + length body) ≡ body) × (drop (4 + length body) s ≡ rest)
  unfolding open_paper
  opens =
      let l = size in
      let sized : length body < 65535 = omega (arith, o.short) in
      let first : byte s 0 ≡ version = ap (λ (t : List ℕ). byte t 0) o.is in
      let behind : drop 1 s ≡ record_of 1 body ++ rest = ap (drop 1) o.is in
      let there : next_at s 1 ≡ Record 1 4 (1 + (3 + length body)) = next_drop s 1 ∙ rw (behind, next-whole 1 body rest sized) in
      let end : 1 + (3 + length body) ≡ 4 + length body = omega arith in (
        rw (readable, there, first, end),
        ap (part s 4) (sym end) ∙ part_drop s 1 3 (3 + length body) ∙ rw (behind, body-there 1 body rest),
        ap (λ (n : ℕ). drop n s) (sym end) ∙ sym (drop-drop (3 + length body) 1 s) ∙ rw (behind, rest-there 1 body rest),
      )

-- ---- what does not

second_holds : (a c d : Bool) → (a || true || c || d) ≡ true
second_holds true c d = refl
second_holds false c d = refl

third-holds : (a b d : Bool) → (a || b || true || d) ≡ true
third-holds true b d = refl
third-holds false true d = refl
third-holds false false d = refl

fourth-holds : (a b c : Bool) → (a || b || c || true) ≡ true
fourth-holds true b c = refl
fourth-holds false true c = refl
fourth-holds false false true = refl
fourth-holds false false false = refl

unreadable : (s : List ℕ) → is_unreadable s ≡ true → open_paper s ≡ Err Unreadable
unfolding open_paper
unreadable s e = rw e

no_setup : (s : List ℕ) (n : Next) → next_at s 1 ≡ n → setup_in (byte s 0) n ≡ Err Unreadable → open_paper s ≡ Err Unreadable
unfolding open_paper
no_setup s n e h = rw (e, h) (by (is_unreadable s)) where
  by : (b : Bool) → cond {A = Result Opened Refusal} b (Err Unreadable) (Err Unreadable) ≡ Err Unreadable
  by true = refl
  by false = refl

-- ONE OF THE CAUSES: REFUSAL 9
pub faults : (s : List ℕ) → OpenFault s → open_paper s ≡ Err Unreadable
faults s (empty e) = unreadable s (rw e)
faults s (over l) = unreadable s (rw (lt-ltb 65536 (length s) l) (second_holds (eqb (length s) 0) (eqb (byte s 0) 0) (ltb latest (byte s 0))))
faults s (bad_version version rest e (inl z)) = unreadable s (rw (e, z) (third-holds (eqb (length (0 ∷ rest)) 0) (ltb 65536 (length (0 ∷ rest))) (ltb latest 0)))
faults s (bad_version version rest e (inr l)) =
    unreadable s (rw (e, lt-ltb latest version l) (fourth-holds (eqb (length (version ∷ rest)) 0) (ltb 65536 (length (version ∷ rest))) (eqb version 0)))
faults s (setup-missing version e) = no_setup s End (next_drop s 1 ∙ ap (shift 1) (next-nothing (drop 1 s) (ap (drop 1) e))) refl
faults s (setup-broken version rest e b) =
    no_setup s Fault (next_drop s 1 ∙ ap (shift 1) (ap (λ (t : List ℕ). next_at t 0) (ap (drop 1) e) ∙ next-broken rest b)) refl
faults s (other-first version kind rest body e w n) =
    no_setup s (Record kind 4 (1 + (3 + length body)))
    (next_drop s 1 ∙ ap (shift 1) (ap (λ (t : List ℕ). next_at t 0) (ap (drop 1) e ∙ w.is) ∙ next-whole kind body w.more w.sized))
    (rw (ne_eqb kind 1 n))

-- ---- one or the other

pub record Opening (s : List ℕ) : Type 0 where
  pub version : ℕ
  pub body : List ℕ
  pub rest : List ℕ
  pub opens : Opens s version body rest

-- EVERY BYTE STRING OPENS AS ITS SPELLING SAYS, OR HAS ONE OF THE CAUSES
pub opens_or_faults : (s : List ℕ) → Bytes s → OpenFault s ⊎ Opening s
opens_or_faults [] h = inl (empty refl)
opens_or_faults (version ∷ rest) h =
    by (ltb 65536 (length (version ∷ rest))) (eqb version 0) (ltb latest version) refl refl refl (shape rest h.1)
  where
    by_kind : (kind : ℕ) (body : List ℕ) (b : Bool) → eqb kind 1 ≡ b → Whole rest kind body → 1 ≤ version → version ≤ latest
        → length (version ∷ rest) ≤ 65536
        → OpenFault (version ∷ rest) ⊎ Opening (version ∷ rest)
    by_kind kind body true e w l m short =
        let one = eqb-true kind 1 e in
        inr (record {
          version = version;
          body = body;
          rest = w.more;
          opens = record { is = ap (λ (t : List ℕ). version ∷ t) (w.is ∙ rw one); least = l; most = m; short = short };
        })
    by_kind kind body false e w l m short = inl (other-first version kind rest body refl w (eqb-false kind 1 e))

    by : (long none late : Bool) → ltb 65536 (length (version ∷ rest)) ≡ long → eqb version 0 ≡ none → ltb latest version ≡ late → Shape rest
        → OpenFault (version ∷ rest) ⊎ Opening (version ∷ rest)
    by true none late p q r x = inl (over (ltb-true 65536 (length (version ∷ rest)) p))
    by false true late p q r x = inl (bad_version version rest refl (inl (eqb-true version 0 q)))
    by false false true p q r x = inl (bad_version version rest refl (inr (ltb-true latest version r)))
    by false false false p q r (nothing e) = inl (setup-missing version (ap (λ (t : List ℕ). version ∷ t) e))
    by false false false p q r (broken b) = inl (setup-broken version rest refl b)
    by false false false p q r (whole kind body w) =
        by_kind kind body (eqb kind 1) refl w (omega (arith, eqb-false version 0 q)) (ltb-false latest version r) (ltb-false 65536 (length (version ∷ rest)) p)

-- REFUSAL 9 EXACTLY WHERE A CAUSE APPLIES
pub nine_exactly : (s : List ℕ) → Bytes s → (opened_number (open_paper s) ≡ 9) ↔ OpenFault s
nine_exactly s h = (λ e. by e (opens_or_faults s h), λ f. rw (faults s f)) where
  by : opened_number (open_paper s) ≡ 9 → OpenFault s ⊎ Opening s → OpenFault s
  by e (inl f) = f
  by e (inr o) =
      let zero : opened_number (open_paper s) ≡ 0 = rw (opens s o.version o.body o.rest o.opens).0 in
      absurd (omega arith)

-- the parts of what was opened
abbrev pub version_of : Result Opened Refusal → ℕ
version_of (Ok o) = o.version
version_of (Err r) = 0

abbrev pub start_in : Result Opened Refusal → ℕ
start_in (Ok o) = o.start
start_in (Err r) = 0

abbrev pub end_in : Result Opened Refusal → ℕ
end_in (Ok o) = o.end
end_in (Err r) = 0

-- AND WHAT IS READ AS A SET-UP IS THE PAPER THAT OPENS SO
pub setup-exactly : (s : List ℕ) → Bytes s → (version start end : ℕ) → open_paper s ≡ Ok (record { version = version; start = start; end = end })
    → (start ≡ 4) × Opens s version (part s start end) (drop end s)
setup-exactly s h version start end e = by (opens_or_faults s h) where
  by : OpenFault s ⊎ Opening s → (start ≡ 4) × Opens s version (part s start end) (drop end s)
  by (inl f) = let z : ◌≡◌ {A = ℕ} 0 1 = cc (faults s f) in absurd (omega arith)
  by (inr o) =
      let r = opens s o.version o.body o.rest o.opens in
      let both = sym e ∙ r.0 in
      let v : version ≡ o.version = ap version_of both in
      let from : start ≡ 4 = ap start_in both in
      let to : end ≡ 4 + length o.body = ap end_in both in
      (from, rw (from, to, v, r.1, r.2) o.opens)
