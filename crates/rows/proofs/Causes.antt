-- Of any body: either it is a base and the tail of its version, and its number is 0, or one of the causes holds of it, and its number is 1. Assumes nothing.
use mathlib.Core.Path.{◌≡◌, refl, sym, ap, ap₂, subst, ◌∙◌}
use mathlib.Core.Bool.{Bool, true, false, cond}
use mathlib.Core.List.{List, [], ◌∷◌, ◌++◌, append_assoc, append-nil}
use mathlib.Core.Logic.{◌⊎◌, inl, inr, ◌↔◌}
use Prim.Native.Nat.{ℕ, zero, suc, ◌+◌, ◌-◌, ◌≤◌, ◌<◌}
use native.Mathlib.Numerals.{add-one}
use native.Mathlib.Omega.{arith}
use borrow.Author.Tests.{ltb-true, ltb-false, leb-true, leb-false, eqb-true, eqb-false, eq-eqb}
use lib.Dec.{leb, ltb, eqb}
use lib.ListN.{length, get_or, take, drop, length-append, length-drop, take-append-drop}
use lib.Seq.{drop_at, take_at, take_all, take-suc, take-add, take-length, drop-cons, get_or-drop}
use Rattle.wire.specs.Wire.{byte}
use Rattle.refusal.specs.declared.Refusal.TheVariants.{BadSetup}
use Rattle.selection.specs.Selection.{is_file}
use Rattle.setup.proofs.Faithful.{Bytes}
use Rattle.shape.specs.declared.Shape.{Shape}
use Rattle.shape.specs.Shape.{based, base_tail, file_end, selects, selection_tail, follows, syllabus_tail, tails_of, whole, shape_of, shape_number}
use Rattle.shape.specs.Shape as Sh
use Rattle.shape.proofs.Files.{file-ends}
use Rattle.shape.proofs.Inside.{not_before}
use Rattle.rows.specs.Tails.{Choosing, off, on, choosing_bytes, Tail, first, second, third, fourth, fifth, sixth, seventh, version_of, tail_bytes}
use Rattle.rows.specs.Tails.{FineChoosing, Fine, base_length, Base, IsSpelled, BadChoosing, missing, above, behind-off, no_number, entries, but_last}
use Rattle.rows.specs.Tails.{BadTail, other_length, choosing, no_syllabus, syllabus-above, between, no_choosing, behind-choosing}
use Rattle.rows.proofs.Entries.{file-read, Small, small_drop, small-take, more_than_one, only_one, file-spelled, file_bad, bad_file}
use Rattle.rows.proofs.Later.{Late, four, five, six, seven, late-settled}
use Rattle.rows.proofs.LaterRefused.{late-refused}
use Rattle.rows.proofs.Behind.{base-sized, some_bytes, length_kept, third-size, third_last, reads_tails}
use Rattle.std.specs.Prelude.{Err, None, Ok, Option, Result, Some}
use Rattle.refusal.specs.declared.Refusal.{Refusal}
use Rattle.shape.specs.Shape.{ended_at}
use Rattle.shape.specs.declared.Tails.{Tails}

never : {P : Type 0} → ◌≡◌ {A = ℕ} 0 1 → P
never z = absurd (omega arith)

-- ---- the selection's part is spelled, or has a cause

record Chosen (tail : List ℕ) : Type 0 where
  choice : Choosing
  fine : FineChoosing choice
  bytes : choosing_bytes choice ≡ tail

one_byte : (x : ℕ) (none some : Bool) → eqb x 0 ≡ none → eqb x 1 ≡ some → Chosen (x ∷ []) ⊎ BadChoosing (x ∷ [])
one_byte x true some e f = inl (record { choice = off; fine = tt; bytes = ap (λ n. n ∷ []) (sym (eqb-true x 0 e)) })
one_byte x false true e f = inr (no_number (eqb-true x 1 f) refl)
one_byte x false false e f = inr (above (more_than_one x e f))

more_bytes : (x n : ℕ) (file : List ℕ) → Small (x ∷ n ∷ file) → (none some good : Bool) → eqb x 0 ≡ none → eqb x 1 ≡ some → is_file file n ≡ good
    → Chosen (x ∷ n ∷ file) ⊎ BadChoosing (x ∷ n ∷ file)
more_bytes x n file small true some good e f g = inr (behind-off (eqb-true x 0 e) (omega arith))
more_bytes x n file small false true true e f g =
    let es = file-spelled n file (λ i. small (suc (suc i))) g in
    let is : choosing_bytes (on es.entries) ≡ x ∷ n ∷ file = ap₂ ◌∷◌ (sym (eqb-true x 1 f)) (ap₂ ◌∷◌ es.count es.joined) in
    inl (record { choice = on es.entries; fine = (rw es.count (small 1), es.fine); bytes = is })
more_bytes x n file small false true false e f g = inr (entries (eqb-true x 1 f) (omega arith) (file_bad n file g))
more_bytes x n file small false false good e f g = inr (above (more_than_one x e f))

settled : (tail : List ℕ) → Small tail → Chosen tail ⊎ BadChoosing tail
settled [] small = inr (missing refl)
settled (x ∷ []) small = one_byte x (eqb x 0) (eqb x 1) refl refl
settled (x ∷ n ∷ file) small = more_bytes x n file small (eqb x 0) (eqb x 1) (is_file file n) refl refl refl

-- what was spelled has none of the causes
no_cause : (c : Choosing) → BadChoosing (choosing_bytes c) → ⊥
no_cause off (missing h) = omega arith
no_cause off (above h) = omega arith
no_cause off (behind-off h l) = omega arith
no_cause off (no_number h l) = omega arith
no_cause off (entries h l b) = omega arith
no_cause (on es) (missing h) = omega arith
no_cause (on es) (above h) = omega arith
no_cause (on es) (behind-off h l) = omega arith
no_cause (on es) (no_number h l) = omega arith
no_cause (on es) (entries h l b) =
    let good = file-read es in
    let bad = bad_file b in
    let z : ◌≡◌ {A = ℕ} 0 1 = cc in
    omega arith

-- ---- what a tail's reader has passed is spelled

-- where tails end, and what they come to
end_of : Option Tails → ℕ
end_of None = 0
end_of (Some tails) = tails.at

module _ (body : List ℕ) (small : Small body) where
  -- from a place to another a choosing is spelled
  record Passed (at end : ℕ) : Type 0 where
    choice : Choosing
    fine : FineChoosing choice
    joined : take end body ≡ take at body ++ choosing_bytes choice

  passed-off : (at : ℕ) → at < length body → byte body at ≡ 0 → Passed at (at + 1)
  passed-off at l z =
      record {
        choice = off;
        fine = tt;
        joined = rw (add-one at) (take-suc body at 0 l ∙ ap (λ (x : ℕ). take at body ++ x ∷ []) z);
      }

  passed_on : (at : ℕ) → at < length body → byte body at ≡ 1 → file_end body at ≤ length body → Passed at (file_end body at)
  passed_on at l z h =
      let n = byte body (at + 1) in
      let end = file_end body at in
      let from = not_before body (at + 2) n in
      let size = end - (at + 2) in
      let file = take size (drop (at + 2) body) in
      let good : is_file file n ≡ true = file-ends body end h n (at + 2) from ∙ eq-eqb end end refl in
      let es = file-spelled n file (small-take (drop (at + 2) body) (small_drop body small (at + 2)) size) good in
      let all : at + suc (suc size) ≡ end = omega arith in
      let next : suc at ≡ at + 1 = sym (add-one at) in
      let third : suc (suc at) ≡ at + 2 = omega arith in
      let two : drop at body ≡ 1 ∷ n ∷ drop (at + 2) body =
      drop-cons body at 0 l
      ∙ ap₂ ◌∷◌ z (drop-cons body (suc at) 0 (omega arith) ∙ ap₂ (λ (x : ℕ) (t : List ℕ). x ∷ t) (ap (byte body) next) (ap (λ (k : ℕ). drop k body) third)) in
      record {
        choice = on es.entries;
        fine = (rw es.count (small (at + 1)), es.fine);
        joined =
            ap (λ (k : ℕ). take k body) (sym all) ∙ take-add at (suc (suc size)) body
            ∙ ap (λ (t : List ℕ). take at body ++ take (suc (suc size)) t) two
            ∙ ap₂ (λ (x : ℕ) (t : List ℕ). take at body ++ 1 ∷ x ∷ t) (sym es.count) (sym es.joined);
      }

  selection-passed : (shape shape' : Shape) (at end : ℕ) → selection_tail body shape at ≡ ended_at shape' end → Passed at end
  unfolding selection_tail end_of
  selection-passed shape shape' at end e =
      by (leb (length body) at) refl (eqb (byte body at) 0) refl (ltb 1 (byte body at)) refl (ltb (length body) (file_end body at)) refl e
    where
      by : (short : Bool) → leb (length body) at ≡ short → (none : Bool) → eqb (byte body at) 0 ≡ none → (high : Bool) → ltb 1 (byte body at) ≡ high
          → (cut : Bool) → ltb (length body) (file_end body at) ≡ cut
          → cond short None (cond none (ended_at shape (at + 1)) (cond high None (cond cut None
          (ended_at (selects shape (at + 2) (file_end body at) (byte body (at + 1))) (file_end body at))))) ≡ ended_at shape' end
          → Passed at end
      by true a none b high c cut d e = never cc
      by false a true b high c cut d e =
          subst (Passed at) (ap end_of e) (passed-off at (leb-false (length body) at a) (eqb-true (byte body at) 0 b))
      by false a false b true c cut d e = never cc
      by false a false b false c true d e = never cc
      by false a false b false c false d e =
          let some = eqb-false (byte body at) 0 b in
          let low = ltb-false 1 (byte body at) c in
          let one : byte body at ≡ 1 = only_one (byte body at) some low in
          subst (Passed at) (ap end_of e) (passed_on at (leb-false (length body) at a) one (ltb-false (length body) (file_end body at) d))

  -- and then a syllabus
  record Followed (at end : ℕ) : Type 0 where
    syllabus : ℕ
    low : syllabus ≤ 1
    joined : take end body ≡ take at body ++ syllabus ∷ []

  syllabus-passed : (shape shape' : Shape) (at end : ℕ) → syllabus_tail body shape at ≡ ended_at shape' end → Followed at end
  unfolding syllabus_tail end_of
  syllabus-passed shape shape' at end e = by (leb (length body) at) refl (ltb 1 (byte body at)) refl e where
    by : (short : Bool) → leb (length body) at ≡ short → (high : Bool) → ltb 1 (byte body at) ≡ high
        → cond short None (cond high None (ended_at (follows shape (byte body at)) (at + 1))) ≡ ended_at shape' end → Followed at end
    by true a high b e = never cc
    by false a true b e = never cc
    by false a false b e =
        subst (Followed at) (ap end_of e)
        (record {
          syllabus = byte body at;
          low = ltb-false 1 (byte body at) b;
          joined = rw (add-one at) (take-suc body at 0 (leb-false (length body) at a));
        })

  -- ---- the whole body

  abbrev base : List ℕ
  base = take (base_length body) body

  abbrev behind : List ℕ
  behind = drop (base_length body) body

  all : take (length body) body ≡ body
  all = take-length body

  ended : (t : Option Tails) (shape : Shape) → whole body t ≡ Ok shape → t ≡ ended_at shape (length body)
  ended None shape e = never cc
  ended (Some tails) shape e = by (eqb tails.at (length body)) refl e where
    by : (b : Bool) → eqb tails.at (length body) ≡ b → cond b (Ok tails.shape) (Err BadSetup) ≡ Ok shape → (Some tails) ≡ ended_at shape (length body)
    by true a e = let same : tails.shape ≡ shape = cc in rw (same, eqb-true tails.at (length body) a)
    by false a e = never cc

  -- the base is whole wherever the shape is taken
  based_on : (tail : Shape → ℕ → Option Tails) (shape : Shape) → Sh.behind (base_tail body) tail ≡ ended_at shape (length body)
      → (base_length body ≤ length body) × (tail (based (base_length body)) (base_length body) ≡ ended_at shape (length body))
  unfolding base_tail
  based_on tail shape e = by (ltb (length body) (base_length body)) refl e where
    by : (b : Bool) → ltb (length body) (base_length body) ≡ b
        → Sh.behind (cond b None (ended_at (based (base_length body)) (base_length body))) tail ≡ ended_at shape (length body)
        → (base_length body ≤ length body) × (tail (based (base_length body)) (base_length body) ≡ ended_at shape (length body))
    by true a e = never cc
    by false a e = (ltb-false (length body) (base_length body) a, e)

  first-spelled : (shape : Shape) → shape_of 1 body ≡ Ok shape → IsSpelled 1 body
  unfolding shape_of tails_of base_tail end_of
  first-spelled shape e = by (ltb (length body) (base_length body)) refl (ended (base_tail body) shape e) where
    by : (b : Bool) → ltb (length body) (base_length body) ≡ b
        → cond b None (ended_at (based (base_length body)) (base_length body)) ≡ ended_at shape (length body) → IsSpelled 1 body
    by true a e = never cc
    by false a e = record { base = body; tail = first; version-is = refl; sized = sym (ap end_of e); fine = tt; joined = append-nil body }

  second-spelled : (shape : Shape) → shape_of 2 body ≡ Ok shape → IsSpelled 2 body
  unfolding shape_of tails_of
  second-spelled shape e =
      let (more, t) = based_on (selection_tail body) shape (ended (Sh.behind (base_tail body) (selection_tail body)) shape e) in
      let p = selection-passed (based (base_length body)) shape (base_length body) (length body) t in
      record { base = base; tail = second p.choice; version-is = refl; sized = base-sized body more; fine = p.fine; joined = sym p.joined ∙ all }

  third-spelled : (shape : Shape) → shape_of 3 body ≡ Ok shape → IsSpelled 3 body
  unfolding shape_of tails_of base_tail
  third-spelled shape e =
      by (ltb (length body) (base_length body)) refl
      (ended (Sh.behind (Sh.behind (base_tail body) (selection_tail body)) (syllabus_tail body)) shape e)
    where
      spelled : base_length body ≤ length body → (at : ℕ) → Passed (base_length body) at → Followed at (length body) → IsSpelled 3 body
      spelled more at p f =
          record {
            base = base;
            tail = third p.choice f.syllabus;
            version-is = refl;
            sized = base-sized body more;
            fine = (p.fine, f.low);
            joined =
                sym (append_assoc base (choosing_bytes p.choice) (f.syllabus ∷ [])) ∙ ap (λ (t : List ℕ). t ++ f.syllabus ∷ []) (sym p.joined)
                ∙ sym f.joined ∙ all;
          }

      by-selection : base_length body ≤ length body → (t : Option Tails) → selection_tail body (based (base_length body)) (base_length body) ≡ t
          → Sh.behind t (syllabus_tail body) ≡ ended_at shape (length body) → IsSpelled 3 body
      by-selection more None s e = never cc
      by-selection more (Some tails) s e =
          spelled more tails.at (selection-passed (based (base_length body)) tails.shape (base_length body) tails.at s) (syllabus-passed tails.shape shape tails.at (length body) e)

      by : (c : Bool) → ltb (length body) (base_length body) ≡ c
          → Sh.behind (Sh.behind (cond c None (ended_at (based (base_length body)) (base_length body))) (selection_tail body)) (syllabus_tail body)
          ≡ ended_at shape (length body)
          → IsSpelled 3 body
      by true a e = never cc
      by false a e =
          by-selection (ltb-false (length body) (base_length body) a) (selection_tail body (based (base_length body)) (base_length body)) refl e

  late-spelled : (version : ℕ) → Late version → (shape : Shape) → shape_of version body ≡ Ok shape → IsSpelled version body
  late-spelled version late shape e = by (late-settled version late body small) where
    by : IsSpelled version body ⊎ BadTail version body → IsSpelled version body
    by (inl s) = s
    by (inr b) = let n = ap shape_number e in absurd (omega (arith, late-refused late body b))

  spelled_if_taken : (version : ℕ) → 1 ≤ version → version ≤ 7 → (shape : Shape) → shape_of version body ≡ Ok shape → IsSpelled version body
  spelled_if_taken zero l m = absurd (omega arith)
  spelled_if_taken (suc zero) l m = first-spelled
  spelled_if_taken (suc (suc zero)) l m = second-spelled
  spelled_if_taken (suc (suc (suc zero))) l m = third-spelled
  spelled_if_taken (suc (suc (suc (suc zero)))) l m = late-spelled 4 four
  spelled_if_taken (suc (suc (suc (suc (suc zero))))) l m = late-spelled 5 five
  spelled_if_taken (suc (suc (suc (suc (suc (suc zero)))))) l m = late-spelled 6 six
  spelled_if_taken (suc (suc (suc (suc (suc (suc (suc zero))))))) l m = late-spelled 7 seven
  spelled_if_taken (suc (suc (suc (suc (suc (suc (suc (suc n)))))))) l m = absurd (omega arith)

  -- ---- spelled, or with a cause

  second-settled : IsSpelled 2 body ⊎ BadTail 2 body
  second-settled = by (settled behind (small_drop body small (base_length body))) where
    by : Chosen behind ⊎ BadChoosing behind → IsSpelled 2 body ⊎ BadTail 2 body
    by (inl c) =
        let more : base_length body ≤ length body = omega (arith, some_bytes c.choice, ap length c.bytes, length-drop (base_length body) body) in
        inl (record {
          base = base;
          tail = second c.choice;
          version-is = refl;
          sized = base-sized body more;
          fine = c.fine;
          joined = ap (λ (t : List ℕ). base ++ t) c.bytes ∙ take-append-drop (base_length body) body;
        })
    by (inr b) = inr (choosing refl b)

  abbrev last : ℕ
  last = byte body (length body - 1)

  last_joins : base_length body < length body → but_last behind ++ last ∷ [] ≡ behind
  last_joins more =
      let size = length-drop (base_length body) body in
      let place : base_length body + (length behind - 1) ≡ length body - 1 = omega arith in
      let there : get_or behind (length behind - 1) 0 ≡ last = get_or-drop (base_length body) body (length behind - 1) 0 ∙ ap (byte body) place in
      let all : take (suc (length behind - 1)) behind ≡ behind = take_all (suc (length behind - 1)) behind (omega arith) in
      ap (λ n. but_last behind ++ n ∷ []) (sym there) ∙ sym (take-suc behind (length behind - 1) 0 (omega arith)) ∙ all

  third-settled : IsSpelled 3 body ⊎ BadTail 3 body
  third-settled = by (leb (length body) (base_length body)) refl (ltb 1 last) refl where
    chosen : base_length body < length body → ltb 1 last ≡ false → Chosen (but_last behind) ⊎ BadChoosing (but_last behind) → IsSpelled 3 body ⊎ BadTail 3 body
    chosen more low (inl c) =
        inl (record {
          base = base;
          tail = third c.choice last;
          version-is = refl;
          sized = base-sized body (omega arith);
          fine = (c.fine, ltb-false 1 last low);
          joined =
              ap (λ (t : List ℕ). base ++ (t ++ last ∷ [])) c.bytes ∙ ap (λ (t : List ℕ). base ++ t) (last_joins more)
              ∙ take-append-drop (base_length body) body;
        })
    chosen more low (inr b) = inr (between refl b)

    by : (least : Bool) → leb (length body) (base_length body) ≡ least → (high : Bool) → ltb 1 last ≡ high → IsSpelled 3 body ⊎ BadTail 3 body
    by true e high f = inr (no_syllabus refl (leb-true (length body) (base_length body) e))
    by false e true f = inr (syllabus-above refl (ltb-true 1 last f))
    by false e false f =
        chosen (leb-false (length body) (base_length body) e) f
        (settled (but_last behind) (small-take behind (small_drop body small (base_length body)) (length behind - 1)))

  first-settled : IsSpelled 1 body ⊎ BadTail 1 body
  first-settled = by (eqb (length body) (base_length body)) refl where
    by : (b : Bool) → eqb (length body) (base_length body) ≡ b → IsSpelled 1 body ⊎ BadTail 1 body
    by true e =
        inl (record { base = body; tail = first; version-is = refl; sized = eqb-true (length body) (base_length body) e; fine = tt; joined = append-nil body })
    by false e = inr (other_length refl (eqb-false (length body) (base_length body) e))

  tail-settled : (version : ℕ) → 1 ≤ version → version ≤ 7 → IsSpelled version body ⊎ BadTail version body
  tail-settled zero l m = absurd (omega arith)
  tail-settled (suc zero) l m = first-settled
  tail-settled (suc (suc zero)) l m = second-settled
  tail-settled (suc (suc (suc zero))) l m = third-settled
  tail-settled (suc (suc (suc (suc zero)))) l m = late-settled 4 four body small
  tail-settled (suc (suc (suc (suc (suc zero))))) l m = late-settled 5 five body small
  tail-settled (suc (suc (suc (suc (suc (suc zero)))))) l m = late-settled 6 six body small
  tail-settled (suc (suc (suc (suc (suc (suc (suc zero))))))) l m = late-settled 7 seven body small
  tail-settled (suc (suc (suc (suc (suc (suc (suc (suc n)))))))) l m = absurd (omega arith)

-- no body is spelled and has a cause
late_excluded : (base : List ℕ) (tail : Tail) → Late (version_of tail) → Base base → Fine (byte base 3) tail
    → BadTail (version_of tail) (base ++ tail_bytes tail) → ⊥
late_excluded base tail late sized fine b =
    let taken = ap shape_number (reads_tails base tail sized fine).read in
    omega (arith, late-refused late (base ++ tail_bytes tail) b)

excluded : (base : List ℕ) (tail : Tail) → Base base → Fine (byte base 3) tail → BadTail (version_of tail) (base ++ tail_bytes tail) → ⊥
excluded base first sized fine (other_length v n) = n (rw (append-nil base) sized)
excluded base first sized fine (choosing v b) = omega arith
excluded base first sized fine (no_syllabus v l) = omega arith
excluded base first sized fine (syllabus-above v l) = omega arith
excluded base first sized fine (between v b) = omega arith
excluded base first sized fine (no_choosing v b) = omega arith
excluded base first sized fine (behind-choosing v c t e b) = omega arith
excluded base (second c) sized fine (other_length v n) = omega arith
excluded base (second c) sized fine (choosing v b) =
    let there = drop_at base (choosing_bytes c) (base_length (base ++ choosing_bytes c)) (sym (length_kept base sized (choosing_bytes c))) in
    no_cause c (subst (λ (t : List ℕ). BadChoosing t) there b)
excluded base (second c) sized fine (no_syllabus v l) = omega arith
excluded base (second c) sized fine (syllabus-above v l) = omega arith
excluded base (second c) sized fine (between v b) = omega arith
excluded base (second c) sized fine (no_choosing v b) = omega arith
excluded base (second c) sized fine (behind-choosing v d t e b) = omega arith
excluded base (third c y) sized fine (other_length v n) = omega arith
excluded base (third c y) sized fine (choosing v b) = omega arith
excluded base (third c y) sized fine (no_syllabus v l) =
    let tail = choosing_bytes c ++ y ∷ [] in
    omega (arith, third-size base c y sized, length_kept base sized tail)
excluded base (third c y) sized fine (syllabus-above v l) = omega (arith, third_last base c y sized, fine.1)
excluded base (third c y) sized fine (between v b) =
    let tail = choosing_bytes c ++ y ∷ [] in
    let behind : drop (base_length (base ++ tail)) (base ++ tail) ≡ tail = drop_at base tail (base_length (base ++ tail)) (sym (length_kept base sized tail)) in
    let size : length (choosing_bytes c) ≡ length tail - 1 = omega (arith, length-append (choosing_bytes c) (y ∷ [])) in
    no_cause c (subst (λ (t : List ℕ). BadChoosing t) (ap but_last behind ∙ take_at (choosing_bytes c) (y ∷ []) (length tail - 1) size) b)
excluded base (third c y) sized fine (no_choosing v b) = omega arith
excluded base (third c y) sized fine (behind-choosing v d t e b) = omega arith
excluded base (fourth c y d) sized fine b = late_excluded base (fourth c y d) four sized fine b
excluded base (fifth c y d f) sized fine b = late_excluded base (fifth c y d f) five sized fine b
excluded base (sixth c y d f s) sized fine b = late_excluded base (sixth c y d f s) six sized fine b
excluded base (seventh c y d f s l) sized fine b = late_excluded base (seventh c y d f s l) seven sized fine b

-- a shape is taken, or its number is 1
data Ways (read : Result Shape Refusal) : Type 0 where
  taken : (shape : Shape) → read ≡ Ok shape → Ways read
  one : shape_number read ≡ 1 → Ways read

ways : (version : ℕ) (body : List ℕ) → Ways (shape_of version body)
unfolding shape_of
ways version body = by (tails_of version body) where
  by_end : (shape : Shape) (b : Bool) → Ways (cond b (Ok shape) (Err BadSetup))
  by_end shape true = taken shape refl
  by_end shape false = one refl

  by : (tails : Option Tails) → Ways (whole body tails)
  by None = one refl
  by (Some tails) = by_end tails.shape (eqb tails.at (length body))

-- THE STATEMENTS: a tail is taken exactly if the body is spelled, and refusal 1 exactly if it has one of the causes
module _ (version : ℕ) (body : List ℕ) (bytes : Bytes body) (least : 1 ≤ version) (most : version ≤ 7) where
  pub tails_if_read : shape_number (shape_of version body) ≡ 0 → IsSpelled version body
  tails_if_read z = by (ways version body) where
    by : Ways (shape_of version body) → IsSpelled version body
    by (taken shape e) = spelled_if_taken body bytes.below version least most shape e
    by (one e) = absurd (omega arith)

  pub read_if_spelled : IsSpelled version body → shape_number (shape_of version body) ≡ 0
  read_if_spelled s =
      let read : shape_of (version_of s.tail) (s.base ++ tail_bytes s.tail) ≡ _ = (reads_tails s.base s.tail s.sized s.fine).read in
      rw (← s.version-is, ← s.joined) (ap shape_number read)

  pub refused_by_cause : (shape_number (shape_of version body) ≡ 1) ↔ BadTail version body
  refused_by_cause = (λ z. there z (tail-settled body bytes.below version least most), λ b. back b (ways version body)) where
    there : shape_number (shape_of version body) ≡ 1 → IsSpelled version body ⊎ BadTail version body → BadTail version body
    there z (inl s) = absurd (omega (arith, read_if_spelled s))
    there z (inr b) = b

    back : BadTail version body → Ways (shape_of version body) → shape_number (shape_of version body) ≡ 1
    back b (taken shape e) =
        let s = spelled_if_taken body bytes.below version least most shape e in
        absurd (excluded s.base s.tail s.sized s.fine (rw (s.version-is, s.joined) b))
    back b (one e) = e
