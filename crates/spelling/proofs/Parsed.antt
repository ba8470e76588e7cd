-- Every byte string is what was sent, spelled, and then nothing or a fault; in one way. Assumes nothing.
use mathlib.Core.Path.{◌≡◌, refl, sym, ap, ap₂, subst, ◌∙◌}
use mathlib.Core.Bool.{false}
use mathlib.Core.List.{List, [], ◌∷◌, ◌++◌, append_assoc}
use Prim.Native.Nat.{ℕ, zero, suc, ◌+◌, ◌≤◌}
use native.Mathlib.Omega.{arith}
use lib.ListN.{length, drop, length-append}
use Rattle.slot.specs.declared.Slots.{Slots}
use Rattle.paper.specs.declared.Next.TheVariants.{Record}
use Rattle.paper.specs.Paper.{next_at}
use Rattle.paper.specs.Walk.{part}
use Rattle.spelling.specs.Spelling.{Bytes, Sent, kind_of, body_of, spell, spell_all, Manner, Fits, AllFit, stands_for}
use Rattle.spelling.specs.Faults.{Whole, RestFault, broken, repeated, unknown, start_length_lem, start-empty, first_length_lem, second_length}
use Rattle.spelling.specs.Faults.{script-empty}
use Rattle.spelling.specs.Sitting.{sends, Ends, ended, faulty}
use Rattle.spelling.proofs.Numbers.{bytes-behind}
use Rattle.spelling.proofs.Shapes.{record_length, next-broken, next-whole, body-there, rest-there}
use Rattle.spelling.proofs.Commands.{hears, taken, one-sent, refused_wrong}
use Rattle.spelling.proofs.Commands.{Wrong, a_setup, no_command, bad_start, bad_empty, bad_first, bad_second, bad_script}
use Rattle.spelling.proofs.Records.{View, none, fault, spelled, view, whole-spelled}

-- ---- in a way

pub record Parsed (manner : Manner) (s : List ℕ) : Type 0 where
  pub sent : List Sent
  pub rest : List ℕ
  pub fit : AllFit manner sent
  pub ends : Ends manner rest
  pub is : s ≡ spell_all sent ++ rest

module _ (manner : Manner) where
  at_once : (s : List ℕ) → Ends manner s → Parsed manner s
  unfolding spell_all
  at_once s e = record { sent = []; rest = s; fit = tt; ends = e; is = refl }

  one_more_lem : (s : List ℕ) (x : Sent) (more : List ℕ) → Fits manner x → s ≡ spell x ++ more → Parsed manner more → Parsed manner s
  unfolding spell_all
  one_more_lem s x more h e p =
      record {
        sent = x ∷ p.sent;
        rest = p.rest;
        fit = (h, p.fit);
        ends = p.ends;
        is = e ∙ ap (λ (t : List ℕ). spell x ++ t) p.is ∙ sym (append_assoc (spell x) (spell_all p.sent) p.rest);
      }

  shorter : (s : List ℕ) (x : Sent) (more : List ℕ) → s ≡ spell x ++ more → length s ≡ 3 + length (body_of x) + length more
  shorter s x more e =
      ap length e ∙ length-append (spell x) more ∙ ap (λ (k : ℕ). k + length more) (record_length (kind_of x) (body_of x))

  by_view : (n : ℕ) (s : List ℕ) → Bytes s → length s ≤ n → View manner s
      → ((more : List ℕ) → Bytes more → suc (length more) ≤ n → Parsed manner more) → Parsed manner s
  by_view n s h l (none e) then = at_once s (ended e)
  by_view n s h l (fault f) then = at_once s (faulty f)
  by_view n s h l (spelled x more fits e) then =
      one_more_lem s x more fits e (then more (bytes-behind (spell x) more (subst Bytes e h)) (omega (arith, shorter s x more e)))

  parse : (n : ℕ) (s : List ℕ) → Bytes s → length s ≤ n → Parsed manner s
  parse zero s h l = by_view 0 s h l (view manner s h) (λ more b k. absurd (omega arith))
  parse (suc n) s h l = by_view (suc n) s h l (view manner s h) (λ more b k. parse n more b (omega arith))

  pub parsed : (s : List ℕ) → Bytes s → Parsed manner s
  parsed s h = parse (length s) s h (omega arith)

-- ---- in one way

pub record Same (s : List ℕ) (kind : ℕ) (body more : List ℕ) (kind' : ℕ) (body' more' : List ℕ) : Type 0 where
  pub kinds : kind ≡ kind'
  pub bodies : body ≡ body'
  pub rests : more ≡ more'

-- one record stands at the front
pub one-whole : (s : List ℕ) (kind kind' : ℕ) (body body' : List ℕ) (w : Whole s kind body) (v : Whole s kind' body')
    → Same s kind body w.more kind' body' v.more
one-whole s kind kind' body body' w v =
    let here : next_at s 0 ≡ Record kind 3 (3 + length body) = rw w.is (next-whole kind body w.more w.sized) in
    let there : next_at s 0 ≡ Record kind' 3 (3 + length body') = rw v.is (next-whole kind' body' v.more v.sized) in
    let end : 3 + length body ≡ 3 + length body' = cc in
    let mine : part s 3 (3 + length body) ≡ body = rw w.is (body-there kind body w.more) in
    let yours : part s 3 (3 + length body') ≡ body' = rw v.is (body-there kind' body' v.more) in
    let behind : drop (3 + length body) s ≡ w.more = rw w.is (rest-there kind body w.more) in
    let beyond : drop (3 + length body') s ≡ v.more = rw v.is (rest-there kind' body' v.more) in
    record {
      kinds = cc;
      bodies = sym mine ∙ ap (part s 3) end ∙ yours;
      rests = sym behind ∙ ap (λ (n : ℕ). drop n s) end ∙ beyond;
    }

module _ (manner : Manner) where
  -- whatever may be tested
  abbrev none-tested : Slots
  none-tested = record { testable = false; amounts = []; counts = [] }

  -- what is spelled is no fault
  not_wrong : (s : List ℕ) (x : Sent) (more : List ℕ) → Fits manner x → s ≡ spell x ++ more
      → (kind : ℕ) (body : List ℕ) → Whole s kind body → Wrong manner kind body → ⊥
  not_wrong s x more h e kind body w cause =
      let same = one-whole s (kind_of x) kind (body_of x) body (whole-spelled manner x h s more e) w in
      let read : hears manner none-tested kind body ≡ sends (stands_for manner none-tested x) =
      rw (← same.kinds, ← same.bodies) (taken manner none-tested x h) in
      let z : ◌≡◌ {A = ℕ} 0 1 = cc (refused_wrong manner none-tested kind body cause) in
      omega arith

  not_both : (s : List ℕ) (x : Sent) (more : List ℕ) → Fits manner x → s ≡ spell x ++ more → RestFault manner s → ⊥
  not_both s x more h e (broken b) =
      let w = whole-spelled manner x h s more e in
      let here : next_at s 0 ≡ Record (kind_of x) 3 (3 + length (body_of x)) = rw e (next-whole (kind_of x) (body_of x) more w.sized) in
      let z : ◌≡◌ {A = ℕ} 0 1 = cc (next-broken s b) in
      omega arith
  not_both s x more h e (repeated body w) = not_wrong s x more h e 1 body w (a_setup refl)
  not_both s x more h e (unknown kind body w k) = not_wrong s x more h e kind body w (no_command k)
  not_both s x more h e (start_length_lem body w c n) = not_wrong s x more h e 2 body w (bad_start refl c n)
  not_both s x more h e (start-empty w f) = not_wrong s x more h e 2 [] w (bad_empty refl refl f)
  not_both s x more h e (first_length_lem body w n) = not_wrong s x more h e 3 body w (bad_first refl n)
  not_both s x more h e (second_length body w n) = not_wrong s x more h e 4 body w (bad_second refl n)
  not_both s x more h e (script-empty w f) = not_wrong s x more h e 5 [] w (bad_script refl refl f)

  not_ended : (s : List ℕ) (x : Sent) (more : List ℕ) → Fits manner x → s ≡ spell x ++ more → Ends manner s → ⊥
  not_ended s x more h e (ended z) =
      let size = shorter manner s x more e in
      let none = ap length z in
      omega arith
  not_ended s x more h e (faulty f) = not_both s x more h e f

  -- EQUAL BYTES WERE SENT AS ONE LIST, WITH ONE REST
  pub one_way : (xs ys : List Sent) (r q : List ℕ) → AllFit manner xs → AllFit manner ys → Ends manner r → Ends manner q
      → spell_all xs ++ r ≡ spell_all ys ++ q → (xs ≡ ys) × (r ≡ q)
  unfolding spell_all
  one_way [] [] r q h k d e p = (refl, p)
  one_way [] (y ∷ ys) r q h k d e p =
      absurd (not_ended r y (spell_all ys ++ q) k.0 (p ∙ append_assoc (spell y) (spell_all ys) q) d)
  one_way (x ∷ xs) [] r q h k d e p =
      absurd (not_ended q x (spell_all xs ++ r) h.0 (sym p ∙ append_assoc (spell x) (spell_all xs) r) e)
  one_way (x ∷ xs) (y ∷ ys) r q h k d e p =
      let s = spell x ++ (spell_all xs ++ r) in
      let other : s ≡ spell y ++ (spell_all ys ++ q) =
      sym (append_assoc (spell x) (spell_all xs) r) ∙ p ∙ append_assoc (spell y) (spell_all ys) q in
      let same =
      one-whole s (kind_of x) (kind_of y) (body_of x) (body_of y)
      (whole-spelled manner x h.0 s (spell_all xs ++ r) refl) (whole-spelled manner y k.0 s (spell_all ys ++ q) other) in
      let then = one_way xs ys r q h.1 k.1 d e same.rests in
      (ap₂ ◌∷◌ (one-sent manner x y h.0 k.0 same.kinds same.bodies) then.0, then.1)
