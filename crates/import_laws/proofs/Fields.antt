-- What an old record's fields are refused by: its rate, its MTA, and the first of the causes 6, 10, 11. Assumes nothing.
use mathlib.Core.Path.{◌≡◌, refl, sym, ap, ◌∙◌, subst}
use mathlib.Core.Bool.{Bool, true, false, cond}
use mathlib.Core.List.{[], ◌∷◌}
use Prim.Native.Nat.{ℕ, suc, ◌≤◌, ◌<◌}
use native.Mathlib.Nat.{le_antisymm}
use native.Mathlib.Omega.{arith}
use borrow.Author.Tests.{ltb-true, ltb-false, eqb-true, not-false}
use lib.Dec.{T, eqb, ltb}
use lib.ListN.{get_or}
use lib.Ieee.{Float, binary64, fits}
use Rattle.wire.specs.Wire.{is_currency}
use Rattle.money.specs.declared.Rate.{Rate}
use Rattle.mta.specs.Mta.{mta_of, mta_number}
use Rattle.mta.proofs.Whole.{whole-taken, taken-whole}
use Rattle.rate.specs.Rate.{rate_of, pairing_number}
use Rattle.rate.specs.Taken.{Taken, divided, multiplied}
use Rattle.rate.proofs.Request.{rate-taken, rate-refused}
use Rattle.refusal.specs.declared.Refusal.TheVariants.{OutOfRange}
use Rattle.refusal.specs.Refusal.{refusal_number}
use Rattle.ranges.proofs.Accepted.{Currency, currency}
use Rattle.ranges.proofs.Decides.{◌and◌, equal, denied}
use Rattle.import.specs.declared.OldRecord.{OldRecord}
use Rattle.import.specs.Import.{are_currencies, with_mta, with_rate, take_over, taken_number}
use Rattle.import_laws.specs.Causes.{Paired, Whole, FieldCause, from_not_digits, to_not_digits, same_codes, no_pair, not_whole, rank}
use Rattle.import_laws.specs.Causes.{Numbered, done, refused, Judged, holds, fails}
use Rattle.std.specs.Prelude.{Err, None, Ok, Option, Result, Some}
use Rattle.import.specs.declared.NewRecord.{NewRecord}
use Rattle.money.specs.declared.AccumulatorAmount.{AccumulatorAmount}
use Rattle.rate.specs.declared.Pair.{Pair}
use Rattle.refusal.specs.declared.Refusal.{Refusal}

-- ---- the two floats
pub unpaired : (rate : Float) → rate_of rate ≡ None → (digits shift : ℕ) → Taken rate digits shift → ⊥
unpaired rate h digits shift (divided e is q least) = (rate-refused rate h).0 digits e q
unpaired rate h digits shift (multiplied k is p none least) = (rate-refused rate h).1 digits k p

judge_rate : (rate : Float) → T (fits binary64 rate) → (found : Option Pair) → rate_of rate ≡ found → Judged (Paired rate) 10 (pairing_number found)
judge_rate rate held (Some pair) e = holds refl (record { digits = pair.digits; shift = pair.shift; taken = rate-taken rate held pair.digits pair.shift e })
judge_rate rate held None e = fails refl (λ p. unpaired rate e p.digits p.shift p.taken)

whole_is : (mta : Float) (w : Whole mta) → mta_of mta ≡ Some (record { 0 = w.amount })
whole_is mta w = rw w.same (whole-taken w.amount w.most)

judge_mta : (mta : Float) → T (fits binary64 mta) → (answer : Option AccumulatorAmount) → mta_of mta ≡ answer → Judged (Whole mta) 11 (mta_number answer)
judge_mta mta held (Some amount) e =
    let whole = taken-whole mta held amount.0 e in
    holds refl (record { amount = amount.0; most = whole.1; same = whole.0 })
judge_mta mta held None e =
    fails refl
    (λ w.
    let is = whole_is mta w in
    let z : ◌≡◌ {A = ℕ} 0 1 = cc in
    omega arith)

-- A RATE'S NUMBER IS 0 EXACTLY WHEN SOME PAIR EXISTS, ELSE 10
pub rate-number : (rate : Float) → T (fits binary64 rate) → Judged (Paired rate) 10 (pairing_number (rate_of rate))
rate-number rate held = judge_rate rate held (rate_of rate) refl

-- AN MTA'S NUMBER IS 0 EXACTLY WHEN IT IS A WHOLE NUMBER FROM 0 TO MAX, ELSE 11
pub mta-number : (mta : Float) → T (fits binary64 mta) → Judged (Whole mta) 11 (mta_number (mta_of mta))
mta-number mta held = judge_mta mta held (mta_of mta) refl

-- ---- no cause before the place k of the order applies, where what stands there is right
abbrev pub Codes : ℕ → ℕ → Type 0
Codes from to = Currency from × Currency to × (from ≡ to → ⊥)

-- the number at a place of the order; a cause has its place's
abbrev pub number_at : ℕ → ℕ
number_at k = get_or (9 ∷ 6 ∷ 10 ∷ 11 ∷ 7 ∷ []) k 0

pub at_place : (n k : ℕ) → n ≡ k → k ≡ number_at (rank k) → n ≡ number_at (rank n)
at_place n k e f = subst (λ (j : ℕ). j ≡ number_at (rank j)) (sym e) f

module _ {from to : ℕ} {rate mta : Float} where
  pub clear : (k : ℕ) → (1 < k → Codes from to) → (2 < k → Paired rate) → (3 < k → Whole mta)
      → (m : ℕ) → rank m < k → FieldCause from to rate mta m → ⊥
  clear k codes pair whole m l (from_not_digits n h) = h (codes (omega (arith, ap rank n))).0
  clear k codes pair whole m l (to_not_digits n h) = h (codes (omega (arith, ap rank n))).1
  clear k codes pair whole m l (same_codes n h) = (codes (omega (arith, ap rank n))).2 h
  clear k codes pair whole m l (no_pair n h) = h (pair (omega (arith, ap rank n)))
  clear k codes pair whole m l (not_whole n h) = h (whole (omega (arith, ap rank n)))

  -- 7 comes after them all
  pub before_room : (n : ℕ) → FieldCause from to rate mta n → rank n ≤ 3
  before_room n (from_not_digits e h) = omega (arith, ap rank e)
  before_room n (to_not_digits e h) = omega (arith, ap rank e)
  before_room n (same_codes e h) = omega (arith, ap rank e)
  before_room n (no_pair e h) = omega (arith, ap rank e)
  before_room n (not_whole e h) = omega (arith, ap rank e)

  pub field-place : (n : ℕ) → FieldCause from to rate mta n → n ≡ number_at (rank n)
  field-place n (from_not_digits e h) = at_place n 6 e refl
  field-place n (to_not_digits e h) = at_place n 6 e refl
  field-place n (same_codes e h) = at_place n 6 e refl
  field-place n (no_pair e h) = at_place n 10 e refl
  field-place n (not_whole e h) = at_place n 11 e refl

-- only one number is the first
pub only : {cause : ℕ → Type 0} → ((n : ℕ) → cause n → n ≡ number_at (rank n))
    → (n m : ℕ) → Numbered cause n → Numbered cause m → n ≡ m
only place n m (done p f) (done q g) = p ∙ sym q
only place n m (done p f) (refused a g) = absurd (f m a)
only place n m (refused a f) (done q g) = absurd (g n a)
only place n m (refused a f) (refused b g) = by (ltb (rank n) (rank m)) refl (ltb (rank m) (rank n)) refl where
  by : (x : Bool) → ltb (rank n) (rank m) ≡ x → (y : Bool) → ltb (rank m) (rank n) ≡ y → n ≡ m
  by true e y k = absurd (g n (ltb-true _ _ e) a)
  by false e true k = absurd (f m (ltb-true _ _ k) b)
  by false e false k =
      place n a ∙ ap number_at (le_antisymm (ltb-false (rank m) (rank n) k) (ltb-false (rank n) (rank m) e)) ∙ sym (place m b)

-- ---- refused with the first number that applies, taken where none does
abbrev pub FieldsOf : OldRecord → ℕ → Type 0
FieldsOf old n = FieldCause old.from old.to old.rate old.mta n

abbrev pub FirstOf : (ℕ → Type 0) → ℕ → Type 0
FirstOf cause n = cause n × ((m : ℕ) → rank m < rank n → cause m → ⊥)

abbrev pub Ruled : OldRecord → Result NewRecord Refusal → Type 0
Ruled old (Ok new) = (m : ℕ) → FieldsOf old m → ⊥
Ruled old (Err refusal) = FirstOf (FieldsOf old) (refusal_number refusal)

pub never : false ≡ true → ⊥
never e = let z : ◌≡◌ {A = ℕ} 0 1 = cc in omega arith

module _ (old : OldRecord) (rate-held : T (fits binary64 old.rate)) (mta-held : T (fits binary64 old.mta)) where
  module _ (codes : Codes old.from old.to) where
    by-mta : Paired old.rate → (conversion : Rate) (answer : Option AccumulatorAmount) → Judged (Whole old.mta) 11 (mta_number answer)
        → Ruled old (with_mta conversion answer)
    by-mta pair conversion (Some amount) (holds e whole) =
        λ m. clear (suc (rank m)) (λ l. codes) (λ l. pair) (λ l. whole) m (omega arith)
    by-mta pair conversion (Some amount) (fails e none) = absurd (omega arith)
    by-mta pair conversion None (holds e whole) = absurd (omega arith)
    by-mta pair conversion None (fails e none) = (not_whole refl none, clear 3 (λ l. codes) (λ l. pair) (λ l. absurd (omega arith)))

    by-rate : (found : Option Pair) → Judged (Paired old.rate) 10 (pairing_number found) → Ruled old (with_rate old found)
    by-rate (Some pair') (holds e pair) = by-mta pair _ (mta_of old.mta) (mta-number old.mta mta-held)
    by-rate (Some pair) (fails e none) = absurd (omega arith)
    by-rate None (holds e pair) = absurd (omega arith)
    by-rate None (fails e none) = (no_pair refl none, clear 2 (λ l. codes) (λ l. absurd (omega arith)) (λ l. absurd (omega arith)))

  code_cause : are_currencies old.from old.to ≡ false → FieldsOf old 6
  code_cause h = by (is_currency old.from) refl (is_currency old.to) refl where
    by : (a : Bool) → is_currency old.from ≡ a → (b : Bool) → is_currency old.to ≡ b → FieldsOf old 6
    by false e b f = from_not_digits refl (λ c. never (sym e ∙ (currency old.from).1 c))
    by true e false f = to_not_digits refl (λ c. never (sym f ∙ (currency old.to).1 c))
    by true e true f = same_codes refl (eqb-true _ _ (not-false (eqb old.from old.to) (simp (e, f) at h)))

  codes-told : are_currencies old.from old.to ≡ true → Codes old.from old.to
  codes-told h =
      let ((f, t), other) = (currency old.from and currency old.to and denied (equal old.from old.to)).0 h in
      (f, t, other)

  by_codes : (codes : Bool) → are_currencies old.from old.to ≡ codes
      → Ruled old (cond codes (with_rate old (rate_of old.rate)) (Err OutOfRange))
  by_codes true e = by-rate (codes-told e) (rate_of old.rate) (rate-number old.rate rate-held)
  by_codes false e = (code_cause e, clear 1 (λ l. absurd (omega arith)) (λ l. absurd (omega arith)) (λ l. absurd (omega arith)))

  pub ruled : Ruled old (take_over old)
  unfolding take_over
  ruled = by_codes (are_currencies old.from old.to) refl

  numbered_by : (taken : Result NewRecord Refusal) → Ruled old taken → Numbered (FieldsOf old) (taken_number taken)
  numbered_by (Ok new) none = done refl none
  numbered_by (Err refusal) first = refused first.0 first.1

  -- THE NUMBER OF A RECORD'S FIELDS IS THE FIRST OF 6, 10, 11 THAT APPLIES, 0 WHERE NONE DOES
  pub takes : Numbered (FieldCause old.from old.to old.rate old.mta) (taken_number (take_over old))
  takes = numbered_by (take_over old) ruled

  -- AND NO OTHER NUMBER IS
  pub only-taken : (n m : ℕ) → Numbered (FieldsOf old) n → Numbered (FieldsOf old) m → n ≡ m
  only-taken = only field-place
