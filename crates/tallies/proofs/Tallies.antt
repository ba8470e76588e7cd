-- A cryptogram with its tallies: one for its kind, and where it approves offline the amount; and tallies one behind the other. Assumes nothing.
use mathlib.Core.Path.{◌≡◌, refl, sym, ap, ◌∙◌}
use mathlib.Core.Bool.{Bool, true, false, cond, ◌&&◌}
use mathlib.Core.List.{List, [], ◌∷◌, ◌++◌}
use Prim.Native.Nat.{ℕ}
use Rattle.sheet.specs.Sheet.{answer_counted}
use Rattle.sums.specs.Sums.{fits_sale, sale_added}
use Rattle.state.specs.declared.Kind.{Kind}
use Rattle.tallies.specs.declared.Sale.{Sale}
use Rattle.tallies.specs.Tallies.{Tally, answered, approved, kind_number, is_approval, cryptogram_tallies, tallied, all_tallied, fits, all_fit}

abbrev pub Took : (sheet : List ℕ) → List Tally → Bool → (after : List ℕ) → Type 0
Took sheet tallies fit after = (fit ≡ all_fit sheet tallies) × (after ≡ all_tallied sheet tallies)

pub and_true : (b : Bool) → b && true ≡ b
and_true true = refl
and_true false = refl

module _ (sheet : List ℕ) (offline : Bool) (sale : Sale) (kind : Kind) (profile : ℕ) {number : ℕ} {between : List ℕ} (numbered : number ≡ kind_number kind)
    (e : between ≡ answer_counted sheet profile number) where
  abbrev with_approval : Bool → List Tally
  with_approval approves = answered profile (kind_number kind) ∷ cond approves (approved sale.currency sale.amount ∷ []) []

  counted_is : between ≡ answer_counted sheet profile (kind_number kind)
  counted_is = e ∙ ap (λ n. answer_counted sheet profile n) numbered

  pub approve : is_approval offline kind ≡ true → {fit : Bool} {after : List ℕ} → fit ≡ fits_sale between sale.currency sale.amount
      → after ≡ sale_added between sale.currency sale.amount → Took sheet (cryptogram_tallies offline sale kind profile) fit after
  unfolding all_fit all_tallied
  approve is f a = (
    f ∙ ap (λ s. fits_sale s sale.currency sale.amount) counted_is
        ∙ sym (and_true (fits_sale (answer_counted sheet profile (kind_number kind)) sale.currency sale.amount))
        ∙ ap (λ b. all_fit sheet (with_approval b)) (sym is),
    a ∙ ap (λ s. sale_added s sale.currency sale.amount) counted_is ∙ ap (λ b. all_tallied sheet (with_approval b)) (sym is),
  )

  pub count-only : is_approval offline kind ≡ false → Took sheet (cryptogram_tallies offline sale kind profile) true between
  unfolding all_fit all_tallied
  count-only is =
      (ap (λ b. all_fit sheet (with_approval b)) (sym is), counted_is ∙ ap (λ b. all_tallied sheet (with_approval b)) (sym is))

-- ---- tallies, and behind them others

pub and_assoc : (a b c : Bool) → a && b && c ≡ a && (b && c)
and_assoc true b c = refl
and_assoc false b c = refl

pub tallied-on : (sheet : List ℕ) (tallies more : List Tally) → all_tallied sheet (tallies ++ more) ≡ all_tallied (all_tallied sheet tallies) more
unfolding all_tallied
tallied-on sheet [] more = refl
tallied-on sheet (tally ∷ tallies) more = tallied-on (tallied sheet tally) tallies more

pub fit_on : (sheet : List ℕ) (tallies more : List Tally) → all_fit sheet (tallies ++ more) ≡ all_fit sheet tallies && all_fit (all_tallied sheet tallies) more
unfolding all_tallied all_fit
fit_on sheet [] more = refl
fit_on sheet (tally ∷ tallies) more =
    ap (λ b. fits sheet tally && b) (fit_on (tallied sheet tally) tallies more)
    ∙ sym (and_assoc (fits sheet tally) (all_fit (tallied sheet tally) tallies) (all_fit (all_tallied (tallied sheet tally) tallies) more))
