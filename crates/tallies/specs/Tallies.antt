-- What an answer adds to the sheet of a class (document 02, Ten).
use Rattle.std.specs.Prelude.{ℕ, Bool, true, false, cond, ◌&&◌, List, [], ◌∷◌}
use Rattle.refusal.specs.Refusal.{refusal_number}
use Rattle.sheet.specs.Sheet.{answer_counted, refusal_counted}
use Rattle.sums.specs.Sums.{fits_sale, sale_added}
use Rattle.state.specs.declared.Kind.{Kind}
use Rattle.state.specs.declared.Kind.TheVariants.{Aac, Tc, Arqc}
use Rattle.state.specs.declared.Answer.{Answer}
use Rattle.state.specs.declared.Answer.TheVariants.{Refused, Started, Given, Done}
use Rattle.tallies.specs.declared.Sale.{Sale}

-- one answer of a kind (0 TC, 1 AAC, 2 ARQC) by a profile, one refusal, an offline approval of an amount
pub data Tally : Type 0 where
  answered : (profile kind : ℕ) → Tally
  refused : (number : ℕ) → Tally
  approved : (currency amount : ℕ) → Tally

-- WHAT AN ANSWER ADDS
abbrev pub kind_number : Kind → ℕ
kind_number Tc = 0
kind_number Aac = 1
kind_number Arqc = 2

-- a TC, where it was decided offline
abbrev pub is_approval : (offline : Bool) → Kind → Bool
is_approval offline Tc = offline
is_approval offline Aac = false
is_approval offline Arqc = false

-- a cryptogram counts for the profile that its IAD names; an offline approval adds the amount that the transaction's First asked, unconverted
abbrev pub cryptogram_tallies : (offline : Bool) → Sale → Kind → (profile : ℕ) → List Tally
cryptogram_tallies offline sale kind profile =
    answered profile (kind_number kind) ∷ cond (is_approval offline kind) (approved sale.currency sale.amount ∷ []) []

unfoldable pub answer_tallies : (offline : Bool) → Sale → Answer → List Tally
answer_tallies offline sale (Refused refusal) = refused (refusal_number refusal) ∷ []
answer_tallies offline sale (Started atc visits) = []
answer_tallies offline sale (Given kind atc iad) = cryptogram_tallies offline sale kind iad.profile
answer_tallies offline sale Done = []

-- THE SHEET with it
abbrev pub tallied : (sheet : List ℕ) → Tally → List ℕ
tallied sheet (answered profile kind) = answer_counted sheet profile kind
tallied sheet (refused number) = refusal_counted sheet number
tallied sheet (approved currency amount) = sale_added sheet currency amount

unfoldable pub all_tallied : (sheet : List ℕ) → List Tally → List ℕ
all_tallied sheet [] = sheet
all_tallied sheet (tally ∷ more) = all_tallied (tallied sheet tally) more

-- whether there is room for it: no approval brings a thirty-third currency
abbrev pub fits : (sheet : List ℕ) → Tally → Bool
fits sheet (answered profile kind) = true
fits sheet (refused number) = true
fits sheet (approved currency amount) = fits_sale sheet currency amount

unfoldable pub all_fit : (sheet : List ℕ) → List Tally → Bool
all_fit sheet [] = true
all_fit sheet (tally ∷ more) = fits sheet tally && all_fit (tallied sheet tally) more
