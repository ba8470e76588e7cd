-- The sheet of a class, paper by paper (document 02, Ten).
use Rattle.std.specs.Prelude.{ℕ, Bool, cond, ◌&&◌, List, [], ◌∷◌, leb, length, get_or, Err, Ok, Result}
use Rattle.refusal.specs.declared.Refusal.TheVariants.{TooManyCurrencies, TooManyPapers}
use Rattle.refusal.specs.Refusal.{refusal_number}
use Rattle.rules.specs.Rules.{Rules, blank_words}
use Rattle.shape.specs.declared.Shape.{Shape}
use Rattle.state.specs.declared.State.{State}
use Rattle.records.specs.declared.Event.{Event}
use Rattle.records.specs.declared.Event.TheVariants.{SetUp, End, Refused as EndRefused, Answered}
use Rattle.conversation.specs.Events.{events_from, events_of}
use Rattle.sheet.specs.Sheet.{papers, counted}
use Rattle.sums.specs.Sums.{count_cell, most}
use Rattle.tallies.specs.declared.Sale.{Sale}
use Rattle.tallies.specs.Tallies.{Tally, refused, all_fit, all_tallied}
use Rattle.sales.specs.Sales.{no_sale, tallies_from}
use Rattle.refusal.specs.declared.Refusal.{Refusal}

-- WHAT A PAPER ADDS: its events are those whose lines the sitting prints
unfoldable pub paper_tallies : (paper : List ℕ) → List Tally
paper_tallies paper = tallies_from no_sale (events_of blank_words paper)

-- and its records from a place on, of which the first finds no sale
unfoldable pub record_tallies : Rules → Shape → State → (paper : List ℕ) (at : ℕ) → List Tally
record_tallies rules shape state paper at = tallies_from no_sale (events_from (length paper) rules shape state paper at)

-- and the event that ends it
abbrev pub end_tallies : Event → List Tally
end_tallies (EndRefused refusal) = refused (refusal_number refusal) ∷ []
end_tallies SetUp = []
end_tallies End = []
end_tallies (Answered said answer) = []

-- WHETHER IT IS TAKEN: 16 for a two hundred and first paper, then 15 for a thirty-third currency
abbrev pub is_full : (sheet : List ℕ) → Bool
is_full sheet = leb 200 (get_or sheet papers 0)

unfoldable pub has_room : (sheet : List ℕ) → List Tally → Bool
has_room sheet tallies = leb (get_or sheet count_cell 0) most && all_fit sheet tallies

unfoldable pub taken_of : (sheet paper : List ℕ) → Result Unit Refusal
taken_of sheet paper =
    cond (is_full sheet) (Err TooManyPapers) (cond (has_room sheet (paper_tallies paper)) (Ok tt) (Err TooManyCurrencies))

abbrev pub taken_number : Result Unit Refusal → ℕ
taken_number (Ok done) = 0
taken_number (Err refusal) = refusal_number refusal

-- the sheet with all that it adds, and one paper more; refused, the sheet stays
unfoldable pub sheet_after : (sheet paper : List ℕ) → List ℕ
sheet_after sheet paper =
    cond (is_full sheet) sheet (cond (has_room sheet (paper_tallies paper)) (counted (all_tallied sheet (paper_tallies paper)) papers) sheet)
