-- Too many papers; too many currencies already; a thirty-third currency; or it is taken.
use borrow.Author.Rules.{rules}
use borrow.Author.Tests.{le-leb, lt-leb}
use mathlib.Core.Path.{◌≡◌, sym, ap, ◌∙◌}
use mathlib.Core.Bool.{true, false}
use lib.Dec.{leb}
use lib.ListN.{get_or}
use Rattle.sheet.specs.Sheet.{papers, counted}
use Rattle.tallies.specs.Tallies.{all_fit}
use Rattle.class_sheet.specs.ClassSheet.{is_full, has_room, paper_tallies, taken_of, sheet_after}
use Rattle.class_sheet.proofs.take_paper.Goals as goal

pub returns-then-sheet-ge-MOST_PAPERS : goal.returns-then-sheet-ge-MOST_PAPERS
unfolding taken_of sheet_after
returns-then-sheet-ge-MOST_PAPERS c = let full = le-leb _ _ c.if-sheet-ge-MOST_PAPERS.true in (simp full, simp full)

pub returns-then-sheet-gt-MOST_CURRENCIES : goal.returns-then-sheet-gt-MOST_CURRENCIES
unfolding taken_of sheet_after has_room
returns-then-sheet-gt-MOST_CURRENCIES c =
    let room = lt-leb _ _ c.if-sheet-ge-MOST_PAPERS.false in
    let many = lt-leb _ _ c.if-sheet-gt-MOST_CURRENCIES.true in
    (simp (room, many), simp (room, many))

pub returns-then-not-take_events : goal.returns-then-not-take_events
unfolding taken_of sheet_after has_room
returns-then-not-take_events c =
    let took = c in
    let few = took in
    let room = lt-leb _ _ few.if-sheet-ge-MOST_PAPERS.false in
    let known = le-leb _ _ few.if-sheet-gt-MOST_CURRENCIES.false in
    let more = sym took.take_events.ensures.0 ∙ c.if-not-take_events.true in
    (simp (room, known, more), simp (room, known, more))

pub returns : goal.returns
unfolding taken_of sheet_after has_room
returns c =
    let fits = c in
    let took = fits in
    let few = took in
    let room = lt-leb _ _ few.if-sheet-ge-MOST_PAPERS.false in
    let known = le-leb _ _ few.if-sheet-gt-MOST_CURRENCIES.false in
    let more = sym took.take_events.ensures.0 ∙ fits.if-not-take_events.false in
    (simp (room, known, more), simp (room, known, more) cc)
