-- The lines, and the log behind them.
use borrow.Author.Rules.{rules}
use lib.ListN.{length}
use mathlib.Core.Path.{◌≡◌, sym, ap, ◌∙◌}
use Prim.Native.Nat.{ℕ}
use native.Mathlib.Omega.{arith}
use Rattle.log_text.proofs.Stores.{placed_length}
use Rattle.paper_text.specs.PaperText.{parts_put, room_put, words_put}
use Rattle.paper_text.proofs.Text.{lines_length, lines-put, log-put}
use Rattle.std.specs.Prelude.{Some}
use Rattle.paper_text.proofs.put_parts.Goals as goal

same_end : (m n : ℕ) → Some m ≡ Some n → m ≡ n
same_end m n e = cc

pub returns-then-not-has_room : goal.returns-then-not-has_room
unfolding parts_put room_put words_put
returns-then-not-has_room c =
    let none = sym c.has_room.ensures ∙ c.if-not-has_room.true in
    (simp none, simp none, simp none, search rules)

pub returns-in_err-end : goal.returns-in_err-end
returns-in_err-end c =
    let a = c.args in
    let fits = sym c.has_room.ensures ∙ c.if-not-has_room.false in
    let whole = sym (c.transcribe.ensures.0 ∙ (lines-put a.words.now a.paper.now a.room.now a.at fits).0) ∙ c.in_err-end.was in
    let z : ◌≡◌ {A = ℕ} 0 1 = cc in
    absurd (omega arith)

pub shape_of-room : goal.shape_of-room
shape_of-room c =
    let a = c.args in
    rw c.put_log.ensures.1
    (placed_length _ _ _ ∙ ap length c.transcribe.ensures.1 ∙ lines_length a.words.now a.paper.now a.room.now a.at)

pub returns : goal.returns
unfolding parts_put room_put words_put
returns c =
    let a = c.args in
    let fits = sym c.has_room.ensures ∙ c.if-not-has_room.false in
    let lines = lines-put a.words.now a.paper.now a.room.now a.at fits in
    let whole = sym (c.transcribe.ensures.0 ∙ lines.0) ∙ c.in_ok-end.was in
    let e = c.put_log.ensures in
    let text =
    log-put a.words.now a.paper.now a.room.now a.at fits (sym (same_end _ _ whole)) (c.transcribe.ensures.1 ∙ lines.1) e.0 e.1 e.2 in
    (rw (fits, text.0, ← same_end _ _ whole), rw (fits, text.1), rw (fits) (c.transcribe.ensures.2 ∙ lines.2), text.2)
