-- By the mark: each kind of word.
use Rattle.std.proofs.Common.{cond, ap, ◌∙◌}
use Rattle.words.specs.Words.{same}
use Rattle.lexing.specs.Places.{word_at}
use Rattle.forms.specs.Form.{says, bytes_in}
use Rattle.read_forms.proofs.Laws.{after-begins}
use Rattle.read_forms.proofs.Parts.{count-says, said_same, among_others, said-by}
use Rattle.std.specs.Prelude.{None, Some}
use Rattle.read_forms.proofs.read_part.Goals as goal

pub read_named-requires : goal.read_named-requires
read_named-requires c =
    let a = c.args in
    rw c.after_word.ensures (after-begins a.grammar.now a.t)

pub returns-in-Number : goal.returns-in-Number
unfolding bytes_in
returns-in-Number c =
    rw c.in-Number.is (λ fine. rw (count-says _ _ fine) at c.read_number.ensures)

pub returns-in-Bytes : goal.returns-in-Bytes
returns-in-Bytes c =
    rw c.in-Bytes.is (λ fine. c.read_bytes.ensures)

pub returns-in-Names : goal.returns-in-Names
returns-in-Names c =
    rw (c.in-Names.is, ← c.after_word.ensures) c.read_named.ensures

pub returns-in-Date : goal.returns-in-Date
returns-in-Date c =
    rw c.in-Date.is (λ fine. c.read_date.ensures)

pub returns-in-Code : goal.returns-in-Code
returns-in-Code c =
    rw c.in-Code.is (λ fine. c.read_code.ensures)

pub returns-in_default : goal.returns-in_default
unfolding says bytes_in
returns-in_default c =
    let a = c.args in
    let is = c.read_same.ensures ∙ ap (λ v. cond (same a.word.now v) (Some a.to) None) c.word_at.ensures.0 in
    let d = c.in_default in
    rw (said-by a.mark _ _ (among_others _ d.not-Names d.not-Number d.not-Bytes d.not-Date d.not-Code), is) (λ fine. said_same (same a.word.now (word_at a.grammar.now a.t)) _ a.to)
