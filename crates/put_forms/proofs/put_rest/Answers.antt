use borrow.Author.Rules.{rules}
use borrow.Author.Tests.{tests}
use Rattle.words.proofs.Puts.{nothing, next}
use Rattle.put_forms.proofs.Laws.{rest-none, rest_some}
use Rattle.put_forms.proofs.put_rest.Goals as goal

pub returns-then-is_empty : goal.returns-then-is_empty
returns-then-is_empty c =
    rw (rest-none c.args.bytes.now (search (rules, tests))) (nothing _ _)

pub returns : goal.returns
returns c =
    rw (rest_some c.args.bytes.now (search (rules, tests))) (next c.put_byte-end.ensures c.put_hex.ensures)
