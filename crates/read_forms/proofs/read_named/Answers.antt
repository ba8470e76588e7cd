-- A number that is a byte, or a name.
use Rattle.std.proofs.Common.{sym, ◌∙◌, rules}
use Rattle.read_words.specs.Told.{Told}
use Rattle.read_forms.proofs.Parts.{few-names, named-is, named-over, named_by}
use Rattle.read_forms.proofs.read_named.Goals as goal

pub read_name-requires : goal.read_name-requires
read_name-requires c = search rules

pub returns-in_default : goal.returns-in_default
returns-in_default c =
    let none = sym c.number_in.ensures ∙ c.in_default.is in
    λ fine. named_by _ fine _ _ _ _ _ none (c.read_name.ensures (few-names _ fine))

pub returns-then-n-lt256 : goal.returns-then-n-lt256
unfolding Told
returns-then-n-lt256 c =
    let is = sym c.number_in.ensures ∙ c.in-Some.is in
    λ fine.
    let (says, said) = named-is _ fine _ _ is c.if-n-lt256.true in
    (says, rw said c.put_byte.ensures)

pub returns : goal.returns
unfolding Told
returns c =
    let is = sym c.number_in.ensures ∙ c.in-Some.is in
    λ fine. (named-over _ fine _ _ is c.if-n-lt256.false, search rules)
