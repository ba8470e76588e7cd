use borrow.Author.Rules.{rules}
use mathlib.Core.Path.{◌≡◌, refl}
use mathlib.Core.Bool.{true}
use Rattle.walk.specs.declared.Mark.{Mark as Kind}
use Rattle.walk.specs.declared.Mark.TheVariants.{End, Rest, MayEnd, Opens, Silent, Names, Flags, Number, Bytes, Date, Code, Word}
use Rattle.walk.specs.Marks.{size_of}
use Rattle.walk.proofs.Keys.{is_among, among_empty, tag, never, empty}
use Rattle.walk.proofs.size.Goals as goal

none : (m : Kind) → is_among empty (tag m) ≡ true → 0 ≡ size_of m
none End h = refl
none Rest h = refl
none MayEnd h = refl
none Opens h = refl
none Silent h = refl
none Names h = never h
none (Flags n) h = never h
none (Number n) h = never h
none (Bytes n) h = never h
none Date h = never h
none Code h = never h
none Word h = refl

pub returns-in_default : goal.returns-in_default
returns-in_default c =
    let d = c.in_default in
    none c.args.mark (among_empty _ d.not-Names d.not-Flags d.not-Number d.not-Bytes d.not-Date d.not-Code)

pub returns-in-Flags : goal.returns-in-Flags
returns-in-Flags c = search rules

pub returns-in-Number : goal.returns-in-Number
returns-in-Number c = search rules

pub returns-in-Bytes : goal.returns-in-Bytes
returns-in-Bytes c = search rules

pub returns-in-Names : goal.returns-in-Names
returns-in-Names c = search rules

pub returns-in-Code : goal.returns-in-Code
returns-in-Code c = search rules

pub returns-in-Date : goal.returns-in-Date
returns-in-Date c = search rules
