use mathlib.Core.Path.{◌≡◌, refl}
use mathlib.Core.List.{List}
use Prim.Native.Nat.{ℕ}
use Rattle.forms.specs.Form.{word_of, say}
use Rattle.walk.specs.declared.Mark.{Mark as Kind}
use Rattle.walk.specs.declared.Mark.TheVariants.{End, Rest, MayEnd, Opens, Silent, Names, Flags, Number, Bytes, Date, Code, Word}
use Rattle.put_forms.specs.Printed.{part_of}
use Rattle.put_forms.proofs.put_part.Goals as goal

itself : (m : Kind) (w : List ℕ) (ws : List (List ℕ)) → (m ≡ Names → ⊥) → ((x : ℕ) → m ≡ Number x → ⊥) → ((x : ℕ) → m ≡ Bytes x → ⊥) → (m ≡ Date → ⊥) → (m ≡ Code → ⊥) → part_of m w ws ≡ say w
unfolding part_of
itself End w ws a b c d e = refl
itself Rest w ws a b c d e = refl
itself MayEnd w ws a b c d e = refl
itself Opens w ws a b c d e = refl
itself Silent w ws a b c d e = refl
itself Names w ws a b c d e = absurd (a refl)
itself (Flags x) w ws a b c d e = refl
itself (Number x) w ws a b c d e = absurd (b x refl)
itself (Bytes x) w ws a b c d e = absurd (c x refl)
itself Date w ws a b c d e = absurd (d refl)
itself Code w ws a b c d e = absurd (e refl)
itself Word w ws a b c d e = refl

pub number_in-requires : goal.number_in-requires
number_in-requires c =
    rw c.in-Number.is at c.requires

pub returns-in-Number : goal.returns-in-Number
unfolding part_of word_of
returns-in-Number c =
    rw (c.in-Number.is, ← c.number_in.ensures) c.put_decimal.ensures

pub returns-in-Bytes : goal.returns-in-Bytes
unfolding part_of word_of
returns-in-Bytes c =
    rw c.in-Bytes.is c.put_bytes.ensures

pub returns-in-Names : goal.returns-in-Names
unfolding part_of word_of
returns-in-Names c =
    rw (c.in-Names.is, ← c.after_word.ensures, ← c.byte_at-byte.ensures) c.put_name.ensures

pub returns-in-Date : goal.returns-in-Date
unfolding part_of word_of
returns-in-Date c =
    rw c.in-Date.is (unfold word_of in c.put_date.ensures)

pub returns-in-Code : goal.returns-in-Code
unfolding part_of word_of
returns-in-Code c =
    rw c.in-Code.is (unfold word_of in c.put_code.ensures)

pub returns-in_default : goal.returns-in_default
unfolding part_of word_of
returns-in_default c =
    let d = c.in_default in
    rw (itself c.args.mark _ _ d.not-Names d.not-Number d.not-Bytes d.not-Date d.not-Code) c.put_same.ensures
