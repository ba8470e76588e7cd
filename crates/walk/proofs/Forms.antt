-- The form of a row by the mark of its first word. Assumes nothing.
use mathlib.Core.Path.{◌≡◌, refl, ◌∙◌}
use mathlib.Core.Bool.{Bool, true, false, cond}
use mathlib.Core.List.{List, [], ◌∷◌}
use Prim.Native.Nat.{ℕ}
use Rattle.words.specs.Words.{word, same, up_to}
use Rattle.forms.specs.Form.{say, count, bytes, named, date, code, Form, done, rest, may, part, bits, either}
use Rattle.forms.specs.Grammar.{past, is_sized, size_in, part_in, form_from, form_in}
use Rattle.forms.proofs.Grammars as Grammars
use Rattle.walk.specs.declared.Mark.{Mark as Kind}
use Rattle.walk.specs.declared.Mark.TheVariants.{End, Rest, MayEnd, Opens, Silent, Names, Flags, Number, Bytes, Date, Code, Word}
use Rattle.walk.specs.Marks.{mark_of}

-- the form from a word on, by its mark and the words behind it
abbrev pub by_mark : Kind → List ℕ → List (List ℕ) → Form
by_mark End w ws = done
by_mark Rest w ws = rest
by_mark MayEnd w ws = may (form_in ws)
by_mark Opens w ws = either (form_in ws) (form_in (past (word ")") ws))
by_mark Silent w ws = form_in ws
by_mark Names w ws = part (named (up_to (word "]") ws)) (form_in (past (word "]") ws))
by_mark (Flags n) w ws = bits n (up_to (word "}") ws) (form_in (past (word "}") ws))
by_mark (Number n) w ws = part (count n) (form_in ws)
by_mark (Bytes n) w ws = part (bytes n) (form_in ws)
by_mark Date w ws = part date (form_in ws)
by_mark Code w ws = part code (form_in ws)
by_mark Word w ws = part (say w) (form_in ws)

pub form-step : (w : List ℕ) (ws : List (List ℕ)) → form_in (w ∷ ws) ≡ by_mark (mark_of w) w ws
unfolding part_in mark_of
form-step w ws =
    Grammars.form-step w ws
    ∙ go (same w (word "[")) (is_sized 123 w) (same w (word "(")) (same w (word ")")) (same w (word "?")) (same w (word "R")) (is_sized 78 w) (is_sized 72 w)
    (same w (word "D")) (same w (word "C"))
  where
    go : (a b c d e f g h i j : Bool)
        → cond a (part (named (up_to (word "]") ws)) (form_in (past (word "]") ws)))
        (cond b (bits (size_in w) (up_to (word "}") ws) (form_in (past (word "}") ws)))
        (cond c (either (form_in ws) (form_in (past (word ")") ws)))
        (cond d (form_in ws)
        (cond e (may (form_in ws))
        (cond f rest
        (part (cond g (count (size_in w)) (cond h (bytes (size_in w)) (cond i date (cond j code (say w))))) (form_in ws)))))))
        ≡ by_mark (cond a Names (cond b (Flags (size_in w)) (cond c Opens (cond d Silent (cond e MayEnd (cond f Rest
        (cond g (Number (size_in w)) (cond h (Bytes (size_in w)) (cond i Date (cond j Code Word)))))))))) w ws
    go true b c d e f g h i j = refl
    go false true c d e f g h i j = refl
    go false false true d e f g h i j = refl
    go false false false true e f g h i j = refl
    go false false false false true f g h i j = refl
    go false false false false false true g h i j = refl
    go false false false false false false true h i j = refl
    go false false false false false false false true i j = refl
    go false false false false false false false false true j = refl
    go false false false false false false false false false true = refl
    go false false false false false false false false false false = refl

pub form-none : form_in [] ≡ done
unfolding form_in form_from
form-none = refl
