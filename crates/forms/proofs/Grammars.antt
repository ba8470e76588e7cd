-- The form of a row goes on by the form of the words behind. Assumes nothing.
use mathlib.Core.Path.{◌≡◌, refl, sym, ◌∙◌}
use mathlib.Core.Bool.{Bool, true, false, cond}
use mathlib.Core.List.{List, [], ◌∷◌}
use Prim.Native.Nat.{ℕ, zero, suc, ◌≤◌}
use native.Mathlib.Omega.{arith}
use lib.ListN.{length}
use Rattle.words.specs.Words.{word, same, up_to}
use Rattle.forms.specs.Form.{Form, rest, may, part, bits, either, named}
use Rattle.forms.specs.Grammar.{past, is_sized, size_in, part_in, form_from, form_in}

pub past-less : (end : List ℕ) (ws : List (List ℕ)) → length (past end ws) ≤ length ws
unfolding past
past-less end [] = omega arith
past-less end (w ∷ ws) = by (same w end) (past-less end ws) where
  by : (t : Bool) → length (past end ws) ≤ length ws → length (cond t ws (past end ws)) ≤ suc (length ws)
  by true h = omega arith
  by false h = omega arith

-- more than enough changes nothing
enough : (m n : ℕ) (ws : List (List ℕ)) → length ws ≤ m → length ws ≤ n → form_from m ws ≡ form_from n ws
unfolding form_from
enough zero zero ws h k = refl
enough zero (suc n) [] h k = refl
enough zero (suc n) (w ∷ ws) h k = absurd (omega arith)
enough (suc m) zero [] h k = refl
enough (suc m) zero (w ∷ ws) h k = absurd (omega arith)
enough (suc m) (suc n) [] h k = refl
enough (suc m) (suc n) (w ∷ ws) h k =
    let behind : (end : List ℕ) → form_from m (past end ws) ≡ form_from n (past end ws) =
    λ end. let less = past-less end ws in enough m n (past end ws) (omega arith) (omega arith) in
    rw (behind (word "]"), behind (word "}"), behind (word ")"), enough m n ws (omega arith) (omega arith))

pub form-more : (n : ℕ) (ws : List (List ℕ)) → length ws ≤ n → form_from n ws ≡ form_in ws
unfolding form_in
form-more n ws h = enough n (length ws) ws h (omega arith)

-- what a row says by its first word
abbrev pub ruled : List ℕ → List (List ℕ) → Form
ruled w ws =
    cond (same w (word "[")) (part (named (up_to (word "]") ws)) (form_in (past (word "]") ws)))
    (cond (is_sized 123 w) (bits (size_in w) (up_to (word "}") ws) (form_in (past (word "}") ws)))
    (cond (same w (word "(")) (either (form_in ws) (form_in (past (word ")") ws)))
    (cond (same w (word ")")) (form_in ws)
    (cond (same w (word "?")) (may (form_in ws))
    (cond (same w (word "R")) rest
    (part (part_in w) (form_in ws)))))))

one-step : (w : List ℕ) (ws : List (List ℕ)) → form_from (suc (length ws)) (w ∷ ws) ≡ ruled w ws
unfolding form_from
one-step w ws =
    let behind : (end : List ℕ) → form_from (length ws) (past end ws) ≡ form_in (past end ws) = λ end. form-more (length ws) (past end ws) (past-less end ws) in
    rw (behind (word "]"), behind (word "}"), behind (word ")"), form-more (length ws) ws (omega arith))

pub form-step : (w : List ℕ) (ws : List (List ℕ)) → form_in (w ∷ ws) ≡ ruled w ws
form-step w ws = sym (form-more (suc (length ws)) (w ∷ ws) (omega arith)) ∙ one-step w ws
