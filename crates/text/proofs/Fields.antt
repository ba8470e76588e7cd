-- Texts that neither a space nor a line feed is in: what a line of such fields ends in, and that it tells them. Assumes nothing.
use mathlib.Core.Path.{◌≡◌, refl, sym}
use mathlib.Core.List.{List, [], ◌∷◌, ◌++◌, append_assoc}
use Prim.Native.Nat.{ℕ, ◌≤◌, ◌<◌}
use native.Mathlib.Omega.{arith}
use lib.ListN.{length, get_or}
use Rattle.text.specs.Text.{line}
use Rattle.text.proofs.Each.{Each, none, more, append, at, weaken}

abbrev pub Plain : List ℕ → Type 0
Plain = Each (λ b. 32 < b)

-- a line, less its line feed
body : List ℕ → List (List ℕ) → List ℕ
body f [] = f
body f (g ∷ fs) = f ++ 32 ∷ [] ++ body g fs

ended : (f : List ℕ) (fs : List (List ℕ)) → line f fs ≡ body f fs ++ 10 ∷ []
unfolding body
ended f [] = refl
ended f (g ∷ fs) = rw (ended g fs) (sym (append_assoc (f ++ 32 ∷ []) (body g fs) (10 ∷ [])))

above : (f : List ℕ) (fs : List (List ℕ)) → Each Plain (f ∷ fs) → Each (λ b. 10 < b) (body f fs)
unfolding body
above f [] (more p r) = weaken (λ b h. omega arith) p
above f (g ∷ fs) (more p r) = append (append (weaken (λ b h. omega arith) p) (more {a = 32} (omega arith) none)) (above g fs r)

-- the last byte is the line feed, and no other is one
pub record Fed (s : List ℕ) : Type 0 where
  pub front : List ℕ
  pub ends : s ≡ front ++ 10 ∷ []
  pub alone : (i : ℕ) → i < length front → get_or front i 0 ≡ 10 → ⊥

pub fed_line : (f : List ℕ) (fs : List (List ℕ)) → Each Plain (f ∷ fs) → Fed (line f fs)
fed_line f fs p = record { front = body f fs; ends = ended f fs; alone = λ i l e. let b = at (above f fs p) 0 i l in omega arith }

-- where a field ends is told by the byte behind it
cut : {a b : List ℕ} (c d : ℕ) (s t : List ℕ) → Plain a → Plain b → c ≤ 32 → d ≤ 32 → a ++ c ∷ s ≡ b ++ d ∷ t → (a ≡ b) × (c ≡ d) × (s ≡ t)
cut c d s t none none h k e = (refl, cc, cc)
cut c d s t none (more {a = y} q _) h k e = let same : c ≡ y = cc in let z : ⊥ = omega arith in absurd z
cut c d s t (more {a = x} p _) none h k e = let same : x ≡ d = cc in let z : ⊥ = omega arith in absurd z
cut c d s t (more p r) (more q r') h k e = let (fields, marks, rest) = cut c d s t r r' h k (cc) in (cc, marks, rest)

pub same-fields : (f g : List ℕ) (fs gs : List (List ℕ)) → Each Plain (f ∷ fs) → Each Plain (g ∷ gs) → line f fs ≡ line g gs → (f ∷ fs) ≡ (g ∷ gs)
same-fields f g [] [] (more p _) (more q _) e = let (same, _, _) = cut 10 10 [] [] p q (omega arith) (omega arith) e in cc
same-fields f g [] (n ∷ gs) (more p _) (more q _) e =
    let (_, marks, _) = cut 10 32 [] (line n gs) p q (omega arith) (omega arith) (simp append_assoc at e) in cc
same-fields f g (m ∷ fs) [] (more p _) (more q _) e =
    let (_, marks, _) = cut 32 10 (line m fs) [] p q (omega arith) (omega arith) (simp append_assoc at e) in cc
same-fields f g (m ∷ fs) (n ∷ gs) (more p r) (more q r') e =
    let (same, _, rest) = cut 32 32 (line m fs) (line n gs) p q (omega arith) (omega arith) (simp append_assoc at e) in
    let others = same-fields m n fs gs r r' rest in
    cc
