-- The words of a printed line, one behind the other, whatever follows the line. Assumes nothing.
use mathlib.Core.Path.{◌≡◌, ap, ◌∙◌}
use mathlib.Core.List.{List, [], ◌∷◌, ◌++◌, append_assoc}
use Prim.Native.Nat.{ℕ, ◌≤◌}
use native.Mathlib.Omega.{arith}
use Rattle.text.specs.Text.{line}
use Rattle.text.proofs.Each.{none, more, append, weaken}
use Rattle.text.proofs.Fields.{Plain}
use Rattle.replies.specs.Replies.{before, behind}
use Rattle.reply_laws.proofs.Marks.{Free, before_more, before-first, behind-first, behind-none}

-- a field has neither a space nor a line feed
free : (mark : ℕ) → mark ≤ 32 → {f : List ℕ} → Plain f → Free mark f
free mark h = weaken (λ b l e. omega arith)

-- what a line of fields says
abbrev pub said : (rest field : List ℕ) → List (List ℕ) → List ℕ
said rest field fields = before 10 (line field fields ++ rest)

module _ (rest : List ℕ) {f : List ℕ} (p : Plain f) where
  pub last-said : said rest f [] ≡ f
  last-said = ap (before 10) (append_assoc f (10 ∷ []) rest) ∙ before-first 10 (free 10 (omega arith) p) rest

  pub last_word : behind 32 (said rest f []) ≡ []
  last_word = ap (behind 32) last-said ∙ behind-none 32 (free 32 (omega arith) p)

  module _ (g : List ℕ) (fs : List (List ℕ)) where
    pub more-said : said rest f (g ∷ fs) ≡ f ++ 32 ∷ said rest g fs
    more-said =
        let spaced : Free 10 (f ++ 32 ∷ []) = append (free 10 (omega arith) p) (more {a = 32} (λ e. omega arith) none) in
        ap (before 10) (append_assoc (f ++ 32 ∷ []) (line g fs) rest)
        ∙ before_more 10 spaced (line g fs ++ rest)
        ∙ append_assoc f (32 ∷ []) (said rest g fs)

    pub first_word : before 32 (said rest f (g ∷ fs)) ≡ f
    first_word = ap (before 32) more-said ∙ before-first 32 (free 32 (omega arith) p) (said rest g fs)

    pub other-words : behind 32 (said rest f (g ∷ fs)) ≡ said rest g fs
    other-words = ap (behind 32) more-said ∙ behind-first 32 (free 32 (omega arith) p) (said rest g fs)
