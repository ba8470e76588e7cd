-- What a test chooses. Assumes nothing.
use mathlib.Core.Path.{◌≡◌, refl}
use mathlib.Core.Bool.{Bool, true, false, cond}

-- tails that are wrong stay wrong, whatever the version
pub either : {A : Type 0} (b : Bool) (t : A) → cond b t t ≡ t
either true t = refl
either false t = refl

-- what holds of both, where each is chosen, holds of the choice
pub choose : {A : Type 0} (P : A → Type 0) (b : Bool) (x y : A) → (b ≡ true → P x) → (b ≡ false → P y) → P (cond b x y)
choose P true x y f g = f refl
choose P false x y f g = g refl
