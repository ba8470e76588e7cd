-- The PUT DATA command of an issuer script, and what it writes (request Twelve; CPA 18.8, Tables 18-6 and J-1). A command that fails writes nothing.
use Rattle.std.specs.Prelude.{Bool, cond, ◌&&◌, List, [], ◌∷◌, ℕ, zero, suc, ◌+◌, ◌-◌, length, take, drop, leb, eqb, Option, None, Some}
use Rattle.element.specs.declared.Write.{Write}
use Rattle.element.specs.Element.{length_at, element_size, element_meaning}
pub use Rattle.std.specs.Option.{is_some}
pub use Rattle.frame.specs.Frame.{object_of}
unfoldable pub use Rattle.frame.specs.Frame.{is_put_data, list_place, mac_place, is_secured}
use Rattle.put_data.specs.declared.Next.{Next}
use Rattle.put_data.specs.declared.Next.TheVariants.{Element, End, Fault}

-- THE WRITES of a list of elements, to its end and in their order: none where an element fails
abbrev pub before : Option Write → Option (List Write) → Option (List Write)
before None ws = None
before (Some w) None = None
before (Some w) (Some ws) = Some (w ∷ ws)

-- a filler 00 is passed over, and so are the n bytes of an element that has been read
unfoldable pub writes_by : (object n : ℕ) → List ℕ → Option (List Write)
writes_by object n [] = Some []
writes_by object (suc n) (b ∷ s) = writes_by object n s
writes_by object zero (b ∷ s) =
    cond (eqb b 0)
    (writes_by object 0 s)
    (before (element_meaning object (b ∷ s)) (writes_by object (element_size (b ∷ s) - 1) s))

abbrev pub writes_in : (object : ℕ) → List ℕ → Option (List Write)
writes_in object s = writes_by object 0 s

-- the elements, none where the command ends before they do
unfoldable pub elements_of : List ℕ → List ℕ
elements_of c = cond (leb (mac_place c) (length c)) (take (length_at c 6) (drop (list_place c) c)) []

-- WHAT A COMMAND WRITES: none where it fails
unfoldable pub writes_of : List ℕ → Option (List Write)
writes_of c = cond (is_put_data c && is_secured c) (writes_in (object_of c) (elements_of c)) None

unfoldable pub is_valid : List ℕ → Bool
is_valid c = is_some (writes_of c)

-- AS THE CODE ANSWERS IT, from element to element: the first behind fillers, and where it ends; s lies at a place
abbrev pub told : Option Write → (end : ℕ) → Next
told (Some w) end = Element w end
told None end = Fault

unfoldable pub next_by : (object at : ℕ) → List ℕ → Next
next_by object at [] = End
next_by object at (b ∷ s) = cond (eqb b 0) (next_by object (at + 1) s) (told (element_meaning object (b ∷ s)) (at + element_size (b ∷ s)))

unfoldable pub next_in : (object : ℕ) → List ℕ → (from : ℕ) → Next
next_in object s from = next_by object from (drop from s)

unfoldable pub next_write : List ℕ → (from : ℕ) → Next
next_write c from = next_in (object_of c) (elements_of c) from
