-- The objects of an issuer's template (EMV Book 3 Annex B): each has a tag, a length and a value, and the value of a constructed object is a list of objects.
use Rattle.std.specs.Prelude.{ℕ, zero, suc, ◌-◌, List, [], ◌∷◌, Bool, ◌&&◌, ◌||◌, cond, length, take, drop, eqb, Err, Ok, Result}
use Rattle.wire.specs.Wire.{byte}
pub use Rattle.head.specs.Head.{tag_size, tag_right, length_right, lead, object_size, is_constructed}
use Rattle.object.specs.declared.Fault.{Fault}
use Rattle.object.specs.declared.Fault.TheVariants.{Malformed, TooDeep}
unfoldable pub use Rattle.head.specs.Head.{length_size, length_at, head_size, value_size, head_formed, head_right}

-- the value of the object with which s begins
unfoldable pub value_of : List ℕ → List ℕ
value_of s = take (value_size s) (drop (head_size s) s)

-- THE READING: the first fault in reading order, and of an object its head before its depth
abbrev pub first_fault : Result Unit Fault → Result Unit Fault → Result Unit Fault
first_fault (Ok done) r = r
first_fault (Err fault) r = Err fault

-- of the object with which s begins; `inside` reads the list in a constructed one
unfoldable pub read_object : (inside : List ℕ → Result Unit Fault) → List ℕ → Result Unit Fault
read_object inside s =
    cond (head_right s)
    (cond (is_constructed (byte s 0)) (inside (value_of s)) (Ok tt))
    (Err Malformed)

-- of a list behind n bytes that are passed over, those of an object that was read; so is a filler 00 where an object would begin
unfoldable pub read_behind : (inside : List ℕ → Result Unit Fault) → (n : ℕ) → List ℕ → Result Unit Fault
read_behind inside n [] = Ok tt
read_behind inside (suc n) (b ∷ s) = read_behind inside n s
read_behind inside zero (b ∷ s) =
    cond (eqb b 0)
    (read_behind inside 0 s)
    (first_fault (read_object inside (b ∷ s)) (read_behind inside (object_size (b ∷ s) - 1) s))

-- of a list that may open so many depths, its own among them; where there is none, what it holds is not read
unfoldable pub read_list : (depths : ℕ) → List ℕ → Result Unit Fault
read_list zero s = Err TooDeep
read_list (suc k) s = read_behind (read_list k) 0 s

-- of a template: one object, 71 or 72, that ends where the bytes end
abbrev pub is_root : ℕ → Bool
is_root b = eqb b 0x71 || eqb b 0x72

unfoldable pub is_template : List ℕ → Bool
is_template s = is_root (byte s 0) && head_right s && eqb (object_size s) (length s)

unfoldable pub read_template : List ℕ → Result Unit Fault
read_template s = cond (is_template s) (read_list 4 (value_of s)) (Err Malformed)

-- the paper's number
abbrev pub reading_number : Result Unit Fault → ℕ
reading_number (Ok done) = 0
reading_number (Err Malformed) = 18
reading_number (Err TooDeep) = 19
