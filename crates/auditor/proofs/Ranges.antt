-- What is read of bytes: commands of bytes, and writes that are in range. Assumes nothing.
use Rattle.std.specs.Prelude.{Some}
use Rattle.cursor.specs.declared.Span.{Span}
use mathlib.Core.Path.{◌≡◌, ap, subst}
use mathlib.Core.List.{List, [], ◌∷◌, map}
use Prim.Native.Nat.{ℕ}
use lib.ListN.{drop}
use Rattle.cursor.specs.Cursor.{places_from, cut, commands_of}
use Rattle.trees.proofs.Octets.{drop_bytes, take-bytes}
use Rattle.element.specs.declared.Write.{Write}
use Rattle.element.specs.declared.Write.TheVariants.{Value, AccumulatorLimits, CounterLimits}
use Rattle.put_data.specs.PutData.{writes_of, is_some, is_valid}
use Rattle.put_laws.specs.Written.{Object, accumulators, counters, IsOf, Item, filler, element, list_writes, AreOf}
use Rattle.put_laws.proofs.Back.{from-proper, proper_valid}
use Rattle.auditor.specs.Template.{Bytes, EachBytes, IsInRange, InRange}

-- THEOREM: a command that lies in bytes is bytes
cut-bytes : (s : List ℕ) → Bytes s → (ps : List Span) → EachBytes (map (cut s) ps)
unfolding cut EachBytes
cut-bytes s h [] = tt
cut-bytes s h (p ∷ ps) = (take-bytes p.size (drop p.start s) (drop_bytes p.start s h), cut-bytes s h ps)

pub commands-bytes : (s : List ℕ) → Bytes s → EachBytes (commands_of s)
unfolding commands_of
commands-bytes s h = cut-bytes s h (places_from s 0)

-- THEOREM: what bytes write is in range
one_in_range : (o : Object) (w : Write) → IsOf o w → IsInRange w
one_in_range accumulators (Value slot a) h = h
one_in_range accumulators (AccumulatorLimits slot a b) h = h
one_in_range accumulators (CounterLimits slot a b) h = absurd h
one_in_range counters (Value slot a) h = absurd h
one_in_range counters (AccumulatorLimits slot a b) h = absurd h
one_in_range counters (CounterLimits slot a b) h = h

all_in_range : (o : Object) (is : List Item) → AreOf o is → InRange (list_writes is)
unfolding AreOf list_writes InRange
all_in_range o [] h = tt
all_in_range o (filler ∷ is) h = all_in_range o is h
all_in_range o (element f w ∷ is) h = (one_in_range o w h.0, all_in_range o is h.1)

pub writes_in_range : (c : List ℕ) → Bytes c → (ws : List Write) → writes_of c ≡ Some ws → InRange ws
unfolding is_valid
writes_in_range c h ws e =
    let s = from-proper c h (ap is_some e) in
    let p = s.command in
    let same : list_writes p.list ≡ ws = cc (proper_valid c s).2 in
    subst InRange same (all_in_range p.object p.list s.proper.elements)
