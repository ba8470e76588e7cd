use borrow.Author.Rules.{rules}
use mathlib.Core.Path.{◌≡◌, sym, ap, ◌∙◌}
use mathlib.Core.Bool.{true, false}
use mathlib.Core.List.{List}
use Prim.Native.Nat.{ℕ, ◌+◌}
use native.Mathlib.Omega.{arith}
use Rattle.words.specs.Words.{same}
use Rattle.lexing.specs.Places.{word_at, word_end, after_word}
use Rattle.lexing.specs.Names.{names_at, is_name}
use Rattle.lexing.proofs.Named.{stands-next, name_in, name-passed, names_more, no_names, found, found_here, found-on, found_not, found_first}
use Rattle.lexing.proofs.place_of.Goals as goal

pub loop-at-init : goal.loop-at-init
loop-at-init c =
    let a = c.args in
    let table = a.table.now in
    let name = c.next_word-name.ensures in (
      found_first a.close.now table a.at a.word.now ∙ ap (λ (p : ℕ). found 0 (names_at a.close.now table p) a.word.now) (sym name),
      rw name (stands-next table a.at),
      search rules,
    )

pub returns-then-same_word : goal.returns-then-same_word
returns-then-same_word c =
    let a = c.args in
    let close = a.close.now in
    let table = a.table.now in
    let word = a.word.now in
    let name = c.loop-at.name in
    let n = c.loop-at.n in
    let is : is_name close table name ≡ true = sym c.is_name.ensures ∙ c.loop-at-test.true in
    let same_here : same word (word_at table name) ≡ true = ap (same word) (sym c.word_at.ensures.0) ∙ sym c.same_word.ensures ∙ c.if-same_word.true in
    sym (c.loop-at.invariant.0 ∙ ap (λ (names : List (List ℕ)). found n names word) (names_more close table name c.loop-at.invariant.1 is)
    ∙ found_here n (word_at table name) (names_at close table (after_word table name)) word same_here)

pub overflow_add-n : goal.overflow_add-n
overflow_add-n c =
    let a = c.args in
    let close = a.close.now in
    let table = a.table.now in
    let there = name_in close table c.loop-at.name (sym c.is_name.ensures ∙ c.loop-at-test.true) in
    omega arith

pub loop-at-smaller : goal.loop-at-smaller
loop-at-smaller c =
    let a = c.args in
    let close = a.close.now in
    let table = a.table.now in
    let name = c.loop-at.name in
    let is : is_name close table name ≡ true = sym c.is_name.ensures ∙ c.loop-at-test.true in
    omega (arith, c.after_word-name.ensures, name_in close table name is, name-passed close table name c.loop-at.invariant.1 is)

pub loop-at-preserved : goal.loop-at-preserved
loop-at-preserved c =
    let a = c.args in
    let close = a.close.now in
    let table = a.table.now in
    let word = a.word.now in
    let name = c.loop-at.name in
    let n = c.loop-at.n in
    let is : is_name close table name ≡ true = sym c.is_name.ensures ∙ c.loop-at-test.true in
    let stands = c.loop-at.invariant.1 in
    let after = c.after_word-name.ensures in
    let other : same word (word_at table name) ≡ false =
    ap (same word) (sym c.word_at.ensures.0) ∙ sym c.same_word.ensures ∙ c.if-same_word.false in (
      c.loop-at.invariant.0
          ∙ ap (λ (names : List (List ℕ)). found n names word) (names_more close table name stands is)
          ∙ found-on n (word_at table name) (names_at close table (after_word table name)) word other
          ∙ ap (λ (p : ℕ). found (n + 1) (names_at close table p) word) (sym after),
      rw after (stands-next table (word_end table name)),
      omega (arith, after, name-passed close table name stands is),
    )

pub returns : goal.returns
returns c =
    let a = c.args in
    let close = a.close.now in
    let table = a.table.now in
    let word = a.word.now in
    let name = c.loop-at.name in
    let n = c.loop-at.n in
    let none : is_name close table name ≡ false = sym c.is_name.ensures ∙ c.loop-at-test.false in
    sym (c.loop-at.invariant.0 ∙ ap (λ (names : List (List ℕ)). found n names word) (no_names close table name c.loop-at.invariant.1 none) ∙ found_not n word)
