-- Each line of a log is one line, and its text is no longer than the longest; without a log there is none. Assumes nothing.
use mathlib.Core.Path.{◌≡◌, refl, sym, subst}
use mathlib.Core.Bool.{Bool, true, false, cond, ◌&&◌}
use mathlib.Core.List.{List, []}
use Prim.Native.Nat.{ℕ, zero, suc, ◌+◌, ◌*◌, ◌-◌, ◌≤◌, ◌<◌}
use native.Mathlib.Omega.{arith}
use borrow.Author.Tests.{le-ltb, ne_eqb, ltb-true, ltb-false}
use lib.Dec.{ltb, leb}
use lib.ListN.{length, take, drop, get_or, length-append, length-take, get_or-eq_default}
use lib.Seq.{get_or-take, get_or-drop}
use Rattle.wire.specs.Wire.{byte}
use Rattle.text.specs.Text.{joined}
use Rattle.text.proofs.Each.{Each, none, more, append}
use Rattle.text.proofs.Fields.{Fed}
use Rattle.ring.specs.Ring.{slots_of, count_kept, count_in, found}
use Rattle.log_fields.specs.declared.Form.{Form}
use Rattle.log_lines.proofs.Longest.{line-short}
use Rattle.log_lines.proofs.Plain.{line_fed}
use Rattle.paper_log.specs.declared.Log.{Log}
use Rattle.paper_log.specs.Log.{tail_at}
use Rattle.log_text.specs.LogText.{found_line, lines_up_to, log_lines, log_text, longest}
use Rattle.log_text.proofs.Stores.{line-behind}
use Rattle.std.specs.Prelude.{None, Option, Some}
use Rattle.ring.specs.declared.Record.{Record}

module _ (paper tail : List ℕ) (form : Form) (ring : List ℕ) (size : ℕ) where
  -- a record that is counted is found
  line-there : (n : ℕ) → suc n ≤ count_in ring size → Fed (found_line paper tail form (n + 1) (found ring size (n + 1)))
  unfolding found
  line-there n h =
      rw (ne_eqb (n + 1) 0 (λ e. omega arith), le-ltb (count_in ring size) (n + 1) (omega arith))
      (line_fed paper tail form _ (n + 1))

  up_to_lem : (n : ℕ) → n ≤ count_in ring size → Each Fed (lines_up_to paper tail form ring size n)
  unfolding lines_up_to
  up_to_lem zero h = none
  up_to_lem (suc n) h = append (up_to_lem n (omega arith)) (more (line-there n h) none)

pub log_fed : (log : Log) (paper ring : List ℕ) → Each Fed (log_lines log paper ring)
unfolding log_lines
log_fed log paper ring =
    up_to_lem paper (tail_at paper log.start log.end) log.form ring log.logging.size (count_in ring log.logging.size) (omega arith)

-- a ring of size 0 has no line
pub none_of_0 : (log : Log) (paper ring : List ℕ) → log.logging.size ≡ 0 → log_lines log paper ring ≡ []
unfolding log_lines lines_up_to count_in
none_of_0 log paper ring e = rw e (none (get_or ring 2 0)) where
  none : (count : ℕ) → lines_up_to paper (tail_at paper log.start log.end) log.form ring 0 (count_kept count 0) ≡ []
  none count = rw (le-ltb count 0 (omega arith))

-- ---- how long it is, where all numbers of the paper are bytes

-- every byte is below 256
abbrev pub Small : List ℕ → Type 0
Small s = (i : ℕ) → byte s i < 256

small-part : (paper : List ℕ) (start end : ℕ) → Small paper → Small (tail_at paper start end)
small-part paper start end small i = by (leb start end && leb end (length paper)) where
  cut : (n : ℕ) (s : List ℕ) → Small s → (i : ℕ) → byte (take n s) i < 256
  cut n s small i = at (ltb i n) refl where
    at : (b : Bool) → ltb i n ≡ b → byte (take n s) i < 256
    at true e = subst (λ v. v < 256) (sym (get_or-take n s i 0 (ltb-true i n e))) (small i)
    at false e =
        let past = ltb-false i n e in
        let few = length-take n s in
        subst (λ v. v < 256) (sym (get_or-eq_default (take n s) 0 (omega arith))) (omega arith)

  by : (b : Bool) → byte (cond b (take (end - start) (drop start paper)) []) i < 256
  by true = cut (end - start) (drop start paper) (λ k. subst (λ v. v < 256) (sym (get_or-drop start paper k 0)) (small (start + k))) i
  by false = omega arith

module _ (paper tail : List ℕ) (form : Form) (ring : List ℕ) (size : ℕ) (small : Small tail) where
  found-short : (k : ℕ) → k < 256 → (it : Option Record) → length (found_line paper tail form k it) ≤ 12287
  found-short k h (Some kept) = line-short paper tail form kept k h (small _)
  found-short k h None = omega arith

  short_up_to : (n : ℕ) → n ≤ 20 → length (joined (lines_up_to paper tail form ring size n)) ≤ 12287 * n
  unfolding lines_up_to joined
  short_up_to zero h = omega arith
  short_up_to (suc n) h =
      let line = found_line paper tail form (n + 1) (found ring size (n + 1)) in
      rw (line-behind (lines_up_to paper tail form ring size n) line)
      (omega (
        arith,
        length-append (joined (lines_up_to paper tail form ring size n)) line,
        short_up_to n (omega arith),
        found-short (n + 1) (omega arith) (found ring size (n + 1)),
      ))

at_most : (n most : ℕ) → cond (ltb n most) n most ≤ most
at_most n most = by (ltb n most) refl where
  by : (b : Bool) → ltb n most ≡ b → cond b n most ≤ most
  by true e = let h = ltb-true n most e in omega arith
  by false e = omega arith

few : (count size : ℕ) → count_kept count (slots_of size) ≤ 20
few count size = let h = at_most count (slots_of size) in let k = at_most size 20 in omega arith

pub text-short : (log : Log) (paper ring : List ℕ) → Small paper → length (log_text log paper ring) ≤ longest
unfolding log_lines count_in
text-short log paper ring small =
    let size = log.logging.size in
    let count = few (get_or ring 2 0) size in
    let short =
    short_up_to paper (tail_at paper log.start log.end) log.form ring size (small-part paper log.start log.end small)
    (count_kept (get_or ring 2 0) (slots_of size)) count in
    omega (arith, short, count)
