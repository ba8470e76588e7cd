-- What is read from an answer's line is what was answered. Assumes nothing.
use mathlib.Core.Path.{◌≡◌, refl, sym, ap, subst, ◌∙◌}
use mathlib.Core.List.{List, [], ◌∷◌, ◌++◌}
use Prim.Native.Nat.{ℕ, zero, suc, ◌%◌, ◌≤◌, ◌<◌}
use native.Mathlib.Omega.{arith}
use borrow.Author.Tests.{le-ltb, ne_eqb}
use lib.ListN.{length}
use Rattle.refusal.specs.Refusal.{refusal_number}
use Rattle.iad.specs.declared.Iad.{Iad}
use Rattle.iad.specs.Iad.{written}
use Rattle.state.specs.declared.Kind.{Kind}
use Rattle.state.specs.declared.Kind.TheVariants.{Aac, Tc, Arqc}
use Rattle.state.specs.declared.Answer.{Answer}
use Rattle.state.specs.declared.Answer.TheVariants.{Refused, Started, Given, Done}
use Rattle.state.specs.State.{cid_of}
use Rattle.journal.specs.Logged.{cryptogram}
use Rattle.hex_digits.specs.Hex.{hex_byte, hex}
use Rattle.lines.specs.Lines.{decimal, refusal_line, start_line, selected_line, cryptogram_line}
use Rattle.lines.specs.Sitting.{answer_line}
use Rattle.text.proofs.Each.{Each, none, more}
use Rattle.text.proofs.Fields.{Plain}
use Rattle.hex_digits.proofs.Bytes.{hex-plain}
use Rattle.lines.proofs.Fields.{decimal-plain}
use Rattle.hex_digits.proofs.Bytes as Hex
use Rattle.readback.specs.WellFormed.{Writable, OfBytes, LaidOut}
use Rattle.readback.proofs.Leaves.{zeros, laid_out, filled}
use Rattle.readback.proofs.Octets.{octets}
use Rattle.replies.specs.Replies.{place_of, before, behind, pair_at, decimal_in, kind_in, cvr_in, given_in, reply_in}
use Rattle.reply_laws.specs.Heard.{heard_reply, Legible}
use Rattle.reply_laws.proofs.Words.{said, last-said, last_word, more-said, first_word, other-words}
use Rattle.reply_laws.proofs.Numbers.{decimal-read, pair_read, cvr_read}
use Rattle.std.specs.Prelude.{None, Some}

-- ---- a line of fewer than five words tells of no cryptogram

-- behind so many words
abbrev past : ℕ → List ℕ → List ℕ
past zero text = text
past (suc n) text = past n (behind 32 text)

nothing : (n : ℕ) → past n [] ≡ []
unfolding behind place_of
nothing zero = refl
nothing (suc n) = nothing n

few : (n : ℕ) (rest f : List ℕ) (fs : List (List ℕ)) → Each Plain (f ∷ fs) → length fs < n → past n (said rest f fs) ≡ []
few zero rest f fs p h = absurd (omega arith)
few (suc n) rest f [] (more p r) h = ap (past n) (last_word rest p) ∙ nothing n
few (suc n) rest f (g ∷ fs) (more p r) h = ap (past n) (other-words rest p g fs) ∙ few n rest g fs r (omega arith)

pub told_none : (rest f : List ℕ) (fs : List (List ℕ)) → Each Plain (f ∷ fs) → length fs < 4 → reply_in (said rest f fs) ≡ None
unfolding reply_in
told_none rest f fs p h = rw (few 4 rest f fs p h)

module _ (number : ℕ) (rest : List ℕ) where
  pub refusal_none : (refusal : ℕ) → reply_in (before 10 (refusal_line number refusal ++ rest)) ≡ None
  unfolding refusal_line
  refusal_none refusal = told_none rest _ _ (more (decimal-plain number) (more (decimal-plain refusal) none)) (omega arith)

  pub start_none : (atc : ℕ) → reply_in (before 10 (start_line number atc ++ rest)) ≡ None
  unfolding start_line
  start_none atc = told_none rest _ _ (more (decimal-plain number) (more (decimal-plain 0) (more (decimal-plain atc) none))) (omega arith)

  pub selected_none : (atc visits : ℕ) → reply_in (before 10 (selected_line number atc visits ++ rest)) ≡ None
  unfolding selected_line
  selected_none atc visits =
      told_none rest _ _ (more (decimal-plain number) (more (decimal-plain 0) (more (decimal-plain atc) (more (decimal-plain visits) none)))) (omega arith)

-- ---- a cryptogram's line tells it

reply_in_lem : (line : List ℕ) {cid atc iad : List ℕ} → behind 32 (behind 32 line) ≡ cid → behind 32 cid ≡ atc → behind 32 atc ≡ iad
    → reply_in line ≡ given_in cid atc iad
unfolding reply_in
reply_in_lem line e f g = rw (e, f, g)

given_in_lem : (cid at iad : List ℕ) {kind : Kind} {atc profile cvr : ℕ} → kind_in cid ≡ kind → decimal_in (before 32 at) ≡ atc
    → 64 ≤ length iad → pair_at iad 34 % 256 ≡ profile → cvr_in iad ≡ cvr
    → given_in cid at iad ≡ Some (record { kind = kind; atc = atc; profile = profile; cvr = cvr })
given_in_lem cid at iad k a long p c = rw (le-ltb (length iad) 64 long, k, a, p, c)

kind-read : (kind : Kind) (s : List ℕ) → kind_in (hex_byte (cid_of kind) ++ s) ≡ kind
kind-read Aac s = refl
kind-read Tc s = refl
kind-read Arqc s = refl

cid_plain : (cid : ℕ) → Plain (hex_byte cid)
unfolding hex
cid_plain cid = hex-plain (cid ∷ [])

pub lies : (iad : Iad) → Writable iad → LaidOut iad (written iad zeros)
lies iad w = let front = (laid_out iad zeros w (omega arith)).front in subst (LaidOut iad) (sym (filled iad _ w front)) front

pub told-given : (number : ℕ) (kind : Kind) (atc : ℕ) (iad : Iad) → atc < 100_000 → Writable iad → OfBytes iad → (rest : List ℕ)
    → reply_in (before 10 (cryptogram_line number (cid_of kind) atc iad ++ rest)) ≡ Some (cryptogram kind atc iad)
unfolding cryptogram_line cryptogram
told-given number kind atc iad small w o rest =
    let cid = hex_byte (cid_of kind) in
    let s = written iad zeros in
    let laid = lies iad w in
    let bytes = octets iad s w o laid in
    let line = said rest (decimal number) (decimal 0 ∷ cid ∷ decimal atc ∷ hex s ∷ []) in
    let from-cid = said rest cid (decimal atc ∷ hex s ∷ []) in
    let from-atc = said rest (decimal atc) (hex s ∷ []) in
    let second = other-words rest (decimal-plain number) (decimal 0) (cid ∷ decimal atc ∷ hex s ∷ []) in
    let third = other-words rest (decimal-plain 0) cid (decimal atc ∷ hex s ∷ []) in
    let fourth = other-words rest (cid_plain (cid_of kind)) (decimal atc) (hex s ∷ []) in
    let fifth = other-words rest (decimal-plain atc) (hex s) [] ∙ last-said rest (hex-plain s) in
    reply_in_lem line (ap (behind 32) second ∙ third) fourth fifth
    ∙ given_in_lem from-cid from-atc (hex s)
    (ap kind_in (more-said rest (cid_plain (cid_of kind)) (decimal atc) (hex s ∷ [])) ∙ kind-read kind (32 ∷ from-atc))
    (ap decimal_in (first_word rest (decimal-plain atc) (hex s) []) ∙ decimal-read atc small)
    (omega (arith, Hex.size s, laid.size))
    (omega (arith, pair_read s bytes 17, laid.profile, w.profile.most))
    (cvr_read iad s laid bytes)

-- ---- EVERY ANSWER IS HEARD FROM ITS LINE, whatever is printed behind it

pub told : (number : ℕ) (answer : Answer) → Legible answer → (rest : List ℕ)
    → reply_in (before 10 (answer_line number answer ++ rest)) ≡ heard_reply answer
unfolding answer_line
told number (Refused refusal) h rest = refusal_none number rest (refusal_number refusal)
told number (Started atc zero) h rest = start_none number rest atc
told number (Started atc (suc visits)) h rest = rw (ne_eqb (suc visits) 0 (λ e. omega arith)) (selected_none number rest atc (suc visits))
told number (Given kind atc iad) h rest = told-given number kind atc iad h.0 h.1 h.2 rest
told number Done h rest = refusal_none number rest 0
