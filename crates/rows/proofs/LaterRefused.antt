-- A body of version 04, 05 or 06 of which one of the causes holds has the number 1. Assumes nothing.
use mathlib.Core.Path.{◌≡◌, refl, sym, ap, subst, ◌∙◌}
use mathlib.Core.Bool.{Bool, true, false, cond}
use mathlib.Core.List.{List, [], ◌∷◌, ◌++◌}
use Prim.Native.Nat.{ℕ, zero, suc, ◌+◌, ◌*◌, ◌≤◌, ◌<◌}
use native.Mathlib.Nat.{add-zero}
use native.Mathlib.Omega.{arith}
use borrow.Author.Tests.{lt-ltb, ltb-true, ltb-false, le-leb, lt-leb, leb-false, eqb-true, eqb-false, ne_eqb}
use lib.Dec.{leb, ltb, eqb}
use lib.ListN.{length, take, drop, length-append, length-drop, take-append-drop, get_or-eq_default}
use lib.Seq.{get_or-take, get_or-drop, drop-drop}
use Rattle.wire.specs.Wire.{byte}
use Rattle.shape.specs.declared.Family.TheVariants.{Cpa, Cpace}
use Rattle.shape.specs.declared.Shape.{Shape}
use Rattle.shape.specs.Shape.{based, base_tail, entries_end, file_end, selection_tail, follows, syllabus_tail, dates, dates_end, dating_tail}
use Rattle.shape.specs.Shape.{families, family_end, family_tail, scripts, scripting_tail, logs, log_end, logging_tail, behind, tails_of, whole, shape_of, shape_number}
use Rattle.shape.proofs.Files.{first_entry_lem}
use Rattle.shape.proofs.Inside.{not_before}
use Rattle.rows.specs.Tails.{Choosing, choosing_bytes, base_length, Base, dates_at, CutFile, cut-here, cut_below, NoChoosing, no_choice, choice-above, no_count, cut-file}
use Rattle.rows.specs.Tails.{table_long, log_long, BadLog, no_log, log-above, behind-unlogged, log_length}
use Rattle.rows.specs.Tails.{BadScripts, behind-family, no_scripts, scripts-above, behind-scripts, bad_log}
use Rattle.rows.specs.Tails.{BadEnd, behind-dates, no_family, family-above, behind-cpa, cpace-short, behind-cpace}
use Rattle.rows.specs.Tails.{BadDates, nothing-behind, follows-above, no_dated, dated-above, behind-undated, dated-short, behind-dated}
use Rattle.rows.specs.Tails.{BadTail, other_length, choosing, no_syllabus, syllabus-above, between, no_choosing, behind-choosing}
use Rattle.rows.proofs.Entries.{only_one}
use Rattle.rows.proofs.Behind.{byte-kept, base-sized, some_bytes, choosing_end, chosen, selection-read}
use Rattle.rows.proofs.Behind.{syllabus-byte, rest-size, syllabus-read, rest-there, rest-byte}
use Rattle.rows.proofs.Later.{Late, four, five, six, seven, from-four}
use Rattle.std.specs.Prelude.{None, Option, Result, Some}
use Rattle.refusal.specs.declared.Refusal.{Refusal}
use Rattle.shape.specs.Shape.{ended_at}
use Rattle.shape.specs.Shape.{span}
use Rattle.shape.specs.declared.Tails.{Tails}

module _ (body : List ℕ) where
  -- entries that are cut short end past the body
  past_end : (n at : ℕ) {file : List ℕ} → CutFile file n → file ≡ drop at body → at ≤ length body → length body < entries_end body at n
  past_end zero at {file} cut e l = elim cut [ ]
  past_end (suc n) at {file} (cut-here h) e l =
      let here : byte file 0 ≡ byte body at = ap (λ (t : List ℕ). byte t 0) e ∙ get_or-drop at body 0 0 ∙ ap (byte body) (add-zero at) in
      let size : length file ≡ length (drop at body) = ap length e in
      omega (arith, first_entry_lem body at n, not_before body (at + 1 + byte body at) n, length-drop at body)
  past_end (suc n) at {file} (cut_below h r) e l =
      let here : byte file 0 ≡ byte body at = ap (λ (t : List ℕ). byte t 0) e ∙ get_or-drop at body 0 0 ∙ ap (byte body) (add-zero at) in
      let size : length file ≡ length (drop at body) = ap length e in
      let next : at + (byte file 0 + 1) ≡ at + 1 + byte body at = omega arith in
      let more : drop (byte file 0 + 1) file ≡ drop (at + 1 + byte body at) body =
      ap (drop (byte file 0 + 1)) e ∙ drop-drop (byte file 0 + 1) at body ∙ ap (λ n. drop n body) next in
      rw (first_entry_lem body at n) (past_end n (at + 1 + byte body at) r more (omega (arith, length-drop at body)))

  -- a byte that is not 0 is there
  there : (at : ℕ) → 1 ≤ byte body at → at < length body
  there at h = by (ltb at (length body)) refl where
    by : (b : Bool) → ltb at (length body) ≡ b → at < length body
    by true e = ltb-true at (length body) e
    by false e = let none : byte body at ≡ 0 = get_or-eq_default body 0 (ltb-false at (length body) e) in absurd (omega arith)

  module _ (at : ℕ) (shape : Shape) (whole-base : at ≤ length body) where
    behind-byte : (k : ℕ) → byte (drop at body) k ≡ byte body (at + k)
    behind-byte k = get_or-drop at body k 0

    switch : byte (drop at body) 0 ≡ byte body at
    switch = behind-byte 0 ∙ ap (byte body) (add-zero at)

    not_chosen : NoChoosing (drop at body) → selection_tail body shape at ≡ None
    unfolding selection_tail
    not_chosen (no_choice h) = rw (le-leb (length body) at (omega (arith, length-drop at body)))
    not_chosen (choice-above h) =
        let e = switch in
        let t = there at (omega arith) in
        rw (lt-leb (length body) at t, ne_eqb (byte body at) 0 (λ z. omega arith), lt-ltb 1 (byte body at) (omega arith))
    not_chosen (no_count o h) =
        let size = length-drop at body in
        let e : byte body at ≡ 1 = sym switch ∙ o in
        rw (
          e,
          lt-leb (length body) at (omega arith),
          lt-ltb (length body) (file_end body at) (omega (arith, not_before body (at + 2) (byte body (at + 1)))),
        )
    not_chosen (cut-file o more cut) =
        let size = length-drop at body in
        let e : byte body at ≡ 1 = sym switch ∙ o in
        let cut_at = subst (CutFile (drop 2 (drop at body))) (behind-byte 1) cut in
        rw (
          e,
          lt-leb (length body) at (omega arith),
          lt-ltb (length body) (file_end body at) (past_end (byte body (at + 1)) (at + 2) cut_at (drop-drop 2 at body) (omega arith)),
        )

-- ---- what reads the tails behind the dates, and the end

abbrev closing : {version : ℕ} → Late version → (body : List ℕ) → Option Tails → Result Shape Refusal
closing four body t = whole body t
closing five body t = whole body (behind t (family_tail body))
closing six body t = whole body (behind (behind t (family_tail body)) (scripting_tail body))
closing seven body t = whole body (behind (behind (behind t (family_tail body)) (scripting_tail body)) (logging_tail body))

abbrev number : {version : ℕ} → Late version → (body : List ℕ) → Option Tails → ℕ
number late body t = shape_number (closing late body t)

closed : {version : ℕ} (late : Late version) (body : List ℕ)
    → shape_of version body ≡ closing late body (behind (behind (behind (base_tail body) (selection_tail body)) (syllabus_tail body)) (dating_tail body))
unfolding shape_of tails_of
closed four body = refl
closed five body = refl
closed six body = refl
closed seven body = refl

wrong : {version : ℕ} (late : Late version) (body : List ℕ) → number late body None ≡ 1
wrong four body = refl
wrong five body = refl
wrong six body = refl
wrong seven body = refl

module _ (body : List ℕ) where
  not_ended : (shape : Shape) (at : ℕ) → (at ≡ length body → ⊥) → shape_number (whole body (ended_at shape at)) ≡ 1
  not_ended shape at n = rw (ne_eqb at (length body) n)

  -- a tail with a switch is refused if it is where it is off, and where it is on and whole
  switched_refused : (refused : Option Tails → ℕ) → refused None ≡ 1 → (at : ℕ) (off on : Shape) (end : ℕ)
      → (at < length body → byte body at ≡ 0 → refused (ended_at off (at + 1)) ≡ 1)
      → (at < length body → byte body at ≡ 1 → end ≤ length body → refused (ended_at on end) ≡ 1)
      → refused (cond (leb (length body) at) None (cond (eqb (byte body at) 0) (ended_at off (at + 1))
      (cond (ltb 1 (byte body at)) None (cond (ltb (length body) end) None (ended_at on end)))))
      ≡ 1
  switched_refused refused w at off on end none some =
      by (leb (length body) at) refl (eqb (byte body at) 0) refl (ltb 1 (byte body at)) refl (ltb (length body) end) refl
    where
      by : (short : Bool) → leb (length body) at ≡ short → (clear : Bool) → eqb (byte body at) 0 ≡ clear → (high : Bool) → ltb 1 (byte body at) ≡ high
          → (cut : Bool) → ltb (length body) end ≡ cut
          → refused (cond short None (cond clear (ended_at off (at + 1)) (cond high None (cond cut None (ended_at on end))))) ≡ 1
      by true e clear f high g cut h = w
      by false e true f high g cut h = none (leb-false (length body) at e) (eqb-true (byte body at) 0 f)
      by false e false f true g cut h = w
      by false e false f false g true h = w
      by false e false f false g false h =
          let one = only_one (byte body at) (eqb-false (byte body at) 0 f) (ltb-false 1 (byte body at) g) in
          some (leb-false (length body) at e) one (ltb-false (length body) end h)

  -- what stands from a place on
  module _ (at : ℕ) (rest : List ℕ) (there : drop at body ≡ rest) (within : at ≤ length body) where
    long : length body ≡ at + length rest
    long = omega (arith, ap length there, length-drop at body)

    first_byte : byte rest 0 ≡ byte body at
    first_byte = ap (λ (t : List ℕ). byte t 0) (sym there) ∙ get_or-drop at body 0 0 ∙ ap (byte body) (add-zero at)

  -- what stands behind the byte of scripts
  log-refused : (at : ℕ) (rest : List ℕ) → drop at body ≡ rest → at ≤ length body → (shape : Shape) → BadLog (byte body 3) rest
      → shape_number (whole body (logging_tail body shape at)) ≡ 1
  unfolding logging_tail
  log-refused at rest there within shape bad =
      switched_refused (λ t. shape_number (whole body t)) refl at shape (logs shape (Some (span at (log_end body at)))) (log_end body at)
      (λ l z. not_ended shape (at + 1) (off bad l z)) (λ l o h. not_ended _ (log_end body at) (on bad l o))
    where
      off : BadLog (byte body 3) rest → at < length body → byte body at ≡ 0 → at + 1 ≡ length body → ⊥
      off (no_log h) l z e = omega (arith, long at rest there within)
      off (log-above h) l z e = omega (arith, first_byte at rest there within)
      off (behind-unlogged o h) l z e = omega (arith, long at rest there within)
      off (log_length o h) l z e = omega (arith, first_byte at rest there within)

      there-byte : (i : ℕ) → byte body (at + i) ≡ byte rest i
      there-byte i = sym (get_or-drop at body i 0) ∙ ap (λ (t : List ℕ). byte t i) there

      ends : log_end body at ≡ at + log_long (byte body 3) rest
      ends =
          let p = byte body 3 in
          let one : at + 3 + p ≡ at + (3 + p) = omega arith in
          let n : byte body (at + 3 + p) ≡ byte rest (3 + p) = ap (byte body) one ∙ there-byte (3 + p) in
          let two : at + 3 + p + 1 + 3 * byte body (at + 3 + p) ≡ at + (3 + p + table_long rest (3 + p)) = omega arith in
          let m : byte body (at + 3 + p + 1 + 3 * byte body (at + 3 + p)) ≡ byte rest (3 + p + table_long rest (3 + p)) =
          ap (byte body) two ∙ there-byte (3 + p + table_long rest (3 + p)) in
          omega arith

      on : BadLog (byte body 3) rest → at < length body → byte body at ≡ 1 → log_end body at ≡ length body → ⊥
      on (no_log h) l o e = omega (arith, long at rest there within)
      on (log-above h) l o e = omega (arith, first_byte at rest there within)
      on (behind-unlogged z h) l o e = omega (arith, first_byte at rest there within)
      on (log_length z h) l o e = h (omega (arith, ends, long at rest there within))

  -- what stands behind the family, where the byte of scripts is followed by what is refused
  byte-refused : (version : ℕ) → 6 ≤ version → (refused : Option Tails → ℕ) → refused None ≡ 1 → (at : ℕ) (rest : List ℕ) → drop at body ≡ rest
      → at ≤ length body → (shape : Shape) → BadScripts version (byte body 3) rest
      → ((shape : Shape) → at < length body → BadScripts version (byte body 3) rest → byte body at ≤ 1 → refused (ended_at shape (at + 1)) ≡ 1)
      → refused (scripting_tail body shape at) ≡ 1
  unfolding scripting_tail
  byte-refused version later refused w at rest there within shape bad end = by (leb (length body) at) refl (ltb 1 (byte body at)) refl where
    by : (short : Bool) → leb (length body) at ≡ short → (high : Bool) → ltb 1 (byte body at) ≡ high
        → refused (cond short None (cond high None (ended_at (scripts shape (eqb (byte body at) 1)) (at + 1)))) ≡ 1
    by true e high f = w
    by false e true f = w
    by false e false f = end _ (leb-false (length body) at e) bad (ltb-false 1 (byte body at) f)

  scripts-refused : (at : ℕ) (rest : List ℕ) → drop at body ≡ rest → at ≤ length body → (shape : Shape) → BadScripts 6 (byte body 3) rest
      → shape_number (whole body (scripting_tail body shape at)) ≡ 1
  scripts-refused at rest there within shape bad =
      byte-refused 6 (omega arith) (λ t. shape_number (whole body t)) refl at rest there within shape bad
      (λ s l b low. not_ended s (at + 1) (more b l low))
    where
      more : BadScripts 6 (byte body 3) rest → at < length body → byte body at ≤ 1 → at + 1 ≡ length body → ⊥
      more (behind-family v h) l low e = omega arith
      more (no_scripts v h) l low e = omega (arith, long at rest there within)
      more (scripts-above v h) l low e = omega (arith, first_byte at rest there within)
      more (behind-scripts v h) l low e = omega (arith, long at rest there within)
      more (bad_log v h) l low e = omega arith

  logged-refused : (at : ℕ) (rest : List ℕ) → drop at body ≡ rest → at ≤ length body → (shape : Shape) → BadScripts 7 (byte body 3) rest
      → shape_number (whole body (behind (scripting_tail body shape at) (logging_tail body))) ≡ 1
  logged-refused at rest there within shape bad =
      byte-refused 7 (omega arith) (λ t. shape_number (whole body (behind t (logging_tail body)))) refl at rest there within shape bad more
    where
      more : (s : Shape) → at < length body → BadScripts 7 (byte body 3) rest → byte body at ≤ 1
          → shape_number (whole body (logging_tail body s (at + 1))) ≡ 1
      more s l (behind-family v h) low = absurd (omega arith)
      more s l (no_scripts v h) low = absurd (omega (arith, long at rest there within))
      more s l (scripts-above v h) low = absurd (omega (arith, first_byte at rest there within))
      more s l (behind-scripts v h) low = absurd (omega arith)
      more s l (bad_log v h) low =
          let one : drop (at + 1) body ≡ drop 1 rest = sym (drop-drop 1 at body) ∙ ap (drop 1) there in
          log-refused (at + 1) (drop 1 rest) one (omega arith) s h

  nothing-refused : (at : ℕ) (rest : List ℕ) → drop at body ≡ rest → at ≤ length body → (shape : Shape) → BadScripts 5 (byte body 3) rest
      → shape_number (whole body (ended_at shape at)) ≡ 1
  nothing-refused at rest there within shape (behind-family v h) = not_ended shape at (λ e. omega (arith, long at rest there within))
  nothing-refused at rest there within shape (no_scripts v h) = absurd (omega arith)
  nothing-refused at rest there within shape (scripts-above v h) = absurd (omega arith)
  nothing-refused at rest there within shape (behind-scripts v h) = absurd (omega arith)
  nothing-refused at rest there within shape (bad_log v h) = absurd (omega arith)

  -- what stands behind the dates
  module _ (at : ℕ) (rest : List ℕ) (there : drop at body ≡ rest) (within : at ≤ length body) where
    -- the family is refused where what stands behind it is
    module _ (version : ℕ) (later : 5 ≤ version) (refused : Option Tails → ℕ) (w : refused None ≡ 1)
        (end : (at : ℕ) (rest : List ℕ) → drop at body ≡ rest → at ≤ length body → (shape : Shape) → BadScripts version (byte body 3) rest
        → refused (ended_at shape at) ≡ 1) where
      rest-refused : (n : ℕ) → at + n ≤ length body → (shape : Shape) → BadScripts version (byte body 3) (drop n rest) → refused (ended_at shape (at + n)) ≡ 1
      rest-refused n h shape bad = end (at + n) (drop n rest) (sym (drop-drop n at body) ∙ ap (drop n) there) h shape bad

      when_cpa : (shape : Shape) → BadEnd version (byte body 3) rest → at < length body → byte body at ≡ 0 → refused (ended_at shape (at + 1)) ≡ 1
      when_cpa shape (behind-dates v h) l z = absurd (omega arith)
      when_cpa shape (no_family v h) l z = absurd (omega (arith, long at rest there within))
      when_cpa shape (family-above v h) l z = absurd (omega (arith, first_byte at rest there within))
      when_cpa shape (behind-cpa v o bad) l z = rest-refused 1 (omega arith) shape bad
      when_cpa shape (cpace-short v o h) l z = absurd (omega (arith, first_byte at rest there within))
      when_cpa shape (behind-cpace v o bad) l z = absurd (omega (arith, first_byte at rest there within))

      when_cpace : (shape : Shape) → BadEnd version (byte body 3) rest → at < length body → byte body at ≡ 1 → family_end body at ≤ length body
          → refused (ended_at shape (family_end body at)) ≡ 1
      when_cpace shape (behind-dates v h) l o e = absurd (omega arith)
      when_cpace shape (no_family v h) l o e = absurd (omega (arith, long at rest there within))
      when_cpace shape (family-above v h) l o e = absurd (omega (arith, first_byte at rest there within))
      when_cpace shape (behind-cpa v z bad) l o e = absurd (omega (arith, first_byte at rest there within))
      when_cpace shape (cpace-short v z h) l o e = absurd (omega (arith, long at rest there within))
      when_cpace shape (behind-cpace v z bad) l o e = rest-refused (9 + byte body 3) e shape bad

      family-refused : (shape : Shape) → BadEnd version (byte body 3) rest → refused (family_tail body shape at) ≡ 1
      unfolding family_tail
      family-refused shape bad =
          let cpace = families shape (Cpace at (family_end body at)) in
          switched_refused refused w at (families shape Cpa) cpace (family_end body at) (when_cpa (families shape Cpa) bad) (when_cpace cpace bad)

    end_refused : {version : ℕ} (late : Late version) (shape : Shape) → BadEnd version (byte body 3) rest → number late body (ended_at shape at) ≡ 1
    end_refused four shape (behind-dates v h) = not_ended shape at (λ e. omega (arith, long at rest there within))
    end_refused four shape (no_family v h) = absurd (omega arith)
    end_refused four shape (family-above v h) = absurd (omega arith)
    end_refused four shape (behind-cpa v o h) = absurd (omega arith)
    end_refused four shape (cpace-short v o h) = absurd (omega arith)
    end_refused four shape (behind-cpace v o h) = absurd (omega arith)
    end_refused five shape bad = family-refused 5 (omega arith) (λ t. shape_number (whole body t)) refl nothing-refused shape bad
    end_refused six shape bad = family-refused 6 (omega arith) (λ t. shape_number (whole body (behind t (scripting_tail body)))) refl scripts-refused shape bad
    end_refused seven shape bad =
        family-refused 7 (omega arith) (λ t. shape_number (whole body (behind (behind t (scripting_tail body)) (logging_tail body)))) refl logged-refused shape bad

  -- no selection behind the base
  no_selection : {version : ℕ} → Late version → NoChoosing (drop (base_length body) body) → shape_number (shape_of version body) ≡ 1
  unfolding base_tail
  no_selection late bad =
      ap shape_number (closed late body)
      ∙ ap (λ (t : Option Tails). number late body (behind (behind t (syllabus_tail body)) (dating_tail body))) (by (ltb (length body) (base_length body)) refl)
      ∙ wrong late body
    where
      by : (b : Bool) → ltb (length body) (base_length body) ≡ b
          → behind (cond b None (ended_at (based (base_length body)) (base_length body))) (selection_tail body) ≡ None
      by true e = refl
      by false e = not_chosen body (base_length body) (based (base_length body)) (ltb-false (length body) (base_length body) e) bad

-- ---- what stands behind a selection

module _ {version : ℕ} (late : Late version) (base : List ℕ) (sized : Base base) (c : Choosing) where
  module _ (y : ℕ) (low : y ≤ 1) (rest : List ℕ) (shape : Shape) where
    abbrev body : List ℕ
    body = base ++ (choosing_bytes c ++ y ∷ rest)

    abbrev at : ℕ
    at = dates_at base c

    size : length body ≡ at + length rest
    size = rest-size base c y rest

    dated-byte : byte body at ≡ byte rest 0
    dated-byte = ap (byte body) (sym (add-zero at)) ∙ rest-byte base c y rest 0

    profiles : byte body 3 ≡ byte base 3
    profiles = byte-kept base sized (choosing_bytes c ++ y ∷ rest) 3 (omega arith)

    -- so many bytes on
    rest_from : (n : ℕ) → drop (at + n) body ≡ drop n rest
    rest_from n = sym (drop-drop n at body) ∙ ap (drop n) (rest-there base c y rest)

    end-there : (n : ℕ) → at + n ≤ length body → (sh : Shape) → BadEnd version (byte base 3) (drop n rest) → number late body (ended_at sh (at + n)) ≡ 1
    end-there n h sh bad = end_refused body (at + n) (drop n rest) (rest_from n) h late sh (subst (λ p. BadEnd version p (drop n rest)) (sym profiles) bad)

    when_off : BadDates version (byte base 3) (y ∷ rest) → at < length body → byte body at ≡ 0 → number late body (ended_at (dates shape None) (at + 1)) ≡ 1
    when_off (nothing-behind h) l z = absurd (omega arith)
    when_off (follows-above h) l z = absurd (omega arith)
    when_off (no_dated h) l z = absurd (omega (arith, size))
    when_off (dated-above h) l z = absurd (omega (arith, dated-byte))
    when_off (behind-undated o bad) l z = end-there 1 (omega arith) (dates shape None) bad
    when_off (dated-short o h) l z = absurd (omega (arith, dated-byte))
    when_off (behind-dated o bad) l z = absurd (omega (arith, dated-byte))

    when_on : BadDates version (byte base 3) (y ∷ rest) → at < length body → byte body at ≡ 1 → dates_end body at ≤ length body → (sh : Shape)
        → number late body (ended_at sh (dates_end body at)) ≡ 1
    when_on (nothing-behind h) l z e sh = absurd (omega arith)
    when_on (follows-above h) l z e sh = absurd (omega arith)
    when_on (no_dated h) l z e sh = absurd (omega (arith, size))
    when_on (dated-above h) l z e sh = absurd (omega (arith, dated-byte))
    when_on (behind-undated o bad) l z e sh = absurd (omega (arith, dated-byte))
    when_on (dated-short o h) l z e sh = absurd (omega (arith, size, profiles))
    when_on (behind-dated o bad) l z e sh =
        let next : 1 + (28 + 18 * byte base 3) ≡ suc (28 + 18 * byte body 3) = omega (arith, profiles) in
        end-there (28 + 18 * byte body 3) e sh (subst (λ k. BadEnd version (byte base 3) (drop k (y ∷ rest))) next bad)

    dates-refused : BadDates version (byte base 3) (y ∷ rest) → number late body (dating_tail body shape at) ≡ 1
    unfolding dating_tail
    dates-refused bad =
        switched_refused body (number late body) (wrong late body) at (dates shape None) (dates shape (Some (span at (dates_end body at)))) (dates_end body at)
        (when_off bad)
        (λ l o e. when_on bad l o e (dates shape (Some (span at (dates_end body at)))))

  by-syllabus : (rest : List ℕ) (t : Option Tails) → syllabus_tail (base ++ (choosing_bytes c ++ rest)) (chosen base c) (choosing_end base c) ≡ t
      → number late (base ++ (choosing_bytes c ++ rest)) (behind t (dating_tail (base ++ (choosing_bytes c ++ rest)))) ≡ 1
      → shape_number (shape_of version (base ++ (choosing_bytes c ++ rest))) ≡ 1
  by-syllabus rest t e f =
      let body = base ++ (choosing_bytes c ++ rest) in
      ap shape_number (closed late body)
      ∙ ap (λ (u : Option Tails). number late body (behind (behind u (syllabus_tail body)) (dating_tail body))) (selection-read base sized c rest)
      ∙ ap (λ (u : Option Tails). number late body (behind u (dating_tail body))) e
      ∙ f

  behind-refused : (rest : List ℕ) → BadDates version (byte base 3) rest → shape_number (shape_of version (base ++ (choosing_bytes c ++ rest))) ≡ 1
  unfolding syllabus_tail
  behind-refused [] bad =
      let body = base ++ (choosing_bytes c ++ []) in
      let size : length body ≤ choosing_end base c = omega (arith, length-append base (choosing_bytes c ++ []), length-append (choosing_bytes c) []) in
      by-syllabus [] None (rw (le-leb (length body) (choosing_end base c) size)) (wrong late body)
  behind-refused (y ∷ rest) bad = by (ltb 1 y) refl where
    by : (high : Bool) → ltb 1 y ≡ high → shape_number (shape_of version (base ++ (choosing_bytes c ++ y ∷ rest))) ≡ 1
    by true e =
        let body = base ++ (choosing_bytes c ++ y ∷ rest) in
        by-syllabus (y ∷ rest) None
        (rw (lt-leb (length body) (choosing_end base c) (omega (arith, rest-size base c y rest)), syllabus-byte base c y rest, e)) (wrong late body)
    by false e =
        let low = ltb-false 1 y e in
        by-syllabus (y ∷ rest) (ended_at (follows (chosen base c) y) (dates_at base c)) (syllabus-read base c y rest low (chosen base c))
        (dates-refused y low rest (follows (chosen base c) y) bad)

-- THE STATEMENT
pub late-refused : {version : ℕ} → Late version → (body : List ℕ) → BadTail version body → shape_number (shape_of version body) ≡ 1
late-refused late body (other_length v n) = absurd (omega (arith, from-four late))
late-refused late body (choosing v b) = absurd (omega (arith, from-four late))
late-refused late body (no_syllabus v l) = absurd (omega (arith, from-four late))
late-refused late body (syllabus-above v l) = absurd (omega (arith, from-four late))
late-refused late body (between v b) = absurd (omega (arith, from-four late))
late-refused late body (no_choosing v b) = no_selection body late b
late-refused {version} late body (behind-choosing v c tail e b) =
    let base = take (base_length body) body in
    let long = length-append (choosing_bytes c) tail in
    let more : base_length body ≤ length body = omega (arith, some_bytes c, ap length e, length-drop (base_length body) body) in
    let p : byte base 3 ≡ byte body 3 = get_or-take (base_length body) body 3 0 (omega arith) in
    let is : base ++ (choosing_bytes c ++ tail) ≡ body = ap (λ (t : List ℕ). base ++ t) (sym e) ∙ take-append-drop (base_length body) body in
    subst (λ (t : List ℕ). shape_number (shape_of version t) ≡ 1) is
    (behind-refused late base (base-sized body more) c tail (subst (λ n. BadDates version n tail) (sym p) b))
