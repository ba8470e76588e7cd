-- Commands up to the first that fails: what they write, and what the card keeps of them. Assumes nothing.
use Rattle.std.specs.Prelude.{Option, None, Some}
use mathlib.Core.Path.{◌≡◌, refl, sym, ap, ◌∙◌}
use mathlib.Core.List.{List, [], ◌∷◌, ◌++◌, flatten, append_assoc, append-nil}
use mathlib.Core.Bool.{Bool, true, false, ◌&&◌, not, cond}
use Prim.Native.Nat.{ℕ, suc, ◌+◌, ◌%◌, ◌<◌}
use native.Mathlib.Nat.{mod-eq_of_lt, mod-add-mod, mod-lt, add-zero}
use native.Mathlib.Omega.{arith}
use lib.Dec.{lit<}
use lib.ListN.{length}
use Rattle.element.specs.declared.Write.{Write}
use Rattle.put_data.specs.PutData.{writes_of}
use Rattle.marks.specs.declared.Scripts.{Scripts}
use Rattle.script.specs.Script.{count_of, has_failed, has_failed_here, rest_of, kept, done, one_done, one_failed, Tried, behind, tried_next, tried}
use Rattle.marks.proofs.Marks.{Says, kept-says, itself, rest-small, done-says, failed-says}

-- ---- a command is done exactly if the result is "verified", none has failed here, and it is valid; it writes all its elements or none
module _ (scripts : Scripts) (c : List ℕ) where
  pub does : has_failed_here scripts ≡ false → done true scripts c ≡ writes_of c
  unfolding done
  does h = simp (h)

  pub not_verified : done false scripts c ≡ None
  unfolding done
  not_verified = refl

  pub failed-before : (verified : Bool) → has_failed_here scripts ≡ true → done verified scripts c ≡ None
  unfolding done
  failed-before true h = simp (h)
  failed-before false h = refl

  pub only_if : (verified : Bool) (ws : List Write) → done verified scripts c ≡ Some ws → (verified ≡ true) × (has_failed_here scripts ≡ false) × (writes_of c ≡ Some ws)
  unfolding done
  only_if verified ws e = by verified (has_failed_here scripts) e where
    by : (v h : Bool) → cond (v && not h) (writes_of c) None ≡ Some ws → (v ≡ true) × (h ≡ false) × (writes_of c ≡ Some ws)
    by true false k = (refl, refl, k)
    by true true k = let z : ◌≡◌ {A = ℕ} 0 1 = cc in absurd (omega arith)
    by false h k = let z : ◌≡◌ {A = ℕ} 0 1 = cc in absurd (omega arith)

-- ---- no command: nothing changes, whatever the result
abbrev nothing : Scripts → Tried
nothing scripts = record { writes = []; scripts = scripts }

pub no_command : (verified : Bool) (scripts : Scripts) → tried verified [] scripts ≡ nothing scripts
unfolding tried
no_command verified scripts = refl

-- the next one is done: its writes, and the rest; it fails: nothing but the flags
module _ (verified : Bool) (scripts : Scripts) (c : List ℕ) (cs : List (List ℕ)) where
  pub when_done : (ws : List Write) → done verified scripts c ≡ Some ws → tried verified (c ∷ cs) scripts ≡ behind ws (tried verified cs (one_done scripts))
  unfolding tried
  when_done ws e = ap (tried_next (tried verified cs) scripts) e

  pub when_failed_lem : done verified scripts c ≡ None → tried verified (c ∷ cs) scripts ≡ nothing (one_failed scripts)
  unfolding tried
  when_failed_lem e = ap (tried_next (tried verified cs) scripts) e

-- ---- THE FIRST THAT FAILS: so many valid commands, and what each of them writes
pub data Valid : List (List ℕ) → List (List Write) → Type 0 where
  end : Valid [] []
  next : {c : List ℕ} {ws : List Write} {cs : List (List ℕ)} {wss : List (List Write)} → writes_of c ≡ Some ws → Valid cs wss → Valid (c ∷ cs) (ws ∷ wss)

-- all commands are valid, or so many and then one that is not
pub data Parted : List (List ℕ) → Type 0 where
  all : {cs : List (List ℕ)} (wss : List (List Write)) → Valid cs wss → Parted cs
  until : {cs : List (List ℕ)} (front : List (List ℕ)) (wss : List (List Write)) (c : List ℕ) (rest : List (List ℕ))
      → cs ≡ front ++ (c ∷ rest) → Valid front wss → writes_of c ≡ None → Parted cs

pub parted : (cs : List (List ℕ)) → Parted cs
parted [] = all [] end
parted (c ∷ cs) = by (writes_of c) refl (parted cs) where
  by : (ws : Option (List Write)) → writes_of c ≡ ws → Parted cs → Parted (c ∷ cs)
  by None e p = until [] [] c cs refl end e
  by (Some ws) e (all wss v) = all (ws ∷ wss) (next e v)
  by (Some ws) e (until front wss d rest i v f) = until (c ∷ front) (ws ∷ wss) d rest (ap (λ l. c ∷ l) i) (next e v) f

-- n more are done
unfoldable pub many_done : ℕ → Scripts → Scripts
many_done n scripts = kept ((count_of scripts + n) % 16) (has_failed scripts) (has_failed_here scripts) (rest_of scripts)

pub many_says : (n : ℕ) (scripts : Scripts)
    → Says ((count_of scripts + n) % 16) (has_failed scripts) (has_failed_here scripts) (rest_of scripts) (many_done n scripts)
unfolding many_done
many_says n scripts = kept-says _ _ _ _ (rest-small scripts)

one_more_lem : (n : ℕ) (scripts : Scripts) → many_done n (one_done scripts) ≡ many_done (suc n) scripts
unfolding many_done
one_more_lem n scripts =
    let k = count_of scripts in
    let one = done-says scripts in
    let e : k + 1 + n ≡ k + suc n = omega arith in
    let m : ((k + 1) % 16 + n) % 16 ≡ (k + suc n) % 16 = mod-add-mod (k + 1) 16 n ∙ ap (λ x. x % 16) e in
    simp (one.count, one.failed, one.here, one.rest, m)

no_more : (scripts : Scripts) → count_of scripts < 16 → many_done 0 scripts ≡ scripts
unfolding many_done
no_more scripts h =
    let e : (count_of scripts + 0) % 16 ≡ count_of scripts = ap (λ x. x % 16) (add-zero (count_of scripts)) ∙ mod-eq_of_lt h in
    ap (λ k. kept k (has_failed scripts) (has_failed_here scripts) (rest_of scripts)) e ∙ itself scripts

done_below : (scripts : Scripts) → count_of (one_done scripts) < 16
done_below scripts = rw (done-says scripts).count (mod-lt (count_of scripts + 1) (lit< tt))

here_stays : (scripts : Scripts) → has_failed_here scripts ≡ false → has_failed_here (one_done scripts) ≡ false
here_stays scripts h = (done-says scripts).here ∙ h

-- these are done, and then the rest is tried
pub front-done : {front : List (List ℕ)} {wss : List (List Write)} → Valid front wss → (rest : List (List ℕ)) (scripts : Scripts)
    → has_failed_here scripts ≡ false → count_of scripts < 16
    → tried true (front ++ rest) scripts ≡ behind (flatten wss) (tried true rest (many_done (length wss) scripts))
unfolding flatten
front-done end rest scripts h l = ap (tried true rest) (sym (no_more scripts l))
front-done (next {c} {ws} {cs} {wss} e v) rest scripts h l =
    let after = one_done scripts in
    let below : count_of after < 16 = done_below scripts in
    let ih = front-done v rest after (here_stays scripts h) below in
    let many = ap (λ k. behind (flatten wss) (tried true rest k)) (one_more_lem (length wss) scripts) in
    when_done true scripts c (cs ++ rest) ws (does scripts c h ∙ e)
    ∙ ap (behind ws) (ih ∙ many)
    ∙ ap (λ l. record { writes = l; scripts = (tried true rest (many_done (suc (length wss)) scripts)).scripts }) (sym (append_assoc ws (flatten wss) _))

module _ {front : List (List ℕ)} {wss : List (List Write)} (valid : Valid front wss) (scripts : Scripts) (here : has_failed_here scripts ≡ false)
    (below : count_of scripts < 16) where
  -- none fails
  pub all_done_lem : tried true front scripts ≡ record { writes = flatten wss; scripts = many_done (length wss) scripts }
  all_done_lem =
      let after = many_done (length wss) scripts in
      ap (λ cs. tried true cs scripts) (sym (append-nil front))
      ∙ front-done valid [] scripts here below
      ∙ ap (behind (flatten wss)) (no_command true after)
      ∙ ap (λ ws. record { writes = ws; scripts = after }) (append-nil (flatten wss))

  -- one fails: what the others wrote stays, and whatever is behind it is not tried
  pub first-fails : (c : List ℕ) (rest : List (List ℕ)) → writes_of c ≡ None
      → tried true (front ++ (c ∷ rest)) scripts ≡ record { writes = flatten wss; scripts = one_failed (many_done (length wss) scripts) }
  first-fails c rest e =
      let before = many_done (length wss) scripts in
      let not_here = (many_says (length wss) scripts).here ∙ here in
      front-done valid (c ∷ rest) scripts here below
      ∙ ap (behind (flatten wss)) (when_failed_lem true before c rest (does before c not_here ∙ e))
      ∙ ap (λ ws. record { writes = ws; scripts = one_failed before }) (append-nil (flatten wss))

-- the count stays below 16
next-below : (rest : Scripts → Tried) → ((k : Scripts) → count_of k < 16 → count_of (rest k).scripts < 16) → (scripts : Scripts) → count_of scripts < 16
    → (ws : Option (List Write)) → count_of (tried_next rest scripts ws).scripts < 16
next-below rest more scripts h (Some ws) = more (one_done scripts) (done_below scripts)
next-below rest more scripts h None = rw (failed-says scripts).count h

pub count-below : (verified : Bool) (cs : List (List ℕ)) (scripts : Scripts) → count_of scripts < 16 → count_of (tried verified cs scripts).scripts < 16
unfolding tried
count-below verified [] scripts h = h
count-below verified (c ∷ cs) scripts h = next-below (tried verified cs) (count-below verified cs) scripts h (done verified scripts c)
