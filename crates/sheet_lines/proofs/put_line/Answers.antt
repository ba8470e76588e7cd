use borrow.Author.Tests.{eq-eqb, ne_eqb, le-leb, lt-leb}
use Rattle.sheet_lines.specs.SheetLines.{line_at}
use Rattle.sheet_lines.proofs.put_line.Goals as goal

pub returns-then-line-eq0 : goal.returns-then-line-eq0
unfolding line_at
returns-then-line-eq0 c =
    let put = c in
    let one = put in
    simp (eq-eqb _ _ one.if-line-eq0.true) put.put_papers.ensures

pub returns-then-line-le124 : goal.returns-then-line-le124
unfolding line_at
returns-then-line-le124 c =
    let put = c in
    let one = put in
    let two = one in
    simp (le-leb _ _ one.if-line-le124.true, ne_eqb _ _ two.if-line-eq0.false) put.put_profile.ensures

pub returns-then-line-eq125 : goal.returns-then-line-eq125
unfolding line_at
returns-then-line-eq125 c =
    let put = c in
    let one = put in
    let two = one in
    let three = two in
    simp (eq-eqb _ _ one.if-line-eq125.true, lt-leb _ _ two.if-line-le124.false, ne_eqb _ _ three.if-line-eq0.false) put.put_profile_rest.ensures

pub returns-then-line-le144 : goal.returns-then-line-le144
unfolding line_at
returns-then-line-le144 c =
    let put = c in
    let one = put in
    let two = one in
    let three = two in
    let four = three in
    simp (le-leb _ _ one.if-line-le144.true, ne_eqb _ _ two.if-line-eq125.false, lt-leb _ _ three.if-line-le124.false, ne_eqb _ _ four.if-line-eq0.false) put.put_refusal.ensures

pub returns-then-line-eq145 : goal.returns-then-line-eq145
unfolding line_at
returns-then-line-eq145 c =
    let put = c in
    let one = put in
    let two = one in
    let three = two in
    let four = three in
    let five = four in
    simp (eq-eqb _ _ one.if-line-eq145.true, lt-leb _ _ two.if-line-le144.false, ne_eqb _ _ three.if-line-eq125.false, lt-leb _ _ four.if-line-le124.false, ne_eqb _ _ five.if-line-eq0.false)
    put.put_refusal_rest.ensures

pub returns : goal.returns
unfolding line_at
returns c =
    let put = c in
    let one = put in
    let two = one in
    let three = two in
    let four = three in
    let five = four in
    simp (ne_eqb _ _ one.if-line-eq145.false, lt-leb _ _ two.if-line-le144.false, ne_eqb _ _ three.if-line-eq125.false, lt-leb _ _ four.if-line-le124.false, ne_eqb _ _ five.if-line-eq0.false)
    put.put_currency.ensures
