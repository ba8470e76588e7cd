use borrow.Author.Rules.{rules}
use Rattle.layout.specs.Layout.{conversion_place}
use Rattle.load_parts.specs.LoadParts.{rates_words, rate_words}
use Rattle.load_parts.proofs.Sizes.{rate-size}
use Rattle.load_parts.proofs.Stores.{five-rows}
use Rattle.load_parts.proofs.load_rates.Goals as goal

pub returns : goal.returns
unfolding rates_words
returns c =
    let fourth = c in
    let third = fourth in
    let second = third in
    let first = second in
    let a = first.args in
    let s = a.s.now in
    five-rows a.words.now 7 4 (λ i. rate_words s (conversion_place s i)) (λ i. rate-size s (conversion_place s i)) first.load_rate.ensures
    second.load_rate-2.ensures
    third.load_rate-3.ensures
    fourth.load_rate-4.ensures
    c.load_rate-5.ensures
