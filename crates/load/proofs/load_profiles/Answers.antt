use borrow.Author.Rules.{rules}
use Rattle.layout.specs.Layout.{profile_place}
use Rattle.load.specs.Load.{profiles_words, profile_words}
use Rattle.load_parts.proofs.Sizes.{profile-size}
use Rattle.load_parts.proofs.Stores.{four-rows}
use Rattle.load.proofs.load_profiles.Goals as goal

pub returns : goal.returns
unfolding profiles_words
returns c =
    let third = c in
    let second = third in
    let first = second in
    let a = first.args in
    let s = a.s.now in
    four-rows a.words.now 27 34 (λ i. profile_words s (profile_place s i)) (λ i. profile-size s (profile_place s i))
    first.load_profile.ensures
    second.load_profile-2.ensures
    third.load_profile-3.ensures
    c.load_profile-4.ensures
