-- The pair that a replay gives back may be used.
use Rattle.std.proofs.Common.{◌≡◌, Bool, true, false, inl, refl}
use Rattle.paired.specs.lemmas.GivenBack.{given_back}
use Rattle.paired_tests.proofs.walks.finished.Goals as goal

going : (b : Bool) → (b ≡ true → ⊥) → b ≡ false
going true never = absurd (never refl)
going false never = refl

pub returns : goal.returns
returns c =
    let says = c.in_ok-pair.ensures in
    given_back _ _ _ _ refl refl refl (going c.args.walk.is_tracked (λ is. (let failed = says.replay_failed.1 (inl is) in absurd (cc failed)))) c.requires says.back
