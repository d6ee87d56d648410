use Rattle.std.proofs.Common.{inl, inr, arith}
use Rattle.paired.proofs.SortLemmas.{each_ok, ok_has}
use Rattle.paired.proofs.oversized.replaying.Replay.is_good.Goals as goal

pub returns-clause-good : goal.returns-clause-good
returns-clause-good g c t =
    each_ok c.verify.result _ (λ r is.
    let sealed = ok_has c.verify.result _ r is (c.verify.ensures.sound t) in (
      λ so. inr (sealed.0 so),
      λ why. elim why [
        | inl low ↦ absurd (omega (arith, low, c.if-position-marker.false, c.marker.ensures))
        | inr sound ↦ sealed.1 sound
      ],
    ))
