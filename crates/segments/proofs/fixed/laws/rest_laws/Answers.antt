-- Each kind of call, by what its moments tell of the blob.
use Rattle.segments.specs.FixedRemoving.{IsOlder}
use Rattle.segments.specs.FixedResting.{IsDoomedBy, IsNamedBy}
use Rattle.segments.specs.lemmas.FixedRested.{other_keeps, settling_keeps, opening_keeps, bounding_keeps, removing_keeps, cutting_keeps, replaying_keeps}
use Rattle.segments.proofs.fixed.laws.rest_laws.Goals as goal

pub returns-clause-others : goal.returns-clause-others
returns-clause-others g c u key q old new one other begun = other_keeps g.S.Seal.seal_of u q old new begun key one other

pub returns-clause-syncs : goal.returns-clause-syncs
returns-clause-syncs g c j names u q old new always at begun = settling_keeps g.S.Seal.seal_of u q old new begun j (IsNamedBy names) always at

pub returns-clause-opens : goal.returns-clause-opens
returns-clause-opens g c partition most u q old new always begun = opening_keeps g.S.Seal.seal_of u q old new begun partition most always

pub returns-clause-bounds : goal.returns-clause-bounds
returns-clause-bounds g c partition last end u q old new always spares begun =
    bounding_keeps g.S.Seal.seal_of u q old new begun g.A.CodecFixed.SIZE partition last end always spares

pub returns-clause-removes : goal.returns-clause-removes
returns-clause-removes g c j below u q old new always apart begun =
    removing_keeps g.S.Seal.seal_of u q old new begun j.sections (IsDoomedBy j below) IsOlder always apart

pub returns-clause-tails : goal.returns-clause-tails
returns-clause-tails g c j section n u q old new always spares begun = cutting_keeps g.S.Seal.seal_of u q old new begun j section n always spares

pub returns-clause-replays : goal.returns-clause-replays
returns-clause-replays g c w u q old new always nothing begun =
    replaying_keeps g.S.Seal.seal_of u q old new begun g.A.CodecFixed.SIZE w always nothing
