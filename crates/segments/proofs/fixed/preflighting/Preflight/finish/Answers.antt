use Rattle.segments.specs.FixedFloors.{journal_of}
use Rattle.segments.proofs.checkpoint.Restored.{gives_same, finishes_some}
use Rattle.segments.proofs.fixed.preflighting.Preflight.finish.Goals as goal

pub returns-in-None : goal.returns-in-None
returns-in-None g c = gives_same _ _ g.S.Seal.seal_of g.A.CodecFixed.SIZE g.D.Device (journal_of c.args.self) c.args.dev.now c.args.self.target c.in-None.is

pub returns : goal.returns
returns g c = finishes_some _ _ g.S.Seal.seal_of g.A.CodecFixed.SIZE g.D.Device (journal_of c.args.self) _ c.args.dev.now c.restored.new.dev c.in-Some.target c.args.self.target c.in-Some.is c.restored.ensures

pub restored-requires : goal.restored-requires
restored-requires g c = c.requires c.in-Some.target c.in-Some.is
