use Rattle.std.proofs.Common.{refl}
use Rattle.segments.specs.FixedWalking.{walk_of}
use Rattle.segments.proofs.replay.Advancing.{walk_left, walks_left}
use Rattle.segments.proofs.fixed.replaying.Replay.leave.Goals as goal

pub returns : goal.returns
returns g c = record {
  goes = refl;
  walk = walk_left g.S.Seal.seal_of g.A.CodecFixed.SIZE (walk_of c.args.self.now);
  walks = walks_left g.S.Seal.seal_of g.A.CodecFixed.SIZE (walk_of c.args.self.now);
}
