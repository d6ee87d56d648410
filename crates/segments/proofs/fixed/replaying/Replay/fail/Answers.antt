use Rattle.std.proofs.Common.{refl}
use Rattle.segments.specs.FixedWalking.{walk_of}
use Rattle.segments.proofs.replay.Advancing.{walk_failed, walks_failed}
use Rattle.segments.proofs.fixed.replaying.Replay.fail.Goals as goal

pub returns : goal.returns
returns g c = record {
  goes = refl;
  walk = walk_failed g.S.Seal.seal_of g.A.CodecFixed.SIZE (walk_of c.args.self.now);
  walks = walks_failed g.S.Seal.seal_of g.A.CodecFixed.SIZE (walk_of c.args.self.now);
}
