use Rattle.std.proofs.Common.{arith}
use Rattle.archives.specs.IndexRecordLaws.{length-index_record}
use Rattle.archives.proofs.prunable.index_record.IndexRecordCodec.encode_size.Goals as goal

pub returns : goal.returns
returns g c =
    let r = c.args.self.now in
    let sized = g.met.K.Key.sized r.key in
    let long = length-index_record g.K.Key.SIZE r.index (g.K.Key.key_bytes r.key) r.offset r.size sized in
    omega (arith, long, g.met.K.Key.small, c.SIZE.ensures)
