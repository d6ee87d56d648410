use Rattle.std.proofs.Common.{refl}
use Rattle.blob_device.specs.Timeline.{disk}
use Rattle.paired.specs.PairShown.{shown}
use Rattle.paired.specs.lemmas.pair.Reads.{leaves_now}
use Rattle.paired.proofs.oversized.Oversized.crash_laws.Goals as goal

pub returns : goal.returns
returns g c t sound =
    leaves_now (shown g.I.Record.place c.args.self.now) (g.D.Device.opened c.args._dev.now) (disk (g.D.Device.time c.args._dev.now)) g.met.I.CodecFixed.fixed.at_least refl refl refl refl
    (λ s v held. λ i. (c.requires.index.over.opened_list.setting s v held i).page_size) c.requires t sound
