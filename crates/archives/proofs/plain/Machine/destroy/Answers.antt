use Rattle.std.proofs.Common.{ap, refl, false}
use Rattle.archives.specs.plain.Machine.{state_with}
use Rattle.archives.proofs.plain.Machine.destroy.Goals as goal

pub returns : goal.returns
returns g c = record { done = refl; state = ap (state_with g.K.Key.key_bytes c.args.self.now.items_per_section c.args.self.now.floor false) c.clear.ensures.items; same = refl }
