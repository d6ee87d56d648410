use Rattle.std.proofs.Common.{refl}
use Rattle.archives.specs.plain.Machine.{state_of}
use Rattle.archives.proofs.machine.Lemmas.{reopened_whole}
use Rattle.archives.proofs.plain.Machine.reopen.Goals as goal

pub returns : goal.returns
returns g c =
    let m = c.args.self.now in
    let kb = g.K.Key.key_bytes in
    record { done = refl; state = reopened_whole kb m.items_per_section m.floor m.is_open m.items.items (state_of kb c.sync.new.self) c.sync.ensures.state; same = c.sync.ensures.same }
