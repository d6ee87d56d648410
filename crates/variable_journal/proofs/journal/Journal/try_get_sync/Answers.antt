use Rattle.variable_journal.specs.Shown.{config_of, shown}
use Rattle.variable_journal.proofs.TryingLemmas.{tried_there}
use Rattle.variable_journal.proofs.journal.Journal.try_get_sync.Goals as goal

pub returns : goal.returns
returns g c =
    tried_there g.S.Seal.seal_of g.V.Codec.spelling g.V.Codec.accepted g.V.Codec.refusal (config_of c.args.self.now) c.args.section c.args.offset (shown c.args.self.now)
    c.in-Ok.buffer c.in-Ok.buffer.now c.in-Ok.ensures.held c.in-Ok.ensures.guard c.held_frame.result c.held_frame.ensures
