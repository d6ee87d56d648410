use Rattle.archives.proofs.machine.Indices.{closed_carries, reopened_carries}
use Rattle.archives.proofs.plain.Machine.step_closed.Goals as goal

pub returns-in-Reopen : goal.returns-in-Reopen
returns-in-Reopen g c = reopened_carries g.K.Key.key_bytes c.args.self.now c.reopen.new.self c.args.command.now c.in-Reopen.is c.reopen.result c.reopen.ensures

pub returns-in_default : goal.returns-in_default
returns-in_default g c = closed_carries g.K.Key.key_bytes c.args.self.now c.requires c.args.command.now c.in_default.not-Reopen
