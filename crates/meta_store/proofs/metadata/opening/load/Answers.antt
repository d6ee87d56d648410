use Rattle.std.proofs.Common.{arith}
use Rattle.std.proofs.lemmas.Grind.{common_steps}
use Rattle.meta_store.proofs.Failing.{err_seen}
use Rattle.meta_store.proofs.InitsLemmas.{load_failed, load_short, loaded}
use Rattle.meta_store.proofs.metadata.opening.load.Goals as goal

pub returns-in_err-bytes : goal.returns-in_err-bytes
returns-in_err-bytes g c = load_short g.D.Device c.args.partition.now c.args.dev.now c.args.side c.args.len _ (err_seen (λ b. b.items) c.from_residual.result _ c.from_residual.ensures.1)

pub returns-in_err-read_at : goal.returns-in_err-read_at
returns-in_err-read_at g c =
    load_failed g.D.Device c.args.partition.now c.args.dev.now c.args.side c.args.len c.read_at.new.self _ (λ i. (c.args.partition.now, c.name.ensures i)) c.read_at.ensures.opened
    c.in_err-read_at.field-0.0 c.in_err-read_at.ensures.told c.in_err-read_at.ensures.counts _ (err_seen (λ b. b.items) c.from_residual-in_err-read_at.result _ c.from_residual-in_err-read_at.ensures.1)

pub returns : goal.returns
returns g c =
    loaded g.D.Device c.args.partition.now c.args.dev.now c.args.side c.args.len c.read_at.new.self _ (λ i. (c.args.partition.now, c.name.ensures i)) c.read_at.ensures.opened
    c.in_ok-read_at.field-0 c.in_ok-read_at.ensures.told c.in_ok-read_at.ensures.counts _ (λ t same. grind (arith, common_steps))
