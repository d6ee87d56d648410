use Rattle.ordinal_store.specs.Stores.{sight}
use Rattle.ordinal_store.proofs.ListingLemmas.{list_refused, list_spelled}
use Rattle.ordinal_store.proofs.store.opening.listed.Goals as goal

pub returns-in_err-names : goal.returns-in_err-names
returns-in_err-names g c = list_refused (λ r. r.items) g.D.Device.Tells c.args.partition.now (sight g.D.Device c.args.dev.now) (sight g.D.Device c.scan.new.self) c.scan.result c.scan.ensures.told c.scan.ensures.opened c.scan.ensures.counts.later
    c.from_residual.result c.in_err-names.field-0.0 c.from_residual.ensures.1 c.in_err-names.ensures.counts.cause

pub returns : goal.returns
returns g c = list_spelled (λ r. r.items) g.D.Device.Tells c.args.partition.now (sight g.D.Device c.args.dev.now) (sight g.D.Device c.scan.new.self) c.scan.result c.scan.ensures.told c.scan.ensures.opened c.scan.ensures.counts.later
    c.in_ok-names.names c.in_ok-names.ensures.names c.section_numbers.result c.section_numbers.ensures.numbers c.section_numbers.ensures.small c.section_numbers.ensures.foreign c.section_numbers.ensures.cause
