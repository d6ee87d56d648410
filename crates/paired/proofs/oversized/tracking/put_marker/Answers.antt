use Rattle.std.proofs.Common.{rules}
use Rattle.meta_store.specs.Store.{seen}
use Rattle.paired.specs.sighted.Shown.{marker_format}
use Rattle.paired.proofs.tracking.Lemmas.{put_cause, put_here, put_marked, put_others, put_stands, put_staged, put_storable, put_value, on_ok}
use Rattle.paired.proofs.oversized.tracking.put_marker.Goals as goal

pub returns-clause-here : goal.returns-clause-here
returns-clause-here g c = on_ok c.put.result (put_value (λ _. marker_format g.S.Seal) (seen c.args.metadata.now) (seen c.put.new.self) c.marker_key.result c.args.len c.put.result c.put.ensures)
    (put_here c.args.metadata.now.entries.entries c.put.new.self.entries.entries c.marker_key.result c.args.section c.args.len c.ranges.section.fits c.marker_key.ensures)

pub returns-clause-others : goal.returns-clause-others
returns-clause-others g c = on_ok c.put.result (put_value (λ _. marker_format g.S.Seal) (seen c.args.metadata.now) (seen c.put.new.self) c.marker_key.result c.args.len c.put.result c.put.ensures)
    (put_others c.args.metadata.now.entries.entries c.put.new.self.entries.entries c.marker_key.result c.args.section c.args.len c.ranges.section.fits c.marker_key.ensures)

pub returns-clause-marked : goal.returns-clause-marked
returns-clause-marked g c = on_ok c.put.result (put_value (λ _. marker_format g.S.Seal) (seen c.args.metadata.now) (seen c.put.new.self) c.marker_key.result c.args.len c.put.result c.put.ensures)
    (put_marked c.args.metadata.now.entries.entries c.put.new.self.entries.entries c.marker_key.result c.args.section c.args.len c.ranges.section.fits c.marker_key.ensures)

pub returns-clause-staged : goal.returns-clause-staged
returns-clause-staged g c = put_staged (λ _. marker_format g.S.Seal) (seen c.args.metadata.now) (seen c.put.new.self) c.marker_key.result c.args.len c.put.result c.put.ensures

pub returns-clause-storable : goal.returns-clause-storable
returns-clause-storable g c = put_storable (λ _. marker_format g.S.Seal) (seen c.args.metadata.now) (seen c.put.new.self) c.marker_key.result c.args.len c.put.result c.put.ensures (record { accepted = c.ranges.len.fits; fits = search rules })

pub returns-clause-stands : goal.returns-clause-stands
returns-clause-stands g c = put_stands (λ _. marker_format g.S.Seal) (seen c.args.metadata.now) (seen c.put.new.self) c.marker_key.result c.args.len c.put.result c.put.ensures

pub returns-clause-cause : goal.returns-clause-cause
returns-clause-cause g c = put_cause (λ _. marker_format g.S.Seal) (seen c.args.metadata.now) (seen c.put.new.self) c.marker_key.result c.args.len c.put.result c.put.ensures
