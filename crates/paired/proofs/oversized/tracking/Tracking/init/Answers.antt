use Rattle.std.proofs.Common.{List, ℕ, Ok, Err, sym, subst}
use Rattle.blob_device.specs.Timeline.{Always, disk}
use Rattle.meta_store.specs.Opening.{NotOpened, Opening, PairOn}
use Rattle.meta_store.specs.Store.{chosen_by, contents_of, seen}
use Rattle.paired.specs.sighted.Shown.{marker_format}
use Rattle.paired.proofs.tracking.Opened.{cause_of, corrupt_of, map_of, refused_of}
use Rattle.paired.proofs.oversized.tracking.Tracking.init.Goals as goal
use Rattle.blob_device.proofs.general.Results.{err_of}

pub returns-in_err-metadata-clause-corrupt : goal.returns-in_err-metadata-clause-corrupt
returns-in_err-metadata-clause-corrupt g c =
    corrupt_of g.D.Device (λ _. marker_format g.S.Seal) tt c.args.partition.now c.args.dev.now c.init.new.dev _ c.in_err-metadata.field-0.0 (err_of _ _ c.from_residual-in_err-metadata.ensures.1)
    (subst (λ (k : List ℕ). NotOpened g.D.Device (λ _. marker_format g.S.Seal) tt k c.args.dev.now c.init.new.dev c.in_err-metadata.field-0.0) c.in_ok-from_str.ensures.ok c.in_err-metadata.ensures.ends)

pub returns-in_err-metadata-clause-map : goal.returns-in_err-metadata-clause-map
returns-in_err-metadata-clause-map g c t chosen pair =
    map_of g.D.Device (λ _. marker_format g.S.Seal) tt c.args.partition.now c.args.dev.now c.init.new.dev _ c.in_err-metadata.field-0.0 (err_of _ _ c.from_residual-in_err-metadata.ensures.1)
    (subst (λ (k : List ℕ). NotOpened g.D.Device (λ _. marker_format g.S.Seal) tt k c.args.dev.now c.init.new.dev c.in_err-metadata.field-0.0) c.in_ok-from_str.ensures.ok c.in_err-metadata.ensures.ends) _ t chosen pair

pub returns-in_err-metadata-clause-refused : goal.returns-in_err-metadata-clause-refused
returns-in_err-metadata-clause-refused g c =
    refused_of g.D.Device (λ _. marker_format g.S.Seal) tt c.args.partition.now c.args.dev.now c.init.new.dev _ c.in_err-metadata.field-0.0 (err_of _ _ c.from_residual-in_err-metadata.ensures.1)
    (subst (λ (k : List ℕ). NotOpened g.D.Device (λ _. marker_format g.S.Seal) tt k c.args.dev.now c.init.new.dev c.in_err-metadata.field-0.0) c.in_ok-from_str.ensures.ok c.in_err-metadata.ensures.ends)

pub returns-in_err-metadata-clause-cause : goal.returns-in_err-metadata-clause-cause
returns-in_err-metadata-clause-cause g c =
    cause_of g.D.Device (λ _. marker_format g.S.Seal) tt c.args.partition.now c.args.dev.now c.init.new.dev _ c.in_err-metadata.field-0.0 (err_of _ _ c.from_residual-in_err-metadata.ensures.1)
    (subst (λ (k : List ℕ). NotOpened g.D.Device (λ _. marker_format g.S.Seal) tt k c.args.dev.now c.init.new.dev c.in_err-metadata.field-0.0) c.in_ok-from_str.ensures.ok c.in_err-metadata.ensures.ends)

pub returns-in_err-metadata-clause-moments : goal.returns-in_err-metadata-clause-moments
returns-in_err-metadata-clause-moments g c t =
    subst (λ (k : List ℕ). Always (g.D.Device.time c.args.dev.now) (g.D.Device.time c.init.new.dev) (Opening k (disk (g.D.Device.time c.args.dev.now)))) c.in_ok-from_str.ensures.ok (c.init.ensures.looks.moments t)

pub returns-clause-reads : goal.returns-clause-reads
returns-clause-reads g c t =
    let opened = (seen c.in_ok-metadata.metadata).store in
    subst (λ (k : List ℕ). PairOn (marker_format g.S.Seal) k (disk (g.D.Device.time c.args.dev.now)) (Ok (chosen_by opened (contents_of opened)))) c.in_ok-from_str.ensures.ok (c.in_ok-metadata.ensures.ends.told t).reads

pub returns-clause-map : goal.returns-clause-map
returns-clause-map g c t chosen pair =
    (c.in_ok-metadata.ensures.ends.told t).only chosen (subst (λ (k : List ℕ). PairOn (marker_format g.S.Seal) k (disk (g.D.Device.time c.args.dev.now)) (Ok chosen)) (sym c.in_ok-from_str.ensures.ok) pair)

pub returns-clause-refused : goal.returns-clause-refused
returns-clause-refused g c t side pair =
    absurd ((c.in_ok-metadata.ensures.ends.told t).sound side (subst (λ (k : List ℕ). PairOn (marker_format g.S.Seal) k (disk (g.D.Device.time c.args.dev.now)) (Err side)) (sym c.in_ok-from_str.ensures.ok) pair))

pub returns-clause-moments : goal.returns-clause-moments
returns-clause-moments g c t =
    subst (λ (k : List ℕ). Always (g.D.Device.time c.args.dev.now) (g.D.Device.time c.init.new.dev) (Opening k (disk (g.D.Device.time c.args.dev.now)))) c.in_ok-from_str.ensures.ok (c.init.ensures.looks.moments t)

pub returns-clause-stands : goal.returns-clause-stands
returns-clause-stands g c t = (c.in_ok-metadata.ensures.ends.told t).stands
