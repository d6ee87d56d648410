use Rattle.std.proofs.Common.{ℕ, ◌∙◌, ap}
use Rattle.value_codec.specs.declared.key.Key8.{Key8}
use Rattle.meta_store.specs.Store.{Store, contents_of, seen, shown}
use Rattle.paired.specs.sighted.Shown.{marker_format}
use Rattle.paired.proofs.tracking.Lemmas.{synced_contents, synced_entries}
use Rattle.paired.proofs.tracking.Synced.{failed_cause, failed_full, failed_untouched, synced_full}
use Rattle.paired.proofs.oversized.tracking.Tracking.sync.Goals as goal
use Rattle.blob_device.proofs.general.Results.{err_of}

pub returns-in_err-metadata-clause-crashes : goal.returns-in_err-metadata-clause-crashes
returns-in_err-metadata-clause-crashes g c t synced stands =
    (c.sync.ensures.moments t).crashes synced stands

pub returns-clause-crashes : goal.returns-clause-crashes
returns-clause-crashes g c t synced stands =
    (c.sync.ensures.moments t).crashes synced stands

pub returns-clause-markers : goal.returns-clause-markers
returns-clause-markers g c = ap (λ (u : Store Key8 ℕ). u.entries) c.in_ok-metadata.ensures.ends.same ∙ synced_entries (shown c.args.self.metadata)

pub returns-clause-contents : goal.returns-clause-contents
returns-clause-contents g c = ap (λ (u : Store Key8 ℕ). contents_of u) c.in_ok-metadata.ensures.ends.same ∙ synced_contents (shown c.args.self.metadata)

pub returns-in_err-metadata-clause-alone : goal.returns-in_err-metadata-clause-alone
returns-in_err-metadata-clause-alone g c t = (c.sync.ensures.moments t).alone

pub returns-in_err-metadata-clause-full : goal.returns-in_err-metadata-clause-full
returns-in_err-metadata-clause-full g c =
    failed_full g.D.Device (λ _. marker_format g.S.Seal) (seen c.args.self.metadata) c.args.dev.now c.sync.new.dev _ c.in_err-metadata.field-0.0 (err_of _ _ c.from_residual.ensures.1) c.in_err-metadata.ensures.ends

pub returns-in_err-metadata-clause-untouched : goal.returns-in_err-metadata-clause-untouched
returns-in_err-metadata-clause-untouched g c =
    failed_untouched g.D.Device (λ _. marker_format g.S.Seal) (seen c.args.self.metadata) c.args.dev.now c.sync.new.dev _ c.in_err-metadata.field-0.0 (err_of _ _ c.from_residual.ensures.1) c.in_err-metadata.ensures.ends

pub returns-in_err-metadata-clause-cause : goal.returns-in_err-metadata-clause-cause
returns-in_err-metadata-clause-cause g c =
    failed_cause g.D.Device (λ _. marker_format g.S.Seal) (seen c.args.self.metadata) c.args.dev.now c.sync.new.dev _ c.in_err-metadata.field-0.0 (err_of _ _ c.from_residual.ensures.1) c.in_err-metadata.ensures.ends

pub returns-clause-alone : goal.returns-clause-alone
returns-clause-alone g c t = (c.sync.ensures.moments t).alone

pub returns-clause-stands : goal.returns-clause-stands
returns-clause-stands g c t synced stands = (c.in_ok-metadata.ensures.ends.told t).stands synced stands

pub returns-clause-full : goal.returns-clause-full
returns-clause-full g c = synced_full g.D.Device (λ _. marker_format g.S.Seal) (seen c.args.self.metadata) c.args.dev.now c.sync.new.dev _ _ c.in_ok-metadata.ensures.ends
