use Rattle.std.proofs.Common.{ℕ, List, subst}
use Rattle.std.specs.Prelude.{string_bytes}
use Rattle.blob_device.specs.Disk.{AreNamesIn}
use Rattle.blob_device.specs.Timeline.{disk}
use Rattle.sealed_pages.specs.lemmas.looking.Looking.{unchanged_on}
use Rattle.section_manager.specs.managing.Finding.{finding}
use Rattle.section_manager.specs.lemmas.Seen.{device_failed, err_seen}
use Rattle.section_manager.proofs.sections.InitEnds.{names_refused, names_unread, scanned}
use Rattle.section_manager.proofs.manager.Manager.scan.Goals as goal

pub returns-in_err-names : goal.returns-in_err-names
returns-in_err-names g c = names_unread g.D.Device (string_bytes c.args.cfg.partition) c.args.cfg.factory c.args.dev.now c.scan.new.self
    (λ t. unchanged_on (g.D.Device.time c.args.dev.now) (g.D.Device.time c.scan.new.self) (c.scan.ensures.told t)) c.scan.ensures.opened c.scan.ensures.counts.later
    _ _ (err_seen finding c.from_residual.result _ c.from_residual.ensures.1) (device_failed c.in_err-names.field-0.0 _ _ _ _ c.in_err-names.ensures.counts)

pub returns-in_err-numbers : goal.returns-in_err-numbers
returns-in_err-numbers g c = names_refused g.D.Device (string_bytes c.args.cfg.partition) c.args.cfg.factory c.args.dev.now c.scan.new.self
    (λ t. unchanged_on (g.D.Device.time c.args.dev.now) (g.D.Device.time c.scan.new.self) (c.scan.ensures.told t)) c.scan.ensures.opened c.scan.ensures.counts.later
    c.in_ok-names.names (λ t. subst (λ (p : List ℕ). AreNamesIn (disk (g.D.Device.time c.args.dev.now)) p c.in_ok-names.names) c.as_str.ensures.value (c.in_ok-names.ensures.names t))
    _ _ (err_seen finding c.from_residual-in_err-numbers.result _ c.from_residual-in_err-numbers.ensures.1) c.in_err-numbers.ensures.foreign c.in_err-numbers.ensures.cause

pub returns : goal.returns
returns g c = scanned g.D.Device (string_bytes c.args.cfg.partition) c.args.cfg.factory c.args.dev.now c.scan.new.self
    (λ t. unchanged_on (g.D.Device.time c.args.dev.now) (g.D.Device.time c.scan.new.self) (c.scan.ensures.told t)) c.scan.ensures.opened c.scan.ensures.counts.later
    c.in_ok-names.names (λ t. subst (λ (p : List ℕ). AreNamesIn (disk (g.D.Device.time c.args.dev.now)) p c.in_ok-names.names) c.as_str.ensures.value (c.in_ok-names.ensures.names t))
    _ c.in_ok-numbers.ensures.numbers
