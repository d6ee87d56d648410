use Rattle.sealed_pages.proofs.cutting.Truncating.{no_value}
use Rattle.sealed_pages.proofs.cutting.Settled.{not_changed, not_settled, is_settled}
use Rattle.std.proofs.Common.{subst, ℕ, arith}
use Rattle.blob_device.specs.Change.{Resize}
use Rattle.sealed_pages.specs.Entries.{IsOpenAt}
use Rattle.sealed_pages.proofs.cutting.Calls.{cut_one, cut_two, settled_after}
use Rattle.sealed_pages.proofs.cutting.Entries.{resized_open}
use Rattle.sealed_pages.specs.lemmas.Entries.{no_reads_resize, no_reads_updated, no_reads_open, open_same}
use Rattle.sealed_pages.proofs.adopted.Keeping.{resize_as}
use Rattle.sealed_pages.proofs.Prefixes.{prefix_resize}
use Rattle.sealed_pages.specs.View.{page_at}
use Rattle.sealed_pages.specs.SlotNames.{opened_key}
use Rattle.sealed_pages.proofs.cut.cut_pages.Goals as goal
use Rattle.blob_device.proofs.general.Results.{err_of}
use Rattle.sealed_pages.specs.lemmas.Prefixes.{prefix_start}

pub sync-requires : goal.sync-requires
sync-requires g c = no_reads_open _ _ _ (no_reads_updated (opened_key c.args.blob.now) _ _ (λ o. c.page_place-place.result) c.in_ok-resize.ensures.opened c.requires.«open»)

pub returns-in_err-resize : goal.returns-in_err-resize
returns-in_err-resize g c =
    let r = not_changed g.D.Device (opened_key c.args.blob.now) (page_at c.args.blob.now.page_size c.args.page) c.args.dev.now c.resize.new.self (Resize c.page_place-place.result) c.from_residual.result _ (err_of c.from_residual.result _ c.from_residual.ensures.1) c.in_err-resize.ensures.counts (no_reads_resize (opened_key c.args.blob.now) _ _ _ c.in_err-resize.ensures.opened_err c.requires.«open») (λ t. prefix_resize (page_at c.args.blob.now.page_size c.args.page) (opened_key c.args.blob.now) (g.D.Device.time c.args.dev.now) (g.D.Device.time c.args.dev.now) (g.D.Device.time c.resize.new.self) _ _ (omega (arith, c.page_place-place.ensures)) (prefix_start (page_at c.args.blob.now.page_size c.args.page) (opened_key c.args.blob.now) (g.D.Device.time c.args.dev.now)) (c.in_err-resize.ensures.told t)) c.in_err-resize.ensures.told in
    record {
      crashes = λ t rest long. cut_one g.S.Seal.seal_of c.args.blob.now.page_size c.requires.some (opened_key c.args.blob.now) (g.D.Device.time c.args.dev.now) rest c.args.page long (resize_as c.page_place-place.ensures (c.resize.ensures.told t));
      settles = λ t. no_value _ _ c.from_residual.ensures.0;
      alone = r.alone;
      prefix = r.prefix;
      length = no_value _ _ c.from_residual.ensures.0;
      entries = r.entries;
      faults = r.faults;
      cause = r.cause;
    }

pub returns-in_err-sync : goal.returns-in_err-sync
returns-in_err-sync g c =
    let r = not_settled g.D.Device (opened_key c.args.blob.now) (page_at c.args.blob.now.page_size c.args.page) c.args.dev.now c.resize.new.self (Resize c.page_place-place.result) _ c.in_ok-resize.ensures.counts.later (no_reads_updated (opened_key c.args.blob.now) _ _ (λ o. c.page_place-place.result) c.in_ok-resize.ensures.opened c.requires.«open») (λ t. prefix_resize (page_at c.args.blob.now.page_size c.args.page) (opened_key c.args.blob.now) (g.D.Device.time c.args.dev.now) (g.D.Device.time c.args.dev.now) (g.D.Device.time c.resize.new.self) _ _ (omega (arith, c.page_place-place.ensures)) (prefix_start (page_at c.args.blob.now.page_size c.args.page) (opened_key c.args.blob.now) (g.D.Device.time c.args.dev.now)) (c.in_ok-resize.ensures.told t)) c.in_ok-resize.ensures.told c.sync.new.self c.in_err-sync.ensures.opened c.from_residual-in_err-sync.result _ (err_of c.from_residual-in_err-sync.result _ c.from_residual-in_err-sync.ensures.1) c.in_err-sync.ensures.counts c.in_err-sync.ensures.told in
    record {
      crashes = λ t rest long. cut_two g.S.Seal.seal_of c.args.blob.now.page_size c.requires.some (opened_key c.args.blob.now) (g.D.Device.time c.args.dev.now) rest c.args.page long (resize_as c.page_place-place.ensures (c.in_ok-resize.ensures.told t)) (c.sync.ensures.told t);
      settles = λ t. no_value _ _ c.from_residual-in_err-sync.ensures.0;
      alone = r.alone;
      prefix = r.prefix;
      length = no_value _ _ c.from_residual-in_err-sync.ensures.0;
      entries = r.entries;
      faults = r.faults;
      cause = r.cause;
    }

pub returns : goal.returns
returns g c =
    let r = is_settled g.D.Device (opened_key c.args.blob.now) (page_at c.args.blob.now.page_size c.args.page) c.args.dev.now c.resize.new.self (Resize c.page_place-place.result) _ c.in_ok-resize.ensures.counts.later (no_reads_updated (opened_key c.args.blob.now) _ _ (λ o. c.page_place-place.result) c.in_ok-resize.ensures.opened c.requires.«open») (λ t. prefix_resize (page_at c.args.blob.now.page_size c.args.page) (opened_key c.args.blob.now) (g.D.Device.time c.args.dev.now) (g.D.Device.time c.args.dev.now) (g.D.Device.time c.resize.new.self) _ _ (omega (arith, c.page_place-place.ensures)) (prefix_start (page_at c.args.blob.now.page_size c.args.page) (opened_key c.args.blob.now) (g.D.Device.time c.args.dev.now)) (c.in_ok-resize.ensures.told t)) c.in_ok-resize.ensures.told c.sync.new.self c.in_ok-sync.ensures.opened tt c.in_ok-sync.ensures.counts.later c.in_ok-sync.ensures.told in
    record {
      crashes = λ t rest long. cut_two g.S.Seal.seal_of c.args.blob.now.page_size c.requires.some (opened_key c.args.blob.now) (g.D.Device.time c.args.dev.now) rest c.args.page long (resize_as c.page_place-place.ensures (c.in_ok-resize.ensures.told t)) (c.in_ok-sync.ensures.told t);
      settles = λ t. settled_after (opened_key c.args.blob.now) _ _ _ (g.D.Device.time c.args.dev.now) _ _ (resize_as c.page_place-place.ensures (c.in_ok-resize.ensures.told t)) (c.in_ok-sync.ensures.told t);
      alone = r.alone;
      prefix = r.prefix;
      length =
          subst (λ (n : ℕ). IsOpenAt (g.D.Device.opened c.sync.new.self) (opened_key c.args.blob.now) n) c.page_place-place.ensures
          (open_same (opened_key c.args.blob.now) (g.D.Device.opened c.resize.new.self) _ c.page_place-place.result c.in_ok-sync.ensures.opened
          (resized_open (opened_key c.args.blob.now) (g.D.Device.opened c.args.dev.now) _ c.page_place-place.result c.in_ok-resize.ensures.opened c.requires.«open»));
      entries = r.entries;
      faults = r.faults;
      cause = r.cause;
    }
