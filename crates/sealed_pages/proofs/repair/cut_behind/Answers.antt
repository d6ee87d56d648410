use Rattle.sealed_pages.proofs.cutting.Truncating.{no_value}
use Rattle.std.proofs.Common.{arith, ◌∙◌, ◌≡◌, Bool, cond, ap, sym, rules}
use Rattle.sealed_pages.proofs.slots.PageCalls.{no_ok, alone_start, alone_on}
use Rattle.sealed_pages.specs.lemmas.Entries.{open_some, no_reads_resize, no_reads_updated, open_resized, no_reads_start}
use Rattle.sealed_pages.proofs.adopted.Keeping.{kept_start, behind_any, behind_ok, resize_as, cut_data}
use Rattle.sealed_pages.proofs.Prefixes.{prefix_resize}
use Rattle.sealed_pages.specs.View.{page_at}
use Rattle.sealed_pages.proofs.adopted.Clearing.{slot_start, slot_resize}
use Rattle.blob_device.specs.Timeline.{disk}
use Rattle.blob_device.specs.Disk.{Blob}
use Rattle.blob_device.specs.Change.{Resize, resized}
use Rattle.blob_device.specs.lemmas.Moments.{ok_blob}
use Rattle.sealed_pages.specs.SlotNames.{opened_key}
use Rattle.sealed_pages.proofs.repair.cut_behind.Goals as goal
use Rattle.sealed_pages.specs.lemmas.Prefixes.{prefix_start}

pub resize-requires : goal.resize-requires
resize-requires g c = open_some (g.D.Device.opened c.args.dev.now) (opened_key c.args.blob.now) c.args.blob.now.end c.requires.«open»

pub returns-then-not-behind : goal.returns-then-not-behind
returns-then-not-behind g c =
    record {
      told = λ t all F w σ kept inside longer shorter.
          record {
            any_moment = kept_start g.S.Seal.seal_of c.args.blob.now.page_size all F σ c.requires.some w (opened_key c.args.blob.now) (g.D.Device.time c.args.dev.now) kept;
            done = (kept, (shorter c.if-not-behind.true, λ k b less clean. clean));
          };
      wrote = search rules;
      prefix = search rules;
      loose = λ t at rest. slot_start at (opened_key c.args.blob.now) (g.D.Device.time c.args.dev.now) rest;
      content = λ t. sym (ap (λ (b : Bool). cond b (resized (disk (g.D.Device.time c.args.dev.now) (opened_key c.args.blob.now)).content (page_at c.args.blob.now.page_size c.args.pages)) (disk (g.D.Device.time c.args.dev.now) (opened_key c.args.blob.now)).content) c.if-not-behind.true);
      length = c.requires.«open»;
      entries = no_reads_start (g.D.Device.opened c.args.dev.now) (opened_key c.args.blob.now) (open_some (g.D.Device.opened c.args.dev.now) (opened_key c.args.blob.now) c.args.blob.now.end c.requires.«open»);
      faults = omega arith;
      cause = search rules;
    }

pub returns-in_err-resize : goal.returns-in_err-resize
returns-in_err-resize g c =
    record {
      told = λ t all F w σ kept inside longer shorter.
          record {
            any_moment = behind_any g.S.Seal.seal_of c.args.blob.now.page_size all F σ c.requires.some w (opened_key c.args.blob.now) (g.D.Device.time c.args.dev.now) kept c.args.pages inside (longer c.if-not-behind.false) (resize_as c.page_place-place.ensures (c.resize.ensures.told t));
            done = no_ok _ c.from_residual.result c.from_residual.ensures.0;
          };
      wrote = λ t all F same inside.
          record {
            alone = alone_on (alone_start (g.D.Device.time c.args.dev.now) (opened_key c.args.blob.now)) (c.resize.ensures.told t);
            done = no_ok _ c.from_residual.result c.from_residual.ensures.0;
          };
      prefix = λ t. prefix_resize (page_at c.args.blob.now.page_size c.args.pages) (opened_key c.args.blob.now) (g.D.Device.time c.args.dev.now) (g.D.Device.time c.args.dev.now) (g.D.Device.time c.resize.new.self) _ _ (omega (arith, c.page_place-place.ensures)) (prefix_start (page_at c.args.blob.now.page_size c.args.pages) (opened_key c.args.blob.now) (g.D.Device.time c.args.dev.now)) (c.resize.ensures.told t);
      loose = λ t at rest. slot_resize at (opened_key c.args.blob.now) (g.D.Device.time c.args.dev.now) (g.D.Device.time c.args.dev.now) (g.D.Device.time c.resize.new.self) _ _ (slot_start at (opened_key c.args.blob.now) (g.D.Device.time c.args.dev.now) rest) (c.resize.ensures.told t);
      content = λ t. no_value _ _ c.from_residual.ensures.0;
      length = no_value _ _ c.from_residual.ensures.0;
      entries = no_reads_resize (opened_key c.args.blob.now) _ _ _ c.in_err-resize.ensures.opened_err (open_some (g.D.Device.opened c.args.dev.now) (opened_key c.args.blob.now) c.args.blob.now.end c.requires.«open»);
      faults = search rules;
      cause = search rules;
    }

pub returns : goal.returns
returns g c =
    record {
      told = λ t all F w σ kept inside longer shorter.
          let passes = resize_as c.page_place-place.ensures (c.in_ok-resize.ensures.told t) in
          record {
            any_moment = behind_any g.S.Seal.seal_of c.args.blob.now.page_size all F σ c.requires.some w (opened_key c.args.blob.now) (g.D.Device.time c.args.dev.now) kept c.args.pages inside (longer c.if-not-behind.false) passes;
            done = let after = behind_ok g.S.Seal.seal_of c.args.blob.now.page_size all F σ c.requires.some w (opened_key c.args.blob.now) (g.D.Device.time c.args.dev.now) kept c.args.pages inside (longer c.if-not-behind.false) passes in (after.0, (after.1, after.2));
          };
      wrote = λ t all F same inside.
          record {
            alone = alone_on (alone_start (g.D.Device.time c.args.dev.now) (opened_key c.args.blob.now)) (c.in_ok-resize.ensures.told t);
            done = cut_data c.args.blob.now.page_size all F c.args.pages (opened_key c.args.blob.now) (g.D.Device.time c.args.dev.now) (g.D.Device.time c.resize.new.self) _ inside (resize_as c.page_place-place.ensures (c.in_ok-resize.ensures.told t)) same;
          };
      prefix = λ t. prefix_resize (page_at c.args.blob.now.page_size c.args.pages) (opened_key c.args.blob.now) (g.D.Device.time c.args.dev.now) (g.D.Device.time c.args.dev.now) (g.D.Device.time c.resize.new.self) _ _ (omega (arith, c.page_place-place.ensures)) (prefix_start (page_at c.args.blob.now.page_size c.args.pages) (opened_key c.args.blob.now) (g.D.Device.time c.args.dev.now)) (c.in_ok-resize.ensures.told t);
      loose = λ t at rest. slot_resize at (opened_key c.args.blob.now) (g.D.Device.time c.args.dev.now) (g.D.Device.time c.args.dev.now) (g.D.Device.time c.resize.new.self) _ _ (slot_start at (opened_key c.args.blob.now) (g.D.Device.time c.args.dev.now) rest) (c.in_ok-resize.ensures.told t);
      content = λ t.
          let done : (disk (g.D.Device.time c.resize.new.self) (opened_key c.args.blob.now)).content ≡ resized (disk (g.D.Device.time c.args.dev.now) (opened_key c.args.blob.now)).content (page_at c.args.blob.now.page_size c.args.pages) = ap (λ (b : Blob). b.content) (ok_blob (opened_key c.args.blob.now) (Resize c.page_place-place.result) _ (g.D.Device.time c.args.dev.now) (g.D.Device.time c.resize.new.self) (c.in_ok-resize.ensures.told t)) ∙ ap (resized (disk (g.D.Device.time c.args.dev.now) (opened_key c.args.blob.now)).content) c.page_place-place.ensures in
          done ∙ sym (ap (λ (b : Bool). cond b (resized (disk (g.D.Device.time c.args.dev.now) (opened_key c.args.blob.now)).content (page_at c.args.blob.now.page_size c.args.pages)) (disk (g.D.Device.time c.args.dev.now) (opened_key c.args.blob.now)).content) c.if-not-behind.false);
      length = open_resized (opened_key c.args.blob.now) (g.D.Device.opened c.args.dev.now) _ c.page_place-place.result c.args.blob.now.end c.in_ok-resize.ensures.opened c.requires.«open»;
      entries = no_reads_updated (opened_key c.args.blob.now) (g.D.Device.opened c.args.dev.now) _ (λ o. c.page_place-place.result) c.in_ok-resize.ensures.opened (open_some (g.D.Device.opened c.args.dev.now) (opened_key c.args.blob.now) c.args.blob.now.end c.requires.«open»);
      faults = search rules;
      cause = search rules;
    }
