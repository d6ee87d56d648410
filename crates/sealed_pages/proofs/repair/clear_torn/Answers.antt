use Rattle.sealed_pages.proofs.cutting.Truncating.{no_value}
use Rattle.std.proofs.Common.{◌+◌, max, refl, arith, ◌∙◌, ◌≡◌, Bool, cond, ap, sym, rules}
use Rattle.sealed_pages.proofs.slots.PageCalls.{passes_as, no_ok, alone_start, alone_on}
use Rattle.sealed_pages.specs.lemmas.Entries.{open_some, no_reads_part, no_reads_updated, open_written, no_reads_start}
use Rattle.sealed_pages.proofs.adopted.Keeping.{kept_start, clear_any, clear_ok, clear_data}
use Rattle.sealed_pages.proofs.Prefixes.{prefix_write}
use Rattle.sealed_pages.specs.View.{page_at, slot_at}
use Rattle.sealed_pages.specs.lemmas.Prefixes.{prefix_start}
use Rattle.sealed_pages.specs.lemmas.slots.Steps.{slot_low}
use Rattle.sealed_pages.proofs.adopted.Clearing.{slot_write}
use Rattle.blob_device.specs.Timeline.{disk}
use Rattle.blob_device.specs.Disk.{Blob}
use Rattle.blob_device.specs.Change.{Write, written}
use Rattle.blob_device.specs.lemmas.Moments.{ok_blob, only_start}
use Rattle.sealed_pages.specs.Flushing.{no_slot}
use Rattle.sealed_pages.specs.Leftover.{OnlySlot}
use Rattle.sealed_pages.specs.SlotNames.{is_b, opened_key}
use Rattle.sealed_pages.proofs.repair.clear_torn.Goals as goal

pub write_at-requires-clause-open : goal.write_at-requires-clause-open
write_at-requires-clause-open g c = open_some (g.D.Device.opened c.args.dev.now) (opened_key c.args.blob.now) c.args.blob.now.end c.requires.«open»

pub returns-then-not-torn : goal.returns-then-not-torn
returns-then-not-torn g c =
    record {
      told = λ t all F w σ kept inside other shorter.
          record {
            any_moment = kept_start g.S.Seal.seal_of c.args.blob.now.page_size all F σ c.requires.some w (opened_key c.args.blob.now) (g.D.Device.time c.args.dev.now) kept;
            done = (kept, (λ was. was c.if-not-torn.true, λ n far le. le));
          };
      wrote = search rules;
      prefix = search rules;
      loose = λ t only. only_start (g.D.Device.time c.args.dev.now) (opened_key c.args.blob.now) (OnlySlot (slot_at c.args.blob.now.page_size c.args.page (is_b c.args.slot))) only;
      content = λ t. sym (ap (λ (b : Bool). cond b (written (disk (g.D.Device.time c.args.dev.now) (opened_key c.args.blob.now)).content (slot_at c.args.blob.now.page_size c.args.page (is_b c.args.slot)) no_slot) (disk (g.D.Device.time c.args.dev.now) (opened_key c.args.blob.now)).content) c.if-not-torn.true);
      length = c.requires.«open»;
      entries = no_reads_start (g.D.Device.opened c.args.dev.now) (opened_key c.args.blob.now) (open_some (g.D.Device.opened c.args.dev.now) (opened_key c.args.blob.now) c.args.blob.now.end c.requires.«open»);
      faults = omega arith;
      cause = search rules;
    }

pub returns-in_err-write_at : goal.returns-in_err-write_at
returns-in_err-write_at g c =
    record {
      told = λ t all F w σ kept inside other shorter.
          record {
            any_moment = clear_any g.S.Seal.seal_of c.args.blob.now.page_size all F σ c.requires.some w (opened_key c.args.blob.now) (g.D.Device.time c.args.dev.now) kept c.args.page (is_b c.args.slot) (other c.if-not-torn.false) (inside c.if-not-torn.false) (shorter c.if-not-torn.false) (passes_as c.slot_place-place.ensures refl (c.write_at.ensures.told t));
            done = no_ok _ c.from_residual.result c.from_residual.ensures.0;
          };
      wrote = λ t all F same.
          record {
            alone = alone_on (alone_start (g.D.Device.time c.args.dev.now) (opened_key c.args.blob.now)) (c.write_at.ensures.told t);
            done = no_ok _ c.from_residual.result c.from_residual.ensures.0;
          };
      prefix = λ t. prefix_write (page_at c.args.blob.now.page_size c.args.page) (opened_key c.args.blob.now) (g.D.Device.time c.args.dev.now) (g.D.Device.time c.args.dev.now) (g.D.Device.time c.write_at.new.self) _ _ _ (omega (arith, c.slot_place-place.ensures, slot_low c.args.blob.now.page_size c.args.page (is_b c.args.slot))) (prefix_start (page_at c.args.blob.now.page_size c.args.page) (opened_key c.args.blob.now) (g.D.Device.time c.args.dev.now)) (c.write_at.ensures.told t);
      loose = λ t only. slot_write (slot_at c.args.blob.now.page_size c.args.page (is_b c.args.slot)) (opened_key c.args.blob.now) (g.D.Device.time c.args.dev.now) (g.D.Device.time c.args.dev.now) (g.D.Device.time c.write_at.new.self) _ (only_start (g.D.Device.time c.args.dev.now) (opened_key c.args.blob.now) (OnlySlot (slot_at c.args.blob.now.page_size c.args.page (is_b c.args.slot))) only) (passes_as c.slot_place-place.ensures refl (c.write_at.ensures.told t));
      content = λ t. no_value _ _ c.from_residual.ensures.0;
      length = no_value _ _ c.from_residual.ensures.0;
      entries = no_reads_part (opened_key c.args.blob.now) _ _ _ c.in_err-write_at.ensures.opened_err (open_some (g.D.Device.opened c.args.dev.now) (opened_key c.args.blob.now) c.args.blob.now.end c.requires.«open»);
      faults = search rules;
      cause = search rules;
    }

pub returns : goal.returns
returns g c =
    record {
      told = λ t all F w σ kept inside other shorter.
          let passes = passes_as c.slot_place-place.ensures refl (c.in_ok-write_at.ensures.told t) in
          let after = clear_ok g.S.Seal.seal_of c.args.blob.now.page_size all F σ c.requires.some w (opened_key c.args.blob.now) (g.D.Device.time c.args.dev.now) kept c.args.page (is_b c.args.slot) (other c.if-not-torn.false) (inside c.if-not-torn.false) (shorter c.if-not-torn.false) passes in
          record {
            any_moment = clear_any g.S.Seal.seal_of c.args.blob.now.page_size all F σ c.requires.some w (opened_key c.args.blob.now) (g.D.Device.time c.args.dev.now) kept c.args.page (is_b c.args.slot) (other c.if-not-torn.false) (inside c.if-not-torn.false) (shorter c.if-not-torn.false) passes;
            done = (after.0, (λ was. after.1, λ n far le. omega (arith, after.2, far c.if-not-torn.false)));
          };
      wrote = λ t all F same.
          record {
            alone = alone_on (alone_start (g.D.Device.time c.args.dev.now) (opened_key c.args.blob.now)) (c.in_ok-write_at.ensures.told t);
            done = clear_data c.args.blob.now.page_size all F c.args.page (is_b c.args.slot) (opened_key c.args.blob.now) (g.D.Device.time c.args.dev.now) (g.D.Device.time c.write_at.new.self) _ (passes_as c.slot_place-place.ensures refl (c.in_ok-write_at.ensures.told t)) same;
          };
      prefix = λ t. prefix_write (page_at c.args.blob.now.page_size c.args.page) (opened_key c.args.blob.now) (g.D.Device.time c.args.dev.now) (g.D.Device.time c.args.dev.now) (g.D.Device.time c.write_at.new.self) _ _ _ (omega (arith, c.slot_place-place.ensures, slot_low c.args.blob.now.page_size c.args.page (is_b c.args.slot))) (prefix_start (page_at c.args.blob.now.page_size c.args.page) (opened_key c.args.blob.now) (g.D.Device.time c.args.dev.now)) (c.in_ok-write_at.ensures.told t);
      loose = λ t only. slot_write (slot_at c.args.blob.now.page_size c.args.page (is_b c.args.slot)) (opened_key c.args.blob.now) (g.D.Device.time c.args.dev.now) (g.D.Device.time c.args.dev.now) (g.D.Device.time c.write_at.new.self) _ (only_start (g.D.Device.time c.args.dev.now) (opened_key c.args.blob.now) (OnlySlot (slot_at c.args.blob.now.page_size c.args.page (is_b c.args.slot))) only) (passes_as c.slot_place-place.ensures refl (c.in_ok-write_at.ensures.told t));
      content = λ t.
          let done : (disk (g.D.Device.time c.write_at.new.self) (opened_key c.args.blob.now)).content ≡ (written (disk (g.D.Device.time c.args.dev.now) (opened_key c.args.blob.now)).content (slot_at c.args.blob.now.page_size c.args.page (is_b c.args.slot)) no_slot) = ap (λ (b : Blob). b.content) (ok_blob (opened_key c.args.blob.now) (Write (slot_at c.args.blob.now.page_size c.args.page (is_b c.args.slot)) no_slot) _ (g.D.Device.time c.args.dev.now) (g.D.Device.time c.write_at.new.self) (passes_as c.slot_place-place.ensures refl (c.in_ok-write_at.ensures.told t))) in
          done ∙ sym (ap (λ (b : Bool). cond b (written (disk (g.D.Device.time c.args.dev.now) (opened_key c.args.blob.now)).content (slot_at c.args.blob.now.page_size c.args.page (is_b c.args.slot)) no_slot) (disk (g.D.Device.time c.args.dev.now) (opened_key c.args.blob.now)).content) c.if-not-torn.false);
      length = open_written (opened_key c.args.blob.now) (g.D.Device.opened c.args.dev.now) _ _ c.args.blob.now.end c.max.result c.in_ok-write_at.ensures.opened c.max.ensures c.requires.«open»;
      entries = no_reads_updated (opened_key c.args.blob.now) (g.D.Device.opened c.args.dev.now) _ (λ o. max o.len (c.slot_place-place.result + 6)) c.in_ok-write_at.ensures.opened (open_some (g.D.Device.opened c.args.dev.now) (opened_key c.args.blob.now) c.args.blob.now.end c.requires.«open»);
      faults = search rules;
      cause = search rules;
    }
