use Rattle.sealed_pages.specs.lemmas.Entries.{no_reads_start, open_some}
use Rattle.sealed_pages.proofs.cutting.Truncating.{no_value}
use Rattle.std.proofs.Common.{◌+◌, ◌∙◌, length, ℕ, List, [], ◌∷◌, ap, sym, refl, max, rules, arith, ◌≡◌}
use Rattle.blob_device.specs.Disk.{Outside}
use Rattle.blob_device.specs.Timeline.{disk}
use Rattle.sealed_pages.specs.unsealed.Writing.{shown, blob_key, bytes_of, run_of, size_of}
use Rattle.sealed_pages.proofs.unsealed.SparingLemmas.{sparing_now}
use Rattle.sealed_pages.proofs.unsealed.WritingLemmas.{passes_write, written_content, flushed_bytes, over_after, part_at, grown_at, grown_open}
use Rattle.sealed_pages.proofs.unsealed.ContentLemmas.{adds_start}
use Rattle.sealed_pages.specs.lemmas.Had.{had_write}
use Rattle.sealed_pages.specs.lemmas.unsealed.Writing.{idle_parts}
use Rattle.sealed_pages.proofs.unsealed.Sync.{FlushBy, flush_written}
use Rattle.sealed_pages.proofs.write_blob.WriteBlob.flushed.Given as given
use Rattle.sealed_pages.proofs.write_blob.WriteBlob.flushed.Goals as goal
use Rattle.sealed_pages.proofs.write_blob.WriteBlob.flushed.Goals.{After-write_at}

-- what the write has done to the blob
written : (g : given.Over) (c : After-write_at g) → g.D.Device.Tells → FlushBy (shown c.args.self) (g.D.Device.time c.args.dev.now) (g.D.Device.time c.write_at.new.self)
written g c t = flush_written (shown c.args.self) (g.D.Device.time c.args.dev.now) (g.D.Device.time c.write_at.new.self) _ (passes_write c.as_str.ensures.value c.as_slice.ensures.value c.as_slice-2.ensures.value (c.write_at.ensures.told t))

pub returns-then-idle : goal.returns-then-idle
returns-then-idle g c =
    record {
      spares = search rules;
      over = λ t over. over;
      since = λ t. adds_start (bytes_of (shown c.args.self) (disk (g.D.Device.time c.args.dev.now) (blob_key (shown c.args.self))).content ∷ []) (blob_key (shown c.args.self)) (g.D.Device.time c.args.dev.now);
      bytes = λ t. refl;
      idle = search rules;
      same =
          let parts = idle_parts (shown c.args.self) (sym c.idle.ensures ∙ c.if-idle.true) in
          let end : c.args.self.end ≡ size_of (shown c.args.self) = omega (arith, parts.1, ap length parts.0) in
          λ i. record (shown c.args.self) { end = end i; pending = parts.0 i };
      dirty = search rules;
      stays = λ idle. refl;
      untouched = λ idle. refl;
      once = omega arith;
      «open» = c.requires.«open»;
      entries = no_reads_start (g.D.Device.opened c.args.dev.now) (blob_key (shown c.args.self)) (open_some (g.D.Device.opened c.args.dev.now) (blob_key (shown c.args.self)) c.args.self.end c.requires.«open»);
      faults = omega arith;
      cause = search rules;
    }

pub returns-in_err-write_at : goal.returns-in_err-write_at
returns-in_err-write_at g c =
    record {
      spares = λ t. (written g (goal.at.returns-in_err-write_at g c).After-write_at t).spares;
      over = λ t h1. no_value _ _ c.from_residual.ensures.0;
      since = λ t. (written g (goal.at.returns-in_err-write_at g c).After-write_at t).since;
      bytes = λ t. no_value _ _ c.from_residual.ensures.0;
      idle = no_value _ _ c.from_residual.ensures.0;
      same = no_value _ _ c.from_residual.ensures.0;
      dirty = no_value _ _ c.from_residual.ensures.0;
      stays = λ idle. absurd (cc (idle, sym c.idle.ensures ∙ c.if-idle.false));
      untouched = search rules;
      once = search rules;
      «open» = no_value _ _ c.from_residual.ensures.0;
      entries = part_at c.as_str.ensures.value c.as_slice.ensures.value (g.D.Device.opened c.args.dev.now) (g.D.Device.opened c.write_at.new.self) c.args.self.end c.requires.«open» _ c.in_err-write_at.ensures.opened_err;
      faults = search rules;
      cause = search rules;
    }

pub returns : goal.returns
returns g c =
    let by = written g (goal.at.returns g c).After-write_at in
    record {
      spares = λ t. (by t).spares;
      over = λ t over.
          let spares = sparing_now (Outside (run_of (shown c.args.self) ∷ [])) c.args.self.settled (blob_key (shown c.args.self)) (g.D.Device.time c.args.dev.now) (g.D.Device.time c.write_at.new.self) (by t).spares in
          over_after (shown c.args.self) _ (Outside (run_of (shown c.args.self) ∷ [])) (disk (g.D.Device.time c.args.dev.now) (blob_key (shown c.args.self))) (disk (g.D.Device.time c.write_at.new.self) (blob_key (shown c.args.self))) spares refl refl
          (had_write (blob_key (shown c.args.self)) c.args.self.at c.args.self.pending.items _ (g.D.Device.time c.args.dev.now) (g.D.Device.time c.write_at.new.self) (passes_write c.as_str.ensures.value c.as_slice.ensures.value c.as_slice-2.ensures.value (c.in_ok-write_at.ensures.told t))) over;
      since = λ t. (by t).since;
      bytes = λ t.
          flushed_bytes (disk (g.D.Device.time c.args.dev.now) (blob_key (shown c.args.self))).content (disk (g.D.Device.time c.write_at.new.self) (blob_key (shown c.args.self))).content c.args.self.pending.items _ c.args.self.at
          (written_content (blob_key (shown c.args.self)) c.args.self.at c.args.self.pending.items (g.D.Device.time c.args.dev.now) (g.D.Device.time c.write_at.new.self) _ (passes_write c.as_str.ensures.value c.as_slice.ensures.value c.as_slice-2.ensures.value (c.in_ok-write_at.ensures.told t)))
          c.clear.ensures.items;
      idle = search rules;
      same = search rules;
      dirty = search rules;
      stays = search rules;
      untouched = search rules;
      once = search rules;
      «open» =
          grown_open c.as_str.ensures.value c.as_slice.ensures.value (g.D.Device.opened c.args.dev.now) (g.D.Device.opened c.write_at.new.self) c.args.self.end c.requires.«open» (c.args.self.at + length c.as_slice-2.result.now) c.size-end.result c.in_ok-write_at.ensures.opened
          (c.size-end.ensures ∙ ap (λ (l : List ℕ). max c.args.self.end (c.args.self.at + length l)) (sym c.as_slice-2.ensures.value));
      entries = grown_at c.as_str.ensures.value c.as_slice.ensures.value (g.D.Device.opened c.args.dev.now) (g.D.Device.opened c.write_at.new.self) c.args.self.end c.requires.«open» (c.args.self.at + length c.as_slice-2.result.now) c.in_ok-write_at.ensures.opened;
      faults = search rules;
      cause = search rules;
    }
