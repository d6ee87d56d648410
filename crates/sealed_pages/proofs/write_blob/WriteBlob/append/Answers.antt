use Rattle.std.proofs.Common.{◌≡◌, ◌∙◌, length, ap, arith, rules}
use Rattle.blob_device.specs.Timeline.{disk}
use Rattle.sealed_pages.specs.unsealed.Writing.{shown, blob_key, bytes_of}
use Rattle.sealed_pages.specs.lemmas.looking.Looking.{content_length}
use Rattle.sealed_pages.specs.lemmas.unsealed.Writing.{idle_parts}
use Rattle.sealed_pages.proofs.unsealed.Tails.{append_leaves}
use Rattle.sealed_pages.proofs.unsealed.WritingLemmas.{written_last}
use Rattle.sealed_pages.proofs.unsealed.Put.{append_since, append_lasts}
use Rattle.sealed_pages.proofs.write_blob.WriteBlob.append.Given as given
use Rattle.sealed_pages.proofs.write_blob.WriteBlob.append.Goals as goal
use Rattle.sealed_pages.proofs.write_blob.WriteBlob.append.Goals.{After-write_at}

-- the blob is as long as the buffer says
long : (g : given.Over) (c : After-write_at g) → g.D.Device.Tells → length (disk (g.D.Device.time c.args.dev.now) (blob_key (shown c.args.self))).content ≡ c.args.self.end
long g c t = content_length (g.D.Device.opened c.args.dev.now) (blob_key (shown c.args.self)) c.args.self.end _ _ (g.met.D.Device.opened_stands t c.args.dev.now (blob_key (shown c.args.self))) c.requires.«open»

pub returns-in-Ok : goal.returns-in-Ok
returns-in-Ok g c =
    record {
      spares = search rules;
      over = search rules;
      lasts = λ t kept. append_lasts (shown c.args.self) c.size-at.result (bytes_of (shown c.args.self) (disk (g.D.Device.time c.args.dev.now) (blob_key (shown c.args.self))).content) (g.D.Device.time c.args.dev.now) (g.D.Device.time c.write_at.new.dev) (omega (arith, c.size-at.ensures, c.args.self.order)) (c.in-Ok.ensures.lasts t kept);
      kept = search rules;
      since = λ t. append_since (shown c.args.self) c.size-at.result c.args.bytes.now (g.D.Device.time c.args.dev.now) (g.D.Device.time c.write_at.new.dev) c.size-at.ensures (long g (goal.at.returns-in-Ok g c).After-write_at t) (c.write_at.ensures.since t);
      bytes = λ t. c.in-Ok.ensures.bytes t ∙ written_last (shown c.args.self) (disk (g.D.Device.time c.args.dev.now) (blob_key (shown c.args.self))).content c.args.bytes.now c.size-at.result (long g (goal.at.returns-in-Ok g c).After-write_at t) c.size-at.ensures;
      at = search rules;
      size = search rules;
      same = search rules;
      run = search rules;
      tail = append_leaves (shown c.args.self) c.args.self.capacity c.size-at.result (length c.args.bytes.now) _ c.size-at.ensures c.in-Ok.ensures.tail;
      behind = λ behind. c.in-Ok.ensures.behind (omega (arith, c.size-at.ensures)) behind;
      joined = search rules;
      below = search rules;
      nothing = λ idle none.
          let parts = idle_parts (shown c.args.self) idle in
          c.in-Ok.ensures.nothing idle none (omega (arith, c.size-at.ensures, ap length parts.0, parts.1));
      once = search rules;
      calls = search rules;
      full = search rules;
      «open» = search rules;
      entries = search rules;
      overflow = search rules;
      refused = search rules;
      faults = search rules;
      cause = tt;
    }

pub returns-in-Err : goal.returns-in-Err
returns-in-Err g c =
    record {
      spares = search rules;
      over = λ t h1. tt;
      lasts = λ t kept. append_lasts (shown c.args.self) c.size-at.result (bytes_of (shown c.args.self) (disk (g.D.Device.time c.args.dev.now) (blob_key (shown c.args.self))).content) (g.D.Device.time c.args.dev.now) (g.D.Device.time c.write_at.new.dev) (omega (arith, c.size-at.ensures, c.args.self.order)) (c.in-Err.ensures.lasts t kept);
      kept = λ t h1. tt;
      since = λ t. append_since (shown c.args.self) c.size-at.result c.args.bytes.now (g.D.Device.time c.args.dev.now) (g.D.Device.time c.write_at.new.dev) c.size-at.ensures (long g (goal.at.returns-in-Err g c).After-write_at t) (c.write_at.ensures.since t);
      bytes = λ t. tt;
      at = tt;
      size = tt;
      same = tt;
      run = tt;
      tail = tt;
      behind = λ h0. tt;
      joined = λ h0. tt;
      below = search rules;
      nothing = search rules;
      once = search rules;
      calls = search rules;
      full = tt;
      «open» = tt;
      entries = search rules;
      overflow = search rules;
      refused = search rules;
      faults = search rules;
      cause = search rules;
    }
