use Rattle.sealed_pages.specs.lemmas.Entries.{no_reads_start, open_some}
use Rattle.sealed_pages.proofs.cutting.Truncating.{no_value}
use Rattle.std.proofs.Common.{◌≡◌, ◌∙◌, ℕ, List, [], ◌∷◌, length, ap, sym, subst, arith, rules, refl, inl}
use Rattle.blob_device.specs.Disk.{Key}
use Rattle.blob_device.specs.Change.{written}
use Rattle.blob_device.specs.Timeline.{disk}
use Rattle.sealed_pages.specs.Entries.{IsOpenAt}
use Rattle.sealed_pages.specs.unsealed.Writing.{WriteBuffer, shown, blob_key, bytes_of}
use Rattle.sealed_pages.specs.lemmas.Write.{written_nothing}
use Rattle.sealed_pages.specs.lemmas.looking.Looking.{content_length}
use Rattle.sealed_pages.specs.lemmas.unsealed.Writing.{idle_bytes}
use Rattle.sealed_pages.proofs.unsealed.ContentLemmas.{adds_start}
use Rattle.sealed_pages.proofs.write_blob.WriteBlob.moved.Goals as goal
use Rattle.blob_device.specs.Lengths.{length-written}

pub returns-then-joins : goal.returns-then-joins
returns-then-joins g c =
    record {
      spares = search rules;
      over = λ t over. over;
      since = λ t. adds_start (bytes_of (shown c.args.self) (disk (g.D.Device.time c.args.dev.now) (blob_key (shown c.args.self))).content ∷ []) (blob_key (shown c.args.self)) (g.D.Device.time c.args.dev.now);
      bytes = λ t.
          let content : List ℕ = (disk (g.D.Device.time c.args.dev.now) (blob_key (shown c.args.self))).content in
          let joined = c.joins.ensures.0 c.if-joins.true in
          sym (written_nothing (bytes_of (shown c.args.self) (disk (g.D.Device.time c.args.dev.now) (blob_key (shown c.args.self))).content) c.args.offset
          (omega (arith, joined.high, length-written (disk (g.D.Device.time c.args.dev.now) (blob_key (shown c.args.self))).content c.args.self.at c.args.self.pending.items)));
      joined = c.joins.ensures.0 c.if-joins.true;
      same = refl;
      size = search rules;
      run = inl (refl, refl);
      behind = search rules;
      kept = λ joins. refl;
      untouched = λ either. refl;
      once = omega arith;
      «open» = c.requires.«open»;
      entries = no_reads_start (g.D.Device.opened c.args.dev.now) (blob_key (shown c.args.self)) (open_some (g.D.Device.opened c.args.dev.now) (blob_key (shown c.args.self)) c.args.self.end c.requires.«open»);
      faults = omega arith;
      cause = search rules;
    }

pub returns-in_err-this : goal.returns-in_err-this
returns-in_err-this g c =
    record {
      spares = c.in_err-this.ensures.spares;
      over = λ t h1. no_value _ _ c.from_residual.ensures.0;
      since = c.in_err-this.ensures.since;
      bytes = λ t. no_value _ _ c.from_residual.ensures.0;
      joined = no_value _ _ c.from_residual.ensures.0;
      same = no_value _ _ c.from_residual.ensures.0;
      size = no_value _ _ c.from_residual.ensures.0;
      run = no_value _ _ c.from_residual.ensures.0;
      behind = λ h0 h1. no_value _ _ c.from_residual.ensures.0;
      kept = λ h0. no_value _ _ c.from_residual.ensures.0;
      untouched = search rules;
      once = c.in_err-this.ensures.once;
      «open» = no_value _ _ c.from_residual.ensures.0;
      entries = c.in_err-this.ensures.entries;
      faults = c.in_err-this.ensures.faults;
      cause = search rules;
    }

pub returns : goal.returns
returns g c =
    record {
      spares = c.in_ok-this.ensures.spares;
      over = search rules;
      since = c.in_ok-this.ensures.since;
      bytes = λ t.
          let k : Key = blob_key (shown c.args.self) in
          let same = c.in_ok-this.ensures.same in
          let long : length (disk (g.D.Device.time c.flushed.new.dev) (blob_key (shown c.args.self))).content ≡ c.in_ok-this.this.end
          = content_length (g.D.Device.opened c.flushed.new.dev) k c.in_ok-this.this.end _ _ (g.met.D.Device.opened_stands t c.flushed.new.dev k)
          (subst (λ (u : WriteBuffer). IsOpenAt (g.D.Device.opened c.flushed.new.dev) (blob_key u) c.in_ok-this.this.end) same c.in_ok-this.ensures.«open») in
          ap (λ (u : WriteBuffer). written (disk (g.D.Device.time c.flushed.new.dev) k).content c.args.offset u.pending) same
          ∙ ap (λ (l : List ℕ). written l c.args.offset []) (sym (idle_bytes (shown c.in_ok-this.this) (disk (g.D.Device.time c.flushed.new.dev) k).content c.in_ok-this.ensures.idle long) ∙ c.in_ok-this.ensures.bytes t);
      joined = search rules;
      same = search rules;
      size = search rules;
      run = search rules;
      behind = search rules;
      kept = search rules;
      untouched = search rules;
      once = c.in_ok-this.ensures.once;
      «open» = search rules;
      entries = c.in_ok-this.ensures.entries;
      faults = c.in_ok-this.ensures.faults;
      cause = search rules;
    }
