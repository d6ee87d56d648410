use Rattle.std.proofs.lemmas.List.{take_all}
use Rattle.sealed_pages.specs.lemmas.Entries.{no_reads_start, open_some}
use Rattle.sealed_pages.proofs.cutting.Truncating.{no_value}
use Rattle.std.proofs.Common.{◌≤◌, ◌∙◌, ◌∷◌, [], ℕ, length, take, ap, arith, rules, refl, sym}
use Rattle.blob_device.specs.Disk.{Blob}
use Rattle.blob_device.specs.Change.{Resize}
use Rattle.blob_device.specs.Timeline.{disk}
use Rattle.blob_device.specs.lemmas.Moments.{ok_blob}
use Rattle.sealed_pages.specs.unsealed.Writing.{shown, blob_key}
use Rattle.sealed_pages.specs.lemmas.looking.Looking.{content_length}
use Rattle.sealed_pages.proofs.unsealed.SparingLemmas.{loose_start, passes_at}
use Rattle.sealed_pages.proofs.WriteLemmas.{resized_within}
use Rattle.sealed_pages.proofs.unsealed.WritingLemmas.{cut_part, cut_at, cut_open}
use Rattle.sealed_pages.proofs.unsealed.ContentLemmas.{adds_start}
use Rattle.sealed_pages.proofs.unsealed.Cut.{ShortBy, short_by}
use Rattle.sealed_pages.proofs.write_blob.WriteBlob.shortened.Given as given
use Rattle.sealed_pages.proofs.write_blob.WriteBlob.shortened.Goals as goal
use Rattle.sealed_pages.proofs.write_blob.WriteBlob.shortened.Goals.{After-resize}

-- the blob has all bytes below the cut
within : (g : given.Over) (c : After-resize g) → g.D.Device.Tells → c.args.len ≤ length (disk (g.D.Device.time c.args.dev.now) (blob_key (shown c.args.self))).content
within g c t = omega (
  arith,
  content_length (g.D.Device.opened c.args.dev.now) (blob_key (shown c.args.self)) c.args.self.end _ _ (g.met.D.Device.opened_stands t c.args.dev.now (blob_key (shown c.args.self))) c.requires.«open»,
  c.requires.within,
)

-- what has been done to it
resized : (g : given.Over) (c : After-resize g) → g.D.Device.Tells → ShortBy (shown c.args.self) c.args.len (g.D.Device.time c.args.dev.now) (g.D.Device.time c.resize.new.self)
resized g c t = short_by (shown c.args.self) c.args.len (g.D.Device.time c.args.dev.now) (g.D.Device.time c.resize.new.self) _ (within g c t) (passes_at c.as_str.ensures.value c.as_slice.ensures.value (c.resize.ensures.told t))

pub returns-then-self-len : goal.returns-then-self-len
returns-then-self-len g c =
    record {
      spares = search rules;
      loose = λ t. loose_start (λ (i : ℕ). Unit {0}) (blob_key (shown c.args.self)) (g.D.Device.time c.args.dev.now);
      content = λ t. sym (take_all c.args.len (disk (g.D.Device.time c.args.dev.now) (blob_key (shown c.args.self))).content (omega (arith, content_length (g.D.Device.opened c.args.dev.now) (blob_key (shown c.args.self)) c.args.self.end _ _ (g.met.D.Device.opened_stands t c.args.dev.now (blob_key (shown c.args.self))) c.requires.«open», c.if-self-len.true)));
      since = λ t. adds_start (take c.args.len (disk (g.D.Device.time c.args.dev.now) (blob_key (shown c.args.self))).content ∷ []) (blob_key (shown c.args.self)) (g.D.Device.time c.args.dev.now);
      same = search rules;
      untouched = λ idle. refl;
      once = omega arith;
      «open» = c.requires.«open»;
      entries = no_reads_start (g.D.Device.opened c.args.dev.now) (blob_key (shown c.args.self)) (open_some (g.D.Device.opened c.args.dev.now) (blob_key (shown c.args.self)) c.args.self.end c.requires.«open»);
      faults = omega arith;
      cause = search rules;
    }

pub returns-in_err-resize : goal.returns-in_err-resize
returns-in_err-resize g c =
    let by = resized g (goal.at.returns-in_err-resize g c).After-resize in
    record {
      spares = λ t. (by t).spares;
      loose = λ t. (by t).loose;
      content = λ t. no_value _ _ c.from_residual.ensures.0;
      since = λ t. (by t).since;
      same = no_value _ _ c.from_residual.ensures.0;
      untouched = search rules;
      once = search rules;
      «open» = no_value _ _ c.from_residual.ensures.0;
      entries = cut_part c.as_str.ensures.value c.as_slice.ensures.value (g.D.Device.opened c.args.dev.now) (g.D.Device.opened c.resize.new.self) c.args.self.end c.requires.«open» c.args.len c.in_err-resize.ensures.opened_err;
      faults = search rules;
      cause = search rules;
    }

pub returns : goal.returns
returns g c =
    let by = resized g (goal.at.returns g c).After-resize in
    record {
      spares = λ t. (by t).spares;
      loose = λ t. (by t).loose;
      content = λ t.
          ap (λ (b : Blob). b.content) (ok_blob (blob_key (shown c.args.self)) (Resize c.args.len) _ (g.D.Device.time c.args.dev.now) (g.D.Device.time c.resize.new.self) (passes_at c.as_str.ensures.value c.as_slice.ensures.value (c.in_ok-resize.ensures.told t)))
          ∙ resized_within (disk (g.D.Device.time c.args.dev.now) (blob_key (shown c.args.self))).content c.args.len (within g (goal.at.returns g c).After-resize t);
      since = λ t. (by t).since;
      same = search rules;
      untouched = search rules;
      once = search rules;
      «open» = cut_open c.as_str.ensures.value c.as_slice.ensures.value (g.D.Device.opened c.args.dev.now) (g.D.Device.opened c.resize.new.self) c.args.self.end c.requires.«open» c.args.len c.in_ok-resize.ensures.opened;
      entries = cut_at c.as_str.ensures.value c.as_slice.ensures.value (g.D.Device.opened c.args.dev.now) (g.D.Device.opened c.resize.new.self) c.args.self.end c.requires.«open» c.args.len c.in_ok-resize.ensures.opened;
      faults = search rules;
      cause = search rules;
    }
