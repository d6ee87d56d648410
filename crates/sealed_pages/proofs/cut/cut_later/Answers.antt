use Rattle.blob_device.specs.Disk.{Blob}
use Rattle.sealed_pages.specs.View.{page_at}
use Rattle.sealed_pages.proofs.cutting.Cuts.{resized_take}
use Rattle.std.proofs.lemmas.List.{take_all}
use Rattle.sealed_pages.proofs.slots.PageCalls.{alone_start}
use Rattle.sealed_pages.specs.lemmas.Entries.{no_reads_start, open_some}
use Rattle.sealed_pages.proofs.cutting.Truncating.{no_value}
use Rattle.std.proofs.Common.{arith, rules, sym, ap, ◌∙◌}
use Rattle.blob_device.specs.Timeline.{disk}
use Rattle.sealed_pages.proofs.cutting.Calls.{rest_sealing}
use Rattle.sealed_pages.proofs.cutting.Heads.{end_is}
use Rattle.sealed_pages.specs.SlotNames.{opened_key}
use Rattle.sealed_pages.proofs.cut.cut_later.Goals as goal

pub returns-then-blob-place : goal.returns-then-blob-place
returns-then-blob-place g c =
    record {
      crashes = λ t rest. rest_sealing g.S.Seal.seal_of c.args.blob.now.page_size c.requires.some (opened_key c.args.blob.now) (g.D.Device.time c.args.dev.now) rest c.args.page;
      content = λ t.
          sym (take_all (page_at c.args.blob.now.page_size c.args.page) (disk (g.D.Device.time c.args.dev.now) (opened_key c.args.blob.now)).content (omega (arith, end_is g.D.Device (opened_key c.args.blob.now) c.args.blob.now.end c.args.dev.now _ (g.met.D.Device.opened_stands t c.args.dev.now (opened_key c.args.blob.now)) c.requires.«open», c.page_place-place.ensures, c.if-blob-place.true)));
      rests = λ t rest. rest;
      alone = λ t. alone_start (g.D.Device.time c.args.dev.now) (opened_key c.args.blob.now);
      prefix = search rules;
      length = c.requires.«open»;
      entries = no_reads_start (g.D.Device.opened c.args.dev.now) (opened_key c.args.blob.now) (open_some (g.D.Device.opened c.args.dev.now) (opened_key c.args.blob.now) c.args.blob.now.end c.requires.«open»);
      faults = omega arith;
      cause = search rules;
    }

pub returns-in_err-cut_pages : goal.returns-in_err-cut_pages
returns-in_err-cut_pages g c =
    record {
      crashes = λ t rest.
          c.cut_pages.ensures.crashes t rest (omega (arith, end_is g.D.Device (opened_key c.args.blob.now) c.args.blob.now.end c.args.dev.now _ (g.met.D.Device.opened_stands t c.args.dev.now (opened_key c.args.blob.now)) c.requires.«open», c.page_place-place.ensures, c.if-blob-place.false));
      content = λ t. no_value _ _ c.from_residual.ensures.0;
      rests = λ t h1. no_value _ _ c.from_residual.ensures.0;
      alone = c.in_err-cut_pages.ensures.alone;
      prefix = c.in_err-cut_pages.ensures.prefix;
      length = no_value _ _ c.from_residual.ensures.0;
      entries = c.in_err-cut_pages.ensures.entries;
      faults = c.in_err-cut_pages.ensures.faults;
      cause = search rules;
    }

pub returns : goal.returns
returns g c =
    record {
      crashes = λ t rest.
          c.cut_pages.ensures.crashes t rest (omega (arith, end_is g.D.Device (opened_key c.args.blob.now) c.args.blob.now.end c.args.dev.now _ (g.met.D.Device.opened_stands t c.args.dev.now (opened_key c.args.blob.now)) c.requires.«open», c.page_place-place.ensures, c.if-blob-place.false));
      content = λ t.
          ap (λ (b : Blob). b.content) (c.in_ok-cut_pages.ensures.settles t) ∙ resized_take (disk (g.D.Device.time c.args.dev.now) (opened_key c.args.blob.now)).content (page_at c.args.blob.now.page_size c.args.page) (omega (arith, end_is g.D.Device (opened_key c.args.blob.now) c.args.blob.now.end c.args.dev.now _ (g.met.D.Device.opened_stands t c.args.dev.now (opened_key c.args.blob.now)) c.requires.«open», c.page_place-place.ensures, c.if-blob-place.false));
      rests = search rules;
      alone = c.in_ok-cut_pages.ensures.alone;
      prefix = c.in_ok-cut_pages.ensures.prefix;
      length = search rules;
      entries = c.in_ok-cut_pages.ensures.entries;
      faults = c.in_ok-cut_pages.ensures.faults;
      cause = search rules;
    }
