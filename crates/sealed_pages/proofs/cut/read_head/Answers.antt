use Rattle.sealed_pages.proofs.cutting.Truncating.{no_value}
use Rattle.std.proofs.Common.{rules, ◌≡◌, ◌+◌, ◌-◌, ◌≤◌, ◌∙◌, min, max, ap, sym, length, take, arith, length-take, refl, inl}
use Rattle.blob_device.specs.Timeline.{disk}
use Rattle.sealed_pages.proofs.cutting.Entries.{few_once, read_open}
use Rattle.sealed_pages.proofs.cutting.Heads.{end_is, Looked, looked, none_there, keep_inside, is_covered, is_refused, is_best, head_is}
use Rattle.sealed_pages.specs.lemmas.Entries.{open_some}
use Rattle.sealed_pages.specs.lemmas.looking.Looking.{unchanged_on, unchanged_start}
use Rattle.sealed_pages.specs.SlotNames.{opened_key}
use Rattle.sealed_pages.proofs.cut.read_head.Goals as goal

pub slice_bounds-to_vec-end : goal.slice_bounds-to_vec-end
slice_bounds-to_vec-end g c =
    let fit : c.args.keep ≤ length c.read_at.new.buf = keep_inside g.S.Seal.seal_of c.args.blob.now.page_size c.read_at.new.buf c.matching_len-first_len.result c.matching_len-second_len.result c.args.keep c.matching_len-first_len.ensures c.matching_len-second_len.ensures (omega (arith, c.max.ensures, c.if-max-keep.false)) in search rules

pub returns-then-blob-place : goal.returns-then-blob-place
returns-then-blob-place g c =
    record {
      covered = λ t. tt;
      best = λ t. tt;
      bytes = λ t. tt;
      long = tt;
      unchanged = λ t. unchanged_start (g.D.Device.time c.args.dev.now);
      length = c.requires.«open»;
      entries = search rules;
      faults = omega arith;
      checksum = λ t p is.
          let end = end_is g.D.Device (opened_key c.args.blob.now) c.args.blob.now.end c.args.dev.now _ (g.met.D.Device.opened_stands t c.args.dev.now (opened_key c.args.blob.now)) c.requires.«open» in
          omega (arith, none_there g.S.Seal.seal_of c.args.blob.now.page_size c.args.page (disk (g.D.Device.time c.args.dev.now) (opened_key c.args.blob.now)).content (omega (arith, end, c.page_place-place.ensures, c.if-blob-place.true)), c.requires.some);
      cause = inl refl;
    }

pub returns-in_err-whole : goal.returns-in_err-whole
returns-in_err-whole g c =
    record {
      covered = λ t. no_value _ _ c.from_residual.ensures.0;
      best = λ t. no_value _ _ c.from_residual.ensures.0;
      bytes = λ t. no_value _ _ c.from_residual.ensures.0;
      long = no_value _ _ c.from_residual.ensures.0;
      unchanged = search rules;
      length = search rules;
      entries = search rules;
      faults = search rules;
      checksum = search rules;
      cause = search rules;
    }

pub returns-in_err-read_at : goal.returns-in_err-read_at
returns-in_err-read_at g c =
    record {
      covered = λ t. no_value _ _ c.from_residual-in_err-read_at.ensures.0;
      best = λ t. no_value _ _ c.from_residual-in_err-read_at.ensures.0;
      bytes = λ t. no_value _ _ c.from_residual-in_err-read_at.ensures.0;
      long = no_value _ _ c.from_residual-in_err-read_at.ensures.0;
      unchanged = λ t. unchanged_on (g.D.Device.time c.args.dev.now) (g.D.Device.time c.read_at.new.self) (c.read_at.ensures.told t);
      length = read_open (opened_key c.args.blob.now) (g.D.Device.opened c.args.dev.now) _ c.args.blob.now.end c.read_at.ensures.opened c.requires.«open»;
      entries = few_once (opened_key c.args.blob.now) _ _ c.read_at.ensures.opened (open_some (g.D.Device.opened c.args.dev.now) (opened_key c.args.blob.now) c.args.blob.now.end c.requires.«open»);
      faults = search rules;
      checksum = search rules;
      cause = search rules;
    }

pub returns-then-max-keep : goal.returns-then-max-keep
returns-then-max-keep g c =
    let have : length c.as_mut_slice-buf.result.now ≡ min (c.args.blob.now.end - c.page_place-place.result) (c.args.blob.now.page_size + 12) = search rules in
    let seen : g.D.Device.Tells → Looked g.S.Seal.seal_of c.args.blob.now.page_size c.args.page (disk (g.D.Device.time c.args.dev.now) (opened_key c.args.blob.now)).content c.read_at.new.buf c.matching_len-first_len.result c.matching_len-second_len.result
    = λ t. looked g.S.Seal.seal_of c.args.blob.now.page_size c.args.page (disk (g.D.Device.time c.args.dev.now) (opened_key c.args.blob.now)).content c.requires.room c.args.blob.now.end c.page_place-place.result _ _ _ c.read_at.new.buf (end_is g.D.Device (opened_key c.args.blob.now) c.args.blob.now.end c.args.dev.now _ (g.met.D.Device.opened_stands t c.args.dev.now (opened_key c.args.blob.now)) c.requires.«open») c.page_place-place.ensures have (c.in_ok-read_at.ensures.bytes t) c.matching_len-first_len.ensures c.matching_len-second_len.ensures in
    record {
      covered = λ t. tt;
      best = λ t. tt;
      bytes = λ t. tt;
      long = tt;
      unchanged = λ t. unchanged_on (g.D.Device.time c.args.dev.now) (g.D.Device.time c.read_at.new.self) (c.in_ok-read_at.ensures.told t);
      length = read_open (opened_key c.args.blob.now) (g.D.Device.opened c.args.dev.now) _ c.args.blob.now.end c.in_ok-read_at.ensures.opened c.requires.«open»;
      entries = few_once (opened_key c.args.blob.now) _ _ c.in_ok-read_at.ensures.opened (open_some (g.D.Device.opened c.args.dev.now) (opened_key c.args.blob.now) c.args.blob.now.end c.requires.«open»);
      faults = search rules;
      checksum = λ t p gives. is_refused g.S.Seal.seal_of c.args.blob.now.page_size c.args.page (disk (g.D.Device.time c.args.dev.now) (opened_key c.args.blob.now)).content c.read_at.new.buf c.matching_len-first_len.result c.matching_len-second_len.result c.args.keep (seen t) (omega (arith, c.max.ensures, c.if-max-keep.true));
      cause = inl refl;
    }

pub returns-in_err-bytes : goal.returns-in_err-bytes
returns-in_err-bytes g c =
    record {
      covered = λ t. no_value _ _ c.from_residual-in_err-bytes.ensures.0;
      best = λ t. no_value _ _ c.from_residual-in_err-bytes.ensures.0;
      bytes = λ t. no_value _ _ c.from_residual-in_err-bytes.ensures.0;
      long = no_value _ _ c.from_residual-in_err-bytes.ensures.0;
      unchanged = λ t. unchanged_on (g.D.Device.time c.args.dev.now) (g.D.Device.time c.read_at.new.self) (c.in_ok-read_at.ensures.told t);
      length = read_open (opened_key c.args.blob.now) (g.D.Device.opened c.args.dev.now) _ c.args.blob.now.end c.in_ok-read_at.ensures.opened c.requires.«open»;
      entries = few_once (opened_key c.args.blob.now) _ _ c.in_ok-read_at.ensures.opened (open_some (g.D.Device.opened c.args.dev.now) (opened_key c.args.blob.now) c.args.blob.now.end c.requires.«open»);
      faults = search rules;
      checksum = search rules;
      cause = search rules;
    }

pub returns : goal.returns
returns g c =
    let have : length c.as_mut_slice-buf.result.now ≡ min (c.args.blob.now.end - c.page_place-place.result) (c.args.blob.now.page_size + 12) = search rules in
    let seen : g.D.Device.Tells → Looked g.S.Seal.seal_of c.args.blob.now.page_size c.args.page (disk (g.D.Device.time c.args.dev.now) (opened_key c.args.blob.now)).content c.read_at.new.buf c.matching_len-first_len.result c.matching_len-second_len.result
    = λ t. looked g.S.Seal.seal_of c.args.blob.now.page_size c.args.page (disk (g.D.Device.time c.args.dev.now) (opened_key c.args.blob.now)).content c.requires.room c.args.blob.now.end c.page_place-place.result _ _ _ c.read_at.new.buf (end_is g.D.Device (opened_key c.args.blob.now) c.args.blob.now.end c.args.dev.now _ (g.met.D.Device.opened_stands t c.args.dev.now (opened_key c.args.blob.now)) c.requires.«open») c.page_place-place.ensures have (c.in_ok-read_at.ensures.bytes t) c.matching_len-first_len.ensures c.matching_len-second_len.ensures in
    let keeps : c.args.keep ≤ max c.matching_len-first_len.result c.matching_len-second_len.result = omega (arith, c.max.ensures, c.if-max-keep.false) in
    let cut : c.in_ok-bytes.bytes.items ≡ take c.args.keep c.read_at.new.buf = search rules in
    record {
      covered = λ t. is_covered g.S.Seal.seal_of c.args.blob.now.page_size c.args.page (disk (g.D.Device.time c.args.dev.now) (opened_key c.args.blob.now)).content c.read_at.new.buf c.matching_len-first_len.result c.matching_len-second_len.result c.args.keep (seen t) keeps;
      best = λ t. is_best g.S.Seal.seal_of c.args.blob.now.page_size c.args.page (disk (g.D.Device.time c.args.dev.now) (opened_key c.args.blob.now)).content c.read_at.new.buf c.matching_len-first_len.result c.matching_len-second_len.result c.args.keep (seen t) ∙ sym c.longer.ensures;
      bytes = λ t. cut ∙ head_is g.S.Seal.seal_of c.args.blob.now.page_size c.args.page (disk (g.D.Device.time c.args.dev.now) (opened_key c.args.blob.now)).content c.read_at.new.buf c.matching_len-first_len.result c.matching_len-second_len.result c.args.keep (seen t) keeps;
      long = omega (arith, ap length cut, length-take c.args.keep c.read_at.new.buf, keep_inside g.S.Seal.seal_of c.args.blob.now.page_size c.read_at.new.buf c.matching_len-first_len.result c.matching_len-second_len.result c.args.keep c.matching_len-first_len.ensures c.matching_len-second_len.ensures keeps);
      unchanged = λ t. unchanged_on (g.D.Device.time c.args.dev.now) (g.D.Device.time c.read_at.new.self) (c.in_ok-read_at.ensures.told t);
      length = read_open (opened_key c.args.blob.now) (g.D.Device.opened c.args.dev.now) _ c.args.blob.now.end c.in_ok-read_at.ensures.opened c.requires.«open»;
      entries = few_once (opened_key c.args.blob.now) _ _ c.in_ok-read_at.ensures.opened (open_some (g.D.Device.opened c.args.dev.now) (opened_key c.args.blob.now) c.args.blob.now.end c.requires.«open»);
      faults = search rules;
      checksum = search rules;
      cause = tt;
    }
