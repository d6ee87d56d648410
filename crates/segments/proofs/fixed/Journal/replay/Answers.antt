-- A replay begins over a journal.
use Rattle.std.specs.Prelude.{◌/◌, ◌<◌}
use Rattle.std.proofs.Common.{inl, refl}
use Rattle.blob_device.specs.Timeline.{disk}
use Rattle.sealed_pages.specs.Buffer.{size_of}
use Rattle.sealed_pages.specs.Shown as page_blob
use Rattle.segments.specs.FixedShown.{shown}
use Rattle.segments.proofs.replay.Beginning.{begins_walk}
use Rattle.segments.proofs.replay.Reading.{some_and}
use Rattle.segments.proofs.fixed.Journal.replay.Goals as goal

pub is_past-requires : goal.is_past-requires
is_past-requires g c held = c.requires.over.over.opened_list.from_floor c.args.start_section (inl held)

pub returns-then-is_past : goal.returns-then-is_past
returns-then-is_past g c = record {
  over = tt;
  begins = tt;
  past = (λ is. c.is_past.ensures.0 c.if-is_past.true, λ has. refl);
  unchanged = refl;
  cause = refl;
}

pub returns : goal.returns
returns g c = record {
  over = begins_walk g.S.Seal.seal_of g.A.CodecFixed.SIZE _ _ (shown c.args.self) c.args.start_section c.args.start_position _ (disk (g.D.Device.time c.args.dev.now)) c.requires.over
      (λ u held past. (let yes = c.is_past.ensures.1 (some_and (λ x. size_of (page_blob.shown x) / g.A.CodecFixed.SIZE < c.args.start_position) ((shown c.args.self).sections.held c.args.start_section) u held past) in let not = c.if-is_past.false in cc (yes, not)));
  begins = record { journal = refl; section = refl; position = refl; first = refl; between = refl; whole = refl; going = refl };
  past = (λ is. absurd (cc is), λ has. (let yes = c.is_past.ensures.1 has in let not = c.if-is_past.false in absurd (cc (yes, not))));
  unchanged = refl;
  cause = tt;
}
