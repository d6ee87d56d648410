-- What a replay of a fixed journal shows of itself.
use Rattle.std.specs.Option.{option_map}
use Rattle.sealed_pages.specs.declared.page_blob.PageBlob.{PageBlob}
use Rattle.sealed_pages.specs.Readers.{reading}
use Rattle.section_manager.specs.declared.sealed.AppendFactory.{AppendFactory}
use Rattle.segments.specs.declared.fixed.replaying.Reading.{Reading}
use Rattle.segments.specs.declared.fixed.replaying.Replay.{Replay}
use Rattle.segments.specs.FixedShown.{shown}
use Rattle.segments.specs.FixedReplay.{Place, Walk}
use Rattle.segments.specs.FixedStepping.{standing}

abbrev pub place_of : {S : Type 0} {seal : _} → Reading S seal → Place
place_of r = record { section = r.section; position = r.position; reader = reading r.reader }

abbrev pub walk_of : {A S : Type 0} {fixed codec seal : _} → Replay A S fixed codec seal
    → Walk (AppendFactory S) (PageBlob S seal)
walk_of r = record {
  journal = shown r.journal;
  start_section = r.start_section;
  start_position = r.start_position;
  next_section = r.next_section;
  place = option_map place_of r.reading;
  failed = r.has_failed;
  ended = r.has_ended;
}

-- the replay at this place of a section
abbrev pub walk_at : {A S : Type 0} {fixed codec seal : _} → Replay A S fixed codec seal
    → Reading S seal → Walk (AppendFactory S) (PageBlob S seal)
walk_at r at = standing (walk_of r) (place_of at)
