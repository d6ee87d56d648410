use Rattle.std.proofs.Common.{◌/◌, take}
use Rattle.std.specs.List.{Contains}
use Rattle.segments.specs.FixedLists.{section_size}
use Rattle.segments.specs.FixedShown as fixed
use Rattle.paired.specs.sighted.Shown.{shown}
use Rattle.paired.proofs.tracking.Lemmas.{Noted}
use Rattle.paired.proofs.oversized.syncing.note_synced.Given as goal

abbrev pub invariant-loop-section : goal.invariant-loop-section
invariant-loop-section g l = Noted (Contains (take l.section-index l.sections)) (λ s. section_size (fixed.shown l.index).sections s / g.I.CodecFixed.SIZE) (shown l.initial.tracking) (shown l.tracking)
