use Rattle.std.specs.Prelude.{◌≤◌, ◌-◌}
use Rattle.variable_journal.proofs.TryingLemmas.{NoneWithin}
use Rattle.variable_journal.proofs.journal.Journal.held_length.Given as goal

-- so many bytes end no length
abbrev pub invariant-bytes : goal.invariant-bytes
invariant-bytes g l = record {
  few : l.count ≤ 5;
  none : NoneWithin g.S.Seal.seal_of l.buffer l.offset l.count;
}

abbrev pub decreases-bytes : goal.decreases-bytes
decreases-bytes g l = 5 - l.count
