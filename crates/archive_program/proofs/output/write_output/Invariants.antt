use Rattle.std.proofs.Common.{◌≡◌, ◌≤◌, ℕ, List, [], ◌++◌, length}
use Rattle.archive_program.proofs.output.write_output.Given as goal

abbrev pub invariant-loop-rest : goal.invariant-loop-rest
invariant-loop-rest g l = record {
  faults : g.W.Sink.faults l.initial.out ≤ g.W.Sink.faults l.out;
  nothing : l.text ≡ [] → (l.rest ≡ []) × (l.out ≡ l.initial.out);
  told : g.W.Sink.Tells → (written : List ℕ) × (l.text ≡ written ++ l.rest) × (g.W.Sink.taken l.out ≡ g.W.Sink.taken l.initial.out ++ written);
}

abbrev pub decreases-loop-rest : goal.decreases-loop-rest
decreases-loop-rest g l = length l.rest
