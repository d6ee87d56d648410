use Rattle.std.proofs.Common.{◌≡◌, ◌≤◌, length, map}
use Rattle.archives.specs.Machine.{asked, replied}
use Rattle.archive_service.proofs.ServingLoop.{SoFar}
use Rattle.archive_service.proofs.serving.serve_each.Given as goal

-- Each command so far has a mark and a reply, and the run has come to the store.
abbrev pub invariant-loop-command : goal.invariant-loop-command
invariant-loop-command g l = record {
  replies : length l.progress.replies ≡ l.command-index;
  within : l.command-index ≤ length l.commands;
  so_far : SoFar (g.A.Store.means l.cfg) g.D.Device l.fn.dev l.dev (map (asked g.A.Key.Key.key_bytes g.A.Value.Codec.spelling) l.commands)
      l.progress.marks (map (replied g.A.Value.Codec.spelling) l.progress.replies) l.archive;
}
