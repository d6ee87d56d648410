use Rattle.std.proofs.Common.{◌≡◌, ◌∙◌, Some, Option, ap, sym, rules}
use Rattle.blob_device.specs.declared.memory.blob_log.BlobLog.{BlobLog}
use Rattle.blob_device.specs.Disk.{Key, put}
use Rattle.blob_device.specs.Tables.{at_name, at_key}
use Rattle.blob_device.specs.Calls.{pushed, Track}
use Rattle.blob_device.specs.Tracks.{track_at, tracks_of}
use Rattle.blob_device.proofs.Maps.{table_put, table_same, here_was}
use Rattle.blob_device.proofs.memory.logs.step_at.Goals as goal
use Rattle.blob_device.proofs.general.Results.{err_with, on_err, on_ok_two}

pub returns-in_err-make_partition-clause-err : goal.returns-in_err-make_partition-clause-err
returns-in_err-make_partition-clause-err c = err_with c.from_residual.result (ap (λ (f : Key → Option BlobLog). λ k. track_at (f k)) c.make_partition.ensures.same)

pub returns-clause-ok : goal.returns-clause-ok
returns-clause-ok c =
    let updates = (c.get_mut.follows.holds c.step_in.new.names).3 (search rules) in
    let room = c.make_partition.new.partitions in
    let more = c.get_mut.follows.lender c.step_in.new.names in
    let k : Key = (c.args.partition.now, c.args.name.now) in
    let was : at_name room c.args.partition.now ≡ Some c.in-Some.names.now = sym c.in-Some.ensures.value in
    let same : ◌≡◌ {A = Key → Track} (λ q. track_at (at_key room q)) (tracks_of c.args.logs.now) = ap (λ (f : Key → Option BlobLog). λ q. track_at (f q)) c.make_partition.ensures.same in
    let here = here_was track_at c.args.partition.now c.args.name.now room more c.in-Some.names.now c.step_in.new.names updates was in
    on_ok_two c.step_in.result (λ w others. record {
      call = w.0;
      is = w.1;
      tracks = table_put track_at c.args.partition.now c.args.name.now room more c.in-Some.names.now c.step_in.new.names updates was (pushed w.0 (tracks_of c.args.logs.now k))
          (w.2 ∙ ap (pushed w.0) (sym here ∙ ap (λ (f : Key → Track). f k) same)) others
          ∙ ap (λ (f : Key → Track). put f k (pushed w.0 (tracks_of c.args.logs.now k))) same;
    }) c.step_in.ensures.here c.step_in.ensures.others

pub returns-clause-err : goal.returns-clause-err
returns-clause-err c =
    let updates = (c.get_mut.follows.holds c.step_in.new.names).3 (search rules) in
    let room = c.make_partition.new.partitions in
    let more = c.get_mut.follows.lender c.step_in.new.names in
    let was : at_name room c.args.partition.now ≡ Some c.in-Some.names.now = sym c.in-Some.ensures.value in
    on_err c.step_in.result (λ unchanged. table_same track_at c.args.partition.now c.args.name.now room more c.in-Some.names.now c.step_in.new.names updates was unchanged
    ∙ ap (λ (f : Key → Option BlobLog). λ q. track_at (f q)) c.make_partition.ensures.same) c.step_in.ensures.err
