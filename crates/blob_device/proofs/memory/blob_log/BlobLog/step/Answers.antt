use Rattle.std.proofs.Common.{◌≡◌, ◌∙◌, ◌++◌, ◌∷◌, [], List, sym, subst, ap, arith, vec_len, vec_capacity}
use Rattle.blob_device.specs.declared.memory.blob_log.Call.{Call}
use Rattle.blob_device.specs.Disk.{begun}
use Rattle.blob_device.specs.Calls.{Reads, replay, start_of}
use Rattle.blob_device.proofs.Replay.{reads_push, push_fits}
use Rattle.blob_device.proofs.memory.blob_log.BlobLog.step.Goals as goal

pub invariant_of-self-2 : goal.invariant_of-self-2
invariant_of-self-2 c =
    let log = c.args.self.now in
    let call : Call = record { number = c.args.number; step = c.args.step; failed = c.args.failed } in
    let items : c.push.new.self.items ≡ log.calls.items ++ call ∷ [] =
    push_fits c.push.result _ _ call (vec_capacity c.reserve.new.self) (vec_len c.reserve.new.self) c.push.ensures.full (omega (arith, c.in_ok-reserve.ensures.ok)) c.push.ensures.items
    ∙ ap (λ (l : List Call). l ++ call ∷ []) c.reserve.ensures.items in
    record {
      bytes = log.bytes;
      tied = subst (λ (l : List Call). Reads (replay l (begun (start_of log.start))) c.apply.new.self.there c.apply.new.self.content.items) (sym items)
          (reads_push log.calls.items call _ _ _ (c.in_ok-apply.ensures.ok _ log.tied));
    }
