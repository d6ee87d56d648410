use Rattle.std.proofs.Common.{◌+◌, ◌∙◌, ap, sym, subst, take, Option, List, ℕ}
use Rattle.blob_device.specs.declared.memory.blob_log.Call.{Call}
use Rattle.blob_device.specs.Disk.{begun}
use Rattle.blob_device.specs.Calls.{replay, start_of, after}
use Rattle.blob_device.specs.Histories.{IsHistory}
use Rattle.blob_device.proofs.Replay.{replay-nil, replay-take}
use Rattle.blob_device.proofs.memory.blob_log.BlobLog.history.Goals as goal

pub loop-call-init : goal.loop-call-init
loop-call-init c =
    let start : Option (List ℕ) = start_of c.args.self.now.start in
    subst (IsHistory c.in_ok-history.history) (sym (replay-nil (begun start)))
    (subst (λ (o : Option (List ℕ)). IsHistory c.in_ok-history.history (begun o)) c.bytes_of.ensures c.in_ok-history.ensures)

pub loop-call-preserved : goal.loop-call-preserved
loop-call-preserved c =
    let calls = c.deref-call-items.result.now in
    let same = c.deref-call-items.ensures.value in
    let start = begun (start_of c.args.self.now.start) in
    let i = c.loop-call.call-index in
    let before = subst (λ (l : List Call). IsHistory c.loop-call.history (replay (take i l) start)) (sym same) c.loop-call.invariant in
    subst (λ (l : List Call). IsHistory c.advance.new.self (replay (take (i + 1) l) start)) same
    (subst (IsHistory c.advance.new.self) (sym (replay-take calls i c.call-item.result start c.loop-call-test.true ∙ ap (λ (d : Call). after d (replay (take i calls) start)) (sym c.call-item.is)))
    (c.in_ok-advance.ensures (replay (take i calls) start) before))
