use Rattle.std.proofs.Common.{◌≡◌, ◌∙◌, ◌||◌, Bool, true, cond, Some, None, List, ℕ, ap, refl, sym}
use Rattle.blob_device.specs.Calls.{now}
use Rattle.blob_device.specs.Tracks.{track_of}
use Rattle.blob_device.specs.Picked.{mixed_bytes}
use Rattle.blob_device.proofs.CrashLemmas.{mixed_is}
use Rattle.blob_device.proofs.memory.crash.MixerMakeBlobLogVecU8.make.Goals as goal

pub returns-clause-made : goal.returns-clause-made
returns-clause-made c =
    let b = now (track_of c.args.value.now) in
    let s = c.args.self.now in
    let there : (b.there || b.unsure) ≡ true = sym (c.if-not-may_be_there.ensures b c.in_ok-history.ensures) in
    ap (λ (l : List ℕ). Some l) (mixed_is s.bits s.number b c.in_ok-bytes.bytes.items (c.in_ok-bytes.ensures.blob b s.number c.in_ok-history.ensures refl))
    ∙ sym (ap (λ (v : Bool). cond v (Some (mixed_bytes s.bits s.number b)) None) there)
