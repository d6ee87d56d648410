use Rattle.std.proofs.Common.{◌-◌, ◌≡◌, ◌++◌, ◌∙◌, ap, min, OnOk, length, subst, ℕ, List, take, drop}
use borrow.Rule.Slice.PartMut.{put_mid}
use Rattle.blob_device.specs.Disk.{Key}
use Rattle.blob_device.specs.Timeline.{disk}
use Rattle.sealed_pages.specs.Filled.{HasBytes}
use Rattle.sealed_pages.specs.unsealed.Writing.{shown, blob_key}
use Rattle.sealed_pages.specs.lemmas.looking.Looking.{content_length, unchanged_on}
use Rattle.sealed_pages.proofs.unsealed.RunLemmas.{filled, on_ok}
use Rattle.sealed_pages.proofs.unsealed.WritingLemmas.{read_once}
use Rattle.sealed_pages.proofs.write_blob.WriteBlob.read_blob.Goals as goal

pub returns-clause-bytes : goal.returns-clause-bytes
returns-clause-bytes g c t =
    let k : Key = blob_key (shown c.args.self.now) in
    let have : ℕ = c.min-have.result in
    let long : length (disk (g.D.Device.time c.args.dev.now) (blob_key (shown c.args.self.now))).content ≡ c.args.self.now.end
    = content_length (g.D.Device.opened c.args.dev.now) k c.args.self.now.end _ _ (g.met.D.Device.opened_stands t c.args.dev.now k) c.requires.«open» in
    let whole : List ℕ = put_mid c.min-have.result (length c.args.buf.now - c.min-have.result) c.args.buf.now c.fill.new.self in
    on_ok c.read_at.result _ (HasBytes (disk (g.D.Device.time c.args.dev.now) k).content c.args.offset (c.read_at.new.buf ++ drop c.min-have.result whole))
    (λ read. filled (disk (g.D.Device.time c.args.dev.now) k).content c.args.offset c.args.self.now.end c.min-have.result c.args.buf.now c.fill.new.self c.read_at.new.buf long
    (c.min-have.ensures ∙ ap (λ (n : ℕ). min n (length c.args.buf.now)) c.saturating_sub.ensures) (c.fill.ensures.after (λ y e. e)) read)
    (subst (λ (q : Key). OnOk c.read_at.result (c.read_at.new.buf ≡ take (length (take c.min-have.result whole)) (drop c.args.offset (disk (g.D.Device.time c.args.dev.now) q).content))) (λ i. (c.as_str.ensures.value i, c.as_slice.ensures.value i)) (c.read_at.ensures.bytes t))

pub returns-clause-unchanged : goal.returns-clause-unchanged
returns-clause-unchanged g c t = unchanged_on (g.D.Device.time c.args.dev.now) (g.D.Device.time c.read_at.new.self) (c.read_at.ensures.told t)

pub returns-clause-reads : goal.returns-clause-reads
returns-clause-reads g c = read_once c.as_str.ensures.value c.as_slice.ensures.value (g.D.Device.opened c.args.dev.now) (g.D.Device.opened c.read_at.new.self) c.args.self.now.end c.requires.«open» c.read_at.ensures.opened
