use Rattle.std.proofs.Common.{◌+◌, ℕ, List, subst, arith}
use Rattle.std.specs.Prelude.{Ok, Err}
use Rattle.sealed_pages.specs.unsealed.Writing as writing
use Rattle.ordinal_store.specs.Adopting.{Adopting}
use Rattle.ordinal_store.specs.Mending.{IsInLeft, IsMade, Mending, whole}
use Rattle.ordinal_store.specs.Shown.{shown}
use Rattle.ordinal_store.specs.Slots.{section_key}
use Rattle.ordinal_store.specs.Stores.{key_of, sight}
use Rattle.ordinal_store.proofs.MendLemmas.{mending_at, ready_own}
use Rattle.ordinal_store.proofs.ReopenLemmas.{reopen_done, reopen_refused}
use Rattle.ordinal_store.proofs.store.Ordinal.reopened.Goals as goal

pub returns-in_err-buffer : goal.returns-in_err-buffer
returns-in_err-buffer g c =
    let key = key_of (shown g.A.CodecFixed.SIZE g.S.Seal.seal_of g.A.Codec.refusal c.args.self.now) c.args.section in
    let old = sight g.D.Device c.args.dev.now in
    let mid = sight g.D.Device c.adopted.new.dev in
    reopen_refused g.D.Device.Tells key c.args.self.now.capacity (g.A.CodecFixed.SIZE + 4) (omega arith) c.args.marks.now old mid (λ t. g.met.D.Device.as_read t c.args.dev.now key) c.from_residual.result c.in_err-buffer.field-0.0 c.from_residual.ensures.1
    (subst (λ (p : List ℕ). Adopting g.D.Device.Tells (section_key p c.args.section) c.args.self.now.capacity (Err c.in_err-buffer.field-0.0) old mid) c.as_str.ensures.value c.in_err-buffer.ensures)

pub mended-requires : goal.mended-requires
mended-requires g c = record {
  some = omega arith;
  ready = ready_own g.D.Device.Tells (section_key c.as_str.result.now c.args.section) c.args.self.now.capacity (sight g.D.Device c.adopted.new.dev) c.in_ok-buffer.buffer c.in_ok-buffer.ensures.ready;
}

pub returns : goal.returns
returns g c =
    let size = g.A.CodecFixed.SIZE + 4 in
    let first = sight g.D.Device c.args.dev.now in
    let next = sight g.D.Device c.adopted.new.dev in
    let last = sight g.D.Device c.mended.new.dev in
    let u = c.in_ok-buffer.buffer in
    let marks = c.args.marks.now in
    let place = key_of (shown g.A.CodecFixed.SIZE g.S.Seal.seal_of g.A.Codec.refusal c.args.self.now) c.args.section in
    let adopting = subst (λ (p : List ℕ). Adopting g.D.Device.Tells (section_key p c.args.section) c.args.self.now.capacity (Ok u) first next) c.as_str.ensures.value c.in_ok-buffer.ensures in
    let mending = subst (λ (n : ℕ). Mending g.D.Device.Tells (writing.blob_key (writing.shown u)) u.capacity (IsInLeft (n + 4) marks (whole (n + 4) (writing.size_of (writing.shown u)))) (whole (n + 4) (writing.size_of (writing.shown u))) (IsMade (n + 4) marks) u c.mended.result next last) c.SIZE.ensures c.mended.ensures in
    reopen_done g.D.Device.Tells place c.args.self.now.capacity size (omega arith) marks first next (λ t. g.met.D.Device.as_read t c.args.dev.now place) u adopting last c.mended.result
    (mending_at g.D.Device.Tells place c.args.self.now.capacity (IsInLeft size marks (whole size (writing.size_of (writing.shown u)))) (whole size (writing.size_of (writing.shown u))) (IsMade size marks) u c.mended.result next last adopting.ready mending)
