use Rattle.std.proofs.Common.{◌≡◌, ◌-◌, ◌/◌, ◌^◌, ℕ, length, sym, subst, arith}
use Rattle.std.specs.Prelude.{IfOk}
use Rattle.blob_device.specs.Disk.{Key}
use Rattle.blob_device.specs.Timeline.{disk}
use Rattle.sealed_pages.specs.BlobReads.{Measures}
use Rattle.sealed_pages.specs.Buffer.{key_of}
use Rattle.sealed_pages.specs.Entries.{IsOpenAt}
use Rattle.sealed_pages.specs.Proven.{proven_prefix}
use Rattle.sealed_pages.specs.Shown.{shown}
use Rattle.sealed_pages.specs.lemmas.Entries.{reads_more}
use Rattle.sealed_pages.specs.lemmas.looking.Looking.{content_length}
use Rattle.sealed_pages.proofs.looking.PieceLemmas.{prefix_all, proven_is}
use Rattle.sealed_pages.proofs.page_blob.PageBlob.recoverable_prefix_len.Given as given
use Rattle.sealed_pages.proofs.page_blob.PageBlob.recoverable_prefix_len.Goals.{After-prefix_len}
use Rattle.sealed_pages.proofs.page_blob.PageBlob.recoverable_prefix_len.Goals as goal

pub prefix_len-requires-clause-open : goal.prefix_len-requires-clause-open
prefix_len-requires-clause-open g c = subst (λ (x : Key × ℕ). IsOpenAt (g.D.Device.opened c.args.dev.now) x.0 x.1) (λ j. (sym c.blob.ensures.key j, sym c.blob.ensures.end j)) c.requires

-- the buffer's own blob was measured
measured : (g : given.Over) (c : After-prefix_len g) → Measures g.D.Device g.S.Seal.seal_of c.args.self.now.page_size (key_of (shown c.args.self.now)) c.args.dev.now c.prefix_len.new.dev c.args.self.now.end (c.args.from / c.args.self.now.page_size) (2 ^ 64 - 1) c.prefix_len.result
measured g c = subst (λ (x : Key × (ℕ × (ℕ × ℕ))). Measures g.D.Device g.S.Seal.seal_of x.1.0 x.0 c.args.dev.now c.prefix_len.new.dev x.1.1.0 (c.args.from / x.1.1.1) (2 ^ 64 - 1) c.prefix_len.result)
    (λ j. (c.blob.ensures.key j, (c.blob.ensures.page_size j, (c.blob.ensures.end j, c.from.ensures j)))) c.prefix_len.ensures

-- up to its last page
proven : (g : given.Over) (c : After-prefix_len g) → g.D.Device.Tells → IfOk c.prefix_len.result (λ n. n ≡ proven_prefix g.S.Seal.seal_of c.args.self.now.page_size (disk (g.D.Device.time c.args.dev.now) (key_of (shown c.args.self.now))).content (c.args.from / c.args.self.now.page_size))
proven g c t =
    let long : length (disk (g.D.Device.time c.args.dev.now) (key_of (shown c.args.self.now))).content ≡ c.args.self.now.end = content_length (g.D.Device.opened c.args.dev.now) (key_of (shown c.args.self.now)) c.args.self.now.end _ (disk (g.D.Device.time c.args.dev.now) (key_of (shown c.args.self.now))).content (g.met.D.Device.opened_stands t c.args.dev.now (key_of (shown c.args.self.now))) c.requires in
    subst (λ (x : ℕ). IfOk c.prefix_len.result (λ n. n ≡ x)) (prefix_all g.S.Seal.seal_of c.args.self.now.page_size (disk (g.D.Device.time c.args.dev.now) (key_of (shown c.args.self.now))).content (c.args.from / c.args.self.now.page_size) (omega (arith, long))) ((measured g c).length t)

pub returns : goal.returns
returns g c = record {
  length = proven g (goal.at.returns g c).After-prefix_len;
  sealed = λ t full. subst (λ (x : ℕ). IfOk c.prefix_len.result (λ n. n ≡ x)) (proven_is g.S.Seal.seal_of c.args.self.now.page_size (disk (g.D.Device.time c.args.dev.now) (key_of (shown c.args.self.now))).content (omega (arith, c.args.self.now.fit.begun)) (c.args.from / c.args.self.now.page_size) full) (proven g (goal.at.returns g c).After-prefix_len t);
  unchanged = (measured g (goal.at.returns g c).After-prefix_len).unchanged;
  reads = reads_more _ _ _ _ _ (omega arith) (measured g (goal.at.returns g c).After-prefix_len).entries;
  faults = (measured g (goal.at.returns g c).After-prefix_len).faults;
  cause = (measured g (goal.at.returns g c).After-prefix_len).cause;
}
