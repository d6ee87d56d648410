use Rattle.std.proofs.Common.{◌≡◌, ◌∙◌, ◌+◌, ◌/◌, ◌%◌, min, Result, ℕ, ap, sym, subst, arith}
use Rattle.blob_device.specs.Disk.{Key}
use Rattle.blob_device.specs.Timeline.{disk}
use Rattle.blob_device.specs.declared.runtime.RError.{RError}
use Rattle.sealed_pages.specs.BlobReads.{Measures}
use Rattle.sealed_pages.specs.Buffer.{key_of}
use Rattle.sealed_pages.specs.Entries.{IsOpenAt}
use Rattle.sealed_pages.specs.Proven.{prefix_upto}
use Rattle.sealed_pages.specs.Reads.{pages_for}
use Rattle.sealed_pages.specs.Shown.{shown}
use Rattle.sealed_pages.proofs.looking.PieceLemmas.{pages_up, prefix_at_most}
use Rattle.sealed_pages.proofs.cutting.Truncating.{no_value}
use Rattle.sealed_pages.proofs.page_blob.PageBlob.recoverable_prefix_len_at_most.Given as given
use Rattle.sealed_pages.proofs.page_blob.PageBlob.recoverable_prefix_len_at_most.Goals.{After-prefix_len}
use Rattle.sealed_pages.proofs.page_blob.PageBlob.recoverable_prefix_len_at_most.Goals as goal
use Rattle.blob_device.proofs.general.Results.{err_of}

pub prefix_len-requires-clause-open : goal.prefix_len-requires-clause-open
prefix_len-requires-clause-open g c = subst (λ (x : Key × ℕ). IsOpenAt (g.D.Device.opened c.args.dev.now) x.0 x.1) (λ j. (sym c.blob.ensures.key j, sym c.blob.ensures.end j)) c.requires

-- the buffer's own blob was measured, up to the page of the last byte that is asked for
measured : (g : given.Over) (c : After-prefix_len g) → Measures g.D.Device g.S.Seal.seal_of c.args.self.now.page_size (key_of (shown c.args.self.now)) c.args.dev.now c.prefix_len.new.dev c.args.self.now.end (c.args.from / c.args.self.now.page_size) (pages_for c.args.self.now.page_size c.args.end) c.prefix_len.result
measured g c =
    let count : c.div_ceil.result ≡ pages_for c.args.self.now.page_size c.args.end = c.div_ceil.ensures ∙ ap (λ (n : ℕ). c.args.end / n + min 1 (c.args.end % n)) c.from-size.ensures ∙ pages_up c.args.self.now.page_size c.args.end (omega (arith, c.args.self.now.fit.begun)) in
    subst (λ (x : Key × (ℕ × (ℕ × (ℕ × ℕ)))). Measures g.D.Device g.S.Seal.seal_of x.1.0 x.0 c.args.dev.now c.prefix_len.new.dev x.1.1.0 (c.args.from / x.1.1.1.0) x.1.1.1.1 c.prefix_len.result)
    (λ j. (c.blob.ensures.key j, (c.blob.ensures.page_size j, (c.blob.ensures.end j, (c.from-size.ensures j, count j))))) c.prefix_len.ensures

pub returns-in_err-len : goal.returns-in_err-len
returns-in_err-len g c =
    let seen : Measures g.D.Device g.S.Seal.seal_of c.args.self.now.page_size (key_of (shown c.args.self.now)) c.args.dev.now c.prefix_len.new.dev c.args.self.now.end (c.args.from / c.args.self.now.page_size) (pages_for c.args.self.now.page_size c.args.end) c.from_residual.result
    = subst (λ (r : Result ℕ RError). Measures g.D.Device g.S.Seal.seal_of c.args.self.now.page_size (key_of (shown c.args.self.now)) c.args.dev.now c.prefix_len.new.dev c.args.self.now.end (c.args.from / c.args.self.now.page_size) (pages_for c.args.self.now.page_size c.args.end) r) (c.in_err-len.was ∙ sym (err_of c.from_residual.result c.in_err-len.field-0.0 c.from_residual.ensures.1)) (measured g (goal.at.returns-in_err-len g c).After-prefix_len) in
    record {
      length = λ t. no_value _ _ c.from_residual.ensures.0;
      unchanged = seen.unchanged;
      reads = seen.entries;
      faults = seen.faults;
      cause = seen.cause;
    }

pub returns : goal.returns
returns g c =
    let seen = subst (λ (r : Result ℕ RError). Measures g.D.Device g.S.Seal.seal_of c.args.self.now.page_size (key_of (shown c.args.self.now)) c.args.dev.now c.prefix_len.new.dev c.args.self.now.end (c.args.from / c.args.self.now.page_size) (pages_for c.args.self.now.page_size c.args.end) r) c.in_ok-len.was (measured g (goal.at.returns g c).After-prefix_len) in
    record {
      length = λ t.
          let least : c.min.result ≡ min c.args.end (prefix_upto g.S.Seal.seal_of c.args.self.now.page_size (disk (g.D.Device.time c.args.dev.now) (key_of (shown c.args.self.now))).content (c.args.from / c.args.self.now.page_size) (pages_for c.args.self.now.page_size c.args.end)) = omega (arith, c.min.ensures, seen.length t) in
          least ∙ prefix_at_most g.S.Seal.seal_of c.args.self.now.page_size (disk (g.D.Device.time c.args.dev.now) (key_of (shown c.args.self.now))).content (c.args.from / c.args.self.now.page_size) c.args.end (omega (arith, c.args.self.now.fit.begun));
      unchanged = seen.unchanged;
      reads = seen.entries;
      faults = seen.faults;
      cause = tt;
    }
