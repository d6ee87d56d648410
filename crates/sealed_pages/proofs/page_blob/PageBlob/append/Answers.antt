use Rattle.std.proofs.Common.{rules, ◌≡◌, ◌+◌, ◌<◌, ◌++◌, ◌^◌, inl, inr, ap, refl, arith, length, length-append}
use Rattle.sealed_pages.specs.Buffer.{extent, size_of}
use Rattle.sealed_pages.specs.Shown.{shown}
use Rattle.sealed_pages.proofs.AppendEnds.{append_refused, append_kept, append_unflushed, append_flushed, over_of, fits_of}
use Rattle.sealed_pages.proofs.page_blob.PageBlob.append.Given as given
use Rattle.sealed_pages.proofs.page_blob.PageBlob.append.Goals as goal
use Rattle.sealed_pages.proofs.page_blob.PageBlob.append.Goals.{After-extend_from_slice, In_ok-extend_from_slice}
use Rattle.blob_device.proofs.general.Results.{err_of}

-- the bytes fit
fits : (g : given.Over) (c : After-extend_from_slice g) → extent c.args.self.page_size (size_of (shown c.args.self) + length c.args.bytes.now) < 2 ^ 64
fits g c = fits_of c.args.self.page_size c.size-at.result (length c.args.bytes.now) (size_of (shown c.args.self)) (length c.args.bytes.now) c.fits.result c.size-at.ensures refl c.fits.ensures c.if-not-fits.false

pub returns-then-not-fits : goal.returns-then-not-fits
returns-then-not-fits g c = append_refused g.D.Device g.S.Seal.seal_of (shown c.args.self) c.args.self.fit.begun c.args.self.fit.within c.args.self.order c.args.bytes.now shown c.args.dev.now c.requires.«open» _ _ refl
    (inl (refl, over_of c.args.self.page_size c.size-at.result (length c.args.bytes.now) (size_of (shown c.args.self)) (length c.args.bytes.now) c.fits.result c.size-at.ensures refl c.fits.ensures c.if-not-fits.true))

pub returns-in_err-extend_from_slice : goal.returns-in_err-extend_from_slice
returns-in_err-extend_from_slice g c = append_refused g.D.Device g.S.Seal.seal_of (shown c.args.self) c.args.self.fit.begun c.args.self.fit.within c.args.self.order c.args.bytes.now shown c.args.dev.now c.requires.«open» _ _ (err_of _ _ c.from_residual.ensures.1)
    (inr (refl, fits g (goal.at.returns-in_err-extend_from_slice g c).After-extend_from_slice))

-- the tip with them
more : (g : given.Over) (c : In_ok-extend_from_slice g) → c.extend_from_slice.new.self.items ≡ c.args.self.tip.items ++ c.args.bytes.now
more g c = search rules

pub returns-then-len-this : goal.returns-then-len-this
returns-then-len-this g c = append_kept g.D.Device g.S.Seal.seal_of (shown c.args.self) c.args.self.fit.begun c.args.self.fit.within c.args.self.order c.args.bytes.now shown c.args.dev.now (fits g (goal.at.returns-then-len-this g c).After-extend_from_slice) _ (more g (goal.at.returns-then-len-this g c).In_ok-extend_from_slice) _ c.size-at.ensures _ refl c.requires.«open» c.args.self.few
    (omega (arith, c.args.self.fit.within, simp length-append at (ap length (more g (goal.at.returns-then-len-this g c).In_ok-extend_from_slice)), c.if-len-this.true))

pub returns-in_err-this : goal.returns-in_err-this
returns-in_err-this g c = append_unflushed g.D.Device g.S.Seal.seal_of (shown c.args.self) c.args.self.fit.begun c.args.self.fit.within c.args.self.order c.args.bytes.now shown c.args.dev.now (fits g (goal.at.returns-in_err-this g c).After-extend_from_slice) _ (more g (goal.at.returns-in_err-this g c).In_ok-extend_from_slice) _ c.size-at.ensures
    (omega (arith, c.args.self.fit.within, simp length-append at (ap length (more g (goal.at.returns-in_err-this g c).In_ok-extend_from_slice)), c.if-len-this.false)) c.flush.new.dev _ _ c.from_residual-in_err-this.ensures.1 c.in_err-this.ensures

pub returns : goal.returns
returns g c = append_flushed g.D.Device g.S.Seal.seal_of (shown c.args.self) c.args.self.fit.begun c.args.self.fit.within c.args.self.order c.args.bytes.now shown c.args.dev.now (fits g (goal.at.returns g c).After-extend_from_slice) _ (more g (goal.at.returns g c).In_ok-extend_from_slice) _ c.size-at.ensures
    (omega (arith, c.args.self.fit.within, simp length-append at (ap length (more g (goal.at.returns g c).In_ok-extend_from_slice)), c.if-len-this.false)) c.flush.new.dev _ c.in_ok-this.this.fit.begun c.in_ok-this.ensures
