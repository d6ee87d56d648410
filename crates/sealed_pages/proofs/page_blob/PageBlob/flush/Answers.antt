use Rattle.std.proofs.Common.{arith}
use Rattle.sealed_pages.specs.Shown.{shown}
use Rattle.sealed_pages.proofs.FlushEnds.{flush_idle, flush_unrepaired, flush_written}
use Rattle.sealed_pages.proofs.page_blob.PageBlob.flush.Goals as goal
use Rattle.blob_device.proofs.general.Results.{err_of}

pub returns-then-self-len : goal.returns-then-self-len
returns-then-self-len g c = flush_idle g.D.Device g.S.Seal.seal_of shown c.args.dev.now c.args.self c.args.self.fit.begun c.args.self.fit.within c.args.self.few (omega (arith, c.if-self-len.true)) c.requires.«open»

pub returns-in_err-this : goal.returns-in_err-this
returns-in_err-this g c = flush_unrepaired g.D.Device g.S.Seal.seal_of shown (shown c.args.self) (omega (arith, c.if-self-len.false)) _ _ _ _ (err_of _ _ c.from_residual.ensures.1) c.in_err-this.ensures

pub returns : goal.returns
returns g c = flush_written g.D.Device g.S.Seal.seal_of shown (shown c.args.self) (omega (arith, c.if-self-len.false)) _ _ c.in_ok-this.this c.in_ok-this.ensures c.written.new.dev c.written.result c.written.ensures c.args.self.full c.args.self.order (λ v. v.fit.begun)
