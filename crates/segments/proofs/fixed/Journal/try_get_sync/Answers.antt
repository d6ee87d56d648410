use Rattle.std.proofs.Common.{◌≡◌, ◌∙◌, ◌*◌, true, List, ℕ, None, sym, subst}
use Rattle.sealed_pages.specs.Buffer.{bytes_of}
use Rattle.sealed_pages.specs.Reads.{IsCacheFor}
use Rattle.sealed_pages.specs.Shown as page_blob
use Rattle.sealed_pages.specs.declared.page_blob.PageBlob.{PageBlob}
use Rattle.segments.specs.FixedItems.{item_at}
use Rattle.segments.specs.FixedReading.{is_item_held}
use Rattle.segments.proofs.fixed.Journal.try_get_sync.Goals as goal
use Rattle.blob_device.proofs.general.Options.{some_same}
use Rattle.blob_device.proofs.general.Results.{if_ok_weaker}

pub returns-clause-none : goal.returns-clause-none
returns-clause-none g c = if_ok_weaker c.held_item.result c.held_item.ensures.none (λ r none is u held from has. (
    let Refused : PageBlob g.row.S.Denot g.S.Seal → Type 0
    = λ w. is_item_held g.A.CodecFixed.SIZE w c.args.position ≡ true → (content : List ℕ) → IsCacheFor g.S.Seal.seal_of (page_blob.shown w) content (c.args.position * g.A.CodecFixed.SIZE) g.A.CodecFixed.SIZE
    → g.A.Codec.refusal (item_at g.A.CodecFixed.SIZE (bytes_of (page_blob.shown w) content) c.args.position) tt ≡ None → ⊥ in
    subst Refused (some_same c.in-Ok.buffer.now u (sym c.in-Ok.ensures.held ∙ held)) (none is)))
