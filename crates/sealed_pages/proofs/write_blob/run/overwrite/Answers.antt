use Rattle.std.proofs.Common.{◌≡◌, length, sym, ◌∙◌, ap, arith}
use Rattle.sealed_pages.proofs.unsealed.RunLemmas.{overwritten, if_pushed}
use Rattle.sealed_pages.proofs.write_blob.run.overwrite.Goals as goal

pub returns : goal.returns
returns c =
    let len : c.args.run.now.len ≡ length c.args.run.now.items = sym c.deref_mut.ensures.len ∙ ap length c.deref_mut.ensures.value in
    if_pushed c.extend_from_slice.result _ _ _ _ c.extend_from_slice.ensures.items
    (overwritten c.args.run.now.items c.deref_mut.result.now c.copy_from_slice.new.self c.split_at.result.0.now c.split_at.result.1.now c.args.bytes.now c.args.at c.min-over.result c.args.run.now.len
    c.deref_mut.ensures.value len c.requires (omega (arith, c.min-over.ensures, c.len.ensures, len)) c.copy_from_slice.ensures.after c.split_at.ensures.front c.split_at.ensures.back)
