use Rattle.std.proofs.Common.{◌∙◌, ◌++◌, ap, arith}
use Rattle.meta_store.proofs.EntryTexts.{entry_written}
use Rattle.meta_store.proofs.metadata.writing.write_entry.Goals as goal

pub returns-in-Ok-clause-appended : goal.returns-in-Ok-clause-appended
returns-in-Ok-clause-appended g c =
    entry_written g.K.Key.key_bytes g.V.Codec.spelling c.args.key.now c.args.value.now c.args.out.now.items c.extend_from_slice.new.self.items c.extend_from_slice-2.new.self.items c.write.new.out.items
    c.encode_size-size.result
    (c.in_ok-extend_from_slice.ensures.items ∙ ap (λ l. c.args.out.now.items ++ l) c.as_bytes.ensures)
    (c.in_ok-extend_from_slice-2.ensures.items ∙ ap (λ l. c.extend_from_slice.new.self.items ++ l) c.to_be_bytes.ensures)
    (omega (arith, c.encode_size-size.ensures, c.requires))
    c.in-Ok.ensures.appended
