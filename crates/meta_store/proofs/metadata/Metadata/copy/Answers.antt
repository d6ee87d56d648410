use Rattle.std.proofs.Common.{◌∙◌, ◌++◌, ap, arith}
use Rattle.meta_store.specs.Copies.{copy_bytes, form_of}
use Rattle.meta_store.proofs.Texts.{copy_written}
use Rattle.meta_store.proofs.metadata.Metadata.copy.Goals as goal

pub returns-clause-copy : goal.returns-clause-copy
returns-clause-copy g c =
    let body = c.in_ok-body.body.items in
    copy_written g.S.Seal.seal_of c.args.version c.len-len.result c.seal-seal.result (form_of c.args.self.now.floor) body
    c.new-copy.result.items c.extend_from_slice.new.self.items c.write_form.new.out.items c.extend_from_slice-2.new.self.items c.extend_from_slice-3.new.self.items c.extend_from_slice-4.new.self.items
    c.new-copy.ensures.items
    (c.in_ok-extend_from_slice.ensures.items ∙ ap (λ l. c.new-copy.result.items ++ l) c.to_be_bytes.ensures)
    c.in_ok-write_form.ensures.appended
    (c.in_ok-extend_from_slice-2.ensures.items ∙ ap (λ l. c.write_form.new.out.items ++ l) c.to_be_bytes-2.ensures)
    (c.in_ok-extend_from_slice-3.ensures.items ∙ ap (λ l. c.extend_from_slice-2.new.self.items ++ l) c.deref.ensures.value)
    (c.in_ok-extend_from_slice-4.ensures.items ∙ ap (λ l. c.extend_from_slice-3.new.self.items ++ l) c.to_be_bytes-3.ensures)
    (omega (arith, c.len-len.ensures))
    (c.seal-seal.ensures ∙ ap g.S.Seal.seal_of c.deref-2.ensures.value)
    ∙ ap (copy_bytes g.S.Seal.seal_of c.args.version (form_of c.args.self.now.floor)) c.in_ok-body.ensures.body
