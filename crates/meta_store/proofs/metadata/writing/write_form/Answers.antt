use Rattle.std.proofs.Common.{◌∙◌, ◌++◌, ◌∷◌, [], sym, ap}
use Rattle.std.specs.Int.{w64, to_be_bytes}
use Rattle.std.proofs.lemmas.List.{append_assoc}
use Rattle.meta_store.specs.Copies.{form_bytes}
use Rattle.meta_store.proofs.Forms.{form_above, form_at_zero}
use Rattle.meta_store.proofs.metadata.writing.write_form.Goals as goal

pub returns-then-floor-eq0-clause-appended : goal.returns-then-floor-eq0-clause-appended
returns-then-floor-eq0-clause-appended c =
    c.in_ok-push.ensures.items ∙ ap (λ form. c.args.out.now.items ++ form_bytes form) (sym (form_at_zero c.args.floor c.if-floor-eq0.true))

pub returns-clause-appended : goal.returns-clause-appended
returns-clause-appended c =
    c.in_ok-extend_from_slice.ensures.items ∙ ap (λ l. c.push-2.new.self.items ++ l) c.to_be_bytes.ensures
    ∙ ap (λ l. l ++ to_be_bytes w64 c.args.floor) c.in_ok-push-2.ensures.items
    ∙ append_assoc c.args.out.now.items (2 ∷ []) (to_be_bytes w64 c.args.floor)
    ∙ ap (λ form. c.args.out.now.items ++ form_bytes form) (sym (form_above c.args.floor c.if-floor-eq0.false))
