-- The group's name, and then what it holds.
use Rattle.std.proofs.Common.{◌≡◌, codes, subst, sym, ap, ◌∙◌}
use Rattle.meta_store.specs.declared.error.Error.TheVariants.{Corruption}
use Rattle.meta_store.specs.declared.error.Side.TheVariants.{Left, Right}
use Rattle.archive_service.specs.ErrorTexts.{metadata_text}
use Rattle.archive_service.specs.Writing.{Appends}
use Rattle.archive_service.proofs.TextLemmas.{appends_last}
use Rattle.archive_service.proofs.error_text.append_metadata.Goals as goal

pub returns-in-Corruption-Left : goal.returns-in-Corruption-Left
returns-in-Corruption-Left c =
    let last = c.extend_from_slice-in-Corruption-Left in
    let held : c.in-Corruption-Left.field-0 ≡ Left = rw c.in-Corruption-Left.is at c.in-Corruption-Left.field-0-is in
    let is = c.in-Corruption-Left.is ∙ ap Corruption held in
    subst (λ e. Appends last.result c.args.out.now.items (metadata_text e) last.new.self.items) (sym is)
    (appends_last last.result c.args.out.now.items c.extend_from_slice.new.self.items last.new.self.items (codes "metadata ") (codes "corruption left") c.in_ok-extend_from_slice.ensures.items last.ensures.items)

pub returns-in-Corruption-Right : goal.returns-in-Corruption-Right
returns-in-Corruption-Right c =
    let last = c.extend_from_slice-in-Corruption-Right in
    let held : c.in-Corruption-Right.field-0 ≡ Right = rw c.in-Corruption-Right.is at c.in-Corruption-Right.field-0-is in
    let is = c.in-Corruption-Right.is ∙ ap Corruption held in
    subst (λ e. Appends last.result c.args.out.now.items (metadata_text e) last.new.self.items) (sym is)
    (appends_last last.result c.args.out.now.items c.extend_from_slice.new.self.items last.new.self.items (codes "metadata ") (codes "corruption right") c.in_ok-extend_from_slice.ensures.items last.ensures.items)

pub returns-in-Full : goal.returns-in-Full
returns-in-Full c =
    let last = c.extend_from_slice-in-Full in
    subst (λ e. Appends last.result c.args.out.now.items (metadata_text e) last.new.self.items) (sym c.in-Full.is)
    (appends_last last.result c.args.out.now.items c.extend_from_slice.new.self.items last.new.self.items (codes "metadata ") (codes "full") c.in_ok-extend_from_slice.ensures.items last.ensures.items)
