use Rattle.std.proofs.Common.{◌≡◌, ◌∙◌, sym, ap, subst, arith}
use Rattle.std.specs.Option.{option_copied}
use Rattle.std.specs.Int.{to_be_bytes, w64}
use Rattle.blob_device.specs.Images.{contents}
use Rattle.blob_device.specs.MemoryMeaning.{memory_time}
use Rattle.blob_device.specs.Timeline.{disk}
use Rattle.sealed_pages.specs.declared.pages.Pages.{Pages}
use Rattle.section_manager.specs.Setting.{Setting}
use Rattle.value_codec.specs.contracts.seal.Sha256SealSeal.TheImpl as seal
use Rattle.variable_journal.specs.Shown as journal
use Rattle.variable_tests.specs.Stores.{Begins}
use Rattle.variable_tests.proofs.StartLemmas.{begins_here, owed, reads_so}
use Rattle.variable_tests.proofs.starts.may_begin.Goals as goal

pub returns : goal.returns
returns c starts held =
    let s = c.args.start.0 in
    let j = journal.shown c.args.journal.now in
    let d = disk (memory_time c.args.dev.now) in
    let placed : c.as_str.result.now ≡ j.sections.partition = cc (c.as_str.ensures.value, c.requires.kept.partition) in
    let named : c.as_slice.result.now ≡ to_be_bytes w64 s = cc (c.as_slice.ensures, c.to_be_bytes.ensures) in
    let is = sym (sym (ap option_copied c.in-Some.is) ∙ c.blob.ensures) in
    let kept = c.as_slice-2.ensures.value ∙ c.in_ok-kept.ensures in
    begins_here seal.ghosts.seal_of j d s c.args.start.1 c.args.cfg.now.pages.page_size c.in-Some.blob.now
    (owed j s c.is_recovered.result c.is_recovered.ensures c.if-is_recovered.false (omega (arith, c.requires.kept.ceiling)))
    (λ u of_it. ap (λ (t : Setting). t.page_size) (c.requires.over.bytes.over.opened_list.setting s u of_it) ∙ ap (λ (p : Pages). p.page_size) c.requires.kept.pages)
    (reads_so d (contents c.in_ok-image.image) j.sections.partition c.as_str.result.now (to_be_bytes w64 s) c.as_slice.result.now c.in-Some.blob.now c.in_ok-image.ensures.ok is placed named)
    (subst (λ b. Begins b c.args.start.1) kept (c.is_start.ensures starts)) held
