use Rattle.std.proofs.Common.{◌≡◌, Err, ◌∙◌, ap}
use Rattle.std.specs.Prelude.{string_bytes}
use Rattle.std.specs.BTreeSet.{contains}
use Rattle.std.specs.Ordering.{nat_cmp}
use Rattle.section_manager.specs.Answers.{seen}
use Rattle.section_manager.specs.contracts.sealed.PageBlobSectionBuffer.TheImpl.{ghosts}
use Rattle.section_manager.specs.managing.Managed.{shown}
use Rattle.section_manager.specs.declared.journal.Error.TheVariants.{Mem}
use Rattle.section_manager.specs.Sections.{Sections}
use Rattle.section_manager.specs.declared.sealed.AppendFactory.{AppendFactory}
use Rattle.segments.specs.FixedShown as journal
use Rattle.sealed_pages.specs.declared.page_blob.PageBlob.{PageBlob}
use Rattle.segments.proofs.opened.Opens.{opens_none, opens_failed, opens_memory, opens_ok, opens_as}
use Rattle.segments.specs.lemmas.adding.Write.{are_pages}
use Rattle.segments.proofs.fixed.Journal.init_bounded.Goals as goal
use Rattle.blob_device.proofs.general.Results.{err_of}

pub returns-in_err-manager : goal.returns-in_err-manager
returns-in_err-manager g c =
    let f = c.in_err-manager.ensures in
    let e = c.in_err-manager.field-0.0 in
    let r = seen journal.shown c.from_residual-in_err-manager.result in
    opens_as (ghosts g.row.S g.S.Seal g.S.Seal-dict) (λ x. record { page_size = x.pages.page_size; capacity = x.write_buffer; cache_pages = x.pages.cache_pages }) g.S.Seal.seal_of g.A.CodecFixed.SIZE c.args.ceiling g.D.Device
    r c.args.dev.now c.init_bounded.new.dev (string_bytes c.in_ok-clone.field-0) (string_bytes c.args.cfg.now.partition) c.new.result c.args.cfg.now.pages c.args.cfg.now.write_buffer c.in_ok-clone.ensures.cases c.new.ensures.pages c.new.ensures.write_buffer
    (opens_failed (ghosts g.row.S g.S.Seal g.S.Seal-dict) (λ x. record { page_size = x.pages.page_size; capacity = x.write_buffer; cache_pages = x.pages.cache_pages }) g.S.Seal.seal_of g.A.CodecFixed.SIZE (string_bytes c.in_ok-clone.field-0) c.new.result c.args.ceiling g.D.Device
    {U = Sections (AppendFactory g.row.S.Denot) (PageBlob g.row.S.Denot g.S.Seal)} r e c.args.dev.now c.init_bounded.new.dev
    (ap (seen journal.shown) (err_of c.from_residual-in_err-manager.result e c.from_residual-in_err-manager.ensures.1))
    f.moments f.foreign_disk f.foreign_entries f.name_entries f.named f.entries f.faults f.cause)

pub returns-in_err-unrecovered : goal.returns-in_err-unrecovered
returns-in_err-unrecovered g c =
    let o = c.in_ok-manager.ensures in
    let e = c.in_err-unrecovered.field-0.0 in
    let r = seen journal.shown c.from_residual-in_err-unrecovered.result in
    let memory : e ≡ Mem = (let cause = c.in_err-unrecovered.ensures.cause in cc cause) in
    opens_as (ghosts g.row.S g.S.Seal g.S.Seal-dict) (λ x. record { page_size = x.pages.page_size; capacity = x.write_buffer; cache_pages = x.pages.cache_pages }) g.S.Seal.seal_of g.A.CodecFixed.SIZE c.args.ceiling g.D.Device
    r c.args.dev.now c.init_bounded.new.dev (string_bytes c.in_ok-clone.field-0) (string_bytes c.args.cfg.now.partition) c.new.result c.args.cfg.now.pages c.args.cfg.now.write_buffer c.in_ok-clone.ensures.cases c.new.ensures.pages c.new.ensures.write_buffer
    (opens_memory (ghosts g.row.S g.S.Seal g.S.Seal-dict) (λ x. record { page_size = x.pages.page_size; capacity = x.write_buffer; cache_pages = x.pages.cache_pages }) g.S.Seal.seal_of g.A.CodecFixed.SIZE (string_bytes c.in_ok-clone.field-0) c.new.result c.args.ceiling g.D.Device
    (shown c.in_ok-manager.manager) c.args.dev.now c.init_bounded.new.dev o.over o.moments (λ t name bad. o.foreign t name bad) o.entries o.faults r
    (ap (seen journal.shown) (err_of c.from_residual-in_err-unrecovered.result e c.from_residual-in_err-unrecovered.ensures.1) ∙ ap Err memory))

pub returns-in_err-clone : goal.returns-in_err-clone
returns-in_err-clone g c =
    opens_none (ghosts g.row.S g.S.Seal g.S.Seal-dict) (λ x. record { page_size = x.pages.page_size; capacity = x.write_buffer; cache_pages = x.pages.cache_pages }) g.S.Seal.seal_of g.A.CodecFixed.SIZE (string_bytes c.args.cfg.now.partition) c.args.cfg.now.pages c.args.cfg.now.write_buffer c.args.ceiling g.D.Device
    (seen journal.shown c.from_residual.result) c.args.dev.now (ap (seen journal.shown) (err_of c.from_residual.result Mem c.from_residual.ensures.1))

pub returns : goal.returns
returns g c =
    let o = c.in_ok-manager.ensures in
    opens_as (ghosts g.row.S g.S.Seal g.S.Seal-dict) (λ x. record { page_size = x.pages.page_size; capacity = x.write_buffer; cache_pages = x.pages.cache_pages }) g.S.Seal.seal_of g.A.CodecFixed.SIZE c.args.ceiling g.D.Device
    _ c.args.dev.now c.init_bounded.new.dev (string_bytes c.in_ok-clone.field-0) (string_bytes c.args.cfg.now.partition) c.new.result c.args.cfg.now.pages c.args.cfg.now.write_buffer c.in_ok-clone.ensures.cases c.new.ensures.pages c.new.ensures.write_buffer
    (opens_ok (ghosts g.row.S g.S.Seal g.S.Seal-dict) (λ x. record { page_size = x.pages.page_size; capacity = x.write_buffer; cache_pages = x.pages.cache_pages }) g.S.Seal.seal_of g.A.CodecFixed.SIZE (string_bytes c.in_ok-clone.field-0) c.new.result c.args.ceiling g.D.Device
    (shown c.in_ok-manager.manager) c.args.dev.now c.init_bounded.new.dev o.over o.moments (λ t name bad. o.foreign t name bad) o.entries o.faults (are_pages g.row.S g.S.Seal g.S.Seal-dict)
    o.held o.unopened o.no_leftover o.later o.bytes o.idle o.partition o.factory o.floor o.ceiling
    (contains nat_cmp c.in_ok-unrecovered.unrecovered) c.new-floors.result c.new-floors.ensures.empty c.in_ok-unrecovered.ensures.longer)
