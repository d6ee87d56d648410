-- The buffer is lent: taken out, flushed and put back.
use Rattle.std.proofs.Common.{inl, refl, sym, ◌∙◌, subst, arith}
use Rattle.blob_device.specs.Disk.{Key}
use Rattle.sealed_pages.specs.Entries.{IsOpenAt}
use Rattle.sealed_pages.specs.Readers.{reading}
use Rattle.section_manager.specs.managing.Managed as manager
use Rattle.section_manager.specs.lemmas.sections.Over.{same_key}
use Rattle.segments.specs.lemmas.adding.Write.{are_pages}
use Rattle.segments.specs.FixedWalking.{walk_of}
use Rattle.segments.proofs.held.LentReaders.{reader_untaken, reader_failed, reader_refused, reader_done}
use Rattle.segments.proofs.fixed.replaying.Replay.open_reader.Goals as goal
use Rattle.blob_device.proofs.general.Options.{some_of}
use Rattle.blob_device.proofs.general.Results.{err_of}

pub take-requires-clause-over : goal.take-requires-clause-over
take-requires-clause-over g c = c.requires.over

pub take-requires-clause-ceiling : goal.take-requires-clause-ceiling
take-requires-clause-ceiling g c = c.requires.over.opened_list.to_ceiling c.args.section c.requires.held

pub returns-in_err-buffer : goal.returns-in_err-buffer
returns-in_err-buffer g c =
    let u = some_of ((walk_of c.args.self.now).journal.sections.held c.args.section) c.requires.held in
    reader_untaken _ g.S.Seal.seal_of _ _ (are_pages g.row.S g.S.Seal g.S.Seal-dict) (record { extent = λ u. refl; setting = λ u v size capacity cached i. record { page_size = size i; capacity = capacity i; cache_pages = cached i } }) g.D.Device _ reading (walk_of c.args.self.now) _
    (record { unrecovered = λ s. refl; floors = λ s. refl; section = refl; position = refl; next = refl; place = refl; failed = refl }) refl u.0 u.1 _ c.requires.over
    _ _ _ (err_of c.from_residual.result _ c.from_residual.ensures.1) c.in_err-buffer.ensures

pub replay-requires : goal.replay-requires
replay-requires g c = record { «open» = subst (λ (k : Key). IsOpenAt (g.D.Device.opened c.take.new.dev) k c.in_ok-buffer.buffer.end) (sym c.in_ok-buffer.ensures.key) c.in_ok-buffer.ensures.«open» }

pub returns-in_err-buffer-2 : goal.returns-in_err-buffer-2
returns-in_err-buffer-2 g c =
    let u = some_of ((walk_of c.args.self.now).journal.sections.held c.args.section) c.requires.held in
    reader_failed _ g.S.Seal.seal_of _ _ (are_pages g.row.S g.S.Seal g.S.Seal-dict) (record { extent = λ u. refl; setting = λ u v size capacity cached i. record { page_size = size i; capacity = capacity i; cache_pages = cached i } }) g.D.Device _ reading (walk_of c.args.self.now) _
    (record { unrecovered = λ s. refl; floors = λ s. refl; section = refl; position = refl; next = refl; place = refl; failed = refl }) refl u.0 u.1 _ c.requires.over
    (manager.shown c.take.new.self) c.take.new.dev c.in_ok-buffer.buffer c.in_ok-buffer.ensures _ _ _ (err_of c.from_residual-in_err-buffer-2.result _ c.from_residual-in_err-buffer-2.ensures.1) c.in_err-buffer-2.ensures
    (λ q. record { held = refl; unopened = refl }) (record { place = record { partition = refl; factory = refl }; floor = refl; ceiling = refl })

pub put-requires-clause-absent : goal.put-requires-clause-absent
put-requires-clause-absent g c = c.in_ok-buffer.ensures.out

pub put-requires-clause-floor : goal.put-requires-clause-floor
put-requires-clause-floor g c = omega (arith, c.take.ensures.bounds.floor, c.requires.over.opened_list.from_floor c.args.section (inl c.requires.held))

pub put-requires-clause-ceiling : goal.put-requires-clause-ceiling
put-requires-clause-ceiling g c = omega (arith, c.take.ensures.bounds.ceiling, c.requires.over.opened_list.to_ceiling c.args.section c.requires.held)

pub put-requires-clause-key : goal.put-requires-clause-key
put-requires-clause-key g c = c.in_ok-buffer-2.ensures.key ∙ c.in_ok-buffer.ensures.key ∙ sym (same_key (walk_of c.args.self.now).journal.sections (manager.shown c.take.new.self) c.take.ensures.bounds c.args.section)

pub returns-in_err-put : goal.returns-in_err-put
returns-in_err-put g c =
    let u = some_of ((walk_of c.args.self.now).journal.sections.held c.args.section) c.requires.held in
    reader_refused _ g.S.Seal.seal_of _ _ (are_pages g.row.S g.S.Seal g.S.Seal-dict) (record { extent = λ u. refl; setting = λ u v size capacity cached i. record { page_size = size i; capacity = capacity i; cache_pages = cached i } }) g.D.Device _ reading (walk_of c.args.self.now) _
    (record { unrecovered = λ s. refl; floors = λ s. refl; section = refl; position = refl; next = refl; place = refl; failed = refl }) refl u.0 u.1 _ c.requires.over
    (manager.shown c.take.new.self) c.take.new.dev c.in_ok-buffer.buffer c.in_ok-buffer.ensures _ _ _ c.in_ok-buffer-2.ensures _ _ (err_of c.from_residual-in_err-put.result _ c.from_residual-in_err-put.ensures.1) c.in_err-put.ensures.refused c.put.ensures.bounds (let none = c.in_err-put.ensures.cause in cc none)

pub returns : goal.returns
returns g c =
    let u = some_of ((walk_of c.args.self.now).journal.sections.held c.args.section) c.requires.held in
    reader_done _ g.S.Seal.seal_of _ _ (are_pages g.row.S g.S.Seal g.S.Seal-dict) (record { extent = λ u. refl; setting = λ u v size capacity cached i. record { page_size = size i; capacity = capacity i; cache_pages = cached i } }) g.D.Device _ reading (walk_of c.args.self.now) _
    (record { unrecovered = λ s. refl; floors = λ s. refl; section = refl; position = refl; next = refl; place = refl; failed = refl }) refl u.0 u.1 _ c.requires.over
    (manager.shown c.take.new.self) c.take.new.dev c.in_ok-buffer.buffer c.in_ok-buffer.ensures _ _ _ c.in_ok-buffer-2.ensures c.in_ok-put.ensures.put
