-- The buffer is lent: taken out, cut and put back.
use Rattle.std.specs.Prelude.{ℕ, ◌*◌}
use Rattle.std.proofs.Common.{inl, refl, sym, ◌∙◌, ap, subst, arith}
use Rattle.blob_device.specs.Disk.{Key}
use Rattle.sealed_pages.specs.Entries.{IsOpenAt}
use Rattle.sealed_pages.specs.lemmas.memory.Holding.{fit_size}
use Rattle.section_manager.specs.lemmas.sections.Over.{same_key}
use Rattle.segments.specs.lemmas.adding.Write.{are_pages}
use Rattle.section_manager.specs.managing.Managed as manager
use Rattle.segments.specs.FixedWalking.{walk_of}
use Rattle.segments.proofs.held.Lending.{cut_untaken, cut_failed, cut_refused, cut_done}
use Rattle.segments.proofs.fixed.replaying.Replay.cut.Goals as goal
use Rattle.blob_device.proofs.general.Options.{some_of}
use Rattle.blob_device.proofs.general.Results.{err_of}

pub take-requires-clause-over : goal.take-requires-clause-over
take-requires-clause-over g c = c.requires.over

pub take-requires-clause-ceiling : goal.take-requires-clause-ceiling
take-requires-clause-ceiling g c = c.requires.over.opened_list.to_ceiling c.args.section c.requires.held

pub returns-in_err-buffer : goal.returns-in_err-buffer
returns-in_err-buffer g c =
    let u = some_of ((walk_of c.args.self.now).journal.sections.held c.args.section) c.requires.held in
    cut_untaken _ g.S.Seal.seal_of _ _ (are_pages g.row.S g.S.Seal g.S.Seal-dict) (record { extent = λ u. refl; setting = λ u v size capacity cached i. record { page_size = size i; capacity = capacity i; cache_pages = cached i } }) g.D.Device _ _ (walk_of c.args.self.now) _
    (record { unrecovered = λ s. refl; floors = λ s. refl; section = refl; position = refl; next = refl; place = refl; failed = refl }) u.0 u.1 _ c.requires.over (c.requires.settled u.0 u.1) (c.requires.within u.0 u.1) (λ t. c.requires.prefix t u.0 u.1)
    _ _ _ (err_of c.from_residual.result _ c.from_residual.ensures.1) refl c.in_err-buffer.ensures

pub overflow_mul-count : goal.overflow_mul-count
overflow_mul-count g c =
    let mine = some_of ((walk_of c.args.self.now).journal.sections.held c.args.section) c.requires.held in
    omega (arith, c.requires.within mine.0 mine.1, fit_size _ _ _ _ mine.0.fit, ap (λ (n : ℕ). c.args.count * n) c.SIZE.ensures)

pub truncate-requires : goal.truncate-requires
truncate-requires g c = record { «open» = subst (λ (k : Key). IsOpenAt (g.D.Device.opened c.take.new.dev) k c.in_ok-buffer.buffer.end) (sym c.in_ok-buffer.ensures.key) c.in_ok-buffer.ensures.«open» }

pub returns-in_err-buffer-2 : goal.returns-in_err-buffer-2
returns-in_err-buffer-2 g c =
    let u = some_of ((walk_of c.args.self.now).journal.sections.held c.args.section) c.requires.held in
    cut_failed _ g.S.Seal.seal_of _ _ (are_pages g.row.S g.S.Seal g.S.Seal-dict) (record { extent = λ u. refl; setting = λ u v size capacity cached i. record { page_size = size i; capacity = capacity i; cache_pages = cached i } }) g.D.Device _ _ (walk_of c.args.self.now) _
    (record { unrecovered = λ s. refl; floors = λ s. refl; section = refl; position = refl; next = refl; place = refl; failed = refl }) u.0 u.1 _ c.requires.over (c.requires.settled u.0 u.1) (c.requires.within u.0 u.1) (λ t. c.requires.prefix t u.0 u.1)
    (manager.shown c.take.new.self) c.take.new.dev c.in_ok-buffer.buffer c.in_ok-buffer.ensures _ _ (ap (λ (x : ℕ). c.args.count * x) c.SIZE.ensures) _ _ (err_of c.from_residual-in_err-buffer-2.result _ c.from_residual-in_err-buffer-2.ensures.1) refl c.in_err-buffer-2.ensures
    (λ q. record { held = refl; unopened = refl }) (record { place = record { partition = refl; factory = refl }; floor = refl; ceiling = refl })

pub put-requires-clause-absent : goal.put-requires-clause-absent
put-requires-clause-absent g c = c.in_ok-buffer.ensures.out

pub put-requires-clause-floor : goal.put-requires-clause-floor
put-requires-clause-floor g c = omega (arith, c.take.ensures.bounds.floor, c.requires.over.opened_list.from_floor c.args.section (inl c.requires.held))

pub put-requires-clause-ceiling : goal.put-requires-clause-ceiling
put-requires-clause-ceiling g c = omega (arith, c.take.ensures.bounds.ceiling, c.requires.over.opened_list.to_ceiling c.args.section c.requires.held)

pub put-requires-clause-key : goal.put-requires-clause-key
put-requires-clause-key g c = c.in_ok-buffer-2.ensures.key ∙ c.in_ok-buffer.ensures.key ∙ sym (same_key (walk_of c.args.self.now).journal.sections (manager.shown c.take.new.self) c.take.ensures.bounds c.args.section)

pub returns-in_err-put : goal.returns-in_err-put
returns-in_err-put g c =
    let u = some_of ((walk_of c.args.self.now).journal.sections.held c.args.section) c.requires.held in
    cut_refused _ g.S.Seal.seal_of _ _ (are_pages g.row.S g.S.Seal g.S.Seal-dict) (record { extent = λ u. refl; setting = λ u v size capacity cached i. record { page_size = size i; capacity = capacity i; cache_pages = cached i } }) g.D.Device _ _ (walk_of c.args.self.now) _
    (record { unrecovered = λ s. refl; floors = λ s. refl; section = refl; position = refl; next = refl; place = refl; failed = refl }) u.0 u.1 _ c.requires.over (c.requires.settled u.0 u.1) (c.requires.within u.0 u.1) (λ t. c.requires.prefix t u.0 u.1)
    (manager.shown c.take.new.self) c.take.new.dev c.in_ok-buffer.buffer c.in_ok-buffer.ensures _ _ (ap (λ (x : ℕ). c.args.count * x) c.SIZE.ensures) _ c.in_ok-buffer-2.ensures _ _ (err_of c.from_residual-in_err-put.result _ c.from_residual-in_err-put.ensures.1) refl c.in_err-put.ensures.refused c.put.ensures.bounds (let none = c.in_err-put.ensures.cause in cc none)

pub returns : goal.returns
returns g c =
    let u = some_of ((walk_of c.args.self.now).journal.sections.held c.args.section) c.requires.held in
    cut_done _ g.S.Seal.seal_of _ _ (are_pages g.row.S g.S.Seal g.S.Seal-dict) (record { extent = λ u. refl; setting = λ u v size capacity cached i. record { page_size = size i; capacity = capacity i; cache_pages = cached i } }) g.D.Device _ _ (walk_of c.args.self.now) _
    (record { unrecovered = λ s. refl; floors = λ s. refl; section = refl; position = refl; next = refl; place = refl; failed = refl }) u.0 u.1 _ c.requires.over (c.requires.settled u.0 u.1) (c.requires.within u.0 u.1) (λ t. c.requires.prefix t u.0 u.1)
    (manager.shown c.take.new.self) c.take.new.dev c.in_ok-buffer.buffer c.in_ok-buffer.ensures _ _ (ap (λ (x : ℕ). c.args.count * x) c.SIZE.ensures) _ c.in_ok-buffer-2.ensures tt refl c.in_ok-put.ensures.put
