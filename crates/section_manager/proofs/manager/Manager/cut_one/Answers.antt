use Rattle.std.proofs.Common.{◌≡◌, ◌∙◌, ◌<◌, inr, Some, refl, sym, subst}
use Rattle.blob_device.specs.Disk.{Key}
use Rattle.blob_device.specs.Timeline.{disk}
use Rattle.section_manager.specs.managing.Managed.{shown}
use Rattle.section_manager.specs.lemmas.Seen.{err_seen, held_has, short}
use Rattle.section_manager.proofs.sections.CuttingEnds.{cut_done, cut_failed, cut_failed_by, cut_idle}
use Rattle.section_manager.proofs.sections.SyncLemmas.{key_is, open_before}
use Rattle.section_manager.proofs.manager.Manager.cut_one.Goals as goal
use Rattle.section_manager.specs.lemmas.sections.Sync.{BufferLaws}

pub returns-then-not-is_longer : goal.returns-then-not-is_longer
returns-then-not-is_longer g c =
    let l = g.met.F.Buffer.SectionBuffer in
    let laws : BufferLaws g.F.Buffer.SectionBuffer = record { passes = l.passes; looser = l.looser; counted = l.counted; all_settled = l.all_settled; rested = l.rested; found_again = l.found_again } in
    cut_idle g.F.Buffer.SectionBuffer g.F.BufferFactory.gives g.D.Device laws (shown c.args.self) c.args.dev.now c.requires.over c.args.section c.args.size
    (λ longer. absurd (cc (c.is_longer.ensures.1 longer, c.if-not-is_longer.true)))

pub truncate-requires : goal.truncate-requires
truncate-requires g c =
    let b = g.F.Buffer.SectionBuffer in
    let m = shown c.args.self in
    let s = c.args.section in
    let u = c.in-Some.buffer in
    let was : m.held s ≡ Some u = sym c.in-Some.ensures.value in
    let now = g.D.Device.time c.args.dev.now in
    let opened = g.D.Device.opened c.args.dev.now in
    record {
      «open» = open_before b g.F.BufferFactory.gives g.D.Device.Tells m opened s u was now now b.settled c.requires.over;
      can = λ t. subst (λ (k : Key). b.CanCut u (disk now k) c.args.size) (sym (key_is b g.F.BufferFactory.gives g.D.Device.Tells m opened s u was now now b.settled c.requires.over))
          (c.requires.can t u was (held_has (λ w. c.args.size < b.byte_count w) _ u was (c.is_longer.ensures.0 (cc c.if-not-is_longer.false))));
    }

pub returns-in_err-buffer : goal.returns-in_err-buffer
returns-in_err-buffer g c =
    let l = g.met.F.Buffer.SectionBuffer in
    let laws : BufferLaws g.F.Buffer.SectionBuffer = record { passes = l.passes; looser = l.looser; counted = l.counted; all_settled = l.all_settled; rested = l.rested; found_again = l.found_again } in
    let was : (shown c.args.self).held c.args.section ≡ Some c.in-Some.buffer = sym c.in-Some.ensures.value in
    let says = c.in_err-buffer.ensures in
    cut_failed_by g.F.Buffer.SectionBuffer g.F.BufferFactory.gives g.D.Device laws (shown c.args.self) c.args.dev.now c.requires.over c.args.section c.args.size c.in-Some.buffer was
    (held_has (λ w. c.args.size < g.F.Buffer.SectionBuffer.byte_count w) _ c.in-Some.buffer was (c.is_longer.ensures.0 (cc c.if-not-is_longer.false)))
    c.truncate.new.dev c.truncate.ensures.moments c.truncate.ensures.entries c.truncate.ensures.reads c.truncate.ensures.faults
    _ c.in_err-buffer.field-0.0 refl _ (err_seen shown c.from_residual.result _ c.from_residual.ensures.1) says.damage says.unread says.cause

pub returns-in_err-insert : goal.returns-in_err-insert
returns-in_err-insert g c =
    let l = g.met.F.Buffer.SectionBuffer in
    let laws : BufferLaws g.F.Buffer.SectionBuffer = record { passes = l.passes; looser = l.looser; counted = l.counted; all_settled = l.all_settled; rested = l.rested; found_again = l.found_again } in
    let was : (shown c.args.self).held c.args.section ≡ Some c.in-Some.buffer = sym c.in-Some.ensures.value in
    cut_failed g.F.Buffer.SectionBuffer g.F.BufferFactory.gives g.D.Device laws (shown c.args.self) c.args.dev.now c.requires.over c.args.section c.args.size c.in-Some.buffer was
    (held_has (λ w. c.args.size < g.F.Buffer.SectionBuffer.byte_count w) _ c.in-Some.buffer was (c.is_longer.ensures.0 (cc c.if-not-is_longer.false)))
    c.truncate.new.dev c.truncate.ensures.moments c.truncate.ensures.entries c.truncate.ensures.reads c.truncate.ensures.faults
    _ _ (err_seen shown c.from_residual-in_err-insert.result _ c.from_residual-in_err-insert.ensures.1) (λ t damage. absurd (cc damage.1)) (λ none damage. absurd (cc damage.1)) (inr (short _ _))

pub returns : goal.returns
returns g c =
    let l = g.met.F.Buffer.SectionBuffer in
    let laws : BufferLaws g.F.Buffer.SectionBuffer = record { passes = l.passes; looser = l.looser; counted = l.counted; all_settled = l.all_settled; rested = l.rested; found_again = l.found_again } in
    let was : (shown c.args.self).held c.args.section ≡ Some c.in-Some.buffer = sym c.in-Some.ensures.value in
    let says = c.in_ok-buffer.ensures in
    cut_done g.F.Buffer.SectionBuffer g.F.BufferFactory.gives g.D.Device laws (shown c.args.self) c.args.dev.now c.requires.over c.args.section c.args.size c.in-Some.buffer was
    (held_has (λ w. c.args.size < g.F.Buffer.SectionBuffer.byte_count w) _ c.in-Some.buffer was (c.is_longer.ensures.0 (cc c.if-not-is_longer.false)))
    c.truncate.new.dev c.truncate.ensures.moments c.truncate.ensures.entries c.truncate.ensures.reads c.truncate.ensures.faults c.in_ok-buffer.buffer _
    (record { stands = says.stands; bytes = says.bytes; whole = says.whole; mended = says.mended; size = says.size; done = says.done; key = says.key; setting = says.setting; is_open = says.«open» })
    c.in_ok-insert.ensures.here refl (λ q other. record { held = c.in_ok-insert.ensures.others q other ∙ c.in-Some.ensures.others q other; unopened = refl })
    (record { place = record { partition = refl; factory = refl }; floor = refl; ceiling = refl })
