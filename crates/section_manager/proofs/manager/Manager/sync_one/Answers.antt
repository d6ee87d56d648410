use Rattle.std.proofs.Common.{◌≡◌, ◌∙◌, Some, true, refl, sym}
use Rattle.section_manager.specs.managing.Managed.{shown}
use Rattle.section_manager.specs.lemmas.Seen.{err_seen, held_has, raised_failed, short}
use Rattle.section_manager.proofs.sections.SettlingEnds.{one_failed, one_idle, one_settled}
use Rattle.section_manager.proofs.sections.SyncLemmas.{open_before}
use Rattle.section_manager.proofs.manager.Manager.sync_one.Goals as goal
use Rattle.section_manager.specs.lemmas.sections.Sync.{BufferLaws}

pub returns-then-not-is_unsettled : goal.returns-then-not-is_unsettled
returns-then-not-is_unsettled g c =
    let l = g.met.F.Buffer.SectionBuffer in
    let laws : BufferLaws g.F.Buffer.SectionBuffer = record { passes = l.passes; looser = l.looser; counted = l.counted; all_settled = l.all_settled; rested = l.rested; found_again = l.found_again } in
    one_idle g.F.Buffer.SectionBuffer g.F.BufferFactory.gives g.D.Device laws (shown c.args.self) c.args.dev.now c.requires.over c.args.section
    (λ acts. absurd (cc (c.is_unsettled.ensures.1 acts, c.if-not-is_unsettled.true)))

pub sync-requires : goal.sync-requires
sync-requires g c = record {
  «open» = open_before g.F.Buffer.SectionBuffer g.F.BufferFactory.gives g.D.Device.Tells (shown c.args.self) (g.D.Device.opened c.args.dev.now) c.args.section c.in-Some.buffer (sym c.in-Some.ensures.value) (g.D.Device.time c.args.dev.now) (g.D.Device.time c.args.dev.now) g.F.Buffer.SectionBuffer.settled c.requires.over;
}

pub returns-in_err-buffer : goal.returns-in_err-buffer
returns-in_err-buffer g c =
    let l = g.met.F.Buffer.SectionBuffer in
    let laws : BufferLaws g.F.Buffer.SectionBuffer = record { passes = l.passes; looser = l.looser; counted = l.counted; all_settled = l.all_settled; rested = l.rested; found_again = l.found_again } in
    let was : (shown c.args.self).held c.args.section ≡ Some c.in-Some.buffer = sym c.in-Some.ensures.value in
    one_failed g.F.Buffer.SectionBuffer g.F.BufferFactory.gives g.D.Device laws (shown c.args.self) c.args.dev.now c.requires.over c.args.section c.in-Some.buffer was
    (held_has (λ w. g.F.Buffer.SectionBuffer.unsettled w ≡ true) _ c.in-Some.buffer was (c.is_unsettled.ensures.0 (cc c.if-not-is_unsettled.false)))
    c.sync.new.dev c.sync.ensures.moments c.sync.ensures.entries c.sync.ensures.reads c.sync.ensures.faults
    _ _ (err_seen shown c.from_residual.result _ c.from_residual.ensures.1) (raised_failed _ c.in_err-buffer.field-0.0 _ _ refl c.in_err-buffer.ensures.cause)

pub returns-in_err-insert : goal.returns-in_err-insert
returns-in_err-insert g c =
    let l = g.met.F.Buffer.SectionBuffer in
    let laws : BufferLaws g.F.Buffer.SectionBuffer = record { passes = l.passes; looser = l.looser; counted = l.counted; all_settled = l.all_settled; rested = l.rested; found_again = l.found_again } in
    let was : (shown c.args.self).held c.args.section ≡ Some c.in-Some.buffer = sym c.in-Some.ensures.value in
    one_failed g.F.Buffer.SectionBuffer g.F.BufferFactory.gives g.D.Device laws (shown c.args.self) c.args.dev.now c.requires.over c.args.section c.in-Some.buffer was
    (held_has (λ w. g.F.Buffer.SectionBuffer.unsettled w ≡ true) _ c.in-Some.buffer was (c.is_unsettled.ensures.0 (cc c.if-not-is_unsettled.false)))
    c.sync.new.dev c.sync.ensures.moments c.sync.ensures.entries c.sync.ensures.reads c.sync.ensures.faults
    _ _ (err_seen shown c.from_residual-in_err-insert.result _ c.from_residual-in_err-insert.ensures.1) (short _ _)

pub returns : goal.returns
returns g c =
    let b = g.F.Buffer.SectionBuffer in
    let l = g.met.F.Buffer.SectionBuffer in
    let laws : BufferLaws b = record { passes = l.passes; looser = l.looser; counted = l.counted; all_settled = l.all_settled; rested = l.rested; found_again = l.found_again } in
    let was : (shown c.args.self).held c.args.section ≡ Some c.in-Some.buffer = sym c.in-Some.ensures.value in
    let says = c.in_ok-buffer.ensures in
    one_settled b g.F.BufferFactory.gives g.D.Device laws (shown c.args.self) c.args.dev.now c.requires.over c.args.section c.in-Some.buffer was
    (held_has (λ w. b.unsettled w ≡ true) _ c.in-Some.buffer was (c.is_unsettled.ensures.0 (cc c.if-not-is_unsettled.false)))
    c.sync.new.dev c.sync.ensures.moments c.sync.ensures.entries c.sync.ensures.reads c.sync.ensures.faults c.in_ok-buffer.buffer _
    (record { stands = says.stands; bytes = says.bytes; whole = says.whole; size = says.size; done = says.done; key = says.key; setting = says.setting; is_open = says.«open» })
    c.in_ok-insert.ensures.here refl (λ q other. record { held = c.in_ok-insert.ensures.others q other ∙ c.in-Some.ensures.others q other; unopened = refl })
    (record { place = record { partition = refl; factory = refl }; floor = refl; ceiling = refl })
