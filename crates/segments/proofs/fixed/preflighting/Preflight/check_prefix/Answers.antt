use Rattle.std.specs.BTreeMap.{get}
use Rattle.std.specs.Option.{option_copied}
use Rattle.std.specs.Ordering.{nat_cmp}
use Rattle.std.proofs.Common.{◌≡◌, ◌∙◌, Some, sym, ap, arith}
use Rattle.blob_device.specs.Timeline.{disk}
use Rattle.section_manager.specs.managing.Managed.{shown}
use Rattle.segments.proofs.checkpoint.Prefixes.{prefix_short, prefix_long}
use Rattle.segments.proofs.fixed.preflighting.Preflight.check_prefix.Goals as goal

pub returns-then-kept-size-clause-damage : goal.returns-then-kept-size-clause-damage
returns-then-kept-size-clause-damage g c t x is =
    let u = c.in-Some.buffer.now in
    let held : get nat_cmp c.args.self.now.journal.manager.held.buffers c.args.section ≡ Some c.in-Some.buffer.now = sym c.in_ok-buffer.ensures.held ∙ ap option_copied c.in-Some.is in
    prefix_short g.S.Seal.seal_of (shown c.args.self.now.journal.manager) c.args.section c.args.size c.in_ok-kept.kept u held (disk (g.D.Device.time c.args.dev.now)) (c.requires.over.opened_list.key c.args.section u held) (c.in_ok-kept.ensures.prefix t) c.if-kept-size.true x is

pub returns-clause-sealed : goal.returns-clause-sealed
returns-clause-sealed g c t v is more =
    let u = c.in-Some.buffer.now in
    let held : get nat_cmp c.args.self.now.journal.manager.held.buffers c.args.section ≡ Some c.in-Some.buffer.now = sym c.in_ok-buffer.ensures.held ∙ ap option_copied c.in-Some.is in
    prefix_long g.S.Seal.seal_of (shown c.args.self.now.journal.manager) c.args.section c.args.size c.in_ok-kept.kept u held (disk (g.D.Device.time c.args.dev.now)) (c.requires.over.opened_list.key c.args.section u held) (c.in_ok-kept.ensures.prefix t)
    (omega (arith, c.if-kept-size.false)) v is
