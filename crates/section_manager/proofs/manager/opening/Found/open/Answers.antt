use Rattle.std.proofs.Common.{ℕ, List, sym, subst}
use Rattle.std.specs.Prelude.{string_bytes}
use Rattle.std.specs.List.{Contains}
use Rattle.blob_device.specs.Timeline.{disk}
use Rattle.section_manager.specs.Answers.{seen}
use Rattle.section_manager.specs.managing.Finding.{AreSectionsIn, finding}
use Rattle.section_manager.specs.managing.Managed.{shown}
use Rattle.section_manager.specs.managing.Opening.{OpensEach, OpensFound}
use Rattle.section_manager.proofs.InitLemmas.{Found, found_as}
use Rattle.section_manager.specs.lemmas.Seen.{err_seen, mem_of}
use Rattle.section_manager.proofs.sections.InitEnds.{found_opened, found_short, start_over, start_there}
use Rattle.section_manager.proofs.manager.opening.Found.open.Goals as goal

pub returns-in_err-this : goal.returns-in_err-this
returns-in_err-this g c =
    found_short g.F.Buffer.SectionBuffer g.F.BufferFactory.gives g.D.Device (finding c.args.self).partition c.args.self.factory c.args.ceiling c.args.self.numbers.items c.args.dev.now c.requires.there
    _ (mem_of _ _ (err_seen shown c.from_residual.result _ c.from_residual.ensures.1) c.in_err-this.ensures.cause)

pub open_each-requires : goal.open_each-requires
open_each-requires g c =
    let k = c.in_ok-this.ensures in
    let start = shown c.in_ok-this.this in
    let numbers = c.args.self.numbers.items in
    let dev = c.args.dev.now in
    let found : Found numbers start = found_as numbers c.as_slice.result.now c.as_slice.ensures.value start k.held k.unopened k.others in
    let are = λ (t : g.D.Device.Tells). subst (λ (p : List ℕ). AreSectionsIn (disk (g.D.Device.time dev)) p numbers) (sym k.partition) (c.requires.there t) in
    record {
      over = start_over g.F.Buffer.SectionBuffer g.F.BufferFactory.gives g.D.Device numbers start found k.number k.floor dev dev are;
      fresh = k.held;
      known = λ s listed. found.known s (subst (λ (l : List ℕ). Contains l s) c.as_slice-2.ensures.value listed);
      others = λ s none. found.others s (λ listed. none (subst (λ (l : List ℕ). Contains l s) (sym c.as_slice-2.ensures.value) listed));
      there = λ t s listed. start_there g.F.Buffer.SectionBuffer g.F.BufferFactory.gives g.D.Device numbers start found k.number k.floor dev dev are t s (subst (λ (l : List ℕ). Contains l s) c.as_slice-2.ensures.value listed);
      floor = k.floor;
    }

pub returns : goal.returns
returns g c =
    let k = c.in_ok-this.ensures in
    let start = shown c.in_ok-this.this in
    let numbers = c.args.self.numbers.items in
    let dev = c.args.dev.now in
    let found : Found numbers start = found_as numbers c.as_slice.result.now c.as_slice.ensures.value start k.held k.unopened k.others in
    let are = λ (t : g.D.Device.Tells). subst (λ (p : List ℕ). AreSectionsIn (disk (g.D.Device.time dev)) p numbers) (sym k.partition) (c.requires.there t) in
    let new = c.open_each.new.dev in
    let place = string_bytes c.args.self.partition in
    subst (λ (n : ℕ). OpensFound g.F.Buffer.SectionBuffer g.F.BufferFactory.gives g.D.Device place c.args.self.factory n dev new (seen shown c.open_each.result)) k.ceiling
    (subst (λ (f : g.row.F.Denot). OpensFound g.F.Buffer.SectionBuffer g.F.BufferFactory.gives g.D.Device place f start.ceiling dev new (seen shown c.open_each.result)) k.factory
    (subst (λ (p : List ℕ). OpensFound g.F.Buffer.SectionBuffer g.F.BufferFactory.gives g.D.Device p start.factory start.ceiling dev new (seen shown c.open_each.result)) k.partition
    (found_opened g.F.Buffer.SectionBuffer g.F.BufferFactory.gives g.D.Device numbers start found k.number k.floor dev new are _
    (subst (λ (l : List ℕ). OpensEach g.F.Buffer.SectionBuffer g.F.BufferFactory.gives g.D.Device start l dev new (seen shown c.open_each.result)) c.as_slice-2.ensures.value c.open_each.ensures))))
