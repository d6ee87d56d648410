use Rattle.std.specs.Prelude.{◌≡◌, Some}
use Rattle.std.specs.Option.{option_copied_mut}
use Rattle.std.proofs.Common.{refl, sym, ◌∙◌, ap, subst}
use Rattle.blob_device.specs.Disk.{Key}
use Rattle.blob_device.specs.Timeline.{disk}
use Rattle.sealed_pages.specs.Entries.{IsOpenAt}
use Rattle.section_manager.specs.managing.Managed.{shown}
use Rattle.section_manager.specs.lemmas.sections.Over.{same_key}
use Rattle.section_manager.proofs.sections.OpenLemmas.{on_some}
use Rattle.section_manager.proofs.manager.Manager.get_or_create.Goals as goal

pub returns : goal.returns
returns g c =
    let m = shown c.args.self.now in
    let n = shown c.hold.new.self in
    let s = c.args.section in
    let u = c.unwrap.result.now in
    let hold = c.hold.ensures in
    let done = c.in_ok-hold.ensures in
    let b = hold.bounds in
    let has = hold.over.opened_list in
    let held : n.held s ≡ Some u = sym c.get_mut.ensures.value ∙ ap option_copied_mut c.unwrap.ensures in
    let here = same_key m n b s in (
      (
        refl,
        λ w ok. record {
          here = (on_some c.get_mut.result c.unwrap.result _ c.unwrap.ensures (c.get_mut.follows.holds w)).0;
          opened = has.apart s done.held;
          others = λ q other. record {
            held = (on_some c.get_mut.result c.unwrap.result _ c.unwrap.ensures (c.get_mut.follows.holds w)).1 q other ∙ (hold.others q other).held;
            unopened = (hold.others q other).unopened;
          };
          bounds = record { place = record { partition = b.place.partition; factory = b.place.factory }; floor = b.floor; ceiling = b.ceiling };
        },
        tt,
      ),
      record {
        writes_back = tt;
        creates = record {
          same = λ v was. cc (held, done.same v was);
          bytes = λ t none. done.bytes t none u held;
          idle = λ none. done.idle none u held;
          made = done.made;
          stands = λ t. subst (λ (k : Key). g.F.Buffer.SectionBuffer.Stands u (disk (g.D.Device.time c.hold.new.dev) k)) here ((hold.over.disk t).stands s u held);
          key = has.key s u held ∙ here;
          setting = has.setting s u held ∙ ap g.F.BufferFactory.gives b.place.factory;
          «open» = subst (λ (k : Key). IsOpenAt (g.D.Device.opened c.hold.new.dev) k (g.F.Buffer.SectionBuffer.extent u)) here (has.is_open s u held);
          untouched = hold.untouched;
          moments = hold.moments;
          entries = hold.entries;
          reads = hold.reads;
          guard = (λ is. absurd (cc is), λ below. absurd (cc (done.guard.1 below)));
          refuses = hold.refuses;
          faults = hold.faults;
          cause = tt;
        };
      },
    )
