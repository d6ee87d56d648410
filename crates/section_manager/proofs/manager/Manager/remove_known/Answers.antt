use Rattle.std.proofs.Common.{◌≡◌, refl, ◌∙◌, arith}
use Rattle.std.proofs.lemmas.Grind.{common_steps}
use Rattle.blob_device.specs.Disk.{nothing}
use Rattle.blob_device.specs.Timeline.{disk}
use Rattle.section_manager.specs.managing.Managed.{shown}
use Rattle.section_manager.specs.Sections.{key_of}
use Rattle.section_manager.specs.lemmas.Seen.{device_failed, err_seen}
use Rattle.section_manager.proofs.sections.RemoveLemmas.{going_moments, gone_blob, other_blobs, entry_left, entry_may_leave, over_gone}
use Rattle.section_manager.proofs.sections.RemovingEnds.{forget_failed}
use Rattle.section_manager.proofs.manager.Manager.remove_known.Goals as goal

pub returns-in_err-remove-clause-forgets : goal.returns-in_err-remove-clause-forgets
returns-in_err-remove-clause-forgets g c =
    let k = key_of (shown c.args.self) c.args.section in
    forget_failed g.F.Buffer.SectionBuffer g.F.BufferFactory.gives g.D.Device (shown c.args.self) c.args.dev.now c.args.section c.remove.new.self _ _ (err_seen shown c.from_residual.result _ c.from_residual.ensures.1)
    (λ t. going_moments _ k (λ i. (c.as_str.ensures.value i, (c.as_slice.ensures ∙ c.to_be_bytes-name.ensures) i)) (g.D.Device.time c.args.dev.now) (g.D.Device.time c.remove.new.self) c.remove.result (c.remove.ensures.told t))
    (entry_may_leave _ k (λ i. (c.as_str.ensures.value i, (c.as_slice.ensures ∙ c.to_be_bytes-name.ensures) i)) (g.D.Device.opened c.args.dev.now) (g.D.Device.opened c.remove.new.self) c.in_err-remove.ensures.opened_err)
    c.remove.ensures.counts.later (device_failed c.in_err-remove.field-0.0 _ _ _ _ c.in_err-remove.ensures.counts)

pub returns-clause-forgets : goal.returns-clause-forgets
returns-clause-forgets g c =
    let m = shown c.args.self in
    let n = shown (record { alloc = c.args.self.alloc; partition = c.args.self.partition; factory = c.args.self.factory; held = c.remove-2.new.self; unopened = c.remove-3.new.self; floor = c.args.self.floor; ceiling = c.args.self.ceiling }) in
    let k = key_of m c.args.section in
    let old = g.D.Device.time c.args.dev.now in
    let new = g.D.Device.time c.remove.new.self in
    let left = entry_left _ k (λ i. (c.as_str.ensures.value i, (c.as_slice.ensures ∙ c.to_be_bytes-name.ensures) i)) (g.D.Device.opened c.args.dev.now) (g.D.Device.opened c.remove.new.self) c.in_ok-remove.ensures.opened in
    let told = c.remove.ensures.told in
    let gone_now : g.D.Device.Tells → disk new k ≡ nothing = λ t. gone_blob _ k (λ i. (c.as_str.ensures.value i, (c.as_slice.ensures ∙ c.to_be_bytes-name.ensures) i)) old new c.in_ok-remove.field-0 (c.in_ok-remove.ensures.told t) in
    record {
      over = over_gone g.F.Buffer.SectionBuffer g.F.BufferFactory.gives m n (g.D.Device.opened c.args.dev.now) (g.D.Device.opened c.remove.new.self) (disk old) (disk new) c.args.section
          c.requires.over c.ranges.section.fits (record { place = record { partition = refl; factory = refl }; floor = refl; ceiling = refl })
          (λ q other. record { held = c.remove-2.ensures.others q other; unopened = grind (arith, common_steps, c.remove-3.ensures.updates.2 q) })
          (record { held = c.remove-2.ensures.here; unopened = c.remove-3.ensures.updates.1 }) left
          (λ t. other_blobs _ k (λ i. (c.as_str.ensures.value i, (c.as_slice.ensures ∙ c.to_be_bytes-name.ensures) i)) old new c.remove.result (told t)) gone_now;
      removed = record { held = c.remove-2.ensures.here; unopened = c.remove-3.ensures.updates.1 };
      others = λ q other. record { held = c.remove-2.ensures.others q other; unopened = grind (arith, common_steps, c.remove-3.ensures.updates.2 q) };
      bounds = record { place = record { partition = refl; factory = refl }; floor = refl; ceiling = refl };
      moments = λ t. going_moments _ k (λ i. (c.as_str.ensures.value i, (c.as_slice.ensures ∙ c.to_be_bytes-name.ensures) i)) old new c.remove.result (told t);
      gone = gone_now;
      entries = left;
      faults = c.remove.ensures.counts.later;
      cause = tt;
    }
