use Rattle.std.proofs.Common.{refl, sym, subst, rules}
use Rattle.section_manager.specs.managing.Lending.{IsPut}
use Rattle.section_manager.specs.managing.Managed.{shown}
use Rattle.section_manager.specs.managing.Opening.{Puts}
use Rattle.section_manager.proofs.sections.OpenLemmas.{all_same, put_stands}
use Rattle.section_manager.proofs.sections.OpeningEnds.{put_opened}
use Rattle.section_manager.proofs.manager.Manager.put.Goals as goal
use Rattle.blob_device.proofs.general.Results.{err_of}

pub returns-in_err-insert : goal.returns-in_err-insert
returns-in_err-insert g c =
    let m = shown c.args.self.now in
    subst (Puts g.F.Buffer.SectionBuffer g.F.BufferFactory.gives m c.args.section c.args.buffer _) (sym (err_of c.from_residual.result _ c.from_residual.ensures.1)) (record {
      put = tt;
      refused = all_same m _ c.args.section (record { held = c.in_err-insert.ensures.err; unopened = refl }) (λ q other. record { held = c.insert.ensures.others q other; unopened = refl });
      bounds = record { place = record { partition = refl; factory = refl }; floor = refl; ceiling = refl };
      opened = λ list has setting is_open. tt;
      stands = λ d stands at. tt;
      cause = refl;
    })

pub returns : goal.returns
returns g c =
    let m = shown c.args.self.now in
    let s = c.args.section in
    let put : IsPut s c.args.buffer m (shown (record c.args.self.now { held = c.insert.new.self; unopened = c.remove.new.self })) = record {
      here = c.in_ok-insert.ensures.here;
      opened = c.remove.ensures.updates.1;
      others = λ q other. record { held = c.in_ok-insert.ensures.others q other; unopened = search rules };
      bounds = record { place = record { partition = refl; factory = refl }; floor = refl; ceiling = refl };
    } in
    record {
      put = put;
      refused = tt;
      bounds = record { place = record { partition = refl; factory = refl }; floor = refl; ceiling = refl };
      opened = put_opened g.F.Buffer.SectionBuffer g.F.BufferFactory.gives m _ s c.args.buffer put c.ranges.section.fits c.requires.floor c.requires.ceiling c.requires.key;
      stands = put_stands g.F.Buffer.SectionBuffer m _ s c.args.buffer (record { place = record { partition = refl; factory = refl }; floor = refl; ceiling = refl }) c.in_ok-insert.ensures.here
          (λ q other. record { held = c.in_ok-insert.ensures.others q other; unopened = search rules });
      cause = tt;
    }
