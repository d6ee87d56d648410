use Rattle.std.proofs.Common.{List, Option, Bool, sym, subst}
use Rattle.std.specs.Prelude.{Ok}
use Rattle.sealed_pages.specs.unsealed.Writing.{blob_key, shown, size_of}
use Rattle.ordinal_store.specs.Mending.{IsInLeft, IsMade, Mending, whole}
use Rattle.ordinal_store.specs.Stores.{sight}
use Rattle.ordinal_store.proofs.MendLemmas.{mend_both, mend_cut, mend_cut_failed, ready_own}
use Rattle.ordinal_store.proofs.mending.mended.Goals as goal

pub returns-in_err-buffer : goal.returns-in_err-buffer
returns-in_err-buffer g c = mend_cut_failed g.D.Device.Tells c.args.size c.args.marks.now c.args.buffer (sight g.D.Device c.args.dev.now) (sight g.D.Device c.cut_to_slots.new.dev) c.in_err-buffer.field-0.0 c.from_residual.result c.from_residual.ensures.1 c.in_err-buffer.ensures

pub cleared-requires : goal.cleared-requires
cleared-requires g c = record {
  some = c.requires.some;
  ready = ready_own g.D.Device.Tells (blob_key (shown c.args.buffer)) c.args.buffer.capacity (sight g.D.Device c.cut_to_slots.new.dev) c.in_ok-buffer.buffer c.in_ok-buffer.ensures.ready;
}

pub returns-in-None : goal.returns-in-None
returns-in-None g c =
    subst (λ (m : Option (List Bool)). Mending g.D.Device.Tells (blob_key (shown c.args.buffer)) c.args.buffer.capacity (IsInLeft c.args.size m (whole c.args.size (size_of (shown c.args.buffer)))) (whole c.args.size (size_of (shown c.args.buffer))) (IsMade c.args.size m) c.args.buffer (Ok c.in_ok-buffer.buffer) (sight g.D.Device c.args.dev.now) (sight g.D.Device c.cut_to_slots.new.dev)) (sym c.in-None.is)
    (mend_cut g.D.Device.Tells c.args.size c.requires.some c.args.buffer c.in_ok-buffer.buffer (sight g.D.Device c.args.dev.now) (sight g.D.Device c.cut_to_slots.new.dev) c.requires.ready c.in_ok-buffer.ensures)

pub returns-in-Some : goal.returns-in-Some
returns-in-Some g c =
    let new = sight g.D.Device c.cleared.new.dev in
    subst (λ (m : Option (List Bool)). Mending g.D.Device.Tells (blob_key (shown c.args.buffer)) c.args.buffer.capacity (IsInLeft c.args.size m (whole c.args.size (size_of (shown c.args.buffer)))) (whole c.args.size (size_of (shown c.args.buffer))) (IsMade c.args.size m) c.args.buffer c.cleared.result (sight g.D.Device c.args.dev.now) new) (sym c.in-Some.is)
    (mend_both g.D.Device.Tells c.args.size c.requires.some c.args.buffer c.in_ok-buffer.buffer (sight g.D.Device c.args.dev.now) (sight g.D.Device c.cut_to_slots.new.dev) c.requires.ready c.in_ok-buffer.ensures c.in-Some.bits c.cleared.result new c.cleared.ensures)
