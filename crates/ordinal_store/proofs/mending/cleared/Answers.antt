use Rattle.std.proofs.Common.{◌≡◌, ◌/◌, length, replicate, inl, inr, sym, ap, ◌∙◌, subst, arith}
use Rattle.std.specs.Prelude.{Ok, Err}
use Rattle.sealed_pages.specs.unsealed.Writing.{shown, size_of}
use Rattle.ordinal_store.specs.Mending.{Clearing, IsClearable}
use Rattle.ordinal_store.specs.Stores.{sight}
use Rattle.ordinal_store.proofs.MendLemmas.{clear_done, clearable_of, no_zeros, uncleared, unsettled}
use Rattle.ordinal_store.proofs.mending.cleared.Goals as goal

pub returns-in_err-zeros : goal.returns-in_err-zeros
returns-in_err-zeros g c = no_zeros g.D.Device.Tells c.args.size c.args.bits.now c.args.buffer (sight g.D.Device c.args.dev.now) (sight g.D.Device c.args.dev.now) c.requires.ready c.from_residual.result c.from_residual.ensures.1

pub clear_unmarked-requires : goal.clear_unmarked-requires
clear_unmarked-requires g c =
    let long : length c.as_slice.result.now ≡ c.args.size = c.as_slice.ensures.len ∙ c.in_ok-zeros.ensures.len in
    let zero : c.as_slice.result.now ≡ replicate c.args.size 0 = c.as_slice.ensures.value ∙ c.in_ok-zeros.ensures.items_if_clones_equal (λ y h. h) in
    record {
      clearable = subst (λ n. IsClearable g.D.Device.Tells n c.args.bits.now (sight g.D.Device c.args.dev.now) c.args.buffer) (sym long) (clearable_of g.D.Device.Tells c.args.size c.args.bits.now (sight g.D.Device c.args.dev.now) c.args.buffer c.requires.ready);
      some = omega (arith, long, c.requires.some);
      zeros = zero ∙ ap (λ n. replicate n 0) (sym long);
    }

pub returns-in_err-buffer : goal.returns-in_err-buffer
returns-in_err-buffer g c =
    uncleared g.D.Device.Tells c.args.size c.args.bits.now c.args.buffer (sight g.D.Device c.args.dev.now) (sight g.D.Device c.clear_unmarked.new.dev) c.requires.ready c.in_err-buffer.field-0.0 c.from_residual-in_err-buffer.result c.from_residual-in_err-buffer.ensures.1
    (subst (λ n. Clearing g.D.Device.Tells n c.args.bits.now 0 (size_of (shown c.args.buffer) / n) (shown c.args.buffer) (Err c.in_err-buffer.field-0.0) (sight g.D.Device c.args.dev.now) (sight g.D.Device c.clear_unmarked.new.dev)) (c.as_slice.ensures.len ∙ c.in_ok-zeros.ensures.len) c.in_err-buffer.ensures)

pub returns-in_err-sync : goal.returns-in_err-sync
returns-in_err-sync g c =
    unsettled g.D.Device.Tells c.args.size c.args.bits.now c.args.buffer (sight g.D.Device c.args.dev.now) (sight g.D.Device c.clear_unmarked.new.dev) c.requires.ready c.in_ok-buffer.buffer
    (subst (λ n. Clearing g.D.Device.Tells n c.args.bits.now 0 (size_of (shown c.args.buffer) / n) (shown c.args.buffer) (Ok c.in_ok-buffer.buffer) (sight g.D.Device c.args.dev.now) (sight g.D.Device c.clear_unmarked.new.dev)) (c.as_slice.ensures.len ∙ c.in_ok-zeros.ensures.len) c.in_ok-buffer.ensures)
    (sight g.D.Device c.sync.new.dev) c.sync.ensures.spares c.sync.ensures.since c.sync.ensures.entries c.sync.ensures.faults c.in_err-sync.field-0.0 c.from_residual-in_err-sync.result c.from_residual-in_err-sync.ensures.1
    (elim c.in_err-sync.ensures.cause [ inl mem ↦ inl (cc mem) | inr fault ↦ inr (cc fault.0, fault.1) ])

pub returns : goal.returns
returns g c =
    clear_done g.D.Device.Tells c.args.size c.args.bits.now c.args.buffer (sight g.D.Device c.args.dev.now) (sight g.D.Device c.clear_unmarked.new.dev) c.requires.ready c.in_ok-buffer.buffer
    (subst (λ n. Clearing g.D.Device.Tells n c.args.bits.now 0 (size_of (shown c.args.buffer) / n) (shown c.args.buffer) (Ok c.in_ok-buffer.buffer) (sight g.D.Device c.args.dev.now) (sight g.D.Device c.clear_unmarked.new.dev)) (c.as_slice.ensures.len ∙ c.in_ok-zeros.ensures.len) c.in_ok-buffer.ensures)
    (sight g.D.Device c.sync.new.dev) c.sync.ensures.spares c.sync.ensures.since c.sync.ensures.entries c.sync.ensures.faults
    c.in_ok-sync.field-0 c.in_ok-sync.ensures.same c.in_ok-sync.ensures.idle c.in_ok-sync.ensures.open c.in_ok-sync.ensures.over c.in_ok-sync.ensures.settles
