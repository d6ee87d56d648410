-- Items are gone over until an error comes, or none is left.
use Rattle.std.specs.Prelude.{◌≡◌, true, Some, None, Ok, Err}
use Rattle.std.proofs.Common.{inl, inr, sym, ◌∙◌, ap, subst}
use Rattle.section_manager.specs.contracts.sealed.PageBlobSectionBuffer.TheImpl as impl
use Rattle.segments.specs.FixedShown.{shown}
use Rattle.segments.specs.FixedWalking.{walk_of}
use Rattle.segments.specs.declared.fixed.replaying.Replay.{Replay}
use Rattle.segments.proofs.replay.DrainLemmas.{draining_start, draining_item, draining_none, draining_then, drains_err, drains_end, not_true}
use Rattle.segments.proofs.fixed.replaying.Replay.drain.Goals as goal
use Rattle.blob_device.proofs.general.Results.{err_of}

pub items-init : goal.items-init
items-init g c = draining_start g.S.Seal.seal_of g.A.CodecFixed.SIZE (impl.ghosts g.row.S g.S.Seal g.S.Seal-dict) (λ f. record { page_size = f.pages.page_size; capacity = f.write_buffer; cache_pages = f.pages.cache_pages }) g.A.Codec.spelling g.A.Codec.accepted g.D.Device.Tells (walk_of c.args.self) (g.D.Device.opened c.args.dev.now) (g.D.Device.time c.args.dev.now) (g.D.Device.faults c.args.dev.now) c.requires

pub items-preserved : goal.items-preserved
items-preserved g c =
    let f = c.next.ensures in
    let q = c.in_ok-next.field-0 in
    let is : c.next.result ≡ Some (Ok c.in_ok-next.field-0) = c.in-Some.is ∙ ap Some c.in_ok-next.was in
    draining_then g.S.Seal.seal_of g.A.CodecFixed.SIZE (impl.ghosts g.row.S g.S.Seal g.S.Seal-dict) (λ f. record { page_size = f.pages.page_size; capacity = f.write_buffer; cache_pages = f.pages.cache_pages }) g.A.Codec.spelling g.A.Codec.accepted g.D.Device.Tells (walk_of c.args.self) (walk_of c.items.this) (walk_of c.next.new.self)
    (g.D.Device.opened c.args.dev.now) (g.D.Device.opened c.items.dev) (g.D.Device.opened c.next.new.dev) (g.D.Device.time c.args.dev.now) (g.D.Device.time c.items.dev) (g.D.Device.time c.next.new.dev)
    (g.D.Device.faults c.args.dev.now) (g.D.Device.faults c.items.dev) (g.D.Device.faults c.next.new.dev) c.items.invariant
    (draining_item g.S.Seal.seal_of g.A.CodecFixed.SIZE (impl.ghosts g.row.S g.S.Seal g.S.Seal-dict) (λ f. record { page_size = f.pages.page_size; capacity = f.write_buffer; cache_pages = f.pages.cache_pages }) g.A.Codec.spelling g.A.Codec.accepted g.D.Device.Tells (walk_of c.items.this) (walk_of c.next.new.self)
    (g.D.Device.opened c.items.dev) (g.D.Device.opened c.next.new.dev) (g.D.Device.time c.items.dev) (g.D.Device.time c.next.new.dev) (g.D.Device.faults c.items.dev) (g.D.Device.faults c.next.new.dev)
    f.over f.same (f.going q.0 q.1 q.2 is) (f.held (inr (q, is))) (f.known (inr (q, is))) f.onward
    (λ ended. (let none = (f.ended ended).0 in absurd (cc (none, is)))) f.floors f.bytes f.items (f.later (inr (q, is))) f.moments (f.once (inr (q, is))) f.entries f.faults
    q.0 q.1 q.2 (λ t. f.item t q.0 q.1 q.2 is))

pub returns-in_err-next : goal.returns-in_err-next
returns-in_err-next g c =
    let f = c.next.ensures in
    let e = c.in_err-next.field-0.0 in
    let is : c.next.result ≡ Some (Err c.in_err-next.field-0.0) = c.in-Some.is ∙ ap Some c.in_err-next.was in
    drains_err g.S.Seal.seal_of g.A.CodecFixed.SIZE (impl.ghosts g.row.S g.S.Seal g.S.Seal-dict) (λ f. record { page_size = f.pages.page_size; capacity = f.write_buffer; cache_pages = f.pages.cache_pages }) g.A.Codec.spelling g.A.Codec.accepted g.A.Codec.refusal g.D.Device (walk_of c.args.self) (walk_of c.items.this) c.args.dev.now c.items.dev
    g.met.A.CodecFixed.fixed.at_least c.items.invariant {U = g.row.A.Denot} shown c.from_residual.result e (err_of c.from_residual.result e c.from_residual.ensures.1) c.next.new.dev (walk_of c.next.new.self)
    (not_true (walk_of c.items.this).ended (λ ended. (let none = (f.ended ended).0 in cc (none, is))))
    f.over f.same f.stays f.floors f.bytes f.moments
    (λ t x at. f.refused t x (is ∙ ap (λ y. Some (Err y)) at))
    (λ t x at. (let has = f.damage t x (is ∙ ap (λ y. Some (Err y)) at) in (has.0, has.1)))
    (λ t p at. (let has = f.start t p (is ∙ ap (λ y. Some (Err y)) at) in (has.0, has.1)))
    (λ t k at. (f.damaged t k (is ∙ ap (λ y. Some (Err y)) at)).damage)
    f.entries f.faults (f.cause e is)

pub returns : goal.returns
returns g c =
    let f = c.next.ensures in
    let o = c.finish.ensures in
    let is : c.next.result ≡ None = c.in_default.is in
    let last = draining_none g.S.Seal.seal_of g.A.CodecFixed.SIZE (impl.ghosts g.row.S g.S.Seal g.S.Seal-dict) (λ f. record { page_size = f.pages.page_size; capacity = f.write_buffer; cache_pages = f.pages.cache_pages }) g.A.Codec.spelling g.A.Codec.accepted g.D.Device.Tells (walk_of c.items.this) (walk_of c.next.new.self)
    (g.D.Device.opened c.items.dev) (g.D.Device.opened c.next.new.dev) (g.D.Device.time c.items.dev) (g.D.Device.time c.next.new.dev) (g.D.Device.faults c.items.dev) (g.D.Device.faults c.next.new.dev)
    f.over f.same (f.whole is) (f.held (inl is)) (f.known (inl is)) f.onward
    (λ ended. subst (λ (x : Replay g.row.A.Denot g.row.S.Denot g.A.CodecFixed g.A.Codec g.S.Seal). x.has_ended ≡ true) (sym (f.ended ended).1) ended)
    f.floors f.bytes f.items (f.later (inl is)) f.moments (f.once (inl is)) f.entries f.faults (λ t. f.none t is) (f.drained is) in
    drains_end g.S.Seal.seal_of g.A.CodecFixed.SIZE (impl.ghosts g.row.S g.S.Seal g.S.Seal-dict) (λ f. record { page_size = f.pages.page_size; capacity = f.write_buffer; cache_pages = f.pages.cache_pages }) g.A.Codec.spelling g.A.Codec.accepted g.A.Codec.refusal g.D.Device (walk_of c.args.self) (walk_of c.next.new.self) c.args.dev.now c.next.new.dev
    g.met.A.CodecFixed.fixed.at_least
    (draining_then g.S.Seal.seal_of g.A.CodecFixed.SIZE (impl.ghosts g.row.S g.S.Seal g.S.Seal-dict) (λ f. record { page_size = f.pages.page_size; capacity = f.write_buffer; cache_pages = f.pages.cache_pages }) g.A.Codec.spelling g.A.Codec.accepted g.D.Device.Tells (walk_of c.args.self) (walk_of c.items.this) (walk_of c.next.new.self)
    (g.D.Device.opened c.args.dev.now) (g.D.Device.opened c.items.dev) (g.D.Device.opened c.next.new.dev) (g.D.Device.time c.args.dev.now) (g.D.Device.time c.items.dev) (g.D.Device.time c.next.new.dev)
    (g.D.Device.faults c.args.dev.now) (g.D.Device.faults c.items.dev) (g.D.Device.faults c.next.new.dev) c.items.invariant last)
    (λ t s p l. f.none t is s p (last.left t s p l)) (f.drained is) shown c.finish.result
    o.sections (o.held f.over.walk) (o.settled f.over.walk) (λ t. o.sealed _ (f.over.disk t)) (λ t. o.unopened _ (f.over.disk t)) o.recovered o.unrecovered o.lifted o.floors o.replay_failed o.cause
