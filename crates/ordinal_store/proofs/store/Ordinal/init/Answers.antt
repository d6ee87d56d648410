use Rattle.std.proofs.Common.{sym, ap, subst}
use Rattle.std.specs.BTreeMap.{get}
use Rattle.std.specs.Option.{option_copied, option_map}
use Rattle.std.specs.Ordering.{nat_cmp}
use Rattle.std.specs.Prelude.{string_bytes}
use Rattle.ordinal_store.specs.Calls.{Opening}
use Rattle.ordinal_store.specs.Shown.{shown}
use Rattle.ordinal_store.specs.Slots.{stored_by}
use Rattle.ordinal_store.specs.Stores.{sight}
use Rattle.ordinal_store.proofs.store.Ordinal.init.Goals as goal

pub returns-in-None : goal.returns-in-None
returns-in-None g c = subst (λ (o : _). Opening (stored_by (string_bytes c.args.cfg.now.partition) c.args.cfg.now.items_per_blob g.A.CodecFixed.SIZE g.S.Seal.seal_of g.A.Codec.refusal) (option_map (λ m. get nat_cmp m) o)
    (shown g.A.CodecFixed.SIZE g.S.Seal.seal_of g.A.Codec.refusal) g.D.Device.Tells c.args.cfg.now.write_buffer c.bare.result (sight g.D.Device c.args.dev.now) (sight g.D.Device c.bare.new.dev)) (sym (ap option_copied c.in-None.is)) c.bare.ensures

pub returns-in-Some : goal.returns-in-Some
returns-in-Some g c = subst (λ (o : _). Opening (stored_by (string_bytes c.args.cfg.now.partition) c.args.cfg.now.items_per_blob g.A.CodecFixed.SIZE g.S.Seal.seal_of g.A.Codec.refusal) (option_map (λ m. get nat_cmp m) o)
    (shown g.A.CodecFixed.SIZE g.S.Seal.seal_of g.A.Codec.refusal) g.D.Device.Tells c.args.cfg.now.write_buffer c.opened.result (sight g.D.Device c.args.dev.now) (sight g.D.Device c.opened.new.dev)) (sym (ap option_copied c.in-Some.is)) c.opened.ensures
