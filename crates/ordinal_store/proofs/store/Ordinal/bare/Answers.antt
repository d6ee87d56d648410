use Rattle.std.proofs.Common.{subst, arith}
use Rattle.std.specs.Prelude.{List, ℕ, Ok, string_bytes}
use Rattle.ordinal_store.specs.Emptying.{Emptying, IsIn}
use Rattle.ordinal_store.specs.Shown.{shown}
use Rattle.ordinal_store.specs.Slots.{stored_by}
use Rattle.ordinal_store.specs.Stores.{sight}
use Rattle.ordinal_store.proofs.BareLemmas.{bare_ends, bare_failed}
use Rattle.ordinal_store.proofs.TrailLemmas.{failed_as}
use Rattle.ordinal_store.proofs.store.Ordinal.bare.Goals as goal

pub returns-in_err-remove_all : goal.returns-in_err-remove_all
returns-in_err-remove_all g c =
    bare_failed (shown g.A.CodecFixed.SIZE g.S.Seal.seal_of g.A.Codec.refusal) g.D.Device.Tells (stored_by (string_bytes c.args.cfg.now.partition) c.args.cfg.now.items_per_blob g.A.CodecFixed.SIZE g.S.Seal.seal_of g.A.Codec.refusal) c.args.cfg.now.write_buffer (sight g.D.Device c.args.dev.now) (sight g.D.Device c.remove_all.new.dev)
    (subst (λ (p : List ℕ). Emptying (IsIn p) g.D.Device.Tells c.remove_all.result (sight g.D.Device c.args.dev.now) (sight g.D.Device c.remove_all.new.dev)) c.as_str.ensures.value c.remove_all.ensures).goes c.from_residual.result c.in_err-remove_all.field-0.0 c.from_residual.ensures.1
    (failed_as c.in_err-remove_all.field-0.0 (sight g.D.Device c.args.dev.now) (sight g.D.Device c.args.dev.now) (sight g.D.Device c.remove_all.new.dev) (omega arith) c.in_err-remove_all.ensures.cause)

pub returns : goal.returns
returns g c =
    let gone = subst (λ (p : List ℕ). Emptying (IsIn p) g.D.Device.Tells (Ok tt) (sight g.D.Device c.args.dev.now) (sight g.D.Device c.remove_all.new.dev)) c.as_str.ensures.value c.in_ok-remove_all.ensures in
    bare_ends (shown g.A.CodecFixed.SIZE g.S.Seal.seal_of g.A.Codec.refusal) g.D.Device.Tells (stored_by (string_bytes c.args.cfg.now.partition) c.args.cfg.now.items_per_blob g.A.CodecFixed.SIZE g.S.Seal.seal_of g.A.Codec.refusal) c.args.cfg.now.write_buffer (sight g.D.Device c.args.dev.now) (sight g.D.Device c.remove_all.new.dev)
    gone.goes c.empty.result c.requires.items (g.met.A.CodecFixed.fixed.at_least, g.met.A.CodecFixed.fixed.at_most) gone.gone c.empty.ensures.empty c.empty.ensures.cause
