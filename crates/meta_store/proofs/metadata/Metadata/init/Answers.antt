use Rattle.std.proofs.Common.{ℕ, List, Err, refl, sym, ◌∙◌, subst}
use Rattle.meta_store.specs.declared.error.Error.TheVariants.{Corruption}
use Rattle.meta_store.specs.Calls.{outcome}
use Rattle.meta_store.specs.Format.{format_of}
use Rattle.meta_store.specs.Opening.{Inits}
use Rattle.meta_store.specs.Store.{seen}
use Rattle.meta_store.proofs.Failing.{err_seen, err_short}
use Rattle.meta_store.proofs.InitsLemmas.{left_unread, map_chosen, open_failed, read_short, right_unread, side_refused}
use Rattle.meta_store.proofs.OpeningPair.{chosen_ascends}
use Rattle.meta_store.proofs.OpeningReads.{left_fits, then_right_fits}
use Rattle.meta_store.proofs.metadata.Metadata.init.Goals as goal

pub returns-in_err-left : goal.returns-in_err-left
returns-in_err-left g c = subst (λ (p : List ℕ). Inits g.D.Device (format_of g.K.Ord.cmp g.K.Key.key_bytes g.V.Codec g.S.Seal) c.args.cfg.now.codec_config p c.args.dev.now c.open_copies.new.dev (outcome seen c.from_residual.result)) c.as_str-partition.ensures.value
    (open_failed g.D.Device (format_of g.K.Ord.cmp g.K.Key.key_bytes g.V.Codec g.S.Seal) c.args.cfg.now.codec_config c.as_str-partition.result.now c.args.dev.now g.met.S.Seal.fits (λ t k. record { bytes = g.met.D.Device.holds_bytes t c.args.dev.now k; agrees = g.met.D.Device.agrees t c.args.dev.now k; absent = g.met.D.Device.absent t c.args.dev.now k; as_read = g.met.D.Device.as_read t c.args.dev.now k })
    c.open_copies.new.dev c.in_err-left.field-0.0 c.in_err-left.ensures _ (err_seen seen c.from_residual.result _ c.from_residual.ensures.1))

pub load-requires : goal.load-requires
load-requires g c =
    left_fits c.as_str-partition.result.now c.in_ok-left.left c.in_ok-left.right (g.D.Device.opened c.args.dev.now) (g.D.Device.opened c.open_copies.new.dev) c.in_ok-left.ensures.ends.list

pub load-requires-2 : goal.load-requires-2
load-requires-2 g c =
    then_right_fits c.as_str-partition.result.now c.in_ok-left.left c.in_ok-left.right (g.D.Device.opened c.args.dev.now) (g.D.Device.opened c.open_copies.new.dev) (g.D.Device.opened c.load.new.dev) c.in_ok-left.ensures.ends.list c.load.ensures.read

pub returns-in_err-left-2 : goal.returns-in_err-left-2
returns-in_err-left-2 g c = subst (λ (p : List ℕ). Inits g.D.Device (format_of g.K.Ord.cmp g.K.Key.key_bytes g.V.Codec g.S.Seal) c.args.cfg.now.codec_config p c.args.dev.now c.load.new.dev (outcome seen c.from_residual-in_err-left-2.result)) c.as_str-partition.ensures.value
    (left_unread g.D.Device (format_of g.K.Ord.cmp g.K.Key.key_bytes g.V.Codec g.S.Seal) c.args.cfg.now.codec_config c.as_str-partition.result.now c.args.dev.now g.met.S.Seal.fits (λ t k. record { bytes = g.met.D.Device.holds_bytes t c.args.dev.now k; agrees = g.met.D.Device.agrees t c.args.dev.now k; absent = g.met.D.Device.absent t c.args.dev.now k; as_read = g.met.D.Device.as_read t c.args.dev.now k })
    c.open_copies.new.dev c.in_ok-left.left c.in_ok-left.right c.in_ok-left.ensures c.load.new.dev c.in_err-left-2.field-0.0 c.in_err-left-2.ensures _ (err_seen seen c.from_residual-in_err-left-2.result _ c.from_residual-in_err-left-2.ensures.1))

pub returns-in_err-right : goal.returns-in_err-right
returns-in_err-right g c = subst (λ (p : List ℕ). Inits g.D.Device (format_of g.K.Ord.cmp g.K.Key.key_bytes g.V.Codec g.S.Seal) c.args.cfg.now.codec_config p c.args.dev.now c.load-2.new.dev (outcome seen c.from_residual-in_err-right.result)) c.as_str-partition.ensures.value
    (right_unread g.D.Device (format_of g.K.Ord.cmp g.K.Key.key_bytes g.V.Codec g.S.Seal) c.args.cfg.now.codec_config c.as_str-partition.result.now c.args.dev.now g.met.S.Seal.fits (λ t k. record { bytes = g.met.D.Device.holds_bytes t c.args.dev.now k; agrees = g.met.D.Device.agrees t c.args.dev.now k; absent = g.met.D.Device.absent t c.args.dev.now k; as_read = g.met.D.Device.as_read t c.args.dev.now k })
    c.open_copies.new.dev c.in_ok-left.left c.in_ok-left.right c.in_ok-left.ensures c.load.new.dev c.in_ok-left-2.left.items c.in_ok-left-2.ensures c.load-2.new.dev c.in_err-right.field-0.0 c.in_err-right.ensures _ (err_seen seen c.from_residual-in_err-right.result _ c.from_residual-in_err-right.ensures.1))

pub returns-in_err-left-3 : goal.returns-in_err-left-3
returns-in_err-left-3 g c = subst (λ (p : List ℕ). Inits g.D.Device (format_of g.K.Ord.cmp g.K.Key.key_bytes g.V.Codec g.S.Seal) c.args.cfg.now.codec_config p c.args.dev.now c.load-2.new.dev (outcome seen c.from_residual-in_err-left-3.result)) c.as_str-partition.ensures.value
    (read_short g.D.Device (format_of g.K.Ord.cmp g.K.Key.key_bytes g.V.Codec g.S.Seal) c.args.cfg.now.codec_config c.as_str-partition.result.now c.args.dev.now g.met.S.Seal.fits (λ t k. record { bytes = g.met.D.Device.holds_bytes t c.args.dev.now k; agrees = g.met.D.Device.agrees t c.args.dev.now k; absent = g.met.D.Device.absent t c.args.dev.now k; as_read = g.met.D.Device.as_read t c.args.dev.now k })
    c.open_copies.new.dev c.in_ok-left.left c.in_ok-left.right c.in_ok-left.ensures c.load.new.dev c.in_ok-left-2.left.items c.in_ok-left-2.ensures c.load-2.new.dev c.in_ok-right.right.items c.in_ok-right.ensures _ (err_short seen c.from_residual-in_err-left-3.result _ c.from_residual-in_err-left-3.ensures.1 c.in_err-left-3.ensures))

pub returns-in_err-right-2 : goal.returns-in_err-right-2
returns-in_err-right-2 g c = subst (λ (p : List ℕ). Inits g.D.Device (format_of g.K.Ord.cmp g.K.Key.key_bytes g.V.Codec g.S.Seal) c.args.cfg.now.codec_config p c.args.dev.now c.load-2.new.dev (outcome seen c.from_residual-in_err-right-2.result)) c.as_str-partition.ensures.value
    (read_short g.D.Device (format_of g.K.Ord.cmp g.K.Key.key_bytes g.V.Codec g.S.Seal) c.args.cfg.now.codec_config c.as_str-partition.result.now c.args.dev.now g.met.S.Seal.fits (λ t k. record { bytes = g.met.D.Device.holds_bytes t c.args.dev.now k; agrees = g.met.D.Device.agrees t c.args.dev.now k; absent = g.met.D.Device.absent t c.args.dev.now k; as_read = g.met.D.Device.as_read t c.args.dev.now k })
    c.open_copies.new.dev c.in_ok-left.left c.in_ok-left.right c.in_ok-left.ensures c.load.new.dev c.in_ok-left-2.left.items c.in_ok-left-2.ensures c.load-2.new.dev c.in_ok-right.right.items c.in_ok-right.ensures _ (err_short seen c.from_residual-in_err-right-2.result _ c.from_residual-in_err-right-2.ensures.1 c.in_err-right-2.ensures))

pub holding-requires : goal.holding-requires
holding-requires g c =
    chosen_ascends (format_of g.K.Ord.cmp g.K.Key.key_bytes g.V.Codec g.S.Seal c.args.cfg.now.codec_config) c.deref.result.now c.deref-2.result.now c.in_ok-left-3.left c.in_ok-right-2.right c.in-Ok.chosen c.in_ok-left-3.ensures.reads c.in_ok-right-2.ensures.reads (sym c.choose.ensures ∙ c.in-Ok.is)

pub returns-in-Ok : goal.returns-in-Ok
returns-in-Ok g c = subst (λ (p : List ℕ). Inits g.D.Device (format_of g.K.Ord.cmp g.K.Key.key_bytes g.V.Codec g.S.Seal) c.args.cfg.now.codec_config p c.args.dev.now c.load-2.new.dev (outcome seen c.holding.result)) c.as_str-partition.ensures.value
    (map_chosen g.D.Device (format_of g.K.Ord.cmp g.K.Key.key_bytes g.V.Codec g.S.Seal) c.args.cfg.now.codec_config c.as_str-partition.result.now c.args.dev.now g.met.S.Seal.fits (λ t k. record { bytes = g.met.D.Device.holds_bytes t c.args.dev.now k; agrees = g.met.D.Device.agrees t c.args.dev.now k; absent = g.met.D.Device.absent t c.args.dev.now k; as_read = g.met.D.Device.as_read t c.args.dev.now k })
    c.open_copies.new.dev c.in_ok-left.left c.in_ok-left.right c.in_ok-left.ensures c.load.new.dev c.in_ok-left-2.left.items c.in_ok-left-2.ensures c.load-2.new.dev c.in_ok-right.right.items c.in_ok-right.ensures c.deref.result.now c.deref-2.result.now c.deref.ensures.value c.deref-2.ensures.value c.in_ok-left-3.left c.in_ok-right-2.right c.in_ok-left-3.ensures c.in_ok-right-2.ensures c.in-Ok.chosen (sym c.choose.ensures ∙ c.in-Ok.is) (outcome seen c.holding.result) c.holding.ensures)

pub returns : goal.returns
returns g c = subst (λ (p : List ℕ). Inits g.D.Device (format_of g.K.Ord.cmp g.K.Key.key_bytes g.V.Codec g.S.Seal) c.args.cfg.now.codec_config p c.args.dev.now c.load-2.new.dev (Err (Corruption c.in-Err.side))) c.as_str-partition.ensures.value
    (side_refused g.D.Device (format_of g.K.Ord.cmp g.K.Key.key_bytes g.V.Codec g.S.Seal) c.args.cfg.now.codec_config c.as_str-partition.result.now c.args.dev.now g.met.S.Seal.fits (λ t k. record { bytes = g.met.D.Device.holds_bytes t c.args.dev.now k; agrees = g.met.D.Device.agrees t c.args.dev.now k; absent = g.met.D.Device.absent t c.args.dev.now k; as_read = g.met.D.Device.as_read t c.args.dev.now k })
    c.open_copies.new.dev c.in_ok-left.left c.in_ok-left.right c.in_ok-left.ensures c.load.new.dev c.in_ok-left-2.left.items c.in_ok-left-2.ensures c.load-2.new.dev c.in_ok-right.right.items c.in_ok-right.ensures c.deref.result.now c.deref-2.result.now c.deref.ensures.value c.deref-2.ensures.value c.in_ok-left-3.left c.in_ok-right-2.right c.in_ok-left-3.ensures c.in_ok-right-2.ensures c.in-Err.side (sym c.choose.ensures ∙ c.in-Err.is) (Err (Corruption c.in-Err.side)) refl)
