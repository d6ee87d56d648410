use Rattle.std.proofs.Common.{refl, sym, ◌∙◌}
use Rattle.std.specs.Prelude.{Err, Ok}
use Rattle.cache_store.specs.Shown.{config_of, shown}
use Rattle.cache_store.proofs.GetLemmas.{at_index, get_absent, get_done, get_failed}
use Rattle.cache_store.proofs.cache.Cache.get.Goals as goal
use Rattle.blob_device.proofs.general.Results.{err_of}

-- the index is not held
pub returns-in_default : goal.returns-in_default
returns-in_default g c = get_absent _ _ (λ u. refl) g.D.Device (shown g.V.Codec.refusal c.args.self.now) c.args.index c.args.dev.now c.requires.over (sym c.offset.ensures ∙ c.in_default.is)

-- its record was not read
pub returns-in_err-record : goal.returns-in_err-record
returns-in_err-record g c =
    let e = c.in_err-record.field-0.0 in
    rw (err_of c.from_residual.result e c.from_residual.ensures.1)
    (get_failed _ _ (λ u. refl) g.D.Device (shown g.V.Codec.refusal c.args.self.now) c.args.index c.args.dev.now c.requires.over c.in-Some.offset (sym c.offset.ensures ∙ c.in-Some.is)
    _ (λ r. r.index) (λ r. g.V.Codec.spelling r.value) _ (λ r cfg allowed. allowed.0) (λ r. refl) _ (config_of c.args.self.now) (λ x. refl) (Err e) c.get.new.dev
    (at_index c.section_of-section.result _ c.section_of-section.ensures c.in_err-record.ensures) e refl)

-- it was read
pub returns : goal.returns
returns g c =
    get_done _ _ (λ u. refl) g.D.Device (shown g.V.Codec.refusal c.args.self.now) c.args.index c.args.dev.now c.requires.over c.in-Some.offset (sym c.offset.ensures ∙ c.in-Some.is)
    _ (λ r. r.index) (λ r. g.V.Codec.spelling r.value) _ (λ r cfg allowed. allowed.0) (λ r. refl) _ (config_of c.args.self.now) (λ x. refl) (Ok c.in_ok-record.record) c.get.new.dev
    (at_index c.section_of-section.result _ c.section_of-section.ensures c.in_ok-record.ensures) c.in_ok-record.record refl
