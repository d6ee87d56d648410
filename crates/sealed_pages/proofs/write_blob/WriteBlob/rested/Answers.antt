use Rattle.sealed_pages.proofs.cutting.Truncating.{no_value}
use Rattle.std.proofs.Common.{ℕ, rules, refl}
use Rattle.blob_device.specs.Change.{Settle}
use Rattle.sealed_pages.specs.unsealed.Writing.{shown, blob_key}
use Rattle.blob_device.specs.lemmas.Moments.{ok_blob}
use Rattle.sealed_pages.proofs.unsealed.SparingLemmas.{sparing_settle, passes_at}
use Rattle.sealed_pages.proofs.unsealed.ContentLemmas.{adds_settle}
use Rattle.sealed_pages.proofs.write_blob.WriteBlob.rested.Goals as goal

pub returns-in_err-sync : goal.returns-in_err-sync
returns-in_err-sync g c =
    record {
      spares = λ t. sparing_settle (λ (i : ℕ). Unit {0}) c.args.self.settled (blob_key (shown c.args.self)) (g.D.Device.time c.args.dev.now) (g.D.Device.time c.sync.new.self) _ (passes_at c.as_str.ensures.value c.as_slice.ensures.value (c.sync.ensures.told t));
      settles = λ t. no_value _ _ c.from_residual.ensures.0;
      since = λ t. adds_settle (blob_key (shown c.args.self)) (g.D.Device.time c.args.dev.now) (g.D.Device.time c.sync.new.self) _ (passes_at c.as_str.ensures.value c.as_slice.ensures.value (c.sync.ensures.told t));
      same = no_value _ _ c.from_residual.ensures.0;
      once = search rules;
      «open» = no_value _ _ c.from_residual.ensures.0;
      entries = search rules;
      faults = search rules;
      cause = search rules;
    }

pub returns : goal.returns
returns g c =
    record {
      spares = λ t. sparing_settle (λ (i : ℕ). Unit {0}) c.args.self.settled (blob_key (shown c.args.self)) (g.D.Device.time c.args.dev.now) (g.D.Device.time c.sync.new.self) _ (passes_at c.as_str.ensures.value c.as_slice.ensures.value (c.sync.ensures.told t));
      settles = λ t. ok_blob (blob_key (shown c.args.self)) Settle _ (g.D.Device.time c.args.dev.now) (g.D.Device.time c.sync.new.self) (passes_at c.as_str.ensures.value c.as_slice.ensures.value (c.in_ok-sync.ensures.told t));
      since = λ t. adds_settle (blob_key (shown c.args.self)) (g.D.Device.time c.args.dev.now) (g.D.Device.time c.sync.new.self) _ (passes_at c.as_str.ensures.value c.as_slice.ensures.value (c.sync.ensures.told t));
      same = refl;
      once = search rules;
      «open» = search rules;
      entries = search rules;
      faults = search rules;
      cause = search rules;
    }
