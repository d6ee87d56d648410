use Rattle.std.specs.Prelude.{◌≡◌}
use Rattle.std.proofs.Common.{◌∙◌, refl, sym, subst, arith}
use Rattle.blob_device.specs.Disk.{Key, Blob}
use Rattle.sealed_pages.specs.Entries.{IsOpenAt}
use Rattle.section_manager.specs.managing.Managed.{shown}
use Rattle.section_manager.specs.Sections.{key_of}
use Rattle.section_manager.specs.lemmas.Seen.{device_failed}
use Rattle.section_manager.proofs.sections.OpenLemmas.{opening_moments, opened_moments, opened_made, opened_has, entered_at, entered_entries, entered_reads}
use Rattle.section_manager.proofs.sections.OpeningEnds.{blob_failed, blob_refused}
use Rattle.section_manager.proofs.manager.Manager.open.Goals as goal
use Rattle.blob_device.proofs.general.Results.{err_of}

pub returns-in_err-size : goal.returns-in_err-size
returns-in_err-size g c = blob_refused g.F.Buffer.SectionBuffer g.F.BufferFactory.gives g.D.Device (key_of (shown c.args.self.now) c.args.section) c.args.self.now.factory c.args.dev.now c.open_blob.new.self
    _ _ (err_of c.from_residual.result _ c.from_residual.ensures.1) (λ t. opening_moments _ _ (λ i. (c.as_str-partition.ensures.value i, (c.as_slice.ensures ∙ c.to_be_bytes-name.ensures) i)) (g.D.Device.time c.args.dev.now) (g.D.Device.time c.open_blob.new.self) c.open_blob.result (c.open_blob.ensures.told t))
    c.in_err-size.ensures.opened_err c.open_blob.ensures.counts.later (device_failed c.in_err-size.field-0.0 _ _ _ _ c.in_err-size.ensures.counts)

pub create-requires : goal.create-requires
create-requires g c = record {
  «open» = entered_at _ _ (λ i. (c.as_str-partition.ensures.value i, (c.as_slice.ensures ∙ c.to_be_bytes-name.ensures) i)) c.in_ok-size.size (g.D.Device.opened c.args.dev.now) (g.D.Device.opened c.open_blob.new.self) c.in_ok-size.ensures.opened _ (λ i. (c.as_str-partition.ensures.value i, (c.as_slice-2.ensures ∙ c.to_be_bytes-name.ensures) i));
}

pub returns-in_err-buffer : goal.returns-in_err-buffer
returns-in_err-buffer g c =
    let k = key_of (shown c.args.self.now) c.args.section in
    let e = c.in_err-buffer.ensures in
    blob_failed g.F.Buffer.SectionBuffer g.F.BufferFactory.gives g.D.Device k c.args.self.now.factory c.args.dev.now c.open_blob.new.self c.create.new.dev
    _ c.in_err-buffer.field-0.0 refl _ (err_of c.from_residual-in_err-buffer.result _ c.from_residual-in_err-buffer.ensures.1)
    (λ t. opened_moments _ _ (λ i. (c.as_str-partition.ensures.value i, (c.as_slice.ensures ∙ c.to_be_bytes-name.ensures) i)) (g.D.Device.time c.args.dev.now) (g.D.Device.time c.open_blob.new.self) (g.D.Device.time c.create.new.dev) (c.create.ensures.unchanged t) c.open_blob.result (c.open_blob.ensures.told t))
    (entered_entries _ _ (λ i. (c.as_str-partition.ensures.value i, (c.as_slice.ensures ∙ c.to_be_bytes-name.ensures) i)) c.in_ok-size.size (g.D.Device.opened c.args.dev.now) (g.D.Device.opened c.open_blob.new.self) c.in_ok-size.ensures.opened (g.D.Device.opened c.create.new.dev) _ (λ i. (c.as_str-partition.ensures.value i, (c.as_slice-2.ensures ∙ c.to_be_bytes-name.ensures) i)) c.create.ensures.entries)
    (λ none. entered_reads _ _ (λ i. (c.as_str-partition.ensures.value i, (c.as_slice.ensures ∙ c.to_be_bytes-name.ensures) i)) c.in_ok-size.size (g.D.Device.opened c.args.dev.now) (g.D.Device.opened c.open_blob.new.self) c.in_ok-size.ensures.opened (g.D.Device.opened c.create.new.dev) (c.create.ensures.reads none))
    c.open_blob.ensures.counts.later c.create.ensures.faults e.cause

pub returns : goal.returns
returns g c =
    let k = key_of (shown c.args.self.now) c.args.section in
    let f = g.F.BufferFactory.gives c.args.self.now.factory in
    let b = g.F.Buffer.SectionBuffer in
    let u = c.in_ok-buffer.buffer in
    let list = g.D.Device.opened c.create.new.dev in
    let last = g.D.Device.time c.create.new.dev in
    record {
      moments = λ t. opened_moments _ _ (λ i. (c.as_str-partition.ensures.value i, (c.as_slice.ensures ∙ c.to_be_bytes-name.ensures) i)) (g.D.Device.time c.args.dev.now) (g.D.Device.time c.open_blob.new.self) last (c.create.ensures.unchanged t) c.open_blob.result (c.open_blob.ensures.told t);
      made = λ t. opened_made _ _ (λ i. (c.as_str-partition.ensures.value i, (c.as_slice.ensures ∙ c.to_be_bytes-name.ensures) i)) (g.D.Device.time c.args.dev.now) (g.D.Device.time c.open_blob.new.self) last (c.create.ensures.unchanged t) c.in_ok-size.size (c.in_ok-size.ensures.told t);
      stands = λ t. opened_has _ _ (λ i. (c.as_str-partition.ensures.value i, (c.as_slice.ensures ∙ c.to_be_bytes-name.ensures) i)) (g.D.Device.time c.args.dev.now) (g.D.Device.time c.open_blob.new.self) last (c.create.ensures.unchanged t) c.in_ok-size.size
          _ (b.Stands u) (λ i. (c.as_str-partition.ensures.value i, (c.as_slice-2.ensures ∙ c.to_be_bytes-name.ensures) i)) (c.in_ok-size.ensures.told t) (c.in_ok-buffer.ensures.stands t);
      bytes = λ t. opened_has _ _ (λ i. (c.as_str-partition.ensures.value i, (c.as_slice.ensures ∙ c.to_be_bytes-name.ensures) i)) (g.D.Device.time c.args.dev.now) (g.D.Device.time c.open_blob.new.self) last (c.create.ensures.unchanged t) c.in_ok-size.size
          _ (λ (x : Blob). b.bytes u x.content ≡ b.holds f x.content) (λ i. (c.as_str-partition.ensures.value i, (c.as_slice-2.ensures ∙ c.to_be_bytes-name.ensures) i)) (c.in_ok-size.ensures.told t) (c.in_ok-buffer.ensures.bytes t);
      idle = c.in_ok-buffer.ensures.idle;
      key = c.in_ok-buffer.ensures.key ∙ (λ i. (c.as_str-partition.ensures.value i, (c.as_slice-2.ensures ∙ c.to_be_bytes-name.ensures) i));
      setting = c.in_ok-buffer.ensures.setting;
      «open» = subst (λ n. IsOpenAt list k n) (sym c.in_ok-buffer.ensures.extent) (subst (λ (x : Key). IsOpenAt list x c.in_ok-size.size) (λ i. (c.as_str-partition.ensures.value i, (c.as_slice-2.ensures ∙ c.to_be_bytes-name.ensures) i)) c.create.ensures.«open»);
      entries = entered_entries _ _ (λ i. (c.as_str-partition.ensures.value i, (c.as_slice.ensures ∙ c.to_be_bytes-name.ensures) i)) c.in_ok-size.size (g.D.Device.opened c.args.dev.now) (g.D.Device.opened c.open_blob.new.self) c.in_ok-size.ensures.opened list _ (λ i. (c.as_str-partition.ensures.value i, (c.as_slice-2.ensures ∙ c.to_be_bytes-name.ensures) i)) c.create.ensures.entries;
      reads = λ none. entered_reads _ _ (λ i. (c.as_str-partition.ensures.value i, (c.as_slice.ensures ∙ c.to_be_bytes-name.ensures) i)) c.in_ok-size.size (g.D.Device.opened c.args.dev.now) (g.D.Device.opened c.open_blob.new.self) c.in_ok-size.ensures.opened list (c.create.ensures.reads none);
      faults = omega (arith, c.open_blob.ensures.counts.later, c.create.ensures.faults);
      cause = tt;
    }
