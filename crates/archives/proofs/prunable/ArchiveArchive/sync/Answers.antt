use Rattle.std.proofs.Common.{◌≡◌, ◌↔◌, ◌∙◌, ℕ, ◌+◌, ◌^◌, List, length, Option, refl, sym, ap, subst, inl, inr, Contains, IsTrue, Err, arith}
use Rattle.std.specs.BTreeSet as set
use Rattle.std.specs.Ordering.{nat_cmp}
use Rattle.std.proofs.lemmas.Bool.{cases_lt}
use Rattle.blob_device.specs.Timeline.{disk}
use Rattle.value_codec.specs.declared.codec.Error as codec_error
use Rattle.paired.specs.PairShown as pair
use Rattle.paired.specs.Kept.{content_at}
use Rattle.paired.specs.Opening.{as_read}
use Rattle.paired.specs.lemmas.pair.Synced.{layout_as}
use Rattle.archives.specs.Archives.{filing_of}
use Rattle.archives.specs.FilingLaws.{one_filing}
use Rattle.archives.specs.IndexRecord.{place_of}
use Rattle.archives.specs.Raised.{raised}
use Rattle.archives.specs.Shown.{shown}
use Rattle.archives.specs.declared.error.Error.TheVariants.{Mem}
use Rattle.archives.proofs.put.Sync.{same_filing}
use Rattle.archives.proofs.sync.Errors.{known_error}
use Rattle.archives.proofs.sync.Lemmas.{has_values, none_in, stands_now, synced_over, synced_sound, synced_state}
use Rattle.archives.proofs.sync.Names.{moving_of, sync_as, sync_others}
use Rattle.archives.proofs.sync.Stored.{no_record_tail, no_value_tail, values_stored}
use Rattle.archives.proofs.SyncsLemmas.{sync_no_memory, sync_pair_done, sync_pair_failed}
use Rattle.archives.proofs.SyncsLemmas as syncs
use Rattle.archives.proofs.prunable.ArchiveArchive.sync.Goals as goal
use Rattle.blob_device.proofs.general.Results.{err_of}

pub returns-in_err-sections : goal.returns-in_err-sections
returns-in_err-sections g c =
    syncs.sync_as _ g.D.Device c.args.self _ (Err Mem) _ _ (known_error _ c.in_err-sections.field-0.0 Mem (err_of _ c.in_err-sections.field-0.0 c.from_residual.ensures.1) c.in_err-sections.ensures.cause)
    (sync_no_memory _ g.D.Device c.args.self c.args.dev.now (λ t sound.
    stands_now (shown c.args.self) (g.D.Device.opened c.args.dev.now) (disk (g.D.Device.time c.args.dev.now)) (omega arith) refl refl refl refl (λ s v held. λ i. (c.requires.over.pair.index.over.opened_list.setting s v held i).page_size) c.requires.over t sound))

pub returns-in_err-this : goal.returns-in_err-this
returns-in_err-this g c =
    let a = shown c.args.self in
    let first = Contains c.deref.result.now in
    let second = Contains c.deref-2.result.now in
    let named : (s : ℕ) → first s ↔ IsTrue (a.is_written s) = subst (λ xs. (s : ℕ) → Contains xs s ↔ IsTrue (a.is_written s)) (sym c.deref.ensures.value) c.in_ok-sections.ensures.each in
    let active : (s : ℕ) → second s ↔ IsTrue (a.is_written s) = subst (λ xs. (s : ℕ) → Contains xs s ↔ IsTrue (a.is_written s)) (sym c.deref-2.ensures.value) c.in_ok-sections.ensures.each in
    let says = c.in_err-this.ensures in
    let e = c.in_err-this.field-0.0 in
    syncs.sync_as _ g.D.Device c.args.self _ (Err (raised e)) _ _ (err_of _ (raised e) c.from_residual-in_err-this.ensures.1)
    (sync_pair_failed _ g.D.Device c.args.self first second named active c.args.dev.now c.sync_tracked.new.dev c.requires.over
    (record { keeps = says.moments; idle = says.idle; entries = says.entries; faults = says.faults }) _ e says.cause says.guard says.full says.lost says.fault)

pub returns : goal.returns
returns g c =
    let a = shown c.args.self in
    let old = g.D.Device.time c.args.dev.now in
    let new = g.D.Device.time c.sync_tracked.new.dev in
    let before = g.D.Device.opened c.args.dev.now in
    let after = g.D.Device.opened c.sync_tracked.new.dev in
    let written : ℕ → Type 0 = λ s. IsTrue (a.is_written s) in
    let first = Contains c.deref.result.now in
    let second = Contains c.deref-2.result.now in
    let named : (s : ℕ) → first s ↔ written s = subst (λ xs. (s : ℕ) → Contains xs s ↔ written s) (sym c.deref.ensures.value) c.in_ok-sections.ensures.each in
    let active : (s : ℕ) → second s ↔ written s = subst (λ xs. (s : ℕ) → Contains xs s ↔ written s) (sym c.deref-2.ensures.value) c.in_ok-sections.ensures.each in
    let says = c.in_ok-this.ensures in
    let p = pair.shown (place_of g.K.Key.SIZE) c.in_ok-this.field-0 in
    let refusal : List ℕ → Option codec_error.Error = λ bytes. g.V.Codec.refusal bytes c.in_ok-this.field-0.values.codec_config in
    let is_written = set.contains nat_cmp c.clear.new.self in
    let none = none_in c.clear.new.self c.clear.ensures.empty in
    let sync = sync_as a.pair first second written named active p says.synced in
    let layout : p.layout ≡ a.pair.layout = layout_as a.pair.layout p.layout.index p.layout.values p.layout.metadata p.layout.page_size sync.layout.index sync.layout.values sync.layout.metadata sync.layout.page_size in
    let filing = same_filing (filing_of a) p.layout refusal says.synced.layout refl (λ _. refl) (λ _. refl) (λ bytes. ap (g.V.Codec.refusal bytes) says.codec_config) in
    let over = synced_over a p refusal is_written sync before (disk old) (disk new) c.requires.over after none says.over says.lists in
    sync_pair_done _ g.D.Device c.args.self first second named active c.args.dev.now c.sync_tracked.new.dev c.requires.over
    (record { keeps = c.sync_tracked.ensures.moments; idle = c.sync_tracked.ensures.idle; entries = c.sync_tracked.ensures.entries; faults = c.sync_tracked.ensures.faults })
    _ over (one_filing (filing_of a) _ filing refl) (λ w accepts. subst (g.V.Codec.accepted w) (sym says.codec_config) accepts)
    (λ t sound. synced_sound a p refusal is_written sync before (disk old) (disk new) c.requires.over (says.lists t) layout t sound (record { sound = says.sound t sound.pair.sound; floor = sync.marker_floor ∙ sound.pair.floor })
    (sync_others a.pair first second written named active old new (c.sync_tracked.ensures.moments t)) (λ s has. has_values a before (disk old) c.requires.over t sound s (c.requires.over.written s has)) (λ bytes. ap (g.V.Codec.refusal bytes) says.codec_config))
    (λ t sound. stands_now _ after (disk new) (omega arith) refl refl refl refl (λ s v held. λ i. (over.pair.index.over.opened_list.setting s v held i).page_size) over t sound)
    (record {
      filing = filing;
      alike = refl;
      floor = refl;
      rows = λ s. refl;
      values = sync.sizes;
      stored = λ t s small is. values_stored p after (disk new) says.over s t small (λ held. sync.settled s is ((sync.values_held s).0 held)) ∙ ap (λ (l : List ℕ). length (content_at (as_read (disk new)) l s)) sync.layout.values;
      state = λ t. synced_state a p refusal is_written sync before (disk old) (disk new) c.requires.over (says.lists t);
      tracked = sync;
      none_written = none;
      flushed = λ t s is. (
        no_record_tail p after (disk new) says.over s t (sync.named s is ∙ sym (sync.lengths s)),
        no_value_tail p after (disk new) says.over s (λ held. sync.settled s is ((sync.values_held s).0 held)),
      );
      version = λ moving. elim (cases_lt (a.pair.store.version + 1) (2 ^ 64)) [
        | inl low ↦ low
        | inr large ↦ absurd (says.no_version large (moving_of a.pair first second written named active moving))
      ];
    })
