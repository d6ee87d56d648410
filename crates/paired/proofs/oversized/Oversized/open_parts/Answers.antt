use Rattle.std.proofs.Common.{◌≡◌, ◌↔◌, inl, inr, ℕ, ◌-◌, ◌^◌, ◌<◌, ◌≤◌, List, [], IsTrue, None, Some, false, refl, sym, ◌∙◌, ap, subst, arith}
use Rattle.std.specs.Prelude.{IsSome, string_bytes}
use Rattle.std.specs.Int.{w64, to_be_bytes}
use Rattle.std.specs.BTreeMap.{get}
use Rattle.std.specs.Ordering.{nat_cmp}
use Rattle.blob_device.specs.Disk.{Key, Blob}
use Rattle.blob_device.specs.Opened.{reads_of}
use Rattle.blob_device.specs.Timeline.{disk, Always, Each}
use Rattle.blob_device.specs.lemmas.Moments.{always_now}
use Rattle.sealed_pages.specs.declared.pages.Pages.{Pages}
use Rattle.sealed_pages.specs.Shown as page_blob
use Rattle.section_manager.specs.contracts.sealed.AppendFactoryBufferFactory.TheImpl as factory
use Rattle.section_manager.specs.contracts.sealed.PageBlobSectionBuffer.TheImpl as pages
use Rattle.section_manager.specs.declared.journal.Error.TheVariants as journal_error
use Rattle.section_manager.specs.declared.sealed.AppendFactory.{AppendFactory}
use Rattle.section_manager.specs.Lasting.{IsSettling}
use Rattle.section_manager.specs.managing.Managed as managed
use Rattle.section_manager.specs.Refusing.{IsForeign}
use Rattle.section_manager.specs.Sealed.{adopted_bytes, is_unsettled}
use Rattle.section_manager.specs.Sections.{section_key, key_of, IsHeld}
use Rattle.segments.specs.FixedFloors as floors
use Rattle.segments.specs.FixedLists as fixed
use Rattle.segments.specs.FixedLists.{Lists, IsJournal}
use Rattle.paired.specs.glob.Sections.{section_bytes, section_size}
use Rattle.paired.specs.ReplayShown.{layout_for}
use Rattle.paired.proofs.BoundaryLemmas.{boundary_as, cut_off, ends_within, opened_size}
use Rattle.paired.proofs.opening.Lemmas.{both_first, both_second, both_still, settling_of, settling_others, values_first}
use Rattle.paired.proofs.opening.StartCauses.{error_back, parts_refuse}
use Rattle.paired.proofs.OpenParts.{floor_given, foreign_as, given, held_before, named_key, named_no_codec, named_no_damage, named_refuse, only_damage, refused_lost, unknown, unreadable_found}
use Rattle.paired.proofs.pair.Sections.{glob_kept}
use Rattle.paired.proofs.pair.Stays.{journal_stays}
use Rattle.paired.proofs.oversized.Oversized.open_parts.Goals as goal
use Rattle.blob_device.proofs.general.Results.{err_of, err_with}
use Rattle.paired.specs.lemmas.OpenParts.{keys_apart}

pub returns-clause-index : goal.returns-clause-index
returns-clause-index g c =
    let i : List ℕ = string_bytes c.args.cfg.now.index_partition in
    let v : List ℕ = string_bytes c.args.cfg.now.value_partition in
    let b = g.D.Device.time c.preflight_floors.new.dev in
    let e = g.D.Device.time c.init.new.dev in
    let f = g.D.Device.time c.finish.new.dev in
    let is_i : string_bytes c.in_ok-index.field-0.partition ≡ i = c.in_ok-index.ensures.partition in
    let is_v : string_bytes c.in_ok-values.field-0.partition ≡ v = c.in_ok-values.ensures.partition in
    let j = floors.journal_of c.in_ok-found.found in
    let here : j.sections.partition ≡ i = c.in_ok-found.ensures.partition ∙ is_i in
    subst (λ (k : Lists _ _). IsJournal (pages.ghosts g.row.S g.S.Seal g.S.Seal-dict) (factory.ghosts g.row.S g.S.Seal g.S.Seal-dict).gives g.S.Seal.seal_of g.I.CodecFixed.SIZE g.D.Device.Tells k (g.D.Device.opened c.finish.new.dev) (disk f)) (sym (given _ _ g.S.Seal.seal_of g.I.CodecFixed.SIZE g.D.Device (floors.journal_of c.in_ok-found.found) _ c.init.new.dev c.finish.new.dev (floors.preflight_shown c.in_ok-found.found).target c.in_ok-found.ensures.target c.in_ok-index-2.ensures).same)
    (journal_stays g.S.Seal.seal_of g.I.CodecFixed.SIZE j (g.D.Device.opened c.preflight_floors.new.dev) (g.D.Device.opened c.finish.new.dev) (disk b) (disk f)
    (λ s small. ap (λ x. g.D.Device.opened x (key_of j.sections s)) (given _ _ g.S.Seal.seal_of g.I.CodecFixed.SIZE g.D.Device (floors.journal_of c.in_ok-found.found) _ c.init.new.dev c.finish.new.dev (floors.preflight_shown c.in_ok-found.found).target c.in_ok-found.ensures.target c.finish.ensures).unchanged ∙ c.init.ensures.entries (key_of j.sections s) (λ q le. keys_apart (string_bytes c.in_ok-values.field-0.partition) j.sections.partition (λ same. c.requires.apart (sym here ∙ sym same ∙ is_v)) s q))
    (λ t s small. ap (λ x. disk (g.D.Device.time x) (key_of j.sections s)) (given _ _ g.S.Seal.seal_of g.I.CodecFixed.SIZE g.D.Device (floors.journal_of c.in_ok-found.found) _ c.init.new.dev c.finish.new.dev (floors.preflight_shown c.in_ok-found.found).target c.in_ok-found.ensures.target c.finish.ensures).unchanged ∙ settling_others (2 ^ 64 - 1) (string_bytes c.in_ok-values.field-0.partition) (disk b) (disk e) (always_now b e _ (c.init.ensures.moments t)) (key_of j.sections s) (λ same. c.requires.apart (sym here ∙ same ∙ is_v)))
    c.in_ok-found.ensures.over)

pub returns-clause-values : goal.returns-clause-values
returns-clause-values g c =
    let m = managed.shown c.in_ok-values-2.values.manager in
    glob_kept m (g.D.Device.opened c.init.new.dev) (g.D.Device.opened c.finish.new.dev) (disk (g.D.Device.time c.init.new.dev)) (disk (g.D.Device.time c.finish.new.dev)) (λ s. ap (λ x. g.D.Device.opened x (key_of m s)) (given _ _ g.S.Seal.seal_of g.I.CodecFixed.SIZE g.D.Device (floors.journal_of c.in_ok-found.found) _ c.init.new.dev c.finish.new.dev (floors.preflight_shown c.in_ok-found.found).target c.in_ok-found.ensures.target c.finish.ensures).unchanged)
    (λ t s. ap (λ x. disk (g.D.Device.time x) (key_of m s)) (given _ _ g.S.Seal.seal_of g.I.CodecFixed.SIZE g.D.Device (floors.journal_of c.in_ok-found.found) _ c.init.new.dev c.finish.new.dev (floors.preflight_shown c.in_ok-found.found).target c.in_ok-found.ensures.target c.finish.ensures).unchanged) c.in_ok-values-2.ensures.over

pub returns-clause-index_held : goal.returns-clause-index_held
returns-clause-index_held g c t s small =
    let i : List ℕ = string_bytes c.args.cfg.now.index_partition in
    let a = g.D.Device.time c.args.dev.now in
    let is_i : string_bytes c.in_ok-index.field-0.partition ≡ i = c.in_ok-index.ensures.partition in
    subst (λ (k : Lists _ _). IsHeld k.sections s ↔ IsTrue (disk a (section_key i s)).there) (sym (given _ _ g.S.Seal.seal_of g.I.CodecFixed.SIZE g.D.Device (floors.journal_of c.in_ok-found.found) _ c.init.new.dev c.finish.new.dev (floors.preflight_shown c.in_ok-found.found).target c.in_ok-found.ensures.target c.in_ok-index-2.ensures).same)
    (held_before (disk a (section_key (string_bytes c.in_ok-index.field-0.partition) s)) (disk a (section_key i s)) s (2 ^ 64 - 1) (c.in_ok-found.ensures.held t s small) (omega (arith, small))
    (ap (λ (k : Key). (disk a k).there) (named_key (string_bytes c.in_ok-index.field-0.partition) i s is_i)))

pub returns-clause-values_held : goal.returns-clause-values_held
returns-clause-values_held g c t s small =
    let i : List ℕ = string_bytes c.args.cfg.now.index_partition in
    let v : List ℕ = string_bytes c.args.cfg.now.value_partition in
    let a = g.D.Device.time c.args.dev.now in
    let b = g.D.Device.time c.preflight_floors.new.dev in
    let is_i : string_bytes c.in_ok-index.field-0.partition ≡ i = c.in_ok-index.ensures.partition in
    let is_v : string_bytes c.in_ok-values.field-0.partition ≡ v = c.in_ok-values.ensures.partition in
    let first : Always a b (Each (IsSettling i (2 ^ 64 - 1) (disk a))) = settling_of (string_bytes c.in_ok-index.field-0.partition) i (2 ^ 64 - 1) (2 ^ 64 - 1) a b is_i refl (c.preflight_floors.ensures.moments t) in
    held_before (disk b (section_key (string_bytes c.in_ok-values.field-0.partition) s)) (disk a (section_key v s)) s (2 ^ 64 - 1) (c.in_ok-values-2.ensures.held t s small) (omega (arith, small))
    (ap (λ (k : Key). (disk b k).there) (named_key (string_bytes c.in_ok-values.field-0.partition) v s is_v) ∙ ap (λ (x : Blob). x.there) (values_first (2 ^ 64 - 1) i v c.requires.apart a b first (to_be_bytes w64 s)))

pub returns-clause-index_known : goal.returns-clause-index_known
returns-clause-index_known g c =
    let j = floors.journal_of c.in_ok-found.found in
    subst (λ (k : Lists _ _). (s : ℕ) → k.sections.unopened s ≡ None) (sym (given _ _ g.S.Seal.seal_of g.I.CodecFixed.SIZE g.D.Device (floors.journal_of c.in_ok-found.found) _ c.init.new.dev c.finish.new.dev (floors.preflight_shown c.in_ok-found.found).target c.in_ok-found.ensures.target c.in_ok-index-2.ensures).same)
    (unknown j.sections (g.D.Device.opened c.preflight_floors.new.dev) (disk (g.D.Device.time c.preflight_floors.new.dev)) (2 ^ 64 - 1) c.in_ok-found.ensures.over.over (omega arith) c.in_ok-found.ensures.later)

pub returns-clause-values_known : goal.returns-clause-values_known
returns-clause-values_known g c =
    let e = g.D.Device.time c.init.new.dev in
    let m = managed.shown c.in_ok-values-2.values.manager in
    unknown m (g.D.Device.opened c.init.new.dev) (disk e) (2 ^ 64 - 1) c.in_ok-values-2.ensures.over.over (omega arith) c.in_ok-values-2.ensures.later

pub returns-clause-index_bytes : goal.returns-clause-index_bytes
returns-clause-index_bytes g c t =
    let i : List ℕ = string_bytes c.args.cfg.now.index_partition in
    let v : List ℕ = string_bytes c.args.cfg.now.value_partition in
    let a = g.D.Device.time c.args.dev.now in
    let b = g.D.Device.time c.preflight_floors.new.dev in
    let e = g.D.Device.time c.init.new.dev in
    let f = g.D.Device.time c.finish.new.dev in
    let is_i : string_bytes c.in_ok-index.field-0.partition ≡ i = c.in_ok-index.ensures.partition in
    let is_v : string_bytes c.in_ok-values.field-0.partition ≡ v = c.in_ok-values.ensures.partition in
    let j = floors.journal_of c.in_ok-found.found in
    let here : j.sections.partition ≡ i = c.in_ok-found.ensures.partition ∙ is_i in
    subst (λ (k : Lists _ _). (s : ℕ) → IsHeld k.sections s → fixed.section_bytes k.sections (disk f) s ≡ adopted_bytes g.S.Seal.seal_of k.sections.factory.pages.page_size (disk a (section_key i s)).content) (sym (given _ _ g.S.Seal.seal_of g.I.CodecFixed.SIZE g.D.Device (floors.journal_of c.in_ok-found.found) _ c.init.new.dev c.finish.new.dev (floors.preflight_shown c.in_ok-found.found).target c.in_ok-found.ensures.target c.in_ok-index-2.ensures).same)
    (λ s held. ap (λ x. fixed.section_bytes j.sections (disk (g.D.Device.time x)) s) (given _ _ g.S.Seal.seal_of g.I.CodecFixed.SIZE g.D.Device (floors.journal_of c.in_ok-found.found) _ c.init.new.dev c.finish.new.dev (floors.preflight_shown c.in_ok-found.found).target c.in_ok-found.ensures.target c.finish.ensures).unchanged
    ∙ ap (λ (x : Blob). fixed.bytes_held (j.sections.held s) x.content) (settling_others (2 ^ 64 - 1) (string_bytes c.in_ok-values.field-0.partition) (disk b) (disk e) (always_now b e _ (c.init.ensures.moments t)) (key_of j.sections s) (λ same. c.requires.apart (sym here ∙ same ∙ is_v)))
    ∙ c.in_ok-found.ensures.bytes t s held
    ∙ ap (λ (k : Key). adopted_bytes g.S.Seal.seal_of j.sections.factory.pages.page_size (disk a k).content) (named_key (string_bytes c.in_ok-index.field-0.partition) i s is_i))

pub returns-clause-values_bytes : goal.returns-clause-values_bytes
returns-clause-values_bytes g c t s held =
    let i : List ℕ = string_bytes c.args.cfg.now.index_partition in
    let v : List ℕ = string_bytes c.args.cfg.now.value_partition in
    let a = g.D.Device.time c.args.dev.now in
    let b = g.D.Device.time c.preflight_floors.new.dev in
    let is_i : string_bytes c.in_ok-index.field-0.partition ≡ i = c.in_ok-index.ensures.partition in
    let is_v : string_bytes c.in_ok-values.field-0.partition ≡ v = c.in_ok-values.ensures.partition in
    let m = managed.shown c.in_ok-values-2.values.manager in
    let first : Always a b (Each (IsSettling i (2 ^ 64 - 1) (disk a))) = settling_of (string_bytes c.in_ok-index.field-0.partition) i (2 ^ 64 - 1) (2 ^ 64 - 1) a b is_i refl (c.preflight_floors.ensures.moments t) in
    ap (λ x. section_bytes m (disk (g.D.Device.time x)) s) (given _ _ g.S.Seal.seal_of g.I.CodecFixed.SIZE g.D.Device (floors.journal_of c.in_ok-found.found) _ c.init.new.dev c.finish.new.dev (floors.preflight_shown c.in_ok-found.found).target c.in_ok-found.ensures.target c.finish.ensures).unchanged
    ∙ c.in_ok-values-2.ensures.bytes t s held
    ∙ ap (λ (k : Key). (disk b k).content) (named_key (string_bytes c.in_ok-values.field-0.partition) v s is_v) ∙ ap (λ (x : Blob). x.content) (values_first (2 ^ 64 - 1) i v c.requires.apart a b first (to_be_bytes w64 s))

pub returns-clause-unrecovered : goal.returns-clause-unrecovered
returns-clause-unrecovered g c =
    subst (λ (k : Lists _ _). (s : ℕ) → IsTrue (k.unrecovered s) ↔ (k.floor_of s < fixed.section_size k.sections s)) (sym (given _ _ g.S.Seal.seal_of g.I.CodecFixed.SIZE g.D.Device (floors.journal_of c.in_ok-found.found) _ c.init.new.dev c.finish.new.dev (floors.preflight_shown c.in_ok-found.found).target c.in_ok-found.ensures.target c.in_ok-index-2.ensures).same) c.in_ok-found.ensures.unrecovered

pub returns-clause-reached : goal.returns-clause-reached
returns-clause-reached g c =
    subst (λ (k : Lists _ _). (s : ℕ) → k.floor_of s ≤ fixed.section_size k.sections s) (sym (given _ _ g.S.Seal.seal_of g.I.CodecFixed.SIZE g.D.Device (floors.journal_of c.in_ok-found.found) _ c.init.new.dev c.finish.new.dev (floors.preflight_shown c.in_ok-found.found).target c.in_ok-found.ensures.target c.in_ok-index-2.ensures).same) c.in_ok-found.ensures.reached

pub returns-clause-floors : goal.returns-clause-floors
returns-clause-floors g c s =
    let found = floors.preflight_shown c.in_ok-found.found in
    ap (λ (k : Lists _ _). k.floor_of s) (given _ _ g.S.Seal.seal_of g.I.CodecFixed.SIZE g.D.Device (floors.journal_of c.in_ok-found.found) _ c.init.new.dev c.finish.new.dev (floors.preflight_shown c.in_ok-found.found).target c.in_ok-found.ensures.target c.in_ok-index-2.ensures).same ∙ floor_given (get nat_cmp c.args.floors.now s) (found.floor_of s) g.I.CodecFixed.SIZE (λ n is. c.in_ok-found.ensures.floors s n is) (λ is. c.in_ok-found.ensures.none s is)

pub returns-clause-within : goal.returns-clause-within
returns-clause-within g c t s n marked some =
    let i : List ℕ = string_bytes c.args.cfg.now.index_partition in
    let a = g.D.Device.time c.args.dev.now in
    let is_i : string_bytes c.in_ok-index.field-0.partition ≡ i = c.in_ok-index.ensures.partition in
    let found = floors.preflight_shown c.in_ok-found.found in
    let m = managed.shown c.in_ok-values-2.values.manager in
    let l = layout_for g.I.Record.place g.I.CodecFixed.SIZE g.S.Seal c.args.cfg.now [] in
    ends_within l g.I.Codec.spelling g.I.Codec.accepted g.I.Record.location g.met.I.Record.spelled (get nat_cmp c.args.floors.now) found.boundary_of (disk a) c.in_ok-found.ensures.unmarked c.in_ok-found.ensures.empty
    (λ s n marked some. boundary_as g.S.Seal.seal_of g.I.CodecFixed.SIZE g.I.Codec.spelling g.I.Codec.accepted (disk a) s n (found.boundary_of s) (string_bytes c.in_ok-index.field-0.partition) i c.in_ok-index.field-0.pages.page_size c.args.cfg.now.index_pages.page_size
    is_i (ap (λ (p : Pages). p.page_size) c.in_ok-index.ensures.pages) (c.in_ok-found.ensures.boundary t s n marked some)) s n (section_size m s) marked some (λ x is. c.in_ok-check_values.ensures.within s x is)

pub returns-clause-index_partition : goal.returns-clause-index_partition
returns-clause-index_partition g c =
    ap (λ (k : Lists _ _). k.sections.partition) (given _ _ g.S.Seal.seal_of g.I.CodecFixed.SIZE g.D.Device (floors.journal_of c.in_ok-found.found) _ c.init.new.dev c.finish.new.dev (floors.preflight_shown c.in_ok-found.found).target c.in_ok-found.ensures.target c.in_ok-index-2.ensures).same ∙ c.in_ok-found.ensures.partition ∙ c.in_ok-index.ensures.partition

pub returns-clause-values_partition : goal.returns-clause-values_partition
returns-clause-values_partition g c =
    c.in_ok-values-2.ensures.partition ∙ c.in_ok-values.ensures.partition

pub returns-clause-pages : goal.returns-clause-pages
returns-clause-pages g c =
    ap (λ (k : Lists (AppendFactory _) _). k.sections.factory.pages) (given _ _ g.S.Seal.seal_of g.I.CodecFixed.SIZE g.D.Device (floors.journal_of c.in_ok-found.found) _ c.init.new.dev c.finish.new.dev (floors.preflight_shown c.in_ok-found.found).target c.in_ok-found.ensures.target c.in_ok-index-2.ensures).same ∙ c.in_ok-found.ensures.pages ∙ c.in_ok-index.ensures.pages

pub returns-clause-write_buffers : goal.returns-clause-write_buffers
returns-clause-write_buffers g c =
    (ap (λ (k : Lists (AppendFactory _) _). k.sections.factory.write_buffer) (given _ _ g.S.Seal.seal_of g.I.CodecFixed.SIZE g.D.Device (floors.journal_of c.in_ok-found.found) _ c.init.new.dev c.finish.new.dev (floors.preflight_shown c.in_ok-found.found).target c.in_ok-found.ensures.target c.in_ok-index-2.ensures).same ∙ c.in_ok-found.ensures.write_buffer ∙ c.in_ok-index.ensures.write_buffer, c.in_ok-values-2.ensures.capacity ∙ c.in_ok-values.ensures.write_buffer)

pub returns-clause-codec_config : goal.returns-clause-codec_config
returns-clause-codec_config g c =
    c.in_ok-values-2.ensures.codec_config ∙ c.in_ok-values.ensures.codec_config

pub returns-clause-bounds : goal.returns-clause-bounds
returns-clause-bounds g c =
    (ap (λ (k : Lists _ _). k.sections.floor) (given _ _ g.S.Seal.seal_of g.I.CodecFixed.SIZE g.D.Device (floors.journal_of c.in_ok-found.found) _ c.init.new.dev c.finish.new.dev (floors.preflight_shown c.in_ok-found.found).target c.in_ok-found.ensures.target c.in_ok-index-2.ensures).same ∙ c.in_ok-found.ensures.floor, ap (λ (k : Lists _ _). k.sections.ceiling) (given _ _ g.S.Seal.seal_of g.I.CodecFixed.SIZE g.D.Device (floors.journal_of c.in_ok-found.found) _ c.init.new.dev c.finish.new.dev (floors.preflight_shown c.in_ok-found.found).target c.in_ok-found.ensures.target c.in_ok-index-2.ensures).same ∙ c.in_ok-found.ensures.ceiling, c.in_ok-values-2.ensures.floor, c.in_ok-values-2.ensures.ceiling)

pub returns-clause-moments : goal.returns-clause-moments
returns-clause-moments g c t =
    let i : List ℕ = string_bytes c.args.cfg.now.index_partition in
    let v : List ℕ = string_bytes c.args.cfg.now.value_partition in
    let a = g.D.Device.time c.args.dev.now in
    let b = g.D.Device.time c.preflight_floors.new.dev in
    let e = g.D.Device.time c.init.new.dev in
    let f = g.D.Device.time c.finish.new.dev in
    let is_i : string_bytes c.in_ok-index.field-0.partition ≡ i = c.in_ok-index.ensures.partition in
    let is_v : string_bytes c.in_ok-values.field-0.partition ≡ v = c.in_ok-values.ensures.partition in
    let first : Always a b (Each (IsSettling i (2 ^ 64 - 1) (disk a))) = settling_of (string_bytes c.in_ok-index.field-0.partition) i (2 ^ 64 - 1) (2 ^ 64 - 1) a b is_i refl (c.preflight_floors.ensures.moments t) in
    let second : Always b e (Each (IsSettling v (2 ^ 64 - 1) (disk b))) = settling_of (string_bytes c.in_ok-values.field-0.partition) v (2 ^ 64 - 1) (2 ^ 64 - 1) b e is_v refl (c.init.ensures.moments t) in
    both_still (2 ^ 64 - 1) i v c.requires.apart a b first e second f (ap g.D.Device.time (given _ _ g.S.Seal.seal_of g.I.CodecFixed.SIZE g.D.Device (floors.journal_of c.in_ok-found.found) _ c.init.new.dev c.finish.new.dev (floors.preflight_shown c.in_ok-found.found).target c.in_ok-found.ensures.target c.finish.ensures).unchanged)

pub returns-clause-entries : goal.returns-clause-entries
returns-clause-entries g c q not =
    let i : List ℕ = string_bytes c.args.cfg.now.index_partition in
    let v : List ℕ = string_bytes c.args.cfg.now.value_partition in
    let is_i : string_bytes c.in_ok-index.field-0.partition ≡ i = c.in_ok-index.ensures.partition in
    let is_v : string_bytes c.in_ok-values.field-0.partition ≡ v = c.in_ok-values.ensures.partition in
    ap (λ x. g.D.Device.opened x q) (given _ _ g.S.Seal.seal_of g.I.CodecFixed.SIZE g.D.Device (floors.journal_of c.in_ok-found.found) _ c.init.new.dev c.finish.new.dev (floors.preflight_shown c.in_ok-found.found).target c.in_ok-found.ensures.target c.finish.ensures).unchanged ∙ c.init.ensures.entries q (λ s le is. (not s (omega (arith, le))).1 (is ∙ named_key (string_bytes c.in_ok-values.field-0.partition) v s is_v)) ∙ c.preflight_floors.ensures.entries q (λ s le is. (not s (omega (arith, le))).0 (is ∙ named_key (string_bytes c.in_ok-index.field-0.partition) i s is_i))

pub returns-clause-reads : goal.returns-clause-reads
returns-clause-reads g c s small =
    let i : List ℕ = string_bytes c.args.cfg.now.index_partition in
    let v : List ℕ = string_bytes c.args.cfg.now.value_partition in
    let is_i : string_bytes c.in_ok-index.field-0.partition ≡ i = c.in_ok-index.ensures.partition in
    omega (arith, ap reads_of (c.preflight_floors.ensures.entries (section_key v s) (λ q le. keys_apart (string_bytes c.in_ok-index.field-0.partition) v (λ same. c.requires.apart (sym is_i ∙ same)) s q)), c.init.ensures.reads (section_key v s), ap (λ x. reads_of (g.D.Device.opened x (section_key v s))) (given _ _ g.S.Seal.seal_of g.I.CodecFixed.SIZE g.D.Device (floors.journal_of c.in_ok-found.found) _ c.init.new.dev c.finish.new.dev (floors.preflight_shown c.in_ok-found.found).target c.in_ok-found.ensures.target c.finish.ensures).unchanged)

pub returns-in_err-found-clause-moments : goal.returns-in_err-found-clause-moments
returns-in_err-found-clause-moments g c t =
    let i : List ℕ = string_bytes c.args.cfg.now.index_partition in
    let v : List ℕ = string_bytes c.args.cfg.now.value_partition in
    let a = g.D.Device.time c.args.dev.now in
    let b = g.D.Device.time c.preflight_floors.new.dev in
    let is_i : string_bytes c.in_ok-index.field-0.partition ≡ i = c.in_ok-index.ensures.partition in
    let first : Always a b (Each (IsSettling i (2 ^ 64 - 1) (disk a))) = settling_of (string_bytes c.in_ok-index.field-0.partition) i (2 ^ 64 - 1) (2 ^ 64 - 1) a b is_i refl (c.preflight_floors.ensures.moments t) in
    both_first (2 ^ 64 - 1) i v c.requires.apart a b first

pub returns-in_err-found-clause-entries : goal.returns-in_err-found-clause-entries
returns-in_err-found-clause-entries g c q not =
    let i : List ℕ = string_bytes c.args.cfg.now.index_partition in
    let is_i : string_bytes c.in_ok-index.field-0.partition ≡ i = c.in_ok-index.ensures.partition in
    c.preflight_floors.ensures.entries q (λ s le is. (not s (omega (arith, le))).0 (is ∙ named_key (string_bytes c.in_ok-index.field-0.partition) i s is_i))

pub returns-in_err-found-clause-reads : goal.returns-in_err-found-clause-reads
returns-in_err-found-clause-reads g c s small =
    let i : List ℕ = string_bytes c.args.cfg.now.index_partition in
    let v : List ℕ = string_bytes c.args.cfg.now.value_partition in
    let is_i : string_bytes c.in_ok-index.field-0.partition ≡ i = c.in_ok-index.ensures.partition in
    omega (arith, ap reads_of (c.preflight_floors.ensures.entries (section_key v s) (λ q le. keys_apart (string_bytes c.in_ok-index.field-0.partition) v (λ same. c.requires.apart (sym is_i ∙ same)) s q)))

pub returns-in_err-values-clause-moments : goal.returns-in_err-values-clause-moments
returns-in_err-values-clause-moments g c t =
    let i : List ℕ = string_bytes c.args.cfg.now.index_partition in
    let v : List ℕ = string_bytes c.args.cfg.now.value_partition in
    let a = g.D.Device.time c.args.dev.now in
    let b = g.D.Device.time c.preflight_floors.new.dev in
    let is_i : string_bytes c.in_ok-index.field-0.partition ≡ i = c.in_ok-index.ensures.partition in
    let first : Always a b (Each (IsSettling i (2 ^ 64 - 1) (disk a))) = settling_of (string_bytes c.in_ok-index.field-0.partition) i (2 ^ 64 - 1) (2 ^ 64 - 1) a b is_i refl (c.preflight_floors.ensures.moments t) in
    both_first (2 ^ 64 - 1) i v c.requires.apart a b first

pub returns-in_err-values-clause-entries : goal.returns-in_err-values-clause-entries
returns-in_err-values-clause-entries g c q not =
    let i : List ℕ = string_bytes c.args.cfg.now.index_partition in
    let is_i : string_bytes c.in_ok-index.field-0.partition ≡ i = c.in_ok-index.ensures.partition in
    c.preflight_floors.ensures.entries q (λ s le is. (not s (omega (arith, le))).0 (is ∙ named_key (string_bytes c.in_ok-index.field-0.partition) i s is_i))

pub returns-in_err-values-clause-reads : goal.returns-in_err-values-clause-reads
returns-in_err-values-clause-reads g c s small =
    let i : List ℕ = string_bytes c.args.cfg.now.index_partition in
    let v : List ℕ = string_bytes c.args.cfg.now.value_partition in
    let is_i : string_bytes c.in_ok-index.field-0.partition ≡ i = c.in_ok-index.ensures.partition in
    omega (arith, ap reads_of (c.preflight_floors.ensures.entries (section_key v s) (λ q le. keys_apart (string_bytes c.in_ok-index.field-0.partition) v (λ same. c.requires.apart (sym is_i ∙ same)) s q)))

pub returns-in_err-values-2-clause-moments : goal.returns-in_err-values-2-clause-moments
returns-in_err-values-2-clause-moments g c t =
    let i : List ℕ = string_bytes c.args.cfg.now.index_partition in
    let v : List ℕ = string_bytes c.args.cfg.now.value_partition in
    let a = g.D.Device.time c.args.dev.now in
    let b = g.D.Device.time c.preflight_floors.new.dev in
    let e = g.D.Device.time c.init.new.dev in
    let is_i : string_bytes c.in_ok-index.field-0.partition ≡ i = c.in_ok-index.ensures.partition in
    let is_v : string_bytes c.in_ok-values.field-0.partition ≡ v = c.in_ok-values.ensures.partition in
    let first : Always a b (Each (IsSettling i (2 ^ 64 - 1) (disk a))) = settling_of (string_bytes c.in_ok-index.field-0.partition) i (2 ^ 64 - 1) (2 ^ 64 - 1) a b is_i refl (c.preflight_floors.ensures.moments t) in
    let second : Always b e (Each (IsSettling v (2 ^ 64 - 1) (disk b))) = settling_of (string_bytes c.in_ok-values.field-0.partition) v (2 ^ 64 - 1) (2 ^ 64 - 1) b e is_v refl (c.init.ensures.moments t) in
    both_second (2 ^ 64 - 1) i v c.requires.apart a b first e second

pub returns-in_err-values-2-clause-entries : goal.returns-in_err-values-2-clause-entries
returns-in_err-values-2-clause-entries g c q not =
    let i : List ℕ = string_bytes c.args.cfg.now.index_partition in
    let v : List ℕ = string_bytes c.args.cfg.now.value_partition in
    let is_i : string_bytes c.in_ok-index.field-0.partition ≡ i = c.in_ok-index.ensures.partition in
    let is_v : string_bytes c.in_ok-values.field-0.partition ≡ v = c.in_ok-values.ensures.partition in
    c.init.ensures.entries q (λ s le is. (not s (omega (arith, le))).1 (is ∙ named_key (string_bytes c.in_ok-values.field-0.partition) v s is_v)) ∙ c.preflight_floors.ensures.entries q (λ s le is. (not s (omega (arith, le))).0 (is ∙ named_key (string_bytes c.in_ok-index.field-0.partition) i s is_i))

pub returns-in_err-values-2-clause-reads : goal.returns-in_err-values-2-clause-reads
returns-in_err-values-2-clause-reads g c s small =
    let i : List ℕ = string_bytes c.args.cfg.now.index_partition in
    let v : List ℕ = string_bytes c.args.cfg.now.value_partition in
    let is_i : string_bytes c.in_ok-index.field-0.partition ≡ i = c.in_ok-index.ensures.partition in
    omega (arith, ap reads_of (c.preflight_floors.ensures.entries (section_key v s) (λ q le. keys_apart (string_bytes c.in_ok-index.field-0.partition) v (λ same. c.requires.apart (sym is_i ∙ same)) s q)), c.init.ensures.reads (section_key v s))

pub returns-in_err-check_values-clause-moments : goal.returns-in_err-check_values-clause-moments
returns-in_err-check_values-clause-moments g c t =
    let i : List ℕ = string_bytes c.args.cfg.now.index_partition in
    let v : List ℕ = string_bytes c.args.cfg.now.value_partition in
    let a = g.D.Device.time c.args.dev.now in
    let b = g.D.Device.time c.preflight_floors.new.dev in
    let e = g.D.Device.time c.init.new.dev in
    let is_i : string_bytes c.in_ok-index.field-0.partition ≡ i = c.in_ok-index.ensures.partition in
    let is_v : string_bytes c.in_ok-values.field-0.partition ≡ v = c.in_ok-values.ensures.partition in
    let first : Always a b (Each (IsSettling i (2 ^ 64 - 1) (disk a))) = settling_of (string_bytes c.in_ok-index.field-0.partition) i (2 ^ 64 - 1) (2 ^ 64 - 1) a b is_i refl (c.preflight_floors.ensures.moments t) in
    let second : Always b e (Each (IsSettling v (2 ^ 64 - 1) (disk b))) = settling_of (string_bytes c.in_ok-values.field-0.partition) v (2 ^ 64 - 1) (2 ^ 64 - 1) b e is_v refl (c.init.ensures.moments t) in
    both_second (2 ^ 64 - 1) i v c.requires.apart a b first e second

pub returns-in_err-check_values-clause-entries : goal.returns-in_err-check_values-clause-entries
returns-in_err-check_values-clause-entries g c q not =
    let i : List ℕ = string_bytes c.args.cfg.now.index_partition in
    let v : List ℕ = string_bytes c.args.cfg.now.value_partition in
    let is_i : string_bytes c.in_ok-index.field-0.partition ≡ i = c.in_ok-index.ensures.partition in
    let is_v : string_bytes c.in_ok-values.field-0.partition ≡ v = c.in_ok-values.ensures.partition in
    c.init.ensures.entries q (λ s le is. (not s (omega (arith, le))).1 (is ∙ named_key (string_bytes c.in_ok-values.field-0.partition) v s is_v)) ∙ c.preflight_floors.ensures.entries q (λ s le is. (not s (omega (arith, le))).0 (is ∙ named_key (string_bytes c.in_ok-index.field-0.partition) i s is_i))

pub returns-in_err-check_values-clause-reads : goal.returns-in_err-check_values-clause-reads
returns-in_err-check_values-clause-reads g c s small =
    let i : List ℕ = string_bytes c.args.cfg.now.index_partition in
    let v : List ℕ = string_bytes c.args.cfg.now.value_partition in
    let is_i : string_bytes c.in_ok-index.field-0.partition ≡ i = c.in_ok-index.ensures.partition in
    omega (arith, ap reads_of (c.preflight_floors.ensures.entries (section_key v s) (λ q le. keys_apart (string_bytes c.in_ok-index.field-0.partition) v (λ same. c.requires.apart (sym is_i ∙ same)) s q)), c.init.ensures.reads (section_key v s))

pub returns-in_err-check_held-clause-moments : goal.returns-in_err-check_held-clause-moments
returns-in_err-check_held-clause-moments g c t =
    let i : List ℕ = string_bytes c.args.cfg.now.index_partition in
    let v : List ℕ = string_bytes c.args.cfg.now.value_partition in
    let a = g.D.Device.time c.args.dev.now in
    let b = g.D.Device.time c.preflight_floors.new.dev in
    let e = g.D.Device.time c.init.new.dev in
    let f = g.D.Device.time c.finish.new.dev in
    let is_i : string_bytes c.in_ok-index.field-0.partition ≡ i = c.in_ok-index.ensures.partition in
    let is_v : string_bytes c.in_ok-values.field-0.partition ≡ v = c.in_ok-values.ensures.partition in
    let first : Always a b (Each (IsSettling i (2 ^ 64 - 1) (disk a))) = settling_of (string_bytes c.in_ok-index.field-0.partition) i (2 ^ 64 - 1) (2 ^ 64 - 1) a b is_i refl (c.preflight_floors.ensures.moments t) in
    let second : Always b e (Each (IsSettling v (2 ^ 64 - 1) (disk b))) = settling_of (string_bytes c.in_ok-values.field-0.partition) v (2 ^ 64 - 1) (2 ^ 64 - 1) b e is_v refl (c.init.ensures.moments t) in
    both_still (2 ^ 64 - 1) i v c.requires.apart a b first e second f (ap g.D.Device.time (given _ _ g.S.Seal.seal_of g.I.CodecFixed.SIZE g.D.Device (floors.journal_of c.in_ok-found.found) _ c.init.new.dev c.finish.new.dev (floors.preflight_shown c.in_ok-found.found).target c.in_ok-found.ensures.target c.finish.ensures).unchanged)

pub returns-in_err-check_held-clause-entries : goal.returns-in_err-check_held-clause-entries
returns-in_err-check_held-clause-entries g c q not =
    let i : List ℕ = string_bytes c.args.cfg.now.index_partition in
    let v : List ℕ = string_bytes c.args.cfg.now.value_partition in
    let is_i : string_bytes c.in_ok-index.field-0.partition ≡ i = c.in_ok-index.ensures.partition in
    let is_v : string_bytes c.in_ok-values.field-0.partition ≡ v = c.in_ok-values.ensures.partition in
    ap (λ x. g.D.Device.opened x q) (given _ _ g.S.Seal.seal_of g.I.CodecFixed.SIZE g.D.Device (floors.journal_of c.in_ok-found.found) _ c.init.new.dev c.finish.new.dev (floors.preflight_shown c.in_ok-found.found).target c.in_ok-found.ensures.target c.finish.ensures).unchanged ∙ c.init.ensures.entries q (λ s le is. (not s (omega (arith, le))).1 (is ∙ named_key (string_bytes c.in_ok-values.field-0.partition) v s is_v)) ∙ c.preflight_floors.ensures.entries q (λ s le is. (not s (omega (arith, le))).0 (is ∙ named_key (string_bytes c.in_ok-index.field-0.partition) i s is_i))

pub returns-in_err-check_held-clause-reads : goal.returns-in_err-check_held-clause-reads
returns-in_err-check_held-clause-reads g c s small =
    let i : List ℕ = string_bytes c.args.cfg.now.index_partition in
    let v : List ℕ = string_bytes c.args.cfg.now.value_partition in
    let is_i : string_bytes c.in_ok-index.field-0.partition ≡ i = c.in_ok-index.ensures.partition in
    omega (arith, ap reads_of (c.preflight_floors.ensures.entries (section_key v s) (λ q le. keys_apart (string_bytes c.in_ok-index.field-0.partition) v (λ same. c.requires.apart (sym is_i ∙ same)) s q)), c.init.ensures.reads (section_key v s), ap (λ x. reads_of (g.D.Device.opened x (section_key v s))) (given _ _ g.S.Seal.seal_of g.I.CodecFixed.SIZE g.D.Device (floors.journal_of c.in_ok-found.found) _ c.init.new.dev c.finish.new.dev (floors.preflight_shown c.in_ok-found.found).target c.in_ok-found.ensures.target c.finish.ensures).unchanged)

pub returns-in_err-found-clause-damage : goal.returns-in_err-found-clause-damage
returns-in_err-found-clause-damage g c t x has =
    let r = c.from_residual-in_err-found.result in
    let y = c.in_err-found.field-0.0 in
    let is = err_of r y c.from_residual-in_err-found.ensures.1 in
    let i : List ℕ = string_bytes c.args.cfg.now.index_partition in
    let a = g.D.Device.time c.args.dev.now in
    let is_i : string_bytes c.in_ok-index.field-0.partition ≡ i = c.in_ok-index.ensures.partition in
    let l = layout_for g.I.Record.place g.I.CodecFixed.SIZE g.S.Seal c.args.cfg.now [] in
    refused_lost l (get nat_cmp c.args.floors.now) (disk a) (string_bytes c.in_ok-index.field-0.partition) c.in_ok-index.field-0.pages.page_size x is_i (ap (λ (p : Pages). p.page_size) c.in_ok-index.ensures.pages) (c.in_err-found.ensures.damage t x (error_back r y is (journal_error.Corruption x) has))

pub returns-in_err-found-clause-refused : goal.returns-in_err-found-clause-refused
returns-in_err-found-clause-refused g c t x has =
    let r = c.from_residual-in_err-found.result in
    let y = c.in_err-found.field-0.0 in
    let is = err_of r y c.from_residual-in_err-found.ensures.1 in
    let i : List ℕ = string_bytes c.args.cfg.now.index_partition in
    let a = g.D.Device.time c.args.dev.now in
    let is_i : string_bytes c.in_ok-index.field-0.partition ≡ i = c.in_ok-index.ensures.partition in
    let l = layout_for g.I.Record.place g.I.CodecFixed.SIZE g.S.Seal c.args.cfg.now [] in
    let w = c.in_err-found.ensures.refused t x (error_back r y is (journal_error.Codec x) has) in
    unreadable_found l g.I.Codec.refusal (get nat_cmp c.args.floors.now) (disk a) (string_bytes c.in_ok-index.field-0.partition) c.in_ok-index.field-0.pages.page_size x w.0 w.1 is_i (ap (λ (p : Pages). p.page_size) c.in_ok-index.ensures.pages) w.2 w.3 w.4 w.5

pub returns-in_err-found-clause-named : goal.returns-in_err-found-clause-named
returns-in_err-found-clause-named g c t n has =
    let r = c.from_residual-in_err-found.result in
    let y = c.in_err-found.field-0.0 in
    let is = err_of r y c.from_residual-in_err-found.ensures.1 in
    let i : List ℕ = string_bytes c.args.cfg.now.index_partition in
    let a = g.D.Device.time c.args.dev.now in
    let is_i : string_bytes c.in_ok-index.field-0.partition ≡ i = c.in_ok-index.ensures.partition in
    inl (subst (λ (p : List ℕ). IsForeign (disk a) p n) is_i (c.in_err-found.ensures.named t n (error_back r y is (journal_error.InvalidBlobName n) has)))

pub returns-in_err-found-clause-cause : goal.returns-in_err-found-clause-cause
returns-in_err-found-clause-cause g c =
    let r = c.from_residual-in_err-found.result in
    let y = c.in_err-found.field-0.0 in
    let is = err_of r y c.from_residual-in_err-found.ensures.1 in
    let fa = g.D.Device.faults c.args.dev.now in
    let fb = g.D.Device.faults c.preflight_floors.new.dev in
    err_with r (parts_refuse r y is fa fa fb (omega arith) c.in_err-found.ensures.cause)

pub returns-in_err-values-2-clause-damage : goal.returns-in_err-values-2-clause-damage
returns-in_err-values-2-clause-damage g c t x has =
    let r = c.from_residual-in_err-values-2.result in
    let y = c.in_err-values-2.field-0.0 in
    let is = err_of r y c.from_residual-in_err-values-2.ensures.1 in
    let fb = g.D.Device.faults c.preflight_floors.new.dev in
    let fe = g.D.Device.faults c.init.new.dev in
    absurd (named_no_damage r y is fb fe c.in_err-values-2.ensures.cause x has)

pub returns-in_err-values-2-clause-refused : goal.returns-in_err-values-2-clause-refused
returns-in_err-values-2-clause-refused g c t x has =
    let r = c.from_residual-in_err-values-2.result in
    let y = c.in_err-values-2.field-0.0 in
    let is = err_of r y c.from_residual-in_err-values-2.ensures.1 in
    let fb = g.D.Device.faults c.preflight_floors.new.dev in
    let fe = g.D.Device.faults c.init.new.dev in
    absurd (named_no_codec r y is fb fe c.in_err-values-2.ensures.cause x has)

pub returns-in_err-values-2-clause-named : goal.returns-in_err-values-2-clause-named
returns-in_err-values-2-clause-named g c t n has =
    let r = c.from_residual-in_err-values-2.result in
    let y = c.in_err-values-2.field-0.0 in
    let is = err_of r y c.from_residual-in_err-values-2.ensures.1 in
    let i : List ℕ = string_bytes c.args.cfg.now.index_partition in
    let v : List ℕ = string_bytes c.args.cfg.now.value_partition in
    let a = g.D.Device.time c.args.dev.now in
    let b = g.D.Device.time c.preflight_floors.new.dev in
    let is_i : string_bytes c.in_ok-index.field-0.partition ≡ i = c.in_ok-index.ensures.partition in
    let is_v : string_bytes c.in_ok-values.field-0.partition ≡ v = c.in_ok-values.ensures.partition in
    let first : Always a b (Each (IsSettling i (2 ^ 64 - 1) (disk a))) = settling_of (string_bytes c.in_ok-index.field-0.partition) i (2 ^ 64 - 1) (2 ^ 64 - 1) a b is_i refl (c.preflight_floors.ensures.moments t) in
    inr (foreign_as (disk b) (disk a) v n (ap (λ (x : Blob). x.there) (values_first (2 ^ 64 - 1) i v c.requires.apart a b first n))
    (subst (λ (p : List ℕ). IsForeign (disk b) p n) is_v (c.in_err-values-2.ensures.named t n (error_back r y is (journal_error.InvalidBlobName n) has))))

pub returns-in_err-values-2-clause-cause : goal.returns-in_err-values-2-clause-cause
returns-in_err-values-2-clause-cause g c =
    let r = c.from_residual-in_err-values-2.result in
    let y = c.in_err-values-2.field-0.0 in
    let is = err_of r y c.from_residual-in_err-values-2.ensures.1 in
    let fa = g.D.Device.faults c.args.dev.now in
    let fb = g.D.Device.faults c.preflight_floors.new.dev in
    let fe = g.D.Device.faults c.init.new.dev in
    err_with r (parts_refuse r y is fa fb fe c.preflight_floors.ensures.faults (named_refuse _ _ _ c.in_err-values-2.ensures.cause))

pub returns-in_err-check_values-clause-damage : goal.returns-in_err-check_values-clause-damage
returns-in_err-check_values-clause-damage g c t x has =
    let r = c.from_residual-in_err-check_values.result in
    let y = c.in_err-check_values.field-0.0 in
    let is = err_of r y c.from_residual-in_err-check_values.ensures.1 in
    let i : List ℕ = string_bytes c.args.cfg.now.index_partition in
    let v : List ℕ = string_bytes c.args.cfg.now.value_partition in
    let a = g.D.Device.time c.args.dev.now in
    let b = g.D.Device.time c.preflight_floors.new.dev in
    let e = g.D.Device.time c.init.new.dev in
    let is_i : string_bytes c.in_ok-index.field-0.partition ≡ i = c.in_ok-index.ensures.partition in
    let is_v : string_bytes c.in_ok-values.field-0.partition ≡ v = c.in_ok-values.ensures.partition in
    let found = floors.preflight_shown c.in_ok-found.found in
    let m = managed.shown c.in_ok-values-2.values.manager in
    let first : Always a b (Each (IsSettling i (2 ^ 64 - 1) (disk a))) = settling_of (string_bytes c.in_ok-index.field-0.partition) i (2 ^ 64 - 1) (2 ^ 64 - 1) a b is_i refl (c.preflight_floors.ensures.moments t) in
    let l = layout_for g.I.Record.place g.I.CodecFixed.SIZE g.S.Seal c.args.cfg.now [] in
    let w = c.in_err-check_values.ensures.damage x (error_back r y is (journal_error.Corruption x) has) in
    cut_off l g.I.Codec.spelling g.I.Codec.accepted g.I.Record.location g.met.I.Record.spelled (get nat_cmp c.args.floors.now) found.boundary_of (disk a) c.in_ok-found.ensures.unmarked c.in_ok-found.ensures.empty
    (λ s n marked some. boundary_as g.S.Seal.seal_of g.I.CodecFixed.SIZE g.I.Codec.spelling g.I.Codec.accepted (disk a) s n (found.boundary_of s) (string_bytes c.in_ok-index.field-0.partition) i c.in_ok-index.field-0.pages.page_size c.args.cfg.now.index_pages.page_size
    is_i (ap (λ (p : Pages). p.page_size) c.in_ok-index.ensures.pages) (c.in_ok-found.ensures.boundary t s n marked some)) x w.0 (section_size m x.section) w.1 w.2
    (λ n marked. (let small = c.requires.floors x.section (subst IsSome (sym marked) refl) in
    opened_size _ m (g.D.Device.opened c.init.new.dev) (disk e) c.in_ok-values-2.ensures.over t v (disk a) x.section
    (held_before (disk b (section_key (string_bytes c.in_ok-values.field-0.partition) x.section)) (disk a (section_key v x.section)) x.section (2 ^ 64 - 1) (c.in_ok-values-2.ensures.held t x.section small) (omega (arith, small))
    (ap (λ (k : Key). (disk b k).there) (named_key (string_bytes c.in_ok-values.field-0.partition) v x.section is_v) ∙ ap (λ (z : Blob). z.there) (values_first (2 ^ 64 - 1) i v c.requires.apart a b first (to_be_bytes w64 x.section))))
    (λ held. c.in_ok-values-2.ensures.bytes t x.section held ∙ ap (λ (k : Key). (disk b k).content) (named_key (string_bytes c.in_ok-values.field-0.partition) v x.section is_v) ∙ ap (λ (z : Blob). z.content) (values_first (2 ^ 64 - 1) i v c.requires.apart a b first (to_be_bytes w64 x.section)))))

pub returns-in_err-check_values-clause-refused : goal.returns-in_err-check_values-clause-refused
returns-in_err-check_values-clause-refused g c t x has =
    let r = c.from_residual-in_err-check_values.result in
    let y = c.in_err-check_values.field-0.0 in
    let is = err_of r y c.from_residual-in_err-check_values.ensures.1 in
    absurd (cc (is, c.in_err-check_values.ensures.cause.1, has))

pub returns-in_err-check_values-clause-named : goal.returns-in_err-check_values-clause-named
returns-in_err-check_values-clause-named g c t n has =
    let r = c.from_residual-in_err-check_values.result in
    let y = c.in_err-check_values.field-0.0 in
    let is = err_of r y c.from_residual-in_err-check_values.ensures.1 in
    absurd (cc (is, c.in_err-check_values.ensures.cause.1, has))

pub returns-in_err-check_held-clause-damage : goal.returns-in_err-check_held-clause-damage
returns-in_err-check_held-clause-damage g c t x has =
    let r = c.from_residual-in_err-check_held.result in
    let y = c.in_err-check_held.field-0.0 in
    let is = err_of r y c.from_residual-in_err-check_held.ensures.1 in
    let w = c.in_err-check_held.ensures.absent x (error_back r y is (journal_error.Corruption x) has) in
    let small = c.requires.floors x.section w.0 in
    let held = (c.in_ok-found.ensures.held t x.section small).1 (c.in_ok-found.ensures.there t x.section w.0, omega (arith, small)) in
    absurd (cc (subst IsSome (subst (λ (k : Lists _ _). k.sections.held x.section ≡ None) (given _ _ g.S.Seal.seal_of g.I.CodecFixed.SIZE g.D.Device (floors.journal_of c.in_ok-found.found) _ c.init.new.dev c.finish.new.dev (floors.preflight_shown c.in_ok-found.found).target c.in_ok-found.ensures.target c.in_ok-index-2.ensures).same w.1) held))

pub returns-in_err-check_held-clause-refused : goal.returns-in_err-check_held-clause-refused
returns-in_err-check_held-clause-refused g c t x has =
    let r = c.from_residual-in_err-check_held.result in
    let y = c.in_err-check_held.field-0.0 in
    let is = err_of r y c.from_residual-in_err-check_held.ensures.1 in
    absurd (only_damage r y is c.in_err-check_held.ensures.cause (journal_error.Codec x) (λ z same. cc same) (λ same. cc same) has)

pub returns-in_err-check_held-clause-named : goal.returns-in_err-check_held-clause-named
returns-in_err-check_held-clause-named g c t n has =
    let r = c.from_residual-in_err-check_held.result in
    let y = c.in_err-check_held.field-0.0 in
    let is = err_of r y c.from_residual-in_err-check_held.ensures.1 in
    absurd (only_damage r y is c.in_err-check_held.ensures.cause (journal_error.InvalidBlobName n) (λ z same. cc same) (λ same. cc same) has)

pub returns-clause-foreign : goal.returns-clause-foreign
returns-clause-foreign g c t name has =
    let i : List ℕ = string_bytes c.args.cfg.now.index_partition in
    let v : List ℕ = string_bytes c.args.cfg.now.value_partition in
    let a = g.D.Device.time c.args.dev.now in
    let b = g.D.Device.time c.preflight_floors.new.dev in
    let is_i : string_bytes c.in_ok-index.field-0.partition ≡ i = c.in_ok-index.ensures.partition in
    let is_v : string_bytes c.in_ok-values.field-0.partition ≡ v = c.in_ok-values.ensures.partition in
    let first : Always a b (Each (IsSettling i (2 ^ 64 - 1) (disk a))) = settling_of (string_bytes c.in_ok-index.field-0.partition) i (2 ^ 64 - 1) (2 ^ 64 - 1) a b is_i refl (c.preflight_floors.ensures.moments t) in
    absurd (elim has [
      | inl is ↦ (c.in_ok-found.ensures.foreign t name (subst (λ (p : List ℕ). IsForeign (disk a) p name) (sym is_i) is)).0
      | inr is ↦ c.in_ok-values-2.ensures.foreign t name (subst (λ (p : List ℕ). IsForeign (disk b) p name) (sym is_v) (foreign_as (disk a) (disk b) v name (sym (ap (λ (x : Blob). x.there) (values_first (2 ^ 64 - 1) i v c.requires.apart a b first name))) is))
    ])

pub returns-clause-index_settled : goal.returns-clause-index_settled
returns-clause-index_settled g c =
    subst (λ (k : Lists _ _). (s : ℕ) (u : _) → k.sections.held s ≡ Some u → is_unsettled (page_blob.shown u) ≡ false) (sym (given _ _ g.S.Seal.seal_of g.I.CodecFixed.SIZE g.D.Device (floors.journal_of c.in_ok-found.found) _ c.init.new.dev c.finish.new.dev (floors.preflight_shown c.in_ok-found.found).target c.in_ok-found.ensures.target c.in_ok-index-2.ensures).same) c.in_ok-found.ensures.idle
