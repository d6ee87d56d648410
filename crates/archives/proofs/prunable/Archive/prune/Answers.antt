use Rattle.std.proofs.Common.{◌≡◌, inl, inr, refl, sym, ◌∙◌, ap, subst, ℕ, ◌+◌, ◌<◌, ◌^◌, List, Option, Err, map, arith}
use Rattle.std.specs.BTreeSet as set
use Rattle.std.specs.Ordering.{nat_cmp}
use Rattle.std.proofs.lemmas.Bool.{cases_lt}
use Rattle.blob_device.specs.Timeline.{disk}
use Rattle.blob_device.specs.lemmas.Moments.{always_now}
use Rattle.value_codec.specs.declared.codec.Error as codec_error
use Rattle.paired.specs.PairShown as pair
use Rattle.paired.specs.lemmas.pair.Synced.{layout_as}
use Rattle.ordinal_store.specs.Ranges.{set_of}
use Rattle.archives.specs.Archives.{IsSoundArchive, filing_of}
use Rattle.archives.specs.FilingLaws.{one_filing}
use Rattle.archives.specs.IndexRecord.{place_of}
use Rattle.archives.specs.Machine.{section_of}
use Rattle.archives.specs.Prunes.{IsBelow}
use Rattle.archives.specs.Raised.{raised}
use Rattle.archives.specs.Rows.{AreTables, row_of, rows_of}
use Rattle.archives.specs.Shown.{shown}
use Rattle.archives.specs.declared.error.Error.TheVariants.{Mem}
use Rattle.archives.proofs.PruneLemmas.{AreLeft, IsLeft, pruned_archive, pruned_over, pruned_sound, pruned_step}
use Rattle.archives.proofs.PrunesLemmas.{dropped, none_below, prune_as, prune_done, prune_goes, prune_low, prune_no_memory, prune_pair_failed, prune_step, stayed}
use Rattle.archives.proofs.put.Sync.{same_filing}
use Rattle.archives.proofs.PuttingLemmas.{section_start}
use Rattle.archives.proofs.sync.Lemmas.{stands_now, true_or_false}
use Rattle.archives.proofs.prunable.Archive.prune.Goals as goal
use Rattle.blob_device.proofs.general.Results.{err_of}

pub remove_below-requires : goal.remove_below-requires
remove_below-requires g c = c.requires.over.tied.order

-- the bound is at or below the floor
pub returns-then-bound-self : goal.returns-then-bound-self
returns-then-bound-self g c =
    prune_low _ g.D.Device c.args.self c.args.min c.args.dev.now c.requires.over (omega (arith, c.if-bound-self.true, c.section_of-bound.ensures)) refl refl
    (λ t sound. stands_now (shown c.args.self) (g.D.Device.opened c.args.dev.now) (disk (g.D.Device.time c.args.dev.now)) (omega arith) refl refl refl refl (λ s v held. λ i. (c.requires.over.pair.index.over.opened_list.setting s v held i).page_size) c.requires.over t sound)

-- there was no memory to take indices out
pub returns-in_err-remove : goal.returns-in_err-remove
returns-in_err-remove g c =
    prune_as _ g.D.Device c.args.self c.args.min _ (Err Mem) _ _ (err_of _ Mem c.from_residual.ensures.1)
    (prune_no_memory _ g.D.Device c.args.self c.args.min c.args.dev.now
    (λ t sound. stands_now (shown c.args.self) (g.D.Device.opened c.args.dev.now) (disk (g.D.Device.time c.args.dev.now)) (omega arith) refl refl refl refl (λ s v held. λ i. (c.requires.over.pair.index.over.opened_list.setting s v held i).page_size) c.requires.over t sound)
    (omega (arith, c.if-bound-self.false, c.section_of-bound.ensures)))

-- the pair's prune failed
pub returns-in_err-pair : goal.returns-in_err-pair
returns-in_err-pair g c =
    let says = c.in_err-pair.ensures in
    let e = c.in_err-pair.field-0.0 in
    let b = c.section_of-bound.result in
    let raises : (shown c.args.self).floor < b = omega (arith, c.if-bound-self.false) in
    let goes = prune_goes _ g.D.Device c.args.self c.args.min b c.section_of-bound.ensures raises c.args.dev.now c.prune.new.dev c.requires.over
    says.moments says.untouched says.idle says.entries says.faults in
    prune_as _ g.D.Device c.args.self c.args.min _ (Err (raised e)) _ _ (err_of _ (raised e) c.from_residual-in_err-pair.ensures.1)
    (prune_pair_failed _ g.D.Device c.args.self c.args.min b c.section_of-bound.ensures raises c.args.dev.now c.prune.new.dev goes _ e says.cause says.full says.full_idle says.lost says.lost_first)

-- the sections are gone
pub returns : goal.returns
returns g c =
    let a = shown c.args.self in
    let d = disk (g.D.Device.time c.args.dev.now) in
    let e = disk (g.D.Device.time c.prune.new.dev) in
    let before = g.D.Device.opened c.args.dev.now in
    let after = g.D.Device.opened c.prune.new.dev in
    let b = c.section_of-bound.result in
    let is : b ≡ section_of a.items c.args.min = c.section_of-bound.ensures in
    let raises : a.floor < b = omega (arith, c.if-bound-self.false) in
    let says = c.in_ok-pair.ensures in
    let p = pair.shown (place_of g.K.Key.SIZE) c.in_ok-pair.pair in
    let refusal : List ℕ → Option codec_error.Error = λ bytes. g.V.Codec.refusal bytes c.in_ok-pair.pair.values.codec_config in
    let refuses : (bytes : List ℕ) → refusal bytes ≡ a.refusal bytes = λ bytes. ap (g.V.Codec.refusal bytes) says.codec_config in
    let rows = rows_of g.K.Key.key_bytes c.remove_below.new.self in
    let Tied = AreTables g.K.Key.key_bytes g.T.Word.PartialEq.eq (g.T.Translator.word_of c.args.self.translator) c.remove_below.new.self in
    let indices = set_of c.remove.new.self in
    let is_written = set.contains nat_cmp c.remove_below-2.new.sections in
    let left : IsLeft a b g.D.Device.Tells d e p = record {
      layout = layout_as a.pair.layout p.layout.index p.layout.values p.layout.metadata p.layout.page_size says.layout.index says.layout.values says.layout.metadata says.layout.page_size;
      removed = says.removed;
      stays = says.stays;
      lists = says.lists;
      synced = says.synced;
      unmarked = says.unmarked;
      floor = elim (true_or_false c.in_ok-pair.field-0-1) [
        | inl some ↦ omega (arith, says.floor some)
        | inr none ↦ omega (arith, says.same_floor none, c.requires.over.pair_floor, raises)
      ];
    } in
    let memory : AreLeft a b rows indices is_written = record {
      gone = λ s low. ap (map (row_of g.K.Key.key_bytes)) (c.remove_below.ensures.gone s low);
      kept = λ s from. ap (map (row_of g.K.Key.key_bytes)) (c.remove_below.ensures.others s (λ low. omega (arith, low, from)));
      taken = c.in_ok-remove.ensures.ok;
      unwritten = c.remove_below-2.ensures.below;
      written = c.remove_below-2.ensures.others;
    } in
    let start : section_of a.items b ≡ b = ap (section_of a.items) is ∙ section_start a.items c.args.min c.requires.over.items ∙ sym is in
    let over = pruned_over a b p (omega arith) g.D.Device.Tells d e left refusal rows Tied indices is_written before after c.requires.over start (omega (arith, raises)) memory (record { order = c.remove_below.ensures.order; words = c.remove_below.ensures.words (λ k. g.T.Translator.word_of c.args.self.translator (g.K.Key.key_bytes k)) c.requires.over.tied.words }) says.over in
    let sound_now = λ (t : g.D.Device.Tells) (sound : IsSoundArchive a d). pruned_sound a b p (omega arith) g.D.Device.Tells d e left refusal rows Tied indices is_written before after c.requires.over start (omega (arith, raises)) memory
    t sound (record { sound = says.sound t sound.pair.sound; floor = says.marker_floor ∙ sound.pair.floor }) refuses (always_now _ _ _ (says.untouched t)) (λ s low held. (says.gone_all t s low).1 held) in
    let filing = same_filing (filing_of a) p.layout refusal says.layout refl (λ _. refl) (λ _. refl) refuses in
    let goes = prune_goes _ g.D.Device c.args.self c.args.min b is raises c.args.dev.now c.prune.new.dev c.requires.over
    says.moments says.untouched says.idle says.entries says.faults in
    prune_done _ g.D.Device c.args.self c.args.min c.args.dev.now c.prune.new.dev goes _ (λ none. absurd (none (omega (arith, raises, is))))
    over (one_filing (filing_of a) _ filing refl) (λ w accepts. subst (g.V.Codec.accepted w) (sym says.codec_config) accepts) sound_now
    (λ t. prune_step a c.args.min b is raises d _ (pruned_step a b p (omega arith) g.D.Device.Tells d e left refusal rows Tied indices is_written t says.over.markers))
    (λ t sound. stands_now _ after e (omega arith) refl refl refl refl (λ s v held. λ i. (over.pair.index.over.opened_list.setting s v held i).page_size) over t (sound_now t sound))
    (record {
      filing = filing;
      alike = refl;
      places = says.place;
      floor = omega (arith, raises, is);
      below = λ s low. over.below s (omega (arith, low, is));
      unwritten = λ s low. c.remove_below-2.ensures.below s (omega (arith, low, is));
      marked = λ s m has. (let was = says.marked s m has in (omega (arith, was.0, is), was.1));
      others = stayed a c.args.min b is (pruned_archive a b p refusal rows Tied indices is_written) left memory.kept memory.written says.markers;
      gone = λ t. none_below a.pair.layout _ _ refl refl (IsBelow a c.args.min) e (λ s low small. says.gone t s (omega (arith, low, is)) small);
      version = λ drops. elim (cases_lt (a.pair.store.version + 1) (2 ^ 64)) [
        | inl low ↦ low
        | inr large ↦ absurd (says.no_version large (dropped _ g.D.Device c.args.self c.args.min b is raises c.args.dev.now c.prune.new.dev goes drops))
      ];
    })
