use Rattle.std.proofs.Common.{◌==◌, if◌then◌else◌, ◌≡◌, ◌≢◌, ◌⊎◌, inl, inr, refl, sym, ◌∙◌, ap, subst, ◌≤◌, ◌-◌, ◌^◌, ℕ, List, [], ◌∷◌, ◌++◌, length, Option, Some, Err, false, ◌+◌, length-append, arith}
use Rattle.std.specs.Prelude.{IsErrAnd}
use Rattle.std.specs.BTreeSet.{contains}
use Rattle.std.specs.Ordering.{nat_cmp}
use Rattle.std.proofs.lemmas.Bool.{cases_lt}
use Rattle.blob_device.specs.Disk.{Key}
use Rattle.blob_device.specs.Timeline.{Always, disk}
use Rattle.blob_device.specs.lemmas.Moments.{always_now}
use Rattle.section_manager.specs.Sections.{section_key}
use Rattle.segments.specs.FixedLists as fixed
use Rattle.paired.specs.Tails.{AreTailsAfter}
use Rattle.paired.specs.Crashes.{IsIndexOf, IsValuesOf, Keeping}
use Rattle.paired.specs.Frames.{frame}
use Rattle.paired.specs.glob.Sections as glob
use Rattle.paired.specs.PairShown as pair
use Rattle.paired.specs.Pair.{list_of, synced_length}
use Rattle.paired.specs.lemmas.Frame.{length-frame}
use Rattle.paired.specs.lemmas.Glob.{section_counted}
use Rattle.ordinal_store.specs.Ranges.{set_of}
use Rattle.archives.specs.Archives.{IsSoundArchive, filing_of, state_of}
use Rattle.archives.specs.IndexRecord.{index_record, place_of}
use Rattle.archives.specs.IndexRecordLaws.{place_of-index_record}
use Rattle.archives.specs.Machine.{section_of}
use Rattle.archives.specs.Putting.{Times, is_skipped, put_command}
use Rattle.archives.specs.Raised.{raised}
use Rattle.archives.specs.Rows.{AreTables, Row, row_of, rows_of}
use Rattle.archives.specs.Shown.{shown}
use Rattle.archives.specs.Standing.{Leaves}
use Rattle.archives.specs.declared.prunable.index_record.IndexRecord.{IndexRecord}
use Rattle.archives.specs.FilingLaws.{one_filing}
use Rattle.archives.specs.Rows.{HasRoom}
use Rattle.value_codec.specs.declared.codec.Error as codec_error
use Rattle.archives.specs.declared.error.Error.{Error}
use Rattle.archives.specs.declared.error.Error.TheVariants.{Mem}
use Rattle.archives.proofs.put.After.{not_here, rows_put, sizes_put, tails_same, written_put}
use Rattle.archives.proofs.PutsLemmas.{failed_here, put_added, put_as, put_no_memory, put_over_limit, put_pair_failed, touches_here}
use Rattle.archives.proofs.put.Lemmas.{Adds, grown_archive}
use Rattle.record_tables.specs.Tables as tables
use Rattle.archives.proofs.TableLemmas.{room_shown, room_wider, row_allowed, row_pushed, rows_kept, tied_still}
use Rattle.archives.proofs.put.Rows.{grows, section_low, still_none}
use Rattle.archives.proofs.put.Sound.{Sounds, grown_sound, grown_state}
use Rattle.archives.proofs.put.Sync.{same_filing, section_small}
use Rattle.archives.proofs.PuttingLemmas.{pair_above, section_from}
use Rattle.archives.proofs.put.Stands.{IsFree, stands_settled, full_or_room, put_moments, wanted}
use Rattle.archives.proofs.prunable.Archive.append.Given as given
use Rattle.archives.proofs.prunable.Archive.append.Goals as goal
use Rattle.archives.proofs.prunable.Archive.append.Goals.{After-append}
use Rattle.blob_device.proofs.general.Results.{err_of}

-- a value that was added has a frame whose bytes a u32 counts
short : (g : given.Over) (c : goal.After-result-1 g) → length (frame g.S.Seal.seal_of (g.V.Codec.spelling c.args.value.now)) ≤ 2 ^ 32 - 1
short g c = elim (cases_lt (2 ^ 32 - 1) (length (frame g.S.Seal.seal_of (g.V.Codec.spelling c.args.value.now)))) [
  | inl lt ↦ absurd (cc (c.in_ok-pair.ensures.too_large.1 lt))
  | inr le ↦ le
]

-- the section is not below the floor
section_above : (g : given.Over) (c : goal.After-result-1 g) → (shown c.args.self).floor ≤ c.section_of-section.result
section_above g c =
    let a = shown c.args.self in
    let over = c.requires.over in
    let low : a.floor ≤ section_of a.items c.args.index = section_from a.items a.floor c.args.index over.items over.floor c.requires.floor in
    omega (arith, low, c.section_of-section.ensures)

-- what the calls did, where all of them ended well
adds_of : (g : given.Over) (c : goal.After-result-1 g) → Adds (shown c.args.self) (pair.shown (place_of g.K.Key.SIZE) c.in_ok-pair.pair) (λ bytes. g.V.Codec.refusal bytes c.in_ok-pair.pair.values.codec_config) (rows_of g.K.Key.key_bytes c.push.new.self) (AreTables g.K.Key.key_bytes g.T.Word.PartialEq.eq (g.T.Translator.word_of c.args.self.translator) c.push.new.self) (set_of c.in_ok-held.held.indices) (contains nat_cmp c.in_ok-held.held.written)
    c.args.index c.section_of-section.result c.section_of-section.ensures (g.K.Key.key_bytes c.args.key) (length (frame g.S.Seal.seal_of (g.V.Codec.spelling c.args.value.now))) (disk (g.D.Device.time c.args.dev.now)) (disk (g.D.Device.time c.append.new.dev)) g.D.Device.Tells
adds_of g c =
    let a = shown c.args.self in
    let d = disk (g.D.Device.time c.args.dev.now) in
    let sec : ℕ = c.section_of-section.result in
    let key : List ℕ = g.K.Key.key_bytes c.args.key in
    let v : List ℕ = g.V.Codec.spelling c.args.value.now in
    let n : ℕ = length (frame g.S.Seal.seal_of v) in
    let at : ℕ = glob.section_size a.pair.values sec in
    let bytes : List ℕ = fixed.section_bytes a.pair.index.sections d sec in
    let row : Row = record { index = c.args.index; key = key } in
    let le = short g c in
    let kb = g.K.Key.key_bytes in
    let eq = g.T.Word.PartialEq.eq in
    let words = g.T.Translator.word_of c.args.self.translator in
    record {
      record_size = refl;
      floor = c.in_ok-pair.ensures.bounds.0.floor;
      records = λ t.
          let place : c.in_ok-pair.field-0-2 ≡ at = c.in_ok-pair.ensures.place (inl t) in
          let size : c.in_ok-pair.field-0-3 ≡ n = c.in_ok-pair.ensures.size in
          c.in_ok-pair.ensures.records t
          ∙ ap (λ (r : IndexRecord g.row.K.Denot). bytes ++ index_record r.index (g.K.Key.key_bytes r.key) c.in_ok-pair.field-0-2 c.in_ok-pair.field-0-3) c.new-record.ensures
          ∙ (λ i. bytes ++ index_record c.args.index key (place i) (size i));
      other_lists = c.in_ok-pair.ensures.other_lists;
      others = c.in_ok-pair.ensures.others;
      synced = c.in_ok-pair.ensures.synced;
      row = row_pushed kb eq words sec c.args.index c.transform-word.result c.args.key c.args.self.tables c.in_ok-held.held.tables c.push.new.self c.in_ok-held.ensures.same c.push.ensures row refl;
      other_rows = rows_kept kb eq words sec c.args.index c.transform-word.result c.args.key c.args.self.tables c.in_ok-held.held.tables c.push.new.self c.in_ok-held.ensures.same c.push.ensures;
      added = c.in_ok-held.ensures.indices;
      above = section_above g c;
      written = still_none (contains nat_cmp c.args.self.written) (contains nat_cmp c.in_ok-held.held.written) sec c.in_ok-held.ensures.written c.in_ok-held.ensures.others;
      written_now = λ s. (grows (contains nat_cmp c.args.self.written) (contains nat_cmp c.in_ok-held.held.written) sec c.in_ok-held.ensures.written c.in_ok-held.ensures.others s).0;
      tied = tied_still kb eq words sec c.args.index c.transform-word.result c.args.key c.args.self.tables c.in_ok-held.held.tables c.push.new.self c.in_ok-held.ensures.same c.push.ensures c.in_ok-held.ensures.reserved
          (ap words (sym c.as_bytes.ensures) ∙ sym c.transform-word.ensures) c.requires.over.tied;
      small = c.ranges.index.fits;
      sized = g.met.K.Key.sized c.args.key;
      long = refl;
      size = omega (arith, le);
      room = λ t. elim (full_or_room (a.pair.values.held sec) n (omega (arith, le))) [
        | inl full ↦ absurd (cc ((c.in_ok-pair.ensures.full (inl t)).1 (le, pair_above (shown c.args.self) c.requires.over c.args.index c.section_of-section.result c.section_of-section.ensures c.requires.floor, inr full)))
        | inr fits ↦ fits
      ];
    }

-- what the record is, where its frame is not too large
asked_of : (g : given.Over) (c : After-append g) (times : Times) → is_skipped (shown c.args.self) c.args.index times ≡ false → IsSoundArchive (shown c.args.self) (disk (g.D.Device.time c.args.dev.now)) → length (frame g.S.Seal.seal_of (g.V.Codec.spelling c.args.value.now)) ≤ 2 ^ 32 - 1
    → IsFree (shown c.args.self) c.args.index c.section_of-section.result c.section_of-section.ensures (g.K.Key.key_bytes c.args.key) (g.V.Codec.spelling c.args.value.now) (length (frame g.S.Seal.seal_of (g.V.Codec.spelling c.args.value.now))) (disk (g.D.Device.time c.args.dev.now)) times
asked_of g c times free sound le = record {
  small = c.ranges.index.fits;
  sized = g.met.K.Key.sized c.args.key;
  free = free;
  accepted = g.met.V.Codec.kept c.args.value.now c.args.self.pair.values.codec_config c.requires.value;
  some = omega (arith, length-frame g.S.Seal.seal_of (g.V.Codec.spelling c.args.value.now));
  place = place_of-index_record g.K.Key.SIZE c.args.index (g.K.Key.key_bytes c.args.key) (glob.section_size (shown c.args.self).pair.values c.section_of-section.result) (length (frame g.S.Seal.seal_of (g.V.Codec.spelling c.args.value.now)))
      (g.met.K.Key.sized c.args.key) (sound.counted c.section_of-section.result) (omega (arith, le));
}

-- at every moment each crash leaves what stands for the state with the put under way
moments_of : (g : given.Over) (c : After-append g) (times : Times) → is_skipped (shown c.args.self) c.args.index times ≡ false → g.D.Device.Tells → IsSoundArchive (shown c.args.self) (disk (g.D.Device.time c.args.dev.now)) → Always (g.D.Device.time c.args.dev.now) (g.D.Device.time c.append.new.dev)
    (Leaves (filing_of (shown c.args.self)) (state_of (shown c.args.self) (disk (g.D.Device.time c.args.dev.now))) (Some (put_command times c.args.index (g.K.Key.key_bytes c.args.key) (g.V.Codec.spelling c.args.value.now))))
moments_of g c times free t sound =
    let before = g.D.Device.time c.args.dev.now in
    let now = g.D.Device.time c.append.new.dev in
    let l = (shown c.args.self).pair.layout in
    let offset : ℕ = glob.section_size (shown c.args.self).pair.values c.section_of-section.result in
    let bytes : List ℕ = g.V.Codec.spelling c.args.value.now in
    let size : ℕ = length (frame g.S.Seal.seal_of bytes) in
    let Blobs : Key → Type 0 = λ q. IsIndexOf l (λ s. s ≡ c.section_of-section.result) q ⊎ IsValuesOf l (λ s. s ≡ c.section_of-section.result) q in
    let keeping : Keeping l (wanted (shown c.args.self) c.args.index c.section_of-section.result c.section_of-section.ensures (g.K.Key.key_bytes c.args.key) bytes size (disk before)) (synced_length (shown c.args.self).pair) (λ _. ⊥) Blobs before now =
    subst (λ (r : IndexRecord g.row.K.Denot). Keeping l (λ s. list_of (shown c.args.self).pair (disk before) s
    ++ (if s == c.section_of-section.result then record { stored = index_record r.index (g.K.Key.key_bytes r.key) offset size; value = bytes } ∷ [] else [])) (synced_length (shown c.args.self).pair) (λ _. ⊥) Blobs before now)
    c.new-record.ensures (c.append.ensures.moments t sound.pair) in
    put_moments (shown c.args.self) c.args.index c.section_of-section.result c.section_of-section.ensures (g.K.Key.key_bytes c.args.key) bytes size times g.D.Device.time c.args.dev.now c.append.new.dev
    (stands_settled (shown c.args.self) (disk before) (omega arith) refl refl refl refl (λ s v held. λ i. (c.requires.over.pair.index.over.opened_list.setting s v held i).page_size) c.requires.over t sound)
    c.requires.over t sound (asked_of g c times free sound) ((room_shown (row_of g.K.Key.key_bytes) (tables.rows_of c.args.self.tables) c.args.self.limits.sections c.args.self.limits.per_section c.section_of-section.result).0 (c.has_room.ensures.0 c.if-not-has_room.false)) c.args.self.has_records c.section_of-section.type_inv
    (λ lt. c.append.ensures.refused (inl (c.append.ensures.too_large.1 lt)))
    (λ le full. c.append.ensures.refused (inr (inr (inl t, (c.append.ensures.full (inl t)).1 (le, pair_above (shown c.args.self) c.requires.over c.args.index c.section_of-section.result c.section_of-section.ensures c.requires.floor, inr full)))))
    keeping

sounds_of : (g : given.Over) (c : goal.After-result-1 g) → g.D.Device.Tells → IsSoundArchive (shown c.args.self) (disk (g.D.Device.time c.args.dev.now))
    → Sounds (shown c.args.self) (pair.shown (place_of g.K.Key.SIZE) c.in_ok-pair.pair) (λ bytes. g.V.Codec.refusal bytes c.in_ok-pair.pair.values.codec_config) (rows_of g.K.Key.key_bytes c.push.new.self) (AreTables g.K.Key.key_bytes g.T.Word.PartialEq.eq (g.T.Translator.word_of c.args.self.translator) c.push.new.self) (set_of c.in_ok-held.held.indices) (contains nat_cmp c.in_ok-held.held.written)
    c.args.index c.section_of-section.result c.section_of-section.ensures (g.K.Key.key_bytes c.args.key) (g.V.Codec.spelling c.args.value.now) (length (frame g.S.Seal.seal_of (g.V.Codec.spelling c.args.value.now))) (disk (g.D.Device.time c.args.dev.now)) (disk (g.D.Device.time c.append.new.dev))
sounds_of g c t sound = record {
  index_here = c.in_ok-pair.ensures.layout.index;
  values_here = c.in_ok-pair.ensures.layout.values;
  place = refl;
  sound = record { sound = c.in_ok-pair.ensures.sound t sound.pair.sound; floor = ap (λ u. u.floor) c.in_ok-pair.ensures.markers ∙ sound.pair.floor };
  list = c.in_ok-pair.ensures.list t sound.pair.sound ∙ ap (λ (r : IndexRecord g.row.K.Denot). list_of (shown c.args.self).pair (disk (g.D.Device.time c.args.dev.now)) c.section_of-section.result
      ++ record {
        stored = index_record r.index (g.K.Key.key_bytes r.key) (glob.section_size (shown c.args.self).pair.values c.section_of-section.result) (length (frame g.S.Seal.seal_of (g.V.Codec.spelling c.args.value.now)));
        value = g.V.Codec.spelling c.args.value.now;
      } ∷ []) c.new-record.ensures;
  alone = always_now (g.D.Device.time c.args.dev.now) (g.D.Device.time c.append.new.dev)
      (λ e. (q : Key) → q ≢ section_key (shown c.args.self).pair.layout.index c.section_of-section.result → q ≢ section_key (shown c.args.self).pair.layout.values c.section_of-section.result → e q ≡ disk (g.D.Device.time c.args.dev.now) q)
      (c.append.ensures.untouched t);
  same = λ bytes. ap (g.V.Codec.refusal bytes) c.in_ok-pair.ensures.codec_config;
  small = c.section_of-section.type_inv;
}

pub has_room-requires : goal.has_room-requires
has_room-requires g c = c.requires.over.tied.order

pub grown-requires : goal.grown-requires
grown-requires g c = record {
  order = c.requires.over.tied.order;
  room = room_wider c.args.self.limits.sections c.args.self.limits.per_section (2 ^ 24) (2 ^ 40) (tables.rows_of c.args.self.tables) c.section_of-section.result c.args.self.few_sections c.args.self.few_records (c.has_room.ensures.0 c.if-not-has_room.false);
  index = section_low c.args.self.items_per_section c.args.index c.section_of-section.result c.section_of-section.ensures;
}

pub push-requires : goal.push-requires
push-requires g c = record {
  order = c.in_ok-held.ensures.reserved.order;
  spare = c.in_ok-held.ensures.reserved.spare;
  index = section_low c.args.self.items_per_section c.args.index c.section_of-section.result c.section_of-section.ensures;
}

-- ---- the exits

pub returns-then-not-has_room : goal.returns-then-not-has_room
returns-then-not-has_room g c times free =
    put_over_limit _ g.D.Device times c.args.self c.args.index (g.K.Key.key_bytes c.args.key) (g.V.Codec.spelling c.args.value.now) (section_small _ c.args.index c.ranges.index.fits) free c.args.dev.now
    (λ t sound. stands_settled (shown c.args.self) (disk (g.D.Device.time c.args.dev.now)) (omega arith) refl refl refl refl (λ s v held. λ i. (c.requires.over.pair.index.over.opened_list.setting s v held i).page_size) c.requires.over t sound)
    (λ allowed.
    let a = shown c.args.self in
    let room = c.has_room.ensures.1 ((room_shown (row_of g.K.Key.key_bytes) (tables.rows_of c.args.self.tables) a.most_sections a.most_records c.section_of-section.result).1 (subst (HasRoom a.most_sections a.most_records a.rows) (sym c.section_of-section.ensures) allowed)) in
    absurd (cc (room, c.if-not-has_room.true)))

pub returns-in_err-held : goal.returns-in_err-held
returns-in_err-held g c times free =
    put_as _ g.D.Device times c.args.self c.args.index (g.K.Key.key_bytes c.args.key) (g.V.Codec.spelling c.args.value.now) _ (Err Mem) _ _ (err_of _ Mem (subst (λ (x : Error). IsErrAnd c.from_residual.result (λ y. y ≡ x)) c.in_err-held.ensures c.from_residual.ensures.1))
    (put_no_memory _ g.D.Device times c.args.self c.args.index (g.K.Key.key_bytes c.args.key) (g.V.Codec.spelling c.args.value.now) (section_small _ c.args.index c.ranges.index.fits) free c.args.dev.now
    (λ t sound. stands_settled (shown c.args.self) (disk (g.D.Device.time c.args.dev.now)) (omega arith) refl refl refl refl (λ s v held. λ i. (c.requires.over.pair.index.over.opened_list.setting s v held i).page_size) c.requires.over t sound)
    (row_allowed g.K.Key.key_bytes c.args.self.tables c.args.self.limits.sections c.args.self.limits.per_section c.args.self.items_per_section c.args.index c.section_of-section.result c.section_of-section.ensures (c.has_room.ensures.0 c.if-not-has_room.false)))

pub returns-in_err-pair : goal.returns-in_err-pair
returns-in_err-pair g c times free =
    let sec = c.section_of-section.result in
    let key = g.K.Key.key_bytes c.args.key in
    let v = g.V.Codec.spelling c.args.value.now in
    let e = c.in_err-pair.field-0.0 in
    let small = section_small _ c.args.index c.ranges.index.fits in
    let allowed = row_allowed g.K.Key.key_bytes c.args.self.tables c.args.self.limits.sections c.args.self.limits.per_section c.args.self.items_per_section c.args.index c.section_of-section.result c.section_of-section.ensures (c.has_room.ensures.0 c.if-not-has_room.false) in
    put_as _ g.D.Device times c.args.self c.args.index key v _ (Err (raised e)) _ _ (err_of _ (raised e) c.from_residual-in_err-pair.ensures.1)
    (put_pair_failed _ g.D.Device times c.args.self c.args.index key v small free allowed (pair_above (shown c.args.self) c.requires.over c.args.index _ refl c.requires.floor) e c.args.dev.now c.append.new.dev
    (failed_here _ g.D.Device times c.args.self c.args.index key v small free sec c.section_of-section.ensures e c.args.dev.now c.append.new.dev (record {
      cause = c.in_err-pair.ensures.cause;
      guard = c.in_err-pair.ensures.guard;
      too_large = c.in_err-pair.ensures.too_large;
      full = c.in_err-pair.ensures.full;
      refused = c.in_err-pair.ensures.refused;
    }))
    (moments_of g (goal.at.returns-in_err-pair g c).After-append times free)
    (touches_here _ g.D.Device times c.args.self c.args.index key v sec c.section_of-section.ensures c.args.dev.now c.append.new.dev (record {
      untouched = c.append.ensures.untouched;
      entries = c.append.ensures.entries;
      faults = c.append.ensures.faults;
      below = c.append.ensures.below;
    })))

pub returns : goal.returns
returns g c times free =
    let a = shown c.args.self in
    let d = disk (g.D.Device.time c.args.dev.now) in
    let e = disk (g.D.Device.time c.append.new.dev) in
    let sec : ℕ = c.section_of-section.result in
    let here = c.section_of-section.ensures in
    let key : List ℕ = g.K.Key.key_bytes c.args.key in
    let v : List ℕ = g.V.Codec.spelling c.args.value.now in
    let n : ℕ = length (frame g.S.Seal.seal_of v) in
    let small = section_small _ c.args.index c.ranges.index.fits in
    let allowed = row_allowed g.K.Key.key_bytes c.args.self.tables c.args.self.limits.sections c.args.self.limits.per_section c.args.self.items_per_section c.args.index c.section_of-section.result c.section_of-section.ensures (c.has_room.ensures.0 c.if-not-has_room.false) in
    let says = c.in_ok-pair.ensures in
    let q = pair.shown (place_of g.K.Key.SIZE) c.in_ok-pair.pair in
    let refusal : List ℕ → Option codec_error.Error = λ bytes. g.V.Codec.refusal bytes c.in_ok-pair.pair.values.codec_config in
    let rows = rows_of g.K.Key.key_bytes c.push.new.self in
    let written = contains nat_cmp c.in_ok-held.held.written in
    let adds = adds_of g c in
    let filing = same_filing (filing_of a) q.layout refusal says.layout refl (λ _. refl) (λ _. refl) (λ bytes. ap (g.V.Codec.refusal bytes) says.codec_config) in
    let over = grown_archive a q refusal rows (AreTables g.K.Key.key_bytes g.T.Word.PartialEq.eq (g.T.Translator.word_of c.args.self.translator) c.push.new.self) (set_of c.in_ok-held.held.indices) written c.args.index sec here key n d e
    c.requires.over adds says.over ((room_shown (row_of g.K.Key.key_bytes) (tables.rows_of c.args.self.tables) c.args.self.limits.sections c.args.self.limits.per_section c.section_of-section.result).0 (c.has_room.ensures.0 c.if-not-has_room.false)) c.args.self.has_records in
    let sounder : g.D.Device.Tells → IsSoundArchive a d → IsSoundArchive _ e = λ t sound. grown_sound a q refusal rows (AreTables g.K.Key.key_bytes g.T.Word.PartialEq.eq (g.T.Translator.word_of c.args.self.translator) c.push.new.self) (set_of c.in_ok-held.held.indices) written c.args.index sec here key v n d e c.requires.over t adds times (asked_of g (goal.at.returns g c).After-append times free sound (short g c)) sound (sounds_of g c t sound) in
    put_added _ g.D.Device times c.args.self c.args.index key v small free _ c.args.dev.now c.append.new.dev allowed (moments_of g (goal.at.returns g c).After-append times free)
    (touches_here _ g.D.Device times c.args.self c.args.index key v sec here c.args.dev.now c.append.new.dev (record {
      untouched = c.append.ensures.untouched;
      entries = c.append.ensures.entries;
      faults = c.append.ensures.faults;
      below = c.append.ensures.below;
    }))
    (short g c)
    (rw (sym here) (λ t passed. absurd (cc ((says.full (inl t)).1 (short g c, pair_above (shown c.args.self) c.requires.over c.args.index c.section_of-section.result c.section_of-section.ensures c.requires.floor, passed)))))
    over
    (one_filing (filing_of a) _ filing refl)
    (λ w accepts. subst (g.V.Codec.accepted w) (sym says.codec_config) accepts)
    sounder
    (λ t sound. grown_state a q refusal rows (AreTables g.K.Key.key_bytes g.T.Word.PartialEq.eq (g.T.Translator.word_of c.args.self.translator) c.push.new.self) (set_of c.in_ok-held.held.indices) written c.args.index sec here key v n d e c.requires.over t adds times (asked_of g (goal.at.returns g c).After-append times free sound (short g c)) sound (sounds_of g c t sound))
    (λ t sound. stands_settled _ e (omega arith) refl refl refl refl (λ s u held. λ i. (says.over.index.over.opened_list.setting s u held i).page_size) over t sound)
    (record {
      filing = filing;
      alike = refl;
      floor = refl;
      bounds = says.bounds;
      rows = rows_put a c.args.index sec here (is_skipped a c.args.index times) free key rows adds.row adds.other_rows;
      values = λ t. sizes_put a c.args.index sec here (is_skipped a c.args.index times) free n q.values
          (sym (section_counted _ q.values _ e says.over.values t sec) ∙ ap length (says.values t) ∙ length-append _ _ ∙ ap (λ (k : ℕ). k + n) (section_counted _ a.pair.values _ d c.requires.over.pair.values t sec))
          (λ s other. ap glob.size_held (says.others s other).1.held);
      own_tails = λ added. subst (λ (s : ℕ). AreTailsAfter a.pair s n q) here (subst (λ (k : ℕ). AreTailsAfter a.pair sec k q) says.size says.tails);
      other_tails = λ s other. (let same = says.others s (not_here a c.args.index sec here (is_skipped a c.args.index times) free s other) in tails_same a.pair q s same.0 same.1);
      written = λ s. written_put a c.args.index sec here (is_skipped a c.args.index times) free written s (grows (contains nat_cmp c.args.self.written) written sec c.in_ok-held.ensures.written c.in_ok-held.ensures.others s);
      markers = says.markers;
      synced = says.synced;
    })
