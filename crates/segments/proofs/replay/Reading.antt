-- A replay of a fixed journal reads on in its section: what is at hand then, and the step over one item.
use Rattle.std.specs.Prelude.{◌≡◌, ◌≢◌, ◌⊎◌, ◌↔◌, ℕ, ◌+◌, ◌-◌, ◌*◌, ◌/◌, ◌^◌, ◌<◌, ◌≤◌, Bool, true, false, List, length, take, drop, IsTrue, IsSomeAnd, Option, None, Some, Result, Ok, Err, OnOk, OnErr}
use Rattle.std.specs.Result.{IsErrOf}
use Rattle.std.proofs.Common.{inl, inr, refl, sym, ◌∙◌, ap, subst, arith, length-drop}
use Rattle.std.proofs.lemmas.Bool.{cases_eq, cases_lt}
use Rattle.std.proofs.lemmas.Nat.{le-div, mul-le}
use Rattle.blob_device.specs.Disk.{Key, Blob, Disk}
use Rattle.blob_device.specs.Opened.{Opened, OpenedList, reads_of}
use Rattle.blob_device.specs.Timeline.{Timeline, disk, Each}
use Rattle.blob_device.specs.lemmas.Moments.{always_start, always_now, always_then, always_weaker}
use Rattle.blob_device.specs.lemmas.Puts.{same_or_other}
use Rattle.sealed_pages.specs.declared.page_blob.PageBlob.{PageBlob}
use Rattle.sealed_pages.specs.Shown.{shown}
use Rattle.sealed_pages.specs.Entries.{IsOpenAt, ReadsAtMost}
use Rattle.sealed_pages.specs.Reading.{Unchanged}
use Rattle.sealed_pages.specs.Readers.{Reader, IsReplayOf, SameReader, ReadsUnread, next_of, unread_of}
use Rattle.sealed_pages.specs.Pieces.{next_missing}
use Rattle.sealed_pages.specs.Reads.{IsCovered, IsWanted, needed}
use Rattle.sealed_pages.specs.Slots.{page_length}
use Rattle.sealed_pages.specs.View.{view}
use Rattle.sealed_pages.specs.Buffer.{bytes_of}
use Rattle.sealed_pages.specs.SealedPrefix.{sealed_prefix, data_from}
use Rattle.sealed_pages.specs.Unrecovered.{IsAdopted}
use Rattle.sealed_pages.specs.lemmas.looking.Replay.{covered_rest, data_drop}
use Rattle.sealed_pages.specs.lemmas.memory.Holding.{bytes_length}
use Rattle.segments.specs.lemmas.replay.Ending.{ahead_from}
use Rattle.segments.specs.lemmas.replay.Kept.{covered_length, covered_on, flushed_data, item_kept, prefix_data}
use Rattle.segments.specs.lemmas.replay.Walks.{IsBehind, IsReached, left_later, same_bytes}
use Rattle.segments.specs.lemmas.replay.WalksOn.{replaying_start}
use Rattle.section_manager.specs.declared.buffer.SectionBuffer as buffer
use Rattle.section_manager.specs.declared.journal.Error.{Error}
use Rattle.section_manager.specs.declared.journal.Damage.{Damage}
use Rattle.blob_device.specs.declared.runtime.RError.TheVariants.{InvalidChecksum}
use Rattle.section_manager.specs.declared.journal.Error.TheVariants.{ItemOutOfRange, Corruption, Runtime, Codec, Mem}
use Rattle.value_codec.specs.declared.codec.Error as codec
use Rattle.section_manager.specs.Setting.{Setting}
use Rattle.section_manager.specs.Sections.{Sections, key_of, IsHeld, IsKeyOf, HasOpened, StandsOver}
use Rattle.section_manager.specs.Entries.{OnlyOwnEntry}
use Rattle.section_manager.specs.lemmas.Keys.{keys_differ}
use Rattle.segments.specs.FixedItems.{item_at, IsItem}
use Rattle.segments.specs.FixedReading.{HasNotRead, IsBelowFloor}
use Rattle.segments.specs.FixedLists.{section_size}
use Rattle.segments.specs.FixedReplay.{Place, Walk, IsAhead, IsIn, IsReadWhole, IsLeft, SameWalk, IsWalk, WalksOver, StandsBefore, KeepsItems, IsFromCovered, Gives, Refuses, IsEndedAt, Stops, Replaying, LeavesNoMore, EndsBelow, EndsDamaged, StandsIn, ReadsIn, kept_of, kept_bytes, first_of}
use Rattle.segments.specs.FixedStepping.{standing, after_item, bytes_ahead, way_of, reads_left, ReadsOnce, GoesOn, Carries, EndsAt, Steps}
use Rattle.segments.proofs.replay.Counts.{count_here, count_apart, count_same}
use Rattle.segments.specs.lemmas.FixedOwed.{same_items, same_or_cut}
use Rattle.segments.proofs.replay.Stopping.{ended_back, ended_here}
use Rattle.segments.proofs.replay.Steps.{Called, Answered, call_stopped, call_failed, call_ended, call_refused}
use Rattle.blob_device.proofs.general.Numbers.{times_next}
use Rattle.blob_device.proofs.general.Options.{none_in, same_some, some_there, the_some}
use Rattle.segments.specs.lemmas.replay.Reading.{failed_since, not_read_since}

pub some_and : {A : Type 0} (P : A → Type 0) → (o : Option A) (v : A) → o ≡ Some v → P v → IsSomeAnd o P
some_and {A = A} P o v is has = subst (λ (x : Option A). IsSomeAnd x P) (sym is) has

-- the reader behind n bytes
pub advanced : (seal : List ℕ → ℕ) (content : List ℕ) (n : ℕ) (r : Reader) → n ≤ length r.bytes → IsReplayOf seal content r → IsReplayOf seal content (record r { at = r.at + n; bytes = drop n r.bytes })
advanced seal content n r fits is = record {
  bytes = data_drop r.page_size r.at n (view content) r.bytes is.bytes fits;
  covered = covered_rest seal r.page_size content r.at (length r.bytes) n (length (drop n r.bytes)) is.covered fits (length-drop n r.bytes);
  piece = is.piece;
  tip = is.tip;
}

-- reads leave each blob opened, as long as it was
opened_reads : {F B : Type 0} (g : buffer.Ghosts B) (gives : F → Setting) (m : Sections F B) (k : Key) (n : ℕ) (before after : OpenedList) → ReadsAtMost n k before after → HasOpened g gives m before → HasOpened g gives m after
opened_reads g gives m k n before after reads has = record {
  key = has.key;
  setting = has.setting;
  is_open = λ s u held. elim (same_or_other (key_of m s) k) [
    | inl is ↦ subst (λ (q : Key). IsOpenAt after q (g.extent u)) (sym is) (reads.length (g.extent u) (subst (λ (q : Key). IsOpenAt before q (g.extent u)) is (has.is_open s u held)))
    | inr other ↦ subst (λ (o : Option Opened). IsSomeAnd o (λ e. e.len ≡ g.extent u)) (sym (reads.others (key_of m s) other)) (has.is_open s u held)
  ];
  to_ceiling = has.to_ceiling;
  apart = has.apart;
  from_floor = has.from_floor;
  number = has.number;
}

module _ {F S : Type 0} {gs : _} (seal : List ℕ → ℕ) (size : ℕ) (g : buffer.Ghosts (PageBlob S gs)) (gives : F → Setting) {told : Type 0} (w : Walk F (PageBlob S gs)) where
  -- what is known of a place at which a replay stands
  module _ (r : Place) (before : OpenedList) (d : Disk) (was : IsWalk g gives seal size told (standing w r) before d) where
    pub here : (u : PageBlob S gs) × (w.journal.sections.held r.section ≡ Some u) × StandsIn size (standing w r) r u
    here = the_some (w.journal.sections.held r.section) (was.walk.place r refl)

    pub reads_here : told → ReadsIn seal (standing w r) d r here.0
    reads_here t =
        let has = the_some (w.journal.sections.held r.section) ((was.disk t).place r refl) in
        subst (λ (u : PageBlob S gs). ReadsIn seal (standing w r) d r u) (same_some (w.journal.sections.held r.section) here.0 has.0 here.1 has.1) has.2

    opens : kept_bytes seal size (standing w r) d r.section ≡ kept_of seal (w.journal.unrecovered r.section) (Some here.0) (d (key_of w.journal.sections r.section)).content
    opens = ap (λ (o : Option (PageBlob S gs)). kept_of seal (w.journal.unrecovered r.section) o (d (key_of w.journal.sections r.section)).content) here.1

    -- The bytes from which the section's items are given are its sealed prefix where it owes a replay, else all its bytes.
    pub kept_owed : IsTrue (w.journal.unrecovered r.section) → kept_bytes seal size (standing w r) d r.section ≡ sealed_prefix seal here.0.page_size (d (key_of w.journal.sections r.section)).content
    kept_owed owed = opens ∙ ap (λ (o : Bool). kept_of seal o (Some here.0) (d (key_of w.journal.sections r.section)).content) owed

    pub kept_free : w.journal.unrecovered r.section ≡ false → kept_bytes seal size (standing w r) d r.section ≡ bytes_of (shown here.0) (d (key_of w.journal.sections r.section)).content
    kept_free free = opens ∙ ap (λ (o : Bool). kept_of seal o (Some here.0) (d (key_of w.journal.sections r.section)).content) free

    module _ (adopt : (u : PageBlob S gs) (b : Blob) → g.Stands u b → IsAdopted seal (shown u) b) where
      -- They stand in the blob.
      pub kept_data : told → kept_bytes seal size (standing w r) d r.section ≡ data_from here.0.page_size (view (d (key_of w.journal.sections r.section)).content) 0 (length (kept_bytes seal size (standing w r) d r.section))
      kept_data t = go (w.journal.unrecovered r.section) refl
        where
          go : (owes : Bool) → w.journal.unrecovered r.section ≡ owes → kept_bytes seal size (standing w r) d r.section ≡ data_from here.0.page_size (view (d (key_of w.journal.sections r.section)).content) 0 (length (kept_bytes seal size (standing w r) d r.section))
          go true owed = subst (λ (l : List ℕ). l ≡ data_from here.0.page_size (view (d (key_of w.journal.sections r.section)).content) 0 (length l)) (sym (kept_owed owed)) (prefix_data seal here.0.page_size (d (key_of w.journal.sections r.section)).content (omega (arith, here.0.fit.begun)))
          go false free = subst (λ (l : List ℕ). l ≡ data_from here.0.page_size (view (d (key_of w.journal.sections r.section)).content) 0 (length l)) (sym (kept_free free))
              (flushed_data seal (shown here.0) (d (key_of w.journal.sections r.section)) here.0.fit.begun (adopt here.0 (d (key_of w.journal.sections r.section)) ((was.over.disk t).stands r.section here.0 here.1)) here.2.flushed)

    -- All bytes at hand are among them.
    pub long_here : told → next_of r.reader ≤ r.reader.size → next_of r.reader ≤ length (kept_bytes seal size (standing w r) d r.section)
    long_here t within = go (w.journal.unrecovered r.section) refl
      where
        go : (owes : Bool) → w.journal.unrecovered r.section ≡ owes → next_of r.reader ≤ length (kept_bytes seal size (standing w r) d r.section)
        go true owed = omega (arith, covered_length seal here.0.page_size (d (key_of w.journal.sections r.section)).content (omega (arith, here.0.fit.begun)) (next_of r.reader) ((reads_here t).checked (inl owed)), ap length (kept_owed owed))
        go false free = omega (arith, within, here.2.blob_size, ap length (kept_free free), bytes_length (shown here.0) (d (key_of w.journal.sections r.section)).content)

  -- The reader took more bytes.
  module _ (r : Place) (more : Reader) (before after : OpenedList) (a b : Timeline) (n : ℕ) (was : IsWalk g gives seal size told (standing w r) before (disk a)) (same : SameReader r.reader more)
      (replays : told → IsReplayOf seal (disk a r.reader.key).content r.reader → IsReplayOf seal (disk a r.reader.key).content more) (stood : told → Unchanged a b) (reads : ReadsAtMost n r.reader.key before after) where
    abbrev pub on : Place
    on = record { section = r.section; position = r.position; reader = more }

    key_is : r.reader.key ≡ key_of w.journal.sections r.section
    key_is = (here r before (disk a) was).2.key

    same_disk : told → disk b ≡ disk a
    same_disk t = always_now a b (λ x. x ≡ disk a) (stood t)

    stands_on : StandsIn size (standing w on) on (here r before (disk a) was).0
    stands_on = let h = (here r before (disk a) was).2 in record {
      key = same.key ∙ h.key;
      page_size = same.page_size ∙ h.page_size;
      end = same.end ∙ h.end;
      blob_size = same.size ∙ h.blob_size;
      flushed = h.flushed;
      at = same.at ∙ h.at;
      within = h.within;
      begun = h.begun;
    }

    reads_on : told → ReadsIn seal (standing w on) (disk a) on (here r before (disk a) was).0
    reads_on t =
        let u = (here r before (disk a) was).0 in
        let c = (disk a (key_of w.journal.sections r.section)).content in
        let was_reads = reads_here r before (disk a) was t in
        let now : IsReplayOf seal c more = subst (λ (k : Key). IsReplayOf seal (disk a k).content more) key_is (replays t (subst (λ (k : Key). IsReplayOf seal (disk a k).content r.reader) (sym key_is) was_reads.replays)) in
        record {
          replays = now;
          checked = λ read.
              let old_covered : IsCovered seal u.page_size c 0 (r.reader.at + length r.reader.bytes) = was_reads.checked (read_same read) in
              let low : IsCovered seal u.page_size c 0 more.at = λ k wanted. old_low k wanted old_covered in
              let high : IsCovered seal u.page_size c more.at (length more.bytes) = subst (λ (P : ℕ). IsCovered seal P c more.at (length more.bytes)) stands_on.page_size now.covered in
              covered_on seal u.page_size c (omega (arith, u.fit.begun)) more.at (length more.bytes) low high;
        }
      where
        read_same : IsReadWhole (standing w on) r.section → IsReadWhole (standing w r) r.section
        read_same read = elim read [ inl owed ↦ inl owed | inr first ↦ inr first ]

        old_low : (k : ℕ) → IsWanted (here r before (disk a) was).0.page_size 0 more.at k → IsCovered seal (here r before (disk a) was).0.page_size (disk a (key_of w.journal.sections r.section)).content 0 (r.reader.at + length r.reader.bytes)
            → needed (here r before (disk a) was).0.page_size 0 more.at k ≤ page_length seal (here r before (disk a) was).0.page_size (disk a (key_of w.journal.sections r.section)).content k
        old_low k wanted covered =
            let whole = covered k (record { some = omega (arith, wanted.some, same.at); low = wanted.low; high = omega (arith, wanted.high, same.at) }) in
            omega (arith, whole, same.at)

    walks_on : told → WalksOver seal size (standing w on) (disk a)
    walks_on t = let has = was.disk t in record {
      sealed = has.sealed;
      gone_over = λ fine q u held over read. has.gone_over fine q u held (record { begun = over.begun; not_ahead = over.not_ahead; not_in = λ is. over.not_in is }) (elim read [ inl owed ↦ inl owed | inr first ↦ inr first ]);
      unopened = has.unopened;
      place = λ x is. (let at : on ≡ x = cc is in
          subst (λ (y : Place). IsSomeAnd (w.journal.sections.held y.section) (ReadsIn seal (standing w on) (disk a) y)) at
          (some_and (ReadsIn seal (standing w on) (disk a) on) (w.journal.sections.held r.section) (here r before (disk a) was).0 (here r before (disk a) was).1 (reads_on t)));
    }

    -- it is a replay still
    pub walk_read : IsWalk g gives seal size told (standing w on) after (disk b)
    walk_read = record {
      over = record {
        opened_list = opened_reads g gives w.journal.sections r.reader.key n before after reads was.over.opened_list;
        disk = λ t. subst (StandsOver g w.journal.sections) (sym (same_disk t)) (was.over.disk t);
      };
      walk = record {
        owes_settled = was.walk.owes_settled;
        owes_held = was.walk.owes_held;
        place = λ x is. (let at : on ≡ x = cc is in
            subst (λ (y : Place). IsSomeAnd (w.journal.sections.held y.section) (StandsIn size (standing w on) y)) at
            (some_and (StandsIn size (standing w on) on) (w.journal.sections.held r.section) (here r before (disk a) was).0 (here r before (disk a) was).1 stands_on));
        come_to = λ x is. (let at : on ≡ x = cc is in
            subst (λ (y : Place). (w.start_section ≤ y.section) × (IsAhead w y.section → ⊥)) at (was.walk.come_to r refl));
        from_start = was.walk.from_start;
        start_within = was.walk.start_within;
        start_kept = λ fine gone. was.walk.start_kept fine (record { begun = gone.begun; not_ahead = gone.not_ahead; not_in = λ there. gone.not_in there });
        ends = was.walk.ends;
      };
      disk = λ t. subst (WalksOver seal size (standing w on)) (sym (same_disk t)) (walks_on t);
    }

    -- each read took a page that was not read
    pub count_read : ReadsUnread r.reader more before after → (t : ℕ) → IsHeld w.journal.sections t
        → reads_of (after (key_of w.journal.sections t)) + reads_left (standing w on) t ≤ reads_of (before (key_of w.journal.sections t)) + reads_left (standing w r) t
    count_read read t held = elim (cases_eq t r.section) [
      | inl at ↦ subst (λ (k : ℕ). reads_of (after (key_of w.journal.sections k)) + reads_left (standing w on) k ≤ reads_of (before (key_of w.journal.sections k)) + reads_left (standing w r) k) (sym at)
          (let u = here r before (disk a) was in
          let there : reads_of (after (key_of w.journal.sections r.section)) + unread_of more ≤ reads_of (before (key_of w.journal.sections r.section)) + unread_of r.reader =
          subst (λ (k : Key). reads_of (after k) + unread_of more ≤ reads_of (before k) + unread_of r.reader) key_is read in
          omega (arith, there, count_here (standing w on) on u.0 refl u.1, count_here (standing w r) r u.0 refl u.1))
      | inr other ↦
          let apart : key_of w.journal.sections t ≢ r.reader.key = λ is. keys_differ w.journal.sections.partition t r.section (was.over.opened_list.number t (inl held))
          (was.over.opened_list.number r.section (inl (some_there (w.journal.sections.held r.section) (here r before (disk a) was).0 (here r before (disk a) was).1))) other (is ∙ key_is) in
          omega (arith, ap reads_of (reads.others (key_of w.journal.sections t) apart), count_apart w r on t (λ is. other (sym is)) (λ is. other (sym is)))
    ]

  -- The reader took more bytes, and then a step is made.
  module _ (r : Place) (more : Reader) (before after : OpenedList) (a b : Timeline) (was : IsWalk g gives seal size told (standing w r) before (disk a)) (same : SameReader r.reader more)
      (stood : told → Unchanged a b) (entries : OnlyOwnEntry (key_of w.journal.sections r.section) before after) where
    abbrev more_at : Place
    more_at = record { section = r.section; position = r.position; reader = more }

    stood_disk : told → disk b ≡ disk a
    stood_disk t = always_now a b (λ x. x ≡ disk a) (stood t)

    left_read : (d : Disk) (t q : ℕ) → IsLeft seal size (standing w more_at) d t q ↔ IsLeft seal size (standing w r) d t q
    left_read d t q = (
      λ l. record { goes_on = l.goes_on; begun = l.begun; whole = l.whole; ahead = l.ahead },
      λ l. record { goes_on = l.goes_on; begun = l.begun; whole = l.whole; ahead = l.ahead },
    )

    replaying_read : (d : Disk) (q : Key) (x : Blob) → Replaying seal size (standing w more_at) d q x → Replaying seal size (standing w r) d q x
    replaying_read d q x is = record { flushed = is.flushed; prefix = is.prefix; cut = is.cut; still = is.still; others = λ never. is.others (λ k. never (k.0, k.1, k.2)) }

    -- What a step from there on does, it does from here on.
    pub steps_read : {V : Type 0} (spelling : V → List ℕ) (accepted : V → Unit {0} → Type 0) (refusal : List ℕ → Unit {0} → Option codec.Error) (result : Result (Option (ℕ × ℕ × V)) Error) (new : Walk F (PageBlob S gs)) (last : OpenedList) (c : Timeline) (few some many : ℕ)
        → few ≤ some → OnOk result (ReadsOnce (standing w r) (standing w more_at) before after) → Steps seal size g gives spelling accepted refusal told result (standing w more_at) new after last b c some many → Steps seal size g gives spelling accepted refusal told result (standing w r) new before last a c few many
    steps_read {V = V} spelling accepted refusal result new last c few some many le unread step = record {
      over = step.over;
      broken = step.broken;
      goes = goes_read result step.goes;
      same = record { bounds = step.same.bounds; unrecovered = step.same.unrecovered; floors = step.same.floors; section = step.same.section; position = step.same.position };
      nearer = omega (arith, step.nearer, same.size, same.at);
      bytes = λ q u v held now free. (let has = step.bytes q u v held now free in record {
        size = has.size;
        settled = has.settled;
        bytes = λ t. subst (λ (d : Disk). bytes_of (shown v) (disk c (key_of w.journal.sections q)).content ≡ bytes_of (shown u) (d (key_of w.journal.sections q)).content) (stood_disk t) (has.bytes t);
      });
      onward = λ q h. step.onward q h;
      stays = step.stays;
      floors = step.floors;
      items = λ t going. subst (λ (d : Disk). KeepsItems seal size (standing w more_at) d (disk c)) (stood_disk t) (step.items t going);
      later = λ t. later_read t result (step.later t);
      carries = λ t is. (let has = subst (λ (d : Disk). Carries seal size (standing w more_at) new d (disk c)) (stood_disk t) (step.carries t is) in record {
        left = λ q p. (λ l. (left_read (disk a) q p).0 ((has.left q p).0 l), λ l. (has.left q p).1 ((left_read (disk a) q p).1 l));
        kept = has.kept;
        sizes = has.sizes;
      });
      item = λ t q p v is. (let has = subst (λ (d : Disk). Gives seal size spelling accepted (standing w more_at) new d (disk c) q p v) (stood_disk t) (step.item t q p v is) in record {
        left = (left_read (disk a) q p).0 has.left;
        first = λ x y l. has.first x y ((left_read (disk a) x y).1 l);
        item = has.item;
        covered = has.covered;
        rest = λ x y. (λ l. (let was = (has.rest x y).0 l in ((left_read (disk a) x y).0 was.0, was.1)), λ l. (has.rest x y).1 ((left_read (disk a) x y).1 l.0, l.1));
      });
      stops = λ t. stops_read t result (step.stops t);
      start = λ t p is. (let has = step.start t p is in (has.0, subst (λ (d : Disk). length (kept_bytes seal size (standing w more_at) d w.start_section) < p * size) (stood_disk t) has.1, has.2, ended_read t w.start_section has.3));
      damage = λ t x is. (let has = step.damage t x is in
          let below = subst (λ (d : Disk). EndsBelow seal size (standing w more_at) d x) (stood_disk t) has.0 in
          (record { owes = below.owes; held = below.held; kept = below.kept; wanted = below.wanted; less = below.less }, has.1, ended_read t x.section has.2));
      damaged = λ t k is. (let has = (step.damaged t k is).damage in record {
        damage = record { section = has.section; position = has.position; near = has.near; free = has.free; floor = has.floor; within = has.within; page = has.page };
        ends = ended_read t has.section (step.damaged t k is).ends;
      });
      refused = λ t e is. (let has = subst (λ (d : Disk). Refuses seal size refusal (standing w more_at) new d (disk c) e) (stood_disk t) (step.refused t e is) in record {
        section = has.section;
        position = has.position;
        left = (left_read (disk a) has.section has.position).0 has.left;
        first = λ x y l. has.first x y ((left_read (disk a) x y).1 l);
        refused = has.refused;
        covered = has.covered;
        rest = λ x y. (λ l. (let was = (has.rest x y).0 l in ((left_read (disk a) x y).0 was.0, was.1)), λ l. (has.rest x y).1 ((left_read (disk a) x y).1 l.0, l.1));
      });
      ends = λ is. elim (step.ends is) [ inl end ↦ inl end | inr failed ↦ inr (elim failed [ inl damage ↦ inl damage | inr has ↦ inr (failed_since result few some many le has) ]) ];
      ends_cut = λ is. elim (step.ends_cut is) [
        | inl end ↦ inl end
        | inr has ↦ inr (record {
          section = has.section;
          near = has.near;
          owes = has.owes;
          longer = λ t. subst (λ (d : Disk). length (kept_bytes seal size (standing w more_at) d has.section) / size * size < section_size w.journal.sections has.section) (stood_disk t) (has.longer t);
          given = λ t x y l. has.given t x y (subst (λ (d : Disk). IsLeft seal size (standing w more_at) d x y) (sym (stood_disk t)) ((left_read (disk a) x y).1 l));
        })
      ];
      moments = λ t. always_then a b c (Each (Replaying seal size (standing w r) (disk a)))
          (always_weaker a b (λ x. x ≡ disk a) (Each (Replaying seal size (standing w r) (disk a)))
          (λ x is q. subst (λ (d : Disk). Replaying seal size (standing w r) (disk a) q (d q)) (sym is) (replaying_start seal size (standing w r) (disk a) q)) (stood t))
          (always_weaker b c (Each (Replaying seal size (standing w more_at) (disk b))) (Each (Replaying seal size (standing w r) (disk a)))
          (λ x each q. replaying_read (disk a) q (x q) (subst (λ (d : Disk). Replaying seal size (standing w more_at) d q (x q)) (stood_disk t) (each q))) (step.moments t));
      entries = λ q never. step.entries q (λ k. never (k.0, k.1, k.2)) ∙ entries q (λ is. never (r.section, (some_there (w.journal.sections.held r.section) (here r before (disk a) was).0 (here r before (disk a) was).1, inr refl), is));
      once = once_read result unread step.once;
      faults = omega (arith, le, step.faults);
      cause = cause_read result step.cause;
    }
      where
        goes_read : (x : Result (Option (ℕ × ℕ × V)) Error) → OnOk x (GoesOn (standing w more_at) new) → OnOk x (GoesOn (standing w r) new)
        goes_read (Ok y) has = record { failed = has.failed; ended = has.ended; held = has.held; known = has.known }
        goes_read (Err y) has = has

        later_read : told → (x : Result (Option (ℕ × ℕ × V)) Error) → OnOk x (LeavesNoMore seal size (standing w more_at) new (disk b) (disk c)) → OnOk x (LeavesNoMore seal size (standing w r) new (disk a) (disk c))
        later_read t (Ok y) has = λ q x is. replaying_read (disk a) q x (subst (λ (d : Disk). Replaying seal size (standing w more_at) d q x) (stood_disk t) (has q x is))
        later_read t (Err y) has = tt

        ended_read : told → (s : ℕ) → IsEndedAt seal size (standing w more_at) new (disk b) (disk c) s → IsEndedAt seal size (standing w r) new (disk a) (disk c) s
        ended_read t s has = ended_back seal size (standing w r) (standing w more_at) new (disk a) (disk a) (disk c) s (left_read (disk a))
            (subst (λ (d : Disk). IsEndedAt seal size (standing w more_at) new d (disk c) s) (stood_disk t) has)

        stops_read : told → (x : Result (Option (ℕ × ℕ × V)) Error) → OnErr x (Stops seal size (standing w more_at) new (disk b) (disk c)) → OnErr x (Stops seal size (standing w r) new (disk a) (disk c))
        stops_read t (Ok y) has = has
        stops_read t (Err y) has =
            record {
              rest = elim has.rest [
                | inl end ↦ inl end
                | inr some ↦ inr (some.0, ended_read t some.0 some.1)
              ];
            }

        once_read : (x : Result (Option (ℕ × ℕ × V)) Error) → OnOk x (ReadsOnce (standing w r) (standing w more_at) before after) → OnOk x (ReadsOnce (standing w more_at) new after last) → OnOk x (ReadsOnce (standing w r) new before last)
        once_read (Ok y) read has = λ t held. omega (arith, has t held, read t held)
        once_read (Err y) read has = tt

        cause_read : (x : Result (Option (ℕ × ℕ × V)) Error) → OnErr x (IsErrOf x (ItemOutOfRange w.start_position) ⊎ (IsBelowFloor x ⊎ HasNotRead x some many)) → OnErr x (IsErrOf x (ItemOutOfRange w.start_position) ⊎ (IsBelowFloor x ⊎ HasNotRead x few many))
        cause_read (Ok y) has = has
        cause_read (Err y) has = elim has [
          | inl start ↦ inl start
          | inr (inl below) ↦ inr (inl below)
          | inr (inr failed) ↦ inr (inr (not_read_since (Err y) few some many le failed))
        ]

  -- The replay stands at r, and w stands nowhere.
  module _ (r : Place) (opened : OpenedList) (now : Timeline) (was : IsWalk g gives seal size told (standing w r) opened (disk now)) where
    not_ahead_here : IsAhead w r.section → ⊥
    not_ahead_here = (was.walk.come_to r refl).1

    -- what is ahead is behind the section
    pub ahead_here : (t : ℕ) → IsAhead w t → r.section < t
    ahead_here t ahead = elim (cases_lt r.section t) [
      | inl lt ↦ lt
      | inr le ↦ absurd (not_ahead_here (ahead_from w.next_section t r.section le ahead))
    ]

    pub number_here : r.section < 2 ^ 64
    number_here = was.over.opened_list.number r.section (inl held_here)
      where
        held_here : IsHeld w.journal.sections r.section
        held_here = some_there (w.journal.sections.held r.section) (here r opened (disk now) was).0 (here r opened (disk now) was).1

    pub reached_here : IsReached seal size r.section (standing w r)
    reached_here = record { held = some_there (w.journal.sections.held r.section) (here r opened (disk now) was).0 (here r opened (disk now) was).1; near = inr refl }

    pub behind_here : (new : Walk F (PageBlob S gs)) → new.next_section ≡ w.next_section → IsBehind seal size r.section (standing w r) new
    behind_here new next = record {
      in_old = λ t is. sym is;
      ahead = λ t small. (
        λ h. (let ahead : IsAhead w t = subst (λ (o : Option ℕ). IsSomeAnd o (λ n. n ≤ t)) next h in (ahead, ahead_here t ahead)),
        λ h. subst (λ (o : Option ℕ). IsSomeAnd o (λ n. n ≤ t)) (sym next) h.0,
      );
      later = λ t held ahead other. ahead_here t ahead;
    }

    -- No call was made.
    module _ {V : Type 0} (spelling : V → List ℕ) (accepted : V → Unit {0} → Type 0) (refusal : List ℕ → Unit {0} → Option codec.Error) (none : w.place ≡ None) (few many : ℕ) (le : few ≤ many) where
      pub no_call : Called {V = V} seal size g gives spelling accepted refusal told r.section (standing w r) w opened opened now now few many
      no_call = record {
        was = was;
        one = record {
          same = record { bounds = record { place = record { partition = refl; factory = refl }; floor = refl; ceiling = refl }; unrecovered = λ s. refl; floors = λ s. refl; section = refl; position = refl };
          small = number_here;
          numbers = λ q held. was.over.opened_list.number q (inl held);
          others = λ q other. record { held = refl; unopened = refl };
          blobs = λ t q other. refl;
        };
        behind = behind_here w refl;
        reached = reached_here;
        over = was.over;
        entries = λ q other. refl;
        moments = λ t. always_start now (Each (Replaying seal size (standing w r) (disk now))) (λ q. replaying_start seal size (standing w r) (disk now) q);
        from = was.walk.from_start;
        faults = le;
      }

      nearer_none : way_of w < way_of (standing w r)
      nearer_none = omega (arith, ap bytes_ahead none)

      -- The section's reading failed.
      pub read_failed : (x : Error) → ((p : ℕ) → x ≡ ItemOutOfRange p → ⊥) → (told → (k : ℕ) → x ≡ Runtime (InvalidChecksum k) → EndsDamaged seal size (standing w r) w (disk now) (disk now) k)
          → (told → (e : codec.Error) → x ≡ Codec e → Refuses seal size refusal (standing w r) w (disk now) (disk now) e) → HasNotRead {T = Option (ℕ × ℕ × V)} (Err x) few many
          → Steps seal size g gives spelling accepted refusal told (Err x) (standing w r) w opened opened now now few many
      read_failed x other found refuses cause = call_failed seal size g gives spelling accepted refusal told r.section (standing w r) w opened opened now now few many no_call nearer_none x (inr (refl, refl)) (λ going owed. refl) none (λ t h. h) (inr refl) other found refuses cause

      -- Its whole items end below its floor.
      pub floor_refused : (x : Damage) → (told → EndsBelow seal size (standing w r) (disk now) x) → x.section ≡ r.section → Steps seal size g gives spelling accepted refusal told (Err (Corruption x)) (standing w r) w opened opened now now few many
      floor_refused x below at = call_stopped seal size g gives spelling accepted refusal told r.section (standing w r) w opened opened now now few many no_call nearer_none (Corruption x) (inr (refl, refl)) (λ going owed. refl) none (λ t h. h) (inr refl) (λ p is. absurd (cc is))
          (λ t y is. (let same : x ≡ y = cc is in subst (λ (z : Damage). EndsBelow seal size (standing w r) (disk now) z × (IsAhead (standing w r) z.section ⊎ IsIn (standing w r) z.section) × IsEndedAt seal size (standing w r) w (disk now) (disk now) z.section) same
          (below t, inr (sym at), subst (λ (k : ℕ). IsEndedAt seal size (standing w r) w (disk now) (disk now) k) (sym at) (ended_here seal size w r (disk now) none not_ahead_here))))
          (λ t k is. absurd (cc is)) (λ t e is. absurd (cc is)) (inl (x, refl))

      -- The section is at its end, and was not cut.
      not_cut : (told → EndsAt seal size (standing w r) (disk now) r false) → Answered seal size g gives spelling accepted refusal told r.section (standing w r) w opened opened now now few many no_call (here r opened (disk now) was).0
      not_cut ends =
          let h = here r opened (disk now) was in
          record {
            again = record {
              held = h.1;
              not_ahead = not_ahead_here;
              settled = λ owed. was.walk.owes_settled.settled r.section h.0 h.1 owed;
              sealed = λ t proven. (was.disk t).sealed.sealed r.section h.0 h.1 proven;
              whole = λ t free. (was.disk t).sealed.whole r.section h.0 h.1 free;
              gone_over = λ t out read. (ends t).whole refl read h.0 h.1;
              place = λ x is. absurd (cc (none, is));
              begun = λ there. absurd (none_in w.place (λ x. x.section ≡ r.section) none there);
            };
            failed = refl;
            ended = refl;
            bytes = λ u held free. same_bytes told u h.0 (disk now (key_of w.journal.sections r.section)) (disk now (key_of w.journal.sections r.section)) (same_some (w.journal.sections.held r.section) u h.0 held h.1) (λ t. refl);
            cut = λ u held. same_or_cut (w.journal.floor_of r.section) u h.0 (same_some (w.journal.sections.held r.section) u h.0 held h.1);
            items = λ t u held owed. same_items seal u.page_size size (disk now (key_of w.journal.sections r.section)) (disk now (key_of w.journal.sections r.section)) refl;
            later = λ t q x is. record { flushed = is.flushed; prefix = is.prefix; cut = is.cut; still = is.still; others = λ never. is.others (λ k. absurd_near never k.0 k.1.0 k.1.1 k.2) };
          }
        where
          absurd_near : {q : Key} → (IsKeyOf w.journal.sections (λ s. IsHeld w.journal.sections s × (IsAhead w s ⊎ IsIn (standing w r) s)) q → ⊥) → (s : ℕ) → IsHeld w.journal.sections s → IsAhead w s ⊎ IsIn w s → q ≡ key_of w.journal.sections s → ⊥
          absurd_near never s held (inl ahead) is = never (s, (held, inl ahead), is)
          absurd_near never s held (inr there) is = none_in w.place (λ x. x.section ≡ s) none there

      pub end_uncut : 1 ≤ size → (told → EndsAt seal size (standing w r) (disk now) r false) → (r.section ≡ w.start_section → w.start_position ≤ r.position)
          → Steps seal size g gives spelling accepted refusal told (Ok None) (standing w r) w opened opened now now few many
      end_uncut pos ends begun = call_ended seal size g gives spelling accepted refusal told r.section (standing w r) w opened opened now now few many no_call (here r opened (disk now) was).0 (not_cut ends) r refl refl none refl pos
          (λ at. omega (arith, mul-le w.start_position size r.position size (begun at) (omega arith), (here r opened (disk now) was).2.within)) (λ t. (ends t).last) (omega arith)

      pub end_refused : 1 ≤ size → (told → EndsAt seal size (standing w r) (disk now) r false) → r.section ≡ w.start_section → r.position < w.start_position
          → Steps seal size g gives spelling accepted refusal told (Err (ItemOutOfRange w.start_position)) (standing w r) w opened opened now now few many
      end_refused pos ends = call_refused seal size g gives spelling accepted refusal told r.section (standing w r) w opened opened now now few many no_call (here r opened (disk now) was).0 (not_cut ends) r refl refl none refl pos (λ t. (ends t).last)

    -- An item is at hand.
    module _ (pos : 1 ≤ size) (has : size ≤ length r.reader.bytes) (within : next_of r.reader ≤ r.reader.size) where
      stands_item : StandsIn size (standing w (after_item size r)) (after_item size r) (here r opened (disk now) was).0
      stands_item = let h = (here r opened (disk now) was).2 in record {
        key = h.key;
        page_size = h.page_size;
        end = h.end;
        blob_size = h.blob_size;
        flushed = h.flushed;
        at = omega (arith, h.at, times_next r.position size);
        within = omega (arith, h.at, times_next r.position size, h.blob_size, within, has);
        begun = λ free. omega (arith, h.begun free);
      }

      reads_item : told → ReadsIn seal (standing w (after_item size r)) (disk now) (after_item size r) (here r opened (disk now) was).0
      reads_item t = let h = reads_here r opened (disk now) was t in record {
        replays = advanced seal (disk now (key_of w.journal.sections r.section)).content size r.reader has h.replays;
        checked = λ read. (let same : r.reader.at + length r.reader.bytes ≡ r.reader.at + size + length (drop size r.reader.bytes) = omega (arith, has, length-drop size r.reader.bytes) in
            subst (λ (n : ℕ). IsCovered seal (here r opened (disk now) was).0.page_size (disk now (key_of w.journal.sections r.section)).content 0 n) same (h.checked (elim read [ inl owed ↦ inl owed | inr first ↦ inr first ])));
      }

      walk_item : IsWalk g gives seal size told (standing w (after_item size r)) opened (disk now)
      walk_item = record {
        over = was.over;
        walk = record {
          owes_settled = was.walk.owes_settled;
          owes_held = was.walk.owes_held;
          place = λ x is. (let at : after_item size r ≡ x = cc is in
              subst (λ (y : Place). IsSomeAnd (w.journal.sections.held y.section) (StandsIn size (standing w (after_item size r)) y)) at
              (some_and (StandsIn size (standing w (after_item size r)) (after_item size r)) (w.journal.sections.held r.section) (here r opened (disk now) was).0 (here r opened (disk now) was).1 stands_item));
          come_to = λ x is. (let at : after_item size r ≡ x = cc is in
              subst (λ (y : Place). (w.start_section ≤ y.section) × (IsAhead w y.section → ⊥)) at (was.walk.come_to r refl));
          from_start = was.walk.from_start;
          start_within = was.walk.start_within;
          start_kept = λ fine gone. was.walk.start_kept fine (record { begun = gone.begun; not_ahead = gone.not_ahead; not_in = λ there. gone.not_in there });
          ends = was.walk.ends;
        };
        disk = λ t. (let is = was.disk t in record {
          sealed = is.sealed;
          gone_over = λ fine q u held over read. is.gone_over fine q u held (record { begun = over.begun; not_ahead = over.not_ahead; not_in = λ there. over.not_in there }) (elim read [ inl owed ↦ inl owed | inr first ↦ inr first ]);
          unopened = is.unopened;
          place = λ x here_x. (let at : after_item size r ≡ x = cc here_x in
              subst (λ (y : Place). IsSomeAnd (w.journal.sections.held y.section) (ReadsIn seal (standing w (after_item size r)) (disk now) y)) at
              (some_and (ReadsIn seal (standing w (after_item size r)) (disk now) (after_item size r)) (w.journal.sections.held r.section) (here r opened (disk now) was).0 (here r opened (disk now) was).1 (reads_item t)));
        });
      }

      bytes_here : told → r.reader.bytes ≡ data_from (here r opened (disk now) was).0.page_size (view (disk now (key_of w.journal.sections r.section)).content) r.reader.at (length r.reader.bytes)
      bytes_here t = subst (λ (P : ℕ). r.reader.bytes ≡ data_from P (view (disk now (key_of w.journal.sections r.section)).content) r.reader.at (length r.reader.bytes)) (here r opened (disk now) was).2.page_size (reads_here r opened (disk now) was t).replays.bytes

      -- no page more, and none less
      unread_item : unread_of (after_item size r).reader ≡ unread_of r.reader
      unread_item =
          let e : r.reader.at + size + length (drop size r.reader.bytes) ≡ r.reader.at + length r.reader.bytes = omega (arith, has, length-drop size r.reader.bytes) in
          ap (λ (n : ℕ). r.reader.size / r.reader.page_size - next_missing r.reader.piece (n / r.reader.page_size)) e

      not_before : (x q : ℕ) → StandsBefore x q r.section r.position → r.section < x → ⊥
      not_before x q before lt = elim before [ inl less ↦ omega (arith, less, lt) | inr same ↦ omega (arith, same.0, lt) ]

      goes_item : GoesOn (standing w r) (standing w (after_item size r))
      goes_item = record { failed = refl; ended = refl; held = λ s. (λ h. h, λ h. h); known = λ s. refl }

      whole_item : told → r.position < length (kept_bytes seal size (standing w r) (disk now) r.section) / size
      whole_item t =
          let long = long_here r opened (disk now) was t within in
          omega (
            arith,
            le-div (r.position + 1) (length (kept_bytes seal size (standing w r) (disk now) r.section)) size (omega (arith, pos))
                (omega (arith, times_next r.position size, long, (here r opened (disk now) was).2.at, has)),
          )

      same_walk : SameWalk (standing w r) (standing w (after_item size r))
      same_walk = record { bounds = record { place = record { partition = refl; factory = refl }; floor = refl; ceiling = refl }; unrecovered = λ s. refl; floors = λ s. refl; section = refl; position = refl }

      nearer_item : way_of (standing w (after_item size r)) < way_of (standing w r)
      nearer_item = omega (arith, pos, has, within)

      passed_item : r.position < first_of w r.section → Carries seal size (standing w r) (standing w (after_item size r)) (disk now) (disk now)
      passed_item less = record {
        left = λ t q. (
          λ l. record { goes_on = l.goes_on; begun = l.begun; whole = l.whole; ahead = elim l.ahead [ inl a ↦ inl a | inr there ↦ inr (there.0, omega (arith, there.1)) ] },
          λ l. record {
            goes_on = l.goes_on;
            begun = l.begun;
            whole = l.whole;
            ahead = elim l.ahead [
              | inl a ↦ inl a
              | inr there ↦ (let first : first_of w t ≤ q = l.begun in
                  inr (there.0, omega (arith, less, first, ap (first_of w) there.0)))
            ];
          },
        );
        kept = λ s h. refl;
        sizes = λ s h. refl;
      }

      later_item : LeavesNoMore seal size (standing w r) (standing w (after_item size r)) (disk now) (disk now)
      later_item q x is = record { flushed = is.flushed; prefix = is.prefix; cut = is.cut; still = is.still; others = λ never. is.others (λ k. never (k.0, k.1, k.2)) }

      left_item : w.ended ≡ false → first_of w r.section ≤ r.position → told → IsLeft seal size (standing w r) (disk now) r.section r.position
      left_item going first t = record { goes_on = going; begun = first; whole = whole_item t; ahead = inr (refl, omega arith) }

      covered_item : told → IsFromCovered seal size w (disk now) r.section r.position
      covered_item t =
          let h = here r opened (disk now) was in
          let c = (disk now (key_of w.journal.sections r.section)).content in
          let covers : IsCovered seal h.0.page_size c r.reader.at (length r.reader.bytes) = subst (λ (P : ℕ). IsCovered seal P c r.reader.at (length r.reader.bytes)) h.2.page_size (reads_here r opened (disk now) was t).replays.covered in
          some_and (λ (v : PageBlob S gs). IsCovered seal v.page_size c (r.position * size) size) (w.journal.sections.held r.section) h.0 h.1 (λ k wanted.
          omega (arith, h.2.at, has, covers k (record { some = omega (arith, pos, has); low = omega (arith, wanted.low, h.2.at); high = omega (arith, wanted.high, h.2.at, has) })))

      first_item : (x q : ℕ) → IsLeft seal size (standing w r) (disk now) x q → StandsBefore x q r.section r.position → ⊥
      first_item x q l before = elim l.ahead [
        | inl a ↦ not_before x q before (ahead_here x a.1)
        | inr there ↦ elim before [ inl lt ↦ omega (arith, lt, there.0) | inr same ↦ omega (arith, same.1, there.1) ]
      ]

      module _ (adopt : (u : PageBlob S gs) (b : Blob) → g.Stands u b → IsAdopted seal (shown u) b) where
        bytes_item : told → take size r.reader.bytes ≡ item_at size (kept_bytes seal size (standing w r) (disk now) r.section) r.position
        bytes_item t =
            item_kept seal (here r opened (disk now) was).0.page_size (disk now (key_of w.journal.sections r.section)).content (omega (arith, (here r opened (disk now) was).0.fit.begun)) (kept_bytes seal size (standing w r) (disk now) r.section) (kept_data r opened (disk now) was adopt t)
            size r.position r.reader.at r.reader.bytes (bytes_here t) (here r opened (disk now) was).2.at has (long_here r opened (disk now) was t within)

      module _ {V : Type 0} (spelling : V → List ℕ) (accepted : V → Unit {0} → Type 0) (refusal : List ℕ → Unit {0} → Option codec.Error) (going : w.ended ≡ false) (adopt : (u : PageBlob S gs) (b : Blob) → g.Stands u b → IsAdopted seal (shown u) b) where
        given_item : (v : V) → first_of w r.section ≤ r.position → IsItem spelling accepted (take size r.reader.bytes) v → told → Gives seal size spelling accepted (standing w r) (standing w (after_item size r)) (disk now) (disk now) r.section r.position v
        given_item v first item t = record {
          left = left_item going first t;
          first = first_item;
          item = subst (λ (bytes : List ℕ). IsItem spelling accepted bytes v) (bytes_item adopt t) item;
          covered = covered_item t;
          rest = λ x q. (
            λ l. elim l.ahead [
              | inl a ↦ (record { goes_on = l.goes_on; begun = l.begun; whole = l.whole; ahead = inl a }, inl (ahead_here x a.1))
              | inr there ↦ (record { goes_on = l.goes_on; begun = l.begun; whole = l.whole; ahead = inr (there.0, omega (arith, there.1)) }, inr (there.0, omega (arith, there.1)))
            ],
            λ l. record {
              goes_on = l.0.goes_on;
              begun = l.0.begun;
              whole = l.0.whole;
              ahead = elim l.0.ahead [
                | inl a ↦ inl a
                | inr there ↦ inr (there.0, elim l.1 [ inl lt ↦ absurd (omega (arith, lt, there.0)) | inr same ↦ omega (arith, same.1) ])
              ];
            },
          );
        }

        refuses_item : w.place ≡ None → (few many : ℕ) → few ≤ many → (e : codec.Error) → first_of w r.section ≤ r.position → refusal (take size r.reader.bytes) tt ≡ Some e → told → Refuses seal size refusal (standing w r) w (disk now) (disk now) e
        refuses_item none few many le e first is t = (let call = no_call spelling accepted refusal none few many le in record {
          section = r.section;
          position = r.position;
          left = left_item going first t;
          first = first_item;
          refused = ap (λ (bytes : List ℕ). refusal bytes tt) (sym (bytes_item adopt t)) ∙ is;
          covered = covered_item t;
          rest = left_later seal size r.section (standing w r) w (disk now) (disk now) call.one call.behind none t refl;
        })

        -- The step over it: it is given, unless it stands before the start or is none.
        pub item_steps : (none : w.place ≡ None) (few many : ℕ) (le : few ≤ many) (result : Result (Option (ℕ × ℕ × V)) Error) (new : Walk F (PageBlob S gs))
            → ((s p : ℕ) (v : V) → result ≡ Ok (Some (s, p, v)) → (s ≡ r.section) × (p ≡ r.position) × (first_of w r.section ≤ r.position) × IsItem spelling accepted (take size r.reader.bytes) v)
            → (result ≡ Ok None → r.position < first_of w r.section) → OnOk result (new ≡ standing w (after_item size r)) → OnErr result (new ≡ w)
            → OnErr result (((e : codec.Error) × IsErrOf result (Codec e)) ⊎ IsErrOf result Mem)
            → ((e : codec.Error) → IsErrOf result (Codec e) → (first_of w r.section ≤ r.position) × (refusal (take size r.reader.bytes) tt ≡ Some e))
            → Steps seal size g gives spelling accepted refusal told result (standing w r) new opened opened now now few many
        item_steps none few many le (Err x) new given skipped goes stays cause refused =
            subst (λ (n : Walk F (PageBlob S gs)). Steps seal size g gives spelling accepted refusal told (Err x) (standing w r) n opened opened now now few many) (sym stays)
            (read_failed spelling accepted refusal none few many le x (λ p is. elim cause [ inl code ↦ absurd (cc (code.1, is)) | inr mem ↦ absurd (cc (mem, is)) ])
            (λ t k is. elim cause [ inl code ↦ absurd (cc (code.1, is)) | inr mem ↦ absurd (cc (mem, is)) ])
            (λ t e is. refuses_item none few many le e (refused e (ap Err is)).0 (refused e (ap Err is)).1 t)
            (elim cause [ inl code ↦ inr (inl code) | inr mem ↦ inr (inr (inl mem)) ]))
        item_steps none few many le (Ok o) new given skipped goes stays cause refused =
            subst (λ (n : Walk F (PageBlob S gs)). Steps seal size g gives spelling accepted refusal told (Ok o) (standing w r) n opened opened now now few many) (sym goes)
            (record {
              over = walk_item;
              broken = tt;
              goes = goes_item;
              same = same_walk;
              nearer = nearer_item;
              onward = λ t h. h;
              stays = λ s none. (none, (λ h. h, λ h. h));
              floors = λ s u v held now_held. same_or_cut (w.journal.floor_of s) u v (same_some (w.journal.sections.held s) u v held now_held);
              items = λ t going s u held owed. same_items seal u.page_size size (disk now (key_of w.journal.sections s)) (disk now (key_of w.journal.sections s)) refl;
              later = λ t. later_item;
              bytes = λ q u v held now_held free. same_bytes told u v (disk now (key_of w.journal.sections q)) (disk now (key_of w.journal.sections q)) (same_some (w.journal.sections.held q) u v held now_held) (λ t. refl);
              carries = λ t is. passed_item (skipped is);
              item = λ t s p v is. (let f = given s p v is in
                  subst (λ (x : ℕ). Gives seal size spelling accepted (standing w r) (standing w (after_item size r)) (disk now) (disk now) x p v) (sym f.0)
                  (subst (λ (y : ℕ). Gives seal size spelling accepted (standing w r) (standing w (after_item size r)) (disk now) (disk now) r.section y v) (sym f.1) (given_item v f.2 f.3 t)));
              stops = λ t. tt;
              start = λ t p is. absurd (cc is);
              damage = λ t x is. absurd (cc is);
              damaged = λ t k is. absurd (cc is);
              refused = λ t e is. absurd (cc is);
              ends = λ is. inl is;
              ends_cut = λ is. inl is;
              moments = λ t. always_start now (Each (Replaying seal size (standing w r) (disk now))) (λ q. replaying_start seal size (standing w r) (disk now) q);
              entries = λ q never. refl;
              once = λ t held. omega (arith, count_same w r (after_item size r) t refl unread_item);
              faults = le;
              cause = tt;
            })
