-- A replay of a pair after some calls of `next`, from what they did to the walk over its records: it may be used as before.
use Rattle.std.specs.Prelude.{◌≡◌, ◌⊎◌, ◌↔◌, ℕ, ◌-◌, ◌*◌, ◌/◌, ◌^◌, ◌<◌, ◌≤◌, cond, Bool, true, false, List, [], ◌∷◌, length, get_or, Option, None, Some}
use Rattle.std.proofs.Common.{inl, inr, refl, sym, ◌∙◌, ap, subst, arith}
use Rattle.std.proofs.lemmas.List.{take_all}
use Rattle.blob_device.specs.Disk.{Key, Blob, MayLeave, past, reads}
use Rattle.blob_device.specs.Opened.{OpenedList}
use Rattle.blob_device.specs.Timeline.{Timeline, disk, Each}
use Rattle.blob_device.specs.lemmas.Moments.{always_now}
use Rattle.sealed_pages.specs.declared.page_blob.PageBlob.{PageBlob}
use Rattle.sealed_pages.specs.ChanceSeal.{NoChanceSeal, Leaves}
use Rattle.sealed_pages.specs.Cutting.{StandsSettled}
use Rattle.sealed_pages.specs.SealedPrefix.{sealed_prefix, Prefix}
use Rattle.section_manager.specs.declared.buffer.SectionBuffer as buffer
use Rattle.section_manager.specs.declared.unsealed.WriteFactory.{WriteFactory}
use Rattle.section_manager.specs.SealedLaws.{no_chance}
use Rattle.section_manager.specs.Sections.{section_key, key_of, IsHeld}
use Rattle.section_manager.specs.Setting.{Setting}
use Rattle.segments.specs.FixedLists.{section_size, size_held}
use Rattle.segments.specs.FixedReplay.{Walk, IsAhead, IsIn, IsWalk, Replaying, kept_of, kept_bytes}
use Rattle.paired.specs.lemmas.Glob.{buffers}
use Rattle.paired.specs.lemmas.next.Went.{Went}
use Rattle.paired.specs.lemmas.pair.Synced.{Here}
use Rattle.segments.specs.lemmas.adding.Write.{ArePages}
use Rattle.meta_store.specs.Blobs.{blob_of}
use Rattle.meta_store.specs.declared.error.Side.{Side}
use Rattle.paired.specs.glob.Sections.{IsGlob}
use Rattle.paired.specs.glob.Sections as glob
use Rattle.paired.specs.Kept.{IsMarked}
use Rattle.paired.specs.OpeningRefusing.{place_end}
use Rattle.paired.specs.Pair.{AreWhole, AreMarkers, HasSettled, synced_length}
use Rattle.paired.specs.Records.{records}
use Rattle.paired.specs.Replaying.{Limits, Run, pair_of, HasLostNone, marker, records_over, IsChecked, IsVouchedFor, IsOpeningRun, IsLiveRun, IsRun}
use Rattle.paired.proofs.next.Went.{none_as}
use Rattle.paired.proofs.pair.Removing.{opened_stays}
use Rattle.paired.proofs.pair.Sections.{other_partition}
use Rattle.paired.proofs.pair.Synced.{store_stays}
use Rattle.paired.specs.lemmas.Records.{records-prefix, records-enough, length-records}
use Rattle.meta_store.specs.Store.{contents_of}
use Rattle.blob_device.proofs.general.Options.{none_or_value, some_of, some_there}
use Rattle.paired.specs.lemmas.next.Running.{moved}

-- A blob that has settled, and was left as a replay may leave it, has the records that it had.
pub rest_records : (seal : List ℕ → ℕ) (P size floor : ℕ) (from b : Blob) → 1 ≤ size → StandsSettled b → MayLeave b (reads b)
    → (b ≡ from) ⊎ ((floor ≤ length (sealed_prefix seal P from.content) / size * size) × Leaves seal P (sealed_prefix seal P from.content) (length (sealed_prefix seal P from.content) / size * size) b)
    → records size (sealed_prefix seal P b.content) ≡ records size (sealed_prefix seal P from.content)
rest_records seal P size floor from b pos rest may (inl same) = ap (λ (x : Blob). records size (sealed_prefix seal P x.content)) same
rest_records seal P size floor from b pos rest may (inr cut) =
    let here : reads b ≡ Some b.content = ap (λ (there : Bool). cond there (Some b.content) None) (ap (λ (x : Blob). x.there) rest) in
    let had : past b ≡ b.content ∷ [] = ap past rest in
    let first : NoChanceSeal seal P (b.content ∷ []) b.content = no_chance seal P (b.content ∷ []) b.content (0, omega arith, refl) in
    let left : Prefix seal P (sealed_prefix seal P from.content) (length (sealed_prefix seal P from.content) / size * size) b.content =
    cut.1 (Some b.content) (subst (MayLeave b) here may) (subst (λ (cs : List (List ℕ)). NoChanceSeal seal P cs b.content) (sym had) first) in
    let whole : length (records size (sealed_prefix seal P from.content)) ≡ length (sealed_prefix seal P from.content) / size = length-records size (sealed_prefix seal P from.content) in
    let enough : length (sealed_prefix seal P from.content) / size ≤ length (records size (sealed_prefix seal P b.content)) =
    records-enough size (length (sealed_prefix seal P from.content) / size) (sealed_prefix seal P b.content) pos left.no_shorter in
    records-prefix size (sealed_prefix seal P from.content) (sealed_prefix seal P b.content) pos left.is left.no_longer
    ∙ take_all (length (records size (sealed_prefix seal P b.content))) (records size (sealed_prefix seal P from.content)) (omega (arith, whole, enough))

module _ {F S : Type 0} {gs : _} (g : buffer.Ghosts (PageBlob S gs)) (gives : F → Setting) {takes : WriteFactory → Setting} (told : Type 0) (run : Run F (PageBlob S gs)) (pages : ArePages g run.layout.seal)
    (before : OpenedList) (a : Timeline) (here : Here gives (pair_of run)) (was : IsRun run g gives buffers takes told before (disk a)) where
  -- The walk has come to w.
  module _ (w : Walk F (PageBlob S gs)) (opened : OpenedList) (c : Timeline) (went : Went run.layout.seal run.layout.record_size g told run.walk w a c)
      (walk : IsWalk g gives run.layout.seal run.layout.record_size told w opened (disk c)) where
    pub now_key : (s : ℕ) → key_of w.journal.sections s ≡ key_of run.walk.journal.sections s
    now_key s = ap (λ (p : List ℕ). section_key p s) went.same.bounds.place.partition

    pub still_known : (s : ℕ) → IsHeld w.journal.sections s → IsHeld w.journal.sections s ↔ IsHeld run.walk.journal.sections s
    still_known s held = (went.stays s (walk.over.opened_list.apart s held)).1

    -- the buffer that a section had
    pub had : (s : ℕ) (z : PageBlob S gs) → w.journal.sections.held s ≡ Some z → (u : PageBlob S gs) × (run.walk.journal.sections.held s ≡ Some u)
    had s z held = (let is = some_there (w.journal.sections.held s) z held in some_of (run.walk.journal.sections.held s) ((still_known s is).0 is))

    -- ---- what is told
    module _ (t : told) (readable : (q : Key) → MayLeave (disk c q) (reads (disk c q))) where
      at_end : (q : Key) → Replaying run.layout.seal run.layout.record_size run.walk (disk a) q (disk c q)
      at_end = always_now a c (Each (Replaying run.layout.seal run.layout.record_size run.walk (disk a))) (went.moments t)

      kept_here : (s : ℕ) (z u : PageBlob S gs) → w.journal.sections.held s ≡ Some z → run.walk.journal.sections.held s ≡ Some u → (owes : Bool) → run.walk.journal.unrecovered s ≡ owes
          → records run.layout.record_size (kept_of run.layout.seal owes (Some z) (disk c (key_of run.walk.journal.sections s)).content)
          ≡ records run.layout.record_size (kept_of run.layout.seal owes (Some u) (disk a (key_of run.walk.journal.sections s)).content)
      kept_here s z u now then false free = ap (records run.layout.record_size) ((went.bytes s u z then now free).bytes t)
      kept_here s z u now then true owed =
          let q : Key = key_of run.walk.journal.sections s in
          let settled = walk.walk.owes_settled.settled s z now (went.same.unrecovered s ∙ owed) in
          let rest : StandsSettled (disk c q) = subst (λ (k : Key). StandsSettled (disk c k)) (now_key s) ((pages.stands z (disk c (key_of w.journal.sections s)) ((walk.over.disk t).stands s z now)).rest settled) in
          ap (λ (P : ℕ). records run.layout.record_size (sealed_prefix run.layout.seal P (disk c q).content)) (went.floors s u z then now).page_size
          ∙ rest_records run.layout.seal u.page_size run.layout.record_size (run.walk.journal.floor_of s) (disk a q) (disk c q) here.some rest (readable q) ((at_end q).cut s u then owed refl)

      -- a section that is held has the records that it had
      pub records_held : (s : ℕ) → IsHeld w.journal.sections s → records run.layout.record_size (kept_bytes run.layout.seal run.layout.record_size w (disk c) s) ≡ records_over run (disk a) s
      records_held s held =
          let z = some_of (w.journal.sections.held s) held in
          let u = had s z.0 z.1 in
          ap (λ (o : Bool). records run.layout.record_size (kept_of run.layout.seal o (w.journal.sections.held s) (disk c (key_of w.journal.sections s)).content)) (went.same.unrecovered s)
          ∙ ap (λ (k : Key). records run.layout.record_size (kept_of run.layout.seal (run.walk.journal.unrecovered s) (w.journal.sections.held s) (disk c k).content)) (now_key s)
          ∙ ap (λ (o : Option (PageBlob S gs)). records run.layout.record_size (kept_of run.layout.seal (run.walk.journal.unrecovered s) o (disk c (key_of run.walk.journal.sections s)).content)) z.1
          ∙ kept_here s z.0 u.0 z.1 u.1 (run.walk.journal.unrecovered s) refl
          ∙ sym (ap (λ (o : Option (PageBlob S gs)). records run.layout.record_size (kept_of run.layout.seal (run.walk.journal.unrecovered s) o (disk a (key_of run.walk.journal.sections s)).content)) u.1)

      -- any other has none
      none_kept : (owes : Bool) (content : List ℕ) (o : Option (PageBlob S gs)) → o ≡ None → kept_of run.layout.seal owes o content ≡ []
      none_kept owes content o none = ap (λ (x : Option (PageBlob S gs)). kept_of run.layout.seal owes x content) none

      pub vouched_after : IsVouchedFor run (disk a) → (ends : Limits) (ended : Option ℕ) (failed : Bool) → IsVouchedFor (moved run w ends ended failed) (disk c)
      vouched_after vouched ends ended failed = record { bounded = bounded }
        where
          bounded : (s m : ℕ) → IsMarked run.store.entries s m → 0 < m → m ≤ length (records_over (moved run w ends ended failed) (disk c) s)
              → place_end run.layout.place (get_or (records_over (moved run w ends ended failed) (disk c) s) (m - 1) []) ≤ glob.section_size run.values s
          bounded s m is some le = elim (none_or_value (w.journal.sections.held s)) [
            | inr z ↦
                let same = records_held s (some_there (w.journal.sections.held s) z.0 z.1) in
                subst (λ (rs : List (List ℕ)). place_end run.layout.place (get_or rs (m - 1) []) ≤ glob.section_size run.values s) (sym same)
                (vouched.bounded s m is some (subst (λ (rs : List (List ℕ)). m ≤ length rs) same le))
            | inl none ↦
                let empty = none_kept (w.journal.unrecovered s) (disk c (key_of w.journal.sections s)).content (w.journal.sections.held s) none in
                let count = length-records run.layout.record_size (kept_bytes run.layout.seal run.layout.record_size w (disk c) s) in
                let zero : length (kept_bytes run.layout.seal run.layout.record_size w (disk c) s) / run.layout.record_size ≡ 0 / run.layout.record_size = ap (λ (bs : List ℕ). length bs / run.layout.record_size) empty in
                absurd (omega (arith, some, le, count, zero, here.some))
          ]

    -- ---- the sizes and floors of sections
    sizes_after : (s : ℕ) → w.journal.unrecovered s ≡ false → section_size w.journal.sections s ≤ section_size run.walk.journal.sections s
    sizes_after s free = elim (none_or_value (w.journal.sections.held s)) [
      | inl none ↦ omega (arith, ap size_held none)
      | inr z ↦ (let u = had s z.0 z.1 in omega (arith, ap size_held z.1, ap size_held u.1, (went.floors s u.0 z.0 u.1 z.1).shorter))
    ]

    reached_after : ((s : ℕ) → w.journal.sections.unopened s ≡ None) → (s floor : ℕ) → run.walk.journal.floor_of s ≡ floor → floor ≤ section_size run.walk.journal.sections s → floor ≤ section_size w.journal.sections s
    reached_after known s floor is le = elim (none_or_value (w.journal.sections.held s)) [
      | inl none ↦
          let also : run.walk.journal.sections.held s ≡ None = none_as (w.journal.sections.held s) (run.walk.journal.sections.held s) none (went.stays s (known s)).1.1 in
          omega (arith, le, ap size_held also)
      | inr z ↦ (let u = had s z.0 z.1 in elim (went.floors s u.0 z.0 u.1 z.1).reached [
        | inl same ↦ omega (arith, ap size_held z.1, ap size_held u.1, same, le)
        | inr cut ↦ omega (arith, ap size_held z.1, cut, is)
      ])
    ]

    module _ (ends : Limits) (ended : Option ℕ) (failed : Bool) (earlier : w.failed ≡ false → run.walk.failed ≡ false) (known : w.failed ≡ false → (s : ℕ) → w.journal.sections.unopened s ≡ None)
        (ends_from : run.tracked ≡ true → (s p : ℕ) → ends.at s ≡ Some p → (s < 2 ^ 64) × (marker run s ≤ p)) (live : run.tracked ≡ false → (w.failed ≡ false → (s : ℕ) → w.journal.sections.unopened s ≡ run.walk.journal.sections.unopened s) × ((s : ℕ) → ends.at s ≡ run.ends.at s) × (ended ≡ run.ended_section))
        (readable : told → (q : Key) → MayLeave (disk c q) (reads (disk c q))) (checked : told → run.tracked ≡ true → IsChecked (moved run w ends ended failed) (disk c)) where
      abbrev now : Run F (PageBlob S gs)
      now = moved run w ends ended failed

      opening_after : run.tracked ≡ true → IsOpeningRun now g told (disk c)
      opening_after tracked = let old = was.opening tracked in record {
        start_section = went.same.section ∙ old.start_section;
        start_position = went.same.position ∙ old.start_position;
        index_floor = went.same.bounds.floor ∙ old.index_floor;
        values_floor = old.values_floor;
        index_ceiling = went.same.bounds.ceiling ∙ old.index_ceiling;
        values_ceiling = old.values_ceiling;
        index_known = known;
        values_known = old.values_known;
        trailing = old.trailing;
        floors = λ s. went.same.floors s ∙ old.floors s;
        reached = λ ok s. (let le = old.reached (earlier ok) s in
            subst (λ (n : ℕ). n ≤ section_size w.journal.sections s) (sym (went.same.floors s)) (reached_after (known ok) s (run.walk.journal.floor_of s) refl le));
        unowed = λ s free. (let few = sizes_after s free in let le = old.unowed s (sym (went.same.unrecovered s) ∙ free) in omega (arith, few, le, went.same.floors s));
        ends_from = ends_from tracked;
        marked = λ ok s m is. ((went.stays s (known ok s)).1.1 (old.marked (earlier ok) s m is));
        index_settled = λ s z held. (let u = had s z held in went.unsettled s u.0 z u.1 held (old.index_settled s u.0 u.1));
        values_settled = old.values_settled;
        vouched = λ t. vouched_after t (readable t) (old.vouched t) ends ended failed;
        checked = λ t. checked t tracked;
      }

      -- over an open pair no section owes a replay
      live_sizes : (s : ℕ) → run.walk.journal.unrecovered s ≡ false → w.journal.sections.unopened s ≡ None → section_size w.journal.sections s ≡ section_size run.walk.journal.sections s
      live_sizes s free none = elim (none_or_value (w.journal.sections.held s)) [
        | inl absent ↦ ap size_held absent ∙ sym (ap size_held (none_as (w.journal.sections.held s) (run.walk.journal.sections.held s) absent (went.stays s none).1.1))
        | inr z ↦ (let u = had s z.0 z.1 in ap size_held z.1 ∙ (went.bytes s u.0 z.0 u.1 z.1 free).size ∙ sym (ap size_held u.1))
      ]

      module _ (untracked : run.tracked ≡ false) where
        old_live : IsLiveRun run
        old_live = was.live untracked

        none_lost : HasLostNone now → HasLostNone run
        none_lost lost s = (went.stays s (lost s)).0

        whole_after : HasLostNone now → AreWhole (pair_of now)
        whole_after lost = let whole = old_live.whole (none_lost lost) in record {
          recovered = λ s. went.same.unrecovered s ∙ whole.recovered s;
          unfloored = λ s. went.same.floors s ∙ whole.unfloored s;
          index_ceiling = went.same.bounds.ceiling ∙ whole.index_ceiling;
          values_ceiling = whole.values_ceiling;
          index_known = lost;
          values_known = whole.values_known;
          values_held = λ s held. ((went.stays s (lost s)).1.1 (whole.values_held s held));
          floors = omega (arith, whole.floors, went.same.bounds.floor);
        }

        markers_after : HasLostNone now → AreMarkers (pair_of now)
        markers_after lost = let old = old_live.markers (none_lost lost) in record {
          marked = λ s m is. (let one = old.marked s m is in ((went.stays s (lost s)).1.1 one.0, one.1));
          trails = λ s n is. (let one = old.trails s n is in ((went.stays s (lost s)).1.1 one.0, one.1));
        }

        settled_after : HasLostNone now → HasSettled (pair_of now)
        settled_after lost = let old = old_live.settled (none_lost lost) in let whole = old_live.whole (none_lost lost) in record {
          index = λ s z held. (let u = had s z held in omega (arith, old.index s u.0 u.1, (went.bytes s u.0 z u.1 held (whole.recovered s)).settled));
          lengths = λ s. subst (λ (n : ℕ). synced_length (pair_of run) s ≤ n / run.layout.record_size) (sym (live_sizes s (whole.recovered s) (lost s))) (old.lengths s);
        }

        live_after : IsLiveRun now
        live_after = let old = old_live in let stays = live untracked in record {
          whole = whole_after;
          markers = markers_after;
          settled = settled_after;
          known = λ ok s. stays.0 ok s ∙ old.known (earlier ok) s;
          proven = λ s. record { checked = went.same.unrecovered s ∙ (old.proven s).checked; free = went.same.floors s ∙ (old.proven s).free };
          ends = λ s. stays.1 s ∙ old.ends s;
          goes_on = stays.2 ∙ old.goes_on;
        }

      -- blobs of index sections alone have changed
      pub copies_same : told → (side : Side) → disk c (blob_of run.store.partition side) ≡ disk a (blob_of run.store.partition side)
      copies_same t side = (always_now a c (Each (Replaying run.layout.seal run.layout.record_size run.walk (disk a))) (went.moments t) (blob_of run.store.partition side)).others
          (other_partition run.walk.journal.sections (λ s. IsHeld run.walk.journal.sections s × (IsAhead run.walk s ⊎ IsIn run.walk s)) run.layout.index (blob_of run.store.partition side) here.index (λ is. was.apart.metadata (sym is ∙ here.store)))

      pub run_after : IsGlob buffers takes told run.values opened (disk c) → ((side : Side) → opened (blob_of run.store.partition side) ≡ before (blob_of run.store.partition side)) → IsRun now g gives buffers takes told opened (disk c)
      run_after values copies = record {
        index = walk;
        values = values;
        apart = was.apart;
        metadata_opened = opened_stays run.store.partition before opened copies was.metadata_opened;
        storable = was.storable;
        synced = was.synced;
        markers = λ t. store_stays run.layout.markers run.store (contents_of run.store) (disk a) (disk c) (copies_same t) (was.markers t);
        opening = opening_after;
        live = live_after;
      }
