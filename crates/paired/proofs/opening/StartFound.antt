-- An opening by markers over parts that are open: its replay may be used, and what it has found.
use Rattle.std.specs.Prelude.{◌≡◌, ◌↔◌, ℕ, ◌-◌, ◌*◌, ◌^◌, ◌<◌, ◌≤◌, Bool, false, List, length, IsTrue, IsSome, Option, None, Some, unwrap_or, Result, Ok, Err, IfOk}
use Rattle.std.proofs.Common.{inl, inr, refl, sym, ◌∙◌, ap, subst, arith}
use Rattle.std.proofs.lemmas.Bool.{cases_lt}
use Rattle.blob_device.specs.Disk.{Disk}
use Rattle.blob_device.specs.Opened.{OpenedList}
use Rattle.sealed_pages.specs.declared.page_blob.PageBlob.{PageBlob}
use Rattle.sealed_pages.specs.declared.write_blob.WriteBlob.{WriteBlob}
use Rattle.sealed_pages.specs.Buffer.{bytes_of, size_of}
use Rattle.sealed_pages.specs.SealedPrefix.{adopted_size}
use Rattle.sealed_pages.specs.Shown.{shown}
use Rattle.sealed_pages.specs.View.{view}
use Rattle.paired.specs.lemmas.opening.Start.{AlikeImage, kept_alike}
use Rattle.sealed_pages.specs.lemmas.adopted.Adopt.{length-data_from}
use Rattle.section_manager.specs.declared.buffer.SectionBuffer as buffer
use Rattle.section_manager.specs.declared.unsealed.WriteFactory.{WriteFactory}
use Rattle.section_manager.specs.Sealed.{adopted_bytes}
use Rattle.section_manager.specs.SealedLaws.{counted}
use Rattle.section_manager.specs.Sections.{Sections, section_key, key_of, IsHeld}
use Rattle.section_manager.specs.Setting.{Setting}
use Rattle.segments.specs.FixedLists.{Lists, section_bytes, section_size}
use Rattle.segments.specs.FixedLists as fixed
use Rattle.segments.specs.FixedReplay.{Begins}
use Rattle.meta_store.specs.Store.{contents_of}
use Rattle.paired.specs.glob.Sections.{IsGlob}
use Rattle.paired.specs.glob.Sections as glob
use Rattle.paired.specs.Kept.{Layout, IsMarked, content_at}
use Rattle.paired.specs.Crashes.{HoldMarkers}
use Rattle.paired.specs.Opening.{as_read, IsLawful}
use Rattle.paired.specs.OpeningFound.{HasFound}
use Rattle.paired.specs.OpeningRefusing.{EndsWithin, IsProved}
use Rattle.paired.specs.Replaying.{Run, IsOpeningRun, marker}
use Rattle.paired.proofs.opening.StartRun.{all_due, floor_marker, marker_proved, none_checked, size_counted, vouched}
use Rattle.blob_device.proofs.general.Options.{none_or_value}

-- what holds of an answer that is Ok
pub by_ok : {T E : Type 0} (r : Result T E) (P : T → Type 0) → ((v : T) → r ≡ Ok v → P v) → IfOk r P
by_ok (Ok v) P has = has v refl
by_ok (Err e) P has = tt

pub at_ok : {T E : Type 0} (r : Result T E) (v : T) (P : T → Type 0) → r ≡ Ok v → IfOk r P → P v
at_ok {T = T} {E = E} r v P is has = subst (λ (x : Result T E). IfOk x P) is has

-- a glob by other names
pub glob_as : {F : Type 0} {h : buffer.Ghosts WriteBlob} {takes : F → Setting} {told : Type 0} (m n : Sections F WriteBlob) (o p : OpenedList) (d e : Disk) → n ≡ m → p ≡ o → e ≡ d → IsGlob h takes told m o d → IsGlob h takes told n p e
glob_as {F} {h} {takes} {told} m n o p d e sections opened disk is =
    subst (λ (x : Sections F WriteBlob). IsGlob h takes told x p e) (sym sections) (subst (λ (x : OpenedList). IsGlob h takes told m x e) (sym opened) (subst (λ (x : Disk). IsGlob h takes told m o x) (sym disk) is))

-- Both parts are open, as an opening by markers opens them: the index from the first byte on, adopted as it was, with the floors that the markers
-- give; the values with all their bytes.
pub record PartsOpened {F S : Type 0} {gs : _} (unsettled : PageBlob S gs → Bool) (told : Type 0) (l : Layout) (floors : ℕ → Option ℕ) (from : Disk)
    (j : Lists F (PageBlob S gs)) (m : Sections WriteFactory WriteBlob) (d : Disk) : Type 0 where
  pub index_held : told → (s : ℕ) → s < 2 ^ 64 → IsHeld j.sections s ↔ IsTrue (from (section_key l.index s)).there
  pub values_held : told → (s : ℕ) → s < 2 ^ 64 → IsHeld m s ↔ IsTrue (from (section_key l.values s)).there
  pub index_known : (s : ℕ) → j.sections.unopened s ≡ None
  pub values_known : (s : ℕ) → m.unopened s ≡ None
  pub index_bytes : told → (s : ℕ) → IsHeld j.sections s → section_bytes j.sections d s ≡ adopted_bytes l.seal l.page_size (from (section_key l.index s)).content
  pub values_size : told → (s : ℕ) → s < 2 ^ 64 → glob.section_size m s ≡ length (content_at (as_read from) l.values s)
  pub index_settled : (s : ℕ) (u : PageBlob S gs) → j.sections.held s ≡ Some u → unsettled u ≡ false
  pub values_settled : (s : ℕ) → IsHeld m s → glob.IsAllSettled m s
  pub unrecovered : (s : ℕ) → IsTrue (j.unrecovered s) ↔ (j.floor_of s < section_size j.sections s)
  pub reached : (s : ℕ) → j.floor_of s ≤ section_size j.sections s
  pub floor_of : (s : ℕ) → j.floor_of s ≡ unwrap_or (floors s) 0 * l.record_size
  pub marked : (s : ℕ) → IsSome (floors s) → IsHeld j.sections s
  pub within : told → (s n : ℕ) → floors s ≡ Some n → 0 < n → EndsWithin l from s n (glob.section_size m s)
  pub index_floor : j.sections.floor ≡ 0
  pub index_ceiling : j.sections.ceiling ≡ 2 ^ 64 - 1
  pub values_floor : m.floor ≡ 0
  pub values_ceiling : m.ceiling ≡ 2 ^ 64 - 1
  pub pages : (s : ℕ) (u : PageBlob S gs) → j.sections.held s ≡ Some u → u.page_size ≡ l.page_size
  pub content : told → (s : ℕ) → (d (key_of j.sections s)).content ≡ (from (section_key l.index s)).content

-- the same by other names
pub parts_as : {F S : Type 0} {gs : _} (unsettled : PageBlob S gs → Bool) (told : Type 0) (l x : Layout) (floors : ℕ → Option ℕ) (from : Disk) (j k : Lists F (PageBlob S gs)) (m n : Sections WriteFactory WriteBlob) (d e : Disk)
    → x ≡ l → k ≡ j → n ≡ m → e ≡ d → PartsOpened unsettled told l floors from j m d → PartsOpened unsettled told x floors from k n e
parts_as {F} {S} {gs} unsettled told l x floors from j k m n d e layout index values disk parts =
    subst (λ (y : Layout). PartsOpened unsettled told y floors from k n e) (sym layout)
    (subst (λ (y : Lists F (PageBlob S gs)). PartsOpened unsettled told l floors from y n e) (sym index)
    (subst (λ (y : Sections WriteFactory WriteBlob). PartsOpened unsettled told l floors from j y e) (sym values)
    (subst (λ (y : Disk). PartsOpened unsettled told l floors from j m y) (sym disk) parts)))

module _ {F S : Type 0} {gs : _} (unsettled : PageBlob S gs → Bool) (told : Type 0) (floors : ℕ → Option ℕ) (from d : Disk) (run : Run F (PageBlob S gs))
    (parts : PartsOpened unsettled told run.layout floors from run.walk.journal run.values d) (begins : Begins run.walk.journal 0 0 run.walk)
    (each : (s n : ℕ) → (floors s ≡ Some n) ↔ IsMarked run.store.entries s n) (sized : 1 ≤ run.layout.record_size) (paged : 1 ≤ run.layout.page_size) where
  marked_held : (s m : ℕ) → IsMarked run.store.entries s m → IsHeld run.walk.journal.sections s
  marked_held s m marked = parts.marked s (subst IsSome (sym ((each s m).1 marked)) refl)

  held_bytes : told → (s : ℕ) (u : PageBlob S gs) → run.walk.journal.sections.held s ≡ Some u
      → bytes_of (shown u) (d (key_of run.walk.journal.sections s)).content ≡ adopted_bytes run.layout.seal run.layout.page_size (from (section_key run.layout.index s)).content
  held_bytes t s u held =
      sym (ap (λ (o : Option (PageBlob S gs)). fixed.bytes_held o (d (key_of run.walk.journal.sections s)).content) held) ∙ parts.index_bytes t s (subst IsSome (sym held) refl)

  pub opening_run : (g : buffer.Ghosts (PageBlob S gs)) → ((u : PageBlob S gs) → g.unsettled u ≡ unsettled u) → ((s : ℕ) → run.trailing s ≡ None) → ((s : ℕ) → (run.ends.at s ≡ None) × (run.ends.values s ≡ None)) → run.ended_section ≡ None → IsOpeningRun run g told d
  opening_run g same trailing ends goes_on = record {
    start_section = begins.section;
    start_position = begins.position;
    index_floor = parts.index_floor;
    values_floor = parts.values_floor;
    index_ceiling = parts.index_ceiling;
    values_ceiling = parts.values_ceiling;
    index_known = λ going. parts.index_known;
    values_known = parts.values_known;
    trailing = trailing;
    floors = λ s. parts.floor_of s ∙ ap (λ (n : ℕ). n * run.layout.record_size) (floor_marker run.store.entries floors each s);
    reached = λ going. parts.reached;
    unowed = λ s free. elim (cases_lt (run.walk.journal.floor_of s) (section_size run.walk.journal.sections s)) [
      | inl lt ↦ absurd (cc ((parts.unrecovered s).1 lt, free))
      | inr le ↦ le
    ];
    ends_from = λ s p is. absurd (cc ((ends s).0, is));
    marked = λ going. marked_held;
    index_settled = λ s u held. same u ∙ parts.index_settled s u held;
    values_settled = parts.values_settled;
    vouched = λ t. vouched run sized paged d from marked_held parts.pages (parts.content t) (held_bytes t) (λ s m marked some. parts.within t s m ((each s m).1 marked) some);
    checked = λ t. none_checked run sized begins ends goes_on d;
  }

  -- a marked section has its marker's records
  has_proved : told → (s m : ℕ) → IsMarked run.store.entries s m → IsProved run.layout from s m
  has_proved t s m marked =
      let f : floors s ≡ Some m = (each s m).1 marked in
      let held = marked_held s m marked in
      let floor : run.walk.journal.floor_of s ≡ m * run.layout.record_size = parts.floor_of s ∙ ap (λ (o : Option ℕ). unwrap_or o 0 * run.layout.record_size) f in
      let c : List ℕ = (from (section_key run.layout.index s)).content in
      elim (none_or_value (run.walk.journal.sections.held s)) [
        | inl none ↦ absurd (cc (subst IsSome none held))
        | inr is ↦
            let now : List ℕ = (d (key_of run.walk.journal.sections s)).content in
            let size : section_size run.walk.journal.sections s ≡ size_of (shown is.0) = ap (λ (o : Option (PageBlob S gs)). fixed.size_held o) is.1 in
            let long : size_of (shown is.0) ≡ adopted_size run.layout.seal run.layout.page_size c =
            sym (counted (shown is.0) now) ∙ ap length (held_bytes t s is.0 is.1) ∙ length-data_from run.layout.page_size (view c) (adopted_size run.layout.seal run.layout.page_size c) 0 in
            let reach = parts.reached s in
            marker_proved run.layout from s m ((parts.index_held t s marked.0).0 held) (omega (arith, floor, size, size_counted is.0, reach)) (omega (arith, floor, size, long, reach))
            (λ some. subst (EndsWithin run.layout from s m) (parts.values_size t s marked.0) (parts.within t s m f some))
      ]

  pub found_of : told → (l : Layout) → run.layout ≡ l → (to : Disk) → HoldMarkers l (as_read from) (contents_of run.store) → AlikeImage l (as_read from) (as_read to) → run.ended_section ≡ None
      → ((markers : _) → IsLawful l (as_read from) markers → IsLawful l (as_read to) (contents_of run.store)) → HasFound l from to run
  found_of t l is to markers alike goes_on lawful = record {
    markers = markers;
    proved = λ s m marked. subst (λ (x : Layout). IsProved x from s m) is (has_proved t s m marked);
    index_held = λ s small. subst (λ (x : Layout). IsHeld run.walk.journal.sections s ↔ IsTrue (from (section_key x.index s)).there) is (parts.index_held t s small);
    values_held = λ s small. subst (λ (x : Layout). IsHeld run.values s ↔ IsTrue (from (section_key x.values s)).there) is (parts.values_held t s small);
    due = all_due run sized begins goes_on to;
    same = λ s small. kept_alike l (as_read from) (as_read to) alike (marker run s) s;
    lawful = lawful;
  }
