-- The replay with which an opening by markers begins: what it vouches for, what is left, and what it has found.
use Rattle.std.specs.Prelude.{◌≡◌, ◌↔◌, ℕ, ◌+◌, ◌-◌, ◌*◌, ◌/◌, ◌%◌, ◌^◌, ◌<◌, ◌≤◌, cond, eqb, min, Bool, true, false, List, [], length, take, IsTrue, IsSome, IsSomeAnd, Option, None, Some, unwrap_or}
use Rattle.std.proofs.Common.{inl, inr, refl, sym, ◌∙◌, ap, subst, arith, length-take}
use Rattle.std.proofs.lemmas.Bool.{cases_lt}
use Rattle.std.proofs.lemmas.Nat.{div_below}
use Rattle.blob_device.specs.Disk.{Blob, Disk, reads}
use Rattle.sealed_pages.specs.declared.page_blob.PageBlob.{PageBlob}
use Rattle.sealed_pages.specs.Buffer.{bytes_of, size_of}
use Rattle.sealed_pages.specs.Shown.{shown}
use Rattle.sealed_pages.specs.SealedPrefix.{sealed_prefix, adopted_size, data_from}
use Rattle.sealed_pages.specs.Reads.{IsCovered}
use Rattle.sealed_pages.specs.View.{view}
use Rattle.paired.specs.lemmas.opening.Ends.{marked_is}
use Rattle.paired.specs.lemmas.opening.StartRefusals.{last_is_record, records_end}
use Rattle.paired.specs.lemmas.pair.Synced.{unmarked_zero}
use Rattle.sealed_pages.specs.lemmas.adopted.Adopt.{length-data_from}
use Rattle.sealed_pages.specs.lemmas.slots.Slot.{times_page}
use Rattle.segments.specs.lemmas.replay.Kept.{prefix_data}
use Rattle.value_codec.specs.declared.codec.Error as codec
use Rattle.section_manager.specs.declared.journal.Damage.{Damage}
use Rattle.section_manager.specs.Sealed.{adopted_bytes}
use Rattle.section_manager.specs.Sections.{section_key, key_of, IsHeld}
use Rattle.segments.specs.FixedFloors.{IsRefused}
use Rattle.segments.specs.FixedReplay.{Begins, IsLeft, kept_bytes, kept_of}
use Rattle.paired.specs.glob.Sections as glob
use Rattle.paired.specs.Kept.{Layout, MarkerMap, IsMarked, marker_of, content_at}
use Rattle.paired.specs.Opening.{as_read}
use Rattle.paired.specs.OpeningRefusing.{EndsWithin, IsLost, IsOutside, IsProved, IsUnreadable, last_of, place_end}
use Rattle.paired.specs.Places.{last_end}
use Rattle.paired.specs.Records.{unbroken_prefix}
use Rattle.paired.specs.Replaying.{Run, HasGiven, IsChecked, IsDue, IsVouchedFor, is_sound_over, marker, records_given, records_over}
use Rattle.paired.specs.lemmas.Records.{prefix-take, length-records}
use Rattle.blob_device.proofs.general.Options.{none_or_value}

-- the floor that a map gives is the marker, where it has the markers
pub floor_marker : (es : MarkerMap) (floors : ℕ → Option ℕ) → ((s m : ℕ) → (floors s ≡ Some m) ↔ IsMarked es s m) → (s : ℕ) → unwrap_or (floors s) 0 ≡ marker_of es s
floor_marker es floors each s = go (floors s) refl
  where
    go : (o : Option ℕ) → floors s ≡ o → unwrap_or (floors s) 0 ≡ marker_of es s
    go None is = ap (λ (o : Option ℕ). unwrap_or o 0) is ∙ sym (unmarked_zero es s (λ m marked. absurd (cc ((each s m).1 marked, is))))
    go (Some m) is = ap (λ (o : Option ℕ). unwrap_or o 0) is ∙ sym (marked_is es s m ((each s m).0 is))

-- a page blob's size is one of 64 bits
pub size_counted : {S : Type 0} {gs : _} (u : PageBlob S gs) → size_of (shown u) < 2 ^ 64
size_counted u =
    let P : ℕ = u.page_size in
    let n : ℕ = size_of (shown u) in
    let pos : 1 ≤ P = omega (arith, u.fit.begun) in
    let whole : (n + (P - 1)) / P * P + (n + (P - 1)) % P ≡ n + (P - 1) = omega (arith, pos) in
    let below : (n + (P - 1)) % P < P = omega (arith, pos) in
    omega (arith, pos, whole, below, times_page P ((n + (P - 1)) / P), u.fit.room)

-- the bytes from which items are given stand in the blob, as it was adopted
pub kept_stands : {S : Type 0} {gs : _} (seal : List ℕ → ℕ) (P : ℕ) (owes : Bool) (o : Option (PageBlob S gs)) (u : PageBlob S gs) (now c : List ℕ) → 1 ≤ P → o ≡ Some u → now ≡ c → u.page_size ≡ P
    → bytes_of (shown u) now ≡ adopted_bytes seal P c → kept_of seal owes o now ≡ data_from P (view c) 0 (length (kept_of seal owes o now))
kept_stands {S} {gs} seal P owes o u now c pos held same paged adopted =
    subst (λ (x : Option (PageBlob S gs)). kept_of seal owes x now ≡ data_from P (view c) 0 (length (kept_of seal owes x now))) (sym held) (go owes)
  where
    go : (b : Bool) → kept_of seal b (Some u) now ≡ data_from P (view c) 0 (length (kept_of seal b (Some u) now))
    go true =
        let is : sealed_prefix seal u.page_size now ≡ sealed_prefix seal P c = ap (λ (k : ℕ). sealed_prefix seal k now) paged ∙ ap (sealed_prefix seal P) same in
        subst (λ (x : List ℕ). x ≡ data_from P (view c) 0 (length x)) (sym is) (prefix_data seal P c pos)
    go false =
        subst (λ (x : List ℕ). x ≡ data_from P (view c) 0 (length x)) (sym adopted) (ap (data_from P (view c) 0) (sym (length-data_from P (view c) (adopted_size seal P c) 0)))

cond_least : (b : Bool) (m n : ℕ) → m ≡ 0 → cond b m 0 ≤ n
cond_least true m n is = omega (arith, is)
cond_least false m n is = omega arith

module _ {F S : Type 0} {gs : _} (run : Run F (PageBlob S gs)) (sized : 1 ≤ run.layout.record_size) where
  -- a section of which records are given is held
  records_held : (d : Disk) (s p : ℕ) → p < length (records_over run d s) → IsHeld run.walk.journal.sections s
  records_held d s p lt = elim (none_or_value (run.walk.journal.sections.held s)) [
    | inr some ↦ subst IsSome (sym some.1) refl
    | inl none ↦
        let kept : List ℕ = kept_bytes run.layout.seal run.layout.record_size run.walk d s in
        let bare : kept ≡ [] = ap (λ (o : Option (PageBlob S gs)). kept_of run.layout.seal (run.walk.journal.unrecovered s) o (d (key_of run.walk.journal.sections s)).content) none in
        absurd (omega (arith, lt, length-records run.layout.record_size kept, ap (λ (c : List ℕ). length c / run.layout.record_size) bare, div_below 0 run.layout.record_size 1 (omega (arith, sized)) (omega (arith, sized))))
  ]

  -- at first all records are left
  pub all_left : Begins run.walk.journal 0 0 run.walk → (d : Disk) (s p : ℕ) → p < length (records_over run d s) → IsLeft run.layout.seal run.layout.record_size run.walk d s p
  all_left begins d s p lt = record {
    goes_on = begins.going;
    begun = cond_least (eqb s run.walk.start_section) run.walk.start_position p begins.position;
    whole = omega (arith, lt, length-records run.layout.record_size (kept_bytes run.layout.seal run.layout.record_size run.walk d s));
    ahead = inl (records_held d s p lt, subst (λ (o : Option ℕ). IsSomeAnd o (λ n. n ≤ s)) (sym begins.first) (omega arith));
  }

  given_over : (d : Disk) (s : ℕ) → length (records_given run d s) ≤ length (records_over run d s)
  given_over d s = go run.tracked
    where
      go : (b : Bool) → length (cond b (unbroken_prefix (λ r. is_sound_over run d s r) (marker run s) 0 (records_over run d s)) (records_over run d s)) ≤ length (records_over run d s)
      go true = omega (
        arith,
        ap length (prefix-take (λ r. is_sound_over run d s r) (marker run s) 0 (records_over run d s)),
        length-take (length (unbroken_prefix (λ r. is_sound_over run d s r) (marker run s) 0 (records_over run d s))) (records_over run d s),
      )
      go false = omega arith

  -- so none was checked
  pub none_checked : Begins run.walk.journal 0 0 run.walk → ((s : ℕ) → (run.ends.at s ≡ None) × (run.ends.values s ≡ None)) → run.ended_section ≡ None → (d : Disk) → IsChecked run d
  none_checked begins ends goes_on d = record {
    good = λ s p unbroken lt none. inr (all_left begins d s p lt);
    ends = λ s p unbroken is. absurd (cc ((ends s).0, is));
    values = λ fine s n given. ap (λ (o : Option ℕ). unwrap_or o 0) (ends s).1 ∙ ap (λ (k : ℕ). min (last_end run.layout.place (take k (records_given run d s))) (2 ^ 64 - 1)) (sym (none_given s n given));
    behind = λ s p q is left. absurd (cc ((ends s).0, is));
    broken = λ s is. absurd (cc (goes_on, is));
    passed = λ s t p is left. absurd (cc (goes_on, is));
  }
    where
      -- all of them are left
      none_given : (s n : ℕ) → HasGiven run d s n → n ≡ 0
      none_given s n given = elim (cases_lt 0 n) [
        | inr none ↦ omega (arith, none)
        | inl some ↦ absurd (given.past 0 some (all_left begins d s 0 (omega (arith, some, given.within, given_over d s))))
      ]

  -- what is given is due
  pub all_due : Begins run.walk.journal 0 0 run.walk → run.ended_section ≡ None → (d : Disk) (s p : ℕ) → IsDue run d s p ↔ (p < length (records_given run d s))
  all_due begins goes_on d s p = (
    λ due. due.given,
    λ lt. record {
      left = all_left begins d s p (omega (arith, lt, given_over d s));
      goes_on = λ is. absurd (cc (goes_on, is));
      given = lt;
    },
  )

  -- What was proved of the last record below each marker, the replay vouches for.
  pub vouched : 1 ≤ run.layout.page_size → (d from : Disk) → ((s m : ℕ) → IsMarked run.store.entries s m → IsHeld run.walk.journal.sections s)
      → ((s : ℕ) (u : PageBlob S gs) → run.walk.journal.sections.held s ≡ Some u → u.page_size ≡ run.layout.page_size)
      → ((s : ℕ) → (d (key_of run.walk.journal.sections s)).content ≡ (from (section_key run.layout.index s)).content)
      → ((s : ℕ) (u : PageBlob S gs) → run.walk.journal.sections.held s ≡ Some u
      → bytes_of (shown u) (d (key_of run.walk.journal.sections s)).content ≡ adopted_bytes run.layout.seal run.layout.page_size (from (section_key run.layout.index s)).content)
      → ((s m : ℕ) → IsMarked run.store.entries s m → 0 < m → EndsWithin run.layout from s m (glob.section_size run.values s)) → IsVouchedFor run d
  vouched paged d from held pages same adopted ends = record {
    bounded = λ s m marked some few. elim (none_or_value (run.walk.journal.sections.held s)) [
      | inl none ↦ absurd (cc (subst IsSome none (held s m marked)))
      | inr is ↦
          let c : List ℕ = (from (section_key run.layout.index s)).content in
          let kept : List ℕ = kept_bytes run.layout.seal run.layout.record_size run.walk d s in
          let stands : kept ≡ data_from run.layout.page_size (view c) 0 (length kept) =
          kept_stands run.layout.seal run.layout.page_size (run.walk.journal.unrecovered s) (run.walk.journal.sections.held s) is.0 (d (key_of run.walk.journal.sections s)).content c paged is.1 (same s) (pages s is.0 is.1) (adopted s is.0 is.1) in
          let last = last_is_record run.layout.seal run.layout.page_size c kept run.layout.record_size m paged sized stands some (records_end run.layout.record_size m kept few) in
          subst (λ (r : List ℕ). place_end run.layout.place r ≤ glob.section_size run.values s) (sym last) (ends s m marked some).within
    ];
  }

-- ---- what was proved of a marker, and why one is refused
pub marker_proved : (l : Layout) (from : Disk) (s m : ℕ) → IsTrue (from (section_key l.index s)).there → m * l.record_size < 2 ^ 64 → m * l.record_size ≤ adopted_size l.seal l.page_size (from (section_key l.index s)).content
    → (0 < m → EndsWithin l from s m (length (content_at (as_read from) l.values s))) → IsProved l from s m
marker_proved l from s m there fits within ends = record {
  boundary = record { there = there; fits = fits; covered = λ some. (ends some).covered; within = λ some. within };
  value = ends;
}

module _ (l : Layout) (metadata : List ℕ) (Marked Now : ℕ → ℕ → Type 0) (marked : (s n : ℕ) → Marked s n → Now s n) (d from : Disk)
    (index : (s : ℕ) → d (section_key l.index s) ≡ from (section_key l.index s)) (values : (s : ℕ) → d (section_key l.values s) ≡ from (section_key l.values s)) where
  pub lost_as : (x : Damage) → IsLost (record l { metadata = metadata }) Marked d x → IsLost l Now from x
  lost_as x lost = record {
    items = lost.items;
    marked = marked x.section lost.items lost.marked;
    why = elim lost.why [
      | inl refused ↦ inl (subst (λ (b : Blob). IsRefused l.seal l.page_size l.record_size b lost.items x) (index x.section) refused)
      | inr cut ↦ inr (record {
        some = cut.some;
        covered = subst (λ (b : Blob). IsCovered l.seal l.page_size b.content ((lost.items - 1) * l.record_size) l.record_size) (index x.section) cut.covered;
        outside = subst (λ (b : Blob). IsOutside (l.place (last_of l from x.section lost.items)) (length (unwrap_or (reads b) [])) x) (values x.section)
            (subst (λ (b : Blob). IsOutside (l.place (data_from l.page_size (view b.content) ((lost.items - 1) * l.record_size) l.record_size)) (length (content_at (as_read d) l.values x.section)) x) (index x.section) cut.outside);
      })
    ];
  }

  pub unreadable_as : (refusal : List ℕ → Unit {0} → Option codec.Error) (e : codec.Error) → IsUnreadable (record l { metadata = metadata }) Marked refusal d e → IsUnreadable l Now refusal from e
  unreadable_as refusal e is = record {
    section = is.section;
    items = is.items;
    marked = marked is.section is.items is.marked;
    some = is.some;
    covered = subst (λ (b : Blob). IsCovered l.seal l.page_size b.content ((is.items - 1) * l.record_size) l.record_size) (index is.section) is.covered;
    refused = subst (λ (b : Blob). refusal (data_from l.page_size (view b.content) ((is.items - 1) * l.record_size) l.record_size) tt ≡ Some e) (index is.section) is.refused;
  }

-- the same by the partitions and the page size by other names
pub ends_as : (l : Layout) (index values metadata : List ℕ) (size : ℕ) (d from : Disk) (s n len : ℕ) → index ≡ l.index → size ≡ l.page_size → d (section_key l.index s) ≡ from (section_key l.index s)
    → EndsWithin l d s n len → EndsWithin (record l { index = index; values = values; metadata = metadata; page_size = size }) from s n len
ends_as l index values metadata size d from s n len index_is size_is same ends = record {
  covered = subst (λ (k : ℕ). IsCovered l.seal k (from (section_key index s)).content ((n - 1) * l.record_size) l.record_size) (sym size_is)
      (subst (λ (p : List ℕ). IsCovered l.seal l.page_size (from (section_key p s)).content ((n - 1) * l.record_size) l.record_size) (sym index_is)
      (subst (λ (b : Blob). IsCovered l.seal l.page_size b.content ((n - 1) * l.record_size) l.record_size) same ends.covered));
  within = subst (λ (k : ℕ). place_end l.place (data_from k (view (from (section_key index s)).content) ((n - 1) * l.record_size) l.record_size) ≤ len) (sym size_is)
      (subst (λ (p : List ℕ). place_end l.place (data_from l.page_size (view (from (section_key p s)).content) ((n - 1) * l.record_size) l.record_size) ≤ len) (sym index_is)
      (subst (λ (b : Blob). place_end l.place (data_from l.page_size (view b.content) ((n - 1) * l.record_size) l.record_size) ≤ len) same ends.within));
}
