-- What the walk of an opening has gone past without an error is sealed, so the image keeps it, whatever stands behind it.
use Rattle.std.proofs.Common.{◌≡◌, ◌⊎◌, inl, inr, refl, sym, ◌∙◌, ap, subst, ℕ, zero, suc, ◌+◌, ◌*◌, ◌/◌, ◌<◌, ◌≤◌, ◌^◌, ◌||◌, nat_lt, eqb, if◌then◌else◌, cond, Bool, true, false, List, [], ◌∷◌, length, map, take, Option, Some, IsSome, IsSomeAnd, arith, length-take}
use Rattle.std.proofs.lemmas.Bool.{cases_Bool, cases_eq, cases_lt}
use Rattle.std.proofs.lemmas.List.{get_or-take, length-map, length-take-le, take_all}
use Rattle.std.proofs.lemmas.Nat.{mul-le}
use Rattle.blob_device.specs.Disk.{Blob, Disk, Image}
use Rattle.blob_device.specs.Opened.{OpenedList}
use Rattle.sealed_pages.specs.Buffer.{bytes_of, size_of}
use Rattle.sealed_pages.specs.Reads.{IsCovered}
use Rattle.sealed_pages.specs.SealedPrefix.{data_from, sealed_prefix}
use Rattle.sealed_pages.specs.Shown.{shown}
use Rattle.sealed_pages.specs.Unrecovered.{IsAdopted}
use Rattle.sealed_pages.specs.View.{View, view}
use Rattle.sealed_pages.specs.declared.page_blob.PageBlob.{PageBlob}
use Rattle.paired.specs.lemmas.Glob.{buffers}
use Rattle.paired.specs.lemmas.Kept.{stored_entries}
use Rattle.paired.specs.lemmas.opening.Ends.{prefix_all}
use Rattle.paired.specs.lemmas.pair.Synced.{Here}
use Rattle.sealed_pages.specs.lemmas.Unrecovered.{prefix_short}
use Rattle.sealed_pages.specs.lemmas.adopted.Adopt.{get_or-data_from, length-data_from}
use Rattle.sealed_pages.specs.lemmas.cutting.Truncating.{all_flushed}
use Rattle.sealed_pages.specs.lemmas.looking.Read.{read_data}
use Rattle.sealed_pages.specs.lemmas.memory.Holding.{bytes_length}
use Rattle.segments.specs.lemmas.adding.Write.{ArePages}
use Rattle.segments.specs.lemmas.replay.Kept.{covered_length, flushed_data, prefix_data, sealed_flushed}
use Rattle.section_manager.specs.declared.buffer.SectionBuffer as buffer
use Rattle.section_manager.specs.declared.journal.Damage.{Damage}
use Rattle.section_manager.specs.declared.unsealed.WriteFactory.{WriteFactory}
use Rattle.section_manager.specs.Sections.{IsHeld, key_of}
use Rattle.section_manager.specs.Setting.{Setting}
use Rattle.segments.specs.FixedReplay.{EndsBelow, IsAhead, IsGoneOver, IsIn, IsLeft, Place, ReadsIn, StandsIn, first_of, kept_bytes}
use Rattle.paired.specs.Kept.{Layout, content_at, is_sound_in, kept, stored_records}
use Rattle.paired.specs.Opening.{as_read}
use Rattle.paired.specs.Records.{entry_of, unbroken_prefix, is_sound, records}
use Rattle.paired.specs.Replaying.{HasFailed, IsDue, IsRun, Run, is_sound_over, marker, pair_of, records_given, records_over}
use Rattle.paired.specs.lemmas.Records.{prefix-take, length-records, records-enough, records-prefix}
use Rattle.archives.proofs.init.Stored as opening
use Rattle.blob_device.proofs.general.Numbers.{item_ends, times_next}
use Rattle.blob_device.proofs.general.Options.{has_value, none_or_value, some_same, some_there, value_of}

-- ---- lists
-- of the first records the first ones are kept
prefix-of_take : (sound : List ℕ → Bool) (least n position : ℕ) (rs : List (List ℕ)) → unbroken_prefix sound least position (take n rs) ≡ take n (unbroken_prefix sound least position rs)
prefix-of_take sound least zero position rs = refl
prefix-of_take sound least (suc n) position [] = refl
prefix-of_take sound least (suc n) position (r ∷ rs) =
    step (nat_lt position least || sound r) (unbroken_prefix sound least (position + 1) (take n rs)) (unbroken_prefix sound least (position + 1) rs) (prefix-of_take sound least n (position + 1) rs)
  where
    step : (b : Bool) (few more : List (List ℕ)) → few ≡ take n more → (if b then r ∷ few else []) ≡ take (suc n) (if b then r ∷ more else [])
    step true few more is = ap (λ (xs : List (List ℕ)). r ∷ xs) is
    step false few more is = refl

-- no more are kept than there are
prefix_few : (sound : List ℕ → Bool) (least : ℕ) (rs : List (List ℕ)) → length (unbroken_prefix sound least 0 rs) ≤ length rs
prefix_few sound least rs = let kept_all = unbroken_prefix sound least 0 rs in omega (arith, ap length (prefix-take sound least 0 rs), length-take (length kept_all) rs)

-- where there are no more than the marker says, all are kept
prefix_whole : (sound : List ℕ → Bool) (least : ℕ) (rs : List (List ℕ)) → length rs ≤ least → unbroken_prefix sound least 0 rs ≡ rs
prefix_whole sound least rs few = prefix_all sound least rs (λ q lt. inl (omega (arith, lt, few)))

-- where there are as many, as many are kept
prefix_least : (sound : List ℕ → Bool) (least : ℕ) (rs : List (List ℕ)) → least ≤ length rs → least ≤ length (unbroken_prefix sound least 0 rs)
prefix_least sound least rs some =
    let long : length (take least rs) ≡ least = length-take-le least rs some in
    let same : take least rs ≡ take least (unbroken_prefix sound least 0 rs) = sym (prefix_whole sound least (take least rs) (omega (arith, long))) ∙ prefix-of_take sound least least 0 rs in
    omega (arith, long, ap length same, length-take least (unbroken_prefix sound least 0 rs))

-- Of two images that keep the same of a section the one has so many records of it as the other, where those are fewer than its marker says.
pub short_same : (l : Layout) (from to : Image) (m s : ℕ) → kept l to m s ≡ kept l from m s → length (stored_records l to s) < m → length (stored_records l from s) ≡ length (stored_records l to s)
short_same l from to m s same few =
    let old : List (List ℕ) = stored_records l from s in
    let new : List (List ℕ) = stored_records l to s in
    let kept_old : length (kept l from m s) ≡ length (unbroken_prefix (is_sound_in l from s) m 0 old) = length-map (unbroken_prefix (is_sound_in l from s) m 0 old) (entry_of l.place (content_at from l.values s)) in
    let kept_new : length (kept l to m s) ≡ length (unbroken_prefix (is_sound_in l to s) m 0 new) = length-map (unbroken_prefix (is_sound_in l to s) m 0 new) (entry_of l.place (content_at to l.values s)) in
    let all : length (unbroken_prefix (is_sound_in l to s) m 0 new) ≡ length new = ap length (prefix_whole (is_sound_in l to s) m new (omega (arith, few))) in
    elim (cases_lt (length old) m) [
      | inl less ↦ omega (arith, kept_old, kept_new, all, ap length same, ap length (prefix_whole (is_sound_in l from s) m old (omega (arith, less))))
      | inr le ↦ absurd (omega (arith, few, kept_old, kept_new, all, ap length same, prefix_least (is_sound_in l from s) m old le))
    ]

none_first : {X : Type 0} (xs ys : List X) → xs ≡ [] → xs ≡ take (length xs) ys
none_first xs ys none = subst (λ (zs : List _). zs ≡ take (length zs) ys) (sym none) refl

all_first : {X : Type 0} (xs ys : List X) → xs ≡ ys → xs ≡ take (length xs) ys
all_first xs ys same = same ∙ sym (take_all (length xs) ys (omega (arith, ap length same)))

data_prefix : (P n k : ℕ) (v : View) → k ≤ n → take k (data_from P v 0 n) ≡ data_from P v 0 k
data_prefix P n k v le = read_data P 0 k v (take k (data_from P v 0 n)) (omega (arith, length-take k (data_from P v 0 n), length-data_from P v n 0, le))
    (λ i lt. get_or-take k (data_from P v 0 n) i 0 lt ∙ get_or-data_from P v n 0 i (omega (arith, lt, le)))

module _ {F S : Type 0} {gs : _} {g : buffer.Ghosts (PageBlob S gs)} {gives : F → Setting} {takes : WriteFactory → Setting} {told : Type 0} (run : Run F (PageBlob S gs)) (o : OpenedList) (d : Disk)
    (pages : ArePages g run.layout.seal) (here : Here gives (pair_of run)) (was : IsRun run g gives buffers takes told o d) (tracked : run.tracked ≡ true) (unfailed : HasFailed run → ⊥) (t : told) where
  abbrev at : ℕ → Blob
  at s = d (key_of run.walk.journal.sections s)

  abbrev sealed : ℕ → PageBlob S gs → List ℕ
  sealed s u = sealed_prefix run.layout.seal u.page_size (at s).content

  flushed : (s : ℕ) (u : PageBlob S gs) → run.walk.journal.sections.held s ≡ Some u → u.from ≡ length u.tip.items
  flushed s u held = all_flushed (shown u) u.fit.within u.order (opening.settled_at run o d pages here was tracked unfailed t s u held)

  -- what is sealed of a held section is the first of its bytes
  prefix_bytes : (s : ℕ) (u : PageBlob S gs) → run.walk.journal.sections.held s ≡ Some u
      → (sealed s u ≡ take (length (sealed s u)) (bytes_of (shown u) (at s).content)) × (length (sealed s u) ≤ length (bytes_of (shown u) (at s).content))
  prefix_bytes s u held =
      let bytes : List ℕ = bytes_of (shown u) (at s).content in
      let long : length bytes ≡ size_of (shown u) = bytes_length (shown u) (at s).content in
      let adopted : IsAdopted run.layout.seal (shown u) (at s) = (pages.stands u (at s) ((was.index.over.disk t).stands s u held)).adopted in
      elim adopted [
        | inl is ↦ (let same : sealed s u ≡ bytes = sealed_flushed run.layout.seal (shown u) (at s) u.fit.begun is (flushed s u held) in (all_first (sealed s u) bytes same, omega (arith, ap length same)))
        | inr un ↦
            let short = prefix_short run.layout.seal (shown u) (at s) (omega (arith, u.fit.begun)) un in
            let le : length (sealed s u) ≤ length bytes = omega (arith, short, long) in (
              prefix_data run.layout.seal u.page_size (at s).content (omega (arith, u.fit.begun))
                  ∙ sym (data_prefix u.page_size (length bytes) (length (sealed s u)) (view (at s).content) le)
                  ∙ ap (take (length (sealed s u))) (sym (flushed_data run.layout.seal (shown u) (at s) u.fit.begun (inr un) (flushed s u held))),
              le,
            )
      ]

  -- what the disk stores is the first of what is gone over
  stored_first : (s : ℕ) → s < 2 ^ 64 → stored_records run.layout (as_read d) s ≡ take (length (stored_records run.layout (as_read d) s)) (records_over run d s)
  stored_first s small = elim (none_or_value (run.walk.journal.sections.held s)) [
    | inl none ↦ none_first (stored_records run.layout (as_read d) s) (records_over run d s) (opening.stored_none run o d pages here was tracked unfailed t s small none)
    | inr some ↦
        let u : PageBlob S gs = some.0 in
        let stored_so = opening.stored_here run o d pages here was tracked unfailed t s u some.1 in
        elim (cases_Bool (run.walk.journal.unrecovered s)) [
          | inl owed ↦ all_first (stored_records run.layout (as_read d) s) (records_over run d s) (stored_so ∙ sym (opening.over_at run o d pages here was tracked unfailed t s u true some.1 owed))
          | inr free ↦
              let bytes : List ℕ = bytes_of (shown u) (at s).content in
              let over_so : records_over run d s ≡ records run.layout.record_size bytes = opening.over_at run o d pages here was tracked unfailed t s u false some.1 free in
              let first = prefix_bytes s u some.1 in
              subst (λ (xs : List (List ℕ)). stored_records run.layout (as_read d) s ≡ take (length (stored_records run.layout (as_read d) s)) xs) (sym over_so)
              (subst (λ (xs : List (List ℕ)). xs ≡ take (length xs) (records run.layout.record_size bytes)) (sym stored_so) (records-prefix run.layout.record_size bytes (sealed s u) here.some first.0 first.1))
        ]
  ]

  -- What the image keeps is the first of what is given, up to where the section is sealed.
  pub kept_first : (s : ℕ) → s < 2 ^ 64 → map (λ x. x.stored) (kept run.layout (as_read d) (marker run s) s) ≡ take (length (stored_records run.layout (as_read d) s)) (records_given run d s)
  kept_first s small =
      let all : List (List ℕ) = records_over run d s in
      let many : ℕ = length (stored_records run.layout (as_read d) s) in
      let sound : is_sound_in run.layout (as_read d) s ≡ is_sound_over run d s = (λ i r. is_sound run.layout.seal (opening.values_at run o d pages here was tracked unfailed t s small i) (run.layout.place r)) in
      stored_entries run.layout.place (content_at (as_read d) run.layout.values s) (unbroken_prefix (is_sound_in run.layout (as_read d) s) (marker run s) 0 (stored_records run.layout (as_read d) s))
      ∙ (λ i. unbroken_prefix (sound i) (marker run s) 0 (stored_first s small i))
      ∙ prefix-of_take (is_sound_over run d s) (marker run s) many 0 all
      ∙ ap (take many) (sym (ap (λ (b : Bool). cond b (unbroken_prefix (is_sound_over run d s) (marker run s) 0 all) all) tracked))

  -- ---- where the walk has come to
  going_on : run.walk.ended ≡ false
  going_on = elim (cases_Bool run.walk.ended) [ inl is ↦ absurd (unfailed (inr (was.index.walk.ends is))) | inr is ↦ is ]

  from_start : (s : ℕ) → first_of run.walk s ≡ 0
  from_start s = step (eqb s run.walk.start_section) run.walk.start_position (opening.old run o d pages here was tracked unfailed t).start_position
    where
      step : (b : Bool) (n : ℕ) → n ≡ 0 → cond b n 0 ≡ 0
      step true n is = is
      step false n is = refl

  -- where the walk stands in the section, it is sealed up to there
  to_place : (r : Place) → run.walk.place ≡ Some r → (u : PageBlob S gs) → run.walk.journal.sections.held r.section ≡ Some u → r.position * run.layout.record_size ≤ length (sealed r.section u)
  to_place r is u held =
      let stands = value_of (run.walk.journal.sections.held r.section) (StandsIn run.layout.record_size run.walk r) (was.index.walk.place r is) in
      let reads_so = value_of (run.walk.journal.sections.held r.section) (ReadsIn run.layout.seal run.walk d r) ((was.index.disk t).place r is) in
      let same : reads_so.value ≡ u = some_same reads_so.value u (sym reads_so.is ∙ held) in
      let covered : IsCovered run.layout.seal u.page_size (at r.section).content 0 (r.reader.at + length r.reader.bytes) =
      subst (λ (v : PageBlob S gs). IsCovered run.layout.seal v.page_size (at r.section).content 0 (r.reader.at + length r.reader.bytes)) same (reads_so.has.checked (inr (from_start r.section))) in
      omega (arith, stands.has.at, covered_length run.layout.seal u.page_size (at r.section).content (omega (arith, u.fit.begun)) (r.reader.at + length r.reader.bytes) covered)

  -- a section that it has gone over is sealed
  gone_sealed : (s : ℕ) (u : PageBlob S gs) → run.walk.journal.sections.held s ≡ Some u → IsGoneOver run.walk s → length (bytes_of (shown u) (at s).content) ≤ length (sealed s u)
  gone_sealed s u held gone =
      let all = ((was.index.disk t).gone_over (opening.fine run o d pages here was tracked unfailed t) s u held gone (inr (from_start s))).0 in
      omega (arith, ap length (sealed_flushed run.layout.seal (shown u) (at s) u.fit.begun all (flushed s u held)))

  module _ (s p : ℕ) (given : p < length (records_given run d s)) (passed : IsDue run d s p → ⊥) where
    over_given : p < length (records_over run d s)
    over_given = omega (arith, given, ap length (ap (λ (b : Bool). cond b (unbroken_prefix (is_sound_over run d s) (marker run s) 0 (records_over run d s)) (records_over run d s)) tracked), prefix_few (is_sound_over run d s) (marker run s) (records_over run d s))

    -- it is not left
    not_left : IsLeft run.layout.seal run.layout.record_size run.walk d s p → ⊥
    not_left left = passed (record { left = left; goes_on = λ is. unfailed (((opening.old run o d pages here was tracked unfailed t).checked t).broken s is); given = given })

    left_by : (IsHeld run.walk.journal.sections s × IsAhead run.walk s) ⊎ IsSomeAnd run.walk.place (λ r. (r.section ≡ s) × (r.position ≤ p)) → ⊥
    left_by ahead = not_left (record { goes_on = going_on; begun = omega (arith, from_start s); whole = omega (arith, over_given, length-records run.layout.record_size (kept_bytes run.layout.seal run.layout.record_size run.walk d s)); ahead = ahead })

    module _ (u : PageBlob S gs) (held : run.walk.journal.sections.held s ≡ Some u) (free : run.walk.journal.unrecovered s ≡ false) where
      bytes_over : records_over run d s ≡ records run.layout.record_size (bytes_of (shown u) (at s).content)
      bytes_over = opening.over_at run o d pages here was tracked unfailed t s u false held free

      enough : (p + 1) * run.layout.record_size ≤ length (sealed s u) → p < length (stored_records run.layout (as_read d) s)
      enough le = omega (arith, records-enough run.layout.record_size (p + 1) (sealed s u) here.some le, ap length (opening.stored_here run o d pages here was tracked unfailed t s u held))

      where_gone : (IsIn run.walk s → ⊥) → p < length (stored_records run.layout (as_read d) s)
      where_gone not_in =
          let gone : IsGoneOver run.walk s = record { begun = omega (arith, (opening.old run o d pages here was tracked unfailed t).start_section); not_ahead = λ is. left_by (inl (some_there (run.walk.journal.sections.held s) u held, is)); not_in = not_in } in
          let bytes : List ℕ = bytes_of (shown u) (at s).content in
          enough (omega (arith, gone_sealed s u held gone, times_next p run.layout.record_size, item_ends run.layout.record_size (length bytes) p (omega (arith, over_given, ap length bytes_over, length-records run.layout.record_size bytes))))

      where_in : (r : Place) → run.walk.place ≡ Some r → r.section ≡ s → p < length (stored_records run.layout (as_read d) s)
      where_in r is same =
          let before : p < r.position = elim (cases_lt p r.position) [
            | inl lt ↦ lt
            | inr le ↦ absurd (left_by (inr (has_value run.walk.place (λ q. (q.section ≡ s) × (q.position ≤ p)) r is (same, le))))
          ] in
          let to : r.position * run.layout.record_size ≤ length (sealed s u) =
          subst (λ (q : ℕ). run.walk.journal.sections.held q ≡ Some u → r.position * run.layout.record_size ≤ length (sealed q u)) same (to_place r is u) held in
          enough (omega (arith, to, mul-le (p + 1) run.layout.record_size r.position run.layout.record_size (omega (arith, before)) (omega arith)))

      free_stored : p < length (stored_records run.layout (as_read d) s)
      free_stored = elim (none_or_value run.walk.place) [
        | inl none ↦ where_gone (λ is. subst (λ (x : Option Place). IsSomeAnd x (λ r. r.section ≡ s)) none is)
        | inr some ↦ elim (cases_eq some.0.section s) [
          | inl same ↦ where_in some.0 some.1 same
          | inr other ↦ where_gone (λ is. other (subst (λ (x : Option Place). IsSomeAnd x (λ r. r.section ≡ s)) some.1 is))
        ]
      ]

    -- A record that is given, and due no more, is one that the disk stores.
    pub passed_stored : p < length (stored_records run.layout (as_read d) s)
    passed_stored = elim (none_or_value (run.walk.journal.sections.held s)) [
      | inl none ↦ absurd (omega (arith, given, ap length (opening.given_none run o d pages here was tracked unfailed t s none)))
      | inr some ↦ elim (cases_Bool (run.walk.journal.unrecovered s)) [
        | inl owed ↦ omega (
          arith,
          over_given,
          ap length (opening.over_at run o d pages here was tracked unfailed t s some.0 true some.1 owed),
          ap length (opening.stored_here run o d pages here was tracked unfailed t s some.0 some.1),
        )
        | inr free ↦ free_stored some.0 some.1 free
      ]
    ]

  -- What a section keeps that ends below its floor is the records that the disk stores.
  pub short_stored : (x : Damage) → EndsBelow run.layout.seal run.layout.record_size run.walk d x → x.kept ≡ length (stored_records run.layout (as_read d) x.section) * run.layout.record_size
  short_stored x ends = elim (none_or_value (run.walk.journal.sections.held x.section)) [
    | inl none ↦ absurd (cc (subst IsSome none ends.held))
    | inr some ↦
        let bytes : List ℕ = kept_bytes run.layout.seal run.layout.record_size run.walk d x.section in
        let count : length (stored_records run.layout (as_read d) x.section) ≡ length bytes / run.layout.record_size =
        ap length (opening.stored_here run o d pages here was tracked unfailed t x.section some.0 some.1 ∙ sym (opening.over_at run o d pages here was tracked unfailed t x.section some.0 true some.1 ends.owes)) ∙ length-records run.layout.record_size bytes in
        ends.kept ∙ ap (λ (n : ℕ). n * run.layout.record_size) (sym count)
  ]
