-- In the walk of an opening of a lawful image no error of the walk comes but by a fault or by want of memory.
use Rattle.std.specs.Prelude.{◌≡◌, ◌⊎◌, ℕ, zero, suc, ◌+◌, ◌*◌, ◌/◌, ◌^◌, ◌<◌, ◌≤◌, cond, Bool, true, false, List, [], ◌∷◌, length, get_or, IsTrue, Option, None, Some, IsSome, Result, Err, unwrap_or}
use Rattle.std.specs.List.{AllByRecursion}
use Rattle.std.proofs.Common.{inl, inr, refl, sym, ◌∙◌, ap, subst, arith}
use Rattle.std.proofs.Math.Nat.{div-mul-le_self}
use Rattle.std.proofs.lemmas.Nat.{mul-le}
use Rattle.blob_device.specs.Disk.{Key, Blob, reads}
use Rattle.blob_device.specs.Opened.{OpenedList}
use Rattle.blob_device.specs.Timeline.{Timeline, disk, Each}
use Rattle.blob_device.specs.declared.runtime.RError.TheVariants.{InvalidChecksum}
use Rattle.blob_device.specs.lemmas.Moments.{always_now}
use Rattle.sealed_pages.specs.declared.page_blob.PageBlob.{PageBlob}
use Rattle.sealed_pages.specs.Buffer.{size_of, bytes_of, IsSealed}
use Rattle.sealed_pages.specs.SealedPrefix.{sealed_prefix}
use Rattle.sealed_pages.specs.Shown.{shown}
use Rattle.paired.specs.lemmas.Glob.{buffers}
use Rattle.paired.specs.lemmas.next.Went.{Went}
use Rattle.paired.specs.lemmas.opening.Ends.{marked_is, marked_or_zero}
use Rattle.paired.specs.lemmas.pair.Synced.{Here}
use Rattle.sealed_pages.specs.lemmas.cutting.Truncating.{all_flushed}
use Rattle.segments.specs.lemmas.adding.Write.{ArePages}
use Rattle.segments.specs.lemmas.replay.Kept.{sealed_by_length, sealed_flushed, short_length}
use Rattle.value_codec.specs.declared.codec.Error as codec
use Rattle.section_manager.specs.declared.buffer.SectionBuffer as buffer
use Rattle.section_manager.specs.declared.journal.Damage.{Damage}
use Rattle.section_manager.specs.declared.journal.Error.{Error}
use Rattle.section_manager.specs.declared.journal.Error.TheVariants.{ItemOutOfRange, Runtime, Codec, Corruption}
use Rattle.section_manager.specs.declared.unsealed.WriteFactory.{WriteFactory}
use Rattle.section_manager.specs.Refusing.{HasFailed}
use Rattle.section_manager.specs.SealedLaws.{all_settled}
use Rattle.section_manager.specs.Sections.{section_key, key_of}
use Rattle.section_manager.specs.Setting.{Setting}
use Rattle.segments.specs.FixedLists.{size_held}
use Rattle.segments.specs.FixedReading.{IsBelowFloor, HasNotRead}
use Rattle.segments.specs.FixedReplay.{Walk, IsWalk, EndsBelow, FindsDamage, Replaying, kept_of, kept_bytes}
use Rattle.meta_store.specs.Store.{contents_of}
use Rattle.paired.specs.Kept.{content_at, stored_records}
use Rattle.paired.specs.Opening.{as_read, IsLawful}
use Rattle.paired.specs.OpeningRefusing.{AreSpellings}
use Rattle.paired.specs.Records.{records}
use Rattle.paired.specs.Replaying.{Run, pair_of, marker, records_over, IsOpeningRun, IsRun, IsUnspelled}
use Rattle.paired.proofs.next.Turn.{left_held}
use Rattle.paired.specs.lemmas.Records.{length-records}
use Rattle.blob_device.proofs.general.Options.{none_or_value, some_of, some_there, the_some}

each_at : (P : List ℕ → Type 0) (rs : List (List ℕ)) (p : ℕ) → AllByRecursion P rs → p < length rs → P (get_or rs p [])
each_at P [] p all lt = absurd (omega (arith, lt))
each_at P (r ∷ rs) zero all lt = all.0
each_at P (r ∷ rs) (suc p) all lt = each_at P rs p all.1 (omega (arith, lt))

-- what is left of what an error may be
module _ {F S : Type 0} {gs : _} (g : buffer.Ghosts (PageBlob S gs)) (gives : F → Setting) {takes : WriteFactory → Setting} (told : Type 0) (run : Run F (PageBlob S gs)) (pages : ArePages g run.layout.seal)
    (refusal : List ℕ → Unit {0} → Option codec.Error) (before : OpenedList) (a c : Timeline) (here : Here gives (pair_of run)) (was : IsRun run g gives buffers takes told before (disk a)) (tracked : run.tracked ≡ true)
    (w : Walk F (PageBlob S gs)) (opened : OpenedList) (went : Went run.layout.seal run.layout.record_size g told run.walk w a c) (walk : IsWalk g gives run.layout.seal run.layout.record_size told w opened (disk c)) (t : told)
    (there : (s : ℕ) (u : PageBlob S gs) → run.walk.journal.sections.held s ≡ Some u → IsTrue (disk a (key_of run.walk.journal.sections s)).there)
    (lawful : IsLawful run.layout (as_read (disk a)) (contents_of run.store)) where
  old : IsOpeningRun run g told (disk a)
  old = was.opening tracked

  key_here : (s : ℕ) → key_of run.walk.journal.sections s ≡ section_key run.layout.index s
  key_here s = ap (λ (p : List ℕ). section_key p s) here.index

  number : (s : ℕ) (u : PageBlob S gs) → run.walk.journal.sections.held s ≡ Some u → s < 2 ^ 64
  number s u held = was.index.over.opened_list.number s (inl (some_there (run.walk.journal.sections.held s) u held))

  paged : (s : ℕ) (u : PageBlob S gs) → run.walk.journal.sections.held s ≡ Some u → u.page_size ≡ run.layout.page_size
  paged s u held = sym (pages.page_size u) ∙ ap (λ (y : Setting). y.page_size) (was.index.over.opened_list.setting s u held) ∙ here.page_size

  -- a held section's blob reads as what is there
  content_here : (s : ℕ) (u : PageBlob S gs) → run.walk.journal.sections.held s ≡ Some u → content_at (as_read (disk a)) run.layout.index s ≡ (disk a (key_of run.walk.journal.sections s)).content
  content_here s u held = ap (λ (k : Key). unwrap_or (reads (disk a k)) []) (sym (key_here s))
      ∙ ap (λ (x : Bool). unwrap_or (cond x (Some (disk a (key_of run.walk.journal.sections s)).content) None) []) (there s u held)

  stored_here : (s : ℕ) (u : PageBlob S gs) → run.walk.journal.sections.held s ≡ Some u
      → stored_records run.layout (as_read (disk a)) s ≡ records run.layout.record_size (sealed_prefix run.layout.seal u.page_size (disk a (key_of run.walk.journal.sections s)).content)
  stored_here s u held = ap (λ (c : List ℕ). records run.layout.record_size (sealed_prefix run.layout.seal run.layout.page_size c)) (content_here s u held)
      ∙ sym (ap (λ (P : ℕ). records run.layout.record_size (sealed_prefix run.layout.seal P (disk a (key_of run.walk.journal.sections s)).content)) (paged s u held))

  -- the records below a marker are sealed
  marked_sealed : (s : ℕ) (u : PageBlob S gs) → run.walk.journal.sections.held s ≡ Some u
      → marker run s * run.layout.record_size ≤ length (sealed_prefix run.layout.seal u.page_size (disk a (key_of run.walk.journal.sections s)).content)
  marked_sealed s u held = elim (marked_or_zero run.store.entries s) [
    | inr zero_is ↦ omega (arith, ap (λ (n : ℕ). n * run.layout.record_size) zero_is)
    | inl some ↦
        let bytes : List ℕ = sealed_prefix run.layout.seal u.page_size (disk a (key_of run.walk.journal.sections s)).content in
        let enough : some.0 ≤ length bytes / run.layout.record_size = omega (arith, (lawful.true_markers s some.0 some.1).enough, ap length (stored_here s u held), length-records run.layout.record_size bytes) in
        let same : marker run s ≡ some.0 = marked_is run.store.entries s some.0 some.1 in
        omega (arith, ap (λ (n : ℕ). n * run.layout.record_size) same, mul-le some.0 run.layout.record_size (length bytes / run.layout.record_size) run.layout.record_size enough (omega arith), div-mul-le_self (length bytes) run.layout.record_size)
  ]

  -- a section that owes no replay has no byte above its marker, and is sealed
  few_free : (s : ℕ) (u : PageBlob S gs) → run.walk.journal.sections.held s ≡ Some u → run.walk.journal.unrecovered s ≡ false → size_of (shown u) ≤ marker run s * run.layout.record_size
  few_free s u held free = omega (arith, old.unowed s free, old.floors s, ap size_held held)

  free_sealed : (s : ℕ) (u : PageBlob S gs) → run.walk.journal.sections.held s ≡ Some u → run.walk.journal.unrecovered s ≡ false
      → sealed_prefix run.layout.seal u.page_size (disk a (key_of run.walk.journal.sections s)).content ≡ bytes_of (shown u) (disk a (key_of run.walk.journal.sections s)).content
  free_sealed s u held free =
      let b : Blob = disk a (key_of run.walk.journal.sections s) in
      let settled : u.settled ≡ size_of (shown u) = all_settled (shown u) (sym (pages.unsettled u) ∙ old.index_settled s u held) in
      let adopted = (pages.stands u b ((was.index.over.disk t).stands s u held)).adopted in
      let sealed : IsSealed run.layout.seal (shown u) b = sealed_by_length run.layout.seal (shown u) b u.fit.begun adopted (omega (arith, few_free s u held free, marked_sealed s u held)) in
      sealed_flushed run.layout.seal (shown u) b u.fit.begun sealed (all_flushed (shown u) u.fit.within u.order settled)

  -- what is gone over is what is stored
  pub over_stored : (s : ℕ) (u : PageBlob S gs) → run.walk.journal.sections.held s ≡ Some u → records_over run (disk a) s ≡ stored_records run.layout (as_read (disk a)) s
  over_stored s u held =
      ap (λ (o : Option (PageBlob S gs)). records run.layout.record_size (kept_of run.layout.seal (run.walk.journal.unrecovered s) o (disk a (key_of run.walk.journal.sections s)).content)) held
      ∙ go (run.walk.journal.unrecovered s) refl
      ∙ sym (stored_here s u held)
    where
      go : (owes : Bool) → run.walk.journal.unrecovered s ≡ owes → records run.layout.record_size (kept_of run.layout.seal owes (Some u) (disk a (key_of run.walk.journal.sections s)).content)
          ≡ records run.layout.record_size (sealed_prefix run.layout.seal u.page_size (disk a (key_of run.walk.journal.sections s)).content)
      go true owed = refl
      go false free = ap (records run.layout.record_size) (sym (free_sealed s u held free))

  -- ---- no such error
  pub no_start : (p : ℕ) → (p ≡ run.walk.start_position) × (length (kept_bytes run.layout.seal run.layout.record_size run.walk (disk a) run.walk.start_section) < p * run.layout.record_size) → ⊥
  no_start p has = omega (arith, has.1, ap (λ (n : ℕ). n * run.layout.record_size) (has.0 ∙ old.start_position))

  pub no_below : (x : Damage) → EndsBelow run.layout.seal run.layout.record_size run.walk (disk a) x → ⊥
  no_below x has = elim (none_or_value (run.walk.journal.sections.held x.section)) [
    | inl none ↦ cc (subst IsSome none has.held)
    | inr u ↦
        let bytes : List ℕ = sealed_prefix run.layout.seal u.0.page_size (disk a (key_of run.walk.journal.sections x.section)).content in
        let kept : kept_bytes run.layout.seal run.layout.record_size run.walk (disk a) x.section ≡ bytes =
        ap (λ (o : Option (PageBlob S gs)). kept_of run.layout.seal (run.walk.journal.unrecovered x.section) o (disk a (key_of run.walk.journal.sections x.section)).content) u.1
        ∙ ap (λ (o : Bool). kept_of run.layout.seal o (Some u.0) (disk a (key_of run.walk.journal.sections x.section)).content) has.owes in
        let whole : x.kept ≡ length bytes / run.layout.record_size * run.layout.record_size = has.kept ∙ ap (λ (bs : List ℕ). length bs / run.layout.record_size * run.layout.record_size) kept in
        omega (arith, has.less, has.wanted, old.floors x.section, whole, marked_whole x.section u.0 u.1)
  ]
    where
      marked_whole : (s : ℕ) (u : PageBlob S gs) → run.walk.journal.sections.held s ≡ Some u
          → marker run s * run.layout.record_size ≤ length (sealed_prefix run.layout.seal u.page_size (disk a (key_of run.walk.journal.sections s)).content) / run.layout.record_size * run.layout.record_size
      marked_whole s u held = elim (marked_or_zero run.store.entries s) [
        | inr zero_is ↦ omega (arith, ap (λ (n : ℕ). n * run.layout.record_size) zero_is)
        | inl some ↦
            let bytes : List ℕ = sealed_prefix run.layout.seal u.page_size (disk a (key_of run.walk.journal.sections s)).content in
            let enough : some.0 ≤ length bytes / run.layout.record_size = omega (arith, (lawful.true_markers s some.0 some.1).enough, ap length (stored_here s u held), length-records run.layout.record_size bytes) in
            let same : marker run s ≡ some.0 = marked_is run.store.entries s some.0 some.1 in
            omega (arith, ap (λ (n : ℕ). n * run.layout.record_size) same, mul-le some.0 run.layout.record_size (length bytes / run.layout.record_size) run.layout.record_size enough (omega arith))
      ]

  pub no_damage : (k : ℕ) → FindsDamage run.layout.seal run.layout.record_size run.walk w (disk c) k → ⊥
  no_damage k has =
      let s : ℕ = has.section in
      let size : ℕ = run.layout.record_size in
      let z = the_some (w.journal.sections.held s) has.within in
      let page = the_some (w.journal.sections.held s) has.page in
      let u = some_of (run.walk.journal.sections.held s) (((went.stays s (walk.over.opened_list.apart s (some_there (w.journal.sections.held s) z.0 z.1))).1).0 (some_there (w.journal.sections.held s) z.0 z.1)) in
      let free : run.walk.journal.unrecovered s ≡ false = sym (went.same.unrecovered s) ∙ has.free in
      let settled : u.0.settled ≡ size_of (shown u.0) = all_settled (shown u.0) (sym (pages.unsettled u.0) ∙ old.index_settled s u.0 u.1) in
      let now_key : key_of w.journal.sections s ≡ key_of run.walk.journal.sections s = ap (λ (p : List ℕ). section_key p s) went.same.bounds.place.partition in
      let still : disk c (key_of run.walk.journal.sections s) ≡ disk a (key_of run.walk.journal.sections s) =
      (always_now a c (Each (Replaying run.layout.seal size run.walk (disk a))) (went.moments t) (key_of run.walk.journal.sections s)).still s u.0 u.1 (settled, inl free) refl in
      let blob : disk c (key_of w.journal.sections s) ≡ disk a (key_of run.walk.journal.sections s) = ap (λ (q : Key). disk c q) now_key ∙ still in
      let few : size_of (shown z.0) ≤ size_of (shown u.0) = (went.floors s u.0 z.0 u.1 z.1).shorter in
      let size_page : page.0.page_size ≡ u.0.page_size = (went.floors s u.0 page.0 u.1 page.1).page_size in
      let less : length (sealed_prefix run.layout.seal page.0.page_size (disk c (key_of w.journal.sections s)).content) < has.position * size + size =
      short_length run.layout.seal page.0.page_size (disk c (key_of w.journal.sections s)).content (omega (arith, page.0.fit.begun)) (has.position * size) size k page.2 in
      let long : marker run s * size ≤ length (sealed_prefix run.layout.seal page.0.page_size (disk c (key_of w.journal.sections s)).content) =
      subst (λ (b : Blob). marker run s * size ≤ length (sealed_prefix run.layout.seal page.0.page_size b.content)) (sym blob)
      (subst (λ (P : ℕ). marker run s * size ≤ length (sealed_prefix run.layout.seal P (disk a (key_of run.walk.journal.sections s)).content)) (sym size_page) (marked_sealed s u.0 u.1)) in
      omega (arith, less, long, z.2, few, few_free s u.0 u.1 free)

  pub no_refusal : AreSpellings run.layout refusal (as_read (disk a)) → (x : codec.Error) → IsUnspelled refusal run (disk a) x → ⊥
  no_refusal spellings x has =
      let held = left_held run.layout.seal run.layout.record_size run.walk (disk a) has.section has.position here.some has.left in
      let u = some_of (run.walk.journal.sections.held has.section) held in
      let within : has.position < length (records_over run (disk a) has.section) = omega (arith, has.left.whole, length-records run.layout.record_size (kept_bytes run.layout.seal run.layout.record_size run.walk (disk a) has.section)) in
      let same = over_stored has.section u.0 u.1 in
      let fine : refusal (get_or (records_over run (disk a) has.section) has.position []) tt ≡ None =
      subst (λ (rs : List (List ℕ)). refusal (get_or rs has.position []) tt ≡ None) (sym same)
      (each_at (λ r. refusal r tt ≡ None) (stored_records run.layout (as_read (disk a)) has.section) has.position (spellings has.section (number has.section u.0 u.1)) (subst (λ (rs : List (List ℕ)). has.position < length rs) same within)) in
      let bad = has.refused in
      cc (fine, bad)

  -- only a fault, or want of memory
  pub only_failed : {V : Type 0} (answer : Option (Result (ℕ × ℕ × V) Error)) (few some : ℕ) → AreSpellings run.layout refusal (as_read (disk a)) → (x : Error) → answer ≡ Some (Err x)
      → ((p : ℕ) → answer ≡ Some (Err (ItemOutOfRange p)) → (p ≡ run.walk.start_position) × (length (kept_bytes run.layout.seal run.layout.record_size run.walk (disk a) run.walk.start_section) < p * run.layout.record_size))
      → ((y : Damage) → answer ≡ Some (Err (Corruption y)) → EndsBelow run.layout.seal run.layout.record_size run.walk (disk a) y)
      → ((k : ℕ) → answer ≡ Some (Err (Runtime (InvalidChecksum k))) → FindsDamage run.layout.seal run.layout.record_size run.walk w (disk c) k)
      → ((y : codec.Error) → answer ≡ Some (Err (Codec y)) → IsUnspelled refusal run (disk a) y)
      → (x ≡ ItemOutOfRange run.walk.start_position) ⊎ (IsBelowFloor {T = V} (Err x) ⊎ HasNotRead {T = V} (Err x) few some) → HasFailed {T = V} (Err x) few some
  only_failed {V = V} answer few some spellings x is start damage damaged refused (inl at) = absurd (no_start run.walk.start_position (start run.walk.start_position (cc (is, at))))
  only_failed {V = V} answer few some spellings x is start damage damaged refused (inr (inl below)) = (let at = below.1 in absurd (no_below below.0 (damage below.0 (cc (is, at)))))
  only_failed {V = V} answer few some spellings x is start damage damaged refused (inr (inr (inl page))) = (let at = page.1 in absurd (no_damage page.0 (damaged page.0 (cc (is, at)))))
  only_failed {V = V} answer few some spellings x is start damage damaged refused (inr (inr (inr (inl code)))) = (let at = code.1 in absurd (no_refusal spellings code.0 (refused code.0 (cc (is, at)))))
  only_failed {V = V} answer few some spellings x is start damage damaged refused (inr (inr (inr (inr failed)))) = failed
