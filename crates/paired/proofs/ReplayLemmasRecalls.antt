-- What a crash keeps of a pair at a moment of the walk of an opening.
use Rattle.std.specs.Prelude.{◌≡◌, ℕ, ◌*◌, ◌/◌, ◌^◌, ◌<◌, ◌≤◌, ⊤, cond, Bool, true, false, List, [], length, map, take, IsTrue, Option, None, Some, IsSome, is_some, unwrap_or}
use Rattle.std.proofs.Common.{inl, inr, refl, sym, ◌∙◌, ap, subst, arith}
use Rattle.std.specs.List.{AllByRecursion}
use Rattle.std.proofs.lemmas.Bool.{cases_Bool}
use Rattle.std.proofs.lemmas.List.{take_all, take-take, nil_from_length}
use Rattle.std.proofs.lemmas.Nat.{le-div}
use Rattle.std.proofs.Math.Nat.{div-mul-le_self}
use Rattle.blob_device.specs.Disk.{Key, Blob, Disk, Image, IsCrashOf, IsSettled, MayLeave, past, reads, longest}
use Rattle.blob_device.specs.Opened.{OpenedList}
use Rattle.blob_device.specs.Timeline.{Each}
use Rattle.sealed_pages.specs.declared.page_blob.PageBlob.{PageBlob}
use Rattle.sealed_pages.specs.declared.write_blob.WriteBlob.{WriteBlob}
use Rattle.sealed_pages.specs.Shown.{shown}
use Rattle.sealed_pages.specs.ChanceSeal as pages
use Rattle.sealed_pages.specs.Cutting.{StandsSettled}
use Rattle.sealed_pages.specs.SealedPrefix.{sealed_prefix, Prefix}
use Rattle.section_manager.specs.declared.buffer.SectionBuffer as buffer
use Rattle.section_manager.specs.declared.unsealed.WriteFactory.{WriteFactory}
use Rattle.section_manager.specs.Sealed.{is_unsettled}
use Rattle.section_manager.specs.SealedLaws.{all_settled}
use Rattle.section_manager.specs.Sections.{Sections, section_key, key_of}
use Rattle.section_manager.specs.Setting.{Setting}
use Rattle.segments.specs.FixedReplay.{Walk, Replaying}
use Rattle.paired.specs.lemmas.Glob.{buffers}
use Rattle.paired.specs.lemmas.opening.Ends.{KeptHere}
use Rattle.paired.specs.lemmas.opening.Laws.{left_as_read}
use Rattle.paired.specs.lemmas.opening.Phases.{IsBack, IsPhase, sections_of}
use Rattle.paired.specs.lemmas.pair.Synced.{Here}
use Rattle.paired.specs.lemmas.reconcile.Resting.{Rests, index_key, index_number, index_rest, paged, values_absent, values_rest}
use Rattle.segments.specs.lemmas.adding.Write.{ArePages}
use Rattle.paired.specs.Crashes.{IsIndexOf, NoChanceSeal}
use Rattle.paired.specs.Kept.{Layout, Markers, marker_of, content_at, stored_records, is_sound_in}
use Rattle.paired.specs.Opening.{MayBeOpened, RecallsAlone}
use Rattle.paired.specs.Records.{records, is_sound, unbroken_prefix, entry_of}
use Rattle.paired.specs.Replaying.{Run, pair_of, IsRun, IsOpeningRun}
use Rattle.paired.specs.Pair.{AreApart}
use Rattle.paired.proofs.ReplayLemmas.{records_of_items}
use Rattle.blob_device.proofs.general.Options.{none_or_value}

-- ---- a settled blob
rest_settled : (b : Blob) → StandsSettled b → IsSettled b
rest_settled b rest = record { sure = ap (λ (x : Blob). x.unsure) rest; since = ap (λ (x : Blob). x.since) rest; loose = ap (λ (x : Blob). x.loose) rest; content = sym (ap (λ (x : Blob). x.settled) rest) }

rest_reads : (b : Blob) → StandsSettled b → reads b ≡ Some b.content
rest_reads b rest = ap reads rest

-- each crash leaves it as it reads
rest_left : (b : Blob) → StandsSettled b → (left : Option (List ℕ)) → MayLeave b left → left ≡ Some b.content
rest_left b rest left may = left_as_read b (rest_settled b rest) left may ∙ rest_reads b rest

-- of one that no crash leaves a byte in, nothing is left
nothing_left : (b : Blob) → longest b ≡ 0 → (left : Option (List ℕ)) → MayLeave b left → unwrap_or left [] ≡ []
nothing_left b none None may = refl
nothing_left b none (Some c) may = nil_from_length c (omega (arith, none, may.1.no_longer))

absent_reads : (b : Blob) → b.there ≡ false → unwrap_or (reads b) [] ≡ []
absent_reads b none = ap (λ (is : Bool). unwrap_or (cond is (Some b.content) None) []) none

-- a prefix with all whole items has the same records
by_prefix : (seal : List ℕ → ℕ) (P size : ℕ) (bytes c : List ℕ) → 1 ≤ size → Prefix seal P bytes (length bytes / size * size) c → records size (sealed_prefix seal P c) ≡ records size bytes
by_prefix seal P size bytes c pos prefix =
    let n : ℕ = length (sealed_prefix seal P c) in
    let fewer : n / size ≤ length bytes / size = le-div (n / size) (length bytes) size (omega (arith, pos)) (omega (arith, div-mul-le_self n size, prefix.no_longer)) in
    let more : length bytes / size ≤ n / size = le-div (length bytes / size) n size (omega (arith, pos)) prefix.no_shorter in
    records_of_items size (sealed_prefix seal P c) bytes pos (omega (arith, fewer, more))
    (ap (take (length bytes / size * size)) prefix.is ∙ take-take (length bytes / size * size) n bytes prefix.no_shorter)

prefix_left : (seal : List ℕ → ℕ) (P : ℕ) (bytes : List ℕ) (least : ℕ) (b : Blob) (left : Option (List ℕ)) → MayLeave b left → pages.Leaves seal P bytes least b → pages.NoChanceSeal seal P (past b) (unwrap_or left [])
    → IsSome left × Prefix seal P bytes least (unwrap_or left [])
prefix_left seal P bytes least b None may leaves fresh = absurd (leaves None may)
prefix_left seal P bytes least b (Some c) may leaves fresh = (refl, leaves (Some c) may fresh)

-- ---- a section with the records and the values that it had
kept_as : (l : Layout) (old image : Image) (markers : Markers) (s : ℕ) → (IsSome (old (section_key l.index s)) → IsSome (image (section_key l.index s))) → stored_records l image s ≡ stored_records l old s
    → content_at image l.values s ≡ content_at old l.values s → KeptHere l old image markers s
kept_as l old image markers s there records_same values =
    let sound_same : is_sound_in l image s ≡ is_sound_in l old s = (λ i r. is_sound l.seal (values i) (l.place r)) in
    record {
      stored = records_same ∙ sym (take_all (length (stored_records l image s)) (stored_records l old s) (omega (arith, ap length records_same)));
      kept = (λ i. map (entry_of l.place (values i)) (unbroken_prefix (sound_same i) (marker_of markers.entries s) 0 (records_same i)));
      marked = λ m is was. record {
        index_blob = there was.index_blob;
        enough = omega (arith, ap length records_same, was.enough);
        sound = subst (λ (rs : List (List ℕ)). AllByRecursion (λ r. IsTrue (is_sound_in l image s r)) (take m rs)) (sym records_same)
            (subst (λ (f : List ℕ → Bool). AllByRecursion (λ r. IsTrue (f r)) (take m (stored_records l old s))) (sym sound_same) was.sound);
      };
    }

-- ---- a moment of the walk
-- Over parts that are settled: whether by markers, up to a ceiling or neither.
module _ {F S : Type 0} {gs : _} {g : buffer.Ghosts (PageBlob S gs)} {gives : F → Setting} {takes : WriteFactory → Setting} {told : Type 0} {opened : OpenedList} (l : Layout) (w : Walk F (PageBlob S gs)) (m : Sections WriteFactory WriteBlob) (d x : Disk)
    (rests : Rests g gives takes told l w.journal.sections m opened d) (apart : AreApart l) (t : told)
    (reads_so : (q : Key) → MayLeave (d q) (reads (d q))) (may_open : MayBeOpened l d) (moment : Each (Replaying l.seal l.record_size w d) x) where
  idle : (s : ℕ) (u : PageBlob S gs) → w.journal.sections.held s ≡ Some u → is_unsettled (shown u) ≡ false
  idle s u held = sym (rests.pages.unsettled u) ∙ rests.index_settled s u held

  -- no blob changes but those of held sections
  others : (q : Key) → (IsIndexOf l (λ s. IsTrue (is_some (w.journal.sections.held s))) q → ⊥) → x q ≡ d q
  others q not = (moment q).others (λ own. not (own.0, index_number rests own.0 own.1.0, own.1.0, own.2 ∙ index_key rests own.0))

  abbrev IsChanged : ℕ → Bool
  IsChanged s = is_some (w.journal.sections.held s)

  phase : IsPhase l apart d x IsChanged false
  phase = record {
    readable = λ q own. reads_so q;
    no_chance = may_open.no_chance;
    others = λ q not. others q (λ own. not (inl own));
  }

  -- ---- the records of a held section
  abbrev sealed : ℕ → List ℕ
  sealed s = sealed_prefix l.seal l.page_size (d (section_key l.index s)).content

  module _ (image : Image) (crash : IsCrashOf x image) (fresh : NoChanceSeal l x image) (s : ℕ) (small : s < 2 ^ 64) where
    abbrev IsIndexKept : Type 0
    IsIndexKept = IsSome (image (section_key l.index s)) × (stored_records l image s ≡ records l.record_size (sealed s))

    as_it_was : (u : PageBlob S gs) → w.journal.sections.held s ≡ Some u → x (section_key l.index s) ≡ d (section_key l.index s) → IsIndexKept
    as_it_was u held same =
        let is : image (section_key l.index s) ≡ Some (d (section_key l.index s)).content =
        rest_left (d (section_key l.index s)) (index_rest rests t s u held) (image (section_key l.index s)) (subst (λ (b : Blob). MayLeave b (image (section_key l.index s))) same (crash (section_key l.index s))) in (
          subst IsSome (sym is) refl,
          ap (λ (o : Option (List ℕ)). records l.record_size (sealed_prefix l.seal l.page_size (unwrap_or o []))) is,
        )

    cut_back : pages.Leaves l.seal l.page_size (sealed s) (length (sealed s) / l.record_size * l.record_size) (x (section_key l.index s)) → IsIndexKept
    cut_back leaves =
        let left = prefix_left l.seal l.page_size (sealed s) (length (sealed s) / l.record_size * l.record_size) (x (section_key l.index s)) (image (section_key l.index s))
        (crash (section_key l.index s)) leaves (fresh.slots s small) in
        (left.0, by_prefix l.seal l.page_size l.record_size (sealed s) (content_at image l.index s) rests.some left.1)

    abbrev LeavesAt : Key → ℕ → Type 0
    LeavesAt q P = pages.Leaves l.seal P (sealed_prefix l.seal P (d q).content) (length (sealed_prefix l.seal P (d q).content) / l.record_size * l.record_size) (x q)

    index_kept : (u : PageBlob S gs) → w.journal.sections.held s ≡ Some u → IsIndexKept
    index_kept u held = elim (cases_Bool (w.journal.unrecovered s)) [
      | inr free ↦ as_it_was u held (subst (λ (q : Key). x q ≡ d q) (index_key rests s)
          ((moment (key_of w.journal.sections s)).still s u held (all_settled (shown u) (idle s u held), inl free) refl))
      | inl owed ↦ elim ((moment (key_of w.journal.sections s)).cut s u held owed refl) [
        | inl same ↦ as_it_was u held (subst (λ (q : Key). x q ≡ d q) (index_key rests s) same)
        | inr cut ↦ cut_back (subst (λ (q : Key). LeavesAt q l.page_size) (index_key rests s) (subst (LeavesAt (key_of w.journal.sections s)) (paged rests s u held) cut.1))
      ]
    ]

    -- ---- its values
    values_same : x (section_key l.values s) ≡ d (section_key l.values s)
    values_same = others (section_key l.values s) (λ own. apart.values (sym (ap (λ (k : Key). k.0) own.3)))

    values_left : MayLeave (d (section_key l.values s)) (image (section_key l.values s))
    values_left = subst (λ (b : Blob). MayLeave b (image (section_key l.values s))) values_same (crash (section_key l.values s))

    values_kept : content_at image l.values s ≡ unwrap_or (reads (d (section_key l.values s))) []
    values_kept = elim (none_or_value (m.held s)) [
      | inl none ↦
          let gone : (d (section_key l.values s)).there ≡ false = values_absent rests t s small none in
          nothing_left (d (section_key l.values s)) (may_open.values_absent s small gone) (image (section_key l.values s)) values_left ∙ sym (absent_reads (d (section_key l.values s)) gone)
      | inr some ↦
          let rest : StandsSettled (d (section_key l.values s)) = (values_rest rests t s some.0 some.1).0 in
          ap (λ (o : Option (List ℕ)). unwrap_or o []) (rest_left (d (section_key l.values s)) rest (image (section_key l.values s)) values_left ∙ sym (rest_reads (d (section_key l.values s)) rest))
    ]

    -- ---- both, against what was
    section_kept : (old : Image) → IsBack l apart d x IsChanged false image old → (markers : Markers) → IsTrue (IsChanged s) → KeptHere l old image markers s
    section_kept old back markers changed = elim (none_or_value (w.journal.sections.held s)) [
      | inl none ↦ absurd (cc (subst IsSome none changed))
      | inr some ↦
          let now = index_kept some.0 some.1 in
          let was : old (section_key l.index s) ≡ Some (d (section_key l.index s)).content =
          back.own (section_key l.index s) (inl (s, small, changed, refl)) ∙ rest_reads (d (section_key l.index s)) (index_rest rests t s some.0 some.1) in
          kept_as l old image markers s (λ there. now.0)
          (now.1 ∙ sym (ap (λ (o : Option (List ℕ)). records l.record_size (sealed_prefix l.seal l.page_size (unwrap_or o []))) was))
          (values_kept ∙ sym (ap (λ (o : Option (List ℕ)). unwrap_or o []) (back.own (section_key l.values s) (inr (inl (s, small, changed, refl))))))
    ]

  -- At a moment of a replay each crash keeps what one before it would have kept.
  pub walk_recalls : RecallsAlone l (IsIndexOf l (λ _. ⊤)) d x
  walk_recalls = record {
    recalls = sections_of l apart d x IsChanged false phase refl (λ image old crash fresh back markers lawful s small changed. section_kept image crash fresh s small old back markers changed);
    others = λ q not. others q (λ own. not (own.0, own.1, tt, own.3));
  }

-- so it is in an opening by markers
module _ {F S : Type 0} {gs : _} {g : buffer.Ghosts (PageBlob S gs)} {gives : F → Setting} {takes : WriteFactory → Setting} {told : Type 0} {opened : OpenedList} (run : Run F (PageBlob S gs)) (d x : Disk)
    (are : ArePages g run.layout.seal) (here : Here gives (pair_of run)) (over : IsRun run g gives buffers takes told opened d) (tracked : run.tracked ≡ true) (t : told)
    (reads_so : (q : Key) → MayLeave (d q) (reads (d q))) (may_open : MayBeOpened run.layout d) (moment : Each (Replaying run.layout.seal run.layout.record_size run.walk d) x) where
  opening : IsOpeningRun run g told d
  opening = over.opening tracked

  run_rests : Rests g gives takes told run.layout run.walk.journal.sections run.values opened d
  run_rests = record {
    pages = are;
    index = over.index.over;
    index_settled = opening.index_settled;
    index_here = here.index;
    page_size = here.page_size;
    some = here.some;
    values = over.values;
    values_settled = opening.values_settled;
    values_known = opening.values_known;
    values_here = here.values;
  }

  pub replaying_recalls : RecallsAlone run.layout (IsIndexOf run.layout (λ _. ⊤)) d x
  replaying_recalls = walk_recalls run.layout run.walk run.values d x run_rests over.apart t reads_so may_open moment
