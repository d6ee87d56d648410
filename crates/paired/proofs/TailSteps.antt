-- The cut of an index after some records of a section: the records of later sections go, and then the section is cut.
use Rattle.std.proofs.Common.{◌≡◌, ◌⊎◌, inl, inr, ℕ, ◌*◌, ◌^◌, ◌<◌, ◌≤◌, Bool, true, false, List, [], IsTrue, Option, None, Some, IsSome, IsSomeAnd, refl, sym, ◌∙◌, ap, subst, arith, unwrap_or}
use Rattle.std.specs.Prelude.{nat_le, nat_lt, is_some, min, length}
use Rattle.std.proofs.lemmas.Bool.{cases_lt, le-leb, leb-true, lt-ltb, ltb-true}
use Rattle.blob_device.specs.Disk.{Key, Blob, Disk, MayLeave, IsSettled, reads}
use Rattle.blob_device.specs.Timeline.{Timeline, disk, Always}
use Rattle.blob_device.specs.lemmas.Moments.{always_weaker}
use Rattle.blob_device.specs.lemmas.Puts.{same_or_other}
use Rattle.sealed_pages.specs.ChanceSeal as pages
use Rattle.sealed_pages.specs.SealedPrefix.{sealed_prefix}
use Rattle.sealed_pages.specs.Buffer.{size_of}
use Rattle.sealed_pages.specs.Shown.{shown}
use Rattle.sealed_pages.specs.declared.page_blob.PageBlob.{PageBlob}
use Rattle.section_manager.specs.Lasting.{IsGoing}
use Rattle.section_manager.specs.Sections.{section_key, key_of, IsHeld, IsKnown}
use Rattle.section_manager.specs.lemmas.Keys.{key_injective}
use Rattle.segments.specs.FixedBounds.{CuttingTail}
use Rattle.segments.specs.FixedLists.{Lists}
use Rattle.meta_store.specs.lemmas.Uses.{IsReadable}
use Rattle.paired.specs.lemmas.opening.Laws.{left_as_read}
use Rattle.paired.specs.lemmas.opening.Phases.{IsCut, IsDropped, IsPhase, IsUnmarkedAt, cut_or_dropped_by}
use Rattle.paired.specs.lemmas.pair.Blobs.{again}
use Rattle.paired.specs.lemmas.reconcile.Phases.{has_markers, same_markers}
use Rattle.paired.specs.lemmas.reconcile.Resting.{MarksRest, none_of, reads_there}
use Rattle.section_manager.specs.lemmas.buffers.NothingSealed.{nothing_sealed}
use Rattle.section_manager.specs.lemmas.buffers.UnsealedCalls.{prefix_itself}
use Rattle.value_codec.specs.declared.key.Key8.{Key8}
use Rattle.meta_store.specs.Store.{Store}
use Rattle.paired.specs.Crashes.{IsIndexOf, NoChanceSeal}
use Rattle.paired.specs.Kept.{Layout, Markers, IsMarked, marker_of, content_at, stored_records, is_sound_in}
use Rattle.paired.specs.Opening.{as_read, APrefix, MayBeOpened, RecallsBy}
use Rattle.paired.specs.Pair.{AreApart}
use Rattle.paired.specs.Records.{records, entry_of}
use Rattle.paired.proofs.opening.Ends.{prefix_order, cut_prefix}
use Rattle.paired.proofs.pair.Holding.{leaves_more}
use Rattle.paired.proofs.Steps.{Step}
use Rattle.blob_device.proofs.general.Options.{none_or_value}

-- Each blob of later records is as it was, under removal or gone. The section's own is as it was, or each crash leaves of its sealed bytes a prefix
-- that holds the first p records. No other blob has changed.
pub record CutsTail (l : Layout) (section p : ℕ) (from d : Disk) : Type 0 where
  pub later : (s : ℕ) → s < 2 ^ 64 → section < s → IsGoing (from (section_key l.index s)) (d (section_key l.index s))
  pub cut : (d (section_key l.index section) ≡ from (section_key l.index section))
      ⊎ pages.Leaves l.seal l.page_size (sealed_prefix l.seal l.page_size (content_at (as_read from) l.index section)) (p * l.record_size) (d (section_key l.index section))
  pub others : (q : Key) → (IsIndexOf l (λ s. section ≤ s) q → ⊥) → d q ≡ from q

-- a crash leaves a settled blob that is removed as it reads, or leaves none
pub going_left : (from b : Blob) → IsSettled from → IsGoing from b → (left : Option (List ℕ)) → MayLeave b left → (left ≡ reads from) ⊎ (left ≡ None)
going_left from b settled going None may = inr refl
going_left from b settled (inl same) (Some c) may = inl (left_as_read from settled (Some c) (subst (λ (x : Blob). MayLeave x (Some c)) same may))
going_left from b settled (inr (inl (inl under))) (Some c) may =
    let left = subst (λ (x : Blob). MayLeave x (Some c)) under may in
    inl (left_as_read from settled (Some c) (again from.there from.unsure left.0, record { no_shorter = left.1.no_shorter; no_longer = left.1.no_longer; kept = left.1.kept; bytes = left.1.bytes }))
going_left from b settled (inr (inl (inr under))) (Some c) may =
    let left = subst (λ (x : Blob). MayLeave x (Some c)) under may in
    inl (left_as_read from settled (Some c) (left.0, record { no_shorter = left.1.no_shorter; no_longer = left.1.no_longer; kept = left.1.kept; bytes = left.1.bytes }))
going_left from b settled (inr (inr gone)) (Some c) may = absurd (cc ((subst (λ (x : Blob). MayLeave x (Some c)) gone may).0))

module _ {told : Type 0} {l : Layout} {u : Store Key8 ℕ} (section p : ℕ) (a : Timeline) (marks : MarksRest told l u (disk a)) (t : told) (apart : AreApart l) (map_readable : IsReadable l.markers) (some : 1 ≤ l.record_size)
    (readable : (q : Key) → MayLeave (disk a q) (reads (disk a q)))
    -- later records have settled, and so have all values
    (settled : (s : ℕ) → s < 2 ^ 64 → section < s → IsSettled (disk a (section_key l.index s)))
    (values : (s : ℕ) → s < 2 ^ 64 → (left : Option (List ℕ)) → MayLeave (disk a (section_key l.values s)) left → unwrap_or left [] ≡ content_at (as_read (disk a)) l.values s)
    -- no marker counts a record that goes
    (high : marker_of u.entries section ≤ p) (unmarked : (s m : ℕ) → section < s → IsMarked u.entries s m → ⊥) where
  -- ---- one moment
  module _ (no_chance : NoChanceSeal l (disk a) (as_read (disk a))) (d : Disk) (cuts : CutsTail l section p (disk a) d) where
    -- which sections may change: the later ones, and this one where it is cut
    abbrev changed : Bool → ℕ → Bool
    changed true s = nat_le section s
    changed false s = nat_lt section s

    from_changed : (b : Bool) (s : ℕ) → IsTrue (changed b s) → section ≤ s
    from_changed true s is = leb-true section s is
    from_changed false s is = (let less = ltb-true section s is in omega (arith, less))

    module _ (b : Bool) (others : (q : Key) → (IsIndexOf l (λ s. IsTrue (changed b s)) q → ⊥) → d q ≡ disk a q) where
      phase : IsPhase l apart (disk a) d (changed b) false
      phase = record {
        readable = λ q own. readable q;
        no_chance = no_chance;
        others = λ q none. others q (λ is. none (inl is));
      }

      values_same : (s : ℕ) → d (section_key l.values s) ≡ disk a (section_key l.values s)
      values_same s = others (section_key l.values s) (λ is. apart.values (sym (ap (λ (q : Key). q.0) is.3)))

      values_now : (s : ℕ) → s < 2 ^ 64 → (left : Option (List ℕ)) → MayLeave (d (section_key l.values s)) left → unwrap_or left [] ≡ content_at (as_read (disk a)) l.values s
      values_now s small left may = values s small left (subst (λ (x : Blob). MayLeave x left) (values_same s) may)

      dropped : (s : ℕ) → s < 2 ^ 64 → section < s → IsDropped l apart (disk a) d (changed b) false phase APrefix (marker_of u.entries s) s
      dropped s small later = record {
        allowed = refl;
        index = λ left may. elim (going_left (disk a (section_key l.index s)) (d (section_key l.index s)) (settled s small later) (cuts.later s small later) left may) [
          | inl same ↦ inl same
          | inr gone ↦ inr (ap (λ (x : Option (List ℕ)). records l.record_size (sealed_prefix l.seal l.page_size (unwrap_or x []))) gone ∙ ap (records l.record_size) (nothing_sealed l.seal l.page_size) ∙ none_of l.record_size some)
        ];
        values = values_now s small;
      }

      bare : (s : ℕ) → s < 2 ^ 64 → section < s → IsUnmarkedAt l apart (disk a) d (changed b) false phase s
      bare s small later image old markers crash back lawful m is =
          unmarked s m later (subst (λ (ms : Markers). IsMarked ms.entries s m) (same_markers marks t map_readable apart d (changed b) phase image old markers crash back lawful) is)

      recall : ((s : ℕ) → s < 2 ^ 64 → s ≡ section → IsTrue (changed b s) → IsCut l apart (disk a) d (changed b) false phase APrefix (marker_of u.entries s) s) → RecallsBy l APrefix (disk a) d
      recall here = cut_or_dropped_by l apart (disk a) d (changed b) false phase APrefix prefix_order refl some (λ s. marker_of u.entries s) (has_markers marks t map_readable apart d (changed b) phase)
          (λ s small is. elim (cases_lt section s) [
            | inl later ↦ inr (dropped s small later, bare s small later)
            | inr not ↦ inl (here s small (omega (arith, from_changed b s is, not)) is)
          ])

    -- no other blob has changed, and this one only where it is cut
    later_only : d (section_key l.index section) ≡ disk a (section_key l.index section) → (q : Key) → (IsIndexOf l (λ s. IsTrue (nat_lt section s)) q → ⊥) → d q ≡ disk a q
    later_only same q none = elim (same_or_other q (section_key l.index section)) [
      | inl is ↦ ap d is ∙ same ∙ sym (ap (disk a) is)
      | inr other ↦ cuts.others q (λ is. elim (cases_lt section is.0) [
        | inl later ↦ none (is.0, is.1, lt-ltb section is.0 later, is.3)
        | inr not ↦ (let at : is.0 ≡ section = omega (arith, not, is.2) in other (is.3 ∙ ap (section_key l.index) at))
      ])
    ]

    cut_only : (q : Key) → (IsIndexOf l (λ s. IsTrue (nat_le section s)) q → ⊥) → d q ≡ disk a q
    cut_only q none = cuts.others q (λ is. none (is.0, is.1, le-leb section is.0 is.2, is.3))

    cut_here : pages.Leaves l.seal l.page_size (sealed_prefix l.seal l.page_size (content_at (as_read (disk a)) l.index section)) (p * l.record_size) (d (section_key l.index section))
        → (s : ℕ) → s < 2 ^ 64 → s ≡ section → IsCut l apart (disk a) d (changed true) false (phase true cut_only) APrefix (marker_of u.entries s) s
    cut_here leaves s small is = record {
      p = p;
      high = subst (λ (x : ℕ). marker_of u.entries x ≤ p) (sym is) high;
      prefixes = λ k le few. cut_prefix (entry_of l.place (content_at (as_read (disk a)) l.values s)) (is_sound_in l (as_read (disk a)) s) (marker_of u.entries s) (stored_records l (as_read (disk a)) s) s k;
      leaves = subst (λ (x : ℕ). pages.Leaves l.seal l.page_size (sealed_prefix l.seal l.page_size (content_at (as_read (disk a)) l.index x)) (p * l.record_size) (d (section_key l.index x))) (sym is) leaves;
      values = values_now true cut_only s small;
    }

    tail_recalls : RecallsBy l APrefix (disk a) d
    tail_recalls = elim cuts.cut [
      | inl same ↦ recall false (later_only same) (λ s small is less. absurd (omega (arith, is, ltb-true section s less)))
      | inr leaves ↦ recall true cut_only (λ s small is less. cut_here leaves s small is)
    ]

  -- ---- the step
  pub tail_step : (b : Timeline) → Always a b (CutsTail l section p (disk a)) → Step l APrefix (MayBeOpened l (disk a)) (IsIndexOf l (λ s. section ≤ s)) a b
  tail_step b moments = record {
    only = always_weaker a b (CutsTail l section p (disk a)) (λ d. (q : Key) → (IsIndexOf l (λ s. section ≤ s) q → ⊥) → d q ≡ disk a q) (λ d cuts. cuts.others) moments;
    recalls = λ may. always_weaker a b (CutsTail l section p (disk a)) (RecallsBy l APrefix (disk a)) (tail_recalls may.no_chance) moments;
  }

-- ---- what the cut of a journal says of it
-- The section n bytes are left of has p records in them, which are sealed, and owes a replay where it is longer.
module _ {F S : Type 0} {gs : _} (l : Layout) (j : Lists F (PageBlob S gs)) (section n p : ℕ) (from : Disk) (here : j.sections.partition ≡ l.index)
    (paged : (u : PageBlob S gs) → j.sections.held section ≡ Some u → u.page_size ≡ l.page_size) (there : IsHeld j.sections section → (from (section_key l.index section)).there ≡ true)
    (owed : (u : PageBlob S gs) → j.sections.held section ≡ Some u → n < size_of (shown u) → IsTrue (j.unrecovered section))
    (number : (s : ℕ) → IsKnown j.sections s → s < 2 ^ 64) (is : n ≡ p * l.record_size) (sealed : n ≤ length (sealed_prefix l.seal l.page_size (content_at (as_read from) l.index section))) where
  here_key : (s : ℕ) → key_of j.sections s ≡ section_key l.index s
  here_key s = ap (λ (x : List ℕ). section_key x s) here

  known_or_not : (s : ℕ) → IsKnown j.sections s ⊎ (IsKnown j.sections s → ⊥)
  known_or_not s = elim (none_or_value (j.sections.held s)) [
    | inr some ↦ inl (inl (ap is_some some.1))
    | inl none ↦ elim (none_or_value (j.sections.unopened s)) [
      | inr some ↦ inl (inr (ap is_some some.1))
      | inl neither ↦ inr (λ known. elim known [
        | inl held ↦ absurd (cc (subst IsSome none held))
        | inr unopened ↦ absurd (cc (subst IsSome neither unopened))
      ])
    ]
  ]

  module _ (d : Disk) (cutting : CuttingTail l.seal j section n from d) where
    -- a blob of records that is none of a known section from this one on stays
    still : (q : Key) → ((s : ℕ) → IsKnown j.sections s → section ≤ s → q ≡ section_key l.index s → ⊥) → d q ≡ from q
    still q none = cutting.others q (λ w. none w.0 w.1.0 w.1.1 (w.2 ∙ here_key w.0))

    pub tail_cuts : CutsTail l section p from d
    tail_cuts = record {
      later = λ s small lt. elim (known_or_not s) [
        | inl known ↦ subst (λ (k : Key). IsGoing (from k) (d k)) (here_key s) (cutting.later.each s (known, lt))
        | inr not ↦ inl (still (section_key l.index s) (λ x known from_here same. not (subst (IsKnown j.sections) (sym (key_injective l.index s x small (number x known) same)) known)))
      ];
      cut = elim cutting.last [
        | inl same ↦ inl (subst (λ (k : Key). d k ≡ from k) (here_key section) same)
        | inr longer ↦ inr (left (j.sections.held section) refl longer.0)
      ];
      others = λ q none. still q (λ s known from_here same. none (s, number s known, from_here, same));
    }
      where
        left : (o : Option (PageBlob S gs)) → j.sections.held section ≡ o → IsSomeAnd o (λ u. n < size_of (shown u))
            → pages.Leaves l.seal l.page_size (sealed_prefix l.seal l.page_size (content_at (as_read from) l.index section)) (p * l.record_size) (d (section_key l.index section))
        left None held longer = absurd longer
        left (Some u) held longer =
            let sealed_now : List ℕ = sealed_prefix l.seal l.page_size (content_at (as_read from) l.index section) in
            let content : content_at (as_read from) l.index section ≡ (from (section_key l.index section)).content =
            ap (λ (o : Option (List ℕ)). unwrap_or o []) (reads_there (from (section_key l.index section)) (there (ap is_some held))) in
            let prefix = cutting.prefix u held (owed u held longer) in
            let keyed = subst (λ (k : Key). pages.Leaves l.seal u.page_size (sealed_prefix l.seal u.page_size (from k).content) (min n (length (sealed_prefix l.seal u.page_size (from k).content))) (d k)) (here_key section) prefix in
            let sized = subst (λ (P : ℕ). pages.Leaves l.seal P (sealed_prefix l.seal P (from (section_key l.index section)).content) (min n (length (sealed_prefix l.seal P (from (section_key l.index section)).content))) (d (section_key l.index section))) (paged u held) keyed in
            let read = subst (λ (c : List ℕ). pages.Leaves l.seal l.page_size (sealed_prefix l.seal l.page_size c) (min n (length (sealed_prefix l.seal l.page_size c))) (d (section_key l.index section))) (sym content) sized in
            leaves_more l.seal l.page_size sealed_now sealed_now (min n (length sealed_now)) (p * l.record_size) (d (section_key l.index section)) (prefix_itself sealed_now) (omega (arith, is, sealed)) read
