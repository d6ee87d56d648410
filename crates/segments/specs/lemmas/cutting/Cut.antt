-- What a cut of one section makes of a fixed journal, and what it leaves of the section's blob.
use Rattle.std.proofs.Common.{◌≡◌, ◌≢◌, ◌⊎◌, inl, inr, ℕ, ◌%◌, ◌^◌, ◌<◌, ◌≤◌, min, false, List, length, None, Some, IsSome, IsSomeAnd, IsTrue, refl, sym, ◌∙◌, ap, subst, arith}
use Rattle.std.proofs.lemmas.Bool.{cases_eq, cases_lt}
use Rattle.blob_device.specs.Disk.{Key, Blob}
use Rattle.blob_device.specs.Opened.{OpenedList}
use Rattle.blob_device.specs.Timeline.{Timeline, disk, OnlyAt}
use Rattle.blob_device.specs.lemmas.Moments.{always_now}
use Rattle.sealed_pages.specs.Buffer.{Buffer, size_of, bytes_of, IsSealed}
use Rattle.sealed_pages.specs.ChanceSeal.{Sealing}
use Rattle.sealed_pages.specs.ChanceSeal as chance
use Rattle.sealed_pages.specs.declared.page_blob.PageBlob.{PageBlob}
use Rattle.sealed_pages.specs.SealedPrefix.{sealed_prefix}
use Rattle.sealed_pages.specs.Shown.{shown}
use Rattle.sealed_pages.specs.Unrecovered.{IsUnrecovered, IsAdopted, IsSafeCut}
use Rattle.sealed_pages.specs.lemmas.Unrecovered.{adopted_sealed, prefix_settled, unrecovered_prefix}
use Rattle.sealed_pages.specs.lemmas.cutting.Truncating.{all_flushed, settles_of}
use Rattle.sealed_pages.specs.lemmas.slots.PageCalls.{only_weaker}
use Rattle.section_manager.specs.lemmas.sections.Over.{same_key}
use Rattle.segments.specs.lemmas.adding.Write.{ArePages, IsFine, fine_none, fine_of, fine_same, journal_of, leaves_prefix, leaves_sealed, proven_back, proven_or_not}
use Rattle.section_manager.specs.declared.buffer.SectionBuffer as buffer
use Rattle.section_manager.specs.Leaving.{Leaves, AllMoments}
use Rattle.section_manager.specs.Sections.{key_of, IsSame, SameBounds, IsOver, IsCut}
use Rattle.section_manager.specs.Setting.{Setting}
use Rattle.section_manager.specs.lemmas.Keys.{keys_differ}
use Rattle.segments.specs.FixedLists.{Lists, section_bytes, IsJournal, IsProven}
use Rattle.blob_device.proofs.general.Numbers.{no_rest, times_more}
use Rattle.blob_device.proofs.general.Options.{has_value, none_or_value, some_same, value_of}

-- an empty buffer that stands over its blob is sealed
pub empty_sealed : (seal : List ℕ → ℕ) (u : Buffer) (b : Blob) → u.from < u.page_size → size_of u ≡ 0 → IsAdopted seal u b → IsSealed seal u b
empty_sealed seal u b begun none adopted = adopted_sealed seal u b adopted (λ k lt. absurd (omega (arith, times_more k u.first u.page_size lt, none, begun)))

module _ {S : Type 0} {gs : _} (seal : List ℕ → ℕ) (g : buffer.Ghosts (PageBlob S gs)) (pages : ArePages g seal) (u : PageBlob S gs) where
  -- of a buffer of which all has settled: its bytes are its sealed prefix, or it has more
  pub settled_prefix : (from b : Blob) (least n : ℕ) → u.settled ≡ size_of (shown u) → least ≡ min u.settled n → IsAdopted seal (shown u) from → Leaves (g.NoChanceSeal u) (g.MayKeep u from least) b
      → chance.Leaves seal u.page_size (sealed_prefix seal u.page_size from.content) (min n (length (sealed_prefix seal u.page_size from.content))) b
  settled_prefix from b least n settled is (inl sealed) leaves =
      let settles = settles_of seal (shown u) u.page_size (bytes_of (shown u) from.content) from refl u.fit.begun (all_flushed (shown u) u.fit.within u.order settled) settled sealed.holds in
      subst (λ (l : List ℕ). chance.Leaves seal u.page_size l (min n (length (sealed_prefix seal u.page_size from.content))) b) (sym settles.prefix)
      (leaves_sealed seal g pages u from b least (min n (length (sealed_prefix seal u.page_size from.content))) (omega (arith, is, settled, ap length settles.prefix, sealed.holds.size)) sealed leaves)
  settled_prefix from b least n settled is (inr un) leaves =
      leaves_prefix seal g pages u from b least (min n (length (sealed_prefix seal u.page_size from.content))) (omega (arith, is, settled, (unrecovered_prefix seal (shown u) from (omega (arith, u.fit.begun)) un).1)) un leaves

module _ {F S : Type 0} {gs : _} (seal : List ℕ → ℕ) (size : ℕ) (told : Type 0) (g : buffer.Ghosts (PageBlob S gs)) (pages : ArePages g seal) (gives : F → Setting) (j : Lists F (PageBlob S gs)) (old : OpenedList) (a b : Timeline)
    (journal : IsJournal g gives seal size told j old (disk a)) (s n : ℕ) where
  module _ (t : told) (u : PageBlob S gs) (held : j.sections.held s ≡ Some u) where
    adopted : IsAdopted seal (shown u) (disk a (key_of j.sections s))
    adopted = (pages.stands u (disk a (key_of j.sections s)) ((journal.over.disk t).stands s u held)).adopted

    pub safe_cut : ((IsProven j s → ⊥) → n ≤ length (sealed_prefix seal u.page_size (disk a (key_of j.sections s)).content)) → IsSafeCut seal (shown u) n (disk a (key_of j.sections s))
    safe_cut bound = elim (proven_or_not j s) [
      | inl proven ↦ inl ((journal.disk t).sealed s u held proven)
      | inr not ↦ elim adopted [ inl sealed ↦ inl sealed | inr un ↦ inr (inl (un, bound not)) ]
    ]

    module _ (moments : AllMoments (key_of j.sections s) (λ x. (w : PageBlob S gs) → j.sections.held s ≡ Some w → Leaves (g.NoChanceSeal w) (g.MayKeep w (disk a (key_of j.sections s)) (min (g.settled w) n)) x) a b) where
      pub cut_sealing : IsSealed seal (shown u) (disk a (key_of j.sections s)) → Sealing seal u.page_size (section_bytes j.sections (disk a) s) (min u.settled n) (key_of j.sections s) a b
      cut_sealing sealed = only_weaker a b (key_of j.sections s) (disk a) (λ x. (w : PageBlob S gs) → j.sections.held s ≡ Some w → Leaves (g.NoChanceSeal w) (g.MayKeep w (disk a (key_of j.sections s)) (min (g.settled w) n)) x)
          (chance.Leaves seal u.page_size (section_bytes j.sections (disk a) s) (min u.settled n))
          (λ x leaves. rw held (leaves_sealed seal g pages u (disk a (key_of j.sections s)) x (min (g.settled u) n) (min u.settled n) (ap (λ (m : ℕ). min m n) (pages.settled u)) sealed (leaves u held)))
          moments

      pub cut_unsealed : IsUnrecovered seal (shown u) (disk a (key_of j.sections s)) → Sealing seal u.page_size (sealed_prefix seal u.page_size (disk a (key_of j.sections s)).content)
          (min n (length (sealed_prefix seal u.page_size (disk a (key_of j.sections s)).content))) (key_of j.sections s) a b
      cut_unsealed un =
          let all : length (sealed_prefix seal u.page_size (disk a (key_of j.sections s)).content) ≤ u.settled = prefix_settled seal (shown u) (disk a (key_of j.sections s)) (omega (arith, u.fit.begun)) un in
          only_weaker a b (key_of j.sections s) (disk a) (λ x. (w : PageBlob S gs) → j.sections.held s ≡ Some w → Leaves (g.NoChanceSeal w) (g.MayKeep w (disk a (key_of j.sections s)) (min (g.settled w) n)) x)
          (chance.Leaves seal u.page_size (sealed_prefix seal u.page_size (disk a (key_of j.sections s)).content) (min n (length (sealed_prefix seal u.page_size (disk a (key_of j.sections s)).content))))
          (λ x leaves. leaves_prefix seal g pages u (disk a (key_of j.sections s)) x (min (g.settled u) n) (min n (length (sealed_prefix seal u.page_size (disk a (key_of j.sections s)).content))) (omega (arith, pages.settled u, all)) un (leaves u held))
          moments

      pub cut_prefix : IsTrue (j.unrecovered s) → Sealing seal u.page_size (sealed_prefix seal u.page_size (disk a (key_of j.sections s)).content)
          (min n (length (sealed_prefix seal u.page_size (disk a (key_of j.sections s)).content))) (key_of j.sections s) a b
      cut_prefix owes = only_weaker a b (key_of j.sections s) (disk a) (λ x. (w : PageBlob S gs) → j.sections.held s ≡ Some w → Leaves (g.NoChanceSeal w) (g.MayKeep w (disk a (key_of j.sections s)) (min (g.settled w) n)) x)
          (chance.Leaves seal u.page_size (sealed_prefix seal u.page_size (disk a (key_of j.sections s)).content) (min n (length (sealed_prefix seal u.page_size (disk a (key_of j.sections s)).content))))
          (λ x leaves. settled_prefix seal g pages u (disk a (key_of j.sections s)) x (min (g.settled u) n) n (journal.owes_settled.settled s u held owes) (ap (λ (m : ℕ). min m n) (pages.settled u)) adopted (leaves u held))
          moments

  module _ (k : Lists F (PageBlob S gs)) (Q : Blob → Type 0) (small : s < 2 ^ 64) (bounds : SameBounds j.sections k.sections) (unopened : k.sections.unopened s ≡ j.sections.unopened s)
      (owes : (q : ℕ) → (q ≢ s) ⊎ (0 < n) → k.unrecovered q ≡ j.unrecovered q) (emptied : n ≡ 0 → k.unrecovered s ≡ false)
      (lowered : k.floor_of s ≡ min (j.floor_of s) n) (floors : (q : ℕ) → q ≢ s → k.floor_of q ≡ j.floor_of q) where
    fine : (q : ℕ) → IsFine seal size told j (disk a) q
    fine = fine_of seal size told g gives j old (disk a) journal

    proven_before : 0 < n → IsProven k s → IsProven j s
    proven_before some is = record { checked = sym (owes s (inr some)) ∙ is.checked; free = omega (arith, some, lowered, is.free) }

    owed_before : IsTrue (k.unrecovered s) → IsTrue (j.unrecovered s)
    owed_before is = elim (cases_eq n 0) [
      | inl none ↦ absurd (cc (emptied none, is))
      | inr some ↦ sym (owes s (inr (omega (arith, some)))) ∙ is
    ]

    module _ (u v : PageBlob S gs) (was : j.sections.held s ≡ Some u) (now : k.sections.held s ≡ Some v) (did : IsCut g told n u v (disk a (key_of j.sections s)) (disk b (key_of j.sections s))) where
      cut_shorter : n < size_of (shown u) → n % size ≡ 0 → IsFine seal size told k (disk b) s
      cut_shorter lt whole = record {
        owes_held = λ is. subst IsSome (sym now) refl;
        owes_settled = λ w held is. subst (λ (x : PageBlob S gs). x.settled ≡ size_of (shown x)) (some_same v w (sym now ∙ held)) (sym (pages.settled v) ∙ did.settled longer ∙ sym long);
        sealed = λ t w held is. subst (λ (x : PageBlob S gs). IsSealed seal (shown x) (disk b (key_of k.sections s))) (some_same v w (sym now ∙ held))
            (subst (λ (q : Key). IsSealed seal (shown v) (disk b q)) (sym (same_key j.sections k.sections bounds s)) (pages.whole v (disk b (key_of j.sections s)) (did.mended t longer)));
        whole = λ t w held is. subst (λ (x : PageBlob S gs). size_of (shown x) % size ≡ 0) (some_same v w (sym now ∙ held)) (ap (λ (m : ℕ). m % size) long ∙ whole);
        later = λ t is. omega (arith, bounds.ceiling, (fine s).later t (subst IsSome unopened is));
      }
        where
          longer : n < g.byte_count u
          longer = omega (arith, lt, pages.count u)

          long : size_of (shown v) ≡ n
          long = omega (arith, did.size, pages.count v, longer)

      cut_nothing : size_of (shown u) ≤ n → IsFine seal size told k (disk b) s
      cut_nothing le = elim (cases_eq n 0) [
        | inl none ↦ record {
          owes_held = λ is. absurd (cc (emptied none, is));
          owes_settled = λ w held is. absurd (cc (emptied none, is));
          sealed = λ t w held is. subst (λ (x : PageBlob S gs). IsSealed seal (shown x) (disk b (key_of k.sections s))) (u_is w held)
              (subst (IsSealed seal (shown u)) (sym (ap (disk b) (same_key j.sections k.sections bounds s) ∙ did.stays t past_end))
              (empty_sealed seal (shown u) (disk a (key_of j.sections s)) u.fit.begun (omega (arith, le, none)) (adopted t u was)));
          whole = λ t w held is. subst (λ (x : PageBlob S gs). size_of (shown x) % size ≡ 0) (u_is w held) (ap (λ (m : ℕ). m % size) (let e : size_of (shown u) ≡ 0 = omega (arith, le, none) in e) ∙ no_rest size);
          later = λ t is. omega (arith, bounds.ceiling, (fine s).later t (subst IsSome unopened is));
        }
        | inr some ↦ fine_same seal size told j k (disk a) (disk b) s bounds (fine s) (record { held = now ∙ ap Some (did.same past_end) ∙ sym was; unopened = unopened }) (owes s (inr (omega (arith, some)))) (proven_before (omega (arith, some))) (λ t w held. did.stays t past_end)
      ]
        where
          past_end : g.byte_count u ≤ n
          past_end = omega (arith, le, pages.count u)

          u_is : (w : PageBlob S gs) → k.sections.held s ≡ Some w → u ≡ w
          u_is w held = sym (did.same past_end) ∙ some_same v w (sym now ∙ held)

    pub cut_journal : (new : OpenedList) → IsOver g gives told k.sections new (disk b)
        → ((u : PageBlob S gs) → j.sections.held s ≡ Some u → IsSomeAnd (k.sections.held s) (λ v. IsCut g told n u v (disk a (key_of j.sections s)) (disk b (key_of j.sections s))))
        → (j.sections.held s ≡ None → k.sections.held s ≡ None) → ((q : ℕ) → q ≢ s → IsSame j.sections k.sections q) → (IsSomeAnd (j.sections.held s) (λ u. n < size_of (shown u)) → n % size ≡ 0)
        → (told → AllMoments (key_of j.sections s) Q a b) → IsJournal g gives seal size told k new (disk b)
    cut_journal new over cut absent others whole moments = journal_of seal size told g gives k new (disk b) over (λ q. elim (cases_eq q s) [
      | inl is ↦ subst (IsFine seal size told k (disk b)) (sym is) here
      | inr other ↦ fine_same seal size told j k (disk a) (disk b) q bounds (fine q) (others q other) (owes q (inl other)) (proven_back j k q (owes q (inl other)) (floors q other))
          (λ t u held. (always_now a b (OnlyAt (key_of j.sections s) (disk a) Q) (moments t)).others (key_of j.sections q)
          (keys_differ j.sections.partition q s (journal.over.opened_list.number q (inl (subst IsSome (sym held) refl))) small other))
    ])
      where
        here : IsFine seal size told k (disk b) s
        here = elim (none_or_value (j.sections.held s)) [
          | inl none ↦ fine_none seal size told j k (disk a) (disk b) s bounds (fine s) none (absent none) unopened owed_before
          | inr u ↦
              let v = value_of (k.sections.held s) (λ v. IsCut g told n u.0 v (disk a (key_of j.sections s)) (disk b (key_of j.sections s))) (cut u.0 u.1) in
              elim (cases_lt n (size_of (shown u.0))) [
                | inl lt ↦ cut_shorter u.0 v.value u.1 v.is v.has lt (whole (has_value (j.sections.held s) (λ w. n < size_of (shown w)) u.0 u.1 lt))
                | inr le ↦ cut_nothing u.0 v.value u.1 v.is v.has le
              ]
        ]
