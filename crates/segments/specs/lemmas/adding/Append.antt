-- What an append leaves of the section's blob at each moment, and what it makes of the section.
use Rattle.std.proofs.Common.{◌≡◌, ◌≢◌, ◌⊎◌, inl, inr, ℕ, ◌+◌, ◌%◌, ◌^◌, ◌<◌, ◌≤◌, Bool, true, false, cond, List, [], ◌∷◌, ◌++◌, length, None, Some, IsSome, add-zero, refl, sym, ◌∙◌, ap, subst, arith}
use Rattle.std.proofs.lemmas.Bool.{cases_eq}
use Rattle.std.proofs.Math.Nat.{add-mod-mod}
use Rattle.std.proofs.Math.Seq.{take-append_seam}
use Rattle.blob_device.specs.Change.{Make, done}
use Rattle.blob_device.specs.Disk.{Key, Blob, Disk}
use Rattle.blob_device.specs.Opened.{OpenedList}
use Rattle.blob_device.specs.Timeline.{Timeline, disk, Always, OnlyAt}
use Rattle.blob_device.specs.lemmas.Moments.{always_now, always_then, only_start}
use Rattle.sealed_pages.specs.Buffer.{Buffer, extent, size_of, bytes_of, FlushesNothing, IsSealed}
use Rattle.sealed_pages.specs.ChanceSeal.{Sealing}
use Rattle.sealed_pages.specs.Cutting.{StandsSettled}
use Rattle.sealed_pages.specs.declared.page_blob.PageBlob.{PageBlob}
use Rattle.sealed_pages.specs.SealedPrefix.{sealed_prefix, adopted_size}
use Rattle.sealed_pages.specs.Unrecovered.{HasPrefix, KeepsPrefix, IsAdopted, IsUnrecovered}
use Rattle.sealed_pages.specs.Shown.{shown}
use Rattle.sealed_pages.specs.View.{view}
use Rattle.sealed_pages.specs.lemmas.Unrecovered.{unrecovered_prefix}
use Rattle.sealed_pages.specs.lemmas.adopted.Adopt.{length-data_from}
use Rattle.sealed_pages.specs.lemmas.cutting.Calls.{sealing_whole}
use Rattle.sealed_pages.specs.lemmas.cutting.Shortening.{size_before}
use Rattle.sealed_pages.specs.lemmas.cutting.Truncating.{all_flushed}
use Rattle.sealed_pages.specs.lemmas.memory.Holding.{holds_start}
use Rattle.sealed_pages.specs.lemmas.slots.PageCalls.{only_weaker}
use Rattle.section_manager.specs.lemmas.sections.Over.{same_key}
use Rattle.segments.specs.lemmas.adding.Write.{ArePages, IsFine, fine_of, fine_same, journal_of, proven_back}
use Rattle.segments.specs.lemmas.cutting.Cut.{empty_sealed}
use Rattle.section_manager.specs.declared.buffer.SectionBuffer as buffer
use Rattle.section_manager.specs.Lasting.{IsOpening}
use Rattle.section_manager.specs.Leaving.{AllMoments}
use Rattle.section_manager.specs.managing.Lending.{IsPut}
use Rattle.section_manager.specs.Sealed.{adopted_bytes}
use Rattle.section_manager.specs.SealedLaws.{counted}
use Rattle.section_manager.specs.Sections.{Sections, key_of, IsHeld, IsKnown, IsSame, SameBounds, IsOver}
use Rattle.section_manager.specs.Setting.{Setting}
use Rattle.section_manager.specs.lemmas.Keys.{keys_differ}
use Rattle.segments.specs.FixedLasting.{IsBeginning}
use Rattle.segments.specs.FixedLists.{Lists, section_bytes, section_size, IsJournal, IsRecovered, IsProven}
use Rattle.blob_device.proofs.general.Numbers.{no_rest}
use Rattle.blob_device.proofs.general.Options.{none_or_value, some_same}

no_items : (l : List ℕ) → length l ≡ 0 → l ≡ []
no_items [] none = refl
no_items (x ∷ xs) none = absurd (omega (arith, none))

-- a blob that was not there is made empty
pub made_empty : (from b : Blob) → from.there ≡ false → b ≡ done Make from → b.content ≡ []
made_empty from b not made = ap (λ (x : Blob). x.content) made ∙ ap (λ (t : Bool). cond t from.content []) not

-- nothing is adopted there
pub nothing_adopted : (seal : List ℕ → ℕ) (P : ℕ) (c : List ℕ) → c ≡ [] → length (adopted_bytes seal P c) ≡ 0
nothing_adopted seal P c none = length-data_from P (view c) (adopted_size seal P c) 0 ∙ (let e : adopted_size seal P c ≡ 0 = omega (arith, size_before seal P c 0 (omega (arith, ap length none))) in e)

-- whole items behind whole items
no_part : (a n size : ℕ) → n % size ≡ 0 → a % size ≡ 0 → (a + n) % size ≡ 0
no_part a n size few whole = sym (add-mod-mod a n size) ∙ ap (λ (x : ℕ). (a + x) % size) few ∙ ap (λ (x : ℕ). x % size) (add-zero a) ∙ whole

-- A buffer that is sealed keeps what it holds, with whatever may follow.
pub sealed_start : (seal : List ℕ → ℕ) (u : Buffer) (more : List ℕ) (key : Key) (t : Timeline) → u.from < u.page_size → IsSealed seal u (disk t key) → Sealing seal u.page_size (bytes_of u (disk t key).content ++ more) u.settled key t t
sealed_start seal u more key t begun sealed =
    let all = bytes_of u (disk t key).content in
    sealing_whole seal u.page_size (all ++ more) (length all) u.settled key t t
    (subst (λ (l : List ℕ). Sealing seal u.page_size l u.settled key t t) (sym (take-append_seam all more)) (holds_start seal u all key t begun sealed.holds))

-- One that is not keeps its sealed prefix.
pub steady_start : (seal : List ℕ → ℕ) (u : Buffer) (key : Key) (t : Timeline) → u.from < u.page_size → IsUnrecovered seal u (disk t key) → KeepsPrefix seal u.page_size (sealed_prefix seal u.page_size (disk t key).content) key t t
steady_start seal u key t begun un = only_start t key (HasPrefix seal u.page_size (sealed_prefix seal u.page_size (disk t key).content)) (unrecovered_prefix seal u (disk t key) (omega (arith, begun)) un).0

module _ {F S : Type 0} {gs : _} (seal : List ℕ → ℕ) (size : ℕ) (told : Type 0) (g : buffer.Ghosts (PageBlob S gs)) (pages : ArePages g seal) (gives : F → Setting) (j : Lists F (PageBlob S gs)) (old : OpenedList) (a : Timeline)
    (journal : IsJournal g gives seal size told j old (disk a)) (s : ℕ) (recovered : IsRecovered j s) where
  -- where nothing was called, each crash leaves a prefix of the bytes and of what may follow
  pub start_sealing : (u : PageBlob S gs) → j.sections.held s ≡ Some u → IsSealed seal (shown u) (disk a (key_of j.sections s)) → (more : List ℕ) → Sealing seal u.page_size (section_bytes j.sections (disk a) s ++ more) u.settled (key_of j.sections s) a a
  start_sealing u held sealed more = rw held (sealed_start seal (shown u) more (key_of j.sections s) a u.fit.begun sealed)

  not_there : s < 2 ^ 64 → told → j.sections.held s ≡ None → (disk a (key_of j.sections s)).there ≡ false
  not_there small t none = go (disk a (key_of j.sections s)).there refl
    where
      known : IsKnown j.sections s → ⊥
      known (inl held) = absurd (cc (subst IsSome none held))
      known (inr unopened) = absurd (omega (arith, (journal.unopened t).later s unopened, recovered.below))

      go : (there : Bool) → (disk a (key_of j.sections s)).there ≡ there → there ≡ false
      go false is = refl
      go true is = absurd (known ((journal.over.disk t).whose s small is))

  -- What a `take` answered.
  pub record Takes (b : Timeline) (u : PageBlob S gs) : Type 0 where
    pub same : (w : PageBlob S gs) → j.sections.held s ≡ Some w → u ≡ w
    pub untouched : IsHeld j.sections s → disk b ≡ disk a
    pub stands : told → g.Stands u (disk b (key_of j.sections s))
    pub made : told → j.sections.held s ≡ None → disk b (key_of j.sections s) ≡ done Make (disk a (key_of j.sections s))
    pub bytes : told → j.sections.held s ≡ None → g.bytes u (disk b (key_of j.sections s)).content ≡ g.holds (gives j.sections.factory) (disk b (key_of j.sections s)).content

  module _ (small : s < 2 ^ 64) (b : Timeline) (u : PageBlob S gs) (takes : Takes b u) where
    -- where the section was not held, the buffer is empty
    pub made_size : told → j.sections.held s ≡ None → size_of (shown u) ≡ 0
    made_size t none =
        sym (counted (shown u) (disk b (key_of j.sections s)).content)
        ∙ ap length (sym (pages.bytes u (disk b (key_of j.sections s)).content) ∙ takes.bytes t none ∙ pages.holds (gives j.sections.factory) (disk b (key_of j.sections s)).content)
        ∙ nothing_adopted seal (gives j.sections.factory).page_size (disk b (key_of j.sections s)).content
        (made_empty (disk a (key_of j.sections s)) (disk b (key_of j.sections s)) (not_there small t none) (takes.made t none))

    -- it stands over its blob, and is sealed where it is new or proven
    pub taken_adopted : told → IsAdopted seal (shown u) (disk b (key_of j.sections s))
    taken_adopted t = (pages.stands u (disk b (key_of j.sections s)) (takes.stands t)).adopted

    -- it is sealed where the section was held and sealed
    pub taken_still : (w : PageBlob S gs) → j.sections.held s ≡ Some w → IsSealed seal (shown w) (disk a (key_of j.sections s)) → IsSealed seal (shown u) (disk b (key_of j.sections s))
    taken_still w held sealed = subst (λ (x : PageBlob S gs). IsSealed seal (shown x) (disk b (key_of j.sections s))) (sym (takes.same w held))
        (subst (λ (d : Disk). IsSealed seal (shown w) (d (key_of j.sections s))) (sym (takes.untouched (subst IsSome (sym held) refl))) sealed)

    pub taken_sealed : told → (j.sections.held s ≡ None) ⊎ IsProven j s → IsSealed seal (shown u) (disk b (key_of j.sections s))
    taken_sealed t which = elim which [
      | inl none ↦ empty_sealed seal (shown u) (disk b (key_of j.sections s)) u.fit.begun (made_size t none) (pages.stands u (disk b (key_of j.sections s)) (takes.stands t)).adopted
      | inr proven ↦ elim (none_or_value (j.sections.held s)) [
        | inl none ↦ empty_sealed seal (shown u) (disk b (key_of j.sections s)) u.fit.begun (made_size t none) (taken_adopted t)
        | inr w ↦ taken_still w.0 w.1 ((journal.disk t).sealed s w.0 w.1 proven)
      ]
    ]

    pub taken_size : told ⊎ IsHeld j.sections s → size_of (shown u) ≡ section_size j.sections s
    taken_size which = elim (none_or_value (j.sections.held s)) [
      | inl none ↦ rw none (made_size (is_told none which) none)
      | inr w ↦ rw w.1 (ap (λ (x : PageBlob S gs). size_of (shown x)) (takes.same w.0 w.1))
    ]
      where
        is_told : j.sections.held s ≡ None → told ⊎ IsHeld j.sections s → told
        is_told none (inl t) = t
        is_told none (inr held) = absurd (cc (subst IsSome none held))

    pub taken_bytes : told → bytes_of (shown u) (disk b (key_of j.sections s)).content ≡ section_bytes j.sections (disk a) s
    taken_bytes t = elim (none_or_value (j.sections.held s)) [
      | inl none ↦ rw none (no_items (bytes_of (shown u) (disk b (key_of j.sections s)).content) (counted (shown u) (disk b (key_of j.sections s)).content ∙ made_size t none))
      | inr w ↦ rw w.1 (ap (λ (x : PageBlob S gs). bytes_of (shown x) (disk b (key_of j.sections s)).content) (takes.same w.0 w.1)
          ∙ ap (λ (d : Disk). bytes_of (shown w.0) (d (key_of j.sections s)).content) (takes.untouched (subst IsSome (sym w.1) refl)))
    ]

    taken_whole : told → size_of (shown u) % size ≡ 0
    taken_whole t = elim (none_or_value (j.sections.held s)) [
      | inl none ↦ ap (λ (n : ℕ). n % size) (made_size t none) ∙ no_rest size
      | inr w ↦ ap (λ (x : PageBlob S gs). size_of (shown x) % size) (takes.same w.0 w.1) ∙ (journal.disk t).whole s w.0 w.1 recovered.checked
    ]

    -- too many bytes for the buffer are too many for the section
    pub full_here : told ⊎ IsHeld j.sections s → (P n : ℕ) → u.page_size ≡ P → 2 ^ 64 ≤ extent u.page_size (size_of (shown u) + n) → 2 ^ 64 ≤ extent P (section_size j.sections s + n)
    full_here which P n page big =
        subst (λ (m : ℕ). 2 ^ 64 ≤ extent P (m + n)) (taken_size which)
        (subst (λ (p : ℕ). 2 ^ 64 ≤ extent p (size_of (shown u) + n)) page big)

    -- the moments of a call that takes the bytes of a held section and then adds to them
    pub held_sealing : told → (w : PageBlob S gs) → j.sections.held s ≡ Some w → (more : List ℕ) (c : Timeline) → a ≡ b → Sealing seal u.page_size (bytes_of (shown u) (disk b (key_of j.sections s)).content ++ more) u.settled (key_of j.sections s) b c
        → Sealing seal w.page_size (section_bytes j.sections (disk a) s ++ more) w.settled (key_of j.sections s) a c
    held_sealing t w held more c stood sealing =
        subst (λ (x : PageBlob S gs). Sealing seal x.page_size (section_bytes j.sections (disk a) s ++ more) x.settled (key_of j.sections s) a c) (takes.same w held)
        (subst (λ (l : List ℕ). Sealing seal u.page_size (l ++ more) u.settled (key_of j.sections s) a c) (taken_bytes t)
        (subst (λ (x : Timeline). Sealing seal u.page_size (bytes_of (shown u) (disk b (key_of j.sections s)).content ++ more) u.settled (key_of j.sections s) x c) (sym stood) sealing))

    -- What an append of n bytes, whole items, answered.
    pub record Added (n : ℕ) (c : Timeline) (v : PageBlob S gs) : Type 0 where
      pub few : n % size ≡ 0
      pub idle : FlushesNothing (shown u) n → disk c ≡ disk b
      pub adopted : told → IsAdopted seal (shown v) (disk c (key_of j.sections s))
      pub sealed : told → IsSealed seal (shown u) (disk b (key_of j.sections s)) → IsSealed seal (shown v) (disk c (key_of j.sections s))
      pub long : size_of (shown v) ≡ size_of (shown u) + n
      pub settled : v.settled ≡ u.settled
      pub others : told → (q : Key) → q ≢ key_of j.sections s → disk c q ≡ disk b q
      pub before : told → (q : Key) → q ≢ key_of j.sections s → disk b q ≡ disk a q

    module _ (n : ℕ) (c : Timeline) (v : PageBlob S gs) (appends : Added n c v) where
      -- all has settled only where nothing was added
      rested : told → v.settled ≡ size_of (shown v) → StandsSettled (disk c (key_of j.sections s))
      rested t all =
          let was_all : u.settled ≡ size_of (shown u) = omega (arith, all, appends.long, appends.settled, u.order, u.fit.within) in
          let none : n ≡ 0 = omega (arith, all, appends.long, appends.settled, u.order, u.fit.within) in
          let flushed : u.from ≡ length u.tip.items = all_flushed (shown u) u.fit.within u.order was_all in
          subst (λ (d : Disk). StandsSettled (d (key_of j.sections s))) (sym (appends.idle (inr (omega (arith, none, flushed)))))
          ((pages.stands u (disk b (key_of j.sections s)) (takes.stands t)).rest was_all)

      -- what the append made of the buffer stands over the blob
      pub added_stands : told → g.Stands v (disk c (key_of j.sections s))
      added_stands t = pages.is_stands v (disk c (key_of j.sections s)) (record {
        adopted = appends.adopted t;
        rest = rested t;
      })

    module _ (n : ℕ) (m : Sections F (PageBlob S gs)) (first : (q : ℕ) → q ≢ s → IsSame j.sections m q) (bounds : SameBounds j.sections m) (c : Timeline) (v : PageBlob S gs) (new : OpenedList) (appends : Added n c v)
        (k : Lists F (PageBlob S gs)) (over_again : IsOver g gives told k.sections new (disk c)) (put : IsPut s v m k.sections) (owes : (q : ℕ) → k.unrecovered q ≡ j.unrecovered q) (floors : (q : ℕ) → k.floor_of q ≡ j.floor_of q) where
      same_bounds : SameBounds j.sections k.sections
      same_bounds = record {
        place = record { partition = put.bounds.place.partition ∙ bounds.place.partition; factory = put.bounds.place.factory ∙ bounds.place.factory };
        floor = put.bounds.floor ∙ bounds.floor;
        ceiling = put.bounds.ceiling ∙ bounds.ceiling;
      }

      fine_here : IsFine seal size told k (disk c) s
      fine_here = record {
        owes_held = λ is. subst IsSome (sym put.here) refl;
        owes_settled = λ w held is. absurd (cc (owes s, recovered.checked, is));
        sealed = λ t w held is. subst (λ (x : PageBlob S gs). IsSealed seal (shown x) (disk c (key_of k.sections s))) (some_same v w (sym put.here ∙ held))
            (subst (λ (q : Key). IsSealed seal (shown v) (disk c q)) (sym (same_key j.sections k.sections same_bounds s)) (appends.sealed t (taken_sealed t (inr (proven_back j k s (owes s) (floors s) is)))));
        whole = λ t w held is. subst (λ (x : PageBlob S gs). size_of (shown x) % size ≡ 0) (some_same v w (sym put.here ∙ held))
            (ap (λ (x : ℕ). x % size) appends.long ∙ no_part (size_of (shown u)) n size appends.few (taken_whole t));
        later = λ t is. absurd (cc (subst IsSome put.opened is));
      }

      pub append_journal : IsJournal g gives seal size told k new (disk c)
      append_journal = journal_of seal size told g gives k new (disk c) over_again (λ q. elim (cases_eq q s) [
        | inl is ↦ subst (IsFine seal size told k (disk c)) (sym is) fine_here
        | inr other ↦ fine_same seal size told j k (disk a) (disk c) q same_bounds (fine_of seal size told g gives j old (disk a) journal q)
            (record { held = (put.others q other).held ∙ (first q other).held; unopened = (put.others q other).unopened ∙ (first q other).unopened }) (owes q) (proven_back j k q (owes q) (floors q))
            (λ t w held. (let differ = keys_differ j.sections.partition q s (journal.over.opened_list.number q (inl (subst IsSome (sym held) refl))) small other in
            appends.others t (key_of j.sections q) differ ∙ appends.before t (key_of j.sections q) differ))
      ])

  -- the moments of a call that makes the section and adds to it
  pub beginning : (small : s < 2 ^ 64) (P : ℕ) (b c : Timeline) (u : PageBlob S gs) (more : List ℕ) → Takes b u → (told → u.page_size ≡ P) → told → j.sections.held s ≡ None → AllMoments (key_of j.sections s) (IsOpening (disk a (key_of j.sections s))) a b
      → Sealing seal u.page_size (bytes_of (shown u) (disk b (key_of j.sections s)).content ++ more) u.settled (key_of j.sections s) b c
      → AllMoments (key_of j.sections s) (IsBeginning seal P more (disk a (key_of j.sections s))) a c
  beginning small P b c u more takes page t none opening sealing = always_then a b c (OnlyAt (key_of j.sections s) (disk a) (IsBeginning seal P more (disk a (key_of j.sections s))))
      (only_weaker a b (key_of j.sections s) (disk a) (IsOpening (disk a (key_of j.sections s))) (IsBeginning seal P more (disk a (key_of j.sections s))) (λ x is. inl is) opening)
      (later (subst (λ (n : ℕ). Sealing seal n more 0 (key_of j.sections s) b c) (page t)
      (subst (λ (n : ℕ). Sealing seal u.page_size more n (key_of j.sections s) b c) settled
      (subst (λ (l : List ℕ). Sealing seal u.page_size (l ++ more) u.settled (key_of j.sections s) b c) empty sealing))))
    where
      empty : bytes_of (shown u) (disk b (key_of j.sections s)).content ≡ []
      empty = no_items (bytes_of (shown u) (disk b (key_of j.sections s)).content) (counted (shown u) (disk b (key_of j.sections s)).content ∙ made_size small b u takes t none)

      settled : u.settled ≡ 0
      settled = omega (arith, u.order, u.fit.within, made_size small b u takes t none)

      later : Sealing seal P more 0 (key_of j.sections s) b c → Always b c (OnlyAt (key_of j.sections s) (disk a) (IsBeginning seal P more (disk a (key_of j.sections s))))
      later sealed = record {
        later = sealed.later;
        kept = sealed.kept;
        each = λ m lo hi. (let only = sealed.each m lo hi in record {
          here = inr only.here;
          others = λ q other. only.others q other ∙ (always_now a b (OnlyAt (key_of j.sections s) (disk a) (IsOpening (disk a (key_of j.sections s)))) opening).others q other;
        });
      }
