-- What an opening gives back of what a crash left, and what a prune leaves of blobs.
use Rattle.std.specs.Prelude.{◌≡◌, ◌⊎◌, ℕ, ◌-◌, ◌^◌, ◌<◌, Bool, true, false, List, [], ◌∷◌, length, Option, None, Some, Result, Ok, IsSome, IsTrue}
use Rattle.std.proofs.Common.{refl, sym, ap, ◌∙◌, subst, inl, inr, arith}
use Rattle.std.proofs.lemmas.Bool.{cases_lt}
use Rattle.blob_device.specs.Disk.{Blob, Disk, Key}
use Rattle.blob_device.specs.Timeline.{disk, Each}
use Rattle.blob_device.specs.declared.device.Device as device
use Rattle.blob_device.specs.lemmas.Moments.{always_now}
use Rattle.value_codec.specs.declared.codec.Error as codec
use Rattle.sealed_pages.specs.Buffer.{size_of, bytes_of}
use Rattle.sealed_pages.specs.SealedPrefix.{sealed_prefix}
use Rattle.sealed_pages.specs.Shown.{shown}
use Rattle.sealed_pages.specs.declared.page_blob.PageBlob.{PageBlob}
use Rattle.sealed_pages.specs.declared.pages.Pages.{Pages}
use Rattle.section_manager.specs.Lasting.{IsSettling, Removing}
use Rattle.section_manager.specs.SealedLaws.{counted}
use Rattle.section_manager.specs.Sections.{Sections, section_key, key_of, IsHeld, IsKnown}
use Rattle.section_manager.specs.Setting.{Setting}
use Rattle.section_manager.specs.declared.buffer.SectionBuffer as buffer
use Rattle.section_manager.specs.declared.journal.Error.{Error}
use Rattle.section_manager.specs.declared.sealed.AppendFactory.{AppendFactory}
use Rattle.section_manager.specs.lemmas.Keys.{key_injective}
use Rattle.segments.specs.FixedLists.{Lists, section_bytes}
use Rattle.segments.specs.FixedReplay.{Walk}
use Rattle.segments.specs.lemmas.FixedRested.{held_prefix}
use Rattle.segments.specs.lemmas.adding.Write.{ArePages}
use Rattle.segments.specs.lemmas.held.Sections.{bytes_here, size_here}
use Rattle.variable_journal.specs.Draining.{HasComeTo}
use Rattle.variable_journal.specs.Finishing.{BeginsFrames, Finishes}
use Rattle.variable_journal.specs.Frames.{AreFirst, items_of, rest_of}
use Rattle.variable_journal.specs.Laws.{HasBack, OpeningGives, OpeningsGive, OpeningToGives, PrunesBlobs}
use Rattle.variable_journal.specs.Lists.{section_items}
use Rattle.variable_journal.specs.Opening.{Opens}
use Rattle.variable_journal.specs.OpeningAtMost.{judged_bytes}
use Rattle.variable_journal.specs.lemmas.Offset.{cut_whole}
use Rattle.variable_journal.specs.lemmas.Resting.{good_journal, prefix_all}
use Rattle.blob_device.proofs.general.Options.{some_of, some_there}

-- from its items, and that nothing stands behind them
has_back : {F S : Type 0} {gs : _} (k : Lists F (PageBlob S gs)) (d : Disk) (s : ℕ) (bytes : List ℕ) → IsHeld k.sections s → k.unrecovered s ≡ false
    → section_items k d s ≡ items_of bytes → rest_of (section_bytes k.sections d s) ≡ [] → HasBack k d s bytes
has_back k d s bytes held recovered items framed = record {
  held = held;
  recovered = recovered;
  items = items;
  framed = framed;
  first = λ xs least has. subst (AreFirst xs least) (sym items) has.first;
}

no_bytes : (xs : List ℕ) → length xs ≡ 0 → xs ≡ []
no_bytes [] none = refl
no_bytes (x ∷ xs) none = absurd (omega (arith, none))

none_there : (b : Blob) → (IsTrue b.there → ⊥) → b.there ≡ false
none_there b never = go b.there refl
  where
    go : (there : Bool) → b.there ≡ there → b.there ≡ false
    go true is = absurd (never is)
    go false is = is

module _ {S D : Type 0} {gs : _} (g : buffer.Ghosts (PageBlob S gs)) (gives : AppendFactory S → Setting) (seal : List ℕ → ℕ) (dev : device.Ghosts D) where
  pub prunes_blobs : (C : Type 0) → PrunesBlobs g gives seal dev C
  prunes_blobs C j k min was cfg kept old new used did s small low = elim (known (j.sections.held s) refl (j.sections.unopened s) refl) [
    | inl is ↦ ap (λ (b : Blob). b.there) (did.gone used.0 s is low)
    | inr unknown ↦ ap (λ (b : Blob). b.there) (end.others (key_of j.sections s) (λ x.
        unknown (subst (IsKnown j.sections) (sym (key_injective j.sections.partition s x.0 small (used.1.bytes.over.opened_list.number x.0 x.1.0) x.2)) x.1.0)))
        ∙ none_there (disk (dev.time old) (key_of j.sections s)) (λ there. unknown ((used.1.bytes.over.disk used.0).whose s small there))
  ]
    where
      end : Removing j.sections (λ t. IsKnown j.sections t × (t < min)) (λ t q. t < q) (disk (dev.time old)) (disk (dev.time new))
      end = always_now (dev.time old) (dev.time new) (Removing j.sections (λ t. IsKnown j.sections t × (t < min)) (λ t q. t < q) (disk (dev.time old))) (did.moments used.0)

      known : (o : Option (PageBlob S gs)) → j.sections.held s ≡ o → (p : _) → j.sections.unopened s ≡ p → IsKnown j.sections s ⊎ (IsKnown j.sections s → ⊥)
      known (Some u) held p is = inl (inl (some_there (j.sections.held s) u held))
      known None held (Some y) is = inl (inr (some_there (j.sections.unopened s) y is))
      known None held None is = inr (λ either. elim either [ inl one ↦ (let two = subst IsSome held one in cc two) | inr one ↦ (let two = subst IsSome is one in cc two) ])

  module _ {V C : Type 0} (spelling : V → List ℕ) (accepted : V → C → Type 0) (refusal : List ℕ → C → Option codec.Error) where
    pub opening_to_gives : OpeningToGives g gives seal dev spelling accepted refusal
    opening_to_gives P partition last end config paged capacity k kept old new tells did s under there =
        let bytes = judged_bytes seal P partition last end (disk (dev.time old)) s in
        let held = (did.ends.held tells s there.0).1 (there.1, under) in
        let is = did.ends.bytes tells s held in
        has_back k (disk (dev.time new)) s bytes held (did.ends.recovered s) (ap items_of is ∙ (cut_whole bytes).0) (ap rest_of is ∙ (cut_whole bytes).1)

    module _ (are : ArePages g seal) (sizes : (f : AppendFactory S) → (gives f).page_size ≡ f.pages.page_size) (place : List ℕ) (paged : Pages) (capacity : ℕ) (j k : Lists (AppendFactory S) (PageBlob S gs))
        (w x : Walk (AppendFactory S) (PageBlob S gs)) (config : C) (kept begun ended : Result C Error) (old opened middle new : D) (tells : dev.Tells) (did : Opens g gives seal place paged capacity dev (Ok j) config kept old opened)
        (starts : BeginsFrames g gives seal config dev j 0 0 (Ok w) begun opened middle) (come : HasComeTo g gives seal dev spelling accepted refusal config w middle x new)
        (finished : Finishes seal spelling accepted config x (Ok k) ended) (s : ℕ) where
      abbrev P : ℕ
      P = paged.page_size

      abbrev q : Key
      q = section_key place s

      abbrev from : Disk
      from = disk (dev.time old)

      abbrev mid : Disk
      mid = disk (dev.time middle)

      abbrev to : Disk
      to = disk (dev.time new)

      key_j : key_of j.sections s ≡ q
      key_j = ap (λ (p : List ℕ). section_key p s) did.bytes.partition

      key_w : key_of w.journal.sections s ≡ q
      key_w = ap (λ (l : Lists (AppendFactory S) (PageBlob S gs)). key_of l.sections s) starts.begins.journal ∙ key_j

      key_k : key_of k.sections s ≡ q
      key_k = ap (λ (m : Sections (AppendFactory S) (PageBlob S gs)). key_of m s) finished.sections ∙ ap (λ (p : List ℕ). section_key p s) come.gone.keeps.same.bounds.place.partition ∙ key_w

      -- the blob reads as before, once it is opened
      content_mid : (mid q).content ≡ (from q).content
      content_mid = ap (λ (d : D). (disk (dev.time d) q).content) starts.unchanged
          ∙ elim (always_now (dev.time old) (dev.time opened) (Each (IsSettling place (2 ^ 64 - 1) from)) (did.bytes.moments tells) q) [
            | inl same ↦ ap (λ (b : Blob). b.content) same
            | inr settled ↦ ap (λ (b : Blob). b.content) settled.4
          ]

      recovered : k.unrecovered s ≡ false
      recovered = finished.recovered s (elim (cases_lt 0 s) [
        | inl later ↦ inl (omega (arith, later, come.gone.keeps.same.section, starts.begins.section))
        | inr first ↦ inr (come.gone.keeps.same.position ∙ starts.begins.position, omega (arith, first, come.gone.keeps.same.section, starts.begins.section))
      ])

      framed : rest_of (section_bytes k.sections to s) ≡ []
      framed = finished.framed to come.over.bytes.walk (come.over.bytes.disk tells) (come.over.walked tells) s recovered

      module _ (u v : PageBlob S gs) (was : j.sections.held s ≡ Some u) (now : x.journal.sections.held s ≡ Some v) where
        was_w : w.journal.sections.held s ≡ Some u
        was_w = ap (λ (l : Lists (AppendFactory S) (PageBlob S gs)). l.sections.held s) starts.begins.journal ∙ was

        now_k : k.sections.held s ≡ Some v
        now_k = ap (λ (m : Sections (AppendFactory S) (PageBlob S gs)). m.held s) finished.sections ∙ now

        owes_w : w.journal.unrecovered s ≡ j.unrecovered s
        owes_w = ap (λ (l : Lists (AppendFactory S) (PageBlob S gs)). l.unrecovered s) starts.begins.journal

        page_u : u.page_size ≡ P
        page_u = sym (are.page_size u) ∙ ap (λ (m : Setting). m.page_size) (did.over.bytes.over.opened_list.setting s u was) ∙ sizes j.sections.factory ∙ ap (λ (m : Pages). m.page_size) did.bytes.pages

        page_v : v.page_size ≡ u.page_size
        page_v = (come.gone.keeps.floors s u v was_w now).page_size

        abbrev own : List ℕ
        own = bytes_of (shown v) (to (key_of k.sections s)).content

        -- all of it has settled, in pages that are sealed
        own_sealed : j.unrecovered s ≡ true → sealed_prefix seal v.page_size (to (key_of k.sections s)).content ≡ own
        own_sealed owes =
            let sealed = (finished.sealed to (come.over.bytes.disk tells)).sealed s v now_k (record { checked = recovered; free = finished.free come.over.free s }) in
            let settled = come.over.bytes.walk.owes_settled.settled s v now (come.gone.keeps.same.unrecovered s ∙ owes_w ∙ owes) in
            prefix_all seal v.page_size own v.settled (to (key_of k.sections s)).content (held_prefix seal (shown v) own (to (key_of k.sections s)) v.fit.begun sealed.holds)
            (omega (arith, counted (shown v) (to (key_of k.sections s)).content, settled))

        owed_items : j.unrecovered s ≡ true → section_items k to s ≡ items_of (sealed_prefix seal P (from q).content)
        owed_items owes =
            ap items_of (bytes_here k.sections s v now_k to ∙ sym (own_sealed owes) ∙ (λ i. sealed_prefix seal (page_v i) (to ((key_k ∙ sym key_w) i)).content))
            ∙ ((come.gone.keeps.on_disk tells).items come.going s u was_w (owes_w ∙ owes)).items
            ∙ ap items_of ((λ i. sealed_prefix seal (page_u i) (mid (key_w i)).content) ∙ ap (sealed_prefix seal P) content_mid)

        -- one that owes none had no byte
        free_items : j.unrecovered s ≡ false → section_items k to s ≡ items_of (sealed_prefix seal P (from q).content)
        free_items free = ap items_of (bytes_here k.sections s v now_k to ∙ no_bytes own (counted (shown v) (to (key_of k.sections s)).content ∙ same ∙ none))
            ∙ sym (ap items_of (no_bytes (sealed_prefix seal P (from q).content) short))
          where
            same : size_of (shown v) ≡ size_of (shown u)
            same = ((come.gone.keeps.on_disk tells).bytes s u v was_w now (owes_w ∙ free)).size

            none : size_of (shown u) ≡ 0
            none = elim (cases_lt 0 (size_of (shown u))) [
              | inl some ↦ absurd (let owes = (did.bytes.unrecovered s).1 (omega (arith, some, size_here j.sections s u was)) in cc (owes, free))
              | inr few ↦ omega (arith, few)
            ]

            short : length (sealed_prefix seal P (from q).content) ≡ 0
            short =
                let b = disk (dev.time opened) (key_of j.sections s) in
                let it = good_journal g gives seal are dev.Tells tells (dev.opened opened) (disk (dev.time opened)) j did.over s u was in
                let first = held_prefix seal (shown u) (bytes_of (shown u) b.content) b u.fit.begun (it.sealed free).holds in
                let reads : b.content ≡ (from q).content = ap (λ (p : Key). (disk (dev.time opened) p).content) key_j ∙ ap (λ (d : D). (disk (dev.time d) q).content) (sym starts.unchanged) ∙ content_mid in
                let is : length (sealed_prefix seal u.page_size b.content) ≡ length (sealed_prefix seal P (from q).content) = (λ i. length (sealed_prefix seal (page_u i) (reads i))) in
                omega (arith, first.no_longer, counted (shown u) b.content, none, is)

        items_back : section_items k to s ≡ items_of (sealed_prefix seal P (from q).content)
        items_back = go (j.unrecovered s) refl
          where
            go : (owes : Bool) → j.unrecovered s ≡ owes → section_items k to s ≡ items_of (sealed_prefix seal P (from q).content)
            go true owes = owed_items owes
            go false free = free_items free

        given_back : HasBack k to s (sealed_prefix seal P (from q).content)
        given_back = has_back k to s (sealed_prefix seal P (from q).content) (some_there (k.sections.held s) v now_k) recovered items_back framed

      held_then : IsHeld j.sections s → IsHeld x.journal.sections s
      held_then held = (come.gone.goes.held s).1 (subst (λ (l : Lists (AppendFactory S) (PageBlob S gs)). IsHeld l.sections s) (sym starts.begins.journal) held)

      back : s < 2 ^ 64 → IsTrue (from q).there → HasBack k to s (sealed_prefix seal P (from q).content)
      back small there =
          let held = (did.bytes.held tells s small).1 (there, omega (arith, small)) in
          let u = some_of (j.sections.held s) held in
          let v = some_of (x.journal.sections.held s) (held_then held) in
          given_back u.0 v.0 u.1 v.1

    pub opening_gives : ArePages g seal → ((f : AppendFactory S) → (gives f).page_size ≡ f.pages.page_size) → OpeningGives g gives seal dev spelling accepted refusal
    opening_gives are sizes place paged capacity j k w x config kept begun ended old opened middle new tells did starts come drained finished s small there =
        back are sizes place paged capacity j k w x config kept begun ended old opened middle new tells did starts come finished s small there

    pub openings_give : ArePages g seal → ((f : AppendFactory S) → (gives f).page_size ≡ f.pages.page_size) → OpeningsGive g gives seal dev spelling accepted refusal
    openings_give are sizes = record { opens = opening_gives are sizes; opens_to = opening_to_gives; prunes = prunes_blobs C }
