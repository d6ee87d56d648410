-- Removing a cache's sections: what crashes leave at each moment.
use Rattle.std.specs.Prelude.{◌≡◌, ◌⊎◌, ⊤, ℕ, ◌^◌, ◌<◌, Bool, false, cond, [], Option, None, Some, IsSome, is_some, unwrap_or, Result}
use Rattle.std.proofs.Common.{inl, inr, ⊎_elim, refl, sym, ap, ◌∙◌, subst, arith}
use Rattle.std.proofs.lemmas.Bool.{cases_lt, false_from_ne_true}
use Rattle.blob_device.specs.Disk.{Key, Blob, Disk, longest, nothing, past, reads}
use Rattle.blob_device.specs.Opened.{OpenedList}
use Rattle.blob_device.specs.Timeline.{disk}
use Rattle.blob_device.specs.declared.device.Device as device
use Rattle.blob_device.specs.lemmas.Moments.{always_now, always_weaker}
use Rattle.sealed_pages.specs.ChanceSeal as pages
use Rattle.sealed_pages.specs.declared.page_blob.PageBlob.{PageBlob}
use Rattle.section_manager.specs.declared.buffer.SectionBuffer as buffer
use Rattle.section_manager.specs.Lasting.{Removing}
use Rattle.section_manager.specs.Sections.{Sections, key_of, section_key, IsKnown, IsKeyOf}
use Rattle.section_manager.specs.declared.journal.Error.{Error}
use Rattle.section_manager.specs.declared.sealed.AppendFactory.{AppendFactory}
use Rattle.section_manager.specs.declared.unopened.Unopened.{Unopened}
use Rattle.section_manager.specs.managing.Removing as manager
use Rattle.section_manager.specs.Setting.{Setting}
use Rattle.section_manager.specs.lemmas.Keys.{key_injective}
use Rattle.cache_store.specs.Caches.{Cache, IsCache, IsSound, state_of}
use Rattle.cache_store.specs.Changes.{Destroys, MayUse}
use Rattle.cache_store.specs.Machine.{nothing_put}
use Rattle.cache_store.specs.Reopening.{MayOpen}
use Rattle.cache_store.specs.Standing.{Leaves, Wanted, wanted_at_destroy, wanted_of}
use Rattle.cache_store.proofs.EndLemmas.{failed, leaving_footprint, ok_of}
use Rattle.cache_store.proofs.LeavingLemmas.{SectionLeaves, bare_leaves, going_leaves}
use Rattle.cache_store.proofs.ReopenLemmas.{no_slots}
use Rattle.cache_store.proofs.RestLemmas.{gathered, here, lasts, no_section}
use Rattle.blob_device.proofs.general.Options.{none_or_value}

-- whether a section is known
pub known_or : {F B : Type 0} (m : Sections F B) (s : ℕ) → IsKnown m s ⊎ (IsKnown m s → ⊥)
known_or {B = B} m s = go (m.held s) (m.unopened s) refl refl
  where
    go : (o : Option B) (p : Option Unopened) → m.held s ≡ o → m.unopened s ≡ p → IsKnown m s ⊎ (IsKnown m s → ⊥)
    go (Some u) p held unopened = inl (inl (ap is_some held))
    go None (Some x) held unopened = inl (inr (ap is_some unopened))
    go None None held unopened = inr (λ is. ⊎_elim (λ a. cc (subst IsSome held a)) (λ b. cc (subst IsSome unopened b)) is)

-- whether it is, and is below a bound
pub below_or : {F B : Type 0} (m : Sections F B) (bound s : ℕ) → (IsKnown m s × (s < bound)) ⊎ (IsKnown m s × (s < bound) → ⊥)
below_or m bound s = ⊎_elim
    (λ yes. ⊎_elim (λ low. inl (yes, low)) (λ high. inr (λ is. omega (arith, high, is.1))) (cases_lt s bound))
    (λ none. inr (λ is. none is.0))
    (known_or m s)

module _ {F S : Type 0} {gs : _} (g : buffer.Ghosts (PageBlob S gs)) (gives : F → Setting) (sized : (u : PageBlob S gs) → (g.setting u).page_size ≡ u.page_size)
    (told : Type 0) (c : Cache F (PageBlob S gs)) (opened : OpenedList) (d : Disk) (over : IsCache c g gives told opened d) (t : told) (sound : IsSound c d)
    (w : Wanted) (lists : (s : ℕ) → w.lists s ≡ (state_of c d).lists s) (synced : (s : ℕ) → w.synced s ≡ (state_of c d).synced s)
    (IsDoomed : ℕ → Type 0) (known : (s : ℕ) → IsDoomed s → IsKnown c.journal.sections s) (which : (s : ℕ) → IsDoomed s ⊎ (IsDoomed s → ⊥))
    (goes : (s : ℕ) → IsDoomed s → w.Going s) where
  -- settled
  rests : (s : ℕ) → s < 2 ^ 64 → (b : Blob) → b ≡ d (key_of c.journal.sections s) → SectionLeaves c.layout w s b
  rests s small b same = lasts g gives sized told c opened d over t sound w s (lists s) (synced s) b (λ u held. inl same)
      (λ none. ap longest same ∙ sound.absent s small none)

  removed_section : (e : Disk) → Removing c.journal.sections IsDoomed (λ s r. s < r) d e → (s : ℕ) → s < 2 ^ 64
      → SectionLeaves c.layout w s (e (key_of c.journal.sections s))
  removed_section e removing s small = ⊎_elim
      (λ doomed. going_leaves c.layout w s (d (key_of c.journal.sections s)) (e (key_of c.journal.sections s)) (rests s small (d (key_of c.journal.sections s)) refl)
      (inr (refl, goes s doomed)) (removing.going.each s doomed))
      (λ stays. rests s small (e (key_of c.journal.sections s)) (removing.others (key_of c.journal.sections s)
      (λ is. stays (subst IsDoomed (key_injective c.journal.sections.partition is.0 s (over.journal.bytes.over.opened_list.number is.0 (known is.0 is.1)) small (sym is.2)) is.1))))
      (which s)

  -- each crash leaves of a section what it would have left, or nothing of one that goes
  pub removing_leaves : (e : Disk) → Removing c.journal.sections IsDoomed (λ s r. s < r) d e → Leaves c.layout w e
  removing_leaves e removing = gathered c.layout w d e sound.names (λ q long. removing.others q (no_section c.journal.sections _ q long))
      (λ s small. subst (λ (k : Key). SectionLeaves c.layout w s (e k)) (here g gives sized told c opened d over s) (removed_section e removing s small))

-- All sections of a cache are gone.
module _ {F S : Type 0} {gs : _} (g : buffer.Ghosts (PageBlob S gs)) (gives : F → Setting) (sized : (u : PageBlob S gs) → (g.setting u).page_size ≡ u.page_size)
    (told : Type 0) (c : Cache F (PageBlob S gs)) (opened : OpenedList) (d e : Disk) (over : IsCache c g gives told opened d) (sound : IsSound c d)
    (removing : Removing c.journal.sections (IsKnown c.journal.sections) (λ s r. s < r) d e) (gone : (s : ℕ) → IsKnown c.journal.sections s → e (key_of c.journal.sections s) ≡ nothing)
    (none : (s : ℕ) → s < 2 ^ 64 → (e (key_of c.journal.sections s)).there ≡ false) where
  -- a section that is not known has not changed
  stays : (s : ℕ) → s < 2 ^ 64 → (IsKnown c.journal.sections s → ⊥) → e (key_of c.journal.sections s) ≡ d (key_of c.journal.sections s)
  stays s small not = removing.others (key_of c.journal.sections s)
      (λ is. not (subst (IsKnown c.journal.sections) (key_injective c.journal.sections.partition is.0 s (over.journal.bytes.over.opened_list.number is.0 is.1) small (sym is.2)) is.1))

  bare : (s : ℕ) → s < 2 ^ 64 → longest (e (key_of c.journal.sections s)) ≡ 0
  bare s small = elim (known_or c.journal.sections s) [
    | inl known ↦ ap longest (gone s known)
    | inr not ↦ ap longest (stays s small not) ∙ sound.absent s small (elim (none_or_value (c.journal.sections.held s)) [
      | inl is ↦ is
      | inr some ↦ absurd (not (inl (ap is_some some.1)))
    ])
  ]

  -- so a cache of which nothing was put may be opened
  pub none_left : MayOpen c.layout nothing_put e
  none_left = record {
    no_chance = λ s small. subst (λ (q : Key). pages.NoChanceSeal c.layout.seal c.layout.page_size (past (e q)) (unwrap_or (reads (e q)) [])) (key_here s)
        (subst (λ (b : Bool). pages.NoChanceSeal c.layout.seal c.layout.page_size (past (e (key_of c.journal.sections s))) (unwrap_or (cond b (Some (e (key_of c.journal.sections s)).content) None) [])) (sym (none s small))
        (no_slots c.layout.seal c.layout.page_size (past (e (key_of c.journal.sections s)))));
    absent = λ s small. subst (λ (q : Key). (e q).there ≡ false → longest (e q) ≡ 0) (key_here s) (λ there. bare s small);
    stands = gathered c.layout (wanted_of c.layout.items nothing_put None) d e sound.names (λ q long. removing.others q (no_section c.journal.sections _ q long))
        (λ s small. subst (λ (q : Key). SectionLeaves c.layout (wanted_of c.layout.items nothing_put None) s (e q)) (key_here s)
        (bare_leaves c.layout (wanted_of c.layout.items nothing_put None) s (e (key_of c.journal.sections s)) (bare s small) (inl (record { same = refl; synced = omega arith }))));
  }
    where
      key_here : (s : ℕ) → key_of c.journal.sections s ≡ section_key c.layout.partition s
      key_here = here g gives sized told c opened d over

-- The sections of a cache that is given up were removed.
pub destroyed : {S D : Type 0} {gs : _} (g : buffer.Ghosts (PageBlob S gs)) (gives : AppendFactory S → Setting) (sized : (u : PageBlob S gs) → (g.setting u).page_size ≡ u.page_size)
    (dev : device.Ghosts D) (c : Cache (AppendFactory S) (PageBlob S gs)) (now new : D) (over : MayUse g gives dev c now) (result : Result Unit Error)
    → manager.Destroys dev c.journal.sections now new result → Destroys g gives dev c result now new
destroyed g gives sized dev c now new over result did = record {
  moments = λ t sound. always_weaker _ _ _ _ (λ x. removing_leaves g gives sized dev.Tells c (dev.opened now) (disk (dev.time now)) over t sound (wanted_at_destroy (state_of c (disk (dev.time now)))) (λ s. refl) (λ s. refl)
      (IsKnown c.journal.sections) (λ s is. is) (known_or c.journal.sections) (λ s is. tt) x) (did.moments t);
  footprint = leaving_footprint dev (IsKeyOf c.journal.sections (λ s. ⊤)) (IsKeyOf c.journal.sections (IsKnown c.journal.sections)) (λ q is. (is.0, tt, is.2)) now new
      (λ t. always_weaker _ _ _ _ (λ x removing q other. removing.others q (λ is. other (is.0, tt, is.2))) (did.moments t)) did.entries did.faults;
  gone = λ t is s small p. false_from_ne_true _ (ok_of _ _ is (did.gone t) s small);
  rest = λ t sound is. none_left g gives sized dev.Tells c (dev.opened now) (disk (dev.time now)) (disk (dev.time new)) over sound (always_now _ _ _ (did.moments t))
      (ok_of _ _ is (did.gone_all t)) (λ s small. false_from_ne_true _ (ok_of _ _ is (did.gone t) s small));
  oldest_first = λ t. always_weaker _ _ _ _ (λ x removing. record {
    each = λ s is. removing.going.each s is.0;
    order = λ s q is also before. removing.going.order s q is.0 also.0 before;
  }) (did.moments t);
  cause = λ e is. failed _ _ _ e is did.cause;
}
