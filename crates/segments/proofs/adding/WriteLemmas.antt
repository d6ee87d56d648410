-- What syncs make of a fixed journal, and what they leave of its blobs.
use Rattle.std.proofs.Common.{◌≡◌, ◌⊎◌, inl, inr, ℕ, ◌<◌, ◌≤◌, ◌==◌, ◌^◌, not, Bool, true, false, List, length, Option, None, Some, IsSome, IsSomeAnd, refl, sym, ◌∙◌, ap, subst, arith}
use Rattle.std.proofs.lemmas.Bool.{false_from_ne_true}
use Rattle.std.proofs.lemmas.Bool.Decides.{nat_tests}
use Rattle.blob_device.specs.Disk.{Key}
use Rattle.blob_device.specs.Opened.{OpenedList}
use Rattle.blob_device.specs.Timeline.{Timeline, disk, Always, Each}
use Rattle.blob_device.specs.lemmas.Moments.{always_now, always_weaker}
use Rattle.sealed_pages.specs.Buffer.{size_of, bytes_of}
use Rattle.sealed_pages.specs.declared.page_blob.PageBlob.{PageBlob}
use Rattle.sealed_pages.specs.SealedPrefix.{sealed_prefix}
use Rattle.sealed_pages.specs.Shown.{shown}
use Rattle.sealed_pages.specs.lemmas.Unrecovered.{prefix_settled}
use Rattle.section_manager.specs.lemmas.sections.Over.{same_key}
use Rattle.section_manager.specs.declared.buffer.SectionBuffer as buffer
use Rattle.section_manager.specs.Lasting.{IsUnsettled, Syncing}
use Rattle.section_manager.specs.Sections.{key_of, IsHeld, SameBounds, IsOver, IsSynced}
use Rattle.section_manager.specs.Setting.{Setting}
use Rattle.section_manager.specs.lemmas.Keys.{key_injective}
use Rattle.segments.specs.FixedLasting.{Settling}
use Rattle.segments.specs.FixedLists.{Lists, section_bytes, IsJournal}
use Rattle.segments.proofs.adding.Spared.{bytes_none, bytes_spared}
use Rattle.blob_device.proofs.general.Options.{has_value, none_or_value, value_of}
use Rattle.segments.specs.lemmas.adding.Write.{ArePages, bytes_here, fine_none, fine_of, fine_same, fine_synced, journal_of, leaves_prefix, leaves_sealed, proven_back, settled_idle}

-- where a sync of the section would do nothing
pub is_settled : {B : Type 0} (g : buffer.Ghosts B) (o : Option B) (u : B) → o ≡ Some u → (IsSomeAnd o (λ v. g.unsettled v ≡ true) → ⊥) → g.unsettled u ≡ false
is_settled g o u is none = false_from_ne_true (g.unsettled u) (λ e. none (has_value o (λ v. g.unsettled v ≡ true) u is e))

-- a sync of some sections, or of all
module _ {F S : Type 0} {gs : _} (seal : List ℕ → ℕ) (size : ℕ) (told : Type 0) (g : buffer.Ghosts (PageBlob S gs)) (pages : ArePages g seal) (gives : F → Setting) (j : Lists F (PageBlob S gs)) (old : OpenedList) (a b : Timeline)
    (IsNamed : ℕ → Type 0) (journal : IsJournal g gives seal size told j old (disk a)) where
  -- a section that a sync would change owes no replay
  unsettled_recovered : (s : ℕ) → IsUnsettled g j.sections s → IsHeld j.sections s × (j.unrecovered s ≡ false)
  unsettled_recovered s is =
      let u = value_of (j.sections.held s) (λ v. g.unsettled v ≡ true) is in
      (subst IsSome (sym u.is) refl, owes_none u.value u.is u.has (j.unrecovered s) refl)
    where
      owes_none : (u : PageBlob S gs) → j.sections.held s ≡ Some u → g.unsettled u ≡ true → (o : Bool) → j.unrecovered s ≡ o → o ≡ false
      owes_none u held has false is = refl
      owes_none u held has true is = absurd (cc (settled_idle u.settled (size_of (shown u)) (journal.owes_settled.settled s u held is), pages.unsettled u, has))

  pub settling_of : told → Always a b (Each (Syncing g j.sections IsNamed (disk a))) → Always a b (Each (Settling seal j IsNamed (disk a)))
  settling_of t = always_weaker a b (Each (Syncing g j.sections IsNamed (disk a))) (Each (Settling seal j IsNamed (disk a))) (λ d each q. record {
    named = λ s u is held sealed at. leaves_sealed seal g pages u (disk a q) (d q) (g.settled u) u.settled (pages.settled u) sealed ((each q).named s u is held at);
    prefix = λ s u is held un at. (let n = length (sealed_prefix seal u.page_size (disk a q).content) in
        let all : n ≤ u.settled = prefix_settled seal (shown u) (disk a q) (omega (arith, u.fit.begun)) un in
        leaves_prefix seal g pages u (disk a q) (d q) (g.settled u) n (omega (arith, pages.settled u, all)) un ((each q).named s u is held at));
    others = λ not. (each q).others (λ w. (let owes = unsettled_recovered w.0 w.1.1 in not (w.0, (w.1.0, owes.0, owes.1), w.2)));
  })

  module _ (k : Lists F (PageBlob S gs)) (new : OpenedList) (decides : (s : ℕ) → IsNamed s ⊎ (IsNamed s → ⊥)) (over : IsOver g gives told k.sections new (disk b))
      (named : (s : ℕ) (u : PageBlob S gs) → IsNamed s → j.sections.held s ≡ Some u → IsSomeAnd (k.sections.held s) (λ v. IsSynced g told u v (disk a (key_of j.sections s)) (disk b (key_of j.sections s))))
      (none : (s : ℕ) → j.sections.held s ≡ None → k.sections.held s ≡ None) (others : (s : ℕ) → (IsNamed s → ⊥) → k.sections.held s ≡ j.sections.held s)
      (unopened : (s : ℕ) → k.sections.unopened s ≡ j.sections.unopened s) (bounds : SameBounds j.sections k.sections) (owes : (s : ℕ) → k.unrecovered s ≡ j.unrecovered s) (floors : (s : ℕ) → k.floor_of s ≡ j.floor_of s)
      (moments : told → Always a b (Each (Syncing g j.sections IsNamed (disk a)))) where
    number : (s : ℕ) (u : PageBlob S gs) → j.sections.held s ≡ Some u → s < 2 ^ 64
    number s u held = journal.over.opened_list.number s (inl (subst IsSome (sym held) refl))

    untouched : told → (s : ℕ) → (IsNamed s → ⊥) → (u : PageBlob S gs) → j.sections.held s ≡ Some u → disk b (key_of j.sections s) ≡ disk a (key_of j.sections s)
    untouched t s not u held = (always_now a b (Each (Syncing g j.sections IsNamed (disk a))) (moments t) (key_of j.sections s)).others
        (λ w. (let other = value_of (j.sections.held w.0) (λ v. g.unsettled v ≡ true) w.1.1 in
        not (subst IsNamed (sym (key_injective j.sections.partition s w.0 (number s u held) (number w.0 other.value other.is) w.2)) w.1.0)))

    pub synced_journal : IsJournal g gives seal size told k new (disk b)
    synced_journal = journal_of seal size told g gives k new (disk b) over (λ s. elim (decides s) [
      | inl is ↦ elim (none_or_value (j.sections.held s)) [
        | inl absent ↦ fine_none seal size told j k (disk a) (disk b) s bounds (fine_of seal size told g gives j old (disk a) journal s) absent (none s absent) (unopened s) (λ o. sym (owes s) ∙ o)
        | inr u ↦ (let v = value_of (k.sections.held s) (λ v. IsSynced g told u.0 v (disk a (key_of j.sections s)) (disk b (key_of j.sections s))) (named s u.0 is u.1) in
            fine_synced seal size told j k (disk a) (disk b) s bounds (fine_of seal size told g gives j old (disk a) journal s) g pages u.0 v.value u.1 v.is (unopened s) (owes s) (proven_back j k s (owes s) (floors s)) v.has)
      ]
      | inr not ↦ fine_same seal size told j k (disk a) (disk b) s bounds (fine_of seal size told g gives j old (disk a) journal s) (record { held = others s not; unopened = unopened s }) (owes s) (proven_back j k s (owes s) (floors s)) (λ t. untouched t s not)
    ])

    -- each section has the bytes that it had
    pub synced_bytes : told → (s : ℕ) → section_bytes k.sections (disk b) s ≡ section_bytes j.sections (disk a) s
    synced_bytes t s = elim (none_or_value (j.sections.held s)) [
      | inl absent ↦ bytes_none (j.sections.held s) (k.sections.held s) (disk a (key_of j.sections s)).content (disk b (key_of k.sections s)).content absent (none s absent)
      | inr u ↦ elim (decides s) [
        | inl is ↦ (let v = value_of (k.sections.held s) (λ v. IsSynced g told u.0 v (disk a (key_of j.sections s)) (disk b (key_of j.sections s))) (named s u.0 is u.1) in
            bytes_here k.sections s v.value v.is (disk b)
            ∙ ap (λ (q : Key). bytes_of (shown v.value) (disk b q).content) (same_key j.sections k.sections bounds s)
            ∙ sym (pages.bytes v.value (disk b (key_of j.sections s)).content) ∙ v.has.bytes t ∙ pages.bytes u.0 (disk a (key_of j.sections s)).content
            ∙ sym (bytes_here j.sections s u.0 u.1 (disk a)))
        | inr not ↦ bytes_spared j.sections k.sections (disk a) (disk b) s (record { held = others s not; unopened = unopened s }) bounds.place (λ w held. untouched t s not w held)
      ]
    ]
