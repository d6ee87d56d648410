-- A cache that may be used may be opened again.
use Rattle.std.specs.Prelude.{◌≡◌, ℕ, ◌<◌, ◌^◌, ◌||◌, not, Bool, false, true, List, [], cond, None, Some, IsSome, unwrap_or}
use Rattle.std.proofs.Common.{inl, inr, refl, sym, ap, subst, arith}
use Rattle.std.proofs.lemmas.Bool.{cases_Bool}
use Rattle.blob_device.specs.Disk.{Key, Disk, longest, past, reads}
use Rattle.blob_device.specs.Opened.{OpenedList}
use Rattle.sealed_pages.specs.Buffer.{bytes_of}
use Rattle.sealed_pages.specs.ChanceSeal as pages
use Rattle.sealed_pages.specs.Shown.{shown}
use Rattle.sealed_pages.specs.declared.page_blob.PageBlob.{PageBlob}
use Rattle.sealed_pages.specs.lemmas.memory.Holding.{holds_leaves}
use Rattle.sealed_pages.specs.lemmas.looking.Looking.{slot_short}
use Rattle.section_manager.specs.SealedLaws.{no_chance}
use Rattle.section_manager.specs.Sections.{key_of, section_key}
use Rattle.section_manager.specs.Setting.{Setting}
use Rattle.section_manager.specs.declared.buffer.SectionBuffer as buffer
use Rattle.segments.specs.lemmas.adding.Had.{journal_had}
use Rattle.segments.specs.lemmas.adding.Write.{ArePages}
use Rattle.cache_store.specs.Caches.{Cache, IsCache, IsSound, state_of}
use Rattle.cache_store.specs.Reopening.{MayOpen}
use Rattle.cache_store.specs.Standing.{wanted_of}
use Rattle.cache_store.proofs.RestLemmas.{here, rest_leaves, sealed}
use Rattle.blob_device.proofs.general.Options.{none_or_value}

-- no slot of no bytes holds
pub no_slots : (seal : List ℕ → ℕ) (P : ℕ) (contents : List (List ℕ)) → pages.NoChanceSeal seal P contents []
no_slots seal P contents k second some = absurd (omega (arith, some, slot_short seal P [] k second (omega arith)))

module _ {F S : Type 0} {gs : _} (g : buffer.Ghosts (PageBlob S gs)) (gives : F → Setting) (told : Type 0) (c : Cache F (PageBlob S gs)) (are : ArePages g c.layout.seal)
    (opened : OpenedList) (d : Disk) (over : IsCache c g gives told opened d) (t : told) where
  -- a section that is held is there
  held_there : (s : ℕ) (u : PageBlob S gs) → c.journal.sections.held s ≡ Some u → (d (key_of c.journal.sections s)).there ≡ false → ⊥
  held_there s u held gone = holds_leaves c.layout.seal (shown u) (bytes_of (shown u) (d (key_of c.journal.sections s)).content) (d (key_of c.journal.sections s)) u.fit.begun
      (sealed g gives are.page_size told c opened d over t s u held).holds None (ap (λ (b : Bool). not b || (d (key_of c.journal.sections s)).unsure) gone)

  -- one that is there is held
  there_held : (s : ℕ) → s < 2 ^ 64 → (d (key_of c.journal.sections s)).there ≡ true → (u : PageBlob S gs) × (c.journal.sections.held s ≡ Some u)
  there_held s small has = elim (none_or_value (c.journal.sections.held s)) [
    | inr some ↦ some
    | inl none ↦ absurd (elim ((over.journal.bytes.over.disk t).whose s small has) [
      | inl held ↦ cc (subst IsSome none held)
      | inr known ↦ (let past_all = (over.journal.bytes.unopened t).later s known in omega (arith, past_all, over.ceiling, small))
    ])
  ]

  clear_here : (s : ℕ) → s < 2 ^ 64 → pages.NoChanceSeal c.layout.seal c.layout.page_size (past (d (key_of c.journal.sections s))) (unwrap_or (reads (d (key_of c.journal.sections s))) [])
  clear_here s small = elim (cases_Bool (d (key_of c.journal.sections s)).there) [
    | inl has ↦ subst (λ (b : Bool). pages.NoChanceSeal c.layout.seal c.layout.page_size (past (d (key_of c.journal.sections s))) (unwrap_or (cond b (Some (d (key_of c.journal.sections s)).content) None) [])) (sym has)
        (let it = there_held s small has in no_chance c.layout.seal c.layout.page_size (past (d (key_of c.journal.sections s))) (d (key_of c.journal.sections s)).content
        (journal_had c.layout.seal 1 told g are gives c.journal opened d over.journal.bytes t s it.0 it.1))
    | inr gone ↦ subst (λ (b : Bool). pages.NoChanceSeal c.layout.seal c.layout.page_size (past (d (key_of c.journal.sections s))) (unwrap_or (cond b (Some (d (key_of c.journal.sections s)).content) None) [])) (sym gone)
        (no_slots c.layout.seal c.layout.page_size (past (d (key_of c.journal.sections s))))
  ]

  pub may_open_again : IsSound c d → MayOpen c.layout (state_of c d) d
  may_open_again sound = record {
    no_chance = λ s small. subst (λ (q : Key). pages.NoChanceSeal c.layout.seal c.layout.page_size (past (d q)) (unwrap_or (reads (d q)) [])) (key_here s) (clear_here s small);
    absent = λ s small. subst (λ (q : Key). (d q).there ≡ false → longest (d q) ≡ 0) (key_here s) (λ gone. elim (none_or_value (c.journal.sections.held s)) [
      | inl none ↦ sound.absent s small none
      | inr some ↦ absurd (held_there s some.0 some.1 gone)
    ]);
    stands = rest_leaves g gives are.page_size told c opened d over t sound (wanted_of c.layout.items (state_of c d) None) (λ s. refl) (λ s. refl);
  }
    where
      key_here : (s : ℕ) → key_of c.journal.sections s ≡ section_key c.layout.partition s
      key_here = here g gives are.page_size told c opened d over
