-- What calls of a cache promise, by how they end.
use Rattle.std.specs.Prelude.{◌≡◌, ℕ, ◌<◌, ◌≤◌, ◌||◌, nat_lt, if◌then◌else◌, Bool, false, true, List, Some, IsSome, Ok}
use Rattle.std.proofs.Common.{inl, inr, ⊎_elim, refl, sym, ap, ◌∙◌, subst, arith}
use Rattle.std.proofs.lemmas.Bool.{false_from_ne_true, lt-ltb, le-leb}
use Rattle.blob_device.specs.Disk.{Key}
use Rattle.blob_device.specs.Footprint.{Footprint, NoBound}
use Rattle.blob_device.specs.Timeline.{disk}
use Rattle.blob_device.specs.declared.device.Device as device
use Rattle.blob_device.specs.lemmas.Moments.{always_start}
use Rattle.sealed_pages.specs.declared.page_blob.PageBlob.{PageBlob}
use Rattle.section_manager.specs.Setting.{Setting}
use Rattle.section_manager.specs.declared.buffer.SectionBuffer as buffer
use Rattle.section_manager.specs.declared.journal.Error.{Error}
use Rattle.section_manager.specs.declared.sealed.AppendFactory.{AppendFactory}
use Rattle.segments.specs.lemmas.adding.Write.{ArePages}
use Rattle.cache_store.specs.Caches.{Cache, holds}
use Rattle.cache_store.specs.Changes.{Changes, IsSkipped, MayUse, Prunes, PutSyncs, Puts, Seen, state_over, with_index}
use Rattle.cache_store.specs.Machine.{Call, Prune, Put, PutSync, State, Step, Done, after_put, after_sync, appended, emptied_below, has_index, section_of, submitted}
use Rattle.cache_store.specs.Standing.{wanted_of}
use Rattle.cache_store.proofs.AskLemmas.{held_is}
use Rattle.cache_store.proofs.HoldingLemmas.{ok_is}
use Rattle.cache_store.proofs.RecallLemmas.{recalls_held, recalls_low, recalls_pruned, recalls_same}
use Rattle.cache_store.proofs.ReopenLemmas.{may_open_again}
use Rattle.cache_store.proofs.RestLemmas.{rest_leaves}

module _ {S D : Type 0} {gs : _} (g : buffer.Ghosts (PageBlob S gs)) (gives : AppendFactory S → Setting)
    (dev : device.Ghosts D) (c : Cache (AppendFactory S) (PageBlob S gs)) (are : ArePages g c.layout.seal) (now : D) (over : MayUse g gives dev c now) where
  -- nothing was touched
  pub untouched : (MayTouch : Key → Type 0) → Footprint dev MayTouch NoBound now now
  untouched MayTouch = record { alone = λ t. always_start (dev.time now) _ (λ q other. refl); entries = λ q other. refl; reads = λ q n most. absurd most; faults = omega arith }

  -- a call that does nothing, and so is a step
  pub nothing_done : {C : Type 0} (cfg : C) (call : Call (List ℕ)) (MayTouch : Key → Type 0) (IsCause : Error → Type 0)
      → (dev.Tells → (s : ℕ) → submitted c.layout.items (state_over g gives dev c now) (Some call) s ≡ (state_over g gives dev c now).lists s)
      → (dev.Tells → Step c.layout.items (state_over g gives dev c now) call Done (state_over g gives dev c now))
      → Changes g gives dev c call MayTouch IsCause (Ok c) cfg (Ok cfg) now now
  nothing_done cfg call MayTouch IsCause same step = record {
    moments = λ t sound. always_start (dev.time now) _ (rest_leaves g gives are.page_size dev.Tells c (dev.opened now) (disk (dev.time now)) over t sound
        (wanted_of c.layout.items (state_over g gives dev c now) (Some call)) (same t) (λ s. refl));
    footprint = untouched MayTouch;
    config = refl;
    ends = record { over = over; layout = refl; place = record { partition = refl; factory = refl }; sound = λ t sound. sound; rest = may_open_again g gives dev.Tells c are (dev.opened now) (disk (dev.time now)) over; step = step };
  }

  -- where a put is skipped the state stays
  pub skipped_state : dev.Tells → (index : ℕ) (spelled : List ℕ) → IsSkipped g gives dev c index
      → after_put c.layout.items index spelled (state_over g gives dev c now) ≡ state_over g gives dev c now
  skipped_state t index spelled (inl low) =
      ap (λ (b : Bool). if b || has_index c.layout.items (state_over g gives dev c now) index then state_over g gives dev c now else appended c.layout.items index spelled (state_over g gives dev c now)) (lt-ltb index c.floor low)
  skipped_state t index spelled (inr has) =
      ap (λ (b : Bool). if nat_lt index c.floor || b then state_over g gives dev c now else appended c.layout.items index spelled (state_over g gives dev c now)) (sym (held_is c (disk (dev.time now)) (over.memory t) index) ∙ has)
      ∙ or_true (nat_lt index c.floor)
    where
      or_true : (b : Bool) → (if b || true then state_over g gives dev c now else appended c.layout.items index spelled (state_over g gives dev c now)) ≡ state_over g gives dev c now
      or_true true = refl
      or_true false = refl

  -- and the indices are held that were
  pub skipped_indices : (index : ℕ) → IsSkipped g gives dev c index → (i : ℕ) → holds c i ≡ with_index c index i
  skipped_indices index (inl low) = recalls_low c index low
  skipped_indices index (inr has) = recalls_held c index has

  -- a put that is skipped
  pub put_skipped : {C : Type 0} (cfg : C) (index : ℕ) (spelled : List ℕ) → IsSkipped g gives dev c index → Puts g gives dev c index spelled (Ok c) cfg (Ok cfg) now now
  put_skipped cfg index spelled skip = record {
    changes = nothing_done cfg (Put index spelled) _ _ (λ t s. ap (λ (st : State (List ℕ)). st.lists s) (skipped_state t index spelled skip)) (λ t. sym (skipped_state t index spelled skip));
    skips = λ also. (refl, refl);
    buffered = λ u held flushes. refl;
    memory = λ r is. recalls_same c (with_index c index) (skipped_indices index skip) r (ok_is is);
    written = λ r is s some. inr (λ none. some (ap (λ (x : Seen g gives dev). x.written s) (sym (ok_is is)) ∙ none));
    limits = record { large = λ not. absurd (not skip); refuses = λ is. absurd (cc is); full = λ not. absurd (not skip); full_refuses = λ is. absurd (cc is) };
  }

  -- a put that syncs, below the floor
  pub put_sync_below : {C : Type 0} (cfg : C) (index : ℕ) (spelled : List ℕ) → index < c.floor → PutSyncs g gives dev c index spelled (Ok c) cfg (Ok cfg) now now
  put_sync_below cfg index spelled low = record {
    changes = nothing_done cfg (PutSync index spelled) _ _ (λ t s. ap (λ (st : State (List ℕ)). st.lists s) (skipped_state t index spelled (inl low)))
        (λ t. sym (ap (λ (b : Bool). if b then state_over g gives dev c now else after_sync (after_put c.layout.items index spelled (state_over g gives dev c now))) (lt-ltb index c.floor low)));
    skips = λ also. (refl, refl);
    idle = λ skip none. refl;
    memory = λ r is. recalls_same c (with_index c index) (recalls_low c index low) r (ok_is is);
    written = λ high. absurd (omega (arith, low, high));
    limits = record { large = λ not. absurd (not (inl low)); refuses = λ is. absurd (cc is); full = λ not. absurd (not (inl low)); full_refuses = λ is. absurd (cc is) };
  }

  -- a prune at or below the floor
  pub prune_low : {C : Type 0} (cfg : C) (bound : ℕ) → section_of c.layout.items bound ≤ c.floor → Prunes g gives dev c bound (Ok c) cfg (Ok cfg) now now
  prune_low cfg bound low = record {
    changes = nothing_done cfg (Prune bound) _ _ (λ t s. refl)
        (λ t. sym (ap (λ (b : Bool). if b then state_over g gives dev c now else emptied_below (section_of c.layout.items bound) (state_over g gives dev c now)) (le-leb (section_of c.layout.items bound) c.floor low)));
    low = λ also. (refl, refl);
    oldest_first = λ t. always_start (dev.time now) _ (record { each = λ s is. inl refl; order = λ s q is also before. inl refl });
    memory = λ r is. recalls_pruned c (section_of c.layout.items bound) low over.none_below r (ok_is is);
    written = λ r is s. inl (ap (λ (x : Seen g gives dev). x.written s) (sym (ok_is is)));
    gone = λ t r is s small less. (let gone = over.below s (omega (arith, less, low)) in
        false_from_ne_true _ (λ has. ⊎_elim (λ held. cc (subst IsSome gone.held held)) (λ known. cc (subst IsSome gone.unopened known)) ((over.journal.bytes.over.disk t).whose s small has)));
  }
