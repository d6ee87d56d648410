-- What a sync of a cache promises, by how it ends.
use Rattle.std.specs.Prelude.{◌≡◌, ◌⊎◌, ◌↔◌, ℕ, List, Option, None, Some, Result, Ok, Err}
use Rattle.std.specs.List.{Contains}
use Rattle.std.proofs.Common.{inl, inr, ⊎_elim, refl, sym, ap, ◌∙◌, subst, arith}
use Rattle.blob_device.specs.Disk.{Disk}
use Rattle.blob_device.specs.Timeline.{Always, Each, disk}
use Rattle.blob_device.specs.declared.device.Device as device
use Rattle.blob_device.specs.lemmas.Moments.{always_now, always_start, always_weaker}
use Rattle.sealed_pages.specs.declared.page_blob.PageBlob.{PageBlob}
use Rattle.section_manager.specs.Answers.{seen}
use Rattle.section_manager.specs.Lasting.{IsUnsettled}
use Rattle.section_manager.specs.Refusing.{IsPruned}
use Rattle.section_manager.specs.Sections.{IsKeyOf}
use Rattle.section_manager.specs.Setting.{Setting}
use Rattle.section_manager.specs.declared.buffer.SectionBuffer as buffer
use Rattle.section_manager.specs.declared.journal.Error.{Error}
use Rattle.section_manager.specs.declared.journal.Error.TheVariants.{Mem}
use Rattle.section_manager.specs.declared.sealed.AppendFactory.{AppendFactory}
use Rattle.segments.specs.FixedLasting.{Settling}
use Rattle.segments.specs.FixedLists.{Lists}
use Rattle.segments.specs.lemmas.adding.Write.{ArePages}
use Rattle.variable_journal.specs.Settling.{Settles}
use Rattle.cache_store.specs.Caches.{Cache, IsSound, holds}
use Rattle.cache_store.specs.Changes.{Changed, IsFailure, MayUse, Seen, Syncs, state_over}
use Rattle.cache_store.specs.Kept.{Layout}
use Rattle.cache_store.specs.Machine.{Sync}
use Rattle.cache_store.specs.Reopening.{MayOpen}
use Rattle.cache_store.specs.Standing.{wanted_of}
use Rattle.cache_store.proofs.CallLemmas.{untouched}
use Rattle.cache_store.proofs.EndLemmas.{keeping_footprint, unpruned}
use Rattle.cache_store.proofs.HoldingLemmas.{ok_is, some_from}
use Rattle.cache_store.proofs.RecallLemmas.{recalls_same}
use Rattle.cache_store.proofs.ReopenLemmas.{may_open_again}
use Rattle.cache_store.proofs.RestLemmas.{rest_leaves}
use Rattle.cache_store.proofs.SyncedLemmas.{read_by, synced_over, synced_sound, synced_step}
use Rattle.cache_store.proofs.WritingLemmas.{sync_leaves}
use Rattle.blob_device.proofs.general.Options.{none_or_value}

-- a settling of sections that are named in another way
pub renamed : {F S : Type 0} {gs : _} (seal : List ℕ → ℕ) (j : Lists F (PageBlob S gs)) (A B : ℕ → Type 0) → ((s : ℕ) → A s ↔ B s) → (from e : Disk)
    → Each (Settling seal j A from) e → Each (Settling seal j B from) e
renamed seal j A B same from e each q = record {
  named = λ s u is. (each q).named s u ((same s).1 is);
  prefix = λ s u is. (each q).prefix s u ((same s).1 is);
  others = λ none. (each q).others (λ is. none (is.0, ((same is.0).0 is.1.0, is.1.1, is.1.2), is.2));
}

module _ {S D : Type 0} {gs : _} (g : buffer.Ghosts (PageBlob S gs)) (gives : AppendFactory S → Setting)
    (dev : device.Ghosts D) (c : Cache (AppendFactory S) (PageBlob S gs)) (are : ArePages g c.layout.seal) (now : D) (over : MayUse g gives dev c now) where
  -- it failed before anything was done
  pub sync_early : {C : Type 0} (cfg : C) (e : Error) → IsFailure (dev.faults now) (dev.faults now) e → Syncs g gives dev c (Err e) cfg (Err e) now now
  sync_early cfg e cause = record {
    changes = record {
      moments = λ t sound. always_start (dev.time now) _ (rest_leaves g gives are.page_size dev.Tells c (dev.opened now) (disk (dev.time now)) over t sound
          (wanted_of c.layout.items (state_over g gives dev c now) (Some Sync)) (λ s. refl) (λ s. refl));
      footprint = untouched g gives dev c are now over _;
      config = tt;
      ends = cause;
    };
    idle = λ none. refl;
    memory = λ r is. absurd (cc is);
    written = λ r is. absurd (cc is);
  }

  -- which sections count as written
  written_or : (s : ℕ) → (c.written s ≡ None → ⊥) ⊎ ((c.written s ≡ None → ⊥) → ⊥)
  written_or s = ⊎_elim (λ is. inr (λ not. not is)) (λ has. inl (λ is. cc (is, has.1))) (none_or_value (c.written s))

  -- The journal's sync of the sections that count as written ended so.
  module _ {C : Type 0} (xs ys : List ℕ) (same : xs ≡ ys) (each : (s : ℕ) → Contains ys s ↔ (c.written s ≡ None → ⊥)) (cfg : C) (kept : Result C Error) (mid : D)
      (result : Result (Lists (AppendFactory S) (PageBlob S gs)) Error) (did : Settles g gives c.layout.seal dev (Contains xs) c.journal result cfg kept now mid) where
    named : (s : ℕ) → Contains xs s ↔ (c.written s ≡ None → ⊥)
    named = subst (λ zs. (s : ℕ) → Contains zs s ↔ (c.written s ≡ None → ⊥)) (sym same) each

    settles : dev.Tells → Always (dev.time now) (dev.time mid) (Each (Settling c.layout.seal c.journal (λ s. c.written s ≡ None → ⊥) (disk (dev.time now))))
    settles t = always_weaker _ _ _ _ (λ x. renamed c.layout.seal c.journal (Contains xs) (λ s. c.written s ≡ None → ⊥) named (disk (dev.time now)) x) (did.moments t)

    -- none of them is below the floor
    unpruned_here : (IsPruned result c.journal.sections.floor) → ⊥
    unpruned_here is = (let it = did.guard.0 is in
        let low = over.journal.bytes.over.opened_list.from_floor it.0 (inl (over.written it.0 (some_from _ ((named it.0).0 it.1)))) in
        omega (arith, it.2, low))

    sync_ended : (e : Error) → IsFailure (dev.faults now) (dev.faults mid) e → Syncs g gives dev c (Err e) cfg (Err e) now mid
    sync_ended e cause = record {
      changes = record {
        moments = λ t sound. always_weaker _ _ _ _ (λ x. sync_leaves g gives are.page_size dev.Tells c (dev.opened now) (disk (dev.time now)) over t sound (λ s. c.written s ≡ None → ⊥) written_or x) (settles t);
        footprint = keeping_footprint dev (IsKeyOf c.journal.sections (λ s. c.written s ≡ None → ⊥)) (IsKeyOf c.journal.sections (λ s. Contains xs s × IsUnsettled g c.journal.sections s))
            (λ q is. (is.0, (named is.0).0 is.1.0, is.2)) now mid
            (λ t. always_weaker _ _ _ _ (λ x each q other. (each q).others (λ is. other (is.0, is.1.0, is.2))) (settles t)) did.entries did.faults;
        config = tt;
        ends = cause;
      };
      idle = λ none. did.idle (λ s is un. (named s).0 is (none s));
      memory = λ r is. absurd (cc is);
      written = λ r is. absurd (cc is);
    }

    pub sync_failed : (e : Error) → result ≡ Err e → Syncs g gives dev c (Err e) cfg (Err e) now mid
    sync_failed e is = sync_ended e (unpruned result c.journal.sections.floor (dev.faults now) (dev.faults mid) e is unpruned_here did.cause)

  -- and all has settled
  module _ {C : Type 0} (xs ys : List ℕ) (same : xs ≡ ys) (each : (s : ℕ) → Contains ys s ↔ (c.written s ≡ None → ⊥)) (cfg : C) (kept : Result C Error) (mid : D)
      (k : Lists (AppendFactory S) (PageBlob S gs)) (did : Settles g gives c.layout.seal dev (Contains xs) c.journal (Ok k) cfg kept now mid) where
    are_named : (s : ℕ) → Contains xs s ↔ (c.written s ≡ None → ⊥)
    are_named = named xs ys same each cfg kept mid (Ok k) did

    module _ (lay : Layout) (is : lay ≡ c.layout) (after : ℕ → Option ℕ) (cleared : (s : ℕ) → after s ≡ None) where
      abbrev done : Cache (AppendFactory S) (PageBlob S gs)
      done = record c { journal = k; written = after }

      done_over : MayUse g gives dev (record c { journal = k; written = after }) mid
      done_over = synced_over g gives (read_by g c.layout.seal are) dev.Tells c (dev.opened now) (dev.opened mid) (disk (dev.time now)) (disk (dev.time mid)) over k after cleared did.over
          (λ s u w. did.named s u ((are_named s).1 w)) did.none (λ s not. did.others s (λ w. not ((are_named s).0 w))) did.unopened did.bounds did.unrecovered
          (λ t. always_now _ _ _ (settles xs ys same each cfg kept mid (Ok k) did t))

      done_sound : dev.Tells → IsSound c (disk (dev.time now)) → IsSound (record c { journal = k; written = after }) (disk (dev.time mid))
      done_sound t sound = synced_sound g gives (read_by g c.layout.seal are) dev.Tells c (dev.opened now) (dev.opened mid) (disk (dev.time now)) (disk (dev.time mid)) over k after cleared did.over
          (λ s u w. did.named s u ((are_named s).1 w)) did.none (λ s not. did.others s (λ w. not ((are_named s).0 w))) did.unopened did.bounds did.unrecovered
          (λ t. always_now _ _ _ (settles xs ys same each cfg kept mid (Ok k) did t)) t sound

      done_changed : Changed g gives dev c Sync (record c { journal = k; layout = lay; written = after }) now mid
      done_changed = record {
        over = subst (λ (l : Layout). MayUse g gives dev (record c { journal = k; layout = l; written = after }) mid) (sym is) done_over;
        layout = is;
        place = did.bounds.place;
        sound = λ t sound. subst (λ (l : Layout). IsSound (record c { journal = k; layout = l; written = after }) (disk (dev.time mid))) (sym is) (done_sound t sound);
        rest = λ t sound. subst (λ (l : Layout). MayOpen l (state_over g gives dev done mid) (disk (dev.time mid))) (sym is)
            (may_open_again g gives dev.Tells (record c { journal = k; written = after }) are (dev.opened mid) (disk (dev.time mid)) done_over t (done_sound t sound));
        step = λ t. synced_step g gives (read_by g c.layout.seal are) dev.Tells c (dev.opened now) (dev.opened mid) (disk (dev.time now)) (disk (dev.time mid)) over k after cleared did.over
            (λ s u w. did.named s u ((are_named s).1 w)) did.none (λ s not. did.others s (λ w. not ((are_named s).0 w))) did.unopened did.bounds did.unrecovered
            (λ t. always_now _ _ _ (settles xs ys same each cfg kept mid (Ok k) did t)) t;
      }

      pub sync_done : Syncs g gives dev c (Ok (record c { journal = k; layout = lay; written = after })) cfg kept now mid
      sync_done = (let ended = sync_ended xs ys same each cfg kept mid (Ok k) did Mem (inl refl) in record {
        changes = record { moments = ended.changes.moments; footprint = ended.changes.footprint; config = did.config; ends = done_changed };
        idle = ended.idle;
        memory = λ r is. recalls_same (record c { journal = k; layout = lay; written = after }) (holds c) (λ i. refl) r (ok_is is);
        written = λ r is s. ap (λ (x : Seen g gives dev). x.written s) (sym (ok_is is)) ∙ cleared s;
      })

-- an error is handed on as it is
pub sync_as : {T S D C : Type 0} {gs : _} (g : buffer.Ghosts (PageBlob S gs)) (gives : AppendFactory S → Setting) (dev : device.Ghosts D) (c : Cache (AppendFactory S) (PageBlob S gs))
    (see : T → Cache (AppendFactory S) (PageBlob S gs)) (cfg : C) (tell : T → C) (r : Result T Error) (e : Error) (old new : D) → r ≡ Err e
    → Syncs g gives dev c (Err e) cfg (Err e) old new → Syncs g gives dev c (seen see r) cfg (seen tell r) old new
sync_as g gives dev c see cfg tell r e old new is syncs = subst (λ x. Syncs g gives dev c (seen see x) cfg (seen tell x) old new) (sym is) syncs
