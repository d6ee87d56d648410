-- How a removal of a map ends.
use Rattle.std.proofs.Common.{◌≡◌, ◌⊎◌, inl, inr, Result, Ok, Err, sym, ◌∙◌, ap, subst, arith}
use Rattle.blob_device.specs.Change.{Remove}
use Rattle.blob_device.specs.Counts.{Counted, next}
use Rattle.blob_device.specs.Disk.{Key, nothing}
use Rattle.blob_device.specs.Opened.{left}
use Rattle.blob_device.specs.Timeline.{Always, Passes, disk}
use Rattle.blob_device.specs.declared.device.Device as device
use Rattle.blob_device.specs.declared.error.DevError.{DevError}
use Rattle.blob_device.specs.lemmas.Moments.{always_weaker, ok_blob}
use Rattle.meta_store.specs.declared.error.Error.{Error}
use Rattle.meta_store.specs.Blobs.{blob_of, other_side}
use Rattle.meta_store.specs.Crashes.{KeepsAlone}
use Rattle.meta_store.specs.Errors.{raised}
use Rattle.meta_store.specs.Format.{Format}
use Rattle.meta_store.specs.Pairs.{empty_map}
use Rattle.meta_store.specs.Removing.{Destroys, RemovalEnds, RemovalMoments, Removing}
use Rattle.meta_store.specs.Store.{Seen}
use Rattle.meta_store.proofs.Failing.{failed, failed_later}
use Rattle.meta_store.proofs.OpenedSides.{both_left, listed_then, others_then, removed_listed, removed_others}
use Rattle.meta_store.proofs.RemovingLemmas.{both_moments, first_moments, older_gone, removing_keeps}
use Rattle.meta_store.proofs.Sides.{both_sides}
use Rattle.meta_store.specs.lemmas.Sides.{stands_on}

module _ {K V C D : Type 0} (dev : device.Ghosts D) (f : C → Format K V) (m : Seen K V C) (old : D) where
  moments_of : (new : D) → Always (dev.time old) (dev.time new) (Removing m.store.partition m.store.older (disk (dev.time old))) → RemovalMoments dev f m old new
  moments_of new removing = record {
    crashes = λ synced stands. always_weaker (dev.time old) (dev.time new) (Removing m.store.partition m.store.older (disk (dev.time old)))
        (KeepsAlone (f m.config) m.store.partition synced empty_map (disk (dev.time old)))
        (removing_keeps (f m.config) m.store.partition m.store.older m.store.version synced (disk (dev.time old)) (stands_on (f m.config) m.store synced (disk (dev.time old)) stands)) removing;
    removing = removing;
  }

  module _ {T : Type 0} (mid : D) (k : Key) (key : k ≡ blob_of m.store.partition m.store.older) where
    -- the removal of the older copy failed
    pub first_failed : (e : DevError) → (dev.Tells → Passes {T = T} k Remove (Err e) (dev.time old) (dev.time mid))
        → Counted {T = T} (Err e) (dev.faults old) (dev.faults mid) (dev.time old).calls (dev.time mid).calls
        → (dev.opened mid ≡ dev.opened old) ⊎ (dev.opened mid ≡ left (dev.opened old) k)
        → (r : Result (Unit {0}) Error) → r ≡ Err (raised e) → Destroys dev f m old mid r
    first_failed e told counted opened r is = record {
      moments = λ t. moments_of mid (first_moments m.store.partition m.store.older k (dev.time old) (dev.time mid) key (Err e) (told t));
      listed = removed_listed m.store.partition m.store.older k (dev.opened old) (dev.opened mid) key opened;
      entries = removed_others m.store.partition m.store.older k (dev.opened old) (dev.opened mid) key opened;
      calls = inr (inl counted.calls);
      faults = counted.later;
      ends = subst (RemovalEnds dev f m old mid) (sym is) (failed e _ _ _ _ counted);
    }

    -- it is gone
    module _ {U : Type 0} (v : T) (new : D) (l : Key) (key' : l ≡ blob_of m.store.partition (other_side m.store.older))
        (first : dev.Tells → Passes k Remove (Ok v) (dev.time old) (dev.time mid))
        (counted : Counted {T = T} (Ok v) (dev.faults old) (dev.faults mid) (dev.time old).calls (dev.time mid).calls)
        (gone_first : dev.opened mid ≡ left (dev.opened old) k) where
      both : (r : Result U DevError) → (dev.Tells → Passes l Remove r (dev.time mid) (dev.time new))
          → Counted r (dev.faults mid) (dev.faults new) (dev.time mid).calls (dev.time new).calls
          → (dev.opened new ≡ dev.opened mid) ⊎ (dev.opened new ≡ left (dev.opened mid) l)
          → (result : Result (Unit {0}) Error) → RemovalEnds dev f m old new result → Destroys dev f m old new result
      both r second again opened result ends = record {
        moments = λ t. moments_of new (both_moments m.store.partition m.store.older k (dev.time old) (dev.time mid) key l v r (dev.time new) key' (first t) (second t));
        listed = listed_then m.store.partition (dev.opened old) (dev.opened mid) (dev.opened new)
            (removed_listed m.store.partition m.store.older k (dev.opened old) (dev.opened mid) key (inr gone_first))
            (removed_listed m.store.partition (other_side m.store.older) l (dev.opened mid) (dev.opened new) key' opened);
        entries = others_then m.store.partition (dev.opened old) (dev.opened mid) (dev.opened new)
            (removed_others m.store.partition m.store.older k (dev.opened old) (dev.opened mid) key (inr gone_first))
            (removed_others m.store.partition (other_side m.store.older) l (dev.opened mid) (dev.opened new) key' opened);
        calls = inr (inr (again.calls ∙ ap next counted.calls));
        faults = omega (arith, counted.later, again.later);
        ends = ends;
      }

      -- the removal of the newer copy failed
      pub second_failed : (e : DevError) → (dev.Tells → Passes {T = U} l Remove (Err e) (dev.time mid) (dev.time new))
          → Counted {T = U} (Err e) (dev.faults mid) (dev.faults new) (dev.time mid).calls (dev.time new).calls
          → (dev.opened new ≡ dev.opened mid) ⊎ (dev.opened new ≡ left (dev.opened mid) l)
          → (r : Result (Unit {0}) Error) → r ≡ Err (raised e) → Destroys dev f m old new r
      second_failed e second again opened r is =
          both (Err e) second again opened r (subst (RemovalEnds dev f m old new) (sym is) (failed_later e _ _ _ _ _ counted.later again))

      -- both are gone
      pub removed_both : (w : U) → (dev.Tells → Passes l Remove (Ok w) (dev.time mid) (dev.time new))
          → Counted {T = U} (Ok w) (dev.faults mid) (dev.faults new) (dev.time mid).calls (dev.time new).calls
          → dev.opened new ≡ left (dev.opened mid) l → (x : Unit {0}) → Destroys dev f m old new (Ok x)
      removed_both w second again gone_second x = both (Ok w) second again (inr gone_second) (Ok x) (record {
        gone = λ t side. both_sides m.store.partition m.store.older side (λ q. disk (dev.time new) q ≡ nothing)
            (older_gone m.store.partition m.store.older k (dev.time old) (dev.time mid) key l v (Ok w) (dev.time new) key' (first t) (second t))
            (subst (λ (q : Key). disk (dev.time new) q ≡ nothing) key' (ok_blob l Remove w (dev.time mid) (dev.time new) (second t)));
        closed = both_left m.store.partition m.store.older k l (dev.opened old) (dev.opened mid) (dev.opened new) key key' gone_first gone_second;
      })
