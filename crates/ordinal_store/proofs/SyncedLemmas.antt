-- A sync of one section after another: how far it has come, and what it has done when it ends.
use Rattle.std.specs.Prelude.{◌≡◌, ℕ, ◌≤◌, IsSome, IsTrue, Result, Ok, Err}
use Rattle.std.specs.Result.{IsErrAnd}
use Rattle.std.proofs.Common.{refl, sym, ◌∙◌, ap, subst}
use Rattle.blob_device.specs.Disk.{Key}
use Rattle.ordinal_store.specs.Calls.{HasFailed, IsBlobOf, Syncing}
use Rattle.ordinal_store.specs.Slots.{Layout, blob_of}
use Rattle.ordinal_store.specs.Steps.{SameSlots, Stepping}
use Rattle.ordinal_store.specs.Stores.{IsQuiet, IsUsable, Sight, Store, now}
use Rattle.ordinal_store.specs.declared.ordinal.Error.{Error}
use Rattle.ordinal_store.proofs.SeatLemmas.{not_true}
use Rattle.ordinal_store.proofs.SettledLemmas.{all_committed}
use Rattle.ordinal_store.proofs.TrailLemmas.{Trail, failed_as, trail_start, trail_then}
use Rattle.blob_device.proofs.general.Results.{err_of}

module _ (told : Type 0) (o : Store) where
  abbrev pub Written : Key → Type 0
  Written = IsBlobOf o (λ s. IsTrue (o.written s))

  -- a sync so far
  pub record Synced (old mid : Sight) (n : Store) : Type 0 where
    pub same : SameSlots told o old mid n
    pub domain : (s : ℕ) → IsSome (n.buffers s) → IsSome (o.buffers s)
    pub written : (s : ℕ) → IsTrue (n.written s) → IsTrue (o.written s)
    pub trail : Trail told o.layout (IsQuiet o) Written old mid

  pub synced_start : (v : Sight) → IsUsable o told v.opened (now v) → Synced v v o
  synced_start v usable = record {
    same = record { place = record { layout = refl; capacity = refl }; usable = usable; ranges = refl; slots = λ t j. refl; quiet = λ j quiet. quiet };
    domain = λ s some. some;
    written = λ s is. is;
    trail = trail_start told o.layout (IsQuiet o) Written v;
  }

  module _ {T : Type 0} (show : T → Store) (old mid new : Sight) (n : Store) (far : Synced old mid n) (s : ℕ) (is : IsTrue (n.written s)) (result : Result T Error) (one : Stepping show told n (IsBlobOf n (λ t. t ≡ s)) result mid new) where
    touched : (q : Key) → IsBlobOf n (λ t. t ≡ s) q → Written q
    touched q mine = (mine.0, far.domain mine.0 mine.1, far.written mine.0 (subst (λ (t : ℕ). IsTrue (n.written t)) (sym mine.2) is), mine.3 ∙ ap (λ (l : Layout). blob_of l mine.0) far.same.place.layout)

    pub trail_on : Trail told o.layout (IsQuiet o) Written old new
    trail_on = trail_then told o.layout n.layout (IsQuiet o) (IsQuiet n) Written (IsBlobOf n (λ t. t ≡ s)) old mid new far.same.place.layout far.same.quiet touched far.trail
        (record { moments = one.moments; entries = one.entries; unread = one.unread; faults = one.faults })

    pub synced_on : (r : Store) → SameSlots told n mid new r → ((t : ℕ) → IsSome (r.buffers t) → IsSome (n.buffers t)) → ((t : ℕ) → IsTrue (r.written t) → IsTrue (n.written t)) → Synced old new r
    synced_on r kept domain written = record {
      same = record {
        place = record { layout = kept.place.layout ∙ far.same.place.layout; capacity = kept.place.capacity ∙ far.same.place.capacity };
        usable = kept.usable;
        ranges = kept.ranges ∙ far.same.ranges;
        slots = λ t j. kept.slots t j ∙ far.same.slots t j;
        quiet = λ j quiet. kept.quiet j (far.same.quiet j quiet);
      };
      domain = λ t some. far.domain t (domain t some);
      written = λ t is. far.written t (written t is);
      trail = trail_on;
    }

module _ {T : Type 0} (show : T → Store) (told : Type 0) (o : Store) (old new : Sight) where
  sync_failed : (e : Error) → Trail told o.layout (IsQuiet o) (Written told o) old new → HasFailed {T = T} (Err e) old new → Syncing show told o (Err e) old new
  sync_failed e trail why = record {
    same = tt;
    usable = tt;
    held = tt;
    slots = λ t. tt;
    committed = λ t. tt;
    moments = trail.moments;
    entries = trail.entries;
    unread = trail.unread;
    faults = trail.faults;
    cause = why;
  }

  pub sync_refused : (mid : Sight) (result : Result T Error) (e : Error) → IsErrAnd result (λ x. x ≡ e) → Trail told o.layout (IsQuiet o) (Written told o) old new → old.faults ≤ mid.faults → HasFailed {T = T} (Err e) mid new → Syncing show told o result old new
  sync_refused mid result e is trail earlier why = subst (λ (r : Result T Error). Syncing show told o r old new) (sym (err_of result e is)) (sync_failed e trail (failed_as {T = T} {U = T} e old mid new earlier why))

  -- nothing is left to be settled
  pub sync_done : (r : T) → Synced told o old new (show r) → ((s : ℕ) → IsTrue ((show r).written s) → ⊥) → Syncing show told o (Ok r) old new
  sync_done r far none = record {
    same = far.same.place;
    usable = far.same.usable;
    held = far.same.ranges;
    slots = far.same.slots;
    committed = λ t j slot stored. all_committed told (show r) new.opened (now new) far.same.usable t (λ s u is. far.same.usable.unwritten s u is (not_true ((show r).written s) (none s))) j slot stored;
    moments = far.trail.moments;
    entries = far.trail.entries;
    unread = far.trail.unread;
    faults = far.trail.faults;
    cause = tt;
  }
