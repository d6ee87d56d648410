-- A section is opened and mended: what it leaves of the slots that stay, at each moment.
use Rattle.std.specs.Prelude.{◌≡◌, ◌⊎◌, ℕ, ◌+◌, ◌-◌, ◌*◌, ◌/◌, ◌<◌, ◌≤◌, Bool, true, cond, List, [], ◌∷◌, ◌++◌, length, Option, Some, None, IsTrue, Result, Ok, Err}
use Rattle.std.specs.Result.{IsErrAnd}
use Rattle.std.proofs.Common.{inl, inr, sym, ◌∙◌, ap, subst, arith, get_or}
use Rattle.blob_device.specs.Change.{Make}
use Rattle.blob_device.specs.Disk.{Blob, Disk, Key, MayLeave, longest, reads, settled_at}
use Rattle.blob_device.specs.Timeline.{Always, OnlyAt}
use Rattle.blob_device.specs.lemmas.Guards.{guards_done}
use Rattle.blob_device.specs.lemmas.Moments.{always_now, always_then, always_weaker}
use Rattle.sealed_pages.specs.declared.write_blob.WriteBlob.{WriteBlob}
use Rattle.sealed_pages.specs.Sparing.{Spares}
use Rattle.sealed_pages.specs.View.{Within}
use Rattle.sealed_pages.specs.unsealed.Writing.{shown, size_of}
use Rattle.ordinal_store.specs.Adopting.{Adopting, IsMaking, IsReady}
use Rattle.ordinal_store.specs.Durable.{StandsFor}
use Rattle.ordinal_store.specs.Mending.{IsInLeft, IsMade, Mending, is_left, whole}
use Rattle.ordinal_store.specs.Reopening.{Reopening, Restores, Touching}
use Rattle.ordinal_store.specs.Stores.{Sight, now}
use Rattle.ordinal_store.specs.declared.ordinal.Error.{Error}
use Rattle.ordinal_store.proofs.ClearLemmas.{position_below}
use Rattle.ordinal_store.proofs.DurableLemmas.{stands_spared}
use Rattle.ordinal_store.proofs.MendLemmas.{whole_room}
use Rattle.ordinal_store.proofs.TrailLemmas.{failed_as}
use Rattle.blob_device.proofs.general.Results.{err_of}

pub restores_start : (size : ℕ) (marks : Option (List Bool)) (b : Blob) → Restores size marks b b
restores_start size marks b = record { slots = λ p slot left len stands. stands; short = λ n most. most }

pub restores_then : (size : ℕ) (marks : Option (List Bool)) (a b c : Blob) → Restores size marks a b → Restores size marks b c → Restores size marks a c
restores_then size marks a b c first second = record {
  slots = λ p slot left len stands. second.slots p slot left len (first.slots p slot left len stands);
  short = λ n most. second.short n (first.short n most);
}

-- a blob that reads as a content may be left as long
pub read_short : (b : Blob) → b.there ≡ true → MayLeave b (reads b) → length b.content ≤ longest b
read_short b there leave = let held : MayLeave b (Some b.content) = subst (MayLeave b) (ap (λ (t : Bool). cond t (Some b.content) None) there) leave in held.1.no_longer

-- a blob that is there settles when it is opened
making_there : (from b : Blob) → from.there ≡ true → IsMaking from b → (b ≡ from) ⊎ (b ≡ settled_at from.content)
making_there from b there (inl is) = inl is
making_there from b there (inr (inl is)) = inl (is ∙ ap (λ (t : Bool). cond t from (record from { content = []; unsure = true; since = from.since ++ [] ∷ [] })) there)
making_there from b there (inr (inr (inl (inl is)))) = inl (is ∙ ap (λ (t : Bool). cond t from (record from { content = []; unsure = true; since = from.since ++ [] ∷ [] })) there)
making_there from b there (inr (inr (inl (inr is)))) = inl (is ∙ ap (λ (x : Blob). record x { there = true }) (ap (λ (t : Bool). cond t from (record from { content = []; unsure = true; since = from.since ++ [] ∷ [] })) there) ∙ ap (λ (t : Bool). record from { there = t }) (sym there))
making_there from b there (inr (inr (inr is))) = inr (is ∙ ap (λ (t : Bool). settled_at (cond t from.content [])) there)

pub making_restores : (size : ℕ) (marks : Option (List Bool)) (from b : Blob) → from.there ≡ true → MayLeave from (reads from) → IsMaking from b → Restores size marks from b
making_restores size marks from b there leave making = elim (making_there from b there making) [
  | inl is ↦ subst (Restores size marks from) (sym is) (restores_start size marks from)
  | inr is ↦ subst (Restores size marks from) (sym is) (record {
    slots = λ p slot left len stands. subst (StandsFor (p * size) slot) (ap (λ (t : Bool). settled_at (cond t from.content [])) there) (guards_done (Within (p * size) (length slot)) (λ i. get_or slot (i - p * size) 0) from stands Make tt);
    short = λ n most. (let e : length from.content ≤ longest from = read_short from there leave in omega (arith, e, most));
  })
]

-- The mending of a settled blob.
module _ (told : Type 0) (key : Key) (capacity size : ℕ) (some : 1 ≤ size) (marks : Option (List Bool)) (u : WriteBlob) (result : Result WriteBlob Error) (old new : Sight) (ready : IsReady told key capacity old u)
    (mending : Mending told key capacity (IsInLeft size marks (whole size (size_of (shown u)))) (whole size (size_of (shown u))) (IsMade size marks) u result old new) where
  abbrev len : ℕ
  len = whole size (size_of (shown u))

  mending_slots : told → (d : Disk) → OnlyAt key (now old) (Spares (IsInLeft size marks len) len (now old key)) d → (p : ℕ) (slot : List ℕ) → is_left marks p ≡ true → length slot ≡ size → StandsFor (p * size) slot (now old key) → StandsFor (p * size) slot (d key)
  mending_slots t d only p slot left is stands =
      let last : p * size + size ≤ length (now old key).content =
      (let inside : p * size + (size - 1) < length (now old key).content = stands.long (p * size + (size - 1)) (record { low = omega arith; high = omega (arith, is, some) }) in omega (arith, inside, some)) in
      let room : p * size + size ≤ whole size (size_of (shown u)) = omega (arith, whole_room size some (now old key).content p (position_below p size (length (now old key).content) some last), ap (whole size) (ready.size t)) in
      stands_spared (IsInLeft size marks len) len (p * size) slot (now old key) (d key)
      (record { there = (ready.over t).lasts.there; sure = (ready.over t).lasts.sure; short = omega (arith, (ready.over t).lasts.short, ready.rested.size, whole_small); long = omega (arith, (ready.over t).lasts.long, ready.rested.size, whole_small) })
      (omega (arith, room, is)) (λ i w. record { position = p; left = left; within = record { low = w.low; high = omega (arith, w.high, is) }; below = omega (arith, w.high, is, room) }) stands only.here
    where
      whole_small : whole size (size_of (shown u)) ≤ size_of (shown u)
      whole_small = let e : size * (size_of (shown u) / size) ≤ size_of (shown u) = omega (arith, some) in omega (arith, e)

  pub mending_restores : told → size_of (shown u) ≤ longest (now old key) → Always old.time new.time (OnlyAt key (now old) (Restores size marks (now old key)))
  mending_restores t most = record {
    later = (mending.moments t).later;
    kept = (mending.moments t).kept;
    each = λ m lo hi. record {
      here = record {
        slots = mending_slots t (new.time.at m) ((mending.moments t).each m lo hi);
        short = λ n short. (mending.short t n (omega (arith, short, most)) short).each m lo hi;
      };
      others = ((mending.moments t).each m lo hi).others;
    };
  }

-- A section is opened, and then mended.
module _ (told : Type 0) (key : Key) (capacity size : ℕ) (some : 1 ≤ size) (marks : Option (List Bool)) (old mid : Sight) (leave : told → MayLeave (now old key) (reads (now old key))) where
  adopt_touching : (answer : Result WriteBlob Error) → Adopting told key capacity answer old mid → Touching told key size marks old mid
  adopt_touching answer a = record {
    moments = λ t there. always_weaker old.time mid.time (OnlyAt key (now old) (IsMaking (now old key))) (OnlyAt key (now old) (Restores size marks (now old key)))
        (λ d only. record { here = making_restores size marks (now old key) (d key) there (leave t) only.here; others = only.others }) (a.moments t);
    entries = a.entries;
    faults = a.faults;
  }

  reopen_by : (e : Error) → Adopting told key capacity (Err e) old mid → Reopening told key capacity size marks (Err e) old mid
  reopen_by e a = record { touching = adopt_touching (Err e) a; ready = tt; made = λ t there. tt; cause = a.cause }

  pub reopen_refused : (result : Result WriteBlob Error) (e : Error) → IsErrAnd result (λ x. x ≡ e) → Adopting told key capacity (Err e) old mid → Reopening told key capacity size marks result old mid
  reopen_refused result e is a = subst (λ (r : Result WriteBlob Error). Reopening told key capacity size marks r old mid) (sym (err_of result e is)) (reopen_by e a)

  module _ (u : WriteBlob) (a : Adopting told key capacity (Ok u) old mid) (new : Sight) where
    content : told → IsTrue (now old key).there → (now mid key).content ≡ (now old key).content
    content t there = ap (λ (b : Blob). b.content) (a.made t ∙ ap (λ (x : Bool). settled_at (cond x (now old key).content [])) there)

    long : told → size_of (shown u) ≤ longest (now mid key)
    long t = let e : longest (now mid key) ≡ length (cond (now old key).there (now old key).content []) = ap longest (a.made t) in
        let f : length (now mid key).content ≡ length (cond (now old key).there (now old key).content []) = ap (λ (b : Blob). length b.content) (a.made t) in
        omega (arith, e, f, a.ready.size t)

    touching : (r : Result WriteBlob Error) → Mending told key capacity (IsInLeft size marks (whole size (size_of (shown u)))) (whole size (size_of (shown u))) (IsMade size marks) u r mid new → Touching told key size marks old new
    touching r m = record {
      moments = λ t there. always_then old.time mid.time new.time (OnlyAt key (now old) (Restores size marks (now old key))) ((adopt_touching (Ok u) a).moments t there)
          (always_weaker mid.time new.time (OnlyAt key (now mid) (Restores size marks (now mid key))) (OnlyAt key (now old) (Restores size marks (now old key)))
          (λ d only. record {
            here = restores_then size marks (now old key) (now mid key) (d key) (always_now old.time mid.time (OnlyAt key (now old) (Restores size marks (now old key))) ((adopt_touching (Ok u) a).moments t there)).here only.here;
            others = λ q other. only.others q other ∙ (always_now old.time mid.time (OnlyAt key (now old) (Restores size marks (now old key))) ((adopt_touching (Ok u) a).moments t there)).others q other;
          })
          (mending_restores told key capacity size some marks u r mid new a.ready m t (long t)));
      entries = λ q other. m.entries q other ∙ a.entries q other;
      faults = omega (arith, a.faults, m.faults);
    }

    pub reopen_done : (r : Result WriteBlob Error) → Mending told key capacity (IsInLeft size marks (whole size (size_of (shown u)))) (whole size (size_of (shown u))) (IsMade size marks) u r mid new → Reopening told key capacity size marks r old new
    reopen_done (Err e) m = record { touching = touching (Err e) m; ready = tt; made = λ t there. tt; cause = failed_as {T = WriteBlob} {U = WriteBlob} e old mid new a.faults m.cause }
    reopen_done (Ok v) m = record {
      touching = touching (Ok v) m;
      ready = m.ready;
      made = λ t there. subst (λ (x : List ℕ). IsMade size marks x (now new key).content) (content t there) (m.bytes t);
      cause = tt;
    }
