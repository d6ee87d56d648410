-- How a sync of a map ends.
use Rattle.std.proofs.Common.{◌≡◌, inl, inr, ◌+◌, ◌<◌, ◌≤◌, ◌^◌, ℕ, List, Bool, true, false, cond, length, max, Result, Ok, Err, refl, sym, ◌∙◌, ap, subst, arith}
use Rattle.std.specs.BTreeMap.{insert_entry}
use Rattle.blob_device.specs.Change.{Settle, Write}
use Rattle.blob_device.specs.Counts.{Counted, next}
use Rattle.blob_device.specs.Disk.{Key}
use Rattle.blob_device.specs.Opened.{PartlyGrown, updated, with_len}
use Rattle.blob_device.specs.Timeline.{Passes, disk}
use Rattle.blob_device.specs.declared.device.Device as device
use Rattle.blob_device.specs.declared.error.DevError.{DevError}
use Rattle.blob_device.specs.lemmas.Moments.{always_start}
use Rattle.meta_store.specs.declared.copy.Contents.{Contents}
use Rattle.meta_store.specs.declared.error.Error.{Error}
use Rattle.meta_store.specs.declared.error.Error.TheVariants.{Full, Mem}
use Rattle.meta_store.specs.declared.error.Side.{Side}
use Rattle.meta_store.specs.Blobs.{blob_of, other_side, OnlyOne}
use Rattle.meta_store.specs.Calls.{IsOpened}
use Rattle.meta_store.specs.Copies.{IsMap, copy_of}
use Rattle.meta_store.specs.Errors.{raised}
use Rattle.meta_store.specs.Format.{Format}
use Rattle.meta_store.specs.Staging.{HasPut}
use Rattle.meta_store.specs.Store.{MayBeSynced, Seen, Stands, contents_of}
use Rattle.meta_store.specs.Syncs.{PutSyncs, SyncEnds, Syncs, putting}
use Rattle.meta_store.proofs.Failing.{caused, caused_later}
use Rattle.meta_store.proofs.OpenedSides.{grew_at, grew_opened, grew_others, grew_partly, grew_reads, grew_then, reads_stay}
use Rattle.meta_store.specs.lemmas.Sides.{stands_on}
use Rattle.meta_store.specs.lemmas.Syncing.{both_crashes, stands_alone, stands_by, then_stands, write_crashes}
use Rattle.meta_store.proofs.SyncingLemmas.{both_alone, settle_at_side, sync_wrote, write_alone, write_at_side}

module _ {K V C D : Type 0} (dev : device.Ghosts D) (f : C → Format K V) (m : Seen K V C) (old : D) (opened : IsOpened m.store.partition (dev.opened old)) where
  -- ---- no call was made

  none_called : (result : Result (Seen K V C) Error) → SyncEnds dev f m old old result → Syncs dev f m old old result
  none_called result ends = record {
    moments = λ t. record {
      crashes = λ synced stands. stands_alone (f m.config) m.store synced (contents_of m.store) (dev.time old) stands;
      alone = always_start (dev.time old) (OnlyOne m.store.partition m.store.older (disk (dev.time old))) (λ q other. refl);
    };
    opened = opened;
    entries = λ q left right. refl;
    reads = reads_stay m.store.partition (dev.opened old) (dev.opened old) refl;
    most_calls = inl refl;
    faults = omega arith;
    ends = ends;
  }

  -- nothing is staged
  pub idle_syncs : m.store.staged ≡ false → Syncs dev f m old old (Ok m)
  idle_syncs idle = none_called (Ok m) (record {
    same = ap (λ (b : Bool). cond b (record m.store { version = m.store.version + 1; older = other_side m.store.older; staged = false }) m.store) (sym idle);
    setting = refl;
    idle = λ e. refl;
    calls = λ staged. absurd (cc (staged, idle));
    room = λ staged. absurd (cc (staged, idle));
    told = λ t. record {
      wrote = λ staged. absurd (cc (staged, idle));
      stands = λ synced stands. subst (λ (c : Contents K V). Stands (f m.config) m.store c (disk (dev.time old))) (sym (stands.fresh idle)) stands;
    };
  })

  module _ (staged : m.store.staged ≡ true) where
    -- there is no next version
    pub full_syncs : 2 ^ 64 ≤ m.store.version + 1 → Syncs dev f m old old (Err Full)
    full_syncs none = none_called (Err Full) (record { staged = staged; cause = (none, refl); full = λ e. refl })

    module _ (room : m.store.version + 1 < 2 ^ 64) where
      -- memory is short for the copy
      pub short_syncs : (r : Result (Seen K V C) Error) → r ≡ Err Mem → Syncs dev f m old old r
      short_syncs r is = none_called r (subst (SyncEnds dev f m old old) (sym is) (record { staged = staged; cause = tt; full = λ none. absurd (omega (arith, none, room)) }))

      -- ---- the copy is written at the older one's place

      module _ (fits : (l : List ℕ) → (f m.config).seal l < 2 ^ 32) (floor_fits : m.store.floor < 2 ^ 64) (short : length (copy_of (f m.config) (m.store.version + 1) (contents_of m.store)) < 2 ^ 64)
          (map : IsMap (f m.config) m.store.entries) {T : Type 0} (mid : D) (k : Key) (given : List ℕ) (key : k ≡ blob_of m.store.partition m.store.older)
          (is_copy : given ≡ copy_of (f m.config) (m.store.version + 1) (contents_of m.store)) where
        written_at : (r : Result T DevError) → Passes k (Write 0 given) r (dev.time old) (dev.time mid)
            → Passes (blob_of m.store.partition m.store.older) (Write 0 (copy_of (f m.config) (m.store.version + 1) (contents_of m.store))) r (dev.time old) (dev.time mid)
        written_at r told = write_at_side m.store.partition m.store.older k given (copy_of (f m.config) (m.store.version + 1) (contents_of m.store)) r (dev.time old) (dev.time mid) key is_copy told

        -- the write failed
        pub write_failed : (e : DevError) → (dev.Tells → Passes {T = T} k (Write 0 given) (Err e) (dev.time old) (dev.time mid))
            → Counted {T = T} (Err e) (dev.faults old) (dev.faults mid) (dev.time old).calls (dev.time mid).calls
            → PartlyGrown k (0 + length given) (dev.opened old) (dev.opened mid)
            → (r : Result (Seen K V C) Error) → r ≡ Err (raised e) → Syncs dev f m old mid r
        write_failed e told counted grown r is =
            let grew = grew_partly m.store.partition m.store.older k (0 + length given) (dev.opened old) (dev.opened mid) key grown in
            record {
              moments = λ t. record {
                crashes = λ synced stands. write_crashes (f m.config) m.store.partition m.store.older m.store.version synced (contents_of m.store) (dev.time old)
                    (stands_on (f m.config) m.store synced (disk (dev.time old)) stands) fits room floor_fits short map (Err e) (dev.time mid) (written_at (Err e) (told t));
                alone = write_alone m.store.partition m.store.older (copy_of (f m.config) (m.store.version + 1) (contents_of m.store)) (Err e) (dev.time old) (dev.time mid) (written_at (Err e) (told t));
              };
              opened = grew_opened m.store.partition m.store.older (dev.opened old) (dev.opened mid) grew opened;
              entries = grew_others m.store.partition m.store.older (dev.opened old) (dev.opened mid) grew;
              reads = grew_reads m.store.partition m.store.older (dev.opened old) (dev.opened mid) grew;
              most_calls = inr (inl counted.calls);
              faults = counted.later;
              ends = subst (SyncEnds dev f m old mid) (sym is) (record { staged = staged; cause = caused dev f m old mid e counted; full = λ none. absurd (omega (arith, none, room)) });
            }

        -- it went well
        module _ {U : Type 0} (v : T) (new : D) (l : Key) (key' : l ≡ blob_of m.store.partition m.store.older)
            (first : dev.Tells → Passes k (Write 0 given) (Ok v) (dev.time old) (dev.time mid))
            (counted : Counted {T = T} (Ok v) (dev.faults old) (dev.faults mid) (dev.time old).calls (dev.time mid).calls)
            (grown : dev.opened mid ≡ updated (dev.opened old) k (λ o. with_len (max o.len (0 + length given)) o)) where
          both : (r : Result U DevError) → (dev.Tells → Passes l Settle r (dev.time mid) (dev.time new))
              → Counted r (dev.faults mid) (dev.faults new) (dev.time mid).calls (dev.time new).calls
              → dev.opened new ≡ dev.opened mid → (result : Result (Seen K V C) Error) → SyncEnds dev f m old new result → Syncs dev f m old new result
          both r second again stays result ends =
              let grew = grew_then m.store.partition m.store.older (dev.opened old) (dev.opened mid) (dev.opened new)
              (grew_at m.store.partition m.store.older k (dev.opened old) (dev.opened mid) (λ o. with_len (max o.len (0 + length given)) o) key grown (λ o. refl)) stays in
              record {
                moments = λ t. record {
                  crashes = λ synced stands. both_crashes (f m.config) m.store.partition m.store.older m.store.version synced (contents_of m.store) (dev.time old)
                      (stands_on (f m.config) m.store synced (disk (dev.time old)) stands) fits room floor_fits short map v r (dev.time mid) (dev.time new) (written_at (Ok v) (first t))
                      (settle_at_side m.store.partition m.store.older l r (dev.time mid) (dev.time new) key' (second t));
                  alone = both_alone m.store.partition m.store.older (copy_of (f m.config) (m.store.version + 1) (contents_of m.store)) (Ok v) r (dev.time old) (dev.time mid) (dev.time new) (written_at (Ok v) (first t))
                      (settle_at_side m.store.partition m.store.older l r (dev.time mid) (dev.time new) key' (second t));
                };
                opened = grew_opened m.store.partition m.store.older (dev.opened old) (dev.opened new) grew opened;
                entries = grew_others m.store.partition m.store.older (dev.opened old) (dev.opened new) grew;
                reads = grew_reads m.store.partition m.store.older (dev.opened old) (dev.opened new) grew;
                most_calls = inr (inr (again.calls ∙ ap next counted.calls));
                faults = omega (arith, counted.later, again.later);
                ends = ends;
              }

          -- the copy did not settle
          pub settle_failed : (e : DevError) → (dev.Tells → Passes {T = U} l Settle (Err e) (dev.time mid) (dev.time new))
              → Counted {T = U} (Err e) (dev.faults mid) (dev.faults new) (dev.time mid).calls (dev.time new).calls
              → dev.opened new ≡ dev.opened mid → (r : Result (Seen K V C) Error) → r ≡ Err (raised e) → Syncs dev f m old new r
          settle_failed e second again stays r is = both (Err e) second again stays r
              (subst (SyncEnds dev f m old new) (sym is) (record { staged = staged; cause = caused_later dev f m old mid new e counted.later again; full = λ none. absurd (omega (arith, none, room)) }))

          -- all went well
          pub all_synced : (w : U) → (dev.Tells → Passes l Settle (Ok w) (dev.time mid) (dev.time new))
              → Counted {T = U} (Ok w) (dev.faults mid) (dev.faults new) (dev.time mid).calls (dev.time new).calls
              → dev.opened new ≡ dev.opened mid → (older : Side) → older ≡ other_side m.store.older
              → Syncs dev f m old new (Ok (record m { store = record m.store { version = m.store.version + 1; older = older; staged = false } }))
          all_synced w second again stays older turned = both (Ok w) second again stays (Ok (record m { store = record m.store { version = m.store.version + 1; older = older; staged = false } })) (record {
            same = ap (λ (s : Side). record m.store { version = m.store.version + 1; older = s; staged = false }) turned
                ∙ ap (λ (b : Bool). cond b (record m.store { version = m.store.version + 1; older = other_side m.store.older; staged = false }) m.store) (sym staged);
            setting = refl;
            idle = λ idle. absurd (cc (staged, idle));
            calls = λ e. again.calls ∙ ap next counted.calls;
            room = λ e. room;
            told = λ t. record {
              wrote = λ e. sync_wrote (blob_of m.store.partition m.store.older) (copy_of (f m.config) (m.store.version + 1) (contents_of m.store)) v w (dev.time old) (dev.time mid) (dev.time new)
                  (written_at (Ok v) (first t)) (settle_at_side m.store.partition m.store.older l (Ok w) (dev.time mid) (dev.time new) key' (second t));
              stands = λ synced stands. stands_by (f m.config) (record m.store { version = m.store.version + 1; older = older; staged = false }) (contents_of m.store) (disk (dev.time new)) (other_side m.store.older)
                  (then_stands (f m.config) m.store.partition m.store.older m.store.version synced (contents_of m.store) (dev.time old)
                  (stands_on (f m.config) m.store synced (disk (dev.time old)) stands) fits room floor_fits short map v w (dev.time mid) (dev.time new) (written_at (Ok v) (first t))
                  (settle_at_side m.store.partition m.store.older l (Ok w) (dev.time mid) (dev.time new) key' (second t)))
                  turned (λ e. refl);
            };
          })

-- ---- a put before it

module _ {K V C D : Type 0} (dev : device.Ghosts D) (f : C → Format K V) (m : Seen K V C) (key : K) (value : V) (old : D) where
  -- memory was short
  pub put_short : (r : Result (Seen K V C) Error) (e : Error) → r ≡ Err e → e ≡ Mem → PutSyncs dev f m key value old old r
  put_short r e is short = let f : Error → Result (Seen K V C) Error = λ y. Err y in inl (is ∙ ap f short, refl)

  module _ (n : Seen K V C) (put : HasPut f m n key value) where
    put_is : n ≡ putting f m key value
    put_is = λ i. record { store = put.same i; config = put.setting i }

    -- the map may be synced then
    pub put_storable : MayBeSynced (f m.config) (insert_entry (f m.config).compare m.store.entries key value) → MayBeSynced (f n.config) n.store.entries
    put_storable all = subst (λ (x : Seen K V C). MayBeSynced (f x.config) x.store.entries) (sym put_is) all

    -- and was
    pub put_then : (new : D) (r : Result (Seen K V C) Error) → Syncs dev f n old new r → PutSyncs dev f m key value old new r
    put_then new r syncs = inr (subst (λ (x : Seen K V C). Syncs dev f x old new r) put_is syncs)
