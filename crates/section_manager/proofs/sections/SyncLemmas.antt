-- What one call on the buffer of one section makes of a manager, and what syncs do.
use Rattle.std.specs.Prelude.{⊤, ◌≡◌, ◌≢◌, ◌⊎◌, ℕ, ◌<◌, Bool, true, false, ◌+◌, List, [], ◌∷◌, ◌++◌, length, take, get_or, Some, IsSome}
use Rattle.std.proofs.Common.{inl, inr, refl, sym, ◌∙◌, ap, subst, arith}
use Rattle.std.specs.List.{Contains}
use Rattle.std.proofs.lemmas.List.{take_more}
use Rattle.std.proofs.lemmas.List.Elements.{Contains-get_or, Contains-append_left, Contains-push, Contains-push_cases}
use Rattle.std.proofs.lemmas.Bool.{false_from_ne_true, both_ways}
use Rattle.blob_device.specs.Disk.{Key, Blob, Disk}
use Rattle.blob_device.specs.Opened.{OpenedList}
use Rattle.blob_device.specs.Timeline.{Timeline, disk, Always, Each}
use Rattle.blob_device.specs.lemmas.Moments.{always_now, always_weaker, only_start}
use Rattle.sealed_pages.specs.Cutting.{StandsSettled}
use Rattle.sealed_pages.specs.Entries.{IsOpenAt}
use Rattle.sealed_pages.specs.lemmas.slots.PageCalls.{only_weaker}
use Rattle.section_manager.specs.lemmas.Walk.{Makes, Rules, Tried, Tries, Walked, Walking, tried_more, tried_start, walked_more, walked_start}
use Rattle.section_manager.specs.lemmas.sections.Over.{HasOpenedAt, StandsAt, over_changed, same_key}
use Rattle.section_manager.specs.declared.buffer.SectionBuffer as buffer
use Rattle.section_manager.specs.Entries.{OnlyOwnEntry}
use Rattle.section_manager.specs.Leaving.{Leaves, AllMoments}
use Rattle.section_manager.specs.Setting.{Setting}
use Rattle.section_manager.specs.Sections.{Sections, key_of, IsHeld, IsSame, SameBounds, IsOver, IsSynced}
use Rattle.section_manager.specs.Lasting.{Syncing}
use Rattle.blob_device.proofs.general.Lists.{contains_or_not}
use Rattle.blob_device.proofs.general.Options.{some_same}
use Rattle.section_manager.specs.lemmas.sections.Sync.{BufferLaws}

module _ {F B : Type 0} (g : buffer.Ghosts B) (gives : F → Setting) (told : Type 0) (m : Sections F B) (old : OpenedList) (s : ℕ) (u : B) (was : m.held s ≡ Some u) where
  -- the same facts by the blob's key, and by any buffer that is held in the section
  module _ (a b : Timeline) (least : B → ℕ) (over : IsOver g gives told m old (disk a)) where
    pub key_is : g.key u ≡ key_of m s
    key_is = over.opened_list.key s u was

    pub open_before : IsOpenAt old (g.key u) (g.extent u)
    open_before = subst (λ (k : Key). IsOpenAt old k (g.extent u)) (sym key_is) (over.opened_list.is_open s u was)

    pub stands_before : told → g.Stands u (disk a (g.key u))
    stands_before t = subst (λ (k : Key). g.Stands u (disk a k)) (sym key_is) ((over.disk t).stands s u was)

    pub moments_of : (told → g.Stands u (disk a (g.key u)) → AllMoments (g.key u) (Leaves (g.NoChanceSeal u) (g.MayKeep u (disk a (g.key u)) (least u))) a b)
        → told → AllMoments (key_of m s) (λ x. (w : B) → m.held s ≡ Some w → Leaves (g.NoChanceSeal w) (g.MayKeep w (disk a (key_of m s)) (least w)) x) a b
    moments_of moments t = only_weaker a b (key_of m s) (disk a) (Leaves (g.NoChanceSeal u) (g.MayKeep u (disk a (key_of m s)) (least u)))
        (λ x. (w : B) → m.held s ≡ Some w → Leaves (g.NoChanceSeal w) (g.MayKeep w (disk a (key_of m s)) (least w)) x)
        (λ x leaves w held. subst (λ (v : B). Leaves (g.NoChanceSeal v) (g.MayKeep v (disk a (key_of m s)) (least v)) x) (some_same u w (sym was ∙ held)) leaves)
        (subst (λ (k : Key). AllMoments k (Leaves (g.NoChanceSeal u) (g.MayKeep u (disk a k) (least u))) a b) key_is (moments t (stands_before t)))

    pub entries_of : (new : OpenedList) → OnlyOwnEntry (g.key u) old new → OnlyOwnEntry (key_of m s) old new
    entries_of new entries = subst (λ (k : Key). OnlyOwnEntry k old new) key_is entries

  -- the buffer was replaced by another over the same blob
  pub record Replaced (n : Sections F B) (v : B) (new : OpenedList) (a b : Timeline) (Q : Blob → Type 0) : Type 0 where
    pub now : n.held s ≡ Some v
    pub unopened : n.unopened s ≡ m.unopened s
    pub others : (q : ℕ) → q ≢ s → IsSame m n q
    pub bounds : SameBounds m n
    pub key : g.key v ≡ g.key u
    pub setting : g.setting v ≡ g.setting u
    pub is_open : IsOpenAt new (g.key u) (g.extent v)
    pub entries : OnlyOwnEntry (g.key u) old new
    pub stands : told → g.Stands u (disk a (g.key u)) → g.Stands v (disk b (g.key u))
    pub moments : told → g.Stands u (disk a (g.key u)) → AllMoments (g.key u) Q a b

  module _ (n : Sections F B) (v : B) (new : OpenedList) (a b : Timeline) (Q : Blob → Type 0) (over : IsOver g gives told m old (disk a)) (change : Replaced n v new a b Q) where
    own_key : g.key u ≡ key_of n s
    own_key = over.opened_list.key s u was ∙ sym (same_key m n change.bounds s)

    held_before : IsHeld m s
    held_before = subst IsSome (sym was) refl

    opened_at : HasOpenedAt g gives n new s
    opened_at = record {
      key = λ w held. subst (λ (x : B). g.key x ≡ key_of n s) (some_same v w (sym change.now ∙ held)) (change.key ∙ own_key);
      setting = λ w held. subst (λ (x : B). g.setting x ≡ gives n.factory) (some_same v w (sym change.now ∙ held))
          (change.setting ∙ over.opened_list.setting s u was ∙ ap gives (sym change.bounds.place.factory));
      is_open = λ w held. subst (λ (x : B). IsOpenAt new (key_of n s) (g.extent x)) (some_same v w (sym change.now ∙ held))
          (subst (λ (k : Key). IsOpenAt new k (g.extent v)) own_key change.is_open);
      to_ceiling = λ held. omega (arith, change.bounds.ceiling, over.opened_list.to_ceiling s held_before);
      apart = λ held. change.unopened ∙ over.opened_list.apart s held_before;
      from_floor = λ known. omega (arith, change.bounds.floor, over.opened_list.from_floor s (inl held_before));
    }

    stands_at : told → StandsAt g gives n (disk b) s
    stands_at t = record {
      stands = λ w held. subst (λ (x : B). g.Stands x (disk b (key_of n s))) (some_same v w (sym change.now ∙ held))
          (subst (λ (k : Key). g.Stands v (disk b k)) own_key (change.stands t (subst (λ (k : Key). g.Stands u (disk a k)) (sym (over.opened_list.key s u was)) ((over.disk t).stands s u was))));
      whose = λ there. inl (subst IsSome (sym change.now) refl);
    }

    -- the manager's sections are those of the partition again
    pub over_replaced : IsOver g gives told n new (disk b)
    over_replaced = over_changed g gives m n old new (disk a) (disk b) s over (record {
      number = over.opened_list.number s (inl held_before);
      bounds = change.bounds;
      others = change.others;
      entries = subst (λ (k : Key). OnlyOwnEntry k old new) (over.opened_list.key s u was) change.entries;
      blobs = λ t q other.
          (always_now a b _ (change.moments t (subst (λ (k : Key). g.Stands u (disk a k)) (sym (over.opened_list.key s u was)) ((over.disk t).stands s u was)))).others q
          (λ is. other (is ∙ over.opened_list.key s u was));
      opened = opened_at;
      disk = stands_at;
    })

module _ {F B : Type 0} (g : buffer.Ghosts B) (gives : F → Setting) (told : Type 0) where
  -- nothing is called: each crash leaves what had settled
  pub same_moments : (m : Sections F B) (old : OpenedList) (s : ℕ) (a : Timeline) (least : B → ℕ) → IsOver g gives told m old (disk a)
      → ((u : B) (b : Blob) → g.Stands u b → Leaves (g.NoChanceSeal u) (g.MayKeep u b (least u)) b)
      → told → AllMoments (key_of m s) (λ x. (u : B) → m.held s ≡ Some u → Leaves (g.NoChanceSeal u) (g.MayKeep u (disk a (key_of m s)) (least u)) x) a a
  same_moments m old s a least over leaves t = only_start a (key_of m s) (λ x. (u : B) → m.held s ≡ Some u → Leaves (g.NoChanceSeal u) (g.MayKeep u (disk a (key_of m s)) (least u)) x)
      (λ u held. leaves u (disk a (key_of m s)) ((over.disk t).stands s u held))

  -- a buffer that has settled is as a sync leaves it
  pub synced_same : BufferLaws g → (u : B) (b : Blob) → (told → g.Stands u b) → g.unsettled u ≡ false → IsSynced g told u u b b
  synced_same laws u b stands done = record {
    size = refl;
    settled = laws.all_settled u done;
    done = done;
    bytes = λ t. refl;
    rests = λ t. laws.rested u b (stands t) done;
    whole = λ t whole. whole;
    again = λ t whole. laws.found_again u b (stands t) whole done;
    same = λ is. refl;
  }

  -- what a sync that did something answers
  pub record SyncAnswer (u v : B) (x y : Blob) : Type 0 where
    pub acts : g.unsettled u ≡ true
    pub stood : told → g.Stands u x
    pub stands : told → g.Stands u x → g.Stands v y
    pub bytes : told → g.Stands u x → g.bytes v y.content ≡ g.bytes u x.content
    pub whole : told → g.Stands u x → g.IsWhole u x → g.IsWhole v y
    pub size : g.byte_count v ≡ g.byte_count u
    pub done : g.unsettled v ≡ false

  pub synced_new : BufferLaws g → (u v : B) (x y : Blob) → SyncAnswer u v x y → IsSynced g told u v x y
  synced_new laws u v x y call = record {
    size = call.size;
    settled = laws.all_settled v call.done ∙ call.size;
    done = call.done;
    bytes = λ t. call.bytes t (call.stood t);
    rests = λ t. laws.rested v y (call.stands t (call.stood t)) call.done;
    whole = λ t whole. call.whole t (call.stood t) whole;
    again = λ t whole. laws.found_again v y (call.stands t (call.stood t)) (call.whole t (call.stood t) whole) call.done;
    same = λ is. absurd (both_ways (g.unsettled u) is call.acts);
  }

  -- where the disk is told, it may be told otherwise
  synced_moves : (u v : B) (x y old new : Blob) → (told → old ≡ x) → (told → new ≡ y) → IsSynced g told u v x y → IsSynced g told u v old new
  synced_moves u v x y old new was is did = record {
    size = did.size;
    settled = did.settled;
    done = did.done;
    bytes = λ t. ap (λ (b : Blob). g.bytes v b.content) (is t) ∙ did.bytes t ∙ sym (ap (λ (b : Blob). g.bytes u b.content) (was t));
    rests = λ t. subst StandsSettled (sym (is t)) (did.rests t);
    whole = λ t whole. subst (g.IsWhole v) (sym (is t)) (did.whole t (subst (g.IsWhole u) (was t) whole));
    again = λ t whole. subst (λ (b : Blob). g.holds (g.setting v) b.content ≡ g.bytes v b.content) (sym (is t)) (did.again t (subst (g.IsWhole u) (was t) whole));
    same = did.same;
  }

  abbrev pub NeedsSync : ℕ → B → Type 0
  NeedsSync s u = g.unsettled u ≡ true

  abbrev pub settled_of : ℕ → B → ℕ
  settled_of s u = g.settled u

  abbrev pub DidSync : ℕ → B → B → Blob → Blob → Type 0
  DidSync s u v x y = IsSynced g told u v x y

  needs_or_not : (b : Bool) → (b ≡ true) ⊎ (b ≡ true → ⊥)
  needs_or_not true = inl refl
  needs_or_not false = inr (λ is. absurd (cc is))

  pub sync_rules : {Dev : Type 0} (time : Dev → Timeline) (opened : Dev → OpenedList) (faults : Dev → ℕ) → BufferLaws g → Rules g gives told time opened faults NeedsSync settled_of DidSync
  sync_rules time opened faults laws = record {
    decides = λ s u. needs_or_not (g.unsettled u);
    passes = λ s u x stands. laws.passes u x stands;
    ends = λ s u v x y did acts. both_ways (g.unsettled v) did.done acts;
    same = λ s u v x y did idle. did.same (false_from_ne_true (g.unsettled u) idle);
    moves = λ s u v x y old new was is did. synced_moves u v x y old new was is did;
  }

  -- what a walk of syncs leaves of the blobs
  pub syncing_of : {Dev : Type 0} (time : Dev → Timeline) (opened : Dev → OpenedList) (faults : Dev → ℕ) (m : Sections F B) (IsNamed : ℕ → Type 0) (a b : Dev)
      → Tried g gives told time opened faults NeedsSync settled_of DidSync m IsNamed a b → told → Always (time a) (time b) (Each (Syncing g m IsNamed (disk (time a))))
  syncing_of time opened faults m IsNamed a b tried t = always_weaker (time a) (time b) (Each (Walking g gives told time opened faults NeedsSync settled_of DidSync m IsNamed (disk (time a)))) (Each (Syncing g m IsNamed (disk (time a))))
      (λ d walking q. record { named = (walking q).named; others = (walking q).others }) (tried.moments t)

  -- where all that is held is named, it need not be
  pub syncing_all : (m : Sections F B) (IsNamed : ℕ → Type 0) (from : Disk) (a b : Timeline) → ((s : ℕ) (u : B) → m.held s ≡ Some u → IsNamed s) → Always a b (Each (Syncing g m IsNamed from)) → Always a b (Each (Syncing g m (λ s. ⊤) from))
  syncing_all m IsNamed from a b names always = always_weaker a b (Each (Syncing g m IsNamed from)) (Each (Syncing g m (λ s. ⊤) from))
      (λ d each q. record {
        named = λ s u all held is. (each q).named s u (names s u held) held is;
        others = λ none. (each q).others (λ k. none (k.0, (tt, k.1.1), k.2));
      }) always

  module _ {Dev : Type 0} (time : Dev → Timeline) (opened : Dev → OpenedList) (faults_of : Dev → ℕ) where
    -- what syncs of sections one after another made so far of the manager, and what they leave
    abbrev pub SyncWalked : (ℕ → Type 0) → Sections F B → Sections F B → Dev → Dev → Type 0
    SyncWalked IsDone m n a b = Walked g gives told time opened faults_of NeedsSync settled_of DidSync IsDone m n a b

    abbrev pub SyncTried : Sections F B → (ℕ → Type 0) → Dev → Dev → Type 0
    SyncTried m IsNamed a b = Tried g gives told time opened faults_of NeedsSync settled_of DidSync m IsNamed a b

    abbrev pub SyncTries : ℕ → Sections F B → Dev → Dev → Type 0
    SyncTries s m a b = Tries g gives told time opened faults_of NeedsSync settled_of DidSync s m a b

    abbrev pub SyncMakes : ℕ → Sections F B → Sections F B → Dev → Dev → Type 0
    SyncMakes s m r a b = Makes g gives told time opened faults_of NeedsSync settled_of DidSync s m r a b

    pub sync_tried_start : BufferLaws g → (m : Sections F B) (IsNamed : ℕ → Type 0) (a : Dev) → IsOver g gives told m (opened a) (disk (time a)) → SyncTried m IsNamed a a
    sync_tried_start laws = tried_start g gives told time opened faults_of NeedsSync settled_of DidSync (sync_rules time opened faults_of laws)

    pub sync_walked_start : (IsDone : ℕ → Type 0) (m : Sections F B) (a : Dev) → ((s : ℕ) → IsDone s → ⊥) → IsOver g gives told m (opened a) (disk (time a)) → SyncWalked IsDone m m a a
    sync_walked_start = walked_start g gives told time opened faults_of NeedsSync settled_of DidSync

    -- one section more of a list
    module _ (laws : BufferLaws g) (xs : List ℕ) (i : ℕ) (within : i < length xs) (m n : Sections F B) (a b c : Dev) (began : IsOver g gives told m (opened a) (disk (time a)))
        (walked : SyncWalked (Contains (take i xs)) m n a b) (tried : SyncTried m (Contains xs) a b) (tries : SyncTries (get_or xs i 0) n b c) where
      pub sync_tried_more : SyncTried m (Contains xs) a c
      sync_tried_more = tried_more g gives told time opened faults_of NeedsSync settled_of DidSync (sync_rules time opened faults_of laws) (Contains xs) (Contains (take i xs)) (contains_or_not (take i xs))
          m n a b (get_or xs i 0) began walked c tried tries (Contains-get_or xs i 0 within)

      pub sync_walked_more : (r : Sections F B) → SyncMakes (get_or xs i 0) n r b c → SyncWalked (Contains (take (i + 1) xs)) m r a c
      sync_walked_more r makes = subst (λ (ys : List ℕ). SyncWalked (Contains ys) m r a c) (sym (take_more xs i 0 within))
          (walked_more g gives told time opened faults_of NeedsSync settled_of DidSync (sync_rules time opened faults_of laws) (Contains xs) (Contains (take i xs)) (contains_or_not (take i xs))
          m n a b (get_or xs i 0) began walked c tried tries (Contains (take i xs ++ get_or xs i 0 ∷ []))
          (λ q done. Contains-append_left (take i xs) (get_or xs i 0 ∷ []) q done) (Contains-push (take i xs) (get_or xs i 0)) (λ q done. pushed q (Contains-push_cases (take i xs) (get_or xs i 0) q done)) r makes)
        where
          pushed : (q : ℕ) → Contains (take i xs) q ⊎ (get_or xs i 0 ≡ q) → Contains (take i xs) q ⊎ (q ≡ get_or xs i 0)
          pushed q (inl before) = inl before
          pushed q (inr is) = inr (sym is)
