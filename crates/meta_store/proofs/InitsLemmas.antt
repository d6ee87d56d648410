-- How an opening of a map ends.
use Rattle.std.proofs.Common.{◌≡◌, inl, inr, ◌<◌, ◌≤◌, ◌^◌, ℕ, List, length, Result, Ok, Err, refl, sym, ◌∙◌, ap, subst, arith}
use Rattle.blob_device.specs.Change.{Look, Make}
use Rattle.blob_device.specs.Counts as counts
use Rattle.blob_device.specs.Counts.{Counted, Rose}
use Rattle.blob_device.specs.Disk.{Blob, Disk, Key}
use Rattle.blob_device.specs.Opened.{entered, one_more_read, updated}
use Rattle.blob_device.specs.Timeline.{Always, Passes, disk}
use Rattle.blob_device.specs.declared.device.Device as device
use Rattle.blob_device.specs.declared.error.DevError.{DevError}
use Rattle.blob_device.specs.declared.error.DevError.TheVariants.{Fault, Mem}
use Rattle.blob_device.specs.lemmas.Moments.{always_start, always_weaker}
use Rattle.meta_store.specs.declared.copy.CopyText.{CopyText}
use Rattle.meta_store.specs.declared.error.Error.{Error}
use Rattle.meta_store.specs.declared.error.Error.TheVariants as error
use Rattle.meta_store.specs.declared.error.Side.{Side}
use Rattle.meta_store.specs.declared.error.Side.TheVariants.{Left, Right}
use Rattle.meta_store.specs.declared.pair.Chosen.{Chosen}
use Rattle.meta_store.specs.Blobs.{blob_of, read_bytes}
use Rattle.meta_store.specs.Calls.{CalledAtMost, IsFailure, OthersOpened, ReadAtMostOnce}
use Rattle.meta_store.specs.Copies.{ReadsOnlyAs}
use Rattle.meta_store.specs.Crashes.{KeepsAlone}
use Rattle.meta_store.specs.Errors.{raised}
use Rattle.meta_store.specs.Format.{Format}
use Rattle.meta_store.specs.Opening.{BothOpenedEnds, Holds, InitEnds, Inits, IsOpeningCause, LoadEnds, Loads, Looks, NotOpened, Opening, OpensBoth, PairOn}
use Rattle.meta_store.specs.Pairs.{chosen_of}
use Rattle.meta_store.specs.Store.{MayBeSynced, Seen, chosen_by, contents_of}
use Rattle.meta_store.proofs.DeviceCalls.{looked}
use Rattle.meta_store.proofs.Failing.{failed, on_fault, rose_later}
use Rattle.meta_store.proofs.OpenedSides.{entered_others, entered_reads, others_then, reads_stay, reads_then}
use Rattle.meta_store.proofs.OpeningLemmas.{left_opened, left_opening, left_stays, right_opened, right_opening}
use Rattle.meta_store.proofs.OpeningPair.{chosen_storable, one_chosen, one_outcome, opened_stands, pair_on, then_unchanged, unchanged_now}
use Rattle.meta_store.proofs.OpeningReads.{both_left, both_opened, both_others, both_right, first_left, first_others, first_right, still_opened}
use Rattle.meta_store.specs.lemmas.Reopening.{IsPromised, opening_keeps}

-- ---- counts of calls

called_more_1 : (a b : ℕ) → CalledAtMost 1 a b → CalledAtMost 2 a b
called_more_1 a b (inl is) = inl is
called_more_1 a b (inr is) = inr (inl is)

called_more_2 : (a b : ℕ) → CalledAtMost 2 a b → CalledAtMost 3 a b
called_more_2 a b (inl is) = inl is
called_more_2 a b (inr more) = inr (called_more_1 _ b more)

called_more_3 : (a b : ℕ) → CalledAtMost 3 a b → CalledAtMost 4 a b
called_more_3 a b (inl is) = inl is
called_more_3 a b (inr more) = inr (called_more_2 _ b more)

called_3 : (a b c : ℕ) → CalledAtMost 2 a b → CalledAtMost 1 b c → CalledAtMost 3 a c
called_3 a b c (inl is) more = called_more_2 a c (called_more_1 a c (subst (λ (n : ℕ). CalledAtMost 1 n c) is more))
called_3 a b c (inr (inl is)) more = inr (called_more_1 _ c (subst (λ (n : ℕ). CalledAtMost 1 n c) is more))
called_3 a b c (inr (inr is)) more = inr (inr (subst (λ (n : ℕ). CalledAtMost 1 n c) is more))

called_4 : (a b c : ℕ) → CalledAtMost 3 a b → CalledAtMost 1 b c → CalledAtMost 4 a c
called_4 a b c (inl is) more = called_more_3 a c (called_more_2 a c (called_more_1 a c (subst (λ (n : ℕ). CalledAtMost 1 n c) is more)))
called_4 a b c (inr (inl is)) more = inr (called_more_2 _ c (called_more_1 _ c (subst (λ (n : ℕ). CalledAtMost 1 n c) is more)))
called_4 a b c (inr (inr (inl is))) more = inr (inr (called_more_1 _ c (subst (λ (n : ℕ). CalledAtMost 1 n c) is more)))
called_4 a b c (inr (inr (inr is))) more = inr (inr (inr (subst (λ (n : ℕ). CalledAtMost 1 n c) is more)))

failure_later : (before mid now : ℕ) (e : Error) → before ≤ mid → IsFailure mid now e → IsFailure before now e
failure_later before mid now e later (inl is) = inl is
failure_later before mid now e later (inr is) = inr (is.0, rose_later before mid now later is.1)

-- ---- the two openings

module _ {D : Type 0} (dev : device.Ghosts D) (p : List ℕ) (old : D) where
  both_failed : (new : D) (e : DevError) → (e ≡ Fault → Rose (dev.faults old) (dev.faults new)) → BothOpenedEnds dev p old new (Err e)
  both_failed new Fault rose = rose refl
  both_failed new Mem rose = tt

  module _ (mid : D) (k : Key) (key : k ≡ blob_of p Left) where
    -- the left blob was not opened
    pub left_failed : (e : DevError) → (dev.Tells → Passes {T = ℕ} k Make (Err e) (dev.time old) (dev.time mid))
        → Counted {T = ℕ} (Err e) (dev.faults old) (dev.faults mid) (dev.time old).calls (dev.time mid).calls
        → dev.opened mid ≡ dev.opened old → (r : Result (ℕ × ℕ) DevError) → r ≡ Err e → OpensBoth dev p old mid r
    left_failed e told counted stays r is = record {
      moments = λ t. left_opening p k (dev.time old) (dev.time mid) key (Err e) (told t);
      entries = λ q left right. ap (λ (o : _). o q) stays;
      reads = reads_stay p (dev.opened old) (dev.opened mid) stays;
      calls = inr (inl counted.calls);
      faults = counted.later;
      ends = subst (BothOpenedEnds dev p old mid) (sym is) (both_failed mid e (on_fault e counted.cause));
    }

    -- it was
    module _ (n : ℕ) (new : D) (l : Key) (key' : l ≡ blob_of p Right)
        (first : dev.Tells → Passes k Make (Ok n) (dev.time old) (dev.time mid))
        (counted : Counted {T = ℕ} (Ok n) (dev.faults old) (dev.faults mid) (dev.time old).calls (dev.time mid).calls)
        (entered_first : dev.opened mid ≡ entered (dev.opened old) k n) where
      -- the right one was not
      pub right_failed : (e : DevError) → (dev.Tells → Passes {T = ℕ} l Make (Err e) (dev.time mid) (dev.time new))
          → Counted {T = ℕ} (Err e) (dev.faults mid) (dev.faults new) (dev.time mid).calls (dev.time new).calls
          → dev.opened new ≡ dev.opened mid → (r : Result (ℕ × ℕ) DevError) → r ≡ Err e → OpensBoth dev p old new r
      right_failed e second again stays r is = record {
        moments = λ t. right_opening p k (dev.time old) (dev.time mid) key l n (Err e) (dev.time new) key' (first t) (second t);
        entries = λ q left right. ap (λ (o : _). o q) stays ∙ entered_others p Left k n (dev.opened old) (dev.opened mid) key entered_first q left right;
        reads = reads_then p (dev.opened old) (dev.opened mid) (dev.opened new) (entered_reads p Left k n (dev.opened old) (dev.opened mid) key entered_first)
            (reads_stay p (dev.opened mid) (dev.opened new) stays);
        calls = inr (inr (again.calls ∙ ap counts.next counted.calls));
        faults = omega (arith, counted.later, again.later);
        ends = subst (BothOpenedEnds dev p old new) (sym is) (both_failed new e (λ f. rose_later (dev.faults old) (dev.faults mid) (dev.faults new) counted.later (on_fault e again.cause f)));
      }

      -- so was the right one
      pub opens_both : (w : ℕ) → (dev.Tells → Passes l Make (Ok w) (dev.time mid) (dev.time new))
          → Counted {T = ℕ} (Ok w) (dev.faults mid) (dev.faults new) (dev.time mid).calls (dev.time new).calls
          → dev.opened new ≡ entered (dev.opened mid) l w
          → (dev.Tells → n ≡ length (disk (dev.time mid) k).content) → (dev.Tells → w ≡ length (disk (dev.time new) l).content)
          → OpensBoth dev p old new (Ok (n, w))
      opens_both w second again entered_second first_length second_length = record {
        moments = λ t. right_opening p k (dev.time old) (dev.time mid) key l n (Ok w) (dev.time new) key' (first t) (second t);
        entries = others_then p (dev.opened old) (dev.opened mid) (dev.opened new) (entered_others p Left k n (dev.opened old) (dev.opened mid) key entered_first)
            (entered_others p Right l w (dev.opened mid) (dev.opened new) key' entered_second);
        reads = reads_then p (dev.opened old) (dev.opened mid) (dev.opened new) (entered_reads p Left k n (dev.opened old) (dev.opened mid) key entered_first)
            (entered_reads p Right l w (dev.opened mid) (dev.opened new) key' entered_second);
        calls = inr (inr (again.calls ∙ ap counts.next counted.calls));
        faults = omega (arith, counted.later, again.later);
        ends = record {
          list = entered_second ∙ ap (λ (x : Key). entered (dev.opened mid) x w) key'
              ∙ ap (λ (o : _). entered o (blob_of p Right) w) (entered_first ∙ ap (λ (x : Key). entered (dev.opened old) x n) key);
          left = λ t. left_opened p k (dev.time old) (dev.time mid) key l n (Ok w) (dev.time new) key' (first t) (second t);
          right = λ t. right_opened p k (dev.time old) (dev.time mid) key l n w (dev.time new) key' (first t) (second t);
          left_length = λ t. first_length t ∙ ap (λ (x : Key). length (disk (dev.time mid) x).content) key
              ∙ sym (ap (λ (b : Blob). length b.content) (left_stays p k (dev.time old) (dev.time mid) key l n (Ok w) (dev.time new) key' (first t) (second t)));
          right_length = λ t. second_length t ∙ ap (λ (x : Key). length (disk (dev.time new) x).content) key';
        };
      }

  -- ---- a read

  module _ (side : Side) (len : ℕ) where
    -- memory was short
    pub load_short : (r : Result (List ℕ) Error) → r ≡ Err error.Mem → Loads dev p old old side len r
    load_short r is = record {
      unchanged = λ t. always_start (dev.time old) (λ d. d ≡ disk (dev.time old)) refl;
      read = inl refl;
      calls = inl refl;
      faults = omega arith;
      ends = subst (LoadEnds dev p old old side len) (sym is) (inl refl);
    }

    module _ {T : Type 0} (new : D) (k : Key) (key : k ≡ blob_of p side) (list : dev.opened new ≡ updated (dev.opened old) k one_more_read) where
      began : (r : Result T DevError) → (dev.Tells → Passes k Look r (dev.time old) (dev.time new))
          → Counted r (dev.faults old) (dev.faults new) (dev.time old).calls (dev.time new).calls
          → (result : Result (List ℕ) Error) → LoadEnds dev p old new side len result → Loads dev p old new side len result
      began r told counted result ends = record {
        unchanged = λ t. looked k r (dev.time old) (dev.time new) (told t);
        read = inr (list ∙ ap (λ (x : Key). updated (dev.opened old) x one_more_read) key);
        calls = inr counted.calls;
        faults = counted.later;
        ends = ends;
      }

      -- the read failed
      pub load_failed : (e : DevError) → (dev.Tells → Passes {T = T} k Look (Err e) (dev.time old) (dev.time new))
          → Counted {T = T} (Err e) (dev.faults old) (dev.faults new) (dev.time old).calls (dev.time new).calls
          → (r : Result (List ℕ) Error) → r ≡ Err (raised e) → Loads dev p old new side len r
      load_failed e told counted r is = began (Err e) told counted r (subst (LoadEnds dev p old new side len) (sym is) (failed e _ _ _ _ counted))

      -- it went well
      pub loaded : (v : T) → (dev.Tells → Passes k Look (Ok v) (dev.time old) (dev.time new))
          → Counted {T = T} (Ok v) (dev.faults old) (dev.faults new) (dev.time old).calls (dev.time new).calls
          → (bytes : List ℕ) → LoadEnds dev p old new side len (Ok bytes) → Loads dev p old new side len (Ok bytes)
      loaded v told counted bytes ends = began (Ok v) told counted (Ok bytes) ends

-- ---- the opening

module _ {K V C D : Type 0} (dev : device.Ghosts D) (f : C → Format K V) (config : C) (p : List ℕ) (old : D)
    (fits : (l : List ℕ) → (f config).seal l < 2 ^ 32) (promised : dev.Tells → (k : Key) → IsPromised (disk (dev.time old) k)) where
  looks_at : (new : D) → (dev.Tells → Always (dev.time old) (dev.time new) (Opening p (disk (dev.time old)))) → CalledAtMost 4 (dev.time old).calls (dev.time new).calls
      → OthersOpened p (dev.opened old) (dev.opened new) → ReadAtMostOnce (blob_of p Left) (dev.opened old) (dev.opened new) → ReadAtMostOnce (blob_of p Right) (dev.opened old) (dev.opened new)
      → dev.faults old ≤ dev.faults new → Looks dev f config p old new
  looks_at new moments calls entries left_read right_read faults = record {
    moments = moments;
    crashes = λ t one other keeps chance_l chance_r. always_weaker (dev.time old) (dev.time new) (Opening p (disk (dev.time old))) (KeepsAlone (f config) p one other (disk (dev.time old)))
        (opening_keeps (f config) fits p one other (disk (dev.time old)) (promised t (blob_of p Left)) (promised t (blob_of p Right)) keeps chance_l chance_r) (moments t);
    calls = calls;
    entries = entries;
    left_read = left_read;
    right_read = right_read;
    faults = faults;
  }

  -- the device failed, or memory was short
  not_opened : (new : D) (e : Error) → IsFailure (dev.faults old) (dev.faults new) e → NotOpened dev f config p old new e
  not_opened new e failure = record { cause = cause failure; refused = λ t side pair. inr failure; complete = λ t chosen pair. failure }
    where
      cause : IsFailure (dev.faults old) (dev.faults new) e → IsOpeningCause dev f config p old new e
      cause (inl is) = subst (IsOpeningCause dev f config p old new) (sym is) tt
      cause (inr is) = subst (IsOpeningCause dev f config p old new) (sym is.0) is.1

  failing : (new : D) (e : Error) → Looks dev f config p old new → IsFailure (dev.faults old) (dev.faults new) e → (r : Result (Seen K V C) Error) → r ≡ Err e → Inits dev f config p old new r
  failing new e looks failure r is = record { looks = looks; ends = subst (InitEnds dev f config p old new) (sym is) (not_opened new e failure) }

  module _ (mid : D) where
    -- the blobs were not opened
    pub open_failed : (e : DevError) → OpensBoth dev p old mid (Err e) → (r : Result (Seen K V C) Error) → r ≡ Err (raised e) → Inits dev f config p old mid r
    open_failed e opens r is = failing mid (raised e)
        (looks_at mid opens.moments (called_more_3 _ _ (called_more_2 _ _ opens.calls)) opens.entries (inl opens.reads.left) (inl opens.reads.right) opens.faults) (by_error e opens.ends) r is
      where
        by_error : (x : DevError) → BothOpenedEnds dev p old mid (Err x) → IsFailure (dev.faults old) (dev.faults mid) (raised x)
        by_error Fault rose = inr (refl, rose)
        by_error Mem none = inl refl

    module _ (n w : ℕ) (opens : OpensBoth dev p old mid (Ok (n, w))) (next : D) where
      -- the left one was not read
      module _ (e : Error) (load : Loads dev p mid next Left n (Err e)) where
        pub left_unread : (r : Result (Seen K V C) Error) → r ≡ Err e → Inits dev f config p old next r
        left_unread r is = failing next e
            (looks_at next (λ t. then_unchanged (dev.time old) (dev.time mid) (dev.time next) (Opening p (disk (dev.time old))) (opens.moments t) (load.unchanged t))
            (called_more_3 _ _ (called_3 _ _ _ opens.calls load.calls))
            (first_others p (dev.opened old) (dev.opened mid) (dev.opened next) opens.entries opens.reads load.read)
            (first_left p (dev.opened old) (dev.opened mid) (dev.opened next) opens.entries opens.reads load.read)
            (first_right p (dev.opened old) (dev.opened mid) (dev.opened next) opens.entries opens.reads load.read)
            (omega (arith, opens.faults, load.faults)))
            (failure_later (dev.faults old) (dev.faults mid) (dev.faults next) e opens.faults load.ends) r is

      module _ (left : List ℕ) (load : Loads dev p mid next Left n (Ok left)) (new : D) where
        looks_both : (r : Result (List ℕ) Error) → Loads dev p next new Right w r → Looks dev f config p old new
        looks_both r again = looks_at new
            (λ t. then_unchanged (dev.time old) (dev.time next) (dev.time new) (Opening p (disk (dev.time old)))
            (then_unchanged (dev.time old) (dev.time mid) (dev.time next) (Opening p (disk (dev.time old))) (opens.moments t) (load.unchanged t)) (again.unchanged t))
            (called_4 _ _ _ (called_3 _ _ _ opens.calls load.calls) again.calls)
            (both_others p (dev.opened old) (dev.opened mid) (dev.opened next) opens.entries opens.reads load.read (dev.opened new) again.read)
            (both_left p (dev.opened old) (dev.opened mid) (dev.opened next) opens.entries opens.reads load.read (dev.opened new) again.read)
            (both_right p (dev.opened old) (dev.opened mid) (dev.opened next) opens.entries opens.reads load.read (dev.opened new) again.read)
            (omega (arith, opens.faults, load.faults, again.faults))

        -- the right one was not read
        pub right_unread : (e : Error) → Loads dev p next new Right w (Err e) → (r : Result (Seen K V C) Error) → r ≡ Err e → Inits dev f config p old new r
        right_unread e again r is = failing new e (looks_both (Err e) again)
            (failure_later (dev.faults old) (dev.faults next) (dev.faults new) e (omega (arith, opens.faults, load.faults)) again.ends) r is

        -- both were read
        module _ (right : List ℕ) (again : Loads dev p next new Right w (Ok right)) where
          -- but memory was short for what they hold
          pub read_short : (r : Result (Seen K V C) Error) → r ≡ Err error.Mem → Inits dev f config p old new r
          read_short r is = failing new error.Mem (looks_both (Ok right) again) (inl refl) r is

          is_left : dev.Tells → left ≡ read_bytes (disk (dev.time old) (blob_of p Left))
          is_left t = load.ends t (sym (opens.ends.left_length t)) ∙ ap (λ (b : Blob). b.content) (opens.ends.left t)

          right_then : dev.Tells → disk (dev.time next) (blob_of p Right) ≡ disk (dev.time mid) (blob_of p Right)
          right_then t = ap (λ (d : Disk). d (blob_of p Right)) (unchanged_now (dev.time mid) (dev.time next) (load.unchanged t))

          is_right : dev.Tells → right ≡ read_bytes (disk (dev.time old) (blob_of p Right))
          is_right t = again.ends t (ap (λ (b : Blob). length b.content) (right_then t) ∙ sym (opens.ends.right_length t))
              ∙ ap (λ (b : Blob). b.content) (right_then t ∙ opens.ends.right t)

          now_at : (side : Side) → dev.Tells → disk (dev.time new) (blob_of p side) ≡ disk (dev.time mid) (blob_of p side)
          now_at side t = ap (λ (d : Disk). d (blob_of p side)) (unchanged_now (dev.time next) (dev.time new) (again.unchanged t) ∙ unchanged_now (dev.time mid) (dev.time next) (load.unchanged t))

          -- and they read as these texts
          module _ (given_left given_right : List ℕ) (same_left : given_left ≡ left) (same_right : given_right ≡ right) (a b : CopyText K V)
              (of_left : ReadsOnlyAs (f config) given_left a) (of_right : ReadsOnlyAs (f config) given_right b) where
            found : (outcome : Result (Chosen K V) Side) → chosen_of a b ≡ outcome → dev.Tells → PairOn (f config) p (disk (dev.time old)) outcome
            found outcome is t = pair_on (f config) p (disk (dev.time old)) given_left given_right a b outcome (same_left ∙ is_left t) (same_right ∙ is_right t) of_left.reads of_right.reads is

            one : (outcome : Result (Chosen K V) Side) → dev.Tells → PairOn (f config) p (disk (dev.time old)) outcome → chosen_of a b ≡ outcome
            one outcome t pair = one_outcome (f config) p (disk (dev.time old)) given_left given_right a b outcome (same_left ∙ is_left t) (same_right ∙ is_right t) of_left.only of_right.only pair

            -- one is refused
            pub side_refused : (side : Side) → chosen_of a b ≡ Err side → (r : Result (Seen K V C) Error) → r ≡ Err (error.Corruption side) → Inits dev f config p old new r
            side_refused side is r err = record {
              looks = looks_both (Ok right) again;
              ends = subst (InitEnds dev f config p old new) (sym err) (record {
                cause = found (Err side) is;
                refused = λ t other pair. let same : side ≡ other = cc (is, one (Err other) t pair) in inl (ap error.Corruption same);
                complete = λ t chosen pair. absurd (cc (is, one (Ok chosen) t pair));
              });
            }

            -- there is a map
            pub map_chosen : (chosen : Chosen K V) → chosen_of a b ≡ Ok chosen → (r : Result (Seen K V C) Error) → Holds p config chosen r → Inits dev f config p old new r
            map_chosen chosen is (Err e) short = failing new e (looks_both (Ok right) again) (inl short) (Err e) refl
            map_chosen chosen is (Ok m) holds = record {
              looks = looks_both (Ok right) again;
              ends = record {
                place = holds.place;
                setting = holds.setting;
                staged = holds.staged;
                storable = subst (λ (c : Chosen K V). MayBeSynced (f config) c.contents.entries) (sym holds.has) (chosen_storable (f config) given_left given_right a b chosen of_left.reads of_right.reads is);
                opened = still_opened p (dev.opened old) (dev.opened mid) (dev.opened next) opens.entries opens.reads load.read (dev.opened new) again.read
                    (both_opened p n w (dev.opened old) (dev.opened mid) opens.ends.list);
                told = λ t. record {
                  reads = pair t;
                  only = λ other others. let same : chosen ≡ other = one_chosen (sym is ∙ one (Ok other) t others) in holds.has ∙ same;
                  sound = λ side refused. cc (is, one (Err side) t refused);
                  stands = opened_stands (f config) m.store p (disk (dev.time old)) (disk (dev.time new)) holds.place (now_at Left t ∙ opens.ends.left t) (now_at Right t ∙ opens.ends.right t) (pair t);
                };
              };
            }
              where
                pair : dev.Tells → PairOn (f config) p (disk (dev.time old)) (Ok (chosen_by m.store (contents_of m.store)))
                pair t = subst (λ (c : Chosen K V). PairOn (f config) p (disk (dev.time old)) (Ok c)) (sym holds.has) (found (Ok chosen) is t)

-- memory was short for a map that was chosen
pub holding_short : {K V C : Type 0} (p : List ℕ) (config : C) (chosen : Chosen K V) (r : Result (Seen K V C) Error) → r ≡ Err error.Mem → Holds p config chosen r
holding_short p config chosen r is = subst (Holds p config chosen) (sym is) refl
