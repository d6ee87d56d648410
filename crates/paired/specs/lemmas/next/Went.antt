-- What one or more calls of `next` did to the walk over a pair's records: what they leave of its sections, and what their items are.
use Rattle.std.specs.Prelude.{◌≡◌, ◌⊎◌, ◌↔◌, ℕ, ◌^◌, ◌<◌, false, List, IsTrue, Option, Some, IsSomeAnd}
use Rattle.std.proofs.Common.{inl, refl, sym, ◌∙◌, ap, subst}
use Rattle.blob_device.specs.Disk.{Key, Disk}
use Rattle.blob_device.specs.Opened.{Opened, OpenedList}
use Rattle.blob_device.specs.Timeline.{Timeline, disk, Always, Each}
use Rattle.blob_device.specs.lemmas.Moments.{always_start, always_then, always_weaker, always_now}
use Rattle.sealed_pages.specs.declared.page_blob.PageBlob.{PageBlob}
use Rattle.sealed_pages.specs.Shown.{shown}
use Rattle.sealed_pages.specs.Buffer.{bytes_of}
use Rattle.sealed_pages.specs.Reading.{Unchanged}
use Rattle.section_manager.specs.declared.buffer.SectionBuffer as buffer
use Rattle.section_manager.specs.Setting.{Setting}
use Rattle.section_manager.specs.Sections.{section_key, key_of, IsHeld, StandsOver}
use Rattle.segments.specs.FixedReplay.{Walk, IsAhead, IsIn, SameWalk, SameItems, IsSameOrCut, KeepsSections, KeepsFloors, KeepsBytes, KeepsItems, IsWalk, WalksOver, Replaying, LeavesNoMore}
use Rattle.segments.specs.lemmas.FixedOwed.{same_items, items_then, same_or_cut, cut_then}
use Rattle.segments.specs.lemmas.replay.Walks.{same_bytes}
use Rattle.segments.specs.lemmas.replay.WalksOn.{replaying_start}
use Rattle.blob_device.proofs.general.Options.{same_some, some_of, some_there}

module _ {F S : Type 0} {gs : _} (seal : List ℕ → ℕ) (size : ℕ) (g : buffer.Ghosts (PageBlob S gs)) (told : Type 0) where
  -- The walk has come from w to v, the last call maybe with an error.
  pub record Went (w v : Walk F (PageBlob S gs)) (a c : Timeline) : Type 0 where
    pub same : SameWalk w v
    pub begun : v.ended ≡ false → w.ended ≡ false
    pub onward : (s : ℕ) → IsAhead v s ⊎ IsIn v s → IsAhead w s ⊎ IsIn w s
    pub stays : KeepsSections w v
    pub floors : KeepsFloors w v
    pub bytes : KeepsBytes told w v (disk a) (disk c)
    pub items : told → v.ended ≡ false → KeepsItems seal size w (disk a) (disk c)
    pub unsettled : (s : ℕ) (u x : PageBlob S gs) → w.journal.sections.held s ≡ Some u → v.journal.sections.held s ≡ Some x → g.unsettled u ≡ false → g.unsettled x ≡ false
    pub moments : told → Always a c (Each (Replaying seal size w (disk a)))

  -- no call gave an error
  pub record Goes (w v : Walk F (PageBlob S gs)) (a c : Timeline) : Type 0 where
    pub ended : v.ended ≡ w.ended
    pub failed : v.failed ≡ w.failed
    pub known : (s : ℕ) → v.journal.sections.unopened s ≡ w.journal.sections.unopened s
    pub held : (s : ℕ) → IsHeld v.journal.sections s ↔ IsHeld w.journal.sections s
    pub later : told → LeavesNoMore seal size w v (disk a) (disk c)

  same_start : (w : Walk F (PageBlob S gs)) → SameWalk w w
  same_start w = record { bounds = record { place = record { partition = refl; factory = refl }; floor = refl; ceiling = refl }; unrecovered = λ s. refl; floors = λ s. refl; section = refl; position = refl }

  pub went_start : (w : Walk F (PageBlob S gs)) (a : Timeline) → Went w w a a
  went_start w a = record {
    same = same_start w;
    begun = λ is. is;
    onward = λ s near. near;
    stays = λ s none. (none, (λ h. h, λ h. h));
    floors = λ s u v held also. same_or_cut (w.journal.floor_of s) u v (same_some (w.journal.sections.held s) u v held also);
    bytes = λ s u v held also free. same_bytes told u v (disk a (key_of w.journal.sections s)) (disk a (key_of w.journal.sections s)) (same_some (w.journal.sections.held s) u v held also) (λ t. refl);
    items = λ t going s u held owed. same_items seal u.page_size size (disk a (key_of w.journal.sections s)) (disk a (key_of w.journal.sections s)) refl;
    unsettled = λ s u x held also idle. subst (λ (y : PageBlob S gs). g.unsettled y ≡ false) (sym (same_some (w.journal.sections.held s) u x held also)) idle;
    moments = λ t. always_start a (Each (Replaying seal size w (disk a))) (λ q. replaying_start seal size w (disk a) q);
  }

  pub goes_start : (w : Walk F (PageBlob S gs)) (a : Timeline) → Goes w w a a
  goes_start w a = record { ended = refl; failed = refl; known = λ s. refl; held = λ s. (λ h. h, λ h. h); later = λ t q b is. is }

  pub same_then : (w x v : Walk F (PageBlob S gs)) → SameWalk w x → SameWalk x v → SameWalk w v
  same_then w x v first more = record {
    bounds = record {
      place = record { partition = more.bounds.place.partition ∙ first.bounds.place.partition; factory = more.bounds.place.factory ∙ first.bounds.place.factory };
      floor = more.bounds.floor ∙ first.bounds.floor;
      ceiling = more.bounds.ceiling ∙ first.bounds.ceiling;
    };
    unrecovered = λ s. more.unrecovered s ∙ first.unrecovered s;
    floors = λ s. more.floors s ∙ first.floors s;
    section = more.section ∙ first.section;
    position = more.position ∙ first.position;
  }

  module _ (w x v : Walk F (PageBlob S gs)) (a b c : Timeline) (first : Went w x a b) (goes : Goes w x a b) (more : Went x v b c) where
    key : (s : ℕ) → key_of x.journal.sections s ≡ key_of w.journal.sections s
    key s = ap (λ (p : List ℕ). section_key p s) first.same.bounds.place.partition

    between : (s : ℕ) (u : PageBlob S gs) → w.journal.sections.held s ≡ Some u → (y : PageBlob S gs) × (x.journal.sections.held s ≡ Some y)
    between s u held = some_of (x.journal.sections.held s) ((goes.held s).1 (some_there (w.journal.sections.held s) u held))

    floors_then : KeepsFloors w v
    floors_then s u z held also =
        let y = between s u held in
        cut_then (w.journal.floor_of s) u y.0 z (first.floors s u y.0 held y.1) (subst (λ (n : ℕ). IsSameOrCut n y.0 z) (first.same.floors s) (more.floors s y.0 z y.1 also))

    bytes_then : KeepsBytes told w v (disk a) (disk c)
    bytes_then s u z held also free =
        let y = between s u held in
        let one = first.bytes s u y.0 held y.1 free in
        let two = more.bytes s y.0 z y.1 also (first.same.unrecovered s ∙ free) in
        record {
          size = two.size ∙ one.size;
          settled = two.settled ∙ one.settled;
          bytes = λ t. subst (λ (k : Key). bytes_of (shown z) (disk c k).content ≡ bytes_of (shown y.0) (disk b k).content) (key s) (two.bytes t) ∙ one.bytes t;
        }

    more_items : told → v.ended ≡ false → (s : ℕ) (u y : PageBlob S gs) → w.journal.sections.held s ≡ Some u → x.journal.sections.held s ≡ Some y → IsTrue (w.journal.unrecovered s)
        → SameItems seal u.page_size size (disk b (key_of w.journal.sections s)) (disk c (key_of w.journal.sections s))
    more_items t going s u y held also owed =
        subst (λ (k : Key). SameItems seal u.page_size size (disk b k) (disk c k)) (key s)
        (subst (λ (P : ℕ). SameItems seal P size (disk b (key_of x.journal.sections s)) (disk c (key_of x.journal.sections s))) (first.floors s u y held also).page_size
        (more.items t going s y also (subst IsTrue (sym (first.same.unrecovered s)) owed)))

    items_on : told → v.ended ≡ false → KeepsItems seal size w (disk a) (disk c)
    items_on t going s u held owed =
        let y = between s u held in
        items_then seal u.page_size size (disk a (key_of w.journal.sections s)) (disk b (key_of w.journal.sections s)) (disk c (key_of w.journal.sections s))
        (first.items t (more.begun going) s u held owed) (more_items t going s u y.0 held y.1 owed)

    pub went_then : Went w v a c
    went_then = record {
      same = same_then w x v first.same more.same;
      begun = λ going. first.begun (more.begun going);
      onward = λ s near. first.onward s (more.onward s near);
      stays = λ s none. (let later = more.stays s none in (sym (goes.known s) ∙ later.0, (λ h. (goes.held s).0 (later.1.0 h), λ h. later.1.1 ((goes.held s).1 h))));
      floors = floors_then;
      bytes = bytes_then;
      items = items_on;
      unsettled = λ s u z held also idle. (let y = between s u held in more.unsettled s y.0 z y.1 also (first.unsettled s u y.0 held y.1 idle));
      moments = λ t. always_then a b c (Each (Replaying seal size w (disk a))) (first.moments t)
          (always_weaker b c (Each (Replaying seal size x (disk b))) (Each (Replaying seal size w (disk a))) (λ y each q. goes.later t q (y q) (each q)) (more.moments t));
    }

    pub goes_then : Goes x v b c → Goes w v a c
    goes_then on = record {
      ended = on.ended ∙ goes.ended;
      failed = on.failed ∙ goes.failed;
      known = λ s. on.known s ∙ goes.known s;
      held = λ s. (λ h. (goes.held s).0 ((on.held s).0 h), λ h. (on.held s).1 ((goes.held s).1 h));
      later = λ t q y is. goes.later t q y (on.later t q y is);
    }

  -- a call that leaves the disk as it is
  module _ (w v : Walk F (PageBlob S gs)) (a b c : Timeline) (still : told → Unchanged b c) where
    same_disk : told → disk c ≡ disk b
    same_disk t = always_now b c (λ d. d ≡ disk b) (still t)

    pub went_still : Went w v a b → Went w v a c
    went_still went = record {
      same = went.same;
      begun = went.begun;
      onward = went.onward;
      stays = went.stays;
      floors = went.floors;
      bytes = λ s u x held also free. (let one = went.bytes s u x held also free in record {
        size = one.size;
        settled = one.settled;
        bytes = λ t. subst (λ (d : Disk). bytes_of (shown x) (d (key_of w.journal.sections s)).content ≡ bytes_of (shown u) (disk a (key_of w.journal.sections s)).content) (sym (same_disk t)) (one.bytes t);
      });
      items = λ t going. subst (λ (d : Disk). KeepsItems seal size w (disk a) d) (sym (same_disk t)) (went.items t going);
      unsettled = went.unsettled;
      moments = λ t. always_then a b c (Each (Replaying seal size w (disk a))) (went.moments t)
          (always_weaker b c (λ d. d ≡ disk b) (Each (Replaying seal size w (disk a))) (λ d same. subst (Each (Replaying seal size w (disk a))) (sym same) (always_now a b (Each (Replaying seal size w (disk a))) (went.moments t))) (still t));
    }

    pub goes_still : Goes w v a b → Goes w v a c
    goes_still goes = record {
      ended = goes.ended;
      failed = goes.failed;
      known = goes.known;
      held = goes.held;
      later = λ t. subst (λ (d : Disk). LeavesNoMore seal size w v (disk a) d) (sym (same_disk t)) (goes.later t);
    }

  -- the walk, where other blobs are opened or read, and the disk is the same
  pub walk_kept : (gives : F → Setting) (w : Walk F (PageBlob S gs)) (old new : OpenedList) (d e : Disk) → ((s : ℕ) → s < 2 ^ 64 → new (key_of w.journal.sections s) ≡ old (key_of w.journal.sections s)) → (told → e ≡ d)
      → IsWalk g gives seal size told w old d → IsWalk g gives seal size told w new e
  walk_kept gives w old new d e opens same is = record {
    over = record {
      opened_list = record {
        key = is.over.opened_list.key;
        setting = is.over.opened_list.setting;
        is_open = λ s u held. subst (λ (o : Option Opened). IsSomeAnd o (λ p. p.len ≡ g.extent u)) (sym (opens s (is.over.opened_list.number s (inl (some_there (w.journal.sections.held s) u held))))) (is.over.opened_list.is_open s u held);
        to_ceiling = is.over.opened_list.to_ceiling;
        apart = is.over.opened_list.apart;
        from_floor = is.over.opened_list.from_floor;
        number = is.over.opened_list.number;
      };
      disk = λ t. subst (StandsOver g w.journal.sections) (sym (same t)) (is.over.disk t);
    };
    walk = is.walk;
    disk = λ t. subst (WalksOver seal size w) (sym (same t)) (is.disk t);
  }
