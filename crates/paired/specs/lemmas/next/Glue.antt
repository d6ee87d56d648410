-- The run that a replay of a pair shows, before and after a call of `next`, in one spelling.
use Rattle.std.specs.Prelude.{◌≡◌, ℕ, ◌≤◌, List, Bool, true, string_bytes}
use Rattle.std.specs.BTreeMap as tree
use Rattle.std.specs.Ordering.{nat_cmp}
use Rattle.std.proofs.Common.{refl, sym, ◌∙◌, ap, subst}
use Rattle.blob_device.specs.Opened.{OpenedList}
use Rattle.blob_device.specs.Timeline.{Timeline}
use Rattle.sealed_pages.specs.declared.page_blob.PageBlob.{PageBlob}
use Rattle.section_manager.specs.declared.buffer.SectionBuffer as buffer
use Rattle.section_manager.specs.declared.sealed.AppendFactory.{AppendFactory}
use Rattle.section_manager.specs.declared.unsealed.WriteFactory.{WriteFactory}
use Rattle.section_manager.specs.Setting.{Setting}
use Rattle.section_manager.specs.managing.Managed as manager
use Rattle.segments.specs.FixedReplay.{Walk, SameWalk}
use Rattle.segments.specs.FixedWalking.{walk_of}
use Rattle.meta_store.specs.Store as store
use Rattle.paired.specs.declared.oversized.replaying.Replay.{Replay}
use Rattle.paired.specs.declared.glob.recovery.Recovery.{Recovery}
use Rattle.paired.specs.ReplayShown.{limits_of, run_of}
use Rattle.paired.specs.Replaying.{pair_of}
use Rattle.paired.specs.sighted.Shown.{marker_format}
use Rattle.paired.specs.lemmas.next.Going.{Running}
use Rattle.paired.specs.lemmas.next.Running.{moved}
use Rattle.paired.specs.lemmas.pair.Synced.{Here, page_setting}

module _ {I V S C : Type 0} {fixed codec seal : _} (place : List ℕ → ℕ × ℕ) where
  pub here_run : (r : Replay I V S C fixed codec seal) → 1 ≤ fixed.SIZE → Here page_setting (pair_of (run_of place r))
  here_run r pos = record { index = refl; values = refl; store = refl; page_size = refl; some = pos; marked = refl }

  -- what `next` does not change
  pub record SameParts (r q : Replay I V S C fixed codec seal) : Type 0 where
    pub values : q.values ≡ r.values
    pub tracking : q.tracking ≡ r.tracking
    pub tracked : q.is_tracked ≡ r.is_tracked

  pub parts_start : (r : Replay I V S C fixed codec seal) → SameParts r r
  parts_start r = record { values = refl; tracking = refl; tracked = refl }

  -- what the replay shows then
  pub run_moved : (r q : Replay I V S C fixed codec seal) → SameParts r q → SameWalk (walk_of r.index) (walk_of q.index)
      → moved (run_of place r) (walk_of q.index) (limits_of q.ends) q.ended_section q.has_failed ≡ run_of place q
  run_moved r q parts same = λ i. record {
    layout = record {
      index = sym same.bounds.place.partition i;
      values = string_bytes (sym parts.values i).manager.partition;
      marked = true;
      metadata = string_bytes (sym parts.tracking i).metadata.partition;
      page_size = sym (ap (λ (f : AppendFactory S). f.pages.page_size) same.bounds.place.factory) i;
      record_size = fixed.SIZE;
      seal = seal.seal_of;
      place = place;
      markers = marker_format seal;
    };
    walk = walk_of q.index;
    values = manager.shown (sym parts.values i).manager;
    store = store.shown (sym parts.tracking i).metadata;
    trailing = tree.get nat_cmp (sym parts.tracking i).trailing;
    tracked = sym parts.tracked i;
    ends = limits_of q.ends;
    ended_section = q.ended_section;
    failed = q.has_failed;
  }

  -- so it does where the walk and the failure are the same in other words
  pub run_then : (r q : Replay I V S C fixed codec seal) → SameParts r q → (w : Walk (AppendFactory S) (PageBlob S seal)) → w ≡ walk_of q.index → (failed : Bool) → failed ≡ q.has_failed → SameWalk (walk_of r.index) w
      → moved (run_of place r) w (limits_of q.ends) q.ended_section failed ≡ run_of place q
  run_then r q parts w is failed also same =
      ap (λ (x : Walk (AppendFactory S) (PageBlob S seal)). moved (run_of place r) x (limits_of q.ends) q.ended_section failed) is
      ∙ ap (λ (b : Bool). moved (run_of place r) (walk_of q.index) (limits_of q.ends) q.ended_section b) also
      ∙ run_moved r q parts (subst (SameWalk (walk_of r.index)) is same)

  pub values_unfloored : (r q : Replay I V S C fixed codec seal) → SameParts r q → (r.is_tracked ≡ true → (manager.shown r.values.manager).floor ≡ 0) → q.is_tracked ≡ true → (manager.shown q.values.manager).floor ≡ 0
  values_unfloored r q parts unfloored tracked = subst (λ (x : Recovery V S C). (manager.shown x.manager).floor ≡ 0) (sym parts.values) (unfloored (sym parts.tracked ∙ tracked))

  -- the loop's invariant, in other words
  pub loop_then : (g : buffer.Ghosts (PageBlob S seal)) (gives : AppendFactory S → Setting) (takes : WriteFactory → Setting) (told : Type 0) (r q : Replay I V S C fixed codec seal) (before : OpenedList) (a : Timeline) (few : ℕ)
      (w : Walk (AppendFactory S) (PageBlob S seal)) → w ≡ walk_of q.index → (failed : Bool) → failed ≡ q.has_failed → (opened : OpenedList) (b : Timeline) (count : ℕ)
      → Running g gives takes told (run_of place r) before a few w (limits_of q.ends) q.ended_section failed opened b count
      → Running g gives takes told (run_of place r) before a few (walk_of q.index) (limits_of q.ends) q.ended_section q.has_failed opened b count
  loop_then g gives takes told r q before a few w is failed also opened b count running =
      subst (λ (x : Walk (AppendFactory S) (PageBlob S seal)). Running g gives takes told (run_of place r) before a few x (limits_of q.ends) q.ended_section q.has_failed opened b count) is
      (subst (λ (f : Bool). Running g gives takes told (run_of place r) before a few w (limits_of q.ends) q.ended_section f opened b count) also running)
