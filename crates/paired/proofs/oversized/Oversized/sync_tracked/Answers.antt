use Rattle.std.proofs.Common.{◌≡◌, ◌⊎◌, inl, inr, ℕ, length, take, refl, sym, ◌∙◌, ap, subst, arith}
use Rattle.std.specs.Prelude.{◌≤◌}
use Rattle.std.specs.List.{Contains}
use Rattle.std.proofs.Math.Seq.{take-length}
use Rattle.blob_device.specs.Disk.{Key}
use Rattle.blob_device.specs.Timeline.{disk, Always}
use Rattle.blob_device.specs.lemmas.Moments.{always_now, always_then, always_weaker}
use Rattle.section_manager.specs.Sections.{IsHeld}
use Rattle.meta_store.specs.Blobs.{blob_of, other_side}
use Rattle.paired.specs.Crashes.{IsBlobOf, IsCopy, IsIndexOf, IsOwn, IsValuesOf, Keeping, LeavesAlone}
use Rattle.paired.specs.Kept.{Layout}
use Rattle.paired.specs.Pair.{IsSafeOn, IsMoving, list_of, synced_length}
use Rattle.paired.specs.PairShown.{shown}
use Rattle.paired.proofs.pair.Marked.{moving_after, moving_before}
use Rattle.paired.proofs.pair.FaultLemmas.{before_them_as, before_markers, rests_still}
use Rattle.paired.proofs.pair.Failing.{pruned_ok, not_pruned, lost_since, markers_failed}
use Rattle.paired.proofs.pair.Settling.{copy_no_blob, own_blob, in_order, in_order_then, keeping_wider}
use Rattle.paired.proofs.pair.Moments.{keeping_then}
use Rattle.paired.proofs.pair.Pruned.{pruned_as}
use Rattle.paired.specs.lemmas.pair.Synced.{layout_as}
use Rattle.paired.proofs.pair.Syncing.{sync_of}
use Rattle.paired.proofs.pair.Passing.{no_value, settled_cause, settled_full, settled_lost}
use Rattle.paired.proofs.oversized.Oversized.sync_tracked.Goals as goal
use Rattle.blob_device.proofs.general.Lists.{contains_or_not}
use Rattle.blob_device.proofs.general.Results.{err_of, map_ok}

pub returns-in_err-this : goal.returns-in_err-this
returns-in_err-this g c =
    let is = err_of c.from_residual.result c.in_err-this.field-0.0 c.from_residual.ensures.1 in
    let p = shown g.I.Record.place c.args.self in
    let named = Contains c.args.sections.now in
    let a = g.D.Device.time c.args.dev.now in
    let b = g.D.Device.time c.settle.new.dev in
    let newer = blob_of p.layout.metadata (other_side p.store.older) in
    let r = c.from_residual.result in
    let e = c.in_err-this.field-0.0 in
    record {
      over = no_value _ _ c.from_residual.ensures.0;
      sound = λ t sound. no_value _ _ c.from_residual.ensures.0;
      lists = λ t. no_value _ _ c.from_residual.ensures.0;
      synced = no_value _ _ c.from_residual.ensures.0;
      codec_config = no_value _ _ c.from_residual.ensures.0;
      moments = λ t.
          let copies : Always a b (λ d. (k : Key) → IsCopy p.layout k → d k ≡ disk a k) = always_weaker a b (λ d. (k : Key) → (IsBlobOf p.layout named k → ⊥) → d k ≡ disk a k) (λ d. (k : Key) → IsCopy p.layout k → d k ≡ disk a k)
          (λ d only k is. only k (copy_no_blob p.layout named c.requires.over.apart k is)) (c.settle.ensures.alone t) in
          let first : Always a b (λ d. (k : Key) → (IsOwn p.layout (λ s. named s × IsHeld p.index.sections s) k → ⊥) → d k ≡ disk a k) = always_weaker a b (λ d. (k : Key) → (IsBlobOf p.layout (λ s. named s × IsHeld p.index.sections s) k → ⊥) → d k ≡ disk a k)
          (λ d. (k : Key) → (IsOwn p.layout (λ s. named s × IsHeld p.index.sections s) k → ⊥) → d k ≡ disk a k) (λ d only k not. only k (λ is. not (own_blob p.layout (λ s. named s × IsHeld p.index.sections s) k is))) (c.settle.ensures.untouched t) in
          let newer_first : Always a b (λ d. d newer ≡ disk a newer) = always_weaker a b (λ d. (k : Key) → IsCopy p.layout k → d k ≡ disk a k) (λ d. d newer ≡ disk a newer) (λ d same. same newer (other_side p.store.older, refl)) copies in
          let settles : IsSafeOn p (disk a) → Keeping p.layout (list_of p (disk a)) (synced_length p) (λ _. ⊥) (IsOwn p.layout named) a b = λ sound. keeping_wider p.layout (list_of p (disk a)) (list_of p (disk a)) (synced_length p) (synced_length p) (λ _. ⊥) (IsBlobOf p.layout named) (IsOwn p.layout named) a b
          (λ s. take-length (list_of p (disk a) s)) (λ s. omega arith) (own_blob p.layout named) (c.settle.ensures.moments t sound) in
          record {
            moments = settles;
            alone = λ none. copies;
            untouched = first;
            newer_stays = newer_first;
            order = c.settle.ensures.order t;
            markers_last = always_weaker a b (λ d. (k : Key) → IsCopy p.layout k → d k ≡ disk a k)
                (λ d. ((k : Key) → IsCopy p.layout k → d k ≡ disk a k) ⊎ ((k : Key) → IsBlobOf p.layout named k → d k ≡ disk b k)) (λ d same. inl same) copies;
          };
      guard = pruned_as r e _ _ (err_of r e c.from_residual.ensures.1) c.in_err-this.ensures.guard;
      refuses = c.settle.ensures.refuses;
      idle = λ none still. c.settle.ensures.idle none;
      entries = λ k not. c.settle.ensures.entries k (λ is. not (own_blob p.layout named k is));
      full = λ full. absurd (settled_full c.from_residual.result c.in_err-this.field-0.0 _ _ _ is c.in_err-this.ensures.cause full);
      no_version = λ long some. no_value _ _ c.from_residual.ensures.0;
      lost = λ lost. absurd (settled_lost c.from_residual.result c.in_err-this.field-0.0 _ _ _ is c.in_err-this.ensures.cause lost);
      fault = λ t.
          before_markers p named r _ _ a b
          (always_weaker a b (λ d. (k : Key) → (IsBlobOf p.layout named k → ⊥) → d k ≡ disk a k) (λ d. (k : Key) → IsCopy p.layout k → d k ≡ disk a k)
          (λ d only k is. only k (copy_no_blob p.layout named c.requires.over.apart k is)) (c.settle.ensures.alone t))
          (before_them_as r e _ _ _ _ _ (err_of r e c.from_residual.ensures.1) c.in_err-this.ensures.cause);
      faults = c.settle.ensures.faults;
      cause = settled_cause c.from_residual.result c.in_err-this.field-0.0 _ _ _ is c.in_err-this.ensures.cause;
    }

pub returns : goal.returns
returns g c =
    let p = shown g.I.Record.place c.args.self in
    let named = Contains c.args.sections.now in
    let active = Contains c.args.active.now in
    let decides = contains_or_not c.args.sections.now in
    let a = g.D.Device.time c.args.dev.now in
    let b = g.D.Device.time c.settle.new.dev in
    let q = shown g.I.Record.place c.in_ok-this.this in
    let says = c.in_ok-this.ensures in
    let e = g.D.Device.time c.move_markers.new.dev in
    let r = c.move_markers.result in
    let moves = c.move_markers.ensures in
    let layouts : q.layout ≡ p.layout = layout_as p.layout q.layout.index q.layout.values q.layout.metadata q.layout.page_size says.layout.index says.layout.values says.layout.metadata says.layout.page_size in
    let moving : ((s : ℕ) × IsMoving q (λ _. ⊥) active s) → ((s : ℕ) × IsMoving p named active s) = (λ w. (w.0, moving_after p q named active decides says.store says.named says.others w.0 w.1)) in
    let newer = blob_of p.layout.metadata (other_side p.store.older) in
    let later = blob_of q.layout.metadata (other_side q.store.older) in
    let same_newer : later ≡ newer = ap (λ l. blob_of l.metadata (other_side q.store.older)) layouts ∙ ap (λ u. blob_of p.layout.metadata (other_side u.older)) says.store in
    let more : (s : ℕ) → synced_length p s ≤ synced_length q s = (λ s. elim (decides s) [
      | inl is ↦ omega (arith, says.named s is, c.requires.over.settled.lengths s)
      | inr not ↦ omega (arith, says.others s not)
    ]) in
    let moved : ((s : ℕ) × IsMoving p named active s) → ((s : ℕ) × IsMoving q (λ _. ⊥) active s) = (λ w. (w.0, moving_before p q named active decides says.store says.named says.others w.0 w.1)) in
    record {
      over = c.move_markers.ensures.over;
      sound = λ t sound. c.move_markers.ensures.sound t (c.in_ok-this.ensures.sound t sound);
      lists = λ t. map_ok r _ _ (λ v same s. same s ∙ says.lists t s) (moves.lists t);
      synced =
          sync_of g.I.Record.place c.args.self c.in_ok-this.this named active (record {
            lengths = says.lengths;
            sizes = says.sizes;
            held = says.held;
            values_held = says.values_held;
            named = says.named;
            settled = says.settled;
            same = says.same;
            others = says.others;
            store = says.store;
            bounds = says.bounds;
            layout = says.layout;
          }) c.move_markers.result moves.index moves.values moves.synced moves.markers moves.active moves.marked (λ none. (moves.still (λ w. none (moving w))).1) moves.marker_floor moves.layout;
      codec_config = map_ok r _ _ (λ v same. same ∙ says.codec_config) moves.codec_config;
      moments = λ t.
          let copies : Always a b (λ d. (k : Key) → IsCopy p.layout k → d k ≡ disk a k) = always_weaker a b (λ d. (k : Key) → (IsBlobOf p.layout named k → ⊥) → d k ≡ disk a k) (λ d. (k : Key) → IsCopy p.layout k → d k ≡ disk a k)
          (λ d only k is. only k (copy_no_blob p.layout named c.requires.over.apart k is)) (c.settle.ensures.alone t) in
          let first : Always a b (λ d. (k : Key) → (IsOwn p.layout (λ s. named s × IsHeld p.index.sections s) k → ⊥) → d k ≡ disk a k) = always_weaker a b (λ d. (k : Key) → (IsBlobOf p.layout (λ s. named s × IsHeld p.index.sections s) k → ⊥) → d k ≡ disk a k)
          (λ d. (k : Key) → (IsOwn p.layout (λ s. named s × IsHeld p.index.sections s) k → ⊥) → d k ≡ disk a k) (λ d only k not. only k (λ is. not (own_blob p.layout (λ s. named s × IsHeld p.index.sections s) k is))) (c.settle.ensures.untouched t) in
          let newer_first : Always a b (λ d. d newer ≡ disk a newer) = always_weaker a b (λ d. (k : Key) → IsCopy p.layout k → d k ≡ disk a k) (λ d. d newer ≡ disk a newer) (λ d same. same newer (other_side p.store.older, refl)) copies in
          let settles : IsSafeOn p (disk a) → Keeping p.layout (list_of p (disk a)) (synced_length p) (λ _. ⊥) (IsOwn p.layout named) a b = λ sound. keeping_wider p.layout (list_of p (disk a)) (list_of p (disk a)) (synced_length p) (synced_length p) (λ _. ⊥) (IsBlobOf p.layout named) (IsOwn p.layout named) a b
          (λ s. take-length (list_of p (disk a) s)) (λ s. omega arith) (own_blob p.layout named) (c.settle.ensures.moments t sound) in
          let blobs : Always b e (λ d. (k : Key) → IsBlobOf p.layout named k → d k ≡ disk b k) = always_weaker b e (λ d. (k : Key) → (IsCopy q.layout k → ⊥) → d k ≡ disk b k) (λ d. (k : Key) → IsBlobOf p.layout named k → d k ≡ disk b k)
          (λ d only k is. only k (λ copy. copy_no_blob p.layout named c.requires.over.apart k (subst (λ l. IsCopy l k) layouts copy) is)) (moves.alone t) in
          record {
            moments = λ sound. keeping_then p.layout (list_of p (disk a)) (synced_length p) (λ _. ⊥) (IsOwn p.layout named) a b e (settles sound)
                (keeping_wider p.layout (list_of q (disk b)) (list_of p (disk a)) (synced_length q) (synced_length p) (λ _. ⊥) (IsCopy p.layout) (IsOwn p.layout named) b e
                (λ s. ap (take (length (list_of q (disk b) s))) (sym (says.lists t s)) ∙ take-length (list_of q (disk b) s)) more (λ k is. inr (inr is))
                (subst (λ (l : Layout). Keeping l (list_of q (disk b)) (synced_length q) (λ _. ⊥) (IsCopy l) b e) layouts (moves.moments t (record { sound = says.sound t sound.sound; floor = ap (λ u. u.floor) says.store ∙ sound.floor }))));
            alone = λ none. subst (λ dev. Always a (g.D.Device.time dev) (λ d. (k : Key) → IsCopy p.layout k → d k ≡ disk a k)) (sym (moves.still (λ w. none (moving w))).0) copies;
            untouched = always_then a b e (λ d. (k : Key) → (IsOwn p.layout (λ s. named s × IsHeld p.index.sections s) k → ⊥) → d k ≡ disk a k) first (always_weaker b e (λ d. (k : Key) → (IsCopy q.layout k → ⊥) → d k ≡ disk b k) (λ d. (k : Key) → (IsOwn p.layout (λ s. named s × IsHeld p.index.sections s) k → ⊥) → d k ≡ disk a k)
                (λ d only k not. only k (λ copy. not (inr (inr (subst (λ l. IsCopy l k) layouts copy)))) ∙ always_now a b (λ d. (k : Key) → (IsOwn p.layout (λ s. named s × IsHeld p.index.sections s) k → ⊥) → d k ≡ disk a k) first k not) (moves.alone t));
            newer_stays = always_then a b e (λ d. d newer ≡ disk a newer) newer_first (always_weaker b e (λ d. d later ≡ disk b later) (λ d. d newer ≡ disk a newer)
                (λ d same. subst (λ k. d k ≡ disk b k) same_newer same ∙ always_now a b (λ d. d newer ≡ disk a newer) newer_first) (moves.newer_stays t));
            order = in_order_then (IsIndexOf p.layout named) (IsValuesOf p.layout named) a b e (c.settle.ensures.order t)
                (always_weaker b e (λ d. (k : Key) → IsBlobOf p.layout named k → d k ≡ disk b k) (λ d. (k : Key) → IsIndexOf p.layout named k → d k ≡ disk b k) (λ d same k is. same k (inl is)) blobs);
            markers_last = in_order (IsBlobOf p.layout named) (IsCopy p.layout) a b e copies blobs;
          };
      guard = (λ is. absurd (not_pruned r p.index.sections.floor _ _ moves.cause is), λ w. absurd (pruned_ok _ _ (says.guard.1 w)));
      refuses = λ w. absurd (pruned_ok _ _ (c.in_ok-this.ensures.guard.1 w));
      idle = λ none still. (moves.still (λ w. still (moving w))).0 ∙ c.settle.ensures.idle none;
      entries = λ k not. moves.entries k (λ is. not (inr (inr (subst (λ l. IsCopy l k) layouts is)))) ∙ c.settle.ensures.entries k (λ is. not (own_blob p.layout named k is));
      full = λ is. (omega (arith, (moves.full is).0, ap (λ u. u.version) says.store), moving (moves.full is).1);
      no_version = λ large w.
          let moving : ((s : ℕ) × IsMoving q (λ _. ⊥) active s) → ((s : ℕ) × IsMoving p named active s) = (λ w. (w.0, moving_after p q named active decides says.store says.named says.others w.0 w.1)) in
          let moved : ((s : ℕ) × IsMoving p named active s) → ((s : ℕ) × IsMoving q (λ _. ⊥) active s) = (λ w. (w.0, moving_before p q named active decides says.store says.named says.others w.0 w.1)) in
          moves.no_version (omega (arith, large, ap (λ u. u.version) says.store)) (moved w);
      lost = λ is. moving (moves.lost (lost_since r _ _ _ moves.cause is));
      fault = λ t.
          let blobs : Always b e (λ d. (k : Key) → IsBlobOf p.layout named k → d k ≡ disk b k) = always_weaker b e (λ d. (k : Key) → (IsCopy q.layout k → ⊥) → d k ≡ disk b k) (λ d. (k : Key) → IsBlobOf p.layout named k → d k ≡ disk b k)
          (λ d only k is. only k (λ copy. copy_no_blob p.layout named c.requires.over.apart k (subst (λ l. IsCopy l k) layouts copy) is)) (moves.alone t) in
          record {
            sections = λ is. absurd (moves.fault is);
            stands_settled = λ stops. rests_still p named (disk b) (disk e) (λ s held. c.requires.over.index.over.opened_list.number s (inl held)) (λ s held. c.requires.over.values.over.opened_list.number s (inl held))
                (always_now b e (λ d. (k : Key) → IsBlobOf p.layout named k → d k ≡ disk b k) blobs) (says.rests t);
            leaves = λ stops sound synced after.
                let more : (s : ℕ) → synced s ≤ synced_length q s = (λ s. elim (decides s) [
                  | inl is ↦ omega (arith, says.named s is, after.named s is)
                  | inr not ↦ omega (arith, says.others s not, after.others s not)
                ]) in
                (always_now b e (LeavesAlone p.layout (list_of p (disk a)) synced (λ _. ⊥) (IsOwn p.layout named) (disk b))
                (keeping_wider p.layout (list_of q (disk b)) (list_of p (disk a)) (synced_length q) synced (λ _. ⊥) (IsCopy p.layout) (IsOwn p.layout named) b e
                (λ s. ap (take (length (list_of q (disk b) s))) (sym (says.lists t s)) ∙ take-length (list_of q (disk b) s)) more (λ k is. inr (inr is))
                (subst (λ (l : Layout). Keeping l (list_of q (disk b)) (synced_length q) (λ _. ⊥) (IsCopy l) b e) layouts (moves.moments t (record { sound = says.sound t sound.sound; floor = ap (λ u. u.floor) says.store ∙ sound.floor }))))).leaves;
          };
      faults = omega (arith, c.settle.ensures.faults, c.move_markers.ensures.faults);
      cause = markers_failed r p.index.sections.floor _ _ _ c.settle.ensures.faults moves.cause;
    }
