use Rattle.std.proofs.Common.{◌≡◌, inl, inr, refl, sym, ◌∙◌, ap, subst, arith}
use Rattle.std.specs.List.{Contains}
use Rattle.std.proofs.lemmas.Bool.{cases_Bool}
use Rattle.blob_device.specs.Disk.{Key}
use Rattle.blob_device.specs.Timeline.{disk}
use Rattle.section_manager.specs.Raised.{raised_metadata}
use Rattle.blob_device.specs.lemmas.Moments.{always_now, always_start, always_weaker}
use Rattle.meta_store.specs.lemmas.Sides.{sides_apart}
use Rattle.meta_store.specs.lemmas.Syncing.{stands_alone}
use Rattle.paired.specs.lemmas.pair.Synced.{here_of}
use Rattle.segments.specs.lemmas.adding.Write.{are_pages}
use Rattle.meta_store.specs.Blobs.{blob_of, other_side, OnlyOne}
use Rattle.meta_store.specs.Calls.{IsOpened}
use Rattle.meta_store.specs.Crashes as metadata
use Rattle.meta_store.specs.declared.error.Side.TheVariants.{Left, Right}
use Rattle.meta_store.specs.Store.{Stands, MayBeSynced, contents_of}
use Rattle.paired.specs.Crashes.{IsCopy}
use Rattle.paired.specs.PairShown.{shown}
use Rattle.paired.specs.sighted.Shown as tracked
use Rattle.paired.proofs.pair.Marked.{Moved, moved_on, moved_marked, marked_synced, moving_differs, none_trails, some_or_none, synced_unstaged, synced_same, synced_place, marked_again, marked_as, marked_sound_as, marked_lists, markers_keep, moves_markers}
use Rattle.paired.proofs.pair.Settling.{parts_of}
use Rattle.paired.proofs.pair.FaultLemmas.{markers_apart}
use Rattle.paired.proofs.pair.Failing.{full_markers, false_true, no_error, not_both}
use Rattle.paired.proofs.oversized.Oversized.move_markers.Goals as goal
use Rattle.blob_device.proofs.general.Lists.{contains_or_not}
use Rattle.blob_device.proofs.general.Results.{err_of}

pub stage-requires : goal.stage-requires
stage-requires g c s n is same =
    (c.requires.over.markers.trails s n is).1 same

pub sync-requires-clause-storable : goal.sync-requires-clause-storable
sync-requires-clause-storable g c =
    c.in_ok-stage.ensures.storable c.requires.over.storable

pub sync-requires-clause-opened : goal.sync-requires-clause-opened
sync-requires-clause-opened g c =
    let p = shown g.I.Record.place c.args.self in
    let here = here_of g.I.Record.place c.args.self g.met.I.CodecFixed.fixed.at_least in
    let pages = are_pages g.row.S g.S.Seal g.S.Seal-dict in
    let active = Contains c.args.active.now in
    let decides = contains_or_not c.args.active.now in
    let told = g.D.Device.Tells in
    let a = g.D.Device.time c.args.dev.now in
    let x = tracked.shown c.stage.new.self in
    let moved : Moved p active x.store.entries x.trailing = record { trails = c.in_ok-stage.ensures.trails; synced = c.in_ok-stage.ensures.synced; moved = c.in_ok-stage.ensures.moved; active = c.in_ok-stage.ensures.active; marked = c.in_ok-stage.ensures.marked } in
    let placed : x.store.partition ≡ p.layout.metadata = ap (λ u. u.partition) c.in_ok-stage.ensures.staged in
    subst (λ k. IsOpened k (g.D.Device.opened c.args.dev.now)) (sym placed) c.requires.over.metadata_opened

pub returns-in_err-stage-clause-moments : goal.returns-in_err-stage-clause-moments
returns-in_err-stage-clause-moments g c t sound =
    let p = shown g.I.Record.place c.args.self in
    let here = here_of g.I.Record.place c.args.self g.met.I.CodecFixed.fixed.at_least in
    let pages = are_pages g.row.S g.S.Seal g.S.Seal-dict in
    let active = Contains c.args.active.now in
    let decides = contains_or_not c.args.active.now in
    let told = g.D.Device.Tells in
    let a = g.D.Device.time c.args.dev.now in
    markers_keep _ _ told p _ a a here c.requires.over t (parts_of _ _ told p pages _ (disk a) here c.requires.over t sound.sound) sound.floor (contents_of p.store) c.requires.over.markers.marked refl
    (stands_alone p.layout.markers p.store (contents_of p.store) (contents_of p.store) a (c.requires.over.disk t).markers)

pub returns-in_err-stage-clause-alone : goal.returns-in_err-stage-clause-alone
returns-in_err-stage-clause-alone g c t =
    let p = shown g.I.Record.place c.args.self in
    let here = here_of g.I.Record.place c.args.self g.met.I.CodecFixed.fixed.at_least in
    let pages = are_pages g.row.S g.S.Seal g.S.Seal-dict in
    let active = Contains c.args.active.now in
    let decides = contains_or_not c.args.active.now in
    let told = g.D.Device.Tells in
    let a = g.D.Device.time c.args.dev.now in
    always_start a (λ d. (q : Key) → (IsCopy p.layout q → ⊥) → d q ≡ disk a q) (λ q not. refl)

pub returns-in_err-this-clause-moments : goal.returns-in_err-this-clause-moments
returns-in_err-this-clause-moments g c t sound =
    let p = shown g.I.Record.place c.args.self in
    let here = here_of g.I.Record.place c.args.self g.met.I.CodecFixed.fixed.at_least in
    let pages = are_pages g.row.S g.S.Seal g.S.Seal-dict in
    let active = Contains c.args.active.now in
    let decides = contains_or_not c.args.active.now in
    let told = g.D.Device.Tells in
    let a = g.D.Device.time c.args.dev.now in
    let x = tracked.shown c.stage.new.self in
    let moved : Moved p active x.store.entries x.trailing = record { trails = c.in_ok-stage.ensures.trails; synced = c.in_ok-stage.ensures.synced; moved = c.in_ok-stage.ensures.moved; active = c.in_ok-stage.ensures.active; marked = c.in_ok-stage.ensures.marked } in
    let placed : x.store.partition ≡ p.layout.metadata = ap (λ u. u.partition) c.in_ok-stage.ensures.staged in
    let b = g.D.Device.time c.sync.new.dev in
    markers_keep _ _ told p _ a b here c.requires.over t (parts_of _ _ told p pages _ (disk a) here c.requires.over t sound.sound) sound.floor (contents_of x.store) (moved_marked _ _ told p active decides _ (disk a) here c.requires.over x.store.entries x.trailing moved) (ap (λ u. u.floor) c.in_ok-stage.ensures.staged)
    (subst (λ k. metadata.Mapping p.layout.markers k (contents_of p.store) (contents_of x.store) a b) placed (c.sync.ensures.crashes t (contents_of p.store) (c.in_ok-stage.ensures.stands (contents_of p.store) (disk a) (c.requires.over.disk t).markers)))

pub returns-in_err-this-clause-alone : goal.returns-in_err-this-clause-alone
returns-in_err-this-clause-alone g c t =
    let p = shown g.I.Record.place c.args.self in
    let here = here_of g.I.Record.place c.args.self g.met.I.CodecFixed.fixed.at_least in
    let pages = are_pages g.row.S g.S.Seal g.S.Seal-dict in
    let active = Contains c.args.active.now in
    let decides = contains_or_not c.args.active.now in
    let told = g.D.Device.Tells in
    let a = g.D.Device.time c.args.dev.now in
    let x = tracked.shown c.stage.new.self in
    let moved : Moved p active x.store.entries x.trailing = record { trails = c.in_ok-stage.ensures.trails; synced = c.in_ok-stage.ensures.synced; moved = c.in_ok-stage.ensures.moved; active = c.in_ok-stage.ensures.active; marked = c.in_ok-stage.ensures.marked } in
    let placed : x.store.partition ≡ p.layout.metadata = ap (λ u. u.partition) c.in_ok-stage.ensures.staged in
    let b = g.D.Device.time c.sync.new.dev in
    always_weaker a b (OnlyOne x.store.partition x.store.older (disk a)) (λ d. (q : Key) → (IsCopy p.layout q → ⊥) → d q ≡ disk a q)
    (λ d only q not. only q (λ e. not (x.store.older, e ∙ ap (λ k. blob_of k x.store.older) placed))) (c.sync.ensures.alone t)

pub returns-in_err-this-clause-entries : goal.returns-in_err-this-clause-entries
returns-in_err-this-clause-entries g c =
    let p = shown g.I.Record.place c.args.self in
    let here = here_of g.I.Record.place c.args.self g.met.I.CodecFixed.fixed.at_least in
    let pages = are_pages g.row.S g.S.Seal g.S.Seal-dict in
    let active = Contains c.args.active.now in
    let decides = contains_or_not c.args.active.now in
    let told = g.D.Device.Tells in
    let a = g.D.Device.time c.args.dev.now in
    let x = tracked.shown c.stage.new.self in
    let moved : Moved p active x.store.entries x.trailing = record { trails = c.in_ok-stage.ensures.trails; synced = c.in_ok-stage.ensures.synced; moved = c.in_ok-stage.ensures.moved; active = c.in_ok-stage.ensures.active; marked = c.in_ok-stage.ensures.marked } in
    let placed : x.store.partition ≡ p.layout.metadata = ap (λ u. u.partition) c.in_ok-stage.ensures.staged in
    let entries : (q : Key) → (IsCopy p.layout q → ⊥) → g.D.Device.opened c.sync.new.dev q ≡ g.D.Device.opened c.args.dev.now q =
    (λ q not. c.sync.ensures.entries q (λ e. not (Left, e ∙ ap (λ k. blob_of k Left) placed)) (λ e. not (Right, e ∙ ap (λ k. blob_of k Right) placed))) in
    entries

pub returns-clause-moments : goal.returns-clause-moments
returns-clause-moments g c t sound =
    let p = shown g.I.Record.place c.args.self in
    let here = here_of g.I.Record.place c.args.self g.met.I.CodecFixed.fixed.at_least in
    let pages = are_pages g.row.S g.S.Seal g.S.Seal-dict in
    let active = Contains c.args.active.now in
    let decides = contains_or_not c.args.active.now in
    let told = g.D.Device.Tells in
    let a = g.D.Device.time c.args.dev.now in
    let x = tracked.shown c.stage.new.self in
    let moved : Moved p active x.store.entries x.trailing = record { trails = c.in_ok-stage.ensures.trails; synced = c.in_ok-stage.ensures.synced; moved = c.in_ok-stage.ensures.moved; active = c.in_ok-stage.ensures.active; marked = c.in_ok-stage.ensures.marked } in
    let placed : x.store.partition ≡ p.layout.metadata = ap (λ u. u.partition) c.in_ok-stage.ensures.staged in
    let b = g.D.Device.time c.sync.new.dev in
    markers_keep _ _ told p _ a b here c.requires.over t (parts_of _ _ told p pages _ (disk a) here c.requires.over t sound.sound) sound.floor (contents_of x.store) (moved_marked _ _ told p active decides _ (disk a) here c.requires.over x.store.entries x.trailing moved) (ap (λ u. u.floor) c.in_ok-stage.ensures.staged)
    (subst (λ k. metadata.Mapping p.layout.markers k (contents_of p.store) (contents_of x.store) a b) placed (c.sync.ensures.crashes t (contents_of p.store) (c.in_ok-stage.ensures.stands (contents_of p.store) (disk a) (c.requires.over.disk t).markers)))

pub returns-clause-alone : goal.returns-clause-alone
returns-clause-alone g c t =
    let p = shown g.I.Record.place c.args.self in
    let here = here_of g.I.Record.place c.args.self g.met.I.CodecFixed.fixed.at_least in
    let pages = are_pages g.row.S g.S.Seal g.S.Seal-dict in
    let active = Contains c.args.active.now in
    let decides = contains_or_not c.args.active.now in
    let told = g.D.Device.Tells in
    let a = g.D.Device.time c.args.dev.now in
    let x = tracked.shown c.stage.new.self in
    let moved : Moved p active x.store.entries x.trailing = record { trails = c.in_ok-stage.ensures.trails; synced = c.in_ok-stage.ensures.synced; moved = c.in_ok-stage.ensures.moved; active = c.in_ok-stage.ensures.active; marked = c.in_ok-stage.ensures.marked } in
    let placed : x.store.partition ≡ p.layout.metadata = ap (λ u. u.partition) c.in_ok-stage.ensures.staged in
    let b = g.D.Device.time c.sync.new.dev in
    always_weaker a b (OnlyOne x.store.partition x.store.older (disk a)) (λ d. (q : Key) → (IsCopy p.layout q → ⊥) → d q ≡ disk a q)
    (λ d only q not. only q (λ e. not (x.store.older, e ∙ ap (λ k. blob_of k x.store.older) placed))) (c.sync.ensures.alone t)

pub returns-clause-entries : goal.returns-clause-entries
returns-clause-entries g c =
    let p = shown g.I.Record.place c.args.self in
    let here = here_of g.I.Record.place c.args.self g.met.I.CodecFixed.fixed.at_least in
    let pages = are_pages g.row.S g.S.Seal g.S.Seal-dict in
    let active = Contains c.args.active.now in
    let decides = contains_or_not c.args.active.now in
    let told = g.D.Device.Tells in
    let a = g.D.Device.time c.args.dev.now in
    let x = tracked.shown c.stage.new.self in
    let moved : Moved p active x.store.entries x.trailing = record { trails = c.in_ok-stage.ensures.trails; synced = c.in_ok-stage.ensures.synced; moved = c.in_ok-stage.ensures.moved; active = c.in_ok-stage.ensures.active; marked = c.in_ok-stage.ensures.marked } in
    let placed : x.store.partition ≡ p.layout.metadata = ap (λ u. u.partition) c.in_ok-stage.ensures.staged in
    let entries : (q : Key) → (IsCopy p.layout q → ⊥) → g.D.Device.opened c.sync.new.dev q ≡ g.D.Device.opened c.args.dev.now q =
    (λ q not. c.sync.ensures.entries q (λ e. not (Left, e ∙ ap (λ k. blob_of k Left) placed)) (λ e. not (Right, e ∙ ap (λ k. blob_of k Right) placed))) in
    entries

pub returns-in_err-this-clause-still : goal.returns-in_err-this-clause-still
returns-in_err-this-clause-still g c none =
    let p = shown g.I.Record.place c.args.self in
    let here = here_of g.I.Record.place c.args.self g.met.I.CodecFixed.fixed.at_least in
    let pages = are_pages g.row.S g.S.Seal g.S.Seal-dict in
    let active = Contains c.args.active.now in
    let decides = contains_or_not c.args.active.now in
    let told = g.D.Device.Tells in
    let a = g.D.Device.time c.args.dev.now in
    let x = tracked.shown c.stage.new.self in
    let moved : Moved p active x.store.entries x.trailing = record { trails = c.in_ok-stage.ensures.trails; synced = c.in_ok-stage.ensures.synced; moved = c.in_ok-stage.ensures.moved; active = c.in_ok-stage.ensures.active; marked = c.in_ok-stage.ensures.marked } in
    let placed : x.store.partition ≡ p.layout.metadata = ap (λ u. u.partition) c.in_ok-stage.ensures.staged in
    absurd (false_true (c.in_err-this.ensures.idle (ap (λ u. u.staged) (c.in_ok-stage.ensures.still (none_trails _ _ told p active decides _ (disk a) here c.requires.over none)) ∙ c.requires.over.synced)).1)

pub returns-clause-still : goal.returns-clause-still
returns-clause-still g c none =
    let p = shown g.I.Record.place c.args.self in
    let here = here_of g.I.Record.place c.args.self g.met.I.CodecFixed.fixed.at_least in
    let pages = are_pages g.row.S g.S.Seal g.S.Seal-dict in
    let active = Contains c.args.active.now in
    let decides = contains_or_not c.args.active.now in
    let told = g.D.Device.Tells in
    let a = g.D.Device.time c.args.dev.now in
    let x = tracked.shown c.stage.new.self in
    let moved : Moved p active x.store.entries x.trailing = record { trails = c.in_ok-stage.ensures.trails; synced = c.in_ok-stage.ensures.synced; moved = c.in_ok-stage.ensures.moved; active = c.in_ok-stage.ensures.active; marked = c.in_ok-stage.ensures.marked } in
    let placed : x.store.partition ≡ p.layout.metadata = ap (λ u. u.partition) c.in_ok-stage.ensures.staged in
    let same = c.in_ok-stage.ensures.still (none_trails _ _ told p active decides _ (disk a) here c.requires.over none) in
    let fresh = ap (λ u. u.staged) same ∙ c.requires.over.synced in
    ((c.sync.ensures.idle fresh).0, c.in_ok-this.ensures.same ∙ synced_same (tracked.shown c.stage.new.self).store fresh ∙ same)

pub returns-clause-no_version : goal.returns-clause-no_version
returns-clause-no_version g c large w =
    let p = shown g.I.Record.place c.args.self in
    let here = here_of g.I.Record.place c.args.self g.met.I.CodecFixed.fixed.at_least in
    let pages = are_pages g.row.S g.S.Seal g.S.Seal-dict in
    let active = Contains c.args.active.now in
    let decides = contains_or_not c.args.active.now in
    let told = g.D.Device.Tells in
    let a = g.D.Device.time c.args.dev.now in
    let x = tracked.shown c.stage.new.self in
    let moved : Moved p active x.store.entries x.trailing = record { trails = c.in_ok-stage.ensures.trails; synced = c.in_ok-stage.ensures.synced; moved = c.in_ok-stage.ensures.moved; active = c.in_ok-stage.ensures.active; marked = c.in_ok-stage.ensures.marked } in
    let placed : x.store.partition ≡ p.layout.metadata = ap (λ u. u.partition) c.in_ok-stage.ensures.staged in
    elim (cases_Bool x.store.staged) [
      | inl staged ↦ absurd (no_error _ _ (c.in_ok-this.ensures.full.1 (staged, omega (arith, large, ap (λ u. u.version) c.in_ok-stage.ensures.staged))))
      | inr idle ↦ moving_differs _ _ told p active decides _ (disk a) here c.requires.over x.store.entries x.trailing moved w.0 w.1 (ap (λ u. u.entries) (c.in_ok-stage.ensures.fresh idle))
    ]

pub returns-clause-over : goal.returns-clause-over
returns-clause-over g c =
    let p = shown g.I.Record.place c.args.self in
    let here = here_of g.I.Record.place c.args.self g.met.I.CodecFixed.fixed.at_least in
    let pages = are_pages g.row.S g.S.Seal g.S.Seal-dict in
    let active = Contains c.args.active.now in
    let decides = contains_or_not c.args.active.now in
    let told = g.D.Device.Tells in
    let a = g.D.Device.time c.args.dev.now in
    let x = tracked.shown c.stage.new.self in
    let moved : Moved p active x.store.entries x.trailing = record { trails = c.in_ok-stage.ensures.trails; synced = c.in_ok-stage.ensures.synced; moved = c.in_ok-stage.ensures.moved; active = c.in_ok-stage.ensures.active; marked = c.in_ok-stage.ensures.marked } in
    let placed : x.store.partition ≡ p.layout.metadata = ap (λ u. u.partition) c.in_ok-stage.ensures.staged in
    let y = tracked.shown c.in_ok-this.field-0 in
    let says = c.in_ok-this.ensures in
    let b = g.D.Device.time c.sync.new.dev in
    let moved_y = moved_on p active x.store.entries y.store.entries x.trailing y.trailing says.markers says.trailing moved in
    let placed_y : y.store.partition ≡ p.layout.metadata = ap (λ u. u.partition) says.same ∙ synced_place x.store ∙ placed in
    let blobs : told → (q : Key) → (IsCopy p.layout q → ⊥) → disk b q ≡ disk a q = (λ t q not. always_now a b (OnlyOne x.store.partition x.store.older (disk a)) (c.sync.ensures.alone t) q (λ e. not (x.store.older, e ∙ ap (λ k. blob_of k x.store.older) placed))) in
    let entries : (q : Key) → (IsCopy p.layout q → ⊥) → g.D.Device.opened c.sync.new.dev q ≡ g.D.Device.opened c.args.dev.now q =
    (λ q not. c.sync.ensures.entries q (λ e. not (Left, e ∙ ap (λ k. blob_of k Left) placed)) (λ e. not (Right, e ∙ ap (λ k. blob_of k Right) placed))) in
    marked_as _ _ told p active decides _ (disk a) here c.requires.over y.store y.trailing moved_y (g.D.Device.opened c.sync.new.dev) (disk b) blobs y.store.partition placed_y
    (marked_again _ _ told p active decides _ (disk a) here c.requires.over y.store y.trailing moved_y (g.D.Device.opened c.sync.new.dev) (disk b) blobs
    (ap (λ u. u.staged) says.same ∙ synced_unstaged x.store) (subst (MayBeSynced p.layout.markers) (sym says.markers) (c.in_ok-stage.ensures.storable c.requires.over.storable))
    (subst (λ k. IsOpened k (g.D.Device.opened c.sync.new.dev)) (placed ∙ sym placed_y) c.sync.ensures.opened) entries
    (λ t. subst (λ m. Stands p.layout.markers y.store m (disk b)) (sym says.contents) (says.stands t (contents_of p.store) (c.in_ok-stage.ensures.stands (contents_of p.store) (disk a) (c.requires.over.disk t).markers))))

pub returns-clause-sound : goal.returns-clause-sound
returns-clause-sound g c t sound =
    let p = shown g.I.Record.place c.args.self in
    let here = here_of g.I.Record.place c.args.self g.met.I.CodecFixed.fixed.at_least in
    let pages = are_pages g.row.S g.S.Seal g.S.Seal-dict in
    let active = Contains c.args.active.now in
    let decides = contains_or_not c.args.active.now in
    let told = g.D.Device.Tells in
    let a = g.D.Device.time c.args.dev.now in
    let x = tracked.shown c.stage.new.self in
    let moved : Moved p active x.store.entries x.trailing = record { trails = c.in_ok-stage.ensures.trails; synced = c.in_ok-stage.ensures.synced; moved = c.in_ok-stage.ensures.moved; active = c.in_ok-stage.ensures.active; marked = c.in_ok-stage.ensures.marked } in
    let placed : x.store.partition ≡ p.layout.metadata = ap (λ u. u.partition) c.in_ok-stage.ensures.staged in
    let y = tracked.shown c.in_ok-this.field-0 in
    let says = c.in_ok-this.ensures in
    let b = g.D.Device.time c.sync.new.dev in
    let moved_y = moved_on p active x.store.entries y.store.entries x.trailing y.trailing says.markers says.trailing moved in
    let placed_y : y.store.partition ≡ p.layout.metadata = ap (λ u. u.partition) says.same ∙ synced_place x.store ∙ placed in
    let blobs : told → (q : Key) → (IsCopy p.layout q → ⊥) → disk b q ≡ disk a q = (λ t q not. always_now a b (OnlyOne x.store.partition x.store.older (disk a)) (c.sync.ensures.alone t) q (λ e. not (x.store.older, e ∙ ap (λ k. blob_of k x.store.older) placed))) in
    marked_sound_as _ _ told p active decides _ (disk a) here c.requires.over y.store y.trailing moved_y (g.D.Device.opened c.sync.new.dev) (disk b) blobs y.store.partition placed_y t sound

pub returns-in_err-this-clause-full : goal.returns-in_err-this-clause-full
returns-in_err-this-clause-full g c has =
    let p = shown g.I.Record.place c.args.self in
    let here = here_of g.I.Record.place c.args.self g.met.I.CodecFixed.fixed.at_least in
    let pages = are_pages g.row.S g.S.Seal g.S.Seal-dict in
    let active = Contains c.args.active.now in
    let decides = contains_or_not c.args.active.now in
    let told = g.D.Device.Tells in
    let a = g.D.Device.time c.args.dev.now in
    let x = tracked.shown c.stage.new.self in
    let moved : Moved p active x.store.entries x.trailing = record { trails = c.in_ok-stage.ensures.trails; synced = c.in_ok-stage.ensures.synced; moved = c.in_ok-stage.ensures.moved; active = c.in_ok-stage.ensures.active; marked = c.in_ok-stage.ensures.marked } in
    let placed : x.store.partition ≡ p.layout.metadata = ap (λ u. u.partition) c.in_ok-stage.ensures.staged in
    let r = c.from_residual-in_err-this.result in
    let e = c.in_err-this.field-0.0 in
    let is = err_of r (raised_metadata e) c.from_residual-in_err-this.ensures.1 in
    let says = c.in_err-this.ensures.full.0 (full_markers r e _ _ is c.in_err-this.ensures.cause has) in (
      omega (arith, says.1, ap (λ u. u.version) c.in_ok-stage.ensures.staged),
      elim (some_or_none _ _ told p active decides _ (disk a) here c.requires.over) [
        | inl w ↦ w
        | inr none ↦ absurd (not_both x.store.staged says.0 (ap (λ u. u.staged) (c.in_ok-stage.ensures.still none) ∙ c.requires.over.synced))
      ],
    )

pub returns-in_err-this-clause-lost : goal.returns-in_err-this-clause-lost
returns-in_err-this-clause-lost g c has =
    let p = shown g.I.Record.place c.args.self in
    let here = here_of g.I.Record.place c.args.self g.met.I.CodecFixed.fixed.at_least in
    let pages = are_pages g.row.S g.S.Seal g.S.Seal-dict in
    let active = Contains c.args.active.now in
    let decides = contains_or_not c.args.active.now in
    let told = g.D.Device.Tells in
    let a = g.D.Device.time c.args.dev.now in
    let x = tracked.shown c.stage.new.self in
    let moved : Moved p active x.store.entries x.trailing = record { trails = c.in_ok-stage.ensures.trails; synced = c.in_ok-stage.ensures.synced; moved = c.in_ok-stage.ensures.moved; active = c.in_ok-stage.ensures.active; marked = c.in_ok-stage.ensures.marked } in
    let placed : x.store.partition ≡ p.layout.metadata = ap (λ u. u.partition) c.in_ok-stage.ensures.staged in
    elim (some_or_none _ _ told p active decides _ (disk a) here c.requires.over) [
      | inl w ↦ w
      | inr none ↦ absurd (false_true (c.in_err-this.ensures.idle (ap (λ u. u.staged) (c.in_ok-stage.ensures.still none) ∙ c.requires.over.synced)).1)
    ]

pub returns-clause-lists : goal.returns-clause-lists
returns-clause-lists g c t =
    let p = shown g.I.Record.place c.args.self in
    let here = here_of g.I.Record.place c.args.self g.met.I.CodecFixed.fixed.at_least in
    let pages = are_pages g.row.S g.S.Seal g.S.Seal-dict in
    let active = Contains c.args.active.now in
    let decides = contains_or_not c.args.active.now in
    let told = g.D.Device.Tells in
    let a = g.D.Device.time c.args.dev.now in
    let x = tracked.shown c.stage.new.self in
    let moved : Moved p active x.store.entries x.trailing = record { trails = c.in_ok-stage.ensures.trails; synced = c.in_ok-stage.ensures.synced; moved = c.in_ok-stage.ensures.moved; active = c.in_ok-stage.ensures.active; marked = c.in_ok-stage.ensures.marked } in
    let placed : x.store.partition ≡ p.layout.metadata = ap (λ u. u.partition) c.in_ok-stage.ensures.staged in
    let y = tracked.shown c.in_ok-this.field-0 in
    let says = c.in_ok-this.ensures in
    let b = g.D.Device.time c.sync.new.dev in
    let moved_y = moved_on p active x.store.entries y.store.entries x.trailing y.trailing says.markers says.trailing moved in
    let placed_y : y.store.partition ≡ p.layout.metadata = ap (λ u. u.partition) says.same ∙ synced_place x.store ∙ placed in
    let blobs : told → (q : Key) → (IsCopy p.layout q → ⊥) → disk b q ≡ disk a q = (λ t q not. always_now a b (OnlyOne x.store.partition x.store.older (disk a)) (c.sync.ensures.alone t) q (λ e. not (x.store.older, e ∙ ap (λ k. blob_of k x.store.older) placed))) in
    marked_lists _ _ told p active decides _ (disk a) here c.requires.over y.store y.trailing moved_y (g.D.Device.opened c.sync.new.dev) (disk b) blobs t

pub returns-clause-synced : goal.returns-clause-synced
returns-clause-synced g c =
    let p = shown g.I.Record.place c.args.self in
    let here = here_of g.I.Record.place c.args.self g.met.I.CodecFixed.fixed.at_least in
    let pages = are_pages g.row.S g.S.Seal g.S.Seal-dict in
    let active = Contains c.args.active.now in
    let decides = contains_or_not c.args.active.now in
    let told = g.D.Device.Tells in
    let a = g.D.Device.time c.args.dev.now in
    let x = tracked.shown c.stage.new.self in
    let moved : Moved p active x.store.entries x.trailing = record { trails = c.in_ok-stage.ensures.trails; synced = c.in_ok-stage.ensures.synced; moved = c.in_ok-stage.ensures.moved; active = c.in_ok-stage.ensures.active; marked = c.in_ok-stage.ensures.marked } in
    let placed : x.store.partition ≡ p.layout.metadata = ap (λ u. u.partition) c.in_ok-stage.ensures.staged in
    let y = tracked.shown c.in_ok-this.field-0 in
    let says = c.in_ok-this.ensures in
    let b = g.D.Device.time c.sync.new.dev in
    let moved_y = moved_on p active x.store.entries y.store.entries x.trailing y.trailing says.markers says.trailing moved in
    let placed_y : y.store.partition ≡ p.layout.metadata = ap (λ u. u.partition) says.same ∙ synced_place x.store ∙ placed in
    let blobs : told → (q : Key) → (IsCopy p.layout q → ⊥) → disk b q ≡ disk a q = (λ t q not. always_now a b (OnlyOne x.store.partition x.store.older (disk a)) (c.sync.ensures.alone t) q (λ e. not (x.store.older, e ∙ ap (λ k. blob_of k x.store.older) placed))) in
    moved_y.synced

pub returns-clause-markers : goal.returns-clause-markers
returns-clause-markers g c s not =
    let p = shown g.I.Record.place c.args.self in
    let here = here_of g.I.Record.place c.args.self g.met.I.CodecFixed.fixed.at_least in
    let pages = are_pages g.row.S g.S.Seal g.S.Seal-dict in
    let active = Contains c.args.active.now in
    let decides = contains_or_not c.args.active.now in
    let told = g.D.Device.Tells in
    let a = g.D.Device.time c.args.dev.now in
    let x = tracked.shown c.stage.new.self in
    let moved : Moved p active x.store.entries x.trailing = record { trails = c.in_ok-stage.ensures.trails; synced = c.in_ok-stage.ensures.synced; moved = c.in_ok-stage.ensures.moved; active = c.in_ok-stage.ensures.active; marked = c.in_ok-stage.ensures.marked } in
    let placed : x.store.partition ≡ p.layout.metadata = ap (λ u. u.partition) c.in_ok-stage.ensures.staged in
    let y = tracked.shown c.in_ok-this.field-0 in
    let says = c.in_ok-this.ensures in
    let b = g.D.Device.time c.sync.new.dev in
    let moved_y = moved_on p active x.store.entries y.store.entries x.trailing y.trailing says.markers says.trailing moved in
    let placed_y : y.store.partition ≡ p.layout.metadata = ap (λ u. u.partition) says.same ∙ synced_place x.store ∙ placed in
    let blobs : told → (q : Key) → (IsCopy p.layout q → ⊥) → disk b q ≡ disk a q = (λ t q not. always_now a b (OnlyOne x.store.partition x.store.older (disk a)) (c.sync.ensures.alone t) q (λ e. not (x.store.older, e ∙ ap (λ k. blob_of k x.store.older) placed))) in
    (moved_y.moved s not).1 ∙ sym (moved_y.synced s)

pub returns-clause-active : goal.returns-clause-active
returns-clause-active g c s is =
    let p = shown g.I.Record.place c.args.self in
    let here = here_of g.I.Record.place c.args.self g.met.I.CodecFixed.fixed.at_least in
    let pages = are_pages g.row.S g.S.Seal g.S.Seal-dict in
    let active = Contains c.args.active.now in
    let decides = contains_or_not c.args.active.now in
    let told = g.D.Device.Tells in
    let a = g.D.Device.time c.args.dev.now in
    let x = tracked.shown c.stage.new.self in
    let moved : Moved p active x.store.entries x.trailing = record { trails = c.in_ok-stage.ensures.trails; synced = c.in_ok-stage.ensures.synced; moved = c.in_ok-stage.ensures.moved; active = c.in_ok-stage.ensures.active; marked = c.in_ok-stage.ensures.marked } in
    let placed : x.store.partition ≡ p.layout.metadata = ap (λ u. u.partition) c.in_ok-stage.ensures.staged in
    let y = tracked.shown c.in_ok-this.field-0 in
    let says = c.in_ok-this.ensures in
    let b = g.D.Device.time c.sync.new.dev in
    let moved_y = moved_on p active x.store.entries y.store.entries x.trailing y.trailing says.markers says.trailing moved in
    let placed_y : y.store.partition ≡ p.layout.metadata = ap (λ u. u.partition) says.same ∙ synced_place x.store ∙ placed in
    let blobs : told → (q : Key) → (IsCopy p.layout q → ⊥) → disk b q ≡ disk a q = (λ t q not. always_now a b (OnlyOne x.store.partition x.store.older (disk a)) (c.sync.ensures.alone t) q (λ e. not (x.store.older, e ∙ ap (λ k. blob_of k x.store.older) placed))) in
    (moved_y.active s is).1

pub returns-in_err-stage-clause-newer_stays : goal.returns-in_err-stage-clause-newer_stays
returns-in_err-stage-clause-newer_stays g c t =
    let p = shown g.I.Record.place c.args.self in
    let here = here_of g.I.Record.place c.args.self g.met.I.CodecFixed.fixed.at_least in
    let pages = are_pages g.row.S g.S.Seal g.S.Seal-dict in
    let active = Contains c.args.active.now in
    let decides = contains_or_not c.args.active.now in
    let told = g.D.Device.Tells in
    let a = g.D.Device.time c.args.dev.now in
    let newer = blob_of p.layout.metadata (other_side p.store.older) in
    always_start a (λ d. d newer ≡ disk a newer) refl

pub returns-in_err-this-clause-newer_stays : goal.returns-in_err-this-clause-newer_stays
returns-in_err-this-clause-newer_stays g c t =
    let p = shown g.I.Record.place c.args.self in
    let here = here_of g.I.Record.place c.args.self g.met.I.CodecFixed.fixed.at_least in
    let pages = are_pages g.row.S g.S.Seal g.S.Seal-dict in
    let active = Contains c.args.active.now in
    let decides = contains_or_not c.args.active.now in
    let told = g.D.Device.Tells in
    let a = g.D.Device.time c.args.dev.now in
    let x = tracked.shown c.stage.new.self in
    let moved : Moved p active x.store.entries x.trailing = record { trails = c.in_ok-stage.ensures.trails; synced = c.in_ok-stage.ensures.synced; moved = c.in_ok-stage.ensures.moved; active = c.in_ok-stage.ensures.active; marked = c.in_ok-stage.ensures.marked } in
    let placed : x.store.partition ≡ p.layout.metadata = ap (λ u. u.partition) c.in_ok-stage.ensures.staged in
    let b = g.D.Device.time c.sync.new.dev in
    let newer = blob_of p.layout.metadata (other_side p.store.older) in
    always_weaker a b (OnlyOne x.store.partition x.store.older (disk a)) (λ d. d newer ≡ disk a newer)
    (λ d only. only newer (λ e. sides_apart p.layout.metadata p.store.older (e ∙ ap (λ u. blob_of u.partition u.older) c.in_ok-stage.ensures.staged))) (c.sync.ensures.alone t)

pub returns-clause-newer_stays : goal.returns-clause-newer_stays
returns-clause-newer_stays g c t =
    let p = shown g.I.Record.place c.args.self in
    let here = here_of g.I.Record.place c.args.self g.met.I.CodecFixed.fixed.at_least in
    let pages = are_pages g.row.S g.S.Seal g.S.Seal-dict in
    let active = Contains c.args.active.now in
    let decides = contains_or_not c.args.active.now in
    let told = g.D.Device.Tells in
    let a = g.D.Device.time c.args.dev.now in
    let x = tracked.shown c.stage.new.self in
    let moved : Moved p active x.store.entries x.trailing = record { trails = c.in_ok-stage.ensures.trails; synced = c.in_ok-stage.ensures.synced; moved = c.in_ok-stage.ensures.moved; active = c.in_ok-stage.ensures.active; marked = c.in_ok-stage.ensures.marked } in
    let placed : x.store.partition ≡ p.layout.metadata = ap (λ u. u.partition) c.in_ok-stage.ensures.staged in
    let b = g.D.Device.time c.sync.new.dev in
    let newer = blob_of p.layout.metadata (other_side p.store.older) in
    always_weaker a b (OnlyOne x.store.partition x.store.older (disk a)) (λ d. d newer ≡ disk a newer)
    (λ d only. only newer (λ e. sides_apart p.layout.metadata p.store.older (e ∙ ap (λ u. blob_of u.partition u.older) c.in_ok-stage.ensures.staged))) (c.sync.ensures.alone t)

pub returns-clause-marked : goal.returns-clause-marked
returns-clause-marked g c =
    let p = shown g.I.Record.place c.args.self in
    let here = here_of g.I.Record.place c.args.self g.met.I.CodecFixed.fixed.at_least in
    let pages = are_pages g.row.S g.S.Seal g.S.Seal-dict in
    let active = Contains c.args.active.now in
    let decides = contains_or_not c.args.active.now in
    let told = g.D.Device.Tells in
    let a = g.D.Device.time c.args.dev.now in
    let x = tracked.shown c.stage.new.self in
    let moved : Moved p active x.store.entries x.trailing = record { trails = c.in_ok-stage.ensures.trails; synced = c.in_ok-stage.ensures.synced; moved = c.in_ok-stage.ensures.moved; active = c.in_ok-stage.ensures.active; marked = c.in_ok-stage.ensures.marked } in
    let placed : x.store.partition ≡ p.layout.metadata = ap (λ u. u.partition) c.in_ok-stage.ensures.staged in
    let y = tracked.shown c.in_ok-this.field-0 in
    let says = c.in_ok-this.ensures in
    let b = g.D.Device.time c.sync.new.dev in
    let moved_y = moved_on p active x.store.entries y.store.entries x.trailing y.trailing says.markers says.trailing moved in
    let placed_y : y.store.partition ≡ p.layout.metadata = ap (λ u. u.partition) says.same ∙ synced_place x.store ∙ placed in
    let blobs : told → (q : Key) → (IsCopy p.layout q → ⊥) → disk b q ≡ disk a q = (λ t q not. always_now a b (OnlyOne x.store.partition x.store.older (disk a)) (c.sync.ensures.alone t) q (λ e. not (x.store.older, e ∙ ap (λ k. blob_of k x.store.older) placed))) in
    marked_synced _ _ told p active decides _ (disk a) here c.requires.over y.store.entries y.trailing moved_y

pub returns-in_err-stage-clause-fault : goal.returns-in_err-stage-clause-fault
returns-in_err-stage-clause-fault g c has =
    let r = c.from_residual.result in
    let e = c.in_err-stage.field-0.0 in
    markers_apart r e (err_of r (raised_metadata e) c.from_residual.ensures.1) has

pub returns-in_err-this-clause-fault : goal.returns-in_err-this-clause-fault
returns-in_err-this-clause-fault g c has =
    let r = c.from_residual-in_err-this.result in
    let e = c.in_err-this.field-0.0 in
    markers_apart r e (err_of r (raised_metadata e) c.from_residual-in_err-this.ensures.1) has

pub returns-clause-marker_floor : goal.returns-clause-marker_floor
returns-clause-marker_floor g c =
    ap (λ u. u.floor) c.in_ok-this.ensures.contents ∙ ap (λ u. u.floor) c.in_ok-stage.ensures.staged

pub returns-in_err-stage-clause-mapping : goal.returns-in_err-stage-clause-mapping
returns-in_err-stage-clause-mapping g c t =
    let p = shown g.I.Record.place c.args.self in
    let a = g.D.Device.time c.args.dev.now in
    moves_markers p (Contains c.args.active.now) p.store a a refl refl (λ s m is. inl is) (stands_alone p.layout.markers p.store (contents_of p.store) (contents_of p.store) a (c.requires.over.disk t).markers)

pub returns-in_err-this-clause-mapping : goal.returns-in_err-this-clause-mapping
returns-in_err-this-clause-mapping g c t =
    let p = shown g.I.Record.place c.args.self in
    let a = g.D.Device.time c.args.dev.now in
    let stage = c.in_ok-stage.ensures in
    moves_markers p (Contains c.args.active.now) (tracked.shown c.stage.new.self).store a (g.D.Device.time c.sync.new.dev) (ap (λ u. u.partition) stage.staged) (ap (λ u. u.floor) stage.staged) stage.marked
    (c.sync.ensures.crashes t (contents_of p.store) (stage.stands (contents_of p.store) (disk a) (c.requires.over.disk t).markers))

pub returns-clause-mapping : goal.returns-clause-mapping
returns-clause-mapping g c t =
    let p = shown g.I.Record.place c.args.self in
    let a = g.D.Device.time c.args.dev.now in
    let stage = c.in_ok-stage.ensures in
    moves_markers p (Contains c.args.active.now) (tracked.shown c.stage.new.self).store a (g.D.Device.time c.sync.new.dev) (ap (λ u. u.partition) stage.staged) (ap (λ u. u.floor) stage.staged) stage.marked
    (c.sync.ensures.crashes t (contents_of p.store) (stage.stands (contents_of p.store) (disk a) (c.requires.over.disk t).markers))
