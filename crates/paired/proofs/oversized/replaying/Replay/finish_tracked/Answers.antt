use Rattle.std.proofs.Common.{◌≡◌, ◌↔◌, ◌⊎◌, inl, inr, ℕ, true, false, length, unwrap_or, Err, refl, sym, ◌∙◌, ap, subst, arith}
use Rattle.std.specs.List.{Contains}
use Rattle.std.specs.BTreeSet as set
use Rattle.std.specs.Ordering.{nat_cmp}
use Rattle.blob_device.specs.Opened.{reads_of}
use Rattle.blob_device.specs.Timeline.{disk, Always}
use Rattle.blob_device.specs.lemmas.Moments.{always_start, always_now}
use Rattle.sealed_pages.specs.Reading.{Unchanged}
use Rattle.section_manager.specs.managing.Managed as manager
use Rattle.section_manager.specs.declared.journal.Error.TheVariants.{ReplayFailed}
use Rattle.section_manager.specs.Sections.{section_key, IsHeld}
use Rattle.segments.specs.FixedReplay.{IsDrained}
use Rattle.segments.specs.FixedShown as fixed
use Rattle.paired.specs.lemmas.pair.Synced.{page_setting}
use Rattle.paired.specs.lemmas.reconcile.Entries.{drained_from, markers_readable, run_here}
use Rattle.paired.specs.lemmas.reconcile.Start.{back_journal, back_proven, ends_of, opening}
use Rattle.segments.specs.lemmas.adding.Write.{are_pages}
use Rattle.paired.specs.Crashes.{IsCopy}
use Rattle.paired.specs.PairShown.{shown}
use Rattle.paired.specs.glob.Sections.{section_size}
use Rattle.paired.specs.Places.{last_end}
use Rattle.paired.specs.Reconciling.{IsEndWithin}
use Rattle.paired.specs.ReplayShown.{run_of}
use Rattle.paired.specs.Replaying.{pair_of}
use Rattle.paired.specs.sighted.Shown as tracked
use Rattle.paired.proofs.pair.Failing.{no_error, not_both}
use Rattle.paired.proofs.pair.Synced.{made}
use Rattle.paired.specs.Pair.{IsMoving}
use Rattle.paired.proofs.reconcile.Left.{Stage, Left, left_of, left_before, no_stage}
use Rattle.paired.proofs.reconcile.Stages.{records_stage, values_stage, removing_stage}
use Rattle.paired.proofs.reconcile.Joints.{cut_joint, cut_values_same, trim_joint, removed_joint}
use Rattle.paired.proofs.reconcile.Pair.{pair_with, reconciled_of}
use Rattle.paired.proofs.reconcile.Result.{pair_is, moves_given, given_moves, stage_as, newer_as, kept_result, counts_result, settled_result, index_result}
use Rattle.paired.proofs.reconcile.Errors.{if_err, no_ok, handed_back, handed_on, on_error, failed_on, memory_on, damaged_on, values_end, replay_or_not, failed_replay, failed_full, failed_codec, failed_corrupt, failed_damage, failed_cause, failed_complete, damaged_replay, damaged_full, damaged_codec, damaged_corrupt, damaged_cause, damaged_complete, marks_complete, marks_cause, marked_no_replay, marked_no_codec, marked_no_corrupt, marked_no_damage}
use Rattle.paired.proofs.reconcile.Entries.{drained_of, as_back, as_cut, as_trim, as_removed, cut_entry, trim_entry, removed_entry, cut_reads, cut_unread, trim_reads, trim_unread, leaves_reads, doomed_of, notes_of, noted_same}
use Rattle.paired.proofs.oversized.replaying.Replay.finish_tracked.Goals as goal
use Rattle.paired.proofs.oversized.replaying.Replay.finish_tracked.Goals.{then-not-self-via-then-not-self, then-not-self-via-else-not-self+then-self}
use Rattle.blob_device.proofs.general.Lists.{contains_or_not}
use Rattle.blob_device.proofs.general.Results.{err_of, map_ok}

pub cut_records-requires : goal.cut_records-requires
cut_records-requires g c =
    let run = run_of g.I.Record.place c.args.self in
    let told = g.D.Device.Tells in
    let a = g.D.Device.time c.args.dev.now in
    let o = g.D.Device.opened c.args.dev.now in
    let readable = markers_readable g.S.Seal in
    let back_says = c.in_ok-finish.ensures in
    let never : (run.walk.failed ≡ true) ⊎ (IsDrained run.walk → ⊥) → ⊥ = λ no. no_error c.in_ok-finish.field-0 ReplayFailed (back_says.replay_failed.1 no) in
    let e = drained_from (are_pages g.row.S g.S.Seal g.S.Seal-dict) (run_here g.I.Record.place c.args.self g.met.I.CodecFixed.fixed.at_least) c.requires.over c.if-not-self.false
    (λ is. elim is [ inl here ↦ not_both run.failed here c.if-self.false | inr walk ↦ never (inl walk) ]) (drained_of run.walk (λ no. never (inr no))) in
    let j0 = fixed.shown c.in_ok-finish.field-0 in
    let back = as_back a e j0 (record { sections = back_says.sections; held = back_says.held; settled = back_says.settled; sealed = back_says.sealed; unopened = back_says.unopened; recovered = back_says.recovered; lifted = back_says.lifted }) in
    record { over = back_journal e j0 back; proven = back_proven e j0 back; floor = ap (λ x. x.floor) back_says.sections ∙ (opening e).index_floor }

pub cut_values-requires : goal.cut_values-requires
cut_values-requires g c =
    let run = run_of g.I.Record.place c.args.self in
    let told = g.D.Device.Tells in
    let a = g.D.Device.time c.args.dev.now in
    let o = g.D.Device.opened c.args.dev.now in
    let readable = markers_readable g.S.Seal in
    let back_says = c.in_ok-finish.ensures in
    let never : (run.walk.failed ≡ true) ⊎ (IsDrained run.walk → ⊥) → ⊥ = λ no. no_error c.in_ok-finish.field-0 ReplayFailed (back_says.replay_failed.1 no) in
    let e = drained_from (are_pages g.row.S g.S.Seal g.S.Seal-dict) (run_here g.I.Record.place c.args.self g.met.I.CodecFixed.fixed.at_least) c.requires.over c.if-not-self.false
    (λ is. elim is [ inl here ↦ not_both run.failed here c.if-self.false | inr walk ↦ never (inl walk) ]) (drained_of run.walk (λ no. never (inr no))) in
    let j0 = fixed.shown c.in_ok-finish.field-0 in
    let back = as_back a e j0 (record { sections = back_says.sections; held = back_says.held; settled = back_says.settled; sealed = back_says.sealed; unopened = back_says.unopened; recovered = back_says.recovered; lifted = back_says.lifted }) in
    let b = g.D.Device.time c.cut_records.new.dev in
    let o1 = g.D.Device.opened c.cut_records.new.dev in
    let s1 : told → Stage run 0 (disk a) a b = λ t. records_stage a e readable t j0 back (λ q. g.met.D.Device.as_read t c.args.dev.now q) b (c.cut_records.ensures.moments t) in
    let k = fixed.shown c.in_ok-index.index in
    let cuts = c.in_ok-index.ensures in
    let cut = as_cut a e j0 k o1 b (record { over = cuts.over; proven = cuts.proven; cut = cuts.cut; sizes = cuts.sizes; others = cuts.others; held = cuts.held; unopened = cuts.unopened; settled = cuts.settled; bounds = cuts.bounds; moments = c.cut_records.ensures.moments; entries = c.cut_records.ensures.entries }) in
    let joint1 = cut_joint a (ends_of e j0 back) k o1 b cut (λ t q. g.met.D.Device.as_read t c.cut_records.new.dev q) in
    record { over = joint1.rests.journal; values = joint1.rests.parts.values; proven = joint1.rests.proven; ends = λ t s held. subst (λ rs. IsEndWithin (last_end run.layout.place rs) (section_size run.values s) (unwrap_or (run.ends.values s) 0)) (sym (joint1.records t s)) (values_end e t j0 back s); floors = (cuts.bounds.floor ∙ ap (λ x. x.floor) back_says.sections ∙ (opening e).index_floor, (opening e).values_floor); apart = λ is. e.over.apart.values (sym joint1.rests.parts.index_here ∙ is ∙ e.here.values) }

pub remove_values-requires : goal.remove_values-requires
remove_values-requires g c =
    let run = run_of g.I.Record.place c.args.self in
    let told = g.D.Device.Tells in
    let a = g.D.Device.time c.args.dev.now in
    let o = g.D.Device.opened c.args.dev.now in
    let readable = markers_readable g.S.Seal in
    let back_says = c.in_ok-finish.ensures in
    let never : (run.walk.failed ≡ true) ⊎ (IsDrained run.walk → ⊥) → ⊥ = λ no. no_error c.in_ok-finish.field-0 ReplayFailed (back_says.replay_failed.1 no) in
    let e = drained_from (are_pages g.row.S g.S.Seal g.S.Seal-dict) (run_here g.I.Record.place c.args.self g.met.I.CodecFixed.fixed.at_least) c.requires.over c.if-not-self.false
    (λ is. elim is [ inl here ↦ not_both run.failed here c.if-self.false | inr walk ↦ never (inl walk) ]) (drained_of run.walk (λ no. never (inr no))) in
    let j0 = fixed.shown c.in_ok-finish.field-0 in
    let back = as_back a e j0 (record { sections = back_says.sections; held = back_says.held; settled = back_says.settled; sealed = back_says.sealed; unopened = back_says.unopened; recovered = back_says.recovered; lifted = back_says.lifted }) in
    let b = g.D.Device.time c.cut_records.new.dev in
    let o1 = g.D.Device.opened c.cut_records.new.dev in
    let s1 : told → Stage run 0 (disk a) a b = λ t. records_stage a e readable t j0 back (λ q. g.met.D.Device.as_read t c.args.dev.now q) b (c.cut_records.ensures.moments t) in
    let k = fixed.shown c.in_ok-index.index in
    let cuts = c.in_ok-index.ensures in
    let cut = as_cut a e j0 k o1 b (record { over = cuts.over; proven = cuts.proven; cut = cuts.cut; sizes = cuts.sizes; others = cuts.others; held = cuts.held; unopened = cuts.unopened; settled = cuts.settled; bounds = cuts.bounds; moments = c.cut_records.ensures.moments; entries = c.cut_records.ensures.entries }) in
    let joint1 = cut_joint a (ends_of e j0 back) k o1 b cut (λ t q. g.met.D.Device.as_read t c.cut_records.new.dev q) in
    let d = g.D.Device.time c.cut_values.new.dev in
    let o2 = g.D.Device.opened c.cut_values.new.dev in
    let s2 : told → Stage run 1 (disk a) b d = λ t. values_stage a e readable t b k o1 joint1 (cut_values_same a (ends_of e j0 back) k o1 b cut (λ x q. g.met.D.Device.as_read x c.cut_records.new.dev q) t) d (c.cut_values.ensures.moments t) in
    let m = manager.shown c.in_ok-values.values.manager in
    let trims = c.in_ok-values.ensures in
    let trim = as_trim a e k m o1 o2 b d (record { over = trims.over; values = trims.values; cut = trims.cut; others = trims.others; held = trims.held; unopened = trims.unopened; settled = trims.settled; bounds = trims.bounds; moments = c.cut_values.ensures.moments; entries = c.cut_values.ensures.entries }) in
    let joint2 = trim_joint a (ends_of e j0 back) b k o1 joint1 m o2 d trim (λ t q. g.met.D.Device.as_read t c.cut_values.new.dev q) in
    record { over = trims.values; floor = trims.bounds.floor ∙ (opening e).values_floor }

pub note_synced-requires : goal.note_synced-requires
note_synced-requires g c =
    let run = run_of g.I.Record.place c.args.self in
    let told = g.D.Device.Tells in
    let a = g.D.Device.time c.args.dev.now in
    let o = g.D.Device.opened c.args.dev.now in
    let readable = markers_readable g.S.Seal in
    let back_says = c.in_ok-finish.ensures in
    let never : (run.walk.failed ≡ true) ⊎ (IsDrained run.walk → ⊥) → ⊥ = λ no. no_error c.in_ok-finish.field-0 ReplayFailed (back_says.replay_failed.1 no) in
    let e = drained_from (are_pages g.row.S g.S.Seal g.S.Seal-dict) (run_here g.I.Record.place c.args.self g.met.I.CodecFixed.fixed.at_least) c.requires.over c.if-not-self.false
    (λ is. elim is [ inl here ↦ not_both run.failed here c.if-self.false | inr walk ↦ never (inl walk) ]) (drained_of run.walk (λ no. never (inr no))) in
    let j0 = fixed.shown c.in_ok-finish.field-0 in
    let back = as_back a e j0 (record { sections = back_says.sections; held = back_says.held; settled = back_says.settled; sealed = back_says.sealed; unopened = back_says.unopened; recovered = back_says.recovered; lifted = back_says.lifted }) in
    let b = g.D.Device.time c.cut_records.new.dev in
    let o1 = g.D.Device.opened c.cut_records.new.dev in
    let s1 : told → Stage run 0 (disk a) a b = λ t. records_stage a e readable t j0 back (λ q. g.met.D.Device.as_read t c.args.dev.now q) b (c.cut_records.ensures.moments t) in
    let k = fixed.shown c.in_ok-index.index in
    let cuts = c.in_ok-index.ensures in
    let cut = as_cut a e j0 k o1 b (record { over = cuts.over; proven = cuts.proven; cut = cuts.cut; sizes = cuts.sizes; others = cuts.others; held = cuts.held; unopened = cuts.unopened; settled = cuts.settled; bounds = cuts.bounds; moments = c.cut_records.ensures.moments; entries = c.cut_records.ensures.entries }) in
    let joint1 = cut_joint a (ends_of e j0 back) k o1 b cut (λ t q. g.met.D.Device.as_read t c.cut_records.new.dev q) in
    record { trails = λ s x is. absurd (cc ((opening e).trailing s, is)); kept = λ s is. omega (arith, cuts.bounds.floor, ap (λ x. x.floor) back_says.sections, (opening e).index_floor) }

pub move_markers-requires : goal.move_markers-requires
move_markers-requires g c =
    let run = run_of g.I.Record.place c.args.self in
    let told = g.D.Device.Tells in
    let a = g.D.Device.time c.args.dev.now in
    let o = g.D.Device.opened c.args.dev.now in
    let readable = markers_readable g.S.Seal in
    let back_says = c.in_ok-finish.ensures in
    let never : (run.walk.failed ≡ true) ⊎ (IsDrained run.walk → ⊥) → ⊥ = λ no. no_error c.in_ok-finish.field-0 ReplayFailed (back_says.replay_failed.1 no) in
    let e = drained_from (are_pages g.row.S g.S.Seal g.S.Seal-dict) (run_here g.I.Record.place c.args.self g.met.I.CodecFixed.fixed.at_least) c.requires.over c.if-not-self.false
    (λ is. elim is [ inl here ↦ not_both run.failed here c.if-self.false | inr walk ↦ never (inl walk) ]) (drained_of run.walk (λ no. never (inr no))) in
    let j0 = fixed.shown c.in_ok-finish.field-0 in
    let back = as_back a e j0 (record { sections = back_says.sections; held = back_says.held; settled = back_says.settled; sealed = back_says.sealed; unopened = back_says.unopened; recovered = back_says.recovered; lifted = back_says.lifted }) in
    let b = g.D.Device.time c.cut_records.new.dev in
    let o1 = g.D.Device.opened c.cut_records.new.dev in
    let s1 : told → Stage run 0 (disk a) a b = λ t. records_stage a e readable t j0 back (λ q. g.met.D.Device.as_read t c.args.dev.now q) b (c.cut_records.ensures.moments t) in
    let k = fixed.shown c.in_ok-index.index in
    let cuts = c.in_ok-index.ensures in
    let cut = as_cut a e j0 k o1 b (record { over = cuts.over; proven = cuts.proven; cut = cuts.cut; sizes = cuts.sizes; others = cuts.others; held = cuts.held; unopened = cuts.unopened; settled = cuts.settled; bounds = cuts.bounds; moments = c.cut_records.ensures.moments; entries = c.cut_records.ensures.entries }) in
    let joint1 = cut_joint a (ends_of e j0 back) k o1 b cut (λ t q. g.met.D.Device.as_read t c.cut_records.new.dev q) in
    let d = g.D.Device.time c.cut_values.new.dev in
    let o2 = g.D.Device.opened c.cut_values.new.dev in
    let s2 : told → Stage run 1 (disk a) b d = λ t. values_stage a e readable t b k o1 joint1 (cut_values_same a (ends_of e j0 back) k o1 b cut (λ x q. g.met.D.Device.as_read x c.cut_records.new.dev q) t) d (c.cut_values.ensures.moments t) in
    let m = manager.shown c.in_ok-values.values.manager in
    let trims = c.in_ok-values.ensures in
    let trim = as_trim a e k m o1 o2 b d (record { over = trims.over; values = trims.values; cut = trims.cut; others = trims.others; held = trims.held; unopened = trims.unopened; settled = trims.settled; bounds = trims.bounds; moments = c.cut_values.ensures.moments; entries = c.cut_values.ensures.entries }) in
    let joint2 = trim_joint a (ends_of e j0 back) b k o1 joint1 m o2 d trim (λ t q. g.met.D.Device.as_read t c.cut_values.new.dev q) in
    let doom = Contains c.as_slice.result.now in
    let decides = contains_or_not c.as_slice.result.now in
    let doomed = doomed_of m k (λ s. set.contains nat_cmp c.in_ok-held_sections.field-0 s) c.in_ok-held_sections.ensures.each doom (subst (λ xs. (s : ℕ) → Contains xs s ↔ (IsHeld m s × (set.contains nat_cmp c.in_ok-held_sections.field-0 s ≡ false))) (sym c.as_slice.ensures.value) c.in_ok-alone.ensures.each) in
    let f = g.D.Device.time c.remove_values.new.dev in
    let o3 = g.D.Device.opened c.remove_values.new.dev in
    let s3 : told → Stage run 2 (disk a) d f = λ t. removing_stage a e readable t d k m o2 joint2 trims.held doom (λ s is. ((doomed s).0 is).1) f (c.remove_values.ensures.moments t) in
    let n = manager.shown c.in_ok-values-2.values.manager in
    let gone = c.in_ok-values-2.ensures in
    let removed = as_removed a e doom m n o2 o3 d f (record { values = gone.over; removed = gone.removed; others = gone.others; bytes = gone.bytes; unopened = gone.unopened; bounds = gone.bounds; gone = gone.gone; moments = c.remove_values.ensures.moments; entries = c.remove_values.ensures.entries }) in
    let joint3 = removed_joint a (ends_of e j0 back) d k m o2 joint2 doom decides doomed n o3 f removed (λ t q. g.met.D.Device.as_read t c.remove_values.new.dev q) in
    let did = reconciled_of a e j0 back k o1 b cut joint1 m o2 d trim joint2 doom decides doomed n o3 f removed joint3 in
    let after = tracked.shown c.note_synced.new.tracking in
    let notes = notes_of run k after (Contains c.as_slice-2.result.now) (subst (λ xs. (s : ℕ) → Contains xs s ↔ IsHeld k.sections s) (sym c.as_slice-2.ensures.value) c.in_ok-held.ensures.each) c.note_synced.ensures.store c.in_ok-note_synced.ensures.trails c.in_ok-note_synced.ensures.named c.in_ok-note_synced.ensures.others (opening e).trailing in
    let q = made (pair_of run) k n after.trailing k.sections.partition n.partition after.store.partition k.sections.factory.pages.page_size after.store in
    let same : pair_with run k n after.trailing ≡ q = noted_same page_setting run k n after.store after.trailing after.store.partition k.sections.factory.pages.page_size joint3.rests.parts.index_here joint3.rests.parts.values_here (ap (λ u. u.partition) c.note_synced.ensures.store) joint3.rests.parts.page_size c.note_synced.ensures.store in
    record { over = pair_is a e k n o3 f did after.trailing notes q same (λ _. ⊥) (λ s is. is) }

pub returns-then-not-self : goal.returns-then-not-self
returns-then-not-self g c =
    let run = run_of g.I.Record.place c.args.self in
    let told = g.D.Device.Tells in
    let a = g.D.Device.time c.args.dev.now in
    let o = g.D.Device.opened c.args.dev.now in
    let readable = markers_readable g.S.Seal in
    let left : told → Left run a a = λ t. left_before run c.requires.over.apart a a a a (no_stage run 0 (disk a) a) (no_stage run 1 (disk a) a) (no_stage run 2 (disk a) a) in
    record {
      over = tt;
      kept = λ t. tt;
      counts = tt;
      settled = tt;
      index_settled = tt;
      codec_config = tt;
      moments = λ t. (left t).moments;
      untouched = λ t. (left t).untouched;
      order = λ t. (left t).order;
      orphans_last = λ t. (left t).orphans_last;
      markers_last = λ t. (left t).markers_last;
      newer_stays = λ t. (left t).newer_stays;
      clean = λ t s is. (left t).clean s is;
      idle = λ t all. (left t).idle all;
      reads = λ s. omega arith;
      index_unread = λ s small none. omega arith;
      entries = λ q not. refl;
      replay_failed = (λ was. (elim c.then-not-self.branch [ then-not-self-via-then-not-self x ↦ inl x.if-not-self.true | then-not-self-via-else-not-self+then-self x ↦ inr (inl (inl x.if-self.true)) ]), λ any. refl);
      refused = λ was. refl;
      full = λ was. absurd (cc (was));
      full_moves = λ t was. absurd (cc (was));
      no_version = λ t large moving. tt;
      unspelled = λ t x was. absurd (cc (was));
      complete = λ t spelled. inl refl;
      damage = λ t x was. absurd (cc (was));
      damaged = λ t was. absurd (cc (was.1));
      faults = omega arith;
      cause = inl refl;
    }

pub returns-in_err-finish : goal.returns-in_err-finish
returns-in_err-finish g c =
    let run = run_of g.I.Record.place c.args.self in
    let told = g.D.Device.Tells in
    let a = g.D.Device.time c.args.dev.now in
    let o = g.D.Device.opened c.args.dev.now in
    let readable = markers_readable g.S.Seal in
    let left : told → Left run a a = λ t. left_before run c.requires.over.apart a a a a (no_stage run 0 (disk a) a) (no_stage run 1 (disk a) a) (no_stage run 2 (disk a) a) in
    let r = c.from_residual.result in
    let w = c.in_err-finish.field-0.0 in
    let is = err_of r w c.from_residual.ensures.1 in
    let refused : r ≡ Err ReplayFailed = handed_on r w ReplayFailed is c.in_err-finish.ensures.cause in
    record {
      over = if_err r w is _;
      kept = λ t. if_err r w is _;
      counts = if_err r w is _;
      settled = if_err r w is _;
      index_settled = if_err r w is _;
      codec_config = if_err r w is _;
      moments = λ t. (left t).moments;
      untouched = λ t. (left t).untouched;
      order = λ t. (left t).order;
      orphans_last = λ t. (left t).orphans_last;
      markers_last = λ t. (left t).markers_last;
      newer_stays = λ t. (left t).newer_stays;
      clean = λ t s is. (left t).clean s is;
      idle = λ t all. (left t).idle all;
      reads = λ s. omega arith;
      index_unread = λ s small none. omega arith;
      entries = λ q not. refl;
      replay_failed = (λ was. (elim (c.in_err-finish.ensures.replay_failed.0 c.in_err-finish.ensures.cause) [ inl walk ↦ inr (inl (inr walk)) | inr not ↦ inr (inr not) ]), λ any. refused);
      refused = λ was. refl;
      full = λ was. absurd (cc (refused, was));
      full_moves = λ t was. absurd (cc (refused, was));
      no_version = λ t large moving. no_ok r w is;
      unspelled = λ t x was. absurd (cc (refused, was));
      complete = λ t spelled. on_error r (inl refused);
      damage = λ t x was. absurd (cc (refused, was));
      damaged = λ t was. absurd (cc (refused, was.1));
      faults = omega arith;
      cause = on_error r (inl refused);
    }

pub returns-in_err-index : goal.returns-in_err-index
returns-in_err-index g c =
    let run = run_of g.I.Record.place c.args.self in
    let told = g.D.Device.Tells in
    let a = g.D.Device.time c.args.dev.now in
    let o = g.D.Device.opened c.args.dev.now in
    let readable = markers_readable g.S.Seal in
    let back_says = c.in_ok-finish.ensures in
    let never : (run.walk.failed ≡ true) ⊎ (IsDrained run.walk → ⊥) → ⊥ = λ no. no_error c.in_ok-finish.field-0 ReplayFailed (back_says.replay_failed.1 no) in
    let e = drained_from (are_pages g.row.S g.S.Seal g.S.Seal-dict) (run_here g.I.Record.place c.args.self g.met.I.CodecFixed.fixed.at_least) c.requires.over c.if-not-self.false
    (λ is. elim is [ inl here ↦ not_both run.failed here c.if-self.false | inr walk ↦ never (inl walk) ]) (drained_of run.walk (λ no. never (inr no))) in
    let j0 = fixed.shown c.in_ok-finish.field-0 in
    let back = as_back a e j0 (record { sections = back_says.sections; held = back_says.held; settled = back_says.settled; sealed = back_says.sealed; unopened = back_says.unopened; recovered = back_says.recovered; lifted = back_says.lifted }) in
    let b = g.D.Device.time c.cut_records.new.dev in
    let o1 = g.D.Device.opened c.cut_records.new.dev in
    let s1 : told → Stage run 0 (disk a) a b = λ t. records_stage a e readable t j0 back (λ q. g.met.D.Device.as_read t c.args.dev.now q) b (c.cut_records.ensures.moments t) in
    let r = c.from_residual-in_err-index.result in
    let w = c.in_err-index.field-0.0 in
    let is = err_of r w c.from_residual-in_err-index.ensures.1 in
    let left : told → Left run a b = λ t. left_before run e.over.apart a b b b (s1 t) (no_stage run 1 (disk a) b) (no_stage run 2 (disk a) b) in
    let failed = damaged_on r w is (g.D.Device.faults c.args.dev.now) (g.D.Device.faults c.args.dev.now) (g.D.Device.faults c.cut_records.new.dev) (omega arith) c.in_err-index.ensures.cause in
    record {
      over = if_err r w is _;
      kept = λ t. if_err r w is _;
      counts = if_err r w is _;
      settled = if_err r w is _;
      index_settled = if_err r w is _;
      codec_config = if_err r w is _;
      moments = λ t. (left t).moments;
      untouched = λ t. (left t).untouched;
      order = λ t. (left t).order;
      orphans_last = λ t. (left t).orphans_last;
      markers_last = λ t. (left t).markers_last;
      newer_stays = λ t. (left t).newer_stays;
      clean = λ t s is. (left t).clean s is;
      idle = λ t all. (left t).idle all;
      reads = λ s. omega (arith, ap reads_of (cut_reads a e j0 back o1 c.cut_records.ensures.entries s));
      index_unread = λ s small none. omega (arith, ap reads_of (cut_unread a e j0 back o1 c.cut_records.ensures.entries s small none));
      entries = λ q not. cut_entry a e q not j0 back o1 c.cut_records.ensures.entries;
      replay_failed = replay_or_not r _ _ _ (damaged_replay r (g.D.Device.faults c.args.dev.now) (g.D.Device.faults c.cut_records.new.dev) failed) (λ no. not_both run.tracked e.tracked no) e.unfailed (λ no. no e.drained);
      refused = λ was. absurd (damaged_replay r (g.D.Device.faults c.args.dev.now) (g.D.Device.faults c.cut_records.new.dev) failed was);
      full = λ was. absurd (damaged_full r (g.D.Device.faults c.args.dev.now) (g.D.Device.faults c.cut_records.new.dev) failed was);
      full_moves = λ t was. absurd (damaged_full r (g.D.Device.faults c.args.dev.now) (g.D.Device.faults c.cut_records.new.dev) failed was);
      no_version = λ t large moving. no_ok r w is;
      unspelled = λ t x was. absurd (damaged_codec r (g.D.Device.faults c.args.dev.now) (g.D.Device.faults c.cut_records.new.dev) failed x was);
      complete = λ t spelled. damaged_complete r (g.D.Device.faults c.args.dev.now) (g.D.Device.faults c.cut_records.new.dev) failed (λ was. c.in_err-index.ensures.damage t (was.0, handed_back r w _ is was.1));
      damage = λ t x was. damaged_corrupt r (g.D.Device.faults c.args.dev.now) (g.D.Device.faults c.cut_records.new.dev) failed x was;
      damaged = λ t was. c.in_err-index.ensures.damage t (was.0, handed_back r w _ is was.1);
      faults = omega (arith, c.cut_records.ensures.faults);
      cause = damaged_cause r (g.D.Device.faults c.args.dev.now) (g.D.Device.faults c.cut_records.new.dev) failed;
    }

pub returns-in_err-values : goal.returns-in_err-values
returns-in_err-values g c =
    let run = run_of g.I.Record.place c.args.self in
    let told = g.D.Device.Tells in
    let a = g.D.Device.time c.args.dev.now in
    let o = g.D.Device.opened c.args.dev.now in
    let readable = markers_readable g.S.Seal in
    let back_says = c.in_ok-finish.ensures in
    let never : (run.walk.failed ≡ true) ⊎ (IsDrained run.walk → ⊥) → ⊥ = λ no. no_error c.in_ok-finish.field-0 ReplayFailed (back_says.replay_failed.1 no) in
    let e = drained_from (are_pages g.row.S g.S.Seal g.S.Seal-dict) (run_here g.I.Record.place c.args.self g.met.I.CodecFixed.fixed.at_least) c.requires.over c.if-not-self.false
    (λ is. elim is [ inl here ↦ not_both run.failed here c.if-self.false | inr walk ↦ never (inl walk) ]) (drained_of run.walk (λ no. never (inr no))) in
    let j0 = fixed.shown c.in_ok-finish.field-0 in
    let back = as_back a e j0 (record { sections = back_says.sections; held = back_says.held; settled = back_says.settled; sealed = back_says.sealed; unopened = back_says.unopened; recovered = back_says.recovered; lifted = back_says.lifted }) in
    let b = g.D.Device.time c.cut_records.new.dev in
    let o1 = g.D.Device.opened c.cut_records.new.dev in
    let s1 : told → Stage run 0 (disk a) a b = λ t. records_stage a e readable t j0 back (λ q. g.met.D.Device.as_read t c.args.dev.now q) b (c.cut_records.ensures.moments t) in
    let k = fixed.shown c.in_ok-index.index in
    let cuts = c.in_ok-index.ensures in
    let cut = as_cut a e j0 k o1 b (record { over = cuts.over; proven = cuts.proven; cut = cuts.cut; sizes = cuts.sizes; others = cuts.others; held = cuts.held; unopened = cuts.unopened; settled = cuts.settled; bounds = cuts.bounds; moments = c.cut_records.ensures.moments; entries = c.cut_records.ensures.entries }) in
    let joint1 = cut_joint a (ends_of e j0 back) k o1 b cut (λ t q. g.met.D.Device.as_read t c.cut_records.new.dev q) in
    let d = g.D.Device.time c.cut_values.new.dev in
    let o2 = g.D.Device.opened c.cut_values.new.dev in
    let s2 : told → Stage run 1 (disk a) b d = λ t. values_stage a e readable t b k o1 joint1 (cut_values_same a (ends_of e j0 back) k o1 b cut (λ x q. g.met.D.Device.as_read x c.cut_records.new.dev q) t) d (c.cut_values.ensures.moments t) in
    let r = c.from_residual-in_err-values.result in
    let w = c.in_err-values.field-0.0 in
    let is = err_of r w c.from_residual-in_err-values.ensures.1 in
    let left : told → Left run a d = λ t. left_before run e.over.apart a b d d (s1 t) (s2 t) (no_stage run 2 (disk a) d) in
    let failed = failed_on r w is (g.D.Device.faults c.args.dev.now) (g.D.Device.faults c.cut_records.new.dev) (g.D.Device.faults c.cut_values.new.dev) (omega (arith, c.cut_records.ensures.faults)) c.in_err-values.ensures.cause in
    record {
      over = if_err r w is _;
      kept = λ t. if_err r w is _;
      counts = if_err r w is _;
      settled = if_err r w is _;
      index_settled = if_err r w is _;
      codec_config = if_err r w is _;
      moments = λ t. (left t).moments;
      untouched = λ t. (left t).untouched;
      order = λ t. (left t).order;
      orphans_last = λ t. (left t).orphans_last;
      markers_last = λ t. (left t).markers_last;
      newer_stays = λ t. (left t).newer_stays;
      clean = λ t s is. (left t).clean s is;
      idle = λ t all. (left t).idle all;
      reads = λ s. omega (arith, ap reads_of (cut_reads a e j0 back o1 c.cut_records.ensures.entries s), trim_reads a e o1 o2 c.cut_values.ensures.reads s);
      index_unread = λ s small none. omega (arith, ap reads_of (cut_unread a e j0 back o1 c.cut_records.ensures.entries s small none), ap reads_of (trim_unread a e b k o1 o2 joint1 c.cut_values.ensures.entries s));
      entries = λ q not. trim_entry a e q not b k o1 o2 joint1 c.cut_values.ensures.entries ∙ cut_entry a e q not j0 back o1 c.cut_records.ensures.entries;
      replay_failed = replay_or_not r _ _ _ (failed_replay r (g.D.Device.faults c.args.dev.now) (g.D.Device.faults c.cut_values.new.dev) failed) (λ no. not_both run.tracked e.tracked no) e.unfailed (λ no. no e.drained);
      refused = λ was. absurd (failed_replay r (g.D.Device.faults c.args.dev.now) (g.D.Device.faults c.cut_values.new.dev) failed was);
      full = λ was. absurd (failed_full r (g.D.Device.faults c.args.dev.now) (g.D.Device.faults c.cut_values.new.dev) failed was);
      full_moves = λ t was. absurd (failed_full r (g.D.Device.faults c.args.dev.now) (g.D.Device.faults c.cut_values.new.dev) failed was);
      no_version = λ t large moving. no_ok r w is;
      unspelled = λ t x was. absurd (failed_codec r (g.D.Device.faults c.args.dev.now) (g.D.Device.faults c.cut_values.new.dev) failed x was);
      complete = λ t spelled. failed_complete r (g.D.Device.faults c.args.dev.now) (g.D.Device.faults c.cut_values.new.dev) failed;
      damage = λ t x was. failed_corrupt r (g.D.Device.faults c.args.dev.now) (g.D.Device.faults c.cut_values.new.dev) failed x was;
      damaged = λ t was. failed_damage r (g.D.Device.faults c.args.dev.now) (g.D.Device.faults c.cut_values.new.dev) failed was;
      faults = omega (arith, c.cut_records.ensures.faults, c.cut_values.ensures.faults);
      cause = failed_cause r (g.D.Device.faults c.args.dev.now) (g.D.Device.faults c.cut_values.new.dev) failed;
    }

pub returns-in_err-held_sections : goal.returns-in_err-held_sections
returns-in_err-held_sections g c =
    let run = run_of g.I.Record.place c.args.self in
    let told = g.D.Device.Tells in
    let a = g.D.Device.time c.args.dev.now in
    let o = g.D.Device.opened c.args.dev.now in
    let readable = markers_readable g.S.Seal in
    let back_says = c.in_ok-finish.ensures in
    let never : (run.walk.failed ≡ true) ⊎ (IsDrained run.walk → ⊥) → ⊥ = λ no. no_error c.in_ok-finish.field-0 ReplayFailed (back_says.replay_failed.1 no) in
    let e = drained_from (are_pages g.row.S g.S.Seal g.S.Seal-dict) (run_here g.I.Record.place c.args.self g.met.I.CodecFixed.fixed.at_least) c.requires.over c.if-not-self.false
    (λ is. elim is [ inl here ↦ not_both run.failed here c.if-self.false | inr walk ↦ never (inl walk) ]) (drained_of run.walk (λ no. never (inr no))) in
    let j0 = fixed.shown c.in_ok-finish.field-0 in
    let back = as_back a e j0 (record { sections = back_says.sections; held = back_says.held; settled = back_says.settled; sealed = back_says.sealed; unopened = back_says.unopened; recovered = back_says.recovered; lifted = back_says.lifted }) in
    let b = g.D.Device.time c.cut_records.new.dev in
    let o1 = g.D.Device.opened c.cut_records.new.dev in
    let s1 : told → Stage run 0 (disk a) a b = λ t. records_stage a e readable t j0 back (λ q. g.met.D.Device.as_read t c.args.dev.now q) b (c.cut_records.ensures.moments t) in
    let k = fixed.shown c.in_ok-index.index in
    let cuts = c.in_ok-index.ensures in
    let cut = as_cut a e j0 k o1 b (record { over = cuts.over; proven = cuts.proven; cut = cuts.cut; sizes = cuts.sizes; others = cuts.others; held = cuts.held; unopened = cuts.unopened; settled = cuts.settled; bounds = cuts.bounds; moments = c.cut_records.ensures.moments; entries = c.cut_records.ensures.entries }) in
    let joint1 = cut_joint a (ends_of e j0 back) k o1 b cut (λ t q. g.met.D.Device.as_read t c.cut_records.new.dev q) in
    let d = g.D.Device.time c.cut_values.new.dev in
    let o2 = g.D.Device.opened c.cut_values.new.dev in
    let s2 : told → Stage run 1 (disk a) b d = λ t. values_stage a e readable t b k o1 joint1 (cut_values_same a (ends_of e j0 back) k o1 b cut (λ x q. g.met.D.Device.as_read x c.cut_records.new.dev q) t) d (c.cut_values.ensures.moments t) in
    let m = manager.shown c.in_ok-values.values.manager in
    let trims = c.in_ok-values.ensures in
    let trim = as_trim a e k m o1 o2 b d (record { over = trims.over; values = trims.values; cut = trims.cut; others = trims.others; held = trims.held; unopened = trims.unopened; settled = trims.settled; bounds = trims.bounds; moments = c.cut_values.ensures.moments; entries = c.cut_values.ensures.entries }) in
    let joint2 = trim_joint a (ends_of e j0 back) b k o1 joint1 m o2 d trim (λ t q. g.met.D.Device.as_read t c.cut_values.new.dev q) in
    let r = c.from_residual-in_err-held_sections.result in
    let w = c.in_err-held_sections.field-0.0 in
    let is = err_of r w c.from_residual-in_err-held_sections.ensures.1 in
    let left : told → Left run a d = λ t. left_before run e.over.apart a b d d (s1 t) (s2 t) (no_stage run 2 (disk a) d) in
    let failed = memory_on r w is (g.D.Device.faults c.args.dev.now) (g.D.Device.faults c.args.dev.now) (g.D.Device.faults c.cut_values.new.dev) (omega arith) c.in_err-held_sections.ensures.cause in
    record {
      over = if_err r w is _;
      kept = λ t. if_err r w is _;
      counts = if_err r w is _;
      settled = if_err r w is _;
      index_settled = if_err r w is _;
      codec_config = if_err r w is _;
      moments = λ t. (left t).moments;
      untouched = λ t. (left t).untouched;
      order = λ t. (left t).order;
      orphans_last = λ t. (left t).orphans_last;
      markers_last = λ t. (left t).markers_last;
      newer_stays = λ t. (left t).newer_stays;
      clean = λ t s is. (left t).clean s is;
      idle = λ t all. (left t).idle all;
      reads = λ s. omega (arith, ap reads_of (cut_reads a e j0 back o1 c.cut_records.ensures.entries s), trim_reads a e o1 o2 c.cut_values.ensures.reads s);
      index_unread = λ s small none. omega (arith, ap reads_of (cut_unread a e j0 back o1 c.cut_records.ensures.entries s small none), ap reads_of (trim_unread a e b k o1 o2 joint1 c.cut_values.ensures.entries s));
      entries = λ q not. trim_entry a e q not b k o1 o2 joint1 c.cut_values.ensures.entries ∙ cut_entry a e q not j0 back o1 c.cut_records.ensures.entries;
      replay_failed = replay_or_not r _ _ _ (failed_replay r (g.D.Device.faults c.args.dev.now) (g.D.Device.faults c.cut_values.new.dev) failed) (λ no. not_both run.tracked e.tracked no) e.unfailed (λ no. no e.drained);
      refused = λ was. absurd (failed_replay r (g.D.Device.faults c.args.dev.now) (g.D.Device.faults c.cut_values.new.dev) failed was);
      full = λ was. absurd (failed_full r (g.D.Device.faults c.args.dev.now) (g.D.Device.faults c.cut_values.new.dev) failed was);
      full_moves = λ t was. absurd (failed_full r (g.D.Device.faults c.args.dev.now) (g.D.Device.faults c.cut_values.new.dev) failed was);
      no_version = λ t large moving. no_ok r w is;
      unspelled = λ t x was. absurd (failed_codec r (g.D.Device.faults c.args.dev.now) (g.D.Device.faults c.cut_values.new.dev) failed x was);
      complete = λ t spelled. failed_complete r (g.D.Device.faults c.args.dev.now) (g.D.Device.faults c.cut_values.new.dev) failed;
      damage = λ t x was. failed_corrupt r (g.D.Device.faults c.args.dev.now) (g.D.Device.faults c.cut_values.new.dev) failed x was;
      damaged = λ t was. failed_damage r (g.D.Device.faults c.args.dev.now) (g.D.Device.faults c.cut_values.new.dev) failed was;
      faults = omega (arith, c.cut_records.ensures.faults, c.cut_values.ensures.faults);
      cause = failed_cause r (g.D.Device.faults c.args.dev.now) (g.D.Device.faults c.cut_values.new.dev) failed;
    }

pub returns-in_err-alone : goal.returns-in_err-alone
returns-in_err-alone g c =
    let run = run_of g.I.Record.place c.args.self in
    let told = g.D.Device.Tells in
    let a = g.D.Device.time c.args.dev.now in
    let o = g.D.Device.opened c.args.dev.now in
    let readable = markers_readable g.S.Seal in
    let back_says = c.in_ok-finish.ensures in
    let never : (run.walk.failed ≡ true) ⊎ (IsDrained run.walk → ⊥) → ⊥ = λ no. no_error c.in_ok-finish.field-0 ReplayFailed (back_says.replay_failed.1 no) in
    let e = drained_from (are_pages g.row.S g.S.Seal g.S.Seal-dict) (run_here g.I.Record.place c.args.self g.met.I.CodecFixed.fixed.at_least) c.requires.over c.if-not-self.false
    (λ is. elim is [ inl here ↦ not_both run.failed here c.if-self.false | inr walk ↦ never (inl walk) ]) (drained_of run.walk (λ no. never (inr no))) in
    let j0 = fixed.shown c.in_ok-finish.field-0 in
    let back = as_back a e j0 (record { sections = back_says.sections; held = back_says.held; settled = back_says.settled; sealed = back_says.sealed; unopened = back_says.unopened; recovered = back_says.recovered; lifted = back_says.lifted }) in
    let b = g.D.Device.time c.cut_records.new.dev in
    let o1 = g.D.Device.opened c.cut_records.new.dev in
    let s1 : told → Stage run 0 (disk a) a b = λ t. records_stage a e readable t j0 back (λ q. g.met.D.Device.as_read t c.args.dev.now q) b (c.cut_records.ensures.moments t) in
    let k = fixed.shown c.in_ok-index.index in
    let cuts = c.in_ok-index.ensures in
    let cut = as_cut a e j0 k o1 b (record { over = cuts.over; proven = cuts.proven; cut = cuts.cut; sizes = cuts.sizes; others = cuts.others; held = cuts.held; unopened = cuts.unopened; settled = cuts.settled; bounds = cuts.bounds; moments = c.cut_records.ensures.moments; entries = c.cut_records.ensures.entries }) in
    let joint1 = cut_joint a (ends_of e j0 back) k o1 b cut (λ t q. g.met.D.Device.as_read t c.cut_records.new.dev q) in
    let d = g.D.Device.time c.cut_values.new.dev in
    let o2 = g.D.Device.opened c.cut_values.new.dev in
    let s2 : told → Stage run 1 (disk a) b d = λ t. values_stage a e readable t b k o1 joint1 (cut_values_same a (ends_of e j0 back) k o1 b cut (λ x q. g.met.D.Device.as_read x c.cut_records.new.dev q) t) d (c.cut_values.ensures.moments t) in
    let m = manager.shown c.in_ok-values.values.manager in
    let trims = c.in_ok-values.ensures in
    let trim = as_trim a e k m o1 o2 b d (record { over = trims.over; values = trims.values; cut = trims.cut; others = trims.others; held = trims.held; unopened = trims.unopened; settled = trims.settled; bounds = trims.bounds; moments = c.cut_values.ensures.moments; entries = c.cut_values.ensures.entries }) in
    let joint2 = trim_joint a (ends_of e j0 back) b k o1 joint1 m o2 d trim (λ t q. g.met.D.Device.as_read t c.cut_values.new.dev q) in
    let r = c.from_residual-in_err-alone.result in
    let w = c.in_err-alone.field-0.0 in
    let is = err_of r w c.from_residual-in_err-alone.ensures.1 in
    let left : told → Left run a d = λ t. left_before run e.over.apart a b d d (s1 t) (s2 t) (no_stage run 2 (disk a) d) in
    let failed = memory_on r w is (g.D.Device.faults c.args.dev.now) (g.D.Device.faults c.args.dev.now) (g.D.Device.faults c.cut_values.new.dev) (omega arith) c.in_err-alone.ensures.cause in
    record {
      over = if_err r w is _;
      kept = λ t. if_err r w is _;
      counts = if_err r w is _;
      settled = if_err r w is _;
      index_settled = if_err r w is _;
      codec_config = if_err r w is _;
      moments = λ t. (left t).moments;
      untouched = λ t. (left t).untouched;
      order = λ t. (left t).order;
      orphans_last = λ t. (left t).orphans_last;
      markers_last = λ t. (left t).markers_last;
      newer_stays = λ t. (left t).newer_stays;
      clean = λ t s is. (left t).clean s is;
      idle = λ t all. (left t).idle all;
      reads = λ s. omega (arith, ap reads_of (cut_reads a e j0 back o1 c.cut_records.ensures.entries s), trim_reads a e o1 o2 c.cut_values.ensures.reads s);
      index_unread = λ s small none. omega (arith, ap reads_of (cut_unread a e j0 back o1 c.cut_records.ensures.entries s small none), ap reads_of (trim_unread a e b k o1 o2 joint1 c.cut_values.ensures.entries s));
      entries = λ q not. trim_entry a e q not b k o1 o2 joint1 c.cut_values.ensures.entries ∙ cut_entry a e q not j0 back o1 c.cut_records.ensures.entries;
      replay_failed = replay_or_not r _ _ _ (failed_replay r (g.D.Device.faults c.args.dev.now) (g.D.Device.faults c.cut_values.new.dev) failed) (λ no. not_both run.tracked e.tracked no) e.unfailed (λ no. no e.drained);
      refused = λ was. absurd (failed_replay r (g.D.Device.faults c.args.dev.now) (g.D.Device.faults c.cut_values.new.dev) failed was);
      full = λ was. absurd (failed_full r (g.D.Device.faults c.args.dev.now) (g.D.Device.faults c.cut_values.new.dev) failed was);
      full_moves = λ t was. absurd (failed_full r (g.D.Device.faults c.args.dev.now) (g.D.Device.faults c.cut_values.new.dev) failed was);
      no_version = λ t large moving. no_ok r w is;
      unspelled = λ t x was. absurd (failed_codec r (g.D.Device.faults c.args.dev.now) (g.D.Device.faults c.cut_values.new.dev) failed x was);
      complete = λ t spelled. failed_complete r (g.D.Device.faults c.args.dev.now) (g.D.Device.faults c.cut_values.new.dev) failed;
      damage = λ t x was. failed_corrupt r (g.D.Device.faults c.args.dev.now) (g.D.Device.faults c.cut_values.new.dev) failed x was;
      damaged = λ t was. failed_damage r (g.D.Device.faults c.args.dev.now) (g.D.Device.faults c.cut_values.new.dev) failed was;
      faults = omega (arith, c.cut_records.ensures.faults, c.cut_values.ensures.faults);
      cause = failed_cause r (g.D.Device.faults c.args.dev.now) (g.D.Device.faults c.cut_values.new.dev) failed;
    }

pub returns-in_err-values-2 : goal.returns-in_err-values-2
returns-in_err-values-2 g c =
    let run = run_of g.I.Record.place c.args.self in
    let told = g.D.Device.Tells in
    let a = g.D.Device.time c.args.dev.now in
    let o = g.D.Device.opened c.args.dev.now in
    let readable = markers_readable g.S.Seal in
    let back_says = c.in_ok-finish.ensures in
    let never : (run.walk.failed ≡ true) ⊎ (IsDrained run.walk → ⊥) → ⊥ = λ no. no_error c.in_ok-finish.field-0 ReplayFailed (back_says.replay_failed.1 no) in
    let e = drained_from (are_pages g.row.S g.S.Seal g.S.Seal-dict) (run_here g.I.Record.place c.args.self g.met.I.CodecFixed.fixed.at_least) c.requires.over c.if-not-self.false
    (λ is. elim is [ inl here ↦ not_both run.failed here c.if-self.false | inr walk ↦ never (inl walk) ]) (drained_of run.walk (λ no. never (inr no))) in
    let j0 = fixed.shown c.in_ok-finish.field-0 in
    let back = as_back a e j0 (record { sections = back_says.sections; held = back_says.held; settled = back_says.settled; sealed = back_says.sealed; unopened = back_says.unopened; recovered = back_says.recovered; lifted = back_says.lifted }) in
    let b = g.D.Device.time c.cut_records.new.dev in
    let o1 = g.D.Device.opened c.cut_records.new.dev in
    let s1 : told → Stage run 0 (disk a) a b = λ t. records_stage a e readable t j0 back (λ q. g.met.D.Device.as_read t c.args.dev.now q) b (c.cut_records.ensures.moments t) in
    let k = fixed.shown c.in_ok-index.index in
    let cuts = c.in_ok-index.ensures in
    let cut = as_cut a e j0 k o1 b (record { over = cuts.over; proven = cuts.proven; cut = cuts.cut; sizes = cuts.sizes; others = cuts.others; held = cuts.held; unopened = cuts.unopened; settled = cuts.settled; bounds = cuts.bounds; moments = c.cut_records.ensures.moments; entries = c.cut_records.ensures.entries }) in
    let joint1 = cut_joint a (ends_of e j0 back) k o1 b cut (λ t q. g.met.D.Device.as_read t c.cut_records.new.dev q) in
    let d = g.D.Device.time c.cut_values.new.dev in
    let o2 = g.D.Device.opened c.cut_values.new.dev in
    let s2 : told → Stage run 1 (disk a) b d = λ t. values_stage a e readable t b k o1 joint1 (cut_values_same a (ends_of e j0 back) k o1 b cut (λ x q. g.met.D.Device.as_read x c.cut_records.new.dev q) t) d (c.cut_values.ensures.moments t) in
    let m = manager.shown c.in_ok-values.values.manager in
    let trims = c.in_ok-values.ensures in
    let trim = as_trim a e k m o1 o2 b d (record { over = trims.over; values = trims.values; cut = trims.cut; others = trims.others; held = trims.held; unopened = trims.unopened; settled = trims.settled; bounds = trims.bounds; moments = c.cut_values.ensures.moments; entries = c.cut_values.ensures.entries }) in
    let joint2 = trim_joint a (ends_of e j0 back) b k o1 joint1 m o2 d trim (λ t q. g.met.D.Device.as_read t c.cut_values.new.dev q) in
    let doom = Contains c.as_slice.result.now in
    let decides = contains_or_not c.as_slice.result.now in
    let doomed = doomed_of m k (λ s. set.contains nat_cmp c.in_ok-held_sections.field-0 s) c.in_ok-held_sections.ensures.each doom (subst (λ xs. (s : ℕ) → Contains xs s ↔ (IsHeld m s × (set.contains nat_cmp c.in_ok-held_sections.field-0 s ≡ false))) (sym c.as_slice.ensures.value) c.in_ok-alone.ensures.each) in
    let f = g.D.Device.time c.remove_values.new.dev in
    let o3 = g.D.Device.opened c.remove_values.new.dev in
    let s3 : told → Stage run 2 (disk a) d f = λ t. removing_stage a e readable t d k m o2 joint2 trims.held doom (λ s is. ((doomed s).0 is).1) f (c.remove_values.ensures.moments t) in
    let r = c.from_residual-in_err-values-2.result in
    let w = c.in_err-values-2.field-0.0 in
    let is = err_of r w c.from_residual-in_err-values-2.ensures.1 in
    let left : told → Left run a f = λ t. left_before run e.over.apart a b d f (s1 t) (s2 t) (s3 t) in
    let failed = failed_on r w is (g.D.Device.faults c.args.dev.now) (g.D.Device.faults c.cut_values.new.dev) (g.D.Device.faults c.remove_values.new.dev) (omega (arith, c.cut_records.ensures.faults, c.cut_values.ensures.faults)) c.in_err-values-2.ensures.cause in
    record {
      over = if_err r w is _;
      kept = λ t. if_err r w is _;
      counts = if_err r w is _;
      settled = if_err r w is _;
      index_settled = if_err r w is _;
      codec_config = if_err r w is _;
      moments = λ t. (left t).moments;
      untouched = λ t. (left t).untouched;
      order = λ t. (left t).order;
      orphans_last = λ t. (left t).orphans_last;
      markers_last = λ t. (left t).markers_last;
      newer_stays = λ t. (left t).newer_stays;
      clean = λ t s is. (left t).clean s is;
      idle = λ t all. (left t).idle all;
      reads = λ s. omega (arith, ap reads_of (cut_reads a e j0 back o1 c.cut_records.ensures.entries s), trim_reads a e o1 o2 c.cut_values.ensures.reads s, leaves_reads _ o2 o3 c.remove_values.ensures.entries (section_key run.layout.values s));
      index_unread = λ s small none. omega (arith, ap reads_of (cut_unread a e j0 back o1 c.cut_records.ensures.entries s small none), ap reads_of (trim_unread a e b k o1 o2 joint1 c.cut_values.ensures.entries s), leaves_reads _ o2 o3 c.remove_values.ensures.entries (section_key run.layout.index s));
      entries = λ q not. removed_entry a e q not d k m o2 o3 joint2 doom (λ s is. ((doomed s).0 is).0) c.remove_values.ensures.entries ∙ trim_entry a e q not b k o1 o2 joint1 c.cut_values.ensures.entries ∙ cut_entry a e q not j0 back o1 c.cut_records.ensures.entries;
      replay_failed = replay_or_not r _ _ _ (failed_replay r (g.D.Device.faults c.args.dev.now) (g.D.Device.faults c.remove_values.new.dev) failed) (λ no. not_both run.tracked e.tracked no) e.unfailed (λ no. no e.drained);
      refused = λ was. absurd (failed_replay r (g.D.Device.faults c.args.dev.now) (g.D.Device.faults c.remove_values.new.dev) failed was);
      full = λ was. absurd (failed_full r (g.D.Device.faults c.args.dev.now) (g.D.Device.faults c.remove_values.new.dev) failed was);
      full_moves = λ t was. absurd (failed_full r (g.D.Device.faults c.args.dev.now) (g.D.Device.faults c.remove_values.new.dev) failed was);
      no_version = λ t large moving. no_ok r w is;
      unspelled = λ t x was. absurd (failed_codec r (g.D.Device.faults c.args.dev.now) (g.D.Device.faults c.remove_values.new.dev) failed x was);
      complete = λ t spelled. failed_complete r (g.D.Device.faults c.args.dev.now) (g.D.Device.faults c.remove_values.new.dev) failed;
      damage = λ t x was. failed_corrupt r (g.D.Device.faults c.args.dev.now) (g.D.Device.faults c.remove_values.new.dev) failed x was;
      damaged = λ t was. failed_damage r (g.D.Device.faults c.args.dev.now) (g.D.Device.faults c.remove_values.new.dev) failed was;
      faults = omega (arith, c.cut_records.ensures.faults, c.cut_values.ensures.faults, c.remove_values.ensures.faults);
      cause = failed_cause r (g.D.Device.faults c.args.dev.now) (g.D.Device.faults c.remove_values.new.dev) failed;
    }

pub returns-in_err-held : goal.returns-in_err-held
returns-in_err-held g c =
    let run = run_of g.I.Record.place c.args.self in
    let told = g.D.Device.Tells in
    let a = g.D.Device.time c.args.dev.now in
    let o = g.D.Device.opened c.args.dev.now in
    let readable = markers_readable g.S.Seal in
    let back_says = c.in_ok-finish.ensures in
    let never : (run.walk.failed ≡ true) ⊎ (IsDrained run.walk → ⊥) → ⊥ = λ no. no_error c.in_ok-finish.field-0 ReplayFailed (back_says.replay_failed.1 no) in
    let e = drained_from (are_pages g.row.S g.S.Seal g.S.Seal-dict) (run_here g.I.Record.place c.args.self g.met.I.CodecFixed.fixed.at_least) c.requires.over c.if-not-self.false
    (λ is. elim is [ inl here ↦ not_both run.failed here c.if-self.false | inr walk ↦ never (inl walk) ]) (drained_of run.walk (λ no. never (inr no))) in
    let j0 = fixed.shown c.in_ok-finish.field-0 in
    let back = as_back a e j0 (record { sections = back_says.sections; held = back_says.held; settled = back_says.settled; sealed = back_says.sealed; unopened = back_says.unopened; recovered = back_says.recovered; lifted = back_says.lifted }) in
    let b = g.D.Device.time c.cut_records.new.dev in
    let o1 = g.D.Device.opened c.cut_records.new.dev in
    let s1 : told → Stage run 0 (disk a) a b = λ t. records_stage a e readable t j0 back (λ q. g.met.D.Device.as_read t c.args.dev.now q) b (c.cut_records.ensures.moments t) in
    let k = fixed.shown c.in_ok-index.index in
    let cuts = c.in_ok-index.ensures in
    let cut = as_cut a e j0 k o1 b (record { over = cuts.over; proven = cuts.proven; cut = cuts.cut; sizes = cuts.sizes; others = cuts.others; held = cuts.held; unopened = cuts.unopened; settled = cuts.settled; bounds = cuts.bounds; moments = c.cut_records.ensures.moments; entries = c.cut_records.ensures.entries }) in
    let joint1 = cut_joint a (ends_of e j0 back) k o1 b cut (λ t q. g.met.D.Device.as_read t c.cut_records.new.dev q) in
    let d = g.D.Device.time c.cut_values.new.dev in
    let o2 = g.D.Device.opened c.cut_values.new.dev in
    let s2 : told → Stage run 1 (disk a) b d = λ t. values_stage a e readable t b k o1 joint1 (cut_values_same a (ends_of e j0 back) k o1 b cut (λ x q. g.met.D.Device.as_read x c.cut_records.new.dev q) t) d (c.cut_values.ensures.moments t) in
    let m = manager.shown c.in_ok-values.values.manager in
    let trims = c.in_ok-values.ensures in
    let trim = as_trim a e k m o1 o2 b d (record { over = trims.over; values = trims.values; cut = trims.cut; others = trims.others; held = trims.held; unopened = trims.unopened; settled = trims.settled; bounds = trims.bounds; moments = c.cut_values.ensures.moments; entries = c.cut_values.ensures.entries }) in
    let joint2 = trim_joint a (ends_of e j0 back) b k o1 joint1 m o2 d trim (λ t q. g.met.D.Device.as_read t c.cut_values.new.dev q) in
    let doom = Contains c.as_slice.result.now in
    let decides = contains_or_not c.as_slice.result.now in
    let doomed = doomed_of m k (λ s. set.contains nat_cmp c.in_ok-held_sections.field-0 s) c.in_ok-held_sections.ensures.each doom (subst (λ xs. (s : ℕ) → Contains xs s ↔ (IsHeld m s × (set.contains nat_cmp c.in_ok-held_sections.field-0 s ≡ false))) (sym c.as_slice.ensures.value) c.in_ok-alone.ensures.each) in
    let f = g.D.Device.time c.remove_values.new.dev in
    let o3 = g.D.Device.opened c.remove_values.new.dev in
    let s3 : told → Stage run 2 (disk a) d f = λ t. removing_stage a e readable t d k m o2 joint2 trims.held doom (λ s is. ((doomed s).0 is).1) f (c.remove_values.ensures.moments t) in
    let n = manager.shown c.in_ok-values-2.values.manager in
    let gone = c.in_ok-values-2.ensures in
    let removed = as_removed a e doom m n o2 o3 d f (record { values = gone.over; removed = gone.removed; others = gone.others; bytes = gone.bytes; unopened = gone.unopened; bounds = gone.bounds; gone = gone.gone; moments = c.remove_values.ensures.moments; entries = c.remove_values.ensures.entries }) in
    let joint3 = removed_joint a (ends_of e j0 back) d k m o2 joint2 doom decides doomed n o3 f removed (λ t q. g.met.D.Device.as_read t c.remove_values.new.dev q) in
    let did = reconciled_of a e j0 back k o1 b cut joint1 m o2 d trim joint2 doom decides doomed n o3 f removed joint3 in
    let r = c.from_residual-in_err-held.result in
    let w = c.in_err-held.field-0.0 in
    let is = err_of r w c.from_residual-in_err-held.ensures.1 in
    let left : told → Left run a f = λ t. left_before run e.over.apart a b d f (s1 t) (s2 t) (s3 t) in
    let failed = memory_on r w is (g.D.Device.faults c.args.dev.now) (g.D.Device.faults c.args.dev.now) (g.D.Device.faults c.remove_values.new.dev) (omega arith) c.in_err-held.ensures.cause in
    record {
      over = if_err r w is _;
      kept = λ t. if_err r w is _;
      counts = if_err r w is _;
      settled = if_err r w is _;
      index_settled = if_err r w is _;
      codec_config = if_err r w is _;
      moments = λ t. (left t).moments;
      untouched = λ t. (left t).untouched;
      order = λ t. (left t).order;
      orphans_last = λ t. (left t).orphans_last;
      markers_last = λ t. (left t).markers_last;
      newer_stays = λ t. (left t).newer_stays;
      clean = λ t s is. (left t).clean s is;
      idle = λ t all. (left t).idle all;
      reads = λ s. omega (arith, ap reads_of (cut_reads a e j0 back o1 c.cut_records.ensures.entries s), trim_reads a e o1 o2 c.cut_values.ensures.reads s, leaves_reads _ o2 o3 c.remove_values.ensures.entries (section_key run.layout.values s));
      index_unread = λ s small none. omega (arith, ap reads_of (cut_unread a e j0 back o1 c.cut_records.ensures.entries s small none), ap reads_of (trim_unread a e b k o1 o2 joint1 c.cut_values.ensures.entries s), leaves_reads _ o2 o3 c.remove_values.ensures.entries (section_key run.layout.index s));
      entries = λ q not. removed_entry a e q not d k m o2 o3 joint2 doom (λ s is. ((doomed s).0 is).0) c.remove_values.ensures.entries ∙ trim_entry a e q not b k o1 o2 joint1 c.cut_values.ensures.entries ∙ cut_entry a e q not j0 back o1 c.cut_records.ensures.entries;
      replay_failed = replay_or_not r _ _ _ (failed_replay r (g.D.Device.faults c.args.dev.now) (g.D.Device.faults c.remove_values.new.dev) failed) (λ no. not_both run.tracked e.tracked no) e.unfailed (λ no. no e.drained);
      refused = λ was. absurd (failed_replay r (g.D.Device.faults c.args.dev.now) (g.D.Device.faults c.remove_values.new.dev) failed was);
      full = λ was. absurd (failed_full r (g.D.Device.faults c.args.dev.now) (g.D.Device.faults c.remove_values.new.dev) failed was);
      full_moves = λ t was. absurd (failed_full r (g.D.Device.faults c.args.dev.now) (g.D.Device.faults c.remove_values.new.dev) failed was);
      no_version = λ t large moving. no_ok r w is;
      unspelled = λ t x was. absurd (failed_codec r (g.D.Device.faults c.args.dev.now) (g.D.Device.faults c.remove_values.new.dev) failed x was);
      complete = λ t spelled. failed_complete r (g.D.Device.faults c.args.dev.now) (g.D.Device.faults c.remove_values.new.dev) failed;
      damage = λ t x was. failed_corrupt r (g.D.Device.faults c.args.dev.now) (g.D.Device.faults c.remove_values.new.dev) failed x was;
      damaged = λ t was. failed_damage r (g.D.Device.faults c.args.dev.now) (g.D.Device.faults c.remove_values.new.dev) failed was;
      faults = omega (arith, c.cut_records.ensures.faults, c.cut_values.ensures.faults, c.remove_values.ensures.faults);
      cause = failed_cause r (g.D.Device.faults c.args.dev.now) (g.D.Device.faults c.remove_values.new.dev) failed;
    }

pub returns-in_err-note_synced : goal.returns-in_err-note_synced
returns-in_err-note_synced g c =
    let run = run_of g.I.Record.place c.args.self in
    let told = g.D.Device.Tells in
    let a = g.D.Device.time c.args.dev.now in
    let o = g.D.Device.opened c.args.dev.now in
    let readable = markers_readable g.S.Seal in
    let back_says = c.in_ok-finish.ensures in
    let never : (run.walk.failed ≡ true) ⊎ (IsDrained run.walk → ⊥) → ⊥ = λ no. no_error c.in_ok-finish.field-0 ReplayFailed (back_says.replay_failed.1 no) in
    let e = drained_from (are_pages g.row.S g.S.Seal g.S.Seal-dict) (run_here g.I.Record.place c.args.self g.met.I.CodecFixed.fixed.at_least) c.requires.over c.if-not-self.false
    (λ is. elim is [ inl here ↦ not_both run.failed here c.if-self.false | inr walk ↦ never (inl walk) ]) (drained_of run.walk (λ no. never (inr no))) in
    let j0 = fixed.shown c.in_ok-finish.field-0 in
    let back = as_back a e j0 (record { sections = back_says.sections; held = back_says.held; settled = back_says.settled; sealed = back_says.sealed; unopened = back_says.unopened; recovered = back_says.recovered; lifted = back_says.lifted }) in
    let b = g.D.Device.time c.cut_records.new.dev in
    let o1 = g.D.Device.opened c.cut_records.new.dev in
    let s1 : told → Stage run 0 (disk a) a b = λ t. records_stage a e readable t j0 back (λ q. g.met.D.Device.as_read t c.args.dev.now q) b (c.cut_records.ensures.moments t) in
    let k = fixed.shown c.in_ok-index.index in
    let cuts = c.in_ok-index.ensures in
    let cut = as_cut a e j0 k o1 b (record { over = cuts.over; proven = cuts.proven; cut = cuts.cut; sizes = cuts.sizes; others = cuts.others; held = cuts.held; unopened = cuts.unopened; settled = cuts.settled; bounds = cuts.bounds; moments = c.cut_records.ensures.moments; entries = c.cut_records.ensures.entries }) in
    let joint1 = cut_joint a (ends_of e j0 back) k o1 b cut (λ t q. g.met.D.Device.as_read t c.cut_records.new.dev q) in
    let d = g.D.Device.time c.cut_values.new.dev in
    let o2 = g.D.Device.opened c.cut_values.new.dev in
    let s2 : told → Stage run 1 (disk a) b d = λ t. values_stage a e readable t b k o1 joint1 (cut_values_same a (ends_of e j0 back) k o1 b cut (λ x q. g.met.D.Device.as_read x c.cut_records.new.dev q) t) d (c.cut_values.ensures.moments t) in
    let m = manager.shown c.in_ok-values.values.manager in
    let trims = c.in_ok-values.ensures in
    let trim = as_trim a e k m o1 o2 b d (record { over = trims.over; values = trims.values; cut = trims.cut; others = trims.others; held = trims.held; unopened = trims.unopened; settled = trims.settled; bounds = trims.bounds; moments = c.cut_values.ensures.moments; entries = c.cut_values.ensures.entries }) in
    let joint2 = trim_joint a (ends_of e j0 back) b k o1 joint1 m o2 d trim (λ t q. g.met.D.Device.as_read t c.cut_values.new.dev q) in
    let doom = Contains c.as_slice.result.now in
    let decides = contains_or_not c.as_slice.result.now in
    let doomed = doomed_of m k (λ s. set.contains nat_cmp c.in_ok-held_sections.field-0 s) c.in_ok-held_sections.ensures.each doom (subst (λ xs. (s : ℕ) → Contains xs s ↔ (IsHeld m s × (set.contains nat_cmp c.in_ok-held_sections.field-0 s ≡ false))) (sym c.as_slice.ensures.value) c.in_ok-alone.ensures.each) in
    let f = g.D.Device.time c.remove_values.new.dev in
    let o3 = g.D.Device.opened c.remove_values.new.dev in
    let s3 : told → Stage run 2 (disk a) d f = λ t. removing_stage a e readable t d k m o2 joint2 trims.held doom (λ s is. ((doomed s).0 is).1) f (c.remove_values.ensures.moments t) in
    let n = manager.shown c.in_ok-values-2.values.manager in
    let gone = c.in_ok-values-2.ensures in
    let removed = as_removed a e doom m n o2 o3 d f (record { values = gone.over; removed = gone.removed; others = gone.others; bytes = gone.bytes; unopened = gone.unopened; bounds = gone.bounds; gone = gone.gone; moments = c.remove_values.ensures.moments; entries = c.remove_values.ensures.entries }) in
    let joint3 = removed_joint a (ends_of e j0 back) d k m o2 joint2 doom decides doomed n o3 f removed (λ t q. g.met.D.Device.as_read t c.remove_values.new.dev q) in
    let did = reconciled_of a e j0 back k o1 b cut joint1 m o2 d trim joint2 doom decides doomed n o3 f removed joint3 in
    let r = c.from_residual-in_err-note_synced.result in
    let w = c.in_err-note_synced.field-0.0 in
    let is = err_of r w c.from_residual-in_err-note_synced.ensures.1 in
    let left : told → Left run a f = λ t. left_before run e.over.apart a b d f (s1 t) (s2 t) (s3 t) in
    let failed = memory_on r w is (g.D.Device.faults c.args.dev.now) (g.D.Device.faults c.args.dev.now) (g.D.Device.faults c.remove_values.new.dev) (omega arith) c.in_err-note_synced.ensures.cause in
    record {
      over = if_err r w is _;
      kept = λ t. if_err r w is _;
      counts = if_err r w is _;
      settled = if_err r w is _;
      index_settled = if_err r w is _;
      codec_config = if_err r w is _;
      moments = λ t. (left t).moments;
      untouched = λ t. (left t).untouched;
      order = λ t. (left t).order;
      orphans_last = λ t. (left t).orphans_last;
      markers_last = λ t. (left t).markers_last;
      newer_stays = λ t. (left t).newer_stays;
      clean = λ t s is. (left t).clean s is;
      idle = λ t all. (left t).idle all;
      reads = λ s. omega (arith, ap reads_of (cut_reads a e j0 back o1 c.cut_records.ensures.entries s), trim_reads a e o1 o2 c.cut_values.ensures.reads s, leaves_reads _ o2 o3 c.remove_values.ensures.entries (section_key run.layout.values s));
      index_unread = λ s small none. omega (arith, ap reads_of (cut_unread a e j0 back o1 c.cut_records.ensures.entries s small none), ap reads_of (trim_unread a e b k o1 o2 joint1 c.cut_values.ensures.entries s), leaves_reads _ o2 o3 c.remove_values.ensures.entries (section_key run.layout.index s));
      entries = λ q not. removed_entry a e q not d k m o2 o3 joint2 doom (λ s is. ((doomed s).0 is).0) c.remove_values.ensures.entries ∙ trim_entry a e q not b k o1 o2 joint1 c.cut_values.ensures.entries ∙ cut_entry a e q not j0 back o1 c.cut_records.ensures.entries;
      replay_failed = replay_or_not r _ _ _ (failed_replay r (g.D.Device.faults c.args.dev.now) (g.D.Device.faults c.remove_values.new.dev) failed) (λ no. not_both run.tracked e.tracked no) e.unfailed (λ no. no e.drained);
      refused = λ was. absurd (failed_replay r (g.D.Device.faults c.args.dev.now) (g.D.Device.faults c.remove_values.new.dev) failed was);
      full = λ was. absurd (failed_full r (g.D.Device.faults c.args.dev.now) (g.D.Device.faults c.remove_values.new.dev) failed was);
      full_moves = λ t was. absurd (failed_full r (g.D.Device.faults c.args.dev.now) (g.D.Device.faults c.remove_values.new.dev) failed was);
      no_version = λ t large moving. no_ok r w is;
      unspelled = λ t x was. absurd (failed_codec r (g.D.Device.faults c.args.dev.now) (g.D.Device.faults c.remove_values.new.dev) failed x was);
      complete = λ t spelled. failed_complete r (g.D.Device.faults c.args.dev.now) (g.D.Device.faults c.remove_values.new.dev) failed;
      damage = λ t x was. failed_corrupt r (g.D.Device.faults c.args.dev.now) (g.D.Device.faults c.remove_values.new.dev) failed x was;
      damaged = λ t was. failed_damage r (g.D.Device.faults c.args.dev.now) (g.D.Device.faults c.remove_values.new.dev) failed was;
      faults = omega (arith, c.cut_records.ensures.faults, c.cut_values.ensures.faults, c.remove_values.ensures.faults);
      cause = failed_cause r (g.D.Device.faults c.args.dev.now) (g.D.Device.faults c.remove_values.new.dev) failed;
    }

pub returns : goal.returns
returns g c =
    let run = run_of g.I.Record.place c.args.self in
    let told = g.D.Device.Tells in
    let a = g.D.Device.time c.args.dev.now in
    let o = g.D.Device.opened c.args.dev.now in
    let readable = markers_readable g.S.Seal in
    let back_says = c.in_ok-finish.ensures in
    let never : (run.walk.failed ≡ true) ⊎ (IsDrained run.walk → ⊥) → ⊥ = λ no. no_error c.in_ok-finish.field-0 ReplayFailed (back_says.replay_failed.1 no) in
    let e = drained_from (are_pages g.row.S g.S.Seal g.S.Seal-dict) (run_here g.I.Record.place c.args.self g.met.I.CodecFixed.fixed.at_least) c.requires.over c.if-not-self.false
    (λ is. elim is [ inl here ↦ not_both run.failed here c.if-self.false | inr walk ↦ never (inl walk) ]) (drained_of run.walk (λ no. never (inr no))) in
    let j0 = fixed.shown c.in_ok-finish.field-0 in
    let back = as_back a e j0 (record { sections = back_says.sections; held = back_says.held; settled = back_says.settled; sealed = back_says.sealed; unopened = back_says.unopened; recovered = back_says.recovered; lifted = back_says.lifted }) in
    let b = g.D.Device.time c.cut_records.new.dev in
    let o1 = g.D.Device.opened c.cut_records.new.dev in
    let s1 : told → Stage run 0 (disk a) a b = λ t. records_stage a e readable t j0 back (λ q. g.met.D.Device.as_read t c.args.dev.now q) b (c.cut_records.ensures.moments t) in
    let k = fixed.shown c.in_ok-index.index in
    let cuts = c.in_ok-index.ensures in
    let cut = as_cut a e j0 k o1 b (record { over = cuts.over; proven = cuts.proven; cut = cuts.cut; sizes = cuts.sizes; others = cuts.others; held = cuts.held; unopened = cuts.unopened; settled = cuts.settled; bounds = cuts.bounds; moments = c.cut_records.ensures.moments; entries = c.cut_records.ensures.entries }) in
    let joint1 = cut_joint a (ends_of e j0 back) k o1 b cut (λ t q. g.met.D.Device.as_read t c.cut_records.new.dev q) in
    let d = g.D.Device.time c.cut_values.new.dev in
    let o2 = g.D.Device.opened c.cut_values.new.dev in
    let s2 : told → Stage run 1 (disk a) b d = λ t. values_stage a e readable t b k o1 joint1 (cut_values_same a (ends_of e j0 back) k o1 b cut (λ x q. g.met.D.Device.as_read x c.cut_records.new.dev q) t) d (c.cut_values.ensures.moments t) in
    let m = manager.shown c.in_ok-values.values.manager in
    let trims = c.in_ok-values.ensures in
    let trim = as_trim a e k m o1 o2 b d (record { over = trims.over; values = trims.values; cut = trims.cut; others = trims.others; held = trims.held; unopened = trims.unopened; settled = trims.settled; bounds = trims.bounds; moments = c.cut_values.ensures.moments; entries = c.cut_values.ensures.entries }) in
    let joint2 = trim_joint a (ends_of e j0 back) b k o1 joint1 m o2 d trim (λ t q. g.met.D.Device.as_read t c.cut_values.new.dev q) in
    let doom = Contains c.as_slice.result.now in
    let decides = contains_or_not c.as_slice.result.now in
    let doomed = doomed_of m k (λ s. set.contains nat_cmp c.in_ok-held_sections.field-0 s) c.in_ok-held_sections.ensures.each doom (subst (λ xs. (s : ℕ) → Contains xs s ↔ (IsHeld m s × (set.contains nat_cmp c.in_ok-held_sections.field-0 s ≡ false))) (sym c.as_slice.ensures.value) c.in_ok-alone.ensures.each) in
    let f = g.D.Device.time c.remove_values.new.dev in
    let o3 = g.D.Device.opened c.remove_values.new.dev in
    let s3 : told → Stage run 2 (disk a) d f = λ t. removing_stage a e readable t d k m o2 joint2 trims.held doom (λ s is. ((doomed s).0 is).1) f (c.remove_values.ensures.moments t) in
    let n = manager.shown c.in_ok-values-2.values.manager in
    let gone = c.in_ok-values-2.ensures in
    let removed = as_removed a e doom m n o2 o3 d f (record { values = gone.over; removed = gone.removed; others = gone.others; bytes = gone.bytes; unopened = gone.unopened; bounds = gone.bounds; gone = gone.gone; moments = c.remove_values.ensures.moments; entries = c.remove_values.ensures.entries }) in
    let joint3 = removed_joint a (ends_of e j0 back) d k m o2 joint2 doom decides doomed n o3 f removed (λ t q. g.met.D.Device.as_read t c.remove_values.new.dev q) in
    let did = reconciled_of a e j0 back k o1 b cut joint1 m o2 d trim joint2 doom decides doomed n o3 f removed joint3 in
    let after = tracked.shown c.note_synced.new.tracking in
    let notes = notes_of run k after (Contains c.as_slice-2.result.now) (subst (λ xs. (s : ℕ) → Contains xs s ↔ IsHeld k.sections s) (sym c.as_slice-2.ensures.value) c.in_ok-held.ensures.each) c.note_synced.ensures.store c.in_ok-note_synced.ensures.trails c.in_ok-note_synced.ensures.named c.in_ok-note_synced.ensures.others (opening e).trailing in
    let q = made (pair_of run) k n after.trailing k.sections.partition n.partition after.store.partition k.sections.factory.pages.page_size after.store in
    let same : pair_with run k n after.trailing ≡ q = noted_same page_setting run k n after.store after.trailing after.store.partition k.sections.factory.pages.page_size joint3.rests.parts.index_here joint3.rests.parts.values_here (ap (λ u. u.partition) c.note_synced.ensures.store) joint3.rests.parts.page_size c.note_synced.ensures.store in
    let h = g.D.Device.time c.move_markers.new.dev in
    let r = c.move_markers.result in
    let says = c.move_markers.ensures in
    let active = Contains c.as_slice-3.result.now in
    let none : (s : ℕ) → active s → ⊥ = λ s is. absurd (omega (arith, is.1, ap length c.as_slice-3.ensures)) in
    let moves = moves_given a e k n o3 f did after.trailing notes q same active none in
    let still : (((s : ℕ) × IsMoving q (λ _. ⊥) active s) → ⊥) → Unchanged f h = λ never. subst (λ dev. Always f (g.D.Device.time dev) (λ x. x ≡ disk f)) (sym (says.still never).0) (always_start f (λ x. x ≡ disk f) refl) in
    let left : told → Left run a h = λ t. left_of run e.over.apart a b d f h (s1 t) (s2 t) (s3 t)
    (stage_as a e k n o3 f did after.trailing notes q same active none t j0 back readable h (says.alone t) (says.moments t) still) (newer_as a e k n o3 f did after.trailing notes q same active none t j0 back readable h (says.newer_stays t)) in
    record {
      over = says.over;
      kept = λ t. kept_result a e k n o3 f did after.trailing notes q same active none t j0 back readable h r (λ v. shown g.I.Record.place v) (λ v. refl) (always_now f h (λ x. (y : _) → (IsCopy q.layout y → ⊥) → x y ≡ disk f y) (says.alone t)) says.index says.values (says.lists t) (says.sound t);
      counts = counts_result a e k n o3 f did after.trailing notes q same active none r (λ v. shown g.I.Record.place v) (λ v. refl) says.index says.values says.layout says.synced says.markers says.marked (λ never. (says.still never).1) says.marker_floor;
      settled = settled_result a e k n o3 f did after.trailing notes q same active none r (λ v. shown g.I.Record.place v) says.values;
      index_settled = index_result a e k n o3 f did after.trailing notes q same active none r (λ v. shown g.I.Record.place v) says.index;
      codec_config = map_ok r _ _ (λ v same_config. same_config ∙ gone.codec_config ∙ trims.codec_config) says.codec_config;
      moments = λ t. (left t).moments;
      untouched = λ t. (left t).untouched;
      order = λ t. (left t).order;
      orphans_last = λ t. (left t).orphans_last;
      markers_last = λ t. (left t).markers_last;
      newer_stays = λ t. (left t).newer_stays;
      clean = λ t s is. (left t).clean s is;
      idle = λ t all. (left t).idle all;
      reads = λ s. omega (arith, ap reads_of (says.entries (section_key run.layout.values s) (λ copy. e.over.apart.both (ap (λ k. k.0) (subst (λ p. IsCopy p.layout (section_key run.layout.values s)) (sym same) copy).1))), ap reads_of (cut_reads a e j0 back o1 c.cut_records.ensures.entries s), trim_reads a e o1 o2 c.cut_values.ensures.reads s, leaves_reads _ o2 o3 c.remove_values.ensures.entries (section_key run.layout.values s));
      index_unread = λ s small none. omega (arith, ap reads_of (says.entries (section_key run.layout.index s) (λ copy. e.over.apart.metadata (ap (λ k. k.0) (subst (λ p. IsCopy p.layout (section_key run.layout.index s)) (sym same) copy).1))), ap reads_of (cut_unread a e j0 back o1 c.cut_records.ensures.entries s small none), ap reads_of (trim_unread a e b k o1 o2 joint1 c.cut_values.ensures.entries s), leaves_reads _ o2 o3 c.remove_values.ensures.entries (section_key run.layout.index s));
      entries = λ q' not. says.entries q' (λ copy. not (inr (inr (subst (λ p. IsCopy p.layout q') (sym same) copy)))) ∙ removed_entry a e q' not d k m o2 o3 joint2 doom (λ s is. ((doomed s).0 is).0) c.remove_values.ensures.entries ∙ trim_entry a e q' not b k o1 o2 joint1 c.cut_values.ensures.entries ∙ cut_entry a e q' not j0 back o1 c.cut_records.ensures.entries;
      replay_failed = replay_or_not r _ _ _ (λ was. marked_no_replay r _ _ says.cause was) (λ no. not_both run.tracked e.tracked no) e.unfailed (λ no. no e.drained);
      refused = λ was. absurd (marked_no_replay r _ _ says.cause was);
      full = λ was. omega (arith, (says.full was).0, ap (λ u. u.version) c.note_synced.ensures.store);
      full_moves = λ t was. (let moved = (says.full was).1 in (moved.0, moves t moved.0 moved.1));
      no_version = λ t large moved. says.no_version (omega (arith, large, ap (λ u. u.version) c.note_synced.ensures.store)) (moved.0, given_moves a e k n o3 f did after.trailing notes q same active none t moved.0 moved.1);
      unspelled = λ t x was. absurd (marked_no_codec r _ _ x says.cause was);
      complete = λ t spelled. marks_complete r (g.D.Device.faults c.args.dev.now) (g.D.Device.faults c.remove_values.new.dev) (g.D.Device.faults c.move_markers.new.dev) (omega (arith, c.cut_records.ensures.faults, c.cut_values.ensures.faults, c.remove_values.ensures.faults)) says.cause;
      damage = λ t x was. marked_no_corrupt r _ _ x says.cause was;
      damaged = λ t was. marked_no_damage r _ _ says.cause was;
      faults = omega (arith, says.faults, c.cut_records.ensures.faults, c.cut_values.ensures.faults, c.remove_values.ensures.faults);
      cause = marks_cause r (g.D.Device.faults c.args.dev.now) (g.D.Device.faults c.remove_values.new.dev) (g.D.Device.faults c.move_markers.new.dev) (omega (arith, c.cut_records.ensures.faults, c.cut_values.ensures.faults, c.remove_values.ensures.faults)) says.cause;
    }
