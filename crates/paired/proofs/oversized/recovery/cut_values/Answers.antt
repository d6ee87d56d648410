use Rattle.std.proofs.Common.{◌∙◌, ◌≡◌, inl, ℕ, Some, IsSome, IsSomeAnd, refl, sym, arith, subst}
use Rattle.std.specs.BTreeMap.{get}
use Rattle.std.specs.Ordering.{nat_cmp}
use Rattle.blob_device.specs.lemmas.Moments.{always_now}
use Rattle.blob_device.specs.Timeline.{disk, Each}
use Rattle.sealed_pages.specs.lemmas.looking.Looking.{unchanged_start}
use Rattle.section_manager.specs.declared.journal.Error.TheVariants.{Mem}
use Rattle.section_manager.specs.managing.Managed.{shown}
use Rattle.section_manager.specs.Sections.{key_of}
use Rattle.segments.specs.FixedShown as journal
use Rattle.paired.specs.glob.Lasting.{Cutting}
use Rattle.paired.specs.glob.Sections as glob
use Rattle.paired.specs.Reconciling.{EndOf}
use Rattle.paired.proofs.ValueEnds.{uncut_moments, cut_moments, cut_idle, cut_bytes, cut_entries, cut_others, cut_held, cut_settled, journal_cut, exact_end, pruned_none, cut_failed}
use Rattle.paired.proofs.reconcile.Errors.{handed_on, if_err}
use Rattle.paired.proofs.oversized.recovery.cut_values.Goals as goal
use Rattle.blob_device.proofs.general.Results.{err_of, err_with}

pub value_ends-requires : goal.value_ends-requires
value_ends-requires g c = record { floor = c.requires.floors.1 }

pub truncate_sections-requires : goal.truncate_sections-requires
truncate_sections-requires g c = record { over = c.requires.values }

pub returns-in_err-ends : goal.returns-in_err-ends
returns-in_err-ends g c =
    let d = g.D.Device in
    let j = journal.shown c.args.index.now in
    let m = shown c.args.values.manager in
    let size = g.I.CodecFixed.SIZE in
    let place = g.I.Record.place in
    let r = c.from_residual.result in
    let w = c.in_err-ends.field-0.0 in
    let is = err_of r w c.from_residual.ensures.1 in
    record {
      over = if_err r w is _;
      values = if_err r w is _;
      cut = λ t. if_err r w is _;
      others = if_err r w is _;
      held = if_err r w is _;
      unopened = if_err r w is _;
      settled = λ settled. if_err r w is _;
      bounds = if_err r w is _;
      codec_config = if_err r w is _;
      moments = λ t. uncut_moments _ place size d.time d.opened j m c.args.dev.now c.requires.values t (EndOf place size j.sections (disk (d.time c.args.dev.now)));
      idle = λ t within. unchanged_start (d.time c.args.dev.now);
      reads = λ s. omega arith;
      entries = λ q none. refl;
      faults = omega arith;
      cause = err_with r (inl (handed_on r w Mem is c.in_err-ends.ensures.cause));
    }

pub returns-in_err-values : goal.returns-in_err-values
returns-in_err-values g c =
    let d = g.D.Device in
    let j = journal.shown c.args.index.now in
    let m = shown c.args.values.manager in
    let size = g.I.CodecFixed.SIZE in
    let place = g.I.Record.place in
    let a = c.args.dev.now in
    let b = c.truncate_sections.new.dev in
    let says = c.truncate_sections.ensures in
    let ends = get nat_cmp c.in_ok-ends.ends in
    let each = c.in_ok-ends.ensures.each in
    let found = λ (t : d.Tells) (s n : ℕ) (is : ends s ≡ Some n). (let cut = c.in_ok-ends.ensures.ends s n is in let end = c.requires.ends t s ((each s).0 (subst IsSome (sym is) refl)) in exact_end cut end) in
    let r = c.from_residual-in_err-values.result in
    let w = c.in_err-values.field-0.0 in
    let is = err_of r w c.from_residual-in_err-values.ensures.1 in
    record {
      over = if_err r w is _;
      values = if_err r w is _;
      cut = λ t. if_err r w is _;
      others = if_err r w is _;
      held = if_err r w is _;
      unopened = if_err r w is _;
      settled = λ settled. if_err r w is _;
      bounds = if_err r w is _;
      codec_config = if_err r w is _;
      moments = λ t. cut_moments _ place size d.time d.opened j m a c.requires.values ends each b (found t) (says.moments t);
      idle = λ t within. cut_idle _ place size d.time d.opened j m a c.requires.values ends each b (found t) says.idle within;
      reads = λ s. says.reads (key_of m s);
      entries = cut_entries _ place size d.time d.opened j m a c.requires.values ends each b says.entries;
      faults = says.faults;
      cause = err_with r (cut_failed r w m.floor (d.faults a) (d.faults b) is (pruned_none _ ends m.floor c.requires.floors.1 c.in_err-values.ensures.guard.0) c.in_err-values.ensures.cause);
    }

pub returns : goal.returns
returns g c =
    let d = g.D.Device in
    let j = journal.shown c.args.index.now in
    let m = shown c.args.values.manager in
    let size = g.I.CodecFixed.SIZE in
    let place = g.I.Record.place in
    let a = c.args.dev.now in
    let b = c.truncate_sections.new.dev in
    let says = c.truncate_sections.ensures in
    let ends = get nat_cmp c.in_ok-ends.ends in
    let each = c.in_ok-ends.ensures.each in
    let found = λ (t : d.Tells) (s n : ℕ) (is : ends s ≡ Some n). (let cut = c.in_ok-ends.ensures.ends s n is in let end = c.requires.ends t s ((each s).0 (subst IsSome (sym is) refl)) in exact_end cut end) in
    let ok = c.in_ok-values.ensures in
    let n = shown c.in_ok-values.values.manager in
    let is = c.from.ensures in
    let cuts = λ (t : d.Tells). cut_moments _ place size d.time d.opened j m a c.requires.values ends each b (found t) (says.moments t) in
    record {
      over = journal_cut _ place size d.time d.opened j m a c.requires.values c.requires.apart g.S.Seal.seal_of b (λ s. IsSomeAnd (ends s) (glob.IsLonger m s)) says.entries
          (λ t q none. (always_now (d.time a) (d.time b) (Each (Cutting m ends (disk (d.time a)))) (says.moments t) q).others none) c.requires.over;
      values = rw is.0 ok.over;
      cut = λ t s held. rw is.0 (cut_bytes _ place size d.time d.opened j m a c.requires.values ends each b (found t) n (ok.bytes t) s held);
      others = λ s none. rw is.0 (cut_others _ place size d.time d.opened j m a c.requires.values ends each b n ok.cut ok.absent ok.others s none);
      held = λ s. rw is.0 (cut_held _ place size d.time d.opened j m a c.requires.values ends each b n ok.cut ok.absent ok.others s);
      unopened = λ s. rw is.0 (ok.unopened s);
      settled = λ settled s held. rw is.0 (cut_settled _ place size d.time d.opened j m a c.requires.values ends each b n ok.cut ok.absent ok.others ok.all_settled settled s (rw is.0 at held));
      bounds = rw is.0 ok.bounds;
      codec_config = is.1 ∙ ok.codec_config;
      moments = cuts;
      idle = λ t within. cut_idle _ place size d.time d.opened j m a c.requires.values ends each b (found t) says.idle within;
      reads = λ s. says.reads (key_of m s);
      entries = cut_entries _ place size d.time d.opened j m a c.requires.values ends each b says.entries;
      faults = says.faults;
      cause = tt;
    }
