use Rattle.std.proofs.Common.{◌≡◌, ℕ, List, take, get_or, refl, sym, ◌∙◌, subst, arith}
use Rattle.std.specs.List.{Contains}
use Rattle.std.proofs.lemmas.List.{take_all, take_more}
use Rattle.std.proofs.lemmas.List.Elements.{Contains-get_or}
use Rattle.section_manager.specs.managing.Managed.{shown}
use Rattle.paired.proofs.RecordCuts.{cause_gone}
use Rattle.paired.proofs.ValuesRemoved.{RemovesOne, RemovedOne, ValuesTried, ValuesGone, gone_start, gone_tried, gone_more}
use Rattle.paired.proofs.oversized.recovery.remove_values.Goals as goal
use Rattle.blob_device.proofs.general.Results.{err_of}

pub loop-section-init : goal.loop-section-init
loop-section-init g c = record {
  gone = gone_start _ g.D.Device.Tells g.D.Device.time g.D.Device.opened g.D.Device.faults (Contains c.args.sections.now) (shown c.args.values.manager) c.args.dev.now c.requires.over;
  codec = refl;
}

pub remove_section-requires : goal.remove_section-requires
remove_section-requires g c = record { over = c.loop-section.invariant.gone.over }

pub loop-section-preserved : goal.loop-section-preserved
loop-section-preserved g c =
    let d = g.D.Device in
    let xs = c.args.sections.now in
    let i = c.loop-section.section-index in
    let m = shown c.args.values.manager in
    let n = shown c.loop-section.values.manager in
    let r = shown c.in_ok-rest.rest.manager in
    let says = c.remove_section.ensures in
    let call : RemovesOne n d.Tells d.time d.opened d.faults (get_or xs i 0) c.loop-section.dev c.remove_section.new.dev = record { moments = says.moments; absent = says.absent; entries = says.entries; faults = says.faults } in
    let ok = c.in_ok-rest.ensures in
    let made : RemovedOne n r _ d.Tells d.time d.opened (get_or xs i 0) c.loop-section.dev c.remove_section.new.dev = record {
      over = ok.over;
      removed = ok.removed;
      others = ok.others;
      bytes = ok.bytes;
      unopened = ok.unopened;
      bounds = ok.bounds;
      gone = ok.gone;
    } in
    record {
      gone = subst (λ (ks : List ℕ). ValuesGone m r (λ f. record { page_size = 1; capacity = f.capacity; cache_pages = 0 }) d.Tells d.time d.opened d.faults (Contains xs) ks c.args.dev.now c.remove_section.new.dev) (sym (take_more xs i 0 c.loop-section-test.true))
          (gone_more _ d.Tells d.time d.opened d.faults (Contains xs) m n (take i xs) (get_or xs i 0) (Contains-get_or xs i 0 c.loop-section-test.true) c.args.dev.now c.loop-section.dev c.requires.over c.loop-section.invariant.gone c.remove_section.new.dev call r made);
      codec = ok.codec_config ∙ c.loop-section.invariant.codec;
    }

pub returns-in_err-rest-clause-moments : goal.returns-in_err-rest-clause-moments
returns-in_err-rest-clause-moments g c t =
    let d = g.D.Device in
    let xs = c.args.sections.now in
    let i = c.loop-section.section-index in
    let m = shown c.args.values.manager in
    let n = shown c.loop-section.values.manager in
    let says = c.remove_section.ensures in
    let call : RemovesOne n d.Tells d.time d.opened d.faults (get_or xs i 0) c.loop-section.dev c.remove_section.new.dev = record { moments = says.moments; absent = says.absent; entries = says.entries; faults = says.faults } in
    let tried : ValuesTried m d.Tells d.time d.opened d.faults (Contains xs) c.args.dev.now c.remove_section.new.dev = gone_tried _ d.Tells d.time d.opened d.faults (Contains xs) m n (take i xs) (get_or xs i 0) (Contains-get_or xs i 0 c.loop-section-test.true)
    c.args.dev.now c.loop-section.dev c.requires.over c.loop-section.invariant.gone c.remove_section.new.dev call in
    tried.moments t

pub returns-in_err-rest-clause-idle : goal.returns-in_err-rest-clause-idle
returns-in_err-rest-clause-idle g c none =
    let d = g.D.Device in
    let xs = c.args.sections.now in
    let i = c.loop-section.section-index in
    let m = shown c.args.values.manager in
    let n = shown c.loop-section.values.manager in
    let says = c.remove_section.ensures in
    let call : RemovesOne n d.Tells d.time d.opened d.faults (get_or xs i 0) c.loop-section.dev c.remove_section.new.dev = record { moments = says.moments; absent = says.absent; entries = says.entries; faults = says.faults } in
    let tried : ValuesTried m d.Tells d.time d.opened d.faults (Contains xs) c.args.dev.now c.remove_section.new.dev = gone_tried _ d.Tells d.time d.opened d.faults (Contains xs) m n (take i xs) (get_or xs i 0) (Contains-get_or xs i 0 c.loop-section-test.true)
    c.args.dev.now c.loop-section.dev c.requires.over c.loop-section.invariant.gone c.remove_section.new.dev call in
    tried.idle none

pub returns-in_err-rest-clause-entries : goal.returns-in_err-rest-clause-entries
returns-in_err-rest-clause-entries g c q =
    let d = g.D.Device in
    let xs = c.args.sections.now in
    let i = c.loop-section.section-index in
    let m = shown c.args.values.manager in
    let n = shown c.loop-section.values.manager in
    let says = c.remove_section.ensures in
    let call : RemovesOne n d.Tells d.time d.opened d.faults (get_or xs i 0) c.loop-section.dev c.remove_section.new.dev = record { moments = says.moments; absent = says.absent; entries = says.entries; faults = says.faults } in
    let tried : ValuesTried m d.Tells d.time d.opened d.faults (Contains xs) c.args.dev.now c.remove_section.new.dev = gone_tried _ d.Tells d.time d.opened d.faults (Contains xs) m n (take i xs) (get_or xs i 0) (Contains-get_or xs i 0 c.loop-section-test.true)
    c.args.dev.now c.loop-section.dev c.requires.over c.loop-section.invariant.gone c.remove_section.new.dev call in
    tried.entries q

pub returns-in_err-rest-clause-faults : goal.returns-in_err-rest-clause-faults
returns-in_err-rest-clause-faults g c =
    let d = g.D.Device in
    let xs = c.args.sections.now in
    let i = c.loop-section.section-index in
    let m = shown c.args.values.manager in
    let n = shown c.loop-section.values.manager in
    let says = c.remove_section.ensures in
    let call : RemovesOne n d.Tells d.time d.opened d.faults (get_or xs i 0) c.loop-section.dev c.remove_section.new.dev = record { moments = says.moments; absent = says.absent; entries = says.entries; faults = says.faults } in
    let tried : ValuesTried m d.Tells d.time d.opened d.faults (Contains xs) c.args.dev.now c.remove_section.new.dev = gone_tried _ d.Tells d.time d.opened d.faults (Contains xs) m n (take i xs) (get_or xs i 0) (Contains-get_or xs i 0 c.loop-section-test.true)
    c.args.dev.now c.loop-section.dev c.requires.over c.loop-section.invariant.gone c.remove_section.new.dev call in
    tried.faults

pub returns-in_err-rest-clause-cause : goal.returns-in_err-rest-clause-cause
returns-in_err-rest-clause-cause g c =
    let d = g.D.Device in
    cause_gone c.from_residual.result c.in_err-rest.field-0.0 (shown c.loop-section.values.manager).floor (d.faults c.args.dev.now) (d.faults c.loop-section.dev) (d.faults c.remove_section.new.dev) (get_or c.args.sections.now c.loop-section.section-index 0)
    (err_of c.from_residual.result c.in_err-rest.field-0.0 c.from_residual.ensures.1) c.loop-section.invariant.gone.tried.faults (c.loop-section.invariant.gone.bounds.floor ∙ c.requires.floor) c.in_err-rest.ensures.guard.0 c.in_err-rest.ensures.cause

pub returns-clause-removed : goal.returns-clause-removed
returns-clause-removed g c s is =
    let xs = c.args.sections.now in
    let i = c.loop-section.section-index in
    let all : take i xs ≡ xs = take_all i xs (omega (arith, c.loop-section-test.false)) in
    c.loop-section.invariant.gone.removed s (subst (λ (ys : List ℕ). Contains ys s) (sym all) is)

pub returns-clause-others : goal.returns-clause-others
returns-clause-others g c s none =
    let xs = c.args.sections.now in
    let i = c.loop-section.section-index in
    let all : take i xs ≡ xs = take_all i xs (omega (arith, c.loop-section-test.false)) in
    c.loop-section.invariant.gone.others s (λ is. none (subst (λ (ys : List ℕ). Contains ys s) all is))

pub returns-clause-bytes : goal.returns-clause-bytes
returns-clause-bytes g c t s none =
    let xs = c.args.sections.now in
    let i = c.loop-section.section-index in
    let all : take i xs ≡ xs = take_all i xs (omega (arith, c.loop-section-test.false)) in
    c.loop-section.invariant.gone.bytes t s (λ is. none (subst (λ (ys : List ℕ). Contains ys s) all is))

pub returns-clause-gone : goal.returns-clause-gone
returns-clause-gone g c t s is held =
    let xs = c.args.sections.now in
    let i = c.loop-section.section-index in
    let all : take i xs ≡ xs = take_all i xs (omega (arith, c.loop-section-test.false)) in
    c.loop-section.invariant.gone.gone t s (subst (λ (ys : List ℕ). Contains ys s) (sym all) is) held

pub returns-clause-over : goal.returns-clause-over
returns-clause-over g c = c.loop-section.invariant.gone.over

pub returns-clause-unopened : goal.returns-clause-unopened
returns-clause-unopened g c = c.loop-section.invariant.gone.unopened

pub returns-clause-bounds : goal.returns-clause-bounds
returns-clause-bounds g c = c.loop-section.invariant.gone.bounds

pub returns-clause-moments : goal.returns-clause-moments
returns-clause-moments g c = c.loop-section.invariant.gone.tried.moments

pub returns-clause-idle : goal.returns-clause-idle
returns-clause-idle g c = c.loop-section.invariant.gone.tried.idle

pub returns-clause-entries : goal.returns-clause-entries
returns-clause-entries g c = c.loop-section.invariant.gone.tried.entries

pub returns-clause-faults : goal.returns-clause-faults
returns-clause-faults g c = c.loop-section.invariant.gone.tried.faults
