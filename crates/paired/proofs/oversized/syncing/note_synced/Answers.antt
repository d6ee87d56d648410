use Rattle.std.proofs.Common.{◌/◌, ℕ, List, take, get_or, sym, ◌∙◌, subst, arith}
use Rattle.std.specs.List.{Contains}
use Rattle.std.proofs.lemmas.List.{take_all, take_more}
use Rattle.std.proofs.lemmas.List.Elements.{Contains-get_or}
use Rattle.segments.specs.FixedLists.{section_size}
use Rattle.segments.specs.FixedShown as fixed
use Rattle.paired.specs.sighted.Shown.{shown}
use Rattle.paired.proofs.tracking.Lemmas.{Noted, noted_none, noted_more}
use Rattle.paired.proofs.oversized.syncing.note_synced.Goals as goal

pub loop-section-init : goal.loop-section-init
loop-section-init g c = noted_none (λ s. section_size (fixed.shown c.args.index.now).sections s / g.I.CodecFixed.SIZE) (shown c.args.tracking.now) c.requires.trails

pub loop-section-preserved : goal.loop-section-preserved
loop-section-preserved g c =
    let len : ℕ → ℕ = λ s. section_size (fixed.shown c.args.index.now).sections s / g.I.CodecFixed.SIZE in
    let xs = c.args.sections.now in
    let i = c.loop-section.section-index in
    subst (λ (ys : List ℕ). Noted (Contains ys) len (shown c.args.tracking.now) (shown c.synced.new.self)) (sym (take_more xs i 0 c.loop-section-test.true))
    (noted_more (take i xs) (get_or xs i 0) len (shown c.args.tracking.now) (shown c.loop-section.tracking) (shown c.synced.new.self) c.loop-section.invariant
    c.in_ok-synced.ensures.trails (c.in_ok-synced.ensures.here ∙ c.in_ok-len.ensures.len) c.in_ok-synced.ensures.others c.synced.ensures.store)

pub returns-in_err-len-clause-cause : goal.returns-in_err-len-clause-cause
returns-in_err-len-clause-cause g c =
    let xs = c.args.sections.now in
    let i = c.loop-section.section-index in
    absurd (omega (arith, c.requires.kept (get_or xs i 0) (Contains-get_or xs i 0 c.loop-section-test.true), c.in_err-len.ensures.guard.0 c.in_err-len.ensures.cause))

pub returns-clause-named : goal.returns-clause-named
returns-clause-named g c s is =
    let xs = c.args.sections.now in
    let i = c.loop-section.section-index in
    c.loop-section.invariant.named s (subst (λ (ys : List ℕ). Contains ys s) (sym (take_all i xs (omega (arith, c.loop-section-test.false)))) is)
