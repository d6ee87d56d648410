use Rattle.std.specs.List.{Contains}
use Rattle.std.specs.List.Sorted.{IsStrictlySortedBy}
use Rattle.std.specs.Ordering.{nat_cmp}
use Rattle.std.proofs.Common.{◌≡◌, ◌∙◌, ◌+◌, ◌++◌, ◌∷◌, [], ℕ, List, take, get_or, sym, subst, arith}
use Rattle.std.proofs.lemmas.List.{take_more, take_all}
use Rattle.sealed_pages.specs.declared.page_blob.PageBlob.{PageBlob}
use Rattle.section_manager.specs.Sections.{Sections, IsHeld}
use Rattle.section_manager.specs.declared.sealed.AppendFactory.{AppendFactory}
use Rattle.segments.specs.FixedFloors.{preflight_shown, journal_of}
use Rattle.segments.proofs.checkpoint.Checking.{looks_err}
use Rattle.segments.proofs.checkpoint.Earlier.{gone_none, gone_more, gone_past, gone_to, gone_all, turn, looks_none, had_numbers, has_number}
use Rattle.segments.proofs.fixed.preflighting.Preflight.checked_earlier.Given.{Over}
use Rattle.segments.proofs.fixed.preflighting.Preflight.checked_earlier.Goals as goal
use Rattle.segments.proofs.fixed.preflighting.Preflight.checked_earlier.Goals.{then-number-section+in_ok-found, else-number-section}
use Rattle.blob_device.proofs.general.Results.{err_of}

abbrev Held : Over → Type 0
Held g = Sections (AppendFactory g.row.S.Denot) (PageBlob g.row.S.Denot g.S.Seal)

pub loop-number-init : goal.loop-number-init
loop-number-init g c = gone_none g.S.Seal.seal_of g.A.CodecFixed.SIZE c.args.section g.A.Codec.spelling g.A.Codec.accepted g.A.Codec.refusal g.D.Device _ _ (journal_of c.args.self).sections preflight_shown (λ r. (journal_of r).sections)
    (preflight_shown c.args.self) c.args.dev.now c.requires.fresh c.requires.ready

pub returns-in_err-numbers : goal.returns-in_err-numbers
returns-in_err-numbers g c bytes =
    let e = c.in_err-numbers.field-0.0 in
    looks_none g.S.Seal.seal_of g.A.CodecFixed.SIZE c.args.section g.A.Codec.spelling g.A.Codec.accepted g.A.Codec.refusal g.D.Device _ _ (journal_of c.args.self).sections preflight_shown (λ r. (journal_of r).sections)
    c.from_residual.result e c.args.dev.now bytes _ (err_of c.from_residual.result e c.from_residual.ensures.1) (cc c.in_err-numbers.ensures.cause) c.requires.ready.over

pub checked_whole-requires-clause-ready : goal.checked_whole-requires-clause-ready
checked_whole-requires-clause-ready g c = c.loop-number.invariant.ready

pub checked_whole-requires-clause-is_held : goal.checked_whole-requires-clause-is_held
checked_whole-requires-clause-is_held g c =
    let listed = subst (λ (l : List ℕ). Contains l (get_or c.as_slice-number-items.result.now c.loop-number.number-index 0)) c.as_slice-number-items.ensures.value (has_number c.as_slice-number-items.result.now c.loop-number.number-index c.loop-number-test.true) in
    subst (λ (m : Held g). IsHeld m (get_or c.as_slice-number-items.result.now c.loop-number.number-index 0)) (sym (c.loop-number.invariant.come 0).same) ((c.in_ok-numbers.ensures.each (get_or c.as_slice-number-items.result.now c.loop-number.number-index 0)).0 listed)

pub returns-in_err-found : goal.returns-in_err-found
returns-in_err-found g c bytes =
    let m = (journal_of c.args.self).sections in
    let e = c.in_err-found.field-0.0 in
    looks_err g.S.Seal.seal_of m.factory.pages.page_size g.A.CodecFixed.SIZE m.partition c.args.section bytes g.A.Codec.spelling g.A.Codec.accepted g.A.Codec.refusal g.D.Device _ _ m
    c.from_residual-in_err-found.result e c.args.dev.now c.checked_whole.new.dev _ _ (err_of c.from_residual-in_err-found.result e c.from_residual-in_err-found.ensures.1)
    (turn g.S.Seal.seal_of g.A.CodecFixed.SIZE c.args.section g.A.Codec.spelling g.A.Codec.accepted g.A.Codec.refusal g.D.Device _ _ m preflight_shown (λ r. (journal_of r).sections)
    (take c.loop-number.number-index c.as_slice-number-items.result.now) (preflight_shown c.loop-number.found) c.args.dev.now c.loop-number.dev (get_or c.as_slice-number-items.result.now c.loop-number.number-index 0) c.if-number-section.true
    (λ q less held. had_numbers c.as_slice-number-items.result.now c.loop-number.number-index c.loop-number-test.true (subst (λ (l : List ℕ). IsStrictlySortedBy nat_cmp l) (sym c.as_slice-number-items.ensures.value) c.in_ok-numbers.ensures.ascending) q less (subst (λ (l : List ℕ). Contains l q) (sym c.as_slice-number-items.ensures.value) ((c.in_ok-numbers.ensures.each q).1 held)))
    (journal_of c.loop-number.found).sections c.checked_whole.new.dev _ c.loop-number.invariant (c.in_err-found.ensures c.args.section) bytes)

pub loop-number-preserved : goal.loop-number-preserved
loop-number-preserved g c =
    let m = (journal_of c.args.self).sections in
    let next : take (c.loop-number.number-index + 1) c.as_slice-number-items.result.now ≡ take c.loop-number.number-index c.as_slice-number-items.result.now ++ get_or c.as_slice-number-items.result.now c.loop-number.number-index 0 ∷ [] = take_more c.as_slice-number-items.result.now c.loop-number.number-index 0 c.loop-number-test.true in
    elim c.if-number-section.branch [
      | then-number-section+in_ok-found w ↦
          gone_to g.S.Seal.seal_of g.A.CodecFixed.SIZE c.args.section g.A.Codec.spelling g.A.Codec.accepted g.A.Codec.refusal g.D.Device _ _ m preflight_shown (λ r. (journal_of r).sections)
          (take c.loop-number.number-index c.as_slice-number-items.result.now ++ get_or c.as_slice-number-items.result.now c.loop-number.number-index 0 ∷ []) (take (c.loop-number.number-index + 1) c.as_slice-number-items.result.now) w.in_ok-found.found c.if-number-section.found c.args.dev.now w.checked_whole.new.dev c.if-number-section.dev w.found-is w.dev-is next
          (gone_more g.S.Seal.seal_of g.A.CodecFixed.SIZE c.args.section g.A.Codec.spelling g.A.Codec.accepted g.A.Codec.refusal g.D.Device _ _ m preflight_shown (λ r. (journal_of r).sections)
          (take c.loop-number.number-index c.as_slice-number-items.result.now) (journal_of c.loop-number.found).sections (preflight_shown c.loop-number.found) c.args.dev.now c.loop-number.dev w.checked_whole.new.dev (get_or c.as_slice-number-items.result.now c.loop-number.number-index 0) w.in_ok-found.found c.loop-number.invariant
          (turn g.S.Seal.seal_of g.A.CodecFixed.SIZE c.args.section g.A.Codec.spelling g.A.Codec.accepted g.A.Codec.refusal g.D.Device _ _ m preflight_shown (λ r. (journal_of r).sections)
          (take c.loop-number.number-index c.as_slice-number-items.result.now) (preflight_shown c.loop-number.found) c.args.dev.now c.loop-number.dev (get_or c.as_slice-number-items.result.now c.loop-number.number-index 0) w.if-number-section.true
          (λ q less held. had_numbers c.as_slice-number-items.result.now c.loop-number.number-index c.loop-number-test.true (subst (λ (l : List ℕ). IsStrictlySortedBy nat_cmp l) (sym c.as_slice-number-items.ensures.value) c.in_ok-numbers.ensures.ascending) q less (subst (λ (l : List ℕ). Contains l q) (sym c.as_slice-number-items.ensures.value) ((c.in_ok-numbers.ensures.each q).1 held)))
          (journal_of c.loop-number.found).sections w.checked_whole.new.dev _ c.loop-number.invariant (w.in_ok-found.ensures c.args.section)))
      | else-number-section w ↦
          gone_to g.S.Seal.seal_of g.A.CodecFixed.SIZE c.args.section g.A.Codec.spelling g.A.Codec.accepted g.A.Codec.refusal g.D.Device _ _ m preflight_shown (λ r. (journal_of r).sections)
          (take c.loop-number.number-index c.as_slice-number-items.result.now ++ get_or c.as_slice-number-items.result.now c.loop-number.number-index 0 ∷ []) (take (c.loop-number.number-index + 1) c.as_slice-number-items.result.now) c.loop-number.found c.if-number-section.found c.args.dev.now c.loop-number.dev c.if-number-section.dev w.found-is w.dev-is next
          (gone_past g.S.Seal.seal_of g.A.CodecFixed.SIZE c.args.section g.A.Codec.spelling g.A.Codec.accepted g.A.Codec.refusal g.D.Device _ _ m preflight_shown (λ r. (journal_of r).sections)
          (take c.loop-number.number-index c.as_slice-number-items.result.now) (journal_of c.loop-number.found).sections (preflight_shown c.loop-number.found) c.args.dev.now c.loop-number.dev (get_or c.as_slice-number-items.result.now c.loop-number.number-index 0) (omega (arith, w.if-number-section.false)) c.loop-number.invariant)
    ]

pub returns : goal.returns
returns g c bytes =
    let m = (journal_of c.args.self).sections in
    let all : take c.loop-number.number-index c.as_slice-number-items.result.now ≡ c.as_slice-number-items.result.now = take_all c.loop-number.number-index c.as_slice-number-items.result.now c.loop-number-test.false in
    gone_all g.S.Seal.seal_of g.A.CodecFixed.SIZE c.args.section g.A.Codec.spelling g.A.Codec.accepted g.A.Codec.refusal g.D.Device _ _ m preflight_shown (λ r. (journal_of r).sections)
    (take c.loop-number.number-index c.as_slice-number-items.result.now) c.loop-number.found c.args.dev.now c.loop-number.dev bytes c.loop-number.invariant
    (λ q held. subst (λ (l : List ℕ). Contains l q) (sym (all ∙ c.as_slice-number-items.ensures.value)) ((c.in_ok-numbers.ensures.each q).1 held))
    c.ranges.section.fits c.requires.bounded c.requires.ready.held
