use Rattle.std.specs.Prelude.{ℕ, ◌<◌, Ok}
use Rattle.std.proofs.Common.{◌∙◌, ap, subst}
use Rattle.blob_device.proofs.general.Options.{some_of}
use Rattle.blob_device.proofs.general.Results.{err_of}
use Rattle.blob_device.specs.MemoryMeaning.{memory_time}
use Rattle.blob_device.specs.Timeline.{disk}
use Rattle.segments.specs.FixedWalking.{walk_of}
use Rattle.value_codec.specs.contracts.seal.Sha256SealSeal.TheImpl as seal
use Rattle.segments_tests.proofs.CursorCalls.{at_place, filled_ended, filled_last, filled_stands, floor_here, floors_then, gone_cut, gone_dropped, gone_failed, gone_left, may_shorten, stands_at}
use Rattle.segments_tests.proofs.cursors.close.Goals as goal

pub returns-in_err-more : goal.returns-in_err-more
returns-in_err-more c =
    let y = at_place (walk_of c.args.walk.now).place c.args.section c.args.position c.requires.at in
    let fills = c.in_err-more.ensures y.0 y.1 in
    gone_dropped _ c.from_residual.result c.in_err-more.field-0.0 _ _ (err_of c.from_residual.result c.in_err-more.field-0.0 c.from_residual.ensures.1) fills.broken fills.dropped

pub returns-then-more : goal.returns-then-more
returns-then-more c =
    let y = at_place (walk_of c.args.walk.now).place c.args.section c.args.position c.requires.at in
    let fills = c.in_ok-more.ensures y.0 y.1 in
    gone_left _ _ (walk_of c.fill.new.self) _ y.0 fills.rest fills.over c.leave.ensures

pub end-requires-clause-over : goal.end-requires-clause-over
end-requires-clause-over c =
    let y = at_place (walk_of c.args.walk.now).place c.args.section c.args.position c.requires.at in
    (c.in_ok-more.ensures y.0 y.1).over

pub end-requires-clause-going : goal.end-requires-clause-going
end-requires-clause-going c =
    let y = at_place (walk_of c.args.walk.now).place c.args.section c.args.position c.requires.at in
    filled_ended _ (walk_of c.fill.new.self) y.0 (c.in_ok-more.ensures y.0 y.1).rest ∙ c.requires.going

pub end-requires-clause-stands : goal.end-requires-clause-stands
end-requires-clause-stands c =
    let y = at_place (walk_of c.args.walk.now).place c.args.section c.args.position c.requires.at in
    filled_stands _ (walk_of c.fill.new.self) y.0 (c.in_ok-more.ensures y.0 y.1).rest

pub end-requires-clause-last : goal.end-requires-clause-last
end-requires-clause-last c t =
    let y = at_place (walk_of c.args.walk.now).place c.args.section c.args.position c.requires.at in
    let fills = c.in_ok-more.ensures y.0 y.1 in
    filled_last _ (walk_of c.fill.new.self) y.0 fills.rest seal.ghosts.seal_of 8 (memory_time c.args.dev.now) (memory_time c.fill.new.dev) (fills.unchanged t) (fills.short t (ap Ok c.if-more.false))

pub returns-in_err-end : goal.returns-in_err-end
returns-in_err-end c =
    let y = at_place (walk_of c.args.walk.now).place c.args.section c.args.position c.requires.at in
    let fills = c.in_ok-more.ensures y.0 y.1 in
    let z = some_of (walk_of c.fill.new.self).place (filled_stands _ (walk_of c.fill.new.self) y.0 fills.rest) in
    let ends = c.in_err-end.ensures z.0 z.1 in
    gone_failed _ c.from_residual-in_err-end.result c.in_err-end.field-0.0 _ _ (err_of c.from_residual-in_err-end.result c.in_err-end.field-0.0 c.from_residual-in_err-end.ensures.1) ends.steps.broken ends.left
    (floors_then (walk_of c.args.walk.now) (walk_of c.fill.new.self) (walk_of c.end.new.self) y.0 fills.rest ends.steps.same.floors)

pub returns-then-not-is_cut_again : goal.returns-then-not-is_cut_again
returns-then-not-is_cut_again c =
    let y = at_place (walk_of c.args.walk.now).place c.args.section c.args.position c.requires.at in
    let fills = c.in_ok-more.ensures y.0 y.1 in
    let z = some_of (walk_of c.fill.new.self).place (filled_stands _ (walk_of c.fill.new.self) y.0 fills.rest) in
    let ends = c.in_ok-end.ensures z.0 z.1 in
    record { goes = ends.steps.over; between = ends.left; floors = floors_then (walk_of c.args.walk.now) (walk_of c.fill.new.self) (walk_of c.end.new.self) y.0 fills.rest ends.steps.same.floors }

pub shorten-requires-clause-over : goal.shorten-requires-clause-over
shorten-requires-clause-over c =
    let y = at_place (walk_of c.args.walk.now).place c.args.section c.args.position c.requires.at in
    let fills = c.in_ok-more.ensures y.0 y.1 in
    let z = some_of (walk_of c.fill.new.self).place (filled_stands _ (walk_of c.fill.new.self) y.0 fills.rest) in
    (c.in_ok-end.ensures z.0 z.1).steps.over

pub shorten-requires-clause-going : goal.shorten-requires-clause-going
shorten-requires-clause-going c =
    let y = at_place (walk_of c.args.walk.now).place c.args.section c.args.position c.requires.at in
    let fills = c.in_ok-more.ensures y.0 y.1 in
    let z = some_of (walk_of c.fill.new.self).place (filled_stands _ (walk_of c.fill.new.self) y.0 fills.rest) in
    (c.in_ok-end.ensures z.0 z.1).steps.goes.ended ∙ filled_ended _ (walk_of c.fill.new.self) y.0 fills.rest ∙ c.requires.going

pub shorten-requires-clause-may : goal.shorten-requires-clause-may
shorten-requires-clause-may c =
    let y = at_place (walk_of c.args.walk.now).place c.args.section c.args.position c.requires.at in
    let fills = c.in_ok-more.ensures y.0 y.1 in
    let mid = walk_of c.fill.new.self in
    let new = walk_of c.end.new.self in
    let z = some_of mid.place (filled_stands _ mid y.0 fills.rest) in
    let ends = c.in_ok-end.ensures z.0 z.1 in
    let here = stands_at (walk_of c.args.walk.now) mid y.0 z.0 c.args.section c.args.position fills.rest y.2 y.3 z.1 in
    let again = c.if-not-is_cut_again.false in
    may_shorten seal.ghosts.seal_of _ mid new z.0 z.1 (disk (memory_time c.end.new.dev)) fills.over.walk ends.steps.same ends.steps.goes.held c.args.section c.args.plan.now.keep here.0 (c.is_cut_again.ensures.owes again) ends.left ends.next ends.cut ends.sealed
    (subst (λ (n : ℕ). c.args.plan.now.keep < n) here.1 (c.is_cut_again.ensures.fewer again))
    (floor_here (walk_of c.args.walk.now) new c.args.section c.args.plan.now.section c.args.plan.now.keep (c.is_cut_again.ensures.same again) (floors_then (walk_of c.args.walk.now) mid new y.0 fills.rest ends.steps.same.floors) c.requires.floor)
    (c.is_cut_again.ensures.first again)

pub returns : goal.returns
returns c =
    let y = at_place (walk_of c.args.walk.now).place c.args.section c.args.position c.requires.at in
    let fills = c.in_ok-more.ensures y.0 y.1 in
    let mid = walk_of c.fill.new.self in
    let z = some_of mid.place (filled_stands _ mid y.0 fills.rest) in
    let ends = c.in_ok-end.ensures z.0 z.1 in
    gone_cut c.shorten.new.dev c.shorten.result (walk_of c.args.walk.now) (walk_of c.end.new.self) (walk_of c.shorten.new.self) (floors_then (walk_of c.args.walk.now) mid (walk_of c.end.new.self) y.0 fills.rest ends.steps.same.floors) ends.left c.shorten.ensures.over c.shorten.ensures.broken c.shorten.ensures.rest
