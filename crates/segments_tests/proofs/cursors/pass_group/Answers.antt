use Rattle.blob_device.proofs.general.Options.{some_of}
use Rattle.blob_device.proofs.general.Results.{err_of}
use Rattle.segments.specs.FixedCursor.{leaving, passing}
use Rattle.segments.specs.FixedStepping.{failing}
use Rattle.std.specs.Prelude.{true, false, Ok}
use Rattle.std.proofs.Common.{refl, ap}
use Rattle.segments.specs.FixedWalking.{walk_of}
use Rattle.segments_tests.proofs.CursorCalls.{if_some, passed_err, passed_filled, passed_turned}
use Rattle.segments_tests.proofs.cursors.pass_group.Goals as goal

pub returns-in_err-enough : goal.returns-in_err-enough
returns-in_err-enough c =
    let r = some_of (walk_of c.args.walk.now).place c.requires.stands in
    let fills = c.in_err-enough.ensures r.0 r.1 in
    passed_err _ c.from_residual.result c.in_err-enough.field-0.0 _ _ (err_of c.from_residual.result c.in_err-enough.field-0.0 c.from_residual.ensures.1) fills.broken fills.dropped

pub returns-then-not-enough : goal.returns-then-not-enough
returns-then-not-enough c =
    let r = some_of (walk_of c.args.walk.now).place c.requires.stands in
    let fills = c.in_ok-enough.ensures r.0 r.1 in
    passed_filled _ false _ _ r.0 fills.rest c.requires.going fills.over

pub returns-in-Err : goal.returns-in-Err
returns-in-Err c =
    let r = some_of (walk_of c.args.walk.now).place c.requires.stands in
    let fills = c.in_ok-enough.ensures r.0 r.1 in
    let mid = walk_of c.fill.new.self in
    passed_turned _ false _ mid r.0 fills.rest c.requires.going fills.over (failing (leaving mid)) _ refl refl c.leave.ensures

pub pass-requires-clause-walk : goal.pass-requires-clause-walk
pass-requires-clause-walk c =
    let r = some_of (walk_of c.args.walk.now).place c.requires.stands in
    (c.in_ok-enough.ensures r.0 r.1).over.walk

pub pass-requires-clause-at_hand : goal.pass-requires-clause-at_hand
pass-requires-clause-at_hand c =
    let r = some_of (walk_of c.args.walk.now).place c.requires.stands in
    if_some _ (walk_of c.fill.new.self).place ((c.in_ok-enough.ensures r.0 r.1).at_hand (ap Ok c.if-not-enough.false))

pub returns : goal.returns
returns c =
    let r = some_of (walk_of c.args.walk.now).place c.requires.stands in
    let fills = c.in_ok-enough.ensures r.0 r.1 in
    let mid = walk_of c.fill.new.self in
    passed_turned _ true _ mid r.0 fills.rest c.requires.going fills.over (passing 8 c.args.count mid) _ refl refl c.pass.ensures
