use Rattle.std.proofs.Common.{◌≡◌, ◌≤◌, length, take, rules}
use Rattle.variable_tests.proofs.StartLemmas.{at_end}
use Rattle.variable_tests.proofs.starts.is_start.Goals as goal

pub returns-in-Some : goal.returns-in-Some
returns-in-Some c empty =
    let within : c.args.offset ≤ length c.args.bytes.now = search rules in
    let is : c.in-Some.before.now ≡ take c.args.offset c.args.bytes.now = search rules in
    let none : length c.rest.result.now ≡ 0 = search rules in
    at_end c.args.bytes.now c.in-Some.before.now c.rest.result.now c.args.offset within is c.rest.ensures none
