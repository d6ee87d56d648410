use Rattle.std.proofs.Common.{◌∙◌, ap, sym, List, ◌++◌, ℕ, slice_get}
use Rattle.std.specs.BTreeMap.{get}
use Rattle.std.specs.Ordering.{nat_cmp}
use Rattle.record_tables.specs.Firsts.{first_of, further_of}
use Rattle.record_tables.specs.Positions.{positions_of}
use Rattle.record_tables.proofs.FirstLemmas.{all_given, none_of_all, not_given, not_none_of_all}
use Rattle.record_tables.proofs.positions.Positions.all.Goals as goal

pub returns-in_default : goal.returns-in_default
returns-in_default c = c.new.ensures.items ∙ sym (none_of_all (first_of (slice_get c.args.self.now.firsts.items c.args.offset)) (further_of (get nat_cmp c.args.self.now.further c.args.offset)) c.in_default.ensures)

pub returns-in_err-positions : goal.returns-in_err-positions
returns-in_err-positions c = not_given (positions_of c.args.self.now c.args.offset) c.from_residual.result c.from_residual.ensures.0
    (not_none_of_all (first_of (slice_get c.args.self.now.firsts.items c.args.offset)) (further_of (get nat_cmp c.args.self.now.further c.args.offset)) c.in-Some.first c.in-Some.ensures)

pub returns-in_err-push : goal.returns-in_err-push
returns-in_err-push c = not_given (positions_of c.args.self.now c.args.offset) c.from_residual-in_err-push.result c.from_residual-in_err-push.ensures.0
    (not_none_of_all (first_of (slice_get c.args.self.now.firsts.items c.args.offset)) (further_of (get nat_cmp c.args.self.now.further c.args.offset)) c.in-Some.first c.in-Some.ensures)

pub returns-in_err-extend_from_slice : goal.returns-in_err-extend_from_slice
returns-in_err-extend_from_slice c = not_given (positions_of c.args.self.now c.args.offset) c.from_residual-in_err-extend_from_slice.result c.from_residual-in_err-extend_from_slice.ensures.0
    (not_none_of_all (first_of (slice_get c.args.self.now.firsts.items c.args.offset)) (further_of (get nat_cmp c.args.self.now.further c.args.offset)) c.in-Some.first c.in-Some.ensures)

pub returns : goal.returns
returns c = all_given c.args.self.now c.args.offset c.in-Some.first c.in_ok-positions.positions.items c.push.new.self.items c.extend_from_slice.new.self.items c.in-Some.ensures c.in_ok-positions.ensures.items c.in_ok-push.ensures.items
    (c.in_ok-extend_from_slice.ensures.items ∙ ap (λ (ns : List ℕ). c.push.new.self.items ++ ns) c.further-further.ensures)
