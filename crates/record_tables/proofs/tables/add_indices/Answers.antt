use Rattle.std.proofs.Common.{ℕ, ◌+◌, List, sym, ◌∙◌, subst, arith}
use Rattle.ordinal_store.specs.Ranges.{set_of}
use Rattle.record_tables.specs.Positions.{positions_of}
use Rattle.record_tables.proofs.FirstLemmas.{none_from_end}
use Rattle.record_tables.proofs.IndexLemmas.{AddsBelow, all_below, bare_below, none_below, none_first, one_below, some_first}
use Rattle.record_tables.proofs.tables.add_indices.Goals as goal
use Rattle.record_tables.proofs.tables.add_indices.Goals.{then-is_some+in_ok-insert, else-is_some}

pub loop-offset-init : goal.loop-offset-init
loop-offset-init c = none_below c.args.section (positions_of c.args.positions.now) (set_of c.args.indices.now)

-- an offset with a position is that of a record, so a u64 has its index
pub overflow_add-section : goal.overflow_add-section
overflow_add-section c =
    let some = some_first (positions_of c.args.positions.now c.loop-offset.offset) c.first.result c.first.ensures (sym c.is_some.ensures ∙ c.if-is_some.true) in
    omega (arith, c.requires c.loop-offset.offset some)

pub loop-offset-preserved : goal.loop-offset-preserved
loop-offset-preserved c =
    let ps = positions_of c.args.positions.now in
    let at = c.loop-offset.offset in
    let old = set_of c.args.indices.now in
    let mid = set_of c.loop-offset.indices in
    elim c.if-is_some.branch as (λ _. AddsBelow c.args.section (positions_of c.args.positions.now) (c.loop-offset.offset + 1) (set_of c.args.indices.now) (set_of c.if-is_some.indices)) [
      | then-is_some+in_ok-insert w ↦
          subst (λ (rs : List (ℕ × ℕ)). AddsBelow c.args.section (positions_of c.args.positions.now) (c.loop-offset.offset + 1) (set_of c.args.indices.now) (set_of rs)) (sym w.indices-is)
          (one_below c.args.section ps at old mid c.loop-offset.invariant (set_of w.insert.new.self)
          (some_first (ps at) c.first.result c.first.ensures (sym c.is_some.ensures ∙ w.if-is_some.true)) w.in_ok-insert.ensures.ok)
      | else-is_some w ↦
          subst (λ (rs : List (ℕ × ℕ)). AddsBelow c.args.section (positions_of c.args.positions.now) (c.loop-offset.offset + 1) (set_of c.args.indices.now) (set_of rs)) (sym w.indices-is)
          (bare_below c.args.section ps at old mid c.loop-offset.invariant (none_first (ps at) c.first.result c.first.ensures (sym c.is_some.ensures ∙ w.if-is_some.false)))
    ]

pub returns : goal.returns
returns c =
    all_below c.args.section (positions_of c.args.positions.now) c.loop-offset.offset (set_of c.args.indices.now) (set_of c.loop-offset.indices) c.loop-offset.invariant
    (λ o from. none_from_end c.args.positions.now o (omega (arith, from, c.loop-offset-test.false, c.end-offset-end.ensures)))
