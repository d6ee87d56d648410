use Rattle.std.proofs.Common.{rules, ◌≡◌, ℕ, ◌+◌, ◌^◌, if◌then◌else◌, Option, None, Some, List, length, refl, ◌∙◌, ap, ap₂, subst, arith}
use Rattle.std.specs.BTreeMap.{BTreeMap, Updates, btree_map_len, get, is_at}
use Rattle.std.specs.Map.{lookup}
use Rattle.std.specs.Option.{is_some}
use Rattle.std.specs.Ordering.{nat_cmp}
use Rattle.record_tables.specs.declared.tables.Table.{Table}
use Rattle.record_tables.proofs.ReserveLemmas.{as_many_used, few_slots, given_back, kept_table, not_put, not_put_as, put_table}
use Rattle.record_tables.proofs.RoomLemmas.{beside}
use Rattle.record_tables.proofs.tables.Tables.reserve_table.Goals as goal

pub returns-in-Some : goal.returns-in-Some
returns-in-Some g c =
    let old = c.args.self.now in
    let section = c.args.section in
    let table = c.in-Some.table.now in
    let kept = c.reserve.new.self in
    let more = c.get_mut.follows.lender kept in
    let holds = c.get_mut.follows.holds kept in
    let here : get nat_cmp old.tables section ≡ Some table = search rules in
    let updates = holds.3 (search rules) in
    kept_table g.W.PartialEq.eq section c.args.offset old _ c.requires.order c.requires.room table kept
    (record {
      here = here;
      after = updates.1;
      others = beside section old.tables more (Some kept) updates;
      count = holds.2;
      keeps = c.reserve.ensures.same;
      slots = refl;
      words = refl;
    })
    c.reserve.result c.reserve.ensures.room

pub take-requires-clause-slots : goal.take-requires-clause-slots
take-requires-clause-slots g c = c.requires.order.slots

pub take-requires-clause-few : goal.take-requires-clause-few
take-requires-clause-few g c =
    let none : get nat_cmp c.args.self.now.tables c.args.section ≡ None = search rules in
    few_slots c.args.self.now c.requires.order (2 ^ 40) c.args.section c.get_mut.ensures.ordered c.requires.room none

pub returns-in_err-fresh : goal.returns-in_err-fresh
returns-in_err-fresh g c =
    let same = c.get_mut.follows.holds-at-none in
    not_put_as g.W.PartialEq.eq c.args.section c.args.offset c.args.self.now _ c.requires.order
    (record {
      tables = λ s. ap (λ (m : BTreeMap ℕ (Table g.row.W.Denot g.row.K.Denot)). get nat_cmp m s) same;
      count = ap (λ (m : BTreeMap ℕ (Table g.row.W.Denot g.row.K.Denot)). btree_map_len m) same;
      slots = c.requires.order.slots;
      theirs = λ x s has. has;
      counted = λ n used. used;
      words = refl;
    })
    c.from_residual.result _ c.from_residual.ensures.1

pub returns-in_err-slot : goal.returns-in_err-slot
returns-in_err-slot g c =
    let same = c.get_mut.follows.holds-at-none in
    let none = c.in_err-slot.ensures in
    not_put_as g.W.PartialEq.eq c.args.section c.args.offset c.args.self.now _ c.requires.order
    (record {
      tables = λ s. ap (λ (m : BTreeMap ℕ (Table g.row.W.Denot g.row.K.Denot)). get nat_cmp m s) same;
      count = ap (λ (m : BTreeMap ℕ (Table g.row.W.Denot g.row.K.Denot)). btree_map_len m) same;
      slots = none.0;
      theirs = λ x s. (none.1 x s).1;
      counted = none.2;
      words = refl;
    })
    c.from_residual-in_err-slot.result _ c.from_residual-in_err-slot.ensures.1

pub free-requires-clause-some : goal.free-requires-clause-some
free-requires-clause-some g c = omega (arith, c.in_ok-slot.ensures.counted (btree_map_len c.args.self.now.tables) c.requires.order.counted)

pub returns-in-Ok : goal.returns-in-Ok
returns-in-Ok g c =
    let old = c.args.self.now in
    let section = c.args.section in
    let fresh : Table g.row.W.Denot g.row.K.Denot = record { slot = c.in_ok-slot.slot; entries = c.in_ok-fresh.fresh.entries; positions = c.in_ok-fresh.fresh.positions } in
    let is = c.in_ok-fresh.ensures in
    let same = c.get_mut.follows.holds-at-none in
    let none : get nat_cmp old.tables section ≡ None = search rules in
    let updates = subst (λ (m : BTreeMap ℕ (Table g.row.W.Denot g.row.K.Denot)). Updates nat_cmp m c.insert.new.self section (Some fresh)) same c.in-Ok.ensures.updates in
    let no_old : c.in-Ok.field-0 ≡ None = c.in-Ok.ensures.old ∙ ap (λ (m : BTreeMap ℕ (Table g.row.W.Denot g.row.K.Denot)). get nat_cmp m section) same ∙ none in
    let count : btree_map_len c.insert.new.self ≡ btree_map_len old.tables + 1 = c.in-Ok.ensures.len
    ∙ ap₂ (λ (m : BTreeMap ℕ (Table g.row.W.Denot g.row.K.Denot)) (o : Option (Table g.row.W.Denot g.row.K.Denot)). btree_map_len m + (if is_some o then 0 else 1)) same no_old in
    put_table g.W.PartialEq.eq section c.args.offset old _ c.requires.order fresh
    (record {
      none = none;
      after = updates.1;
      others = beside section old.tables c.insert.new.self (Some fresh) updates;
      count = count;
      fresh = record { entries = is.entries; positions = is.positions; room = record { entry = is.room.entry; position = is.room.position } };
      slots = c.in_ok-slot.ensures;
      words = refl;
    })

pub returns : goal.returns
returns g c =
    let kept : c.insert.new.self.entries ≡ c.args.self.now.tables.entries = c.in-Err.ensures.err ∙ ap (λ (m : BTreeMap ℕ (Table g.row.W.Denot g.row.K.Denot)). m.entries) c.get_mut.follows.holds-at-none in
    not_put g.W.PartialEq.eq c.args.section c.args.offset c.args.self.now _ c.requires.order
    (record {
      tables = λ s. ap (λ (es : List (ℕ × Table g.row.W.Denot g.row.K.Denot)). lookup (is_at (nat_cmp s)) es) kept;
      count = ap length kept;
      slots = c.free.ensures.slots;
      theirs = given_back c.args.section c.in_ok-slot.slot c.args.self.now.slots c.take.new.self c.free.new.self c.in_ok-slot.ensures c.free.ensures;
      counted = as_many_used c.args.section c.in_ok-slot.slot c.args.self.now.slots c.take.new.self c.free.new.self c.in_ok-slot.ensures c.free.ensures;
      words = refl;
    })
    _
