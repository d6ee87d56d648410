use Rattle.std.proofs.Common.{◌∙◌, refl, inl, inr, ap}
use Rattle.std.specs.BTreeMap.{BTreeMap, get_by}
use Rattle.meta_store.proofs.Inserting.{Marked, wrote_value, wrote_none, marked_entries}
use Rattle.meta_store.proofs.metadata.Metadata.get_mut.Goals as goal
use Rattle.meta_store.proofs.metadata.Metadata.get_mut.Goals.{then-contains_key, else-contains_key}

pub returns : goal.returns
unfolding Marked
returns g c =
    let old = c.args.self.now in
    let mid = c.if-contains_key.self in
    let marked : Marked g.K.Ord.cmp c.args.key.now old c.contains_key.result mid = elim c.if-contains_key.branch [
      | then-contains_key w ↦ inl (w.if-contains_key.true, w.self-is)
      | else-contains_key w ↦ inr (w.if-contains_key.false, w.self-is)
    ] in (
      (
        refl,
        λ w. wrote_value g.K.Ord.cmp c.args.key.now old c.contains_key.result mid c.get_mut.result w (c.get_mut.follows.lender w) c.contains_key.ensures marked c.get_mut.ensures.value (c.get_mut.follows.holds w),
        wrote_none g.K.Ord.cmp c.args.key.now old c.contains_key.result mid c.get_mut.result c.get_mut.follows.lender-at-none c.contains_key.ensures marked c.get_mut.ensures.value c.get_mut.follows.holds-at-none,
      ),
      record { writes_back = tt; value = c.get_mut.ensures.value ∙ ap (λ (m : BTreeMap g.row.K.Denot g.row.V.Denot). get_by (g.K.Ord.cmp c.args.key.now) m) (marked_entries g.K.Ord.cmp c.args.key.now old c.contains_key.result mid marked) },
    )
