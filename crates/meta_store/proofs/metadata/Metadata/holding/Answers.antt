use Rattle.std.proofs.Common.{◌≡◌, ◌∙◌, ◌++◌, List, refl, sym, ap, arith}
use Rattle.std.proofs.lemmas.List.{append-nil, nil_from_length}
use Rattle.meta_store.specs.Store.{seen}
use Rattle.meta_store.proofs.Inserting.{inserted_last}
use Rattle.meta_store.proofs.InitsLemmas.{holding_short}
use Rattle.meta_store.proofs.Failing.{err_seen}
use Rattle.meta_store.proofs.metadata.Metadata.holding.Goals as goal

pub entries-init : goal.entries-init
entries-init g c =
    ap (λ (l : List (g.row.K.Denot × g.row.V.Denot)). l ++ c.into_iter-key-iterator.result.rest.items) c.new-map.ensures.empty
    ∙ c.into_iter-key-iterator.ensures.into_iter_gives.0 ∙ c.into_vec-key-items.ensures

pub entries-preserved : goal.entries-preserved
entries-preserved g c =
    ap (λ (l : List (g.row.K.Denot × g.row.V.Denot)). l ++ c.next.new.self.rest.items) c.in_ok-insert.ensures.entries
    ∙ inserted_last g.K.Ord.cmp g.met.K.Ord.total c.entries.map.entries c.next.new.self.rest.items c.args.chosen.contents.entries c.in-Some.key c.in-Some.value c.requires
    (ap (λ (l : List (g.row.K.Denot × g.row.V.Denot)). c.entries.map.entries ++ l) (sym c.in-Some.ensures.steps.0) ∙ c.entries.invariant)

pub entries-preserved-in_ok-insert : goal.entries-preserved-in_ok-insert
entries-preserved-in_ok-insert g c =
    ap (λ (l : List (g.row.K.Denot × g.row.V.Denot)). l ++ c.next.new.self.rest.items) c.in_ok-insert.ensures.entries
    ∙ inserted_last g.K.Ord.cmp g.met.K.Ord.total c.entries.map.entries c.next.new.self.rest.items c.args.chosen.contents.entries c.in-Some.key c.in-Some.value c.requires
    (ap (λ (l : List (g.row.K.Denot × g.row.V.Denot)). c.entries.map.entries ++ l) (sym c.in-Some.ensures.steps.0) ∙ c.entries.invariant)

pub returns-in_err-partition : goal.returns-in_err-partition
returns-in_err-partition g c = holding_short c.args.partition.now c.args.codec_config c.args.chosen _ (err_seen seen c.from_residual.result _ c.from_residual.ensures.1)

pub returns-in_err-insert : goal.returns-in_err-insert
returns-in_err-insert g c = holding_short c.args.partition.now c.args.codec_config c.args.chosen _ (err_seen seen c.from_residual-in_err-insert.result _ c.from_residual-in_err-insert.ensures.1)

pub returns : goal.returns
returns g c =
    let none = nil_from_length c.entries.key-iterator.rest.items (omega (arith, c.in-None.ensures.steps.0, c.entries.key-iterator.rest.ok.0)) in
    let all : c.entries.map.entries ≡ c.args.chosen.contents.entries =
    sym (append-nil c.entries.map.entries) ∙ ap (λ (l : List (g.row.K.Denot × g.row.V.Denot)). c.entries.map.entries ++ l) (sym none) ∙ c.entries.invariant in
    record {
      place = c.in_ok-partition.ensures.ok;
      setting = refl;
      has = ap (λ (l : List (g.row.K.Denot × g.row.V.Denot)). record c.args.chosen { contents = record c.args.chosen.contents { entries = l } }) all;
      staged = refl;
    }
