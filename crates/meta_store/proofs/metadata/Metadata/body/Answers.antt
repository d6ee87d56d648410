use Rattle.std.proofs.Common.{◌≡◌, ◌∙◌, ◌++◌, ℕ, List, sym, ap, subst, arith}
use Rattle.std.specs.Int.{w64, to_be_bytes}
use Rattle.std.specs.List.{AllByRecursion}
use Rattle.std.proofs.lemmas.List.{append-nil, append_assoc}
use Rattle.meta_store.specs.Format.{format_of}
use Rattle.meta_store.specs.Copies.{IsStorable, entry_bytes, entries_bytes, body_bytes}
use Rattle.meta_store.proofs.metadata.Metadata.body.Goals as goal

pub entries-init : goal.entries-init
entries-init g c =
    let f = format_of g.K.Ord.cmp g.K.Key.key_bytes g.V.Codec g.S.Seal c.args.self.now.codec_config in
    let all : c.into_iter-key-iterator.result ≡ c.args.self.now.entries.entries = c.into_iter-key-iterator.ensures.into_iter_gives.0 in
    record {
      written = ap (λ (l : List ℕ). l ++ entries_bytes g.K.Key.key_bytes g.V.Codec.spelling c.into_iter-key-iterator.result)
          (c.in_ok-extend_from_slice.ensures.items ∙ ap (λ (l : List ℕ). l ++ c.to_be_bytes.result) c.new-body.ensures.items ∙ c.to_be_bytes.ensures)
          ∙ ap (λ (l : List (g.row.K.Denot × g.row.V.Denot)). to_be_bytes w64 c.len-count.result ++ entries_bytes g.K.Key.key_bytes g.V.Codec.spelling l) all;
      storable = subst (AllByRecursion (λ e. IsStorable f e.1)) (sym all) c.requires;
    }

pub write_entry-requires : goal.write_entry-requires
write_entry-requires g c =
    (subst (AllByRecursion (λ e. IsStorable _ e.1)) c.in-Some.ensures.steps c.entries.invariant.storable).0.fits

pub entries-preserved : goal.entries-preserved
entries-preserved g c =
    let k = c.in-Some.key.now in
    let v = c.in-Some.value.now in
    record {
      written = ap (λ (l : List ℕ). l ++ entries_bytes g.K.Key.key_bytes g.V.Codec.spelling c.next.new.self) c.in_ok-write_entry.ensures.appended
          ∙ append_assoc c.entries.body.items (entry_bytes g.K.Key.key_bytes g.V.Codec.spelling (k, v)) (entries_bytes g.K.Key.key_bytes g.V.Codec.spelling c.next.new.self)
          ∙ ap (λ (l : List (g.row.K.Denot × g.row.V.Denot)). c.entries.body.items ++ entries_bytes g.K.Key.key_bytes g.V.Codec.spelling l) (sym c.in-Some.ensures.steps)
          ∙ c.entries.invariant.written;
      storable = (subst (AllByRecursion (λ e. IsStorable _ e.1)) c.in-Some.ensures.steps c.entries.invariant.storable).1;
    }

pub returns-clause-body : goal.returns-clause-body
unfolding body_bytes
returns-clause-body g c =
    sym (append-nil c.entries.body.items)
    ∙ ap (λ (l : List (g.row.K.Denot × g.row.V.Denot)). c.entries.body.items ++ entries_bytes g.K.Key.key_bytes g.V.Codec.spelling l) (sym c.in-None.ensures.steps.0)
    ∙ c.entries.invariant.written
    ∙ ap (λ (n : ℕ). to_be_bytes w64 n ++ entries_bytes g.K.Key.key_bytes g.V.Codec.spelling c.args.self.now.entries.entries) c.len-count.ensures.len

pub returns-clause-map : goal.returns-clause-map
returns-clause-map g c = record {
  count = omega (arith, c.len-count.ensures.len, c.len-count.ensures.small);
  ascending = c.len-count.ensures.ordered;
  storable = c.requires;
}
