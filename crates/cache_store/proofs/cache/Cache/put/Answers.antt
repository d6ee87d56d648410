use Rattle.std.proofs.Common.{inl, inr, sym, ◌∙◌, arith}
use Rattle.segments.specs.lemmas.adding.Write.{are_pages}
use Rattle.cache_store.specs.Shown.{shown}
use Rattle.cache_store.proofs.CallLemmas.{put_skipped}
use Rattle.cache_store.proofs.cache.Cache.put.Goals as goal
use Rattle.cache_store.proofs.cache.Cache.put.Goals.{then-index-self-via-then-index-self, then-index-self-via-else-index-self+then-has}

-- the index is below the floor, or it is held
pub returns-then-index-self : goal.returns-then-index-self
returns-then-index-self g c =
    let a = shown g.V.Codec.refusal c.args.self in
    put_skipped _ _ g.D.Device a (are_pages g.row.S g.S.Seal g.S.Seal-dict) c.args.dev.now c.requires.over _ c.args.index (g.V.Codec.spelling c.args.value)
    (elim c.then-index-self.branch [
      | then-index-self-via-then-index-self w ↦ inl w.if-index-self.true
      | then-index-self-via-else-index-self+then-has w ↦ inr (sym w.has.ensures.memory ∙ w.if-has.true)
    ])

pub append-requires-clause-floor : goal.append-requires-clause-floor
append-requires-clause-floor g c = omega (arith, c.if-index-self.false)

pub returns : goal.returns
returns g c = c.append.ensures
