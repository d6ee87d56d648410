use Rattle.std.proofs.Common.{arith, rules}
use Rattle.meta_store.specs.Entries.{AnswersAt, Retained}
use Rattle.meta_store.specs.Format.{format_of}
use Rattle.meta_store.specs.Store.{seen}
use Rattle.meta_store.proofs.Inserting.{retained_from}
use Rattle.meta_store.proofs.StagingLemmas.{retains_all, retains_fewer}
use Rattle.meta_store.proofs.metadata.Metadata.retain.Goals as goal

pub returns-then-len-before : goal.returns-then-len-before
returns-then-len-before g c =
    let kept : Retained (AnswersAt g.F.Fn c.args.keep) c.args.self.now.entries.entries c.retain.new.self.entries = retained_from _ _ _ _ _ c.retain.ensures.filtered (λ k v b w f' t. search rules) in
    retains_fewer (format_of g.K.Ord.cmp g.K.Key.key_bytes g.V.Codec g.S.Seal) (seen c.args.self.now) (AnswersAt g.F.Fn c.args.keep) c.retain.new.self.entries kept
    (omega (arith, c.if-len-before.true, c.len-before.ensures.len, c.len.ensures.len))

pub returns : goal.returns
returns g c =
    let kept : Retained (AnswersAt g.F.Fn c.args.keep) c.args.self.now.entries.entries c.retain.new.self.entries = retained_from _ _ _ _ _ c.retain.ensures.filtered (λ k v b w f' t. search rules) in
    retains_all (format_of g.K.Ord.cmp g.K.Key.key_bytes g.V.Codec g.S.Seal) (seen c.args.self.now) (AnswersAt g.F.Fn c.args.keep) c.retain.new.self.entries kept
    (omega (arith, c.if-len-before.false, c.len-before.ensures.len, c.len.ensures.len))
