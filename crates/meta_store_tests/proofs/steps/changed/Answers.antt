use Rattle.std.proofs.Common.{◌≡◌, ℕ, Option, sym, ap, subst, rules}
use Rattle.std.specs.Prelude.{OnSome, IfNone}
use Rattle.std.specs.Borrow.{MutBor}
use Rattle.value_codec.specs.declared.key.Key8.{Key8}
use Rattle.value_codec.specs.declared.seal.Sha256Seal.{Sha256Seal}
use Rattle.meta_store.specs.declared.metadata.Metadata.{Metadata}
use Rattle.meta_store.specs.Lends.{WroteValue, SameMap}
use Rattle.meta_store.specs.Store.{Store, shown, MayBeSynced}
use Rattle.meta_store.specs.lemmas.Uses.{wrote_storable}
use Rattle.meta_store_tests.specs.Over.{map_format}
use Rattle.meta_store_tests.proofs.steps.changed.Goals as goal
use Rattle.meta_store_tests.proofs.steps.changed.Goals.{in-Some, in-None}

pub returns-clause-storable : goal.returns-clause-storable
returns-clause-storable c = elim c.match-get_mut.branch [
  | in-Some w ↦
      let new = c.get_mut.follows.lender c.args.value in
      let wrote : WroteValue map_format.compare c.args.key.now c.args.value c.args.map new =
      subst (λ (o : Option (MutBor ℕ)). OnSome o (WroteValue map_format.compare c.args.key.now c.args.value c.args.map new)) w.in-Some.is (c.get_mut.follows.holds c.args.value) in
      subst (λ (m : Metadata Key8 ℕ Sha256Seal (Unit {0})). MayBeSynced map_format m.entries.entries) (sym w.map-is)
      (wrote_storable map_format c.args.key.now c.args.value c.args.map new wrote c.requires (record { accepted = c.ranges.value.fits; fits = search rules }))
  | in-None w ↦
      let new = c.get_mut.follows.lender-at-none in
      let same : SameMap c.args.map new = subst (λ (o : Option (MutBor ℕ)). IfNone o (SameMap c.args.map new)) w.in-None.is c.get_mut.follows.holds-at-none in
      subst (λ (m : Metadata Key8 ℕ Sha256Seal (Unit {0})). MayBeSynced map_format m.entries.entries) (sym w.map-is)
      (subst (MayBeSynced map_format) (sym (ap (λ (u : Store Key8 ℕ). u.entries) same.same)) c.requires)
]

pub returns-clause-partition : goal.returns-clause-partition
returns-clause-partition c = elim c.match-get_mut.branch [
  | in-Some w ↦
      let new = c.get_mut.follows.lender c.args.value in
      let wrote : WroteValue map_format.compare c.args.key.now c.args.value c.args.map new =
      subst (λ (o : Option (MutBor ℕ)). OnSome o (WroteValue map_format.compare c.args.key.now c.args.value c.args.map new)) w.in-Some.is (c.get_mut.follows.holds c.args.value) in
      subst (λ (m : Metadata Key8 ℕ Sha256Seal (Unit {0})). (shown m).partition ≡ (shown c.args.map).partition) (sym w.map-is) (ap (λ (u : Store Key8 ℕ). u.partition) wrote.same)
  | in-None w ↦
      let new = c.get_mut.follows.lender-at-none in
      let same : SameMap c.args.map new = subst (λ (o : Option (MutBor ℕ)). IfNone o (SameMap c.args.map new)) w.in-None.is c.get_mut.follows.holds-at-none in
      subst (λ (m : Metadata Key8 ℕ Sha256Seal (Unit {0})). (shown m).partition ≡ (shown c.args.map).partition) (sym w.map-is) (ap (λ (u : Store Key8 ℕ). u.partition) same.same)
]
