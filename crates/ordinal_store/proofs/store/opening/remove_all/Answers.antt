use Rattle.std.proofs.Common.{sym, subst, arith}
use Rattle.blob_device.specs.Disk.{AreNamesIn, Disk}
use Rattle.ordinal_store.specs.Emptying.{IsIn}
use Rattle.ordinal_store.specs.Stores.{sight}
use Rattle.ordinal_store.proofs.EmptyingLemmas.{scanned, same_disk, emptying_since, emptying_failed}
use Rattle.ordinal_store.proofs.store.opening.remove_all.Goals as goal

pub remove_named-requires : goal.remove_named-requires
remove_named-requires g c = record {
  named = λ t. subst (λ (d : Disk). AreNamesIn d c.args.partition.now c.in_ok-names.names)
      (sym (same_disk (IsIn c.args.partition.now) g.D.Device.Tells (sight g.D.Device c.args.dev.now) (sight g.D.Device c.scan.new.self) _ c.scan.result c.scan.ensures.told t)) (c.in_ok-names.ensures.names t);
}

pub returns-in_err-names : goal.returns-in_err-names
returns-in_err-names g c =
    let old = sight g.D.Device c.args.dev.now in
    let new = sight g.D.Device c.scan.new.self in
    emptying_failed (IsIn c.args.partition.now) g.D.Device.Tells old old new (omega arith)
    (scanned (IsIn c.args.partition.now) g.D.Device.Tells old new _ c.scan.result c.scan.ensures.told c.scan.ensures.opened c.scan.ensures.counts.later)
    c.from_residual.result c.in_err-names.field-0.0 c.from_residual.ensures.1 (λ is. c.in_err-names.ensures.counts.cause (cc is))

pub returns : goal.returns
returns g c = emptying_since (IsIn c.args.partition.now) g.D.Device.Tells (sight g.D.Device c.args.dev.now) (sight g.D.Device c.scan.new.self) _ c.scan.result c.scan.ensures.told
    (sight g.D.Device c.remove_named.new.dev) c.scan.ensures.opened c.scan.ensures.counts.later c.remove_named.result c.remove_named.ensures
