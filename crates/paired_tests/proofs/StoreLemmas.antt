-- What is open stays so where the device's moment and what it has open are the same.
use Rattle.std.specs.Prelude.{◌≡◌}
use Rattle.std.proofs.Common.{sym, subst}
use Rattle.blob_device.specs.Opened.{OpenedList}
use Rattle.blob_device.specs.Timeline.{Timeline}
use Rattle.paired_tests.specs.declared.store.Store.{Store}
use Rattle.paired_tests.specs.Stores.{IsOpenAt}

pub stays : {o p : OpenedList} {t u : Timeline} (s : Store) → p ≡ o → u ≡ t → IsOpenAt o t s → IsOpenAt p u s
stays {o} {p} {t} {u} s opened time is =
    subst (λ (x : OpenedList). IsOpenAt x u s) (sym opened) (subst (λ (x : Timeline). IsOpenAt o x s) (sym time) is)
