-- How a map stands on its device while changes are staged.
use Rattle.std.proofs.Common.{◌≡◌, false, sym, ◌∙◌, subst}
use Rattle.blob_device.specs.Disk.{Disk}
use Rattle.meta_store.specs.declared.copy.Contents.{Contents}
use Rattle.meta_store.specs.Format.{Format}
use Rattle.meta_store.specs.Store.{Store, Stands, contents_of}

pub stands_changed : {K V : Type 0} (f : Format K V) (u v : Store K V) (synced : Contents K V) (d : Disk) → v ≡ record u { entries = v.entries; floor = v.floor; staged = v.staged } → (v.staged ≡ false → (u.staged ≡ false) × (contents_of v ≡ contents_of u))
    → Stands f u synced d → Stands f v synced d
stands_changed {K = K} {V = V} f u v synced d same fresh stands =
    subst (λ (x : Store K V). Stands f x synced d) (sym same) (record {
      left = stands.left;
      right = stands.right;
      pair = stands.pair;
      fresh = λ e. let was = fresh e in was.1 ∙ stands.fresh was.0;
    })
