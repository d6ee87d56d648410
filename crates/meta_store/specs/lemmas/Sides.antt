-- The two blobs of a map, by the side that is written next, and how they stand.
use Rattle.std.proofs.Common.{◌≡◌, ◌≢◌, ℕ, List, Ok, sym, ap}
use Rattle.blob_device.specs.Disk.{Key, Disk, settled_at}
use Rattle.meta_store.specs.declared.copy.Contents.{Contents}
use Rattle.meta_store.specs.declared.copy.CopyText.{CopyText}
use Rattle.meta_store.specs.declared.error.Side.{Side}
use Rattle.meta_store.specs.declared.error.Side.TheVariants.{Left, Right}
use Rattle.meta_store.specs.Format.{Format}
use Rattle.meta_store.specs.Copies.{ReadsAs}
use Rattle.meta_store.specs.Blobs.{blob_of, other_side}
use Rattle.meta_store.specs.Store.{Store, Stands}
use Rattle.meta_store.specs.lemmas.Choices.{Is, chosen_on}

pub left_apart : (p : List ℕ) → blob_of p Left ≢ blob_of p Right
left_apart p e = let same = ap (λ (k : Key). k.1) e in cc same

pub sides_apart : (p : List ℕ) (side : Side) → blob_of p (other_side side) ≢ blob_of p side
sides_apart p Left e = left_apart p (sym e)
sides_apart p Right e = left_apart p e

pub neither : (p : List ℕ) (q : Key) (side : Side) → q ≢ blob_of p Left → q ≢ blob_of p Right → q ≢ blob_of p side
neither p q Left left right = left
neither p q Right left right = right

-- both blobs have settled, and they hold this
pub record StandsOn {K V : Type 0} (f : Format K V) (p : List ℕ) (side : Side) (version : ℕ) (contents : Contents K V) (d : Disk) : Type 0 where
  pub mine : List ℕ
  pub theirs : List ℕ
  pub mine_text : CopyText K V
  pub theirs_text : CopyText K V
  pub mine_settled : d (blob_of p side) ≡ settled_at mine
  pub theirs_settled : d (blob_of p (other_side side)) ≡ settled_at theirs
  pub mine_reads : ReadsAs f mine mine_text
  pub theirs_reads : ReadsAs f theirs theirs_text
  pub is : Is (chosen_on side mine_text theirs_text) version side contents

pub stands_on : {K V : Type 0} (f : Format K V) (u : Store K V) (synced : Contents K V) (d : Disk) → Stands f u synced d → StandsOn f u.partition u.older u.version synced d
stands_on {K = K} {V = V} f u synced d stands = on u.older stands.pair.is
  where
    on : (side : Side) → chosen_on Left stands.pair.left_text stands.pair.right_text ≡ Ok (record { version = u.version; older = side; contents = synced }) → StandsOn f u.partition side u.version synced d
    on Left is = record {
      mine = (d (blob_of u.partition Left)).content;
      theirs = (d (blob_of u.partition Right)).content;
      mine_text = stands.pair.left_text;
      theirs_text = stands.pair.right_text;
      mine_settled = stands.left;
      theirs_settled = stands.right;
      mine_reads = stands.pair.left_reads;
      theirs_reads = stands.pair.right_reads;
      is = is;
    }
    on Right is = record {
      mine = (d (blob_of u.partition Right)).content;
      theirs = (d (blob_of u.partition Left)).content;
      mine_text = stands.pair.right_text;
      theirs_text = stands.pair.left_text;
      mine_settled = stands.right;
      theirs_settled = stands.left;
      mine_reads = stands.pair.right_reads;
      theirs_reads = stands.pair.left_reads;
      is = is;
    }
