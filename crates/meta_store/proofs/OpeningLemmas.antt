-- What opening the two blobs, the left one first, makes of them.
use Rattle.std.proofs.Common.{◌≡◌, ◌≢◌, inl, inr, ℕ, Bool, true, false, cond, List, [], Result, Ok, Err, Some, None, unwrap_or, refl, sym, ◌∙◌, ap, subst}
use Rattle.blob_device.specs.declared.error.DevError.{DevError}
use Rattle.blob_device.specs.Disk.{Key, Blob, settled_at}
use Rattle.blob_device.specs.Change.{Make, done, FailedTo}
use Rattle.blob_device.specs.Timeline.{Timeline, disk, Passes, Always, OnlyAt}
use Rattle.blob_device.specs.lemmas.Moments.{always_now, always_then, always_weaker, only_start, only_on, ok_blob, err_has}
use Rattle.meta_store.specs.declared.error.Side.TheVariants.{Left, Right}
use Rattle.meta_store.specs.Blobs.{blob_of, read_bytes}
use Rattle.meta_store.specs.Opening.{Opens, as_before, begun, made, settled, Opening}
use Rattle.meta_store.specs.lemmas.Sides.{left_apart}

-- what an opening that returned Ok makes of a blob
pub opened_settles : (old : Blob) → done Make old ≡ settled_at (read_bytes old)
opened_settles old = ap settled_at (by_there old.there old.content)
  where
    by_there : (there : Bool) (c : List ℕ) → cond there c [] ≡ unwrap_or (cond there (Some c) None) []
    by_there true c = refl
    by_there false c = refl

opens_failed : (old new : Blob) → FailedTo Make old new → Opens old new
opens_failed old new (inl is) = begun is
opens_failed old new (inr is) = made is

-- one blob is opened
opening : {T : Type 0} (k : Key) (r : Result T DevError) (a b : Timeline) → Passes k Make r a b → Always a b (OnlyAt k (disk a) (Opens (disk a k)))
opening {T = T} k r a b passes = only_on a a b k (disk a) (Opens (disk a k)) Make r (only_start a k (Opens (disk a k)) (as_before refl)) passes (begun refl) (after r passes)
  where
    after : (s : Result T DevError) → Passes k Make s a b → Opens (disk a k) (disk b k)
    after (Ok v) p = settled (ok_blob k Make v a b p ∙ opened_settles (disk a k))
    after (Err e) p = err_has {T = T} (Opens (disk a k)) k Make e a b p (as_before refl) (λ new failed. opens_failed (disk a k) new failed)

module _ (p : List ℕ) {T : Type 0} (k : Key) (a b : Timeline) (key : k ≡ blob_of p Left) where
  -- the left one is
  pub left_opening : (r : Result T DevError) → Passes k Make r a b → Always a b (Opening p (disk a))
  left_opening r passes = always_weaker a b (OnlyAt (blob_of p Left) (disk a) (Opens (disk a (blob_of p Left)))) (Opening p (disk a))
      (λ d only. record {
        left = only.here;
        right = as_before (only.others (blob_of p Right) (λ e. left_apart p (sym e)));
        order = inl (only.others (blob_of p Right) (λ e. left_apart p (sym e)));
        others = λ q left right. only.others q left;
      })
      (opening (blob_of p Left) r a b (subst (λ (x : Key). Passes x Make r a b) key passes))

  -- it has been, and the right one is
  module _ {U : Type 0} (l : Key) (v : T) (r : Result U DevError) (c : Timeline) (key' : l ≡ blob_of p Right) (first : Passes k Make (Ok v) a b) (second : Passes l Make r b c) where
    first_at : Passes (blob_of p Left) Make (Ok v) a b
    first_at = subst (λ (x : Key). Passes x Make (Ok v) a b) key first

    second_at : Passes (blob_of p Right) Make r b c
    second_at = subst (λ (x : Key). Passes x Make r b c) key' second

    left_between : disk b (blob_of p Left) ≡ settled_at (read_bytes (disk a (blob_of p Left)))
    left_between = ok_blob (blob_of p Left) Make v a b first_at ∙ opened_settles (disk a (blob_of p Left))

    others_between : (q : Key) → q ≢ blob_of p Left → disk b q ≡ disk a q
    others_between = (always_now a b (OnlyAt (blob_of p Left) (disk a) (Opens (disk a (blob_of p Left)))) (opening (blob_of p Left) (Ok v) a b first_at)).others

    right_between : disk b (blob_of p Right) ≡ disk a (blob_of p Right)
    right_between = others_between (blob_of p Right) (λ e. left_apart p (sym e))

    pub right_opening : Always a c (Opening p (disk a))
    right_opening = always_then a b c (Opening p (disk a)) (left_opening (Ok v) first)
        (always_weaker b c (OnlyAt (blob_of p Right) (disk b) (Opens (disk b (blob_of p Right)))) (Opening p (disk a))
        (λ d only. record {
          left = settled (only.others (blob_of p Left) (left_apart p) ∙ left_between);
          right = subst (λ (x : Blob). Opens x (d (blob_of p Right))) right_between only.here;
          order = inr (only.others (blob_of p Left) (left_apart p) ∙ left_between);
          others = λ q left right. only.others q right ∙ others_between q left;
        })
        (opening (blob_of p Right) r b c second_at))

    pub left_opened : disk c (blob_of p Left) ≡ settled_at (read_bytes (disk a (blob_of p Left)))
    left_opened = (always_now b c (OnlyAt (blob_of p Right) (disk b) (Opens (disk b (blob_of p Right)))) (opening (blob_of p Right) r b c second_at)).others (blob_of p Left) (left_apart p) ∙ left_between

    -- the left one stays as it was between the calls
    pub left_stays : disk c (blob_of p Left) ≡ disk b (blob_of p Left)
    left_stays = left_opened ∙ sym left_between

  module _ {U : Type 0} (l : Key) (v : T) (w : U) (c : Timeline) (key' : l ≡ blob_of p Right) (first : Passes k Make (Ok v) a b) (second : Passes l Make (Ok w) b c) where
    pub right_opened : disk c (blob_of p Right) ≡ settled_at (read_bytes (disk a (blob_of p Right)))
    right_opened = ok_blob (blob_of p Right) Make w b c (second_at l v (Ok w) c key' first second) ∙ opened_settles (disk b (blob_of p Right)) ∙ ap (λ (x : Blob). settled_at (read_bytes x)) (right_between l v (Ok w) c key' first second)
