-- The entries of the two blobs in the list of opened blobs while a map is opened: each blob is opened, and read once or not.
use Rattle.std.proofs.Common.{◌≡◌, ◌≢◌, ◌⊎◌, inl, inr, ℕ, ◌≤◌, List, Option, Some, None, IsSome, IsSomeAnd, refl, sym, ◌∙◌, ap, subst, arith}
use Rattle.std.specs.Option.{option_map}
use Rattle.blob_device.specs.Disk.{Key}
use Rattle.blob_device.specs.Opened.{Opened, OpenedList, entered, one_more_read, reads_of}
use Rattle.blob_device.specs.Counts.{next}
use Rattle.blob_device.specs.lemmas.Puts.{put_same}
use Rattle.blob_device.specs.lemmas.Opened.{entered_open, entered_fits, entered_other, updated_open, updated_other}
use Rattle.meta_store.specs.declared.error.Side.TheVariants.{Left, Right}
use Rattle.meta_store.specs.Blobs.{blob_of}
use Rattle.meta_store.specs.Calls.{IsOpened, MayRead, OthersOpened, NoReads, ReadAtMostOnce}
use Rattle.meta_store.specs.lemmas.Sides.{left_apart}

module _ (p : List ℕ) (n m : ℕ) (a b : OpenedList) (both : b ≡ entered (entered a (blob_of p Left) n) (blob_of p Right) m) where
  left_entry : b (blob_of p Left) ≡ entered a (blob_of p Left) n (blob_of p Left)
  left_entry = entered_other b (entered a (blob_of p Left) n) (blob_of p Right) (blob_of p Left) m both (left_apart p)

  pub left_fits : IsSomeAnd (b (blob_of p Left)) (λ o. n ≤ o.len)
  left_fits = subst (λ (o : Option Opened). IsSomeAnd o (λ e. n ≤ e.len)) (sym left_entry) (entered_fits (entered a (blob_of p Left) n) a (blob_of p Left) n n refl (omega arith))

  right_fits : IsSomeAnd (b (blob_of p Right)) (λ o. m ≤ o.len)
  right_fits = entered_fits b (entered a (blob_of p Left) n) (blob_of p Right) m m both (omega arith)

  pub both_opened : IsOpened p b
  both_opened = record {
    left = subst IsSome (sym left_entry) (entered_open (entered a (blob_of p Left) n) a (blob_of p Left) n refl);
    right = entered_open b (entered a (blob_of p Left) n) (blob_of p Right) m both;
  }

read_other : (k q : Key) (a b : OpenedList) → MayRead k a b → q ≢ k → b q ≡ a q
read_other k q a b (inl same) other = ap (λ (o : OpenedList). o q) same
read_other k q a b (inr is) other = updated_other b a k q one_more_read is other

-- the right one still fits after a read of the left one
pub then_right_fits : (p : List ℕ) (n m : ℕ) (a b c : OpenedList) → b ≡ entered (entered a (blob_of p Left) n) (blob_of p Right) m → MayRead (blob_of p Left) b c → IsSomeAnd (c (blob_of p Right)) (λ o. m ≤ o.len)
then_right_fits p n m a b c both read =
    subst (λ (o : Option Opened). IsSomeAnd o (λ e. m ≤ e.len)) (sym (read_other (blob_of p Left) (blob_of p Right) b c read (λ e. left_apart p (sym e)))) (right_fits p n m a b both)

read_open : (k q : Key) (a b : OpenedList) → MayRead k a b → q ≢ k → IsSome (a k) → IsSome (b k)
read_open k q a b (inl same) other was = subst (λ (o : OpenedList). IsSome (o k)) (sym same) was
read_open k q a b (inr is) other was = updated_open b a k one_more_read is was

once : (k : Key) (a b : OpenedList) → MayRead k a b → ReadAtMostOnce k a b
once k a b (inl same) = inl (ap (λ (o : OpenedList). reads_of (o k)) same)
once k a b (inr is) = subst (λ (e : Option Opened). (reads_of e ≡ reads_of (a k)) ⊎ (reads_of e ≡ next (reads_of (a k)))) (sym (ap (λ (o : OpenedList). o k) is ∙ put_same a k _)) (counted (a k))
  where
    counted : (e : Option Opened) → (reads_of (option_map one_more_read e) ≡ reads_of e) ⊎ (reads_of (option_map one_more_read e) ≡ next (reads_of e))
    counted None = inl refl
    counted (Some o) = inr refl

once_from : (k : Key) (a b c : OpenedList) → reads_of (b k) ≡ reads_of (a k) → ReadAtMostOnce k b c → ReadAtMostOnce k a c
once_from k a b c same = λ r. subst (λ (n : ℕ). (reads_of (c k) ≡ n) ⊎ (reads_of (c k) ≡ next n)) same r

once_to : (k : Key) (a b c : OpenedList) → c k ≡ b k → ReadAtMostOnce k a b → ReadAtMostOnce k a c
once_to k a b c same r = subst (λ (e : Option Opened). (reads_of e ≡ reads_of (a k)) ⊎ (reads_of e ≡ next (reads_of (a k)))) (sym same) r

-- the left one is read
module _ (p : List ℕ) (a b c : OpenedList) (entries : OthersOpened p a b) (none : NoReads p a b) (first : MayRead (blob_of p Left) b c) where
  pub first_left : ReadAtMostOnce (blob_of p Left) a c
  first_left = once_from (blob_of p Left) a b c none.left (once (blob_of p Left) b c first)

  right_entry : c (blob_of p Right) ≡ b (blob_of p Right)
  right_entry = read_other (blob_of p Left) (blob_of p Right) b c first (λ e. left_apart p (sym e))

  pub first_right : ReadAtMostOnce (blob_of p Right) a c
  first_right = inl (ap reads_of right_entry ∙ none.right)

  pub first_others : OthersOpened p a c
  first_others q l r = read_other (blob_of p Left) q b c first l ∙ entries q l r

  -- and the right one
  module _ (d : OpenedList) (second : MayRead (blob_of p Right) c d) where
    pub both_left : ReadAtMostOnce (blob_of p Left) a d
    both_left = once_to (blob_of p Left) a c d (read_other (blob_of p Right) (blob_of p Left) c d second (left_apart p)) first_left

    pub both_right : ReadAtMostOnce (blob_of p Right) a d
    both_right = once_from (blob_of p Right) a c d (ap reads_of right_entry ∙ none.right) (once (blob_of p Right) c d second)

    pub both_others : OthersOpened p a d
    both_others q l r = read_other (blob_of p Right) q c d second r ∙ first_others q l r

    pub still_opened : IsOpened p b → IsOpened p d
    still_opened was = record {
      left = subst IsSome (sym (read_other (blob_of p Right) (blob_of p Left) c d second (left_apart p))) (read_open (blob_of p Left) (blob_of p Right) b c first (λ e. left_apart p (sym e)) was.left);
      right = read_open (blob_of p Right) (blob_of p Left) c d second (left_apart p) (subst IsSome (sym right_entry) was.right);
    }
