-- The entries of the two blobs in the list of opened blobs.
use Rattle.std.proofs.Common.{◌≡◌, ◌⊎◌, inl, inr, ℕ, List, Option, Some, None, IsSome, refl, sym, ◌∙◌, ap, subst}
use Rattle.std.specs.Option.{option_map}
use Rattle.blob_device.specs.Disk.{Key}
use Rattle.blob_device.specs.Opened.{Opened, OpenedList, left, entered, updated, reads_of, with_len, PartlyGrown}
use Rattle.blob_device.specs.lemmas.Puts.{put_same}
use Rattle.blob_device.specs.lemmas.Opened.{left_other, entered_other, updated_open, updated_other}
use Rattle.meta_store.specs.declared.error.Side.{Side}
use Rattle.meta_store.specs.declared.error.Side.TheVariants.{Left, Right}
use Rattle.meta_store.specs.Blobs.{blob_of, other_side}
use Rattle.meta_store.specs.Calls.{IsOpened, OthersOpened, NoReads}
use Rattle.meta_store.proofs.Sides.{both_sides}
use Rattle.meta_store.specs.lemmas.Sides.{neither, sides_apart}

-- a removal touches no other entry
pub removed_others : (p : List ℕ) (side : Side) (k : Key) (old new : OpenedList) → k ≡ blob_of p side → (new ≡ old) ⊎ (new ≡ left old k) → OthersOpened p old new
removed_others p side k old new key (inl same) q l r = ap (λ (o : OpenedList). o q) same
removed_others p side k old new key (inr is) q l r = left_other new old k q is (λ e. neither p q side l r (e ∙ key))

pub others_then : (p : List ℕ) (a b c : OpenedList) → OthersOpened p a b → OthersOpened p b c → OthersOpened p a c
others_then p a b c first second q l r = second q l r ∙ first q l r

-- an entry is as it was, or gone
abbrev pub Listed : List ℕ → OpenedList → OpenedList → Type 0
Listed p old new = (s : Side) → (new (blob_of p s) ≡ old (blob_of p s)) ⊎ (new (blob_of p s) ≡ None)

pub removed_listed : (p : List ℕ) (side : Side) (k : Key) (old new : OpenedList) → k ≡ blob_of p side → (new ≡ old) ⊎ (new ≡ left old k) → Listed p old new
removed_listed p side k old new key (inl same) s = inl (ap (λ (o : OpenedList). o (blob_of p s)) same)
removed_listed p side k old new key (inr is) s = both_sides p side s (λ q. (new q ≡ old q) ⊎ (new q ≡ None))
    (inr (subst (λ (q : Key). new q ≡ None) key (ap (λ (o : OpenedList). o k) is ∙ put_same old k None)))
    (inl (left_other new old k (blob_of p (other_side side)) is (λ e. sides_apart p side (e ∙ key))))

pub listed_then : (p : List ℕ) (a b c : OpenedList) → Listed p a b → Listed p b c → Listed p a c
listed_then p a b c first second s = then (first s) (second s)
  where
    then : (b (blob_of p s) ≡ a (blob_of p s)) ⊎ (b (blob_of p s) ≡ None) → (c (blob_of p s) ≡ b (blob_of p s)) ⊎ (c (blob_of p s) ≡ None) → (c (blob_of p s) ≡ a (blob_of p s)) ⊎ (c (blob_of p s) ≡ None)
    then x (inr none) = inr none
    then (inl same) (inl stays) = inl (stays ∙ same)
    then (inr none) (inl stays) = inr (stays ∙ none)

-- both entries are gone
pub both_left : (p : List ℕ) (side : Side) (k l : Key) (a b c : OpenedList) → k ≡ blob_of p side → l ≡ blob_of p (other_side side) → b ≡ left a k → c ≡ left b l → (s : Side) → c (blob_of p s) ≡ None
both_left p side k l a b c key key' first second s = both_sides p side s (λ q. c q ≡ None) mine theirs
  where
    gone : (x y : OpenedList) (q : Key) → y ≡ left x q → y q ≡ None
    gone x y q is = ap (λ (o : OpenedList). o q) is ∙ put_same x q None

    mine : c (blob_of p side) ≡ None
    mine = left_other c b l (blob_of p side) second (λ e. sides_apart p side (sym (e ∙ key'))) ∙ subst (λ (q : Key). b q ≡ None) key (gone a b k first)

    theirs : c (blob_of p (other_side side)) ≡ None
    theirs = subst (λ (q : Key). c q ≡ None) key' (gone b c l second)

-- a call changed one of the two entries so, and no read began
pub record Grew (p : List ℕ) (side : Side) (old new : OpenedList) : Type 0 where
  pub change : Opened → Opened
  pub is : new ≡ updated old (blob_of p side) change
  pub reads : (o : Opened) → (change o).reads ≡ o.reads

pub grew_opened : (p : List ℕ) (side : Side) (old new : OpenedList) → Grew p side old new → IsOpened p old → IsOpened p new
grew_opened p Left old new g was = record {
  left = updated_open new old (blob_of p Left) g.change g.is was.left;
  right = subst IsSome (sym (updated_other new old (blob_of p Left) (blob_of p Right) g.change g.is (sides_apart p Left))) was.right;
}
grew_opened p Right old new g was = record {
  left = subst IsSome (sym (updated_other new old (blob_of p Right) (blob_of p Left) g.change g.is (sides_apart p Right))) was.left;
  right = updated_open new old (blob_of p Right) g.change g.is was.right;
}

pub grew_others : (p : List ℕ) (side : Side) (old new : OpenedList) → Grew p side old new → OthersOpened p old new
grew_others p side old new g q l r = updated_other new old (blob_of p side) q g.change g.is (neither p q side l r)

pub grew_reads : (p : List ℕ) (side : Side) (old new : OpenedList) → Grew p side old new → NoReads p old new
grew_reads p side old new g = record { left = each Left; right = each Right }
  where
    mapped : (o : Option Opened) → reads_of (option_map g.change o) ≡ reads_of o
    mapped None = refl
    mapped (Some o) = g.reads o

    each : (s : Side) → reads_of (new (blob_of p s)) ≡ reads_of (old (blob_of p s))
    each s = both_sides p side s (λ k. reads_of (new k) ≡ reads_of (old k))
        (ap reads_of (ap (λ (o : OpenedList). o (blob_of p side)) g.is ∙ put_same old (blob_of p side) _) ∙ mapped (old (blob_of p side)))
        (ap reads_of (updated_other new old (blob_of p side) (blob_of p (other_side side)) g.change g.is (sides_apart p side)))

pub grew_at : (p : List ℕ) (side : Side) (k : Key) (old new : OpenedList) (change : Opened → Opened) → k ≡ blob_of p side → new ≡ updated old k change → ((o : Opened) → (change o).reads ≡ o.reads) → Grew p side old new
grew_at p side k old new change key is reads = record { change = change; is = is ∙ ap (λ (x : Key). updated old x change) key; reads = reads }

pub grew_partly : (p : List ℕ) (side : Side) (k : Key) (end : ℕ) (old new : OpenedList) → k ≡ blob_of p side → PartlyGrown k end old new → Grew p side old new
grew_partly p side k end old new key grown = grew_at p side k old new (with_len grown.len) key grown.is (λ o. refl)

pub grew_then : (p : List ℕ) (side : Side) (old new last : OpenedList) → Grew p side old new → last ≡ new → Grew p side old last
grew_then p side old new last g same = record { change = g.change; is = same ∙ g.is; reads = g.reads }

pub opened_at : (p : List ℕ) (opened : OpenedList) (side : Side) (k : Key) → k ≡ blob_of p side → IsOpened p opened → IsSome (opened k)
opened_at p opened Left k key both = subst (λ (x : Key). IsSome (opened x)) (sym key) both.left
opened_at p opened Right k key both = subst (λ (x : Key). IsSome (opened x)) (sym key) both.right

-- an opening begins no read and touches no other entry
pub entered_reads : (p : List ℕ) (side : Side) (k : Key) (n : ℕ) (old new : OpenedList) → k ≡ blob_of p side → new ≡ entered old k n → NoReads p old new
entered_reads p side k n old new key is = record { left = each Left; right = each Right }
  where
    at : new ≡ entered old (blob_of p side) n
    at = is ∙ ap (λ (x : Key). entered old x n) key

    each : (s : Side) → reads_of (new (blob_of p s)) ≡ reads_of (old (blob_of p s))
    each s = both_sides p side s (λ q. reads_of (new q) ≡ reads_of (old q))
        (ap reads_of (ap (λ (o : OpenedList). o (blob_of p side)) at ∙ put_same old (blob_of p side) _))
        (ap reads_of (entered_other new old (blob_of p side) (blob_of p (other_side side)) n at (sides_apart p side)))

pub entered_others : (p : List ℕ) (side : Side) (k : Key) (n : ℕ) (old new : OpenedList) → k ≡ blob_of p side → new ≡ entered old k n → OthersOpened p old new
entered_others p side k n old new key is q l r = entered_other new old k q n is (λ e. neither p q side l r (e ∙ key))

pub reads_then : (p : List ℕ) (a b c : OpenedList) → NoReads p a b → NoReads p b c → NoReads p a c
reads_then p a b c first second = record { left = second.left ∙ first.left; right = second.right ∙ first.right }

pub reads_stay : (p : List ℕ) (a b : OpenedList) → b ≡ a → NoReads p a b
reads_stay p a b same = record { left = ap (λ (o : OpenedList). reads_of (o (blob_of p Left))) same; right = ap (λ (o : OpenedList). reads_of (o (blob_of p Right))) same }
