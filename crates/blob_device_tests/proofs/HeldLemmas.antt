-- A blob that is open stays so through the calls of a device.
use Rattle.std.proofs.Common.{◌≡◌, ℕ, ◌≤◌, max, Option, Some, None, IsSome, IsSomeAnd, IfSome, refl, sym, ◌∙◌, ap, subst, arith}
use Rattle.std.specs.Option.{option_map}
use Rattle.blob_device.specs.Disk.{Key}
use Rattle.blob_device.specs.Opened.{Opened, OpenedList, updated, with_len, one_more_read, PartlyGrown}
use Rattle.blob_device.specs.lemmas.Puts.{put_same}
use Rattle.blob_device_tests.specs.declared.disk.Held.{Held}
use Rattle.blob_device_tests.specs.Holding.{IsHeld}

-- a blob whose entry was changed, where the change keeps a length
pub updated_held : (new old : OpenedList) (k : Key) (f : Opened → Opened) (len len' : ℕ) → new ≡ updated old k f → ((o : Opened) → len ≤ o.len → len' ≤ (f o).len)
    → IsSomeAnd (old k) (λ o. len ≤ o.len) → IsSomeAnd (new k) (λ o. len' ≤ o.len)
updated_held new old k f len len' same keeps was = subst (λ (o : Option Opened). IsSomeAnd o (λ e. len' ≤ e.len)) (sym (ap (λ (o : OpenedList). o k) same ∙ put_same old k _)) (mapped (old k) was)
  where
    mapped : (o : Option Opened) → IsSomeAnd o (λ e. len ≤ e.len) → IsSomeAnd (option_map f o) (λ e. len' ≤ e.len)
    mapped None was = was
    mapped (Some x) was = keeps x was

-- the same blob under an equal key
pub held_at : (opened : OpenedList) (k k' : Key) (len : ℕ) → k ≡ k' → IsSomeAnd (opened k) (λ o. len ≤ o.len) → IsSomeAnd (opened k') (λ o. len ≤ o.len)
held_at opened k k' len is was = subst (λ (q : Key). IsSomeAnd (opened q) (λ o. len ≤ o.len)) is was

-- the calls name the blob by a key that is its own
module _ (new old : OpenedList) (k k' : Key) (is : k ≡ k') (len : ℕ) (was : IsSomeAnd (old k') (λ o. len ≤ o.len)) where
  pub changed_as : (f : Opened → Opened) (len' : ℕ) → new ≡ updated old k f → ((o : Opened) → len ≤ o.len → len' ≤ (f o).len) → IsSomeAnd (new k') (λ o. len' ≤ o.len)
  changed_as f len' same keeps = held_at new k k' len' is (updated_held new old k f len len' same keeps (held_at old k' k len (sym is) was))

  pub read_as : new ≡ updated old k one_more_read → IsSomeAnd (new k') (λ o. len ≤ o.len)
  read_as same = changed_as one_more_read len same (λ o le. le)

  pub written_as : (end len' : ℕ) → len' ≤ max len end → new ≡ updated old k (λ o. with_len (max o.len end) o) → IsSomeAnd (new k') (λ o. len' ≤ o.len)
  written_as end len' fits same = changed_as (λ o. with_len (max o.len end) o) len' same (λ o le. omega (arith, le, fits))

  pub resized_as : (end : ℕ) → new ≡ updated old k (with_len end) → IsSomeAnd (new k') (λ o. end ≤ o.len)
  resized_as end same = changed_as (with_len end) end same (λ o le. omega arith)

  pub grown_as : (end : ℕ) → PartlyGrown k end old new → IsSomeAnd (new k') (λ o. len ≤ o.len)
  grown_as end grown = held_at new k k' len is (subst (λ (o : Option Opened). IsSomeAnd o (λ e. len ≤ e.len)) (sym (ap (λ (o : OpenedList). o k) grown.is ∙ put_same old k _)) (mapped (old k) grown.no_shorter (held_at old k' k len (sym is) was)))
    where
      mapped : (o : Option Opened) → IfSome o (λ e. e.len ≤ grown.len) → IsSomeAnd o (λ e. len ≤ e.len) → IsSomeAnd (option_map (with_len grown.len) o) (λ e. len ≤ e.len)
      mapped None longer stood = stood
      mapped (Some x) longer stood = omega (arith, longer, stood)

pub held_some : (o : Option Opened) (len : ℕ) → IsSomeAnd o (λ e. len ≤ e.len) → IsSome o
held_some None len was = absurd was
held_some (Some x) len was = refl

-- where the list stays, so does the blob
pub list_stays : (held : Option Held) (old new : OpenedList) → new ≡ old → IfSome held (λ h. IsHeld h old) → IfSome held (λ h. IsHeld h new)
list_stays held old new same was = subst (λ (o : OpenedList). IfSome held (λ h. IsHeld h o)) (sym same) was
