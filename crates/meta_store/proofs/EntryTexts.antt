-- What stands where in an entry.
use Rattle.std.proofs.Common.{◌≡◌, ◌⊎◌, inl, inr, Result, Ok, Err, ℕ, ◌+◌, ◌-◌, ◌<◌, ◌≤◌, ◌^◌, List, ◌++◌, length, take, drop, refl, sym, ◌∙◌, ap, arith, length-append, length-take, length-drop}
use Rattle.std.proofs.lemmas.List.{append_assoc, take_at, drop_at, drop-drop}
use Rattle.std.specs.Int.{w32, to_be_bytes}
use Rattle.meta_store.specs.Copies.{entry_bytes}
use Rattle.meta_store.specs.lemmas.Bytes.{length-four, same_number_4, take_two}

module _ {K V : Type 0} (key_bytes : K → List ℕ) (spelling : V → List ℕ) where
  pub length-entry : (e : K × V) → length (entry_bytes key_bytes spelling e) ≡ length (key_bytes e.0) + 4 + length (spelling e.1)
  unfolding entry_bytes
  length-entry e = omega (
    arith,
    length-append (key_bytes e.0 ++ to_be_bytes w32 (length (spelling e.1))) (spelling e.1),
    length-append (key_bytes e.0) (to_be_bytes w32 (length (spelling e.1))),
    length-four (length (spelling e.1)),
  )

  -- the entry that is found
  pub entry_found : (bytes : List ℕ) (n size : ℕ) (k : K) (v : V) → n + 4 ≤ length bytes → size ≤ length bytes - (n + 4)
      → key_bytes k ≡ take n bytes → to_be_bytes w32 size ≡ take 4 (drop n bytes) → spelling v ≡ take (n + 4 + size - (n + 4)) (drop (n + 4) bytes)
      → take (n + 4 + size) bytes ≡ entry_bytes key_bytes spelling (k, v)
  unfolding entry_bytes
  entry_found bytes n size k v head room is_key is_size is_value =
      let e : n + 4 + size - (n + 4) ≡ size = omega arith in
      let value : spelling v ≡ take size (drop (n + 4) bytes) = is_value ∙ ap (λ (m : ℕ). take m (drop (n + 4) bytes)) e in
      let long : length (spelling v) ≡ size = omega (arith, ap length value, length-take size (drop (n + 4) bytes), length-drop (n + 4) bytes, room) in
      take_two (n + 4) size bytes
      ∙ ap (λ l. l ++ take size (drop (n + 4) bytes)) (take_two n 4 bytes)
      ∙ ap (λ l. l ++ take 4 (drop n bytes) ++ take size (drop (n + 4) bytes)) (sym is_key)
      ∙ ap (λ l. key_bytes k ++ l ++ take size (drop (n + 4) bytes)) (sym is_size ∙ ap (λ (m : ℕ). to_be_bytes w32 m) (sym long))
      ∙ ap (λ l. key_bytes k ++ to_be_bytes w32 (length (spelling v)) ++ l) (sym value)

  -- the parts of an entry at the start
  module _ (bytes rest : List ℕ) (k : K) (v : V) (n : ℕ) (long : length (key_bytes k) ≡ n) (is : bytes ≡ entry_bytes key_bytes spelling (k, v) ++ rest) where
    split : bytes ≡ key_bytes k ++ (to_be_bytes w32 (length (spelling v)) ++ (spelling v ++ rest))
    unfolding entry_bytes
    split = is ∙ append_assoc (key_bytes k ++ to_be_bytes w32 (length (spelling v))) (spelling v) rest
        ∙ append_assoc (key_bytes k) (to_be_bytes w32 (length (spelling v))) (spelling v ++ rest)

    pub part_room : n + 4 + length (spelling v) ≤ length bytes
    part_room = omega (arith, ap length is, length-append (entry_bytes key_bytes spelling (k, v)) rest, length-entry (k, v), long)

    pub part_key : take n bytes ≡ key_bytes k
    part_key = ap (take n) split ∙ take_at (key_bytes k) _ n long

    behind_key : drop n bytes ≡ to_be_bytes w32 (length (spelling v)) ++ (spelling v ++ rest)
    behind_key = ap (drop n) split ∙ drop_at (key_bytes k) (to_be_bytes w32 (length (spelling v)) ++ (spelling v ++ rest)) n long

    pub part_size : take 4 (drop n bytes) ≡ to_be_bytes w32 (length (spelling v))
    part_size = ap (take 4) behind_key ∙ take_at (to_be_bytes w32 (length (spelling v))) (spelling v ++ rest) 4 refl

    behind_size : drop (n + 4) bytes ≡ spelling v ++ rest
    behind_size = sym (drop-drop 4 n bytes) ∙ ap (drop 4) behind_key ∙ drop_at (to_be_bytes w32 (length (spelling v))) (spelling v ++ rest) 4 refl

    pub part_value : take (length (spelling v)) (drop (n + 4) bytes) ≡ spelling v
    part_value = ap (take (length (spelling v))) behind_size ∙ take_at (spelling v) rest (length (spelling v)) refl

    -- the value's spelling, behind a size that is its length
    pub part_spelled : (size : ℕ) → size ≡ length (spelling v) → spelling v ≡ take (n + 4 + size - (n + 4)) (drop (n + 4) bytes)
    part_spelled size same =
        let count : length (spelling v) ≡ n + 4 + size - (n + 4) = omega (arith, same) in
        sym part_value ∙ ap (λ (m : ℕ). take m (drop (n + 4) bytes)) count

    -- the size that was read
    pub part_same_size : (size : ℕ) → size < 2 ^ 32 → length (spelling v) < 2 ^ 32 → to_be_bytes w32 size ≡ take 4 (drop n bytes) → size ≡ length (spelling v)
    part_same_size size short fits at = same_number_4 size (length (spelling v)) short fits (at ∙ part_size)

-- no value that may be stored is spelled by bytes that are refused
pub not_refused : {V E : Type 0} (r : Result V E) (v : V) (e mem : E) → r ≡ Err e → (e ≡ mem → ⊥) → (r ≡ Ok v) ⊎ (r ≡ Err mem) → ⊥
not_refused r v e mem is other (inl ok) = cc (is, ok)
not_refused r v e mem is other (inr err) = other (cc (is, err))

-- the value that was decoded
pub decoded_same : {V E : Type 0} (r : Result V E) (v w : V) (mem : E) → r ≡ Ok w → (r ≡ Ok v) ⊎ (r ≡ Err mem) → w ≡ v
decoded_same r v w mem is (inl ok) = cc (is, ok)
decoded_same r v w mem is (inr err) = absurd (cc (is, err))

-- an entry that was written behind other bytes
pub entry_written : {K V : Type 0} (key_bytes : K → List ℕ) (spelling : V → List ℕ) (k : K) (v : V) (a b c d : List ℕ) (size : ℕ)
    → b ≡ a ++ key_bytes k → c ≡ b ++ to_be_bytes w32 size → size ≡ length (spelling v) → d ≡ c ++ spelling v → d ≡ a ++ entry_bytes key_bytes spelling (k, v)
unfolding entry_bytes
entry_written key_bytes spelling k v a b c d size first second is third =
    third ∙ ap (λ l. l ++ spelling v) (second ∙ ap (λ l. l ++ to_be_bytes w32 size) first ∙ append_assoc a (key_bytes k) (to_be_bytes w32 size)
    ∙ ap (λ (n : ℕ). a ++ (key_bytes k ++ to_be_bytes w32 n)) is)
    ∙ append_assoc a (key_bytes k ++ to_be_bytes w32 (length (spelling v))) (spelling v)
