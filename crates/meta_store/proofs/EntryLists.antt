-- How the entries of a body are read one after another.
use Rattle.std.proofs.Common.{◌≡◌, ℕ, ◌+◌, ◌<◌, List, [], ◌∷◌, ◌++◌, length, take, drop, refl, sym, ◌∙◌, ap, subst, arith, length-append, length-drop}
use Rattle.std.specs.List.{AllByRecursion}
use Rattle.std.specs.List.Sorted.{IsStrictlySortedBy}
use Rattle.std.specs.Map.{keys_of}
use Rattle.std.proofs.lemmas.List.{append-nil, append_assoc, drop_at, drop-drop, nil_from_length}
use Rattle.std.proofs.lemmas.List.Concat.{flat_map-append}
use Rattle.meta_store.specs.Format.{Format}
use Rattle.meta_store.specs.Copies.{IsStorable, IsEntries, entry_bytes, entries_bytes}
use Rattle.meta_store.specs.lemmas.Bytes.{take_two}
use Rattle.meta_store.proofs.Ascending.{sorted_prefix, keys_append, all_last}

module _ {K V : Type 0} (f : Format K V) where
  -- these entries are some that were read, and others that the bytes from a place on spell
  pub record GoesOn (bytes : List ℕ) (items : List (K × V)) (at : ℕ) (entries : List (K × V)) : Type 0 where
    pub rest : List (K × V)
    pub is : entries ≡ items ++ rest
    pub spelled : drop at bytes ≡ entries_bytes f.key_bytes f.spelling rest

  pub goes_from_start : (count : ℕ) (bytes : List ℕ) (entries : List (K × V)) → IsEntries f count bytes entries → GoesOn bytes [] 0 entries
  goes_from_start count bytes entries all = record { rest = entries; is = refl; spelled = all.spelled }

  -- the entry that is read next
  pub record NextEntry (bytes : List ℕ) (items : List (K × V)) (at : ℕ) (entries : List (K × V)) : Type 0 where
    pub entry : K × V
    pub rest : List (K × V)
    pub is : entries ≡ items ++ entry ∷ rest
    pub spelled : drop at bytes ≡ entry_bytes f.key_bytes f.spelling entry ++ entries_bytes f.key_bytes f.spelling rest
    pub storable : IsStorable f entry.1
    pub ascending : IsStrictlySortedBy f.compare (keys_of items ++ entry.0 ∷ [])

  pub next_entry : (count : ℕ) (bytes : List ℕ) (items entries : List (K × V)) (at : ℕ) → IsEntries f count bytes entries → GoesOn bytes items at entries → length items < count → NextEntry bytes items at entries
  next_entry count bytes items entries at all on more = go on.rest on.is on.spelled
    where
      go : (rest : List (K × V)) → entries ≡ items ++ rest → drop at bytes ≡ entries_bytes f.key_bytes f.spelling rest → NextEntry bytes items at entries
      go [] is spelled = absurd (omega (arith, ap length (is ∙ append-nil items), all.number, more))
      go (x ∷ rest) is spelled = record {
        entry = x;
        rest = rest;
        is = is;
        spelled = spelled;
        storable = (all_last (λ e. IsStorable f e.1) items (x ∷ rest) (subst (AllByRecursion (λ e. IsStorable f e.1)) is all.storable)).0;
        ascending =
            let keys : keys_of entries ≡ (keys_of items ++ x.0 ∷ []) ++ keys_of rest = ap keys_of is ∙ keys_append items (x ∷ rest) ∙ sym (append_assoc (keys_of items) (x.0 ∷ []) (keys_of rest)) in
            sorted_prefix f.compare (keys_of items ++ x.0 ∷ []) (keys_of rest) (subst (IsStrictlySortedBy f.compare) keys all.ascending);
      }

  -- once it is read
  pub goes_past : (bytes : List ℕ) (items entries : List (K × V)) (at n : ℕ) (entry : K × V) (next : NextEntry bytes items at entries)
      → entry ≡ next.entry → n ≡ length (entry_bytes f.key_bytes f.spelling next.entry) → GoesOn bytes (items ++ entry ∷ []) (at + n) entries
  goes_past bytes items entries at n entry next same long = record {
    rest = next.rest;
    is = next.is ∙ sym (append_assoc items (next.entry ∷ []) next.rest) ∙ ap (λ (e : K × V). items ++ e ∷ [] ++ next.rest) (sym same);
    spelled = sym (drop-drop n at bytes) ∙ ap (drop n) next.spelled
        ∙ drop_at (entry_bytes f.key_bytes f.spelling next.entry) (entries_bytes f.key_bytes f.spelling next.rest) n (sym long);
  }

  -- the bytes up to a place spell what was read
  pub prefix_more : (bytes : List ℕ) (items : List (K × V)) (at n : ℕ) (entry : K × V) → take at bytes ≡ entries_bytes f.key_bytes f.spelling items → take n (drop at bytes) ≡ entry_bytes f.key_bytes f.spelling entry
      → take (at + n) bytes ≡ entries_bytes f.key_bytes f.spelling (items ++ entry ∷ [])
  prefix_more bytes items at n entry prefix next =
      take_two at n bytes ∙ ap (λ l. l ++ take n (drop at bytes)) prefix ∙ ap (λ l. entries_bytes f.key_bytes f.spelling items ++ l) (next ∙ sym (append-nil (entry_bytes f.key_bytes f.spelling entry)))
      ∙ sym (flat_map-append (entry_bytes f.key_bytes f.spelling) items (entry ∷ []))

  -- at the end nothing is left
  pub none_left : (count : ℕ) (bytes : List ℕ) (items entries : List (K × V)) (at : ℕ) → IsEntries f count bytes entries → length items ≡ count → (on : GoesOn bytes items at entries) → on.rest ≡ []
  none_left count bytes items entries at all full on = nil_from_length on.rest (omega (arith, ap length on.is, length-append items on.rest, all.number, full))

  pub all_read : (count : ℕ) (bytes : List ℕ) (items entries : List (K × V)) (at : ℕ) → IsEntries f count bytes entries → length items ≡ count → GoesOn bytes items at entries → items ≡ entries
  all_read count bytes items entries at all full on =
      sym (on.is ∙ ap (λ l. items ++ l) (none_left count bytes items entries at all full on) ∙ append-nil items)

  pub none_behind : (count : ℕ) (bytes : List ℕ) (items entries : List (K × V)) (at : ℕ) → IsEntries f count bytes entries → length items ≡ count → GoesOn bytes items at entries → at < length bytes → ⊥
  none_behind count bytes items entries at all full on short =
      omega (arith, ap length (on.spelled ∙ ap (entries_bytes f.key_bytes f.spelling) (none_left count bytes items entries at all full on)), length-drop at bytes, short)
