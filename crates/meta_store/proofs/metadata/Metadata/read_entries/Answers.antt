use Rattle.std.proofs.Common.{Option, ◌-◌, ◌<◌, IfSome, length-take, length-drop, ◌≡◌, ◌∙◌, ℕ, ◌+◌, ◌≤◌, ◌∷◌, [], ◌++◌, List, length, take, drop, Some, refl, sym, ap, subst, arith, rules}
use Rattle.std.specs.List.{AllByRecursion}
use Rattle.std.specs.List.Sorted.{IsStrictlySortedBy}
use Rattle.std.specs.Map.{keys_of}
use Rattle.std.proofs.lemmas.List.{take_all, take_rest, length_push}
use Rattle.meta_store.specs.declared.metadata.reading.Entry.{Entry}
use Rattle.meta_store.specs.Format.{Format, format_of}
use Rattle.meta_store.specs.Copies.{IsStorable, IsEntries, entry_bytes, entries_bytes}
use Rattle.meta_store.proofs.Ascending.{keys_append}
use Rattle.meta_store.proofs.EntryLists.{GoesOn, NextEntry, goes_from_start, next_entry, goes_past, prefix_more, all_read, none_behind}
use Rattle.meta_store.proofs.metadata.Metadata.read_entries.Goals as goal
use Rattle.blob_device.proofs.general.Lists.{all_push}

pub entries-init : goal.entries-init
unfolding IsStrictlySortedBy
entries-init g c = subst
    (λ (items : List (g.row.K.Denot × g.row.V.Denot)). record {
      number : length items ≡ 0;
      within : 0 ≤ length c.args.bytes.now;
      prefix : ◌≡◌ {A = List ℕ} [] (entries_bytes g.K.Key.key_bytes g.V.Codec.spelling items);
      ascending : IsStrictlySortedBy g.K.Ord.cmp (keys_of items);
      storable : AllByRecursion (λ e. IsStorable (format_of g.K.Ord.cmp g.K.Key.key_bytes g.V.Codec g.S.Seal c.args.cfg) e.1) items;
      goes_on : (entries : List (g.row.K.Denot × g.row.V.Denot)) → IsEntries (format_of g.K.Ord.cmp g.K.Key.key_bytes g.V.Codec g.S.Seal c.args.cfg) c.args.count c.args.bytes.now entries
          → GoesOn (format_of g.K.Ord.cmp g.K.Key.key_bytes g.V.Codec g.S.Seal c.args.cfg) c.args.bytes.now items 0 entries;
    })
    (sym c.new-items.ensures.items)
    (record {
      number = refl;
      within = omega arith;
      prefix = refl;
      ascending = tt;
      storable = tt;
      goes_on = λ entries all. goes_from_start (format_of g.K.Ord.cmp g.K.Key.key_bytes g.V.Codec g.S.Seal c.args.cfg) c.args.count c.args.bytes.now entries all;
    })

-- what the entry is that is read at a place, for entries that the body spells
read_next : {K V : Type 0} (f : Format K V) (count : ℕ) (bytes : List ℕ) (items entries : List (K × V)) (at : ℕ) (found : Option (Entry K V))
    → ((key : K) (value : V) (rest : List ℕ) → IsStorable f value → take (length bytes - at) (drop at bytes) ≡ entry_bytes f.key_bytes f.spelling (key, value) ++ rest
    → found ≡ Some (record { key = key; value = value; len = length (entry_bytes f.key_bytes f.spelling (key, value)) }))
    → IsEntries f count bytes entries → GoesOn f bytes items at entries → length items < count
    → (next : NextEntry f bytes items at entries) × (found ≡ Some (record { key = next.entry.0; value = next.entry.1; len = length (entry_bytes f.key_bytes f.spelling next.entry) }))
read_next f count bytes items entries at found only all on more =
    let next = next_entry f count bytes items entries at all on more in
    (next, only next.entry.0 next.entry.1 (entries_bytes f.key_bytes f.spelling next.rest) next.storable (take_rest bytes at ∙ next.spelled))

pub returns-in_default-clause-only : goal.returns-in_default-clause-only
returns-in_default-clause-only g c entries all =
    let next = read_next _ c.args.count c.args.bytes.now c.entries.items.items entries c.entries.at c.in_ok-entry.field-0 c.in_ok-entry.ensures.only all (c.entries.invariant.goes_on entries all)
    (omega (arith, c.entries.invariant.number, c.entries-test.true)) in
    absurd (cc (c.in_default.is, next.1))

pub is_next-requires : goal.is_next-requires
is_next-requires g c = subst (λ (items : List (g.row.K.Denot × g.row.V.Denot)). IsStrictlySortedBy g.K.Ord.cmp (keys_of items)) (sym c.deref.ensures.value) c.entries.invariant.ascending

pub returns-then-not-is_next-clause-only : goal.returns-then-not-is_next-clause-only
returns-then-not-is_next-clause-only g c entries all =
    let next = read_next _ c.args.count c.args.bytes.now c.entries.items.items entries c.entries.at c.in_ok-entry.field-0 c.in_ok-entry.ensures.only all (c.entries.invariant.goes_on entries all)
    (omega (arith, c.entries.invariant.number, c.entries-test.true)) in
    let same : c.in-Some.entry ≡ record { key = next.0.entry.0; value = next.0.entry.1; len = length (entry_bytes g.K.Key.key_bytes g.V.Codec.spelling next.0.entry) } = cc (c.in-Some.is, next.1) in
    let sorted : IsStrictlySortedBy g.K.Ord.cmp (keys_of c.deref.result.now ++ c.in-Some.entry.key ∷ []) =
    subst (λ (k : g.row.K.Denot). IsStrictlySortedBy g.K.Ord.cmp (keys_of c.deref.result.now ++ k ∷ [])) (sym (ap (λ (e : Entry g.row.K.Denot g.row.V.Denot). e.key) same))
    (subst (λ (items : List (g.row.K.Denot × g.row.V.Denot)). IsStrictlySortedBy g.K.Ord.cmp (keys_of items ++ next.0.entry.0 ∷ [])) (sym c.deref.ensures.value) next.0.ascending) in
    absurd (cc (c.is_next.ensures.1 sorted, c.if-not-is_next.true))

pub entries-preserved : goal.entries-preserved
entries-preserved g c =
    let f = format_of g.K.Ord.cmp g.K.Key.key_bytes g.V.Codec g.S.Seal c.args.cfg in
    let bytes = c.args.bytes.now in
    let items = c.entries.items.items in
    let at = c.entries.at in
    let e = c.in-Some.entry in
    let entry : g.row.K.Denot × g.row.V.Denot = (e.key, e.value) in
    let pushed : c.push.new.self.items ≡ items ++ entry ∷ [] = search rules in
    let read = subst (λ (r : Option (Entry g.row.K.Denot g.row.V.Denot)). IfSome r (λ e. take e.len (take (length bytes - at) (drop at bytes)) ≡ entry_bytes g.K.Key.key_bytes g.V.Codec.spelling (e.key, e.value))) c.in-Some.is c.in_ok-entry.ensures.read in
    let within = subst (λ (r : Option (Entry g.row.K.Denot g.row.V.Denot)). IfSome r (λ e. e.len ≤ length (take (length bytes - at) (drop at bytes)))) c.in-Some.is c.in_ok-entry.ensures.within in
    let storable = subst (λ (r : Option (Entry g.row.K.Denot g.row.V.Denot)). IfSome r (λ e. IsStorable f e.value)) c.in-Some.is c.in_ok-entry.ensures.storable in
    let sorted : IsStrictlySortedBy g.K.Ord.cmp (keys_of items ++ e.key ∷ []) = subst (λ (l : List (g.row.K.Denot × g.row.V.Denot)). IsStrictlySortedBy g.K.Ord.cmp (keys_of l ++ e.key ∷ [])) c.deref.ensures.value (c.is_next.ensures.0 c.if-not-is_next.false) in
    record {
      number = omega (arith, ap length pushed, length_push items entry, c.entries.invariant.number);
      within = omega (arith, within, length-take (length bytes - at) (drop at bytes), length-drop at bytes, c.entries.invariant.within);
      prefix = subst (λ (l : List (g.row.K.Denot × g.row.V.Denot)). take (at + e.len) bytes ≡ entries_bytes g.K.Key.key_bytes g.V.Codec.spelling l) (sym pushed)
          (prefix_more f bytes items at e.len entry c.entries.invariant.prefix (ap (take e.len) (sym (take_rest bytes at)) ∙ read));
      ascending = subst (λ (l : List (g.row.K.Denot × g.row.V.Denot)). IsStrictlySortedBy g.K.Ord.cmp (keys_of l)) (sym pushed)
          (subst (IsStrictlySortedBy g.K.Ord.cmp) (sym (keys_append items (entry ∷ []))) sorted);
      storable = subst (AllByRecursion (λ e. IsStorable f e.1)) (sym pushed) (all_push (λ e. IsStorable f e.1) items entry c.entries.invariant.storable storable);
      goes_on = λ entries all.
          let next = read_next f c.args.count bytes items entries at c.in_ok-entry.field-0 c.in_ok-entry.ensures.only all (c.entries.invariant.goes_on entries all)
          (omega (arith, c.entries.invariant.number, c.entries-test.true)) in
          let same : e ≡ record { key = next.0.entry.0; value = next.0.entry.1; len = length (entry_bytes g.K.Key.key_bytes g.V.Codec.spelling next.0.entry) } = cc (c.in-Some.is, next.1) in
          subst (λ (l : List (g.row.K.Denot × g.row.V.Denot)). GoesOn f bytes l (at + e.len) entries) (sym pushed)
          (goes_past f bytes items entries at e.len entry next.0 (ap (λ (x : Entry g.row.K.Denot g.row.V.Denot). (x.key, x.value)) same) (ap (λ (x : Entry g.row.K.Denot g.row.V.Denot). x.len) same));
    }

pub returns-then-at-bytes-clause-only : goal.returns-then-at-bytes-clause-only
returns-then-at-bytes-clause-only g c entries all =
    let full : length c.entries.items.items ≡ c.args.count = omega (arith, c.entries.invariant.number, c.entries-test.false, c.entries.auto.counter-end) in
    absurd (none_behind _ c.args.count c.args.bytes.now c.entries.items.items entries c.entries.at all full (c.entries.invariant.goes_on entries all) c.if-at-bytes.true)

pub returns-clause-read : goal.returns-clause-read
returns-clause-read g c =
    let end : c.args.count ≡ c.entries.counter = omega (arith, c.entries-test.false, c.entries.auto.counter-end) in
    subst (IsEntries _ c.args.count c.args.bytes.now) (sym c.from_vec.ensures) (record {
      number = c.entries.invariant.number ∙ sym end;
      spelled = sym (take_all c.entries.at c.args.bytes.now c.if-at-bytes.false) ∙ c.entries.invariant.prefix;
      ascending = c.entries.invariant.ascending;
      storable = c.entries.invariant.storable;
    })

pub returns-clause-only : goal.returns-clause-only
returns-clause-only g c entries all =
    let full : length c.entries.items.items ≡ c.args.count = omega (arith, c.entries.invariant.number, c.entries-test.false, c.entries.auto.counter-end) in
    ap (λ (l : List (g.row.K.Denot × g.row.V.Denot)). Some l) (c.from_vec.ensures ∙ all_read _ c.args.count c.args.bytes.now c.entries.items.items entries c.entries.at all full (c.entries.invariant.goes_on entries all))
