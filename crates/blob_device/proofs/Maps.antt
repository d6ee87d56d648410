-- A map from byte strings, and a table of maps, after a change.
use Rattle.std.proofs.Common.{◌≡◌, ◌≢◌, ◌⊎◌, inl, inr, ⊎_elim, ℕ, Bool, true, false, List, [], Option, Some, None, is_some, Vec, refl, sym, ◌∙◌, ap}
use Rattle.std.specs.Str.{bytes_eq}
use Rattle.std.specs.Option.{option_and_then}
use Rattle.std.specs.Ordering.{nat_cmp, is_eq}
use Rattle.std.specs.Cmp.{eq_by_cmp_equiv}
use Rattle.std.specs.Cmp.Lexicographic.{slice_cmp, nat_list_cmp_total, nat_list_eq_equiv}
use Rattle.std.specs.Map.{lookup, IsKeyTest, AreApart, KeepsOthers}
use Rattle.std.specs.BTreeMap.{BTreeMap, UpdatesBy}
use Rattle.std.specs.declared.alloc.Global.{Global}
use Rattle.std.proofs.lemmas.Slice.Eq.{bytes_eq-Decides}
use Rattle.std.proofs.lemmas.Map.Text.{is_eq-slice_cmp}
use Rattle.std.proofs.lemmas.Bool.{cases_Bool}
use Rattle.blob_device.specs.Disk.{Key, put}
use Rattle.blob_device.specs.lemmas.Puts.{put_only}
use Rattle.blob_device.specs.Tables.{at_name, Partitions, at_key, by_bytes}

apart : (bs cs ks : List ℕ) → bytes_eq bs cs ≡ false → bytes_eq bs ks ≡ true → bytes_eq cs ks ≡ false
apart bs cs ks n y = nat_list_eq_equiv.symm cs ks ∙ sym (nat_list_eq_equiv.congr bs ks cs y) ∙ n

apart_in_order : (bs cs ks : List ℕ) → bytes_eq bs cs ≡ false → is_eq (slice_cmp nat_cmp bs ks) ≡ true → is_eq (slice_cmp nat_cmp cs ks) ≡ false
apart_in_order bs cs ks n y = is_eq-slice_cmp cs ks ∙ apart bs cs ks n (sym (is_eq-slice_cmp bs ks) ∙ y)

other_entries : {K X : Type 0} (eq : K → K → Bool) (test : K → Bool) (old new : List (K × X)) → KeepsOthers eq test old new → (other : K → Bool) → IsKeyTest eq other → AreApart test other → lookup other new ≡ lookup other old
unfolding KeepsOthers
other_entries eq test old new h = h

pub differ : (cs bs : List ℕ) → cs ≢ bs → bytes_eq bs cs ≡ false
differ cs bs other = ⊎_elim (λ (y : bytes_eq bs cs ≡ true). absurd (other (sym ((bytes_eq-Decides bs cs).0 y)))) (λ n. n) (cases_Bool (bytes_eq bs cs))

pub same_or_differ : (cs bs : List ℕ) → (cs ≡ bs) ⊎ (cs ≢ bs)
same_or_differ cs bs = ⊎_elim (λ (y : bytes_eq bs cs ≡ true). inl (sym ((bytes_eq-Decides bs cs).0 y))) (λ (n : bytes_eq bs cs ≡ false). inr (λ e. cc (n, (bytes_eq-Decides bs cs).1 (sym e)))) (cases_Bool (bytes_eq bs cs))

module _ {X : Type 0} (bs : List ℕ) (m n : BTreeMap (Vec ℕ Global) X) (w : Option X) (h : UpdatesBy by_bytes (λ (k : Vec ℕ Global). slice_cmp nat_cmp bs k.items) m n w) where
  pub map_here : at_name n bs ≡ w
  map_here = h.1

  pub map_other : (cs : List ℕ) → cs ≢ bs → at_name n cs ≡ at_name m cs
  map_other cs other = other_entries _ _ _ _ h.3 (λ (k : Vec ℕ Global). is_eq (slice_cmp nat_cmp cs k.items)) (λ x y. (eq_by_cmp_equiv nat_list_cmp_total).congr cs x.items y.items) (λ k. apart_in_order bs cs k.items (differ cs bs other))

-- a table where one partition has other names
module _ {X : Type 0} (partition name : List ℕ) (m n : Partitions X) (old new : BTreeMap (Vec ℕ Global) X) (h : UpdatesBy by_bytes (λ (k : Vec ℕ Global). slice_cmp nat_cmp partition k.items) m n (Some new)) where
  pub table_here : (q : List ℕ) → at_key n (partition, q) ≡ at_name new q
  table_here q = ap (option_and_then (λ (names : BTreeMap (Vec ℕ Global) X). at_name names q)) (map_here partition m n (Some new) h)

  pub table_was : at_name m partition ≡ Some old → (q : List ℕ) → at_key m (partition, q) ≡ at_name old q
  table_was was q = ap (option_and_then (λ (names : BTreeMap (Vec ℕ Global) X). at_name names q)) was

  pub table_other : (q : Key) → q.0 ≢ partition → at_key n q ≡ at_key m q
  table_other q other = ap (option_and_then (λ (names : BTreeMap (Vec ℕ Global) X). at_name names q.1)) (map_other partition m n (Some new) h q.0 other)

-- a value that is seen as none is
pub map_same : {X T : Type 0} (f : Option X → T) (bs : List ℕ) (m n : BTreeMap (Vec ℕ Global) X) (v : X) → UpdatesBy by_bytes (λ (k : Vec ℕ Global). slice_cmp nat_cmp bs k.items) m n (Some v)
    → at_name m bs ≡ None → f (Some v) ≡ f None → ◌≡◌ {A = List ℕ → T} (λ q. f (at_name n q)) (λ q. f (at_name m q))
map_same {X = X} {T = T} f bs m n v h absent same = λ i q. each q i
  where
    each : (q : List ℕ) → f (at_name n q) ≡ f (at_name m q)
    each q = ⊎_elim
        (λ (is : q ≡ bs). ap (λ (l : List ℕ). f (at_name n l)) is ∙ ap f (map_here bs m n (Some v) h) ∙ same ∙ sym (ap (λ (l : List ℕ). f (at_name m l)) is ∙ ap f absent))
        (λ (other : q ≢ bs). ap f (map_other bs m n (Some v) h q other))
        (same_or_differ q bs)

-- a partition that is made holds no name
pub made_partition : {X : Type 0} (partition : List ℕ) (m n : Partitions X) (empty : BTreeMap (Vec ℕ Global) X)
    → UpdatesBy by_bytes (λ (k : Vec ℕ Global). slice_cmp nat_cmp partition k.items) m n (Some empty) → at_name m partition ≡ None → ((q : List ℕ) → at_name empty q ≡ None) → at_key n ≡ at_key m
made_partition {X = X} partition m n empty h absent none = λ i q. each q i
  where
    each : (q : Key) → at_key n q ≡ at_key m q
    each q = ⊎_elim
        (λ (is : q.0 ≡ partition). ap (option_and_then (λ (names : BTreeMap (Vec ℕ Global) X). at_name names q.1)) (ap (at_name n) is ∙ map_here partition m n (Some empty) h)
        ∙ none q.1
        ∙ sym (ap (option_and_then (λ (names : BTreeMap (Vec ℕ Global) X). at_name names q.1)) (ap (at_name m) is ∙ absent)))
        (λ (other : q.0 ≢ partition). table_other partition q.1 m n empty empty h q other)
        (same_or_differ q.0 partition)

-- a table where one partition has one other value, as seen by f
module _ {X T : Type 0} (f : Option X → T) (partition name : List ℕ) (m n : Partitions X) (old new : BTreeMap (Vec ℕ Global) X)
    (h : UpdatesBy by_bytes (λ (k : Vec ℕ Global). slice_cmp nat_cmp partition k.items) m n (Some new)) (was : at_name m partition ≡ Some old) where
  in_partition : (q : Key) → q.0 ≡ partition → f (at_name new q.1) ≡ f (at_name old q.1) → f (at_key n q) ≡ f (at_key m q)
  in_partition q is same = ap (λ (p : List ℕ). f (at_key n (p, q.1))) is ∙ ap f (table_here partition name m n old new h q.1) ∙ same
      ∙ sym (ap (λ (p : List ℕ). f (at_key m (p, q.1))) is ∙ ap f (table_was partition name m n old new h was q.1))

  pub table_put : (v : T) → f (at_name new name) ≡ v → ((q : List ℕ) → q ≢ name → f (at_name new q) ≡ f (at_name old q)) → ◌≡◌ {A = Key → T} (λ k. f (at_key n k)) (put (λ k. f (at_key m k)) (partition, name) v)
  table_put v here others = put_only (λ k. f (at_key m k)) (partition, name) v (λ k. f (at_key n k)) (ap f (table_here partition name m n old new h name) ∙ here) (λ q other. each q other (same_or_differ q.0 partition))
    where
      each : (q : Key) → q ≢ (partition, name) → (q.0 ≡ partition) ⊎ (q.0 ≢ partition) → f (at_key n q) ≡ f (at_key m q)
      each q other (inl is) = in_partition q is (others q.1 (λ e. other (λ i. (is i, e i))))
      each q other (inr differs) = ap f (table_other partition name m n old new h q differs)

  pub here_was : f (at_key m (partition, name)) ≡ f (at_name old name)
  here_was = ap f (table_was partition name m n old new h was name)

  pub table_same : ((q : List ℕ) → f (at_name new q) ≡ f (at_name old q)) → ◌≡◌ {A = Key → T} (λ k. f (at_key n k)) (λ k. f (at_key m k))
  table_same same = λ i k. each k (same_or_differ k.0 partition) i
    where
      each : (q : Key) → (q.0 ≡ partition) ⊎ (q.0 ≢ partition) → f (at_key n q) ≡ f (at_key m q)
      each q (inl is) = in_partition q is (same q.1)
      each q (inr differs) = ap f (table_other partition name m n old new h q differs)

pub none_of : {X : Type 0} (o : Option X) → is_some o ≡ false → o ≡ None
none_of None is = refl
none_of (Some x) is = absurd (cc is)

-- an empty map has nothing
pub empty_map : {X : Type 0} (m : BTreeMap (Vec ℕ Global) X) → m.entries ≡ [] → (q : List ℕ) → at_name m q ≡ None
empty_map {X = X} m none q = ap (λ (es : List (Vec ℕ Global × X)). lookup (λ (k : Vec ℕ Global). is_eq (slice_cmp nat_cmp q k.items)) es) none
