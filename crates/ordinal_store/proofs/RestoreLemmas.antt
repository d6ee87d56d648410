-- The sections of a map are opened, mended and checked, one after another: how far an opening has come, and what it has done when it ends.
use Rattle.std.specs.Prelude.{◌≡◌, ◌≢◌, ◌⊎◌, ◌↔◌, ℕ, ◌+◌, ◌*◌, ◌^◌, ◌<◌, ◌≤◌, Bool, true, false, cond, nat_eq, List, [], ◌∷◌, length, Option, Some, None, IsSome, IsSomeAnd, IsTrue, Result, Ok, Err}
use Rattle.std.specs.BTreeMap.{is_at}
use Rattle.std.specs.Cmp.{eq_by_cmp_equiv, nat_cmp_total}
use Rattle.std.specs.List.Sorted.{IsStrictlySortedBy}
use Rattle.std.specs.Map.{keys_of, lookup}
use Rattle.std.specs.Ordering.{is_eq, nat_cmp}
use Rattle.std.specs.declared.cmp.Ordering.{Ordering}
use Rattle.std.specs.declared.cmp.Ordering.TheVariants.{Less, Equal, Greater}
use Rattle.std.specs.Result.{IsErrAnd}
use Rattle.std.proofs.Common.{inl, inr, refl, sym, ◌∙◌, ap, subst, arith, rules}
use Rattle.std.proofs.lemmas.Bool.{cases_eq, cases_lt, false_from_ne_true, lt-ltb}
use Rattle.std.proofs.lemmas.Map.{lookup-none}
use Rattle.std.proofs.lemmas.Map.Entries.{lookup_head, lookup_tail, none_below_head, none_past_head}
use Rattle.std.proofs.lemmas.Map.Lookups.{exact_unsigned}
use Rattle.std.proofs.lemmas.Map.Keys.{IsDistinct-from_sorted, sorted_tail}
use Rattle.std.proofs.lemmas.Option.{none-some}
use Rattle.blob_device.specs.lemmas.Moments.{always_now, always_start, always_weaker}
use Rattle.blob_device.specs.Disk.{Blob, Disk, Key, longest}
use Rattle.blob_device.specs.Timeline.{Always, OnlyAt}
use Rattle.sealed_pages.specs.unsealed.Writing.{Over, shown, size_of}
use Rattle.ordinal_store.specs.Adopting.{IsReady}
use Rattle.ordinal_store.specs.Calls.{as_read}
use Rattle.ordinal_store.specs.Durable.{StandsFor, Stays}
use Rattle.ordinal_store.specs.Marking.{IsFault, IsFirstRefused, IsKept, IsWhole, Marking, is_wanted}
use Rattle.ordinal_store.specs.Mending.{IsMade, is_left}
use Rattle.ordinal_store.specs.Ranges.{AreRanges, set_of}
use Rattle.ordinal_store.specs.Reopening.{HasRoom, HasWanted, IsEmpty, IsHolding, Restores, Restoring, RestoringIf, Touching}
use Rattle.ordinal_store.specs.Restoring.{IsBack, IsDone, IsYet, RestoredAll, RestoringAll, There, Wanted}
use Rattle.ordinal_store.specs.Slots.{Layout, blob_of, place_of, position_of, section_of, slot_size}
use Rattle.ordinal_store.specs.Stores.{Sight, Store, has, key_of, now}
use Rattle.ordinal_store.specs.declared.ordinal.Error.{Error}
use Rattle.ordinal_store.specs.declared.ordinal.Error.TheVariants.{MissingRecord}
use Rattle.blob_device.specs.lemmas.Puts.{same_or_other}
use Rattle.ordinal_store.proofs.PlaceLemmas.{same_truth}
use Rattle.ordinal_store.proofs.SeatLemmas.{not_true}
use Rattle.ordinal_store.proofs.StepLemmas.{keys_differ, section_small, stays_start, stays_then}
use Rattle.ordinal_store.proofs.TrailLemmas.{failed_as}
use Rattle.blob_device.proofs.general.Results.{err_of}

-- the list of the entries that are left of a map, as a marking
abbrev pub Entries : Type 0
Entries = List (ℕ × Option (List Bool))

abbrev pub left_at : Entries → Marking
left_at rest t = lookup (is_at (nat_cmp t)) rest

-- how a key is compared with itself, with another, and with a greater one
at_itself : (s : ℕ) → is_at (nat_cmp s) s ≡ true
at_itself s = (eq_by_cmp_equiv nat_cmp_total).refl s

is_equal : (r : Ordering) → is_eq r ≡ true → r ≡ Equal
is_equal Less is = absurd (cc is)
is_equal Equal is = refl
is_equal Greater is = absurd (cc is)

at_other : (t s : ℕ) → t ≢ s → is_at (nat_cmp t) s ≡ false
at_other t s other = false_from_ne_true (is_at (nat_cmp t) s) (λ at. other (exact_unsigned t s (is_equal (nat_cmp t s) at)))

less_is : (t s : ℕ) → t < s → nat_cmp t s ≡ Less
less_is t s less = ap (λ (b : Bool). cond b Less (cond (nat_eq t s) Equal Greater)) (lt-ltb t s less)

-- what is left of a map when its first entry is taken off
module _ (rest : Entries) (s : ℕ) (marks : Option (List Bool)) where
  pub head_of : left_at ((s, marks) ∷ rest) s ≡ Some marks
  head_of = lookup_head (is_at (nat_cmp s)) (s, marks) rest (at_itself s)

  pub sorted_of : IsStrictlySortedBy nat_cmp (keys_of ((s, marks) ∷ rest)) → IsStrictlySortedBy nat_cmp (keys_of rest)
  sorted_of sorted = sorted_tail nat_cmp s (keys_of rest) sorted

  pub gone_of : IsStrictlySortedBy nat_cmp (keys_of ((s, marks) ∷ rest)) → left_at rest s ≡ None
  gone_of sorted = lookup-none (is_at (nat_cmp s)) rest (none_past_head (eq_by_cmp_equiv nat_cmp_total) s (s, marks) rest (IsDistinct-from_sorted nat_cmp (keys_of ((s, marks) ∷ rest)) sorted) (at_itself s))

  pub tail_of : (t : ℕ) → t ≢ s → left_at ((s, marks) ∷ rest) t ≡ left_at rest t
  tail_of t other = lookup_tail (is_at (nat_cmp t)) (s, marks) rest (at_other t s other)

-- no ranges are those of the empty set
pub none_are_ranges : AreRanges []
none_are_ranges = record {
  runs = record {
    ascending = search rules;
    each = λ a b. (λ listed. absurd (omega (arith, listed.1)), λ run. absurd (cc (run.inside a (omega arith) run.ordered)));
  };
  below = λ n is. absurd (cc is);
}

-- a wanted slot of a marked section stays when the section is mended
pub wanted_left : (items : ℕ) (marks : Option (List Bool)) (p : ℕ) → is_wanted items (Some marks) p ≡ true → is_left marks p ≡ true
wanted_left items None p wanted = refl
wanted_left items (Some bits) p wanted = wanted

module _ (told : Type 0) (l : Layout) (capacity : ℕ) (marking : Marking) (base : Sight) where
  -- an opening so far, with these entries of the map left
  pub record Restored (rest : Entries) (n : Store) (v : Sight) : Type 0 where
    pub sorted : IsStrictlySortedBy nat_cmp (keys_of rest)
    pub layout_is : n.layout ≡ l
    pub capacity_is : n.capacity ≡ capacity
    pub ranges_are : AreRanges n.ranges
    pub number : (t : ℕ) → IsSome (n.buffers t) → (t < 2 ^ 64) × (t * l.items < 2 ^ 64)
    pub each : (t : ℕ) → t < 2 ^ 64 → (IsYet told l capacity marking base n v t × (left_at rest t ≡ marking t)) ⊎ (IsDone told l capacity marking base n v t × (left_at rest t ≡ None))
    pub moments : told → Always base.time v.time (Stays l (Wanted told l capacity marking base) (There told l capacity marking base) (now base))
    pub entries : (q : Key) → q.0 ≢ l.partition → v.opened q ≡ base.opened q
    pub faults : base.faults ≤ v.faults

  pub restored_start : (rest : Entries) (n : Store) → IsStrictlySortedBy nat_cmp (keys_of rest) → ((t : ℕ) → left_at rest t ≡ marking t) → IsEmpty l capacity n → Restored rest n base
  restored_start rest n sorted all empty = record {
    sorted = sorted;
    layout_is = empty.layout_is;
    capacity_is = empty.capacity_is;
    ranges_are = subst AreRanges (sym empty.ranges_none) none_are_ranges;
    number = λ t some. absurd (cc (empty.buffers_none t, some));
    each = λ t small. inl (record { buffer = empty.buffers_none t; blob = λ x. refl; held = λ j here. ap (λ (r : List (ℕ × ℕ)). set_of r j) empty.ranges_none }, all t);
    moments = λ t. always_start base.time (Stays l (Wanted told l capacity marking base) (There told l capacity marking base) (now base)) (stays_start l (Wanted told l capacity marking base) (There told l capacity marking base) (now base));
    entries = λ q other. refl;
    faults = omega arith;
  }

  -- One entry more.
  module _ (rest : Entries) (s : ℕ) (marks : Option (List Bool)) (small : s < 2 ^ 64) (n : Store) (v : Sight) (far : Restored ((s, marks) ∷ rest) n v) where
    sorted_rest : IsStrictlySortedBy nat_cmp (keys_of rest)
    sorted_rest = sorted_of rest s marks far.sorted

    head : left_at ((s, marks) ∷ rest) s ≡ Some marks
    head = head_of rest s marks

    gone : left_at rest s ≡ None
    gone = gone_of rest s marks far.sorted

    tail : (t : ℕ) → t ≢ s → left_at ((s, marks) ∷ rest) t ≡ left_at rest t
    tail t other = tail_of rest s marks t other

    pub marked_here : marking s ≡ Some marks
    marked_here = elim (far.each s small) [
      | inl yet ↦ sym yet.1 ∙ head
      | inr done ↦ absurd (none-some marks (sym done.1 ∙ head))
    ]

    yet_here : IsYet told l capacity marking base n v s
    yet_here = elim (far.each s small) [
      | inl yet ↦ yet.0
      | inr done ↦ absurd (none-some marks (sym done.1 ∙ head))
    ]

    kept_of : HasWanted l.items marks → IsKept l marking s
    kept_of has_wanted = (small, (has_wanted.0, subst (λ (m : _). is_wanted l.items m has_wanted.0 ≡ true) (sym marked_here) has_wanted.1))

    wanted_of : IsKept l marking s → HasWanted l.items marks
    wanted_of kept = (kept.1.0, subst (λ (m : _). is_wanted l.items m kept.1.0 ≡ true) marked_here kept.1.1)

    -- the kept sections before it are whole
    pub whole_before : told → (t : ℕ) → t < s → IsKept l marking t → (b : Option (List Bool)) → marking t ≡ Some b → IsWhole l (Some b) (Some (now base (blob_of l t)).content) × IsTrue (now base (blob_of l t)).there
    whole_before tells t before kept b marked = elim (far.each t (omega (arith, before, small))) [
      | inl yet ↦ absurd (none-some b (sym (lookup-none (is_at (nat_cmp t)) ((s, marks) ∷ rest) (none_below_head nat_cmp_total t (s, marks) rest far.sorted (less_is t s before))) ∙ yet.1 ∙ marked))
      | inr (inl back, gone_t) ↦ (let same : back.marks ≡ b = some_same back.marks b (sym back.marked ∙ marked) in (subst (λ (m : Option (List Bool)). IsWhole l (Some m) (Some (now base (blob_of l t)).content)) same (back.whole tells), back.there tells))
      | inr (inr unkept, gone_t) ↦ absurd (unkept.0 kept)
    ]
      where
        some_same : (a c : Option (List Bool)) → ◌≡◌ {A = Option (Option (List Bool))} (Some a) (Some c) → a ≡ c
        some_same a c same = cc same

    -- a section that is not kept
    pub pass_on : (HasWanted l.items marks → ⊥) → Restored rest n v
    pass_on not = record {
      sorted = sorted_rest;
      layout_is = far.layout_is;
      capacity_is = far.capacity_is;
      ranges_are = far.ranges_are;
      number = far.number;
      each = λ t t_small. elim (cases_eq t s) [
        | inl here ↦ inr (inr ((λ kept. not (wanted_of (subst (IsKept l marking) here kept))), subst (IsYet told l capacity marking base n v) (sym here) yet_here), ap (left_at_of rest) here ∙ gone)
        | inr other ↦ subst (λ (m : _). (IsYet told l capacity marking base n v t × (m ≡ marking t)) ⊎ (IsDone told l capacity marking base n v t × (m ≡ None))) (tail t other) (far.each t t_small)
      ];
      moments = far.moments;
      entries = far.entries;
      faults = far.faults;
    }
      where
        left_at_of : Entries → ℕ → Option (Option (List Bool))
        left_at_of es t = left_at es t

    -- a section that is opened: what it does at each moment
    module _ {T : Type 0} (show : T → Store) (result : Result T Error) (w : Sight) (there : told → IsTrue (now base (blob_of l s)).there) (wants : HasWanted l.items marks) (restoring : Restoring show told n s marks result v w) where
      key_is : key_of n s ≡ blob_of l s
      key_is = ap (λ (x : Layout). blob_of x s) far.layout_is

      touching : Touching told (blob_of l s) (slot_size l) marks v w
      touching = subst (λ (x : Layout). Touching told (blob_of x s) (slot_size x) marks v w) far.layout_is restoring.touching

      there_now : told → IsTrue (now v (blob_of l s)).there
      there_now tells = subst (λ (b : Blob). IsTrue b.there) (sym (yet_here.blob tells)) (there tells)

      stays_of : told → (d : Disk) → OnlyAt (blob_of l s) (now v) (Restores (slot_size l) marks (now v (blob_of l s))) d → Stays l (Wanted told l capacity marking base) (There told l capacity marking base) (now v) d
      stays_of tells d only = record {
        slots = λ j slot wanted durable. elim (cases_eq (section_of l j) s) [
          | inl here ↦ record {
            index = durable.index;
            size = durable.size;
            stands = subst (λ (k : Key). StandsFor (place_of l j) slot (d k)) (sym (ap (blob_of l) here))
                (only.here.slots (position_of l j) slot (wanted_left l.items marks (position_of l j) (subst (λ (m : _). is_wanted l.items m (position_of l j) ≡ true) (ap marking here ∙ marked_here) wanted)) durable.size
                (subst (λ (k : Key). StandsFor (place_of l j) slot (now v k)) (ap (blob_of l) here) durable.stands));
          }
          | inr other ↦ record {
            index = durable.index;
            size = durable.size;
            stands = subst (StandsFor (place_of l j) slot) (sym (only.others (blob_of l (section_of l j)) (keys_differ l.partition (section_of l j) s (section_small l j durable.index) small other))) durable.stands;
          }
        ];
        bounded = λ q m room short. elim (same_or_other q (blob_of l s)) [
          | inl same ↦ subst (λ (k : Key). longest (d k) ≤ m) (sym same) (only.here.short m (subst (λ (k : Key). longest (now v k) ≤ m) same short))
          | inr other ↦ subst (λ (b : Blob). longest b ≤ m) (sym (only.others q other)) short
        ];
        others = λ q out. elim (same_or_other q (blob_of l s)) [
          | inl same ↦ absurd (out (ap (λ (k : Key). k.0) same, subst (λ (k : Key). IsTrue (now base k).there) (sym same) (there tells)))
          | inr other ↦ only.others q other
        ];
      }

      pub moments_on : told → Always base.time w.time (Stays l (Wanted told l capacity marking base) (There told l capacity marking base) (now base))
      moments_on tells = stays_then l (Wanted told l capacity marking base) (Wanted told l capacity marking base) (There told l capacity marking base) (There told l capacity marking base) base.time v.time w.time (λ i is. is) (λ q is. is) (far.moments tells)
          (always_weaker v.time w.time (OnlyAt (blob_of l s) (now v) (Restores (slot_size l) marks (now v (blob_of l s)))) (Stays l (Wanted told l capacity marking base) (There told l capacity marking base) (now v)) (stays_of tells) (touching.moments tells (there_now tells)))

      pub entries_on : (q : Key) → q.0 ≢ l.partition → w.opened q ≡ base.opened q
      entries_on q other = touching.entries q (λ same. other (ap (λ (k : Key). k.0) same)) ∙ far.entries q other

      pub faults_on : base.faults ≤ w.faults
      faults_on = omega (arith, far.faults, touching.faults)

      others_stay : told → (t : ℕ) → t < 2 ^ 64 → t ≢ s → now w (blob_of l t) ≡ now v (blob_of l t)
      others_stay tells t t_small other = (always_now v.time w.time (OnlyAt (blob_of l s) (now v) (Restores (slot_size l) marks (now v (blob_of l s)))) (touching.moments tells (there_now tells))).others (blob_of l t) (keys_differ l.partition t s t_small small other)

    module _ {T : Type 0} (show : T → Store) (r : T) (w : Sight) (first : s * l.items < 2 ^ 64) (there : told → IsTrue (now base (blob_of l s)).there) (wants : HasWanted l.items marks) (restoring : Restoring show told n s marks (Ok r) v w) where
      abbrev m : Store
      m = show r

      abbrev hold : IsHolding n s restoring.ready.0 marks m
      hold = restoring.ready.2

      same_section : (j : ℕ) → section_of n.layout j ≡ section_of l j
      same_section j = ap (λ (x : Layout). section_of x j) far.layout_is

      entry_stays : (t : ℕ) → t < 2 ^ 64 → t ≢ s → w.opened (blob_of l t) ≡ v.opened (blob_of l t)
      entry_stays t t_small other = (touching show (Ok r) w there wants restoring).entries (blob_of l t) (keys_differ l.partition t s t_small small other)

      stays_at : told → (t : ℕ) → t < 2 ^ 64 → t ≢ s → now w (blob_of l t) ≡ now v (blob_of l t)
      stays_at = others_stay show (Ok r) w there wants restoring

      held_other : (j : ℕ) → j < 2 ^ 64 → section_of l j ≢ s → has m j ≡ has n j
      held_other j j_small other = same_truth (has m j) (has n j)
          (λ is. elim ((hold.held j j_small).0 is) [ inl was ↦ was | inr new ↦ absurd (other (sym (same_section j) ∙ new.0)) ])
          (λ was. (hold.held j j_small).1 (inl was))

      yet_still : (t : ℕ) → t < 2 ^ 64 → t ≢ s → IsYet told l capacity marking base n v t → IsYet told l capacity marking base m w t
      yet_still t t_small other yet = record {
        buffer = hold.others t other ∙ yet.buffer;
        blob = λ tells. stays_at tells t t_small other ∙ yet.blob tells;
        held = λ j here. elim (cases_lt j (2 ^ 64)) [
          | inl j_small ↦ held_other j j_small (λ same. other (sym here ∙ same)) ∙ yet.held j here
          | inr large ↦ not_true (has m j) (λ is. absurd (omega (arith, large, (hold.ranges far.ranges_are).below j is)))
        ];
      }

      back_still : (t : ℕ) → t < 2 ^ 64 → t ≢ s → IsBack told l capacity marking base n v t → IsBack told l capacity marking base m w t
      back_still t t_small other back = record {
        marks = back.marks;
        marked = back.marked;
        wanted = back.wanted;
        u = back.u;
        buffer = hold.others t other ∙ back.buffer;
        ready = record {
          rested = record {
            key_is = back.ready.rested.key_is;
            capacity_is = back.ready.rested.capacity_is;
            is_open = subst (λ (e : _). IsSomeAnd e (λ x. x.len ≡ back.u.end)) (sym (entry_stays t t_small other)) back.ready.rested.is_open;
            clean = back.ready.rested.clean;
            size = back.ready.rested.size;
          };
          over = λ tells. subst (Over (shown back.u)) (sym (stays_at tells t t_small other)) (back.ready.over tells);
          size = λ tells. subst (λ (b : Blob). size_of (shown back.u) ≡ length b.content) (sym (stays_at tells t t_small other)) (back.ready.size tells);
        };
        there = back.there;
        made = λ tells. subst (λ (b : Blob). IsMade (slot_size l) back.marks (now base (blob_of l t)).content b.content) (sym (stays_at tells t t_small other)) (back.made tells);
        whole = back.whole;
        held = λ j j_small here. subst (λ (b : Bool). IsTrue b ↔ (is_wanted l.items (Some back.marks) (position_of l j) ≡ true)) (sym (held_other j j_small (λ same. other (sym here ∙ same)))) (back.held j j_small here);
        room = back.room;
      }

      key_n : key_of n s ≡ blob_of l s
      key_n = key_is show (Ok r) w there wants restoring

      content_v : told → now v (blob_of l s) ≡ now base (blob_of l s)
      content_v tells = yet_here.blob tells

      back_here : IsBack told l capacity marking base m w s
      back_here = record {
        marks = marks;
        marked = marked_here;
        wanted = wants;
        u = restoring.ready.0;
        buffer = hold.here;
        ready = subst (λ (c : ℕ). IsReady told (blob_of l s) c w restoring.ready.0) far.capacity_is (subst (λ (k : Key). IsReady told k n.capacity w restoring.ready.0) key_n restoring.ready.1);
        there = there;
        made = λ tells. subst (λ (b : Blob). IsMade (slot_size l) marks b.content (now w (blob_of l s)).content) (content_v tells)
            (subst (λ (x : Layout). IsMade (slot_size x) marks (now v (blob_of x s)).content (now w (blob_of x s)).content) far.layout_is (restoring.made tells (subst (λ (k : Key). IsTrue (now v k).there) (sym key_n) (there_now show (Ok r) w there wants restoring tells))));
        whole = λ tells. subst (λ (b : Blob). IsWhole l (Some marks) (Some b.content)) (content_v tells)
            (subst (λ (x : Layout). IsWhole x (Some marks) (Some (now v (blob_of x s)).content)) far.layout_is (restoring.answer tells (subst (λ (k : Key). IsTrue (now v k).there) (sym key_n) (there_now show (Ok r) w there wants restoring tells))));
        held = λ j j_small here. (
          λ is. (elim ((hold.held j j_small).0 is) [
            | inl was ↦ absurd (cc (sym (yet_here.held j here) ∙ was))
            | inr new ↦ subst (λ (x : Layout). is_wanted x.items (Some marks) (position_of x j) ≡ true) far.layout_is new.1
          ]),
          λ wanted. (hold.held j j_small).1 (inr (same_section j ∙ here, subst (λ (x : Layout). is_wanted x.items (Some marks) (position_of x j) ≡ true) (sym far.layout_is) wanted)),
        );
        room = subst (λ (x : Layout). HasRoom x marks restoring.ready.0) far.layout_is restoring.ready.3;
      }

      pub restored_on : Restored rest m w
      restored_on = record {
        sorted = sorted_rest;
        layout_is = hold.place.layout ∙ far.layout_is;
        capacity_is = hold.place.capacity ∙ far.capacity_is;
        ranges_are = hold.ranges far.ranges_are;
        number = λ t some. elim (cases_eq t s) [
          | inl here ↦ (subst (λ (x : ℕ). x < 2 ^ 64) (sym here) small, subst (λ (x : ℕ). x * l.items < 2 ^ 64) (sym here) first)
          | inr other ↦ far.number t (subst IsSome (hold.others t other) some)
        ];
        each = λ t t_small. elim (cases_eq t s) [
          | inl here ↦ inr (inl (subst (IsBack told l capacity marking base m w) (sym here) back_here), ap (λ (x : ℕ). left_at rest x) here ∙ gone)
          | inr other ↦ elim (far.each t t_small) [
            | inl yet ↦ inl (yet_still t t_small other yet.0, sym (tail t other) ∙ yet.1)
            | inr (inl back, none) ↦ inr (inl (back_still t t_small other back), sym (tail t other) ∙ none)
            | inr (inr unkept, none) ↦ inr (inr (unkept.0, yet_still t t_small other unkept.1), sym (tail t other) ∙ none)
          ]
        ];
        moments = moments_on show (Ok r) w there wants restoring;
        entries = entries_on show (Ok r) w there wants restoring;
        faults = faults_on show (Ok r) w there wants restoring;
      }

  -- none is left
  pub restored_done : (n : Store) (v : Sight) → Restored [] n v → RestoredAll told l capacity marking base v n
  restored_done n v far = record {
    layout_is = far.layout_is;
    capacity_is = far.capacity_is;
    ranges_are = far.ranges_are;
    number = far.number;
    each = λ t small. elim (far.each t small) [
      | inl (yet, none) ↦ inr ((λ kept. absurd (cc (subst (λ (m : _). is_wanted l.items m kept.1.0 ≡ true) (sym none) kept.1.1))), yet)
      | inr (done, none) ↦ done
    ];
  }

  module _ {T : Type 0} (show : T → Store) where
    pub all_done : (r : T) (v : Sight) → Restored [] (show r) v → RestoringAll told l capacity marking base show (Ok r) v
    all_done r v far = record { done = restored_done (show r) v far; refused = λ t e is. absurd (cc is); moments = far.moments; entries = far.entries; faults = far.faults; cause = tt }

    module _ (rest : Entries) (s : ℕ) (marks : Option (List Bool)) (small : s < 2 ^ 64) (n : Store) (v : Sight) (far : Restored ((s, marks) ∷ rest) n v) where
      first_of : told → (wants : HasWanted l.items marks) (e : Error) → IsFault l s (Some marks) (as_read (now base) (blob_of l s)) e → IsFirstRefused l marking (as_read (now base)) s e
      first_of tells wants e fault = record {
        kept = kept_of rest s marks small n v far wants;
        fault = subst (λ (m : _). IsFault l s m (as_read (now base) (blob_of l s)) e) (sym (marked_here rest s marks small n v far)) fault;
        first = λ t before kept. whole_at tells t before kept (marking t) refl;
      }
        where
          whole_at : told → (t : ℕ) → t < s → IsKept l marking t → (m : Option (Option (List Bool))) → marking t ≡ m → IsWhole l (marking t) (as_read (now base) (blob_of l t))
          whole_at tells t before kept None is = absurd (cc (subst (λ (m : _). is_wanted l.items m kept.1.0 ≡ true) is kept.1.1))
          whole_at tells t before kept (Some b) is =
              let both = whole_before rest s marks small n v far tells t before kept b is in
              subst (λ (m : _). IsWhole l m (as_read (now base) (blob_of l t))) (sym is) (subst (λ (x : Bool). IsWhole l (Some b) (cond x (Some (now base (blob_of l t)).content) None)) (sym both.1) both.0)

      -- there is no such blob
      pub all_missing : (result : Result T Error) (e : Error) → IsErrAnd result (λ x. x ≡ e) → e ≡ MissingRecord (s * l.items) → HasWanted l.items marks → (told → (now base (blob_of l s)).there ≡ false) → RestoringAll told l capacity marking base show result v
      all_missing result e is missing wants none = subst (λ (r : Result T Error). RestoringAll told l capacity marking base show r v) (sym (err_of result e is)) (record {
        done = tt;
        refused = λ t x same. inl (
          s,
          subst (IsFirstRefused l marking (as_read (now base)) s) (let at : e ≡ x = cc same in at) (first_of t wants e
              (subst (λ (b : Option (List ℕ)). IsFault l s (Some marks) b e) (sym (ap (λ (y : Bool). cond y (Some (now base (blob_of l s)).content) None) (none t))) missing)),
        );
        moments = far.moments;
        entries = far.entries;
        faults = far.faults;
        cause = inl (s * l.items, inl (let f : Error → Result T Error = λ x. Err x in ap f missing));
      })

      -- it is refused, or the device failed
      pub all_refused : (w : Sight) (result : Result T Error) (e : Error) → IsErrAnd result (λ x. x ≡ e) → (there : told → IsTrue (now base (blob_of l s)).there) → HasWanted l.items marks → Restoring show told n s marks (Err e) v w → RestoringAll told l capacity marking base show result w
      all_refused w result e is there wants r = subst (λ (x : Result T Error). RestoringAll told l capacity marking base show x w) (sym (err_of result e is)) (record {
        done = tt;
        refused = λ t x same. (let at : e ≡ x = cc same in
            let content : now v (blob_of l s) ≡ now base (blob_of l s) = (yet_here rest s marks small n v far).blob t in
            let there_n : IsTrue (now v (key_of n s)).there = subst (λ (y : Layout). IsTrue (now v (blob_of y s)).there) (sym far.layout_is) (subst (λ (b : Blob). IsTrue b.there) (sym content) (there t)) in
            elim (r.answer t there_n) [
              | inl fault ↦ inl (
                s,
                subst (IsFirstRefused l marking (as_read (now base)) s) at (first_of t wants e
                    (subst (λ (y : Bool). IsFault l s (Some marks) (cond y (Some (now base (blob_of l s)).content) None) e) (sym (there t))
                    (subst (λ (b : Blob). IsFault l s (Some marks) (Some b.content) e) content (subst (λ (y : Layout). IsFault y s (Some marks) (Some (now v (blob_of y s)).content) e) far.layout_is fault)))),
              )
              | inr why ↦ inr (failed_as {T = T} {U = T} e base v w far.faults why)
            ]);
        moments = moments_on rest s marks small n v far show (Err e) w there wants r;
        entries = entries_on rest s marks small n v far show (Err e) w there wants r;
        faults = faults_on rest s marks small n v far show (Err e) w there wants r;
        cause = elim r.cause [ inl wrong ↦ inl wrong | inr why ↦ inr (failed_as {T = T} {U = T} e base v w far.faults why) ];
      })

      -- one entry's turn, and what is known of the blobs of kept sections
      module _ (fits : (p : ℕ) → is_wanted l.items (Some marks) p ≡ true → s * l.items + p < 2 ^ 64) (listed : Bool) (listed_is : told → IsKept l marking s → IsTrue listed ↔ IsTrue (now base (blob_of l s)).there) where
        wants_of : HasWanted n.layout.items marks → HasWanted l.items marks
        wants_of wants = subst (λ (x : Layout). HasWanted x.items marks) far.layout_is wants

        not_there : listed ≡ false → HasWanted l.items marks → told → (now base (blob_of l s)).there ≡ false
        not_there absent wants t = not_true (now base (blob_of l s)).there (λ there. absurd (cc (absent, (listed_is t (kept_of rest s marks small n v far wants)).1 there)))

        is_there : listed ≡ true → HasWanted l.items marks → told → IsTrue (now base (blob_of l s)).there
        is_there found wants t = (listed_is t (kept_of rest s marks small n v far wants)).0 found

        all_err : (w : Sight) (result : Result T Error) (e : Error) → IsErrAnd result (λ x. x ≡ e) → RestoringIf show told n s marks listed (Err e) v w → RestoringAll told l capacity marking base show result w
        all_err w result e is (inl passed) = absurd passed.1
        all_err w result e is (inr (inl absent)) =
            let missing : e ≡ MissingRecord (s * n.layout.items) = cc absent.2 in
            subst (λ (x : Sight). RestoringAll told l capacity marking base show result x) (sym absent.3)
            (all_missing result e is (missing ∙ ap (λ (x : Layout). MissingRecord (s * x.items)) far.layout_is) (wants_of absent.0) (not_there absent.1 (wants_of absent.0)))
        all_err w result e is (inr (inr there)) = all_refused w result e is (is_there there.1 (wants_of there.0)) (wants_of there.0) there.2

        all_ok : (w : Sight) (r : T) → RestoringIf show told n s marks listed (Ok r) v w → Restored rest (show r) w
        all_ok w r (inl passed) = subst (λ (x : Sight). Restored rest (show r) x) (sym passed.2)
            (subst (λ (x : Store). Restored rest x v) (sym passed.1) (pass_on rest s marks small n v far (λ wants. passed.0 (subst (λ (x : Layout). HasWanted x.items marks) (sym far.layout_is) wants))))
        all_ok w r (inr (inl absent)) = absurd (cc absent.2)
        all_ok w r (inr (inr there)) = restored_on rest s marks small n v far show r w (let at = fits (wants_of there.0).0 (wants_of there.0).1 in omega (arith, at)) (is_there there.1 (wants_of there.0)) (wants_of there.0) there.2

    -- one turn: the entries that are left begin with this one
    module _ (left rest : Entries) (s : ℕ) (marks : Option (List Bool)) (is_left : left ≡ (s, marks) ∷ rest) (small : s < 2 ^ 64) (n : Store) (v : Sight) (far : Restored left n v)
        (fits : (t p : ℕ) → t < 2 ^ 64 → is_wanted l.items (marking t) p ≡ true → t * l.items + p < 2 ^ 64) where
      far_here : Restored ((s, marks) ∷ rest) n v
      far_here = subst (λ (x : Entries). Restored x n v) is_left far

      fits_here : (p : ℕ) → is_wanted l.items (Some marks) p ≡ true → s * l.items + p < 2 ^ 64
      fits_here p wanted = fits s p small (subst (λ (m : _). is_wanted l.items m p ≡ true) (sym (marked_here rest s marks small n v far_here)) wanted)

      pub turn_fits : (items : ℕ) → items ≡ l.items → (p : ℕ) → is_wanted items (Some marks) p ≡ true → s * items + p < 2 ^ 64
      turn_fits items same = subst (λ (k : ℕ). (p : ℕ) → is_wanted k (Some marks) p ≡ true → s * k + p < 2 ^ 64) (sym same) fits_here

      module _ (listed : Bool) (listed_is : told → IsKept l marking s → IsTrue listed ↔ IsTrue (now base (blob_of l s)).there) where
        pub turn_err : (w : Sight) (result : Result T Error) (e : Error) → IsErrAnd result (λ x. x ≡ e) → RestoringIf show told n s marks listed (Err e) v w → RestoringAll told l capacity marking base show result w
        turn_err = all_err rest s marks small n v far_here fits_here listed listed_is

        pub turn_ok : (w : Sight) (r : T) → RestoringIf show told n s marks listed (Ok r) v w → Restored rest (show r) w
        turn_ok = all_ok rest s marks small n v far_here fits_here listed listed_is
