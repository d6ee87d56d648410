-- Draining a replay of records, call by call.
use Rattle.std.specs.Prelude.{◌≡◌, ◌⊎◌, ℕ, ◌+◌, ◌<◌, ◌≤◌, ◌^◌, eqb, cond, Bool, false, true, List, [], ◌∷◌, ◌++◌, length, Option, Some, None, Err, IsSomeAnd, is_some, Result, Ok}
use Rattle.std.proofs.Common.{inl, inr, ⊎_elim, refl, sym, ap, ◌∙◌, subst, arith, length-append}
use Rattle.std.proofs.Math.Nat.{div-one}
use Rattle.std.proofs.lemmas.Bool.{cases_eq, cases_lt}
use Rattle.std.proofs.lemmas.List.{append-nil, append_assoc}
use Rattle.blob_device.specs.Disk.{Key}
use Rattle.blob_device.specs.Timeline.{disk}
use Rattle.blob_device.specs.declared.device.Device as device
use Rattle.value_codec.specs.declared.codec.Error as codec
use Rattle.segments.specs.lemmas.adding.Adding.{error_is}
use Rattle.value_codec.specs.lemmas.VarintPrefix.{prefix_gives}
use Rattle.variable_journal.specs.lemmas.Frame.{are_frames, bad_before, frame_some, frames_append, rest_none}
use Rattle.variable_journal.specs.lemmas.Running.{gone_on, keeps_on, passed_start}
use Rattle.sealed_pages.specs.SealedPrefix.{sealed_prefix}
use Rattle.sealed_pages.specs.declared.page_blob.PageBlob.{PageBlob}
use Rattle.section_manager.specs.Sections.{key_of, section_key, IsHeld}
use Rattle.section_manager.specs.Setting.{Setting}
use Rattle.section_manager.specs.declared.journal.Error.{Error}
use Rattle.section_manager.specs.declared.journal.Error.TheVariants.{Codec}
use Rattle.section_manager.specs.declared.buffer.SectionBuffer as buffer
use Rattle.segments.specs.FixedLists.{bytes_held}
use Rattle.segments.specs.FixedStepping.{way_of}
use Rattle.segments.specs.FixedReplay.{Walk, Begins, IsAhead, IsIn, Place, StandsBefore, kept_of}
use Rattle.variable_journal.specs.Advancing.{GivesError, GivesNone, GivesOne, HasGone, IsGoing, NextEnds, Nexts}
use Rattle.variable_journal.specs.Frames.{frame, frames, items_of, rest_of, HasBadLength}
use Rattle.variable_journal.specs.Replaying.{GivenItem, IsItemLeft, RefusesItem, given_bytes}
use Rattle.cache_store.specs.Entering.{Enters, IsEntered}
use Rattle.cache_store.specs.Filing.{offset_in}
use Rattle.cache_store.specs.Holding.{IsTied, marked, offsets_of}
use Rattle.cache_store.specs.Machine.{section_of}
use Rattle.cache_store.specs.RecordLaws.{record_kept}
use Rattle.cache_store.specs.Records.{entry_of, record_bytes, record_refusal}
use Rattle.cache_store.specs.Refusals.{AreOwn, ComesTo, IsRefusal}
use Rattle.cache_store.specs.Replayed.{HasEntered, HasNotEntered}
use Rattle.cache_store.specs.declared.held.Held.{Held}
use Rattle.cache_store.proofs.EndLemmas.{failed_since, rose_of}
use Rattle.cache_store.proofs.EnteringLemmas.{HasListed, listed_on}
use Rattle.cache_store.proofs.HoldingLemmas.{none_of}
use Rattle.cache_store.proofs.LawfulLemmas.{entry_record, no_items}
use Rattle.cache_store.proofs.ProgressLemmas.{HasTaken, IsAmong, IsNext, among_first, next, rest_next, taken_next, taken_on}
use Rattle.cache_store.proofs.StateLemmas.{chosen, passed}
use Rattle.blob_device.proofs.general.Options.{none_in, none_or_value, some_of}

either : (b : Bool) (n : ℕ) → n ≡ 0 → cond b n 0 ≡ 0
either true n zero = zero
either false n zero = refl

-- a replay has still to go over a section, or it has not
near_or : {F B : Type 0} (k : Walk F B) (s : ℕ) → (IsAhead k s ⊎ IsIn k s) ⊎ (IsAhead k s ⊎ IsIn k s → ⊥)
near_or k s = elim (ahead_or k.next_section) [
  | inl ahead ↦ inl (inl ahead)
  | inr not ↦ elim (in_or k.place) [ inl inside ↦ inl (inr inside) | inr out ↦ inr (λ near. ⊎_elim (λ ahead. not ahead) (λ inside. out inside) near) ]
]
  where
    ahead_or : (o : Option ℕ) → IsSomeAnd o (λ n. n ≤ s) ⊎ (IsSomeAnd o (λ n. n ≤ s) → ⊥)
    ahead_or None = inr (λ is. is)
    ahead_or (Some n) = elim (cases_lt s n) [ inl less ↦ inr (λ le. omega (arith, less, le)) | inr le ↦ inl le ]

    in_or : (o : Option Place) → IsSomeAnd o (λ r. r.section ≡ s) ⊎ (IsSomeAnd o (λ r. r.section ≡ s) → ⊥)
    in_or None = inr (λ is. is)
    in_or (Some r) = cases_eq r.section s

-- What is given is a record: its index and the spelling of its value, which the codec accepts.
pub record AreRecords {V C : Type 0} (spelling : V → List ℕ) (accepted : V → C → Type 0) (refuses : List ℕ → Option codec.Error) (config : C) : Type 0 where
  pub index : V → ℕ
  pub value : V → List ℕ
  pub spelled : (v : V) → spelling v ≡ record_bytes (index v) (value v)
  pub number : (v : V) → accepted v config → index v < 2 ^ 64
  pub fine : (v : V) → accepted v config → refuses (value v) ≡ None

module _ {F S D V C : Type 0} {gs : _} (g : buffer.Ghosts (PageBlob S gs)) (gives : F → Setting) (seal : List ℕ → ℕ) (dev : device.Ghosts D)
    (spelling : V → List ℕ) (accepted : V → C → Type 0) (refusal : List ℕ → C → Option codec.Error) (config : C)
    (items : ℕ) (refuses : List ℕ → Option codec.Error) (records : AreRecords spelling accepted refuses config)
    (w : Walk F (PageBlob S gs)) (old : D) where
  -- the bytes from which records are given
  abbrev pub bytes : ℕ → List ℕ
  bytes = given_bytes seal w (disk (dev.time old))

  -- Of each section some were entered, and the rest are left.
  pub record IsUnderWay (k : Walk F (PageBlob S gs)) (new : D) (offsets : ℕ → Option ℕ) : Type 0 where
    pub taken : ℕ → List (List ℕ)
    pub rest : ℕ → List (List ℕ)
    pub split : (t : ℕ) → items_of (bytes t) ≡ taken t ++ rest t
    pub left : HasTaken (IsHeld w.journal.sections) taken rest (IsItemLeft seal k (disk (dev.time new)))
    pub listed : HasListed items (λ x. record_refusal refuses x ≡ None) taken offsets

  -- the replay has come to k, and these are entered
  pub record HasCome (k : Walk F (PageBlob S gs)) (new : D) (offsets : ℕ → Option ℕ) : Type 0 where
    pub gone : HasGone g gives seal dev w k old new
    pub over : IsGoing g gives seal dev k new
    pub going : k.ended ≡ false
    pub under_way : dev.Tells → IsUnderWay k new offsets

  -- What was given up to the replay k is held; what decoding an item needs to know has stayed.
  pub record IsEntering (k : Walk F (PageBlob S gs)) (kept : C) (new : D) (held : Held) : Type 0 where
    pub come : HasCome k new (offsets_of held)
    pub tied : IsTied held
    pub same_config : kept ≡ config

  bytes_none : (t : ℕ) → w.journal.sections.held t ≡ None → bytes t ≡ []
  bytes_none t none = ap (λ (o : Option (PageBlob S gs)). kept_of seal (w.journal.unrecovered t) o (disk (dev.time old) (key_of w.journal.sections t)).content) none

  module _ (begins : Begins w.journal 0 0 w) (over : IsGoing g gives seal dev w old) where
    left_start : HasTaken (IsHeld w.journal.sections) (λ t. []) (λ t. items_of (bytes t)) (IsItemLeft seal w (disk (dev.time old)))
    left_start = record { left = λ t q i. (to t q i, from t q i) }
      where
        to : (t q : ℕ) (i : List ℕ) → IsItemLeft seal w (disk (dev.time old)) t q i → IsHeld w.journal.sections t × IsAmong (items_of (bytes t)) (length (frames [])) q i
        to t q i l = (
          ⊎_elim (λ here. here.0) (λ there. absurd (none_in w.place (λ r. (r.section ≡ t) × (r.position ≤ q)) begins.between there)) l.byte.ahead,
          record { before = l.whole.before; after = l.whole.after; are = l.whole.are; begins = omega (arith, l.whole.at) },
        )

        from : (t q : ℕ) (i : List ℕ) → IsHeld w.journal.sections t × IsAmong (items_of (bytes t)) (length (frames [])) q i → IsItemLeft seal w (disk (dev.time old)) t q i
        from t q i is =
            let among = is.1 in
            let are = are_frames (bytes t) in
            let size : length (bytes t) ≡ length (frames (items_of (bytes t))) + length (rest_of (bytes t)) = ap length are.is ∙ length-append (frames (items_of (bytes t))) (rest_of (bytes t)) in
            let parts : length (frames (items_of (bytes t))) ≡ length (frames among.before) + length (frame i ++ frames among.after) =
            ap (λ (xs : List (List ℕ)). length (frames xs)) among.are ∙ ap length (frames_append among.before (i ∷ among.after)) ∙ length-append (frames among.before) (frame i ++ frames among.after) in
            record {
              byte = record {
                goes_on = begins.going;
                begun = omega (arith, either (eqb t w.start_section) w.start_position begins.position);
                whole = omega (arith, div-one (length (bytes t)), size, parts, among.begins, length-append (frame i) (frames among.after), frame_some i);
                ahead = inl (is.0, subst (λ (o : Option ℕ). IsSomeAnd o (λ n. n ≤ t)) (sym begins.first) (omega arith));
              };
              whole = record { before = among.before; after = among.after; are = among.are; at = omega (arith, among.begins) };
            }

    -- nothing was entered yet
    pub entering_start : (held : Held) → IsTied held → ((i : ℕ) → is_some (offsets_of held i) ≡ false) → IsEntering w config old held
    entering_start held tied none = record {
      come = record {
        gone = (passed_start g gives seal dev w old).gone;
        over = over;
        going = begins.going;
        under_way = λ t. record {
          taken = λ s. [];
          rest = λ s. items_of (bytes s);
          split = λ s. refl;
          left = left_start;
          listed = record { listed = λ i. none_of _ (none i); decoded = λ s. tt; in_section = λ s. tt };
        };
      };
      tied = tied;
      same_config = refl;
    }

  module _ (begins : Begins w.journal 0 0 w) (k m : Walk F (PageBlob S gs)) (mid new : D) (was : Held) (come : HasCome k mid (offsets_of was)) where
    -- a section of which something is left has a number
    number : (s : ℕ) → IsHeld w.journal.sections s → s < 2 ^ 64
    number s held = come.over.bytes.over.opened_list.number s (inl ((come.gone.goes.held s).1 held))

    module _ (t : dev.Tells) where
      -- what was taken of a section are its records
      own_taken : (s : ℕ) → AreOwn items refuses s ((come.under_way t).taken s)
      own_taken s = record { decoded = (come.under_way t).listed.decoded s; in_section = (come.under_way t).listed.in_section s }

      -- all of a section is taken where nothing of it is left
      all_taken : (s : ℕ) → ((q : ℕ) (i : List ℕ) → IsItemLeft seal k (disk (dev.time mid)) s q i → ⊥) → items_of (bytes s) ≡ (come.under_way t).taken s
      all_taken s none = go ((come.under_way t).rest s) refl
        where
          no_head : (x : List ℕ) (xs : List (List ℕ)) → (come.under_way t).rest s ≡ x ∷ xs → ⊥
          no_head x xs is = ⊎_elim
              (λ bare. (let none_there : [] ≡ (come.under_way t).taken s ++ x ∷ xs = sym (ap items_of (bytes_none s bare) ∙ no_items) ∙ (come.under_way t).split s ∙ ap (λ (l : List (List ℕ)). (come.under_way t).taken s ++ l) is in
              let long : length {A = List ℕ} [] ≡ length ((come.under_way t).taken s ++ x ∷ xs) = ap length none_there in
              omega (arith, long, length-append ((come.under_way t).taken s) (x ∷ xs))))
              (λ some. none (length (frames ((come.under_way t).taken s))) x
              (((come.under_way t).left.left s (length (frames ((come.under_way t).taken s))) x).1
              (ap is_some some.1, subst (λ (l : List (List ℕ)). IsAmong l (length (frames ((come.under_way t).taken s))) (length (frames ((come.under_way t).taken s))) x) (sym is) (among_first x xs _))))
              (none_or_value (w.journal.sections.held s))

          go : (l : List (List ℕ)) → (come.under_way t).rest s ≡ l → items_of (bytes s) ≡ (come.under_way t).taken s
          go [] is = (come.under_way t).split s ∙ ap (λ (l : List (List ℕ)). (come.under_way t).taken s ++ l) is ∙ append-nil ((come.under_way t).taken s)
          go (x ∷ xs) is = absurd (no_head x xs is)

      -- then they are its records
      all_own : (s : ℕ) → ((q : ℕ) (i : List ℕ) → IsItemLeft seal k (disk (dev.time mid)) s q i → ⊥) → AreOwn items refuses s (items_of (bytes s))
      all_own s none = subst (AreOwn items refuses s) (sym (all_taken s none)) (own_taken s)

      -- a length that is refused stays so
      still_bad : (s : ℕ) → HasBadLength (rest_of (bytes s)) → HasBadLength (rest_of (given_bytes seal k (disk (dev.time mid)) s))
      still_bad s bad = elim (none_or_value (w.journal.sections.held s)) [
        | inl none ↦ absurd (omega (arith, bad.enough, ap length (ap rest_of (bytes_none s none) ∙ rest_none)))
        | inr some ↦ (let now = some_of (k.journal.sections.held s) ((come.gone.goes.held s).1 (ap is_some some.1)) in
            subst (λ (l : List ℕ). HasBadLength (rest_of l)) (sym (same (w.journal.unrecovered s) refl some.0 now.0 some.1 now.1)) bad)
      ]
        where
          key : key_of k.journal.sections s ≡ key_of w.journal.sections s
          key = ap (λ (p : List ℕ). section_key p s) come.gone.keeps.same.bounds.place.partition

          same : (owes : Bool) → w.journal.unrecovered s ≡ owes → (u x : PageBlob S gs) → w.journal.sections.held s ≡ Some u → k.journal.sections.held s ≡ Some x
              → given_bytes seal k (disk (dev.time mid)) s ≡ bytes s
          same false free u x was now = (λ i. kept_of seal ((come.gone.keeps.same.unrecovered s ∙ free) i) (now i) (disk (dev.time mid) (key i)).content)
              ∙ ((come.gone.keeps.on_disk t).bytes s u x was now free).bytes tt
              ∙ sym (λ i. kept_of seal (free i) (was i) (disk (dev.time old) (key_of w.journal.sections s)).content)
          same true owes u x was now =
              let given : bytes s ≡ sealed_prefix seal u.page_size (disk (dev.time old) (key_of w.journal.sections s)).content =
              λ i. kept_of seal (owes i) (was i) (disk (dev.time old) (key_of w.journal.sections s)).content in
              (λ i. kept_of seal ((come.gone.keeps.same.unrecovered s ∙ owes) i) (now i) (disk (dev.time mid) (key i)).content)
              ∙ ap (λ (P : ℕ). sealed_prefix seal P (disk (dev.time mid) (key_of w.journal.sections s)).content) (come.gone.keeps.floors s u x was now).page_size
              ∙ ((come.gone.keeps.on_disk t).items come.going s u was owes).all (subst (λ (l : List ℕ). HasBadLength (rest_of l)) given bad)
              ∙ sym given

      -- and none is in a section that was gone over
      none_bad : (s : ℕ) → ((r : ℕ) → IsAhead k r ⊎ IsIn k r → r < s → HasBadLength (rest_of (given_bytes seal k (disk (dev.time mid)) r)) → ⊥)
          → (r : ℕ) → r < s → HasBadLength (rest_of (bytes r)) → ⊥
      none_bad s none r less bad = elim (near_or k r) [
        | inl near ↦ none r near less (still_bad r bad)
        | inr gone ↦ (let whole : rest_of (given_bytes seal k (disk (dev.time mid)) r) ≡ [] = (come.over.walked t).gone_over (come.gone.goes.failed ∙ begins.whole) r
            (record { begun = omega (arith, come.gone.keeps.same.section, begins.section); not_ahead = λ is. gone (inl is); not_in = λ is. gone (inr is) }) in
            let still = still_bad r bad in omega (arith, still.enough, ap length whole))
      ]

      -- the replay has come to the first frame that is left
      comes_to : (s : ℕ) → IsHeld w.journal.sections s → (item : List ℕ) (behind : List (List ℕ)) → (come.under_way t).rest s ≡ item ∷ behind
          → ((r : ℕ) → IsAhead k r ⊎ IsIn k r → r < s → HasBadLength (rest_of (given_bytes seal k (disk (dev.time mid)) r)) → ⊥)
          → ((r q : ℕ) (i : List ℕ) → IsItemLeft seal k (disk (dev.time mid)) r q i → r < s → ⊥) → ComesTo items refuses bytes s ((come.under_way t).taken s) (item ∷ behind)
      comes_to s held item behind is none first = record {
        number = number s held;
        are = (come.under_way t).split s ∙ ap (λ (l : List (List ℕ)). (come.under_way t).taken s ++ l) is;
        here = own_taken s;
        earlier = λ r less. all_own r (λ q i left. first r q i left less);
        lengths = none_bad s none;
      }

    -- a record was given
    module _ (x : GivenItem V) (one : GivesOne g gives seal dev spelling accepted refusal config k m mid new x) where
      one_gone : HasGone g gives seal dev w m old new
      one_gone = gone_on g gives seal dev w k m old mid new come.gone come.going one.gone

      module _ (t : dev.Tells) where
        -- it is the next one of its section
        abbrev next_one : IsNext (IsHeld w.journal.sections) (come.under_way t).taken (come.under_way t).rest (IsItemLeft seal k (disk (dev.time mid))) (IsItemLeft seal m (disk (dev.time new)))
            (come.under_way t).left x.0 x.1 (one.item t).item (one.item t).left (one.item t).first (one.item t).rest
        next_one = next (IsHeld w.journal.sections) (come.under_way t).taken (come.under_way t).rest (IsItemLeft seal k (disk (dev.time mid))) (IsItemLeft seal m (disk (dev.time new)))
            (come.under_way t).left x.0 x.1 (one.item t).item (one.item t).left (one.item t).first (one.item t).rest

        item_is : (one.item t).item ≡ record_bytes (records.index x.3) (records.value x.3)
        item_is = sym (one.item t).spells.spelled ∙ records.spelled x.3

        entry_is : entry_of (one.item t).item ≡ record { index = records.index x.3; value = records.value x.3 }
        entry_is = ap entry_of item_is ∙ entry_record (record { partition = []; page_size = 0; seal = seal; items = items; refusal = refuses }) 0 [] (records.index x.3) (records.value x.3)
            (prefix_gives (2 ^ 64) 10 (records.index x.3) (records.value x.3) (records.number x.3 (one.item t).spells.allowed))

        fine_item : record_refusal refuses (one.item t).item ≡ None
        fine_item = ap (record_refusal refuses) item_is ∙ record_kept refuses (records.index x.3) (records.value x.3) (records.number x.3 (one.item t).spells.allowed) (records.fine x.3 (one.item t).spells.allowed)

        held_here : IsHeld w.journal.sections x.0
        held_here = (((come.under_way t).left.left x.0 x.1 (one.item t).item).0 (one.item t).left).0

      -- it is entered
      come_on : (now : Held) → IsEntered items x.0 x.1 (records.index x.3) was now → HasCome m new (offsets_of now)
      come_on now entered = record {
        gone = one_gone;
        over = one.over;
        going = one.gone.goes.ended ∙ come.going;
        under_way = λ t. record {
          taken = taken_next (come.under_way t).taken x.0 (one.item t).item;
          rest = rest_next (come.under_way t).rest x.0 (next_one t).after;
          split = λ s. split_on t s;
          left = taken_on (IsHeld w.journal.sections) (come.under_way t).taken (come.under_way t).rest (IsItemLeft seal k (disk (dev.time mid))) (IsItemLeft seal m (disk (dev.time new)))
              (come.under_way t).left x.0 x.1 (one.item t).item (one.item t).left (one.item t).first (one.item t).rest;
          listed = listed_on items (λ y. record_refusal refuses y ≡ None) (come.under_way t).taken (offsets_of was) (offsets_of now) (come.under_way t).listed x.0 x.1 (one.item t).item
              (next_one t).at (fine_item t) (ap (λ (e : _). section_of items e.index) (entry_is t) ∙ entered.own)
              (λ i. entered.held i ∙ (λ j. marked (index_is t j) x.1 (offsets_of was) i));
        };
      }
        where
          index_is : (t : dev.Tells) → records.index x.3 ≡ (entry_of (one.item t).item).index
          index_is t = ap (λ (e : _). e.index) (sym (entry_is t))

          split_on : (t : dev.Tells) (s : ℕ) → items_of (bytes s) ≡ taken_next (come.under_way t).taken x.0 (one.item t).item s ++ rest_next (come.under_way t).rest x.0 (next_one t).after s
          split_on t s = (come.under_way t).split s ∙ ⊎_elim
              (λ (here : s ≡ x.0). ap (λ (xs : List (List ℕ)). (come.under_way t).taken s ++ xs) (ap (come.under_way t).rest here ∙ (next_one t).is)
              ∙ sym (append_assoc ((come.under_way t).taken s) ((one.item t).item ∷ []) (next_one t).after)
              ∙ sym (λ j. chosen s x.0 ((come.under_way t).taken s ++ (one.item t).item ∷ []) ((come.under_way t).taken s) here j ++ chosen s x.0 (next_one t).after ((come.under_way t).rest s) here j))
              (λ other. sym (λ j. passed s x.0 ((come.under_way t).taken s ++ (one.item t).item ∷ []) ((come.under_way t).taken s) other j ++ passed s x.0 (next_one t).after ((come.under_way t).rest s) other j))
              (cases_eq s x.0)

      -- it is of another section, or there was no memory
      come_astray : (now : Held) (e : Error) → Enters items x.0 x.1 (records.index x.3) was now (Err e) → HasNotEntered g gives seal dev items refuses w m old new e
      come_astray now e (inr mem) = record { keeps = one_gone.keeps; cause = λ t. inr (inl mem); fault = λ is. absurd (cc (mem, is)) }
      come_astray now e (inl stray) = (let astray = stray.2 in record {
        keeps = one_gone.keeps;
        cause = λ t. inl (inr (inr (
          stray.0,
          stray.1,
          record {
            before = (come.under_way t).taken x.0;
            item = (one.item t).item;
            behind = (next_one t).after;
            come = subst (λ (s : ℕ). ComesTo items refuses bytes s ((come.under_way t).taken x.0) ((one.item t).item ∷ (next_one t).after)) (sym astray.section)
                (comes_to t x.0 (held_here t) (one.item t).item (next_one t).after (next_one t).is (one.item t).lengths (λ r q i left less. (one.item t).first r q i left (inl less)));
            decoded = fine_item t;
            kept = astray.kept ∙ sym astray.section;
            wanted = astray.wanted ∙ sym (ap (λ (e : _). section_of items e.index) (entry_is t));
            other = λ same. astray.other (same ∙ astray.section);
          },
        )));
        fault = λ is. (let at = stray.1 in absurd (cc (at, is)));
      })

    -- all were given
    come_end : IsTied was → GivesNone g gives seal dev spelling accepted refusal config k m mid new → HasEntered g gives seal dev items refuses w m old new was
    come_end tied none = record {
      gone = gone_on g gives seal dev w k m old mid new come.gone come.going none.passed.gone;
      over = none.over;
      drained = ⊎_elim (λ drained. drained) (λ ended. absurd (let going = none.passed.gone.goes.ended ∙ come.going in cc (ended, going))) none.drained;
      tied = tied;
      entered = λ t. record {
        listed = λ i. (come.under_way t).listed.listed i ∙ ap (offset_in i 0) (sym (all_taken t (section_of items i) (none.none t (section_of items i))));
        own = λ s. all_own t s (none.none t s);
      };
    }

    -- an error was given
    module _ (same_refusal : (x : List ℕ) → refusal x config ≡ record_refusal refuses x)
        (e : Error) (error : GivesError g gives seal dev spelling accepted refusal config k m mid new e) where
      bad_length : dev.Tells → (s : ℕ) → HasBadLength (rest_of (given_bytes seal k (disk (dev.time mid)) s)) → HasBadLength (rest_of (bytes s))
      bad_length t s bad = go (k.journal.sections.held s) refl (k.journal.unrecovered s) refl bad
        where
          go : (o : Option (PageBlob S gs)) → k.journal.sections.held s ≡ o → (b : Bool) → k.journal.unrecovered s ≡ b
              → HasBadLength (rest_of (kept_of seal b o (disk (dev.time mid) (key_of k.journal.sections s)).content)) → HasBadLength (rest_of (bytes s))
          go None is b owes bad = absurd (omega (arith, bad.enough, ap length rest_none))
          go (Some u) is false owes bad =
              let whole : rest_of (bytes_held (Some u) (disk (dev.time mid) (key_of k.journal.sections s)).content) ≡ [] =
              sym (ap (λ (o : Option (PageBlob S gs)). rest_of (bytes_held o (disk (dev.time mid) (key_of k.journal.sections s)).content)) is) ∙ (come.over.walked t).framed s owes in
              absurd (omega (arith, bad.enough, ap length whole))
          go (Some u) is true owes bad =
              let was = some_of (w.journal.sections.held s) ((come.gone.goes.held s).0 (ap is_some is)) in
              let owed : w.journal.unrecovered s ≡ true = sym (come.gone.keeps.same.unrecovered s) ∙ owes in
              let kept = (come.gone.keeps.on_disk t).items come.going s was.0 was.1 owed in
              let page : u.page_size ≡ was.0.page_size = (come.gone.keeps.floors s was.0 u was.1 is).page_size in
              let key : key_of k.journal.sections s ≡ key_of w.journal.sections s = ap (λ (p : List ℕ). section_key p s) come.gone.keeps.same.bounds.place.partition in
              let here : HasBadLength (rest_of (sealed_prefix seal was.0.page_size (disk (dev.time mid) (key_of w.journal.sections s)).content)) =
              subst (λ (q : Key). HasBadLength (rest_of (sealed_prefix seal was.0.page_size (disk (dev.time mid) q).content))) key
              (subst (λ (P : ℕ). HasBadLength (rest_of (sealed_prefix seal P (disk (dev.time mid) (key_of k.journal.sections s)).content))) page bad) in
              let before : HasBadLength (rest_of (sealed_prefix seal was.0.page_size (disk (dev.time old) (key_of w.journal.sections s)).content)) =
              bad_before _ _ (subst (λ (l : List ℕ). HasBadLength (rest_of l)) kept.first here) in
              subst (λ (l : List ℕ). HasBadLength (rest_of l)) (λ j. kept_of seal (sym owed j) (sym was.1 j) (disk (dev.time old) (key_of w.journal.sections s)).content) before

      -- it is held
      bad_held : dev.Tells → (s : ℕ) → HasBadLength (rest_of (given_bytes seal k (disk (dev.time mid)) s)) → IsHeld w.journal.sections s
      bad_held t s bad = elim (none_or_value (k.journal.sections.held s)) [
        | inl none ↦ absurd (let nothing : rest_of (given_bytes seal k (disk (dev.time mid)) s) ≡ [] =
            ap (λ (o : Option (PageBlob S gs)). rest_of (kept_of seal (k.journal.unrecovered s) o (disk (dev.time mid) (key_of k.journal.sections s)).content)) none ∙ rest_none in
            omega (arith, bad.enough, ap length nothing))
        | inr some ↦ (come.gone.goes.held s).0 (ap is_some some.1)
      ]

      code : dev.Tells → (y : codec.Error) → e ≡ Codec y → RefusesItem seal k m (disk (dev.time mid)) (disk (dev.time new)) refusal config y
          → IsRefusal items refuses bytes e
      code t y is refused = elim refused.why [
        | inr bad ↦ inl (
          is ∙ ap Codec bad.0,
          record {
            section = refused.section;
            come = record {
              number = number refused.section (bad_held t refused.section bad.2);
              are = sym (append-nil (items_of (bytes refused.section)));
              here = all_own t refused.section bad.1;
              earlier = λ r less. all_own t r (λ q i left. refused.ends.first r q i left less);
              lengths = none_bad t refused.section refused.lengths;
            };
            bad = bad_length t refused.section bad.2;
          },
        )
        | inl item ↦ (let s = refused.section in
            let has = ((come.under_way t).left.left s item.0 item.1).0 item.2 in
            let here = next (IsHeld w.journal.sections) (come.under_way t).taken (come.under_way t).rest (IsItemLeft seal k (disk (dev.time mid)))
            (λ r q i. IsItemLeft seal k (disk (dev.time mid)) r q i × StandsBefore s item.0 r q) (come.under_way t).left s item.0 item.1 item.2
            (λ r q i left before. ⊎_elim (λ (less : r < s). refused.ends.first r q i left less)
            (λ (same : (r ≡ s) × (q < item.0)). (let le = item.3 q i (subst (λ (n : ℕ). IsItemLeft seal k (disk (dev.time mid)) n q i) same.0 left) in let lt = same.1 in omega (arith, le, lt))) before)
            (λ r q i. (λ both. both, λ both. both)) in
            inr (inl (
              y,
              is,
              record {
                section = s;
                before = (come.under_way t).taken s;
                item = item.1;
                behind = here.after;
                come = comes_to t s has.0 item.1 here.after here.is refused.lengths (λ r q i left less. refused.ends.first r q i left less);
                refused = sym (same_refusal item.1) ∙ item.4;
              },
            )))
      ]

      come_error : HasNotEntered g gives seal dev items refuses w m old new e
      come_error = record {
        keeps = keeps_on g gives seal dev w k m old mid new come.gone come.going error.keeps;
        cause = λ t. elim error.cause [
          | inl start ↦ absurd (let at = (error.says t).start k.start_position start in omega (arith, at.1, come.gone.keeps.same.position, begins.position))
          | inr (inl below) ↦ absurd ((error.says t).floor below.0 below.1)
          | inr (inr (inl page)) ↦ absurd ((error.says t).damaged page.0 (error_is e _ page.1))
          | inr (inr (inr (inl coded))) ↦ inl (code t coded.0 (error_is e _ coded.1) ((error.says t).refused coded.0 (error_is e _ coded.1)))
          | inr (inr (inr (inr failed))) ↦ inr (failed_since e _ _ _ come.gone.keeps.faults failed)
        ];
        fault = λ is. elim error.cause [
          | inl start ↦ absurd (cc (start, is))
          | inr (inl below) ↦ absurd (let at = below.1 in cc (at, is))
          | inr (inr (inl page)) ↦ absurd (let at = error_is e _ page.1 in cc (at, is))
          | inr (inr (inr (inl coded))) ↦ absurd (let at = error_is e _ coded.1 in cc (at, is))
          | inr (inr (inr (inr failed))) ↦ rose_of e _ _ (failed_since e _ _ _ come.gone.keeps.faults failed) is
        ];
      }

  -- A call of the replay, in the loop.
  module _ (begins : Begins w.journal 0 0 w) (k m : Walk F (PageBlob S gs)) (kept kept_then : C) (mid new : D) (held : Held) (entering : IsEntering k kept mid held) (answer : Option (Result (GivenItem V) Error))
      (says : Nexts g gives seal dev spelling accepted refusal kept k m mid new answer kept_then) where
    -- what decoding an item needs to know has stayed
    pub entering_config : kept_then ≡ config
    entering_config = says.same_config ∙ entering.same_config

    answered : (given : Option (Result (GivenItem V) Error)) → answer ≡ given → NextEnds g gives seal dev spelling accepted refusal config k m mid new given
    answered given is = subst (NextEnds g gives seal dev spelling accepted refusal config k m mid new) is
        (subst (λ (c : C). NextEnds g gives seal dev spelling accepted refusal c k m mid new answer) entering.same_config says.ends)

    -- it gave a record
    module _ (x : GivenItem V) (is : answer ≡ Some (Ok x)) where
      -- which is entered
      pub entering_on : (now : Held) → IsEntered items x.0 x.1 (records.index x.3) held now → IsEntering m kept_then new now
      entering_on now entered = record { come = come_on begins k m mid new held entering.come x (answered (Some (Ok x)) is) now entered; tied = entered.tied; same_config = entering_config }

      -- so there is less to go over
      pub entering_nearer : way_of m < way_of k
      entering_nearer = (answered (Some (Ok x)) is).nearer

      -- or is of another section, or there was no memory
      pub entering_astray : (now : Held) (e : Error) → Enters items x.0 x.1 (records.index x.3) held now (Err e) → HasNotEntered g gives seal dev items refuses w m old new e
      entering_astray = come_astray begins k m mid new held entering.come x (answered (Some (Ok x)) is)

    -- it gave an error
    pub entering_failed : ((x : List ℕ) → refusal x config ≡ record_refusal refuses x) → (e : Error) → answer ≡ Some (Err e) → HasNotEntered g gives seal dev items refuses w m old new e
    entering_failed same_refusal e is = come_error begins k m mid new held entering.come same_refusal e (answered (Some (Err e)) is)

    -- all were given
    pub entering_end : answer ≡ None → HasEntered g gives seal dev items refuses w m old new held
    entering_end is = come_end begins k m mid new held entering.come entering.tied (answered None is)
