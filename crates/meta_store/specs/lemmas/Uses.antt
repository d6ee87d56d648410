-- What a layer above uses of maps: bytes read in one way, a map stands as long as its two blobs do, and a fresh image.
use Rattle.std.proofs.Common.{◌≡◌, inl, ℕ, ◌+◌, Bool, true, false, cond, List, [], ◌∷◌, ◌++◌, length, Option, Some, None, refl, sym, ◌∙◌, ap, subst, arith, length-append}
use Rattle.std.proofs.lemmas.List.{append_assoc}
use Rattle.std.specs.Int.{w32, w64, to_be_bytes}
use Rattle.std.specs.List.{AllByRecursion}
use Rattle.std.specs.Map.{set_value}
use Rattle.std.specs.BTreeMap.{is_at}
use Rattle.blob_device.specs.Disk.{Blob, Disk, MayLeave, past, settled_at, begun}
use Rattle.meta_store.specs.declared.copy.Contents.{Contents}
use Rattle.meta_store.specs.declared.copy.CopyText.{CopyText}
use Rattle.meta_store.specs.declared.copy.CopyText.TheVariants.{Absent, Refused, Whole}
use Rattle.meta_store.specs.declared.copy.Form.{Form}
use Rattle.meta_store.specs.declared.error.Side.TheVariants.{Left, Right}
use Rattle.meta_store.specs.declared.metadata.Metadata.{Metadata}
use Rattle.meta_store.specs.declared.pair.Chosen.{Chosen}
use Rattle.meta_store.specs.Format.{Format}
use Rattle.meta_store.specs.Copies.{ReadsAs, IsText, IsStorable, entry_bytes, entries_bytes, body_bytes, form_of}
use Rattle.meta_store.specs.Pairs.{HoldMap, chosen_of}
use Rattle.meta_store.specs.Blobs.{blob_of, bytes_of}
use Rattle.meta_store.specs.Crashes.{Keeps, NoChanceSeal, ReadsNoChance}
use Rattle.meta_store.specs.Lends.{WroteValue}
use Rattle.meta_store.specs.Store.{Store, Stands, MayBeSynced}
use Rattle.meta_store.specs.lemmas.Bytes.{append_parts, length-four, same_number_4, same_number_8}
use Rattle.meta_store.specs.lemmas.Forms.{one_floor}
use Rattle.meta_store.specs.lemmas.Leaving.{settled_content}
use Rattle.meta_store.specs.lemmas.Readings.{reads_absent, reads_refused, reads_whole}

-- Keys have one length, and keys and accepted values are known by their bytes. The laws of `Key` and `Codec` give it.
pub record IsReadable {K V : Type 0} (f : Format K V) : Type 0 where
  pub size : ℕ
  pub sized : (k : K) → length (f.key_bytes k) ≡ size
  pub one_key : (k j : K) → f.key_bytes k ≡ f.key_bytes j → k ≡ j
  pub one_value : (v w : V) → f.accepted v → f.accepted w → f.spelling v ≡ f.spelling w → v ≡ w

module _ {K V : Type 0} (f : Format K V) where
  -- bytes read in one way
  module _ (readable : IsReadable f) where
    one_entry : (d e : K × V) (x y : List ℕ) → IsStorable f d.1 → IsStorable f e.1 → entry_bytes f.key_bytes f.spelling d ++ x ≡ entry_bytes f.key_bytes f.spelling e ++ y → (d ≡ e) × (x ≡ y)
    unfolding entry_bytes
    one_entry d e x y of_d of_e is =
        let prefix = λ (g : K × V). f.key_bytes g.0 ++ to_be_bytes w32 (length (f.spelling g.1)) in
        let split = append_parts (prefix d) (prefix e) (f.spelling d.1 ++ x) (f.spelling e.1 ++ y) (sized_prefix d ∙ sym (sized_prefix e)) (sym (append_assoc (prefix d) (f.spelling d.1) x) ∙ is ∙ append_assoc (prefix e) (f.spelling e.1) y) in
        let prefixes = append_parts (f.key_bytes d.0) (f.key_bytes e.0) (to_be_bytes w32 (length (f.spelling d.1))) (to_be_bytes w32 (length (f.spelling e.1))) (readable.sized d.0 ∙ sym (readable.sized e.0)) split.0 in
        let same = same_number_4 (length (f.spelling d.1)) (length (f.spelling e.1)) of_d.fits of_e.fits prefixes.1 in
        let texts = append_parts (f.spelling d.1) (f.spelling e.1) x y same split.1 in
        let key = readable.one_key d.0 e.0 prefixes.0 in
        let value = readable.one_value d.1 e.1 of_d.accepted of_e.accepted texts.0 in
        (λ i. (key i, value i), texts.1)
      where
        sized_prefix : (g : K × V) → length (f.key_bytes g.0 ++ to_be_bytes w32 (length (f.spelling g.1))) ≡ readable.size + 4
        sized_prefix g = omega (arith, length-append (f.key_bytes g.0) (to_be_bytes w32 (length (f.spelling g.1))), readable.sized g.0, length-four (length (f.spelling g.1)))

    one_list : (ds es : List (K × V)) → length ds ≡ length es → MayBeSynced f ds → MayBeSynced f es → entries_bytes f.key_bytes f.spelling ds ≡ entries_bytes f.key_bytes f.spelling es → ds ≡ es
    one_list [] [] same of_ds of_es is = refl
    one_list [] (e ∷ es) same of_ds of_es is = absurd (cc same)
    one_list (d ∷ ds) [] same of_ds of_es is = absurd (cc same)
    one_list (d ∷ ds) (e ∷ es) same of_ds of_es is =
        let split = one_entry d e (entries_bytes f.key_bytes f.spelling ds) (entries_bytes f.key_bytes f.spelling es) of_ds.0 of_es.0 is in
        let rest = one_list ds es (omega (arith, same)) of_ds.1 of_es.1 split.1 in
        λ i. split.0 i ∷ rest i

    pub one_text : (form : Form) (body : List ℕ) (x y : Contents K V) → IsText f form body x → IsText f form body y → x ≡ y
    unfolding body_bytes
    one_text form body x y of_x of_y =
        let split = append_parts (to_be_bytes w64 (length x.entries)) (to_be_bytes w64 (length y.entries)) _ _ refl (sym of_x.spelled ∙ of_y.spelled) in
        let entries = one_list x.entries y.entries (same_number_8 (length x.entries) (length y.entries) of_x.map.count of_y.map.count split.0) of_x.map.storable of_y.map.storable split.1 in
        let floor = one_floor x.floor y.floor (sym of_x.formed ∙ of_y.formed) in
        λ i. record { floor = floor i; entries = entries i }

    pub one_reading : (bytes : List ℕ) (s t : CopyText K V) → ReadsAs f bytes s → ReadsAs f bytes t → s ≡ t
    one_reading bytes Absent t of_s of_t = (reads_absent f bytes of_s).only t of_t
    one_reading bytes (Refused v) t of_s of_t = (reads_refused f bytes v of_s.form of_s.body of_s.sealed of_s.no_text).only t of_t
    one_reading bytes (Whole v floor es) t of_s of_t =
        let held : Contents K V = record { floor = floor; entries = es } in
        let body = body_bytes f.key_bytes f.spelling es in
        let text : IsText f (form_of floor) body held = record { formed = refl; spelled = refl; map = of_s.map } in
        (reads_whole f bytes v (form_of floor) body of_s.sealed held text (λ others is. one_text (form_of floor) body held others text is)).only t of_t

    -- and two blobs hold one map
    pub one_map : (left right : List ℕ) (x y : Contents K V) → HoldMap f left right x → HoldMap f left right y → x ≡ y
    one_map left right x y of_x of_y =
        let l = one_reading left of_x.reads.left_text of_y.reads.left_text of_x.reads.left_reads of_y.reads.left_reads in
        let r = one_reading right of_x.reads.right_text of_y.reads.right_text of_x.reads.right_reads of_y.reads.right_reads in
        let same = sym of_x.reads.is ∙ ap (λ (t : CopyText K V). chosen_of t of_x.reads.right_text) l ∙ ap (λ (t : CopyText K V). chosen_of of_y.reads.left_text t) r ∙ of_y.reads.is in
        let one : of_x.chosen ≡ of_y.chosen = cc same in
        sym of_x.map ∙ ap (λ (c : Chosen K V). c.contents) one ∙ of_y.map

  -- a map stands as long as its two blobs do
  pub stands_same : (u : Store K V) (synced : Contents K V) (d e : Disk) → e (blob_of u.partition Left) ≡ d (blob_of u.partition Left) → e (blob_of u.partition Right) ≡ d (blob_of u.partition Right) → Stands f u synced d → Stands f u synced e
  stands_same u synced d e left right stands = record {
    left = subst (λ (b : Blob). b ≡ settled_at b.content) (sym left) stands.left;
    right = subst (λ (b : Blob). b ≡ settled_at b.content) (sym right) stands.right;
    pair = record {
      left_text = stands.pair.left_text;
      right_text = stands.pair.right_text;
      left_reads = subst (λ (b : Blob). ReadsAs f b.content stands.pair.left_text) (sym left) stands.pair.left_reads;
      right_reads = subst (λ (b : Blob). ReadsAs f b.content stands.pair.right_text) (sym right) stands.pair.right_reads;
      is = stands.pair.is;
    };
    fresh = stands.fresh;
  }

  -- so does what each crash leaves of it
  pub keeps_same : (p : List ℕ) (one other : Contents K V) (d e : Disk) → e (blob_of p Left) ≡ d (blob_of p Left) → e (blob_of p Right) ≡ d (blob_of p Right) → Keeps f p one other d → Keeps f p one other e
  keeps_same p one other d e left right keeps = record {
    crash = λ l r may_l may_r none_l none_r.
        keeps.crash l r (subst (λ (b : Blob). MayLeave b l) left may_l) (subst (λ (b : Blob). MayLeave b r) right may_r)
        (subst (λ (b : Blob). NoChanceIn b l) left none_l) (subst (λ (b : Blob). NoChanceIn b r) right none_r);
  }
    where
      NoChanceIn : Blob → Option (List ℕ) → Type 0
      NoChanceIn b l = NoChanceSeal f.seal (past b) (bytes_of l)

  -- a blob of an image that a device is made from reads without a chance seal
  pub begun_no_chance : (image : Option (List ℕ)) → ReadsNoChance f.seal (begun image)
  begun_no_chance None v form body s = inl refl
  begun_no_chance (Some c) v form body s = inl refl

  -- so do both blobs of a map that stands
  pub stands_no_chance : (u : Store K V) (synced : Contents K V) (d : Disk) → Stands f u synced d → ReadsNoChance f.seal (d (blob_of u.partition Left)) × ReadsNoChance f.seal (d (blob_of u.partition Right))
  stands_no_chance u synced d stands =
      (subst (ReadsNoChance f.seal) (sym stands.left) (begun_no_chance (Some (d (blob_of u.partition Left)).content)), subst (ReadsNoChance f.seal) (sym stands.right) (begun_no_chance (Some (d (blob_of u.partition Right)).content)))

  begun_left : (image left : Option (List ℕ)) → MayLeave (begun image) left → bytes_of left ≡ bytes_of image
  begun_left None None may = refl
  begun_left None (Some c) may = absurd (cc may.0)
  begun_left (Some c) None may = absurd (cc may)
  begun_left (Some c) (Some c') may = settled_content c c' may.1

  -- each crash of such an image leaves the map that it holds
  pub begun_keeps : (p : List ℕ) (one other : Contents K V) (left right : Option (List ℕ)) (d : Disk) → d (blob_of p Left) ≡ begun left → d (blob_of p Right) ≡ begun right → HoldMap f (bytes_of left) (bytes_of right) one → Keeps f p one other d
  begun_keeps p one other left right d is_l is_r holds = record {
    crash = λ l r may_l may_r none_l none_r.
        inl (subst (λ (c : List ℕ). HoldMap f c (bytes_of r) one) (sym (begun_left left l (subst (λ (b : Blob). MayLeave b l) is_l may_l)))
        (subst (λ (c : List ℕ). HoldMap f (bytes_of left) c one) (sym (begun_left right r (subst (λ (b : Blob). MayLeave b r) is_r may_r))) holds));
  }

  all_set : (P : V → Type 0) (test : K → Bool) (es : List (K × V)) (v : V) → AllByRecursion (λ e. P e.1) es → P v → AllByRecursion (λ e. P e.1) (set_value test es v)
  all_set P test [] v all new = tt
  all_set P test (e ∷ es) v all new = by_test (test e.0) (all_set P test es v all.1 new)
    where
      by_test : (b : Bool) → AllByRecursion (λ e. P e.1) (set_value test es v) → AllByRecursion (λ e. P e.1) (cond b ((e.0, v) ∷ es) (e ∷ set_value test es v))
      by_test true rest = (new, all.1)
      by_test false rest = (all.0, rest)

  -- a map of which a value was lent may be synced where what was written may be stored
  pub wrote_storable : {S C : Type 0} (key : K) (value : V) (old new : Metadata K V S C) → WroteValue f.compare key value old new → MayBeSynced f old.entries.entries → IsStorable f value → MayBeSynced f new.entries.entries
  wrote_storable key value old new wrote all may =
      subst (MayBeSynced f) (sym (ap (λ (u : Store K V). u.entries) wrote.same)) (all_set (IsStorable f) (is_at (f.compare key)) old.entries.entries value all may)
