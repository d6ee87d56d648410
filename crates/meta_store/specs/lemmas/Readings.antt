-- How a body and a copy are read, and that they are read in one way.
use Rattle.std.proofs.Common.{◌≡◌, ◌≢◌, ℕ, ◌-◌, ◌<◌, ◌≤◌, ◌^◌, List, ◌++◌, length, take, drop, Option, Some, None, Result, Ok, Err, refl, sym, ◌∙◌, ap, subst, arith, length-append}
use Rattle.std.specs.Int.{w64, to_be_bytes}
use Rattle.std.proofs.lemmas.List.{take-append-drop, take_rest, take_at, drop_at}
use Rattle.meta_store.specs.declared.copy.Contents.{Contents}
use Rattle.meta_store.specs.declared.copy.CopyText.{CopyText}
use Rattle.meta_store.specs.declared.copy.CopyText.TheVariants.{Absent, Refused, Whole}
use Rattle.meta_store.specs.declared.copy.Form.{Form}
use Rattle.meta_store.specs.declared.error.Error.{Error}
use Rattle.meta_store.specs.declared.error.Error.TheVariants.{Mem}
use Rattle.meta_store.specs.Format.{Format}
use Rattle.meta_store.specs.Copies.{IsSealedAs, IsAbsentBy, IsEntries, IsText, IsRefusedAs, IsWholeAs, Reads, ReadsAs, ReadsOnlyAs, ReadsText, body_bytes, entries_bytes, form_of}
use Rattle.meta_store.specs.lemmas.Bytes.{length-eight, same_number_8}
use Rattle.meta_store.specs.lemmas.Forms.{one_floor}
use Rattle.meta_store.specs.lemmas.Texts.{one_copy}

module _ {K V : Type 0} (f : Format K V) where
  -- a body is its count and the entries after it
  pub text_found : (form : Form) (floor count : ℕ) (body : List ℕ) (entries : List (K × V)) → form ≡ form_of floor → to_be_bytes w64 count ≡ take 8 body → count < 2 ^ 64
      → IsEntries f count (take (length body - 8) (drop 8 body)) entries → IsText f form body (record { floor = floor; entries = entries })
  unfolding body_bytes
  text_found form floor count body entries formed is fits all = record {
    formed = formed;
    spelled = sym (take-append-drop 8 body) ∙ ap (λ l. l ++ drop 8 body) (sym is ∙ ap (λ (n : ℕ). to_be_bytes w64 n) (sym all.number))
        ∙ ap (λ l. to_be_bytes w64 (length entries) ++ l) (sym (take_rest body 8) ∙ all.spelled);
    map = record { count = omega (arith, all.number, fits); ascending = all.ascending; storable = all.storable };
  }

  module _ (form : Form) (body : List ℕ) (contents : Contents K V) (text : IsText f form body contents) where
    pub text_long : 8 ≤ length body
    unfolding body_bytes
    text_long = omega (arith, ap length text.spelled, length-append (to_be_bytes w64 (length contents.entries)) (entries_bytes f.key_bytes f.spelling contents.entries), length-eight (length contents.entries))

    pub text_entries : (count : ℕ) → to_be_bytes w64 count ≡ take 8 body → count < 2 ^ 64 → IsEntries f count (take (length body - 8) (drop 8 body)) contents.entries
    unfolding body_bytes
    text_entries count is fits = record {
      number = same_number_8 (length contents.entries) count text.map.count fits
          (sym (take_at (to_be_bytes w64 (length contents.entries)) (entries_bytes f.key_bytes f.spelling contents.entries) 8 refl) ∙ ap (take 8) (sym text.spelled) ∙ sym is);
      spelled = take_rest body 8 ∙ ap (drop 8) text.spelled ∙ drop_at (to_be_bytes w64 (length contents.entries)) (entries_bytes f.key_bytes f.spelling contents.entries) 8 refl;
      ascending = text.map.ascending;
      storable = text.map.storable;
    }

    -- the floor is the one that the form is of
    pub text_floor : (floor : ℕ) → form ≡ form_of floor → floor ≡ contents.floor
    text_floor floor is = one_floor floor contents.floor (sym is ∙ text.formed)

  -- ---- what reading a form and a body answers

  -- the form is no text's
  pub text_formless : (form : Form) (body : List ℕ) → ((floor : ℕ) → form ≢ form_of floor) → ReadsText f form body (Ok None)
  text_formless form body none contents text = none contents.floor text.formed

  -- the body is too short for a count
  pub text_short : (form : Form) (body : List ℕ) → length body < 8 → ReadsText f form body (Ok None)
  text_short form body short contents text = omega (arith, short, text_long form body contents text)

  -- memory was short
  pub text_failed : (form : Form) (body : List ℕ) (r : Result (Option (Contents K V)) Error) → r ≡ Err Mem → ReadsText f form body r
  text_failed form body r is = subst (ReadsText f form body) (sym is) refl

  module _ (form : Form) (floor count : ℕ) (body : List ℕ) (formed : form ≡ form_of floor) (is : to_be_bytes w64 count ≡ take 8 body) (fits : count < 2 ^ 64) where
    -- the body has no entries, so many
    pub text_refused : ((entries : List (K × V)) → IsEntries f count (take (length body - 8) (drop 8 body)) entries → ⊥) → ReadsText f form body (Ok None)
    text_refused none contents text = none contents.entries (text_entries form body contents text count is fits)

    -- it has these
    pub text_given : (entries : List (K × V)) → IsEntries f count (take (length body - 8) (drop 8 body)) entries
        → ((others : List (K × V)) → IsEntries f count (take (length body - 8) (drop 8 body)) others → entries ≡ others)
        → ReadsText f form body (Ok (Some (record { floor = floor; entries = entries })))
    text_given entries all only = (
      text_found form floor count body entries formed is fits all,
      λ others text.
          let same = text_floor form body others text floor formed in
          let one = only others.entries (text_entries form body others text count is fits) in
          λ i. record { floor = same i; entries = one i },
    )

  -- memory was short for a copy
  pub copy_failed : (bytes : List ℕ) (r : Result (CopyText K V) Error) → r ≡ Err Mem → Reads f bytes r
  copy_failed bytes r is = subst (Reads f bytes) (sym is) refl

  module _ (bytes : List ℕ) where
    -- a copy that is found, and another reading of the same bytes
    module _ (version : ℕ) (form : Form) (body : List ℕ) (sealed : IsSealedAs f.seal bytes version form body) where
      whole_found : (contents : Contents K V) → IsText f form body contents → IsWholeAs f bytes version contents
      whole_found contents text = record {
        sealed = subst (λ (b : List ℕ). IsSealedAs f.seal bytes version (form_of contents.floor) b) text.spelled (subst (λ (g : Form). IsSealedAs f.seal bytes version g body) text.formed sealed);
        map = text.map;
      }

      whole_text : (w : ℕ) (contents : Contents K V) → IsWholeAs f bytes w contents → (version ≡ w) × IsText f form body contents
      whole_text w contents whole =
          let same = one_copy f.seal bytes version w form (form_of contents.floor) body (body_bytes f.key_bytes f.spelling contents.entries) sealed whole.sealed in
          (same.version, record { formed = same.is_form; spelled = same.is_body; map = whole.map })

      refused_text : (w : ℕ) → IsRefusedAs f bytes w → (version ≡ w) × ((contents : Contents K V) → IsText f form body contents → ⊥)
      refused_text w refused =
          let same = one_copy f.seal bytes version w form refused.form body refused.body sealed refused.sealed in
          (same.version, λ contents text. refused.no_text contents (record { formed = sym same.is_form ∙ text.formed; spelled = sym same.is_body ∙ text.spelled; map = text.map }))

      whole_only : (contents : Contents K V) → IsText f form body contents → ((others : Contents K V) → IsText f form body others → contents ≡ others)
          → (t : CopyText K V) → ReadsAs f bytes t → Whole version contents.floor contents.entries ≡ t
      whole_only contents text only Absent reads = absurd (reads version form body sealed)
      whole_only contents text only (Refused w) reads = absurd ((refused_text w reads).1 contents text)
      whole_only contents text only (Whole w floor others) reads =
          let same = whole_text w (record { floor = floor; entries = others }) reads in
          let one = only (record { floor = floor; entries = others }) same.1 in
          λ i. Whole (same.0 i) (one i).floor (one i).entries

      refused_only : ((contents : Contents K V) → IsText f form body contents → ⊥) → (t : CopyText K V) → ReadsAs f bytes t → Refused version ≡ t
      refused_only none Absent reads = absurd (reads version form body sealed)
      refused_only none (Refused w) reads = let same = refused_text w reads in λ i. Refused (same.0 i)
      refused_only none (Whole w floor others) reads = absurd (none (record { floor = floor; entries = others }) (whole_text w (record { floor = floor; entries = others }) reads).1)

      -- a copy whose text is this, and one without a text
      pub reads_whole : (contents : Contents K V) → IsText f form body contents → ((others : Contents K V) → IsText f form body others → contents ≡ others)
          → ReadsOnlyAs f bytes (Whole version contents.floor contents.entries)
      reads_whole contents text only = record { reads = whole_found contents text; only = whole_only contents text only }

      pub reads_refused : ((contents : Contents K V) → IsText f form body contents → ⊥) → ReadsOnlyAs f bytes (Refused version)
      reads_refused none = record { reads = record { form = form; body = body; sealed = sealed; no_text = none }; only = refused_only none }

    absent_only : IsAbsentBy f.seal bytes → (t : CopyText K V) → ReadsAs f bytes t → Absent ≡ t
    absent_only absent Absent reads = refl
    absent_only absent (Refused w) reads = absurd (absent w reads.form reads.body reads.sealed)
    absent_only absent (Whole w floor others) reads = absurd (absent w (form_of floor) (body_bytes f.key_bytes f.spelling others) reads.sealed)

    -- no copy
    pub reads_absent : IsAbsentBy f.seal bytes → ReadsOnlyAs f bytes Absent
    reads_absent absent = record { reads = absent; only = absent_only absent }
