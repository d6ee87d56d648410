-- What stands where in a sealed copy, and that bytes begin with one copy at most.
use Rattle.std.proofs.Common.{◌≡◌, ℕ, ◌+◌, ◌-◌, ◌<◌, ◌≤◌, ◌^◌, List, ◌++◌, length, take, drop, refl, sym, ◌∙◌, ap, subst, arith, length-append, length-take, length-drop}
use Rattle.std.proofs.lemmas.List.{append_assoc, take_at, drop_at, take-append-drop, drop-drop}
use Rattle.std.specs.Int.{w32, w64, to_be_bytes}
use Rattle.meta_store.specs.declared.copy.Form.{Form}
use Rattle.meta_store.specs.Copies.{head_bytes, copy_bytes, copy_length, form_bytes, form_length, IsSealedAs, IsAbsentBy, NamesForm}
use Rattle.meta_store.specs.lemmas.Bytes.{length-eight, length-four, same_number_4, same_number_8, take_two}
use Rattle.meta_store.specs.lemmas.Forms.{length-form, one_form}

-- where the body begins in a copy of this form
abbrev pub start_of : Form → ℕ
start_of form = 8 + form_length form + 8

pub length-head : (version : ℕ) (form : Form) (body : List ℕ) → length (head_bytes version form body) ≡ start_of form + length body
unfolding head_bytes
length-head version form body = omega (
  arith,
  length-append (to_be_bytes w64 version ++ form_bytes form ++ to_be_bytes w64 (length body)) body,
  length-append (to_be_bytes w64 version ++ form_bytes form) (to_be_bytes w64 (length body)),
  length-append (to_be_bytes w64 version) (form_bytes form),
  length-form form,
  length-eight version,
  length-eight (length body),
)

pub length-copy : (seal : List ℕ → ℕ) (version : ℕ) (form : Form) (body : List ℕ) → length (copy_bytes seal version form body) ≡ copy_length form body
unfolding copy_bytes
length-copy seal version form body = omega (
  arith,
  length-append (head_bytes version form body) (to_be_bytes w32 (seal (head_bytes version form body))),
  length-head version form body,
  length-four (seal (head_bytes version form body)),
)

-- a head and what follows, part by part
head_parts : (version : ℕ) (form : Form) (body rest : List ℕ)
    → head_bytes version form body ++ rest ≡ to_be_bytes w64 version ++ (form_bytes form ++ (to_be_bytes w64 (length body) ++ (body ++ rest)))
unfolding head_bytes
head_parts version form body rest =
    append_assoc (to_be_bytes w64 version ++ form_bytes form ++ to_be_bytes w64 (length body)) body rest
    ∙ append_assoc (to_be_bytes w64 version ++ form_bytes form) (to_be_bytes w64 (length body)) (body ++ rest)
    ∙ append_assoc (to_be_bytes w64 version) (form_bytes form) (to_be_bytes w64 (length body) ++ (body ++ rest))

module _ (seal : List ℕ → ℕ) (bytes : List ℕ) (version : ℕ) (form : Form) (body : List ℕ) (s : IsSealedAs seal bytes version form body) where
  pub sealed_room : copy_length form body ≤ length bytes
  sealed_room = omega (arith, length-take (copy_length form body) bytes, ap length s.begins, length-copy seal version form body)

  after : List ℕ
  after = to_be_bytes w32 (seal (head_bytes version form body)) ++ drop (copy_length form body) bytes

  -- the bytes are a copy and a rest
  split : bytes ≡ head_bytes version form body ++ after
  unfolding copy_bytes after
  split = sym (take-append-drop (copy_length form body) bytes) ∙ ap (λ l. l ++ drop (copy_length form body) bytes) s.begins
      ∙ append_assoc (head_bytes version form body) (to_be_bytes w32 (seal (head_bytes version form body))) (drop (copy_length form body) bytes)

  parts : bytes ≡ to_be_bytes w64 version ++ (form_bytes form ++ (to_be_bytes w64 (length body) ++ (body ++ after)))
  parts = split ∙ head_parts version form body after

  -- ---- what stands at its places

  pub sealed_version : to_be_bytes w64 version ≡ take 8 bytes
  sealed_version = sym (ap (take 8) parts ∙ take_at (to_be_bytes w64 version) (form_bytes form ++ (to_be_bytes w64 (length body) ++ (body ++ after))) 8 refl)

  after_version : drop 8 bytes ≡ form_bytes form ++ (to_be_bytes w64 (length body) ++ (body ++ after))
  after_version = ap (drop 8) parts ∙ drop_at (to_be_bytes w64 version) (form_bytes form ++ (to_be_bytes w64 (length body) ++ (body ++ after))) 8 refl

  after_form : drop (8 + form_length form) bytes ≡ to_be_bytes w64 (length body) ++ (body ++ after)
  after_form = sym (drop-drop (form_length form) 8 bytes) ∙ ap (drop (form_length form)) after_version
      ∙ drop_at (form_bytes form) (to_be_bytes w64 (length body) ++ (body ++ after)) (form_length form) (length-form form)

  pub sealed_names : NamesForm bytes form
  sealed_names = record {
    is_form = s.is_form;
    named = sym (ap (take (form_length form)) after_version ∙ take_at (form_bytes form) (to_be_bytes w64 (length body) ++ (body ++ after)) (form_length form) (length-form form));
    room = omega (arith, sealed_room);
  }

  -- the length that it names
  pub sealed_length : to_be_bytes w64 (length body) ≡ take 8 (drop (8 + form_length form) bytes)
  sealed_length = sym (ap (take 8) after_form ∙ take_at (to_be_bytes w64 (length body)) (body ++ after) 8 refl)

  -- the body
  pub sealed_body : body ≡ take (length body) (drop (start_of form) bytes)
  sealed_body = sym (ap (take (length body))
      (sym (drop-drop 8 (8 + form_length form) bytes) ∙ ap (drop 8) after_form ∙ drop_at (to_be_bytes w64 (length body)) (body ++ after) 8 refl)
      ∙ take_at body after (length body) refl)

  -- what the seal is over
  pub sealed_head : take (start_of form + length body) bytes ≡ head_bytes version form body
  sealed_head = ap (take (start_of form + length body)) split ∙ take_at (head_bytes version form body) after (start_of form + length body) (length-head version form body)

  -- the seal
  pub sealed_seal : to_be_bytes w32 (seal (take (start_of form + length body) bytes)) ≡ take 4 (drop (start_of form + length body) bytes)
  unfolding after
  sealed_seal =
      ap (λ l. to_be_bytes w32 (seal l)) sealed_head
      ∙ sym (ap (λ l. take 4 (drop (start_of form + length body) l)) split
      ∙ ap (take 4) (drop_at (head_bytes version form body) (to_be_bytes w32 (seal (head_bytes version form body)) ++ drop (copy_length form body) bytes) (start_of form + length body) (length-head version form body))
      ∙ take_at (to_be_bytes w32 (seal (head_bytes version form body))) (drop (copy_length form body) bytes) 4 refl)

-- the copy that bytes begin with
pub record SameCopy (v w : ℕ) (form form' : Form) (body body' : List ℕ) : Type 0 where
  pub version : v ≡ w
  pub is_form : form ≡ form'
  pub is_body : body ≡ body'

module _ (seal : List ℕ → ℕ) (bytes : List ℕ) where
  -- a copy is of the form that the bytes name
  of_form : (v : ℕ) (form named : Form) (body : List ℕ) → NamesForm bytes named → IsSealedAs seal bytes v form body → IsSealedAs seal bytes v named body
  of_form v form named body names s = subst (λ (g : Form). IsSealedAs seal bytes v g body) (one_form bytes form named (sealed_names seal bytes v form body s) names) s

  -- the length that stands there is that of its body
  same_length : (v len : ℕ) (form : Form) (body : List ℕ) → len < 2 ^ 64 → to_be_bytes w64 len ≡ take 8 (drop (8 + form_length form) bytes) → IsSealedAs seal bytes v form body → len ≡ length body
  same_length v len form body fits is s = same_number_8 len (length body) fits s.length_fits (is ∙ sym (sealed_length seal bytes v form body s))

  pub one_copy : (v w : ℕ) (form form' : Form) (body body' : List ℕ) → IsSealedAs seal bytes v form body → IsSealedAs seal bytes w form' body' → SameCopy v w form form' body body'
  one_copy v w form form' body body' s t =
      let names = sealed_names seal bytes v form body s in
      let u = of_form w form' form body' names t in
      let long : length body ≡ length body' = same_length w (length body) form body' s.length_fits (sealed_length seal bytes v form body s) u in
      record {
        version = same_number_8 v w s.version_fits t.version_fits (sealed_version seal bytes v form body s ∙ sym (sealed_version seal bytes w form body' u));
        is_form = one_form bytes form form' names (sealed_names seal bytes w form' body' t);
        is_body = sealed_body seal bytes v form body s ∙ ap (λ (n : ℕ). take n (drop (start_of form) bytes)) long ∙ sym (sealed_body seal bytes w form body' u);
      }

  -- ---- when there is no copy

  pub absent_formless : ((form : Form) → NamesForm bytes form → ⊥) → IsAbsentBy seal bytes
  absent_formless none v form body s = none form (sealed_names seal bytes v form body s)

  -- the bytes name this form and, before the body's place, this length
  module _ (form : Form) (names : NamesForm bytes form) (start len : ℕ) (begins : start ≡ start_of form) (fits : len < 2 ^ 64) (is : to_be_bytes w64 len ≡ take 8 (drop (start - 8) bytes)) where
    at_length : to_be_bytes w64 len ≡ take 8 (drop (8 + form_length form) bytes)
    at_length = let e : start - 8 ≡ 8 + form_length form = omega (arith, begins) in is ∙ ap (λ (n : ℕ). take 8 (drop n bytes)) e

    pub absent_cut : length bytes < start + 4 + len → IsAbsentBy seal bytes
    absent_cut short v form' body s =
        let t = of_form v form' form body names s in
        omega (arith, begins, same_length v len form body fits at_length t, short, sealed_room seal bytes v form body t)

    pub absent_unsealed : (stored : ℕ) → stored < 2 ^ 32 → ((l : List ℕ) → seal l < 2 ^ 32) → to_be_bytes w32 stored ≡ take 4 (drop (start + len) bytes)
        → (seal (take (start + len) bytes) ≡ stored → ⊥) → IsAbsentBy seal bytes
    absent_unsealed stored short sealed at differs v form' body s =
        let t = of_form v form' form body names s in
        let same : start_of form + length body ≡ start + len = omega (arith, begins, same_length v len form body fits at_length t) in
        let holds : to_be_bytes w32 (seal (take (start + len) bytes)) ≡ take 4 (drop (start + len) bytes) =
        subst (λ (n : ℕ). to_be_bytes w32 (seal (take n bytes)) ≡ take 4 (drop n bytes)) same (sealed_seal seal bytes v form body t) in
        differs (same_number_4 (seal (take (start + len) bytes)) stored (sealed (take (start + len) bytes)) short (holds ∙ sym at))

    -- ---- the copy that is found

    module _ (version : ℕ) (first : to_be_bytes w64 version ≡ take 8 (drop 0 bytes)) (room : start + 4 + len ≤ length bytes) where
      body_of : List ℕ
      body_of = take len (drop (start_of form) bytes)

      length-body : length body_of ≡ len
      unfolding body_of
      length-body = omega (arith, begins, length-take len (drop (start_of form) bytes), length-drop (start_of form) bytes, room)

      found_head : take (start_of form + len) bytes ≡ head_bytes version form body_of
      unfolding body_of head_bytes
      found_head =
          let prefix : take (8 + form_length form) bytes ≡ to_be_bytes w64 version ++ form_bytes form =
          take_two 8 (form_length form) bytes ∙ ap (λ l. l ++ take (form_length form) (drop 8 bytes)) (sym first) ∙ ap (λ l. to_be_bytes w64 version ++ l) (sym names.named) in
          let more : take (start_of form) bytes ≡ to_be_bytes w64 version ++ form_bytes form ++ to_be_bytes w64 (length body_of) =
          take_two (8 + form_length form) 8 bytes ∙ ap (λ l. l ++ take 8 (drop (8 + form_length form) bytes)) prefix
          ∙ ap (λ l. to_be_bytes w64 version ++ form_bytes form ++ l) (sym at_length ∙ ap (λ (n : ℕ). to_be_bytes w64 n) (sym length-body)) in
          take_two (start_of form) len bytes ∙ ap (λ l. l ++ take len (drop (start_of form) bytes)) more

      pub sealed_found : (stored : ℕ) → version < 2 ^ 64 → to_be_bytes w32 stored ≡ take 4 (drop (start + len) bytes) → seal (take (start + len) bytes) ≡ stored
          → IsSealedAs seal bytes version form (take (start + len - start) (drop start bytes))
      unfolding body_of copy_bytes
      sealed_found stored short at holds =
          let e : start + len ≡ start_of form + len = omega (arith, begins) in
          let n : start + len - start ≡ len = omega arith in
          let same : take (start + len - start) (drop start bytes) ≡ body_of = ap (λ (m : ℕ). take m (drop start bytes)) n ∙ ap (λ (m : ℕ). take len (drop m bytes)) begins in
          let at' : to_be_bytes w32 stored ≡ take 4 (drop (start_of form + len) bytes) = at ∙ ap (λ (m : ℕ). take 4 (drop m bytes)) e in
          let holds' : seal (take (start_of form + len) bytes) ≡ stored = ap (λ (m : ℕ). seal (take m bytes)) (sym e) ∙ holds in
          let size : copy_length form body_of ≡ start_of form + len + 4 = omega (arith, length-body) in
          subst (IsSealedAs seal bytes version form) (sym same) (record {
            version_fits = short;
            is_form = names.is_form;
            length_fits = omega (arith, length-body, fits);
            begins = ap (λ (m : ℕ). take m bytes) size ∙ take_two (start_of form + len) 4 bytes
                ∙ ap (λ l. take (start_of form + len) bytes ++ l) (sym at' ∙ ap (λ (x : ℕ). to_be_bytes w32 x) (sym holds'))
                ∙ ap (λ l. l ++ to_be_bytes w32 (seal l)) found_head;
          })
