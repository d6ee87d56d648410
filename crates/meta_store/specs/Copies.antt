-- The text of a copy, and how any bytes read as one.
use Rattle.std.specs.Prelude.{◌≡◌, ◌≢◌, ℕ, zero, suc, ◌+◌, ◌<◌, ◌≤◌, ◌^◌, List, [], ◌∷◌, ◌++◌, length, take, drop, Option, Some, None, Result, Ok, Err}
use Rattle.std.specs.Int.{w32, w64, to_be_bytes}
use Rattle.std.specs.List.{AllByRecursion, flat_map}
use Rattle.std.specs.List.Sorted.{IsStrictlySortedBy}
use Rattle.std.specs.Map.{keys_of}
use Rattle.meta_store.specs.declared.copy.Contents.{Contents}
use Rattle.meta_store.specs.declared.copy.CopyText.{CopyText}
use Rattle.meta_store.specs.declared.copy.CopyText.TheVariants.{Absent, Refused, Whole}
use Rattle.meta_store.specs.declared.copy.Form.{Form}
use Rattle.meta_store.specs.declared.copy.Form.TheVariants.{Plain, Floored}
use Rattle.meta_store.specs.declared.error.Error.{Error}
use Rattle.meta_store.specs.declared.error.Error.TheVariants.{Mem}
use Rattle.meta_store.specs.Format.{Format}

-- The number 2 says that a floor follows, any other number that none does.
abbrev pub IsForm : Form → Type 0
IsForm (Plain number) = number ≢ 2
IsForm (Floored floor) = floor < 2 ^ 64

-- a form as bytes: its number, and behind the number 2 the floor in eight bytes
abbrev pub form_bytes : Form → List ℕ
form_bytes (Plain number) = number ∷ []
form_bytes (Floored floor) = 2 ∷ to_be_bytes w64 floor

-- how many those are
abbrev pub form_length : Form → ℕ
form_length (Plain number) = 1
form_length (Floored floor) = 9

-- in which form a floor is written: 0 in form 1, which names none
abbrev pub form_of : ℕ → Form
form_of zero = Plain 1
form_of (suc n) = Floored (suc n)

-- all of a copy before its seal: a version of eight bytes, a form, the body's length in eight, and the body
unfoldable pub head_bytes : ℕ → Form → List ℕ → List ℕ
head_bytes version form body =
    to_be_bytes w64 version ++ form_bytes form ++ to_be_bytes w64 (length body) ++ body

-- a copy: its seal of four bytes is over all bytes before it
unfoldable pub copy_bytes : (List ℕ → ℕ) → ℕ → Form → List ℕ → List ℕ
copy_bytes seal version form body =
    head_bytes version form body ++ to_be_bytes w32 (seal (head_bytes version form body))

-- how long a copy with this form and body is
abbrev pub copy_length : Form → List ℕ → ℕ
copy_length form body = 20 + form_length form + length body

-- The bytes begin with such a copy, and its seal holds. Bytes after it are ignored.
pub record IsSealedAs (seal : List ℕ → ℕ) (bytes : List ℕ) (version : ℕ) (form : Form) (body : List ℕ) : Type 0 where
  -- the version is a u64
  pub version_fits : version < 2 ^ 64
  -- the form tells whether a floor follows
  pub is_form : IsForm form
  -- the body's length is a u64
  pub length_fits : length body < 2 ^ 64
  -- the bytes begin so
  pub begins : take (copy_length form body) bytes ≡ copy_bytes seal version form body

-- The bytes have no copy: they are shorter than they say, or the seal fails.
abbrev pub IsAbsentBy : (List ℕ → ℕ) → List ℕ → Type 0
IsAbsentBy seal bytes = (version : ℕ) (form : Form) (body : List ℕ) → ¬ IsSealedAs seal bytes version form body

-- the bytes name this form behind a version, and are long enough for a copy of it
pub record NamesForm (bytes : List ℕ) (form : Form) : Type 0 where
  -- it tells whether a floor follows
  pub is_form : IsForm form
  -- it stands there
  pub named : form_bytes form ≡ take (form_length form) (drop 8 bytes)
  -- a copy with no body has room
  pub room : 20 + form_length form ≤ length bytes

-- an entry: the key's bytes, the length of the value's spelling in four bytes, and the spelling
unfoldable pub entry_bytes : {K V : Type 0} → (K → List ℕ) → (V → List ℕ) → K × V → List ℕ
entry_bytes key_bytes spelling e = key_bytes e.0 ++ to_be_bytes w32 (length (spelling e.1)) ++ spelling e.1

-- entries, one after another
abbrev pub entries_bytes : {K V : Type 0} → (K → List ℕ) → (V → List ℕ) → List (K × V) → List ℕ
entries_bytes key_bytes spelling entries = flat_map (entry_bytes key_bytes spelling) entries

-- a body: the number of entries in eight bytes, and the entries
unfoldable pub body_bytes : {K V : Type 0} → (K → List ℕ) → (V → List ℕ) → List (K × V) → List ℕ
body_bytes key_bytes spelling entries = to_be_bytes w64 (length entries) ++ entries_bytes key_bytes spelling entries

module _ {K V : Type 0} (f : Format K V) where
  -- the value may be stored: it is accepted, and the length of its spelling fits four bytes
  pub record IsStorable (value : V) : Type 0 where
    pub accepted : f.accepted value
    pub fits : length (f.spelling value) < 2 ^ 32

  -- the keys ascend strictly, and each value may be stored
  pub record IsMap (entries : List (K × V)) : Type 0 where
    pub count : length entries < 2 ^ 64
    pub ascending : IsStrictlySortedBy f.compare (keys_of entries)
    pub storable : AllByRecursion (λ e. IsStorable e.1) entries

  -- the bytes after a body's count are these entries, as many as it says
  pub record IsEntries (count : ℕ) (bytes : List ℕ) (entries : List (K × V)) : Type 0 where
    pub number : length entries ≡ count
    pub spelled : bytes ≡ entries_bytes f.key_bytes f.spelling entries
    pub ascending : IsStrictlySortedBy f.compare (keys_of entries)
    pub storable : AllByRecursion (λ e. IsStorable e.1) entries

  -- the copy of a version that holds this
  abbrev pub copy_of : ℕ → Contents K V → List ℕ
  copy_of version contents =
      copy_bytes f.seal version (form_of contents.floor) (body_bytes f.key_bytes f.spelling contents.entries)

  -- a form and a body spell this
  pub record IsText (form : Form) (body : List ℕ) (contents : Contents K V) : Type 0 where
    -- the form that of its floor,
    pub formed : form ≡ form_of contents.floor
    -- and the body its entries,
    pub spelled : body ≡ body_bytes f.key_bytes f.spelling contents.entries
    -- which are a map
    pub map : IsMap contents.entries

  -- what a form and a body spell, or that it is nothing, or want of memory
  abbrev pub ReadsText : Form → List ℕ → Result (Option (Contents K V)) Error → Type 0
  ReadsText form body (Ok (Some contents)) =
      IsText form body contents × ((others : Contents K V) → IsText form body others → contents ≡ others)
  ReadsText form body (Ok None) = (contents : Contents K V) → ¬ IsText form body contents
  ReadsText form body (Err e) = e ≡ Mem

  -- the seal holds, but what it seals is no text
  pub record IsRefusedAs (bytes : List ℕ) (version : ℕ) : Type 0 where
    pub form : Form
    pub body : List ℕ
    pub sealed : IsSealedAs f.seal bytes version form body
    pub no_text : (contents : Contents K V) → ¬ IsText form body contents

  -- a sealed text of this
  pub record IsWholeAs (bytes : List ℕ) (version : ℕ) (contents : Contents K V) : Type 0 where
    pub sealed : IsSealedAs f.seal bytes version (form_of contents.floor)
        (body_bytes f.key_bytes f.spelling contents.entries)
    pub map : IsMap contents.entries

  -- how the bytes read as a copy
  abbrev pub ReadsAs : List ℕ → CopyText K V → Type 0
  ReadsAs bytes Absent = IsAbsentBy f.seal bytes
  ReadsAs bytes (Refused version) = IsRefusedAs bytes version
  ReadsAs bytes (Whole version floor entries) = IsWholeAs bytes version (record { floor = floor; entries = entries })

  -- the bytes read so, and in no other way
  pub record ReadsOnlyAs (bytes : List ℕ) (text : CopyText K V) : Type 0 where
    pub reads : ReadsAs bytes text
    pub only : (t : CopyText K V) → ReadsAs bytes t → text ≡ t

  -- what a reading answers: how the bytes read, or want of memory
  abbrev pub Reads : List ℕ → Result (CopyText K V) Error → Type 0
  Reads bytes (Ok text) = ReadsOnlyAs bytes text
  Reads bytes (Err e) = e ≡ Mem
