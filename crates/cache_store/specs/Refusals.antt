-- What an opening refuses of sections with these bytes. It goes over them in ascending order, and
-- in each over the whole frames from the first on.
use Rattle.std.specs.Prelude.{◌≡◌, ◌≢◌, ◌⊎◌, ℕ, ◌^◌, ◌<◌, List, [], ◌∷◌, ◌++◌, Option, None, Some}
use Rattle.std.specs.List.{AllByRecursion}
use Rattle.section_manager.specs.declared.journal.Damage.{Damage}
use Rattle.section_manager.specs.declared.journal.Error.{Error}
use Rattle.section_manager.specs.declared.journal.Error.TheVariants.{Codec, Corruption}
use Rattle.value_codec.specs.declared.codec.Error as codec
use Rattle.value_codec.specs.declared.codec.Error.TheVariants.{InvalidVarint}
use Rattle.variable_journal.specs.Frames.{items_of, rest_of, HasBadLength}
use Rattle.cache_store.specs.Machine.{section_of}
use Rattle.cache_store.specs.Records.{entry_of, record_refusal}

module _ (items : ℕ) (refusal : List ℕ → Option codec.Error) where
  -- These are records of section s.
  pub record AreOwn (s : ℕ) (records : List (List ℕ)) : Type 0 where
    -- the codec refuses none
    pub decoded : AllByRecursion (λ x. record_refusal refusal x ≡ None) records
    -- and each index lies in the section
    pub in_section : AllByRecursion (λ x. section_of items (entry_of x).index ≡ s) records

  module _ (bytes : ℕ → List ℕ) where
    -- An opening comes in section s to what is behind these whole frames: nothing before it is
    -- refused.
    pub record ComesTo (s : ℕ) (before behind : List (List ℕ)) : Type 0 where
      pub number : s < 2 ^ 64
      -- the whole frames of the section
      pub are : items_of (bytes s) ≡ before ++ behind
      -- those before are its records
      pub here : AreOwn s before
      -- and those of each earlier section are that section's
      pub earlier : (t : ℕ) → t < s → AreOwn t (items_of (bytes t))
      -- with no length that is refused
      pub lengths : (t : ℕ) → t < s → HasBadLength (rest_of (bytes t)) → ⊥

    -- Behind the whole frames of a section stands a length that is refused.
    pub record HasRefusedLength : Type 0 where
      pub section : ℕ
      pub come : ComesTo section (items_of (bytes section)) []
      pub bad : HasBadLength (rest_of (bytes section))

    -- A whole frame has no record: the codec refuses it with e.
    pub record HasRefusedRecord (e : codec.Error) : Type 0 where
      pub section : ℕ
      pub before : List (List ℕ)
      pub item : List ℕ
      pub behind : List (List ℕ)
      pub come : ComesTo section before (item ∷ behind)
      pub refused : record_refusal refusal item ≡ Some e

    -- A whole frame of a section has a record of another one.
    pub record HasStray (x : Damage) : Type 0 where
      pub before : List (List ℕ)
      pub item : List ℕ
      pub behind : List (List ℕ)
      pub come : ComesTo x.section before (item ∷ behind)
      -- the codec takes it
      pub decoded : record_refusal refusal item ≡ None
      -- the section is told twice
      pub kept : x.kept ≡ x.section
      -- and that of the record, which is another
      pub wanted : x.wanted ≡ section_of items (entry_of item).index
      pub other : x.wanted ≢ x.section

    -- why an opening refuses
    abbrev pub IsRefusal : Error → Type 0
    IsRefusal e =
        ((e ≡ Codec InvalidVarint) × HasRefusedLength)
        ⊎ (((x : codec.Error) × (e ≡ Codec x) × HasRefusedRecord x)
        ⊎ ((x : Damage) × (e ≡ Corruption x) × HasStray x))
