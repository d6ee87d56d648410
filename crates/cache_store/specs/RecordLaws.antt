-- The laws of records.
use Rattle.std.specs.Prelude.{◌≡◌, ℕ, ◌<◌, ◌^◌, List, ◌++◌, length, Option, Some, None, Result, Ok, Err, drop, take, Bool, true, false, if◌then◌else◌, ◌/◌, ◌≤◌, ◌+◌, ◌-◌}
use Rattle.std.proofs.Common.{sym, ap, ◌∙◌, refl, arith, take-append-drop, length-drop}
use Rattle.std.proofs.lemmas.List.{take_all}
use Rattle.std.proofs.Math.Seq.{drop-append_seam}
use Rattle.value_codec.specs.declared.codec.Error.{Error}
use Rattle.value_codec.specs.declared.codec.Error.TheVariants.{Mem, EndOfBuffer, InvalidVarint}
use Rattle.value_codec.specs.Varint.{IsVarint, varint, varint_prefix, base128, prefix_bytes, is_cut_short, is_varint}
use Rattle.value_codec.specs.lemmas.Varint.{varint_apart, varint_at_most, varint_long, varint_only, varint_short}
use Rattle.value_codec.specs.lemmas.VarintPrefix.{prefix_gives}
use Rattle.cache_store.specs.Records.{record_bytes, refused, record_refusal}

pub record_kept : (refusal : List ℕ → Option Error) (index : ℕ) (value : List ℕ) → index < 2 ^ 64
    → refusal value ≡ None → record_refusal refusal (record_bytes index value) ≡ None
record_kept refusal index value below spelled =
    ap (refused refusal (record_bytes index value)) (prefix_gives (2 ^ 64) 10 index value below)
    ∙ ap refusal (drop-append_seam (varint index) value) ∙ spelled

pub record_index : (m n : ℕ) (x y : List ℕ) → record_bytes m x ≡ record_bytes n y → m ≡ n
record_index m n x y same = (varint_apart m n x y same).0

pub record_value : (m n : ℕ) (x y : List ℕ) → record_bytes m x ≡ record_bytes n y → x ≡ y
record_value m n x y same = (varint_apart m n x y same).1

not_end : (a b : Bool) (x : ℕ × ℕ) → ◌≡◌ {A = Result (ℕ × ℕ) Error}
    (if a then Err EndOfBuffer else if b then Ok x else Err InvalidVarint) (Err Mem) → ⊥
not_end true b x is = cc is
not_end false true x is = cc is
not_end false false x is = cc is

prefix_not_memory : (limit longest : ℕ) (bytes : List ℕ)
    → varint_prefix limit longest bytes ≡ Err Mem → ⊥
unfolding varint_prefix
prefix_not_memory limit longest bytes is =
    not_end (is_cut_short longest bytes) (is_varint limit (prefix_bytes bytes))
    (base128 (prefix_bytes bytes), length (prefix_bytes bytes)) is

pub record_not_memory : (refusal : List ℕ → Option Error)
    → ((b : List ℕ) → refusal b ≡ Some Mem → ⊥) → (bytes : List ℕ)
    → record_refusal refusal bytes ≡ Some Mem → ⊥
record_not_memory refusal never bytes is = go (varint_prefix (2 ^ 64) 10 bytes) refl is
  where
    go : (r : Result (ℕ × ℕ) Error) → varint_prefix (2 ^ 64) 10 bytes ≡ r
        → refused refusal bytes r ≡ Some Mem → ⊥
    go (Ok it) at same = never (drop it.1 bytes) same
    go (Err e) at same =
        (let mem : e ≡ Mem = cc same in
        prefix_not_memory (2 ^ 64) 10 bytes (at ∙ ap (λ x. Err x) mem))

-- a varint at the start, and what the bytes behind it spell
pub record_spelled : (bytes value behind : List ℕ) (index header : ℕ)
    → IsVarint (take header bytes) index → value ≡ behind
    → behind ≡ take (length bytes - header) (drop header bytes) → record_bytes index value ≡ bytes
record_spelled bytes value behind index header spelled same is =
    let whole : value ≡ drop header bytes = same ∙ is
    ∙ take_all (length bytes - header) (drop header bytes)
    (omega (arith, length-drop header bytes)) in
    (λ i. (sym (varint_only (take header bytes) index spelled)) i ++ whole i)
    ∙ take-append-drop header bytes

pub size_short : (n : ℕ) → n < 128 → length (varint n) ≡ 1
size_short n short = ap length (varint_short n short)

pub size_long : (n : ℕ) → 128 ≤ n → length (varint n) ≡ length (varint (n / 128)) + 1
size_long n long = ap length (varint_long n long) ∙ omega arith

pub size_few : (n : ℕ) → n < 2 ^ 64 → length (varint n) ≤ 10
size_few n below = varint_at_most 9 n (omega (arith, below))
