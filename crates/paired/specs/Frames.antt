-- Frames: a value's spelling, with the seal of the spelling behind it.
use Rattle.std.specs.Prelude.{◌≡◌, ◌≢◌, ℕ, ◌+◌, ◌<◌, ◌≤◌, ◌^◌, ◌++◌, List, length, take, drop}
use Rattle.std.specs.Int.{w32, to_be_bytes}

-- bytes with a number in four bytes behind them, the highest first
abbrev pub with_number : List ℕ → ℕ → List ℕ
with_number bytes n = bytes ++ to_be_bytes w32 n

-- n bytes from a place on
abbrev pub bytes_at : List ℕ → ℕ → ℕ → List ℕ
bytes_at bytes at n = take n (drop at bytes)

module _ (seal : List ℕ → ℕ) where
  -- the frame of a value that is spelled so
  abbrev pub frame : List ℕ → List ℕ
  frame spelled = with_number spelled (seal spelled)

  -- n bytes from a place on are inside, and are the frame of what is spelled so
  pub record HasFrame (bytes : List ℕ) (at n : ℕ) (spelled : List ℕ) : Type 0 where
    pub inside : at + n ≤ length bytes
    pub is : bytes_at bytes at n ≡ frame spelled

  -- they are the frame of something
  abbrev pub IsSealed : List ℕ → ℕ → ℕ → Type 0
  IsSealed bytes at n = (spelled : List ℕ) × HasFrame bytes at n spelled

  -- They are inside, and end in the number `stored`, where the seal of those before it is another, `computed`.
  pub record IsBroken (bytes : List ℕ) (at n stored computed : ℕ) : Type 0 where
    pub inside : at + n ≤ length bytes
    pub spelled : List ℕ
    pub is : bytes_at bytes at n ≡ with_number spelled stored
    pub fits : stored < 2 ^ 32
    pub sealed : computed ≡ seal spelled
    pub differs : stored ≢ computed

  -- A number, and the seal of the bytes before it, which differ; n bytes in all.
  pub record Differ (n stored computed : ℕ) : Type 0 where
    pub prefix : List ℕ
    pub size : length prefix + 4 ≡ n
    pub fits : stored < 2 ^ 32
    pub sealed : computed ≡ seal prefix
    pub differs : stored ≢ computed
