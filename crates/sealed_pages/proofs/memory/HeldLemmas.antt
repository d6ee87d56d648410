-- Bytes of a buffer in memory stand below its size, and those of the tip are there.
use Rattle.std.proofs.Common.{◌≡◌, inl, ℕ, ◌+◌, ◌-◌, ◌/◌, ◌<◌, ◌≤◌, arith}
use Rattle.std.proofs.lemmas.Nat.{le-div}
use Rattle.std.proofs.Math.Nat.{mul-le-mul_right}
use Rattle.sealed_pages.specs.Buffer.{Buffer, size_of}
use Rattle.sealed_pages.specs.Reads.{IsWanted, IsHeld, below}
use Rattle.blob_device.proofs.general.Numbers.{div_place}

pub wanted_high : (P m n k : ℕ) → 0 < P → IsWanted P m n k → k < (m + (n - 1)) / P + 1
wanted_high P m n k pos w = let le : k ≤ (m + (n - 1)) / P = le-div k (m + (n - 1)) P pos (omega (arith, w.high, w.some)) in omega (arith, le)

pub wanted_of : (P m n k : ℕ) → 0 < P → 0 < n → m / P ≤ k → k < (m + (n - 1)) / P + 1 → IsWanted P m n k
wanted_of P m n k pos some low high =
    let first : m / P < k + 1 = omega (arith, low) in
    let last : k < (m + (n - 1)) / P + 1 = high in
    record {
      some = some;
      low = (let le = mul-le-mul_right P low in omega (arith, le, (div_place P m pos).1));
      high = (let le = mul-le-mul_right P (let e : k ≤ (m + (n - 1)) / P = omega (arith, high) in e) in omega (arith, le, (div_place P (m + (n - 1)) pos).0, some));
    }

-- bytes that are in memory stand below the size
pub held_fits : (u : Buffer) (m n : ℕ) → 0 < n → IsHeld u m n → m + n ≤ size_of u
held_fits u m n some held = omega (arith, (held (m + n - 1) (omega (arith, some)) (omega (arith, some))).0, some)

-- bytes of the tip are in memory
pub tip_held : (u : Buffer) (m n : ℕ) → below u.page_size u.first m n ≡ 0 → m + n ≤ size_of u → IsHeld u m n
tip_held u m n none fits i low high = (omega (arith, high, fits), inl (omega (arith, none, low, high)))
