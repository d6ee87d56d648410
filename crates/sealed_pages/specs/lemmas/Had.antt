-- Where a blob reads as one of the contents that it has had since it settled: after each call that ended well, and under each
-- buffer.
use Rattle.std.proofs.Common.{◌≡◌, inl, inr, ℕ, ◌||◌, Bool, true, false, List, Ok, refl, sym, subst, arith}
use Rattle.std.proofs.lemmas.List.Elements.{Contains-push}
use Rattle.blob_device.specs.Disk.{Key, Blob, past, settled_at}
use Rattle.blob_device.specs.Change.{Write, done, written}
use Rattle.blob_device.specs.Timeline.{Timeline, disk, Passes}
use Rattle.blob_device.specs.lemmas.Moments.{ok_blob}
use Rattle.sealed_pages.specs.Buffer.{Buffer, State, Holds}
use Rattle.sealed_pages.specs.Contents.{IsHad}
use Rattle.sealed_pages.specs.Unrecovered.{IsAdopted}

pub had_settled : (c : List ℕ) → IsHad (settled_at c)
had_settled c = (0, omega arith, refl)

pub had_rest : (b : Blob) → b ≡ settled_at b.content → IsHad b
had_rest b is = subst IsHad (sym is) (had_settled b.content)

-- what a write that ended well makes is the last of them
pub had_written : (at : ℕ) (bytes : List ℕ) (b : Blob) → IsHad (done (Write at bytes) b)
had_written at bytes b = Contains-push (past b) (written b.content at bytes)

pub had_write : {T : Type 0} (key : Key) (at : ℕ) (bytes : List ℕ) (x : T) (t0 t1 : Timeline) → Passes key (Write at bytes) (Ok x) t0 t1 → IsHad (disk t1 key)
had_write key at bytes x t0 t1 passes = subst IsHad (sym (ok_blob key (Write at bytes) x t0 t1 passes)) (had_written at bytes (disk t0 key))

-- a blob under a buffer
module _ (seal : List ℕ → ℕ) where
  had_state : (P : ℕ) (bytes : List ℕ) (first from settled : ℕ) (newest behind torn : Bool) (b : Blob) → State seal P bytes first from settled newest behind torn b → IsHad b
  had_state P bytes first from settled newest behind torn b state = go (behind || torn) refl
    where
      go : (left : Bool) → (behind || torn) ≡ left → IsHad b
      go false is = (state.ready is).had
      go true is = had_rest b (state.adopted is).0.is

  pub holds_had : (u : Buffer) (bytes : List ℕ) (b : Blob) → Holds seal u bytes b → IsHad b
  holds_had u bytes b holds = had_state u.page_size bytes u.first u.from u.settled u.newest u.behind u.torn b holds.state

  pub adopted_had : (u : Buffer) (b : Blob) → IsAdopted seal u b → IsHad b
  adopted_had u b (inl sealed) = holds_had u _ b sealed.holds
  adopted_had u b (inr short) = short.had
