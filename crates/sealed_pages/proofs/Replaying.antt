-- A reader that begins behind a flush.
use Rattle.std.proofs.Common.{◌≡◌, ℕ, ◌/◌, ◌<◌, List, Result, Ok, sym, ◌∙◌, ap, subst, arith}
use Rattle.std.specs.Prelude.{OnErr}
use Rattle.std.specs.Result.{IsErr}
use Rattle.blob_device.specs.Disk.{Key}
use Rattle.blob_device.specs.Timeline.{disk}
use Rattle.blob_device.specs.declared.device.Device as device
use Rattle.blob_device.specs.declared.error.DevError.{DevError}
use Rattle.blob_device.specs.declared.runtime.RError.{RError}
use Rattle.sealed_pages.specs.Buffer.{Buffer, key_of, size_of, bytes_of}
use Rattle.sealed_pages.specs.Calls.{FailsBelow}
use Rattle.sealed_pages.specs.Entries.{IsOpenAt}
use Rattle.sealed_pages.specs.Flushes.{Flushes}
use Rattle.sealed_pages.specs.Readers.{Reader, IsTipOf}
use Rattle.sealed_pages.specs.Reads.{IsCovered}
use Rattle.sealed_pages.specs.Replays.{Begins, Replays}
use Rattle.sealed_pages.specs.Unrecovered.{blob_of}
use Rattle.sealed_pages.proofs.memory.Holding.{holds_own, tip_stands}
use Rattle.sealed_pages.proofs.adopted.KnownLemmas.{known_flushed}
use Rattle.sealed_pages.proofs.memory.MemoryLemmas.{tip_backed}
use Rattle.sealed_pages.specs.lemmas.looking.Replay.{data_all}
use Rattle.sealed_pages.specs.lemmas.memory.Holding.{bytes_length}
use Rattle.sealed_pages.specs.lemmas.slots.Whole.{whole_covered}
use Rattle.sealed_pages.proofs.Syncing.{flushed_bytes}
use Rattle.sealed_pages.proofs.cutting.Truncating.{no_value}

module _ {D B Q : Type 0} (dev : device.Ghosts D) (seal : List ℕ → ℕ) (u : Buffer) (old new : D) (see : B → Buffer) (reads : Q → Reader) where
  -- none does
  pub not_replaying : (q : Result B DevError) (r : Result (B × Q) RError) → Flushes dev seal u old new see q → IsErr r → OnErr r (FailsBelow dev r old new) → Replays dev seal u old new see reads r
  not_replaying q r flushed none cause = record {
    crashes = λ t sealed. flushed.told t (bytes_of u (blob_of u (dev.time old)).content) sealed.holds;
    sealed = λ t h. no_value _ r none;
    alone = λ t backed. (flushed.wrote t (bytes_of u (blob_of u (dev.time old)).content) backed.flushed (tip_stands u (blob_of u (dev.time old)).content)).alone;
    bytes = λ t h. no_value _ r none;
    backed = λ t h. no_value _ r none;
    steady = flushed.steady;
    unrecovered = λ t h. no_value _ r none;
    known = λ t h. no_value _ r none;
    «data» = λ t h. no_value _ r none;
    whole = λ t h. no_value _ r none;
    idle = λ all. flushed.idle (omega (arith, all));
    same = λ all. no_value _ r none;
    replays = no_value _ r none;
    cached = no_value _ r none;
    begins = no_value _ r none;
    over = no_value _ r none;
    flushed = no_value _ r none;
    settled = no_value _ r none;
    size = no_value _ r none;
    key = no_value _ r none;
    page_size = no_value _ r none;
    capacity = no_value _ r none;
    cache_pages = no_value _ r none;
    «open» = no_value _ r none;
    reader = no_value _ r none;
    entries = flushed.entries;
    faults = flushed.faults;
    cause = cause;
  }

  -- one does, over the buffer that the flush left
  pub replaying : (v : B) (x : Q) (n : ℕ) (tip : List ℕ) → u.from < u.page_size → (see v).from < (see v).page_size → Flushes dev seal u old new see (Ok v) → Begins seal reads (key_of (see v)) (see v).page_size (see v).end n tip (Ok x)
      → n ≡ size_of (see v) → tip ≡ (see v).tip → Replays dev seal u old new see reads (Ok (v, x))
  replaying v x n tip first begun flushed reader n_is tip_is = record {
    crashes = λ t sealed. flushed.told t (bytes_of u (blob_of u (dev.time old)).content) sealed.holds;
    sealed = λ t sealed. record {
      holds = holds_own seal (see v) (bytes_of u (blob_of u (dev.time old)).content) _ (omega (arith, begun)) (flushed.done t (bytes_of u (blob_of u (dev.time old)).content) sealed.holds);
      backed = flushed.backed t sealed.backed;
    };
    alone = λ t backed. (flushed.wrote t (bytes_of u (blob_of u (dev.time old)).content) backed.flushed (tip_stands u (blob_of u (dev.time old)).content)).alone;
    bytes = λ t backed. flushed_bytes (see v) u.page_size (size_of u) (bytes_of u (blob_of u (dev.time old)).content) _ (omega (arith, begun)) flushed.page_size flushed.size
        (flushed.wrote t (bytes_of u (blob_of u (dev.time old)).content) backed.flushed (tip_stands u (blob_of u (dev.time old)).content)).done
        (flushed.tip (bytes_of u (blob_of u (dev.time old)).content) (tip_stands u (blob_of u (dev.time old)).content)) (bytes_length u (blob_of u (dev.time old)).content);
    backed = flushed.backed;
    steady = flushed.steady;
    unrecovered = flushed.unrecovered;
    known = λ t known. known_flushed seal u (see v) (blob_of u (dev.time old)) (blob_of u (dev.time new)) (λ le. (flushed.fine le, ap (λ (d : D). disk (dev.time d) (key_of u)) (flushed.idle le))) flushed.left known;
    «data» = λ t backed. data_all u.page_size (size_of u) (bytes_of u (blob_of u (dev.time old)).content) _ (omega (arith, first))
        (flushed.wrote t (bytes_of u (blob_of u (dev.time old)).content) backed.flushed (tip_stands u (blob_of u (dev.time old)).content)).done (bytes_length u (blob_of u (dev.time old)).content);
    whole = λ t sealed. subst (λ (p : ℕ). IsCovered seal p (blob_of u (dev.time new)).content 0 (size_of u)) flushed.page_size
        (whole_covered seal (see v) (bytes_of u (blob_of u (dev.time old)).content) _ (flushed.done t (bytes_of u (blob_of u (dev.time old)).content) sealed.holds) (size_of u) (omega (arith, flushed.flushed, flushed.size)));
    idle = λ all. flushed.idle (omega (arith, all));
    same = λ all. flushed.fine (omega (arith, all));
    replays = λ content backed. reader.replays content (subst (IsTipOf seal (see v).page_size content (n / (see v).page_size)) (sym tip_is) (tip_backed seal (see v) n content begun flushed.flushed n_is backed));
    cached = flushed.cached;
    begins = (reader.begin, reader.size ∙ n_is ∙ flushed.size);
    over = (reader.key ∙ flushed.key, reader.page_size ∙ flushed.page_size, reader.end);
    flushed = flushed.flushed;
    settled = flushed.settled;
    size = flushed.size;
    key = flushed.key;
    page_size = flushed.page_size;
    capacity = flushed.capacity;
    cache_pages = flushed.cache_pages;
    «open» = subst (λ (k : Key). IsOpenAt (dev.opened new) k (see v).end) (sym flushed.key) flushed.length;
    reader = subst (λ (x : Key × ℕ). IsOpenAt (dev.opened new) x.0 x.1) (λ j. (sym (reader.key ∙ flushed.key) j, sym reader.end j)) flushed.length;
    entries = flushed.entries;
    faults = flushed.faults;
    cause = tt;
  }
