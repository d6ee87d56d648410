-- The buffer says how far its blob is sealed, up to the end that is asked for.
use Rattle.std.proofs.Common.{rules, ◌≡◌, ◌∙◌, ◌/◌, ◌-◌, ◌≤◌, ℕ, List, length, min, ap, arith}
use Rattle.std.proofs.lemmas.Nat.{div_below}
use Rattle.blob_device.specs.Timeline.{disk}
use Rattle.sealed_pages.specs.Buffer.{key_of}
use Rattle.sealed_pages.specs.Proven.{proven_prefix}
use Rattle.sealed_pages.specs.SealedPrefix.{pages_in, sealed_from, sealed_prefix}
use Rattle.sealed_pages.specs.Shown.{shown}
use Rattle.sealed_pages.specs.lemmas.Entries.{only_read_of, reads_more}
use Rattle.segments.proofs.fixed.capping.prefix_at_most.Goals as goal
use Rattle.blob_device.proofs.general.Results.{err_of}

-- from the first page on all of the sealed prefix is proven
proven_all : (seal : List ℕ → ℕ) (P : ℕ) (c : List ℕ) → 1 ≤ P → proven_prefix seal P c (0 / P) ≡ length (sealed_prefix seal P c)
unfolding sealed_prefix
proven_all seal P c pos =
    let first : 0 / P ≡ 0 = omega (arith, div_below 0 P 1 pos (omega (arith, pos))) in
    let count : pages_in P c - 0 ≡ pages_in P c = omega arith in
    let pages : length (sealed_from seal P c 0 (pages_in P c - 0)) ≡ length (sealed_prefix seal P c) = ap (λ (n : ℕ). length (sealed_from seal P c 0 n)) count in
    let all : proven_prefix seal P c 0 ≡ length (sealed_prefix seal P c) = omega (arith, pages) in
    ap (proven_prefix seal P c) first ∙ all

pub returns-in_err-kept : goal.returns-in_err-kept
returns-in_err-kept g c =
    let h = c.in_err-kept.ensures in
    rw (err_of c.from_residual.result _ c.from_residual.ensures.1) record {
      prefix = λ t. tt;
      within = tt;
      unchanged = h.unchanged;
      entries = only_read_of _ _ _ _ h.reads;
      reads = reads_more _ _ _ _ _ (omega arith) h.reads;
      faults = h.faults;
      cause = h.cause;
    }

pub returns : goal.returns
returns g c =
    let u = c.args.buffer.now in
    let h = c.in_ok-kept.ensures in
    let least : c.min.result ≡ min c.in_ok-kept.kept c.args.end = search rules in
    record {
      prefix = λ t. omega (arith, least, h.length t, proven_all g.S.Seal.seal_of u.page_size (disk (g.D.Device.time c.args.dev.now) (key_of (shown u))).content (omega (arith, u.fit.begun)));
      within = omega (arith, least);
      unchanged = h.unchanged;
      entries = only_read_of _ _ _ _ h.reads;
      reads = reads_more _ _ _ _ _ (omega arith) h.reads;
      faults = h.faults;
      cause = tt;
    }
