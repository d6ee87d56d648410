use Rattle.std.proofs.lemmas.Bool.{cases_lt}
use Rattle.sealed_pages.proofs.cutting.Truncating.{no_value}
use Rattle.std.proofs.Common.{◌≡◌, ◌+◌, ◌≤◌, ◌∙◌, ℕ, List, length, take, drop, ap, sym, subst, arith, rules, refl, inl, inr, ◌-◌, Err}
use Rattle.blob_device.specs.declared.runtime.RError.TheVariants.{BlobInsufficientLength, OffsetOverflow}
use Rattle.blob_device.specs.Change.{written}
use Rattle.blob_device.specs.Timeline.{disk}
use Rattle.sealed_pages.specs.Filled.{HasBytes}
use Rattle.sealed_pages.specs.unsealed.Writing.{shown, blob_key, bytes_of}
use Rattle.sealed_pages.specs.lemmas.looking.Looking.{content_length}
use Rattle.sealed_pages.proofs.unsealed.Read.{read_refused}
use Rattle.sealed_pages.proofs.WriteLemmas.{filled_is}
use Rattle.sealed_pages.proofs.write_blob.WriteBlob.read_at.Goals as goal
use Rattle.sealed_pages.proofs.write_blob.WriteBlob.read_at.Goals.{then-not-holds+in_ok-read_blob, else-not-holds}
use Rattle.blob_device.specs.Lengths.{length-written}

pub returns-then-len-offset : goal.returns-then-len-offset
returns-then-len-offset g c = read_refused g.D.Device (shown c.args.self.now) c.args.offset c.args.buf.now c.args.buf.now c.args.dev.now (Err OffsetOverflow) refl (search rules) (search rules) (inl refl)

pub returns-then-offset-len : goal.returns-then-offset-len
returns-then-offset-len g c = read_refused g.D.Device (shown c.args.self.now) c.args.offset c.args.buf.now c.args.buf.now c.args.dev.now (Err BlobInsufficientLength) refl (search rules) (search rules) (inr (inl refl))

pub returns-in_err-read_blob : goal.returns-in_err-read_blob
returns-in_err-read_blob g c =
    record {
      bytes = λ t. no_value _ _ c.from_residual.ensures.0;
      unchanged = c.in_err-read_blob.ensures.unchanged;
      reads = search rules;
      held = search rules;
      overflow = search rules;
      short = search rules;
      refused = search rules;
      faults = c.in_err-read_blob.ensures.faults;
      cause = search rules;
    }

pub returns : goal.returns
returns g c =
    record {
      bytes = λ t.
          let content : List ℕ = (disk (g.D.Device.time c.args.dev.now) (blob_key (shown c.args.self.now))).content in
          let long : length (disk (g.D.Device.time c.args.dev.now) (blob_key (shown c.args.self.now))).content ≡ c.args.self.now.end
          = content_length (g.D.Device.opened c.args.dev.now) (blob_key (shown c.args.self.now)) c.args.self.now.end _ _ (g.met.D.Device.opened_stands t c.args.dev.now (blob_key (shown c.args.self.now))) c.requires.«open» in
          let run : c.as_slice.result.now ≡ c.args.self.now.pending.items = c.as_slice.ensures.value in
          let size : length c.overlay.new.buf ≡ length c.args.buf.now = c.overlay.auto.buf ∙ c.if-not-holds.auto.buf in
          let has : HasBytes (written content c.args.self.now.at c.as_slice.result.now) c.args.offset c.overlay.new.buf
          = elim c.if-not-holds.branch [
            | then-not-holds+in_ok-read_blob w ↦ c.overlay.ensures.over content (subst (HasBytes content c.args.offset) (sym w.buf-is) (w.in_ok-read_blob.ensures.bytes t))
            | else-not-holds w ↦ (let inside = c.holds.ensures.0 w.if-not-holds.false in
                c.overlay.ensures.held inside.0 (omega (arith, inside.1, c.if-not-holds.auto.buf, ap length run)) content)
          ] in
          let fits : c.args.offset + length c.overlay.new.buf ≤ length (bytes_of (shown c.args.self.now) content) = omega (arith, size, c.if-offset-len.false, c.size.ensures, long, length-written content c.args.self.now.at c.args.self.now.pending.items) in
          filled_is (bytes_of (shown c.args.self.now) content) c.args.offset c.overlay.new.buf fits (subst (λ (l : List ℕ). HasBytes (written content c.args.self.now.at l) c.args.offset c.overlay.new.buf) run has)
          ∙ ap (λ (n : ℕ). take n (drop c.args.offset (bytes_of (shown c.args.self.now) content))) size;
      unchanged = search rules;
      reads = search rules;
      held = λ all. elim c.if-not-holds.branch [
        | else-not-holds w ↦ w.dev-is
        | then-not-holds+in_ok-read_blob w ↦ w.dev-is ∙ (elim (cases_lt 0 (length c.args.buf.now)) [
          | inr none ↦ w.in_ok-read_blob.ensures.none (omega (arith, none))
          | inl some ↦ (let first = all c.args.offset (record { low = omega arith; high = omega (arith, some) }) in
              let last = all (c.args.offset + length c.args.buf.now - 1) (record { low = omega (arith, some); high = omega (arith, some) }) in
              absurd (cc (w.if-not-holds.true, c.holds.ensures.1 (first.low, omega (arith, last.high, some)))))
        ])
      ];
      overflow = search rules;
      short = search rules;
      refused = search rules;
      faults = search rules;
      cause = tt;
    }
