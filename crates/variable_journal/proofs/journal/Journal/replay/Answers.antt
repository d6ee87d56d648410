-- The replay of the bytes is begun.
use Rattle.std.specs.Prelude.{◌≡◌, Err}
use Rattle.std.proofs.Common.{refl, sym, ap, subst}
use Rattle.blob_device.specs.Timeline.{disk}
use Rattle.sealed_pages.specs.Buffer.{size_of}
use Rattle.sealed_pages.specs.Shown as page_blob
use Rattle.section_manager.specs.declared.journal.Error.TheVariants.{ItemOutOfRange}
use Rattle.segments.specs.FixedWalking as bytes
use Rattle.variable_journal.specs.Replaying.{AreWalked}
use Rattle.variable_journal.specs.Shown.{shown}
use Rattle.variable_journal.proofs.BeginningLemmas.{begun_free, begun_walked, past_one}
use Rattle.variable_journal.proofs.journal.Journal.replay.Goals as goal
use Rattle.blob_device.proofs.general.Results.{err_of}

pub returns-in_err-bytes : goal.returns-in_err-bytes
returns-in_err-bytes g c =
    let e = c.in_err-bytes.field-0.0 in
    let f = c.in_err-bytes.ensures in
    let is : e ≡ ItemOutOfRange c.args.start_offset = (let at = f.cause in cc at) in
    rw (err_of c.from_residual.result e c.from_residual.ensures.1) (record {
      over = tt;
      begins = tt;
      past = (λ at. (past_one ((shown c.args.self).sections.held c.args.start_section) (λ u. size_of (page_blob.shown u)) c.args.start_offset).0 (f.past.0 (ap Err is)), λ less. ap Err is);
      same_config = tt;
      unchanged = f.unchanged;
      cause = ap Err is;
    })

pub returns : goal.returns
returns g c =
    let f = c.in_ok-bytes.ensures in
    let w = bytes.walk_of c.in_ok-bytes.bytes in
    record {
      over = record {
        bytes = f.over;
        free = begun_free g.S.Seal.seal_of (shown c.args.self) c.args.start_section c.args.start_offset w f.begins c.requires.over.free;
        place = λ t r at. absurd (let none = f.begins.between in cc (at, none));
        walked = λ t. subst (λ d. AreWalked g.S.Seal.seal_of w (disk (g.D.Device.time d))) (sym f.unchanged)
            (begun_walked g.S.Seal.seal_of (shown c.args.self) c.args.start_section c.args.start_offset w f.begins (disk (g.D.Device.time c.args.dev.now)) (c.requires.over.framed t) (c.requires.start t));
      };
      begins = f.begins;
      past = (λ at. absurd (cc at), λ less. absurd (let at = f.past.1 ((past_one ((shown c.args.self).sections.held c.args.start_section) (λ u. size_of (page_blob.shown u)) c.args.start_offset).1 less) in cc at));
      same_config = refl;
      unchanged = f.unchanged;
      cause = tt;
    }
