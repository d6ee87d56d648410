use Rattle.sealed_pages.specs.lemmas.looking.Looking.{unchanged_start}
use Rattle.sealed_pages.specs.lemmas.memory.Cache.{found_page_has}
use Rattle.sealed_pages.proofs.cutting.Truncating.{no_value}
use Rattle.std.proofs.Common.{rules, ◌≡◌, ◌∙◌, ℕ, List, length, cond, ap, sym, subst, arith, Bool, refl, inl}
use Rattle.std.specs.List.{list_any}
use Rattle.std.specs.Map.{keys_of}
use Rattle.std.specs.Prelude.{nat_eq}
use Rattle.blob_device.specs.Timeline.{disk}
use Rattle.sealed_pages.specs.Cached.{held_in, IsCachedOf}
use Rattle.sealed_pages.specs.Entries.{ReadsAtMost}
use Rattle.sealed_pages.specs.Slots.{page_length}
use Rattle.sealed_pages.specs.lemmas.Entries.{reads_start}
use Rattle.sealed_pages.proofs.looking.ReadLemmas.{part_bytes, part_page}
use Rattle.sealed_pages.specs.SlotNames.{opened_key}
use Rattle.sealed_pages.proofs.range.read_part.Given as given
use Rattle.sealed_pages.proofs.range.read_part.Goals.{After-covered_len, After-read_page}
use Rattle.sealed_pages.proofs.range.read_part.Goals as goal

pub copy_part-requires-clause-held : goal.copy_part-requires-clause-held
copy_part-requires-clause-held g c = sym c.has.ensures ∙ c.if-has.true

pub returns-then-has : goal.returns-then-has
returns-then-has g c =
    record {
      bytes = λ t are i lt. c.copy_part.ensures g.S.Seal.seal_of _ are i lt;
      covered = λ t are. omega (arith, c.requires.part, (found_page_has (IsCachedOf g.S.Seal.seal_of c.args.source.now.blob.page_size _) c.args.place.page (held_in c.args.source.now.cache.now) are (sym c.has.ensures ∙ c.if-has.true)).1.covered);
      short = search rules;
      unchanged = λ t. unchanged_start (g.D.Device.time c.args.dev.now);
      entries = reads_start _ _ _;
      faults = omega arith;
      cause = tt;
    }

-- the page is not in memory, and one read took it
one_read : (g : given.Over) (c : After-read_page g) → ReadsAtMost 1 (opened_key c.args.source.now.blob) (g.D.Device.opened c.args.dev.now) (g.D.Device.opened c.read_page.new.dev)
    → ReadsAtMost (cond (list_any (nat_eq c.args.place.page) (keys_of (held_in c.args.source.now.cache.now))) 0 1) (opened_key c.args.source.now.blob) (g.D.Device.opened c.args.dev.now) (g.D.Device.opened c.read_page.new.dev)
one_read g c once = subst (λ (b : Bool). ReadsAtMost (cond b 0 1) (opened_key c.args.source.now.blob) (g.D.Device.opened c.args.dev.now) (g.D.Device.opened c.read_page.new.dev)) (sym c.if-has.false ∙ c.has.ensures) once

-- it is covered as far as in the blob
covered : (g : given.Over) (c : After-covered_len g) → g.D.Device.Tells → c.covered_len.result ≡ page_length g.S.Seal.seal_of c.args.source.now.blob.page_size (disk (g.D.Device.time c.args.dev.now) (opened_key c.args.source.now.blob)).content c.args.place.page
covered g c t = c.covered_len.ensures.covers ∙ ap (λ (l : List ℕ). page_length g.S.Seal.seal_of c.args.source.now.blob.page_size l 0) (c.in_ok-have.ensures.bytes t) ∙ part_page g.S.Seal.seal_of c.args.source.now.blob.page_size _ c.args.place.page c.requires.room

pub returns-in_err-have : goal.returns-in_err-have
returns-in_err-have g c =
    record {
      bytes = λ t h1. no_value _ _ c.from_residual.ensures.0;
      covered = λ t h1. no_value _ _ c.from_residual.ensures.0;
      short = search rules;
      unchanged = c.in_err-have.ensures.unchanged;
      entries = one_read g (goal.at.returns-in_err-have g c).After-read_page c.in_err-have.ensures.entries;
      faults = c.in_err-have.ensures.faults;
      cause = search rules;
    }

pub returns-then-covered_len-upto : goal.returns-then-covered_len-upto
returns-then-covered_len-upto g c =
    record {
      bytes = λ t h1. tt;
      covered = λ t h1. tt;
      short = λ t e. omega (arith, covered g (goal.at.returns-then-covered_len-upto g c).After-covered_len t, c.if-covered_len-upto.true);
      unchanged = c.in_ok-have.ensures.unchanged;
      entries = one_read g (goal.at.returns-then-covered_len-upto g c).After-read_page c.in_ok-have.ensures.entries;
      faults = c.in_ok-have.ensures.faults;
      cause = inl refl;
    }

pub returns : goal.returns
returns g c =
    record {
      bytes = λ t are. part_bytes c.args.source.now.blob.page_size c.args.place.page c.args.place.skip (length c.args.out.now) _ _ _ _ (c.in_ok-have.ensures.bytes t) c.copy_from_slice.ensures.after (omega arith) c.requires.part;
      covered = λ t are. omega (arith, covered g (goal.at.returns g c).After-covered_len t, c.if-covered_len-upto.false);
      short = search rules;
      unchanged = c.in_ok-have.ensures.unchanged;
      entries = one_read g (goal.at.returns g c).After-read_page c.in_ok-have.ensures.entries;
      faults = c.in_ok-have.ensures.faults;
      cause = tt;
    }
