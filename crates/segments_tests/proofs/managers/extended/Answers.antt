use Rattle.std.specs.Prelude.{◌≡◌, IsSome}
use Rattle.std.proofs.Common.{inr, refl, sym, ap, ◌∙◌, subst, arith}
use Rattle.blob_device.specs.Disk.{Key}
use Rattle.blob_device.specs.Timeline.{disk}
use Rattle.blob_device.specs.lemmas.Moments.{always_now}
use Rattle.sealed_pages.specs.Entries.{IsOpenAt}
use Rattle.sealed_pages.specs.unsealed.Writing.{WriteBuffer, blob_key, Over}
use Rattle.sealed_pages.specs.unsealed.Writing as writing
use Rattle.sealed_pages.specs.lemmas.looking.Looking.{content_length}
use Rattle.section_manager.specs.lemmas.sections.Over.{over_put, same_key}
use Rattle.section_manager.specs.Entries.{OnlyOwnEntry}
use Rattle.section_manager.specs.managing.Managed.{shown}
use Rattle.section_manager.specs.Sections.{key_of}
use Rattle.segments_tests.proofs.managers.extended.Goals as goal

pub returns-clause-over : goal.returns-clause-over
returns-clause-over g c =
    let m = shown c.take.new.self in
    let s = c.args.section in
    let u = c.in_ok-buffer.buffer in
    let v = c.in_ok-buffer-2.buffer in
    let old = g.D.Device.time c.take.new.dev in
    let new = g.D.Device.time c.append.new.dev in
    let here : blob_key (writing.shown u) ≡ key_of m s = c.in_ok-buffer.ensures.key ∙ sym (same_key (shown c.args.sections) m c.in_ok-buffer.ensures.bounds s) in
    let there : blob_key (writing.shown v) ≡ key_of m s = ap blob_key c.in_ok-buffer-2.ensures.same ∙ here in
    let is_open : IsOpenAt (g.D.Device.opened c.append.new.dev) (key_of m s) v.end = subst (λ (k : Key). IsOpenAt (g.D.Device.opened c.append.new.dev) k v.end) there c.in_ok-buffer-2.ensures.«open» in
    over_put _ _ m (shown c.put.new.self) (g.D.Device.opened c.take.new.dev) (g.D.Device.opened c.append.new.dev) (disk old) (disk new) s v c.in_ok-buffer.ensures.over c.in_ok-put.ensures.put
    (inr (subst IsSome (sym c.in_ok-buffer.ensures.known) refl))
    (omega (arith, c.in_ok-buffer.ensures.bounds.ceiling, c.requires.ceiling))
    there
    (ap (λ (w : WriteBuffer). record { page_size = 1; capacity = w.capacity; cache_pages = 0 }) c.in_ok-buffer-2.ensures.same ∙ c.in_ok-buffer.ensures.setting ∙ ap (λ f. record { page_size = 1; capacity = f.capacity; cache_pages = 0 }) (sym c.in_ok-buffer.ensures.bounds.place.factory))
    is_open
    (subst (λ (k : Key). OnlyOwnEntry k (g.D.Device.opened c.take.new.dev) (g.D.Device.opened c.append.new.dev)) here c.in_ok-buffer-2.ensures.entries.others)
    (λ t q other. (always_now old new _ (c.append.ensures.spares t)).others q (λ is. other (is ∙ here)))
    (λ t. record {
      over = subst (λ (k : Key). Over (writing.shown v) (disk new k)) here (c.in_ok-buffer-2.ensures.over t (subst (λ (k : Key). Over (writing.shown u) (disk old k)) (sym c.in_ok-buffer.ensures.key) (c.in_ok-buffer.ensures.stands t).over));
      size = content_length (g.D.Device.opened c.append.new.dev) (key_of m s) v.end _ (disk new (key_of m s)).content (g.met.D.Device.opened_stands t c.append.new.dev (key_of m s)) is_open;
    })
