-- The one law of lending a section's buffer: it is taken out, a step is made on it that touches its blob alone, and
-- what the step made of it is put back. That section alone has changed then, and so where a call in between failed.
use Rattle.std.specs.Prelude.{◌≡◌, ℕ, ◌≤◌, None, Some, IsSome, Ok, Err}
use Rattle.std.proofs.Common.{inr, refl, sym, ◌∙◌, ap, subst, arith}
use Rattle.blob_device.specs.Disk.{Key}
use Rattle.blob_device.specs.Timeline.{disk}
use Rattle.blob_device.specs.declared.device.Device as device
use Rattle.blob_device.specs.lemmas.Moments.{always_now}
use Rattle.sealed_pages.specs.Entries.{IsOpenAt}
use Rattle.section_manager.specs.declared.buffer.SectionBuffer as buffer
use Rattle.section_manager.specs.declared.journal.Error.{Error}
use Rattle.section_manager.specs.Entries.{StartsNoRead}
use Rattle.section_manager.specs.managing.Lending.{IsPut}
use Rattle.section_manager.specs.managing.Lent.{IsLent, OnlyTouches, PutsBack, StepsTo}
use Rattle.section_manager.specs.managing.Opening.{Takes}
use Rattle.section_manager.specs.Sections.{Sections, key_of, IsHeld, IsKnown, IsSame, SameBounds}
use Rattle.section_manager.specs.Setting.{Setting}
use Rattle.section_manager.specs.declared.unopened.Unopened.TheVariants.{Section}
use Rattle.section_manager.specs.lemmas.Walk.{same_bounds}
use Rattle.section_manager.specs.lemmas.sections.Over.{over_changed, over_put, same_key}
use Rattle.section_manager.specs.lemmas.sections.Remove.{same_then}

module _ {F B D : Type 0} (g : buffer.Ghosts B) (gives : F → Setting) (dev : device.Ghosts D) (m : Sections F B) (s : ℕ) (n : Sections F B) (old mid : D) where
  -- the section's buffer could not be taken
  pub lent_none : (e : Error) → Takes g gives dev m s n old mid (Err e) → IsLent g gives dev m s n old mid
  lent_none e takes = record {
    touches = record { entries = takes.entries; blobs = λ t q other. (always_now (dev.time old) (dev.time mid) _ (takes.moments t)).others q other };
    others = takes.others;
    bounds = takes.bounds;
    over = takes.over;
  }

  module _ (u : B) (takes : Takes g gives dev m s n old mid (Ok u)) where
    here : key_of n s ≡ key_of m s
    here = same_key m n takes.bounds s

    own : g.key u ≡ key_of n s
    own = takes.key ∙ sym here

    known : IsKnown n s
    known = inr (subst IsSome (sym takes.known) refl)

    -- what the step made of the buffer may be put back
    pub puts_back : m.floor ≤ s → s ≤ m.ceiling → (v : B) → g.key v ≡ g.key u → PutsBack g n s v
    puts_back from to v key = record {
      absent = takes.out;
      floor = omega (arith, takes.bounds.floor, from);
      ceiling = omega (arith, takes.bounds.ceiling, to);
      key = key ∙ own;
    }

    module _ (new : D) where
      -- steps that start no reads started none
      pub lent_reads : ((g.StartsReads → ⊥) → StartsNoRead (dev.opened mid) (dev.opened new)) → (g.StartsReads → ⊥) → StartsNoRead (dev.opened old) (dev.opened new)
      lent_reads reads none q = omega (arith, takes.reads none q, reads none q)

      module _ (step : OnlyTouches dev (g.key u) mid new) where
        pub lent_touches : OnlyTouches dev (key_of m s) old new
        lent_touches = record {
          entries = λ q other. step.entries q (λ is. other (is ∙ takes.key)) ∙ takes.entries q other;
          blobs = λ t q other. step.blobs t q (λ is. other (is ∙ takes.key)) ∙ (always_now (dev.time old) (dev.time mid) _ (takes.moments t)).others q other;
        }

        -- the buffer is gone: the step failed, or it could not be put back
        pub lent_out : (o : Sections F B) → ((q : ℕ) → IsSame n o q) → SameBounds n o → IsLent g gives dev m s o old new
        lent_out o same bounds = record {
          touches = lent_touches;
          others = λ q other. same_then m n o q (takes.others q other) (same q);
          bounds = same_bounds m n o takes.bounds bounds;
          over = over_changed g gives n o (dev.opened mid) (dev.opened new) (disk (dev.time mid)) (disk (dev.time new)) s takes.over (record {
            number = takes.over.opened_list.number s known;
            bounds = bounds;
            others = λ q other. same q;
            entries = λ q other. step.entries q (λ is. other (is ∙ own));
            blobs = λ t q other. step.blobs t q (λ is. other (is ∙ own));
            opened = record {
              key = λ x is. absurd (cc (none, is));
              setting = λ x is. absurd (cc (none, is));
              is_open = λ x is. absurd (cc (none, is));
              to_ceiling = λ is. absurd (not_held is);
              apart = λ is. absurd (not_held is);
              from_floor = λ is. omega (arith, bounds.floor, takes.over.opened_list.from_floor s known);
            };
            disk = λ t. record { stands = λ x is. absurd (cc (none, is)); whose = λ there. inr (subst IsSome (sym unopened) refl) };
          });
        }
          where
            none : o.held s ≡ None
            none = (same s).held ∙ takes.out

            unopened : o.unopened s ≡ Some Section
            unopened = (same s).unopened ∙ takes.known

            not_held : IsHeld o s → ⊥
            not_held is = (let bad = subst IsSome none is in cc bad)

      -- the buffer is put back
      pub lent_back : (v : B) (o : Sections F B) → s ≤ m.ceiling → StepsTo g dev u v mid new → IsPut s v n o → IsLent g gives dev m s o old new
      lent_back v o to step put = record {
        touches = lent_touches step.touches;
        others = λ q other. same_then m n o q (takes.others q other) (put.others q other);
        bounds = same_bounds m n o takes.bounds put.bounds;
        over = over_put g gives n o (dev.opened mid) (dev.opened new) (disk (dev.time mid)) (disk (dev.time new)) s v takes.over put known (omega (arith, takes.bounds.ceiling, to))
            (step.key ∙ own) (step.setting ∙ takes.setting ∙ ap gives (sym takes.bounds.place.factory)) (subst (λ (k : Key). IsOpenAt (dev.opened new) k (g.extent v)) own step.«open»)
            (λ q other. step.touches.entries q (λ is. other (is ∙ own))) (λ t q other. step.touches.blobs t q (λ is. other (is ∙ own)))
            (λ t. subst (λ (k : Key). g.Stands v (disk (dev.time new) k)) own (step.stands t));
      }
