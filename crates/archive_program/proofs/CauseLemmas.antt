-- Which errors end a run in which no count rose.
use Rattle.std.specs.Prelude.{Option, IsSome, IfSome}
use Rattle.std.proofs.Common.{◌≡◌, ◌⊎◌, inl, inr, ℕ, List, length, refl, sym, subst}
use Rattle.blob_device.specs.Counts.{Rose}
use Rattle.blob_device.specs.Disk.{Disk}
use Rattle.blob_device.specs.Timeline.{Timeline}
use Rattle.blob_device.specs.declared.runtime.RError.TheVariants as runtime
use Rattle.meta_store.specs.declared.error.Error.TheVariants as metadata
use Rattle.section_manager.specs.declared.journal.Error.TheVariants as journal
use Rattle.archives.specs.Commands.{Command}
use Rattle.archives.specs.Filing.{Filing}
use Rattle.archives.specs.Machine.{State}
use Rattle.archives.specs.Refusing.{IsFault}
use Rattle.archives.specs.Replies.{Reply}
use Rattle.archives.specs.declared.error.Error.{Error}
use Rattle.archives.specs.declared.error.Error.TheVariants.{Journal, Metadata, Full, Mem}
use Rattle.archive_service.specs.Causes.{IsCause}
use Rattle.archive_service.specs.PrunableKind.{prunable_kind}
use Rattle.archive_service.specs.Serves.{Serves, disk_at, state_in, under_way}
use Rattle.archive_service.specs.Texts.{Spelled}
use Rattle.archive_service.specs.declared.replies.End.{End}
use Rattle.archive_service.specs.declared.replies.End.TheVariants.{Done, Failed}
use Rattle.archive_program.specs.Program.{IsRefusal, error_of}

-- an error with its cause, where the device did not fail, is want of memory or refuses
refuses : (f : Filing) (st : State (List ℕ)) (command : Option (Command (List ℕ))) (from : Disk) (e : Error)
    → (IsFault e → ⊥) → IsCause f st command from e → (e ≡ Mem) ⊎ IsRefusal e
refuses f st command from Mem calm why = inl refl
refuses f st command from Full calm why = inr (inl refl)
refuses f st command from (Journal journal.ValueTooLarge) calm why = inr (inr refl)
refuses f st command from (Journal (journal.Runtime runtime.Fault)) calm why = absurd (calm (inl refl))
refuses f st command from (Metadata (metadata.Runtime runtime.Fault)) calm why = absurd (calm (inr refl))
refuses f st command from e calm why = absurd why

memory_or_not : (e : Error) → (e ≡ Mem) ⊎ (e ≡ Mem → ⊥)
memory_or_not Mem = inl refl
memory_or_not e = inr (λ same. cc same)

module _ (f : Filing) (write_buffer value_buffer : ℕ) (faults_old faults_new : ℕ) (old new : Timeline) (commands : List Spelled) (marks : List ℕ) (replies : List (Reply (List ℕ)))
    (calm : Rose faults_old faults_new → ⊥) where
  failed_end : (e : Error) → Serves (prunable_kind f write_buffer value_buffer) old new commands marks faults_old faults_new replies (Failed e) → (e ≡ Mem) ⊎ IsRefusal e
  failed_end e serves = elim (memory_or_not e) as (λ _. (e ≡ Mem) ⊎ IsRefusal e) [
    | inl memory ↦ inl memory
    | inr other ↦ refuses f (state_in serves.states (length marks)) (under_way commands (length marks)) (disk_at old new marks (length marks)) e
        (λ fault. calm (serves.fault fault)) (serves.stopped e refl other)
  ]

  -- the error that such a run hands out refuses a put
  pub refusal_only : (end : End) (error : Option Error) → Serves (prunable_kind f write_buffer value_buffer) old new commands marks faults_old faults_new replies end → error ≡ error_of end → IsSome error → IfSome error IsRefusal
  refusal_only Done error serves is some = absurd (cc (subst IsSome is some))
  refusal_only (Failed Mem) error serves is some = absurd (cc (subst IsSome is some))
  refusal_only (Failed e) error serves is some = subst (λ (o : Option Error). IfSome o IsRefusal) (sym is) (elim (failed_end e serves) [
    | inl memory ↦ absurd (cc memory)
    | inr refuses_it ↦ refuses_it
  ])
