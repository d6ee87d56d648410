-- From what serving promises to what the program says of it.
use Rattle.std.specs.Prelude.{Option, Some, None, IfSome}
use Rattle.std.proofs.Common.{◌≡◌, ◌⊎◌, inl, inr, ℕ, ◌≤◌, List, [], ◌∷◌, ◌++◌, length, map, refl, sym, ap, subst, arith}
use Rattle.std.specs.List.{AllByRecursion}
use Rattle.blob_device.specs.Counts.{Rose}
use Rattle.blob_device.specs.declared.device.Device as device
use Rattle.value_codec.specs.Keys.{key8_bytes}
use Rattle.value_codec.specs.Spelling.{length_refusal}
use Rattle.value_codec.specs.declared.key.Key8.{Key8}
use Rattle.value_codec.specs.contracts.seal.Sha256SealSeal.TheImpl as sha256
use Rattle.archives.specs.Filing.{Filing}
use Rattle.archives.specs.FilingLaws.{one_filing}
use Rattle.archives.specs.Machine.{asked}
use Rattle.archives.specs.Replies.{Reply}
use Rattle.archives.specs.Shown.{filing_for}
use Rattle.archives.specs.declared.commands.Command as asking
use Rattle.archives.specs.declared.commands.Command.TheVariants as ask
use Rattle.archives.specs.declared.error.Error.{Error}
use Rattle.archives.specs.declared.error.Error.TheVariants.{Mem}
use Rattle.archives.specs.declared.translator.FourCap.{FourCap}
use Rattle.archives.specs.Refusing.{IsFault}
use Rattle.archive_service.specs.ErrorTexts.{error_line, served_text}
use Rattle.archive_service.specs.PrunableKind.{prunable_kind}
use Rattle.archive_service.specs.Script.{CanBeSaid}
use Rattle.archive_service.specs.Serves.{IfFailed, ServesBy}
use Rattle.archive_service.specs.Stores.{PutsOnly, filing_in, kind_in}
use Rattle.archive_service.specs.Texts.{Spelled, bad_line_text, replies_text}
use Rattle.archive_service.specs.declared.ended.Ended.{Ended}
use Rattle.archive_service.specs.declared.replies.End.{End}
use Rattle.archive_service.specs.declared.replies.End.TheVariants.{Done, Failed}
use Rattle.archive_service.specs.declared.serving.StoreConfig.{StoreConfig}
use Rattle.archive_service.specs.declared.serving.StoreConfig.TheVariants.{Prunable}
use Rattle.archive_service.specs.declared.settings.Settings.{Settings}
use Rattle.archive_program.specs.Config.{IsConfigFor}
use Rattle.archive_program.specs.Program.{IsBadAt, Orders, ServedBy, error_of, owed, program_filing}
use Rattle.archive_program.specs.Answered.{AnswerOf, AnswersServed, AnswersWhole, EndsWith, HasNoMemory, bad_line, no_memory, served, status_of}
use Rattle.archive_program.specs.Words.{Job, Script}

-- the configuration's archive is the program's
pub same_filing : (settings : Settings) (items : ℕ) (store : StoreConfig FourCap ℕ) → IsConfigFor settings items store
    → filing_in 8 sha256.ghosts (λ bytes most. length_refusal most bytes) store ≡ program_filing settings items
same_filing settings items (Prunable cfg) is = one_filing (program_filing settings items) (filing_for 8 sha256.ghosts (λ bytes most. length_refusal most bytes) cfg) is.filing refl

-- ---- what can be said may be put

may_put : (max : ℕ) (command : asking.Command Key8 (List ℕ)) → CanBeSaid max (asked key8_bytes (λ v. v) command) → PutsOnly (λ v. length v ≤ max) command
may_put max (ask.Put i k v) said = said.2.0
may_put max (ask.PutSync i k v) said = said.2.0
may_put max (ask.PutStart i k v) said = said.2.0
may_put max (ask.Multi i k v) said = said.2.0
may_put max (ask.MultiSync i k v) said = said.2.0
may_put max (ask.MultiStart i k v) said = said.2.0
may_put max command said = tt

all_may_put : (max : ℕ) (commands : List (asking.Command Key8 (List ℕ))) → AllByRecursion (CanBeSaid max) (map (asked key8_bytes (λ v. v)) commands) → AllByRecursion (PutsOnly (λ v. length v ≤ max)) commands
all_may_put max [] said = tt
all_may_put max (command ∷ commands) said = (may_put max command said.0, all_may_put max commands said.1)

pub values_may_be_put : (max limit : ℕ) (commands : List (asking.Command Key8 (List ℕ))) (script : List Spelled) → map (asked key8_bytes (λ v. v)) commands ≡ script → limit ≡ max
    → AllByRecursion (CanBeSaid max) script → AllByRecursion (PutsOnly (λ v. length v ≤ limit)) commands
values_may_be_put max limit commands script is same said =
    subst (λ (n : ℕ). AllByRecursion (PutsOnly (λ v. length v ≤ n)) commands) (sym same)
    (all_may_put max commands (subst (AllByRecursion (CanBeSaid max)) (sym is) said))

-- ---- the commands were served

module _ {D : Type 0} (settings : Settings) (items : ℕ) (dev : device.Ghosts D) (old new : D) (marks : List ℕ) where
  -- by the configuration, as by the program's kind of store
  pub is_served_by : (store : StoreConfig FourCap ℕ) → IsConfigFor settings items store → (asks commands : List Spelled) (replies : List (Reply (List ℕ))) (end : End) → asks ≡ commands
      → ServesBy (kind_in 8 sha256.ghosts (λ bytes most. length_refusal most bytes) store) dev asks marks replies end old new
      → ServedBy settings (Script items) dev old new marks commands replies end
  is_served_by (Prunable cfg) is asks commands replies end same serves =
      let f = program_filing settings items in
      let records : cfg.key_write_buffer ≡ settings.write_buffer = ap (λ (b : ℕ × ℕ × ℕ × ℕ). b.1) is.buffers in
      let values : cfg.value_write_buffer ≡ settings.write_buffer = ap (λ (b : ℕ × ℕ × ℕ × ℕ). b.2) is.buffers in
      subst (λ (cs : List Spelled). ServesBy (prunable_kind f settings.write_buffer settings.write_buffer) dev cs marks replies end old new) same
      (subst (λ (n : ℕ). ServesBy (prunable_kind f settings.write_buffer n) dev asks marks replies end old new) values
      (subst (λ (n : ℕ). ServesBy (prunable_kind f n cfg.value_write_buffer) dev asks marks replies end old new) records
      (subst (λ (g : Filing). ServesBy (prunable_kind g cfg.key_write_buffer cfg.value_write_buffer) dev asks marks replies end old new) (same_filing settings items (Prunable cfg) is) serves)))

-- ---- the answer, by the end

module _ (replies : List (Reply (List ℕ))) (marks : List ℕ) (ended : Ended) (text : List ℕ) where
  -- of a script
  abbrev pub EndsAt : End → Type 0
  EndsAt end = EndsWith (served_text replies end) (status_of end) marks (error_of end) ended text

  pub ends_at : (end known : End) → end ≡ known → EndsAt known → EndsAt end
  ends_at end known is ends = subst EndsAt (sym is) ends

  pub ends_stopped : (e : Error) → (e ≡ Mem → ⊥) → EndsWith (replies_text replies ++ error_line e) 5 marks (Some e) ended text → EndsAt (Failed e)
  ends_stopped Mem other ends = absurd (other refl)
  ends_stopped e other ends = ends

  pub ends_for_memory : (e : Error) → e ≡ Mem → ended.status ≡ 6 → ended.marks ≡ marks → ended.error ≡ None → text ≡ [] → EndsAt (Failed e)
  ends_for_memory Mem is status same error nil = record { marks = same; error = error; written = inr (status, nil) }
  ends_for_memory e is status same error nil = absurd (cc is)

-- what holds of the error of a run holds of the one that is handed out
handed : (faults_old faults_new : ℕ) (end : End) → IfFailed end (λ e. IsFault e → Rose faults_old faults_new) → IfSome (error_of end) (λ e. IsFault e → Rose faults_old faults_new)
handed faults_old faults_new Done fault = tt
handed faults_old faults_new (Failed Mem) fault = tt
handed faults_old faults_new (Failed e) fault = fault

pub handed_fault : (faults_old faults_new : ℕ) (end : End) (error : Option Error) → error ≡ error_of end → IfFailed end (λ e. IsFault e → Rose faults_old faults_new) → IfSome error (λ e. IsFault e → Rose faults_old faults_new)
handed_fault faults_old faults_new end error is fault = subst (λ (o : Option Error). IfSome o (λ e. IsFault e → Rose faults_old faults_new)) (sym is) (handed faults_old faults_new end fault)

-- ---- the answers

module _ {D : Type 0} (settings : Settings) (job : Job) (dev : device.Ghosts D) (old new : D) (ended : Ended) (text : List ℕ) where
  -- no error is handed out
  calm : ended.error ≡ None → IfSome ended.error (λ e. IsFault e → Rose (dev.faults old) (dev.faults new))
  calm none = subst (λ (o : Option Error). IfSome o (λ e. IsFault e → Rose (dev.faults old) (dev.faults new))) (sym none) tt

  still : new ≡ old → dev.faults old ≤ dev.faults new
  still same = subst (λ (d : D). dev.faults old ≤ dev.faults d) (sym same) (omega arith)

  -- there was no memory before a command was served
  pub not_served : new ≡ old → (commands : List Spelled) → HasNoMemory ended text → AnswersServed settings job dev old new commands ended text
  not_served same commands none = record { answer = inl (same, none); fault = calm none.error; faults = still same }

  pub not_answered : new ≡ old → (input : List ℕ) → HasNoMemory ended text → AnswersWhole settings job dev old new input ended text
  not_answered same input none = record { answer = no_memory same none; fault = calm none.error; faults = still same }

  -- the first bad line is named
  pub line_named : new ≡ old → (input : List ℕ) (number : ℕ) → IsBadAt job settings.max_value input number → EndsWith (bad_line_text number) 2 [] None ended text
      → AnswersWhole settings job dev old new input ended text
  line_named same input number first ends = record { answer = bad_line same number first ends; fault = calm ends.error; faults = still same }

  -- the commands were served, up to this end, and the replies were handed on
  pub run_answered : (commands : List Spelled) (marks : List ℕ) (replies shown : List (Reply (List ℕ))) (end : End) → shown ≡ replies → ServedBy settings job dev old new marks commands replies end
      → EndsWith (owed job shown end) (status_of end) marks (error_of end) ended text → AnswersServed settings job dev old new commands ended text
  run_answered commands marks replies shown end same so ends = record {
    answer = inr (record {
      replies = replies;
      end = end;
      served = subst (λ (m : List ℕ). ServedBy settings job dev old new m commands replies end) (sym ends.marks) so;
      error = ends.error;
      written = subst (λ rs. ((ended.status ≡ status_of end) × (text ≡ owed job rs end)) ⊎ ((ended.status ≡ 6) × (text ≡ []))) same ends.written;
    });
    fault = handed_fault (dev.faults old) (dev.faults new) end ended.error ends.error so.fault;
    faults = so.footprint.faults;
  }

  -- the input orders these commands, and this is the answer to them
  pub commands_answered : (input : List ℕ) (commands : List Spelled) → Orders job settings.max_value input commands
      → AnswersServed settings job dev old new commands ended text → AnswersWhole settings job dev old new input ended text
  commands_answered input commands ordered answers = record {
    answer = elim answers.answer as (λ _. AnswerOf job settings.max_value (ServedBy settings job dev old new ended.marks) (new ≡ old) input ended text) [
      | inl short ↦ no_memory short.0 short.1
      | inr so ↦ served commands ordered so
    ];
    fault = answers.fault;
    faults = answers.faults;
  }
