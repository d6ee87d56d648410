-- What a call of the program comes to, by what its parts came to: each lemma is named as the field of `Runs`, or of `RunsJob`, that it proves.
use Rattle.std.specs.Prelude.{◌≢◌, Option, None, IsSome, IfSome}
use Rattle.std.proofs.Common.{◌≡◌, ◌⊎◌, inl, inr, ℕ, zero, suc, ◌+◌, ◌^◌, ◌≤◌, List, [], ◌∷◌, ◌++◌, length, Contains, Result, Ok, Err, refl, sym, ap, subst, ◌∙◌, lit<, append-nil, append_assoc, length-append, arith}
use Rattle.std.specs.List.{AllByRecursion}
use Rattle.blob_device.specs.Counts.{Rose}
use Rattle.blob_device.specs.declared.device.Device as device
use Rattle.blob_device.specs.declared.io_fault.IoFault.{IoFault}
use Rattle.blob_device.specs.declared.sink.Sink as sink
use Rattle.blob_device.specs.declared.source.Source as source
use Rattle.archives.specs.Replies.{Reply}
use Rattle.archives.specs.declared.error.Error.{Error}
use Rattle.archives.specs.Refusing.{IsFault}
use Rattle.archive_service.specs.Ended.{EndsUnserved, code_of}
use Rattle.archive_service.specs.Script.{Spells}
use Rattle.archive_service.specs.Texts.{Spelled}
use Rattle.archive_service.specs.declared.ended.Ended.{Ended}
use Rattle.archive_service.specs.declared.ended.Status.{Status}
use Rattle.archive_service.specs.declared.ended.Status.TheVariants.{NoMemory, ReadFault, TooLong}
use Rattle.archive_service.specs.declared.replies.End.{End}
use Rattle.archive_service.specs.declared.replies.End.TheVariants.{Done}
use Rattle.archive_service.specs.declared.settings.Settings.{Settings}
use Rattle.archive_service.specs.lemmas.Script.{good_or_bad, one_script}
use Rattle.archive_program.specs.Answering.{AnswersTo, IsUnread}
use Rattle.archive_program.specs.Taking.{TakesPrefix}
use Rattle.archive_program.specs.Output.{WritesPrefix}
use Rattle.archive_program.specs.Program.{AnswersInput, AnswersScript, Gives, InFull, InPart, IsBadAt, IsGiven, IsRefusal, IsUnserved, MayBeServed, NamesBadLine, Orders, Reads, ReadsFor, Runs, RunsJob, ServedBy, error_of, items_of, program_filing}
use Rattle.archive_program.specs.Answered.{AnswersWhole}
use Rattle.archive_program.specs.Words.{AreOfNoForm, AsksFor, Job, Make, Script}
use Rattle.archive_program.proofs.CauseLemmas.{refusal_only}
use Rattle.archive_program.proofs.FoundLemmas.{Found, bad, failed, found_of, none, short, whole}
use Rattle.archive_program.proofs.WordsLemmas.{one_job}

pub in_part : {T : Type 0} (result : Result T IoFault) (old new text : List ℕ) → WritesPrefix result old new text → InPart text old new
in_part result old new text wrote = record { prefix = wrote.written; rest = wrote.rest; text_is = wrote.prefix; taken = wrote.taken }

pub in_full : {T : Type 0} (v : T) (old new text : List ℕ) → WritesPrefix {T = T} (Ok v) old new text → InFull text old new
in_full v old new text wrote =
    wrote.taken ∙ ap (λ (prefix : List ℕ). old ++ prefix) (sym (wrote.prefix ∙ ap (λ (rest : List ℕ). wrote.written ++ rest) wrote.whole ∙ append-nil wrote.written))

-- an input that is no longer than it may be has no more bytes to take
pub not_too_long : (left_old left_new : List ℕ) → length left_old ≤ 2 ^ 24 → TakesPrefix left_old left_new (λ n. n ≡ 2 ^ 24 + 1) → ⊥
not_too_long left_old left_new fits took = omega (arith, took.number, ap length took.rest, length-append took.taken left_new)

-- a number that is none of those in the list
not_listed : (xs : List ℕ) (n : ℕ) → AllByRecursion (λ x. x ≢ n) xs → Contains xs n → ⊥
not_listed [] n unlike (k, lt, is) = omega (arith, lt)
not_listed (x ∷ xs) n unlike (zero, lt, is) = unlike.0 is
not_listed (x ∷ xs) n unlike (suc k, lt, is) = not_listed xs n unlike.1 (k, omega (arith, lt), is)

-- what was written of a part of the text is a part of the text too
longer_prefix : (wanted text rest old new : List ℕ) → wanted ≡ text ++ rest → InPart text old new → InPart wanted old new
longer_prefix wanted text rest old new is part = record {
  prefix = part.prefix;
  rest = part.rest ++ rest;
  text_is = is ∙ ap (λ (t : List ℕ). t ++ rest) part.text_is ∙ append_assoc part.prefix part.rest rest;
  taken = part.taken;
}

-- ---- what a job is, by its kind

-- a job that needs no input leaves the source as it was
left_alone : (job : Job) (IsLeft SourceTells : Type 0) (left_old left_new input : List ℕ) → ReadsFor job IsLeft SourceTells left_old left_new input → (Reads job → ⊥) → IsLeft
left_alone (Script items) IsLeft SourceTells left_old left_new input read unasked = absurd (unasked tt)
left_alone (Make items count) IsLeft SourceTells left_old left_new input read unasked = read.0

-- the job is given these commands, and this is the input
module _ (max : ℕ) (IsLeft SourceTells : Type 0) (left left_new : List ℕ) (faults_old faults_new : ℕ) (commands : List Spelled) (input : List ℕ) where
  -- what is given has no bad line
  given_never_bad : (job : Job) (number : ℕ) → IsGiven job max SourceTells left faults_old faults_new commands → ReadsFor job IsLeft SourceTells left left_new input → IsBadAt job max input number → ⊥
  given_never_bad (Script items) number given read is_bad =
      good_or_bad max input commands number (subst (λ (t : List ℕ). Spells max t commands) (read.read (given.given tt).0).0 given.ordered) is_bad
  given_never_bad (Make items count) number given read is_bad = is_bad

  -- and orders no other commands
  one_order : (job : Job) (others : List Spelled) → IsGiven job max SourceTells left faults_old faults_new commands → ReadsFor job IsLeft SourceTells left left_new input → Orders job max input others
      → commands ≡ others
  one_order (Script items) others given read ordered =
      one_script max input commands others (subst (λ (t : List ℕ). Spells max t commands) (read.read (given.given tt).0).0 given.ordered) ordered
  one_order (Make items count) others given read ordered = given.ordered ∙ sym ordered

module _ {D S W : Type 0} (settings : Settings) (words : List (List ℕ)) (ended : Ended) (dev : device.Ghosts D) (old new : D)
    (input : source.Ghosts S) (input_old input_new : S) (out : sink.Ghosts W) (out_old out_new : W) where
  abbrev pub Unserved : Type 0
  Unserved = IsUnserved settings words ended dev old new input input_old input_new out out_old out_new

  abbrev pub Ran : Type 0
  Ran = Runs settings words ended dev old new input input_old input_new out out_old out_new

  abbrev pub RanJob : Job → Type 0
  RanJob job = RunsJob settings words ended dev old new input input_old input_new out out_old out_new job

  abbrev pub GivesFor : Job → (List ℕ → List ℕ → Type 0) → (List ℕ → List ℕ → List ℕ → Type 0) → Type 0
  GivesFor job P Extent = Gives settings words ended dev old new input input_old input_new out out_old out_new job P Extent

  -- the commands were served
  abbrev pub By : Job → List Spelled → List (Reply (List ℕ)) → End → Type 0
  By job = ServedBy settings job dev old new ended.marks

  abbrev pub TakesUpTo : (ℕ → Type 0) → Type 0
  TakesUpTo P = TakesPrefix (input.left input_old) (input.left input_new) P

  -- ---- where no script was served

  module _ (served : Unserved) (unwritten : out_new ≡ out_old) (faults : dev.faults old ≤ dev.faults new) where
    no_error : IsSome ended.error → ⊥
    no_error some = cc (subst IsSome served.error some)

    no_fault : IfSome ended.error (λ e. IsFault e → Rose (dev.faults old) (dev.faults new))
    no_fault = subst (λ (o : Option Error). IfSome o (λ e. IsFault e → Rose (dev.faults old) (dev.faults new))) (sym served.error) tt

    pub runs_usage : ended.status ≡ 1 → AreOfNoForm words → input_new ≡ input_old → Ran
    runs_usage status no_form unread = record {
      statuses = omega (arith, status);
      usage = λ is. no_form;
      form = λ other. absurd (other status);
      asked = λ job asks. absurd (no_form job asks);
      has_error = λ some. absurd (no_error some);
      at_most = λ s. record { taken = []; number = omega arith; rest = ap (λ (x : S). input.left x) (sym unread) };
      unserved = λ among. served;
      unread = λ is. unread;
      silent = λ among. unwritten;
      fault = no_fault;
      faults = faults;
    }

    -- The input was not read: by a fault of the source, for its length, or for want of memory.
    module _ (job : Job) (form : AsksFor words job) (reads : Reads job) (at_most : input.Tells → TakesUpTo (λ n. n ≤ 2 ^ 24 + 1)) where
      unread_job : (s : ℕ) → ended.status ≡ s → AllByRecursion (λ x. x ≢ s) (0 ∷ 1 ∷ 2 ∷ 4 ∷ 5 ∷ [])
          → (s ≡ 3 → Rose (input.faults input_old) (input.faults input_new) × (input.Tells → TakesUpTo (λ n. n ≤ 2 ^ 24)))
          → (s ≡ 7 → input.Tells → TakesUpTo (λ n. n ≡ 2 ^ 24 + 1))
          → (input.Tells → length (input.left input_old) ≤ 2 ^ 24 → (Rose (input.faults input_old) (input.faults input_new) → ⊥) → s ≡ 6) → RanJob job
      unread_job s status unlike read_fault too_long memory = record {
        unread = λ unasked. absurd (unasked reads);
        done = λ is. absurd (unlike.0 (sym is ∙ status));
        bad_script = λ is. absurd (unlike.1.1.0 (sym is ∙ status));
        read_fault = λ is. (reads, read_fault (sym status ∙ is));
        too_long = λ is. (reads, too_long (sym status ∙ is));
        write_fault = λ is. absurd (unlike.1.1.1.0 (sym is ∙ status));
        store_error = λ is. absurd (unlike.1.1.1.1.0 (sym is ∙ status));
        no_memory = λ is. inl (served, unwritten);
        complete = λ t may commands given calm calm_out.
            let (told, limit, calm) = given.given reads in
            inl (1, lit< tt, sym (status ∙ memory told limit calm));
      }

      runs_unread : (s : ℕ) → ended.status ≡ s → s ≤ 7 → s ≢ 1 → RanJob job → Ran
      runs_unread s status le other ran = record {
        statuses = omega (arith, status, le);
        usage = λ is. absurd (other (sym status ∙ is));
        form = λ no_usage. (job, form);
        asked = λ also asks. subst RanJob (one_job words job also form asks) ran;
        has_error = λ some. absurd (no_error some);
        at_most = at_most;
        unserved = λ among. served;
        unread = λ is. absurd (other (sym status ∙ is));
        silent = λ among. unwritten;
        fault = no_fault;
        faults = faults;
      }

      pub runs_read_fault : ended.status ≡ 3 → Rose (input.faults input_old) (input.faults input_new) → (input.Tells → TakesUpTo (λ n. n ≤ 2 ^ 24)) → Ran
      runs_read_fault status rose within = runs_unread 3 status (omega arith) (λ e. omega (arith, e))
          (unread_job 3 status (λ e. omega (arith, e), (λ e. omega (arith, e), (λ e. omega (arith, e), (λ e. omega (arith, e), (λ e. omega (arith, e), tt)))))
          (λ is. (rose, within)) (λ is. absurd (omega (arith, is))) (λ told fits calm. absurd (calm rose)))

      pub runs_too_long : ended.status ≡ 7 → (input.Tells → TakesUpTo (λ n. n ≡ 2 ^ 24 + 1)) → Ran
      runs_too_long status taken = runs_unread 7 status (omega arith) (λ e. omega (arith, e))
          (unread_job 7 status (λ e. omega (arith, e), (λ e. omega (arith, e), (λ e. omega (arith, e), (λ e. omega (arith, e), (λ e. omega (arith, e), tt)))))
          (λ is. absurd (omega (arith, is))) (λ is. taken) (λ told fits calm. absurd (not_too_long (input.left input_old) (input.left input_new) fits (taken told))))

      pub runs_no_memory : ended.status ≡ 6 → Ran
      runs_no_memory status = runs_unread 6 status (omega arith) (λ e. omega (arith, e))
          (unread_job 6 status (λ e. omega (arith, e), (λ e. omega (arith, e), (λ e. omega (arith, e), (λ e. omega (arith, e), (λ e. omega (arith, e), tt)))))
          (λ is. absurd (omega (arith, is))) (λ is. absurd (omega (arith, is))) (λ told fits calm. refl))

      -- by the status with which it was not read
      pub runs_not_read : (status : Status) → IsUnread settings job dev old new input input_old input_new status → ended.status ≡ code_of status → Ran
      runs_not_read ReadFault why is = runs_read_fault is why.0 why.1
      runs_not_read TooLong why is = runs_too_long is why
      runs_not_read NoMemory why is = runs_no_memory is
      runs_not_read status why is = absurd why

  -- the input was not read, and nothing was done
  pub runs_unanswered : (job : Job) → AsksFor words job → (status : Status) → AnswersTo settings job dev old new input input_old input_new (Err status) → EndsUnserved status ended → out_new ≡ out_old
      → Ran
  runs_unanswered job form status (reads, why, untouched, at_most) ends unwritten =
      runs_not_read (record { untouched = untouched; marks = ends.marks; error = ends.error }) unwritten (subst (λ (d : D). dev.faults old ≤ dev.faults d) (sym untouched) (omega arith))
      job form reads at_most status why ends.status

  -- ---- where the job was answered

  -- The input was read as `taken`, and has this answer. Its text was handed on as `shown`.
  module _ (job : Job) (form : AsksFor words job) (taken text shown : List ℕ) (before : Ended) (marks_stay : before.marks ≡ ended.marks)
      (error_stays : before.error ≡ ended.error) (answers : AnswersWhole settings job dev old new taken before text) (same_text : shown ≡ text)
      (read : ReadsFor job (input_new ≡ input_old) input.Tells (input.left input_old) (input.left input_new) taken) (at_most : input.Tells → TakesUpTo (λ n. n ≤ 2 ^ 24 + 1)) where
    abbrev pub FoundNow : Type 0
    FoundNow = Found job settings.max_value (By job) Unserved ended.error taken text before.status

    answer : FoundNow
    answer = found_of job settings.max_value (ServedBy settings job dev old new before.marks) (By job) (new ≡ old) Unserved ended.error taken text before
        (λ commands replies end so. subst (λ (m : List ℕ). ServedBy settings job dev old new m commands replies end) marks_stay so) error_stays
        (λ untouched marks error. record { untouched = untouched; marks = sym marks_stay ∙ marks; error = sym error_stays ∙ error }) answers.answer

    is_fault : IfSome ended.error (λ e. IsFault e → Rose (dev.faults old) (dev.faults new))
    is_fault = subst (λ (o : Option Error). IfSome o (λ e. IsFault e → Rose (dev.faults old) (dev.faults new))) error_stays answers.fault

    gives : (P : List ℕ → List ℕ → Type 0) (Extent : List ℕ → List ℕ → List ℕ → Type 0) (wanted : List ℕ) → P taken wanted
        → (out.Tells → Extent wanted (out.taken out_old) (out.taken out_new)) → GivesFor job P Extent
    gives P Extent wanted is written = record {
      input = taken;
      text = wanted;
      read = read;
      answers = is;
      written = written;
    }

    -- what was served to its end, up to this end, or with this error, or the first bad line
    abbrev UpTo : (End → Type 0) → List ℕ → List ℕ → Type 0
    UpTo IsEnd = AnswersScript settings.max_value (By job) job IsEnd

    abbrev Any : List ℕ → List ℕ → Type 0
    Any = AnswersInput job settings.max_value (By job) ended.error Unserved

    -- an end with no error is one that hands out none
    by_error : ended.error ≡ None → UpTo (λ end. end ≡ Done) taken text → UpTo (λ end. ended.error ≡ error_of end) taken text
    by_error is script = record {
      commands = script.commands;
      ordered = script.ordered;
      replies = script.replies;
      end = script.end;
      served = script.served;
      ended = is ∙ ap error_of (sym script.ended);
      text_is = script.text_is;
    }

    -- ---- all was written

    module _ (same : ended.status ≡ before.status) (wrote : out.Tells → InFull shown (out.taken out_old) (out.taken out_new)) (unwritten : shown ≡ [] → out_new ≡ out_old) where
      written : out.Tells → InFull text (out.taken out_old) (out.taken out_new)
      written w = wrote w ∙ ap (λ (t : List ℕ). out.taken out_old ++ t) same_text

      statuses : FoundNow → ended.status ≤ 7
      statuses (none s u e) = omega (arith, same, s)
      statuses (bad s u names) = omega (arith, same, s)
      statuses (whole s e script) = omega (arith, same, s)
      statuses (failed s some script) = omega (arith, same, s)
      statuses (short s wanted rest answers is) = omega (arith, same, s)

      -- nothing else than these
      apart : FoundNow → (s : ℕ) → s ≢ 0 → s ≢ 2 → s ≢ 5 → s ≢ 6 → ended.status ≡ s → ⊥
      apart (none s u e) n n0 n2 n5 n6 is = n6 (sym is ∙ same ∙ s)
      apart (bad s u names) n n0 n2 n5 n6 is = n2 (sym is ∙ same ∙ s)
      apart (whole s e script) n n0 n2 n5 n6 is = n0 (sym is ∙ same ∙ s)
      apart (failed s some script) n n0 n2 n5 n6 is = n5 (sym is ∙ same ∙ s)
      apart (short s wanted rest answers is) n n0 n2 n5 n6 e = n6 (sym e ∙ same ∙ s)

      never : (s : ℕ) → s ≢ 0 → s ≢ 2 → s ≢ 5 → s ≢ 6 → ended.status ≡ s → ⊥
      never = apart answer

      done : FoundNow → ended.status ≡ 0 → (ended.error ≡ None) × GivesFor job (UpTo (λ end. end ≡ Done)) InFull
      done (none s u e) is = absurd (omega (arith, same, s, is))
      done (bad s u names) is = absurd (omega (arith, same, s, is))
      done (whole s e script) is = (e, gives (UpTo (λ end. end ≡ Done)) InFull text script written)
      done (failed s some script) is = absurd (omega (arith, same, s, is))
      done (short s wanted rest answers prefix) is = absurd (omega (arith, same, s, is))

      bad_script : FoundNow → ended.status ≡ 2 → GivesFor job (NamesBadLine job settings.max_value) InFull
      bad_script (none s u e) is = absurd (omega (arith, same, s, is))
      bad_script (bad s u names) is = gives (NamesBadLine job settings.max_value) InFull text names written
      bad_script (whole s e script) is = absurd (omega (arith, same, s, is))
      bad_script (failed s some script) is = absurd (omega (arith, same, s, is))
      bad_script (short s wanted rest answers prefix) is = absurd (omega (arith, same, s, is))

      store_error : FoundNow → ended.status ≡ 5 → IsSome ended.error × GivesFor job (UpTo (λ end. ended.error ≡ error_of end)) InFull
      store_error (none s u e) is = absurd (omega (arith, same, s, is))
      store_error (bad s u names) is = absurd (omega (arith, same, s, is))
      store_error (whole s e script) is = absurd (omega (arith, same, s, is))
      store_error (failed s some script) is = (some, gives (UpTo (λ end. ended.error ≡ error_of end)) InFull text script written)
      store_error (short s wanted rest answers prefix) is = absurd (omega (arith, same, s, is))

      has_error : FoundNow → IsSome ended.error → Contains (4 ∷ 5 ∷ 6 ∷ []) ended.status
      has_error (none s u e) some = (2, lit< tt, sym (same ∙ s))
      has_error (bad s u names) some = absurd (cc (subst IsSome u.error some))
      has_error (whole s e script) some = absurd (cc (subst IsSome e some))
      has_error (failed s e script) some = (1, lit< tt, sym (same ∙ s))
      has_error (short s wanted rest answers prefix) some = (2, lit< tt, sym (same ∙ s))

      no_memory : FoundNow → ended.status ≡ 6 → (Unserved × (out_new ≡ out_old)) ⊎ GivesFor job Any InPart
      no_memory (none s u e) is = inl (u, unwritten (same_text ∙ e))
      no_memory (bad s u names) is = absurd (omega (arith, same, s, is))
      no_memory (whole s e script) is = absurd (omega (arith, same, s, is))
      no_memory (failed s some script) is = absurd (omega (arith, same, s, is))
      no_memory (short s wanted rest answers prefix) is =
          inr (gives Any InPart wanted answers (λ w. record { prefix = text; rest = rest; text_is = prefix; taken = written w }))

      unserved : FoundNow → Contains (1 ∷ 2 ∷ 3 ∷ 7 ∷ []) ended.status → Unserved
      unserved (none s u e) among = u
      unserved (bad s u names) among = u
      unserved (whole s e script) among = absurd (not_listed (1 ∷ 2 ∷ 3 ∷ 7 ∷ []) ended.status (λ x. omega (arith, same, s, x), (λ x. omega (arith, same, s, x), (λ x. omega (arith, same, s, x), (λ x. omega (arith, same, s, x), tt)))) among)
      unserved (failed s some script) among = absurd (not_listed (1 ∷ 2 ∷ 3 ∷ 7 ∷ []) ended.status (λ x. omega (arith, same, s, x), (λ x. omega (arith, same, s, x), (λ x. omega (arith, same, s, x), (λ x. omega (arith, same, s, x), tt)))) among)
      unserved (short s wanted rest answers prefix) among = absurd (not_listed (1 ∷ 2 ∷ 3 ∷ 7 ∷ []) ended.status (λ x. omega (arith, same, s, x), (λ x. omega (arith, same, s, x), (λ x. omega (arith, same, s, x), (λ x. omega (arith, same, s, x), tt)))) among)

      never_1 : ended.status ≡ 1 → ⊥
      never_1 = never 1 (λ e. omega (arith, e)) (λ e. omega (arith, e)) (λ e. omega (arith, e)) (λ e. omega (arith, e))

      never_3 : ended.status ≡ 3 → ⊥
      never_3 = never 3 (λ e. omega (arith, e)) (λ e. omega (arith, e)) (λ e. omega (arith, e)) (λ e. omega (arith, e))

      never_4 : ended.status ≡ 4 → ⊥
      never_4 = never 4 (λ e. omega (arith, e)) (λ e. omega (arith, e)) (λ e. omega (arith, e)) (λ e. omega (arith, e))

      never_7 : ended.status ≡ 7 → ⊥
      never_7 = never 7 (λ e. omega (arith, e)) (λ e. omega (arith, e)) (λ e. omega (arith, e)) (λ e. omega (arith, e))

      silent : Contains (1 ∷ 3 ∷ 7 ∷ []) ended.status → ⊥
      silent among = not_listed (1 ∷ 3 ∷ 7 ∷ []) ended.status (λ x. never_1 (sym x), (λ x. never_3 (sym x), (λ x. never_7 (sym x), tt))) among

      module _ (t : dev.Tells) (may : MayBeServed settings (items_of job) (dev.time old)) (commands : List Spelled)
          (given : IsGiven job settings.max_value input.Tells (input.left input_old) (input.faults input_old) (input.faults input_new) commands)
          (calm : Rose (dev.faults old) (dev.faults new) → ⊥) where
        complete : FoundNow → Contains (0 ∷ 6 ∷ []) ended.status ⊎ ((ended.status ≡ 5) × IfSome ended.error IsRefusal)
        complete (none s u e) = inl (1, lit< tt, sym (same ∙ s))
        complete (bad s u names) =
            absurd (given_never_bad settings.max_value (input_new ≡ input_old) input.Tells (input.left input_old) (input.left input_new) (input.faults input_old) (input.faults input_new) commands taken
            job names.number given read names.first)
        complete (whole s e script) = inl (0, lit< tt, sym (same ∙ s))
        complete (failed s some script) =
            let these : commands ≡ script.commands =
            one_order settings.max_value (input_new ≡ input_old) input.Tells (input.left input_old) (input.left input_new) (input.faults input_old) (input.faults input_new) commands taken
            job script.commands given read script.ordered in
            inr (
              same ∙ s,
              refusal_only (program_filing settings (items_of job)) settings.write_buffer settings.write_buffer (dev.faults old) (dev.faults new) (dev.time old) (dev.time new)
                  script.commands ended.marks script.replies
                  calm script.end ended.error (script.served.serves t may.nothing_pending (may.markers, may.lawful)) script.ended some,
            )
        complete (short s wanted rest answers prefix) = inl (1, lit< tt, sym (same ∙ s))

      written_job : RanJob job
      written_job = record {
        unread = left_alone job (input_new ≡ input_old) input.Tells (input.left input_old) (input.left input_new) taken read;
        done = done answer;
        bad_script = bad_script answer;
        read_fault = λ is. absurd (never_3 is);
        too_long = λ is. absurd (never_7 is);
        write_fault = λ is. absurd (never_4 is);
        store_error = store_error answer;
        no_memory = no_memory answer;
        complete = λ t may commands given calm calm_out. complete t may commands given calm answer;
      }

      pub runs_written : Ran
      runs_written = record {
        statuses = statuses answer;
        usage = λ is. absurd (never_1 is);
        form = λ other. (job, form);
        asked = λ also asks. subst RanJob (one_job words job also form asks) written_job;
        has_error = has_error answer;
        at_most = at_most;
        unserved = unserved answer;
        unread = λ is. absurd (never_1 is);
        silent = λ among. absurd (silent among);
        fault = is_fault;
        faults = answers.faults;
      }

    -- ---- the sink failed, or had no memory, in the midst of the text

    module _ (wrote : out.Tells → InPart shown (out.taken out_old) (out.taken out_new)) (some_text : shown ≡ [] → ⊥) where
      went_out : out.Tells → InPart text (out.taken out_old) (out.taken out_new)
      went_out w = subst (λ (t : List ℕ). InPart t (out.taken out_old) (out.taken out_new)) same_text (wrote w)

      gives_part : FoundNow → GivesFor job Any InPart
      gives_part (none s u e) = absurd (some_text (same_text ∙ e))
      gives_part (bad s u names) = gives Any InPart text (inr (names, u)) went_out
      gives_part (whole s e script) = gives Any InPart text (inl (by_error e script)) went_out
      gives_part (failed s some script) = gives Any InPart text (inl script) went_out
      gives_part (short s wanted rest answers prefix) = gives Any InPart wanted answers (λ w. longer_prefix wanted text rest (out.taken out_old) (out.taken out_new) prefix (went_out w))

      cut_job : (s : ℕ) → ended.status ≡ s → AllByRecursion (λ x. x ≢ s) (0 ∷ 1 ∷ 2 ∷ 3 ∷ 5 ∷ 7 ∷ [])
          → (s ≡ 4 → Rose (out.faults out_old) (out.faults out_new)) → ((Rose (out.faults out_old) (out.faults out_new) → ⊥) → s ≡ 6) → RanJob job
      cut_job s is unlike rose calm_six = record {
        unread = left_alone job (input_new ≡ input_old) input.Tells (input.left input_old) (input.left input_new) taken read;
        done = λ e. absurd (unlike.0 (sym e ∙ is));
        bad_script = λ e. absurd (unlike.1.1.0 (sym e ∙ is));
        read_fault = λ e. absurd (unlike.1.1.1.0 (sym e ∙ is));
        too_long = λ e. absurd (unlike.1.1.1.1.1.0 (sym e ∙ is));
        write_fault = λ e. (rose (sym is ∙ e), gives_part answer);
        store_error = λ e. absurd (unlike.1.1.1.1.0 (sym e ∙ is));
        no_memory = λ e. inr (gives_part answer);
        complete = λ t may commands given calm calm_out. inl (1, lit< tt, sym (is ∙ calm_six calm_out));
      }

      runs_cut : (s : ℕ) → ended.status ≡ s → AllByRecursion (λ x. x ≢ s) (0 ∷ 1 ∷ 2 ∷ 3 ∷ 5 ∷ 7 ∷ []) → s ≤ 7 → Contains (4 ∷ 5 ∷ 6 ∷ []) s → RanJob job → Ran
      runs_cut s is unlike le listed ran = record {
        statuses = omega (arith, is, le);
        usage = λ e. absurd (unlike.1.0 (sym e ∙ is));
        form = λ other. (job, form);
        asked = λ also asks. subst RanJob (one_job words job also form asks) ran;
        has_error = λ some. subst (λ (n : ℕ). Contains (4 ∷ 5 ∷ 6 ∷ []) n) (sym is) listed;
        at_most = at_most;
        unserved = λ among. absurd (not_listed (1 ∷ 2 ∷ 3 ∷ 7 ∷ []) ended.status (λ x. unlike.1.0 (x ∙ is), (λ x. unlike.1.1.0 (x ∙ is), (λ x. unlike.1.1.1.0 (x ∙ is), (λ x. unlike.1.1.1.1.1.0 (x ∙ is), tt)))) among);
        unread = λ e. absurd (unlike.1.0 (sym e ∙ is));
        silent = λ among. absurd (not_listed (1 ∷ 3 ∷ 7 ∷ []) ended.status (λ x. unlike.1.0 (x ∙ is), (λ x. unlike.1.1.1.0 (x ∙ is), (λ x. unlike.1.1.1.1.1.0 (x ∙ is), tt))) among);
        fault = is_fault;
        faults = answers.faults;
      }

      pub runs_write_fault : ended.status ≡ 4 → Rose (out.faults out_old) (out.faults out_new) → Ran
      runs_write_fault is rose =
          let unlike : AllByRecursion (λ x. x ≢ 4) (0 ∷ 1 ∷ 2 ∷ 3 ∷ 5 ∷ 7 ∷ []) =
          (λ e. omega (arith, e), (λ e. omega (arith, e), (λ e. omega (arith, e), (λ e. omega (arith, e), (λ e. omega (arith, e), (λ e. omega (arith, e), tt)))))) in
          runs_cut 4 is unlike (omega arith) (0, lit< tt, refl) (cut_job 4 is unlike (λ e. rose) (λ calm. absurd (calm rose)))

      pub runs_short_of_memory : ended.status ≡ 6 → Ran
      runs_short_of_memory is =
          let unlike : AllByRecursion (λ x. x ≢ 6) (0 ∷ 1 ∷ 2 ∷ 3 ∷ 5 ∷ 7 ∷ []) =
          (λ e. omega (arith, e), (λ e. omega (arith, e), (λ e. omega (arith, e), (λ e. omega (arith, e), (λ e. omega (arith, e), (λ e. omega (arith, e), tt)))))) in
          runs_cut 6 is unlike (omega arith) (2, lit< tt, refl) (cut_job 6 is unlike (λ e. absurd (omega (arith, e))) (λ calm. refl))
