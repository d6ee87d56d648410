-- What each path through the loop over the commands needs, as the code has commands and replies.
use Rattle.std.proofs.Common.{◌≡◌, inl, inr, refl, sym, ◌∙◌, ap, subst, ℕ, zero, suc, ◌+◌, ◌<◌, List, [], ◌∷◌, ◌++◌, length, map, get_or, slice_get, Result, Ok, Err, Some, arith, length-append}
use Rattle.std.specs.List.{AllByRecursion}
use Rattle.std.proofs.lemmas.List.{length-map, map-append}
use Rattle.blob_device.specs.declared.device.Device as device
use Rattle.archives.specs.Changes.{Asked, Replied}
use Rattle.archives.specs.declared.error.Error.{Error}
use Rattle.archives.specs.declared.error.Error.TheVariants.{Mem}
use Rattle.archive_service.specs.StoreCalls.{Answers, OpensStore, Serving}
use Rattle.archive_service.specs.Serves.{ServesBy}
use Rattle.archive_service.specs.ServesOne.{ServesOne, end_of, marked, unmarked}
use Rattle.archive_service.specs.declared.replies.End.TheVariants.{Failed}
use Rattle.archive_service.proofs.ServingLoop.{SoFar, all_done, goes_wrong, so_far_start, unopened}

-- ---- the command at an index

pub seen_at : {C X : Type 0} (seen : C → X) (commands : List C) (i n : ℕ) (command : C) → i < length commands → n ≡ i → command ≡ get_or commands i command → slice_get (map seen commands) n ≡ Some (seen command)
seen_at seen commands i n command lt same is = ap (slice_get (map seen commands)) same ∙ at seen commands i command lt is
  where
    at : {C X : Type 0} (seen : C → X) (commands : List C) (i : ℕ) (command : C) → i < length commands → command ≡ get_or commands i command → slice_get (map seen commands) i ≡ Some (seen command)
    at seen [] i command lt is = absurd (omega arith)
    at seen (x ∷ xs) zero command lt is = ap (λ y. Some (seen y)) (sym is)
    at seen (x ∷ xs) (suc i) command lt is = at seen xs i command (omega arith) is

pub all_at : {C : Type 0} (P : C → Type 0) (xs : List C) (i : ℕ) (x : C) → i < length xs → x ≡ get_or xs i x → AllByRecursion P xs → P x
all_at P [] i x lt is all = absurd (omega arith)
all_at P (y ∷ ys) zero x lt is all = subst P (sym is) all.0
all_at P (y ∷ ys) (suc i) x lt is all = all_at P ys i x (omega arith) is all.1

module _ {A V D : Type 0} (s : Serving A V) (dev : device.Ghosts D) where
  -- ---- the opening

  pub ends_unopened : (old now : D) (commands : List Asked) (marks : List ℕ) (replies : List Replied) (r : Result Unit Error) (e : Error) → r ≡ Err e
      → marks ≡ [] → replies ≡ [] → OpensStore s dev (Err e) old now → ServesBy s.kind dev commands marks replies (end_of r) old now
  ends_unopened old now commands marks replies r e answer no_marks no_replies opens =
      subst (λ (x : Result Unit Error). ServesBy s.kind dev commands marks replies (end_of x) old now) (sym answer)
      (subst (λ (ms : List ℕ). ServesBy s.kind dev commands ms replies (Failed e) old now) (sym no_marks)
      (subst (λ (rs : List Replied). ServesBy s.kind dev commands [] rs (Failed e) old now) (sym no_replies)
      (unopened s dev old now commands e opens)))

  pub begins : (old now : D) (commands : List Asked) (marks : List ℕ) (replies : List Replied) (a : A) → marks ≡ [] → replies ≡ []
      → OpensStore s dev (Ok a) old now → SoFar s dev old now commands marks replies a
  begins old now commands marks replies a no_marks no_replies opens =
      subst (λ (ms : List ℕ). SoFar s dev old now commands ms replies a) (sym no_marks)
      (subst (λ (rs : List Replied). SoFar s dev old now commands [] rs a) (sym no_replies) (so_far_start s dev old now commands a opens))

  -- ---- a command

  pub ends_wrong : (old b c : D) (commands : List Asked) (marks new_marks : List ℕ) (replies new_replies : List Replied) (a : A) → SoFar s dev old b commands marks replies a
      → (command : Asked) → slice_get commands (length replies) ≡ Some command → (r : Result Unit Error) (e : Error) → r ≡ Err e
      → ServesOne s dev a command (Err e) b c marks new_marks replies new_replies → ServesBy s.kind dev commands new_marks new_replies (end_of r) old c
  ends_wrong old b c commands marks new_marks replies new_replies a so_far command is r e answer serves =
      subst (λ (x : Result Unit Error). ServesBy s.kind dev commands new_marks new_replies (end_of x) old c) (sym answer)
      (goes_wrong s dev old b c commands marks new_marks replies new_replies a so_far command is e serves)

  longer : (old new : List Replied) (reply : Replied) → new ≡ old ++ reply ∷ [] → length new ≡ length old + 1
  longer old new reply is = omega (arith, ap length is, length-append old (reply ∷ []))

  pub replies_grow : (b c : D) (marks new_marks : List ℕ) (replies new_replies : List Replied) (a : A) (command : Asked) (r : A)
      → ServesOne s dev a command (Ok r) b c marks new_marks replies new_replies → length new_replies ≡ length replies + 1
  replies_grow b c marks new_marks replies new_replies a command r (unmarked failed same marks_same replies_same) = absurd (cc failed)
  replies_grow b c marks new_marks replies new_replies a command r (marked is_marked (Err e) answers keeps) = absurd (let wrong = keeps.0 in cc wrong)
  replies_grow b c marks new_marks replies new_replies a command r (marked is_marked (Ok x) answers keeps) = elim keeps as (λ _. length new_replies ≡ length replies + 1) [
    | inl kept ↦ longer replies new_replies x.1 kept.1
    | inr lost ↦ absurd (let wrong = lost.0 in cc wrong)
  ]

  -- ---- all commands

  pub all_served : (old now : D) (commands : List Asked) (marks : List ℕ) (replies : List Replied) (a : A) → SoFar s dev old now commands marks replies a
      → length replies ≡ length commands → ServesBy s.kind dev commands marks replies (end_of (Ok tt)) old now
  all_served old now commands marks replies a so_far all = all_done s dev old now commands marks replies a so_far all

-- the same of the replies of the code
pub one_reply_more : {A V D R : Type 0} (said : R → Replied) (s : Serving A V) (dev : device.Ghosts D) (b c : D) (marks new_marks : List ℕ) (replies new_replies : List R) (a : A) (command : Asked) (r : A)
    → ServesOne s dev a command (Ok r) b c marks new_marks (map said replies) (map said new_replies) → length new_replies ≡ length replies + 1
one_reply_more said s dev b c marks new_marks replies new_replies a command r serves =
    omega (arith, replies_grow s dev b c marks new_marks (map said replies) (map said new_replies) a command r serves, length-map replies said, length-map new_replies said)

-- ---- what the function for one command promises

module _ {A V D : Type 0} (s : Serving A V) (dev : device.Ghosts D) (a : A) (command : Asked) (b c : D) (marks new_marks : List ℕ) (mark : ℕ) (pushed : new_marks ≡ marks ++ mark ∷ [])
    (now : mark ≡ (dev.time b).calls) where
  is_marked : new_marks ≡ marks ++ (dev.time b).calls ∷ []
  is_marked = pushed ∙ ap (λ (n : ℕ). marks ++ n ∷ []) now

  pub one_refused : (replies : List Replied) (r : Result A Error) (e : Error) → r ≡ Err e → Answers s dev a command (Err e) b c
      → ServesOne s dev a command r b c marks new_marks replies replies
  one_refused replies r e answer answers = marked is_marked (Err e) answers (answer, refl)

  pub one_unkept : (replies new_replies : List Replied) (r : Result A Error) (x : A × Replied) → r ≡ Err Mem → new_replies ≡ replies → Answers s dev a command (Ok x) b c
      → ServesOne s dev a command r b c marks new_marks replies new_replies
  one_unkept replies new_replies r x memory same answers = marked is_marked (Ok x) answers (inr (memory, same))

  pub one_kept : {R : Type 0} (said : R → Replied) (replies new_replies : List R) (y : A) (reply : R) → new_replies ≡ replies ++ reply ∷ [] → Answers s dev a command (Ok (y, said reply)) b c
      → ServesOne s dev a command (Ok y) b c marks new_marks (map said replies) (map said new_replies)
  one_kept said replies new_replies y reply more answers =
      marked is_marked (Ok (y, said reply)) answers (inl (refl, ap (map said) more ∙ map-append said replies (reply ∷ [])))
