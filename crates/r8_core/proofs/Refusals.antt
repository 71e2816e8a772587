-- The theorems `NumbersExactly` and `RefusalsUnchanged` of specs/TheoremsOfCalls.antt: the tests of each number mean what the theorem says,
-- and a reply is a refusal exactly where a number applies.
use mathlib.Core.Path.{◌≡◌, refl, sym, ap, ◌∙◌}
use mathlib.Core.Logic.{◌↔◌, ◌⊎◌, inl, inr}
use mathlib.Core.Bool.{Bool, true, false, not, cond}
use mathlib.Core.List.{List, [], ◌∷◌}
use Prim.Native.Nat.{ℕ, ◌+◌, ◌≤◌, ◌<◌}
use native.Mathlib.Omega.{arith}
use borrow.Author.Tests.{ltb-true, ltb-false, leb-true, leb-false, eqb-true, eqb-false, lt-ltb, not-true, not-false}
use lib.Dec.{eqb, leb}
use lib.ListN.{length}
use Rattle.refusals.specs.Refusals.{wrong_length}
use Rattle.refusals.specs.Theorems.{Means, MeanAll}
use Rattle.refusals.proofs.First.{clash, no_more, more, first_exactly, none_applies, length_exactly}
use Rattle.listing.specs.Answers as listing
use Rattle.listing.specs.Listing.{listing_answer}
use Rattle.listing.proofs.Theorems.{refused_unchanged as listing-unchanged}
use Rattle.effects.specs.declared.Stop.{Stop}
use Rattle.effects.specs.declared.Stop.TheVariants.{Going, Halted, Undefined}
use Rattle.r8_core.specs.Spent.{due_one, due_in_range}
use Rattle.r8_core.specs.Numbers.{is_going, clock_full, load_number, run_number, step_number, view_number}
use Rattle.r8_core.specs.Progress.{starting, cycles_on}
use Rattle.r8_core.specs.Calls.{Answer, refused_at, ran, viewed, refused, Reply, unless, load_answer, loaded_reply, viewed_reply, ran_reply, stepped_reply, reset, load, view, run, step}
use Rattle.r8_core.specs.TheoremsOfCalls.{load_numbers, run_numbers, step_numbers, view_numbers, NumbersExactly, RefusalsUnchanged}
use Rattle.r8_core.specs.Cores.{Visible, visible_of}
use Rattle.r8_core.specs.Instruction.{takes, step_transition}
use Rattle.r8_core.specs.declared.Core.{Core}
use Rattle.r8_core.specs.declared.End.{End}
use Rattle.r8_core.proofs.Spent.{due_when_one, one_when_due}

-- a run that no number refuses, or a step with 4 for b
pub record Ready (L : ℕ) (stop : Stop) (due_right : Bool) (clock b : ℕ) : Type 0 where
  pub size : wrong_length L ≡ false
  pub going : is_going stop ≡ true
  pub due : due_right ≡ true
  pub room : clock + b ≤ 4294967295

pub ready : (L : ℕ) (stop : Stop) (due_right : Bool) (clock b : ℕ) → run_number L stop due_right clock b ≡ 0
    → Ready L stop due_right clock b
unfolding run_number
ready L stop due_right clock b e =
    let size = none_applies 0 (wrong_length L) _ e in
    let going = none_applies 7 (not (is_going stop)) _ size.1 in
    let due = none_applies 6 (not due_right) _ going.1 in
    let room = none_applies 8 (clock_full clock b) _ due.1 in
    record {
      size = size.0;
      going = not-false (is_going stop) going.0;
      due = not-false due_right due.0;
      room = ltb-false 4294967295 (clock + b) room.0;
    }

-- what the tests mean
stop_means : (s : Stop) → Means (not (is_going s)) (s ≡ Going → ⊥)
stop_means Going = (λ e. absurd (clash e refl), λ e n. n refl)
stop_means Halted = (λ e g. let z : ◌≡◌ {A = ℕ} 0 1 = cc in omega arith, λ e. absurd (clash refl e))
stop_means Undefined = (λ e g. let z : ◌≡◌ {A = ℕ} 0 1 = cc in omega arith, λ e. absurd (clash refl e))

one_means : (core : Core) → Means (not (due_one core)) (core.due ≡ 1 → ⊥)
one_means core = (
  λ e d. clash (one_when_due core d) (not-true (due_one core) e),
  λ e n. n (due_when_one core (not-false (due_one core) e)),
)

clock_means : (clock b : ℕ) → Means (clock_full clock b) (4294967295 < clock + b)
clock_means clock b = (λ e. ltb-true 4294967295 (clock + b) e, λ e l. clash (lt-ltb 4294967295 (clock + b) l) e)

range_by : (due : ℕ) (low high : Bool) → leb 1 due ≡ low → leb due 4 ≡ high
    → Means (not (cond low high false)) ((due < 1) ⊎ (4 < due))
range_by due false high l h = (λ _. inl (leb-false 1 due l), λ e. absurd (clash refl e))
range_by due true false l h = (λ _. inr (leb-false due 4 h), λ e. absurd (clash refl e))
range_by due true true l h = (λ e. absurd (clash e refl), λ _. no)
  where
    no : (due < 1) ⊎ (4 < due) → ⊥
    no (inl z) = let a = leb-true 1 due l in omega arith
    no (inr z) = let a = leb-true due 4 h in omega arith

range_means : (core : Core) → Means (not (due_in_range core)) ((core.due < 1) ⊎ (4 < core.due))
range_means core = range_by core.due (leb 1 core.due) (leb core.due 4) refl refl

-- a reply is a refusal exactly where the number is one
Never : ℕ → Answer → Type 0
Never n answer = answer ≡ refused n → ⊥

refusal : (n number : ℕ) (core : Core) (memory : List ℕ) (taken : Reply) → Never n taken.answer
    → ((unless number core memory taken).answer ≡ refused n) ↔ ((number ≡ n) × (n ≡ 0 → ⊥))
unfolding Never
refusal n number core memory taken never = by (eqb number 0) refl
  where
    by : (b : Bool) → eqb number 0 ≡ b
        → ((unless number core memory taken).answer ≡ refused n) ↔ ((number ≡ n) × (n ≡ 0 → ⊥))
    by true h = rw h (λ e. absurd (never e), λ e. absurd (e.1 (sym e.0 ∙ eqb-true number 0 h)))
    by false h = rw h (λ e. let same : number ≡ n = cc in (same, λ z. eqb-false number 0 h (same ∙ z)), λ e. ap refused e.0)

unchanged : (n number : ℕ) (core : Core) (memory : List ℕ) (taken : Reply) → Never n taken.answer
    → (unless number core memory taken).answer ≡ refused n
    → ((unless number core memory taken).core ≡ core) × ((unless number core memory taken).memory ≡ memory)
unfolding Never
unchanged n number core memory taken never = by (eqb number 0) refl
  where
    by : (b : Bool) → eqb number 0 ≡ b → (unless number core memory taken).answer ≡ refused n
        → ((unless number core memory taken).core ≡ core) × ((unless number core memory taken).memory ≡ memory)
    by true h = rw h (λ e. absurd (never e))
    by false h = rw h (λ e. (refl, refl))

load_never : (n : ℕ) (answer : listing.Answer) → Never n (load_answer answer)
unfolding Never
load_never n (listing.stored count) e = let z : ◌≡◌ {A = ℕ} 0 1 = cc in omega arith
load_never n (listing.refused number offset) e = let z : ◌≡◌ {A = ℕ} 0 1 = cc in omega arith

ran_never : (n used finished : ℕ) (end : End) → Never n (ran used finished end)
unfolding Never
ran_never n used finished end e = let z : ◌≡◌ {A = ℕ} 0 1 = cc in omega arith

viewed_never : (n : ℕ) (v : Visible) (due clock : ℕ) → Never n (viewed v due clock)
unfolding Never
viewed_never n v due clock e = let z : ◌≡◌ {A = ℕ} 0 1 = cc in omega arith

both : {A B C : Type 0} → A ↔ B → B ↔ C → A ↔ C
both p q = (λ a. q.0 (p.0 a), λ c. p.1 (q.1 c))

-- the tests of each call, in their order
module _ (core : Core) (memory : List ℕ) where
  pub load_mean : MeanAll ((1, wrong_length (length memory)) ∷ (7, not (due_one core)) ∷ []) (load_numbers core memory)
  load_mean = more 1 _ _ _ _ (λ e. omega arith) (length_exactly (length memory)) (more 7 _ _ _ _ (λ e. omega arith) (one_means core) no_more)

  pub run_mean : (b : ℕ)
      → MeanAll
      ((1, wrong_length (length memory))
      ∷ (8, not (is_going core.stop))
      ∷ (7, not (due_in_range core))
      ∷ (9, clock_full core.clock.0 b)
      ∷ [])
      (run_numbers b core memory)
  run_mean b =
      more 1 _ _ _ _ (λ e. omega arith) (length_exactly (length memory))
      (more 8 _ _ _ _ (λ e. omega arith) (stop_means core.stop)
      (more 7 _ _ _ _ (λ e. omega arith) (range_means core)
      (more 9 _ _ _ _ (λ e. omega arith) (clock_means core.clock.0 b) no_more)))

  pub step_mean : MeanAll
      ((1, wrong_length (length memory))
      ∷ (8, not (is_going core.stop))
      ∷ (7, not (due_one core))
      ∷ (9, clock_full core.clock.0 4)
      ∷ [])
      (step_numbers core memory)
  step_mean =
      more 1 _ _ _ _ (λ e. omega arith) (length_exactly (length memory))
      (more 8 _ _ _ _ (λ e. omega arith) (stop_means core.stop)
      (more 7 _ _ _ _ (λ e. omega arith) (one_means core)
      (more 9 _ _ _ _ (λ e. omega arith) (clock_means core.clock.0 4) no_more)))

  pub view_mean : MeanAll ((7, not (due_one core)) ∷ []) (view_numbers core)
  view_mean = more 7 _ _ _ _ (λ e. omega arith) (one_means core) no_more

pub numbers_exactly : NumbersExactly
unfolding load_number run_number step_number view_number load run step view reset
numbers_exactly core memory n b text = (
  both (refusal n _ core memory _ (load_never n (listing_answer text (length memory)))) (first_exactly _ _ (load_mean core memory) n),
  both (refusal n _ core memory _ (ran_never n _ _ _)) (first_exactly _ _ (run_mean core memory b) n),
  both (refusal n _ core memory _ (ran_never n _ _ _)) (first_exactly _ _ (step_mean core memory) n),
  both (refusal n _ core memory _ (viewed_never n _ _ _)) (first_exactly _ _ (view_mean core memory) n),
  λ e. let z : ◌≡◌ {A = ℕ} 0 1 = cc in omega arith,
)

-- a load whose lines are refused
lines_refused : (n offset : ℕ) (answer : listing.Answer) → load_answer answer ≡ refused_at n offset → answer ≡ listing.refused n offset
lines_refused n offset (listing.stored count) e = absurd (let z : ◌≡◌ {A = ℕ} 0 1 = cc in omega arith)
lines_refused n offset (listing.refused number start) e =
    let same : number ≡ n = cc in
    let place : start ≡ offset = cc in
    λ j. listing.refused (same j) (place j)

load_unchanged : (core : Core) (memory : List ℕ) (n offset : ℕ) (text : List ℕ) (number : ℕ)
    → (unless number core memory (loaded_reply text core memory)).answer ≡ refused_at n offset
    → ((unless number core memory (loaded_reply text core memory)).core ≡ core)
    × ((unless number core memory (loaded_reply text core memory)).memory ≡ memory)
load_unchanged core memory n offset text number = by (eqb number 0) refl
  where
    by : (b : Bool) → eqb number 0 ≡ b
        → (unless number core memory (loaded_reply text core memory)).answer ≡ refused_at n offset
        → ((unless number core memory (loaded_reply text core memory)).core ≡ core)
        × ((unless number core memory (loaded_reply text core memory)).memory ≡ memory)
    by true h =
        rw h (λ e. (refl, listing-unchanged text memory n offset (lines_refused n offset (listing_answer text (length memory)) e)))
    by false h = rw h (λ e. absurd (let z : ◌≡◌ {A = ℕ} 0 1 = cc in omega arith))

pub refusals_unchanged : RefusalsUnchanged
unfolding load run step view
refusals_unchanged core memory n offset b text = (
  unchanged n (load_number (length memory) (due_one core)) core memory (loaded_reply text core memory)
      (load_never n (listing_answer text (length memory))),
  load_unchanged core memory n offset text (load_number (length memory) (due_one core)),
  unchanged n (run_number (length memory) core.stop (due_in_range core) core.clock.0 b) core memory
      (ran_reply (cycles_on b (starting core memory))) (ran_never n _ _ _),
  unchanged n (step_number (length memory) core.stop (due_one core) core.clock.0) core memory
      (stepped_reply (takes memory (visible_of core)) (step_transition memory core) memory) (ran_never n _ _ _),
  unchanged n (view_number (due_one core)) core memory (viewed_reply core memory) (viewed_never n _ _ _),
)
