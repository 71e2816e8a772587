-- The theorems `EveryList` and `EveryMoment` of specs/Theorem.antt: by what holds of each call.
use mathlib.Core.Path.{◌≡◌, refl, sym, ap, subst, ◌∙◌}
use mathlib.Core.Bool.{Bool, true, false}
use mathlib.Core.List.{List}
use Prim.Native.Nat.{ℕ, ◌+◌}
use native.Mathlib.Omega.{arith}
use borrow.Author.Tests.{eqb-true}
use lib.Dec.{eqb}
use lib.ListN.{length}
use Rattle.listing.specs.Answers as listing
use Rattle.listing.specs.Listing.{listing_answer}
use Rattle.r8_core.specs.Cores.{fresh_core}
use Rattle.r8_core.specs.Numbers.{load_number, run_number, step_number, view_number}
use Rattle.r8_core.specs.Calls.{Answer, ran, viewed, refused, Reply}
use Rattle.r8_core.specs.Calls as core
use Rattle.r8_core.specs.declared.Core.{Core}
use Rattle.r8_core.specs.declared.End.{End}
use Rattle.r8_core.proofs.Refusals.{ready}
use Rattle.r8_core.proofs.Again.{run_passed}
use Rattle.plays.specs.Plays.{play, counted}
use Rattle.plays.proofs.Plays.{plays_agree, plays_counted}
use Rattle.machine.specs.Machine as machine
use Rattle.machine.specs.Machine.{Machine, cycles_of, fresh_machine, none_spent, loaded, loop_start, loop_of, ran_reply, stepped}
use Rattle.machine.specs.Theorem.{Call, reset, load, run, step, view, State, fresh_state, handed, reply_to, on_core, on_machine, Alike, counted_with, EveryList, EveryMoment}
use Rattle.machine.proofs.Runs.{log_grows}
use Rattle.machine.proofs.Relation.{Related, rest, seen}
use Rattle.machine.proofs.Calls.{call_same, visible_same}

-- how a core and its memory stand to the machine
pub record Joined (s : State) (m : Machine) : Type 0 where
  pub memory : s.memory ≡ m.memory
  pub related : Related s.core m

each : (call : Call) (s : State) (m : Machine) → Joined s m
    → ((on_core call s).0 ≡ (on_machine call m).0) × Joined (on_core call s).1 (on_machine call m).1
each call s m j =
    let same = call_same call s.core m j.related in
    subst
    (λ (memory : List ℕ). let r : Reply = reply_to call s.core memory in
    (r.answer ≡ (on_machine call m).0) × Joined (record { core = r.core; memory = r.memory }) (on_machine call m).1)
    (sym j.memory) (same.answer, record { memory = same.memory; related = same.related })

-- what a call answers as finished is what it adds to the log
record Counts (m : Machine) (r : Answer × Machine) : Type 0 where
  same : counted_with r.0 (length m.log) ≡ length r.1.log

unless_counts : (number : ℕ) (m : Machine) (r : Answer × Machine) → Counts m r → Counts m (machine.unless number m r)
unless_counts number m r e = by (eqb number 0) refl
  where
    by : (b : Bool) → eqb number 0 ≡ b → Counts m (machine.unless number m r)
    by true h = rw h e
    by false h = rw h (record { same = refl })

load_counts : (a : listing.Answer) (n : ℕ) → counted_with (core.load_answer a) n ≡ n
load_counts (listing.stored count) n = refl
load_counts (listing.refused number offset) n = refl

counts : (call : Call) (m : Machine) → Counts m (on_machine call m)
unfolding machine.reset machine.load machine.run machine.step machine.view
counts reset m = record { same = refl }
counts (load text) m =
    unless_counts (load_number (length m.memory) (none_spent m)) m (loaded text m)
    (record { same = load_counts (listing_answer text (length m.memory)) (length m.log) })
counts (run b) m =
    unless_counts (run_number (length m.memory) m.visible.stop true m.clock b) m (ran_reply b m.clock (loop_of b m))
    (record { same = omega (arith, log_grows (m.spent + b) (loop_start b m)) })
counts step m =
    unless_counts (step_number (length m.memory) m.visible.stop (none_spent m) m.clock) m (stepped m)
    (record { same = omega arith })
counts view m =
    unless_counts (view_number (none_spent m)) m (viewed m.visible (m.spent + 1) m.clock, m) (record { same = refl })

-- answers alike and what is left, of every list
played : (memory : List ℕ) (calls : List Call)
    → ((play on_core calls (fresh_state memory)).0 ≡ (play on_machine calls (fresh_machine memory)).0)
    × Joined (play on_core calls (fresh_state memory)).1 (play on_machine calls (fresh_machine memory)).1
unfolding cycles_of
played memory calls =
    plays_agree Call State Machine Answer on_core on_machine Joined each calls (fresh_state memory) (fresh_machine memory)
    (record { memory = refl; related = rest fresh_core (fresh_machine memory) refl refl refl refl refl })

-- what is joined is alike
alike : {s : State} {m : Machine} → Joined s m → Alike s m
alike j =
    let r = j.related in
    let s = seen r in
    record {
      memory = j.memory;
      clock = s.clock;
      stop = s.stop;
      due = s.due;
      spent = s.spent;
      at_most_three = let few = s.few in omega arith;
      visible = visible_same r;
      total = s.clock ∙ sym r.total;
    }

pub every_list : EveryList
every_list memory calls =
    let both = played memory calls in
    record {
      answers = both.0;
      states = alike both.1;
      finished =
          ap (λ (answers : List Answer). counted counted_with answers 0) both.0
          ∙ plays_counted Call Machine Answer on_machine counted_with (λ m. length m.log) (λ call m. (counts call m).same) calls
          (fresh_machine memory);
    }

-- what answers as a run does is not refused
not_refused : (number : ℕ) (c : Core) (memory : List ℕ) (r : Reply) (used finished : ℕ) (end : End)
    → (core.unless number c memory r).answer ≡ ran used finished end → number ≡ 0
not_refused number c memory r used finished end e = by (eqb number 0) refl
  where
    by : (b : Bool) → eqb number 0 ≡ b → number ≡ 0
    by true h = eqb-true number 0 h
    by false h = let z : refused number ≡ ran used finished end = rw h at e in absurd (let n : ◌≡◌ {A = ℕ} 0 1 = cc in omega arith)

pub every_moment : EveryMoment
unfolding core.run
every_moment memory calls b i used finished end taken few =
    let s = (play on_core calls (fresh_state memory)).1 in
    let m = (play on_machine calls (fresh_machine memory)).1 in
    let r = ready _ _ _ _ _ (not_refused _ s.core s.memory _ used finished end taken) in
    let room = r.room in
    let own = run_passed i s.core s.memory r.size r.going r.due (omega arith) in
    subst (λ (x : Reply). Alike (handed x).1 (on_machine (run i) m).1) own (alike (each (run i) s m (played memory calls).1).1)
