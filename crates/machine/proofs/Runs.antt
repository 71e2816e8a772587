-- A run of the datapath and the loop of the instruction machine, from the start of an instruction on.
use mathlib.Core.Path.{◌≡◌, refl, sym, ap, subst, ◌∙◌}
use mathlib.Core.Bool.{Bool, true, false, cond}
use mathlib.Core.List.{List, ◌∷◌}
use Prim.Native.Nat.{ℕ, zero, suc, ◌+◌, ◌-◌, ◌≤◌, ◌<◌}
use native.Mathlib.Omega.{arith}
use native.Mathlib.Nat.{add-zero, add_assoc}
use borrow.Author.Tests.{leb-true, leb-false, le-leb}
use lib.Dec.{leb}
use lib.ListN.{length}
use Rattle.effects.specs.declared.Stop.{Stop}
use Rattle.effects.specs.declared.Stop.TheVariants.{Going, Halted, Undefined}
use Rattle.r8_core.specs.Cores.{visible_of}
use Rattle.r8_core.specs.Spent.{due_one}
use Rattle.r8_core.specs.Instruction.{takes}
use Rattle.r8_core.specs.Numbers.{is_going}
use Rattle.r8_core.specs.Progress.{Progress, starting, cycles_on}
use Rattle.r8_core.specs.declared.Core.{Core}
use Rattle.r8_core.proofs.Cycles.{only_going, no_cycle, none_more, cycles_add, counted, cycles_counted, cost_range}
use Rattle.r8_core.proofs.OneInstruction.{Finished, one_finished, one_instruction}
use Rattle.machine.specs.Machine.{Logged, cycles_of, Loop, goes_on, logged, after_one, looped, used, spent_after}

-- the cost of the instruction at the start of which p is
abbrev cost_now : Progress → ℕ
cost_now p = takes p.memory (visible_of p.core)

-- the loop at the start of an instruction of p
abbrev pub loop_at : Progress → ℕ → ℕ → List Logged → Loop
loop_at p t n log = record { visible = visible_of p.core; memory = p.memory; t = t; finished = n; log = log }

-- where the cycles end: from p and x on, at q and y. `start` is the core at the start of the instruction that is unfinished, if one is
pub record Arrived (p q : Progress) (x y : Loop) : Type 0 where
  pub start : Core
  pub due : due_one start ≡ true
  pub visible : visible_of start ≡ y.visible
  pub memory : q.memory ≡ y.memory
  pub core : q.core ≡ (cycles_on (spent_after y.visible.stop y.t) (starting start y.memory)).core
  pub within : is_going y.visible.stop ≡ true → y.t < takes y.memory y.visible
  pub less : y.t ≤ x.t
  pub clock : start.clock.0 + y.t ≡ p.core.clock.0 + x.t
  pub used : q.used ≡ p.used + used y.visible.stop x.t y.t
  pub finished : q.finished + x.finished ≡ p.finished + y.finished
  pub total : cycles_of y.log + y.t ≡ cycles_of x.log + x.t

pub spent_going : (s : Stop) (t : ℕ) → is_going s ≡ true → spent_after s t ≡ t
spent_going Going t e = refl
spent_going Halted t e = cc
spent_going Undefined t e = cc

pub spent_stopped : (s : Stop) (t : ℕ) → is_going s ≡ false → spent_after s t ≡ 0
spent_stopped Going t e = cc
spent_stopped Halted t e = refl
spent_stopped Undefined t e = refl

used_going : (s : Stop) (b t : ℕ) → is_going s ≡ true → used s b t ≡ b
used_going Going b t e = refl
used_going Halted b t e = cc
used_going Undefined b t e = cc

used_stopped : (s : Stop) (b t : ℕ) → is_going s ≡ false → used s b t ≡ b - t
used_stopped Going b t e = cc
used_stopped Halted b t e = refl
used_stopped Undefined b t e = refl

-- what was counted before has no part in the core
pub from_nothing : (n : ℕ) (p : Progress) → (cycles_on n p).core ≡ (cycles_on n (starting p.core p.memory)).core
from_nothing n p =
    let u = add-zero p.used in
    let f = add-zero p.finished in
    let same : counted p.used p.finished (starting p.core p.memory) ≡ p =
    λ j. record { core = p.core; memory = p.memory; used = u j; finished = f j } in
    ap (λ (q : Progress). (cycles_on n q).core) (sym same)
    ∙ ap (λ (q : Progress). q.core) (cycles_counted n p.used p.finished (starting p.core p.memory))

-- the loop ends where the core is stopped
ends_stopped : (t n : ℕ) (log : List Logged) (p : Progress) → due_one p.core ≡ true → is_going p.core.stop ≡ false
    → Arrived p (cycles_on t p) (loop_at p t n log) (loop_at p t n log)
ends_stopped t n log p d e =
    let stays = none_more t p e in
    record {
      start = p.core;
      due = d;
      visible = refl;
      memory = ap (λ (q : Progress). q.memory) stays;
      core =
          ap (λ (q : Progress). q.core) stays
          ∙ sym
          (ap (λ (n : ℕ). (cycles_on n (starting p.core p.memory)).core) (spent_stopped p.core.stop t e)
          ∙ ap (λ (q : Progress). q.core) (no_cycle (starting p.core p.memory)));
      within = λ g. absurd (let z : ◌≡◌ {A = ℕ} 0 1 = cc in omega arith);
      less = omega arith;
      clock = refl;
      used = ap (λ (q : Progress). q.used) stays ∙ rw (used_stopped p.core.stop t t e) (omega arith);
      finished = ap (λ (q : Progress). q.finished + n) stays;
      total = refl;
    }

-- or where the next instruction costs more than is left
ends_within : (t n : ℕ) (log : List Logged) (p : Progress) → due_one p.core ≡ true → is_going p.core.stop ≡ true
    → t < takes p.memory (visible_of p.core) → Arrived p (cycles_on t p) (loop_at p t n log) (loop_at p t n log)
ends_within t n log p d g l =
    let mid = (one_instruction p (only_going p.core.stop g) d).0 t l in
    record {
      start = p.core;
      due = d;
      visible = refl;
      memory = mid.memory;
      core = from_nothing t p ∙ sym (ap (λ (n : ℕ). (cycles_on n (starting p.core p.memory)).core) (spent_going p.core.stop t g));
      within = λ _. l;
      less = omega arith;
      clock = refl;
      used = mid.used ∙ ap (λ (n : ℕ). p.used + n) (sym (used_going p.core.stop t t g));
      finished = ap (λ (k : ℕ). k + n) mid.finished;
      total = refl;
    }

used_more : (s : Stop) (c t y : ℕ) → y ≤ t → c + used s t y ≡ used s (c + t) y
used_more Going c t y l = refl
used_more Halted c t y l = omega arith
used_more Undefined c t y l = omega arith

-- the instruction that the loop has come to, as one executed
abbrev here : Progress → Logged
here p = logged p.memory (visible_of p.core)

-- an instruction before: from the start of the next to the start of this one
one_before : (t t' n : ℕ) (log : List Logged) (p p' q : Progress) (y : Loop) → Finished p p'
    → t ≡ takes p.memory (visible_of p.core) + t'
    → Arrived p' q (loop_at p' t' (n + 1) (here p ∷ log)) y → Arrived p q (loop_at p t n log) y
unfolding cycles_of takes
one_before t t' n log p p' q y f e a =
    let c = takes p.memory (visible_of p.core) in
    let s = y.visible.stop in
    record {
      start = a.start;
      due = a.due;
      visible = a.visible;
      memory = a.memory;
      core = a.core;
      within = a.within;
      less = omega (arith, a.less);
      clock = omega (arith, a.clock, f.clock);
      used =
          a.used ∙ ap (λ (n : ℕ). n + used s t' y.t) f.used ∙ add_assoc p.used c (used s t' y.t)
          ∙ ap (λ (n : ℕ). p.used + n) (used_more s c t' y.t a.less ∙ ap (λ (n : ℕ). used s n y.t) (sym e));
      finished = omega (arith, a.finished, f.finished);
      total = omega (arith, a.total);
    }

-- an instruction executed
next : (t n : ℕ) (log : List Logged) (p p' : Progress) → Finished p p'
    → after_one (loop_at p t n log) ≡ loop_at p' (t - takes p.memory (visible_of p.core)) (n + 1) (here p ∷ log)
next t n log p p' f =
    let visible = sym f.visible in
    let memory = sym f.memory in
    λ j. record {
      visible = visible j;
      memory = memory j;
      t = t - takes p.memory (visible_of p.core);
      finished = n + 1;
      log = here p ∷ log;
    }

last_turn : (n : ℕ) (x : Loop) → goes_on x ≡ false → looped n x ≡ x
unfolding looped
last_turn zero x e = refl
last_turn (suc n) x e = rw e

one_turn : (n : ℕ) (x : Loop) → goes_on x ≡ true → looped (suc n) x ≡ looped n (after_one x)
unfolding looped
one_turn n x e = rw e

-- where it ends it has arrived; what is left is where it goes on
arrives_if : (fuel t n : ℕ) (log : List Logged) (p : Progress) → due_one p.core ≡ true
    → (is_going p.core.stop ≡ true → cost_now p ≤ t
    → Arrived p (cycles_on t p) (loop_at p t n log) (looped fuel (loop_at p t n log)))
    → Arrived p (cycles_on t p) (loop_at p t n log) (looped fuel (loop_at p t n log))
arrives_if fuel t n log p d go = by (is_going p.core.stop) refl (leb (cost_now p) t) refl
  where
    by : (g : Bool) → is_going p.core.stop ≡ g → (l : Bool) → leb (cost_now p) t ≡ l
        → Arrived p (cycles_on t p) (loop_at p t n log) (looped fuel (loop_at p t n log))
    by true g true l = go g (leb-true (cost_now p) t l)
    by true g false l =
        subst (Arrived p (cycles_on t p) (loop_at p t n log)) (sym (last_turn fuel (loop_at p t n log) (λ j. cond (g j) (l j) false)))
        (ends_within t n log p d g (leb-false (cost_now p) t l))
    by false g l m =
        subst (Arrived p (cycles_on t p) (loop_at p t n log)) (sym (last_turn fuel (loop_at p t n log) (λ j. cond (g j) (leb (cost_now p) t) false)))
        (ends_stopped t n log p d g)

-- the loop, from every instruction's start
pub arrives : (fuel t n : ℕ) (log : List Logged) (p : Progress) → due_one p.core ≡ true → t ≤ fuel
    → Arrived p (cycles_on t p) (loop_at p t n log) (looped fuel (loop_at p t n log))
arrives zero t n log p d l =
    arrives_if zero t n log p d (λ g m. absurd (omega (arith, (cost_range p.memory (visible_of p.core)).0)))
arrives (suc fuel) t n log p d l = arrives_if (suc fuel) t n log p d (λ g m. on g m (arrives fuel))
  where
    on : is_going p.core.stop ≡ true → cost_now p ≤ t
        → ((t n : ℕ) (log : List Logged) (p : Progress) → due_one p.core ≡ true → t ≤ fuel
        → Arrived p (cycles_on t p) (loop_at p t n log) (looped fuel (loop_at p t n log)))
        → Arrived p (cycles_on t p) (loop_at p t n log) (looped (suc fuel) (loop_at p t n log))
    on g m ih =
        let f = one_finished p (only_going p.core.stop g) d in
        let c = cost_now p in
        let enough = le-leb c t m in
        let x = loop_at p t n log in
        let p' = cycles_on c p in
        let e : t ≡ c + (t - c) = omega arith in
        let q : cycles_on t p ≡ cycles_on (t - c) p' = ap (λ (t : ℕ). cycles_on t p) e ∙ cycles_add c (t - c) p in
        let y : looped (suc fuel) x ≡ looped fuel (loop_at p' (t - c) (n + 1) (here p ∷ log)) =
        one_turn fuel x (λ j. cond (g j) (enough j) false) ∙ ap (looped fuel) (next t n log p p' f) in
        rw (q, y)
        (one_before t (t - c) n log p p' (cycles_on (t - c) p') (looped fuel (loop_at p' (t - c) (n + 1) (here p ∷ log))) f e
        (ih (t - c) (n + 1) (here p ∷ log) p' f.due (omega (arith, (cost_range p.memory (visible_of p.core)).0))))

-- the log grows by what is counted as finished
pub log_grows : (n : ℕ) (x : Loop) → length (looped n x).log + x.finished ≡ length x.log + (looped n x).finished
unfolding looped
log_grows zero x = refl
log_grows (suc n) x = by (goes_on x) refl (log_grows n (after_one x))
  where
    by : (b : Bool) → goes_on x ≡ b → length (looped n (after_one x)).log + (x.finished + 1) ≡ suc (length x.log) + (looped n (after_one x)).finished
        → length (looped (suc n) x).log + x.finished ≡ length x.log + (looped (suc n) x).finished
    by true g more = rw g (omega arith)
    by false g more = rw g refl
