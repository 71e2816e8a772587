-- The theorem `OneInstruction` of specs/Theorems.antt: by the class of the instruction at PC, from `CyclesAgree` of `effects`.
use Rattle.std.specs.Prelude.{None}
use mathlib.Core.Path.{◌≡◌, refl, sym, ap, subst, ◌∙◌}
use mathlib.Core.Bool.{Bool, true, false}
use mathlib.Core.List.{List}
use Prim.Native.Nat.{ℕ, zero, suc, ◌+◌, ◌<◌, ◌≤◌}
use native.Mathlib.Omega.{arith}
use borrow.Author.Tests.{leb-true, lt-leb}
use lib.Dec.{leb}
use lib.ListN.{set}
use lib.Seq.{set-get_or}
use Rattle.isa.specs.Fields.{field_t, field_a, field_b}
use Rattle.isa.specs.Cost.{count_of, class_of, cost_of}
use Rattle.isa.specs.declared.Class.{Class}
use Rattle.isa.specs.declared.Class.TheVariants.{Stop, Short, Full}
use Rattle.isa.specs.declared.Kind.{Kind}
use Rattle.table.specs.Table.{kind_of}
use Rattle.words.specs.Arithmetic.{sum}
use Rattle.alu.specs.declared.Outcome.{Outcome}
use Rattle.effects.specs.Effect.{stopping, applied}
use Rattle.effects.specs.declared.Effect.{Effect}
use Rattle.effects.specs.Hidden.{with_ir, with_ra_rb, with_ralu}
use Rattle.effects.specs.Cycles.{stop_of, unless_stopping}
use Rattle.effects.specs.declared.Hidden.{Hidden}
use Rattle.effects.specs.Theorems.{AsCycles, Idle}
use Rattle.effects.proofs.Theorems.{cycles_agree, past_the_last}
use Rattle.effects.specs.declared.Stop as stop
use Rattle.effects.specs.declared.Stop.TheVariants.{Going, Halted, Undefined}
use Rattle.r8_core.specs.Cores.{with_pc, with_flags, with_hidden, with_due, stopped, with_clock, Visible, visible_of, visible, with_visible, register, ra_of, rb_of, effect_before, changed}
use Rattle.r8_core.specs.Spent.{due_one}
use Rattle.r8_core.specs.Datapath.{fetched, latched, second, third, fourth_effect, with_effect, ticked, transition, is_last, later_cycle, due_cycle}
use Rattle.r8_core.specs.Instruction.{word_due, past, effect_of, after, memory_after, takes, result_of, core_after}
use Rattle.r8_core.specs.Numbers.{is_going}
use Rattle.r8_core.specs.Progress.{Progress, after_cycle, cycle_on, cycles_on, instruction_on}
use Rattle.r8_core.specs.Theorems.{Midway, OneInstruction}
use Rattle.r8_core.specs.declared.Core.{Core}
use Rattle.r8_core.proofs.Spent.{due_when_one}
use Rattle.r8_core.proofs.Cycles.{one_more, no_cycle}

-- q is past the instruction that starts at p, part by part
pub record Finished (p q : Progress) : Type 0 where
  pub visible : visible_of q.core ≡ after p.memory (visible_of p.core)
  pub memory : q.memory ≡ memory_after p.memory (visible_of p.core)
  pub due : due_one q.core ≡ true
  pub clock : q.core.clock.0 ≡ p.core.clock.0 + takes p.memory (visible_of p.core)
  pub used : q.used ≡ p.used + takes p.memory (visible_of p.core)
  pub finished : q.finished ≡ p.finished + 1

parts : (p q : Progress) → q ≡ instruction_on p → Finished p q
unfolding instruction_on core_after
parts p q e =
    record {
      visible = ap (λ (q : Progress). visible_of q.core) e;
      memory = ap (λ (q : Progress). q.memory) e;
      due = ap (λ (q : Progress). due_one q.core) e;
      clock = ap (λ (q : Progress). q.core.clock.0) e;
      used = ap (λ (q : Progress). q.used) e;
      finished = ap (λ (q : Progress). q.finished) e;
    }

-- a core at the start of an instruction, with cycle 1 due and going written out
abbrev ready : Core → Core
ready c = with_due 1 (stopped Going c)

is_ready : (c : Core) → c.stop ≡ Going → due_one c ≡ true → c ≡ ready c
is_ready c g d = let due = due_when_one c d in λ j. with_due (due j) (stopped (g j) c)

second_stops : (s : stop.Stop) (k : Kind) (c : Core) → (s ≡ Going → ⊥) → second s k c ≡ stopped s c
second_stops Going k c n = absurd (n refl)
second_stops Halted k c n = refl
second_stops Undefined k c n = refl

second_latches : (s : stop.Stop) (k : Kind) (c : Core) → s ≡ Going → second s k c ≡ latched k c
second_latches Going k c e = refl
second_latches Halted k c e = cc
second_latches Undefined k c e = cc

-- RA and RB, by whether cycle 2 stops the core
keeps : (s : stop.Stop) (new old : ℕ) → (s ≡ Going → ⊥) → old ≡ unless_stopping s new old
keeps Going new old n = absurd (n refl)
keeps Halted new old n = refl
keeps Undefined new old n = refl

latches : (s : stop.Stop) (new old : ℕ) → s ≡ Going → new ≡ unless_stopping s new old
latches Going new old e = refl
latches Halted new old e = cc
latches Undefined new old e = cc

-- the word at PC, its kind, what the instruction sees, and the core after each cycle but the last
abbrev word : List ℕ → Core → ℕ
word M c = word_due M (visible_of (ready c))

abbrev kind : List ℕ → Core → Kind
kind M c = kind_of (word M c)

abbrev after1 : List ℕ → Core → Core
after1 M c = ticked false (fetched M (ready c))

abbrev after2 : List ℕ → Core → Core
after2 M c = ticked false (latched (kind M c) (after1 M c))

abbrev after3 : List ℕ → Core → Core
after3 M c = ticked false (third (kind M c) (after2 M c))

abbrev at : Core → List ℕ → ℕ → ℕ → Progress
at c M used finished = record { core = c; memory = M; used = used; finished = finished }

-- the hidden registers with the word in IR; and RA and RB latched
abbrev holding : List ℕ → Core → Hidden
holding M c = with_ir (word M c) c.hidden

abbrev holds : List ℕ → Core → Hidden
holds M c = with_ra_rb (ra_of (word M c) c.regs) (rb_of (kind M c) (word M c) c.regs) (holding M c)

-- the instruction by the table, and cycles 2 to 4, by its class
abbrev Classes : Class → List ℕ → Core → Type 0
Classes class M c =
    AsCycles class (kind M c) (holds M c) M (effect_before (word M c) (past (visible_of (ready c)))) (effect_of (word M c) M (visible_of (ready c)))

classes : (M : List ℕ) (c : Core) → Classes (class_of (kind M c) c.flags) M c
classes M c =
    cycles_agree (kind M c) (field_t (word M c)) (field_a (word M c)) (field_b (word M c)) (register c.regs) M (holding M c)
    (effect_before (word M c) (past (visible_of (ready c)))) refl

-- a HALT or undefined word leaves RALU
ralu_stays : (M : List ℕ) (c : Core) → class_of (kind M c) c.flags ≡ Stop → c.hidden.ralu ≡ result_of (word M c) (ready c)
ralu_stays M c e =
    let x = effect_before (word M c) (past (visible_of (ready c))) in
    let idle : Idle Stop (kind M c) (holds M c) M x =
    subst (λ (class : Class). Idle class (kind M c) (holds M c) M x) e (past_the_last (kind M c) (holds M c) M x) in
    sym (ap (λ (outcome : Outcome). outcome.value) idle.0)

module _ (M : List ℕ) (c : Core) (u f : ℕ) where
  advance1 : cycle_on (at (ready c) M u f) ≡ at (after1 M c) M (u + 1) (f + 0)
  unfolding cycle_on due_cycle
  advance1 = refl

  advance2 : (last : Bool) (next : Core)
      → is_last (kind M c) (after1 M c) ≡ last → second (stop_of (kind M c)) (kind M c) (after1 M c) ≡ next
      → cycle_on (at (after1 M c) M u f) ≡ after_cycle (transition last next None) (at (after1 M c) M u f)
  unfolding cycle_on due_cycle later_cycle
  advance2 last next e n = λ j. after_cycle (transition (e j) (n j) None) (at (after1 M c) M u f)

  advance3 : (last : Bool) → is_last (kind M c) (after2 M c) ≡ last
      → cycle_on (at (after2 M c) M u f) ≡ after_cycle (transition last (third (kind M c) (after2 M c)) None) (at (after2 M c) M u f)
  unfolding cycle_on due_cycle later_cycle
  advance3 last e = λ j. after_cycle (transition (e j) (third (kind M c) (after2 M c)) None) (at (after2 M c) M u f)

  advance4 : is_last (kind M c) (after3 M c) ≡ true
      → cycle_on (at (after3 M c) M u f)
      ≡ after_cycle
      (transition true (with_effect (fourth_effect (kind M c) M (after3 M c)) (after3 M c)) (fourth_effect (kind M c) M (after3 M c)).store)
      (at (after3 M c) M u f)
  unfolding cycle_on due_cycle later_cycle
  advance4 e =
      λ j. after_cycle
      (transition (e j) (with_effect (fourth_effect (kind M c) M (after3 M c)) (after3 M c)) (fourth_effect (kind M c) M (after3 M c)).store)
      (at (after3 M c) M u f)

-- what the class says of the cost, and of the last cycle
cost_at : (M : List ℕ) (c : Core) (class : Class) → class_of (kind M c) c.flags ≡ class
    → takes M (visible_of (ready c)) ≡ count_of class
unfolding takes cost_of
cost_at M c class e = ap count_of e

last_by : (M : List ℕ) (c : Core) (class : Class) (due : ℕ) → class_of (kind M c) c.flags ≡ class
    → leb (cost_of (kind M c) c.flags) due ≡ leb (count_of class) due
unfolding cost_of
last_by M c class due e = ap (λ (class : Class). leb (count_of class) due) e

four_at_most : (class : Class) → leb (count_of class) 4 ≡ true
four_at_most Stop = refl
four_at_most Short = refl
four_at_most Full = refl

fourth_last : (M : List ℕ) (c : Core) → is_last (kind M c) (after3 M c) ≡ true
unfolding cost_of
fourth_last M c = four_at_most (class_of (kind M c) (after3 M c).flags)

-- a cycle, then others
then : (n : ℕ) (p q : Progress) → is_going p.core.stop ≡ true → cycle_on p ≡ q → cycles_on (suc n) p ≡ cycles_on n q
then n p q g e = one_more n p g ∙ ap (cycles_on n) e

below_four : (P : ℕ → Type 0) (n : ℕ) → n ≤ 4 → P 0 → P 1 → (2 < n → P 2) → (3 < n → P 3) → (i : ℕ) → i < n → P i
below_four P n h p0 p1 p2 p3 zero l = p0
below_four P n h p0 p1 p2 p3 (suc zero) l = p1
below_four P n h p0 p1 p2 p3 (suc (suc zero)) l = p2 l
below_four P n h p0 p1 p2 p3 (suc (suc (suc zero))) l = p3 l
below_four P n h p0 p1 p2 p3 (suc (suc (suc (suc i)))) l = absurd (omega arith)

module _ (M : List ℕ) (c : Core) (u f : ℕ) where
  one : (n : ℕ) → cycles_on (suc n) (at (ready c) M u f) ≡ cycles_on n (at (after1 M c) M (u + 1) (f + 0))
  one n = then n (at (ready c) M u f) (at (after1 M c) M (u + 1) (f + 0)) refl (advance1 M c u f)

  two : (n : ℕ) → stop_of (kind M c) ≡ Going → is_last (kind M c) (after1 M c) ≡ false
      → cycles_on (suc (suc n)) (at (ready c) M u f) ≡ cycles_on n (at (after2 M c) M (u + 1 + 1) (f + 0 + 0))
  two n s e =
      one (suc n)
      ∙ then n (at (after1 M c) M (u + 1) (f + 0)) (at (after2 M c) M (u + 1 + 1) (f + 0 + 0)) refl
      (advance2 M c (u + 1) (f + 0) false (latched (kind M c) (after1 M c)) e (second_latches _ (kind M c) (after1 M c) s))

  three : (n : ℕ) → stop_of (kind M c) ≡ Going → is_last (kind M c) (after1 M c) ≡ false → is_last (kind M c) (after2 M c) ≡ false
      → cycles_on (suc (suc (suc n))) (at (ready c) M u f) ≡ cycles_on n (at (after3 M c) M (u + 1 + 1 + 1) (f + 0 + 0 + 0))
  three n s e e' =
      two (suc n) s e
      ∙ then n (at (after2 M c) M (u + 1 + 1) (f + 0 + 0)) (at (after3 M c) M (u + 1 + 1 + 1) (f + 0 + 0 + 0)) refl
      (advance3 M c (u + 1 + 1) (f + 0 + 0) false e')

  mid0 : Midway 0 (at (ready c) M u f) (cycles_on 0 (at (ready c) M u f))
  mid0 = rw (no_cycle (at (ready c) M u f)) (record {
    memory = refl;
    going = refl;
    due = refl;
    spent = refl;
    clock = omega arith;
    used = omega arith;
    finished = refl;
    regs = refl;
    sp = refl;
    flags = λ _. refl;
    fetched = λ h. absurd (omega arith);
    latched = λ h. absurd (omega arith);
    early = λ _. (refl, refl);
    idle = λ _. refl;
    calculated = λ h. absurd (omega arith);
  })

  mid1 : Midway 1 (at (ready c) M u f) (cycles_on 1 (at (ready c) M u f))
  mid1 = rw (one 0 ∙ no_cycle _) (record {
    memory = refl;
    going = refl;
    due = refl;
    spent = refl;
    clock = refl;
    used = refl;
    finished = omega arith;
    regs = refl;
    sp = refl;
    flags = λ _. refl;
    fetched = λ _. (refl, refl);
    latched = λ h. absurd (omega arith);
    early = λ _. (refl, refl);
    idle = λ _. refl;
    calculated = λ h. absurd (omega arith);
  })

  mid2 : stop_of (kind M c) ≡ Going → is_last (kind M c) (after1 M c) ≡ false
      → Midway 2 (at (ready c) M u f) (cycles_on 2 (at (ready c) M u f))
  mid2 s e = rw (two 0 s e ∙ no_cycle _) (record {
    memory = refl;
    going = refl;
    due = refl;
    spent = refl;
    clock = omega arith;
    used = omega arith;
    finished = omega arith;
    regs = refl;
    sp = refl;
    flags = λ _. refl;
    fetched = λ _. (refl, refl);
    latched = λ _. (refl, refl);
    early = λ h. absurd (omega arith);
    idle = λ _. refl;
    calculated = λ h. absurd (omega arith);
  })

  mid3 : stop_of (kind M c) ≡ Going → is_last (kind M c) (after1 M c) ≡ false → is_last (kind M c) (after2 M c) ≡ false
      → Midway 3 (at (ready c) M u f) (cycles_on 3 (at (ready c) M u f))
  mid3 s e e' = rw (three 0 s e e' ∙ no_cycle _) (record {
    memory = refl;
    going = refl;
    due = refl;
    spent = refl;
    clock = omega arith;
    used = omega arith;
    finished = omega arith;
    regs = refl;
    sp = refl;
    flags = λ h. absurd (omega arith);
    fetched = λ _. (refl, refl);
    latched = λ _. (refl, refl);
    early = λ h. absurd (omega arith);
    idle = λ h. absurd (omega arith);
    calculated = λ _. (refl, refl);
  })

-- what the instruction leaves, by what it does
after_by : (M : List ℕ) (v : Visible) (effect : Effect) → effect_of (word_due M v) M v ≡ effect
    → after M v ≡ changed (word_due M v) effect v
unfolding after
after_by M v effect e = ap (λ (effect : Effect). changed (word_due M v) effect v) e

memory_by : (M : List ℕ) (v : Visible) (effect : Effect) → effect_of (word_due M v) M v ≡ effect
    → memory_after M v ≡ applied effect.store M
unfolding memory_after
memory_by M v effect e = ap (λ (effect : Effect). applied effect.store M) e

-- a register that takes what it holds
same_rt : (w : ℕ) (v : Visible) (effect : Effect) → effect.rt ≡ register v.regs (field_t w)
    → changed w effect v
    ≡ visible v.regs effect.pc effect.sp effect.flags effect.stop
same_rt w v effect e =
    let same = ap (set v.regs (field_t w)) e ∙ set-get_or v.regs (field_t w) 0 in
    λ j. visible (same j) effect.pc effect.sp effect.flags effect.stop

-- the cycles of an instruction come to what it leaves, all of it: by its class
module _ (M : List ℕ) (c : Core) (u f : ℕ) where
  stop_class : class_of (kind M c) c.flags ≡ Stop → Classes Stop M c
      → cycles_on (takes M (visible_of (ready c))) (at (ready c) M u f) ≡ instruction_on (at (ready c) M u f)
  unfolding instruction_on core_after
  stop_class e a =
      let cost = cost_at M c Stop e in
      let v = visible_of (ready c) in
      let stops = second_stops (stop_of (kind M c)) (kind M c) (after1 M c) a.0 in
      let seen = sym (after_by M v _ a.1 ∙ same_rt (word M c) v (stopping (stop_of (kind M c)) (effect_before (word M c) (past v))) refl) in
      let ra = keeps (stop_of (kind M c)) _ c.hidden.ra a.0 in
      let rb = keeps (stop_of (kind M c)) _ c.hidden.rb a.0 in
      let ralu = ralu_stays M c e in
      let memory = sym (memory_by M v _ a.1) in
      let clock : c.clock.0 + 1 + 1 ≡ c.clock.0 + takes M v = omega (arith, cost) in
      let used : u + 1 + 1 ≡ u + takes M v = omega (arith, cost) in
      let finished : f + 0 + 1 ≡ f + 1 = omega arith in
      ap (λ (n : ℕ). cycles_on n (at (ready c) M u f)) cost
      ∙ one M c u f 1
      ∙ then 0 (at (after1 M c) M (u + 1) (f + 0)) _ refl (advance2 M c (u + 1) (f + 0) true _ (last_by M c Stop 2 e) stops)
      ∙ no_cycle _
      ∙ (λ j. at (with_clock (clock j) (with_due 1 (with_hidden (with_ralu (ralu j) (with_ra_rb (ra j) (rb j) (holding M c))) (with_visible (seen j) c)))) (memory j) (used j) (finished j))

  short_class : class_of (kind M c) c.flags ≡ Short → Classes Short M c
      → cycles_on (takes M (visible_of (ready c))) (at (ready c) M u f) ≡ instruction_on (at (ready c) M u f)
  unfolding instruction_on core_after
  short_class e a =
      let cost = cost_at M c Short e in
      let v = visible_of (ready c) in
      let flags = a.1 in
      let seen =
      (λ j. visible_of (with_flags (flags j) (with_pc (sum c.pc 1) (ready c))))
      ∙ sym (after_by M v _ a.2 ∙ same_rt (word M c) v (effect_before (word M c) (past v)) refl) in
      let ra = latches (stop_of (kind M c)) _ c.hidden.ra a.0 in
      let rb = latches (stop_of (kind M c)) _ c.hidden.rb a.0 in
      let memory = sym (memory_by M v _ a.2) in
      let clock : c.clock.0 + 1 + 1 + 1 ≡ c.clock.0 + takes M v = omega (arith, cost) in
      let used : u + 1 + 1 + 1 ≡ u + takes M v = omega (arith, cost) in
      let finished : f + 0 + 0 + 1 ≡ f + 1 = omega arith in
      ap (λ (n : ℕ). cycles_on n (at (ready c) M u f)) cost
      ∙ two M c u f 1 a.0 (last_by M c Short 2 e)
      ∙ then 0 (at (after2 M c) M (u + 1 + 1) (f + 0 + 0)) _ refl (advance3 M c (u + 1 + 1) (f + 0 + 0) true (last_by M c Short 3 e))
      ∙ no_cycle _
      ∙ (λ j. at (with_clock (clock j) (with_due 1 (with_hidden (with_ralu (result_of (word M c) (ready c)) (with_ra_rb (ra j) (rb j) (holding M c))) (with_visible (seen j) c)))) (memory j) (used j) (finished j))

  full_class : class_of (kind M c) c.flags ≡ Full → Classes Full M c
      → cycles_on (takes M (visible_of (ready c))) (at (ready c) M u f) ≡ instruction_on (at (ready c) M u f)
  unfolding instruction_on core_after
  full_class e a =
      let cost = cost_at M c Full e in
      let v = visible_of (ready c) in
      let seen = sym (after_by M v _ a.1) in
      let ra = latches (stop_of (kind M c)) _ c.hidden.ra a.0 in
      let rb = latches (stop_of (kind M c)) _ c.hidden.rb a.0 in
      let memory = sym (memory_by M v _ a.1) in
      let clock : c.clock.0 + 1 + 1 + 1 + 1 ≡ c.clock.0 + takes M v = omega (arith, cost) in
      let used : u + 1 + 1 + 1 + 1 ≡ u + takes M v = omega (arith, cost) in
      let finished : f + 0 + 0 + 0 + 1 ≡ f + 1 = omega arith in
      ap (λ (n : ℕ). cycles_on n (at (ready c) M u f)) cost
      ∙ three M c u f 1 a.0 (last_by M c Full 2 e) (last_by M c Full 3 e)
      ∙ then 0 (at (after3 M c) M (u + 1 + 1 + 1) (f + 0 + 0 + 0)) _ refl (advance4 M c (u + 1 + 1 + 1) (f + 0 + 0 + 0) (fourth_last M c))
      ∙ no_cycle _
      ∙ (λ j. at (with_clock (clock j) (with_due 1 (with_hidden (with_ralu (result_of (word M c) (ready c)) (with_ra_rb (ra j) (rb j) (holding M c))) (with_visible (seen j) c)))) (memory j) (used j) (finished j))

-- the theorem of a progress whose core has 1 and going written out
abbrev Claim : Progress → Type 0
Claim p =
    ((i : ℕ) → i < takes p.memory (visible_of p.core) → Midway i p (cycles_on i p))
    × (cycles_on (takes p.memory (visible_of p.core)) p ≡ instruction_on p)

claim : (M : List ℕ) (c : Core) (u f : ℕ) → Claim (at (ready c) M u f)
claim M c u f = by (class_of (kind M c) c.flags) refl (classes M c)
  where
    middle : (class : Class) → class_of (kind M c) c.flags ≡ class → (2 < count_of class → stop_of (kind M c) ≡ Going)
        → (i : ℕ) → i < takes M (visible_of (ready c)) → Midway i (at (ready c) M u f) (cycles_on i (at (ready c) M u f))
    middle class e s =
        let cost = cost_at M c class e in
        let v = visible_of (ready c) in
        below_four (λ i. Midway i (at (ready c) M u f) (cycles_on i (at (ready c) M u f))) (takes M v)
        (rw cost (leb-true (count_of class) 4 (four_at_most class)))
        (mid0 M c u f)
        (mid1 M c u f)
        (λ l. let more : 2 < count_of class = rw cost at l in
        mid2 M c u f (s more) (last_by M c class 2 e ∙ lt-leb (count_of class) 2 more))
        (λ l. let more : 3 < count_of class = rw cost at l in
        let more' : 2 < count_of class = omega arith in
        mid3 M c u f (s more') (last_by M c class 2 e ∙ lt-leb (count_of class) 2 more')
        (last_by M c class 3 e ∙ lt-leb (count_of class) 3 more))

    by : (class : Class) → class_of (kind M c) c.flags ≡ class → Classes (class_of (kind M c) c.flags) M c
        → Claim (at (ready c) M u f)
    by Stop e a = let a' : Classes Stop M c = subst (λ (class : Class). Classes class M c) e a in (middle Stop e (λ l. absurd (omega arith)), stop_class M c u f e a')
    by Short e a = let a' : Classes Short M c = subst (λ (class : Class). Classes class M c) e a in (middle Short e (λ l. a'.0), short_class M c u f e a')
    by Full e a = let a' : Classes Full M c = subst (λ (class : Class). Classes class M c) e a in (middle Full e (λ l. a'.0), full_class M c u f e a')

by_parts : (p : Progress) → p.core.stop ≡ Going → due_one p.core ≡ true → Claim p
by_parts p g d =
    let e = ap (λ (c : Core). at c p.memory p.used p.finished) (is_ready p.core g d) in
    subst Claim (sym e) (claim p.memory p.core p.used p.finished)

pub one_instruction : OneInstruction
one_instruction p g d = by_parts p g d

pub one_finished : (p : Progress) → p.core.stop ≡ Going → due_one p.core ≡ true
    → Finished p (cycles_on (takes p.memory (visible_of p.core)) p)
one_finished p g d = parts p _ (by_parts p g d).1
