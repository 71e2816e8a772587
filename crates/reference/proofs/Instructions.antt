-- The page of the instructions: a step goes by the kind and the fields of the word at PC.
use Rattle.std.specs.Prelude.{None}
use mathlib.Core.Path.{◌≡◌, refl, sym, ap, ◌∙◌}
use mathlib.Core.Bool.{Bool, true, false, not}
use mathlib.Core.List.{List}
use Prim.Native.Nat.{ℕ, ◌+◌, ◌*◌, ◌/◌, ◌%◌, ◌≤◌, ◌<◌}
use native.Mathlib.Omega.{arith}
use native.Mathlib.Nat.{zero-add, add-zero}
use lib.Dec.{lit<, leb}
use lib.ListN.{length, set}
use lib.Seq.{set-get_or}
use borrow.Author.Tests.{le-ltb, ne_eqb}
use Rattle.words.specs.Memory.{word_at}
use Rattle.refusals.specs.Refusals.{wrong_length}
use Rattle.refusals.proofs.First.{passed, none_left}
use Rattle.words.specs.Arithmetic.{conjunction, disjunction, exclusive}
use Rattle.isa.specs.Fields as isa
use Rattle.isa.specs.Fields.{field_t, field_a, field_b}
use Rattle.isa.specs.Cost.{count_of, jump_class, cost_of}
use Rattle.isa.specs.declared.Kind.{Kind}
use Rattle.isa.specs.declared.Kind.TheVariants.{Undefined}
use Rattle.table.specs.Table.{table, kind_of}
use Rattle.alu.specs.Flags as alu
use Rattle.alu.specs.declared.Outcome.{Outcome}
use Rattle.effects.specs.Effect.{applied}
use Rattle.effects.specs.Table.{jumped, executed}
use Rattle.effects.specs.declared.Effect.{Effect}
use Rattle.effects.specs.declared.Stop as stop
use Rattle.effects.specs.declared.Stop.TheVariants.{Going}
use Rattle.r8_core.specs.Cores.{with_regs}
use Rattle.r8_core.specs.Spent.{due_one}
use Rattle.r8_core.specs.Instruction.{after, memory_after, takes, step_transition}
use Rattle.r8_core.specs.Numbers.{clock_full, run_number}
use Rattle.r8_core.specs.Calls.{ran, end_of, Reply, step}
use Rattle.r8_core.specs.declared.Core.{Core}
use Rattle.r8_core.specs.declared.End.TheVariants.{U}
use Rattle.r8_core.proofs.Spent.{one_when_due}
use Rattle.r8_core.proofs.Replies.{step_starts}
use Rattle.reference.specs.Notation.{word, k, d10, d12, ◌⊕◌, ◌⊖◌, all, added, subtracted, NZ, plain}
use Rattle.reference.specs.Instructions.{set_r, next, ending, R, PC, SP, jump, call, ◌⟹◌, InstructionsExactly, EveryWord}
use Rattle.reference.proofs.Fields as fields
use Rattle.reference.proofs.Fields.{kind_by}
use Rattle.reference.proofs.Overflow.{sum_overflows_lem, difference_overflows_lem}

module _ (c : Core) (M : List ℕ) (least : 1 ≤ length M) (most : length M ≤ 65536) (going : c.stop ≡ Going) (due : c.due ≡ 1)
    (room : c.clock.0 + 4 ≤ 4294967295) where
  -- what the table says of a kind, with the registers t, a, b, of a core with this stop state
  abbrev before : stop.Stop → ℕ → Effect
  before s t = record { rt = R c M t; pc = PC c M; sp = SP c M; flags = c.flags; stop = s; store = None }

  abbrev shown : ℕ → Effect → ℕ → Reply
  shown t x n =
      record {
        answer = ran n 1 (end_of x.stop true);
        core =
            record {
              regs = set c.regs t x.rt;
              pc = x.pc;
              sp = x.sp;
              flags = x.flags;
              hidden = record { ir = 0; ra = 0; rb = 0; ralu = 0 };
              due = 1;
              stop = x.stop;
              clock = record { 0 = c.clock.0 + n };
            };
        memory = applied x.store M;
      }

  abbrev step_on : stop.Stop → Kind → ℕ → ℕ → ℕ → ℕ → Reply
  step_on s kind w t a b = shown t (executed kind w (R c M a) (R c M b) M (before s t)) (cost_of kind c.flags)

  abbrev step_at : stop.Stop → ℕ → Reply
  step_at s w = step_on s (kind_of w) w (field_t w) (field_a w) (field_b w)

  no_number : run_number (length M) c.stop (due_one c) c.clock.0 4 ≡ 0
  unfolding run_number
  no_number =
      let size : wrong_length (length M) ≡ false = rw (ne_eqb (length M) 0 (λ e. omega arith), le-ltb 65536 (length M) most) in
      let full : clock_full c.clock.0 4 ≡ false = le-ltb 4294967295 (c.clock.0 + 4) room in
      passed 1 _ _ size ∙ passed 8 _ _ (rw going) ∙ passed 7 _ _ (ap not (one_when_due c due)) ∙ passed 9 _ _ full ∙ none_left

  is_step : step c M ≡ step_at Going (word_at M c.pc)
  unfolding after memory_after takes step_transition
  is_step = step_starts c M no_number ∙ ap (λ (s : stop.Stop). step_at s (word_at M c.pc)) going

  -- the step of a word with these digits, q being its bits 11-10
  digits : (o t a b q : ℕ) → o < 16 → t < 16 → a < 16 → b < 16 → t / 4 ≡ q → word_at M c.pc ≡ word o t a b
      → step c M ≡ step_on Going (kind_by o b q) (word o t a b) t a b
  digits o t a b q ho ht ha hb e h =
      let kind = fields.kind_by_lem o t a b ho ht ha hb q e in
      let et = fields.field_t_lem o t a b ho ht ha hb in
      let ea = fields.field_a_lem o t a b ho ht ha hb in
      let eb = fields.field_b_lem o t a b ho ht ha hb in
      is_step ∙ ap (step_at Going) h ∙ (λ j. step_on Going (kind j) (word o t a b) (et j) (ea j) (eb j))

  abbrev PlainRow : ℕ → ℕ → ℕ → ℕ → Type 0
  PlainRow o t a b = ◌⟹◌ c M (word o t a b) (step_on Going (kind_by o b (t / 4)) (word o t a b) t a b)

  row : (o t a b : ℕ) → o < 16 → t < 16 → a < 16 → b < 16 → PlainRow o t a b
  row o t a b ho ht ha hb = digits o t a b (t / 4) ho ht ha hb refl

  -- Rt takes what f makes of k
  byte : (o t a b : ℕ) (f : ℕ → Outcome) → o < 16 → t < 16 → a < 16 → b < 16
      → step_on Going (kind_by o b (t / 4)) (word o t a b) t a b ≡ set_r t (f (isa.field_k (word o t a b))) (next c M 4)
      → ◌⟹◌ c M (word o t a b) (set_r t (f (k a b)) (next c M 4))
  byte o t a b f ho ht ha hb s h =
      row o t a b ho ht ha hb h ∙ s ∙ ap (λ (x : ℕ). set_r t (f x) (next c M 4)) (fields.field_k_lem o t a b ho ht ha hb)

  -- a result whose flags are said otherwise
  setting : (w t : ℕ) (x y : Outcome) → x ≡ y → ◌⟹◌ c M w (set_r t x (next c M 4)) → ◌⟹◌ c M w (set_r t y (next c M 4))
  setting w t x y e f h = f h ∙ ap (λ (z : Outcome). set_r t z (next c M 4)) e

  -- Rt is as it was
  abbrev keeping : ℕ → Reply → Reply
  keeping t s =
      record {
        answer = s.answer;
        core = with_regs (set c.regs t (R c M t)) s.core;
        memory = s.memory;
      }

  kept : (t : ℕ) (s : Reply) → s.core.regs ≡ c.regs → keeping t s ≡ s
  kept t s e = λ j. record { answer = s.answer; core = with_regs ((set-get_or c.regs t 0 ∙ sym e) j) s.core; memory = s.memory }

  still : (w t : ℕ) (s : Reply) → s.core.regs ≡ c.regs → ◌⟹◌ c M w (keeping t s) → ◌⟹◌ c M w s
  still w t s e f h = f h ∙ kept t s e

  -- a jump
  abbrev leap : ℕ → Bool → ℕ → Reply
  leap t g x = shown t (jumped g x (before Going t)) (count_of (jump_class g))

  leaps : (t : ℕ) (g : Bool) (x : ℕ) → leap t g x ≡ jump c M g x
  leaps t true x = kept t (jump c M true x) refl
  leaps t false x = kept t (jump c M false x) refl

  jumps : (w t : ℕ) (g : Bool) (x : ℕ) → ◌⟹◌ c M w (leap t g x) → ◌⟹◌ c M w (jump c M g x)
  jumps w t g x f h = f h ∙ leaps t g x

  -- D and E: a jump by d10
  short : (o a b u q : ℕ) (g : Bool) → o < 16 → a < 16 → b < 16 → u < 4 → q < 4
      → step_on Going (kind_by o b q) (word o (q * 4 + u) a b) (q * 4 + u) a b
      ≡ leap (q * 4 + u) g (PC c M ⊕ isa.d10 (word o (q * 4 + u) a b))
      → ◌⟹◌ c M (word o (q * 4 + u) a b) (jump c M g (PC c M ⊕ d10 u a b))
  short o a b u q g ho ha hb hu hq s h =
      digits o (q * 4 + u) a b q ho (omega arith) ha hb (omega arith) h
      ∙ s
      ∙ leaps (q * 4 + u) g (PC c M ⊕ isa.d10 (word o (q * 4 + u) a b))
      ∙ ap (λ (x : ℕ). jump c M g (PC c M ⊕ x)) (fields.short o u q a b hu ha hb)

  long : (t a b : ℕ) → t < 16 → a < 16 → b < 16 → ◌⟹◌ c M (word 0xF t a b) (call c M (PC c M ⊕ d12 t a b))
  unfolding table cost_of
  long t a b ht ha hb h =
      row 0xF t a b (lit< tt) ht ha hb h
      ∙ kept t (call c M (PC c M ⊕ isa.d12 (word 0xF t a b))) refl
      ∙ ap (λ (x : ℕ). call c M (PC c M ⊕ x)) (fields.long 0xF t a b (lit< tt) ht ha hb)

  -- a word of no kind
  none : (o t a b : ℕ) → o < 16 → t < 16 → a < 16 → b < 16 → kind_by o b (t / 4) ≡ Undefined
      → ◌⟹◌ c M (word o t a b) (ending c M 2 stop.TheVariants.Undefined U)
  unfolding cost_of
  none o t a b ho ht ha hb n =
      still _ t _ refl (λ h. row o t a b ho ht ha hb h ∙ ap (λ (x : Kind). step_on Going x (word o t a b) t a b) n)

-- V, once more, of a sum and a difference
pub sum_said : (p q : ℕ) → p < 65536 → q < 65536 → alu.added p q ≡ added p q
sum_said p q hp hq = ap (λ (x : Bool). all (p ⊕ q) (leb 65536 (p + q)) x) (sum_overflows_lem p q hp hq)

pub difference_said : (p q : ℕ) → p < 65536 → q < 65536 → alu.subtracted p q ≡ subtracted p q
difference_said p q hp hq = ap (λ (x : Bool). all (p ⊖ q) (leb q p) x) (difference_overflows_lem p q hp hq)

pub instructions_exactly : InstructionsExactly
unfolding table cost_of conjunction disjunction exclusive
instructions_exactly c M least most going due room words t a b u q ht ha hb hu hq =
    let ra : R c M a < 65536 = words a in
    let rb : R c M b < 65536 = words b in
    let rt : R c M t < 65536 = words t in
    let hk : k a b < 65536 = omega arith in
    let row = row c M least most going due room in
    let byte = byte c M least most going due room in
    let still = still c M least most going due room in
    let jumps = jumps c M least most going due room in
    let short = short c M least most going due room in
    let none = none c M least most going due room in
    let setting = setting c M least most going due room in
    let f = c.flags in
    record {
      ADD = setting _ t _ _ (sum_said (R c M a) (R c M b) ra rb) (row 0x0 t a b (lit< tt) ht ha hb);
      SUB = setting _ t _ _ (difference_said (R c M a) (R c M b) ra rb) (row 0x1 t a b (lit< tt) ht ha hb);
      AND = row 0x2 t a b (lit< tt) ht ha hb;
      OR = row 0x3 t a b (lit< tt) ht ha hb;
      XOR = row 0x4 t a b (lit< tt) ht ha hb;
      ADDI = setting _ t _ _ (sum_said (R c M t) (k a b) rt hk) (byte 0x5 t a b (alu.added (R c M t)) (lit< tt) ht ha hb refl);
      SUBI = setting _ t _ _ (difference_said (R c M t) (k a b) rt hk) (byte 0x6 t a b (alu.subtracted (R c M t)) (lit< tt) ht ha hb refl);
      LDL = byte 0x7 t a b (λ x. plain f (R c M t / 256 * 256 + x)) (lit< tt) ht ha hb refl;
      LDH = byte 0x8 t a b (λ x. plain f (x * 256 + R c M t % 256)) (lit< tt) ht ha hb refl;
      LD = row 0x9 t a b (lit< tt) ht ha hb;
      ST = still _ t _ refl (row 0xA t a b (lit< tt) ht ha hb);
      SL0 = setting _ t _ _ (ap (λ (x : ℕ). NZ f (x % 65536)) (add-zero (R c M a * 2))) (row 0xB t a 0x0 (lit< tt) ht ha (lit< tt));
      SL1 = row 0xB t a 0x1 (lit< tt) ht ha (lit< tt);
      SR0 = setting _ t _ _ (ap (NZ f) (zero-add (R c M a / 2))) (row 0xB t a 0x2 (lit< tt) ht ha (lit< tt));
      SR1 = row 0xB t a 0x3 (lit< tt) ht ha (lit< tt);
      NOT = row 0xB t a 0x4 (lit< tt) ht ha (lit< tt);
      NOP = still _ t _ refl (row 0xB t a 0x5 (lit< tt) ht ha (lit< tt));
      HALT = still _ t _ refl (row 0xB t a 0x6 (lit< tt) ht ha (lit< tt));
      LDSP = still _ t _ refl (row 0xB t a 0x7 (lit< tt) ht ha (lit< tt));
      RTS = still _ t _ refl (row 0xB t a 0x8 (lit< tt) ht ha (lit< tt));
      POP = row 0xB t a 0x9 (lit< tt) ht ha (lit< tt);
      PUSH = still _ t _ refl (row 0xB t a 0xA (lit< tt) ht ha (lit< tt));
      JMPR = jumps _ t true (PC c M ⊕ R c M a) (row 0xC t a 0x0 (lit< tt) ht ha (lit< tt));
      JMPNR = jumps _ t f.n (PC c M ⊕ R c M a) (row 0xC t a 0x1 (lit< tt) ht ha (lit< tt));
      JMPZR = jumps _ t f.z (PC c M ⊕ R c M a) (row 0xC t a 0x2 (lit< tt) ht ha (lit< tt));
      JMPCR = jumps _ t f.c (PC c M ⊕ R c M a) (row 0xC t a 0x3 (lit< tt) ht ha (lit< tt));
      JMPVR = jumps _ t f.v (PC c M ⊕ R c M a) (row 0xC t a 0x4 (lit< tt) ht ha (lit< tt));
      JMP = jumps _ t true (R c M a) (row 0xC t a 0x5 (lit< tt) ht ha (lit< tt));
      JMPN = jumps _ t f.n (R c M a) (row 0xC t a 0x6 (lit< tt) ht ha (lit< tt));
      JMPZ = jumps _ t f.z (R c M a) (row 0xC t a 0x7 (lit< tt) ht ha (lit< tt));
      JMPC = jumps _ t f.c (R c M a) (row 0xC t a 0x8 (lit< tt) ht ha (lit< tt));
      JMPV = jumps _ t f.v (R c M a) (row 0xC t a 0x9 (lit< tt) ht ha (lit< tt));
      JSRR = still _ t _ refl (row 0xC t a 0xA (lit< tt) ht ha (lit< tt));
      JSR = still _ t _ refl (row 0xC t a 0xB (lit< tt) ht ha (lit< tt));
      JMPD = short 0xD a b u q true (lit< tt) ha hb hu hq refl;
      JMPND = short 0xE a b u 0 f.n (lit< tt) ha hb hu (lit< tt) refl;
      JMPZD = short 0xE a b u 1 f.z (lit< tt) ha hb hu (lit< tt) refl;
      JMPCD = short 0xE a b u 2 f.c (lit< tt) ha hb hu (lit< tt) refl;
      JMPVD = short 0xE a b u 3 f.v (lit< tt) ha hb hu (lit< tt) refl;
      JSRD = long c M least most going due room t a b ht ha hb;
      undefined = λ o n. none o t a b (fields.digit_o o b n) ht ha hb (fields.no_kind o b (t / 4) n);
    }

pub every_word : EveryWord
unfolding word
every_word = (λ w h. omega arith, λ w h. (omega arith, omega arith, omega arith, omega arith), λ t h. (omega arith, omega arith, omega arith))
