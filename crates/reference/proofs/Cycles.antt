-- The page of the cycles: each goes by the kind and the fields of the word in IR.
use Rattle.std.specs.Prelude.{Option, None}
use mathlib.Core.Path.{◌≡◌, refl, sym, ap, ◌∙◌}
use mathlib.Core.Bool.{Bool, true, false}
use mathlib.Core.List.{List}
use Prim.Native.Nat.{ℕ, ◌+◌, ◌*◌, ◌/◌, ◌%◌, ◌<◌}
use native.Mathlib.Omega.{arith}
use native.Mathlib.Nat.{zero-add, add-zero}
use lib.Dec.{lit<, leb}
use lib.ListN.{set}
use lib.Seq.{set-get_or}
use Rattle.words.specs.Arithmetic.{conjunction, disjunction, exclusive}
use Rattle.isa.specs.Fields as isa
use Rattle.isa.specs.Fields.{field_t, field_a, field_b}
use Rattle.isa.specs.Control.{second_register}
use Rattle.isa.specs.Cost.{count_of, jump_class, cost_of}
use Rattle.isa.specs.declared.Kind.{Kind}
use Rattle.isa.specs.declared.Kind.TheVariants as kind
use Rattle.table.specs.Table.{table, kind_of}
use Rattle.alu.specs.Flags as alu
use Rattle.alu.specs.declared.Outcome.{Outcome}
use Rattle.effects.specs.Effect.{untouched}
use Rattle.effects.specs.Hidden.{with_ir, with_ra_rb}
use Rattle.effects.specs.Cycles.{stop_of, calculated, written_back}
use Rattle.effects.specs.Table.{jumped}
use Rattle.effects.specs.declared.Effect.{Effect}
use Rattle.effects.specs.declared.Stop.{Stop}
use Rattle.effects.specs.declared.Stop.TheVariants.{Going, Halted, Undefined}
use Rattle.effects.specs.declared.Store.{Store}
use Rattle.r8_core.specs.Cores.{with_regs, with_hidden, with_due, stopped, with_clock, visible, with_visible, visible_of, effect_before, ra_of, rb_of}
use Rattle.r8_core.specs.Datapath.{fetched, second, with_result, third, with_effect, fourth_effect, due_after, transition, is_last, later_cycle, cycle_or_idle}
use Rattle.r8_core.specs.declared.Core.{Core}
use Rattle.r8_core.specs.declared.Transition.{Transition}
use Rattle.r8_core.proofs.Cycles.{within_clock, first_cycle, later, second_cycle, third_cycle, fourth_cycle}
use Rattle.reference.specs.Notation.{word, k, d10, ◌⊕◌, NZ, plain}
use Rattle.reference.specs.Cycles.{set_stop, ends, R, PC, RA, RB, latch, alu, aim, jump, Row, CyclesExactly}
use Rattle.reference.proofs.Fields as fields
use Rattle.reference.proofs.Fields.{kind_by}
use Rattle.reference.proofs.Instructions.{sum_said, difference_said}

module _ (c : Core) (M : List ℕ) (room : c.clock.0 < 4294967295) where
  -- the core x after cycle n of an instruction of some kind
  abbrev given : ℕ → Kind → Core → Option Store → Transition
  given n kind x store =
      let last : Bool = leb (cost_of kind c.flags) n in
      record { core = with_clock (c.clock.0 + 1) (with_due (due_after last n) x); finished = last; store = store }

  -- cycle 2, by the registers t, a, b
  abbrev latched : Stop → ℕ → ℕ → Core
  latched Going p q = with_hidden (with_ra_rb p q c.hidden) c
  latched Halted p q = stopped Halted c
  latched Undefined p q = stopped Undefined c

  abbrev two_on : ℕ → Kind → ℕ → ℕ → ℕ → Transition
  two_on n kind t a b = given n kind (latched (stop_of kind) (R c M a) (R c M (second_register kind t b))) None

  -- cycle 3, by the word
  abbrev three_on : ℕ → Kind → ℕ → Transition
  three_on n kind w = given n kind (with_result (calculated kind (with_ir w c.hidden) (effect_before w (visible_of c))) c) None

  -- cycle 4, by the register t
  abbrev backed : Kind → ℕ → Effect
  backed kind t = written_back kind c.hidden M (untouched (R c M t) c.pc c.sp c.flags c.stop)

  abbrev four_on : ℕ → Kind → ℕ → Transition
  four_on n kind t =
      let x : Effect = backed kind t in
      given n kind (with_visible (visible (set c.regs t x.rt) x.pc x.sp x.flags x.stop) c) x.store

  on_cycle : (n : ℕ) → c.due ≡ n → (n ≡ 1 → ⊥) → cycle_or_idle M c ≡ later_cycle (kind_of c.hidden.ir) M c
  on_cycle n e other = within_clock M c room ∙ later M c (λ d. other (sym e ∙ d))

  as_latched : (s : Stop) (x : Kind) → second s x c ≡ latched s (ra_of c.hidden.ir c.regs) (rb_of x c.hidden.ir c.regs)
  as_latched Going x = refl
  as_latched Halted x = refl
  as_latched Undefined x = refl

  latched_due : (s : Stop) (p q : ℕ) → (latched s p q).due ≡ c.due
  latched_due Going p q = refl
  latched_due Halted p q = refl
  latched_due Undefined p q = refl

  latched_clock : (s : Stop) (p q : ℕ) → (latched s p q).clock ≡ c.clock
  latched_clock Going p q = refl
  latched_clock Halted p q = refl
  latched_clock Undefined p q = refl

  -- a cycle on a core that has kept the cycle due and the clock
  ticks : (n : ℕ) (kind : Kind) (x : Core) (store : Option Store) → c.due ≡ n → x.due ≡ c.due → x.clock ≡ c.clock
      → transition (is_last kind c) x store ≡ given n kind x store
  ticks n kind x store e ed ec =
      λ j. record {
        core = with_clock ((ec j).0 + 1) (with_due (due_after (leb (cost_of kind c.flags) (e j)) ((ed ∙ e) j)) x);
        finished = leb (cost_of kind c.flags) (e j);
        store = store;
      }

  is_two : c.due ≡ 2
      → cycle_or_idle M c ≡ two_on 2 (kind_of c.hidden.ir) (field_t c.hidden.ir) (field_a c.hidden.ir) (field_b c.hidden.ir)
  is_two e =
      let w : ℕ = c.hidden.ir in
      let p : ℕ = ra_of w c.regs in
      let q : ℕ = rb_of (kind_of w) w c.regs in
      let s : Stop = stop_of (kind_of w) in
      on_cycle 2 e (λ d. omega arith)
      ∙ second_cycle M c (kind_of w) e
      ∙ ap (λ (x : Core). transition (is_last (kind_of w) c) x None) (as_latched s (kind_of w))
      ∙ ticks 2 (kind_of w) (latched s p q) None e (latched_due s p q) (latched_clock s p q)

  is_three : c.due ≡ 3 → cycle_or_idle M c ≡ three_on 3 (kind_of c.hidden.ir) c.hidden.ir
  is_three e =
      let w : ℕ = c.hidden.ir in
      on_cycle 3 e (λ d. omega arith)
      ∙ third_cycle M c (kind_of w) e
      ∙ ticks 3 (kind_of w) (third (kind_of w) c) None e refl refl

  is_four : c.due ≡ 4 → cycle_or_idle M c ≡ four_on 4 (kind_of c.hidden.ir) (field_t c.hidden.ir)
  is_four e =
      let w : ℕ = c.hidden.ir in
      on_cycle 4 e (λ d. omega arith)
      ∙ fourth_cycle M c (kind_of w) e
      ∙ ticks 4 (kind_of w) (with_effect (fourth_effect (kind_of w) M c) c) (fourth_effect (kind_of w) M c).store e refl refl

  -- the row of a word with these digits, q being its bits 11-10
  row : (o t a b q : ℕ) → o < 16 → t < 16 → a < 16 → b < 16 → t / 4 ≡ q
      → Row c M (word o t a b) (two_on 2 (kind_by o b q) t a b) (three_on 3 (kind_by o b q) (word o t a b)) (four_on 4 (kind_by o b q) t)
  row o t a b q ho ht ha hb e =
      let kind = fields.kind_by_lem o t a b ho ht ha hb q e in
      let et = fields.field_t_lem o t a b ho ht ha hb in
      let ea = fields.field_a_lem o t a b ho ht ha hb in
      let eb = fields.field_b_lem o t a b ho ht ha hb in
      record {
        second =
            λ h d. is_two d
            ∙ ap (λ (w : ℕ). two_on 2 (kind_of w) (field_t w) (field_a w) (field_b w)) h
            ∙ (λ j. two_on 2 (kind j) (et j) (ea j) (eb j));
        third = λ h d. is_three d ∙ ap (λ (w : ℕ). three_on 3 (kind_of w) w) h ∙ (λ j. three_on 3 (kind j) (word o t a b));
        fourth = λ h d. is_four d ∙ ap (λ (w : ℕ). four_on 4 (kind_of w) (field_t w)) h ∙ (λ j. four_on 4 (kind j) (et j));
      }

  -- a row said otherwise
  said : (w : ℕ) (x x' y y' z z' : Transition) → x ≡ x' → y ≡ y' → z ≡ z' → Row c M w x y z → Row c M w x' y' z'
  said w x x' y y' z z' ex ey ez r =
      record {
        second = λ h d. r.second h d ∙ ex;
        third = λ h d. r.third h d ∙ ey;
        fourth = λ h d. r.fourth h d ∙ ez;
      }

  -- cycle 3 gives RALU a result that is said otherwise
  calculating : (w : ℕ) (two four : Transition) (x y : Outcome) → x ≡ y → Row c M w two (alu c M x) four → Row c M w two (alu c M y) four
  calculating w two four x y e = said w two two (alu c M x) (alu c M y) four four refl (ap (alu c M) e) refl

  -- cycle 4 leaves Rt as it was
  abbrev keeping : ℕ → Transition → Transition
  keeping t s = record { core = with_regs (set c.regs t (R c M t)) s.core; finished = s.finished; store = s.store }

  kept : (t : ℕ) (s : Transition) → s.core.regs ≡ c.regs → keeping t s ≡ s
  kept t s e = λ j. record { core = with_regs ((set-get_or c.regs t 0 ∙ sym e) j) s.core; finished = s.finished; store = s.store }

  still : (w t : ℕ) (two three four : Transition) → four.core.regs ≡ c.regs → Row c M w two three (keeping t four) → Row c M w two three four
  still w t two three four e = said w two two three three (keeping t four) four refl refl (kept t four e)

  -- a jump, by whether its condition holds
  abbrev held : Bool → ℕ → ℕ → Transition
  held g a b =
      let last : Bool = leb (count_of (jump_class g)) 2 in
      record {
        core = with_clock (c.clock.0 + 1) (with_due (due_after last 2) (latched Going (R c M a) (R c M b)));
        finished = last;
        store = None;
      }

  holds : (g : Bool) (a b : ℕ) → held g a b ≡ latch c M a b
  holds true a b = refl
  holds false a b = refl

  abbrev aimed : Bool → ℕ → Transition
  aimed g x =
      let last : Bool = leb (count_of (jump_class g)) 3 in
      record {
        core = with_clock (c.clock.0 + 1) (with_due (due_after last 3) (with_result (plain c.flags x) c));
        finished = last;
        store = None;
      }

  aims : (g : Bool) (x : ℕ) → aimed g x ≡ aim c M g x
  aims true x = refl
  aims false x = refl

  abbrev leapt : ℕ → Bool → Transition
  leapt t g =
      let last : Bool = leb (count_of (jump_class g)) 4 in
      let x : Effect = jumped g c.hidden.ralu (untouched (R c M t) c.pc c.sp c.flags c.stop) in
      record {
        core =
            with_clock (c.clock.0 + 1)
            (with_due (due_after last 4) (with_visible (visible (set c.regs t x.rt) x.pc x.sp x.flags x.stop) c));
        finished = last;
        store = x.store;
      }

  leaps : (t : ℕ) (g : Bool) → leapt t g ≡ jump c M g
  leaps t true = kept t (jump c M true) refl
  leaps t false = kept t (jump c M false) refl

  jumps : (w t a b : ℕ) (g : Bool) (x y : ℕ) → x ≡ y → Row c M w (held g a b) (aimed g x) (leapt t g)
      → Row c M w (latch c M a b) (aim c M g y) (jump c M g)
  jumps w t a b g x y e =
      said w (held g a b) (latch c M a b) (aimed g x) (aim c M g y) (leapt t g) (jump c M g) (holds g a b) (ap (aimed g) e ∙ aims g y) (leaps t g)

  -- D and E: by d10
  short : (o a b u q : ℕ) (g : Bool) → o < 16 → a < 16 → b < 16 → u < 4 → q < 4
      → (Row c M (word o (q * 4 + u) a b) (two_on 2 (kind_by o b q) (q * 4 + u) a b) (three_on 3 (kind_by o b q) (word o (q * 4 + u) a b))
      (four_on 4 (kind_by o b q) (q * 4 + u))
      → Row c M (word o (q * 4 + u) a b) (held g a b) (aimed g (PC c M ⊕ isa.d10 (word o (q * 4 + u) a b))) (leapt (q * 4 + u) g))
      → Row c M (word o (q * 4 + u) a b) (latch c M a b) (aim c M g (PC c M ⊕ d10 u a b)) (jump c M g)
  short o a b u q g ho ha hb hu hq Same =
      jumps (word o (q * 4 + u) a b) (q * 4 + u) a b g (PC c M ⊕ isa.d10 (word o (q * 4 + u) a b)) (PC c M ⊕ d10 u a b)
      (ap (λ (x : ℕ). PC c M ⊕ x) (fields.short o u q a b hu ha hb)) (Same (row o (q * 4 + u) a b q ho (omega arith) ha hb (omega arith)))

  -- a word of no kind
  none : (o t a b : ℕ) → o < 16 → t < 16 → a < 16 → b < 16 → kind_by o b (t / 4) ≡ kind.Undefined
      → Row c M (word o t a b) (set_stop Undefined (ends c M)) (ends c M) (ends c M)
  unfolding cost_of
  none o t a b ho ht ha hb n =
      said (word o t a b) _ _ _ _ _ _ (ap (λ (x : Kind). two_on 2 x t a b) n) (ap (λ (x : Kind). three_on 3 x (word o t a b)) n)
      (ap (λ (x : Kind). four_on 4 x t) n ∙ kept t (ends c M) refl) (row o t a b (t / 4) ho ht ha hb refl)

pub cycles_exactly : CyclesExactly
unfolding table cost_of conjunction disjunction exclusive
cycles_exactly c M room ra rb t a b u q ht ha hb hu hq =
    let hk : k a b < 65536 = omega arith in
    let f = c.flags in
    let row = row c M room in
    let calculating = calculating c M room in
    let still = still c M room in
    let jumps = jumps c M room in
    let short = short c M room in
    let none = none c M room in
    record {
      fetch = λ d. within_clock M c room ∙ first_cycle M c d ∙ ap (λ (n : ℕ). record { core = with_clock (c.clock.0 + 1) (with_due (n + 1) (fetched M c)); finished = false; store = None }) d;
      ADD = calculating _ _ _ _ _ (sum_said (RA c M) (RB c M) ra rb) (row 0x0 t a b (t / 4) (lit< tt) ht ha hb refl);
      SUB = calculating _ _ _ _ _ (difference_said (RA c M) (RB c M) ra rb) (row 0x1 t a b (t / 4) (lit< tt) ht ha hb refl);
      AND = row 0x2 t a b (t / 4) (lit< tt) ht ha hb refl;
      OR = row 0x3 t a b (t / 4) (lit< tt) ht ha hb refl;
      XOR = row 0x4 t a b (t / 4) (lit< tt) ht ha hb refl;
      ADDI = calculating _ _ _ _ _ (ap (alu.added (RB c M)) (fields.field_k_lem 0x5 t a b (lit< tt) ht ha hb) ∙ sum_said (RB c M) (k a b) rb hk) (row 0x5 t a b (t / 4) (lit< tt) ht ha hb refl);
      SUBI = calculating _ _ _ _ _ (ap (alu.subtracted (RB c M)) (fields.field_k_lem 0x6 t a b (lit< tt) ht ha hb) ∙ difference_said (RB c M) (k a b) rb hk) (row 0x6 t a b (t / 4) (lit< tt) ht ha hb refl);
      LDL = calculating _ _ _ _ _ (ap (λ (x : ℕ). plain f (RB c M / 256 * 256 + x)) (fields.field_k_lem 0x7 t a b (lit< tt) ht ha hb)) (row 0x7 t a b (t / 4) (lit< tt) ht ha hb refl);
      LDH = calculating _ _ _ _ _ (ap (λ (x : ℕ). plain f (x * 256 + RB c M % 256)) (fields.field_k_lem 0x8 t a b (lit< tt) ht ha hb)) (row 0x8 t a b (t / 4) (lit< tt) ht ha hb refl);
      LD = row 0x9 t a b (t / 4) (lit< tt) ht ha hb refl;
      ST = still _ t _ _ _ refl (row 0xA t a b (t / 4) (lit< tt) ht ha hb refl);
      SL0 = calculating _ _ _ _ _ (ap (λ (x : ℕ). NZ f (x % 65536)) (add-zero (RA c M * 2))) (row 0xB t a 0x0 (t / 4) (lit< tt) ht ha (lit< tt) refl);
      SL1 = row 0xB t a 0x1 (t / 4) (lit< tt) ht ha (lit< tt) refl;
      SR0 = calculating _ _ _ _ _ (ap (NZ f) (zero-add (RA c M / 2))) (row 0xB t a 0x2 (t / 4) (lit< tt) ht ha (lit< tt) refl);
      SR1 = row 0xB t a 0x3 (t / 4) (lit< tt) ht ha (lit< tt) refl;
      NOT = row 0xB t a 0x4 (t / 4) (lit< tt) ht ha (lit< tt) refl;
      NOP = still _ t _ _ _ refl (row 0xB t a 0x5 (t / 4) (lit< tt) ht ha (lit< tt) refl);
      HALT = still _ t _ _ _ refl (row 0xB t a 0x6 (t / 4) (lit< tt) ht ha (lit< tt) refl);
      LDSP = still _ t _ _ _ refl (row 0xB t a 0x7 (t / 4) (lit< tt) ht ha (lit< tt) refl);
      RTS = still _ t _ _ _ refl (row 0xB t a 0x8 (t / 4) (lit< tt) ht ha (lit< tt) refl);
      POP = row 0xB t a 0x9 (t / 4) (lit< tt) ht ha (lit< tt) refl;
      PUSH = still _ t _ _ _ refl (row 0xB t a 0xA (t / 4) (lit< tt) ht ha (lit< tt) refl);
      JMPR = jumps _ t a 0x0 true (PC c M ⊕ RA c M) _ refl (row 0xC t a 0x0 (t / 4) (lit< tt) ht ha (lit< tt) refl);
      JMPNR = jumps _ t a 0x1 f.n (PC c M ⊕ RA c M) _ refl (row 0xC t a 0x1 (t / 4) (lit< tt) ht ha (lit< tt) refl);
      JMPZR = jumps _ t a 0x2 f.z (PC c M ⊕ RA c M) _ refl (row 0xC t a 0x2 (t / 4) (lit< tt) ht ha (lit< tt) refl);
      JMPCR = jumps _ t a 0x3 f.c (PC c M ⊕ RA c M) _ refl (row 0xC t a 0x3 (t / 4) (lit< tt) ht ha (lit< tt) refl);
      JMPVR = jumps _ t a 0x4 f.v (PC c M ⊕ RA c M) _ refl (row 0xC t a 0x4 (t / 4) (lit< tt) ht ha (lit< tt) refl);
      JMP = jumps _ t a 0x5 true (RA c M) _ refl (row 0xC t a 0x5 (t / 4) (lit< tt) ht ha (lit< tt) refl);
      JMPN = jumps _ t a 0x6 f.n (RA c M) _ refl (row 0xC t a 0x6 (t / 4) (lit< tt) ht ha (lit< tt) refl);
      JMPZ = jumps _ t a 0x7 f.z (RA c M) _ refl (row 0xC t a 0x7 (t / 4) (lit< tt) ht ha (lit< tt) refl);
      JMPC = jumps _ t a 0x8 f.c (RA c M) _ refl (row 0xC t a 0x8 (t / 4) (lit< tt) ht ha (lit< tt) refl);
      JMPV = jumps _ t a 0x9 f.v (RA c M) _ refl (row 0xC t a 0x9 (t / 4) (lit< tt) ht ha (lit< tt) refl);
      JSRR = still _ t _ _ _ refl (row 0xC t a 0xA (t / 4) (lit< tt) ht ha (lit< tt) refl);
      JSR = still _ t _ _ _ refl (row 0xC t a 0xB (t / 4) (lit< tt) ht ha (lit< tt) refl);
      JMPD = short 0xD a b u q true (lit< tt) ha hb hu hq (λ r. r);
      JMPND = short 0xE a b u 0 f.n (lit< tt) ha hb hu (lit< tt) (λ r. r);
      JMPZD = short 0xE a b u 1 f.z (lit< tt) ha hb hu (lit< tt) (λ r. r);
      JMPCD = short 0xE a b u 2 f.c (lit< tt) ha hb hu (lit< tt) (λ r. r);
      JMPVD = short 0xE a b u 3 f.v (lit< tt) ha hb hu (lit< tt) (λ r. r);
      JSRD = calculating _ _ _ _ _ (ap (λ (x : ℕ). plain f (PC c M ⊕ x)) (fields.long 0xF t a b (lit< tt) ht ha hb)) (still _ t _ _ _ refl (row 0xF t a b (t / 4) (lit< tt) ht ha hb refl));
      undefined = λ o n. none o t a b (fields.digit_o o b n) ht ha hb (fields.no_kind o b (t / 4) n);
    }
