-- The theorems of specs/Theorems.antt. Assumes nothing.
use mathlib.Core.Path.{◌≡◌, refl, sym, ap, subst, ◌∙◌}
use mathlib.Core.Bool.{Bool, true, false}
use mathlib.Core.List.{List, [], ◌∷◌, ◌++◌}
use Prim.Native.Nat.{ℕ, zero, suc, ◌+◌, ◌*◌, ◌/◌, ◌%◌, ◌≤◌, ◌<◌}
use native.Mathlib.Omega.{arith}
use lib.Dec.{lit<}
use lib.ListN.{length, get_or, take, drop, length-append, take-append-drop, drop_of_length-le}
use lib.Seq.{take_at, drop-cons, get_or-append-add, length-take-le}
use borrow.Author.Tests.{eqb-true, eqb-false, eq-eqb, le-leb, le-ltb}
use Rattle.words.specs.Arithmetic.{bit}
use Rattle.effects.specs.declared.Stop.{Stop}
use Rattle.effects.specs.declared.Stop.TheVariants.{Going, Halted, Undefined}
use Rattle.effects.specs.Hidden.{no_hidden, with_ir, with_ra_rb, with_ralu}
use Rattle.r8_core.specs.Cores.{fresh_core, with_regs, with_pc, with_sp, with_flags, with_hidden, with_due, stopped, with_clock}
use Rattle.r8_core.specs.Calls.{run}
use Rattle.r8_core.proofs.Again.{run_again}
use Rattle.layout.specs.Layout.{flags_number, is_odd, flags_of, stop_number, answer_size, answer_numbers}
use Rattle.layout.proofs.Back.{flags_back}
use Rattle.layout.proofs.Theorems.{answer_size_lem}
use Rattle.r8.specs.Codes.{code_number}
use Rattle.r8.specs.Numbers.{registers_of, state_of, stop_of, core_of, is_core}
use Rattle.r8.specs.Call.{Slices, code_of, after, called}
use Rattle.r8.specs.Theorems.{CoreBack, NumbersBack, HeldOn, CallAfterCall, RunInPieces}
use Rattle.r8.proofs.Lengths.{length_onto}
use Rattle.r8.proofs.Numbers.{fits, flags_small, stop_small}
use Rattle.r8.proofs.Calls.{accepted, taken, answered}
use Rattle.r8.proofs.Held.{run_held, step_held}

-- flags and stop states
stop_back : (s : Stop) → stop_of (stop_number s) ≡ s
stop_back Going = refl
stop_back Halted = refl
stop_back Undefined = refl

odd_number : (n : ℕ) → bit (is_odd n) ≡ n % 2
odd_number n = by (is_odd n) refl
  where
    by : (b : Bool) → is_odd n ≡ b → bit b ≡ n % 2
    by true e = sym (eqb-true (n % 2) 1 e)
    by false e = omega (arith, eqb-false (n % 2) 1 e)

digits : (q r s : ℕ) {n x y z p : ℕ} → z ≡ p → y ≡ 2 * z + q → x ≡ 2 * y + r → n ≡ 2 * x + s → 8 * p + 4 * q + 2 * r + s ≡ n
digits q r s a b c d = omega arith

flags_number_lem : (n : ℕ) → n ≤ 15 → flags_number (flags_of n) ≡ n
flags_number_lem n h =
    let fours : n / 4 ≡ n / 2 / 2 = omega arith in
    let eights : n / 8 ≡ n / 4 / 2 = omega arith in
    let one : n / 8 ≡ n / 8 % 2 = omega arith in
    let two : n / 4 ≡ 2 * (n / 8) + n / 4 % 2 = omega (arith, eights) in
    let three : n / 2 ≡ 2 * (n / 4) + n / 2 % 2 = omega (arith, fours) in
    let four : n ≡ 2 * (n / 2) + n % 2 = omega arith in
    rw (odd_number (n / 8), odd_number (n / 4), odd_number (n / 2), odd_number n) (digits (n / 4 % 2) (n / 2 % 2) (n % 2) one two three four)

stop_number_lem : (n : ℕ) → n ≤ 2 → stop_number (stop_of n) ≡ n
stop_number_lem zero h = refl
stop_number_lem (suc zero) h = refl
stop_number_lem (suc (suc zero)) h = refl
stop_number_lem (suc (suc (suc n))) h = absurd (omega arith)

pub core_back : CoreBack
unfolding is_core
core_back core h =
    let six = core.pc ∷ core.sp ∷ core.hidden.ir ∷ core.hidden.ra ∷ core.hidden.rb ∷ core.hidden.ralu ∷ [] in
    let size : length (registers_of core) ≡ 22 = length-append core.regs six ∙ ap (λ (n : ℕ). n + 6) h.0 in
    let behind : (n : ℕ) → get_or (registers_of core) (16 + n) 0 ≡ get_or six n 0 =
    λ n. ap (λ (k : ℕ). get_or (registers_of core) (k + n) 0) (sym h.0) ∙ get_or-append-add core.regs six n 0 in
    let regs = take_at core.regs six 16 h.0 in
    let flags = flags_back core.flags in
    let stop = stop_back core.stop in (
      rw (eq-eqb _ _ size, le-leb _ _ (flags_small core.flags), le-leb _ _ (stop_small core.stop), le-leb _ _ h.1),
      λ j. with_regs (regs j)
          (with_pc (behind 0 j)
          (with_sp (behind 1 j)
          (with_hidden (with_ralu (behind 5 j) (with_ra_rb (behind 3 j) (behind 4 j) (with_ir (behind 2 j) no_hidden)))
          (with_flags (flags j) (stopped (stop j) (with_due core.due (with_clock core.clock.0 fresh_core))))))),
    )

-- a list of 22, and one of four, by its elements
by_elements : (l : List ℕ) → length l ≡ 22
    → take 16 l ++ (get_or l 16 0 ∷ get_or l 17 0 ∷ get_or l 18 0 ∷ get_or l 19 0 ∷ get_or l 20 0 ∷ get_or l 21 0 ∷ []) ≡ l
by_elements l e =
    let next : (n : ℕ) → n < 22 → drop n l ≡ get_or l n 0 ∷ drop (suc n) l = λ n h. drop-cons l n 0 (omega arith) in
    let tail : drop 16 l ≡ get_or l 16 0 ∷ get_or l 17 0 ∷ get_or l 18 0 ∷ get_or l 19 0 ∷ get_or l 20 0 ∷ get_or l 21 0 ∷ [] =
    rw (next 16 (lit< tt), next 17 (lit< tt), next 18 (lit< tt), next 19 (lit< tt), next 20 (lit< tt), next 21 (lit< tt), drop_of_length-le l {i = 22} (omega arith)) in
    ap (λ (t : List ℕ). take 16 l ++ t) (sym tail) ∙ take-append-drop 16 l

four_elements : (l : List ℕ) → length l ≡ 4 → get_or l 0 0 ∷ get_or l 1 0 ∷ get_or l 2 0 ∷ get_or l 3 0 ∷ [] ≡ l
four_elements l e =
    let next : (n : ℕ) → n < 4 → drop n l ≡ get_or l n 0 ∷ drop (suc n) l = λ n h. drop-cons l n 0 (omega arith) in
    sym (next 0 (lit< tt) ∙ rw (next 1 (lit< tt), next 2 (lit< tt), next 3 (lit< tt), drop_of_length-le l {i = 4} (omega arith)))

pub numbers_back : NumbersBack
numbers_back registers state e =
    let f = fits registers state e in
    let flags = flags_number_lem (get_or state 0 0) f.flags in
    let stop = stop_number_lem (get_or state 1 0) f.stop in (
      (length-take-le 16 registers (omega (arith, f.registers)), f.due),
      by_elements registers f.registers,
      (λ j. flags j ∷ stop j ∷ get_or state 2 0 ∷ get_or state 3 0 ∷ []) ∙ four_elements state f.state,
    )

pub held_on : HeldOn
held_on core memory b h = (run_held core memory b h, step_held core memory h)

pub call_after_call : CallAfterCall
unfolding code_of
call_after_call first second x z h =
    let done : code_number (code_of x.registers x.state x.answer) ≡ 0 = ap code_number z in
    let reply = first (core_of x.registers x.state) x.memory in
    let left = after reply x.answer in
    let same : left ≡ (called first x).1 = ap (λ (p : ℕ × Slices). p.1) (answered first x _ refl _ reply done refl refl) in
    let back = core_back reply.core h in
    let size = answer_size_lem.0 reply.answer in
    let room = (taken x.registers x.state x.answer _ refl done).1 in
    let kept = length_onto (answer_numbers reply.answer) x.answer (omega arith) in
    let code : 0 ≡ code_number (code_of left.registers left.state left.answer) = rw (back.0, le-ltb (length left.answer) answer_size (omega arith)) in
    subst (λ (l : Slices). called second l ≡ (0, after (second reply.core reply.memory) l.answer)) same
    (sym (answered second left 0 code reply.core _ refl (sym back.1) refl))

pub run_in_pieces : RunInPieces
run_in_pieces x i j z taking going =
    let done : code_number (code_of x.registers x.state x.answer) ≡ 0 = ap code_number z in
    let core = core_of x.registers x.state in
    let Held = (numbers_back x.registers x.state (accepted x.registers x.state x.answer _ refl done).0).0 in
    let first = run i core x.memory in
    let again = (run_again core x.memory i j taking).1 going in
    let pieces = ap (λ (p : ℕ × Slices). p.1) (call_after_call (run i) (run j) x z (run_held core x.memory i Held)) in
    let whole = ap (λ (p : ℕ × Slices). p.1) (answered (run (i + j)) x _ refl core _ done refl refl) in
    let same = sym again.9 in (
      ap (λ (l : Slices). l.registers) pieces ∙ ap registers_of same ∙ ap (λ (l : Slices). l.registers) whole,
      ap (λ (l : Slices). l.state) pieces ∙ ap state_of same ∙ ap (λ (l : Slices). l.state) whole,
      ap (λ (l : Slices). l.memory) pieces ∙ sym again.10 ∙ ap (λ (l : Slices). l.memory) whole,
    )
