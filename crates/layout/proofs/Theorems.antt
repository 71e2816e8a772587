-- The theorems of specs/Theorems.antt: an answer, and what is left, is read back from its numbers. Assumes nothing.
use mathlib.Core.Path.{◌≡◌, refl, sym, ap, ◌∙◌}
use mathlib.Core.Bool.{Bool, true, false, cond}
use mathlib.Core.List.{List}
use Prim.Native.Nat.{ℕ}
use borrow.Author.Tests.{eq-eqb, ne_eqb}
use lib.Dec.{eqb}
use lib.ListN.{length, get_or, take, drop, replicate}
use Rattle.effects.specs.declared.Stop.{Stop}
use Rattle.effects.specs.declared.Stop.TheVariants.{Going, Halted, Undefined}
use Rattle.r8_core.specs.Cores.{Visible, visible}
use Rattle.r8_core.specs.Calls.{Answer, done, stored, ran, viewed, refused, refused_at}
use Rattle.text.proofs.Apart.{end_from, end_back}
use Rattle.layout.specs.Layout.{flags_of, stop_number, seen_numbers, answer_numbers, left_numbers}
use Rattle.layout.specs.Theorems.{AnswerSize, Whole, AnswersApart, LeftApart, Places}
use Rattle.layout.proofs.Sizes.{numbers_size, left_size}
use Rattle.layout.proofs.Back.{flags_back}
use Rattle.layout.proofs.Bank.{bank_back}

pub answer_size_lem : AnswerSize
answer_size_lem = (numbers_size, left_size)

-- the stop state of a number
abbrev stop_of : ℕ → Stop
stop_of n = cond (eqb n 0) Going (cond (eqb n 1) Halted Undefined)

stop_back : (s : Stop) → stop_of (stop_number s) ≡ s
stop_back Going = refl
stop_back Halted = refl
stop_back Undefined = refl

-- what is seen, of its numbers
abbrev seen_of : List ℕ → Visible
seen_of l =
    record {
      regs = take 16 (drop 1 l);
      pc = get_or l 17 0;
      sp = get_or l 18 0;
      flags = flags_of (get_or l 19 0);
      stop = stop_of (get_or l 20 0);
    }

seen_back : (kind : ℕ) (v : Visible) (cycle clock : ℕ) → length v.regs ≡ 16 → seen_of (seen_numbers kind v cycle clock) ≡ v
seen_back kind v cycle clock h =
    let regs = bank_back v.regs h in
    let flags = flags_back v.flags in
    let stop = stop_back v.stop in
    λ j. record { regs = regs j; pc = v.pc; sp = v.sp; flags = flags j; stop = stop j }

-- the answer of its numbers, by the first of them
abbrev answer_of : List ℕ → Answer
answer_of l =
    let case = get_or l 0 0 in
    cond (eqb case 0) done
    (cond (eqb case 1) (stored (get_or l 1 0))
    (cond (eqb case 2) (ran (get_or l 1 0) (get_or l 2 0) (end_from (get_or l 3 0)))
    (cond (eqb case 3) (viewed (seen_of l) (get_or l 21 0) (get_or l 22 0))
    (cond (eqb case 4) (refused (get_or l 1 0)) (refused_at (get_or l 1 0) (get_or l 2 0))))))

answer_back : (a : Answer) → Whole a → answer_of (answer_numbers a) ≡ a
unfolding answer_numbers
answer_back done h = refl
answer_back (stored count) h = refl
answer_back (ran cycles instructions end) h = ap (ran cycles instructions) (end_back end)
answer_back (viewed v due clock) h = ap (λ (v : Visible). viewed v due clock) (seen_back 3 v due clock h)
answer_back (refused number) h = refl
answer_back (refused_at number offset) h = refl

pub answers_apart : AnswersApart
answers_apart a b ha hb e = sym (answer_back a ha) ∙ ap answer_of e ∙ answer_back b hb

-- stop state, cycles spent and clock stand in their places, whether some are spent or none
left_places : (v : Visible) (spent clock : ℕ)
    → let l : List ℕ = left_numbers v spent clock in
    (get_or l 22 0 ≡ clock) × (get_or l 21 0 ≡ spent) × (stop_of (get_or l 20 0) ≡ v.stop)
unfolding left_numbers
left_places v spent clock = (refl, refl, by (eqb spent 0))
  where
    by : (none : Bool) → stop_of (stop_number (cond none v (visible (replicate 16 0) 0 0 (flags_of 0) v.stop)).stop) ≡ v.stop
    by true = stop_back v.stop
    by false = stop_back v.stop

left_back : (v : Visible) (spent clock : ℕ) → length v.regs ≡ 16 → spent ≡ 0 → seen_of (left_numbers v spent clock) ≡ v
unfolding left_numbers
left_back v spent clock h none = rw (eq-eqb spent 0 none) (seen_back 6 v spent clock h)

pub left_apart : LeftApart
left_apart v w s t clock other hv hw e =
    let a = left_places v s clock in
    let b = left_places w t other in
    let spent : s ≡ t = sym a.1 ∙ ap (λ (l : List ℕ). get_or l 21 0) e ∙ b.1 in (
      sym a.0 ∙ ap (λ (l : List ℕ). get_or l 22 0) e ∙ b.0,
      spent,
      sym a.2 ∙ ap (λ (l : List ℕ). stop_of (get_or l 20 0)) e ∙ b.2,
      λ none. sym (left_back v s clock hv none) ∙ ap seen_of e ∙ left_back w t other hw (sym spent ∙ none),
    )

pub places : Places
unfolding answer_numbers left_numbers
places a b end v cycle clock h =
    let bank = bank_back v.regs h in (
      refl,
      refl,
      refl,
      (refl, bank, refl, refl, refl, refl, refl, refl),
      refl,
      refl,
      (refl, bank, refl, refl, refl, refl, refl, refl),
      λ spent some. rw (ne_eqb spent 0 some) refl,
    )
