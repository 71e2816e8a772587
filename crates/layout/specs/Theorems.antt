-- Answers, and what a list of calls left, as numbers: four statements, proved in proofs/Theorems.antt.
use Rattle.std.specs.Prelude.{◌≡◌, ℕ, List, [], ◌∷◌, ◌++◌, length, get_or, take, drop, replicate}
use Rattle.r8_core.specs.Cores.{Visible}
use Rattle.r8_core.specs.Calls.{Answer, done, stored, ran, viewed, refused, refused_at}
use Rattle.r8_core.specs.declared.End.{End}
use Rattle.text.specs.Text.{letter_text}
use Rattle.layout.specs.Layout.{answer_size, flags_number, stop_number, answer_numbers, left_numbers}

-- every answer has 23 numbers, and so has what a list left (proved as `answer_size_lem`)
abbrev pub AnswerSize : Type 0
AnswerSize =
    ((a : Answer) → length (answer_numbers a) ≡ answer_size)
    × ((v : Visible) (spent clock : ℕ) → length (left_numbers v spent clock) ≡ answer_size)

-- an answer as a core gives it: a view has sixteen registers
abbrev pub Whole : Answer → Type 0
Whole done = Unit
Whole (stored count) = Unit
Whole (ran cycles instructions end) = Unit
Whole (viewed v due clock) = length v.regs ≡ 16
Whole (refused number) = Unit
Whole (refused_at number offset) = Unit

-- different answers have different numbers (proved as `answers_apart`)
abbrev pub AnswersApart : Type 0
AnswersApart = (a b : Answer) → Whole a → Whole b → answer_numbers a ≡ answer_numbers b → a ≡ b

-- what is left is told by its numbers: the same numbers, the same clock, cycles spent and stop state and, where none are spent, the same R0
-- to R15, PC, SP and flags (proved as `left_apart`)
abbrev pub LeftApart : Type 0
LeftApart =
    (v w : Visible) (s t clock other : ℕ) → length v.regs ≡ 16 → length w.regs ≡ 16
    → left_numbers v s clock ≡ left_numbers w t other
    → (clock ≡ other) × (s ≡ t) × (v.stop ≡ w.stop) × (s ≡ 0 → v ≡ w)

-- where each number of what is seen stands: the case, R0 to R15, PC, SP, flags, stop state, the cycle due or the cycles spent, the clock
abbrev pub SeenAt : ℕ → Visible → ℕ → ℕ → List ℕ → Type 0
SeenAt kind v cycle clock l =
    (get_or l 0 0 ≡ kind)
    × (take 16 (drop 1 l) ≡ v.regs)
    × (get_or l 17 0 ≡ v.pc)
    × (get_or l 18 0 ≡ v.sp)
    × (get_or l 19 0 ≡ flags_number v.flags)
    × (get_or l 20 0 ≡ stop_number v.stop)
    × (get_or l 21 0 ≡ cycle)
    × (get_or l 22 0 ≡ clock)

-- the numbers of each case, as README and include/r8.h have them: the case, what it names, then zeros; of what is left, all of `SeenAt`
-- where no cycle is spent, and else zeros from R0 to the flags (proved as `places`)
abbrev pub Places : Type 0
Places =
    (a b : ℕ) (end : End) (v : Visible) (cycle clock : ℕ) → length v.regs ≡ 16
    → (answer_numbers done ≡ 0 ∷ replicate 22 0)
    × (answer_numbers (stored a) ≡ 1 ∷ a ∷ replicate 21 0)
    × (answer_numbers (ran a b end) ≡ 2 ∷ a ∷ b ∷ letter_text end ∷ replicate 19 0)
    × SeenAt 3 v cycle clock (answer_numbers (viewed v cycle clock))
    × (answer_numbers (refused a) ≡ 4 ∷ a ∷ replicate 21 0)
    × (answer_numbers (refused_at a b) ≡ 5 ∷ a ∷ b ∷ replicate 20 0)
    × SeenAt 6 v 0 clock (left_numbers v 0 clock)
    × ((spent : ℕ) → (spent ≡ 0 → ⊥)
    → left_numbers v spent clock ≡ 6 ∷ (replicate 19 0 ++ (stop_number v.stop ∷ spent ∷ clock ∷ [])))
