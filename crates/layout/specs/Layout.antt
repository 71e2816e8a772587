-- Answers laid out as numbers, for lists of calls given as data and for other languages: 23 for each, the case first, then what it names,
-- then zeros.
use Rattle.std.specs.Prelude.{Bool, cond, List, [], ◌∷◌, ◌++◌, ℕ, ◌+◌, ◌-◌, ◌*◌, ◌/◌, ◌%◌, eqb, leb, length, drop, replicate}
use Rattle.words.specs.Arithmetic.{bit}
use Rattle.isa.specs.declared.Flags.{Flags}
use Rattle.effects.specs.declared.Stop.{Stop}
use Rattle.effects.specs.declared.Stop.TheVariants.{Going, Halted, Undefined}
use Rattle.r8_core.specs.Cores.{Visible, visible, register}
use Rattle.r8_core.specs.Calls.{Answer, done, stored, ran, viewed, refused, refused_at, Reply}
use Rattle.r8_core.specs.declared.Core.{Core}
use Rattle.text.specs.Text.{letter_text}
use Rattle.layout.specs.declared.Numbered.{Numbered}

abbrev pub answer_size : ℕ
answer_size = 23

abbrev pub padded : List ℕ → List ℕ
padded numbers = numbers ++ replicate (answer_size - length numbers) 0

abbrev pub flags_number : Flags → ℕ
flags_number f = 8 * bit f.n + 4 * bit f.z + 2 * bit f.c + bit f.v

-- back: the flags of a number's last four bits
abbrev pub is_odd : ℕ → Bool
is_odd n = eqb (n % 2) 1

abbrev pub flags_of : ℕ → Flags
flags_of n = record { n = is_odd (n / 8); z = is_odd (n / 4); c = is_odd (n / 2); v = is_odd n }

abbrev pub stop_number : Stop → ℕ
stop_number Going = 0
stop_number Halted = 1
stop_number Undefined = 2

-- R0 to R15
abbrev pub bank_numbers : List ℕ → List ℕ
bank_numbers regs =
    register regs 0
    ∷ register regs 1
    ∷ register regs 2
    ∷ register regs 3
    ∷ register regs 4
    ∷ register regs 5
    ∷ register regs 6
    ∷ register regs 7
    ∷ register regs 8
    ∷ register regs 9
    ∷ register regs 10
    ∷ register regs 11
    ∷ register regs 12
    ∷ register regs 13
    ∷ register regs 14
    ∷ register regs 15
    ∷ []

-- what is seen of a core, with the case, the cycle due or the cycles spent, and the clock
abbrev pub seen_numbers : ℕ → Visible → ℕ → ℕ → List ℕ
seen_numbers kind v cycle clock =
    padded
    (kind
    ∷ (bank_numbers v.regs
    ++ (v.pc ∷ v.sp ∷ flags_number v.flags ∷ stop_number v.stop ∷ cycle ∷ clock ∷ [])))

-- the answers of document 01's calls, in the order of `Answer`; an end letter is its ASCII code
unfoldable pub answer_numbers : Answer → List ℕ
answer_numbers done = padded (0 ∷ [])
answer_numbers (stored count) = padded (1 ∷ count ∷ [])
answer_numbers (ran cycles instructions end) = padded (2 ∷ cycles ∷ instructions ∷ letter_text end ∷ [])
answer_numbers (viewed v due clock) = seen_numbers 3 v due clock
answer_numbers (refused number) = padded (4 ∷ number ∷ [])
answer_numbers (refused_at number offset) = padded (5 ∷ number ∷ offset ∷ [])

-- R0 to R15, PC, SP and flags between instructions; zero in an unfinished one
abbrev pub between : ℕ → Visible → Visible
between spent v = cond (eqb spent 0) v (visible (replicate 16 0) 0 0 (flags_of 0) v.stop)

-- what a list of calls left: the clock, the stop state and the cycles spent in an unfinished instruction, and between instructions R0 to R15, PC,
-- SP and flags; laid out as a view is, with the cycles spent in place of the cycle due
unfoldable pub left_numbers : Visible → ℕ → ℕ → List ℕ
left_numbers v spent clock = seen_numbers 6 (between spent v) spent clock

-- numbers written from the front of a list on; what is past them stays
abbrev pub onto : List ℕ → List ℕ → List ℕ
onto numbers old = numbers ++ drop (length numbers) old

-- a list that is too short for them stays
abbrev pub onto_if_room : List ℕ → List ℕ → List ℕ
onto_if_room numbers old = cond (leb (length numbers) (length old)) (onto numbers old) old

-- a call's reply with its answer as numbers; and what the code of a call gave back, with the memory as it then is
pub record NumberedReply : Type 0 where
  pub numbers : List ℕ
  pub core : Core
  pub memory : List ℕ

abbrev pub numbered : Reply → NumberedReply
numbered r = record { numbers = answer_numbers r.answer; core = r.core; memory = r.memory }

abbrev pub gave : Numbered → List ℕ → NumberedReply
gave r memory = record { numbers = r.numbers; core = r.core; memory = memory }
