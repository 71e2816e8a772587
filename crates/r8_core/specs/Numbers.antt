-- Document 01, 'Numbers from the input' and 'Numbers from the state': when 8 and 9 apply (1 is of `refusals`, 7 of Spent), and the order of each
-- call.
use Rattle.std.specs.Prelude.{Bool, true, false, not, [], ◌∷◌, ℕ, ◌+◌, ltb}
use Rattle.refusals.specs.Refusals.{wrong_length, first_number}
use Rattle.effects.specs.declared.Stop.{Stop}
use Rattle.effects.specs.declared.Stop.TheVariants.{Going, Halted, Undefined}

-- '8: stopped', that is, not going
abbrev pub is_going : Stop → Bool
is_going Going = true
is_going Halted = false
is_going Undefined = false

-- the most cycles that an instruction takes
abbrev pub longest : ℕ
longest = 4

-- '9: clock plus b, or plus 4 for a step, exceeds 4,294,967,295'
abbrev pub clock_full : ℕ → ℕ → Bool
clock_full clock b = ltb 4294967295 (clock + b)

-- 'Order: load 1, 7, lines; run and step 1, 8, 7, 9; view only 7.' '7: cycle due is not 1 (load, view, step), or outside 1 to 4
-- (run)': `due_right` is whether it is one that the call takes
unfoldable pub load_number : ℕ → Bool → ℕ
load_number L due_right = first_number ((1, wrong_length L) ∷ (7, not due_right) ∷ [])

unfoldable pub run_number : ℕ → Stop → Bool → ℕ → ℕ → ℕ
run_number L stop due_right clock b =
    first_number ((1, wrong_length L) ∷ (8, not (is_going stop)) ∷ (7, not due_right) ∷ (9, clock_full clock b) ∷ [])

unfoldable pub step_number : ℕ → Stop → Bool → ℕ → ℕ
step_number L stop due_right clock = run_number L stop due_right clock longest

unfoldable pub view_number : Bool → ℕ
view_number due_right = first_number ((7, not due_right) ∷ [])
