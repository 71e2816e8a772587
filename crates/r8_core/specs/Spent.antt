-- Document 01, 'Calls and the instruction machine': 'cycles spent (0 to 3), compared with the cycle due less one'. Numbers, letters, what is
-- compared with the machine and the theorems on the engines ask these three. The cycle due itself is named by the datapath, by what hands a
-- core out, and by the theorems that have document 01's own words; `SpentExactly` joins the two.
use Rattle.std.specs.Prelude.{Bool, false, cond, ℕ, ◌-◌, eqb, leb}
use Rattle.r8_core.specs.declared.Core.{Core}

-- the cycles that are spent in an unfinished instruction
abbrev pub spent_of : Core → ℕ
spent_of core = core.due - 1

-- is the cycle due one of 1 to 4
abbrev pub due_in_range : Core → Bool
due_in_range core = cond (leb 1 core.due) (leb core.due 4) false

-- 'cycle 1 is due when s is 0'
abbrev pub due_one : Core → Bool
due_one core = cond (due_in_range core) (eqb (spent_of core) 0) false
