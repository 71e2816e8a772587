-- Beside the pages: the fresh core, and that unused fields are ignored, said by `unused`. Two statements, proved in proofs/Theorems.antt.
use Rattle.std.specs.Prelude.{◌≡◌, false, List, [], ◌∷◌, ℕ, ◌-◌, ◌<◌}
use Rattle.forms.specs.Theorems.{unused}
use Rattle.effects.specs.Effect.{applied}
use Rattle.effects.specs.declared.Stop.TheVariants.{Going}
use Rattle.r8_core.specs.Cores.{fresh_core, Visible, changed}
use Rattle.r8_core.specs.Instruction.{word_due, effect_of, after, memory_after, word_takes, takes}
use Rattle.r8_core.specs.Calls.{done, reset}
use Rattle.r8_core.specs.declared.Core.{Core}

-- 'A fresh or reset core has zero everywhere, is going, and has cycle 1 due'
abbrev pub zero_core : Core
zero_core =
    record {
      regs = 0 ∷ 0 ∷ 0 ∷ 0 ∷ 0 ∷ 0 ∷ 0 ∷ 0 ∷ 0 ∷ 0 ∷ 0 ∷ 0 ∷ 0 ∷ 0 ∷ 0 ∷ 0 ∷ [];
      pc = 0;
      sp = 0;
      flags = record { n = false; z = false; c = false; v = false };
      hidden = record { ir = 0; ra = 0; rb = 0; ralu = 0 };
      due = 1;
      stop = Going;
      clock = record { 0 = 0 };
    }

-- part by part; 'Reset leaves memory as it was and is never refused' (proved as `fresh_exactly`)
abbrev pub FreshExactly : Type 0
FreshExactly =
    (fresh_core ≡ zero_core)
    × ((c : Core) (M : List ℕ) → reset c M ≡ record { answer = done; core = zero_core; memory = M })

-- what the word w does as the instruction at PC: to registers, PC, SP, flags and stop state, to memory, and what it costs
abbrev pub does : ℕ → List ℕ → Visible → Visible × List ℕ × ℕ
does w M v = (changed w (effect_of w M v) v, applied (effect_of w M v).store M, word_takes w v.flags)

-- 'Fields the table does not use are ignored': the same word with them zero does the same. And what it does is what the instruction engine
-- does at that word (proved as `unused_ignored`)
abbrev pub UnusedIgnored : Type 0
UnusedIgnored =
    (M : List ℕ) (v : Visible)
    → ((w : ℕ) → w < 65536 → does w M v ≡ does (w - unused w) M v)
    × ((after M v, memory_after M v, takes M v) ≡ does (word_due M v) M v)
