-- What an instruction can change (the struct `Effect`), one part at a time: no other definition writes one out.
use Rattle.std.specs.Prelude.{ℕ, List, Option, Some, None}
use Rattle.words.specs.Memory as words
use Rattle.words.specs.Arithmetic.{difference}
use Rattle.isa.specs.declared.Flags.{Flags}
use Rattle.alu.specs.declared.Outcome.{Outcome}
use Rattle.effects.specs.declared.Effect.{Effect}
use Rattle.effects.specs.declared.Stop.{Stop}
use Rattle.effects.specs.declared.Store.{Store}

-- as it is before an instruction: nothing to store
abbrev pub untouched : ℕ → ℕ → ℕ → Flags → Stop → Effect
untouched rt pc sp flags stop = record { rt = rt; pc = pc; sp = sp; flags = flags; stop = stop; store = None }

-- 'Rt takes ..', 'PC takes ..', 'SP takes ..'
abbrev pub to_rt : ℕ → Effect → Effect
to_rt v x = record { rt = v; pc = x.pc; sp = x.sp; flags = x.flags; stop = x.stop; store = x.store }

abbrev pub to_pc : ℕ → Effect → Effect
to_pc v x = record { rt = x.rt; pc = v; sp = x.sp; flags = x.flags; stop = x.stop; store = x.store }

abbrev pub to_sp : ℕ → Effect → Effect
to_sp v x = record { rt = x.rt; pc = x.pc; sp = v; flags = x.flags; stop = x.stop; store = x.store }

-- flags and stop state are set
abbrev pub to_flags : Flags → Effect → Effect
to_flags f x = record { rt = x.rt; pc = x.pc; sp = x.sp; flags = f; stop = x.stop; store = x.store }

abbrev pub stopping : Stop → Effect → Effect
stopping s x = record { rt = x.rt; pc = x.pc; sp = x.sp; flags = x.flags; stop = s; store = x.store }

-- 'M(address) takes ..'
abbrev pub storing : ℕ → ℕ → Effect → Effect
storing a v x = record { rt = x.rt; pc = x.pc; sp = x.sp; flags = x.flags; stop = x.stop; store = Some (record { address = a; word = v }) }

-- a result of arithmetic: Rt takes the value, and the flags are those after it
abbrev pub arithmetic_result : Outcome → Effect → Effect
arithmetic_result o x = to_flags o.flags (to_rt o.value x)

-- a word that LD reads: Rt takes it, and the flags are as they were
abbrev pub loaded : ℕ → Effect → Effect
loaded word x = to_rt word x

-- 'M(SP) takes ..', then 'SP-1'
abbrev pub pushed : ℕ → Effect → Effect
pushed v x = to_sp (difference x.sp 1) (storing x.sp v x)

-- the memory after a store
abbrev pub applied : Option Store → List ℕ → List ℕ
applied None memory = memory
applied (Some store) memory = words.stored memory store.address store.word
