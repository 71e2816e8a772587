-- Setting a part of an effect or of the hidden registers leaves all others. The cycles of an instruction, taken together, do what the
-- instruction table says; cycles past its last do nothing; cycle 4 makes the access that its kind names; and what is stacked is found again.
-- Six statements, proved in proofs/Theorems.antt.
use Rattle.std.specs.Prelude.{◌≡◌, ◌↔◌, List, ℕ, ◌<◌, length, Option, Some, None}
use Rattle.words.specs.Memory.{word_at}
use Rattle.isa.specs.Control.{second_register}
use Rattle.isa.specs.Cost.{class_of}
use Rattle.isa.specs.declared.Flags.{Flags}
use Rattle.isa.specs.declared.Class.{Class}
use Rattle.isa.specs.declared.Class.TheVariants.{Stop, Short, Full}
use Rattle.isa.specs.declared.Kind.{Kind}
use Rattle.isa.specs.declared.Kind.TheVariants.{Rts, Pop, Push, Call}
use Rattle.isa.specs.declared.Target.{Target}
use Rattle.alu.specs.Flags.{silent}
use Rattle.effects.specs.Effect.{to_rt, to_pc, to_sp, to_flags, stopping, storing, applied}
use Rattle.effects.specs.Hidden.{with_ir, with_ra_rb, with_ralu}
use Rattle.effects.specs.Access.{Access, none, read, write, access_of, address_of}
use Rattle.effects.specs.Table.{executed}
use Rattle.effects.specs.Cycles.{stop_of, calculated, written_back}
use Rattle.effects.specs.declared.Effect.{Effect}
use Rattle.effects.specs.declared.Hidden.{Hidden}
use Rattle.effects.specs.declared.Store.{Store}
use Rattle.effects.specs.declared.Stop as stop
use Rattle.effects.specs.declared.Stop.TheVariants.{Going}

-- an effect with these parts
abbrev pub EffectHas : ℕ → ℕ → ℕ → Flags → stop.Stop → Option Store → Effect → Type 0
EffectHas rt pc sp flags stop store x =
    (x.rt ≡ rt) × (x.pc ≡ pc) × (x.sp ≡ sp) × (x.flags ≡ flags) × (x.stop ≡ stop) × (x.store ≡ store)

-- each setter of Effect sets its part and leaves all others (proved as `effect_parts`)
abbrev pub EffectParts : Type 0
EffectParts =
    (v w : ℕ) (f : Flags) (s : stop.Stop) (x : Effect)
    → EffectHas v x.pc x.sp x.flags x.stop x.store (to_rt v x)
    × EffectHas x.rt v x.sp x.flags x.stop x.store (to_pc v x)
    × EffectHas x.rt x.pc v x.flags x.stop x.store (to_sp v x)
    × EffectHas x.rt x.pc x.sp f x.stop x.store (to_flags f x)
    × EffectHas x.rt x.pc x.sp x.flags s x.store (stopping s x)
    × EffectHas x.rt x.pc x.sp x.flags x.stop (Some (record { address = v; word = w })) (storing v w x)

-- hidden registers with these parts; and each setter of Hidden sets its own and leaves all others (proved as `hidden_parts`)
abbrev pub HiddenHas : ℕ → ℕ → ℕ → ℕ → Hidden → Type 0
HiddenHas IR RA RB RALU h = (h.ir ≡ IR) × (h.ra ≡ RA) × (h.rb ≡ RB) × (h.ralu ≡ RALU)

abbrev pub HiddenParts : Type 0
HiddenParts =
    (v w : ℕ) (h : Hidden)
    → HiddenHas v h.ra h.rb h.ralu (with_ir v h)
    × HiddenHas h.ir v w h.ralu (with_ra_rb v w h)
    × HiddenHas h.ir h.ra h.rb v (with_ralu v h)

-- `whole` is what the table says of the instruction. By its class: of 2 cycles, cycle 2 stops, and the table does just that; of 3, cycle 2
-- does not stop, cycle 3 leaves the flags, and the table changes nothing; of 4, cycle 2 does not stop, and the table does what cycle 4
-- writes back from the value and the flags of cycle 3
abbrev pub AsCycles : Class → Kind → Hidden → List ℕ → Effect → Effect → Type 0
AsCycles Stop k h M x whole = (stop_of k ≡ Going → ⊥) × (whole ≡ stopping (stop_of k) x)
AsCycles Short k h M x whole = (stop_of k ≡ Going) × ((calculated k h x).flags ≡ x.flags) × (whole ≡ x)
AsCycles Full k h M x whole =
    (stop_of k ≡ Going)
    × (whole ≡ written_back k (with_ralu (calculated k h x).value h) M (to_flags (calculated k h x).flags x))

-- for every kind, word in IR and register bank: RA and RB are as cycle 2 latches them, for any fields t, a and b (proved as `cycles_agree`)
abbrev pub CyclesAgree : Type 0
CyclesAgree =
    (k : Kind) (t a b : ℕ) (register : ℕ → ℕ) (M : List ℕ) (h : Hidden) (x : Effect) → x.rt ≡ register t
    → AsCycles (class_of k x.flags) k (with_ra_rb (register a) (register (second_register k t b)) h) M x
    (executed k h.ir (register a) (register b) M x)

-- What cycles past the last of an instruction do, which only a core that no call made comes to: cycle 3 leaves RALU and the flags where
-- the cost is 2, and cycle 4 writes nothing back where it is 2 or 3
abbrev pub Idle : Class → Kind → Hidden → List ℕ → Effect → Type 0
Idle Stop k h M x = (calculated k h x ≡ silent h.ralu x.flags) × (written_back k h M x ≡ x)
Idle Short k h M x = written_back k h M x ≡ x
Idle Full k h M x = Unit

-- whatever the hidden registers hold (proved as `past_the_last`)
abbrev pub PastTheLast : Type 0
PastTheLast = (k : Kind) (h : Hidden) (M : List ℕ) (x : Effect) → Idle (class_of k x.flags) k h M x

-- What an access comes to, f being what cycle 4 writes back, by the memory. A read sees the word at its address, which comes out, and no other; a
-- write stores one word, at its address; what makes no access does neither
abbrev pub Accesses : Access → ℕ → (List ℕ → Effect) → Type 0
Accesses none address f = (M M' : List ℕ) → (f M ≡ f M') × ((f M).store ≡ None)
Accesses read address f = (M M' : List ℕ) → ((f M ≡ f M') ↔ (word_at M address ≡ word_at M' address)) × ((f M).store ≡ None)
Accesses write address f = (M M' : List ℕ) → (f M ≡ f M') × ((word : ℕ) × ((f M).store ≡ Some (record { address = address; word = word })))

-- cycle 4 of LD, POP and RTS reads, that of ST, PUSH and the calls stores, and that of no other kind does either (proved as `access_made`)
abbrev pub AccessMade : Type 0
AccessMade =
    (k : Kind) (h : Hidden) (x : Effect) → x.store ≡ None
    → Accesses (access_of k) (address_of k h x) (λ M. written_back k h M x)

-- 'PUSH: M(SP) takes Rt, then SP-1', 'A call stores PC at M(SP), then SP-1', 'RTS: PC takes M(SP+1), SP+1', 'POP: Rt likewise': in the
-- memory and with the SP that a PUSH or a call left, POP and RTS take the word that it stacked (Rt, or PC, which is one past the call),
-- and SP is as before. The words w and u and the other registers are free; SP is a word, and below L, where a word is not lost (proved
-- as `stack_exactly`)
abbrev pub StackExactly : Type 0
StackExactly =
    (w ra rb u ra' rb' : ℕ) (M : List ℕ) (x y : Effect) (target : Target) → x.sp < length M → x.sp < 65536
    → (y.sp ≡ (executed Push w ra rb M x).sp
    → (executed Pop u ra' rb' (applied (executed Push w ra rb M x).store M) y ≡ to_rt x.rt (to_sp x.sp y))
    × (executed Rts u ra' rb' (applied (executed Push w ra rb M x).store M) y ≡ to_pc x.rt (to_sp x.sp y)))
    × (y.sp ≡ (executed (Call target) w ra rb M x).sp
    → (executed Pop u ra' rb' (applied (executed (Call target) w ra rb M x).store M) y ≡ to_rt x.pc (to_sp x.sp y))
    × (executed Rts u ra' rb' (applied (executed (Call target) w ra rb M x).store M) y ≡ to_pc x.pc (to_sp x.sp y)))
