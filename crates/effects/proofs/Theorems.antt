-- The theorems of specs/Theorems.antt: the cycles by cases on the kind, the stack by the place that both name.
use mathlib.Core.Path.{◌≡◌, refl, ap, ◌∙◌}
use mathlib.Core.Bool.{Bool, true, false}
use mathlib.Core.List.{List}
use Prim.Native.Nat.{ℕ, ◌<◌}
use native.Mathlib.Omega.{arith}
use lib.ListN.{length}
use lib.Seq.{get_or-set_same}
use Rattle.words.specs.Memory.{word_at, stored}
use Rattle.words.specs.Arithmetic.{sum, difference}
use Rattle.isa.specs.Control.{taken, second_register}
use Rattle.isa.specs.Cost.{jump_class}
use Rattle.isa.specs.declared.Kind.{Kind}
use Rattle.isa.specs.declared.Kind.TheVariants.{Undefined, Binary, Constant, Ld, St, Unary, Nop, Halt, Ldsp, Rts, Pop, Push, Jump, Call}
use Rattle.effects.specs.Effect.{to_rt, to_pc, to_sp, loaded}
use Rattle.effects.specs.Hidden.{with_ra_rb}
use Rattle.effects.specs.Table.{jumped, executed}
use Rattle.effects.specs.declared.Effect.{Effect}
use Rattle.effects.specs.Theorems.{EffectParts, HiddenParts, AsCycles, CyclesAgree, Idle, PastTheLast, AccessMade, StackExactly}

pub effect_parts : EffectParts
effect_parts v w f s x = (
  (refl, refl, refl, refl, refl, refl),
  (refl, refl, refl, refl, refl, refl),
  (refl, refl, refl, refl, refl, refl),
  (refl, refl, refl, refl, refl, refl),
  (refl, refl, refl, refl, refl, refl),
  (refl, refl, refl, refl, refl, refl),
)

pub hidden_parts : HiddenParts
hidden_parts v w h = ((refl, refl, refl, refl), (refl, refl, refl, refl), (refl, refl, refl, refl))

pub cycles_agree : CyclesAgree
cycles_agree Undefined t a b register M h x e = (λ z. absurd (let n : ◌≡◌ {A = ℕ} 0 1 = cc in omega arith), refl)
cycles_agree (Binary op) t a b register M h x e = (refl, refl)
cycles_agree (Constant op) t a b register M h x e = (refl, rw e)
cycles_agree Ld t a b register M h x e = (refl, refl)
cycles_agree St t a b register M h x e = (refl, refl)
cycles_agree (Unary op) t a b register M h x e = (refl, refl)
cycles_agree Nop t a b register M h x e = (refl, refl, refl)
cycles_agree Halt t a b register M h x e = (λ z. absurd (let n : ◌≡◌ {A = ℕ} 0 1 = cc in omega arith), refl)
cycles_agree Ldsp t a b register M h x e = (refl, refl)
cycles_agree Rts t a b register M h x e = (refl, refl)
cycles_agree Pop t a b register M h x e = (refl, refl)
cycles_agree Push t a b register M h x e = (refl, rw e)
cycles_agree (Jump condition target) t a b register M h x e = by_taken (taken condition x.flags) refl
  where
    by_taken : (goes : Bool) → taken condition x.flags ≡ goes
        → AsCycles (jump_class (taken condition x.flags)) (Jump condition target) (with_ra_rb (register a) (register b) h) M x
        (executed (Jump condition target) h.ir (register a) (register b) M x)
    by_taken true g = rw g (refl, cc)
    by_taken false g = rw g (refl, refl, refl)
cycles_agree (Call target) t a b register M h x e = (refl, refl)

-- what cycle 2 latches into RB, by the value or by the register
pub second_of : (k : Kind) (t b : ℕ) (register : ℕ → ℕ) → second_register k (register t) (register b) ≡ register (second_register k t b)
second_of Undefined t b register = refl
second_of (Binary op) t b register = refl
second_of (Constant op) t b register = refl
second_of Ld t b register = refl
second_of St t b register = refl
second_of (Unary op) t b register = refl
second_of Nop t b register = refl
second_of Halt t b register = refl
second_of Ldsp t b register = refl
second_of Rts t b register = refl
second_of Pop t b register = refl
second_of Push t b register = refl
second_of (Jump condition target) t b register = refl
second_of (Call target) t b register = refl

pub past_the_last : PastTheLast
past_the_last Undefined h M x = (refl, refl)
past_the_last (Binary op) h M x = tt
past_the_last (Constant op) h M x = tt
past_the_last Ld h M x = tt
past_the_last St h M x = tt
past_the_last (Unary op) h M x = tt
past_the_last Nop h M x = refl
past_the_last Halt h M x = (refl, refl)
past_the_last Ldsp h M x = tt
past_the_last Rts h M x = tt
past_the_last Pop h M x = tt
past_the_last Push h M x = tt
past_the_last (Jump condition target) h M x = by (taken condition x.flags) refl
  where
    by : (goes : Bool) → taken condition x.flags ≡ goes
        → Idle (jump_class (taken condition x.flags)) (Jump condition target) h M x
    by true g = rw g tt
    by false g = rw g (cc)
past_the_last (Call target) h M x = tt

-- a jump stores nothing
jump_stores : (goes : Bool) (target : ℕ) (x : Effect) → (jumped goes target x).store ≡ x.store
jump_stores true target x = refl
jump_stores false target x = refl

pub access_made : AccessMade
access_made Undefined h x e = λ M M'. (refl, e)
access_made (Binary op) h x e = λ M M'. (refl, e)
access_made (Constant op) h x e = λ M M'. (refl, e)
access_made Ld h x e = λ M M'. ((ap (λ (y : Effect). y.rt), ap (λ (word : ℕ). loaded word x)), e)
access_made St h x e = λ M M'. (refl, (x.rt, refl))
access_made (Unary op) h x e = λ M M'. (refl, e)
access_made Nop h x e = λ M M'. (refl, e)
access_made Halt h x e = λ M M'. (refl, e)
access_made Ldsp h x e = λ M M'. (refl, e)
access_made Rts h x e = λ M M'. ((ap (λ (y : Effect). y.pc), ap (λ (word : ℕ). to_pc word (to_sp h.ralu x))), e)
access_made Pop h x e = λ M M'. ((ap (λ (y : Effect). y.rt), ap (λ (word : ℕ). to_rt word (to_sp h.ralu x))), e)
access_made Push h x e = λ M M'. (refl, (h.rb, refl))
access_made (Jump condition target) h x e = λ M M'. (refl, jump_stores (taken condition x.flags) h.ralu x ∙ e)
access_made (Call target) h x e = λ M M'. (refl, (x.pc, refl))

-- one below, then one above
back : (sp : ℕ) → sp < 65536 → sum (difference sp 1) 1 ≡ sp
back sp h = omega arith

-- the word that was stacked is one above the SP that was left, and POP and RTS take it
module _ (M : List ℕ) (sp v : ℕ) (y : Effect) (l : sp < length M) (h : sp < 65536) (e : y.sp ≡ difference sp 1) where
  place : sum y.sp 1 ≡ sp
  place = ap (λ (sp : ℕ). sum sp 1) e ∙ back sp h

  word : word_at (stored M sp v) (sum y.sp 1) ≡ v
  word = ap (word_at (stored M sp v)) place ∙ get_or-set_same M sp v 0 l

  popped : (u ra rb : ℕ) → executed Pop u ra rb (stored M sp v) y ≡ to_rt v (to_sp sp y)
  popped u ra rb = let p = place in let w = word in λ j. to_rt (w j) (to_sp (p j) y)

  returned : (u ra rb : ℕ) → executed Rts u ra rb (stored M sp v) y ≡ to_pc v (to_sp sp y)
  returned u ra rb = let p = place in let w = word in λ j. to_pc (w j) (to_sp (p j) y)

pub stack_exactly : StackExactly
stack_exactly w ra rb u ra' rb' M x y target l h = (
  λ e. (popped M x.sp x.rt y l h e u ra' rb', returned M x.sp x.rt y l h e u ra' rb'),
  λ e. (popped M x.sp x.pc y l h e u ra' rb', returned M x.sp x.pc y l h e u ra' rb'),
)
