-- The table and `entry` are inverse to each other: one computed test each way. Assumes nothing.
use mathlib.Core.Path.{◌≡◌, refl, sym, ap, subst, ◌∙◌}
use mathlib.Core.Bool.{Bool, true, false, ◌&&◌}
use mathlib.Core.List.{List, [], ◌∷◌, map}
use Prim.Native.Nat.{ℕ, zero, suc, ◌+◌, ◌≤◌, ◌<◌}
use native.Mathlib.Nat.{add-zero, le_of_suc-le-suc, not-suc-le-zero}
use native.Mathlib.Omega.{arith}
use lib.Dec.{T, eqb, eqb→eq, lit<}
use lib.ListN.{length, get_or, get_or-map}
use Rattle.table.specs.Table.{table, place_of, kind_of, binary_entry, constant_entry, unary_entry, condition_rank, first_jump, jump_entry, entry}
use Rattle.isa.specs.declared.Kind.{Kind}
use Rattle.isa.specs.declared.Kind.TheVariants.{Undefined, Binary, Constant, Ld, St, Unary, Nop, Halt, Ldsp, Rts, Pop, Push, Jump, Call}
use Rattle.isa.specs.declared.BinaryOp.{BinaryOp}
use Rattle.isa.specs.declared.BinaryOp.TheVariants.{Add, Sub, And, Or, Xor}
use Rattle.isa.specs.declared.ConstantOp.{ConstantOp}
use Rattle.isa.specs.declared.ConstantOp.TheVariants.{Addi, Subi, Ldl, Ldh}
use Rattle.isa.specs.declared.UnaryOp.{UnaryOp}
use Rattle.isa.specs.declared.UnaryOp.TheVariants.{Sl0, Sl1, Sr0, Sr1, Not}
use Rattle.isa.specs.declared.Condition.{Condition}
use Rattle.isa.specs.declared.Condition.TheVariants.{Always, Negative, Zero, Carry, Overflow}
use Rattle.isa.specs.declared.Target.{Target}
use Rattle.isa.specs.declared.Target.TheVariants.{Relative, Absolute, Displaced}
use Rattle.table.proofs.Table.{kind_past}
use Rattle.table.proofs.Lines.{place_le, Line, line}

-- the list counts up from i
counts : ℕ → List ℕ → Bool
counts i [] = true
counts i (x ∷ xs) = eqb x i && counts (suc i) xs

and_left : (a b : Bool) → T (a && b) → T a
and_left true b t = tt
and_left false b t = t

and_right : (a b : Bool) → T (a && b) → T b
and_right true b t = t
and_right false b t = absurd t

counted : (xs : List ℕ) (i d : ℕ) → T (counts i xs) → d ≡ i + length xs → (k : ℕ) → k ≤ length xs → get_or xs k d ≡ i + k
unfolding counts
counted [] i d t e zero h = e
counted [] i d t e (suc k) h = absurd (not-suc-le-zero h)
counted (x ∷ xs) i d t e zero h = eqb→eq x i (and_left (eqb x i) (counts (suc i) xs) t) ∙ sym (add-zero i)
counted (x ∷ xs) i d t e (suc k) h =
    counted xs (suc i) d (and_right (eqb x i) (counts (suc i) xs) t) (omega (arith, e)) k (le_of_suc-le-suc h) ∙ omega arith

-- the kind at a place of the table stands at that place
pub entry_at : (n : ℕ) → n ≤ 40 → entry (get_or table n Undefined) ≡ n
unfolding table counts
entry_at n h =
    sym (get_or-map entry table n Undefined) ∙ counted (map entry table) 0 40 tt refl n h ∙ omega arith

pub entry_kind : (w : ℕ) → w < 65536 → entry (kind_of w) ≡ place_of w
unfolding kind_of
entry_kind w h = entry_at (place_of w) (place_le w h)

-- and at its own place each kind is found
pub kind_at : (k : Kind) → get_or table (entry k) Undefined ≡ k
unfolding table
kind_at Undefined = refl
kind_at (Binary op) = elim op as (λ o. get_or table (entry (Binary o)) Undefined ≡ Binary o) [ Add ↦ refl | Sub ↦ refl | And ↦ refl | Or ↦ refl | Xor ↦ refl ]
kind_at (Constant op) = elim op as (λ o. get_or table (entry (Constant o)) Undefined ≡ Constant o) [ Addi ↦ refl | Subi ↦ refl | Ldl ↦ refl | Ldh ↦ refl ]
kind_at Ld = refl
kind_at St = refl
kind_at (Unary op) = elim op as (λ o. get_or table (entry (Unary o)) Undefined ≡ Unary o) [ Sl0 ↦ refl | Sl1 ↦ refl | Sr0 ↦ refl | Sr1 ↦ refl | Not ↦ refl ]
kind_at Nop = refl
kind_at Halt = refl
kind_at Ldsp = refl
kind_at Rts = refl
kind_at Pop = refl
kind_at Push = refl
kind_at (Jump Always t) = elim t as (λ u. get_or table (entry (Jump Always u)) Undefined ≡ Jump Always u) [ Relative ↦ refl | Absolute ↦ refl | Displaced ↦ refl ]
kind_at (Jump Negative t) = elim t as (λ u. get_or table (entry (Jump Negative u)) Undefined ≡ Jump Negative u) [ Relative ↦ refl | Absolute ↦ refl | Displaced ↦ refl ]
kind_at (Jump Zero t) = elim t as (λ u. get_or table (entry (Jump Zero u)) Undefined ≡ Jump Zero u) [ Relative ↦ refl | Absolute ↦ refl | Displaced ↦ refl ]
kind_at (Jump Carry t) = elim t as (λ u. get_or table (entry (Jump Carry u)) Undefined ≡ Jump Carry u) [ Relative ↦ refl | Absolute ↦ refl | Displaced ↦ refl ]
kind_at (Jump Overflow t) = elim t as (λ u. get_or table (entry (Jump Overflow u)) Undefined ≡ Jump Overflow u) [ Relative ↦ refl | Absolute ↦ refl | Displaced ↦ refl ]
kind_at (Call target) = elim target as (λ u. get_or table (entry (Call u)) Undefined ≡ Call u) [ Relative ↦ refl | Absolute ↦ refl | Displaced ↦ refl ]

-- a word that stands where a kind does is of that kind
pub kind_by_place : (w : ℕ) (k : Kind) → place_of w ≡ entry k → kind_of w ≡ k
unfolding kind_of
kind_by_place w k e = ap (λ (n : ℕ). get_or table n Undefined) e ∙ kind_at k

-- a number that is none of the first k is k or more
abbrev None : ℕ → ℕ → Type 0
None n zero = Unit
None n (suc k) = None n k × (n ≡ k → ⊥)

none_below : (n k : ℕ) → None n k → k ≤ n
none_below n zero h = omega arith
none_below n (suc k) h = let below = none_below n k h.0 in omega (arith, below, h.1)

pub found_past : (w n : ℕ) → n ≡ place_of w → None n 40 → Undefined ≡ kind_of w
found_past w n p h = sym (kind_past w (subst (λ (m : ℕ). 40 ≤ m) p (none_below n 40 h)))

-- which line of the table an entry is on
pub binary_on_O : (op : BinaryOp) → binary_entry op < 11
binary_on_O op = elim op as (λ o. binary_entry o < 11) [ Add ↦ lit< tt | Sub ↦ lit< tt | And ↦ lit< tt | Or ↦ lit< tt | Xor ↦ lit< tt ]

pub constant_on_O : (op : ConstantOp) → constant_entry op < 11
constant_on_O op = elim op as (λ o. constant_entry o < 11) [ Addi ↦ lit< tt | Subi ↦ lit< tt | Ldl ↦ lit< tt | Ldh ↦ lit< tt ]

pub unary_on_B : (op : UnaryOp) → (11 ≤ unary_entry op) × (unary_entry op < 34)
unary_on_B op = elim op as (λ o. (11 ≤ unary_entry o) × (unary_entry o < 34)) [ Sl0 ↦ omega arith | Sl1 ↦ omega arith | Sr0 ↦ omega arith | Sr1 ↦ omega arith | Not ↦ omega arith ]

pub jump_on : (c : Condition) (t : Target) → (first_jump t ≤ jump_entry c t) × (jump_entry c t < first_jump t + 5)
jump_on c t = let h = below c in omega arith
  where
    below : (c : Condition) → condition_rank c < 5
    below c = elim c as (λ d. condition_rank d < 5) [ Always ↦ lit< tt | Negative ↦ lit< tt | Zero ↦ lit< tt | Carry ↦ lit< tt | Overflow ↦ lit< tt ]

-- the line of a word's own kind
pub line_of : (w : ℕ) → w < 65536 → (k : Kind) → kind_of w ≡ k → Line w (entry k)
line_of w h k e = subst (Line w) (sym (entry_kind w h) ∙ ap entry e) (line w h)
