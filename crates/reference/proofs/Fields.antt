-- The fields of a word with the digits o, t, a, b, and the kind that the table gives it.
use mathlib.Core.Path.{◌≡◌, ap}
use mathlib.Core.Logic.{inl, inr}
use mathlib.Core.Bool.{cond}
use Prim.Native.Nat.{ℕ, ◌+◌, ◌*◌, ◌/◌, ◌%◌, ◌<◌}
use native.Mathlib.Omega.{arith}
use lib.Dec.{ltb, eqb}
use lib.ListN.{get_or}
use borrow.Author.Tests.{le-ltb}
use Rattle.isa.specs.Fields as isa
use Rattle.isa.specs.declared.Kind.{Kind}
use Rattle.isa.specs.declared.Kind.TheVariants.{Undefined}
use Rattle.table.specs.Table.{table, place_of, kind_of}
use Rattle.reference.specs.Notation.{word, NoInstruction, k, d10, d12}

-- the kind by the fields that it goes by; at digits it computes
abbrev pub kind_by : ℕ → ℕ → ℕ → Kind
kind_by o b q =
    get_or table
    (cond (ltb o 11) o
    (cond (eqb o 11) (cond (ltb b 11) (11 + b) 40)
    (cond (eqb o 12) (cond (ltb b 12) (22 + b) 40)
    (cond (eqb o 13) 34
    (cond (eqb o 14) (35 + q) 39)))))
    Undefined

module _ (o t a b : ℕ) (ho : o < 16) (ht : t < 16) (ha : a < 16) (hb : b < 16) where
  pub field_t_lem : isa.field_t (word o t a b) ≡ t
  unfolding word
  field_t_lem = omega arith

  pub field_a_lem : isa.field_a (word o t a b) ≡ a
  unfolding word
  field_a_lem = omega arith

  pub field_b_lem : isa.field_b (word o t a b) ≡ b
  unfolding word
  field_b_lem = omega arith

  pub field_k_lem : isa.field_k (word o t a b) ≡ k a b
  unfolding word
  field_k_lem = omega arith

  pub kind_by_lem : (q : ℕ) → t / 4 ≡ q → kind_of (word o t a b) ≡ kind_by o b q
  unfolding word kind_of place_of
  kind_by_lem q e =
      let w : ℕ = word o t a b in
      let eo : isa.field_o w ≡ o = omega arith in
      let eq : isa.bits11to10 w ≡ q = omega (arith, e) in
      λ j. kind_by (eo j) (field_b_lem j) (eq j)

  pub bits12 : word o t a b % 4096 ≡ t * 0x100 + a * 0x10 + b
  unfolding word
  bits12 = omega arith

  pub long : isa.d12 (word o t a b) ≡ d12 t a b
  long = ap (isa.extended 2048) bits12

-- bits 9-0 of a word whose digit t is bits 11-10 and 9-8
pub bits10 : (o u q a b : ℕ) → u < 4 → a < 16 → b < 16 → word o (q * 4 + u) a b % 1024 ≡ u * 0x100 + a * 0x10 + b
unfolding word
bits10 o u q a b hu ha hb = omega arith

pub short : (o u q a b : ℕ) → u < 4 → a < 16 → b < 16 → isa.d10 (word o (q * 4 + u) a b) ≡ d10 u a b
short o u q a b hu ha hb = ap (isa.extended 512) (bits10 o u q a b hu ha hb)

-- the words that are of no kind
pub digit_o : (o b : ℕ) → NoInstruction o b → o < 16
digit_o o b (inl n) = omega (arith, n.0)
digit_o o b (inr n) = omega (arith, n.0)

pub no_kind : (o b q : ℕ) → NoInstruction o b → kind_by o b q ≡ Undefined
unfolding table
no_kind o b q (inl n) = rw (n.0, le-ltb b 11 n.1)
no_kind o b q (inr n) = rw (n.0, le-ltb b 12 n.1)
