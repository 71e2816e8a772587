-- The theorems of specs/Theorems.antt. Assumes nothing.
use mathlib.Core.Path.{◌≡◌, refl, sym, ap, ap₂, ◌∙◌}
use mathlib.Core.Logic.{inl, inr, ⊎_elim}
use mathlib.Core.Bool.{◌&&◌, ◌||◌}
use Prim.Native.Nat.{ℕ, ◌+◌, ◌*◌, ◌<◌}
use native.Mathlib.Omega.{arith}
use lib.Dec.{eqb, leb, lit<}
use borrow.Author.Tests.{le-leb, lt-leb, ne_eqb}
use Rattle.words.specs.Arithmetic.{bit}
use Rattle.isa.specs.Fields.{field_o, field_b, bits11to10}
use Rattle.table.specs.Table.{table, place_of, kind_of, entry}
use Rattle.table.specs.Theorems.{TableEntries, UndefinedExactly, over_digits, how_many, UndefinedCount}
use Rattle.table.proofs.Table.{place_O, place_B, place_B_undefined, place_C, place_C_undefined, place_D, place_E, place_F, kind_past}
use Rattle.table.proofs.Lines.{by_line}
use Rattle.table.proofs.Entries.{kind_at, entry_at, entry_kind}

pub table_entries : TableEntries
unfolding table
table_entries = (refl, kind_at, entry_at)

pub undefined_exactly : UndefinedExactly
undefined_exactly w h = (
  λ q.
      let n : place_of w ≡ 40 = sym (entry_kind w h) ∙ ap entry q in
      by_line w h
      (λ l. absurd (omega (arith, place_O w l)))
      (λ l m. absurd (omega (arith, place_B w l m)))
      (λ l m. inl (l, m))
      (λ l m. absurd (omega (arith, place_C w l m)))
      (λ l m. inr (l, m))
      (λ l. absurd (omega (arith, place_D w l)))
      (λ l. absurd (omega (arith, place_E w l)))
      (λ l. absurd (omega (arith, place_F w l))),
  ⊎_elim
      (λ p. kind_past w (omega (arith, place_B_undefined w p.0 p.1)))
      (λ p. kind_past w (omega (arith, place_C_undefined w p.0 p.1))),
)

-- whether a word is undefined goes by o and b alone
by_digits : ℕ → ℕ → ℕ
by_digits o b = bit ((eqb o 11 && leb 11 b) || (eqb o 12 && leb 12 b))

undefined_by_digits : (w : ℕ) → w < 65536 → bit (eqb (entry (kind_of w)) 40) ≡ by_digits (field_o w) (field_b w)
unfolding by_digits
undefined_by_digits w h =
    rw (entry_kind w h)
    (by_line w h
    (λ l. rw (place_O w l, ne_eqb (field_o w) 40 (λ e. omega arith), ne_eqb (field_o w) 11 (λ e. omega arith), ne_eqb (field_o w) 12 (λ e. omega arith)))
    (λ l m. rw (place_B w l m, ne_eqb (11 + field_b w) 40 (λ e. omega arith), l, lt-leb 11 (field_b w) m))
    (λ l m. rw (place_B_undefined w l m, l, le-leb 11 (field_b w) m))
    (λ l m. rw (place_C w l m, ne_eqb (22 + field_b w) 40 (λ e. omega arith), l, lt-leb 12 (field_b w) m))
    (λ l m. rw (place_C_undefined w l m, l, le-leb 12 (field_b w) m))
    (λ l. rw (place_D w l, l))
    (λ l. rw (place_E w l, ne_eqb (35 + bits11to10 w) 40 (λ e. omega arith), l))
    (λ l. rw (place_F w l, l)))

over_cong : (f g : ℕ → ℕ) → ((d : ℕ) → d < 16 → f d ≡ g d) → over_digits f ≡ over_digits g
over_cong f g h =
    rw
    (h 0 (lit< tt), h 1 (lit< tt), h 2 (lit< tt), h 3 (lit< tt), h 4 (lit< tt), h 5 (lit< tt), h 6 (lit< tt), h 7 (lit< tt), h 8 (lit< tt), h 9 (lit< tt), h 10 (lit< tt), h 11 (lit< tt), h 12 (lit< tt), h 13 (lit< tt), h 14 (lit< tt), h 15 (lit< tt))

over_const : (c : ℕ) → over_digits (λ _. c) ≡ 16 * c
over_const c = omega arith

at_digits : (o t a b : ℕ) → o < 16 → t < 16 → a < 16 → b < 16
    → bit (eqb (entry (kind_of (o * 4096 + t * 256 + a * 16 + b))) 40) ≡ by_digits o b
at_digits o t a b p q r s =
    let w : ℕ = o * 4096 + t * 256 + a * 16 + b in
    let x : field_o w ≡ o = omega arith in
    let y : field_b w ≡ b = omega arith in
    undefined_by_digits w (omega arith) ∙ ap₂ by_digits x y

pub undefined_count : UndefinedCount
unfolding how_many by_digits
undefined_count =
    over_cong _ _ (λ o p. over_cong _ _ (λ t q. over_cong _ _ (λ a r. over_cong _ (by_digits o) (λ b s. at_digits o t a b p q r s))))
    ∙ over_cong _ (λ o. 16 * (16 * over_digits (by_digits o)))
    (λ o _. over_cong _ (λ t. 16 * over_digits (by_digits o)) (λ t _. over_const (over_digits (by_digits o))) ∙ over_const (16 * over_digits (by_digits o)))
