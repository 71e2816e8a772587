-- The page of the forms: what a form says of a word, by the word's digits.
use mathlib.Core.Path.{◌≡◌, refl, sym, ap, ◌∙◌}
use Prim.Native.Nat.{ℕ, ◌+◌, ◌*◌, ◌/◌, ◌%◌, ◌<◌}
use native.Mathlib.Omega.{arith}
use lib.Dec.{lit<}
use Rattle.isa.specs.Fields.{field_t, field_a, field_b, field_k}
use Rattle.table.specs.Table.{table, kind_of}
use Rattle.forms.specs.Theorems.{with_sign}
use Rattle.forms.proofs.Means.{form_means}
use Rattle.forms.proofs.Theorems.{refused_word}
use Rattle.reference.specs.Notation.{word, k, s10}
use Rattle.reference.specs.Forms.{FormsExactly}
use Rattle.reference.proofs.Fields as fields
use Rattle.reference.proofs.Fields.{kind_by}

-- the kind of a word by its digits, with the fields that its form has
module _ (t a : ℕ) (ht : t < 16) (ha : a < 16) (o b : ℕ) (ho : o < 16) (hb : b < 16) where
  kind : kind_of (word o t a b) ≡ kind_by o b (t / 4)
  kind = fields.kind_by_lem o t a b ho ht ha hb (t / 4) refl

  with_t : (kind_of (word o t a b) ≡ kind_by o b (t / 4)) × (t ≡ field_t (word o t a b))
  with_t = (kind, sym (fields.field_t_lem o t a b ho ht ha hb))

  with_a : (kind_of (word o t a b) ≡ kind_by o b (t / 4)) × (a ≡ field_a (word o t a b))
  with_a = (kind, sym (fields.field_a_lem o t a b ho ht ha hb))

  with_ta : (kind_of (word o t a b) ≡ kind_by o b (t / 4)) × (t ≡ field_t (word o t a b)) × (a ≡ field_a (word o t a b))
  with_ta = (kind, with_t.1, with_a.1)

  with_tk : (kind_of (word o t a b) ≡ kind_by o b (t / 4)) × (t ≡ field_t (word o t a b)) × (k a b ≡ field_k (word o t a b))
  with_tk = (kind, with_t.1, sym (fields.field_k_lem o t a b ho ht ha hb))

  with_tab :
      (kind_of (word o t a b) ≡ kind_by o b (t / 4)) × (t ≡ field_t (word o t a b)) × (a ≡ field_a (word o t a b))
      × (b ≡ field_b (word o t a b))
  with_tab = (kind, with_t.1, with_a.1, sym (fields.field_b_lem o t a b ho ht ha hb))

-- D and E: the kind, and the displacement
shorts : (a b u : ℕ) → a < 16 → b < 16 → u < 4 → (o q : ℕ) → o < 16 → q < 4
    → (kind_of (word o (q * 4 + u) a b) ≡ kind_by o b q) × (s10 u a b ≡ with_sign 512 (word o (q * 4 + u) a b % 1024))
shorts a b u ha hb hu o q ho hq = (
  fields.kind_by_lem o (q * 4 + u) a b ho (omega arith) ha hb q (omega arith),
  sym (ap (with_sign 512) (fields.bits10 o u q a b hu ha hb)),
)

pub forms_exactly : FormsExactly
unfolding table
forms_exactly t a b u q ht ha hb hu hq =
    let kind = kind t a ht ha in
    let with_t = with_t t a ht ha in
    let with_a = with_a t a ht ha in
    let with_ta = with_ta t a ht ha in
    let with_tk = with_tk t a ht ha in
    let with_tab = with_tab t a ht ha in
    let short = shorts a b u ha hb hu in
    record {
      ADD = (form_means _ _).1 (with_tab 0x0 b (lit< tt) hb);
      SUB = (form_means _ _).1 (with_tab 0x1 b (lit< tt) hb);
      AND = (form_means _ _).1 (with_tab 0x2 b (lit< tt) hb);
      OR = (form_means _ _).1 (with_tab 0x3 b (lit< tt) hb);
      XOR = (form_means _ _).1 (with_tab 0x4 b (lit< tt) hb);
      ADDI = (form_means _ _).1 (with_tk 0x5 b (lit< tt) hb);
      SUBI = (form_means _ _).1 (with_tk 0x6 b (lit< tt) hb);
      LDL = (form_means _ _).1 (with_tk 0x7 b (lit< tt) hb);
      LDH = (form_means _ _).1 (with_tk 0x8 b (lit< tt) hb);
      LD = (form_means _ _).1 (with_tab 0x9 b (lit< tt) hb);
      ST = (form_means _ _).1 (with_tab 0xA b (lit< tt) hb);
      SL0 = (form_means _ _).1 (with_ta 0xB 0x0 (lit< tt) (lit< tt));
      SL1 = (form_means _ _).1 (with_ta 0xB 0x1 (lit< tt) (lit< tt));
      SR0 = (form_means _ _).1 (with_ta 0xB 0x2 (lit< tt) (lit< tt));
      SR1 = (form_means _ _).1 (with_ta 0xB 0x3 (lit< tt) (lit< tt));
      NOT = (form_means _ _).1 (with_ta 0xB 0x4 (lit< tt) (lit< tt));
      NOP = (form_means _ _).1 (kind 0xB 0x5 (lit< tt) (lit< tt));
      HALT = (form_means _ _).1 (kind 0xB 0x6 (lit< tt) (lit< tt));
      LDSP = (form_means _ _).1 (with_a 0xB 0x7 (lit< tt) (lit< tt));
      RTS = (form_means _ _).1 (kind 0xB 0x8 (lit< tt) (lit< tt));
      POP = (form_means _ _).1 (with_t 0xB 0x9 (lit< tt) (lit< tt));
      PUSH = (form_means _ _).1 (with_t 0xB 0xA (lit< tt) (lit< tt));
      JMPR = (form_means _ _).1 (with_a 0xC 0x0 (lit< tt) (lit< tt));
      JMPNR = (form_means _ _).1 (with_a 0xC 0x1 (lit< tt) (lit< tt));
      JMPZR = (form_means _ _).1 (with_a 0xC 0x2 (lit< tt) (lit< tt));
      JMPCR = (form_means _ _).1 (with_a 0xC 0x3 (lit< tt) (lit< tt));
      JMPVR = (form_means _ _).1 (with_a 0xC 0x4 (lit< tt) (lit< tt));
      JMP = (form_means _ _).1 (with_a 0xC 0x5 (lit< tt) (lit< tt));
      JMPN = (form_means _ _).1 (with_a 0xC 0x6 (lit< tt) (lit< tt));
      JMPZ = (form_means _ _).1 (with_a 0xC 0x7 (lit< tt) (lit< tt));
      JMPC = (form_means _ _).1 (with_a 0xC 0x8 (lit< tt) (lit< tt));
      JMPV = (form_means _ _).1 (with_a 0xC 0x9 (lit< tt) (lit< tt));
      JSRR = (form_means _ _).1 (with_a 0xC 0xA (lit< tt) (lit< tt));
      JSR = (form_means _ _).1 (with_a 0xC 0xB (lit< tt) (lit< tt));
      JMPD = (form_means _ _).1 (short 0xD q (lit< tt) hq);
      JMPND = (form_means _ _).1 (short 0xE 0 (lit< tt) (lit< tt));
      JMPZD = (form_means _ _).1 (short 0xE 1 (lit< tt) (lit< tt));
      JMPCD = (form_means _ _).1 (short 0xE 2 (lit< tt) (lit< tt));
      JMPVD = (form_means _ _).1 (short 0xE 3 (lit< tt) (lit< tt));
      JSRD = (form_means _ _).1 (kind 0xF b (lit< tt) hb, sym (ap (with_sign 2048) (fields.bits12 0xF t a b (lit< tt) ht ha hb)));
      undefined = λ o n. (refused_word _ 6).1 (kind o b (fields.digit_o o b n) hb ∙ fields.no_kind o b (t / 4) n, refl);
    }
