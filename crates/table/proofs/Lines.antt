-- Words and entries of the table, there and back, over all fields at one go. Assumes nothing.
use mathlib.Core.Path.{◌≡◌, ◌∙◌}
use Prim.Native.Nat.{ℕ, ◌+◌, ◌%◌, ◌≤◌, ◌<◌}
use native.Mathlib.Omega.{arith}
use native.Mathlib.Decide.{dec_lt, ℕ_discrete}
use Rattle.isa.specs.Fields.{field_o, field_b}
use Rattle.table.specs.Table.{place_of, word_of}
use Rattle.table.proofs.Table.{place_O, place_B, place_B_undefined, place_C, place_C_undefined, place_D, place_E, place_F, word_O, word_B, word_C, word_D, word_E, word_F}

-- an argument by the lines of the table
pub by_line : (w : ℕ) → w < 65536 → {P : Type 0} → (field_o w < 11 → P) → (field_o w ≡ 11 → field_b w < 11 → P)
    → (field_o w ≡ 11 → 11 ≤ field_b w → P) → (field_o w ≡ 12 → field_b w < 12 → P) → (field_o w ≡ 12 → 12 ≤ field_b w → P)
    → (field_o w ≡ 13 → P) → (field_o w ≡ 14 → P) → (field_o w ≡ 15 → P) → P
by_line w h {P} o b b' c c' d e f =
    elim (dec_lt (field_o w) 11) as (λ _. P) [
      | yes l ↦ o l
      | no n ↦
          elim (ℕ_discrete (field_o w) 11) as (λ _. P) [
            | yes l ↦ elim (dec_lt (field_b w) 11) as (λ _. P) [ yes m ↦ b l m | no m ↦ b' l (omega arith) ]
            | no n₁ ↦
                elim (ℕ_discrete (field_o w) 12) as (λ _. P) [
                  | yes l ↦ elim (dec_lt (field_b w) 12) as (λ _. P) [ yes m ↦ c l m | no m ↦ c' l (omega arith) ]
                  | no n₂ ↦
                      elim (ℕ_discrete (field_o w) 13) as (λ _. P) [
                        | yes l ↦ d l
                        | no n₃ ↦
                            elim (ℕ_discrete (field_o w) 14) as (λ _. P) [ yes l ↦ e l | no n₄ ↦ f (omega arith) ]
                      ]
                ]
          ]
    ]

pub place_le : (w : ℕ) → w < 65536 → place_of w ≤ 40
place_le w h =
    by_line w h
    (λ l. omega (arith, place_O w l))
    (λ l m. omega (arith, place_B w l m))
    (λ l m. omega (arith, place_B_undefined w l m))
    (λ l m. omega (arith, place_C w l m))
    (λ l m. omega (arith, place_C_undefined w l m))
    (λ l. omega (arith, place_D w l))
    (λ l. omega (arith, place_E w l))
    (λ l. omega (arith, place_F w l))

-- a word w that stands at n is the word of entry n with the rest of its fields added: below o, beside b, or below bits 11-10
abbrev pub Line : ℕ → ℕ → Type 0
Line w n =
    (n < 11 → word_of n + w % 4096 ≡ w) × (11 ≤ n → n < 34 → word_of n + w % 4096 ≡ w + w % 16)
    × (n ≡ 34 → word_of n + w % 4096 ≡ w)
    × (35 ≤ n → n < 39 → word_of n + w % 1024 ≡ w)
    × (n ≡ 39 → word_of n + w % 4096 ≡ w)

pub line : (w : ℕ) → w < 65536 → Line w (place_of w)
line w h =
    by_line w h
    (λ l. let e = place_O w l in omega (arith, e, word_O (place_of w) (omega (arith, e))))
    (λ l m. let e = place_B w l m in omega (arith, e, word_B (place_of w) (omega (arith, e)) (omega (arith, e))))
    (λ l m. omega (arith, place_B_undefined w l m))
    (λ l m. let e = place_C w l m in omega (arith, e, word_C (place_of w) (omega (arith, e)) (omega (arith, e))))
    (λ l m. omega (arith, place_C_undefined w l m))
    (λ l. let e = place_D w l in omega (arith, e, word_D (place_of w) (omega (arith, e)) (omega (arith, e))))
    (λ l. let e = place_E w l in omega (arith, e, word_E (place_of w) (omega (arith, e)) (omega (arith, e))))
    (λ l. let e = place_F w l in omega (arith, e, word_F (place_of w) (omega (arith, e))))

-- and what is so added leaves a word at its entry
module _ (n x : ℕ) where
  pub place_word_O : n < 11 → x < 4096 → place_of (word_of n + x) ≡ n
  place_word_O h l = let e = word_O n h in place_O (word_of n + x) (omega (arith, e)) ∙ omega (arith, e)

  pub place_word_BC : 11 ≤ n → n < 34 → x < 4096 → x % 16 ≡ 0 → place_of (word_of n + x) ≡ n
  place_word_BC g h l z =
      elim (dec_lt n 22) [
        | yes m ↦ let e = word_B n g m in place_B (word_of n + x) (omega (arith, e)) (omega (arith, e)) ∙ omega (arith, e)
        | no m ↦
            let e = word_C n (omega arith) h in place_C (word_of n + x) (omega (arith, e)) (omega (arith, e)) ∙ omega (arith, e)
      ]

  pub place_word_DE : 34 ≤ n → n < 39 → x < 1024 → place_of (word_of n + x) ≡ n
  place_word_DE g h l =
      elim (dec_lt n 35) [
        | yes m ↦ let e = word_D n g m in place_D (word_of n + x) (omega (arith, e)) ∙ omega arith
        | no m ↦ let e = word_E n (omega arith) h in place_E (word_of n + x) (omega (arith, e)) ∙ omega (arith, e)
      ]

  pub place_word_F : n ≡ 39 → x < 4096 → place_of (word_of n + x) ≡ n
  place_word_F g l = let e = word_F n (omega arith) in place_F (word_of n + x) (omega (arith, e)) ∙ omega arith

-- what the word of an entry has in its fields
module _ (n : ℕ) where
  pub word_le : word_of n ≤ 0xF000
  word_le =
      elim (dec_lt n 11) [
        | yes a ↦ omega (arith, word_O n a)
        | no a ↦
            elim (dec_lt n 22) [
              | yes b ↦ omega (arith, word_B n (omega arith) b)
              | no b ↦
                  elim (dec_lt n 34) [
                    | yes c ↦ omega (arith, word_C n (omega arith) c)
                    | no c ↦
                        elim (dec_lt n 35) [
                          | yes d ↦ omega (arith, word_D n (omega arith) d)
                          | no d ↦
                              elim (dec_lt n 39) [ yes e ↦ omega (arith, word_E n (omega arith) e) | no e ↦ omega (arith, word_F n (omega arith)) ]
                        ]
                  ]
            ]
      ]

  pub word_BC : 11 ≤ n → n < 34 → word_of n % 4096 < 16
  word_BC g h =
      elim (dec_lt n 22) [ yes m ↦ omega (arith, word_B n g m) | no m ↦ omega (arith, word_C n (omega arith) h) ]

  pub word_DE : 34 ≤ n → n < 39 → word_of n % 1024 ≡ 0
  word_DE g h =
      elim (dec_lt n 35) [ yes m ↦ omega (arith, word_D n g m) | no m ↦ omega (arith, word_E n (omega arith) h) ]
