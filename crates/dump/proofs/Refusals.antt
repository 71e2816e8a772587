-- The theorem `DumpNumbers` of specs/Theorems.antt: the tests mean what it says, and the call is refused exactly where a number applies. And what a
-- call that is taken has. Assumes nothing.
use mathlib.Core.Path.{◌≡◌, refl, sym, ap, ◌∙◌}
use mathlib.Core.Logic.{◌↔◌, ◌⊎◌, inl, inr}
use mathlib.Core.Bool.{Bool, true, false, cond}
use mathlib.Core.List.{List, ◌++◌}
use Prim.Native.Nat.{ℕ, ◌+◌, ◌*◌, ◌≤◌, ◌<◌}
use native.Mathlib.Omega.{arith}
use borrow.Author.Tests.{ltb-true, ltb-false, lt-ltb, eqb-true, eqb-false}
use lib.Dec.{eqb, ltb}
use lib.ListN.{length, drop}
use Rattle.refusals.specs.Refusals.{wrong_length}
use Rattle.refusals.specs.Theorems.{First, NoneApplies, Means}
use Rattle.refusals.proofs.First.{clash, no_more, more, first_exactly, none_applies, length_exactly}
use Rattle.dump.specs.Dump.{listing_text, past_end, too_short, dump_number, written, refused, refused_at, refusal, Dumped, dumped}
use Rattle.dump.specs.Theorems.{dump_numbers, DumpNumbers}

right_length : (L : ℕ) → wrong_length L ≡ false → L ≤ 65536
right_length L = by (eqb L 0) where
  by : (b : Bool) → cond b true (ltb 65536 L) ≡ false → L ≤ 65536
  by true e = let z : ◌≡◌ {A = ℕ} 0 1 = cc in absurd (omega arith)
  by false e = ltb-false 65536 L e

above_means : (n m : ℕ) → Means (ltb n m) (n < m)
above_means n m = (λ e. ltb-true n m e, λ e h. clash (lt-ltb n m h) e)

-- an answer is of one kind
not_refused : (n bytes : ℕ) {A : Type 0} → written bytes ≡ refused n → A
not_refused n bytes e = let z : ◌≡◌ {A = ℕ} 0 1 = cc in absurd (omega arith)

not_refused_at : (n offset bytes : ℕ) {A : Type 0} → written bytes ≡ refused_at n offset → A
not_refused_at n offset bytes e = let z : ◌≡◌ {A = ℕ} 0 1 = cc in absurd (omega arith)

no_offset : (n m offset : ℕ) {A : Type 0} → refused n ≡ refused_at m offset → A
no_offset n m offset e = let z : ◌≡◌ {A = ℕ} 0 1 = cc in absurd (omega arith)

module _ (memory : List ℕ) (first count : ℕ) (text : List ℕ) where
  abbrev number : ℕ
  number = dump_number (length memory) first count (length text)

  pub exact : (n : ℕ) → ((number ≡ n) × (n ≡ 0 → ⊥)) ↔ First n (dump_numbers memory first count text)
  unfolding dump_number
  exact n =
      first_exactly _ (dump_numbers memory first count text)
      (more 1 (wrong_length (length memory)) _ _ _ (λ e. omega (arith, e)) (length_exactly (length memory))
      (more 4 (past_end (length memory) first count) _ _ _ (λ e. omega (arith, e)) (above_means (length memory) (first + count))
      (more 10 (too_short (length text) count) _ _ _ (λ e. omega (arith, e)) (above_means (length text) (10 * count)) no_more)))
      n

  pub none_exact : (number ≡ 0) ↔ NoneApplies (dump_numbers memory first count text)
  none_exact = (λ e n f. ((exact n).1 f).1 (sym ((exact n).1 f).0 ∙ e), by (eqb number 0) refl)
    where
      by : (zero : Bool) → eqb number 0 ≡ zero → NoneApplies (dump_numbers memory first count text) → number ≡ 0
      by true e none = eqb-true number 0 e
      by false e none = absurd (none number ((exact number).0 (refl, eqb-false number 0 e)))

  -- there is no other number
  listed : (n : ℕ) → First n (dump_numbers memory first count text) → (n ≡ 1) ⊎ ((n ≡ 4) ⊎ (n ≡ 10))
  listed n (inl f) = inl f.1
  listed n (inr (r, inl f)) = inr (inl f.1)
  listed n (inr (r, inr (w, inl f))) = inr (inr f.1)
  listed n (inr (r, inr (w, inr (l, z)))) = absurd z

  Says : Dumped → Type 0
  Says gave =
      ((n : ℕ) → (gave.answer ≡ refused n) ↔ (First n (dump_numbers memory first count text) × ((n ≡ 1) ⊎ (n ≡ 10))))
      × ((n offset : ℕ) → (gave.answer ≡ refused_at n offset) ↔ (First n (dump_numbers memory first count text) × (n ≡ 4) × (offset ≡ 0)))
      × ((bytes : ℕ) → (gave.answer ≡ written bytes) ↔ (NoneApplies (dump_numbers memory first count text) × (bytes ≡ 10 * count)))
      × ((n : ℕ) → First n (dump_numbers memory first count text) → gave.text ≡ text)

  takes : number ≡ 0 → Says (record { answer = written (10 * count); text = listing_text memory first count ++ drop (10 * count) text })
  unfolding Says
  takes e =
      let none = none_exact.0 e in (
        λ n. (λ r. not_refused n (10 * count) r, λ f. absurd (none n f.0)),
        λ n offset. (λ r. not_refused_at n offset (10 * count) r, λ f. absurd (none n f.0)),
        λ bytes. (λ r. (none, cc), λ f. ap written (sym f.1)),
        λ n f. absurd (none n f),
      )

  -- without 4
  not_four : (n : ℕ) → (n ≡ 4 → ⊥) → (n ≡ 1) ⊎ ((n ≡ 4) ⊎ (n ≡ 10)) → (n ≡ 1) ⊎ (n ≡ 10)
  not_four n other (inl e) = inl e
  not_four n other (inr (inl e)) = absurd (other e)
  not_four n other (inr (inr e)) = inr e

  four_only : (n : ℕ) {A : Type 0} → n ≡ 4 → (n ≡ 1) ⊎ (n ≡ 10) → A
  four_only n e (inl f) = absurd (omega arith)
  four_only n e (inr f) = absurd (omega arith)

  refuses : (number ≡ 0 → ⊥) → Says (record { answer = refusal number; text = text })
  unfolding Says
  refuses some = by (eqb number 4) refl
    where
      same : (n : ℕ) → First n (dump_numbers memory first count text) → number ≡ n
      same n f = ((exact n).1 f).0

      applies : (n : ℕ) → number ≡ n → First n (dump_numbers memory first count text)
      applies n e = (exact n).0 (e, λ z. some (e ∙ z))

      by : (four : Bool) → eqb number 4 ≡ four → Says (record { answer = cond four (refused_at number 0) (refused number); text = text })
      by true h =
          let four = eqb-true number 4 h in (
            λ n. (λ r. no_offset n number 0 (sym r), λ f. four_only n (sym (same n f.0) ∙ four) f.1),
            λ n offset. (
              λ r. let e : number ≡ n = cc in let z : offset ≡ 0 = cc in (applies n e, sym e ∙ four, z),
              λ f. let e = same n f.0 in let z = f.2 in cc,
            ),
            λ bytes. (λ r. not_refused_at number 0 bytes (sym r), λ f. absurd (f.0 number (applies number refl))),
            λ n f. refl,
          )
      by false h =
          let other = eqb-false number 4 h in (
            λ n. (
              λ r. let e : number ≡ n = cc in (applies n e, not_four n (λ z. other (e ∙ z)) (listed n (applies n e))),
              λ f. ap refused (same n f.0),
            ),
            λ n offset. (λ r. no_offset number n offset r, λ f. absurd (other (same n f.0 ∙ f.1))),
            λ bytes. (λ r. not_refused number bytes (sym r), λ f. absurd (f.0 number (applies number refl))),
            λ n f. refl,
          )

  says : Says (dumped memory first count text)
  unfolding dumped
  says = by (eqb number 0) refl
    where
      by : (none : Bool) → eqb number 0 ≡ none
          → Says
          (cond none (record { answer = written (10 * count); text = listing_text memory first count ++ drop (10 * count) text })
          (record { answer = refusal number; text = text }))
      by true e = takes (eqb-true number 0 e)
      by false e = refuses (eqb-false number 0 e)

pub dump_numbers_lem : DumpNumbers
unfolding Says
dump_numbers_lem memory first count text = says memory first count text

-- what a call that is taken has: a memory of 1 to 65,536 words, the range in it, room in the text; and what it leaves there
pub record Taken (memory : List ℕ) (first count : ℕ) (text : List ℕ) (bytes : ℕ) : Type 0 where
  pub right : (length memory ≡ 0) ⊎ (65536 < length memory) → ⊥
  pub size : length memory ≤ 65536
  pub within : first + count ≤ length memory
  pub room : 10 * count ≤ length text
  pub long : bytes ≡ 10 * count
  pub leaves : (dumped memory first count text).text ≡ listing_text memory first count ++ drop (10 * count) text

module _ (memory : List ℕ) (first count : ℕ) (text : List ℕ) (bytes : ℕ) where
  no_number : dump_number (length memory) first count (length text) ≡ 0 → bytes ≡ 10 * count → Taken memory first count text bytes
  unfolding dump_number dumped
  no_number e same =
      let one = none_applies 0 (wrong_length (length memory)) _ e in
      let four = none_applies 3 (past_end (length memory) first count) _ one.1 in
      let ten = none_applies 9 (too_short (length text) count) _ four.1 in
      record {
        right = (length_exactly (length memory)).1 one.0;
        size = right_length (length memory) one.0;
        within = ltb-false (length memory) (first + count) four.0;
        room = ltb-false (length text) (10 * count) ten.0;
        long = same;
        leaves = rw e;
      }

  pub is_taken : (dumped memory first count text).answer ≡ written bytes → Taken memory first count text bytes
  is_taken r = let t = ((dump_numbers_lem memory first count text).2 bytes).0 r in no_number ((none_exact memory first count text).1 t.0) t.1
