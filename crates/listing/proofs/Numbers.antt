-- What the numbers of a line's faults mean: the one before it, and its own address. Assumes nothing.
use mathlib.Core.Path.{◌≡◌, refl, sym, ap, ◌∙◌}
use mathlib.Core.Logic.{◌↔◌, ◌⊎◌, inl, inr, ⊎_elim}
use mathlib.Core.Bool.{Bool, true, false, cond}
use mathlib.Core.List.{List, [], ◌∷◌}
use Prim.Native.Nat.{ℕ, zero, suc, ◌+◌, ◌≤◌, ◌<◌}
use native.Mathlib.Omega.{arith}
use borrow.Author.Tests.{leb-true, leb-false, ltb-true, ltb-false, le-leb, lt-leb, lt-ltb}
use lib.Dec.{leb, ltb}
use lib.ListN.{get_or, take}
use Rattle.lines.specs.Lines.{lines, read_line}
use Rattle.lines.specs.declared.Line.{Line}
use Rattle.lines.specs.declared.Line.TheVariants.{Blank, Entry, IllFormed}
use Rattle.lines.proofs.Entries.{same_entry, blank_no_entry, ill_formed_no_entry, no_line}
use Rattle.listing.specs.Listing.{lowest_after, address_fault, fault_of}
use Rattle.listing.specs.Theorems.{lowest_of, Numbers}

-- line i of lines says no address
Silent : List (List ℕ) → ℕ → Type 0
Silent ls i = (a w : ℕ) → read_line (get_or ls i []) ≡ Entry a w → ⊥

-- the last address said before line i is b
Last : List (List ℕ) → ℕ → ℕ → Type 0
Last ls i b =
    (j : ℕ) × (w : ℕ) × (j < i) × (read_line (get_or ls j []) ≡ Entry b w)
    × ((k a v : ℕ) → j < k → k < i → read_line (get_or ls k []) ≡ Entry a v → ⊥)

silent_lowest : (y : Line) (lowest : ℕ) → ((a w : ℕ) → y ≡ Entry a w → ⊥) → lowest_after y lowest ≡ lowest
silent_lowest Blank lowest n = refl
silent_lowest (Entry a w) lowest n = absurd (n a w refl)
silent_lowest IllFormed lowest n = refl

-- lines that say no address leave the lowest as it is, and the last that says one decides over it
silent_lines : (ls : List (List ℕ)) (i lowest : ℕ) → ((k : ℕ) → k < i → Silent ls k) → lowest_of (take i ls) lowest ≡ lowest
unfolding Silent lowest_of
silent_lines ls zero lowest n = refl
silent_lines [] (suc i) lowest n = refl
silent_lines (line ∷ rest) (suc i) lowest n =
    silent_lines rest i (lowest_after (read_line line) lowest) (λ k h. n (suc k) (omega arith)) ∙ silent_lowest (read_line line) lowest (n 0 (omega arith))

last_lowest : (ls : List (List ℕ)) (i b lowest : ℕ) → Last ls i b → lowest_of (take i ls) lowest ≡ b + 1
unfolding Last Silent lowest_of
last_lowest ls zero b lowest l = absurd (omega (arith, l.2))
last_lowest [] (suc i) b lowest l = no_line b l.1 l.3
last_lowest (line ∷ rest) (suc i) b lowest (zero, w, h, e, n) =
    silent_lines rest i (lowest_after (read_line line) lowest) (λ k l a v. n (suc k) a v (omega arith) (omega arith))
    ∙ ap (λ (y : Line). lowest_after y lowest) e
last_lowest (line ∷ rest) (suc i) b lowest (suc j, w, h, e, n) =
    last_lowest rest i b (lowest_after (read_line line) lowest) (j, w, omega (arith, h), e, λ k a v l m. n (suc k) a v (omega arith) (omega arith))

-- a line more in front
module _ (line : List ℕ) (rest : List (List ℕ)) (i : ℕ) where
  silent_more : ((a w : ℕ) → read_line line ≡ Entry a w → ⊥) → ((k : ℕ) → k < i → Silent rest k) → (k : ℕ) → k < suc i → Silent (line ∷ rest) k
  unfolding Silent
  silent_more m n zero h = m
  silent_more m n (suc k) h = n k (omega (arith, h))

  last_more : (b : ℕ) → Last rest i b → Last (line ∷ rest) (suc i) b
  unfolding Last
  last_more b (j, w, h, e, n) = (suc j, w, omega (arith, h), e, after) where
    after : (k a v : ℕ) → suc j < k → k < suc i → read_line (get_or (line ∷ rest) k []) ≡ Entry a v → ⊥
    after zero a v l m = absurd (omega (arith, l))
    after (suc k) a v l m = n k a v (omega (arith, l)) (omega (arith, m))

  last_here : (b w : ℕ) → read_line line ≡ Entry b w → ((k : ℕ) → k < i → Silent rest k) → Last (line ∷ rest) (suc i) b
  unfolding Last Silent
  last_here b w e n = (zero, w, omega arith, e, after) where
    after : (k a v : ℕ) → zero < k → k < suc i → read_line (get_or (line ∷ rest) k []) ≡ Entry a v → ⊥
    after zero a v l m = absurd (omega (arith, l))
    after (suc k) a v l m = n k (omega (arith, m)) a v

  here : (y : Line) → read_line line ≡ y → ((k : ℕ) → k < i → Silent rest k)
      → ((k : ℕ) → k < suc i → Silent (line ∷ rest) k) ⊎ ((b : ℕ) × Last (line ∷ rest) (suc i) b)
  here Blank e n = inl (silent_more (λ a w p. blank_no_entry a w (sym e ∙ p)) n)
  here (Entry a w) e n = inr (a, last_here a w e n)
  here IllFormed e n = inl (silent_more (λ a w p. ill_formed_no_entry a w (sym e ∙ p)) n)

-- either no line before says an address, or there is a last one
last_one : (ls : List (List ℕ)) (i : ℕ) → ((k : ℕ) → k < i → Silent ls k) ⊎ ((b : ℕ) × Last ls i b)
unfolding Silent
last_one ls zero = inl (λ k h. absurd (omega (arith, h)))
last_one [] (suc i) = inl (λ k h a w e. no_line a w e)
last_one (line ∷ rest) (suc i) =
    ⊎_elim (λ n. here line rest i (read_line line) refl n) (λ r. inr (r.0, last_more line rest i r.0 r.1)) (last_one rest i)

-- the fault of one address
address_fault_lem : (L lowest a n : ℕ) → address_fault L lowest a ≡ n
    → ((n ≡ 4) × (L ≤ a)) ⊎ ((n ≡ 3) × (a < L) × (a < lowest)) ⊎ ((n ≡ 0) × (a < L) × (lowest ≤ a))
address_fault_lem L lowest a n = by (leb L a) refl (ltb a lowest) refl where
  by : (p : Bool) → leb L a ≡ p → (q : Bool) → ltb a lowest ≡ q → cond p 4 (cond q 3 0) ≡ n
      → ((n ≡ 4) × (L ≤ a)) ⊎ ((n ≡ 3) × (a < L) × (a < lowest)) ⊎ ((n ≡ 0) × (a < L) × (lowest ≤ a))
  by true p q r e = inl (sym e, leb-true L a p)
  by false p true r e = inr (inl (sym e, leb-false L a p, ltb-true a lowest r))
  by false p false r e = inr (inr (sym e, leb-false L a p, ltb-false a lowest r))

-- of one line that reads as y
module _ (L lowest : ℕ) where
  two : (y : Line) → (fault_of L lowest y ≡ 2) ↔ (y ≡ IllFormed)
  two Blank = (λ e. absurd (omega (arith, e)), λ e. let z : ◌≡◌ {A = ℕ} 0 1 = cc in absurd (omega arith))
  two (Entry a w) = (
    λ e. ⊎_elim (λ p. absurd (omega (arith, p.0))) (⊎_elim (λ p. absurd (omega (arith, p.0))) (λ p. absurd (omega (arith, p.0)))) (address_fault_lem L lowest a 2 e),
    λ e. ill_formed_no_entry a w (sym e),
  )
  two IllFormed = (λ e. refl, λ e. refl)

  four : (y : Line) → (fault_of L lowest y ≡ 4) ↔ ((a : ℕ) × (w : ℕ) × (y ≡ Entry a w) × (L ≤ a))
  four Blank = (λ e. absurd (omega (arith, e)), λ r. blank_no_entry r.0 r.1 r.2)
  four (Entry a w) = (
    λ e. ⊎_elim (λ p. (a, w, refl, p.1)) (⊎_elim (λ p. absurd (omega (arith, p.0))) (λ p. absurd (omega (arith, p.0)))) (address_fault_lem L lowest a 4 e),
    λ r. let s = same_entry a w r.0 r.1 r.2 in rw (le-leb L a (omega (arith, s, r.3))),
  )
  four IllFormed = (λ e. absurd (omega (arith, e)), λ r. ill_formed_no_entry r.0 r.1 r.2)

  three : (y : Line) → (fault_of L lowest y ≡ 3) ↔ ((a : ℕ) × (w : ℕ) × (y ≡ Entry a w) × (a < L) × (a < lowest))
  three Blank = (λ e. absurd (omega (arith, e)), λ r. blank_no_entry r.0 r.1 r.2)
  three (Entry a w) = (
    λ e. ⊎_elim (λ p. absurd (omega (arith, p.0))) (⊎_elim (λ p. (a, w, refl, p.1, p.2)) (λ p. absurd (omega (arith, p.0)))) (address_fault_lem L lowest a 3 e),
    λ r.
        let s = same_entry a w r.0 r.1 r.2 in
        rw (lt-leb L a (omega (arith, s, r.3)), lt-ltb a lowest (omega (arith, s, r.4))),
  )
  three IllFormed = (λ e. absurd (omega (arith, e)), λ r. ill_formed_no_entry r.0 r.1 r.2)

  no_other : (y : Line) → (fault_of L lowest y ≡ 0) ⊎ (fault_of L lowest y ≡ 2) ⊎ (fault_of L lowest y ≡ 3) ⊎ (fault_of L lowest y ≡ 4)
  no_other Blank = inl refl
  no_other (Entry a w) =
      ⊎_elim (λ p. inr (inr (inr p.0))) (⊎_elim (λ p. inr (inr (inl p.0))) (λ p. inl p.0)) (address_fault_lem L lowest a (address_fault L lowest a) refl)
  no_other IllFormed = inr (inl refl)

-- an address below the lowest is not above the one before
module _ (ls : List (List ℕ)) (i a : ℕ) where
  to_last : a < lowest_of (take i ls) 0 → (b : ℕ) × Last ls i b × (a ≤ b)
  to_last h =
      ⊎_elim (λ n. absurd (omega (arith, h, silent_lines ls i 0 n))) (λ r. (r.0, r.1, omega (arith, h, last_lowest ls i r.0 0 r.1))) (last_one ls i)

  from_last : (b : ℕ) → Last ls i b → a ≤ b → a < lowest_of (take i ls) 0
  from_last b l h = omega (arith, h, last_lowest ls i b 0 l)

pub numbers : Numbers
unfolding Last
numbers listing L i =
    let ls = lines listing in
    let lowest = lowest_of (take i ls) 0 in
    let y = read_line (get_or ls i []) in
    let t = three L lowest y in (
      two L lowest y,
      four L lowest y,
      (
        λ e. let r = t.0 e in let b = to_last ls i r.0 r.4 in (r.0, r.1, b.0, r.2, r.3, b.1, b.2),
        λ r. t.1 (r.0, r.1, r.3, r.4, from_last ls i r.0 r.2 r.5 r.6),
      ),
      no_other L lowest y,
    )
