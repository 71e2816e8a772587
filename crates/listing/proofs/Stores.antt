-- The words that the lines of a listing without fault store, and their addresses. Assumes nothing.
use mathlib.Core.Path.{◌≡◌, refl, sym, ap, subst, ◌∙◌}
use mathlib.Core.Bool.{Bool, true, false, cond}
use mathlib.Core.List.{List, [], ◌∷◌}
use Prim.Native.Nat.{ℕ, zero, suc, ◌+◌, ◌≤◌, ◌<◌}
use native.Mathlib.Omega.{arith}
use borrow.Author.Tests.{leb-false, ltb-false}
use lib.Dec.{leb, ltb}
use lib.ListN.{length, get_or, set}
use lib.Seq.{get_or-set_same, get_or-set_other, set-get_or}
use Rattle.lines.specs.Lines.{read_line}
use Rattle.lines.specs.declared.Line.{Line}
use Rattle.lines.specs.declared.Line.TheVariants.{Blank, Entry, IllFormed}
use Rattle.lines.proofs.Entries.{same_entry, blank_no_entry, ill_formed_no_entry, no_line}
use Rattle.listing.specs.Listing.{lowest_after, address_fault, fault_of, words_of, words_in, store_line, store_lines}
use Rattle.listing.proofs.Turns.{length_line}
use Rattle.listing.proofs.Faults.{Sound, none, then}

pub length_lines : (ls : List (List ℕ)) (m : List ℕ) → length (store_lines ls m) ≡ length m
unfolding store_lines
length_lines [] m = refl
length_lines (line ∷ rest) m = length_lines rest (store_line (read_line line) m) ∙ length_line (read_line line) m

-- an address that no line says keeps its word
line_other : (y : Line) (m : List ℕ) (x : ℕ) → ((w : ℕ) → y ≡ Entry x w → ⊥) → get_or (store_line y m) x 0 ≡ get_or m x 0
line_other Blank m x n = refl
line_other (Entry a w) m x n = get_or-set_other m a x _ 0 (λ e. n w (ap (λ (b : ℕ). Entry b w) (sym e)))
line_other IllFormed m x n = refl

pub others : (ls : List (List ℕ)) (m : List ℕ) (x : ℕ) → ((i w : ℕ) → read_line (get_or ls i []) ≡ Entry x w → ⊥)
    → get_or (store_lines ls m) x 0 ≡ get_or m x 0
unfolding store_lines
others [] m x n = refl
others (line ∷ rest) m x n =
    others rest (store_line (read_line line) m) x (λ i. n (suc i)) ∙ line_other (read_line line) m x (n 0)

-- where all words of the lines stand already, nothing changes
line_same : (y : Line) (m : List ℕ) → ((a w : ℕ) → y ≡ Entry a w → get_or m a 0 ≡ w) → store_line y m ≡ m
line_same Blank m z = refl
line_same (Entry a w) m z = ap (set m a) (sym (z a w refl)) ∙ set-get_or m a 0
line_same IllFormed m z = refl

pub same : (ls : List (List ℕ)) (m : List ℕ) → ((i a w : ℕ) → read_line (get_or ls i []) ≡ Entry a w → get_or m a 0 ≡ w) → store_lines ls m ≡ m
unfolding store_lines
same [] m z = refl
same (line ∷ rest) m z = rw (line_same (read_line line) m (z 0)) (same rest m (λ i. z (suc i)))

lowest_le : (K lowest : ℕ) (y : Line) → ((a w : ℕ) → y ≡ Entry a w → a < K) → lowest ≤ K → lowest_after y lowest ≤ K
lowest_le K lowest Blank b h = h
lowest_le K lowest (Entry a w) b h = omega (arith, b a w refl)
lowest_le K lowest IllFormed b h = h

-- lines without fault, for a memory of L words
module _ (L : ℕ) where
  address_sound : (lowest a : ℕ) → address_fault L lowest a ≡ 0 → (a < L) × (lowest ≤ a)
  address_sound lowest a = by (leb L a) refl (ltb a lowest) refl where
    by : (p : Bool) → leb L a ≡ p → (q : Bool) → ltb a lowest ≡ q → ◌≡◌ {A = ℕ} (cond p 4 (cond q 3 0)) 0 → (a < L) × (lowest ≤ a)
    by true p q r e = absurd (omega (arith, e))
    by false p true r e = absurd (omega (arith, e))
    by false p false r e = (leb-false L a p, ltb-false a lowest r)

  -- of one line: it says no address below the lowest, which never falls, and counts up to it
  entry_sound : (lowest a w : ℕ) (y : Line) → fault_of L lowest y ≡ 0 → y ≡ Entry a w → (a < L) × (lowest ≤ a)
  entry_sound lowest a w Blank f e = blank_no_entry a w e
  entry_sound lowest a w (Entry b v) f e = subst (λ (x : ℕ). (x < L) × (lowest ≤ x)) (same_entry b v a w e).0 (address_sound lowest b f)
  entry_sound lowest a w IllFormed f e = ill_formed_no_entry a w e

  line_counts : (lowest : ℕ) (y : Line) → fault_of L lowest y ≡ 0 → words_of y + lowest ≤ lowest_after y lowest
  line_counts lowest Blank f = omega arith
  line_counts lowest (Entry a w) f = omega (arith, address_sound lowest a f)
  line_counts lowest IllFormed f = absurd (omega (arith, f))

  line_kept : (lowest x : ℕ) (m : List ℕ) (y : Line) → fault_of L lowest y ≡ 0 → x < lowest → get_or (store_line y m) x 0 ≡ get_or m x 0
  line_kept lowest x m y f h =
      line_other y m x (λ w e. let s = entry_sound lowest x w y f e in absurd (omega (arith, s)))

  -- addresses below the lowest keep their words
  kept : {ls : List (List ℕ)} {lowest : ℕ} → Sound L lowest ls → (x : ℕ) (m : List ℕ) → x < lowest → get_or (store_lines ls m) x 0 ≡ get_or m x 0
  unfolding store_lines
  kept none x m h = refl
  kept (then lowest line f r) x m h =
      kept r x (store_line (read_line line) m) (omega (arith, line_counts lowest (read_line line) f)) ∙ line_kept lowest x m (read_line line) f h

  -- each line's word stands at its address
  pub said : {ls : List (List ℕ)} {lowest : ℕ} → Sound L lowest ls → (m : List ℕ) → length m ≡ L
      → (i a w : ℕ) → read_line (get_or ls i []) ≡ Entry a w → get_or (store_lines ls m) a 0 ≡ w
  unfolding store_lines
  said none m l i a w p = no_line a w p
  said (then lowest line f r) m l zero a w p =
      let t = entry_sound lowest a w (read_line line) f p in
      kept r a (store_line (read_line line) m) (rw p (omega arith)) ∙ rw p (get_or-set_same m a w 0 (omega (arith, t, l)))
  said (then lowest line f r) m l (suc i) a w p = said r (store_line (read_line line) m) (length_line (read_line line) m ∙ l) i a w p

  -- addresses rise from the lowest on, and lie below L
  pub bounded : {ls : List (List ℕ)} {lowest : ℕ} → Sound L lowest ls → (i a w : ℕ) → read_line (get_or ls i []) ≡ Entry a w → (a < L) × (lowest ≤ a)
  bounded none i a w p = no_line a w p
  bounded (then lowest line f r) zero a w p = entry_sound lowest a w (read_line line) f p
  bounded (then lowest line f r) (suc i) a w p =
      let b = bounded r i a w p in (b.0, omega (arith, b.1, line_counts lowest (read_line line) f))

  pub rises : {ls : List (List ℕ)} {lowest : ℕ} → Sound L lowest ls
      → (i j a b w v : ℕ) → i < j → read_line (get_or ls i []) ≡ Entry a w → read_line (get_or ls j []) ≡ Entry b v → a < b
  rises none i j a b w v h p q = no_line a w p
  rises (then lowest line f r) i zero a b w v h p q = absurd (omega (arith, h))
  rises (then lowest line f r) zero (suc j) a b w v h p q = let n = bounded r j b v q in omega (arith, rw p at n.1)
  rises (then lowest line f r) (suc i) (suc j) a b w v h p q = rises r i j a b w v (omega (arith, h)) p q

  -- as many words as addresses from the lowest up to a limit
  pub at_most : (K : ℕ) {ls : List (List ℕ)} {lowest : ℕ} → Sound L lowest ls
      → ((i a w : ℕ) → read_line (get_or ls i []) ≡ Entry a w → a < K) → lowest ≤ K → words_in ls + lowest ≤ K
  unfolding words_in
  at_most K none b h = omega arith
  at_most K (then lowest line f r) b h =
      let n = at_most K r (λ i. b (suc i)) (lowest_le K lowest (read_line line) (b 0) h) in
      omega (arith, n, line_counts lowest (read_line line) f)
