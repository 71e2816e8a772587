-- The first fault of a listing, as a fault of one of its lines. Assumes nothing.
use mathlib.Core.Path.{◌≡◌, refl, ap, ◌∙◌}
use mathlib.Core.Logic.{◌⊎◌, inl, inr, ⊎_elim}
use mathlib.Core.Bool.{Bool, true, false, cond}
use mathlib.Core.List.{List, [], ◌∷◌}
use Prim.Native.Nat.{ℕ, zero, suc, ◌+◌, ◌<◌}
use native.Mathlib.Nat.{le_of_suc-le-suc}
use native.Mathlib.Omega.{arith}
use borrow.Author.Tests.{eqb-true, eqb-false, ne_eqb}
use lib.Dec.{eqb}
use lib.ListN.{length, get_or, take}
use Rattle.lines.specs.Lines.{read_line}
use Rattle.lines.specs.Theorems.{start_after}
use Rattle.listing.specs.Answers.{stored, refused}
use Rattle.listing.specs.Listing.{lowest_after, fault_of, Check, sound, faulty, first_of, first_fault, answer_of}
use Rattle.listing.specs.Theorems.{lowest_of}

-- what an answer says of the check
pub from_refused : (k : Check) (n number start : ℕ) → answer_of k n ≡ refused number start → k ≡ faulty number start
from_refused sound n number start e = let z : ◌≡◌ {A = ℕ} 0 1 = cc in absurd (omega arith)
from_refused (faulty a b) n number start e = cc

pub from_stored : (k : Check) (n count : ℕ) → answer_of k n ≡ stored count → (k ≡ sound) × (count ≡ n)
from_stored sound n count e = (refl, cc)
from_stored (faulty a b) n count e = let z : ◌≡◌ {A = ℕ} 0 1 = cc in absurd (omega arith)

-- a line's fault comes first, or there is none and the rest decides
chosen : (f start : ℕ) (later k : Check) → first_of f start later ≡ k → ((f ≡ 0) × (later ≡ k)) ⊎ ((f ≡ 0 → ⊥) × (faulty f start ≡ k))
chosen f start later k = by (eqb f 0) refl where
  by : (v : Bool) → eqb f 0 ≡ v → cond v later (faulty f start) ≡ k → ((f ≡ 0) × (later ≡ k)) ⊎ ((f ≡ 0 → ⊥) × (faulty f start ≡ k))
  by true t e = inl (eqb-true f 0 t, e)
  by false t e = inr (eqb-false f 0 t, e)

module _ (L : ℕ) where
  -- the number of line i's fault among lines
  abbrev pub fault_in : ℕ → List (List ℕ) → ℕ → ℕ
  fault_in lowest ls i = fault_of L (lowest_of (take i ls) lowest) (read_line (get_or ls i []))

  -- a line without fault hands on to the rest
  pub sound_step : (line : List ℕ) (rest : List (List ℕ)) (lowest start : ℕ) → first_fault L lowest start (line ∷ rest) ≡ sound
      → (fault_of L lowest (read_line line) ≡ 0) × (first_fault L (lowest_after (read_line line) lowest) (start + (length line + 1)) rest ≡ sound)
  unfolding first_fault
  sound_step line rest lowest start e =
      ⊎_elim (λ p. p) (λ p. let z : ◌≡◌ {A = ℕ} 0 1 = cc p.1 in absurd (omega arith))
      (chosen (fault_of L lowest (read_line line)) start (first_fault L (lowest_after (read_line line) lowest) (start + (length line + 1)) rest) sound e)

  -- so each line, after those before it, has none
  pub data Sound : ℕ → List (List ℕ) → Type 0 where
    none : {lowest : ℕ} → Sound lowest []
    then : (lowest : ℕ) (line : List ℕ) {rest : List (List ℕ)} → fault_of L lowest (read_line line) ≡ 0
        → Sound (lowest_after (read_line line) lowest) rest → Sound lowest (line ∷ rest)

  pub sounds : (ls : List (List ℕ)) (lowest start : ℕ) → first_fault L lowest start ls ≡ sound → Sound lowest ls
  sounds [] lowest start e = none
  sounds (line ∷ rest) lowest start e = let s = sound_step line rest lowest start e in then lowest line s.0 (sounds rest _ _ s.1)

  pub sound_all : {ls : List (List ℕ)} {lowest : ℕ} → Sound lowest ls → (i : ℕ) → i < length ls → fault_in lowest ls i ≡ 0
  unfolding lowest_of
  sound_all none i h = absurd (omega arith)
  sound_all (then lowest line f r) zero h = f
  sound_all (then lowest line f r) (suc i) h = sound_all r i (le_of_suc-le-suc h)

  pub all_sound : (ls : List (List ℕ)) (lowest start : ℕ) → ((i : ℕ) → i < length ls → fault_in lowest ls i ≡ 0) → first_fault L lowest start ls ≡ sound
  unfolding first_fault lowest_of
  all_sound [] lowest start z = refl
  all_sound (line ∷ rest) lowest start z =
      rw (z 0 (omega arith)) (all_sound rest (lowest_after (read_line line) lowest) (start + (length line + 1)) (λ i h. z (suc i) (omega arith)))

  -- line i is the first that is faulty
  abbrev pub First : ℕ → ℕ → List (List ℕ) → ℕ → ℕ → ℕ → Type 0
  First lowest start ls number offset i =
      (i < length ls) × (fault_in lowest ls i ≡ number) × (number ≡ 0 → ⊥) × (start + start_after (take i ls) ≡ offset)
      × ((j : ℕ) → j < i → fault_in lowest ls j ≡ 0)

  pub first_faulty : (ls : List (List ℕ)) (lowest start number offset i : ℕ) → First lowest start ls number offset i
      → first_fault L lowest start ls ≡ faulty number offset
  unfolding first_fault lowest_of start_after
  first_faulty [] lowest start number offset i f = absurd (omega (arith, f.0))
  first_faulty (line ∷ rest) lowest start number offset zero f =
      rw (f.1, ne_eqb number 0 f.2) (ap (faulty number) (omega (arith, f.3)))
  first_faulty (line ∷ rest) lowest start number offset (suc i) f =
      rw (f.4 0 (omega arith))
      (first_faulty rest (lowest_after (read_line line) lowest) (start + (length line + 1)) number offset i
      (le_of_suc-le-suc f.0, f.1, f.2, omega (arith, f.3), λ j h. f.4 (suc j) (omega arith)))

  none_before : (line : List ℕ) (rest : List (List ℕ)) (lowest i : ℕ) → fault_of L lowest (read_line line) ≡ 0
      → ((j : ℕ) → j < i → fault_in (lowest_after (read_line line) lowest) rest j ≡ 0) → (j : ℕ) → j < suc i → fault_in lowest (line ∷ rest) j ≡ 0
  unfolding lowest_of
  none_before line rest lowest i f z zero h = f
  none_before line rest lowest i f z (suc j) h = z j (le_of_suc-le-suc h)

  pub faulty_first : (ls : List (List ℕ)) (lowest start number offset : ℕ) → first_fault L lowest start ls ≡ faulty number offset
      → (i : ℕ) × First lowest start ls number offset i
  unfolding first_fault lowest_of start_after
  faulty_first [] lowest start number offset e = let z : ◌≡◌ {A = ℕ} 0 1 = cc in absurd (omega arith)
  faulty_first (line ∷ rest) lowest start number offset e =
      let lowest' = lowest_after (read_line line) lowest in
      let start' = start + (length line + 1) in
      let f = fault_of L lowest (read_line line) in
      ⊎_elim
      (λ p.
      let r = faulty_first rest lowest' start' number offset p.1 in
      let q = r.1 in
      (suc r.0, (omega (arith, q.0), q.1, q.2, omega (arith, q.3), none_before line rest lowest r.0 p.0 q.4)))
      (λ p.
      let n : f ≡ number = cc p.1 in
      let o : start ≡ offset = cc p.1 in
      (zero, (omega arith, n, λ z. p.0 (n ∙ z), omega (arith, o), λ j h. absurd (omega (arith, h)))))
      (chosen f start (first_fault L lowest' start' rest) (faulty number offset) e)
