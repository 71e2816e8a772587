-- The words of a listing, counted one by one: the places of the lines that say one. Assumes nothing.
use mathlib.Core.Path.{◌≡◌, refl, sym, ap, subst, ◌∙◌}
use mathlib.Core.List.{List, [], ◌∷◌}
use Prim.Native.Nat.{ℕ, zero, suc, ◌+◌, ◌<◌}
use native.Mathlib.Omega.{arith}
use lib.ListN.{get_or}
use Rattle.lines.specs.Lines.{read_line}
use Rattle.lines.specs.declared.Line.{Line}
use Rattle.lines.specs.declared.Line.TheVariants.{Blank, Entry, IllFormed}
use Rattle.lines.proofs.Entries.{blank_no_entry, ill_formed_no_entry, no_line}
use Rattle.listing.specs.Listing.{words_of, words_in}

-- n lines say a word, at these places
pub record Places (ls : List (List ℕ)) (n : ℕ) : Type 0 where
  pub place : ℕ → ℕ
  pub rise : (j k : ℕ) → j < k → k < n → place j < place k
  pub there : (k : ℕ) → k < n → (a : ℕ) × (w : ℕ) × (read_line (get_or ls (place k) []) ≡ Entry a w)
  pub all : (i a w : ℕ) → read_line (get_or ls i []) ≡ Entry a w → (k : ℕ) × (k < n) × (place k ≡ i)

abbrev then : (ℕ → ℕ) → ℕ → ℕ
then p zero = zero
then p (suc k) = suc (p k)

-- a line more in front: one that says no word, or one that does
module _ (line : List ℕ) (rest : List (List ℕ)) (n : ℕ) (p : Places rest n) where
  passed : ((a w : ℕ) → read_line line ≡ Entry a w → ⊥) → Places (line ∷ rest) n
  passed none = record {
    place = λ k. suc (p.place k);
    rise = λ j k h l. let r = p.rise j k h l in omega (arith, r);
    there = p.there;
    all = all;
  } where
    all : (i a w : ℕ) → read_line (get_or (line ∷ rest) i []) ≡ Entry a w → (k : ℕ) × (k < n) × (suc (p.place k) ≡ i)
    all zero a w e = absurd (none a w e)
    all (suc i) a w e = let r = p.all i a w e in (r.0, r.1, ap suc r.2)

  counted : (a w : ℕ) → read_line line ≡ Entry a w → Places (line ∷ rest) (suc n)
  counted a w e = record { place = then p.place; rise = rise; there = there; all = all } where
    rise : (j k : ℕ) → j < k → k < suc n → then p.place j < then p.place k
    rise j zero h l = absurd (omega (arith, h))
    rise zero (suc k) h l = omega arith
    rise (suc j) (suc k) h l = let r = p.rise j k (omega (arith, h)) (omega (arith, l)) in omega (arith, r)

    there : (k : ℕ) → k < suc n → (b : ℕ) × (v : ℕ) × (read_line (get_or (line ∷ rest) (then p.place k) []) ≡ Entry b v)
    there zero h = (a, w, e)
    there (suc k) h = p.there k (omega (arith, h))

    all : (i b v : ℕ) → read_line (get_or (line ∷ rest) i []) ≡ Entry b v → (k : ℕ) × (k < suc n) × (then p.place k ≡ i)
    all zero b v f = (zero, omega arith, refl)
    all (suc i) b v f = let r = p.all i b v f in (suc r.0, omega (arith, r.1), ap suc r.2)

pub places : (ls : List (List ℕ)) → Places ls (words_in ls)
unfolding words_in
places [] = record {
  place = λ k. k;
  rise = λ j k h l. h;
  there = λ k h. absurd (omega (arith, h));
  all = λ i a w e. no_line a w e;
}
places (line ∷ rest) = by (read_line line) refl (places rest) where
  by : (y : Line) → read_line line ≡ y → Places rest (words_in rest) → Places (line ∷ rest) (words_of y + words_in rest)
  by Blank e p =
      let z : words_in rest ≡ 0 + words_in rest = omega arith in
      subst (Places (line ∷ rest)) z (passed line rest (words_in rest) p (λ a w f. blank_no_entry a w (sym e ∙ f)))
  by (Entry a w) e p =
      let z : suc (words_in rest) ≡ 1 + words_in rest = omega arith in
      subst (Places (line ∷ rest)) z (counted line rest (words_in rest) p a w e)
  by IllFormed e p =
      let z : words_in rest ≡ 0 + words_in rest = omega arith in
      subst (Places (line ∷ rest)) z (passed line rest (words_in rest) p (λ a w f. ill_formed_no_entry a w (sym e ∙ f)))
