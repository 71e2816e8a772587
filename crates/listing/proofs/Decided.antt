-- The check decides over the memory as it does over the answer. Assumes nothing.
use mathlib.Core.Path.{◌≡◌, refl}
use mathlib.Core.List.{List}
use Prim.Native.Nat.{ℕ}
use native.Mathlib.Omega.{arith}
use lib.ListN.{length}
use Rattle.lines.specs.Lines.{lines}
use Rattle.listing.specs.Answers.{stored, refused}
use Rattle.listing.specs.Listing.{Check, sound, faulty, words_in, store_lines, answer_of, memory_of, check_of, listing_answer, listing_memory}

module _ (listing memory : List ℕ) where
  pub accepted : (count : ℕ) → listing_answer listing (length memory) ≡ stored count → listing_memory listing memory ≡ store_lines (lines listing) memory
  unfolding listing_answer listing_memory
  accepted count = by (check_of listing (length memory)) where
    by : (k : Check) → answer_of k (words_in (lines listing)) ≡ stored count
        → memory_of k (store_lines (lines listing) memory) memory ≡ store_lines (lines listing) memory
    by sound e = refl
    by (faulty number start) e = let z : ◌≡◌ {A = ℕ} 0 1 = cc in absurd (omega arith)

  pub refuses : (number start : ℕ) → listing_answer listing (length memory) ≡ refused number start → listing_memory listing memory ≡ memory
  unfolding listing_answer listing_memory
  refuses n o = by (check_of listing (length memory)) where
    by : (k : Check) → answer_of k (words_in (lines listing)) ≡ refused n o → memory_of k (store_lines (lines listing) memory) memory ≡ memory
    by sound e = let z : ◌≡◌ {A = ℕ} 0 1 = cc in absurd (omega arith)
    by (faulty number start) e = refl
