-- The theorems of specs/Theorems.antt; `numbers` is in Numbers, `faults_apart` in Apart. Assumes nothing.
use mathlib.Core.Path.{◌≡◌, refl, sym, ap, ◌∙◌}
use mathlib.Core.List.{List, []}
use Prim.Native.Nat.{ℕ}
use native.Mathlib.Omega.{arith}
use lib.ListN.{length, get_or}
use Rattle.lines.specs.Lines.{lines}
use Rattle.lines.proofs.Entries.{entry_words}
use Rattle.listing.specs.Answers.{stored}
use Rattle.listing.specs.Listing.{Check, sound, faulty, words_in, store_lines, answer_of, memory_of, check_of, listing_answer, listing_memory}
use Rattle.listing.specs.Theorems.{RefusedExactly, RefusedUnchanged, StoredExactly, CountExactly, StoredAtMost, Rising, WordsStored, StoredTwice}
use Rattle.listing.proofs.Decided.{accepted, refuses}
use Rattle.listing.proofs.Faults.{from_refused, from_stored, Sound, sounds, sound_all, all_sound, first_faulty, faulty_first}
use Rattle.listing.proofs.Counts.{places}
use Rattle.listing.proofs.Stores.{length_lines, others, same, said, bounded, rises, at_most}

pub refused_exactly : RefusedExactly
unfolding listing_answer check_of
refused_exactly listing L number start = (
  λ e.
      let r = faulty_first L (lines listing) 0 0 number start (from_refused (check_of listing L) (words_in (lines listing)) number start e) in
      let f = r.1 in
      (r.0, f.0, f.1, f.2, omega (arith, f.3), f.4),
  λ f.
      ap (λ (k : Check). answer_of k (words_in (lines listing)))
      (first_faulty L (lines listing) 0 0 number start f.0 (f.1, f.2, f.3, omega (arith, f.4), f.5)),
)

-- what a listing that is stored has of its check
is_sound : (listing : List ℕ) (L count : ℕ) → listing_answer listing L ≡ stored count → Sound L 0 (lines listing) × (count ≡ words_in (lines listing))
unfolding listing_answer check_of
is_sound listing L count e =
    let s = from_stored (check_of listing L) (words_in (lines listing)) count e in (sounds L (lines listing) 0 0 s.0, s.1)

pub refused_unchanged : RefusedUnchanged
refused_unchanged listing memory number start e = refuses listing memory number start e

pub stored_exactly : StoredExactly
unfolding listing_answer check_of
stored_exactly listing L count = (
  λ e. let s = is_sound listing L count e in (sound_all L s.0, s.1),
  λ f. ap (λ (k : Check). answer_of k (words_in (lines listing))) (all_sound L (lines listing) 0 0 f.0) ∙ ap stored (sym f.1),
)

pub count_exactly : CountExactly
count_exactly listing L count e =
    let p = places (lines listing) in
    let s = (is_sound listing L count e).1 in
    rw s (p.place, p.rise, p.there, p.all)

pub stored_at_most : StoredAtMost
stored_at_most listing L count e =
    let s = is_sound listing L count e in
    let m = at_most L L s.0 (λ i a w p. (bounded L s.0 i a w p).0) (omega arith) in
    let n = at_most L 65536 s.0 (λ i a w p. (entry_words (get_or (lines listing) i []) a w p).0) (omega arith) in
    (omega (arith, m, s.1), omega (arith, n, s.1))

pub rising : Rising
rising listing L count e =
    let s = is_sound listing L count e in
    (λ i a w p. (bounded L s.0 i a w p).0, rises L s.0)

pub words_stored : WordsStored
words_stored listing memory count e =
    let s = is_sound listing (length memory) count e in
    rw (accepted listing memory count e) (
      length_lines (lines listing) memory,
      said (length memory) s.0 memory refl,
      others (lines listing) memory,
    )

-- whatever the check found
twice : (listing memory : List ℕ) (k : Check) → check_of listing (length memory) ≡ k
    → (listing_memory listing (memory_of k (store_lines (lines listing) memory) memory) ≡ memory_of k (store_lines (lines listing) memory) memory)
    × (length (memory_of k (store_lines (lines listing) memory) memory) ≡ length memory)
unfolding listing_memory check_of
twice listing memory sound e =
    let after = store_lines (lines listing) memory in
    let l = length_lines (lines listing) memory in
    (rw (l, e) (same (lines listing) after (said (length memory) (sounds (length memory) (lines listing) 0 0 e) memory refl)), l)
twice listing memory (faulty number start) e = (rw e, refl)

pub stored_twice : StoredTwice
unfolding listing_memory
stored_twice listing memory =
    let t = twice listing memory (check_of listing (length memory)) refl in (t.0, ap (listing_answer listing) t.1)
