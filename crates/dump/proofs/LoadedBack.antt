-- The theorems `LoadedBack` and `WholeMemory` of specs/Theorems.antt: what is written is a listing without fault, that says just those words.
-- Assumes nothing.
use mathlib.Core.Path.{◌≡◌, refl, sym, ap, ◌∙◌}
use mathlib.Core.Logic.{◌⊎◌, inl, inr}
use mathlib.Core.List.{List, []}
use Prim.Native.Nat.{ℕ, ◌+◌, ◌-◌, ◌*◌, ◌≤◌, ◌<◌}
use native.Mathlib.Decide.{dec_lt}
use native.Mathlib.Omega.{arith}
use lib.Dec.{lit≤}
use lib.ListN.{length, get_or, take, drop, get_or-eq_default}
use lib.Seq.{take_at, ext_get_or}
use Rattle.words.specs.Memory.{word_at}
use Rattle.refusals.specs.Theorems.{NoneApplies}
use Rattle.lines.specs.Lines.{lines, read_line}
use Rattle.lines.specs.declared.Line.TheVariants.{Entry}
use Rattle.lines.proofs.Entries.{same_entry, no_line}
use Rattle.listing.specs.Answers as listing
use Rattle.listing.specs.Listing.{listing_answer, listing_memory}
use Rattle.listing.proofs.Theorems.{words_stored}
use Rattle.r8_core.specs.Calls.{stored, Reply, load}
use Rattle.r8_core.specs.TheoremsOfCalls.{load_numbers}
use Rattle.r8_core.specs.declared.Core.{Core}
use Rattle.r8_core.proofs.Taken.{others_taken}
use Rattle.dump.specs.Dump.{listing_text, written, dumped}
use Rattle.dump.specs.Theorems.{dump_numbers, Words, LoadedBack, WholeMemory}
use Rattle.dump.proofs.Writes.{lines_length}
use Rattle.dump.proofs.Refusals.{is_taken, dump_numbers_lem}
use Rattle.dump.proofs.Read.{bodies, lines_of, said, bodies_length, is_stored_lem}

-- a load on a core with cycle 1 due, into a memory of a length that is right, is not refused before its lines
comes_to_lines : (core : Core) (memory : List ℕ) → ((length memory ≡ 0) ⊎ (65536 < length memory) → ⊥) → core.due ≡ 1
    → NoneApplies (load_numbers core memory)
comes_to_lines core memory right due n (inl f) = right f.0
comes_to_lines core memory right due n (inr (r, inl f)) = f.0 due
comes_to_lines core memory right due n (inr (r, inr (s, z))) = z

module _ (memory other : List ℕ) (first count : ℕ) (words : Words memory) (same : length other ≡ length memory) (size : length memory ≤ 65536)
    (within : first + count ≤ length memory) where
  stores : listing_answer (listing_text memory first count) (length other) ≡ listing.stored count
  stores = rw same (is_stored_lem memory first count words size within)

  -- line i
  at_line : (i : ℕ) → read_line (get_or (lines (listing_text memory first count)) i []) ≡ read_line (get_or (bodies memory first count) i [])
  at_line i = ap (λ (ls : List (List ℕ)). read_line (get_or ls i [])) (lines_of memory first count)

  says : (i : ℕ) → i < count → read_line (get_or (lines (listing_text memory first count)) i []) ≡ Entry (first + i) (word_at memory (first + i))
  says i h = at_line i ∙ said memory first count i words (omega arith) h

  there : (x : ℕ) → first ≤ x → x < first + count → word_at (listing_memory (listing_text memory first count) other) x ≡ word_at memory x
  there x l h =
      let e : first + (x - first) ≡ x = omega arith in
      (words_stored (listing_text memory first count) other count stores).1 (x - first) x (word_at memory x)
      (says (x - first) (omega arith) ∙ ap (λ (a : ℕ). Entry a (word_at memory a)) e)

  outside : (x i w : ℕ) → (x < first) ⊎ (first + count ≤ x) → read_line (get_or (lines (listing_text memory first count)) i []) ≡ Entry x w → ⊥
  outside x i w o p = elim (dec_lt i count) [
    | yes h ↦ apart o (same_entry (first + i) (word_at memory (first + i)) x w (sym (says i h) ∙ p)).0 h
    | no h ↦
        no_line x w
        (ap read_line (sym (get_or-eq_default (bodies memory first count) [] (omega (arith, bodies_length memory first count))))
        ∙ sym (at_line i) ∙ p)
  ]
    where
      apart : (x < first) ⊎ (first + count ≤ x) → first + i ≡ x → i < count → ⊥
      apart (inl l) e h = omega arith
      apart (inr l) e h = omega arith

  elsewhere : (x : ℕ) → (x < first) ⊎ (first + count ≤ x) → word_at (listing_memory (listing_text memory first count) other) x ≡ word_at other x
  elsewhere x o = (words_stored (listing_text memory first count) other count stores).2 x (λ i w p. outside x i w o p)

pub loaded_back : LoadedBack
loaded_back memory other text first count bytes core words same due e =
    let t = is_taken memory first count text bytes e in
    let T = listing_text memory first count in
    let lines : take (10 * count) (dumped memory first count text).text ≡ T = rw t.leaves (take_at T (drop (10 * count) text) (10 * count) (lines_length memory first count)) in
    let right : (length other ≡ 0) ⊎ (65536 < length other) → ⊥ = rw same t.right in
    let loads = (others_taken core other T).0 (comes_to_lines core other right due) in
    let stores = stores memory other first count words same t.size t.within in
    rw lines (
      loads.0 count stores,
      loads.3,
      ap length loads.2 ∙ (words_stored T other count stores).0,
      λ x l h. ap (λ (m : List ℕ). word_at m x) loads.2 ∙ there memory other first count words same t.size t.within x l h,
      λ x o. ap (λ (m : List ℕ). word_at m x) loads.2 ∙ elsewhere memory other first count words same t.size t.within x o,
    )

-- all of a memory: no number applies, and every word comes back
module _ (memory text : List ℕ) (size : ℕ) (long : length memory ≡ size) (few : size ≤ 65536) (some : 0 < size) (room : 10 * size ≤ length text) where
  none : NoneApplies (dump_numbers memory 0 size text)
  none n (inl (inl e, f)) = omega arith
  none n (inl (inr l, f)) = omega arith
  none n (inr (r, inl f)) = omega (arith, f.0)
  none n (inr (r, inr (w, inl f))) = omega (arith, f.0)
  none n (inr (r, inr (w, inr (l, z)))) = z

  all_written : (dumped memory 0 size text).answer ≡ written (10 * size)
  all_written = ((dump_numbers_lem memory 0 size text).2 (10 * size)).1 (none, refl)

  all_back : (other : List ℕ) (core : Core) → Words memory → length other ≡ size → core.due ≡ 1
      → let reply : Reply = load (take (10 * size) (dumped memory 0 size text).text) core other in
      (reply.answer ≡ stored size) × (reply.memory ≡ memory)
  all_back other core words same due =
      let b = loaded_back memory other text 0 size (10 * size) core words (same ∙ sym long) due all_written in
      (b.0, ext_get_or 0 _ memory (b.2 ∙ same ∙ sym long) (λ x h. b.3 x (omega arith) (omega (arith, b.2))))

pub whole_memory : WholeMemory
whole_memory memory other text core words long same room due =
    let back = all_back memory text 65536 long (lit≤ tt) (lit≤ tt) room other core words same due in
    (all_written memory text 65536 long (lit≤ tt) (lit≤ tt) room, back.0, back.1)
