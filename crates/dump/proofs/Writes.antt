-- Lines written into a text, one after the other. Assumes nothing.
use mathlib.Core.Path.{◌≡◌, refl, sym, ap, ◌∙◌}
use mathlib.Core.List.{List, [], ◌∷◌, ◌++◌, append_assoc}
use Prim.Native.Nat.{ℕ, zero, suc, ◌+◌, ◌-◌, ◌*◌, ◌<◌}
use native.Mathlib.Numerals.{add-one}
use native.Mathlib.Omega.{arith}
use lib.ListN.{length, get_or, take, drop, set, drop_of_length-le}
use lib.Seq.{sets-eq, take_at, drop_at, drop-drop, get_or-take, get_or-drop}
use Rattle.words.specs.Memory.{word_at}
use Rattle.dump.specs.Dump.{entry_text, listing_text}

-- ten bytes, stored one by one
pub ten_stored : (l : List ℕ) (a b c d e f g h i j : ℕ) → length l ≡ 10
    → set (set (set (set (set (set (set (set (set (set l 0 a) 1 b) 2 c) 3 d) 4 e) 5 f) 6 g) 7 h) 8 i) 9 j
    ≡ a ∷ b ∷ c ∷ d ∷ e ∷ f ∷ g ∷ h ∷ i ∷ j ∷ []
ten_stored l a b c d e f g h i j ten =
    let ten_bytes = a ∷ b ∷ c ∷ d ∷ e ∷ f ∷ g ∷ h ∷ i ∷ j ∷ [] in
    sets-eq ten_bytes l 0 (omega (arith, ten)) ∙ ap (λ (r : List ℕ). ten_bytes ++ r) (drop_of_length-le l {i = 10} (omega (arith, ten)))

pub lines_length : (memory : List ℕ) (first count : ℕ) → length (listing_text memory first count) ≡ 10 * count
unfolding listing_text
lines_length memory first zero = refl
lines_length memory first (suc count) = let more = lines_length memory (first + 1) count in omega arith

-- a line more behind the lines so far
line_last : (memory : List ℕ) (first i : ℕ) → listing_text memory first (suc i) ≡ listing_text memory first i ++ entry_text (first + i) (word_at memory (first + i))
unfolding listing_text
line_last memory first zero = let here : first ≡ first + 0 = omega arith in ap (λ (a : ℕ). entry_text a (word_at memory a)) here
line_last memory first (suc i) =
    let next : first + 1 + i ≡ first + suc i = omega arith in
    ap (λ (r : List ℕ). entry_text first (word_at memory first) ++ r)
    (line_last memory (first + 1) i ∙ ap (λ (a : ℕ). listing_text memory (first + 1) i ++ entry_text a (word_at memory a)) next)

-- and what is behind them
line_more : (memory old : List ℕ) (first i : ℕ)
    → let text : List ℕ = listing_text memory first i ++ drop (10 * i) old in
    take (10 * i) text ++ (entry_text (first + i) (word_at memory (first + i)) ++ drop (10 * i + 10) text)
    ≡ listing_text memory first (i + 1) ++ drop (10 * (i + 1)) old
line_more memory old first i =
    let lines = listing_text memory first i in
    let rest = drop (10 * i) old in
    let line = entry_text (first + i) (word_at memory (first + i)) in
    let size : length lines ≡ 10 * i = lines_length memory first i in
    let front = take_at lines rest (10 * i) size in
    let back : drop (10 * i + 10) (lines ++ rest) ≡ drop (10 * (i + 1)) old =
    sym (drop-drop 10 (10 * i) (lines ++ rest)) ∙ ap (drop 10) (drop_at lines rest (10 * i) size) ∙ drop-drop 10 (10 * i) old ∙ ap (λ (n : ℕ). drop n old) (omega arith) in
    (λ j. front j ++ (line ++ back j))
    ∙ sym (append_assoc lines line (drop (10 * (i + 1)) old))
    ∙ ap (λ (l : List ℕ). l ++ drop (10 * (i + 1)) old) (sym (line_last memory first i) ∙ ap (listing_text memory first) (sym (add-one i)))

-- with the word as the loop has it
pub line_put : (memory old text line : List ℕ) (first count i : ℕ) → text ≡ listing_text memory first i ++ drop (10 * i) old → i < count
    → line ≡ entry_text (first + i) (get_or (take (first + count - first) (drop first memory)) i 0)
    → take (10 * i) text ++ (line ++ drop (10 * (i + 1) - 10 * i) (drop (10 * i) text)) ≡ listing_text memory first (i + 1) ++ drop (10 * (i + 1)) old
line_put memory old text line first count i so h e =
    let word : get_or (take (first + count - first) (drop first memory)) i 0 ≡ word_at memory (first + i) =
    get_or-take (first + count - first) (drop first memory) i 0 (omega arith) ∙ get_or-drop first memory i 0 in
    let ten : 10 * (i + 1) - 10 * i ≡ 10 = omega arith in
    let behind : drop (10 * (i + 1) - 10 * i) (drop (10 * i) text) ≡ drop (10 * i + 10) text =
    ap (λ (n : ℕ). drop n (drop (10 * i) text)) ten ∙ drop-drop 10 (10 * i) text in
    (λ j. take (10 * i) text ++ ((e ∙ ap (entry_text (first + i)) word) j ++ behind j))
    ∙ ap (λ (t : List ℕ). take (10 * i) t ++ (entry_text (first + i) (word_at memory (first + i)) ++ drop (10 * i + 10) t)) so
    ∙ line_more memory old first i
