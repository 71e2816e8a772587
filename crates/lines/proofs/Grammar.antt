-- Theorems of specs/Theorems.antt on one line: its numbers, and that it is read as an entry, or as blank, exactly where it is
-- written as one. Assumes nothing.
use mathlib.Core.Path.{◌≡◌, refl, sym, ap, ◌∙◌}
use mathlib.Core.Logic.{◌⊎◌, inl, inr}
use mathlib.Core.Bool.{Bool, true, false, cond, ◌&&◌}
use mathlib.Core.List.{List, [], ◌∷◌, ◌++◌, append-nil}
use Prim.Native.Nat.{ℕ, zero, suc, ◌+◌, ◌*◌, ◌≤◌, ◌<◌}
use native.Mathlib.Nat.{add-zero}
use native.Mathlib.Decide.{dec_lt}
use native.Mathlib.Omega.{arith}
use borrow.Author.Tests.{ltb-true, eqb-true}
use lib.Dec.{eqb, ltb, lit<}
use lib.ListN.{length, get_or, take, drop, replicate, take-append-drop, length-drop, get_or-append}
use lib.Seq.{drop-cons, drop-drop, drop-append-add, drop_at, get_or-take, get_or-drop, get_or_at, get_or-append-add, length-take-le}
use Rattle.hexadecimal.specs.Digits.{digit_value}
use Rattle.lines.specs.Lines.{space, semicolon, after_spaces, is_empty, nothing_or_comment, ends, byte_at, four_digits, number_at, entry_from, entry_of, read_line}
use Rattle.lines.specs.Theorems.{digit_at, NumberExactly, Writes, EntryLine, EntryExactly, BlankExactly}
use Rattle.lines.specs.declared.Line.TheVariants.{Blank, Entry, IllFormed}
use Rattle.lines.proofs.Places.{too_short}
use Rattle.lines.proofs.Entries.{a_number, an_entry, blank_no_entry, ill_formed_no_entry, line_entered}

-- the spaces at the front, counted
pub spaces_of : (t : List ℕ) → (k : ℕ) × (t ≡ replicate k space ++ after_spaces t)
unfolding after_spaces
spaces_of [] = (0, refl)
spaces_of (b ∷ t) = by (eqb b space) refl (spaces_of t) where
  by : (v : Bool) → eqb b space ≡ v → ((k : ℕ) × (t ≡ replicate k space ++ after_spaces t))
      → (k : ℕ) × (b ∷ t ≡ replicate k space ++ cond v (after_spaces t) (b ∷ t))
  by true e r = (suc r.0, ap (λ (x : ℕ). x ∷ t) (eqb-true b space e) ∙ ap (λ (l : List ℕ). space ∷ l) r.1)
  by false e r = (0, refl)

pub spaces_passed : (k : ℕ) (t : List ℕ) → after_spaces (replicate k space ++ t) ≡ after_spaces t
unfolding after_spaces
spaces_passed zero t = refl
spaces_passed (suc k) t = spaces_passed k t

none : after_spaces [] ≡ []
unfolding after_spaces
none = refl

-- nothing, or `;` and a comment
abbrev pub Ending : List ℕ → Type 0
Ending t = (t ≡ []) ⊎ ((comment : List ℕ) × (t ≡ semicolon ∷ comment))

pub to_ending : (t : List ℕ) → nothing_or_comment t ≡ true → Ending t
to_ending [] e = inl refl
to_ending (b ∷ t) e = inr (t, ap (λ (x : ℕ). x ∷ t) (eqb-true b semicolon e))

pub from_ending : (t : List ℕ) → Ending t → nothing_or_comment (after_spaces t) ≡ true
unfolding after_spaces
from_ending t (inl e) = rw e
from_ending t (inr e) = rw e.1

-- four digit values below 16, and their number
four_read : (a b c d n : ℕ) → four_digits a b c d ≡ n → n < 65536
    → (a < 16) × (b < 16) × (c < 16) × (d < 16) × (n ≡ a * 4096 + b * 256 + c * 16 + d)
unfolding four_digits
four_read a b c d n = by (ltb a 16) refl (ltb b 16) refl (ltb c 16) refl (ltb d 16) refl where
  by : (p : Bool) → ltb a 16 ≡ p → (q : Bool) → ltb b 16 ≡ q → (r : Bool) → ltb c 16 ≡ r → (s : Bool) → ltb d 16 ≡ s
      → cond (p && q && r && s) (a * 4096 + b * 256 + c * 16 + d) 65536 ≡ n → n < 65536
      → (a < 16) × (b < 16) × (c < 16) × (d < 16) × (n ≡ a * 4096 + b * 256 + c * 16 + d)
  by true p true q true r true s e h = (ltb-true a 16 p, ltb-true b 16 q, ltb-true c 16 r, ltb-true d 16 s, sym e)
  by true p true q true r false s e h = absurd (omega (arith, e, h))
  by true p true q false r s t e h = absurd (omega (arith, e, h))
  by true p false q r s t u e h = absurd (omega (arith, e, h))
  by false p q r s t u v e h = absurd (omega (arith, e, h))

-- what holds of four places holds below four
each_of_four : (P : ℕ → Type 0) → P 0 → P 1 → P 2 → P 3 → (k : ℕ) → k < 4 → P k
each_of_four P a b c d zero h = a
each_of_four P a b c d (suc zero) h = b
each_of_four P a b c d (suc (suc zero)) h = c
each_of_four P a b c d (suc (suc (suc zero))) h = d
each_of_four P a b c d (suc (suc (suc (suc k)))) h = absurd (omega (arith, h))

pub number_exactly : NumberExactly
unfolding number_at
number_exactly line i n = (
  λ p.
      let f = four_read (digit_at line i) (digit_at line (i + 1)) (digit_at line (i + 2)) (digit_at line (i + 3)) n p.0 p.1 in
      let z : digit_at line (i + 0) < 16 = rw add-zero f.0 in
      (each_of_four (λ k. digit_at line (i + k) < 16) z f.1 f.2 f.3, omega (arith, f.4)),
  λ p.
      let z : digit_at line i < 16 = rw add-zero at (p.0 0 (lit< tt)) in
      let b = p.0 1 (lit< tt) in
      let c = p.0 2 (lit< tt) in
      let d = p.0 3 (lit< tt) in
      let e = a_number (digit_at line i) (digit_at line (i + 1)) (digit_at line (i + 2)) (digit_at line (i + 3)) z b c d in
      (e ∙ omega (arith, p.1), omega (arith, p.1, z, b, c, d)),
)

-- a number depends on its four bytes alone
pub same_number : (s t : List ℕ) (i j : ℕ) → ((k : ℕ) → k < 4 → get_or s (i + k) 0 ≡ get_or t (j + k) 0) → number_at s i ≡ number_at t j
unfolding number_at
same_number s t i j z =
    let e : get_or s i 0 ≡ get_or t j 0 = rw (add-zero i, add-zero j) at (z 0 (lit< tt)) in
    rw (e, z 1 (lit< tt), z 2 (lit< tt), z 3 (lit< tt))

-- from what is read to how it is written
long_enough : (line : List ℕ) (x y : ℕ) → read_line line ≡ Entry x y → 9 ≤ length line
unfolding read_line
long_enough line x y e = elim (dec_lt (length line) 9) [ yes l ↦ absurd (short l (is_empty (after_spaces line)) e) | no l ↦ omega arith ] where
  short : length line < 9 → (v : Bool) → cond v Blank (entry_of line) ≡ Entry x y → ⊥
  short l true e = blank_no_entry x y e
  short l false e = ill_formed_no_entry x y (sym (too_short line l) ∙ e)

pieces : (line : List ℕ) → 9 ≤ length line → get_or line 4 0 ≡ space
    → line ≡ take 4 line ++ (space ∷ (take 4 (drop 5 line) ++ drop 9 line))
pieces line h e =
    sym (take-append-drop 4 line)
    ∙ ap (λ (l : List ℕ). take 4 line ++ l)
    (drop-cons line 4 0 (omega arith) ∙ ap (λ (b : ℕ). b ∷ drop 5 line) e
    ∙ ap (λ (l : List ℕ). space ∷ l)
    (sym (take-append-drop 4 (drop 5 line)) ∙ ap (λ (l : List ℕ). take 4 (drop 5 line) ++ l) (drop-drop 4 5 line)))

read_entry : (line : List ℕ) (x y : ℕ) → read_line line ≡ Entry x y → EntryLine line x y
read_entry line x y e =
    let r = line_entered line x y e in
    let h = long_enough line x y e in
    let s = spaces_of (drop 9 line) in
    let ending : Ending (after_spaces (drop 9 line)) = to_ending (after_spaces (drop 9 line)) r.end in
    record {
      first = take 4 line;
      second = take 4 (drop 5 line);
      spaces = s.0;
      rest = after_spaces (drop 9 line);
      writes_address = (
        length-take-le 4 line (omega arith),
        same_number (take 4 line) line 0 0 (λ k l. get_or-take 4 line (0 + k) 0 (omega arith)) ∙ r.address,
        r.address_word,
      );
      writes_word = (
        length-take-le 4 (drop 5 line) (omega (arith, length-drop 5 line)),
        same_number (take 4 (drop 5 line)) line 0 5
            (λ k l.
            let z : 5 + (0 + k) ≡ 5 + k = omega arith in
            get_or-take 4 (drop 5 line) (0 + k) 0 (omega arith) ∙ get_or-drop 5 line (0 + k) 0 ∙ ap (λ (n : ℕ). get_or line n 0) z)
            ∙ r.word,
        r.word_word,
      );
      ending = ending;
      whole = pieces line h r.spaced ∙ ap (λ (l : List ℕ). take 4 line ++ (space ∷ (take 4 (drop 5 line) ++ l))) s.1;
    }

-- and back
no_space : (b x : ℕ) (t : List ℕ) → number_at (b ∷ t) 0 ≡ x → x < 65536 → eqb b space ≡ false
unfolding number_at four_digits digit_value
no_space b x t e h = by (eqb b space) refl where
  by : (v : Bool) → eqb b space ≡ v → v ≡ false
  by true p =
      let s = eqb-true b space p in
      let n : number_at (b ∷ t) 0 ≡ 65536 = rw s in absurd (omega (arith, n, e))
  by false p = refl

not_blank : (t rest : List ℕ) (x : ℕ) → Writes t x → is_empty (after_spaces (t ++ rest)) ≡ false
unfolding after_spaces
not_blank [] rest x w = absurd (omega (arith, w.0))
not_blank (b ∷ t) rest x w = rw (no_space b x t w.1 w.2)

module _ (first second end : List ℕ) (x y : ℕ) (f : Writes first x) (s : Writes second y) where
  line : List ℕ
  line = first ++ (space ∷ (second ++ end))

  address_there : number_at line 0 ≡ x
  unfolding line
  address_there =
      same_number (first ++ (space ∷ (second ++ end))) first 0 0
      (λ k l. get_or-append first (space ∷ (second ++ end)) 0 (0 + k) (omega (arith, f.0)))
      ∙ f.1

  word_there : number_at line 5 ≡ y
  unfolding line
  word_there = same_number (first ++ (space ∷ (second ++ end))) second 5 0 at ∙ s.1 where
    at : (k : ℕ) → k < 4 → get_or (first ++ (space ∷ (second ++ end))) (5 + k) 0 ≡ get_or second (0 + k) 0
    at k l =
        let e : 5 + k ≡ length first + suc k = omega (arith, f.0) in
        let z : 0 + k ≡ k = omega arith in
        rw (e, z) (get_or-append-add first (space ∷ (second ++ end)) (suc k) 0 ∙ get_or-append second end 0 k (omega (arith, s.0)))

  end_there : drop 9 line ≡ end
  unfolding line
  end_there =
      let e : 9 ≡ length first + 5 = omega (arith, f.0) in
      ap (λ (n : ℕ). drop n (first ++ (space ∷ (second ++ end)))) e ∙ drop-append-add first (space ∷ (second ++ end)) 5 ∙ drop_at second end 4 s.0

  written_entry : ends end ≡ true → read_line line ≡ Entry x y
  unfolding line read_line entry_of
  written_entry t =
      rw (not_blank first (space ∷ (second ++ end)) x f, address_there, word_there, end_there)
      (an_entry x _ y (ends end) f.2 (get_or_at first space (second ++ end) 0 4 f.0) s.2 t)

pub entry_exactly : EntryExactly
unfolding line
entry_exactly text x y = (
  read_entry text x y,
  λ r.
      let t : ends (replicate r.spaces space ++ r.rest) ≡ true = rw (spaces_passed r.spaces r.rest) (from_ending r.rest r.ending) in
      rw r.whole (written_entry r.first r.second (replicate r.spaces space ++ r.rest) x y r.writes_address r.writes_word t),
)

-- an entry, or a line that is none, is not blank
entry_no_blank : (a between w : ℕ) (ended : Bool) → entry_from a between w ended ≡ Blank → ⊥
unfolding entry_from
entry_no_blank a between w ended = by (ltb a 65536 && eqb between space && ltb w 65536 && ended) where
  by : (v : Bool) → cond v (Entry a w) IllFormed ≡ Blank → ⊥
  by true e = let z : ◌≡◌ {A = ℕ} 0 1 = cc in omega arith
  by false e = let z : ◌≡◌ {A = ℕ} 0 1 = cc in omega arith

nothing_left : (t : List ℕ) → is_empty t ≡ true → t ≡ []
nothing_left [] e = refl
nothing_left (b ∷ t) e = let z : ◌≡◌ {A = ℕ} 0 1 = cc in absurd (omega arith)

pub blank_exactly : BlankExactly
unfolding read_line entry_of
blank_exactly line = (by (is_empty (after_spaces line)) refl, back) where
  by : (v : Bool) → is_empty (after_spaces line) ≡ v → cond v Blank (entry_of line) ≡ Blank → (spaces : ℕ) × (line ≡ replicate spaces space)
  by true v e =
      let s = spaces_of line in
      (s.0, s.1 ∙ ap (λ (t : List ℕ). replicate s.0 space ++ t) (nothing_left (after_spaces line) v) ∙ append-nil (replicate s.0 space))
  by false v e = absurd (entry_no_blank (number_at line 0) (byte_at line 4) (number_at line 5) (ends (drop 9 line)) e)

  back : ((spaces : ℕ) × (line ≡ replicate spaces space)) → read_line line ≡ Blank
  back s =
      let z : after_spaces line ≡ [] = ap after_spaces (s.1 ∙ sym (append-nil (replicate s.0 space))) ∙ spaces_passed s.0 [] ∙ none in rw z
