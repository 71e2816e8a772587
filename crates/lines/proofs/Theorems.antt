-- Theorems of specs/Theorems.antt on lines and comments. Assumes nothing.
use mathlib.Core.Path.{◌≡◌, refl, sym, ap, subst, ◌∙◌}
use mathlib.Core.Logic.{◌⊎◌, inl, inr}
use mathlib.Core.Bool.{Bool, true, false, cond}
use mathlib.Core.List.{List, [], ◌∷◌, ◌++◌}
use Prim.Native.Nat.{ℕ, zero, suc, ◌+◌, ◌-◌, ◌≤◌, ◌<◌}
use native.Mathlib.Decide.{dec_lt}
use native.Mathlib.Omega.{arith}
use borrow.Author.Tests.{eqb-true, eqb-false, eq-eqb, ne_eqb}
use lib.Dec.{eqb}
use lib.ListN.{length, get_or, take, drop, length-append, length-drop, drop_of_length-le, get_or-eq_default}
use lib.Seq.{drop-drop, drop-append-add, get_or-take, get_or-drop}
use Rattle.lines.specs.Lines.{line_feed, semicolon, prepend, lines, find, first_line}
use Rattle.lines.specs.Comment.{line_from}
use Rattle.lines.specs.Theorems.{line_at, joined_lines, LinesJoined, start_after, LinesStart, FindFirst, CommentExactly}
use Rattle.lines.proofs.Places.{find_le, first_length}
use Rattle.lines.proofs.Front.{front, first_in}

-- the byte that was looked for stands where it was found
pub found : (b : ℕ) (t : List ℕ) → find b t < length t → get_or t (find b t) 0 ≡ b
unfolding find
found b [] h = absurd (omega arith)
found b (x ∷ t) h = by (eqb x b) refl (found b t) h where
  by : (v : Bool) → eqb x b ≡ v → (find b t < length t → get_or t (find b t) 0 ≡ b) → cond v 0 (suc (find b t)) < suc (length t)
      → get_or (x ∷ t) (cond v 0 (suc (find b t))) 0 ≡ b
  by true e ih l = eqb-true x b e
  by false e ih l = ih (omega arith)

-- and not before
pub not_before : (b : ℕ) (t : List ℕ) (j : ℕ) → j < find b t → get_or t j 0 ≡ b → ⊥
unfolding find
not_before b [] j h e = omega arith
not_before b (x ∷ t) j h e = by (eqb x b) refl j h e (not_before b t) where
  by : (v : Bool) → eqb x b ≡ v → (j : ℕ) → j < cond v 0 (suc (find b t)) → get_or (x ∷ t) j 0 ≡ b
      → ((k : ℕ) → k < find b t → get_or t k 0 ≡ b → ⊥) → ⊥
  by true v j l p ih = omega arith
  by false v zero l p ih = eqb-false x b v p
  by false v (suc j) l p ih = ih j (omega (arith, l)) p

pub find_first : FindFirst
find_first b t = (find_le b t, found b t, not_before b t)

some_line : (t : List ℕ) (i : ℕ) → i < length (lines t) → 0 < length t
unfolding lines
some_line [] i h = absurd (omega arith)
some_line (b ∷ t) i h = omega arith

-- line i of the lines ls of t
Stands : List ℕ → List (List ℕ) → ℕ → Type 0
Stands t ls i =
    (start_after (take i ls) < length t) × ((start_after (take i ls) ≡ 0) ⊎ (get_or t (start_after (take i ls) - 1) 0 ≡ line_feed))
    × (get_or ls i [] ≡ first_line (drop (start_after (take i ls)) t))

-- a line further: s is its start after the first line, which has n bytes
behind : (t : List ℕ) (n s : ℕ) → n ≡ find line_feed t → s < length (drop (n + 1) t)
    → (s ≡ 0) ⊎ (get_or (drop (n + 1) t) (s - 1) 0 ≡ line_feed) → get_or t (n + 1 + s - 1) 0 ≡ line_feed
behind t n zero e l p =
    ap (λ (k : ℕ). get_or t k 0) (omega (arith, e)) ∙ found line_feed t (omega (arith, e, length-drop (n + 1) t))
behind t n (suc s) e l (inl p) = absurd (omega (arith, p))
behind t n (suc s) e l (inr p) = ap (λ (k : ℕ). get_or t k 0) (omega arith) ∙ sym (get_or-drop (n + 1) t (suc s - 1) 0) ∙ p

stands : (i : ℕ) (t : List ℕ) → i < length (lines t) → Stands t (lines t) i
unfolding Stands start_after
stands zero t h =
    let e = front t (some_line t zero h) in subst (λ (ls : List (List ℕ)). Stands t ls zero) (sym e) (some_line t zero h, inl refl, refl)
stands (suc i) t h =
    let n = length (first_line t) in
    let e = front t (some_line t (suc i) h) in
    let l = subst (λ (ls : List (List ℕ)). suc i < length ls) e h in
    let r = stands i (drop (n + 1) t) (omega (arith, l)) in
    let s = start_after (take i (lines (drop (n + 1) t))) in
    subst (λ (ls : List (List ℕ)). Stands t ls (suc i)) (sym e) (
      omega (arith, r.0, length-drop (n + 1) t),
      inr (behind t n s (first_length t) r.0 r.1),
      r.2 ∙ ap first_line (drop-drop s (n + 1) t),
    )

pub lines_start : LinesStart
unfolding Stands
lines_start listing i h = stands i listing h

-- a byte more before lines is a byte more before what they come to, joined
prepended : (b : ℕ) (line : List ℕ) (rest : List (List ℕ)) → joined_lines (prepend b (line ∷ rest)) ≡ b ∷ joined_lines (line ∷ rest)
unfolding joined_lines
prepended b line rest = refl

Joined : List (List ℕ) → List ℕ → Type 0
Joined ls t = (joined_lines ls ≡ t) ⊎ (joined_lines ls ≡ t ++ (line_feed ∷ []))

more : (b : ℕ) {x y z : List ℕ} → x ≡ b ∷ y → (y ≡ z) ⊎ (y ≡ z ++ (line_feed ∷ [])) → (x ≡ b ∷ z) ⊎ (x ≡ (b ∷ z) ++ (line_feed ∷ []))
more b e (inl p) = inl (e ∙ ap (λ (l : List ℕ). b ∷ l) p)
more b e (inr p) = inr (e ∙ ap (λ (l : List ℕ). b ∷ l) p)

one_more : (b : ℕ) (t : List ℕ) {ls : List (List ℕ)} {line : List ℕ} {rest : List (List ℕ)} → ls ≡ line ∷ rest → Joined ls t
    → (v : Bool) → eqb b line_feed ≡ v → Joined (cond v ([] ∷ ls) (prepend b ls)) (b ∷ t)
unfolding Joined joined_lines
one_more b t {ls = ls} s w true e = more b (ap (λ (x : ℕ). x ∷ joined_lines ls) (sym (eqb-true b line_feed e))) w
one_more b t {line = line} {rest = rest} s w false e = rw s (more b (prepended b line rest) (rw s at w))

whole : (t : List ℕ) → Joined (lines t) t
unfolding Joined lines joined_lines
whole [] = inl refl
whole (b ∷ []) = by (eqb b line_feed) refl where
  by : (v : Bool) → eqb b line_feed ≡ v → Joined (cond v ([] ∷ []) ((b ∷ []) ∷ [])) (b ∷ [])
  by true e = inl (ap (λ (x : ℕ). x ∷ []) (sym (eqb-true b line_feed e)))
  by false e = inr refl
whole (b ∷ c ∷ t) = one_more b (c ∷ t) (front (c ∷ t) (omega arith)) (whole (c ∷ t)) (eqb b line_feed) refl

-- a line at the front holds no LF, nor does one that is not there
pub no_feed : (t : List ℕ) (j : ℕ) → get_or (first_line t) j 0 ≡ line_feed → ⊥
no_feed t j e =
    elim (dec_lt j (find line_feed t)) [
      | yes l ↦ not_before line_feed t j l (sym (get_or-take (find line_feed t) t j 0 l) ∙ e)
      | no l ↦
          let z : get_or (first_line t) j 0 ≡ 0 = get_or-eq_default (first_line t) 0 (omega (arith, first_length t)) in omega (arith, z, e)
    ]

pub lines_joined : LinesJoined
unfolding Joined Stands
lines_joined listing = (
  whole listing,
  λ i j e.
      elim (dec_lt i (length (lines listing))) [
        | yes l ↦ no_feed _ j (ap (λ (line : List ℕ). get_or line j 0) (sym (stands i listing l).2) ∙ e)
        | no l ↦
            let z : line_at listing i ≡ [] = get_or-eq_default (lines listing) [] (omega arith) in
            let y : get_or (line_at listing i) j 0 ≡ 0 = ap (λ (line : List ℕ). get_or line j 0) z in omega (arith, y, e)
      ],
)

-- a byte that is found behind others
found_behind : (b : ℕ) (before after : List ℕ) → ((j : ℕ) → get_or before j 0 ≡ b → ⊥) → find b (before ++ (b ∷ after)) ≡ length before
unfolding find
found_behind b [] after n = rw (eq-eqb b b refl)
found_behind b (x ∷ before) after n = rw (ne_eqb x b (n 0)) (ap suc (found_behind b before after (λ j. n (suc j))))

-- or nowhere
found_nowhere : (b : ℕ) (t : List ℕ) → ((j : ℕ) → get_or t j 0 ≡ b → ⊥) → find b t ≡ length t
found_nowhere b t n =
    elim (dec_lt (find b t) (length t)) [ yes l ↦ absurd (n (find b t) (found b t l)) | no l ↦ omega (arith, find_le b t) ]

pub comment_exactly : CommentExactly
comment_exactly listing offset =
    let line = line_from listing offset in (
      λ before text e n.
          let f : find semicolon line ≡ length before = ap (find semicolon) e ∙ found_behind semicolon before text n in
          let l : length line ≡ length before + suc (length text) = ap length e ∙ length-append before (semicolon ∷ text) in (
            rw (f, e) (drop-append-add before (semicolon ∷ text) 1),
            omega (arith, f, l, first_in listing offset),
          ),
      λ n.
          let f = found_nowhere semicolon line n in
          let h : length line ≤ find semicolon line + 1 = omega (arith, f) in (drop_of_length-le line h, omega (arith, f)),
    )
