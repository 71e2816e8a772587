-- The theorem `CommentBytes` of specs/Theorems.antt: the bytes of the line from the offset on are those of the listing. Assumes nothing.
use mathlib.Core.Path.{◌≡◌, sym, ap, ◌∙◌}
use mathlib.Core.Logic.{inl, inr}
use mathlib.Core.List.{List, []}
use Prim.Native.Nat.{ℕ, ◌+◌, ◌-◌, ◌≤◌, ◌<◌, min}
use native.Mathlib.Decide.{dec_lt}
use native.Mathlib.Omega.{arith}
use lib.ListN.{length, get_or, drop, length-drop, drop_of_length-le, get_or-eq_default}
use lib.Seq.{get_or-take, get_or-drop}
use Rattle.lines.specs.Lines.{find}
use Rattle.lines.specs.Comment.{line_from, comment_text, comment_start}
use Rattle.lines.specs.Theorems.{OpensAt, StretchFrom, CommentBytes}
use Rattle.lines.proofs.Places.{find_le, first_length}
use Rattle.lines.proofs.Front.{first_in}
use Rattle.lines.proofs.Theorems.{found, not_before, no_feed}

-- the line from the offset on, and the place of its first `;`
module _ (listing : List ℕ) (offset : ℕ) where
  abbrev rest : List ℕ
  rest = drop offset listing

  abbrev line : List ℕ
  line = line_from listing offset

  abbrev mark : ℕ
  mark = find 59 line

  at : (j : ℕ) → j < length line → get_or line j 0 ≡ get_or listing (offset + j) 0
  at j h = get_or-take (find 10 rest) rest j 0 (omega (arith, first_length rest, h)) ∙ get_or-drop offset listing j 0

  -- behind the line is an LF, or the end
  after : length line < length rest → get_or listing (offset + length line) 0 ≡ 10
  after h =
      let n = first_length rest in
      ap (λ (k : ℕ). get_or listing (offset + k) 0) n ∙ sym (get_or-drop offset listing (find 10 rest) 0)
      ∙ found 10 rest (omega (arith, n, h))

  -- the stretch's end is the line's
  ends : comment_start listing offset + length (comment_text listing offset) ≡ min offset (length listing) + length line
  ends = omega (arith, find_le 59 line, length-drop (mark + 1) line)

  stretch : StretchFrom listing (comment_start listing offset) (comment_text listing offset)
  stretch = (
    omega (arith, ends, first_in listing offset),
    λ j h.
        let l : mark + 1 + j < length line = omega (arith, h, length-drop (mark + 1) line) in
        let t : get_or (comment_text listing offset) j 0 ≡ get_or line (mark + 1 + j) 0 = get_or-drop (mark + 1) line j 0 in (
          t ∙ at (mark + 1 + j) l ∙ ap (λ (k : ℕ). get_or listing k 0) (omega (arith, l, first_in listing offset)),
          λ e. no_feed rest (mark + 1 + j) (sym t ∙ e),
        ),
    elim (dec_lt (length line) (length rest)) [
      | yes l ↦
          inr (ap (λ (k : ℕ). get_or listing k 0) (omega (arith, ends, l, length-drop offset listing)) ∙ after l)
      | no l ↦ inl (omega (arith, ends, l, length-drop offset listing, first_in listing offset))
    ],
  )

  -- a `;` with no LF before it stands in the line
  within : (i : ℕ) → OpensAt listing offset i → i < offset + length line
  within i (h, e, clear) =
      elim (dec_lt i (offset + length line)) [
        | yes l ↦ l
        | no l ↦
            elim (dec_lt i (length listing)) [
              | yes b ↦
                  let feed = after (omega (arith, h, l, b, length-drop offset listing)) in
                  elim (dec_lt (offset + length line) i) [
                    | yes k ↦ absurd ((clear (offset + length line) (omega arith) k).1 feed)
                    | no k ↦
                        let z : get_or listing i 0 ≡ 10 = ap (λ (x : ℕ). get_or listing x 0) (omega (arith, l, k)) ∙ feed in
                        absurd (omega (arith, e, z))
                  ]
              | no b ↦ let g : length listing ≤ i = omega (arith, b) in absurd (omega (arith, e, get_or-eq_default listing 0 g))
            ]
      ]

  marked : (i : ℕ) → OpensAt listing offset i → mark ≡ i - offset
  marked i (h, e, clear) =
      let l = within i (h, e, clear) in
      let here : get_or line (i - offset) 0 ≡ 59 = at (i - offset) (omega (arith, h, l)) ∙ ap (λ (x : ℕ). get_or listing x 0) (omega (arith, h)) ∙ e in
      elim (dec_lt (i - offset) mark) [
        | yes k ↦ absurd (not_before 59 line (i - offset) k here)
        | no k ↦
            elim (dec_lt mark (i - offset)) [
              | yes m ↦
                  let r : mark < length line = omega (arith, h, l, m) in
                  absurd ((clear (offset + mark) (omega arith) (omega (arith, m))).0 (sym (at mark r) ∙ found 59 line r))
              | no m ↦ omega (arith, k, m)
            ]
      ]

  opens : (i : ℕ) → OpensAt listing offset i → comment_start listing offset ≡ i + 1
  opens i o = omega (arith, o.0, within i o, marked i o, first_in listing offset)

  none : ((i : ℕ) → OpensAt listing offset i → ⊥) → comment_text listing offset ≡ []
  none n =
      elim (dec_lt mark (length line)) [
        | yes l ↦
            let back : (k : ℕ) → offset ≤ k → k < offset + mark → get_or line (k - offset) 0 ≡ get_or listing k 0 =
            λ k g h. at (k - offset) (omega (arith, g, h, l)) ∙ ap (λ (x : ℕ). get_or listing x 0) (omega (arith, g)) in
            absurd (n (offset + mark) (
              omega arith,
              sym (at mark l) ∙ found 59 line l,
              λ k g h. (
                λ e. not_before 59 line (k - offset) (omega (arith, g, h)) (back k g h ∙ e),
                λ e. no_feed rest (k - offset) (back k g h ∙ e),
              ),
            ))
        | no l ↦ let g : length line ≤ mark + 1 = omega (arith, l) in drop_of_length-le line g
      ]

pub comment_bytes : CommentBytes
comment_bytes listing offset = (stretch listing offset, opens listing offset, none listing offset)
