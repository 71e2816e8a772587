-- Laws of `onto` and `onto_if_room`: where the numbers fit, and numbers written in two parts.
use mathlib.Core.Path.{◌≡◌, sym, ap, ◌∙◌}
use mathlib.Core.Bool.{Bool, cond}
use mathlib.Core.List.{List, [], ◌++◌, append-nil, append_assoc}
use Prim.Native.Nat.{ℕ, ◌+◌, ◌-◌, ◌≤◌}
use native.Mathlib.Omega.{arith}
use borrow.Author.Tests.{le-leb}
use lib.ListN.{length, take, drop, length-append, length-drop, drop_of_length-le}
use lib.Seq.{take_at, drop_at, take_all, drop-drop, length-take-le}
use Rattle.layout.specs.Layout.{onto, onto_if_room}

pub fitting : (new old : List ℕ) → length new ≤ length old → onto_if_room new old ≡ onto new old
fitting new old h = ap (λ (b : Bool). cond b (onto new old) old) (le-leb _ _ h)

-- into the part of a list from a place on, which is handed back behind what stands before it
pub into_part : (new old part : List ℕ) (to : ℕ) → to ≤ length old → part ≡ onto_if_room new (take (length old - to) (drop to old))
    → take to old ++ (part ++ drop (length old - to) (drop to old)) ≡ take to old ++ onto_if_room new (drop to old)
into_part new old part to h e =
    let size : length (drop to old) ≡ length old - to = length-drop to old in
    let none : drop (length old - to) (drop to old) ≡ [] = drop_of_length-le (drop to old) {i = length old - to} (omega arith) in
    let whole : take (length old - to) (drop to old) ≡ drop to old = take_all (length old - to) (drop to old) (omega arith) in
    ap (λ (r : List ℕ). take to old ++ (part ++ r)) none
    ∙ ap (λ (r : List ℕ). take to old ++ r) (append-nil part ∙ e ∙ ap (onto_if_room new) whole)

-- first some numbers, then more behind them
pub in_two_parts : (new more old : List ℕ) (to : ℕ) → to + length new + length more ≤ length old
    → let next : List ℕ = take to old ++ onto_if_room new (drop to old) in
    take to old ++ onto_if_room (new ++ more) (drop to old) ≡ take (to + length new) next ++ onto_if_room more (drop (to + length new) next)
in_two_parts new more old to h =
    let d = drop to old in
    let rest = drop (length new) d in
    let next = take to old ++ onto_if_room new d in
    let size : length d ≡ length old - to = length-drop to old in
    let left : length rest ≡ length d - length new = length-drop (length new) d in
    let both : length (new ++ more) ≡ length new + length more = length-append new more in
    let front : length (take to old ++ new) ≡ to + length new =
    length-append (take to old) new ∙ ap (λ (n : ℕ). n + length new) (length-take-le to old (omega arith)) in
    let parts : next ≡ (take to old ++ new) ++ rest =
    ap (λ (r : List ℕ). take to old ++ r) (fitting new d (omega arith)) ∙ sym (append_assoc (take to old) new rest) in
    let before = ap (take (to + length new)) parts ∙ take_at (take to old ++ new) rest (to + length new) front in
    let behind = ap (drop (to + length new)) parts ∙ drop_at (take to old ++ new) rest (to + length new) front in
    let dropped : drop (length more) rest ≡ drop (length (new ++ more)) d =
    drop-drop (length more) (length new) d ∙ ap (λ (n : ℕ). drop n d) (sym both) in
    let first : take to old ++ onto_if_room (new ++ more) d ≡ take to old ++ (new ++ (more ++ drop (length more) rest)) =
    ap (λ (r : List ℕ). take to old ++ r)
    (fitting (new ++ more) d (omega arith)
    ∙ append_assoc new more (drop (length (new ++ more)) d)
    ∙ ap (λ (r : List ℕ). new ++ (more ++ r)) (sym dropped)) in
    let second : (take to old ++ new) ++ onto_if_room more rest ≡ take to old ++ (new ++ (more ++ drop (length more) rest)) =
    ap (λ (r : List ℕ). (take to old ++ new) ++ r) (fitting more rest (omega arith)) ∙ append_assoc (take to old) new _ in
    first ∙ sym second ∙ sym (λ j. before j ++ onto_if_room more (behind j))
