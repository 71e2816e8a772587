-- The theorems of specs/Theorems.antt, each by induction on the list.
use mathlib.Core.Path.{◌≡◌, refl, ap, subst, ◌∙◌}
use mathlib.Core.List.{List, [], ◌∷◌, ◌++◌, map}
use Prim.Native.Nat.{ℕ}
use native.Mathlib.Omega.{arith}
use Rattle.plays.specs.Plays.{play, Each, counted}
use Rattle.plays.specs.Theorems.{PlayExactly, EachExactly, PlaysAgree, PlaysSame, PlaysCounted}

-- two lists that are one have the same head and the same tail, and none is both empty and not
module _ {C : Type 0} where
  no_cons : {c : C} {l : List C} → ◌≡◌ {A = List C} [] (c ∷ l) → ⊥
  no_cons e = let z : ◌≡◌ {A = ℕ} 0 1 = cc in omega arith

  head_same : {c d : C} {l m : List C} → ◌≡◌ {A = List C} (c ∷ l) (d ∷ m) → c ≡ d
  head_same e = cc

  tail_same : {c d : C} {l m : List C} → ◌≡◌ {A = List C} (c ∷ l) (d ∷ m) → l ≡ m
  tail_same e = cc

pub play_exactly : PlayExactly
unfolding play
play_exactly C S A f first second call s = (refl, refl, answers first s, states first s)
  where
    answers : (l : List C) (s : S) → (play f (l ++ second) s).0 ≡ (play f l s).0 ++ (play f second (play f l s).1).0
    answers [] s = refl
    answers (c ∷ rest) s = ap (λ (l : List A). (f c s).0 ∷ l) (answers rest (f c s).1)

    states : (l : List C) (s : S) → (play f (l ++ second) s).1 ≡ (play f second (play f l s).1).1
    states [] s = refl
    states (c ∷ rest) s = states rest (f c s).1

pub each_exactly : EachExactly
unfolding play Each
each_exactly C S A f Holds calls s = (to calls s, from calls s)
  where
    to : (calls : List C) (s : S) → Each f Holds calls s
        → (before : List C) (call : C) (rest : List C) → calls ≡ before ++ (call ∷ rest) → Holds call (play f before s).1
    to [] s e [] call rest q = absurd (no_cons q)
    to [] s e (b ∷ before) call rest q = absurd (no_cons q)
    to (c ∷ calls) s e [] call rest q = subst (λ (x : C). Holds x s) (head_same q) e.0
    to (c ∷ calls) s e (b ∷ before) call rest q =
        subst (λ (x : C). Holds call (play f before (f x s).1).1) (head_same q)
        (to calls (f c s).1 e.1 before call rest (tail_same q))

    from : (calls : List C) (s : S)
        → ((before : List C) (call : C) (rest : List C) → calls ≡ before ++ (call ∷ rest) → Holds call (play f before s).1)
        → Each f Holds calls s
    from [] s h = tt
    from (c ∷ calls) s h = (
      h [] c calls refl,
      from calls (f c s).1 (λ before call rest q. h (c ∷ before) call rest (ap (λ (l : List C). c ∷ l) q)),
    )

pub plays_agree : PlaysAgree
unfolding play
plays_agree C S T A f g Related each [] s t r = (refl, r)
plays_agree C S T A f g Related each (call ∷ rest) s t r =
    let one = each call s t r in
    let more = plays_agree C S T A f g Related each rest (f call s).1 (g call t).1 one.1 in
    let first = one.0 in
    let others = more.0 in
    (λ j. first j ∷ others j, more.1)

-- what follows from something, of each call
pub each_then : {C S A : Type 0} (f : C → S → A × S) (P Q : C → S → Type 0) → ((call : C) (s : S) → P call s → Q call s)
    → (calls : List C) (s : S) → Each f P calls s → Each f Q calls s
unfolding Each
each_then f P Q then [] s e = tt
each_then f P Q then (call ∷ rest) s e = (then call s e.0, each_then f P Q then rest (f call s).1 e.1)

pub plays_same : PlaysSame
unfolding play Each
plays_same C D S A f g other [] s e = refl
plays_same C D S A f g other (call ∷ rest) s e =
    let one = e.0 in
    let more = plays_same C D S A f g other rest (f call s).1 e.1 in
    (λ j. ((f call s).0 ∷ (more j).0, (more j).1))
    ∙ ap (λ (x : A × S). (x.0 ∷ (play g (map other rest) x.1).0, (play g (map other rest) x.1).1)) one

pub plays_counted : PlaysCounted
unfolding play counted
plays_counted C S A f count size each [] s = refl
plays_counted C S A f count size each (call ∷ rest) s =
    ap (counted count (play f rest (f call s).1).0) (each call s) ∙ plays_counted C S A f count size each rest (f call s).1
