use Rattle.std.proofs.Common.{◌≡◌, ℕ, ◌+◌, ◌≤◌, List, ◌++◌, length, take, sym, ap, subst, ◌∙◌, rules, length-take-le}
use Rattle.std.proofs.lemmas.List.{places, take-append-le}
use Rattle.std.proofs.Math.Seq.{take-append-add}
use Rattle.std.specs.Io.KnownBytes.{Consumes}
use Rattle.std.proofs.KnownBytes.{Consumes-trans}
use Rattle.input.proofs.read_full.Goals as goal

-- the first f + n, where ys stands after the first f of xs
take_both : (xs ys rest : List ℕ) (f n : ℕ) → f ≤ length xs → n ≤ length ys → take (f + n) (take f xs ++ (ys ++ rest)) ≡ take f xs ++ take n ys
take_both xs ys rest f n within fits =
    ap (λ k. take (k + n) (take f xs ++ (ys ++ rest))) (sym (length-take-le f xs within))
    ∙ take-append-add (take f xs) (ys ++ rest) n
    ∙ ap (λ zs. take f xs ++ zs) (take-append-le n ys rest fits)

pub loop-count-preserved : goal.loop-count-preserved
loop-count-preserved g c =
    let xs = c.loop-count.buffer in
    let ys = c.read.new.buf in
    let read = c.in_ok-more.ensures in
    let old = c.loop-count.invariant in
    (search (rules, places), subst (Consumes _ _) (sym (take_both xs ys _ c.loop-count.count c.in_ok-more.more old.0 read.bound.0)) (Consumes-trans _ _ _ _ _ old.1 read.bytes.0))
