use Rattle.std.proofs.Common.{◌≤◌}
use Rattle.all_words.proofs.count_all.Given as goal

abbrev pub invariant-loop-word : goal.invariant-loop-word
invariant-loop-word l =
    (l.counts.defined ≤ l.word) × (l.counts.undefined ≤ l.word) × (l.counts.unchanged ≤ l.word) × (l.counts.refused ≤ l.word)
