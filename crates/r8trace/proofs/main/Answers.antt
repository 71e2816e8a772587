use Rattle.std.proofs.Common.{sym, length-take-le}
use Rattle.printed.proofs.Lines.{count_within}
use Rattle.r8trace.proofs.main.Goals as goal

pub slice_bounds-page-end : goal.slice_bounds-page-end
slice_bounds-page-end c = count_within _ _ c.trace_text-count.ensures

pub slice_bounds-write_all-end : goal.slice_bounds-write_all-end
slice_bounds-write_all-end c = sym (length-take-le _ _ (count_within _ _ c.trace_text-count.ensures))
