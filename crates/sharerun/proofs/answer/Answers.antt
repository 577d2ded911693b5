-- What is written is within the text (`report_within`).
use Rattle.report.proofs.Within.{report_within}
use Rattle.sharerun.proofs.answer.Goals as goal

pub slice_bounds-write_all-end : goal.slice_bounds-write_all-end
slice_bounds-write_all-end g c = (report_within _ _ _ c.report-r.ensures.answer c.report-r.ensures.bytes).0

pub slice_bounds-write_all-end-2 : goal.slice_bounds-write_all-end-2
slice_bounds-write_all-end-2 g c = (report_within _ _ _ c.report-r.ensures.answer c.report-r.ensures.bytes).1
