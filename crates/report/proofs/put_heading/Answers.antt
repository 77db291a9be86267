-- `report::put_heading` meets its contract: the byte string is the heading. Assumes nothing.
use Rattle.report.specs.Report.{heading}
use Rattle.report.proofs.put_heading.Goals as goal

pub returns : goal.returns
unfolding heading
returns c = c.put_text.ensures
