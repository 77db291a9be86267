-- `appendix::print_supplemental_words` meets its contract: what is answered has the verdict on log and benchmarks. Assumes nothing.
use mathlib.Core.Path.{ap, ◌∙◌}
use Rattle.rules.specs.Answers.{verdict_of}
use Rattle.rules.proofs.Given.{own_verdict}
use Rattle.printing.specs.Words.{words_by}
use Rattle.appendix.specs.Lines.{supplemental_words}
use Rattle.appendix.proofs.print_supplemental_words.Goals as goal

pub returns : goal.returns
unfolding supplemental_words
returns c = rw (ap words_by (ap verdict_of c.tool_supplemental.ensures.answer ∙ own_verdict _ _)) at c.put_words.ensures
