-- `printing::print_words` meets its contract: what is judged has the log's verdict. Assumes nothing.
use mathlib.Core.Path.{◌≡◌}
use mathlib.Core.List.{List}
use Prim.Native.Nat.{ℕ}
use Rattle.std.specs.declared.result.Result.{Result}
use Rattle.std.specs.declared.result.Result.TheVariants.{Ok, Err}
use Rattle.std.specs.Prelude.{MatchResult}
use Rattle.std.specs.Borrow.{Bor}
use Rattle.rules.specs.declared.Refusal.{Refusal}
use Rattle.rules.specs.Answers.{verdict_of}
use Rattle.rules.specs.Verdict.{verdict}
use Rattle.judging.specs.declared.Account.{Account}
use Rattle.printing.specs.Words.{in_words}
use Rattle.printing.proofs.print_words.Goals as goal

judged : (b : Bor (List ℕ)) (r : Result Account Refusal) → MatchResult r (λ a. a.log.bytes ≡ b) (λ x. verdict b.now ≡ Err x) → verdict b.now ≡ verdict_of r
judged b (Ok a) m = rw m at a.accepted
judged b (Err x) m = m

pub returns : goal.returns
unfolding in_words
returns c = rw (judged c.args.log c.judge_log.result c.judge_log.ensures) c.put_words.ensures
