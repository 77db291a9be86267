-- `Account::sums` meets its contract: its log's header is the one that the log's bytes have.
-- Assumes nothing.
use Rattle.judging.proofs.Judging.{header_period, header_modules}
use Rattle.judging.proofs.account.Account.sums.Goals as goal

pub invariant_of-result : goal.invariant_of-result
invariant_of-result c =
    let log = c.args.self.now.log in
    record {
      period_value = header_period log.bytes.now log.header log.own;
      modules_value = header_modules log.bytes.now log.header log.own;
      working_totals = c.args.self.now.working_totals;
    }
