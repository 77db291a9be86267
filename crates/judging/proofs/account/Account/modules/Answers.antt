-- `Account::modules` meets its contract: its log's header is the one that the log's bytes have, and an accepted log has at most 64 modules.
-- Assumes nothing.
use Rattle.judging.proofs.Judging.{header_modules}
use Rattle.judging.proofs.account.Account.modules.Goals as goal

pub returns : goal.returns
returns c =
    let log = c.args.self.now.log in
    let own = header_modules log.bytes.now log.header log.own in
    (own, rw own c.args.self.now.consistent.few)
