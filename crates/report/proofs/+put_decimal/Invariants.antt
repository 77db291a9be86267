-- The measure of `report::put_decimal`, which calls itself with the digits before a number's last: the number. Assumes nothing.
use Rattle.report.proofs.+put_decimal.Given as goal

abbrev pub decreases-put_decimal : goal.decreases-put_decimal
decreases-put_decimal l = l.n
