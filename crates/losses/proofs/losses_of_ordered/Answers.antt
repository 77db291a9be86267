-- `losses::losses_of_ordered` meets its contract: the quotients and the remainders are those of the parts, so the five are `losses_of`, and `proofs/AddUp.antt`
-- says what these are worth.
-- Assumes nothing.
use mathlib.Core.Path.{refl}
use Rattle.losses.specs.Losses.{served, share, losses_of}
use Rattle.losses.proofs.AddUp.{five-not-over, five-missing, adds_up}
use Rattle.losses.proofs.losses_of_ordered.Goals as goal

pub overflow_sub-missing : goal.overflow_sub-missing
overflow_sub-missing c =
    rw (c.divided-availability.ensures.0, c.divided-operational.ensures.0, c.divided-rate.ensures.0, c.divided-quality.ensures.0, c.divided-oee.ensures.0) (five-not-over c.args.q c.requires)

pub returns-clause-losses : goal.returns-clause-losses
unfolding losses_of share served
returns-clause-losses c =
    rw (c.one_more.ensures, c.one_more-2.ensures, c.one_more-3.ensures, c.one_more-4.ensures, c.one_more-5.ensures)
    (rw (c.divided-availability.ensures.0, c.divided-operational.ensures.0, c.divided-rate.ensures.0, c.divided-quality.ensures.0, c.divided-oee.ensures.0)
    (rw (c.divided-availability.ensures.1, c.divided-operational.ensures.1, c.divided-rate.ensures.1, c.divided-quality.ensures.1, c.divided-oee.ensures.1)
    (rw (five-missing c.args.q) refl)))

pub returns-clause-adds_up : goal.returns-clause-adds_up
returns-clause-adds_up c = rw (returns-clause-losses c) (adds_up c.args.q c.requires)
