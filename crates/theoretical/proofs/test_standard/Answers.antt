-- `test_standard` meets its contract: its tests are the grounds, by the standard's number. Assumes nothing.
use Rattle.std.proofs.Common.{arith}
use Rattle.std.proofs.lemmas.Grind.{common_steps}
use Rattle.theoretical.proofs.Testing.{tested_by_number}
use Rattle.theoretical.proofs.test_standard.Goals as goal

pub returns-in_err-refuses : goal.returns-in_err-refuses
returns-in_err-refuses c = rw (tested_by_number c.args.h.period c.args.h.modules c.args.standards.now c.args.i c.args.before c.args.s c.requires.fits c.requires.sequenced) (grind (arith, common_steps))

pub returns-in_err-refuses-2 : goal.returns-in_err-refuses-2
returns-in_err-refuses-2 c = rw (tested_by_number c.args.h.period c.args.h.modules c.args.standards.now c.args.i c.args.before c.args.s c.requires.fits c.requires.sequenced) (grind (arith, common_steps))

pub returns-in_err-refuses-3 : goal.returns-in_err-refuses-3
returns-in_err-refuses-3 c = rw (tested_by_number c.args.h.period c.args.h.modules c.args.standards.now c.args.i c.args.before c.args.s c.requires.fits c.requires.sequenced) (grind (arith, common_steps))

pub returns-in_err-refuses-4 : goal.returns-in_err-refuses-4
returns-in_err-refuses-4 c = rw (tested_by_number c.args.h.period c.args.h.modules c.args.standards.now c.args.i c.args.before c.args.s c.requires.fits c.requires.sequenced) (grind (arith, common_steps))

pub returns-in_err-refuses-5 : goal.returns-in_err-refuses-5
returns-in_err-refuses-5 c = rw (tested_by_number c.args.h.period c.args.h.modules c.args.standards.now c.args.i c.args.before c.args.s c.requires.fits c.requires.sequenced) (grind (arith, common_steps))

pub returns : goal.returns
returns c = rw (tested_by_number c.args.h.period c.args.h.modules c.args.standards.now c.args.i c.args.before c.args.s c.requires.fits c.requires.sequenced) (grind (arith, common_steps))
