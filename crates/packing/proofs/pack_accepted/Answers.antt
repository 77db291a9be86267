-- `packing::pack_accepted` meets its contract: what each pass asks an accepted log gives, and the three leave the packed log's records. Assumes nothing.
use mathlib.Core.Path.{refl, ◌∙◌}
use native.Mathlib.Omega.{arith}
use Rattle.packing.proofs.Finishing.{there, states_rise, standards_still_rise, header_fits, size_packed, within_packed, length_laid, front_packed}
use Rattle.packing.proofs.pack_accepted.Goals as goal

pub close_states-standards-requires-clause-there : goal.close_states-standards-requires-clause-there
close_states-standards-requires-clause-there c = there c.args.buf.now c.args.h c.requires.own c.requires.accepted c.args.buf.now refl _ (omega arith)

pub close_states-standards-requires-clause-rises : goal.close_states-standards-requires-clause-rises
close_states-standards-requires-clause-rises c = states_rise c.args.buf.now c.args.h c.requires.own c.requires.accepted

pub close_standards-units-requires-clause-there : goal.close_standards-units-requires-clause-there
close_standards-units-requires-clause-there c = there c.args.buf.now c.args.h c.requires.own c.requires.accepted c.close_states-standards.new.buf c.close_states-standards.ensures.size _ (omega arith)

pub close_standards-units-requires-clause-rises : goal.close_standards-units-requires-clause-rises
close_standards-units-requires-clause-rises c = standards_still_rise c.args.buf.now c.args.h c.requires.own c.requires.accepted c.close_states-standards.ensures

pub close_units-end-requires-clause-there : goal.close_units-end-requires-clause-there
close_units-end-requires-clause-there c = there c.args.buf.now c.args.h c.requires.own c.requires.accepted c.close_standards-units.new.buf (c.close_standards-units.ensures.size ∙ c.close_states-standards.ensures.size) _ (omega arith)

pub lay_header-requires-clause-fits : goal.lay_header-requires-clause-fits
lay_header-requires-clause-fits c = header_fits c.args.buf.now c.args.h c.requires.own c.requires.accepted c.close_states-standards.ensures c.close_standards-units.ensures

pub lay_header-requires-clause-room : goal.lay_header-requires-clause-room
lay_header-requires-clause-room c = omega (arith, c.close_units-end.ensures.size, c.close_standards-units.ensures.size, c.close_states-standards.ensures.size, (there c.args.buf.now c.args.h c.requires.own c.requires.accepted c.args.buf.now refl 10 (omega arith)).0)

pub clear_from-requires : goal.clear_from-requires
clear_from-requires c = omega (arith, within_packed c.args.buf.now c.args.h c.requires.own c.requires.accepted c.close_states-standards.ensures c.close_standards-units.ensures c.close_units-end.ensures, length_laid c.args.buf.now c.args.h c.requires.own c.requires.accepted c.close_states-standards.ensures c.close_standards-units.ensures c.close_units-end.ensures c.lay_header.ensures.put, c.close_units-end.ensures.size, c.close_standards-units.ensures.size, c.close_states-standards.ensures.size)

pub returns-clause-size : goal.returns-clause-size
returns-clause-size c = size_packed c.args.buf.now c.args.h c.requires.own c.requires.accepted c.close_states-standards.ensures c.close_standards-units.ensures c.close_units-end.ensures

pub returns-clause-bytes : goal.returns-clause-bytes
returns-clause-bytes c =
    let front = front_packed c.args.buf.now c.args.h c.requires.own c.requires.accepted c.close_states-standards.ensures c.close_standards-units.ensures c.close_units-end.ensures c.lay_header.ensures.put in
    let long = length_laid c.args.buf.now c.args.h c.requires.own c.requires.accepted c.close_states-standards.ensures c.close_standards-units.ensures c.close_units-end.ensures c.lay_header.ensures.put in
    let size = size_packed c.args.buf.now c.args.h c.requires.own c.requires.accepted c.close_states-standards.ensures c.close_standards-units.ensures c.close_units-end.ensures in
    c.clear_from.ensures ∙ rw (front, long, size)
