-- `joining::put_log` meets its contract: the six parts are put one behind the other. Assumes nothing.
use mathlib.Core.Path.{sym}
use native.Mathlib.Omega.{arith}
use Rattle.filling.proofs.Written.{then, read_as}
use Rattle.joining.proofs.Laid.{size, header-fit, states-fit, units-fit, mergeable, all-parts}
use Rattle.joining.proofs.put_log.Goals as goal

pub lay_header-first_states-requires-clause-fits : goal.lay_header-first_states-requires-clause-fits
lay_header-first_states-requires-clause-fits c = rw (c.requires.own, c.args.a.own, c.args.b.own) (header-fit c.args.a.bytes.now c.args.b.bytes.now c.requires.first c.requires.second c.requires.allowed)

pub lay_header-first_states-requires-clause-room : goal.lay_header-first_states-requires-clause-room
lay_header-first_states-requires-clause-room c = omega (arith, size c.args.a.bytes.now c.args.b.bytes.now, c.requires.room)

pub copy_states-second_states-requires : goal.copy_states-second_states-requires
copy_states-second_states-requires c =
    let all = rw (← c.args.a.own, ← c.args.b.own) at (size c.args.a.bytes.now c.args.b.bytes.now) in
    omega (arith, all, c.requires.room, c.lay_header-first_states.ensures.place)

pub put_states-standards-requires-clause-room : goal.put_states-standards-requires-clause-room
put_states-standards-requires-clause-room c =
    let all = rw (← c.args.a.own, ← c.args.b.own) at (size c.args.a.bytes.now c.args.b.bytes.now) in
    rw c.states.ensures.1 (omega (arith, all, c.requires.room, c.lay_header-first_states.ensures.place, c.copy_states-second_states.ensures.place))

pub put_states-standards-requires-clause-fits : goal.put_states-standards-requires-clause-fits
put_states-standards-requires-clause-fits c = rw (c.states.ensures.0, c.states.ensures.1, c.args.a.own, c.args.b.own) (states-fit c.args.a.bytes.now c.args.b.bytes.now c.requires.first c.requires.second c.requires.allowed)

pub put_standards-first_units-requires-clause-room : goal.put_standards-first_units-requires-clause-room
put_standards-first_units-requires-clause-room c =
    let all = rw (← c.args.a.own, ← c.args.b.own) at (size c.args.a.bytes.now c.args.b.bytes.now) in
    let moved = rw c.states.ensures.1 at c.put_states-standards.ensures.place in
    rw (c.standards.ensures.1, c.standards-2.ensures.1) (omega (arith, all, c.requires.room, c.lay_header-first_states.ensures.place, c.copy_states-second_states.ensures.place, moved))

pub put_standards-first_units-requires-clause-mergeable : goal.put_standards-first_units-requires-clause-mergeable
put_standards-first_units-requires-clause-mergeable c =
    rw (c.standards.ensures.0, c.standards.ensures.1, c.standards-2.ensures.0, c.standards-2.ensures.1, c.args.a.own, c.args.b.own) (mergeable c.args.a.bytes.now c.args.b.bytes.now c.requires.first c.requires.second c.requires.allowed)

pub copy_units-second_units-requires : goal.copy_units-second_units-requires
copy_units-second_units-requires c =
    let all = rw (← c.args.a.own, ← c.args.b.own) at (size c.args.a.bytes.now c.args.b.bytes.now) in
    let moved = rw c.states.ensures.1 at c.put_states-standards.ensures.place in
    let merged = rw (c.standards.ensures.1, c.standards-2.ensures.1) at c.put_standards-first_units.ensures.place in
    omega (arith, all, c.requires.room, c.lay_header-first_states.ensures.place, c.copy_states-second_states.ensures.place, moved, merged)

pub put_units-requires-clause-room : goal.put_units-requires-clause-room
put_units-requires-clause-room c =
    let all = rw (← c.args.a.own, ← c.args.b.own) at (size c.args.a.bytes.now c.args.b.bytes.now) in
    let moved = rw c.states.ensures.1 at c.put_states-standards.ensures.place in
    let merged = rw (c.standards.ensures.1, c.standards-2.ensures.1) at c.put_standards-first_units.ensures.place in
    rw c.units.ensures.1
    (omega (arith, all, c.requires.room, c.lay_header-first_states.ensures.place, c.copy_states-second_states.ensures.place, moved, merged, c.copy_units-second_units.ensures.place))

pub put_units-requires-clause-fits : goal.put_units-requires-clause-fits
put_units-requires-clause-fits c = rw (c.units.ensures.0, c.units.ensures.1, c.args.a.own, c.args.b.own) (units-fit c.args.a.bytes.now c.args.b.bytes.now c.requires.first c.requires.second c.requires.allowed)

pub returns : goal.returns
returns c =
    let head = rw (c.requires.own, c.args.a.own, c.args.b.own) at c.lay_header-first_states.ensures.put in
    let states = rw c.args.a.own at c.copy_states-second_states.ensures.put in
    let moved = rw (c.states.ensures.0, c.states.ensures.1, c.args.a.own, c.args.b.own) at c.put_states-standards.ensures.put in
    let standards = rw (c.standards.ensures.0, c.standards.ensures.1, c.standards-2.ensures.0, c.standards-2.ensures.1, c.args.a.own, c.args.b.own) at c.put_standards-first_units.ensures.put in
    let units = rw c.args.a.own at c.copy_units-second_units.ensures.put in
    let last = rw (c.units.ensures.0, c.units.ensures.1, c.args.a.own, c.args.b.own) at c.put_units.ensures in
    read_as (sym (all-parts c.args.a.bytes.now c.args.b.bytes.now c.requires.first c.requires.second c.requires.allowed c.requires.small)) ((then) head ((then) states ((then) moved ((then) standards ((then) units last)))))
