use Rattle.std.proofs.Common.{◌+◌, ◌-◌, ◌/◌, arith}
use Rattle.std.specs.declared.cmp.Ordering.TheVariants.{Less, Equal, Greater}
use Rattle.adr_value.specs.Payload.{name_of}
use Rattle.adr_group.proofs.Halves.{compared, none_after, none_before, found_here, none_left}
use Rattle.adr_group.proofs.type_name.place_of.Goals as goal

pub halves-preserved-in-Less : goal.halves-preserved-in-Less
halves-preserved-in-Less g c =
    let middle = c.halves.low + (c.halves.high - c.halves.low) / 2 in
    record {
      order = omega arith;
      within = omega (arith, c.halves.invariant.within, c.halves-test.true);
      before = c.halves.invariant.before;
      after = none_after {V = g.row.V.Denot} (name_of c.args.payload_type.now) c.args.map.now middle (name_of c.in-Some.key.now.payload_type) c.map_laws.ensures c.in-Some.ensures
          (compared c.name.result.now c.name-in-halves.result.now (name_of c.args.payload_type.now) (name_of c.in-Some.key.now.payload_type) c.cmp.result Less c.name.ensures c.name-in-halves.ensures c.cmp.ensures c.in-Less.is);
    }

pub returns-in-Equal : goal.returns-in-Equal
returns-in-Equal g c =
    let middle = c.halves.low + (c.halves.high - c.halves.low) / 2 in
    found_here {V = g.row.V.Denot} (name_of c.args.payload_type.now) c.args.map.now middle (name_of c.in-Some.key.now.payload_type) c.map_laws.ensures c.in-Some.ensures
    (compared c.name.result.now c.name-in-halves.result.now (name_of c.args.payload_type.now) (name_of c.in-Some.key.now.payload_type) c.cmp.result Equal c.name.ensures c.name-in-halves.ensures c.cmp.ensures c.in-Equal.is)

pub halves-preserved : goal.halves-preserved
halves-preserved g c =
    let middle = c.halves.low + (c.halves.high - c.halves.low) / 2 in
    record {
      order = omega (arith, c.halves-test.true);
      within = c.halves.invariant.within;
      before = none_before {V = g.row.V.Denot} (name_of c.args.payload_type.now) c.args.map.now middle (name_of c.in-Some.key.now.payload_type) c.map_laws.ensures c.in-Some.ensures
          (compared c.name.result.now c.name-in-halves.result.now (name_of c.args.payload_type.now) (name_of c.in-Some.key.now.payload_type) c.cmp.result Greater c.name.ensures c.name-in-halves.ensures c.cmp.ensures c.in-Greater.is);
      after = c.halves.invariant.after;
    }

pub returns : goal.returns
returns g c = none_left {V = g.row.V.Denot} (name_of c.args.payload_type.now) c.args.map.now c.halves.low c.halves.high c.halves.invariant.order c.halves-test.false c.halves.invariant.before c.halves.invariant.after
