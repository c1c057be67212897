use Rattle.std.proofs.Common.{arith, refl, rules}
use Rattle.csv.specs.Records.{fields_of}
use Rattle.vs_reader.specs.Rows.{field_of}
use Rattle.vs_reader.proofs.declaring.RuleLemmas.{most_in-≤, trip_room}
use Rattle.vs_reader.proofs.draft.Draft.add_trip.Goals as goal

pub add_trip-requires-clause-room : goal.add_trip-requires-clause-room
add_trip-requires-clause-room c =
    let room = trip_room c.args.version c.args.self.now.names (fields_of c.args.row.now) c.in_ok-trip.ensures.0 in
    omega (arith, room, most_in-≤ c.args.version)

pub returns : goal.returns
returns c =
    let row = fields_of c.args.row.now in
    let kept = c.in_ok-trip.ensures.0 in (
      kept,
      (
        record {
          name = field_of row 1;
          trip = c.in_ok-trip.trip;
          row_is = c.in_ok-trip.ensures.1;
          new_name = record { name = kept.1.0; new = kept.1.1.0 };
          room = trip_room c.args.version c.args.self.now.names row kept;
          added = search rules;
        },
        record { deadheads = refl; layers = refl; trips = search rules },
      ),
    )
