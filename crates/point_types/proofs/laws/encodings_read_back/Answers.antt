use Rattle.point_types.proofs.RoundTrips.{at_most_one_encoding, round_trip}
use Rattle.point_types.proofs.laws.encodings_read_back.Goals as goal

pub returns-clause-at_most : goal.returns-clause-at_most
returns-clause-at_most c = at_most_one_encoding

pub returns-clause-round_trip : goal.returns-clause-round_trip
returns-clause-round_trip c = round_trip
