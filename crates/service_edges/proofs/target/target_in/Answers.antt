use Rattle.std.proofs.Common.{rules}
use Rattle.service_edges.proofs.target.target_in.Goals as goal

-- the parts are those of the text
pub returns-in-Ok : goal.returns-in-Ok
returns-in-Ok c = record {
  host = c.in_ok-host.host.now;
  numeral = c.in_ok-host.port.now;
  parted = search rules;
  numbered = search rules;
  port = c.in-Ok.port;
  counted = search rules;
  at = c.target_at.ensures;
}
