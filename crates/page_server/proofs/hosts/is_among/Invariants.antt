use Rattle.std.proofs.Common.{drop, map, string_bytes}
use Rattle.page_server.specs.Hosts.{IsAmong}
use Rattle.page_server.proofs.hosts.is_among.Given as goal

-- it is one of all where it is one of what remains
abbrev pub invariant-loop-known : goal.invariant-loop-known
invariant-loop-known l = IsAmong l.name (map string_bytes (drop l.known-index l.names)) → IsAmong l.name (map string_bytes l.names)
