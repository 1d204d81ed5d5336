-- Where a text of the form HOST:PORT leads. No standard says how it is parted; it is this project's: at its last colon, where it
-- isn't a whole socket address, with an IPv6 address in brackets.
use Rattle.std.specs.Prelude.{◌≡◌, ℕ, ◌⊎◌, List}
use Rattle.std.specs.Str.Parse.{IsNumeral, digits_value, without_leading_plus}
use Rattle.std.specs.Str.Pattern.{RFindsChar, SplitsAroundMatch}
use Rattle.std.specs.Net.Grammar.{IsIpText, IsSocketText}
use Rattle.std.specs.Net.ToAddrs.{IsHostAndPort}
use Rattle.std.specs.declared.net.ip_addr.IpAddr.{IpAddr}
use Rattle.std.specs.declared.net.socket_addr.SocketAddr.{SocketAddr}
use Rattle.service_edges.specs.declared.target.Target.{Target}
use Rattle.service_edges.specs.declared.target.Target.TheVariants.{Address, Name}

-- a port of a host is at the address that the host spells, or else at whatever has its name
abbrev pub IsAt : List ℕ → ℕ → Target → Type 0
IsAt host port (Address a) = IsHostAndPort host port a
IsAt host port (Name name its) = (name.now ≡ host) × (its ≡ port) × ((a : IpAddr) → IsIpText host a → ⊥)

-- a text leads to the port whose numeral stands after its last colon, at the host before it
pub record LeadsBy (text : List ℕ) (target : Target) : Type 0 where
  pub host : List ℕ
  pub numeral : List ℕ
  pub parted : SplitsAroundMatch (RFindsChar 58) text host numeral
  pub numbered : IsNumeral 10 (without_leading_plus numeral)
  pub port : ℕ
  pub counted : digits_value 10 (without_leading_plus numeral) ≡ port
  pub at : IsAt host port target

-- a text leads to the address that it spells, or as its parts say; only where it spells none to a name
abbrev pub Leads : List ℕ → Target → Type 0
Leads text (Address a) = IsSocketText text a ⊎ LeadsBy text (Address a)
Leads text (Name name port) = ((a : SocketAddr) → IsSocketText text a → ⊥) × LeadsBy text (Name name port)
