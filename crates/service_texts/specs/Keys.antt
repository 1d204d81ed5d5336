-- Addresses as numbers.
use Rattle.std.specs.Prelude.{◌≡◌, ℕ}
use Rattle.std.specs.Net.Addr.{MatchIp, IsCanonicalOf, IsIpv6OfBits, embedded_segments, ipv6_bits, ipv6_segments}
use Rattle.std.specs.declared.net.ip_addr.IpAddr.{IpAddr}
use Rattle.std.specs.declared.net.ipv6_addr.Ipv6Addr.{Ipv6Addr}

-- the number of an address: its bits, where an IPv4 address is one inside an IPv6 one (RFC 4291, 2.5.5.2)
abbrev pub IsKeyOf : IpAddr → ℕ → Type 0
IsKeyOf address key = MatchIp address (λ four. (inside : Ipv6Addr) × (ipv6_segments inside ≡ embedded_segments 65535 four) × (key ≡ ipv6_bits inside)) (λ six. key ≡ ipv6_bits six)

-- an address is the one that a number stands for
abbrev pub StandsFor : ℕ → IpAddr → Type 0
StandsFor key address = (six : Ipv6Addr) × IsIpv6OfBits six key × IsCanonicalOf six address
