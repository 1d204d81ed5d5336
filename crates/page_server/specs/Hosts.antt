-- For whom a request is: its host, with or without a port (RFC 9110, section 7.2; RFC 3986, section 3.2.2).
use Rattle.std.specs.Prelude.{◌≡◌, ◌⊎◌, ℕ, ◌==◌, Bool, List, [], ◌∷◌, map}
use Rattle.std.specs.Char.{to_ascii_lowercase}
use Rattle.std.specs.List.{before_first}
use Rattle.std.specs.Net.Grammar.{IsIpv4Text, IsIpv6Text}
use Rattle.std.specs.declared.net.ipv4_addr.Ipv4Addr.{Ipv4Addr}
use Rattle.std.specs.declared.net.ipv6_addr.Ipv6Addr.{Ipv6Addr}

abbrev pub is_colon : ℕ → Bool
is_colon byte = byte == 0x3a

abbrev pub is_closing : ℕ → Bool
is_closing byte = byte == 0x5d

-- a text that spells an address
abbrev pub IsFour : List ℕ → Type 0
IsFour text = (ip : Ipv4Addr) × IsIpv4Text text ip

abbrev pub IsSix : List ℕ → Type 0
IsSix text = (ip : Ipv6Addr) × IsIpv6Text text ip

-- a name is one of these, whatever the case of its letters
abbrev pub IsAmong : List ℕ → List (List ℕ) → Type 0
IsAmong name [] = ⊥
IsAmong name (known ∷ more) = (map to_ascii_lowercase name ≡ map to_ascii_lowercase known) ⊎ IsAmong name more

-- what stands before the port is an address of version 4, or one of these names
abbrev pub IsPlain : List ℕ → List (List ℕ) → Type 0
IsPlain host names = IsFour (before_first is_colon host) ⊎ IsAmong (before_first is_colon host) names

-- or an address of version 6 stands in brackets
abbrev pub IsBracketed : List ℕ → Type 0
IsBracketed host = (rest : List ℕ) × (host ≡ 0x5b ∷ rest) × IsSix (before_first is_closing rest)

abbrev pub IsKnownHost : List ℕ → List (List ℕ) → Type 0
IsKnownHost host names = IsBracketed host ⊎ IsPlain host names
