-- What the answer of `getent ahosts` says: the first address is the best one (getent(1); its order is that of RFC 6724). An
-- address that holds on one link alone has the link's number after a percent sign (RFC 4007, 11).
use Rattle.std.specs.Prelude.{◌≡◌, ℕ, ◌+◌, ◌==◌, ◌⊎◌, Bool, List, [], ◌∷◌, take, cond, Option, Some, None}
use Rattle.std.specs.List.{before_first, after_first}
use Rattle.std.specs.Str.Parse.{IsNumeral, digits_value, without_leading_plus}
use Rattle.std.specs.Net.Grammar.{IsIpv6Text}
use Rattle.std.specs.Net.Socket.{v6_ip, v6_port, v6_scope_id}
use Rattle.std.specs.Net.ToAddrs.{IsHostAndPort}
use Rattle.std.specs.declared.net.socket_addr.SocketAddr.{SocketAddr}
use Rattle.std.specs.declared.net.socket_addr.SocketAddr.TheVariants.{V4, V6}

-- at which place the first blank stands, counted from this number on
abbrev pub word_end_from : ℕ → List ℕ → Option ℕ
word_end_from number [] = None
word_end_from number (byte ∷ bytes) = cond (byte == 32) (Some number) (word_end_from (number + 1) bytes)

-- a word spells the address, which has the port
abbrev pub SpellsPlain : List ℕ → ℕ → SocketAddr → Type 0
SpellsPlain word port a = IsHostAndPort word port a

-- two words spell an address of version 6 and the number of its link
abbrev pub SpellsScoped : List ℕ → List ℕ → ℕ → SocketAddr → Type 0
SpellsScoped ip scope port (V4 four) = ⊥
SpellsScoped ip scope port (V6 six) = IsIpv6Text ip (v6_ip six) × (v6_port six ≡ port)
    × IsNumeral 10 (without_leading_plus scope) × (digits_value 10 (without_leading_plus scope) ≡ v6_scope_id six)

abbrev pub is_percent : ℕ → Bool
is_percent byte = byte == 37

abbrev pub Spells : List ℕ → ℕ → SocketAddr → Type 0
Spells word port a = SpellsPlain word port a ⊎ SpellsScoped (before_first is_percent word) (after_first is_percent word) port a

-- what stands before the first blank spells the address
pub record Answers (answer : List ℕ) (port : ℕ) (address : SocketAddr) : Type 0 where
  pub end : ℕ
  pub ends : word_end_from 0 answer ≡ Some end
  pub spelled : Spells (take end answer) port address
