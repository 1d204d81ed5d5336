-- Which clients may write: those at the addresses that the words of `--write-from` name, or at one that begins as they say. No
-- standard says it; it is this project's. That networks are told by an address and a number of bits is CIDR (RFC 4632, 3.1;
-- RFC 4291, 2.3).
use Rattle.std.specs.Prelude.{◌≡◌, ℕ, ◌-◌, ◌/◌, ◌^◌, ◌<◌, ◌≤◌, ◌==◌, ◌⊎◌, Bool, IsTrue, IsFalse, List, [], ◌∷◌, length, ⊤}
use Rattle.std.specs.Borrow.{Bor}
use Rattle.std.specs.List.{Contains, position_or_len, before_first, after_first}
use Rattle.std.specs.Net.Addr.{MatchIp, IsCanonicalOf, IsV4And, ipv4_bits, ipv4_octets, ipv6_bits}
use Rattle.std.specs.Net.Grammar.{IsIpText}
use Rattle.std.specs.Str.Parse.{IsNumeral, digits_value, without_leading_plus}
use Rattle.std.specs.declared.net.ip_addr.IpAddr.{IpAddr}
use Rattle.std.specs.declared.net.ip_addr.IpAddr.TheVariants.{V4, V6}
use Rattle.service_texts.specs.declared.writers.Writer.{Writer}
use Rattle.service_texts.specs.declared.writers.Writer.TheVariants.{At, Within}

-- an address counts as this one: an IPv4 address inside an IPv6 one as that IPv4 address, and any other as itself
abbrev pub CountsAs : IpAddr → IpAddr → Type 0
CountsAs address counted = MatchIp address (λ _. counted ≡ address) (λ six. IsCanonicalOf six counted)

-- a word names an address: it spells one that counts as it
abbrev pub NamesAddress : List ℕ → IpAddr → Type 0
NamesAddress word address = (spelled : IpAddr) × IsIpText word spelled × CountsAs spelled address

-- an address has so many bits
abbrev pub HasBits : IpAddr → ℕ → Type 0
HasBits (V4 four) bits = bits ≤ 32
HasBits (V6 six) bits = bits ≤ 128

-- two words name a network: the one an address of it, and the other how many of its first bits all its addresses have
pub record NamesNetwork (network_word bits_word : List ℕ) (network : IpAddr) (bits : ℕ) : Type 0 where
  pub spelled : IsIpText network_word network
  pub numeral : IsNumeral 10 (without_leading_plus bits_word)
  pub counted : digits_value 10 (without_leading_plus bits_word) ≡ bits
  pub fits : HasBits network bits

-- two words name no network: the one spells no address, or the other is no number of 8 bits, or the address hasn't so many bits
abbrev pub IsNoNetwork : List ℕ → List ℕ → Type 0
IsNoNetwork network_word bits_word =
    ((a : IpAddr) → IsIpText network_word a → ⊥)
    ⊎ (IsNumeral 10 (without_leading_plus bits_word) × (digits_value 10 (without_leading_plus bits_word) < 2 ^ 8) → ⊥)
    ⊎ ((a : IpAddr) × IsIpText network_word a × (HasBits a (digits_value 10 (without_leading_plus bits_word)) → ⊥))

abbrev pub is_slash : ℕ → Bool
is_slash b = b == 47

abbrev pub HasSlash : List ℕ → Type 0
HasSlash word = position_or_len is_slash word < length word

-- a word without a slash names an address, one with a slash a network
abbrev pub Names : List ℕ → Writer → Type 0
Names word (At address) = (HasSlash word → ⊥) × NamesAddress word address
Names word (Within network bits) = HasSlash word
    × NamesNetwork (before_first is_slash word) (after_first is_slash word) network bits

-- a word names none
abbrev pub NamesNone : List ℕ → Type 0
NamesNone word = ((HasSlash word → ⊥) × ((a : IpAddr) → IsIpText word a → ⊥))
    ⊎ (HasSlash word × IsNoNetwork (before_first is_slash word) (after_first is_slash word))

-- what a word without a slash names, and what the two do that stand on both sides of one
abbrev pub IsAt : List ℕ → Writer → Type 0
IsAt word (At address) = NamesAddress word address
IsAt word (Within network bits) = ⊥

abbrev pub IsWithin : List ℕ → List ℕ → Writer → Type 0
IsWithin network_word bits_word (At address) = ⊥
IsWithin network_word bits_word (Within network bits) = NamesNetwork network_word bits_word network bits

-- the words name just these, in order
abbrev pub AreNamed : List (Bor (List ℕ)) → List Writer → Type 0
AreNamed [] [] = ⊤
AreNamed [] (writer ∷ writers) = ⊥
AreNamed (word ∷ words) [] = ⊥
AreNamed (word ∷ words) (writer ∷ writers) = Names word.now writer × AreNamed words writers

-- 127.0.0.1
abbrev pub IsThisMachine : Writer → Type 0
IsThisMachine (At address) = IsV4And address (λ four. ipv4_octets four ≡ 127 ∷ 0 ∷ 0 ∷ 1 ∷ [])
IsThisMachine (Within network bits) = ⊥

-- those that may write: those that the words name, or this machine alone where there are no words
abbrev pub AreWriters : List (Bor (List ℕ)) → List Writer → Type 0
AreWriters [] [] = ⊥
AreWriters [] (writer ∷ []) = IsThisMachine writer
AreWriters [] (writer ∷ other ∷ writers) = ⊥
AreWriters (word ∷ words) writers = AreNamed (word ∷ words) writers

-- one of the words names none
abbrev pub HasNoAddress : List (Bor (List ℕ)) → Type 0
HasNoAddress words = (word : Bor (List ℕ)) × Contains words word × NamesNone word.now

-- an address has so many of the first bits of a network's; one of another family has none
abbrev pub LiesWithin : IpAddr → ℕ → IpAddr → Type 0
LiesWithin (V4 network) bits (V4 four) = ipv4_bits network / 2 ^ (32 - bits) ≡ ipv4_bits four / 2 ^ (32 - bits)
LiesWithin (V4 network) bits (V6 six) = ⊥
LiesWithin (V6 network) bits (V4 four) = ⊥
LiesWithin (V6 network) bits (V6 six) = ipv6_bits network / 2 ^ (128 - bits) ≡ ipv6_bits six / 2 ^ (128 - bits)

-- clients at this address are among those that may write by this
abbrev pub Admits : Writer → IpAddr → Type 0
Admits (At known) address = known ≡ address
Admits (Within network bits) address = LiesWithin network bits address

-- by one of these
abbrev pub SomeAdmits : List Writer → IpAddr → Type 0
SomeAdmits [] address = ⊥
SomeAdmits (writer ∷ writers) address = Admits writer address ⊎ SomeAdmits writers address

-- who has this right to write: whoever's address counts as one that some of these admit, and no other
pub record MayWrite (writers : List Writer) (address : IpAddr) (right : Bool) : Type 0 where
  pub counted : IpAddr
  pub counts : CountsAs address counted
  pub member : IsTrue right → SomeAdmits writers counted
  pub other : IsFalse right → SomeAdmits writers counted → ⊥
