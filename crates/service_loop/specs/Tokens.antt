-- Whose socket a token is for. No standard says it; it is this project's.
use Rattle.std.specs.Prelude.{ℕ, zero, suc, ◌-◌, ◌^◌, nat_le, nat_lt, if◌then◌else◌}
use Rattle.service_loop.specs.declared.tokens.Owner.{Owner}
use Rattle.service_loop.specs.declared.tokens.Owner.TheVariants.{Door, Link, Client, PageDoor, Page}

-- the first one is the door's, then come those of so many links, then those of the clients
abbrev pub line_owner : ℕ → ℕ → Owner
line_owner links zero = Door
line_owner links (suc n) = if nat_lt n links then Link n else Client (n - links)

-- the first one is the door's for those who look, then come theirs
abbrev pub page_owner : ℕ → Owner
page_owner zero = PageDoor
page_owner (suc n) = Page n

-- those who look have the upper half
abbrev pub owner_of : ℕ → ℕ → Owner
owner_of links token = if nat_le (2 ^ 63) token then page_owner (token - 2 ^ 63) else line_owner links token
