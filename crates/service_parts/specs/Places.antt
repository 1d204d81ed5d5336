-- Which place a client gets, and which clients are to be closed, by the time in milliseconds. No standard says it; it is
-- this project's.
use Rattle.std.specs.Prelude.{ℕ, Bool, not, ◌||◌, ◌&&◌, leb, ltb, List, Option, None, Some}
use Rattle.std.specs.List.{position}
use Rattle.service_parts.specs.declared.client_place.ClientPlace.{ClientPlace}
use Rattle.service_parts.specs.Backing.{after}

-- It is to be closed where somebody is there of whom nothing was heard for so long.
abbrev pub closed_if_idle : ℕ → ℕ → ClientPlace → ClientPlace
closed_if_idle now idle c = record c { is_closing = c.is_closing || (c.is_taken && leb (after c.last idle) now) }

-- Nothing was heard of it for over half a minute.
abbrev pub is_silent : ℕ → ClientPlace → Bool
is_silent now c = ltb (after c.last 30000) now

abbrev pub is_free : ClientPlace → Bool
is_free c = not c.is_taken

abbrev pub or_silent : ℕ → List ClientPlace → Option ℕ → Option ℕ
or_silent now places (Some place) = Some place
or_silent now places None = position (is_silent now) places

-- A client that comes gets the first place where nobody is; without one the first one whose client was silent.
abbrev pub given_place : ℕ → List ClientPlace → Option ℕ
given_place now places = or_silent now places (position is_free places)
