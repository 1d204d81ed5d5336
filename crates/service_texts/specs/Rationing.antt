-- How often something is told of one address. No standard says it; it is this project's.
use Rattle.std.specs.Prelude.{◌≡◌, ℕ, ◌+◌, ◌-◌, ◌^◌, ◌<◌, ◌==◌, nat_lt, nat_le, min, Bool, true, false, [], ◌∷◌, ◌++◌, length, slice_index_or, slice_set, position, remove, Option, Some, None, if◌then◌else◌}
use Rattle.service_texts.specs.declared.ration.Over.{Over}
use Rattle.service_texts.specs.declared.ration.Ration.{Ration}
use Rattle.service_texts.specs.declared.share.Share.{Share}

-- the share of an address of which nothing was told, from now on
abbrev pub fresh : (key now : ℕ) → Share
fresh key now = record { key = key; since = now; told = 0; more = 0 }

-- the share after one more line, where at most so many are told: it is told, or it is one more that isn't
abbrev pub served : ℕ → Share → Share
served most share = if nat_lt share.told most then record share { told = share.told + 1 } else record share { more = min (share.more + 1) (2 ^ 64 - 1) }

-- so long a span is over
abbrev pub is_over : (span now : ℕ) → Share → Bool
is_over span now share = nat_le span (now - share.since)

-- a share is of this address
abbrev pub is_of : ℕ → Share → Bool
is_of key share = share.key == key

-- the share of all that have none of their own
abbrev pub others_from : ℕ → Option Share → Share
others_from now None = fresh 0 now
others_from now (Some share) = share

-- One more line of an address is to be told, where this is the place of its share: at most so many are told in a span. An
-- address that has no share gets one where there is room, and else has that of all others.
abbrev pub AsksAt : Option ℕ → (key now : ℕ) → Ration → Bool → Ration → Type 0
AsksAt (Some place) key now old told new =
    let share = slice_index_or old.shares.items place (fresh key now) in
    (told ≡ nat_lt share.told old.most) × (new ≡ record old { shares = record { items = slice_set old.shares.items place (served old.most share) } })
AsksAt None key now old told new =
    (length old.shares.items < 64 → (told ≡ nat_lt 0 old.most) × (new ≡ record old { shares = record { items = old.shares.items ++ served old.most (fresh key now) ∷ [] } }))
    × (length old.shares.items ≡ 64 → (told ≡ nat_lt (others_from now old.others).told old.most) × (new ≡ record old { others = Some (served old.most (others_from now old.others)) }))

abbrev pub Asks : (key now : ℕ) → Ration → Bool → Ration → Type 0
Asks key now old told new = AsksAt (position (is_of key) old.shares.items) key now old told new

-- What came of a span that is over: its share is gone, an address's before that of the others.
abbrev pub ForgetsOthers : Option Share → (now : ℕ) → Ration → Option Over → Ration → Type 0
ForgetsOthers None now old over new = (over ≡ None) × (new ≡ old)
ForgetsOthers (Some share) now old over new =
    (is_over old.span now share ≡ true → (over ≡ Some (record { key = None; more = share.more })) × (new ≡ record old { others = None }))
    × (is_over old.span now share ≡ false → (over ≡ None) × (new ≡ old))

abbrev pub ForgetsAt : Option ℕ → (now : ℕ) → Ration → Option Over → Ration → Type 0
ForgetsAt (Some place) now old over new =
    let share = slice_index_or old.shares.items place (fresh 0 now) in
    (over ≡ Some (record { key = Some share.key; more = share.more })) × (new ≡ record old { shares = record { items = remove old.shares.items place } })
ForgetsAt None now old over new = ForgetsOthers old.others now old over new

abbrev pub Forgets : (now : ℕ) → Ration → Option Over → Ration → Type 0
Forgets now old over new = ForgetsAt (position (is_over old.span now) old.shares.items) now old over new
