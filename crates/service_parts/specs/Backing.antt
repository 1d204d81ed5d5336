-- Times in milliseconds, and how long is waited before something is tried again. No standard says it; it is this project's.
use Rattle.std.specs.Prelude.{ℕ, ◌+◌, ◌-◌, ◌*◌, ◌^◌, min, max}

-- so long after a moment; the last moment that there is stays
abbrev pub after : ℕ → ℕ → ℕ
after at wait = min (at + wait) (2 ^ 64 - 1)

-- the wait after one of this length: it doubles, from the least to the most
abbrev pub longer : (wait least most : ℕ) → ℕ
longer wait least most = min (max (min (wait * 2) (2 ^ 64 - 1)) least) (max most least)
