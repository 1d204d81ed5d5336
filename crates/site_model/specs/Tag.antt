-- Tags: the numbers that a tag may have, and the points that it may write.
-- SunSpec Device Information Model Specification, points and scale factors.
use Rattle.std.specs.Prelude.{ℤ, Bool, true, false, not, ◌||◌, Option, Some, None}
use Rattle.site_model.specs.declared.access.Access.{Access}
use Rattle.site_model.specs.declared.access.Access.TheVariants as access

-- the default, or the least number where there is none
abbrev pub start_of : ℤ → Option ℤ → ℤ
start_of low None = low
start_of low (Some n) = n

-- its point is written: by the gateway, or by clients
abbrev pub is_written : Access → Bool
is_written access.Output = true
is_written access.Setting = true
is_written other = false

-- a point that is written is one that can be (RW)
abbrev pub may_write : Access → Bool → Bool
may_write a writable = writable || not (is_written a)
