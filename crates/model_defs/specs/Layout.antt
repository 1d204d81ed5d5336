-- How the points of a model lie in its registers.
-- SunSpec Device Information Model Specification, models and points: a model is its ID, its length L and L registers more.
use Rattle.std.specs.Prelude.{◌≡◌, ℕ, ◌≤◌, List, length, take, sum_by, slice_get, Some, option_map, codes}
use Rattle.point_types.specs.declared.kind.Kind.TheVariants as kinds
use Rattle.model_defs.specs.declared.point.Point.{Point}
use Rattle.model_defs.specs.declared.point.Sf.TheVariants as factors

-- the registers of points side by side
abbrev pub registers_of : List Point → ℕ
registers_of points = sum_by (λ p. p.size) points

-- each point begins where those before it end, the first one at the model's ID
abbrev pub IsInOrder : List Point → Type 0
IsInOrder points = (i : ℕ) (p : Point) → slice_get points i ≡ Some p → p.offset ≡ registers_of (take i points)

-- each factor by number is a point of kind sunssf
abbrev pub HasItsFactors : List Point → Type 0
HasItsFactors points = (i j : ℕ) (p : Point) → slice_get points i ≡ Some p → p.sf ≡ factors.At j → option_map (λ q. q.kind) (slice_get points j) ≡ Some kinds.Sunssf

-- no two points have one name
abbrev pub HasDistinctNames : List Point → Type 0
HasDistinctNames points = (i j : ℕ) (p q : Point) → slice_get points i ≡ Some p → slice_get points j ≡ Some q → p.name ≡ q.name → i ≡ j

-- the first two points are the model's ID and its length
abbrev pub HasHeader : List Point → Type 0
HasHeader points = (2 ≤ length points)
    × ((p : Point) → slice_get points 0 ≡ Some p → (p.name ≡ codes "ID") × (p.kind ≡ kinds.Uint16))
    × ((p : Point) → slice_get points 1 ≡ Some p → (p.name ≡ codes "L") × (p.kind ≡ kinds.Uint16))
