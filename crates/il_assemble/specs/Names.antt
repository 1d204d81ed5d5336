-- What the names of a program stand for, which externals it loads and which it stores, and the tags of its image.
-- IEC 61131-3 (edition 2), 2.4.1 representation of variables, 2.4.3 declaration.
use Rattle.std.specs.Prelude.{ℕ, zero, suc, Bool, true, false, ◌&&◌, List, [], ◌∷◌, map, length, take, drop, codes, position, Option, Some, None, option_map, option_and_then, slice_get, slice_set}
use Rattle.std.specs.Str.{bytes_eq}
use Rattle.point_types.specs.declared.il_type.IlType.{IlType}
use Rattle.point_types.specs.declared.il_type.IlType.TheVariants as il
use Rattle.scan_code.specs.declared.image.Tag.{Tag}
use Rattle.il_reader.specs.declared.tree.Variable.{Variable}
use Rattle.il_reader.specs.declared.tree.External.{External}
use Rattle.il_reader.specs.declared.tree.Statement.{Statement}
use Rattle.il_reader.specs.declared.tree.Action.{Action}
use Rattle.il_reader.specs.declared.tree.Action.TheVariants as action
use Rattle.il_reader.specs.declared.tree.Operand.{Operand}
use Rattle.il_reader.specs.declared.tree.Operand.TheVariants.{Named, Truth, Number, Typed}
use Rattle.il_assemble.specs.declared.names.Known.{Known}
use Rattle.il_assemble.specs.declared.names.Known.TheVariants as known
use Rattle.il_assemble.specs.Written.{Written, Load, Apply, Defer, Limit, Select, Invert, Absolute, Convert, Inner, Close, Then}

-- what the lines of a program see: its tables, whether each external is stored (else it is loaded; none where it isn't used), and all lines, for their labels
pub record Scope : Type 0 where
  pub variables : List Variable
  pub externals : List External
  pub uses : List (Option Bool)
  pub statements : List Statement

-- Names.

abbrev pub is_called : List ℕ → Variable → Bool
is_called name v = bytes_eq v.var.name name

abbrev pub is_external : List ℕ → External → Bool
is_external name e = bytes_eq e.name name

-- the external's name, and _OK after it
abbrev pub is_presence_of : List ℕ → External → Bool
is_presence_of name e = bytes_eq (take (length e.name) name) e.name && bytes_eq (drop (length e.name) name) (codes "_ok")

abbrev pub known_presence : Option ℕ → Option Known
known_presence = option_map known.Presence

abbrev pub known_external : Option ℕ → Option ℕ → Option Known
known_external (Some i) p = Some (known.External i)
known_external None p = known_presence p

abbrev pub known_first : Option ℕ → Option ℕ → Option ℕ → Option Known
known_first (Some i) e p = Some (known.Variable i)
known_first None e p = known_external e p

-- a variable, an external, or the presence of an external, in this order
abbrev pub known_as : Scope → List ℕ → Option Known
known_as g name = known_first (position (is_called name) g.variables) (position (is_external name) g.externals) (position (is_presence_of name) g.externals)

abbrev pub declared_type : Variable → IlType
declared_type v = v.var.kind

abbrev pub external_type : External → IlType
external_type e = e.kind

abbrev pub known_type : Scope → Known → Option IlType
known_type g (known.Variable i) = option_map declared_type (slice_get g.variables i)
known_type g (known.External i) = option_map external_type (slice_get g.externals i)
known_type g (known.Presence i) = Some il.Bool

-- the type of a known name
abbrev pub named_type : Scope → List ℕ → Option IlType
named_type g name = option_and_then (known_type g) (known_as g name)

-- Uses of externals.

abbrev pub first_use : List (Option Bool) → ℕ → Bool → Option (Option Bool) → List (Option Bool)
first_use uses i stored None = uses
first_use uses i stored (Some (Some earlier)) = uses
first_use uses i stored (Some None) = slice_set uses i (Some stored)

-- the first use of an external counts
abbrev pub noted : List (Option Bool) → ℕ → Bool → List (Option Bool)
noted uses i stored = first_use uses i stored (slice_get uses i)

-- an external is loaded where its presence is, too
abbrev pub noted_load : List (Option Bool) → Option Known → List (Option Bool)
noted_load uses None = uses
noted_load uses (Some (known.Variable i)) = uses
noted_load uses (Some (known.External i)) = noted uses i false
noted_load uses (Some (known.Presence i)) = noted uses i false

abbrev pub noted_store : List (Option Bool) → Option Known → List (Option Bool)
noted_store uses None = uses
noted_store uses (Some (known.Variable i)) = uses
noted_store uses (Some (known.External i)) = noted uses i true
noted_store uses (Some (known.Presence i)) = uses

abbrev pub uses_of_operand : Scope → List (Option Bool) → Operand → List (Option Bool)
uses_of_operand g uses (Named name) = noted_load uses (known_as g name)
uses_of_operand g uses (Truth b) = uses
uses_of_operand g uses (Number n) = uses
uses_of_operand g uses (Typed kind n) = uses

abbrev pub uses_of_first : Scope → List (Option Bool) → Option Operand → List (Option Bool)
uses_of_first g uses None = uses
uses_of_first g uses (Some operand) = uses_of_operand g uses operand

abbrev mutual
  pub uses_of_simple : Scope → List (Option Bool) → Written → List (Option Bool)
  uses_of_simple g uses (Load negated operand) = uses_of_operand g uses operand
  uses_of_simple g uses (Apply o negated operand) = uses_of_operand g uses operand
  uses_of_simple g uses (Defer o negated first inner) = uses_of_inner g (uses_of_first g uses first) inner
  uses_of_simple g uses (Limit input most) = uses_of_operand g (uses_of_operand g uses input) most
  uses_of_simple g uses (Select if_false if_true) = uses_of_operand g (uses_of_operand g uses if_false) if_true
  uses_of_simple g uses Invert = uses
  uses_of_simple g uses Absolute = uses
  uses_of_simple g uses (Convert from to) = uses

  pub uses_of_inner : Scope → List (Option Bool) → Inner → List (Option Bool)
  uses_of_inner g uses Close = uses
  uses_of_inner g uses (Then line head tail) = uses_of_inner g (uses_of_simple g uses head) tail

abbrev pub uses_of_action : Scope → List (Option Bool) → Option Action → List (Option Bool)
uses_of_action g uses None = uses
uses_of_action g uses (Some (action.Compute simple)) = uses_of_simple g uses simple
uses_of_action g uses (Some (action.Store negated name)) = noted_store uses (known_as g name)
uses_of_action g uses (Some (action.Set value name)) = noted_store uses (known_as g name)
uses_of_action g uses (Some (action.Jump condition label turns)) = uses
uses_of_action g uses (Some (action.Return condition)) = uses

abbrev pub uses_after : Scope → List (Option Bool) → List Statement → List (Option Bool)
uses_after g uses [] = uses
uses_after g uses (s ∷ ss) = uses_after g (uses_of_action g uses s.action) ss

abbrev pub unused : External → Option Bool
unused e = None

-- the uses of a program's externals
abbrev pub uses_of : List Variable → List External → List Statement → List (Option Bool)
uses_of variables externals statements = uses_after (record { variables = variables; externals = externals; uses = []; statements = [] }) (map unused externals) statements

-- Tags.

-- the tags of the used externals, in the order of their declarations
abbrev pub tags_of : List External → List (Option Bool) → List Tag
tags_of [] uses = []
tags_of (e ∷ es) [] = []
tags_of (e ∷ es) (None ∷ uses) = tags_of es uses
tags_of (e ∷ es) (Some stored ∷ uses) = record { name = e.name; output = stored; kind = e.kind } ∷ tags_of es uses

-- how many externals before one are used: its tag's place
abbrev pub tag_place : List (Option Bool) → ℕ → ℕ
tag_place [] i = 0
tag_place (u ∷ us) zero = 0
tag_place (None ∷ us) (suc i) = tag_place us i
tag_place (Some stored ∷ us) (suc i) = suc (tag_place us i)

abbrev pub is_loaded : Option (Option Bool) → Bool
is_loaded (Some (Some false)) = true
is_loaded (Some (Some true)) = false
is_loaded (Some None) = false
is_loaded None = false

abbrev pub is_stored : Option (Option Bool) → Bool
is_stored (Some (Some true)) = true
is_stored (Some (Some false)) = false
is_stored (Some None) = false
is_stored None = false
