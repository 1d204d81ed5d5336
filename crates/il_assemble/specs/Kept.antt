-- inner: how the code keeps what the definitions speak of.
-- IEC 61131-3 edition 2, 3.2 instruction list.
use Rattle.std.specs.Prelude.{◌≡◌, ℕ, ◌+◌, List, [], ◌∷◌, length, if◌then◌else◌, Option, None, Result, Ok, Err, nat_le, option_map, slice_get, unwrap_or}
use Rattle.point_types.specs.declared.il_type.IlType.{IlType}
use Rattle.il_reader.specs.declared.tree.Statement.{Statement}
use Rattle.il_assemble.specs.declared.source.Source.{Source}
use Rattle.il_assemble.specs.declared.source.Source.TheVariants as source
use Rattle.il_assemble.specs.declared.source.Place.{Place}
use Rattle.il_assemble.specs.declared.source.Place.TheVariants as place
use Rattle.il_assemble.specs.declared.scope.Scope.{Scope as Kept}
use Rattle.il_assemble.specs.Meaning as resolved
use Rattle.il_assemble.specs.Code.{lines_code}
use Rattle.il_assemble.specs.StaticFault.{checked_lines}
use Rattle.il_assemble.specs.declared.fault.AsmFault.{AsmFault}
use Rattle.point_types.specs.Value.{◌>>=◌}
use Rattle.scan_code.specs.Spelling.{spelled_all}
use Rattle.il_assemble.specs.Names.{Scope}
use Rattle.il_assemble.specs.Typing.{type_after_line}
use Rattle.il_assemble.specs.Limit.{most_code}
use Rattle.il_assemble.specs.Elaboration.{Part, behind, measured, reached, resolved_action, resolved_lines, turns_of}

abbrev pub meant_source : Source → resolved.Source
meant_source (source.Variable i) = resolved.Variable i
meant_source (source.Input i) = resolved.Input i
meant_source (source.Presence i) = resolved.Presence i
meant_source (source.Constant kind n) = resolved.Constant (record { kind = kind; number = n })

abbrev pub meant_place : Place → resolved.Place
meant_place (place.Variable i) = resolved.InVariable i
meant_place (place.Output i) = resolved.InOutput i

abbrev pub seen : Kept → Scope
seen s = record { variables = s.variables.now; externals = s.externals.now; uses = s.uses.now; statements = s.statements.now }

-- what is answered where so many bytes of code end in this line: that they pass the limit, or nothing
abbrev pub within : ℕ → ℕ → Result (Unit {0}) ℕ
within a line = if nat_le a most_code then Ok tt else Err line

-- parts that are written up to the first that passes the limit, from an address up to one
abbrev pub Reaches : ℕ → List Part → Result (Unit {0}) ℕ → ℕ → Type 0
Reaches a parts (Ok u) b = reached a parts ≡ Ok b
Reaches a parts (Err passing) b = reached a parts ≡ Err passing

-- where each line begins; 0 where that isn't known yet
abbrev pub address_in : List ℕ → ℕ → ℕ
address_in addresses place = unwrap_or (slice_get addresses place) 0

-- where each line's code begins, from an address on
abbrev pub addresses_of : Scope → ℕ → ℕ → Option IlType → List Statement → List ℕ
addresses_of g a counter running [] = []
addresses_of g a counter running (s ∷ ss) =
    a ∷ addresses_of g (behind a (option_map (resolved_action g counter running ss) s.action)) (counter + length (turns_of s.action)) (type_after_line g running ss s.action) ss

-- the code of all lines, each jump with the address of its target
abbrev pub written_code : Scope → List ℕ
written_code g = spelled_all (lines_code (address_in (addresses_of g 0 0 None g.statements)) (resolved_lines g 0 0 None g.statements))

-- whether the lines have a static fault, or code that is too long
abbrev pub passed : Scope → ℕ → Result (Unit {0}) AsmFault
passed g end_line = checked_lines g 0 None g.statements >>= λ _. measured g end_line 0 0 None g.statements
