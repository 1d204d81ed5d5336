-- A number that isn't a literal of the type that it takes where it stands.
use Rattle.std.specs.Prelude.{◌≡◌, false}
use Rattle.il_assemble.specs.Typing.{is_literal_of}
use Rattle.il_assemble.specs.declared.misfit.Literal.{Literal}

-- it isn't a number of its type, or the type is BOOL
abbrev pub IsMisfit : Literal → Type 0
IsMisfit literal = is_literal_of literal.kind literal.number ≡ false
