-- What the assembler answers: the image of a program that elaborates, or the program's first static fault.
-- IEC 61131-3 edition 2, 3.2 instruction list.
use Rattle.std.specs.Prelude.{◌≡◌, ◌≢◌, ℕ, ◌<◌, ◌⊎◌, true, Ok, Err, Option, map, length, List, [], ◌∷◌, ◌++◌}
use Rattle.scan_code.specs.Image.{Image, IsProper, are_new}
use Rattle.scan_code.specs.Table.{start_of}
use Rattle.scan_code.specs.declared.op.Op.{Op}
use Rattle.point_types.specs.declared.il_type.IlType.{IlType}
use Rattle.point_types.specs.declared.variable.Var.{Var}
use Rattle.il_reader.specs.declared.tree.Program.{Program as Tree}
use Rattle.il_reader.specs.declared.tree.Variable.{Variable}
use Rattle.il_reader.specs.declared.tree.External.{External}
use Rattle.il_assemble.specs.declared.fault.AsmFault.{AsmFault}
use Rattle.il_assemble.specs.declared.fault.AsmFaultKind.TheVariants as kind
use Rattle.il_assemble.specs.Meaning.{Program}
use Rattle.il_assemble.specs.Code.{image_of, simple_code}
use Rattle.il_assemble.specs.Correct.{AreVariables, IsWell, DoesWhatItMeans}
use Rattle.il_assemble.specs.Elaboration.{Part, elaborated, named_apart, names_seen, parts_of, resolved_simple, scope_of}
use Rattle.il_assemble.specs.Names.{Scope}
use Rattle.il_assemble.specs.Written.{Written}
use Rattle.il_assemble.specs.Word.{out_of_memory}

-- no static fault holds: the image is that of the resolved program's code, and the machine on it does what the program means
pub record IsAssembled (tree : Tree) (image : Image) : Type 0 where
  pub program : Program
  pub resolved : elaborated tree ≡ Ok program
  pub coded : image ≡ image_of program
  pub right : DoesWhatItMeans program image
  pub short : length image.code < 65536

-- the code of parts, one after the other
abbrev pub code_of : List Part → List Op
code_of [] = []
code_of (p ∷ ps) = p.code ++ code_of ps

-- the parts of an instruction, by which the line is told whose code passes the limit, make up its code
abbrev pub PartsAreTheCode : Type 0
PartsAreTheCode =
    (g : Scope) (line : ℕ) (running : Option IlType) (loaded : IlType) (w : Written) → code_of (parts_of g line running loaded w) ≡ simple_code (resolved_simple g running loaded w)

abbrev pub WhatElaboratesIsWell : Type 0
WhatElaboratesIsWell = (tree : Tree) (program : Program) → elaborated tree ≡ Ok program → IsWell program

-- the image of what elaborates keeps the rules of images
abbrev pub ImagesAreProper : Type 0
ImagesAreProper = (tree : Tree) (program : Program) → elaborated tree ≡ Ok program → IsProper (image_of program)

abbrev pub declared_name : Variable → List ℕ
declared_name v = v.var.name

abbrev pub external_name : External → List ℕ
external_name e = e.name

-- where no name is declared twice, none stands in the image twice
abbrev pub NamesStayDifferent : Type 0
NamesStayDifferent =
    (tree : Tree) → are_new [] (map declared_name tree.variables ++ map external_name tree.externals) ≡ true
    → named_apart tree.variables tree.externals (names_seen (scope_of tree)) ≡ Ok tt

-- want of memory is no fault of a program
abbrev pub StaticFaultsWantNoMemory : Type 0
StaticFaultsWantNoMemory = (tree : Tree) (fault : AsmFault) → elaborated tree ≡ Err fault → fault.kind ≢ kind.OutOfMemory

-- the first static fault holds, or memory was refused
abbrev pub IsRefused : Tree → AsmFault → Type 0
IsRefused tree fault = (elaborated tree ≡ Err fault) ⊎ (fault ≡ out_of_memory)

-- each declared variable's start value lies in its range
abbrev pub StartsAreInRange : Type 0
StartsAreInRange = (variables : List Var) → AreVariables variables (map start_of variables)
