-- The text in which the program that was accepted last is kept. No standard says what it holds; it is this project's.
use Rattle.std.specs.Prelude.{◌≡◌, ℕ, List, ◌++◌, codes}
use Rattle.service_texts.specs.Starting.{digits}

-- sunsite program 1 HASH
abbrev pub first_line : (program : List ℕ) → List ℕ
first_line program = codes "sunsite program 1 " ++ digits program

-- that line, then the program as it is
abbrev pub kept_program : (program : List ℕ) → List ℕ
kept_program program = first_line program ++ codes "\n" ++ program

-- a text keeps this program, and no other
pub record KeepsAlone (text program : List ℕ) : Type 0 where
  pub kept : text ≡ kept_program program
  pub alone : (other : List ℕ) → text ≡ kept_program other → other ≡ program

-- a text keeps no program
abbrev pub KeepsNone : (text : List ℕ) → Type 0
KeepsNone text = (program : List ℕ) → text ≡ kept_program program → ⊥

-- the path of that text's file, beside the file of set values
abbrev pub program_path : (state : List ℕ) → List ℕ
program_path state = state ++ codes ".program"
