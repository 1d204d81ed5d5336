-- Worked bytes of images, computed by the checker.
-- IEC 61131-3 edition 2, 3.2 leaves the form of compiled code open; images are this project's.
use Rattle.std.specs.Prelude.{◌≡◌, ℕ, List, [], ◌∷◌, ◌++◌, take, Ok, Err}
use Rattle.scan_code.specs.declared.image_fault.ImageFault.TheVariants as fault
use Rattle.scan_code.specs.Image.{Image}
use Rattle.scan_code.specs.ImageReading.{image_in}
use Rattle.scan_code.specs.ImageSpelling.{mark, spelled_image}

-- the code of END alone
abbrev pub ending : Image
ending = record { version = 1; vars = []; tags = []; code = 0 ∷ [] }

abbrev pub ending_bytes : List ℕ
ending_bytes = mark ++ (1 ∷ 0 ∷ 0 ∷ 0 ∷ 0 ∷ 0 ∷ 1 ∷ 0 ∷ [])

pub record ImagesWork : Type 0 where
  pub spelled : spelled_image ending ≡ ending_bytes
  pub read : image_in ending_bytes ≡ Ok ending
  pub cut : image_in (take 11 ending_bytes) ≡ Err fault.Cut
  pub rest : image_in (ending_bytes ++ 0 ∷ []) ≡ Err fault.Rest
  pub mark_cut : image_in (73 ∷ 76 ∷ []) ≡ Err fault.Cut
  pub no_mark : image_in (73 ∷ 77 ∷ []) ≡ Err fault.Mark
  pub no_version : image_in (mark ++ 3 ∷ []) ≡ Err fault.Version
  pub too_many : image_in (mark ++ (1 ∷ 4 ∷ 1 ∷ [])) ≡ Err fault.Field
  pub upper_case : image_in (mark ++ (1 ∷ 0 ∷ 0 ∷ 0 ∷ 1 ∷ 0 ∷ 1 ∷ 1 ∷ 88 ∷ [])) ≡ Err fault.Field
