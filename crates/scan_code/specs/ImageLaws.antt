-- What holds of the bytes of images.
-- IEC 61131-3 edition 2, 3.2 leaves the form of compiled code open; images are this project's.
use Rattle.std.specs.Prelude.{◌≡◌, ℕ, ◌<◌, List, [], ◌∷◌, ◌++◌, Ok, Err}
use Rattle.scan_code.specs.declared.image_fault.ImageFault.TheVariants as fault
use Rattle.scan_code.specs.Image.{Image, IsProper}
use Rattle.scan_code.specs.ImageSpelling.{spelled_image}
use Rattle.scan_code.specs.ImageReading.{image_in}

abbrev pub AreBytes : List ℕ → Type 0
AreBytes [] = Unit {0}
AreBytes (b ∷ bs) = (b < 256) × AreBytes bs

-- an image is read back from its bytes
abbrev pub ImagesReadBack : Type 0
ImagesReadBack = (image : Image) → IsProper image → image_in (spelled_image image) ≡ Ok image

-- only the bytes of an image are read as that image
abbrev pub ImagesHaveOneSpelling : Type 0
ImagesHaveOneSpelling = (bytes : List ℕ) (image : Image) → AreBytes bytes → image_in bytes ≡ Ok image → bytes ≡ spelled_image image

-- an image's bytes that end too soon are Cut
abbrev pub PrefixesAreCut : Type 0
PrefixesAreCut = (image : Image) (before after : List ℕ) (b : ℕ) → IsProper image → before ++ b ∷ after ≡ spelled_image image → image_in before ≡ Err fault.Cut

-- bytes after an image are Rest
abbrev pub MoreIsRest : Type 0
MoreIsRest = (image : Image) (after : List ℕ) (b : ℕ) → IsProper image → image_in (spelled_image image ++ b ∷ after) ≡ Err fault.Rest
