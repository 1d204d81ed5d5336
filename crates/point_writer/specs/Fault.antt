-- The words by which it is printed why a tag isn't written, and the causes that a number has no words.
-- No standard says what is printed; these words are this project's.
use Rattle.std.specs.Prelude.{ℕ, List, codes}
use Rattle.point_types.specs.declared.encoding.Unencodable.{Unencodable}
use Rattle.point_types.specs.declared.encoding.Unencodable.TheVariants as unencodable
use Rattle.point_writer.specs.declared.write.NoWrite.{NoWrite}
use Rattle.point_writer.specs.declared.write.NoWrite.TheVariants as refusal

abbrev pub no_write_word : NoWrite → List ℕ
no_write_word refusal.NotSet = codes "NotSet"
no_write_word refusal.NoBlock = codes "NoBlock"
no_write_word refusal.BadScale = codes "BadScale"
no_write_word refusal.Inexact = codes "Inexact"
no_write_word refusal.OutOfType = codes "OutOfType"
no_write_word refusal.With = codes "With"

abbrev pub no_write_of : Unencodable → NoWrite
no_write_of unencodable.BadScale = refusal.BadScale
no_write_of unencodable.Inexact = refusal.Inexact
no_write_of unencodable.OutOfType = refusal.OutOfType
